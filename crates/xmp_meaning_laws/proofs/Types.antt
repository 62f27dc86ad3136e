-- Values lie in their types.
use Rattle.std.proofs.Common.{◌≡◌, ◌<◌, ◌≤◌, ◌++◌, ◌==◌, ℕ, zero, suc, ℤ, pos, Bool, true, false, true≢false, List, [], ◌∷◌, length, Option, Some, None, refl, sym, subst, if◌then◌else◌, arith}
use Rattle.std.specs.Prelude.{slice_get, slice_set, unwrap_or}
use Rattle.std.specs.List.{AllByRecursion, flat_map}
use Rattle.std.proofs.lemmas.Bool.{eqb-true}
use Rattle.xmp_map.proofs.Counted.{and_left, and_right}
use Rattle.xmp_map.proofs.GridLaws.{grid_small}
use Rattle.xmp_num.specs.declared.types.Ty.{Ty}
use Rattle.xmp_num.specs.declared.types.Ty.TheVariants.{Int, Long}
use Rattle.xmp_num.specs.Arithmetic.{FitsType, wrap}
use Rattle.xmp_prog.specs.declared.parts.ProgParts.{ProgParts}
use Rattle.xmp_prog.specs.declared.parts.Function.{Function}
use Rattle.xmp_prog.specs.declared.expressions.Expr.{Expr}
use Rattle.xmp_prog.specs.declared.statements.LoopHead.{LoopHead}
use Rattle.xmp_prog.specs.declared.statements.Stmt.{Stmt}
use Rattle.xmp_prog.specs.declared.statements.Stmt.TheOpen.{Stmt-F}
use Rattle.xmp_prog.specs.Terms.{Term, type_of, terms_of, call_type}
use Rattle.xmp_prog.specs.Tests.{constant_fits, operands_fit, choice_fits, counted_fits}
use Rattle.xmp_prog.specs.Counted.{is_int_scalar, is_counted, is_nest}
use Rattle.xmp_prog.specs.Directives.{nest_counted}
use Rattle.xmp_prog.specs.Statements.{Statement, statements_of, terms_of_stmt, indices_of}
use Rattle.xmp_prog.specs.Fits.{node_count, PartsFit, terms_of_program, statements_of_program}
use Rattle.xmp_meaning.specs.declared.ends.Flow.{Flow}
use Rattle.xmp_meaning.specs.Runs.{State, Step, Gave, Ended, Run, and_then, ◌>>=◌, pure, state_of}
use Rattle.xmp_meaning.specs.Cells.{write_in}
use Rattle.xmp_meaning.specs.Declarations.{scalar_type, array_type}
use Rattle.xmp_meaning.specs.Context.{Context}
use Rattle.xmp_meaning.specs.Handlers.{erased}
use Rattle.xmp_meaning.specs.Expressions.{after_call, expr_of}
use Rattle.xmp_meaning.specs.Statements.{stmt_of}
use Rattle.xmp_meaning.specs.Calls.{frame, bind, returned, invoke_some, context, call_of, main_context}
use Rattle.xmp_meaning.specs.Layouts.{Whole, row_length}
use Rattle.xmp_meaning.specs.Programs.{starts, program, beginning}
use Rattle.xmp_meaning_laws.specs.Laws.{ValuesLie, TermsFit, TypesFit, GivesA, ExpressionsLie, StatementsLie, ProgramsLie}
use Rattle.xmp_meaning_laws.proofs.Conditions.{Conditions, TermsMeet, KeepsWhere, HandlersKeep, twice, Anything, indices_beside, all_apart, all_together}
use Rattle.xmp_meaning_laws.proofs.Named.{named, all_of_test, all_of_each, statements_meet, terms_meet}
use Rattle.xmp_meaning_laws.proofs.Idle.{Free}
use Rattle.xmp_meaning_laws.proofs.Values.{zero_fits, one_fits, small_fits, wrap_fits, same_types, operator_fits, constant_lies, set_has, write_has, zero_read, zero_rows}
use Rattle.xmp_meaning_laws.proofs.Watched.{Watch, IsWatch, Watched, Watches, watches}
use Rattle.xmp_meaning_laws.proofs.WhereErased.{CellsKeep, erased_keep}
use Rattle.xmp_meaning_laws.proofs.WhereExpressions.{kept_expr}
use Rattle.xmp_meaning_laws.proofs.WhereStatements.{kept_then, kept_starts, kept_stmt}

-- ---- what is asked of a text

abbrev pub TermFits : Term → Type 0
TermFits t = (constant_fits t ≡ true) × (operands_fit t ≡ true) × (choice_fits t ≡ true)

abbrev pub IsInt : ProgParts → ℕ → Type 0
IsInt p slot = scalar_type p slot ≡ Int

abbrev pub typed_conditions : ProgParts → Conditions
typed_conditions p = named Free Free (IsInt p) TermFits Free

pub terms_fit : (p : ProgParts) (ts : List Term) → TermsFit ts → AllByRecursion TermFits ts
terms_fit p ts f = three ts (all_of_test constant_fits ts f.constants) (all_of_test operands_fit ts f.operands) (all_of_test choice_fits ts f.choices)
  where
    three : (ts : List Term) → AllByRecursion (λ t. constant_fits t ≡ true) ts → AllByRecursion (λ t. operands_fit t ≡ true) ts
        → AllByRecursion (λ t. choice_fits t ≡ true) ts → AllByRecursion TermFits ts
    three [] a b d = tt
    three (t ∷ ts) a b d = ((a.0, b.0, d.0), three ts a.1 b.1 d.1)

int_scalar : (o : Option Ty) → is_int_scalar o ≡ true → unwrap_or o Int ≡ Int
int_scalar None e = refl
int_scalar (Some Int) e = refl
int_scalar (Some Long) e = absurd (true≢false (sym e))

head_int : (p : ProgParts) (head : LoopHead) (writes : List ℕ) → is_counted p head writes ≡ true → IsInt p head.index.number
head_int p head writes e = int_scalar (slice_get p.scalars head.index.number) (and_left (is_int_scalar (slice_get p.scalars head.index.number)) _ e)

pub nest_ints : (p : ProgParts) (heads : List LoopHead) (writes : List ℕ) → is_nest p heads writes ≡ true → AllByRecursion (IsInt p) (indices_of heads)
nest_ints p [] writes e = tt
nest_ints p (head ∷ heads) writes e = (
  head_int p head (indices_of heads ++ writes) (and_left (is_counted p head (indices_of heads ++ writes)) (is_nest p heads writes) e),
  nest_ints p heads writes (and_right (is_counted p head (indices_of heads ++ writes)) (is_nest p heads writes) e),
)

statement_ints : (p : ProgParts) (y : Statement) → counted_fits p y ≡ true → nest_counted p y ≡ true → AllByRecursion (IsInt p) (indices_beside y)
statement_ints p (Stmt-F.Plain q) e f = tt
statement_ints p (Stmt-F.Block all) e f = tt
statement_ints p (Stmt-F.If test a b) e f = tt
statement_ints p (Stmt-F.While test body at) e f = tt
statement_ints p (Stmt-F.Counted head writes) e f = (head_int p head writes e, tt)
statement_ints p (Stmt-F.Loop directive writes) e f = nest_ints p directive.nest writes f
statement_ints p (Stmt-F.Tasks all at) e f = tt

pub index_ints : (p : ProgParts) (ys : List Statement) → AllByRecursion (λ y. counted_fits p y ≡ true) ys → AllByRecursion (λ y. nest_counted p y ≡ true) ys
    → AllByRecursion (IsInt p) (flat_map indices_beside ys)
index_ints p [] a b = tt
index_ints p (y ∷ ys) a b = all_together (IsInt p) (indices_beside y) (flat_map indices_beside ys) (statement_ints p y a.0 b.0) (index_ints p ys a.1 b.1)

-- ---- the watch

count_small : (p : ProgParts) → node_count p ≤ 4194304
count_small p = grid_small p.grid

-- a call gives a value of its function's type
abbrev pub CallsLie : Context → Type 0
CallsLie cx = (k : ℕ) (vs : List ℤ) (steps : ℕ) → GivesA (call_type (slice_get cx.program.functions k)) (cx.call k vs steps)

module _ {X : Type 0} (cx : Context) (calls : CallsLie cx) (inside : cx.node < node_count cx.program) where
  abbrev pub typed_watch : Watch X
  typed_watch = record { holds = ValuesLie X cx.program; changes = λ s t. Unit {0}; ends = Free }

  set_lies : (s : State X) (slot : ℕ) (v : ℤ) → FitsType (scalar_type cx.program slot) v → ValuesLie X cx.program s
      → ValuesLie X cx.program (record s { scalars = slice_set s.scalars slot v })
  set_lies s slot v lies h = record {
    scalars = λ j. set_has (FitsType (scalar_type cx.program j)) (pos 0) s.scalars slot j v (λ e. subst (λ k. FitsType (scalar_type cx.program k) v) e lies) (h.scalars j);
    cells = h.cells;
  }

  write_lies : (s : State X) (row : ℕ) (at v : ℤ) → FitsType (array_type cx.program row) v → ValuesLie X cx.program s
      → ValuesLie X cx.program (record s { arrays = write_in s.arrays row at v })
  write_lies s row at v lies h = record {
    scalars = h.scalars;
    cells = λ j to. write_has (FitsType (array_type cx.program j)) s.arrays row j at to v (λ e. subst (λ k. FitsType (array_type cx.program k) v) e lies) (h.cells j to);
  }

  of_call : (ty : Ty) (s : State X) (r : Step (Unit {0}) ℤ) → GivesA ty r → ValuesLie X cx.program s → Watched typed_watch (FitsType ty) s (after_call s r)
  of_call ty s (Gave v t) lies h = (record { scalars = h.scalars; cells = h.cells }, tt, lies)
  of_call ty s (Ended e t) lies h = (record { scalars = h.scalars; cells = h.cells }, tt, tt)

  pub types_watched : IsWatch X cx (typed_conditions cx.program) FitsType typed_watch
  types_watched = record {
    same = λ s. tt;
    then = λ s t u a b. tt;
    traps = λ kind at. tt;
    scalars = λ s slot may h. h.scalars slot;
    sets_scalar = λ s slot v may lies h. (set_lies s slot v lies h, tt);
    cells = λ s row at may h. h.cells row at;
    sets_cell = λ s row at v may lies h. (write_lies s row at v lies h, tt);
    writes = λ format arguments at is s text h. (record { scalars = h.scalars; cells = h.cells }, tt);
    sets_taken = λ to at is s n h. (record { scalars = h.scalars; cells = h.cells }, tt);
    calls = λ function types at is vs s h. of_call (call_type (slice_get cx.program.functions function)) s (cx.call function vs s.steps) (calls function vs s.steps) h;
    steps = λ e writes at is. (tt, λ s n q h. (record { scalars = h.scalars; cells = h.cells }, tt));
    own_number = λ is. small_fits cx.node (omega (arith, inside, count_small cx.program));
    node_counts = λ is. small_fits (node_count cx.program) (count_small cx.program);
    constants = λ v ty is. constant_lies ty v is.0;
    operators = λ op ty a b at is x y z lx ly e. operator_fits op ty a b (and_left _ _ is.1) (and_right _ _ is.1) x y z lx ly e;
    truths = (zero_fits Int, one_fits);
    choices = λ a b d is v lies. subst (λ ty. FitsType ty v) (sym (same_types b d is.2)) lies;
    zeros = zero_fits;
    converts = wrap_fits;
    indices = λ slot is v. subst (λ ty. FitsType ty (wrap Int v)) (sym is) (wrap_fits Int v);
  }

  cells_watched : CellsKeep X X (twice cx) (typed_conditions cx.program) FitsType (Watches types_watched)
  cells_watched = record {
    gets = λ row may at s h. (h, tt, h.cells row at);
    puts = λ row may at v lies s h. (write_lies s row at v lies h, tt, tt);
  }

  pub expression_lies : (e : Expr) → TermsFit (terms_of cx.program e) → (s : State X) → ValuesLie X cx.program s
      → Watched typed_watch (FitsType (type_of cx.program e)) s (expr_of erased cx e s)
  expression_lies e f s h = kept_expr (watches types_watched) (erased_keep (watches types_watched) cells_watched) e
      (terms_meet cx.program Free Free (IsInt cx.program) TermFits Free (terms_of cx.program e) (terms_fit cx.program (terms_of cx.program e) f)
      (all_of_each Free (λ n. tt) _) (all_of_each Free (λ n. tt) _)) s h

  pub statement_lies : (s : Stmt) → TypesFit cx.program s → (t : State X) → ValuesLie X cx.program t
      → Watched typed_watch (Anything Flow) t (stmt_of erased cx s t)
  statement_lies s f t h = kept_stmt (watches types_watched) (erased_keep (watches types_watched) cells_watched) s
      (statements_meet cx.program Free Free (IsInt cx.program) TermFits Free (statements_of s) (all_of_each Free (λ y. tt) _) (all_of_each Free (λ n. tt) _)
      (all_of_each Free (λ n. tt) _)
      (index_ints cx.program (statements_of s) (all_of_test (counted_fits cx.program) (statements_of s) f.counted) (all_of_test (nest_counted cx.program) (statements_of s) f.nests))
      (terms_fit cx.program (terms_of_stmt cx.program s) f.terms)) t h

  pub value_lies : {A : Type 0} (V : A → Type 0) (s : State X) (r : Step X A) → Watched typed_watch V s r → ValuesLie X cx.program (state_of r)
  value_lies V s (Gave a t) h = h.0
  value_lies V s (Ended e t) h = h.0

  pub gives_lying : (ty : Ty) (s : State X) (r : Step X ℤ) → Watched typed_watch (FitsType ty) s r → GivesA ty r
  gives_lying ty s (Gave v t) h = h.2
  gives_lying ty s (Ended e t) h = tt

-- ---- calls

gives_last : {A : Type 0} (ty : Ty) (r : Step (Unit {0}) A) (f : A → Run (Unit {0}) ℤ) → ((a : A) (s : State (Unit {0})) → GivesA ty (f a s)) → GivesA ty (and_then r f)
gives_last ty (Gave a s) f h = h a s
gives_last ty (Ended e s) f h = tt

invoke_lies : (cx : Context) (f : Option Function) (vs : List ℤ) (s : State (Unit {0})) → GivesA (call_type f) (invoke_some cx f vs s)
invoke_lies cx None vs s = zero_fits Int
invoke_lies cx (Some f) vs s =
    gives_last f.result (bind cx.program f.parameters vs s) (λ u. stmt_of erased cx f.body >>= (λ flow. pure (wrap f.result (returned flow))))
    (λ u t. gives_last f.result (stmt_of erased cx f.body t) (λ flow. pure (wrap f.result (returned flow))) (λ flow w. wrap_fits f.result (returned flow)))

pub calls_lie : (p : ProgParts) (node : ℕ) (input : List ℕ) (n : ℕ) → CallsLie (context p node input n)
unfolding call_of
calls_lie p node input zero k vs steps = zero_fits (call_type (slice_get p.functions k))
calls_lie p node input (suc n) k vs steps = at_test (k == n) refl (calls_lie p node input n k vs steps)
  where
    at_test : (b : Bool) → (k == n) ≡ b → GivesA (call_type (slice_get p.functions k)) (call_of p node n k vs steps)
        → GivesA (call_type (slice_get p.functions k)) (if b then invoke_some (context p node [] n) (slice_get p.functions n) vs (frame p steps) else call_of p node n k vs steps)
    at_test true e rest = subst (λ j. GivesA (call_type (slice_get p.functions j)) (invoke_some (context p node [] n) (slice_get p.functions n) vs (frame p steps)))
        (sym (eqb-true k n e)) (invoke_lies (context p node [] n) (slice_get p.functions n) vs (frame p steps))
    at_test false e rest = rest

-- ---- the laws

pub expressions_lie : (X : Type 0) (p : ProgParts) (node : ℕ) (input : List ℕ) (n : ℕ) (e : Expr) → ExpressionsLie X p node input n e
expressions_lie X p node input n e inside f s h =
    let lies : _ = expression_lies (context p node input n) (calls_lie p node input n) inside e f s h in (
      gives_lying (context p node input n) (calls_lie p node input n) inside (type_of p e) s (expr_of erased (context p node input n) e s) lies,
      value_lies (context p node input n) (calls_lie p node input n) inside (FitsType (type_of p e)) s (expr_of erased (context p node input n) e s) lies,
    )

pub statements_lie : (X : Type 0) (p : ProgParts) (node : ℕ) (input : List ℕ) (n : ℕ) (s : Stmt) → StatementsLie X p node input n s
statements_lie X p node input n s inside f t h =
    value_lies (context p node input n) (calls_lie p node input n) inside (Anything Flow) t (stmt_of erased (context p node input n) s t)
    (statement_lies (context p node input n) (calls_lie p node input n) inside s f t h)

-- all terms of a program whose parts fit
pub program_fits : (p : ProgParts) → PartsFit p → TermsFit (terms_of_program p)
program_fits p f = record { constants = f.expressions.constants; operands = f.expressions.operands; choices = f.expressions.choices }

pub programs_lie : (X : Type 0) (p : ProgParts) (node : ℕ) (input : List ℕ) (steps : ℕ) → ProgramsLie X p node input steps
programs_lie X p node input steps inside f extra =
    value_lies cx calls inside (Anything Flow) start (program erased cx start)
    (kept_then k kh {p' = starts erased cx p.start} {q' = stmt_of erased cx p.body} (kept_starts k kh p.start (all_of_each Free (λ n. tt) _) (met starts_terms both.0))
    (kept_stmt k kh p.body (statements_meet p Free Free (IsInt p) TermFits Free (statements_of p.body) (all_of_each Free (λ y. tt) _) (all_of_each Free (λ n. tt) _)
    (all_of_each Free (λ n. tt) _) (index_ints p (statements_of p.body) counted nests) (all_apart TermFits function_terms (terms_of_stmt p p.body) both.1).1))
    start (record {
      scalars = λ slot. subst (FitsType (scalar_type p slot)) (sym (zero_read (length p.scalars) slot)) (zero_fits (scalar_type p slot));
      cells = λ array at. subst (FitsType (array_type p array)) (sym (zero_rows (λ a. row_length Whole p a) p.arrays array at)) (zero_fits (array_type p array));
    }))
  where
    cx : Context
    cx = main_context p node input

    calls : CallsLie cx
    calls = calls_lie p node input (length p.functions)

    start : State X
    start = beginning Whole p steps extra

    k : KeepsWhere X X (twice cx) (typed_conditions p) FitsType (Watches (types_watched cx calls inside))
    k = watches (types_watched cx calls inside)

    kh : HandlersKeep X X (twice cx) (typed_conditions p) FitsType (Watches (types_watched cx calls inside)) erased erased
    kh = erased_keep k (cells_watched cx calls inside)

    starts_terms : List Term
    starts_terms = flat_map (λ s. terms_of p s.value) p.start

    function_terms : List Term
    function_terms = flat_map (λ f. terms_of_stmt p f.body) p.functions

    both : AllByRecursion TermFits starts_terms × AllByRecursion TermFits (function_terms ++ terms_of_stmt p p.body)
    both = all_apart TermFits starts_terms (function_terms ++ terms_of_stmt p p.body) (terms_fit p (terms_of_program p) (program_fits p f))

    met : (ts : List Term) → AllByRecursion TermFits ts → TermsMeet (typed_conditions p) ts
    met ts h = terms_meet p Free Free (IsInt p) TermFits Free ts h (all_of_each Free (λ n. tt) _) (all_of_each Free (λ n. tt) _)

    function_statements : List Statement
    function_statements = flat_map (λ f. statements_of f.body) p.functions

    counted : AllByRecursion (λ y. counted_fits p y ≡ true) (statements_of p.body)
    counted = (all_apart (λ y. counted_fits p y ≡ true) function_statements (statements_of p.body) (all_of_test (counted_fits p) (statements_of_program p) f.statements.counted)).1

    nests : AllByRecursion (λ y. nest_counted p y ≡ true) (statements_of p.body)
    nests = (all_apart (λ y. nest_counted p y ≡ true) function_statements (statements_of p.body) (all_of_test (nest_counted p) (statements_of_program p) f.directives.nests)).1
