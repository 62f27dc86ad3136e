-- In the run that notes each exchange values lie in their types too, those of a part's indices among them.
use Rattle.std.proofs.Common.{◌≡◌, ◌<◌, ◌≤◌, ◌*◌, ◌++◌, ◌==◌, ℕ, ℤ, pos, Bool, true, false, List, [], ◌∷◌, length, map, sym, subst, if◌then◌else◌, arith}
use Rattle.std.specs.Prelude.{slice_get, unwrap_or, nat_le}
use Rattle.std.specs.List.{AllByRecursion, list_all, flat_map, range_with_len}
use Rattle.std.proofs.lemmas.Bool.{leb-true}
use Rattle.std.proofs.lemmas.Nat.{mul-lt}
use Rattle.xmp_map.specs.RowMajor.{product}
use Rattle.xmp_map.proofs.Counted.{and_left, and_right}
use Rattle.xmp_num.specs.declared.types.Ty.{Ty}
use Rattle.xmp_num.specs.declared.types.Ty.TheVariants.{Int}
use Rattle.xmp_num.specs.Arithmetic.{FitsType}
use Rattle.xmp_num.specs.Reduction.{unit_of}
use Rattle.xmp_num.proofs.ReductionLaws as reductions
use Rattle.xmp_prog.specs.declared.parts.ProgParts.{ProgParts}
use Rattle.xmp_prog.specs.declared.statements.Name.{Name}
use Rattle.xmp_prog.specs.declared.statements.Reduction.{Reduction}
use Rattle.xmp_prog.specs.declared.statements.LoopDirective.{LoopDirective}
use Rattle.xmp_prog.specs.declared.statements.Stmt.TheOpen.{Stmt-F}
use Rattle.xmp_prog.specs.Terms.{Term, terms_of, call_type}
use Rattle.xmp_prog.specs.Tests.{counted_fits}
use Rattle.xmp_prog.specs.Directives.{nest_counted}
use Rattle.xmp_prog.specs.Statements.{Statement, statements_of, terms_of_stmt, indices_of}
use Rattle.xmp_prog.specs.Fits.{node_count, PartsFit, terms_of_program, statements_of_program}
use Rattle.xmp_meaning.specs.declared.ends.Flow.{Flow}
use Rattle.xmp_meaning.specs.declared.ends.Flow.TheVariants.{Next}
use Rattle.xmp_meaning.specs.Cells.{row_in}
use Rattle.xmp_meaning.specs.Runs.{State, Step, Gave, Ended, Run, ◌>>=◌, pure, set_scalar, state_of}
use Rattle.xmp_meaning.specs.Blocks.{each, after, then_run, choose, block}
use Rattle.xmp_meaning.specs.Declarations.{scalar_type, array_type}
use Rattle.xmp_meaning.specs.Context.{Context}
use Rattle.xmp_meaning.specs.Handlers.{Aim, task_run}
use Rattle.xmp_meaning.specs.Expressions.{after_call}
use Rattle.xmp_meaning.specs.Statements.{stmt_of}
use Rattle.xmp_meaning.specs.Calls.{main_context}
use Rattle.xmp_meaning.specs.Layouts.{Whole, row_length}
use Rattle.xmp_meaning.specs.Programs.{starts, program, beginning}
use Rattle.xmp_meaning.specs.Parts.{owns_iteration, only, begin, part_of}
use Rattle.xmp_meaning.specs.Exchanges.{Exchange, AtBarrier, Broadcast, Reflected, Moved, LoopEnd, TasksEnd, Notes, no_notes, note, note_turn, note_arrays, values_of, part_end, part_ends, task_end, traced}
use Rattle.xmp_meaning.specs.Traffic.{traffic}
use Rattle.xmp_meaning.proofs.TrapsRead.{ends_are_read}
use Rattle.xmp_meaning_laws.specs.Laws.{ValuesLie, GivesA}
use Rattle.xmp_meaning_laws.specs.Noted.{OfParts, IndicesLie, TrapIsRead, AllNotesLie}
use Rattle.xmp_meaning_laws.proofs.Conditions.{Conditions, TermsMeet, KeepsWhere, HandlersKeep, twice, Anything, all_apart, all_together}
use Rattle.xmp_meaning_laws.proofs.Named.{named, all_of_test, all_of_each, all_mapped, statements_meet, terms_meet}
use Rattle.xmp_meaning_laws.proofs.Idle.{Free}
use Rattle.xmp_meaning_laws.proofs.Values.{zero_fits, zero_read, zero_rows}
use Rattle.xmp_meaning_laws.proofs.Watched.{Watch, IsWatch, Watched, Watches, watches}
use Rattle.xmp_meaning_laws.proofs.WhereErased.{each_read, after_kept, tasks_kept}
use Rattle.xmp_meaning_laws.proofs.WhereStatements.{kept_then, kept_starts, kept_stmt}
use Rattle.xmp_meaning_laws.proofs.Types.{TermFits, IsInt, typed_conditions, terms_fit, index_ints, nest_ints, CallsLie, typed_watch, types_watched, calls_lie, program_fits}

-- ---- what is asked of a text: besides types, that the nests of loop directives have indices of int

abbrev IntNest : ProgParts → Statement → Type 0
IntNest p (Stmt-F.Loop directive writes) = AllByRecursion (IsInt p) (indices_of directive.nest)
IntNest p _ = Unit {0}

abbrev noted_conditions : ProgParts → Conditions
noted_conditions p = named Free Free (IsInt p) TermFits (IntNest p)

int_nest : (p : ProgParts) (y : Statement) → nest_counted p y ≡ true → IntNest p y
int_nest p (Stmt-F.Plain q) e = tt
int_nest p (Stmt-F.Block all) e = tt
int_nest p (Stmt-F.If test a b) e = tt
int_nest p (Stmt-F.While test body at) e = tt
int_nest p (Stmt-F.Counted head writes) e = tt
int_nest p (Stmt-F.Loop directive writes) e = nest_ints p directive.nest writes e
int_nest p (Stmt-F.Tasks all at) e = tt

all_behind : {A : Type 0} (P : A → Type 0) (xs : List A) (x : A) → AllByRecursion P xs → P x → AllByRecursion P (xs ++ x ∷ [])
all_behind P xs x h i = all_together P xs (x ∷ []) h (i, tt)

all_from : {A B : Type 0} (P : B → Type 0) (f : A → B) (xs : List A) → ((x : A) → P (f x)) → AllByRecursion P (map f xs)
all_from P f [] h = tt
all_from P f (x ∷ xs) h = (h x, all_from P f xs h)

-- ---- the watch

module _ (cx : Context) (calls : CallsLie cx) (inside : cx.node < node_count cx.program) where
  -- values lie in their types, and what is noted is as said
  pub record Lying (s : State Notes) : Type 0 where
    pub values : ValuesLie Notes cx.program s
    pub noted : AllByRecursion (OfParts IndicesLie) s.extra.exchanges

  abbrev noted_watch : Watch Notes
  noted_watch = record { holds = Lying; changes = λ s t. Unit {0}; ends = Free }

  abbrev types : IsWatch Notes cx (typed_conditions cx.program) FitsType (typed_watch cx calls inside)
  types = types_watched cx calls inside

  of_call : (ty : Ty) (s : State Notes) (r : Step (Unit {0}) ℤ) → GivesA ty r → Lying s → Watched noted_watch (FitsType ty) s (after_call s r)
  of_call ty s (Gave v t) lies h = (record { values = record { scalars = h.values.scalars; cells = h.values.cells }; noted = h.noted }, tt, lies)
  of_call ty s (Ended e t) lies h = (record { values = record { scalars = h.values.scalars; cells = h.values.cells }; noted = h.noted }, tt, tt)

  noted_watched : IsWatch Notes cx (noted_conditions cx.program) FitsType noted_watch
  noted_watched = record {
    same = λ s. tt;
    then = λ s t u a b. tt;
    traps = λ kind at. tt;
    scalars = λ s slot may h. h.values.scalars slot;
    sets_scalar = λ s slot v may lies h. (record { values = (types.sets_scalar s slot v may lies h.values).0; noted = h.noted }, tt);
    cells = λ s row at may h. h.values.cells row at;
    sets_cell = λ s row at v may lies h. (record { values = (types.sets_cell s row at v may lies h.values).0; noted = h.noted }, tt);
    writes = λ format arguments at is s text h. (record { values = (types.writes format arguments at tt s text h.values).0; noted = h.noted }, tt);
    sets_taken = λ to at is s n h. (record { values = (types.sets_taken to at tt s n h.values).0; noted = h.noted }, tt);
    calls = λ function types at is vs s h. of_call (call_type (slice_get cx.program.functions function)) s (cx.call function vs s.steps) (calls function vs s.steps) h;
    steps = λ e writes at is. (tt, λ s n q h. (record { values = ((types.steps e writes at tt).1 s n q h.values).0; noted = h.noted }, tt));
    own_number = types.own_number;
    node_counts = types.node_counts;
    constants = types.constants;
    operators = types.operators;
    truths = types.truths;
    choices = types.choices;
    zeros = types.zeros;
    converts = types.converts;
    indices = types.indices;
  }

  abbrev R : (A : Type 0) → (A → Type 0) → Run Notes A → Run Notes A → Type 0
  R = Watches noted_watched

  abbrev k : KeepsWhere Notes Notes (twice cx) (noted_conditions cx.program) FitsType R
  k = watches noted_watched

  abbrev Flows : Run Notes Flow → Type 0
  Flows p = R Flow (Anything Flow) p p

  on : {A B : Type 0} (V : A → Type 0) (W : B → Type 0) (p : Run Notes A) (f : A → Run Notes B) → R A V p p → ((a : A) → V a → R B W (f a) (f a)) → R B W (p >>= f) (p >>= f)
  on V W p f h i = k.goes_on {V = V} {W = W} {p = p} {q = p} {f = f} {g = f} h i

  noted_more : (x : Exchange) (s : State Notes) → OfParts IndicesLie x → Lying s → Watched noted_watch (Anything Flow) s (note x s)
  noted_more x s is h = (record { values = record { scalars = h.values.scalars; cells = h.values.cells }; noted = all_behind (OfParts IndicesLie) s.extra.exchanges x h.noted is }, tt, tt)

  holds_of : {A : Type 0} (V : A → Type 0) (s : State Notes) (r : Step Notes A) → Watched noted_watch V s r → Lying (state_of r)
  holds_of V s (Gave a t) h = h.0
  holds_of V s (Ended e t) h = h.0

  -- a part
  begun : (node : ℕ) (rs : List Reduction) → R (Unit {0}) (Anything (Unit {0})) (begin cx.program node rs) (begin cx.program node rs)
  begun node [] s h = (h, tt, tt)
  begun node (r ∷ rs) s h = at_test (node == 0) (begun node rs) s h
    where
      at_test : (b : Bool) → R (Unit {0}) (Anything (Unit {0})) (begin cx.program node rs) (begin cx.program node rs)
          → R (Unit {0}) (Anything (Unit {0}))
          ((if b then pure tt else set_scalar r.variable.number (unit_of r.op (scalar_type cx.program r.variable.number))) >>= (λ u. begin cx.program node rs))
          ((if b then pure tt else set_scalar r.variable.number (unit_of r.op (scalar_type cx.program r.variable.number))) >>= (λ u. begin cx.program node rs))
      at_test true rest = rest
      at_test false rest = on (Anything (Unit {0})) (Anything (Unit {0})) (set_scalar r.variable.number (unit_of r.op (scalar_type cx.program r.variable.number))) (λ u. begin cx.program node rs) (k.sets_scalar r.variable.number tt (unit_of r.op (scalar_type cx.program r.variable.number)) (reductions.holds r.op (scalar_type cx.program r.variable.number)).unit_in) (λ u v. rest)

  only_kept : (test : State Notes → Bool) (body : Run Notes Flow) → Flows body → Flows (only test body)
  only_kept test body h s lies = at_test (test s)
    where
      at_test : (b : Bool) → Watched noted_watch (Anything Flow) s (choose b body (pure Next) s)
      at_test true = h s lies
      at_test false = (lies, tt, tt)

  abbrev Keeps : (Run Notes Flow → Run Notes Flow) → Type 0
  Keeps around = (b b' : Run Notes Flow) → R Flow (Anything Flow) b b' → R Flow (Anything Flow) (around b) (around b')

  part_lies : (directive : LoopDirective) (node : ℕ) (around : Run Notes Flow → Run Notes Flow) (body : Run Notes Flow) → Keeps around → Flows body
      → Flows (part_of cx.program directive node around body)
  part_lies directive node around body h i =
      on (Anything (Unit {0})) (Anything Flow) (begin cx.program node directive.reductions) (λ u. around (only (owns_iteration cx.program directive node) body)) (begun node directive.reductions) (λ u v. h (only (owns_iteration cx.program directive node) body) (only (owns_iteration cx.program directive node) body)
      (only_kept (owns_iteration cx.program directive node) body i))

  values_int : (s : State Notes) → ValuesLie Notes cx.program s → (slots : List ℕ) → AllByRecursion (IsInt cx.program) slots → AllByRecursion (FitsType Int) (values_of s slots)
  values_int s h [] is = tt
  values_int s h (slot ∷ slots) is = (subst (λ ty. FitsType ty (unwrap_or (slice_get s.scalars slot) (pos 0))) is.0 (h.scalars slot), values_int s h slots is.1)

  ends_lie : (directive : LoopDirective) → AllByRecursion (IsInt cx.program) (indices_of directive.nest) → (around : Run Notes Flow → Run Notes Flow) (body : Run Notes Flow)
      → Keeps around → Flows body → (s : State Notes) → Lying s → AllByRecursion IndicesLie (part_ends cx.program directive around body s)
  ends_lie directive is around body h i s lies = all_from IndicesLie (λ node. part_end directive (part_of cx.program directive node around body s)) (range_with_len 0 (node_count cx.program))
      (λ node. values_int (state_of (part_of cx.program directive node around body s))
      (holds_of (Anything Flow) s (part_of cx.program directive node around body s) (part_lies directive node around body h i s lies)).values (indices_of directive.nest) is)

  turn_noted : (directive : LoopDirective) → Flows (note_turn cx.program directive)
  turn_noted directive s h = (record { values = record { scalars = h.values.scalars; cells = h.values.cells }; noted = h.noted }, tt, tt)

  joined : (p q : Run Notes Flow) → Flows p → Flows q → Flows (then_run p q)
  joined p q h i = on (Anything Flow) (Anything Flow) p (λ flow. after flow q) h (λ flow u. after_kept k flow {q = q} {q' = q} i)

  arrays_noted : (arrays : List Name) → Flows (note_arrays arrays)
  arrays_noted [] s h = (h, tt, tt)
  arrays_noted (a ∷ all) s h = joined (λ s. note (Reflected a.number (row_in s.arrays a.number)) s) (note_arrays all)
      (λ s h. noted_more (Reflected a.number (row_in s.arrays a.number)) s tt h) (arrays_noted all) s h

  traced_keep : HandlersKeep Notes Notes (twice cx) (noted_conditions cx.program) FitsType R (traced cx.program) (traced cx.program)
  traced_keep = record {
    get = λ row may at s h. (h, tt, h.values.cells row at);
    put = λ row may at v lies s h. (record { values = (types.sets_cell s row at v may lies h.values).0; noted = h.noted }, tt, tt);
    loop = λ directive writes is around around' body body' h i.
        joined (λ s. note (LoopEnd directive (part_ends cx.program directive around body s)) s) (around (then_run (note_turn cx.program directive) body))
        (λ s lies. noted_more (LoopEnd directive (part_ends cx.program directive around body s)) s (ends_lie directive is around body h i s lies) lies)
        (h (then_run (note_turn cx.program directive) body) (then_run (note_turn cx.program directive) body)
        (joined (note_turn cx.program directive) body (turn_noted directive) i));
    reflect = λ arrays at is. arrays_noted arrays;
    barrier = λ at is s h. noted_more AtBarrier s tt h;
    bcast = λ variables nodes at is s h. noted_more (Broadcast variables nodes (values_of s (map (λ v. v.number) variables))) s tt h;
    gmove = λ target source at is aim aim' read read' write write' h i j.
        on (Anything Aim) (Anything Flow) aim (λ a. each (map read a.sources) [] >>= (λ vs. then_run (note (Moved target source a vs)) (write a.targets vs))) h (λ a u.
        on (Anything (List ℤ)) (Anything Flow) (each (map read a.sources) []) (λ vs. then_run (note (Moved target source a vs)) (write a.targets vs)) (each_read k read read' i a.sources []) (λ vs w.
        joined (note (Moved target source a vs)) (write a.targets vs) (λ s lies. noted_more (Moved target source a vs) s tt lies) (j a.targets vs)));
    tasks = λ sets at is ts us alike.
        joined (λ s. note (TasksEnd (map (task_end s) ts)) s) (block (map task_run ts)) (λ s lies. noted_more (TasksEnd (map (task_end s) ts)) s tt lies) (tasks_kept k ts us alike);
    sync = λ status at is s h. (h, tt, tt);
  }

  pub program_noted : PartsFit cx.program → (start : State Notes) → Lying start → Lying (state_of (program (traced cx.program) cx start))
  program_noted f start h =
      holds_of (Anything Flow) start (program (traced cx.program) cx start)
      (kept_then k traced_keep {p' = starts (traced cx.program) cx cx.program.start} {q' = stmt_of (traced cx.program) cx cx.program.body}
      (kept_starts k traced_keep cx.program.start (all_of_each Free (λ n. tt) _) (met starts_terms both.0))
      (kept_stmt k traced_keep cx.program.body (statements_meet cx.program Free Free (IsInt cx.program) TermFits (IntNest cx.program) (statements_of cx.program.body)
      (all_mapped (λ y. nest_counted cx.program y ≡ true) (IntNest cx.program) (int_nest cx.program) (statements_of cx.program.body) nests) (all_of_each Free (λ n. tt) _)
      (all_of_each Free (λ n. tt) _) (index_ints cx.program (statements_of cx.program.body) counted nests) (all_apart TermFits function_terms (terms_of_stmt cx.program cx.program.body) both.1).1))
      start h)
    where
      starts_terms : List Term
      starts_terms = flat_map (λ s. terms_of cx.program s.value) cx.program.start

      function_terms : List Term
      function_terms = flat_map (λ f. terms_of_stmt cx.program f.body) cx.program.functions

      both : AllByRecursion TermFits starts_terms × AllByRecursion TermFits (function_terms ++ terms_of_stmt cx.program cx.program.body)
      both = all_apart TermFits starts_terms (function_terms ++ terms_of_stmt cx.program cx.program.body) (terms_fit cx.program (terms_of_program cx.program) (program_fits cx.program f))

      met : (ts : List Term) → AllByRecursion TermFits ts → TermsMeet (noted_conditions cx.program) ts
      met ts h = terms_meet cx.program Free Free (IsInt cx.program) TermFits (IntNest cx.program) ts h (all_of_each Free (λ n. tt) _) (all_of_each Free (λ n. tt) _)

      function_statements : List Statement
      function_statements = flat_map (λ f. statements_of f.body) cx.program.functions

      counted : AllByRecursion (λ y. counted_fits cx.program y ≡ true) (statements_of cx.program.body)
      counted = (all_apart (λ y. counted_fits cx.program y ≡ true) function_statements (statements_of cx.program.body) (all_of_test (counted_fits cx.program) (statements_of_program cx.program) f.statements.counted)).1

      nests : AllByRecursion (λ y. nest_counted cx.program y ≡ true) (statements_of cx.program.body)
      nests = (all_apart (λ y. nest_counted cx.program y ≡ true) function_statements (statements_of cx.program.body) (all_of_test (nest_counted cx.program) (statements_of_program cx.program) f.directives.nests)).1

-- ---- a program

some_nodes : (sizes : List ℕ) → list_all (λ s. nat_le 1 s) sizes ≡ true → 1 ≤ product sizes
unfolding product
some_nodes [] e = omega arith
some_nodes (n ∷ sizes) e =
    let rest : 1 ≤ product sizes = some_nodes sizes (and_right (nat_le 1 n) (list_all (λ s. nat_le 1 s) sizes) e) in
    let here : 1 ≤ n = leb-true 1 n (and_left (nat_le 1 n) (list_all (λ s. nat_le 1 s) sizes) e) in
    product_some n (product sizes) here rest
  where
    product_some : (a b : ℕ) → 1 ≤ a → 1 ≤ b → 1 ≤ a * b
    product_some a b h i = mul-lt 0 0 a b h i

traps_read : (x : Exchange) → OfParts IndicesLie x → OfParts TrapIsRead x
traps_read AtBarrier h = tt
traps_read (Broadcast variables set values) h = tt
traps_read (Reflected array cells) h = tt
traps_read (Moved target source aim values) h = tt
traps_read (LoopEnd directive ends) h = all_mapped IndicesLie TrapIsRead (λ e i. (ends_are_read e).trap i) ends h
traps_read (TasksEnd ends) h = tt

pub all_notes_lie : (p : ProgParts) (input : List ℕ) (steps : ℕ) → AllNotesLie p input steps
all_notes_lie p input steps f =
    let lying : _ = program_noted (main_context p 0 input) (calls_lie p 0 input (length p.functions))
    (some_nodes p.grid.sizes (and_left (list_all (λ s. nat_le 1 s) p.grid.sizes) (nat_le (product p.grid.sizes) 16) p.grid.valid)) f
    (beginning Whole p steps (no_notes p)) (record {
      values = record {
        scalars = λ slot. subst (FitsType (scalar_type p slot)) (sym (zero_read (length p.scalars) slot)) (zero_fits (scalar_type p slot));
        cells = λ array at. subst (FitsType (array_type p array)) (sym (zero_rows (λ a. row_length Whole p a) p.arrays array at)) (zero_fits (array_type p array));
      };
      noted = tt;
    }) in
    record {
      indices = lying.noted;
      traps = all_mapped (OfParts IndicesLie) (OfParts TrapIsRead) traps_read (traffic p input steps) lying.noted;
      values = lying.values;
    }
