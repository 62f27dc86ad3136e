-- Conditions on what stands in a text, and relations between runs that are kept where they are met.
use Rattle.std.proofs.Common.{◌≡◌, ◌++◌, ℕ, ℤ, pos, Bool, List, [], ◌∷◌, None, Ok}
use Rattle.std.specs.Prelude.{slice_get}
use Rattle.std.specs.List.{AllByRecursion}
use Rattle.xmp_base.specs.declared.place.Place.{Place}
use Rattle.xmp_num.specs.declared.types.TrapKind.{TrapKind}
use Rattle.xmp_num.specs.declared.types.Ty.{Ty}
use Rattle.xmp_num.specs.declared.types.Ty.TheVariants.{Int}
use Rattle.xmp_num.specs.declared.types.BinOp.{BinOp}
use Rattle.xmp_num.specs.Arithmetic.{binary_of, wrap}
use Rattle.xmp_map.specs.declared.grid.NodeSet.{NodeSet}
use Rattle.xmp_prog.specs.declared.expressions.Expr.TheOpen.{Expr-F}
use Rattle.xmp_prog.specs.declared.statements.Name.{Name}
use Rattle.xmp_prog.specs.declared.statements.LoopDirective.{LoopDirective}
use Rattle.xmp_prog.specs.declared.statements.MoveSide.{MoveSide}
use Rattle.xmp_prog.specs.declared.statements.Target.{Target}
use Rattle.xmp_prog.specs.declared.statements.Plain.TheVariants as plain
use Rattle.xmp_prog.specs.declared.statements.Stmt.TheOpen.{Stmt-F}
use Rattle.xmp_prog.specs.declared.parts.ProgParts.{ProgParts}
use Rattle.xmp_prog.specs.Fits.{node_count}
use Rattle.xmp_prog.specs.Terms.{Term, Of, Element, call_type, result_of, slots_of_term}
use Rattle.xmp_prog.specs.Statements.{Statement, terms_in, slots_beside, arrays_beside, plain_writes, indices_of}
use Rattle.xmp_meaning.specs.declared.ends.Flow.{Flow}
use Rattle.xmp_meaning.specs.Runs.{State, Step, Run, ◌>>=◌, pure, trap, scalar, set_scalar, write, taken, set_taken}
use Rattle.xmp_meaning.specs.Declarations.{scalar_type, array_type}
use Rattle.xmp_meaning.specs.Layouts.{Layout}
use Rattle.xmp_meaning.specs.Context.{Context}
use Rattle.xmp_meaning.specs.Handlers.{Handlers, TaskRun, Aim}
use Rattle.xmp_meaning.specs.Expressions.{call, image_of}
use Rattle.xmp_meaning.specs.Loops.{while_loop}
use Rattle.xmp_meaning.specs.Writes.{plain_arrays}
use Rattle.xmp_meaning.proofs.Keeps.{AllAlike}
use Rattle.xmp_meaning_laws.specs.Laws.{arrays_of_term}

-- ---- conditions

-- What is asked of the scalars that are read and set and of loops' indices, of the arrays whose cells are read and
-- written, and of each term and each statement by itself.
pub record Conditions : Type 1 where
  pub reads : ℕ → Type 0
  pub sets : ℕ → Type 0
  pub indexes : ℕ → Type 0
  pub gets : ℕ → Type 0
  pub puts : ℕ → Type 0
  pub term : Term → Type 0
  pub statement : Statement → Type 0

pub record TermMeets (c : Conditions) (t : Term) : Type 0 where
  pub itself : c.term t
  pub reads : AllByRecursion c.reads (slots_of_term t)
  pub gets : AllByRecursion c.gets (arrays_of_term t)

abbrev pub TermsMeet : Conditions → List Term → Type 0
TermsMeet c ts = AllByRecursion (TermMeets c) ts

-- the scalars that a statement sets itself, the indices among them, and the arrays that it writes
abbrev pub set_beside : Statement → List ℕ
set_beside (Stmt-F.Plain s) = plain_writes s
set_beside (Stmt-F.Block all) = []
set_beside (Stmt-F.If e a b) = []
set_beside (Stmt-F.While e body at) = []
set_beside (Stmt-F.Counted head body) = head.index.number ∷ []
set_beside (Stmt-F.Loop directive body) = indices_of directive.nest
set_beside (Stmt-F.Tasks all at) = []

abbrev pub indices_beside : Statement → List ℕ
indices_beside (Stmt-F.Plain s) = []
indices_beside (Stmt-F.Block all) = []
indices_beside (Stmt-F.If e a b) = []
indices_beside (Stmt-F.While e body at) = []
indices_beside (Stmt-F.Counted head body) = head.index.number ∷ []
indices_beside (Stmt-F.Loop directive body) = indices_of directive.nest
indices_beside (Stmt-F.Tasks all at) = []

abbrev pub puts_beside : Statement → List ℕ
puts_beside (Stmt-F.Plain s) = plain_arrays s
puts_beside (Stmt-F.Block all) = []
puts_beside (Stmt-F.If e a b) = []
puts_beside (Stmt-F.While e body at) = []
puts_beside (Stmt-F.Counted head body) = []
puts_beside (Stmt-F.Loop directive body) = []
puts_beside (Stmt-F.Tasks all at) = []

pub record StatementMeets (p : ProgParts) (c : Conditions) (s : Statement) : Type 0 where
  pub itself : c.statement s
  pub reads : AllByRecursion c.reads (slots_beside s)
  pub sets : AllByRecursion c.sets (set_beside s)
  pub indexes : AllByRecursion c.indexes (indices_beside s)
  pub gets : AllByRecursion c.gets (arrays_beside s)
  pub puts : AllByRecursion c.puts (puts_beside s)
  -- a compound assignment reads what it writes
  pub updates : AllByRecursion c.gets (puts_beside s)
  pub terms : TermsMeet c (terms_in p s)

-- ---- two contexts over one program

pub record Two : Type 0 where
  pub program : ProgParts
  pub layout : Layout
  pub input : List ℕ
  pub node : ℕ
  pub other : ℕ
  pub call : ℕ → List ℤ → ℕ → Step (Unit {0}) ℤ
  pub other_call : ℕ → List ℤ → ℕ → Step (Unit {0}) ℤ

abbrev pub one : Two → Context
one t = record { program = t.program; layout = t.layout; node = t.node; input = t.input; call = t.call }

abbrev pub another : Two → Context
another t = record { program = t.program; layout = t.layout; node = t.other; input = t.input; call = t.other_call }

-- a context beside itself
abbrev pub twice : Context → Two
twice cx = record { program = cx.program; layout = cx.layout; input = cx.input; node = cx.node; other = cx.node; call = cx.call; other_call = cx.call }

-- ---- relations

-- nothing is said of a value
abbrev pub Anything : (A : Type 0) → A → Type 0
Anything A a = Unit {0}

-- a relation between runs, with what is said of their value
abbrev pub Relation : (X Y : Type 0) → Type 1
Relation X Y = (A : Type 0) → (A → Type 0) → Run X A → Run Y A → Type 0

-- A relation between runs in two contexts, with what is said of their value, that is kept by every part of the meaning
-- where the conditions are met. `Lies` is what is said of a value of a type.
pub record KeepsWhere (X Y : Type 0) (t : Two) (c : Conditions) (Lies : Ty → ℤ → Type 0) (R : Relation X Y) : Type 1 where
  pub gives : {A : Type 0} {V : A → Type 0} (a : A) → V a → R A V (pure a) (pure a)
  pub traps : {A : Type 0} {V : A → Type 0} (kind : TrapKind) (at : Place) → R A V (trap kind at) (trap kind at)
  pub goes_on : {A B : Type 0} {V : A → Type 0} {W : B → Type 0} {p : Run X A} {q : Run Y A} {f : A → Run X B} {g : A → Run Y B}
      → R A V p q → ((a : A) → V a → R B W (f a) (g a)) → R B W (p >>= f) (q >>= g)
  pub weakens : {A : Type 0} {V W : A → Type 0} {p : Run X A} {q : Run Y A} → R A V p q → ((a : A) → V a → W a) → R A W p q
  pub scalars : (slot : ℕ) → c.reads slot → R ℤ (Lies (scalar_type t.program slot)) (scalar slot) (scalar slot)
  pub sets_scalar : (slot : ℕ) → c.sets slot → (v : ℤ) → Lies (scalar_type t.program slot) v
      → R (Unit {0}) (Anything (Unit {0})) (set_scalar slot v) (set_scalar slot v)
  pub writes : (format : List ℕ) (arguments : _) (at : Place) → c.statement (Stmt-F.Plain (plain.Print format arguments at))
      → (text : List ℕ) → R (Unit {0}) (Anything (Unit {0})) (write text) (write text)
  pub inputs : (to : Target) (at : Place) → c.statement (Stmt-F.Plain (plain.Scan to at)) → R ℕ (Anything ℕ) taken taken
  pub sets_taken : (to : Target) (at : Place) → c.statement (Stmt-F.Plain (plain.Scan to at))
      → (n : ℕ) → R (Unit {0}) (Anything (Unit {0})) (set_taken n) (set_taken n)
  pub calls : (function : ℕ) (types : List Ty) (at : Place) → c.term (Of (Expr-F.Call function types at)) → (vs : List ℤ)
      → R ℤ (Lies (call_type (slice_get t.program.functions function))) (call (one t) function vs) (call (another t) function vs)
  pub own_number : c.term (Of Expr-F.Node) → R ℤ (Lies Int) (pure (pos t.node)) (pure (pos t.other))
  pub own_image : (array : ℕ) (types : List Ty) (at : Place)
      → c.term (Element (record { array = array; subscripts = types; image = None; at = at }))
      → R ℕ (Anything ℕ) (image_of (one t) array None) (image_of (another t) array None)
  pub loops : {test : Run X Bool} {test' : Run Y Bool} {body : Run X Flow} {body' : Run Y Flow} (e : _) (writes : List ℕ) (at : Place)
      → c.statement (Stmt-F.While e writes at) → R Bool (Anything Bool) test test' → R Flow (Anything Flow) body body'
      → R Flow (Anything Flow) (while_loop test body) (while_loop test' body')
  pub constants : (v : ℤ) (ty : Ty) → c.term (Of (Expr-F.Const v ty)) → Lies ty v
  pub operators : (op : BinOp) (ty a b : Ty) (at : Place) → c.term (Of (Expr-F.Binary op ty a b at))
      → (x y z : ℤ) → Lies a x → Lies b y → binary_of op ty x y ≡ Ok z → Lies (result_of op ty) z
  pub truths : Lies Int (pos 0) × Lies Int (pos 1)
  pub choices : (a b d : Ty) → c.term (Of (Expr-F.Choose a b d)) → (v : ℤ) → Lies d v → Lies b v
  pub zeros : (ty : Ty) → Lies ty (pos 0)
  pub converts : (ty : Ty) (v : ℤ) → Lies ty (wrap ty v)
  pub node_counts : c.term (Of Expr-F.Nodes) → Lies Int (pos (node_count t.program))
  pub indices : (slot : ℕ) → c.indexes slot → (v : ℤ) → Lies (scalar_type t.program slot) (wrap Int v)

-- ---- handlers

-- The handlers keep it, where what they are given is related.
pub record HandlersKeep (X Y : Type 0) (t : Two) (c : Conditions) (Lies : Ty → ℤ → Type 0) (R : Relation X Y)
    (h : Handlers X) (h' : Handlers Y) : Type 0 where
  pub get : (row : ℕ) → c.gets row → (at : ℤ) → R ℤ (Lies (array_type t.program row)) (h.get row at) (h'.get row at)
  pub put : (row : ℕ) → c.puts row → (at v : ℤ) → Lies (array_type t.program row) v
      → R (Unit {0}) (Anything (Unit {0})) (h.put row at v) (h'.put row at v)
  pub loop : (directive : LoopDirective) (writes : List ℕ) → c.statement (Stmt-F.Loop directive writes)
      → (around : Run X Flow → Run X Flow) (around' : Run Y Flow → Run Y Flow) (body : Run X Flow) (body' : Run Y Flow)
      → ((b : Run X Flow) (b' : Run Y Flow) → R Flow (Anything Flow) b b' → R Flow (Anything Flow) (around b) (around' b'))
      → R Flow (Anything Flow) body body' → R Flow (Anything Flow) (h.loop directive around body) (h'.loop directive around' body')
  pub reflect : (arrays : List Name) (at : Place) → c.statement (Stmt-F.Plain (plain.Reflect arrays at))
      → R Flow (Anything Flow) (h.reflect arrays) (h'.reflect arrays)
  pub barrier : (at : Place) → c.statement (Stmt-F.Plain (plain.Barrier at)) → R Flow (Anything Flow) h.barrier h'.barrier
  pub bcast : (variables : List Name) (nodes : NodeSet) (at : Place) → c.statement (Stmt-F.Plain (plain.Cast variables nodes at))
      → R Flow (Anything Flow) (h.bcast variables nodes) (h'.bcast variables nodes)
  pub gmove : (target source : MoveSide) (at : Place) → c.statement (Stmt-F.Plain (plain.Gmove target source at))
      → (aim : Run X Aim) (aim' : Run Y Aim) (read : ℕ → Run X ℤ) (read' : ℕ → Run Y ℤ)
      (write : List ℕ → List ℤ → Run X Flow) (write' : List ℕ → List ℤ → Run Y Flow)
      → R Aim (Anything Aim) aim aim' → ((n : ℕ) → R ℤ (Anything ℤ) (read n) (read' n))
      → ((ns : List ℕ) (vs : List ℤ) → R Flow (Anything Flow) (write ns vs) (write' ns vs))
      → R Flow (Anything Flow) (h.gmove target source aim read write) (h'.gmove target source aim' read' write')
  pub tasks : (sets : List NodeSet) (at : Place) → c.statement (Stmt-F.Tasks sets at)
      → (ts : List (TaskRun X)) (us : List (TaskRun Y)) → AllAlike (State X) (State Y) (λ A p q. R A (Anything A) p q) ts us
      → R Flow (Anything Flow) (h.tasks ts) (h'.tasks us)
  pub sync : (status : Name) (at : Place) → c.statement (Stmt-F.Plain (plain.Sync status at)) → R Flow (Anything Flow) h.sync h'.sync

-- ---- lists of conditions

pub all_apart : {A : Type 0} (P : A → Type 0) (xs ys : List A) → AllByRecursion P (xs ++ ys) → AllByRecursion P xs × AllByRecursion P ys
all_apart P [] ys h = (tt, h)
all_apart P (x ∷ xs) ys h = let rest : _ = all_apart P xs ys h.1 in ((h.0, rest.0), rest.1)

pub all_together : {A : Type 0} (P : A → Type 0) (xs ys : List A) → AllByRecursion P xs → AllByRecursion P ys → AllByRecursion P (xs ++ ys)
all_together P [] ys h i = i
all_together P (x ∷ xs) ys h i = (h.0, all_together P xs ys h.1 i)
