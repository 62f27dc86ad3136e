-- Relations between runs that every part of the meaning keeps. They ask nothing of what is read, and hold at every place of a text: so they show
-- neither that a run depends on what it names alone, nor what holds at some places and not at others.
use Rattle.std.proofs.Common.{◌≡◌, ℕ, zero, suc, ℤ, Bool, true, false, if◌then◌else◌, List, [], ◌∷◌, ◌++◌, map, Result, Ok, Err}
use Rattle.xmp_base.specs.declared.place.Place.{Place}
use Rattle.xmp_num.specs.declared.types.TrapKind.{TrapKind}
use Rattle.xmp_map.specs.declared.grid.NodeSet.{NodeSet}
use Rattle.xmp_prog.specs.declared.statements.Name.{Name}
use Rattle.xmp_prog.specs.declared.statements.LoopDirective.{LoopDirective}
use Rattle.xmp_prog.specs.declared.statements.MoveSide.{MoveSide}
use Rattle.xmp_meaning.specs.declared.ends.Flow.{Flow}
use Rattle.xmp_meaning.specs.declared.ends.Flow.TheVariants.{Next, Returned}
use Rattle.xmp_meaning.specs.Runs.{State, RunIn, Run, ◌>>=◌, pure, trap, or_trap, scalar, set_scalar, cell, set_cell, write, taken, set_taken}
use Rattle.xmp_meaning.specs.Blocks.{each, after, then_run, block, choose, turns}
use Rattle.xmp_meaning.specs.Context.{Context}
use Rattle.xmp_meaning.specs.Handlers.{Handlers, TaskIn, TaskRun, task_run, Aim, erased}
use Rattle.xmp_meaning.specs.Expressions.{call}
use Rattle.xmp_meaning.specs.Loops.{while_loop}

-- A relation between runs of two kinds that holds of what reads alike, of what writes scalars in S and cells of arrays in T alike, and that
-- is kept by going on and by loops. Calls are those of one context.
pub record Keeps (X Y : Type 0) (cx : Context) (S T : ℕ → Type 0) (R : (A : Type 0) → Run X A → Run Y A → Type 0) : Type 1 where
  pub gives : {A : Type 0} (a : A) → R A (pure a) (pure a)
  pub traps : {A : Type 0} (kind : TrapKind) (at : Place) → R A (trap kind at) (trap kind at)
  pub goes_on : {A B : Type 0} {p : Run X A} {q : Run Y A} {f : A → Run X B} {g : A → Run Y B}
      → R A p q → ((a : A) → R B (f a) (g a)) → R B (p >>= f) (q >>= g)
  pub scalars : (slot : ℕ) → R ℤ (scalar slot) (scalar slot)
  pub sets_scalar : (slot : ℕ) → S slot → (v : ℤ) → R (Unit {0}) (set_scalar slot v) (set_scalar slot v)
  pub cells : (row : ℕ) (at : ℤ) → R ℤ (cell row at) (cell row at)
  pub sets_cell : (row : ℕ) → T row → (at v : ℤ) → R (Unit {0}) (set_cell row at v) (set_cell row at v)
  pub writes : (text : List ℕ) → R (Unit {0}) (write text) (write text)
  pub inputs : R ℕ taken taken
  pub sets_taken : (n : ℕ) → R (Unit {0}) (set_taken n) (set_taken n)
  pub calls : (function : ℕ) (vs : List ℤ) → R ℤ (call cx function vs) (call cx function vs)
  pub loops : {test : Run X Bool} {test' : Run Y Bool} {body : Run X Flow} {body' : Run Y Flow}
      → R Bool test test' → R Flow body body' → R Flow (while_loop test body) (while_loop test' body')

-- A relation between parts of runs over states of two kinds that is kept by going on.
pub record Joins (P Q : Type 0) (R : (A : Type 0) → RunIn P A → RunIn Q A → Type 0) : Type 1 where
  pub gives : {A : Type 0} (a : A) → R A (pure a) (pure a)
  pub goes_on : {A B : Type 0} {p : RunIn P A} {q : RunIn Q A} {f : A → RunIn P B} {g : A → RunIn Q B}
      → R A p q → ((a : A) → R B (f a) (g a)) → R B (p >>= f) (q >>= g)

-- Two tasks of one place over the same nodes, whose statements are related.
pub record TasksAlike (P Q : Type 0) (R : (A : Type 0) → RunIn P A → RunIn Q A → Type 0) (t : TaskIn P) (u : TaskIn Q) : Type 0 where
  pub nodes : t.nodes ≡ u.nodes
  pub at : t.at ≡ u.at
  pub runs : R Flow t.run u.run

abbrev pub AllAlike : (P Q : Type 0) → ((A : Type 0) → RunIn P A → RunIn Q A → Type 0) → List (TaskIn P) → List (TaskIn Q) → Type 0
AllAlike P Q R [] [] = Unit {0}
AllAlike P Q R [] (u ∷ us) = ⊥
AllAlike P Q R (t ∷ ts) [] = ⊥
AllAlike P Q R (t ∷ ts) (u ∷ us) = TasksAlike P Q R t u × AllAlike P Q R ts us

module _ {P Q : Type 0} {R : (A : Type 0) → RunIn P A → RunIn Q A → Type 0} (j : Joins P Q R) where
  pub after_kept : {q : RunIn P Flow} {q' : RunIn Q Flow} (flow : Flow) → R Flow q q' → R Flow (after flow q) (after flow q')
  after_kept Next r = r
  after_kept (Returned v) r = j.gives (Returned v)

  pub then_kept : {p q : RunIn P Flow} {p' q' : RunIn Q Flow} → R Flow p p' → R Flow q q' → R Flow (then_run p q) (then_run p' q')
  then_kept r t = j.goes_on r (λ flow. after_kept flow t)

  pub choose_kept : {p p' : RunIn P Flow} {q q' : RunIn Q Flow} (b : Bool) → R Flow p q → R Flow p' q' → R Flow (choose b p p') (choose b q q')
  choose_kept true r r' = r
  choose_kept false r r' = r'

  pub turns_kept : {test : RunIn P Bool} {test' : RunIn Q Bool} {body : RunIn P Flow} {body' : RunIn Q Flow}
      → (n : ℕ) → R Bool test test' → R Flow body body' → R Flow (turns n test body) (turns n test' body')
  turns_kept zero r t = j.gives Next
  turns_kept (suc n) r t = j.goes_on r (λ more. choose_kept more (then_kept t (turns_kept n r t)) (j.gives Next))

  -- pairwise related runs, one for each of the items
  pub each_kept : {C A : Type 0} (f : C → RunIn P A) (g : C → RunIn Q A) → ((c : C) → R A (f c) (g c))
      → (cs : List C) (vs : List A) → R (List A) (each (map f cs) vs) (each (map g cs) vs)
  each_kept f g h [] vs = j.gives vs
  each_kept f g h (c ∷ cs) vs = j.goes_on (h c) (λ v. each_kept f g h cs (vs ++ v ∷ []))

  -- tasks one after the other
  pub tasks_kept : (ts : List (TaskIn P)) (us : List (TaskIn Q)) → AllAlike P Q R ts us → R Flow (block (map task_run ts)) (block (map task_run us))
  tasks_kept [] [] alike = j.gives Next
  tasks_kept [] (u ∷ us) alike = absurd alike
  tasks_kept (t ∷ ts) [] alike = absurd alike
  tasks_kept (t ∷ ts) (u ∷ us) alike = then_kept alike.0.runs (tasks_kept ts us alike.1)

-- The handlers keep it, where what they are given is related.
pub record KeepsHandlers (X Y : Type 0) (T : ℕ → Type 0) (R : (A : Type 0) → Run X A → Run Y A → Type 0) (h : Handlers X) (h' : Handlers Y) : Type 0 where
  pub get : (row : ℕ) (at : ℤ) → R ℤ (h.get row at) (h'.get row at)
  pub put : (row : ℕ) → T row → (at v : ℤ) → R (Unit {0}) (h.put row at v) (h'.put row at v)
  pub loop : (directive : LoopDirective) (around : Run X Flow → Run X Flow) (around' : Run Y Flow → Run Y Flow) (body : Run X Flow) (body' : Run Y Flow)
      → ((b : Run X Flow) (b' : Run Y Flow) → R Flow b b' → R Flow (around b) (around' b'))
      → R Flow body body' → R Flow (h.loop directive around body) (h'.loop directive around' body')
  pub reflect : (arrays : List Name) → R Flow (h.reflect arrays) (h'.reflect arrays)
  pub barrier : R Flow h.barrier h'.barrier
  pub bcast : (variables : List Name) (nodes : NodeSet) → R Flow (h.bcast variables nodes) (h'.bcast variables nodes)
  pub gmove : (target source : MoveSide) (aim : Run X Aim) (aim' : Run Y Aim) (read : ℕ → Run X ℤ) (read' : ℕ → Run Y ℤ)
      (write : List ℕ → List ℤ → Run X Flow) (write' : List ℕ → List ℤ → Run Y Flow)
      → R Aim aim aim' → ((n : ℕ) → R ℤ (read n) (read' n)) → ((ns : List ℕ) (vs : List ℤ) → R Flow (write ns vs) (write' ns vs))
      → R Flow (h.gmove target source aim read write) (h'.gmove target source aim' read' write')
  pub tasks : (ts : List (TaskRun X)) (us : List (TaskRun Y)) → AllAlike (State X) (State Y) R ts us → R Flow (h.tasks ts) (h'.tasks us)
  pub sync : R Flow h.sync h'.sync

module _ {X Y : Type 0} {cx : Context} {S T : ℕ → Type 0} {R : (A : Type 0) → Run X A → Run Y A → Type 0} (k : Keeps X Y cx S T R) where
  pub joins : Joins (State X) (State Y) R
  joins = record { gives = λ a. k.gives a; goes_on = λ r t. k.goes_on r t }

  pub keeps-or_trap : {A : Type 0} (r : Result A TrapKind) (at : Place) → R A (or_trap r at) (or_trap r at)
  keeps-or_trap (Ok a) at = k.gives a
  keeps-or_trap (Err kind) at = k.traps kind at

  pub keeps-if : {A : Type 0} {p p' : Run X A} {q q' : Run Y A} (b : Bool) → R A p q → R A p' q'
      → R A (if b then p else p') (if b then q else q')
  keeps-if true r r' = r
  keeps-if false r r' = r'

  -- with nothing at the directives
  pub erased_kept : KeepsHandlers X Y T R erased erased
  erased_kept = record {
    get = k.cells;
    put = k.sets_cell;
    loop = λ directive around around' body body' h i. h body body' i;
    reflect = λ arrays. k.gives Next;
    barrier = k.gives Next;
    bcast = λ variables nodes. k.gives Next;
    gmove = λ target source aim aim' read read' write write' h i j. k.goes_on h (λ a. k.goes_on (each_kept joins read read' i a.sources []) (j a.targets));
    tasks = tasks_kept joins;
    sync = k.gives Next;
  }
