-- Where directives mean nothing the relation is kept, if it is kept by reading and writing cells.
use Rattle.std.proofs.Common.{◌++◌, ℕ, ℤ, List, [], ◌∷◌, map}
use Rattle.xmp_num.specs.declared.types.Ty.{Ty}
use Rattle.xmp_meaning.specs.declared.ends.Flow.{Flow}
use Rattle.xmp_meaning.specs.declared.ends.Flow.TheVariants.{Next, Returned}
use Rattle.xmp_meaning.specs.Runs.{State, Run, cell, set_cell}
use Rattle.xmp_meaning.specs.Declarations.{array_type}
use Rattle.xmp_meaning.specs.Blocks.{each, after, block}
use Rattle.xmp_meaning.specs.Handlers.{TaskRun, task_run, erased}
use Rattle.xmp_meaning.proofs.Keeps.{AllAlike}
use Rattle.xmp_meaning_laws.proofs.Conditions.{Conditions, Two, Anything, Relation, KeepsWhere, HandlersKeep}

-- the relation is kept by reading and writing cells
pub record CellsKeep (X Y : Type 0) (t : Two) (c : Conditions) (Lies : Ty → ℤ → Type 0) (R : Relation X Y) : Type 0 where
  pub gets : (row : ℕ) → c.gets row → (at : ℤ) → R ℤ (Lies (array_type t.program row)) (cell row at) (cell row at)
  pub puts : (row : ℕ) → c.puts row → (at v : ℤ) → Lies (array_type t.program row) v
      → R (Unit {0}) (Anything (Unit {0})) (set_cell row at v) (set_cell row at v)

module _ {X Y : Type 0} {t : Two} {c : Conditions} {Lies : Ty → ℤ → Type 0} {R : Relation X Y} (k : KeepsWhere X Y t c Lies R) where
  pub each_read : (read : ℕ → Run X ℤ) (read' : ℕ → Run Y ℤ) → ((n : ℕ) → R ℤ (Anything ℤ) (read n) (read' n)) → (ns : List ℕ) (vs : List ℤ)
      → R (List ℤ) (Anything (List ℤ)) (each (map read ns) vs) (each (map read' ns) vs)
  each_read read read' h [] vs = k.gives vs tt
  each_read read read' h (n ∷ ns) vs = k.goes_on (h n) (λ v u. each_read read read' h ns (vs ++ v ∷ []))

  pub after_kept : (flow : Flow) {q : Run X Flow} {q' : Run Y Flow} → R Flow (Anything Flow) q q' → R Flow (Anything Flow) (after flow q) (after flow q')
  after_kept Next r = r
  after_kept (Returned v) r = k.gives (Returned v) tt

  pub tasks_kept : (ts : List (TaskRun X)) (us : List (TaskRun Y)) → AllAlike (State X) (State Y) (λ A p q. R A (Anything A) p q) ts us
      → R Flow (Anything Flow) (block (map task_run ts)) (block (map task_run us))
  tasks_kept [] [] alike = k.gives Next tt
  tasks_kept [] (u ∷ us) alike = absurd alike
  tasks_kept (s ∷ ts) [] alike = absurd alike
  tasks_kept (s ∷ ts) (u ∷ us) alike = k.goes_on alike.0.runs (λ flow v. after_kept flow (tasks_kept ts us alike.1))

  pub erased_keep : CellsKeep X Y t c Lies R → HandlersKeep X Y t c Lies R erased erased
  erased_keep cells = record {
    get = cells.gets;
    put = cells.puts;
    loop = λ directive writes is around around' body body' h i. h body body' i;
    reflect = λ arrays at is. k.gives Next tt;
    barrier = λ at is. k.gives Next tt;
    bcast = λ variables nodes at is. k.gives Next tt;
    gmove = λ target source at is aim aim' read read' write write' h i j.
        k.goes_on h (λ a u. k.goes_on (each_read read read' i a.sources []) (λ vs w. j a.targets vs));
    tasks = λ sets at is. tasks_kept;
    sync = λ status at is. k.gives Next tt;
  }
