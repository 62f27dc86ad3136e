-- What directives do, and what reading and writing an element of an array does: an argument of the meaning of
-- statements.
use Rattle.std.specs.Prelude.{ℕ, ℤ, List, [], map}
use Rattle.xmp_base.specs.declared.place.Place.{Place}
use Rattle.xmp_map.specs.declared.grid.NodeSet.{NodeSet}
use Rattle.xmp_prog.specs.declared.statements.Name.{Name}
use Rattle.xmp_prog.specs.declared.statements.LoopDirective.{LoopDirective}
use Rattle.xmp_prog.specs.declared.statements.MoveSide.{MoveSide}
use Rattle.xmp_meaning.specs.declared.ends.Flow.{Flow}
use Rattle.xmp_meaning.specs.declared.ends.Flow.TheVariants.{Next}
use Rattle.xmp_meaning.specs.Runs.{State, RunIn, Run, ◌>>=◌, pure, cell, set_cell}
use Rattle.xmp_meaning.specs.Blocks.{each, block}

-- A task: its nodes, what its statement does, and the place of its word.
pub record TaskIn (S : Type 0) : Type 0 where
  pub nodes : NodeSet
  pub run : RunIn S Flow
  pub at : Place

abbrev pub TaskRun : Type 0 → Type 0
TaskRun X = TaskIn (State X)

abbrev pub task_run : {S : Type 0} → TaskIn S → RunIn S Flow
task_run t = t.run

-- What a gmove moves: the cells of the target by their row-major numbers, and for each of them a cell of the source.
pub record Aim : Type 0 where
  pub targets : List ℕ
  pub sources : List ℕ

-- A handler for each directive. That of `loop` has the directive, the nest round a body, and the body. That of
-- `gmove` has its two sides, what is meant, how a cell of the source is read, and how values are written to cells of
-- the target. Those of `get` and `put` have an array and the number of a cell in its row.
pub record Handlers (X : Type 0) : Type 0 where
  pub get : ℕ → ℤ → Run X ℤ
  pub put : ℕ → ℤ → ℤ → Run X (Unit {0})
  pub loop : LoopDirective → (Run X Flow → Run X Flow) → Run X Flow → Run X Flow
  pub reflect : List Name → Run X Flow
  pub barrier : Run X Flow
  pub bcast : List Name → NodeSet → Run X Flow
  pub gmove : MoveSide → MoveSide → Run X Aim → (ℕ → Run X ℤ) → (List ℕ → List ℤ → Run X Flow)
      → Run X Flow
  pub tasks : List (TaskRun X) → Run X Flow
  pub sync : Run X Flow

-- Directives mean nothing: the statement of a loop or a task runs as it stands, and so does the assignment under
-- `gmove`.
abbrev pub erased : {X : Type 0} → Handlers X
erased = record {
  get = cell;
  put = set_cell;
  loop = λ directive around body. around body;
  reflect = λ arrays. pure Next;
  barrier = pure Next;
  bcast = λ variables from. pure Next;
  gmove = λ target source aim read write. aim >>= (λ a. each (map read a.sources) [] >>= write a.targets);
  tasks = λ all. block (map task_run all);
  sync = pure Next;
}
