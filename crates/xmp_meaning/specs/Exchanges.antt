-- The exchanges of a run: what the nodes say to each other at its directives (this project).
use Rattle.std.specs.Prelude.{ℕ, suc, if◌then◌else◌, Bool, List, [], ◌∷◌, ◌++◌, map, replicate, ℤ, pos, Option, unwrap_or, slice_get}
use Rattle.std.specs.List.{range_with_len}
use Rattle.xmp_map.specs.declared.grid.NodeSet.{NodeSet}
use Rattle.xmp_prog.specs.declared.parts.ProgParts.{ProgParts}
use Rattle.xmp_prog.specs.declared.statements.Name.{Name}
use Rattle.xmp_prog.specs.declared.statements.LoopDirective.{LoopDirective}
use Rattle.xmp_prog.specs.declared.statements.MoveSide.{MoveSide}
use Rattle.xmp_prog.specs.Fits.{node_count}
use Rattle.xmp_prog.specs.Statements.{indices_of}
use Rattle.xmp_meaning.specs.declared.ends.End.{End}
use Rattle.xmp_meaning.specs.declared.ends.Flow.{Flow}
use Rattle.xmp_meaning.specs.declared.ends.Flow.TheVariants.{Next}
use Rattle.xmp_meaning.specs.Runs.{State, Step, Gave, Run, ◌>>=◌, pure, end_of, state_of}
use Rattle.xmp_meaning.specs.Cells.{row_in}
use Rattle.xmp_meaning.specs.Blocks.{each, then_run, block}
use Rattle.xmp_meaning.specs.Handlers.{Handlers, TaskRun, task_run, Aim, erased}
use Rattle.xmp_meaning.specs.Parts.{owns_iteration, part_of}

-- How a node's part of a loop directive ends: why it ended early, where it did, the indices of the nest at its end,
-- and the values of the reduction variables.
pub record PartEnd : Type 0 where
  pub ended : Option End
  pub indices : List ℤ
  pub values : List ℤ

-- How a task ends: its nodes, why it ended early, where it did, and what it printed.
pub record TaskEnd : Type 0 where
  pub nodes : NodeSet
  pub ended : Option End
  pub text : List ℕ

-- What is said at an exchange: nothing at a barrier, the values of the variables from a node, the cells of an array,
-- the sides of a gmove with the cells that are meant and a value for each of the target's, the ends of the parts of a
-- loop directive by node, the ends of the tasks in order.
pub data Exchange : Type 0 where
  AtBarrier : Exchange
  Broadcast : (variables : List Name) → NodeSet → (values : List ℤ) → Exchange
  Reflected : (array : ℕ) → (cells : List ℤ) → Exchange
  Moved : (target source : MoveSide) → Aim → (values : List ℤ) → Exchange
  LoopEnd : LoopDirective → List PartEnd → Exchange
  TasksEnd : List TaskEnd → Exchange

-- the values of scalars
abbrev pub values_of : {X : Type 0} → State X → List ℕ → List ℤ
values_of s slots = map (λ slot. unwrap_or (slice_get s.scalars slot) (pos 0)) slots

-- ---- ends of parts and tasks

-- how a part ended
abbrev pub part_end : {X : Type 0} → LoopDirective → Step X Flow → PartEnd
part_end directive step = record {
  ended = end_of step;
  indices = values_of (state_of step) (indices_of directive.nest);
  values = values_of (state_of step) (map (λ r. r.variable.number) directive.reductions);
}

-- with nothing printed so far
abbrev pub unprinted : {X : Type 0} → State X → State X
unprinted s = record s { out = [] }

-- how a task ends from this state with nothing printed
abbrev pub task_end : {X : Type 0} → State X → TaskRun X → TaskEnd
task_end s t =
    let step = t.run (unprinted s) in record { nodes = t.nodes; ended = end_of step; text = (state_of step).out }

-- the ends of the parts of all nodes, each from this state
abbrev pub part_ends : {X : Type 0}
    → ProgParts → LoopDirective → (Run X Flow → Run X Flow) → Run X Flow → State X → List PartEnd
part_ends p directive around body s =
    map (λ node. part_end directive (part_of p directive node around body s)) (range_with_len 0 (node_count p))

-- ---- the run that notes each exchange: the serial run, with what is said, in the order in which it comes to it

-- the exchanges so far, and for each node how many turns of loop directives it owns
pub record Notes : Type 0 where
  pub exchanges : List Exchange
  pub turns : List ℕ

-- nothing is noted
abbrev pub no_notes : ProgParts → Notes
no_notes p = record { exchanges = []; turns = replicate (node_count p) 0 }

-- one exchange more
abbrev pub note : Exchange → Run Notes Flow
note x = λ s. Gave Next (record s { extra = record s.extra { exchanges = s.extra.exchanges ++ x ∷ [] } })

-- one more for each node that passes a test, the first of which is `node`
abbrev pub raised : (ℕ → Bool) → (node : ℕ) → List ℕ → List ℕ
raised test node [] = []
raised test node (n ∷ ns) = (if test node then suc n else n) ∷ raised test (suc node) ns

-- one turn more for the nodes that own the point of this iteration
abbrev pub note_turn : ProgParts → LoopDirective → Run Notes Flow
note_turn p directive = λ s.
    let turns = raised (λ node. owns_iteration p directive node s) 0 s.extra.turns in
    Gave Next (record s { extra = record s.extra { turns = turns } })

-- one exchange for each array, in order
abbrev pub note_arrays : List Name → Run Notes Flow
note_arrays [] = pure Next
note_arrays (a ∷ all) = then_run (λ s. note (Reflected a.number (row_in s.arrays a.number)) s) (note_arrays all)

-- the handlers that note what is said, and then do what the serial run does
abbrev pub traced : ProgParts → Handlers Notes
traced p = record erased {
  loop = λ directive around body. then_run
      (λ s. note (LoopEnd directive (part_ends p directive around body s)) s)
      (around (then_run (note_turn p directive) body));
  reflect = note_arrays;
  barrier = note AtBarrier;
  bcast = λ variables from s. note (Broadcast variables from (values_of s (map (λ v. v.number) variables))) s;
  gmove = λ target source aim read write.
      aim >>= (λ a. each (map read a.sources) []
      >>= (λ vs. then_run (note (Moved target source a vs)) (write a.targets vs)));
  tasks = λ all. then_run (λ s. note (TasksEnd (map (task_end s) all)) s) (block (map task_run all));
}
