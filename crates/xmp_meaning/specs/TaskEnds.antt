-- The end of tasks, from the ends of each (XcalableMP 1.4, task and tasks constructs; who tells it, and what is
-- printed, are this project's).
use Rattle.std.specs.Prelude.{ℕ, if◌then◌else◌, List, [], ◌∷◌, ◌++◌, map, Option, Some, None}
use Rattle.xmp_map.specs.declared.grid.NodeSet.{NodeSet}
use Rattle.xmp_map.specs.RowMajor.{row_major}
use Rattle.xmp_prog.specs.declared.parts.ProgParts.{ProgParts}
use Rattle.xmp_prog.specs.NodeSets.{has_node}
use Rattle.xmp_meaning.specs.declared.ends.End.{End}
use Rattle.xmp_meaning.specs.declared.ends.Flow.{Flow}
use Rattle.xmp_meaning.specs.Runs.{Step, RunIn, end_of, state_of}
use Rattle.xmp_meaning.specs.Blocks.{block}
use Rattle.xmp_meaning.specs.Handlers.{TaskIn, TaskRun}
use Rattle.xmp_meaning.specs.Parts.{only}
use Rattle.xmp_meaning.specs.Exchanges.{TaskEnd}

-- the least node of a set, which tells the others how its task ended
abbrev pub leader : ProgParts → NodeSet → ℕ
leader p set = row_major p.grid.sizes set.first

-- a node runs the tasks of which it is a member, and nothing of the others
abbrev pub own_tasks : {S : Type 0} → ProgParts → ℕ → List (TaskIn S) → RunIn S Flow
own_tasks p node all = block (map (λ t. only (λ s. has_node p.grid t.nodes node) t.run) all)

-- the end of a task as a run of this node ended, where it is a member
abbrev pub own_end : {X : Type 0} → ProgParts → ℕ → Step X Flow → TaskRun X → TaskEnd
own_end p node step t =
    if has_node p.grid t.nodes node then record { nodes = t.nodes; ended = end_of step; text = (state_of step).out }
    else record { nodes = t.nodes; ended = None; text = [] }

abbrev pub or_later : Option End → Option End → Option End
or_later None later = later
or_later (Some e) later = Some e

-- the end of the first task in the text that ended early
abbrev pub first_end : List TaskEnd → Option End
first_end [] = None
first_end (x ∷ xs) = or_later x.ended (first_end xs)

abbrev pub up_to_end : Option End → List ℕ → List ℕ → List ℕ
up_to_end None text later = text ++ later
up_to_end (Some e) text later = text

-- the texts of the tasks up to that one
abbrev pub texts : List TaskEnd → List ℕ
texts [] = []
texts (x ∷ xs) = up_to_end x.ended x.text (texts xs)
