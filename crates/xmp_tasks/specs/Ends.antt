-- The ends of tasks, from what each node made of its own.
use Rattle.std.specs.Prelude.{ℕ, Bool, true, false, List, [], ◌∷◌, ◌++◌, map, slice_get, Option, Some, None}
use Rattle.xmp_prog.specs.declared.parts.ProgParts.{ProgParts}
use Rattle.xmp_prog.specs.declared.statements.Task.{Task}
use Rattle.xmp_prog.specs.NodeSets.{has_node}
use Rattle.xmp_meaning.specs.declared.ends.End.{End}
use Rattle.xmp_meaning.specs.Runs.{State}
use Rattle.xmp_meaning.specs.Exchanges.{TaskEnd}
use Rattle.xmp_meaning.specs.TaskEnds.{leader}
use Rattle.xmp_tasks.specs.declared.own.Own.{Own}

abbrev pub where_so : {A : Type 0} → Bool → Option A → Option A
where_so true a = a
where_so false a = None

-- what the least node of a task's set made of its tasks, where it is a member
abbrev pub led_by : ProgParts → List Own → Task → Option Own
led_by p owns t = where_so (has_node p.grid t.nodes (leader p t.nodes)) (slice_get owns (leader p t.nodes))

abbrev pub ended_in : Option Own → Option End
ended_in None = None
ended_in (Some own) = own.ended

abbrev pub text_in : Option Own → List ℕ
text_in None = []
text_in (Some own) = own.text

abbrev pub end_by : ProgParts → List Own → Task → TaskEnd
end_by p owns t = record { nodes = t.nodes; ended = ended_in (led_by p owns t); text = text_in (led_by p owns t) }

abbrev pub ends_by : ProgParts → List Own → List Task → List TaskEnd
ends_by p owns ts = map (end_by p owns) ts

-- a text behind the output of the first of all states
abbrev pub with_text : (text : List ℕ) → List (State (Unit {0})) → List (State (Unit {0}))
with_text text [] = []
with_text text (s ∷ ss) = record s { out = s.out ++ text } ∷ ss
