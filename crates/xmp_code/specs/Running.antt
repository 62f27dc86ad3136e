-- What a machine is, and what its run answers (this project).
use Rattle.std.specs.Prelude.{◌≡◌, ℕ, List, slice_get, Option, Some, None, MatchOption}
use Rattle.xmp_steps.specs.Machine.{Goes, Stops}
use Rattle.xmp_instr.specs.declared.meeting.Meeting.{Meeting}
use Rattle.xmp_instr.specs.declared.meeting.Meeting.TheVariants as meeting
use Rattle.xmp_instr.specs.declared.parts.CodeParts.{CodeParts}
use Rattle.xmp_instr.specs.declared.stop.Stop.{Stop}
use Rattle.xmp_instr.specs.Node.{Stage, Going, Meets, Over, Node}
use Rattle.xmp_instr.specs.Effects.{next}
use Rattle.xmp_code.specs.Actions.{MayLackAt}
use Rattle.xmp_code.specs.declared.state.State.{State}
use Rattle.xmp_code.specs.States.{node_of}

-- a machine: its code, its input, and the node as it goes through the code
pub record Run : Type 0 where
  pub code : CodeParts
  pub input : List ℕ
  pub node : Node

-- the end of tasks
abbrev pub IsTasks : Option Meeting → Type 0
IsTasks (Some (meeting.TaskEnd sets)) = Unit {0}
IsTasks _ = ⊥

abbrev pub MayLackIn : CodeParts → Stage → Node → Type 0
MayLackIn c Going s = MayLackAt c (slice_get c.instrs s.place) s
MayLackIn c (Meets m) s = (c.node ≡ 0) × IsTasks (slice_get c.meetings m.meeting)
MayLackIn c (Over kind at) s = ⊥

-- The node stands where memory may be wanted: at a print, unless text is dropped; at an exchange that moves cells; or, node 0, at
-- the end of tasks.
abbrev pub MayLack : CodeParts → Node → Type 0
MayLack c s = MayLackIn c s.stage s

-- a state goes on by one step, or stops and stays
abbrev pub Advances : CodeParts → (input : List ℕ) → State → Option Stop → State → Type 0
Advances c input s o t = MatchOption o (next c input (node_of s) ≡ Goes (node_of t)) (λ p. (next c input (node_of s) ≡ Stops p) × (t ≡ s))
