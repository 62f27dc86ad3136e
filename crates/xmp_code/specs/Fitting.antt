-- States that fit their code (this project).
use Rattle.std.specs.Prelude.{◌≡◌, ◌≤◌, ◌+◌, ◌*◌, ℕ, List, ℤ, length, vec_capacity, slice_get, Option, Some, None}
use Rattle.xmp_move.specs.declared.kind.MoveKind.{MoveKind}
use Rattle.xmp_move.specs.Plans.{IsPlanOf}
use Rattle.xmp_move.specs.Stores.{packed}
use Rattle.xmp_instr.specs.declared.parts.CodeParts.{CodeParts}
use Rattle.xmp_instr.specs.declared.meeting.Meeting.{Meeting}
use Rattle.xmp_instr.specs.declared.meeting.Meeting.TheVariants as meeting
use Rattle.xmp_instr.specs.Meetings.{sent_slots}
use Rattle.xmp_instr.specs.Fits.{Fits}
use Rattle.xmp_code.specs.declared.state.Moving.{Moving}
use Rattle.xmp_code.specs.declared.state.Mode.{Mode}
use Rattle.xmp_code.specs.declared.state.Mode.TheVariants as mode
use Rattle.xmp_code.specs.declared.state.State.{State}
use Rattle.xmp_code.specs.States.{node_of}

-- a transfer that is under way: its plan, and what the node says to itself
pub record IsMovingOf (kind : MoveKind) (node : ℕ) (words : List ℤ) (m : Moving) : Type 0 where
  pub plan : IsPlanOf kind m.numbers.items node m.plan
  pub own : m.own ≡ packed words (sent_slots kind m.numbers.items node node)

abbrev pub IsMovingFor : CodeParts → Option Meeting → (words : List ℤ) → Option Moving → Type 0
IsMovingFor c (Some (meeting.Move kind target_at source_at)) words None = ⊥
IsMovingFor c (Some (meeting.Move kind target_at source_at)) words (Some m) = IsMovingOf kind c.node words m
IsMovingFor c _ words moving = Unit {0}

-- at a meeting that moves cells the transfer is under way
abbrev pub MovingFits : CodeParts → Mode → (words : List ℤ) → Option Moving → Type 0
MovingFits c (mode.Meets e mark) words moving = IsMovingFor c (slice_get c.meetings e) words moving
MovingFits c _ words moving = Unit {0}

-- The state fits the code, and has room for its values and calls, and a seat for each node.
pub record StateFits (c : CodeParts) (s : State) : Type 0 where
  pub node : Fits c (node_of s)
  pub room : (c.calls + 1) * c.depth ≤ s.stack.room
  pub calls : c.calls ≤ vec_capacity s.frame.calls
  pub told : length s.talk.told.items ≡ c.nodes
  pub heard : length s.talk.heard.items ≡ c.nodes
  pub moving : MovingFits c s.talk.mode s.data.words.items s.talk.moving

-- two states with the same room and the same transfer
pub record SameBut (s t : State) : Type 0 where
  pub stack : t.stack ≡ s.stack
  pub frame : t.frame ≡ s.frame
  pub words : t.data.words ≡ s.data.words
  pub mode : t.talk.mode ≡ s.talk.mode
  pub moving : t.talk.moving ≡ s.talk.moving
  pub told : length t.talk.told.items ≡ length s.talk.told.items
  pub heard : length t.talk.heard.items ≡ length s.talk.heard.items
