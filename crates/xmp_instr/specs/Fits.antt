-- What holds of a node of a valid code at every step (this project).
use Rattle.std.specs.Prelude.{◌≡◌, ◌<◌, ◌≤◌, ◌+◌, ℕ, List, [], ◌∷◌, length, Option, Some, None, slice_get, slice_index}
use Rattle.std.specs.List.{AllByRecursion}
use Rattle.xmp_message.specs.declared.Message.{Message}
use Rattle.xmp_instr.specs.declared.instr.Instr.{Instr}
use Rattle.xmp_instr.specs.declared.instr.Instr.TheVariants as i
use Rattle.xmp_instr.specs.declared.meeting.Meeting.{Meeting}
use Rattle.xmp_instr.specs.declared.parts.CodeParts.{CodeParts}
use Rattle.xmp_instr.specs.Node.{Standing, Stage, Going, Meets, Over, Node}
use Rattle.xmp_instr.specs.Meetings.{words_due}
use Rattle.xmp_instr.specs.Effects.{numbers_for, meeting_fault}

-- the depth before the instruction with this number
abbrev pub depth_at : CodeParts → ℕ → ℕ
depth_at c p = slice_index c.depths p

-- the values below the open calls: for each those that it had at its `Call`
abbrev pub below_calls : CodeParts → List ℕ → ℕ
below_calls c [] = 0
below_calls c (p ∷ calls) = depth_at c p + below_calls c calls

-- an open call is at a `Call`
abbrev pub IsCall : Option Instr → Type 0
IsCall (Some (i.Call k)) = Unit {0}
IsCall _ = ⊥

abbrev pub GuardIsThere : CodeParts → Option ℕ → Type 0
GuardIsThere c None = Unit {0}
GuardIsThere c (Some g) = g < length c.guards

-- the numbers that a node took for the meeting where it stands
abbrev pub numbers_taken : Stage → ℕ
numbers_taken Going = 0
numbers_taken (Over kind at) = 0
numbers_taken (Meets m) = length m.numbers

-- the node stands at an exchange, with the numbers of its meeting, which don't trap
pub record StandsAt (c : CodeParts) (s : Node) (m : Standing) (x : Meeting) : Type 0 where
  pub place : slice_get c.instrs s.place ≡ Some (i.Exchange m.meeting)
  pub row : slice_get c.meetings m.meeting ≡ Some x
  pub numbers : length m.numbers ≡ numbers_for x
  pub faultless : meeting_fault x m.numbers ≡ None
  pub told : length m.told ≡ c.nodes
  pub heard : length m.heard ≡ c.nodes
  -- the messages that came are as long as they are due
  pub due : (k : ℕ) (message : Message) → slice_get m.heard k ≡ Some (Some message) → length message.words ≡ words_due c m k

abbrev pub StageFits : CodeParts → Node → Stage → Type 0
StageFits c s Going = Unit {0}
StageFits c s (Over kind at) = Unit {0}
StageFits c s (Meets m) = (x : Meeting) × StandsAt c s m x

-- The node fits the code.
pub record Fits (c : CodeParts) (s : Node) : Type 0 where
  -- its place is in the code
  pub place : s.place < length c.instrs
  -- the stack has as many values as the depth says, beside those below the open calls
  pub stack : length s.stack + numbers_taken s.stage ≡ depth_at c s.place + below_calls c s.frame.calls
  -- each open call is at a `Call`, and they aren't too many
  pub calls : AllByRecursion (λ p. IsCall (slice_get c.instrs p)) s.frame.calls
  pub most : length s.frame.calls ≤ c.calls
  pub guard : GuardIsThere c s.frame.guard
  pub words : length s.state.words ≡ c.words
  pub sent : length s.sent ≡ c.nodes
  pub stage : StageFits c s s.stage
