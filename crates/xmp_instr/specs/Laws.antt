-- What holds of every valid code (this project).
use Rattle.std.specs.Prelude.{◌≡◌, ◌↔◌, ◌⊎◌, ◌≤◌, ◌^◌, ℕ, List, [], ◌∷◌, length, map, ℤ, int_le, true, false, Option, Some, None, slice_get}
use Rattle.std.specs.Option.{option_map}
use Rattle.xmp_meaning.specs.Expressions.{within}
use Rattle.xmp_map.specs.declared.array_map.ArrayMap.{ArrayMap}
use Rattle.xmp_message.specs.declared.Message.{Message}
use Rattle.xmp_steps.specs.Machine.{Next, Goes, Stops, Stuck}
use Rattle.xmp_steps.specs.Machine as machine
use Rattle.xmp_instr.specs.declared.instr.Instr.{Instr}
use Rattle.xmp_instr.specs.declared.instr.Instr.TheVariants as i
use Rattle.xmp_instr.specs.declared.stop.Stop.{Stop}
use Rattle.xmp_instr.specs.declared.parts.CodeParts.{CodeParts}
use Rattle.xmp_instr.specs.Node.{Stage, Going, Meets, Over, Node, beginning}
use Rattle.xmp_instr.specs.Meetings.{words_due}
use Rattle.xmp_instr.specs.Tables.{extent_of}
use Rattle.xmp_instr.specs.Effects.{next}
use Rattle.xmp_instr.specs.Resumed.{resumed}
use Rattle.xmp_instr.specs.Serving.{AtMeeting, answered, heard, muted, passed, told}
use Rattle.xmp_instr.specs.Valid.{IsValid}
use Rattle.xmp_instr.specs.Fits.{Fits}

-- ---- nodes fit their code

-- the node before its first instruction
abbrev pub BeginningFits : Type 0
BeginningFits = (c : CodeParts) → IsValid c → Fits c (beginning c)

-- the node after each step
abbrev pub StepsFit : Type 0
StepsFit = (c : CodeParts) (input : List ℕ) (s t : Node) → IsValid c → Fits c s → next c input s ≡ Goes t → Fits c t

-- the node after its message went out, and after one came in that is as long as it is due
abbrev pub ToldFit : Type 0
ToldFit = (c : CodeParts) (s : Node) (to : ℕ) (message : Message) → Fits c s → Fits c (told s to message)

abbrev pub HeardFit : Type 0
HeardFit = (c : CodeParts) (s : Node) (from : ℕ) (message : Message) → Fits c s
    → AtMeeting s.stage (λ m. length message.words ≡ words_due c m from) → Fits c (heard s from message)

-- the node at a `Get` after it got its shared word, and at a `Put` or a `Sync` after that was done
abbrev pub AnsweredFit : Type 0
AnsweredFit = (c : CodeParts) (s : Node) (v : ℤ) → IsValid c → Fits c s
    → s.stage ≡ Going → slice_get c.instrs s.place ≡ Some i.Get → Fits c (answered s v)

abbrev pub PassedFit : Type 0
PassedFit = (c : CodeParts) (s : Node) → IsValid c → Fits c s → s.stage ≡ Going
    → (slice_get c.instrs s.place ≡ Some i.Put) ⊎ (slice_get c.instrs s.place ≡ Some i.Sync) → Fits c (passed c s)

-- the node that goes on from a meeting
abbrev pub ResumedFit : Type 0
ResumedFit = (c : CodeParts) (s u : Node) → IsValid c → Fits c s → resumed c s ≡ Some u → Fits c u

-- the node whose text is dropped from now on
abbrev pub MutedFit : Type 0
MutedFit = (c : CodeParts) (s : Node) → Fits c s → Fits c (muted s)

-- ---- where there is no next state

-- the values on top are such
abbrev pub TopIs : (ℤ → Type 0) → List ℤ → Type 0
TopIs P [] = ⊥
TopIs P (x ∷ rest) = P x

abbrev pub SecondIs : (ℤ → Type 0) → List ℤ → Type 0
SecondIs P [] = ⊥
SecondIs P (y ∷ rest) = TopIs P rest

-- an end lies before the position
abbrev pub EndsBefore : List ℤ → Type 0
EndsBefore [] = ⊥
EndsBefore (end ∷ rest) = TopIs (λ g. int_le g end ≡ false) rest

abbrev pub OutsideMap : Option ArrayMap → ℕ → List ℤ → Type 0
OutsideMap None d stack = ⊥
OutsideMap (Some m) d stack = TopIs (λ x. within x (extent_of m d) ≡ None) stack

-- There is no next state: a return finds no open call, or a call finds the most calls open; a slot, a shared word, a notice, a subscript
-- or an end is out of range.
abbrev pub HasNoNext : CodeParts → Instr → Node → Type 0
HasNoNext c i.Return s = s.frame.calls ≡ []
HasNoNext c (i.Call k) s = c.calls ≤ length s.frame.calls
HasNoNext c (i.Local m d) s = OutsideMap (slice_get c.maps m) d s.stack
HasNoNext c (i.NextMine t d) s = EndsBefore s.stack
HasNoNext c (i.Scan ty) s = TopIs (λ slot. within slot c.words ≡ None) s.stack
HasNoNext c i.Get s = TopIs (λ w. within w (2 ^ 32) ≡ None) s.stack
HasNoNext c i.Put s = SecondIs (λ w. within w (2 ^ 32) ≡ None) s.stack
HasNoNext c (i.Lift at) s = TopIs (λ notice. within notice 5 ≡ None) s.stack
HasNoNext c _ s = ⊥

abbrev pub HasNoNextAt : CodeParts → Option Instr → Node → Type 0
HasNoNextAt c None s = ⊥
HasNoNextAt c (Some instr) s = HasNoNext c instr s

-- a node that fits a valid code has no next state in these cases alone
abbrev pub StuckOnly : Type 0
StuckOnly = (c : CodeParts) (input : List ℕ) (s : Node) → IsValid c → Fits c s → s.stage ≡ Going
    → (next c input s ≡ Stuck) ↔ HasNoNextAt c (slice_get c.instrs s.place) s

-- ---- a muted node

-- a node apart from what it printed, and from the texts that came
abbrev pub without_text : Message → Message
without_text m = record m { text = [] }

abbrev pub quiet_stage : Stage → Stage
quiet_stage Going = Going
quiet_stage (Over kind at) = Over kind at
quiet_stage (Meets m) = Meets (record m { text = []; heard = map (option_map without_text) m.heard })

abbrev pub quiet : Node → Node
quiet s = record s {
  frame = record s.frame { text_from = None };
  state = record s.state { out = []; muted = true };
  stage = quiet_stage s.stage;
}

abbrev pub quiet_next : Next Node Stop → Next Node Stop
quiet_next (Goes t) = Goes (quiet t)
quiet_next (Stops p) = Stops p
quiet_next Stuck = Stuck

abbrev pub quiet_found : Option (Stop × Node) → Option (Stop × Node)
quiet_found None = None
quiet_found (Some x) = Some (x.0, quiet x.1)

-- two nodes that differ in text alone, as a node and the same node muted do, take the same step to nodes that do so, or stop alike
abbrev pub StepsAlike : Type 0
StepsAlike = (c : CodeParts) (input : List ℕ) (s t : Node) → quiet s ≡ quiet t → quiet_next (next c input s) ≡ quiet_next (next c input t)

-- and come to the same stop
abbrev pub StopsAlike : Type 0
StopsAlike = (c : CodeParts) (input : List ℕ) (n : ℕ) (s t : Node) → quiet s ≡ quiet t
    → quiet_found (machine.within (next c input) n s) ≡ quiet_found (machine.within (next c input) n t)

abbrev pub MutedIsAlike : Type 0
MutedIsAlike = (s : Node) → quiet (muted s) ≡ quiet s
