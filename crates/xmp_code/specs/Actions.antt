-- What is done to a node by an action that was decided for an instruction (this project).
use Rattle.std.specs.Prelude.{◌≡◌, ◌≤◌, ◌<◌, ℕ, Bool, true, false, List, ◌∷◌, length, drop, ℤ, slice_get, Option, Some, None}
use Rattle.xmp_steps.specs.Machine.{Goes, Stops, Stuck}
use Rattle.xmp_instr.specs.declared.instr.Instr.{Instr}
use Rattle.xmp_instr.specs.declared.instr.Instr.TheVariants as i
use Rattle.xmp_instr.specs.declared.parts.CodeParts.{CodeParts}
use Rattle.xmp_instr.specs.declared.meeting.Meeting.{Meeting}
use Rattle.xmp_instr.specs.declared.meeting.Meeting.TheVariants as meeting
use Rattle.xmp_instr.specs.Data.{read_into, step_taken, turn_counted, with_word}
use Rattle.xmp_instr.specs.Node.{Node}
use Rattle.xmp_instr.specs.Depths.{format_needs, meeting_needs}
use Rattle.xmp_instr.specs.Effects.{Comes, called, effect, guarded, meets, on, printed_by, returned, stepped, to, trapped, unguarded}
use Rattle.xmp_code.specs.declared.action.Control.{Control}
use Rattle.xmp_code.specs.declared.action.Control.TheVariants as control
use Rattle.xmp_code.specs.declared.action.Action.{Action}
use Rattle.xmp_code.specs.declared.action.Action.TheVariants as action

abbrev pub controlled : Control → Node → Comes
controlled (control.Call k) s = called true k s
controlled control.Return s = returned s.frame.calls s
controlled control.Turn s = stepped (step_taken s.state.steps s.state) s
controlled control.Count s = on s s.stack (turn_counted s.state)
controlled (control.Guard g) s = guarded g s
controlled control.Unguard s = unguarded s

-- What a node comes to by an action.
abbrev pub acted : CodeParts → (input : List ℕ) → Action → Node → Comes
acted c input (action.Value n v) s = on s (v ∷ drop n s.stack) s.state
acted c input (action.Take n) s = on s (drop n s.stack) s.state
acted c input (action.Write n slot v) s = on s (drop n s.stack) (with_word slot v s.state)
acted c input (action.Go n k) s = to k s (drop n s.stack)
acted c input (action.Read ty slot) s = on s (drop 1 s.stack) (read_into ty input slot s.state)
acted c input (action.Control x) s = controlled x s
acted c input (action.Print f n) s = printed_by (slice_get c.formats f) s
acted c input (action.Meet e n) s = meets c e (slice_get c.meetings e) s
acted c input (action.Trap kind at) s = trapped c kind at s
acted c input (action.Halt p) s = Stops p
acted c input action.Stuck s = Stuck

-- the values and the slots of an action are there
abbrev pub ActionFits : CodeParts → Node → Action → Type 0
ActionFits c s (action.Value n v) = n ≤ length s.stack
ActionFits c s (action.Take n) = n ≤ length s.stack
ActionFits c s (action.Write n slot v) = (n ≤ length s.stack) × (slot < length s.state.words)
ActionFits c s (action.Go n k) = n ≤ length s.stack
ActionFits c s (action.Read ty slot) = (1 ≤ length s.stack) × (slot < length s.state.words)
ActionFits c s (action.Print f n) = n ≡ format_needs (slice_get c.formats f)
ActionFits c s (action.Meet e n) = n ≡ meeting_needs (slice_get c.meetings e)
ActionFits c s _ = Unit {0}

-- an action on values and words alone
abbrev pub is_change : Action → Bool
is_change (action.Value n v) = true
is_change (action.Take n) = true
is_change (action.Write n slot v) = true
is_change (action.Go n k) = true
is_change (action.Read ty slot) = true
is_change _ = false

-- an exchange that moves cells
abbrev pub IsMove : Option Meeting → Type 0
IsMove (Some (meeting.Move kind target_at source_at)) = Unit {0}
IsMove _ = ⊥

-- an instruction that may want memory
abbrev pub MayLackAt : CodeParts → Option Instr → Node → Type 0
MayLackAt c (Some (i.Print f)) s = s.state.muted ≡ false
MayLackAt c (Some (i.Exchange e)) s = IsMove (slice_get c.meetings e)
MayLackAt c _ s = ⊥

-- an action that may want memory
abbrev pub Wants : CodeParts → Node → Action → Type 0
Wants c s (action.Print f n) = s.state.muted ≡ false
Wants c s (action.Meet e n) = IsMove (slice_get c.meetings e)
Wants c s _ = ⊥

-- The action is that of the instruction.
pub record IsActionOf (c : CodeParts) (instr : Instr) (s : Node) (a : Action) : Type 0 where
  pub same : (input : List ℕ) → effect c input instr s ≡ acted c input a s
  pub fits : ActionFits c s a
  pub lacks : Wants c s a → MayLackAt c (Some instr) s

-- ---- groups of instructions

abbrev pub is_value : Instr → Bool
is_value (i.Push v) = true
is_value i.Drop = true
is_value i.Dup = true
is_value (i.Bound n at) = true
is_value (i.Fold n) = true
is_value (i.Bin op ty at) = true
is_value (i.Conv ty) = true
is_value i.Noted = true
is_value _ = false

abbrev pub is_word : Instr → Bool
is_word (i.Load slot) = true
is_word (i.Save slot) = true
is_word (i.LoadAt b n) = true
is_word (i.SaveAt b n) = true
is_word _ = false

abbrev pub is_point : Instr → Bool
is_point (i.Local m d) = true
is_point (i.Mine t n) = true
is_point (i.NextMine t d) = true
is_point _ = false

abbrev pub is_control : Instr → Bool
is_control (i.Jump k) = true
is_control (i.JumpZero k) = true
is_control (i.Call k) = true
is_control i.Return = true
is_control i.Turn = true
is_control i.Count = true
is_control (i.Guard g) = true
is_control i.Unguard = true
is_control _ = false

abbrev pub is_shared : Instr → Bool
is_shared i.Get = true
is_shared i.Put = true
is_shared i.Sync = true
is_shared (i.Lift at) = true
is_shared i.End = true
is_shared _ = false

abbrev pub is_told : Instr → Bool
is_told (i.Print f) = true
is_told (i.Scan ty) = true
is_told (i.Exchange e) = true
is_told _ = false
