-- What each instruction does, and what a node comes to next (this project).
use Rattle.std.specs.Prelude.{ℕ, zero, suc, ◌+◌, ◌^◌, if◌then◌else◌, nat_lt, Bool, true, false, List, [], ◌∷◌, length, reverse, take, drop, replicate, ℤ, pos, ◌+ℤ◌, ◌-ℤ◌, ◌*ℤ◌, int_le, Option, Some, None, slice_get, Result, Ok, Err}
use Rattle.std.specs.Option.{option_map}
use Rattle.xmp_base.specs.declared.place.Place.{Place}
use Rattle.xmp_num.specs.declared.types.Ty.{Ty}
use Rattle.xmp_num.specs.declared.types.Ty.TheVariants.{Long}
use Rattle.xmp_num.specs.declared.types.TrapKind.{TrapKind}
use Rattle.xmp_num.specs.declared.types.TrapKind.TheVariants.{Subscript}
use Rattle.xmp_num.specs.Arithmetic.{binary_of, truth, wrap}
use Rattle.xmp_map.specs.declared.template.Template.{Template}
use Rattle.xmp_map.specs.declared.array_map.ArrayMap.{ArrayMap}
use Rattle.xmp_meaning.specs.Expressions.{is_zero, natural, within}
use Rattle.xmp_meaning.specs.Formats.{printed}
use Rattle.xmp_meaning.specs.TrapWords.{kind_number, kind_of_number}
use Rattle.xmp_move.specs.declared.kind.Fault.{Fault}
use Rattle.xmp_move.specs.Kinds.{numbers_of}
use Rattle.xmp_move.specs.Faults.{move_fault}
use Rattle.xmp_move.specs.Stores.{word_at}
use Rattle.xmp_steps.specs.Machine.{Next, Goes, Stops, Stuck}
use Rattle.xmp_instr.specs.declared.instr.Instr.{Instr}
use Rattle.xmp_instr.specs.declared.instr.Instr.TheVariants as i
use Rattle.xmp_instr.specs.declared.meeting.Meeting.{Meeting}
use Rattle.xmp_instr.specs.declared.meeting.Meeting.TheVariants as meeting
use Rattle.xmp_instr.specs.declared.parts.Guard.{Guard}
use Rattle.xmp_instr.specs.declared.parts.CodeParts.{CodeParts}
use Rattle.xmp_instr.specs.declared.stop.Stop.{Stop}
use Rattle.xmp_instr.specs.declared.stop.Stop.TheVariants as stop
use Rattle.xmp_instr.specs.Data.{Note, Data, indexed, with_word, with_indexed, with_text, read_into, step_taken, turn_counted, with_note}
use Rattle.xmp_instr.specs.Node.{Stage, Going, Meets, Over, Node}
use Rattle.xmp_instr.specs.Tables.{asked, extent_of, local_position, owns, next_owned}

-- what a node comes to
abbrev pub Comes : Type 0
Comes = Next Node Stop

-- ---- on to another instruction

-- the next one, with another stack and other data
abbrev pub on : Node → List ℤ → Data → Comes
on s stack d = Goes (record s { place = s.place + 1; stack = stack; state = d })

-- the one with this number, with another stack
abbrev pub to : ℕ → Node → List ℤ → Comes
to k s stack = Goes (record s { place = k; stack = stack })

-- ---- values of the stack

-- the top value and those below it
abbrev pub with_top : List ℤ → (ℤ → List ℤ → Comes) → Comes
with_top [] f = Stuck
with_top (x ∷ rest) f = f x rest

-- the two top values, the one that was added first first
abbrev pub with_two : List ℤ → (ℤ → ℤ → List ℤ → Comes) → Comes
with_two stack f = with_top stack (λ y below. with_top below (λ x rest. f x y rest))

-- so many values in the order in which they were added
abbrev pub with_many : ℕ → List ℤ → (List ℤ → List ℤ → Comes) → Comes
with_many n stack f = if nat_lt (length stack) n then Stuck else f (reverse (take n stack)) (drop n stack)

-- ---- traps

-- under a guard the trap is noted with its indices, the calls end, the stack is emptied, and the guard is closed
abbrev pub noted_under : Option Guard → TrapKind → Place → Node → Comes
noted_under None kind at s = Stuck
noted_under (Some g) kind at s = Goes (record s {
  place = g.target;
  stack = [];
  frame = record s.frame { calls = []; guard = None };
  state = with_note kind at g.indices s.state;
})

abbrev pub trapped_under : CodeParts → Option ℕ → TrapKind → Place → Node → Comes
trapped_under c None kind at s = Stops (stop.Trapped kind at)
trapped_under c (Some g) kind at s = noted_under (slice_get c.guards g) kind at s

-- A trap ends the run, or goes on at the target of the open guard.
abbrev pub trapped : CodeParts → TrapKind → Place → Node → Comes
trapped c kind at s = trapped_under c s.frame.guard kind at s

-- ---- arithmetic and cells

-- the value more on these, or the trap
abbrev pub or_trap : CodeParts → Result ℤ TrapKind → Place → List ℤ → Node → Comes
or_trap c (Ok v) at rest s = on s (v ∷ rest) s.state
or_trap c (Err kind) at rest s = trapped c kind at s

-- on with the stack as it is, where the index is inside; else the trap
abbrev pub or_subscript : CodeParts → Option ℕ → Place → Node → Comes
or_subscript c (Some x) at s = on s s.stack s.state
or_subscript c None at s = trapped c Subscript at s

-- ---- control

-- a call, where one more may be open
abbrev pub called : (room : Bool) → ℕ → Node → Comes
called true k s = Goes (record s { place = k; frame = record s.frame { calls = s.place ∷ s.frame.calls } })
called false k s = Stuck

-- behind the `Call` that opened the call
abbrev pub returned : List ℕ → Node → Comes
returned [] s = Stuck
returned (back ∷ calls) s = Goes (record s { place = back + 1; frame = record s.frame { calls = calls } })

-- one step less, or none is left
abbrev pub stepped : Option Data → Node → Comes
stepped None s = Stops stop.OutOfSteps
stepped (Some d) s = on s s.stack d

-- ---- maps and templates

-- the local position on these, of a subscript inside
abbrev pub located : CodeParts → ArrayMap → (dimension : ℕ) → Option ℕ → List ℤ → Node → Comes
located c m d None rest s = Stuck
located c m d (Some x) rest s = on s (local_position m c.node d x ∷ rest) s.state

abbrev pub localised : CodeParts → Option ArrayMap → (dimension : ℕ) → Node → Comes
localised c None d s = Stuck
localised c (Some m) d s = with_top s.stack (λ x rest. located c m d (within x (extent_of m d)) rest s)

-- 1 or 0, as the node owns the point or not
abbrev pub tested : CodeParts → Option Template → (count : ℕ) → Node → Comes
tested c None n s = Stuck
tested c (Some t) n s = with_many n s.stack (λ point rest. on s (truth (owns t c.node point) ∷ rest) s.state)

-- the first of the positions from `g` on and below `end` that the node owns, or `end`
abbrev pub moved_on : CodeParts → Option Template → (dimension : ℕ) → Node → Comes
moved_on c None d s = Stuck
moved_on c (Some t) d s = with_two s.stack (λ g end rest.
    if int_le g end then on s (next_owned t c.node d g (natural (end -ℤ g)) ∷ rest) s.state else Stuck)

-- ---- guards

-- the text that is printed from now on is the task's
abbrev pub guarded : ℕ → Node → Comes
guarded g s = Goes (record s {
  place = s.place + 1;
  frame = record s.frame { guard = Some g; text_from = Some (length s.state.out) };
})

abbrev pub unguarded : Node → Comes
unguarded s = Goes (record s { place = s.place + 1; frame = record s.frame { guard = None } })

-- 1 plus the kind of the trap that was noted, or 0
abbrev pub noted_value : Option Note → ℤ
noted_value None = pos 0
noted_value (Some n) = pos (1 + kind_number n.kind)

-- ---- input and output

abbrev pub printed_by : Option (List ℕ) → Node → Comes
printed_by None s = Stuck
printed_by (Some format) s = with_many (asked format) s.stack (λ vs rest. on s rest (with_text (printed format vs) s.state))

-- a number into the slot, which is below the number of words
abbrev pub read_by : Ty → (input : List ℕ) → Option ℕ → List ℤ → Node → Comes
read_by ty input None rest s = Stuck
read_by ty input (Some slot) rest s = on s rest (read_into ty input slot s.state)

-- ---- exchanges

-- how many numbers a meeting takes
abbrev pub numbers_for : Meeting → ℕ
numbers_for (meeting.Move kind target_at source_at) = numbers_of kind
numbers_for _ = 0

-- the text behind a mark, and that before it
abbrev pub text_behind : Option ℕ → List ℕ → List ℕ
text_behind None out = []
text_behind (Some n) out = drop n out

abbrev pub text_before : Option ℕ → List ℕ → List ℕ
text_before None out = out
text_before (Some n) out = take n out

-- at the end of tasks the text of the node's task leaves what is printed
abbrev pub cut_at : Meeting → Option ℕ → Option ℕ
cut_at (meeting.TaskEnd sets) from = from
cut_at _ from = None

-- the node stands at a meeting, with the numbers that it took; nothing is said yet
abbrev pub standing : CodeParts → ℕ → Option ℕ → List ℤ → List ℤ → Node → Node
standing c e cut numbers rest s = record s {
  stack = rest;
  frame = record s.frame { text_from = None };
  state = record s.state { out = text_before cut s.state.out };
  stage = Meets (record {
    meeting = e;
    numbers = numbers;
    text = text_behind cut s.state.out;
    told = replicate c.nodes false;
    heard = replicate c.nodes None;
  });
}

-- why the numbers of a meeting trap, and where
abbrev pub fault_place : Fault → (target_at source_at : Place) → Place
fault_place f target_at source_at = if f.source then source_at else target_at

abbrev pub meeting_fault : Meeting → List ℤ → Option (TrapKind × Place)
meeting_fault (meeting.Move kind target_at source_at) numbers =
    option_map (λ f. (f.kind, fault_place f target_at source_at)) (move_fault kind numbers)
meeting_fault _ numbers = None

-- the trap, or on to the meeting
abbrev pub met : CodeParts → Option (TrapKind × Place) → Node → Node → Comes
met c None next s = Goes next
met c (Some fault) next s = trapped c fault.0 fault.1 s

-- the numbers of a meeting are taken, and the node stands there, unless they trap
abbrev pub meets : CodeParts → ℕ → Option Meeting → Node → Comes
meets c e None s = Stuck
meets c e (Some x) s = with_many (numbers_for x) s.stack (λ numbers rest.
    met c (meeting_fault x numbers) (standing c e (cut_at x s.frame.text_from) numbers rest s) s)

-- ---- shared words

-- stops at a shared word, whose number has 32 bits
abbrev pub at_word : Option ℕ → (ℕ → Stop) → Comes
at_word None f = Stuck
at_word (Some w) f = Stops (f w)

-- the place of the node's own noted trap, or this one where it noted none
abbrev pub place_noted : Option Note → Place → Place
place_noted None at = at
place_noted (Some n) at = n.at

-- a notice is 0, or 1 plus the kind of a trap
abbrev pub lifted : Option ℕ → Place → List ℤ → Node → Comes
lifted None at rest s = Stuck
lifted (Some zero) at rest s = on s rest s.state
lifted (Some (suc k)) at rest s = Stops (stop.Trapped (kind_of_number k) (place_noted s.state.noted at))

-- ---- the instructions

-- What an instruction does.
abbrev pub effect : CodeParts → (input : List ℕ) → Instr → Node → Comes
effect c input (i.Push v) s = on s (v ∷ s.stack) s.state
effect c input i.Drop s = with_top s.stack (λ x rest. on s rest s.state)
effect c input i.Dup s = with_top s.stack (λ x rest. on s (x ∷ x ∷ rest) s.state)
effect c input (i.Load slot) s = on s (word_at s.state.words slot ∷ s.stack) s.state
effect c input (i.Save slot) s = with_top s.stack (λ v rest. on s rest (with_word slot v s.state))
effect c input (i.LoadAt b n) s = with_top s.stack (λ x rest. on s (indexed b (within x n) s.state ∷ rest) s.state)
effect c input (i.SaveAt b n) s = with_two s.stack (λ x v rest. on s rest (with_indexed b (within x n) v s.state))
effect c input (i.Bound n at) s = with_top s.stack (λ x rest. or_subscript c (within x n) at s)
effect c input (i.Fold n) s = with_two s.stack (λ a b rest. on s (wrap Long ((a *ℤ pos n) +ℤ b) ∷ rest) s.state)
effect c input (i.Local m d) s = localised c (slice_get c.maps m) d s
effect c input (i.Bin op ty at) s = with_two s.stack (λ a b rest. or_trap c (binary_of op ty a b) at rest s)
effect c input (i.Conv ty) s = with_top s.stack (λ x rest. on s (wrap ty x ∷ rest) s.state)
effect c input (i.Jump k) s = to k s s.stack
effect c input (i.JumpZero k) s = with_top s.stack (λ x rest. to (if is_zero x then k else (s.place + 1)) s rest)
effect c input (i.Call k) s = called (nat_lt (length s.frame.calls) c.calls) k s
effect c input i.Return s = returned s.frame.calls s
effect c input i.Turn s = stepped (step_taken s.state.steps s.state) s
effect c input (i.Mine t n) s = tested c (slice_get c.templates t) n s
effect c input (i.NextMine t d) s = moved_on c (slice_get c.templates t) d s
effect c input i.Count s = on s s.stack (turn_counted s.state)
effect c input (i.Guard g) s = guarded g s
effect c input i.Unguard s = unguarded s
effect c input i.Noted s = on s (noted_value s.state.noted ∷ s.stack) s.state
effect c input (i.Print f) s = printed_by (slice_get c.formats f) s
effect c input (i.Scan ty) s = with_top s.stack (λ slot rest. read_by ty input (within slot c.words) rest s)
effect c input (i.Exchange e) s = meets c e (slice_get c.meetings e) s
effect c input i.Get s = with_top s.stack (λ w rest. at_word (within w (2 ^ 32)) stop.Get)
effect c input i.Put s = with_two s.stack (λ w v rest. at_word (within w (2 ^ 32)) (λ word. stop.Put word v))
effect c input i.Sync s = Stops stop.Sync
effect c input (i.Lift at) s = with_top s.stack (λ notice rest. lifted (within notice 5) at rest s)
effect c input i.End s = Stops stop.Ended

abbrev pub effect_at : CodeParts → (input : List ℕ) → Option Instr → Node → Comes
effect_at c input None s = Stuck
effect_at c input (Some instr) s = effect c input instr s

-- What a node comes to next: at a meeting, and where it is over, it stops.
abbrev pub next_at : CodeParts → (input : List ℕ) → Stage → Node → Comes
next_at c input Going s = effect_at c input (slice_get c.instrs s.place) s
next_at c input (Meets m) s = Stops (stop.Exchange m.meeting)
next_at c input (Over kind at) s = Stops (stop.Trapped kind at)

abbrev pub next : CodeParts → (input : List ℕ) → Node → Comes
next c input s = next_at c input s.stage s
