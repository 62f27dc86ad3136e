-- How a state goes on from a meeting, by what is said there (this project).
use Rattle.std.specs.Prelude.{ℕ, zero, suc, ◌+◌, ◌==◌, ◌++◌, if◌then◌else◌, List, [], ◌∷◌, map, take, ℤ, pos, Option, Some, None, slice_get, slice_index_or, slice_set}
use Rattle.std.specs.List.{list_any, range_with_len}
use Rattle.std.specs.Option.{option_map}
use Rattle.xmp_prog.specs.Numbers.{is_in}
use Rattle.xmp_meaning.specs.TrapWords.{SaidTrap, end_words}
use Rattle.xmp_num.specs.Arithmetic.{wrap}
use Rattle.xmp_move.specs.declared.kind.MoveKind.{MoveKind}
use Rattle.xmp_move.specs.Stores.{word_at, write_all}
use Rattle.xmp_message.specs.declared.Message.{Message}
use Rattle.xmp_instr.specs.declared.meeting.Reduced.{Reduced}
use Rattle.xmp_instr.specs.declared.parts.CodeParts.{CodeParts}
use Rattle.xmp_instr.specs.Effects.{text_behind}
use Rattle.xmp_instr.specs.Meetings.{came, ended_by, filled_slots, noted_indices}
use Rattle.xmp_instr.specs.Resumed.{combined_from, earlier_trap, ended, gone_on, loop_end_read, task_end_read, type_of}
use Rattle.xmp_instr.specs.Node.{Node, Standing}
use Rattle.xmp_code.specs.declared.state.Mode.{Mode}
use Rattle.xmp_code.specs.declared.state.Mode.TheVariants as mode
use Rattle.xmp_code.specs.declared.state.State.{State}
use Rattle.xmp_code.specs.States.{note_of, numbers_of}

-- where a state stands, at a meeting with the text of the node's task behind a mark
abbrev pub standing_in : State → (e : ℕ) → (mark : Option ℕ) → Standing
standing_in s e mark = record {
  meeting = e;
  numbers = numbers_of s.talk.moving;
  text = text_behind mark s.data.out.items;
  told = s.talk.told.items;
  heard = s.talk.heard.items;
}

-- the words by which the state says how its part of a loop ended, and those of its task
abbrev pub part_words : State → List ℤ
part_words s = end_words (ended_by (option_map note_of s.data.noted)) (noted_indices (option_map note_of s.data.noted))

abbrev pub own_task_words : State → List ℤ
own_task_words s = end_words (ended_by (option_map note_of s.data.noted)) []

-- a state stands at no meeting any more
abbrev pub IsPast : Mode → Type 0
IsPast mode.Going = Unit {0}
IsPast (mode.Meets e mark) = ⊥
IsPast (mode.Over kind at) = Unit {0}

-- ---- casts and transfers

-- the words of a node: these of the node itself, and those of the message that came of another
abbrev pub words_by : (node : ℕ) → (own : List ℤ) → List (Option Message) → (k : ℕ) → List ℤ
words_by node own heard k = if k == node then own else (came (slice_get heard k)).words

-- the store after the words of the first `count` nodes were written
abbrev pub moved_words : CodeParts → MoveKind → (numbers own : List ℤ) → List (Option Message) → (count : ℕ) → List ℤ → List ℤ
moved_words c kind numbers own heard zero store = store
moved_words c kind numbers own heard (suc k) store =
    write_all (moved_words c kind numbers own heard k store) (filled_slots kind numbers c.node k)
    (map (wrap (type_of kind)) (words_by c.node own heard k))

-- ---- the end of a loop directive

-- the value of a reduction variable at a node, which has number `j` among those that are said
abbrev pub value_by : (node : ℕ) → (store : List ℤ) → List (Option Message) → (j slot k : ℕ) → ℤ
value_by node store heard j slot k =
    if k == node then word_at store slot else slice_index_or (came (slice_get heard k)).words (3 + j) (pos 0)

-- how the part of a node ended, by its three words
abbrev pub end_by : (node : ℕ) → (own : List ℤ) → List (Option Message) → (k : ℕ) → Option (Option SaidTrap)
end_by node own heard k = loop_end_read (if k == node then own else take 3 (came (slice_get heard k)).words)

-- the store with the combined value of a variable, unless one of those behind it has its slot
abbrev pub with_reduced : (nodes node : ℕ) → List (Option Message) → (j : ℕ) → Option Reduced → (behind : List Reduced) → List ℤ → List ℤ
with_reduced nodes node heard j None behind store = store
with_reduced nodes node heard j (Some r) behind store =
    if list_any (λ q. q.slot == r.slot) behind then store
    else slice_set store r.slot (combined_from r (map (value_by node store heard j r.slot) (range_with_len 0 nodes)))

-- The store with the combined values of these variables, the first of which has number `j`. A slot that a later variable has
-- too has that one's value; so the last variable is written first, and each finds the node's own value in its slot.
abbrev pub reduced_words : (nodes node : ℕ) → List (Option Message) → (j : ℕ) → List Reduced → List ℤ → List ℤ
reduced_words nodes node heard j [] store = store
reduced_words nodes node heard j (r ∷ rs) store =
    with_reduced nodes node heard j (Some r) rs (reduced_words nodes node heard (suc j) rs store)

-- the earlier one of the traps of one part and of those behind it, where both are known
abbrev pub with_earlier : Option (Option SaidTrap) → Option (Option SaidTrap) → Option (Option SaidTrap)
with_earlier None found = None
with_earlier (Some end) None = None
with_earlier (Some end) (Some found) = Some (earlier_trap end found)

-- ---- the end of tasks

-- how a task ended: its own nodes know it, and the others were told by the least of them
abbrev pub task_end_by : (node : ℕ) → (own : List ℤ) → List (Option Message) → (set : List ℕ) → Option (Option SaidTrap)
task_end_by node own heard set =
    task_end_read (if is_in set node then own else (came (slice_get heard (slice_index_or set 0 0))).words)

-- what a task printed
abbrev pub task_text_by : (node : ℕ) → (own : List ℕ) → List (Option Message) → (set : List ℕ) → List ℕ
task_text_by node own heard set = if is_in set node then own else (came (slice_get heard (slice_index_or set 0 0))).text

-- the trap of one task, or else that of those behind it, where both are known
abbrev pub or_behind : (end found : Option SaidTrap) → Option SaidTrap
or_behind None found = found
or_behind (Some trap) found = Some trap

abbrev pub with_first : Option (Option SaidTrap) → Option (Option SaidTrap) → Option (Option SaidTrap)
with_first None found = None
with_first (Some end) None = None
with_first (Some end) (Some found) = Some (or_behind end found)

-- the trap of the first task that trapped
abbrev pub first_trap_by : (end : List ℕ → Option (Option SaidTrap)) → List (List ℕ) → Option (Option SaidTrap)
first_trap_by end [] = Some None
first_trap_by end (set ∷ sets) = with_first (end set) (first_trap_by end sets)

-- the texts of the tasks up to that one
abbrev pub unless_trapped : Option (Option SaidTrap) → List ℕ → List ℕ
unless_trapped None text = []
unless_trapped (Some None) text = text
unless_trapped (Some (Some trap)) text = []

abbrev pub texts_by : (end : List ℕ → Option (Option SaidTrap)) → (text : List ℕ → List ℕ) → List (List ℕ) → List ℕ
texts_by end text [] = []
texts_by end text (set ∷ sets) = text set ++ unless_trapped (end set) (texts_by end text sets)

-- ---- where a node goes on

-- over by the trap of the loop's end, or on with these words
abbrev pub gone_from_loop : Option SaidTrap → List ℤ → Node → Node
gone_from_loop None words s = gone_on s (record s.state { words = words })
gone_from_loop (Some trap) words s = ended s s.state (Some trap)

-- over by the trap of the tasks' end, or on; node 0 has these texts behind what it printed
abbrev pub gone_from_tasks : (node : ℕ) → Option SaidTrap → (texts : List ℕ) → Node → Node
gone_from_tasks node trap texts s = ended s (record s.state { out = if node == 0 then (s.state.out ++ texts) else s.state.out }) trap
