-- What a node says to another where they meet, and how many words it awaits (this project).
use Rattle.std.specs.Prelude.{ℕ, ◌+◌, ◌*◌, ◌==◌, ◌&&◌, not, if◌then◌else◌, Bool, false, List, [], ◌∷◌, ◌++◌, length, map, ℤ, Option, Some, None, slice_get}
use Rattle.std.specs.List.{list_any, count_by, range_with_len}
use Rattle.xmp_prog.specs.Numbers.{is_in}
use Rattle.xmp_meaning.specs.declared.ends.End.{End}
use Rattle.xmp_meaning.specs.declared.ends.End.TheVariants as end
use Rattle.xmp_meaning.specs.TrapWords.{end_words}
use Rattle.xmp_move.specs.declared.kind.MoveKind.{MoveKind}
use Rattle.xmp_move.specs.Ways.{sends, fills}
use Rattle.xmp_move.specs.Stores.{packed}
use Rattle.xmp_move.specs.Kinds.{ways_of, pairs_of}
use Rattle.xmp_message.specs.declared.Message.{Message}
use Rattle.xmp_instr.specs.declared.meeting.Meeting.{Meeting}
use Rattle.xmp_instr.specs.declared.meeting.Meeting.TheVariants as meeting
use Rattle.xmp_instr.specs.declared.parts.CodeParts.{CodeParts}
use Rattle.xmp_instr.specs.Data.{Note}
use Rattle.xmp_instr.specs.Node.{Standing, Node}

abbrev pub words_alone : List ℤ → Message
words_alone words = record { words = words; text = [] }

-- ---- what is said

-- how a part or a task ended, by the trap that was noted in it
abbrev pub ended_by : Option Note → Option End
ended_by None = None
ended_by (Some n) = Some (end.Trapped n.kind n.at)

-- the indices that were noted
abbrev pub noted_indices : Option Note → List ℤ
noted_indices None = []
noted_indices (Some n) = n.indices

-- the slots that a node sends to another in a transfer, and those that it fills from another
abbrev pub sent_slots : MoveKind → (numbers : List ℤ) → (node to : ℕ) → List ℕ
sent_slots kind numbers node to = sends (ways_of kind) (pairs_of kind numbers) node to

abbrev pub filled_slots : MoveKind → (numbers : List ℤ) → (node from : ℕ) → List ℕ
filled_slots kind numbers node from = fills (ways_of kind) (pairs_of kind numbers) node from

-- whether a node says how a task ended to another: the least of the task's nodes says it to each node outside
abbrev pub tells : (from to : ℕ) → (nodes : List ℕ) → Bool
tells from to [] = false
tells from to (k ∷ ks) = (k == from) && not (is_in (k ∷ ks) to)

-- what it says of all tasks of an exchange, in their order
abbrev pub task_words : (from to : ℕ) → Option Note → List (List ℕ) → List ℤ
task_words from to noted [] = []
task_words from to noted (set ∷ sets) =
    (if tells from to set then end_words (ended_by noted) [] else []) ++ task_words from to noted sets

-- the text of its task, which is said to node 0 alone
abbrev pub task_text : (from to : ℕ) → List ℕ → List (List ℕ) → List ℕ
task_text from to text sets = if (to == 0) && list_any (tells from to) sets then text else []

abbrev pub said : CodeParts → Node → Standing → Option Meeting → (to : ℕ) → Message
said c s m None to = words_alone []
said c s m (Some meeting.Barrier) to = words_alone []
said c s m (Some (meeting.Cast slots from)) to = words_alone (if from == c.node then packed s.state.words slots else [])
said c s m (Some (meeting.Move kind target_at source_at)) to =
    words_alone (packed s.state.words (sent_slots kind m.numbers c.node to))
said c s m (Some (meeting.LoopEnd reduced)) to = words_alone (
    end_words (ended_by s.state.noted) (noted_indices s.state.noted)
    ++ packed s.state.words (map (λ r. r.slot) reduced))
said c s m (Some (meeting.TaskEnd sets)) to = record {
  words = task_words c.node to s.state.noted sets;
  text = task_text c.node to m.text sets;
}

-- What a node that stands at a meeting says to another.
abbrev pub says : CodeParts → Node → Standing → (to : ℕ) → Message
says c s m to = said c s m (slice_get c.meetings m.meeting) to

-- ---- what is awaited

abbrev pub words_due_at : CodeParts → Standing → Option Meeting → (from : ℕ) → ℕ
words_due_at c m None from = 0
words_due_at c m (Some meeting.Barrier) from = 0
words_due_at c m (Some (meeting.Cast slots caster)) from = if caster == from then length slots else 0
words_due_at c m (Some (meeting.Move kind target_at source_at)) from =
    length (filled_slots kind m.numbers c.node from)
words_due_at c m (Some (meeting.LoopEnd reduced)) from = 3 + length reduced
words_due_at c m (Some (meeting.TaskEnd sets)) from = 3 * count_by (tells from c.node) sets

-- How many words the message of a peer has.
abbrev pub words_due : CodeParts → Standing → (from : ℕ) → ℕ
words_due c m from = words_due_at c m (slice_get c.meetings m.meeting) from

-- ---- what was said, by all

-- the message of a node that came
abbrev pub came : Option (Option Message) → Message
came (Some (Some m)) = m
came (Some None) = words_alone []
came None = words_alone []

-- what a node said: a peer's message, and of the node itself what it says
abbrev pub said_by : CodeParts → Node → Standing → (from : ℕ) → Message
said_by c s m from = if from == c.node then says c s m from else came (slice_get m.heard from)

-- the nodes in order
abbrev pub all_nodes : CodeParts → List ℕ
all_nodes c = range_with_len 0 c.nodes
