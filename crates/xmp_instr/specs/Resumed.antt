-- How a node goes on from a meeting, by what all nodes said there (this project).
use Rattle.std.specs.Prelude.{ℕ, zero, suc, ◌+◌, ◌==◌, ◌&&◌, if◌then◌else◌, Bool, true, false, List, [], ◌∷◌, ◌++◌, map, take, ℤ, pos, Option, Some, None, slice_get, slice_set, slice_index_or}
use Rattle.std.specs.List.{fold, list_all}
use Rattle.std.specs.Option.{option_map}
use Rattle.std.specs.Ordering.{int_eq}
use Rattle.xmp_num.specs.declared.types.Ty.{Ty}
use Rattle.xmp_num.specs.declared.types.Ty.TheVariants.{Long}
use Rattle.xmp_num.specs.Arithmetic.{wrap}
use Rattle.xmp_num.specs.Reduction.{combine_of}
use Rattle.xmp_prog.specs.Numbers.{is_in, lies_in}
use Rattle.xmp_meaning.specs.TrapWords.{SaidTrap, trap_words, trap_said, end_words}
use Rattle.xmp_meaning.specs.LoopEnds.{comes_before}
use Rattle.xmp_move.specs.declared.kind.MoveKind.{MoveKind}
use Rattle.xmp_move.specs.declared.kind.MoveKind.TheVariants as move
use Rattle.xmp_move.specs.Stores.{write_all}
use Rattle.xmp_instr.specs.declared.meeting.Reduced.{Reduced}
use Rattle.xmp_instr.specs.declared.meeting.Meeting.{Meeting}
use Rattle.xmp_instr.specs.declared.meeting.Meeting.TheVariants as meeting
use Rattle.xmp_instr.specs.declared.parts.CodeParts.{CodeParts}
use Rattle.xmp_instr.specs.Data.{Data}
use Rattle.xmp_instr.specs.Node.{Standing, Stage, Going, Meets, Over, Node}
use Rattle.xmp_instr.specs.Meetings.{ended_by, filled_slots, said_by, all_nodes}

-- on behind the exchange
abbrev pub gone_on : Node → Data → Node
gone_on s d = record s { place = s.place + 1; state = d; stage = Going }

-- the run is over, by the trap that was said, or goes on
abbrev pub ended : Node → Data → Option SaidTrap → Node
ended s d None = gone_on s d
ended s d (Some t) = record s { state = d; stage = Over t.kind t.at }

-- ---- ends that were said

abbrev pub same_words : List ℤ → List ℤ → Bool
same_words [] [] = true
same_words (a ∷ vs) (b ∷ bs) = int_eq a b && same_words vs bs
same_words _ _ = false

-- the words of a trap that was said, or of none
abbrev pub words_of : Option SaidTrap → List ℤ
words_of None = end_words None []
words_of (Some t) = trap_words t.kind t.at t.first t.second t.third

-- The trap that three words say, or that there was none. Nothing is read where they aren't the words of what is read.
abbrev pub read_back : Option SaidTrap → List ℤ → Option (Option SaidTrap)
read_back trap words = if same_words words (words_of trap) then Some trap else None

abbrev pub loop_end_read : List ℤ → Option (Option SaidTrap)
loop_end_read words = read_back (trap_said words) words

-- the end of a task has no index
abbrev pub without_indices : SaidTrap → SaidTrap
without_indices t = record t { first = pos 0; second = pos 0; third = pos 0 }

abbrev pub task_end_read : List ℤ → Option (Option SaidTrap)
task_end_read words = read_back (option_map without_indices (trap_said words)) words

-- all of them, where each is there
abbrev pub joined : {A : Type 0} → Option A → Option (List A) → Option (List A)
joined None rest = None
joined (Some a) None = None
joined (Some a) (Some rest) = Some (a ∷ rest)

abbrev pub all_of : {A : Type 0} → List (Option A) → Option (List A)
all_of [] = Some []
all_of (o ∷ os) = joined o (all_of os)

-- ---- transfers

-- the type that moved words are converted to; a reflect's words stay
abbrev pub type_of : MoveKind → Ty
type_of (move.Reflect array) = Long
type_of (move.Gmove target source ty) = ty

-- the words after those of the first `count` nodes were written, in the order of the nodes
abbrev pub unpacked : CodeParts → Node → Standing → MoveKind → (count : ℕ) → List ℤ
unpacked c s m kind zero = s.state.words
unpacked c s m kind (suc k) = write_all (unpacked c s m kind k) (filled_slots kind m.numbers c.node k)
    (map (wrap (type_of kind)) (said_by c s m k).words)

-- ---- the end of a loop directive

-- in the order of the loops
abbrev pub indices_said : SaidTrap → List ℤ
indices_said t = t.first ∷ t.second ∷ t.third ∷ []

-- the trap whose indices come first, of two that come first the first
abbrev pub earlier_trap : Option SaidTrap → Option SaidTrap → Option SaidTrap
earlier_trap None b = b
earlier_trap (Some a) None = Some a
earlier_trap (Some a) (Some b) = if comes_before (indices_said b) (indices_said a) then Some b else Some a

abbrev pub earliest_trap : List (Option SaidTrap) → Option SaidTrap
earliest_trap [] = None
earliest_trap (o ∷ os) = earlier_trap o (earliest_trap os)

-- the values of all nodes combined in their order, where each lies in the type
abbrev pub combined_from : Reduced → List ℤ → ℤ
combined_from r [] = pos 0
combined_from r (v ∷ vs) = fold (combine_of r.op r.ty) v vs

abbrev pub combined : Reduced → List ℤ → Option ℤ
combined r vs = if list_all (lies_in r.ty) vs then Some (combined_from r vs) else None

-- the values that are said of a variable, whose number among the reduction variables is `j`
abbrev pub values_said : List (List ℤ) → (j : ℕ) → List ℤ
values_said all j = map (λ words. slice_index_or words (3 + j) (pos 0)) all

abbrev pub with_combined : Option ℤ → (slot : ℕ) → List ℤ → Option (List ℤ)
with_combined None slot words = None
with_combined (Some v) slot words = Some (slice_set words slot v)

-- the combined values in the slots of these variables, the first of which has number `j`
abbrev pub reduced_from : List (List ℤ) → (j : ℕ) → List Reduced → Option (List ℤ) → Option (List ℤ)
reduced_from all j rs None = None
reduced_from all j [] (Some words) = Some words
reduced_from all j (r ∷ rs) (Some words) =
    reduced_from all (suc j) rs (with_combined (combined r (values_said all j)) r.slot words)

abbrev pub with_words : Node → Option (List ℤ) → Option Node
with_words s None = None
with_words s (Some words) = Some (gone_on s (record s.state { words = words }))

-- the earliest trap of all nodes, or the combined values
abbrev pub loop_ended : List Reduced → List (List ℤ) → Node → Option SaidTrap → Option Node
loop_ended rs all s (Some t) = Some (ended s s.state (Some t))
loop_ended rs all s None = with_words s (reduced_from all 0 rs (Some s.state.words))

abbrev pub loop_ended_by : List Reduced → List (List ℤ) → Node → Option (List (Option SaidTrap)) → Option Node
loop_ended_by rs all s None = None
loop_ended_by rs all s (Some traps) = loop_ended rs all s (earliest_trap traps)

-- ---- the end of tasks

-- how a task ended, and what it printed
pub record TaskSaid : Type 0 where
  pub ended : Option SaidTrap
  pub text : List ℕ

-- the words of a task: its own nodes know them, and the others were told by the least of them
abbrev pub words_of_task : CodeParts → Node → Standing → (nodes : List ℕ) → List ℤ
words_of_task c s m nodes =
    if is_in nodes c.node then end_words (ended_by s.state.noted) [] else (said_by c s m (slice_index_or nodes 0 0)).words

abbrev pub text_of_task : CodeParts → Node → Standing → (nodes : List ℕ) → List ℕ
text_of_task c s m nodes = if is_in nodes c.node then m.text else (said_by c s m (slice_index_or nodes 0 0)).text

abbrev pub with_task_text : Option (Option SaidTrap) → List ℕ → Option TaskSaid
with_task_text None text = None
with_task_text (Some trap) text = Some (record { ended = trap; text = text })

abbrev pub task_said : CodeParts → Node → Standing → (nodes : List ℕ) → Option TaskSaid
task_said c s m nodes = with_task_text (task_end_read (words_of_task c s m nodes)) (text_of_task c s m nodes)

-- the trap of the first task that trapped
abbrev pub first_trap : List TaskSaid → Option SaidTrap
first_trap [] = None
first_trap (t ∷ ts) = elim (t.ended) [ Some trap ↦ Some trap | None ↦ first_trap ts ]

-- the texts of the tasks up to that one
abbrev pub texts_to_trap : List TaskSaid → List ℕ
texts_to_trap [] = []
texts_to_trap (t ∷ ts) = elim (t.ended) [ Some trap ↦ t.text | None ↦ t.text ++ texts_to_trap ts ]

-- node 0 has them behind what it printed
abbrev pub with_task_texts : CodeParts → List TaskSaid → Data → Data
with_task_texts c ts d = record d { out = if c.node == 0 then (d.out ++ texts_to_trap ts) else d.out }

abbrev pub tasks_ended : CodeParts → Node → Option (List TaskSaid) → Option Node
tasks_ended c s None = None
tasks_ended c s (Some ts) = Some (ended s (with_task_texts c ts s.state) (first_trap ts))

-- ---- all meetings

abbrev pub resumed_from : CodeParts → Node → Standing → Option Meeting → Option Node
resumed_from c s m None = None
resumed_from c s m (Some meeting.Barrier) = Some (gone_on s s.state)
resumed_from c s m (Some (meeting.Cast slots from)) =
    Some (gone_on s (record s.state { words = write_all s.state.words slots (said_by c s m from).words }))
resumed_from c s m (Some (meeting.Move kind target_at source_at)) =
    Some (gone_on s (record s.state { words = unpacked c s m kind c.nodes }))
resumed_from c s m (Some (meeting.LoopEnd rs)) =
    let all = map (λ k. (said_by c s m k).words) (all_nodes c) in
    loop_ended_by rs all s (all_of (map (λ words. loop_end_read (take 3 words)) all))
resumed_from c s m (Some (meeting.TaskEnd sets)) = tasks_ended c s (all_of (map (task_said c s m) sets))

-- Where a node goes on, once it stands at no meeting or has heard all others; there is no such place where what they
-- said doesn't fit.
abbrev pub resumed_at : CodeParts → Node → Stage → Option Node
resumed_at c s Going = Some s
resumed_at c s (Over kind at) = Some s
resumed_at c s (Meets m) = resumed_from c s m (slice_get c.meetings m.meeting)

abbrev pub resumed : CodeParts → Node → Option Node
resumed c s = resumed_at c s s.stage
