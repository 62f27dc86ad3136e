-- What is done to a node from outside while it stands (this project).
use Rattle.std.specs.Prelude.{◌≡◌, ◌≢◌, ◌<◌, ℕ, ◌+◌, ◌/◌, ◌==◌, ◌||◌, not, Bool, true, false, List, [], ◌∷◌, length, ℤ, Option, Some, None, is_some, IsSome, slice_get, slice_set, slice_index_or}
use Rattle.std.specs.List.{list_all}
use Rattle.xmp_message.specs.declared.Message.{Message}
use Rattle.xmp_steps.specs.Machine.{within}
use Rattle.xmp_instr.specs.declared.instr.Instr.{Instr}
use Rattle.xmp_instr.specs.declared.instr.Instr.TheVariants as i
use Rattle.xmp_instr.specs.declared.parts.CodeParts.{CodeParts}
use Rattle.xmp_instr.specs.declared.stop.Stop.{Stop}
use Rattle.xmp_instr.specs.Data.{raised}
use Rattle.xmp_instr.specs.Node.{Standing, Stage, Going, Meets, Over, Node}
use Rattle.xmp_instr.specs.Meetings.{all_nodes}
use Rattle.xmp_instr.specs.Effects.{next}
use Rattle.xmp_instr.specs.Resumed.{resumed}

-- ---- messages

-- whether a node's message to another is out, and whether another's message came
abbrev pub is_told : Standing → ℕ → Bool
is_told m k = slice_index_or m.told k false

abbrev pub is_heard : Standing → ℕ → Bool
is_heard m k = is_some (slice_index_or m.heard k None)

-- of all nodes but the node itself
abbrev pub of_all_others : CodeParts → (ℕ → Bool) → Bool
of_all_others c test = list_all (λ k. (k == c.node) || test k) (all_nodes c)

-- the node stands at a meeting of which this holds
abbrev pub AtMeeting : Stage → (Standing → Type 0) → Type 0
AtMeeting Going P = ⊥
AtMeeting (Over kind at) P = ⊥
AtMeeting (Meets m) P = P m

-- Its message to another node may go out: all messages go out before one comes in.
pub record MayTell (c : CodeParts) (m : Standing) (to : ℕ) : Type 0 where
  pub below : to < c.nodes
  pub other : to ≢ c.node
  pub untold : is_told m to ≡ false
  pub none_heard : of_all_others c (λ k. not (is_heard m k)) ≡ true

-- The message of another node may come in.
pub record MayHear (c : CodeParts) (m : Standing) (from : ℕ) : Type 0 where
  pub below : from < c.nodes
  pub other : from ≢ c.node
  pub unheard : is_heard m from ≡ false
  pub all_told : of_all_others c (is_told m) ≡ true

-- how many words a message counts as: a text counts one for each eight bytes begun
abbrev pub words_sent : Message → ℕ
words_sent m = length m.words + (length m.text + 7) / 8

-- the node after its message to another went out
abbrev pub told_at : Stage → (to : ℕ) → Stage
told_at Going to = Going
told_at (Over kind at) to = Over kind at
told_at (Meets m) to = Meets (record m { told = slice_set m.told to true })

abbrev pub told : Node → (to : ℕ) → Message → Node
told s to m = record s {
  stage = told_at s.stage to;
  sent = slice_set s.sent to (raised (slice_index_or s.sent to 0) (words_sent m));
}

-- the node after the message of another came in
abbrev pub heard_at : Stage → (from : ℕ) → Message → Stage
heard_at Going from x = Going
heard_at (Over kind at) from x = Over kind at
heard_at (Meets m) from x = Meets (record m { heard = slice_set m.heard from (Some x) })

abbrev pub heard : Node → (from : ℕ) → Message → Node
heard s from m = record s { stage = heard_at s.stage from m }

-- ---- shared words

-- the node after it got the shared word that it asked for
abbrev pub with_answer : List ℤ → ℤ → List ℤ
with_answer [] v = []
with_answer (w ∷ rest) v = v ∷ rest

abbrev pub answered : Node → ℤ → Node
answered s v = record s { place = s.place + 1; stack = with_answer s.stack v }

-- the node after its put or its sync was done
abbrev pub without_put : List ℤ → List ℤ
without_put [] = []
without_put (v ∷ []) = []
without_put (v ∷ w ∷ rest) = rest

abbrev pub put_done : Node → Node
put_done s = record s { place = s.place + 1; stack = without_put s.stack }

abbrev pub sync_done : Node → Node
sync_done s = record s { place = s.place + 1 }

abbrev pub passed_at : Option Instr → Node → Node
passed_at (Some i.Put) s = put_done s
passed_at _ s = sync_done s

abbrev pub passed : CodeParts → Node → Node
passed c s = passed_at (slice_get c.instrs s.place) s

-- ---- text

-- from now on text is dropped
abbrev pub muted : Node → Node
muted s = record s { state = record s.state { muted = true } }

-- ---- from stop to stop

-- a node at a meeting has heard all others
abbrev pub HasHeard : CodeParts → Stage → Type 0
HasHeard c Going = Unit {0}
HasHeard c (Over kind at) = Unit {0}
HasHeard c (Meets m) = of_all_others c (is_heard m) ≡ true

-- From here a node comes to this stop, and stands there so: it is resumed, and goes on as long as it can.
abbrev pub ComesTo : CodeParts → (input : List ℕ) → Node → Stop → Node → Type 0
ComesTo c input s p t = (u : Node) × (n : ℕ) × (resumed c s ≡ Some u) × (within (next c input) n u ≡ Some (p, t))

-- It may run: it waits for no message, and a stop comes.
abbrev pub MayRun : CodeParts → (input : List ℕ) → Node → Type 0
MayRun c input s =
    HasHeard c s.stage × ((u : Node) × (n : ℕ) × (resumed c s ≡ Some u) × IsSome (within (next c input) n u))
