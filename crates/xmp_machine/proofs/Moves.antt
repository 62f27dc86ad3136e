-- The words of a transfer, as all nodes said them.
use Rattle.std.proofs.Common.{◌≡◌, ◌<◌, ◌+◌, ℕ, zero, suc, Bool, true, false, ◌||◌, ◌&&◌, List, [], ◌∷◌, map, length, ℤ, Option, Some, None, slice_get, slice_index_or, refl, sym, ap, subst, ◌∙◌, true≢false, arith, is_some, if◌then◌else◌}
use Rattle.std.specs.Prelude.{◌==◌, IfSome}
use Rattle.std.specs.List.{list_all, range_with_len}
use Rattle.std.proofs.lemmas.Bool.{eqb-true}
use Rattle.std.proofs.lemmas.List.{length-map}
use Rattle.xmp_num.specs.Arithmetic.{wrap}
use Rattle.xmp_move.specs.declared.kind.MoveKind.{MoveKind}
use Rattle.xmp_move.specs.Kinds.{pairs_of, ways_of}
use Rattle.xmp_move.specs.Ways.{due}
use Rattle.xmp_move.specs.Stores.{packed, word_at, write_all}
use Rattle.xmp_message.specs.declared.Message.{Message}
use Rattle.xmp_base.specs.declared.place.Place.{Place}
use Rattle.xmp_instr.specs.declared.meeting.Meeting.{Meeting}
use Rattle.xmp_instr.specs.declared.meeting.Meeting.TheVariants as meeting
use Rattle.xmp_instr.specs.declared.parts.CodeParts.{CodeParts}
use Rattle.xmp_instr.specs.Node.{Node, Standing}
use Rattle.xmp_instr.specs.Meetings.{came, filled_slots, said, said_by, sent_slots, words_due_at}
use Rattle.xmp_instr.specs.Resumed.{gone_on, resumed_from, type_of, unpacked}
use Rattle.xmp_instr.specs.Serving.{is_heard, of_all_others}
use Rattle.xmp_instr.specs.Fits.{StageFits, StandsAt}
use Rattle.xmp_code.specs.declared.state.Moving.{Moving}
use Rattle.xmp_code.specs.declared.state.Mode.TheVariants as mode
use Rattle.xmp_code.specs.declared.state.State.{State}
use Rattle.xmp_code.specs.States.{node_of, numbers_of, stage_of}
use Rattle.xmp_code.specs.Fitting.{IsMovingFor, MovingFits, StateFits}
use Rattle.xmp_machine.specs.Resuming.{moved_words, standing_in, words_by}

-- what a node says at a transfer
said_moved : (c : CodeParts) (s : Node) (m : Standing) (kind : MoveKind) (a b : Place) (own : List ℤ) (k : ℕ) → slice_get c.meetings m.meeting ≡ Some (meeting.Move kind a b)
    → own ≡ packed s.state.words (sent_slots kind m.numbers c.node c.node) → (said_by c s m k).words ≡ words_by c.node own m.heard k
said_moved c s m kind a b own k row e = ap (λ o. (if k == c.node then said c s m o k else came (slice_get m.heard k)).words) row ∙ at (k == c.node) refl
  where
    at : (t : Bool) → (k == c.node) ≡ t → (if t then said c s m (Some (meeting.Move kind a b)) k else came (slice_get m.heard k)).words
        ≡ (if t then own else (came (slice_get m.heard k)).words)
    at true h = ap (λ n. packed s.state.words (sent_slots kind m.numbers c.node n)) (eqb-true k c.node h) ∙ sym e
    at false h = refl

pub moved_are : (c : CodeParts) (s : Node) (m : Standing) (kind : MoveKind) (a b : Place) (own : List ℤ) (count : ℕ) → slice_get c.meetings m.meeting ≡ Some (meeting.Move kind a b)
    → own ≡ packed s.state.words (sent_slots kind m.numbers c.node c.node) → unpacked c s m kind count ≡ moved_words c kind m.numbers own m.heard count s.state.words
moved_are c s m kind a b own zero row e = refl
moved_are c s m kind a b own (suc k) row e =
    ap (λ store. write_all store (filled_slots kind m.numbers c.node k) (map (wrap (type_of kind)) (said_by c s m k).words)) (moved_are c s m kind a b own k row e)
    ∙ ap (λ words. write_all (moved_words c kind m.numbers own m.heard k s.state.words) (filled_slots kind m.numbers c.node k) (map (wrap (type_of kind)) words))
    (said_moved c s m kind a b own k row e)

-- ---- lengths

own_long : (kind : MoveKind) (numbers words : List ℤ) (node : ℕ) → length (packed words (sent_slots kind numbers node node)) ≡ length (filled_slots kind numbers node node)
own_long kind numbers words node =
    length-map (sent_slots kind numbers node node) (word_at words)
    ∙ length-map (due (ways_of kind) (pairs_of kind numbers) node node) (λ p. (ways_of kind).out_of node p.1)
    ∙ sym (length-map (due (ways_of kind) (pairs_of kind numbers) node node) (λ p. (ways_of kind).into node p.0))

both_true : (x y : Bool) → (x && y) ≡ true → (x ≡ true) × (y ≡ true)
both_true true y h = (refl, h)
both_true false y h = absurd (true≢false (sym h))

each_of : (test : ℕ → Bool) (a n k : ℕ) → list_all test (range_with_len a n) ≡ true → k < n → test (a + k) ≡ true
each_of test a zero k h low = absurd (omega arith)
each_of test a (suc n) zero h low =
    let same : a ≡ a + zero = omega arith in
    subst (λ x. test x ≡ true) same (both_true (test a) (list_all test (range_with_len (a + 1) n)) h).0
each_of test a (suc n) (suc k) h low =
    let same : (a + 1) + k ≡ a + suc k = omega arith in
    subst (λ x. test x ≡ true) same (each_of test (a + 1) n k (both_true (test a) (list_all test (range_with_len (a + 1) n)) h).1 (omega arith))

heard_there : (hs : List (Option Message)) (k : ℕ) → is_some (slice_index_or hs k None) ≡ true → (x : Message) × (slice_get hs k ≡ Some (Some x))
heard_there [] k h = absurd (true≢false (sym h))
heard_there (None ∷ hs) zero h = absurd (true≢false (sym h))
heard_there (Some x ∷ hs) zero h = (x, refl)
heard_there (o ∷ hs) (suc k) h = heard_there hs k h

-- the words that a node said are as many as are filled from it
pub said_long : (c : CodeParts) (s : Node) (m : Standing) (kind : MoveKind) (a b : Place) (x : Meeting) (own : List ℤ) → slice_get c.meetings m.meeting ≡ Some (meeting.Move kind a b)
    → StandsAt c s m x → of_all_others c (is_heard m) ≡ true → own ≡ packed s.state.words (sent_slots kind m.numbers c.node c.node)
    → (k : ℕ) → k < c.nodes → length (words_by c.node own m.heard k) ≡ length (filled_slots kind m.numbers c.node k)
said_long c s m kind a b x own row st all e k low = at (k == c.node) refl (each_of (λ k. (k == c.node) || is_heard m k) 0 c.nodes k all low)
  where
    at : (t : Bool) → (k == c.node) ≡ t → ((0 + k == c.node) || is_heard m (0 + k)) ≡ true
        → length (if t then own else (came (slice_get m.heard k)).words) ≡ length (filled_slots kind m.numbers c.node k)
    at true h all =
        ap (λ words. length words) e ∙ own_long kind m.numbers s.state.words c.node
        ∙ ap (λ n. length (filled_slots kind m.numbers c.node n)) (sym (eqb-true k c.node h))
    at false h all =
        let zero_more : 0 + k ≡ k = omega arith in
        let there = heard_there m.heard k (subst (λ t. (t || is_heard m k) ≡ true) h (subst (λ n. ((n == c.node) || is_heard m n) ≡ true) zero_more all)) in
        ap (λ o. length (came o).words) there.1 ∙ st.due k there.0 there.1 ∙ ap (λ o. words_due_at c m o k) row

-- ---- states that go on from a transfer

-- where a state stands at a meeting, its node does
pub stands : (c : CodeParts) (s : State) (e : ℕ) (mark : Option ℕ) → StateFits c s → s.talk.mode ≡ mode.Meets e mark
    → (x : Meeting) × StandsAt c (node_of s) (standing_in s e mark) x
stands c s e mark f is = subst (λ m. StageFits c (node_of s) (stage_of m s.talk s.data.out.items)) is f.node.stage

moving_of : (c : CodeParts) (s : State) (e : ℕ) (mark : Option ℕ) (kind : MoveKind) (a b : Place) → StateFits c s → s.talk.mode ≡ mode.Meets e mark
    → slice_get c.meetings e ≡ Some (meeting.Move kind a b) → IsMovingFor c (Some (meeting.Move kind a b)) s.data.words.items s.talk.moving
moving_of c s e mark kind a b f is row =
    subst (λ o. IsMovingFor c o s.data.words.items s.talk.moving) row (subst (λ m. MovingFits c m s.data.words.items s.talk.moving) is f.moving)

pub moving_long : (c : CodeParts) (s : State) (e : ℕ) (mark : Option ℕ) (kind : MoveKind) (a b : Place) → StateFits c s → s.talk.mode ≡ mode.Meets e mark
    → slice_get c.meetings e ≡ Some (meeting.Move kind a b) → of_all_others c (is_heard (standing_in s e mark)) ≡ true
    → IfSome s.talk.moving (λ m. (k : ℕ) → k < c.nodes → length (words_by c.node m.own s.talk.heard.items k) ≡ length (filled_slots kind m.numbers.items c.node k))
moving_long c s e mark kind a b f is row all = at s.talk.moving refl (moving_of c s e mark kind a b f is row)
  where
    at : (o : Option Moving) → s.talk.moving ≡ o → IsMovingFor c (Some (meeting.Move kind a b)) s.data.words.items o
        → IfSome o (λ m. (k : ℕ) → k < c.nodes → length (words_by c.node m.own s.talk.heard.items k) ≡ length (filled_slots kind m.numbers.items c.node k))
    at None q h = absurd h
    at (Some m) q h = λ k low.
        let st = stands c s e mark f is in
        let numbers = ap numbers_of q in
        said_long c (node_of s) (standing_in s e mark) kind a b st.0 m.own row st.1 all
        (h.own ∙ ap (λ ns. packed s.data.words.items (sent_slots kind ns c.node c.node)) (sym numbers)) k low
        ∙ ap (λ ns. length (filled_slots kind ns c.node k)) numbers

pub moves_go : (c : CodeParts) (s mid : State) (t : Node) (e : ℕ) (mark : Option ℕ) (kind : MoveKind) (a b : Place) → StateFits c s → s.talk.mode ≡ mode.Meets e mark
    → slice_get c.meetings e ≡ Some (meeting.Move kind a b)
    → mid ≡ record s { «data» = record s.«data» { words = mid.data.words } }
    → IfSome s.talk.moving (λ m. mid.data.words.items ≡ moved_words c kind m.numbers.items m.own s.talk.heard.items c.nodes s.data.words.items)
    → t ≡ gone_on (node_of mid) (node_of mid).state
    → resumed_from c (node_of s) (standing_in s e mark) (slice_get c.meetings e) ≡ Some t
moves_go c s mid t e mark kind a b f is row same words gone =
    ap (resumed_from c (node_of s) (standing_in s e mark)) row
    ∙ ap (λ ws. Some (gone_on (node_of s) (record (node_of s).state { words = ws }))) (at s.talk.moving refl (moving_of c s e mark kind a b f is row) words)
    ∙ ap Some (sym (gone ∙ ap (λ x. gone_on (node_of x) (node_of x).state) same))
  where
    at : (o : Option Moving) → s.talk.moving ≡ o → IsMovingFor c (Some (meeting.Move kind a b)) s.data.words.items o
        → IfSome o (λ m. mid.data.words.items ≡ moved_words c kind m.numbers.items m.own s.talk.heard.items c.nodes s.data.words.items)
        → unpacked c (node_of s) (standing_in s e mark) kind c.nodes ≡ mid.data.words.items
    at None q h w = absurd h
    at (Some m) q h w =
        let numbers = ap numbers_of q in
        moved_are c (node_of s) (standing_in s e mark) kind a b m.own c.nodes row
        (h.own ∙ ap (λ ns. packed s.data.words.items (sent_slots kind ns c.node c.node)) (sym numbers))
        ∙ ap (λ ns. moved_words c kind ns m.own s.talk.heard.items c.nodes s.data.words.items) numbers
        ∙ sym w
