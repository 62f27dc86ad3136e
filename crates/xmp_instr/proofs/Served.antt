-- A node of a valid code fits the code when it is served, and when it goes on from a meeting.
use Rattle.std.proofs.Common.{◌≡◌, ◌≤◌, ◌+◌, ◌-◌, inl, inr, ℕ, zero, suc, true, List, [], ◌∷◌, length, map, take, ℤ, refl, sym, ap, subst, ◌∙◌, arith, Option, Some, None, slice_get, slice_set}
use Rattle.std.proofs.lemmas.List.{length-set}
use Rattle.std.proofs.lemmas.Option.{none-some, same_Some}
use Rattle.xmp_meaning.specs.TrapWords.{SaidTrap}
use Rattle.xmp_message.specs.declared.Message.{Message}
use Rattle.xmp_move.specs.declared.kind.MoveKind.{MoveKind}
use Rattle.xmp_move.specs.Stores.{write_all}
use Rattle.xmp_instr.specs.declared.instr.Instr.TheVariants as i
use Rattle.xmp_instr.specs.declared.meeting.Reduced.{Reduced}
use Rattle.xmp_instr.specs.declared.meeting.Meeting.{Meeting}
use Rattle.xmp_instr.specs.declared.meeting.Meeting.TheVariants as meeting
use Rattle.xmp_instr.specs.declared.parts.CodeParts.{CodeParts}
use Rattle.xmp_instr.specs.Data.{Data}
use Rattle.xmp_instr.specs.Node.{Standing, Stage, Going, Meets, Over, Node}
use Rattle.xmp_instr.specs.Meetings.{words_due, all_nodes, filled_slots, said_by}
use Rattle.xmp_instr.specs.Effects.{numbers_for}
use Rattle.xmp_instr.specs.Depths.{meeting_needs}
use Rattle.xmp_instr.specs.Resumed.{TaskSaid, combined, ended, gone_on, loop_ended, loop_ended_by, reduced_from, resumed_at, resumed_from, tasks_ended, unpacked, values_said, with_combined, with_task_texts, with_words}
use Rattle.xmp_instr.specs.Resumed as r
use Rattle.xmp_instr.specs.Serving.{AtMeeting, with_answer, without_put, heard, heard_at, passed, passed_at, put_done, sync_done, told, told_at}
use Rattle.xmp_instr.specs.Valid.{IsValid}
use Rattle.xmp_instr.specs.Fits.{Fits, StageFits, StandsAt, depth_at, numbers_taken}
use Rattle.xmp_instr.specs.Laws.{AnsweredFit, HeardFit, PassedFit, ResumedFit, ToldFit}
use Rattle.xmp_instr.proofs.Fitting.{at_instr, fine_at, to_keeps, depth_is, place_there}

-- ---- messages

told_numbers : (stage : Stage) (to : ℕ) → numbers_taken (told_at stage to) ≡ numbers_taken stage
told_numbers Going to = refl
told_numbers (Over kind at) to = refl
told_numbers (Meets m) to = refl

told_stage : (c : CodeParts) (s t : Node) → t.place ≡ s.place → (to : ℕ) (stage : Stage) → StageFits c s stage → StageFits c t (told_at stage to)
told_stage c s t p to Going h = tt
told_stage c s t p to (Over kind at) h = tt
told_stage c s t p to (Meets m) h = (
  h.0,
  record {
    place = ap (slice_get c.instrs) p ∙ h.1.place;
    row = h.1.row;
    numbers = h.1.numbers;
    faultless = h.1.faultless;
    told = length-set m.told to true ∙ h.1.told;
    heard = h.1.heard;
    due = h.1.due;
  },
)

pub told_fit : ToldFit
told_fit c s to message f = record {
  place = f.place;
  stack = ap (λ n. length s.stack + n) (told_numbers s.stage to) ∙ f.stack;
  calls = f.calls;
  most = f.most;
  guard = f.guard;
  words = f.words;
  sent = length-set s.sent to _ ∙ f.sent;
  stage = told_stage c s (told s to message) refl to s.stage f.stage;
}

-- what a list has once one item is another
set_get : {A : Type 0} (xs : List A) (n k : ℕ) (x y : A) (P : ℕ → A → Type 0) → P n x → ((k : ℕ) (y : A) → slice_get xs k ≡ Some y → P k y) → slice_get (slice_set xs n x) k ≡ Some y → P k y
set_get [] n k x y P p all h = absurd (none-some y h)
set_get (z ∷ zs) zero zero x y P p all h = subst (P zero) (same_Some x y h) p
set_get (z ∷ zs) zero (suc k) x y P p all h = all (suc k) y h
set_get (z ∷ zs) (suc n) zero x y P p all h = all zero y h
set_get (z ∷ zs) (suc n) (suc k) x y P p all h = set_get zs n k x y (λ k y. P (suc k) y) p (λ k y. all (suc k) y) h

-- a message that came is as long as it is due
abbrev IsDue : CodeParts → Standing → ℕ → Option Message → Type 0
IsDue c m k o = (message : Message) → o ≡ Some message → length message.words ≡ words_due c m k

heard_numbers : (stage : Stage) (from : ℕ) (x : Message) → numbers_taken (heard_at stage from x) ≡ numbers_taken stage
heard_numbers Going from x = refl
heard_numbers (Over kind at) from x = refl
heard_numbers (Meets m) from x = refl

heard_stage : (c : CodeParts) (s t : Node) → t.place ≡ s.place → (from : ℕ) (x : Message) (stage : Stage) → AtMeeting stage (λ m. length x.words ≡ words_due c m from) → StageFits c s stage → StageFits c t (heard_at stage from x)
heard_stage c s t p from x Going due h = tt
heard_stage c s t p from x (Over kind at) due h = tt
heard_stage c s t p from x (Meets m) due h = (
  h.0,
  record {
    place = ap (slice_get c.instrs) p ∙ h.1.place;
    row = h.1.row;
    numbers = h.1.numbers;
    faultless = h.1.faultless;
    told = h.1.told;
    heard = length-set m.heard from (Some x) ∙ h.1.heard;
    due = λ k message e. set_get m.heard from k (Some x) (Some message) (IsDue c m)
        (λ y q. ap (λ z. length z.words) (sym (same_Some x y q)) ∙ due)
        (λ k o e y q. h.1.due k y (e ∙ ap Some q)) e message refl;
  },
)

pub heard_fit : HeardFit
heard_fit c s from message f due = record {
  place = f.place;
  stack = ap (λ n. length s.stack + n) (heard_numbers s.stage from message) ∙ f.stack;
  calls = f.calls;
  most = f.most;
  guard = f.guard;
  words = f.words;
  sent = f.sent;
  stage = heard_stage c s (heard s from message) refl from message s.stage due f.stage;
}

-- ---- shared words

answer_long : (stack : List ℤ) (v : ℤ) → length (with_answer stack v) ≡ length stack
answer_long [] v = refl
answer_long (w ∷ rest) v = refl

pub answered_fit : AnsweredFit
answered_fit c s v valid f g is =
    let h = at_instr c s i.Get valid f g is in
    let l = h.long in let n = h.fine.enough in let a = answer_long s.stack v in
    to_keeps c s i.Get h (s.place + 1) ((depth_at c s.place - 1) + 1) (with_answer s.stack v) s.state h.fine.agrees (omega (arith, l, n, a)) refl

put_long : (stack : List ℤ) → 2 ≤ length stack → length stack ≡ length (without_put stack) + 2
put_long [] h = absurd (omega (arith, h))
put_long (v ∷ []) h = absurd (omega (arith, h))
put_long (v ∷ w ∷ rest) h = omega arith

pub put_fit : (c : CodeParts) (s : Node) → IsValid c → Fits c s → s.stage ≡ Going → slice_get c.instrs s.place ≡ Some i.Put → Fits c (put_done s)
put_fit c s valid f g is =
    let h = at_instr c s i.Put valid f g is in
    let l = h.long in let n = h.fine.enough in
    let a = put_long s.stack (omega (arith, l, n)) in
    to_keeps c s i.Put h (s.place + 1) ((depth_at c s.place - 2) + 0) (without_put s.stack) s.state h.fine.agrees (omega (arith, l, n, a)) refl

pub sync_fit : (c : CodeParts) (s : Node) → IsValid c → Fits c s → s.stage ≡ Going → slice_get c.instrs s.place ≡ Some i.Sync → Fits c (sync_done s)
sync_fit c s valid f g is =
    let h = at_instr c s i.Sync valid f g is in
    let l = h.long in
    to_keeps c s i.Sync h (s.place + 1) ((depth_at c s.place - 0) + 0) s.stack s.state h.fine.agrees (omega (arith, l)) refl

pub passed_put_fit : (c : CodeParts) (s : Node) → IsValid c → Fits c s → s.stage ≡ Going → slice_get c.instrs s.place ≡ Some i.Put → Fits c (passed c s)
passed_put_fit c s valid f g is = subst (λ o. Fits c (passed_at o s)) (sym is) (put_fit c s valid f g is)

pub passed_sync_fit : (c : CodeParts) (s : Node) → IsValid c → Fits c s → s.stage ≡ Going → slice_get c.instrs s.place ≡ Some i.Sync → Fits c (passed c s)
passed_sync_fit c s valid f g is = subst (λ o. Fits c (passed_at o s)) (sym is) (sync_fit c s valid f g is)

pub passed_fit : PassedFit
passed_fit c s valid f g (inl is) = passed_put_fit c s valid f g is
passed_fit c s valid f g (inr is) = passed_sync_fit c s valid f g is

-- ---- meetings

abbrev KeepsNode : CodeParts → Option Node → Type 0
KeepsNode c None = Unit {0}
KeepsNode c (Some t) = Fits c t

gone_fits : (c : CodeParts) (s : Node) → IsValid c → Fits c s → (m : Standing) → s.stage ≡ Meets m → (x : Meeting) → StandsAt c s m x
    → (d : Data) → length d.words ≡ length s.state.words → Fits c (gone_on s d)
gone_fits c s v f m g x st d w =
    let fine = fine_at c v s.place (i.Exchange m.meeting) st.place in
    let needs : meeting_needs (slice_get c.meetings m.meeting) ≡ length m.numbers = ap meeting_needs st.row ∙ sym st.numbers in
    let depth = depth_is c (s.place + 1) _ fine.agrees in
    let l = sym (ap (λ t. length s.stack + numbers_taken t) g) ∙ f.stack in
    let enough = fine.enough in
    record {
      place = place_there c v (s.place + 1) _ fine.agrees;
      stack = omega (arith, depth, needs, l, enough);
      calls = f.calls;
      most = f.most;
      guard = f.guard;
      words = w ∙ f.words;
      sent = f.sent;
      stage = tt;
    }

ended_fits : (c : CodeParts) (s : Node) → IsValid c → Fits c s → (m : Standing) → s.stage ≡ Meets m → (x : Meeting) → StandsAt c s m x → numbers_for x ≡ 0
    → (d : Data) → length d.words ≡ length s.state.words → (o : Option SaidTrap) → Fits c (ended s d o)
ended_fits c s v f m g x st none d w None = gone_fits c s v f m g x st d w
ended_fits c s v f m g x st none d w (Some t) =
    let l = sym (ap (λ t. length s.stack + numbers_taken t) g) ∙ f.stack in
    let n = st.numbers in
    record {
      place = f.place;
      stack = omega (arith, l, n, none);
      calls = f.calls;
      most = f.most;
      guard = f.guard;
      words = w ∙ f.words;
      sent = f.sent;
      stage = tt;
    }

written_long : (slots : List ℕ) (store words : List ℤ) → length (write_all store slots words) ≡ length store
unfolding write_all
written_long [] store words = refl
written_long (k ∷ ks) store [] = refl
written_long (k ∷ ks) store (w ∷ ws) = written_long ks (slice_set store k w) ws ∙ length-set store k w

unpacked_long : (c : CodeParts) (s : Node) (m : Standing) (kind : MoveKind) (count : ℕ) → length (unpacked c s m kind count) ≡ length s.state.words
unpacked_long c s m kind zero = refl
unpacked_long c s m kind (suc k) = written_long (filled_slots kind m.numbers c.node k) (unpacked c s m kind k) _ ∙ unpacked_long c s m kind k

-- lists of words that are as long
abbrev AsLong : ℕ → Option (List ℤ) → Type 0
AsLong n None = Unit {0}
AsLong n (Some words) = length words ≡ n

combined_long : (n : ℕ) (o : Option ℤ) (slot : ℕ) (words : List ℤ) → length words ≡ n → AsLong n (with_combined o slot words)
combined_long n None slot words h = tt
combined_long n (Some v) slot words h = length-set words slot v ∙ h

reduced_long : (n : ℕ) (all : List (List ℤ)) (j : ℕ) (rs : List Reduced) (o : Option (List ℤ)) → AsLong n o → AsLong n (reduced_from all j rs o)
reduced_long n all j [] None h = tt
reduced_long n all j (r ∷ rs) None h = tt
reduced_long n all j [] (Some words) h = h
reduced_long n all j (r ∷ rs) (Some words) h = reduced_long n all (suc j) rs _ (combined_long n (combined r (values_said all j)) r.slot words h)

words_fit : (c : CodeParts) (s : Node) → IsValid c → Fits c s → (m : Standing) → s.stage ≡ Meets m → (x : Meeting) → StandsAt c s m x
    → (o : Option (List ℤ)) → AsLong (length s.state.words) o → KeepsNode c (with_words s o)
words_fit c s v f m g x st None h = tt
words_fit c s v f m g x st (Some words) h = gone_fits c s v f m g x st (record s.state { words = words }) h

loop_fits : (c : CodeParts) (s : Node) → IsValid c → Fits c s → (m : Standing) → s.stage ≡ Meets m → (rs : List Reduced) (n : ℕ) → StandsAt c s m (meeting.LoopEnd rs)
    → (all : List (List ℤ)) (o : Option SaidTrap) → KeepsNode c (loop_ended rs all s o)
loop_fits c s v f m g rs n st all None = words_fit c s v f m g _ st _ (reduced_long (length s.state.words) all 0 rs (Some s.state.words) refl)
loop_fits c s v f m g rs n st all (Some t) = ended_fits c s v f m g _ st refl s.state refl (Some t)

loops_fit : (c : CodeParts) (s : Node) → IsValid c → Fits c s → (m : Standing) → s.stage ≡ Meets m → (rs : List Reduced) → StandsAt c s m (meeting.LoopEnd rs)
    → (all : List (List ℤ)) (o : Option (List (Option SaidTrap))) → KeepsNode c (loop_ended_by rs all s o)
loops_fit c s v f m g rs st all None = tt
loops_fit c s v f m g rs st all (Some traps) = loop_fits c s v f m g rs 0 st all (r.earliest_trap traps)

tasks_fit : (c : CodeParts) (s : Node) → IsValid c → Fits c s → (m : Standing) → s.stage ≡ Meets m → (sets : List (List ℕ)) → StandsAt c s m (meeting.TaskEnd sets)
    → (o : Option (List TaskSaid)) → KeepsNode c (tasks_ended c s o)
tasks_fit c s v f m g sets st None = tt
tasks_fit c s v f m g sets st (Some ts) = ended_fits c s v f m g _ st refl (with_task_texts c ts s.state) refl (r.first_trap ts)

from_fits : (c : CodeParts) (s : Node) → IsValid c → Fits c s → (m : Standing) → s.stage ≡ Meets m → (x : Meeting) → StandsAt c s m x → KeepsNode c (resumed_from c s m (Some x))
from_fits c s v f m g meeting.Barrier st = gone_fits c s v f m g _ st s.state refl
from_fits c s v f m g (meeting.Cast slots from) st = gone_fits c s v f m g _ st (record s.state { words = write_all s.state.words slots (said_by c s m from).words }) (written_long slots s.state.words (said_by c s m from).words)
from_fits c s v f m g (meeting.Move kind a b) st = gone_fits c s v f m g _ st (record s.state { words = unpacked c s m kind c.nodes }) (unpacked_long c s m kind c.nodes)
from_fits c s v f m g (meeting.LoopEnd rs) st =
    let all = map (λ k. (said_by c s m k).words) (all_nodes c) in
    loops_fit c s v f m g rs st all (r.all_of (map (λ words. r.loop_end_read (take 3 words)) all))
from_fits c s v f m g (meeting.TaskEnd sets) st = tasks_fit c s v f m g sets st (r.all_of (map (r.task_said c s m) sets))

at_fits : (c : CodeParts) (s : Node) → IsValid c → Fits c s → (stage : Stage) → s.stage ≡ stage → StageFits c s stage → KeepsNode c (resumed_at c s stage)
at_fits c s v f Going g h = f
at_fits c s v f (Over kind at) g h = f
at_fits c s v f (Meets m) g h = subst (λ o. KeepsNode c (resumed_from c s m o)) (sym h.1.row) (from_fits c s v f m g h.0 h.1)

pub resumed_fit : ResumedFit
resumed_fit c s u v f e = subst (KeepsNode c) e (at_fits c s v f s.stage refl f.stage)
