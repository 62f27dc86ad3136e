-- A node of a valid code fits the code at every step.
use Rattle.std.proofs.Common.{◌≡◌, ◌<◌, ◌≤◌, ◌+◌, ◌-◌, ℕ, zero, suc, Bool, true, false, List, [], ◌∷◌, length, take, drop, reverse, replicate, ℤ, pos, refl, sym, ap, subst, ◌∙◌, arith, Option, Some, None, slice_get, if◌then◌else◌}
use Rattle.std.specs.Prelude.{nat_lt, ◌^◌, int_le, Result, Ok, Err}
use Rattle.std.specs.List.{AllByRecursion}
use Rattle.std.proofs.lemmas.Bool.{ltb-true, ltb-false}
use Rattle.std.proofs.lemmas.Option.{none-some, slice_get-get_or, get_or_from_slice_get, slice_get_within}
use Rattle.std.proofs.lemmas.List.{length-drop, length-take-le, length-reverse, length-set, length-replicate, get_or-replicate}
use Rattle.xmp_base.specs.declared.place.Place.{Place}
use Rattle.xmp_num.specs.declared.types.TrapKind.{TrapKind}
use Rattle.xmp_num.specs.declared.types.TrapKind.TheVariants.{Subscript}
use Rattle.xmp_num.specs.declared.types.BinOp.{BinOp}
use Rattle.xmp_num.specs.declared.types.Ty.{Ty}
use Rattle.xmp_num.specs.Arithmetic.{binary_of, truth}
use Rattle.xmp_num.specs.Decimal.{scan_of}
use Rattle.xmp_meaning.specs.Formats.{printed}
use Rattle.xmp_map.specs.declared.array_map.ArrayMap.{ArrayMap}
use Rattle.xmp_map.specs.declared.template.Template.{Template}
use Rattle.xmp_meaning.specs.Expressions.{is_zero, within}
use Rattle.xmp_message.specs.declared.Message.{Message}
use Rattle.xmp_steps.specs.Machine.{Next, Goes, Stops, Stuck}
use Rattle.xmp_instr.specs.declared.instr.Instr.{Instr}
use Rattle.xmp_instr.specs.declared.instr.Instr.TheVariants as i
use Rattle.xmp_instr.specs.declared.stop.Stop.{Stop}
use Rattle.xmp_instr.specs.declared.stop.Stop.TheVariants as stop
use Rattle.xmp_instr.specs.declared.meeting.Meeting.{Meeting}
use Rattle.xmp_instr.specs.declared.parts.Guard.{Guard}
use Rattle.xmp_instr.specs.declared.parts.CodeParts.{CodeParts}
use Rattle.xmp_instr.specs.Data.{Data, read_into, step_taken, turn_counted, with_indexed, with_note, with_read, with_text, with_word}
use Rattle.xmp_instr.specs.Node.{Stage, Going, Meets, Over, Node}
use Rattle.xmp_instr.specs.Effects as e
use Rattle.xmp_instr.specs.Effects.{numbers_for, meeting_fault}
use Rattle.xmp_instr.specs.Depths.{IsDepth, IsFine, format_needs}
use Rattle.xmp_instr.specs.Tables.{asked, owns}
use Rattle.xmp_instr.specs.Serving.{muted}
use Rattle.xmp_instr.specs.Valid.{IsValid, GuardFits, InRange}
use Rattle.xmp_instr.specs.Laws.{BeginningFits, MutedFit, StepsFit}
use Rattle.xmp_instr.specs.Fits.{Fits, StageFits, IsCall, below_calls, depth_at, numbers_taken}
use Rattle.xmp_instr.proofs.Lists.{all_at}

-- a result that fits, where it goes on
abbrev pub Keeps : CodeParts → Next Node Stop → Type 0
Keeps c (Goes t) = Fits c t
Keeps c (Stops p) = Unit {0}
Keeps c Stuck = Unit {0}

-- ---- depths

pub depth_is : (c : CodeParts) (p d : ℕ) → IsDepth c p d → depth_at c p ≡ d
depth_is c p d h = get_or_from_slice_get c.depths p d 0 h

depth_there : (c : CodeParts) → IsValid c → (p : ℕ) → p < length c.instrs → IsDepth c p (depth_at c p)
depth_there c v p h = slice_get-get_or c.depths p 0 (let l = v.steps.depths.long in omega (arith, h, l))

pub place_there : (c : CodeParts) → IsValid c → (p d : ℕ) → IsDepth c p d → p < length c.instrs
place_there c v p d h = let k = slice_get_within c.depths p d h in let l = v.steps.depths.long in omega (arith, k, l)

pub fine_at : (c : CodeParts) → IsValid c → (p : ℕ) (instr : Instr) → slice_get c.instrs p ≡ Some instr → IsFine c p (depth_at c p) instr
fine_at c v p instr e = v.steps.fine.each p instr e (depth_at c p) (depth_there c v p (slice_get_within c.instrs p instr e))

-- ---- what is known at an instruction

pub record At (c : CodeParts) (s : Node) (instr : Instr) : Type 0 where
  pub valid : IsValid c
  pub fits : Fits c s
  pub going : s.stage ≡ Going
  pub is : slice_get c.instrs s.place ≡ Some instr
  pub fine : IsFine c s.place (depth_at c s.place) instr
  pub long : length s.stack ≡ depth_at c s.place + below_calls c s.frame.calls

-- on to an instruction of this depth
pub to_keeps : (c : CodeParts) (s : Node) (instr : Instr) → At c s instr → (k d : ℕ) (stack : List ℤ) (state : Data) → IsDepth c k d
    → length stack ≡ d + below_calls c s.frame.calls → length state.words ≡ length s.state.words
    → Fits c (record s { place = k; stack = stack; state = state })
to_keeps c s instr h k d stack state dk l w = record {
  place = place_there c h.valid k d dk;
  stack = ap (λ g. length stack + numbers_taken g) h.going ∙ (let n = depth_is c k d dk in omega (arith, n, l));
  calls = h.fits.calls;
  most = h.fits.most;
  guard = h.fits.guard;
  words = w ∙ h.fits.words;
  sent = h.fits.sent;
  stage = subst (StageFits c (record s { place = k; stack = stack; state = state })) (sym h.going) tt;
}

-- ---- values of the stack

top_keeps : (c : CodeParts) (stack : List ℤ) (f : ℤ → List ℤ → e.Comes) → ((x : ℤ) (rest : List ℤ) → length stack ≡ suc (length rest) → Keeps c (f x rest)) → Keeps c (e.with_top stack f)
top_keeps c [] f k = tt
top_keeps c (x ∷ rest) f k = k x rest refl

two_keeps : (c : CodeParts) (stack : List ℤ) (f : ℤ → ℤ → List ℤ → e.Comes) → ((x y : ℤ) (rest : List ℤ) → length stack ≡ suc (suc (length rest)) → Keeps c (f x y rest)) → Keeps c (e.with_two stack f)
two_keeps c [] f k = tt
two_keeps c (y ∷ []) f k = tt
two_keeps c (y ∷ x ∷ rest) f k = k x y rest refl

many_keeps : (c : CodeParts) (n : ℕ) (stack : List ℤ) (f : List ℤ → List ℤ → e.Comes)
    → ((xs rest : List ℤ) → length stack ≡ length rest + n → length xs ≡ n → Keeps c (f xs rest)) → Keeps c (e.with_many n stack f)
many_keeps c n stack f k = at (nat_lt (length stack) n) refl
  where
    at : (t : Bool) → nat_lt (length stack) n ≡ t → Keeps c (if t then Stuck else f (reverse (take n stack)) (drop n stack))
    at true h = tt
    at false h =
        let enough : n ≤ length stack = ltb-false (length stack) n h in
        let behind = length-drop n stack in
        k (reverse (take n stack)) (drop n stack) (omega (arith, enough, behind)) (length-reverse (take n stack) ∙ length-take-le n stack enough)

-- ---- traps

noted_keeps : (c : CodeParts) (s : Node) (instr : Instr) → At c s instr → (g : ℕ) (kind : TrapKind) (at : Place) (o : Option Guard)
    → slice_get c.guards g ≡ o → Keeps c (e.noted_under o kind at s)
noted_keeps c s instr h g kind at None r = tt
noted_keeps c s instr h g kind at (Some guard) r =
    let fit = all_at (GuardFits c) c.guards g guard h.valid.tables.guards r in
    let n = depth_is c guard.target 0 fit.depth in
    let t : Node = record s { place = guard.target; stack = []; frame = record s.frame { calls = []; guard = None }; state = with_note kind at guard.indices s.state } in
    record {
      place = fit.target;
      stack = ap (λ g. 0 + numbers_taken g) h.going ∙ (omega (arith, n));
      calls = tt;
      most = omega arith;
      guard = tt;
      words = h.fits.words;
      sent = h.fits.sent;
      stage = subst (StageFits c t) (sym h.going) tt;
    }

under_keeps : (c : CodeParts) (s : Node) (instr : Instr) → At c s instr → (kind : TrapKind) (at : Place) (g : Option ℕ) → Keeps c (e.trapped_under c g kind at s)
under_keeps c s instr h kind at None = tt
under_keeps c s instr h kind at (Some g) = noted_keeps c s instr h g kind at (slice_get c.guards g) refl

trap_keeps : (c : CodeParts) (s : Node) (instr : Instr) → At c s instr → (kind : TrapKind) (at : Place) → Keeps c (e.trapped c kind at s)
trap_keeps c s instr h kind at = under_keeps c s instr h kind at s.frame.guard

-- ---- helpers of single instructions

on_keeps : (c : CodeParts) (s : Node) (instr : Instr) → At c s instr → (d : ℕ) (stack : List ℤ) (state : Data) → IsDepth c (s.place + 1) d
    → length stack ≡ d + below_calls c s.frame.calls → length state.words ≡ length s.state.words → Keeps c (e.on s stack state)
on_keeps c s instr h d stack state dk l w = to_keeps c s instr h (s.place + 1) d stack state dk l w

indexed_words : (b : ℕ) (o : Option ℕ) (v : ℤ) (d : Data) → length (with_indexed b o v d).words ≡ length d.words
indexed_words b (Some x) v d = length-set d.words (b + x) v
indexed_words b None v d = refl

read_words : (slot : ℕ) (o : Option ℤ) (d : Data) → length (with_read slot o d).words ≡ length d.words
read_words slot (Some v) d = length-set d.words slot v
read_words slot None d = refl

subscript_keeps : (c : CodeParts) (s : Node) (n : ℕ) (at : Place) → At c s (i.Bound n at) → (o : Option ℕ) → Keeps c (e.or_subscript c o at s)
subscript_keeps c s n at h (Some x) =
    let l = h.long in let m = h.fine.enough in
    on_keeps c s _ h ((depth_at c s.place - 1) + 1) s.stack s.state h.fine.agrees (omega (arith, l, m)) refl
subscript_keeps c s n at h None = trap_keeps c s _ h Subscript at

located_keeps : (c : CodeParts) (s : Node) (m d : ℕ) → At c s (i.Local m d) → (map : ArrayMap) (o : Option ℕ) (rest : List ℤ) → length s.stack ≡ suc (length rest) → Keeps c (e.located c map d o rest s)
located_keeps c s m d h map None rest k = tt
located_keeps c s m d h map (Some x) rest k =
    let l = h.long in let f = h.fine.enough in
    on_keeps c s _ h ((depth_at c s.place - 1) + 1) _ s.state h.fine.agrees (omega (arith, l, k, f)) refl

local_keeps : (c : CodeParts) (s : Node) (m d : ℕ) → At c s (i.Local m d) → (o : Option ArrayMap) → Keeps c (e.localised c o d s)
local_keeps c s m d h None = tt
local_keeps c s m d h (Some map) = top_keeps c s.stack _ (λ x rest k. located_keeps c s m d h map _ rest k)

result_keeps : (c : CodeParts) (s : Node) (op : BinOp) (ty : Ty) (at : Place) → At c s (i.Bin op ty at) → (r : Result ℤ TrapKind) (rest : List ℤ) → length s.stack ≡ suc (suc (length rest)) → Keeps c (e.or_trap c r at rest s)
result_keeps c s op ty at h (Ok v) rest k =
    let l = h.long in let f = h.fine.enough in
    on_keeps c s _ h ((depth_at c s.place - 2) + 1) (v ∷ rest) s.state h.fine.agrees (omega (arith, l, k, f)) refl
result_keeps c s op ty at h (Err kind) rest k = trap_keeps c s _ h kind at

jump_depth : (c : CodeParts) (k p d : ℕ) (t : Bool) → IsDepth c k d → IsDepth c p d → IsDepth c (if t then k else p) d
jump_depth c k p d true a b = a
jump_depth c k p d false a b = b

call_keeps : (c : CodeParts) (s : Node) (k : ℕ) → At c s (i.Call k) → (t : Bool) → nat_lt (length s.frame.calls) c.calls ≡ t → Keeps c (e.called t k s)
call_keeps c s k h false r = tt
call_keeps c s k h true r =
    let room = ltb-true (length s.frame.calls) c.calls r in
    let n = depth_is c k 0 h.fine.agrees.0 in
    let l = h.long in
    let t : Node = record s { place = k; frame = record s.frame { calls = s.place ∷ s.frame.calls } } in
    record {
      place = place_there c h.valid k 0 h.fine.agrees.0;
      stack = ap (λ g. length s.stack + numbers_taken g) h.going ∙ (omega (arith, n, l));
      calls = (subst IsCall (sym h.is) tt, h.fits.calls);
      most = omega (arith, room);
      guard = h.fits.guard;
      words = h.fits.words;
      sent = h.fits.sent;
      stage = subst (StageFits c t) (sym h.going) tt;
    }

call_leads : (c : CodeParts) (back : ℕ) (o : Option Instr) → IsCall o → ((instr : Instr) → o ≡ Some instr → IsFine c back (depth_at c back) instr) → IsDepth c (back + 1) (depth_at c back + 1)
call_leads c back None h f = absurd h
call_leads c back (Some (i.Call k)) h f = (f (i.Call k) refl).agrees.1
call_leads c back (Some _) h f = absurd h

return_keeps : (c : CodeParts) (s : Node) → At c s i.Return → (calls : List ℕ) → s.frame.calls ≡ calls → Keeps c (e.returned calls s)
return_keeps c s h [] r = tt
return_keeps c s h (back ∷ calls) r =
    let all = subst (AllByRecursion (λ p. IsCall (slice_get c.instrs p))) r h.fits.calls in
    let lead = call_leads c back (slice_get c.instrs back) all.0 (λ instr is. fine_at c h.valid back instr is) in
    let n = depth_is c (back + 1) (depth_at c back + 1) lead in
    let one : depth_at c s.place ≡ 1 = h.fine.agrees in
    let l : length s.stack ≡ depth_at c s.place + (depth_at c back + below_calls c calls) = h.long ∙ ap (λ cs. depth_at c s.place + below_calls c cs) r in
    let m : length (back ∷ calls) ≤ c.calls = subst (λ cs. length cs ≤ c.calls) r h.fits.most in
    let t : Node = record s { place = back + 1; frame = record s.frame { calls = calls } } in
    record {
      place = place_there c h.valid (back + 1) (depth_at c back + 1) lead;
      stack = ap (λ g. length s.stack + numbers_taken g) h.going ∙ (omega (arith, n, one, l));
      calls = all.1;
      most = omega (arith, m);
      guard = h.fits.guard;
      words = h.fits.words;
      sent = h.fits.sent;
      stage = subst (StageFits c t) (sym h.going) tt;
    }

step_keeps : (c : CodeParts) (s : Node) → At c s i.Turn → (n : ℕ) → Keeps c (e.stepped (step_taken n s.state) s)
step_keeps c s h zero = tt
step_keeps c s h (suc n) = let l = h.long in on_keeps c s _ h ((depth_at c s.place - 0) + 0) s.stack (record s.state { steps = n }) h.fine.agrees (omega (arith, l)) refl

mine_keeps : (c : CodeParts) (s : Node) (t n : ℕ) → At c s (i.Mine t n) → (o : Option Template) → Keeps c (e.tested c o n s)
mine_keeps c s t n h None = tt
mine_keeps c s t n h (Some template) = many_keeps c n s.stack (λ point rest. e.on s (truth (owns template c.node point) ∷ rest) s.state) (λ point rest k q.
    let l = h.long in let f = h.fine.enough in
    on_keeps c s _ h ((depth_at c s.place - n) + 1) (truth (owns template c.node point) ∷ rest) s.state h.fine.agrees (omega (arith, l, k, f)) refl)

chosen_keeps : (c : CodeParts) (t : Bool) (x : e.Comes) → Keeps c x → Keeps c (if t then x else Stuck)
chosen_keeps c true x k = k
chosen_keeps c false x k = tt

moved_keeps : (c : CodeParts) (s : Node) (t d : ℕ) → At c s (i.NextMine t d) → (o : Option Template) → Keeps c (e.moved_on c o d s)
moved_keeps c s t d h None = tt
moved_keeps c s t d h (Some template) = two_keeps c s.stack _ (λ g end rest k. chosen_keeps c (int_le g end) _
    (let l = h.long in let f = h.fine.enough in
    on_keeps c s _ h ((depth_at c s.place - 2) + 1) _ s.state h.fine.agrees (omega (arith, l, k, f)) refl))

print_keeps : (c : CodeParts) (s : Node) (f : ℕ) → At c s (i.Print f) → (o : Option (List ℕ)) → format_needs o ≤ depth_at c s.place
    → IsDepth c (s.place + 1) ((depth_at c s.place - format_needs o) + 0) → Keeps c (e.printed_by o s)
print_keeps c s f h None few dk = tt
print_keeps c s f h (Some format) few dk = many_keeps c (asked format) s.stack (λ vs rest. e.on s rest (with_text (printed format vs) s.state)) (λ vs rest k q.
    let l = h.long in on_keeps c s _ h ((depth_at c s.place - asked format) + 0) rest (with_text (printed format vs) s.state) dk (omega (arith, l, k, few)) refl)

scan_keeps : (c : CodeParts) (input : List ℕ) (s : Node) (ty : Ty) → At c s (i.Scan ty) → (o : Option ℕ) (rest : List ℤ) → length s.stack ≡ suc (length rest) → Keeps c (e.read_by ty input o rest s)
scan_keeps c input s ty h None rest k = tt
scan_keeps c input s ty h (Some slot) rest k =
    let l = h.long in let f = h.fine.enough in
    on_keeps c s _ h ((depth_at c s.place - 1) + 0) rest (read_into ty input slot s.state) h.fine.agrees (omega (arith, l, k, f)) (read_words slot (scan_of ty input s.state.taken).0 (record s.state { taken = (scan_of ty input s.state.taken).1 }))

word_keeps : (c : CodeParts) (o : Option ℕ) (f : ℕ → Stop) → Keeps c (e.at_word o f)
word_keeps c None f = tt
word_keeps c (Some w) f = tt

lift_keeps : (c : CodeParts) (s : Node) (at : Place) → At c s (i.Lift at) → (o : Option ℕ) (rest : List ℤ) → length s.stack ≡ suc (length rest) → Keeps c (e.lifted o at rest s)
lift_keeps c s at h None rest k = tt
lift_keeps c s at h (Some zero) rest k =
    let l = h.long in let f = h.fine.enough in
    on_keeps c s _ h ((depth_at c s.place - 1) + 0) rest s.state h.fine.agrees (omega (arith, l, k, f)) refl
lift_keeps c s at h (Some (suc n)) rest k = tt

-- ---- exchanges

no_message : (n k : ℕ) (message : Message) → slice_get (replicate n None) k ≡ Some (Some message) → ⊥
no_message n k message r =
    let inside = slice_get_within (replicate n None) k (Some message) r in
    let below : k < n = (let none : Option Message = None in let l = length-replicate n none in omega (arith, inside, l)) in
    none-some message (sym (get_or-replicate n k None None below) ∙ get_or_from_slice_get (replicate n None) k (Some message) None r)

stands : (c : CodeParts) (s : Node) (n : ℕ) → At c s (i.Exchange n) → (x : Meeting) → slice_get c.meetings n ≡ Some x → (cut : Option ℕ) (numbers rest : List ℤ)
    → length s.stack ≡ length rest + numbers_for x → length numbers ≡ numbers_for x → meeting_fault x numbers ≡ None → Fits c (e.standing c n cut numbers rest s)
stands c s n h x row cut numbers rest k q fault =
    let l = h.long in
    record {
      place = h.fits.place;
      stack = omega (arith, l, k, q);
      calls = h.fits.calls;
      most = h.fits.most;
      guard = h.fits.guard;
      words = h.fits.words;
      sent = h.fits.sent;
      stage = (
        x,
        record {
          place = h.is;
          row = row;
          numbers = q;
          faultless = fault;
          told = length-replicate c.nodes false;
          heard = length-replicate c.nodes None;
          due = λ j message r. absurd (no_message c.nodes j message r);
        },
      );
    }

met_keeps : (c : CodeParts) (s : Node) (n : ℕ) → At c s (i.Exchange n) → (o : Option (TrapKind × Place)) (t : Node) → (o ≡ None → Fits c t) → Keeps c (e.met c o t s)
met_keeps c s n h None t f = f refl
met_keeps c s n h (Some fault) t f = trap_keeps c s _ h fault.0 fault.1

exchange_keeps : (c : CodeParts) (s : Node) (n : ℕ) → At c s (i.Exchange n) → (o : Option Meeting) → slice_get c.meetings n ≡ o → Keeps c (e.meets c n o s)
exchange_keeps c s n h None row = tt
exchange_keeps c s n h (Some x) row = many_keeps c (numbers_for x) s.stack (λ numbers rest. e.met c (meeting_fault x numbers) (e.standing c n (e.cut_at x s.frame.text_from) numbers rest s) s) (λ numbers rest k q.
    met_keeps c s n h (meeting_fault x numbers) (e.standing c n (e.cut_at x s.frame.text_from) numbers rest s) (λ fault. stands c s n h x row (e.cut_at x s.frame.text_from) numbers rest k q fault))

-- ---- all instructions

keeps : (c : CodeParts) (input : List ℕ) (s : Node) (instr : Instr) → At c s instr → Keeps c (e.effect c input instr s)
keeps c input s (i.Push v) h = let l = h.long in on_keeps c s _ h ((depth_at c s.place - 0) + 1) (v ∷ s.stack) s.state h.fine.agrees (omega (arith, l)) refl
keeps c input s i.Drop h = top_keeps c s.stack _ (λ x rest k. let l = h.long in let f = h.fine.enough in
    on_keeps c s _ h ((depth_at c s.place - 1) + 0) rest s.state h.fine.agrees (omega (arith, l, k, f)) refl)
keeps c input s i.Dup h = top_keeps c s.stack _ (λ x rest k. let l = h.long in let f = h.fine.enough in
    on_keeps c s _ h ((depth_at c s.place - 1) + 2) (x ∷ x ∷ rest) s.state h.fine.agrees (omega (arith, l, k, f)) refl)
keeps c input s (i.Load slot) h = let l = h.long in on_keeps c s _ h ((depth_at c s.place - 0) + 1) _ s.state h.fine.agrees (omega (arith, l)) refl
keeps c input s (i.Save slot) h = top_keeps c s.stack _ (λ x rest k. let l = h.long in let f = h.fine.enough in
    on_keeps c s _ h ((depth_at c s.place - 1) + 0) rest (with_word slot x s.state) h.fine.agrees (omega (arith, l, k, f)) (length-set s.state.words slot x))
keeps c input s (i.LoadAt b n) h = top_keeps c s.stack _ (λ x rest k. let l = h.long in let f = h.fine.enough in
    on_keeps c s _ h ((depth_at c s.place - 1) + 1) _ s.state h.fine.agrees (omega (arith, l, k, f)) refl)
keeps c input s (i.SaveAt b n) h = two_keeps c s.stack _ (λ x v rest k. let l = h.long in let f = h.fine.enough in
    on_keeps c s _ h ((depth_at c s.place - 2) + 0) rest (with_indexed b (within x n) v s.state) h.fine.agrees (omega (arith, l, k, f)) (indexed_words b (within x n) v s.state))
keeps c input s (i.Bound n at) h = top_keeps c s.stack _ (λ x rest k. subscript_keeps c s n at h (within x n))
keeps c input s (i.Fold n) h = two_keeps c s.stack _ (λ a b rest k. let l = h.long in let f = h.fine.enough in
    on_keeps c s _ h ((depth_at c s.place - 2) + 1) _ s.state h.fine.agrees (omega (arith, l, k, f)) refl)
keeps c input s (i.Local m d) h = local_keeps c s m d h (slice_get c.maps m)
keeps c input s (i.Bin op ty at) h = two_keeps c s.stack _ (λ a b rest k. result_keeps c s op ty at h (binary_of op ty a b) rest k)
keeps c input s (i.Conv ty) h = top_keeps c s.stack _ (λ x rest k. let l = h.long in let f = h.fine.enough in
    on_keeps c s _ h ((depth_at c s.place - 1) + 1) _ s.state h.fine.agrees (omega (arith, l, k, f)) refl)
keeps c input s (i.Jump k) h = to_keeps c s _ h k (depth_at c s.place) s.stack s.state h.fine.agrees h.long refl
keeps c input s (i.JumpZero n) h = top_keeps c s.stack _ (λ x rest k. let l = h.long in let f = h.fine.enough in
    to_keeps c s _ h _ (depth_at c s.place - 1) rest s.state (jump_depth c n (s.place + 1) (depth_at c s.place - 1) (is_zero x) h.fine.agrees.0 h.fine.agrees.1) (omega (arith, l, k, f)) refl)
keeps c input s (i.Call k) h = call_keeps c s k h (nat_lt (length s.frame.calls) c.calls) refl
keeps c input s i.Return h = return_keeps c s h s.frame.calls refl
keeps c input s i.Turn h = step_keeps c s h s.state.steps
keeps c input s (i.Mine t n) h = mine_keeps c s t n h (slice_get c.templates t)
keeps c input s (i.NextMine t d) h = moved_keeps c s t d h (slice_get c.templates t)
keeps c input s i.Count h = let l = h.long in on_keeps c s _ h ((depth_at c s.place - 0) + 0) s.stack (turn_counted s.state) h.fine.agrees (omega (arith, l)) refl
keeps c input s (i.Guard g) h =
    let to = to_keeps c s _ h (s.place + 1) (depth_at c s.place) s.stack s.state h.fine.agrees.1 h.long refl in
    let t : Node = record s { place = s.place + 1; frame = record s.frame { guard = Some g; text_from = Some (length s.state.out) } } in
    record {
      place = to.place;
      stack = to.stack;
      calls = to.calls;
      most = to.most;
      guard = all_at (InRange c) c.instrs s.place (i.Guard g) h.valid.steps.ranges h.is;
      words = to.words;
      sent = to.sent;
      stage = subst (StageFits c t) (sym h.going) tt;
    }
keeps c input s i.Unguard h =
    let l = h.long in
    let to = to_keeps c s _ h (s.place + 1) ((depth_at c s.place - 0) + 0) s.stack s.state h.fine.agrees (omega (arith, l)) refl in
    let t : Node = record s { place = s.place + 1; frame = record s.frame { guard = None } } in
    record {
      place = to.place;
      stack = to.stack;
      calls = to.calls;
      most = to.most;
      guard = tt;
      words = to.words;
      sent = to.sent;
      stage = subst (StageFits c t) (sym h.going) tt;
    }
keeps c input s i.Noted h = let l = h.long in on_keeps c s _ h ((depth_at c s.place - 0) + 1) _ s.state h.fine.agrees (omega (arith, l)) refl
keeps c input s (i.Print f) h = print_keeps c s f h (slice_get c.formats f) h.fine.enough h.fine.agrees
keeps c input s (i.Scan ty) h = top_keeps c s.stack _ (λ slot rest k. scan_keeps c input s ty h (within slot c.words) rest k)
keeps c input s (i.Exchange n) h = exchange_keeps c s n h (slice_get c.meetings n) refl
keeps c input s i.Get h = top_keeps c s.stack _ (λ w rest k. word_keeps c (within w (2 ^ 32)) stop.Get)
keeps c input s i.Put h = two_keeps c s.stack _ (λ w v rest k. word_keeps c (within w (2 ^ 32)) (λ word. stop.Put word v))
keeps c input s i.Sync h = tt
keeps c input s (i.Lift at) h = top_keeps c s.stack _ (λ notice rest k. lift_keeps c s at h (within notice 5) rest k)
keeps c input s i.End h = tt

-- ---- the laws

pub at_instr : (c : CodeParts) (s : Node) (instr : Instr) → IsValid c → Fits c s → s.stage ≡ Going → slice_get c.instrs s.place ≡ Some instr → At c s instr
at_instr c s instr v f g is = record {
  valid = v;
  fits = f;
  going = g;
  is = is;
  fine = fine_at c v s.place instr is;
  long = (let l = sym (ap (λ t. length s.stack + numbers_taken t) g) ∙ f.stack in omega (arith, l));
}

going_keeps : (c : CodeParts) (input : List ℕ) (s : Node) → IsValid c → Fits c s → s.stage ≡ Going → (o : Option Instr) → slice_get c.instrs s.place ≡ o → Keeps c (e.effect_at c input o s)
going_keeps c input s v f g None is = tt
going_keeps c input s v f g (Some instr) is = keeps c input s instr (at_instr c s instr v f g is)

next_keeps : (c : CodeParts) (input : List ℕ) (s : Node) → IsValid c → Fits c s → (stage : Stage) → s.stage ≡ stage → Keeps c (e.next_at c input stage s)
next_keeps c input s v f Going g = going_keeps c input s v f g (slice_get c.instrs s.place) refl
next_keeps c input s v f (Meets m) g = tt
next_keeps c input s v f (Over kind at) g = tt

pub steps_fit : StepsFit
steps_fit c input s t v f r = subst (Keeps c) r (next_keeps c input s v f s.stage refl)

pub beginning_fits : BeginningFits
beginning_fits c v =
    let n = depth_is c 0 0 v.steps.depths.first in
    record {
      place = place_there c v 0 0 v.steps.depths.first;
      stack = omega (arith, n);
      calls = tt;
      most = omega arith;
      guard = tt;
      words = length-replicate c.words (pos 0);
      sent = length-replicate c.nodes 0;
      stage = tt;
    }

pub muted_fit : MutedFit
muted_fit c s f = record { place = f.place; stack = f.stack; calls = f.calls; most = f.most; guard = f.guard; words = f.words; sent = f.sent; stage = muted_stage s.stage f.stage }
  where
    muted_stage : (stage : Stage) → StageFits c s stage → StageFits c (muted s) stage
    muted_stage Going h = tt
    muted_stage (Over kind at) h = tt
    muted_stage (Meets m) h = (h.0, record { place = h.1.place; row = h.1.row; numbers = h.1.numbers; faultless = h.1.faultless; told = h.1.told; heard = h.1.heard; due = h.1.due })
