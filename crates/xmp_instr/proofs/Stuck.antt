-- Where a node that fits a valid code has no next state.
use Rattle.std.proofs.Common.{◌≡◌, ◌↔◌, ◌<◌, ◌≤◌, ℕ, zero, suc, Bool, true, false, List, [], ◌∷◌, length, take, drop, reverse, ℤ, refl, sym, ap, subst, arith, Option, Some, None, slice_get, if◌then◌else◌}
use Rattle.std.specs.Prelude.{nat_lt, ◌^◌, int_le, Result, Ok, Err}
use Rattle.std.proofs.lemmas.Bool.{ltb-true, ltb-false, false≢true}
use Rattle.std.proofs.lemmas.Option.{none-some}
use Rattle.xmp_base.specs.declared.place.Place.{Place}
use Rattle.xmp_num.specs.declared.types.TrapKind.{TrapKind}
use Rattle.xmp_num.specs.declared.types.TrapKind.TheVariants.{Subscript}
use Rattle.xmp_num.specs.declared.types.Ty.{Ty}
use Rattle.xmp_num.specs.Arithmetic.{binary_of, truth}
use Rattle.xmp_meaning.specs.Formats.{printed}
use Rattle.xmp_map.specs.declared.array_map.ArrayMap.{ArrayMap}
use Rattle.xmp_map.specs.declared.template.Template.{Template}
use Rattle.xmp_meaning.specs.Expressions.{within}
use Rattle.xmp_steps.specs.Machine.{Next, Goes, Stops, Stuck}
use Rattle.xmp_instr.specs.declared.instr.Instr.{Instr}
use Rattle.xmp_instr.specs.declared.instr.Instr.TheVariants as i
use Rattle.xmp_instr.specs.declared.stop.Stop.{Stop}
use Rattle.xmp_instr.specs.declared.stop.Stop.TheVariants as stop
use Rattle.xmp_instr.specs.declared.meeting.Meeting.{Meeting}
use Rattle.xmp_instr.specs.declared.parts.Guard.{Guard}
use Rattle.xmp_instr.specs.declared.parts.CodeParts.{CodeParts}
use Rattle.xmp_instr.specs.Data.{step_taken, with_text}
use Rattle.xmp_instr.specs.Node.{Going, Node}
use Rattle.xmp_instr.specs.Tables.{asked, extent_of, owns}
use Rattle.xmp_instr.specs.Effects as e
use Rattle.xmp_instr.specs.Effects.{numbers_for, meeting_fault}
use Rattle.xmp_instr.specs.Depths.{format_needs, meeting_needs}
use Rattle.xmp_instr.specs.Valid.{IsValid, InRange, HasAxis, HasDimension, HasDimensions}
use Rattle.xmp_instr.specs.Fits.{Fits, GuardIsThere, depth_at}
use Rattle.xmp_instr.specs.Laws.{HasNoNext, HasNoNextAt, OutsideMap, StuckOnly, TopIs, SecondIs, EndsBefore}
use Rattle.xmp_instr.proofs.Lists.{all_at}
use Rattle.xmp_instr.proofs.Fitting.{At, at_instr}

-- there is a next state
abbrev IsGood : Next Node Stop → Type 0
IsGood (Goes t) = Unit {0}
IsGood (Stops p) = Unit {0}
IsGood Stuck = ⊥

plain : (r : Next Node Stop) → IsGood r → (r ≡ Stuck) ↔ ⊥
plain r g = (λ h. subst IsGood h g, λ h. absurd h)

-- ---- values of the stack

no_value : (stack : List ℤ) → 1 ≤ length stack → stack ≡ [] → ⊥
no_value stack h r = let l = ap (λ xs. length xs) r in omega (arith, h, l)

top_good : (stack : List ℤ) (f : ℤ → List ℤ → e.Comes) → 1 ≤ length stack → ((x : ℤ) (rest : List ℤ) → IsGood (f x rest)) → IsGood (e.with_top stack f)
top_good [] f h g = absurd (no_value [] h refl)
top_good (x ∷ rest) f h g = g x rest

two_good : (stack : List ℤ) (f : ℤ → ℤ → List ℤ → e.Comes) → 2 ≤ length stack → ((x y : ℤ) (rest : List ℤ) → IsGood (f x y rest)) → IsGood (e.with_two stack f)
two_good [] f h g = absurd (no_value [] (omega (arith, h)) refl)
two_good (y ∷ []) f h g = absurd (omega (arith, h))
two_good (y ∷ x ∷ rest) f h g = g x y rest

many_good : (n : ℕ) (stack : List ℤ) (f : List ℤ → List ℤ → e.Comes) → n ≤ length stack → ((xs rest : List ℤ) → IsGood (f xs rest)) → IsGood (e.with_many n stack f)
many_good n stack f h g = at (nat_lt (length stack) n) refl
  where
    at : (t : Bool) → nat_lt (length stack) n ≡ t → IsGood (if t then Stuck else f (reverse (take n stack)) (drop n stack))
    at true r = let few = ltb-true (length stack) n r in absurd (omega (arith, h, few))
    at false r = g (reverse (take n stack)) (drop n stack)

top_stuck : (P : ℤ → Type 0) (stack : List ℤ) (f : ℤ → List ℤ → e.Comes) → 1 ≤ length stack → ((x : ℤ) (rest : List ℤ) → (f x rest ≡ Stuck) ↔ P x) → (e.with_top stack f ≡ Stuck) ↔ TopIs P stack
top_stuck P [] f h g = absurd (no_value [] h refl)
top_stuck P (x ∷ rest) f h g = g x rest

second_stuck : (P : ℤ → Type 0) (stack : List ℤ) (f : ℤ → ℤ → List ℤ → e.Comes) → 2 ≤ length stack → ((x y : ℤ) (rest : List ℤ) → (f x y rest ≡ Stuck) ↔ P x) → (e.with_two stack f ≡ Stuck) ↔ SecondIs P stack
second_stuck P [] f h g = absurd (no_value [] (omega (arith, h)) refl)
second_stuck P (y ∷ []) f h g = absurd (omega (arith, h))
second_stuck P (y ∷ x ∷ rest) f h g = g x y rest

-- what is asked for is on the stack
enough : (c : CodeParts) (s : Node) (instr : Instr) → At c s instr → (n : ℕ) → n ≤ depth_at c s.place → n ≤ length s.stack
enough c s instr h n few = let l = h.long in omega (arith, l, few)

-- ---- traps

row_there : {A : Type 0} (xs : List A) (k : ℕ) → k < length xs → slice_get xs k ≡ None → ⊥
row_there [] k h r = absurd (omega (arith, h))
row_there (x ∷ xs) zero h r = none-some x (sym r)
row_there (x ∷ xs) (suc n) h r = row_there xs n (omega (arith, h)) r

guard_good : (c : CodeParts) (s : Node) (kind : TrapKind) (at : Place) (g : ℕ) → g < length c.guards → (o : Option Guard) → slice_get c.guards g ≡ o → IsGood (e.noted_under o kind at s)
guard_good c s kind at g h None r = absurd (row_there c.guards g h r)
guard_good c s kind at g h (Some guard) r = tt

under_good : (c : CodeParts) (s : Node) (kind : TrapKind) (at : Place) (g : Option ℕ) → GuardIsThere c g → IsGood (e.trapped_under c g kind at s)
under_good c s kind at None h = tt
under_good c s kind at (Some g) h = guard_good c s kind at g h (slice_get c.guards g) refl

trap_good : (c : CodeParts) (s : Node) (instr : Instr) → At c s instr → (kind : TrapKind) (at : Place) → IsGood (e.trapped c kind at s)
trap_good c s instr h kind at = under_good c s kind at s.frame.guard h.fits.guard

subscript_good : (c : CodeParts) (s : Node) (instr : Instr) → At c s instr → (at : Place) (o : Option ℕ) → IsGood (e.or_subscript c o at s)
subscript_good c s instr h at (Some x) = tt
subscript_good c s instr h at None = trap_good c s instr h Subscript at

result_good : (c : CodeParts) (s : Node) (instr : Instr) → At c s instr → (at : Place) (r : Result ℤ TrapKind) (rest : List ℤ) → IsGood (e.or_trap c r at rest s)
result_good c s instr h at (Ok v) rest = tt
result_good c s instr h at (Err kind) rest = trap_good c s instr h kind at

step_good : (s : Node) (n : ℕ) → IsGood (e.stepped (step_taken n s.state) s)
step_good s zero = tt
step_good s (suc n) = tt

mine_good : (c : CodeParts) (s : Node) (n : ℕ) (o : Option Template) → HasDimensions o n → n ≤ length s.stack → IsGood (e.tested c o n s)
mine_good c s n None h few = absurd h
mine_good c s n (Some t) h few = many_good n s.stack (λ point rest. e.on s (truth (owns t c.node point) ∷ rest) s.state) few (λ xs rest. tt)

print_good : (s : Node) (formats : List (List ℕ)) (f : ℕ) → f < length formats → (o : Option (List ℕ)) → slice_get formats f ≡ o → format_needs o ≤ length s.stack → IsGood (e.printed_by o s)
print_good s formats f h None r few = absurd (row_there formats f h r)
print_good s formats f h (Some format) r few = many_good (asked format) s.stack (λ vs rest. e.on s rest (with_text (printed format vs) s.state)) few (λ xs rest. tt)

met_good : (c : CodeParts) (s : Node) (instr : Instr) → At c s instr → (o : Option (TrapKind × Place)) (t : Node) → IsGood (e.met c o t s)
met_good c s instr h None t = tt
met_good c s instr h (Some fault) t = trap_good c s instr h fault.0 fault.1

exchange_good : (c : CodeParts) (s : Node) (n : ℕ) → At c s (i.Exchange n) → n < length c.meetings → (o : Option Meeting) → slice_get c.meetings n ≡ o → meeting_needs o ≤ length s.stack → IsGood (e.meets c n o s)
exchange_good c s n h below None r few = absurd (row_there c.meetings n below r)
exchange_good c s n h below (Some x) r few = many_good (numbers_for x) s.stack (λ numbers rest. e.met c (meeting_fault x numbers) (e.standing c n (e.cut_at x s.frame.text_from) numbers rest s) s) few
    (λ numbers rest. met_good c s _ h (meeting_fault x numbers) (e.standing c n (e.cut_at x s.frame.text_from) numbers rest s))

-- ---- the cases

called_stuck : (c : CodeParts) (s : Node) (k : ℕ) (t : Bool) → nat_lt (length s.frame.calls) c.calls ≡ t → (e.called t k s ≡ Stuck) ↔ (c.calls ≤ length s.frame.calls)
called_stuck c s k true r = (λ h. absurd (subst IsGood h tt), λ h. let below = ltb-true (length s.frame.calls) c.calls r in absurd (omega (arith, below, h)))
called_stuck c s k false r = (λ h. ltb-false (length s.frame.calls) c.calls r, λ h. refl)

returned_stuck : (s : Node) (calls : List ℕ) → (e.returned calls s ≡ Stuck) ↔ (calls ≡ [])
returned_stuck s [] = (λ h. refl, λ h. refl)
returned_stuck s (p ∷ ps) = (λ h. absurd (subst IsGood h tt), λ h. absurd (let l = ap (λ xs. length xs) h in omega (arith, l)))

located_stuck : (c : CodeParts) (s : Node) (m : ArrayMap) (d : ℕ) (rest : List ℤ) (o : Option ℕ) → (e.located c m d o rest s ≡ Stuck) ↔ (o ≡ None)
located_stuck c s m d rest None = (λ h. refl, λ h. refl)
located_stuck c s m d rest (Some x) = (λ h. absurd (subst IsGood h tt), λ h. absurd (none-some x (sym h)))

local_stuck : (c : CodeParts) (s : Node) (d : ℕ) (o : Option ArrayMap) → HasDimension o d → 1 ≤ length s.stack → (e.localised c o d s ≡ Stuck) ↔ OutsideMap o d s.stack
local_stuck c s d None h few = absurd h
local_stuck c s d (Some m) h few = top_stuck _ s.stack _ few (λ x rest. located_stuck c s m d rest (within x (extent_of m d)))

chosen_stuck : (t : Bool) (x : e.Comes) → IsGood x → ((if t then x else Stuck) ≡ Stuck) ↔ (t ≡ false)
chosen_stuck true x g = (λ h. absurd (subst IsGood h g), λ h. absurd (false≢true (sym h)))
chosen_stuck false x g = (λ h. refl, λ h. refl)

ends_stuck : (stack : List ℤ) (f : ℤ → ℤ → List ℤ → e.Comes) → 2 ≤ length stack → ((g end : ℤ) (rest : List ℤ) → (f g end rest ≡ Stuck) ↔ (int_le g end ≡ false)) → (e.with_two stack f ≡ Stuck) ↔ EndsBefore stack
ends_stuck [] f h g = absurd (no_value [] (omega (arith, h)) refl)
ends_stuck (y ∷ []) f h g = absurd (omega (arith, h))
ends_stuck (y ∷ x ∷ rest) f h g = g x y rest

moved_stuck : (c : CodeParts) (s : Node) (d : ℕ) (o : Option Template) → HasAxis o d → 2 ≤ length s.stack → (e.moved_on c o d s ≡ Stuck) ↔ EndsBefore s.stack
moved_stuck c s d None h few = absurd h
moved_stuck c s d (Some t) h few = ends_stuck s.stack _ few (λ g end rest. chosen_stuck (int_le g end) _ tt)

read_stuck : (input : List ℕ) (s : Node) (ty : Ty) (rest : List ℤ) (o : Option ℕ) → (e.read_by ty input o rest s ≡ Stuck) ↔ (o ≡ None)
read_stuck input s ty rest None = (λ h. refl, λ h. refl)
read_stuck input s ty rest (Some slot) = (λ h. absurd (subst IsGood h tt), λ h. absurd (none-some slot (sym h)))

word_stuck : (f : ℕ → Stop) (o : Option ℕ) → (e.at_word o f ≡ Stuck) ↔ (o ≡ None)
word_stuck f None = (λ h. refl, λ h. refl)
word_stuck f (Some w) = (λ h. absurd (subst IsGood h tt), λ h. absurd (none-some w (sym h)))

lifted_stuck : (s : Node) (at : Place) (rest : List ℤ) (o : Option ℕ) → (e.lifted o at rest s ≡ Stuck) ↔ (o ≡ None)
lifted_stuck s at rest None = (λ h. refl, λ h. refl)
lifted_stuck s at rest (Some zero) = (λ h. absurd (subst IsGood h tt), λ h. absurd (none-some 0 (sym h)))
lifted_stuck s at rest (Some (suc n)) = (λ h. absurd (subst IsGood h tt), λ h. absurd (none-some (suc n) (sym h)))

range : (c : CodeParts) (s : Node) (instr : Instr) → At c s instr → InRange c instr
range c s instr h = all_at (InRange c) c.instrs s.place instr h.valid.steps.ranges h.is

-- ---- all instructions

stuck : (c : CodeParts) (input : List ℕ) (s : Node) (instr : Instr) → At c s instr → (e.effect c input instr s ≡ Stuck) ↔ HasNoNext c instr s
stuck c input s (i.Push v) h = plain _ tt
stuck c input s i.Drop h = plain _ (top_good s.stack _ (enough c s _ h 1 h.fine.enough) (λ x rest. tt))
stuck c input s i.Dup h = plain _ (top_good s.stack _ (enough c s _ h 1 h.fine.enough) (λ x rest. tt))
stuck c input s (i.Load slot) h = plain _ tt
stuck c input s (i.Save slot) h = plain _ (top_good s.stack _ (enough c s _ h 1 h.fine.enough) (λ x rest. tt))
stuck c input s (i.LoadAt b n) h = plain _ (top_good s.stack _ (enough c s _ h 1 h.fine.enough) (λ x rest. tt))
stuck c input s (i.SaveAt b n) h = plain _ (two_good s.stack _ (enough c s _ h 2 h.fine.enough) (λ x y rest. tt))
stuck c input s (i.Bound n at) h = plain _ (top_good s.stack _ (enough c s _ h 1 h.fine.enough) (λ x rest. subscript_good c s _ h at (within x n)))
stuck c input s (i.Fold n) h = plain _ (two_good s.stack _ (enough c s _ h 2 h.fine.enough) (λ x y rest. tt))
stuck c input s (i.Local m d) h = local_stuck c s d (slice_get c.maps m) (range c s _ h) (enough c s _ h 1 h.fine.enough)
stuck c input s (i.Bin op ty at) h = plain _ (two_good s.stack _ (enough c s _ h 2 h.fine.enough) (λ x y rest. result_good c s _ h at (binary_of op ty x y) rest))
stuck c input s (i.Conv ty) h = plain _ (top_good s.stack _ (enough c s _ h 1 h.fine.enough) (λ x rest. tt))
stuck c input s (i.Jump k) h = plain _ tt
stuck c input s (i.JumpZero k) h = plain _ (top_good s.stack _ (enough c s _ h 1 h.fine.enough) (λ x rest. tt))
stuck c input s (i.Call k) h = called_stuck c s k (nat_lt (length s.frame.calls) c.calls) refl
stuck c input s i.Return h = returned_stuck s s.frame.calls
stuck c input s i.Turn h = plain _ (step_good s s.state.steps)
stuck c input s (i.Mine t n) h = plain _ (mine_good c s n (slice_get c.templates t) (range c s _ h) (enough c s _ h n h.fine.enough))
stuck c input s (i.NextMine t d) h = moved_stuck c s d (slice_get c.templates t) (range c s _ h) (enough c s _ h 2 h.fine.enough)
stuck c input s i.Count h = plain _ tt
stuck c input s (i.Guard g) h = plain _ tt
stuck c input s i.Unguard h = plain _ tt
stuck c input s i.Noted h = plain _ tt
stuck c input s (i.Print f) h = plain _ (print_good s c.formats f (range c s _ h) (slice_get c.formats f) refl (enough c s _ h _ h.fine.enough))
stuck c input s (i.Scan ty) h = top_stuck _ s.stack _ (enough c s _ h 1 h.fine.enough) (λ slot rest. read_stuck input s ty rest (within slot c.words))
stuck c input s (i.Exchange n) h = plain _ (exchange_good c s n h (range c s _ h) (slice_get c.meetings n) refl (enough c s _ h _ h.fine.enough))
stuck c input s i.Get h = top_stuck _ s.stack _ (enough c s _ h 1 h.fine.enough) (λ w rest. word_stuck stop.Get (within w (2 ^ 32)))
stuck c input s i.Put h = second_stuck _ s.stack _ (enough c s _ h 2 h.fine.enough) (λ w v rest. word_stuck (λ word. stop.Put word v) (within w (2 ^ 32)))
stuck c input s i.Sync h = plain _ tt
stuck c input s (i.Lift at) h = top_stuck _ s.stack _ (enough c s _ h 1 h.fine.enough) (λ notice rest. lifted_stuck s at rest (within notice 5))
stuck c input s i.End h = plain _ tt

stuck_at : (c : CodeParts) (input : List ℕ) (s : Node) → IsValid c → Fits c s → s.stage ≡ Going → (o : Option Instr) → slice_get c.instrs s.place ≡ o → (e.effect_at c input o s ≡ Stuck) ↔ HasNoNextAt c o s
stuck_at c input s v f g None r = absurd (row_there c.instrs s.place f.place r)
stuck_at c input s v f g (Some instr) r = stuck c input s instr (at_instr c s instr v f g r)

pub stuck_only : StuckOnly
stuck_only c input s v f g =
    subst (λ t. (e.next_at c input t s ≡ Stuck) ↔ HasNoNextAt c (slice_get c.instrs s.place) s) (sym g) (stuck_at c input s v f g (slice_get c.instrs s.place) refl)
