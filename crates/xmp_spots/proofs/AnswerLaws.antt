-- Each plan has a first rule that breaks, or none: by the accesses of its parts as lists.
use Rattle.std.proofs.Common.{◌≡◌, Bool, true, false, not, ◌&&◌, ◌||◌, List, [], ◌∷◌, ◌++◌, ◌⊎◌, inl, inr, refl, sym, ap, ◌∙◌, subst, ⊎_elim, ◌↔◌, Option, Some, None, if◌then◌else◌, ℕ}
use Rattle.std.specs.Prelude.{Contains}
use Rattle.std.proofs.lemmas.Bool.{false≢true}
use Rattle.std.proofs.lemmas.List.Elements.{Contains-append_left, Contains-append_right, Contains-append_cases}
use Rattle.xmp_base.specs.declared.place.Place.{Place}
use Rattle.xmp_base.specs.declared.refusal.Phase.TheVariants.{Coarray}
use Rattle.xmp_base.specs.declared.refusal.Refusal.{Refusal}
use Rattle.xmp_base.specs.First.{IsFirst, first_of, comes_first}
use Rattle.xmp_base.proofs.FirstLaws.{first_or, comes_first-refl}
use Rattle.xmp_paths.specs.Plans.{Plan, skip, emit, sequence, branch, loop}
use Rattle.xmp_spots.specs.declared.touches.Touch.{Touch}
use Rattle.xmp_spots.specs.declared.events.Event.{Event}
use Rattle.xmp_spots.specs.declared.events.Event.TheVariants.{Touches, Sync, Wrong}
use Rattle.xmp_spots.specs.Clashes.{clash}
use Rattle.xmp_spots.specs.Joins.{passes, IsEarly, IsLate}
use Rattle.xmp_spots.specs.Races.{refused, ClashesWith, ClashBetween}
use Rattle.xmp_spots.specs.PlanRaces.{BreaksIn, BreaksWithin}
use Rattle.xmp_spots.proofs.SummaryLaws.{none_in, in_one, first_touch, first_sequence, first_branch, first_turns, first_in_plan}

-- ---- the first of some clashes

pub first_at : (a : Refusal) → IsFirst (λ r. a ≡ r) (Some a)
first_at a = (refl, λ r e. subst (λ x. comes_first a x ≡ true) e (comes_first-refl a))

pub first_where : (b : Bool) (P : Refusal → Type 0) (x : Option Refusal) → IsFirst P x → (found : Option Refusal) × IsFirst (λ r. (b ≡ true) × P r) found
first_where true P None h = (None, λ r k. h r k.1)
first_where true P (Some a) h = (Some a, ((refl, h.0), λ r k. h.1 r k.1))
first_where false P x h = (None, λ r k. false≢true k.0)

some_with : (x : Touch) (ys : List Touch) → (found : Option Refusal) × IsFirst (ClashesWith x ys) found
some_with x [] = (None, λ r h. h)
some_with x (y ∷ ys) =
    let one = first_where (clash x y) (λ r. (refused x ≡ r) ⊎ (refused y ≡ r)) (first_of (Some (refused x)) (Some (refused y)))
    (first_or (λ r. refused x ≡ r) (λ r. refused y ≡ r) (Some (refused x)) (Some (refused y)) (first_at (refused x)) (first_at (refused y))) in
    let rest = some_with x ys in (
      first_of one.0 rest.0,
      first_or (λ r. (clash x y ≡ true) × ((refused x ≡ r) ⊎ (refused y ≡ r))) (ClashesWith x ys) one.0 rest.0 one.1 rest.1,
    )

some_between : (xs ys : List Touch) → (found : Option Refusal) × IsFirst (ClashBetween xs ys) found
some_between [] ys = (None, λ r h. h)
some_between (x ∷ xs) ys =
    let one = some_with x ys in
    let rest = some_between xs ys in
    (first_of one.0 rest.0, first_or (ClashesWith x ys) (ClashBetween xs ys) one.0 rest.0 one.1 rest.1)

-- ---- the accesses of a plan as lists

where_true : Bool → List Touch → List Touch
where_true true xs = xs
where_true false xs = []

in_where : (b : Bool) (xs : List Touch) (P : Touch → Type 0) (t : Touch) → (Contains xs t ↔ P t) → Contains (where_true b xs) t ↔ ((b ≡ true) × P t)
unfolding where_true
in_where true xs P t h = (λ k. (refl, h.0 k), λ k. h.1 k.1)
in_where false xs P t h = (λ k. absurd (none_in t k), λ k. absurd (false≢true k.0))

in_both : (xs ys : List Touch) (P Q : Touch → Type 0) (t : Touch) → (Contains xs t ↔ P t) → (Contains ys t ↔ Q t) → Contains (xs ++ ys) t ↔ (P t ⊎ Q t)
in_both xs ys P Q t h k = (
  λ c. ⊎_elim (λ a. inl (h.0 a)) (λ b. inr (k.0 b)) (Contains-append_cases xs ys t c),
  λ c. ⊎_elim (λ a. Contains-append_left xs ys t (h.1 a)) (λ b. Contains-append_right xs ys t (k.1 b)) c,
)

accesses_at : Event → List Touch
accesses_at (Touches t) = t ∷ []
accesses_at Sync = []
accesses_at (Wrong rule at) = []

is_touch : Event → Bool
is_touch (Touches t) = true
is_touch Sync = false
is_touch (Wrong rule at) = false

in_event : (e : Event) (t : Touch) → Contains (accesses_at e) t ↔ (e ≡ Touches t)
unfolding accesses_at is_touch
in_event (Touches x) t = in_one x t
in_event Sync t = (λ k. absurd (none_in t k), λ k. absurd (false≢true (ap is_touch k)))
in_event (Wrong rule at) t = (λ k. absurd (none_in t k), λ k. absurd (false≢true (ap is_touch k)))

early_list : Plan Event → List Touch
early_list skip = []
early_list (emit e) = accesses_at e
early_list (sequence p q) = early_list p ++ where_true (passes p) (early_list q)
early_list (branch p q) = early_list p ++ early_list q
early_list (loop p) = early_list p

in_early : (p : Plan Event) (t : Touch) → Contains (early_list p) t ↔ IsEarly p t
unfolding early_list
in_early skip t = (λ k. none_in t k, λ k. absurd k)
in_early (emit e) t = in_event e t
in_early (sequence p q) t =
    in_both (early_list p) (where_true (passes p) (early_list q)) (IsEarly p) (λ t. (passes p ≡ true) × IsEarly q t) t (in_early p t)
    (in_where (passes p) (early_list q) (IsEarly q) t (in_early q t))
in_early (branch p q) t = in_both (early_list p) (early_list q) (IsEarly p) (IsEarly q) t (in_early p t) (in_early q t)
in_early (loop p) t = in_early p t

late_list : Plan Event → List Touch
late_list skip = []
late_list (emit e) = accesses_at e
late_list (sequence p q) = late_list q ++ where_true (passes q) (late_list p)
late_list (branch p q) = (late_list p ++ late_list q) ++ where_true (passes p || passes q) (early_list p ++ early_list q)
late_list (loop p) = late_list p ++ early_list p

in_late : (p : Plan Event) (t : Touch) → Contains (late_list p) t ↔ IsLate p t
unfolding late_list
in_late skip t = (λ k. none_in t k, λ k. absurd k)
in_late (emit e) t = in_event e t
in_late (sequence p q) t =
    in_both (late_list q) (where_true (passes q) (late_list p)) (IsLate q) (λ t. (passes q ≡ true) × IsLate p t) t (in_late q t)
    (in_where (passes q) (late_list p) (IsLate p) t (in_late p t))
in_late (branch p q) t =
    in_both (late_list p ++ late_list q) (where_true (passes p || passes q) (early_list p ++ early_list q)) (λ t. IsLate p t ⊎ IsLate q t)
    (λ t. ((passes p || passes q) ≡ true) × (IsEarly p t ⊎ IsEarly q t)) t
    (in_both (late_list p) (late_list q) (IsLate p) (IsLate q) t (in_late p t) (in_late q t))
    (in_where (passes p || passes q) (early_list p ++ early_list q) (λ t. IsEarly p t ⊎ IsEarly q t) t
    (in_both (early_list p) (early_list q) (IsEarly p) (IsEarly q) t (in_early p t) (in_early q t)))
in_late (loop p) t = in_both (late_list p) (early_list p) (IsLate p) (IsEarly p) t (in_late p t) (in_early p t)

-- ---- the answer

is_wrong : Event → Bool
is_wrong (Touches t) = false
is_wrong Sync = false
is_wrong (Wrong rule at) = true

rule_of : Event → ℕ
rule_of (Touches t) = 0
rule_of Sync = 0
rule_of (Wrong rule at) = rule

place_of : Place → Event → Place
place_of other (Touches t) = other
place_of other Sync = other
place_of other (Wrong rule at) = at

wrong_first : (rule : ℕ) (at : Place) → IsFirst (BreaksWithin (emit (Wrong rule at))) (Some (record { phase = Coarray; rule = rule; at = at }))
unfolding is_touch rule_of place_of
wrong_first rule at = (
  inr (refl, refl),
  λ r h. ⊎_elim
      (λ k. absurd (false≢true (ap is_touch k.1)))
      (λ k.
      let a : Coarray ≡ r.phase = sym k.0 in
      let b : rule ≡ r.rule = ap rule_of k.1 in
      let c : at ≡ r.at = ap (place_of at) k.1 in
      subst (λ (x : Refusal). comes_first (record { phase = Coarray; rule = rule; at = at }) x ≡ true)
      (λ i. record { phase = a i; rule = b i; at = c i })
      (comes_first-refl (record { phase = Coarray; rule = rule; at = at })))
      h,
)

some_event : (e : Event) → (found : Option Refusal) × IsFirst (BreaksWithin (emit e)) found
unfolding is_touch is_wrong
some_event (Touches t) = let x = some_with t (t ∷ []) in (x.0, first_touch t x.0 x.1)
some_event Sync = (
  None,
  λ r h. ⊎_elim (λ k. false≢true (ap is_touch k.1)) (λ k. false≢true (ap is_wrong k.1)) h,
)
some_event (Wrong rule at) = (Some (record { phase = Coarray; rule = rule; at = at }), wrong_first rule at)

some_within : (plan : Plan Event) → (found : Option Refusal) × IsFirst (BreaksWithin plan) found
some_within skip = (None, λ r h. ⊎_elim (λ k. k) (λ k. k.1) h)
some_within (emit e) = some_event e
some_within (sequence p q) =
    let x = some_within p in
    let y = some_within q in
    let z = some_between (late_list p) (early_list q) in
    (first_of (first_of x.0 y.0) z.0, first_sequence p q (late_list p) (early_list q) x.0 y.0 z.0 _ x.1 y.1 z.1 (in_late p) (in_early q) refl)
some_within (branch p q) =
    let x = some_within p in
    let y = some_within q in
    let z = some_between (early_list p) (early_list q) in
    (first_of (first_of x.0 y.0) z.0, first_branch p q (early_list p) (early_list q) x.0 y.0 z.0 _ x.1 y.1 z.1 (in_early p) (in_early q) refl)
some_within (loop p) =
    let x = some_within p in
    let z = some_between (late_list p) (early_list p) in
    (first_of x.0 z.0, first_turns p (late_list p) (early_list p) x.0 z.0 _ x.1 z.1 (in_late p) (in_early p) refl)

-- each plan has an answer
pub some_answer : (plan : Plan Event) → (found : Option Refusal) × IsFirst (BreaksIn plan) found
some_answer plan = let x = some_within plan in (x.0, first_in_plan plan x.0 x.1)
