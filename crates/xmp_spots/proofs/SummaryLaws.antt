-- What the summary of a course says of its plan.
use Rattle.std.proofs.Common.{◌≡◌, ℕ, zero, suc, ◌<◌, arith, Bool, true, false, not, ◌&&◌, ◌||◌, List, [], ◌∷◌, ◌++◌, ◌⊎◌, inl, inr, refl, sym, ap, ◌∙◌, subst, ⊎_elim, ◌↔◌, Option, Result, Ok, Err, OnOk, if◌then◌else◌}
use Rattle.std.specs.Prelude.{Contains, IsPermutation}
use Rattle.std.proofs.lemmas.Bool.{false≢true, or_cases, and_parts, and_from}
use Rattle.std.proofs.lemmas.List.Elements.{Contains-append_left, Contains-append_right, Contains-push, Contains-push_cases, Contains-append_cases}
use Rattle.std.proofs.lemmas.List.Sorted.{Contains-permutation, IsPermutation-sym}
use Rattle.xmp_base.specs.declared.refusal.Refusal.{Refusal}
use Rattle.xmp_base.specs.First.{IsFirst, first_of}
use Rattle.xmp_base.proofs.FirstLaws.{first_or, first_same}
use Rattle.xmp_paths.specs.Plans.{Plan, skip, emit, sequence, branch, loop}
use Rattle.xmp_paths.proofs.PathLaws.{or_left, or_right}
use Rattle.xmp_spots.specs.declared.touches.Touch.{Touch}
use Rattle.xmp_spots.specs.declared.events.Event.{Event}
use Rattle.xmp_spots.specs.declared.events.Event.TheVariants.{Touches, Sync, Wrong}
use Rattle.xmp_spots.specs.declared.summary.Summary.{Summary}
use Rattle.xmp_spots.specs.Clashes.{clash}
use Rattle.xmp_spots.specs.Meetings.{is_sync}
use Rattle.xmp_spots.specs.Joins.{passes, IsEarly, IsLate}
use Rattle.xmp_spots.specs.Races.{refused, ClashesWith, ClashBetween}
use Rattle.xmp_spots.specs.PlanRaces.{Races, RacesAcross, RacesIn, IsWrong, BreaksWithin}
use Rattle.xmp_spots.specs.Summaries.{is_quiet, IsTurned, late_of, Sums}
use Rattle.xmp_spots.proofs.BetweenLaws.{clash_swap}
use Rattle.xmp_spots.proofs.EarlyLaws.{early_is}
use Rattle.xmp_spots.proofs.RaceLaws.{races_is}

-- ---- sets as lists

pub none_in : (t : Touch) → Contains [] t → ⊥
none_in t h = let l = h.1 in omega (arith, l)

here : (x : Touch) (xs : List Touch) → Contains (x ∷ xs) x
here x xs = Contains-append_left (x ∷ []) xs x (Contains-push [] x)

there : (x : Touch) (xs : List Touch) (t : Touch) → Contains xs t → Contains (x ∷ xs) t
there x xs t h = Contains-append_right (x ∷ []) xs t h

in_cases : (x : Touch) (xs : List Touch) (t : Touch) → Contains (x ∷ xs) t → (x ≡ t) ⊎ Contains xs t
in_cases x xs t h =
    ⊎_elim
    (λ k. ⊎_elim (λ n. absurd (none_in t n)) inl (Contains-push_cases [] x t k))
    inr
    (Contains-append_cases (x ∷ []) xs t h)

pub absorbed_in : (xs ys zs : List Touch) → IsPermutation (xs ++ ys) zs → (t : Touch) → Contains zs t ↔ (Contains xs t ⊎ Contains ys t)
absorbed_in xs ys zs p t = (
  λ h. Contains-append_cases xs ys t (Contains-permutation zs (xs ++ ys) t (IsPermutation-sym (xs ++ ys) zs p) h),
  λ h. Contains-permutation (xs ++ ys) zs t p (⊎_elim (Contains-append_left xs ys t) (Contains-append_right xs ys t) h),
)

pub absorbed_where : (xs ys zs : List Touch) (b : Bool) → b ≡ true → IsPermutation (xs ++ ys) zs → (t : Touch) →
    Contains zs t ↔ (Contains xs t ⊎ ((b ≡ true) × Contains ys t))
absorbed_where xs ys zs b e p t = (
  λ h. ⊎_elim inl (λ k. inr (e, k)) ((absorbed_in xs ys zs p t).0 h),
  λ h. (absorbed_in xs ys zs p t).1 (⊎_elim inl (λ k. inr k.1) h),
)

-- ---- clashes between sets

with_forth : (x : Touch) (ys : List Touch) (r : Refusal) → ClashesWith x ys r →
    (y : Touch) × Contains ys y × (clash x y ≡ true) × ((refused x ≡ r) ⊎ (refused y ≡ r))
with_forth x [] r h = absurd h
with_forth x (y ∷ ys) r h =
    ⊎_elim
    (λ k. (y, here y ys, k.0, k.1))
    (λ k. let m = with_forth x ys r k in (m.0, there y ys m.0 m.1, m.2, m.3))
    h

with_back : (x : Touch) (ys : List Touch) (r : Refusal) (y : Touch) → Contains ys y → clash x y ≡ true →
    (refused x ≡ r) ⊎ (refused y ≡ r) → ClashesWith x ys r
with_back x [] r y h c e = absurd (none_in y h)
with_back x (z ∷ ys) r y h c e =
    ⊎_elim
    (λ k. inl (subst (λ t. clash x t ≡ true) (sym k) c, subst (λ t. (refused x ≡ r) ⊎ (refused t ≡ r)) (sym k) e))
    (λ k. inr (with_back x ys r y k c e))
    (in_cases z ys y h)

clash_forth : (xs ys : List Touch) (r : Refusal) → ClashBetween xs ys r → RacesAcross (Contains xs) (Contains ys) r
clash_forth [] ys r h = absurd h
clash_forth (x ∷ xs) ys r h =
    ⊎_elim
    (λ k. let m = with_forth x ys r k in record { one = x; other = m.0; first = here x xs; second = m.1; clashes = m.2; at = m.3 })
    (λ k. let m = clash_forth xs ys r k in
    record { one = m.one; other = m.other; first = there x xs m.one m.first; second = m.second; clashes = m.clashes; at = m.at })
    h

clash_back : (xs ys : List Touch) (r : Refusal) (a b : Touch) → Contains xs a → Contains ys b → clash a b ≡ true →
    (refused a ≡ r) ⊎ (refused b ≡ r) → ClashBetween xs ys r
clash_back [] ys r a b h k c e = absurd (none_in a h)
clash_back (x ∷ xs) ys r a b h k c e =
    ⊎_elim
    (λ l. inl (with_back x ys r b k (subst (λ t. clash t b ≡ true) (sym l) c) (subst (λ t. (refused t ≡ r) ⊎ (refused b ≡ r)) (sym l) e)))
    (λ l. inr (clash_back xs ys r a b l k c e))
    (in_cases x xs a h)

between_is : (xs ys : List Touch) (P Q : Touch → Type 0) → ((t : Touch) → Contains xs t ↔ P t) → ((t : Touch) → Contains ys t ↔ Q t) →
    (r : Refusal) → ClashBetween xs ys r ↔ RacesAcross P Q r
between_is xs ys P Q p q r = (
  λ h. let m = clash_forth xs ys r h in record {
    one = m.one;
    other = m.other;
    first = (p m.one).0 m.first;
    second = (q m.other).0 m.second;
    clashes = m.clashes;
    at = m.at;
  },
  λ h. clash_back xs ys r h.one h.other ((p h.one).1 h.first) ((q h.other).1 h.second) h.clashes h.at,
)

-- ---- plans in which no phase ends

pub quiet_passes : (p : Plan Event) → is_quiet p ≡ true → passes p ≡ true
quiet_passes skip h = refl
quiet_passes (emit e) h = h
quiet_passes (sequence p q) h =
    let both = and_parts (is_quiet p) (is_quiet q) h in and_from _ _ (quiet_passes p both.0) (quiet_passes q both.1)
quiet_passes (branch p q) h = or_left _ _ (quiet_passes p (and_parts (is_quiet p) (is_quiet q) h).0)
quiet_passes (loop p) h = refl

pub quiet_early : (p : Plan Event) (t : Touch) → is_quiet p ≡ true → IsLate p t → IsEarly p t
quiet_early skip t h l = absurd l
quiet_early (emit e) t h l = l
quiet_early (sequence p q) t h l =
    let both = and_parts (is_quiet p) (is_quiet q) h in
    ⊎_elim (λ k. inr (quiet_passes p both.0, quiet_early q t both.1 k)) (λ k. inl (quiet_early p t both.0 k.1)) l
quiet_early (branch p q) t h l =
    let both = and_parts (is_quiet p) (is_quiet q) h in
    ⊎_elim (λ k. ⊎_elim (λ m. inl (quiet_early p t both.0 m)) (λ m. inr (quiet_early q t both.1 m)) k) (λ k. k.1) l
quiet_early (loop p) t h l = ⊎_elim (quiet_early p t h) (λ k. k) l

pub quiet_late : (p : Plan Event) (t : Touch) → is_quiet p ≡ true → IsEarly p t → IsLate p t
quiet_late skip t h l = absurd l
quiet_late (emit e) t h l = l
quiet_late (sequence p q) t h l =
    let both = and_parts (is_quiet p) (is_quiet q) h in
    ⊎_elim (λ k. inr (quiet_passes q both.1, quiet_late p t both.0 k)) (λ k. inl (quiet_late q t both.1 k.1)) l
quiet_late (branch p q) t h l =
    let both = and_parts (is_quiet p) (is_quiet q) h in
    ⊎_elim (λ k. inl (inl (quiet_late p t both.0 k))) (λ k. inl (inr (quiet_late q t both.1 k))) l
quiet_late (loop p) t h l = inr l

-- accesses before any sync meet
early_races : (p : Plan Event) (r : Refusal) → RacesAcross (IsEarly p) (IsEarly p) r → RacesIn p r
early_races p r m =
    (races_is p r).1
    (⊎_elim
    (λ e. record {
      one = m.one;
      other = m.other;
      meet = inl ((early_is p m.one).0 m.first, (early_is p m.other).0 m.second);
      clashes = m.clashes;
      at = e;
    })
    (λ e. record {
      one = m.other;
      other = m.one;
      meet = inl ((early_is p m.other).0 m.second, (early_is p m.one).0 m.first);
      clashes = clash_swap m.other m.one ∙ m.clashes;
      at = e;
    })
    m.at)

quiet_turned : (p : Plan Event) → is_quiet p ≡ true → IsTurned p
quiet_turned p h = record {
  late = λ t. quiet_late p t h;
  judged = λ r m. early_races p r (record {
    one = m.one;
    other = m.other;
    first = quiet_early p m.one h m.first;
    second = m.second;
    clashes = m.clashes;
    at = m.at;
  });
}

loop_turned : (p : Plan Event) → IsTurned (loop p)
loop_turned p = record {
  late = λ t h. inr h;
  judged = λ r m.
      ⊎_elim
      (λ l. inr (record { one = m.one; other = m.other; first = l; second = m.second; clashes = m.clashes; at = m.at }))
      (λ e. inl (early_races p r (record { one = m.one; other = m.other; first = e; second = m.second; clashes = m.clashes; at = m.at })))
      m.first;
}

-- ---- summaries by what is known of each field

pub sums_quiet : (plan : Plan Event) (z : Summary) → is_quiet plan ≡ true → z.quiet ≡ true → z.passes ≡ true → z.turned ≡ false →
    ((t : Touch) → Contains z.early t ↔ IsEarly plan t) → IsFirst (BreaksWithin plan) z.found → Sums plan z
sums_quiet plan z q a b c early found = record {
  quiet = λ e. q;
  passes = b ∙ sym (quiet_passes plan q);
  turned = λ e. absurd (false≢true (sym c ∙ e));
  early = early;
  late = λ t. subst (λ l. Contains l t ↔ IsLate plan t) (sym (ap (λ x. if x then z.early else z.late) a))
      (λ h. quiet_late plan t q ((early t).0 h), λ h. (early t).1 (quiet_early plan t q h));
  found = found;
}

pub sums_apart : (plan : Plan Event) (z : Summary) → z.quiet ≡ false → z.passes ≡ passes plan → (z.turned ≡ true → IsTurned plan) →
    ((t : Touch) → Contains z.early t ↔ IsEarly plan t) → ((t : Touch) → Contains z.late t ↔ IsLate plan t) →
    IsFirst (BreaksWithin plan) z.found → Sums plan z
sums_apart plan z a b c early late found = record {
  quiet = λ e. absurd (false≢true (sym a ∙ e));
  passes = b;
  turned = c;
  early = early;
  late = λ t. subst (λ l. Contains l t ↔ IsLate plan t) (sym (ap (λ x. if x then z.early else z.late) a)) (late t);
  found = found;
}

pub late_apart : (plan : Plan Event) (s : Summary) → Sums plan s → s.quiet ≡ false → (t : Touch) → Contains s.late t ↔ IsLate plan t
late_apart plan s h a t = subst (λ l. Contains l t ↔ IsLate plan t) (ap (λ x. if x then s.early else s.late) a) (h.late t)

pub sums_kept : (plan : Plan Event) (s z : Summary) → z.late ≡ late_of s → z.quiet ≡ false → z.early ≡ s.early → z.passes ≡ s.passes →
    z.turned ≡ s.turned → z.found ≡ s.found → Sums plan s → Sums plan z
sums_kept plan s z l a e b c f h =
    sums_apart plan z a (b ∙ h.passes) (λ t. h.turned (sym c ∙ t))
    (λ t. subst (λ x. Contains x t ↔ IsEarly plan t) (sym e) (h.early t))
    (λ t. subst (λ x. Contains x t ↔ IsLate plan t) (sym l) (h.late t))
    (subst (IsFirst (BreaksWithin plan)) (sym f) h.found)

-- ---- what breaks in two parts

parts_alike : (A B X F S T : Type 0) → (((A ⊎ (F × S)) ⊎ (B ⊎ (F × T))) ⊎ X) ↔ (((A ⊎ B) ⊎ X) ⊎ (F × (S ⊎ T)))
parts_alike A B X F S T = (
  λ h. ⊎_elim
      (λ k. ⊎_elim
      (λ l. ⊎_elim (λ a. inl (inl (inl a))) (λ w. inr (w.0, inl w.1)) l)
      (λ l. ⊎_elim (λ b. inl (inl (inr b))) (λ w. inr (w.0, inr w.1)) l)
      k)
      (λ x. inl (inr x))
      h,
  λ h. ⊎_elim
      (λ k. ⊎_elim (λ l. ⊎_elim (λ a. inl (inl (inl a))) (λ b. inl (inr (inl b))) l) (λ x. inr x) k)
      (λ w. ⊎_elim (λ s. inl (inl (inr (w.0, s)))) (λ t. inl (inr (inr (w.0, t)))) w.1)
      h,
)

first_parts : (P Q X Y : Refusal → Type 0) (whole : Refusal → Type 0) (x y z w : Option Refusal) →
    IsFirst P x → IsFirst Q y → IsFirst X z → ((r : Refusal) → X r ↔ Y r) → ((r : Refusal) → ((P r ⊎ Q r) ⊎ Y r) ↔ whole r) →
    w ≡ first_of (first_of x y) z → IsFirst whole w
first_parts P Q X Y whole x y z w h k l e f g =
    subst (IsFirst whole) (sym g)
    (first_same (λ r. (P r ⊎ Q r) ⊎ X r) whole
    (λ r. (
      λ s. (f r).0 (⊎_elim inl (λ a. inr ((e r).0 a)) s),
      λ s. ⊎_elim inl (λ a. inr ((e r).1 a)) ((f r).1 s),
    ))
    (first_of (first_of x y) z)
    (first_or (λ r. P r ⊎ Q r) X (first_of x y) z (first_or P Q x y h k) l))

pub first_sequence : (p q : Plan Event) (xs ys : List Touch) (x y z w : Option Refusal) →
    IsFirst (BreaksWithin p) x → IsFirst (BreaksWithin q) y → IsFirst (ClashBetween xs ys) z →
    ((t : Touch) → Contains xs t ↔ IsLate p t) → ((t : Touch) → Contains ys t ↔ IsEarly q t) →
    w ≡ first_of (first_of x y) z → IsFirst (BreaksWithin (sequence p q)) w
first_sequence p q xs ys x y z w h k l a b e =
    first_parts (BreaksWithin p) (BreaksWithin q) (ClashBetween xs ys) (RacesAcross (IsLate p) (IsEarly q)) (BreaksWithin (sequence p q))
    x y z w h k l (between_is xs ys (IsLate p) (IsEarly q) a b)
    (λ r. parts_alike (RacesIn p r) (RacesIn q r) (RacesAcross (IsLate p) (IsEarly q) r) _ _ _) e

pub first_branch : (p q : Plan Event) (xs ys : List Touch) (x y z w : Option Refusal) →
    IsFirst (BreaksWithin p) x → IsFirst (BreaksWithin q) y → IsFirst (ClashBetween xs ys) z →
    ((t : Touch) → Contains xs t ↔ IsEarly p t) → ((t : Touch) → Contains ys t ↔ IsEarly q t) →
    w ≡ first_of (first_of x y) z → IsFirst (BreaksWithin (branch p q)) w
first_branch p q xs ys x y z w h k l a b e =
    first_parts (BreaksWithin p) (BreaksWithin q) (ClashBetween xs ys) (RacesAcross (IsEarly p) (IsEarly q)) (BreaksWithin (branch p q))
    x y z w h k l (between_is xs ys (IsEarly p) (IsEarly q) a b)
    (λ r. parts_alike (RacesIn p r) (RacesIn q r) (RacesAcross (IsEarly p) (IsEarly q) r) _ _ _) e

pub first_turns : (p : Plan Event) (xs ys : List Touch) (x z w : Option Refusal) → IsFirst (BreaksWithin p) x → IsFirst (ClashBetween xs ys) z →
    ((t : Touch) → Contains xs t ↔ IsLate p t) → ((t : Touch) → Contains ys t ↔ IsEarly p t) → w ≡ first_of x z →
    IsFirst (BreaksWithin (loop p)) w
first_turns p xs ys x z w h l a b e =
    let across = between_is xs ys (IsLate p) (IsEarly p) a b in
    subst (IsFirst (BreaksWithin (loop p))) (sym e)
    (first_same (λ r. BreaksWithin p r ⊎ ClashBetween xs ys r) (BreaksWithin (loop p))
    (λ r. (
      λ s. ⊎_elim (λ k. ⊎_elim (λ m. inl (inl m)) (λ m. inr m) k) (λ k. inl (inr ((across r).0 k))) s,
      λ s. ⊎_elim (λ k. ⊎_elim (λ m. inl (inl m)) (λ m. inr ((across r).1 m)) k) (λ k. inl (inr k)) s,
    ))
    (first_of x z) (first_or (BreaksWithin p) (ClashBetween xs ys) x z h l))

-- ---- one event

pub in_one : (t x : Touch) → Contains (t ∷ []) x ↔ (Touches t ≡ Touches x)
in_one t x = (
  λ k. ⊎_elim (λ i. ap Touches i) (λ n. absurd (none_in x n)) (in_cases t [] x k),
  λ k. let same : t ≡ x = cc in subst (Contains (t ∷ [])) same (here t []),
)

is_touch : Event → Bool
is_touch (Touches x) = true
is_touch Sync = false
is_touch (Wrong rule at) = false

not_wrong : (t : Touch) (r : Refusal) → Touches t ≡ Wrong r.rule r.at → ⊥
unfolding is_touch
not_wrong t r k = false≢true (sym (ap is_touch k))

pub first_touch : (t : Touch) (found : Option Refusal) → IsFirst (ClashesWith t (t ∷ [])) found → IsFirst (BreaksWithin (emit (Touches t))) found
first_touch t found h =
    first_same (ClashesWith t (t ∷ [])) (BreaksWithin (emit (Touches t)))
    (λ r. (
      λ s. ⊎_elim (λ k. inl (t, refl, k.0, ⊎_elim (λ i. i) (λ i. i) k.1)) (λ k. absurd k) s,
      λ s. ⊎_elim
          (λ k. let alike = k.1 in let same : t ≡ k.0 = cc in
          inl (subst (λ x. clash x x ≡ true) (sym same) k.2, inl (ap refused same ∙ k.3)))
          (λ k. absurd (not_wrong t r k.1))
          s,
    ))
    found h

pub sums_touch : (t : Touch) (z : Summary) (found : Option Refusal) → z.quiet ≡ true → z.passes ≡ true → z.turned ≡ false → z.early ≡ t ∷ [] →
    z.found ≡ found → IsFirst (ClashesWith t (t ∷ [])) found → Sums (emit (Touches t)) z
sums_touch t z found a b c e f h =
    sums_quiet (emit (Touches t)) z refl a b c
    (λ x. subst (λ l. Contains l x ↔ (Touches t ≡ Touches x)) (sym e) (in_one t x))
    (subst (IsFirst (BreaksWithin (emit (Touches t)))) (sym f) (first_touch t found h))

-- ---- a part that follows

true_right : (b : Bool) → (b && true) ≡ b
true_right true = refl
true_right false = refl

-- the second part is blank
pub follows_blank : (p q : Plan Event) (s n : Summary) (across found : Option Refusal) → n.quiet ≡ true → n.early ≡ [] → Sums p s → Sums q n →
    IsFirst (ClashBetween (late_of s) n.early) across → found ≡ first_of (first_of s.found n.found) across →
    Sums (sequence p q) (record s { found = found })
follows_blank p q s n across found a b hp hq l e =
    let quiet = hq.quiet a in
    let through = quiet_passes q quiet in
    let none_early : (t : Touch) → IsEarly q t → ⊥ = λ t h. none_in t (subst (λ x. Contains x t) b ((hq.early t).1 h)) in
    let none_late : (t : Touch) → IsLate q t → ⊥ = λ t h. none_early t (quiet_early q t quiet h) in
    record {
      quiet = λ k. and_from _ _ (hp.quiet k) quiet;
      passes = hp.passes ∙ (sym (true_right (passes p)) ∙ ap (λ x. passes p && x) (sym through));
      turned = λ k. let turned = hp.turned k in record {
        late = λ t h. ⊎_elim (λ x. inr (through, turned.late t x)) (λ x. absurd (none_early t x.1)) h;
        judged = λ r m. inl (inl (turned.judged r (record {
          one = m.one;
          other = m.other;
          first = ⊎_elim (λ x. absurd (none_late m.one x)) (λ x. x.1) m.first;
          second = ⊎_elim (λ x. x) (λ x. absurd (none_early m.other x.1)) m.second;
          clashes = m.clashes;
          at = m.at;
        })));
      };
      early = λ t. (λ h. inl ((hp.early t).0 h), λ h. ⊎_elim (hp.early t).1 (λ x. absurd (none_early t x.1)) h);
      late = λ t. (λ h. inr (through, (hp.late t).0 h), λ h. ⊎_elim (λ x. absurd (none_late t x)) (λ x. (hp.late t).1 x.1) h);
      found = first_sequence p q (late_of s) n.early s.found n.found across found hp.found hq.found l hp.late hq.early e;
    }

-- the first part is blank
pub blank_follows : (p q : Plan Event) (s n : Summary) (across found : Option Refusal) → s.quiet ≡ true → s.early ≡ [] → Sums p s → Sums q n →
    IsFirst (ClashBetween (late_of s) n.early) across → found ≡ first_of (first_of s.found n.found) across →
    Sums (sequence p q) (record n { found = found })
blank_follows p q s n across found a b hp hq l e =
    let quiet = hp.quiet a in
    let through = quiet_passes p quiet in
    let none_early : (t : Touch) → IsEarly p t → ⊥ = λ t h. none_in t (subst (λ x. Contains x t) b ((hp.early t).1 h)) in
    let none_late : (t : Touch) → IsLate p t → ⊥ = λ t h. none_early t (quiet_early p t quiet h) in
    record {
      quiet = λ k. and_from _ _ quiet (hq.quiet k);
      passes = hq.passes ∙ ap (λ x. x && passes q) (sym through);
      turned = λ k. let turned = hq.turned k in record {
        late = λ t h. ⊎_elim (λ x. absurd (none_early t x)) (λ x. inl (turned.late t x.1)) h;
        judged = λ r m. inl (inr (turned.judged r (record {
          one = m.one;
          other = m.other;
          first = ⊎_elim (λ x. x) (λ x. absurd (none_late m.one x.1)) m.first;
          second = ⊎_elim (λ x. absurd (none_early m.other x)) (λ x. x.1) m.second;
          clashes = m.clashes;
          at = m.at;
        })));
      };
      early = λ t. (λ h. inr (through, (hq.early t).0 h), λ h. ⊎_elim (λ x. absurd (none_early t x)) (λ x. (hq.early t).1 x.1) h);
      late = λ t. (λ h. inl ((hq.late t).0 h), λ h. ⊎_elim (hq.late t).1 (λ x. absurd (none_late t x.1)) h);
      found = first_sequence p q (late_of s) n.early s.found n.found across found hp.found hq.found l hp.late hq.early e;
    }

-- no phase ends in either
pub follows_quiet : (p q : Plan Event) (s n z : Summary) → s.quiet ≡ true → n.quiet ≡ true → Sums p s → Sums q n →
    ((t : Touch) → Contains z.early t ↔ (Contains s.early t ⊎ Contains n.early t)) → z.quiet ≡ s.quiet → z.passes ≡ s.passes →
    z.turned ≡ false → IsFirst (BreaksWithin (sequence p q)) z.found → Sums (sequence p q) z
follows_quiet p q s n z a b hp hq early i j k found =
    let one = hp.quiet a in
    let through = quiet_passes p one in
    sums_quiet (sequence p q) z (and_from _ _ one (hq.quiet b)) (i ∙ a) (j ∙ (hp.passes ∙ through)) k
    (λ t. (
      λ h. ⊎_elim (λ x. inl ((hp.early t).0 x)) (λ x. inr (through, (hq.early t).0 x)) ((early t).0 h),
      λ h. (early t).1 (⊎_elim (λ x. inl ((hp.early t).1 x)) (λ x. inr ((hq.early t).1 x.1)) h),
    ))
    found

pub branches_quiet : (p q : Plan Event) (s n z : Summary) → s.quiet ≡ true → n.quiet ≡ true → Sums p s → Sums q n →
    ((t : Touch) → Contains z.early t ↔ (Contains s.early t ⊎ Contains n.early t)) → z.quiet ≡ s.quiet → z.passes ≡ s.passes →
    z.turned ≡ false → IsFirst (BreaksWithin (branch p q)) z.found → Sums (branch p q) z
branches_quiet p q s n z a b hp hq early i j k found =
    let one = hp.quiet a in
    sums_quiet (branch p q) z (and_from _ _ one (hq.quiet b)) (i ∙ a) (j ∙ (hp.passes ∙ quiet_passes p one)) k
    (λ t. (
      λ h. ⊎_elim (λ x. inl ((hp.early t).0 x)) (λ x. inr ((hq.early t).0 x)) ((early t).0 h),
      λ h. (early t).1 (⊎_elim (λ x. inl ((hp.early t).1 x)) (λ x. inr ((hq.early t).1 x)) h),
    ))
    found

-- a phase ends in one of them
pub follows_apart : (p q : Plan Event) (s n z : Summary) → s.quiet ≡ false → n.quiet ≡ false → Sums p s → Sums q n →
    ((t : Touch) → Contains z.early t ↔ (Contains s.early t ⊎ ((s.passes ≡ true) × Contains n.early t))) →
    ((t : Touch) → Contains z.late t ↔ (Contains n.late t ⊎ ((n.passes ≡ true) × Contains s.late t))) →
    z.quiet ≡ s.quiet → z.passes ≡ (s.passes && n.passes) → z.turned ≡ false → IsFirst (BreaksWithin (sequence p q)) z.found →
    Sums (sequence p q) z
follows_apart p q s n z a b hp hq early late i j k found =
    let lp = late_apart p s hp a in
    let lq = late_apart q n hq b in
    sums_apart (sequence p q) z (i ∙ a) (j ∙ (λ x. hp.passes x && hq.passes x)) (λ e. absurd (false≢true (sym k ∙ e)))
    (λ t. (
      λ h. ⊎_elim (λ x. inl ((hp.early t).0 x)) (λ x. inr (sym hp.passes ∙ x.0, (hq.early t).0 x.1)) ((early t).0 h),
      λ h. (early t).1 (⊎_elim (λ x. inl ((hp.early t).1 x)) (λ x. inr (hp.passes ∙ x.0, (hq.early t).1 x.1)) h),
    ))
    (λ t. (
      λ h. ⊎_elim (λ x. inl ((lq t).0 x)) (λ x. inr (sym hq.passes ∙ x.0, (lp t).0 x.1)) ((late t).0 h),
      λ h. (late t).1 (⊎_elim (λ x. inl ((lq t).1 x)) (λ x. inr (hq.passes ∙ x.0, (lp t).1 x.1)) h),
    ))
    found

pub branches_apart : (p q : Plan Event) (s n z : Summary) → s.quiet ≡ false → n.quiet ≡ false → Sums p s → Sums q n →
    ((t : Touch) → Contains z.early t ↔ (Contains s.early t ⊎ Contains n.early t)) →
    ((t : Touch) → Contains z.late t
    ↔ ((Contains s.late t ⊎ Contains n.late t) ⊎ (((s.passes || n.passes) ≡ true) × (Contains s.early t ⊎ Contains n.early t)))) →
    z.quiet ≡ s.quiet → z.passes ≡ (s.passes || n.passes) → z.turned ≡ false → IsFirst (BreaksWithin (branch p q)) z.found →
    Sums (branch p q) z
branches_apart p q s n z a b hp hq early late i j k found =
    let lp = late_apart p s hp a in
    let lq = late_apart q n hq b in
    let either : (s.passes || n.passes) ≡ (passes p || passes q) = λ x. hp.passes x || hq.passes x in
    sums_apart (branch p q) z (i ∙ a) (j ∙ either) (λ e. absurd (false≢true (sym k ∙ e)))
    (λ t. (
      λ h. ⊎_elim (λ x. inl ((hp.early t).0 x)) (λ x. inr ((hq.early t).0 x)) ((early t).0 h),
      λ h. (early t).1 (⊎_elim (λ x. inl ((hp.early t).1 x)) (λ x. inr ((hq.early t).1 x)) h),
    ))
    (λ t. (
      λ h. ⊎_elim
          (λ x. inl (⊎_elim (λ y. inl ((lp t).0 y)) (λ y. inr ((lq t).0 y)) x))
          (λ x. inr (sym either ∙ x.0, ⊎_elim (λ y. inl ((hp.early t).0 y)) (λ y. inr ((hq.early t).0 y)) x.1))
          ((late t).0 h),
      λ h. (late t).1 (⊎_elim
          (λ x. inl (⊎_elim (λ y. inl ((lp t).1 y)) (λ y. inr ((lq t).1 y)) x))
          (λ x. inr (either ∙ x.0, ⊎_elim (λ y. inl ((hp.early t).1 y)) (λ y. inr ((hq.early t).1 y)) x.1))
          h),
    ))
    found

-- ---- any number of times

-- a loop round a part that is turned already adds nothing
pub turns_nothing : (p : Plan Event) (s : Summary) → (s.quiet || s.turned) ≡ true → Sums p s → Sums (loop p) (record s { passes = true })
turns_nothing p s a hp =
    let turned : IsTurned p = ⊎_elim (λ e. quiet_turned p (hp.quiet e)) (λ e. hp.turned e) (or_cases s.quiet s.turned a) in
    record {
      quiet = hp.quiet;
      passes = refl;
      turned = λ e. loop_turned p;
      early = hp.early;
      late = λ t. (λ h. inl ((hp.late t).0 h), λ h. (hp.late t).1 (⊎_elim (λ x. x) (turned.late t) h));
      found = first_same (BreaksWithin p) (BreaksWithin (loop p))
          (λ r. (
            λ h. ⊎_elim (λ x. inl (inl x)) (λ x. inr x) h,
            λ h. ⊎_elim (λ x. inl (⊎_elim (λ y. y) (turned.judged r) x)) (λ x. inr x) h,
          ))
          s.found hp.found;
    }

pub turns_more : (p : Plan Event) (s z : Summary) (across : Option Refusal) → s.quiet ≡ false → Sums p s →
    IsFirst (ClashBetween s.late s.early) across → z.early ≡ s.early → ((t : Touch) → Contains z.late t ↔ (Contains s.late t ⊎ Contains s.early t)) →
    z.quiet ≡ s.quiet → z.passes ≡ true → z.found ≡ first_of s.found across → Sums (loop p) z
turns_more p s z across a hp l e late i j f =
    let lp = late_apart p s hp a in
    sums_apart (loop p) z (i ∙ a) j (λ k. loop_turned p)
    (λ t. subst (λ x. Contains x t ↔ IsEarly p t) (sym e) (hp.early t))
    (λ t. (
      λ h. ⊎_elim (λ x. inl ((lp t).0 x)) (λ x. inr ((hp.early t).0 x)) ((late t).0 h),
      λ h. (late t).1 (⊎_elim (λ x. inl ((lp t).1 x)) (λ x. inr ((hp.early t).1 x)) h),
    ))
    (first_turns p s.late s.early s.found across z.found hp.found l lp hp.early f)

-- ---- the verdict

pub first_in_plan : (plan : Plan Event) (x : Option Refusal) → IsFirst (BreaksWithin plan) x → IsFirst (λ r. Races plan r ⊎ IsWrong plan r) x
first_in_plan plan x h =
    first_same (BreaksWithin plan) (λ r. Races plan r ⊎ IsWrong plan r)
    (λ r. (λ k. ⊎_elim (λ l. inl ((races_is plan r).0 l)) inr k, λ k. ⊎_elim (λ l. inl ((races_is plan r).1 l)) inr k)) x h

-- ---- what the code keeps

pub on_ok_two : {X E : Type 0} (r : Result X E) (A B Q : Type 0) → (A → B → Q) → OnOk r A → OnOk r B → OnOk r Q
on_ok_two (Ok x) A B Q f a b = f a b
on_ok_two (Err e) A B Q f a b = tt

pub on_ok_three : {X E : Type 0} (r : Result X E) (A B C Q : Type 0) → (A → B → C → Q) → OnOk r A → OnOk r B → OnOk r C → OnOk r Q
on_ok_three (Ok x) A B C Q f a b c = f a b c
on_ok_three (Err e) A B C Q f a b c = tt

pub neither : (a b : Bool) → (a || b) ≡ false → a ≡ false
neither true b h = absurd (false≢true (sym h))
neither false b h = refl

pub united_more : (a b c d m e z : List Touch) (x : Bool) → x ≡ true → IsPermutation (a ++ b) m → IsPermutation (c ++ d) e →
    ((t : Touch) → Contains z t ↔ (Contains m t ⊎ Contains e t)) → (t : Touch) →
    Contains z t ↔ ((Contains a t ⊎ Contains b t) ⊎ ((x ≡ true) × (Contains c t ⊎ Contains d t)))
united_more a b c d m e z x h p q w t = (
  λ k. ⊎_elim (λ l. inl ((absorbed_in a b m p t).0 l)) (λ l. inr (h, (absorbed_in c d e q t).0 l)) ((w t).0 k),
  λ k. (w t).1 (⊎_elim (λ l. inl ((absorbed_in a b m p t).1 l)) (λ l. inr ((absorbed_in c d e q t).1 l.1)) k),
)

pub united_less : (a b c d m : List Touch) (x : Bool) → x ≡ false → IsPermutation (a ++ b) m → (t : Touch) →
    Contains m t ↔ ((Contains a t ⊎ Contains b t) ⊎ ((x ≡ true) × (Contains c t ⊎ Contains d t)))
united_less a b c d m x h p t = (
  λ k. inl ((absorbed_in a b m p t).0 k),
  λ k. ⊎_elim (λ l. (absorbed_in a b m p t).1 l) (λ l. absurd (false≢true (sym h ∙ l.0))) k,
)
