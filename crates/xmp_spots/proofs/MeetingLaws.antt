-- The recursion says which accesses may meet.
use Rattle.std.proofs.Common.{◌≡◌, Bool, true, false, not, ◌&&◌, ◌||◌, List, [], ◌∷◌, ◌++◌, ◌⊎◌, inl, inr, refl, sym, ap, ◌∙◌, subst, ⊎_elim, ◌↔◌}
use Rattle.std.proofs.lemmas.Bool.{false≢true, or_cases, and_parts, and_from}
use Rattle.xmp_base.specs.declared.place.Place.{Place}
use Rattle.xmp_paths.specs.Plans.{Plan, skip, emit, sequence, branch, loop}
use Rattle.xmp_paths.proofs.PathLaws.{or_left, or_right}
use Rattle.xmp_spots.specs.declared.touches.Touch.{Touch}
use Rattle.xmp_spots.specs.declared.events.Event.{Event}
use Rattle.xmp_spots.specs.declared.events.Event.TheVariants.{Touches, Sync, Wrong}
use Rattle.xmp_spots.specs.Meetings.{is_sync, After, MayMeet}
use Rattle.xmp_spots.specs.Joins.{passes, IsEarly, IsLate, Across, Meet}
use Rattle.xmp_spots.proofs.EarlyLaws.{early_forth, early_back}

-- ---- what follows a sync, by the recursion

-- an access before any sync in what may follow a sync, from where a path comes to the end without one
record EarlyBehind (plan : Plan Event) (t : Touch) : Type 0 where
  rest : Plan Event
  behind : After plan rest
  early : IsEarly rest t
  passing : passes rest ≡ true

-- a path comes to the end of the plan without a sync, from its start or from a sync
some_rest : (p : Plan Event) → (passes p ≡ true) ⊎ ((r : Plan Event) × After p r × (passes r ≡ true))
some_rest skip = inl refl
some_rest (emit (Touches t)) = inl refl
some_rest (emit Sync) = inr (skip, (refl, refl), refl)
some_rest (emit (Wrong rule at)) = inl refl
some_rest (sequence p q) =
    ⊎_elim
    (λ e. ⊎_elim
    (λ f. inl (and_from _ _ f e))
    (λ r. inr (sequence r.0 q, inl (r.0, r.1, refl), and_from _ _ r.2 e))
    (some_rest p))
    (λ r. inr (r.0, inr r.1, r.2))
    (some_rest q)
some_rest (branch p q) =
    ⊎_elim (λ e. inl (or_left _ _ e)) (λ r. inr (r.0, inl r.1, r.2)) (some_rest p)
some_rest (loop p) = inl refl

-- ---- late accesses

late_forth : (p : Plan Event) (t : Touch) → IsLate p t → (IsEarly p t × (passes p ≡ true)) ⊎ EarlyBehind p t
late_forth skip t h = absurd h
late_forth (emit e) t h = inl (h, ap (λ x. not (is_sync x)) h)
late_forth (sequence p q) t h =
    ⊎_elim
    (λ k. ⊎_elim
    (λ f. ⊎_elim
    (λ e. inl (inr (e, f.0), and_from _ _ e f.1))
    (λ r. inr (record {
      rest = sequence r.0 q;
      behind = inl (r.0, r.1, refl);
      early = inr (r.2, f.0);
      passing = and_from _ _ r.2 f.1;
    }))
    (some_rest p))
    (λ b. inr (record { rest = b.rest; behind = inr b.behind; early = b.early; passing = b.passing }))
    (late_forth q t k))
    (λ k. ⊎_elim
    (λ f. inl (inl f.0, and_from _ _ f.1 k.0))
    (λ b. inr (record {
      rest = sequence b.rest q;
      behind = inl (b.rest, b.behind, refl);
      early = inl b.early;
      passing = and_from _ _ b.passing k.0;
    }))
    (late_forth p t k.1))
    h
late_forth (branch p q) t h =
    ⊎_elim
    (λ k. ⊎_elim
    (λ l. ⊎_elim
    (λ f. inl (inl f.0, or_left _ _ f.1))
    (λ b. inr (record { rest = b.rest; behind = inl b.behind; early = b.early; passing = b.passing }))
    (late_forth p t l))
    (λ l. ⊎_elim
    (λ f. inl (inr f.0, or_right _ _ f.1))
    (λ b. inr (record { rest = b.rest; behind = inr b.behind; early = b.early; passing = b.passing }))
    (late_forth q t l))
    k)
    (λ k. inl (k.1, k.0))
    h
late_forth (loop p) t h =
    ⊎_elim
    (λ k. ⊎_elim
    (λ f. inl (f.0, refl))
    (λ b. inr (record {
      rest = sequence b.rest (loop p);
      behind = (b.rest, b.behind, refl);
      early = inl b.early;
      passing = and_from _ _ b.passing refl;
    }))
    (late_forth p t k))
    (λ k. inl (k, refl))
    h

-- an access before any sync in a plan that some path passes is late
early_late : (p : Plan Event) (t : Touch) → IsEarly p t → passes p ≡ true → IsLate p t
early_late skip t h e = absurd h
early_late (emit x) t h e = h
early_late (sequence p q) t h e =
    let both = and_parts (passes p) (passes q) e in
    ⊎_elim (λ k. inr (both.1, early_late p t k both.0)) (λ k. inl (early_late q t k.1 both.1)) h
early_late (branch p q) t h e = inr (e, h)
early_late (loop p) t h e = inr h

-- and so is one behind a sync
behind_late : (p : Plan Event) (t : Touch) (r : Plan Event) → After p r → IsEarly r t → passes r ≡ true → IsLate p t
behind_late skip t r b h e = absurd b
behind_late (emit x) t r b h e = absurd (subst (λ (l : Plan Event). IsEarly l t) b.1 h)
behind_late (sequence p q) t r b h e =
    ⊎_elim
    (λ s.
    let both = and_parts (passes s.0) (passes q) (subst (λ (l : Plan Event). passes l ≡ true) s.2 e) in
    ⊎_elim
    (λ k. inr (both.1, behind_late p t s.0 s.1 k both.0))
    (λ k. inl (early_late q t k.1 both.1))
    (subst (λ (l : Plan Event). IsEarly l t) s.2 h))
    (λ s. inl (behind_late q t r s h e))
    b
behind_late (branch p q) t r b h e =
    ⊎_elim (λ s. inl (inl (behind_late p t r s h e))) (λ s. inl (inr (behind_late q t r s h e))) b
behind_late (loop p) t r b h e =
    let both = and_parts (passes b.0) true (subst (λ (l : Plan Event). passes l ≡ true) b.2 e) in
    ⊎_elim
    (λ k. inl (behind_late p t b.0 b.1 k both.0))
    (λ k. inr k.1)
    (subst (λ (l : Plan Event). IsEarly l t) b.2 h)

-- ---- meetings

-- both accesses come before any sync, in the plan or in what may follow one sync
record BothBehind (plan : Plan Event) (a b : Touch) : Type 0 where
  rest : Plan Event
  behind : After plan rest
  one : IsEarly rest a
  other : IsEarly rest b

abbrev Together : Plan Event → Touch → Touch → Type 0
Together p a b = (IsEarly p a × IsEarly p b) ⊎ BothBehind p a b

swapped : (p : Plan Event) (a b : Touch) → Together p a b → Together p b a
swapped p a b h =
    ⊎_elim
    (λ k. inl (k.1, k.0))
    (λ k. inr (record { rest = k.rest; behind = k.behind; one = k.other; other = k.one }))
    h

in_front : (p q : Plan Event) (a b : Touch) → Together p a b → Together (sequence p q) a b
in_front p q a b h =
    ⊎_elim
    (λ k. inl (inl k.0, inl k.1))
    (λ k. inr (record { rest = sequence k.rest q; behind = inl (k.rest, k.behind, refl); one = inl k.one; other = inl k.other }))
    h

in_back : (p q : Plan Event) (a b : Touch) → Together q a b → Together (sequence p q) a b
in_back p q a b h =
    ⊎_elim
    (λ k. ⊎_elim
    (λ e. inl (inr (e, k.0), inr (e, k.1)))
    (λ r. inr (record {
      rest = sequence r.0 q;
      behind = inl (r.0, r.1, refl);
      one = inr (r.2, k.0);
      other = inr (r.2, k.1);
    }))
    (some_rest p))
    (λ k. inr (record { rest = k.rest; behind = inr k.behind; one = k.one; other = k.other }))
    h

late_early : (p q : Plan Event) (a b : Touch) → IsLate p a → IsEarly q b → Together (sequence p q) a b
late_early p q a b h k =
    ⊎_elim
    (λ f. inl (inl f.0, inr (f.1, k)))
    (λ f. inr (record {
      rest = sequence f.rest q;
      behind = inl (f.rest, f.behind, refl);
      one = inl f.early;
      other = inr (f.passing, k);
    }))
    (late_forth p a h)

on_left : (p q : Plan Event) (a b : Touch) → Together p a b → Together (branch p q) a b
on_left p q a b h =
    ⊎_elim
    (λ k. inl (inl k.0, inl k.1))
    (λ k. inr (record { rest = k.rest; behind = inl k.behind; one = k.one; other = k.other }))
    h

on_right : (p q : Plan Event) (a b : Touch) → Together q a b → Together (branch p q) a b
on_right p q a b h =
    ⊎_elim
    (λ k. inl (inr k.0, inr k.1))
    (λ k. inr (record { rest = k.rest; behind = inr k.behind; one = k.one; other = k.other }))
    h

in_turn : (p : Plan Event) (a b : Touch) → Together p a b → Together (loop p) a b
in_turn p a b h =
    ⊎_elim
    (λ k. inl k)
    (λ k. inr (record {
      rest = sequence k.rest (loop p);
      behind = (k.rest, k.behind, refl);
      one = inl k.one;
      other = inl k.other;
    }))
    h

next_turn : (p : Plan Event) (a b : Touch) → IsLate p a → IsEarly p b → Together (loop p) a b
next_turn p a b h k =
    ⊎_elim
    (λ f. inl (f.0, k))
    (λ f. inr (record {
      rest = sequence f.rest (loop p);
      behind = (f.rest, f.behind, refl);
      one = inl f.early;
      other = inr (f.passing, k);
    }))
    (late_forth p a h)

meet_forth : (p : Plan Event) (a b : Touch) → Meet p a b → Together p a b
meet_forth skip a b h = absurd h
meet_forth (emit e) a b h = inl h
meet_forth (sequence p q) a b h =
    ⊎_elim
    (λ k. ⊎_elim (λ l. in_front p q a b (meet_forth p a b l)) (λ l. in_back p q a b (meet_forth q a b l)) k)
    (λ k. ⊎_elim (λ l. late_early p q a b l.0 l.1) (λ l. swapped (sequence p q) b a (late_early p q b a l.0 l.1)) k)
    h
meet_forth (branch p q) a b h =
    ⊎_elim
    (λ k. ⊎_elim (λ l. on_left p q a b (meet_forth p a b l)) (λ l. on_right p q a b (meet_forth q a b l)) k)
    (λ k. ⊎_elim (λ l. inl (inl l.0, inr l.1)) (λ l. inl (inr l.1, inl l.0)) k)
    h
meet_forth (loop p) a b h =
    ⊎_elim
    (λ k. in_turn p a b (meet_forth p a b k))
    (λ k. ⊎_elim (λ l. next_turn p a b l.0 l.1) (λ l. swapped (loop p) b a (next_turn p b a l.0 l.1)) k)
    h

meet_back : (p : Plan Event) (a b : Touch) → Together p a b → Meet p a b
meet_back skip a b h = ⊎_elim (λ k. k.0) (λ k. k.behind) h
meet_back (emit e) a b h =
    ⊎_elim (λ k. k) (λ k. absurd (subst (λ (l : Plan Event). IsEarly l a) k.behind.1 k.one)) h
meet_back (sequence p q) a b h =
    ⊎_elim
    (λ k. ⊎_elim
    (λ x. ⊎_elim
    (λ y. inl (inl (meet_back p a b (inl (x, y)))))
    (λ y. inr (inl (early_late p a x y.0, y.1)))
    k.1)
    (λ x. ⊎_elim
    (λ y. inr (inr (early_late p b y x.0, x.1)))
    (λ y. inl (inr (meet_back q a b (inl (x.1, y.1)))))
    k.1)
    k.0)
    (λ k. ⊎_elim
    (λ s. ⊎_elim
    (λ x. ⊎_elim
    (λ y. inl (inl (meet_back p a b (inr (record { rest = s.0; behind = s.1; one = x; other = y })))))
    (λ y. inr (inl (behind_late p a s.0 s.1 x y.0, y.1)))
    (subst (λ (l : Plan Event). IsEarly l b) s.2 k.other))
    (λ x. ⊎_elim
    (λ y. inr (inr (behind_late p b s.0 s.1 y x.0, x.1)))
    (λ y. inl (inr (meet_back q a b (inl (x.1, y.1)))))
    (subst (λ (l : Plan Event). IsEarly l b) s.2 k.other))
    (subst (λ (l : Plan Event). IsEarly l a) s.2 k.one))
    (λ s. inl (inr (meet_back q a b (inr (record { rest = k.rest; behind = s; one = k.one; other = k.other })))))
    k.behind)
    h
meet_back (branch p q) a b h =
    ⊎_elim
    (λ k. ⊎_elim
    (λ x. ⊎_elim
    (λ y. inl (inl (meet_back p a b (inl (x, y)))))
    (λ y. inr (inl (x, y)))
    k.1)
    (λ x. ⊎_elim
    (λ y. inr (inr (y, x)))
    (λ y. inl (inr (meet_back q a b (inl (x, y)))))
    k.1)
    k.0)
    (λ k. ⊎_elim
    (λ s. inl (inl (meet_back p a b (inr (record { rest = k.rest; behind = s; one = k.one; other = k.other })))))
    (λ s. inl (inr (meet_back q a b (inr (record { rest = k.rest; behind = s; one = k.one; other = k.other })))))
    k.behind)
    h
meet_back (loop p) a b h =
    ⊎_elim
    (λ k. inl (meet_back p a b (inl k)))
    (λ k.
    let s = k.behind in
    ⊎_elim
    (λ x. ⊎_elim
    (λ y. inl (meet_back p a b (inr (record { rest = s.0; behind = s.1; one = x; other = y }))))
    (λ y. inr (inl (behind_late p a s.0 s.1 x y.0, y.1)))
    (subst (λ (l : Plan Event). IsEarly l b) s.2 k.other))
    (λ x. ⊎_elim
    (λ y. inr (inr (behind_late p b s.0 s.1 y x.0, x.1)))
    (λ y. inl (meet_back p a b (inl (x.1, y.1))))
    (subst (λ (l : Plan Event). IsEarly l b) s.2 k.other))
    (subst (λ (l : Plan Event). IsEarly l a) s.2 k.one))
    h

-- ---- and on the paths

pub meet_is : (p : Plan Event) (a b : Touch) → Meet p a b ↔ MayMeet p a b
meet_is p a b = (
  λ h. ⊎_elim
      (λ k. inl (early_forth p a k.0, early_forth p b k.1))
      (λ k. inr (k.rest, k.behind, early_forth k.rest a k.one, early_forth k.rest b k.other))
      (meet_forth p a b h),
  λ h. meet_back p a b (⊎_elim
      (λ k. inl (early_back p a k.0, early_back p b k.1))
      (λ k. inr (record { rest = k.0; behind = k.1; one = early_back k.0 a k.2; other = early_back k.0 b k.3 }))
      h),
)
