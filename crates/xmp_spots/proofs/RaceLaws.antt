-- Where rule 2 breaks in a plan, by the recursion that says which accesses meet.
use Rattle.std.proofs.Common.{◌≡◌, true, ◌⊎◌, inl, inr, sym, ap, ◌∙◌, subst, ⊎_elim, ◌↔◌}
use Rattle.xmp_base.specs.declared.refusal.Refusal.{Refusal}
use Rattle.xmp_paths.specs.Plans.{Plan, skip, emit, sequence, branch, loop}
use Rattle.xmp_spots.specs.declared.touches.Touch.{Touch}
use Rattle.xmp_spots.specs.Clashes.{clash}
use Rattle.xmp_spots.specs.declared.events.Event.{Event}
use Rattle.xmp_spots.specs.declared.events.Event.TheVariants.{Touches}
use Rattle.xmp_spots.specs.Joins.{IsEarly, IsLate, Across, Meet}
use Rattle.xmp_spots.specs.Races.{refused}
use Rattle.xmp_spots.specs.PlanRaces.{Races, RacesAcross, RacesIn}
use Rattle.xmp_spots.proofs.BetweenLaws.{clash_swap}
use Rattle.xmp_spots.proofs.MeetingLaws.{meet_is}

-- two accesses that meet clash, and the refusal is at the first
record Meets (plan : Plan Event) (r : Refusal) : Type 0 where
  one : Touch
  other : Touch
  meet : Meet plan one other
  clashes : clash one other ≡ true
  at : refused one ≡ r

across_forth : (P Q : Touch → Type 0) (plan : Plan Event) (r : Refusal) →
    ((a b : Touch) → Across P Q a b → Meet plan a b) → RacesAcross P Q r → Meets plan r
across_forth P Q plan r f h =
    ⊎_elim
    (λ e. record { one = h.one; other = h.other; meet = f h.one h.other (inl (h.first, h.second)); clashes = h.clashes; at = e })
    (λ e. record {
      one = h.other;
      other = h.one;
      meet = f h.other h.one (inr (h.first, h.second));
      clashes = clash_swap h.other h.one ∙ h.clashes;
      at = e;
    })
    h.at

across_back : (P Q : Touch → Type 0) (r : Refusal) (a b : Touch) → Across P Q a b → clash a b ≡ true → refused a ≡ r → RacesAcross P Q r
across_back P Q r a b h c e =
    ⊎_elim
    (λ k. record { one = a; other = b; first = k.0; second = k.1; clashes = c; at = inl e })
    (λ k. record { one = b; other = a; first = k.0; second = k.1; clashes = clash_swap b a ∙ c; at = inr e })
    h

races_forth : (p : Plan Event) (r : Refusal) → RacesIn p r → Meets p r
races_forth skip r h = absurd h
races_forth (emit e) r h = record { one = h.0; other = h.0; meet = (h.1, h.1); clashes = h.2; at = h.3 }
races_forth (sequence p q) r h =
    ⊎_elim
    (λ k. ⊎_elim
    (λ l. let m = races_forth p r l in record { one = m.one; other = m.other; meet = inl (inl m.meet); clashes = m.clashes; at = m.at })
    (λ l. let m = races_forth q r l in record { one = m.one; other = m.other; meet = inl (inr m.meet); clashes = m.clashes; at = m.at })
    k)
    (λ k. across_forth (IsLate p) (IsEarly q) (sequence p q) r (λ a b m. inr m) k)
    h
races_forth (branch p q) r h =
    ⊎_elim
    (λ k. ⊎_elim
    (λ l. let m = races_forth p r l in record { one = m.one; other = m.other; meet = inl (inl m.meet); clashes = m.clashes; at = m.at })
    (λ l. let m = races_forth q r l in record { one = m.one; other = m.other; meet = inl (inr m.meet); clashes = m.clashes; at = m.at })
    k)
    (λ k. across_forth (IsEarly p) (IsEarly q) (branch p q) r (λ a b m. inr m) k)
    h
races_forth (loop p) r h =
    ⊎_elim
    (λ l. let m = races_forth p r l in record { one = m.one; other = m.other; meet = inl m.meet; clashes = m.clashes; at = m.at })
    (λ k. across_forth (IsLate p) (IsEarly p) (loop p) r (λ a b m. inr m) k)
    h

races_back : (p : Plan Event) (r : Refusal) (a b : Touch) → Meet p a b → clash a b ≡ true → refused a ≡ r → RacesIn p r
races_back skip r a b m c e = absurd m
races_back (emit x) r a b m c e =
    let alike : Touches a ≡ Touches b = sym m.0 ∙ m.1 in
    let same : a ≡ b = cc in
    (a, m.0, subst (λ t. clash a t ≡ true) (sym same) c, e)
races_back (sequence p q) r a b m c e =
    ⊎_elim
    (λ k. ⊎_elim (λ l. inl (inl (races_back p r a b l c e))) (λ l. inl (inr (races_back q r a b l c e))) k)
    (λ k. inr (across_back (IsLate p) (IsEarly q) r a b k c e))
    m
races_back (branch p q) r a b m c e =
    ⊎_elim
    (λ k. ⊎_elim (λ l. inl (inl (races_back p r a b l c e))) (λ l. inl (inr (races_back q r a b l c e))) k)
    (λ k. inr (across_back (IsEarly p) (IsEarly q) r a b k c e))
    m
races_back (loop p) r a b m c e =
    ⊎_elim (λ l. inl (races_back p r a b l c e)) (λ k. inr (across_back (IsLate p) (IsEarly p) r a b k c e)) m

pub races_is : (p : Plan Event) (r : Refusal) → RacesIn p r ↔ Races p r
races_is p r = (
  λ h. let m = races_forth p r h in record {
    one = m.one;
    other = m.other;
    meet = (meet_is p m.one m.other).0 m.meet;
    clashes = m.clashes;
    at = m.at;
  },
  λ h. races_back p r h.one h.other ((meet_is p h.one h.other).1 h.meet) h.clashes h.at,
)
