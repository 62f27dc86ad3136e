-- The recursion says which accesses are reached before any sync, and whether a path has none.
use Rattle.std.proofs.Common.{◌≡◌, ℕ, zero, suc, Bool, true, false, not, ◌&&◌, ◌||◌, List, [], ◌∷◌, ◌++◌, ◌⊎◌, inl, inr, refl, sym, ap, ◌∙◌, subst, append_assoc, append-nil, ⊎_elim, ◌↔◌}
use Rattle.std.proofs.lemmas.Bool.{false≢true, or_cases, and_parts, and_from}
use Rattle.xmp_base.specs.declared.place.Place.{Place}
use Rattle.xmp_paths.specs.Plans.{Plan, skip, emit, sequence, branch, loop, Path, Repeated}
use Rattle.xmp_paths.proofs.PathLaws.{some_path, split, not_empty, alone, or_left, or_right}
use Rattle.xmp_spots.specs.declared.touches.Touch.{Touch}
use Rattle.xmp_spots.specs.declared.events.Event.{Event}
use Rattle.xmp_spots.specs.declared.events.Event.TheVariants.{Touches, Sync, Wrong}
use Rattle.xmp_spots.specs.Meetings.{is_sync, in_one_phase, Reached}
use Rattle.xmp_spots.specs.Joins.{passes, IsEarly}

one_phase-append : (xs ys : List Event) → in_one_phase xs ≡ true → in_one_phase ys ≡ true → in_one_phase (xs ++ ys) ≡ true
one_phase-append [] ys h k = k
one_phase-append (x ∷ xs) ys h k =
    let both = and_parts (not (is_sync x)) (in_one_phase xs) h in
    and_from _ _ both.0 (one_phase-append xs ys both.1 k)

one_phase_front : (xs ys : List Event) → in_one_phase (xs ++ ys) ≡ true → in_one_phase xs ≡ true
one_phase_front [] ys h = refl
one_phase_front (x ∷ xs) ys h =
    let both = and_parts (not (is_sync x)) (in_one_phase (xs ++ ys)) h in
    and_from _ _ both.0 (one_phase_front xs ys both.1)

one_phase_back : (xs ys : List Event) → in_one_phase (xs ++ ys) ≡ true → in_one_phase ys ≡ true
one_phase_back [] ys h = h
one_phase_back (x ∷ xs) ys h = one_phase_back xs ys (and_parts (not (is_sync x)) (in_one_phase (xs ++ ys)) h).1

-- ---- whether a path has no sync

pub passes_forth : (p : Plan Event) → passes p ≡ true → (es : List Event) × Path p es × (in_one_phase es ≡ true)
passes_forth skip h = ([], refl, refl)
passes_forth (emit e) h = (e ∷ [], refl, and_from _ _ h refl)
passes_forth (sequence p q) h =
    let both = and_parts (passes p) (passes q) h in
    let x = passes_forth p both.0 in
    let y = passes_forth q both.1 in (
      x.0 ++ y.0,
      record { front = x.0; back = y.0; whole = refl; in_front = x.1; in_back = y.1 },
      one_phase-append x.0 y.0 x.2 y.2,
    )
passes_forth (branch p q) h =
    ⊎_elim
    (λ e. let x = passes_forth p e in (x.0, inl x.1, x.2))
    (λ e. let x = passes_forth q e in (x.0, inr x.1, x.2))
    (or_cases (passes p) (passes q) h)
passes_forth (loop p) h = ([], (0, refl), refl)

pub passes_back : (p : Plan Event) (es : List Event) → Path p es → in_one_phase es ≡ true → passes p ≡ true
passes_back skip es w h = refl
passes_back (emit e) es w h = (and_parts (not (is_sync e)) true (subst (λ l. in_one_phase l ≡ true) w h)).0
passes_back (sequence p q) es w h =
    let clear : in_one_phase (w.front ++ w.back) ≡ true = subst (λ l. in_one_phase l ≡ true) w.whole h in
    and_from _ _ (passes_back p w.front w.in_front (one_phase_front w.front w.back clear))
    (passes_back q w.back w.in_back (one_phase_back w.front w.back clear))
passes_back (branch p q) es w h =
    ⊎_elim (λ v. or_left _ _ (passes_back p es v h)) (λ v. or_right _ _ (passes_back q es v h)) w
passes_back (loop p) es w h = refl

-- ---- accesses before any sync

pub early_forth : (p : Plan Event) (t : Touch) → IsEarly p t → Reached p t
early_forth skip t h = absurd h
early_forth (emit e) t h = record { before = []; after = []; path = ap (λ x. x ∷ []) (sym h); clear = refl }
early_forth (sequence p q) t h =
    ⊎_elim
    (λ k.
    let r = early_forth p t k in
    let y = some_path q in
    record {
      before = r.before;
      after = r.after ++ y.0;
      path = record {
        front = r.before ++ Touches t ∷ r.after;
        back = y.0;
        whole = sym (append_assoc r.before (Touches t ∷ r.after) y.0);
        in_front = r.path;
        in_back = y.1;
      };
      clear = r.clear;
    })
    (λ k.
    let x = passes_forth p k.0 in
    let r = early_forth q t k.1 in
    record {
      before = x.0 ++ r.before;
      after = r.after;
      path = record {
        front = x.0;
        back = r.before ++ Touches t ∷ r.after;
        whole = append_assoc x.0 r.before (Touches t ∷ r.after);
        in_front = x.1;
        in_back = r.path;
      };
      clear = one_phase-append x.0 r.before x.2 r.clear;
    })
    h
early_forth (branch p q) t h =
    ⊎_elim
    (λ k. let r = early_forth p t k in record { before = r.before; after = r.after; path = inl r.path; clear = r.clear })
    (λ k. let r = early_forth q t k in record { before = r.before; after = r.after; path = inr r.path; clear = r.clear })
    h
early_forth (loop p) t h =
    let r = early_forth p t h in
    record {
      before = r.before;
      after = r.after;
      path = (
        1,
        record {
          front = r.before ++ Touches t ∷ r.after;
          back = [];
          whole = sym (append-nil (r.before ++ Touches t ∷ r.after));
          in_front = r.path;
          in_back = refl;
        },
      );
      clear = r.clear;
    }

in_some_turn : (p : Plan Event) (t : Touch) → (Reached p t → IsEarly p t) → (n : ℕ) (before after : List Event) →
    Repeated (Path p) n (before ++ Touches t ∷ after) → in_one_phase before ≡ true → IsEarly p t
in_some_turn p t back zero before after w h = absurd (not_empty before after (Touches t) w)
in_some_turn p t back (suc n) before after w h =
    ⊎_elim
    (λ s. back (record { before = before; after = s.0; path = subst (Path p) s.1 w.in_front; clear = h }))
    (λ s. in_some_turn p t back n s.0 after (subst (Repeated (Path p) n) s.2 w.in_back)
    (one_phase_back w.front s.0 (subst (λ l. in_one_phase l ≡ true) s.1 h)))
    (split before after w.front w.back (Touches t) w.whole)

pub early_back : (p : Plan Event) (t : Touch) → Reached p t → IsEarly p t
early_back skip t r = absurd (not_empty r.before r.after (Touches t) r.path)
early_back (emit e) t r = sym (alone r.before r.after (Touches t) e r.path).1
early_back (sequence p q) t r =
    let w = r.path in
    ⊎_elim
    (λ s. inl (early_back p t (record { before = r.before; after = s.0; path = subst (Path p) s.1 w.in_front; clear = r.clear })))
    (λ s.
    let clear : in_one_phase (w.front ++ s.0) ≡ true = subst (λ l. in_one_phase l ≡ true) s.1 r.clear in
    inr (
      passes_back p w.front w.in_front (one_phase_front w.front s.0 clear),
      early_back q t (record {
        before = s.0;
        after = r.after;
        path = subst (Path q) s.2 w.in_back;
        clear = one_phase_back w.front s.0 clear;
      }),
    ))
    (split r.before r.after w.front w.back (Touches t) w.whole)
early_back (branch p q) t r =
    ⊎_elim
    (λ w. inl (early_back p t (record { before = r.before; after = r.after; path = w; clear = r.clear })))
    (λ w. inr (early_back q t (record { before = r.before; after = r.after; path = w; clear = r.clear })))
    r.path
early_back (loop p) t r = in_some_turn p t (early_back p t) r.path.0 r.before r.after r.path.1 r.clear

pub early_is : (p : Plan Event) (t : Touch) → IsEarly p t ↔ Reached p t
early_is p t = (early_forth p t, early_back p t)
