-- Paths, and what they leave out of date.
use Rattle.std.proofs.Common.{◌≡◌, ℕ, zero, suc, Bool, true, false, ◌||◌, ◌&&◌, not, List, [], ◌∷◌, ◌++◌, ◌⊎◌, inl, inr, refl, sym, ap, ◌∙◌, append_assoc, append-nil, cond, ⊎_elim}
use Rattle.std.proofs.lemmas.Bool.{false≢true, or_cases, cases_Bool}
use Rattle.xmp_paths.specs.Plans.{Plan, skip, emit, sequence, branch, loop, Path, Repeated}
use Rattle.xmp_paths.specs.Walk.{after_event, after_events}
use Rattle.xmp_paths.specs.May.{may_leave}
use Rattle.xmp_paths.specs.declared.event.Event.{Event}
use Rattle.xmp_paths.specs.declared.event.Event.TheVariants.{Read, Wrong, Mark}

-- every plan has a way through
pub some_path : {E : Type 0} (p : Plan E) → (es : List E) × Path p es
some_path skip = ([], refl)
some_path (emit e) = (e ∷ [], refl)
some_path (sequence p q) =
    let x = some_path p in
    let y = some_path q in
    (x.0 ++ y.0, record { front = x.0; back = y.0; whole = refl; in_front = x.1; in_back = y.1 })
some_path (branch p q) = let x = some_path p in (x.0, inl x.1)
some_path (loop p) = ([], (0, refl))

-- one more list at the end of some
pub repeated_more : {E : Type 0} (P : List E → Type 0) (n : ℕ) (xs ys : List E) → Repeated P n xs → P ys → Repeated P (suc n) (xs ++ ys)
repeated_more P zero xs ys r p = record { front = ys; back = []; whole = ap (λ l. l ++ ys) r ∙ sym (append-nil ys); in_front = p; in_back = refl }
repeated_more P (suc n) xs ys r p = record {
  front = r.front;
  back = r.back ++ ys;
  whole = ap (λ l. l ++ ys) r.whole ∙ append_assoc r.front r.back ys;
  in_front = r.in_front;
  in_back = repeated_more P n r.back ys r.in_back p;
}

-- a list that is cut in two, and has an event at some place, has it in one of the parts
pub split : {E : Type 0} (before after xs ys : List E) (e : E) → before ++ e ∷ after ≡ xs ++ ys →
    ((rest : List E) × (xs ≡ before ++ e ∷ rest)) ⊎ ((rest : List E) × (before ≡ xs ++ rest) × (ys ≡ rest ++ e ∷ after))
split before after [] ys e h = inr (before, refl, sym h)
split [] after (x ∷ xs) ys e h = inl (xs, cc)
split (b ∷ before) after (x ∷ xs) ys e h =
    let one : b ≡ x = cc in
    let rest : before ++ e ∷ after ≡ xs ++ ys = cc in
    ⊎_elim (λ w. inl (w.0, cc)) (λ w. inr (w.0, cc, w.2)) (split before after xs ys e rest)

pub not_empty : {E : Type 0} (before after : List E) (e : E) → before ++ e ∷ after ≡ [] → ⊥
not_empty [] after e h = cc
not_empty (b ∷ before) after e h = cc

pub alone : {E : Type 0} (before after : List E) (x e : E) → before ++ x ∷ after ≡ e ∷ [] → (before ≡ []) × (x ≡ e)
alone [] after x e h = (refl, cc)
alone (b ∷ before) after x e h = let none : before ++ x ∷ after ≡ [] = cc in absurd (not_empty before after x none)

pub or_left : (x y : Bool) → x ≡ true → (x || y) ≡ true
or_left true y e = refl
or_left false y e = absurd (false≢true e)

pub or_right : (x y : Bool) → y ≡ true → (x || y) ≡ true
or_right true y e = refl
or_right false y e = e

-- ---- one copy

-- some path through the plan leaves the copy out of date
pub record Leaves (object node : ℕ) (plan : Plan Event) (was : Bool) : Type 0 where
  pub events : List Event
  pub path : Path plan events
  pub stale : after_events object node events was ≡ true

-- a path through the plan, which leaves the copy out of date if `now` says so
pub record Way (object node : ℕ) (plan : Plan Event) (was now : Bool) : Type 0 where
  pub events : List Event
  pub path : Path plan events
  pub stale : now ≡ true → after_events object node events was ≡ true

module _ (object node : ℕ) where
  pub walk-append : (xs ys : List Event) (was : Bool) →
      after_events object node (xs ++ ys) was ≡ after_events object node ys (after_events object node xs was)
  walk-append [] ys was = refl
  walk-append (e ∷ xs) ys was = walk-append xs ys (after_event object node e was)

  mark_keeps : (t s c x y : Bool) → (x ≡ true → y ≡ true) → cond t (s || (not c && x)) x ≡ true → cond t (s || (not c && y)) y ≡ true
  mark_keeps false s c x y m h = m h
  mark_keeps true true c x y m h = refl
  mark_keeps true false true x y m h = h
  mark_keeps true false false x y m h = m h

  event_keeps : (e : Event) (x y : Bool) → (x ≡ true → y ≡ true) → after_event object node e x ≡ true → after_event object node e y ≡ true
  event_keeps (Read target nodes rule at) x y m h = m h
  event_keeps (Wrong rule at) x y m h = m h
  event_keeps (Mark target current stale) x y m h = mark_keeps _ _ _ x y m h

  -- what is out of date from less is so from more
  pub walk_keeps : (es : List Event) (x y : Bool) → (x ≡ true → y ≡ true) → after_events object node es x ≡ true → after_events object node es y ≡ true
  walk_keeps [] x y m h = m h
  walk_keeps (e ∷ es) x y m h = walk_keeps es (after_event object node e x) (after_event object node e y) (event_keeps e x y m) h

  may_keeps : (p : Plan Event) (x y : Bool) → (x ≡ true → y ≡ true) → may_leave object node p x ≡ true → may_leave object node p y ≡ true
  may_keeps skip x y m h = m h
  may_keeps (emit e) x y m h = event_keeps e x y m h
  may_keeps (sequence p q) x y m h =
      may_keeps q (may_leave object node p x) (may_leave object node p y) (may_keeps p x y m) h
  may_keeps (branch p q) x y m h =
      ⊎_elim (λ e. or_left _ _ (may_keeps p x y m e)) (λ e. or_right _ _ (may_keeps q x y m e)) (or_cases _ _ h)
  may_keeps (loop p) x y m h =
      ⊎_elim (λ e. or_left _ _ (m e)) (λ e. or_right _ _ (may_keeps p x y m e)) (or_cases _ _ h)

  pub way_to : (p : Plan Event) (was now : Bool) → (now ≡ true → Leaves object node p was) → Way object node p was now
  way_to p was now h =
      ⊎_elim
      (λ e. let x = h e in record { events = x.events; path = x.path; stale = λ _. x.stale })
      (λ e. let x = some_path p in record { events = x.0; path = x.1; stale = λ k. absurd (false≢true (sym e ∙ k)) })
      (cases_Bool now)

  join_ways : (p q : Plan Event) (was mid : Bool) → Way object node p was mid → Leaves object node q mid → Leaves object node (sequence p q) was
  join_ways p q was mid x y = record {
    events = x.events ++ y.events;
    path = record { front = x.events; back = y.events; whole = refl; in_front = x.path; in_back = y.path };
    stale = walk-append x.events y.events was ∙ walk_keeps y.events mid (after_events object node x.events was) x.stale y.stale;
  }

  once : (p : Plan Event) (was : Bool) → Leaves object node p was → Leaves object node (loop p) was
  once p was x = record {
    events = x.events;
    path = (1, record { front = x.events; back = []; whole = sym (append-nil x.events); in_front = x.path; in_back = refl });
    stale = x.stale;
  }

  -- where the recursion says that a path may leave the copy out of date, one does
  pub may_forth : (p : Plan Event) (was : Bool) → may_leave object node p was ≡ true → Leaves object node p was
  may_forth skip was h = record { events = []; path = refl; stale = h }
  may_forth (emit e) was h = record { events = e ∷ []; path = refl; stale = h }
  may_forth (sequence p q) was h =
      join_ways p q was (may_leave object node p was) (way_to p was (may_leave object node p was) (λ e. may_forth p was e))
      (may_forth q (may_leave object node p was) h)
  may_forth (branch p q) was h =
      ⊎_elim
      (λ e. let x = may_forth p was e in record { events = x.events; path = inl x.path; stale = x.stale })
      (λ e. let x = may_forth q was e in record { events = x.events; path = inr x.path; stale = x.stale })
      (or_cases _ _ h)
  may_forth (loop p) was h =
      ⊎_elim
      (λ e. record { events = []; path = (0, refl); stale = e })
      (λ e. once p was (may_forth p was e))
      (or_cases _ _ h)

  -- no turn leaves the copy out of date but where the head of a turn says that it may be
  pub turns_stay : (p : Plan Event) (head : Bool) →
      ((xs : List Event) (c : Bool) → Path p xs → (c ≡ true → head ≡ true) → after_events object node xs c ≡ true → head ≡ true) →
      (n : ℕ) (es : List Event) (c : Bool) → Repeated (Path p) n es → (c ≡ true → head ≡ true) → after_events object node es c ≡ true → head ≡ true
  turns_stay p head stays zero es c r m h = m (ap (λ l. after_events object node l c) (sym r) ∙ h)
  turns_stay p head stays (suc n) es c r m h =
      turns_stay p head stays n r.back (after_events object node r.front c) r.in_back (stays r.front c r.in_front m)
      (sym (walk-append r.front r.back c) ∙ (ap (λ l. after_events object node l c) (sym r.whole) ∙ h))

  turn_stays : (p : Plan Event) (was : Bool) →
      ((xs : List Event) (c : Bool) → Path p xs → after_events object node xs c ≡ true → may_leave object node p c ≡ true) →
      (xs : List Event) (c : Bool) → Path p xs → (c ≡ true → may_leave object node (loop p) was ≡ true) →
      after_events object node xs c ≡ true → may_leave object node (loop p) was ≡ true
  turn_stays p was back xs true w m k = m refl
  turn_stays p was back xs false w m k =
      or_right was (may_leave object node p was) (may_keeps p false was (λ e. absurd (false≢true e)) (back xs false w k))

  -- where a path leaves the copy out of date, the recursion says so
  pub may_back : (p : Plan Event) (es : List Event) (was : Bool) → Path p es → after_events object node es was ≡ true → may_leave object node p was ≡ true
  may_back skip es was w h = ap (λ l. after_events object node l was) (sym w) ∙ h
  may_back (emit e) es was w h = ap (λ l. after_events object node l was) (sym w) ∙ h
  may_back (sequence p q) es was w h =
      may_keeps q (after_events object node w.front was) (may_leave object node p was) (may_back p w.front was w.in_front)
      (may_back q w.back (after_events object node w.front was) w.in_back
      (sym (walk-append w.front w.back was) ∙ (ap (λ l. after_events object node l was) (sym w.whole) ∙ h)))
  may_back (branch p q) es was w h =
      ⊎_elim (λ v. or_left _ _ (may_back p es was v h)) (λ v. or_right _ _ (may_back q es was v h)) w
  may_back (loop p) es was w h =
      turns_stay p (may_leave object node (loop p) was) (turn_stays p was (λ xs c. may_back p xs c)) w.0 es was w.1
      (λ e. or_left was (may_leave object node p was) e) h

  -- after any turns the head of a turn says at least what they leave
  pub head_stays : (p : Plan Event) (was : Bool) (xs : List Event) (c : Bool) → Path p xs →
      (c ≡ true → may_leave object node (loop p) was ≡ true) → after_events object node xs c ≡ true → may_leave object node (loop p) was ≡ true
  head_stays p was = turn_stays p was (λ xs c. may_back p xs c)
