-- In every order of the images' steps, each get finds what its image sees.
use Rattle.std.proofs.Common.{◌≡◌, ◌≢◌, ℕ, zero, suc, ◌<◌, ◌≤◌, true, false, ◌==◌, if◌then◌else◌, List, [], length, take, slice_get, Some, None, refl, sym, ap, ◌∙◌, subst, arith, true≢false, ◌⊎◌, inl, inr, le_refl}
use Rattle.std.proofs.Math.Seq.{take-length}
use Rattle.std.proofs.lemmas.Bool.{cases_eq, cases_Bool}
use Rattle.xmp_script.specs.Script.{Access, Get, Script, at, after, after_all, words_at, seen, IsTo, Puts, IsFree}
use Rattle.xmp_script.specs.World.{World, start, MayAccess, MayArrive, arrivals, accessed, has_arrived, passed, Step, Accesses, Arrives, Passes, Reached, Begun, Then}
use Rattle.xmp_script.proofs.Words.{at_same, at_other, next_seen, after_local, no_put, no_puts, put_touches, some_image, images_none, images_one}

-- The newest phase is q. Each image is in it, or has arrived at the end of the one before. A word that no other image
-- puts in this phase holds what the image sees there.
pub record InOrder {V : Type 0} (s : Script V) (w : World V) (q : ℕ) : Type 0 where
  pub near : (k : ℕ) → k < s.images → (w.phase k ≡ q) ⊎ ((suc (w.phase k) ≡ q) × (w.arrived k ≡ true))
  pub low : q ≤ s.phases
  pub done : (k : ℕ) → k < s.images → w.arrived k ≡ true →
      (w.phase k < s.phases) × (w.place k ≡ length (s.accesses (w.phase k) k))
  pub words : (k e : ℕ) → k < s.images → ((j : ℕ) → j < s.images → j ≢ k → Puts s q j e → ⊥) →
      w.words e ≡ seen s k q (if w.phase k == q then w.place k else 0) e

-- an image that has not arrived is in the newest phase
in_newest : {V : Type 0} (s : Script V) (w : World V) (q k : ℕ) → InOrder s w q → k < s.images → w.arrived k ≡ false →
    w.phase k ≡ q
in_newest s w q k o lt not-yet = elim (o.near k lt) [ inl e ↦ e | inr late ↦ absurd (true≢false (sym late.1 ∙ not-yet)) ]

here_place : (x q i : ℕ) → x ≡ q → (if x == q then i else 0) ≡ i
here_place x q i e = grind arith

other_place : (x q i : ℕ) → x ≢ q → (if x == q then i else 0) ≡ 0
other_place x q i e = grind arith

-- nobody else puts a word that an image accesses
mine : {V : Type 0} (s : Script V) (q k e i : ℕ) (a : Access V) → IsFree s → q < s.phases → k < s.images →
    slice_get (s.accesses q k) i ≡ Some a → IsTo e a →
    (j : ℕ) → j < s.images → j ≢ k → Puts s q j e → ⊥
mine s q k e i a free lq lk at-i to j lj ne p = free q k j e lq lk lj (λ eq. ne (sym eq)) (i, a, at-i, to) p

-- A get finds what its image sees.
pub get_sees : {V : Type 0} (s : Script V) (w : World V) (q k e : ℕ) → IsFree s → InOrder s w q → k < s.images →
    MayAccess s w k (Get e) → w.words e ≡ seen s k (w.phase k) (w.place k) e
get_sees s w q k e free o lt may =
    let now : w.phase k ≡ q = in_newest s w q k o lt may.1 in
    let others = mine s (w.phase k) k e (w.place k) (Get e) free may.0 lt may.2 refl in
    let P : ℕ → Type 0 = λ r. (j : ℕ) → j < s.images → j ≢ k → Puts s r j e → ⊥ in
    let found = o.words k e lt (subst P now others) in
    let Q : ℕ → Type 0 = λ r. w.words e ≡ seen s k r (w.place k) e in
    found ∙ ap (λ i. seen s k q i e) (here_place (w.phase k) q (w.place k) now) ∙ ap (λ r. seen s k r (w.place k) e) (sym now)

access_words : {V : Type 0} (s : Script V) (w : World V) (q k : ℕ) (a : Access V) → IsFree s → InOrder s w q →
    k < s.images → MayAccess s w k a → w.phase k ≡ q →
    (j e : ℕ) → j < s.images → ((i : ℕ) → i < s.images → i ≢ j → Puts s q i e → ⊥) →
    after w.words a e ≡ seen s j q (if w.phase j == q then at w.place k (suc (w.place k)) j else 0) e
access_words s w q k a free o lt may now j e lj alone =
    let L : ℕ → Type 0 = λ r. slice_get (s.accesses r k) (w.place k) ≡ Some a in
    let stands : slice_get (s.accesses q k) (w.place k) ≡ Some a = subst L now may.2 in
    elim (cases_eq j k) [
      | inl eq ↦
          let P : ℕ → Type 0 = λ x. (x < s.images) → ((i : ℕ) → i < s.images → i ≢ x → Puts s q i e → ⊥) → after w.words a e ≡ seen s x q (if w.phase x == q then at w.place k (suc (w.place k)) x else 0) e in
          subst P (sym eq) (λ _ alone'.
          rw (here_place (w.phase k) q (at w.place k (suc (w.place k)) k) now, at_same w.place k (suc (w.place k)) k refl)
          (after_local a w.words (seen s k q (w.place k)) e (o.words k e lt alone' ∙ ap (λ i. seen s k q i e) (here_place (w.phase k) q (w.place k) now))
          ∙ ap (λ m. m e) (sym (next_seen (s.accesses q k) (w.place k) a (words_at s q) stands)))) lj alone
      | inr ne ↦
          rw (at_other w.place k (suc (w.place k)) j ne)
          (no_put a w.words e (λ p. alone k lt (λ eq. ne (sym eq)) (w.place k, a, stands, p)) ∙ o.words j e lj alone)
    ]

accessed_order : {V : Type 0} (s : Script V) (w : World V) (q k : ℕ) (a : Access V) → IsFree s → InOrder s w q →
    k < s.images → MayAccess s w k a → InOrder s (accessed w k a) q
accessed_order s w q k a free o lt may =
    let now : w.phase k ≡ q = in_newest s w q k o lt may.1 in
    record {
      near = o.near;
      low = o.low;
      done = λ j lj ar. elim (cases_eq j k) [
        | inl eq ↦ absurd (true≢false (sym ar ∙ ap w.arrived eq ∙ may.1))
        | inr ne ↦ (let d = o.done j lj ar in (d.0, at_other w.place k (suc (w.place k)) j ne ∙ d.1))
      ];
      words = λ j e lj alone. access_words s w q k a free o lt may now j e lj alone;
    }

arrived_order : {V : Type 0} (s : Script V) (w : World V) (q k : ℕ) → InOrder s w q → k < s.images → MayArrive s w k →
    InOrder s (has_arrived w k) q
arrived_order s w q k o lt may =
    let now : w.phase k ≡ q = in_newest s w q k o lt may.1 in
    record {
      near = λ j lj. elim (cases_eq j k) [
        | inl eq ↦ inl (ap w.phase eq ∙ now)
        | inr ne ↦ elim (o.near j lj) [ inl e ↦ inl e | inr late ↦ inr (late.0, at_other w.arrived k true j ne ∙ late.1) ]
      ];
      low = o.low;
      done = λ j lj ar. elim (cases_eq j k) [
        | inl eq ↦ (let P : ℕ → Type 0 = λ x. (w.phase x < s.phases) × (w.place x ≡ length (s.accesses (w.phase x) x)) in subst P (sym eq) (may.0, may.2))
        | inr ne ↦ o.done j lj (sym (at_other w.arrived k true j ne) ∙ ar)
      ];
      words = o.words;
    }

-- the last to leave a phase that others have left
later_order : {V : Type 0} (s : Script V) (w : World V) (q k : ℕ) → InOrder s w q → k < s.images → suc (w.phase k) ≡ q →
    InOrder s (passed w k) q
later_order s w q k o lt late = record {
  near = λ j lj. elim (cases_eq j k) [
    | inl eq ↦ inl (at_same w.phase k (suc (w.phase k)) j eq ∙ late)
    | inr ne ↦ elim (o.near j lj) [
      | inl e ↦ inl (at_other w.phase k (suc (w.phase k)) j ne ∙ e)
      | inr back ↦ inr (ap (λ x. suc x) (at_other w.phase k (suc (w.phase k)) j ne) ∙ back.0, at_other w.arrived k false j ne ∙ back.1)
    ]
  ];
  low = o.low;
  done = λ j lj ar. elim (cases_eq j k) [
    | inl eq ↦ absurd (true≢false (sym ar ∙ at_same w.arrived k false j eq))
    | inr ne ↦ rw (at_other w.phase k (suc (w.phase k)) j ne, at_other w.place k 0 j ne) (o.done j lj (sym (at_other w.arrived k false j ne) ∙ ar))
  ];
  words = λ j e lj alone. elim (cases_eq j k) [
    | inl eq ↦
        let was : (if w.phase j == q then w.place j else 0) ≡ 0 = other_place (w.phase j) q (w.place j) (λ e'. let h = ap w.phase eq in omega arith) in
        let is : (if at w.phase k (suc (w.phase k)) j == q then at w.place k 0 j else 0) ≡ 0 = here_place (at w.phase k (suc (w.phase k)) j) q (at w.place k 0 j) (at_same w.phase k (suc (w.phase k)) j eq ∙ late) ∙ at_same w.place k 0 j eq in
        o.words j e lj alone ∙ ap (λ i. seen s j q i e) (was ∙ sym is)
    | inr ne ↦ rw (at_other w.phase k (suc (w.phase k)) j ne, at_other w.place k 0 j ne) (o.words j e lj alone)
  ];
}

-- where all have made their accesses of a phase, the words are those at the start of the next
all_done : {V : Type 0} (s : Script V) (w : World V) (q k e : ℕ) → IsFree s → InOrder s w q → k < s.images →
    q < s.phases → ((j : ℕ) → j < s.images → (w.phase j ≡ q) × (w.place j ≡ length (s.accesses q j))) →
    w.words e ≡ words_at s (suc q) e
all_done s w q k e free o lt lq all =
    let whole : (j : ℕ) → j < s.images → ((i : ℕ) → i < s.images → i ≢ j → Puts s q i e → ⊥) → w.words e ≡ after_all (words_at s q) (s.accesses q j) e =
    λ j lj alone. o.words j e lj alone ∙ ap (λ i. seen s j q i e) (here_place (w.phase j) q (w.place j) (all j lj).0 ∙ (all j lj).1)
    ∙ ap (λ l. after_all (words_at s q) l e) (take-length (s.accesses q j)) in
    elim (some_image s q e s.images) [
      | inl found ↦
          let others = λ (i : ℕ) (li : i < s.images) (ni : i ≢ found.0) (p : Puts s q i e).
          mine s q found.0 e found.2.0 found.2.1 free lq found.1 found.2.2 (put_touches e found.2.1 found.2.3) i li ni p in
          whole found.0 found.1 others ∙ sym (images_one s q e s.images found.0 (words_at s q) found.1 others)
      | inr nobody ↦
          whole k lt (λ i li ni p. nobody i li p) ∙ no_puts (s.accesses q k) (words_at s q) e (λ i a at-i p. nobody k lt (i, a, at-i, p))
          ∙ sym (images_none s q e s.images (words_at s q) nobody)
    ]

-- the first to leave a phase
first_order : {V : Type 0} (s : Script V) (w : World V) (q k : ℕ) → IsFree s → InOrder s w q → k < s.images →
    w.arrived k ≡ true → w.phase k ≡ q → ((j : ℕ) → j < s.images → q < arrivals w j) → InOrder s (passed w k) (suc q)
first_order s w q k free o lt here now enough =
    let lq : q < s.phases = (let h = (o.done k lt here).0 in let P : ℕ → Type 0 = λ x. x < s.phases in subst P now h) in
    let both : (j : ℕ) → j < s.images → (w.phase j ≡ q) × (w.arrived j ≡ true) = λ j lj.
    elim (cases_Bool (w.arrived j)) [
      | inl ar ↦ elim (o.near j lj) [
        | inl e ↦ (e, ar)
        | inr back ↦ absurd (let h = enough j lj in let h' : arrivals w j ≡ suc (w.phase j) = rw ar in let b = back.0 in omega arith)
      ]
      | inr no-ar ↦ absurd (let h = enough j lj in let h' : arrivals w j ≡ w.phase j = rw no-ar in let e = in_newest s w q j o lj no-ar in omega arith)
    ] in
    let ends : (j : ℕ) → j < s.images → (w.phase j ≡ q) × (w.place j ≡ length (s.accesses q j)) = λ j lj.
    let b = both j lj in
    let P : ℕ → Type 0 = λ x. w.place j ≡ length (s.accesses x j) in
    (b.0, subst P b.0 (o.done j lj b.1).1) in
    record {
      near = λ j lj. elim (cases_eq j k) [
        | inl eq ↦ inl (at_same w.phase k (suc (w.phase k)) j eq ∙ ap (λ x. suc x) now)
        | inr ne ↦ inr (ap (λ x. suc x) (at_other w.phase k (suc (w.phase k)) j ne ∙ (both j lj).0), at_other w.arrived k false j ne ∙ (both j lj).1)
      ];
      low = lq;
      done = λ j lj ar. elim (cases_eq j k) [
        | inl eq ↦ absurd (true≢false (sym ar ∙ at_same w.arrived k false j eq))
        | inr ne ↦ rw (at_other w.phase k (suc (w.phase k)) j ne, at_other w.place k 0 j ne) (o.done j lj (sym (at_other w.arrived k false j ne) ∙ ar))
      ];
      words = λ j e lj alone.
          all_done s w q k e free o lt lq ends ∙ ap (λ i. seen s j (suc q) i e) (sym (elim (cases_eq j k) [
            | inl eq ↦ here_place (at w.phase k (suc (w.phase k)) j) (suc q) (at w.place k 0 j) (at_same w.phase k (suc (w.phase k)) j eq ∙ ap (λ x. suc x) now) ∙ at_same w.place k 0 j eq
            | inr ne ↦ other_place (at w.phase k (suc (w.phase k)) j) (suc q) (at w.place k 0 j) (λ e'. let h = at_other w.phase k (suc (w.phase k)) j ne in let h' = (both j lj).0 in omega arith)
          ]));
    }

-- every step keeps the order
pub step_order : {V : Type 0} (s : Script V) (w v : World V) (q : ℕ) → IsFree s → InOrder s w q → Step s w v →
    (q' : ℕ) × InOrder s v q'
step_order s w v q free o (Accesses k a lt may) = (q, accessed_order s w q k a free o lt may)
step_order s w v q free o (Arrives k lt may) = (q, arrived_order s w q k o lt may)
step_order s w v q free o (Passes k lt may) =
    elim (o.near k lt) [
      | inl now ↦ (suc q, first_order s w q k free o lt may.0 now (let P : ℕ → Type 0 = λ x. (j : ℕ) → j < s.images → x < arrivals w j in subst P now may.1))
      | inr back ↦ (q, later_order s w q k o lt back.0)
    ]

start_order : {V : Type 0} (s : Script V) → InOrder s (start s) 0
start_order s = record { near = λ k lt. inl refl; low = omega arith; done = λ k lt ar. absurd (true≢false (sym ar)); words = λ k e lt alone. refl }

pub reached_order : {V : Type 0} (s : Script V) (w : World V) → IsFree s → Reached s w → (q : ℕ) × InOrder s w q
reached_order s w free Begun = (0, start_order s)
reached_order s w free (Then r step) = let o = reached_order s _ free r in step_order s _ w o.0 free o.1 step

-- In every order each get finds what its image sees.
pub gets_see : {V : Type 0} (s : Script V) (w : World V) (k e : ℕ) → IsFree s → Reached s w → k < s.images →
    MayAccess s w k (Get e) → w.words e ≡ seen s k (w.phase k) (w.place k) e
gets_see s w k e free r lt may = let o = reached_order s w free r in get_sees s w o.0 k e free o.1 lt may

no_take : {V : Type 0} (i : ℕ) → take {A = Access V} i [] ≡ []
no_take zero = refl
no_take (suc i) = refl

-- where the newest phase is behind the last, the words are the script's final ones
pub final_words : {V : Type 0} (s : Script V) (w : World V) (q e : ℕ) → InOrder s w q → q ≡ s.phases → 0 < s.images →
    w.words e ≡ words_at s s.phases e
final_words {V} s w q e o q-is some =
    let nobody : (j : ℕ) → j < s.images → j ≢ 0 → Puts s q j e → ⊥ = λ j lj ne p.
    let P : ℕ → Type 0 = λ x. Puts s x j e in
    let p' = subst P q-is p in
    let L : List (Access V) → Type 0 = λ l. slice_get l p'.0 ≡ Some p'.1 in
    let h : None ≡ Some p'.1 = subst L (s.ends s.phases j (le_refl s.phases)) p'.2 in (cc) in
    let i : ℕ = if w.phase 0 == q then w.place 0 else 0 in
    o.words 0 e some nobody
    ∙ ap (λ q. after_all (words_at s q) (take i (s.accesses q 0)) e) q-is
    ∙ ap (λ l. after_all (words_at s s.phases) (take i l) e) (s.ends s.phases 0 (le_refl s.phases))
    ∙ ap (λ l. after_all (words_at s s.phases) l e) (no_take {V = V} i)

-- Where all images have passed the last phase, the words are the script's final ones.
pub last_words : {V : Type 0} (s : Script V) (w : World V) (e : ℕ) → IsFree s → Reached s w → 0 < s.images →
    ((k : ℕ) → k < s.images → w.phase k ≡ s.phases) → w.words e ≡ words_at s s.phases e
last_words s w e free r some all =
    let o = reached_order s w free r in
    let e0 = all 0 some in
    let q-is : o.0 ≡ s.phases = elim (o.1.near 0 some) [ inl now ↦ sym now ∙ e0 | inr back ↦ absurd (let h = o.1.low in let b = back.0 in omega arith) ] in
    final_words s w o.0 e o.1 q-is some

-- Where all images have made their accesses of the last phase, they are so already.
pub done_words : {V : Type 0} (s : Script V) (w : World V) (e : ℕ) → IsFree s → Reached s w → 0 < s.images →
    ((k : ℕ) → k < s.images → (suc (w.phase k) ≡ s.phases) × (w.place k ≡ length (s.accesses (w.phase k) k))) →
    w.words e ≡ words_at s s.phases e
done_words s w e free r some all =
    let o = reached_order s w free r in
    let last = all 0 some in
    elim (o.1.near 0 some) [
      | inl now ↦
          let q-is : suc o.0 ≡ s.phases = omega (arith, now, last.0) in
          all_done s w o.0 0 e free o.1 some (omega arith) (λ j lj.
          let same : w.phase j ≡ o.0 = omega (arith, (all j lj).0) in
          (same, (all j lj).1 ∙ ap (λ q. length (s.accesses q j)) same)) ∙ ap (λ q. words_at s q e) q-is
      | inr back ↦ final_words s w o.0 e o.1 (sym back.0 ∙ last.0) some
    ]
