-- The scripts of the tests are for their segments, and how a seat goes through them.
use Rattle.std.proofs.Common.{◌≡◌, ◌≢◌, ℕ, ℤ, pos, negsuc, zero, suc, ◌+◌, ◌*◌, ◌%◌, ◌<◌, ◌≤◌, Bool, true, false, List, [], ◌∷◌, length, slice_get, Option, Some, None, refl, sym, ap, ◌∙◌, subst, arith}
use Rattle.std.specs.Prelude.{⊤}
use Rattle.std.proofs.lemmas.Bool.{cases_eq}
use Rattle.std.proofs.lemmas.Option.{none-some, same_Some}
use Rattle.atomic_table.specs.Seated.{TableId}
use Rattle.xmp_script.specs.Script.{Access, Get, Put, IsFree, IsPutTo, IsTo, Puts, Script, Touches}
use Rattle.xmp_seg.specs.Rule.{IsFor}
use Rattle.xmp_seg.specs.Seats.{AreWords, IsDone, IsNext, Standing, after_access, after_arrival, after_look, after_pass, at_start}
use Rattle.xmp_seg.specs.Examples.{IsAt, accesses_ring, accesses_signs, accesses_single, least, ring, signs, single, start_signs}

-- each access is to a word below n
abbrev AllBelow : ℕ → List (Access ℤ) → Type 0
AllBelow n [] = ⊤
AllBelow n (Get x ∷ l) = (x < n) × AllBelow n l
AllBelow n (Put x v ∷ l) = (x < n) × AllBelow n l

below_first : (n e : ℕ) (a b : Access ℤ) (l : List (Access ℤ)) → AllBelow n (a ∷ l) → a ≡ b → IsTo e b → e < n
below_first n e (Get x) b l all is to = (let h : x ≡ e = subst (λ (c : Access ℤ). IsTo e c) (sym is) to in let h' = all.0 in omega arith)
below_first n e (Put x v) b l all is to = (let h : x ≡ e = subst (λ (c : Access ℤ). IsTo e c) (sym is) to in let h' = all.0 in omega arith)

below_rest : (n : ℕ) (a : Access ℤ) (l : List (Access ℤ)) → AllBelow n (a ∷ l) → AllBelow n l
below_rest n (Get x) l all = all.1
below_rest n (Put x v) l all = all.1

below : (n e : ℕ) (l : List (Access ℤ)) → AllBelow n l → ((i : ℕ) × (a : Access ℤ) × (slice_get l i ≡ Some a) × IsTo e a) → e < n
below n e [] all (i, a, at, to) = absurd (none-some a at)
below n e (x ∷ l) all (zero, a, at, to) = below_first n e x a l all (same_Some x a at) to
below n e (x ∷ l) all (suc i, a, at, to) = below n e l (below_rest n x l all) (i, a, at, to)

-- one image is in no conflict
alone_free : (s : Script ℤ) → s.images ≡ 1 → IsFree s
alone_free s one q k j e lq lk lj ne touches puts = ne (omega (arith, one, lk, lj))

inside_single : (q k e : ℕ) → k < 1 → Touches single q k e → e < 1
inside_single zero k e lk touches = below 1 e (accesses_single 0) (omega arith, (omega arith, tt)) touches
inside_single (suc q) k e lk touches = below 1 e [] tt touches

pub fit_single : IsFor 1 single
fit_single = record { free = alone_free single refl; inside = inside_single; some_image = omega arith; few_images = omega arith; few_phases = omega arith }

pub start_single : AreWords (pos 5 ∷ []) (λ e. pos 5)
start_single zero lt = refl
start_single (suc e) lt = absurd (omega arith)

inside_signs : (q k e : ℕ) → k < 1 → Touches signs q k e → e < 2
inside_signs zero k e lk touches = below 2 e (accesses_signs 0) (omega arith, (omega arith, (omega arith, (omega arith, (omega arith, tt))))) touches
inside_signs (suc q) k e lk touches = below 2 e [] tt touches

pub fit_signs : IsFor 2 signs
fit_signs = record { free = alone_free signs refl; inside = inside_signs; some_image = omega arith; few_images = omega arith; few_phases = omega arith }

pub are_signs : AreWords (negsuc 0 ∷ least ∷ []) start_signs
are_signs zero lt = refl
are_signs (suc zero) lt = refl
are_signs (suc (suc e)) lt = absurd (omega arith)

next_low : (k : ℕ) → (k + 1) % 3 < 3
next_low k = omega arith

inside_ring : (q k e : ℕ) → k < 3 → Touches ring q k e → e < 3
inside_ring zero k e lk touches = below 3 e (accesses_ring 0 k) (next_low k, tt) touches
inside_ring (suc zero) k e lk touches = below 3 e (accesses_ring 1 k) (lk, tt) touches
inside_ring (suc (suc q)) k e lk touches = below 3 e [] tt touches

-- the words of two images of the ring are two
next_apart : (k j : ℕ) → k < 3 → j < 3 → (k + 1) % 3 ≡ (j + 1) % 3 → k ≡ j
next_apart k j lk lj e = omega (arith, lk, lj, e)

only : (a b : Access ℤ) (i : ℕ) → slice_get (a ∷ []) i ≡ Some b → a ≡ b
only a b zero at = same_Some a b at
only a b (suc i) at = absurd (none-some b at)

puts_to : (e : ℕ) (a b : Access ℤ) → a ≡ b → IsPutTo e b → IsPutTo e a
puts_to e a b is to = subst (λ (c : Access ℤ). IsPutTo e c) (sym is) to

touches_to : (e : ℕ) (a b : Access ℤ) → a ≡ b → IsTo e b → IsTo e a
touches_to e a b is to = subst (λ (c : Access ℤ). IsTo e c) (sym is) to

free_ring : IsFree ring
free_ring zero k j e lq lk lj ne (i, a, at, to) (i', b, at', to') =
    let h : (k + 1) % 3 ≡ e = touches_to e (Put ((k + 1) % 3) (pos k)) a (only _ a i at) to in
    let h' : (j + 1) % 3 ≡ e = puts_to e (Put ((j + 1) % 3) (pos j)) b (only _ b i' at') to' in
    ne (next_apart k j lk lj (h ∙ sym h'))
free_ring (suc zero) k j e lq lk lj ne touches (i', b, at', to') = puts_to e (Get j) b (only (Get j) b i' at') to'
free_ring (suc (suc q)) k j e lq lk lj ne touches puts = absurd (omega arith)

pub fit_ring : IsFor 3 ring
fit_ring = record { free = free_ring; inside = inside_ring; some_image = omega arith; few_images = omega arith; few_phases = omega arith }

pub start_ring : AreWords (pos 0 ∷ pos 0 ∷ pos 0 ∷ []) (λ e. pos 0)
start_ring zero lt = refl
start_ring (suc zero) lt = refl
start_ring (suc (suc zero)) lt = refl
start_ring (suc (suc (suc e))) lt = absurd (omega arith)

-- a seat's next access, by a script that is another
pub next_at : (s e : Script ℤ) (v : Standing) (t : TableId) (k q i : ℕ) (b : Bool) (a : Access ℤ) → s ≡ e → IsAt t k q i b v → slice_get (e.accesses q k) i ≡ Some a → IsNext s v a
next_at s e v t k q i b a same at is =
    let P : ℕ → Type 0 = λ x. slice_get (e.accesses q x) i ≡ Some a in
    let Q : ℕ → Type 0 = λ x. slice_get (e.accesses x v.image) i ≡ Some a in
    let R : ℕ → Type 0 = λ x. slice_get (e.accesses v.phase v.image) x ≡ Some a in
    let T : Script ℤ → Type 0 = λ x. IsNext x v a in
    subst T (sym same) (subst R (sym at.3) (subst Q (sym at.2) (subst P (sym at.1) is)))

-- that its accesses of the phase are done
pub done_at : (s e : Script ℤ) (v : Standing) (t : TableId) (k q i : ℕ) → s ≡ e → IsAt t k q i false v → q < e.phases → i ≡ length (e.accesses q k) → IsDone s v
done_at s e v t k q i same at lt is =
    let P : ℕ → Type 0 = λ x. i ≡ length (e.accesses q x) in
    let Q : ℕ → Type 0 = λ x. i ≡ length (e.accesses x v.image) in
    let R : ℕ → Type 0 = λ x. x ≡ length (e.accesses v.phase v.image) in
    let L : ℕ → Type 0 = λ x. x < e.phases in
    let T : Script ℤ → Type 0 = λ x. IsDone x v in
    subst T (sym same) (at.4, subst L (sym at.2) lt, subst R (sym at.3) (subst Q (sym at.2) (subst P (sym at.1) is)))

pub at_accessed : (t : TableId) (k q i : ℕ) (b : Bool) (v w : Standing) → IsAt t k q i b v → w ≡ after_access v → IsAt t k q (suc i) b w
at_accessed t k q i b v w at is = subst (λ (x : Standing). IsAt t k q (suc i) b x) (sym is) (at.0, at.1, at.2, ap (λ x. suc x) at.3, at.4)

pub at_arrived : (t : TableId) (k q i : ℕ) (b : Bool) (v w : Standing) → IsAt t k q i b v → w ≡ after_arrival v → IsAt t k q i true w
at_arrived t k q i b v w at is = subst (λ (x : Standing). IsAt t k q i true x) (sym is) (at.0, at.1, at.2, at.3, refl)

pub at_passed : (t : TableId) (k q i n : ℕ) (b : Bool) (v w : Standing) → IsAt t k q i b v → w ≡ after_pass (after_look v n) → IsAt t k (suc q) 0 false w
at_passed t k q i n b v w at is = subst (λ (x : Standing). IsAt t k (suc q) 0 false x) (sym is) (at.0, at.1, ap (λ x. suc x) at.2, refl, refl)

pub at_looked : (t : TableId) (k q i n : ℕ) (b : Bool) (v w : Standing) → IsAt t k q i b v → w ≡ after_look v n → IsAt t k q i b w
at_looked t k q i n b v w at is = subst (λ (x : Standing). IsAt t k q i b x) (sym is) (at.0, at.1, at.2, at.3, at.4)

pub at_begin : (t : TableId) (k : ℕ) (v : Standing) → v ≡ at_start t k → IsAt t k 0 0 false v
at_begin t k v is = subst (λ (x : Standing). IsAt t k 0 0 false x) (sym is) (refl, refl, refl, refl, refl)
