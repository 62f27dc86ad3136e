-- What an image sees is the value of the last put that counts for it.
use Rattle.std.proofs.Common.{◌≡◌, ◌≢◌, ℕ, zero, suc, ◌<◌, List, [], ◌∷◌, take, slice_get, Some, None, refl, sym, ap, ◌∙◌, subst, arith, ◌⊎◌, inl, inr}
use Rattle.std.proofs.lemmas.Bool.{cases_eq, cases_lt}
use Rattle.xmp_script.specs.Script.{Access, Get, Put, Script, after, after_all, after_images, words_at, seen, IsPutTo, Puts, IsFree}
use Rattle.xmp_script.specs.LastPuts.{IsLastPut, HasNoPut, IsSeen, Own, Earlier, AtStart}
use Rattle.xmp_script.proofs.Words.{at_same, some_inj, no_puts, images_none, images_one}

-- a put to a word is one of some value
is_value : {V : Type 0} (l : List (Access V)) (e i : ℕ) (a : Access V) → slice_get l i ≡ Some a → IsPutTo e a →
    (v : V) × (slice_get l i ≡ Some (Put e v))
is_value l e i (Get x) at-i p = absurd p
is_value {V} l e i (Put x v) at-i p = (v, at-i ∙ ap (λ y. Some (Put y v)) p)

none_puts : {V : Type 0} (l : List (Access V)) (e : ℕ) → HasNoPut l e → (i : ℕ) (a : Access V) →
    slice_get l i ≡ Some a → IsPutTo e a → ⊥
none_puts l e none i a at-i p = let put = is_value l e i a at-i p in none i put.0 put.1

-- the last put leaves its value
last_left : {V : Type 0} (l : List (Access V)) (m : ℕ → V) (e i : ℕ) (v : V) → slice_get l i ≡ Some (Put e v) →
    ((j : ℕ) (u : V) → i < j → slice_get l j ≢ Some (Put e u)) → after_all m l e ≡ v
last_left {V} [] m e i v at-i last = absurd (let h : None ≡ Some (Put e v) = at-i in (cc))
last_left {V} (a ∷ l) m e zero v at-i last =
    let P : Access V → Type 0 = λ x. after m x e ≡ v in
    no_puts l (after m a) e (none_puts l e (λ j u. last (suc j) u (omega arith))) ∙ subst P (sym (some_inj at-i)) (at_same m e v e refl)
last_left (a ∷ l) m e (suc i) v at-i last = last_left l (after m a) e i v at-i (λ j u less. last (suc j) u (omega arith))

-- words that nobody puts in the phases before q are those at the start
quiet : {V : Type 0} (s : Script V) (q e : ℕ) → ((r l : ℕ) → r < q → l < s.images → HasNoPut (s.accesses r l) e) →
    words_at s q e ≡ s.start e
quiet s zero e none = refl
quiet s (suc q) e none =
    images_none s q e s.images (words_at s q) (λ j lj p. none_puts (s.accesses q j) e (none q j (omega arith) lj) p.0 p.1 p.2 p.3)
    ∙ quiet s q e (λ r l lr ll. none r l (omega arith) ll)

-- an image that puts a word in a phase of the script is the only one there
alone : {V : Type 0} (s : Script V) (p j e i : ℕ) (v : V) → IsFree s → j < s.images →
    slice_get (s.accesses p j) i ≡ Some (Put e v) →
    (l : ℕ) → l < s.images → l ≢ j → Puts s p l e → ⊥
alone {V} s p j e i v free lj at-i l ll ne puts = elim (cases_lt p s.phases) [
  | inl lp ↦ free p j l e lp lj ll (λ eq. ne (sym eq)) (i, Put e v, at-i, refl) puts
  | inr past ↦
      let P : List (Access V) → Type 0 = λ accesses. slice_get accesses i ≡ Some (Put e v) in
      let h : None ≡ Some (Put e v) = subst P (s.ends p j past) at-i in (cc)
]

-- words that nobody puts between phase p and q are those of the last put in phase p
latest : {V : Type 0} (s : Script V) (q p j e : ℕ) (v : V) → IsFree s → p < q → j < s.images →
    IsLastPut (s.accesses p j) e v → ((r l : ℕ) → p < r → r < q → l < s.images → HasNoPut (s.accesses r l) e) →
    words_at s q e ≡ v
latest s zero p j e v free lp lj last none = absurd (omega arith)
latest {V} s (suc q) p j e v free lp lj last none = elim (cases_eq p q) [
  | inl eq ↦
      let P : ℕ → Type 0 = λ r. after_images s r s.images (words_at s r) e ≡ v in
      subst P eq (
      images_one s p e s.images j (words_at s p) lj (λ l ll ne puts. alone s p j e last.0 v free lj last.1 l ll ne puts)
      ∙ last_left (s.accesses p j) (words_at s p) e last.0 v last.1 last.2)
  | inr ne ↦
      images_none s q e s.images (words_at s q) (λ l ll puts. none_puts (s.accesses q l) e (none q l (omega arith) (omega arith) ll) puts.0 puts.1 puts.2 puts.3)
      ∙ latest s q p j e v free (omega arith) lj last (λ r l lr rl ll. none r l lr (omega arith) ll)
]

unseen : {V : Type 0} (s : Script V) (k q i e : ℕ) → HasNoPut (take i (s.accesses q k)) e →
    seen s k q i e ≡ words_at s q e
unseen s k q i e none = no_puts (take i (s.accesses q k)) (words_at s q) e (none_puts (take i (s.accesses q k)) e none)

-- what counts for an image is what it sees
pub is_seen : {V : Type 0} (s : Script V) → IsFree s → (k q i e : ℕ) (v : V) → IsSeen s k q i e v → v ≡ seen s k q i e
is_seen s free k q i e v (Own last) = sym (last_left (take i (s.accesses q k)) (words_at s q) e last.0 v last.1 last.2)
is_seen s free k q i e v (Earlier p j none lp lj last later) = sym (unseen s k q i e none ∙ latest s q p j e v free lp lj last later)
is_seen s free k q i e v (AtStart none never) = sym (unseen s k q i e none ∙ quiet s q e never)

-- ---- something counts

is_the_put : {V : Type 0} (e : ℕ) (a : Access V) → ((v : V) × (a ≡ Put e v)) ⊎ ((v : V) → a ≢ Put e v)
is_the_put {V} e (Get x) = inr (λ v eq. let h : Get x ≡ Put e v = eq in (cc))
is_the_put {V} e (Put x u) = elim (cases_eq x e) [
  | inl eq ↦ inl (u, ap (λ y. Put y u) eq)
  | inr ne ↦ inr (λ v eq. let h : Put x u ≡ Put e v = eq in let same : x ≡ e = cc in ne same)
]

last_or_none : {V : Type 0} (l : List (Access V)) (e : ℕ) → ((v : V) × IsLastPut l e v) ⊎ HasNoPut l e
last_or_none {V} [] e = inr (λ i u at-i. let h : None ≡ Some (Put e u) = at-i in (cc))
last_or_none {V} (a ∷ l) e = elim (last_or_none l e) [
  | inl last ↦ inl (last.0, (suc last.1.0, last.1.1, λ j u less. after_it last.1.0 j u less last.1.2))
  | inr none ↦ elim (is_the_put e a) [
    | inl put ↦ inl (put.0, (0, ap (λ x. Some x) put.1, λ j u less. behind_it j u less none))
    | inr other ↦ inr (λ i u. nowhere i u other none)
  ]
]
  where
    after_it : (i j : ℕ) (u : V) → suc i < j → ((h : ℕ) (u : V) → i < h → slice_get l h ≢ Some (Put e u)) →
        slice_get (a ∷ l) j ≢ Some (Put e u)
    after_it i zero u less last = absurd (omega arith)
    after_it i (suc j) u less last = last j u (omega arith)

    behind_it : (j : ℕ) (u : V) → 0 < j → HasNoPut l e → slice_get (a ∷ l) j ≢ Some (Put e u)
    behind_it zero u less none = absurd (omega arith)
    behind_it (suc j) u less none = none j u

    nowhere : (j : ℕ) (u : V) → ((v : V) → a ≢ Put e v) → HasNoPut l e → slice_get (a ∷ l) j ≢ Some (Put e u)
    nowhere zero u other none at-j = other u (some_inj at-j)
    nowhere (suc j) u other none at-j = none j u at-j

-- in a phase some image below n puts the word, or none
phase_put : {V : Type 0} (s : Script V) (q e n : ℕ) → ((j : ℕ) × (j < n) × ((v : V) × IsLastPut (s.accesses q j) e v)) ⊎
    ((l : ℕ) → l < n → HasNoPut (s.accesses q l) e)
phase_put s q e zero = inr (λ l ll. absurd (omega arith))
phase_put {V} s q e (suc n) = elim (last_or_none (s.accesses q n) e) [
  | inl last ↦ inl (n, omega arith, last)
  | inr none ↦ elim (phase_put s q e n) [
    | inl found ↦ inl (found.0, (let h = found.1 in omega arith), found.2)
    | inr nobody ↦ inr (λ l ll. elim (cases_eq l n) [
      | inl eq ↦ (let P : ℕ → Type 0 = λ x. HasNoPut (s.accesses q x) e in subst P (sym eq) none)
      | inr ne ↦ nobody l (omega arith)
    ])
  ]
]

-- the last put to a word in the phases before q
record LatestPut {V : Type 0} (s : Script V) (q e p j : ℕ) (v : V) : Type 0 where
  before : p < q
  image : j < s.images
  last : IsLastPut (s.accesses p j) e v
  later : (r l : ℕ) → p < r → r < q → l < s.images → HasNoPut (s.accesses r l) e

latest_or_none : {V : Type 0} (s : Script V) (q e : ℕ) → ((p j : ℕ) × (v : V) × LatestPut s q e p j v) ⊎
    ((r l : ℕ) → r < q → l < s.images → HasNoPut (s.accesses r l) e)
latest_or_none s zero e = inr (λ r l lr ll. absurd (omega arith))
latest_or_none {V} s (suc q) e = elim (phase_put s q e s.images) [
  | inl found ↦ inl (q, found.0, found.2.0, record { before = omega arith; image = found.1; last = found.2.1; later = λ r l pr rq ll. absurd (omega arith) })
  | inr nobody ↦
      let here = λ (r l : ℕ) (eq : r ≡ q) (ll : l < s.images). (let P : ℕ → Type 0 = λ x. HasNoPut (s.accesses x l) e in subst P (sym eq) (nobody l ll)) in
      elim (latest_or_none s q e) [
        | inl put ↦ inl (
          put.0,
          put.1,
          put.2,
          record {
            before = (let h = put.3.before in omega arith);
            image = put.3.image;
            last = put.3.last;
            later = λ r l pr rq ll. elim (cases_eq r q) [ inl eq ↦ here r l eq ll | inr ne ↦ put.3.later r l pr (omega arith) ll ];
          },
        )
        | inr never ↦ inr (λ r l lr ll. elim (cases_eq r q) [ inl eq ↦ here r l eq ll | inr ne ↦ never r l (omega arith) ll ])
      ]
]

counts : {V : Type 0} (s : Script V) (k q i e : ℕ) → (v : V) × IsSeen s k q i e v
counts s k q i e = elim (last_or_none (take i (s.accesses q k)) e) [
  | inl last ↦ (last.0, Own last.1)
  | inr none ↦ elim (latest_or_none s q e) [
    | inl put ↦ (put.2, Earlier put.0 put.1 none put.3.before put.3.image put.3.last put.3.later)
    | inr never ↦ (s.start e, AtStart none never)
  ]
]

-- what an image sees counts for it, and nothing else does
pub sees_last_put : {V : Type 0} (s : Script V) → IsFree s → (k q i e : ℕ) →
    IsSeen s k q i e (seen s k q i e) × ((v : V) → IsSeen s k q i e v → v ≡ seen s k q i e)
sees_last_put {V} s free k q i e =
    let found = counts s k q i e in
    let P : V → Type 0 = λ v. IsSeen s k q i e v in
    (subst P (is_seen s free k q i e found.0 found.1) found.1, is_seen s free k q i e)
