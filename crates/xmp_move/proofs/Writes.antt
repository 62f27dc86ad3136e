-- Writing words into slots, one after the other.
use Rattle.std.proofs.Common.{◌≡◌, ◌≢◌, ℕ, ◌<◌, ℤ, ◌⊎◌, inl, inr, Bool, true, false, List, [], ◌∷◌, refl, sym, ◌∙◌, ap, arith, length, map, get_or, set, get_or-set_same, get_or-set_other, length-set}
use Rattle.std.specs.Prelude.{◌==◌}
use Rattle.std.proofs.lemmas.Bool.Decides.{nat_tests}
use Rattle.xmp_move.specs.Stores.{IsIn, write_all}

pub same_or_not : (m n : ℕ) → (m ≡ n) ⊎ (m ≢ n)
same_or_not m n = test (m == n) refl
  where
    test : (b : Bool) → (m == n) ≡ b → (m ≡ n) ⊎ (m ≢ n)
    test true h = inl (grind (arith, nat_tests))
    test false h = inr (λ e. grind (arith, nat_tests))

pub length-write_all : (store : List ℤ) (ss : List ℕ) (ws : List ℤ) → length (write_all store ss ws) ≡ length store
unfolding write_all
length-write_all store [] ws = refl
length-write_all store (s ∷ ss) [] = refl
length-write_all store (s ∷ ss) (w ∷ ws) = length-write_all (set store s w) ss ws ∙ length-set store s w

-- a slot that none of them is stays
pub write_all-other : {A : Type 0} (f : A → ℕ) (g : A → ℤ) (ps : List A) (store : List ℤ) (x : ℕ) (d : ℤ) →
    ((q : A) → IsIn q ps → f q ≢ x) → get_or (write_all store (map f ps) (map g ps)) x d ≡ get_or store x d
unfolding write_all IsIn
write_all-other f g [] store x d h = refl
write_all-other f g (p ∷ ps) store x d h =
    write_all-other f g ps (set store (f p) (g p)) x d (λ q i. h q (inr i))
    ∙ get_or-set_other store (f p) x (g p) d (λ e. h p (inl refl) (sym e))

-- a word that stands in its slot stays there while the others go into other slots
pub write_all-keep : {A : Type 0} (f : A → ℕ) (g : A → ℤ) (ps : List A) (store : List ℤ) (p : A) (d : ℤ) →
    f p < length store → ((q : A) → IsIn q ps → f q ≡ f p → q ≡ p) → get_or store (f p) d ≡ g p →
    get_or (write_all store (map f ps) (map g ps)) (f p) d ≡ g p
unfolding write_all IsIn
write_all-keep f g [] store p d lt one h = h
write_all-keep f g (q ∷ ps) store p d lt one h =
    write_all-keep f g ps (set store (f q) (g q)) p d (let e = length-set store (f q) (g q) in omega arith) (λ r i. one r (inr i))
    (elim (same_or_not (f q) (f p)) [
      | inl e ↦ let same = one q (inl refl) e in rw e (get_or-set_same store (f p) (g q) d lt ∙ ap g same)
      | inr ne ↦ get_or-set_other store (f q) (f p) (g q) d (λ e. ne (sym e)) ∙ h
    ])

-- each word of the list comes into its slot
pub write_all-hit : {A : Type 0} (f : A → ℕ) (g : A → ℤ) (ps : List A) (store : List ℤ) (p : A) (d : ℤ) →
    f p < length store → ((q : A) → IsIn q ps → f q ≡ f p → q ≡ p) → IsIn p ps →
    get_or (write_all store (map f ps) (map g ps)) (f p) d ≡ g p
unfolding write_all IsIn
write_all-hit f g [] store p d lt one i = absurd i
write_all-hit f g (q ∷ ps) store p d lt one (inl e) =
    write_all-keep f g ps (set store (f q) (g q)) p d (let l = length-set store (f q) (g q) in omega arith) (λ r i. one r (inr i))
    (let fe : f p ≡ f q = ap f e in rw fe (get_or-set_same store (f q) (g q) d (let k = lt in omega arith) ∙ ap g (sym e)))
write_all-hit f g (q ∷ ps) store p d lt one (inr i) =
    write_all-hit f g ps (set store (f q) (g q)) p d (let l = length-set store (f q) (g q) in omega arith) (λ r j. one r (inr j)) i
