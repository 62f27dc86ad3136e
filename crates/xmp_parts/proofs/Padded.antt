-- Lists of at most three items, filled up to three.
use Rattle.std.proofs.Common.{◌≡◌, ◌≤◌, sym, ap, refl, ◌∷◌, [], ℕ, zero, suc, Bool, true, false, cond, List, Some, None, arith, length, map, leb-true}
use Rattle.std.specs.Prelude.{slice_get, nat_le}
use Rattle.std.specs.List.{list_all, count_by}
use Rattle.std.proofs.lemmas.Option.{same_Some, none-some}
use Rattle.xmp_map.specs.Nodes.{filled}
use Rattle.xmp_mapping_rules.specs.MappingRules.{one_to_three}
use Rattle.xmp_parts.proofs.Unbroken.{both_true, left_true, right_true}

pub at_most_three : (n : ℕ) → one_to_three n ≡ true → n ≤ 3
at_most_three n h = leb-true n 3 (right_true (nat_le 1 n) (nat_le n 3) h)

module _ {A B : Type 0} (f : A → B) (d : B) where
  -- An item of the list itself.
  pub filled_get : (xs : List A) (i : ℕ) (x : A) → length xs ≤ 3 → slice_get xs i ≡ Some x → slice_get (filled d (map f xs)) i ≡ Some (f x)
  filled_get [] i x h e = absurd (none-some x e)
  filled_get (a ∷ []) zero x h e = ap (λ z. Some (f z)) (same_Some a x e)
  filled_get (a ∷ []) (suc i) x h e = absurd (none-some x e)
  filled_get (a ∷ b ∷ []) zero x h e = ap (λ z. Some (f z)) (same_Some a x e)
  filled_get (a ∷ b ∷ []) (suc zero) x h e = ap (λ z. Some (f z)) (same_Some b x e)
  filled_get (a ∷ b ∷ []) (suc (suc i)) x h e = absurd (none-some x e)
  filled_get (a ∷ b ∷ c ∷ []) zero x h e = ap (λ z. Some (f z)) (same_Some a x e)
  filled_get (a ∷ b ∷ c ∷ []) (suc zero) x h e = ap (λ z. Some (f z)) (same_Some b x e)
  filled_get (a ∷ b ∷ c ∷ []) (suc (suc zero)) x h e = ap (λ z. Some (f z)) (same_Some c x e)
  filled_get (a ∷ b ∷ c ∷ []) (suc (suc (suc i))) x h e = absurd (none-some x e)
  filled_get (a ∷ b ∷ c ∷ g ∷ rest) i x h e = absurd (omega arith)

  -- Behind the list all items are the one that fills it.
  pub filled_past : (xs : List A) (i : ℕ) (y : B) → length xs ≤ 3 → slice_get xs i ≡ None → slice_get (filled d (map f xs)) i ≡ Some y → d ≡ y
  filled_past [] zero y h e p = same_Some d y p
  filled_past [] (suc zero) y h e p = same_Some d y p
  filled_past [] (suc (suc zero)) y h e p = same_Some d y p
  filled_past [] (suc (suc (suc i))) y h e p = absurd (none-some y p)
  filled_past (a ∷ []) zero y h e p = absurd (none-some a (sym e))
  filled_past (a ∷ []) (suc zero) y h e p = same_Some d y p
  filled_past (a ∷ []) (suc (suc zero)) y h e p = same_Some d y p
  filled_past (a ∷ []) (suc (suc (suc i))) y h e p = absurd (none-some y p)
  filled_past (a ∷ b ∷ []) zero y h e p = absurd (none-some a (sym e))
  filled_past (a ∷ b ∷ []) (suc zero) y h e p = absurd (none-some b (sym e))
  filled_past (a ∷ b ∷ []) (suc (suc zero)) y h e p = same_Some d y p
  filled_past (a ∷ b ∷ []) (suc (suc (suc i))) y h e p = absurd (none-some y p)
  filled_past (a ∷ b ∷ c ∷ []) zero y h e p = absurd (none-some a (sym e))
  filled_past (a ∷ b ∷ c ∷ []) (suc zero) y h e p = absurd (none-some b (sym e))
  filled_past (a ∷ b ∷ c ∷ []) (suc (suc zero)) y h e p = absurd (none-some c (sym e))
  filled_past (a ∷ b ∷ c ∷ []) (suc (suc (suc i))) y h e p = absurd (none-some y p)
  filled_past (a ∷ b ∷ c ∷ g ∷ rest) i y h e p = absurd (omega arith)

module _ {A : Type 0} (p : A → Bool) (d : A) where
  -- A test that the filling item passes.
  pub all_filled : (xs : List A) → p d ≡ true → list_all p xs ≡ true → list_all p (filled d xs) ≡ true
  all_filled [] h k = both_true (p d) _ h (both_true (p d) _ h (both_true (p d) true h refl))
  all_filled (a ∷ []) h k = both_true (p a) _ (left_true (p a) _ k) (both_true (p d) _ h (both_true (p d) true h refl))
  all_filled (a ∷ b ∷ []) h k =
      both_true (p a) _ (left_true (p a) _ k)
      (both_true (p b) _ (left_true (p b) _ (right_true (p a) _ k)) (both_true (p d) true h refl))
  all_filled (a ∷ b ∷ c ∷ rest) h k =
      both_true (p a) _ (left_true (p a) _ k)
      (both_true (p b) _ (left_true (p b) _ (right_true (p a) _ k))
      (both_true (p c) true (left_true (p c) _ (right_true (p b) _ (right_true (p a) _ k))) refl))

  -- A test that the filling item fails.
  pub count_filled : (xs : List A) → length xs ≤ 3 → p d ≡ false → count_by p (filled d xs) ≡ count_by p xs
  count_filled [] h k = let z : cond {A = ℕ} (p d) 1 0 ≡ 0 = ap (λ b. cond {A = ℕ} b 1 0) k in omega arith
  count_filled (a ∷ []) h k = let z : cond {A = ℕ} (p d) 1 0 ≡ 0 = ap (λ b. cond {A = ℕ} b 1 0) k in omega arith
  count_filled (a ∷ b ∷ []) h k = let z : cond {A = ℕ} (p d) 1 0 ≡ 0 = ap (λ b. cond {A = ℕ} b 1 0) k in omega arith
  count_filled (a ∷ b ∷ c ∷ []) h k = refl
  count_filled (a ∷ b ∷ c ∷ g ∷ rest) h k = absurd (omega arith)

-- An item of a list that was made from another.
pub mapped : {A B : Type 0} (f : A → B) (xs : List A) (i : ℕ) (y : B) → slice_get (map f xs) i ≡ Some y → (x : A) × (slice_get xs i ≡ Some x) × (f x ≡ y)
mapped f [] i y e = absurd (none-some y e)
mapped f (x ∷ xs) zero y e = (x, refl, same_Some (f x) y e)
mapped f (x ∷ xs) (suc i) y e = mapped f xs i y e

pub mapped_to : {A B : Type 0} (f : A → B) (xs : List A) (i : ℕ) (x : A) → slice_get xs i ≡ Some x → slice_get (map f xs) i ≡ Some (f x)
mapped_to f [] i x e = absurd (none-some x e)
mapped_to f (y ∷ ys) zero x e = ap (λ z. Some (f z)) (same_Some y x e)
mapped_to f (y ∷ ys) (suc i) x e = mapped_to f ys i x e
