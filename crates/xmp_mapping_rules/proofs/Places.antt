-- The first places after one more number.
use Rattle.std.proofs.Common.{◌≡◌, ◌≤◌, ◌∙◌, sym, ap, refl, subst, ◌<◌, ◌++◌, ◌∷◌, [], ℕ, suc, zero, Bool, true, false, List, Option, Some, None, length, arith, eq-eqb}
use Rattle.std.specs.Prelude.{◌==◌, slice_get, slice_set, is_some, if◌then◌else◌}
use Rattle.std.specs.Option.{option_or}
use Rattle.std.specs.List.{position_or_len}
use Rattle.std.proofs.lemmas.List.Folds.{position_or_len_push}
use Rattle.std.proofs.lemmas.List.Sums.{prefix_len-le-length}
use Rattle.std.proofs.lemmas.Bool.Decides.{nat_tests}
use Rattle.std.proofs.lemmas.Grind.{common_steps}
use Rattle.xmp_mapping_rules.specs.Numbers.{first_place, held, HasPlaces}

set_same : {X : Type 0} (xs : List X) (i : ℕ) (v : X) → i < length xs → slice_get (slice_set xs i v) i ≡ Some v
set_same [] i v h = absurd (omega arith)
set_same (x ∷ xs) zero v h = refl
set_same (x ∷ xs) (suc i) v h = set_same xs i v (omega arith)

set_other : {X : Type 0} (xs : List X) (i k : ℕ) (v : X) → (k ≡ i → ⊥) → slice_get (slice_set xs i v) k ≡ slice_get xs k
set_other [] i k v ne = refl
set_other (x ∷ xs) zero zero v ne = absurd (ne refl)
set_other (x ∷ xs) zero (suc k) v ne = refl
set_other (x ∷ xs) (suc i) zero v ne = refl
set_other (x ∷ xs) (suc i) (suc k) v ne = set_other xs i k v (λ e. ne (ap suc e))

pub placed : (k : ℕ) (all : List ℕ) (n : ℕ) → first_place k (all ++ n ∷ []) ≡ option_or (first_place k all) (if n == k then Some (length all) else None)
placed k all n =
    let b : position_or_len (λ n. n == k) all ≤ length all = prefix_len-le-length _ all in
    grind (arith, common_steps, position_or_len_push (λ n. n == k) all n)

none_of : (o : Option ℕ) → is_some o ≡ false → o ≡ None
none_of None h = refl
none_of (Some j) h = cc

or_none : (o : Option ℕ) → option_or o None ≡ o
or_none None = refl
or_none (Some j) = refl

known_stays : (o p : Option ℕ) → is_some o ≡ true → option_or o p ≡ o
known_stays None p h = cc
known_stays (Some j) p h = refl

at_number : (table : List (Option ℕ)) (all : List ℕ) (n : ℕ) → n < length table → is_some (first_place n all) ≡ false →
    held (slice_get (slice_set table n (Some (length all))) n) ≡ first_place n (all ++ n ∷ [])
at_number table all n lt new =
    ap held (set_same table n (Some (length all)) lt)
    ∙ sym (placed n all n ∙ (ap (λ o. option_or o (if n == n then Some (length all) else None)) (none_of (first_place n all) new)
    ∙ ap (λ b. if b then Some (length all) else None) (eq-eqb n n refl)))

other_place : (all : List ℕ) (n k : ℕ) → (n == k) ≡ false → first_place k (all ++ n ∷ []) ≡ first_place k all
other_place all n k e =
    placed k all n ∙ (ap (λ b. option_or (first_place k all) (if b then Some (length all) else None)) e ∙ or_none (first_place k all))

split : (n k : ℕ) (P : Type 0) → (n ≡ k → P) → ((n == k) ≡ false → P) → (b : Bool) → (n == k) ≡ b → P
split n k P same other true e = same (grind (arith, nat_tests))
split n k P same other false e = other e

-- A number that is known already.
pub kept : (table : List (Option ℕ)) (all : List ℕ) (n : ℕ) → HasPlaces table all → is_some (first_place n all) ≡ true → HasPlaces table (all ++ n ∷ [])
kept table all n h known k =
    split n k (held (slice_get table k) ≡ first_place k (all ++ n ∷ []))
    (λ e. subst (λ j. held (slice_get table j) ≡ first_place j (all ++ n ∷ [])) e (h n ∙ sym (placed n all n ∙ known_stays (first_place n all) _ known)))
    (λ e. h k ∙ sym (other_place all n k e)) (n == k) refl

-- A number that is new.
pub noted : (table : List (Option ℕ)) (all : List ℕ) (n : ℕ) → HasPlaces table all → n < length table → is_some (first_place n all) ≡ false →
    HasPlaces (slice_set table n (Some (length all))) (all ++ n ∷ [])
noted table all n h lt new k =
    split n k (held (slice_get (slice_set table n (Some (length all))) k) ≡ first_place k (all ++ n ∷ []))
    (λ e. subst (λ j. held (slice_get (slice_set table n (Some (length all))) j) ≡ first_place j (all ++ n ∷ [])) e (at_number table all n lt new))
    (λ e. let ne : k ≡ n → ⊥ = grind (arith, nat_tests) in
    ap held (set_other table n k (Some (length all)) ne) ∙ (h k ∙ sym (other_place all n k e))) (n == k) refl

pub noted_as : (table set : List (Option ℕ)) (all next : List ℕ) (n place : ℕ) → HasPlaces table all → n < length table → is_some (first_place n all) ≡ false →
    set ≡ slice_set table n (Some place) → place ≡ length all → next ≡ all ++ n ∷ [] → HasPlaces set next
noted_as table set all next n place h lt new s p e = rw (s, p, e) (noted table all n h lt new)
