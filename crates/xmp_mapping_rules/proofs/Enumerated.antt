-- One step of a loop over the items of a list with their places.
use Rattle.std.proofs.Common.{◌≡◌, ◌∙◌, ◌<◌, ◌+◌, ◌++◌, ℕ, Bool, true, false, ap, List, length, drop, get_or, append_assoc, drop-cons, add-one, ◌∷◌}
use Rattle.std.specs.List.{flat_map, list_all, enumerate_from}
use Rattle.xmp_names.proofs.Steps.{unrolled}

pub part_step : {A B : Type 0} (f : ℕ × A → List B) (xs : List A) (i : ℕ) (x : A) (made next : List B) → i < length xs → x ≡ get_or xs i x →
    next ≡ made ++ f (i, x) →
    made ++ flat_map f (enumerate_from i (drop i xs)) ≡ next ++ flat_map f (enumerate_from (i + 1) (drop (i + 1) xs))
part_step f xs i x made next h is e =
    ap (λ l. made ++ flat_map f (enumerate_from i l)) (unrolled xs i x h is) ∙ rw (e, append_assoc)

pub all_step : {A : Type 0} (f : ℕ × A → Bool) (xs : List A) (i : ℕ) (x : A) → i < length xs → x ≡ get_or xs i x → f (i, x) ≡ true →
    list_all f (enumerate_from i (drop i xs)) ≡ list_all f (enumerate_from (i + 1) (drop (i + 1) xs))
all_step f xs i x h is e = ap (λ l. list_all f (enumerate_from i l)) (unrolled xs i x h is) ∙ rw e

pub all_ends : {A : Type 0} (f : ℕ × A → Bool) (xs : List A) (i : ℕ) (x : A) → i < length xs → x ≡ get_or xs i x → f (i, x) ≡ false →
    list_all f (enumerate_from i (drop i xs)) ≡ false
all_ends f xs i x h is e = ap (λ l. list_all f (enumerate_from i l)) (unrolled xs i x h is) ∙ rw e

unrolled_at : {A : Type 0} (xs : List A) (i : ℕ) (d : A) → i < length xs → drop i xs ≡ get_or xs i d ∷ drop (i + 1) xs
unrolled_at xs i d h = rw (add-one, drop-cons xs i d)

-- The same of an item by its place.
pub all_step_at : {A : Type 0} (f : ℕ × A → Bool) (xs : List A) (i : ℕ) (d : A) → i < length xs → f (i, get_or xs i d) ≡ true →
    list_all f (enumerate_from i (drop i xs)) ≡ list_all f (enumerate_from (i + 1) (drop (i + 1) xs))
all_step_at f xs i d h e = ap (λ l. list_all f (enumerate_from i l)) (unrolled_at xs i d h) ∙ rw e

pub all_ends_at : {A : Type 0} (f : ℕ × A → Bool) (xs : List A) (i : ℕ) (d : A) → i < length xs → f (i, get_or xs i d) ≡ false →
    list_all f (enumerate_from i (drop i xs)) ≡ false
all_ends_at f xs i d h e = ap (λ l. list_all f (enumerate_from i l)) (unrolled_at xs i d h) ∙ rw e
