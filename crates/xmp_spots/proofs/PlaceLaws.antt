-- One spot more among others.
use Rattle.std.proofs.Common.{◌≡◌, ℕ, zero, suc, ◌+◌, ◌<◌, ◌≤◌, Bool, true, false, not, ◌&&◌, List, [], ◌∷◌, ◌++◌, refl, sym, ap, ◌∙◌, subst, length, take, get_or, if◌then◌else◌, Option, Some, None, slice_get, slice_set}
use Rattle.std.specs.List.{list_all}
use Rattle.std.proofs.lemmas.Bool.{false≢true, and_parts, and_from}
use Rattle.std.proofs.lemmas.List.{take_more, take_all}
use Rattle.std.proofs.lemmas.List.Folds.{list_all-append}
use Rattle.xmp_spots.specs.declared.touches.Spot.{Spot}
use Rattle.xmp_spots.specs.Gathered.{both_by, same_cells, with_spot}

-- none of these is of the cells of the spot
abbrev pub apart : Spot → List Spot → Bool
apart s xs = list_all (λ t. not (same_cells t s)) xs

not_true : (b : Bool) → not b ≡ true → b ≡ false
not_true true h = absurd (false≢true h)
not_true false h = refl

abbrev is_some : Option Spot → Bool
is_some None = false
is_some (Some x) = true

abbrev the : (d : Spot) → Option Spot → Spot
the d None = d
the d (Some x) = x

pub found_at : (xs : List Spot) (k : ℕ) (s t : Spot) → apart s (take k xs) ≡ true → slice_get xs k ≡ Some t → same_cells t s ≡ true →
    with_spot xs s ≡ slice_set xs k (record t { by = both_by t.by s.by })
found_at [] k s t h e same = absurd (false≢true (ap {A = Option Spot} is_some e))
found_at (x ∷ xs) zero s t h e same =
    let i : x ≡ t = ap {A = Option Spot} (the t) e in
    ap (λ (b : Bool). if b then record x { by = both_by x.by s.by } ∷ xs else x ∷ with_spot xs s) (ap (λ y. same_cells y s) i ∙ same)
    ∙ ap {A = Spot} (λ y. record y { by = both_by y.by s.by } ∷ xs) i
found_at (x ∷ xs) (suc k) s t h e same =
    let both = and_parts (not (same_cells x s)) (apart s (take k xs)) h in
    ap (λ (b : Bool). if b then record x { by = both_by x.by s.by } ∷ xs else x ∷ with_spot xs s) (not_true (same_cells x s) both.0)
    ∙ ap (λ l. x ∷ l) (found_at xs k s t both.1 e same)

pub none_there : (xs : List Spot) (s : Spot) → apart s xs ≡ true → with_spot xs s ≡ xs ++ s ∷ []
none_there [] s h = refl
none_there (x ∷ xs) s h =
    let both = and_parts (not (same_cells x s)) (apart s xs) h in
    ap (λ (b : Bool). if b then record x { by = both_by x.by s.by } ∷ xs else x ∷ with_spot xs s) (not_true (same_cells x s) both.0)
    ∙ ap (λ l. x ∷ l) (none_there xs s both.1)

pub apart_more : (xs : List Spot) (k : ℕ) (d s : Spot) → k < length xs → apart s (take k xs) ≡ true → same_cells (get_or xs k d) s ≡ false →
    apart s (take (k + 1) xs) ≡ true
apart_more xs k d s l h e =
    ap (apart s) (take_more xs k d l)
    ∙ (list_all-append (λ t. not (same_cells t s)) (take k xs) (get_or xs k d ∷ [])
    ∙ and_from _ _ h (and_from _ _ (ap not e) refl))

pub apart_all : (xs : List Spot) (k : ℕ) (s : Spot) → length xs ≤ k → apart s (take k xs) ≡ true → with_spot xs s ≡ xs ++ s ∷ []
apart_all xs k s l h = none_there xs s (ap (apart s) (sym (take_all k xs l)) ∙ h)

pub got : (xs : List Spot) (k : ℕ) (d t : Spot) → slice_get xs k ≡ Some t → get_or xs k d ≡ t
got [] k d t e = absurd (false≢true (ap {A = Option Spot} is_some e))
got (x ∷ xs) zero d t e = ap {A = Option Spot} (the t) e
got (x ∷ xs) (suc k) d t e = got xs k d t e
