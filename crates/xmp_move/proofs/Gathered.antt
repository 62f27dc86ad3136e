-- What passes a test in each dimension, gathered dimension by dimension.
use Rattle.std.proofs.Common.{◌≡◌, ℕ, ◌+◌, ◌*◌, ◌<◌, ◌≤◌, Bool, true, false, List, [], ◌∷◌, ◌++◌, refl, sym, ◌∙◌, ap, arith, length, map, cond, append_assoc}
use Rattle.std.specs.Prelude.{filter, ◌&&◌}
use Rattle.std.specs.List.{flat_map, range_with_len}
use Rattle.xmp_map.specs.Boxes.{all_pass}
use Rattle.xmp_move.specs.Cells.{indices}
use Rattle.xmp_move.specs.Sums.{total, sums, shares}

pub filter_append : {A : Type 0} (t : A → Bool) (xs ys : List A) → filter t (xs ++ ys) ≡ filter t xs ++ filter t ys
filter_append t [] ys = refl
filter_append t (x ∷ xs) ys = filter_append_step t x xs ys (filter_append t xs ys) (t x)
  where
    filter_append_step : {A : Type 0} (t : A → Bool) (x : A) (xs ys : List A) → filter t (xs ++ ys) ≡ filter t xs ++ filter t ys → (b : Bool) →
        cond b (x ∷ filter t (xs ++ ys)) (filter t (xs ++ ys)) ≡ cond b (x ∷ filter t xs) (filter t xs) ++ filter t ys
    filter_append_step t x xs ys e true = ap (λ r. x ∷ r) e
    filter_append_step t x xs ys e false = e

pub map_append : {A B : Type 0} (f : A → B) (xs ys : List A) → map f (xs ++ ys) ≡ map f xs ++ map f ys
map_append f [] ys = refl
map_append f (x ∷ xs) ys = ap (λ r. f x ∷ r) (map_append f xs ys)

-- what passes of the index lists that begin with `i`
row : (p : ℕ → Bool) (ps : List (ℕ → Bool)) (i : ℕ) (rests : List (List ℕ)) →
    filter (all_pass (p ∷ ps)) (map (λ rest. i ∷ rest) rests) ≡ cond (p i) (map (λ rest. i ∷ rest) (filter (all_pass ps) rests)) []
unfolding all_pass
row p ps i rests = at (p i) refl
  where
    none : (p : ℕ → Bool) (ps : List (ℕ → Bool)) (i : ℕ) (rests : List (List ℕ)) → p i ≡ false →
        filter (all_pass (p ∷ ps)) (map (λ rest. i ∷ rest) rests) ≡ []
    none p ps i [] h = refl
    none p ps i (r ∷ rs) h = rw h (none p ps i rs h)

    some_step : (ps : List (ℕ → Bool)) (i : ℕ) (r : List ℕ) (xs : List (List ℕ)) (rs : List (List ℕ)) → xs ≡ map (λ rest. i ∷ rest) rs → (b : Bool) →
        cond b ((i ∷ r) ∷ xs) xs ≡ map (λ rest. i ∷ rest) (cond b (r ∷ rs) rs)
    some_step ps i r xs rs e true = ap (λ t. (i ∷ r) ∷ t) e
    some_step ps i r xs rs e false = e

    some : (p : ℕ → Bool) (ps : List (ℕ → Bool)) (i : ℕ) (rests : List (List ℕ)) → p i ≡ true →
        filter (all_pass (p ∷ ps)) (map (λ rest. i ∷ rest) rests) ≡ map (λ rest. i ∷ rest) (filter (all_pass ps) rests)
    some p ps i [] h = refl
    some p ps i (r ∷ rs) h = rw h (some_step ps i r (filter (all_pass (p ∷ ps)) (map (λ rest. i ∷ rest) rs)) (filter (all_pass ps) rs) (some p ps i rs h) (all_pass ps r))

    at : (b : Bool) → p i ≡ b →
        filter (all_pass (p ∷ ps)) (map (λ rest. i ∷ rest) rests) ≡ cond b (map (λ rest. i ∷ rest) (filter (all_pass ps) rests)) []
    at true h = some p ps i rests h
    at false h = none p ps i rests h

row_total : (f : ℕ → ℕ) (fs : List (ℕ → ℕ)) (i : ℕ) (rests : List (List ℕ)) →
    map (total (f ∷ fs)) (map (λ rest. i ∷ rest) rests) ≡ map (λ r. f i + r) (map (total fs) rests)
unfolding total
row_total f fs i [] = refl
row_total f fs i (r ∷ rs) = ap (λ t. (f i + total fs r) ∷ t) (row_total f fs i rs)

rows : (p : ℕ → Bool) (ps : List (ℕ → Bool)) (f : ℕ → ℕ) (fs : List (ℕ → ℕ)) (rests : List (List ℕ)) (xs : List ℕ) →
    map (total (f ∷ fs)) (filter (all_pass (p ∷ ps)) (flat_map (λ i. map (λ rest. i ∷ rest) rests) xs))
    ≡ flat_map (λ x. map (λ r. x + r) (map (total fs) (filter (all_pass ps) rests))) (map f (filter p xs))
rows p ps f fs rests [] = refl
rows p ps f fs rests (x ∷ xs) =
    ap (map (total (f ∷ fs))) (filter_append (all_pass (p ∷ ps)) (map (λ rest. x ∷ rest) rests) (flat_map (λ i. map (λ rest. i ∷ rest) rests) xs))
    ∙ map_append (total (f ∷ fs)) (filter (all_pass (p ∷ ps)) (map (λ rest. x ∷ rest) rests)) (filter (all_pass (p ∷ ps)) (flat_map (λ i. map (λ rest. i ∷ rest) rests) xs))
    ∙ ap (λ t. map (total (f ∷ fs)) t ++ map (total (f ∷ fs)) (filter (all_pass (p ∷ ps)) (flat_map (λ i. map (λ rest. i ∷ rest) rests) xs))) (row p ps x rests)
    ∙ ap (λ t. map (total (f ∷ fs)) (cond (p x) (map (λ rest. x ∷ rest) (filter (all_pass ps) rests)) []) ++ t) (rows p ps f fs rests xs)
    ∙ at p ps f fs rests x xs (p x)
  where
    at : (p : ℕ → Bool) (ps : List (ℕ → Bool)) (f : ℕ → ℕ) (fs : List (ℕ → ℕ)) (rests : List (List ℕ)) (x : ℕ) (xs : List ℕ) (b : Bool) →
        map (total (f ∷ fs)) (cond b (map (λ rest. x ∷ rest) (filter (all_pass ps) rests)) []) ++ flat_map (λ x. map (λ r. x + r) (map (total fs) (filter (all_pass ps) rests))) (map f (filter p xs))
        ≡ flat_map (λ x. map (λ r. x + r) (map (total fs) (filter (all_pass ps) rests))) (map f (cond b (x ∷ filter p xs) (filter p xs)))
    at p ps f fs rests x xs true =
        ap (λ t. t ++ flat_map (λ x. map (λ r. x + r) (map (total fs) (filter (all_pass ps) rests))) (map f (filter p xs))) (row_total f fs x (filter (all_pass ps) rests))
    at p ps f fs rests x xs false = refl

-- the sums over the index lists that pass are the sums over each dimension's own share
pub gathered : (ps : List (ℕ → Bool)) (fs : List (ℕ → ℕ)) (ns : List ℕ) → length ps ≡ length ns → length fs ≡ length ns →
    map (total fs) (filter (all_pass ps) (indices ns)) ≡ sums (shares ps fs ns)
unfolding all_pass total indices sums shares
gathered [] [] [] l m = refl
gathered [] (f ∷ fs) [] l m = absurd (omega arith)
gathered (p ∷ ps) fs [] l m = absurd (omega arith)
gathered [] fs (n ∷ ns) l m = absurd (omega arith)
gathered (p ∷ ps) [] (n ∷ ns) l m = absurd (omega arith)
gathered (p ∷ ps) (f ∷ fs) (n ∷ ns) l m =
    rows p ps f fs (indices ns) (range_with_len 0 n)
    ∙ ap (λ t. flat_map (λ x. map (λ r. x + r) t) (map f (filter p (range_with_len 0 n)))) (gathered ps fs ns (omega arith) (omega arith))
