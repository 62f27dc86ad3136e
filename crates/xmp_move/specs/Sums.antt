-- Sums over the dimensions of a box, gathered dimension by dimension (this project).
use Rattle.std.specs.Prelude.{ℕ, ◌+◌, Bool, true, ◌&&◌, List, [], ◌∷◌, map, filter, if◌then◌else◌}
use Rattle.std.specs.List.{flat_map, range_with_len}
use Rattle.xmp_move.specs.declared.pick.Pick.{Pick}
use Rattle.xmp_move.specs.Picks.{counts, by_place, singles_pass, singles_total}

-- the sum of what each dimension's function gives at its subscript
unfoldable pub total : List (ℕ → ℕ) → List ℕ → ℕ
total [] xs = 0
total (f ∷ fs) [] = 0
total (f ∷ fs) (x ∷ xs) = f x + total fs xs

-- all sums of one number from each list, the last list fastest
unfoldable pub sums : List (List ℕ) → List ℕ
sums [] = 0 ∷ []
sums (xs ∷ xss) = flat_map (λ x. map (λ r. x + r) (sums xss)) xs

-- the sums of two lists, and of three
unfoldable pub pair_sums : List ℕ → List ℕ → List ℕ
pair_sums ys zs = flat_map (λ y. map (λ z. y + z) zs) ys

unfoldable pub three_sums : List ℕ → List ℕ → List ℕ → List ℕ
three_sums xs ys zs = flat_map (λ x. map (λ r. x + r) (pair_sums ys zs)) xs

-- what a dimension's function gives at its subscripts that pass
abbrev pub share : (ℕ → Bool) → (ℕ → ℕ) → (count : ℕ) → List ℕ
share t f n = map f (filter t (range_with_len 0 n))

-- the same for each dimension
unfoldable pub shares : List (ℕ → Bool) → List (ℕ → ℕ) → List ℕ → List (List ℕ)
shares [] fs ns = []
shares (t ∷ ts) [] ns = []
shares (t ∷ ts) (f ∷ fs) [] = []
shares (t ∷ ts) (f ∷ fs) (n ∷ ns) = share t f n ∷ shares ts fs ns

-- two tests for each dimension, where the second may be missing
unfoldable pub both : List (ℕ → Bool) → List (ℕ → Bool) → List (ℕ → Bool)
both [] qs = []
both (p ∷ ps) [] = p ∷ both ps []
both (p ∷ ps) (q ∷ qs) = (λ k. p k && q k) ∷ both ps qs

-- a function for each dimension, 0 where it is missing
unfoldable pub filled_up : List ℕ → List (ℕ → ℕ) → List (ℕ → ℕ)
filled_up [] fs = []
filled_up (n ∷ ns) [] = (λ _. 0) ∷ filled_up ns []
filled_up (n ∷ ns) (f ∷ fs) = f ∷ filled_up ns fs

-- what each section adds to the slots due: at the places where the target's and the source's subscripts pass
abbrev pub due_shares : (target source side : List Pick) → (needs gives : List (ℕ → Bool)) → (adds : List (ℕ → ℕ)) → List (List ℕ)
due_shares target source side needs gives adds =
    shares (both (by_place target needs) (by_place source gives)) (filled_up (counts target) (by_place side adds)) (counts target)

-- whether the single subscripts of both sides pass
abbrev pub singles_due : (target source : List Pick) → (needs gives : List (ℕ → Bool)) → Bool
singles_due target source needs gives = singles_pass target needs && singles_pass source gives

-- the slots due on one side
abbrev pub due_slots : (target source side : List Pick) → (needs gives : List (ℕ → Bool)) → (adds : List (ℕ → ℕ)) → List ℕ
due_slots target source side needs gives adds =
    if singles_due target source needs gives
    then map (λ r. singles_total side adds + r) (sums (due_shares target source side needs gives adds))
    else []
