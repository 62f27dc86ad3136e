-- Cells of a box that pass a test in each dimension.
use Rattle.std.specs.Prelude.{ℕ, ◌<◌, Bool, true, false, ◌+◌, ◌&&◌, List, [], ◌∷◌, zero, suc, if◌then◌else◌}
use Rattle.xmp_dist.specs.Count.{count_below}

-- each subscript lies below its extent
unfoldable pub IsInside : List ℕ → List ℕ → Type 0
IsInside [] [] = Unit {0}
IsInside (x ∷ xs) (e ∷ es) = (x < e) × IsInside xs es
IsInside _ _ = ⊥

-- a cell passes where each subscript passes its dimension's test
unfoldable pub all_pass : List (ℕ → Bool) → List ℕ → Bool
all_pass [] xs = true
all_pass (p ∷ ps) [] = false
all_pass (p ∷ ps) (x ∷ xs) = p x && all_pass ps xs

-- how many numbers below its bound pass each test
unfoldable pub counts_below : List (ℕ → Bool) → List ℕ → List ℕ
counts_below [] ns = []
counts_below (p ∷ ps) [] = []
counts_below (p ∷ ps) (n ∷ ns) = count_below p n ∷ counts_below ps ns

-- the sum of f 0 up to f (n - 1)
unfoldable pub sum_below : (ℕ → ℕ) → ℕ → ℕ
sum_below f zero = 0
sum_below f (suc n) = sum_below f n + f n

-- how many cells of a box with these extents pass a test
unfoldable pub count_cells : List ℕ → (List ℕ → Bool) → ℕ
count_cells [] p = if p [] then 1 else 0
count_cells (e ∷ es) p = sum_below (λ x. count_cells es (λ xs. p (x ∷ xs))) e

-- how many cells of the box pass that come before a cell in row-major order: those with a smaller first subscript, and
-- those with the same one and a rest that comes before
unfoldable pub count_before : List ℕ → (List ℕ → Bool) → List ℕ → ℕ
count_before [] p xs = 0
count_before (e ∷ es) p [] = 0
count_before (e ∷ es) p (x ∷ xs) =
    sum_below (λ y. count_cells es (λ ys. p (y ∷ ys))) x + count_before es (λ ys. p (x ∷ ys)) xs
