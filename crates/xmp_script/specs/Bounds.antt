-- A bound of the steps of images that carry a script (this project).
use Rattle.std.specs.Prelude.{ℕ, zero, suc, ◌+◌, length}
use Rattle.xmp_script.specs.Script.{Script}

-- the sum of f below c
abbrev pub sum_below : (ℕ → ℕ) → ℕ → ℕ
sum_below f zero = 0
sum_below f (suc c) = sum_below f c + f c

-- a bound of the moves of image k in the phases below q: its accesses, a sync's put, a take from each image
abbrev pub moves_below : {V : Type 0} → Script V → ℕ → ℕ → ℕ
moves_below s k q = sum_below (λ p. length (s.accesses p k) + suc s.images) q

-- a bound of the steps of all images
abbrev pub most_steps : {V : Type 0} → Script V → ℕ
most_steps s = sum_below (λ k. moves_below s k s.phases) s.images
