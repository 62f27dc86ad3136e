-- Counts that stop at the greatest number of 64 bits.
use Rattle.std.proofs.Common.{◌≡◌, ℕ, suc, ◌+◌, List, [], ◌∷◌, ap₂, refl, arith}
use Rattle.xmp_nodes.specs.Nodes.{bounded, raised_by}

-- what is added may be bounded as well
pub bounded_more : (n m : ℕ) → bounded (n + bounded m) ≡ bounded (n + m)
bounded_more n m = omega arith

-- the same of each of a list
pub raised_bounded : (more : ℕ → ℕ) (at : ℕ) (ns : List ℕ) → raised_by (λ k. bounded (more k)) at ns ≡ raised_by more at ns
raised_bounded more at [] = refl
raised_bounded more at (n ∷ ns) = ap₂ (λ x xs. x ∷ xs) (bounded_more n (more at)) (raised_bounded more (suc at) ns)
