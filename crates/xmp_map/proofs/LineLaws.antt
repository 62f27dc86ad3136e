-- The closed formulas for the subscripts of one dimension that a position holds.
use Rattle.std.proofs.Common.{◌≡◌, ℕ, ◌+◌, ◌-◌, ◌<◌, ◌≤◌, ◌⊎◌, inl, inr, Bool, true, false, refl, ◌∙◌, ap, arith, min}
use Rattle.std.specs.Prelude.{◌&&◌, ◌||◌, ◌==◌, nat_lt, nat_le}
use Rattle.std.proofs.lemmas.Bool.Decides.{nat_tests}
use Rattle.xmp_dist.specs.declared.dimension.Dim.{Dim}
use Rattle.xmp_dist.specs.Count.{count_below}
use Rattle.xmp_dist.specs.Table.{is_chunked, chunk_start, chunk_end}
use Rattle.xmp_dist.specs.Owner.{owner_inside, owned_below}
use Rattle.xmp_dist.proofs.Counting.{count_below-same, count_below-shift, count_below-span}
use Rattle.xmp_dist.proofs.Owned.{chunk_owner}
use Rattle.xmp_map.specs.Shadow.{has_shadow, is_near, holds_at}

-- a form with no shadow: what is owned, counted on from the offset
pub held_cyclic : (d : Dim) (c lo hi offset n : ℕ) → has_shadow d.dist ≡ false →
    count_below (λ x. holds_at d c lo hi (x + offset)) n + owned_below d c offset ≡ owned_below d c (n + offset)
unfolding holds_at
held_cyclic d c lo hi offset n h =
    let same = count_below-same (λ x. holds_at d c lo hi (x + offset)) (λ x. owner_inside d (x + offset) == c) n
    (λ x _. ap (λ b. (owner_inside d (x + offset) == c) || (b && is_near (chunk_start d.dist d.size d.nodes c) (chunk_end d.dist d.size d.nodes c) lo hi (x + offset))) h ∙ or_false (owner_inside d (x + offset) == c)) in
    let shift = count_below-shift (λ x. owner_inside d x == c) offset n in
    omega arith
  where
    or_false : (b : Bool) → (b || false) ≡ b
    or_false true = refl
    or_false false = refl

near_true : (start end lo hi offset x : ℕ) → start < end →
    ((nat_le start (x + offset) && nat_lt (x + offset) end) || (true && is_near start end lo hi (x + offset))) ≡ (nat_le (start - (lo + offset)) x && nat_lt x ((end + hi) - offset))
near_true start end lo hi offset x n = grind (arith, nat_tests)

near_false : (start end offset x : ℕ) (b : Bool) → start < end →
    ((nat_le start (x + offset) && nat_lt (x + offset) end) || (false && b)) ≡ (nat_le (start - (0 + offset)) x && nat_lt x ((end + 0) - offset))
near_false start end offset x b n = grind (arith, nat_tests)

far_test : (start end lo hi offset x : ℕ) (shadow : Bool) → end ≤ start →
    ((nat_le start (x + offset) && nat_lt (x + offset) end) || (shadow && is_near start end lo hi (x + offset))) ≡ (nat_le 0 x && nat_lt x 0)
far_test start end lo hi offset x true n = grind (arith, nat_tests)
far_test start end lo hi offset x false n = grind (arith, nat_tests)

near_test : (shadow : Bool) (start end lo hi offset x : ℕ) → ((shadow ≡ true) ⊎ ((lo ≡ 0) × (hi ≡ 0))) → start < end →
    ((nat_le start (x + offset) && nat_lt (x + offset) end) || (shadow && is_near start end lo hi (x + offset))) ≡ (nat_le (start - (lo + offset)) x && nat_lt x ((end + hi) - offset))
near_test true start end lo hi offset x s n = near_true start end lo hi offset x n
near_test false start end lo hi offset x (inl e) n = cc
near_test false start end lo hi offset x (inr e) n = rw (e.0, e.1) (near_false start end offset x (is_near start end 0 0 (x + offset)) n)

-- a form with chunks: an interval, cut off at the ends
pub record IsCut (d : Dim) (c lo hi offset n : ℕ) : Type 0 where
  pub full : chunk_start d.dist d.size d.nodes c < chunk_end d.dist d.size d.nodes c →
      count_below (λ x. holds_at d c lo hi (x + offset)) n
      ≡ min n ((chunk_end d.dist d.size d.nodes c + hi) - offset) - min n (chunk_start d.dist d.size d.nodes c - (lo + offset))
  pub empty : chunk_end d.dist d.size d.nodes c ≤ chunk_start d.dist d.size d.nodes c →
      count_below (λ x. holds_at d c lo hi (x + offset)) n ≡ 0

pub held_chunked : (d : Dim) (c lo hi offset n : ℕ) → is_chunked d.dist ≡ true → c < d.nodes → n + offset ≤ d.size →
    ((has_shadow d.dist ≡ true) ⊎ ((lo ≡ 0) × (hi ≡ 0))) → IsCut d c lo hi offset n
unfolding holds_at owner_inside
held_chunked d c lo hi offset n k hc hn s =
    let start = chunk_start d.dist d.size d.nodes c in
    let end = chunk_end d.dist d.size d.nodes c in
    record {
      full = λ f. count_below-span (λ x. holds_at d c lo hi (x + offset)) (chunk_start d.dist d.size d.nodes c - (lo + offset)) ((chunk_end d.dist d.size d.nodes c + hi) - offset) n
          (omega arith)
          (λ x hx. ap (λ b. b || (has_shadow d.dist && is_near (chunk_start d.dist d.size d.nodes c) (chunk_end d.dist d.size d.nodes c) lo hi (x + offset)))
          (chunk_owner d.size d.nodes d.dist c (x + offset) d.valid k hc (omega arith))
          ∙ near_test (has_shadow d.dist) (chunk_start d.dist d.size d.nodes c) (chunk_end d.dist d.size d.nodes c) lo hi offset x s f);
      empty = λ f. count_below-span (λ x. holds_at d c lo hi (x + offset)) 0 0 n (omega arith)
          (λ x hx. ap (λ b. b || (has_shadow d.dist && is_near (chunk_start d.dist d.size d.nodes c) (chunk_end d.dist d.size d.nodes c) lo hi (x + offset)))
          (chunk_owner d.size d.nodes d.dist c (x + offset) d.valid k hc (omega arith))
          ∙ far_test (chunk_start d.dist d.size d.nodes c) (chunk_end d.dist d.size d.nodes c) lo hi offset x (has_shadow d.dist) f)
          ∙ (omega arith);
    }
