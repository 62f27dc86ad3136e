-- Jumps over turns.
use Rattle.std.proofs.Common.{◌≡◌, ◌≢◌, ◌+◌, ◌*◌, ◌<◌, ◌≤◌, ℕ, zero, suc, inl, inr, arith, ℤ, pos, negsuc, ◌+ℤ◌, ap, sym, subst, ◌∙◌}
use Rattle.std.specs.Prelude.{◌≤ℤ◌, ◌<ℤ◌}
use Rattle.std.specs.Int.{div_ceil}
use Rattle.std.proofs.Math.Nat.{mul-le-mul_right}
use Rattle.std.proofs.lemmas.Bool.{cases_lt}
use Rattle.std.proofs.lemmas.Int.{ints}
use Rattle.std.proofs.lemmas.Grind.{div_ceil_times}
use Rattle.xmp_dist.specs.declared.dimension.Dim.{Dim}
use Rattle.xmp_dist.specs.Owner.{owner, owner_inside, nearest}
use Rattle.xmp_dist.proofs.Owned.{owner_by_lt, dim_fits}

-- each turn takes a step
pub turns_below : (k n step : ℕ) → (k ≤ n → k * step ≤ n * step) × (k < n → k * step + step ≤ n * step)
turns_below k n step = (
  (λ h. mul-le-mul_right {m = k} {n = n} step h),
  (λ h. let e : suc k * step ≤ n * step = mul-le-mul_right {m = suc k} {n = n} step h in let f : suc k * step ≡ k * step + step = omega arith in omega arith),
)

-- so many steps that they reach over a gap, and no further than they must
module _ (k n step gap : ℕ) (rises : 1 ≤ step) where
  q : ℕ
  q = div_ceil gap step

  pub jump_rises : 1 ≤ gap → k < k + div_ceil gap step
  jump_rises h =
      elim (cases_lt 0 (div_ceil gap step)) [
        | inl lt ↦ omega arith
        | inr le ↦ let b = div_ceil_times gap step rises in let z : div_ceil gap step * step ≤ 0 * step = mul-le-mul_right {m = div_ceil gap step} {n = 0} step le in absurd (omega arith)
      ]

  pub jump_upto : k * step + gap ≤ n * step → k + div_ceil gap step ≤ n
  jump_upto h =
      elim (cases_lt n (k + div_ceil gap step)) [
        | inl lt ↦ let b = div_ceil_times gap step rises in
            let z : suc n * step ≤ (k + div_ceil gap step) * step = mul-le-mul_right {m = suc n} {n = k + div_ceil gap step} step lt in
            let e : suc n * step ≡ n * step + step = omega arith in
            let f : (k + div_ceil gap step) * step ≡ k * step + div_ceil gap step * step = omega arith in
            absurd (omega arith)
        | inr le ↦ le
      ]

  pub jump_inside : (j : ℕ) → j < k + div_ceil gap step → j * step < k * step + gap
  jump_inside j lt =
      let b = div_ceil_times gap step rises in
      let z : suc j * step ≤ (k + div_ceil gap step) * step = mul-le-mul_right {m = suc j} {n = k + div_ceil gap step} step lt in
      let e : suc j * step ≡ j * step + step = omega arith in
      let f : (k + div_ceil gap step) * step ≡ k * step + div_ceil gap step * step = omega arith in
      omega arith

-- the same at positions
abbrev pub place : (first off : ℤ) (step k : ℕ) → ℤ
place first off step k = (first +ℤ pos (k * step)) +ℤ off

pub places_rise : (first off : ℤ) (step k n : ℕ) → 1 ≤ step → k < n → place first off step k <ℤ place first off step n
places_rise first off step k n rises lt =
    let b : k * step + step ≤ n * step = (turns_below k n step).1 lt in omega (arith, ints)

pub gap_rises : (own : ℤ → ℕ) (node : ℕ) (here next end : ℤ) (gap : ℕ) → next ≡ here +ℤ pos gap → here <ℤ end → (next <ℤ end → own next ≡ node) → own here ≢ node
    → 1 ≤ gap
gap_rises own node here next end zero e lt owned other =
    let same : next ≡ here = omega (arith, ints) in
    absurd (other (ap own (sym same) ∙ owned (omega (arith, ints))))
gap_rises own node here next end (suc gap) e lt owned other = omega arith

pub gap_upto : (first off : ℤ) (step k n gap : ℕ) → (place first off step k +ℤ pos gap) ≤ℤ place first off step n → k * step + gap ≤ n * step
gap_upto first off step k n gap h = omega (arith, ints)

pub gap_inside : (first off : ℤ) (step k j gap : ℕ) → j * step < k * step + gap → place first off step j <ℤ (place first off step k +ℤ pos gap)
gap_inside first off step k j gap h = omega (arith, ints)

pub places_from : (first off : ℤ) (step k j : ℕ) → k ≤ j → place first off step k ≤ℤ place first off step j
places_from first off step k j h = let b : k * step ≤ j * step = (turns_below k j step).0 h in omega (arith, ints)

-- what is known of the turn behind a jump
pub record Behind (own : ℤ → ℕ) (node : ℕ) (first off : ℤ) (step k n turn : ℕ) : Type 0 where
  pub from : k < turn
  pub upto : turn ≤ n
  pub least : (j : ℕ) → k ≤ j → j < turn → own (place first off step j) ≢ node

pub behind : (own : ℤ → ℕ) (node : ℕ) (first off : ℤ) (step k n gap : ℕ) (next : ℤ) → 1 ≤ step → k < n
    → next ≡ place first off step k +ℤ pos gap → next ≤ℤ place first off step n → (next <ℤ place first off step n → own next ≡ node)
    → ((x : ℤ) → place first off step k ≤ℤ x → x <ℤ next → own x ≢ node) → own (place first off step k) ≢ node
    → Behind own node first off step k n (k + div_ceil gap step)
behind own node first off step k n gap next rises lt e upto owned least other = record {
  from = jump_rises k n step gap rises (gap_rises own node (place first off step k) next (place first off step n) gap e (places_rise first off step k n rises lt) owned other);
  upto = jump_upto k n step gap rises (gap_upto first off step k n gap (let P : ℤ → Type 0 = λ z. z ≤ℤ place first off step n in subst P e upto));
  least = λ j from to. least (place first off step j) (places_from first off step k j from)
      (let P : ℤ → Type 0 = λ z. place first off step j <ℤ z in subst P (sym e) (gap_inside first off step k j gap (jump_inside k n step gap rises j to)));
}

-- an owner is one of the dimension's nodes
nearest_below : (size : ℕ) (g : ℤ) → 0 < size → nearest size g < size
nearest_below size (pos g) h = omega arith
nearest_below size (negsuc g) h = h

pub owner_below : (d : Dim) (g : ℤ) → owner d g < d.nodes
unfolding owner_inside
owner_below d g = owner_by_lt d.size d.nodes d.dist (nearest d.size g) d.valid (nearest_below d.size g (dim_fits d.size d.nodes d.dist d.valid).size_pos)
