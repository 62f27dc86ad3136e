-- Sets of nodes by their bits.
use Rattle.std.proofs.Common.{◌≡◌, ℕ, zero, suc, ◌-◌, ◌<◌, ◌≤◌, ◌^◌, ◌%◌, Bool, true, false, ◌||◌, ◌&&◌, refl, ap, ◌∙◌, arith, bit_and, bit_or, w16, lit<, ⊎_elim}
use Rattle.std.specs.Prelude.{not, min, max, ◌==◌}
use Rattle.std.specs.Int.{bit_at, trailing_zeros}
use Rattle.std.proofs.lemmas.Nat.Bits.{bit_at-lt, bit_at_or, bit_at_and, bit_at_not, bit_at-trailing_zeros, bit_at-zero}
use Rattle.std.proofs.Math.Nat.{pow-le-pow_right, div-eq_of_lt}
use Rattle.std.proofs.lemmas.Bool.{cases_lt, true≢false, eq-eqb}
use Rattle.xmp_paths.specs.NodeSets.{has}

max_one : (x y : ℕ) → x < 2 → y < 2 → (max x y == 1) ≡ ((x == 1) || (y == 1))
max_one zero zero p q = refl
max_one zero (suc zero) p q = refl
max_one zero (suc (suc y)) p q = absurd (omega arith)
max_one (suc zero) zero p q = refl
max_one (suc zero) (suc zero) p q = refl
max_one (suc zero) (suc (suc y)) p q = absurd (omega arith)
max_one (suc (suc x)) y p q = absurd (omega arith)

min_one : (x y : ℕ) → x < 2 → y < 2 → (min x y == 1) ≡ ((x == 1) && (y == 1))
min_one zero zero p q = refl
min_one zero (suc zero) p q = refl
min_one zero (suc (suc y)) p q = absurd (omega arith)
min_one (suc zero) zero p q = refl
min_one (suc zero) (suc zero) p q = refl
min_one (suc zero) (suc (suc y)) p q = absurd (omega arith)
min_one (suc (suc x)) y p q = absurd (omega arith)

flip_one : (x : ℕ) → x < 2 → (1 - x == 1) ≡ not (x == 1)
flip_one zero p = refl
flip_one (suc zero) p = refl
flip_one (suc (suc x)) p = absurd (omega arith)

pub has_union : (a b node : ℕ) → has (bit_or a b) node ≡ (has a node || has b node)
has_union a b node = ap (λ x. x == 1) (bit_at_or a b node) ∙ max_one (bit_at a node) (bit_at b node) (bit_at-lt a node) (bit_at-lt b node)

pub has_both : (a b node : ℕ) → has (bit_and a b) node ≡ (has a node && has b node)
has_both a b node = ap (λ x. x == 1) (bit_at_and a b node) ∙ min_one (bit_at a node) (bit_at b node) (bit_at-lt a node) (bit_at-lt b node)

beyond : (n node : ℕ) → n < 2 ^ 16 → 16 ≤ node → has n node ≡ false
beyond n node h far =
    let le : 2 ^ 16 ≤ 2 ^ node = pow-le-pow_right (lit< tt) far in
    let lt : n < 2 ^ node = omega (arith, h, le) in
    ap (λ x. x % 2 == 1) (div-eq_of_lt lt)

pub has_not : (n node : ℕ) → n < 2 ^ 16 → node < 16 → has (65535 - n) node ≡ not (has n node)
has_not n node h near = ap (λ x. x == 1) (bit_at_not w16 n node h near) ∙ flip_one (bit_at n node) (bit_at-lt n node)

swap_parts : (w n s : Bool) → ((w && n) || s) ≡ (s || (n && w))
swap_parts false false false = refl
swap_parts false false true = refl
swap_parts false true false = refl
swap_parts false true true = refl
swap_parts true false false = refl
swap_parts true false true = refl
swap_parts true true false = refl
swap_parts true true true = refl

no_part : (w m n s : Bool) → w ≡ false → ((w && m) || s) ≡ (s || (n && w))
no_part false m false false e = refl
no_part false m false true e = refl
no_part false m true false e = refl
no_part false m true true e = refl
no_part true m n s e = absurd (true≢false e)

pub has_marked : (was current stale node : ℕ) → was < 2 ^ 16 → current < 2 ^ 16 →
    has (bit_or (bit_and was (65535 - current)) stale) node ≡ (has stale node || (not (has current node) && has was node))
has_marked was current stale node h k =
    has_union (bit_and was (65535 - current)) stale node
    ∙ (ap (λ x. x || has stale node) (has_both was (65535 - current) node) ∙ ⊎_elim near far (cases_lt node 16))
  where
    near : node < 16 → ((has was node && has (65535 - current) node) || has stale node) ≡ (has stale node || (not (has current node) && has was node))
    near lt = ap (λ x. (has was node && x) || has stale node) (has_not current node k lt) ∙ swap_parts (has was node) (not (has current node)) (has stale node)

    far : 16 ≤ node → ((has was node && has (65535 - current) node) || has stale node) ≡ (has stale node || (not (has current node) && has was node))
    far le = no_part (has was node) (has (65535 - current) node) (not (has current node)) (has stale node) (beyond was node h le)

pub some_node : (n : ℕ) → n < 2 ^ 16 → (n ≡ 0 → ⊥) → (node : ℕ) × (has n node ≡ true)
some_node n h ne =
    let pos : 0 < n = omega arith in
    let low = bit_at-trailing_zeros w16 n pos h in
    (trailing_zeros w16 n, eq-eqb _ _ low.1)

pub no_node : (node : ℕ) → has 0 node ≡ false
no_node node = ap (λ x. x == 1) (bit_at-zero node)
