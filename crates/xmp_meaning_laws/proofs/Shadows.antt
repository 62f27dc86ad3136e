-- What lies within the shadow's widths of an owned position is held.
use Rattle.std.proofs.Common.{◌≡◌, ◌<◌, ◌≤◌, ◌+◌, ◌==◌, ◌&&◌, ◌||◌, ℕ, suc, Bool, true, false, true≢false, refl, sym, subst, ◌∙◌, arith, eq-eqb, le-leb}
use Rattle.std.specs.Prelude.{nat_lt, nat_le}
use Rattle.xmp_dist.specs.declared.form.Dist.{Dist}
use Rattle.xmp_dist.specs.declared.form.Dist.TheVariants.{Whole, Block, Cyclic, Gblock}
use Rattle.xmp_dist.specs.declared.dimension.Dim.{Dim}
use Rattle.xmp_dist.specs.Table.{is_chunked, chunk_start, chunk_end}
use Rattle.xmp_dist.specs.Owner.{owner_inside}
use Rattle.xmp_dist.proofs.Owned.{owner_by_lt, chunk_owner}
use Rattle.xmp_map.specs.Shadow.{has_shadow, is_near, holds_at}
use Rattle.std.proofs.lemmas.Bool.{leb-true}
use Rattle.xmp_map.proofs.Counted.{and_left, and_right}
use Rattle.xmp_meaning_laws.specs.Laws.{ShadowIsHeld}
use Rattle.xmp_meaning_laws.proofs.CountedLoops.{both_true}

chunked : (dist : Dist) → has_shadow dist ≡ true → is_chunked dist ≡ true
chunked Block e = refl
chunked (Gblock ls) e = refl
chunked Whole e = absurd (true≢false (sym e))
chunked (Cyclic w) e = absurd (true≢false (sym e))

near : (start end low high x y : ℕ) → start ≤ x → x < end → x ≤ y + low → y ≤ x + high → is_near start end low high y ≡ true
near start end low high x y a b c d =
    both_true (nat_lt start end) (nat_le start (y + low) && nat_lt y (end + high)) (le-leb (suc start) end (let q : suc start ≤ end = omega (arith, a, b) in q))
    (both_true (nat_le start (y + low)) (nat_lt y (end + high)) (le-leb start (y + low) (let q : start ≤ y + low = omega (arith, a, c) in q))
    (le-leb (suc y) (end + high) (let q : suc y ≤ end + high = omega (arith, b, d) in q)))

second : (a b : Bool) → b ≡ true → (a || b) ≡ true
second true b e = refl
second false b e = e

first : (a b : Bool) → a ≡ true → (a || b) ≡ true
first true b e = refl
first false b e = absurd (true≢false (sym e))

pub shadow_is_held : (d : Dim) → ShadowIsHeld d
unfolding owner_inside holds_at
shadow_is_held d node low high x y inside owns below above none = at_shadow (has_shadow d.dist) refl
  where
    start : ℕ
    start = chunk_start d.dist d.size d.nodes node

    end : ℕ
    end = chunk_end d.dist d.size d.nodes node

    node_lt : node < d.nodes
    node_lt = subst (λ n. n < d.nodes) owns (owner_by_lt d.size d.nodes d.dist x d.valid inside)

    at_shadow : (b : Bool) → has_shadow d.dist ≡ b → holds_at d node low high y ≡ true
    at_shadow true e =
        let chunk : (nat_le start x && nat_lt x end) ≡ true =
        sym (chunk_owner d.size d.nodes d.dist node x d.valid (chunked d.dist e) node_lt inside) ∙ eq-eqb (owner_inside d x) node owns in
        second (owner_inside d y == node) (has_shadow d.dist && is_near start end low high y)
        (both_true (has_shadow d.dist) (is_near start end low high y) e (near start end low high x y (leb-true start x (and_left (nat_le start x) (nat_lt x end) chunk)) (leb-true (suc x) end (and_right (nat_le start x) (nat_lt x end) chunk)) below above))
    at_shadow false e =
        let widths : (low ≡ 0) × (high ≡ 0) = none e in
        let same : x ≡ y = omega (arith, below, above, widths.0, widths.1) in
        first (owner_inside d y == node) (has_shadow d.dist && is_near start end low high y) (eq-eqb (owner_inside d y) node (subst (λ z. owner_inside d z ≡ node) same owns))
