use Rattle.std.proofs.Common.{◌≡◌, ℕ, ◌≤◌, ◌<◌, ◌^◌, true, not, ◌&&◌, sym, ap, ◌∙◌, bit_and, arith}
use Rattle.std.proofs.lemmas.Nat.{and_le_l}
use Rattle.std.proofs.lemmas.Bool.{true≢false, eqb-false, ne_eqb, not-true}
use Rattle.xmp_paths.specs.NodeSets.{has}
use Rattle.xmp_paths.proofs.NodeSetLaws.{has_both, some_node, no_node}
use Rattle.xmp_paths.proofs.node_sets.meets.Goals as goal

pub returns : goal.returns
returns c = (λ t. forth (eqb-false _ 0 (not-true _ t)), λ w. ap not (ne_eqb _ 0 (λ z. true≢false (sym w.1 ∙ (sym (has_both a b w.0) ∙ (ap (λ x. has x w.0) z ∙ no_node w.0))))))
  where
    a : ℕ
    a = c.args.a

    b : ℕ
    b = c.args.b

    forth : (bit_and a b ≡ 0 → ⊥) → (node : ℕ) × ((has a node && has b node) ≡ true)
    forth ne =
        let le : bit_and a b ≤ a = and_le_l a b in
        let lt : bit_and a b < 2 ^ 16 = omega (arith, le, c.ranges.a.fits) in
        let w = some_node (bit_and a b) lt ne in
        (w.0, sym (has_both a b w.0) ∙ w.1)
