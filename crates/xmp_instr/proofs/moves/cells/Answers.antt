use Rattle.std.proofs.Common.{◌≡◌, ◌*◌, ◌+◌, ◌∙◌, ℕ, sym, ap, arith, drop, get_or}
use Rattle.xmp_map.specs.RowMajor.{product}
use Rattle.xmp_instr.proofs.Sizes.{extents_on, grown, product_end, product_on, too_many}
use Rattle.xmp_instr.proofs.moves.cells.Goals as goal

times_are : (a b x y : ℕ) → a ≡ x → b ≡ y → a * b ≡ x * y
times_are a b x y p q = ap (λ n. n * b) p ∙ ap (λ n. x * n) q

pub returns-then-more-from : goal.returns-then-more-from
returns-then-more-from c =
    let e = times_are _ _ _ _ c.from.ensures c.from-in-extents.ensures in
    let l = c.from-in-extents-2.ensures in
    let m = c.if-more-from.true in
    too_many c.args.extents.now c.extents.extent-index c.extents.count _ 4194304 c.extents-test.true c.extents.invariant.2 c.extents.invariant.0
    (omega (arith, e, l, m))

pub extents-preserved : goal.extents-preserved
extents-preserved c =
    let e = times_are _ _ _ _ c.from.ensures c.from-in-extents.ensures in
    let l = c.from-in-extents-2.ensures in
    let m = c.if-more-from.false in (
      grown _ c.extents.count (get_or c.args.extents.now c.extents.extent-index 0) _
          (c.extents.invariant.0 ∙ ap (λ n. c.extents.count * n) (product_on c.args.extents.now c.extents.extent-index c.extents-test.true))
          ∙ ap (λ n. n * product (drop (c.extents.extent-index + 1) c.args.extents.now)) (sym e),
      omega (arith, e, l, m),
      extents_on c.args.extents.now c.extents.extent-index c.extents-test.true c.extents.invariant.2,
    )

pub returns : goal.returns
returns c =
    let e = product_end c.args.extents.now c.extents.extent-index c.extents-test.false in
    let i = c.extents.invariant.0 ∙ ap (λ n. c.extents.count * n) e in
    (omega (arith, i), c.extents.invariant.1)
