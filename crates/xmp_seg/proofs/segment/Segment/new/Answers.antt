use Rattle.std.proofs.Common.{◌≡◌, ◌-◌, ◌<◌, ℕ, arith, length, subst, sym}
use Rattle.xmp_seg.specs.Rule.{IsFor}
use Rattle.xmp_seg.proofs.segment.Segment.new.Goals as goal

pub invariant_of-result : goal.invariant_of-result
invariant_of-result g c =
    let words = c.in_ok-table.ensures.words in
    let n : length c.args.start.now ≡ c.in_ok-table.table.shared.table_id.words - 1 = omega (arith, words) in
    (subst (λ (m : ℕ). IsFor m g.S.Script.script) n c.requires.script, omega (arith, words), c.in_ok-table.ensures.slots)
