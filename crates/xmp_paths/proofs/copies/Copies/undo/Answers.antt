use Rattle.std.proofs.Common.{◌≡◌, ◌+◌, ◌≤◌, ◌∷◌, [], ◌∙◌, ap, length, take, drop, arith, length-append}
use Rattle.xmp_paths.specs.Copies.{set_of, undone_at}
use Rattle.xmp_paths.proofs.TrailLaws.{undo_step, undo_trail}
use Rattle.xmp_paths.proofs.copies.Copies.undo.Goals as goal

pub loop-self-preserved-in-Continue-1 : goal.loop-self-preserved-in-Continue-1
loop-self-preserved-in-Continue-1 c =
    let e : length c.loop-self.self.trail ≡ length c.pop.new.self + 1 = ap length c.in-Some.ensures ∙ length-append c.pop.new.self (c.in-Some.change ∷ []) in
    let le : c.args.to ≤ length c.pop.new.self = omega (arith, e) in record {
      sets = λ object. ap (λ t. undone_at object (drop c.args.to t) (set_of c.set.new.self object)) c.in_ok-set.ensures.trail
          ∙ (undo_step object c.args.to _ _ c.in-Some.change _ _ c.in-Some.ensures le (c.in_ok-set.ensures.sets object)
          ∙ c.loop-self.invariant.sets object);
      trail = ap (take c.args.to) c.in_ok-set.ensures.trail ∙ (undo_trail c.args.to _ _ c.in-Some.change c.in-Some.ensures le ∙ c.loop-self.invariant.trail);
    }
