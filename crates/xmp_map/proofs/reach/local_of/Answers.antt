use Rattle.std.proofs.Common.{◌≡◌, ◌+◌, true, false, refl, arith, ◌∙◌}
use Rattle.std.proofs.lemmas.Bool.{lt-ltb, le-ltb}
use Rattle.xmp_dist.proofs.Counting.{count_below-tells}
use Rattle.xmp_map.specs.Shadow.{holds_at}
use Rattle.xmp_map.proofs.reach.local_of.Goals as goal

pub returns-then-below-held_below : goal.returns-then-below-held_below
returns-then-below-held_below c =
    let t = count_below-tells (λ x. holds_at c.args.dim.now c.args.c c.args.low c.args.high (x + c.args.offset)) c.args.x in
    let h : holds_at c.args.dim.now c.args.c c.args.low c.args.high (c.args.x + c.args.offset) ≡ true = t ∙ lt-ltb _ _ (omega arith) in
    rw (h, c.held_below-below.ensures) refl

pub returns-else-below-held_below : goal.returns-else-below-held_below
returns-else-below-held_below c =
    let t = count_below-tells (λ x. holds_at c.args.dim.now c.args.c c.args.low c.args.high (x + c.args.offset)) c.args.x in
    let h : holds_at c.args.dim.now c.args.c c.args.low c.args.high (c.args.x + c.args.offset) ≡ false = t ∙ le-ltb _ _ (omega arith) in
    rw h refl
