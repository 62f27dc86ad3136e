use Rattle.std.proofs.Common.{◌∙◌, ap, []}
use Rattle.xmp_names.specs.Walk.{typed, typed_reference}
use Rattle.xmp_walk.specs.Statements.{first_part}
use Rattle.xmp_names.proofs.Walks.{two_steps}
use Rattle.xmp_walk.proofs.loops.first_assigned.Goals as goal

pub returns : goal.returns
returns c =
    two_steps (typed_reference c.args.r.now) (typed c.args.value.now) (λ t v. first_part [] c.args.value.now t v)
    c.in_ok-target.target c.in_ok-made.made c.first_part.result c.args.world.now c.typed_reference.new.self c.typed.new.self
    c.in_ok-target.ensures c.in_ok-made.ensures
    (c.first_part.ensures ∙ ap (λ d. first_part d c.args.value.now c.in_ok-target.target c.in_ok-made.made) c.new.ensures)
