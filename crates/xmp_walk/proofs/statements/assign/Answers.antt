use Rattle.std.proofs.Common.{◌∙◌, ap}
use Rattle.xmp_names.specs.Walk.{typed, typed_reference}
use Rattle.xmp_walk.specs.Statements.{compound_of, set}
use Rattle.xmp_names.proofs.Walks.{two_steps}
use Rattle.xmp_walk.proofs.statements.assign.Goals as goal

pub returns : goal.returns
returns c =
    two_steps (typed_reference c.args.r.now) (typed c.args.value.now) (λ t v. set (compound_of c.args.op.what) c.args.op.at t v)
    c.in_ok-target.target c.in_ok-value.value c.in_ok-made.made c.args.world.now c.typed_reference.new.self c.typed.new.self
    c.in_ok-target.ensures c.in_ok-value.ensures
    (c.in_ok-made.ensures ∙ ap (λ o. set o c.args.op.at c.in_ok-target.target c.in_ok-value.value) c.compound_of.ensures)
