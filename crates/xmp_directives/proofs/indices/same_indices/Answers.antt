use Rattle.std.proofs.Common.{◌≤◌, ◌∙◌, sym, arith, length}
use Rattle.std.proofs.lemmas.Bool.{ltb-false}
use Rattle.xmp_directives.proofs.SameIndices.{same_end, same_past}
use Rattle.xmp_directives.proofs.indices.same_indices.Goals as goal

pub returns-in_default : goal.returns-in_default
returns-in_default c =
    let h = c.in_default.ensures.lookup.0 in
    let le : length c.args.nest.now ≤ c.names.i = ltb-false _ _ (sym h) in
    sym (c.names.invariant ∙ same_past c.args.names.now c.args.nest.now c.names.i c.names-test.true le)

pub returns : goal.returns
returns c = sym (c.names.invariant ∙ same_end c.args.names.now c.args.nest.now c.names.i (omega arith))
