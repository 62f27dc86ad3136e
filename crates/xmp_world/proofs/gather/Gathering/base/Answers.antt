use Rattle.std.proofs.Common.{◌<◌, length, ap, ◌∙◌, arith}
use Rattle.std.specs.Prelude.{slice_get}
use Rattle.std.proofs.lemmas.Option.{none-some, same_Some}
use Rattle.std.proofs.lemmas.Bool.{lt-ltb, false≢true}
use Rattle.xmp_world.proofs.GatherLaws.{bases_long, base_there}
use Rattle.xmp_world.proofs.gather.Gathering.base.Goals as goal

pub unreachable-requires : goal.unreachable-requires
unreachable-requires c =
    let g = c.args.self.now in
    none-some _ (c.in-None-get.ensures.value ∙ (ap (λ bs. slice_get bs c.args.array) c.in-Some.ensures.lookup.1
    ∙ base_there g.parts.now g.bases.now _ g.bases_are c.args.node c.args.array c.requires.node c.requires.array))

pub unreachable-requires-in-None : goal.unreachable-requires-in-None
unreachable-requires-in-None c =
    let g = c.args.self.now in
    let long = bases_long g.parts.now g.bases.now g.bases_are in
    let below : c.args.node < length g.bases.now = omega (arith, long, c.requires.node) in
    false≢true (c.in-None.ensures.lookup.0 ∙ lt-ltb _ _ below)

pub returns : goal.returns
returns c =
    let g = c.args.self.now in
    same_Some _ _ (c.in-Some-get.ensures.value ∙ (ap (λ bs. slice_get bs c.args.array) c.in-Some.ensures.lookup.1
    ∙ base_there g.parts.now g.bases.now _ g.bases_are c.args.node c.args.array c.requires.node c.requires.array))
