use Rattle.std.proofs.Common.{arith, length, ap, sym, ◌∙◌}
use Rattle.std.proofs.lemmas.Option.{same_Some}
use Rattle.xmp_code.proofs.Planned.{peers_enough, fills_at, fills_count}
use Rattle.xmp_machine.proofs.telling.due_of_moved.Goals as goal

pub fills-requires : goal.fills-requires
fills-requires c =
    let few = peers_enough c.args.code.now c.args.kind.now c.requires.valid.nodes c.requires.kind c.args.from c.requires.from in
    let n = fills_count c.args.kind.now c.args.moving.now.numbers.items c.args.code.now.node c.args.moving.now.plan c.requires.plan in
    omega (arith, few, n)

pub returns : goal.returns
returns c =
    let few = peers_enough c.args.code.now c.args.kind.now c.requires.valid.nodes c.requires.kind c.args.from c.requires.from in
    let e = same_Some _ _ (sym c.fills.ensures ∙ fills_at c.args.kind.now c.args.moving.now.numbers.items c.args.code.now.node c.args.moving.now.plan c.requires.plan c.args.from few) in
    let l = ap (λ slots. length slots) e in
    cc
