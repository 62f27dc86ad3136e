use Rattle.std.proofs.Common.{◌≡◌, arith, ap, ◌∙◌}
use Rattle.xmp_move.specs.Stores.{packed}
use Rattle.xmp_instr.specs.Meetings.{words_alone}
use Rattle.xmp_code.proofs.Planned.{peers_enough, sends_at, sends_count, sends_inside, some_of, value_of}
use Rattle.xmp_machine.proofs.telling.says_moved.Goals as goal

pub pack-requires-clause-node : goal.pack-requires-clause-node
pack-requires-clause-node c =
    let few = peers_enough c.args.code.now c.args.kind.now c.requires.valid.nodes c.requires.kind c.args.to c.requires.to in
    let n = sends_count c.args.kind.now c.args.moving.now.numbers.items c.args.code.now.node c.args.moving.now.plan c.requires.moving.plan in
    omega (arith, few, n)

pub pack-requires-clause-inside : goal.pack-requires-clause-inside
pack-requires-clause-inside c =
    let few = peers_enough c.args.code.now c.args.kind.now c.requires.valid.nodes c.requires.kind c.args.to c.requires.to in
    some_of _ _ _ (sends_at c.args.kind.now c.args.moving.now.numbers.items c.args.code.now.node c.args.moving.now.plan c.requires.moving.plan c.args.to few)
    (sends_inside c.args.code.now c.args.kind.now c.args.moving.now.numbers.items c.args.words.now c.args.moving.now.plan c.requires.kind c.requires.moving.plan c.requires.words c.args.to few)

pub returns : goal.returns
returns c =
    let few = peers_enough c.args.code.now c.args.kind.now c.requires.valid.nodes c.requires.kind c.args.to c.requires.to in
    c.words_alone.ensures
    ∙ ap (λ ws. words_alone ws) (value_of (λ slots. c.in_ok-said.said ≡ packed c.args.words.now slots) _ _
    (sends_at c.args.kind.now c.args.moving.now.numbers.items c.args.code.now.node c.args.moving.now.plan c.requires.moving.plan c.args.to few) c.in_ok-said.ensures)
