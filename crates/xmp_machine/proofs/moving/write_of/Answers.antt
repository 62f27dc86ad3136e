use Rattle.std.proofs.Common.{◌≡◌, arith, map, ap, ◌∙◌}
use Rattle.xmp_num.specs.Arithmetic.{wrap}
use Rattle.xmp_move.specs.Stores.{write_all}
use Rattle.xmp_instr.specs.Meetings.{filled_slots}
use Rattle.xmp_code.proofs.Planned.{fills_at, fills_count, fills_inside, peers_enough, some_of, value_of}
use Rattle.xmp_machine.proofs.moving.write_of.Goals as goal

pub unpack-requires-clause-node : goal.unpack-requires-clause-node
unpack-requires-clause-node c =
    let few = peers_enough c.args.code.now c.args.kind.now c.requires.valid.nodes c.requires.kind c.args.k c.requires.node in
    let n = fills_count c.args.kind.now c.args.moving.now.numbers.items c.args.code.now.node c.args.moving.now.plan c.requires.plan in
    omega (arith, few, n)

pub unpack-requires-clause-inside : goal.unpack-requires-clause-inside
unpack-requires-clause-inside c =
    let few = peers_enough c.args.code.now c.args.kind.now c.requires.valid.nodes c.requires.kind c.args.k c.requires.node in
    some_of _ _ _ (fills_at c.args.kind.now c.args.moving.now.numbers.items c.args.code.now.node c.args.moving.now.plan c.requires.plan c.args.k few)
    (fills_inside c.args.code.now c.args.kind.now c.args.moving.now.numbers.items c.args.words.now c.args.moving.now.plan c.requires.kind c.requires.plan c.requires.words c.args.k few)

pub unpack-requires-clause-long : goal.unpack-requires-clause-long
unpack-requires-clause-long c =
    let few = peers_enough c.args.code.now c.args.kind.now c.requires.valid.nodes c.requires.kind c.args.k c.requires.node in
    some_of _ _ _ (fills_at c.args.kind.now c.args.moving.now.numbers.items c.args.code.now.node c.args.moving.now.plan c.requires.plan c.args.k few) c.requires.long

pub returns : goal.returns
returns c =
    let few = peers_enough c.args.code.now c.args.kind.now c.requires.valid.nodes c.requires.kind c.args.k c.requires.node in
    value_of (λ slots. c.unpack.new.store ≡ write_all c.args.words.now slots (map (wrap c.type_of.result) c.args.said.now)) _ _
    (fills_at c.args.kind.now c.args.moving.now.numbers.items c.args.code.now.node c.args.moving.now.plan c.requires.plan c.args.k few) c.unpack.ensures
    ∙ ap (λ ty. write_all c.args.words.now (filled_slots c.args.kind.now c.args.moving.now.numbers.items c.args.code.now.node c.args.k) (map (wrap ty) c.args.said.now)) c.type_of.ensures
