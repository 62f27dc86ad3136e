use Rattle.std.proofs.Common.{◌≡◌, ◌<◌, ◌≤◌, ℕ, ℤ, List, length, arith, rules, subst, sym, ap, ◌∙◌}
use Rattle.xmp_move.specs.Plans.{IsPlanOf, peers_of}
use Rattle.xmp_code.proofs.Planned.{peers_enough, sends_at, sends_count, sends_inside, some_of, value_of}
use Rattle.xmp_code.proofs.standing.moving.Goals as goal

pub pack-requires-clause-node : goal.pack-requires-clause-node
pack-requires-clause-node c =
    let plan : IsPlanOf c.args.kind.now c.as_slice.result.now c.args.code.now.node c.in-Ok-plan_of.plan = c.in-Ok-plan_of.ensures.plan in
    let few = peers_enough c.args.code.now c.args.kind.now c.requires.valid.nodes c.requires.kind c.args.code.now.node c.requires.valid.nodes.node in
    let n = sends_count c.args.kind.now c.as_slice.result.now c.args.code.now.node c.in-Ok-plan_of.plan plan in
    omega (arith, few, n)

pub pack-requires-clause-inside : goal.pack-requires-clause-inside
pack-requires-clause-inside c =
    let plan : IsPlanOf c.args.kind.now c.as_slice.result.now c.args.code.now.node c.in-Ok-plan_of.plan = c.in-Ok-plan_of.ensures.plan in
    let few = peers_enough c.args.code.now c.args.kind.now c.requires.valid.nodes c.requires.kind c.args.code.now.node c.requires.valid.nodes.node in
    some_of _ _ _ (sends_at c.args.kind.now c.as_slice.result.now c.args.code.now.node c.in-Ok-plan_of.plan plan c.args.code.now.node few)
    (sends_inside c.args.code.now c.args.kind.now c.as_slice.result.now c.args.words.now c.in-Ok-plan_of.plan c.requires.kind plan c.requires.words c.args.code.now.node few)

pub returns-in-Ok-pack-clause-moving : goal.returns-in-Ok-pack-clause-moving
returns-in-Ok-pack-clause-moving c =
    let plan : IsPlanOf c.args.kind.now c.as_slice.result.now c.args.code.now.node c.in-Ok-plan_of.plan = c.in-Ok-plan_of.ensures.plan in
    let own : IsPlanOf c.args.kind.now c.in-Ok.numbers.items c.args.code.now.node c.in-Ok-plan_of.plan =
    subst (λ xs. IsPlanOf c.args.kind.now xs c.args.code.now.node c.in-Ok-plan_of.plan) c.as_slice.ensures.value plan in
    let few = peers_enough c.args.code.now c.args.kind.now c.requires.valid.nodes c.requires.kind c.args.code.now.node c.requires.valid.nodes.node in
    record {
      plan = own;
      own = value_of _ _ _ (sends_at c.args.kind.now c.in-Ok.numbers.items c.args.code.now.node c.in-Ok-plan_of.plan own c.args.code.now.node few) c.in-Ok-pack.ensures;
    }
