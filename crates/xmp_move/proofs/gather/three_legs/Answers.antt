use Rattle.xmp_move.proofs.GatherLaws.{legs_none, legs_one, legs_two, legs_three}
use Rattle.xmp_move.proofs.gather.three_legs.Goals as goal

pub returns-in-None-clause-sums : goal.returns-in-None-clause-sums
returns-in-None-clause-sums c = legs_none c.args.target.now c.args.source.now c.args.slots.now c.in-None.ensures

pub returns-in-None-next_leg-clause-sums : goal.returns-in-None-next_leg-clause-sums
returns-in-None-next_leg-clause-sums c =
    legs_one c.args.target.now c.args.source.now c.args.slots.now c.in-Some.target.now c.in-Some.source.now c.in-Some.slots.now c.in-Some.a
    c.in-Some.ensures c.in-None-next_leg.ensures

pub returns-in-None-next_leg-2-clause-sums : goal.returns-in-None-next_leg-2-clause-sums
returns-in-None-next_leg-2-clause-sums c =
    legs_two c.args.target.now c.args.source.now c.args.slots.now c.in-Some.target.now c.in-Some.source.now c.in-Some.slots.now
    c.in-Some-next_leg.target.now c.in-Some-next_leg.source.now c.in-Some-next_leg.slots.now c.in-Some.a c.in-Some-next_leg.b
    c.in-Some.ensures c.in-Some-next_leg.ensures c.in-None-next_leg-2.ensures

pub returns-in-Some-next_leg-2-clause-sums : goal.returns-in-Some-next_leg-2-clause-sums
returns-in-Some-next_leg-2-clause-sums c =
    legs_three c.args.target.now c.args.source.now c.args.slots.now c.in-Some.target.now c.in-Some.source.now c.in-Some.slots.now
    c.in-Some-next_leg.target.now c.in-Some-next_leg.source.now c.in-Some-next_leg.slots.now
    c.in-Some-next_leg-2.field-0-1.now c.in-Some-next_leg-2.field-0-2.now c.in-Some-next_leg-2.field-0-3.now
    c.in-Some.a c.in-Some-next_leg.b c.in-Some-next_leg-2.c
    c.in-Some.ensures c.in-Some-next_leg.ensures c.in-Some-next_leg-2.ensures c.requires.few
