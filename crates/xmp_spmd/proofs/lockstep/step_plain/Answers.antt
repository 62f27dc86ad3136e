use Rattle.std.proofs.Common.{sym, refl}
use Rattle.xmp_spmd.proofs.Unfolding.{by_itself}
use Rattle.xmp_spmd.proofs.lockstep.step_plain.Goals as goal

pub returns-in-Cast : goal.returns-in-Cast
returns-in-Cast c = rw (c.in-Cast.is, sym c.as_slice-in-Cast.ensures) c.cast_all.ensures

pub returns-in-Declare : goal.returns-in-Declare
returns-in-Declare c = by_itself c.args.together.now.program.now c.args.together.now.input.now _ c.args.s.now c.args.nodes.now c.alone.result c.alone.new.nodes c.in-Declare.is refl c.alone.ensures

pub returns-in-Set : goal.returns-in-Set
returns-in-Set c = by_itself c.args.together.now.program.now c.args.together.now.input.now _ c.args.s.now c.args.nodes.now c.alone-in-Set.result c.alone-in-Set.new.nodes c.in-Set.is refl c.alone-in-Set.ensures

pub returns-in-Return : goal.returns-in-Return
returns-in-Return c = by_itself c.args.together.now.program.now c.args.together.now.input.now _ c.args.s.now c.args.nodes.now c.alone-in-Return.result c.alone-in-Return.new.nodes c.in-Return.is refl c.alone-in-Return.ensures

pub returns-in-Call : goal.returns-in-Call
returns-in-Call c = by_itself c.args.together.now.program.now c.args.together.now.input.now _ c.args.s.now c.args.nodes.now c.alone-in-Call.result c.alone-in-Call.new.nodes c.in-Call.is refl c.alone-in-Call.ensures

pub returns-in-Print : goal.returns-in-Print
returns-in-Print c = by_itself c.args.together.now.program.now c.args.together.now.input.now _ c.args.s.now c.args.nodes.now c.alone-in-Print.result c.alone-in-Print.new.nodes c.in-Print.is refl c.alone-in-Print.ensures

pub returns-in-Scan : goal.returns-in-Scan
returns-in-Scan c = by_itself c.args.together.now.program.now c.args.together.now.input.now _ c.args.s.now c.args.nodes.now c.alone-in-Scan.result c.alone-in-Scan.new.nodes c.in-Scan.is refl c.alone-in-Scan.ensures

pub returns-in-Sync : goal.returns-in-Sync
returns-in-Sync c = by_itself c.args.together.now.program.now c.args.together.now.input.now _ c.args.s.now c.args.nodes.now c.alone-in-Sync.result c.alone-in-Sync.new.nodes c.in-Sync.is refl c.alone-in-Sync.ensures
