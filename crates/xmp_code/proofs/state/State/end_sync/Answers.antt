use Rattle.std.proofs.Common.{◌+◌, refl}
use Rattle.xmp_instr.proofs.Served.{sync_fit}
use Rattle.xmp_code.specs.declared.state.State.{State}
use Rattle.xmp_code.specs.States.{node_of}
use Rattle.xmp_code.proofs.Advanced.{refits}
use Rattle.xmp_code.proofs.Outside.{stage_is}
use Rattle.xmp_code.proofs.state.State.end_sync.Goals as goal

pub returns-clause-fits : goal.returns-clause-fits
returns-clause-fits c =
    let s : State = c.args.self.now in
    refits c.args.code.now s (record s { place = s.place + 1 }) c.requires.state
    (sync_fit c.args.code.now (node_of s) c.requires.valid c.requires.state.node (stage_is s c.requires.going) c.requires.sync)
    refl refl refl refl c.requires.state.moving
