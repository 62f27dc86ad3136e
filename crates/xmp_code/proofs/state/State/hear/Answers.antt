use Rattle.std.proofs.Common.{sym, subst}
use Rattle.xmp_instr.specs.Fits.{Fits}
use Rattle.xmp_instr.proofs.Served.{heard_fit}
use Rattle.xmp_code.specs.States.{node_of}
use Rattle.xmp_code.proofs.Advanced.{same_fits}
use Rattle.xmp_code.proofs.state.State.hear.Goals as goal

pub returns-clause-fits : goal.returns-clause-fits
returns-clause-fits c = λ code f due. same_fits code c.args.self.now c.note_heard.new.self f c.note_heard.ensures.same
    (subst (Fits code) (sym c.note_heard.ensures.node) (heard_fit code (node_of c.args.self.now) c.args.from c.args.message f.node due))
