use Rattle.std.proofs.Common.{sym, subst}
use Rattle.xmp_instr.specs.Fits.{Fits}
use Rattle.xmp_instr.proofs.Served.{told_fit}
use Rattle.xmp_code.specs.States.{node_of}
use Rattle.xmp_code.proofs.Advanced.{same_fits}
use Rattle.xmp_code.proofs.state.State.tell.Goals as goal

pub returns-clause-fits : goal.returns-clause-fits
returns-clause-fits c = λ code f. same_fits code c.args.self.now c.note_told.new.self f c.note_told.ensures.same
    (subst (Fits code) (sym c.note_told.ensures.node) (told_fit code (node_of c.args.self.now) c.args.to c.args.message.now f.node))
