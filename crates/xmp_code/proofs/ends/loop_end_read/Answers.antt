use Rattle.std.proofs.Common.{sym}
use Rattle.xmp_code.proofs.ReadBack.{no_loop_end}
use Rattle.xmp_code.proofs.ends.loop_end_read.Goals as goal

pub returns-in-None : goal.returns-in-None
returns-in-None c = sym (no_loop_end c.args.words.now c.in-None.ensures)
