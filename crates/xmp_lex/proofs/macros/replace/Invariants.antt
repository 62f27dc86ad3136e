use Rattle.std.proofs.Common.{◌+◌, ◌-◌, ◌*◌, length}
use Rattle.xmp_lex.specs.Output.{frame, frames}
use Rattle.xmp_lex.proofs.UseLemmas.{InUse}
use Rattle.xmp_lex.proofs.macros.replace.Given as goal

abbrev pub invariant-loop-current : goal.invariant-loop-current
invariant-loop-current l = InUse l.definitions l.at (frame l.fn.first) (frames l.uses.items) l.hidden l.fn.output l.output

-- each step counts one more, or closes a use
abbrev pub decreases-loop-current : goal.decreases-loop-current
decreases-loop-current l = 2 * (200000 - l.output.count) + length l.uses.items
