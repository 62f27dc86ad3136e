use Rattle.std.proofs.Common.{arith}
use Rattle.xmp_move.proofs.RoundLaws.{before_chunk, behind_chunk}
use Rattle.xmp_move.proofs.reach.to_chunk.Goals as goal

pub returns-then-place-chunk-clause-none : goal.returns-then-place-chunk-clause-none
returns-then-place-chunk-clause-none c = λ d l. before_chunk c.args.width c.args.nodes c.args.node c.args.g d c.requires.some c.requires.node (omega (arith, l))

pub returns-else-place-chunk-2-clause-none : goal.returns-else-place-chunk-2-clause-none
returns-else-place-chunk-2-clause-none c = λ d l. behind_chunk c.args.width c.args.nodes c.args.node c.args.g d c.requires.some c.requires.node (omega arith) (omega (arith, l))
