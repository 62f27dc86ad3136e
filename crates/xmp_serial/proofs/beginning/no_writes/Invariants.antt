use Rattle.std.proofs.Common.{◌≡◌, map, take, replicate, pos}
use Rattle.xmp_serial.proofs.beginning.no_writes.Given as goal

abbrev pub invariant-lines : goal.invariant-lines
invariant-lines l = l.rows ≡ map (λ a. replicate a.length (pos 0)) (take l.line-index l.lines)
