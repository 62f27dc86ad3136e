use Rattle.std.proofs.Common.{◌≡◌, ◌++◌, map, drop}
use Rattle.xmp_mapping_rules.proofs.lines.aligned.Given as goal

abbrev pub invariant-lines : goal.invariant-lines
invariant-lines l = map (λ d. d.array) l.lines ≡ l.numbers ++ map (λ d. d.array) (drop l.line-index l.lines)
