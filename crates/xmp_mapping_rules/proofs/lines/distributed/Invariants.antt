use Rattle.std.proofs.Common.{◌≡◌, ◌++◌, map, drop}
use Rattle.xmp_mapping_rules.proofs.lines.distributed.Given as goal

abbrev pub invariant-lines : goal.invariant-lines
invariant-lines l = map (λ d. d.template) l.lines ≡ l.numbers ++ map (λ d. d.template) (drop l.line-index l.lines)
