use Rattle.std.proofs.Common.{◌≡◌, ◌++◌, map, drop}
use Rattle.xmp_directives.proofs.mapping_lines.lowers_in.Given as goal

abbrev pub invariant-dims : goal.invariant-dims
invariant-dims l = map (λ d. d.0) l.fn.dims ≡ l.done ++ map (λ d. d.0) (drop l.dim-index l.dims)
