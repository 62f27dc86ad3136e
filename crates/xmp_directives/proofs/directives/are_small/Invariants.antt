use Rattle.std.proofs.Common.{◌≡◌, drop}
use Rattle.std.specs.Prelude.{int_le, pos}
use Rattle.std.specs.List.{list_all}
use Rattle.xmp_directives.proofs.directives.are_small.Given as goal

-- what is left to do from here gives what the whole gives
abbrev pub invariant-sizes : goal.invariant-sizes
invariant-sizes l = list_all (λ n. int_le n (pos 16)) l.fn.sizes ≡ list_all (λ n. int_le n (pos 16)) (drop l.size-index l.sizes)
