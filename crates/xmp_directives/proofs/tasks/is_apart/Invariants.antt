use Rattle.std.proofs.Common.{◌≡◌, drop}
use Rattle.std.specs.Prelude.{not}
use Rattle.std.specs.List.{list_all}
use Rattle.xmp_directives.specs.Directives.{share}
use Rattle.xmp_directives.proofs.tasks.is_apart.Given as goal

-- what is left to do from here gives what the whole gives
abbrev pub invariant-sets : goal.invariant-sets
invariant-sets l = list_all (λ other. not (share other l.nodes)) l.fn.before ≡ list_all (λ other. not (share other l.nodes)) (drop l.other-index l.before)
