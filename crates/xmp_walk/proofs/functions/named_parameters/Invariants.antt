use Rattle.std.proofs.Common.{◌≡◌, map, drop}
use Rattle.xmp_names.specs.Walk.{each, each_after}
use Rattle.xmp_names.specs.Lists.{listed}
use Rattle.xmp_walk.specs.Program.{parameter_of}
use Rattle.xmp_walk.proofs.functions.named_parameters.Given as goal

-- what is left to do from here gives what the whole gives
abbrev pub invariant-more : goal.invariant-more
invariant-more l = each parameter_of (listed l.fn.list) l.fn.world ≡ each_after parameter_of l.done (map (λ n. n.item) (drop l.next-index l.next-items)) l.world
