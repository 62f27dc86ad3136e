use Rattle.std.proofs.Common.{◌≡◌, map, drop}
use Rattle.xmp_names.specs.Expressions.{each_next, next_of, no_parts}
use Rattle.xmp_names.proofs.names.Environment.values.Given as goal

-- what is left to do from here gives what the whole gives
abbrev pub invariant-values : goal.invariant-values
invariant-values l = each_next no_parts (map (next_of l.self) l.fn.list) ≡ each_next l.all (map (next_of l.self) (drop l.next-index l.list))
