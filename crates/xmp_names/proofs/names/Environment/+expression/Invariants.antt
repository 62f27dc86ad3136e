use Rattle.std.proofs.Common.{◌≡◌, map, drop}
use Rattle.xmp_names.specs.Expressions.{arguments_of, chain, each_subscript, each_next, inside_of, next_of, no_parts, right_of}
use Rattle.xmp_names.proofs.names.Environment.+expression.Given as goal

-- what is left to do from here gives what the whole gives
abbrev pub invariant-chain-links : goal.invariant-chain-links
invariant-chain-links l = chain l.fn.so_far (map (right_of l.self) l.fn.links) ≡ chain l.so_far (map (right_of l.self) (drop l.link-index l.links))

abbrev pub invariant-subscripts-subscripts : goal.invariant-subscripts-subscripts
invariant-subscripts-subscripts l = each_subscript no_parts (map (inside_of l.self) l.fn.list) ≡ each_subscript l.all (map (inside_of l.self) (drop l.subscript-index l.list))

abbrev pub invariant-arguments-more : goal.invariant-arguments-more
invariant-arguments-more l = arguments_of l.self l.fn.list ≡ each_next l.all (map (next_of l.self) (drop l.next-index l.next-items))
