use Rattle.std.proofs.Common.{◌≡◌, ◌+◌, map}
use Rattle.std.specs.List.{range_with_len}
use Rattle.std.specs.Option.{option_map}
use Rattle.xmp_instr.specs.Resumed.{all_of, earliest_trap}
use Rattle.xmp_code.specs.Ends.{said_of_each}
use Rattle.xmp_machine.specs.Resuming.{end_by}
use Rattle.xmp_machine.proofs.reducing.earliest.Given as goal

-- the earliest of those from here on
abbrev pub invariant-nodes : goal.invariant-nodes
invariant-nodes l = record {
  count : l.left + l._k ≡ l.nodes;
  found : said_of_each l.found ≡ option_map earliest_trap (all_of (map (end_by l.node l.own l.heard) (range_with_len l.left l._k)));
}
