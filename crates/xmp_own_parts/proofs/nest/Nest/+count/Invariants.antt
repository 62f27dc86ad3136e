use Rattle.std.proofs.Common.{◌≡◌, ◌≤◌, ◌+◌, ◌-◌, ◌*◌, ◌^◌, length, drop, min}
use Rattle.xmp_own_parts.specs.Nests.{own_from, own_turns}
use Rattle.xmp_own_parts.proofs.nest.Nest.+count.Given as goal

-- the tuples so far, and those of the turns that are left, are all
abbrev pub invariant-count_turns-turns : goal.invariant-count_turns-turns
invariant-count_turns-turns l = record {
  upto : l.k ≤ l.own.turns.count;
  fits : l.count ≤ 2 ^ 64 - 1;
  chosen : l.chosen ≡ l.fn.chosen;
  count : min (length (own_from l.self l.fn.chosen (drop (length l.fn.chosen) l.self.heads.now))) (2 ^ 64 - 1)
      ≡ min (l.count + length (own_turns l.self l.fn.chosen l.own.turns (drop (length l.fn.chosen + 1) l.self.heads.now) l.k)) (2 ^ 64 - 1);
}

abbrev pub decreases-count_turns-turns : goal.decreases-count_turns-turns
decreases-count_turns-turns l = l.own.turns.count - l.k

-- the loops that are left, and the steps between them
abbrev pub decreases-count : goal.decreases-count
decreases-count l = 3 * (length l.self.now.heads.now - length l.chosen.now) + 2

abbrev pub decreases-count_turns : goal.decreases-count_turns
decreases-count_turns l = 3 * (length l.self.now.heads.now - length l.chosen.now) + 1

abbrev pub decreases-count_turn : goal.decreases-count_turn
decreases-count_turn l = 3 * (length l.self.now.heads.now - length l.chosen.now)
