use Rattle.std.proofs.Common.{◌≡◌, ◌≤◌, ◌+◌, ◌-◌, ◌*◌, length, drop}
use Rattle.xmp_meaning_laws.specs.Tuples.{for_each}
use Rattle.xmp_prog.specs.Statements.{indices_of}
use Rattle.xmp_own_parts.specs.Nests.{own_from, own_turns}
use Rattle.xmp_own_parts.specs.Walks.{body_by}
use Rattle.xmp_own_parts.proofs.walking.Walk.+walk.Given as goal

-- what is left to do from here gives what the whole gives
abbrev pub invariant-over_turns-turns : goal.invariant-over_turns-turns
invariant-over_turns-turns l = record {
  upto : l.k ≤ l.own.turns.count;
  chosen : l.chosen ≡ l.fn.chosen;
  does : for_each (indices_of l.self.nest.heads.now) (own_from l.self.nest l.fn.chosen (drop (length l.fn.chosen) l.self.nest.heads.now)) (body_by l.self) l.fn.state
      ≡ for_each (indices_of l.self.nest.heads.now) (own_turns l.self.nest l.fn.chosen l.own.turns (drop (length l.fn.chosen + 1) l.self.nest.heads.now) l.k) (body_by l.self) l.state;
}

abbrev pub decreases-over_turns-turns : goal.decreases-over_turns-turns
decreases-over_turns-turns l = l.own.turns.count - l.k

-- the loops that are left, and the steps between them
abbrev pub decreases-over : goal.decreases-over
decreases-over l = 3 * (length l.self.now.nest.heads.now - length l.chosen.now) + 2

abbrev pub decreases-over_turns : goal.decreases-over_turns
decreases-over_turns l = 3 * (length l.self.now.nest.heads.now - length l.chosen.now) + 1

abbrev pub decreases-over_turn : goal.decreases-over_turn
decreases-over_turn l = 3 * (length l.self.now.nest.heads.now - length l.chosen.now)
