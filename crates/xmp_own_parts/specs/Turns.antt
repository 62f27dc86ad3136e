-- Turns of a loop, and positions of the index in them.
use Rattle.std.specs.Prelude.{ℕ, ◌*◌, ℤ, pos, ◌+ℤ◌}
use Rattle.xmp_own_parts.specs.declared.turns.Turns.{Turns}

-- the value of the index in turn `k`
abbrev pub value_in_turn : Turns → (k : ℕ) → ℤ
value_in_turn turns k = turns.first +ℤ pos (k * turns.step)

-- its position in a dimension
abbrev pub position_in_turn : Turns → (offset : ℤ) → (k : ℕ) → ℤ
position_in_turn turns offset k = value_in_turn turns k +ℤ offset
