-- A set of nodes, as a number whose bit k says whether node k is in it. Source: this project.
use Rattle.std.specs.Prelude.{ℕ, Bool, ◌==◌}
use Rattle.std.specs.Int.{bit_at}

-- whether the node is in the set
abbrev pub has : ℕ → ℕ → Bool
has nodes node = bit_at nodes node == 1
