-- Two nodes that tell each other their numbers, to show the laws at work (this project).
use Rattle.std.specs.Prelude.{ℕ, suc, ◌+◌, ◌%◌, ◌==◌}
use Rattle.xmp_orders.specs.Choices.{Choice, first_able}
use Rattle.xmp_net.specs.Nodes.{Nodes, World, movers}
use Rattle.xmp_net.specs.Traffic.{Traffic}

-- Node 0 and node 1 exchange once, and end. A state is the stops that a node has come to, and the sum of what it has
-- heard; its message is 7 more than the number of the node to which it goes.
abbrev pub pair : Nodes (ℕ × ℕ) ℕ
pair = record {
  count = 2;
  begin = λ k. (0, 0);
  go = λ s. (suc s.0, s.1);
  over = λ s. s.0 == 2;
  out = λ s j. 7 + j;
  into = λ s i m. (s.0, s.1 + m);
}

-- what they say
abbrev pub told : Traffic ℕ
told = record { exchanges = 1; message = λ t i j. 7 + j }

-- the first that can move, from the one or the other on in turn
abbrev pub in_turn : Choice (World (ℕ × ℕ) ℕ)
in_turn = first_able (movers pair) (λ x. x % 2) (λ x. x + 1)
