-- Two counters, to show the laws at work (this project).
use Rattle.std.specs.Prelude.{ℕ, zero, suc, ◌+◌, ◌%◌}
use Rattle.xmp_orders.specs.Movers.{Movers, Moved, Stepped, AlreadyEnded}
use Rattle.xmp_orders.specs.Choices.{Choice, first_able}

-- counter 0 has `left` steps to go, and counter 1 has `right`
pub record Counters : Type 0 where
  pub left : ℕ
  pub right : ℕ

-- one step less
abbrev pub one_less : ℕ → ℕ
one_less zero = 0
one_less (suc n) = n

-- whether there was one
abbrev pub was : ℕ → Moved
was zero = AlreadyEnded
was (suc n) = Stepped

-- what a counter has to go
abbrev pub to_go : Counters → ℕ → ℕ
to_go w zero = w.left
to_go w (suc k) = w.right

-- a counter counts
abbrev pub counted : Counters → ℕ → Counters
counted w zero = record w { left = one_less w.left }
counted w (suc k) = record w { right = one_less w.right }

-- each counts down to 0, and ends
abbrev pub counters : Movers Counters
counters = record { count = 2; moved = counted; answer = λ w k. was (to_go w k) }

-- 2 and 3 steps to go
abbrev pub two_and_three : Counters
two_and_three = record { left = 2; right = 3 }

-- the first that can count, from the one or the other on in turn
abbrev pub in_turn : Choice Counters
in_turn = first_able counters (λ x. x % 2) (λ x. x + 1)
