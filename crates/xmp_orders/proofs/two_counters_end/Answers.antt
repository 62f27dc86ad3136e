use Rattle.std.proofs.Common.{◌≡◌, ℕ, zero, suc, ◌+◌, ◌%◌, ◌<◌, refl, arith}
use Rattle.xmp_orders.specs.Movers.{AlreadyEnded, run, rounds}
use Rattle.xmp_orders.specs.Examples.{counters, two_and_three, in_turn}
use Rattle.xmp_orders.proofs.Runs.{all_end}
use Rattle.xmp_orders.proofs.Rounds.{firsts_pick}
use Rattle.xmp_orders.proofs.Counters.{counters_progress}
use Rattle.xmp_orders.proofs.two_counters_end.Goals as goal

-- one by one
ended : (k : ℕ) → k < 2 → counters.answer (run counters (rounds 2 3) two_and_three) k ≡ AlreadyEnded
ended zero lt = refl
ended (suc zero) lt = refl
ended (suc (suc k)) lt = absurd (omega arith)

pub returns-clause-lockstep : goal.returns-clause-lockstep
returns-clause-lockstep c = ended

pub returns-clause-chosen : goal.returns-clause-chosen
returns-clause-chosen c =
    (all_end counters_progress two_and_three 0 (record { all = refl })).chosen in_turn
    (firsts_pick counters (λ x. x % 2) (λ x. x + 1) (λ x. omega arith))
