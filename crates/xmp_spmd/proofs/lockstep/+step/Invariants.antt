use Rattle.std.proofs.Common.{◌≡◌, map, drop, ◌-◌, ◌+◌, ◌*◌}
use Rattle.xmp_meaning.specs.Blocks.{block, turns}
use Rattle.xmp_spmd.specs.Steps.{all_hold, all_inside, all_of, counted_turn, paid_turn}
use Rattle.xmp_spmd.proofs.lockstep.+step.Given as goal

-- in each loop: what is left to do from here gives what the whole gives
abbrev pub invariant-step_all-all : goal.invariant-step_all-all
invariant-step_all-all l =
    let f : _ = all_of l.together.program.now l.together.input.now in
    block (map f l.fn.all) l.fn.nodes ≡ block (map f (drop l.s-index l.all)) l.nodes

abbrev pub invariant-go_on-turns : goal.invariant-go_on-turns
invariant-go_on-turns l =
    let test : _ = all_hold l.together.program.now l.together.input.now l.test in
    let body : _ = paid_turn l.together.program.now l.together.input.now l.body in
    turns l.most test body l.fn.nodes ≡ turns (l.most - l._turn) test body l.nodes

abbrev pub invariant-count_up-turns : goal.invariant-count_up-turns
invariant-count_up-turns l =
    let test : _ = all_inside l.together.program.now l.together.input.now l.head in
    let body : _ = counted_turn l.together.program.now l.together.input.now l.head l.body in
    turns l.most test body l.fn.nodes ≡ turns (l.most - l._turn) test body l.nodes

-- depth first, and then the functions of one depth
abbrev pub decreases-step : goal.decreases-step
decreases-step l = goal.size-step l * 8

abbrev pub decreases-step_all : goal.decreases-step_all
decreases-step_all l = goal.size-step_all l * 8 + 1

abbrev pub decreases-uncounted : goal.decreases-uncounted
decreases-uncounted l = goal.size-uncounted l * 8 + 3

abbrev pub decreases-go_on : goal.decreases-go_on
decreases-go_on l = goal.size-go_on l * 8 + 2

abbrev pub decreases-uncounted_turn : goal.decreases-uncounted_turn
decreases-uncounted_turn l = goal.size-uncounted_turn l * 8 + 1

abbrev pub decreases-counted : goal.decreases-counted
decreases-counted l = goal.size-counted l * 8 + 3

abbrev pub decreases-count_up : goal.decreases-count_up
decreases-count_up l = goal.size-count_up l * 8 + 2

abbrev pub decreases-counted_turn : goal.decreases-counted_turn
decreases-counted_turn l = goal.size-counted_turn l * 8 + 1
