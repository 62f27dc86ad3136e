use Rattle.xmp_steps.specs.Once.{Ends-prop}
use Rattle.xmp_steps.specs.Stops.{step_on, stop_is}
use Rattle.xmp_steps.proofs.Runs.{one_stop, more_finds, steps_on, found_comes, comes_found, loops_end}
use Rattle.xmp_steps.proofs.Feeding.{fed_stops}
use Rattle.xmp_steps.proofs.every_machine.Goals as goal

pub returns : goal.returns
returns g c = record {
  one = one_stop;
  number = Ends-prop;
  more = more_finds;
  step = λ next n s t o some h e. step_on next n s t o h some e;
  steps = steps_on;
  stop = λ next n s t p h. (stop_is next n s t p h, found_comes next n s t p h);
  found = comes_found;
  fed = fed_stops;
  loops = loops_end;
}
