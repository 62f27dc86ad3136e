use Rattle.std.proofs.Common.{take, map}
use Rattle.xmp_base.specs.First.{IsFirst}
use Rattle.xmp_paths.specs.Plans.{in_order}
use Rattle.xmp_paths.specs.Flows.{plan_of}
use Rattle.xmp_paths.specs.Rules.{in_phase}
use Rattle.xmp_paths.specs.May.{BreaksFrom}
use Rattle.xmp_paths.specs.Copies.{may_be_stale, CarriesOver, Returns}
use Rattle.xmp_paths.proofs.walk.+inspect.Given as goal

-- what the parts so far make of the copies at the start, and the first rule that breaks in them
abbrev pub invariant-inspect_all-parts : goal.invariant-inspect_all-parts
invariant-inspect_all-parts l = record {
  first : IsFirst (in_phase l.phase (BreaksFrom (in_order (map plan_of (take l.part-index l.parts))) (may_be_stale l.initial.copies))) l.found;
  carries : CarriesOver (in_order (map plan_of (take l.part-index l.parts))) l.initial.copies l.copies;
  returns : Returns l.initial.copies l.copies;
}
