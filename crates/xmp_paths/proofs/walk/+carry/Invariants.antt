use Rattle.std.proofs.Common.{take, map}
use Rattle.xmp_paths.specs.Plans.{in_order}
use Rattle.xmp_paths.specs.Flows.{plan_of}
use Rattle.xmp_paths.specs.Copies.{CarriesOver, Returns}
use Rattle.xmp_paths.proofs.walk.+carry.Given as goal

-- what the parts so far make of the copies at the start
abbrev pub invariant-carry_all-parts : goal.invariant-carry_all-parts
invariant-carry_all-parts l = record {
  carries : CarriesOver (in_order (map plan_of (take l.part-index l.parts))) l.initial.copies l.copies;
  returns : Returns l.initial.copies l.copies;
}
