use Rattle.std.proofs.Common.{◌≡◌, ◌++◌, map, drop}
use Rattle.xmp_paths.specs.Flows.{plan_of}
use Rattle.xmp_flow.specs.PlainEvents.{part_events}
use Rattle.xmp_flow.specs.Views.{setting_of}
use Rattle.xmp_flow.proofs.plain.parts_events.Given as goal

-- those so far, and those of the parts that are left, are all
abbrev pub invariant-items : goal.invariant-items
invariant-items l =
    map plan_of l.parts ++ map (part_events (setting_of l.s)) (drop l.part-index l.all) ≡ map (part_events (setting_of l.s)) l.all
