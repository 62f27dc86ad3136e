use Rattle.std.proofs.Common.{◌≡◌, ◌++◌, ◌∷◌, map, drop}
use Rattle.xmp_paths.specs.Flows.{plan_of}
use Rattle.xmp_flow.specs.Setting.{wrong_where}
use Rattle.xmp_flow.specs.PlainEvents.{reflected}
use Rattle.xmp_flow.specs.Views.{setting_of}
use Rattle.xmp_flow.proofs.plain.reflected_each.Given as goal

abbrev pub invariant-items : goal.invariant-items
invariant-items l =
    map plan_of l.parts ++ map (reflected (setting_of l.s)) (drop l.a-index l.arrays)
    ≡ wrong_where (setting_of l.s).inside 10 l.fn.at ∷ map (reflected (setting_of l.s)) l.arrays
