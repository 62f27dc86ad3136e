use Rattle.std.proofs.Common.{◌≡◌, ◌++◌, map, drop}
use Rattle.xmp_spots.specs.Courses.{plan_of}
use Rattle.xmp_races.specs.Statements.{in_nest, nest_bounds}
use Rattle.xmp_races.specs.Views.{setting_of}
use Rattle.xmp_races.proofs.statements.nest_bounds.Given as goal

-- the bounds so far, and those that are left from where the code stands, are all; and both lead to one body
abbrev pub invariant-heads : goal.invariant-heads
invariant-heads l = record {
  bounds : map plan_of l.parts ++ nest_bounds (record (setting_of l.s) { loops = l.loops }) (drop l.h-index l.nest)
      ≡ map plan_of l.fn.parts ++ nest_bounds (setting_of l.s) l.nest;
  body : in_nest (record (setting_of l.s) { loops = l.loops }) (drop l.h-index l.nest) ≡ in_nest (setting_of l.s) l.nest;
}
