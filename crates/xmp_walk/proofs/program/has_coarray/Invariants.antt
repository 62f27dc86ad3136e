use Rattle.std.proofs.Common.{◌≡◌, drop}
use Rattle.std.specs.List.{list_any}
use Rattle.xmp_walk.specs.Program.{coarray_top}
use Rattle.xmp_walk.proofs.program.has_coarray.Given as goal

-- what is left to do from here gives what the whole gives
abbrev pub invariant-parts : goal.invariant-parts
invariant-parts l = list_any coarray_top l.fn.t.parts ≡ list_any coarray_top (drop l.x-index l.x-items)
