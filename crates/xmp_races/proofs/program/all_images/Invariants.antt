use Rattle.std.proofs.Common.{◌≡◌, true}
use Rattle.std.specs.Prelude.{replicate}
use Rattle.xmp_races.proofs.program.all_images.Given as goal

abbrev pub invariant-images : goal.invariant-images
invariant-images l = l.counts ≡ replicate l._image true
