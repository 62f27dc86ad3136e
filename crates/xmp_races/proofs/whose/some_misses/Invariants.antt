use Rattle.std.proofs.Common.{◌≡◌, ◌-◌}
use Rattle.std.specs.Prelude.{filter}
use Rattle.std.specs.List.{list_any, range_with_len}
use Rattle.xmp_races.specs.Footprints.{comes, misses}
use Rattle.xmp_races.specs.Views.{whose_of}
use Rattle.xmp_races.proofs.whose.some_misses.Given as goal

-- the images that are left decide
abbrev pub invariant-images : goal.invariant-images
invariant-images l =
    list_any (misses l.count (whose_of l.w)) (filter (comes l.counts) (range_with_len 0 l.count))
    ≡ list_any (misses l.count (whose_of l.w)) (filter (comes l.counts) (range_with_len l.image (l.count - l.image)))
