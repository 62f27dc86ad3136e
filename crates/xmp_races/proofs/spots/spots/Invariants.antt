use Rattle.std.proofs.Common.{◌≡◌, ◌-◌}
use Rattle.std.specs.Prelude.{fold, filter}
use Rattle.std.specs.List.{flat_map, range_with_len}
use Rattle.xmp_spots.specs.Gathered.{with_spot}
use Rattle.xmp_races.specs.Footprints.{comes, spots, spots_on}
use Rattle.xmp_races.specs.Views.{whose_of}
use Rattle.xmp_races.proofs.spots.spots.Given as goal

-- the images that are left lead to the same
abbrev pub invariant-images : goal.invariant-images
invariant-images l =
    fold with_spot l.found (flat_map (spots_on l.count (whose_of l.w) l.subscripts) (filter (comes l.counts) (range_with_len l.image (l.count - l.image))))
    ≡ spots l.count l.counts (whose_of l.w) l.subscripts
