use Rattle.std.proofs.Common.{◌≡◌, ◌-◌, map, pos}
use Rattle.std.specs.Prelude.{fold, filter}
use Rattle.std.specs.List.{range_with_len}
use Rattle.xmp_spots.specs.declared.touches.By.TheVariants.{One}
use Rattle.xmp_spots.specs.Gathered.{with_spot}
use Rattle.xmp_races.specs.Footprints.{Turning, is_turn, spots_on, subscripts_on}
use Rattle.xmp_races.proofs.spots.add_turns.Given as goal

-- the numbers that are left lead to the same
abbrev pub invariant-images : goal.invariant-images
invariant-images x =
    fold with_spot x.spots (map (λ on. record { by = One x.image; on = on; subscripts = subscripts_on x.subscripts x.image })
    (filter (is_turn x.l x.image) (map pos (range_with_len x.k (x.count - x.k)))))
    ≡ fold with_spot x.fn.spots (spots_on x.count (Turning x.l) x.subscripts x.image)
