use Rattle.std.proofs.Common.{◌≡◌, ◌-◌, map}
use Rattle.std.specs.List.{range_with_len}
use Rattle.xmp_spots.specs.Images.{all_given, value_on}
use Rattle.xmp_spots.proofs.ImageLaws.{then_given}
use Rattle.xmp_spots.proofs.expressions.image_values.Given as goal

abbrev pub invariant-images : goal.invariant-images
invariant-images l =
    then_given l.found (all_given (map (λ image. value_on l.count l.values image l.e) (range_with_len l.image (l.count - l.image))))
    ≡ all_given (map (λ image. value_on l.count l.values image l.e) (range_with_len 0 l.count))
