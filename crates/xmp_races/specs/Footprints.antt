-- What an access touches: on which images, and which cells there. Source: this project, after XcalableMP 1.4, coarrays.
use Rattle.std.specs.Prelude.{ℕ, suc, ◌+◌, ◌-◌, ◌%◌, ◌==◌, Bool, true, false, not, ◌&&◌, ◌||◌, if◌then◌else◌, List, [], ◌∷◌, map, filter, ℤ, pos, int_lt, int_le, nat_lt, Option, Some, None, unwrap_or, slice_get}
use Rattle.std.specs.List.{flat_map, list_any, range_with_len}
use Rattle.std.specs.Int.{int_rem_euclid}
use Rattle.std.specs.Ordering.{int_eq}
use Rattle.xmp_num.specs.declared.types.Ty.TheVariants.{Int}
use Rattle.xmp_num.specs.Arithmetic.{wrap}
use Rattle.xmp_prog.specs.declared.expressions.Expr.{Expr}
use Rattle.xmp_prog.specs.declared.expressions.Expr.TheVariants as expr
use Rattle.xmp_prog.specs.declared.statements.LoopHead.{LoopHead}
use Rattle.xmp_meaning.specs.Expressions.{is_zero, natural}
use Rattle.xmp_meaning.specs.Loops.{is_inside}
use Rattle.xmp_spots.specs.declared.touches.By.TheVariants.{One}
use Rattle.xmp_spots.specs.declared.touches.Subscripts.{Subscripts}
use Rattle.xmp_spots.specs.declared.touches.Spot.{Spot}
use Rattle.xmp_spots.specs.Gathered.{gathered}
use Rattle.xmp_spots.specs.Images.{Values, image_values}
use Rattle.xmp_races.specs.declared.setting.LoopImages.{LoopImages}

-- ---- where an access stands, and for which images

-- whether an image comes there
abbrev pub comes : List Bool → ℕ → Bool
comes counts image = unwrap_or (slice_get counts image) false

-- whether an image goes on where a condition holds, or where it fails: where it came, and the condition's value there, if
-- it has one, chooses so
abbrev pub goes_on : (holding came : Bool) → Option ℤ → Bool
goes_on holding came None = came
goes_on holding came (Some v) = came && (if is_zero v then not holding else holding)

abbrev pub those_from : (image : ℕ) → List Bool → List ℤ → (holding : Bool) → List Bool
those_from image [] values holding = []
those_from image (came ∷ counts) values holding =
    goes_on holding came (slice_get values image) ∷ those_from (suc image) counts values holding

-- of the images that come, those that go on; all, where the condition is no image expression
abbrev pub those_of : List Bool → Option (List ℤ) → (holding : Bool) → List Bool
those_of counts None holding = counts
those_of counts (Some values) holding = those_from 0 counts values holding

-- the loops round the body of a counted loop
abbrev pub loops_in : List LoopImages → LoopHead → Option (List ℤ) → Option (List ℤ) → List LoopImages
loops_in loops head (Some from) (Some to) =
    record {
      index = head.index.number;
      from = map (wrap Int) from;
      to = map (wrap Int) to;
      inclusive = head.inclusive;
      step = head.step;
    } ∷ loops
loops_in loops head (Some from) None = loops
loops_in loops head None to = loops

-- ---- the images of an access

-- how an access says whose cells are meant: its own image, the values of an image expression, a loop image, or neither
pub data Whose : Type 0 where
  Own : Whose
  Given : List ℤ → Whose
  Turning : LoopImages → Whose
  Unknown : Whose

-- the innermost loop of an index
abbrev pub loop_of : List LoopImages → ℕ → Option LoopImages
loop_of [] slot = None
loop_of (l ∷ loops) slot = if l.index == slot then Some l else loop_of loops slot

abbrev pub turning : Option LoopImages → Whose
turning None = Unknown
turning (Some l) = Turning l

-- the slot of an expression that is a scalar
abbrev pub whose_scalar : List LoopImages → Expr → Whose
whose_scalar loops (expr.Scalar slot at) = turning (loop_of loops slot)
whose_scalar loops _ = Unknown

abbrev pub whose_given : List LoopImages → Expr → Option (List ℤ) → Whose
whose_given loops e (Some vs) = Given vs
whose_given loops e None = whose_scalar loops e

abbrev pub whose : (count : ℕ) → Values → List LoopImages → Option Expr → Whose
whose count values loops None = Own
whose count values loops (Some e) = whose_given loops e (image_values count values e)

-- the first value of the index on an image, and its bound
abbrev pub first_on : LoopImages → (image : ℕ) → ℤ
first_on l image = unwrap_or (slice_get l.from image) (pos 0)

abbrev pub bound_on : LoopImages → (image : ℕ) → ℤ
bound_on l image = unwrap_or (slice_get l.to image) (pos 0)

-- whether two numbers are so many whole steps apart
abbrev pub in_step : ℤ → ℤ → (step : ℕ) → Bool
in_step a b step = int_eq (int_rem_euclid a (pos step)) (int_rem_euclid b (pos step))

-- Whether a number is a value of the index on an image: the first value, or so many steps behind it, inside the bound. A
-- step is never 0.
abbrev pub is_turn : LoopImages → (image : ℕ) → ℤ → Bool
is_turn l image v =
    nat_lt 0 l.step
    && (int_le (first_on l image) v && (is_inside l.inclusive v (bound_on l image) && in_step v (first_on l image) l.step))

-- whether an image's number is one of so many
abbrev pub is_image : (count : ℕ) → ℤ → Bool
is_image count v = int_le (pos 0) v && int_lt v (pos count)

-- from an image's number, the first at so many steps that is none: above the number of images by what is left of a step
abbrev pub left_of_step : (distance step : ℕ) → ℕ
left_of_step distance step = if distance % step == 0 then 0 else step - distance % step

abbrev pub beyond : (count : ℕ) → ℤ → (step : ℕ) → ℤ
beyond count from step = pos (count + left_of_step (count - natural from) step)

-- whether the index has a value on an image that is no image's number: it has its first value, and that is none, or it
-- comes to one
abbrev pub leaves : (count : ℕ) → LoopImages → (image : ℕ) → Bool
leaves count l image =
    nat_lt 0 l.step
    && (is_inside l.inclusive (first_on l image) (bound_on l image)
    && (not (is_image count (first_on l image)) || is_inside l.inclusive (beyond count (first_on l image) l.step) (bound_on l image)))

-- whether an access means an image that there isn't, on an image that comes to it; or none that can be told
abbrev pub misses : (count : ℕ) → Whose → (image : ℕ) → Bool
misses count Own image = false
misses count (Given vs) image = not (is_image count (unwrap_or (slice_get vs image) (pos 0)))
misses count (Turning l) image = leaves count l image
misses count Unknown image = false

abbrev pub is_unknown : Whose → Bool
is_unknown Own = false
is_unknown (Given vs) = false
is_unknown (Turning l) = false
is_unknown Unknown = true

abbrev pub is_elsewhere : (count : ℕ) → (counts : List Bool) → Whose → Bool
is_elsewhere count counts w = is_unknown w || list_any (misses count w) (filter (comes counts) (range_with_len 0 count))

-- the images whose cells are meant on an image. Of a loop image only values that are images are meant.
abbrev pub meant : (count : ℕ) → Whose → (image : ℕ) → List ℤ
meant count Own image = pos image ∷ []
meant count (Given vs) image = unwrap_or (slice_get vs image) (pos 0) ∷ []
meant count (Turning l) image = filter (is_turn l image) (map pos (range_with_len 0 count))
meant count Unknown image = []

-- ---- spots

-- the subscript of a dimension on an image, where it is a number
abbrev pub number_on : Option (List ℤ) → (image : ℕ) → Option ℤ
number_on None image = None
number_on (Some vs) image = slice_get vs image

abbrev pub subscript_on : List (Option (List ℤ)) → (dimension image : ℕ) → Option ℤ
subscript_on subscripts dimension image = number_on (unwrap_or (slice_get subscripts dimension) None) image

abbrev pub subscripts_on : List (Option (List ℤ)) → (image : ℕ) → Subscripts
subscripts_on subscripts image = record {
  first = subscript_on subscripts 0 image;
  second = subscript_on subscripts 1 image;
  third = subscript_on subscripts 2 image;
}

-- the spots of one image
abbrev pub spots_on : (count : ℕ) → Whose → List (Option (List ℤ)) → (image : ℕ) → List Spot
spots_on count w subscripts image =
    map (λ k. record { by = One image; on = k; subscripts = subscripts_on subscripts image }) (meant count w image)

-- the spots of an access, each once, of the images that come to it
abbrev pub spots : (count : ℕ) → (counts : List Bool) → Whose → List (Option (List ℤ)) → List Spot
spots count counts w subscripts =
    gathered (flat_map (spots_on count w subscripts) (filter (comes counts) (range_with_len 0 count)))
