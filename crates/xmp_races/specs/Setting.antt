-- Where an expression or a statement of a coarray program stands. Source: this project.
use Rattle.std.specs.Prelude.{ℕ, Bool, if◌then◌else◌, List, ℤ, Option}
use Rattle.xmp_base.specs.declared.place.Place.{Place}
use Rattle.xmp_paths.specs.Plans.{Plan, skip, emit}
use Rattle.xmp_prog.specs.declared.expressions.Expr.{Expr}
use Rattle.xmp_prog.specs.declared.statements.LoopHead.{LoopHead}
use Rattle.xmp_prog.specs.declared.parts.ProgParts.{ProgParts}
use Rattle.xmp_spots.specs.declared.events.Event.{Event}
use Rattle.xmp_spots.specs.declared.events.Event.TheVariants.{Wrong}
use Rattle.xmp_spots.specs.Images.{Values, image_values}
use Rattle.xmp_races.specs.declared.setting.LoopImages.{LoopImages}
use Rattle.xmp_races.specs.Footprints.{those_of, loops_in}

-- the program, the number of images, the values of the image variables, and which functions have an uncounted loop; the
-- images that come there, as the conditions of `if` and `?:` round it choose, and the counted loops round it whose bounds
-- are image expressions, the innermost first
pub record Setting : Type 0 where
  pub program : ProgParts
  pub count : ℕ
  pub values : Values
  pub looping : ℕ → Bool
  pub counts : List Bool
  pub loops : List LoopImages

-- the values of an expression on each image, where it is an image expression
abbrev pub values_at : Setting → Expr → Option (List ℤ)
values_at s e = image_values s.count s.values e

-- where the first part of an `if` or `?:` stands, and where the second
abbrev pub where_chosen : Setting → Expr → (holding : Bool) → Setting
where_chosen s test holding = record s { counts = those_of s.counts (values_at s test) holding }

-- the body of a counted loop
abbrev pub within : Setting → LoopHead → Setting
within s h = record s { loops = loops_in s.loops h (values_at s h.from) (values_at s h.to) }

-- the rule breaks here, where the test holds
abbrev pub wrong_where : Bool → ℕ → Place → Plan Event
wrong_where test rule at = if test then emit (Wrong rule at) else skip
