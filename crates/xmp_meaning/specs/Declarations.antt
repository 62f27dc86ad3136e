-- What a program declares, by number: the types of scalars and of arrays' cells, and where an array lies.
use Rattle.std.specs.Prelude.{ℕ, Bool, List, [], Option, Some, None, slice_get, unwrap_or}
use Rattle.xmp_num.specs.declared.types.Ty.{Ty}
use Rattle.xmp_num.specs.declared.types.Ty.TheVariants.{Int}
use Rattle.xmp_prog.specs.declared.parts.ProgParts.{ProgParts}
use Rattle.xmp_prog.specs.declared.parts.Array.{Array}
use Rattle.xmp_prog.specs.declared.parts.Home.{Home}
use Rattle.xmp_prog.specs.declared.parts.Home.TheVariants as home
use Rattle.xmp_prog.specs.Terms as terms
use Rattle.xmp_prog.specs.Tests as tests

-- the type of a scalar
abbrev pub scalar_type : ProgParts → ℕ → Ty
scalar_type p slot = unwrap_or (slice_get p.scalars slot) Int

-- the type of an array's cells
abbrev pub array_type : ProgParts → ℕ → Ty
array_type p array = terms.array_type (slice_get p.arrays array)

abbrev pub extents_of_array : Option Array → List ℕ
extents_of_array None = []
extents_of_array (Some a) = a.extents

-- how many subscripts each dimension of an array has
abbrev pub extents : ProgParts → ℕ → List ℕ
extents p array = extents_of_array (slice_get p.arrays array)

abbrev pub home_of_array : Option Array → Home
home_of_array None = home.Copy
home_of_array (Some a) = a.home

-- where an array lies: a copy on each node, spread over a template, or on each image its own
abbrev pub home_of : ProgParts → ℕ → Home
home_of p array = home_of_array (slice_get p.arrays array)

-- whether an array is a coarray
abbrev pub is_coarray : ProgParts → ℕ → Bool
is_coarray p array = tests.is_coarray (slice_get p.arrays array)
