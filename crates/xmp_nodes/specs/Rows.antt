-- The words of a side of a transfer on a node: the row of an array, or one scalar (this project).
use Rattle.std.specs.Prelude.{ℕ, ◌∷◌, List, [], ℤ, pos, slice_set, unwrap_or, slice_get}
use Rattle.xmp_num.specs.declared.types.Ty.{Ty}
use Rattle.xmp_prog.specs.declared.parts.ProgParts.{ProgParts}
use Rattle.xmp_prog.specs.declared.parts.Home.{Home}
use Rattle.xmp_prog.specs.declared.parts.Home.TheVariants as home
use Rattle.xmp_prog.specs.declared.statements.MoveSide.{MoveSide}
use Rattle.xmp_prog.specs.declared.statements.MoveSide.TheVariants as side
use Rattle.xmp_meaning.specs.Cells.{row_in}
use Rattle.xmp_meaning.specs.Runs.{State}
use Rattle.xmp_meaning.specs.Declarations.{extents, home_of, scalar_type, array_type}

-- a scalar is a copy without dimensions
abbrev pub home_of_side : ProgParts → MoveSide → Home
home_of_side p (side.Scalar name) = home.Copy
home_of_side p (side.Array name parts) = home_of p name.number

abbrev pub extents_of_side : ProgParts → MoveSide → List ℕ
extents_of_side p (side.Scalar name) = []
extents_of_side p (side.Array name parts) = extents p name.number

abbrev pub type_of_side : ProgParts → MoveSide → Ty
type_of_side p (side.Scalar name) = scalar_type p name.number
type_of_side p (side.Array name parts) = array_type p name.number

-- its words, and the state with others in their place
abbrev pub row_of : MoveSide → State (Unit {0}) → List ℤ
row_of (side.Scalar name) s = unwrap_or (slice_get s.scalars name.number) (pos 0) ∷ []
row_of (side.Array name parts) s = row_in s.arrays name.number

abbrev pub with_row : MoveSide → List ℤ → State (Unit {0}) → State (Unit {0})
with_row (side.Scalar name) [] s = s
with_row (side.Scalar name) (v ∷ vs) s = record s { scalars = slice_set s.scalars name.number v }
with_row (side.Array name parts) row s = record s { arrays = slice_set s.arrays name.number row }
