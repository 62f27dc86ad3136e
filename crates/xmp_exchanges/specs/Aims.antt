-- The transfers of reflects and gmoves, and the numbers of a gmove.
use Rattle.std.specs.Prelude.{ℕ, ℤ, List, [], ◌∷◌, ◌++◌, map, Option, Some, None}
use Rattle.xmp_prog.specs.declared.parts.ProgParts.{ProgParts}
use Rattle.xmp_prog.specs.declared.parts.Home.TheVariants as home
use Rattle.xmp_prog.specs.declared.statements.Part.{Part}
use Rattle.xmp_prog.specs.declared.statements.Part.TheVariants as part
use Rattle.xmp_prog.specs.declared.statements.MoveSide.{MoveSide}
use Rattle.xmp_prog.specs.declared.statements.MoveSide.TheVariants as side
use Rattle.xmp_meaning.specs.Context.{Context}
use Rattle.xmp_meaning.specs.Declarations.{extents, home_of}
use Rattle.xmp_meaning.specs.Handlers.{erased}
use Rattle.xmp_meaning.specs.Runs.{Run, ◌>>=◌, pure, trap}
use Rattle.xmp_meaning.specs.Sections.{Chosen, One, Many, numbers}
use Rattle.xmp_move.specs.declared.kind.Fault.{Fault}
use Rattle.xmp_move.specs.declared.kind.Side.{Side}
use Rattle.xmp_move.specs.declared.kind.SidePart.{SidePart}
use Rattle.xmp_move.specs.declared.kind.SidePart.TheVariants as sidepart
use Rattle.xmp_move.specs.declared.kind.MoveKind.{MoveKind}
use Rattle.xmp_move.specs.declared.kind.MoveKind.TheVariants.{Reflect, Gmove}
use Rattle.xmp_move.specs.Faults.{move_fault}
use Rattle.xmp_move.specs.Meant as meant
use Rattle.xmp_nodes.specs.Rows.{type_of_side}
use Rattle.xmp_exchanges.specs.declared.words.Place.{Place}
use Rattle.xmp_exchanges.specs.declared.words.Place.TheVariants.{Scalar, Row}
use Rattle.xmp_exchanges.specs.declared.transfer.Transfer.{Transfer}

-- ---- sides

-- an array, whose words on a node are numbered from 0
abbrev pub side_of_array : ProgParts → (array : ℕ) → List SidePart → Side
side_of_array p array parts = record { home = home_of p array; extents = extents p array; base = 0; parts = parts }

abbrev pub scalar_side : Side
scalar_side = record { home = home.Copy; extents = []; base = 0; parts = [] }

abbrev pub part_of : Part → SidePart
part_of (part.One n) = sidepart.One
part_of (part.Many base length step) = sidepart.Many

abbrev pub side_in : ProgParts → MoveSide → Side
side_in p (side.Scalar name) = scalar_side
side_in p (side.Array name parts) = side_of_array p name.number (map part_of parts)

-- the words of a state that a side has
abbrev pub place_of : MoveSide → Place
place_of (side.Scalar name) = Scalar name.number
place_of (side.Array name parts) = Row name.number

-- ---- transfers

abbrev pub reflect_of : ProgParts → (array : ℕ) → Transfer
reflect_of p array = record { kind = Reflect (side_of_array p array []); source = Row array; target = Row array; converts = None }

abbrev pub kind_of : ProgParts → (target source : MoveSide) → MoveKind
kind_of p target source = Gmove (side_in p target) (side_in p source) (type_of_side p target)

abbrev pub move_of : ProgParts → (target source : MoveSide) → Transfer
move_of p target source = record {
  kind = kind_of p target source;
  source = place_of source;
  target = place_of target;
  converts = Some (type_of_side p target);
}

-- ---- numbers

-- the numbers of parts, one behind the other
abbrev pub flat : List Chosen → List ℤ
flat [] = []
flat (One v ∷ cs) = v ∷ flat cs
flat (Many base length step ∷ cs) = base ∷ length ∷ step ∷ flat cs

-- the trap of a fault, or else the numbers
abbrev pub unless : (target source : MoveSide) → Option Fault → List ℤ → Run (Unit {0}) (List ℤ)
unless target source None args = pure args
unless target source (Some f) args = trap f.kind (meant.place_of target source f)

abbrev pub checked : MoveKind → (target source : MoveSide) → (args : List ℤ) → Run (Unit {0}) (List ℤ)
checked kind target source args = unless target source (move_fault kind args) args

-- all numbers, the target's and then the source's, which are then checked
abbrev pub aimed : MoveKind → Context → (target source : MoveSide) → Run (Unit {0}) (List ℤ)
aimed kind cx target source = do
  to ← numbers erased cx target
  from ← numbers erased cx source
  checked kind target source (flat to ++ flat from)
