-- A gmove in the meaning, and its faults and pairs here (this project).
use Rattle.std.specs.Prelude.{◌≡◌, ◌⊎◌, if◌then◌else◌, ℕ, List, [], map, length, Some, None}
use Rattle.xmp_base.specs.declared.place.Place.{Place}
use Rattle.xmp_map.specs.RowMajor.{row_major}
use Rattle.xmp_prog.specs.declared.parts.ProgParts.{ProgParts}
use Rattle.xmp_prog.specs.declared.statements.MoveSide.{MoveSide}
use Rattle.xmp_prog.specs.declared.statements.MoveSide.TheVariants as side
use Rattle.xmp_meaning.specs.declared.ends.End.TheVariants.{Trapped}
use Rattle.xmp_meaning.specs.Declarations.{extents}
use Rattle.xmp_meaning.specs.Runs.{State, Gave, Ended}
use Rattle.xmp_meaning.specs.Context.{Context}
use Rattle.xmp_meaning.specs.Handlers.{Handlers, Aim}
use Rattle.xmp_meaning.specs.Sections.{Chosen, numbers, lengths, name_of, aim}
use Rattle.xmp_move.specs.declared.kind.Fault.{Fault}
use Rattle.xmp_move.specs.Ways.{Pair}
use Rattle.xmp_move.specs.Cells.{pairs_between}
use Rattle.xmp_move.specs.Faults.{first_fault}

-- the extents of a side; a scalar has none
abbrev pub extents_in : ProgParts → MoveSide → List ℕ
extents_in p (side.Scalar name) = []
extents_in p (side.Array name parts) = extents p name.number

-- the place of a fault: the name of its side
abbrev pub place_of : (target source : MoveSide) → Fault → Place
place_of target source f = if f.source then (name_of source).at else (name_of target).at

-- what is meant by pairs of cells: their row-major numbers
abbrev pub aim_of : (target_extents source_extents : List ℕ) → List Pair → Aim
aim_of te se pairs = record { targets = map (λ p. row_major te p.0) pairs; sources = map (λ p. row_major se p.1) pairs }

-- After the numbers of both sides the meaning's gmove traps exactly where there is a fault, and by the first.
abbrev pub TrapsAsMeant : Type 0 → Type 0
TrapsAsMeant X = (h : Handlers X) (cx : Context) (target source : MoveSide) (to from : List Chosen) (s t u : State X) (f : Fault)
    → numbers h cx target s ≡ Gave to t → numbers h cx source t ≡ Gave from u
    → first_fault (extents_in cx.program target) to (extents_in cx.program source) from ≡ Some f
    → aim h cx target source s ≡ Ended (Trapped f.kind (place_of target source f)) u

-- Where there is none, it moves the pairs. Each dimension of a side has its numbers, and a source with a section has as many of
-- them as its target.
abbrev pub MovesAsMeant : Type 0 → Type 0
MovesAsMeant X = (h : Handlers X) (cx : Context) (target source : MoveSide) (to from : List Chosen) (s t u : State X)
    → numbers h cx target s ≡ Gave to t → numbers h cx source t ≡ Gave from u
    → first_fault (extents_in cx.program target) to (extents_in cx.program source) from ≡ None
    → length to ≡ length (extents_in cx.program target) → length from ≡ length (extents_in cx.program source)
    → (lengths from ≡ []) ⊎ (length (lengths from) ≡ length (lengths to))
    → aim h cx target source s ≡ Gave (aim_of (extents_in cx.program target) (extents_in cx.program source) (pairs_between to from)) u
