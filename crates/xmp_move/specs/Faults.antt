-- Where a gmove traps: the first of its numbers that breaks a rule (XcalableMP 1.4, gmove construct; the order is this project's).
use Rattle.std.specs.Prelude.{ℕ, ℤ, Bool, true, false, List, [], ◌∷◌, Option, Some, None, is_some, if◌then◌else◌}
use Rattle.xmp_num.specs.declared.types.TrapKind.TheVariants.{Subscript, Section}
use Rattle.xmp_meaning.specs.Expressions.{within}
use Rattle.xmp_meaning.specs.Sections.{Chosen, One, Many, in_range, lengths, fit}
use Rattle.xmp_move.specs.declared.kind.Fault.{Fault}
use Rattle.xmp_move.specs.declared.kind.MoveKind.{MoveKind}
use Rattle.xmp_move.specs.declared.kind.MoveKind.TheVariants.{Reflect, Gmove}
use Rattle.xmp_move.specs.Numbers.{target_chosen, source_chosen}

-- the fault of one dimension: a subscript outside it, or a section that isn't in range
abbrev pub part_fault : (source : Bool) → (extent : ℕ) → Chosen → Option Fault
part_fault source extent (One v) = if is_some (within v extent) then None else Some (record { kind = Subscript; source = source })
part_fault source extent (Many base length step) =
    if in_range extent base length step then None else Some (record { kind = Section; source = source })

-- the first, or else the second
abbrev pub first_of : Option Fault → Option Fault → Option Fault
first_of (Some f) other = Some f
first_of None other = other

-- the first of a side's dimensions that has one
abbrev pub side_fault : (source : Bool) → (extents : List ℕ) → List Chosen → Option Fault
side_fault source [] cs = None
side_fault source (n ∷ ns) [] = None
side_fault source (n ∷ ns) (c ∷ cs) = first_of (part_fault source n c) (side_fault source ns cs)

-- lengths that differ are the target's
abbrev pub lengths_fault : (target source : List Chosen) → Option Fault
lengths_fault target source = if fit (lengths target) (lengths source) then None else Some (record { kind = Section; source = false })

-- the target's dimensions in order, then the source's, then the lengths of the sections
abbrev pub first_fault : (target_extents : List ℕ) → (target : List Chosen) → (source_extents : List ℕ) → (source : List Chosen) → Option Fault
first_fault te target se source = first_of (side_fault false te target) (first_of (side_fault true se source) (lengths_fault target source))

-- a reflect never traps
abbrev pub move_fault : MoveKind → (args : List ℤ) → Option Fault
move_fault (Reflect array) args = None
move_fault (Gmove target source ty) args =
    first_fault target.extents (target_chosen target args) source.extents (source_chosen target source args)
