-- Assignments of sections under `gmove` (XcalableMP 1.4, gmove construct; the order of evaluation and the traps are this project's).
use Rattle.std.specs.Prelude.{ℕ, ◌+◌, ◌*◌, ◌&&◌, zero, suc, Bool, true, false, List, [], ◌∷◌, map, length, replicate, ℤ, pos, ◌+ℤ◌, ◌*ℤ◌, int_lt, int_le}
use Rattle.std.specs.List.{range_with_len, flat_map}
use Rattle.std.specs.Ordering.{int_eq}
use Rattle.xmp_base.specs.declared.place.Place.{Place}
use Rattle.xmp_num.specs.declared.types.TrapKind.TheVariants.{Section}
use Rattle.xmp_prog.specs.declared.statements.Name.{Name}
use Rattle.xmp_prog.specs.declared.statements.Part.{Part}
use Rattle.xmp_prog.specs.declared.statements.Part.TheVariants as part
use Rattle.xmp_prog.specs.declared.statements.MoveSide.{MoveSide}
use Rattle.xmp_prog.specs.declared.statements.MoveSide.TheVariants as side
use Rattle.xmp_meaning.specs.declared.location.Location.{Location}
use Rattle.xmp_meaning.specs.declared.location.Location.TheVariants as location
use Rattle.xmp_meaning.specs.declared.ends.Flow.{Flow}
use Rattle.xmp_meaning.specs.declared.ends.Flow.TheVariants.{Next}
use Rattle.xmp_meaning.specs.Runs.{RunIn, Run, ◌>>=◌, pure, trap}
use Rattle.xmp_meaning.specs.Declarations.{extents}
use Rattle.xmp_meaning.specs.Context.{Context}
use Rattle.xmp_meaning.specs.Handlers.{Handlers, Aim}
use Rattle.xmp_meaning.specs.Expressions.{expr_of, each, within, or_subscript, natural}
use Rattle.xmp_meaning.specs.Assignments.{value_at, store}

-- a subscript, or the base, the length and the step of a section
pub data Chosen : Type 0 where
  One : ℤ → Chosen
  Many : (base length step : ℤ) → Chosen

-- the numbers of a dimension, from left to right
abbrev pub chosen : {X : Type 0} → Handlers X → Context → Part → Run X Chosen
chosen h cx (part.One n) = do
  v ← expr_of h cx n.value
  pure (One v)
chosen h cx (part.Many b n s) = do
  base ← expr_of h cx b.value
  length ← expr_of h cx n.value
  step ← expr_of h cx s.value
  pure (Many base length step)

-- the numbers of a side; a scalar has none
abbrev pub numbers : {X : Type 0} → Handlers X → Context → MoveSide → Run X (List Chosen)
numbers h cx (side.Scalar name) = pure []
numbers h cx (side.Array name parts) = each (map (chosen h cx) parts) []

-- ---- which subscripts are meant

-- a section is in range when its length isn't negative, its step is at least 1, and it is empty or its first and last cells lie in the dimension
abbrev pub in_range : ℕ → ℤ → ℤ → ℤ → Bool
in_range extent base (pos zero) step = int_le (pos 1) step
in_range extent base (pos (suc more)) step = int_le (pos 1) step && (int_le (pos 0) base && int_lt (base +ℤ (pos more *ℤ step)) (pos extent))
in_range extent base length step = false

-- b, b + s, .. of them n
abbrev pub progression : ℕ → ℕ → ℕ → List ℕ
progression base step length = map (λ k. base + k * step) (range_with_len 0 length)

-- the subscripts of a section that is in range, or the trap at the array's name
abbrev pub section : {S : Type 0} → Bool → Place → List ℕ → RunIn S (List ℕ)
section true at xs = pure xs
section false at xs = trap Section at

-- the subscripts of one dimension, where they lie in it
abbrev pub subscripts : {S : Type 0} → Place → ℕ → Chosen → RunIn S (List ℕ)
subscripts at extent (One v) = do
  x ← or_subscript (within v extent) at
  pure (x ∷ [])
subscripts at extent (Many base length step) =
    section (in_range extent base length step) at (progression (natural base) (natural step) (natural length))

-- the same of each dimension in order
abbrev pub all_subscripts : {S : Type 0} → Place → List ℕ → List Chosen → RunIn S (List (List ℕ))
all_subscripts at (n ∷ ns) (c ∷ cs) = do
  xs ← subscripts at n c
  rest ← all_subscripts at ns cs
  pure (xs ∷ rest)
all_subscripts at [] cs = pure []
all_subscripts at (n ∷ ns) [] = pure []

-- the row-major numbers of the cells with these subscripts, the last dimension fastest; the dimensions before give `so_far`
abbrev pub cells_from : ℕ → List ℕ → List (List ℕ) → List ℕ
cells_from so_far (n ∷ ns) (xs ∷ rest) = flat_map (λ x. cells_from (so_far * n + x) ns rest) xs
cells_from so_far [] rest = so_far ∷ []
cells_from so_far (n ∷ ns) [] = so_far ∷ []

-- the cells of a side by their numbers, in row-major order, once its dimensions are checked; a scalar is one cell, whose number is 0
abbrev pub cells : {S : Type 0} → Context → MoveSide → List Chosen → RunIn S (List ℕ)
cells cx (side.Scalar name) cs = pure (0 ∷ [])
cells cx (side.Array name parts) cs = do
  xs ← all_subscripts name.at (extents cx.program name.number) cs
  pure (cells_from 0 (extents cx.program name.number) xs)

-- a cell of a side, in a store of whole rows
abbrev pub cell_at : MoveSide → ℕ → Location
cell_at (side.Scalar name) n = location.Scalar name.number
cell_at (side.Array name parts) n = location.Cell name.number (pos n)

-- ---- whether the sections fit each other

-- the lengths of a side's sections
abbrev pub lengths : List Chosen → List ℤ
lengths [] = []
lengths (One v ∷ cs) = lengths cs
lengths (Many base length step ∷ cs) = length ∷ lengths cs

-- pairwise equal; a source without a section fits any target
abbrev pub fit : List ℤ → List ℤ → Bool
fit target [] = true
fit [] (n ∷ ns) = true
fit (m ∷ ms) (n ∷ ns) = int_eq m n && fit ms ns

-- the name of a side
abbrev pub name_of : MoveSide → Name
name_of (side.Scalar name) = name
name_of (side.Array name parts) = name

-- goes on where the lengths fit, or the trap at the target's name
abbrev pub lengths_fit : {S : Type 0} → Bool → Place → RunIn S (Unit {0})
lengths_fit true at = pure tt
lengths_fit false at = trap Section at

-- ---- what is meant, what is read, and what is written

-- one item for each target: those of the source's cells, or its one for all where it has no section
abbrev pub spread : {A : Type 0} → List ℤ → ℕ → List A → List A
spread [] count (v ∷ vs) = replicate count v
spread [] count [] = []
spread (n ∷ ns) count vs = vs

-- What is meant. All numbers come first, the target's and then the source's. Then the target's dimensions are checked in order, then the
-- source's, then the lengths of the sections.
abbrev pub aim : {X : Type 0} → Handlers X → Context → MoveSide → MoveSide → Run X Aim
aim h cx target source = do
  to ← numbers h cx target
  from ← numbers h cx source
  targets ← cells cx target to
  sources ← cells cx source from
  _ ← lengths_fit (fit (lengths to) (lengths from)) (name_of target).at
  pure (record { targets = targets; sources = spread (lengths from) (length targets) sources })

-- the value of a cell of a side
abbrev pub read_cell : {X : Type 0} → Handlers X → MoveSide → ℕ → Run X ℤ
read_cell h source n = value_at h (cell_at source n)

-- those of several, in order
abbrev pub read_all : {X : Type 0} → Handlers X → MoveSide → List ℕ → Run X (List ℤ)
read_all h source ns = each (map (read_cell h source) ns) []

-- the values into the cells of a side, in order
abbrev pub store_all : {X : Type 0} → Handlers X → Context → MoveSide → List ℕ → List ℤ → Run X Flow
store_all h cx target (n ∷ ns) (v ∷ vs) = do
  _ ← store h cx (cell_at target n) v
  store_all h cx target ns vs
store_all h cx target [] vs = pure Next
store_all h cx target (n ∷ ns) [] = pure Next
