-- What the sides of a transfer name in three dimensions, once their numbers are known to be in range (this project).
use Rattle.std.specs.Prelude.{ℕ, ◌+◌, ◌*◌, ◌^◌, ◌<◌, ◌≤◌, ℤ, pos, negsuc, zero, suc, Bool, true, ◌&&◌, nat_lt, List, [], ◌∷◌, map, if◌then◌else◌}
use Rattle.xmp_base.specs.Limits.{size_limit}
use Rattle.xmp_map.specs.Nodes.{filled}
use Rattle.xmp_meaning.specs.Sections.{Chosen, One, Many}
use Rattle.xmp_move.specs.declared.pick.Pick.{Pick}
use Rattle.xmp_move.specs.declared.pick.Pick.TheVariants.{Single, Section}
use Rattle.xmp_move.specs.Ways.{Pair}
use Rattle.xmp_move.specs.Cells.{indices}

-- a number below 2^32 as it is, any other as 0
abbrev pub narrow : ℤ → ℕ
narrow (pos n) = if nat_lt n (2 ^ 32) then n else 0
narrow (negsuc n) = 0

-- a section in numbers below 2^32: where it names no cell its base and its step are of no account, and where it names one its
-- step
abbrev pub section_of : (base : ℕ) → (length : ℕ) → (step : ℕ) → Pick
section_of base zero step = Section 0 0 1
section_of base (suc zero) step = Section base 1 1
section_of base (suc (suc n)) step = Section base (suc (suc n)) step

abbrev pub pick_of : Chosen → Pick
pick_of (One v) = Single (narrow v)
pick_of (Many base length step) = section_of (narrow base) (narrow length) (narrow step)

-- a side's three dimensions; in those that its array doesn't have the subscript is 0
abbrev pub picks_of : List Chosen → List Pick
picks_of cs = filled (Single 0) (map pick_of cs)

-- all subscripts of each dimension
abbrev pub whole_picks : (extents : List ℕ) → List Pick
whole_picks es = filled (Single 0) (map (λ e. Section 0 e 1) es)

-- how many cells each section names; a single subscript is no section
unfoldable pub counts : List Pick → List ℕ
counts [] = []
counts (Single x ∷ ps) = counts ps
counts (Section first count step ∷ ps) = count ∷ counts ps

-- the cell at these places of the sections, the first place of each where there is none
unfoldable pub cell_at : List Pick → (places : List ℕ) → List ℕ
cell_at [] places = []
cell_at (Single x ∷ ps) places = x ∷ cell_at ps places
cell_at (Section first count step ∷ ps) [] = first ∷ cell_at ps []
cell_at (Section first count step ∷ ps) (k ∷ places) = (first + k * step) ∷ cell_at ps places

-- the target's cell and the source's cell at the same places, for all places of the target's sections in row-major order
abbrev pub picked_pairs : (target source : List Pick) → List Pair
picked_pairs target source = map (λ places. (cell_at target places, cell_at source places)) (indices (counts target))

-- a test or a function of a subscript, as one of the place in its section; those of single subscripts are left out
unfoldable pub by_place : {A : Type 0} → List Pick → List (ℕ → A) → List (ℕ → A)
by_place [] fs = []
by_place (Single x ∷ ps) [] = []
by_place (Single x ∷ ps) (f ∷ fs) = by_place ps fs
by_place (Section first count step ∷ ps) [] = []
by_place (Section first count step ∷ ps) (f ∷ fs) = (λ k. f (first + k * step)) ∷ by_place ps fs

-- whether the single subscripts pass their tests, and the sum of what their functions give
unfoldable pub singles_pass : List Pick → List (ℕ → Bool) → Bool
singles_pass [] ts = true
singles_pass (Single x ∷ ps) [] = true
singles_pass (Single x ∷ ps) (t ∷ ts) = t x && singles_pass ps ts
singles_pass (Section first count step ∷ ps) [] = true
singles_pass (Section first count step ∷ ps) (t ∷ ts) = singles_pass ps ts

unfoldable pub singles_total : List Pick → List (ℕ → ℕ) → ℕ
singles_total [] fs = 0
singles_total (Single x ∷ ps) [] = 0
singles_total (Single x ∷ ps) (f ∷ fs) = f x + singles_total ps fs
singles_total (Section first count step ∷ ps) [] = 0
singles_total (Section first count step ∷ ps) (f ∷ fs) = singles_total ps fs

-- what is named lies below the extent
abbrev pub PickFits : Pick → (extent : ℕ) → Type 0
PickFits (Single x) e = x < e
PickFits (Section first count step) e =
    (1 ≤ step) × (step ≤ size_limit) × (count ≤ size_limit) × ((k : ℕ) → k < count → first + k * step < e)
