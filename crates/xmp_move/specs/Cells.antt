-- The cells that the sections of a gmove name (XcalableMP 1.4, gmove construct; the order of the cells is this project's).
use Rattle.std.specs.Prelude.{ℕ, ◌+◌, ◌*◌, List, [], ◌∷◌, map}
use Rattle.std.specs.List.{flat_map, range_with_len}
use Rattle.xmp_meaning.specs.Expressions.{natural}
use Rattle.xmp_meaning.specs.Sections.{Chosen, One, Many}
use Rattle.xmp_move.specs.Ways.{Pair}

-- all lists of indices below these counts in row-major order, the last fastest
unfoldable pub indices : List ℕ → List (List ℕ)
indices [] = [] ∷ []
indices (n ∷ ns) = flat_map (λ i. map (λ rest. i ∷ rest) (indices ns)) (range_with_len 0 n)

-- how many subscripts each section of a side names; a single subscript is no section
unfoldable pub counts : List Chosen → List ℕ
counts [] = []
counts (One v ∷ cs) = counts cs
counts (Many base length step ∷ cs) = natural length ∷ counts cs

-- the cell at these places of the sections, the first place of each where there is none
unfoldable pub cell_at : List Chosen → (places : List ℕ) → List ℕ
cell_at [] places = []
cell_at (One v ∷ cs) places = natural v ∷ cell_at cs places
cell_at (Many base length step ∷ cs) [] = natural base ∷ cell_at cs []
cell_at (Many base length step ∷ cs) (k ∷ places) = (natural base + k * natural step) ∷ cell_at cs places

-- For all places of the target's sections in row-major order, the target's cell and the source's cell at the same places. A
-- source without a section gives its one cell to all.
abbrev pub pairs_between : (target source : List Chosen) → List Pair
pairs_between target source = map (λ places. (cell_at target places, cell_at source places)) (indices (counts target))
