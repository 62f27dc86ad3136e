-- What a world answers: how it ended, what was printed, and the distributed arrays, cell by cell from their owners (this
-- project).
use Rattle.std.specs.Prelude.{ℕ, ◌+◌, if◌then◌else◌, List, [], ◌∷◌, length, map, ℤ, slice_get, unwrap_or, Option, Some, None}
use Rattle.std.specs.List.{range_with_len}
use Rattle.xmp_map.specs.RowMajor.{product, unravel}
use Rattle.xmp_prog.specs.declared.parts.Home.{Home}
use Rattle.xmp_prog.specs.declared.parts.ProgParts.{ProgParts}
use Rattle.xmp_prog.specs.Fits.{node_count}
use Rattle.xmp_meaning.specs.declared.ends.End.{End}
use Rattle.xmp_meaning.specs.declared.ends.End.TheVariants as end
use Rattle.xmp_meaning.specs.declared.outcome.Outcome.{Outcome}
use Rattle.xmp_meaning.specs.declared.outcome.Outcome.TheVariants as outcome
use Rattle.xmp_meaning.specs.Declarations.{extents, home_of}
use Rattle.xmp_meaning.specs.Programs.{told}
use Rattle.xmp_meaning.specs.Stores.{base_of}
use Rattle.xmp_move.specs.Sides.{owns_cell, position}
use Rattle.xmp_move.specs.Stores.{word_at}
use Rattle.xmp_nodes.specs.Worlds.{World}

-- the first of these nodes that owns a cell; one always does
abbrev pub owner_among : Home → (cell : List ℕ) → (nodes : List ℕ) → ℕ
owner_among h cell [] = 0
owner_among h cell (k ∷ ks) = if owns_cell h k cell then k else owner_among h cell ks

-- the word of a cell of an array in the store of a node
abbrev pub word_on : ProgParts → World → (array node : ℕ) → (cell : List ℕ) → ℤ
word_on p w array node cell =
    word_at (unwrap_or (slice_get w.stores node) []) (base_of p node array + position (home_of p array) (extents p array) node cell)

-- the cells of an array in row-major order, each from its owner
abbrev pub gathered_row : ProgParts → World → (array : ℕ) → List ℤ
gathered_row p w array = map (λ n.
    let cell = unravel (extents p array) n in
    word_on p w array (owner_among (home_of p array) cell (range_with_len 0 (node_count p))) cell)
    (range_with_len 0 (product (extents p array)))

abbrev pub gathered : ProgParts → World → List (List ℤ)
gathered p w = map (gathered_row p w) (range_with_len 0 (length p.arrays))

-- as the outcome of a program is told
abbrev pub answer_by : ProgParts → World → Option End → Outcome
answer_by p w None = outcome.Ended w.out (told p p.arrays (gathered p w))
answer_by p w (Some (end.Trapped kind at)) = outcome.Trapped w.out kind at
answer_by p w (Some end.OutOfSteps) = outcome.OutOfSteps w.out
answer_by p w (Some end.PhaseEnd) = outcome.Ended w.out (told p p.arrays (gathered p w))

abbrev pub answer_of : ProgParts → World → Outcome
answer_of p w = answer_by p w w.ended
