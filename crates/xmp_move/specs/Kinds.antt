-- The ways and the pairs of a transfer (XcalableMP 1.4, reflect and gmove constructs).
use Rattle.std.specs.Prelude.{ℕ, ◌+◌, ℤ, List}
use Rattle.xmp_move.specs.declared.kind.MoveKind.{MoveKind}
use Rattle.xmp_move.specs.declared.kind.MoveKind.TheVariants.{Reflect, Gmove}
use Rattle.xmp_move.specs.Ways.{Pair, Ways}
use Rattle.xmp_move.specs.Sides.{owns_cell, holds_cell, gives_cell, slot_in}
use Rattle.xmp_move.specs.Numbers.{asked_of, target_chosen, source_chosen}
use Rattle.xmp_move.specs.Cells.{indices, pairs_between}
use Rattle.xmp_move.specs.Whole.{reflecting, selves}

-- A gmove writes a target's cell at its owner, or at each node where the target isn't spread. In a reflect the owner gives a cell
-- to each other node that holds it.
abbrev pub ways_of : MoveKind → Ways
ways_of (Reflect array) = reflecting (holds_cell array.home) (owns_cell array.home) (slot_in array)
ways_of (Gmove target source ty) = record {
  needs = owns_cell target.home;
  gives = gives_cell source.home;
  into = slot_in target;
  out_of = slot_in source;
}

-- which cells are moved: those of the sections, or each cell of the reflected array beside itself
abbrev pub pairs_of : MoveKind → (args : List ℤ) → List Pair
pairs_of (Reflect array) args = selves (indices array.extents)
pairs_of (Gmove target source ty) args = pairs_between (target_chosen target args) (source_chosen target source args)

-- how many numbers a transfer takes
abbrev pub numbers_of : MoveKind → ℕ
numbers_of (Reflect array) = 0
numbers_of (Gmove target source ty) = asked_of target + asked_of source
