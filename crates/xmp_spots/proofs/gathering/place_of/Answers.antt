use Rattle.std.proofs.Common.{sym, ap, ◌∙◌}
use Rattle.xmp_spots.specs.Gathered.{same_cells}
use Rattle.xmp_spots.proofs.PlaceLaws.{apart_all, found_at, got}
use Rattle.xmp_spots.proofs.gathering.place_of.Goals as goal

pub returns-clause-none : goal.returns-clause-none
returns-clause-none c = apart_all c.args.spots.now c.spots.k c.args.s c.spots-test.false c.spots.invariant

pub returns-then-same_cells-clause-found : goal.returns-then-same_cells-clause-found
returns-then-same_cells-clause-found c = (
  c.spots-test.true,
  λ t e.
      found_at c.args.spots.now c.spots.k c.args.s t c.spots.invariant e
      (ap (λ x. same_cells x c.args.s) (sym (got c.args.spots.now c.spots.k _ t e)) ∙ (sym c.same_cells.ensures ∙ c.if-same_cells.true)),
)
