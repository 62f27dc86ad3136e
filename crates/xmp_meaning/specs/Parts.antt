-- The part of a node in a loop directive (XcalableMP 1.4, loop construct): the iterations whose point it owns.
use Rattle.std.specs.Prelude.{ℕ, ◌==◌, if◌then◌else◌, Bool, false, List, [], ◌∷◌, map, ℤ, pos, ◌+ℤ◌, Option, Some, None, unwrap_or, slice_get}
use Rattle.xmp_num.specs.Reduction.{unit_of}
use Rattle.xmp_map.specs.declared.template.Template.{Template}
use Rattle.xmp_map.specs.RowMajor.{unravel}
use Rattle.xmp_map.specs.Spread.{owns_point}
use Rattle.xmp_prog.specs.declared.parts.ProgParts.{ProgParts}
use Rattle.xmp_prog.specs.declared.statements.LoopDirective.{LoopDirective}
use Rattle.xmp_prog.specs.declared.statements.Point.{Point}
use Rattle.xmp_prog.specs.declared.statements.Point.TheVariants as point
use Rattle.xmp_prog.specs.declared.statements.Reduction.{Reduction}
use Rattle.xmp_meaning.specs.declared.ends.Flow.{Flow}
use Rattle.xmp_meaning.specs.declared.ends.Flow.TheVariants.{Next}
use Rattle.xmp_meaning.specs.Runs.{State, RunIn, Run, ◌>>=◌, pure, set_scalar}
use Rattle.xmp_meaning.specs.Declarations.{scalar_type}
use Rattle.xmp_meaning.specs.Blocks.{choose}

-- a position of an iteration's point; `*` stands for an undistributed dimension, where any position has one owner
abbrev pub position_at : List ℤ → Point → ℤ
position_at scalars point.Any = pos 0
position_at scalars (point.Index slot offset) = unwrap_or (slice_get scalars slot) (pos 0) +ℤ offset

-- whether a node owns a point of a template
abbrev pub owns_positions : ProgParts → ℕ → Option Template → List ℤ → Bool
owns_positions p node None at = false
owns_positions p node (Some t) at = owns_point (unravel p.grid.sizes node) t.spread at

-- whether a node owns the point of the iteration that the indices are at
abbrev pub owns_iteration : {X : Type 0} → ProgParts → LoopDirective → ℕ → State X → Bool
owns_iteration p directive node s =
    owns_positions p node (slice_get p.templates directive.template) (map (position_at s.scalars) directive.points)

-- only where the test of the state holds
abbrev pub only : {S : Type 0} → (S → Bool) → RunIn S Flow → RunIn S Flow
only test body = λ s. choose (test s) body (pure Next) s

-- node 0 begins a reduction variable at its old value, the others at the unit
abbrev pub begin : {X : Type 0} → ProgParts → ℕ → List Reduction → Run X (Unit {0})
begin p node [] = pure tt
begin p node (r ∷ rs) = do
  _ ← (if node == 0 then pure tt else set_scalar r.variable.number (unit_of r.op (scalar_type p r.variable.number)))
  begin p node rs

-- the nest over those iterations alone that the node owns, in serial order, up to its first trap
abbrev pub part_of : {X : Type 0} → ProgParts → LoopDirective → ℕ → (Run X Flow → Run X Flow) → Run X Flow → Run X Flow
part_of p directive node around body = do
  _ ← begin p node directive.reductions
  around (only (owns_iteration p directive node) body)
