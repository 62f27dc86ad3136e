-- What is done for each tuple of a node.
use Rattle.std.specs.Prelude.{◌≡◌, ℕ, List, ℤ}
use Rattle.xmp_map.specs.declared.template.Template.{Template}
use Rattle.xmp_map.specs.RowMajor.{unravel}
use Rattle.xmp_prog.specs.declared.parts.ProgParts.{ProgParts}
use Rattle.xmp_prog.specs.declared.statements.LoopDirective.{LoopDirective}
use Rattle.xmp_meaning.specs.declared.ends.Flow.{Flow}
use Rattle.xmp_meaning.specs.Runs.{Run}
use Rattle.xmp_meaning.specs.Handlers.{erased}
use Rattle.xmp_meaning.specs.Statements.{stmt_of}
use Rattle.xmp_serial.specs.Lines.{context_of}
use Rattle.xmp_own_parts.specs.declared.nest.Nest.{Nest}
use Rattle.xmp_own_parts.specs.declared.walking.Walk.{Walk}

-- the body with its directives erased
abbrev pub body_by : Walk → Run (Unit {0}) Flow
body_by walk = stmt_of erased (context_of walk.at.now.layout.now.program.now walk.at.now.layout.now.packed walk.at.now.node walk.at.now.input.now) walk.body.now

-- A nest is that of a loop directive at a node, by the values of the scalars.
pub record IsNestAt (p : ProgParts) (t : Template) (directive : LoopDirective) (node : ℕ) (values : List ℤ) (nest : Nest) : Type 0 where
  pub template : nest.template.now ≡ t
  pub at : nest.at ≡ unravel p.grid.sizes node
  pub points : nest.points.now ≡ directive.points
  pub heads : nest.heads.now ≡ directive.nest
  pub scalars : nest.scalars.now ≡ values
