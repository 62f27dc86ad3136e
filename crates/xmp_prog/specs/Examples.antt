-- Programs whose parts fit: an empty one, and one with a coarray.
use Rattle.std.specs.Prelude.{ℕ, [], ◌∷◌, pos, Option, Some, None}
use Rattle.xmp_base.specs.declared.place.Place.{Place}
use Rattle.xmp_num.specs.declared.types.Ty.TheVariants.{Int}
use Rattle.xmp_num.specs.declared.types.BinOp.TheVariants as op
use Rattle.xmp_map.specs.declared.grid.Grid.{Grid}
use Rattle.xmp_prog.specs.declared.expressions.Expr.{Expr}
use Rattle.xmp_prog.specs.declared.expressions.Expr.TheVariants as expr
use Rattle.xmp_prog.specs.declared.expressions.Access.{Access, roll-Access}
use Rattle.xmp_prog.specs.declared.statements.Stmt.{Stmt}
use Rattle.xmp_prog.specs.declared.statements.Stmt.TheVariants as stmt
use Rattle.xmp_prog.specs.declared.statements.Plain.TheVariants as plain
use Rattle.xmp_prog.specs.declared.statements.Target.TheVariants as target
use Rattle.xmp_prog.specs.declared.parts.Kind.TheVariants.{Global, Coarray}
use Rattle.xmp_prog.specs.declared.parts.Home.TheVariants as home
use Rattle.xmp_prog.specs.declared.parts.ProgParts.{ProgParts}

-- ---- an empty main

abbrev pub empty : Grid → ProgParts
empty grid = record {
  grid = grid;
  kind = Global;
  scalars = [];
  arrays = [];
  templates = [];
  functions = [];
  start = [];
  body = stmt.Block [];
}

abbrev pub number : ℕ → Expr
number n = expr.Const (pos n) Int

-- ---- `int x[1]:[*], st;` and in main the statements below; the slots of `st`, `me`, `n` are 0, 1, 2

-- `x[0]`, and `x[0]:[k]`
abbrev pub first_cell : Place → Option Expr → Access
first_cell at image = roll-Access (record { array = 0; subscripts = number 0 ∷ []; image = image; at = at })

-- `(me + 1) % n`
abbrev pub next_image : Place → Expr
next_image at = expr.Binary op.Rem Int (expr.Binary op.Add Int (expr.Scalar 1 at) (number 1) at) (expr.Scalar 2 at) at

-- `int me = xmp_node_num(), n = xmp_num_nodes(); x[0]:[(me + 1) % n] = me; xmp_sync_all(&st); printf("%d\n", x[0]);`
abbrev pub exchange_body : Place → Stmt
exchange_body at = stmt.Block (
    stmt.Plain (plain.Declare 1 (Some expr.Node) at)
    ∷ stmt.Plain (plain.Declare 2 (Some expr.Nodes) at)
    ∷ stmt.Plain (plain.Set (target.Cell (first_cell at (Some (next_image at)))) None (expr.Scalar 1 at))
    ∷ stmt.Plain (plain.Sync (record { number = 0; at = at }) at)
    ∷ stmt.Plain (plain.Print (37 ∷ 100 ∷ 10 ∷ []) (expr.Cell (first_cell at None) ∷ []) at)
    ∷ [])

abbrev pub exchange : Grid → Place → ProgParts
exchange grid at = record {
  grid = grid;
  kind = Coarray;
  scalars = Int ∷ Int ∷ Int ∷ [];
  arrays = record { ty = Int; extents = 1 ∷ []; home = home.Image } ∷ [];
  templates = [];
  functions = [];
  start = [];
  body = exchange_body at;
}
