-- A program with mappings and a function whose parts fit: `int a[10], i, s = 0;`, `a` aligned with a template of size 10, and
-- `int square(int x) { int y = x; return y * x; }`. The slots of `i`, `s`, `x`, `y` are 0, 1, 2, 3.
use Rattle.xmp_map.specs.Held.{extents}
use Rattle.std.specs.Prelude.{◌≡◌, false, List, [], ◌∷◌, pos, Some, None}
use Rattle.xmp_base.specs.declared.place.Place.{Place}
use Rattle.xmp_num.specs.declared.types.Ty.TheVariants.{Int}
use Rattle.xmp_num.specs.declared.types.BinOp.TheVariants as op
use Rattle.xmp_num.specs.declared.types.RedOp.TheVariants as red
use Rattle.xmp_map.specs.declared.grid.Grid.{Grid}
use Rattle.xmp_map.specs.declared.grid.NodeSet.{NodeSet}
use Rattle.xmp_map.specs.declared.template.Template.{Template}
use Rattle.xmp_map.specs.declared.array_map.ArrayMap.{ArrayMap}
use Rattle.xmp_prog.specs.declared.expressions.Expr.{Expr}
use Rattle.xmp_prog.specs.declared.expressions.Expr.TheVariants as expr
use Rattle.xmp_prog.specs.declared.expressions.Access.{Access, roll-Access}
use Rattle.xmp_prog.specs.declared.statements.Stmt.{Stmt}
use Rattle.xmp_prog.specs.declared.statements.Stmt.TheVariants as stmt
use Rattle.xmp_prog.specs.declared.statements.Plain.{Plain}
use Rattle.xmp_prog.specs.declared.statements.Plain.TheVariants as plain
use Rattle.xmp_prog.specs.declared.statements.Target.TheVariants as target
use Rattle.xmp_prog.specs.declared.statements.Point.TheVariants as point
use Rattle.xmp_prog.specs.declared.statements.LoopHead.{LoopHead}
use Rattle.xmp_prog.specs.declared.statements.LoopDirective.{LoopDirective}
use Rattle.xmp_prog.specs.declared.statements.Reduction.{Reduction}
use Rattle.xmp_prog.specs.declared.statements.Task.{roll-Task}
use Rattle.xmp_prog.specs.declared.parts.Kind.TheVariants.{Global}
use Rattle.xmp_prog.specs.declared.parts.Home.TheVariants as home
use Rattle.xmp_prog.specs.declared.parts.Function.{Function}
use Rattle.xmp_prog.specs.declared.parts.ProgParts.{ProgParts}
use Rattle.xmp_prog.specs.Examples.{number}

-- `y * x`, and the function
abbrev pub product_of : Place → Expr
product_of at = expr.Binary op.Mul Int (expr.Scalar 3 at) (expr.Scalar 2 at) at

abbrev pub square : Place → Function
square at = record {
  result = Int;
  parameters = 2 ∷ [];
  body = stmt.Block (
      stmt.Plain (plain.Declare 3 (Some (expr.Scalar 2 at)) at)
      ∷ stmt.Plain (plain.Return (product_of at))
      ∷ []);
}

-- `for (i = 0; i < 10; i++)`
abbrev pub ten_turns : Place → LoopHead
ten_turns at = record {
  index = record { number = 0; at = at };
  «from» = number 0;
  to = number 10;
  inclusive = false;
  step = 1;
  from_at = at;
  to_at = at;
}

-- `loop (i) on t[i]` with these reductions, over those turns
abbrev pub over : Place → List Reduction → LoopDirective
over at reductions = record {
  template = 0;
  points = point.Index 0 (pos 0) ∷ [];
  nest = ten_turns at ∷ [];
  reductions = reductions;
  at = at;
}

-- `reduction(+:s)`
abbrev pub sum_of : Place → List Reduction
sum_of at = record { op = red.Add; variable = record { number = 1; at = at } } ∷ []

-- `a[i]`, `square(i)`
abbrev pub cell_i : Place → Access
cell_i at = roll-Access (record { array = 0; subscripts = expr.Scalar 0 at ∷ []; image = None; at = at })

abbrev pub square_i : Place → Expr
square_i at = expr.Call 0 (expr.Scalar 0 at ∷ []) at

-- `a[i] = square(i);`, `s += a[i];`, `printf("%d\n", s);`, `return 0;`
abbrev pub fill : Place → Plain
fill at = plain.Set (target.Cell (cell_i at)) None (square_i at)

abbrev pub add : Place → Plain
add at = plain.Set (target.Scalar 1 at) (Some (record { op = op.Add; ty = Int; at = at })) (expr.Cell (cell_i at))

abbrev pub show : Place → Plain
show at = plain.Print (37 ∷ 100 ∷ 10 ∷ []) (expr.Scalar 1 at ∷ []) at

abbrev pub finish : Plain
finish = plain.Return (number 0)

-- the first node
abbrev pub first_node : NodeSet
first_node = record { first = 0 ∷ 0 ∷ 0 ∷ []; many = 1 ∷ 1 ∷ 1 ∷ [] }

-- the first in a loop, the second in one with the reduction, the third in a task on the first node, the last
abbrev pub squares_body : Place → Stmt
squares_body at = stmt.Block (
    stmt.Loop (over at []) (stmt.Plain (fill at))
    ∷ stmt.Loop (over at (sum_of at)) (stmt.Plain (add at))
    ∷ stmt.Tasks (roll-Task (record { nodes = first_node; body = stmt.Plain (show at); at = at }) ∷ []) at
    ∷ stmt.Plain finish
    ∷ [])

abbrev pub squares : Grid → Template → ArrayMap → Place → ProgParts
squares grid template map at = record {
  grid = grid;
  kind = Global;
  scalars = Int ∷ Int ∷ Int ∷ Int ∷ [];
  arrays = record { ty = Int; extents = 10 ∷ []; home = home.Spread 0 map } ∷ [];
  templates = template ∷ [];
  functions = square at ∷ [];
  start = record { slot = 1; value = number 0 } ∷ [];
  body = squares_body at;
}

-- The grid has four nodes in one dimension, the template is over it and has one dimension, and the map is over the template and has
-- one dimension of ten subscripts.
pub record IsMade (grid : Grid) (t : Template) (m : ArrayMap) : Type 0 where
  pub sizes : grid.sizes ≡ 4 ∷ 1 ∷ 1 ∷ []
  pub on_grid : t.grid ≡ grid
  pub one_dim : t.dims ≡ 1
  pub on_template : m.template ≡ t
  pub one_side : m.dims ≡ 1
  pub ten : extents m ≡ 10 ∷ 1 ∷ 1 ∷ []
