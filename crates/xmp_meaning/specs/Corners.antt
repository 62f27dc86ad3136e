-- A program over a grid of nodes, which reads corners of a shadow:
--   int a[4][4], i, j, s;
--   #pragma xmp nodes p[2][2]
--   #pragma xmp template t[4][4]
--   #pragma xmp distribute t[block][block] onto p
--   #pragma xmp align a[x][y] with t[x][y]
--   #pragma xmp shadow a[1][1]
--   int main() {
--   #pragma xmp loop (i, j) on t[i][j]
--     for (i = 0; i < 4; i++) for (j = 0; j < 4; j++) a[i][j] = 4 * i + j;
--   #pragma xmp reflect (a)
--   #pragma xmp loop (i, j) on t[i][j] reduction(+:s)
--     for (i = 0; i < 3; i++) for (j = 0; j < 3; j++) s += a[i+1][j+1];
--   #pragma xmp task on p[0][0]
--     printf("%d\n", s);
--   }
use Rattle.std.specs.Prelude.{ℕ, false, List, [], ◌∷◌, pos, Some, None}
use Rattle.std.proofs.Common.{refl, lit≤, lit<}
use Rattle.xmp_base.specs.declared.place.Place.{Place}
use Rattle.xmp_num.specs.declared.types.Ty.TheVariants.{Int}
use Rattle.xmp_num.specs.declared.types.BinOp.TheVariants as op
use Rattle.xmp_num.specs.declared.types.RedOp.TheVariants as red
use Rattle.xmp_dist.specs.declared.form.Dist.TheVariants.{Whole, Block}
use Rattle.xmp_map.specs.declared.grid.Grid.{Grid}
use Rattle.xmp_map.specs.declared.spread_dim.SpreadDim.{SpreadDim}
use Rattle.xmp_map.specs.declared.template.Template.{Template}
use Rattle.xmp_map.specs.declared.aligned.AlignedDim.{AlignedDim}
use Rattle.xmp_map.specs.declared.array_map.ArrayMap.{ArrayMap}
use Rattle.xmp_map.specs.RowMajor.{product}
use Rattle.xmp_map.specs.Align.{unused}
use Rattle.xmp_prog.specs.declared.expressions.Expr.{Expr}
use Rattle.xmp_prog.specs.declared.expressions.Expr.TheVariants as expr
use Rattle.xmp_prog.specs.declared.expressions.Access.{Access, roll-Access}
use Rattle.xmp_prog.specs.declared.statements.LoopHead.{LoopHead}
use Rattle.xmp_prog.specs.declared.statements.LoopDirective.{LoopDirective}
use Rattle.xmp_prog.specs.declared.statements.Reduction.{Reduction}
use Rattle.xmp_prog.specs.declared.statements.Point.TheVariants as point
use Rattle.xmp_prog.specs.declared.statements.Plain.{Plain}
use Rattle.xmp_prog.specs.declared.statements.Plain.TheVariants as plain
use Rattle.xmp_prog.specs.declared.statements.Target.TheVariants as target
use Rattle.xmp_prog.specs.declared.statements.Stmt.{Stmt}
use Rattle.xmp_prog.specs.declared.statements.Stmt.TheVariants as stmt
use Rattle.xmp_prog.specs.declared.parts.Home.TheVariants as home
use Rattle.xmp_prog.specs.declared.parts.Kind.TheVariants.{Global}
use Rattle.xmp_prog.specs.declared.parts.ProgParts.{ProgParts}
use Rattle.xmp_meaning.specs.Examples.{number, task_on}

-- ---- the nodes, the template and the map of `a`

unfoldable pub four_nodes : Grid
unfolding product
four_nodes = record { sizes = 2 ∷ 2 ∷ 1 ∷ []; dims = 2; valid = refl; most = lit≤ tt; rest = refl }

-- four positions in blocks over two nodes, along an axis of the grid; a dimension of one position, undistributed
abbrev pub rows_of_nodes : SpreadDim
rows_of_nodes = record { dim = record { size = 4; nodes = 2; dist = Block; valid = refl }; axis = 0; small = lit< tt }

abbrev pub columns_of_nodes : SpreadDim
columns_of_nodes = record { dim = record { size = 4; nodes = 2; dist = Block; valid = refl }; axis = 1; small = lit< tt }

abbrev pub alone : SpreadDim
alone = record { dim = record { size = 1; nodes = 1; dist = Whole; valid = refl }; axis = 2; small = lit< tt }

unfoldable pub blocks_of_four : Template
unfolding four_nodes
blocks_of_four = record {
  grid = four_nodes;
  spread = rows_of_nodes ∷ columns_of_nodes ∷ alone ∷ [];
  dims = 2;
  most = lit≤ tt;
  rest = refl;
  lies = refl;
  covers = refl;
}

-- a dimension of `a` with a dimension of `t`, and a shadow of one cell on each side
abbrev pub with_shadow : ℕ → AlignedDim
with_shadow d = record { target = record { dim = Some d; offset = pos 0 }; extent = 4; low = 1; high = 1 }

unfoldable pub map_of_a : ArrayMap
unfolding blocks_of_four product
map_of_a = record {
  template = blocks_of_four;
  aligned = with_shadow 0 ∷ with_shadow 1 ∷ unused ∷ [];
  dims = 2;
  most = lit≤ tt;
  rest = refl;
  fits = refl;
  extents = refl;
  small = lit≤ tt;
}

-- ---- main; the slots of `i`, `j` and `s` are 0, 1 and 2

-- `for (i = 0; i < bound; i++)`, for an index by its slot
abbrev pub turns_to : Place → (slot bound : ℕ) → LoopHead
turns_to at slot bound = record {
  index = record { number = slot; at = at };
  «from» = number 0;
  to = number bound;
  inclusive = false;
  step = 1;
  from_at = at;
  to_at = at;
}

-- `loop (i, j) on t[i][j]` with these reductions
abbrev pub loop_on : Place → ℕ → List Reduction → LoopDirective
loop_on at bound reductions = record {
  template = 0;
  points = point.Index 0 (pos 0) ∷ point.Index 1 (pos 0) ∷ [];
  nest = turns_to at 0 bound ∷ turns_to at 1 bound ∷ [];
  reductions = reductions;
  at = at;
}

-- `a[i][j]`, and `4 * i + j`
abbrev pub here : Place → Access
here at = roll-Access (record { array = 0; subscripts = expr.Scalar 0 at ∷ expr.Scalar 1 at ∷ []; image = None; at = at })

abbrev pub four_times_i : Place → Expr
four_times_i at = expr.Binary op.Mul Int (number 4) (expr.Scalar 0 at) at

abbrev pub value_here : Place → Expr
value_here at = expr.Binary op.Add Int (four_times_i at) (expr.Scalar 1 at) at

-- an index and 1; `a[i+1][j+1]`
abbrev pub next : Place → ℕ → Expr
next at slot = expr.Binary op.Add Int (expr.Scalar slot at) (number 1) at

abbrev pub corner : Place → Access
corner at = roll-Access (record { array = 0; subscripts = next at 0 ∷ next at 1 ∷ []; image = None; at = at })

-- `a[i][j] = 4 * i + j;`, `s += a[i+1][j+1];`
abbrev pub fill : Place → Stmt
fill at = stmt.Plain (plain.Set (target.Cell (here at)) None (value_here at))

abbrev pub add : Place → Stmt
add at = stmt.Plain (plain.Set (target.Scalar 2 at) (Some (record { op = op.Add; ty = Int; at = at })) (expr.Cell (corner at)))

-- `reduction(+:s)`
abbrev pub sum_of : Place → List Reduction
sum_of at = record { op = red.Add; variable = record { number = 2; at = at } } ∷ []

-- `printf("%d\n", s);`
abbrev pub show : Place → Plain
show at = plain.Print (37 ∷ 100 ∷ 10 ∷ []) (expr.Scalar 2 at ∷ []) at

abbrev pub statements : Place → List Stmt
statements at =
    stmt.Loop (loop_on at 4 []) (fill at)
    ∷ stmt.Plain (plain.Reflect (record { number = 0; at = at } ∷ []) at)
    ∷ stmt.Loop (loop_on at 3 (sum_of at)) (add at)
    ∷ task_on at 0 (show at)
    ∷ []

abbrev pub corners : Place → ProgParts
corners at = record {
  grid = four_nodes;
  kind = Global;
  scalars = Int ∷ Int ∷ Int ∷ [];
  arrays = record { ty = Int; extents = 4 ∷ 4 ∷ []; home = home.Spread 0 map_of_a } ∷ [];
  templates = blocks_of_four ∷ [];
  functions = [];
  start = [];
  body = stmt.Block (statements at);
}
