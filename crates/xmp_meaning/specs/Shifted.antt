-- A program whose report is computed:
--   int a[8], i, s;
--   #pragma xmp nodes p[3]
--   #pragma xmp template t[8]
--   #pragma xmp distribute t[block] onto p
--   #pragma xmp align a[k] with t[k]
--   int main() {
--   #pragma xmp loop (i) on t[i]
--     for (i = 0; i < 8; i++) a[i] = i;
--   #pragma xmp gmove
--     a[1:7] = a[0:7];
--   #pragma xmp loop (i) on t[i] reduction(+:s)
--     for (i = 0; i < 8; i++) s += a[i];
--   #pragma xmp task on p[0]
--     printf("%d\n", s);
--   }
use Rattle.std.specs.Prelude.{ℕ, false, List, [], ◌∷◌, pos, Some, None}
use Rattle.std.proofs.Common.{refl, lit≤, lit<}
use Rattle.xmp_base.specs.declared.place.Place.{Place}
use Rattle.xmp_num.specs.declared.types.Ty.TheVariants.{Int}
use Rattle.xmp_num.specs.declared.types.BinOp.TheVariants as op
use Rattle.xmp_num.specs.declared.types.RedOp.TheVariants as red
use Rattle.xmp_dist.specs.declared.form.Dist.TheVariants.{Whole, Block}
use Rattle.xmp_map.specs.declared.grid.Grid.{Grid}
use Rattle.xmp_map.specs.declared.spread_dim.SpreadDim.{SpreadDim}
use Rattle.xmp_map.specs.declared.template.Template.{Template}
use Rattle.xmp_map.specs.declared.aligned.AlignedDim.{AlignedDim}
use Rattle.xmp_map.specs.declared.array_map.ArrayMap.{ArrayMap}
use Rattle.xmp_map.specs.RowMajor.{product}
use Rattle.xmp_map.specs.Align.{unused}
use Rattle.xmp_prog.specs.declared.expressions.Expr.TheVariants as expr
use Rattle.xmp_prog.specs.declared.expressions.Access.{Access, roll-Access}
use Rattle.xmp_prog.specs.declared.statements.Name.{Name}
use Rattle.xmp_prog.specs.declared.statements.LoopHead.{LoopHead}
use Rattle.xmp_prog.specs.declared.statements.LoopDirective.{LoopDirective}
use Rattle.xmp_prog.specs.declared.statements.Reduction.{Reduction}
use Rattle.xmp_prog.specs.declared.statements.Point.TheVariants as point
use Rattle.xmp_prog.specs.declared.statements.Part.TheVariants as part
use Rattle.xmp_prog.specs.declared.statements.MoveSide.{MoveSide}
use Rattle.xmp_prog.specs.declared.statements.MoveSide.TheVariants as side
use Rattle.xmp_prog.specs.declared.statements.Plain.{Plain}
use Rattle.xmp_prog.specs.declared.statements.Plain.TheVariants as plain
use Rattle.xmp_prog.specs.declared.statements.Target.TheVariants as target
use Rattle.xmp_prog.specs.declared.statements.Stmt.{Stmt}
use Rattle.xmp_prog.specs.declared.statements.Stmt.TheVariants as stmt
use Rattle.xmp_prog.specs.declared.parts.Home.TheVariants as home
use Rattle.xmp_prog.specs.declared.parts.Kind.TheVariants.{Global}
use Rattle.xmp_prog.specs.declared.parts.ProgParts.{ProgParts}
use Rattle.xmp_meaning.specs.Examples.{number, task_on}

-- ---- the nodes, the template and the map of `a`

unfoldable pub three_nodes : Grid
unfolding product
three_nodes = record { sizes = 3 ∷ 1 ∷ 1 ∷ []; dims = 1; valid = refl; most = lit≤ tt; rest = refl }

-- eight positions in blocks over three nodes; a dimension of one position, undistributed
abbrev pub in_blocks : SpreadDim
in_blocks = record { dim = record { size = 8; nodes = 3; dist = Block; valid = refl }; axis = 0; small = lit< tt }

abbrev pub alone : SpreadDim
alone = record { dim = record { size = 1; nodes = 1; dist = Whole; valid = refl }; axis = 1; small = lit< tt }

unfoldable pub blocks_of_three : Template
unfolding three_nodes
blocks_of_three = record {
  grid = three_nodes;
  spread = in_blocks ∷ alone ∷ alone ∷ [];
  dims = 1;
  most = lit≤ tt;
  rest = refl;
  lies = refl;
  covers = refl;
}

-- `a[k]` with `t[k]`
abbrev pub with_k : AlignedDim
with_k = record { target = record { dim = Some 0; offset = pos 0 }; extent = 8; low = 0; high = 0 }

unfoldable pub map_of_a : ArrayMap
unfolding blocks_of_three product
map_of_a = record {
  template = blocks_of_three;
  aligned = with_k ∷ unused ∷ unused ∷ [];
  dims = 1;
  most = lit≤ tt;
  rest = refl;
  fits = refl;
  extents = refl;
  small = lit≤ tt;
}

-- ---- main; the slots of `i` and `s` are 0 and 1

-- `for (i = 0; i < 8; i++)`
abbrev pub eight_turns : Place → LoopHead
eight_turns at = record {
  index = record { number = 0; at = at };
  «from» = number 0;
  to = number 8;
  inclusive = false;
  step = 1;
  from_at = at;
  to_at = at;
}

-- `loop (i) on t[i]` with these reductions
abbrev pub loop_on : Place → List Reduction → LoopDirective
loop_on at reductions = record {
  template = 0;
  points = point.Index 0 (pos 0) ∷ [];
  nest = eight_turns at ∷ [];
  reductions = reductions;
  at = at;
}

-- `a`, `a[i]`
abbrev pub name_a : Place → Name
name_a at = record { number = 0; at = at }

abbrev pub cell_i : Place → Access
cell_i at = roll-Access (record { array = 0; subscripts = expr.Scalar 0 at ∷ []; image = None; at = at })

-- `a[i] = i;`, `s += a[i];`
abbrev pub fill : Place → Stmt
fill at = stmt.Plain (plain.Set (target.Cell (cell_i at)) None (expr.Scalar 0 at))

abbrev pub add : Place → Stmt
add at = stmt.Plain (plain.Set (target.Scalar 1 at) (Some (record { op = op.Add; ty = Int; at = at })) (expr.Cell (cell_i at)))

-- `reduction(+:s)`
abbrev pub sum_of : Place → List Reduction
sum_of at = record { op = red.Add; variable = record { number = 1; at = at } } ∷ []

-- `a[base:7]`
abbrev pub section_from : Place → ℕ → MoveSide
section_from at base = side.Array (name_a at) (part.Many
    (record { value = number base; at = at }) (record { value = number 7; at = at }) (record { value = number 1; at = at }) ∷ [])

-- `printf("%d\n", s);`
abbrev pub show : Place → Plain
show at = plain.Print (37 ∷ 100 ∷ 10 ∷ []) (expr.Scalar 1 at ∷ []) at

abbrev pub statements : Place → List Stmt
statements at =
    stmt.Loop (loop_on at []) (fill at)
    ∷ stmt.Plain (plain.Gmove (section_from at 1) (section_from at 0) at)
    ∷ stmt.Loop (loop_on at (sum_of at)) (add at)
    ∷ task_on at 0 (show at)
    ∷ []

abbrev pub shifted : Place → ProgParts
shifted at = record {
  grid = three_nodes;
  kind = Global;
  scalars = Int ∷ Int ∷ [];
  arrays = record { ty = Int; extents = 8 ∷ []; home = home.Spread 0 map_of_a } ∷ [];
  templates = blocks_of_three ∷ [];
  functions = [];
  start = [];
  body = stmt.Block (statements at);
}
