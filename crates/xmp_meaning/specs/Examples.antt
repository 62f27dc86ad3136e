-- Small programs, and what they come to.
use Rattle.std.specs.Prelude.{ℕ, List, [], ◌∷◌, pos, Some, None}
use Rattle.xmp_base.specs.declared.place.Place.{Place}
use Rattle.xmp_num.specs.declared.types.Ty.TheVariants.{Int}
use Rattle.xmp_num.specs.declared.types.BinOp.TheVariants as op
use Rattle.xmp_map.specs.declared.grid.Grid.{Grid}
use Rattle.xmp_map.specs.RowMajor.{product}
use Rattle.xmp_map.specs.declared.grid.NodeSet.{NodeSet}
use Rattle.std.proofs.Common.{refl, lit≤}
use Rattle.xmp_prog.specs.declared.statements.Plain.{Plain}
use Rattle.xmp_prog.specs.declared.statements.Task.{roll-Task}
use Rattle.xmp_prog.specs.declared.expressions.Expr.{Expr}
use Rattle.xmp_prog.specs.declared.expressions.Expr.TheVariants as expr
use Rattle.xmp_prog.specs.declared.statements.Stmt.{Stmt}
use Rattle.xmp_prog.specs.declared.statements.Stmt.TheVariants as stmt
use Rattle.xmp_prog.specs.declared.statements.Plain.TheVariants as plain
use Rattle.xmp_prog.specs.declared.statements.Target.TheVariants as target
use Rattle.xmp_prog.specs.declared.expressions.Access.{roll-Access}
use Rattle.xmp_prog.specs.declared.parts.Array.{Array}
use Rattle.xmp_prog.specs.declared.parts.Home.TheVariants as home
use Rattle.xmp_prog.specs.declared.parts.Kind.TheVariants.{Global, Coarray}
use Rattle.xmp_prog.specs.declared.parts.ProgParts.{ProgParts}
use Rattle.xmp_meaning.specs.Phases.{Memory}

-- a program over scalars alone
abbrev pub over_scalars : Grid → List Stmt → ProgParts
over_scalars grid body = record {
  grid = grid;
  kind = Global;
  scalars = Int ∷ [];
  arrays = [];
  templates = [];
  functions = [];
  start = [];
  body = stmt.Block body;
}

-- a constant
abbrev pub number : ℕ → Expr
number n = expr.Const (pos n) Int

-- `i < 10`
abbrev pub below_ten : Place → Expr
below_ten at = expr.Binary op.Less Int (expr.Scalar 0 at) (number 10) at

-- `i++;`
abbrev pub increment : Place → Stmt
increment at = stmt.Plain (plain.Set (target.Scalar 0 at) (Some (record { op = op.Add; ty = Int; at = at })) (number 1))

-- `printf("%d\n", i);`
abbrev pub print_i : Place → Stmt
print_i at = stmt.Plain (plain.Print (37 ∷ 100 ∷ 10 ∷ []) (expr.Scalar 0 at ∷ []) at)

-- `int i; int main() { while (i < 10) i++; printf("%d\n", i); }`
abbrev pub ten_turns : Grid → Place → ProgParts
ten_turns grid at = over_scalars grid (stmt.While (below_ten at) (increment at) at ∷ print_i at ∷ [])

-- ---- a program over two nodes

-- two nodes in a row
unfoldable pub two_nodes : Grid
unfolding product
two_nodes = record { sizes = 2 ∷ 1 ∷ 1 ∷ []; dims = 1; valid = refl; most = lit≤ tt; rest = refl }

-- the first node, and the second
abbrev pub node_set : ℕ → NodeSet
node_set node = record { first = node ∷ 0 ∷ 0 ∷ []; many = 1 ∷ 1 ∷ 1 ∷ [] }

-- a task of one node, alone
abbrev pub task_on : Place → ℕ → Plain → Stmt
task_on at node s = stmt.Tasks (roll-Task (record { nodes = node_set node; body = stmt.Plain s; at = at }) ∷ []) at

-- `scanf("%d", &n);`, `printf("%d\n", n);`
abbrev pub scan_n : Place → Plain
scan_n at = plain.Scan (target.Scalar 0 at) at

abbrev pub print_n : Place → Plain
print_n at = plain.Print (37 ∷ 100 ∷ 10 ∷ []) (expr.Scalar 0 at ∷ []) at

-- `bcast (n) from p[0]`
abbrev pub cast_n : Place → Plain
cast_n at = plain.Cast (record { number = 0; at = at } ∷ []) (node_set 0) at

-- Over the nodes `p[2]`: a task on `p[0]` reads a number, it is cast from `p[0]`, and a task on `p[1]` prints it.
abbrev pub read_and_print : Place → ProgParts
read_and_print at = over_scalars two_nodes (task_on at 0 (scan_n at) ∷ stmt.Plain (cast_n at) ∷ task_on at 1 (print_n at) ∷ [])

-- ---- a coarray program over two nodes

-- `int x[1]:[*];`
abbrev pub one_cell : Array
one_cell = record { ty = Int; extents = 1 ∷ []; home = home.Image }

-- `x[0]:[(xmp_node_num() + 1) % 2] = xmp_node_num();`
abbrev pub next_image : Place → Expr
next_image at = expr.Binary op.Rem Int (expr.Binary op.Add Int expr.Node (number 1) at) (number 2) at

abbrev pub put_next : Place → Stmt
put_next at = stmt.Plain (plain.Set (target.Cell (roll-Access (record { array = 0; subscripts = number 0 ∷ []; image = Some (next_image at); at = at }))) None expr.Node)

-- `xmp_sync_all(&st);`
abbrev pub sync_st : Place → Stmt
sync_st at = stmt.Plain (plain.Sync (record { number = 0; at = at }) at)

-- `st = x[0];`
abbrev pub get_own : Place → Stmt
get_own at = stmt.Plain (plain.Set (target.Scalar 0 at) None (expr.Cell (roll-Access (record { array = 0; subscripts = number 0 ∷ []; image = None; at = at }))))

-- the three one behind the other
abbrev pub put_and_get : Place → ProgParts
put_and_get at = record {
  grid = two_nodes;
  kind = Coarray;
  scalars = Int ∷ [];
  arrays = one_cell ∷ [];
  templates = [];
  functions = [];
  start = [];
  body = stmt.Block (put_next at ∷ sync_st at ∷ get_own at ∷ []);
}

-- the memory behind its first phase, which the second begins with: the cells of both images
abbrev pub after_first : List Memory
after_first = ((pos 1 ∷ pos 0 ∷ []) ∷ []) ∷ []
