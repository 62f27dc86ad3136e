-- What a fold gives at each form of expression and of statement.
use Rattle.std.proofs.Common.{◌≡◌, ℕ, List, map, ap, sym, ◌∙◌}
use Rattle.std.specs.Prelude.{ℤ}
use Rattle.xmp_base.specs.declared.place.Place.{Place}
use Rattle.xmp_num.specs.declared.types.Ty.{Ty}
use Rattle.xmp_num.specs.declared.types.BinOp.{BinOp}
use Rattle.xmp_prog.specs.declared.expressions.Expr.{Expr, fold-roll-Expr}
use Rattle.xmp_prog.specs.declared.expressions.Expr.TheVariants as expr
use Rattle.xmp_prog.specs.declared.expressions.Expr.TheOpen.{Expr-F, Access-F}
use Rattle.xmp_prog.specs.declared.expressions.Expr.TheFolds.{fold-Expr, fold-Access}
use Rattle.xmp_prog.specs.declared.expressions.Access.{Access}
use Rattle.xmp_prog.specs.declared.statements.LoopHead.{LoopHead}
use Rattle.xmp_prog.specs.declared.statements.LoopDirective.{LoopDirective}
use Rattle.xmp_prog.specs.declared.statements.Plain.{Plain}
use Rattle.xmp_prog.specs.declared.statements.Stmt.{Stmt, fold-roll-Stmt}
use Rattle.xmp_prog.specs.declared.statements.Stmt.TheVariants as stmt
use Rattle.xmp_prog.specs.declared.statements.Stmt.TheOpen.{Stmt-F, Task-F}
use Rattle.xmp_prog.specs.declared.statements.Stmt.TheFolds.{fold-Stmt, fold-Task}
use Rattle.xmp_prog.specs.declared.statements.Task.{Task}

-- ---- expressions

pub at_const : (A B : Type 0) (f : Expr-F A B → A) (g : Access-F A B → B) (v : ℤ) (ty : Ty) → fold-Expr A B f g (expr.Const v ty) ≡ f (Expr-F.Const v ty)
at_const A B f g v ty = ap (fold-Expr A B f g) (sym (expr.rolls-Const v ty)) ∙ fold-roll-Expr A B f g (Expr-F.Const v ty)

pub at_scalar : (A B : Type 0) (f : Expr-F A B → A) (g : Access-F A B → B) (slot : ℕ) (at : Place) → fold-Expr A B f g (expr.Scalar slot at) ≡ f (Expr-F.Scalar slot at)
at_scalar A B f g slot at = ap (fold-Expr A B f g) (sym (expr.rolls-Scalar slot at)) ∙ fold-roll-Expr A B f g (Expr-F.Scalar slot at)

pub at_cell : (A B : Type 0) (f : Expr-F A B → A) (g : Access-F A B → B) (a : Access) → fold-Expr A B f g (expr.Cell a) ≡ f (Expr-F.Cell (fold-Access A B f g a))
at_cell A B f g a = ap (fold-Expr A B f g) (sym (expr.rolls-Cell a)) ∙ fold-roll-Expr A B f g (Expr-F.Cell a)

pub at_binary : (A B : Type 0) (f : Expr-F A B → A) (g : Access-F A B → B) (op : BinOp) (ty : Ty) (a b : Expr) (at : Place) → fold-Expr A B f g (expr.Binary op ty a b at) ≡ f (Expr-F.Binary op ty (fold-Expr A B f g a) (fold-Expr A B f g b) at)
at_binary A B f g op ty a b at = ap (fold-Expr A B f g) (sym (expr.rolls-Binary op ty a b at)) ∙ fold-roll-Expr A B f g (Expr-F.Binary op ty a b at)

pub at_both : (A B : Type 0) (f : Expr-F A B → A) (g : Access-F A B → B) (a b : Expr) → fold-Expr A B f g (expr.Both a b) ≡ f (Expr-F.Both (fold-Expr A B f g a) (fold-Expr A B f g b))
at_both A B f g a b = ap (fold-Expr A B f g) (sym (expr.rolls-Both a b)) ∙ fold-roll-Expr A B f g (Expr-F.Both a b)

pub at_either : (A B : Type 0) (f : Expr-F A B → A) (g : Access-F A B → B) (a b : Expr) → fold-Expr A B f g (expr.Either a b) ≡ f (Expr-F.Either (fold-Expr A B f g a) (fold-Expr A B f g b))
at_either A B f g a b = ap (fold-Expr A B f g) (sym (expr.rolls-Either a b)) ∙ fold-roll-Expr A B f g (Expr-F.Either a b)

pub at_choose : (A B : Type 0) (f : Expr-F A B → A) (g : Access-F A B → B) (a b c : Expr) → fold-Expr A B f g (expr.Choose a b c) ≡ f (Expr-F.Choose (fold-Expr A B f g a) (fold-Expr A B f g b) (fold-Expr A B f g c))
at_choose A B f g a b c = ap (fold-Expr A B f g) (sym (expr.rolls-Choose a b c)) ∙ fold-roll-Expr A B f g (Expr-F.Choose a b c)

pub at_convert : (A B : Type 0) (f : Expr-F A B → A) (g : Access-F A B → B) (ty : Ty) (a : Expr) → fold-Expr A B f g (expr.Convert ty a) ≡ f (Expr-F.Convert ty (fold-Expr A B f g a))
at_convert A B f g ty a = ap (fold-Expr A B f g) (sym (expr.rolls-Convert ty a)) ∙ fold-roll-Expr A B f g (Expr-F.Convert ty a)

pub at_call : (A B : Type 0) (f : Expr-F A B → A) (g : Access-F A B → B) (function : ℕ) (arguments : List Expr) (at : Place) → fold-Expr A B f g (expr.Call function arguments at) ≡ f (Expr-F.Call function (map (fold-Expr A B f g) arguments) at)
at_call A B f g function arguments at = ap (fold-Expr A B f g) (sym (expr.rolls-Call function arguments at)) ∙ fold-roll-Expr A B f g (Expr-F.Call function arguments at)

pub at_node : (A B : Type 0) (f : Expr-F A B → A) (g : Access-F A B → B) → fold-Expr A B f g expr.Node ≡ f Expr-F.Node
at_node A B f g = ap (fold-Expr A B f g) (sym expr.rolls-Node) ∙ fold-roll-Expr A B f g Expr-F.Node

pub at_nodes : (A B : Type 0) (f : Expr-F A B → A) (g : Access-F A B → B) → fold-Expr A B f g expr.Nodes ≡ f Expr-F.Nodes
at_nodes A B f g = ap (fold-Expr A B f g) (sym expr.rolls-Nodes) ∙ fold-roll-Expr A B f g Expr-F.Nodes

-- ---- statements

pub at_plain : (A B : Type 0) (f : Stmt-F A B → A) (g : Task-F A B → B) (s : Plain) → fold-Stmt A B f g (stmt.Plain s) ≡ f (Stmt-F.Plain s)
at_plain A B f g s = ap (fold-Stmt A B f g) (sym (stmt.rolls-Plain s)) ∙ fold-roll-Stmt A B f g (Stmt-F.Plain s)

pub at_block : (A B : Type 0) (f : Stmt-F A B → A) (g : Task-F A B → B) (ss : List Stmt) → fold-Stmt A B f g (stmt.Block ss) ≡ f (Stmt-F.Block (map (fold-Stmt A B f g) ss))
at_block A B f g ss = ap (fold-Stmt A B f g) (sym (stmt.rolls-Block ss)) ∙ fold-roll-Stmt A B f g (Stmt-F.Block ss)

pub at_if : (A B : Type 0) (f : Stmt-F A B → A) (g : Task-F A B → B) (e : Expr) (a b : Stmt) → fold-Stmt A B f g (stmt.If e a b) ≡ f (Stmt-F.If e (fold-Stmt A B f g a) (fold-Stmt A B f g b))
at_if A B f g e a b = ap (fold-Stmt A B f g) (sym (stmt.rolls-If e a b)) ∙ fold-roll-Stmt A B f g (Stmt-F.If e a b)

pub at_while : (A B : Type 0) (f : Stmt-F A B → A) (g : Task-F A B → B) (e : Expr) (body : Stmt) (at : Place) → fold-Stmt A B f g (stmt.While e body at) ≡ f (Stmt-F.While e (fold-Stmt A B f g body) at)
at_while A B f g e body at = ap (fold-Stmt A B f g) (sym (stmt.rolls-While e body at)) ∙ fold-roll-Stmt A B f g (Stmt-F.While e body at)

pub at_counted : (A B : Type 0) (f : Stmt-F A B → A) (g : Task-F A B → B) (head : LoopHead) (body : Stmt) → fold-Stmt A B f g (stmt.Counted head body) ≡ f (Stmt-F.Counted head (fold-Stmt A B f g body))
at_counted A B f g head body = ap (fold-Stmt A B f g) (sym (stmt.rolls-Counted head body)) ∙ fold-roll-Stmt A B f g (Stmt-F.Counted head body)

pub at_loop : (A B : Type 0) (f : Stmt-F A B → A) (g : Task-F A B → B) (d : LoopDirective) (body : Stmt) → fold-Stmt A B f g (stmt.Loop d body) ≡ f (Stmt-F.Loop d (fold-Stmt A B f g body))
at_loop A B f g d body = ap (fold-Stmt A B f g) (sym (stmt.rolls-Loop d body)) ∙ fold-roll-Stmt A B f g (Stmt-F.Loop d body)

pub at_tasks : (A B : Type 0) (f : Stmt-F A B → A) (g : Task-F A B → B) (ts : List Task) (at : Place) → fold-Stmt A B f g (stmt.Tasks ts at) ≡ f (Stmt-F.Tasks (map (fold-Task A B f g) ts) at)
at_tasks A B f g ts at = ap (fold-Stmt A B f g) (sym (stmt.rolls-Tasks ts at)) ∙ fold-roll-Stmt A B f g (Stmt-F.Tasks ts at)
