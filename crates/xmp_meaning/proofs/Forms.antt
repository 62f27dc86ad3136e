-- The meaning at each form of expression and of statement.
use Rattle.std.proofs.Common.{◌≡◌, ℕ, ℤ, pos, List, [], map, if◌then◌else◌}
use Rattle.xmp_base.specs.declared.place.Place.{Place}
use Rattle.xmp_num.specs.declared.types.Ty.{Ty}
use Rattle.xmp_num.specs.declared.types.BinOp.{BinOp}
use Rattle.xmp_num.specs.Arithmetic.{binary_of, wrap}
use Rattle.xmp_prog.specs.declared.expressions.Expr.{Expr}
use Rattle.xmp_prog.specs.declared.expressions.Expr.TheVariants as expr
use Rattle.xmp_prog.specs.declared.expressions.Access.{Access}
use Rattle.xmp_prog.specs.declared.statements.LoopHead.{LoopHead}
use Rattle.xmp_prog.specs.declared.statements.LoopDirective.{LoopDirective}
use Rattle.xmp_prog.specs.declared.statements.Plain.{Plain}
use Rattle.xmp_prog.specs.declared.statements.Stmt.{Stmt}
use Rattle.xmp_prog.specs.declared.statements.Stmt.TheVariants as stmt
use Rattle.xmp_prog.specs.declared.statements.Task.{Task}
use Rattle.xmp_prog.specs.declared.statements.Stmt.TheFolds.{fold-Task}
use Rattle.xmp_prog.proofs.Rolls as rolls
use Rattle.xmp_meaning.specs.declared.ends.Flow.{Flow}
use Rattle.xmp_meaning.specs.Runs.{Run, ◌>>=◌, pure, or_trap, scalar}
use Rattle.xmp_meaning.specs.Blocks.{block, choose}
use Rattle.xmp_meaning.specs.Context.{Context}
use Rattle.xmp_meaning.specs.Handlers.{Handlers, TaskRun}
use Rattle.xmp_meaning.specs.Expressions.{Element, each, call, element_of, cell_of, expr_of, expr_step, access_step, holds, is_zero, as_truth}
use Rattle.xmp_meaning.specs.Loops.{while_loop, counted, nest}
use Rattle.xmp_meaning.specs.Statements.{stmt_of, plain_of, stmt_step, task_step}

module _ {X : Type 0} (h : Handlers X) (cx : Context) where
  pub expr_const : (v : ℤ) (ty : Ty) → expr_of h cx (expr.Const v ty) ≡ pure v
  expr_const v ty = rolls.at_const (Run X ℤ) (Element X) (expr_step h cx) (access_step cx) v ty

  pub expr_scalar : (slot : ℕ) (at : Place) → expr_of h cx (expr.Scalar slot at) ≡ scalar slot
  expr_scalar slot at = rolls.at_scalar (Run X ℤ) (Element X) (expr_step h cx) (access_step cx) slot at

  pub expr_cell : (a : Access) → expr_of h cx (expr.Cell a)
      ≡ (cell_of h cx a >>= (λ n. h.get (element_of h cx a).array n))
  expr_cell a = rolls.at_cell (Run X ℤ) (Element X) (expr_step h cx) (access_step cx) a

  pub expr_binary : (o : BinOp) (ty : Ty) (a b : Expr) (at : Place) → expr_of h cx (expr.Binary o ty a b at)
      ≡ (expr_of h cx a >>= (λ x. expr_of h cx b >>= (λ y. or_trap (binary_of o ty x y) at)))
  expr_binary o ty a b at = rolls.at_binary (Run X ℤ) (Element X) (expr_step h cx) (access_step cx) o ty a b at

  pub expr_both : (a b : Expr) → expr_of h cx (expr.Both a b)
      ≡ (expr_of h cx a >>= (λ x. if is_zero x then pure (pos 0) else (expr_of h cx b >>= (λ y. pure (as_truth y)))))
  expr_both a b = rolls.at_both (Run X ℤ) (Element X) (expr_step h cx) (access_step cx) a b

  pub expr_either : (a b : Expr) → expr_of h cx (expr.Either a b)
      ≡ (expr_of h cx a >>= (λ x. if is_zero x then (expr_of h cx b >>= (λ y. pure (as_truth y))) else pure (pos 1)))
  expr_either a b = rolls.at_either (Run X ℤ) (Element X) (expr_step h cx) (access_step cx) a b

  pub expr_choose : (a b c : Expr) → expr_of h cx (expr.Choose a b c)
      ≡ (expr_of h cx a >>= (λ x. if is_zero x then expr_of h cx c else expr_of h cx b))
  expr_choose a b c = rolls.at_choose (Run X ℤ) (Element X) (expr_step h cx) (access_step cx) a b c

  pub expr_convert : (ty : Ty) (a : Expr) → expr_of h cx (expr.Convert ty a) ≡ (expr_of h cx a >>= (λ x. pure (wrap ty x)))
  expr_convert ty a = rolls.at_convert (Run X ℤ) (Element X) (expr_step h cx) (access_step cx) ty a

  pub expr_call : (function : ℕ) (arguments : List Expr) (at : Place) → expr_of h cx (expr.Call function arguments at)
      ≡ (each (map (expr_of h cx) arguments) [] >>= (λ vs. call cx function vs))
  expr_call function arguments at = rolls.at_call (Run X ℤ) (Element X) (expr_step h cx) (access_step cx) function arguments at

  pub stmt_plain : (s : Plain) → stmt_of h cx (stmt.Plain s) ≡ plain_of h cx s
  stmt_plain s = rolls.at_plain (Run X Flow) (TaskRun X) (stmt_step h cx) task_step s

  pub stmt_block : (ss : List Stmt) → stmt_of h cx (stmt.Block ss) ≡ block (map (stmt_of h cx) ss)
  stmt_block ss = rolls.at_block (Run X Flow) (TaskRun X) (stmt_step h cx) task_step ss

  pub stmt_if : (e : Expr) (a b : Stmt) → stmt_of h cx (stmt.If e a b) ≡ (holds (expr_of h cx e) >>= (λ v. choose v (stmt_of h cx a) (stmt_of h cx b)))
  stmt_if e a b = rolls.at_if (Run X Flow) (TaskRun X) (stmt_step h cx) task_step e a b

  pub stmt_while : (e : Expr) (body : Stmt) (at : Place) → stmt_of h cx (stmt.While e body at) ≡ while_loop (holds (expr_of h cx e)) (stmt_of h cx body)
  stmt_while e body at = rolls.at_while (Run X Flow) (TaskRun X) (stmt_step h cx) task_step e body at

  pub stmt_counted : (head : LoopHead) (body : Stmt) → stmt_of h cx (stmt.Counted head body) ≡ counted h cx head (stmt_of h cx body)
  stmt_counted head body = rolls.at_counted (Run X Flow) (TaskRun X) (stmt_step h cx) task_step head body

  pub stmt_loop : (directive : LoopDirective) (body : Stmt)
      → stmt_of h cx (stmt.Loop directive body) ≡ h.loop directive (nest h cx directive.nest) (stmt_of h cx body)
  stmt_loop directive body = rolls.at_loop (Run X Flow) (TaskRun X) (stmt_step h cx) task_step directive body

  pub stmt_tasks : (ts : List Task) (at : Place)
      → stmt_of h cx (stmt.Tasks ts at) ≡ h.tasks (map (fold-Task (Run X Flow) (TaskRun X) (stmt_step h cx) task_step) ts)
  stmt_tasks ts at = rolls.at_tasks (Run X Flow) (TaskRun X) (stmt_step h cx) task_step ts at
