-- What all nodes do at each form of statement.
use Rattle.std.proofs.Common.{◌≡◌, ap, ap₂, ◌∙◌, sym, refl, ℕ, List, [], ◌∷◌, map, Result}
use Rattle.xmp_base.specs.declared.place.Place.{Place}
use Rattle.xmp_prog.specs.declared.expressions.Expr.{Expr}
use Rattle.xmp_prog.specs.declared.parts.ProgParts.{ProgParts}
use Rattle.xmp_prog.specs.declared.statements.LoopDirective.{LoopDirective}
use Rattle.xmp_prog.specs.declared.statements.LoopHead.{LoopHead}
use Rattle.xmp_prog.specs.declared.statements.Plain.{Plain}
use Rattle.xmp_prog.specs.declared.statements.Stmt.{Stmt}
use Rattle.xmp_prog.specs.declared.statements.Stmt.TheOpen.{Stmt-F}
use Rattle.xmp_prog.specs.declared.statements.Stmt.TheFolds.{fold-Task, fold-roll-Stmt, fold-roll-Task}
use Rattle.xmp_prog.specs.declared.statements.Stmt.TheVariants as stmt
use Rattle.xmp_prog.specs.declared.statements.Task.{Task}
use Rattle.xmp_meaning.specs.declared.ends.Flow.{Flow}
use Rattle.xmp_meaning.specs.declared.ends.Flow.TheVariants.{Next}
use Rattle.xmp_meaning.specs.declared.ends.Halt.{Halt}
use Rattle.xmp_meaning.specs.Handlers.{erased}
use Rattle.xmp_meaning.specs.Runs.{Does}
use Rattle.xmp_meaning.specs.Blocks.{block}
use Rattle.xmp_meaning.specs.Statements.{plain_of, stmt_of}
use Rattle.xmp_meaning.specs.Traffic.{node_context}
use Rattle.xmp_nodes.specs.Nodes.{Nodes, all_do}
use Rattle.xmp_nodes.specs.Parts.{loop_all}
use Rattle.xmp_nodes.specs.Tasks.{TaskOf, tasks_all}
use Rattle.xmp_nodes.specs.Lockstep.{Both, both_step, task_both, lockstep, plain_all, while_all}
use Rattle.xmp_nodes.proofs.SameRuns.{alone_is_erased}
use Rattle.xmp_tasks.specs.OfText.{task_of, tasks_of}
use Rattle.xmp_spmd.proofs.Turning.{done}
use Rattle.xmp_spmd.specs.Steps.{all_of, all_hold, counted_all}

module _ (p : ProgParts) (input : List ℕ) where
  rolled : (x : Stmt-F Both TaskOf) (s : Stmt) → lockstep p input s ≡ both_step p input x → all_of p input s ≡ (both_step p input x).all
  rolled x s e = ap (λ (b : Both). b.all) e

  each_all : (ss : List Stmt) → map (λ (b : Both). b.all) (map (lockstep p input) ss) ≡ map (all_of p input) ss
  each_all [] = refl
  each_all (s ∷ ss) = ap (λ xs. all_of p input s ∷ xs) (each_all ss)

  pub block_all : (ss : List Stmt) → all_of p input (stmt.Block ss) ≡ block (map (all_of p input) ss)
  block_all ss =
      ap (λ s. all_of p input s) (sym (stmt.rolls-Block ss))
      ∙ (ap (λ (b : Both). b.all) (fold-roll-Stmt Both TaskOf (both_step p input) task_both (Stmt-F.Block ss))
      ∙ ap block (each_all ss))

  abbrev folded_task : Task → TaskOf
  folded_task t = fold-Task Both TaskOf (both_step p input) task_both t

  a_task : (t : Task) → folded_task t ≡ task_of p input t
  a_task t =
      fold-roll-Task Both TaskOf (both_step p input) task_both (record { nodes = t.nodes; body = t.body; at = t.at })
      ∙ λ i. record { nodes = t.nodes; at = λ node. alone_is_erased p input t.body node i; place = t.at }

  all_tasks : (ts : List Task) → map folded_task ts ≡ tasks_of p input ts
  all_tasks [] = refl
  all_tasks (t ∷ ts) = ap₂ (λ x xs. x ∷ xs) (a_task t) (all_tasks ts)

  pub tasks_are : (ts : List Task) (at : Place) → all_of p input (stmt.Tasks ts at) ≡ tasks_all p (tasks_of p input ts)
  tasks_are ts at =
      ap (λ s. all_of p input s) (sym (stmt.rolls-Tasks ts at))
      ∙ (ap (λ (b : Both). b.all) (fold-roll-Stmt Both TaskOf (both_step p input) task_both (Stmt-F.Tasks ts at))
      ∙ ap (tasks_all p) (all_tasks ts))

  pub loop_is : (d : LoopDirective) (body : Stmt) → all_of p input (stmt.Loop d body) ≡ loop_all p d (λ node. stmt_of erased (node_context p node input) body)
  loop_is d body =
      ap (λ s. all_of p input s) (sym (stmt.rolls-Loop d body))
      ∙ (ap (λ (b : Both). b.all) (fold-roll-Stmt Both TaskOf (both_step p input) task_both (Stmt-F.Loop d body))
      ∙ λ i. loop_all p d (λ node. alone_is_erased p input body node i))

  pub while_is : (e : Expr) (body : Stmt) (at : Place) → all_of p input (stmt.While e body at) ≡ while_all (all_hold p input e) (all_of p input body)
  while_is e body at =
      ap (λ s. all_of p input s) (sym (stmt.rolls-While e body at))
      ∙ ap (λ (b : Both). b.all) (fold-roll-Stmt Both TaskOf (both_step p input) task_both (Stmt-F.While e body at))

  pub counted_is : (head : LoopHead) (body : Stmt) → all_of p input (stmt.Counted head body) ≡ counted_all p input head body
  counted_is head body =
      ap (λ s. all_of p input s) (sym (stmt.rolls-Counted head body))
      ∙ ap (λ (b : Both). b.all) (fold-roll-Stmt Both TaskOf (both_step p input) task_both (Stmt-F.Counted head body))

  -- a statement that every node does by itself
  pub by_itself : (q s : Plain) (w : Nodes) (r : Result Flow Halt) (new : Nodes) → s ≡ q
      → plain_all p input q w ≡ all_do Next (λ node. plain_of erased (node_context p node input) q) w
      → Does (all_do Next (λ node. plain_of erased (node_context p node input) s) w) r new → Does (plain_all p input s w) r new
  by_itself q s w r new e same h =
      done (plain_all p input s w) (all_do Next (λ node. plain_of erased (node_context p node input) s) w) r new
      (ap (λ x. plain_all p input x w) e ∙ (same ∙ ap (λ x. all_do Next (λ node. plain_of erased (node_context p node input) x) w) (sym e))) h
