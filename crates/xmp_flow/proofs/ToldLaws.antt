-- A statement beside its events is that statement.
use Rattle.std.proofs.Common.{◌≡◌, ◌∙◌, sym, ap, refl, subst, ◌∷◌, [], List, map}
use Rattle.xmp_prog.specs.declared.statements.Stmt.{Stmt, map-Stmt}
use Rattle.xmp_prog.specs.declared.statements.Stmt.TheVariants as stmt
use Rattle.xmp_prog.specs.declared.statements.Task.{Task, map-Task}
use Rattle.xmp_prog.specs.declared.statements.Stmt.TheOpen.{Stmt-F, Task-F}
use Rattle.xmp_prog.specs.declared.statements.Stmt.TheFolds.{ind-Stmt, fold-roll-Stmt, fold-roll-Task}
use Rattle.xmp_prog.specs.declared.statements.Stmt.TheViews.{roll-Stmt, roll-Task}
use Rattle.xmp_flow.specs.Statements.{Told, ToldTask, plain_statement, stmt_step, task_step, told, told_task}

abbrev StmtTold : Stmt → Type 0
StmtTold x = (told x).statement ≡ x

abbrev TaskTold : Task → Type 0
TaskTold t = (told_task t).task ≡ t

module _ {C D : Type 0} (f : C → Stmt) (g : D → Task) (h : (c : C) → StmtTold (f c)) (i : (d : D) → TaskTold (g d)) where
  all_told : (all : List C) → map (λ t. t.statement) (map told (map f all)) ≡ map f all
  all_told [] = refl
  all_told (c ∷ cs) = ap (λ x. x ∷ map (λ t. t.statement) (map told (map f cs))) (h c) ∙ ap (λ l. f c ∷ l) (all_told cs)

  tasks_told : (all : List D) → map (λ t. t.task) (map told_task (map g all)) ≡ map g all
  tasks_told [] = refl
  tasks_told (d ∷ ds) = ap (λ x. x ∷ map (λ t. t.task) (map told_task (map g ds))) (i d) ∙ ap (λ l. g d ∷ l) (tasks_told ds)

  told_form : (y : Stmt-F C D) →
      plain_statement (map-Stmt Stmt Task Told ToldTask told told_task (map-Stmt C D Stmt Task f g y)) ≡ roll-Stmt (map-Stmt C D Stmt Task f g y)
  told_form (Stmt-F.Plain s) = sym (stmt.rolls-Plain s)
  told_form (Stmt-F.Block all) = ap stmt.Block (all_told all) ∙ sym (stmt.rolls-Block (map f all))
  told_form (Stmt-F.If test a b) =
      ap (λ x. stmt.If test x (told (f b)).statement) (h a) ∙ (ap (λ x. stmt.If test (f a) x) (h b) ∙ sym (stmt.rolls-If test (f a) (f b)))
  told_form (Stmt-F.While test body at) = ap (λ x. stmt.While test x at) (h body) ∙ sym (stmt.rolls-While test (f body) at)
  told_form (Stmt-F.Counted head body) = ap (stmt.Counted head) (h body) ∙ sym (stmt.rolls-Counted head (f body))
  told_form (Stmt-F.Loop directive body) = ap (stmt.Loop directive) (h body) ∙ sym (stmt.rolls-Loop directive (f body))
  told_form (Stmt-F.Tasks all at) = ap (λ l. stmt.Tasks l at) (tasks_told all) ∙ sym (stmt.rolls-Tasks (map g all) at)

  told_task_form : (y : Task-F C D) →
      (task_step (map-Task Stmt Task Told ToldTask told told_task (map-Task C D Stmt Task f g y))).task ≡ roll-Task (map-Task C D Stmt Task f g y)
  told_task_form y = ap (λ x. record { nodes = y.nodes; body = x; at = y.at }) (h y.body)

stmt_rolled : (x : Stmt-F Stmt Task) → plain_statement (map-Stmt Stmt Task Told ToldTask told told_task x) ≡ roll-Stmt x → StmtTold (roll-Stmt x)
stmt_rolled x e = ap (λ (t : Told). t.statement) (fold-roll-Stmt Told ToldTask stmt_step task_step x) ∙ e

task_rolled : (x : Task-F Stmt Task) → (task_step (map-Task Stmt Task Told ToldTask told told_task x)).task ≡ roll-Task x → TaskTold (roll-Task x)
task_rolled x e = ap (λ (t : ToldTask). t.task) (fold-roll-Task Told ToldTask stmt_step task_step x) ∙ e

pub statement-told : (x : Stmt) → (told x).statement ≡ x
statement-told = ind-Stmt StmtTold TaskTold
    (λ x y e. subst (λ z. StmtTold (roll-Stmt z)) e (stmt_rolled _ (told_form (λ c. c.0) (λ d. d.0) (λ c. c.1) (λ d. d.1) y)))
    (λ x y e. subst (λ z. TaskTold (roll-Task z)) e (task_rolled _ (told_task_form (λ c. c.0) (λ d. d.0) (λ c. c.1) (λ d. d.1) y)))
