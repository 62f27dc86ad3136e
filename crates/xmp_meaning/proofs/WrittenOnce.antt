-- The scalars that a statement writes are those by which the parts of a program are judged.
use Rattle.std.proofs.Common.{◌≡◌, ◌++◌, ℕ, List, [], ◌∷◌, map, refl, sym, ap, ◌∙◌, subst}
use Rattle.std.specs.List.{concat, flat_map}
use Rattle.xmp_prog.specs.declared.statements.Stmt.{Stmt, map-Stmt}
use Rattle.xmp_prog.specs.declared.statements.Task.{Task}
use Rattle.xmp_prog.specs.declared.statements.Stmt.TheOpen.{Stmt-F, Task-F}
use Rattle.xmp_prog.specs.declared.statements.Stmt.TheFolds.{ind-Stmt, fold-Task, fold-roll-Stmt, fold-roll-Task}
use Rattle.xmp_prog.specs.declared.statements.Stmt.TheViews.{roll-Stmt, roll-Task}
use Rattle.xmp_prog.specs.Statements.{indices_of, Walked, WalkedTask, walk_step, walk_task, walked}
use Rattle.xmp_meaning.specs.Writes.{scalars_step, written_in_task, scalars_written}
use Rattle.xmp_meaning.specs.Laws.{WritesAreOne}

abbrev task_scalars : Task → List ℕ
task_scalars = fold-Task (List ℕ) (List ℕ) scalars_step written_in_task

abbrev task_walked : Task → WalkedTask
task_walked = fold-Task Walked WalkedTask walk_step walk_task

abbrev TaskOne : Task → Type 0
TaskOne t = task_scalars t ≡ (task_walked t).writes

module _ {C D : Type 0} (p : C → Stmt) (q : D → Task) (h : (c : C) → WritesAreOne (p c)) (i : (d : D) → TaskOne (q d)) where
  blocks : (cs : List C) → concat (map scalars_written (map p cs)) ≡ flat_map (λ s. s.writes) (map walked (map p cs))
  blocks [] = refl
  blocks (c ∷ cs) = ap (λ xs. xs ++ concat (map scalars_written (map p cs))) (h c) ∙ ap (λ xs. (walked (p c)).writes ++ xs) (blocks cs)

  tasks : (ds : List D) → concat (map task_scalars (map q ds)) ≡ flat_map (λ t. t.writes) (map task_walked (map q ds))
  tasks [] = refl
  tasks (d ∷ ds) = ap (λ xs. xs ++ concat (map task_scalars (map q ds))) (i d) ∙ ap (λ xs. (task_walked (q d)).writes ++ xs) (tasks ds)

  at_stmt : (y : Stmt-F C D) → scalars_step (map-Stmt Stmt Task (List ℕ) (List ℕ) scalars_written task_scalars (map-Stmt C D Stmt Task p q y))
      ≡ (walk_step (map-Stmt Stmt Task Walked WalkedTask walked task_walked (map-Stmt C D Stmt Task p q y))).writes
  at_stmt (Stmt-F.Plain s) = refl
  at_stmt (Stmt-F.Block all) = blocks all
  at_stmt (Stmt-F.If test a b) = ap (λ xs. xs ++ scalars_written (p b)) (h a) ∙ ap (λ xs. (walked (p a)).writes ++ xs) (h b)
  at_stmt (Stmt-F.While test body at) = h body
  at_stmt (Stmt-F.Counted head body) = ap (λ xs. head.index.number ∷ xs) (h body)
  at_stmt (Stmt-F.Loop directive body) = ap (λ xs. indices_of directive.nest ++ xs) (h body)
  at_stmt (Stmt-F.Tasks all at) = tasks all

rolled : (x : Stmt-F Stmt Task)
    → scalars_step (map-Stmt Stmt Task (List ℕ) (List ℕ) scalars_written task_scalars x) ≡ (walk_step (map-Stmt Stmt Task Walked WalkedTask walked task_walked x)).writes
    → WritesAreOne (roll-Stmt x)
rolled x e = fold-roll-Stmt (List ℕ) (List ℕ) scalars_step written_in_task x ∙ e ∙ sym (ap (λ w. w.writes) (fold-roll-Stmt Walked WalkedTask walk_step walk_task x))

task_rolled : (x : Task-F Stmt Task) → WritesAreOne x.body → TaskOne (roll-Task x)
task_rolled x e = fold-roll-Task (List ℕ) (List ℕ) scalars_step written_in_task x ∙ e ∙ sym (ap (λ w. w.writes) (fold-roll-Task Walked WalkedTask walk_step walk_task x))

pub writes_are_one : (s : Stmt) → WritesAreOne s
writes_are_one = ind-Stmt WritesAreOne TaskOne
    (λ x y is. subst (λ z. WritesAreOne (roll-Stmt z)) is (rolled _ (at_stmt (λ c. c.0) (λ c. c.0) (λ c. c.1) (λ c. c.1) y)))
    (λ x y is. subst (λ z. TaskOne (roll-Task z)) is (task_rolled _ (y.body.1)))
