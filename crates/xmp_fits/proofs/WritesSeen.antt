-- The two ways to ask whether a statement writes a scalar say the same: by a test, and by the list of the scalars that it writes.
use Rattle.std.proofs.Common.{◌≡◌, ◌∙◌, sym, ap, refl, subst, ◌++◌, ◌∷◌, [], ◌||◌, ℕ, Bool, true, false, List, map}
use Rattle.std.specs.List.{list_any, flat_map}
use Rattle.std.proofs.lemmas.List.Folds.{list_any-append}
use Rattle.xmp_prog.specs.declared.statements.LoopHead.{LoopHead}
use Rattle.xmp_prog.specs.declared.statements.MoveSide.TheVariants as side
use Rattle.xmp_prog.specs.declared.statements.Plain.{Plain}
use Rattle.xmp_prog.specs.declared.statements.Plain.TheVariants as plain
use Rattle.xmp_prog.specs.declared.statements.Target.{Target}
use Rattle.xmp_prog.specs.declared.statements.Target.TheVariants as target
use Rattle.xmp_prog.specs.declared.statements.MoveSide.{MoveSide}
use Rattle.xmp_prog.specs.declared.statements.Stmt.{Stmt, map-Stmt}
use Rattle.xmp_prog.specs.declared.statements.Task.{Task, map-Task}
use Rattle.xmp_prog.specs.declared.statements.Stmt.TheOpen.{Stmt-F, Task-F}
use Rattle.xmp_prog.specs.declared.statements.Stmt.TheFolds.{ind-Stmt, fold-Task, fold-roll-Stmt, fold-roll-Task}
use Rattle.xmp_prog.specs.declared.statements.Stmt.TheViews.{roll-Stmt, roll-Task}
use Rattle.xmp_prog.specs.Statements as made
use Rattle.xmp_prog.specs.Statements.{Walked, WalkedTask, indices_of, walk_step, walk_task, walked, writes_of, writes_walked}
use Rattle.xmp_walk.specs.Counted.{any, plain_writes, side_writes, target_writes, task_writes, task_writes_any, writes_any, writes_step}

or_false : (b : Bool) → b ≡ (b || false)
or_false true = refl
or_false false = refl

abbrev walked_task : Task → WalkedTask
walked_task = fold-Task Walked WalkedTask walk_step walk_task

module _ (is : ℕ → Bool) where
  target_seen : (t : Target) → target_writes is t ≡ list_any is (made.slots_of_target t)
  target_seen (target.Scalar slot at) = or_false (is slot)
  target_seen (target.Cell a) = refl

  side_seen : (s : MoveSide) → side_writes is s ≡ list_any is (made.slots_of_side s)
  side_seen (side.Scalar n) = or_false (is n.number)
  side_seen (side.Array n parts) = refl

  plain_seen : (s : Plain) → plain_writes is s ≡ list_any is (made.plain_writes s)
  plain_seen (plain.Declare slot value at) = or_false (is slot)
  plain_seen (plain.Set t compound value) = target_seen t
  plain_seen (plain.Return value) = refl
  plain_seen (plain.Call function arguments at) = refl
  plain_seen (plain.Print format arguments at) = refl
  plain_seen (plain.Scan t at) = target_seen t
  plain_seen (plain.Sync status at) = or_false (is status.number)
  plain_seen (plain.Reflect arrays at) = refl
  plain_seen (plain.Barrier at) = refl
  plain_seen (plain.Cast variables from at) = refl
  plain_seen (plain.Gmove t source at) = side_seen t

  nest_seen : (nest : List LoopHead) → list_any (λ h. is h.index.number) nest ≡ list_any is (indices_of nest)
  nest_seen [] = refl
  nest_seen (h ∷ hs) = ap (λ b. is h.index.number || b) (nest_seen hs)

  abbrev StmtSeen : Stmt → Type 0
  StmtSeen s = writes_any is s ≡ list_any is (writes_of s)

  abbrev TaskSeen : Task → Type 0
  TaskSeen t = task_writes_any is t ≡ list_any is (walked_task t).writes

  both_seen : (a b : Bool) (xs ys : List ℕ) → a ≡ list_any is xs → b ≡ list_any is ys → (a || b) ≡ list_any is (xs ++ ys)
  both_seen a b xs ys h k = ap (λ x. x || b) h ∙ (ap (λ x. list_any is xs || x) k ∙ sym (list_any-append is xs ys))

  module _ {C D : Type 0} (p : C → Stmt) (q : D → Task) (h : (c : C) → StmtSeen (p c)) (i : (d : D) → TaskSeen (q d)) where
    all_seen : (all : List C) → any (map (writes_any is) (map p all)) ≡ list_any is (flat_map (λ s. s.writes) (map walked (map p all)))
    all_seen [] = refl
    all_seen (c ∷ cs) = both_seen (writes_any is (p c)) _ (writes_of (p c)) _ (h c) (all_seen cs)

    tasks_seen : (all : List D) → any (map (task_writes_any is) (map q all)) ≡ list_any is (flat_map (λ t. t.writes) (map walked_task (map q all)))
    tasks_seen [] = refl
    tasks_seen (d ∷ ds) = both_seen (task_writes_any is (q d)) _ (walked_task (q d)).writes _ (i d) (tasks_seen ds)

    abbrev tested : Stmt-F C D → Bool
    tested y = writes_step is (map-Stmt Stmt Task Bool Bool (writes_any is) (task_writes_any is) (map-Stmt C D Stmt Task p q y))

    abbrev listed : Stmt-F C D → List ℕ
    listed y = writes_walked (map-Stmt Stmt Task Walked WalkedTask walked walked_task (map-Stmt C D Stmt Task p q y))

    step_seen : (y : Stmt-F C D) → tested y ≡ list_any is (listed y)
    step_seen (Stmt-F.Plain s) = plain_seen s
    step_seen (Stmt-F.Block all) = all_seen all
    step_seen (Stmt-F.If test a b) = both_seen (writes_any is (p a)) (writes_any is (p b)) (writes_of (p a)) (writes_of (p b)) (h a) (h b)
    step_seen (Stmt-F.While test body at) = h body
    step_seen (Stmt-F.Counted head body) = ap (λ b. is head.index.number || b) (h body)
    step_seen (Stmt-F.Loop directive body) = both_seen _ (writes_any is (p body)) (indices_of directive.nest) (writes_of (p body)) (nest_seen directive.nest) (h body)
    step_seen (Stmt-F.Tasks all at) = tasks_seen all

    task_seen : (y : Task-F C D) → task_writes is (map-Task Stmt Task Bool Bool (writes_any is) (task_writes_any is) (map-Task C D Stmt Task p q y))
        ≡ list_any is (walk_task (map-Task Stmt Task Walked WalkedTask walked walked_task (map-Task C D Stmt Task p q y))).writes
    task_seen y = h y.body

  rolled : (x : Stmt-F Stmt Task) → writes_step is (map-Stmt Stmt Task Bool Bool (writes_any is) (task_writes_any is) x) ≡ list_any is (writes_walked (map-Stmt Stmt Task Walked WalkedTask walked walked_task x)) → StmtSeen (roll-Stmt x)
  rolled x e =
      fold-roll-Stmt Bool Bool (writes_step is) (task_writes is) x
      ∙ (e ∙ ap (λ (w : Walked). list_any is w.writes) (sym (fold-roll-Stmt Walked WalkedTask walk_step walk_task x)))

  task_rolled : (x : Task-F Stmt Task) → task_writes is (map-Task Stmt Task Bool Bool (writes_any is) (task_writes_any is) x) ≡ list_any is (walk_task (map-Task Stmt Task Walked WalkedTask walked walked_task x)).writes → TaskSeen (roll-Task x)
  task_rolled x e =
      fold-roll-Task Bool Bool (writes_step is) (task_writes is) x
      ∙ (e ∙ ap (λ (w : WalkedTask). list_any is w.writes) (sym (fold-roll-Task Walked WalkedTask walk_step walk_task x)))

  pub writes_seen : (s : Stmt) → writes_any is s ≡ list_any is (writes_of s)
  writes_seen = ind-Stmt StmtSeen TaskSeen
      (λ x y e. subst (λ z. StmtSeen (roll-Stmt z)) e (rolled _ (step_seen (λ c. c.0) (λ d. d.0) (λ c. c.1) (λ d. d.1) y)))
      (λ x y e. subst (λ z. TaskSeen (roll-Task z)) e (task_rolled _ (task_seen (λ c. c.0) (λ d. d.0) (λ c. c.1) (λ d. d.1) y)))
