-- What may stand everywhere in a statement is so of all scalars that it names.
use Rattle.std.proofs.Common.{◌≡◌, ◌∙◌, sym, ap, refl, subst, ◌++◌, ◌∷◌, [], ℕ, Bool, true, List, map}
use Rattle.std.specs.List.{list_all, flat_map}
use Rattle.std.proofs.lemmas.Grind.{flat_map-append}
use Rattle.std.proofs.lemmas.List.Folds.{list_all-append}
use Rattle.xmp_prog.specs.declared.statements.Stmt.{Stmt, map-Stmt}
use Rattle.xmp_prog.specs.declared.statements.Task.{Task, map-Task}
use Rattle.xmp_prog.specs.declared.statements.Stmt.TheOpen.{Stmt-F, Task-F}
use Rattle.xmp_prog.specs.declared.statements.Stmt.TheFolds.{ind-Stmt, fold-Task, fold-roll-Stmt, fold-roll-Task}
use Rattle.xmp_prog.specs.declared.statements.Stmt.TheViews.{roll-Stmt, roll-Task}
use Rattle.xmp_prog.specs.declared.parts.ProgParts.{ProgParts}
use Rattle.xmp_prog.specs.Statements.{Statement, Walked, WalkedTask, walk_step, walk_task, walked, statement_of, statements_of, statements_below, slots_in, slots_of_stmt}
use Rattle.xmp_prog.specs.Scopes.{Scoped, fits_in_order, fits_below, scope_step, scoped, scalars_fit}
use Rattle.xmp_parts.proofs.Unbroken.{left_true, right_true, both_true}

module _ (p : ProgParts) (q : ℕ → Bool) where
  -- whatever is known
  abbrev may : List ℕ → ℕ → Bool
  may known n = q n

  abbrev scoped_task : Task → Scoped
  scoped_task = fold-Task Scoped Scoped (scope_step p may) (λ t. t.body)

  abbrev walked_task : Task → WalkedTask
  walked_task = fold-Task Walked WalkedTask walk_step walk_task

  abbrev Named : List Statement → Type 0
  Named xs = list_all q (flat_map (slots_in p) xs) ≡ true

  named_both : (xs ys : List Statement) → Named xs → Named ys → Named (xs ++ ys)
  named_both xs ys h k =
      ap (list_all q) (flat_map-append (slots_in p) xs ys) ∙ (list_all-append q (flat_map (slots_in p) xs) (flat_map (slots_in p) ys) ∙ both_true (list_all q (flat_map (slots_in p) xs)) _ h k)

  named_one : (x : Statement) (xs : List Statement) → list_all q (slots_in p x) ≡ true → Named xs → Named (x ∷ xs)
  named_one x xs h k = list_all-append q (slots_in p x) (flat_map (slots_in p) xs) ∙ both_true (list_all q (slots_in p x)) _ h k

  abbrev StmtNamed : Stmt → Type 0
  StmtNamed x = (known : List ℕ) → (scoped p may x).fits known ≡ true → Named (statements_of x)

  abbrev TaskNamed : Task → Type 0
  TaskNamed t = (known : List ℕ) → (scoped_task t).fits known ≡ true → Named (walked_task t).statements

  module _ {C D : Type 0} (f : C → Stmt) (g : D → Task) (h : (c : C) → StmtNamed (f c)) (i : (d : D) → TaskNamed (g d)) where
    all_named : (all : List C) (known : List ℕ) → fits_in_order (map (scoped p may) (map f all)) known ≡ true → Named (flat_map (λ s. s.statements) (map walked (map f all)))
    all_named [] known k = refl
    all_named (c ∷ cs) known k =
        let first : Bool = (scoped p may (f c)).fits known in
        named_both (statements_of (f c)) _ (h c known (left_true first _ k)) (all_named cs ((scoped p may (f c)).declares ++ known) (right_true first _ k))

    tasks_named : (all : List D) (known : List ℕ) → list_all (λ t. t.fits known) (map scoped_task (map g all)) ≡ true → Named (flat_map (λ t. t.statements) (map walked_task (map g all)))
    tasks_named [] known k = refl
    tasks_named (d ∷ ds) known k =
        let first : Bool = (scoped_task (g d)).fits known in
        named_both (walked_task (g d)).statements _ (i d known (left_true first _ k)) (tasks_named ds known (right_true first _ k))

    abbrev outside : Stmt-F C D → Stmt-F Scoped Scoped
    outside y = map-Stmt Stmt Task Scoped Scoped (scoped p may) scoped_task (map-Stmt C D Stmt Task f g y)

    abbrev inside : Stmt-F C D → Stmt-F Walked WalkedTask
    inside y = map-Stmt Stmt Task Walked WalkedTask walked walked_task (map-Stmt C D Stmt Task f g y)

    below : (y : Stmt-F C D) (known : List ℕ) → fits_below (outside y) known ≡ true → Named (statements_below (inside y))
    below (Stmt-F.Plain s) known k = refl
    below (Stmt-F.Block all) known k = all_named all known k
    below (Stmt-F.If test a b) known k =
        let first : Bool = (scoped p may (f a)).fits known in
        named_both (statements_of (f a)) (statements_of (f b)) (h a known (left_true first _ k)) (h b known (right_true first _ k))
    below (Stmt-F.While test body at) known k = h body known k
    below (Stmt-F.Counted head body) known k = h body known k
    below (Stmt-F.Loop directive body) known k = h body known k
    below (Stmt-F.Tasks all at) known k = tasks_named all known k

    same_slots : (y : Stmt-F C D) → slots_in p (statement_of (inside y)) ≡ slots_in p (outside y)
    same_slots (Stmt-F.Plain s) = refl
    same_slots (Stmt-F.Block all) = refl
    same_slots (Stmt-F.If test a b) = refl
    same_slots (Stmt-F.While test body at) = refl
    same_slots (Stmt-F.Counted head body) = refl
    same_slots (Stmt-F.Loop directive body) = refl
    same_slots (Stmt-F.Tasks all at) = refl

    step : (y : Stmt-F C D) (known : List ℕ) → (scope_step p may (outside y)).fits known ≡ true → Named (walk_step (inside y)).statements
    step y known k =
        let own : Bool = list_all q (slots_in p (outside y)) in
        named_one (statement_of (inside y)) (statements_below (inside y)) (ap (list_all q) (same_slots y) ∙ left_true own _ k) (below y known (right_true own _ k))

    task_step : (y : Task-F C D) (known : List ℕ) → (map-Task Stmt Task Scoped Scoped (scoped p may) scoped_task (map-Task C D Stmt Task f g y)).body.fits known ≡ true →
        Named (walk_task (map-Task Stmt Task Walked WalkedTask walked walked_task (map-Task C D Stmt Task f g y))).statements
    task_step y known k = h y.body known k

  rolled : (x : Stmt-F Stmt Task) → ((known : List ℕ) → (scope_step p may (map-Stmt Stmt Task Scoped Scoped (scoped p may) scoped_task x)).fits known ≡ true → Named (walk_step (map-Stmt Stmt Task Walked WalkedTask walked walked_task x)).statements) → StmtNamed (roll-Stmt x)
  rolled x e known k =
      subst (λ (w : Walked). Named w.statements) (sym (fold-roll-Stmt Walked WalkedTask walk_step walk_task x))
      (e known (ap (λ (c : Scoped). c.fits known) (sym (fold-roll-Stmt Scoped Scoped (scope_step p may) (λ t. t.body) x)) ∙ k))

  task_rolled : (x : Task-F Stmt Task) → ((known : List ℕ) → (map-Task Stmt Task Scoped Scoped (scoped p may) scoped_task x).body.fits known ≡ true → Named (walk_task (map-Task Stmt Task Walked WalkedTask walked walked_task x)).statements) → TaskNamed (roll-Task x)
  task_rolled x e known k =
      subst (λ (w : WalkedTask). Named w.statements) (sym (fold-roll-Task Walked WalkedTask walk_step walk_task x))
      (e known (ap (λ (c : Scoped). c.fits known) (sym (fold-roll-Task Scoped Scoped (scope_step p may) (λ t. t.body) x)) ∙ k))

  named : (x : Stmt) → StmtNamed x
  named = ind-Stmt StmtNamed TaskNamed
      (λ x y e. subst (λ z. StmtNamed (roll-Stmt z)) e (rolled _ (step (λ c. c.0) (λ d. d.0) (λ c. c.1) (λ d. d.1) y)))
      (λ x y e. subst (λ z. TaskNamed (roll-Task z)) e (task_rolled _ (task_step (λ c. c.0) (λ d. d.0) (λ c. c.1) (λ d. d.1) y)))

  pub named_slots : (x : Stmt) (known : List ℕ) → scalars_fit p (λ known n. q n) x known ≡ true → list_all q (slots_of_stmt p x) ≡ true
  named_slots x known k = named x known k
