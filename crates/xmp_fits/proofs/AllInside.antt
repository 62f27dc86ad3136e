-- What holds of all statements in a statement, by its form.
use Rattle.std.proofs.Common.{◌≡◌, sym, ap, refl, subst, ◌++◌, ◌∷◌, [], List, map}
use Rattle.std.specs.List.{flat_map, AllByRecursion}
use Rattle.xmp_base.specs.declared.place.Place.{Place}
use Rattle.xmp_map.specs.declared.grid.NodeSet.{NodeSet}
use Rattle.xmp_prog.specs.declared.expressions.Expr.{Expr}
use Rattle.xmp_prog.specs.declared.statements.LoopDirective.{LoopDirective}
use Rattle.xmp_prog.specs.declared.statements.LoopHead.{LoopHead}
use Rattle.xmp_prog.specs.declared.statements.Plain.{Plain}
use Rattle.xmp_prog.specs.declared.statements.Stmt.{Stmt}
use Rattle.xmp_prog.specs.declared.statements.Stmt.TheVariants as s
use Rattle.xmp_prog.specs.declared.statements.Stmt.TheOpen.{Stmt-F}
use Rattle.xmp_prog.specs.declared.statements.Stmt.TheFolds.{fold-Task}
use Rattle.xmp_prog.specs.declared.statements.Task.{Task, fold-roll-Task}
use Rattle.xmp_prog.specs.Statements.{Statement, Walked, WalkedTask, statements_of, walk_step, walk_task, walked, writes_of}
use Rattle.xmp_prog.proofs.Rolls.{at_block, at_counted, at_if, at_loop, at_plain, at_tasks, at_while}
use Rattle.xmp_directives.specs.Directives.{made_task}

module _ (P : Statement → Type 0) where
  abbrev pub AllIn : Stmt → Type 0
  AllIn x = AllByRecursion P (statements_of x)

  abbrev pub AllInTask : Task → Type 0
  AllInTask t = AllByRecursion P (fold-Task Walked WalkedTask walk_step walk_task t).statements

  both : (xs ys : List Statement) → AllByRecursion P xs → AllByRecursion P ys → AllByRecursion P (xs ++ ys)
  both [] ys h k = k
  both (x ∷ xs) ys h k = (h.0, both xs ys h.1 k)

  of_walked : (x : Stmt) (w : Walked) → walked x ≡ w → AllByRecursion P w.statements → AllIn x
  of_walked x w e h = subst (λ (v : Walked). AllByRecursion P v.statements) (sym e) h

  pub in_plain : (x : Plain) → P (Stmt-F.Plain x) → AllIn (s.Plain x)
  in_plain x f = of_walked (s.Plain x) _ (at_plain Walked WalkedTask walk_step walk_task x) (f, tt)

  pub each_stmt : (xs : List Stmt) → AllByRecursion AllIn xs → AllByRecursion P (flat_map (λ s. s.statements) (map walked xs))
  each_stmt [] h = tt
  each_stmt (x ∷ xs) h = both (statements_of x) (flat_map (λ s. s.statements) (map walked xs)) h.0 (each_stmt xs h.1)

  pub in_block : (xs : List Stmt) → P (Stmt-F.Block (map writes_of xs)) → AllByRecursion AllIn xs → AllIn (s.Block xs)
  in_block xs f h = of_walked (s.Block xs) _ (at_block Walked WalkedTask walk_step walk_task xs) (subst (λ l. P (Stmt-F.Block l)) (writes xs) f, each_stmt xs h)
    where
      writes : (xs : List Stmt) → map writes_of xs ≡ map (λ (w : Walked). w.writes) (map walked xs)
      writes [] = refl
      writes (x ∷ xs) = ap (λ l. writes_of x ∷ l) (writes xs)

  pub in_if : (test : Expr) (a b : Stmt) → P (Stmt-F.If test (writes_of a) (writes_of b)) → AllIn a → AllIn b → AllIn (s.If test a b)
  in_if test a b f h k = of_walked (s.If test a b) _ (at_if Walked WalkedTask walk_step walk_task test a b) (f, both (statements_of a) (statements_of b) h k)

  pub in_while : (test : Expr) (b : Stmt) (at : Place) → P (Stmt-F.While test (writes_of b) at) → AllIn b → AllIn (s.While test b at)
  in_while test b at f h = of_walked (s.While test b at) _ (at_while Walked WalkedTask walk_step walk_task test b at) (f, h)

  pub in_counted : (d : LoopHead) (b : Stmt) → P (Stmt-F.Counted d (writes_of b)) → AllIn b → AllIn (s.Counted d b)
  in_counted d b f h = of_walked (s.Counted d b) _ (at_counted Walked WalkedTask walk_step walk_task d b) (f, h)

  pub in_loop : (d : LoopDirective) (b : Stmt) → P (Stmt-F.Loop d (writes_of b)) → AllIn b → AllIn (s.Loop d b)
  in_loop d b f h = of_walked (s.Loop d b) _ (at_loop Walked WalkedTask walk_step walk_task d b) (f, h)

  pub in_task : (nodes : NodeSet) (x : Stmt) (at : Place) → AllIn x → AllInTask (made_task nodes x at)
  in_task nodes x at h = subst (λ (t : WalkedTask). AllByRecursion P t.statements) (sym (fold-roll-Task Walked WalkedTask walk_step walk_task (record { nodes = nodes; body = x; at = at }))) h

  each_task : (ts : List Task) → AllByRecursion AllInTask ts → AllByRecursion P (flat_map (λ t. t.statements) (map (fold-Task Walked WalkedTask walk_step walk_task) ts))
  each_task [] h = tt
  each_task (t ∷ ts) h = both (fold-Task Walked WalkedTask walk_step walk_task t).statements _ h.0 (each_task ts h.1)

  pub in_tasks : (ts : List Task) (at : Place) → P (Stmt-F.Tasks (map (λ (t : WalkedTask). t.nodes) (map (fold-Task Walked WalkedTask walk_step walk_task) ts)) at) → AllByRecursion AllInTask ts → AllIn (s.Tasks ts at)
  in_tasks ts at f h = of_walked (s.Tasks ts at) _ (at_tasks Walked WalkedTask walk_step walk_task ts at) (f, each_task ts h)
