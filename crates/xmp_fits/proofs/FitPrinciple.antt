-- One induction over the statements of a tree for all that is to hold of the statements made of them. What holds may speak
-- of the world before a statement and of the one after it.
use Rattle.std.proofs.Common.{◌≡◌, ◌∙◌, refl, sym, ap, ◌++◌, ◌∷◌, [], List, ◌&&◌, not, Bool, true, false, Some, None, length, map}
use Rattle.std.specs.Prelude.{⊤}
use Rattle.std.specs.List.{list_all, AllByRecursion}
use Rattle.xmp_base.specs.declared.place.Place.{Place}
use Rattle.xmp_num.specs.declared.types.Ty.{Ty}
use Rattle.xmp_map.specs.declared.grid.NodeSet.{NodeSet}
use Rattle.xmp_prog.specs.declared.statements.Stmt as made
use Rattle.xmp_prog.specs.declared.statements.Stmt.TheVariants as s
use Rattle.xmp_prog.specs.declared.statements.Task.{Task}
use Rattle.xmp_syntax.specs.declared.declaration.Declarator.{Declarator}
use Rattle.xmp_syntax.specs.declared.directive.DirectiveLine.{DirectiveLine}
use Rattle.xmp_syntax.specs.declared.directive.LoopLine.{LoopLine}
use Rattle.xmp_syntax.specs.declared.directive.Mapping.{Mapping}
use Rattle.xmp_syntax.specs.declared.directive.TaskLine.{TaskLine}
use Rattle.xmp_syntax.specs.declared.expression.Expr.{Expr}
use Rattle.xmp_syntax.specs.declared.statement.ForHead.{ForHead}
use Rattle.xmp_syntax.specs.declared.statement.Plain.{Plain}
use Rattle.xmp_syntax.specs.declared.statement.Plain.TheVariants as plain
use Rattle.xmp_syntax.specs.declared.statement.BlockItem.{BlockItem}
use Rattle.xmp_syntax.specs.declared.statement.BlockItem.TheVariants as b
use Rattle.xmp_syntax.specs.declared.statement.Stmt.{Stmt, out-Stmt, roll-Stmt, roll-out-Stmt}
use Rattle.xmp_syntax.specs.declared.statement.Stmt.TheOpen.{Stmt-F}
use Rattle.xmp_syntax.specs.declared.statement.Stmt.TheVariants as t
use Rattle.xmp_walk.specs.declared.loops.ForParts.{ForParts}
use Rattle.xmp_directives.specs.declared.loop_lines.LoopParts.{LoopParts}
use Rattle.xmp_names.specs.declared.typed.Operand.{Operand}
use Rattle.xmp_names.specs.declared.world.World.{World}
use Rattle.xmp_names.specs.Walk as walk
use Rattle.xmp_names.specs.Walk.{Step, Gave, Run, and_then}
use Rattle.xmp_walk.specs.Declarations.{local_declarator, local_declarators, type_of}
use Rattle.xmp_names.specs.Lists.{listed}
use Rattle.xmp_directives.specs.MappingLines.{mapping_of}
use Rattle.xmp_walk.specs.Statements.{return_of, if_of, while_of, for_of, loop_of}
use Rattle.xmp_directives.specs.Directives.{loop_line, judged_loop, nest_of, task_line, lone_task, tasks_in, tasks_of, made_task}
use Rattle.xmp_walk.specs.Program.{loop_directive, plain_of, item_of, items_of, block_of, stmt_of, inside_item, task_step, last_in, main_items}
use Rattle.xmp_names.specs.declared.rules.Rule.TheVariants.{N5}
use Rattle.xmp_names.specs.Rules.{unless}
use Rattle.xmp_names.specs.Expressions.{is_function}
use Rattle.xmp_parts.proofs.Unbroken.{left_true, right_true, right_none, holds}
use Rattle.xmp_fits.specs.NumbersLie.{numbers_lie, mapping_lies, declarator_lies, declaration_lies, loop_line_lies, task_line_lies, head_lies, plain_lies, stmt_lies, item_lies, items_lie, task_lies, tasks_lie}
use Rattle.xmp_fits.proofs.NumbersLie as lie
use Rattle.xmp_fits.proofs.Laters.{unbroken_before}
use Rattle.xmp_fits.proofs.GoodWorlds.{Own, Good}
use Rattle.xmp_fits.proofs.GoodSteps.{good_opened}
use Rattle.xmp_fits.proofs.KeptRuns.{Goes, goes_refl, goes_trans, goes_then, GoesOn, Kept, going, going_scalars, going_arrays}
use Rattle.xmp_fits.proofs.Respected.{Ends}
use Rattle.xmp_fits.proofs.RespectedDirectives.{head_parts, line_kept, loop_kept, task_line_kept}
use Rattle.xmp_fits.proofs.RespectedLines.{declarator_kept, declarators_kept}
use Rattle.xmp_fits.proofs.RespectedMappings.{mapping_kept}
use Rattle.xmp_fits.proofs.RespectedSteps.{typed, directive_at}
use Rattle.xmp_fits.proofs.KeptStatements.{opened, closed, stays_opened, item_kept, items_kept, tasks_in_kept, stmt_kept, for_kept, main_kept}
use Rattle.xmp_walk.proofs.Seen.{seen_plain, seen_if, seen_while, seen_for, seen_loop, seen_task, seen_tasks, seen_block}
use Rattle.xmp_fits.proofs.TreeInduction.{ItemIs, Cases, each_stmt, each_item}
use Rattle.xmp_fits.proofs.Holding.{Unbroken, Holds, unbroken_then, unbroken_next, unbroken_map, unbroken_goes, same_holds}

-- What is to hold: of a statement; of the statements in a list so far, from the start of the list; of an expression; of the
-- parts of a `for` before its body; of the line of a loop directive; of the node set of a task behind others; and of the
-- sets and the tasks of a `tasks` so far.
pub record Facts : Type 1 where
  pub Fit : World → World → made.Stmt → Type 0
  pub Items : World → World → List made.Stmt → Type 0
  pub Reads : World → World → Operand → Type 0
  pub Heads : ForHead → World → World → ForParts → Type 0
  pub Lines : World → World → LoopParts → Type 0
  pub Sets : List NodeSet → World → World → NodeSet → Type 0
  pub Sharing : World → World → List NodeSet → List Task → Type 0

-- It holds of what each step makes where it holds of the parts.
pub record Forms (own : Own) (f : Facts) : Type 0 where
  pub plain : (x : Plain) → plain_lies x ≡ true → Holds own f.Fit (plain_of x)
  pub test : (x : Expr) → numbers_lie x ≡ true → Holds own f.Reads (walk.typed x)
  pub no_else : (w : World) → Good own w → f.Fit w w (s.Block [])
  pub if_of : (w v u t : World) (x : Operand) (a c : made.Stmt) → Good own w → Goes w v → Goes v u → Goes u t → f.Reads w v x → f.Fit v u a → f.Fit u t c → f.Fit w t (s.If x.made a c)
  pub while_of : (w v u : World) (x : Operand) (a : made.Stmt) (at : Place) → Good own w → Goes w v → Goes v u → f.Reads w v x → f.Fit v u a → f.Fit w u (s.While x.made a at)
  -- in the scope that a `for` opens
  pub head : (h : ForHead) → head_lies h ≡ true → Holds own (f.Heads h) (head_parts going going_scalars h).run
  pub for_of : (h : ForHead) (w v u : World) (parts : ForParts) (x : made.Stmt) → Good own w → Goes (opened w) v → Goes v u → f.Heads h (opened w) v parts → f.Fit v u x → f.Fit w (closed u) (loop_of h parts x)
  pub line : (l : LoopLine) → loop_line_lies l ≡ true → Holds own f.Lines (loop_line l)
  pub loop : (l : LoopLine) (w v u : World) (parts : LoopParts) (x : made.Stmt) → Good own w → Goes w v → Goes v u → f.Lines w v parts → f.Fit v u x →
      Unbroken (f.Fit w) (judged_loop l.line.word parts (nest_of (length parts.names) x) u)
  -- the statements in a list
  pub none : (w : World) → f.Items w w []
  pub mapping : (x : Mapping) → mapping_lies x ≡ true → (w v : World) (done : List made.Stmt) → Goes w v → Good own v → f.Items w v done → Unbroken (λ u _. f.Items w u done) (mapping_of x v)
  pub declarator : (ty : Ty) (d : Declarator) → declarator_lies d ≡ true → (w v : World) (done : List made.Stmt) → Goes w v → Good own v → f.Items w v done → Unbroken (λ u more. f.Items w u (done ++ more)) (local_declarator ty d v)
  pub statement : (w v u : World) (done : List made.Stmt) (one : made.Stmt) → Goes w v → Goes v u → f.Items w v done → f.Fit v u one → f.Items w u (done ++ one ∷ [])
  pub block : (w v : World) (all : List made.Stmt) → Good own w → Goes (opened w) v → f.Items (opened w) v all → f.Fit w (closed v) (s.Block all)
  -- tasks
  pub set : (before : List NodeSet) (l : TaskLine) → task_line_lies l ≡ true → Holds own (f.Sets before) (task_line before l)
  pub no_task : (w : World) → f.Sharing w w [] []
  pub one_task : (w v u t : World) (before : List NodeSet) (done : List Task) (nodes : NodeSet) (x : made.Stmt) (at : Place) → Goes w v → Goes v u → Goes u t →
      f.Sharing w v before done → f.Sets before v u nodes → f.Fit u t x → f.Sharing w t (before ++ nodes ∷ []) (done ++ made_task nodes x at ∷ [])
  -- (where there is no task, the directive alone tells that it stands in no function)
  pub tasks : (w v u : World) (before : List NodeSet) (done : List Task) (at : Place) → (done ≡ [] → is_function w.names.region ≡ false) → Good own w → v.names ≡ w.names → Goes w v → Goes v u → f.Sharing v u before done → f.Fit w u (s.Tasks done at)

-- A run that goes on, and of which it holds.
pub record Sound (own : Own) (f : Facts) (run : Run made.Stmt) : Type 0 where
  pub kept : Kept run
  pub holds : Holds own f.Fit run

-- The number of a `return`.
return_lies : (x : Stmt) (at : Place) (value : Expr) (end : Place) → out-Stmt x ≡ Stmt-F.Plain (plain.Return at value end) → stmt_lies x ≡ true → numbers_lie value ≡ true
return_lies x at value end e n =
    sym (ap stmt_lies (sym (roll-out-Stmt x) ∙ (ap roll-Stmt e ∙ t.rolls-Plain (plain.Return at value end))) ∙ lie.plain_is (plain.Return at value end)) ∙ n

module _ (own : Own) (f : Facts) (forms : Forms own f) where
  -- What stands in a block: a run of which it holds, or a part whose numbers lie in their types.
  abbrev ItemSound : BlockItem (Run made.Stmt) → Type 0
  ItemSound (b.Mapping x) = mapping_lies x ≡ true
  ItemSound (b.Declaration d) = declaration_lies d ≡ true
  ItemSound (b.Stmt run) = Sound own f run

  abbrev TaskSound : TaskLine × Run made.Stmt → Type 0
  TaskSound t = (task_line_lies t.0 ≡ true) × Sound own f t.1

  -- ---- the statements in a list

  declarators_hold : (ty : Ty) (w v : World) (done : List made.Stmt) (ds : List Declarator) → list_all declarator_lies ds ≡ true → Goes w v → Good own v → f.Items w v done → Unbroken (f.Items w) (local_declarators ty done ds v)
  declarators_hold ty w v done [] n g h i = λ e. i
  declarators_hold ty w v done (d ∷ ds) n g h i =
      unbroken_then (λ u more. f.Items w u (done ++ more)) (f.Items w) v (local_declarator ty d v) (λ more. local_declarators ty (done ++ more) ds)
      ((declarator_kept going going_scalars going_arrays ty d).at v) (forms.declarator ty d (left_true (declarator_lies d) (list_all declarator_lies ds) n) w v done g h i) (λ more. declarators_kept going going_scalars going_arrays ty (done ++ more) ds)
      (λ more u o j. declarators_hold ty w u (done ++ more) ds (right_true (declarator_lies d) (list_all declarator_lies ds) n) (goes_trans g o) (o.good own h) j)

  item_holds : (w v : World) (done : List made.Stmt) (x : BlockItem (Run made.Stmt)) → ItemSound x → Goes w v → Good own v → f.Items w v done → Unbroken (f.Items w) (item_of done x v)
  item_holds w v done (b.Mapping x) k g h i =
      unbroken_then (λ u _. f.Items w u done) (f.Items w) v (mapping_of x v) (λ _. walk.pure done) ((mapping_kept going x).at v) (forms.mapping x k w v done g h i) (λ _. record { at = goes_refl }) (λ _ u o j e. j)
  item_holds w v done (b.Declaration d) k g h i = declarators_hold (type_of d.ty) w v done (listed d.items) k g h i
  item_holds w v done (b.Stmt body) k g h i =
      unbroken_then (f.Fit v) (f.Items w) v (body v) (λ one. walk.pure (done ++ one ∷ [])) (k.kept.at v) (k.holds.at v h) (λ one. record { at = goes_refl })
      (λ one u o j e. forms.statement w v u done one g o i j)

  some_kept : (x : BlockItem (Run made.Stmt)) → ItemSound x → ItemIs Kept x
  some_kept (b.Mapping x) k = tt
  some_kept (b.Declaration d) k = tt
  some_kept (b.Stmt body) k = k.kept

  all_kept : (xs : List (BlockItem (Run made.Stmt))) → AllByRecursion ItemSound xs → AllByRecursion (ItemIs Kept) xs
  all_kept [] k = tt
  all_kept (x ∷ xs) k = (some_kept x k.0, all_kept xs k.1)

  pub items_hold : (w v : World) (done : List made.Stmt) (xs : List (BlockItem (Run made.Stmt))) → AllByRecursion ItemSound xs → Goes w v → Good own v → f.Items w v done → Unbroken (f.Items w) (items_of done xs v)
  items_hold w v done [] k g h i = λ e. i
  items_hold w v done (x ∷ xs) k g h i =
      unbroken_then (f.Items w) (f.Items w) v (item_of done x v) (λ so_far. items_of so_far xs)
      ((item_kept done x (some_kept x k.0)).at v) (item_holds w v done x k.0 g h i) (λ so_far. items_kept so_far xs (all_kept xs k.1))
      (λ so_far u o j. items_hold w u so_far xs k.1 (goes_trans g o) (o.good own h) j)

  block_holds : (xs : List (BlockItem (Run made.Stmt))) → AllByRecursion ItemSound xs → Holds own f.Fit (block_of xs)
  block_holds xs k = record {
    at = λ w g.
        let h : Good own (opened w) = good_opened own w (opened w) (stays_opened w) refl g in
        unbroken_next (f.Items (opened w)) (f.Fit w) (opened w) (items_of [] xs (opened w)) (λ all. λ v. Gave (s.Block all) (closed v))
        ((items_kept [] xs (all_kept xs k)).at (opened w)) (items_hold (opened w) (opened w) [] xs k (goes_refl (opened w)) h (forms.none (opened w)))
        (λ all v o e. e) (λ all v o i e. forms.block w v all g o i);
  }

  -- ---- `if`, `while` and `for`

  if_holds : (x : Expr) (a : Run made.Stmt) → numbers_lie x ≡ true → Sound own f a → Holds own f.Fit (if_of x a None)
  if_holds x a num k = record {
    at = λ w g.
        unbroken_then (f.Reads w) (f.Fit w) w (walk.typed x w) (λ t. walk.◌>>=◌ a (λ y. walk.pure (s.If t.made y (s.Block [])))) ((typed going x).kept.at w) ((forms.test x num).at w g)
        (λ t. record { at = λ v. goes_then v (a v) (λ y. walk.pure (s.If t.made y (s.Block []))) (k.kept.at v) (λ y. record { at = goes_refl }) })
        (λ t v o r. unbroken_then (f.Fit v) (f.Fit w) v (a v) (λ y. walk.pure (s.If t.made y (s.Block []))) (k.kept.at v) (k.holds.at v (o.good own g)) (λ y. record { at = goes_refl })
        (λ y u q i e. forms.if_of w v u u t y (s.Block []) g o q (goes_refl u) r i (forms.no_else u (q.good own (o.good own g)))));
  }

  else_holds : (x : Expr) (a : Run made.Stmt) (at : Place) (c : Run made.Stmt) → numbers_lie x ≡ true → Sound own f a → Sound own f c → Holds own f.Fit (if_of x a (Some (at, c)))
  else_holds x a at c num k l = record {
    at = λ w g.
        unbroken_then (f.Reads w) (f.Fit w) w (walk.typed x w) (λ t. walk.◌>>=◌ a (λ y. walk.◌>>=◌ c (λ z. walk.pure (s.If t.made y z)))) ((typed going x).kept.at w) ((forms.test x num).at w g)
        (λ t. record {
          at = λ v. goes_then v (a v) (λ y. walk.◌>>=◌ c (λ z. walk.pure (s.If t.made y z))) (k.kept.at v)
              (λ y. record { at = λ u. goes_then u (c u) (λ z. walk.pure (s.If t.made y z)) (l.kept.at u) (λ z. record { at = goes_refl }) });
        })
        (λ t v o r. unbroken_then (f.Fit v) (f.Fit w) v (a v) (λ y. walk.◌>>=◌ c (λ z. walk.pure (s.If t.made y z))) (k.kept.at v) (k.holds.at v (o.good own g))
        (λ y. record { at = λ u. goes_then u (c u) (λ z. walk.pure (s.If t.made y z)) (l.kept.at u) (λ z. record { at = goes_refl }) })
        (λ y u q i. unbroken_then (f.Fit u) (f.Fit w) u (c u) (λ z. walk.pure (s.If t.made y z)) (l.kept.at u) (l.holds.at u (q.good own (o.good own g))) (λ z. record { at = goes_refl })
        (λ z m n j e. forms.if_of w v u m t y z g o q n r i j)));
  }

  while_holds : (at : Place) (x : Expr) (a : Run made.Stmt) → numbers_lie x ≡ true → Sound own f a → Holds own f.Fit (while_of at x a)
  while_holds at x a num k = record {
    at = λ w g.
        unbroken_then (f.Reads w) (f.Fit w) w (walk.typed x w) (λ t. walk.◌>>=◌ a (λ y. walk.pure (s.While t.made y at))) ((typed going x).kept.at w) ((forms.test x num).at w g)
        (λ t. record { at = λ v. goes_then v (a v) (λ y. walk.pure (s.While t.made y at)) (k.kept.at v) (λ y. record { at = goes_refl }) })
        (λ t v o r. unbroken_then (f.Fit v) (f.Fit w) v (a v) (λ y. walk.pure (s.While t.made y at)) (k.kept.at v) (k.holds.at v (o.good own g)) (λ y. record { at = goes_refl })
        (λ y u q i e. forms.while_of w v u t y at g o q r i));
  }

  closes : (h : ForHead) (a : Run made.Stmt) (k : Kept a) (parts : ForParts) (v : World) → Ends (λ (x : made.Stmt) u. u.broken ≡ [] → v.broken ≡ []) (and_then (a v) (λ x. λ u. Gave (loop_of h parts x) (closed u)))
  closes h a k parts v = by (a v) (k.at v)
    where
      by : (t : Step made.Stmt) → GoesOn v t → Ends (λ (x : made.Stmt) u. u.broken ≡ [] → v.broken ≡ []) (and_then t (λ x. λ u. Gave (loop_of h parts x) (closed u)))
      by (Gave x u) g = λ e. unbroken_before v u g.onward.later e

  for_holds : (h : ForHead) (a : Run made.Stmt) → head_lies h ≡ true → Sound own f a → Holds own f.Fit (for_of h a)
  for_holds h a num k = record {
    at = λ w g.
        let j : Good own (opened w) = good_opened own w (opened w) (stays_opened w) refl g in
        unbroken_next (f.Heads h (opened w)) (f.Fit w) (opened w) ((head_parts going going_scalars h).run (opened w)) (λ parts. walk.◌>>=◌ a (λ x. λ v. Gave (loop_of h parts x) (closed v)))
        ((head_parts going going_scalars h).kept.at (opened w)) ((forms.head h num).at (opened w) j) (λ parts v o. closes h a k.kept parts v)
        (λ parts v o i. unbroken_next (f.Fit v) (f.Fit w) v (a v) (λ x. λ u. Gave (loop_of h parts x) (closed u)) (k.kept.at v) (k.holds.at v (o.good own j)) (λ x u q e. e)
        (λ x u q r e. forms.for_of h w v u parts x g o q i r));
  }

  -- ---- directives

  loop_holds : (l : LoopLine) (h : ForHead) (a : Run made.Stmt) → loop_line_lies l ≡ true → head_lies h ≡ true → Sound own f a → Holds own f.Fit (loop_directive l h a)
  loop_holds l h a line num k = record {
    at = λ w g.
        unbroken_then (f.Lines w) (f.Fit w) w (loop_line l w) (λ parts. walk.◌>>=◌ (for_of h a) (λ x. judged_loop l.line.word parts (nest_of (length parts.names) x))) ((line_kept going l).at w) ((forms.line l line).at w g)
        (λ parts. record { at = λ v. goes_then v (for_of h a v) (λ x. judged_loop l.line.word parts (nest_of (length parts.names) x)) ((for_kept h a k.kept).at v) (λ x. loop_kept going l.line.word parts (nest_of (length parts.names) x)) })
        (λ parts v o i. unbroken_then (f.Fit v) (f.Fit w) v (for_of h a v) (λ x. judged_loop l.line.word parts (nest_of (length parts.names) x)) ((for_kept h a k.kept).at v) ((for_holds h a num k).at v (o.good own g))
        (λ x. loop_kept going l.line.word parts (nest_of (length parts.names) x)) (λ x u q j. forms.loop l w v u parts x g o q i j));
  }

  lone_holds : (l : TaskLine) (a : Run made.Stmt) → task_line_lies l ≡ true → Sound own f a → Holds own f.Fit (lone_task l a)
  lone_holds l a num k = record {
    at = λ w g.
        unbroken_then (f.Sets [] w) (f.Fit w) w (task_line [] l w) (λ nodes. walk.◌>>=◌ a (λ x. walk.pure (s.Tasks (made_task nodes x l.line.word ∷ []) l.line.word))) ((task_line_kept going [] l).at w) ((forms.set [] l num).at w g)
        (λ nodes. record { at = λ v. goes_then v (a v) (λ x. walk.pure (s.Tasks (made_task nodes x l.line.word ∷ []) l.line.word)) (k.kept.at v) (λ x. record { at = goes_refl }) })
        (λ nodes v o i. unbroken_then (f.Fit v) (f.Fit w) v (a v) (λ x. walk.pure (s.Tasks (made_task nodes x l.line.word ∷ []) l.line.word)) (k.kept.at v) (k.holds.at v (o.good own g)) (λ x. record { at = goes_refl })
        (λ x u q j e. forms.tasks w w u (nodes ∷ []) (made_task nodes x l.line.word ∷ []) l.line.word (λ n. absurd (cc)) g refl (goes_refl w) (goes_trans o q)
        (forms.one_task w w v u [] [] nodes x l.line.word (goes_refl w) o q (forms.no_task w) i j)));
  }

  sets_hold : (w v : World) (before : List NodeSet) (done : List Task) (xs : List (TaskLine × Run made.Stmt)) → AllByRecursion TaskSound xs → Goes w v → Good own v → f.Sharing w v before done →
      Unbroken (λ u all. (sets : List NodeSet) × f.Sharing w u sets all) (tasks_in before done xs v)
  sets_hold w v before done [] k g h i = λ e. (before, i)
  sets_hold w v before done (x ∷ xs) k g h i =
      unbroken_then (f.Sets before v) (λ u all. (sets : List NodeSet) × f.Sharing w u sets all) v (task_line before x.0 v)
      (λ nodes. walk.◌>>=◌ x.1 (λ y. tasks_in (before ++ nodes ∷ []) (done ++ made_task nodes y x.0.line.word ∷ []) xs))
      ((task_line_kept going before x.0).at v) ((forms.set before x.0 k.0.0).at v h) (λ nodes. record {
        at = λ u. goes_then u (x.1 u) (λ y. tasks_in (before ++ nodes ∷ []) (done ++ made_task nodes y x.0.line.word ∷ []) xs) (k.0.1.kept.at u)
            (λ y. tasks_in_kept (before ++ nodes ∷ []) (done ++ made_task nodes y x.0.line.word ∷ []) xs (bodies_kept xs k.1));
      })
      (λ nodes u o j. unbroken_then (f.Fit u) (λ t all. (sets : List NodeSet) × f.Sharing w t sets all) u (x.1 u) (λ y. tasks_in (before ++ nodes ∷ []) (done ++ made_task nodes y x.0.line.word ∷ []) xs)
      (k.0.1.kept.at u) (k.0.1.holds.at u (o.good own h)) (λ y. tasks_in_kept (before ++ nodes ∷ []) (done ++ made_task nodes y x.0.line.word ∷ []) xs (bodies_kept xs k.1))
      (λ y t q r. sets_hold w t (before ++ nodes ∷ []) (done ++ made_task nodes y x.0.line.word ∷ []) xs k.1 (goes_trans g (goes_trans o q)) (q.good own (o.good own h))
      (forms.one_task w v u t before done nodes y x.0.line.word g o q i j r)))
    where
      bodies_kept : (ys : List (TaskLine × Run made.Stmt)) → AllByRecursion TaskSound ys → AllByRecursion (λ t. Kept t.1) ys
      bodies_kept [] h = tt
      bodies_kept (y ∷ ys) h = (h.0.1.kept, bodies_kept ys h.1)

  tasks_hold : (l : DirectiveLine) (xs : List (TaskLine × Run made.Stmt)) → AllByRecursion TaskSound xs → Holds own f.Fit (tasks_of l xs)
  tasks_hold l xs k = record {
    at = λ w g.
        let v : World = after (walk.directive_at l.word w) in
        let o : Goes w v = (directive_at going l.word).kept.at w in
        unbroken_then (λ u all. (sets : List NodeSet) × f.Sharing v u sets all) (f.Fit w) v (tasks_in [] [] xs v) (λ all. walk.pure (s.Tasks all l.word))
        ((tasks_in_kept [] [] xs (bodies_kept xs k)).at v) (sets_hold v v [] [] xs k (goes_refl v) (o.good own g) (forms.no_task v)) (λ all. record { at = goes_refl })
        (λ all u q i e. forms.tasks w v u i.0 all l.word (λ n. untrue (is_function w.names.region) (holds (not (is_function w.names.region)) N5 l.word (right_none w.broken (unless (not (is_function w.names.region)) N5 l.word) (unbroken_before v u q.onward.later e)))) g refl o q i.1);
  }
    where
      after : Step ⊤ → World
      after (Gave a v) = v

      untrue : (b : Bool) → not b ≡ true → b ≡ false
      untrue true h = cc
      untrue false h = refl

      bodies_kept : (ys : List (TaskLine × Run made.Stmt)) → AllByRecursion TaskSound ys → AllByRecursion (λ t. Kept t.1) ys
      bodies_kept [] h = tt
      bodies_kept (y ∷ ys) h = (h.0.1.kept, bodies_kept ys h.1)

  -- ---- all statements

  abbrev IsSound : Stmt → Type 0
  IsSound x = stmt_lies x ≡ true → Sound own f (stmt_of x)

  runs_sound : (xs : List (BlockItem Stmt)) → items_lie xs ≡ true → AllByRecursion (ItemIs IsSound) xs → AllByRecursion ItemSound (map inside_item xs)
  runs_sound [] n h = tt
  runs_sound (b.Mapping x ∷ xs) n h = (left_true (mapping_lies x) (items_lie xs) n, runs_sound xs (right_true (mapping_lies x) (items_lie xs) n) h.1)
  runs_sound (b.Declaration d ∷ xs) n h = (left_true (declaration_lies d) (items_lie xs) n, runs_sound xs (right_true (declaration_lies d) (items_lie xs) n) h.1)
  runs_sound (b.Stmt x ∷ xs) n h = (h.0 (left_true (stmt_lies x) (items_lie xs) n), runs_sound xs (right_true (stmt_lies x) (items_lie xs) n) h.1)

  bodies_sound : (xs : List (TaskLine × Stmt)) → tasks_lie xs ≡ true → AllByRecursion (λ t. IsSound t.1) xs → AllByRecursion TaskSound (map task_step xs)
  bodies_sound [] n h = tt
  bodies_sound (x ∷ xs) n h =
      let one : (task_line_lies x.0 && stmt_lies x.1) ≡ true = left_true (task_lies x) (tasks_lie xs) n in
      ((left_true (task_line_lies x.0) (stmt_lies x.1) one, h.0 (right_true (task_line_lies x.0) (stmt_lies x.1) one)), bodies_sound xs (right_true (task_lies x) (tasks_lie xs) n) h.1)

  sound_as : (x : Stmt) (c : Run made.Stmt) (n : Bool) → stmt_of x ≡ c → stmt_lies x ≡ n → (n ≡ true → Holds own f.Fit c) → IsSound x
  sound_as x c n e m h = λ k. record { kept = stmt_kept x; holds = same_holds own f.Fit (stmt_of x) c e (h (sym m ∙ k)) }

  sound_cases : Cases IsSound
  sound_cases = record {
    plain = λ x. sound_as (t.Plain x) _ _ (seen_plain x) (lie.plain_is x) (λ n. forms.plain x n);
    block = λ o xs c h. sound_as (t.Block (record { «open» = o; item = xs; close = c })) _ _ (seen_block o xs c) (lie.block_is o xs c) (λ n. block_holds (map inside_item xs) (runs_sound xs n h));
    if_then = λ p e x h. sound_as (t.If p e x None) _ _ (seen_if p e x None) (lie.if_is p e x)
        (λ n. if_holds e.item (stmt_of x) (left_true (numbers_lie e.item) _ n) (h (left_true (stmt_lies x) true (right_true (numbers_lie e.item) _ n))));
    if_else = λ p e x q y h k. sound_as (t.If p e x (Some (q, y))) _ _ (seen_if p e x (Some (q, y))) (lie.else_is p e x q y)
        (λ n. else_holds e.item (stmt_of x) q (stmt_of y) (left_true (numbers_lie e.item) _ n) (h (left_true (stmt_lies x) _ (right_true (numbers_lie e.item) _ n))) (k (right_true (stmt_lies x) _ (right_true (numbers_lie e.item) _ n))));
    while_do = λ p e x h. sound_as (t.While p e x) _ _ (seen_while p e x) (lie.while_is p e x) (λ n. while_holds p e.item (stmt_of x) (left_true (numbers_lie e.item) _ n) (h (right_true (numbers_lie e.item) _ n)));
    for_do = λ d x h. sound_as (t.For d x) _ _ (seen_for d x) (lie.for_is d x) (λ n. for_holds d (stmt_of x) (left_true (head_lies d) _ n) (h (right_true (head_lies d) _ n)));
    loop = λ l d x h. sound_as (t.Loop l d x) _ _ (seen_loop l d x) (lie.loop_is l d x)
        (λ n. loop_holds l d (stmt_of x) (left_true (loop_line_lies l) _ n) (left_true (head_lies d) _ (right_true (loop_line_lies l) _ n)) (h (right_true (head_lies d) _ (right_true (loop_line_lies l) _ n))));
    task = λ l x h. sound_as (t.Task l x) _ _ (seen_task l x) (lie.task_is l x) (λ n. lone_holds l (stmt_of x) (left_true (task_line_lies l) _ n) (h (right_true (task_line_lies l) _ n)));
    tasks = λ l o xs c h. sound_as (t.Tasks l (record { «open» = o; item = xs; close = c })) _ _ (seen_tasks l o xs c) (lie.tasks_are l o xs c) (λ n. tasks_hold l (map task_step xs) (bodies_sound xs n h));
  }

  pub stmt_sound : (x : Stmt) → stmt_lies x ≡ true → Sound own f (stmt_of x)
  stmt_sound = each_stmt IsSound sound_cases

  one_sound : (x : BlockItem Stmt) → item_lies x ≡ true → ItemSound (inside_item x)
  one_sound (b.Mapping x) n = n
  one_sound (b.Declaration d) n = n
  one_sound (b.Stmt x) n = stmt_sound x n

  -- The statements of a function's body.
  pub body_holds : (xs : List (BlockItem Stmt)) → items_lie xs ≡ true → Holds own f.Items (items_of [] (map inside_item xs))
  body_holds xs n = record { at = λ w g. items_hold w w [] (map inside_item xs) (runs_sound xs n (each_item IsSound sound_cases xs)) (goes_refl w) g (forms.none w) }

  -- The body of main: what holds of a list of statements, and of one with a `return` behind it.
  module _ (Whole : World → World → List made.Stmt → Type 0) (whole : (w v : World) (all : List made.Stmt) → f.Items w v all → Whole w v all)
      (last : (at : Place) (x : Expr) → numbers_lie x ≡ true → (w v : World) (done : List made.Stmt) → Goes w v → Good own v → f.Items w v done → Unbroken (λ u one. Whole w u (done ++ one ∷ [])) (return_of true at x v)) where
    not_last : (x : Stmt) → stmt_lies x ≡ true → (w v : World) (done : List made.Stmt) → Goes w v → Good own v → f.Items w v done → Unbroken (λ u one. Whole w u (done ++ one ∷ [])) (stmt_of x v)
    not_last x n w v done g h i =
        unbroken_goes (f.Fit v) (λ u one. Whole w u (done ++ one ∷ [])) v (stmt_of x v) ((stmt_kept x).at v) ((stmt_sound x n).holds.at v h)
        (λ one u o j. whole w u (done ++ one ∷ []) (forms.statement w v u done one g o i j))

    last_holds : (x : Stmt) (o : Stmt-F Stmt) → out-Stmt x ≡ o → stmt_lies x ≡ true → (w v : World) (done : List made.Stmt) → Goes w v → Good own v → f.Items w v done →
        Unbroken (λ u one. Whole w u (done ++ one ∷ [])) (last_in x o v)
    last_holds x (Stmt-F.Plain (plain.Return at value end)) e n w v done g h i = last at value (return_lies x at value end e n) w v done g h i
    last_holds x _ e n w v done g h i = not_last x n w v done g h i

    added : (w : World) (done : List made.Stmt) (t : Step made.Stmt) → Unbroken (λ u one. Whole w u (done ++ one ∷ [])) t → Unbroken (Whole w) (and_then (and_then t (λ one. walk.pure (done ++ one ∷ []))) (λ all. walk.pure all))
    added w done (Gave one u) h = h

    main_items_hold : (w v : World) (done : List made.Stmt) (xs : List (BlockItem Stmt)) → items_lie xs ≡ true → Goes w v → Good own v → f.Items w v done → Unbroken (Whole w) (items_of done (main_items xs) v)
    main_items_hold w v done [] n g h i = λ e. whole w v done i
    main_items_hold w v done (b.Mapping x ∷ []) n g h i =
        unbroken_map (f.Items w) (Whole w) (items_of done (b.Mapping x ∷ []) v) (items_hold w v done (b.Mapping x ∷ []) (left_true (mapping_lies x) true n, tt) g h i) (λ all u j. whole w u all j)
    main_items_hold w v done (b.Declaration d ∷ []) n g h i =
        unbroken_map (f.Items w) (Whole w) (items_of done (b.Declaration d ∷ []) v) (items_hold w v done (b.Declaration d ∷ []) (left_true (declaration_lies d) true n, tt) g h i) (λ all u j. whole w u all j)
    main_items_hold w v done (b.Stmt x ∷ []) n g h i = added w done (last_in x (out-Stmt x) v) (last_holds x (out-Stmt x) refl (left_true (stmt_lies x) true n) w v done g h i)
    main_items_hold w v done (x ∷ y ∷ ys) n g h i =
        unbroken_then (f.Items w) (Whole w) v (item_of done (inside_item x) v) (λ so_far. items_of so_far (main_items (y ∷ ys)))
        ((item_kept done (inside_item x) (some_kept (inside_item x) (one_sound x (left_true (item_lies x) (items_lie (y ∷ ys)) n)))).at v)
        (item_holds w v done (inside_item x) (one_sound x (left_true (item_lies x) (items_lie (y ∷ ys)) n)) g h i) (λ so_far. items_kept so_far (main_items (y ∷ ys)) (main_kept (y ∷ ys)))
        (λ so_far u o j. main_items_hold w u so_far (y ∷ ys) (right_true (item_lies x) (items_lie (y ∷ ys)) n) (goes_trans g o) (o.good own h) j)

    pub main_holds : (xs : List (BlockItem Stmt)) → items_lie xs ≡ true → Holds own Whole (items_of [] (main_items xs))
    main_holds xs n = record { at = λ w g. main_items_hold w w [] xs n (goes_refl w) g (forms.none w) }
