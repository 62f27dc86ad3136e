-- The events of a statement from those of its parts, as the code has them.
use Rattle.std.proofs.Common.{◌≡◌, ◌∙◌, sym, ap, IfOk, Result, ◌∷◌, [], List, map}
use Rattle.std.proofs.lemmas.Result.{IfOk-weaker}
use Rattle.xmp_base.specs.declared.place.Place.{Place}
use Rattle.xmp_paths.specs.Plans.{Plan, branch, in_order}
use Rattle.xmp_paths.specs.Flows.{plan_of}
use Rattle.xmp_paths.specs.declared.event.Event.{Event}
use Rattle.xmp_paths.specs.declared.event.Flow.{Flow}
use Rattle.xmp_prog.specs.declared.expressions.Expr.{Expr}
use Rattle.xmp_prog.specs.declared.statements.LoopDirective.{LoopDirective}
use Rattle.xmp_prog.specs.declared.statements.LoopHead.{LoopHead}
use Rattle.xmp_prog.specs.declared.statements.Stmt.{Stmt}
use Rattle.xmp_prog.specs.declared.statements.Stmt.TheVariants as stmt
use Rattle.xmp_prog.specs.declared.statements.Task.{Task}
use Rattle.xmp_flow.specs.Setting.{Setting, in_task, wrong_where}
use Rattle.xmp_flow.specs.Reads.{reads_of}
use Rattle.xmp_flow.specs.PlainEvents.{in_form}
use Rattle.xmp_flow.specs.LoopEvents.{loop_events}
use Rattle.xmp_flow.specs.Statements.{counted_events, events_of, if_form, while_events}
use Rattle.xmp_flow.proofs.FormLaws.{events_block, events_counted, events_if, events_loop, events_tasks, events_while}

module _ {E : Type 0} (s : Setting) (x : Stmt) (result : Result Flow E) where
  -- what is known of the events of a form is known of the statement that has it
  from_form : (y : Stmt) (p : Plan Event) → x ≡ y → p ≡ events_of y s → IfOk result (λ flow. plan_of flow ≡ p) → IfOk result (λ flow. plan_of flow ≡ events_of x s)
  from_form y p i e = IfOk-weaker result _ _ (λ flow h. h ∙ (e ∙ ap (λ z. events_of z s) (sym i)))

  pub from_block : (all given : List Stmt) → x ≡ stmt.Block all → given ≡ all →
      IfOk result (λ flow. plan_of flow ≡ in_order (map (λ y. events_of y s) given)) → IfOk result (λ flow. plan_of flow ≡ events_of x s)
  from_block all given i g = from_form (stmt.Block all) _ i (ap (λ l. in_order (map (λ y. events_of y s) l)) g ∙ sym (events_block all s))

  pub from_tasks : (all given : List Task) (at : Place) → x ≡ stmt.Tasks all at → given ≡ all →
      IfOk result (λ flow. plan_of flow ≡ in_order (wrong_where s.inside 10 at ∷ map (λ t. events_of t.body (in_task s t.nodes)) given)) →
      IfOk result (λ flow. plan_of flow ≡ events_of x s)
  from_tasks all given at i g =
      from_form (stmt.Tasks all at) _ i
      (ap (λ l. in_order (wrong_where s.inside 10 at ∷ map (λ t. events_of t.body (in_task s t.nodes)) l)) g ∙ sym (events_tasks all at s))

  pub from_loop : (d : LoopDirective) (body given : Stmt) → x ≡ stmt.Loop d body → given ≡ body →
      IfOk result (λ flow. plan_of flow ≡ loop_events d given (events_of given) s) → IfOk result (λ flow. plan_of flow ≡ events_of x s)
  from_loop d body given i g = from_form (stmt.Loop d body) _ i (ap (λ y. loop_events d y (events_of y) s) g ∙ sym (events_loop d body s))

  pub from_if : (test : Expr) (a b g h : Stmt) → x ≡ stmt.If test a b → g ≡ a → h ≡ b →
      IfOk result (λ flow. plan_of flow ≡ in_form s (in_order (reads_of test s ∷ branch (events_of g s) (events_of h s) ∷ [])) (if_form s test g h)) →
      IfOk result (λ flow. plan_of flow ≡ events_of x s)
  from_if test a b g h i ga hb =
      from_form (stmt.If test a b) _ i
      (ap (λ y. in_form s (in_order (reads_of test s ∷ branch (events_of y s) (events_of h s) ∷ [])) (if_form s test y h)) ga
      ∙ (ap (λ y. in_form s (in_order (reads_of test s ∷ branch (events_of a s) (events_of y s) ∷ [])) (if_form s test a y)) hb
      ∙ sym (events_if test a b s)))

  pub from_while : (test : Expr) (body given : Stmt) (at : Place) → x ≡ stmt.While test body at → given ≡ body →
      IfOk result (λ flow. plan_of flow ≡ while_events test (events_of given) at s) → IfOk result (λ flow. plan_of flow ≡ events_of x s)
  from_while test body given at i g =
      from_form (stmt.While test body at) _ i (ap (λ y. while_events test (events_of y) at s) g ∙ sym (events_while test body at s))

  pub from_counted : (head : LoopHead) (body given : Stmt) → x ≡ stmt.Counted head body → given ≡ body →
      IfOk result (λ flow. plan_of flow ≡ counted_events head (events_of given) s) → IfOk result (λ flow. plan_of flow ≡ events_of x s)
  from_counted head body given i g =
      from_form (stmt.Counted head body) _ i (ap (λ y. counted_events head (events_of y) s) g ∙ sym (events_counted head body s))
