-- What happens in each form of statement.
use Rattle.std.proofs.Common.{◌≡◌, ◌∙◌, ap, refl, ◌∷◌, [], List, map, sym, true, false, IfOk, Result}
use Rattle.std.proofs.lemmas.Result.{IfOk-weaker}
use Rattle.xmp_base.specs.declared.place.Place.{Place}
use Rattle.xmp_paths.specs.Plans.{Plan, branch, emit}
use Rattle.xmp_prog.proofs.Rolls.{at_plain, at_block, at_if, at_while, at_counted, at_loop, at_tasks}
use Rattle.xmp_prog.specs.declared.expressions.Expr.{Expr}
use Rattle.xmp_prog.specs.declared.statements.LoopHead.{LoopHead}
use Rattle.xmp_prog.specs.declared.statements.LoopDirective.{LoopDirective}
use Rattle.xmp_prog.specs.declared.statements.Plain.{Plain}
use Rattle.xmp_prog.specs.declared.statements.Stmt.{Stmt}
use Rattle.xmp_prog.specs.declared.statements.Stmt.TheVariants as stmt
use Rattle.xmp_prog.specs.declared.statements.Stmt.TheFolds.{fold-Task, fold-roll-Task}
use Rattle.xmp_prog.specs.declared.statements.Task.{Task}
use Rattle.xmp_spots.specs.declared.events.Event.{Event}
use Rattle.xmp_spots.specs.declared.events.Event.TheVariants.{Wrong}
use Rattle.xmp_spots.specs.declared.events.Course.{Course}
use Rattle.xmp_spots.specs.Courses.{in_sequence, plan_of}
use Rattle.xmp_races.specs.Setting.{Setting, where_chosen, within}
use Rattle.xmp_races.specs.Accesses.{events_of}
use Rattle.xmp_races.specs.Statements.{Told, stmt_step, task_step, plain_events, while_events, counted_events, directive_events, happens}

pub happens_plain : (p : Plain) (s : Setting) → happens (stmt.Plain p) s ≡ plain_events p s
happens_plain p s = ap (λ (f : Told). f s) (at_plain Told Told stmt_step task_step p)

map_told : (all : List Stmt) (s : Setting) → map (λ (f : Told). f s) (map happens all) ≡ map (λ x. happens x s) all
map_told [] s = refl
map_told (x ∷ xs) s = ap (λ l. happens x s ∷ l) (map_told xs s)

pub happens_block : (all : List Stmt) (s : Setting) → happens (stmt.Block all) s ≡ in_sequence (map (λ x. happens x s) all)
happens_block all s = ap (λ (f : Told). f s) (at_block Told Told stmt_step task_step all) ∙ ap in_sequence (map_told all s)

pub happens_if : (test : Expr) (a b : Stmt) (s : Setting) → happens (stmt.If test a b) s
    ≡ in_sequence (events_of test s ∷ branch (happens a (where_chosen s test true)) (happens b (where_chosen s test false)) ∷ [])
happens_if test a b s = ap (λ (f : Told). f s) (at_if Told Told stmt_step task_step test a b)

pub happens_while : (test : Expr) (body : Stmt) (at : Place) (s : Setting) →
    happens (stmt.While test body at) s ≡ while_events test (happens body s) at s
happens_while test body at s = ap (λ (f : Told). f s) (at_while Told Told stmt_step task_step test body at)

pub happens_counted : (head : LoopHead) (body : Stmt) (s : Setting) →
    happens (stmt.Counted head body) s ≡ counted_events head (happens body (within s head)) s
happens_counted head body s = ap (λ (f : Told). f s) (at_counted Told Told stmt_step task_step head body)

pub happens_loop : (d : LoopDirective) (body : Stmt) (s : Setting) → happens (stmt.Loop d body) s ≡ directive_events d (happens body) s
happens_loop d body s = ap (λ (f : Told). f s) (at_loop Told Told stmt_step task_step d body)

happens_task : (t : Task) (s : Setting) → fold-Task Told Told stmt_step task_step t s ≡ in_sequence (emit (Wrong 5 t.at) ∷ happens t.body s ∷ [])
happens_task t s = ap (λ (f : Told). f s) (fold-roll-Task Told Told stmt_step task_step (record { nodes = t.nodes; body = t.body; at = t.at }))

map_tasks : (all : List Task) (s : Setting) →
    map (λ (f : Told). f s) (map (fold-Task Told Told stmt_step task_step) all) ≡ map (λ t. in_sequence (emit (Wrong 5 t.at) ∷ happens t.body s ∷ [])) all
map_tasks [] s = refl
map_tasks (t ∷ ts) s =
    ap (λ x. x ∷ map (λ (f : Told). f s) (map (fold-Task Told Told stmt_step task_step) ts)) (happens_task t s)
    ∙ ap (λ l. in_sequence (emit (Wrong 5 t.at) ∷ happens t.body s ∷ []) ∷ l) (map_tasks ts s)

pub happens_tasks : (all : List Task) (at : Place) (s : Setting) → happens (stmt.Tasks all at) s
    ≡ in_sequence (emit (Wrong 5 at) ∷ map (λ t. in_sequence (emit (Wrong 5 t.at) ∷ happens t.body s ∷ [])) all)
happens_tasks all at s =
    ap (λ (f : Told). f s) (at_tasks Told Told stmt_step task_step all at) ∙ ap (λ l. in_sequence (emit (Wrong 5 at) ∷ l)) (map_tasks all s)

-- ---- by what the code has

module _ {E : Type 0} (s : Setting) (x : Stmt) (result : Result Course E) where
  -- what is known of the events of a form is known of the statement that has it
  from_form : (y : Stmt) (p : Plan Event) → x ≡ y → p ≡ happens y s → IfOk result (λ course. plan_of course ≡ p) → IfOk result (λ course. plan_of course ≡ happens x s)
  from_form y p i e = IfOk-weaker result _ _ (λ course h. h ∙ (e ∙ ap (λ z. happens z s) (sym i)))

  pub from_plain : (p : Plain) → x ≡ stmt.Plain p → IfOk result (λ course. plan_of course ≡ plain_events p s) → IfOk result (λ course. plan_of course ≡ happens x s)
  from_plain p i = from_form (stmt.Plain p) _ i (sym (happens_plain p s))

  pub from_block : (all given : List Stmt) → x ≡ stmt.Block all → given ≡ all →
      IfOk result (λ course. plan_of course ≡ in_sequence (map (λ y. happens y s) given)) → IfOk result (λ course. plan_of course ≡ happens x s)
  from_block all given i g = from_form (stmt.Block all) _ i (ap (λ l. in_sequence (map (λ y. happens y s) l)) g ∙ sym (happens_block all s))

  pub from_if : (test : Expr) (a b g h : Stmt) → x ≡ stmt.If test a b → g ≡ a → h ≡ b →
      IfOk result (λ course. plan_of course ≡ in_sequence (events_of test s ∷ branch (happens g (where_chosen s test true)) (happens h (where_chosen s test false)) ∷ [])) →
      IfOk result (λ course. plan_of course ≡ happens x s)
  from_if test a b g h i ga hb =
      from_form (stmt.If test a b) _ i
      ((λ n. in_sequence (events_of test s ∷ branch (happens (ga n) (where_chosen s test true)) (happens (hb n) (where_chosen s test false)) ∷ []))
      ∙ sym (happens_if test a b s))

  pub from_while : (test : Expr) (body given : Stmt) (at : Place) → x ≡ stmt.While test body at → given ≡ body →
      IfOk result (λ course. plan_of course ≡ while_events test (happens given s) at s) → IfOk result (λ course. plan_of course ≡ happens x s)
  from_while test body given at i g =
      from_form (stmt.While test body at) _ i (ap (λ y. while_events test (happens y s) at s) g ∙ sym (happens_while test body at s))

  pub from_counted : (head : LoopHead) (body given : Stmt) → x ≡ stmt.Counted head body → given ≡ body →
      IfOk result (λ course. plan_of course ≡ counted_events head (happens given (within s head)) s) → IfOk result (λ course. plan_of course ≡ happens x s)
  from_counted head body given i g =
      from_form (stmt.Counted head body) _ i (ap (λ y. counted_events head (happens y (within s head)) s) g ∙ sym (happens_counted head body s))

  pub from_loop : (d : LoopDirective) (body given : Stmt) → x ≡ stmt.Loop d body → given ≡ body →
      IfOk result (λ course. plan_of course ≡ directive_events d (happens given) s) → IfOk result (λ course. plan_of course ≡ happens x s)
  from_loop d body given i g = from_form (stmt.Loop d body) _ i (ap (λ y. directive_events d (happens y) s) g ∙ sym (happens_loop d body s))

  pub from_tasks : (all given : List Task) (at : Place) → x ≡ stmt.Tasks all at → given ≡ all →
      IfOk result (λ course. plan_of course ≡ in_sequence (emit (Wrong 5 at) ∷ map (λ t. in_sequence (emit (Wrong 5 t.at) ∷ happens t.body s ∷ [])) given)) →
      IfOk result (λ course. plan_of course ≡ happens x s)
  from_tasks all given at i g =
      from_form (stmt.Tasks all at) _ i
      (ap (λ l. in_sequence (emit (Wrong 5 at) ∷ map (λ t. in_sequence (emit (Wrong 5 t.at) ∷ happens t.body s ∷ [])) l)) g ∙ sym (happens_tasks all at s))
