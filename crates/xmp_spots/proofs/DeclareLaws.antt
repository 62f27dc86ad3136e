-- The image variables after the declarations of each form of statement.
use Rattle.std.proofs.Common.{suc, ◌<◌, length, drop, get_or, Option, Some, None, ◌≡◌, ◌∙◌, refl, sym, ap, ℕ, ◌++◌, ◌∷◌, [], List, map}
use Rattle.std.specs.Prelude.{fold}
use Rattle.std.specs.List.{flat_map}
use Rattle.std.proofs.lemmas.List.Concat.{flat_map-cons}
use Rattle.std.proofs.lemmas.List.Sums.{fold-append}
use Rattle.std.proofs.Math.Seq.{drop-cons}
use Rattle.xmp_base.specs.declared.place.Place.{Place}
use Rattle.xmp_prog.proofs.Rolls.{at_block, at_if, at_while, at_counted, at_loop, at_plain, at_tasks}
use Rattle.xmp_prog.specs.declared.expressions.Expr.{Expr}
use Rattle.xmp_prog.specs.declared.statements.LoopHead.{LoopHead}
use Rattle.xmp_prog.specs.declared.statements.LoopDirective.{LoopDirective}
use Rattle.xmp_prog.specs.declared.statements.Plain.{Plain}
use Rattle.xmp_prog.specs.declared.statements.Stmt.{Stmt}
use Rattle.xmp_prog.specs.declared.statements.Stmt.TheVariants as stmt
use Rattle.xmp_prog.specs.declared.statements.Stmt.TheFolds.{fold-Task, fold-roll-Task}
use Rattle.xmp_prog.specs.declared.statements.Task.{Task}
use Rattle.xmp_prog.specs.declared.parts.ProgParts.{ProgParts}
use Rattle.xmp_spots.specs.Images.{Values}
use Rattle.xmp_spots.specs.Variables.{Declaration, declared_by_plain, declared_step, declared_in_task, declared_in, with_declaration}

flat_each : {X : Type 0} (g : X → List Declaration) (xs : List X) → flat_map (λ ds. ds) (map g xs) ≡ flat_map g xs
flat_each g [] = refl
flat_each g (x ∷ xs) =
    flat_map-cons (λ ds. ds) (g x) (map g xs) ∙ (ap (λ l. g x ++ l) (flat_each g xs) ∙ sym (flat_map-cons g x xs))

task_declared : (t : Task) → fold-Task (List Declaration) (List Declaration) declared_step declared_in_task t ≡ declared_in t.body
task_declared t = fold-roll-Task (List Declaration) (List Declaration) declared_step declared_in_task (record { nodes = t.nodes; body = t.body; at = t.at })

tasks_declared : (all : List Task) →
    flat_map (λ ds. ds) (map (fold-Task (List Declaration) (List Declaration) declared_step declared_in_task) all) ≡ flat_map (λ t. declared_in t.body) all
tasks_declared [] = refl
tasks_declared (t ∷ ts) =
    flat_map-cons (λ ds. ds) (fold-Task (List Declaration) (List Declaration) declared_step declared_in_task t)
    (map (fold-Task (List Declaration) (List Declaration) declared_step declared_in_task) ts)
    ∙ (ap (λ l. l ++ flat_map (λ ds. ds) (map (fold-Task (List Declaration) (List Declaration) declared_step declared_in_task) ts)) (task_declared t)
    ∙ (ap (λ l. declared_in t.body ++ l) (tasks_declared ts) ∙ sym (flat_map-cons (λ t. declared_in t.body) t ts)))

module _ (p : ProgParts) (v : Values) where
  abbrev after : List Declaration → Values
  after ds = fold (with_declaration p) v ds

  pub declared_plain : (s : Plain) → fold (with_declaration p) v (declared_in (stmt.Plain s)) ≡ fold (with_declaration p) v (declared_by_plain s)
  declared_plain s = ap after (at_plain (List Declaration) (List Declaration) declared_step declared_in_task s)

  pub declared_block : (all : List Stmt) → fold (with_declaration p) v (declared_in (stmt.Block all)) ≡ fold (with_declaration p) v (flat_map declared_in all)
  declared_block all = ap after (at_block (List Declaration) (List Declaration) declared_step declared_in_task all ∙ flat_each declared_in all)

  pub declared_if : (test : Expr) (a b : Stmt) → fold (with_declaration p) v (declared_in (stmt.If test a b))
      ≡ fold (with_declaration p) (fold (with_declaration p) v (declared_in a)) (declared_in b)
  declared_if test a b =
      ap after (at_if (List Declaration) (List Declaration) declared_step declared_in_task test a b)
      ∙ fold-append (with_declaration p) v (declared_in a) (declared_in b)

  pub declared_while : (test : Expr) (body : Stmt) (at : Place) → fold (with_declaration p) v (declared_in (stmt.While test body at))
      ≡ fold (with_declaration p) v (declared_in body)
  declared_while test body at = ap after (at_while (List Declaration) (List Declaration) declared_step declared_in_task test body at)

  pub declared_counted : (h : LoopHead) (body : Stmt) → fold (with_declaration p) v (declared_in (stmt.Counted h body))
      ≡ fold (with_declaration p) v (declared_in body)
  declared_counted h body = ap after (at_counted (List Declaration) (List Declaration) declared_step declared_in_task h body)

  pub declared_loop : (d : LoopDirective) (body : Stmt) → fold (with_declaration p) v (declared_in (stmt.Loop d body))
      ≡ fold (with_declaration p) v (declared_in body)
  declared_loop d body = ap after (at_loop (List Declaration) (List Declaration) declared_step declared_in_task d body)

  pub declared_tasks : (all : List Task) (at : Place) → fold (with_declaration p) v (declared_in (stmt.Tasks all at))
      ≡ fold (with_declaration p) v (flat_map (λ t. declared_in t.body) all)
  declared_tasks all at = ap after (at_tasks (List Declaration) (List Declaration) declared_step declared_in_task all at ∙ tasks_declared all)

  -- the next of a list
  pub declared_more : {X : Type 0} (g : X → List Declaration) (xs : List X) (k : ℕ) (d : X) → k < length xs →
      fold (with_declaration p) v (flat_map g (drop k xs))
      ≡ fold (with_declaration p) (fold (with_declaration p) v (g (get_or xs k d))) (flat_map g (drop (suc k) xs))
  declared_more g xs k d h =
      ap (λ l. after (flat_map g l)) (drop-cons xs k d h)
      ∙ (ap after (flat_map-cons g (get_or xs k d) (drop (suc k) xs))
      ∙ fold-append (with_declaration p) v (g (get_or xs k d)) (flat_map g (drop (suc k) xs)))
