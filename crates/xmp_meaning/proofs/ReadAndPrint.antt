-- The traffic of a program that reads a number on one node and prints it on another.
use Rattle.std.proofs.Common.{◌≡◌, ℕ, [], ◌∷◌, map, List, refl, ap, ◌∙◌}
use Rattle.xmp_base.specs.declared.place.Place.{Place}
use Rattle.xmp_prog.specs.declared.statements.Stmt.TheVariants as stmt
use Rattle.xmp_prog.specs.declared.statements.Plain.{Plain}
use Rattle.xmp_prog.specs.declared.statements.Task.{roll-Task}
use Rattle.xmp_prog.specs.declared.statements.Stmt.TheFolds.{fold-Task, fold-roll-Task}
use Rattle.xmp_meaning.specs.declared.ends.Flow.{Flow}
use Rattle.xmp_meaning.specs.declared.ends.Flow.TheVariants.{Next}
use Rattle.xmp_meaning.specs.declared.location.Location.TheVariants as location
use Rattle.xmp_meaning.specs.Runs.{Run, ◌>>=◌, pure, scalar, write}
use Rattle.xmp_meaning.specs.Blocks.{block, then_run}
use Rattle.xmp_meaning.specs.Context.{Context}
use Rattle.xmp_meaning.specs.Handlers.{Handlers, TaskRun}
use Rattle.xmp_meaning.specs.Expressions.{each}
use Rattle.xmp_meaning.specs.Formats.{printed}
use Rattle.xmp_meaning.specs.Assignments.{scan}
use Rattle.xmp_meaning.specs.Statements.{stmt_of, plain_of, stmt_step, task_step}
use Rattle.std.specs.Prelude.{unwrap_or, slice_get}
use Rattle.std.specs.List.{range_with_len}
use Rattle.std.specs.Int.{int_wrap}
use Rattle.std.specs.Fmt.{digits}
use Rattle.xmp_num.specs.Decimal.{scan_of}
use Rattle.xmp_map.specs.RowMajor.{product, row_major, unravel}
use Rattle.xmp_prog.specs.Fits.{node_count}
use Rattle.xmp_meaning.specs.Runs.{state_of}
use Rattle.xmp_meaning.specs.Layouts.{Whole}
use Rattle.xmp_meaning.specs.Formats.{pieces_of}
use Rattle.xmp_meaning.specs.Calls.{main_context}
use Rattle.xmp_meaning.specs.Programs.{beginning}
use Rattle.xmp_meaning.specs.Exchanges.{Notes, no_notes, traced}
use Rattle.xmp_meaning.specs.Messages.{sent_in_all}
use Rattle.xmp_meaning.specs.Stores.{words_on}
use Rattle.xmp_meaning.specs.Traffic.{Counts, report}
use Rattle.xmp_meaning.specs.Examples.{two_nodes, node_set, task_on, scan_n, print_n, cast_n, read_and_print}
use Rattle.xmp_meaning.proofs.Forms.{expr_scalar, stmt_plain, stmt_block, stmt_tasks}

module _ {X : Type 0} (h : Handlers X) (cx : Context) where
  abbrev print_run : Run X Flow
  print_run = each (scalar 0 ∷ []) [] >>= (λ vs. write (printed (37 ∷ 100 ∷ 10 ∷ []) vs) >>= (λ u. pure Next))

  print_is : (at : Place) → plain_of h cx (print_n at) ≡ print_run
  print_is at = rw (expr_scalar h cx 0 at) refl

  abbrev pub task_with : Place → ℕ → Run X Flow → TaskRun X
  task_with at node run = record { nodes = node_set node; run = run; at = at }

  task_is : (at : Place) (node : ℕ) (s : Plain)
      → fold-Task (Run X Flow) (TaskRun X) (stmt_step h cx) task_step (roll-Task (record { nodes = node_set node; body = stmt.Plain s; at = at }))
      ≡ task_with at node (plain_of h cx s)
  task_is at node s = fold-roll-Task (Run X Flow) (TaskRun X) (stmt_step h cx) task_step (record { nodes = node_set node; body = stmt.Plain s; at = at })
      ∙ ap (task_with at node) (stmt_plain h cx s)

  pub tasks_are : (at : Place) (node : ℕ) (s : Plain) → stmt_of h cx (task_on at node s) ≡ h.tasks (task_with at node (plain_of h cx s) ∷ [])
  tasks_are at node s = stmt_tasks h cx _ at ∙ ap (λ t. h.tasks (t ∷ [])) (task_is at node s)

  abbrev whole_run : Place → Run X Flow
  whole_run at = block (
      h.tasks (task_with at 0 (scan h cx (location.Scalar 0)) ∷ [])
      ∷ h.bcast (record { number = 0; at = at } ∷ []) (node_set 0)
      ∷ h.tasks (task_with at 1 print_run ∷ [])
      ∷ [])

  pub whole_is : (at : Place)
      → stmt_of h cx (stmt.Block (task_on at 0 (scan_n at) ∷ stmt.Plain (cast_n at) ∷ task_on at 1 (print_n at) ∷ [])) ≡ whole_run at
  whole_is at = stmt_block h cx _
      ∙ ap (λ r. block (r ∷ stmt_of h cx (stmt.Plain (cast_n at)) ∷ stmt_of h cx (task_on at 1 (print_n at)) ∷ [])) (tasks_are at 0 (scan_n at))
      ∙ ap (λ r. block (h.tasks (task_with at 0 (scan h cx (location.Scalar 0)) ∷ []) ∷ r ∷ stmt_of h cx (task_on at 1 (print_n at)) ∷ [])) (stmt_plain h cx (cast_n at))
      ∙ ap (λ r. block (h.tasks (task_with at 0 (scan h cx (location.Scalar 0)) ∷ []) ∷ h.bcast (record { number = 0; at = at } ∷ []) (node_set 0) ∷ r ∷ []))
      (tasks_are at 1 (print_n at) ∙ ap (λ r. h.tasks (task_with at 1 r ∷ [])) (print_is at))

-- the report of a run of main's statement
abbrev report_by : Place → Run Notes Flow → List Counts
report_by at main =
    let p = read_and_print at in
    let end = (state_of (then_run (pure Next) main (beginning Whole p 0 (no_notes p)))).extra in
    map (λ node. record { words = words_on p node; turns = unwrap_or (slice_get end.turns node) 0; sent = sent_in_all p end.exchanges node })
    (range_with_len 0 (node_count p))

main_run : Place → Run Notes Flow
main_run at = whole_run (traced (read_and_print at)) (main_context (read_and_print at) 0 (53 ∷ [])) at

reported : (at : Place) → report_by at (main_run at)
    ≡ record { words = 1; turns = 0; sent = 4 } ∷ record { words = 1; turns = 0; sent = 4 } ∷ []
unfolding main_run two_nodes product row_major unravel scan_of pieces_of digits int_wrap
reported at = refl

pub number_read_and_printed : (at : Place) → report (read_and_print at) (53 ∷ []) 0
    ≡ record { words = 1; turns = 0; sent = 4 } ∷ record { words = 1; turns = 0; sent = 4 } ∷ []
unfolding main_run
number_read_and_printed at = ap (report_by at) (whole_is (traced (read_and_print at)) (main_context (read_and_print at) 0 (53 ∷ [])) at) ∙ reported at
