-- The report of a program with loops, a gmove, a reduction and a task.
use Rattle.std.proofs.Common.{◌≡◌, ℤ, pos, false, [], ◌∷◌, map, length, List, refl, None, ap, ◌∙◌}
use Rattle.std.specs.Prelude.{unwrap_or, slice_get}
use Rattle.std.specs.List.{range_with_len}
use Rattle.std.specs.Int.{int_wrap}
use Rattle.std.specs.Fmt.{digits}
use Rattle.xmp_base.specs.declared.place.Place.{Place}
use Rattle.xmp_num.specs.Arithmetic.{binary_of, wrap}
use Rattle.xmp_num.specs.declared.types.Ty.TheVariants.{Int}
use Rattle.xmp_num.specs.declared.types.BinOp.TheVariants as op
use Rattle.xmp_dist.specs.Count.{count_below}
use Rattle.xmp_dist.specs.Owner.{owner_inside}
use Rattle.xmp_map.specs.RowMajor.{product, row_major, unravel}
use Rattle.xmp_map.specs.Boxes.{all_pass, sum_below, count_cells}
use Rattle.xmp_map.specs.Shadow.{holds_at}
use Rattle.xmp_prog.specs.declared.expressions.Expr.TheFolds.{fold-roll-Access}
use Rattle.xmp_prog.specs.declared.statements.Stmt.{Stmt}
use Rattle.xmp_prog.specs.declared.statements.Stmt.TheVariants as stmt
use Rattle.xmp_prog.specs.declared.statements.Plain.TheVariants as plain
use Rattle.xmp_prog.specs.declared.statements.Reduction.{Reduction}
use Rattle.xmp_prog.specs.Fits.{node_count}
use Rattle.xmp_meaning.specs.declared.ends.Flow.{Flow}
use Rattle.xmp_meaning.specs.declared.ends.Flow.TheVariants.{Next}
use Rattle.xmp_meaning.specs.declared.location.Location.TheVariants as location
use Rattle.xmp_meaning.specs.Runs.{Run, ◌>>=◌, pure, or_trap, scalar, set_scalar, write, state_of}
use Rattle.xmp_meaning.specs.Blocks.{each, then_run, block, turns}
use Rattle.xmp_meaning.specs.Declarations.{extents}
use Rattle.xmp_meaning.specs.Layouts.{Whole}
use Rattle.xmp_meaning.specs.Context.{Context}
use Rattle.xmp_meaning.specs.Handlers.{Handlers, Aim}
use Rattle.xmp_meaning.specs.Expressions.{Element, element_of, cell_number, checked, image_of, expr_of, expr_step, access_step}
use Rattle.xmp_meaning.specs.Formats.{pieces_of, printed}
use Rattle.xmp_meaning.specs.Assignments.{store}
use Rattle.xmp_meaning.specs.Loops.{is_inside, step_up, turn_count}
use Rattle.xmp_meaning.specs.Sections.{Chosen, Many, cells, lengths, fit, lengths_fit, spread, read_cell, store_all}
use Rattle.xmp_meaning.specs.Statements.{stmt_of, plain_of}
use Rattle.xmp_meaning.specs.Calls.{main_context}
use Rattle.xmp_meaning.specs.Programs.{beginning}
use Rattle.xmp_meaning.specs.Exchanges.{Notes, no_notes, traced}
use Rattle.xmp_meaning.specs.Messages.{sent_in_all}
use Rattle.xmp_meaning.specs.Stores.{words_on}
use Rattle.xmp_meaning.specs.Traffic.{Counts, report}
use Rattle.xmp_meaning.specs.Examples.{number, task_on}
use Rattle.xmp_meaning.specs.Shifted.{three_nodes, blocks_of_three, map_of_a, eight_turns, loop_on, cell_i, fill, add, sum_of, section_from, show, statements, shifted}
use Rattle.xmp_meaning.proofs.Forms.{expr_const, expr_scalar, expr_cell, stmt_plain, stmt_block, stmt_loop}
use Rattle.xmp_meaning.proofs.ReadAndPrint.{task_with, tasks_are}

module _ {X : Type 0} (h : Handlers X) (cx : Context) where
  -- ---- loops
  abbrev nest_by : Place → Run X ℤ → Run X ℤ → Run X Flow → Run X Flow
  nest_by at from to body =
      (from >>= (λ v. set_scalar 0 (wrap Int v) >>= (λ u. to >>= (λ w. pure (turn_count (wrap Int v) (wrap Int w) false 1)))))
      >>= (λ n. turns n (scalar 0 >>= (λ i. to >>= (λ w. pure (is_inside false i (wrap Int w))))) (then_run body (step_up (eight_turns at))))

  loop_is : (at : Place) (rs : List Reduction) (body : Stmt) → stmt_of h cx (stmt.Loop (loop_on at rs) body)
      ≡ h.loop (loop_on at rs) (nest_by at (pure (pos 0)) (pure (pos 8))) (stmt_of h cx body)
  loop_is at rs body = stmt_loop h cx (loop_on at rs) body
      ∙ ap (λ r. h.loop (loop_on at rs) (nest_by at r (expr_of h cx (number 8))) (stmt_of h cx body)) (expr_const h cx (pos 0) Int)
      ∙ ap (λ r. h.loop (loop_on at rs) (nest_by at (pure (pos 0)) r) (stmt_of h cx body)) (expr_const h cx (pos 8) Int)

  -- ---- elements
  abbrev element : Place → Element X
  element at = record { array = 0; subscripts = checked (scalar 0 ∷ []) (extents cx.program 0) at; image = image_of cx 0 None }

  element_is : (at : Place) → element_of h cx (cell_i at) ≡ element at
  element_is at = fold-roll-Access (Run X ℤ) (Element X) (expr_step h cx) (access_step cx) _ ∙ rw (expr_scalar h cx 0 at) refl

  abbrev fill_run : Place → Run X Flow
  fill_run at = cell_number cx (element at) >>= (λ n. scalar 0 >>= (λ v. store h cx (location.Cell 0 n) v >>= (λ u. pure Next)))

  fill_is : (at : Place) → stmt_of h cx (fill at) ≡ fill_run at
  fill_is at = stmt_plain h cx _ ∙ rw (element_is at, expr_scalar h cx 0 at) refl

  abbrev add_run : Place → Run X Flow
  add_run at = (scalar 1 >>= (λ old. (cell_number cx (element at) >>= (λ n. h.get 0 n)) >>= (λ v. or_trap (binary_of op.Add Int old v) at)))
      >>= (λ v. store h cx (location.Scalar 1) v >>= (λ u. pure Next))

  add_is : (at : Place) → stmt_of h cx (add at) ≡ add_run at
  add_is at = stmt_plain h cx _ ∙ rw (expr_cell h cx (cell_i at), element_is at) refl

  -- ---- the gmove
  abbrev numbers_by : (base length step : Run X ℤ) → Run X (List Chosen)
  numbers_by base length step = each ((base >>= (λ b. length >>= (λ n. step >>= (λ s. pure (Many b n s))))) ∷ []) []

  -- by what 1, 0 and 7 give
  abbrev aim_by : Place → (one zero seven : Run X ℤ) → Run X Aim
  aim_by at one zero seven = numbers_by one seven one >>= (λ to. numbers_by zero seven one >>= (λ from.
      cells cx (section_from at 1) to >>= (λ targets. cells cx (section_from at 0) from >>= (λ sources.
      lengths_fit (fit (lengths to) (lengths from)) at
      >>= (λ u. pure (record { targets = targets; sources = spread (lengths from) (length targets) sources }))))))

  abbrev move_by : Place → (one zero seven : Run X ℤ) → Run X Flow
  move_by at one zero seven = h.gmove (section_from at 1) (section_from at 0) (aim_by at one zero seven)
      (read_cell h (section_from at 0)) (store_all h cx (section_from at 1))

  abbrev move_run : Place → Run X Flow
  move_run at = move_by at (pure (pos 1)) (pure (pos 0)) (pure (pos 7))

  move_is : (at : Place) → stmt_of h cx (stmt.Plain (plain.Gmove (section_from at 1) (section_from at 0) at)) ≡ move_run at
  move_is at = stmt_plain h cx (plain.Gmove (section_from at 1) (section_from at 0) at)
      ∙ ap (λ r. move_by at r (expr_of h cx (number 0)) (expr_of h cx (number 7))) (expr_const h cx (pos 1) Int)
      ∙ ap (λ r. move_by at (pure (pos 1)) r (expr_of h cx (number 7))) (expr_const h cx (pos 0) Int)
      ∙ ap (λ r. move_by at (pure (pos 1)) (pure (pos 0)) r) (expr_const h cx (pos 7) Int)

  -- ---- the task
  abbrev show_run : Run X Flow
  show_run = each (scalar 1 ∷ []) [] >>= (λ vs. write (printed (37 ∷ 100 ∷ 10 ∷ []) vs) >>= (λ u. pure Next))

  show_is : (at : Place) → plain_of h cx (show at) ≡ show_run
  show_is at = rw (expr_scalar h cx 1 at) refl

  -- ---- all of them
  abbrev runs : Run X Flow → Run X Flow → Run X Flow → Run X Flow → Run X Flow
  runs a b c d = block (a ∷ b ∷ c ∷ d ∷ [])

  abbrev loop_run : Place → List Reduction → Run X Flow → Run X Flow
  loop_run at rs body = h.loop (loop_on at rs) (nest_by at (pure (pos 0)) (pure (pos 8))) body

  abbrev whole_run : Place → Run X Flow
  whole_run at = runs (loop_run at [] (fill_run at)) (move_run at) (loop_run at (sum_of at) (add_run at))
      (h.tasks (task_with h cx at 0 show_run ∷ []))

  pub whole_is : (at : Place) → stmt_of h cx (stmt.Block (statements at)) ≡ whole_run at
  whole_is at = stmt_block h cx (statements at)
      ∙ ap (λ r. runs r second third last) (loop_is at [] (fill at) ∙ ap (loop_run at []) (fill_is at))
      ∙ ap (λ r. runs (loop_run at [] (fill_run at)) r third last) (move_is at)
      ∙ ap (λ r. runs (loop_run at [] (fill_run at)) (move_run at) r last) (loop_is at (sum_of at) (add at) ∙ ap (loop_run at (sum_of at)) (add_is at))
      ∙ ap (λ r. runs (loop_run at [] (fill_run at)) (move_run at) (loop_run at (sum_of at) (add_run at)) r)
      (tasks_are h cx at 0 (show at) ∙ ap (λ r. h.tasks (task_with h cx at 0 r ∷ [])) (show_is at))
    where
      second : Run X Flow
      second = stmt_of h cx (stmt.Plain (plain.Gmove (section_from at 1) (section_from at 0) at))

      third : Run X Flow
      third = stmt_of h cx (stmt.Loop (loop_on at (sum_of at)) (add at))

      last : Run X Flow
      last = stmt_of h cx (task_on at 0 (show at))

-- the report of a run of main's statement
abbrev report_by : Place → Run Notes Flow → List Counts
report_by at main =
    let p = shifted at in
    let end = (state_of (then_run (pure Next) main (beginning Whole p 0 (no_notes p)))).extra in
    map (λ node. record { words = words_on p node; turns = unwrap_or (slice_get end.turns node) 0; sent = sent_in_all p end.exchanges node })
    (range_with_len 0 (node_count p))

main_run : Place → Run Notes Flow
main_run at = whole_run (traced (shifted at)) (main_context (shifted at) 0 []) at

reported : (at : Place) → report_by at (main_run at)
    ≡ record { words = 5; turns = 6; sent = 21 } ∷ record { words = 5; turns = 6; sent = 15 } ∷ record { words = 4; turns = 4; sent = 14 } ∷ []
unfolding main_run three_nodes blocks_of_three map_of_a product row_major unravel all_pass sum_below count_cells holds_at owner_inside count_below binary_of pieces_of digits int_wrap
reported at = refl

pub shifted_reported : (at : Place) → report (shifted at) [] 0
    ≡ record { words = 5; turns = 6; sent = 21 } ∷ record { words = 5; turns = 6; sent = 15 } ∷ record { words = 4; turns = 4; sent = 14 } ∷ []
unfolding main_run
shifted_reported at = ap (report_by at) (whole_is (traced (shifted at)) (main_context (shifted at) 0 []) at) ∙ reported at
