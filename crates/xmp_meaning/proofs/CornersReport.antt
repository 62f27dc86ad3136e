-- The report of a program over a grid of nodes, which reads corners of a shadow.
use Rattle.std.proofs.Common.{◌≡◌, ℕ, ℤ, pos, false, [], ◌∷◌, map, List, refl, None, ap, ◌∙◌}
use Rattle.std.specs.Prelude.{unwrap_or, slice_get}
use Rattle.std.specs.List.{range_with_len}
use Rattle.std.specs.Int.{int_wrap}
use Rattle.std.specs.Fmt.{digits}
use Rattle.xmp_base.specs.declared.place.Place.{Place}
use Rattle.xmp_num.specs.Arithmetic.{binary_of, wrap}
use Rattle.xmp_num.specs.declared.types.Ty.TheVariants.{Int}
use Rattle.xmp_num.specs.declared.types.BinOp.TheVariants as op
use Rattle.xmp_dist.specs.Count.{count_below}
use Rattle.xmp_dist.specs.Owner.{owner_inside}
use Rattle.xmp_map.specs.RowMajor.{product, row_major, unravel}
use Rattle.xmp_map.specs.Boxes.{all_pass, sum_below, count_cells}
use Rattle.xmp_map.specs.Shadow.{holds_at}
use Rattle.xmp_prog.specs.declared.expressions.Expr.TheVariants as expr
use Rattle.xmp_prog.specs.declared.expressions.Expr.TheFolds.{fold-roll-Access}
use Rattle.xmp_prog.specs.declared.statements.Name.{Name}
use Rattle.xmp_prog.specs.declared.statements.Stmt.{Stmt}
use Rattle.xmp_prog.specs.declared.statements.Stmt.TheVariants as stmt
use Rattle.xmp_prog.specs.declared.statements.Plain.TheVariants as plain
use Rattle.xmp_prog.specs.declared.statements.Reduction.{Reduction}
use Rattle.xmp_prog.specs.Fits.{node_count}
use Rattle.xmp_meaning.specs.declared.ends.Flow.{Flow}
use Rattle.xmp_meaning.specs.declared.ends.Flow.TheVariants.{Next}
use Rattle.xmp_meaning.specs.declared.location.Location.TheVariants as location
use Rattle.xmp_meaning.specs.Runs.{Run, ◌>>=◌, pure, or_trap, scalar, set_scalar, write, state_of}
use Rattle.xmp_meaning.specs.Blocks.{each, then_run, block, turns}
use Rattle.xmp_meaning.specs.Declarations.{extents}
use Rattle.xmp_meaning.specs.Layouts.{Whole}
use Rattle.xmp_meaning.specs.Context.{Context}
use Rattle.xmp_meaning.specs.Handlers.{Handlers}
use Rattle.xmp_meaning.specs.Expressions.{Element, element_of, cell_number, checked, image_of, expr_of, expr_step, access_step}
use Rattle.xmp_meaning.specs.Formats.{pieces_of, printed}
use Rattle.xmp_meaning.specs.Assignments.{store}
use Rattle.xmp_meaning.specs.Loops.{is_inside, step_up, turn_count}
use Rattle.xmp_meaning.specs.Statements.{stmt_of, plain_of}
use Rattle.xmp_meaning.specs.Calls.{main_context}
use Rattle.xmp_meaning.specs.Programs.{beginning}
use Rattle.xmp_meaning.specs.Exchanges.{Notes, no_notes, traced}
use Rattle.xmp_meaning.specs.Messages.{sent_in_all}
use Rattle.xmp_meaning.specs.Stores.{words_on}
use Rattle.xmp_meaning.specs.Traffic.{Counts, report}
use Rattle.xmp_meaning.specs.Examples.{number, task_on}
use Rattle.xmp_meaning.specs.Corners.{four_nodes, blocks_of_four, map_of_a, turns_to, loop_on, here, four_times_i, value_here, next, corner, fill, add, sum_of, show, statements, corners}
use Rattle.xmp_meaning.proofs.Forms.{expr_const, expr_scalar, expr_binary, expr_cell, stmt_plain, stmt_block, stmt_loop}
use Rattle.xmp_meaning.proofs.ReadAndPrint.{task_with, tasks_are}

module _ {X : Type 0} (h : Handlers X) (cx : Context) where
  -- ---- loops
  abbrev counted_by : Place → (slot bound : ℕ) → (zero top : Run X ℤ) → Run X Flow → Run X Flow
  counted_by at slot bound zero top body =
      (zero >>= (λ v. set_scalar slot (wrap Int v) >>= (λ u. top >>= (λ w. pure (turn_count (wrap Int v) (wrap Int w) false 1)))))
      >>= (λ n. turns n (scalar slot >>= (λ i. top >>= (λ w. pure (is_inside false i (wrap Int w))))) (then_run body (step_up (turns_to at slot bound))))

  abbrev nest_by : Place → ℕ → (zero top : Run X ℤ) → Run X Flow → Run X Flow
  nest_by at bound zero top body = counted_by at 0 bound zero top (counted_by at 1 bound zero top body)

  loop_is : (at : Place) (bound : ℕ) (rs : List Reduction) (body : Stmt) → stmt_of h cx (stmt.Loop (loop_on at bound rs) body)
      ≡ h.loop (loop_on at bound rs) (nest_by at bound (pure (pos 0)) (pure (pos bound))) (stmt_of h cx body)
  loop_is at bound rs body = stmt_loop h cx (loop_on at bound rs) body
      ∙ ap (λ r. h.loop (loop_on at bound rs) (nest_by at bound r (expr_of h cx (number bound))) (stmt_of h cx body)) (expr_const h cx (pos 0) Int)
      ∙ ap (λ r. h.loop (loop_on at bound rs) (nest_by at bound (pure (pos 0)) r) (stmt_of h cx body)) (expr_const h cx (pos bound) Int)

  -- ---- elements
  abbrev element : Place → (i j : Run X ℤ) → Element X
  element at i j = record { array = 0; subscripts = checked (i ∷ j ∷ []) (extents cx.program 0) at; image = image_of cx 0 None }

  here_is : (at : Place) → element_of h cx (here at) ≡ element at (scalar 0) (scalar 1)
  here_is at = fold-roll-Access (Run X ℤ) (Element X) (expr_step h cx) (access_step cx) _ ∙ rw (expr_scalar h cx 0 at, expr_scalar h cx 1 at) refl

  abbrev next_run : Place → ℕ → Run X ℤ
  next_run at slot = scalar slot >>= (λ x. pure (pos 1) >>= (λ y. or_trap (binary_of op.Add Int x y) at))

  next_is : (at : Place) (slot : ℕ) → expr_of h cx (next at slot) ≡ next_run at slot
  next_is at slot = expr_binary h cx op.Add Int (expr.Scalar slot at) (number 1) at
      ∙ rw (expr_scalar h cx slot at, expr_const h cx (pos 1) Int) refl

  corner_is : (at : Place) → element_of h cx (corner at) ≡ element at (next_run at 0) (next_run at 1)
  corner_is at = fold-roll-Access (Run X ℤ) (Element X) (expr_step h cx) (access_step cx) _ ∙ rw (next_is at 0, next_is at 1) refl

  -- ---- statements
  abbrev value_run : Place → Run X ℤ
  value_run at = (pure (pos 4) >>= (λ x. scalar 0 >>= (λ y. or_trap (binary_of op.Mul Int x y) at)))
      >>= (λ x. scalar 1 >>= (λ y. or_trap (binary_of op.Add Int x y) at))

  value_is : (at : Place) → expr_of h cx (value_here at) ≡ value_run at
  value_is at = expr_binary h cx op.Add Int (four_times_i at) (expr.Scalar 1 at) at
      ∙ rw (expr_binary h cx op.Mul Int (number 4) (expr.Scalar 0 at) at, expr_const h cx (pos 4) Int, expr_scalar h cx 0 at, expr_scalar h cx 1 at) refl

  abbrev fill_run : Place → Run X Flow
  fill_run at = cell_number cx (element at (scalar 0) (scalar 1))
      >>= (λ n. value_run at >>= (λ v. store h cx (location.Cell 0 n) v >>= (λ u. pure Next)))

  fill_is : (at : Place) → stmt_of h cx (fill at) ≡ fill_run at
  fill_is at = stmt_plain h cx _ ∙ rw (here_is at, value_is at) refl

  abbrev add_run : Place → Run X Flow
  add_run at = (scalar 2 >>= (λ old. (cell_number cx (element at (next_run at 0) (next_run at 1)) >>= (λ n. h.get 0 n))
      >>= (λ v. or_trap (binary_of op.Add Int old v) at)))
      >>= (λ v. store h cx (location.Scalar 2) v >>= (λ u. pure Next))

  add_is : (at : Place) → stmt_of h cx (add at) ≡ add_run at
  add_is at = stmt_plain h cx _ ∙ rw (expr_cell h cx (corner at), corner_is at) refl

  abbrev show_run : Run X Flow
  show_run = each (scalar 2 ∷ []) [] >>= (λ vs. write (printed (37 ∷ 100 ∷ 10 ∷ []) vs) >>= (λ u. pure Next))

  show_is : (at : Place) → plain_of h cx (show at) ≡ show_run
  show_is at = rw (expr_scalar h cx 2 at) refl

  -- ---- all of them
  abbrev loop_run : Place → ℕ → List Reduction → Run X Flow → Run X Flow
  loop_run at bound rs body = h.loop (loop_on at bound rs) (nest_by at bound (pure (pos 0)) (pure (pos bound))) body

  abbrev name_a : Place → Name
  name_a at = record { number = 0; at = at }

  abbrev whole_run : Place → Run X Flow
  whole_run at = block (loop_run at 4 [] (fill_run at) ∷ h.reflect (name_a at ∷ []) ∷ loop_run at 3 (sum_of at) (add_run at)
      ∷ h.tasks (task_with h cx at 0 show_run ∷ []) ∷ [])

  pub whole_is : (at : Place) → stmt_of h cx (stmt.Block (statements at)) ≡ whole_run at
  whole_is at = stmt_block h cx (statements at)
      ∙ ap (λ r. block (r ∷ second ∷ third ∷ last ∷ [])) (loop_is at 4 [] (fill at) ∙ ap (loop_run at 4 []) (fill_is at))
      ∙ ap (λ r. block (loop_run at 4 [] (fill_run at) ∷ r ∷ third ∷ last ∷ [])) (stmt_plain h cx (plain.Reflect (name_a at ∷ []) at))
      ∙ ap (λ r. block (loop_run at 4 [] (fill_run at) ∷ h.reflect (name_a at ∷ []) ∷ r ∷ last ∷ []))
      (loop_is at 3 (sum_of at) (add at) ∙ ap (loop_run at 3 (sum_of at)) (add_is at))
      ∙ ap (λ r. block (loop_run at 4 [] (fill_run at) ∷ h.reflect (name_a at ∷ []) ∷ loop_run at 3 (sum_of at) (add_run at) ∷ r ∷ []))
      (tasks_are h cx at 0 (show at) ∙ ap (λ r. h.tasks (task_with h cx at 0 r ∷ [])) (show_is at))
    where
      second : Run X Flow
      second = stmt_of h cx (stmt.Plain (plain.Reflect (name_a at ∷ []) at))

      third : Run X Flow
      third = stmt_of h cx (stmt.Loop (loop_on at 3 (sum_of at)) (add at))

      last : Run X Flow
      last = stmt_of h cx (task_on at 0 (show at))

-- the report of a run of main's statement
abbrev report_by : Place → Run Notes Flow → List Counts
report_by at main =
    let p = corners at in
    let end = (state_of (then_run (pure Next) main (beginning Whole p 0 (no_notes p)))).extra in
    map (λ node. record { words = words_on p node; turns = unwrap_or (slice_get end.turns node) 0; sent = sent_in_all p end.exchanges node })
    (range_with_len 0 (node_count p))

main_run : Place → Run Notes Flow
main_run at = whole_run (traced (corners at)) (main_context (corners at) 0 []) at

reported : (at : Place) → report_by at (main_run at)
    ≡ record { words = 12; turns = 8; sent = 35 } ∷ record { words = 12; turns = 6; sent = 26 }
    ∷ record { words = 12; turns = 6; sent = 26 } ∷ record { words = 12; turns = 5; sent = 26 } ∷ []
unfolding main_run four_nodes blocks_of_four map_of_a product row_major unravel all_pass sum_below count_cells holds_at owner_inside count_below binary_of pieces_of digits int_wrap
reported at = refl

pub corners_reported : (at : Place) → report (corners at) [] 0
    ≡ record { words = 12; turns = 8; sent = 35 } ∷ record { words = 12; turns = 6; sent = 26 }
    ∷ record { words = 12; turns = 6; sent = 26 } ∷ record { words = 12; turns = 5; sent = 26 } ∷ []
unfolding main_run
corners_reported at = ap (report_by at) (whole_is (traced (corners at)) (main_context (corners at) 0 []) at) ∙ reported at
