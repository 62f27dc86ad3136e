-- The accesses of a program of two images.
use Rattle.std.proofs.Common.{◌≡◌, ◌++◌, ◌%◌, ℕ, ℤ, pos, [], ◌∷◌, List, refl, Some, None, ap, ◌∙◌}
use Rattle.xmp_base.specs.declared.place.Place.{Place}
use Rattle.std.specs.Int.{int_wrap}
use Rattle.xmp_num.specs.Arithmetic.{binary_of}
use Rattle.xmp_num.specs.declared.types.Ty.TheVariants.{Int}
use Rattle.xmp_num.specs.declared.types.BinOp.TheVariants as op
use Rattle.xmp_map.specs.RowMajor.{product}
use Rattle.xmp_prog.specs.declared.expressions.Expr.TheVariants as expr
use Rattle.xmp_prog.specs.declared.expressions.Expr.TheFolds.{fold-roll-Access}
use Rattle.xmp_prog.specs.declared.expressions.Access.{roll-Access}
use Rattle.xmp_prog.specs.declared.statements.Stmt.TheVariants as stmt
use Rattle.xmp_prog.proofs.Rolls as rolls
use Rattle.xmp_meaning.specs.declared.ends.Flow.{Flow}
use Rattle.xmp_meaning.specs.declared.ends.Flow.TheVariants.{Next}
use Rattle.xmp_meaning.specs.declared.location.Location.TheVariants as location
use Rattle.xmp_meaning.specs.Runs.{Run, ◌>>=◌, pure, or_trap, set_scalar, state_of, end_of}
use Rattle.xmp_meaning.specs.Blocks.{then_run, block}
use Rattle.xmp_meaning.specs.Layouts.{Whole}
use Rattle.xmp_meaning.specs.Declarations.{extents}
use Rattle.xmp_meaning.specs.Context.{Context}
use Rattle.xmp_meaning.specs.Handlers.{Handlers}
use Rattle.xmp_meaning.specs.Expressions.{Element, element_of, cell_number, checked, image_of, expr_of, expr_step, access_step}
use Rattle.xmp_meaning.specs.Assignments.{store}
use Rattle.xmp_meaning.specs.Statements.{stmt_of}
use Rattle.xmp_meaning.specs.Calls.{main_context}
use Rattle.xmp_meaning.specs.Programs.{beginning}
use Rattle.xmp_meaning.specs.Phases.{Memory}
use Rattle.xmp_meaning.specs.SharedWords.{notice_word}
use Rattle.xmp_meaning.specs.Accesses.{Access, Get, Put, Accessed, noting_image, notice_of, phase_accesses}
use Rattle.xmp_meaning.specs.Examples.{two_nodes, number, next_image, put_next, sync_st, get_own, put_and_get, after_first}
use Rattle.xmp_meaning.proofs.Forms.{expr_const, expr_cell, expr_binary, stmt_plain, stmt_block}

module _ {X : Type 0} (h : Handlers X) (cx : Context) where
  node_run : Run X ℤ
  node_run = pure (pos cx.node)

  node_is : expr_of h cx expr.Node ≡ pure (pos cx.node)
  node_is = rolls.at_node (Run X ℤ) (Element X) (expr_step h cx) (access_step cx)

  abbrev image_run : Place → Run X ℤ
  image_run at = (pure (pos cx.node) >>= (λ x. pure (pos 1) >>= (λ y. or_trap (binary_of op.Add Int x y) at)))
      >>= (λ x. pure (pos 2) >>= (λ y. or_trap (binary_of op.Rem Int x y) at))

  image_is : (at : Place) → expr_of h cx (next_image at) ≡ image_run at
  image_is at = expr_binary h cx op.Rem Int (expr.Binary op.Add Int expr.Node (number 1) at) (number 2) at
      ∙ rw (expr_binary h cx op.Add Int expr.Node (number 1) at, node_is, expr_const h cx (pos 1) Int, expr_const h cx (pos 2) Int) refl

  abbrev element : Place → Run X ℕ → Element X
  element at image = record { array = 0; subscripts = checked (pure (pos 0) ∷ []) (extents cx.program 0) at; image = image }

  next_element : (at : Place) → element_of h cx (roll-Access (record { array = 0; subscripts = number 0 ∷ []; image = Some (next_image at); at = at }))
      ≡ element at (image_of cx 0 (Some (image_run at)))
  next_element at = fold-roll-Access (Run X ℤ) (Element X) (expr_step h cx) (access_step cx) _
      ∙ rw (image_is at, expr_const h cx (pos 0) Int) refl

  own_element : (at : Place) → element_of h cx (roll-Access (record { array = 0; subscripts = number 0 ∷ []; image = None; at = at }))
      ≡ element at (image_of cx 0 None)
  own_element at = fold-roll-Access (Run X ℤ) (Element X) (expr_step h cx) (access_step cx) _ ∙ rw (expr_const h cx (pos 0) Int) refl

  abbrev put_run : Place → Run X Flow
  put_run at = cell_number cx (element at (image_of cx 0 (Some (image_run at))))
      >>= (λ n. pure (pos cx.node) >>= (λ v. store h cx (location.Cell 0 n) v >>= (λ u. pure Next)))

  abbrev sync_run : Run X Flow
  sync_run = then_run h.sync (set_scalar 0 (pos 0) >>= (λ u. pure Next))

  abbrev get_run : Place → Run X Flow
  get_run at = (cell_number cx (element at (image_of cx 0 None)) >>= (λ n. h.get 0 n)) >>= (λ v. store h cx (location.Scalar 0) v >>= (λ u. pure Next))

  put_is : (at : Place) → stmt_of h cx (put_next at) ≡ put_run at
  put_is at = stmt_plain h cx _ ∙ rw (next_element at, node_is) refl

  get_is : (at : Place) → stmt_of h cx (get_own at) ≡ get_run at
  get_is at = stmt_plain h cx _ ∙ rw (expr_cell h cx (roll-Access (record { array = 0; subscripts = number 0 ∷ []; image = None; at = at })), own_element at) refl

  abbrev whole_run : Place → Run X Flow
  whole_run at = block (put_run at ∷ sync_run ∷ get_run at ∷ [])

  pub whole_is : (at : Place) → stmt_of h cx (stmt.Block (put_next at ∷ sync_st at ∷ get_own at ∷ [])) ≡ whole_run at
  whole_is at = stmt_block h cx _
      ∙ ap (λ r. block (r ∷ stmt_of h cx (sync_st at) ∷ stmt_of h cx (get_own at) ∷ [])) (put_is at)
      ∙ ap (λ r. block (put_run at ∷ r ∷ stmt_of h cx (get_own at) ∷ [])) (stmt_plain h cx _)
      ∙ ap (λ r. block (put_run at ∷ sync_run ∷ r ∷ [])) (get_is at)

-- the accesses of a phase by a run of main's statement
abbrev accesses_by : Place → List Memory → (phase image : ℕ) → Run Accessed Flow → List Access
accesses_by at starts phase image main =
    let step = then_run (pure Next) main (beginning Whole (put_and_get at) 0 (record { starts = starts; accesses = [] })) in
    (state_of step).extra.accesses ++ Put (notice_word (put_and_get at) image (phase % 2)) (notice_of (end_of step)) ∷ []

main_run : Place → ℕ → Run Accessed Flow
main_run at image = whole_run (noting_image (put_and_get at)) (main_context (put_and_get at) image []) at

by_run : (at : Place) (starts : List Memory) (phase image : ℕ) → phase_accesses (put_and_get at) starts phase image ≡ accesses_by at starts phase image (main_run at image)
unfolding main_run
by_run at starts phase image =
    ap (accesses_by at starts phase image) (whole_is (noting_image (put_and_get at)) (main_context (put_and_get at) image []) at)

first_0 : (at : Place) → accesses_by at [] 0 0 (main_run at 0) ≡ Put 1 (pos 0) ∷ Put 2 (pos 0) ∷ []
unfolding main_run two_nodes product binary_of int_wrap
first_0 at = refl

first_1 : (at : Place) → accesses_by at [] 0 1 (main_run at 1) ≡ Put 0 (pos 1) ∷ Put 4 (pos 0) ∷ []
unfolding main_run two_nodes product binary_of int_wrap
first_1 at = refl

second_0 : (at : Place) → accesses_by at after_first 1 0 (main_run at 0) ≡ Get 0 ∷ Put 3 (pos 0) ∷ []
unfolding main_run two_nodes product binary_of int_wrap
second_0 at = refl

second_1 : (at : Place) → accesses_by at after_first 1 1 (main_run at 1) ≡ Get 1 ∷ Put 5 (pos 0) ∷ []
unfolding main_run two_nodes product binary_of int_wrap
second_1 at = refl

pub put_first : (at : Place) → (phase_accesses (put_and_get at) [] 0 0 ≡ Put 1 (pos 0) ∷ Put 2 (pos 0) ∷ [])
    × (phase_accesses (put_and_get at) [] 0 1 ≡ Put 0 (pos 1) ∷ Put 4 (pos 0) ∷ [])
put_first at = (by_run at [] 0 0 ∙ first_0 at, by_run at [] 0 1 ∙ first_1 at)

pub get_then : (at : Place) → (phase_accesses (put_and_get at) after_first 1 0 ≡ Get 0 ∷ Put 3 (pos 0) ∷ [])
    × (phase_accesses (put_and_get at) after_first 1 1 ≡ Get 1 ∷ Put 5 (pos 0) ∷ [])
get_then at = (by_run at after_first 1 0 ∙ second_0 at, by_run at after_first 1 1 ∙ second_1 at)
