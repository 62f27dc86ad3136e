-- The parts of the program of squares fit.
use Rattle.std.proofs.Common.{◌≡◌, refl, ℕ, List, [], ◌∷◌, ◌++◌, ◌∙◌, ap, sym, subst, arith}
use Rattle.std.specs.List.{flat_map, list_all, count_by, AllByRecursion}
use Rattle.std.specs.Prelude.{◌+◌, ◌*◌, ◌≤◌, ◌==◌, not, nat_lt, nat_le, take, Bool, true, false, ◌&&◌, IsTrue, Some, None, pos}
use Rattle.xmp_base.specs.declared.place.Place.{Place}
use Rattle.xmp_num.specs.declared.types.Ty.TheVariants.{Int}
use Rattle.xmp_num.specs.declared.types.BinOp.TheVariants as op
use Rattle.xmp_map.specs.declared.grid.Grid.{Grid}
use Rattle.xmp_map.specs.declared.template.Template.{Template}
use Rattle.xmp_map.specs.declared.array_map.ArrayMap.{ArrayMap}
use Rattle.xmp_map.specs.declared.spread_dim.SpreadDim.{SpreadDim}
use Rattle.xmp_map.specs.Held.{extents}
use Rattle.xmp_map.specs.RowMajor.{product}
use Rattle.xmp_prog.specs.declared.expressions.Expr.TheVariants as expr
use Rattle.xmp_prog.specs.declared.expressions.Access.{fold-roll-Access}
use Rattle.xmp_prog.specs.declared.expressions.Expr.TheFolds.{fold-Access}
use Rattle.xmp_prog.specs.declared.expressions.Expr.TheOpen.{Expr-F}
use Rattle.xmp_prog.specs.declared.statements.Point.TheVariants as point
use Rattle.xmp_prog.specs.declared.statements.LoopDirective.{LoopDirective}
use Rattle.xmp_prog.specs.declared.statements.Plain.{Plain}
use Rattle.xmp_prog.specs.declared.statements.Plain.TheVariants as plain
use Rattle.xmp_prog.specs.declared.statements.Stmt.{Stmt, out-Stmt, out-roll-Stmt}
use Rattle.xmp_prog.specs.declared.statements.Stmt.TheVariants as stmt
use Rattle.xmp_prog.specs.declared.statements.Stmt.TheOpen.{Stmt-F}
use Rattle.xmp_prog.specs.declared.statements.Task.{Task, roll-Task, fold-roll-Task}
use Rattle.xmp_prog.specs.declared.parts.ProgParts.{ProgParts}
use Rattle.xmp_prog.specs.Terms.{Typed, Term, typed, typed_step, access_step, slots_of_terms}
use Rattle.xmp_prog.specs.Statements.{arrays_beside, slots_in, slots_of_stmt, terms_of_stmt, terms_in, walked, Walked, WalkedTask, walk_step, walk_task, Statement}
use Rattle.xmp_prog.specs.Scopes.{Scoped, declared_by, scope_step, scoped, fits_in_order, scalars_fit, in_main, in_function}
use Rattle.xmp_prog.specs.Formats.{Byte, Number}
use Rattle.xmp_prog.specs.Numbers.{is_in, apart, pairwise, same_type}
use Rattle.xmp_prog.specs.NodeSets.{lies_inside}
use Rattle.xmp_prog.specs.Counted.{is_bound_term}
use Rattle.xmp_prog.specs.Directives.{names_template, has_points, is_small_point, has_indices, distributed_indexed, indices_once, indices_of_nest, at_loops, nest_counted, side_fits, sections_agree, at_gmoves, cast_fits, tasks_inside, tasks_apart}
use Rattle.xmp_prog.specs.Tests.{constant_fits, operands_fit, choice_fits, element_fits, calls_below, arguments_fit, image_fits, asks_no_node, is_no_sync, is_no_element, stands_in_function, counted_fits, assignment_fits, constant_step, is_return, returns_last, last_returns}
use Rattle.xmp_prog.specs.Fits.{PartsFit, PrintFits, all_terms, all_statements, statements_of_program, terms_of_program, declared}
use Rattle.xmp_prog.specs.Examples.{number}
use Rattle.xmp_prog.specs.Squares.{square, product_of, over, sum_of, cell_i, square_i, fill, add, show, finish, first_node, squares_body, squares, IsMade}
use Rattle.xmp_prog.proofs.ExampleLaws.{typed_number, typed_scalar, walked_plain, five}
use Rattle.xmp_prog.proofs.Rolls.{at_const, at_binary, at_call, at_cell, at_plain, at_block, at_loop, at_tasks}

-- ---- statements

abbrev first_loop : Place → Walked
first_loop at = walk_step (Stmt-F.Loop (over at []) (walk_step (Stmt-F.Plain (fill at))))

abbrev second_loop : Place → Walked
second_loop at = walk_step (Stmt-F.Loop (over at (sum_of at)) (walk_step (Stmt-F.Plain (add at))))

abbrev the_task : Place → Walked
the_task at = walk_step (Stmt-F.Tasks (walk_task (record { nodes = first_node; body = walk_step (Stmt-F.Plain (show at)); at = at }) ∷ []) at)

walked_loop : (d : LoopDirective) (s : Plain) → walked (stmt.Loop d (stmt.Plain s)) ≡ walk_step (Stmt-F.Loop d (walk_step (Stmt-F.Plain s)))
walked_loop d s = at_loop Walked WalkedTask walk_step walk_task d (stmt.Plain s) ∙ ap (λ (w : Walked). walk_step (Stmt-F.Loop d w)) (walked_plain s)

walked_task : (at : Place) → walked (stmt.Tasks (roll-Task (record { nodes = first_node; body = stmt.Plain (show at); at = at }) ∷ []) at) ≡ the_task at
walked_task at =
    at_tasks Walked WalkedTask walk_step walk_task (roll-Task (record { nodes = first_node; body = stmt.Plain (show at); at = at }) ∷ []) at
    ∙ ap (λ (t : WalkedTask). walk_step (Stmt-F.Tasks (t ∷ []) at)) (
    fold-roll-Task Walked WalkedTask walk_step walk_task (record { nodes = first_node; body = stmt.Plain (show at); at = at })
    ∙ ap (λ (w : Walked). walk_task (record { nodes = first_node; body = w; at = at })) (walked_plain (show at)))

abbrev main_walked : Place → Walked
main_walked at = walk_step (Stmt-F.Block (first_loop at ∷ second_loop at ∷ the_task at ∷ walk_step (Stmt-F.Plain finish) ∷ []))

walked_main : (at : Place) → walked (squares_body at) ≡ main_walked at
walked_main at =
    at_block Walked WalkedTask walk_step walk_task (
    stmt.Loop (over at []) (stmt.Plain (fill at))
    ∷ stmt.Loop (over at (sum_of at)) (stmt.Plain (add at))
    ∷ stmt.Tasks (roll-Task (record { nodes = first_node; body = stmt.Plain (show at); at = at }) ∷ []) at
    ∷ stmt.Plain finish ∷ [])
    ∙ five (λ (a b c d e : Walked). walk_step (Stmt-F.Block (a ∷ b ∷ c ∷ d ∷ [])))
    (walked_loop (over at []) (fill at)) (walked_loop (over at (sum_of at)) (add at)) (walked_task at) (walked_plain finish) (walked_plain finish)

abbrev square_walked : Place → Walked
square_walked at = walk_step (Stmt-F.Block (walk_step (Stmt-F.Plain (plain.Declare 3 (Some (expr.Scalar 2 at)) at)) ∷ walk_step (Stmt-F.Plain (plain.Return (product_of at))) ∷ []))

walked_square : (at : Place) → walked (square at).body ≡ square_walked at
walked_square at =
    at_block Walked WalkedTask walk_step walk_task (stmt.Plain (plain.Declare 3 (Some (expr.Scalar 2 at)) at) ∷ stmt.Plain (plain.Return (product_of at)) ∷ [])
    ∙ five (λ (a b c d e : Walked). walk_step (Stmt-F.Block (a ∷ b ∷ [])))
    (walked_plain (plain.Declare 3 (Some (expr.Scalar 2 at)) at)) (walked_plain (plain.Return (product_of at))) (walked_plain finish) (walked_plain finish) (walked_plain finish)

-- ---- terms

abbrev scalar_typed : ProgParts → Place → ℕ → Typed
scalar_typed p at slot = typed_step p (Expr-F.Scalar slot at)

abbrev number_typed : ProgParts → ℕ → Typed
number_typed p n = typed_step p (Expr-F.Const (pos n) Int)

abbrev cell_typed : ProgParts → Place → Typed
cell_typed p at = access_step p (record { array = 0; subscripts = scalar_typed p at 0 ∷ []; image = None; at = at })

access_is : (p : ProgParts) (at : Place) → fold-Access Typed Typed (typed_step p) (access_step p) (cell_i at) ≡ cell_typed p at
access_is p at =
    fold-roll-Access Typed Typed (typed_step p) (access_step p) (record { array = 0; subscripts = expr.Scalar 0 at ∷ []; image = None; at = at })
    ∙ ap (λ (t : Typed). access_step p (record { array = 0; subscripts = t ∷ []; image = None; at = at })) (typed_scalar p 0 at)

cell_is : (p : ProgParts) (at : Place) → typed p (expr.Cell (cell_i at)) ≡ typed_step p (Expr-F.Cell (cell_typed p at))
cell_is p at = at_cell Typed Typed (typed_step p) (access_step p) (cell_i at) ∙ ap (λ (t : Typed). typed_step p (Expr-F.Cell t)) (access_is p at)

call_is : (p : ProgParts) (at : Place) → typed p (square_i at) ≡ typed_step p (Expr-F.Call 0 (scalar_typed p at 0 ∷ []) at)
call_is p at = at_call Typed Typed (typed_step p) (access_step p) 0 (expr.Scalar 0 at ∷ []) at
    ∙ ap (λ (t : Typed). typed_step p (Expr-F.Call 0 (t ∷ []) at)) (typed_scalar p 0 at)

product_is : (p : ProgParts) (at : Place) → typed p (product_of at) ≡ typed_step p (Expr-F.Binary op.Mul Int (scalar_typed p at 3) (scalar_typed p at 2) at)
product_is p at = at_binary Typed Typed (typed_step p) (access_step p) op.Mul Int (expr.Scalar 3 at) (expr.Scalar 2 at) at
    ∙ five (λ (a b c d e : Typed). typed_step p (Expr-F.Binary op.Mul Int a b at)) (typed_scalar p 3 at) (typed_scalar p 2 at) (typed_scalar p 2 at) (typed_scalar p 2 at) (typed_scalar p 2 at)

-- those of main: of `0`, `10`, `a[i]` as a target, `square(i)`, `a[i]`, and then `s`
abbrev terms_before : Typed → Typed → Typed → Typed → Typed → List Term → List Term
terms_before zero ten a b c rest = ((zero.terms ++ ten.terms) ++ []) ++ ((a.terms ++ b.terms) ++ (((zero.terms ++ ten.terms) ++ []) ++ (c.terms ++ rest)))

abbrev main_terms : ProgParts → Place → List Term
main_terms p at = terms_before (number_typed p 0) (number_typed p 10) (cell_typed p at) (typed_step p (Expr-F.Call 0 (scalar_typed p at 0 ∷ []) at))
    (typed_step p (Expr-F.Cell (cell_typed p at))) (((scalar_typed p at 1).terms ++ []) ++ ((number_typed p 0).terms ++ []))

terms_of_main : (p : ProgParts) (at : Place) → terms_of_stmt p (squares_body at) ≡ main_terms p at
terms_of_main p at =
    ap (λ (w : Walked). flat_map (terms_in p) w.statements) (walked_main at)
    ∙ (five (λ (zero ten a b c : Typed). terms_before zero ten a b c (((typed p (expr.Scalar 1 at)).terms ++ []) ++ ((typed p (number 0)).terms ++ [])))
    (typed_number p 0) (typed_number p 10) (access_is p at) (call_is p at) (cell_is p at)
    ∙ five (λ (s zero x y z : Typed). terms_before (number_typed p 0) (number_typed p 10) (cell_typed p at) (typed_step p (Expr-F.Call 0 (scalar_typed p at 0 ∷ []) at))
    (typed_step p (Expr-F.Cell (cell_typed p at))) ((s.terms ++ []) ++ (zero.terms ++ [])))
    (typed_scalar p 1 at) (typed_number p 0) (typed_number p 0) (typed_number p 0) (typed_number p 0))

abbrev square_terms : ProgParts → Place → List Term
square_terms p at = (scalar_typed p at 2).terms ++ ((typed_step p (Expr-F.Binary op.Mul Int (scalar_typed p at 3) (scalar_typed p at 2) at)).terms ++ [])

terms_of_square : (p : ProgParts) (at : Place) → terms_of_stmt p (square at).body ≡ square_terms p at
terms_of_square p at =
    ap (λ (w : Walked). flat_map (terms_in p) w.statements) (walked_square at)
    ∙ five (λ (a b c d e : Typed). a.terms ++ (b.terms ++ [])) (typed_scalar p 2 at) (product_is p at) (product_is p at) (product_is p at) (product_is p at)

-- ---- all of the program

statements_are : (grid : Grid) (t : Template) (m : ArrayMap) (at : Place) → statements_of_program (squares grid t m at) ≡ ((square_walked at).statements ++ []) ++ (main_walked at).statements
statements_are grid t m at = five (λ (a b c d e : Walked). (a.statements ++ []) ++ b.statements) (walked_square at) (walked_main at) (walked_main at) (walked_main at) (walked_main at)

abbrev program_terms : ProgParts → Place → List Term
program_terms p at = ((number_typed p 0).terms ++ []) ++ ((square_terms p at ++ []) ++ main_terms p at)

terms_are : (grid : Grid) (t : Template) (m : ArrayMap) (at : Place) → terms_of_program (squares grid t m at) ≡ program_terms (squares grid t m at) at
terms_are grid t m at =
    let p : ProgParts = squares grid t m at in
    ap (λ (x : Typed). (x.terms ++ []) ++ ((terms_of_stmt p (square at).body ++ []) ++ terms_of_stmt p (squares_body at))) (typed_number p 0)
    ∙ (ap (λ (ts : List Term). ((number_typed p 0).terms ++ []) ++ ((ts ++ []) ++ terms_of_stmt p (squares_body at))) (terms_of_square p at)
    ∙ ap (λ (ts : List Term). ((number_typed p 0).terms ++ []) ++ ((square_terms p at ++ []) ++ ts)) (terms_of_main p at))

declared_are : (grid : Grid) (t : Template) (m : ArrayMap) (at : Place) → declared (squares grid t m at) ≡ 3 ∷ []
declared_are grid t m at = five (λ (a b c d e : Walked). (flat_map declared_by a.statements ++ []) ++ flat_map declared_by b.statements)
    (walked_square at) (walked_main at) (walked_main at) (walked_main at) (walked_main at)

-- ---- scalars

main_slots : (p : ProgParts) (at : Place) → slots_of_stmt p (squares_body at) ≡ 0 ∷ 0 ∷ 0 ∷ 0 ∷ 0 ∷ 0 ∷ 1 ∷ 1 ∷ 0 ∷ 1 ∷ []
main_slots p at =
    ap (λ (w : Walked). flat_map (slots_in p) w.statements) (walked_main at)
    ∙ (five (λ (zero ten a b c : Typed). 0 ∷ 0 ∷ (slots_of_terms ((zero.terms ++ ten.terms) ++ []) ++ (slots_of_terms (a.terms ++ b.terms)
    ++ (0 ∷ 0 ∷ 1 ∷ (slots_of_terms ((zero.terms ++ ten.terms) ++ []) ++ (1 ∷ (slots_of_terms c.terms
    ++ (slots_of_terms ((typed p (expr.Scalar 1 at)).terms ++ []) ++ (slots_of_terms (typed p (number 0)).terms ++ [])))))))))
    (typed_number p 0) (typed_number p 10) (access_is p at) (call_is p at) (cell_is p at)
    ∙ five (λ (s zero x y z : Typed). 0 ∷ 0 ∷ 0 ∷ 0 ∷ 0 ∷ 0 ∷ 1 ∷ 1 ∷ 0 ∷ (slots_of_terms (s.terms ++ []) ++ (slots_of_terms zero.terms ++ [])))
    (typed_scalar p 1 at) (typed_number p 0) (typed_number p 0) (typed_number p 0) (typed_number p 0))

square_slots : (p : ProgParts) (at : Place) → slots_of_stmt p (square at).body ≡ 3 ∷ 2 ∷ 3 ∷ 2 ∷ []
square_slots p at =
    ap (λ (w : Walked). flat_map (slots_in p) w.statements) (walked_square at)
    ∙ five (λ (a b c d e : Typed). 3 ∷ (slots_of_terms a.terms ++ (slots_of_terms b.terms ++ []))) (typed_scalar p 2 at) (product_is p at) (product_is p at) (product_is p at) (product_is p at)

scoped_plain : (p : ProgParts) (may : List ℕ → ℕ → Bool) (s : Plain) → scoped p may (stmt.Plain s) ≡ scope_step p may (Stmt-F.Plain s)
scoped_plain p may s = at_plain Scoped Scoped (scope_step p may) (λ t. t.body) s

scoped_loop : (p : ProgParts) (may : List ℕ → ℕ → Bool) (d : LoopDirective) (s : Plain) → scoped p may (stmt.Loop d (stmt.Plain s)) ≡ scope_step p may (Stmt-F.Loop d (scope_step p may (Stmt-F.Plain s)))
scoped_loop p may d s = at_loop Scoped Scoped (scope_step p may) (λ t. t.body) d (stmt.Plain s) ∙ ap (λ (w : Scoped). scope_step p may (Stmt-F.Loop d w)) (scoped_plain p may s)

scoped_task : (p : ProgParts) (may : List ℕ → ℕ → Bool) (at : Place) → scoped p may (stmt.Tasks (roll-Task (record { nodes = first_node; body = stmt.Plain (show at); at = at }) ∷ []) at)
    ≡ scope_step p may (Stmt-F.Tasks (scope_step p may (Stmt-F.Plain (show at)) ∷ []) at)
scoped_task p may at =
    at_tasks Scoped Scoped (scope_step p may) (λ t. t.body) (roll-Task (record { nodes = first_node; body = stmt.Plain (show at); at = at }) ∷ []) at
    ∙ ap (λ (t : Scoped). scope_step p may (Stmt-F.Tasks (t ∷ []) at)) (
    fold-roll-Task Scoped Scoped (scope_step p may) (λ t. t.body) (record { nodes = first_node; body = stmt.Plain (show at); at = at })
    ∙ scoped_plain p may (show at))

abbrev main_fits : (List ℕ → ℕ → Bool) → Typed → Typed → Typed → Typed → Typed → Typed → Typed → Bool
main_fits may zero ten a b c s end =
    (list_all (may []) (0 ∷ 0 ∷ slots_of_terms ((zero.terms ++ ten.terms) ++ [])) && (list_all (may []) (slots_of_terms (a.terms ++ b.terms)) && true))
    && ((list_all (may []) (0 ∷ 0 ∷ 1 ∷ slots_of_terms ((zero.terms ++ ten.terms) ++ [])) && (list_all (may []) (1 ∷ slots_of_terms c.terms) && true))
    && (((list_all (may []) (slots_of_terms (s.terms ++ [])) && true) && true)
    && ((list_all (may []) (slots_of_terms end.terms) && true) && true)))

main_scoped : (p : ProgParts) (may : List ℕ → ℕ → Bool) (at : Place) → scalars_fit p may (squares_body at) []
    ≡ main_fits may (number_typed p 0) (number_typed p 10) (cell_typed p at) (typed_step p (Expr-F.Call 0 (scalar_typed p at 0 ∷ []) at)) (typed_step p (Expr-F.Cell (cell_typed p at))) (scalar_typed p at 1) (number_typed p 0)
main_scoped p may at =
    ap (λ (w : Scoped). w.fits []) (at_block Scoped Scoped (scope_step p may) (λ t. t.body) (
    stmt.Loop (over at []) (stmt.Plain (fill at))
    ∷ stmt.Loop (over at (sum_of at)) (stmt.Plain (add at))
    ∷ stmt.Tasks (roll-Task (record { nodes = first_node; body = stmt.Plain (show at); at = at }) ∷ []) at
    ∷ stmt.Plain finish ∷ []))
    ∙ (five (λ (a b c d e : Scoped). fits_in_order (a ∷ b ∷ c ∷ d ∷ []) [])
    (scoped_loop p may (over at []) (fill at)) (scoped_loop p may (over at (sum_of at)) (add at)) (scoped_task p may at) (scoped_plain p may finish) (scoped_plain p may finish)
    ∙ (five (λ (zero ten a b c : Typed). main_fits may zero ten a b c (typed p (expr.Scalar 1 at)) (typed p (number 0)))
    (typed_number p 0) (typed_number p 10) (access_is p at) (call_is p at) (cell_is p at)
    ∙ five (λ (s end x y z : Typed). main_fits may (number_typed p 0) (number_typed p 10) (cell_typed p at) (typed_step p (Expr-F.Call 0 (scalar_typed p at 0 ∷ []) at)) (typed_step p (Expr-F.Cell (cell_typed p at))) s end)
    (typed_scalar p 1 at) (typed_number p 0) (typed_number p 0) (typed_number p 0) (typed_number p 0)))

square_scoped : (p : ProgParts) (at : Place) → scalars_fit p in_function (square at).body (2 ∷ []) ≡ true
square_scoped p at =
    ap (λ (w : Scoped). w.fits (2 ∷ [])) (at_block Scoped Scoped (scope_step p in_function) (λ t. t.body) (
    stmt.Plain (plain.Declare 3 (Some (expr.Scalar 2 at)) at) ∷ stmt.Plain (plain.Return (product_of at)) ∷ []))
    ∙ (five (λ (a b c d e : Scoped). fits_in_order (a ∷ b ∷ []) (2 ∷ []))
    (scoped_plain p in_function (plain.Declare 3 (Some (expr.Scalar 2 at)) at)) (scoped_plain p in_function (plain.Return (product_of at)))
    (scoped_plain p in_function finish) (scoped_plain p in_function finish) (scoped_plain p in_function finish)
    ∙ five (λ (a b c d e : Typed). (list_all (in_function (3 ∷ 2 ∷ [])) (3 ∷ slots_of_terms a.terms) && true) && ((list_all (in_function (3 ∷ 2 ∷ [])) (slots_of_terms b.terms) && true) && true))
    (typed_scalar p 2 at) (product_is p at) (product_is p at) (product_is p at) (product_is p at))

-- ---- the program fits

few_cells : (0 + product (10 ∷ [])) * 1 ≤ 4194304
unfolding product
few_cells = omega arith

indexed : (ss : List SpreadDim) → distributed_indexed ss (point.Index 0 (pos 0) ∷ []) ≡ true
indexed [] = refl
indexed (s ∷ ss) = tail ss
  where
    tail : (ss : List SpreadDim) → distributed_indexed ss [] ≡ true
    tail [] = refl
    tail (s ∷ ss) = refl

map_fits : (m : ArrayMap) → m.dims ≡ 1 → extents m ≡ 10 ∷ 1 ∷ 1 ∷ [] → take m.dims (extents m) ≡ 10 ∷ []
map_fits m d e = rw (d, e) refl

formats_fit : (grid : Grid) (t : Template) (m : ArrayMap) (at : Place) → AllByRecursion (PrintFits (squares grid t m at)) (((square_walked at).statements ++ []) ++ (main_walked at).statements)
formats_fit grid t m at = (
  tt,
  (
    tt,
    (
      tt,
      (
        tt,
        (
          tt,
          (
            tt,
            (
              tt,
              (
                tt,
                (
                  tt,
                  (
                    record {
                      pieces = Number 0 Int ∷ Byte 10 ∷ [];
                      pieces_fit = refl;
                      spelled = refl;
                      types_asked = ap (λ (x : Typed). x.ty ∷ []) (sym (typed_scalar (squares grid t m at) 1 at));
                    },
                    (tt, tt),
                  ),
                ),
              ),
            ),
          ),
        ),
      ),
    ),
  ),
)

out_block : (ss : List Stmt) → out-Stmt (stmt.Block ss) ≡ Stmt-F.Block ss
out_block ss = ap out-Stmt (sym (stmt.rolls-Block ss)) ∙ out-roll-Stmt (Stmt-F.Block ss)

out_plain : (s : Plain) → out-Stmt (stmt.Plain s) ≡ Stmt-F.Plain s
out_plain s = ap out-Stmt (sym (stmt.rolls-Plain s)) ∙ out-roll-Stmt (Stmt-F.Plain s)

returns_fit : (at : Place) → IsTrue (returns_last (squares_body at))
returns_fit at = ap (λ (w : Walked). nat_le (count_by is_return w.statements) (last_returns (out-Stmt (squares_body at)))) (walked_main at)
    ∙ (ap (λ (l : Stmt-F Stmt Task). nat_le 1 (last_returns l)) (out_block (
    stmt.Loop (over at []) (stmt.Plain (fill at))
    ∷ stmt.Loop (over at (sum_of at)) (stmt.Plain (add at))
    ∷ stmt.Tasks (roll-Task (record { nodes = first_node; body = stmt.Plain (show at); at = at }) ∷ []) at
    ∷ stmt.Plain finish ∷ []))
    ∙ ap (λ (l : Stmt-F Stmt Task). nat_le 1 (count_by is_return (l ∷ []))) (out_plain finish))

pub squares_fit : (grid : Grid) (t : Template) (m : ArrayMap) (at : Place) → IsMade grid t m → PartsFit (squares grid t m at)
squares_fit grid t m at made =
    let p : ProgParts = squares grid t m at in
    let terms : (test : Term → Bool) → IsTrue (list_all test (program_terms p at)) → IsTrue (all_terms p test) = λ test h. rw (terms_are grid t m at) h in
    let stmts : (test : Statement → Bool) → IsTrue (list_all test (((square_walked at).statements ++ []) ++ (main_walked at).statements)) → IsTrue (all_statements p test) = λ test h. rw (statements_are grid t m at) h in
    let bound : (w : List ℕ) → Typed → Bool = λ w x. same_type x.ty Int && (list_all is_bound_term x.terms && (not (is_in (slots_of_terms x.terms) 0) && (apart (0 ∷ slots_of_terms x.terms) w && true))) in
    record {
      mappings = record { templates = (made.on_grid, tt); maps = (record { template = ap Some (sym made.on_template); extents = map_fits m made.one_side made.ten }, tt); extents = refl; cells = few_cells };
      kinds = record { coarrays = refl; spread = refl; node_numbers = terms asks_no_node refl; syncs = stmts is_no_sync refl; images = terms (image_fits p) refl };
      expressions = record { constants = terms constant_fits refl; operands = terms operands_fit refl; choices = terms choice_fits refl; elements = terms (element_fits p) refl; calls = terms (calls_below 1) refl; arguments = terms (arguments_fit p) refl };
      statements = record {
        assignments = stmts (assignment_fits p) (ap (λ (x : Typed). same_type Int x.ty && true) (cell_is p at));
        counted = stmts (counted_fits p) refl;
        returns = returns_fit at;
        formats = subst (λ ss. AllByRecursion (PrintFits p) ss) (sym (statements_are grid t m at)) (formats_fit grid t m at);
      };
      directives = record {
        loop_templates = stmts (at_loops (names_template p)) refl;
        points = stmts (at_loops (has_points p)) (ap (λ d. (1 == d) && ((1 == d) && true)) made.one_dim);
        constants = stmts (at_loops (λ d. list_all is_small_point d.points)) refl;
        distributed = stmts (at_loops (has_indices p)) (ap (λ b. b && (b && true)) (indexed t.spread));
        indices = stmts (at_loops indices_once) refl;
        nest_indices = stmts (at_loops indices_of_nest) refl;
        nests = stmts (nest_counted p) (ap (λ (x : Typed). (bound [] x && true) && ((bound (1 ∷ []) x && true) && true)) (typed_number p 10));
        arrays = stmts (λ s. list_all (λ a. nat_lt a 1) (arrays_beside s)) refl;
        sides = stmts (at_gmoves (λ target source. side_fits p target && side_fits p source)) refl;
        sections = stmts (at_gmoves sections_agree) refl;
        casts = stmts (cast_fits p) refl;
        tasks = stmts (tasks_inside p) (ap (λ ns. (lies_inside (0 ∷ 0 ∷ 0 ∷ []) (1 ∷ 1 ∷ 1 ∷ []) ns && true) && true) made.sizes);
        tasks_apart = stmts (tasks_apart p) refl;
      };
      scalars = record {
        numbers = ap (λ (ns : List ℕ). list_all (λ n. nat_lt n 4) (((2 ∷ ns) ++ []) ++ (1 ∷ slots_of_stmt p (squares_body at)))) (square_slots p at)
            ∙ ap (λ (ns : List ℕ). list_all (λ n. nat_lt n 4) (2 ∷ 3 ∷ 2 ∷ 3 ∷ 2 ∷ 1 ∷ ns)) (main_slots p at);
        declared_once = rw (declared_are grid t m at) refl;
        declared_elsewhere = rw (declared_are grid t m at) refl;
        main_scopes = main_scoped p (in_main (declared p)) at ∙ ap (λ d. main_fits (in_main d) (number_typed p 0) (number_typed p 10) (cell_typed p at) (typed_step p (Expr-F.Call 0 (scalar_typed p at 0 ∷ []) at)) (typed_step p (Expr-F.Cell (cell_typed p at))) (scalar_typed p at 1) (number_typed p 0)) (declared_are grid t m at);
        function_scopes = ap (λ b. b && true) (square_scoped p at);
        start_values = ap (λ b. b && true) (at_const Bool Bool constant_step (λ a. false) (pos 0) Int);
      };
      functions = record {
        earlier = ap (λ ts. list_all (calls_below 0) ts && true) (terms_of_square p at);
        own_scalars = ap (λ (ns : List ℕ). pairwise apart (ns ∷ (2 ∷ slots_of_stmt p (square at).body) ∷ [])) (main_slots p at)
            ∙ ap (λ (ns : List ℕ). pairwise apart ((0 ∷ 0 ∷ 0 ∷ 0 ∷ 0 ∷ 0 ∷ 1 ∷ 1 ∷ 0 ∷ 1 ∷ []) ∷ (2 ∷ ns) ∷ [])) (square_slots p at);
        no_arrays = ap (λ ts. list_all is_no_element ts && true) (terms_of_square p at);
        no_directives = ap (λ (w : Walked). list_all stands_in_function w.statements && true) (walked_square at);
      };
    }
