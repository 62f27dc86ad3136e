use Rattle.std.proofs.Common.{◌≡◌, ℕ, ◌+◌, ◌-◌, ◌*◌, ℤ, pos, map, drop}
use Rattle.xmp_prog.specs.declared.expressions.Expr.{Expr}
use Rattle.xmp_prog.proofs.expressions.Expr.TheLaws.{the_size}
use Rattle.xmp_meaning.specs.Handlers.{erased}
use Rattle.xmp_meaning.specs.Runs.{Run, and_then, pure}
use Rattle.xmp_serial.specs.Lines.{context_at, number_along}
use Rattle.xmp_meaning.specs.Expressions.{checked, each, expr_of}
use Rattle.xmp_serial.proofs.frame.Frame.+eval.Given as goal

-- what is left to do from here gives what the whole gives
abbrev pub invariant-cell_number-subscripts : goal.invariant-cell_number-subscripts
invariant-cell_number-subscripts g l =
    let f : Expr → Run (Unit {0}) ℤ = expr_of erased (context_at l.self.program.now l.self.packed l.self.node l.self.input.now (g.C.Callee.calls l.self.callee.now)) in
    and_then (checked (map f l.fn.subscripts) (map (λ a. a.extent) l.fn.axes) l.at l.fn.state) (λ xs. pure (number_along l.fn.axes (pos 0) xs))
    ≡ and_then (checked (map f (drop l.e-index l.subscripts)) (map (λ a. a.extent) l.axes) l.at l.state) (λ xs. pure (number_along l.axes l.so_far xs))

abbrev pub invariant-eval_each-items : goal.invariant-eval_each-items
invariant-eval_each-items g l =
    let f : Expr → Run (Unit {0}) ℤ = expr_of erased (context_at l.self.program.now l.self.packed l.self.node l.self.input.now (g.C.Callee.calls l.self.callee.now)) in
    each (map f l.fn.es) l.fn.values l.fn.state ≡ each (map f (drop l.e-index l.es)) l.values l.state

-- depth first; at one depth the forms of an expression, and then the lists of its parts
abbrev pub decreases-eval : goal.decreases-eval
decreases-eval g l = 4 * goal.size-eval g l

abbrev pub decreases-eval_cell : goal.decreases-eval_cell
decreases-eval_cell g l = 4 * goal.size-eval_cell g l + 3

abbrev pub decreases-cell_of : goal.decreases-cell_of
decreases-cell_of g l = 4 * goal.size-cell_of g l + 2

abbrev pub decreases-cell_number : goal.decreases-cell_number
decreases-cell_number g l = 4 * goal.size-cell_number g l + 1

abbrev pub decreases-eval_binary : goal.decreases-eval_binary
decreases-eval_binary g l = 4 * (the_size l.a.now + (the_size l.b.now - the_size l.a.now)) + 1

abbrev pub decreases-eval_both : goal.decreases-eval_both
decreases-eval_both g l = 4 * (the_size l.a.now + (the_size l.b.now - the_size l.a.now)) + 1

abbrev pub decreases-eval_either : goal.decreases-eval_either
decreases-eval_either g l = 4 * (the_size l.a.now + (the_size l.b.now - the_size l.a.now)) + 1

abbrev pub decreases-eval_choice : goal.decreases-eval_choice
decreases-eval_choice g l =
    let m : ℕ = the_size l.a.now + (the_size l.b.now - the_size l.a.now) in
    4 * (m + (the_size l.c.now - m)) + 1

abbrev pub decreases-eval_converted : goal.decreases-eval_converted
decreases-eval_converted g l = 4 * goal.size-eval_converted g l + 1

abbrev pub decreases-eval_call : goal.decreases-eval_call
decreases-eval_call g l = 4 * goal.size-eval_call g l + 2

abbrev pub decreases-eval_each : goal.decreases-eval_each
decreases-eval_each g l = 4 * goal.size-eval_each g l + 1
