use Rattle.std.proofs.Common.{rules}
use Rattle.xmp_drive.proofs.Faults.{err_map, ok_both, source_fault, tree_fault}
use Rattle.xmp_drive.proofs.verdict.judged.Goals as goal

pub returns-in_err-tree-clause-refused : goal.returns-in_err-tree-clause-refused
returns-in_err-tree-clause-refused c = err_map c.from_residual.result (λ e b. source_fault c.args.text.now c.args.given e b) (search rules)

pub returns-clause-accepted : goal.returns-clause-accepted
returns-clause-accepted c =
    ok_both c.judged_tree.result
    (λ p h k. record { tree = c.in_ok-tree.tree; is_tree = c.in_ok-tree.ensures.tree; unbroken = h; parts = k.0; judged = k.1 })
    c.judged_tree.ensures.accepted c.judged_tree.ensures.program

pub returns-clause-refused : goal.returns-clause-refused
returns-clause-refused c =
    err_map c.judged_tree.result (λ e b. tree_fault c.args.text.now c.args.given c.in_ok-tree.tree c.in_ok-tree.ensures.tree e b) c.judged_tree.ensures.refused
