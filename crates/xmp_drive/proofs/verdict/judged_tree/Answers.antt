use Rattle.std.proofs.Common.{rules, sym, subst}
use Rattle.std.specs.Prelude.{None}
use Rattle.xmp_parts.specs.Parts.{IsParts}
use Rattle.xmp_drive.specs.Verdict.{Judged}
use Rattle.xmp_drive.proofs.Faults.{err_map, flow_fault, names_fault, ok_map}
use Rattle.xmp_drive.proofs.NoCoarray.{some_coarray, unbroken}
use Rattle.xmp_drive.proofs.verdict.judged_tree.Goals as goal

pub returns-in-Global-clause-accepted : goal.returns-in-Global-clause-accepted
returns-in-Global-clause-accepted c =
    ok_map c.judged_program.result
    (λ p h. unbroken c.args.t.now c.args.given c.in_ok-prog.prog c.in_ok-prog.ensures.accepted c.in_ok-prog.ensures.program (sym c.in-Global.ensures.coarrays))
    c.judged_program.ensures.accepted

pub returns-in-Global-clause-program : goal.returns-in-Global-clause-program
returns-in-Global-clause-program c =
    ok_map c.judged_program.result
    (λ p h. (subst (IsParts c.args.t.now c.args.given) (sym h.0) c.in_ok-prog.ensures.program, subst (λ x. Judged x None) (sym h.0) h.1))
    c.judged_program.ensures.accepted

pub returns-in-Global-clause-refused : goal.returns-in-Global-clause-refused
returns-in-Global-clause-refused c =
    err_map c.judged_program.result
    (λ e b. flow_fault c.args.t.now c.args.given c.in_ok-prog.prog
    (unbroken c.args.t.now c.args.given c.in_ok-prog.prog c.in_ok-prog.ensures.accepted c.in_ok-prog.ensures.program (sym c.in-Global.ensures.coarrays))
    c.in_ok-prog.ensures.program e b)
    c.judged_program.ensures.refused

pub coarray_fault-requires-clause-coarray : goal.coarray_fault-requires-clause-coarray
coarray_fault-requires-clause-coarray c = some_coarray c.args.t.now c.args.given c.in_ok-prog.prog c.in_ok-prog.ensures.program (sym c.in-Coarray.ensures.coarrays)

pub returns-in_err-prog-clause-refused : goal.returns-in_err-prog-clause-refused
returns-in_err-prog-clause-refused c = err_map c.from_residual.result (λ e b. names_fault c.args.t.now c.args.given e b) (search rules)
