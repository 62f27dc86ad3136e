use Rattle.std.proofs.Common.{rules, ◌+◌, drop, ap, sym, ◌∙◌, set, get_or, pos, arith, w64}
use Rattle.std.specs.Prelude.{FitsSigned}
use Rattle.std.proofs.lemmas.Int.{to_z-of_z}
use Rattle.xmp_move.specs.Stores.{write_all}
use Rattle.xmp_machine.proofs.Written.{write_end, write_step}
use Rattle.xmp_machine.proofs.heard.write_all.Goals as goal

pub slots-preserved : goal.slots-preserved
slots-preserved c =
    let t = c.slots-test.true in
    let m = c.min-count.ensures in
    let fit : FitsSigned w64 (get_or c.args.said.now c.slots.k (pos 0)) = search rules in
    c.slots.invariant
    ∙ write_step c.slots.words c.args.slots.now c.args.said.now c.slots.k (omega arith) (omega arith)
    ∙ ap (λ w. write_all (set c.slots.words (get_or c.args.slots.now c.slots.k 0) w) (drop (c.slots.k + 1) c.args.slots.now) (drop (c.slots.k + 1) c.args.said.now))
    (sym (to_z-of_z w64 (get_or c.args.said.now c.slots.k (pos 0)) fit))
    ∙ ap (λ ws. write_all ws (drop (c.slots.k + 1) c.args.slots.now) (drop (c.slots.k + 1) c.args.said.now)) (sym c.put.ensures)

pub returns : goal.returns
returns c =
    let t = c.slots-test.false in
    let m = c.min-count.ensures in
    sym (c.slots.invariant ∙ write_end c.slots.words c.args.slots.now c.args.said.now c.slots.k (omega arith))
