use Rattle.std.proofs.Common.{◌≡◌, ap, sym, ◌∙◌, arith, slice_get, eq-eqb, if◌then◌else◌}
use Rattle.xmp_move.specs.Stores.{packed, write_all}
use Rattle.xmp_instr.specs.Meetings.{came}
use Rattle.xmp_machine.proofs.Casts.{write_packed}
use Rattle.xmp_machine.proofs.resuming.write_cast.Goals as goal

pub returns-else-from-node : goal.returns-else-from-node
returns-else-from-node c =
    let words = c.args.words.now in
    let slots = c.args.slots.now in
    let same : c.args.from ≡ c.args.node = omega arith in
    sym (ap (λ t. write_all words slots (if t then packed words slots else (came (slice_get c.args.heard.now c.args.from)).words)) (eq-eqb c.args.from c.args.node same)
    ∙ write_packed words slots)
