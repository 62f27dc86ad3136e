use Rattle.std.proofs.Common.{rules, ◌≡◌, ap, sym, map, set, true, false, w64, if◌then◌else◌}
use Rattle.std.specs.Prelude.{◌==◌, FitsSigned}
use Rattle.std.specs.List.{list_any, range_with_len}
use Rattle.std.proofs.lemmas.Int.{to_z-of_z}
use Rattle.xmp_instr.specs.Resumed.{combined_from}
use Rattle.xmp_machine.specs.Resuming.{value_by}
use Rattle.xmp_machine.proofs.reducing.reduce_one.Goals as goal

pub returns-then-not-has_slot : goal.returns-then-not-has_slot
returns-then-not-has_slot c =
    let words = c.args.words.now in
    let slot = c.args.r.now.slot in
    let value = combined_from c.args.r.now (map (value_by c.args.node words c.args.heard.now c.args.j slot) (range_with_len 0 c.args.nodes)) in
    let none : list_any (λ q. q.slot == slot) c.args.behind.now ≡ false = cc in
    let fit : FitsSigned w64 c.combined-value.result = search rules in
    let v = to_z-of_z w64 c.combined-value.result fit in
    let p = c.put.ensures in
    let w = ap (λ x. set words slot x) c.combined-value.ensures in
    let z = ap (λ t. if t then words else set words slot value) none in
    cc

pub returns-else-not-has_slot : goal.returns-else-not-has_slot
returns-else-not-has_slot c =
    let words = c.args.words.now in
    let slot = c.args.r.now.slot in
    let value = combined_from c.args.r.now (map (value_by c.args.node words c.args.heard.now c.args.j slot) (range_with_len 0 c.args.nodes)) in
    let some : list_any (λ q. q.slot == slot) c.args.behind.now ≡ true = cc in
    sym (ap (λ t. if t then words else set words slot value) some)
