use Rattle.std.proofs.Common.{rules, ap, sym, ◌∙◌, get_or, pos, w64}
use Rattle.std.specs.Prelude.{FitsSigned}
use Rattle.std.specs.Option.{option_map}
use Rattle.std.proofs.lemmas.Int.{to_z-of_z}
use Rattle.xmp_meaning.specs.TrapWords.{end_words}
use Rattle.xmp_instr.specs.Meetings.{ended_by, noted_indices}
use Rattle.xmp_code.specs.States.{note_of}
use Rattle.xmp_machine.proofs.Parts.{part_is}
use Rattle.xmp_machine.proofs.saying.part_end.Goals as goal

pub returns-in-Some : goal.returns-in-Some
returns-in-Some c =
    let xs = c.in-Some.note.indices in
    let f0 : FitsSigned w64 (get_or xs 0 (pos 0)) = search rules in
    let f1 : FitsSigned w64 (get_or xs 1 (pos 0)) = search rules in
    let f2 : FitsSigned w64 (get_or xs 2 (pos 0)) = search rules in
    part_is c.in-Some.note _ _ _ (to_z-of_z w64 (get_or xs 0 (pos 0)) f0) (to_z-of_z w64 (get_or xs 1 (pos 0)) f1) (to_z-of_z w64 (get_or xs 2 (pos 0)) f2)
    ∙ ap (λ n. end_words (ended_by (option_map note_of n)) (noted_indices (option_map note_of n))) (sym c.in-Some.is)
