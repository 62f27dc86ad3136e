-- How a part ended, in words.
use Rattle.std.proofs.Common.{◌≡◌, ℕ, zero, suc, List, [], ◌∷◌, ℤ, pos, Some, get_or, refl, ap, ◌∙◌}
use Rattle.xmp_meaning.specs.TrapWords.{end_words, index_at, trap_words}
use Rattle.xmp_instr.specs.Meetings.{ended_by, noted_indices}
use Rattle.xmp_code.specs.declared.state.Note.{Note}
use Rattle.xmp_code.specs.States.{note_of}

index_is : (xs : List ℤ) (d : ℕ) → get_or xs d (pos 0) ≡ index_at xs d
index_is [] d = refl
index_is (x ∷ xs) zero = refl
index_is (x ∷ xs) (suc d) = index_is xs d

pub part_is : (n : Note) (a b d : ℤ) → a ≡ get_or n.indices 0 (pos 0) → b ≡ get_or n.indices 1 (pos 0) → d ≡ get_or n.indices 2 (pos 0)
    → trap_words n.kind n.at a b d ≡ end_words (ended_by (Some (note_of n))) (noted_indices (Some (note_of n)))
part_is n a b d ea eb ed =
    ap (λ x. trap_words n.kind n.at x b d) (ea ∙ index_is n.indices 0)
    ∙ ap (λ y. trap_words n.kind n.at (index_at n.indices 0) y d) (eb ∙ index_is n.indices 1)
    ∙ ap (λ z. trap_words n.kind n.at (index_at n.indices 0) (index_at n.indices 1) z) (ed ∙ index_is n.indices 2)
