use Rattle.std.proofs.Common.{ap, ◌∙◌, pos}
use Rattle.std.specs.Int.{int_wrap, int_rem_euclid, cast_signed, w32, w64}
use Rattle.std.specs.Prelude.{unsigned_abs}
use Rattle.std.proofs.lemmas.Int.{to_z-of_z}
use Rattle.xmp_races.proofs.loops.int.Goals as goal

pub returns : goal.returns
unfolding int_wrap
returns c =
    to_z-of_z w32 c.cast_signed.result (record { sfits = c.cast_signed.type_inv })
    ∙ c.cast_signed.ensures
    ∙ ap (λ x. cast_signed w32 (unsigned_abs x))
    (to_z-of_z w64 c.rem_euclid.result (record { sfits = c.rem_euclid.type_inv })
    ∙ c.rem_euclid.ensures.value
    ∙ ap (λ x. int_rem_euclid x (pos 4294967296)) (to_z-of_z w64 c.args.value c.ranges.value))
