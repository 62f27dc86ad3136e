use Rattle.std.proofs.Common.{◌≡◌, ap, ◌∙◌, pos, ℤ, ◌+ℤ◌}
use Rattle.std.specs.Int.{w64}
use Rattle.std.proofs.lemmas.Int.{to_z-of_z}
use Rattle.xmp_num.specs.declared.types.Ty.TheVariants.{Int}
use Rattle.xmp_num.specs.Arithmetic.{wrap}
use Rattle.xmp_num.proofs.Wraps.{wrap-add}
use Rattle.xmp_serial.proofs.exec.plus.Goals as goal

pub returns : goal.returns
returns c =
    to_z-of_z w64 c.to_int.result (record { sfits = c.to_int.type_inv })
    ∙ c.to_int.ensures.value
    ∙ wrap-add Int c.args.i c.from.result c.ranges.i (record { sfits = c.from.type_inv })
    ∙ ap (λ x. wrap Int (c.args.i +ℤ x)) c.from.ensures
