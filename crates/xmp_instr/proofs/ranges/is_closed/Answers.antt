use Rattle.std.proofs.Common.{◌≡◌, ◌∙◌, sym, ap, subst, length, Some, None, ◌-◌, slice_get}
use Rattle.std.specs.List.{last_or}
use Rattle.std.specs.Option.{option_copied}
use Rattle.xmp_instr.specs.Valid.{Closes}
use Rattle.xmp_instr.proofs.Lists.{last_is}
use Rattle.xmp_instr.proofs.ranges.is_closed.Goals as goal

pub returns-in-Some : goal.returns-in-Some
returns-in-Some c =
    let e : Some c.in-Some.instr.now ≡ last_or None c.args.parts.now.instrs =
    ap option_copied (sym c.in-Some.is) ∙ c.last.ensures.value ∙ ap (λ xs. slice_get xs (length xs - 1)) c.as_slice.ensures ∙ sym (last_is c.args.parts.now.instrs) in
    (λ h. subst Closes e (c.closes.ensures.0 h), λ h. c.closes.ensures.1 (subst Closes (sym e) h))
