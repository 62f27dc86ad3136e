use Rattle.std.proofs.Common.{◌≡◌, ◌∙◌, ◌++◌, ◌∷◌, [], ap, sym, arith, rules}
use Rattle.std.proofs.lemmas.Int.{ints}
use Rattle.std.specs.Prelude.{slice_get}
use Rattle.xmp_names.specs.Lists.{parts}
use Rattle.xmp_names.proofs.Walks.{part_step, part_end}
use Rattle.xmp_names.specs.Walk.{constant}
use Rattle.xmp_directives.proofs.mapping_lines.constants.Goals as goal
use mir.Syntax.{w64}
use mir.Val.{SFits, of_z, to_z}

pub list-preserved : goal.list-preserved
list-preserved c =
    let f : SFits w64 c.in_ok-value.value = search rules in
    let e : to_z w64 (of_z w64 c.in_ok-value.value) ≡ c.in_ok-value.value = omega (arith, ints) in
    c.list.invariant
    ∙ part_step constant c.list.values c.push.new.self (parts c.args.list.now) c.in-Some.x.now c.in_ok-value.value c.list.world c.constant.new.self
    (ap (slice_get (parts c.args.list.now)) (sym c.len.ensures) ∙ sym c.in-Some.ensures.value) c.in_ok-value.ensures (c.in_ok-push.ensures.ok ∙ ap (λ v. c.list.values ++ v ∷ []) e)

pub returns : goal.returns
returns c =
    c.list.invariant
    ∙ part_end constant c.list.values (parts c.args.list.now) c.list.world (ap (slice_get (parts c.args.list.now)) (sym c.len.ensures) ∙ sym c.in_default.ensures.value)
