use Rattle.std.proofs.Common.{◌≡◌, ◌+◌, ◌++◌, ◌∷◌, [], map, drop, ap, sym, ◌∙◌}
use Rattle.xmp_num.specs.declared.types.Ty.TheVariants.{Int}
use Rattle.xmp_spots.proofs.WriteLaws.{rows_more}
use Rattle.xmp_spots.proofs.variables.Variables.new.Goals as goal

pub scalars-preserved : goal.scalars-preserved
scalars-preserved c =
    ap (λ l. l ++ map (λ ty. []) (drop (c.scalars._ty-index + 1) c.args.scalars.now)) (c.in_ok-push.ensures.ok ∙ ap (λ x. c.scalars.rows ++ x ∷ []) c.new.ensures)
    ∙ (sym (rows_more c.scalars.rows c.args.scalars.now c.scalars._ty-index Int c.scalars-test.true) ∙ c.scalars.invariant)
