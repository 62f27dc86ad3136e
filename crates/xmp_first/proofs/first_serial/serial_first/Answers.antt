use Rattle.std.proofs.Common.{◌∙◌, refl, ap, List, ℕ, [], ◌∷◌, ◌++◌, w64, to_z, of_z}
use Rattle.std.specs.Fmt.{signed_decimal}
use Rattle.std.proofs.lemmas.Int.{to_z-of_z}
use Rattle.xmp_first.specs.FirstTree.{tree_of}
use Rattle.xmp_first.proofs.FirstTrees.{spelled}
use Rattle.xmp_first.proofs.first_serial.serial_first.Goals as goal

pub returns : goal.returns
returns c =
    let total = to_z-of_z w64 c.total.result (record { sfits = c.total.type_inv }) ∙ c.total.ensures in
    let text = c.in_ok-render.ensures.plain refl ∙ ap (λ (xs : List ℕ). xs ++ signed_decimal (to_z w64 (of_z w64 c.total.result))) c.new-out.ensures ∙ ap signed_decimal total in
    record {
      expression = tree_of c.args.p.now.value;
      spelled = spelled c.args.p.now.value c.args.p.now.expression;
      out_is = c.in_ok-push.ensures.ok ∙ ap (λ (xs : List ℕ). xs ++ 10 ∷ []) text;
    }
