use Rattle.std.proofs.Common.{◌≡◌, length, rules, sym, ap, ◌∙◌}
use Rattle.xmp_map.specs.RowMajor.{product}
use Rattle.xmp_map.specs.Held.{extents, tests}
use Rattle.xmp_map.proofs.Counted.{words_are}
use Rattle.xmp_map.proofs.MapLaws.{tests_fit}
use Rattle.xmp_map.proofs.array_map.ArrayMap.words.Goals as goal

pub returns : goal.returns
returns c =
    let m = c.args.self.now in
    let l : length m.aligned ≡ 3 = search rules in
    c.product.ensures ∙ ap (λ xs. product xs) c.sides.ensures.sides ∙ sym (words_are (tests m c.args.node) (extents m) (tests_fit m c.args.node l))
