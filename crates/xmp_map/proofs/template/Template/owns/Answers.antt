use Rattle.std.proofs.Common.{◌≡◌, length, rules, sym, ap, ◌∙◌, subst, Bool, IsTrue}
use Rattle.xmp_map.specs.RowMajor.{unravel}
use Rattle.xmp_map.specs.Spread.{owns_point}
use Rattle.xmp_map.proofs.Three.{three_of}
use Rattle.xmp_map.proofs.template.Template.owns.Goals as goal

pub returns : goal.returns
returns c =
    let t = c.args.self.now in
    let l : length t.spread ≡ 3 = search rules in
    let e = three_of t.spread c.index-self-0.result c.index-self-1.result c.index-self-2.result l in
    let f : c.owns_three.result ≡ owns_point (unravel t.grid.sizes c.args.node) t.spread c.args.point.now =
    c.owns_three.ensures
    ∙ ap (λ ss. owns_point c.unravel-at.result ss c.args.point.now) (sym e)
    ∙ ap (λ at. owns_point at t.spread c.args.point.now) c.unravel-at.ensures.subscripts in
    let P : Bool → Type 0 = λ b. IsTrue b in
    (λ h. subst P f h, λ h. subst P (sym f) h)
