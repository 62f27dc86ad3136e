use Rattle.std.proofs.Common.{◌≡◌, List, ℤ, length, Some, None, ap, sym, ◌∙◌, rules}
use Rattle.std.specs.Prelude.{slice_get}
use Rattle.xmp_nodes.specs.Nodes.{bounded}
use Rattle.xmp_nodes.specs.Parts.{own_tuples}
use Rattle.xmp_own_parts.specs.Walks.{IsNestAt}
use Rattle.xmp_own_parts.proofs.Tuples.{tuples_of_nest, no_template, counted_all}
use Rattle.xmp_own_parts.proofs.part.own_count.Goals as goal

pub returns-in-Some : goal.returns-in-Some
returns-in-Some c =
    let there : slice_get c.args.p.now.templates c.args.directive.now.template ≡ Some c.in-Some.template.now = search rules in
    let is : IsNestAt c.args.p.now c.in-Some.template.now c.args.directive.now c.args.node c.args.state.now.scalars c.nest_at-nest.result = record {
      template = c.nest_at-nest.ensures.template;
      at = c.nest_at-nest.ensures.at;
      points = c.nest_at-nest.ensures.points;
      heads = c.nest_at-nest.ensures.heads;
      scalars = c.nest_at-nest.ensures.scalars ∙ c.scalars.ensures;
    } in
    counted_all c.nest_at-nest.result c.new.result (own_tuples c.args.p.now c.args.directive.now c.args.node c.args.state.now) c.count.result c.new.ensures
    (tuples_of_nest c.args.p.now c.in-Some.template.now c.args.directive.now c.args.node c.args.state.now c.nest_at-nest.result there is) c.count.ensures.count

pub returns-in-None : goal.returns-in-None
returns-in-None c =
    let none : slice_get c.args.p.now.templates c.args.directive.now.template ≡ None = search rules in
    ap (λ (ts : List (List ℤ)). bounded (length ts)) (sym (no_template c.args.p.now c.args.directive.now c.args.node c.args.state.now none))
