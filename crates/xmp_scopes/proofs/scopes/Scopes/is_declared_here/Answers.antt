use Rattle.std.proofs.Common.{◌∙◌, sym, ap, reverse}
use Rattle.xmp_scopes.specs.Names.{is_declared_here}
use Rattle.xmp_scopes.specs.Log.{steps_of, held}
use Rattle.xmp_scopes.proofs.Undo.{at_depth, here_is}
use Rattle.xmp_scopes.proofs.scopes.Scopes.is_declared_here.Goals as goal

pub returns-in-Some : goal.returns-in-Some
returns-in-Some g c = ap (λ o. at_depth o c.self.inside.depth) (c.in-Some.ensures ∙ c.self.invariant.names c.args.name.now)
    ∙ ap (at_depth (held c.args.name.now (steps_of c.self.inside.current (reverse c.self.inside.steps.items)))) c.self.invariant.depths
    ∙ sym (here_is c.args.name.now (steps_of c.self.inside.current (reverse c.self.inside.steps.items))) ∙ ap (is_declared_here c.args.name.now) c.self.view_is

pub returns-in-None : goal.returns-in-None
returns-in-None g c = ap (λ o. at_depth o c.self.inside.depth) (c.in-None.ensures ∙ c.self.invariant.names c.args.name.now)
    ∙ ap (at_depth (held c.args.name.now (steps_of c.self.inside.current (reverse c.self.inside.steps.items)))) c.self.invariant.depths
    ∙ sym (here_is c.args.name.now (steps_of c.self.inside.current (reverse c.self.inside.steps.items))) ∙ ap (is_declared_here c.args.name.now) c.self.view_is
