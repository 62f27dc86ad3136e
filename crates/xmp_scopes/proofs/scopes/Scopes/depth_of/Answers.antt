use Rattle.std.proofs.Common.{◌∙◌, sym, ap, reverse}
use Rattle.xmp_scopes.specs.Names.{depth_of}
use Rattle.xmp_scopes.specs.Log.{steps_of}
use Rattle.xmp_scopes.proofs.Undo.{depth_held, depth_is}
use Rattle.xmp_scopes.proofs.scopes.Scopes.depth_of.Goals as goal

pub returns-in-Some : goal.returns-in-Some
returns-in-Some g c = ap depth_held (c.in-Some.ensures ∙ c.self.invariant.names c.args.name.now)
    ∙ sym (depth_is c.args.name.now (steps_of c.self.inside.current (reverse c.self.inside.steps.items))) ∙ ap (depth_of c.args.name.now) c.self.view_is

pub returns-in-None : goal.returns-in-None
returns-in-None g c = ap depth_held (c.in-None.ensures ∙ c.self.invariant.names c.args.name.now)
    ∙ sym (depth_is c.args.name.now (steps_of c.self.inside.current (reverse c.self.inside.steps.items))) ∙ ap (depth_of c.args.name.now) c.self.view_is
