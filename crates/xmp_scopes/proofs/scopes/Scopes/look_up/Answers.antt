use Rattle.std.proofs.Common.{◌∙◌, sym, ap, reverse}
use Rattle.xmp_scopes.specs.Names.{nearest}
use Rattle.xmp_scopes.specs.Log.{steps_of}
use Rattle.xmp_scopes.proofs.Undo.{meaning_of, nearest_is}
use Rattle.xmp_scopes.proofs.Undeclared.{none_is}
use Rattle.xmp_scopes.proofs.scopes.Scopes.look_up.Goals as goal

pub returns-in-Some-clause-nearest : goal.returns-in-Some-clause-nearest
returns-in-Some-clause-nearest g c = ap meaning_of (c.in-Some.ensures ∙ c.self.invariant.names c.args.name.now)
    ∙ sym (nearest_is c.args.name.now (steps_of c.self.inside.current (reverse c.self.inside.steps.items))) ∙ ap (nearest c.args.name.now) c.self.view_is

pub returns-in-None-clause-nearest : goal.returns-in-None-clause-nearest
returns-in-None-clause-nearest g c = ap meaning_of (c.in-None.ensures ∙ c.self.invariant.names c.args.name.now)
    ∙ sym (nearest_is c.args.name.now (steps_of c.self.inside.current (reverse c.self.inside.steps.items))) ∙ ap (nearest c.args.name.now) c.self.view_is

pub returns-in-Some-clause-none : goal.returns-in-Some-clause-none
returns-in-Some-clause-none g c = none_is c.args.name.now c.args.self.now _ (returns-in-Some-clause-nearest g c)

pub returns-in-None-clause-none : goal.returns-in-None-clause-none
returns-in-None-clause-none g c = none_is c.args.name.now c.args.self.now _ (returns-in-None-clause-nearest g c)
