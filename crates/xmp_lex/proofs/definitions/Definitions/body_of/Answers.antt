use Rattle.std.proofs.Common.{◌∙◌, ap, option_map, Some}
use Rattle.xmp_lex.specs.Expand.{body_of}
use Rattle.xmp_lex.proofs.DefinitionLemmas.{got}
use Rattle.xmp_lex.proofs.definitions.Definitions.body_of.Goals as goal

pub returns-in-Some : goal.returns-in-Some
returns-in-Some c = ap Some c.as_slice.ensures.value ∙ ap (option_map (λ v. v.items)) c.in-Some.ensures.value ∙ got (λ k. k.items) (λ v. v.items) c.args.name.now c.self.inside.bodies.entries ∙ ap (λ ds. body_of ds c.args.name.now) c.self.view_is

pub returns-in-None : goal.returns-in-None
returns-in-None c = ap (option_map (λ v. v.items)) c.in-None.ensures.value ∙ got (λ k. k.items) (λ v. v.items) c.args.name.now c.self.inside.bodies.entries ∙ ap (λ ds. body_of ds c.args.name.now) c.self.view_is
