use Rattle.std.proofs.Common.{◌∙◌, ◌++◌, [], ◌∷◌, ap}
use Rattle.xmp_lex.specs.Expand.{body_of}
use Rattle.xmp_lex.proofs.DefinitionLemmas.{definitions, added}
use Rattle.xmp_lex.proofs.definitions.Definitions.add.Goals as goal

pub returns-in-Ok-insert : goal.returns-in-Ok-insert
returns-in-Ok-insert c = ap (definitions (λ k. k.items) (λ v. v.items)) c.in-Ok-insert.ensures.entries
    ∙ added (λ k. k.items) (λ v. v.items) c.self.inside.bodies.entries c.in-Ok.key c.args.body (ap (body_of (definitions (λ k. k.items) (λ v. v.items) c.self.inside.bodies.entries)) c.in-Ok.ensures.items ∙ ap (λ ds. body_of ds c.args.name.now) c.self.view_is ∙ c.requires)
    ∙ ap (λ n. definitions (λ k. k.items) (λ v. v.items) c.self.inside.bodies.entries ++ (n, c.args.body.items) ∷ []) c.in-Ok.ensures.items
    ∙ ap (λ ds. ds ++ (c.args.name.now, c.args.body.items) ∷ []) c.self.view_is
