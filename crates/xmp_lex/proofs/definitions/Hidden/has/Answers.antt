use Rattle.std.proofs.Common.{◌∙◌, ap}
use Rattle.std.specs.List.{list_any}
use Rattle.xmp_lex.specs.Expand.{same}
use Rattle.xmp_lex.proofs.DefinitionLemmas.{among}
use Rattle.xmp_lex.proofs.definitions.Hidden.has.Goals as goal

pub returns : goal.returns
returns c = c.contains.ensures ∙ among (λ k. k.now) c.args.name.now c.self.inside.names.keys ∙ ap (list_any (same c.args.name.now)) c.self.view_is
