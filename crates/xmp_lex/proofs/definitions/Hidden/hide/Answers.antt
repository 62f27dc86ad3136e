use Rattle.std.proofs.Common.{◌∙◌, ◌++◌, [], ◌∷◌, ap, map}
use Rattle.std.specs.List.{list_any}
use Rattle.xmp_lex.specs.Expand.{same}
use Rattle.xmp_lex.proofs.DefinitionLemmas.{hidden_last}
use Rattle.xmp_lex.proofs.definitions.Hidden.hide.Goals as goal
use Rattle.xmp_lex.proofs.definitions.Hidden.hide.Goals.{in-Ok, in-Err}

pub returns : goal.returns
returns c = elim c.match-insert.branch [
  | in-Ok w ↦ rw w.result-is (ap (map (λ k. k.now)) w.in-Ok.ensures.keys
      ∙ hidden_last (λ k. k.now) c.self.inside.names.keys c.args.name (ap (list_any (same c.args.name.now)) c.self.view_is ∙ c.requires)
      ∙ ap (λ ns. ns ++ c.args.name.now ∷ []) c.self.view_is)
  | in-Err w ↦ rw w.result-is tt
]
