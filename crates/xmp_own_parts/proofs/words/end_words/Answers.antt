use Rattle.std.proofs.Common.{◌+◌, ℕ, length, ap, sym, ◌∙◌}
use Rattle.xmp_meaning.specs.Exchanges.{PartEnd}
use Rattle.xmp_nodes.specs.Nodes.{bounded}
use Rattle.xmp_own_parts.proofs.EndWords.{words_are}
use Rattle.xmp_own_parts.proofs.words.end_words.Goals as goal

pub returns : goal.returns
returns c = c.saturating_add.ensures ∙ ap (λ (n : ℕ). bounded (n + 3)) c.len.ensures ∙ ap (λ (e : PartEnd). bounded (length e.values + 3)) c.end.view_is ∙ ap bounded (sym (words_are c.args.end.now))
