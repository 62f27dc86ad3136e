use Rattle.xmp_source.proofs.OneRefusal.{one_refusal}
use Rattle.xmp_source.proofs.laws.one_source_refusal.Goals as goal

pub returns : goal.returns
returns c = one_refusal (record {
  cut = c.one_cut.ensures;
  expansion = c.one_expansion.ensures;
  in_text = c.one_lex_refusal.ensures;
  in_macros = c.one_macro_refusal.ensures;
  in_syntax = c.one_syntax_refusal.ensures;
  cut_or_refused = c.cut_or_refused.ensures;
  expanded_or_refused = c.expanded_or_refused.ensures;
})
