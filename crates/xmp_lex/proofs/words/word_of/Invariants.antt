use Rattle.std.proofs.Common.{◌≡◌, ◌<◌, ℕ, get_or}
use Rattle.xmp_lex.specs.Words.{word_text}
use Rattle.xmp_lex.specs.declared.token.Reserved.TheVariants.{Int}
use Rattle.xmp_lex.proofs.words.word_of.Given as goal

abbrev pub invariant-loop-word : goal.invariant-loop-word
invariant-loop-word l = (k : ℕ) → k < l.word-index → l.text ≡ word_text (get_or l.word-items k Int) → ⊥
