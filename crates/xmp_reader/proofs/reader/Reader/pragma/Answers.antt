use Rattle.std.proofs.Common.{rules, ◌≡◌, ℕ, true, false, sym, refl, ◌∙◌}
use Rattle.std.proofs.lemmas.Result.{err_from_is_err_and}
use Rattle.xmp_lex.specs.declared.token.TokenKind.TheVariants as t
use Rattle.xmp_syntax.specs.Grammar as g
use Rattle.xmp_syntax.specs.Spell.{type_word}
use Rattle.xmp_reader.specs.Classes.{of_class}
use Rattle.xmp_reader.specs.declared.effect.Effect.TheVariants as eff
use Rattle.xmp_reader.proofs.Taking.{taken_stuck}
use Rattle.xmp_reader.proofs.Held.{is_this_mark, is_this_word, is_this_name, is_this_pragma, is_this_close, name_some, name_none, text_some, text_none, number_some, number_none, type_some, type_none, class_some, class_none, class_end}
use Rattle.xmp_reader.proofs.reader.Reader.pragma.Goals as goal

pub returns-clause-goes : goal.returns-clause-goes
returns-clause-goes c = c.take.ensures.goes g.is_pragma refl (sym c.is_pragma.ensures)

pub returns-clause-reads : goal.returns-clause-reads
returns-clause-reads c = c.take.ensures.reads t.Pragma (λ q. is_this_pragma _ (sym c.is_pragma.ensures ∙ q))
