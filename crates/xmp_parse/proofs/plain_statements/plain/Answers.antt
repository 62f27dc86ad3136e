use Rattle.std.proofs.Common.{rules, ◌≡◌, ℕ, true, false, sym, refl, ap, ◌∙◌}
use Rattle.std.proofs.lemmas.Result.{err_from_is_err_and}
use Rattle.xmp_reader.proofs.Opening.{seq, into, skip, first, second, again, no_more, first_not, second_not}
use Rattle.xmp_reader.proofs.Listing.{split, whole, once_more, if_so, if_not, entered}
use Rattle.xmp_lex.specs.declared.token.TokenKind.TheVariants as t
use Rattle.xmp_lex.specs.declared.token.Mark.TheVariants as m
use Rattle.xmp_lex.specs.declared.token.Reserved.TheVariants as v
use Rattle.xmp_reader.proofs.Held.{is_this_mark, is_this_word}
use Rattle.xmp_parse.proofs.Statements.{statement_at, named_statement, stepped_statement, no_statement}
use Rattle.xmp_parse.proofs.plain_statements.plain.Goals as goal

pub returns-then-is_mark-clause-goes : goal.returns-then-is_mark-clause-goes
returns-then-is_mark-clause-goes c = λ h s L K w. c.empty.ensures.goes s _ _ (statement_at (t.Mark m.Semicolon) (is_this_mark m.Semicolon _ (sym c.is_mark.ensures ∙ c.if-is_mark.true)) w)

pub returns-then-is_word-clause-goes : goal.returns-then-is_word-clause-goes
returns-then-is_word-clause-goes c = λ h s L K w. c.return_statement.ensures.goes s _ _ (statement_at (t.Word v.Return) (is_this_word v.Return _ (sym c.is_word.ensures ∙ c.if-is_word.true)) w)

pub returns-then-is_word-2-clause-goes : goal.returns-then-is_word-2-clause-goes
returns-then-is_word-2-clause-goes c = λ h s L K w. c.print.ensures.goes s _ _ (statement_at (t.Word v.Printf) (is_this_word v.Printf _ (sym c.is_word-2.ensures ∙ c.if-is_word-2.true)) w)

pub returns-then-is_word-3-clause-goes : goal.returns-then-is_word-3-clause-goes
returns-then-is_word-3-clause-goes c = λ h s L K w. c.scan.ensures.goes s _ _ (statement_at (t.Word v.Scanf) (is_this_word v.Scanf _ (sym c.is_word-3.ensures ∙ c.if-is_word-3.true)) w)

pub returns-then-is_word-4-clause-goes : goal.returns-then-is_word-4-clause-goes
returns-then-is_word-4-clause-goes c = λ h s L K w. c.sync.ensures.goes s _ _ (statement_at (t.Word v.SyncAll) (is_this_word v.SyncAll _ (sym c.is_word-4.ensures ∙ c.if-is_word-4.true)) w)

pub returns-then-is_of-clause-goes : goal.returns-then-is_of-clause-goes
returns-then-is_of-clause-goes c = λ h s L K w. c.simple_statement.ensures.goes s _ _ (stepped_statement (sym c.is_of.ensures ∙ c.if-is_of.true) w)

pub returns-then-is_name-clause-goes : goal.returns-then-is_name-clause-goes
returns-then-is_name-clause-goes c = λ h s L K w. c.simple_statement-then-is_name.ensures.goes s _ _ (named_statement (sym c.is_name.ensures ∙ c.if-is_name.true) w)

pub returns-clause-goes : goal.returns-clause-goes
returns-clause-goes c = λ h s L K w. rw c.unexpected.ensures.value (no_statement s _ _ _ h (sym c.is_mark.ensures ∙ c.if-is_mark.false) (sym c.is_word.ensures ∙ c.if-is_word.false) (sym c.is_word-2.ensures ∙ c.if-is_word-2.false) (sym c.is_word-3.ensures ∙ c.if-is_word-3.false) (sym c.is_word-4.ensures ∙ c.if-is_word-4.false) (sym c.is_of.ensures ∙ c.if-is_of.false) (sym c.is_name.ensures ∙ c.if-is_name.false) w)
