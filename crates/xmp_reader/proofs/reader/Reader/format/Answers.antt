use Rattle.std.proofs.Common.{rules, ◌≡◌, ℕ, true, false, sym, refl, ◌∙◌}
use Rattle.std.proofs.lemmas.Result.{err_from_is_err_and}
use Rattle.xmp_lex.specs.declared.token.TokenKind.TheVariants as t
use Rattle.xmp_syntax.specs.Grammar as g
use Rattle.xmp_syntax.specs.Spell.{type_word}
use Rattle.xmp_reader.specs.Classes.{of_class}
use Rattle.xmp_reader.specs.declared.effect.Effect.TheVariants as eff
use Rattle.xmp_reader.proofs.Taking.{taken_stuck}
use Rattle.xmp_reader.proofs.Held.{name_some, name_none, text_some, text_none, number_some, number_none, type_some, type_none, class_some, class_none, class_end}
use Rattle.xmp_reader.proofs.reader.Reader.format.Goals as goal

pub returns-in_err-at-in-Some-clause-goes : goal.returns-in_err-at-in-Some-clause-goes
returns-in_err-at-in-Some-clause-goes c = λ s L K w.
    let p = err_from_is_err_and c.from_residual.result c.from_residual.ensures.1 in
    rw (p.1, p.2) (c.in_err-at-in-Some.ensures.goes g.is_text refl (text_some _ _ (sym c.in-Some.ensures)).1 s L K w)

pub returns-in_ok-text-in-Some-clause-reads : goal.returns-in_ok-text-in-Some-clause-reads
returns-in_ok-text-in-Some-clause-reads c = rw (c.in_ok-text-in-Some.ensures, c.as_slice.ensures) (c.in_ok-at-in-Some.ensures.reads (t.Text c.in-Some.text.now) (λ q. (text_some _ _ (sym c.in-Some.ensures)).0))

pub returns-in-None-clause-goes : goal.returns-in-None-clause-goes
returns-in-None-clause-goes c = λ s L K w. rw c.unexpected.ensures.value (taken_stuck eff.Plain g.is_text c.args.self.depth _ s L K (text_none _ (sym c.in-None.ensures)) w)
