use Rattle.std.proofs.Common.{rules, ◌≡◌, ℕ, true, false, sym, refl, ap, ◌∙◌}
use Rattle.std.proofs.lemmas.Result.{err_from_is_err_and}
use Rattle.xmp_reader.proofs.Opening.{seq, into, skip, first, second, again, no_more}
use Rattle.xmp_reader.proofs.Listing.{split, whole, once_more, if_so, if_not, none_so_far, one_more}
use Rattle.std.specs.Prelude.{codes}
use Rattle.xmp_lex.specs.declared.token.TokenKind.TheVariants as t
use Rattle.xmp_syntax.specs.Grammar.{is_max_or_min}
use Rattle.xmp_reader.proofs.Held.{is_this_name}
use Rattle.xmp_line_reader.proofs.MaxOrMin.{max_next, min_next}
use Rattle.xmp_line_reader.proofs.lines.reduction_operator.Goals as goal

pub returns-in_err-operator-clause-goes : goal.returns-in_err-operator-clause-goes
returns-in_err-operator-clause-goes c = λ s L K w.
    let p = err_from_is_err_and c.from_residual.result c.from_residual.ensures.1 in
    rw (p.1, p.2) (c.in_err-operator.ensures.goes s _ _ (first (sym c.is_of.ensures ∙ c.if-is_of.true) w))

pub returns-then-is_of-clause-goes : goal.returns-then-is_of-clause-goes
returns-then-is_of-clause-goes c = λ s L K w. c.in_ok-operator.ensures.goes s _ _ (first (sym c.is_of.ensures ∙ c.if-is_of.true) w)

pub returns-in_err-word-clause-goes : goal.returns-in_err-word-clause-goes
returns-in_err-word-clause-goes c = λ s L K w.
    let p = err_from_is_err_and c.from_residual-in_err-word.result c.from_residual-in_err-word.ensures.1 in
    rw (p.1, p.2) (c.in_err-word.ensures.goes is_max_or_min refl (max_next c.args.r.tokens.now (sym c.is_spelled.ensures ∙ c.if-is_spelled.true)) s _ _ (second (sym c.is_of.ensures ∙ c.if-is_of.false) w))

pub returns-then-is_spelled-clause-goes : goal.returns-then-is_spelled-clause-goes
returns-then-is_spelled-clause-goes c = λ s L K w. c.in_ok-word.ensures.goes is_max_or_min refl (max_next c.args.r.tokens.now (sym c.is_spelled.ensures ∙ c.if-is_spelled.true)) s _ _ (second (sym c.is_of.ensures ∙ c.if-is_of.false) w)

pub returns-then-is_spelled-clause-reads : goal.returns-then-is_spelled-clause-reads
returns-then-is_spelled-clause-reads c = c.in_ok-word.ensures.reads (t.Name (codes "max")) (λ q. is_this_name (codes "max") _ (sym c.is_spelled.ensures ∙ c.if-is_spelled.true))

pub returns-in_err-word-2-clause-goes : goal.returns-in_err-word-2-clause-goes
returns-in_err-word-2-clause-goes c = λ s L K w.
    let p = err_from_is_err_and c.from_residual-in_err-word-2.result c.from_residual-in_err-word-2.ensures.1 in
    rw (p.1, p.2) (c.in_err-word-2.ensures.goes is_max_or_min refl (min_next c.args.r.tokens.now (sym c.is_spelled.ensures ∙ c.if-is_spelled.false) ∙ sym c.is_spelled-2.ensures) s _ _ (second (sym c.is_of.ensures ∙ c.if-is_of.false) w))

pub returns-clause-goes : goal.returns-clause-goes
returns-clause-goes c = λ s L K w. c.in_ok-word-2.ensures.goes is_max_or_min refl (min_next c.args.r.tokens.now (sym c.is_spelled.ensures ∙ c.if-is_spelled.false) ∙ sym c.is_spelled-2.ensures) s _ _ (second (sym c.is_of.ensures ∙ c.if-is_of.false) w)

pub returns-clause-reads : goal.returns-clause-reads
returns-clause-reads c = c.in_ok-word-2.ensures.reads (t.Name (codes "min")) (λ q. is_this_name (codes "min") _ (sym c.is_spelled-2.ensures ∙ q))
