use Rattle.std.proofs.Common.{rules, ap, sym, ◌∙◌, None, Some}
use Rattle.std.proofs.lemmas.List.{append-nil}
use Rattle.xmp_spmd.proofs.Rows.{array_words, no_words}
use Rattle.xmp_spmd.proofs.words.push_array.Goals as goal

pub returns-in-None-clause-words : goal.returns-in-None-clause-words
returns-in-None-clause-words c =
    array_words c.args.state.now.arrays _ c.args.array _ None _ _ (ap (λ s. s.arrays) c.in_ok-take_row.ensures.state) (sym c.in-None.is ∙ c.in_ok-take_row.ensures.row) (sym (append-nil _))

pub returns-in-None-clause-last : goal.returns-in-None-clause-last
returns-in-None-clause-last c = λ e. no_words c.args.state.now.arrays c.args.array _ (sym c.in_ok-take_row.ensures.row ∙ c.in-None.is)

pub returns-in_ok-push_words-in-Some-clause-words : goal.returns-in_ok-push_words-in-Some-clause-words
returns-in_ok-push_words-in-Some-clause-words c =
    array_words c.args.state.now.arrays c.take_row.new.state.arrays c.args.array _ (Some c.in-Some.row) c.args.all.now.items c.push_words.new.all.items (ap (λ s. s.arrays) c.in_ok-take_row.ensures.state) (sym c.in-Some.is ∙ c.in_ok-take_row.ensures.row) (search rules)
