use Rattle.std.proofs.Common.{◌++◌, ◌∙◌, ℕ, List, sym, ap, arith}
use Rattle.std.specs.Fmt.{decimal}
use Rattle.xmp_first.specs.Layout.{value_text, middle, foot}
use Rattle.xmp_first.specs.declared.layout.TheConstants.{HEAD, TO_NODES}
use Rattle.xmp_first.proofs.Programs.{number_one, at_size, at_nodes}
use Rattle.xmp_first.proofs.program.program_at.Goals as goal

pub returns-then-size-lt1-clause-none : goal.returns-then-size-lt1-clause-none
returns-then-size-lt1-clause-none c = λ size nodes value h.
    let s = number_one c.in-Some.at_size.now c.in-Some-number_at.size size c.in-Some-number_at.behind_size.now (TO_NODES.now ++ (decimal nodes ++ (middle size ++ (value_text value ++ foot size)))) c.in-Some-number_at.ensures.some (at_size size nodes value c.args.text.now c.in-Some.at_size.now h c.in-Some.ensures.some) in
    let v = h.valid.some_cells in
    omega (arith, s.0)

pub returns-then-size-gt-MOST_CELLS-clause-none : goal.returns-then-size-gt-MOST_CELLS-clause-none
returns-then-size-gt-MOST_CELLS-clause-none c = λ size nodes value h.
    let s = number_one c.in-Some.at_size.now c.in-Some-number_at.size size c.in-Some-number_at.behind_size.now (TO_NODES.now ++ (decimal nodes ++ (middle size ++ (value_text value ++ foot size)))) c.in-Some-number_at.ensures.some (at_size size nodes value c.args.text.now c.in-Some.at_size.now h c.in-Some.ensures.some) in
    let v = h.valid.few_cells in
    omega (arith, s.0)

pub returns-in_default-after-clause-none : goal.returns-in_default-after-clause-none
returns-in_default-after-clause-none c = λ size nodes value h.
    let s = number_one c.in-Some.at_size.now c.in-Some-number_at.size size c.in-Some-number_at.behind_size.now (TO_NODES.now ++ (decimal nodes ++ (middle size ++ (value_text value ++ foot size)))) c.in-Some-number_at.ensures.some (at_size size nodes value c.args.text.now c.in-Some.at_size.now h c.in-Some.ensures.some) in
    c.in_default-after.ensures.none (decimal nodes ++ (middle size ++ (value_text value ++ foot size))) s.1

pub returns-in_default-number_at-2-clause-none : goal.returns-in_default-number_at-2-clause-none
returns-in_default-number_at-2-clause-none c = λ size nodes value h.
    let s = number_one c.in-Some.at_size.now c.in-Some-number_at.size size c.in-Some-number_at.behind_size.now (TO_NODES.now ++ (decimal nodes ++ (middle size ++ (value_text value ++ foot size)))) c.in-Some-number_at.ensures.some (at_size size nodes value c.args.text.now c.in-Some.at_size.now h c.in-Some.ensures.some) in
    c.in_default-number_at-2.ensures.none nodes (middle size ++ (value_text value ++ foot size)) (at_nodes size nodes value c.in-Some-after.at_nodes.now h.valid (sym c.in-Some-after.ensures.some ∙ s.1))

pub returns-then-nodes-lt1-clause-none : goal.returns-then-nodes-lt1-clause-none
returns-then-nodes-lt1-clause-none c = λ size nodes value h.
    let s = number_one c.in-Some.at_size.now c.in-Some-number_at.size size c.in-Some-number_at.behind_size.now (TO_NODES.now ++ (decimal nodes ++ (middle size ++ (value_text value ++ foot size)))) c.in-Some-number_at.ensures.some (at_size size nodes value c.args.text.now c.in-Some.at_size.now h c.in-Some.ensures.some) in
    let n = number_one c.in-Some-after.at_nodes.now c.in-Some-number_at-2.nodes nodes c.in-Some-number_at-2.rest.now (middle size ++ (value_text value ++ foot size)) c.in-Some-number_at-2.ensures.some (at_nodes size nodes value c.in-Some-after.at_nodes.now h.valid (sym c.in-Some-after.ensures.some ∙ s.1)) in
    let v = h.valid.some_nodes in
    omega (arith, n.0)

pub returns-then-nodes-gt-MOST_NODES-clause-none : goal.returns-then-nodes-gt-MOST_NODES-clause-none
returns-then-nodes-gt-MOST_NODES-clause-none c = λ size nodes value h.
    let s = number_one c.in-Some.at_size.now c.in-Some-number_at.size size c.in-Some-number_at.behind_size.now (TO_NODES.now ++ (decimal nodes ++ (middle size ++ (value_text value ++ foot size)))) c.in-Some-number_at.ensures.some (at_size size nodes value c.args.text.now c.in-Some.at_size.now h c.in-Some.ensures.some) in
    let n = number_one c.in-Some-after.at_nodes.now c.in-Some-number_at-2.nodes nodes c.in-Some-number_at-2.rest.now (middle size ++ (value_text value ++ foot size)) c.in-Some-number_at-2.ensures.some (at_nodes size nodes value c.in-Some-after.at_nodes.now h.valid (sym c.in-Some-after.ensures.some ∙ s.1)) in
    let v = h.valid.few_nodes in
    omega (arith, n.0)

pub returns-in-None-clause-none : goal.returns-in-None-clause-none
returns-in-None-clause-none c = λ size nodes value h.
    let s = number_one c.in-Some.at_size.now c.in-Some-number_at.size size c.in-Some-number_at.behind_size.now (TO_NODES.now ++ (decimal nodes ++ (middle size ++ (value_text value ++ foot size)))) c.in-Some-number_at.ensures.some (at_size size nodes value c.args.text.now c.in-Some.at_size.now h c.in-Some.ensures.some) in
    let n = number_one c.in-Some-after.at_nodes.now c.in-Some-number_at-2.nodes nodes c.in-Some-number_at-2.rest.now (middle size ++ (value_text value ++ foot size)) c.in-Some-number_at-2.ensures.some (at_nodes size nodes value c.in-Some-after.at_nodes.now h.valid (sym c.in-Some-after.ensures.some ∙ s.1)) in
    let none = rw c.in-None.is at c.in_ok-value.ensures.none in
    none value h.valid.expression (n.1 ∙ ap (λ (z : ℕ). middle z ++ (value_text value ++ foot z)) (sym s.0))

pub returns-in-Some-2-clause-some : goal.returns-in-Some-2-clause-some
returns-in-Some-2-clause-some c =
    let found = rw c.in-Some-2.is at c.in_ok-value.ensures.some in
    record {
      valid = record { some_cells = omega arith; few_cells = omega arith; some_nodes = omega arith; few_nodes = omega arith; expression = found.0 };
      text_is = c.in-Some.ensures.some ∙ ap (λ (z : List ℕ). HEAD.now ++ z) (c.in-Some-number_at.ensures.some.text_is ∙ ap (λ (z : List ℕ). decimal c.in-Some-number_at.size ++ z) (c.in-Some-after.ensures.some ∙ ap (λ (z : List ℕ). TO_NODES.now ++ z) (c.in-Some-number_at-2.ensures.some.text_is ∙ ap (λ (z : List ℕ). decimal c.in-Some-number_at-2.nodes ++ z) found.1)));
    }
