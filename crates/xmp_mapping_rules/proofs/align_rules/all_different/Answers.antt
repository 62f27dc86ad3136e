use Rattle.std.proofs.Common.{◌∙◌, ap, sym, ℕ, Bool}
use Rattle.std.specs.List.{list_all, enumerate_from}
use Rattle.xmp_mapping_rules.specs.Numbers.{first_place, is_at}
use Rattle.xmp_mapping_rules.proofs.Enumerated.{all_step_at, all_ends_at}
use Rattle.xmp_mapping_rules.proofs.align_rules.all_different.Goals as goal

pub returns-then-not-is_at : goal.returns-then-not-is_at
returns-then-not-is_at c =
    let f : ℕ × ℕ → Bool = λ x. is_at x.0 (first_place x.1 c.args.dimensions.now) in
    sym (ap (λ l. list_all f (enumerate_from 0 l)) (sym c.as_slice-list.ensures) ∙ (c.list.invariant
    ∙ all_ends_at f c.as_slice-list.result.now c.list.i 0 c.list-test.true
    (ap (λ p. is_at c.list.i p) (sym c.first_place.ensures) ∙ (sym c.is_at.ensures ∙ c.if-not-is_at.true))))

pub list-preserved : goal.list-preserved
list-preserved c =
    let f : ℕ × ℕ → Bool = λ x. is_at x.0 (first_place x.1 c.args.dimensions.now) in
    c.list.invariant ∙ all_step_at f c.as_slice-list.result.now c.list.i 0 c.list-test.true
    (ap (λ p. is_at c.list.i p) (sym c.first_place.ensures) ∙ (sym c.is_at.ensures ∙ c.if-not-is_at.false))
