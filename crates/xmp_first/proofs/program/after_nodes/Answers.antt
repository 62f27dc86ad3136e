use Rattle.std.proofs.Common.{◌++◌, ◌∙◌, sym, ap}
use Rattle.std.proofs.lemmas.Slice.Eq.{bytes_eq-Decides}
use Rattle.xmp_first.specs.Layout.{value_text, middle, foot}
use Rattle.xmp_first.proofs.Programs.{cancel, foot_ends, value_one}
use Rattle.xmp_first.proofs.program.after_nodes.Goals as goal

pub returns-in_default-clause-none : goal.returns-in_default-clause-none
returns-in_default-clause-none c = λ value x e.
    c.in_default.ensures.none (value_text value ++ foot c.args.size) (e ∙ ap (λ b. b ++ (value_text value ++ foot c.args.size)) (sym (c.as_slice.ensures ∙ c.in_ok-front.ensures)))

pub returns-in_default-2-clause-none : goal.returns-in_default-2-clause-none
returns-in_default-2-clause-none c = λ value x e.
    let none = rw c.in_default-2.is at c.in_ok-value.ensures.none in
    let text = c.in-Some.ensures.some ∙ ap (λ b. b ++ c.in-Some.behind.now) (c.as_slice.ensures ∙ c.in_ok-front.ensures) in
    none value (foot c.args.size) x (cancel (middle c.args.size) c.in-Some.behind.now (value_text value ++ foot c.args.size) (sym text ∙ e)) (foot_ends c.args.size)

pub returns-clause-none : goal.returns-clause-none
returns-clause-none c = λ value x e.
    let found = rw c.in-Some-2.is at c.in_ok-value.ensures.some in
    let text = c.in-Some.ensures.some ∙ ap (λ b. b ++ c.in-Some.behind.now) (c.as_slice.ensures ∙ c.in_ok-front.ensures) in
    let behind = cancel (middle c.args.size) c.in-Some.behind.now (value_text value ++ foot c.args.size) (sym text ∙ e) in
    let same = value_one c.in-Some.behind.now c.in-Some-2.value value c.in-Some-2.rest.now (foot c.args.size) found.0 x found.2 (foot_ends c.args.size) found.1 behind in
    let t = (bytes_eq-Decides c.in-Some-2.rest.now c.as_slice-2.result.now).1 (same.1 ∙ sym (c.as_slice-2.ensures ∙ c.in_ok-end.ensures)) in
    let f = sym c.eq.ensures ∙ c.if-eq.false in
    absurd (cc)
