use Rattle.std.proofs.Common.{arith, ◌++◌, Option, Some, None, IfNone}
use Rattle.std.proofs.lemmas.Result.{IfOk-weaker}
use Rattle.xmp_first.specs.Layout.{value_text}
use Rattle.xmp_first.proofs.Expressions.{parts_of, operand_one}
use Rattle.xmp_first.proofs.items.+tail_at.Goals as goal

none_weaker : {X : Type 0} (o : Option X) (P Q : Type 0) → (P → Q) → IfNone o P → IfNone o Q
none_weaker None P Q f p = f p
none_weaker (Some x) P Q f p = p

pub returns-in_default-operand_at-clause-none : goal.returns-in_default-operand_at-clause-none
returns-in_default-operand_at-clause-none t c = λ tail rest h.
    let parts = parts_of c.args.text.now c.in-Some.rest.now c.in-Some.op c.args.most tail rest c.in-Some.ensures.some.0 c.in-Some.ensures.some.1 (c.starts_with_space.ensures.yes c.if-not-starts_with_space.false) h.ends h in
    c.in_default-operand_at.ensures.none parts.item (value_text parts.tail ++ rest) parts.operand

pub returns-clause-none : goal.returns-clause-none
returns-clause-none t c =
    IfOk-weaker c.tail_at.result _ _ (λ r. none_weaker r _ _ (λ f tail rest h.
    let parts = parts_of c.args.text.now c.in-Some.rest.now c.in-Some.op c.args.most tail rest c.in-Some.ensures.some.0 c.in-Some.ensures.some.1 (c.starts_with_space.ensures.yes c.if-not-starts_with_space.false) h.ends h in
    let same = operand_one c.in-Some.rest.now c.in-Some-operand_at.item parts.item c.in-Some-operand_at.rest.now (value_text parts.tail ++ rest) c.in-Some-operand_at.ensures.some parts.operand in
    let few = parts.few in
    f parts.tail rest (record { valid = parts.valid; few = omega arith; text_is = same.1; ends = h.ends }))) c.tail_at.ensures.none
