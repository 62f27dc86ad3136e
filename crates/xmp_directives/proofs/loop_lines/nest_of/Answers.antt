use Rattle.std.proofs.Common.{◌∙◌, ◌+◌, ◌-◌, ap, sym, arith}
use Rattle.std.specs.Prelude.{is_some}
use Rattle.xmp_directives.specs.Directives.{head_of, nest_of}
use Rattle.xmp_directives.proofs.Nests.{behind, next_head, no_head, all_heads}
use Rattle.xmp_directives.proofs.loop_lines.nest_of.Goals as goal

pub heads-preserved : goal.heads-preserved
heads-preserved c =
    c.heads.invariant
    ∙ (next_head c.heads.heads c.args.count c.heads._head c.heads.left c.in-Some.body c.in-Some.head c.heads-test.true (ap head_of (sym c.into_inner.ensures) ∙ sym c.in-Some.ensures)
    ∙ ap (λ hs. behind hs (nest_of (c.args.count - (c.heads._head + 1)) c.in-Some.body)) (sym c.in_ok-push-in-Some.ensures.ok))

pub returns-then-not-is_nested : goal.returns-then-not-is_nested
returns-then-not-is_nested c = sym (c.heads.invariant ∙ no_head c.heads.heads (c.args.count - c.heads._head) c.heads.left (ap (λ s. is_some (head_of s)) (sym c.get.ensures) ∙ (sym c.is_nested.ensures ∙ c.if-not-is_nested.true)))

pub returns : goal.returns
returns c = sym (c.heads.invariant ∙ all_heads c.heads.heads c.args.count c.heads._head c.heads.left (omega arith))
