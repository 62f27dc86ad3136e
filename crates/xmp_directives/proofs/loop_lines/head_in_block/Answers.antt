use Rattle.std.proofs.Common.{◌∙◌, sym}
use Rattle.std.proofs.lemmas.Bool.{true≢false}
use Rattle.std.specs.Prelude.{IsTrue}
use Rattle.xmp_directives.proofs.Nests.{several_in_block}
use Rattle.xmp_directives.proofs.loop_lines.head_in_block.Goals as goal

pub returns-in-Some : goal.returns-in-Some
returns-in-Some c =
    sym (several_in_block c.args.list c.pop.new.self c.in-Some.last c.in-Some.ensures (λ e. let t : IsTrue c.is_empty.result = c.is_empty.ensures.1 e in true≢false (sym t ∙ c.if-is_empty.false)))
