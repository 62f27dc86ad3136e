use Rattle.std.proofs.Common.{◌∙◌, ap, sym}
use Rattle.std.specs.Prelude.{◌||◌, not}
use Rattle.xmp_prog.specs.declared.statements.Stmt.TheVariants as stmt
use Rattle.xmp_prog.specs.declared.statements.Plain.TheVariants as plain
use Rattle.xmp_names.specs.declared.rules.Rule.TheVariants.{N7}
use Rattle.xmp_names.specs.Walk.{is_main, judge}
use Rattle.xmp_walk.specs.Statements.{returned}
use Rattle.xmp_names.proofs.Walks.{two_steps}
use Rattle.xmp_walk.proofs.statements.return_of.Goals as goal

pub returns : goal.returns
returns c =
    two_steps (judge (not (is_main c.args.world.now.names.region) || c.args.is_last) N7 c.args.at) (returned c.args.x.now) (λ u t. stmt.Plain (plain.Return t.made))
    c.in_ok-judge.field-0 c.in_ok-value.value c.return_statement.result c.args.world.now c.judge.new.self c.returned.new.world
    (ap (λ b. judge b N7 c.args.at c.args.world.now) (sym c.may_return-right.ensures) ∙ c.in_ok-judge.ensures)
    c.in_ok-value.ensures c.return_statement.ensures
