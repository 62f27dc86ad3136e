use Rattle.std.proofs.Common.{arith}
use Rattle.xmp_lex.specs.LineStates as state
use Rattle.xmp_lex.specs.Cut.{unclosed_comment, line_space}
use Rattle.xmp_lex.proofs.cut.piece_at.Goals as goal

pub returns-in-Unclosed-clause-err : goal.returns-in-Unclosed-clause-err
returns-in-Unclosed-clause-err c = rw c.in-Directive.is (unclosed_comment state.directive c.in-Unclosed.ensures, omega arith)

pub returns-in-Some-clause-ok : goal.returns-in-Some-clause-ok
returns-in-Some-clause-ok c = rw (c.gives_nothing.ensures, c.in-Directive.is) (line_space state.directive _ tt c.in-Some.ensures.0, c.in-Some.ensures.1, c.in-Some.ensures.2, tt)

pub returns-in-Unclosed-line_space-clause-err : goal.returns-in-Unclosed-line_space-clause-err
returns-in-Unclosed-line_space-clause-err c = rw c.in-Ignored.is (unclosed_comment state.ignored c.in-Unclosed-line_space.ensures, omega arith)

pub returns-in-Some-line_space-clause-ok : goal.returns-in-Some-line_space-clause-ok
returns-in-Some-line_space-clause-ok c = rw (c.gives_nothing-in-Some-line_space.ensures, c.in-Ignored.is) (line_space state.ignored _ tt c.in-Some-line_space.ensures.0, c.in-Some-line_space.ensures.1, c.in-Some-line_space.ensures.2, tt)
