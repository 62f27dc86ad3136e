use Rattle.std.proofs.Common.{◌≡◌, ◌++◌, length}
use Rattle.xmp_lex.specs.Expand.{IsBody}
use Rattle.xmp_lex.specs.Lines.{Closes}
use Rattle.xmp_lex.proofs.macros.line.Given as goal

abbrev pub invariant-loop-token : goal.invariant-loop-token
invariant-loop-token l = record {
  taken : l.fn.rest.items ≡ l.body.items ++ l.rest.items;
  is_body : IsBody l.body.items;
  closes : Closes l.rest.items;
}

abbrev pub decreases-loop-token : goal.decreases-loop-token
decreases-loop-token l = length l.rest.items
