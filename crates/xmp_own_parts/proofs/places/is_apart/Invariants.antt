use Rattle.std.proofs.Common.{◌≡◌, ◌≢◌, ◌<◌, ℕ, Some}
use Rattle.std.specs.Prelude.{slice_get}
use Rattle.xmp_prog.specs.declared.statements.LoopHead.{LoopHead}
use Rattle.xmp_own_parts.proofs.places.is_apart.Given as goal

abbrev pub invariant-heads : goal.invariant-heads
invariant-heads l = (k : ℕ) → k < l.k → k < l.many → (head : LoopHead) → slice_get l.heads k ≡ Some head → head.index.number ≢ l.index
