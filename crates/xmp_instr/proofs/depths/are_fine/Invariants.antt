use Rattle.std.proofs.Common.{◌≡◌, ◌<◌, ℕ, Some, slice_get}
use Rattle.xmp_instr.specs.declared.instr.Instr.{Instr}
use Rattle.xmp_instr.specs.Valid.{FineAt}
use Rattle.xmp_instr.proofs.depths.are_fine.Given as goal

-- the instructions so far
abbrev pub invariant-steps : goal.invariant-steps
invariant-steps l = (q : ℕ) (instr : Instr) → q < l.p → slice_get l.parts.instrs q ≡ Some instr → FineAt l.parts q instr
