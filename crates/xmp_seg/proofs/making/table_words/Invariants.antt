use Rattle.std.proofs.Common.{◌≡◌, ◌∷◌, All, FitsSigned, map, take}
use Rattle.std.specs.Int.{w64}
use Rattle.xmp_seg.specs.Rule.{bits}
use Rattle.xmp_seg.proofs.making.table_words.Given as goal

-- the bits of the values so far, which lie in range
abbrev pub invariant-loop-e : goal.invariant-loop-e
invariant-loop-e l = record {
  items : l.words.items ≡ 0 ∷ map bits (take l.e l.start);
  range : All (λ z. FitsSigned w64 z) (take l.e l.start);
}
