-- What the run of a machine answers (this project).
use Rattle.std.specs.Prelude.{◌≡◌, ◌⊎◌, ℕ, List, map, slice_get, slice_index_or, Some}
use Rattle.std.specs.List.{range_with_len}
use Rattle.xmp_steps.specs.Machine.{Comes, Is}
use Rattle.xmp_instr.specs.declared.instr.Instr.TheVariants as i
use Rattle.xmp_instr.specs.declared.parts.CodeParts.{CodeParts}
use Rattle.xmp_instr.specs.Node.{Node}
use Rattle.xmp_instr.specs.Effects.{next}
use Rattle.xmp_instr.specs.Resumed.{resumed}

-- a node stands where it was, or went on from its meeting and came some steps on, or none
abbrev pub Came : CodeParts → (input : List ℕ) → (s t : Node) → Type 0
Came c input s t = (t ≡ s) ⊎ ((u : Node) × (resumed c s ≡ Some u) × Comes (next c input) (Is t) u)

-- a code without an exchange
abbrev pub MeetsNever : CodeParts → Type 0
MeetsNever c = (p e : ℕ) → slice_get c.instrs p ≡ Some (i.Exchange e) → ⊥

-- the counts of sixteen nodes, 0 where there is no node
abbrev pub sixteen : List ℕ → List ℕ
sixteen counts = map (λ k. slice_index_or counts k 0) (range_with_len 0 16)
