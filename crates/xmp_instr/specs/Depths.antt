-- How many values of the open call stand on the stack before each instruction (this project).
use Rattle.std.specs.Prelude.{◌≡◌, ℕ, ◌+◌, ◌-◌, ◌≤◌, List, Option, Some, None, slice_get}
use Rattle.xmp_instr.specs.declared.instr.Instr.{Instr}
use Rattle.xmp_instr.specs.declared.instr.Instr.TheVariants as i
use Rattle.xmp_instr.specs.declared.parts.CodeParts.{CodeParts}
use Rattle.xmp_instr.specs.declared.parts.Guard.{Guard}
use Rattle.xmp_instr.specs.declared.meeting.Meeting.{Meeting}
use Rattle.xmp_instr.specs.Tables.{asked}
use Rattle.xmp_instr.specs.Effects.{numbers_for}

abbrev pub format_needs : Option (List ℕ) → ℕ
format_needs None = 0
format_needs (Some format) = asked format

abbrev pub meeting_needs : Option Meeting → ℕ
meeting_needs None = 0
meeting_needs (Some x) = numbers_for x

-- how many values an instruction finds, prints and exchanges apart
abbrev pub finds : Instr → ℕ
finds i.Drop = 1
finds i.Dup = 1
finds (i.Save slot) = 1
finds (i.LoadAt b n) = 1
finds (i.SaveAt b n) = 2
finds (i.Bound n at) = 1
finds (i.Fold n) = 2
finds (i.Local m d) = 1
finds (i.Bin op ty at) = 2
finds (i.Conv ty) = 1
finds (i.JumpZero k) = 1
finds i.Return = 1
finds (i.Mine t n) = n
finds (i.NextMine t d) = 2
finds (i.Scan ty) = 1
finds i.Get = 1
finds i.Put = 2
finds (i.Lift at) = 1
finds _ = 0

-- how many values it looks at or takes
abbrev pub needs : CodeParts → Instr → ℕ
needs c (i.Print f) = format_needs (slice_get c.formats f)
needs c (i.Exchange e) = meeting_needs (slice_get c.meetings e)
needs c instr = finds instr

-- how many it leaves in their place; of a call, once it has returned
abbrev pub leaves : Instr → ℕ
leaves (i.Push v) = 1
leaves i.Dup = 2
leaves (i.Load slot) = 1
leaves (i.LoadAt b n) = 1
leaves (i.Bound n at) = 1
leaves (i.Fold n) = 1
leaves (i.Local m d) = 1
leaves (i.Bin op ty at) = 1
leaves (i.Conv ty) = 1
leaves (i.Call k) = 1
leaves i.Return = 1
leaves (i.Mine t n) = 1
leaves (i.NextMine t d) = 1
leaves i.Noted = 1
leaves i.Get = 1
leaves _ = 0

abbrev pub depth_after : CodeParts → Instr → ℕ → ℕ
depth_after c instr d = (d - needs c instr) + leaves instr

-- before the instruction with number p there are d values
abbrev pub IsDepth : CodeParts → ℕ → ℕ → Type 0
IsDepth c p d = slice_get c.depths p ≡ Some d

abbrev pub IsTarget : CodeParts → Option Guard → Type 0
IsTarget c None = ⊥
IsTarget c (Some g) = IsDepth c g.target 0

-- The depths agree along the steps of an instruction, which stands at p with the depth d.
abbrev pub Agrees : CodeParts → (p d : ℕ) → Instr → Type 0
Agrees c p d (i.Jump k) = IsDepth c k d
Agrees c p d (i.JumpZero k) = IsDepth c k (d - 1) × IsDepth c (p + 1) (d - 1)
Agrees c p d (i.Call k) = IsDepth c k 0 × IsDepth c (p + 1) (d + 1)
Agrees c p d i.Return = d ≡ 1
Agrees c p d (i.Guard g) = IsTarget c (slice_get c.guards g) × IsDepth c (p + 1) d
Agrees c p d i.End = Unit {0}
Agrees c p d instr = IsDepth c (p + 1) (depth_after c instr d)

-- An instruction that stands at p with the depth d finds its values, and the depths agree along its steps.
pub record IsFine (c : CodeParts) (p d : ℕ) (instr : Instr) : Type 0 where
  pub enough : needs c instr ≤ d
  pub agrees : Agrees c p d instr
