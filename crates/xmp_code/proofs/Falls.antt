-- Behind an instruction that prints, reads or meets as many values less are on the stack as it takes.
use Rattle.std.proofs.Common.{◌≡◌, ◌<◌, ◌≤◌, ◌+◌, ◌-◌, ℕ, true, length, Some, slice_get, arith, ap, ◌∙◌, sym, subst, refl}
use Rattle.std.proofs.lemmas.Bool.{false≢true}
use Rattle.xmp_instr.specs.declared.instr.Instr.{Instr}
use Rattle.xmp_instr.specs.declared.instr.Instr.TheVariants as i
use Rattle.xmp_instr.specs.declared.parts.CodeParts.{CodeParts}
use Rattle.xmp_instr.specs.Depths.{IsDepth, needs}
use Rattle.xmp_instr.specs.Fits.{depth_at}
use Rattle.xmp_instr.specs.Valid.{IsValid}
use Rattle.xmp_instr.proofs.Fitting.{fine_at}
use Rattle.xmp_code.specs.Actions.{is_told}

pub record Falls (c : CodeParts) (p : ℕ) (instr : Instr) : Type 0 where
  pub enough : needs c instr ≤ depth_at c p
  pub behind : IsDepth c (p + 1) (depth_at c p - needs c instr)

less : (c : CodeParts) (p d n : ℕ) → IsDepth c p (d - n + 0) → IsDepth c p (d - n)
less c p d n h = let e : d - n + 0 ≡ d - n = omega arith in subst (IsDepth c p) e h

pub falls : (c : CodeParts) (p : ℕ) (instr : Instr) → IsValid c → slice_get c.instrs p ≡ Some instr → is_told instr ≡ true → Falls c p instr
falls c p (i.Print f) v e h = let fine = fine_at c v p (i.Print f) e in record { enough = fine.enough; behind = less c (p + 1) (depth_at c p) _ fine.agrees }
falls c p (i.Scan ty) v e h = let fine = fine_at c v p (i.Scan ty) e in record { enough = fine.enough; behind = less c (p + 1) (depth_at c p) _ fine.agrees }
falls c p (i.Exchange k) v e h = let fine = fine_at c v p (i.Exchange k) e in record { enough = fine.enough; behind = less c (p + 1) (depth_at c p) _ fine.agrees }
falls c p _ v e h = absurd (false≢true h)
