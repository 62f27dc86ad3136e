-- The verdict on a tree as a function: there is no other.
use Rattle.std.proofs.Common.{◌≡◌, ◌∙◌, sym, ap, ℕ, inl, inr}
use Rattle.std.specs.Prelude.{Option, Some, None}
use Rattle.xmp_base.specs.declared.refusal.Refusal.{Refusal}
use Rattle.xmp_syntax.specs.declared.program.Tree.{Tree}
use Rattle.xmp_parts.specs.Verdict.{verdict}
use Rattle.xmp_parts.proofs.VerdictLaws.{verdict_alone}
use Rattle.xmp_drive.specs.Verdict.{coarray_verdict, IsTreeVerdict}

-- a later phase is looked at only where no rule breaks before it
abbrev pub then_verdict : Option Refusal → Option Refusal → Option Refusal
then_verdict (Some r) later = Some r
then_verdict None later = later

-- names, mappings, coarrays
abbrev pub tree_verdict : Tree → Option ℕ → Option Refusal
tree_verdict t given = then_verdict (verdict t given) (coarray_verdict t given)

pub told : (t : Tree) (given : Option ℕ) (found : Option Refusal) → IsTreeVerdict t given found → tree_verdict t given ≡ found
told t given None h = ap (λ v. then_verdict v (coarray_verdict t given)) (sym (verdict_alone t given None h.0)) ∙ h.1
told t given (Some r) (inl h) = ap (λ v. then_verdict v (coarray_verdict t given)) (sym (verdict_alone t given (Some r) h))
told t given (Some r) (inr h) = ap (λ v. then_verdict v (coarray_verdict t given)) (sym (verdict_alone t given None h.0)) ∙ h.1
