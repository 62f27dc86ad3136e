use Rattle.std.proofs.Common.{◌≡◌, inl, inr, ◌∙◌, sym, ap, subst, refl, arith, length, slice_get}
use Rattle.std.proofs.lemmas.Bool.{false≢true, cases_lt}
use Rattle.std.proofs.lemmas.Option.{slice_get-get_or, slice_get_within}
use Rattle.xmp_instr.specs.Valid.{FineAt}
use Rattle.xmp_instr.proofs.Lists.{at_same}
use Rattle.xmp_instr.proofs.depths.are_fine.Goals as goal

pub steps-preserved : goal.steps-preserved
steps-preserved c = λ q instr below e. elim (cases_lt q c.steps.p) [
  | inl less ↦ c.steps.invariant q instr less e
  | inr past ↦
      let same : c.steps.p ≡ q = omega (arith, past, below) in
      subst (λ n. FineAt c.args.parts.now n instr) same
      (subst (FineAt c.args.parts.now c.steps.p) (at_same _ _ _ _ _ instr c.as_slice-instrs.ensures same c.steps-test.true e)
      ((c.if-not-is_fine_at.ensures {u = tt}).0 refl))
]

pub returns-then-not-is_fine_at : goal.returns-then-not-is_fine_at
returns-then-not-is_fine_at c = (
  λ h. absurd (false≢true h),
  λ all. (c.if-not-is_fine_at.ensures {u = tt}).1
      (all.each c.steps.p _ (sym (ap (λ xs. slice_get xs c.steps.p) c.as_slice-instrs.ensures) ∙ slice_get-get_or _ c.steps.p _ c.steps-test.true)),
)

pub returns : goal.returns
returns c = (
  λ h. record {
    each = λ p instr e. c.steps.invariant p instr
        (let k = slice_get_within c.args.parts.now.instrs p instr e in
        let l : length c.as_slice-instrs.result.now ≡ length c.args.parts.now.instrs = ap (λ xs. length xs) c.as_slice-instrs.ensures in
        let t = c.steps-test.false in omega (arith, k, l, t)) e;
  },
  λ a. refl,
)
