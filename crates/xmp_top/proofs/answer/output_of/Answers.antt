use Rattle.std.proofs.Common.{inl, inr}
use Rattle.xmp_top.proofs.answer.output_of.Goals as goal

pub returns-in-Err-Refused : goal.returns-in-Err-Refused
returns-in-Err-Refused c = λ out accepted.
    elim (rw c.in-Err-Refused.field-0-is at c.in-Err-Refused.ensures.err) [
      | inl e ↦ absurd (cc)
      | inr refused ↦ refused.1 accepted.size accepted.nodes accepted.value accepted.spelled
    ]
