-- Each text is accepted as a typed program, or refused.
use Rattle.std.proofs.Common.{◌≡◌, ◌⊎◌, inl, inr, ℕ, List, Option, None, Some, IsTrue, refl}
use Rattle.xmp_base.specs.First.{IsFirst}
use Rattle.xmp_base.specs.declared.refusal.Phase.{Phase}
use Rattle.xmp_base.specs.declared.refusal.Phase.TheVariants as phase
use Rattle.xmp_base.specs.declared.refusal.Refusal.{Refusal}
use Rattle.xmp_base.specs.declared.refusal.Fault.TheVariants as fault
use Rattle.xmp_paths.specs.Plans.{Plan}
use Rattle.xmp_paths.specs.Rules.{Breaks as PlanBreaks, in_phase}
use Rattle.xmp_paths.specs.declared.event.Event.{Event}
use Rattle.xmp_prog.specs.declared.parts.ProgParts.{ProgParts}
use Rattle.xmp_flow.specs.Program.{FlowBreaks, plan_of_program}
use Rattle.xmp_syntax.specs.declared.program.Tree.{Tree}
use Rattle.xmp_source.specs.Source.{IsTreeOf, Breaks}
use Rattle.xmp_parts.specs.Narrow.{is_count}
use Rattle.xmp_parts.specs.Parts.{IsParts}
use Rattle.xmp_parts.specs.Verdict.{IsVerdict}
use Rattle.xmp_drive.specs.Verdict.{IsAccepted, IsRefused, in_source, in_tree, coarray_verdict}
use Rattle.xmp_source_laws.proofs.EverySource as source
use Rattle.xmp_parts_laws.proofs.SomeParts as parts

abbrev Judged : List ℕ → Option ℕ → Type 0
Judged text given = ((p : ProgParts) × IsAccepted text given p) ⊎ ((r : Refusal) × IsRefused text given r)

-- each plan has a verdict
abbrev pub SomeVerdict : Type 0
SomeVerdict = (f : Phase) (plan : Plan Event) → (found : Option Refusal) × IsFirst (in_phase f (PlanBreaks plan)) found

module _ (some : SomeVerdict) (text : List ℕ) (given : Option ℕ) where
  -- no rule before those of the flow of copies breaks: one of these does, or none
  behind_coarrays : (t : Tree) → IsTreeOf text t → (p : ProgParts) → IsVerdict t given None → IsParts t given p → coarray_verdict t given ≡ None
      → ((found : Option Refusal) × IsFirst (FlowBreaks p) found) → Judged text given
  behind_coarrays t is p v q e (None, f) = inl (p, record { tree = t; is_tree = is; unbroken = (v, e); parts = q; judged = f })
  behind_coarrays t is p v q e (Some r, f) = inr (r, in_tree t is (inr ((v, e), (p, q, f))))

  -- no rule of names or mappings breaks: one of coarrays does, or none
  behind_mappings : (t : Tree) → IsTreeOf text t → (p : ProgParts) → IsVerdict t given None → IsParts t given p → (o : Option Refusal)
      → coarray_verdict t given ≡ o → Judged text given
  behind_mappings t is p v q None e = behind_coarrays t is p v q e (some phase.Flow (plan_of_program p))
  behind_mappings t is p v q (Some r) e = inr (r, in_tree t is (inl (inr (v, e))))

  behind_syntax : (t : Tree) → IsTreeOf text t
      → ((p : ProgParts) × IsVerdict t given None × IsParts t given p) ⊎ ((r : Refusal) × IsVerdict t given (Some r)) → Judged text given
  behind_syntax t is (inl p) = behind_mappings t is p.0 p.1 p.2 (coarray_verdict t given) refl
  behind_syntax t is (inr r) = inr (r.0, in_tree t is (inl (inl r.1)))

  behind_source : IsTrue (is_count given) → ((t : Tree) × IsTreeOf text t) ⊎ ((r : Refusal) × Breaks text (fault.Refused r)) → Judged text given
  behind_source c (inl t) = behind_syntax t.0 t.1 (parts.every_tree t.0 given c)
  behind_source c (inr r) = inr (r.0, in_source r.1)

pub every_text : SomeVerdict → (text : List ℕ) (given : Option ℕ) → IsTrue (is_count given) → Judged text given
every_text some text given c = behind_source some text given c (source.every_text text)
