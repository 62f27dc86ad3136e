-- A text is refused by one rule at one place.
use Rattle.std.proofs.Common.{◌≡◌, ℕ, List, sym, subst, ◌∙◌, inl, inr}
use Rattle.std.specs.Prelude.{Option, Some, None}
use Rattle.xmp_base.specs.declared.refusal.Refusal.{Refusal}
use Rattle.xmp_base.specs.declared.refusal.Fault.TheVariants as fault
use Rattle.xmp_source.specs.Source.{Breaks}
use Rattle.xmp_base.specs.First.{IsFirst}
use Rattle.xmp_base.specs.declared.refusal.Phase.{Phase}
use Rattle.xmp_base.specs.declared.refusal.Phase.TheVariants as phase
use Rattle.xmp_paths.specs.Plans.{Plan}
use Rattle.xmp_paths.specs.Rules.{Breaks as PlanBreaks, in_phase}
use Rattle.xmp_paths.specs.declared.event.Event.{Event}
use Rattle.xmp_prog.specs.declared.parts.ProgParts.{ProgParts}
use Rattle.xmp_flow.specs.Program.{plan_of_program}
use Rattle.xmp_drive.specs.Verdict.{IsRefused, Judged, in_source, in_tree}
use Rattle.xmp_drive.proofs.OneProgram.{parts_of_text}
use Rattle.xmp_drive.proofs.TreeVerdict.{told, tree_verdict}
use Rattle.xmp_drive.proofs.Verdicts.{OneTree, TreeOrRefused, none_or_some, one_verdict}

abbrev pub OneInSource : Type 0
OneInSource = (text : List ℕ) (r s : Refusal) → Breaks text (fault.Refused r) → Breaks text (fault.Refused s) → r ≡ s

one_some : (v : Option Refusal) (r s : Refusal) → v ≡ Some r → v ≡ Some s → r ≡ s
one_some v r s p q = cc

-- a plan has one verdict
abbrev pub OneInPlan : Type 0
OneInPlan = (f : Phase) (plan : Plan Event) (x y : Option Refusal) → IsFirst (in_phase f (PlanBreaks plan)) x → IsFirst (in_phase f (PlanBreaks plan)) y → x ≡ y

same_some : (r s : Refusal) → Some r ≡ Some s → r ≡ s
same_some r s e = cc

one_judged : OneInPlan → (p : ProgParts) (r s : Refusal) → Judged p (Some r) → Judged p (Some s) → r ≡ s
one_judged one p r s a b = same_some r s (one phase.Flow (plan_of_program p) (Some r) (Some s) a b)

pub one_refusal : OneTree → TreeOrRefused → OneInSource → OneInPlan → (text : List ℕ) (given : Option ℕ) (r s : Refusal)
    → IsRefused text given r → IsRefused text given s → r ≡ s
one_refusal tree never source plan text given r s (in_source b) (in_source d) = source text r s b d
one_refusal tree never source plan text given r s (in_source b) (in_tree t q v) = absurd (never text t r q b)
one_refusal tree never source plan text given r s (in_tree t q v) (in_source d) = absurd (never text t s q d)
one_refusal tree never source plan text given r s (in_tree t q (inl v)) (in_tree u p (inl w)) =
    one_some (tree_verdict t given) r s (told t given (Some r) v) (one_verdict tree text given t u q p ∙ told u given (Some s) w)
one_refusal tree never source plan text given r s (in_tree t q (inl v)) (in_tree u p (inr w)) =
    absurd (none_or_some (tree_verdict u given) r (told u given None w.0) (one_verdict tree text given u t p q ∙ told t given (Some r) v))
one_refusal tree never source plan text given r s (in_tree t q (inr v)) (in_tree u p (inl w)) =
    absurd (none_or_some (tree_verdict t given) s (told t given None v.0) (one_verdict tree text given t u q p ∙ told u given (Some s) w))
one_refusal tree never source plan text given r s (in_tree t q (inr v)) (in_tree u p (inr w)) =
    one_judged plan v.1.0 r s v.1.2 (subst (λ x. Judged x (Some s)) (parts_of_text tree text given u t w.1.0 v.1.0 p q w.1.1 v.1.1) w.1.2)
