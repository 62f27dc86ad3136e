-- Each program has one answer.
use Rattle.std.proofs.Common.{◌≡◌, true, List, [], ◌∷◌, sym, ap, subst, ⊎_elim, ◌↔◌, Option, Some, None, ℕ, ◌+◌, min}
use Rattle.xmp_base.specs.declared.refusal.Phase.TheVariants.{Coarray}
use Rattle.xmp_base.specs.declared.refusal.Refusal.{Refusal}
use Rattle.xmp_base.specs.First.{IsFirst, first_of}
use Rattle.xmp_base.proofs.FirstLaws.{first_or, first_same}
use Rattle.xmp_paths.specs.Rules.{Broken, in_phase}
use Rattle.xmp_paths.proofs.VerdictLaws.{one_answer}
use Rattle.xmp_prog.specs.Fits.{node_count}
use Rattle.xmp_prog.specs.declared.parts.ProgParts.{ProgParts}
use Rattle.xmp_spots.specs.Variables.{image_variables}
use Rattle.xmp_spots.specs.PlanRaces.{BreaksIn}
use Rattle.xmp_spots.proofs.AnswerLaws.{first_at, first_where, some_answer}
use Rattle.xmp_races.specs.declared.stops.Stop.{Stop}
use Rattle.xmp_races.specs.Syncs.{BreaksAtStop, breaks_at, most, outermost_rounds, stopped_at, stops_of}
use Rattle.xmp_races.specs.Program.{CoarrayBreaks, plan_of_program}

some_stop : (before : ℕ) (stops : List Stop) → (found : Option Refusal) × IsFirst (BreaksAtStop before stops) found
some_stop before [] = (None, λ r h. h)
some_stop before (s ∷ stops) =
    let one = first_where (breaks_at before s) (λ r. stopped_at s ≡ r) (Some (stopped_at s)) (first_at (stopped_at s)) in
    let rest = some_stop (min (before + s.rounds.turns) most) stops in (
      first_of one.0 rest.0,
      first_or (λ r. (breaks_at before s ≡ true) × (stopped_at s ≡ r)) (BreaksAtStop (min (before + s.rounds.turns) most) stops) one.0 rest.0 one.1 rest.1,
    )

pub some_verdict : (p : ProgParts) → (found : Option Refusal) × IsFirst (CoarrayBreaks p) found
some_verdict p =
    let stops = stops_of (node_count p) (image_variables p) p.body outermost_rounds in
    let path = some_answer (plan_of_program p) in
    let stop = some_stop 0 stops in
    (first_of path.0 stop.0, first_or (BreaksIn (plan_of_program p)) (BreaksAtStop 0 stops) path.0 stop.0 path.1 stop.1)

-- ---- all refusals are of one phase

stop_phase : (before : ℕ) (stops : List Stop) (r : Refusal) → BreaksAtStop before stops r → r.phase ≡ Coarray
stop_phase before [] r h = absurd h
stop_phase before (s ∷ stops) r h =
    ⊎_elim (λ k. sym (ap (λ (x : Refusal). x.phase) k.1)) (λ k. stop_phase (min (before + s.rounds.turns) most) stops r k) h

plan_phase : (p : ProgParts) (r : Refusal) → BreaksIn (plan_of_program p) r → r.phase ≡ Coarray
plan_phase p r h = ⊎_elim (λ k. sym (ap (λ (x : Refusal). x.phase) k.at)) (λ k. k.0) h

in_coarray : (p : ProgParts) (r : Refusal) → CoarrayBreaks p r → r.phase ≡ Coarray
in_coarray p r h =
    ⊎_elim (plan_phase p r) (stop_phase 0 (stops_of (node_count p) (image_variables p) p.body outermost_rounds) r) h

abbrev broken : ProgParts → Broken → Type 0
broken p b = CoarrayBreaks p (record { phase = Coarray; rule = b.rule; at = b.at })

same_breaks : (p : ProgParts) (r : Refusal) → CoarrayBreaks p r ↔ in_phase Coarray (broken p) r
same_breaks p r = (
  λ h. let e = in_coarray p r h in (e, subst (λ x. CoarrayBreaks p (record { phase = x; rule = r.rule; at = r.at })) e h),
  λ h. subst (λ x. CoarrayBreaks p (record { phase = x; rule = r.rule; at = r.at })) (sym h.0) h.1,
)

pub one_verdict : (p : ProgParts) (x y : Option Refusal) → IsFirst (CoarrayBreaks p) x → IsFirst (CoarrayBreaks p) y → x ≡ y
one_verdict p x y h k =
    one_answer Coarray (broken p) x y
    (first_same (CoarrayBreaks p) (in_phase Coarray (broken p)) (same_breaks p) x h)
    (first_same (CoarrayBreaks p) (in_phase Coarray (broken p)) (same_breaks p) y k)
