-- The plan of each kind of tree.
use Rattle.std.proofs.Common.{◌≡◌, ℕ, ◌+◌, ◌<◌, ◌≤◌, List, [], ◌∷◌, ◌++◌, map, length, take, get_or, ap, sym, subst, ◌∙◌}
use Rattle.std.proofs.lemmas.List.{take_more, take_all, map-append}
use Rattle.std.proofs.lemmas.List.Sums.{fold_push}
use Rattle.xmp_paths.specs.Plans.{Plan, skip, emit, sequence, branch, loop}
use Rattle.xmp_spots.specs.Courses.{in_sequence, plan_of, plan_step}
use Rattle.xmp_spots.specs.declared.events.Event.{Event}
use Rattle.xmp_spots.specs.declared.events.Course.{Course, fold-roll-Course}
use Rattle.xmp_spots.specs.declared.events.Course.TheVariants as course
use Rattle.xmp_spots.specs.declared.summary.Summary.{Summary}
use Rattle.xmp_spots.specs.Summaries.{Sums}
use Rattle.xmp_spots.specs.declared.events.Course.TheOpen.{Course-F}

pub plan-emit : (e : Event) → plan_of (course.Emit e) ≡ emit e
plan-emit e = ap plan_of (sym (course.rolls-Emit e)) ∙ fold-roll-Course (Plan Event) plan_step (Course-F.Emit e)

pub plan-sequence : (parts : List Course) → plan_of (course.Sequence parts) ≡ in_sequence (map plan_of parts)
plan-sequence parts = ap plan_of (sym (course.rolls-Sequence parts)) ∙ fold-roll-Course (Plan Event) plan_step (Course-F.Sequence parts)

pub plan-branch : (left right : Course) → plan_of (course.Branch left right) ≡ branch (plan_of left) (plan_of right)
plan-branch left right = ap plan_of (sym (course.rolls-Branch left right)) ∙ fold-roll-Course (Plan Event) plan_step (Course-F.Branch left right)

pub plan-loop : (body : Course) → plan_of (course.Loop body) ≡ loop (plan_of body)
plan-loop body = ap plan_of (sym (course.rolls-Loop body)) ∙ fold-roll-Course (Plan Event) plan_step (Course-F.Loop body)

-- the next of some parts
pub sums_more : (parts : List Course) (k : ℕ) (d : Course) (s n z : Summary) → k < length parts →
    Sums (in_sequence (map plan_of (take k parts))) s → Sums (plan_of (get_or parts k d)) n →
    ((p q : Plan Event) → Sums p s → Sums q n → Sums (sequence p q) z) → Sums (in_sequence (map plan_of (take (k + 1) parts))) z
sums_more parts k d s n z l h i f =
    let x = get_or parts k d in
    subst (λ (p : Plan Event). Sums p z)
    (sym (ap (λ ps. in_sequence (map plan_of ps)) (take_more parts k d l)
    ∙ (ap in_sequence (map-append plan_of (take k parts) (x ∷ [])) ∙ fold_push sequence skip (map plan_of (take k parts)) (plan_of x))))
    (f (in_sequence (map plan_of (take k parts))) (plan_of x) h i)

pub sums_all : (parts : List Course) (k : ℕ) (s : Summary) → length parts ≤ k → Sums (in_sequence (map plan_of (take k parts))) s →
    Sums (in_sequence (map plan_of parts)) s
sums_all parts k s l h = subst (λ ps. Sums (in_sequence (map plan_of ps)) s) (take_all k parts l) h
