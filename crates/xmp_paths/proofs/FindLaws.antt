-- The first rule that breaks in each kind of tree, from those of its parts.
use Rattle.std.proofs.Common.{◌≡◌, ℕ, ◌+◌, ◌<◌, ◌≤◌, Bool, true, List, [], ◌∷◌, ◌++◌, ◌⊎◌, inl, inr, sym, ap, ◌∙◌, subst, ◌↔◌, ⊎_elim, length, map, take, get_or, Option, None}
use Rattle.std.proofs.lemmas.List.{take_all}
use Rattle.xmp_base.specs.declared.place.Place.{Place}
use Rattle.xmp_base.specs.declared.refusal.Phase.{Phase}
use Rattle.xmp_base.specs.declared.refusal.Refusal.{Refusal}
use Rattle.xmp_base.specs.First.{IsFirst, first_of}
use Rattle.xmp_paths.specs.NodeSets.{has}
use Rattle.xmp_paths.specs.Plans.{Plan, skip, emit, sequence, branch, loop, in_order}
use Rattle.xmp_paths.specs.Flows.{plan_of}
use Rattle.xmp_paths.specs.Rules.{Broken, in_phase}
use Rattle.xmp_paths.specs.May.{may_leave, after_plan, BreaksAt, BreaksFrom}
use Rattle.xmp_paths.specs.Copies.{may_be_stale, CarriesOver}
use Rattle.xmp_paths.proofs.VerdictLaws.{first_alike, first_both, first_none}
use Rattle.xmp_paths.proofs.CarryLaws.{Same, plans_more}
use Rattle.xmp_paths.specs.declared.event.Event.{Event}
use Rattle.xmp_paths.specs.declared.event.Event.TheVariants.{Read, Wrong, Mark}
use Rattle.xmp_paths.specs.declared.event.Flow.{Flow}
use Rattle.xmp_paths.specs.declared.copies.Copies.{Copies}

breaks_entry : (p : Plan Event) (e f : ℕ → ℕ → Bool) → ((object node : ℕ) → e object node ≡ f object node) → (b : Broken) →
    BreaksFrom p e b → BreaksFrom p f b
breaks_entry skip e f s b h = h
breaks_entry (emit (Read object nodes rule at)) e f s b h = (h.0, (h.1.0, h.1.1, sym (s object h.1.0) ∙ h.1.2))
breaks_entry (emit (Wrong rule at)) e f s b h = h
breaks_entry (emit (Mark object current stale)) e f s b h = h
breaks_entry (sequence p q) e f s b h =
    ⊎_elim (λ k. inl (breaks_entry p e f s b k))
    (λ k. inr (breaks_entry q (after_plan p e) (after_plan p f) (λ object node. ap (may_leave object node p) (s object node)) b k)) h
breaks_entry (branch p q) e f s b h = ⊎_elim (λ k. inl (breaks_entry p e f s b k)) (λ k. inr (breaks_entry q e f s b k)) h
breaks_entry (loop p) e f s b h =
    breaks_entry p (after_plan (loop p) e) (after_plan (loop p) f) (λ object node. ap (may_leave object node (loop p)) (s object node)) b h

-- from the same copies the same rules break
pub first_entry : (phase : Phase) (p : Plan Event) (e f : ℕ → ℕ → Bool) (x : Option Refusal) → ((object node : ℕ) → e object node ≡ f object node) →
    IsFirst (in_phase phase (BreaksFrom p e)) x → IsFirst (in_phase phase (BreaksFrom p f)) x
first_entry phase p e f x s h =
    first_alike phase (BreaksFrom p e) (BreaksFrom p f) x
    (λ b. (breaks_entry p e f s b, breaks_entry p f e (λ object node. sym (s object node)) b)) h

-- ---- one event

pub clear_read : (phase : Phase) (e : Event) (object nodes rule : ℕ) (at : Place) (entry : ℕ → ℕ → Bool) → e ≡ Read object nodes rule at →
    ((node : ℕ) → has nodes node ≡ true → entry object node ≡ true → ⊥) → IsFirst (in_phase phase (BreaksAt e entry)) None
clear_read phase e object nodes rule at entry is none =
    subst (λ (v : Event). IsFirst (in_phase phase (BreaksAt v entry)) None) (sym is)
    (first_none phase (BreaksAt (Read object nodes rule at) entry) (λ b h. none h.1.0 h.1.1 h.1.2))

-- ---- parts in order

pub first_nothing : (phase : Phase) (entry : ℕ → ℕ → Bool) → IsFirst (in_phase phase (BreaksFrom (in_order []) entry)) None
first_nothing phase entry = first_none phase (BreaksFrom (in_order []) entry) (λ b h. h)

breaks_more : (ps : List (Plan Event)) (q : Plan Event) (entry : ℕ → ℕ → Bool) (b : Broken) →
    (BreaksFrom (in_order ps) entry b ⊎ BreaksFrom q (after_plan (in_order ps) entry) b) ↔ BreaksFrom (in_order (ps ++ q ∷ [])) entry b
breaks_more [] q entry b = (λ h. ⊎_elim (λ k. absurd k) (λ k. inl k) h, λ h. ⊎_elim (λ k. inr k) (λ k. absurd k) h)
breaks_more (p ∷ ps) q entry b =
    let rest = breaks_more ps q (after_plan p entry) b in (
      λ h. ⊎_elim (λ k. ⊎_elim (λ l. inl l) (λ l. inr (rest.0 (inl l))) k) (λ k. inr (rest.0 (inr k))) h,
      λ h. ⊎_elim (λ k. inl (inl k)) (λ k. ⊎_elim (λ l. inl (inr l)) (λ l. inr l) (rest.1 k)) h,
    )

pub first_more : (phase : Phase) (parts : List Flow) (k : ℕ) (d : Flow) (old mid : Copies) (x y : Option Refusal) → k < length parts →
    CarriesOver (in_order (map plan_of (take k parts))) old mid →
    IsFirst (in_phase phase (BreaksFrom (in_order (map plan_of (take k parts))) (may_be_stale old))) x →
    IsFirst (in_phase phase (BreaksFrom (plan_of (get_or parts k d)) (may_be_stale mid))) y →
    IsFirst (in_phase phase (BreaksFrom (in_order (map plan_of (take (k + 1) parts))) (may_be_stale old))) (first_of x y)
first_more phase parts k d old mid x y h c f g =
    let front = map plan_of (take k parts) in
    let q = plan_of (get_or parts k d) in
    let entry = may_be_stale old in
    subst (λ l. IsFirst (in_phase phase (BreaksFrom (in_order l) entry)) (first_of x y)) (sym (plans_more parts k d h))
    (first_alike phase (λ b. BreaksFrom (in_order front) entry b ⊎ BreaksFrom q (after_plan (in_order front) entry) b)
    (BreaksFrom (in_order (front ++ q ∷ [])) entry) (first_of x y) (breaks_more front q entry)
    (first_both phase (BreaksFrom (in_order front) entry) (BreaksFrom q (after_plan (in_order front) entry)) x y f
    (first_entry phase q (may_be_stale mid) (after_plan (in_order front) entry) y c g)))

pub first_all : (phase : Phase) (parts : List Flow) (k : ℕ) (old : Copies) (x : Option Refusal) → length parts ≤ k →
    IsFirst (in_phase phase (BreaksFrom (in_order (map plan_of (take k parts))) (may_be_stale old))) x →
    IsFirst (in_phase phase (BreaksFrom (in_order (map plan_of parts)) (may_be_stale old))) x
first_all phase parts k old x h f =
    subst (λ l. IsFirst (in_phase phase (BreaksFrom (in_order (map plan_of l)) (may_be_stale old))) x) (take_all k parts h) f

-- ---- branches and loops

pub first_branch : (phase : Phase) (p q : Plan Event) (old back : Copies) (x y : Option Refusal) → Same old back →
    IsFirst (in_phase phase (BreaksFrom p (may_be_stale old))) x → IsFirst (in_phase phase (BreaksFrom q (may_be_stale back))) y →
    IsFirst (in_phase phase (BreaksFrom (branch p q) (may_be_stale old))) (first_of x y)
first_branch phase p q old back x y s f g =
    first_both phase (BreaksFrom p (may_be_stale old)) (BreaksFrom q (may_be_stale old)) x y f
    (first_entry phase q (may_be_stale back) (may_be_stale old) y (λ object node. ap (λ n. has n node) (s.sets object)) g)

pub first_loop : (phase : Phase) (p : Plan Event) (old head : Copies) (x : Option Refusal) → CarriesOver (loop p) old head →
    IsFirst (in_phase phase (BreaksFrom p (may_be_stale head))) x → IsFirst (in_phase phase (BreaksFrom (loop p) (may_be_stale old))) x
first_loop phase p old head x c f = first_entry phase p (may_be_stale head) (after_plan (loop p) (may_be_stale old)) x c f
