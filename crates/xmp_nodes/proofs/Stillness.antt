-- Runs that leave their state, and come to the same from two states; and plans that mark nothing.
use Rattle.std.proofs.Common.{◌≡◌, ◌++◌, ℕ, Bool, List, [], ◌∷◌, map, Result, Ok, Err, refl, sym, ap, subst, ◌∙◌}
use Rattle.std.specs.List.{AllByRecursion}
use Rattle.xmp_base.specs.declared.place.Place.{Place}
use Rattle.xmp_num.specs.declared.types.TrapKind.{TrapKind}
use Rattle.xmp_paths.specs.declared.event.Event.{Event}
use Rattle.xmp_paths.specs.declared.event.Event.TheVariants.{Read}
use Rattle.xmp_paths.specs.Plans.{Plan, skip, emit, sequence, in_order, Path}
use Rattle.xmp_paths.specs.Safe.{left, Safe}
use Rattle.xmp_paths.proofs.PathLaws.{walk-append}
use Rattle.xmp_paths.proofs.SafeLaws.{safe_fewer, safe_back}
use Rattle.xmp_meaning.specs.declared.ends.End.{End}
use Rattle.xmp_meaning.specs.Runs.{StepIn, Gave, Ended, RunIn, and_then, ◌>>=◌, pure, or_trap, state_of}
use Rattle.xmp_meaning.specs.Blocks.{each}

-- ---- what a run comes to

pub data Came (A : Type 0) : Type 0 where
  Value : A → Came A
  Stopped : End → Came A

abbrev pub came_to : {S A : Type 0} → StepIn S A → Came A
came_to (Gave a s) = Value a
came_to (Ended e s) = Stopped e

abbrev pub as_step : {S A : Type 0} → Came A → S → StepIn S A
as_step (Value a) s = Gave a s
as_step (Stopped e) s = Ended e s

-- The first leaves its state, and so does the second, which comes to the same.
pub record Still {S T A : Type 0} (f : RunIn S A) (s : S) (g : RunIn T A) (t : T) : Type 0 where
  pub first : f s ≡ as_step (came_to (f s)) s
  pub second : g t ≡ as_step (came_to (f s)) t

pub still_pure : {S T A : Type 0} (a : A) (s : S) (t : T) → Still (pure a) s (pure a) t
still_pure a s t = record { first = refl; second = refl }

pub still_trap : {S T A : Type 0} (r : Result A TrapKind) (at : Place) (s : S) (t : T) → Still (or_trap r at) s (or_trap r at) t
still_trap (Ok a) at s t = record { first = refl; second = refl }
still_trap (Err kind) at s t = record { first = refl; second = refl }

still_steps : {S T A B : Type 0} (s : S) (t : T) (r : StepIn S A) (q : StepIn T A) (f : A → RunIn S B) (g : A → RunIn T B)
    → r ≡ as_step (came_to r) s → q ≡ as_step (came_to r) t → ((a : A) → Still (f a) s (g a) t)
    → (and_then r f ≡ as_step (came_to (and_then r f)) s) × (and_then q g ≡ as_step (came_to (and_then r f)) t)
still_steps s t (Gave a u) q f g e h c =
    let same : s ≡ u = ap state_of (sym e) in
    subst (λ v. (f a v ≡ as_step (came_to (f a v)) s) × (and_then q g ≡ as_step (came_to (f a v)) t)) same
    ((c a).first, ap (λ x. and_then x g) h ∙ (c a).second)
still_steps s t (Ended d u) q f g e h c = (ap (λ v. Ended d v) (ap state_of e), ap (λ x. and_then x g) h)

pub still_on : {S T A B : Type 0} (f : RunIn S A) (g : RunIn T A) (f' : A → RunIn S B) (g' : A → RunIn T B) (s : S) (t : T)
    → Still f s g t → ((a : A) → Still (f' a) s (g' a) t) → Still (f >>= f') s (g >>= g') t
still_on f g f' g' s t h c =
    let r = still_steps s t (f s) (g t) f' g' h.first h.second c in
    record { first = r.0; second = r.1 }

-- several in order
pub still_each : {S T C A : Type 0} (f : C → RunIn S A) (g : C → RunIn T A) (s : S) (t : T) (cs : List C) (vs : List A)
    → AllByRecursion (λ c. Still (f c) s (g c) t) cs → Still (each (map f cs) vs) s (each (map g cs) vs) t
still_each f g s t [] vs h = still_pure vs s t
still_each f g s t (c ∷ cs) vs h =
    still_on (f c) (g c) (λ v. each (map f cs) (vs ++ v ∷ [])) (λ v. each (map g cs) (vs ++ v ∷ [])) s t h.0
    (λ v. still_each f g s t cs (vs ++ v ∷ []) h.1)

pub still_runs : {S T A : Type 0} (f f' : RunIn S A) (g g' : RunIn T A) (s : S) (t : T) → f ≡ f' → g ≡ g' → Still f' s g' t → Still f s g t
still_runs f f' g g' s t e h k = subst (λ x. Still x s g t) (sym e) (subst (λ y. Still f' s y t) (sym h) k)

-- ---- plans that mark nothing

-- one of its ways leaves all copies at a node as they are
pub record Quiet (node : ℕ) (plan : Plan Event) : Type 0 where
  pub way : List Event
  pub path : Path plan way
  pub keeps : (stale : ℕ → Bool) (object : ℕ) → left node way stale object ≡ stale object

module _ (node : ℕ) where
  pub quiet_skip : Quiet node skip
  quiet_skip = record { way = []; path = refl; keeps = λ stale object. refl }

  pub quiet_read : (object nodes rule : ℕ) (at : Place) → Quiet node (emit (Read object nodes rule at))
  quiet_read object nodes rule at = record { way = Read object nodes rule at ∷ []; path = refl; keeps = λ stale object. refl }

  pub quiet_then : (p q : Plan Event) → Quiet node p → Quiet node q → Quiet node (sequence p q)
  quiet_then p q a b = record {
    way = a.way ++ b.way;
    path = record { front = a.way; back = b.way; whole = refl; in_front = a.path; in_back = b.path };
    keeps = λ stale object. walk-append object node a.way b.way (stale object) ∙ b.keeps (left node a.way stale) object ∙ a.keeps stale object;
  }

  pub quiet_all : (ps : List (Plan Event)) → AllByRecursion (Quiet node) ps → Quiet node (in_order ps)
  quiet_all [] h = quiet_skip
  quiet_all (p ∷ ps) h = quiet_then p (in_order ps) h.0 (quiet_all ps h.1)

  -- what comes behind is safe from the same
  pub safe_behind : (p q : Plan Event) (stale : ℕ → Bool) → Quiet node p → Safe node (sequence p q) stale → Safe node q stale
  safe_behind p q stale a safe =
      safe_fewer node q (left node a.way stale) stale (λ object e. a.keeps stale object ∙ e) (safe_back node p q stale safe a.way a.path)
