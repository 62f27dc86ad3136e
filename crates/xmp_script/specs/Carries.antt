-- Images that make the accesses of a script (this project).
use Rattle.std.specs.Prelude.{◌≡◌, ◌≢◌, ℕ, zero, suc, ◌<◌, ◌≤◌, true, false, if◌then◌else◌, length, slice_get, Option, Some, None, ◌⊎◌}
use Rattle.xmp_script.specs.Script.{Access, Get, Script, IsFree, seen}
use Rattle.xmp_script.specs.World.{World}
use Rattle.xmp_script.specs.Images.{Images, Standing, AtAccess, AtSync, AtEnd, behind}

-- the state behind the next access, where there is one
abbrev pub onward : {S V : Type 0} → Images S V → (ℕ → V) → Option (Access V) → S → S
onward im m None x = x
onward im m (Some a) x = behind im m (im.go x) a

-- state x of image k at the start of phase q, after i of its accesses
abbrev pub after_accesses : {S V : Type 0} → Images S V → Script V → ℕ → ℕ → ℕ → S → S
after_accesses im s k q zero x = x
after_accesses im s k q (suc i) x = onward im (seen s k q i) (slice_get (s.accesses q k) i) (after_accesses im s k q i x)

-- image k at the start of a phase
abbrev pub at_phase : {S V : Type 0} → Images S V → Script V → ℕ → ℕ → S
at_phase im s k zero = im.begin k
at_phase im s k (suc q) = im.pass (im.go (after_accesses im s k q (length (s.accesses q k)) (at_phase im s k q)))

-- Image k's own list of states, by phase and place: its gets find what it sees.
abbrev pub own : {S V : Type 0} → Images S V → Script V → ℕ → ℕ → ℕ → S
own im s k q i = after_accesses im s k q i (at_phase im s k q)

-- Fed with what it sees, image k makes the script's accesses, a sync behind each phase but the last, and then ends.
pub record CarriesScript {S V : Type 0} (im : Images S V) (s : Script V) (k : ℕ) : Type 0 where
  pub accesses : (q i : ℕ) (a : Access V) → q < s.phases → slice_get (s.accesses q k) i ≡ Some a →
      im.stands (im.go (own im s k q i)) ≡ AtAccess a
  pub syncs : (q : ℕ) → suc q < s.phases → im.stands (im.go (own im s k q (length (s.accesses q k)))) ≡ AtSync
  pub ends : (q : ℕ) → suc q ≡ s.phases → im.stands (im.go (own im s k q (length (s.accesses q k)))) ≡ AtEnd

-- All images carry the script, which is free of conflicts, and has an image and a phase.
pub record AllCarry {S V : Type 0} (im : Images S V) (s : Script V) : Type 0 where
  pub free : IsFree s
  pub images : 0 < s.images
  pub phases : 0 < s.phases
  pub each : (k : ℕ) → k < s.images → CarriesScript im s k

-- Images stand as in a world of the script: over the same words, each at its own list's state for its phase and place;
-- one that has arrived stands at its sync, or at its end; one that stands at a get is about to find what its list is
-- fed with.
pub record StandsAs {S V : Type 0} (im : Images S V) (s : Script V) (v : Standing S V) (w : World V) : Type 0 where
  pub words : (e : ℕ) → v.words e ≡ w.words e
  pub state : (k : ℕ) → k < s.images →
      v.state k ≡ (if w.arrived k then im.go (own im s k (w.phase k) (w.place k)) else own im s k (w.phase k) (w.place k))
  pub arrived : (k : ℕ) → k < s.images → w.arrived k ≡ true → (v.ended k ≡ true) ⊎ (v.next k < s.images)
  pub running : (k : ℕ) → k < s.images → w.arrived k ≡ false → (v.ended k ≡ false) × (s.images ≤ v.next k)
  pub gets : (k e : ℕ) → k < s.images → w.arrived k ≡ false → im.stands (im.go (v.state k)) ≡ AtAccess (Get e) →
      v.words e ≡ seen s k (w.phase k) (w.place k) e

-- the same words, the same images, and the same queues between two of them
pub record IsSameStanding {S V : Type 0} (images : ℕ) (v u : Standing S V) : Type 0 where
  pub words : (e : ℕ) → v.words e ≡ u.words e
  pub state : (k : ℕ) → k < images → v.state k ≡ u.state k
  pub next : (k : ℕ) → k < images → v.next k ≡ u.next k
  pub queue : (i k : ℕ) → i < images → k < images → i ≢ k → v.queue i k ≡ u.queue i k
