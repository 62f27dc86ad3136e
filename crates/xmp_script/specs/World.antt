-- Images that go through a script (this project): single accesses of one image between those of others, and a barrier
-- at the end of each phase, at which an image arrives, and which it passes once all have arrived.
use Rattle.std.specs.Prelude.{◌≡◌, ℕ, suc, ◌<◌, Bool, true, false, if◌then◌else◌, length, slice_get, Some}
use Rattle.xmp_script.specs.Script.{Access, Script, at, after}

-- The words, and of each image its phase, how many accesses of it are made, and whether it has arrived at its end.
pub record World (V : Type 0) : Type 0 where
  pub words : ℕ → V
  pub phase : ℕ → ℕ
  pub place : ℕ → ℕ
  pub arrived : ℕ → Bool

-- before any step
abbrev pub start : {V : Type 0} → Script V → World V
start s = record { words = s.start; phase = λ k. 0; place = λ k. 0; arrived = λ k. false }

-- the next access of image k is this one
abbrev pub MayAccess : {V : Type 0} → Script V → World V → ℕ → Access V → Type 0
MayAccess s w k a =
    (w.phase k < s.phases) × (w.arrived k ≡ false) × (slice_get (s.accesses (w.phase k) k) (w.place k) ≡ Some a)

-- image k has made its accesses of one of the script's phases
abbrev pub MayArrive : {V : Type 0} → Script V → World V → ℕ → Type 0
MayArrive s w k = (w.phase k < s.phases) × (w.arrived k ≡ false) × (w.place k ≡ length (s.accesses (w.phase k) k))

-- how often an image has arrived
abbrev pub arrivals : {V : Type 0} → World V → ℕ → ℕ
arrivals w k = if w.arrived k then suc (w.phase k) else w.phase k

-- image k has arrived, and every image has arrived as often
abbrev pub MayPass : {V : Type 0} → Script V → World V → ℕ → Type 0
MayPass s w k = (w.arrived k ≡ true) × ((j : ℕ) → j < s.images → w.phase k < arrivals w j)

-- after an access of image k
abbrev pub accessed : {V : Type 0} → World V → ℕ → Access V → World V
accessed w k a = record w { words = after w.words a; place = at w.place k (suc (w.place k)) }

-- after image k has arrived
abbrev pub has_arrived : {V : Type 0} → World V → ℕ → World V
has_arrived w k = record w { arrived = at w.arrived k true }

-- after image k has passed: it begins its next phase
abbrev pub passed : {V : Type 0} → World V → ℕ → World V
passed w k = record w { phase = at w.phase k (suc (w.phase k)); place = at w.place k 0; arrived = at w.arrived k false }

-- one step of an image
pub data Step {V : Type 0} (s : Script V) (w : World V) : World V → Type 0 where
  Accesses : (k : ℕ) (a : Access V) → k < s.images → MayAccess s w k a → Step s w (accessed w k a)
  Arrives : (k : ℕ) → k < s.images → MayArrive s w k → Step s w (has_arrived w k)
  Passes : (k : ℕ) → k < s.images → MayPass s w k → Step s w (passed w k)

-- the worlds that the images come to, in every order of their steps
pub data Reached {V : Type 0} (s : Script V) : World V → Type 0 where
  Begun : Reached s (start s)
  Then : {w v : World V} → Reached s w → Step s w v → Reached s v
