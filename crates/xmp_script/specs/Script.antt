-- Scripts of one-sided words (this project, after the coarrays of XcalableMP 1.4): what each image reads and writes in
-- each phase, and what it finds there.
use Rattle.std.specs.Prelude.{◌≡◌, ◌≢◌, ℕ, zero, suc, ◌<◌, ◌≤◌, ◌==◌, if◌then◌else◌, List, [], ◌∷◌, take, slice_get, Some}

-- a read of a word, or a write of a value to it
pub data Access (V : Type 0) : Type 0 where
  Get : ℕ → Access V
  Put : ℕ → V → Access V

-- Words with their values at the start, and for each phase and image its accesses in order. Nothing stands behind the
-- last phase.
pub record Script (V : Type 0) : Type 0 where
  pub start : ℕ → V
  pub images : ℕ
  pub phases : ℕ
  pub accesses : ℕ → ℕ → List (Access V)
  pub ends : (phase image : ℕ) → phases ≤ phase → accesses phase image ≡ []

-- f, with v at k
abbrev pub at : {A : Type 0} → (ℕ → A) → ℕ → A → ℕ → A
at f k v j = if j == k then v else f j

-- the words after an access
abbrev pub after : {V : Type 0} → (ℕ → V) → Access V → ℕ → V
after m (Get e) = m
after m (Put e v) = at m e v

-- the words after several, one behind the other
abbrev pub after_all : {V : Type 0} → (ℕ → V) → List (Access V) → ℕ → V
after_all m [] = m
after_all m (a ∷ rest) = after_all (after m a) rest

-- the words when the images below k have made all their accesses of a phase, one image after another
abbrev pub after_images : {V : Type 0} → Script V → ℕ → ℕ → (ℕ → V) → ℕ → V
after_images s q zero m = m
after_images s q (suc k) m = after_all (after_images s q k m) (s.accesses q k)

-- the words at the start of a phase; at the number of phases, the final ones
abbrev pub words_at : {V : Type 0} → Script V → ℕ → ℕ → V
words_at s zero = s.start
words_at s (suc q) = after_images s q s.images (words_at s q)

-- what image k sees of each word in phase q after i of its accesses: its own puts so far, on top of the words at the
-- phase's start
abbrev pub seen : {V : Type 0} → Script V → ℕ → ℕ → ℕ → ℕ → V
seen s k q i = after_all (words_at s q) (take i (s.accesses q k))

-- an access writes word e
abbrev pub IsPutTo : {V : Type 0} → ℕ → Access V → Type 0
IsPutTo e (Get x) = ⊥
IsPutTo e (Put x v) = x ≡ e

-- an access reads or writes word e
abbrev pub IsTo : {V : Type 0} → ℕ → Access V → Type 0
IsTo e (Get x) = x ≡ e
IsTo e (Put x v) = x ≡ e

-- image k writes word e in phase q
abbrev pub Puts : {V : Type 0} → Script V → ℕ → ℕ → ℕ → Type 0
Puts {V} s q k e = (i : ℕ) × (a : Access V) × (slice_get (s.accesses q k) i ≡ Some a) × IsPutTo e a

-- image k reads or writes word e in phase q
abbrev pub Touches : {V : Type 0} → Script V → ℕ → ℕ → ℕ → Type 0
Touches {V} s q k e = (i : ℕ) × (a : Access V) × (slice_get (s.accesses q k) i ≡ Some a) × IsTo e a

-- Free of conflicts: in no phase two images access one word and one of them writes it.
abbrev pub IsFree : {V : Type 0} → Script V → Type 0
IsFree s = (q k j e : ℕ) → q < s.phases → k < s.images → j < s.images → k ≢ j → Touches s q k e → Puts s q j e → ⊥
