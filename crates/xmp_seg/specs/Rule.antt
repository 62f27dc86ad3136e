-- The rule of a segment: its words and what its seats know are those of a world to which the script's images come in some order. Source: this project.
use Rattle.std.specs.Prelude.{◌≡◌, ℕ, ℤ, zero, suc, ◌+◌, ◌-◌, ◌^◌, ◌<◌, ◌≤◌, Bool, false, List, [], length, slice_index, pos, FitsSigned}
use Rattle.std.proofs.Common.{refl}
use Rattle.std.specs.Int.{w64, cast_signed, cast_unsigned}
use mathlib.Core.Option.{some}
use lib.ListN.{get_elem?}
use Rattle.atomic_table.specs.Table.{State}
use Rattle.atomic_table.specs.Seated.{TableId}
use Rattle.xmp_script.specs.Script.{Access, Script, IsFree, Touches}
use Rattle.xmp_script.specs.World.{World, Reached, arrivals}
use Rattle.xmp_seg.specs.declared.look.Look.{Look}
use Rattle.xmp_seg.specs.Seats.{Standing}

-- the 64 bits of a value
abbrev pub bits : ℤ → ℕ
bits z = cast_unsigned w64 z

-- the value of the e-th word behind the count
abbrev pub value_behind : List ℕ → ℕ → ℤ
value_behind words e = cast_signed w64 (slice_index words (suc e))

-- f 0 + f 1 + .. + f (n - 1)
abbrev pub total : (ℕ → ℕ) → ℕ → ℕ
total f zero = 0
total f (suc n) = total f n + f n

-- A script for a segment of so many words: free of conflicts, with accesses to these words alone, 1 to 16 images, and at most 2 ^ 40 phases.
pub record IsFor (words : ℕ) (s : Script ℤ) : Type 0 where
  pub free : IsFree s
  pub inside : (q k e : ℕ) → k < s.images → Touches s q k e → e < words
  pub some_image : 0 < s.images
  pub few_images : s.images ≤ 16
  pub few_phases : s.phases ≤ 2 ^ 40

-- image k is one of the seat's
abbrev pub InRun : Look → ℕ → Type 0
InRun v k = (v.first ≤ k) × (k < v.past)

-- the seat has one image
abbrev pub IsOne : Look → Type 0
IsOne v = v.past ≡ suc v.first

-- a seat knows how its images stand; of the arrivals, of which there are n, its last look found no more
abbrev pub Knows : Script ℤ → World ℤ → ℕ → Look → Type 0
Knows s w n v = (v.past ≤ s.images) × (v.found ≤ n) × ((k : ℕ) → InRun v k → (v.phase ≡ w.phase k) × (v.place ≡ w.place k) × (v.arrived ≡ w.arrived k))

-- Word 0 counts the arrivals, each word behind it has the bits of a word of the world, and each image is in at most one seat.
pub record Shows (s : Script ℤ) (w : World ℤ) (state : State (Unit {0}) Look) : Type 0 where
  pub count : slice_index state.words 0 ≡ total (arrivals w) s.images
  pub words : (e : ℕ) → suc e < length state.words → (slice_index state.words (suc e) ≡ bits (w.words e)) × FitsSigned w64 (w.words e)
  pub views : (port : ℕ) (v : Look) → get_elem? state.views port ≡ some v → Knows s w (slice_index state.words 0) v
  pub apart : (port other : ℕ) (v u : Look) (k : ℕ) → get_elem? state.views port ≡ some v → get_elem? state.views other ≡ some u → InRun v k → InRun u k → port ≡ other

-- the rule of a segment
abbrev pub Ruled : Script ℤ → State (Unit {0}) Look → Type 0
Ruled s state = IsFor (length state.words - 1) s × (0 < length state.words) × ((w : World ℤ) × Reached s w × Shows s w state)

-- a seat of these images at the script's start
abbrev pub run_at_start : ℕ → ℕ → Look
run_at_start first past = record { first = first; past = past; phase = 0; place = 0; arrived = false; looks = 0; found = 0 }

-- the seat of all images at the start
abbrev pub all_at_start : Script ℤ → Look
all_at_start s = run_at_start 0 s.images

-- a seat that has no image
abbrev pub spent : Look
spent = run_at_start 0 0

-- after a look that found n arrivals
abbrev pub looked : Look → ℕ → Look
looked v n = record v { looks = suc v.looks; found = n }

-- at the start of the next phase
abbrev pub gone_on : Look → Look
gone_on v = record v { phase = suc v.phase; place = 0; arrived = false }

-- the script of no image
abbrev pub nothing : Script ℤ
nothing = record { start = λ e. pos 0; images = 0; phases = 0; accesses = λ phase image. []; ends = λ phase image past. refl }

-- how a seat of one image stands, as contracts see it
abbrev pub standing : TableId → Look → Standing
standing segment v =
    record { segment = segment; image = v.first; phase = v.phase; place = v.place; arrived = v.arrived; looks = v.looks; found = v.found }

-- the seat has all images, at the script's end
abbrev pub IsWhole : Script ℤ → Look → Type 0
IsWhole s v = (v.first ≡ 0) × (v.past ≡ s.images) × (v.phase ≡ s.phases)
