-- What contracts see of a segment of shared words and of the seats of its images. Source: this project, after the coarrays of XcalableMP 1.4.
use Rattle.std.specs.Prelude.{◌≡◌, ℕ, ℤ, suc, ◌*◌, ◌<◌, Bool, true, false, List, length, slice_get, Some}
use Rattle.atomic_table.specs.Seated.{TableId}
use Rattle.xmp_script.specs.Script.{Access, Script}

-- A seat: its segment, its image, how far that is in the script, whether it has arrived at the phase's end; how often it has looked whether it may pass, and how many arrivals its last look found.
pub record Standing : Type 0 where
  pub segment : TableId
  pub image : ℕ
  pub phase : ℕ
  pub place : ℕ
  pub arrived : Bool
  pub looks : ℕ
  pub found : ℕ

-- an image before its first access
abbrev pub at_start : TableId → ℕ → Standing
at_start segment k = record { segment = segment; image = k; phase = 0; place = 0; arrived = false; looks = 0; found = 0 }

-- this is the script's next access of the image in its phase
abbrev pub IsNext : Script ℤ → Standing → Access ℤ → Type 0
IsNext s v a = slice_get (s.accesses v.phase v.image) v.place ≡ Some a

-- after an access
abbrev pub after_access : Standing → Standing
after_access v = record v { place = suc v.place }

-- the image has made its accesses of one of the script's phases, and not arrived
abbrev pub IsDone : Script ℤ → Standing → Type 0
IsDone s v = (v.arrived ≡ false) × (v.phase < s.phases) × (v.place ≡ length (s.accesses v.phase v.image))

-- after an arrival
abbrev pub after_arrival : Standing → Standing
after_arrival v = record v { arrived = true }

-- how many arrivals there are once every image has arrived at the end of the seat's phase
abbrev pub due : Script ℤ → Standing → ℕ
due s v = s.images * suc v.phase

-- after a look that found so many arrivals
abbrev pub after_look : Standing → ℕ → Standing
after_look v n = record v { looks = suc v.looks; found = n }

-- at the start of the next phase
abbrev pub after_pass : Standing → Standing
after_pass v = record v { phase = suc v.phase; place = 0; arrived = false }

-- the seats of all images of a segment, in order, at the script's start
abbrev pub AreAtStart : Script ℤ → TableId → List Standing → Type 0
AreAtStart s segment seats = (length seats ≡ s.images) × ((k : ℕ) → k < s.images → slice_get seats k ≡ Some (at_start segment k))

-- the image has passed the script's last phase
abbrev pub IsAtEnd : Script ℤ → Standing → Type 0
IsAtEnd s v = (v.phase ≡ s.phases) × (v.place ≡ 0) × (v.arrived ≡ false)

-- the seats of all images of a segment, in order, at the script's end
abbrev pub AreAtEnd : Script ℤ → TableId → List Standing → Type 0
AreAtEnd s segment seats =
    (length seats ≡ s.images) × ((k : ℕ) (v : Standing) → slice_get seats k ≡ Some v → (v.segment ≡ segment) × (v.image ≡ k) × IsAtEnd s v)

-- the list has the values of these words, from word 0 on
abbrev pub AreWords : List ℤ → (ℕ → ℤ) → Type 0
AreWords list words = (e : ℕ) → e < length list → slice_get list e ≡ Some (words e)
