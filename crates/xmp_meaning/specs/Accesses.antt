-- The script of a coarray program (this project): which shared words each image reads and writes in each phase.
use Rattle.std.specs.Prelude.{ℕ, zero, suc, ◌+◌, ◌-◌, ◌%◌, ◌&&◌, nat_lt, nat_le, if◌then◌else◌, Bool, List, [], ◌∷◌, ◌++◌, map, ℤ, pos, Option, Some, None, is_none}
use Rattle.std.specs.List.{range_with_len}
use Rattle.xmp_prog.specs.declared.parts.ProgParts.{ProgParts}
use Rattle.xmp_prog.specs.Fits.{node_count}
use Rattle.xmp_meaning.specs.declared.ends.End.{End}
use Rattle.xmp_meaning.specs.declared.ends.End.TheVariants.{Trapped, OutOfSteps, PhaseEnd}
use Rattle.xmp_meaning.specs.declared.ends.Flow.{Flow}
use Rattle.xmp_meaning.specs.declared.ends.Flow.TheVariants.{Next}
use Rattle.xmp_meaning.specs.Runs.{Step, Gave, Run, ◌>>=◌, stop, cell, set_cell, end_of, state_of}
use Rattle.xmp_meaning.specs.Declarations.{is_coarray}
use Rattle.xmp_meaning.specs.Layouts.{Whole}
use Rattle.xmp_meaning.specs.Handlers.{Handlers, erased}
use Rattle.xmp_meaning.specs.Expressions.{natural}
use Rattle.xmp_meaning.specs.Calls.{main_context}
use Rattle.xmp_meaning.specs.Programs.{beginning, program}
use Rattle.xmp_meaning.specs.TrapWords.{kind_number}
use Rattle.xmp_meaning.specs.SharedWords.{word_at, notice_word}
use Rattle.xmp_meaning.specs.Phases.{Memory, with_coarrays, image_runs, phase_start, memory_after, stopped, goes_on, most_phases}

-- A read of a shared word, or a write to it.
pub data Access : Type 0 where
  Get : ℕ → Access
  Put : (word : ℕ) → (value : ℤ) → Access

-- ---- an image's run that notes its accesses

-- the memories at the starts of the phases to come, and the accesses of this phase so far
pub record Accessed : Type 0 where
  pub starts : List Memory
  pub accesses : List Access

-- the access of a cell by its number, where the array is a coarray
abbrev pub access_to : ProgParts → (array : ℕ) → (at : ℤ) → (ℕ → Access) → List Access
access_to p array at access = if is_coarray p array then access (word_at p array (natural at)) ∷ [] else []

-- accesses more
abbrev pub note_accesses : List Access → Run Accessed (Unit {0})
note_accesses more = λ s. Gave tt (record s { extra = record s.extra { accesses = s.extra.accesses ++ more } })

-- into the next phase, in which there is no access yet
abbrev pub next_accesses : ProgParts → List Memory → Run Accessed Flow
next_accesses p [] = stop PhaseEnd
next_accesses p (m ∷ ms) = λ s. Gave Next (record s {
  arrays = with_coarrays p.arrays m s.arrays;
  out = [];
  extra = record { starts = ms; accesses = [] };
})

-- the handlers of an image that notes its accesses, and then does what an image does
abbrev pub noting_image : ProgParts → Handlers Accessed
noting_image p = record erased {
  get = λ array at. note_accesses (access_to p array at Get) >>= (λ u. cell array at);
  put = λ array at v. note_accesses (access_to p array at (λ word. Put word v)) >>= (λ u. set_cell array at v);
  sync = λ s. next_accesses p s.extra.starts s;
}

-- an image's run up to the end of a phase, given the memories at the starts of the phases after the first up to it
abbrev pub noted_image_run : ProgParts → (image : ℕ) → List Memory → Step Accessed Flow
noted_image_run p image starts =
    program (noting_image p) (main_context p image []) (beginning Whole p 0 (record { starts = starts; accesses = [] }))

-- ---- notices

-- what an image says at the end of a phase: 1 plus the kind of its trap, or 0
abbrev pub notice_of : Option End → ℤ
notice_of (Some (Trapped kind at)) = pos (1 + kind_number kind)
notice_of (Some OutOfSteps) = pos 0
notice_of (Some PhaseEnd) = pos 0
notice_of None = pos 0

-- behind a phase each image reads what all say of it, in the order of the images
abbrev pub notice_reads : ProgParts → (phase : ℕ) → List Access
notice_reads p phase = map (λ image. Get (notice_word p image (phase % 2))) (range_with_len 0 (node_count p))

-- an image's accesses in a phase, and its notice at the end
abbrev pub phase_accesses : ProgParts → List Memory → (phase image : ℕ) → List Access
phase_accesses p starts phase image =
    let step = noted_image_run p image starts in
    (state_of step).extra.accesses ++ Put (notice_word p image (phase % 2)) (notice_of (end_of step)) ∷ []

-- ---- the phases

-- the memories at the starts of the phases behind the first, up to a phase
unfoldable pub starts_of : ProgParts → (phase : ℕ) → List Memory
starts_of p zero = []
starts_of p (suc phase) =
    let starts = starts_of p phase in starts ++ memory_after (phase_start p starts) (image_runs p starts) ∷ []

-- whether another phase follows: no image trapped, and the images are at an `xmp_sync_all`
abbrev pub leads_on : ProgParts → (phase : ℕ) → Bool
leads_on p phase = let runs = image_runs p (starts_of p phase) in is_none (stopped [] runs) && goes_on runs

-- the first number from `at` on that fails a test, of at most so many
unfoldable pub first_failing : (ℕ → Bool) → (most at : ℕ) → ℕ
first_failing test zero at = at
first_failing test (suc n) at = if test at then first_failing test n (suc at) else at

-- the last phase of a program
abbrev pub last_phase : ProgParts → ℕ
last_phase p = first_failing (leads_on p) most_phases 0

-- The script: the notices of the phase before, then the accesses of this one. Behind the last phase its notices alone
-- are read.
abbrev pub script : ProgParts → (phase image : ℕ) → List Access
script p phase image =
    (if nat_lt 0 phase && nat_le phase (last_phase p + 1) then notice_reads p (phase - 1) else [])
    ++ (if nat_le phase (last_phase p) then phase_accesses p (starts_of p phase) phase image else [])
