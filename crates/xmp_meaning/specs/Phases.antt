-- Coarray programs (this project, after XcalableMP 1.4, coarrays): every image runs through a phase by itself, from the memory at the phase's
-- start, with its own writes of this phase on top. At the phase's end all writes are applied.
use Rattle.std.specs.Prelude.{ℕ, zero, suc, ◌^◌, if◌then◌else◌, Bool, true, false, List, [], ◌∷◌, ◌++◌, map, ℤ, Option, Some, None}
use Rattle.std.specs.List.{range_with_len, flat_map}
use Rattle.std.specs.Ordering.{int_eq}
use Rattle.xmp_prog.specs.declared.parts.ProgParts.{ProgParts}
use Rattle.xmp_prog.specs.declared.parts.Array.{Array}
use Rattle.xmp_meaning.specs.declared.ends.End.TheVariants.{Trapped, OutOfSteps, PhaseEnd}
use Rattle.xmp_meaning.specs.declared.ends.Flow.{Flow}
use Rattle.xmp_meaning.specs.declared.ends.Flow.TheVariants.{Next}
use Rattle.xmp_meaning.specs.declared.outcome.Outcome.{Outcome}
use Rattle.xmp_meaning.specs.declared.outcome.Outcome.TheVariants as outcome
use Rattle.xmp_meaning.specs.Runs.{Step, Gave, Ended, Run, stop, state_of}
use Rattle.xmp_prog.specs.Fits.{node_count}
use Rattle.xmp_prog.specs.Tests.{is_image}
use Rattle.xmp_meaning.specs.Layouts.{Whole}
use Rattle.xmp_meaning.specs.Handlers.{Handlers, erased}
use Rattle.xmp_meaning.specs.Calls.{main_context}
use Rattle.xmp_meaning.specs.Programs.{no_writes, beginning, program, told}

-- the rows of all arrays, of which those of coarrays count
abbrev pub Memory : Type 0
Memory = List (List ℤ)

-- ---- an image's run

-- the coarrays of a memory, and the other arrays as they are
abbrev pub with_coarrays : List Array → Memory → Memory → Memory
with_coarrays (a ∷ all) (m ∷ ms) (r ∷ rs) = (if is_image a.home then m else r) ∷ with_coarrays all ms rs
with_coarrays all ms [] = []
with_coarrays [] ms (r ∷ rs) = r ∷ rs
with_coarrays (a ∷ all) [] (r ∷ rs) = r ∷ rs

-- At an `xmp_sync_all` an image goes on with the memory at the next phase's start, and with nothing printed in it; where that memory isn't
-- known, its run ends.
abbrev pub next_phase : ProgParts → List Memory → Run (List Memory) Flow
next_phase p [] = stop PhaseEnd
next_phase p (m ∷ ms) = λ s. Gave Next (record s { arrays = with_coarrays p.arrays m s.arrays; out = []; extra = ms })

-- the handlers of an image: `xmp_sync_all` alone does something
abbrev pub at_image : ProgParts → Handlers (List Memory)
at_image p = record erased { sync = λ s. next_phase p s.extra s }

-- an image's run up to the end of a phase, given the memories at the starts of the phases after the first up to it
abbrev pub image_run : ProgParts → ℕ → List Memory → Step (List Memory) Flow
image_run p image starts = program (at_image p) (main_context p image []) (beginning Whole p 0 starts)

-- those of all images, in order
abbrev pub image_runs : ProgParts → List Memory → List (Step (List Memory) Flow)
image_runs p starts = map (λ image. image_run p image starts) (range_with_len 0 (node_count p))

-- ---- the end of a phase

-- the writes of an image on top: where a cell isn't as it was when the phase began, it is as the image has it
abbrev pub applied_row : (before mine so_far : List ℤ) → List ℤ
applied_row (b ∷ bs) (v ∷ vs) (c ∷ cs) = (if int_eq v b then c else v) ∷ applied_row bs vs cs
applied_row bs [] cs = []
applied_row [] (v ∷ vs) cs = v ∷ vs
applied_row (b ∷ bs) (v ∷ vs) [] = v ∷ vs

-- the same for each array
abbrev pub applied : (before mine so_far : Memory) → Memory
applied (b ∷ bs) (v ∷ vs) (c ∷ cs) = applied_row b v c ∷ applied bs vs cs
applied bs [] cs = []
applied [] (v ∷ vs) cs = v ∷ vs
applied (b ∷ bs) (v ∷ vs) [] = v ∷ vs

-- those of all images, in order
abbrev pub all_applied : (before : Memory) → List Memory → (so_far : Memory) → Memory
all_applied before [] so_far = so_far
all_applied before (mine ∷ others) so_far = all_applied before others (applied before mine so_far)

-- the memory at the start of the phase that these lead to
abbrev pub last_of : Memory → List Memory → Memory
last_of first [] = first
last_of first (m ∷ ms) = last_of m ms

abbrev pub phase_start : ProgParts → List Memory → Memory
phase_start p starts = last_of (no_writes Whole p) starts

-- the memory at the end of a phase, from that at its start and the images' runs
abbrev pub memory_after : Memory → List (Step (List Memory) Flow) → Memory
memory_after before runs = all_applied before (map (λ (r : Step (List Memory) Flow). (state_of r).arrays) runs) before

-- the trap of the lowest image that traps, after what the images up to it printed
abbrev pub stopped : List ℕ → List (Step (List Memory) Flow) → Option Outcome
stopped out [] = None
stopped out (Gave flow s ∷ runs) = stopped (out ++ s.out) runs
stopped out (Ended (Trapped kind at) s ∷ runs) = Some (outcome.Trapped (out ++ s.out) kind at)
stopped out (Ended OutOfSteps s ∷ runs) = Some (outcome.OutOfSteps (out ++ s.out))
stopped out (Ended PhaseEnd s ∷ runs) = stopped (out ++ s.out) runs

-- what the images printed in the phase, in order
abbrev pub printed_in : List (Step (List Memory) Flow) → List ℕ
printed_in runs = flat_map (λ (r : Step (List Memory) Flow). (state_of r).out) runs

-- whether another phase follows: image 0 is at an `xmp_sync_all`, and so is each other one in a program that is accepted
abbrev pub goes_on : List (Step (List Memory) Flow) → Bool
goes_on [] = false
goes_on (Gave flow s ∷ runs) = false
goes_on (Ended PhaseEnd s ∷ runs) = true
goes_on (Ended (Trapped kind at) s ∷ runs) = false
goes_on (Ended OutOfSteps s ∷ runs) = false

-- ---- the phases one after the other

-- what a phase leads to: a trap, the program's end, or the phases that follow
abbrev pub phase_outcome : Option Outcome → Bool → (ended following : Outcome) → Outcome
phase_outcome (Some o) more ended following = o
phase_outcome None false ended following = ended
phase_outcome None true ended following = following

-- At most so many phases, from the one that these memories lead to. A program that is accepted has no more.
unfoldable pub phases_from : ProgParts → ℕ → List Memory → (out : List ℕ) → Outcome
phases_from p zero starts out = outcome.OutOfSteps out
phases_from p (suc n) starts out =
    let runs = image_runs p starts in
    let after = memory_after (phase_start p starts) runs in
    let following = phases_from p n (starts ++ after ∷ []) (out ++ printed_in runs) in
    phase_outcome (stopped out runs) (goes_on runs) (outcome.Ended (out ++ printed_in runs) (told p p.arrays after)) following

-- how many phases a coarray program has at most
abbrev pub most_phases : ℕ
most_phases = 2 ^ 32

-- what a coarray program comes to
abbrev pub phases : ProgParts → Outcome
phases p = phases_from p most_phases [] []
