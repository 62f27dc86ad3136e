-- What holds of the exchanges that a run of a program notes.
use Rattle.std.specs.Prelude.{◌≡◌, ℕ, List, Some}
use Rattle.std.specs.List.{AllByRecursion}
use Rattle.xmp_num.specs.declared.types.Ty.TheVariants.{Int}
use Rattle.xmp_num.specs.Arithmetic.{FitsType}
use Rattle.xmp_prog.specs.declared.parts.ProgParts.{ProgParts}
use Rattle.xmp_prog.specs.Fits.{PartsFit}
use Rattle.xmp_meaning.specs.Runs.{state_of}
use Rattle.xmp_meaning.specs.Exchanges.{PartEnd, Exchange, AtBarrier, Broadcast, Reflected, Moved, LoopEnd, TasksEnd, Notes}
use Rattle.xmp_meaning.specs.Messages.{part_words}
use Rattle.xmp_meaning.specs.TrapWords.{trap_said}
use Rattle.xmp_meaning.specs.Traffic.{noted_end, traffic}
use Rattle.xmp_meaning.specs.TrafficLaws.{EndsAtPlace, trap_of}
use Rattle.xmp_meaning_laws.specs.Laws.{ValuesLie}

-- something that holds of the end of each part of a loop directive
abbrev pub OfParts : (PartEnd → Type 0) → Exchange → Type 0
OfParts P AtBarrier = Unit {0}
OfParts P (Broadcast variables set values) = Unit {0}
OfParts P (Reflected array cells) = Unit {0}
OfParts P (Moved target source aim values) = Unit {0}
OfParts P (LoopEnd directive ends) = AllByRecursion P ends
OfParts P (TasksEnd ends) = Unit {0}

-- a part's indices are values of int
abbrev pub IndicesLie : PartEnd → Type 0
IndicesLie e = AllByRecursion (FitsType Int) e.indices

-- from the words of a part's end its trap can be read back, where its place is one
abbrev pub TrapIsRead : PartEnd → Type 0
TrapIsRead e = EndsAtPlace e.ended → trap_said (part_words (Some e)) ≡ trap_of e.ended e.indices

-- In each exchange that a run of a program notes a part's indices are values of int, and so its trap can be read back;
-- and where the run ends, all values lie in their types.
pub record NotesLie (p : ProgParts) (input : List ℕ) (steps : ℕ) : Type 0 where
  pub indices : AllByRecursion (OfParts IndicesLie) (traffic p input steps)
  pub traps : AllByRecursion (OfParts TrapIsRead) (traffic p input steps)
  pub values : ValuesLie Notes p (state_of (noted_end p input steps))

abbrev pub AllNotesLie : ProgParts → (input : List ℕ) → (steps : ℕ) → Type 0
AllNotesLie p input steps = PartsFit p → NotesLie p input steps
