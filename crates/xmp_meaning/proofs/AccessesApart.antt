-- The run that notes its accesses is an image's run, the accesses apart.
use Rattle.std.proofs.Common.{List, [], ◌∷◌, map, refl}
use Rattle.xmp_prog.specs.declared.parts.ProgParts.{ProgParts}
use Rattle.xmp_meaning.specs.declared.ends.Flow.{Flow}
use Rattle.xmp_meaning.specs.Runs.{◌>>=◌}
use Rattle.xmp_meaning.specs.Blocks.{each}
use Rattle.xmp_meaning.specs.Layouts.{Whole}
use Rattle.xmp_meaning.specs.Calls.{main_context}
use Rattle.xmp_meaning.specs.Programs.{beginning}
use Rattle.xmp_meaning.specs.Phases.{Memory, at_image, next_phase}
use Rattle.xmp_meaning.specs.Accesses.{Accessed, next_accesses, noting_image}
use Rattle.xmp_meaning.specs.Laws.{AccessesApart}
use Rattle.xmp_meaning.proofs.Keeps.{KeepsHandlers, each_kept, tasks_kept}
use Rattle.xmp_meaning.proofs.RelatedStatements.{keeps-program}
use Rattle.xmp_meaning.proofs.Stays.{Any, all_any}
use Rattle.xmp_meaning.proofs.Notes.{Forgets, forgets_on, forgets_joins, forgets}

starts_of : Accessed → List Memory
starts_of a = a.starts

next_alike : (p : ProgParts) (ms : List Memory) → Forgets starts_of Flow (next_phase p ms) (next_accesses p ms)
unfolding starts_of
next_alike p [] s = refl
next_alike p (m ∷ ms) s = refl

forgets_accesses : (p : ProgParts) → KeepsHandlers (List Memory) Accessed Any (Forgets starts_of) (at_image p) (noting_image p)
unfolding starts_of
forgets_accesses p = record {
  get = λ row at s. refl;
  put = λ row may at v s. refl;
  loop = λ directive around around' body body' h i. h body body' i;
  reflect = λ arrays s. refl;
  barrier = λ s. refl;
  bcast = λ variables nodes s. refl;
  gmove = λ target source aim aim' read read' write write' h i j.
      forgets_on starts_of aim aim' (λ a. each (map read a.sources) [] >>= write a.targets) (λ a. each (map read' a.sources) [] >>= write' a.targets) h
      (λ a. forgets_on starts_of (each (map read a.sources) []) (each (map read' a.sources) []) (write a.targets) (write' a.targets)
      (each_kept (forgets_joins starts_of) read read' i a.sources []) (j a.targets));
  tasks = λ ts us alike. tasks_kept (forgets_joins starts_of) ts us alike;
  sync = λ s. next_alike p s.extra.starts s;
}

pub accesses_apart : (p : ProgParts) → AccessesApart p
unfolding starts_of
accesses_apart p image starts = keeps-program (main_context p image []) (forgets starts_of (main_context p image [])) (forgets_accesses p)
    (all_any _) (all_any _) (all_any _) (beginning Whole p 0 (record { starts = starts; accesses = [] }))
