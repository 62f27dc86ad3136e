-- The run that notes each exchange is the serial run, the notes apart.
use Rattle.std.proofs.Common.{◌≡◌, ℕ, zero, suc, ℤ, List, [], ◌∷◌, map, refl, sym, ap, ◌∙◌}
use Rattle.xmp_prog.specs.declared.parts.ProgParts.{ProgParts}
use Rattle.xmp_prog.specs.declared.statements.Name.{Name}
use Rattle.xmp_prog.specs.declared.statements.Stmt.{Stmt}
use Rattle.xmp_meaning.specs.declared.ends.End.TheVariants.{Trapped, OutOfSteps, PhaseEnd}
use Rattle.xmp_meaning.specs.declared.ends.Flow.{Flow}
use Rattle.xmp_meaning.specs.declared.ends.Flow.TheVariants.{Next}
use Rattle.xmp_meaning.specs.Runs.{State, Step, Gave, Ended, Run, and_then, ◌>>=◌, step_of, take_step}
use Rattle.xmp_meaning.specs.Blocks.{each, then_run}
use Rattle.xmp_meaning.specs.Layouts.{Whole}
use Rattle.xmp_meaning.specs.Context.{Context}
use Rattle.xmp_meaning.specs.Handlers.{erased}
use Rattle.xmp_meaning.specs.Expressions.{after_call}
use Rattle.xmp_meaning.specs.Loops.{turn}
use Rattle.xmp_meaning.specs.Calls.{main_context}
use Rattle.xmp_meaning.specs.Programs.{beginning, program, outcome_of}
use Rattle.xmp_meaning.specs.Exchanges.{Notes, no_notes, Moved, note, note_turn, note_arrays, traced}
use Rattle.xmp_meaning.specs.Writes.{scalars_written, arrays_written}
use Rattle.xmp_meaning.specs.Laws.{with_extra, step_with, bare, bare_step, NotesApart, TracedIsSerial}
use Rattle.xmp_meaning.proofs.Keeps.{Joins, Keeps, KeepsHandlers, each_kept, turns_kept, tasks_kept}
use Rattle.xmp_meaning.proofs.RelatedStatements.{keeps-stmt, keeps-program}
use Rattle.xmp_meaning.proofs.Stays.{Any, all_any}

module _ {X Y : Type 0} (f : X → Y) where
  -- the first run does with another extra part what the second does
  abbrev pub Forgets : (A : Type 0) → Run Y A → Run X A → Type 0
  Forgets A p q = (s : State X) → p (with_extra f s) ≡ step_with f (q s)

  pub forgets_on : {A B : Type 0} (p : Run Y A) (q : Run X A) (m : A → Run Y B) (n : A → Run X B)
      → Forgets A p q → ((a : A) → Forgets B (m a) (n a)) → Forgets B (p >>= m) (q >>= n)
  forgets_on {A} {B} p q m n h i s = ap (λ r. and_then r m) (h s) ∙ at_step (q s)
    where
      at_step : (r : Step X A) → and_then (step_with f r) m ≡ step_with f (and_then r n)
      at_step (Gave a t) = i a t
      at_step (Ended e t) = refl

  forgets_call : (s : State X) (r : Step (Unit {0}) ℤ) → after_call (with_extra f s) r ≡ step_with f (after_call s r)
  forgets_call s (Gave v t) = refl
  forgets_call s (Ended e t) = refl

  forgets_step : (n : ℕ) → Forgets (Unit {0}) (step_of n) (step_of n)
  forgets_step zero s = refl
  forgets_step (suc n) s = refl

  pub forgets_joins : Joins (State Y) (State X) Forgets
  forgets_joins = record { gives = λ a s. refl; goes_on = λ {A} {B} {p} {q} {f} {g} h i. forgets_on p q f g h i }

  pub forgets : (cx : Context) → Keeps Y X cx Any Any Forgets
  forgets cx = record {
    gives = λ a s. refl;
    traps = λ kind at s. refl;
    goes_on = λ {A} {B} {p} {q} {f} {g} h i. forgets_on p q f g h i;
    scalars = λ slot s. refl;
    sets_scalar = λ slot may v s. refl;
    cells = λ row at s. refl;
    sets_cell = λ row may at v s. refl;
    writes = λ text s. refl;
    inputs = λ s. refl;
    sets_taken = λ n s. refl;
    calls = λ k vs s. forgets_call s (cx.call k vs s.steps);
    loops = λ {test} {test'} {body} {body'} h i s.
        turns_kept forgets_joins {test = test} {test' = test'} {body = turn body} {body' = turn body'} (suc s.steps) h
        (forgets_on take_step take_step (λ u. body) (λ u. body') (λ t. forgets_step t.steps t) (λ u. i)) s;
  }

notes_of_arrays : (arrays : List Name) (s : State Notes) → Gave Next (bare s) ≡ bare_step (note_arrays arrays s)
notes_of_arrays [] s = refl
notes_of_arrays (a ∷ all) s = notes_of_arrays all _

pub forgets_traced : (p : ProgParts) → KeepsHandlers (Unit {0}) Notes Any (Forgets (λ x. tt)) erased (traced p)
forgets_traced p = record {
  get = λ row at s. refl;
  put = λ row may at v s. refl;
  loop = λ directive around around' body body' h i s.
      h body (then_run (note_turn p directive) body') (λ t. i (record t { extra = _ })) _;
  reflect = notes_of_arrays;
  barrier = λ s. refl;
  bcast = λ variables nodes s. refl;
  gmove = λ target source aim aim' read read' write write' h i j.
      forgets_on (λ x. tt) aim aim' (λ a. each (map read a.sources) [] >>= write a.targets)
      (λ a. each (map read' a.sources) [] >>= (λ vs. then_run (note (Moved target source a vs)) (write' a.targets vs))) h
      (λ a. forgets_on (λ x. tt) (each (map read a.sources) []) (each (map read' a.sources) []) (write a.targets)
      (λ vs. then_run (note (Moved target source a vs)) (write' a.targets vs)) (each_kept (forgets_joins (λ x. tt)) read read' i a.sources []) (λ vs s. j a.targets vs _));
  tasks = λ ts us alike s. tasks_kept (forgets_joins (λ x. tt)) ts us alike _;
  sync = λ s. refl;
}

pub notes_apart : (p : ProgParts) (cx : Context) (s : Stmt) → NotesApart p cx s
notes_apart p cx s = keeps-stmt cx (forgets (λ x. tt) cx) (forgets_traced p) s (all_any (scalars_written s)) (all_any (arrays_written s))

pub outcome_bare : {X : Type 0} (p : ProgParts) (r : Step X Flow) → outcome_of p (bare_step r) ≡ outcome_of p r
outcome_bare p (Gave flow s) = refl
outcome_bare p (Ended (Trapped kind at) s) = refl
outcome_bare p (Ended OutOfSteps s) = refl
outcome_bare p (Ended PhaseEnd s) = refl

pub traced_is_serial : (p : ProgParts) (input : List ℕ) (steps : ℕ) → TracedIsSerial p input steps
traced_is_serial p input steps =
    sym (outcome_bare p (program (traced p) (main_context p 0 input) (beginning Whole p steps (no_notes p))))
    ∙ ap (outcome_of p) (sym (keeps-program (main_context p 0 input) (forgets (λ x. tt) (main_context p 0 input)) (forgets_traced p)
    (all_any _) (all_any _) (all_any _) (beginning Whole p steps (no_notes p))))
