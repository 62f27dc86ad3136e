-- One image that comes to no `xmp_sync_all`.
use Rattle.std.proofs.Common.{◌≡◌, ◌≢◌, ℕ, zero, suc, ℤ, Bool, true, false, List, [], ◌∷◌, map, refl, sym, ap, ◌∙◌, subst, append-nil, if◌then◌else◌}
use Rattle.std.specs.List.{range_with_len}
use Rattle.std.specs.Ordering.{int_eq}
use Rattle.std.proofs.lemmas.Bool.Decides.{Decides-int_eq}
use Rattle.xmp_prog.specs.declared.parts.ProgParts.{ProgParts}
use Rattle.xmp_meaning.specs.declared.ends.End.TheVariants.{Trapped, OutOfSteps, PhaseEnd}
use Rattle.xmp_meaning.specs.declared.ends.Flow.{Flow}
use Rattle.xmp_meaning.specs.declared.outcome.Outcome.{Outcome}
use Rattle.xmp_meaning.specs.declared.outcome.Outcome.TheVariants as outcome
use Rattle.xmp_meaning.specs.declared.ends.Flow.TheVariants.{Next}
use Rattle.xmp_meaning.specs.Runs.{State, Step, Gave, Ended, Run, and_then, ◌>>=◌, pure, step_of, take_step}
use Rattle.xmp_prog.specs.Fits.{node_count}
use Rattle.xmp_meaning.specs.Blocks.{each}
use Rattle.xmp_meaning.specs.Layouts.{Whole}
use Rattle.xmp_meaning.specs.Context.{Context}
use Rattle.xmp_meaning.specs.Handlers.{erased}
use Rattle.xmp_meaning.specs.Expressions.{after_call}
use Rattle.xmp_meaning.specs.Loops.{turn}
use Rattle.xmp_meaning.specs.Calls.{main_context}
use Rattle.xmp_meaning.specs.Programs.{no_writes, beginning, told, outcome_of, serial_end, serial}
use Rattle.xmp_meaning.specs.Phases.{Memory, at_image, next_phase, image_run, image_runs, applied_row, applied, memory_after, stopped, printed_in, goes_on, phase_outcome, phases_from}
use Rattle.xmp_meaning.specs.Laws.{bare, OneImage}
use Rattle.xmp_meaning.proofs.Keeps.{Joins, Keeps, KeepsHandlers, each_kept, turns_kept, tasks_kept}
use Rattle.xmp_meaning.proofs.RelatedStatements.{keeps-program}
use Rattle.xmp_meaning.proofs.Stays.{Any, all_any}

-- no later phase is known in the state
abbrev pub NoneKnown : State (List Memory) → Type 0
NoneKnown s = s.extra ≡ []

-- the image's step ends the phase, or it is the serial step, and no later phase is known then
abbrev pub GoesAlike : (A : Type 0) → Step (Unit {0}) A → Step (List Memory) A → Type 0
GoesAlike A u (Ended PhaseEnd t) = Unit {0}
GoesAlike A u (Ended (Trapped kind at) t) = u ≡ Ended (Trapped kind at) (bare t)
GoesAlike A u (Ended OutOfSteps t) = u ≡ Ended OutOfSteps (bare t)
GoesAlike A u (Gave a t) = (u ≡ Gave a (bare t)) × NoneKnown t

abbrev pub Alike : (A : Type 0) → Run (Unit {0}) A → Run (List Memory) A → Type 0
Alike A f g = (s : State (List Memory)) → NoneKnown s → GoesAlike A (f (bare s)) (g s)

alike_step : {A B : Type 0} (f : A → Run (Unit {0}) B) (g : A → Run (List Memory) B) → ((a : A) → Alike B (f a) (g a))
    → (u : Step (Unit {0}) A) (v : Step (List Memory) A) → GoesAlike A u v → GoesAlike B (and_then u f) (and_then v g)
alike_step {A} {B} f g i u (Gave a t) h = subst (λ w. GoesAlike B (and_then w f) (g a t)) (sym h.0) (i a t h.1)
alike_step f g i u (Ended (Trapped kind at) t) h = ap (λ w. and_then w f) h
alike_step f g i u (Ended OutOfSteps t) h = ap (λ w. and_then w f) h
alike_step f g i u (Ended PhaseEnd t) h = tt

alike_on : {A B : Type 0} (p : Run (Unit {0}) A) (q : Run (List Memory) A) (f : A → Run (Unit {0}) B) (g : A → Run (List Memory) B)
    → Alike A p q → ((a : A) → Alike B (f a) (g a)) → Alike B (p >>= f) (q >>= g)
alike_on p q f g h i s none = alike_step f g i (p (bare s)) (q s) (h s none)

alike_joins : Joins (State (Unit {0})) (State (List Memory)) Alike
alike_joins = record { gives = λ a s none. (refl, none); goes_on = λ {A} {B} {p} {q} {f} {g} h i. alike_on p q f g h i }

alike_call : (s : State (List Memory)) → NoneKnown s → (r : Step (Unit {0}) ℤ) → GoesAlike ℤ (after_call (bare s) r) (after_call s r)
alike_call s none (Gave v t) = (refl, none)
alike_call s none (Ended (Trapped kind at) t) = refl
alike_call s none (Ended OutOfSteps t) = refl
alike_call s none (Ended PhaseEnd t) = tt

alike_take : (n : ℕ) → Alike (Unit {0}) (step_of n) (step_of n)
alike_take zero s none = refl
alike_take (suc n) s none = (refl, none)

alike : (cx : Context) → Keeps (Unit {0}) (List Memory) cx Any Any Alike
alike cx = record {
  gives = λ a s none. (refl, none);
  traps = λ kind at s none. refl;
  goes_on = λ {A} {B} {p} {q} {f} {g} h i. alike_on p q f g h i;
  scalars = λ slot s none. (refl, none);
  sets_scalar = λ slot may v s none. (refl, none);
  cells = λ row at s none. (refl, none);
  sets_cell = λ row may at v s none. (refl, none);
  writes = λ text s none. (refl, none);
  inputs = λ s none. (refl, none);
  sets_taken = λ n s none. (refl, none);
  calls = λ k vs s none. alike_call s none (cx.call k vs s.steps);
  loops = λ {test} {test'} {body} {body'} h i s none.
      turns_kept alike_joins {test = test} {test' = test'} {body = turn body} {body' = turn body'} (suc s.steps) h
      (alike_on take_step take_step (λ u. body) (λ u. body') (λ t n. alike_take t.steps t n) (λ u. i)) s none;
}

alike_sync : (p : ProgParts) → Alike Flow (pure Next) (λ s. next_phase p s.extra s)
alike_sync p s none = subst (λ ms. GoesAlike Flow (Gave Next (bare s)) (next_phase p ms s)) (sym none) tt

alike_handlers : (p : ProgParts) → KeepsHandlers (Unit {0}) (List Memory) Any Alike erased (at_image p)
alike_handlers p = record {
  get = λ row at s none. (refl, none);
  put = λ row may at v s none. (refl, none);
  loop = λ directive around around' body body' h i. h body body' i;
  reflect = λ arrays s none. (refl, none);
  barrier = λ s none. (refl, none);
  bcast = λ variables nodes s none. (refl, none);
  gmove = λ target source aim aim' read read' write write' h i j.
      alike_on aim aim' (λ a. each (map read a.sources) [] >>= write a.targets) (λ a. each (map read' a.sources) [] >>= write' a.targets) h
      (λ a. alike_on (each (map read a.sources) []) (each (map read' a.sources) []) (write a.targets) (write' a.targets)
      (each_kept alike_joins read read' i a.sources []) (j a.targets));
  tasks = λ ts us all. tasks_kept alike_joins ts us all;
  sync = alike_sync p;
}

-- ---- the phases of one image

applied_row_alone : (b v : List ℤ) → applied_row b v b ≡ v
applied_row_alone [] [] = refl
applied_row_alone [] (v ∷ vs) = refl
applied_row_alone (b ∷ bs) [] = refl
applied_row_alone (b ∷ bs) (v ∷ vs) = ap (λ x. x ∷ applied_row bs vs bs) (same_cell (int_eq v b) refl) ∙ ap (λ xs. v ∷ xs) (applied_row_alone bs vs)
  where
    same_cell : (t : Bool) → int_eq v b ≡ t → (if t then b else v) ≡ v
    same_cell true e = sym ((Decides-int_eq v b).0 e)
    same_cell false e = refl

applied_alone : (before mine : Memory) → applied before mine before ≡ mine
applied_alone [] [] = refl
applied_alone [] (v ∷ vs) = refl
applied_alone (b ∷ bs) [] = refl
applied_alone (b ∷ bs) (v ∷ vs) = ap (λ x. x ∷ applied bs vs bs) (applied_row_alone b v) ∙ ap (λ xs. v ∷ xs) (applied_alone bs vs)

one_run : (p : ProgParts) → node_count p ≡ 1 → image_runs p [] ≡ image_run p 0 [] ∷ []
one_run p one = ap (λ n. map (λ image. image_run p image []) (range_with_len 0 n)) one

abbrev phase_of : ProgParts → Outcome → List (Step (List Memory) Flow) → Outcome
phase_of p following runs =
    phase_outcome (stopped [] runs) (goes_on runs) (outcome.Ended (printed_in runs) (told p p.arrays (memory_after (no_writes Whole p) runs))) following

phase_alone : (p : ProgParts) (following : Outcome) (u : Step (Unit {0}) Flow) (r : Step (List Memory) Flow) → GoesAlike Flow u r
    → ((t : State (List Memory)) → r ≢ Ended PhaseEnd t) → phase_of p following (r ∷ []) ≡ outcome_of p u
phase_alone p following u (Gave flow s) h never =
    ap (λ out. outcome.Ended out (told p p.arrays (applied (no_writes Whole p) s.arrays (no_writes Whole p)))) (append-nil s.out)
    ∙ ap (λ rows. outcome.Ended s.out (told p p.arrays rows)) (applied_alone (no_writes Whole p) s.arrays)
    ∙ sym (ap (outcome_of p) h.0)
phase_alone p following u (Ended (Trapped kind at) s) h never = sym (ap (outcome_of p) h)
phase_alone p following u (Ended OutOfSteps s) h never = sym (ap (outcome_of p) h)
phase_alone p following u (Ended PhaseEnd s) h never = absurd (never s refl)

goes_alike : (p : ProgParts) → GoesAlike Flow (serial_end p [] 0) (image_run p 0 [])
goes_alike p = keeps-program (main_context p 0 []) (alike (main_context p 0 [])) (alike_handlers p) (all_any _) (all_any _) (all_any _) (beginning Whole p 0 []) refl

one_phase : (p : ProgParts) (n : ℕ) → node_count p ≡ 1 → ((t : State (List Memory)) → image_run p 0 [] ≢ Ended PhaseEnd t)
    → phases_from p (suc n) [] [] ≡ serial p [] 0
unfolding phases_from
one_phase p n one never =
    ap (λ runs. phase_of p (phases_from p n (memory_after (no_writes Whole p) runs ∷ []) (printed_in runs)) runs) (one_run p one)
    ∙ phase_alone p _ (serial_end p [] 0) (image_run p 0 []) (goes_alike p) never

pub one_image : (p : ProgParts) → OneImage p
one_image p one never = one_phase p 4294967295 one never
