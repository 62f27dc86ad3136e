-- A run over which directives mean nothing never comes to the end of a phase.
use Rattle.std.proofs.Common.{◌==◌, if◌then◌else◌, ℕ, zero, suc, ℤ, Bool, true, false, List, [], ◌∷◌, length, Option, Some, None}
use Rattle.std.specs.Prelude.{slice_get}
use Rattle.xmp_num.specs.Arithmetic.{wrap}
use Rattle.xmp_prog.specs.declared.parts.Function.{Function}
use Rattle.xmp_prog.specs.declared.parts.ProgParts.{ProgParts}
use Rattle.xmp_meaning.specs.declared.ends.End.TheVariants.{Trapped, OutOfSteps, PhaseEnd}
use Rattle.xmp_meaning.specs.Runs.{State, Step, Gave, Ended, Run, and_then, ◌>>=◌, pure, step_of, take_step}
use Rattle.xmp_meaning.specs.Layouts.{Whole}
use Rattle.xmp_meaning.specs.Context.{Context}
use Rattle.xmp_meaning.specs.Handlers.{erased}
use Rattle.xmp_meaning.specs.Expressions.{after_call}
use Rattle.xmp_meaning.specs.Loops.{turn}
use Rattle.xmp_meaning.specs.Statements.{stmt_of}
use Rattle.xmp_meaning.specs.Calls.{frame, bind, returned, invoke_some, context, context_with, call_of, main_context}
use Rattle.xmp_meaning.specs.Programs.{beginning, serial_end}
use Rattle.xmp_meaning.specs.Writes.{scalars_written, arrays_written}
use Rattle.xmp_meaning.proofs.Keeps.{Joins, Keeps, turns_kept, erased_kept}
use Rattle.xmp_meaning.proofs.RelatedStatements.{keeps-stmt, keeps-program}
use Rattle.xmp_meaning.proofs.Stays.{Any, all_any}

-- the step isn't the end of a phase
abbrev pub NoPhase : {X A : Type 0} → Step X A → Type 0
NoPhase (Gave a s) = Unit {0}
NoPhase (Ended (Trapped kind at) s) = Unit {0}
NoPhase (Ended OutOfSteps s) = Unit {0}
NoPhase (Ended PhaseEnd s) = ⊥

no_phase_on : {X A B : Type 0} (r : Step X A) (f : A → Run X B) → NoPhase r → ((a : A) (s : State X) → NoPhase (f a s)) → NoPhase (and_then r f)
no_phase_on (Gave a s) f h i = i a s
no_phase_on (Ended (Trapped kind at) s) f h i = tt
no_phase_on (Ended OutOfSteps s) f h i = tt
no_phase_on (Ended PhaseEnd s) f h i = absurd h

no_phase_after : {X : Type 0} (s : State X) (r : Step (Unit {0}) ℤ) → NoPhase r → NoPhase (after_call s r)
no_phase_after s (Gave v t) h = tt
no_phase_after s (Ended (Trapped kind at) t) h = tt
no_phase_after s (Ended OutOfSteps t) h = tt
no_phase_after s (Ended PhaseEnd t) h = h

no_phase_step : {X : Type 0} (n : ℕ) (s : State X) → NoPhase {X = X} {A = Unit {0}} (step_of n s)
no_phase_step zero s = tt
no_phase_step (suc n) s = tt

-- what is asked of a context
abbrev NoPhaseCalls : Context → Type 0
NoPhaseCalls cx = (k : ℕ) (vs : List ℤ) (steps : ℕ) → NoPhase (cx.call k vs steps)

-- the second run is of no account
abbrev Never : (X : Type 0) → (A : Type 0) → Run X A → Run X A → Type 0
Never X A p q = (s : State X) → NoPhase (p s)

never_joins : (X : Type 0) → Joins (State X) (State X) (Never X)
never_joins X = record { gives = λ a s. tt; goes_on = λ {A} {B} {p} {q} {f} {g} h i s. no_phase_on (p s) f (h s) i }

never : (X : Type 0) (cx : Context) → NoPhaseCalls cx → Keeps X X cx Any Any (Never X)
never X cx calls = record {
  gives = λ a s. tt;
  traps = λ kind at s. tt;
  goes_on = λ {A} {B} {p} {q} {f} {g} h i s. no_phase_on (p s) f (h s) i;
  scalars = λ slot s. tt;
  sets_scalar = λ slot may v s. tt;
  cells = λ row at s. tt;
  sets_cell = λ row may at v s. tt;
  writes = λ text s. tt;
  inputs = λ s. tt;
  sets_taken = λ n s. tt;
  calls = λ k vs s. no_phase_after s (cx.call k vs s.steps) (calls k vs s.steps);
  loops = λ {test} {test'} {body} {body'} h i s.
      turns_kept (never_joins X) {test = test} {test' = test'} {body = turn body} {body' = turn body'} (suc s.steps) h
      (λ t. no_phase_on (take_step t) (λ u. body) (no_phase_step t.steps t) (λ u. i)) s;
}

-- ---- calls

bound : (p : ProgParts) (slots : List ℕ) (vs : List ℤ) (s : State (Unit {0})) → NoPhase (bind p slots vs s)
bound p [] vs s = tt
bound p (slot ∷ slots) [] s = tt
bound p (slot ∷ slots) (v ∷ vs) s = bound p slots vs _

invoked : (p : ProgParts) (node n : ℕ) → NoPhaseCalls (context p node [] n) → (f : Option Function) (vs : List ℤ) (s : State (Unit {0}))
    → NoPhase (invoke_some (context p node [] n) f vs s)
invoked p node n calls None vs s = tt
invoked p node n calls (Some f) vs s =
    no_phase_on (bind p f.parameters vs s) (λ u. stmt_of erased (context p node [] n) f.body >>= (λ flow. pure (wrap f.result (returned flow)))) (bound p f.parameters vs s)
    (λ u t. no_phase_on (stmt_of erased (context p node [] n) f.body t) (λ flow. pure (wrap f.result (returned flow)))
    (keeps-stmt (context p node [] n) (never (Unit {0}) (context p node [] n) calls) (erased_kept (never (Unit {0}) (context p node [] n) calls)) f.body
    (all_any (scalars_written f.body)) (all_any (arrays_written f.body)) t) (λ flow v. tt))

calls_never : (p : ProgParts) (node n : ℕ) (k : ℕ) (vs : List ℤ) (steps : ℕ) → NoPhase (call_of p node n k vs steps)
unfolding call_of
calls_never p node zero k vs steps = tt
calls_never p node (suc n) k vs steps = of_test (calls_never p node n) (k == n)
  where
    of_test : NoPhaseCalls (context p node [] n) → (b : Bool)
        → NoPhase (if b then invoke_some (context_with p Whole node [] (call_of p node n)) (slice_get p.functions n) vs (frame p steps) else call_of p node n k vs steps)
    of_test before true = invoked p node n before (slice_get p.functions n) vs (frame p steps)
    of_test before false = before k vs steps

-- ---- a program

pub serial_never : (p : ProgParts) (input : List ℕ) (steps : ℕ) → NoPhase (serial_end p input steps)
serial_never p input steps =
    keeps-program (main_context p 0 input) (never (Unit {0}) (main_context p 0 input) (calls_never p 0 (length p.functions)))
    (erased_kept (never (Unit {0}) (main_context p 0 input) (calls_never p 0 (length p.functions)))) (all_any _) (all_any _) (all_any _) (beginning Whole p steps tt)
