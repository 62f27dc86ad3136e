-- What every part of a run respects, where its primitives do: a reflexive and transitive relation between the state before and the state after.
use Rattle.std.proofs.Common.{◌≡◌, ◌++◌, ℕ, zero, suc, ℤ, Bool, true, false, List, refl}
use Rattle.std.specs.Prelude.{slice_set}
use Rattle.xmp_meaning.specs.declared.ends.Flow.{Flow}
use Rattle.xmp_meaning.specs.declared.ends.Flow.TheVariants.{Next, Returned}
use Rattle.xmp_meaning.specs.Cells.{write_in}
use Rattle.xmp_meaning.specs.Runs.{State, Step, Gave, Ended, Run, and_then, pure, step_of, state_of}
use Rattle.xmp_meaning.specs.Blocks.{after, then_run, choose, turns}
use Rattle.xmp_meaning.specs.Context.{Context}
use Rattle.xmp_meaning.specs.Handlers.{erased}
use Rattle.xmp_meaning.specs.Expressions.{call}
use Rattle.xmp_meaning.specs.Loops.{turn}
use Rattle.xmp_meaning.proofs.Keeps.{Keeps, KeepsHandlers, erased_kept}

-- The relation, and that the primitives respect it: writes of scalars in S and of cells of arrays in T.
pub record Respected (X : Type 0) (cx : Context) (S T : ℕ → Type 0) (K : State X → State X → Type 0) : Type 0 where
  pub same : (s : State X) → K s s
  pub then : (s t u : State X) → K s t → K t u → K s u
  pub scalars : (s : State X) (slot : ℕ) (v : ℤ) → S slot → K s (record s { scalars = slice_set s.scalars slot v })
  pub arrays : (s : State X) (row : ℕ) (at v : ℤ) → T row → K s (record s { arrays = write_in s.arrays row at v })
  pub out : (s : State X) (text : List ℕ) → K s (record s { out = s.out ++ text })
  pub taken : (s : State X) (n : ℕ) → K s (record s { taken = n })
  pub steps : (s : State X) (n : ℕ) → s.steps ≡ suc n → K s (record s { steps = n })
  pub calls : (s : State X) (k : ℕ) (vs : List ℤ) → K s (state_of (call cx k vs s))

module _ {X : Type 0} {cx : Context} {S T : ℕ → Type 0} {K : State X → State X → Type 0} (r : Respected X cx S T K) where
  -- a part that respects it from every state; the second run is of no account
  abbrev pub Respects : (A : Type 0) → Run X A → Run X A → Type 0
  Respects A f g = (s : State X) → K s (state_of (f s))

  respects_then : {A B : Type 0} (s : State X) (f : A → Run X B) (step : Step X A) → K s (state_of step)
      → ((a : A) (t : State X) → K t (state_of (f a t))) → K s (state_of (and_then step f))
  respects_then s f (Gave a t) h rest = r.then s t (state_of (f a t)) h (rest a t)
  respects_then s f (Ended e t) h rest = h

  respects_after : (flow : Flow) (q : Run X Flow) → ((t : State X) → K t (state_of (q t))) → (t : State X) → K t (state_of (after flow q t))
  respects_after Next q h t = h t
  respects_after (Returned v) q h t = r.same t

  respects_choose : (b : Bool) (p q : Run X Flow) → ((t : State X) → K t (state_of (p t))) → ((t : State X) → K t (state_of (q t)))
      → (t : State X) → K t (state_of (choose b p q t))
  respects_choose true p q h i = h
  respects_choose false p q h i = i

  respects_turns : (n : ℕ) (test : Run X Bool) (body : Run X Flow) → ((t : State X) → K t (state_of (test t))) → ((t : State X) → K t (state_of (body t)))
      → (s : State X) → K s (state_of (turns n test body s))
  respects_turns zero test body h i s = r.same s
  respects_turns (suc n) test body h i s =
      respects_then s (λ more. choose more (then_run body (turns n test body)) (pure Next)) (test s) (h s)
      (λ more. respects_choose more (then_run body (turns n test body)) (pure Next)
      (λ t. respects_then t (λ flow. after flow (turns n test body)) (body t) (i t) (λ flow. respects_after flow (turns n test body) (respects_turns n test body h i)))
      r.same)

  respects_step : (s : State X) (n : ℕ) → s.steps ≡ n → K s (state_of (step_of n s))
  respects_step s zero e = r.same s
  respects_step s (suc n) e = r.steps s n e

  pub keeps : Keeps X X cx S T Respects
  keeps = record {
    gives = λ a s. r.same s;
    traps = λ kind at s. r.same s;
    goes_on = λ {A} {B} {p} {q} {f} {g} h rest s. respects_then s f (p s) (h s) rest;
    scalars = λ slot s. r.same s;
    sets_scalar = λ slot may v s. r.scalars s slot v may;
    cells = λ row at s. r.same s;
    sets_cell = λ row may at v s. r.arrays s row at v may;
    writes = λ text s. r.out s text;
    inputs = λ s. r.same s;
    sets_taken = λ n s. r.taken s n;
    calls = λ k vs s. r.calls s k vs;
    loops = λ {test} {test'} {body} {body'} h i s. respects_turns (suc s.steps) test (turn body) h
        (λ t. respects_then t (λ u. body) (step_of t.steps t) (respects_step t t.steps refl) (λ u. i)) s;
  }

  pub keeps_erased : KeepsHandlers X X T Respects erased erased
  keeps_erased = erased_kept keeps
