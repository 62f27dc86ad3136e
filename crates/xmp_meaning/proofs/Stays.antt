-- What a statement leaves as it was: the output so far, and what it doesn't name.
use Rattle.std.proofs.Common.{◌≡◌, ◌≢◌, ◌++◌, ℕ, zero, suc, ℤ, pos, negsuc, List, [], ◌∷◌, refl, sym, ap, ◌∙◌, append-nil, append_assoc}
use Rattle.std.specs.Prelude.{slice_get, slice_set}
use Rattle.std.specs.List.{AllByRecursion}
use Rattle.xmp_prog.specs.declared.statements.Stmt.{Stmt}
use Rattle.xmp_meaning.specs.Cells.{row_in, write_in}
use Rattle.xmp_meaning.specs.Runs.{State, Step, Gave, Ended, state_of}
use Rattle.xmp_meaning.specs.Context.{Context}
use Rattle.xmp_meaning.specs.Handlers.{erased}
use Rattle.xmp_meaning.specs.Expressions.{after_call}
use Rattle.xmp_meaning.specs.Statements.{stmt_of}
use Rattle.xmp_meaning.specs.Writes.{scalars_written, arrays_written}
use Rattle.xmp_meaning.specs.Laws.{OutputGrows, KeepsScalar, KeepsArray, CallTakesSteps}
use Rattle.xmp_meaning.proofs.Preorders.{Respected, keeps, keeps_erased}
use Rattle.xmp_meaning.proofs.RelatedStatements.{keeps-stmt}

-- no condition on what is written
abbrev pub Any : ℕ → Type 0
Any n = Unit {0}

pub all_any : (xs : List ℕ) → AllByRecursion Any xs
all_any [] = tt
all_any (x ∷ xs) = (tt, all_any xs)

-- a write at one place leaves the others
pub set_other : {A : Type 0} (xs : List A) (i j : ℕ) (v : A) → i ≢ j → slice_get (slice_set xs i v) j ≡ slice_get xs j
set_other [] i j v ne = refl
set_other (x ∷ xs) zero zero v ne = absurd (ne refl)
set_other (x ∷ xs) zero (suc j) v ne = refl
set_other (x ∷ xs) (suc i) zero v ne = refl
set_other (x ∷ xs) (suc i) (suc j) v ne = set_other xs i j v (λ e. ne (ap suc e))

-- and so does a write to a cell of another row
row_other : (rows : List (List ℤ)) (i j : ℕ) (at v : ℤ) → i ≢ j → slice_get (write_in rows i at v) j ≡ slice_get rows j
row_other rows i j (pos n) v ne = set_other rows i j (slice_set (row_in rows i) n v) ne
row_other rows i j (negsuc n) v ne = refl

module _ {X : Type 0} (cx : Context) where
  -- ---- the output
  longer : Respected X cx Any Any (λ s t. (more : List ℕ) × (t.out ≡ s.out ++ more))
  longer = record {
    same = λ s. ([], sym (append-nil s.out));
    then = λ s t u a b. (a.0 ++ b.0, b.1 ∙ ap (λ o. o ++ b.0) a.1 ∙ append_assoc s.out a.0 b.0);
    scalars = λ s slot v may. ([], sym (append-nil s.out));
    arrays = λ s row at v may. ([], sym (append-nil s.out));
    out = λ s text. (text, refl);
    taken = λ s n. ([], sym (append-nil s.out));
    steps = λ s n e. ([], sym (append-nil s.out));
    calls = λ s k vs. of_call s (cx.call k vs s.steps);
  }
    where
      of_call : (s : State X) (r : Step (Unit {0}) ℤ) → (more : List ℕ) × ((state_of (after_call s r)).out ≡ s.out ++ more)
      of_call s (Gave v t) = ([], sym (append-nil s.out))
      of_call s (Ended e t) = ([], sym (append-nil s.out))

  pub output_grows : (s : Stmt) → OutputGrows {X = X} (stmt_of erased cx s)
  output_grows s = keeps-stmt cx (keeps longer) (keeps_erased longer) s (all_any (scalars_written s)) (all_any (arrays_written s))

  -- ---- scalars
  scalar_stays : (slot : ℕ) → Respected X cx (λ n. n ≢ slot) Any (λ s t. slice_get t.scalars slot ≡ slice_get s.scalars slot)
  scalar_stays slot = record {
    same = λ s. refl;
    then = λ s t u a b. b ∙ a;
    scalars = λ s n v may. set_other s.scalars n slot v may;
    arrays = λ s row at v may. refl;
    out = λ s text. refl;
    taken = λ s n. refl;
    steps = λ s n e. refl;
    calls = λ s k vs. of_call s (cx.call k vs s.steps);
  }
    where
      of_call : (s : State X) (r : Step (Unit {0}) ℤ) → slice_get (state_of (after_call s r)).scalars slot ≡ slice_get s.scalars slot
      of_call s (Gave v t) = refl
      of_call s (Ended e t) = refl

  pub keeps_scalar : (s : Stmt) (slot : ℕ) → AllByRecursion (λ n. n ≢ slot) (scalars_written s) → KeepsScalar {X = X} slot (stmt_of erased cx s)
  keeps_scalar s slot may = keeps-stmt cx (keeps (scalar_stays slot)) (keeps_erased (scalar_stays slot)) s may (all_any (arrays_written s))

  -- ---- arrays
  array_stays : (array : ℕ) → Respected X cx Any (λ n. n ≢ array) (λ s t. slice_get t.arrays array ≡ slice_get s.arrays array)
  array_stays array = record {
    same = λ s. refl;
    then = λ s t u a b. b ∙ a;
    scalars = λ s n v may. refl;
    arrays = λ s row at v may. row_other s.arrays row array at v may;
    out = λ s text. refl;
    taken = λ s n. refl;
    steps = λ s n e. refl;
    calls = λ s k vs. of_call s (cx.call k vs s.steps);
  }
    where
      of_call : (s : State X) (r : Step (Unit {0}) ℤ) → slice_get (state_of (after_call s r)).arrays array ≡ slice_get s.arrays array
      of_call s (Gave v t) = refl
      of_call s (Ended e t) = refl

  pub keeps_array : (s : Stmt) (array : ℕ) → AllByRecursion (λ n. n ≢ array) (arrays_written s) → KeepsArray {X = X} array (stmt_of erased cx s)
  keeps_array s array rows = keeps-stmt cx (keeps (array_stays array)) (keeps_erased (array_stays array)) s (all_any (scalars_written s)) rows

  -- ---- calls
  pub call_takes_steps : CallTakesSteps X cx
  call_takes_steps function vs s = of_call (cx.call function vs s.steps)
    where
      of_call : (r : Step (Unit {0}) ℤ) → (left : ℕ) × (state_of (after_call s r) ≡ record s { steps = left })
      of_call (Gave v t) = (t.steps, refl)
      of_call (Ended e t) = (t.steps, refl)
