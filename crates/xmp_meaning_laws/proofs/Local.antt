-- A statement depends on what it names alone.
use Rattle.std.proofs.Common.{◌≡◌, ◌++◌, ℕ, zero, suc, ℤ, pos, negsuc, Bool, true, List, [], ◌∷◌, refl, subst, ap}
use Rattle.std.specs.Prelude.{slice_get, slice_set, unwrap_or}
use Rattle.xmp_prog.specs.declared.statements.Stmt.{Stmt}
use Rattle.xmp_prog.specs.Statements.{statements_of}
use Rattle.xmp_meaning.specs.Cells.{row_in, read_in, write_in}
use Rattle.xmp_meaning.specs.Context.{Context}
use Rattle.xmp_meaning.specs.Handlers.{erased}
use Rattle.xmp_meaning.specs.Statements.{stmt_of}
use Rattle.xmp_meaning_laws.specs.Laws.{SameIn, IsLocal}
use Rattle.xmp_meaning_laws.proofs.Conditions.{twice, Anything}
use Rattle.xmp_meaning_laws.proofs.Named.{named, all_of_test, all_of_each, statements_meet}
use Rattle.xmp_meaning_laws.proofs.Idle.{Free}
use Rattle.xmp_meaning_laws.proofs.Simulated.{IsSimulation, simulates, alike_of}
use Rattle.xmp_meaning_laws.proofs.WhereErased.{erased_keep}
use Rattle.xmp_meaning_laws.proofs.WhereStatements.{kept_stmt}

-- two lists that have the same at two places still have it after the same is set at the first
pub same_set : {A : Type 0} (xs ys : List A) (i j : ℕ) (v : A) → slice_get xs i ≡ slice_get ys i → slice_get xs j ≡ slice_get ys j
    → slice_get (slice_set xs i v) j ≡ slice_get (slice_set ys i v) j
same_set [] [] i j v e f = refl
same_set [] (y ∷ ys) zero j v e f = cc
same_set [] (y ∷ ys) (suc i) zero v e f = f
same_set [] (y ∷ ys) (suc i) (suc j) v e f = same_set [] ys i j v e f
same_set (x ∷ xs) [] zero j v e f = cc
same_set (x ∷ xs) [] (suc i) zero v e f = f
same_set (x ∷ xs) [] (suc i) (suc j) v e f = same_set xs [] i j v e f
same_set (x ∷ xs) (y ∷ ys) zero zero v e f = refl
same_set (x ∷ xs) (y ∷ ys) zero (suc j) v e f = f
same_set (x ∷ xs) (y ∷ ys) (suc i) zero v e f = f
same_set (x ∷ xs) (y ∷ ys) (suc i) (suc j) v e f = same_set xs ys i j v e f

same_row : (rows others : List (List ℤ)) (i j : ℕ) (at v : ℤ) → slice_get rows i ≡ slice_get others i → slice_get rows j ≡ slice_get others j
    → slice_get (write_in rows i at v) j ≡ slice_get (write_in others i at v) j
same_row rows others i j (pos n) v e f =
    subst (λ o. slice_get (slice_set rows i (slice_set (row_in rows i) n v)) j ≡ slice_get (slice_set others i (slice_set (unwrap_or o []) n v)) j) e
    (same_set rows others i j (slice_set (row_in rows i) n v) e f)
same_row rows others i j (negsuc n) v e f = f

same_read : (rows others : List (List ℤ)) (i : ℕ) (at : ℤ) → slice_get rows i ≡ slice_get others i → read_in rows i at ≡ read_in others i at
same_read rows others i (pos n) e = ap (λ o. unwrap_or (slice_get (unwrap_or o []) n) (pos 0)) e
same_read rows others i (negsuc n) e = refl

module _ {X : Type 0} (cx : Context) (slots arrays : ℕ → Bool) where
  pub local_simulation : IsSimulation X X (twice cx) (named (λ n. slots n ≡ true) (λ n. arrays n ≡ true) Free Free Free) (SameIn X slots arrays)
  local_simulation = record {
    scalars = λ s u slot may k. ap (λ o. unwrap_or o (pos 0)) (k.scalars slot may);
    sets_scalar = λ s u slot v may k. record { scalars = λ j is. same_set s.scalars u.scalars slot j v (k.scalars slot may) (k.scalars j is); rows = k.rows; out = k.out; taken = k.taken; steps = k.steps; extra = k.extra };
    cells = λ s u row at may k. same_read s.arrays u.arrays row at (k.rows row may);
    sets_cell = λ s u row at v may k. record { scalars = k.scalars; rows = λ j is. same_row s.arrays u.arrays row j at v (k.rows row may) (k.rows j is); out = k.out; taken = k.taken; steps = k.steps; extra = k.extra };
    writes = λ s u text k. record { scalars = k.scalars; rows = k.rows; out = ap (λ o. o ++ text) k.out; taken = k.taken; steps = k.steps; extra = k.extra };
    inputs = λ s u k. k.taken;
    sets_taken = λ s u n k. record { scalars = k.scalars; rows = k.rows; out = k.out; taken = refl; steps = k.steps; extra = k.extra };
    left = λ s u k. k.steps;
    steps = λ s u n k. record { scalars = k.scalars; rows = k.rows; out = k.out; taken = k.taken; steps = refl; extra = k.extra };
    calls = λ function types at is vs n. refl;
    own_number = λ is. refl;
    own_image = λ array types at is s u k. (refl, k, tt);
  }

pub is_local : (X : Type 0) (cx : Context) (s : Stmt) → IsLocal X cx s
is_local X cx s slots arrays scalars rows a b k =
    alike_of (SameIn X slots arrays) (Anything _) (stmt_of erased cx s a) (stmt_of erased cx s b)
    (kept_stmt (simulates (local_simulation cx slots arrays)) (erased_keep (simulates (local_simulation cx slots arrays)) (record {
      gets = λ row may at s u k. (same_read s.arrays u.arrays row at (k.rows row may), k, tt);
      puts = λ row may at v lies s u k. (refl, (local_simulation cx slots arrays).sets_cell s u row at v may k, tt);
    })) s
    (statements_meet cx.program (λ n. slots n ≡ true) (λ n. arrays n ≡ true) Free Free Free (statements_of s)
    (all_of_each Free (λ n. tt) _) (all_of_test slots _ scalars) (all_of_test arrays _ rows) (all_of_each Free (λ n. tt) _) (all_of_each Free (λ n. tt) _))
    a b k)
