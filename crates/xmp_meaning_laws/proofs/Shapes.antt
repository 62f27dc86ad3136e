-- The shape of a state stays.
use Rattle.std.proofs.Common.{◌≡◌, ℕ, zero, suc, ℤ, pos, negsuc, List, [], ◌∷◌, map, length, refl, ap, ◌∙◌}
use Rattle.std.specs.Prelude.{slice_set}
use Rattle.std.proofs.lemmas.List.{length-set}
use Rattle.xmp_prog.specs.declared.statements.Stmt.{Stmt}
use Rattle.xmp_meaning.specs.Cells.{row_in, write_in}
use Rattle.xmp_meaning.specs.Runs.{State, Step, Gave, Ended, state_of}
use Rattle.xmp_meaning.specs.Context.{Context}
use Rattle.xmp_meaning.specs.Handlers.{Handlers, erased}
use Rattle.xmp_meaning.specs.Expressions.{after_call}
use Rattle.xmp_meaning.specs.Statements.{stmt_of}
use Rattle.xmp_meaning.specs.Writes.{scalars_written, arrays_written}
use Rattle.xmp_meaning.proofs.Keeps.{KeepsHandlers}
use Rattle.xmp_meaning.proofs.Preorders.{Respected, Respects, keeps, keeps_erased}
use Rattle.xmp_meaning.proofs.RelatedStatements.{keeps-stmt}
use Rattle.xmp_meaning.proofs.Stays.{Any, all_any}
use Rattle.xmp_meaning_laws.specs.Laws.{SameShape, ShapeStays}

abbrev lengths_of : List (List ℤ) → List ℕ
lengths_of rows = map (λ row. length row) rows

-- a row of the same length in the place of another
set_row : (rows : List (List ℤ)) (i : ℕ) (n : ℕ) (v : ℤ) → lengths_of (slice_set rows i (slice_set (row_in rows i) n v)) ≡ lengths_of rows
set_row [] i n v = refl
set_row (row ∷ rows) zero n v = ap (λ k. k ∷ lengths_of rows) (length-set row n v)
set_row (row ∷ rows) (suc i) n v = ap (λ ks. length row ∷ ks) (set_row rows i n v)

pub rows_shape : (rows : List (List ℤ)) (i : ℕ) (at v : ℤ) → lengths_of (write_in rows i at v) ≡ lengths_of rows
rows_shape rows i (pos n) v = set_row rows i n v
rows_shape rows i (negsuc n) v = refl

module _ {X : Type 0} (cx : Context) where
  pub shape_respected : Respected X cx Any Any SameShape
  shape_respected = record {
    same = λ s. record { scalars = refl; rows = refl };
    then = λ s t u a b. record { scalars = b.scalars ∙ a.scalars; rows = b.rows ∙ a.rows };
    scalars = λ s slot v may. record { scalars = length-set s.scalars slot v; rows = refl };
    arrays = λ s row at v may. record { scalars = refl; rows = rows_shape s.arrays row at v };
    out = λ s text. record { scalars = refl; rows = refl };
    taken = λ s n. record { scalars = refl; rows = refl };
    steps = λ s n e. record { scalars = refl; rows = refl };
    calls = λ s k vs. of_call s (cx.call k vs s.steps);
  }
    where
      of_call : (s : State X) (r : Step (Unit {0}) ℤ) → SameShape s (state_of (after_call s r))
      of_call s (Gave v t) = record { scalars = refl; rows = refl }
      of_call s (Ended e t) = record { scalars = refl; rows = refl }

  -- with any handlers that keep it
  pub shape_stays_with : (h : Handlers X) → KeepsHandlers X X Any (Respects shape_respected) h h → (s : Stmt) → ShapeStays {X = X} (stmt_of h cx s)
  shape_stays_with h kh s = keeps-stmt cx (keeps shape_respected) kh s (all_any (scalars_written s)) (all_any (arrays_written s))

  pub shape_stays : (s : Stmt) → ShapeStays {X = X} (stmt_of erased cx s)
  shape_stays = shape_stays_with erased (keeps_erased shape_respected)
