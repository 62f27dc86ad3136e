-- The serial state after a gmove.
use Rattle.std.proofs.Common.{inl, inr, ◌≡◌, ℕ, ℤ, pos, negsuc, List, [], ◌∷◌, map, Some, sym, subst, ◌∙◌}
use Rattle.std.specs.Prelude.{slice_get, slice_set, unwrap_or}
use Rattle.std.proofs.lemmas.List.{length-set}
use Rattle.xmp_num.specs.Arithmetic.{FitsType, wrap}
use Rattle.xmp_prog.specs.declared.parts.ProgParts.{ProgParts}
use Rattle.xmp_meaning.specs.Cells.{read_in}
use Rattle.xmp_meaning.specs.Runs.{State}
use Rattle.xmp_meaning.specs.Declarations.{scalar_type, array_type}
use Rattle.xmp_meaning.specs.Exchanges.{Notes}
use Rattle.xmp_meaning_laws.proofs.Values.{wrap_fits, set_has}
use Rattle.xmp_move.specs.Stores.{write_all}
use Rattle.xmp_move.proofs.Writes.{length-write_all}
use Rattle.xmp_nodes.proofs.Agrees.{IsWhole}
use Rattle.xmp_nodes.proofs.PackedRows.{same_or_other, tell, row_read, set_lengths, set_row_here, set_row_other}

-- each word of a row, once values of a type are written into some of its places
wrote_has : (Q : ℤ → Type 0) (row : List ℤ) (ns : List ℕ) (vs : List ℤ) (f : ℤ → ℤ) → ((v : ℤ) → Q (f v)) → ((n : ℕ) → Q (unwrap_or (slice_get row n) (pos 0)))
    → (n : ℕ) → Q (unwrap_or (slice_get (write_all row ns (map f vs)) n) (pos 0))
unfolding write_all
wrote_has Q row [] vs f q h n = h n
wrote_has Q row (m ∷ ns) [] f q h n = h n
wrote_has Q row (m ∷ ns) (v ∷ vs) f q h n = wrote_has Q (slice_set row m (f v)) ns vs f q (λ j. set_has Q (pos 0) row m j (f v) (λ e. q v) (h j)) n

-- ---- an array

module _ (p : ProgParts) (array : ℕ) (s : State Notes) (w : IsWhole p s) (row : List ℤ) (there : slice_get s.arrays array ≡ Some row) where
  abbrev new_row : List ℕ → List ℤ → List ℤ
  new_row ns vs = write_all row ns (map (wrap (array_type p array)) vs)

  row_lies : (n : ℕ) → FitsType (array_type p array) (unwrap_or (slice_get row n) (pos 0))
  row_lies n = subst (λ r. FitsType (array_type p array) (unwrap_or (slice_get r n) (pos 0))) (row_read s.arrays array row there) (w.values.cells array (pos n))

  -- whole rows stay whole, and their values in their types
  pub moved_rows : (ns : List ℕ) (vs : List ℤ) → IsWhole p (record s { arrays = slice_set s.arrays array (new_row ns vs) })
  moved_rows ns vs = record {
    scalars = w.scalars;
    rows = set_lengths s.arrays array row (new_row ns vs) there (length-write_all row ns (map (wrap (array_type p array)) vs)) ∙ w.rows;
    values = record {
      scalars = w.values.scalars;
      cells = λ b at. at_cell b at (tell array b);
    };
  }
    where
      at_cell : (b : ℕ) (at : ℤ) → same_or_other array b → FitsType (array_type p b) (read_in (slice_set s.arrays array (new_row ns vs)) b at)
      at_cell b (negsuc n) t = w.values.cells b (negsuc n)
      at_cell b (pos n) (inl same) =
          subst (λ c. FitsType (array_type p c) (read_in (slice_set s.arrays array (new_row ns vs)) c (pos n))) same
          (subst (λ r. FitsType (array_type p array) (unwrap_or (slice_get r n) (pos 0))) (sym (set_row_here s.arrays array row (new_row ns vs) there))
          (wrote_has (FitsType (array_type p array)) row ns vs (wrap (array_type p array)) (wrap_fits (array_type p array)) row_lies n))
      at_cell b (pos n) (inr other) =
          subst (λ r. FitsType (array_type p b) (unwrap_or (slice_get r n) (pos 0))) (sym (set_row_other s.arrays array b (new_row ns vs) other.0)) (w.values.cells b (pos n))

-- ---- a scalar

pub moved_scalar : (p : ProgParts) (slot : ℕ) (s : State Notes) (v : ℤ) → IsWhole p s → IsWhole p (record s { scalars = slice_set s.scalars slot (wrap (scalar_type p slot) v) })
moved_scalar p slot s v w = record {
  scalars = length-set s.scalars slot (wrap (scalar_type p slot) v) ∙ w.scalars;
  rows = w.rows;
  values = record {
    scalars = λ j. set_has (FitsType (scalar_type p j)) (pos 0) s.scalars slot j (wrap (scalar_type p slot) v) (λ e. subst (λ k. FitsType (scalar_type p k) (wrap (scalar_type p slot) v)) e (wrap_fits (scalar_type p slot) v)) (w.values.scalars j);
    cells = w.values.cells;
  };
}
