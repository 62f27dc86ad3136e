-- Both runs write a cell that the node owns: they still agree.
use Rattle.std.proofs.Common.{◌≡◌, ◌≢◌, ◌==◌, ℕ, ℤ, pos, Bool, true, false, true≢false, List, [], Some, refl, sym, subst, ap, ◌∙◌, eqb-true}
use Rattle.std.specs.Prelude.{slice_set}
use Rattle.std.proofs.lemmas.Bool.{eqb-false}
use Rattle.xmp_num.specs.Arithmetic.{FitsType}
use Rattle.xmp_map.specs.declared.array_map.ArrayMap.{ArrayMap}
use Rattle.xmp_map.specs.RowMajor.{row_major}
use Rattle.xmp_map.specs.Boxes.{IsInside}
use Rattle.xmp_prog.specs.declared.parts.Home.TheVariants as home
use Rattle.xmp_prog.specs.declared.statements.LoopDirective.{LoopDirective}
use Rattle.xmp_loops.specs.Objects.{array_object}
use Rattle.xmp_meaning.specs.Cells.{row_in}
use Rattle.xmp_meaning.specs.Runs.{State}
use Rattle.xmp_meaning.specs.Declarations.{extents, home_of, array_type}
use Rattle.xmp_meaning.specs.Exchanges.{Notes}
use Rattle.xmp_meaning_laws.proofs.Values.{write_has}
use Rattle.xmp_meaning_laws.proofs.Shapes.{rows_shape}
use Rattle.xmp_meaning.specs.Traffic.{copied}
use Rattle.xmp_move.specs.Sides.{owns_cell, holds_cell, position}
use Rattle.xmp_move.specs.Stores.{word_at}
use Rattle.xmp_move.specs.Whole.{Shows}
use Rattle.xmp_nodes.proofs.Agrees.{Stand, Agrees, Framed}
use Rattle.xmp_nodes.proofs.Standing.{IsSetting}
use Rattle.xmp_paths.specs.NodeSets.{has}
use Rattle.xmp_nodes.proofs.NodeExpressions.{held_here}
use Rattle.xmp_nodes.proofs.PlainWrites.{written_row, other_row, word_other, one_cell, serial_put, node_put, put_words, put_elsewhere}

module _ (a : Stand) (is : IsSetting a) (there : has a.set.nodes a.node ≡ true) (s : State Notes) (n : State (Unit {0})) (array : ℕ) (xs : List ℕ) (inside : IsInside xs (extents a.program array)) (v : ℤ)
    (fits : FitsType (array_type a.program array) v)
    (owns : owns_cell (home_of a.program array) a.node xs ≡ true) (holds : holds_cell (home_of a.program array) a.node xs ≡ true)
    (written : (t : ℕ) (m : ArrayMap) → home_of a.program array ≡ home.Spread t m → a.set.written array ≡ true) where
  abbrev new : State Notes
  new = serial_put a is s n array xs inside v

  abbrev own : State (Unit {0})
  own = node_put a is s n array xs inside v

  -- a statement on the rows of any array holds where it holds of this one, and of one whose rows stay
  any_array : (P : ℕ → List ℤ → List ℤ → Type 0) → (other : ℕ) → (array ≡ other → P other (row_in own.arrays other) (row_in new.arrays other)) → P other (row_in n.arrays other) (row_in s.arrays other)
      → P other (row_in own.arrays other) (row_in new.arrays other)
  any_array P other here old = at_test (array == other) refl
    where
      at_test : (b : Bool) → (array == other) ≡ b → P other (row_in own.arrays other) (row_in new.arrays other)
      at_test true e = here (eqb-true array other e)
      at_test false e =
          let ne : array ≢ other = eqb-false array other e in
          subst (λ r. P other r (row_in new.arrays other)) (sym (other_row n.arrays array other _ v ne)) (subst (λ r. P other (row_in n.arrays other) r) (sym (other_row s.arrays array other _ v ne)) old)

  module _ (stale : ℕ → Bool) (g : Agrees a stale s n) where
    held_in : (t : ℕ) (m : ArrayMap) → home_of a.program array ≡ home.Spread t m → holds_cell (home.Spread t m) a.node xs ≡ true
    held_in t m e = subst (λ h. holds_cell h a.node xs ≡ true) e holds

    owned_then : (other t : ℕ) (m : ArrayMap) → home_of a.program other ≡ home.Spread t m
        → Shows (extents a.program other) (owns_cell (home.Spread t m) a.node) (position (home.Spread t m) (extents a.program other) a.node) (row_in own.arrays other) (row_in new.arrays other)
    owned_then other t m e cell i o =
        any_array (λ k r q. word_at r (position (home.Spread t m) (extents a.program k) a.node cell) ≡ word_at q (row_major (extents a.program k) cell)) other
        (λ same. here other same e i) (g.owned other t m e cell i o)
      where
        here : (other : ℕ) → array ≡ other → home_of a.program other ≡ home.Spread t m → IsInside cell (extents a.program other)
            → word_at (row_in own.arrays other) (position (home.Spread t m) (extents a.program other) a.node cell) ≡ word_at (row_in new.arrays other) (row_major (extents a.program other) cell)
        here other same e i =
            subst (λ k. word_at (row_in own.arrays k) (position (home.Spread t m) (extents a.program k) a.node cell) ≡ word_at (row_in new.arrays k) (row_major (extents a.program k) cell)) same
            (let f : home_of a.program array ≡ home.Spread t m = ap (home_of a.program) same ∙ e in
            let j : IsInside cell (extents a.program array) = subst (λ k. IsInside cell (extents a.program k)) (sym same) i in
            put_words a is s n array xs inside v stale g t m f (held_in t m f) cell j (held_here a is there [] array t m cell f j o) (g.owned array t m f cell j o))

    copies_then : (other : ℕ) → home_of a.program other ≡ home.Copy → stale (array_object other) ≡ false → row_in own.arrays other ≡ row_in new.arrays other
    copies_then other e f = any_array (λ k r q. r ≡ q) other (λ same. subst (λ k. row_in own.arrays k ≡ row_in new.arrays k) same (here (ap (home_of a.program) same ∙ e) (ap (λ k. stale (array_object k)) same ∙ f))) (g.copies other e f)
      where
        here : home_of a.program array ≡ home.Copy → stale (array_object array) ≡ false → row_in own.arrays array ≡ row_in new.arrays array
        here e f =
            written_row n.arrays array (position (home_of a.program array) (extents a.program array) a.node xs) v
            ∙ ap (λ h. slice_set (row_in n.arrays array) (position h (extents a.program array) a.node xs) v) e
            ∙ ap (λ r. slice_set r (row_major (extents a.program array) xs) v) (g.copies array e f)
            ∙ sym (written_row s.arrays array (row_major (extents a.program array) xs) v)

    shadows_then : (other t : ℕ) (m : ArrayMap) (cell : List ℕ) → home_of a.program other ≡ home.Spread t m → IsInside cell (extents a.program other)
        → holds_cell (home.Spread t m) a.node cell ≡ true → owns_cell (home.Spread t m) a.node cell ≡ false
        → word_at (row_in own.arrays other) (position (home.Spread t m) (extents a.program other) a.node cell) ≡ copied s.extra.exchanges other (row_major (extents a.program other) cell)
    shadows_then other t m cell e i h o =
        any_array (λ k r q. word_at r (position (home.Spread t m) (extents a.program k) a.node cell) ≡ copied s.extra.exchanges k (row_major (extents a.program k) cell)) other
        (λ same. here other same e i) (g.shadows other t m cell e i h o)
      where
        not_this : (cell : List ℕ) → home_of a.program array ≡ home.Spread t m → IsInside cell (extents a.program array) → owns_cell (home.Spread t m) a.node cell ≡ false
            → row_major (extents a.program array) cell ≢ row_major (extents a.program array) xs
        not_this cell f j o k =
            let same : cell ≡ xs = one_cell a is s n array xs inside v cell j k in
            true≢false (sym (subst (λ h. owns_cell h a.node xs ≡ true) f owns) ∙ (ap (owns_cell (home.Spread t m) a.node) (sym same) ∙ o))

        here : (other : ℕ) → array ≡ other → home_of a.program other ≡ home.Spread t m → IsInside cell (extents a.program other)
            → word_at (row_in own.arrays other) (position (home.Spread t m) (extents a.program other) a.node cell) ≡ copied s.extra.exchanges other (row_major (extents a.program other) cell)
        here other same e i =
            subst (λ k. word_at (row_in own.arrays k) (position (home.Spread t m) (extents a.program k) a.node cell) ≡ copied s.extra.exchanges k (row_major (extents a.program k) cell)) same
            (let f : home_of a.program array ≡ home.Spread t m = ap (home_of a.program) same ∙ e in
            let j : IsInside cell (extents a.program array) = subst (λ k. IsInside cell (extents a.program k)) (sym same) i in
            put_elsewhere a is s n array xs inside v stale g t m f (held_in t m f) cell j h (not_this cell f j o) ∙ g.shadows array t m cell f j h o)

    current_then : (other t : ℕ) (m : ArrayMap) → home_of a.program other ≡ home.Spread t m → stale (array_object other) ≡ false → a.set.written other ≡ false
        → (number : ℕ) → copied s.extra.exchanges other number ≡ word_at (row_in new.arrays other) number
    current_then other t m e f w number =
        any_array (λ k r q. copied s.extra.exchanges k number ≡ word_at q number) other
        (λ same. absurd (true≢false (sym (written t m (ap (home_of a.program) same ∙ e)) ∙ (ap a.set.written same ∙ w)))) (g.current other t m e f w number)

    pub agrees_put : Agrees a stale new own
    agrees_put = record {
      whole = record {
        scalars = g.whole.scalars;
        rows = rows_shape s.arrays array (pos (row_major (extents a.program array) xs)) v ∙ g.whole.rows;
        values = record {
          scalars = g.whole.values.scalars;
          cells = λ other at. write_has (FitsType (array_type a.program other)) s.arrays array other (pos (row_major (extents a.program array) xs)) at v
              (λ e. subst (λ k. FitsType (array_type a.program k) v) e fits) (g.whole.values.cells other at);
        };
      };
      packed = record {
        scalars = g.packed.scalars;
        rows = rows_shape n.arrays array (pos (position (home_of a.program array) (extents a.program array) a.node xs)) v ∙ g.packed.rows;
        no_coarrays = g.packed.no_coarrays;
      };
      typed = g.typed;
      scalars = g.scalars;
      indices = g.indices;
      sums = g.sums;
      copies = copies_then;
      owned = owned_then;
      shadows = shadows_then;
      current = current_then;
      point = g.point;
      steps = g.steps;
      out = g.out;
      taken = g.taken;
    }

    pub put_framed : ((d : LoopDirective) → a.set.over ≡ Some d → a.set.written array ≡ true) → Framed a s new
    put_framed changed = record {
      extra = refl;
      steps = λ e. refl;
      turn = λ d over. record {
        out = refl;
        taken = refl;
        scalars = λ slot e. refl;
        rows = λ other e. other_row s.arrays array other (row_major (extents a.program array) xs) v (λ same. true≢false (sym (changed d over) ∙ (ap a.set.written same ∙ e)));
        cells = λ other t m cell e i o. any_array (λ k r q. word_at q (row_major (extents a.program k) cell) ≡ word_at (row_in s.arrays k) (row_major (extents a.program k) cell)) other
            (λ same. cell_stays other t m cell e i o same) refl;
      };
    }
      where
        cell_stays : (other t : ℕ) (m : ArrayMap) (cell : List ℕ) → home_of a.program other ≡ home.Spread t m → IsInside cell (extents a.program other) → owns_cell (home.Spread t m) a.node cell ≡ false → array ≡ other
            → word_at (row_in new.arrays other) (row_major (extents a.program other) cell) ≡ word_at (row_in s.arrays other) (row_major (extents a.program other) cell)
        cell_stays other t m cell e i o same =
            subst (λ k. word_at (row_in new.arrays k) (row_major (extents a.program k) cell) ≡ word_at (row_in s.arrays k) (row_major (extents a.program k) cell)) same
            (let f : home_of a.program array ≡ home.Spread t m = ap (home_of a.program) same ∙ e in
            let j : IsInside cell (extents a.program array) = subst (λ k. IsInside cell (extents a.program k)) (sym same) i in
            let ne : row_major (extents a.program array) cell ≢ row_major (extents a.program array) xs = λ k.
            true≢false (sym (subst (λ h. owns_cell h a.node xs ≡ true) f owns) ∙ (ap (owns_cell (home.Spread t m) a.node) (sym (one_cell a is s n array xs inside v cell j k)) ∙ o)) in
            ap (λ r. word_at r (row_major (extents a.program array) cell)) (written_row s.arrays array (row_major (extents a.program array) xs) v)
            ∙ word_other (row_in s.arrays array) (row_major (extents a.program array) xs) (row_major (extents a.program array) cell) v (λ k. ne (sym k)))
