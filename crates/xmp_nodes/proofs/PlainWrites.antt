-- Both runs write a scalar, a cell or text: they still agree.
use Rattle.std.proofs.Common.{◌≡◌, ◌≢◌, ◌<◌, ◌≤◌, ◌+ℤ◌, ◌++◌, ◌==◌, ℕ, zero, suc, ℤ, pos, Bool, true, false, true≢false, List, [], ◌∷◌, map, length, Option, Some, refl, sym, subst, ap, ◌∙◌, arith, eqb-true, append_assoc}
use Rattle.std.proofs.lemmas.Bool.{eqb-false}
use Rattle.std.specs.Prelude.{slice_get, slice_set, unwrap_or}
use Rattle.std.specs.List.{AllByRecursion, flat_map}
use Rattle.std.proofs.lemmas.Option.{unwrap_or-slice_get}
use Rattle.xmp_num.specs.Arithmetic.{FitsType}
use Rattle.xmp_num.specs.Reduction.{combine_of}
use Rattle.xmp_map.specs.declared.array_map.ArrayMap.{ArrayMap}
use Rattle.xmp_map.specs.RowMajor.{product, row_major}
use Rattle.xmp_map.specs.Boxes.{IsInside}
use Rattle.xmp_map.specs.Held as held
use Rattle.xmp_map.proofs.Order.{row_major-unique, row_major-lt, inside_below}
use Rattle.xmp_prog.specs.declared.parts.Home.TheVariants as home
use Rattle.xmp_prog.specs.declared.statements.LoopDirective.{LoopDirective}
use Rattle.xmp_prog.specs.declared.statements.Point.{Point}
use Rattle.xmp_prog.specs.declared.statements.Point.TheVariants as point
use Rattle.xmp_prog.specs.Statements.{slots_of_point}
use Rattle.xmp_loops.specs.Objects.{scalar_object, array_object}
use Rattle.xmp_loops.specs.declared.role.Role.TheVariants.{Index}
use Rattle.xmp_flow.specs.Setting.{is_reduced}
use Rattle.xmp_meaning.specs.Cells.{row_in, with_cell}
use Rattle.xmp_meaning.specs.Runs.{State}
use Rattle.xmp_meaning.specs.Declarations.{extents, home_of, scalar_type}
use Rattle.xmp_meaning.specs.Layouts.{Packed, words_of}
use Rattle.xmp_meaning.specs.Parts.{position_at, owns_positions}
use Rattle.xmp_meaning.specs.Exchanges.{Notes}
use Rattle.xmp_meaning.proofs.Stays.{set_other}
use Rattle.xmp_meaning_laws.specs.Laws.{scalar_in}
use Rattle.xmp_meaning_laws.proofs.Values.{set_has}
use Rattle.xmp_move.specs.Sides.{holds_cell, position}
use Rattle.xmp_move.specs.Stores.{word_at}
use Rattle.xmp_move.specs.Whole.{HasSlots}
use Rattle.xmp_nodes.proofs.Agrees.{Stand, Agrees, Framed, is_changed}
use Rattle.xmp_nodes.proofs.Standing.{IsSetting}
use Rattle.xmp_nodes.proofs.ReflectLaws.{rows_kept}
use Rattle.xmp_nodes.proofs.PackedRows.{IsSpreadArray, spread_array, IsRowOf, spread_row, row_read, whole_row}

-- ---- one value in two lists

set_both : {A : Type 0} (xs ys : List A) (i : ℕ) (v : A) → length xs ≡ length ys → slice_get (slice_set xs i v) i ≡ slice_get (slice_set ys i v) i
set_both [] [] i v e = refl
set_both [] (y ∷ ys) i v e = absurd (omega (arith, e))
set_both (x ∷ xs) [] i v e = absurd (omega (arith, e))
set_both (x ∷ xs) (y ∷ ys) zero v e = refl
set_both (x ∷ xs) (y ∷ ys) (suc i) v e = set_both xs ys i v (let l : length xs ≡ length ys = omega (arith, e) in l)

pub set_length : {A : Type 0} (xs : List A) (i : ℕ) (v : A) → length (slice_set xs i v) ≡ length xs
set_length [] i v = refl
set_length (x ∷ xs) zero v = refl
set_length (x ∷ xs) (suc i) v = ap suc (set_length xs i v)

-- the row that is written, and another
pub written_row : (rows : List (List ℤ)) (i n : ℕ) (v : ℤ) → row_in (with_cell rows i n v) i ≡ slice_set (row_in rows i) n v
written_row [] i n v = refl
written_row (r ∷ rows) zero n v = refl
written_row (r ∷ rows) (suc i) n v = written_row rows i n v

pub other_row : (rows : List (List ℤ)) (i j n : ℕ) (v : ℤ) → i ≢ j → row_in (with_cell rows i n v) j ≡ row_in rows j
other_row rows i j n v ne = ap (λ o. unwrap_or o []) (set_other rows i j (slice_set (row_in rows i) n v) ne)

word_is : (row : List ℤ) (n : ℕ) → word_at row n ≡ unwrap_or (slice_get row n) (pos 0)
word_is row n = sym (unwrap_or-slice_get row n (pos 0))

pub word_other : (row : List ℤ) (n m : ℕ) (v : ℤ) → n ≢ m → word_at (slice_set row n v) m ≡ word_at row m
word_other row n m v ne = word_is (slice_set row n v) m ∙ ap (λ o. unwrap_or o (pos 0)) (set_other row n m v ne) ∙ sym (word_is row m)

word_set : (row : List ℤ) (n : ℕ) (v : ℤ) → n < length row → word_at (slice_set row n v) n ≡ v
word_set row n v lt = word_is (slice_set row n v) n ∙ of_list row n lt
  where
    of_list : (row : List ℤ) (n : ℕ) → n < length row → unwrap_or (slice_get (slice_set row n v) n) (pos 0) ≡ v
    of_list [] n lt = absurd (omega (arith, lt))
    of_list (x ∷ xs) zero lt = refl
    of_list (x ∷ xs) (suc n) lt = of_list xs n (let l : n < length xs = omega (arith, lt) in l)

-- two states with one scalar set
abbrev pub with_scalar : {X : Type 0} → ℕ → ℤ → State X → State X
with_scalar slot v s = record s { scalars = slice_set s.scalars slot v }

-- the points stay where no index is set
pub points_same : (scalars : List ℤ) (slot : ℕ) (v : ℤ) (qs : List Point) → AllByRecursion (λ i. slot ≢ i) (flat_map slots_of_point qs)
    → map (position_at (slice_set scalars slot v)) qs ≡ map (position_at scalars) qs
points_same scalars slot v [] h = refl
points_same scalars slot v (point.Any ∷ qs) h = ap (λ l. pos 0 ∷ l) (points_same scalars slot v qs h)
points_same scalars slot v (point.Index i f ∷ qs) h =
    ap (λ o. position_at_value o f ∷ map (position_at (slice_set scalars slot v)) qs) (set_other scalars slot i v h.0)
    ∙ ap (λ l. position_at scalars (point.Index i f) ∷ l) (points_same scalars slot v qs h.1)
  where
    position_at_value : Option ℤ → ℤ → ℤ
    position_at_value o f = unwrap_or o (pos 0) +ℤ f

module _ (a : Stand) (is : IsSetting a) where
  same_then : (s : State Notes) (n : State (Unit {0})) (slot x : ℕ) (v : ℤ) → length n.scalars ≡ length s.scalars → (slot ≢ x → scalar_in n x ≡ scalar_in s x)
      → scalar_in (with_scalar slot v n) x ≡ scalar_in (with_scalar slot v s) x
  same_then s n slot x v l h = at_test (slot == x) refl
    where
      at_test : (b : Bool) → (slot == x) ≡ b → scalar_in (with_scalar slot v n) x ≡ scalar_in (with_scalar slot v s) x
      at_test true e = subst (λ y. scalar_in (with_scalar slot v n) y ≡ scalar_in (with_scalar slot v s) y) (eqb-true slot x e)
          (ap (λ o. unwrap_or o (pos 0)) (set_both n.scalars s.scalars slot v l))
      at_test false e =
          ap (λ o. unwrap_or o (pos 0)) (set_other n.scalars slot x v (eqb-false slot x e)) ∙ (h (eqb-false slot x e)
          ∙ sym (ap (λ o. unwrap_or o (pos 0)) (set_other s.scalars slot x v (eqb-false slot x e))))

  odd_even : (i j : ℕ) → array_object i ≡ scalar_object j → ⊥
  odd_even i j e = omega (arith, e)

  pub no_index : (d : LoopDirective) → a.set.over ≡ Some d → (slot : ℕ) → a.set.roles slot ≢ Index → AllByRecursion (λ i. slot ≢ i) (flat_map slots_of_point d.points)
  no_index d over slot ne = of_list (flat_map slots_of_point d.points) (is.directive d over).indices
    where
      of_list : (is : List ℕ) → AllByRecursion (λ i. a.set.roles i ≡ Index) is → AllByRecursion (λ i. slot ≢ i) is
      of_list [] h = tt
      of_list (i ∷ is) h = ((λ e. ne (ap a.set.roles e ∙ h.0)), of_list is h.1)

  -- where both set a scalar to one value, they agree on it whatever was out of date
  pub agrees_set : (stale more : ℕ → Bool) (s : State Notes) (n : State (Unit {0})) (slot : ℕ) (v : ℤ) → FitsType (scalar_type a.program slot) v
      → a.set.roles slot ≢ Index → is_reduced (a.set.roles slot) ≡ false
      → ((object : ℕ) → object ≢ scalar_object slot → more object ≡ false → stale object ≡ false)
      → Agrees a stale s n → Agrees a more (with_scalar slot v s) (with_scalar slot v n)
  agrees_set stale more s n slot v fits index whole h g =
      let long : length n.scalars ≡ length s.scalars = g.packed.scalars ∙ sym g.whole.scalars in
      record {
        whole = record {
          scalars = set_length s.scalars slot v ∙ g.whole.scalars;
          rows = g.whole.rows;
          values = record {
            scalars = λ x. set_has (FitsType (scalar_type a.program x)) (pos 0) s.scalars slot x v (λ e. subst (λ y. FitsType (scalar_type a.program y) v) e fits) (g.whole.values.scalars x);
            cells = g.whole.values.cells;
          };
        };
        packed = record { scalars = set_length n.scalars slot v ∙ g.packed.scalars; rows = g.packed.rows; no_coarrays = g.packed.no_coarrays };
        typed = λ x. set_has (FitsType (scalar_type a.program x)) (pos 0) n.scalars slot x v (λ e. subst (λ y. FitsType (scalar_type a.program y) v) e fits) (g.typed x);
        scalars = λ x r e. same_then s n slot x v long (λ d. g.scalars x r (h (scalar_object x) (λ i. d (omega (arith, i))) e));
        indices = λ x r. same_then s n slot x v long (λ d. g.indices x r);
        sums = λ x op r.
            let other : slot ≢ x = λ e. true≢false (sym (ap is_reduced r) ∙ (ap (λ y. is_reduced (a.set.roles y)) (sym e) ∙ whole)) in
            let sum : _ = g.sums x op r in
            record {
              fits = sum.fits;
              whole = ap (λ o. unwrap_or o (pos 0)) (set_other s.scalars slot x v other)
                  ∙ (sum.whole ∙ ap (λ o. combine_of op (scalar_type a.program x) (a.rest x) (unwrap_or o (pos 0))) (sym (set_other n.scalars slot x v other)));
            };
        copies = λ array r e. g.copies array r (h (array_object array) (odd_even array slot) e);
        owned = g.owned;
        shadows = g.shadows;
        current = λ array t m r e. g.current array t m r (h (array_object array) (odd_even array slot) e);
        point = λ d e. ap (λ l. owns_positions a.program a.node (slice_get a.program.templates d.template) l) (points_same s.scalars slot v d.points (no_index d e slot index)) ∙ g.point d e;
        steps = g.steps;
        out = g.out;
        taken = g.taken;
      }

  pub set_framed : (s : State Notes) (slot : ℕ) (v : ℤ) → ((d : LoopDirective) → a.set.over ≡ Some d → is_changed (a.set.roles slot) ≡ true) → Framed a s (with_scalar slot v s)
  set_framed s slot v changed = record {
    extra = refl;
    steps = λ e. refl;
    turn = λ d e. record {
      out = refl;
      taken = refl;
      scalars = λ x i. ap (λ o. unwrap_or o (pos 0)) (set_other s.scalars slot x v (λ same. true≢false (sym (changed d e) ∙ (ap (λ y. is_changed (a.set.roles y)) same ∙ i))));
      rows = λ array i. refl;
      cells = λ array tm m cell i j o. refl;
    };
  }

  -- ---- text

  pub agrees_write : (stale : ℕ → Bool) (s : State Notes) (n : State (Unit {0})) (text : List ℕ) → Agrees a stale s n → Agrees a stale (record s { out = s.out ++ text }) (record n { out = n.out ++ text })
  agrees_write stale s n text g = record {
    whole = record { scalars = g.whole.scalars; rows = g.whole.rows; values = record { scalars = g.whole.values.scalars; cells = g.whole.values.cells } };
    packed = record { scalars = g.packed.scalars; rows = g.packed.rows; no_coarrays = g.packed.no_coarrays };
    typed = g.typed;
    scalars = g.scalars;
    indices = g.indices;
    sums = g.sums;
    copies = g.copies;
    owned = g.owned;
    shadows = g.shadows;
    current = g.current;
    point = g.point;
    steps = g.steps;
    out = λ before e. ap (λ l. l ++ text) (g.out before e) ∙ append_assoc before n.out text;
    taken = g.taken;
  }

  pub agrees_taken : (stale : ℕ → Bool) (s : State Notes) (n : State (Unit {0})) (m : ℕ) → Agrees a stale s n → Agrees a stale (record s { taken = m }) (record n { taken = m })
  agrees_taken stale s n m g = record {
    whole = record { scalars = g.whole.scalars; rows = g.whole.rows; values = record { scalars = g.whole.values.scalars; cells = g.whole.values.cells } };
    packed = record { scalars = g.packed.scalars; rows = g.packed.rows; no_coarrays = g.packed.no_coarrays };
    typed = g.typed;
    scalars = g.scalars;
    indices = g.indices;
    sums = g.sums;
    copies = g.copies;
    owned = g.owned;
    shadows = g.shadows;
    current = g.current;
    point = g.point;
    steps = g.steps;
    out = g.out;
    taken = λ e. refl;
  }

  -- ---- cells

  module _ (s : State Notes) (n : State (Unit {0})) (array : ℕ) (xs : List ℕ) (inside : IsInside xs (extents a.program array)) (v : ℤ) where
    abbrev at_serial : ℕ
    at_serial = row_major (extents a.program array) xs

    abbrev at_node : ℕ
    at_node = position (home_of a.program array) (extents a.program array) a.node xs

    abbrev pub serial_put : State Notes
    serial_put = record s { arrays = with_cell s.arrays array at_serial v }

    abbrev pub node_put : State (Unit {0})
    node_put = record n { arrays = with_cell n.arrays array at_node v }

    pub one_cell : (cell : List ℕ) → IsInside cell (extents a.program array) → row_major (extents a.program array) cell ≡ at_serial → cell ≡ xs
    one_cell cell i e = row_major-unique cell xs (extents a.program array) (inside_below cell (extents a.program array) i) (inside_below xs (extents a.program array) inside) e

    -- the cell of a spread array that the node owns
    module _ (stale : ℕ → Bool) (g : Agrees a stale s n) (t : ℕ) (m : ArrayMap) (lies : home_of a.program array ≡ home.Spread t m) (holds : holds_cell (home.Spread t m) a.node xs ≡ true) where
      spread : IsSpreadArray a.program array t m
      spread = spread_array a.program is.global array t m lies

      node_row : IsRowOf a.program a.node array m n.arrays
      node_row = spread_row a.program a.node array t m n spread g.packed

      long : words_of (Packed a.node) (home.Spread t m) (product (extents a.program array)) ≤ length (row_in n.arrays array)
      long = let e : length (row_in n.arrays array) ≡ held.words m a.node = ap (λ (r : List ℤ). length r) (row_read n.arrays array node_row.row node_row.at) ∙ node_row.long in omega (arith, e)

      slots : HasSlots (extents a.program array) (holds_cell (home.Spread t m) a.node) (position (home.Spread t m) (extents a.program array) a.node) (row_in n.arrays array)
      slots = rows_kept (home.Spread t m) (extents a.program array) a.node (row_in n.arrays array) spread.three spread.fits long

      at_slot : at_node ≡ position (home.Spread t m) (extents a.program array) a.node xs
      at_slot = ap (λ h. position h (extents a.program array) a.node xs) lies

      serial_there : at_serial < length (row_in s.arrays array)
      serial_there =
          let e : length (row_in s.arrays array) ≡ product (extents a.program array) = whole_row a.program is.global array t m s spread g.whole in
          let lt : at_serial < product (extents a.program array) = row_major-lt xs (extents a.program array) (inside_below xs (extents a.program array) inside) in
          omega (arith, e, lt)

      node_there : at_node < length (row_in n.arrays array)
      node_there = subst (λ k. k < length (row_in n.arrays array)) (sym at_slot) (slots.inside xs inside holds)

      apart : (cell : List ℕ) → IsInside cell (extents a.program array) → holds_cell (home.Spread t m) a.node cell ≡ true → row_major (extents a.program array) cell ≢ at_serial
          → at_node ≢ position (home.Spread t m) (extents a.program array) a.node cell
      apart cell i h ne e = ne (ap (row_major (extents a.program array)) (slots.apart cell xs i inside h holds (sym e ∙ at_slot)))

      -- each cell that is held has the value put, or its old one, in both
      pub put_words : (cell : List ℕ) → IsInside cell (extents a.program array) → holds_cell (home.Spread t m) a.node cell ≡ true
          → word_at (row_in n.arrays array) (position (home.Spread t m) (extents a.program array) a.node cell) ≡ word_at (row_in s.arrays array) (row_major (extents a.program array) cell)
          → word_at (row_in node_put.arrays array) (position (home.Spread t m) (extents a.program array) a.node cell) ≡ word_at (row_in serial_put.arrays array) (row_major (extents a.program array) cell)
      put_words cell i h old = at_test (row_major (extents a.program array) cell == at_serial) refl
        where
          at_test : (b : Bool) → (row_major (extents a.program array) cell == at_serial) ≡ b
              → word_at (row_in node_put.arrays array) (position (home.Spread t m) (extents a.program array) a.node cell) ≡ word_at (row_in serial_put.arrays array) (row_major (extents a.program array) cell)
          at_test true e =
              let same : cell ≡ xs = one_cell cell i (eqb-true (row_major (extents a.program array) cell) at_serial e) in
              ap (λ row. word_at row (position (home.Spread t m) (extents a.program array) a.node cell)) (written_row n.arrays array at_node v)
              ∙ ap (λ c. word_at (slice_set (row_in n.arrays array) at_node v) (position (home.Spread t m) (extents a.program array) a.node c)) same
              ∙ ap (word_at (slice_set (row_in n.arrays array) at_node v)) (sym at_slot)
              ∙ word_set (row_in n.arrays array) at_node v node_there
              ∙ sym (word_set (row_in s.arrays array) at_serial v serial_there)
              ∙ ap (λ c. word_at (slice_set (row_in s.arrays array) at_serial v) (row_major (extents a.program array) c)) (sym same)
              ∙ ap (λ row. word_at row (row_major (extents a.program array) cell)) (sym (written_row s.arrays array at_serial v))
          at_test false e =
              let ne : row_major (extents a.program array) cell ≢ at_serial = eqb-false (row_major (extents a.program array) cell) at_serial e in
              ap (λ row. word_at row (position (home.Spread t m) (extents a.program array) a.node cell)) (written_row n.arrays array at_node v)
              ∙ word_other (row_in n.arrays array) at_node (position (home.Spread t m) (extents a.program array) a.node cell) v (apart cell i h ne)
              ∙ old
              ∙ sym (word_other (row_in s.arrays array) at_serial (row_major (extents a.program array) cell) v (λ k. ne (sym k)))
              ∙ ap (λ row. word_at row (row_major (extents a.program array) cell)) (sym (written_row s.arrays array at_serial v))

      -- and one that isn't this one has its old one at the node
      pub put_elsewhere : (cell : List ℕ) → IsInside cell (extents a.program array) → holds_cell (home.Spread t m) a.node cell ≡ true → row_major (extents a.program array) cell ≢ at_serial
          → word_at (row_in node_put.arrays array) (position (home.Spread t m) (extents a.program array) a.node cell) ≡ word_at (row_in n.arrays array) (position (home.Spread t m) (extents a.program array) a.node cell)
      put_elsewhere cell i h ne =
          ap (λ row. word_at row (position (home.Spread t m) (extents a.program array) a.node cell)) (written_row n.arrays array at_node v)
          ∙ word_other (row_in n.arrays array) at_node (position (home.Spread t m) (extents a.program array) a.node cell) v (apart cell i h ne)
