-- A node agrees after a gmove: on a scalar, on an array without align, and on a distributed one.
use Rattle.std.proofs.Common.{◌≡◌, ◌≢◌, ◌<◌, ◌+◌, ◌*◌, ◌++◌, ◌⊎◌, inl, inr, ℕ, zero, suc, ℤ, pos, Bool, true, false, List, [], ◌∷◌, map, length, Some, refl, sym, ap, subst, ◌∙◌, arith, ne_eqb}
use Rattle.std.specs.Prelude.{slice_get, slice_set, unwrap_or}
use Rattle.std.proofs.lemmas.List.{length-set}
use Rattle.xmp_num.specs.Arithmetic.{FitsType}
use Rattle.xmp_map.specs.declared.array_map.ArrayMap.{ArrayMap}
use Rattle.xmp_map.specs.RowMajor.{row_major}
use Rattle.xmp_map.specs.Boxes.{IsInside}
use Rattle.xmp_prog.specs.declared.parts.ProgParts.{ProgParts}
use Rattle.xmp_prog.specs.declared.parts.Home.{Home}
use Rattle.xmp_prog.specs.declared.parts.Home.TheVariants as home
use Rattle.xmp_prog.specs.Fits.{node_count}
use Rattle.xmp_paths.specs.declared.event.Event.{Event}
use Rattle.xmp_paths.specs.declared.event.Event.TheVariants.{Mark}
use Rattle.xmp_paths.specs.Safe.{left}
use Rattle.xmp_loops.specs.Objects.{scalar_object, array_object, all_nodes}
use Rattle.xmp_flow.specs.Setting.{is_reduced}
use Rattle.xmp_flow.specs.Program.{outermost}
use Rattle.xmp_meaning.specs.Cells.{row_in}
use Rattle.xmp_meaning.specs.Runs.{State}
use Rattle.xmp_meaning.specs.Declarations.{extents, home_of, scalar_type}
use Rattle.xmp_meaning.specs.Exchanges.{Notes, Exchange}
use Rattle.xmp_meaning.specs.Traffic.{copied}
use Rattle.xmp_meaning_laws.proofs.Values.{set_has}
use Rattle.xmp_meaning.proofs.Stays.{set_other}
use Rattle.xmp_move.specs.Sides.{owns_cell, holds_cell, position}
use Rattle.xmp_move.specs.Stores.{word_at}
use Rattle.xmp_move.specs.Whole.{Shows}
use Rattle.xmp_nodes.proofs.Agrees.{IsWhole, Agrees, at_main}
use Rattle.xmp_nodes.proofs.Each.{Alone}
use Rattle.xmp_nodes.proofs.CastLaws.{staled, untouched}
use Rattle.xmp_nodes.proofs.CastLeaf.{noting_one}
use Rattle.xmp_nodes.proofs.CopiedLaws.{IsNoReflect, copied_stays}
use Rattle.xmp_nodes.proofs.PackedRows.{same_or_other, tell, row_read, set_lengths, set_row_here, set_row_other}

-- ---- marks of other objects

odd : (a b : ℕ) → 2 * a + 1 ≡ 2 * b → ⊥
odd a b e = omega (arith, e)

even : (a b : ℕ) → 2 * a ≡ 2 * b + 1 → ⊥
even a b e = omega (arith, e)

halves : (a b : ℕ) → 2 * a ≡ 2 * b → a ≡ b
halves a b e = omega (arith, e)

odd_halves : (a b : ℕ) → 2 * a + 1 ≡ 2 * b + 1 → a ≡ b
odd_halves a b e = omega (arith, e)

module _ (p : ProgParts) (k : ℕ) (below : k < node_count p) (x : Exchange) (none : IsNoReflect x) (stale : ℕ → Bool) (s : State Notes) (n : Alone) (g : Agrees (at_main p k) stale s n) where
  abbrev pub s1 : State Notes
  s1 = noting_one x s

  -- ---- a scalar

  module _ (slot : ℕ) (v : ℤ) (fits : FitsType (scalar_type p slot) v) (whole : IsWhole p (record s1 { scalars = slice_set s.scalars slot v })) where
    abbrev pub scalar_marks : List Event
    scalar_marks = Mark (scalar_object slot) (all_nodes p) 0 ∷ []

    scalar_stale : (other : ℕ) → left k scalar_marks stale (scalar_object other) ≡ false → (other ≡ slot) ⊎ ((slot ≢ other) × (stale (scalar_object other) ≡ false))
    scalar_stale other e = at_test (tell slot other)
      where
        at_test : same_or_other slot other → (other ≡ slot) ⊎ ((slot ≢ other) × (stale (scalar_object other) ≡ false))
        at_test (inl same) = inl (sym same)
        at_test (inr ne) = inr (ne.0, sym (untouched k (scalar_object other) (scalar_object slot) (all_nodes p) 0 (ne_eqb (scalar_object slot) (scalar_object other) (λ f. ne.0 (halves slot other f))) (stale (scalar_object other))) ∙ e)

    array_stale : (array : ℕ) → left k scalar_marks stale (array_object array) ≡ stale (array_object array)
    array_stale array = untouched k (array_object array) (scalar_object slot) (all_nodes p) 0 (ne_eqb (scalar_object slot) (array_object array) (λ f. even slot array f)) (stale (array_object array))

    pub scalar_agrees : Agrees (at_main p k) (left k scalar_marks stale) (record s1 { scalars = slice_set s.scalars slot v }) (record n { scalars = slice_set n.scalars slot v })
    scalar_agrees = record {
      whole = whole;
      packed = record { scalars = length-set n.scalars slot v ∙ g.packed.scalars; rows = g.packed.rows; no_coarrays = g.packed.no_coarrays };
      typed = λ j. set_has (FitsType (scalar_type p j)) (pos 0) n.scalars slot j v (λ e. subst (λ i. FitsType (scalar_type p i) v) e fits) (g.typed j);
      scalars = λ j r e. at_scalar j r (scalar_stale j e);
      indices = λ j e. cc;
      sums = λ j op e. cc;
      copies = λ array e f. g.copies array e (sym (array_stale array) ∙ f);
      owned = g.owned;
      shadows = λ array t m cell e i h o. g.shadows array t m cell e i h o ∙ sym (copied_stays s.extra.exchanges x none array _);
      current = λ array t m e f w number. copied_stays s.extra.exchanges x none array number ∙ g.current array t m e (sym (array_stale array) ∙ f) w number;
      point = λ d e. cc;
      steps = g.steps;
      out = g.out;
      taken = g.taken;
    }
      where
        long : length n.scalars ≡ length (slice_set s.scalars slot v)
        long = g.packed.scalars ∙ sym whole.scalars

        both : unwrap_or (slice_get (slice_set n.scalars slot v) slot) (pos 0) ≡ unwrap_or (slice_get (slice_set s.scalars slot v) slot) (pos 0)
        both = same_there n.scalars s.scalars slot v (g.packed.scalars ∙ sym g.whole.scalars)
          where
            same_there : (xs ys : List ℤ) (i : ℕ) (v : ℤ) → length xs ≡ length ys → unwrap_or (slice_get (slice_set xs i v) i) (pos 0) ≡ unwrap_or (slice_get (slice_set ys i v) i) (pos 0)
            same_there [] [] i v l = refl
            same_there [] (y ∷ ys) i v l = absurd (omega (arith, l))
            same_there (x ∷ xs) [] i v l = absurd (omega (arith, l))
            same_there (x ∷ xs) (y ∷ ys) zero v l = refl
            same_there (x ∷ xs) (y ∷ ys) (suc i) v l = same_there xs ys i v (omega (arith, l))

        at_scalar : (j : ℕ) → is_reduced ((outermost p).roles j) ≡ false → (j ≡ slot) ⊎ ((slot ≢ j) × (stale (scalar_object j) ≡ false))
            → unwrap_or (slice_get (slice_set n.scalars slot v) j) (pos 0) ≡ unwrap_or (slice_get (slice_set s.scalars slot v) j) (pos 0)
        at_scalar j r (inl same) = subst (λ i. unwrap_or (slice_get (slice_set n.scalars slot v) i) (pos 0) ≡ unwrap_or (slice_get (slice_set s.scalars slot v) i) (pos 0)) (sym same) both
        at_scalar j r (inr other) =
            ap (λ o. unwrap_or o (pos 0)) (set_other n.scalars slot j v other.0)
            ∙ g.scalars j r other.1
            ∙ sym (ap (λ o. unwrap_or o (pos 0)) (set_other s.scalars slot j v other.0))

  -- ---- an array

  module _ (array : ℕ) (row whole_row new new_whole : List ℤ) (at : slice_get n.arrays array ≡ Some row) (there : slice_get s.arrays array ≡ Some whole_row)
      (long : length new ≡ length row) (whole : IsWhole p (record s1 { arrays = slice_set s.arrays array new_whole })) where
    abbrev pub t : State Notes
    t = record s1 { arrays = slice_set s.arrays array new_whole }

    abbrev pub m : Alone
    m = record n { arrays = slice_set n.arrays array new }

    lengths_stay : map length (slice_set n.arrays array new) ≡ map length n.arrays
    lengths_stay = set_lengths n.arrays array row new at long

    here : row_in (slice_set n.arrays array new) array ≡ new
    here = set_row_here n.arrays array row new at

    here_whole : row_in (slice_set s.arrays array new_whole) array ≡ new_whole
    here_whole = set_row_here s.arrays array whole_row new_whole there

    -- an array without align
    pub copy_agrees : home_of p array ≡ home.Copy → (stale (array_object array) ≡ false → new ≡ new_whole) → Agrees (at_main p k) stale t m
    copy_agrees is_copy same = record {
      whole = whole;
      packed = record { scalars = g.packed.scalars; rows = lengths_stay ∙ g.packed.rows; no_coarrays = g.packed.no_coarrays };
      typed = g.typed;
      scalars = g.scalars;
      indices = λ j e. cc;
      sums = λ j op e. cc;
      copies = λ b e f. at_copy b e f (tell array b);
      owned = λ b u q e cell i o.
          ap (λ r. word_at r (position (home.Spread u q) (extents p b) k cell)) (set_row_other n.arrays array b new (apart b u q e))
          ∙ g.owned b u q e cell i o
          ∙ ap (λ r. word_at r (row_major (extents p b) cell)) (sym (set_row_other s.arrays array b new_whole (apart b u q e)));
      shadows = λ b u q cell e i h o.
          ap (λ r. word_at r (position (home.Spread u q) (extents p b) k cell)) (set_row_other n.arrays array b new (apart b u q e))
          ∙ g.shadows b u q cell e i h o
          ∙ sym (copied_stays s.extra.exchanges x none b (row_major (extents p b) cell));
      current = λ b u q e f w number.
          copied_stays s.extra.exchanges x none b number
          ∙ g.current b u q e f w number
          ∙ ap (λ r. word_at r number) (sym (set_row_other s.arrays array b new_whole (apart b u q e)));
      point = λ d e. cc;
      steps = g.steps;
      out = g.out;
      taken = g.taken;
    }
      where
        no_copy : (u : ℕ) (q : ArrayMap) → home.Copy ≡ home.Spread u q → ⊥
        no_copy u q e = cc

        apart : (b u : ℕ) (q : ArrayMap) → home_of p b ≡ home.Spread u q → array ≢ b
        apart b u q e f = no_copy u q (sym is_copy ∙ ap (home_of p) f ∙ e)

        at_copy : (b : ℕ) → home_of p b ≡ home.Copy → stale (array_object b) ≡ false → same_or_other array b
            → row_in (slice_set n.arrays array new) b ≡ row_in (slice_set s.arrays array new_whole) b
        at_copy b e f (inl eq) =
            subst (λ c. row_in (slice_set n.arrays array new) c ≡ row_in (slice_set s.arrays array new_whole) c) eq
            (here ∙ same (ap (λ c. stale (array_object c)) eq ∙ f) ∙ sym here_whole)
        at_copy b e f (inr ne) =
            set_row_other n.arrays array b new ne.0 ∙ g.copies b e f ∙ sym (set_row_other s.arrays array b new_whole ne.0)

    -- a distributed array
    abbrev pub spread_marks : List Event
    spread_marks = Mark (array_object array) 0 (all_nodes p) ∷ []

    pub spread_agrees : (u : ℕ) (q : ArrayMap) → home_of p array ≡ home.Spread u q
        → Shows (extents p array) (owns_cell (home.Spread u q) k) (position (home.Spread u q) (extents p array) k) new new_whole
        → ((cell : List ℕ) → IsInside cell (extents p array) → holds_cell (home.Spread u q) k cell ≡ true → owns_cell (home.Spread u q) k cell ≡ false
        → word_at new (position (home.Spread u q) (extents p array) k cell) ≡ word_at row (position (home.Spread u q) (extents p array) k cell))
        → Agrees (at_main p k) (left k spread_marks stale) t m
    spread_agrees u q is_spread shows stays = record {
      whole = whole;
      packed = record { scalars = g.packed.scalars; rows = lengths_stay ∙ g.packed.rows; no_coarrays = g.packed.no_coarrays };
      typed = g.typed;
      scalars = λ j r e. g.scalars j r (sym (scalar_same j) ∙ e);
      indices = λ j e. cc;
      sums = λ j op e. cc;
      copies = λ b e f. set_row_other n.arrays array b new (no_copy b e) ∙ g.copies b e (sym (other_same b (no_copy b e)) ∙ f) ∙ sym (set_row_other s.arrays array b new_whole (no_copy b e));
      owned = λ b v r e. at_owned b v r e (tell array b);
      shadows = λ b v r cell e i h o. at_shadow b v r e cell i h o (tell array b);
      current = λ b v r e f w number. at_current b v r e f w number (tell array b);
      point = λ d e. cc;
      steps = g.steps;
      out = g.out;
      taken = g.taken;
    }
      where
        spread_copy : (h : Home) → h ≡ home.Spread u q → h ≡ home.Copy → ⊥
        spread_copy h a b = cc

        no_copy : (b : ℕ) → home_of p b ≡ home.Copy → array ≢ b
        no_copy b e f = spread_copy (home_of p b) (ap (home_of p) (sym f) ∙ is_spread) e

        scalar_same : (j : ℕ) → left k spread_marks stale (scalar_object j) ≡ stale (scalar_object j)
        scalar_same j = untouched k (scalar_object j) (array_object array) 0 (all_nodes p) (ne_eqb (array_object array) (scalar_object j) (λ e. odd array j e)) (stale (scalar_object j))

        other_same : (b : ℕ) → array ≢ b → left k spread_marks stale (array_object b) ≡ stale (array_object b)
        other_same b ne = untouched k (array_object b) (array_object array) 0 (all_nodes p) (ne_eqb (array_object array) (array_object b) (λ e. ne (odd_halves array b e))) (stale (array_object b))

        shown_here : Shows (extents p array) (owns_cell (home.Spread u q) k) (position (home.Spread u q) (extents p array) k) (row_in (slice_set n.arrays array new) array) (row_in (slice_set s.arrays array new_whole) array)
        shown_here cell i o =
            ap (λ r. word_at r (position (home.Spread u q) (extents p array) k cell)) here
            ∙ shows cell i o
            ∙ ap (λ r. word_at r (row_major (extents p array) cell)) (sym here_whole)

        at_owned : (b v : ℕ) (r : ArrayMap) → home_of p b ≡ home.Spread v r → same_or_other array b
            → Shows (extents p b) (owns_cell (home.Spread v r) k) (position (home.Spread v r) (extents p b) k) (row_in (slice_set n.arrays array new) b) (row_in (slice_set s.arrays array new_whole) b)
        at_owned b v r e (inl eq) cell i o =
            subst (λ (h : Home). Shows (extents p b) (owns_cell h k) (position h (extents p b) k) (row_in (slice_set n.arrays array new) b) (row_in (slice_set s.arrays array new_whole) b)) (sym is_spread ∙ ap (home_of p) eq ∙ e)
            (subst (λ c. Shows (extents p c) (owns_cell (home.Spread u q) k) (position (home.Spread u q) (extents p c) k) (row_in (slice_set n.arrays array new) c) (row_in (slice_set s.arrays array new_whole) c)) eq shown_here)
            cell i o
        at_owned b v r e (inr ne) cell i o =
            ap (λ l. word_at l (position (home.Spread v r) (extents p b) k cell)) (set_row_other n.arrays array b new ne.0)
            ∙ g.owned b v r e cell i o
            ∙ ap (λ l. word_at l (row_major (extents p b) cell)) (sym (set_row_other s.arrays array b new_whole ne.0))

        at_shadow : (b v : ℕ) (r : ArrayMap) → home_of p b ≡ home.Spread v r → (cell : List ℕ) → IsInside cell (extents p b)
            → holds_cell (home.Spread v r) k cell ≡ true → owns_cell (home.Spread v r) k cell ≡ false → same_or_other array b
            → word_at (row_in (slice_set n.arrays array new) b) (position (home.Spread v r) (extents p b) k cell) ≡ copied (s.extra.exchanges ++ x ∷ []) b (row_major (extents p b) cell)
        at_shadow b v r e cell i h o (inl eq) =
            stays_at b eq (home.Spread v r) (sym is_spread ∙ ap (home_of p) eq ∙ e) cell i h o
            ∙ g.shadows b v r cell e i h o
            ∙ sym (copied_stays s.extra.exchanges x none b (row_major (extents p b) cell))
          where
            stays_here : (cell : List ℕ) → IsInside cell (extents p array) → holds_cell (home.Spread u q) k cell ≡ true → owns_cell (home.Spread u q) k cell ≡ false
                → word_at (row_in (slice_set n.arrays array new) array) (position (home.Spread u q) (extents p array) k cell) ≡ word_at (row_in n.arrays array) (position (home.Spread u q) (extents p array) k cell)
            stays_here cell i h o =
                ap (λ l. word_at l (position (home.Spread u q) (extents p array) k cell)) here
                ∙ stays cell i h o
                ∙ ap (λ l. word_at l (position (home.Spread u q) (extents p array) k cell)) (sym (row_read n.arrays array row at))

            stays_at : (b : ℕ) → array ≡ b → (h : Home) → home.Spread u q ≡ h → (cell : List ℕ) → IsInside cell (extents p b) → holds_cell h k cell ≡ true → owns_cell h k cell ≡ false
                → word_at (row_in (slice_set n.arrays array new) b) (position h (extents p b) k cell) ≡ word_at (row_in n.arrays b) (position h (extents p b) k cell)
            stays_at b eq h f =
                subst (λ (h : Home). (cell : List ℕ) → IsInside cell (extents p b) → holds_cell h k cell ≡ true → owns_cell h k cell ≡ false
                → word_at (row_in (slice_set n.arrays array new) b) (position h (extents p b) k cell) ≡ word_at (row_in n.arrays b) (position h (extents p b) k cell)) f
                (subst (λ c. (cell : List ℕ) → IsInside cell (extents p c) → holds_cell (home.Spread u q) k cell ≡ true → owns_cell (home.Spread u q) k cell ≡ false
                → word_at (row_in (slice_set n.arrays array new) c) (position (home.Spread u q) (extents p c) k cell) ≡ word_at (row_in n.arrays c) (position (home.Spread u q) (extents p c) k cell)) eq stays_here)
        at_shadow b v r e cell i h o (inr ne) =
            ap (λ l. word_at l (position (home.Spread v r) (extents p b) k cell)) (set_row_other n.arrays array b new ne.0)
            ∙ g.shadows b v r cell e i h o
            ∙ sym (copied_stays s.extra.exchanges x none b (row_major (extents p b) cell))

        no_both : (c : Bool) → c ≡ true → c ≡ false → ⊥
        no_both true a b = cc
        no_both false a b = cc

        at_current : (b v : ℕ) (r : ArrayMap) → home_of p b ≡ home.Spread v r → left k spread_marks stale (array_object b) ≡ false → (outermost p).written b ≡ false
            → (number : ℕ) → same_or_other array b → copied (s.extra.exchanges ++ x ∷ []) b number ≡ word_at (row_in (slice_set s.arrays array new_whole) b) number
        at_current b v r e f w number (inl eq) =
            absurd (no_both (left k spread_marks stale (array_object b))
            (ap (λ c. left k spread_marks stale (array_object c)) (sym eq) ∙ staled p k (array_object array) below (stale (array_object array))) f)
        at_current b v r e f w number (inr ne) =
            copied_stays s.extra.exchanges x none b number
            ∙ g.current b v r e (sym (other_same b ne.0) ∙ f) w number
            ∙ ap (λ l. word_at l number) (sym (set_row_other s.arrays array b new_whole ne.0))
