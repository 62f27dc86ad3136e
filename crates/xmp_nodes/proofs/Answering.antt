-- A world that stands for a program answers as the program does.
use Rattle.std.proofs.Common.{◌≡◌, ◌<◌, ◌+◌, ◌*◌, ◌++◌, ◌⊎◌, inl, inr, if◌then◌else◌, ℕ, zero, suc, ℤ, Bool, true, false, true≢false, List, [], ◌∷◌, map, length, Some, None, refl, sym, subst, ap, ◌∙◌, arith}
use Rattle.std.specs.Prelude.{slice_get, unwrap_or}
use Rattle.std.specs.List.{AllByRecursion, range_with_len}
use Rattle.std.proofs.lemmas.List.{length-map}
use Rattle.xmp_map.specs.declared.array_map.ArrayMap.{ArrayMap}
use Rattle.xmp_map.specs.RowMajor.{product, row_major, unravel}
use Rattle.xmp_map.specs.Boxes.{IsInside}
use Rattle.xmp_map.proofs.Order.{AllBelow, none_below, more_below, unravel_below, row_major-unravel}
use Rattle.xmp_prog.specs.declared.parts.Array.{Array}
use Rattle.xmp_prog.specs.declared.parts.Home.{Home}
use Rattle.xmp_prog.specs.declared.parts.Home.TheVariants as home
use Rattle.xmp_prog.specs.declared.parts.ProgParts.{ProgParts}
use Rattle.xmp_prog.specs.Tests.{is_image}
use Rattle.xmp_prog.specs.Fits.{node_count}
use Rattle.xmp_meaning.specs.declared.ends.End.TheVariants.{Trapped, OutOfSteps, PhaseEnd}
use Rattle.xmp_meaning.specs.declared.ends.Flow.{Flow}
use Rattle.xmp_meaning.specs.declared.outcome.Outcome.TheVariants as outcome
use Rattle.xmp_meaning.specs.Runs.{Step, Gave, Ended, end_of, state_of}
use Rattle.xmp_meaning.specs.Cells.{row_in}
use Rattle.xmp_meaning.specs.Declarations.{extents, home_of}
use Rattle.xmp_meaning.specs.Layouts.{Whole, words_of, row_length}
use Rattle.xmp_meaning.specs.Calls.{main_context}
use Rattle.xmp_meaning.specs.Programs.{beginning, told_of, told, outcome_of, serial_end, serial}
use Rattle.xmp_meaning.specs.Stores.{base_of}
use Rattle.xmp_meaning.proofs.Preorders.{keeps, keeps_erased}
use Rattle.xmp_meaning.proofs.RelatedStatements.{keeps-program}
use Rattle.xmp_meaning.proofs.Stays.{all_any}
use Rattle.xmp_meaning_laws.specs.Laws.{SameShape}
use Rattle.xmp_meaning_laws.proofs.Shapes.{shape_respected}
use Rattle.xmp_move.specs.Sides.{owns_cell, position}
use Rattle.xmp_move.specs.Stores.{IsIn, word_at}
use Rattle.xmp_move.specs.Whole.{HasOwner}
use Rattle.xmp_move.proofs.SidesKept.{cells_are_owned}
use Rattle.xmp_nodes.specs.Worlds.{World}
use Rattle.xmp_nodes.specs.Stands.{StoresStand, StandsFor}
use Rattle.xmp_nodes.specs.Answers.{owner_among, word_on, gathered_row, gathered, answer_by, answer_of}
use Rattle.xmp_nodes.proofs.Standing.{IsGlobal}
use Rattle.xmp_nodes.proofs.Each.{there}
use Rattle.xmp_nodes.proofs.CellNumbers.{no_images}
use Rattle.xmp_nodes.proofs.PackedRows.{row_there, row_read, home_there, extents_there, IsSpreadArray, spread_array}
use Rattle.xmp_nodes.proofs.Beginning.{rows_long}
use Rattle.xmp_nodes.proofs.NeverPhase.{NoPhase, serial_never}

-- ---- lists

-- a list by its words
by_number : (f : ℕ → ℤ) (a : ℕ) (row : List ℤ) → ((n : ℕ) → n < length row → f (a + n) ≡ word_at row n) → map f (range_with_len a (length row)) ≡ row
by_number f a [] h = refl
by_number f a (v ∷ row) h =
    let z : a + 0 ≡ a = omega arith in
    (λ i. (ap f (sym z) ∙ h 0 (omega arith)) i ∷ by_number f (a + 1) row (λ n l. let m : a + 1 + n ≡ a + suc n = omega arith in ap f m ∙ h (suc n) (omega (arith, l))) i)

below_inside : (xs es : List ℕ) → AllBelow xs es → IsInside xs es
unfolding IsInside
below_inside xs es none_below = tt
below_inside xs es (more_below x e ys fs l b) = (l, below_inside ys fs b)

in_range : (a n k : ℕ) → IsIn k (range_with_len a n) → k < a + n
unfolding IsIn
in_range a zero k h = absurd h
in_range a (suc n) k (inl e) = omega (arith, e)
in_range a (suc n) k (inr h) = let l = in_range (a + 1) n k h in omega (arith, l)

-- the first owner owns the cell
record Owner (h : Home) (cell ks : List ℕ) (node : ℕ) : Type 0 where
  pub owns : owns_cell h node cell ≡ true
  pub among : IsIn node ks

among_more : (x : ℕ) (ks : List ℕ) (h : Home) (cell : List ℕ) (node : ℕ) → Owner h cell ks node → Owner h cell (x ∷ ks) node
unfolding IsIn
among_more x ks h cell node o = record { owns = o.owns; among = inr o.among }

among_first : (x : ℕ) (ks : List ℕ) (h : Home) (cell : List ℕ) → owns_cell h x cell ≡ true → Owner h cell (x ∷ ks) x
unfolding IsIn
among_first x ks h cell e = record { owns = e; among = inl refl }

owner_owns : (h : Home) (cell ks : List ℕ) (k : ℕ) → IsIn k ks → owns_cell h k cell ≡ true → Owner h cell ks (owner_among h cell ks)
unfolding IsIn
owner_owns h cell [] k i o = absurd i
owner_owns h cell (x ∷ ks) k i o = at_first (owns_cell h x cell) refl i (λ j. owner_owns h cell ks k j o)
  where
    at_first : (b : Bool) → owns_cell h x cell ≡ b → (k ≡ x) ⊎ IsIn k ks → (IsIn k ks → Owner h cell ks (owner_among h cell ks))
        → Owner h cell (x ∷ ks) (if b then x else owner_among h cell ks)
    at_first true e j rest = among_first x ks h cell e
    at_first false e (inl f) rest = absurd (true≢false (sym o ∙ (ap (λ n. owns_cell h n cell) f ∙ e)))
    at_first false e (inr j) rest = among_more x ks h cell (owner_among h cell ks) (rest j)

module _ (p : ProgParts) (global : IsGlobal p) (input : List ℕ) (steps : ℕ) (w : World) (st : StandsFor p input steps w) where
  -- ---- the shape of the serial state

  serial_rows : map length (state_of (serial_end p input steps)).arrays ≡ map (row_length Whole p) p.arrays
  serial_rows =
      let shape : SameShape (beginning Whole p steps tt) (state_of (serial_end p input steps)) =
      keeps-program (main_context p 0 input) (keeps (shape_respected (main_context p 0 input))) (keeps_erased (shape_respected (main_context p 0 input)))
      (all_any _) (all_any _) (all_any _) (beginning Whole p steps tt) in
      shape.rows ∙ rows_long Whole p p.arrays

  module _ (stand : StoresStand p input steps w) where
    -- ---- one cell

    abbrev word_by : Home → (array node : ℕ) → (cell : List ℕ) → ℤ
    word_by h array node cell = word_at (unwrap_or (slice_get w.stores node) []) (base_of p node array + position h (extents p array) node cell)

    a_cell : (array t : ℕ) (m : ArrayMap) (cell : List ℕ) → home_of p array ≡ home.Spread t m → IsInside cell (extents p array)
        → word_by (home.Spread t m) array (owner_among (home.Spread t m) cell (range_with_len 0 (node_count p))) cell
        ≡ word_at (row_in (state_of (serial_end p input steps)).arrays array) (row_major (extents p array) cell)
    a_cell array t m cell e inside =
        let of : IsSpreadArray p array t m = spread_array p global array t m e in
        let has : HasOwner (owns_cell (home.Spread t m)) (range_with_len 0 (node_count p)) cell =
        subst (λ n. HasOwner (owns_cell (home.Spread t m)) (range_with_len 0 n) cell) of.nodes (cells_are_owned t m (extents p array) cell of.three of.fits inside) in
        let own = owner_owns (home.Spread t m) cell (range_with_len 0 (node_count p)) has.owner has.among has.owns_it in
        let node : ℕ = owner_among (home.Spread t m) cell (range_with_len 0 (node_count p)) in
        let below : node < 0 + node_count p = in_range 0 (node_count p) node own.among in
        let store = there w.stores node (let l = stand.many in omega (arith, below, l)) in
        ap (λ o. word_at (unwrap_or o []) (base_of p node array + position (home.Spread t m) (extents p array) node cell)) store.1
        ∙ (stand.stores node store.0 store.1).owned array t m cell e inside own.owns

    -- ---- one row

    a_row : (array t : ℕ) (m : ArrayMap) → home_of p array ≡ home.Spread t m → gathered_row p w array ≡ row_in (state_of (serial_end p input steps)).arrays array
    a_row array t m e =
        let of : IsSpreadArray p array t m = spread_array p global array t m e in
        let r = row_there (row_length Whole p) (state_of (serial_end p input steps)).arrays p.arrays serial_rows array of.of of.at in
        let row : List ℤ = row_in (state_of (serial_end p input steps)).arrays array in
        let long : length row ≡ product (extents p array) =
        ap length (row_read (state_of (serial_end p input steps)).arrays array r.0 r.1) ∙ (r.2
        ∙ (ap (λ (h : Home). words_of Whole h ((if is_image h then node_count p else 1) * product of.of.extents)) of.lies
        ∙ (one_times (product of.of.extents) ∙ ap product (sym (extents_there p array of.of of.at))))) in
        ap (λ n. map (λ k. word_on p w array (owner_among (home_of p array) (unravel (extents p array) k) (range_with_len 0 (node_count p))) (unravel (extents p array) k)) (range_with_len 0 n)) (sym long)
        ∙ by_number (λ k. word_on p w array (owner_among (home_of p array) (unravel (extents p array) k) (range_with_len 0 (node_count p))) (unravel (extents p array) k)) 0 row (λ n l.
        let z : 0 + n ≡ n = omega arith in
        let k : n < product (extents p array) = omega (arith, l, long) in
        ap (λ x. word_on p w array (owner_among (home_of p array) (unravel (extents p array) x) (range_with_len 0 (node_count p))) (unravel (extents p array) x)) z
        ∙ (ap (λ h. word_by h array (owner_among h (unravel (extents p array) n) (range_with_len 0 (node_count p))) (unravel (extents p array) n)) e
        ∙ (a_cell array t m (unravel (extents p array) n) e (below_inside (unravel (extents p array) n) (extents p array) (unravel_below (extents p array) n k))
        ∙ ap (word_at row) (row_major-unravel (extents p array) n k))))
      where
        one_times : (n : ℕ) → 1 * n ≡ n
        one_times n = omega arith

    -- ---- what is told of all arrays

    told_same : (f : ℕ → List ℤ) (k : ℕ) (all : List Array) (rows : List (List ℤ)) → length rows ≡ length all → AllByRecursion (λ a. is_image a.home ≡ false) all
        → ((i : ℕ) (a : Array) (t : ℕ) (m : ArrayMap) → slice_get all i ≡ Some a → a.home ≡ home.Spread t m → f (k + i) ≡ row_in rows i)
        → told p all (map f (range_with_len k (length all))) ≡ told p all rows
    told_same f k [] [] l none h = refl
    told_same f k [] (row ∷ rows) l none h = absurd (omega (arith, l))
    told_same f k (a ∷ all) [] l none h = absurd (omega (arith, l))
    told_same f k (a ∷ all) (row ∷ rows) l none h =
        (λ i. of_home a.home refl i ++ told_same f (k + 1) all rows (let m : length rows ≡ length all = omega (arith, l) in m) none.1
        (λ j b t m e g. let n : k + 1 + j ≡ k + suc j = omega arith in ap f n ∙ h (suc j) b t m e g) i)
      where
        of_home : (x : Home) → a.home ≡ x → told_of p a a.home (f k) ≡ told_of p a a.home row
        of_home home.Copy e = ap (λ y. told_of p a y (f k)) e ∙ sym (ap (λ y. told_of p a y row) e)
        of_home (home.Spread t m) e = let z : k ≡ k + 0 = omega arith in ap (told_of p a a.home) (ap f z ∙ h 0 a t m refl e)
        of_home home.Image e = absurd (true≢false (sym (ap is_image e) ∙ none.0))

    all_told : told p p.arrays (gathered p w) ≡ told p p.arrays (state_of (serial_end p input steps)).arrays
    all_told =
        let l : length (state_of (serial_end p input steps)).arrays ≡ length p.arrays =
        sym (length-map (state_of (serial_end p input steps)).arrays length) ∙ (ap length serial_rows ∙ length-map p.arrays (row_length Whole p)) in
        told_same (gathered_row p w) 0 p.arrays (state_of (serial_end p input steps)).arrays l (no_images p global)
        (λ i a t m e g. let z : 0 + i ≡ i = omega arith in ap (gathered_row p w) z ∙ a_row i t m (home_there p i a e ∙ g))

  -- ---- the answer

  ended_so : (r : Step (Unit {0}) Flow) → serial_end p input steps ≡ r → NoPhase r → answer_by p w w.ended ≡ outcome_of p r
  ended_so (Gave flow s) e never =
      let none : w.ended ≡ None = st.ended ∙ ap end_of e in
      let out : w.out ≡ s.out = st.out ∙ ap (λ (x : Step (Unit {0}) Flow). (state_of x).out) e in
      let arrays : told p p.arrays (gathered p w) ≡ told p p.arrays s.arrays = all_told (st.at_end none) ∙ ap (λ (x : Step (Unit {0}) Flow). told p p.arrays (state_of x).arrays) e in
      ap (answer_by p w) none ∙ (λ i. outcome.Ended (out i) (arrays i))
  ended_so (Ended (Trapped kind at) s) e never =
      ap (answer_by p w) (st.ended ∙ ap end_of e) ∙ ap (λ o. outcome.Trapped o kind at) (st.out ∙ ap (λ (x : Step (Unit {0}) Flow). (state_of x).out) e)
  ended_so (Ended OutOfSteps s) e never =
      ap (answer_by p w) (st.ended ∙ ap end_of e) ∙ ap (λ o. outcome.OutOfSteps o) (st.out ∙ ap (λ (x : Step (Unit {0}) Flow). (state_of x).out) e)
  ended_so (Ended PhaseEnd s) e never = absurd never

  pub answers : answer_of p w ≡ serial p input steps
  answers = ended_so (serial_end p input steps) refl (serial_never p input steps)
