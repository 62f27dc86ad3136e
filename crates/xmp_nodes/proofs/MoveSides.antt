-- The sides of a gmove: their rows on a node, and what each node gives of the source.
use Rattle.std.proofs.Common.{◌≡◌, ◌<◌, ◌≤◌, ◌*◌, if◌then◌else◌, ℕ, ℤ, pos, Bool, true, false, List, [], ◌∷◌, length, Option, Some, None, option_map, refl, sym, ap, subst, ◌∙◌, arith, ext_get_or}
use Rattle.std.specs.Prelude.{slice_get}
use Rattle.std.proofs.lemmas.Bool.{eqb-true}
use Rattle.xmp_map.specs.RowMajor.{product, row_major, unravel}
use Rattle.xmp_map.specs.Boxes.{IsInside}
use Rattle.xmp_map.proofs.Order.{row_major-unravel, unravel_below, below_inside}
use Rattle.xmp_prog.specs.declared.parts.ProgParts.{ProgParts}
use Rattle.xmp_prog.specs.declared.parts.Array.{Array}
use Rattle.xmp_prog.specs.declared.parts.Home.{Home}
use Rattle.xmp_prog.specs.declared.parts.Home.TheVariants as home
use Rattle.xmp_prog.specs.declared.statements.Name.{Name}
use Rattle.xmp_prog.specs.declared.statements.Part.{Part}
use Rattle.xmp_prog.specs.declared.statements.MoveSide.{MoveSide}
use Rattle.xmp_prog.specs.declared.statements.MoveSide.TheVariants as side
use Rattle.xmp_prog.specs.Fits.{node_count}
use Rattle.xmp_prog.specs.Tests.{is_image}
use Rattle.xmp_prog.specs.Directives.{side_fits, parts_fit}
use Rattle.xmp_paths.specs.NodeSets.{has}
use Rattle.xmp_paths.specs.declared.event.Event.TheVariants.{Read}
use Rattle.xmp_paths.specs.Plans.{emit}
use Rattle.xmp_paths.specs.Safe.{Safe}
use Rattle.xmp_paths.proofs.SafeLaws.{safe_read}
use Rattle.xmp_loops.specs.Objects.{scalar_object, array_object, all_nodes}
use Rattle.xmp_flow.specs.Elements.{home_of as home_in}
use Rattle.xmp_flow.specs.PlainEvents.{source_at, source_events}
use Rattle.xmp_flow.specs.Program.{outermost}
use Rattle.xmp_meaning.specs.Cells.{row_in}
use Rattle.xmp_meaning.specs.Runs.{State}
use Rattle.xmp_meaning.specs.Declarations.{extents, home_of}
use Rattle.xmp_meaning.specs.Layouts.{Packed, Whole, words_of, row_length}
use Rattle.xmp_meaning.specs.Exchanges.{Notes}
use Rattle.xmp_meaning.specs.TrafficLaws.{IsNodeState}
use Rattle.xmp_move.specs.Sides.{gives_cell, position}
use Rattle.xmp_move.specs.Stores.{word_at}
use Rattle.xmp_move.specs.Whole.{Shows}
use Rattle.xmp_move.specs.Assigned.{IsArray}
use Rattle.xmp_nodes.specs.Rows.{home_of_side, extents_of_side}
use Rattle.xmp_nodes.proofs.Agrees.{IsWhole, Agrees, at_main}
use Rattle.xmp_nodes.proofs.Standing.{IsGlobal}
use Rattle.xmp_nodes.proofs.Each.{Alone}
use Rattle.xmp_nodes.proofs.Words.{words_of_side}
use Rattle.xmp_nodes.proofs.Stillness.{Quiet, quiet_skip, quiet_read}
use Rattle.xmp_nodes.proofs.PackedRows.{row_there, row_read, home_there, extents_there, spread_array, all_at}

-- ---- arrays of a program

parts_there : (o : Option Array) (parts : List Part) → parts_fit o parts ≡ true → (a : Array) × (o ≡ Some a)
parts_there None parts e = cc
parts_there (Some a) parts e = (a, refl)

pub array_of_side : (p : ProgParts) (name : Name) (parts : List Part) → side_fits p (side.Array name parts) ≡ true → (a : Array) × (slice_get p.arrays name.number ≡ Some a)
array_of_side p name parts e = parts_there (slice_get p.arrays name.number) parts e

at_home : (p : ProgParts) → IsGlobal p → (array : ℕ) (h : Home) → home_of p array ≡ h → IsArray h (extents p array) (node_count p)
at_home p global array (home.Spread t m) e = let s = spread_array p global array t m e in record { code = s.three; map = s.fits; over = s.nodes }
at_home p global array home.Copy e = record { code = tt; map = tt; over = tt }
at_home p global array home.Image e = record { code = tt; map = tt; over = tt }

pub is_array : (p : ProgParts) → IsGlobal p → (m : MoveSide) → IsArray (home_of_side p m) (extents_of_side p m) (node_count p)
is_array p global (side.Scalar name) = record { code = tt; map = tt; over = tt }
is_array p global (side.Array name parts) = at_home p global name.number (home_of p name.number) refl

-- ---- the row of an array on a node

one_times : (n : ℕ) → 1 * n ≡ n
one_times n = omega arith

enough_words : (h : Home) (node count n : ℕ) → is_image h ≡ false → words_of (Packed node) h n ≡ words_of (Packed node) h ((if is_image h then count else 1) * n)
enough_words (home.Spread t m) node count n e = refl
enough_words home.Copy node count n e = sym (one_times n)
enough_words home.Image node count n e = cc

pub record ArrayRow (p : ProgParts) (node array : ℕ) (n : Alone) : Type 0 where
  pub row : List ℤ
  pub at : slice_get n.arrays array ≡ Some row
  pub is : row_in n.arrays array ≡ row
  pub long : length row ≡ words_of (Packed node) (home_of p array) (product (extents p array))

pub array_row : (p : ProgParts) (node array : ℕ) (a : Array) (n : Alone) → slice_get p.arrays array ≡ Some a → IsNodeState p node n → ArrayRow p node array n
array_row p node array a n there packed =
    let r = row_there (row_length (Packed node) p) n.arrays p.arrays packed.rows array a there in
    let image : is_image a.home ≡ false = all_at (λ (a : Array). is_image a.home ≡ false) p.arrays packed.no_coarrays array a there in
    record {
      row = r.0;
      at = r.1;
      is = row_read n.arrays array r.0 r.1;
      long = r.2 ∙ sym (enough_words a.home node (node_count p) (product a.extents) image)
          ∙ ap (λ (h : Home). words_of (Packed node) h (product a.extents)) (sym (home_there p array a there))
          ∙ ap (λ es. words_of (Packed node) (home_of p array) (product es)) (sym (extents_there p array a there));
    }

-- a side has as many words as a node keeps of it
one_word : product [] ≡ 1
unfolding product
one_word = refl

pub side_long : (p : ProgParts) (node : ℕ) (m : MoveSide) (n : Alone) → side_fits p m ≡ true → IsNodeState p node n
    → words_of (Packed node) (home_of_side p m) (product (extents_of_side p m)) ≤ length (words_of_side m n)
side_long p node (side.Scalar name) n fits packed = let e = one_word in omega (arith, e)
side_long p node (side.Array name parts) n fits packed =
    let a = array_of_side p name parts fits in
    let r = array_row p node name.number a.0 n a.1 packed in
    let l = r.long in
    let e : length (row_in n.arrays name.number) ≡ length r.row = ap length r.is in
    omega (arith, l, e)

-- the serial row of an array that is no coarray
pub record SerialRow (p : ProgParts) (array : ℕ) (s : State Notes) : Type 0 where
  pub row : List ℤ
  pub at : slice_get s.arrays array ≡ Some row
  pub is : row_in s.arrays array ≡ row
  pub long : length row ≡ product (extents p array)

once : (h : Home) (count n : ℕ) → is_image h ≡ false → (if is_image h then count else 1) * n ≡ n
once (home.Spread t m) count n e = one_times n
once home.Copy count n e = one_times n
once home.Image count n e = cc

pub serial_row : (p : ProgParts) (array : ℕ) (a : Array) (s : State Notes) → slice_get p.arrays array ≡ Some a → is_image a.home ≡ false → IsWhole p s → SerialRow p array s
serial_row p array a s there image whole =
    let r = row_there (row_length Whole p) s.arrays p.arrays whole.rows array a there in
    record {
      row = r.0;
      at = r.1;
      is = row_read s.arrays array r.0 r.1;
      long = r.2 ∙ once a.home (node_count p) (product a.extents) image ∙ ap product (sym (extents_there p array a there));
    }

pub no_image : {X : Type 0} (p : ProgParts) (node array : ℕ) (a : Array) (n : State X) → slice_get p.arrays array ≡ Some a → IsNodeState p node n → is_image a.home ≡ false
no_image p node array a n there packed = all_at (λ (a : Array). is_image a.home ≡ false) p.arrays packed.no_coarrays array a there

-- rows that show the same array whole are one
pub whole_rows : (es : List ℕ) (row other : List ℤ) → length row ≡ product es → length other ≡ product es
    → ((cell : List ℕ) → IsInside cell es → word_at row (row_major es cell) ≡ word_at other (row_major es cell)) → row ≡ other
whole_rows es row other l k same =
    ext_get_or (pos 0) row other (l ∙ sym k) (λ n lt.
    let below : n < product es = omega (arith, lt, l) in
    let back : row_major es (unravel es n) ≡ n = row_major-unravel es n below in
    subst (λ j. word_at row j ≡ word_at other j) back (same (unravel es n) (below_inside (unravel es n) es (unravel_below es n below))))

-- ---- the source

not_true : (b : Bool) → (b ≡ true → ⊥) → b ≡ false
not_true true h = absurd (h refl)
not_true false h = refl

pub home_in_is : (p : ProgParts) (array : ℕ) (a : Array) → slice_get p.arrays array ≡ Some a → home_in (outermost p) array ≡ Some (home_of p array)
home_in_is p array a e = ap (option_map (λ (a : Array). a.home)) e ∙ ap Some (sym (home_there p array a e))

module _ (p : ProgParts) (k : ℕ) (member : has (all_nodes p) k ≡ true) where
  quiet_source : (name : Name) (h : Home) → Quiet k (source_at (outermost p) name (Some h))
  quiet_source name (home.Spread t m) = quiet_skip k
  quiet_source name home.Copy = quiet_read k (array_object name.number) (all_nodes p) 1 name.at
  quiet_source name home.Image = quiet_skip k

  pub source_quiet : (m : MoveSide) → side_fits p m ≡ true → Quiet k (source_events (outermost p) m)
  source_quiet (side.Scalar name) fits = quiet_read k (scalar_object name.number) (all_nodes p) 1 name.at
  source_quiet (side.Array name parts) fits =
      let a = array_of_side p name parts fits in
      subst (λ o. Quiet k (source_at (outermost p) name o)) (sym (home_in_is p name.number a.0 a.1)) (quiet_source name (home_of p name.number))

  -- a source that isn't distributed is current at each node
  pub source_current : (m : MoveSide) → side_fits p m ≡ true → home_of_side p m ≡ home.Copy → (stale : ℕ → Bool) (s : State Notes) (n : Alone)
      → Safe k (source_events (outermost p) m) stale → Agrees (at_main p k) stale s n → words_of_side m n ≡ words_of_side m s
  source_current (side.Scalar name) fits e stale s n safe g =
      ap (λ v. v ∷ []) (g.scalars name.number refl (not_true (stale (scalar_object name.number)) (safe_read k (scalar_object name.number) (all_nodes p) 1 name.at stale safe member)))
  source_current (side.Array name parts) fits e stale s n safe g =
      let a = array_of_side p name parts fits in
      let reads : Safe k (emit (Read (array_object name.number) (all_nodes p) 1 name.at)) stale =
      subst (λ o. Safe k (source_at (outermost p) name o) stale) (home_in_is p name.number a.0 a.1 ∙ ap Some e) safe in
      g.copies name.number e (not_true (stale (array_object name.number)) (safe_read k (array_object name.number) (all_nodes p) 1 name.at stale reads member))

-- a node that gives a cell of the source shows the serial one there
given_shows : (p : ProgParts) (array : ℕ) (h : Home) → home_of p array ≡ h → (giver k : ℕ) (stale stale' : ℕ → Bool) (s : State Notes) (n own : Alone)
    → Agrees (at_main p giver) stale s n → (giver ≡ k → n ≡ own) → (h ≡ home.Copy → row_in own.arrays array ≡ row_in s.arrays array) → is_image h ≡ false
    → Shows (extents p array) (gives_cell h giver k) (position h (extents p array) giver) (row_in n.arrays array) (row_in s.arrays array)
given_shows p array (home.Spread t m) e giver k stale stale' s n own g same current image cell inside gives = g.owned array t m e cell inside gives
given_shows p array home.Copy e giver k stale stale' s n own g same current image cell inside gives =
    ap (λ (r : List ℤ). word_at r (row_major (extents p array) cell)) (ap (λ (u : Alone). row_in u.arrays array) (same (eqb-true giver k gives)) ∙ current refl)
given_shows p array home.Image e giver k stale stale' s n own g same current image cell inside gives = cc

pub source_shows : (p : ProgParts) (m : MoveSide) → side_fits p m ≡ true → (giver k : ℕ) (stale : ℕ → Bool) (s : State Notes) (n own : Alone)
    → Agrees (at_main p giver) stale s n → (giver ≡ k → n ≡ own) → (home_of_side p m ≡ home.Copy → words_of_side m own ≡ words_of_side m s)
    → Shows (extents_of_side p m) (gives_cell (home_of_side p m) giver k) (position (home_of_side p m) (extents_of_side p m) giver) (words_of_side m n) (words_of_side m s)
source_shows p (side.Scalar name) fits giver k stale s n own g same current cell inside gives =
    ap (λ r. word_at r (row_major [] cell)) (ap (words_of_side (side.Scalar name)) (same (eqb-true giver k gives)) ∙ current refl)
source_shows p (side.Array name parts) fits giver k stale s n own g same current cell inside gives =
    let a = array_of_side p name parts fits in
    given_shows p name.number (home_of p name.number) refl giver k stale stale s n own g same current
    (ap is_image (home_there p name.number a.0 a.1) ∙ no_image p giver name.number a.0 n a.1 g.packed) cell inside gives
