-- The serial state after a gmove, and each node's.
use Rattle.std.proofs.Common.{◌≡◌, ◌<◌, ◌+◌, ℕ, suc, ℤ, Bool, true, false, List, [], ◌∷◌, map, length, Some, refl, sym, ap, subst, ◌∙◌, arith}
use Rattle.std.specs.Prelude.{slice_get, slice_set}
use Rattle.xmp_num.specs.Arithmetic.{FitsType, wrap}
use Rattle.xmp_map.specs.RowMajor.{product, row_major}
use Rattle.xmp_map.specs.Boxes.{IsInside}
use Rattle.xmp_prog.specs.declared.parts.ProgParts.{ProgParts}
use Rattle.xmp_prog.specs.declared.parts.Array.{Array}
use Rattle.xmp_prog.specs.declared.parts.Home.{Home}
use Rattle.xmp_prog.specs.declared.parts.Home.TheVariants as home
use Rattle.xmp_prog.specs.declared.statements.Name.{Name}
use Rattle.xmp_prog.specs.declared.statements.Part.{Part}
use Rattle.xmp_prog.specs.declared.statements.MoveSide.{MoveSide}
use Rattle.xmp_prog.specs.declared.statements.MoveSide.TheVariants as side
use Rattle.xmp_prog.specs.Fits.{node_count}
use Rattle.xmp_prog.specs.Tests.{is_image}
use Rattle.xmp_prog.specs.Directives.{side_fits}
use Rattle.xmp_paths.specs.declared.event.Event.{Event}
use Rattle.xmp_paths.specs.Plans.{Path}
use Rattle.xmp_paths.specs.Safe.{left}
use Rattle.xmp_flow.specs.PlainEvents.{moved_at, moved}
use Rattle.xmp_flow.specs.Program.{outermost}
use Rattle.xmp_meaning.specs.declared.ends.Flow.TheVariants.{Next}
use Rattle.xmp_meaning.specs.Cells.{row_in}
use Rattle.xmp_meaning.specs.Runs.{State, Step, Gave, Run, state_of}
use Rattle.xmp_meaning.specs.Handlers.{Aim}
use Rattle.xmp_meaning.specs.Declarations.{extents, home_of, scalar_type}
use Rattle.xmp_meaning.specs.Layouts.{Packed, words_of}
use Rattle.xmp_meaning.specs.Sections.{Chosen, store_all}
use Rattle.xmp_meaning.specs.Exchanges.{Notes, Exchange, Moved, traced}
use Rattle.xmp_meaning_laws.proofs.Values.{wrap_fits}
use Rattle.xmp_move.specs.Cells.{indices, counts, cell_at, pairs_between}
use Rattle.xmp_move.specs.Sides.{owns_cell, holds_cell, position}
use Rattle.xmp_move.specs.Stores.{word_at, packed, write_all}
use Rattle.xmp_move.specs.Whole.{Shows, assigned}
use Rattle.xmp_move.specs.Meant.{aim_of}
use Rattle.xmp_move.specs.Assigned.{IsAssigned}
use Rattle.xmp_move.proofs.Writes.{length-write_all}
use Rattle.xmp_nodes.specs.Nodes.{Nodes, all_do, each_does, with_steps, led}
use Rattle.xmp_nodes.specs.Rows.{home_of_side, extents_of_side, type_of_side, with_row}
use Rattle.xmp_nodes.proofs.Agrees.{IsWhole, Agrees, at_main}
use Rattle.xmp_nodes.proofs.Standing.{IsGlobal}
use Rattle.xmp_nodes.proofs.Leaves.{serial_cx}
use Rattle.xmp_nodes.proofs.Each.{Alone}
use Rattle.xmp_nodes.proofs.Words.{words_of_side, value_word, Plainly, InSide, value_in, values_packed, stores_array}
use Rattle.xmp_nodes.proofs.Stillness.{Came, Value, Stopped, as_step}
use Rattle.xmp_nodes.proofs.CastLeaf.{noting_one}
use Rattle.xmp_nodes.proofs.CopiedLaws.{moved_copies}
use Rattle.xmp_nodes.proofs.PackedRows.{home_there}
use Rattle.xmp_nodes.proofs.MoveStates.{moved_rows, moved_scalar}
use Rattle.xmp_nodes.proofs.MoveAgrees.{scalar_marks, spread_marks, scalar_agrees, copy_agrees, spread_agrees}
use Rattle.xmp_nodes.proofs.MoveSides.{array_of_side, ArrayRow, array_row, SerialRow, serial_row, no_image, whole_rows, home_in_is}

-- ---- every node leaves its state

stores_stay : {A : Type 0} (run : ℕ → Run (Unit {0}) A) (o : Came A) (k : ℕ) (ss : List Alone)
    → ((i : ℕ) (n : Alone) → slice_get ss i ≡ Some n → run (k + i) n ≡ as_step o n) → map state_of (each_does run k ss) ≡ ss
stores_stay run o k [] h = refl
stores_stay run o k (n ∷ ss) h =
    let first : run k n ≡ as_step o n = ap (λ j. run j n) (none_more k) ∙ h 0 n refl in
    (λ i. state_of (first i) ∷ map state_of (each_does run (suc k) ss))
    ∙ ap (λ m. m ∷ map state_of (each_does run (suc k) ss)) (state_as o n)
    ∙ ap (λ l. n ∷ l) (stores_stay run o (suc k) ss (λ i m e. ap (λ j. run j m) (next_on k i) ∙ h (suc i) m e))
  where
    none_more : (k : ℕ) → k ≡ k + 0
    none_more k = omega arith

    next_on : (k i : ℕ) → suc k + i ≡ k + suc i
    next_on k i = omega arith

    state_as : {A : Type 0} (o : Came A) (n : Alone) → state_of (as_step o n) ≡ n
    state_as (Value a) n = refl
    state_as (Stopped e) n = refl

pub all_still : {A : Type 0} (none : A) (run : ℕ → Run (Unit {0}) A) (o : Came A) (w : Nodes) → 0 < length w.stores
    → ((k : ℕ) (n : Alone) → slice_get w.stores k ≡ Some n → run k n ≡ as_step o n) → all_do none run w ≡ as_step o w
all_still {A} none run o w some h = at_stores w.stores refl
  where
    same : with_steps (each_does run 0 w.stores) w ≡ w
    same = ap (λ ss. record w { stores = ss }) (stores_stay run o 0 w.stores (λ i n e. ap (λ j. run j n) (zero_add i) ∙ h i n e))
      where
        zero_add : (i : ℕ) → 0 + i ≡ i
        zero_add i = omega arith

    leads : (o : Came A) (n : Alone) (rest : List (Step (Unit {0}) A)) (v : Nodes) → led none (as_step o n ∷ rest) v ≡ as_step o v
    leads (Value a) n rest v = refl
    leads (Stopped e) n rest v = refl

    at_stores : (ss : List Alone) → w.stores ≡ ss → led none (each_does run 0 w.stores) (with_steps (each_does run 0 w.stores) w) ≡ as_step o w
    at_stores [] e = absurd (omega (arith, some, ap (λ l. length l) e))
    at_stores (n ∷ ss) e =
        ap (λ v. led none (each_does run 0 w.stores) v) same
        ∙ ap (λ l. led none (each_does run 0 l) w) e
        ∙ ap (λ q. led none (q ∷ each_does run 1 ss) w) (h 0 n (ap (λ l. slice_get l 0) e))
        ∙ leads o n (each_does run 1 ss) w

-- ---- a good gmove

pub traced_plainly : (p : ProgParts) → Plainly (traced p)
traced_plainly p = record { get = λ array at s. refl; put = λ array at v s. refl }

-- a scalar's pairs are one
no_numbers : (to : List Chosen) → length to ≡ length {A = ℕ} [] → to ≡ []
no_numbers [] e = refl
no_numbers (c ∷ to) e = absurd (omega (arith, e))

one_target : (from : List Chosen) → map (λ q. row_major [] q.0) (pairs_between [] from) ≡ 0 ∷ []
unfolding indices counts cell_at row_major
one_target from = refl

one_assigned : (conv : ℤ → ℤ) (se : List ℕ) (from : List Chosen) (source : List ℤ) (old : ℤ)
    → assigned conv [] se (pairs_between [] from) source (old ∷ []) ≡ conv (word_at source (row_major se (cell_at from []))) ∷ []
unfolding indices counts row_major write_all cell_at
one_assigned conv se from source old = refl

product_none : product [] ≡ 1
unfolding product
product_none = refl

nothing_inside : IsInside [] []
unfolding IsInside
nothing_inside = tt

row_none : (cell : List ℕ) → row_major [] cell ≡ 0
unfolding row_major
row_none cell = refl

in_side : (p : ProgParts) (m : MoveSide) (cell : List ℕ) → InSide m (row_major (extents_of_side p m) cell)
in_side p (side.Scalar name) cell = row_none cell
in_side p (side.Array name parts) cell = tt

one_item : (row : List ℤ) (v : ℤ) → length row ≡ 1 → word_at row 0 ≡ v → row ≡ v ∷ []
one_item [] v l e = absurd (omega (arith, l))
one_item (w ∷ []) v l e = ap (λ x. x ∷ []) e
one_item (w ∷ x ∷ row) v l e = absurd (omega (arith, l))

-- what the nodes and the serial run come to
abbrev pub meant : (p : ProgParts) → (target source : MoveSide) → (to from : List Chosen) → Aim
meant p target source to from = aim_of (extents_of_side p target) (extents_of_side p source) (pairs_between to from)

abbrev pub values : MoveSide → Aim → State Notes → List ℤ
values source a s = map (value_in source s) a.sources

abbrev pub exchange : (target source : MoveSide) → Aim → State Notes → Exchange
exchange target source a s = Moved target source a (values source a s)

-- a node's row is assigned, whatever array it showed before
abbrev pub RowAssigned : (p : ProgParts) → (target source : MoveSide) → (to from : List Chosen) → (k : ℕ) → State Notes → Alone → List ℤ → Type 0
RowAssigned p target source to from k s n new = (target_values : List ℤ) → length target_values ≡ product (extents_of_side p target)
    → Shows (extents_of_side p target) (owns_cell (home_of_side p target) k) (position (home_of_side p target) (extents_of_side p target) k) (words_of_side target n) target_values
    → IsAssigned (wrap (type_of_side p target)) (home_of_side p target) (extents_of_side p target) (extents_of_side p source) (pairs_between to from) k
    (position (home_of_side p target) (extents_of_side p target) k) (words_of_side source s) target_values (words_of_side target n) new

-- a node that agrees after
pub record NodeAfter (p : ProgParts) (target : MoveSide) (k : ℕ) (stale : ℕ → Bool) (t : State Notes) (m : Alone) : Type 0 where
  pub way : List Event
  pub path : Path (moved (outermost p) target) way
  pub agrees : Agrees (at_main p k) (left k way stale) t m

-- the serial state after, and each node's
pub record After (p : ProgParts) (input : List ℕ) (target source : MoveSide) (to from : List Chosen) (s : State Notes) : Type 0 where
  pub state : State Notes
  pub extra : state.extra ≡ (noting_one (exchange target source (meant p target source to from) s) s).extra
  pub serial : store_all (traced p) (serial_cx p input) target (meant p target source to from).targets (values source (meant p target source to from) s)
      (noting_one (exchange target source (meant p target source to from) s) s) ≡ Gave Next state
  pub nodes : (k : ℕ) → k < node_count p → (stale : ℕ → Bool) (n : Alone) → Agrees (at_main p k) stale s n → (new : List ℤ)
      → RowAssigned p target source to from k s n new → NodeAfter p target k stale state (with_row target new n)

values_are : (p : ProgParts) (target source : MoveSide) (to from : List Chosen) (s : State Notes)
    → values source (meant p target source to from) s ≡ packed (words_of_side source s) (meant p target source to from).sources
values_are p target source to from s = values_packed source s (λ q. row_major (extents_of_side p source) q.1) (pairs_between to from) (λ q. in_side p source q.1)

-- ---- a scalar

scalar_after : (p : ProgParts) (input : List ℕ) (name : Name) (source : MoveSide) (to from : List Chosen) (s : State Notes) → length to ≡ length {A = ℕ} []
    → (first : Alone) (stale : ℕ → Bool) → Agrees (at_main p 0) stale s first → After p input (side.Scalar name) source to from s
unfolding indices counts cell_at row_major write_all
scalar_after p input name source (c ∷ to) from s l first stale g = absurd (omega (arith, l))
scalar_after p input name source [] from s l first stale g = record {
  state = t;
  extra = refl;
  serial = refl;
  nodes = λ k below bits n h new is.
      let own : List ℤ = words_of_side (side.Scalar name) n in
      let a = is own (sym product_none) (λ cell i o. refl) in
      let single : new ≡ v ∷ [] = one_item new v a.long (ap (word_at new) (sym (row_none [])) ∙ a.whole [] nothing_inside refl ∙ same_value k) in
      record {
        way = scalar_marks p k below x (moved_copies (side.Scalar name) source (meant p (side.Scalar name) source [] from) (values source (meant p (side.Scalar name) source [] from) s)) bits s n h slot v fits whole;
        path = refl;
        agrees = subst (λ r. Agrees (at_main p k) (left k (scalar_marks p k below x (moved_copies (side.Scalar name) source (meant p (side.Scalar name) source [] from) (values source (meant p (side.Scalar name) source [] from) s)) bits s n h slot v fits whole) bits) t (with_row (side.Scalar name) r n)) (sym single)
            (scalar_agrees p k below x (moved_copies (side.Scalar name) source (meant p (side.Scalar name) source [] from) (values source (meant p (side.Scalar name) source [] from) s)) bits s n h slot v fits whole);
      };
}
  where
    slot : ℕ
    slot = name.number

    x : Exchange
    x = exchange (side.Scalar name) source (meant p (side.Scalar name) source [] from) s

    given : ℤ
    given = value_in source s (row_major (extents_of_side p source) (cell_at from []))

    v : ℤ
    v = wrap (scalar_type p slot) given

    t : State Notes
    t = record (noting_one x s) { scalars = slice_set s.scalars slot v }

    fits : FitsType (scalar_type p slot) v
    fits = wrap_fits (scalar_type p slot) given

    whole : IsWhole p t
    whole = moved_scalar p slot (noting_one x s) given (record { scalars = g.whole.scalars; rows = g.whole.rows; values = record { scalars = g.whole.values.scalars; cells = g.whole.values.cells } })

    same_value : (k : ℕ) → wrap (scalar_type p slot) (word_at (words_of_side source s) (row_major (extents_of_side p source) (cell_at from []))) ≡ v
    same_value k = ap (wrap (scalar_type p slot)) (sym (value_word source s (row_major (extents_of_side p source) (cell_at from [])) (in_side p source (cell_at from []))))

-- ---- an array

module _ (p : ProgParts) (global : IsGlobal p) (input : List ℕ) (name : Name) (parts : List Part) (source : MoveSide) (to from : List Chosen) (s : State Notes)
    (fits : side_fits p (side.Array name parts) ≡ true) (first : Alone) (stale : ℕ → Bool) (g : Agrees (at_main p 0) stale s first) where
  abbrev array : ℕ
  array = name.number

  abbrev target : MoveSide
  target = side.Array name parts

  abbrev a : Aim
  a = meant p target source to from

  abbrev x : Exchange
  x = exchange target source a s

  abbrev conv : ℤ → ℤ
  conv = wrap (type_of_side p target)

  its : (b : Array) × (slice_get p.arrays array ≡ Some b)
  its = array_of_side p name parts fits

  image_none : is_image its.0.home ≡ false
  image_none = no_image p 0 array its.0 first its.1 g.packed

  sr : SerialRow p array s
  sr = serial_row p array its.0 s its.1 image_none g.whole

  abbrev new_whole : List ℤ
  new_whole = write_all sr.row a.targets (map conv (values source a s))

  abbrev after_state : State Notes
  after_state = record (noting_one x s) { arrays = slice_set s.arrays array new_whole }

  whole_then : IsWhole p after_state
  whole_then =
      moved_rows p array (noting_one x s) (record { scalars = g.whole.scalars; rows = g.whole.rows; values = record { scalars = g.whole.values.scalars; cells = g.whole.values.cells } })
      sr.row sr.at a.targets (values source a s)

  assigned_is : assigned conv (extents p array) (extents_of_side p source) (pairs_between to from) (words_of_side source s) sr.row ≡ new_whole
  assigned_is = ap (λ vs. write_all sr.row a.targets (map conv vs)) (sym (values_are p target source to from s))

  Assigned : ℕ → Alone → List ℤ → Type 0
  Assigned k n new = RowAssigned p target source to from k s n new

  node_row : (k : ℕ) (bits : ℕ → Bool) (n : Alone) → Agrees (at_main p k) bits s n → ArrayRow p k array n
  node_row k bits n h = array_row p k array its.0 n its.1 h.packed

  at_home : (k : ℕ) (below : k < node_count p) (bits : ℕ → Bool) (n : Alone) (h : Agrees (at_main p k) bits s n) (new : List ℤ) → RowAssigned p target source to from k s n new
      → (lies : Home) → home_of p array ≡ lies → NodeAfter p target k bits after_state (with_row target new n)
  at_home k below bits n h new is (home.Spread u q) e =
      let r = node_row k bits n h in
      let target_is : home.Spread u q ≡ home_of_side p target = sym e in
      let b = is sr.row sr.long (λ cell i o.
      ap (λ (l : Home). word_at (words_of_side target n) (position l (extents p array) k cell)) e
      ∙ h.owned array u q e cell i (ap (λ (l : Home). owns_cell l k cell) (sym e) ∙ o)
      ∙ ap (λ l. word_at l (row_major (extents p array) cell)) sr.is) in
      record {
        way = spread_marks p k below x (moved_copies target source a (values source a s)) bits s n h array r.row sr.row new new_whole r.at sr.at (b.long ∙ ap length r.is) whole_then;
        path = subst (λ o. Path (moved_at (outermost p) name o) (spread_marks p k below x (moved_copies target source a (values source a s)) bits s n h array r.row sr.row new new_whole r.at sr.at (b.long ∙ ap length r.is) whole_then))
            (sym (home_in_is p array its.0 its.1 ∙ ap Some e)) refl;
        agrees = spread_agrees p k below x (moved_copies target source a (values source a s)) bits s n h array r.row sr.row new new_whole r.at sr.at (b.long ∙ ap length r.is) whole_then u q e
            (λ cell i o.
            ap (λ (l : Home). word_at new (position l (extents p array) k cell)) (sym e)
            ∙ b.whole cell i (ap (λ (l : Home). owns_cell l k cell) e ∙ o)
            ∙ ap (λ l. word_at l (row_major (extents p array) cell)) assigned_is)
            (λ cell i held o.
            ap (λ (l : Home). word_at new (position l (extents p array) k cell)) (sym e)
            ∙ b.copies cell i (ap (λ (l : Home). holds_cell l k cell) e ∙ held) (ap (λ (l : Home). owns_cell l k cell) e ∙ o)
            ∙ ap (λ (l : Home). word_at (words_of_side target n) (position l (extents p array) k cell)) e
            ∙ ap (λ l. word_at l (position (home.Spread u q) (extents p array) k cell)) r.is);
      }
  at_home k below bits n h new is home.Copy e =
      let r = node_row k bits n h in
      let own : List ℤ = row_in n.arrays array in
      let own_long : length own ≡ product (extents p array) = ap length r.is ∙ r.long ∙ ap (λ (l : Home). words_of (Packed k) l (product (extents p array))) e in
      let b = is own own_long (λ cell i o. ap (λ (l : Home). word_at own (position l (extents p array) k cell)) e) in
      record {
        way = [];
        path = subst (λ o. Path (moved_at (outermost p) name o) []) (sym (home_in_is p array its.0 its.1 ∙ ap Some e)) refl;
        agrees = copy_agrees p k below x (moved_copies target source a (values source a s)) bits s n h array r.row sr.row new new_whole r.at sr.at (b.long ∙ ap length r.is) whole_then e
            (λ current.
            let same : own ≡ sr.row = h.copies array e current ∙ sr.is in
            whole_rows (extents p array) new new_whole (b.long ∙ own_long) (length-write_all sr.row a.targets (map conv (values source a s)) ∙ sr.long)
            (λ cell i.
            ap (λ (l : Home). word_at new (position l (extents p array) k cell)) (sym e)
            ∙ b.whole cell i (ap (λ (l : Home). owns_cell l k cell) e)
            ∙ ap (λ l. word_at l (row_major (extents p array) cell))
            (ap (assigned conv (extents p array) (extents_of_side p source) (pairs_between to from) (words_of_side source s)) same ∙ assigned_is)));
      }
  at_home k below bits n h new is home.Image e = absurd (no (sym (ap is_image (sym (home_there p array its.0 its.1) ∙ e)) ∙ image_none))
    where
      no : true ≡ false → ⊥
      no e = cc

  array_after : After p input target source to from s
  array_after = record {
    state = after_state;
    extra = refl;
    serial = stores_array (traced p) (traced_plainly p) (serial_cx p input) name parts a.targets (values source a s) (noting_one x s) sr.row sr.at;
    nodes = λ k below bits n h new is. at_home k below bits n h new is (home_of p array) refl;
  }

-- whichever the target is
pub side_after : (p : ProgParts) → IsGlobal p → (input : List ℕ) (target source : MoveSide) (to from : List Chosen) (s : State Notes) → side_fits p target ≡ true
    → length to ≡ length (extents_of_side p target) → (first : Alone) (stale : ℕ → Bool) → Agrees (at_main p 0) stale s first → After p input target source to from s
side_after p global input (side.Scalar name) source to from s fits l first stale g = scalar_after p input name source to from s l first stale g
side_after p global input (side.Array name parts) source to from s fits l first stale g = array_after p global input name parts source to from s fits first stale g
