-- An assignment to an element, and `scanf` into one, at a node follow the serial ones.
use Rattle.std.proofs.Common.{◌≡◌, ◌++◌, ◌||◌, not, ◌⊎◌, inl, inr, ℕ, ℤ, Bool, true, false, true≢false, List, [], ◌∷◌, map, length, Option, Some, None, refl, sym, subst, ap, ◌∙◌, if◌then◌else◌, eqb-true, append_assoc}
use Rattle.std.specs.Prelude.{is_some, slice_get, is_none}
use Rattle.std.specs.List.{AllByRecursion, list_all}
use Rattle.std.specs.Option.{option_map}
use Rattle.std.proofs.lemmas.List.{length-map}
use Rattle.std.proofs.lemmas.List.Folds.{list_all-append}
use Rattle.xmp_base.specs.declared.place.Place.{Place}
use Rattle.xmp_num.specs.Arithmetic.{wrap}
use Rattle.xmp_num.specs.Decimal.{scan_of}
use Rattle.xmp_map.specs.declared.array_map.ArrayMap.{ArrayMap}
use Rattle.xmp_map.specs.Boxes.{IsInside}
use Rattle.xmp_paths.specs.NodeSets.{has}
use Rattle.xmp_paths.specs.Plans.{Plan, skip, emit, in_order, Path}
use Rattle.xmp_paths.specs.Safe.{left, Safe, NothingWrong}
use Rattle.xmp_paths.specs.declared.event.Event.{Event}
use Rattle.xmp_paths.specs.declared.event.Event.TheVariants.{Mark, Wrong}
use Rattle.xmp_prog.specs.declared.parts.Array.{Array}
use Rattle.xmp_prog.specs.declared.parts.Home.{Home}
use Rattle.xmp_prog.specs.declared.parts.Home.TheVariants as home
use Rattle.xmp_prog.specs.declared.expressions.Expr.{Expr}
use Rattle.xmp_prog.specs.declared.expressions.Access.{Access}
use Rattle.xmp_prog.specs.declared.statements.Compound.{Compound}
use Rattle.xmp_prog.specs.declared.statements.LoopDirective.{LoopDirective}
use Rattle.xmp_prog.specs.declared.statements.Target.TheVariants as target
use Rattle.xmp_prog.specs.declared.statements.Plain.{Plain}
use Rattle.xmp_prog.specs.declared.statements.Plain.TheVariants as plain
use Rattle.xmp_prog.specs.Terms.{terms_of, terms_of_access}
use Rattle.xmp_prog.specs.Tests.{is_image}
use Rattle.xmp_prog.specs.Statements.{terms_of_plain}
use Rattle.xmp_loops.specs.Objects.{array_object}
use Rattle.xmp_flow.specs.Setting.{others, is_first_alone, wrong_where}
use Rattle.xmp_flow.specs.Reads.{reads_of, subscript_reads}
use Rattle.xmp_flow.specs.Elements as flow
use Rattle.xmp_flow.specs.Elements.{spread_events, copy_written, write_at_home, element_write, element_read}
use Rattle.xmp_flow.specs.PlainEvents.{old_element, plain_events}
use Rattle.xmp_meaning.specs.declared.location.Location.TheVariants as location
use Rattle.xmp_meaning.specs.declared.ends.Flow.{Flow}
use Rattle.xmp_meaning.specs.declared.ends.Flow.TheVariants.{Next}
use Rattle.xmp_meaning.specs.Runs.{State, Step, Gave, Ended, Run, ◌>>=◌, pure, and_then}
use Rattle.xmp_meaning.specs.Declarations.{extents, home_of, home_of_array, array_type}
use Rattle.xmp_meaning.specs.Layouts.{Whole, Packed, number_of}
use Rattle.xmp_meaning.specs.Context.{Context}
use Rattle.xmp_meaning.specs.Handlers.{erased}
use Rattle.xmp_meaning.specs.Expressions.{cell_of}
use Rattle.xmp_meaning.specs.Assignments.{new_value, store, store_read, scan}
use Rattle.xmp_meaning.specs.Statements.{plain_of}
use Rattle.xmp_meaning.specs.Exchanges.{Notes}
use Rattle.xmp_meaning.specs.Traffic.{node_context}
use Rattle.xmp_meaning_laws.specs.Laws.{calls_pass, TakesNoStep}
use Rattle.xmp_meaning_laws.specs.Agreement.{Spot, seen, SpotIn, MayBe, StepsMeet, own_image}
use Rattle.xmp_meaning_laws.proofs.CountedLoops.{both_true}
use Rattle.xmp_meaning_laws.proofs.Twins.{meet_on}
use Rattle.xmp_meaning_laws.proofs.Values.{wrap_fits}
use Rattle.xmp_move.specs.Sides.{owns_cell, holds_cell}
use Rattle.xmp_nodes.proofs.Agrees.{Stand, Agrees, Along, Carried}
use Rattle.xmp_nodes.proofs.Standing.{TermStands, IsSetting}
use Rattle.xmp_nodes.proofs.Leaves.{serial_cx, GivesNext}
use Rattle.xmp_nodes.proofs.Follow.{framed_same, agrees_fewer}
use Rattle.xmp_nodes.proofs.MetEvents.{EachEvent, EachOf, NoMark, IsFine, each_skip}
use Rattle.xmp_nodes.proofs.ReadsMark.{reads_unmarked, subscripts_unmarked, element_unmarked, spread_unmarked}
use Rattle.xmp_nodes.proofs.Readers.{Same, Any, OfOneCell}
use Rattle.xmp_nodes.proofs.CellNumbers.{not_image, not_coarray}
use Rattle.xmp_nodes.proofs.ElementCells.{known_in, maybe_inside, AllOwned, HeldIs, spread_cells}
use Rattle.xmp_nodes.proofs.NodeExpressions.{agreed, term_test, terms_test, spot_is, all_there, template_of, held_here, MayGet, Beside}
use Rattle.xmp_nodes.proofs.NodeReads.{of_element, access_good, long_of, some_of, own_of, calls, plain_steps}
use Rattle.xmp_nodes.proofs.NearSteps.{near_then, behind, fine_front, right_rest, joined_way, steps_before}
use Rattle.xmp_nodes.proofs.PlainValues.{reading, value_calls, new_cell, cell_meets}
use Rattle.xmp_nodes.proofs.PlainWrites.{agrees_taken}
use Rattle.xmp_nodes.proofs.PlainWriting.{none_way, one_way, mark_adds, MayPut, put_along}
use Rattle.xmp_nodes.proofs.PlainsCarried.{together, apart, no_more, first_node}

-- ---- what the write of an element marks

-- The front of a plan that marks nothing, and its end: the mark of an array without align, or nothing.
pub record Cut (write : Plan Event) : Type 0 where
  pub front : List (Plan Event)
  pub back : List (Plan Event)
  pub whole : front ++ back ≡ write ∷ []
  pub clear : EachOf NoMark front
  pub way : List Event
  pub path : Path (in_order back) way
  pub fewer : (node : ℕ) (stale : ℕ → Bool) (object : ℕ) → left node way stale object ≡ false → stale object ≡ false
  pub fine : (node : ℕ) (stale : ℕ → Bool) → EachOf (IsFine node stale) front → EachEvent (IsFine node stale) write

-- a part before another is a part of the whole
re_join : {X A C B : Type 0} (r : Step X A) (f : A → Run X C) (w : A → C → Run X B)
    → and_then (and_then r (λ x. f x >>= (λ v. pure (x, v)))) (λ (q : A × C). w q.0 q.1) ≡ and_then r (λ x. f x >>= (λ v. w x v))
re_join {X = X} {A = A} {C = C} {B = B} (Gave x t) f w = inner x (f x t)
  where
    inner : (x : A) (r : Step X C) → and_then (and_then r (λ v. pure (x, v))) (λ (q : A × C). w q.0 q.1) ≡ and_then r (λ v. w x v)
    inner x (Gave v u) = refl
    inner x (Ended e u) = refl
re_join {A = A} {C = C} (Ended e t) f w = refl

module _ (a : Stand) (is : IsSetting a) (there : has a.set.nodes a.node ≡ true) (input : List ℕ) where
  write_of : (e : Access) → element_write a.set e.array e.subscripts e.at ≡ write_at_home a.set e.array e.subscripts e.at (option_map (λ r. r.home) (slice_get a.program.arrays e.array))
  write_of e = ap (λ p. write_at_home a.set e.array e.subscripts e.at (option_map (λ r. r.home) (slice_get p.arrays e.array))) is.program

  -- nothing is marked but in an array without align
  cut_none : Cut skip
  cut_none = record { front = skip ∷ []; back = []; whole = refl; clear = (each_skip NoMark, tt); way = []; path = refl; fewer = λ node stale object e. e; fine = λ node stale h. each_skip (IsFine node stale) }

  cut_copy : (array : ℕ) (at : Place) (o : Option LoopDirective) → NothingWrong (copy_written a.set array at o) → Cut (copy_written a.set array at o)
  cut_copy array at None none = record {
    front = [];
    back = emit (Mark (array_object array) 0 (others a.set)) ∷ [];
    whole = refl;
    clear = tt;
    way = Mark (array_object array) 0 (others a.set) ∷ [];
    path = one_way (Mark (array_object array) 0 (others a.set)) [] refl;
    fewer = λ node stale object e. mark_adds object node (array_object array) (others a.set) (stale object) e;
    fine = λ node stale h e same. subst (IsFine node stale) same tt;
  }
  cut_copy array at (Some d) none = absurd (none 6 at refl)

  cut_home : (array : ℕ) (es : List Expr) (at : Place) (o : Option Home) → NothingWrong (write_at_home a.set array es at o) → Cut (write_at_home a.set array es at o)
  cut_home array es at None none = cut_none
  cut_home array es at (Some home.Copy) none = cut_copy array at a.set.over none
  cut_home array es at (Some (home.Spread t m)) none = record {
    front = spread_events a.set array t m es at a.set.over ∷ [];
    back = [];
    whole = refl;
    clear = (spread_unmarked a.set array t m es at a.set.over, tt);
    way = [];
    path = refl;
    fewer = λ node stale object e. e;
    fine = λ node stale h. h.0;
  }
  cut_home array es at (Some home.Image) none = cut_none

  pub cut_write : (e : Access) → NothingWrong (element_write a.set e.array e.subscripts e.at) → Cut (element_write a.set e.array e.subscripts e.at)
  cut_write e none = cut_home e.array e.subscripts e.at (flow.home_of a.set e.array) none

  -- ---- where it may be written

  module _ (stale : ℕ → Bool) (s : State Notes) (n : State (Unit {0})) (g : Agrees a stale s n) where
    abbrev pub values : List Expr → List (Option ℤ)
    values es = map (λ e. e.value) (map (seen (known_in a s)) es)

    not_spread : (array : ℕ) → home_of a.program array ≡ home.Copy → (t : ℕ) (m : ArrayMap) → home_of a.program array ≡ home.Spread t m → ⊥
    not_spread array e t m f = let bad : home.Copy ≡ home.Spread t m = sym e ∙ f in cc

    put_copy : (array : ℕ) (at : Place) (o : Option LoopDirective) → a.set.over ≡ o → home_of a.program array ≡ home.Copy → EachEvent (IsFine a.node stale) (copy_written a.set array at o) → (xs : List ℕ) → MayPut a is array xs
    put_copy array at None over e h xs = record {
      owns = ap (λ z. owns_cell z a.node xs) e;
      holds = ap (λ z. holds_cell z a.node xs) e;
      written = λ t m f. absurd (not_spread array e t m f);
      changed = λ d o. let bad : None ≡ Some d = sym over ∙ o in cc;
    }
    put_copy array at (Some d) over e h xs = absurd (h (Wrong 6 at) refl)

    put_spread : (array t : ℕ) (m : ArrayMap) (es : List Expr) (at : Place) → home_of a.program array ≡ home.Spread t m → length es ≡ length (extents a.program array)
        → ((d : LoopDirective) → a.set.over ≡ Some d → a.set.written array ≡ true) → (o : Option LoopDirective) → a.set.over ≡ o → EachEvent (IsFine a.node stale) (spread_events a.set array t m es at o)
        → (xs : List ℕ) → IsInside xs (extents a.program array) → MayBe (values es) (extents a.program array) xs → MayPut a is array xs
    put_spread array t m es at lies len changed None over h xs inside may = absurd (h (Wrong 2 at) refl)
    put_spread array t m es at lies len changed (Some d) over h xs inside may =
        of_cells (spread_cells a is s g.whole.values stale (all_there a is there input) g.point array t m es at lies (template_of a is there input array t m lies) len
        (subst (λ o. EachEvent (IsFine a.node stale) (spread_events a.set array t m es at o)) (sym over) h))
      where
        of_cells : AllOwned a is s g.whole.values stale array t m es ⊎ HeldIs a is s g.whole.values stale array t m es → MayPut a is array xs
        of_cells (inl o) = record {
          owns = subst (λ z. owns_cell z a.node xs ≡ true) (sym lies) (o xs may);
          holds = subst (λ z. holds_cell z a.node xs ≡ true) (sym lies) (held_here a is there input array t m xs lies inside (o xs may));
          written = λ u w f. changed d over;
          changed = changed;
        }
        of_cells (inr k) = absurd (true≢false (sym (changed d over) ∙ k.unwritten))

    put_home : (array : ℕ) (es : List Expr) (at : Place) → length es ≡ length (extents a.program array) → ((d : LoopDirective) → a.set.over ≡ Some d → a.set.written array ≡ true)
        → (h : Home) → home_of a.program array ≡ h → EachEvent (IsFine a.node stale) (write_at_home a.set array es at (Some h))
        → (xs : List ℕ) → IsInside xs (extents a.program array) → MayBe (values es) (extents a.program array) xs → MayPut a is array xs
    put_home array es at len changed home.Copy e h xs inside may = put_copy array at a.set.over refl e h xs
    put_home array es at len changed (home.Spread t m) e h xs inside may = put_spread array t m es at e len changed a.set.over refl h xs inside may
    put_home array es at len changed home.Image e h xs inside may = absurd (true≢false (sym (ap is_image e) ∙ not_image a.program is.global array))

    put_array : (array : ℕ) (es : List Expr) (at : Place) → length es ≡ length (extents a.program array) → is_some (slice_get a.program.arrays array) ≡ true → ((d : LoopDirective) → a.set.over ≡ Some d → a.set.written array ≡ true)
        → (o : Option Array) → slice_get a.program.arrays array ≡ o → EachEvent (IsFine a.node stale) (write_at_home a.set array es at (option_map (λ r. r.home) o))
        → (xs : List ℕ) → IsInside xs (extents a.program array) → MayBe (values es) (extents a.program array) xs → MayPut a is array xs
    put_array array es at len some changed None e h xs inside may = absurd (true≢false (sym some ∙ ap is_some e))
    put_array array es at len some changed (Some r) e h xs inside may = put_home array es at len changed r.home (ap home_of_array e) h xs inside may

    pub may_put : (e : Access) → list_all (term_test a.program) (terms_of_access a.program e) ≡ true → ((d : LoopDirective) → a.set.over ≡ Some d → a.set.written e.array ≡ true)
        → EachEvent (IsFine a.node stale) (element_write a.set e.array e.subscripts e.at) → (xs : List ℕ) → IsInside xs (extents a.program e.array) → MayBe (values e.subscripts) (extents a.program e.array) xs → MayPut a is e.array xs
    may_put e terms changed h xs inside may =
        put_array e.array e.subscripts e.at (long_of a is there input stale s n g e terms) (some_of a is there input stale s n g e terms) changed (slice_get a.program.arrays e.array) refl
        (subst (EachEvent (IsFine a.node stale)) (write_of e) h) xs inside may

    -- the cells of an element lie in its array
    pub inside_of : (e : Access) → list_all (term_test a.program) (terms_of_access a.program e) ≡ true → (xs : List ℕ) → MayBe (values e.subscripts) (extents a.program e.array) xs → IsInside xs (extents a.program e.array)
    inside_of e terms xs may =
        maybe_inside (values e.subscripts) (extents a.program e.array) xs may
        (length-map (map (seen (known_in a s)) e.subscripts) (λ e. e.value) ∙ length-map e.subscripts (seen (known_in a s)) ∙ long_of a is there input stale s n g e terms)

  -- ---- an assignment

  -- a cell by its two numbers, and one value for it
  pub record OneValue (stale : ℕ → Bool) (s : State Notes) (n : State (Unit {0})) (g : Agrees a stale s n) (e : Access) (x y : ℤ) (v w : ℤ) (t : State Notes) (m : State (Unit {0})) : Type 0 where
    pub near : Beside a is there input stale s n g (agreed a stale) t m
    pub same : v ≡ w
    pub xs : List ℕ
    pub image : ℕ
    pub none : image ≡ 0
    pub inside : IsInside xs (extents a.program e.array)
    pub may : MayBe (values stale s n g e.subscripts) (extents a.program e.array) xs
    pub number : x ≡ number_of Whole a.program e.array image xs
    pub other : y ≡ number_of (Packed a.node) a.program e.array image xs

  abbrev spot_of : (s : State Notes) → Access → Spot
  spot_of s e = record { array = e.array; subscripts = map (λ x. x.value) (map (seen (known_in a s)) e.subscripts); own = is_none e.image }

  none_of : (e : Access) (image : ℕ) → is_none e.image ≡ true → (is_none e.image ≡ true → image ≡ own_image a.program 0 e.array) → image ≡ 0
  none_of e image own h = h own ∙ ap (λ b. if b then 0 else 0) (not_coarray a.program is.global e.array)

  module _ (stale : ℕ → Bool) (s : State Notes) (n : State (Unit {0})) (g : Agrees a stale s n) (e : Access) (terms : AllByRecursion (TermStands a.program) (terms_of_access a.program e)) (subs : EachOf (IsFine a.node stale) (subscript_reads e a.set)) where
    tested : list_all (term_test a.program) (terms_of_access a.program e) ≡ true
    tested = terms_test a.program (terms_of_access a.program e) terms

    -- the element's cell, by its two numbers
    pub element_cell : StepsMeet (Beside a is there input stale s n g (agreed a stale)) (OfOneCell (reading a is there input stale s n g) (agreed a stale) (spot_of s e))
        (cell_of erased (serial_cx a.program input) e s) (cell_of erased (node_context a.program a.node input) e n)
    element_cell =
        subst (λ z. StepsMeet (Beside a is there input stale s n g (agreed a stale)) (OfOneCell (reading a is there input stale s n g) (agreed a stale) z)
        (cell_of erased (serial_cx a.program input) e s) (cell_of erased (node_context a.program a.node input) e n)) (spot_is (known_in a s) e) (cell_meets a is there input stale s n g e terms subs)

    of_cell : (x y : ℤ) (t : State Notes) (m : State (Unit {0})) → OfOneCell (reading a is there input stale s n g) (agreed a stale) (spot_of s e) x y t m → (v w : ℤ) (t' : State Notes) (m' : State (Unit {0}))
        → Beside a is there input stale s n g (agreed a stale) t' m' → v ≡ w → OneValue stale s n g e x y v w t' m'
    of_cell x y t m o v w t' m' near same = record {
      near = near;
      same = same;
      xs = o.xs;
      image = o.image;
      none = none_of e o.image (own_of a is there input stale s n g e tested) o.own;
      inside = inside_of stale s n g e tested o.xs o.may;
      may = o.may;
      number = o.number;
      other = o.other;
    }

    module _ (c : Option Compound) (value : Expr) (value_terms : AllByRecursion (TermStands a.program) (terms_of a.program value)) (reads : EachEvent (IsFine a.node stale) (reads_of value a.set))
        (old : (d : Compound) → c ≡ Some d → EachEvent (IsFine a.node stale) (element_read a.set e.array e.subscripts e.at)) where
      abbrev pairs : {X : Type 0} → Context → Run X (ℤ × ℤ)
      pairs cx = cell_of erased cx e >>= (λ x. new_value erased cx (location.Cell e.array x) c value >>= (λ v. pure (x, v)))

      pub pair_meets : StepsMeet (Beside a is there input stale s n g (agreed a stale)) (λ q r t m. OneValue stale s n g e q.0 r.0 q.1 r.1 t m)
          (pairs (serial_cx a.program input) s) (pairs (node_context a.program a.node input) n)
      pair_meets =
          meet_on (Beside a is there input stale s n g (agreed a stale)) (OfOneCell (reading a is there input stale s n g) (agreed a stale) (spot_of s e)) (λ q r t m. OneValue stale s n g e q.0 r.0 q.1 r.1 t m)
          (λ x. new_value erased (serial_cx a.program input) (location.Cell e.array x) c value >>= (λ v. pure (x, v)))
          (λ x. new_value erased (node_context a.program a.node input) (location.Cell e.array x) c value >>= (λ v. pure (x, v)))
          (cell_of erased (serial_cx a.program input) e s) (cell_of erased (node_context a.program a.node input) e n) element_cell
          (λ x y t m o.
          meet_on (Beside a is there input stale s n g (agreed a stale)) (Same (reading a is there input stale s n g) (agreed a stale) (Any (reading a is there input stale s n g))) (λ q r t m. OneValue stale s n g e q.0 r.0 q.1 r.1 t m)
          (λ v. pure (x, v)) (λ v. pure (y, v)) (new_value erased (serial_cx a.program input) (location.Cell e.array x) c value t) (new_value erased (node_context a.program a.node input) (location.Cell e.array y) c value m)
          (new_cell a is there input stale s n g (spot_of s e) x y t m c value o
          (λ d i. subst (SpotIn a.program 0 (MayGet a is there input stale)) (spot_is (known_in a s) e) (of_element a is there input stale s n g e tested (old d i))) value_terms reads t m o.agree)
          (λ v w t' m' k. of_cell x y t m o v w t' m' k.1 k.0))

  -- a value for an element, and what is done with it
  abbrev value_run : {X : Type 0} → Access → Option Compound → Expr → Context → Run X (ℤ × ℤ)
  value_run e c value cx = cell_of erased cx e >>= (λ x. new_value erased cx (location.Cell e.array x) c value >>= (λ v. pure (x, v)))

  abbrev put_run : {X : Type 0} → Context → ℕ → ℤ → ℤ → Run X Flow
  put_run cx array x v = store erased cx (location.Cell array x) v >>= (λ u. pure Next)

  -- the list of events is cut before the mark
  cut_list : (subs more front back : List (Plan Event)) (write : Plan Event) → front ++ back ≡ write ∷ [] → ((subs ++ more) ++ front) ++ back ≡ subs ++ (more ++ write ∷ [])
  cut_list subs more front back write e = append_assoc (subs ++ more) front back ∙ (ap (λ l. (subs ++ more) ++ l) e ∙ append_assoc subs more (write ∷ []))

  old_unmarked : (e : Access) (c : Option Compound) → EachEvent NoMark (old_element a.set e c)
  old_unmarked e None = each_skip NoMark
  old_unmarked e (Some d) = element_unmarked a.set e.array e.subscripts e.at

  pub put_follows : (e : Access) (c : Option Compound) (value : Expr) → AllByRecursion (TermStands a.program) (terms_of_access a.program e ++ terms_of a.program value)
      → ((d : LoopDirective) → a.set.over ≡ Some d → a.set.written e.array ≡ true)
      → NothingWrong (plain_events (plain.Set (target.Cell e) c value) a.set)
      → Carried a (GivesNext (plain.Set (target.Cell e) c value)) (plain_events (plain.Set (target.Cell e) c value) a.set)
      (plain_of erased (serial_cx a.program input) (plain.Set (target.Cell e) c value)) (plain_of erased (node_context a.program a.node input) (plain.Set (target.Cell e) c value))
  put_follows e c value terms changed none stale s n safe g =
      let q : Plain = plain.Set (target.Cell e) c value in
      let subs : List (Plan Event) = subscript_reads e a.set in
      let more : List (Plan Event) = old_element a.set e c ∷ reads_of value a.set ∷ [] in
      let write : Plan Event = element_write a.set e.array e.subscripts e.at in
      let right : NothingWrong (in_order (write ∷ [])) = right_rest (subs ++ more) (write ∷ []) (subst (λ l. NothingWrong (in_order l)) (sym (append_assoc subs more (write ∷ []))) none) in
      let cut : Cut write = cut_write e (λ rule at st. right rule at (inl st)) in
      let whole : ((subs ++ more) ++ cut.front) ++ cut.back ≡ subs ++ (more ++ write ∷ []) = cut_list subs more cut.front cut.back write cut.whole in
      let clear : EachOf NoMark ((subs ++ more) ++ cut.front) =
      together (EachEvent NoMark) (subs ++ more) cut.front (together (EachEvent NoMark) subs more (subscripts_unmarked a.set e) (old_unmarked e c, (reads_unmarked a.set value, tt))) cut.clear in
      let fine : EachOf (IsFine a.node stale) ((subs ++ more) ++ cut.front) =
      fine_front a.node ((subs ++ more) ++ cut.front) cut.back stale (subst (λ l. Safe a.node (in_order l) stale) (sym whole) safe) (subst (λ l. NothingWrong (in_order l)) (sym whole) none) clear in
      let parts : _ = apart (EachEvent (IsFine a.node stale)) (subs ++ more) cut.front fine in
      let inner : _ = apart (EachEvent (IsFine a.node stale)) subs more parts.0 in
      let both_terms : _ = apart (TermStands a.program) (terms_of_access a.program e) (terms_of a.program value) terms in
      let calls_pass_all : list_all (calls_pass (calls a is there input stale s n g)) (terms_of_plain a.program q) ≡ true =
      list_all-append (calls_pass (calls a is there input stale s n g)) (terms_of_access a.program e) (terms_of a.program value)
      ∙ both_true (list_all (calls_pass (calls a is there input stale s n g)) (terms_of_access a.program e)) (list_all (calls_pass (calls a is there input stale s n g)) (terms_of a.program value))
      (access_good a is there input stale s n g e both_terms.0 inner.0).2 (value_calls a is there input stale s n g value both_terms.1 inner.1.1.0) in
      subst (λ l. Along a (GivesNext q) (in_order l) stale s n (plain_of erased (serial_cx a.program input) q s) (plain_of erased (node_context a.program a.node input) q n)) whole
      (subst (λ z. Along a (GivesNext q) (in_order (((subs ++ more) ++ cut.front) ++ cut.back)) stale s n z (plain_of erased (node_context a.program a.node input) q n))
      (re_join (cell_of erased (serial_cx a.program input) e s) (λ x. new_value erased (serial_cx a.program input) (location.Cell e.array x) c value) (put_run (serial_cx a.program input) e.array))
      (subst (λ z. Along a (GivesNext q) (in_order (((subs ++ more) ++ cut.front) ++ cut.back)) stale s n
      (and_then (value_run e c value (serial_cx a.program input) s) (λ (r : ℤ × ℤ). put_run (serial_cx a.program input) e.array r.0 r.1)) z)
      (re_join (cell_of erased (node_context a.program a.node input) e n) (λ x. new_value erased (node_context a.program a.node input) (location.Cell e.array x) c value) (put_run (node_context a.program a.node input) e.array))
      (near_then a is there input stale s n g (GivesNext q) ((subs ++ more) ++ cut.front) cut.back clear (λ r r' t m. OneValue stale s n g e r.0 r'.0 r.1 r'.1 t m) (λ r r' t m k. k.near)
      (λ (r : ℤ × ℤ). put_run (serial_cx a.program input) e.array r.0 r.1) (λ (r : ℤ × ℤ). put_run (node_context a.program a.node input) e.array r.0 r.1)
      (value_run e c value (serial_cx a.program input) s) (value_run e c value (node_context a.program a.node input) n)
      (pair_meets stale s n g e both_terms.0 inner.0 c value both_terms.1 inner.1.1.0 (λ d i. subst (λ z. EachEvent (IsFine a.node stale) (old_element a.set e z)) i inner.1.0))
      (λ inside. steps_before s.steps (value_run e c value (serial_cx a.program input) s) (λ (r : ℤ × ℤ). put_run (serial_cx a.program input) e.array r.0 r.1) (λ v t h. h)
      (subst (TakesNoStep s.steps) (sym (re_join (cell_of erased (serial_cx a.program input) e s) (λ x. new_value erased (serial_cx a.program input) (location.Cell e.array x) c value) (put_run (serial_cx a.program input) e.array)))
      (plain_steps a is there input stale s n g q inside calls_pass_all)))
      (λ r r' t m k h. put_along a is there (GivesNext q) (λ x. refl) (in_order cut.back) cut.way cut.path stale (cut.fewer a.node stale) t m e.array k.xs k.image k.none k.inside
      (may_put stale s n g e (terms_test a.program (terms_of_access a.program e) both_terms.0) changed (cut.fine a.node stale parts.1) k.xs k.inside k.may)
      r.0 r'.0 (wrap (array_type a.program e.array) r.1) (wrap (array_type a.program e.array) r'.1) k.number k.other (ap (wrap (array_type a.program e.array)) k.same) (wrap_fits (array_type a.program e.array) r.1) h))))

  -- ---- `scanf`

  right_where : (test : Bool) (rule : ℕ) (at : Place) → NothingWrong (in_order (wrong_where test rule at ∷ [])) → test ≡ false
  right_where true rule at h = absurd (h rule at (inl refl))
  right_where false rule at h = refl

  none_rest : (test : Bool) (rule : ℕ) (at : Place) → test ≡ false → Path (in_order (wrong_where test rule at ∷ [])) []
  none_rest test rule at e = record { front = []; back = []; whole = refl; in_front = none_way test rule at e; in_back = refl }

  first_false : (x y : Bool) → (x || y) ≡ false → (x ≡ false) × (y ≡ false)
  first_false true y e = absurd (true≢false e)
  first_false false y e = (refl, e)

  un_not : (b : Bool) → not b ≡ false → b ≡ true
  un_not true e = refl
  un_not false e = absurd (true≢false e)

  read_back : (back rest : List (Plan Event)) (way : List Event) → Path (in_order back) way → Path (in_order rest) [] → Path (in_order (back ++ rest)) way
  read_back back rest way w quiet = subst (Path (in_order (back ++ rest))) (no_more way) (joined_way back rest (way ++ []) (record { front = way; back = []; whole = refl; in_front = w; in_back = quiet }))

  pub read_follows : (e : Access) (at : Place) → AllByRecursion (TermStands a.program) (terms_of_access a.program e)
      → ((d : LoopDirective) → a.set.over ≡ Some d → a.set.written e.array ≡ true) → NothingWrong (plain_events (plain.Scan (target.Cell e) at) a.set)
      → Carried a (GivesNext (plain.Scan (target.Cell e) at)) (plain_events (plain.Scan (target.Cell e) at) a.set)
      (plain_of erased (serial_cx a.program input) (plain.Scan (target.Cell e) at)) (plain_of erased (node_context a.program a.node input) (plain.Scan (target.Cell e) at))
  read_follows e at terms changed none stale s n safe g =
      let q : Plain = plain.Scan (target.Cell e) at in
      let test : Bool = is_some a.set.over || not (is_first_alone a.set) in
      let subs : List (Plan Event) = subscript_reads e a.set in
      let rest : List (Plan Event) = wrong_where test 8 at ∷ [] in
      let write : Plan Event = element_write a.set e.array e.subscripts e.at in
      let fails : test ≡ false = right_where test 8 at (right_rest (subs ++ write ∷ []) rest none) in
      let outside : _ = first_false (is_some a.set.over) (not (is_first_alone a.set)) fails in
      let first : a.node ≡ 0 = first_node a is there input (eqb-true a.set.nodes 1 (un_not (is_first_alone a.set) outside.1)) in
      let right : NothingWrong (in_order (write ∷ rest)) = right_rest subs (write ∷ rest) (subst (λ l. NothingWrong (in_order l)) (append_assoc subs (write ∷ []) rest) none) in
      let cut : Cut write = cut_write e (λ rule at st. right rule at (inl st)) in
      let whole : (subs ++ cut.front) ++ (cut.back ++ rest) ≡ (subs ++ write ∷ []) ++ rest =
      append_assoc subs cut.front (cut.back ++ rest) ∙ (ap (λ l. subs ++ l) (sym (append_assoc cut.front cut.back rest) ∙ ap (λ l. l ++ rest) cut.whole) ∙ sym (append_assoc subs (write ∷ []) rest)) in
      let clear : EachOf NoMark (subs ++ cut.front) = together (EachEvent NoMark) subs cut.front (subscripts_unmarked a.set e) cut.clear in
      let fine : EachOf (IsFine a.node stale) (subs ++ cut.front) =
      fine_front a.node (subs ++ cut.front) (cut.back ++ rest) stale (subst (λ l. Safe a.node (in_order l) stale) (sym whole) safe) (subst (λ l. NothingWrong (in_order l)) (sym whole) none) clear in
      let parts : _ = apart (EachEvent (IsFine a.node stale)) subs cut.front fine in
      let tests : list_all (term_test a.program) (terms_of_access a.program e) ≡ true = terms_test a.program (terms_of_access a.program e) terms in
      subst (λ l. Along a (GivesNext q) (in_order l) stale s n (plain_of erased (serial_cx a.program input) q s) (plain_of erased (node_context a.program a.node input) q n)) whole
      (near_then a is there input stale s n g (GivesNext q) (subs ++ cut.front) (cut.back ++ rest) clear (OfOneCell (reading a is there input stale s n g) (agreed a stale) (spot_of s e)) (λ x y t m o. o.agree)
      (λ x. scan erased (serial_cx a.program input) (location.Cell e.array x)) (λ x. scan erased (node_context a.program a.node input) (location.Cell e.array x))
      (cell_of erased (serial_cx a.program input) e s) (cell_of erased (node_context a.program a.node input) e n) (element_cell stale s n g e terms parts.0)
      (λ inside. steps_before s.steps (cell_of erased (serial_cx a.program input) e s) (λ x. scan erased (serial_cx a.program input) (location.Cell e.array x)) (λ x t h. scan_steps e.array x t s.steps h)
      (plain_steps a is there input stale s n g q inside (access_good a is there input stale s n g e terms parts.0).2))
      (λ x y t m o h.
      let r : (Option ℤ × ℕ) = scan_of (array_type a.program e.array) input t.taken in
      let none_image : o.image ≡ 0 = none_of e o.image (own_of a is there input stale s n g e tests) o.own in
      let inside : IsInside o.xs (extents a.program e.array) = inside_of stale s n g e tests o.xs o.may in
      let may : MayPut a is e.array o.xs = may_put stale s n g e tests changed (cut.fine a.node stale parts.1) o.xs inside o.may in
      subst (λ z. Along a (GivesNext q) (in_order (cut.back ++ rest)) stale t m (scan erased (serial_cx a.program input) (location.Cell e.array x) t)
      (store_read erased (node_context a.program a.node input) (location.Cell e.array y) (scan_of (array_type a.program e.array) input z).0 (record m { taken = (scan_of (array_type a.program e.array) input z).1 })))
      (sym (h.taken first))
      (behind a is there input stale t m h (GivesNext q) [] (cut.back ++ rest) (record t { taken = r.1 }) (record m { taken = r.1 }) tt
      (record { extra = refl; steps = λ e. refl; turn = λ d over. absurd (true≢false (sym (ap is_some over) ∙ outside.0)) })
      (store_read erased (serial_cx a.program input) (location.Cell e.array x) r.0 (record t { taken = r.1 })) (store_read erased (node_context a.program a.node input) (location.Cell e.array y) r.0 (record m { taken = r.1 }))
      (of_read q (λ e. refl) (in_order (cut.back ++ rest)) cut.way (read_back cut.back rest cut.way cut.path (none_rest test 8 at fails)) (cut.fewer a.node stale) o.xs o.image none_image inside may x y o.number o.other
      r.0 (record t { taken = r.1 }) (record m { taken = r.1 }) (agrees_taken a is stale t m r.1 h)))))
    where
      scan_steps : (array : ℕ) (x : ℤ) (t : State Notes) (k : ℕ) → TakesNoStep k (scan erased (serial_cx a.program input) (location.Cell array x) t) → t.steps ≡ k
      scan_steps array x t k h = of_option (scan_of (array_type a.program array) input t.taken).0 h
        where
          of_option : (o : Option ℤ) → TakesNoStep k (store_read erased (serial_cx a.program input) (location.Cell array x) o (record t { taken = (scan_of (array_type a.program array) input t.taken).1 })) → t.steps ≡ k
          of_option None h = h
          of_option (Some v) h = h

      of_read : (q : Plain) → GivesNext q Next → (plan : Plan Event) (way : List Event) → Path plan way → ((object : ℕ) → left a.node way stale object ≡ false → stale object ≡ false)
          → (xs : List ℕ) (image : ℕ) → image ≡ 0 → IsInside xs (extents a.program e.array) → MayPut a is e.array xs → (x y : ℤ) → x ≡ number_of Whole a.program e.array image xs → y ≡ number_of (Packed a.node) a.program e.array image xs
          → (o : Option ℤ) (t : State Notes) (m : State (Unit {0})) → Agrees a stale t m
          → Along a (GivesNext q) plan stale t m (store_read erased (serial_cx a.program input) (location.Cell e.array x) o t) (store_read erased (node_context a.program a.node input) (location.Cell e.array y) o m)
      of_read q next plan way path fewer xs image own inside may x y first second None t m h = record {
        same = refl;
        value = next;
        way = way;
        path = path;
        agrees = agrees_fewer a stale (left a.node way stale) t m fewer h;
        framed = framed_same a t;
      }
      of_read q next plan way path fewer xs image own inside may x y first second (Some v) t m h =
          put_along a is there (GivesNext q) next plan way path stale fewer t m e.array xs image own inside may x y (wrap (array_type a.program e.array) v) (wrap (array_type a.program e.array) v) first second refl
          (wrap_fits (array_type a.program e.array) v) h
