-- The writes of plain statements at a node, along their marks.
use Rattle.std.proofs.Common.{◌≡◌, ◌≢◌, ◌==◌, ◌&&◌, ◌||◌, not, ℕ, ℤ, pos, Bool, true, false, true≢false, List, [], ◌∷◌, Option, Some, None, refl, sym, subst, ap, ◌∙◌, if◌then◌else◌, eqb-true}
use Rattle.std.proofs.lemmas.Nat.Bits.{bit_at-zero}
use Rattle.xmp_base.specs.declared.place.Place.{Place}
use Rattle.xmp_num.specs.Arithmetic.{FitsType}
use Rattle.xmp_map.specs.declared.array_map.ArrayMap.{ArrayMap}
use Rattle.xmp_map.specs.RowMajor.{row_major}
use Rattle.xmp_map.specs.Boxes.{IsInside}
use Rattle.xmp_paths.specs.NodeSets.{has}
use Rattle.xmp_paths.specs.Plans.{Plan, emit, in_order, Path}
use Rattle.xmp_paths.specs.Walk.{after_event}
use Rattle.xmp_paths.specs.Safe.{left}
use Rattle.xmp_paths.specs.declared.event.Event.{Event}
use Rattle.xmp_paths.specs.declared.event.Event.TheVariants.{Wrong, Mark}
use Rattle.xmp_prog.specs.declared.parts.Home.TheVariants as home
use Rattle.xmp_prog.specs.declared.statements.LoopDirective.{LoopDirective}
use Rattle.xmp_loops.specs.Objects.{scalar_object}
use Rattle.xmp_loops.specs.declared.role.Role.TheVariants.{Shared, Index}
use Rattle.xmp_flow.specs.Setting.{is_reduced, wrong_where}
use Rattle.xmp_meaning.specs.declared.ends.Flow.{Flow}
use Rattle.xmp_meaning.specs.declared.ends.Flow.TheVariants.{Next}
use Rattle.xmp_meaning.specs.Cells.{write_in}
use Rattle.xmp_meaning.specs.Runs.{State, Gave}
use Rattle.xmp_meaning.specs.Declarations.{extents, home_of, scalar_type, array_type}
use Rattle.xmp_meaning.specs.Layouts.{Whole, Packed, number_of}
use Rattle.xmp_meaning.specs.Exchanges.{Notes}
use Rattle.xmp_move.specs.Sides.{owns_cell, holds_cell, position}
use Rattle.xmp_nodes.proofs.Agrees.{Stand, Agrees, Along, is_changed}
use Rattle.xmp_nodes.proofs.Standing.{IsSetting}
use Rattle.xmp_nodes.proofs.Follow.{agrees_fewer}
use Rattle.xmp_nodes.proofs.MetEvents.{EachEvent, NoMark, IsFine, each_emit, each_skip}
use Rattle.xmp_nodes.proofs.CastLaws.{untouched}
use Rattle.xmp_nodes.proofs.CellNumbers.{whole_at, packed_at}
use Rattle.xmp_nodes.proofs.PlainWrites.{with_scalar, agrees_set, set_framed, serial_put, node_put}
use Rattle.xmp_nodes.proofs.CellWrites.{agrees_put, put_framed}

-- ---- tests of rules

pub wrong_unmarked : (test : Bool) (rule : ℕ) (at : Place) → EachEvent NoMark (wrong_where test rule at)
wrong_unmarked true rule at = each_emit NoMark (Wrong rule at) tt
wrong_unmarked false rule at = each_skip NoMark

pub right_test : (node : ℕ) (stale : ℕ → Bool) (test : Bool) (rule : ℕ) (at : Place) → EachEvent (IsFine node stale) (wrong_where test rule at) → test ≡ false
right_test node stale true rule at h = absurd (h (Wrong rule at) refl)
right_test node stale false rule at h = refl

pub none_way : (test : Bool) (rule : ℕ) (at : Place) → test ≡ false → Path (wrong_where test rule at) []
none_way true rule at e = absurd (true≢false e)
none_way false rule at e = refl

-- one event, and then nothing
pub one_way : (e : Event) (rest : List (Plan Event)) → Path (in_order rest) [] → Path (in_order (emit e ∷ rest)) (e ∷ [])
one_way e rest quiet = record { front = e ∷ []; back = []; whole = refl; in_front = refl; in_back = quiet }

-- a mark without current copies makes none current
pub mark_adds : (object node target out : ℕ) (was : Bool) → after_event object node (Mark target 0 out) was ≡ false → was ≡ false
mark_adds object node target out was e = of_test (target == object) (has out node) e
  where
    off : has 0 node ≡ false
    off = ap (λ b. b == 1) (bit_at-zero node)

    of_marks : (h : Bool) (z : Bool) (was : Bool) → z ≡ false → (h || (not z && was)) ≡ false → was ≡ false
    of_marks true z was i e = absurd (true≢false e)
    of_marks false true was i e = absurd (true≢false i)
    of_marks false false was i e = e

    of_test : (t h : Bool) → (if t then (h || (not (has 0 node) && was)) else was) ≡ false → was ≡ false
    of_test true h e = of_marks h (has 0 node) was off e
    of_test false h e = e

module _ (a : Stand) (is : IsSetting a) where
  -- a scalar that a statement may write is no index
  pub not_index : (slot : ℕ) → ((d : LoopDirective) → a.set.over ≡ Some d → is_changed (a.set.roles slot) ≡ true) → a.set.roles slot ≢ Index
  not_index slot changed e = of_over a.set.over refl
    where
      of_over : (o : Option LoopDirective) → a.set.over ≡ o → ⊥
      of_over None i = let bad : Shared ≡ Index = sym (is.shared i slot) ∙ e in cc
      of_over (Some d) i = true≢false (sym (changed d i) ∙ ap is_changed e)

  -- ---- scalars

  mark_other : (slot current out object : ℕ) (was : Bool) → object ≢ scalar_object slot → after_event object a.node (Mark (scalar_object slot) current out) was ≡ was
  mark_other slot current out object was ne = untouched a.node object (scalar_object slot) current out (differs (scalar_object slot == object) refl) was
    where
      differs : (b : Bool) → (scalar_object slot == object) ≡ b → (scalar_object slot == object) ≡ false
      differs true e = absurd (ne (sym (eqb-true (scalar_object slot) object e)))
      differs false e = e

  -- both set a scalar, whose copies are marked
  pub set_along : (W : Flow → Type 0) → W Next → (current out : ℕ) (rest : List (Plan Event)) → Path (in_order rest) [] → (stale : ℕ → Bool) (s : State Notes) (n : State (Unit {0})) (slot : ℕ) (v w : ℤ) → v ≡ w
      → FitsType (scalar_type a.program slot) v → ((d : LoopDirective) → a.set.over ≡ Some d → is_changed (a.set.roles slot) ≡ true) → is_reduced (a.set.roles slot) ≡ false → Agrees a stale s n
      → Along a W (in_order (emit (Mark (scalar_object slot) current out) ∷ rest)) stale s n (Gave Next (with_scalar slot v s)) (Gave Next (with_scalar slot w n))
  set_along W next current out rest quiet stale s n slot v w same fits changed whole g = record {
    same = refl;
    value = next;
    way = Mark (scalar_object slot) current out ∷ [];
    path = one_way (Mark (scalar_object slot) current out) rest quiet;
    agrees = subst (λ z. Agrees a (left a.node (Mark (scalar_object slot) current out ∷ []) stale) (with_scalar slot v s) (with_scalar slot z n)) same
        (agrees_set a is stale (left a.node (Mark (scalar_object slot) current out ∷ []) stale) s n slot v fits (not_index slot changed) whole
        (λ object ne e. sym (mark_other slot current out object (stale object) ne) ∙ e) g);
    framed = set_framed a is s slot v changed;
  }

  -- ---- cells

  -- where a cell may be written: the node owns it
  pub record MayPut (array : ℕ) (xs : List ℕ) : Type 0 where
    pub owns : owns_cell (home_of a.program array) a.node xs ≡ true
    pub holds : holds_cell (home_of a.program array) a.node xs ≡ true
    pub written : (t : ℕ) (m : ArrayMap) → home_of a.program array ≡ home.Spread t m → a.set.written array ≡ true
    pub changed : (d : LoopDirective) → a.set.over ≡ Some d → a.set.written array ≡ true

  -- both put a value into the cell, by its two numbers, along a way that makes nothing current
  pub put_along : (there : has a.set.nodes a.node ≡ true) (W : Flow → Type 0) → W Next → (plan : Plan Event) (way : List Event) → Path plan way → (stale : ℕ → Bool)
      → ((object : ℕ) → left a.node way stale object ≡ false → stale object ≡ false) → (s : State Notes) (n : State (Unit {0})) (array : ℕ) (xs : List ℕ) (image : ℕ) → image ≡ 0
      → (inside : IsInside xs (extents a.program array)) → MayPut array xs → (x y v w : ℤ) → x ≡ number_of Whole a.program array image xs → y ≡ number_of (Packed a.node) a.program array image xs → v ≡ w
      → FitsType (array_type a.program array) v → Agrees a stale s n
      → Along a W plan stale s n (Gave Next (record s { arrays = write_in s.arrays array x v })) (Gave Next (record n { arrays = write_in n.arrays array y w }))
  put_along there W next plan way path stale fewer s n array xs image none inside may x y v w first second same fits g =
      subst (λ z. Along a W plan stale s n (Gave Next (record s { arrays = write_in s.arrays array z v })) (Gave Next (record n { arrays = write_in n.arrays array y w })))
      (sym (first ∙ (ap (λ i. number_of Whole a.program array i xs) none ∙ whole_at a.program is.global array xs inside)))
      (subst (λ z. Along a W plan stale s n (Gave Next (record s { arrays = write_in s.arrays array (pos (row_major (extents a.program array) xs)) v })) (Gave Next (record n { arrays = write_in n.arrays array z w })))
      (sym (second ∙ (ap (λ i. number_of (Packed a.node) a.program array i xs) none ∙ packed_at a.program is.global array a.node xs inside may.holds)))
      (subst (λ z. Along a W plan stale s n (Gave Next (serial_put a is s n array xs inside v)) (Gave Next (record n { arrays = write_in n.arrays array (pos (position (home_of a.program array) (extents a.program array) a.node xs)) z })))
      same
      (record {
        same = refl;
        value = next;
        way = way;
        path = path;
        agrees = agrees_fewer a stale (left a.node way stale) (serial_put a is s n array xs inside v) (node_put a is s n array xs inside v) fewer
            (agrees_put a is there s n array xs inside v fits may.owns may.holds may.written stale g);
        framed = put_framed a is there s n array xs inside v fits may.owns may.holds may.written stale g may.changed;
      })))
