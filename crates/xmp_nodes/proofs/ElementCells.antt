-- The cells of an element that a node reads or writes where nothing is wrong: it owns them, or holds them with a current
-- shadow.
use Rattle.std.proofs.Common.{◌≡◌, ◌≤◌, ◌+◌, ◌-◌, ◌==◌, ◌&&◌, ◌⊎◌, inl, inr, ℕ, zero, suc, ℤ, pos, neg_ℤ, ◌+ℤ◌, Bool, true, false, List, [], ◌∷◌, length, map, Option, Some, None, refl, sym, subst, ap, ◌∙◌, if◌then◌else◌, arith, eqb-true}
use Rattle.std.specs.Prelude.{slice_get, int_le, replicate, unwrap_or, is_none}
use Rattle.std.specs.List.{AllByRecursion, list_all, flat_map}
use Rattle.std.proofs.lemmas.List.{length-map, length-append, length-replicate}
use Rattle.xmp_base.specs.declared.place.Place.{Place}
use Rattle.xmp_num.specs.declared.types.Ty.TheVariants.{Int}
use Rattle.xmp_num.specs.Arithmetic.{FitsType}
use Rattle.xmp_map.specs.declared.fault.MapError.TheVariants.{Align, Shadow}
use Rattle.xmp_map.specs.declared.spread_dim.SpreadDim.{SpreadDim}
use Rattle.xmp_map.specs.declared.aligned.AlignedDim.{AlignedDim}
use Rattle.xmp_map.specs.declared.array_map.ArrayMap.{ArrayMap}
use Rattle.xmp_map.specs.RowMajor.{unravel}
use Rattle.xmp_map.specs.Boxes.{IsInside}
use Rattle.xmp_map.specs.Spread.{owns_point}
use Rattle.xmp_map.specs.Align.{is_target, is_shadow, names_fit, map_fault}
use Rattle.xmp_map.specs.Held as held
use Rattle.xmp_map.proofs.Counted.{and_left, and_right}
use Rattle.xmp_paths.specs.NodeSets.{has}
use Rattle.xmp_paths.specs.Plans.{skip, emit}
use Rattle.xmp_paths.specs.declared.event.Event.TheVariants.{Read, Wrong}
use Rattle.xmp_prog.specs.declared.parts.Home.TheVariants as home
use Rattle.xmp_prog.specs.declared.expressions.Expr.{Expr}
use Rattle.xmp_prog.specs.declared.statements.LoopDirective.{LoopDirective}
use Rattle.xmp_prog.specs.declared.statements.Point.{Point}
use Rattle.xmp_prog.specs.declared.statements.Point.TheVariants as point
use Rattle.xmp_prog.specs.Directives.{dim_count}
use Rattle.xmp_prog.specs.Statements.{slots_of_point}
use Rattle.xmp_loops.specs.Objects.{array_object, all_nodes}
use Rattle.xmp_loops.specs.Offsets.{Offset, offsets_of, is_own, is_within}
use Rattle.xmp_loops.specs.declared.role.Role.{Role}
use Rattle.xmp_loops.specs.declared.role.Role.TheVariants.{Shared, Index, Reduced, Own}
use Rattle.xmp_flow.specs.Elements.{shadow_read, offset_events, spread_events}
use Rattle.xmp_meaning.specs.Runs.{State}
use Rattle.xmp_meaning.specs.Declarations.{extents, home_of, scalar_type}
use Rattle.xmp_meaning.specs.Parts.{position_at, owns_positions, owns_iteration}
use Rattle.xmp_meaning.specs.Exchanges.{Notes}
use Rattle.xmp_meaning_laws.specs.Laws.{ValuesLie, scalar_in}
use Rattle.xmp_meaning_laws.specs.Agreement.{seen, MayBe}
use Rattle.xmp_meaning_laws.proofs.Reach.{points_reach}
use Rattle.xmp_move.specs.Sides.{padded, owns_cell, holds_cell}
use Rattle.xmp_move.specs.Laid.{MapFits}
use Rattle.xmp_move.specs.Kept.{IsOfCode, HasThree}
use Rattle.xmp_nodes.proofs.Agrees.{Stand}
use Rattle.xmp_nodes.proofs.Standing.{IsSetting, IsLoopSetting}
use Rattle.xmp_nodes.proofs.MetEvents.{EachEvent, IsFine}
use Rattle.xmp_nodes.proofs.Subscripts.{all_beside}
use Rattle.xmp_nodes.proofs.CellNumbers.{item_of, code, fits_map, small_extents, padded_inside}

-- ---- what is known in an iteration: the values of the indices

abbrev pub known_by : Role → ℤ → Option ℤ
known_by Shared v = None
known_by Index v = Some v
known_by (Reduced op) v = None
known_by Own v = None

abbrev pub known_in : Stand → State Notes → ℕ → Option ℤ
known_in a s slot = known_by (a.set.roles slot) (scalar_in s slot)

pub known_is : (a : Stand) (s : State Notes) (slot : ℕ) (v : ℤ) → known_in a s slot ≡ Some v → scalar_in s slot ≡ v
known_is a s slot v e = of_role (a.set.roles slot) e
  where
    of_role : (r : Role) → known_by r (scalar_in s slot) ≡ Some v → scalar_in s slot ≡ v
    of_role Shared e = cc
    of_role Index e = cc
    of_role (Reduced op) e = cc
    of_role Own e = cc

-- ---- lists

map_tests : (dims : ℕ) (ss : List SpreadDim) (ls : List AlignedDim) → is_none (map_fault dims ss ls) ≡ true → list_all (is_target dims ss) ls ≡ true
map_tests dims ss ls h = of_tests (names_fit ls ss 0) (list_all (is_target dims ss) ls) (list_all (is_shadow ss) ls) h
  where
    of_tests : (n t s : Bool) → is_none (if n && t then (if s then None else Some Shadow) else Some Align) ≡ true → t ≡ true
    of_tests true true s h = refl
    of_tests true false s h = cc
    of_tests false t s h = cc

pub maybe_inside : (os : List (Option ℤ)) (ns xs : List ℕ) → MayBe os ns xs → length os ≡ length ns → IsInside xs ns
unfolding IsInside
maybe_inside [] [] [] m l = tt
maybe_inside [] [] (x ∷ xs) m l = cc
maybe_inside [] (n ∷ ns) xs m l = absurd (omega (arith, l))
maybe_inside (o ∷ os) [] xs m l = absurd (omega (arith, l))
maybe_inside (o ∷ os) (n ∷ ns) [] m l = absurd m
maybe_inside (o ∷ os) (n ∷ ns) (x ∷ xs) m l = (m.0, maybe_inside os ns xs m.2 (let k : length os ≡ length ns = omega (arith, l) in k))

at_mapped : {A B : Type 0} (f : A → B) (xs : List A) (k : ℕ) (x : A) → slice_get xs k ≡ Some x → slice_get (map f xs) k ≡ Some (f x)
at_mapped f [] k x e = cc
at_mapped f (y ∷ ys) zero x e = let same : y ≡ x = cc in ap (λ z. Some (f z)) same
at_mapped f (y ∷ ys) (suc k) x e = at_mapped f ys k x e

-- what holds of the indices of all points holds of that of one
index_of : (P : ℕ → Type 0) (qs : List Point) (k slot : ℕ) (f : ℤ) → AllByRecursion P (flat_map slots_of_point qs) → slice_get qs k ≡ Some (point.Index slot f) → P slot
index_of P [] k slot f h e = cc
index_of P (point.Any ∷ qs) zero slot f h e = cc
index_of P (point.Any ∷ qs) (suc k) slot f h e = index_of P qs k slot f h e
index_of P (point.Index i g ∷ qs) zero slot f h e = let same : i ≡ slot = cc in subst P same h.0
index_of P (point.Index i g ∷ qs) (suc k) slot f h e = index_of P qs k slot f h.1 e

own_by : (by : ℤ) → (int_le by (pos 0) && int_le (pos 0) by) ≡ true → (int_le (neg_ℤ (pos 0)) by ≡ true) × (int_le by (pos 0) ≡ true)
own_by by e = (and_right (int_le by (pos 0)) (int_le (pos 0) by) e, and_left (int_le by (pos 0)) (int_le (pos 0) by) e)

within_by : (by : ℤ) (low high : ℕ) → (int_le (neg_ℤ (pos low)) by && int_le by (pos high)) ≡ true → (int_le (neg_ℤ (pos low)) by ≡ true) × (int_le by (pos high) ≡ true)
within_by by low high e = (and_left (int_le (neg_ℤ (pos low)) by) (int_le by (pos high)) e, and_right (int_le (neg_ℤ (pos low)) by) (int_le by (pos high)) e)

module _ (a : Stand) (is : IsSetting a) (s : State Notes) (lies : ValuesLie Notes a.program s) (stale : ℕ → Bool) where
  -- the cells that the subscripts may mean are owned, or are held in a current shadow
  abbrev pub AllOwned : (array t : ℕ) → ArrayMap → List Expr → Type 0
  AllOwned array t m es = (xs : List ℕ) → MayBe (map (λ e. e.value) (map (seen (known_in a s)) es)) (extents a.program array) xs → owns_cell (home.Spread t m) a.node xs ≡ true

  abbrev pub AllHeld : (array t : ℕ) → ArrayMap → List Expr → Type 0
  AllHeld array t m es = (xs : List ℕ) → MayBe (map (λ e. e.value) (map (seen (known_in a s)) es)) (extents a.program array) xs → holds_cell (home.Spread t m) a.node xs ≡ true

  module _ (d : LoopDirective) (over : a.set.over ≡ Some d) (mine : owns_iteration a.program d a.node s ≡ true)
      (array t : ℕ) (m : ArrayMap) (at : home_of a.program array ≡ home.Spread t m) (same : t ≡ d.template) (template : slice_get a.program.templates t ≡ Some m.template) where
    setting : IsLoopSetting a d
    setting = is.directive d over

    abbrev here : List ℤ
    here = map (position_at s.scalars) d.points

    at_index : (k slot : ℕ) (f : ℤ) → slice_get d.points k ≡ Some (point.Index slot f)
        → (v : ℤ) × (known_in a s slot ≡ Some v) × FitsType Int v × (unwrap_or (slice_get here k) (pos 0) ≡ v +ℤ f)
    at_index k slot f e = (
      scalar_in s slot,
      ap (λ r. known_by r (scalar_in s slot)) (index_of (λ slot. a.set.roles slot ≡ Index) d.points k slot f setting.indices e),
      subst (λ ty. FitsType ty (scalar_in s slot)) (index_of (λ slot. scalar_type a.program slot ≡ Int) d.points k slot f setting.ints e) (lies.scalars slot),
      ap (λ o. unwrap_or o (pos 0)) (at_mapped (position_at s.scalars) d.points k (point.Index slot f) e),
    )

    three : HasThree m
    three = subst IsOfCode at (code a.program is.global array)

    fits : MapFits (home.Spread t m) (extents a.program array)
    fits = subst (λ h. MapFits h (extents a.program array)) at (fits_map a.program is.global array)

    long : (xs : List ℕ) → length m.aligned ≤ length (padded xs)
    long xs =
        let e : length m.aligned ≡ 3 = three.aligned in
        let f : length (padded xs) ≡ length xs + length {A = ℕ} (replicate (3 - length xs) 0) = length-append xs (replicate (3 - length xs) 0) in
        let g : length {A = ℕ} (replicate (3 - length xs) 0) ≡ 3 - length xs = length-replicate (3 - length xs) 0 in
        omega (arith, e, f, g)

    at_template : slice_get a.program.templates d.template ≡ Some m.template
    at_template = subst (λ n. slice_get a.program.templates n ≡ Some m.template) same template

    here_long : length here ≡ m.template.dims
    here_long = length-map d.points (position_at s.scalars) ∙ eqb-true (length d.points) (dim_count (slice_get a.program.templates d.template)) setting.points ∙ ap dim_count at_template

    here_owned : owns_point (unravel m.template.grid.sizes a.node) m.template.spread here ≡ true
    here_owned =
        subst (λ g. owns_point (unravel g.sizes a.node) m.template.spread here ≡ true) (sym (item_of (λ t. t.grid ≡ a.program.grid) a.program.templates t m.template is.global.fits.mappings.templates template))
        (subst (λ o. owns_positions a.program a.node o here ≡ true) at_template mine)

    module _ (es : List Expr) (len : length es ≡ length (extents a.program array)) (os : List Offset) (off : offsets_of d m es ≡ Some os) where
      values_long : length (map (λ e. e.value) (map (seen (known_in a s)) es)) ≡ length (extents a.program array)
      values_long = length-map (map (seen (known_in a s)) es) (λ e. e.value) ∙ length-map es (seen (known_in a s)) ∙ len

      inside_of : (xs : List ℕ) → MayBe (map (λ e. e.value) (map (seen (known_in a s)) es)) (extents a.program array) xs → IsInside (padded xs) (held.extents m)
      inside_of xs may = padded_inside m (extents a.program array) xs three fits (maybe_inside (map (λ e. e.value) (map (seen (known_in a s)) es)) (extents a.program array) xs may values_long)

      pub own_cells : list_all is_own os ≡ true → AllOwned array t m es
      own_cells test xs may =
          (points_reach m).owned a.node here (padded xs) here_long (inside_of xs may) here_owned
          (all_beside (known_in a s) d m.template.dims m.template.spread here at_index is_own (λ l. 0) (λ l. 0) (λ l by. own_by by)
          m.aligned es os (extents a.program array) xs (replicate (3 - length xs) 0) off test (map_tests m.template.dims m.template.spread m.aligned m.fits)
          (small_extents a.program is.global array) may len (long xs))

      pub near_cells : list_all is_within os ≡ true → AllHeld array t m es
      near_cells test xs may =
          (points_reach m).held a.node here (padded xs) here_long (inside_of xs may) here_owned
          (all_beside (known_in a s) d m.template.dims m.template.spread here at_index is_within (λ l. l.low) (λ l. l.high) (λ l by. within_by by l.low l.high)
          m.aligned es os (extents a.program array) xs (replicate (3 - length xs) 0) off test (map_tests m.template.dims m.template.spread m.aligned m.fits)
          (small_extents a.program is.global array) may len (long xs))

  -- what the events of an element of a spread array say
  pub record HeldIs (array t : ℕ) (m : ArrayMap) (es : List Expr) : Type 0 where
    pub unwritten : a.set.written array ≡ false
    pub current : stale (array_object array) ≡ false
    pub held : AllHeld array t m es

  pub spread_cells : (all : has (all_nodes a.program) a.node ≡ true) → ((d : LoopDirective) → a.set.over ≡ Some d → owns_iteration a.program d a.node s ≡ true)
      → (array t : ℕ) (m : ArrayMap) (es : List Expr) (at : Place) → home_of a.program array ≡ home.Spread t m → slice_get a.program.templates t ≡ Some m.template
      → length es ≡ length (extents a.program array)
      → EachEvent (IsFine a.node stale) (spread_events a.set array t m es at a.set.over) → AllOwned array t m es ⊎ HeldIs array t m es
  spread_cells all mine array t m es at lies_at template len h = of_over a.set.over refl h
    where
      of_written : (d : LoopDirective) → a.set.over ≡ Some d → t ≡ d.template → (os : List Offset) → offsets_of d m es ≡ Some os → (w : Bool) → a.set.written array ≡ w
          → EachEvent (IsFine a.node stale) (if w then emit (Wrong 4 at) else shadow_read a.set array at os) → AllOwned array t m es ⊎ HeldIs array t m es
      of_written d o same os off true w h = absurd (h (Wrong 4 at) refl)
      of_written d o same os off false w h = of_within (list_all is_within os) refl h
        where
          of_within : (b : Bool) → list_all is_within os ≡ b → EachEvent (IsFine a.node stale) (if b then emit (Read (array_object array) (all_nodes a.set.program) 3 at) else emit (Wrong 3 at))
              → AllOwned array t m es ⊎ HeldIs array t m es
          of_within true e h = inr (record {
            unwritten = w;
            current = h (Read (array_object array) (all_nodes a.set.program) 3 at) refl (ap (λ p. has (all_nodes p) a.node) is.program ∙ all);
            held = near_cells d o (mine d o) array t m lies_at same template es len os off e;
          })
          of_within false e h = absurd (h (Wrong 3 at) refl)

      of_own : (d : LoopDirective) → a.set.over ≡ Some d → t ≡ d.template → (os : List Offset) → offsets_of d m es ≡ Some os → (b : Bool) → list_all is_own os ≡ b
          → EachEvent (IsFine a.node stale) (if b then skip else (if a.set.written array then emit (Wrong 4 at) else shadow_read a.set array at os)) → AllOwned array t m es ⊎ HeldIs array t m es
      of_own d o same os off true e h = inl (own_cells d o (mine d o) array t m lies_at same template es len os off e)
      of_own d o same os off false e h = of_written d o same os off (a.set.written array) refl h

      of_offsets : (d : LoopDirective) → a.set.over ≡ Some d → t ≡ d.template → (o : Option (List Offset)) → offsets_of d m es ≡ o → EachEvent (IsFine a.node stale) (offset_events a.set array at o)
          → AllOwned array t m es ⊎ HeldIs array t m es
      of_offsets d o same None e h = absurd (h (Wrong 2 at) refl)
      of_offsets d o same (Some os) e h = of_own d o same os e (list_all is_own os) refl h

      of_template : (d : LoopDirective) → a.set.over ≡ Some d → (b : Bool) → (t == d.template) ≡ b
          → EachEvent (IsFine a.node stale) (if b then offset_events a.set array at (offsets_of d m es) else emit (Wrong 2 at)) → AllOwned array t m es ⊎ HeldIs array t m es
      of_template d o true e h = of_offsets d o (eqb-true t d.template e) (offsets_of d m es) refl h
      of_template d o false e h = absurd (h (Wrong 2 at) refl)

      of_over : (o : Option LoopDirective) → a.set.over ≡ o → EachEvent (IsFine a.node stale) (spread_events a.set array t m es at o) → AllOwned array t m es ⊎ HeldIs array t m es
      of_over None e h = absurd (h (Wrong 2 at) refl)
      of_over (Some d) e h = of_template d e (t == d.template) refl h
