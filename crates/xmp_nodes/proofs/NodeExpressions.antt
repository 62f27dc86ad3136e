-- An expression at a node follows the serial one.
use Rattle.std.proofs.Common.{◌≡◌, ◌<◌, ◌++◌, ◌&&◌, ◌⊎◌, inl, inr, not, ℕ, ℤ, Bool, true, false, true≢false, List, [], ◌∷◌, length, map, Option, Some, None, refl, sym, subst, ap, ◌∙◌}
use Rattle.std.specs.Prelude.{slice_get, is_none}
use Rattle.std.specs.List.{AllByRecursion, list_all, flat_map}
use Rattle.std.specs.Option.{option_map}
use Rattle.xmp_base.specs.declared.place.Place.{Place}
use Rattle.xmp_map.specs.declared.array_map.ArrayMap.{ArrayMap}
use Rattle.xmp_map.specs.RowMajor.{product, row_major}
use Rattle.xmp_map.specs.Boxes.{IsInside}
use Rattle.xmp_map.specs.Held as held
use Rattle.xmp_paths.specs.NodeSets.{has}
use Rattle.xmp_prog.specs.declared.parts.ProgParts.{ProgParts}
use Rattle.xmp_prog.specs.declared.parts.Array.{Array}
use Rattle.xmp_prog.specs.declared.parts.Home.{Home}
use Rattle.xmp_prog.specs.declared.parts.Home.TheVariants as home
use Rattle.xmp_prog.specs.declared.expressions.Expr.{Expr}
use Rattle.xmp_prog.specs.declared.expressions.Access.{Access}
use Rattle.xmp_prog.specs.declared.expressions.Expr.TheFolds.{fold-roll-Access}
use Rattle.xmp_prog.specs.Terms.{Term, Element, Typed, typed, typed_step, access_step, image_terms, terms_of_access}
use Rattle.xmp_prog.specs.Tests.{element_fits, image_fits, subscripts_fit}
use Rattle.xmp_prog.specs.Tests as tests
use Rattle.xmp_prog.specs.Fits.{node_count, HomeFits, SpreadFits}
use Rattle.xmp_loops.specs.Objects.{scalar_object, array_object, all_nodes}
use Rattle.xmp_loops.specs.declared.role.Role.{Role}
use Rattle.xmp_loops.specs.declared.role.Role.TheVariants.{Shared, Index, Reduced, Own}
use Rattle.xmp_flow.specs.Setting.{is_reduced}
use Rattle.xmp_meaning.specs.Cells.{row_in, read_in}
use Rattle.xmp_meaning.specs.Runs.{State}
use Rattle.xmp_meaning.specs.Declarations.{extents, home_of, home_of_array}
use Rattle.xmp_meaning.specs.Layouts.{Whole, Packed, number_of}
use Rattle.xmp_meaning.specs.Handlers.{erased}
use Rattle.xmp_meaning.specs.Calls.{call_of}
use Rattle.xmp_meaning.specs.Exchanges.{Notes}
use Rattle.xmp_meaning_laws.specs.Laws.{scalar_in, TermsFit}
use Rattle.xmp_meaning_laws.specs.Agreement.{Seen, SeenElement, seen, seen_access, seen_step, seen_element}
use Rattle.xmp_meaning_laws.proofs.CountedLoops.{both_true}
use Rattle.xmp_meaning_laws.proofs.Twins.{Couple}
use Rattle.xmp_move.specs.Sides.{owns_cell, holds_cell, position}
use Rattle.xmp_move.specs.Stores.{word_at}
use Rattle.xmp_move.specs.Laid.{MapFits}
use Rattle.xmp_move.specs.Kept.{IsOfCode}
use Rattle.xmp_move.proofs.SidesKept.{owners_hold}
use Rattle.xmp_nodes.proofs.Agrees.{Stand, Agrees}
use Rattle.xmp_nodes.proofs.Standing.{TermStands, IsSetting}
use Rattle.xmp_nodes.proofs.NodeBits.{all_have}
use Rattle.xmp_nodes.proofs.Readers.{AreReaders}
use Rattle.xmp_nodes.proofs.CellNumbers.{item_of, cell_word, code, fits_map, whole_at, packed_at}
use Rattle.xmp_nodes.proofs.ElementCells.{known_in, known_is}

-- ---- terms

-- what is asked of a term here: an element is of an array of the program, and no image is written
abbrev pub term_test : ProgParts → Term → Bool
term_test p t = element_fits p t && image_fits p t

pub terms_test : (p : ProgParts) (ts : List Term) → AllByRecursion (TermStands p) ts → list_all (term_test p) ts ≡ true
terms_test p [] h = refl
terms_test p (t ∷ ts) h = both_true (term_test p t) (list_all (term_test p) ts) (both_true (element_fits p t) (image_fits p t) h.0.element h.0.image) (terms_test p ts h.1)

pub terms_fit : (p : ProgParts) (ts : List Term) → AllByRecursion (TermStands p) ts → TermsFit ts
terms_fit p [] h = record { constants = refl; operands = refl; choices = refl }
terms_fit p (t ∷ ts) h =
    let rest : TermsFit ts = terms_fit p ts h.1 in
    record {
      constants = both_true (tests.constant_fits t) (list_all tests.constant_fits ts) h.0.constant rest.constants;
      operands = both_true (tests.operands_fit t) (list_all tests.operands_fit ts) h.0.operands rest.operands;
      choices = both_true (tests.choice_fits t) (list_all tests.choice_fits ts) h.0.choice rest.choices;
    }

-- an element by its parts
pub access_terms : (p : ProgParts) (array : ℕ) (es : List Expr) (image : Option Expr) (at : Place) → terms_of_access p (record { array = array; subscripts = es; image = image; at = at })
    ≡ Element (record { array = array; subscripts = map (λ e. e.ty) (map (typed p) es); image = option_map (λ e. e.ty) (option_map (typed p) image); at = at })
    ∷ (flat_map (λ e. e.terms) (map (typed p) es) ++ image_terms (option_map (typed p) image))
access_terms p array es None at = ap (λ (t : Typed). t.terms) (fold-roll-Access Typed Typed (typed_step p) (access_step p) (record { array = array; subscripts = es; image = None; at = at }))
access_terms p array es (Some x) at = ap (λ (t : Typed). t.terms) (fold-roll-Access Typed Typed (typed_step p) (access_step p) (record { array = array; subscripts = es; image = Some x; at = at }))

spot_parts : (known : ℕ → Option ℤ) (array : ℕ) (es : List Expr) (image : Option Expr) (at : Place)
    → (seen_access known (record { array = array; subscripts = es; image = image; at = at })).spot
    ≡ record { array = array; subscripts = map (λ e. e.value) (map (seen known) es); own = is_none image }
spot_parts known array es None at =
    ap (λ (e : SeenElement). e.spot) (fold-roll-Access Seen SeenElement (seen_step known) seen_element (record { array = array; subscripts = es; image = None; at = at }))
spot_parts known array es (Some x) at =
    ap (λ (e : SeenElement). e.spot) (fold-roll-Access Seen SeenElement (seen_step known) seen_element (record { array = array; subscripts = es; image = Some x; at = at }))

pub spot_is : (known : ℕ → Option ℤ) (a : Access) → (seen_access known a).spot ≡ record { array = a.array; subscripts = map (λ e. e.value) (map (seen known) a.subscripts); own = is_none a.image }
spot_is known a = spot_parts known a.array a.subscripts a.image a.at

-- ---- scalars

-- whether a node has the serial value of a scalar of this role
abbrev pub agreed_by : Role → Bool → Bool
agreed_by Shared stale = not stale
agreed_by Index stale = true
agreed_by (Reduced op) stale = false
agreed_by Own stale = not stale

abbrev pub agreed : Stand → (ℕ → Bool) → ℕ → Bool
agreed a stale slot = agreed_by (a.set.roles slot) (stale (scalar_object slot))

not_stale : (b : Bool) → not b ≡ true → b ≡ false
not_stale true e = absurd (true≢false (sym e))
not_stale false e = refl

pub agreed_same : (a : Stand) (stale : ℕ → Bool) (s : State Notes) (n : State (Unit {0})) → Agrees a stale s n → (slot : ℕ) → agreed a stale slot ≡ true → scalar_in s slot ≡ scalar_in n slot
agreed_same a stale s n g slot e = of_role (a.set.roles slot) refl e
  where
    of_role : (r : Role) → a.set.roles slot ≡ r → agreed_by r (stale (scalar_object slot)) ≡ true → scalar_in s slot ≡ scalar_in n slot
    of_role Shared i e = sym (g.scalars slot (ap is_reduced i) (not_stale (stale (scalar_object slot)) e))
    of_role Index i e = sym (g.indices slot i)
    of_role (Reduced op) i e = absurd (true≢false (sym e))
    of_role Own i e = sym (g.scalars slot (ap is_reduced i) (not_stale (stale (scalar_object slot)) e))

-- ---- one node

module _ (a : Stand) (is : IsSetting a) (there : has a.set.nodes a.node ≡ true) (input : List ℕ) where
  abbrev p : ProgParts
  p = a.program

  pub all_there : has (all_nodes a.program) a.node ≡ true
  all_there = all_have a.program a.node is.below

  abbrev pub couple : Couple
  couple = record { program = p; layout = Whole; other = Packed a.node; node = 0; input = input; call = call_of p 0 (length p.functions) }

  -- ---- cells

  abbrev pub CanRead : (stale : ℕ → Bool) → (array : ℕ) → Home → List ℕ → Type 0
  CanRead stale array home.Copy xs = stale (array_object array) ≡ false
  CanRead stale array (home.Spread t m) xs = (owns_cell (home.Spread t m) a.node xs ≡ true)
      ⊎ ((holds_cell (home.Spread t m) a.node xs ≡ true) × (stale (array_object array) ≡ false) × (a.set.written array ≡ false))
  CanRead stale array home.Image xs = ⊥

  abbrev pub MayGet : (stale : ℕ → Bool) → (array : ℕ) → List ℕ → (image : ℕ) → Type 0
  MayGet stale array xs image = (image ≡ 0) × IsInside xs (extents p array) × CanRead stale array (home_of p array) xs

  grid_of : (array t : ℕ) (m : ArrayMap) → slice_get p.templates t ≡ Some m.template → held.node_count m ≡ node_count p
  grid_of array t m e = ap (λ g. product g.sizes) (item_of (λ t. t.grid ≡ p.grid) p.templates t m.template is.global.fits.mappings.templates e)

  pub template_of : (array t : ℕ) (m : ArrayMap) → home_of p array ≡ home.Spread t m → slice_get p.templates t ≡ Some m.template
  template_of array t m e = of_slice (slice_get p.arrays array) refl
    where
      of_home : (r : Array) (h : Home) → r.home ≡ h → h ≡ home.Spread t m → HomeFits p r r.home → slice_get p.templates t ≡ Some m.template
      of_home r h i j f = let g : SpreadFits p r t m = subst (HomeFits p r) (i ∙ j) f in g.template

      of_slice : (o : Option Array) → slice_get p.arrays array ≡ o → slice_get p.templates t ≡ Some m.template
      of_slice None i = let bad : home.Copy ≡ home.Spread t m = sym (ap home_of_array i) ∙ e in cc
      of_slice (Some r) i = of_home r r.home refl (sym (ap home_of_array i) ∙ e) (item_of (λ r. HomeFits p r r.home) p.arrays array r is.global.fits.mappings.maps i)

  pub held_here : (array t : ℕ) (m : ArrayMap) (xs : List ℕ) → home_of p array ≡ home.Spread t m → IsInside xs (extents p array)
      → owns_cell (home.Spread t m) a.node xs ≡ true → holds_cell (home.Spread t m) a.node xs ≡ true
  held_here array t m xs e i o =
      owners_hold t m (extents p array) xs a.node (subst IsOfCode e (code p is.global array)) (subst (λ h. MapFits h (extents p array)) e (fits_map p is.global array)) i
      (subst (λ n. a.node < n) (sym (grid_of array t m (template_of array t m e))) is.below) o

  module _ (stale : ℕ → Bool) (s : State Notes) (n : State (Unit {0})) (g : Agrees a stale s n) where
    words_same : (array : ℕ) (xs : List ℕ) (h : Home) → home_of p array ≡ h → IsInside xs (extents p array) → CanRead stale array h xs
        → (holds_cell h a.node xs ≡ true) × (word_at (row_in s.arrays array) (row_major (extents p array) xs) ≡ word_at (row_in n.arrays array) (position h (extents p array) a.node xs))
    words_same array xs home.Copy e i c = (refl, ap (λ row. word_at row (row_major (extents p array) xs)) (sym (g.copies array e c)))
    words_same array xs (home.Spread t m) e i (inl o) = (held_here array t m xs e i o, sym (g.owned array t m e xs i o))
    words_same array xs (home.Spread t m) e i (inr h) = (h.0, at_owner (owns_cell (home.Spread t m) a.node xs) refl)
      where
        at_owner : (b : Bool) → owns_cell (home.Spread t m) a.node xs ≡ b
            → word_at (row_in s.arrays array) (row_major (extents p array) xs) ≡ word_at (row_in n.arrays array) (position (home.Spread t m) (extents p array) a.node xs)
        at_owner true o = sym (g.owned array t m e xs i o)
        at_owner false o = sym (g.shadows array t m xs e i h.0 o ∙ g.current array t m e h.1 h.2 (row_major (extents p array) xs))
    words_same array xs home.Image e i c = absurd c

    cells_same : (array : ℕ) (xs : List ℕ) (image : ℕ) → MayGet stale array xs image
        → read_in s.arrays array (number_of Whole p array image xs) ≡ read_in n.arrays array (number_of (Packed a.node) p array image xs)
    cells_same array xs image may =
        let w : _ = words_same array xs (home_of p array) refl may.1 may.2 in
        ap (λ i. read_in s.arrays array (number_of Whole p array i xs)) may.0
        ∙ ap (read_in s.arrays array) (whole_at p is.global array xs may.1)
        ∙ cell_word s.arrays array (row_major (extents p array) xs)
        ∙ w.1
        ∙ sym (cell_word n.arrays array (position (home_of p array) (extents p array) a.node xs))
        ∙ sym (ap (read_in n.arrays array) (packed_at p is.global array a.node xs may.1 w.0))
        ∙ sym (ap (λ i. read_in n.arrays array (number_of (Packed a.node) p array i xs)) may.0)

    -- ---- the readers

    -- states that differ from these in the steps alone, and have the same
    pub record Beside (f : ℕ → Bool) (t : State Notes) (m : State (Unit {0})) : Type 0 where
      pub serial : t ≡ record s { steps = t.steps }
      pub own : m ≡ record n { steps = m.steps }
      pub steps : t.steps ≡ m.steps
      pub same : (slot : ℕ) → f slot ≡ true → scalar_in s slot ≡ scalar_in n slot

    pub readers : AreReaders Notes (Unit {0}) couple erased erased (known_in a s) (MayGet stale) Beside
    readers = record {
      scalars = λ f t m slot e k. ap (λ z. scalar_in z slot) k.serial ∙ k.same slot e ∙ sym (ap (λ z. scalar_in z slot) k.own);
      knows = λ f t m slot v e k. ap (λ z. scalar_in z slot) k.serial ∙ known_is a s slot v e;
      gets = λ f t m array xs image may k. (
        ap (λ z. read_in z.arrays array (number_of Whole p array image xs)) k.serial
            ∙ cells_same array xs image may
            ∙ sym (ap (λ z. read_in z.arrays array (number_of (Packed a.node) p array image xs)) k.own),
        k,
      );
      left_steps = λ f t m k. k.steps;
      steps = λ f t m x k. record {
        serial = ap (λ (z : State Notes). record z { steps = x }) k.serial;
        own = ap (λ (z : State (Unit {0})). record z { steps = x }) k.own;
        steps = refl;
        same = k.same;
      };
    }

    pub begins : Beside (agreed a stale) s n
    begins = record { serial = refl; own = refl; steps = sym g.steps; same = agreed_same a stale s n g }
