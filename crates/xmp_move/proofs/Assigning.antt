-- What a node's store shows after a gmove between arrays.
use Rattle.std.proofs.Common.{◌≡◌, ◌≢◌, ◌⊎◌, inl, inr, ◌+◌, ◌-◌, ◌<◌, ◌≤◌, ℕ, ℤ, Bool, true, false, Option, Some, None, List, [], ◌∷◌, refl, sym, ◌∙◌, ap, arith, length, map, subst}
use Rattle.std.specs.Prelude.{◌==◌, drop}
use Rattle.std.specs.List.{zip}
use Rattle.std.proofs.lemmas.Bool.{eqb-true, eq-eqb}
use Rattle.xmp_num.specs.declared.types.Ty.{Ty}
use Rattle.xmp_map.specs.declared.grid.Grid.{Grid}
use Rattle.xmp_map.specs.RowMajor.{product, row_major, unravel}
use Rattle.xmp_map.specs.Boxes.{IsInside}
use Rattle.xmp_map.specs.Held as held
use Rattle.xmp_map.proofs.Order.{unravel-row_major, inside_below}
use Rattle.xmp_prog.specs.declared.parts.Home.{Home}
use Rattle.xmp_prog.specs.declared.parts.Home.TheVariants as home
use Rattle.xmp_meaning.specs.Layouts.{Packed, words_of}
use Rattle.xmp_meaning.specs.Expressions.{natural}
use Rattle.xmp_meaning.specs.Sections.{Chosen, lengths, fit}
use Rattle.xmp_move.specs.declared.kind.Side.{Side}
use Rattle.xmp_move.specs.declared.kind.MoveKind.TheVariants.{Gmove}
use Rattle.xmp_move.specs.Ways.{Pair, Ways}
use Rattle.xmp_move.specs.Stores.{IsIn, word_at, unpacked_of}
use Rattle.xmp_move.specs.Cells.{indices, counts, cell_at, pairs_between}
use Rattle.xmp_move.specs.Whole.{IsNeeded, IsGiven, AreGiven, HasRoom, IsMoved, Shows, HasSlots, IsAssignment, assigned}
use Rattle.xmp_move.specs.Numbers.{asked_of, target_chosen, source_chosen}
use Rattle.xmp_move.specs.Kinds.{numbers_of}
use Rattle.xmp_move.specs.Faults.{side_fault, first_of, lengths_fault, first_fault, move_fault}
use Rattle.xmp_move.specs.Sides.{owns_cell, holds_cell, gives_cell, position}
use Rattle.xmp_move.specs.Laid.{IsLaidOut, MapFits, AreOfOneGrid, grid_of, sections}
use Rattle.xmp_move.specs.Kept.{IsOfCode}
use Rattle.xmp_move.specs.Plans.{peers_in, peers_of}
use Rattle.xmp_move.specs.Assigned.{moving, AreGood, AreNodes, IsOver, IsArray, IsAssigned, GmovesArrays, AimsArePairs, RowsAreKept, PlansAreGood, PlansAreOfArrays}
use Rattle.xmp_move.proofs.Members.{in_map}
use Rattle.xmp_move.proofs.Boxes.{in_inside, in_range, range_in}
use Rattle.xmp_move.proofs.Unpacked.{moves_all}
use Rattle.xmp_move.proofs.Arrays.{moves_whole}
use Rattle.xmp_move.proofs.PairsInside.{first_none, rest_none, cell_inside, assigns}
use Rattle.xmp_move.proofs.PairsMeant.{counts_are, one_cell, fit_same, lengths_good}
use Rattle.xmp_move.proofs.SidesKept.{sides_are_kept, cells_are_owned, owners_hold}
use Rattle.xmp_move.proofs.Gathering.{chosen_long, lengths_long, drop_long, no_items}

-- ---- the cells of the source lie in it

module _ (te se : List ℕ) (to from : List Chosen) (good : AreGood te to se from) where
  target_none : side_fault false te to ≡ None
  target_none = first_none (side_fault false te to) (first_of (side_fault true se from) (lengths_fault to from)) good.none

  others_none : first_of (side_fault true se from) (lengths_fault to from) ≡ None
  others_none = rest_none (side_fault false te to) (first_of (side_fault true se from) (lengths_fault to from)) good.none

  source_none : side_fault true se from ≡ None
  source_none = first_none (side_fault true se from) (lengths_fault to from) others_none

  lengths_fit : fit (lengths to) (lengths from) ≡ true
  lengths_fit = lengths_good to from (rest_none (side_fault true se from) (lengths_fault to from) others_none)

  pub assignment : IsAssignment te (pairs_between to from)
  assignment = assigns te to from good.target target_none

  at_places : (lengths from ≡ []) ⊎ (length (lengths from) ≡ length (lengths to)) → (places : List ℕ) → IsInside places (counts to) → IsInside (cell_at from places) se
  unfolding IsInside
  at_places (inl none) places i =
      let none_left : IsInside [] (counts from) = subst (IsInside []) (sym (counts_are from ∙ ap (map natural) none)) tt in
      subst (λ c. IsInside c se) (sym (one_cell from places none)) (cell_inside true se from [] good.source source_none none_left)
  at_places (inr equal) places i =
      let same : counts from ≡ counts to = counts_are from ∙ ap (map natural) (fit_same (lengths to) (lengths from) equal lengths_fit) ∙ sym (counts_are to) in
      cell_inside true se from places good.source source_none (subst (IsInside places) (sym same) i)

  pub source_inside : (p : Pair) → IsIn p (pairs_between to from) → IsInside p.1 se
  source_inside p i =
      let a = in_map (λ places. (cell_at to places, cell_at from places)) (indices (counts to)) p i in
      subst (λ c. IsInside c se) (sym (ap (λ q. q.1) a.same)) (at_places good.sections a.of (in_inside a.of (counts to) a.among))

-- ---- the pairs by the numbers of their cells

numbered : (te se : List ℕ) (ps : List Pair) → ((p : Pair) → IsIn p ps → IsInside p.0 te) → ((p : Pair) → IsIn p ps → IsInside p.1 se)
    → zip (map (unravel te) (map (λ p. row_major te p.0) ps)) (map (unravel se) (map (λ p. row_major se p.1) ps)) ≡ ps
unfolding IsIn
numbered te se [] a b = refl
numbered te se (p ∷ ps) a b =
    let first = unravel-row_major p.0 te (inside_below p.0 te (a p (inl refl))) in
    let second = unravel-row_major p.1 se (inside_below p.1 se (b p (inl refl))) in
    rw (first, second) (ap (λ rest. p ∷ rest) (numbered te se ps (λ q i. a q (inr i)) (λ q i. b q (inr i))))

pub aims_are_pairs : AimsArePairs
aims_are_pairs te se to from good =
    let a = assignment te se to from good in
    numbered te se (pairs_between to from) a.inside (source_inside te se to from good)

-- ---- one node gives a cell

record IsGiver (h : Home) (node : ℕ) (peers : List ℕ) (cell : List ℕ) : Type 0 where
  giver : ℕ
  among : IsIn giver peers
  gives : gives_cell h giver node cell ≡ true
  only : (k : ℕ) → IsIn k peers → gives_cell h k node cell ≡ true → k ≡ giver

giver_of : (h : Home) (es : List ℕ) (count node : ℕ) (peers cell : List ℕ) → IsArray h es count → node < count → AreNodes count peers → IsInside cell es → IsGiver h node peers cell
giver_of (home.Spread t m) es count node peers cell a lt are i =
    let o = cells_are_owned t m es cell a.code a.map i in
    let n : held.node_count m ≡ count = a.over in
    let r = range_in 0 (held.node_count m) o.owner o.among in
    record {
      giver = o.owner;
      among = are.all o.owner (omega (arith, n, r));
      gives = o.owns_it;
      only = λ k j h. o.only k (in_range 0 (held.node_count m) k (omega arith) (let l = are.only k j in omega (arith, n, l))) h;
    }
giver_of home.Copy es count node peers cell a lt are i =
    record { giver = node; among = are.all node lt; gives = eq-eqb node node refl; only = λ k j h. eqb-true k node h }
giver_of home.Image es count node peers cell a lt are i =
    record { giver = node; among = are.all node lt; gives = eq-eqb node node refl; only = λ k j h. eqb-true k node h }

-- what a node owns it holds
owned_held : (h : Home) (es : List ℕ) (count node : ℕ) (cell : List ℕ) → IsArray h es count → node < count → IsInside cell es → owns_cell h node cell ≡ true → holds_cell h node cell ≡ true
owned_held (home.Spread t m) es count node cell a lt i o =
    let n : held.node_count m ≡ count = a.over in
    owners_hold t m es cell node a.code a.map i (omega (arith, n, lt)) o
owned_held home.Copy es count node cell a lt i o = refl
owned_held home.Image es count node cell a lt i o = refl

-- ---- the whole assignment

module _ (conv : ℤ → ℤ) (target source : Home) (te se : List ℕ) (into out_of : ℕ → List ℕ → ℕ) (to from : List Chosen)
    (count node : ℕ) (peers : List ℕ) (sources : ℕ → List ℤ) (own source_values target_values : List ℤ)
    (good : AreGood te to se from) (ta : IsArray target te count) (sa : IsArray source se count) (lt : node < count) (are : AreNodes count peers)
    (slots : HasSlots te (holds_cell target node) (into node) own) where
  abbrev pairs : List Pair
  pairs = pairs_between to from

  abbrev ways : Ways
  ways = moving target source into out_of

  abbrev new : List ℤ
  new = unpacked_of conv ways pairs sources own node peers

  holds : (cell : List ℕ) → IsInside cell te → owns_cell target node cell ≡ true → holds_cell target node cell ≡ true
  holds cell i o = owned_held target te count node cell ta lt i o

  own_slots : HasSlots te (owns_cell target node) (into node) own
  own_slots = record {
    inside = λ cell i o. slots.inside cell i (holds cell i o);
    apart = λ cell other i j o p e. slots.apart cell other i j (holds cell i o) (holds other j p) e;
  }

  assigns_all : IsAssignment te pairs
  assigns_all = assignment te se to from good

  room : HasRoom ways pairs node own
  room = record {
    inside = λ p i. own_slots.inside p.0 (assigns_all.inside p i.among) i.needed;
    apart = λ p q i j e.
        assigns_all.one p q i.among j.among
        (own_slots.apart p.0 q.0 (assigns_all.inside p i.among) (assigns_all.inside q j.among) i.needed j.needed e);
  }

  given : AreGiven ways pairs node peers
  given p i =
      let g = giver_of source se count node peers p.1 sa lt are (source_inside te se to from good p i.among) in
      record { giver = g.giver; among = g.among; gives = g.gives; only = g.only }

  moved : IsMoved conv ways pairs sources own node peers new
  moved = moves_all conv ways pairs sources own node peers room given

  stays : (slot : ℕ) → ((cell : List ℕ) → IsInside cell te → owns_cell target node cell ≡ true → into node cell ≢ slot) → word_at new slot ≡ word_at own slot
  stays slot none = moved.stays slot (λ p i. none p.0 (assigns_all.inside p i.among) i.needed)

  not_both : (b : Bool) → b ≡ true → b ≡ false → ⊥
  not_both true e n = cc
  not_both false e n = cc

  copies : (cell : List ℕ) → IsInside cell te → holds_cell target node cell ≡ true → owns_cell target node cell ≡ false
      → word_at new (into node cell) ≡ word_at own (into node cell)
  copies cell i h n =
      stays (into node cell) (λ other j o e.
      let same : other ≡ cell = slots.apart other cell j i (holds other j o) h e in
      not_both (owns_cell target node cell) (ap (owns_cell target node) (sym same) ∙ o) n)

  pub gmoves : length target_values ≡ product te
      → Shows te (owns_cell target node) (into node) own target_values
      → ((k : ℕ) → k < count → Shows se (gives_cell source k node) (out_of k) (sources k) source_values)
      → IsAssigned conv target te se pairs node (into node) source_values target_values own new
  gmoves long shows words = record {
    long = moved.long;
    whole =
        moves_whole conv ways pairs sources own node peers te se source_values target_values long own_slots assigns_all given
        (λ p i k j g. words k (are.only k j) p.1 (source_inside te se to from good p i.among) g) shows;
    copies = copies;
    stays = stays;
  }

pub gmoves_arrays : GmovesArrays
gmoves_arrays conv target source te se into out_of to from count node peers sources own source_values target_values good ta sa lt are slots long shows words =
    gmoves conv target source te se into out_of to from count node peers sources own source_values target_values good ta sa lt are slots long shows words

-- ---- rows of their own

pub rows_are_kept : RowsAreKept
rows_are_kept h es node row code fits long =
    let s = sides_are_kept (record { home = h; extents = es; base = 0; parts = [] }) node row code fits (omega (arith, long)) in
    record {
      inside = λ cell i k. let l = s.inside cell i k in omega (arith, l);
      apart = λ cell other i j k l e. s.apart cell other i j k l (ap (λ n. 0 + n) e);
    }

-- ---- the gmove of a plan

pub plans_are_good : PlansAreGood
plans_are_good target source ty args node laid many none =
    let rest : List ℤ = drop (asked_of target) args in
    let dl : length rest ≡ length args - asked_of target = drop_long (asked_of target) args in
    let enough : asked_of target ≤ length args = omega (arith, many) in
    let left : asked_of source ≤ length rest = omega (arith, many, dl) in
    record {
      none = none;
      target = chosen_long target.parts args enough ∙ laid.parts.0;
      source = chosen_long source.parts rest left ∙ laid.parts.1;
      sections = follow (lengths_long target.parts args enough) (lengths_long source.parts rest left) laid.sections;
    }
  where
    follow : length (lengths (target_chosen target args)) ≡ sections target → length (lengths (source_chosen target source args)) ≡ sections source
        → (sections source ≡ 0) ⊎ (sections source ≡ sections target)
        → (lengths (source_chosen target source args) ≡ []) ⊎ (length (lengths (source_chosen target source args)) ≡ length (lengths (target_chosen target args)))
    follow nt ns (inl z) = inl (no_items (lengths (source_chosen target source args)) (ns ∙ z))
    follow nt ns (inr e) = inr (ns ∙ e ∙ sym nt)

over_first : (h g : Home) → IsOver h (peers_in (grid_of h) (grid_of g))
over_first (home.Spread t m) g = refl
over_first home.Copy g = tt
over_first home.Image g = tt

over_second : (h g : Home) → AreOfOneGrid (grid_of h) (grid_of g) → IsOver g (peers_in (grid_of h) (grid_of g))
over_second (home.Spread t m) (home.Spread u n) one = ap (λ (r : Grid). product r.sizes) (sym one)
over_second home.Copy (home.Spread u n) one = refl
over_second home.Image (home.Spread u n) one = refl
over_second h home.Copy one = tt
over_second h home.Image one = tt

pub plans_are_of_arrays : PlansAreOfArrays
plans_are_of_arrays target source ty node laid ct cs = (
  record { code = ct; map = laid.maps.0; over = over_first target.home source.home },
  record { code = cs; map = laid.maps.1.0; over = over_second target.home source.home laid.grid },
)
