-- The lists that are gathered are those of the definitions.
use Rattle.std.proofs.Common.{◌≡◌, ◌≢◌, ℕ, ℤ, pos, zero, suc, ◌+◌, ◌-◌, ◌*◌, ◌^◌, ◌<◌, ◌≤◌, ◌⊎◌, inl, inr, Bool, true, false, List, [], ◌∷◌, ◌++◌, refl, sym, ◌∙◌, ap, arith, length, map, take, Option, Some, None, subst, cond, IsTrue}
use Rattle.std.specs.Prelude.{replicate, ◌&&◌, ◌==◌, not, filter, All, drop, nat_le, is_none}
use Rattle.std.specs.List.{list_all, range_with_len, count_by, AllByRecursion}
use Rattle.std.proofs.lemmas.Bool.{eqb-true}
use Rattle.std.proofs.lemmas.Bool.Decides.{nat_tests}
use Rattle.std.proofs.lemmas.List.Elements.{All-nil, All-cons}
use Rattle.xmp_dist.specs.Count.{count_below}
use Rattle.xmp_dist.specs.Valid.{is_extent}
use Rattle.xmp_map.specs.declared.aligned.AlignedDim.{AlignedDim}
use Rattle.xmp_map.specs.Align.{is_unused}
use Rattle.xmp_map.specs.declared.array_map.ArrayMap.{ArrayMap}
use Rattle.xmp_map.specs.Boxes.{IsInside, all_pass, counts_below}
use Rattle.xmp_map.specs.Nodes.{filled}
use Rattle.xmp_map.specs.RowMajor.{product, row_major}
use Rattle.xmp_map.specs.Held as held
use Rattle.xmp_map.proofs.HoldLaws.{count_below-all}
use Rattle.xmp_map.proofs.Order.{AllBelow, none_below, more_below}
use Rattle.xmp_prog.specs.declared.parts.Home.{Home}
use Rattle.xmp_prog.specs.declared.parts.Home.TheVariants as home
use Rattle.xmp_meaning.specs.Layouts.{Packed, words_of}
use Rattle.xmp_meaning.specs.Sections.{Chosen}
use Rattle.xmp_move.specs.declared.kind.Side.{Side}
use Rattle.xmp_move.specs.declared.kind.MoveKind.{MoveKind}
use Rattle.xmp_move.specs.declared.kind.MoveKind.TheVariants.{Reflect, Gmove}
use Rattle.xmp_move.specs.declared.pick.Pick.{Pick}
use Rattle.xmp_move.specs.declared.axis.Axis.{Axis}
use Rattle.xmp_move.specs.Ways.{Pair, Ways, due, sends, fills}
use Rattle.xmp_move.specs.Stores.{IsIn}
use Rattle.xmp_move.specs.Whole.{selves, HasOwner, HasSlots}
use Rattle.xmp_move.specs.Cells as cells
use Rattle.xmp_move.specs.Sides.{padded, position, owns_cell, holds_cell, gives_cell, slot_in, words_in}
use Rattle.xmp_move.specs.Laid.{MapFits}
use Rattle.xmp_move.specs.Kept.{HasThree, IsOfCode}
use Rattle.xmp_move.specs.Picks.{counts, cell_at, picked_pairs}
use Rattle.xmp_move.specs.Sums.{total, due_slots}
use Rattle.xmp_move.specs.Axes.{tests, adds, adds_at, picks, AxesFit}
use Rattle.xmp_move.specs.Reaches.{reaches}
use Rattle.xmp_move.specs.Ends.{IsAxes, owned_tests, held_tests, weighted}
use Rattle.xmp_move.specs.Gathers.{FollowsIt}
use Rattle.xmp_move.specs.Plans.{gives_over}
use Rattle.xmp_move.proofs.Members.{map_twice, in_filter, in_map, map_in, and_left, and_right}
use Rattle.xmp_move.proofs.Boxes.{in_inside, in_range}
use Rattle.xmp_move.proofs.DueSlots.{filter_same, map_same, filter_map_is, due_out, due_into}
use Rattle.xmp_move.proofs.PickLaws.{ArePicks, AllSmall, cell_below, filled_is, map_long}
use Rattle.xmp_move.proofs.EndLaws.{picks_are, extents_are, lengths_are, axes_fit, tests_agree, position_is, weighted_fit, weighted_same}
use Rattle.xmp_move.proofs.SidesKept.{sides_are_kept}

-- ---- a side's definitions over three dimensions

abbrev pub trues : List (ℕ → Bool)
trues = (λ _. true) ∷ (λ _. true) ∷ (λ _. true) ∷ []

trues_pass : (c : List ℕ) → all_pass trues (padded c) ≡ true
unfolding all_pass
trues_pass [] = refl
trues_pass (x ∷ []) = refl
trues_pass (x ∷ y ∷ []) = refl
trues_pass (x ∷ y ∷ z ∷ rest) = refl

pub owns_is : (h : Home) (node : ℕ) (c : List ℕ) → all_pass (owned_tests h node) (padded c) ≡ owns_cell h node c
owns_is (home.Spread t m) node c = refl
owns_is home.Copy node c = trues_pass c
owns_is home.Image node c = trues_pass c

pub holds_is : (h : Home) (node : ℕ) (c : List ℕ) → all_pass (held_tests h node) (padded c) ≡ holds_cell h node c
holds_is (home.Spread t m) node c = refl
holds_is home.Copy node c = trues_pass c
holds_is home.Image node c = trues_pass c

pub gives_is : (h : Home) (from to : ℕ) (c : List ℕ) → gives_cell h from to c ≡ (gives_over h from to && all_pass (owned_tests h from) (padded c))
gives_is (home.Spread t m) from to c = refl
gives_is home.Copy from to c = sym (ap (λ b. (from == to) && b) (trues_pass c) ∙ and_one (from == to))
  where
    and_one : (b : Bool) → (b && true) ≡ b
    and_one true = refl
    and_one false = refl
gives_is home.Image from to c = sym (ap (λ b. (from == to) && b) (trues_pass c) ∙ and_one (from == to))
  where
    and_one : (b : Bool) → (b && true) ≡ b
    and_one true = refl
    and_one false = refl

pub product_pad : (n : ℕ) (es : List ℕ) → product (es ++ replicate n 1) ≡ product es
unfolding product
product_pad zero [] = refl
product_pad (suc n) [] = let i = product_pad n [] in omega (arith, i)
product_pad n (e ∷ es) = ap (λ p. e * p) (product_pad n es)

row_major_pad : (n : ℕ) (es xs : List ℕ) → length xs ≡ length es → row_major (es ++ replicate n 1) (xs ++ replicate n 0) ≡ row_major es xs
unfolding row_major product
row_major_pad zero [] [] l = refl
row_major_pad (suc n) [] [] l = let i = row_major_pad n [] [] refl in omega (arith, i)
row_major_pad n [] (x ∷ xs) l = absurd (omega (arith, l))
row_major_pad n (e ∷ es) [] l = absurd (omega (arith, l))
row_major_pad n (e ∷ es) (x ∷ xs) l =
    ap (λ p. x * p + row_major (es ++ replicate n 1) (xs ++ replicate n 0)) (product_pad n es)
    ∙ ap (λ r. x * product es + r) (row_major_pad n es xs (let m : length xs ≡ length es = omega (arith, l) in m))

trues_count : (xs : List ℕ) → length xs ≡ 3 → counts_below trues xs ≡ xs
unfolding counts_below
trues_count (x ∷ y ∷ z ∷ []) l =
    ap (λ n. n ∷ count_below (λ _. true) y ∷ count_below (λ _. true) z ∷ []) (count_below-all (λ _. true) x (λ _. refl))
    ∙ ap (λ n. x ∷ n ∷ count_below (λ _. true) z ∷ []) (count_below-all (λ _. true) y (λ _. refl))
    ∙ ap (λ n. x ∷ y ∷ n ∷ []) (count_below-all (λ _. true) z (λ _. refl))
trues_count [] l = absurd (omega (arith, l))
trues_count (x ∷ []) l = absurd (omega (arith, l))
trues_count (x ∷ y ∷ []) l = absurd (omega (arith, l))
trues_count (x ∷ y ∷ z ∷ w ∷ rest) l = absurd (omega (arith, l))

padded_three : (c : List ℕ) → length c ≤ 3 → length (padded c) ≡ 3
padded_three [] l = refl
padded_three (x ∷ []) l = refl
padded_three (x ∷ y ∷ []) l = refl
padded_three (x ∷ y ∷ z ∷ []) l = refl
padded_three (x ∷ y ∷ z ∷ w ∷ rest) l = absurd (omega (arith, l))

pub filled_three : (es : List ℕ) → length (filled 1 es) ≡ 3
filled_three [] = refl
filled_three (x ∷ []) = refl
filled_three (x ∷ y ∷ []) = refl
filled_three (x ∷ y ∷ z ∷ rest) = refl

whole_position : (es c : List ℕ) → length es ≤ 3 → length c ≡ length es
    → row_major (counts_below trues (filled 1 es)) (counts_below trues (padded c)) ≡ row_major es c
whole_position es c le lc =
    let n : 3 - length c ≡ 3 - length es = omega (arith, lc) in
    ap (λ r. row_major r (counts_below trues (padded c))) (trues_count (filled 1 es) (filled_three es))
    ∙ ap (row_major (filled 1 es)) (trues_count (padded c) (padded_three c (omega (arith, lc, le))))
    ∙ ap (λ f. row_major f (padded c)) (filled_is 1 es le)
    ∙ ap (λ n. row_major (es ++ replicate (3 - length es) 1) (c ++ replicate n 0)) n
    ∙ row_major_pad (3 - length es) es c lc

-- a map's extents are those of its array, and 1
ones_left : (ls : List AlignedDim) (d n : ℕ) → list_all is_unused (drop d ls) ≡ true → n + length (take d (map (λ l. l.extent) ls)) ≡ length ls
    → take d (map (λ l. l.extent) ls) ++ replicate n 1 ≡ map (λ l. l.extent) ls
ones_left [] zero zero u e = refl
ones_left [] zero (suc n) u e = absurd (omega (arith, e))
ones_left [] (suc d) zero u e = refl
ones_left [] (suc d) (suc n) u e = absurd (omega (arith, e))
ones_left (l ∷ ls) zero zero u e = absurd (omega (arith, e))
ones_left (l ∷ ls) zero (suc n) u e =
    let one : l.extent ≡ 1 = eqb-true l.extent 1 (and_left (l.extent == 1) (is_none l.target.dim) (and_left (is_unused l) (list_all is_unused ls) u)) in
    ap (λ x. x ∷ replicate n 1) (sym one) ∙ ap (λ r. l.extent ∷ r) (ones_left ls zero n (and_right (is_unused l) (list_all is_unused ls) u) (omega (arith, e)))
ones_left (l ∷ ls) (suc d) n u e = ap (λ r. l.extent ∷ r) (ones_left ls d n u (omega (arith, e)))

pub map_extents : (t : ℕ) (m : ArrayMap) (es : List ℕ) → HasThree m → MapFits (home.Spread t m) es → length es ≤ 3 → filled 1 es ≡ held.extents m
map_extents t m es three fits le =
    let l = three.aligned in
    let n : length (take m.dims (held.extents m)) ≡ length es = ap length fits in
    filled_is 1 es le ∙ ap (λ f. f ++ replicate (3 - length es) 1) (sym fits)
    ∙ ones_left m.aligned m.dims (3 - length es) m.rest (omega (arith, l, n, le))

-- the slot of a cell
pub slot_is : (side : Side) (node : ℕ) (axes : List Axis) (ps : List Pick) (c : List ℕ) → IsOfCode side.home → MapFits side.home side.extents → length side.extents ≤ 3
    → IsAxes axes (filled 1 side.extents) ps (held_tests side.home node) → AllBelow (padded c) (filled 1 side.extents) → length c ≡ length side.extents
    → side.base + total (adds (weighted axes)) (padded c) ≡ slot_in side node c
slot_is side node axes ps c code fits le are below l =
    ap (λ r. side.base + r) (position_is axes (filled 1 side.extents) ps (held_tests side.home node) (padded c) are below ∙ at_home side.home code fits)
  where
    at_home : (h : Home) → IsOfCode h → MapFits h side.extents
        → row_major (counts_below (held_tests h node) (filled 1 side.extents)) (counts_below (held_tests h node) (padded c)) ≡ position h side.extents node c
    at_home (home.Spread t m) code fits =
        ap (λ es. row_major (counts_below (held.tests m node) es) (counts_below (held.tests m node) (padded c))) (map_extents t m side.extents code fits le)
    at_home home.Copy code fits = whole_position side.extents c le l
    at_home home.Image code fits = whole_position side.extents c le l

unpad : (c r es s : List ℕ) → length c ≡ length es → AllBelow (c ++ r) (es ++ s) → IsInside c es
unfolding IsInside
unpad [] r [] s l b = tt
unpad [] r (e ∷ es) s l b = absurd (omega (arith, l))
unpad (x ∷ xs) r [] s l b = absurd (omega (arith, l))
unpad (x ∷ xs) r (e ∷ es) s l (more_below y f ys fs lt more) = (lt, unpad xs r es s (omega (arith, l)) more)

pub inside_of : (c es : List ℕ) → length es ≤ 3 → length c ≡ length es → AllBelow (padded c) (filled 1 es) → IsInside c es
inside_of c es le l b = unpad c (replicate (3 - length c) 0) es (replicate (3 - length es) 1) l (subst (AllBelow (padded c)) (filled_is 1 es le) b)

-- it is one of the side's words, where the node holds the cell
pub slot_below : (side : Side) (node : ℕ) (c : List ℕ) → IsOfCode side.home → MapFits side.home side.extents → IsInside c side.extents → holds_cell side.home node c ≡ true
    → slot_in side node c < side.base + words_in side node
slot_below side node c code fits i h =
    let n : ℕ = side.base + words_in side node in
    let store : List ℤ = replicate n (pos 0) in
    let long : length store ≡ n = replicate_long n in
    let k = (sides_are_kept side node store code fits (omega (arith, long))).inside c i h in
    omega (arith, k, long)
  where
    replicate_long : (n : ℕ) → length (replicate n (pos 0)) ≡ n
    replicate_long zero = refl
    replicate_long (suc n) = ap suc (replicate_long n)

-- ---- what is gathered

-- the pairs of a transfer, by what is named of three dimensions on both sides
pub record PairsAre (pairs : List Pair) (tp sp : List Pick) (te se : List ℕ) : Type 0 where
  pub same : map (λ p. (padded p.0, padded p.1)) pairs ≡ picked_pairs tp sp
  pub target : ArePicks tp te
  pub source : ArePicks sp se
  pub follows : FollowsIt (counts tp) (counts sp)

pub record IsPairBelow (p : Pair) (te se : List ℕ) : Type 0 where
  pub target : AllBelow (padded p.0) te
  pub source : AllBelow (padded p.1) se

pub pair_below : (pairs : List Pair) (tp sp : List Pick) (te se : List ℕ) (p : Pair) → PairsAre pairs tp sp te se → IsIn p pairs → IsPairBelow p te se
pair_below pairs tp sp te se p are i =
    let j : IsIn (padded p.0, padded p.1) (picked_pairs tp sp) = subst (IsIn (padded p.0, padded p.1)) are.same (map_in (λ p. (padded p.0, padded p.1)) pairs p i) in
    let a = in_map (λ places. (cell_at tp places, cell_at sp places)) (cells.indices (counts tp)) (padded p.0, padded p.1) j in
    let inside = in_inside a.of (counts tp) a.among in
    let first : cell_at tp a.of ≡ padded p.0 = ap (λ r. r.0) (sym a.same) in
    let second : cell_at sp a.of ≡ padded p.1 = ap (λ r. r.1) (sym a.same) in
    record {
      target = subst (λ c. AllBelow c te) first (cell_below tp te a.of (counts tp) are.target inside (inr refl));
      source = subst (λ c. AllBelow c se) second (cell_below sp se a.of (counts tp) are.source inside are.follows);
    }

module _ (ways : Ways) (pairs : List Pair) (from to : ℕ) (tp sp : List Pick) (te se : List ℕ) (are : PairsAre pairs tp sp te se)
    (needs gives : List Axis) (nt gt : List (ℕ → Bool)) (need : IsAxes needs te tp nt) (give : IsAxes gives se sp gt)
    (tested : (p : Pair) → IsIn p pairs → (ways.needs to p.0 && ways.gives from to p.1) ≡ (all_pass nt (padded p.0) && all_pass gt (padded p.1))) where
  abbrev test : Pair → Bool
  test q = all_pass (tests needs) q.0 && all_pass (tests gives) q.1

  due_is : due ways pairs from to ≡ filter (λ p. test (padded p.0, padded p.1)) pairs
  due_is =
      filter_same (λ p. ways.needs to p.0 && ways.gives from to p.1) (λ p. test (padded p.0, padded p.1)) pairs
      (λ p i. let b = pair_below pairs tp sp te se p are i in
      tested p i
      ∙ ap (λ r. r && all_pass gt (padded p.1)) (sym (tests_agree needs te tp nt (padded p.0) need b.target))
      ∙ ap (λ r. all_pass (tests needs) (padded p.0) && r) (sym (tests_agree gives se sp gt (padded p.1) give b.source)))

  fewer : length (counts sp) ≤ length (counts tp)
  fewer = few are.follows
    where
      few : FollowsIt (counts tp) (counts sp) → length (counts sp) ≤ length (counts tp)
      few (inl none) = let l = ap length none in omega (arith, l)
      few (inr same) = let l = ap length same in omega (arith, l)

  tests_long : (axes : List Axis) (es : List ℕ) (ps : List Pick) (ts : List (ℕ → Bool)) → IsAxes axes es ps ts → length (tests axes) ≡ length ps
  tests_long axes es ps ts f = let l = lengths_are axes es ps ts f in map_long (λ a. reaches a.reach) axes ∙ l.0 ∙ sym l.1

  -- what is gathered for one of the cells of each pair
  listed : (cell : Pair → List ℕ) (base : ℕ) (A : List (ℕ → ℕ)) (slot : Pair → ℕ) (gathered : List ℕ)
      → map (λ q. total A (cell q)) (filter test (picked_pairs tp sp)) ≡ gathered
      → ((p : Pair) → IsIn p pairs → slot p ≡ base + total A (cell (padded p.0, padded p.1)))
      → map slot (due ways pairs from to) ≡ map (λ r. base + r) gathered
  listed cell base A slot gathered is slots =
      ap (map slot) due_is
      ∙ map_same slot (λ p. base + total A (cell (padded p.0, padded p.1))) (filter (λ p. test (padded p.0, padded p.1)) pairs)
      (λ p i. slots p (in_filter (λ p. test (padded p.0, padded p.1)) pairs p i).0)
      ∙ sym (map_twice (λ p. (padded p.0, padded p.1)) (λ q. base + total A (cell q)) (filter (λ p. test (padded p.0, padded p.1)) pairs))
      ∙ ap (map (λ q. base + total A (cell q))) (sym (filter_map_is (λ p. (padded p.0, padded p.1)) test pairs) ∙ ap (filter test) are.same)
      ∙ sym (map_twice (λ q. total A (cell q)) (λ r. base + r) (filter test (picked_pairs tp sp)))
      ∙ ap (map (λ r. base + r)) is

  pub out_is : (base : ℕ) (slots : List Axis) (ht : List (ℕ → Bool)) (slot : Pair → ℕ) → IsAxes slots se sp ht
      → ((p : Pair) → IsIn p pairs → slot p ≡ base + total (adds (weighted slots)) (padded p.1))
      → map slot (due ways pairs from to) ≡ map (λ r. base + r) (due_slots tp sp sp (tests needs) (tests gives) (adds (weighted slots)))
  out_is base slots ht slot axes same =
      listed (λ q. q.1) base (adds (weighted slots)) slot (due_slots tp sp sp (tests needs) (tests gives) (adds (weighted slots)))
      (due_out tp sp (tests needs) (tests gives) (adds (weighted slots)) (tests_long needs te tp nt need) (tests_long gives se sp gt give)
      (let l = lengths_are slots se sp ht axes in map_long adds_at (weighted slots) ∙ (weighted_same slots).2 ∙ l.0 ∙ sym l.1) fewer) same

  pub into_is : (base : ℕ) (slots : List Axis) (ht : List (ℕ → Bool)) (slot : Pair → ℕ) → IsAxes slots te tp ht
      → ((p : Pair) → IsIn p pairs → slot p ≡ base + total (adds (weighted slots)) (padded p.0))
      → map slot (due ways pairs from to) ≡ map (λ r. base + r) (due_slots tp sp tp (tests needs) (tests gives) (adds (weighted slots)))
  into_is base slots ht slot axes same =
      listed (λ q. q.0) base (adds (weighted slots)) slot (due_slots tp sp tp (tests needs) (tests gives) (adds (weighted slots)))
      (due_into tp sp (tests needs) (tests gives) (adds (weighted slots)) (tests_long needs te tp nt need) (tests_long gives se sp gt give)
      (let l = lengths_are slots te tp ht axes in map_long adds_at (weighted slots) ∙ (weighted_same slots).2 ∙ l.0 ∙ sym l.1) fewer) same
