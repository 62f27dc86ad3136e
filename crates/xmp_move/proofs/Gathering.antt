-- What a transfer without a fault that is laid out gathers.
use Rattle.std.proofs.Common.{◌≡◌, ◌≢◌, ℕ, ℤ, pos, zero, suc, ◌+◌, ◌-◌, ◌*◌, ◌^◌, ◌<◌, ◌≤◌, ◌⊎◌, inl, inr, Bool, true, false, List, [], ◌∷◌, ◌++◌, refl, sym, ◌∙◌, ap, arith, length, map, Option, Some, None, subst, cond, IsTrue}
use Rattle.std.specs.Prelude.{if◌then◌else◌, replicate, ◌&&◌, ◌==◌, not, filter, All, drop, nat_le}
use Rattle.std.specs.List.{list_all, range_with_len, count_by, sum_by, AllByRecursion}
use Rattle.std.proofs.lemmas.Bool.Decides.{nat_tests}
use Rattle.std.proofs.lemmas.List.Sums.{sum_by-cons}
use Rattle.std.proofs.lemmas.List.Elements.{All-nil, All-cons, All-head, All-tail}
use Rattle.xmp_base.specs.Limits.{cell_limit}
use Rattle.xmp_num.specs.declared.types.Ty.{Ty}
use Rattle.xmp_dist.specs.Valid.{is_extent}
use Rattle.xmp_map.specs.declared.array_map.ArrayMap.{ArrayMap}
use Rattle.xmp_map.specs.declared.grid.Grid.{Grid}
use Rattle.xmp_map.specs.Boxes.{IsInside, all_pass}
use Rattle.xmp_map.specs.Nodes.{filled}
use Rattle.xmp_map.specs.RowMajor.{product}
use Rattle.xmp_map.specs.Held as held
use Rattle.xmp_map.proofs.Order.{AllBelow}
use Rattle.xmp_prog.specs.declared.parts.Home.{Home}
use Rattle.xmp_prog.specs.declared.parts.Home.TheVariants as home
use Rattle.xmp_prog.specs.Tests.{is_spread}
use Rattle.xmp_meaning.specs.Expressions.{natural}
use Rattle.xmp_meaning.specs.Sections.{Chosen, One, Many, lengths, fit}
use Rattle.xmp_move.specs.declared.kind.SidePart.{SidePart}
use Rattle.xmp_move.specs.declared.kind.SidePart.TheVariants as part
use Rattle.xmp_move.specs.declared.kind.Side.{Side}
use Rattle.xmp_move.specs.declared.kind.MoveKind.{MoveKind}
use Rattle.xmp_move.specs.declared.kind.MoveKind.TheVariants.{Reflect, Gmove}
use Rattle.xmp_move.specs.declared.pick.Pick.{Pick}
use Rattle.xmp_move.specs.declared.axis.Axis.{Axis}
use Rattle.xmp_move.specs.Ways.{Pair, Ways, due, sends, fills}
use Rattle.xmp_move.specs.Stores.{IsIn}
use Rattle.xmp_move.specs.Whole.{selves, HasOwner}
use Rattle.xmp_move.specs.Cells as cells
use Rattle.xmp_move.specs.Numbers.{asked, asked_of, chosen_by, target_chosen, source_chosen}
use Rattle.xmp_move.specs.Faults.{side_fault, first_of, lengths_fault, move_fault}
use Rattle.xmp_move.specs.Kinds.{ways_of, pairs_of, numbers_of}
use Rattle.xmp_move.specs.Sides.{padded, owns_cell, holds_cell, gives_cell, slot_in, words_in}
use Rattle.xmp_move.specs.Laid.{MapFits, IsLaidOut, grid_of, AreOfOneGrid, is_section, sections, sides_of}
use Rattle.xmp_move.specs.Kept.{HasThree, IsOfCode}
use Rattle.xmp_move.specs.Picks.{counts, cell_at, picked_pairs, whole_picks}
use Rattle.xmp_move.specs.Sums.{total, due_slots}
use Rattle.xmp_move.specs.Axes.{tests, adds, picks, extents, AxesFit}
use Rattle.xmp_move.specs.Ends.{IsAxes, HomeFits, owned_tests, held_tests, weighted}
use Rattle.xmp_move.specs.Gathers.{FollowsIt, CanGather, gathered}
use Rattle.xmp_move.specs.Plans.{peers_in, gives_over, may_give, needed_tests, target_of, source_of, target_picks, source_picks, peers_of, sends_to, fills_from, AreWordsOf}
use Rattle.xmp_move.proofs.Members.{map_twice, in_filter, in_map, and_left, and_right}
use Rattle.xmp_move.proofs.Boxes.{in_inside, in_range}
use Rattle.xmp_move.proofs.DueSlots.{filter_same, map_same}
use Rattle.xmp_move.proofs.PairsInside.{first_none, rest_none}
use Rattle.xmp_move.proofs.PairsMeant.{fit_same, lengths_good}
use Rattle.xmp_move.proofs.SidesKept.{cells_are_owned, owners_hold, inside_short}
use Rattle.xmp_move.proofs.PickLaws.{ArePicks, AllSmall, SidePicks, WholePicks, picks_name, whole_name, filled_is, map_long, cell_length}
use Rattle.xmp_move.proofs.EndLaws.{extents_are, later_small, picks_are, lengths_are, axes_fit, weighted_fit, weighted_same}
use Rattle.xmp_move.proofs.PlanLaws.{PairsAre, product_pad, map_extents, filled_three, pair_below, inside_of, slot_is, slot_below, owns_is, holds_is, gives_is, out_is, into_is}

-- ---- the numbers of a gmove

asked_cons : (p : SidePart) (ps : List SidePart) → sum_by asked (p ∷ ps) ≡ asked p + sum_by asked ps
asked_cons p ps = sum_by-cons asked p ps

pub chosen_long : (ps : List SidePart) (ns : List ℤ) → sum_by asked ps ≤ length ns → length (chosen_by ps ns) ≡ length ps
chosen_long [] ns l = refl
chosen_long (part.One ∷ ps) [] l = let e = asked_cons part.One ps in absurd (omega (arith, l, e))
chosen_long (part.One ∷ ps) (v ∷ ns) l = let e = asked_cons part.One ps in ap suc (chosen_long ps ns (omega (arith, l, e)))
chosen_long (part.Many ∷ ps) [] l = let e = asked_cons part.Many ps in absurd (omega (arith, l, e))
chosen_long (part.Many ∷ ps) (a ∷ []) l = let e = asked_cons part.Many ps in absurd (omega (arith, l, e))
chosen_long (part.Many ∷ ps) (a ∷ b ∷ []) l = let e = asked_cons part.Many ps in absurd (omega (arith, l, e))
chosen_long (part.Many ∷ ps) (a ∷ b ∷ c ∷ ns) l = let e = asked_cons part.Many ps in ap suc (chosen_long ps ns (omega (arith, l, e)))

count_cons : (p : SidePart) (ps : List SidePart) → count_by is_section (p ∷ ps) ≡ cond (is_section p) 1 0 + count_by is_section ps
count_cons p ps = sum_by-cons (λ p. cond (is_section p) 1 0) p ps

pub lengths_long : (ps : List SidePart) (ns : List ℤ) → sum_by asked ps ≤ length ns → length (lengths (chosen_by ps ns)) ≡ count_by is_section ps
lengths_long [] ns l = refl
lengths_long (part.One ∷ ps) [] l = let e = asked_cons part.One ps in absurd (omega (arith, l, e))
lengths_long (part.One ∷ ps) (v ∷ ns) l = let e = asked_cons part.One ps in let k = count_cons part.One ps in let i = lengths_long ps ns (omega (arith, l, e)) in omega (arith, i, k)
lengths_long (part.Many ∷ ps) [] l = let e = asked_cons part.Many ps in absurd (omega (arith, l, e))
lengths_long (part.Many ∷ ps) (a ∷ []) l = let e = asked_cons part.Many ps in absurd (omega (arith, l, e))
lengths_long (part.Many ∷ ps) (a ∷ b ∷ []) l = let e = asked_cons part.Many ps in absurd (omega (arith, l, e))
lengths_long (part.Many ∷ ps) (a ∷ b ∷ c ∷ ns) l = let e = asked_cons part.Many ps in let k = count_cons part.Many ps in let i = lengths_long ps ns (omega (arith, l, e)) in omega (arith, i, k)

pub drop_long : {A : Type 0} (n : ℕ) (xs : List A) → length (drop n xs) ≡ length xs - n
drop_long zero xs = omega arith
drop_long (suc n) [] = omega arith
drop_long (suc n) (x ∷ xs) = let i = drop_long n xs in omega (arith, i)

counts_are : (cs : List Chosen) → cells.counts cs ≡ map natural (lengths cs)
unfolding cells.counts
counts_are [] = refl
counts_are (One v ∷ cs) = counts_are cs
counts_are (Many b n s ∷ cs) = ap (λ r. natural n ∷ r) (counts_are cs)

pub no_items : {A : Type 0} (xs : List A) → length xs ≡ 0 → xs ≡ []
no_items [] l = refl
no_items (x ∷ xs) l = absurd (omega (arith, l))

pub all_small : (es : List ℕ) → IsTrue (list_all is_extent es) → AllSmall es
all_small es h = go es (to_true (list_all is_extent es) h)
  where
    to_true : (b : Bool) → IsTrue b → b ≡ true
    to_true b h = grind (arith, nat_tests)

    small : (e : ℕ) → is_extent e ≡ true → (1 ≤ e) × (e ≤ 4194304)
    small e h = (grind (arith, nat_tests), grind (arith, nat_tests))

    go : (es : List ℕ) → list_all is_extent es ≡ true → AllSmall es
    go [] h = tt
    go (e ∷ es) h = (small e (and_left (is_extent e) (list_all is_extent es) h), go es (and_right (is_extent e) (list_all is_extent es) h))

-- ---- the pairs of a transfer

-- all that a plan stands on
pub record IsGathered (kind : MoveKind) (args : List ℤ) : Type 0 where
  pub pairs : PairsAre (pairs_of kind args) (target_picks kind args) (source_picks kind args) (filled 1 (target_of kind).extents) (filled 1 (source_of kind).extents)
  pub target_long : (p : Pair) → IsIn p (pairs_of kind args) → length p.0 ≡ length (target_of kind).extents
  pub source_long : (p : Pair) → IsIn p (pairs_of kind args) → length p.1 ≡ length (source_of kind).extents

-- the same pairs, by places
module _ (target source : Side) (ty : Ty) (args : List ℤ) (tc sc : List Chosen) (lt : length tc ≡ length target.extents) (ls : length sc ≡ length source.extents)
    (t : SidePicks (target_picks (Gmove target source ty) args) tc target.extents) (s : SidePicks (source_picks (Gmove target source ty) args) sc source.extents)
    (follows : FollowsIt (cells.counts tc) (cells.counts sc)) where
  abbrev tp : List Pick
  tp = target_picks (Gmove target source ty) args

  abbrev sp : List Pick
  sp = source_picks (Gmove target source ty) args

  source_cell : FollowsIt (cells.counts tc) (cells.counts sc) → (places : List ℕ) → IsInside places (cells.counts tc) → cell_at sp places ≡ padded (cells.cell_at sc places)
  source_cell (inl none) places i = s.alone none places
  source_cell (inr same) places i = s.cells_are places (subst (IsInside places) (sym same) i)

  same_follows : FollowsIt (cells.counts tc) (cells.counts sc) → FollowsIt (counts tp) (counts sp)
  same_follows (inl none) = inl (s.counts_are ∙ none)
  same_follows (inr same) = inr (s.counts_are ∙ same ∙ sym t.counts_are)

  same_pairs : map (λ p. (padded p.0, padded p.1)) (cells.pairs_between tc sc) ≡ picked_pairs tp sp
  same_pairs =
      map_twice (λ places. (cells.cell_at tc places, cells.cell_at sc places)) (λ p. (padded p.0, padded p.1)) (cells.indices (cells.counts tc))
      ∙ map_same (λ places. (padded (cells.cell_at tc places), padded (cells.cell_at sc places))) (λ places. (cell_at tp places, cell_at sp places)) (cells.indices (cells.counts tc))
      (λ places i. let j = in_inside places (cells.counts tc) i in
      ap (λ c. (c, padded (cells.cell_at sc places))) (sym (t.cells_are places j)) ∙ ap (λ c. (cell_at tp places, c)) (sym (source_cell follows places j)))
      ∙ ap (λ ns. map (λ places. (cell_at tp places, cell_at sp places)) (cells.indices ns)) (sym t.counts_are)

  pairs_fit : PairsAre (cells.pairs_between tc sc) tp sp (filled 1 target.extents) (filled 1 source.extents)
  pairs_fit = record { same = same_pairs; target = t.fits; source = s.fits; follows = same_follows follows }

  long_of : (p : Pair) → IsIn p (cells.pairs_between tc sc) → (length p.0 ≡ length target.extents) × (length p.1 ≡ length source.extents)
  long_of p i =
      let a = in_map (λ places. (cells.cell_at tc places, cells.cell_at sc places)) (cells.indices (cells.counts tc)) p i in
      (ap (λ q. length q.0) a.same ∙ cell_length tc a.of ∙ lt, ap (λ q. length q.1) a.same ∙ cell_length sc a.of ∙ ls)

pub gmove_gathers : (target source : Side) (ty : Ty) (args : List ℤ) (node : ℕ) → IsLaidOut (Gmove target source ty) node → length args ≡ numbers_of (Gmove target source ty)
    → move_fault (Gmove target source ty) args ≡ None → IsGathered (Gmove target source ty) args
gmove_gathers target source ty args node laid many none =
    let tc : List Chosen = target_chosen target args in
    let sc : List Chosen = source_chosen target source args in
    let rest : List ℤ = drop (asked_of target) args in
    let dl : length rest ≡ length args - asked_of target = drop_long (asked_of target) args in
    let enough : asked_of target ≤ length args = omega (arith, many) in
    let left : asked_of source ≤ length rest = omega (arith, many, dl) in
    let lt : length tc ≡ length target.extents = chosen_long target.parts args enough ∙ laid.parts.0 in
    let ls : length sc ≡ length source.extents = chosen_long source.parts rest left ∙ laid.parts.1 in
    let ft : side_fault false target.extents tc ≡ None = first_none (side_fault false target.extents tc) (first_of (side_fault true source.extents sc) (lengths_fault tc sc)) none in
    let fo : first_of (side_fault true source.extents sc) (lengths_fault tc sc) ≡ None = rest_none (side_fault false target.extents tc) (first_of (side_fault true source.extents sc) (lengths_fault tc sc)) none in
    let fs : side_fault true source.extents sc ≡ None = first_none (side_fault true source.extents sc) (lengths_fault tc sc) fo in
    let fl : lengths_fault tc sc ≡ None = rest_none (side_fault true source.extents sc) (lengths_fault tc sc) fo in
    let st : AllSmall target.extents = all_small target.extents laid.extents.0 in
    let ss : AllSmall source.extents = all_small source.extents laid.extents.1.0 in
    let dt : length target.extents ≤ 3 = laid.dims.0 in
    let ds : length source.extents ≤ 3 = laid.dims.1.0 in
    let t : SidePicks (target_picks (Gmove target source ty) args) tc target.extents = picks_name false target.extents tc lt dt ft st in
    let s : SidePicks (source_picks (Gmove target source ty) args) sc source.extents = picks_name true source.extents sc ls ds fs ss in
    let nt : length (lengths tc) ≡ sections target = lengths_long target.parts args enough in
    let ns : length (lengths sc) ≡ sections source = lengths_long source.parts rest left in
    let follows : FollowsIt (cells.counts tc) (cells.counts sc) = follow tc sc nt ns laid.sections (lengths_good tc sc fl) in
    record {
      pairs = pairs_fit target source ty args tc sc lt ls t s follows;
      target_long = λ p i. (long_of target source ty args tc sc lt ls t s follows p i).0;
      source_long = λ p i. (long_of target source ty args tc sc lt ls t s follows p i).1;
    }
  where
    follow : (tc sc : List Chosen) → length (lengths tc) ≡ sections target → length (lengths sc) ≡ sections source → (sections source ≡ 0) ⊎ (sections source ≡ sections target)
        → fit (lengths tc) (lengths sc) ≡ true → FollowsIt (cells.counts tc) (cells.counts sc)
    follow tc sc nt ns (inl z) good = inl (counts_are sc ∙ ap (map natural) (no_items (lengths sc) (ns ∙ z)))
    follow tc sc nt ns (inr e) good = inr (counts_are sc ∙ ap (map natural) (fit_same (lengths tc) (lengths sc) (ns ∙ e ∙ sym nt) good) ∙ sym (counts_are tc))

pub reflect_gathers : (array : Side) (args : List ℤ) (node : ℕ) → IsLaidOut (Reflect array) node → IsGathered (Reflect array) args
reflect_gathers array args node laid =
    let es : List ℕ = array.extents in
    let w = whole_name es laid.dims.0 (all_small es laid.extents.0) in
    let long : (p : Pair) → IsIn p (selves (cells.indices es)) → (length p.0 ≡ length es) × (length p.1 ≡ length es) = λ p i.
    let a = in_map (λ c. (c, c)) (cells.indices es) p i in
    let l = inside_short a.of es (in_inside a.of es a.among) in
    (ap (λ q. length q.0) a.same ∙ l, ap (λ q. length q.1) a.same ∙ l) in
    record {
      pairs = record {
        same =
            map_twice (λ c. (c, c)) (λ p. (padded p.0, padded p.1)) (cells.indices es)
            ∙ map_same (λ c. (padded c, padded c)) (λ places. (cell_at (whole_picks es) places, cell_at (whole_picks es) places)) (cells.indices es)
            (λ c i. ap (λ d. (d, d)) (sym (w.cells_are c (in_inside c es i))))
            ∙ ap (λ ns. map (λ places. (cell_at (whole_picks es) places, cell_at (whole_picks es) places)) (cells.indices ns)) (sym w.counts_are);
        target = w.fits;
        source = w.fits;
        follows = inr refl;
      };
      target_long = λ p i. (long p i).0;
      source_long = λ p i. (long p i).1;
    }

-- ---- who gives what to whom

filter_none : {A : Type 0} (t : A → Bool) (xs : List A) → ((x : A) → IsIn x xs → t x ≡ false) → filter t xs ≡ []
filter_none t xs h = filter_same t (λ _. false) xs h ∙ nothing xs
  where
    nothing : {A : Type 0} (xs : List A) → filter (λ _. false) xs ≡ []
    nothing [] = refl
    nothing (x ∷ xs) = nothing xs

none_right : (a b : Bool) → b ≡ false → (a && b) ≡ false
none_right true b e = e
none_right false b e = refl

own_none : (h o : Bool) → ((h && not o) && o) ≡ false
own_none true true = refl
own_none true false = refl
own_none false o = refl

other_same : (h o f : Bool) → (f ≡ true → o ≡ false) → ((h && not o) && f) ≡ (h && f)
other_same h o true e = let z = e refl in rw z (and_both h)
  where
    and_both : (h : Bool) → ((h && true) && true) ≡ (h && true)
    and_both true = refl
    and_both false = refl
other_same true o false e = none_right (not o) false refl
other_same false o false e = refl

no_true : (b : Bool) → b ≡ false → IsTrue b → ⊥
no_true b e h = grind (arith, nat_tests)

-- one node owns a cell of a distributed array
pub one_owner : (h : Home) (es c : List ℕ) (from to : ℕ) → IsOfCode h → MapFits h es → IsInside c es → IsTrue (is_spread h) → HomeFits h (filled 1 es) from → HomeFits h (filled 1 es) to
    → from ≢ to → owns_cell h from c ≡ true → owns_cell h to c ≡ false
one_owner (home.Spread t m) es c from to three fits i spread ff ft ne owns = by_test (owns_cell (home.Spread t m) to c) refl
  where
    o : HasOwner (owns_cell (home.Spread t m)) (range_with_len 0 (held.node_count m)) c
    o = cells_are_owned t m es c three fits i

    by_test : (b : Bool) → owns_cell (home.Spread t m) to c ≡ b → b ≡ false
    by_test false e = refl
    by_test true e =
        let a = o.only from (in_range 0 (held.node_count m) from (omega arith) (let l = ff.1 in omega (arith, l))) owns in
        let b = o.only to (in_range 0 (held.node_count m) to (omega arith) (let l = ft.1 in omega (arith, l))) e in
        absurd (ne (a ∙ sym b))
one_owner home.Copy es c from to three fits i spread ff ft ne owns = absurd (no_true false refl spread)
one_owner home.Image es c from to three fits i spread ff ft ne owns = absurd (no_true false refl spread)

true_or : (b : Bool) → (b ≡ true) ⊎ (b ≡ false)
true_or true = inl refl
true_or false = inr refl

same_test : (m n : ℕ) → (m == n) ≡ true → m ≡ n
same_test m n h = grind (arith, nat_tests)

other_test : (m n : ℕ) → not (m == n) ≡ true → m ≢ n
other_test m n h e = grind (arith, nat_tests)

not_false : (b : Bool) → not b ≡ false → b ≡ true
not_false true e = refl
not_false false e = cc

-- which of the pairs a node needs and another gives, by the tests of three dimensions
pub tested : (kind : MoveKind) (args : List ℤ) (node from to : ℕ) → IsLaidOut kind node → IsOfCode (target_of kind).home → IsGathered kind args
    → HomeFits (target_of kind).home (filled 1 (target_of kind).extents) from → HomeFits (target_of kind).home (filled 1 (target_of kind).extents) to
    → may_give kind from to ≡ true → (p : Pair) → IsIn p (pairs_of kind args)
    → ((ways_of kind).needs to p.0 && (ways_of kind).gives from to p.1) ≡ (all_pass (needed_tests kind to) (padded p.0) && all_pass (owned_tests (source_of kind).home from) (padded p.1))
tested (Gmove target source ty) args node from to laid code g ff ft may p i =
    ap (λ b. b && gives_cell source.home from to p.1) (sym (owns_is target.home to p.0))
    ∙ ap (λ b. all_pass (owned_tests target.home to) (padded p.0) && b) (gives_is source.home from to p.1 ∙ ap (λ b. b && all_pass (owned_tests source.home from) (padded p.1)) may)
tested (Reflect array) args node from to laid code g ff ft may p i =
    let h : Home = array.home in
    let a = in_map (λ c. (c, c)) (cells.indices array.extents) p i in
    let c : List ℕ = a.of in
    let inside : IsInside c array.extents = in_inside c array.extents a.among in
    let e : (holds_cell h to c && not (owns_cell h to c) && owns_cell h from c) ≡ (all_pass (held_tests h to) (padded c) && all_pass (owned_tests h from) (padded c)) =
    and_group (holds_cell h to c) (not (owns_cell h to c)) (owns_cell h from c)
    ∙ other_same (holds_cell h to c) (owns_cell h to c) (owns_cell h from c)
    (λ o. one_owner h array.extents c from to code laid.maps.0 inside laid.spread ff ft (other_test from to may) o)
    ∙ ap (λ b. b && owns_cell h from c) (sym (holds_is h to c)) ∙ ap (λ b. all_pass (held_tests h to) (padded c) && b) (sym (owns_is h from c)) in
    subst (λ (p : Pair). ((holds_cell h to p.0 && not (owns_cell h to p.0)) && owns_cell h from p.1) ≡ (all_pass (held_tests h to) (padded p.0) && all_pass (owned_tests h from) (padded p.1)))
    (sym a.same) (sym (and_group (holds_cell h to c) (not (owns_cell h to c)) (owns_cell h from c)) ∙ e)
  where
    and_group : (a b c : Bool) → (a && b && c) ≡ ((a && b) && c)
    and_group true b c = refl
    and_group false b c = refl

-- where a node may give another nothing, nothing is due
pub nothing_due : (kind : MoveKind) (args : List ℤ) (from to : ℕ) → may_give kind from to ≡ false → due (ways_of kind) (pairs_of kind args) from to ≡ []
nothing_due (Gmove target source ty) args from to may =
    filter_none (λ p. owns_cell target.home to p.0 && gives_cell source.home from to p.1) (pairs_of (Gmove target source ty) args)
    (λ p i. none_right (owns_cell target.home to p.0) (gives_cell source.home from to p.1)
    (gives_is source.home from to p.1 ∙ ap (λ b. b && all_pass (owned_tests source.home from) (padded p.1)) may))
nothing_due (Reflect array) args from to may =
    let same : from ≡ to = same_test from to (not_false (from == to) may) in
    filter_none (λ p. (holds_cell array.home to p.0 && not (owns_cell array.home to p.0)) && owns_cell array.home from p.1) (selves (cells.indices array.extents))
    (λ p i. let a = in_map (λ c. (c, c)) (cells.indices array.extents) p i in
    subst (λ (p : Pair). ((holds_cell array.home to p.0 && not (owns_cell array.home to p.0)) && owns_cell array.home from p.1) ≡ false) (sym a.same)
    (ap (λ k. (holds_cell array.home to a.of && not (owns_cell array.home to a.of)) && owns_cell array.home k a.of) same
    ∙ own_none (holds_cell array.home to a.of) (owns_cell array.home to a.of)))

-- ---- the homes of the sides

first_fits : (h g : Home) (es : List ℕ) (k : ℕ) → IsOfCode h → MapFits h es → length es ≤ 3 → k < peers_in (grid_of h) (grid_of g) → HomeFits h (filled 1 es) k
first_fits (home.Spread t m) g es k code fits le lt = (map_extents t m es code fits le, lt)
first_fits home.Copy g es k code fits le lt = tt
first_fits home.Image g es k code fits le lt = tt

second_fits : (h g : Home) (es : List ℕ) (k : ℕ) → IsOfCode g → MapFits g es → length es ≤ 3 → AreOfOneGrid (grid_of h) (grid_of g) → k < peers_in (grid_of h) (grid_of g)
    → HomeFits g (filled 1 es) k
second_fits (home.Spread t m) (home.Spread u n) es k code fits le one lt = (map_extents u n es code fits le, subst (λ (r : Grid). k < product r.sizes) one lt)
second_fits home.Copy (home.Spread u n) es k code fits le one lt = (map_extents u n es code fits le, lt)
second_fits home.Image (home.Spread u n) es k code fits le one lt = (map_extents u n es code fits le, lt)
second_fits h home.Copy es k code fits le one lt = tt
second_fits h home.Image es k code fits le one lt = tt

-- what is known of both sides
pub record SidesFit (kind : MoveKind) (node : ℕ) : Type 0 where
  pub target_code : IsOfCode (target_of kind).home
  pub source_code : IsOfCode (source_of kind).home
  pub target_map : MapFits (target_of kind).home (target_of kind).extents
  pub source_map : MapFits (source_of kind).home (source_of kind).extents
  pub target_few : length (target_of kind).extents ≤ 3
  pub source_few : length (source_of kind).extents ≤ 3
  pub target_small : AllSmall (filled 1 (target_of kind).extents)
  pub source_small : AllSmall (filled 1 (source_of kind).extents)
  pub target_cells : product (filled 1 (target_of kind).extents) ≤ 4194304
  pub source_cells : product (filled 1 (source_of kind).extents) ≤ 4194304
  pub target_words : (target_of kind).base + words_in (target_of kind) node ≤ 2 ^ 32
  pub source_words : (source_of kind).base + words_in (source_of kind) node ≤ 2 ^ 32
  pub target_home : (k : ℕ) → k < peers_of kind → HomeFits (target_of kind).home (filled 1 (target_of kind).extents) k
  pub source_home : (k : ℕ) → k < peers_of kind → HomeFits (source_of kind).home (filled 1 (source_of kind).extents) k

small_filled : (es : List ℕ) → AllSmall es → AllSmall (filled 1 es)
small_filled [] s = ((omega arith, omega arith), ((omega arith, omega arith), ((omega arith, omega arith), tt)))
small_filled (a ∷ []) s = (s.0, ((omega arith, omega arith), ((omega arith, omega arith), tt)))
small_filled (a ∷ b ∷ []) s = (s.0, (s.1.0, ((omega arith, omega arith), tt)))
small_filled (a ∷ b ∷ c ∷ rest) s = (s.0, (s.1.0, (s.1.1.0, tt)))

cells_filled : (es : List ℕ) → length es ≤ 3 → product es ≤ 4194304 → product (filled 1 es) ≤ 4194304
cells_filled es le h = rw (filled_is 1 es le, product_pad (3 - length es) es) h

pub sides_fit : (kind : MoveKind) (node : ℕ) → IsLaidOut kind node → IsOfCode (target_of kind).home → IsOfCode (source_of kind).home → SidesFit kind node
sides_fit (Gmove target source ty) node laid ct cs = record {
  target_code = ct;
  source_code = cs;
  target_map = laid.maps.0;
  source_map = laid.maps.1.0;
  target_few = laid.dims.0;
  source_few = laid.dims.1.0;
  target_small = small_filled target.extents (all_small target.extents laid.extents.0);
  source_small = small_filled source.extents (all_small source.extents laid.extents.1.0);
  target_cells = cells_filled target.extents laid.dims.0 laid.cells.0;
  source_cells = cells_filled source.extents laid.dims.1.0 laid.cells.1.0;
  target_words = laid.words.0;
  source_words = laid.words.1.0;
  target_home = λ k l. first_fits target.home source.home target.extents k ct laid.maps.0 laid.dims.0 l;
  source_home = λ k l. second_fits target.home source.home source.extents k cs laid.maps.1.0 laid.dims.1.0 laid.grid l;
}
sides_fit (Reflect array) node laid ct cs = record {
  target_code = ct;
  source_code = cs;
  target_map = laid.maps.0;
  source_map = laid.maps.0;
  target_few = laid.dims.0;
  source_few = laid.dims.0;
  target_small = small_filled array.extents (all_small array.extents laid.extents.0);
  source_small = small_filled array.extents (all_small array.extents laid.extents.0);
  target_cells = cells_filled array.extents laid.dims.0 laid.cells.0;
  source_cells = cells_filled array.extents laid.dims.0 laid.cells.0;
  target_words = laid.words.0;
  source_words = laid.words.0;
  target_home = λ k l. first_fits array.home array.home array.extents k ct laid.maps.0 laid.dims.0 l;
  source_home = λ k l. first_fits array.home array.home array.extents k ct laid.maps.0 laid.dims.0 l;
}

pub gathers : (kind : MoveKind) (args : List ℤ) (node : ℕ) → IsLaidOut kind node → length args ≡ numbers_of kind → move_fault kind args ≡ None → IsGathered kind args
gathers (Gmove target source ty) args node laid many none = gmove_gathers target source ty args node laid many none
gathers (Reflect array) args node laid many none = reflect_gathers array args node laid

-- ---- the lists are words of the sides

all_slots : (P : ℕ → Type 0) (f : Pair → ℕ) (ps : List Pair) → ((p : Pair) → IsIn p ps → P (f p)) → All P (map f ps)
unfolding IsIn
all_slots P f [] h = All-nil P
all_slots P f (p ∷ ps) h = All-cons P (f p) (map f ps) (h p (inl refl)) (all_slots P f ps (λ q i. h q (inr i)))

holds_owned : (h : Home) (es c : List ℕ) (node : ℕ) → IsOfCode h → MapFits h es → IsInside c es → HomeFits h (filled 1 es) node → owns_cell h node c ≡ true → holds_cell h node c ≡ true
holds_owned (home.Spread t m) es c node code fits i hf o = owners_hold t m es c node code fits i hf.1 o
holds_owned home.Copy es c node code fits i hf o = refl
holds_owned home.Image es c node code fits i hf o = refl

gives_held : (h : Home) (es c : List ℕ) (node to : ℕ) → IsOfCode h → MapFits h es → IsInside c es → HomeFits h (filled 1 es) node → gives_cell h node to c ≡ true → holds_cell h node c ≡ true
gives_held (home.Spread t m) es c node to code fits i hf o = owners_hold t m es c node code fits i hf.1 o
gives_held home.Copy es c node to code fits i hf o = refl
gives_held home.Image es c node to code fits i hf o = refl

needs_held : (kind : MoveKind) (c : List ℕ) (node : ℕ) → IsOfCode (target_of kind).home → MapFits (target_of kind).home (target_of kind).extents → IsInside c (target_of kind).extents
    → HomeFits (target_of kind).home (filled 1 (target_of kind).extents) node → (ways_of kind).needs node c ≡ true → holds_cell (target_of kind).home node c ≡ true
needs_held (Gmove target source ty) c node code fits i hf o = holds_owned target.home target.extents c node code fits i hf o
needs_held (Reflect array) c node code fits i hf o = and_left (holds_cell array.home node c) (not (owns_cell array.home node c)) o

gives_source : (kind : MoveKind) (c : List ℕ) (node to : ℕ) → IsOfCode (source_of kind).home → MapFits (source_of kind).home (source_of kind).extents → IsInside c (source_of kind).extents
    → HomeFits (source_of kind).home (filled 1 (source_of kind).extents) node → (ways_of kind).gives node to c ≡ true → holds_cell (source_of kind).home node c ≡ true
gives_source (Gmove target source ty) c node to code fits i hf o = gives_held source.home source.extents c node to code fits i hf o
gives_source (Reflect array) c node to code fits i hf o = holds_owned array.home array.extents c node code fits i hf o

out_slot : (kind : MoveKind) (node : ℕ) (c : List ℕ) → (ways_of kind).out_of node c ≡ slot_in (source_of kind) node c
out_slot (Gmove target source ty) node c = refl
out_slot (Reflect array) node c = refl

into_slot : (kind : MoveKind) (node : ℕ) (c : List ℕ) → (ways_of kind).into node c ≡ slot_in (target_of kind) node c
into_slot (Gmove target source ty) node c = refl
into_slot (Reflect array) node c = refl

pub sent_inside : (kind : MoveKind) (args : List ℤ) (node to : ℕ) → SidesFit kind node → IsGathered kind args → node < peers_of kind → AreWordsOf (source_of kind) node (sends_to kind args node to)
sent_inside kind args node to f g lt =
    let w : Ways = ways_of kind in
    let ps : List Pair = pairs_of kind args in
    let s : Side = source_of kind in
    all_slots (λ n. n < s.base + words_in s node) (λ p. w.out_of node p.1) (due w ps node to)
    (λ p i. let j = in_filter (λ p. w.needs to p.0 && w.gives node to p.1) ps p i in
    let b = pair_below ps (target_picks kind args) (source_picks kind args) (filled 1 (target_of kind).extents) (filled 1 s.extents) p g.pairs j.0 in
    let inside : IsInside p.1 s.extents = inside_of p.1 s.extents f.source_few (g.source_long p j.0) b.source in
    let held = gives_source kind p.1 node to f.source_code f.source_map inside (f.source_home node lt) (and_right (w.needs to p.0) (w.gives node to p.1) j.1) in
    let k = slot_below s node p.1 f.source_code f.source_map inside held in
    let e = out_slot kind node p.1 in
    omega (arith, k, e))

pub filled_inside : (kind : MoveKind) (args : List ℤ) (node from : ℕ) → SidesFit kind node → IsGathered kind args → node < peers_of kind → AreWordsOf (target_of kind) node (fills_from kind args node from)
filled_inside kind args node from f g lt =
    let w : Ways = ways_of kind in
    let ps : List Pair = pairs_of kind args in
    let s : Side = target_of kind in
    all_slots (λ n. n < s.base + words_in s node) (λ p. w.into node p.0) (due w ps from node)
    (λ p i. let j = in_filter (λ p. w.needs node p.0 && w.gives from node p.1) ps p i in
    let b = pair_below ps (target_picks kind args) (source_picks kind args) (filled 1 s.extents) (filled 1 (source_of kind).extents) p g.pairs j.0 in
    let inside : IsInside p.0 s.extents = inside_of p.0 s.extents f.target_few (g.target_long p j.0) b.target in
    let held = needs_held kind p.0 node f.target_code f.target_map inside (f.target_home node lt) (and_left (w.needs node p.0) (w.gives from node p.1) j.1) in
    let k = slot_below s node p.0 f.target_code f.target_map inside held in
    let e = into_slot kind node p.0 in
    omega (arith, k, e))

-- ---- the list of one node

no_truth : false ≡ true → ⊥
no_truth e = cc

-- what a list between two nodes stands on, and which list it is
pub record ListIs (due_flag : Bool) (base : ℕ) (needs gives slots : List Axis) (list : List ℕ) : Type 0 where
  pub fits : CanGather due_flag base needs gives slots
  pub same : (if due_flag then gathered base needs gives slots else []) ≡ list

small_of : (base words : ℕ) (xs list : List ℕ) → map (λ r. base + r) xs ≡ list → base + words ≤ 2 ^ 32 → All (λ s. s < base + words) list → All (λ r. base + r < 2 ^ 32) xs
small_of base words xs list e most all = unmap xs (subst (All (λ s. s < base + words)) (sym e) all)
  where
    unmap : (xs : List ℕ) → All (λ s. s < base + words) (map (λ r. base + r) xs) → All (λ r. base + r < 2 ^ 32) xs
    unmap [] h = All-nil (λ r. base + r < 2 ^ 32)
    unmap (x ∷ xs) h =
        let lt : base + x < base + words = All-head (λ s. s < base + words) (base + x) (map (λ r. base + r) xs) h in
        All-cons (λ r. base + r < 2 ^ 32) x xs (omega (arith, lt, most)) (unmap xs (All-tail (λ s. s < base + words) (base + x) (map (λ r. base + r) xs) h))

three_long : (axes : List Axis) (es : List ℕ) (ps : List Pick) (ts : List (ℕ → Bool)) → IsAxes axes (filled 1 es) ps ts → length axes ≤ 3
three_long axes es ps ts f = let l = lengths_are axes (filled 1 es) ps ts f in let n = filled_three es in let a = l.0 in omega (arith, a, n)

follow_axes : (ns ms : List Pick) (tp sp : List Pick) → ns ≡ tp → ms ≡ sp → FollowsIt (counts tp) (counts sp) → FollowsIt (counts ns) (counts ms)
follow_axes ns ms tp sp en em f = rw (en, em) f

module _ (kind : MoveKind) (args : List ℤ) (node : ℕ) (laid : IsLaidOut kind node) (many : length args ≡ numbers_of kind) (none : move_fault kind args ≡ None)
    (ct : IsOfCode (target_of kind).home) (cs : IsOfCode (source_of kind).home) (lt : node < peers_of kind) where
  abbrev tps : List Pick
  tps = target_picks kind args

  abbrev sps : List Pick
  sps = source_picks kind args

  abbrev tes : List ℕ
  tes = filled 1 (target_of kind).extents

  abbrev ses : List ℕ
  ses = filled 1 (source_of kind).extents

  f : SidesFit kind node
  f = sides_fit kind node laid ct cs

  g : IsGathered kind args
  g = gathers kind args node laid many none

  pub sent_is : (to : ℕ) (needs gives slots : List Axis) → to < peers_of kind → IsAxes needs tes tps (needed_tests kind to) → IsAxes gives ses sps (owned_tests (source_of kind).home node)
      → IsAxes slots ses sps (held_tests (source_of kind).home node)
      → ListIs (may_give kind node to) (source_of kind).base needs gives (weighted slots) (sends_to kind args node to)
  sent_is to needs gives slots l need give slot = by_flag (may_give kind node to) refl
    where
      w : Ways
      w = ways_of kind

      is : may_give kind node to ≡ true → gathered (source_of kind).base needs gives (weighted slots) ≡ sends_to kind args node to
      is may =
          let pn = picks_are needs tes tps (needed_tests kind to) need in
          let pg = picks_are gives ses sps (owned_tests (source_of kind).home node) give in
          let po = (weighted_same slots).0 ∙ picks_are slots ses sps (held_tests (source_of kind).home node) slot in
          rw (pn, pg, po)
          (sym (out_is w (pairs_of kind args) node to tps sps tes ses g.pairs needs gives (needed_tests kind to) (owned_tests (source_of kind).home node) need give
          (tested kind args node node to laid ct g (f.target_home node lt) (f.target_home to l) may)
          (source_of kind).base slots (held_tests (source_of kind).home node) (λ p. w.out_of node p.1) slot
          (λ p i. let b = pair_below (pairs_of kind args) tps sps tes ses p g.pairs i in
          out_slot kind node p.1 ∙ sym (slot_is (source_of kind) node slots sps p.1 cs f.source_map f.source_few slot b.source (g.source_long p i)))))

      by_flag : (b : Bool) → may_give kind node to ≡ b → ListIs b (source_of kind).base needs gives (weighted slots) (sends_to kind args node to)
      by_flag true may = record {
        fits = record {
          needs_fit = axes_fit needs tes tps (needed_tests kind to) need g.pairs.target f.target_small;
          gives_fit = axes_fit gives ses sps (owned_tests (source_of kind).home node) give g.pairs.source f.source_small;
          slots_fit = weighted_fit slots ses sps (held_tests (source_of kind).home node) slot g.pairs.source f.source_small f.source_cells;
          source_follows = follow_axes (picks needs) (picks gives) tps sps (picks_are needs tes tps (needed_tests kind to) need) (picks_are gives ses sps (owned_tests (source_of kind).home node) give) g.pairs.follows;
          slots_follow = follow_axes (picks needs) (picks (weighted slots)) tps sps (picks_are needs tes tps (needed_tests kind to) need)
              ((weighted_same slots).0 ∙ picks_are slots ses sps (held_tests (source_of kind).home node) slot) g.pairs.follows;
          few = three_long needs (target_of kind).extents tps (needed_tests kind to) need;
          few_slots = let n = (weighted_same slots).2 in let m = three_long slots (source_of kind).extents sps (held_tests (source_of kind).home node) slot in omega (arith, n, m);
          small = λ _. small_of (source_of kind).base (words_in (source_of kind) node) _ (sends_to kind args node to) (is may) f.source_words (sent_inside kind args node to f g lt);
        };
        same = is may;
      }
      by_flag false may = record {
        fits = record {
          needs_fit = axes_fit needs tes tps (needed_tests kind to) need g.pairs.target f.target_small;
          gives_fit = axes_fit gives ses sps (owned_tests (source_of kind).home node) give g.pairs.source f.source_small;
          slots_fit = weighted_fit slots ses sps (held_tests (source_of kind).home node) slot g.pairs.source f.source_small f.source_cells;
          source_follows = follow_axes (picks needs) (picks gives) tps sps (picks_are needs tes tps (needed_tests kind to) need) (picks_are gives ses sps (owned_tests (source_of kind).home node) give) g.pairs.follows;
          slots_follow = follow_axes (picks needs) (picks (weighted slots)) tps sps (picks_are needs tes tps (needed_tests kind to) need)
              ((weighted_same slots).0 ∙ picks_are slots ses sps (held_tests (source_of kind).home node) slot) g.pairs.follows;
          few = three_long needs (target_of kind).extents tps (needed_tests kind to) need;
          few_slots = let n = (weighted_same slots).2 in let m = three_long slots (source_of kind).extents sps (held_tests (source_of kind).home node) slot in omega (arith, n, m);
          small = λ e. absurd (no_truth e);
        };
        same = sym (ap (map (λ p. w.out_of node p.1)) (nothing_due kind args node to may));
      }

  pub filled_is_list : (from : ℕ) (needs gives slots : List Axis) → from < peers_of kind → IsAxes needs tes tps (needed_tests kind node) → IsAxes gives ses sps (owned_tests (source_of kind).home from)
      → IsAxes slots tes tps (held_tests (target_of kind).home node)
      → ListIs (may_give kind from node) (target_of kind).base needs gives (weighted slots) (fills_from kind args node from)
  filled_is_list from needs gives slots l need give slot = by_flag (may_give kind from node) refl
    where
      w : Ways
      w = ways_of kind

      is : may_give kind from node ≡ true → gathered (target_of kind).base needs gives (weighted slots) ≡ fills_from kind args node from
      is may =
          let pn = picks_are needs tes tps (needed_tests kind node) need in
          let pg = picks_are gives ses sps (owned_tests (source_of kind).home from) give in
          let po = (weighted_same slots).0 ∙ picks_are slots tes tps (held_tests (target_of kind).home node) slot in
          rw (pn, pg, po)
          (sym (into_is w (pairs_of kind args) from node tps sps tes ses g.pairs needs gives (needed_tests kind node) (owned_tests (source_of kind).home from) need give
          (tested kind args node from node laid ct g (f.target_home from l) (f.target_home node lt) may)
          (target_of kind).base slots (held_tests (target_of kind).home node) (λ p. w.into node p.0) slot
          (λ p i. let b = pair_below (pairs_of kind args) tps sps tes ses p g.pairs i in
          into_slot kind node p.0 ∙ sym (slot_is (target_of kind) node slots tps p.0 ct f.target_map f.target_few slot b.target (g.target_long p i)))))

      fits_when : (b : Bool) → (b ≡ true → All (λ r. (target_of kind).base + r < 2 ^ 32) (due_slots (picks needs) (picks gives) (picks (weighted slots)) (tests needs) (tests gives) (adds (weighted slots))))
          → CanGather b (target_of kind).base needs gives (weighted slots)
      fits_when b small = record {
        needs_fit = axes_fit needs tes tps (needed_tests kind node) need g.pairs.target f.target_small;
        gives_fit = axes_fit gives ses sps (owned_tests (source_of kind).home from) give g.pairs.source f.source_small;
        slots_fit = weighted_fit slots tes tps (held_tests (target_of kind).home node) slot g.pairs.target f.target_small f.target_cells;
        source_follows = follow_axes (picks needs) (picks gives) tps sps (picks_are needs tes tps (needed_tests kind node) need) (picks_are gives ses sps (owned_tests (source_of kind).home from) give) g.pairs.follows;
        slots_follow = follow_axes (picks needs) (picks (weighted slots)) tps tps (picks_are needs tes tps (needed_tests kind node) need)
            ((weighted_same slots).0 ∙ picks_are slots tes tps (held_tests (target_of kind).home node) slot) (inr refl);
        few = three_long needs (target_of kind).extents tps (needed_tests kind node) need;
        few_slots = let n = (weighted_same slots).2 in let m = three_long slots (target_of kind).extents tps (held_tests (target_of kind).home node) slot in omega (arith, n, m);
        small = small;
      }

      by_flag : (b : Bool) → may_give kind from node ≡ b → ListIs b (target_of kind).base needs gives (weighted slots) (fills_from kind args node from)
      by_flag true may = record {
        fits = fits_when true (λ _. small_of (target_of kind).base (words_in (target_of kind) node) _ (fills_from kind args node from) (is may) f.target_words (filled_inside kind args node from f g lt));
        same = is may;
      }
      by_flag false may = record {
        fits = fits_when false (λ e. absurd (no_truth e));
        same = sym (ap (map (λ p. w.into node p.0)) (nothing_due kind args from node may));
      }

pub moved : (axes : List Axis) (es fs : List ℕ) (ps qs : List Pick) (ts us : List (ℕ → Bool)) → es ≡ fs → ps ≡ qs → ts ≡ us → IsAxes axes es ps ts → IsAxes axes fs qs us
moved axes es fs ps qs ts us ee ep et a = rw (← ee, ← ep, ← et) a

pub axes_good : (axes : List Axis) (es : List ℕ) (ps : List Pick) (ts : List (ℕ → Bool)) → IsAxes axes es ps ts → ArePicks ps es → AllSmall es → product es ≤ 4194304
    → AxesFit axes × (product (drop 1 (extents axes)) ≤ 4194304)
axes_good axes es ps ts a p small cells = (axes_fit axes es ps ts a p small, rw (extents_are axes es ps ts a) (later_small es small cells))
