-- The first sections of the sides of a transfer.
use Rattle.std.proofs.Common.{◌≡◌, ℕ, zero, suc, ◌+◌, ◌*◌, ◌<◌, ◌≤◌, ◌⊎◌, inl, inr, Bool, true, false, List, [], ◌∷◌, ◌++◌, refl, sym, ◌∙◌, ap, arith, length, map, subst, cond, min, Option, Some, None}
use Rattle.std.specs.Prelude.{MatchOption, filter, ◌&&◌, ◌^◌, ◌-◌, All, nat_le, nat_lt}
use Rattle.std.proofs.lemmas.Bool.Decides.{nat_tests}
use Rattle.std.specs.List.{range_with_len, flat_map}
use Rattle.std.proofs.lemmas.List.Elements.{All-nil, All-cons, All-head, All-tail}
use Rattle.xmp_dist.specs.Count.{count_below}
use Rattle.xmp_move.specs.declared.pick.Pick.{Pick}
use Rattle.xmp_move.specs.declared.pick.Pick.TheVariants.{Single, Section}
use Rattle.xmp_move.specs.declared.reach.Reach.TheVariants.{Span}
use Rattle.xmp_move.specs.declared.axis.Axis.{Axis}
use Rattle.xmp_move.specs.declared.leg.Walk.{Walk}
use Rattle.xmp_move.specs.declared.leg.Leg.{Leg}
use Rattle.xmp_move.specs.Stores.{IsIn}
use Rattle.xmp_move.specs.Picks.{counts, by_place, singles_pass, singles_total, PickFits}
use Rattle.xmp_move.specs.Reaches.{reaches, position_in}
use Rattle.xmp_move.specs.Axes.{picks, tests, adds, adds_at, at, AxisFits, AxesFit, WalkFits, IsSection}
use Rattle.xmp_move.specs.Legs.{LegFits, share_of}
use Rattle.xmp_move.specs.Sums.{share, shares, both, filled_up, due_shares, due_slots, sums, three_sums}
use Rattle.xmp_move.specs.Gathers.{FollowsIt, IsFirstOf, IsFollowed, IsLeg}
use Rattle.xmp_move.proofs.Boxes.{range_in}
use Rattle.xmp_move.proofs.DueSlots.{filter_same, map_same}
use Rattle.xmp_move.proofs.Members.{in_filter}
use Rattle.xmp_move.proofs.LegLaws.{adds_small}
use Rattle.xmp_move.proofs.SumLaws.{three_are}

-- ---- the first section of a side

here_is : (first count step : ℕ) (ps : List Pick) (p : Pick) → p ≡ Section first count step → counts (p ∷ ps) ≡ count ∷ counts ps
unfolding counts
here_is first count step ps p e = rw e refl

here_by : {A : Type 0} (first count step : ℕ) (ps : List Pick) (p : Pick) (f : ℕ → A) (fs : List (ℕ → A)) → p ≡ Section first count step
    → by_place (p ∷ ps) (f ∷ fs) ≡ (λ k. f (first + k * step)) ∷ by_place ps fs
unfolding by_place
here_by first count step ps p f fs e = rw e refl

behind_is : (x : ℕ) (ps : List Pick) (p : Pick) → p ≡ Single x → counts (p ∷ ps) ≡ counts ps
unfolding counts
behind_is x ps p e = rw e refl

behind_by : {A : Type 0} (x : ℕ) (ps : List Pick) (p : Pick) (f : ℕ → A) (fs : List (ℕ → A)) → p ≡ Single x → by_place (p ∷ ps) (f ∷ fs) ≡ by_place ps fs
unfolding by_place
behind_by x ps p f fs e = rw e refl

section_here_of : (rest : List Axis) (axis : Axis) (first count step : ℕ) → axis.pick ≡ Section first count step → AxesFit (axis ∷ rest)
    → IsSection (axis ∷ rest) count (record { first = first; step = step }) axis rest
section_here_of rest axis first count step is fits =
    let f = fits.0 in
    let p : PickFits (Section first count step) axis.extent = subst (λ p. PickFits p axis.extent) is f.pick in
    record {
      counts = here_is first count step (picks rest) axis.pick is;
      tests = here_by first count step (picks rest) axis.pick (reaches axis.reach) (tests rest) is;
      adds = here_by first count step (picks rest) axis.pick (adds_at axis) (adds rest) is;
      count_fits = p.2;
      walk_fits = record { step = (p.0, p.1); inside = p.3; small = f.extent };
      axis_fits = f;
      rest_fits = fits.1;
      fewer = omega arith;
    }

pub section_here : (axes rest : List Axis) (axis : Axis) (first count step : ℕ) → axes ≡ axis ∷ rest → axis.pick ≡ Section first count step → AxesFit axes
    → IsSection axes count (record { first = first; step = step }) axis rest
section_here axes rest axis first count step e is fit =
    subst (λ l. IsSection l count (record { first = first; step = step }) axis rest) (sym e) (section_here_of rest axis first count step is (subst AxesFit e fit))

section_behind_of : (axis : Axis) (axes : List Axis) (x : ℕ) (count : ℕ) (walk : Walk) (found : Axis) (rest : List Axis) → axis.pick ≡ Single x
    → IsSection axes count walk found rest → IsSection (axis ∷ axes) count walk found rest
section_behind_of axis axes x count walk found rest is s =
    let l = s.fewer in
    record {
      counts = behind_is x (picks axes) axis.pick is ∙ s.counts;
      tests = behind_by x (picks axes) axis.pick (reaches axis.reach) (tests axes) is ∙ s.tests;
      adds = behind_by x (picks axes) axis.pick (adds_at axis) (adds axes) is ∙ s.adds;
      count_fits = s.count_fits;
      walk_fits = s.walk_fits;
      axis_fits = s.axis_fits;
      rest_fits = s.rest_fits;
      fewer = omega (arith, l);
    }

pub section_behind : (all axes : List Axis) (axis : Axis) (x : ℕ) (count : ℕ) (walk : Walk) (found : Axis) (rest : List Axis) → all ≡ axis ∷ axes → axis.pick ≡ Single x
    → IsSection axes count walk found rest → IsSection all count walk found rest
section_behind all axes axis x count walk found rest e is s =
    subst (λ l. IsSection l count walk found rest) (sym e) (section_behind_of axis axes x count walk found rest is s)

pub none_behind : (all axes : List Axis) (axis : Axis) (x : ℕ) → all ≡ axis ∷ axes → axis.pick ≡ Single x → counts (picks axes) ≡ [] → counts (picks all) ≡ []
none_behind all axes axis x e is none = ap (λ l. counts (picks l)) e ∙ behind_is x (picks axes) axis.pick is ∙ none

-- ---- the section that follows

by_none : {A : Type 0} (ps : List Pick) (fs : List (ℕ → A)) → counts ps ≡ [] → by_place ps fs ≡ []
unfolding counts by_place
by_none [] fs e = refl
by_none (Single x ∷ ps) [] e = refl
by_none (Single x ∷ ps) (f ∷ fs) e = by_none ps fs e
by_none (Section first count step ∷ ps) fs e = cc

each_test : (k count limit : ℕ) → k < count → count ≤ limit → (nat_le 0 (0 + k * 1) && nat_lt (0 + k * 1) limit) ≡ true
each_test k count limit lt le = grind (arith, nat_tests)

-- a dimension in which each place passes and adds nothing
abbrev pub neutral : Axis
neutral = record { extent = 4194304; pick = Single 0; reach = Span 0 4194304; weight = 0 }

abbrev pub each : Walk
each = record { first = 0; step = 1 }

each_fits : (count : ℕ) → count ≤ 4194304 → WalkFits each count 4194304
each_fits count small = record { step = (omega arith, omega arith); inside = λ k l. omega (arith, l, small); small = omega arith }

neutral_fits : AxisFits neutral
neutral_fits = record { pick = omega arith; reach = omega arith; extent = omega arith; weight = omega arith }

adds_none : (n : ℕ) → n * 0 ≡ 0
adds_none n = omega arith

pub followed_none : (count : ℕ) (axes : List Axis) → counts (picks axes) ≡ [] → AxesFit axes → count ≤ 4194304 → IsFollowed count axes each neutral axes
followed_none count axes none fits small = record {
  counts = λ ns f. inl none;
  tests = inr (by_none (picks axes) (tests axes) none, by_none (picks axes) (tests axes) none, λ k l. each_test k count 4194304 l small);
  adds = inr (by_none (picks axes) (adds axes) none, by_none (picks axes) (adds axes) none, λ k l. adds_none (position_in (Span 0 4194304) (at each k)));
  walk_fits = λ ns f. each_fits count small;
  axis_fits = neutral_fits;
  rest_fits = fits;
}

no_cons : {A : Type 0} (x : A) (xs : List A) → x ∷ xs ≡ [] → ⊥
no_cons x xs e = cc

cons_head : (x y : ℕ) (xs ys : List ℕ) → x ∷ xs ≡ y ∷ ys → x ≡ y
cons_head x y xs ys e = cc

cons_tail : (x y : ℕ) (xs ys : List ℕ) → x ∷ xs ≡ y ∷ ys → xs ≡ ys
cons_tail x y xs ys e = cc

same_count : (count n : ℕ) (ns ms all : List ℕ) → all ≡ n ∷ ms → FollowsIt (count ∷ ns) all → (n ≡ count) × (ms ≡ ns)
same_count count n ns ms all e (inl none) = absurd (no_cons n ms (sym e ∙ none))
same_count count n ns ms all e (inr same) = let t : n ∷ ms ≡ count ∷ ns = sym e ∙ same in (cons_head n count ms ns t, cons_tail n count ms ns t)

pub followed_some : (count n : ℕ) (axes rest : List Axis) (walk : Walk) (axis : Axis) → IsSection axes n walk axis rest → IsFollowed count axes walk axis rest
followed_some count n axes rest walk axis s = record {
  counts = λ ns f. inr (same_count count n ns (counts (picks rest)) (counts (picks axes)) s.counts f).1;
  tests = inl s.tests;
  adds = inl s.adds;
  walk_fits = λ ns f. subst (λ n. WalkFits walk n axis.extent) (same_count count n ns (counts (picks rest)) (counts (picks axes)) s.counts f).0 s.walk_fits;
  axis_fits = s.axis_fits;
  rest_fits = s.rest_fits;
}

-- ---- one more section of a transfer

share_same : (t u : ℕ → Bool) (f g : ℕ → ℕ) (n : ℕ) → ((k : ℕ) → k < n → t k ≡ u k) → ((k : ℕ) → k < n → f k ≡ g k) → share t f n ≡ share u g n
share_same t u f g n tests adds =
    map_same f g (filter t (range_with_len 0 n)) (λ k i. let r = range_in 0 n k (in_filter t (range_with_len 0 n) k i).0 in adds k (omega (arith, r)))
    ∙ ap (map g) (filter_same t u (range_with_len 0 n) (λ k i. let r = range_in 0 n k i in tests k (omega (arith, r))))

and_true : (a b : Bool) → b ≡ true → a ≡ (a && b)
and_true true b e = sym e
and_true false b e = refl

shares_with : (ps qs : List (ℕ → Bool)) (gs : List (ℕ → ℕ)) (p q : ℕ → Bool) (qs' : List (ℕ → Bool)) (g : ℕ → ℕ) (gs' : List (ℕ → ℕ)) (n : ℕ) (ns : List ℕ)
    → IsFirstOf qs q qs' true n → IsFirstOf gs g gs' 0 n
    → shares (both (p ∷ ps) qs) (filled_up (n ∷ ns) gs) (n ∷ ns) ≡ share (λ k. p k && q k) g n ∷ shares (both ps qs') (filled_up ns gs') ns
unfolding shares both filled_up
shares_with ps qs gs p q qs' g gs' n ns (inl eq) (inl eg) = rw (eq, eg) refl
shares_with ps qs gs p q qs' g gs' n ns (inl eq) (inr eg) =
    rw (eq, eg.0, eg.1)
    (ap (λ r. r ∷ shares (both ps qs') (filled_up ns []) ns) (share_same (λ k. p k && q k) (λ k. p k && q k) (λ _. 0) g n (λ k l. refl) (λ k l. sym (eg.2 k l))))
shares_with ps qs gs p q qs' g gs' n ns (inr eq) (inl eg) =
    rw (eq.0, eq.1, eg)
    (ap (λ r. r ∷ shares (both ps []) (filled_up ns gs') ns) (share_same p (λ k. p k && q k) g g n (λ k l. and_true (p k) (q k) (eq.2 k l)) (λ k l. refl)))
shares_with ps qs gs p q qs' g gs' n ns (inr eq) (inr eg) =
    rw (eq.0, eq.1, eg.0, eg.1)
    (ap (λ r. r ∷ shares (both ps []) (filled_up ns []) ns) (share_same p (λ k. p k && q k) (λ _. 0) g n (λ k l. and_true (p k) (q k) (eq.2 k l)) (λ k l. sym (eg.2 k l))))

pub leg_is : (target source slots target' source' slots' : List Axis) (count : ℕ) (walk walk_s walk_o : Walk) (needs gives side : Axis)
    → IsSection target count walk needs target' → IsFollowed count source walk_s gives source' → IsFollowed count slots walk_o side slots'
    → FollowsIt (counts (picks target)) (counts (picks source)) → FollowsIt (counts (picks target)) (counts (picks slots))
    → IsLeg target source slots (record {
      count = count;
      target = walk;
      needs = needs.reach;
      source = walk_s;
      gives = gives.reach;
      slots = walk_o;
      side = side.reach;
      extents = (needs.extent, gives.extent, side.extent);
      weight = side.weight;
    }) target' source' slots'
leg_is target source slots target' source' slots' count walk walk_s walk_o needs gives side t s o fs fo =
    let ns : List ℕ = counts (picks target') in
    let fs' : FollowsIt (count ∷ ns) (counts (picks source)) = subst (λ ns. FollowsIt ns (counts (picks source))) t.counts fs in
    let fo' : FollowsIt (count ∷ ns) (counts (picks slots)) = subst (λ ns. FollowsIt ns (counts (picks slots))) t.counts fo in
    let ft = t.axis_fits in
    let fg = s.axis_fits in
    let fd = o.axis_fits in
    record {
      shares =
          ap (λ ns. shares (both (by_place (picks target) (tests target)) (by_place (picks source) (tests source))) (filled_up ns (by_place (picks slots) (adds slots))) ns) t.counts
          ∙ ap (λ ps. shares (both ps (by_place (picks source) (tests source))) (filled_up (count ∷ ns) (by_place (picks slots) (adds slots))) (count ∷ ns)) t.tests
          ∙ shares_with (by_place (picks target') (tests target')) (by_place (picks source) (tests source)) (by_place (picks slots) (adds slots))
          (λ k. reaches needs.reach (at walk k)) (λ k. reaches gives.reach (at walk_s k)) (by_place (picks source') (tests source'))
          (λ k. adds_at side (at walk_o k)) (by_place (picks slots') (adds slots')) count ns s.tests o.adds;
      fits = record {
        count = t.count_fits;
        target = t.walk_fits;
        source = s.walk_fits ns fs';
        slots = o.walk_fits ns fo';
        needs = ft.reach;
        gives = fg.reach;
        side = fd.reach;
        weight = fd.weight;
      };
      target_fits = t.rest_fits;
      source_fits = s.rest_fits;
      slots_fit = o.rest_fits;
      source_follows = s.counts ns fs';
      slots_follow = o.counts ns fo';
      fewer = t.fewer;
    }

-- ---- three sections

pub front : (xss : List (List ℕ)) → sums ((0 ∷ []) ∷ xss) ≡ sums xss
unfolding sums
front xss = zeros (sums xss)
  where
    zeros : (xs : List ℕ) → map (λ r. 0 + r) xs ++ [] ≡ xs
    zeros [] = refl
    zeros (x ∷ xs) = let e : 0 + x ≡ x = omega arith in rw e (ap (λ r. x ∷ r) (zeros xs))

pub no_shares : (target source slots : List Axis) → counts (picks target) ≡ []
    → due_shares (picks target) (picks source) (picks slots) (tests target) (tests source) (adds slots) ≡ []
unfolding shares
no_shares target source slots none =
    ap (λ ns. shares (both (by_place (picks target) (tests target)) (by_place (picks source) (tests source))) (filled_up ns (by_place (picks slots) (adds slots))) ns) none
    ∙ nothing (both (by_place (picks target) (tests target)) (by_place (picks source) (tests source))) (filled_up [] (by_place (picks slots) (adds slots)))
  where
    nothing : (ps : List (ℕ → Bool)) (fs : List (ℕ → ℕ)) → shares ps fs [] ≡ []
    nothing [] fs = refl
    nothing (p ∷ ps) [] = refl
    nothing (p ∷ ps) (f ∷ fs) = refl

pub no_axes : (axes : List Axis) → length axes < 1 → counts (picks axes) ≡ []
unfolding counts
no_axes [] l = refl
no_axes (a ∷ more) l = absurd (omega (arith, l))

abbrev pub missing : Leg
missing = record {
  count = 1;
  target = each;
  needs = Span 0 4194304;
  source = each;
  gives = Span 0 4194304;
  slots = each;
  side = Span 0 4194304;
  extents = (4194304, 4194304, 4194304);
  weight = 0;
}

pub missing_share : share_of missing ≡ 0 ∷ []
unfolding count_below
missing_share = refl

pub missing_fits : LegFits missing
missing_fits = record {
  count = omega arith;
  target = each_fits 1 (omega arith);
  source = each_fits 1 (omega arith);
  slots = each_fits 1 (omega arith);
  needs = omega arith;
  gives = omega arith;
  side = omega arith;
  weight = omega arith;
}

-- ---- slots from a base on

pub no_last : (xs ys : List ℕ) → sums (xs ∷ ys ∷ [] ∷ []) ≡ []
unfolding sums
no_last xs ys = ap (λ r. flat_map (λ x. map (λ z. x + z) r) xs) (none ys) ∙ none xs
  where
    none : (xs : List ℕ) → flat_map (λ x. map (λ z. x + z) []) xs ≡ []
    none [] = refl
    none (x ∷ xs) = none xs

-- a base that is cut off at the greatest number is none, where there is a slot below that number
pub cut_off : (base o : ℕ) (xs : List ℕ) → All (λ r. base + r < 2 ^ 32) (map (λ r. o + r) xs) → map (λ r. min (base + o) (2 ^ 32 - 1) + r) xs ≡ map (λ r. base + r) (map (λ r. o + r) xs)
cut_off base o [] all = refl
cut_off base o (x ∷ xs) all =
    let h : base + (o + x) < 2 ^ 32 = All-head (λ r. base + r < 2 ^ 32) (o + x) (map (λ r. o + r) xs) all in
    let e : min (base + o) (2 ^ 32 - 1) ≡ base + o = omega (arith, h) in
    ap (λ b. map (λ r. b + r) (x ∷ xs)) e ∙ shift base o (x ∷ xs)
  where
    shift : (base o : ℕ) (xs : List ℕ) → map (λ r. (base + o) + r) xs ≡ map (λ r. base + r) (map (λ r. o + r) xs)
    shift base o [] = refl
    shift base o (x ∷ xs) = let e : (base + o) + x ≡ base + (o + x) = omega arith in rw e (ap (λ r. (base + (o + x)) ∷ r) (shift base o xs))

pub cut_small : (base o : ℕ) (xs : List ℕ) → All (λ r. base + r < 2 ^ 32) (map (λ r. o + r) xs) → All (λ r. min (base + o) (2 ^ 32 - 1) + r < 2 ^ 32) xs
cut_small base o [] all = All-nil (λ r. min (base + o) (2 ^ 32 - 1) + r < 2 ^ 32)
cut_small base o (x ∷ xs) all =
    let h : base + (o + x) < 2 ^ 32 = All-head (λ r. base + r < 2 ^ 32) (o + x) (map (λ r. o + r) xs) all in
    All-cons (λ r. min (base + o) (2 ^ 32 - 1) + r < 2 ^ 32) x xs (omega (arith, h)) (cut_small base o xs (All-tail (λ r. base + r < 2 ^ 32) (o + x) (map (λ r. o + r) xs) all))

-- ---- three sections, behind missing ones

abbrev pub shares_due : (target source slots : List Axis) → List (List ℕ)
shares_due t s o = due_shares (picks t) (picks s) (picks o) (tests t) (tests s) (adds o)

pub legs_none : (t s o : List Axis) → counts (picks t) ≡ [] → sums (share_of missing ∷ share_of missing ∷ share_of missing ∷ []) ≡ sums (shares_due t s o)
legs_none t s o none =
    ap (λ m. sums (m ∷ m ∷ m ∷ [])) missing_share ∙ front ((0 ∷ []) ∷ (0 ∷ []) ∷ []) ∙ front ((0 ∷ []) ∷ []) ∙ front [] ∙ ap sums (sym (no_shares t s o none))

pub legs_one : (t s o t1 s1 o1 : List Axis) (a : Leg) → IsLeg t s o a t1 s1 o1 → counts (picks t1) ≡ []
    → sums (share_of missing ∷ share_of missing ∷ share_of a ∷ []) ≡ sums (shares_due t s o)
legs_one t s o t1 s1 o1 a first none =
    ap (λ m. sums (m ∷ m ∷ share_of a ∷ [])) missing_share ∙ front ((0 ∷ []) ∷ share_of a ∷ []) ∙ front (share_of a ∷ [])
    ∙ ap (λ r. sums (share_of a ∷ r)) (sym (no_shares t1 s1 o1 none)) ∙ ap sums (sym first.shares)

pub legs_two : (t s o t1 s1 o1 t2 s2 o2 : List Axis) (a b : Leg) → IsLeg t s o a t1 s1 o1 → IsLeg t1 s1 o1 b t2 s2 o2 → counts (picks t2) ≡ []
    → sums (share_of missing ∷ share_of a ∷ share_of b ∷ []) ≡ sums (shares_due t s o)
legs_two t s o t1 s1 o1 t2 s2 o2 a b first second none =
    ap (λ m. sums (m ∷ share_of a ∷ share_of b ∷ [])) missing_share ∙ front (share_of a ∷ share_of b ∷ [])
    ∙ ap (λ r. sums (share_of a ∷ share_of b ∷ r)) (sym (no_shares t2 s2 o2 none)) ∙ ap (λ r. sums (share_of a ∷ r)) (sym second.shares) ∙ ap sums (sym first.shares)

pub legs_three : (t s o t1 s1 o1 t2 s2 o2 t3 s3 o3 : List Axis) (a b c : Leg) → IsLeg t s o a t1 s1 o1 → IsLeg t1 s1 o1 b t2 s2 o2 → IsLeg t2 s2 o2 c t3 s3 o3
    → length t ≤ 3 → sums (share_of a ∷ share_of b ∷ share_of c ∷ []) ≡ sums (shares_due t s o)
legs_three t s o t1 s1 o1 t2 s2 o2 t3 s3 o3 a b c first second third few =
    let x = first.fewer in
    let y = second.fewer in
    let z = third.fewer in
    ap (λ r. sums (share_of a ∷ share_of b ∷ share_of c ∷ r)) (sym (no_shares t3 s3 o3 (no_axes t3 (omega (arith, x, y, z, few)))))
    ∙ ap (λ r. sums (share_of a ∷ share_of b ∷ r)) (sym third.shares) ∙ ap (λ r. sums (share_of a ∷ r)) (sym second.shares) ∙ ap sums (sym first.shares)

-- ---- single subscripts

pub option_map : {A : Type 0} (r : Option A) (P Q : Type 0) (F G : A → Type 0) → (P → Q) → ((a : A) → F a → G a) → MatchOption r P F → MatchOption r Q G
option_map None P Q F G none some h = none h
option_map (Some a) P Q F G none some h = some a h

pub no_counts : (axes : List Axis) → axes ≡ [] → counts (picks axes) ≡ []
unfolding counts
no_counts axes e = rw e refl

pub pass_none : (axes : List Axis) → axes ≡ [] → true ≡ singles_pass (picks axes) (tests axes)
unfolding singles_pass
pass_none axes e = rw e refl

pass_single_of : (x : ℕ) (ps : List Pick) (p : Pick) (t : ℕ → Bool) (ts : List (ℕ → Bool)) → p ≡ Single x → (t x && singles_pass ps ts) ≡ singles_pass (p ∷ ps) (t ∷ ts)
unfolding singles_pass
pass_single_of x ps p t ts e = rw e refl

pub pass_single : (all axes : List Axis) (axis : Axis) (x : ℕ) → all ≡ axis ∷ axes → axis.pick ≡ Single x
    → (reaches axis.reach x && singles_pass (picks axes) (tests axes)) ≡ singles_pass (picks all) (tests all)
pass_single all axes axis x e is = pass_single_of x (picks axes) axis.pick (reaches axis.reach) (tests axes) is ∙ ap (λ l. singles_pass (picks l) (tests l)) (sym e)

pass_section_of : (f n s : ℕ) (ps : List Pick) (p : Pick) (t : ℕ → Bool) (ts : List (ℕ → Bool)) → p ≡ Section f n s → singles_pass ps ts ≡ singles_pass (p ∷ ps) (t ∷ ts)
unfolding singles_pass
pass_section_of f n s ps p t ts e = rw e refl

pub pass_section : (all axes : List Axis) (axis : Axis) (f n s : ℕ) → all ≡ axis ∷ axes → axis.pick ≡ Section f n s
    → singles_pass (picks axes) (tests axes) ≡ singles_pass (picks all) (tests all)
pass_section all axes axis f n s e is = pass_section_of f n s (picks axes) axis.pick (reaches axis.reach) (tests axes) is ∙ ap (λ l. singles_pass (picks l) (tests l)) (sym e)

pub total_none : (axes : List Axis) → axes ≡ [] → 0 ≡ singles_total (picks axes) (adds axes)
unfolding singles_total
total_none axes e = rw e refl

total_single_of : (x : ℕ) (ps : List Pick) (p : Pick) (t : ℕ → ℕ) (ts : List (ℕ → ℕ)) → p ≡ Single x → t x + singles_total ps ts ≡ singles_total (p ∷ ps) (t ∷ ts)
unfolding singles_total
total_single_of x ps p t ts e = rw e refl

pub total_single : (all axes : List Axis) (axis : Axis) (x : ℕ) → all ≡ axis ∷ axes → axis.pick ≡ Single x
    → adds_at axis x + singles_total (picks axes) (adds axes) ≡ singles_total (picks all) (adds all)
total_single all axes axis x e is = total_single_of x (picks axes) axis.pick (adds_at axis) (adds axes) is ∙ ap (λ l. singles_total (picks l) (adds l)) (sym e)

total_section_of : (f n s : ℕ) (ps : List Pick) (p : Pick) (t : ℕ → ℕ) (ts : List (ℕ → ℕ)) → p ≡ Section f n s → singles_total ps ts ≡ singles_total (p ∷ ps) (t ∷ ts)
unfolding singles_total
total_section_of f n s ps p t ts e = rw e refl

pub total_section : (all axes : List Axis) (axis : Axis) (f n s : ℕ) → all ≡ axis ∷ axes → axis.pick ≡ Section f n s
    → singles_total (picks axes) (adds axes) ≡ singles_total (picks all) (adds all)
total_section all axes axis f n s e is = total_section_of f n s (picks axes) axis.pick (adds_at axis) (adds axes) is ∙ ap (λ l. singles_total (picks l) (adds l)) (sym e)

-- a single subscript of a dimension that fits
pub single_fits : (all axes : List Axis) (axis : Axis) (x : ℕ) → all ≡ axis ∷ axes → axis.pick ≡ Single x → AxesFit all → (x < axis.extent) × (adds_at axis x ≤ 4194304)
single_fits all axes axis x e is fit =
    let fits : AxesFit (axis ∷ axes) = subst AxesFit e fit in
    let f = fits.0 in
    let lt : x < axis.extent = subst (λ p. PickFits p axis.extent) is f.pick in
    (lt, adds_small axis.reach x axis.extent axis.weight 4194304 (omega (arith, lt)) f.weight)

-- ---- all slots

due_if : (t s o : List Axis) → singles_pass (picks t) (tests t) ≡ true → singles_pass (picks s) (tests s) ≡ true
    → due_slots (picks t) (picks s) (picks o) (tests t) (tests s) (adds o) ≡ map (λ r. singles_total (picks o) (adds o) + r) (sums (shares_due t s o))
due_if t s o a b =
    ap (λ c. cond (c && singles_pass (picks s) (tests s)) (map (λ r. singles_total (picks o) (adds o) + r) (sums (shares_due t s o))) []) a
    ∙ ap (λ c. cond c (map (λ r. singles_total (picks o) (adds o) + r) (sums (shares_due t s o))) []) b

pub record SlotsAre (t s o : List Axis) (base start : ℕ) (xs ys zs : List ℕ) : Type 0 where
  pub list : map (λ r. start + r) (three_sums xs ys zs) ≡ map (λ r. base + r) (due_slots (picks t) (picks s) (picks o) (tests t) (tests s) (adds o))
  pub small : All (λ r. start + r < 2 ^ 32) (three_sums xs ys zs)

pub slots_are : (t s o : List Axis) (base start total : ℕ) (xs ys zs : List ℕ) (a b c : Leg) → singles_pass (picks t) (tests t) ≡ true → singles_pass (picks s) (tests s) ≡ true
    → total ≡ singles_total (picks o) (adds o) → start ≡ min (base + total) (2 ^ 32 - 1)
    → xs ≡ share_of a → ys ≡ share_of b → zs ≡ share_of c
    → sums (share_of a ∷ share_of b ∷ share_of c ∷ []) ≡ sums (shares_due t s o)
    → All (λ r. base + r < 2 ^ 32) (due_slots (picks t) (picks s) (picks o) (tests t) (tests s) (adds o)) → SlotsAre t s o base start xs ys zs
slots_are t s o base start total xs ys zs a b c pt ps et es ex ey ez e small =
    let three : three_sums xs ys zs ≡ sums (shares_due t s o) = rw (ex, ey, ez) (sym (three_are (share_of a) (share_of b) (share_of c)) ∙ e) in
    let d = due_if t s o pt ps in
    let small' : All (λ r. base + r < 2 ^ 32) (map (λ r. total + r) (sums (shares_due t s o))) = rw et (subst (λ l. All (λ r. base + r < 2 ^ 32) l) d small) in
    record {
      list = rw (es, three) (cut_off base total (sums (shares_due t s o)) small' ∙ ap (λ n. map (λ r. base + r) (map (λ r. n + r) (sums (shares_due t s o)))) et ∙ ap (map (λ r. base + r)) (sym d));
      small = rw (es, three) (cut_small base total (sums (shares_due t s o)) small');
    }

pub no_slots : (t s o : List Axis) (base : ℕ) (zs : List ℕ) (a b c : Leg) → singles_pass (picks t) (tests t) ≡ true → singles_pass (picks s) (tests s) ≡ true
    → zs ≡ share_of c → sums (share_of a ∷ share_of b ∷ share_of c ∷ []) ≡ sums (shares_due t s o) → zs ≡ []
    → [] ≡ map (λ r. base + r) (due_slots (picks t) (picks s) (picks o) (tests t) (tests s) (adds o))
no_slots t s o base zs a b c pt ps ez e none =
    let last : share_of c ≡ [] = sym ez ∙ none in
    let all : sums (shares_due t s o) ≡ [] = sym e ∙ ap (λ r. sums (share_of a ∷ share_of b ∷ r ∷ [])) last ∙ no_last (share_of a) (share_of b) in
    sym (ap (map (λ r. base + r)) (due_if t s o pt ps ∙ ap (map (λ r. singles_total (picks o) (adds o) + r)) all))
