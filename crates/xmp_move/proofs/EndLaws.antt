-- The dimensions of a side at a node.
use Rattle.std.proofs.Common.{◌≡◌, ℕ, zero, suc, ◌+◌, ◌*◌, ◌<◌, ◌≤◌, Bool, true, List, [], ◌∷◌, refl, sym, ◌∙◌, ap, arith, length, map, get_or, drop, subst}
use Rattle.std.specs.Prelude.{IfSome, slice_get, ◌&&◌}
use Rattle.std.proofs.Math.Nat.{mul-le-mul}
use Rattle.xmp_dist.specs.Count.{count_below}
use Rattle.xmp_dist.proofs.Counting.{count_below-le, count_below-same}
use Rattle.xmp_map.specs.Boxes.{all_pass, counts_below}
use Rattle.xmp_map.specs.RowMajor.{row_major}
use Rattle.xmp_map.proofs.Order.{AllBelow, none_below, more_below}
use Rattle.xmp_move.specs.Picks.{PickFits}
use Rattle.xmp_move.specs.Sums.{total}
use Rattle.xmp_move.proofs.PickLaws.{ArePicks, no_pick, a_pick, AllSmall}
use Rattle.xmp_map.specs.declared.aligned.AlignedDim.{AlignedDim}
use Rattle.xmp_map.specs.declared.array_map.ArrayMap.{ArrayMap}
use Rattle.xmp_map.specs.RowMajor.{product}
use Rattle.xmp_prog.specs.declared.parts.Home.{Home}
use Rattle.xmp_prog.specs.declared.parts.Home.TheVariants as home
use Rattle.xmp_move.specs.declared.pick.Pick.{Pick}
use Rattle.xmp_move.specs.declared.axis.Axis.{Axis}
use Rattle.xmp_move.specs.Reaches.{reaches, ReachFits, position_in}
use Rattle.xmp_move.specs.Axes.{extents, tests, adds, adds_at, picks, AxisFits, AxesFit}
use Rattle.xmp_move.specs.Ends.{IsAxis, IsAxes, no_axis, an_axis, owned_tests, held_tests, count_of, weighted}

pub spread_axes : (ls : List AlignedDim) (T : AlignedDim → ℕ → Bool) (ps : List Pick) (d0 d1 d2 : Pick) (a b c : Axis) → length ls ≡ 3 → length ps ≡ 3
    → IfSome (slice_get ls 0) (λ l. IsAxis a l.extent (get_or ps 0 d0) (T l)) → IfSome (slice_get ls 1) (λ l. IsAxis b l.extent (get_or ps 1 d1) (T l))
    → IfSome (slice_get ls 2) (λ l. IsAxis c l.extent (get_or ps 2 d2) (T l))
    → IsAxes (a ∷ b ∷ c ∷ []) (map (λ l. l.extent) ls) ps (map T ls)
spread_axes (x ∷ y ∷ z ∷ []) T (p ∷ q ∷ r ∷ []) d0 d1 d2 a b c el ep fa fb fc =
    an_axis a x.extent p (T x) _ _ _ _ fa (an_axis b y.extent q (T y) _ _ _ _ fb (an_axis c z.extent r (T z) _ _ _ _ fc no_axis))
spread_axes [] T ps d0 d1 d2 a b c el ep fa fb fc = absurd (omega (arith, el))
spread_axes (x ∷ []) T ps d0 d1 d2 a b c el ep fa fb fc = absurd (omega (arith, el))
spread_axes (x ∷ y ∷ []) T ps d0 d1 d2 a b c el ep fa fb fc = absurd (omega (arith, el))
spread_axes (x ∷ y ∷ z ∷ w ∷ ls) T ps d0 d1 d2 a b c el ep fa fb fc = absurd (omega (arith, el))
spread_axes (x ∷ y ∷ z ∷ []) T [] d0 d1 d2 a b c el ep fa fb fc = absurd (omega (arith, ep))
spread_axes (x ∷ y ∷ z ∷ []) T (p ∷ []) d0 d1 d2 a b c el ep fa fb fc = absurd (omega (arith, ep))
spread_axes (x ∷ y ∷ z ∷ []) T (p ∷ q ∷ []) d0 d1 d2 a b c el ep fa fb fc = absurd (omega (arith, ep))
spread_axes (x ∷ y ∷ z ∷ []) T (p ∷ q ∷ r ∷ w ∷ ps) d0 d1 d2 a b c el ep fa fb fc = absurd (omega (arith, ep))

all_axes : (es : List ℕ) (ps : List Pick) (e0 e1 e2 : ℕ) (d0 d1 d2 : Pick) (a b c : Axis) → length es ≡ 3 → length ps ≡ 3
    → IsAxis a (get_or es 0 e0) (get_or ps 0 d0) (λ _. true) → IsAxis b (get_or es 1 e1) (get_or ps 1 d1) (λ _. true) → IsAxis c (get_or es 2 e2) (get_or ps 2 d2) (λ _. true)
    → IsAxes (a ∷ b ∷ c ∷ []) es ps ((λ _. true) ∷ (λ _. true) ∷ (λ _. true) ∷ [])
all_axes (x ∷ y ∷ z ∷ []) (p ∷ q ∷ r ∷ []) e0 e1 e2 d0 d1 d2 a b c el ep fa fb fc =
    an_axis a x p (λ _. true) _ _ _ _ fa (an_axis b y q (λ _. true) _ _ _ _ fb (an_axis c z r (λ _. true) _ _ _ _ fc no_axis))
all_axes [] ps e0 e1 e2 d0 d1 d2 a b c el ep fa fb fc = absurd (omega (arith, el))
all_axes (x ∷ []) ps e0 e1 e2 d0 d1 d2 a b c el ep fa fb fc = absurd (omega (arith, el))
all_axes (x ∷ y ∷ []) ps e0 e1 e2 d0 d1 d2 a b c el ep fa fb fc = absurd (omega (arith, el))
all_axes (x ∷ y ∷ z ∷ w ∷ es) ps e0 e1 e2 d0 d1 d2 a b c el ep fa fb fc = absurd (omega (arith, el))
all_axes (x ∷ y ∷ z ∷ []) [] e0 e1 e2 d0 d1 d2 a b c el ep fa fb fc = absurd (omega (arith, ep))
all_axes (x ∷ y ∷ z ∷ []) (p ∷ []) e0 e1 e2 d0 d1 d2 a b c el ep fa fb fc = absurd (omega (arith, ep))
all_axes (x ∷ y ∷ z ∷ []) (p ∷ q ∷ []) e0 e1 e2 d0 d1 d2 a b c el ep fa fb fc = absurd (omega (arith, ep))
all_axes (x ∷ y ∷ z ∷ []) (p ∷ q ∷ r ∷ w ∷ ps) e0 e1 e2 d0 d1 d2 a b c el ep fa fb fc = absurd (omega (arith, ep))

pub whole_tests : (h : Home) (node : ℕ) → ((t : ℕ) (m : ArrayMap) → h ≡ home.Spread t m → ⊥)
    → (((λ _. true) ∷ (λ _. true) ∷ (λ _. true) ∷ []) ≡ owned_tests h node) × (((λ _. true) ∷ (λ _. true) ∷ (λ _. true) ∷ []) ≡ held_tests h node)
whole_tests (home.Spread t m) node not = absurd (not t m refl)
whole_tests home.Copy node not = (refl, refl)
whole_tests home.Image node not = (refl, refl)

pub whole_axes : (ts : List (ℕ → Bool)) (es : List ℕ) (ps : List Pick) (e0 e1 e2 : ℕ) (d0 d1 d2 : Pick) (a b c : Axis)
    → ((λ _. true) ∷ (λ _. true) ∷ (λ _. true) ∷ []) ≡ ts → length es ≡ 3 → length ps ≡ 3
    → IsAxis a (get_or es 0 e0) (get_or ps 0 d0) (λ _. true) → IsAxis b (get_or es 1 e1) (get_or ps 1 d1) (λ _. true) → IsAxis c (get_or es 2 e2) (get_or ps 2 d2) (λ _. true)
    → IsAxes (a ∷ b ∷ c ∷ []) es ps ts
whole_axes ts es ps e0 e1 e2 d0 d1 d2 a b c et el ep fa fb fc = rw (← et) (all_axes es ps e0 e1 e2 d0 d1 d2 a b c el ep fa fb fc)

pub weighted_is : (xs : List Axis) (d0 d1 d2 : Axis) (r s t : Axis) (m n : ℕ) → length xs ≡ 3 → m ≡ count_of (get_or xs 1 d1) → n ≡ count_of (get_or xs 2 d2)
    → r ≡ record (get_or xs 0 d0) { weight = m * n } → s ≡ record (get_or xs 1 d1) { weight = n } → t ≡ record (get_or xs 2 d2) { weight = 1 }
    → r ∷ s ∷ t ∷ [] ≡ weighted xs
unfolding product
weighted_is (x ∷ y ∷ z ∷ []) d0 d1 d2 r s t m n l em en er es et =
    let one : n ≡ count_of z * 1 = omega (arith, en) in
    rw (er, es, et) (ap (λ k. record x { weight = m * k } ∷ record y { weight = k } ∷ record z { weight = 1 } ∷ []) one
    ∙ ap (λ m. record x { weight = m * (count_of z * 1) } ∷ record y { weight = count_of z * 1 } ∷ record z { weight = 1 } ∷ []) em)
weighted_is [] d0 d1 d2 r s t m n l em en er es et = absurd (omega (arith, l))
weighted_is (x ∷ []) d0 d1 d2 r s t m n l em en er es et = absurd (omega (arith, l))
weighted_is (x ∷ y ∷ []) d0 d1 d2 r s t m n l em en er es et = absurd (omega (arith, l))
weighted_is (x ∷ y ∷ z ∷ w ∷ xs) d0 d1 d2 r s t m n l em en er es et = absurd (omega (arith, l))

pub pair_small : (xs : List Axis) (d1 d2 : Axis) (m n most : ℕ) → length xs ≡ 3 → m ≡ count_of (get_or xs 1 d1) → n ≡ count_of (get_or xs 2 d2)
    → product (drop 1 (extents xs)) ≤ most → m * n ≤ most
unfolding product
pair_small (x ∷ y ∷ z ∷ []) d1 d2 m n most l em en small =
    let a = count_below-le (reaches y.reach) y.extent in
    let b = count_below-le (reaches z.reach) z.extent in
    let c : m * n ≤ y.extent * (z.extent * 1) = mul-le-mul {n₁ = m} {m₁ = n} {n₂ = y.extent} {m₂ = z.extent * 1} (omega (arith, a, em)) (omega (arith, b, en)) in
    omega (arith, c, small)
pair_small [] d1 d2 m n most l em en small = absurd (omega (arith, l))
pair_small (x ∷ []) d1 d2 m n most l em en small = absurd (omega (arith, l))
pair_small (x ∷ y ∷ []) d1 d2 m n most l em en small = absurd (omega (arith, l))
pair_small (x ∷ y ∷ z ∷ w ∷ xs) d1 d2 m n most l em en small = absurd (omega (arith, l))

-- ---- what is known of the dimensions of a side

pub picks_are : (axes : List Axis) (es : List ℕ) (ps : List Pick) (ts : List (ℕ → Bool)) → IsAxes axes es ps ts → picks axes ≡ ps
picks_are axes es ps ts no_axis = refl
picks_are axes es ps ts (an_axis a e p t axes' es' ps' ts' f more) = ap (λ q. q ∷ picks axes') f.pick_is ∙ ap (λ r. p ∷ r) (picks_are axes' es' ps' ts' more)

pub extents_are : (axes : List Axis) (es : List ℕ) (ps : List Pick) (ts : List (ℕ → Bool)) → IsAxes axes es ps ts → extents axes ≡ es
extents_are axes es ps ts no_axis = refl
extents_are axes es ps ts (an_axis a e p t axes' es' ps' ts' f more) = ap (λ q. q ∷ extents axes') f.extent_is ∙ ap (λ r. e ∷ r) (extents_are axes' es' ps' ts' more)

pub lengths_are : (axes : List Axis) (es : List ℕ) (ps : List Pick) (ts : List (ℕ → Bool)) → IsAxes axes es ps ts
    → (length axes ≡ length es) × (length ps ≡ length es) × (length ts ≡ length es)
lengths_are axes es ps ts no_axis = (refl, refl, refl)
lengths_are axes es ps ts (an_axis a e p t axes' es' ps' ts' f more) = let l = lengths_are axes' es' ps' ts' more in (ap suc l.0, ap suc l.1, ap suc l.2)

axis_fits : (a : Axis) (e : ℕ) (p : Pick) (t : ℕ → Bool) (w : ℕ) → IsAxis a e p t → PickFits p e → e ≤ 4194304 → e * w ≤ 4194304 → AxisFits (record a { weight = w })
axis_fits a e p t w f pick small weight = record {
  pick = subst (λ n. PickFits a.pick n) (sym f.extent_is) (subst (λ q. PickFits q e) (sym f.pick_is) pick);
  reach = subst (λ n. ReachFits a.reach n) (sym f.extent_is) f.reach_is.fits;
  extent = rw f.extent_is small;
  weight = rw f.extent_is weight;
}

weightless : (a : Axis) → a.weight ≡ 0 → record a { weight = 0 } ≡ a
weightless a e = ap (λ w. record a { weight = w }) (sym e)

pub axes_fit : (axes : List Axis) (es : List ℕ) (ps : List Pick) (ts : List (ℕ → Bool)) → IsAxes axes es ps ts → ArePicks ps es → AllSmall es → AxesFit axes
axes_fit axes es ps ts no_axis no_pick small = tt
axes_fit axes es ps ts (an_axis a e p t axes' es' ps' ts' f more) (a_pick q d ps1 es1 fits picked) small = (
  subst AxisFits (weightless a f.weight_is) (axis_fits a e p t 0 f fits small.0.1 (omega arith)),
  axes_fit axes' es' ps' ts' more picked small.1,
)

pub tests_agree : (axes : List Axis) (es : List ℕ) (ps : List Pick) (ts : List (ℕ → Bool)) (cell : List ℕ) → IsAxes axes es ps ts → AllBelow cell es
    → all_pass (tests axes) cell ≡ all_pass ts cell
unfolding all_pass
tests_agree axes es ps ts cell no_axis none_below = refl
tests_agree axes es ps ts cell (an_axis a e p t axes' es' ps' ts' f more) (more_below x d xs es1 lt below) =
    ap (λ b. b && all_pass (tests axes') xs) (f.reach_is.same x lt) ∙ ap (λ b. t x && b) (tests_agree axes' es' ps' ts' xs more below)

counts_agree : (axes : List Axis) (es : List ℕ) (ps : List Pick) (ts : List (ℕ → Bool)) → IsAxes axes es ps ts → map count_of axes ≡ counts_below ts es
unfolding counts_below
counts_agree axes es ps ts no_axis = refl
counts_agree axes es ps ts (an_axis a e p t axes' es' ps' ts' f more) =
    ap (λ n. n ∷ map count_of axes') (ap (position_in a.reach) f.extent_is ∙ count_below-same (reaches a.reach) t e (λ x lt. f.reach_is.same x lt))
    ∙ ap (λ r. count_below t e ∷ r) (counts_agree axes' es' ps' ts' more)

pub position_is : (axes : List Axis) (es : List ℕ) (ps : List Pick) (ts : List (ℕ → Bool)) (cell : List ℕ) → IsAxes axes es ps ts → AllBelow cell es
    → total (adds (weighted axes)) cell ≡ row_major (counts_below ts es) (counts_below ts cell)
unfolding total row_major counts_below
position_is axes es ps ts cell no_axis none_below = refl
position_is axes es ps ts cell (an_axis a e p t axes' es' ps' ts' f more) (more_below x d xs es1 lt below) =
    ap (λ n. n * product (map count_of axes') + total (adds (weighted axes')) xs) (count_below-same (reaches a.reach) t x (λ y l. f.reach_is.same y (omega (arith, l, lt))))
    ∙ ap (λ ns. count_below t x * product ns + total (adds (weighted axes')) xs) (counts_agree axes' es' ps' ts' more)
    ∙ ap (λ r. count_below t x * product (counts_below ts' es') + r) (position_is axes' es' ps' ts' xs more below)

counts_small : (axes : List Axis) (es : List ℕ) (ps : List Pick) (ts : List (ℕ → Bool)) → IsAxes axes es ps ts → product (map count_of axes) ≤ product es
unfolding product
counts_small axes es ps ts no_axis = omega arith
counts_small axes es ps ts (an_axis a e p t axes' es' ps' ts' f more) =
    let l = count_below-le (reaches a.reach) a.extent in
    let r = counts_small axes' es' ps' ts' more in
    let x = f.extent_is in
    mul-le-mul {n₁ = count_of a} {m₁ = product (map count_of axes')} {n₂ = e} {m₂ = product es'} (omega (arith, l, x)) r

times_one : (e n most : ℕ) → 1 ≤ e → e * n ≤ most → n ≤ most
times_one (suc e) n most l h = let s : suc e * n ≡ e * n + n = omega arith in omega (arith, s, h)
times_one zero n most l h = absurd (omega (arith, l))

times_mono : (e m n most : ℕ) → m ≤ n → e * n ≤ most → e * m ≤ most
times_mono e m n most le h = let r : e * m ≤ e * n = mul-le-mul {n₁ = e} {m₁ = m} {n₂ = e} {m₂ = n} (omega arith) le in omega (arith, r, h)

pub weighted_fit : (axes : List Axis) (es : List ℕ) (ps : List Pick) (ts : List (ℕ → Bool)) → IsAxes axes es ps ts → ArePicks ps es → AllSmall es → product es ≤ 4194304
    → AxesFit (weighted axes)
unfolding product
weighted_fit axes es ps ts no_axis no_pick small cells = tt
weighted_fit axes es ps ts (an_axis a e p t axes' es' ps' ts' f more) (a_pick q d ps1 es1 fits picked) small cells = (
  axis_fits a e p t (product (map count_of axes')) f fits small.0.1 (times_mono e (product (map count_of axes')) (product es') 4194304 (counts_small axes' es' ps' ts' more) cells),
  weighted_fit axes' es' ps' ts' more picked small.1 (times_one e (product es') 4194304 small.0.0 cells),
)

pub weighted_same : (axes : List Axis) → (picks (weighted axes) ≡ picks axes) × (tests (weighted axes) ≡ tests axes) × (length (weighted axes) ≡ length axes)
weighted_same [] = (refl, refl, refl)
weighted_same (a ∷ axes) = let r = weighted_same axes in (ap (λ l. a.pick ∷ l) r.0, ap (λ l. reaches a.reach ∷ l) r.1, ap suc r.2)

pub later_small : (es : List ℕ) → AllSmall es → product es ≤ 4194304 → product (drop 1 es) ≤ 4194304
unfolding product
later_small [] small cells = omega arith
later_small (e ∷ es) small cells = times_one e (product es) 4194304 small.0.0 cells
