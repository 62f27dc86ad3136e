-- A gmove says as many words as its exchange has.
use Rattle.std.proofs.Common.{◌≡◌, ◌≢◌, ◌<◌, ◌≤◌, ◌+◌, ◌-◌, ◌*◌, ◌/◌, ◌%◌, ◌++◌, if◌then◌else◌, cond, ℕ, zero, suc, ℤ, Bool, true, false, List, [], ◌∷◌, map, length, refl, sym, ap, ◌∙◌, arith, ne_eqb, mod-lt, mul-zero}
use Rattle.std.specs.Prelude.{◌&&◌, filter, replicate}
use Rattle.std.specs.List.{AllByRecursion, count_by, zip}
use Rattle.std.proofs.lemmas.List.{length-map}
use Rattle.std.proofs.lemmas.List.Sums.{sum_by-cons}
use Rattle.xmp_map.specs.declared.array_map.ArrayMap.{ArrayMap}
use Rattle.xmp_map.specs.RowMajor.{product, unravel}
use Rattle.xmp_map.specs.Held as held
use Rattle.xmp_map.proofs.Order.{unravel_below, length_below}
use Rattle.xmp_prog.specs.declared.parts.ProgParts.{ProgParts}
use Rattle.xmp_prog.specs.declared.parts.Home.{Home}
use Rattle.xmp_prog.specs.declared.parts.Home.TheVariants as home
use Rattle.xmp_prog.specs.declared.statements.MoveSide.{MoveSide}
use Rattle.xmp_prog.specs.declared.statements.MoveSide.TheVariants as side
use Rattle.xmp_prog.specs.Fits.{node_count}
use Rattle.xmp_meaning.specs.Declarations.{extents, home_of}
use Rattle.xmp_meaning.specs.Handlers.{Aim}
use Rattle.xmp_meaning.specs.Exchanges.{Moved}
use Rattle.xmp_meaning.specs.Messages.{message, said, words_sent, words_alone, takes, takes_cell, gives, gives_cell as gives_number, cell_by}
use Rattle.xmp_meaning.proofs.WordsDue.{as_due}
use Rattle.xmp_move.specs.Ways.{Pair, due, sends}
use Rattle.xmp_move.specs.Sides.{padded, owns_cell, gives_cell}
use Rattle.xmp_move.specs.Laid.{MapFits}
use Rattle.xmp_move.specs.Kept.{HasThree}
use Rattle.xmp_move.proofs.PlanLaws.{product_pad}
use Rattle.xmp_nodes.specs.Nodes.{Nodes}
use Rattle.xmp_nodes.specs.Rows.{home_of_side, extents_of_side}
use Rattle.xmp_nodes.specs.Moving.{move_ways, pairs_of_aim, move_said}
use Rattle.xmp_nodes.proofs.Standing.{IsGlobal}
use Rattle.xmp_nodes.proofs.PackedRows.{spread_array, few_dims}
use Rattle.xmp_nodes.proofs.ReflectCounts.{filled_out, row_of_home, rows_fit, message_words}

-- ---- subscripts of a number, in more dimensions

positive_rest : (e m n : ℕ) → n < e * m → 0 < m
positive_rest e zero n h = let z : e * 0 ≡ 0 = mul-zero e in absurd (omega (arith, h, z))
positive_rest e (suc m) n h = omega arith

zero_over : (n : ℕ) → n < 1 → n / 1 ≡ 0
zero_over zero h = refl
zero_over (suc n) h = absurd (omega (arith, h))

zero_rest : (n : ℕ) → n < 1 → n % 1 ≡ 0
zero_rest zero h = refl
zero_rest (suc n) h = absurd (omega (arith, h))

product_none : product [] ≡ 1
unfolding product
product_none = refl

product_ones : (k : ℕ) → product (replicate k 1) ≡ 1
product_ones k = product_pad k [] ∙ product_none

ones_unravel : (k n : ℕ) → n < 1 → unravel (replicate k 1) n ≡ replicate k 0
unfolding unravel
ones_unravel zero n h = refl
ones_unravel (suc k) n h =
    let q : n / product (replicate k 1) ≡ 0 = ap (λ d. n / d) (product_ones k) ∙ zero_over n h in
    let r : n % product (replicate k 1) ≡ 0 = ap (λ d. n % d) (product_ones k) ∙ zero_rest n h in
    ap (λ x. x ∷ unravel (replicate k 1) (n % product (replicate k 1))) q
    ∙ ap (λ m. 0 ∷ unravel (replicate k 1) m) r
    ∙ ap (λ xs. 0 ∷ xs) (ones_unravel k 0 (omega arith))

pub padded_unravel : (es : List ℕ) (k n : ℕ) → n < product es → unravel (es ++ replicate k 1) n ≡ unravel es n ++ replicate k 0
unfolding unravel product
padded_unravel [] k n h = ones_unravel k n h
padded_unravel (e ∷ es) k n h =
    let p : product (es ++ replicate k 1) ≡ product es = product_pad k es in
    let less : n % product es < product es = mod-lt n (positive_rest e (product es) n h) in
    ap (λ d. n / d ∷ unravel (es ++ replicate k 1) (n % d)) p
    ∙ ap (λ xs. n / product es ∷ xs) (padded_unravel es k (n % product es) less)

module _ (t : ℕ) (m : ArrayMap) (es : List ℕ) (three : HasThree m) (fits : MapFits (home.Spread t m) es) (few : length es ≤ 3) where
  pub cell_padded : (n : ℕ) → n < product es → padded (unravel es n) ≡ cell_by m n
  cell_padded n h =
      ap (λ l. unravel es n ++ replicate (3 - l) 0) (length_below (unravel es n) es (unravel_below es n h))
      ∙ sym (padded_unravel es (3 - length es) n h)
      ∙ ap (λ ns. unravel ns n) (sym (filled_out t m es three fits few))

-- ---- the sides

module _ (p : ProgParts) (global : IsGlobal p) where
  abbrev pub InSideOf : MoveSide → ℕ → Type 0
  InSideOf m n = n < product (extents_of_side p m)

  needs_at : (array : ℕ) (h : Home) → home_of p array ≡ h → (node n : ℕ) → n < product (extents p array) → owns_cell h node (unravel (extents p array) n) ≡ takes_cell h node n
  needs_at array (home.Spread t m) e node n lt =
      let of = spread_array p global array t m e in
      ap (held.owns m node) (cell_padded t m (extents p array) of.three of.fits (few_dims p global array t m of) n lt)
  needs_at array home.Copy e node n lt = refl
  needs_at array home.Image e node n lt = refl

  gives_at : (array : ℕ) (h : Home) → home_of p array ≡ h → (from to n : ℕ) → from ≢ to → n < product (extents p array)
      → gives_cell h from to (unravel (extents p array) n) ≡ gives_number h from n
  gives_at array (home.Spread t m) e from to n ne lt =
      let of = spread_array p global array t m e in
      ap (held.owns m from) (cell_padded t m (extents p array) of.three of.fits (few_dims p global array t m of) n lt)
  gives_at array home.Copy e from to n ne lt = ne_eqb from to ne
  gives_at array home.Image e from to n ne lt = ne_eqb from to ne

  needed : (m : MoveSide) (node n : ℕ) → InSideOf m n → owns_cell (home_of_side p m) node (unravel (extents_of_side p m) n) ≡ takes p m node n
  needed (side.Scalar name) node n lt = refl
  needed (side.Array name parts) node n lt = needs_at name.number (home_of p name.number) refl node n lt

  given : (m : MoveSide) (from to n : ℕ) → from ≢ to → InSideOf m n → gives_cell (home_of_side p m) from to (unravel (extents_of_side p m) n) ≡ gives p m from n
  given (side.Scalar name) from to n ne lt = ne_eqb from to ne
  given (side.Array name parts) from to n ne lt = gives_at name.number (home_of p name.number) refl from to n ne lt

  module _ (target source : MoveSide) (from to : ℕ) (ne : from ≢ to) where
    abbrev is_due : Pair → Bool
    is_due q = owns_cell (home_of_side p target) to q.0 && gives_cell (home_of_side p source) from to q.1

    abbrev is_moved : ℕ × ℕ → Bool
    is_moved q = takes p target to q.0 && gives p source from q.1

    due_counts : (ts ss : List ℕ) → AllByRecursion (InSideOf target) ts → AllByRecursion (InSideOf source) ss
        → length (filter is_due (zip (map (unravel (extents_of_side p target)) ts) (map (unravel (extents_of_side p source)) ss))) ≡ count_by is_moved (zip ts ss)
    due_counts [] ss a b = refl
    due_counts (t ∷ ts) [] a b = refl
    due_counts (t ∷ ts) (s ∷ ss) a b =
        let one : is_due (unravel (extents_of_side p target) t, unravel (extents_of_side p source) s) ≡ is_moved (t, s) =
        ap (λ c. c && gives_cell (home_of_side p source) from to (unravel (extents_of_side p source) s)) (needed target to t a.0) ∙ ap (λ c. takes p target to t && c) (given source from to s ne b.0) in
        step (is_due (unravel (extents_of_side p target) t, unravel (extents_of_side p source) s)) (is_moved (t, s)) one (due_counts ts ss a.1 b.1)
        ∙ sym (sum_by-cons (λ q. cond (is_moved q) 1 0) (t, s) (zip ts ss))
      where
        step : (x y : Bool) → x ≡ y → length (filter is_due (zip (map (unravel (extents_of_side p target)) ts) (map (unravel (extents_of_side p source)) ss))) ≡ count_by is_moved (zip ts ss)
            → length (cond x ((unravel (extents_of_side p target) t, unravel (extents_of_side p source) s) ∷ filter is_due (zip (map (unravel (extents_of_side p target)) ts) (map (unravel (extents_of_side p source)) ss)))
            (filter is_due (zip (map (unravel (extents_of_side p target)) ts) (map (unravel (extents_of_side p source)) ss)))) ≡ cond y 1 0 + count_by is_moved (zip ts ss)
        step true true e i = omega (arith, i)
        step false false e i = omega (arith, i)
        step true false e i = cc
        step false true e i = cc

  pub move_counts : (target source : MoveSide) (a : Aim) (values : List ℤ) (w : Nodes) → length values ≡ length a.sources
      → AllByRecursion (InSideOf target) a.targets → AllByRecursion (InSideOf source) a.sources
      → (from to : ℕ) → from < node_count p → to < node_count p → from ≢ to
      → words_sent (move_said p target source a w from to) ≡ words_sent (message p (Moved target source a values) from to)
  move_counts target source a values w whole ts ss from to lf lt ne =
      ap (λ n. n + (0 + 7) / 8) (said_many ∙ sym due_many) ∙ sym (message_words p (Moved target source a values) _ from to ne refl)
    where
      said_many : length (move_said p target source a w from to).words ≡ count_by (is_moved target source from to ne) (zip a.targets a.sources)
      said_many =
          length-map (sends (move_ways p target source) (pairs_of_aim p target source a) from to) _
          ∙ length-map (due (move_ways p target source) (pairs_of_aim p target source a) from to) (λ q. (move_ways p target source).out_of from q.1)
          ∙ due_counts target source from to ne a.targets a.sources ts ss

      due_many : length (said p (Moved target source a values) from to).words ≡ count_by (is_moved target source from to ne) (zip a.targets a.sources)
      due_many =
          sym (ap (λ b. length (if b then words_alone [] else said p (Moved target source a values) from to).words) (ne_eqb from to ne))
          ∙ (as_due p (λ b. row_of_home (home_of p b)) (rows_fit p) (Moved target source a values) whole).words from to lf ne
