-- The number of a cell in its row: row-major in whole rows, and xmp_map's slot in a packed one.
use Rattle.std.proofs.Common.{◌≡◌, ◌+◌, ◌*◌, ◌<◌, ℕ, zero, suc, ℤ, pos, negsuc, if◌then◌else◌, Bool, true, List, [], ◌∷◌, map, length, refl, ap, ◌∙◌, take, drop, arith}
use Rattle.std.specs.Prelude.{◌+ℤ◌, ◌==◌, is_none, Option, Some, None}
use Rattle.std.specs.List.{list_all}
use Rattle.std.proofs.lemmas.Bool.{eqb-true}
use Rattle.xmp_dist.specs.Count.{count_below}
use Rattle.xmp_dist.proofs.Counting.{count_below-zero, count_below-yes}
use Rattle.xmp_map.specs.declared.spread_dim.SpreadDim.{SpreadDim}
use Rattle.xmp_map.specs.declared.aligned.AlignedDim.{AlignedDim}
use Rattle.xmp_map.specs.RowMajor.{product, row_major, unravel}
use Rattle.xmp_map.specs.Boxes.{IsInside, all_pass, counts_below}
use Rattle.xmp_map.specs.Align.{is_unused, under}
use Rattle.xmp_map.specs.Held as held
use Rattle.xmp_map.proofs.Counted.{and_left, and_right}
use Rattle.xmp_prog.specs.declared.parts.ProgParts.{ProgParts}
use Rattle.xmp_meaning.specs.Declarations.{extents}
use Rattle.xmp_meaning.specs.Layouts.{Packed, axes_of, kept, number_from}
use Rattle.xmp_meaning.specs.Laws.{WholeNumbers, HeldNumbers}

-- ---- whole rows

fold_whole : (z e x rest more : ℕ) → (z * e + x) * rest + more ≡ z * (e * rest) + (x * rest + more)
fold_whole z e x rest more = grind arith

whole_from : (es xs : List ℕ) (z : ℕ) → length xs ≡ length es → number_from (axes_of [] es) (pos z) xs ≡ pos (z * product es + row_major es xs)
unfolding product row_major
whole_from [] [] z l = ap pos (let e : z ≡ z * 1 + 0 = omega arith in e)
whole_from [] (x ∷ xs) z l = absurd (omega (arith, l))
whole_from (e ∷ es) [] z l = absurd (omega (arith, l))
whole_from (e ∷ es) (x ∷ xs) z l = whole_from es xs (z * e + x) (let m : length xs ≡ length es = omega (arith, l) in m)
    ∙ ap pos (fold_whole z e x (product es) (row_major es xs))

pub whole_numbers : (p : ProgParts) → WholeNumbers p
whole_numbers p array image xs l =
    ap (λ n. pos (image * product (extents p array)) +ℤ n) (whole_from (extents p array) xs 0 l)
    ∙ ap (λ n. pos (image * product (extents p array) + n)) (let e : 0 * product (extents p array) + row_major (extents p array) xs ≡ row_major (extents p array) xs = omega arith in e)

-- ---- packed rows

module _ (ss : List SpreadDim) (at : List ℕ) where
  abbrev tests_of : List AlignedDim → List (ℕ → Bool)
  tests_of ls = map (λ l. held.holds_on ss at l) ls

  abbrev extents_of : List AlignedDim → List ℕ
  extents_of ls = map (λ l. l.extent) ls

  held_over_nothing : (o : Option ℕ) (offset low high x : ℕ) → is_none o ≡ true → held.holds_over (under ss o) at offset low high x ≡ true
  held_over_nothing None offset low high x e = refl
  held_over_nothing (Some d) offset low high x e = cc

  -- an unused dimension has one subscript, which each node holds
  unused_count : (l : AlignedDim) → is_unused l ≡ true → count_below (held.holds_on ss at l) l.extent ≡ 1
  unused_count l u =
      let one : l.extent ≡ 1 = eqb-true l.extent 1 (and_left (l.extent == 1) (is_none l.target.dim) u) in
      let holds : held.holds_on ss at l 0 ≡ true =
      held_over_nothing l.target.dim (held.offset_of l.target.offset) l.low l.high 0 (and_right (l.extent == 1) (is_none l.target.dim) u) in
      ap (count_below (held.holds_on ss at l)) one ∙ count_below-yes (held.holds_on ss at l) 0 holds
      ∙ ap (λ n. n + 1) (count_below-zero (held.holds_on ss at l))

  unused_position : (l : AlignedDim) (x : ℕ) → is_unused l ≡ true → x < l.extent → count_below (held.holds_on ss at l) x ≡ 0
  unused_position l x u lt =
      let one : l.extent ≡ 1 = eqb-true l.extent 1 (and_left (l.extent == 1) (is_none l.target.dim) u) in
      let first : x ≡ 0 = omega (arith, one, lt) in
      ap (count_below (held.holds_on ss at l)) first ∙ count_below-zero (held.holds_on ss at l)

  -- behind the last dimension of an array there is one cell, the first
  nothing_behind : (ls : List AlignedDim) (xs : List ℕ) → list_all is_unused ls ≡ true → IsInside xs (extents_of ls)
      → (product (counts_below (tests_of ls) (extents_of ls)) ≡ 1) × (row_major (counts_below (tests_of ls) (extents_of ls)) (counts_below (tests_of ls) xs) ≡ 0)
  unfolding product row_major counts_below IsInside
  nothing_behind [] xs u i = (refl, refl)
  nothing_behind (l ∷ ls) [] u i = absurd i
  nothing_behind (l ∷ ls) (x ∷ xs) u i =
      let rest : _ = nothing_behind ls xs (and_right (is_unused l) (list_all is_unused ls) u) i.1 in
      let here : is_unused l ≡ true = and_left (is_unused l) (list_all is_unused ls) u in
      (rw (unused_count l here, rest.0) refl, rw (unused_position l x here i.0, rest.1) (omega arith))

  held_from : (ls : List AlignedDim) (dims : ℕ) (xs : List ℕ) (z : ℕ) → list_all is_unused (drop dims ls) ≡ true → IsInside xs (extents_of ls)
      → all_pass (tests_of ls) xs ≡ true
      → number_from (axes_of (tests_of ls) (take dims (extents_of ls))) (pos z) (take dims xs)
      ≡ pos (z * product (counts_below (tests_of ls) (extents_of ls)) + row_major (counts_below (tests_of ls) (extents_of ls)) (counts_below (tests_of ls) xs))
  unfolding product row_major counts_below IsInside all_pass
  held_from ls zero xs z u i h =
      let rest : _ = nothing_behind ls xs u i in
      ap pos (let e : z ≡ z * 1 + 0 = omega arith in e) ∙ rw (rest.0, rest.1) refl
  held_from [] (suc dims) xs z u i h = ap pos (let e : z ≡ z * 1 + 0 = omega arith in e)
  held_from (l ∷ ls) (suc dims) [] z u i h = absurd i
  held_from (l ∷ ls) (suc dims) (x ∷ xs) z u i h =
      let test : ℕ → Bool = held.holds_on ss at l in
      ap (λ b. number_from (axes_of (tests_of ls) (take dims (extents_of ls)))
      (pos (z * count_below test l.extent) +ℤ (if b then pos (count_below test x) else negsuc 0)) (take dims xs))
      (and_left (test x) (all_pass (tests_of ls) xs) h)
      ∙ held_from ls dims xs (z * count_below test l.extent + count_below test x) u i.1 (and_right (test x) (all_pass (tests_of ls) xs) h)
      ∙ ap pos (fold_whole z (count_below test l.extent) (count_below test x) _ _)

pub held_numbers : (p : ProgParts) → HeldNumbers p
held_numbers p array number node m cell spread es inside holds =
    ap (λ home. before +ℤ number_from (axes_of (kept (Packed node) home) (extents p array)) (pos 0) (take m.dims cell)) spread
    ∙ ap (λ ns. before +ℤ number_from (axes_of (held.tests m node) ns) (pos 0) (take m.dims cell)) es
    ∙ ap (λ n. before +ℤ n) (held_from m.template.spread (unravel m.template.grid.sizes node) m.aligned m.dims cell 0 m.rest inside holds)
    ∙ ap pos (first_row (product (extents p array)) (product (held.held_counts m node)) (held.slot m node cell))
  where
    before : ℤ
    before = pos (0 * product (extents p array))

    first_row : (a b n : ℕ) → 0 * a + (0 * b + n) ≡ n
    first_row a b n = omega arith
