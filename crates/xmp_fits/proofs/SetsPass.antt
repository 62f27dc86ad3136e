-- Sets of nodes that break no rule: boxes inside the grid, of one node where one is asked for, and apart where they share no node.
use Rattle.std.proofs.Common.{◌≡◌, ◌≤◌, ◌∙◌, sym, ap, refl, ◌++◌, ◌∷◌, [], ◌+◌, ◌*◌, ◌&&◌, ℕ, suc, ℤ, pos, negsuc, Bool, true, false, not, List, Option, arith, length, map, leb-true, le-leb}
use Rattle.std.specs.Prelude.{nat_le, nat_lt, int_le, ◌==◌, if◌then◌else◌}
use Rattle.std.specs.List.{list_all, range_with_len}
use Rattle.std.proofs.lemmas.List.{length-map}
use Rattle.std.proofs.lemmas.Bool.Decides.{nat_tests}
use Rattle.xmp_map.specs.declared.grid.Grid.{Grid}
use Rattle.xmp_map.specs.declared.grid.NodeSet.{NodeSet}
use Rattle.xmp_map.specs.RowMajor.{product, unravel}
use Rattle.xmp_map.specs.Nodes.{filled, in_box}
use Rattle.xmp_prog.specs.Numbers.{pairwise}
use Rattle.xmp_prog.specs.NodeSets.{has_node, is_node_set, is_one_node, lies_inside, sets_apart}
use Rattle.xmp_directives.specs.Directives.{box_of, is_box, is_one, node_number, overlap, range_right, ranges, ranges_right, share}
use Rattle.xmp_names.specs.Sizes.{natural}
use Rattle.xmp_parts.specs.Parts.{IsGrid}
use Rattle.xmp_fits.proofs.MapsPass.{product_filled}
use Rattle.xmp_parts.proofs.Padded.{at_most_three}
use Rattle.xmp_parts.proofs.Rows.{RightNodes, small_nodes}
use Rattle.xmp_parts.proofs.Unbroken.{both_true, left_true, right_true}

-- ---- one dimension

number_in : (a s : ℕ) → nat_le a s ≡ true → nat_le s 16 ≡ true → node_number (pos a) ≡ a
number_in a s h k = go (nat_le 0 a && nat_le a 16) (both_true (nat_le 0 a) (nat_le a 16) (grind (arith, nat_tests)) (grind (arith, nat_tests)))
  where
    go : (b : Bool) → b ≡ true → (if b then a else 0) ≡ a
    go true e = refl
    go false e = cc

sum_within : (a m s : ℕ) → nat_le (a + m) s ≡ true → nat_le a s ≡ true
sum_within a m s h = grind (arith, nat_tests)

sum_within_right : (a m s : ℕ) → nat_le (a + m) s ≡ true → nat_le m s ≡ true
sum_within_right a m s h = grind (arith, nat_tests)

untrue : false ≡ true → ⊥
untrue e = cc

dim_inside : (n : ℤ) (r : ℤ × ℤ) → range_right n r ≡ true → int_le n (pos 16) ≡ true → (nat_le 1 (node_number r.1) && nat_le (node_number r.0 + node_number r.1) (natural n)) ≡ true
dim_inside (pos s) (pos a, pos m) h k =
    let rest : (nat_le 1 m && nat_le (a + m) s) ≡ true = right_true (nat_le 0 a) (nat_le 1 m && nat_le (a + m) s) h in
    let some : nat_le 1 m ≡ true = left_true (nat_le 1 m) (nat_le (a + m) s) rest in
    let most : nat_le (a + m) s ≡ true = right_true (nat_le 1 m) (nat_le (a + m) s) rest in
    let first : node_number (pos a) ≡ a = number_in a s (sum_within a m s most) k in
    let many : node_number (pos m) ≡ m = number_in m s (sum_within_right a m s most) k in
    both_true _ _ (ap (nat_le 1) many ∙ some) (ap (λ x. nat_le (x + node_number (pos m)) s) first ∙ (ap (λ x. nat_le (a + x) s) many ∙ most))
dim_inside (pos s) (pos a, negsuc m) h k = absurd (untrue (right_true (nat_le 0 a) false h))
dim_inside (pos s) (negsuc a, m) h k = cc
dim_inside (negsuc s) (pos a, pos m) h k = absurd (untrue (right_true (nat_le 1 m) false (right_true (nat_le 0 a) (nat_le 1 m && false) h)))
dim_inside (negsuc s) (pos a, negsuc m) h k = absurd (untrue (right_true (nat_le 0 a) false h))
dim_inside (negsuc s) (negsuc a, m) h k = cc

-- ---- all dimensions

abbrev firsts : List (ℤ × ℤ) → List ℕ
firsts rs = map (λ r. node_number r.0) rs

abbrev counts : List (ℤ × ℤ) → List ℕ
counts rs = map (λ r. node_number r.1) rs

abbrev small : List ℤ → Bool
small ns = list_all (λ n. int_le n (pos 16)) ns

module _ (n : ℤ) (ns : List ℤ) (r : ℤ × ℤ) (rs : List (ℤ × ℤ)) (h : ranges_right (n ∷ ns) (r ∷ rs) ≡ true) (k : small (n ∷ ns) ≡ true) where
  this : (nat_le 1 (node_number r.1) && nat_le (node_number r.0 + node_number r.1) (natural n)) ≡ true
  this = dim_inside n r (left_true (range_right n r) (ranges_right ns rs) h) (left_true (int_le n (pos 16)) (small ns) k)

  others : ranges_right ns rs ≡ true
  others = right_true (range_right n r) (ranges_right ns rs) h

  small_others : small ns ≡ true
  small_others = right_true (int_le n (pos 16)) (small ns) k

box_inside : (ns : List ℤ) (rs : List (ℤ × ℤ)) → length rs ≡ length ns → length ns ≤ 3 → ranges_right ns rs ≡ true → small ns ≡ true →
    lies_inside (filled 0 (firsts rs)) (filled 1 (counts rs)) (filled 1 (map natural ns)) ≡ true
box_inside [] [] e f h k = refl
box_inside [] (r ∷ rs) e f h k = absurd (omega arith)
box_inside (a ∷ []) [] e f h k = absurd (omega arith)
box_inside (a ∷ []) (r ∷ []) e f h k = both_true _ true (this a [] r [] h k) refl
box_inside (a ∷ []) (r ∷ q ∷ rs) e f h k = absurd (omega arith)
box_inside (a ∷ b ∷ []) [] e f h k = absurd (omega arith)
box_inside (a ∷ b ∷ []) (r ∷ []) e f h k = absurd (omega arith)
box_inside (a ∷ b ∷ []) (r ∷ q ∷ []) e f h k =
    both_true _ _ (this a (b ∷ []) r (q ∷ []) h k) (both_true _ true (this b [] q [] (others a (b ∷ []) r (q ∷ []) h k) (small_others a (b ∷ []) r (q ∷ []) h k)) refl)
box_inside (a ∷ b ∷ []) (r ∷ q ∷ t ∷ rs) e f h k = absurd (omega arith)
box_inside (a ∷ b ∷ c ∷ []) [] e f h k = absurd (omega arith)
box_inside (a ∷ b ∷ c ∷ []) (r ∷ []) e f h k = absurd (omega arith)
box_inside (a ∷ b ∷ c ∷ []) (r ∷ q ∷ []) e f h k = absurd (omega arith)
box_inside (a ∷ b ∷ c ∷ []) (r ∷ q ∷ t ∷ []) e f h k =
    let h2 = others a (b ∷ c ∷ []) r (q ∷ t ∷ []) h k in
    let k2 = small_others a (b ∷ c ∷ []) r (q ∷ t ∷ []) h k in
    both_true _ _ (this a (b ∷ c ∷ []) r (q ∷ t ∷ []) h k)
    (both_true _ _ (this b (c ∷ []) q (t ∷ []) h2 k2)
    (both_true _ true (this c [] t [] (others b (c ∷ []) q (t ∷ []) h2 k2) (small_others b (c ∷ []) q (t ∷ []) h2 k2)) refl))
box_inside (a ∷ b ∷ c ∷ []) (r ∷ q ∷ t ∷ u ∷ rs) e f h k = absurd (omega arith)
box_inside (a ∷ b ∷ c ∷ d ∷ rest) rs e f h k = absurd (omega arith)

ranges_length : (ns : List ℤ) (parts : List (Option (ℤ × ℤ))) → length (ranges ns parts) ≡ length ns
ranges_length [] parts = refl
ranges_length (n ∷ ns) [] = ap suc (ranges_length ns [])
ranges_length (n ∷ ns) (x ∷ xs) = ap suc (ranges_length ns xs)

small_of : (ns : List ℤ) → list_all (λ n. nat_le (natural n) 16) ns ≡ true → small ns ≡ true
small_of [] h = refl
small_of (pos n ∷ ns) h = both_true (nat_le n 16) (small ns) (left_true (nat_le n 16) _ h) (small_of ns (right_true (nat_le n 16) _ h))
small_of (negsuc n ∷ ns) h = small_of ns (right_true (nat_le 0 16) _ h)

count_one : (n : ℤ) (r : ℤ × ℤ) → range_right n r ≡ true → int_le r.1 (pos 1) ≡ true → node_number r.1 ≡ 1
count_one n (pos a, pos m) h k =
    let some : nat_le 1 m ≡ true = left_true (nat_le 1 m) _ (right_true (nat_le 0 a) _ h) in
    let e : m ≡ 1 = one_of m some k in
    ap (λ x. node_number (pos x)) e
  where
    one_of : (m : ℕ) → nat_le 1 m ≡ true → nat_le m 1 ≡ true → m ≡ 1
    one_of m p q = let a = leb-true 1 m p in let b = leb-true m 1 q in omega arith
count_one n (pos a, negsuc m) h k = absurd (untrue (right_true (nat_le 0 a) false h))
count_one n (negsuc a, m) h k = absurd (untrue h)

all_one : (ns : List ℤ) (rs : List (ℤ × ℤ)) → length rs ≡ length ns → ranges_right ns rs ≡ true → is_one rs ≡ true → product (counts rs) ≡ 1
unfolding product
all_one ns [] e h k = refl
all_one [] (r ∷ rs) e h k = absurd (omega arith)
all_one (n ∷ ns) (r ∷ rs) e h k =
    let one : node_number r.1 ≡ 1 = count_one n r (left_true (range_right n r) _ h) (left_true (int_le r.1 (pos 1)) _ k) in
    let rest : product (counts rs) ≡ 1 = all_one ns rs (omega arith) (right_true (range_right n r) _ h) (right_true (int_le r.1 (pos 1)) _ k) in
    ap (λ m. m * product (counts rs)) one ∙ ap (λ m. 1 * m) rest

-- ---- the box

-- The box that is made where the ranges are right.
box_is : (ns : List ℤ) (rs : List (ℤ × ℤ)) → is_box ns rs ≡ true → box_of ns rs ≡ record { first = filled 0 (firsts rs); many = filled 1 (counts rs) }
box_is ns rs h = ap (λ b. if b then record { first = filled 0 (firsts rs); many = filled 1 (counts rs) } else record { first = 0 ∷ 0 ∷ 0 ∷ []; many = 1 ∷ 1 ∷ 1 ∷ [] }) h

module _ (nodes : List ℤ) (parts : List (Option (ℤ × ℤ))) (g : Grid) (n : RightNodes nodes) (is : IsGrid (map natural nodes) g) (h : ranges_right nodes (ranges nodes parts) ≡ true) where
  few : length nodes ≤ 3
  few = at_most_three (length nodes) n.few

  few_test : nat_le (length nodes) 3 ≡ true
  few_test = le-leb (length nodes) 3 few

  all_small : small nodes ≡ true
  all_small = small_of nodes (small_nodes nodes n)

  made_box : box_of nodes (ranges nodes parts) ≡ record { first = filled 0 (firsts (ranges nodes parts)); many = filled 1 (counts (ranges nodes parts)) }
  made_box = box_is nodes (ranges nodes parts) (both_true _ _ h (both_true _ _ all_small few_test))

  pub set_inside : is_node_set g (box_of nodes (ranges nodes parts)) ≡ true
  set_inside =
      ap (is_node_set g) made_box
      ∙ (ap (lies_inside (filled 0 (firsts (ranges nodes parts))) (filled 1 (counts (ranges nodes parts)))) is.0
      ∙ box_inside nodes (ranges nodes parts) (ranges_length nodes parts) few h all_small)

  -- One node, where no range has more.
  pub one_node : is_one (ranges nodes parts) ≡ true → is_one_node g (box_of nodes (ranges nodes parts)) ≡ true
  one_node one =
      let rs : List (ℤ × ℤ) = ranges nodes parts in
      let short : length (counts rs) ≤ 3 = let l = length-map rs (λ (r : ℤ × ℤ). node_number r.1) in let m = ranges_length nodes parts in let f : length nodes ≤ 3 = few in omega arith in
      let many : product (box_of nodes rs).many ≡ 1 =
      ap (λ b. product b.many) made_box ∙ (product_filled (counts rs) short ∙ all_one nodes rs (ranges_length nodes parts) h one) in
      both_true _ (product (box_of nodes rs).many == 1) set_inside (ap (λ m. m == 1) many)

-- ---- sets that share no node

shared : (f m g k xs : List ℕ) → in_box f m xs ≡ true → in_box g k xs ≡ true → overlap f m g k ≡ true
shared [] m g k xs h i = refl
shared (a ∷ f) [] g k xs h i = refl
shared (a ∷ f) (n ∷ m) [] k xs h i = refl
shared (a ∷ f) (n ∷ m) (b ∷ g) [] xs h i = refl
shared (a ∷ f) (n ∷ m) (b ∷ g) (l ∷ k) [] h i = absurd (untrue h)
shared (a ∷ f) (n ∷ m) (b ∷ g) (l ∷ k) (x ∷ xs) h i =
    let p : (nat_le a x && nat_lt x (a + n)) ≡ true = left_true (nat_le a x && nat_lt x (a + n)) (in_box f m xs) h in
    let q : (nat_le b x && nat_lt x (b + l)) ≡ true = left_true (nat_le b x && nat_lt x (b + l)) (in_box g k xs) i in
    both_true (nat_lt a (b + l) && nat_lt b (a + n)) (overlap f m g k)
    (both_true (nat_lt a (b + l)) (nat_lt b (a + n)) (below a x (b + l) (left_true _ (nat_lt x (a + n)) p) (right_true (nat_le b x) _ q)) (below b x (a + n) (left_true _ (nat_lt x (b + l)) q) (right_true (nat_le a x) _ p)))
    (shared f m g k xs (right_true (nat_le a x && nat_lt x (a + n)) _ h) (right_true (nat_le b x && nat_lt x (b + l)) _ i))
  where
    below : (c y e : ℕ) → nat_le c y ≡ true → nat_lt y e ≡ true → nat_lt c e ≡ true
    below c y e h k = grind (arith, nat_tests)

never : {A : Type 0} (test : A → Bool) → ((x : A) → test x ≡ true) → (xs : List A) → list_all test xs ≡ true
never test h [] = refl
never test h (x ∷ xs) = both_true (test x) _ (h x) (never test h xs)

pub apart_sets : (g : Grid) (a b : NodeSet) → not (share a b) ≡ true → sets_apart g a b ≡ true
apart_sets g a b h = never (λ n. not (has_node g a n && has_node g b n)) (λ n. none n (has_node g a n) (has_node g b n) refl refl) (range_with_len 0 (product g.sizes))
  where
    none : (n : ℕ) (x y : Bool) → has_node g a n ≡ x → has_node g b n ≡ y → not (x && y) ≡ true
    none n false y p q = refl
    none n true false p q = refl
    none n true true p q = absurd (untrue (sym (ap not (shared a.first a.many b.first b.many (unravel g.sizes n) p q)) ∙ h))

-- A list of sets, and one more that shares no node with any of them.
one_more : {A : Type 0} (test : A → A → Bool) (xs : List A) (n : A) → pairwise test xs ≡ true → list_all (λ x. test x n) xs ≡ true → pairwise test (xs ++ n ∷ []) ≡ true
one_more test [] n h k = refl
one_more test (x ∷ xs) n h k =
    both_true _ _ (all_push (test x) xs n (left_true (list_all (test x) xs) _ h) (left_true (test x n) _ k))
    (one_more test xs n (right_true (list_all (test x) xs) _ h) (right_true (test x n) _ k))
  where
    all_push : {B : Type 0} (p : B → Bool) (ys : List B) (y : B) → list_all p ys ≡ true → p y ≡ true → list_all p (ys ++ y ∷ []) ≡ true
    all_push p [] y h k = both_true (p y) true k refl
    all_push p (z ∷ ys) y h k = both_true (p z) _ (left_true (p z) _ h) (all_push p ys y (right_true (p z) _ h) k)

pub apart_more : (g : Grid) (sets : List NodeSet) (n : NodeSet) → pairwise (sets_apart g) sets ≡ true → list_all (λ other. not (share other n)) sets ≡ true →
    pairwise (sets_apart g) (sets ++ n ∷ []) ≡ true
apart_more g sets n h k = one_more (sets_apart g) sets n h (each_apart sets k)
  where
    each_apart : (xs : List NodeSet) → list_all (λ other. not (share other n)) xs ≡ true → list_all (λ x. sets_apart g x n) xs ≡ true
    each_apart [] k = refl
    each_apart (x ∷ xs) k = both_true (sets_apart g x n) _ (apart_sets g x n (left_true (not (share x n)) _ k)) (each_apart xs (right_true (not (share x n)) _ k))
