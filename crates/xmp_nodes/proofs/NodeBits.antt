-- Node sets as bits, and the least node of a set.
use Rattle.std.proofs.Common.{◌≡◌, ◌<◌, ◌≤◌, ◌+◌, ◌-◌, ◌*◌, ◌^◌, ◌==◌, ◌&&◌, if◌then◌else◌, ℕ, zero, suc, Bool, true, false, not, List, [], ◌∷◌, refl, sym, ap, ◌∙◌, arith}
use Rattle.std.specs.Prelude.{nat_lt, nat_le}
use Rattle.std.specs.List.{list_all, range_with_len}
use Rattle.std.specs.Int.{bit_at}
use Rattle.std.proofs.lemmas.Bool.{eqb-true, lt-ltb}
use Rattle.std.proofs.lemmas.Bool.Decides.{nat_tests}
use Rattle.std.proofs.lemmas.Nat.Bits.{bit_at_cat_low, bit_at_cat_high}
use Rattle.xmp_map.specs.declared.grid.Grid.{Grid}
use Rattle.xmp_map.specs.declared.grid.NodeSet.{NodeSet}
use Rattle.xmp_map.specs.RowMajor.{product}
use Rattle.xmp_map.specs.Nodes.{in_box}
use Rattle.xmp_map.proofs.Order.{AllBelow, none_below, more_below, unravel-row_major, row_major-lt}
use Rattle.xmp_prog.specs.declared.parts.ProgParts.{ProgParts}
use Rattle.xmp_prog.specs.Fits.{node_count}
use Rattle.xmp_prog.specs.NodeSets.{lies_inside, is_node_set, has_node, sets_apart}
use Rattle.xmp_meaning.specs.TaskEnds.{leader}
use Rattle.xmp_paths.specs.NodeSets.{has}
use Rattle.xmp_loops.specs.Objects.{bits_where, is_in_set, nodes_in, is_in_grid, all_nodes}

-- ---- bits

abbrev as_number : Bool → ℕ
as_number true = 1
as_number false = 0

bit_is : (b : Bool) (n x : ℕ) → x + (if b then 2 ^ n else 0) ≡ as_number b * 2 ^ n + x
bit_is true n x = omega arith
bit_is false n x = omega arith

bits_below : (test : ℕ → Bool) (n : ℕ) → bits_where test n < 2 ^ n
bits_below test zero = omega arith
bits_below test (suc n) = at_test (test n) (bits_below test n)
  where
    at_test : (b : Bool) → bits_where test n < 2 ^ n → bits_where test n + (if b then 2 ^ n else 0) < 2 ^ suc n
    at_test true h = let e : 2 ^ suc n ≡ 2 ^ n + 2 ^ n = twice n in omega (arith, h, e)
      where
        twice : (n : ℕ) → 2 ^ suc n ≡ 2 ^ n + 2 ^ n
        twice n = omega arith
    at_test false h = let e : 2 ^ suc n ≡ 2 ^ n + 2 ^ n = twice n in omega (arith, h, e)
      where
        twice : (n : ℕ) → 2 ^ suc n ≡ 2 ^ n + 2 ^ n
        twice n = omega arith

one_bit : (b : Bool) → (bit_at (as_number b) 0 == 1) ≡ b
one_bit true = refl
one_bit false = refl

last_bit : (test : ℕ → Bool) (n k : ℕ) → k < suc n → (k < n → has (bits_where test n) k ≡ test k) → has (bits_where test (suc n)) k ≡ test k
last_bit test n k h before = at_last (k == n) refl
  where
    whole : has (bits_where test (suc n)) k ≡ (bit_at (as_number (test n) * 2 ^ n + bits_where test n) k == 1)
    whole = ap (λ m. bit_at m k == 1) (bit_is (test n) n (bits_where test n))

    below : (k n : ℕ) → k < suc n → (k == n) ≡ false → k < n
    below k n h e = grind (arith, nat_tests)

    at_last : (b : Bool) → (k == n) ≡ b → has (bits_where test (suc n)) k ≡ test k
    at_last true e =
        let same : k ≡ n = eqb-true k n e in
        let none : k - n ≡ 0 = omega (arith, same) in
        whole
        ∙ ap (λ m. m == 1) (bit_at_cat_high (as_number (test n)) n (bits_where test n) k (bits_below test n) (omega (arith, same)))
        ∙ ap (λ m. bit_at (as_number (test n)) m == 1) none
        ∙ one_bit (test n)
        ∙ ap test (sym same)
    at_last false e =
        let less : k < n = below k n h e in
        whole
        ∙ ap (λ m. m == 1) (bit_at_cat_low (as_number (test n)) n (bits_where test n) k less)
        ∙ before less

pub has_where : (test : ℕ → Bool) (n k : ℕ) → k < n → has (bits_where test n) k ≡ test k
has_where test zero k h = absurd (omega (arith, h))
has_where test (suc n) k h = last_bit test n k h (λ less. has_where test n k less)

-- ---- a program's nodes

pub few_nodes : (g : Grid) → product g.sizes ≤ 16
few_nodes g =
    let h = g.valid in
    grind (arith, nat_tests)

pub all_have : (p : ProgParts) (k : ℕ) → k < node_count p → has (all_nodes p) k ≡ true
all_have p k h =
    let few = few_nodes p.grid in
    has_where (is_in_grid p.grid) 16 k (omega (arith, h, few)) ∙ lt-ltb k (node_count p) h

pub set_has : (p : ProgParts) (set : NodeSet) (k : ℕ) → k < node_count p → has (nodes_in p.grid set) k ≡ has_node p.grid set k
set_has p set k h =
    let few = few_nodes p.grid in
    has_where (is_in_set p.grid set) 16 k (omega (arith, h, few)) ∙ ap (λ b. b && has_node p.grid set k) (lt-ltb k (node_count p) h)

-- ---- the least node of a set

first_below : (fs ms ss : List ℕ) → lies_inside fs ms ss ≡ true → AllBelow fs ss
first_below [] [] [] h = none_below
first_below [] [] (s ∷ ss) h = cc
first_below [] (m ∷ ms) ss h = cc
first_below (f ∷ fs) [] ss h = cc
first_below (f ∷ fs) (m ∷ ms) [] h = cc
first_below (f ∷ fs) (m ∷ ms) (s ∷ ss) h =
    more_below f s fs ss (grind (arith, nat_tests)) (first_below fs ms ss (rest (nat_le 1 m && nat_le (f + m) s) (lies_inside fs ms ss) h))
  where
    rest : (a b : Bool) → (a && b) ≡ true → b ≡ true
    rest true b h = h
    rest false b h = cc

first_in : (fs ms ss : List ℕ) → lies_inside fs ms ss ≡ true → in_box fs ms fs ≡ true
first_in [] [] [] h = refl
first_in [] [] (s ∷ ss) h = refl
first_in [] (m ∷ ms) ss h = refl
first_in (f ∷ fs) [] ss h = cc
first_in (f ∷ fs) (m ∷ ms) [] h = cc
first_in (f ∷ fs) (m ∷ ms) (s ∷ ss) h =
    let r = first_in fs ms ss (rest (nat_le 1 m && nat_le (f + m) s) (lies_inside fs ms ss) h) in
    let a : nat_le f f ≡ true = grind (arith, nat_tests) in
    let b : nat_lt f (f + m) ≡ true = grind (arith, nat_tests) in
    rw (a, b, r) refl
  where
    rest : (a b : Bool) → (a && b) ≡ true → b ≡ true
    rest true b h = h
    rest false b h = cc

pub leader_below : (p : ProgParts) (set : NodeSet) → is_node_set p.grid set ≡ true → leader p set < node_count p
leader_below p set h = row_major-lt set.first p.grid.sizes (first_below set.first set.many p.grid.sizes h)

pub leader_has : (p : ProgParts) (set : NodeSet) → is_node_set p.grid set ≡ true → has_node p.grid set (leader p set) ≡ true
leader_has p set h =
    ap (in_box set.first set.many) (unravel-row_major set.first p.grid.sizes (first_below set.first set.many p.grid.sizes h))
    ∙ first_in set.first set.many p.grid.sizes h

-- ---- sets that share no node

first_test : (a b : Bool) → (a && b) ≡ true → a ≡ true
first_test true b h = refl
first_test false b h = h

rest_test : (a b : Bool) → (a && b) ≡ true → b ≡ true
rest_test true b h = h
rest_test false b h = cc

above : (k a : ℕ) → a ≤ k → (k == a) ≡ false → a + 1 ≤ k
above k a le e = grind (arith, nat_tests)

at_or_behind : (test : ℕ → Bool) (a k : ℕ) → a ≤ k → test a ≡ true → (a + 1 ≤ k → test k ≡ true) → test k ≡ true
at_or_behind test a k le first behind = at_first (k == a) refl
  where
    at_first : (b : Bool) → (k == a) ≡ b → test k ≡ true
    at_first true e = ap test (eqb-true k a e) ∙ first
    at_first false e = behind (above k a le e)

apart_at : (test : ℕ → Bool) (a n k : ℕ) → list_all test (range_with_len a n) ≡ true → a ≤ k → k < a + n → test k ≡ true
apart_at test a zero k h le lt = absurd (omega (arith, le, lt))
apart_at test a (suc n) k h le lt =
    at_or_behind test a k le (first_test (test a) (list_all test (range_with_len (a + 1) n)) h)
    (λ more. apart_at test (a + 1) n k (rest_test (test a) (list_all test (range_with_len (a + 1) n)) h) more (omega (arith, lt)))

-- a node of one is none of the other
pub apart_sets : (p : ProgParts) (a b : NodeSet) (k : ℕ) → sets_apart p.grid a b ≡ true → k < node_count p → has_node p.grid a k ≡ true → has_node p.grid b k ≡ false
apart_sets p a b k h lt e =
    no_both (has_node p.grid a k) (has_node p.grid b k) (apart_at (λ n. not (has_node p.grid a n && has_node p.grid b n)) 0 (node_count p) k h (omega arith) (omega (arith, lt))) e
  where
    no_both : (a b : Bool) → not (a && b) ≡ true → a ≡ true → b ≡ false
    no_both true true n e = sym n
    no_both true false n e = refl
    no_both false b n e = cc
