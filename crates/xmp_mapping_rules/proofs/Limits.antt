-- A product, and a number beside a limit.
use Rattle.std.proofs.Common.{◌≡◌, ◌∙◌, sym, ◌<◌, ◌≤◌, ◌+◌, ◌*◌, ℕ, ℤ, pos, suc, zero, min, arith, ⊎_elim, ap, List, [], ◌∷◌, map, length, drop, drop-cons, add-one, get_or, refl, negsuc}
use Rattle.std.proofs.lemmas.Bool.{cases_lt}
use Rattle.std.proofs.lemmas.List.{drop_all}
use Rattle.std.proofs.lemmas.List.Sums.{sum_by-cons}
use Rattle.xmp_map.specs.RowMajor.{product}
use Rattle.xmp_names.specs.Sizes.{natural}
use Rattle.xmp_mapping_rules.specs.MappingRules.{node_product, counts}
use Rattle.std.specs.Prelude.{◌==◌}
use Rattle.std.specs.List.{sum}
use Rattle.std.proofs.lemmas.Bool.Decides.{nat_tests}

small : (c a r : ℕ) → a < c + 1 → min (a * r) (c + 1) ≡ min (min a (c + 1) * r) (c + 1)
small c a r h = let e : min a (c + 1) ≡ a = omega arith in rw e

large : (c a r : ℕ) → c + 1 ≤ a → min (a * suc r) (c + 1) ≡ min (min a (c + 1) * suc r) (c + 1)
large c a r h = let e : min a (c + 1) ≡ c + 1 = omega arith in rw e (omega arith)

pub limit_times : (c a r : ℕ) → min (a * r) (c + 1) ≡ min (min a (c + 1) * r) (c + 1)
limit_times c a zero = omega arith
limit_times c a (suc r) = ⊎_elim (small c a (suc r)) (large c a r) (cases_lt a (c + 1))

regroup : (p x r : ℕ) → p * (x * r) ≡ p * x * r
regroup p x r = omega arith

-- One more factor of a product that is kept below a limit.
pub product_more : (c p x : ℕ) (xs : List ℕ) → min (p * product (x ∷ xs)) (c + 1) ≡ min (min (p * x) (c + 1) * product xs) (c + 1)
unfolding product
product_more c p x xs = ap (λ m. min m (c + 1)) (regroup p x (product xs)) ∙ limit_times c (p * x) (product xs)

pub product_none : (c p : ℕ) → min (p * product []) (c + 1) ≡ min p (c + 1)
unfolding product
product_none c p = ap (λ m. min m (c + 1)) (omega arith)

unrolled_at : {A : Type 0} (xs : List A) (i : ℕ) (d : A) → i < length xs → drop i xs ≡ get_or xs i d ∷ drop (i + 1) xs
unrolled_at xs i d h = rw (add-one, drop-cons xs i d)

pub node_step : (c : ℕ) (sizes : List ℤ) (i p n next whole : ℕ) → i < length sizes → n ≡ natural (get_or sizes i (pos 0)) → next ≡ min (p * n) (c + 1) →
    whole ≡ min (p * node_product (drop i sizes)) (c + 1) → whole ≡ min (next * node_product (drop (i + 1) sizes)) (c + 1)
node_step c sizes i p n next whole h e q w =
    w ∙ (ap (λ l. min (p * node_product l) (c + 1)) (unrolled_at sizes i (pos 0) h)
    ∙ (product_more c p (natural (get_or sizes i (pos 0))) (map natural (drop (i + 1) sizes))
    ∙ ap (λ m. min (m * node_product (drop (i + 1) sizes)) (c + 1)) (ap (λ m. min (p * m) (c + 1)) (sym e) ∙ sym q)))

pub cell_step : (c : ℕ) (extents : List ℕ) (i p next whole : ℕ) → i < length extents → next ≡ min (p * get_or extents i 0) (c + 1) →
    whole ≡ min (p * product (drop i extents)) (c + 1) → whole ≡ min (next * product (drop (i + 1) extents)) (c + 1)
cell_step c extents i p next whole h q w =
    w ∙ (ap (λ l. min (p * product l) (c + 1)) (unrolled_at extents i 0 h)
    ∙ (product_more c p (get_or extents i 0) (drop (i + 1) extents) ∙ ap (λ m. min (m * product (drop (i + 1) extents)) (c + 1)) (sym q)))

-- All factors are used up.
pub node_end : (c : ℕ) (sizes : List ℤ) (i p : ℕ) → length sizes ≤ i → p ≤ c + 1 → min (node_product sizes) (c + 1) ≡ min (p * node_product (drop i sizes)) (c + 1) →
    p ≡ min (node_product sizes) (c + 1)
node_end c sizes i p h le w =
    let e : p ≡ min p (c + 1) = omega arith in
    e ∙ sym (w ∙ (ap (λ l. min (p * node_product l) (c + 1)) (drop_all i sizes h) ∙ product_none c p))

pub cell_end : (c : ℕ) (extents : List ℕ) (i p : ℕ) → length extents ≤ i → p ≤ c + 1 → min (product extents) (c + 1) ≡ min (p * product (drop i extents)) (c + 1) →
    p ≡ min (product extents) (c + 1)
cell_end c extents i p h le w =
    let e : p ≡ min p (c + 1) = omega arith in
    e ∙ sym (w ∙ (ap (λ l. min (p * product l) (c + 1)) (drop_all i extents h) ∙ product_none c p))

pub one_factor : (c p : ℕ) → min p (c + 1) ≡ min (1 * p) (c + 1)
one_factor c p = ap (λ m. min m (c + 1)) (omega arith)

-- A sum that is kept below a limit.
pub sum_step : (xs : List ℤ) (i t n next whole m : ℕ) → i < length xs → n ≡ natural (get_or xs i (pos 0)) → next ≡ min (t + n) m →
    whole ≡ min (t + sum (map natural (drop i xs))) m → whole ≡ min (next + sum (map natural (drop (i + 1) xs))) m
sum_step xs i t n next whole m h e q w =
    let u : sum (map natural (drop i xs)) ≡ natural (get_or xs i (pos 0)) + sum (map natural (drop (i + 1) xs)) =
    ap (λ l. sum (map natural l)) (unrolled_at xs i (pos 0) h) ∙ sum_by-cons (λ x. x) (natural (get_or xs i (pos 0))) (map natural (drop (i + 1) xs)) in
    omega arith

pub sum_end : (xs : List ℤ) (i t m : ℕ) → length xs ≤ i → t ≤ m → min (sum (map natural xs)) m ≡ min (t + sum (map natural (drop i xs))) m →
    t ≡ min (sum (map natural xs)) m
sum_end xs i t m h le w =
    let u : sum (map natural (drop i xs)) ≡ 0 = ap (λ l. sum (map natural l)) (drop_all i xs h) in
    omega arith

-- A limit that is beyond the number doesn't matter.
kept_equal : (s m n : ℕ) → n < m → (min s m == n) ≡ (s == n)
kept_equal s m n h = grind (arith, nat_tests)

pub counts_kept : (s m : ℕ) (z : ℤ) → ((n : ℕ) → z ≡ pos n → n < m) → counts (min s m) z ≡ counts s z
counts_kept s m (pos n) h = kept_equal s m n (h n refl)
counts_kept s m (negsuc n) h = refl
