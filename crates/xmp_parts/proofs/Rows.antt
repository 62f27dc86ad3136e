-- The sizes of a nodes array that breaks no rule make a grid.
use Rattle.std.proofs.Common.{◌≡◌, ◌≤◌, ◌<◌, ◌∙◌, ap, refl, ◌∷◌, [], ◌+◌, ◌*◌, ◌&&◌, ℕ, zero, suc, ℤ, pos, negsuc, true, List, Option, Some, None, arith, length, map, IsTrue, le-leb, leb-true}
use Rattle.std.specs.Prelude.{nat_le, int_le}
use Rattle.std.specs.Option.{unwrap_or}
use Rattle.std.specs.List.{list_all}
use Rattle.std.proofs.lemmas.Bool.Decides.{nat_tests}
use Rattle.std.proofs.lemmas.List.{length-map}
use Rattle.xmp_map.specs.Nodes.{makes_grid}
use Rattle.xmp_map.specs.RowMajor.{product}
use Rattle.xmp_names.specs.declared.mappings.NodesLine.{NodesLine}
use Rattle.xmp_names.specs.declared.world.World.{World}
use Rattle.xmp_names.specs.Sizes.{given_or_one, line_sizes, natural}
use Rattle.xmp_mapping_rules.specs.MappingRules.{first_nodes, is_given, item_at, mapping_rules, node_product, nodes_of, nodes_right, one_to_three, sizes_or_row}
use Rattle.xmp_parts.specs.Narrow.{is_count, is_narrow}
use Rattle.xmp_parts.proofs.Unbroken.{both_true, left_true, nodes_at, right_true}

-- One to three sizes, each at least 1, of at most 16 nodes.
pub record RightNodes (nodes : List ℤ) : Type 0 where
  pub few : one_to_three (length nodes) ≡ true
  pub some : list_all (λ n. int_le (pos 1) n) nodes ≡ true
  pub most : nat_le (node_product nodes) 16 ≡ true

from_right : (given : Option ℕ) (sizes : List ℤ) → nodes_right given sizes ≡ true → RightNodes sizes
from_right given sizes h =
    let rest = right_true (one_to_three (length sizes)) _ h in
    let both = right_true (list_all (λ n. int_le (pos 1) n) sizes) (nat_le (node_product sizes) 16 && is_given given (node_product sizes)) rest in
    record { few = left_true (one_to_three (length sizes)) _ h; some = left_true (list_all (λ n. int_le (pos 1) n) sizes) _ rest; most = left_true (nat_le (node_product sizes) 16) _ both }

count_of : (given : Option ℕ) → is_count given ≡ true → (nat_le 1 (unwrap_or given 1) && nat_le (unwrap_or given 1) 16) ≡ true
count_of None h = refl
count_of (Some n) h = h

one_row : (n : ℕ) → (nat_le 1 n && nat_le n 16) ≡ true → RightNodes (pos n ∷ [])
unfolding product
one_row n h =
    let e : n * 1 ≡ n = omega arith in
    record { few = refl; some = both_true (nat_le 1 n) true (left_true (nat_le 1 n) (nat_le n 16) h) refl; most = ap (λ m. nat_le m 16) e ∙ right_true (nat_le 1 n) (nat_le n 16) h }

pub right_nodes : (w : World) → mapping_rules w ≡ [] → IsTrue (is_count w.given) → RightNodes (nodes_of w)
right_nodes w h c = go (item_at w.mappings.nodes (first_nodes w)) refl
  where
    go : (o : Option NodesLine) → item_at w.mappings.nodes (first_nodes w) ≡ o → RightNodes (sizes_or_row (given_or_one w) o)
    go (Some l) e = from_right w.given (line_sizes (given_or_one w) l) (nodes_at w l h e)
    go None e = one_row (given_or_one w) (count_of w.given c)

-- ---- the grid

at_least : (ns : List ℤ) → list_all (λ n. int_le (pos 1) n) ns ≡ true → list_all (λ s. nat_le 1 s) (map natural ns) ≡ true
at_least [] h = refl
at_least (pos n ∷ ns) h = both_true (nat_le 1 n) _ (left_true (nat_le 1 n) _ h) (at_least ns (right_true (nat_le 1 n) _ h))
at_least (negsuc n ∷ ns) h = cc

pub makes : (nodes : List ℤ) → RightNodes nodes → IsTrue (makes_grid (map natural nodes))
makes nodes r =
    both_true _ _ (ap one_to_three (length-map nodes natural) ∙ r.few)
    (both_true (list_all (λ s. nat_le 1 s) (map natural nodes)) _ (at_least nodes r.some) r.most)

-- ---- narrow numbers

factor_left : (n p m : ℕ) → 0 < p → n * p ≤ m → n ≤ m
factor_left n zero m h k = absurd (omega arith)
factor_left n (suc p) m h k =
    let e : n * suc p ≡ n + n * p = omega arith in
    omega arith

factor_right : (n p m : ℕ) → 0 < n → n * p ≤ m → p ≤ m
factor_right zero p m h k = absurd (omega arith)
factor_right (suc n) p m h k =
    let e : suc n * p ≡ p + n * p = omega arith in
    omega arith

some_nodes : (ns : List ℕ) → list_all (λ s. nat_le 1 s) ns ≡ true → 0 < product ns
unfolding product
some_nodes [] h = omega arith
some_nodes (zero ∷ ns) h = absurd (cc)
some_nodes (suc n ∷ ns) h =
    let rest : 0 < product ns = some_nodes ns (right_true (nat_le 1 (suc n)) _ h) in
    let e : suc n * product ns ≡ product ns + n * product ns = omega arith in
    omega arith

each_narrow : (ns : List ℕ) → list_all (λ s. nat_le 1 s) ns ≡ true → product ns ≤ 16 → list_all (λ n. nat_le n 16) ns ≡ true
unfolding product
each_narrow [] h k = refl
each_narrow (n ∷ ns) h k =
    let one : 0 < n = leb-true 1 n (left_true (nat_le 1 n) _ h) in
    let rest : 0 < product ns = some_nodes ns (right_true (nat_le 1 n) _ h) in
    both_true (nat_le n 16) _ (le-leb n 16 (factor_left n (product ns) 16 rest k))
    (each_narrow ns (right_true (nat_le 1 n) _ h) (factor_right n (product ns) 16 one k))

few_each : (ns : List ℤ) → list_all (λ n. nat_le n 16) (map natural ns) ≡ true → list_all (λ n. nat_le (natural n) 16) ns ≡ true
few_each [] h = refl
few_each (n ∷ ns) h = both_true (nat_le (natural n) 16) _ (left_true (nat_le (natural n) 16) _ h) (few_each ns (right_true (nat_le (natural n) 16) _ h))

-- Each size is at most 16.
pub small_nodes : (nodes : List ℤ) → RightNodes nodes → list_all (λ n. nat_le (natural n) 16) nodes ≡ true
small_nodes nodes r = few_each nodes (each_narrow (map natural nodes) (at_least nodes r.some) (leb-true (node_product nodes) 16 r.most))

within_narrow : (n : ℕ) → nat_le n 16 ≡ true → nat_le n 4194304 ≡ true
within_narrow n h = grind (arith, nat_tests)

all_narrow : (ns : List ℤ) → list_all (λ n. nat_le (natural n) 16) ns ≡ true → list_all is_narrow ns ≡ true
all_narrow [] h = refl
all_narrow (n ∷ ns) h = both_true (is_narrow n) _ (within_narrow (natural n) (left_true (nat_le (natural n) 16) _ h)) (all_narrow ns (right_true (nat_le (natural n) 16) _ h))

pub narrow_nodes : (nodes : List ℤ) → RightNodes nodes → IsTrue (list_all is_narrow nodes)
narrow_nodes nodes r = all_narrow nodes (small_nodes nodes r)
