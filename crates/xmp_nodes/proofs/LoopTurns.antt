-- A turn of a loop directive: between turns each node agrees with the serial run but for what iterations write, and a turn at
-- its owner keeps that.
use Rattle.std.proofs.Common.{◌≡◌, ◌≢◌, ◌<◌, ◌++◌, ◌==◌, if◌then◌else◌, ℕ, ℤ, pos, Bool, true, false, List, [], ◌∷◌, length, map, Some, refl, sym, subst, ap, ◌∙◌, eq-eqb, ne_eqb}
use Rattle.std.specs.Prelude.{unwrap_or, is_some}
use Rattle.std.specs.List.{AllByRecursion}
use Rattle.xmp_map.specs.declared.array_map.ArrayMap.{ArrayMap}
use Rattle.xmp_map.specs.RowMajor.{row_major}
use Rattle.xmp_map.specs.Boxes.{IsInside}
use Rattle.xmp_num.specs.declared.types.RedOp.{RedOp}
use Rattle.xmp_num.specs.declared.types.Ty.{Ty}
use Rattle.xmp_num.specs.declared.types.Ty.TheVariants.{Int}
use Rattle.xmp_num.specs.Arithmetic.{FitsType}
use Rattle.xmp_num.specs.Reduction.{combine_of, unit_of, IsCommutativeMonoid}
use Rattle.xmp_num.proofs.ReductionLaws as reductions
use Rattle.xmp_prog.specs.declared.parts.ProgParts.{ProgParts}
use Rattle.xmp_prog.specs.declared.parts.Home.TheVariants as home
use Rattle.xmp_prog.specs.declared.statements.LoopDirective.{LoopDirective}
use Rattle.xmp_prog.specs.declared.statements.Stmt.{Stmt}
use Rattle.xmp_prog.specs.Numbers.{is_in}
use Rattle.xmp_prog.specs.Fits.{node_count}
use Rattle.xmp_meaning.specs.Cells.{row_in}
use Rattle.xmp_meaning.specs.Runs.{State}
use Rattle.xmp_meaning.specs.Declarations.{scalar_type, home_of, extents}
use Rattle.xmp_meaning.specs.Exchanges.{Exchange, Notes}
use Rattle.xmp_meaning.specs.Traffic.{copied}
use Rattle.xmp_meaning.specs.TrafficLaws.{IsNodeState}
use Rattle.xmp_meaning_laws.specs.Laws.{scalar_in}
use Rattle.xmp_meaning_laws.specs.Tuples.{at_tuple, value_in}
use Rattle.xmp_meaning_laws.proofs.Values.{zero_fits}
use Rattle.xmp_meaning_laws.proofs.Nests.{Exists}
use Rattle.xmp_meaning_laws.proofs.Settings.{Apart, where_other}
use Rattle.xmp_move.specs.Sides.{owns_cell, holds_cell, position}
use Rattle.xmp_move.specs.Stores.{word_at}
use Rattle.xmp_move.specs.Whole.{Shows}
use Rattle.xmp_loops.specs.Objects.{scalar_object, array_object}
use Rattle.xmp_loops.specs.Roles.{role_in, writes_array}
use Rattle.xmp_loops.specs.declared.role.Role.{Role}
use Rattle.xmp_loops.specs.declared.role.Role.TheVariants.{Shared, Index, Reduced, Own}
use Rattle.xmp_nodes.proofs.Agrees.{IsWhole, base_at}
use Rattle.xmp_nodes.proofs.Each.{there}
use Rattle.xmp_nodes.proofs.Totals.{total_of, total_in, total_more}
use Rattle.xmp_nodes.proofs.LoopOwn.{value_at, added_by, owned_count}
use Rattle.xmp_nodes.proofs.LoopFacts.{none_equal}

-- ---- states at a tuple

module _ {X : Type 0} (slots : List ℕ) (vs : List ℤ) (s : State X) where
  pub index_there : Apart slots → length vs ≡ length slots → Exists s slots → (slot : ℕ) → is_in slots slot ≡ true
      → scalar_in (at_tuple slots vs s) slot ≡ value_in slots vs slot
  index_there f l there slot i = value_at slots vs s.scalars slot f l there i

  pub other_there : (slot : ℕ) → is_in slots slot ≡ false → scalar_in (at_tuple slots vs s) slot ≡ scalar_in s slot
  other_there slot i = ap (λ o. unwrap_or o (pos 0)) (where_other slots (map Some vs) s.scalars slot (none_equal slot slots i))

pub value_fits : (slots : List ℕ) (vs : List ℤ) (slot : ℕ) → AllByRecursion (FitsType Int) vs → FitsType Int (value_in slots vs slot)
value_fits [] vs slot h = zero_fits Int
value_fits (i ∷ slots) [] slot h = zero_fits Int
value_fits (i ∷ slots) (v ∷ vs) slot h = at_test (i == slot) (value_fits slots vs slot h.1)
  where
    at_test : (b : Bool) → FitsType Int (value_in slots vs slot) → FitsType Int (if b then v else value_in slots vs slot)
    at_test true rest = h.0
    at_test false rest = rest

pub exist_below : {X : Type 0} (s : State X) (slots : List ℕ) (n : ℕ) → length s.scalars ≡ n → AllByRecursion (λ i. i < n) slots → Exists s slots
exist_below s [] n l h = tt
exist_below s (i ∷ slots) n l h =
    let t = there s.scalars i (subst (λ m. i < m) (sym l) h.0) in (ap is_some t.1, exist_below s slots n l h.1)

-- ---- between turns

module _ (p : ProgParts) (d : LoopDirective) (body : Stmt) where
  -- A node between turns: it agrees but for what iterations write.
  pub record Between (node : ℕ) (stale : ℕ → Bool) (s : State Notes) (n : State (Unit {0})) : Type 0 where
    pub packed : IsNodeState p node n
    pub typed : (slot : ℕ) → FitsType (scalar_type p slot) (scalar_in n slot)
    pub shared : (slot : ℕ) → role_in d body slot ≡ Shared → stale (scalar_object slot) ≡ false → scalar_in n slot ≡ scalar_in s slot
    pub copies : (array : ℕ) → home_of p array ≡ home.Copy → stale (array_object array) ≡ false → row_in n.arrays array ≡ row_in s.arrays array
    pub owned : (array t : ℕ) (m : ArrayMap) → home_of p array ≡ home.Spread t m
        → Shows (extents p array) (owns_cell (home.Spread t m) node) (position (home.Spread t m) (extents p array) node) (row_in n.arrays array) (row_in s.arrays array)
    pub shadows : (array t : ℕ) (m : ArrayMap) (cell : List ℕ) → home_of p array ≡ home.Spread t m → IsInside cell (extents p array)
        → holds_cell (home.Spread t m) node cell ≡ true → owns_cell (home.Spread t m) node cell ≡ false
        → word_at (row_in n.arrays array) (position (home.Spread t m) (extents p array) node cell) ≡ copied s.extra.exchanges array (row_major (extents p array) cell)
    pub current : (array t : ℕ) (m : ArrayMap) → home_of p array ≡ home.Spread t m → stale (array_object array) ≡ false → writes_array body array ≡ false
        → (number : ℕ) → copied s.extra.exchanges array number ≡ word_at (row_in s.arrays array) number
    pub steps : n.steps ≡ s.steps
    pub out : (before : List ℕ) → base_at node ≡ Some before → s.out ≡ before ++ n.out
    pub taken : node ≡ 0 → n.taken ≡ s.taken

  -- what all nodes have of a reduction variable, combined
  abbrev pub sum_of : (op : RedOp) → (slot : ℕ) → (ℕ → State (Unit {0})) → ℤ
  sum_of op slot m = total_of (combine_of op (scalar_type p slot)) (unit_of op (scalar_type p slot)) (λ k. scalar_in (m k) slot) (node_count p)

  -- All nodes between turns, with the tuples that are left: the values of each reduction variable, combined, are the serial
  -- one, and with the turns that are left each node has the count that it has at the end.
  pub record Beside (stale : (k : ℕ) → k < node_count p → ℕ → Bool) (xs : List Exchange) (counts : List ℕ) (left : List (List ℤ))
      (s : State Notes) (m : ℕ → State (Unit {0})) : Type 0 where
    pub whole : IsWhole p s
    pub each : (k : ℕ) (below : k < node_count p) → Between k (stale k below) s (m k)
    pub sums : (slot : ℕ) (op : RedOp) → role_in d body slot ≡ Reduced op → sum_of op slot m ≡ scalar_in s slot
    pub noted : s.extra.exchanges ≡ xs
    pub turns : added_by (owned_count p d left) 0 s.extra.turns ≡ counts
    pub ints : AllByRecursion (AllByRecursion (FitsType Int)) left

  -- ---- sums

  -- what the other nodes have
  abbrev pub other_values : ℤ → (node slot : ℕ) → (ℕ → State (Unit {0})) → ℕ → ℤ
  other_values unit node slot m k = if k == node then unit else scalar_in (m k) slot

  abbrev pub others_by : Role → (node slot : ℕ) → (ℕ → State (Unit {0})) → ℤ
  others_by (Reduced op) node slot m =
      total_of (combine_of op (scalar_type p slot)) (unit_of op (scalar_type p slot)) (other_values (unit_of op (scalar_type p slot)) node slot m) (node_count p)
  others_by Shared node slot m = pos 0
  others_by Index node slot m = pos 0
  others_by Own node slot m = pos 0

  abbrev pub others : (node : ℕ) → (ℕ → State (Unit {0})) → ℕ → ℤ
  others node m slot = others_by (role_in d body slot) node slot m

  module _ (op : RedOp) (slot node : ℕ) (below : node < node_count p) (m : ℕ → State (Unit {0}))
      (typed : (k : ℕ) → k < node_count p → FitsType (scalar_type p slot) (scalar_in (m k) slot)) where
    abbrev ty : Ty
    ty = scalar_type p slot

    laws : IsCommutativeMonoid (FitsType ty) (combine_of op ty) (unit_of op ty)
    laws = reductions.holds op ty

    others_in : (k : ℕ) → k < node_count p → FitsType ty (other_values (unit_of op ty) node slot m k)
    others_in k b = at_test (k == node)
      where
        at_test : (c : Bool) → FitsType ty (if c then unit_of op ty else scalar_in (m k) slot)
        at_test true = laws.unit_in
        at_test false = typed k b

    -- with another value at the node
    pub sum_with : (w : ℕ → State (Unit {0})) → FitsType ty (scalar_in (w node) slot) → ((k : ℕ) → k ≢ node → w k ≡ m k)
        → sum_of op slot w ≡ combine_of op ty (others_by (Reduced op) node slot m) (scalar_in (w node) slot)
    sum_with w f h =
        total_more (FitsType ty) (combine_of op ty) (unit_of op ty) laws (other_values (unit_of op ty) node slot m) (λ k. scalar_in (w k) slot) (node_count p) node (scalar_in (w node) slot)
        others_in f below
        (sym (ap (λ c. combine_of op ty (if c then unit_of op ty else scalar_in (m node) slot) (scalar_in (w node) slot)) (eq-eqb node node refl) ∙ laws.neutral (scalar_in (w node) slot) f))
        (λ k b ne. ap (λ n. scalar_in n slot) (h k ne) ∙ sym (ap (λ c. if c then unit_of op ty else scalar_in (m k) slot) (ne_eqb k node ne)))

    pub others_fit : FitsType ty (others_by (Reduced op) node slot m)
    others_fit = total_in (FitsType ty) (combine_of op ty) (unit_of op ty) laws (other_values (unit_of op ty) node slot m) (node_count p) others_in
