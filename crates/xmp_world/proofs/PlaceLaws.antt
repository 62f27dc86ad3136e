-- The slot of a cell is the number of cells before it that the node holds.
use Rattle.std.proofs.Common.{◌≡◌, ◌<◌, ◌≤◌, ◌+◌, ℕ, suc, Bool, true, List, length, refl, sym, ap, subst, ◌∙◌, arith}
use Rattle.std.specs.Prelude.{IsTrue}
use Rattle.std.proofs.lemmas.Bool.Decides.{nat_tests}
use Rattle.std.proofs.lemmas.List.{length-map}
use Rattle.xmp_dist.specs.Count.{count_below}
use Rattle.xmp_dist.proofs.Counting.{count_below-yes, count_below-le}
use Rattle.xmp_map.specs.declared.array_map.ArrayMap.{ArrayMap}
use Rattle.xmp_map.specs.RowMajor.{product, unravel}
use Rattle.xmp_map.specs.Held.{extents, holds, held_counts, local_positions, slot}
use Rattle.xmp_map.proofs.Order.{unravel_below, below_inside, row_major-unravel}
use Rattle.xmp_map.proofs.MapLaws.{slot_fits}
use Rattle.xmp_world.specs.Gathering.{holds_number, kept_before}
use Rattle.xmp_world.proofs.Numbered.{numbered_before}

pub to_true : (b : Bool) → IsTrue b → b ≡ true
to_true b h = grind (arith, nat_tests)

-- a map has three dimensions, as the list of its extents has
pub has_three : (m : ArrayMap) (sizes : List ℕ) → sizes ≡ extents m → length sizes ≡ 3 → length m.aligned ≡ 3
has_three m sizes e l = sym (length-map m.aligned (λ l. l.extent)) ∙ (sym (ap length e) ∙ l)

-- the cell that was asked for, and the node
pub holds_there : (m : ArrayMap) (node other : ℕ) (cell asked : List ℕ) → node ≡ other → asked ≡ cell → IsTrue (holds m node asked) → IsTrue (holds m other cell)
holds_there m node other cell asked a b h = subst (λ k. IsTrue (holds m k cell)) a (subst (λ xs. IsTrue (holds m node xs)) b h)

pub kept_most : (m : ArrayMap) (node n : ℕ) → kept_before m node n ≤ n
kept_most m node n = count_below-le (holds_number m node) n

module _ (m : ArrayMap) (three : length m.aligned ≡ 3) (node n : ℕ) where
  slot_at : n < product (extents m) → holds m node (unravel (extents m) n) ≡ true → slot m node (unravel (extents m) n) ≡ kept_before m node n
  slot_at below h =
      let cell : List ℕ = unravel (extents m) n in
      let inside = unravel_below (extents m) n below in
      (slot_fits m node cell (local_positions m node cell) (held_counts m node) three (below_inside cell (extents m) inside) h refl refl).rank
      ∙ (numbered_before (extents m) cell (holds m node) inside ∙ ap (count_below (holds_number m node)) (row_major-unravel (extents m) n below))

  pub slot_is : (sizes : List ℕ) → sizes ≡ extents m → n < product sizes → IsTrue (holds m node (unravel sizes n))
      → slot m node (unravel sizes n) ≡ kept_before m node n
  slot_is sizes e = subst (λ s. n < product s → IsTrue (holds m node (unravel s n)) → slot m node (unravel s n) ≡ kept_before m node n) (sym e)
      (λ below h. slot_at below (to_true _ h))

  pub kept_more : (sizes : List ℕ) → sizes ≡ extents m → IsTrue (holds m node (unravel sizes n)) → kept_before m node (n + 1) ≡ kept_before m node n + 1
  kept_more sizes e = subst (λ s. IsTrue (holds m node (unravel s n)) → kept_before m node (n + 1) ≡ kept_before m node n + 1) (sym e)
      (λ h. let next : n + 1 ≡ suc n = omega arith in
      ap (kept_before m node) next ∙ count_below-yes (holds_number m node) n (to_true _ h))
