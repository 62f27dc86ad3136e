-- The row of a node after a reflect.
use Rattle.std.proofs.Common.{◌≡◌, ◌<◌, ◌≤◌, ◌+◌, ℕ, ℤ, List, [], ◌∷◌, map, length, refl, ap, subst, ◌∙◌, arith}
use Rattle.std.specs.List.{range_with_len}
use Rattle.xmp_map.specs.declared.array_map.ArrayMap.{ArrayMap}
use Rattle.xmp_map.specs.RowMajor.{product}
use Rattle.xmp_map.specs.Held as held
use Rattle.xmp_prog.specs.declared.parts.Home.{Home}
use Rattle.xmp_prog.specs.declared.parts.Home.TheVariants as home
use Rattle.xmp_meaning.specs.Layouts.{Packed, words_of}
use Rattle.xmp_move.specs.declared.kind.Side.{Side}
use Rattle.xmp_move.specs.Ways.{Pair, Ways, sends, fills}
use Rattle.xmp_move.specs.Sides.{owns_cell, holds_cell, position, slot_in}
use Rattle.xmp_move.specs.Stores.{packed, unpacked_of}
use Rattle.xmp_move.specs.Cells.{indices}
use Rattle.xmp_move.specs.Whole.{Shows, HasSlots, HasOwner, reflecting, selves}
use Rattle.xmp_move.specs.Laid.{MapFits}
use Rattle.xmp_move.specs.Kept.{IsOfCode, HasThree}
use Rattle.xmp_move.proofs.Writes.{length-write_all}
use Rattle.xmp_move.proofs.Members.{and_right}
use Rattle.xmp_move.proofs.Boxes.{range_in}
use Rattle.xmp_move.proofs.Arrays.{reflects}
use Rattle.xmp_move.proofs.SidesKept.{sides_are_kept, cells_are_owned}

-- the words of a side alone, with nothing before them
pub rows_kept : (h : Home) (es : List ℕ) (node : ℕ) (row : List ℤ) → IsOfCode h → MapFits h es → words_of (Packed node) h (product es) ≤ length row
    → HasSlots es (holds_cell h node) (position h es node) row
rows_kept h es node row code fits long =
    let side : Side = record { home = h; extents = es; base = 0; parts = [] } in
    let k : HasSlots es (holds_cell h node) (slot_in side node) row = sides_are_kept side node row code fits (let e = long in omega (arith, e)) in
    record {
      inside = λ cell i has. let lt = k.inside cell i has in omega (arith, lt);
      apart = λ cell other i j has have e. k.apart cell other i j has have (ap (λ n. 0 + n) e);
    }

pub unpacked_long : (conv : ℤ → ℤ) (ways : Ways) (pairs : List Pair) (sources : ℕ → List ℤ) (own : List ℤ) (node : ℕ) (peers : List ℕ)
    → length (unpacked_of conv ways pairs sources own node peers) ≡ length own
unfolding unpacked_of
unpacked_long conv ways pairs sources own node [] = refl
unpacked_long conv ways pairs sources own node (k ∷ ks) =
    length-write_all (unpacked_of conv ways pairs sources own node ks) (fills ways pairs node k) (map conv (packed (sources k) (sends ways pairs k node)))
    ∙ unpacked_long conv ways pairs sources own node ks

-- After a reflect a node shows the array in all cells that it holds, where each node showed those that it owns.
module _ (t : ℕ) (m : ArrayMap) (es : List ℕ) (three : HasThree m) (fits : MapFits (home.Spread t m) es) (count : ℕ) (nodes : held.node_count m ≡ count) where
  pub reflected_shows : (rows : ℕ → List ℤ) (array : List ℤ) (node : ℕ) → node < count
      → held.words m node ≤ length (rows node)
      → ((k : ℕ) → k < count → Shows es (owns_cell (home.Spread t m) k) (position (home.Spread t m) es k) (rows k) array)
      → Shows es (holds_cell (home.Spread t m) node) (position (home.Spread t m) es node)
      (unpacked_of (λ v. v) (reflecting (holds_cell (home.Spread t m)) (owns_cell (home.Spread t m)) (position (home.Spread t m) es)) (selves (indices es)) rows (rows node) node (range_with_len 0 count)) array
  reflected_shows rows array node below long shows =
      reflects (λ v. v) (holds_cell (home.Spread t m)) (owns_cell (home.Spread t m)) (position (home.Spread t m) es) es rows (rows node) node (range_with_len 0 count) array
      (rows_kept (home.Spread t m) es node (rows node) three fits long)
      (λ cell i. subst (λ n. HasOwner (owns_cell (home.Spread t m)) (range_with_len 0 n) cell) nodes (cells_are_owned t m es cell three fits i))
      (λ cell i. refl)
      (λ k j. shows k (let r = range_in 0 count k j in omega (arith, r)))
      (λ cell i h. shows node below cell i (and_right (holds_cell (home.Spread t m) node cell) (owns_cell (home.Spread t m) node cell) h))
