-- The blocks of the nodes: together they are the cells, and what they add up to is the whole sum.
use Rattle.std.proofs.Common.{◌≡◌, ℕ, zero, suc, ◌+◌, ◌-◌, ◌*◌, ◌<◌, ◌≤◌, ℤ, pos, ◌+ℤ◌, List, [], ◌∷◌, ◌++◌, Bool, true, false, refl, sym, ap, ◌∙◌, arith, inl, inr, Option, min, ◌&&◌, ◌==◌}
use Rattle.std.specs.Prelude.{slice_get, unwrap_or, nat_lt, nat_le, if◌then◌else◌}
use Rattle.std.specs.Int.{w32, int_wrap, div_ceil}
use Rattle.std.proofs.lemmas.Bool.{cases_lt, lt-ltb, le-ltb}
use Rattle.std.proofs.lemmas.Bool.Decides.{nat_tests}
use Rattle.std.proofs.lemmas.Int.{ints, int_wrap-add_left, int_wrap-add_right, int_wrap_fits, SFits-int_wrap}
use Rattle.std.proofs.lemmas.Option.{slice_get_past}
use Rattle.xmp_num.specs.declared.types.Ty.TheVariants.{Int}
use Rattle.xmp_num.specs.Arithmetic.{wrap}
use Rattle.xmp_dist.specs.declared.dimension.Dim.{Dim}
use Rattle.xmp_dist.specs.declared.form.Dist.{Dist}
use Rattle.xmp_dist.specs.declared.form.Dist.TheVariants.{Block}
use Rattle.xmp_dist.specs.Table.{owner_by, chunk_start, chunk_end}
use Rattle.xmp_dist.specs.Count.{count_below}
use Rattle.xmp_dist.specs.Owner.{owner_inside, count}
use Rattle.xmp_dist.proofs.Spans.{block_test, div_ceil_covers, div_ceil_pos}
use Rattle.xmp_first.specs.FirstGrammar.{Sum}
use Rattle.xmp_first.specs.FirstMeaning.{cell_value, total}
use Rattle.xmp_first.specs.Nodes.{tabulate, word_of, turns_of}
use Rattle.xmp_first.specs.Blocks.{IsBlocks, cells_from, block_of, summed}
use Rattle.xmp_first.proofs.Tables.{length-tabulate, slice_get-tabulate, tabulate-more}

-- what a dimension says of blocks is what the number of cells and of nodes say
pub start_is : (d : Dim) (size nodes c : ℕ) → IsBlocks d size nodes → chunk_start d.dist d.size d.nodes c ≡ chunk_start Block size nodes c
start_is d size nodes c h =
    ap (λ (t : Dist). chunk_start t d.size d.nodes c) h.dist_is ∙ ap (λ (s : ℕ). chunk_start Block s d.nodes c) h.size_is ∙ ap (λ (n : ℕ). chunk_start Block size n c) h.nodes_is

pub end_is : (d : Dim) (size nodes c : ℕ) → IsBlocks d size nodes → chunk_end d.dist d.size d.nodes c ≡ chunk_end Block size nodes c
end_is d size nodes c h =
    ap (λ (t : Dist). chunk_end t d.size d.nodes c) h.dist_is ∙ ap (λ (s : ℕ). chunk_end Block s d.nodes c) h.size_is ∙ ap (λ (n : ℕ). chunk_end Block size n c) h.nodes_is

pub turns_are : (d : Dim) (size nodes c : ℕ) → IsBlocks d size nodes → 2 * count d c ≡ turns_of size nodes c
unfolding owner_inside
turns_are d size nodes c h =
    ap (λ (t : Dist). 2 * count_below (λ x. owner_by t d.size d.nodes x == c) d.size) h.dist_is
    ∙ ap (λ (s : ℕ). 2 * count_below (λ x. owner_by Block s d.nodes x == c) s) h.size_is
    ∙ ap (λ (n : ℕ). 2 * count_below (λ x. owner_by Block size n x == c) size) h.nodes_is

-- a word of a store is the cell's value in the node's block, and 0 outside of it
chosen : (a b : Bool) (x y : ℤ) → (if (a && b) then x else y) ≡ (if a then (if b then x else y) else y)
chosen true b x y = refl
chosen false b x y = refl

pub word_in_block : (size nodes : ℕ) (e : Sum) (node cell start : ℕ) → start ≡ chunk_start Block size nodes node → 1 ≤ size → 1 ≤ nodes → cell < size
    → (if nat_le start cell then unwrap_or (slice_get (block_of size nodes e node) (cell - start)) (pos 0) else pos 0) ≡ word_of size nodes e node cell
word_in_block size nodes e node cell start s hs hn hc =
    ap (λ (k : ℕ). if nat_le k cell then unwrap_or (slice_get (block_of size nodes e node) (cell - k)) (pos 0) else pos 0) s
    ∙ inside (chunk_start Block size nodes node) (chunk_end Block size nodes node)
    ∙ sym (chosen (nat_le (chunk_start Block size nodes node) cell) (nat_lt cell (chunk_end Block size nodes node)) (cell_value e cell) (pos 0))
    ∙ sym (ap (λ (b : Bool). if b then cell_value e cell else pos 0) (block_test (div_ceil size nodes) node size cell (div_ceil_pos size nodes (omega arith) (omega arith)) hc)) where
      inside : (from to : ℕ) → (if nat_le from cell then unwrap_or (slice_get (cells_from e from (to - from)) (cell - from)) (pos 0) else pos 0)
          ≡ (if nat_le from cell then (if nat_lt cell to then cell_value e cell else pos 0) else pos 0)
      inside from to = elim (cases_lt cell from) [
        | inl lt ↦ let f : nat_le from cell ≡ false = grind (arith, nat_tests) in rw f refl
        | inr ge ↦ ap (λ (z : ℤ). if nat_le from cell then z else pos 0) (elim (cases_lt cell to) [
          | inl lt ↦
              let t : nat_lt cell to ≡ true = lt-ltb cell to lt in
              let g = slice_get-tabulate (λ (k : ℕ). cell_value e (from + k)) (to - from) (cell - from) (omega arith) in
              let p : from + (cell - from) ≡ cell = omega arith in
              ap (λ (o : Option ℤ). unwrap_or o (pos 0)) g ∙ ap (λ (k : ℕ). cell_value e k) p ∙ sym (ap (λ (b : Bool). if b then cell_value e cell else pos 0) t)
          | inr past ↦
              let t : nat_lt cell to ≡ false = le-ltb cell to past in
              let l = length-tabulate (λ (k : ℕ). cell_value e (from + k)) (to - from) in
              let g = slice_get_past (cells_from e from (to - from)) (cell - from) (omega arith) in
              ap (λ (o : Option ℤ). unwrap_or o (pos 0)) g ∙ sym (ap (λ (b : Bool). if b then cell_value e cell else pos 0) t)
        ])
      ]

pub summed-last : (s : ℤ) (xs : List ℤ) (y : ℤ) → summed s (xs ++ y ∷ []) ≡ wrap Int (summed s xs +ℤ y)
summed-last s [] y = refl
summed-last s (x ∷ xs) y = summed-last (wrap Int (s +ℤ x)) xs y

-- the sum at a cell is a value of `int`
total_fits : (e : Sum) (n : ℕ) → wrap Int (total e n) ≡ total e n
unfolding int_wrap
total_fits e zero = refl
total_fits e (suc n) = int_wrap_fits w32 (wrap Int (total e n +ℤ cell_value e n)) (SFits-int_wrap w32 (total e n +ℤ cell_value e n))

-- a block's part of the sum, added to the sum before it, is the sum behind it
pub total_on : (e : Sum) (start n : ℕ) → wrap Int (total e start +ℤ summed (pos 0) (cells_from e start n)) ≡ total e (start + n)
total_on e start zero =
    let z : total e start +ℤ pos 0 ≡ total e start = omega (arith, ints) in
    let p : start + 0 ≡ start = omega arith in
    ap (wrap Int) z ∙ total_fits e start ∙ sym (ap (λ (k : ℕ). total e k) p)
total_on e start (suc n) =
    let part : ℤ = summed (pos 0) (cells_from e start n) in
    let v : ℤ = cell_value e (start + n) in
    let p : start + suc n ≡ suc (start + n) = omega arith in
    let assoc : (total e start +ℤ part) +ℤ v ≡ total e start +ℤ (part +ℤ v) = omega (arith, ints) in
    ap (λ (z : ℤ). wrap Int (total e start +ℤ z)) (summed-last (pos 0) (cells_from e start n) v)
    ∙ int_wrap-add_right w32 (total e start) (part +ℤ v)
    ∙ sym (ap (wrap Int) assoc)
    ∙ sym (int_wrap-add_left w32 (total e start +ℤ part) v)
    ∙ ap (λ (z : ℤ). wrap Int (z +ℤ v)) (total_on e start n)
    ∙ sym (ap (λ (k : ℕ). total e k) p)

-- a node's block ends where the next one's begins
pub next_start : (size nodes c : ℕ) → chunk_end Block size nodes c ≡ chunk_start Block size nodes (c + 1)
next_start size nodes c =
    let e : (c + 1) * div_ceil size nodes ≡ c * div_ceil size nodes + div_ceil size nodes = omega arith in
    ap (λ (k : ℕ). min size k) (sym e)

pub start_le : (size nodes c : ℕ) → chunk_start Block size nodes c ≤ chunk_end Block size nodes c
start_le size nodes c = omega arith

-- and the last one's at the size
pub all_blocks : (size nodes : ℕ) → 1 ≤ nodes → chunk_start Block size nodes nodes ≡ size
all_blocks size nodes h = let k = div_ceil_covers size nodes (omega arith) in omega arith

pub part_added : (size nodes : ℕ) (e : Sum) (node : ℕ)
    → wrap Int (total e (chunk_start Block size nodes node) +ℤ summed (pos 0) (block_of size nodes e node)) ≡ total e (chunk_start Block size nodes (node + 1))
part_added size nodes e node =
    let s : ℕ = chunk_start Block size nodes node in
    let t : ℕ = chunk_end Block size nodes node in
    let le : s ≤ t = start_le size nodes node in
    let p : s + (t - s) ≡ t = omega arith in
    total_on e s (t - s) ∙ ap (λ (k : ℕ). total e k) (p ∙ next_start size nodes node)

pub block_is : (d : Dim) (size nodes : ℕ) (e : Sum) (node start end : ℕ) → IsBlocks d size nodes → start ≡ chunk_start d.dist d.size d.nodes node → end ≡ chunk_end d.dist d.size d.nodes node
    → cells_from e start (end - start) ≡ block_of size nodes e node
block_is d size nodes e node start end h s t =
    ap (λ (k : ℕ). cells_from e k (end - k)) (s ∙ start_is d size nodes node h)
    ∙ ap (λ (k : ℕ). cells_from e (chunk_start Block size nodes node) (k - chunk_start Block size nodes node)) (t ∙ end_is d size nodes node h)

-- a store with one more word
pub word_added : (size nodes : ℕ) (e : Sum) (node cell : ℕ) (store : List ℤ) (word : ℤ)
    → store ≡ pos size ∷ total e size ∷ tabulate (word_of size nodes e node) cell → word ≡ word_of size nodes e node cell
    → store ++ word ∷ [] ≡ pos size ∷ total e size ∷ tabulate (word_of size nodes e node) (cell + 1)
word_added size nodes e node cell store word h k =
    ap (λ (xs : List ℤ). xs ++ word ∷ []) h
    ∙ ap (λ (z : ℤ). pos size ∷ total e size ∷ (tabulate (word_of size nodes e node) cell ++ z ∷ [])) k
    ∙ ap (λ (xs : List ℤ). pos size ∷ total e size ∷ xs) (sym (tabulate-more (word_of size nodes e node) cell))
