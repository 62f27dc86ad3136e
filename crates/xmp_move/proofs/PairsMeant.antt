-- The cells of a gmove in the meaning are those of its pairs.
use Rattle.std.proofs.Common.{◌≡◌, ◌⊎◌, inl, inr, ◌+◌, ◌*◌, ◌++◌, ℕ, ℤ, Bool, true, false, Option, Some, None, List, [], ◌∷◌, refl, sym, ◌∙◌, ap, arith, length, map, if◌then◌else◌}
use Rattle.std.specs.Prelude.{replicate, ◌&&◌}
use Rattle.std.specs.List.{flat_map, range_with_len}
use Rattle.std.specs.Ordering.{int_eq}
use Rattle.std.proofs.lemmas.List.{length-map}
use Rattle.xmp_num.specs.declared.types.TrapKind.TheVariants.{Section}
use Rattle.xmp_map.specs.RowMajor.{product, row_major}
use Rattle.xmp_meaning.specs.Runs.{Gave}
use Rattle.xmp_meaning.specs.Handlers.{Aim}
use Rattle.xmp_meaning.specs.Expressions.{natural}
use Rattle.xmp_meaning.specs.Sections.{Chosen, One, Many, cells_from, lengths, fit, spread}
use Rattle.xmp_move.specs.declared.kind.Fault.{Fault}
use Rattle.xmp_move.specs.Cells.{indices, counts, cell_at, pairs_between}
use Rattle.xmp_move.specs.Faults.{first_of, side_fault, lengths_fault}
use Rattle.xmp_move.specs.Meant.{extents_in, place_of, MovesAsMeant}
use Rattle.xmp_move.proofs.Members.{map_twice}
use Rattle.xmp_move.proofs.Checks.{all_picked, unless, meant}

map_alike : {A B : Type 0} (f g : A → B) (xs : List A) → ((x : A) → f x ≡ g x) → map f xs ≡ map g xs
map_alike f g [] h = refl
map_alike f g (x ∷ xs) h = ap (λ y. y ∷ map f xs) (h x) ∙ ap (λ r. g x ∷ r) (map_alike f g xs h)

map_both : {A B : Type 0} (f : A → B) (xs ys : List A) → map f (xs ++ ys) ≡ map f xs ++ map f ys
map_both f [] ys = refl
map_both f (x ∷ xs) ys = ap (λ r. f x ∷ r) (map_both f xs ys)

no_more : {A : Type 0} (xs : List A) → xs ++ [] ≡ xs
no_more [] = refl
no_more (x ∷ xs) = ap (λ r. x ∷ r) (no_more xs)

-- rows one after the other, place by place
row_by_row : (f : ℕ → List ℕ) (p : ℕ → ℕ) (h : List ℕ → ℕ) (rests : List (List ℕ)) (is : List ℕ)
    → ((i : ℕ) → f (p i) ≡ map h (map (λ rest. i ∷ rest) rests))
    → flat_map f (map p is) ≡ map h (flat_map (λ i. map (λ rest. i ∷ rest) rests) is)
row_by_row f p h rests [] e = refl
row_by_row f p h rests (i ∷ is) e =
    ap (λ r. r ++ flat_map f (map p is)) (e i)
    ∙ ap (λ r. map h (map (λ rest. i ∷ rest) rests) ++ r) (row_by_row f p h rests is e)
    ∙ sym (map_both h (map (λ rest. i ∷ rest) rests) (flat_map (λ i. map (λ rest. i ∷ rest) rests) is))

fold_one : (z n x p r : ℕ) → (z * n + x) * p + r ≡ z * (n * p) + (x * p + r)
fold_one z n x p r = grind arith

-- the number of a cell, behind those before
abbrev number : ℕ → List ℕ → List ℕ → ℕ
number z ns cell = z * product ns + row_major ns cell

pub numbers_are : (ns : List ℕ) (cs : List Chosen) (z : ℕ) → length cs ≡ length ns
    → cells_from z ns (all_picked ns cs) ≡ map (λ places. number z ns (cell_at cs places)) (indices (counts cs))
unfolding product row_major indices counts cell_at
numbers_are [] [] z l = ap (λ n. n ∷ []) (let e : z ≡ z * 1 + 0 = omega arith in e)
numbers_are [] (c ∷ cs) z l = absurd (omega (arith, l))
numbers_are (n ∷ ns) [] z l = absurd (omega (arith, l))
numbers_are (n ∷ ns) (One v ∷ cs) z l =
    no_more (cells_from (z * n + natural v) ns (all_picked ns cs))
    ∙ numbers_are ns cs (z * n + natural v) (let e : length cs ≡ length ns = omega (arith, l) in e)
    ∙ map_alike (λ places. number (z * n + natural v) ns (cell_at cs places)) (λ places. number z (n ∷ ns) (natural v ∷ cell_at cs places)) (indices (counts cs))
    (λ places. fold_one z n (natural v) (product ns) (row_major ns (cell_at cs places)))
numbers_are (n ∷ ns) (Many base count step ∷ cs) z l =
    row_by_row (λ x. cells_from (z * n + x) ns (all_picked ns cs)) (λ k. natural base + k * natural step)
    (λ places. number z (n ∷ ns) (cell_at (Many base count step ∷ cs) places)) (indices (counts cs)) (range_with_len 0 (natural count))
    (rows (λ x. numbers_are ns cs (z * n + x) (let e : length cs ≡ length ns = omega (arith, l) in e)))
  where
    rows : ((x : ℕ) → cells_from (z * n + x) ns (all_picked ns cs) ≡ map (λ places. number (z * n + x) ns (cell_at cs places)) (indices (counts cs)))
        → (i : ℕ) → cells_from (z * n + (natural base + i * natural step)) ns (all_picked ns cs)
        ≡ map (λ places. number z (n ∷ ns) (cell_at (Many base count step ∷ cs) places)) (map (λ rest. i ∷ rest) (indices (counts cs)))
    rows rest i =
        rest (natural base + i * natural step)
        ∙ map_alike (λ places. number (z * n + (natural base + i * natural step)) ns (cell_at cs places))
        (λ places. number z (n ∷ ns) ((natural base + i * natural step) ∷ cell_at cs places)) (indices (counts cs))
        (λ places. fold_one z n (natural base + i * natural step) (product ns) (row_major ns (cell_at cs places)))
        ∙ sym (map_twice (λ rest. i ∷ rest) (λ places. number z (n ∷ ns) (cell_at (Many base count step ∷ cs) places)) (indices (counts cs)))

-- ---- one item for each target

alike_all : {A : Type 0} (f : A → ℕ) (v : ℕ) (xs : List A) → ((x : A) → f x ≡ v) → replicate (length xs) v ≡ map f xs
alike_all f v [] h = refl
alike_all f v (x ∷ xs) h = ap (λ r. v ∷ r) (alike_all f v xs h) ∙ ap (λ y. y ∷ map f xs) (sym (h x))

pub counts_are : (cs : List Chosen) → counts cs ≡ map natural (lengths cs)
unfolding counts
counts_are [] = refl
counts_are (One v ∷ cs) = counts_are cs
counts_are (Many base length step ∷ cs) = ap (λ r. natural length ∷ r) (counts_are cs)

-- a side without a section has one cell at all places
pub one_cell : (cs : List Chosen) (places : List ℕ) → lengths cs ≡ [] → cell_at cs places ≡ cell_at cs []
unfolding cell_at
one_cell [] places e = refl
one_cell (One v ∷ cs) places e = ap (λ r. natural v ∷ r) (one_cell cs places e)
one_cell (Many base length step ∷ cs) places e = cc

int_same : (a b : ℤ) → int_eq a b ≡ true → a ≡ b
int_same a b e = grind arith

pub fit_same : (ms ns : List ℤ) → length ns ≡ length ms → fit ms ns ≡ true → ns ≡ ms
fit_same [] [] l h = refl
fit_same [] (n ∷ ns) l h = absurd (omega (arith, l))
fit_same (m ∷ ms) [] l h = absurd (omega (arith, l))
fit_same (m ∷ ms) (n ∷ ns) l h = halves (int_eq m n) refl h (fit_same ms ns (let e : length ns ≡ length ms = omega (arith, l) in e))
  where
    halves : (b : Bool) → int_eq m n ≡ b → (b && fit ms ns) ≡ true → (fit ms ns ≡ true → ns ≡ ms) → n ∷ ns ≡ m ∷ ms
    halves true e h rest = ap (λ x. x ∷ ns) (sym (int_same m n e)) ∙ ap (λ r. m ∷ r) (rest h)
    halves false e h rest = cc

spread_are : (se : List ℕ) (to from : List Chosen) (ts : List ℕ) → length ts ≡ length (indices (counts to)) → fit (lengths to) (lengths from) ≡ true
    → (lengths from ≡ []) ⊎ (length (lengths from) ≡ length (lengths to))
    → spread (lengths from) (length ts) (map (λ places. row_major se (cell_at from places)) (indices (counts from)))
    ≡ map (λ places. row_major se (cell_at from places)) (indices (counts to))
unfolding indices
spread_are se to from ts l f sections = at_lengths (lengths from) refl
  where
    value : List ℕ → ℕ
    value places = row_major se (cell_at from places)

    none : lengths from ≡ [] → spread [] (length ts) (map value (indices (counts from))) ≡ map value (indices (counts to))
    none e =
        ap (λ cs. spread [] (length ts) (map value (indices cs))) (counts_are from ∙ ap (map natural) e)
        ∙ ap (λ n. replicate n (value [])) l
        ∙ alike_all value (value []) (indices (counts to)) (λ places. ap (row_major se) (one_cell from places e))

    same : lengths from ≡ lengths to → map value (indices (counts from)) ≡ map value (indices (counts to))
    same e = ap (λ cs. map value (indices cs)) (counts_are from ∙ ap (map natural) e ∙ sym (counts_are to))

    some : (n : ℤ) (ns : List ℤ) → lengths from ≡ n ∷ ns → lengths from ≡ lengths to
    some n ns e = elim sections [ inl empty ↦ absurd (let c : n ∷ ns ≡ [] = sym e ∙ empty in cc) | inr equal ↦ fit_same (lengths to) (lengths from) equal f ]

    at_lengths : (ls : List ℤ) → lengths from ≡ ls → spread ls (length ts) (map value (indices (counts from))) ≡ map value (indices (counts to))
    at_lengths [] e = none e
    at_lengths (n ∷ ns) e = same (some n ns e)

-- ---- what is moved

-- where there is no fault, the lengths fit
no_fault : (g h : Option Fault) → first_of g h ≡ None → h ≡ None
no_fault None h e = e
no_fault (Some f) h e = cc

abbrev different : Fault
different = record { kind = Section; source = false }

pub lengths_good : (to from : List Chosen) → lengths_fault to from ≡ None → fit (lengths to) (lengths from) ≡ true
lengths_good to from e = at_test (fit (lengths to) (lengths from)) e
  where
    at_test : (b : Bool) → (if b then None else Some different) ≡ None → b ≡ true
    at_test true e = refl
    at_test false e = cc

from_zero : (ns : List ℕ) (cs : List Chosen) → length cs ≡ length ns
    → cells_from 0 ns (all_picked ns cs) ≡ map (λ places. row_major ns (cell_at cs places)) (indices (counts cs))
from_zero ns cs l =
    numbers_are ns cs 0 l
    ∙ map_alike (λ places. number 0 ns (cell_at cs places)) (λ places. row_major ns (cell_at cs places)) (indices (counts cs))
    (λ places. none_before (product ns) (row_major ns (cell_at cs places)))
  where
    none_before : (p r : ℕ) → 0 * p + r ≡ r
    none_before p r = omega arith

pub moves_as_meant : {X : Type 0} → MovesAsMeant X
moves_as_meant h cx target source to from s t u a b e lt lf sections =
    meant h cx target source to from s t u a b
    ∙ ap (λ g. unless g (place_of target source) (record { targets = ts; sources = spread (lengths from) (length ts) ss }) u) e
    ∙ ap (λ r. Gave r u) (aims ts ss (map (λ p. row_major te p.0) (pairs_between to from)) (map (λ p. row_major se p.1) (pairs_between to from)) is_targets is_sources)
  where
    te : List ℕ
    te = extents_in cx.program target

    se : List ℕ
    se = extents_in cx.program source

    ts : List ℕ
    ts = cells_from 0 te (all_picked te to)

    ss : List ℕ
    ss = cells_from 0 se (all_picked se from)

    good : fit (lengths to) (lengths from) ≡ true
    good = lengths_good to from (no_fault (side_fault true se from) (lengths_fault to from)
        (no_fault (side_fault false te to) (first_of (side_fault true se from) (lengths_fault to from)) e))

    cells_to : ts ≡ map (λ places. row_major te (cell_at to places)) (indices (counts to))
    cells_to = from_zero te to lt

    is_targets : ts ≡ map (λ p. row_major te p.0) (pairs_between to from)
    is_targets = cells_to ∙ sym (map_twice (λ places. (cell_at to places, cell_at from places)) (λ p. row_major te p.0) (indices (counts to)))

    is_sources : spread (lengths from) (length ts) ss ≡ map (λ p. row_major se p.1) (pairs_between to from)
    is_sources =
        ap (λ xs. spread (lengths from) (length ts) xs) (from_zero se from lf)
        ∙ spread_are se to from ts (ap length cells_to ∙ length-map (indices (counts to)) (λ places. row_major te (cell_at to places))) good sections
        ∙ sym (map_twice (λ places. (cell_at to places, cell_at from places)) (λ p. row_major se p.1) (indices (counts to)))

    aim_with : List ℕ → List ℕ → Aim
    aim_with xs ys = record { targets = xs; sources = ys }

    aims : (xs ys vs ws : List ℕ) → xs ≡ vs → spread (lengths from) (length xs) ys ≡ ws → aim_with xs (spread (lengths from) (length xs) ys) ≡ aim_with vs ws
    aims xs ys vs ws e f = ap (λ r. aim_with r (spread (lengths from) (length xs) ys)) e ∙ ap (λ r. aim_with vs r) f
