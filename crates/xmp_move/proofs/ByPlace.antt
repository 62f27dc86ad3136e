-- Tests and sums of cells, as tests and sums of places in the sections.
use Rattle.std.proofs.Common.{◌≡◌, ℕ, zero, suc, ◌+◌, ◌*◌, ◌<◌, ◌≤◌, Bool, true, false, List, [], ◌∷◌, ◌++◌, refl, sym, ◌∙◌, ap, arith, length, map, cond}
use Rattle.std.specs.Prelude.{filter, ◌&&◌}
use Rattle.xmp_move.specs.declared.pick.Pick.{Pick}
use Rattle.xmp_move.specs.declared.pick.Pick.TheVariants.{Single, Section}
use Rattle.xmp_map.specs.Boxes.{all_pass}
use Rattle.xmp_move.specs.Cells.{indices}
use Rattle.xmp_move.specs.Sums.{total, sums, shares}
use Rattle.xmp_move.specs.Picks.{counts, cell_at, by_place, singles_pass, singles_total, picked_pairs}
use Rattle.xmp_move.specs.Sums.{both, filled_up}
use Rattle.xmp_move.proofs.Gathered.{gathered}

and_assoc : (a b c : Bool) → ((a && b) && c) ≡ (a && (b && c))
and_assoc true b c = refl
and_assoc false b c = refl

and_swap : (a b c : Bool) → (a && (b && c)) ≡ (b && (a && c))
and_swap true true c = refl
and_swap true false c = refl
and_swap false true c = refl
and_swap false false c = refl

-- a test of a cell, as one of its single subscripts and one of its place
pub pass_at : (ps : List Pick) (ts : List (ℕ → Bool)) (places : List ℕ) → length ts ≡ length ps → length (counts ps) ≤ length places →
    all_pass ts (cell_at ps places) ≡ (singles_pass ps ts && all_pass (by_place ps ts) places)
unfolding all_pass cell_at singles_pass by_place counts
pass_at [] [] places l m = refl
pass_at [] (t ∷ ts) places l m = absurd (omega arith)
pass_at (Single x ∷ ps) [] places l m = absurd (omega arith)
pass_at (Section b n s ∷ ps) [] places l m = absurd (omega arith)
pass_at (Single x ∷ ps) (t ∷ ts) places l m =
    ap (λ r. t x && r) (pass_at ps ts places (omega arith) m) ∙ sym (and_assoc (t x) (singles_pass ps ts) (all_pass (by_place ps ts) places))
pass_at (Section b n s ∷ ps) (t ∷ ts) [] l m = absurd (omega arith)
pass_at (Section b n s ∷ ps) (t ∷ ts) (i ∷ places) l m =
    ap (λ r. t (b + i * s) && r) (pass_at ps ts places (omega arith) (omega arith))
    ∙ and_swap (t (b + i * s)) (singles_pass ps ts) (all_pass (by_place ps ts) places)

pub total_at : (ps : List Pick) (fs : List (ℕ → ℕ)) (places : List ℕ) → length fs ≡ length ps → length (counts ps) ≤ length places →
    total fs (cell_at ps places) ≡ singles_total ps fs + total (by_place ps fs) places
unfolding total cell_at singles_total by_place counts
total_at [] [] places l m = refl
total_at [] (t ∷ ts) places l m = absurd (omega arith)
total_at (Single x ∷ ps) [] places l m = absurd (omega arith)
total_at (Section b n s ∷ ps) [] places l m = absurd (omega arith)
total_at (Single x ∷ ps) (f ∷ fs) places l m = let e = total_at ps fs places (omega arith) m in omega arith
total_at (Section b n s ∷ ps) (f ∷ fs) [] l m = absurd (omega arith)
total_at (Section b n s ∷ ps) (f ∷ fs) (i ∷ places) l m = let e = total_at ps fs places (omega arith) (omega arith) in omega arith

pub both_pass : (ps qs : List (ℕ → Bool)) (xs : List ℕ) → length ps ≡ length xs → length qs ≤ length ps →
    all_pass (both ps qs) xs ≡ (all_pass ps xs && all_pass qs xs)
unfolding both all_pass
both_pass [] [] xs l m = refl
both_pass [] (q ∷ qs) xs l m = absurd (omega arith)
both_pass (p ∷ ps) qs [] l m = absurd (omega arith)
both_pass (p ∷ ps) [] (x ∷ xs) l m =
    ap (λ r. p x && r) (both_pass ps [] xs (omega arith) (omega arith)) ∙ sym (and_assoc (p x) (all_pass ps xs) true)
both_pass (p ∷ ps) (q ∷ qs) (x ∷ xs) l m =
    ap (λ r. (p x && q x) && r) (both_pass ps qs xs (omega arith) (omega arith))
    ∙ four (p x) (q x) (all_pass ps xs) (all_pass qs xs)
  where
    four : (a b c d : Bool) → ((a && b) && (c && d)) ≡ ((a && c) && (b && d))
    four true b c d = and_swap b c d
    four false b c d = refl

pub filled_total : (ns : List ℕ) (fs : List (ℕ → ℕ)) (xs : List ℕ) → length xs ≡ length ns → length fs ≤ length ns →
    total (filled_up ns fs) xs ≡ total fs xs
unfolding filled_up total
filled_total [] [] xs l m = refl
filled_total [] (f ∷ fs) xs l m = absurd (omega arith)
filled_total (n ∷ ns) fs [] l m = absurd (omega arith)
filled_total (n ∷ ns) [] (x ∷ xs) l m = none ns xs (omega arith)
  where
    none : (ns xs : List ℕ) → length xs ≡ length ns → 0 + total (filled_up ns []) xs ≡ 0
    none [] xs l = refl
    none (n ∷ ns) [] l = absurd (omega arith)
    none (n ∷ ns) (x ∷ xs) l = let e = none ns xs (omega arith) in omega arith
filled_total (n ∷ ns) (f ∷ fs) (x ∷ xs) l m = ap (λ r. f x + r) (filled_total ns fs xs (omega arith) (omega arith))
