-- Two lists of numbers that are gone through side by side.
use Rattle.std.proofs.Common.{◌≡◌, ◌∙◌, ◌<◌, ◌≤◌, ◌+◌, ◌-◌, refl, ap, ℕ, List, [], ◌∷◌, false, length, drop, get_or, arith, length-drop, add-one, drop-cons}
use Rattle.std.specs.Prelude.{nat_le}
use Rattle.std.proofs.lemmas.List.{drop_all}
use Rattle.std.proofs.lemmas.Bool.Decides.{nat_tests}
use Rattle.xmp_prog.specs.declared.statements.LoopHead.{LoopHead}
use Rattle.xmp_prog.specs.Statements.{indices_of}
use Rattle.xmp_directives.specs.Directives.{same_numbers}

unrolled_at : (xs : List ℕ) (i d : ℕ) → i < length xs → drop i xs ≡ get_or xs i d ∷ drop (i + 1) xs
unrolled_at xs i d h = rw (add-one, drop-cons xs i d)

none_left : (nest : List LoopHead) → same_numbers [] (indices_of nest) ≡ nat_le (length nest) 0
none_left [] = refl
none_left (h ∷ hs) = grind (arith, nat_tests)

at_most : (n k : ℕ) → nat_le (n - k) 0 ≡ nat_le n k
at_most n k = grind (arith, nat_tests)

-- All names are used up.
pub same_end : (names : List ℕ) (nest : List LoopHead) (i : ℕ) → i ≡ length names →
    same_numbers (drop i names) (indices_of (drop i nest)) ≡ nat_le (length nest) (length names)
same_end names nest i e =
    ap (λ l. same_numbers l (indices_of (drop i nest))) (drop_all i names (omega arith))
    ∙ (none_left (drop i nest) ∙ (ap (λ n. nat_le n 0) (length-drop i nest) ∙ (at_most (length nest) i ∙ ap (λ k. nat_le (length nest) k) e)))

-- A name has no index left.
pub same_past : (names : List ℕ) (nest : List LoopHead) (i : ℕ) → i < length names → length nest ≤ i → same_numbers (drop i names) (indices_of (drop i nest)) ≡ false
same_past names nest i h le =
    ap (λ l. same_numbers l (indices_of (drop i nest))) (unrolled_at names i 0 h)
    ∙ ap (λ l. same_numbers (get_or names i 0 ∷ drop (i + 1) names) (indices_of l)) (drop_all i nest le)
