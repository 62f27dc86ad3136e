-- Expressions compared one by one.
use Rattle.std.proofs.Common.{◌≡◌, ◌∙◌, sym, ap, refl, ℕ, suc, zero, ◌<◌, ◌≤◌, false, ◌&&◌, List, [], ◌∷◌, length, map, drop, get_or, Some, None, nat_eq, arith}
use Rattle.std.specs.Prelude.{slice_get}
use Rattle.std.proofs.lemmas.Bool.{ne_eqb}
use Rattle.std.proofs.lemmas.Bool.Decides.{nat_tests}
use Rattle.xmp_prog.specs.declared.expressions.Expr.{Expr}
use Rattle.xmp_loops.specs.Same.{all_pass, same}

pub pass_some : (k : ℕ) (es xs : List Expr) (d x : Expr) → k < length es → Some x ≡ slice_get xs k →
    all_pass (map same (drop k es)) (drop k xs) ≡ (same (get_or es k d) x && all_pass (map same (drop (suc k) es)) (drop (suc k) xs))
pass_some k [] xs d x h e = absurd (omega arith)
pass_some zero (a ∷ es) [] d x h e = cc
pass_some zero (a ∷ es) (b ∷ xs) d x h e = let same_one : b ≡ x = cc in ap (λ y. same a y && all_pass (map same es) xs) same_one
pass_some (suc k) (a ∷ es) [] d x h e = cc
pass_some (suc k) (a ∷ es) (b ∷ xs) d x h e = pass_some k es xs d x (omega arith) e

pass_nothing : (k : ℕ) (es : List Expr) → k < length es → all_pass (map same (drop k es)) [] ≡ false
pass_nothing k [] h = absurd (omega arith)
pass_nothing zero (a ∷ es) h = refl
pass_nothing (suc k) (a ∷ es) h = pass_nothing k es (omega arith)

pub pass_none : (k : ℕ) (es xs : List Expr) → k < length es → None ≡ slice_get xs k → all_pass (map same (drop k es)) (drop k xs) ≡ false
pass_none k [] xs h e = absurd (omega arith)
pass_none zero (a ∷ es) [] h e = refl
pass_none zero (a ∷ es) (b ∷ xs) h e = cc
pass_none (suc k) (a ∷ es) [] h e = pass_nothing k es (omega arith)
pass_none (suc k) (a ∷ es) (b ∷ xs) h e = pass_none k es xs (omega arith) e

eq_suc : (a b : ℕ) → nat_eq a b ≡ nat_eq (suc a) (suc b)
eq_suc a b = grind (arith, nat_tests)

pub pass_end : (k : ℕ) (es xs : List Expr) → length es ≤ k → k ≤ length es → k ≤ length xs →
    all_pass (map same (drop k es)) (drop k xs) ≡ nat_eq (length xs) (length es)
pass_end zero [] [] h i j = refl
pass_end zero [] (x ∷ xs) h i j = sym (ne_eqb (length (x ∷ xs)) 0 (λ z. absurd (omega (arith, z))))
pass_end zero (e ∷ es) xs h i j = absurd (omega arith)
pass_end (suc k) [] xs h i j = absurd (omega arith)
pass_end (suc k) (e ∷ es) [] h i j = absurd (omega arith)
pass_end (suc k) (e ∷ es) (x ∷ xs) h i j = pass_end k es xs (omega arith) (omega arith) (omega arith) ∙ eq_suc (length xs) (length es)

pub some_within : (k : ℕ) (xs : List Expr) (x : Expr) → Some x ≡ slice_get xs k → k < length xs
some_within k [] x e = cc
some_within zero (y ∷ xs) x e = omega arith
some_within (suc k) (y ∷ xs) x e = let h : k < length xs = some_within k xs x e in omega (arith, h)
