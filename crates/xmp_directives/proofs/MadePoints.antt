-- One more point of a loop directive.
use Rattle.std.proofs.Common.{◌≡◌, ◌∙◌, ◌<◌, ◌+◌, ◌++◌, sym, ap, ℕ, ℤ, List, [], ◌∷◌, Option, length, drop, get_or, append_assoc, add-one, drop-cons}
use Rattle.xmp_prog.specs.declared.statements.Point as made
use Rattle.xmp_names.specs.Sizes.{lower_at}
use Rattle.xmp_directives.specs.Directives.{made_of_point, made_points}

unrolled_at : {A : Type 0} (xs : List A) (i : ℕ) (d : A) → i < length xs → drop i xs ≡ get_or xs i d ∷ drop (i + 1) xs
unrolled_at xs i d h = rw (add-one, drop-cons xs i d)

pub points_step : (lowers : List ℤ) (points : List (Option (ℕ × ℤ))) (k : ℕ) (d : Option (ℕ × ℤ)) (l : ℤ) (p : made.Point) (done next : List made.Point) → k < length points →
    l ≡ lower_at lowers k → p ≡ made_of_point l (get_or points k d) → next ≡ done ++ p ∷ [] →
    done ++ made_points lowers k (drop k points) ≡ next ++ made_points lowers (k + 1) (drop (k + 1) points)
points_step lowers points k d l p done next h e m n =
    ap (λ xs. done ++ made_points lowers k xs) (unrolled_at points k d h)
    ∙ (ap (λ q. done ++ q ∷ made_points lowers (k + 1) (drop (k + 1) points)) (sym (m ∙ ap (λ b. made_of_point b (get_or points k d)) e)) ∙ rw (n, append_assoc))
