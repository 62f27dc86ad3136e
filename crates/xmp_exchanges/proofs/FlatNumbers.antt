-- The numbers of parts, one behind the other.
use Rattle.std.proofs.Common.{◌≡◌, ◌++◌, ◌+◌, ◌<◌, ◌∙◌, ℕ, zero, suc, List, [], ◌∷◌, map, take, get_or, length, refl, ap, sym, arith, append_assoc}
use Rattle.xmp_meaning.specs.Sections.{Chosen, One, Many}
use Rattle.xmp_exchanges.specs.Aims.{flat}

pub flat_both : (xs ys : List Chosen) → flat (xs ++ ys) ≡ flat xs ++ flat ys
flat_both [] ys = refl
flat_both (One v ∷ xs) ys = ap (λ r. v ∷ r) (flat_both xs ys)
flat_both (Many base length step ∷ xs) ys = ap (λ r. base ∷ length ∷ step ∷ r) (flat_both xs ys)

flat_next : {C : Type 0} (f : C → Chosen) (xs : List C) (k : ℕ) (d : C) → k < length xs
    → flat (map f (take (suc k) xs)) ≡ flat (map f (take k xs)) ++ flat (f (get_or xs k d) ∷ [])
flat_next f [] k d h = absurd (omega (arith, h))
flat_next f (x ∷ xs) zero d h = refl
flat_next f (x ∷ xs) (suc k) d h =
    flat_both (f x ∷ []) (map f (take (suc k) xs))
    ∙ ap (λ r. flat (f x ∷ []) ++ r) (flat_next f xs k d (omega (arith, h)))
    ∙ sym (append_assoc (flat (f x ∷ [])) (flat (map f (take k xs))) (flat (f (get_or xs k d) ∷ [])))
    ∙ ap (λ r. r ++ flat (f (get_or xs k d) ∷ [])) (sym (flat_both (f x ∷ []) (map f (take k xs))))

-- those of one part more
pub flat_more : {C : Type 0} (f : C → Chosen) (xs : List C) (k : ℕ) (d : C) → k < length xs
    → flat (map f (take (k + 1) xs)) ≡ flat (map f (take k xs)) ++ flat (f (get_or xs k d) ∷ [])
flat_more f xs k d h = let e : k + 1 ≡ suc k = omega arith in rw e (flat_next f xs k d h)
