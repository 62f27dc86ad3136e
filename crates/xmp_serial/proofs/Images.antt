use Rattle.std.proofs.Common.{◌≡◌, ◌<◌, ◌-◌, ◌++◌, [], ◌∷◌, ℕ, ℤ, suc, List, take, drop, ap, ◌∙◌, sym, arith, append_assoc}
use Rattle.xmp_meaning.specs.Programs.{cut}

-- the row of an image, and then those of the others
pub cut_more : (images many : ℕ) (cells front behind : List ℤ) (all0 all1 all2 : List (List ℤ))
    → 0 < images → front ≡ take many cells → behind ≡ drop many cells
    → all1 ≡ all0 ++ front ∷ [] → all2 ≡ all1 ++ cut (images - 1) many behind → all2 ≡ all0 ++ cut images many cells
cut_more images many cells front behind all0 all1 all2 some f b e h =
    let more : suc (images - 1) ≡ images = omega arith in
    h ∙ ap (λ (x : List (List ℤ)). x ++ cut (images - 1) many behind) e
    ∙ append_assoc all0 (front ∷ []) (cut (images - 1) many behind)
    ∙ ap (λ (x : List ℤ). all0 ++ x ∷ cut (images - 1) many behind) f
    ∙ ap (λ (x : List ℤ). all0 ++ take many cells ∷ cut (images - 1) many x) b
    ∙ ap (λ (n : ℕ). all0 ++ cut n many cells) more
