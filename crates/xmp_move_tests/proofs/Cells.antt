-- How many cells there are.
use Rattle.std.proofs.Common.{◌≡◌, ◌*◌, ◌∙◌, ℕ, List, ◌∷◌, Option, Some, None, IfSome, ap, sym}
use Rattle.xmp_map.specs.RowMajor.{product}

pub some_product : (o : Option ℕ) (extent count : ℕ) (behind extents : List ℕ) → extents ≡ extent ∷ behind → count ≡ product behind
    → IfSome o (λ n. n ≡ extent * count) → IfSome o (λ n. n ≡ product extents)
unfolding product
some_product None extent count behind extents e c h = tt
some_product (Some n) extent count behind extents e c h = h ∙ (ap (λ x. extent * x) c ∙ sym (ap product e))
