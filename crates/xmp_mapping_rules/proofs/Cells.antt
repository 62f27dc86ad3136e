-- The cells of arrays, counted up to a limit.
use Rattle.std.proofs.Common.{◌≡◌, ◌∙◌, sym, ◌<◌, ◌+◌, ◌*◌, ◌++◌, ◌&&◌, ℕ, Bool, min, arith, ap, List, [], ◌∷◌, refl, length, drop, get_or, append_assoc}
use Rattle.std.specs.Prelude.{nat_le, nat_lt}
use Rattle.std.proofs.lemmas.Bool.Decides.{nat_tests}
use Rattle.xmp_map.specs.RowMajor.{product}
use Rattle.xmp_map.specs.Spread.{sizes_fit}
use Rattle.xmp_names.specs.declared.names.Array.{Array}
use Rattle.xmp_names.specs.declared.rules.Broken.{Broken}
use Rattle.xmp_names.specs.declared.rules.Rule.TheVariants.{M10}
use Rattle.xmp_names.specs.Rules.{unless}
use Rattle.xmp_mapping_rules.specs.MappingRules.{cells_from}
use Rattle.xmp_mapping_rules.proofs.Limits.{limit_times}
use Rattle.xmp_names.proofs.Steps.{unrolled}

-- The limit is 4,194,304; a number above it counts as 4,194,305.
within : (n : ℕ) → nat_le n 4194304 ≡ nat_lt (min n 4194305) 4194305
within n = grind (arith, nat_tests)

same_within : (m n : ℕ) → min m 4194305 ≡ min n 4194305 → nat_le m 4194304 ≡ nat_le n 4194304
same_within m n e = within m ∙ (ap (λ x. nat_lt x 4194305) e ∙ sym (within n))

turned : (a b c : ℕ) → min (a * b) c ≡ min (b * a) c
turned a b c = ap (λ m. min m c) (omega arith)

-- Both factors may be cut off.
both : (s k : ℕ) → min (s * k) 4194305 ≡ min (min s 4194305 * min k 4194305) 4194305
both s k =
    limit_times 4194304 s k ∙ (turned (min s 4194305) k 4194305
    ∙ (limit_times 4194304 k (min s 4194305) ∙ turned (min k 4194305) (min s 4194305) 4194305))

same_product : (s t k : ℕ) → min s 4194305 ≡ min t 4194305 → min (s * k) 4194305 ≡ min (t * k) 4194305
same_product s t k e = limit_times 4194304 s k ∙ (ap (λ m. min (m * k) 4194305) e ∙ sym (limit_times 4194304 t k))

cells_kept : (k b : ℕ) (xs : List Array) → cells_from k b xs ≡ cells_from k (min b 4194305) xs
cells_kept k b [] = refl
cells_kept k b (a ∷ more) =
    let e : min (b + product a.extents) 4194305 ≡ min (min b 4194305 + product a.extents) 4194305 = omega arith in
    ap (λ t. unless (sizes_fit a.extents && t) M10 a.at ++ cells_from k (b + product a.extents) more)
    (same_within ((b + product a.extents) * k) ((min b 4194305 + product a.extents) * k) (same_product (b + product a.extents) (min b 4194305 + product a.extents) k e))
    ∙ ap (λ r. unless (sizes_fit a.extents && nat_le ((min b 4194305 + product a.extents) * k) 4194304) M10 a.at ++ r)
    (cells_kept k (b + product a.extents) more ∙ (ap (λ n. cells_from k n more) e ∙ sym (cells_kept k (min b 4194305 + product a.extents) more)))

-- One more array.
pub cells_step : (made next : List Broken) (xs : List Array) (i : ℕ) (x : Array) (before k cost cells times : ℕ) (right : Bool) → i < length xs → x ≡ get_or xs i x →
    cost ≡ min (product x.extents) 4194305 → cells ≡ min (before + cost) 4194305 → times ≡ min k 4194305 →
    right ≡ (sizes_fit x.extents && nat_lt (min (cells * times) 4194305) 4194305) →
    next ≡ made ++ unless right M10 x.at →
    made ++ cells_from k before (drop i xs) ≡ next ++ cells_from k cells (drop (i + 1) xs)
cells_step made next xs i x before k cost cells times right h is p c t q e =
    let sum : min (before + product x.extents) 4194305 ≡ cells = omega arith in
    let judged : (sizes_fit x.extents && nat_le ((before + product x.extents) * k) 4194304) ≡ right =
    ap (λ b. sizes_fit x.extents && b) (within ((before + product x.extents) * k) ∙ ap (λ n. nat_lt n 4194305) (both (before + product x.extents) k
    ∙ (ap (λ n. min (n * min k 4194305) 4194305) sum ∙ ap (λ n. min (cells * n) 4194305) (sym t)))) ∙ sym q in
    ap (λ l. made ++ cells_from k before l) (unrolled xs i x h is)
    ∙ (ap (λ b. made ++ (unless b M10 x.at ++ cells_from k (before + product x.extents) (drop (i + 1) xs))) judged
    ∙ (ap (λ r. made ++ (unless right M10 x.at ++ r)) (cells_kept k (before + product x.extents) (drop (i + 1) xs) ∙ ap (λ n. cells_from k n (drop (i + 1) xs)) sum)
    ∙ rw (e, append_assoc)))
