-- The ranges of a set of nodes, dimension by dimension.
use Rattle.std.proofs.Common.{◌≡◌, ◌∙◌, ◌<◌, ◌≤◌, ◌+◌, ◌++◌, refl, sym, ap, ℕ, ℤ, pos, List, [], ◌∷◌, Option, None, length, drop, get_or, add-one, drop-cons, append_assoc, arith, ⊎_elim, true}
use Rattle.std.proofs.lemmas.Bool.{cases_lt}
use Rattle.std.proofs.lemmas.List.{drop_all}
use Rattle.std.proofs.lemmas.Option.{slice_get_past, unwrap_or-slice_get}
use Rattle.std.specs.Prelude.{slice_get}
use Rattle.std.specs.Option.{unwrap_or}
use Rattle.xmp_directives.specs.Directives.{range_of, ranges, ranges_right}

unrolled_at : {A : Type 0} (xs : List A) (i : ℕ) (d : A) → i < length xs → drop i xs ≡ get_or xs i d ∷ drop (i + 1) xs
unrolled_at xs i d h = rw (add-one, drop-cons xs i d)

within : (sizes : List ℤ) (parts : List (Option (ℤ × ℤ))) (i : ℕ) → i < length sizes → i < length parts →
    ranges (drop i sizes) (drop i parts) ≡ range_of (get_or sizes i (pos 0)) (unwrap_or (slice_get parts i) None) ∷ ranges (drop (i + 1) sizes) (drop (i + 1) parts)
within sizes parts i h lt =
    ap (λ l. ranges l (drop i parts)) (unrolled_at sizes i (pos 0) h)
    ∙ (ap (λ l. ranges (get_or sizes i (pos 0) ∷ drop (i + 1) sizes) l) (unrolled_at parts i None lt)
    ∙ ap (λ p. range_of (get_or sizes i (pos 0)) p ∷ ranges (drop (i + 1) sizes) (drop (i + 1) parts)) (sym (unwrap_or-slice_get parts i None)))

past : (sizes : List ℤ) (parts : List (Option (ℤ × ℤ))) (i : ℕ) → i < length sizes → length parts ≤ i →
    ranges (drop i sizes) (drop i parts) ≡ range_of (get_or sizes i (pos 0)) (unwrap_or (slice_get parts i) None) ∷ ranges (drop (i + 1) sizes) (drop (i + 1) parts)
past sizes parts i h le =
    ap (λ l. ranges l (drop i parts)) (unrolled_at sizes i (pos 0) h)
    ∙ (ap (λ l. ranges (get_or sizes i (pos 0) ∷ drop (i + 1) sizes) l) (drop_all i parts le)
    ∙ (ap (λ o. range_of (get_or sizes i (pos 0)) (unwrap_or o None) ∷ ranges (drop (i + 1) sizes) []) (sym (slice_get_past parts i le))
    ∙ ap (λ l. range_of (get_or sizes i (pos 0)) (unwrap_or (slice_get parts i) None) ∷ ranges (drop (i + 1) sizes) l) (sym (drop_all (i + 1) parts (omega arith)))))

pub range_step : (made next : List (ℤ × ℤ)) (sizes : List ℤ) (parts : List (Option (ℤ × ℤ))) (i : ℕ) (n : ℤ) (part : Option (ℤ × ℤ)) (r : ℤ × ℤ) → i < length sizes →
    n ≡ get_or sizes i (pos 0) → part ≡ unwrap_or (slice_get parts i) None → r ≡ range_of n part → next ≡ made ++ r ∷ [] →
    made ++ ranges (drop i sizes) (drop i parts) ≡ next ++ ranges (drop (i + 1) sizes) (drop (i + 1) parts)
range_step made next sizes parts i n part r h p q e m =
    ap (λ l. made ++ l) (⊎_elim (within sizes parts i h) (past sizes parts i h) (cases_lt i (length parts)))
    ∙ (ap (λ x. made ++ (x ∷ ranges (drop (i + 1) sizes) (drop (i + 1) parts))) (sym (e ∙ (ap (λ x. range_of x part) p ∙ ap (range_of (get_or sizes i (pos 0))) q)))
    ∙ rw (m, append_assoc))

-- No range is left.
right_none : (ns : List ℤ) → ranges_right ns [] ≡ true
right_none [] = refl
right_none (n ∷ ns) = refl

pub right_past : (sizes : List ℤ) (rs : List (ℤ × ℤ)) (i : ℕ) → length rs ≤ i → ranges_right (drop i sizes) (drop i rs) ≡ true
right_past sizes rs i le = ap (ranges_right (drop i sizes)) (drop_all i rs le) ∙ right_none (drop i sizes)
