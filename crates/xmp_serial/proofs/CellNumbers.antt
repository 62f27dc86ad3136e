use Rattle.std.proofs.Common.{◌≡◌, ◌+◌, ◌*◌, ◌++◌, [], ◌∷◌, ℕ, ℤ, zero, suc, pos, negsuc, List, Bool, true, false, Option, Some, None, refl, ap, ◌∙◌, sym, arith, map, append_assoc, if◌then◌else◌, nat_lt}
use Rattle.std.specs.List.{flat_map, range_with_len}
use Rattle.std.proofs.lemmas.List.{append-nil, map-append}
use Rattle.std.proofs.lemmas.Grind.{flat_map-append}
use Rattle.xmp_meaning.specs.Expressions.{natural, within}
use Rattle.xmp_meaning.specs.Sections.{Chosen, One, Many, lengths, progression}

same_sum : (a n : ℕ) → (a + 1) + n ≡ a + suc n
same_sum a n = omega arith

range_more : (a n : ℕ) → range_with_len a (suc n) ≡ range_with_len a n ++ (a + n) ∷ []
range_more a zero = let e : a ≡ a + 0 = omega arith in ap (λ (x : ℕ). x ∷ []) e
range_more a (suc n) = ap (λ (xs : List ℕ). a ∷ xs) (range_more (a + 1) n ∙ ap (λ (x : ℕ). range_with_len (a + 1) n ++ x ∷ []) (same_sum a n))

progression_more : (base step k : ℕ) → progression base step (suc k) ≡ progression base step k ++ (base + k * step) ∷ []
progression_more base step k =
    let zero_more : 0 + k ≡ k = omega arith in
    ap (map (λ j. base + j * step)) (range_more 0 k)
    ∙ map-append (λ j. base + j * step) (range_with_len 0 k) ((0 + k) ∷ [])
    ∙ ap (λ (x : ℕ). progression base step k ++ (base + x * step) ∷ []) zero_more

-- the cells at one subscript more
pub more_cells : (g : ℕ → List ℕ) (base step k x : ℕ) (a0 a1 a2 : List ℕ)
    → a1 ≡ a0 ++ flat_map g (progression base step k) → x ≡ base + k * step → a2 ≡ a1 ++ g x
    → a2 ≡ a0 ++ flat_map g (progression base step (k + 1))
more_cells g base step k x a0 a1 a2 p e q =
    let next : suc k ≡ k + 1 = omega arith in
    q ∙ ap (λ (t : List ℕ). t ++ g x) p
    ∙ append_assoc a0 (flat_map g (progression base step k)) (g x)
    ∙ ap (λ (y : ℕ). a0 ++ (flat_map g (progression base step k) ++ g y)) e
    ∙ ap (λ (t : List ℕ). a0 ++ (flat_map g (progression base step k) ++ t)) (sym (append-nil (g (base + k * step))))
    ∙ ap (λ (t : List ℕ). a0 ++ t) (sym (flat_map-append g (progression base step k) ((base + k * step) ∷ [])))
    ∙ ap (λ (t : List ℕ). a0 ++ flat_map g t) (sym (progression_more base step k))
    ∙ ap (λ (n : ℕ). a0 ++ flat_map g (progression base step n)) next

-- one subscript is a progression of one
pub one_cell : (g : ℕ → List ℕ) (v : ℕ) (a0 : List ℕ) → a0 ++ flat_map g (progression v 0 1) ≡ a0 ++ flat_map g (v ∷ [])
one_cell g v a0 = let e : v + 0 * 0 ≡ v = omega arith in ap (λ (x : ℕ). a0 ++ flat_map g (x ∷ [])) e

within_pos : (b : Bool) (k x : ℕ) → ◌≡◌ {A = Option ℕ} (Some x) (if b then Some k else None) → x ≡ k
within_pos true k x e = cc
within_pos false k x e = absurd (cc)

-- a subscript inside is the number that is counted
pub within_natural : (v : ℤ) (extent x : ℕ) → Some x ≡ within v extent → x ≡ natural v
within_natural (pos k) extent x e = within_pos (nat_lt k extent) k x e
within_natural (negsuc k) extent x e = absurd (cc)

-- the lengths of one part more
pub lengths_more : (xs ys : List Chosen) → lengths (xs ++ ys) ≡ lengths xs ++ lengths ys
lengths_more [] ys = refl
lengths_more (One v ∷ xs) ys = lengths_more xs ys
lengths_more (Many base length step ∷ xs) ys = ap (λ (t : List ℤ). length ∷ t) (lengths_more xs ys)
