-- The places of a section, one more at a time, and those that may pass.
use Rattle.std.proofs.Common.{◌≡◌, ℕ, zero, suc, ◌+◌, ◌-◌, ◌*◌, ◌<◌, ◌≤◌, ◌⊎◌, inl, inr, Bool, true, false, List, [], ◌∷◌, ◌++◌, refl, sym, ◌∙◌, ap, arith, map, cond, min, max}
use Rattle.std.specs.Prelude.{filter, ◌&&◌, nat_le, nat_lt}
use Rattle.std.specs.List.{range_with_len}
use Rattle.std.proofs.lemmas.Bool.{cases_lt}
use Rattle.std.proofs.lemmas.Bool.Decides.{nat_tests}
use Rattle.std.proofs.lemmas.List.{map-append}
use Rattle.std.proofs.lemmas.List.Elements.{filter-append}
use Rattle.std.proofs.Math.Nat.{mul-le-mul_right}
use Rattle.xmp_dist.proofs.Counting.{count_below-le}
use Rattle.xmp_move.specs.declared.reach.Reach.{Reach}
use Rattle.xmp_move.specs.Reaches.{reaches, position_in}
use Rattle.xmp_move.specs.Sums.{share}
use Rattle.xmp_move.proofs.Narrowed.{narrowed}

pub range_more : (a n : ℕ) → range_with_len a (suc n) ≡ range_with_len a n ++ (a + n) ∷ []
range_more a zero = let e : a + 0 ≡ a = omega arith in rw e refl
range_more a (suc n) = let e : (a + 1) + n ≡ a + suc n = omega arith in ap (λ r. a ∷ r) (range_more (a + 1) n ∙ ap (λ x. range_with_len (a + 1) n ++ x ∷ []) e)

append_nil : (xs : List ℕ) → xs ++ [] ≡ xs
append_nil [] = refl
append_nil (x ∷ xs) = ap (λ r. x ∷ r) (append_nil xs)

-- what the places of a range that pass add
abbrev pub part : (ℕ → Bool) → (ℕ → ℕ) → (from many : ℕ) → List ℕ
part t f from n = map f (filter t (range_with_len from n))

part_more : (t : ℕ → Bool) (f : ℕ → ℕ) (from n : ℕ) (b : Bool) → t (from + n) ≡ b → part t f from (n + 1) ≡ part t f from n ++ map f (cond b ((from + n) ∷ []) [])
part_more t f from n b h =
    let one : n + 1 ≡ suc n = omega arith in
    ap (λ m. part t f from m) one
    ∙ ap (λ r. map f (filter t r)) (range_more from n)
    ∙ ap (map f) (filter-append t (range_with_len from n) ((from + n) ∷ []))
    ∙ map-append f (filter t (range_with_len from n)) (cond (t (from + n)) ((from + n) ∷ []) [])
    ∙ ap (λ b. part t f from n ++ map f (cond b ((from + n) ∷ []) [])) h

pub part_yes : (t : ℕ → Bool) (f : ℕ → ℕ) (from n : ℕ) → t (from + n) ≡ true → part t f from (n + 1) ≡ part t f from n ++ f (from + n) ∷ []
part_yes t f from n h = part_more t f from n true h

pub part_no : (t : ℕ → Bool) (f : ℕ → ℕ) (from n : ℕ) → t (from + n) ≡ false → part t f from (n + 1) ≡ part t f from n
part_no t f from n h = part_more t f from n false h ∙ append_nil (part t f from n)

-- the places outside a range don't pass, so its part is the whole share
pub part_is : (t : ℕ → Bool) (f : ℕ → ℕ) (from to count : ℕ) → from ≤ to → to ≤ count
    → ((k : ℕ) → k < from → t k ≡ false) → ((k : ℕ) → to ≤ k → k < count → t k ≡ false) → part t f from (to - from) ≡ share t f count
part_is t f from to count order inside before after =
    let m : ℕ = to - from in
    let n : ℕ = count - to in
    let whole : (from + m) + n ≡ count = omega arith in
    let reached : from + m ≡ to = omega arith in
    sym (ap (λ c. map f (filter t (range_with_len 0 c))) (sym whole)
    ∙ ap (map f) (narrowed t from m n before (λ k l u. after k (omega (arith, reached, l)) (omega (arith, whole, u)))))

and_none : (a b : Bool) → (a ≡ false) ⊎ (b ≡ false) → (a && b) ≡ false
and_none a b (inl e) = ap (λ r. r && b) e
and_none true b (inr e) = e
and_none false b (inr e) = refl

pub none_before : (p q : ℕ → Bool) (a c to : ℕ) (k count : ℕ) → to ≤ count → ((k : ℕ) → k < a → k < count → p k ≡ false) → ((k : ℕ) → k < c → k < count → q k ≡ false)
    → k < min (max a c) to → (p k && q k) ≡ false
none_before p q a c to k count inside before other lt =
    let small : k < count = omega (arith, lt, inside) in
    elim (cases_lt k a) [
      | inl l ↦ and_none (p k) (q k) (inl (before k l small))
      | inr l ↦ and_none (p k) (q k) (inr (other k (omega (arith, lt, l)) small))
    ]

pub none_after : (p q : ℕ → Bool) (b d : ℕ) (k count : ℕ) → ((k : ℕ) → b ≤ k → k < count → p k ≡ false) → ((k : ℕ) → d ≤ k → k < count → q k ≡ false)
    → min b d ≤ k → k < count → (p k && q k) ≡ false
none_after p q b d k count after other le lt =
    elim (cases_lt k b) [
      | inl l ↦ and_none (p k) (q k) (inr (other k (omega (arith, le, l)) lt))
      | inr l ↦ and_none (p k) (q k) (inl (after k l lt))
    ]

pub span_before : (from to extent x : ℕ) → x < min from extent → (nat_le from x && nat_lt x to) ≡ false
span_before from to extent x lt = grind (arith, nat_tests)

pub span_after : (from to extent x : ℕ) → min to extent ≤ x → x < extent → (nat_le from x && nat_lt x to) ≡ false
span_after from to extent x le lt = grind (arith, nat_tests)

-- what a place adds is small
pub adds_small : (r : Reach) (x extent weight most : ℕ) → x ≤ extent → extent * weight ≤ most → position_in r x * weight ≤ most
adds_small r x extent weight most le small =
    let p = count_below-le (reaches r) x in
    let q : position_in r x * weight ≤ extent * weight = mul-le-mul_right {m = position_in r x} {n = extent} weight (omega (arith, p, le)) in
    omega (arith, q, small)
