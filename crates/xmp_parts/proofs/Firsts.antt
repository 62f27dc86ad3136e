-- The first refusal of a list is the first of those that its rules are.
use Rattle.std.proofs.Common.{◌≡◌, Bool, true, false, ◌⊎◌, inl, inr, refl, sym, subst, arith, ⊎_elim, zero, suc, List, [], ◌∷◌}
use Rattle.std.specs.Prelude.{Option, Some, None, if◌then◌else◌}
use Rattle.std.proofs.lemmas.Bool.Decides.{nat_tests}
use Rattle.xmp_base.specs.First.{comes_first, IsFirst, first_of}
use Rattle.xmp_base.specs.declared.refusal.Refusal.{Refusal}
use Rattle.xmp_names.specs.declared.rules.Broken.{Broken}
use Rattle.xmp_parts.specs.Verdict.{first_in, IsIn, refusal_of}

comes_first-refl : (a : Refusal) → comes_first a a ≡ true
comes_first-refl a = grind (arith, nat_tests)

pub comes_first-trans : (a b c : Refusal) → comes_first a b ≡ true → comes_first b c ≡ true → comes_first a c ≡ true
comes_first-trans a b c h k = grind (arith, nat_tests)

comes_first-total : (a b : Refusal) → comes_first a b ≡ false → comes_first b a ≡ true
comes_first-total a b h = grind (arith, nat_tests)

-- a refusal stands before itself
itself : (a b : Refusal) → b ≡ a → comes_first a b ≡ true
itself a b e = subst (λ (y : Refusal). comes_first a y ≡ true) (sym e) (comes_first-refl a)

-- one more refusal
first_more : (r : Refusal) (Q : Refusal → Type 0) (o : Option Refusal) → IsFirst Q o → IsFirst (λ x. (x ≡ r) ⊎ Q x) (first_of (Some r) o)
first_more r Q None k = (inl refl, λ x s. ⊎_elim (itself r x) (λ q. absurd (k x q)) s)
first_more r Q (Some b) k = at (comes_first r b) refl
  where
    at : (t : Bool) → comes_first r b ≡ t → IsFirst (λ x. (x ≡ r) ⊎ Q x) (if t then Some r else Some b)
    at true e = (inl refl, λ x s. ⊎_elim (itself r x) (λ q. comes_first-trans r b x e (k.1 x q)) s)
    at false e = (inr k.0, λ x s. ⊎_elim (λ p. subst (λ (y : Refusal). comes_first b y ≡ true) (sym p) (comes_first-total r b e)) (k.1 x) s)

in_first : (r : Refusal) (b : Broken) (bs : List Broken) → r ≡ refusal_of b → IsIn (b ∷ bs) r
in_first r b bs e = (0, b, omega arith, refl, e)

in_rest : (r : Refusal) (b : Broken) (bs : List Broken) → IsIn bs r → IsIn (b ∷ bs) r
in_rest r b bs (k, x, h, is, e) = (suc k, x, omega arith, is, e)

pub in_either : (r : Refusal) (b : Broken) (bs : List Broken) → IsIn (b ∷ bs) r → (r ≡ refusal_of b) ⊎ IsIn bs r
in_either r b bs (zero, x, h, is, e) = inl (subst (λ (y : Broken). r ≡ refusal_of y) (sym is) e)
in_either r b bs (suc k, x, h, is, e) = inr (k, x, omega arith, is, e)

same_first : (P Q : Refusal → Type 0) (o : Option Refusal) → ((r : Refusal) → P r → Q r) → ((r : Refusal) → Q r → P r) → IsFirst P o → IsFirst Q o
same_first P Q None to from h = λ r q. h r (from r q)
same_first P Q (Some a) to from h = (to a h.0, λ r q. h.1 r (from r q))

pub first_is : (bs : List Broken) → IsFirst (IsIn bs) (first_in bs)
first_is [] = λ r s. omega (arith, s.2)
first_is (b ∷ bs) =
    same_first (λ r. (r ≡ refusal_of b) ⊎ IsIn bs r) (IsIn (b ∷ bs)) (first_in (b ∷ bs))
    (λ r s. ⊎_elim (in_first r b bs) (in_rest r b bs) s) (λ r s. in_either r b bs s)
    (first_more (refusal_of b) (IsIn bs) (first_in bs) (first_is bs))
