-- The first of some refusals.
use Rattle.std.proofs.Common.{◌≡◌, Bool, true, false, ◌⊎◌, inl, inr, refl, arith, ◌↔◌, ⊎_elim, Option, Some, None, if◌then◌else◌}
use Rattle.std.proofs.lemmas.Bool.Decides.{nat_tests}
use Rattle.xmp_base.specs.First.{comes_first, IsFirst, first_of}
use Rattle.xmp_base.specs.declared.refusal.Refusal.{Refusal}

pub comes_first-refl : (a : Refusal) → comes_first a a ≡ true
comes_first-refl a = grind (arith, nat_tests)

comes_first-trans : (a b c : Refusal) → comes_first a b ≡ true → comes_first b c ≡ true → comes_first a c ≡ true
comes_first-trans a b c h k = grind (arith, nat_tests)

comes_first-total : (a b : Refusal) → comes_first a b ≡ false → comes_first b a ≡ true
comes_first-total a b h = grind (arith, nat_tests)

-- the first of both sets is the earlier of their firsts
pub first_or : (P Q : Refusal → Type 0) (x y : Option Refusal) → IsFirst P x → IsFirst Q y → IsFirst (λ r. P r ⊎ Q r) (first_of x y)
first_or P Q None None h k = λ r s. ⊎_elim (h r) (k r) s
first_or P Q None (Some b) h k = (inr k.0, λ r s. ⊎_elim (λ p. absurd (h r p)) (k.1 r) s)
first_or P Q (Some a) None h k = (inl h.0, λ r s. ⊎_elim (h.1 r) (λ q. absurd (k r q)) s)
first_or P Q (Some a) (Some b) h k = at (comes_first a b) refl
  where
    at : (t : Bool) → comes_first a b ≡ t → IsFirst (λ r. P r ⊎ Q r) (if t then Some a else Some b)
    at true e = (inl h.0, λ r s. ⊎_elim (h.1 r) (λ q. comes_first-trans a b r e (k.1 r q)) s)
    at false e = (inr k.0, λ r s. ⊎_elim (λ p. comes_first-trans b a r (comes_first-total a b e) (h.1 r p)) (k.1 r) s)

-- sets of the same refusals have the same first
pub first_same : (P Q : Refusal → Type 0) → ((r : Refusal) → P r ↔ Q r) → (x : Option Refusal) → IsFirst P x → IsFirst Q x
first_same P Q e None h = λ r q. h r ((e r).1 q)
first_same P Q e (Some a) h = ((e a).0 h.0, λ r q. h.1 r ((e r).1 q))
