-- The first position that a node owns, by what it is.
use Rattle.std.proofs.Common.{◌≡◌, ◌≢◌, ℕ, zero, suc, Bool, true, false, ℤ, pos, negsuc, ◌+ℤ◌, ◌-ℤ◌, ◌≤ℤ◌, ◌<ℤ◌, refl, sym, ap, subst, ◌∙◌, arith, inl, inr, if◌then◌else◌}
use Rattle.std.specs.Prelude.{◌==◌}
use Rattle.std.proofs.lemmas.Int.{ints}
use Rattle.std.proofs.lemmas.Bool.{cases_lt}
use Rattle.std.proofs.lemmas.Bool.Decides.{nat_tests}
use Rattle.xmp_dist.specs.declared.dimension.Dim.{Dim}
use Rattle.xmp_dist.specs.Owner.{owner}
use Rattle.xmp_meaning.specs.Expressions.{natural}
use Rattle.xmp_instr.specs.Tables.{first_owned}

-- the first number from `g` on that the node owns, before the end
pub record IsFirst (dim : Dim) (c : ℕ) (g end r : ℤ) : Type 0 where
  pub from : g ≤ℤ r
  pub upto : r ≤ℤ end
  pub owned : r <ℤ end → owner dim r ≡ c
  pub least : (x : ℤ) → g ≤ℤ x → x <ℤ r → owner dim x ≢ c

natural_is : (z : ℤ) → pos 0 ≤ℤ z → pos (natural z) ≡ z
natural_is (pos n) h = refl
natural_is (negsuc n) h = absurd (omega (arith, ints))

first_at : (dim : Dim) (c : ℕ) (n : ℕ) (g r : ℤ) → IsFirst dim c g (g +ℤ pos n) r → r ≡ first_owned dim c g n
unfolding first_owned
first_at dim c zero g r h = let a = h.from in let b = h.upto in omega (arith, ints)
first_at dim c (suc n) g r h = go (owner dim g == c) refl (λ k. first_at dim c n (g +ℤ pos 1) r k)
  where
    go : (t : Bool) → (owner dim g == c) ≡ t → (IsFirst dim c (g +ℤ pos 1) (g +ℤ pos 1 +ℤ pos n) r → r ≡ first_owned dim c (g +ℤ pos 1) n) → r ≡ (if t then g else first_owned dim c (g +ℤ pos 1) n)
    go true e on =
        let mine : owner dim g ≡ c = grind (arith, nat_tests) in
        let here : g <ℤ r → ⊥ = λ l. h.least g (omega (arith, ints)) l mine in
        let a = h.from in
        let far : pos (natural (r -ℤ g)) ≡ r -ℤ g = natural_is (r -ℤ g) (omega (arith, ints)) in
        elim (cases_lt 0 (natural (r -ℤ g))) [ inl some ↦ absurd (here (omega (arith, ints))) | inr none ↦ omega (arith, ints) ]
    go false e on =
        let other : owner dim g ≡ c → ⊥ = λ m. grind (arith, nat_tests) in
        let there : r ≢ g = λ same. other (subst (λ x. owner dim x ≡ c) same (h.owned (let a = same in omega (arith, ints)))) in
        let a = h.from in
        let b = h.upto in
        on (record {
          from = omega (arith, ints);
          upto = omega (arith, ints);
          owned = λ l. h.owned (omega (arith, ints));
          least = λ x m l. h.least x (omega (arith, ints)) l;
        })

pub first_is : (dim : Dim) (c : ℕ) (g end r : ℤ) → g ≤ℤ end → IsFirst dim c g end r → r ≡ first_owned dim c g (natural (end -ℤ g))
first_is dim c g end r le h =
    let all : pos (natural (end -ℤ g)) ≡ end -ℤ g = natural_is (end -ℤ g) (omega (arith, ints)) in
    let e : end ≡ g +ℤ pos (natural (end -ℤ g)) = omega (arith, ints) in
    first_at dim c (natural (end -ℤ g)) g r (subst (λ x. IsFirst dim c g x r) e h)

-- the same of numbers that are equal
pub first_by : (dim : Dim) (c : ℕ) (g end g' end' r : ℤ) → g' ≡ g → end' ≡ end → g ≤ℤ end → IsFirst dim c g' end' r → r ≡ first_owned dim c g (natural (end -ℤ g))
first_by dim c g end g' end' r eg ee le h =
    first_is dim c g end r le (subst (λ x. IsFirst dim c g x r) ee (subst (λ x. IsFirst dim c x end' r) eg h))
