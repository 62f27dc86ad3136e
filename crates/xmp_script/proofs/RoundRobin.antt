-- The script of the example is free of conflicts, and its images carry it.
use Rattle.std.proofs.Common.{◌≡◌, ℕ, zero, suc, ◌<◌, [], ◌∷◌, length, slice_get, Some, None, refl, sym, ap, ◌∙◌, subst, arith}
use Rattle.xmp_script.specs.Script.{Access, Get, Put, IsPutTo, IsTo, IsFree}
use Rattle.xmp_script.specs.Images.{AtAccess, AtSync, AtEnd, answer}
use Rattle.xmp_script.specs.Carries.{own, AllCarry}
use Rattle.xmp_orders.specs.Movers.{AlreadyEnded, rounds}
use Rattle.xmp_script.specs.Laws.{played}
use Rattle.xmp_script.specs.Examples.{neighbour, handed, round_robin, keepers}
use Rattle.xmp_script.proofs.Words.{some_inj}

neighbours_apart : (k j : ℕ) → k < 3 → j < 3 → neighbour k ≡ neighbour j → k ≡ j
neighbours_apart k j lk lj e = grind arith

-- the only access of a phase
one_access : {A : Type 0} (x a : A) (i : ℕ) → slice_get (x ∷ []) i ≡ Some a → x ≡ a
one_access x a zero e = some_inj e
one_access x a (suc i) e = absurd (let h : None ≡ Some a = e in (cc))

pub is_free : IsFree round_robin
is_free zero k j e lq lk lj ne t p =
    let P : Access ℕ → Type 0 = λ a. IsTo e a in
    let Q : Access ℕ → Type 0 = λ a. IsPutTo e a in
    let to : neighbour k ≡ e = subst P (sym (one_access (Put (neighbour k) k) t.1 t.0 t.2)) t.3 in
    let put : neighbour j ≡ e = subst Q (sym (one_access (Put (neighbour j) j) p.1 p.0 p.2)) p.3 in
    ne (neighbours_apart k j lk lj (to ∙ sym put))
is_free (suc zero) k j e lq lk lj ne t p = (let Q : Access ℕ → Type 0 = λ a. IsPutTo e a in subst Q (sym (one_access (Get j) p.1 p.0 p.2)) p.3)
is_free (suc (suc q)) k j e lq lk lj ne t p = absurd (omega arith)

keeps : (k q i : ℕ) (a : Access ℕ) → q < 2 → slice_get (handed q k) i ≡ Some a →
    keepers.stands (keepers.go (own keepers round_robin k q i)) ≡ AtAccess a
keeps k zero zero a lq at-i = ap (λ b. AtAccess b) (some_inj at-i)
keeps k zero (suc i) a lq at-i = absurd (let h : None ≡ Some a = at-i in (cc))
keeps k (suc zero) zero a lq at-i = ap (λ b. AtAccess b) (some_inj at-i)
keeps k (suc zero) (suc i) a lq at-i = absurd (let h : None ≡ Some a = at-i in (cc))
keeps k (suc (suc q)) i a lq at-i = absurd (omega arith)

keeper_syncs : (k q : ℕ) → suc q < 2 →
    keepers.stands (keepers.go (own keepers round_robin k q (length (handed q k)))) ≡ AtSync
keeper_syncs k zero lq = refl
keeper_syncs k (suc q) lq = absurd (omega arith)

keeper_ends : (k q : ℕ) → suc q ≡ 2 →
    keepers.stands (keepers.go (own keepers round_robin k q (length (handed q k)))) ≡ AtEnd
keeper_ends k zero e = absurd (omega arith)
keeper_ends k (suc zero) e = refl
keeper_ends k (suc (suc q)) e = absurd (omega arith)

pub keepers_carry : AllCarry keepers round_robin
keepers_carry = record {
  free = is_free;
  images = omega arith;
  phases = omega arith;
  each = λ k lk. record { accesses = keeps k; syncs = keeper_syncs k; ends = keeper_ends k };
}

pub keepers_end : (k : ℕ) → k < 3 → answer 3 (played keepers round_robin (rounds 3 6)) k ≡ AlreadyEnded
keepers_end zero lt = refl
keepers_end (suc zero) lt = refl
keepers_end (suc (suc zero)) lt = refl
keepers_end (suc (suc (suc k))) lt = absurd (omega arith)
