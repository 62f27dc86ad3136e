-- The two nodes of the example carry their traffic.
use Rattle.std.proofs.Common.{◌≡◌, ℕ, zero, suc, ◌≤◌, ◌==◌, false, refl, ap, arith, ◌∙◌, inl, inr}
use Rattle.std.proofs.lemmas.Bool.{cases_eq}
use Rattle.xmp_net.specs.Traffic.{fed, own, AllCarry}
use Rattle.xmp_net.specs.Examples.{pair, told}
use Rattle.xmp_net.proofs.Course.{fed_step}
use Rattle.xmp_net.proofs.OneTraffic.{fed_itself}

fed_stops : (k t i : ℕ) (s : ℕ × ℕ) → (fed pair told k t i s).0 ≡ s.0
fed_stops k t zero s = refl
fed_stops k t (suc i) s = elim (cases_eq i k) [
  | inl e ↦ ap (λ x. x.0) (fed_itself pair told k t i s e) ∙ fed_stops k t i s
  | inr ne ↦ ap (λ x. x.0) (fed_step pair told k t i s ne) ∙ fed_stops k t i s
]

pair_goes : (k t i : ℕ) → t ≤ 1 → pair.over (own pair told k t i) ≡ false
pair_goes k zero i le = refl
pair_goes k (suc zero) i le = ap (λ stops. stops == 2) (fed_stops k 0 i (1, 0))
pair_goes k (suc (suc t)) i le = absurd (omega arith)

pair_ends : (k : ℕ) → (own pair told k 2 0).0 ≡ 2
pair_ends k = ap (λ stops. suc stops) (fed_stops k 0 2 (1, 0))

pub pair_carries : AllCarry pair told
pair_carries k lk = record {
  goes = λ t i lt li. pair_goes k t i lt;
  sends = λ t j lt lj ne. refl;
  ends = ap (λ stops. stops == 2) (pair_ends k);
}
