-- The counters of the example make progress.
use Rattle.std.proofs.Common.{◌≡◌, ◌≢◌, ℕ, zero, suc, ◌+◌, ◌<◌, refl, ap, arith, ◌⊎◌, inl, inr}
use Rattle.xmp_orders.specs.Movers.{Stepped, AlreadyEnded, AllEnded, SomeCanMove}
use Rattle.xmp_orders.specs.Progress.{Progress}
use Rattle.xmp_orders.specs.Examples.{Counters, one_less, was, to_go, counters}

-- the counts that are left and those that are done are 5
pub record Done (w : Counters) (done : ℕ) : Type 0 where
  pub all : w.left + w.right + done ≡ 5

none : (w : Counters) (k : ℕ) → w.left ≡ 0 → w.right ≡ 0 → was (to_go w k) ≡ AlreadyEnded
none w zero e f = ap was e
none w (suc k) e f = ap was f

some : (a : ℕ) → 0 < a → was a ≡ Stepped
some zero lt = absurd (omega arith)
some (suc a) lt = refl

positive : (a : ℕ) → was a ≡ Stepped → 0 < a
positive zero e = absurd (let h : AlreadyEnded ≡ Stepped = e in (cc))
positive (suc a) e = omega arith

less : (a : ℕ) → 0 < a → suc (one_less a) ≡ a
less zero lt = absurd (omega arith)
less (suc a) lt = refl

nothing : (a : ℕ) → was a ≢ Stepped → one_less a ≡ a
nothing zero no-step = refl
nothing (suc a) no-step = absurd (no-step refl)

moves : (w : Counters) (left right : ℕ) → w.left ≡ left → w.right ≡ right → AllEnded counters w ⊎ SomeCanMove counters w
moves w zero zero e f = inl (λ k lk. none w k e f)
moves w zero (suc right) e f = inr (1, omega arith, ap was f)
moves w (suc left) right e f = inr (0, omega arith, ap was e)

steps : (w : Counters) (done k : ℕ) → Done w done → counters.answer w k ≡ Stepped → Done (counters.moved w k) (suc done)
steps w done zero d step = let h = less w.left (positive w.left step) in let a = d.all in record { all = omega arith }
steps w done (suc k) d step = let h = less w.right (positive w.right step) in let a = d.all in record { all = omega arith }

stays : (w : Counters) (k : ℕ) → counters.answer w k ≢ Stepped → counters.moved w k ≡ w
stays w zero no-step = ap (λ n. record w { left = n }) (nothing w.left no-step)
stays w (suc k) no-step = ap (λ n. record w { right = n }) (nothing w.right no-step)

pub counters_progress : Progress counters Done (λ w done. done) 5
counters_progress = record {
  moves = λ w done d. moves w w.left w.right refl refl;
  steps = λ w done k d lk step. (suc done, steps w done k d step, omega arith);
  stays = stays;
  bound = λ w done d. let a = d.all in omega arith;
}
