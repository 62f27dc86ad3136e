-- What brings all to their end, in every order (this project).
use Rattle.std.specs.Prelude.{◌≡◌, ◌≢◌, ℕ, ◌<◌, ◌≤◌, List, length, ◌⊎◌}
use Rattle.xmp_orders.specs.Movers.{Movers, Stepped, run, AreMovers, AllEnded, SomeCanMove, AllStep, rounds}
use Rattle.xmp_orders.specs.Choices.{Choice, PicksSteps, EndsBy}

-- Progress: `on` is what the world keeps, with what is known of it, and `far` how far it has come. While not all have
-- ended some one can move; a step keeps that and leads further, but never past `most`; what is no step changes nothing.
pub record Progress {W R : Type 0} (m : Movers W) (on : W → R → Type 0) (far : W → R → ℕ) (most : ℕ) : Type 0 where
  pub moves : (w : W) (r : R) → on w r → AllEnded m w ⊎ SomeCanMove m w
  pub steps : (w : W) (r : R) (k : ℕ) → on w r → k < m.count → m.answer w k ≡ Stepped →
      (z : R) × on (m.moved w k) z × (far w r < far (m.moved w k) z)
  pub stays : (w : W) (k : ℕ) → m.answer w k ≢ Stepped → m.moved w k ≡ w
  pub bound : (w : W) (r : R) → on w r → far w r ≤ most

-- What follows of a world, in every order: all have ended or some one can move; few steps are made; lockstep comes to
-- the end of all, and so does every choice of such that can move.
pub record AllEndFrom {W : Type 0} (m : Movers W) (most : ℕ) (w : W) : Type 0 where
  pub moves : (ks : List ℕ) → AreMovers m ks → AllEnded m (run m ks w) ⊎ SomeCanMove m (run m ks w)
  pub few : (ks : List ℕ) → AreMovers m ks → AllStep m ks w → length ks ≤ most
  pub lockstep : (d : ℕ) × (d ≤ most) × AllEnded m (run m (rounds m.count d) w)
  pub chosen : (c : Choice W) → PicksSteps m c → (x : ℕ) → (ks : List ℕ) × EndsBy m most c x w ks
