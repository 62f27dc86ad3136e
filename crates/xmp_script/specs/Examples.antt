-- Three images, of which each writes its number to the word of the next, and reads its own behind a sync (this
-- project).
use Rattle.std.specs.Prelude.{◌≡◌, ℕ, zero, suc, ◌+◌, ◌%◌, ◌≤◌, ◌==◌, if◌then◌else◌, List, [], ◌∷◌}
use Rattle.std.proofs.Common.{refl, arith}
use Rattle.xmp_orders.specs.Choices.{Choice, first_able}
use Rattle.xmp_script.specs.Script.{Access, Get, Put, Script}
use Rattle.xmp_script.specs.Images.{Images, Stand, AtAccess, AtSync, AtEnd, Standing}
use Rattle.xmp_script.specs.Laws.{movers_of}

-- the image behind image k, counted round
abbrev pub neighbour : ℕ → ℕ
neighbour k = if k == 2 then 0 else suc k

abbrev pub handed : ℕ → ℕ → List (Access ℕ)
handed zero k = Put (neighbour k) k ∷ []
handed (suc zero) k = Get k ∷ []
handed (suc (suc q)) k = []

pub handed_ends : (q k : ℕ) → 2 ≤ q → handed q k ≡ []
handed_ends zero k le = absurd (omega arith)
handed_ends (suc zero) k le = absurd (omega arith)
handed_ends (suc (suc q)) k le = refl

-- the script: all words are 9 at the start
abbrev pub round_robin : Script ℕ
round_robin = record { start = λ e. 9; images = 3; phases = 2; accesses = handed; ends = handed_ends }

-- an image that keeps what it finds
pub record Keeper : Type 0 where
  pub image : ℕ
  pub stops : ℕ
  pub value : ℕ

abbrev pub keeper_stands : ℕ → ℕ → Stand ℕ
keeper_stands zero k = AtAccess (Put (neighbour k) k)
keeper_stands (suc zero) k = AtSync
keeper_stands (suc (suc zero)) k = AtAccess (Get k)
keeper_stands (suc (suc (suc n))) k = AtEnd

-- it writes, syncs, reads and ends
abbrev pub keepers : Images Keeper ℕ
keepers = record {
  begin = λ k. record { image = k; stops = 0; value = 0 };
  go = λ x. x;
  stands = λ x. keeper_stands x.stops x.image;
  answer = λ x v. record x { stops = suc x.stops; value = v };
  pass = λ x. record x { stops = suc x.stops };
}

-- the first that can move, from each of them on in turn
abbrev pub in_turn : Choice (Standing Keeper ℕ)
in_turn = first_able (movers_of keepers round_robin) (λ x. x % 3) (λ x. x + 1)
