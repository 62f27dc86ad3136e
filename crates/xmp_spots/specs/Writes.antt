-- How often scalars are written, as the code notes it.
use Rattle.std.specs.Prelude.{ℕ, ◌≡◌, ◌==◌, ◌≤◌, nat_le, List, length, filter}
use Rattle.xmp_prog.specs.Numbers.{is_in}
use Rattle.xmp_prog.specs.declared.parts.ProgParts.{ProgParts}
use Rattle.xmp_spots.specs.declared.writes.Writes.{Writes}
use Rattle.xmp_spots.specs.Variables.{written_by}

-- how often a number stands in a list
abbrev pub times_in : List ℕ → ℕ → ℕ
times_in ns n = length (filter (λ m. m == n) ns)

-- some are those that stand in the list, and more those that stand in it twice or more
pub record CountsIn (slots : List ℕ) (w : Writes) : Type 0 where
  pub some : (n : ℕ) → is_in w.some n ≡ nat_le 1 (times_in slots n)
  pub more : (n : ℕ) → is_in w.more n ≡ nat_le 2 (times_in slots n)

-- they are those of a program
abbrev pub IsCounted : ProgParts → Writes → Type 0
IsCounted p w = CountsIn (written_by p) w
