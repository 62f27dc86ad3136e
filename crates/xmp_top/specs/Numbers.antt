-- Numbers on a command line.
use Rattle.std.specs.Prelude.{◌≡◌, ◌≤◌, ℕ, List, length, true}
use Rattle.std.specs.Str.{all_ascii_digits}
use Rattle.std.specs.Str.Parse.{digits_value}

-- One to twenty decimal digits, worth n, which lies in the range. Zeros may lead.
pub record IsNumber (low high : ℕ) (digits : List ℕ) (n : ℕ) : Type 0 where
  pub some : 1 ≤ length digits
  pub few : length digits ≤ 20
  pub all : all_ascii_digits digits ≡ true
  pub worth : digits_value 10 digits ≡ n
  pub least : low ≤ n
  pub most : n ≤ high
