-- A machine that counts down, to show the laws at work (this project).
use Rattle.std.specs.Prelude.{ℕ, zero, suc, ◌==◌, Bool, true, false, if◌then◌else◌, Option, Some, None}
use Rattle.xmp_steps.specs.Machine.{Next, Goes, Stops}

-- it stops at 10, and at 0, which is its end
abbrev pub countdown : ℕ → Next ℕ Bool
countdown zero = Stops true
countdown (suc n) = if n == 9 then Stops false else Goes n

-- past 10 it is resumed at 9
abbrev pub from_nine : Bool → ℕ → Option ℕ
from_nine true s = None
from_nine false s = Some 9
