-- At most one number of steps leads to a stop.
use Rattle.std.specs.Prelude.{true, is_some}
use Rattle.std.specs.Coded.{×_prop, Coded-set, coded_ℕ, coded_bool}
use mathlib.Core.HLevel.{Σ_prop_path}
use Rattle.xmp_steps.specs.Machine.{Next, within, left, Ends}
use Rattle.xmp_steps.specs.Stops.{alike}

pub Ends-prop : {S P : Type 0} (next : S → Next S P) (s : S) → IsProp (Ends next s)
Ends-prop next s u v = Σ_prop_path (λ n. ×_prop (Coded-set coded_bool (is_some (within next n s)) true) (Coded-set coded_ℕ (left next n s) n)) (alike next s u v)
