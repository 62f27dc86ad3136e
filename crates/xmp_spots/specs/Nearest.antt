-- The first of some refusals, by the images that they are for.
use Rattle.std.specs.Prelude.{Bool, true, Option, Some, None, if◌then◌else◌}
use Rattle.xmp_base.specs.declared.refusal.Refusal.{Refusal}
use Rattle.xmp_base.specs.First.{comes_first, first_of}

-- whether a refusal is the first of both, where there is another
abbrev pub leads : Refusal → Option Refusal → Bool
leads r None = true
leads r (Some other) = comes_first r other

-- the first with one more, where it counts
abbrev pub noted : Bool → Refusal → Option Refusal → Option Refusal
noted counts r found = if counts then first_of found (Some r) else found
