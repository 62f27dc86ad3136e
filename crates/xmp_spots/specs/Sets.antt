-- What the tables of a set find at a key.
use Rattle.std.specs.Prelude.{◌≡◌, List, filter, Option, None, fold}
use Rattle.xmp_base.specs.declared.refusal.Refusal.{Refusal}
use Rattle.xmp_spots.specs.declared.touches.By.{By}
use Rattle.xmp_spots.specs.declared.touches.Touch.{Touch}
use Rattle.xmp_spots.specs.declared.keys.Key.{Key}
use Rattle.xmp_spots.specs.declared.table.Table.{Table}
use Rattle.xmp_spots.specs.Nearest.{noted}
use Rattle.xmp_spots.specs.Tables.{found}
use Rattle.xmp_spots.specs.Entering.{entered}
use Rattle.xmp_spots.specs.Races.{refused}

-- the first refusal of these accesses that is found by the key, for an image other than one of those
abbrev pub first_found : List Touch → Key → By → Option Refusal
first_found touches k q = fold (λ x t. noted (entered t.array t.spots k q) (refused t) x) None touches

-- the table finds these accesses
abbrev pub Finds : Table → List Touch → Type 0
Finds table touches = (k : Key) (q : By) → found table k q ≡ first_found touches k q

-- one table finds the accesses, and another those that write
abbrev pub FindBoth : List Touch → (all writers : Table) → Type 0
FindBoth touches all writers = Finds all touches × Finds writers (filter (λ t. t.writes) touches)
