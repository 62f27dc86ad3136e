use Rattle.std.specs.Prelude.{◌≡◌, ◌==◌, Bool, true, false, Option, Some, None, if◌then◌else◌, nat_lt}
use Rattle.xmp_base.specs.declared.refusal.Refusal.{Refusal}

-- a stands before b, or at one place with it and has no greater rule number
abbrev pub comes_first : Refusal → Refusal → Bool
comes_first a b =
    if a.at.line == b.at.line
    then (if a.at.column == b.at.column then (if nat_lt b.rule a.rule then false else true) else nat_lt a.at.column b.at.column)
    else nat_lt a.at.line b.at.line

-- what was found is the first refusal of those in P, or there is none in P
abbrev pub IsFirst : (Refusal → Type 0) → Option Refusal → Type 0
IsFirst P None = (other : Refusal) → P other → ⊥
IsFirst P (Some r) = P r × ((other : Refusal) → P other → comes_first r other ≡ true)

-- the first of both
abbrev pub first_of : Option Refusal → Option Refusal → Option Refusal
first_of None b = b
first_of (Some a) None = Some a
first_of (Some a) (Some b) = if comes_first a b then Some a else Some b
