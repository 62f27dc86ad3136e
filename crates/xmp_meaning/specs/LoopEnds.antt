-- The end of a loop directive, from the ends of its parts (XcalableMP 1.4, reduction clause; that the iteration which
-- comes first in the program's order gives the trap is this project's).
use Rattle.std.specs.Prelude.{if◌then◌else◌, Bool, false, List, [], ◌∷◌, map, ℤ, int_lt, Option, Some, None}
use Rattle.std.specs.Ordering.{int_eq}
use Rattle.xmp_num.specs.Reduction.{combine_of, unit_of}
use Rattle.xmp_prog.specs.declared.parts.ProgParts.{ProgParts}
use Rattle.xmp_prog.specs.declared.statements.Name.{Name}
use Rattle.xmp_prog.specs.declared.statements.Reduction.{Reduction}
use Rattle.xmp_meaning.specs.declared.ends.End.{End}
use Rattle.xmp_meaning.specs.declared.ends.Flow.{Flow}
use Rattle.xmp_meaning.specs.declared.ends.Flow.TheVariants.{Next}
use Rattle.xmp_meaning.specs.Runs.{RunIn, Run, ◌>>=◌, pure, stop, set_scalar}
use Rattle.xmp_meaning.specs.Declarations.{scalar_type}
use Rattle.xmp_meaning.specs.Exchanges.{PartEnd}

-- in the order of the loops: the outermost index decides first
abbrev pub comes_before : List ℤ → List ℤ → Bool
comes_before (a ∷ vs) (b ∷ bs) = if int_eq a b then comes_before vs bs else int_lt a b
comes_before vs [] = false
comes_before [] (b ∷ bs) = false

-- the values of two parts combined, variable by variable
abbrev pub combined : ProgParts → List Reduction → List ℤ → List ℤ → List ℤ
combined p (r ∷ rs) (a ∷ vs) (b ∷ bs) = combine_of r.op (scalar_type p r.variable.number) a b ∷ combined p rs vs bs
combined p [] vs bs = []
combined p (r ∷ rs) [] bs = []
combined p (r ∷ rs) (a ∷ vs) [] = []

-- the values that no part has changed
abbrev pub units : ProgParts → List Reduction → List ℤ
units p rs = map (λ r. unit_of r.op (scalar_type p r.variable.number)) rs

abbrev pub joined_by : Option End → Option End → ProgParts → List Reduction → PartEnd → PartEnd → PartEnd
joined_by None None p rs a b = record a { values = combined p rs a.values b.values }
joined_by None (Some f) p rs a b = b
joined_by (Some e) None p rs a b = a
joined_by (Some e) (Some f) p rs a b = if comes_before b.indices a.indices then b else a

-- Two ends joined: the values combined where both parts came to their end; else the end of the iteration that comes
-- first.
abbrev pub joined : ProgParts → List Reduction → PartEnd → PartEnd → PartEnd
joined p rs a b = joined_by a.ended b.ended p rs a b

-- the same of all, in the order of the nodes
abbrev pub all_joined : ProgParts → List Reduction → PartEnd → List PartEnd → PartEnd
all_joined p rs so_far [] = so_far
all_joined p rs so_far (e ∷ es) = all_joined p rs (joined p rs so_far e) es

-- the end of a part without a turn
abbrev pub no_turn : ProgParts → List Reduction → PartEnd
no_turn p rs = record { ended = None; indices = []; values = units p rs }

-- ---- what follows

-- the values into the variables, in order
abbrev pub set_all : {X : Type 0} → List Name → List ℤ → Run X Flow
set_all (n ∷ ns) (v ∷ vs) = do
  _ ← set_scalar n.number v
  set_all ns vs
set_all [] vs = pure Next
set_all (n ∷ ns) [] = pure Next

-- the run ends so, or goes on
abbrev pub ending : {S : Type 0} → Option End → RunIn S Flow → RunIn S Flow
ending None go = go
ending (Some e) go = stop e

-- the trap, or the combined values into the reduction variables
abbrev pub closed : {X : Type 0} → List Reduction → PartEnd → Run X Flow
closed rs e = ending e.ended (set_all (map (λ r. r.variable) rs) e.values)
