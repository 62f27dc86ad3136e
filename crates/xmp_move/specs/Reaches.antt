-- Which subscripts of a dimension a node has, in the two forms that the code tells apart (this project).
use Rattle.std.specs.Prelude.{ℕ, ◌+◌, ◌-◌, ◌*◌, ◌/◌, ◌%◌, ◌<◌, ◌≤◌, ◌≡◌, Bool, ◌&&◌, ◌==◌, nat_lt, nat_le, min, List, [], ◌∷◌, map}
use Rattle.xmp_base.specs.Limits.{size_limit, node_limit}
use Rattle.xmp_dist.specs.Count.{count_below}
use Rattle.xmp_move.specs.declared.reach.Reach.{Reach}
use Rattle.xmp_move.specs.declared.reach.Reach.TheVariants.{Span, Rounds}

-- an interval, or what a cyclic form deals out to a node
abbrev pub reaches : Reach → ℕ → Bool
reaches (Span from to) x = nat_le from x && nat_lt x to
reaches (Rounds width nodes node offset) x = (((x + offset) / width) % nodes) == node

-- the numbers of a reach over subscripts below an extent
abbrev pub ReachFits : Reach → (extent : ℕ) → Type 0
ReachFits (Span from to) e = from ≤ to
ReachFits (Rounds width nodes node offset) e = (1 ≤ width) × (width ≤ size_limit) × (node < nodes) × (nodes ≤ node_limit) × (e + offset ≤ size_limit)

-- how many smaller subscripts there are
abbrev pub position_in : Reach → ℕ → ℕ
position_in r x = count_below (reaches r) x

-- a reach has the subscripts below an extent that pass a test
pub record IsReach (r : Reach) (extent : ℕ) (test : ℕ → Bool) : Type 0 where
  pub fits : ReachFits r extent
  pub same : (x : ℕ) → x < extent → reaches r x ≡ test x
