-- Which positions of a dimension of a template a node holds: its own, and those in its shadow.
use Rattle.std.specs.Prelude.{ℕ, Bool, true, false, ◌+◌, ◌&&◌, ◌||◌, ◌==◌, nat_lt, nat_le}
use Rattle.xmp_dist.specs.declared.form.Dist.{Dist}
use Rattle.xmp_dist.specs.declared.form.Dist.TheVariants.{Block, Gblock}
use Rattle.xmp_dist.specs.declared.dimension.Dim.{Dim}
use Rattle.xmp_dist.specs.Table.{chunk_start, chunk_end}
use Rattle.xmp_dist.specs.Owner.{owner_inside}

-- the forms that may have a shadow
abbrev pub has_shadow : Dist → Bool
has_shadow Block = true
has_shadow (Gblock _) = true
has_shadow _ = false

-- `g` lies in the chunk from `start` to before `end`, which is not empty, or at most `low` before it or `high` after it
abbrev pub is_near : ℕ → ℕ → ℕ → ℕ → ℕ → Bool
is_near start end low high g = nat_lt start end && (nat_le start (g + low) && nat_lt g (end + high))

-- node `c` of the dimension holds position `g`: it owns it, or has it in its shadow
unfoldable pub holds_at : Dim → ℕ → ℕ → ℕ → ℕ → Bool
holds_at d c low high g =
    (owner_inside d g == c)
    || (has_shadow d.dist
    && is_near (chunk_start d.dist d.size d.nodes c) (chunk_end d.dist d.size d.nodes c) low high g)
