-- Which node owns a position, for each form of a distribution (XcalableMP 1.4, the distribute directive).
-- A position is a number from 0 to the size less 1. These speak of the parts of a dimension, and not of a `Dim`.
use Rattle.std.specs.Prelude.{ℕ, Bool, true, false, ◌+◌, ◌-◌, ◌*◌, ◌/◌, ◌%◌, sum, nat_lt, min, List, [], ◌∷◌, take, if◌then◌else◌}
use Rattle.std.specs.Int.{div_ceil}
use Rattle.xmp_dist.specs.declared.form.Dist.{Dist}
use Rattle.xmp_dist.specs.declared.form.Dist.TheVariants.{Whole, Block, Cyclic, Gblock}
use Rattle.xmp_dist.specs.declared.form.Lengths.{Lengths}

-- the lengths that are meant
abbrev pub lengths_of : Lengths → List ℕ
lengths_of lengths = take lengths.count lengths.values

-- the number of the chunk that has `g`, where chunks of these lengths lie end to end
unfoldable pub chunk_of : List ℕ → ℕ → ℕ
chunk_of [] g = 0
chunk_of (m ∷ ms) g = if nat_lt g m then 0 else (1 + chunk_of ms (g - m))

-- the owner of position `g`
abbrev pub owner_by : Dist → ℕ → ℕ → ℕ → ℕ
owner_by Whole size nodes g = 0
owner_by Block size nodes g = g / div_ceil size nodes
owner_by (Cyclic width) size nodes g = (g / width) % nodes
owner_by (Gblock lengths) size nodes g = chunk_of (lengths_of lengths) g

-- whether the positions of each node are an interval, its chunk
abbrev pub is_chunked : Dist → Bool
is_chunked (Cyclic _) = false
is_chunked _ = true

-- where the chunk of node `c` begins
abbrev pub chunk_start : Dist → ℕ → ℕ → ℕ → ℕ
chunk_start Whole size nodes c = 0
chunk_start Block size nodes c = min size (c * div_ceil size nodes)
chunk_start (Cyclic _) size nodes c = 0
chunk_start (Gblock lengths) size nodes c = sum (take c (lengths_of lengths))

-- where it ends: the first position after it
abbrev pub chunk_end : Dist → ℕ → ℕ → ℕ → ℕ
chunk_end Whole size nodes c = size
chunk_end Block size nodes c = min size (c * div_ceil size nodes + div_ceil size nodes)
chunk_end (Cyclic _) size nodes c = 0
chunk_end (Gblock lengths) size nodes c = sum (take (c + 1) (lengths_of lengths))
