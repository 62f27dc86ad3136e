-- Numbers of directives and declarations: which are extents, sizes, bounds and constants, and the sizes of what is declared.
-- Source: this project.
use Rattle.std.specs.Prelude.{ℕ, ◌+◌, List, ◌∷◌, [], ℤ, pos, negsuc, neg_ℤ, ◌+ℤ◌, ◌-ℤ◌, int_le, nat_le, Bool, false, ◌&&◌, if◌then◌else◌, Option, Some, None, slice_get}
use Rattle.std.specs.Option.{unwrap_or}
use Rattle.xmp_base.specs.Limits.{offset_limit}
use Rattle.xmp_names.specs.declared.names.Array as array
use Rattle.xmp_names.specs.declared.mappings.NodesLine.{NodesLine}
use Rattle.xmp_names.specs.declared.world.World.{World}

-- Whether a number is an extent or a size: 1 to 4,194,304.
abbrev pub most_cells : ℕ
most_cells = 4194304

abbrev pub is_extent : ℤ → Bool
is_extent (pos n) = nat_le 1 n && nat_le n most_cells
is_extent (negsuc n) = false

-- Whether a constant is at most 4,194,304 in size. One that isn't is kept as the next number.
abbrev pub is_small : ℤ → Bool
is_small c = int_le c (pos most_cells) && int_le (neg_ℤ (pos most_cells)) c

abbrev pub limited : ℤ → ℤ
limited c = if is_small c then c else pos (most_cells + 1)

-- Whether a template's bound is at most 8,388,608 in size.
abbrev pub is_bound : ℤ → Bool
is_bound b = int_le b (pos offset_limit) && int_le (neg_ℤ (pos offset_limit)) b

-- How many coordinates lie from one bound to another. Bounds beyond 8,388,608 in size have none between them.
abbrev pub range_size : ℤ → ℤ → ℤ
range_size lower upper = if is_bound lower && is_bound upper then upper -ℤ lower +ℤ pos 1 else pos 0

-- The lower bound of a dimension; 0 of one that isn't there.
abbrev pub lower_at : List ℤ → ℕ → ℤ
lower_at lowers k = unwrap_or (slice_get lowers k) (pos 0)

-- A constant less the lower bound of its dimension, as it is held. Where one of them is beyond 4,194,304 in size, which
-- breaks a rule, 0 stands for it.
abbrev pub held : ℤ → ℤ → ℤ
held lower c = if is_small lower && is_small c then c -ℤ lower else pos 0

-- A number that isn't negative, and 0 for one that is.
abbrev pub natural : ℤ → ℕ
natural (pos n) = n
natural (negsuc n) = 0

-- The sizes of a nodes array; `*` has the given number of nodes, or 1.
abbrev pub given_or_one : World → ℕ
given_or_one w = unwrap_or w.given 1

abbrev pub line_sizes : ℕ → NodesLine → List ℤ
line_sizes given l = unwrap_or l.sizes (pos given ∷ [])

-- The extents of an array; none of one that isn't declared.
abbrev pub extents_in : Option array.Array → List ℕ
extents_in None = []
extents_in (Some a) = a.extents
