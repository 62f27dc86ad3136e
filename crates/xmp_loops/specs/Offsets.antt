-- At which offset from the iteration's own element a loop directive accesses an array that is aligned with its template.
-- Source: this project, after the on clause of the loop construct and the align directive of XcalableMP 1.4.
use Rattle.std.specs.Prelude.{ℕ, ◌==◌, Bool, false, ◌&&◌, not, List, [], ◌∷◌, slice_get, ℤ, pos, neg_ℤ, ◌+ℤ◌, ◌-ℤ◌, ◌≤ℤ◌, int_le, Option, Some, None, if◌then◌else◌}
use Rattle.std.specs.Option.{option_map}
use Rattle.xmp_num.specs.declared.types.BinOp.{BinOp}
use Rattle.xmp_num.specs.declared.types.BinOp.TheVariants as op
use Rattle.xmp_map.specs.declared.spread_dim.SpreadDim.{SpreadDim}
use Rattle.xmp_map.specs.declared.aligned.AlignedDim.{AlignedDim}
use Rattle.xmp_map.specs.declared.array_map.ArrayMap.{ArrayMap}
use Rattle.xmp_map.specs.Spread.{is_whole}
use Rattle.xmp_map.specs.Align.{under}
use Rattle.xmp_prog.specs.declared.expressions.Expr.{Expr, out-Expr}
use Rattle.xmp_prog.specs.declared.expressions.Expr.TheOpen.{Expr-F}
use Rattle.xmp_prog.specs.declared.expressions.Access.{Access}
use Rattle.xmp_prog.specs.declared.statements.Point.{Point}
use Rattle.xmp_prog.specs.declared.statements.Point.TheVariants as point
use Rattle.xmp_prog.specs.declared.statements.LoopDirective.{LoopDirective}

-- an offset along one dimension, beside the array's shadow widths there, below and above
pub record Offset : Type 0 where
  pub by : ℤ
  pub low : ℕ
  pub high : ℕ

-- the constant that an expression is, of at most 4,194,304 in size
abbrev pub small : ℤ → Option ℤ
small c = if int_le (neg_ℤ (pos 4194304)) c && int_le c (pos 4194304) then Some c else None

-- what is then known of its size
abbrev pub IsSmall : ℤ → Type 0
IsSmall c = (neg_ℤ (pos 4194304) ≤ℤ c) × (c ≤ℤ pos 4194304)

abbrev pub constant_in : Expr-F Expr Access → Option ℤ
constant_in (Expr-F.Const v ty) = small v
constant_in _ = None

abbrev pub constant_of : Expr → Option ℤ
constant_of e = constant_in (out-Expr e)

-- whether an expression is the index itself
abbrev pub is_index : ℕ → Expr-F Expr Access → Bool
is_index i (Expr-F.Scalar slot at) = slot == i
is_index i _ = false

-- what a subscript adds to the index: it is `i`, `i + c` or `i - c`
abbrev pub shift_by : BinOp → Option ℤ → Option ℤ
shift_by op.Add c = c
shift_by op.Sub c = option_map neg_ℤ c
shift_by _ c = None

abbrev pub shift_in : ℕ → Expr-F Expr Access → Option ℤ
shift_in i (Expr-F.Scalar slot at) = if slot == i then Some (pos 0) else None
shift_in i (Expr-F.Binary o ty a b at) = if is_index i (out-Expr a) then shift_by o (constant_of b) else None
shift_in i _ = None

abbrev pub shift_of : ℕ → Expr → Option ℤ
shift_of i e = shift_in i (out-Expr e)

-- the offset along a dimension: the subscript's constant, with that of the align, less that of the directive's point
abbrev pub offset_at : AlignedDim → Option Expr → Option Point → Option Offset
offset_at l (Some e) (Some (point.Index slot f)) =
    option_map (λ c. record { by = (c +ℤ l.target.offset) -ℤ f; low = l.low; high = l.high }) (shift_of slot e)
offset_at l _ _ = None

-- the point of a loop directive for a dimension of its template
abbrev pub point_for : LoopDirective → Option ℕ → Option Point
point_for d None = None
point_for d (Some k) = slice_get d.points k

-- whether a dimension of an array lies on a distributed one of its template
abbrev pub is_distributed : Option SpreadDim → Bool
is_distributed None = false
is_distributed (Some s) = not (is_whole s.dim.dist)

-- one more offset in front
abbrev pub with_offset : Option Offset → Option (List Offset) → Option (List Offset)
with_offset (Some o) (Some rest) = Some (o ∷ rest)
with_offset _ _ = None

-- the offsets along the distributed dimensions of an array, or none where a subscript there isn't of the form
abbrev pub offsets_along : LoopDirective → List SpreadDim → List AlignedDim → List Expr → Option (List Offset)
offsets_along d ss [] subscripts = Some []
offsets_along d ss (l ∷ ls) [] =
    if is_distributed (under ss l.target.dim) then None else offsets_along d ss ls []
offsets_along d ss (l ∷ ls) (e ∷ es) =
    if is_distributed (under ss l.target.dim)
    then with_offset (offset_at l (Some e) (point_for d l.target.dim)) (offsets_along d ss ls es)
    else offsets_along d ss ls es

abbrev pub offsets_of : LoopDirective → ArrayMap → List Expr → Option (List Offset)
offsets_of d map subscripts = offsets_along d map.template.spread map.aligned subscripts

-- whether an offset is 0, and whether it lies within the shadow
abbrev pub is_own : Offset → Bool
is_own o = int_le o.by (pos 0) && int_le (pos 0) o.by

abbrev pub is_within : Offset → Bool
is_within o = int_le (neg_ℤ (pos o.low)) o.by && int_le o.by (pos o.high)
