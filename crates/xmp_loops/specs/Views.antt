-- What the tables, offsets and forms of the code say.
use Rattle.std.specs.Prelude.{true, ◌&&◌, List, [], ◌∷◌, Option, Some, None, if◌then◌else◌}
use Rattle.std.specs.List.{list_all}
use Rattle.std.specs.Option.{option_map}
use Rattle.xmp_map.specs.Align.{under}
use Rattle.xmp_map.specs.declared.aligned.AlignedDim.{AlignedDim}
use Rattle.xmp_map.specs.declared.spread_dim.SpreadDim.{SpreadDim}
use Rattle.xmp_prog.specs.declared.expressions.Expr.{Expr}
use Rattle.xmp_prog.specs.declared.statements.LoopDirective.{LoopDirective}
use Rattle.xmp_loops.specs.Offsets.{Offset, is_own, is_within, is_distributed, offset_at, point_for}
use Rattle.xmp_loops.specs.declared.offsets.Reach.{Reach}
use Rattle.xmp_loops.specs.declared.forms.Form.{Form}
use Rattle.xmp_loops.specs.declared.forms.Form.TheVariants.{Beside, One, Two}

-- of the offsets along the dimensions of an array: whether each is 0, and whether each lies within the shadow
abbrev pub reach : List Offset → Reach
reach os = record { own = list_all is_own os; within = list_all is_within os }

abbrev pub reach_of : Option (List Offset) → Option Reach
reach_of os = option_map reach os

-- of one dimension, and of two parts of the dimensions
abbrev pub reach_one : Offset → Reach
reach_one o = record { own = is_own o; within = is_within o }

abbrev pub reach_along : LoopDirective → List SpreadDim → AlignedDim → Option Expr → Option Reach
reach_along d ss l e =
    if is_distributed (under ss l.target.dim)
    then option_map reach_one (offset_at l e (point_for d l.target.dim))
    else Some (record { own = true; within = true })

abbrev pub join_reach : Option Reach → Option Reach → Option Reach
join_reach (Some a) (Some b) = Some (record { own = a.own && b.own; within = a.within && b.within })
join_reach _ _ = None

-- the expressions that a form reads
abbrev pub read_by : Form → Option (List Expr)
read_by Beside = None
read_by (One e) = Some (e.now ∷ [])
read_by (Two e x) = Some (e.now ∷ x.now ∷ [])
