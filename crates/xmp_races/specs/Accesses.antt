-- What happens where an expression is evaluated: a fold that keeps each expression beside it. Source: this project, after
-- XcalableMP 1.4, coarrays.
use Rattle.std.specs.Prelude.{Bool, true, false, if◌then◌else◌, List, [], ◌∷◌, ◌++◌, map, Option, Some, None}
use Rattle.std.specs.Option.{option_map}
use Rattle.xmp_paths.specs.Plans.{Plan, skip, emit, branch}
use Rattle.xmp_prog.specs.declared.expressions.Expr.{Expr}
use Rattle.xmp_prog.specs.declared.expressions.Expr.TheVariants as expr
use Rattle.xmp_prog.specs.declared.expressions.Expr.TheOpen.{Expr-F, Access-F}
use Rattle.xmp_prog.specs.declared.expressions.Expr.TheFolds.{fold-Expr, fold-Access}
use Rattle.xmp_prog.specs.declared.expressions.Access.{Access}
use Rattle.xmp_meaning.specs.Declarations.{is_coarray}
use Rattle.xmp_spots.specs.declared.touches.Touch.{Touch}
use Rattle.xmp_spots.specs.declared.events.Event.{Event}
use Rattle.xmp_spots.specs.declared.events.Event.TheVariants.{Touches}
use Rattle.xmp_spots.specs.Courses.{in_sequence}
use Rattle.xmp_races.specs.Footprints.{Whose, whose, is_elsewhere, spots}
use Rattle.xmp_races.specs.Setting.{Setting, values_at, where_chosen, wrong_where}

-- ---- one access

-- whose cells an element means
abbrev pub whose_at : Setting → Access → Whose
whose_at s a = whose s.count s.values s.loops a.image

-- what is touched by it
abbrev pub touch_of : Setting → (writes : Bool) → Access → Touch
touch_of s writes a = record {
  array = a.array;
  writes = writes;
  spots = spots s.count s.counts (whose_at s a) (map (values_at s) a.subscripts);
  at = a.at;
}

-- an element is read or written: of a coarray that is an access, whose image may be none (rule C3)
abbrev pub access_events : Setting → (writes : Bool) → Access → List (Plan Event)
access_events s writes a =
    if is_coarray s.program a.array
    then wrong_where (is_elsewhere s.count s.counts (whose_at s a)) 3 a.at ∷ emit (Touches (touch_of s writes a)) ∷ []
    else []

-- ---- expressions

-- an expression beside what happens, and an element beside what happens in its subscripts and its image
pub record Evaluated : Type 0 where
  pub expr : Expr
  pub events : Setting → Plan Event

pub record Element : Type 0 where
  pub access : Access
  pub parts : Setting → List (Plan Event)

abbrev pub plain_expr : Expr-F Evaluated Element → Expr
plain_expr (Expr-F.Const v ty) = expr.Const v ty
plain_expr (Expr-F.Scalar slot at) = expr.Scalar slot at
plain_expr (Expr-F.Cell a) = expr.Cell a.access
plain_expr (Expr-F.Binary o ty a b at) = expr.Binary o ty a.expr b.expr at
plain_expr (Expr-F.Both a b) = expr.Both a.expr b.expr
plain_expr (Expr-F.Either a b) = expr.Either a.expr b.expr
plain_expr (Expr-F.Choose a b c) = expr.Choose a.expr b.expr c.expr
plain_expr (Expr-F.Convert ty a) = expr.Convert ty a.expr
plain_expr (Expr-F.Call function arguments at) = expr.Call function (map (λ a. a.expr) arguments) at
plain_expr Expr-F.Node = expr.Node
plain_expr Expr-F.Nodes = expr.Nodes

-- what happens in an expression, from its operands. Only `?:` chooses among the images; a call of a function with an
-- uncounted loop breaks rule C4.
abbrev pub events_in : Setting → Expr-F Evaluated Element → Plan Event
events_in s (Expr-F.Const v ty) = skip
events_in s (Expr-F.Scalar slot at) = skip
events_in s (Expr-F.Cell a) = in_sequence (a.parts s ++ access_events s false a.access)
events_in s (Expr-F.Binary o ty a b at) = in_sequence (a.events s ∷ b.events s ∷ [])
events_in s (Expr-F.Both a b) = in_sequence (a.events s ∷ branch (b.events s) skip ∷ [])
events_in s (Expr-F.Either a b) = in_sequence (a.events s ∷ branch (b.events s) skip ∷ [])
events_in s (Expr-F.Choose a b c) =
    in_sequence (a.events s ∷ branch (b.events (where_chosen s a.expr true)) (c.events (where_chosen s a.expr false)) ∷ [])
events_in s (Expr-F.Convert ty a) = a.events s
events_in s (Expr-F.Call function arguments at) =
    in_sequence (map (λ a. a.events s) arguments ++ wrong_where (s.looping function) 4 at ∷ [])
events_in s Expr-F.Node = skip
events_in s Expr-F.Nodes = skip

abbrev pub expr_step : Expr-F Evaluated Element → Evaluated
expr_step e = record { expr = plain_expr e; events = λ s. events_in s e }

-- the image, where one is written, behind the subscripts
abbrev pub with_image : Setting → Option Evaluated → List (Plan Event)
with_image s None = []
with_image s (Some e) = e.events s ∷ []

abbrev pub element_step : Access-F Evaluated Element → Element
element_step a = record {
  access = record { array = a.array; subscripts = map (λ e. e.expr) a.subscripts; image = option_map (λ e. e.expr) a.image; at = a.at };
  parts = λ s. map (λ e. e.events s) a.subscripts ++ with_image s a.image;
}

abbrev pub evaluated : Expr → Evaluated
evaluated = fold-Expr Evaluated Element expr_step element_step

abbrev pub element : Access → Element
element = fold-Access Evaluated Element expr_step element_step

-- what happens in an expression, in expressions in order, in one that may be missing, and in the parts of an element
abbrev pub events_of : Expr → Setting → Plan Event
events_of e s = (evaluated e).events s

abbrev pub events_of_all : List Expr → Setting → List (Plan Event)
events_of_all es s = map (λ e. events_of e s) es

abbrev pub events_of_option : Option Expr → Setting → List (Plan Event)
events_of_option None s = []
events_of_option (Some e) s = events_of e s ∷ []

abbrev pub parts_of : Access → Setting → List (Plan Event)
parts_of a s = (element a).parts s
