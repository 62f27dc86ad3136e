-- What an expression reads: a fold that keeps each expression beside its reads.
-- Source: this project; the order of evaluation of ISO C11, 6.5, decides nothing here, since reading marks nothing.
use Rattle.std.specs.Prelude.{◌&&◌, List, [], ◌∷◌, ◌++◌, map, Option, Some, None}
use Rattle.std.specs.Option.{option_map}
use Rattle.xmp_paths.specs.Plans.{Plan, skip, branch, in_order}
use Rattle.xmp_paths.specs.declared.event.Event.{Event}
use Rattle.xmp_prog.specs.declared.expressions.Expr.{Expr}
use Rattle.xmp_prog.specs.declared.expressions.Expr.TheVariants as expr
use Rattle.xmp_prog.specs.declared.expressions.Expr.TheOpen.{Expr-F, Access-F}
use Rattle.xmp_prog.specs.declared.expressions.Expr.TheFolds.{fold-Expr, fold-Access}
use Rattle.xmp_prog.specs.declared.expressions.Access.{Access}
use Rattle.xmp_flow.specs.Setting.{Setting, wrong_where, reads_scalar}
use Rattle.xmp_flow.specs.Elements.{element_read}

-- an expression beside its reads, and an element beside those of its subscripts
pub record Reading : Type 0 where
  pub expr : Expr
  pub reads : Setting → Plan Event

pub record Element : Type 0 where
  pub access : Access
  pub parts : Setting → List (Plan Event)

abbrev pub plain_expr : Expr-F Reading Element → Expr
plain_expr (Expr-F.Const v ty) = expr.Const v ty
plain_expr (Expr-F.Scalar slot at) = expr.Scalar slot at
plain_expr (Expr-F.Cell a) = expr.Cell a.access
plain_expr (Expr-F.Binary o ty a b at) = expr.Binary o ty a.expr b.expr at
plain_expr (Expr-F.Both a b) = expr.Both a.expr b.expr
plain_expr (Expr-F.Either a b) = expr.Either a.expr b.expr
plain_expr (Expr-F.Choose a b c) = expr.Choose a.expr b.expr c.expr
plain_expr (Expr-F.Convert ty a) = expr.Convert ty a.expr
plain_expr (Expr-F.Call function arguments at) = expr.Call function (map (λ a. a.expr) arguments) at
plain_expr Expr-F.Node = expr.Node
plain_expr Expr-F.Nodes = expr.Nodes

-- what happens where an element is read: its subscripts are, and then it is. No program whose plan is judged has an image.
abbrev pub reads_element : Setting → Element → Plan Event
reads_element s a = in_order (a.parts s ++ element_read s a.access.array a.access.subscripts a.access.at ∷ [])

-- the reads of an expression, from those of its operands; a call of a function that loops may not stand in a task or loop
abbrev pub reads_in : Setting → Expr-F Reading Element → Plan Event
reads_in s (Expr-F.Const v ty) = skip
reads_in s (Expr-F.Scalar slot at) = reads_scalar s slot at
reads_in s (Expr-F.Cell a) = reads_element s a
reads_in s (Expr-F.Binary o ty a b at) = in_order (a.reads s ∷ b.reads s ∷ [])
reads_in s (Expr-F.Both a b) = in_order (a.reads s ∷ branch (b.reads s) skip ∷ [])
reads_in s (Expr-F.Either a b) = in_order (a.reads s ∷ branch (b.reads s) skip ∷ [])
reads_in s (Expr-F.Choose a b c) = in_order (a.reads s ∷ branch (b.reads s) (c.reads s) ∷ [])
reads_in s (Expr-F.Convert ty a) = a.reads s
reads_in s (Expr-F.Call function arguments at) =
    in_order (map (λ a. a.reads s) arguments ++ wrong_where (s.inside && s.loops function) 9 at ∷ [])
reads_in s Expr-F.Node = skip
reads_in s Expr-F.Nodes = skip

abbrev pub reading_step : Expr-F Reading Element → Reading
reading_step e = record { expr = plain_expr e; reads = λ s. reads_in s e }

abbrev pub element_step : Access-F Reading Element → Element
element_step a = record {
  access = record { array = a.array; subscripts = map (λ e. e.expr) a.subscripts; image = option_map (λ e. e.expr) a.image; at = a.at };
  parts = λ s. map (λ e. e.reads s) a.subscripts;
}

abbrev pub reading : Expr → Reading
reading = fold-Expr Reading Element reading_step element_step

abbrev pub element : Access → Element
element = fold-Access Reading Element reading_step element_step

-- the reads of an expression, of expressions in order, of one that may be missing, and of the subscripts of an element
abbrev pub reads_of : Expr → Setting → Plan Event
reads_of e s = (reading e).reads s

abbrev pub reads_of_all : List Expr → Setting → List (Plan Event)
reads_of_all es s = map (λ e. reads_of e s) es

abbrev pub reads_of_option : Option Expr → Setting → Plan Event
reads_of_option None s = skip
reads_of_option (Some e) s = reads_of e s

abbrev pub subscript_reads : Access → Setting → List (Plan Event)
subscript_reads a s = (element a).parts s
