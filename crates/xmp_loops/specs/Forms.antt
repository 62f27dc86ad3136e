-- The forms in which a reduction variable may stand. Source: this project, after the reduction clause of XcalableMP 1.4.
use Rattle.std.specs.Prelude.{ℕ, ◌==◌, Bool, true, false, not, ◌&&◌, ◌||◌, List, [], ◌∷◌, slice_get, Option, Some, None, if◌then◌else◌}
use Rattle.std.specs.List.{list_any}
use Rattle.std.specs.Option.{unwrap_or}
use Rattle.xmp_base.specs.declared.place.Place.{Place}
use Rattle.xmp_num.specs.Arithmetic.{wrap}
use Rattle.xmp_num.specs.declared.types.Ty.{Ty}
use Rattle.xmp_num.specs.declared.types.Ty.TheVariants.{Int}
use Rattle.xmp_num.specs.declared.types.BinOp.{BinOp}
use Rattle.xmp_num.specs.declared.types.BinOp.TheVariants as op
use Rattle.xmp_num.specs.declared.types.RedOp.{RedOp}
use Rattle.xmp_num.specs.declared.types.RedOp.TheVariants as red
use Rattle.xmp_prog.specs.Numbers.{same_type}
use Rattle.xmp_prog.specs.Terms.{type_of}
use Rattle.xmp_prog.specs.declared.expressions.Expr.{Expr, out-Expr}
use Rattle.xmp_prog.specs.declared.expressions.Expr.TheVariants as expr
use Rattle.xmp_prog.specs.declared.expressions.Expr.TheOpen.{Expr-F, Access-F}
use Rattle.xmp_prog.specs.declared.expressions.Expr.TheFolds.{fold-Expr, fold-Access}
use Rattle.xmp_prog.specs.declared.expressions.Access.{Access}
use Rattle.xmp_prog.specs.declared.statements.Compound.{Compound}
use Rattle.xmp_prog.specs.declared.statements.Target.TheVariants as target
use Rattle.xmp_prog.specs.declared.statements.Plain.{Plain}
use Rattle.xmp_prog.specs.declared.statements.Plain.TheVariants as plain
use Rattle.xmp_prog.specs.declared.statements.Stmt.{Stmt}
use Rattle.xmp_prog.specs.declared.statements.Stmt.TheOpen.{Stmt-F}
use Rattle.xmp_prog.specs.declared.statements.Task.{Task}
use Rattle.xmp_prog.specs.declared.parts.ProgParts.{ProgParts}
use Rattle.xmp_loops.specs.Same.{same, same_operator}

-- an expression in a type, as an operand has it: itself where it is of the type, and else a constant of it or a conversion
abbrev pub in_other_type : Ty → Expr → Expr-F Expr Access → Expr
in_other_type ty e (Expr-F.Const v t) = expr.Const (wrap ty v) ty
in_other_type ty e _ = expr.Convert ty e

abbrev pub in_type : ProgParts → Ty → Expr → Expr
in_type p ty e = if same_type (type_of p e) ty then e else in_other_type ty e (out-Expr e)

-- the type of a scalar, and whether an expression names it
abbrev pub scalar_type : ProgParts → ℕ → Ty
scalar_type p v = unwrap_or (slice_get p.scalars v) Int

abbrev pub names_step : ℕ → Expr-F Bool Bool → Bool
names_step v (Expr-F.Const x ty) = false
names_step v (Expr-F.Scalar slot at) = slot == v
names_step v (Expr-F.Cell a) = a
names_step v (Expr-F.Binary o ty a b at) = a || b
names_step v (Expr-F.Both a b) = a || b
names_step v (Expr-F.Either a b) = a || b
names_step v (Expr-F.Choose a b c) = a || (b || c)
names_step v (Expr-F.Convert ty a) = a
names_step v (Expr-F.Call function arguments at) = list_any (λ a. a) arguments
names_step v Expr-F.Node = false
names_step v Expr-F.Nodes = false

abbrev pub names_access : Access-F Bool Bool → Bool
names_access a = list_any (λ e. e) a.subscripts || unwrap_or a.image false

abbrev pub names : ℕ → Expr → Bool
names v = fold-Expr Bool Bool (names_step v) names_access

-- whether an operator is that of a reduction
abbrev pub is_operator : RedOp → BinOp → Bool
is_operator red.Add o = same_operator op.Add o
is_operator red.Mul o = same_operator op.Mul o
is_operator red.And o = same_operator op.And o
is_operator red.Or o = same_operator op.Or o
is_operator red.Xor o = same_operator op.Xor o
is_operator red.Max o = false
is_operator red.Min o = false

-- whether `x o v`, or `v o x`, says that x goes before v as a maximum or a minimum
abbrev pub goes_before : RedOp → BinOp → Bool
goes_before red.Max o = same_operator op.Greater o
goes_before red.Min o = same_operator op.Less o
goes_before _ o = false

abbrev pub goes_behind : RedOp → BinOp → Bool
goes_behind red.Max o = same_operator op.Less o
goes_behind red.Min o = same_operator op.Greater o
goes_behind _ o = false

-- A form is given by the expressions that it reads. None of them names the variable.
abbrev pub if_apart : ℕ → Bool → List Expr → Expr → Option (List Expr)
if_apart v test es x = if test && not (names v x) then Some es else None

-- the variable, at any place
abbrev pub variable : ℕ → Place → Expr
variable v at = expr.Scalar v at

-- what a test compares with the variable, in the variable's type: `x > v` or `v < x` for a maximum
abbrev pub compared : ProgParts → ℕ → RedOp → Expr-F Expr Access → Option Expr
compared p v r (Expr-F.Binary o ty a b at) =
    if same_type ty (scalar_type p v) && (goes_before r o && same b (variable v at))
    then Some a
    else (if same_type ty (scalar_type p v) && (goes_behind r o && same a (variable v at)) then Some b else None)
compared p v r _ = None

-- `q ? x : v`
abbrev pub chosen_form : ℕ → Place → Expr → Expr → Option Expr → Option (List Expr)
chosen_form v at x w None = None
chosen_form v at x w (Some y) = if_apart v (same y x && same w (variable v at)) (y ∷ x ∷ []) x

-- whether the variable's type is no wider than that of an operation: else a cast that is written narrows it there
abbrev pub fits_in : ProgParts → ℕ → Ty → Bool
fits_in p v ty = same_type (scalar_type p v) ty || same_type (scalar_type p v) Int

-- `v = v o x` and `v = q ? x : v`
abbrev pub value_form : ProgParts → ℕ → RedOp → Place → Expr-F Expr Access → Option (List Expr)
value_form p v r here (Expr-F.Binary o ty a x at) =
    if_apart v (is_operator r o && (fits_in p v ty && same a (in_type p ty (variable v at)))) (x ∷ []) x
value_form p v r here (Expr-F.Choose q x w) = chosen_form v here x w (compared p v r (out-Expr q))
value_form p v r here _ = None

-- an assignment to the variable: `v o= x`, for `+` also `v++` and `++v`, or one of these
abbrev pub assignment_form : ProgParts → ℕ → RedOp → Place → Option Compound → Expr → Option (List Expr)
assignment_form p v r at (Some c) x = if_apart v (is_operator r c.op && fits_in p v c.ty) (x ∷ []) x
assignment_form p v r at None e = value_form p v r at (out-Expr e)

-- `if (q) v = x;`
abbrev pub guarded_form : ProgParts → ℕ → Expr → Option Expr → Option (List Expr)
guarded_form p v x None = None
guarded_form p v x (Some y) = if_apart v (same y (in_type p (scalar_type p v) x)) (y ∷ x ∷ []) x

-- whether a statement is an empty block
abbrev pub is_nothing : Stmt-F Stmt Task → Bool
is_nothing (Stmt-F.Block []) = true
is_nothing _ = false

-- the scalar that a statement assigns without an operator, and the value
abbrev pub assigns_plain : Plain → Option (ℕ × Expr)
assigns_plain (plain.Set (target.Scalar v at) None x) = Some (v, x)
assigns_plain _ = None

abbrev pub assigns : Stmt-F Stmt Task → Option (ℕ × Expr)
assigns (Stmt-F.Plain s) = assigns_plain s
assigns _ = None

-- whether an element names it
abbrev pub names_in : ℕ → Access → Bool
names_in v = fold-Access Bool Bool (names_step v) names_access
