-- Whether two expressions are one, places apart. Source: this project.
use Rattle.std.specs.Prelude.{ℕ, ◌==◌, Bool, true, false, ◌&&◌, List, [], ◌∷◌, Option, Some, None}
use Rattle.std.specs.Ordering.{int_eq}
use Rattle.xmp_num.specs.declared.types.BinOp.{BinOp}
use Rattle.xmp_num.specs.declared.types.BinOp.TheVariants as op
use Rattle.xmp_prog.specs.Numbers.{same_type}
use Rattle.xmp_prog.specs.declared.expressions.Expr.{Expr, out-Expr}
use Rattle.xmp_prog.specs.declared.expressions.Expr.TheOpen.{Expr-F, Access-F}
use Rattle.xmp_prog.specs.declared.expressions.Expr.TheFolds.{fold-Expr, fold-Access}
use Rattle.xmp_prog.specs.declared.expressions.Access.{Access}

-- operators by number
abbrev pub operator_number : BinOp → ℕ
operator_number op.Add = 0
operator_number op.Sub = 1
operator_number op.Mul = 2
operator_number op.Div = 3
operator_number op.Rem = 4
operator_number op.Shl = 5
operator_number op.Shr = 6
operator_number op.And = 7
operator_number op.Or = 8
operator_number op.Xor = 9
operator_number op.Less = 10
operator_number op.LessEq = 11
operator_number op.Greater = 12
operator_number op.GreaterEq = 13
operator_number op.Equal = 14
operator_number op.Differ = 15

-- whether two operators are one
abbrev pub same_operator : BinOp → BinOp → Bool
same_operator a b = operator_number a == operator_number b

-- whether expressions, one by one, pass the tests, one each
abbrev pub all_pass : {A : Type 0} → List (A → Bool) → List A → Bool
all_pass [] [] = true
all_pass (t ∷ tests) (x ∷ xs) = t x && all_pass tests xs
all_pass _ _ = false

-- whether one that may be missing passes the test, which is missing where it is
abbrev pub may_pass : {A : Type 0} → Option (A → Bool) → Option A → Bool
may_pass None None = true
may_pass (Some test) (Some x) = test x
may_pass _ _ = false

-- whether an expression is one whose operands pass these tests
abbrev pub same_form : Expr-F (Expr → Bool) (Access → Bool) → Expr-F Expr Access → Bool
same_form (Expr-F.Const v ty) (Expr-F.Const w uy) = int_eq v w && same_type ty uy
same_form (Expr-F.Scalar slot at) (Expr-F.Scalar other there) = slot == other
same_form (Expr-F.Cell a) (Expr-F.Cell x) = a x
same_form (Expr-F.Binary o ty a b at) (Expr-F.Binary q uy x y there) =
    same_operator o q && (same_type ty uy && (a x && b y))
same_form (Expr-F.Both a b) (Expr-F.Both x y) = a x && b y
same_form (Expr-F.Either a b) (Expr-F.Either x y) = a x && b y
same_form (Expr-F.Choose a b c) (Expr-F.Choose x y z) = a x && (b y && c z)
same_form (Expr-F.Convert ty a) (Expr-F.Convert uy x) = same_type ty uy && a x
same_form (Expr-F.Call function arguments at) (Expr-F.Call other values there) = (function == other) && all_pass arguments values
same_form Expr-F.Node Expr-F.Node = true
same_form Expr-F.Nodes Expr-F.Nodes = true
same_form _ _ = false

-- whether an element is one of the same array whose subscripts and image pass these tests
abbrev pub same_element : Access-F (Expr → Bool) (Access → Bool) → Access → Bool
same_element a x = (a.array == x.array) && (all_pass a.subscripts x.subscripts && may_pass a.image x.image)

abbrev pub same_step : Expr-F (Expr → Bool) (Access → Bool) → Expr → Bool
same_step e x = same_form e (out-Expr x)

-- whether two expressions are one, places apart
abbrev pub same : Expr → Expr → Bool
same = fold-Expr (Expr → Bool) (Access → Bool) same_step same_element

-- whether two elements are
abbrev pub same_access : Access → Access → Bool
same_access = fold-Access (Expr → Bool) (Access → Bool) same_step same_element
