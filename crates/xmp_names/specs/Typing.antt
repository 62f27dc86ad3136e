-- What is made of an expression, and its type, from those of its operands (ISO C11 6.5; constant expressions 6.6).
use Rattle.std.specs.Prelude.{ℤ, pos, negsuc, zero, Bool, true, false, ◌||◌, if◌then◌else◌, Option, Some, None, Result, Ok, Err}
use Rattle.xmp_base.specs.declared.place.Place.{Place}
use Rattle.xmp_num.specs.declared.types.TrapKind.{TrapKind}
use Rattle.xmp_num.specs.declared.types.Ty.{Ty}
use Rattle.xmp_num.specs.declared.types.Ty.TheVariants.{Int, Long}
use Rattle.xmp_num.specs.declared.types.BinOp.{BinOp}
use Rattle.xmp_num.specs.declared.types.BinOp.TheVariants as op
use Rattle.xmp_num.specs.Arithmetic.{wrap, binary_of}
use Rattle.xmp_prog.specs.declared.expressions.Expr.{Expr}
use Rattle.xmp_prog.specs.declared.expressions.Expr.TheVariants as e
use Rattle.xmp_lex.specs.declared.token.Mark.{Mark}
use Rattle.xmp_lex.specs.declared.token.Mark.TheVariants as m
use Rattle.xmp_names.specs.declared.rules.Notes.{Notes}
use Rattle.xmp_names.specs.declared.typed.Value.{Value}
use Rattle.xmp_names.specs.declared.typed.Value.TheVariants.{Named, Trapping, Known}
use Rattle.xmp_names.specs.declared.typed.Typed.{Typed}
use Rattle.xmp_names.specs.declared.typed.Operand.{Operand}
use Rattle.xmp_names.specs.declared.operators.Operator.{Operator}
use Rattle.xmp_names.specs.declared.operators.Operator.TheVariants.{Arithmetic, Compare, Shift, Both, Either}
use Rattle.xmp_names.specs.Rules.{no_notes, joined}

-- The operator that a mark between two operands is.
abbrev pub operator_of : Mark → Operator
operator_of m.Plus = Arithmetic op.Add
operator_of m.Minus = Arithmetic op.Sub
operator_of m.Star = Arithmetic op.Mul
operator_of m.Slash = Arithmetic op.Div
operator_of m.Percent = Arithmetic op.Rem
operator_of m.And = Arithmetic op.And
operator_of m.Or = Arithmetic op.Or
operator_of m.Xor = Arithmetic op.Xor
operator_of m.ShiftLeft = Shift op.Shl
operator_of m.ShiftRight = Shift op.Shr
operator_of m.Less = Compare op.Less
operator_of m.LessEqual = Compare op.LessEq
operator_of m.Greater = Compare op.Greater
operator_of m.GreaterEqual = Compare op.GreaterEq
operator_of m.Equal = Compare op.Equal
operator_of m.Differ = Compare op.Differ
operator_of m.AndAnd = Both
operator_of _ = Either

-- The usual arithmetic conversions (6.3.1.8); an operand of no known type gives none.
abbrev pub joint : Option Ty → Option Ty → Option Ty
joint (Some Int) (Some Int) = Some Int
joint (Some Int) (Some Long) = Some Long
joint (Some Long) (Some b) = Some Long
joint (Some a) None = None
joint None b = None

-- The type in which an operation of no known type is written.
abbrev pub value_type : Option Ty → Ty
value_type (Some ty) = ty
value_type None = Int

-- A constant stands as its value.
abbrev pub stands : Value → Ty → Expr → Expr
stands (Known v) ty made = e.Const v ty
stands Named ty made = made
stands Trapping ty made = made

-- What is known of an operation: a name in an operand is a name in it, and a trap in one is a trap in it.
abbrev pub known : Result ℤ TrapKind → Value
known (Ok v) = Known v
known (Err kind) = Trapping

abbrev pub binary_value : BinOp → Ty → Value → Value → Value
binary_value op ty Named b = Named
binary_value op ty Trapping Named = Named
binary_value op ty Trapping Trapping = Trapping
binary_value op ty Trapping (Known y) = Trapping
binary_value op ty (Known x) Named = Named
binary_value op ty (Known x) Trapping = Trapping
binary_value op ty (Known x) (Known y) = known (binary_of op ty x y)

abbrev pub is_zero : ℤ → Bool
is_zero (pos zero) = true
is_zero _ = false

abbrev pub truth_value : Value → Value
truth_value (Known v) = Known (if is_zero v then pos 0 else pos 1)
truth_value Named = Named
truth_value Trapping = Trapping

-- `&&` and `||` evaluate the right operand only where they need it (6.5.13, 6.5.14), but a name in it is a name.
abbrev pub both_value : Value → Value → Value
both_value Named b = Named
both_value Trapping Named = Named
both_value Trapping b = Trapping
both_value (Known x) Named = Named
both_value (Known x) b = if is_zero x then Known (pos 0) else truth_value b

abbrev pub either_value : Value → Value → Value
either_value Named b = Named
either_value Trapping Named = Named
either_value Trapping b = Trapping
either_value (Known x) Named = Named
either_value (Known x) b = if is_zero x then truth_value b else Known (pos 1)

-- A value in a type.
abbrev pub converted : Ty → Value → Value
converted ty (Known v) = Known (wrap ty v)
converted ty Named = Named
converted ty Trapping = Trapping

abbrev pub is_named : Value → Bool
is_named Named = true
is_named Trapping = false
is_named (Known v) = false

-- `?:` evaluates one of its last two operands (6.5.15), but a name in the other is a name.
abbrev pub picked : Ty → Value → Value → Value → Value
picked ty (Known x) a b = if is_zero x then converted ty b else converted ty a
picked ty Named a b = Trapping
picked ty Trapping a b = Trapping

abbrev pub chosen_value : Ty → Value → Value → Value → Value
chosen_value ty c a b = if is_named c || is_named a || is_named b then Named else picked ty c a b

-- Whether an operand has a type already.
abbrev pub is_of : Option Ty → Ty → Bool
is_of (Some Int) Int = true
is_of (Some Long) Long = true
is_of _ _ = false

-- A conversion; that of a constant is a constant.
abbrev pub convert : Ty → Expr → Value → Expr
convert ty made (Known v) = e.Const (wrap ty v) ty
convert ty made Named = e.Convert ty made
convert ty made Trapping = e.Convert ty made

-- An operand in another type.
abbrev pub as_type : Ty → Expr → Option Ty → Value → Expr
as_type ty made from value = if is_of from ty then made else convert ty made value

abbrev pub operand : Ty → Operand → Expr
operand ty x = as_type ty x.made x.ty x.value

-- An operation: a constant where its value is known.
abbrev pub typed : Option Ty → Value → Expr → Notes → Typed
typed ty value made notes = record {
  operand = record { made = stands value (value_type ty) made; ty = ty; value = value };
  notes = notes;
}

-- A number.
abbrev pub number : ℤ → Ty → Typed
number v ty = record { operand = record { made = e.Const v ty; ty = Some ty; value = Known v }; notes = no_notes }

-- An operator whose result has the operands' common type, a comparison, and a shift, which works in its left operand's type (6.5.7).
abbrev pub arithmetic : BinOp → Place → Operand → Operand → Notes → Typed
arithmetic o at a b notes =
    let ty : Option Ty = joint a.ty b.ty in
    typed ty (binary_value o (value_type ty) a.value b.value) (e.Binary o (value_type ty) (operand (value_type ty) a) (operand (value_type ty) b) at) notes

abbrev pub compare : BinOp → Place → Operand → Operand → Notes → Typed
compare o at a b notes =
    let ty : Ty = value_type (joint a.ty b.ty) in
    typed (Some Int) (binary_value o ty a.value b.value) (e.Binary o ty (operand ty a) (operand ty b) at) notes

abbrev pub shift : BinOp → Place → Operand → Operand → Notes → Typed
shift o at a b notes = typed a.ty (binary_value o (value_type a.ty) a.value b.value) (e.Binary o (value_type a.ty) a.made b.made at) notes

abbrev pub operator : Operator → Place → Operand → Operand → Notes → Typed
operator (Arithmetic o) at a b notes = arithmetic o at a b notes
operator (Compare o) at a b notes = compare o at a b notes
operator (Shift o) at a b notes = shift o at a b notes
operator Both at a b notes = typed (Some Int) (both_value a.value b.value) (e.Both a.made b.made) notes
operator Either at a b notes = typed (Some Int) (either_value a.value b.value) (e.Either a.made b.made) notes

abbrev pub binary : Operator → Place → Typed → Typed → Typed
binary o at a b = operator o at a.operand b.operand (joined a.notes b.notes)

-- `-e` is `0 - e`, `~e` is `e ^ -1`, `!e` is `e == 0`, and `+e` is `e`.
abbrev pub unary : Mark → Place → Typed → Typed
unary m.Minus at x = binary (Arithmetic op.Sub) at (number (pos 0) Int) x
unary m.Tilde at x = binary (Arithmetic op.Xor) at x (number (negsuc 0) Int)
unary m.Bang at x = binary (Compare op.Equal) at x (number (pos 0) Int)
unary _ at x = x

-- A cast that is written stands as a conversion, also to the type that its operand has.
abbrev pub cast : Ty → Typed → Typed
cast ty x = record {
  operand = record { made = convert ty x.operand.made x.operand.value; ty = Some ty; value = converted ty x.operand.value };
  notes = x.notes;
}

-- `c ? a : b` has the common type of a and b.
abbrev pub chosen : Operand → Operand → Operand → Notes → Typed
chosen c a b notes =
    let ty : Option Ty = joint a.ty b.ty in
    typed ty (chosen_value (value_type ty) c.value a.value b.value) (e.Choose c.made (operand (value_type ty) a) (operand (value_type ty) b)) notes

abbrev pub choose : Typed → Typed → Typed → Typed
choose c a b = chosen c.operand a.operand b.operand (joined (joined c.notes a.notes) b.notes)
