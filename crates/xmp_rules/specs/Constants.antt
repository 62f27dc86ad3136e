-- Constant expressions: what they come to (ISO C11 6.5; which expressions are constant is this project's).
use Rattle.std.specs.Prelude.{◌≡◌, ℤ, pos, negsuc, List, [], ◌∷◌, if◌then◌else◌, Option, Some, None, Result, Ok, Err}
use Rattle.xmp_lex.specs.declared.token.Mark.{Mark}
use Rattle.xmp_lex.specs.declared.token.Mark.TheVariants as mark
use Rattle.xmp_num.specs.declared.types.TrapKind.{TrapKind}
use Rattle.xmp_num.specs.declared.types.Ty.{Ty}
use Rattle.xmp_num.specs.declared.types.Ty.TheVariants.{Int, Long}
use Rattle.xmp_num.specs.declared.types.BinOp.{BinOp}
use Rattle.xmp_num.specs.declared.types.BinOp.TheVariants as op
use Rattle.xmp_num.specs.Arithmetic.{wrap, binary_of}
use Rattle.xmp_syntax.specs.declared.parts.Link.{Link}
use Rattle.xmp_syntax.specs.declared.expression.Expr.{Expr, fold-Expr}
use Rattle.xmp_syntax.specs.declared.expression.Expr.TheOpen.{Expr-F}
use Rattle.xmp_names.specs.Typing.{is_zero}
use Rattle.xmp_rules.specs.Spots.{of_expr}

-- The type of an expression without a name, and its value where it doesn't trap.
pub record Outcome : Type 0 where
  pub ty : Ty
  pub value : Option ℤ

-- The usual arithmetic conversions: int where both are, else long (6.3.1.8).
abbrev pub common : Ty → Ty → Ty
common Int b = b
common Long b = Long

abbrev pub without_trap : Result ℤ TrapKind → Option ℤ
without_trap (Ok v) = Some v
without_trap (Err kind) = None

-- Both operands are evaluated.
abbrev pub computed : BinOp → Ty → Option ℤ → Option ℤ → Option ℤ
computed o ty None b = None
computed o ty (Some x) None = None
computed o ty (Some x) (Some y) = without_trap (binary_of o ty x y)

-- 1 for a value other than 0.
abbrev pub truth : Option ℤ → Option ℤ
truth None = None
truth (Some v) = Some (if is_zero v then pos 0 else pos 1)

-- The right operand of `&&` and `||` is evaluated only where it is needed (6.5.13, 6.5.14).
abbrev pub both : Option ℤ → Option ℤ → Option ℤ
both None b = None
both (Some x) b = if is_zero x then Some (pos 0) else truth b

abbrev pub either : Option ℤ → Option ℤ → Option ℤ
either None b = None
either (Some x) b = if is_zero x then truth b else Some (pos 1)

-- A value in a type.
abbrev pub in_type : Ty → Option ℤ → Option ℤ
in_type ty None = None
in_type ty (Some v) = Some (wrap ty v)

abbrev pub arithmetic : BinOp → Outcome → Outcome → Outcome
arithmetic o a b = record { ty = common a.ty b.ty; value = computed o (common a.ty b.ty) a.value b.value }

abbrev pub compare : BinOp → Outcome → Outcome → Outcome
compare o a b = record { ty = Int; value = computed o (common a.ty b.ty) a.value b.value }

-- A shift works in the type of its left operand (6.5.7).
abbrev pub shift : BinOp → Outcome → Outcome → Outcome
shift o a b = record { ty = a.ty; value = computed o a.ty a.value b.value }

-- A mark between two operands; what is no other of these is `||`.
abbrev pub operation : Mark → Outcome → Outcome → Outcome
operation mark.Plus a b = arithmetic op.Add a b
operation mark.Minus a b = arithmetic op.Sub a b
operation mark.Star a b = arithmetic op.Mul a b
operation mark.Slash a b = arithmetic op.Div a b
operation mark.Percent a b = arithmetic op.Rem a b
operation mark.And a b = arithmetic op.And a b
operation mark.Or a b = arithmetic op.Or a b
operation mark.Xor a b = arithmetic op.Xor a b
operation mark.ShiftLeft a b = shift op.Shl a b
operation mark.ShiftRight a b = shift op.Shr a b
operation mark.Less a b = compare op.Less a b
operation mark.LessEqual a b = compare op.LessEq a b
operation mark.Greater a b = compare op.Greater a b
operation mark.GreaterEqual a b = compare op.GreaterEq a b
operation mark.Equal a b = compare op.Equal a b
operation mark.Differ a b = compare op.Differ a b
operation mark.AndAnd a b = record { ty = Int; value = both a.value b.value }
operation _ a b = record { ty = Int; value = either a.value b.value }

abbrev pub of_int : ℤ → Outcome
of_int v = record { ty = Int; value = Some v }

-- `-e` is `0 - e`, `~e` is `e ^ -1`, `!e` is `e == 0`, and `+e` is `e`.
abbrev pub unary : Mark → Outcome → Outcome
unary mark.Minus x = arithmetic op.Sub (of_int (pos 0)) x
unary mark.Tilde x = arithmetic op.Xor x (of_int (negsuc 0))
unary mark.Bang x = compare op.Equal x (of_int (pos 0))
unary _ x = x

-- `c ? a : b` evaluates one of a and b, and is of their common type (6.5.15).
abbrev pub chosen : Ty → Option ℤ → Option ℤ → Option ℤ → Option ℤ
chosen ty None a b = None
chosen ty (Some x) a b = in_type ty (if is_zero x then b else a)

abbrev pub chain : Outcome → List (Link Outcome) → Outcome
chain x [] = x
chain x (l ∷ ls) = chain (operation l.operator.what x l.right) ls

-- (A name comes to nothing.)
abbrev pub outcome_step : Expr-F Outcome → Outcome
outcome_step (Expr-F.Number p v ty) = record { ty = ty; value = Some v }
outcome_step (Expr-F.Read r) = record { ty = Int; value = None }
outcome_step (Expr-F.Call c) = record { ty = Int; value = None }
outcome_step (Expr-F.Parens x) = x.item
outcome_step (Expr-F.Unary o x) = unary o.what x
outcome_step (Expr-F.Cast ty x) = record { ty = ty.item.what; value = in_type ty.item.what x.value }
outcome_step (Expr-F.Chain x ls) = chain x ls
outcome_step (Expr-F.Conditional c p a q b) = record { ty = common a.ty b.ty; value = chosen (common a.ty b.ty) c.value a.value b.value }

abbrev pub outcome : Expr → Outcome
outcome = fold-Expr Outcome outcome_step

-- An expression has a constant value: no name stands in it, and it comes to that value without a trap.
pub record HasValue (x : Expr) (v : ℤ) : Type 0 where
  pub nameless : of_expr x ≡ []
  pub value : (outcome x).value ≡ Some v

abbrev pub IsConstant : Expr → Type 0
IsConstant x = (v : ℤ) × HasValue x v
