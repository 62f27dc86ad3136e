-- Statements: what each becomes, and what it declares and breaks.
use Rattle.std.specs.Prelude.{◌++◌, ◌∷◌, [], ℕ, List, pos, Bool, true, false, not, ◌||◌, if◌then◌else◌, Option, Some, None}
use Rattle.xmp_base.specs.declared.place.Place.{Place}
use Rattle.xmp_num.specs.declared.types.Ty.{Ty}
use Rattle.xmp_num.specs.declared.types.Ty.TheVariants.{Int}
use Rattle.xmp_num.specs.declared.types.BinOp.{BinOp}
use Rattle.xmp_num.specs.declared.types.BinOp.TheVariants as op
use Rattle.xmp_prog.specs.declared.expressions.Expr as prog
use Rattle.xmp_prog.specs.declared.expressions.Expr.TheVariants as e
use Rattle.xmp_prog.specs.declared.expressions.Expr.TheOpen.{Expr-F}
use Rattle.xmp_prog.specs.declared.expressions.Access.{Access}
use Rattle.xmp_prog.specs.declared.statements.Name as made_name
use Rattle.xmp_prog.specs.declared.statements.Target.{Target}
use Rattle.xmp_prog.specs.declared.statements.Target.TheVariants as target
use Rattle.xmp_prog.specs.declared.statements.Plain as made_plain
use Rattle.xmp_prog.specs.declared.statements.Plain.TheVariants as p
use Rattle.xmp_prog.specs.declared.statements.Stmt as made
use Rattle.xmp_prog.specs.declared.statements.Stmt.TheVariants as s
use Rattle.xmp_prog.specs.declared.statements.Stmt.TheOpen as Stmt-M
use Rattle.xmp_prog.specs.declared.statements.Task.{Task}
use Rattle.xmp_lex.specs.declared.token.Mark.{Mark}
use Rattle.xmp_lex.specs.declared.token.Mark.TheVariants as m
use Rattle.xmp_syntax.specs.declared.parts.Name as named
use Rattle.xmp_syntax.specs.declared.parts.Format.{Format}
use Rattle.xmp_syntax.specs.declared.parts.Next.{Next}
use Rattle.xmp_syntax.specs.declared.parts.Reference.{Reference}
use Rattle.xmp_syntax.specs.declared.expression.Expr.{Expr, out-Expr}
use Rattle.xmp_syntax.specs.declared.expression.Expr.TheOpen as Expr-G
use Rattle.xmp_syntax.specs.declared.statement.Simple.{Simple}
use Rattle.xmp_syntax.specs.declared.statement.Simple.TheVariants as simple
use Rattle.xmp_syntax.specs.declared.statement.ForFirst.{ForFirst}
use Rattle.xmp_syntax.specs.declared.statement.ForFirst.TheVariants as for_first
use Rattle.xmp_syntax.specs.declared.statement.ForHead.{ForHead}
use Rattle.xmp_names.specs.declared.rules.Rule.TheVariants.{N1, N3, N4, N6, N7}
use Rattle.xmp_names.specs.declared.typed.Operand.{Operand}
use Rattle.xmp_walk.specs.declared.loops.First.{First}
use Rattle.xmp_walk.specs.declared.loops.ForParts.{ForParts}
use Rattle.xmp_walk.specs.declared.loops.Shape.{Shape}
use Rattle.xmp_names.specs.declared.operators.Operator.{Operator}
use Rattle.xmp_names.specs.declared.operators.Operator.TheVariants.{Arithmetic, Shift}
use Rattle.xmp_names.specs.Typing.{operand, number, joint, value_type, is_of}
use Rattle.xmp_names.specs.Formats.{fits_format, is_scan_format}
use Rattle.xmp_walk.specs.Counted.{is_counted, bound_of, added_to}
use Rattle.xmp_names.specs.Walk.{Gave, Run, ◌>>=◌, pure, if_there, judge, typed, typed_reference, typed_call, typed_all, first_place, is_known, region_of, is_main, open_scope, close_scope, declare_scalar, not_in_function}

-- ---- assignments and calls

-- What an assignment writes: the scalar or the element that its left side became.
abbrev pub target_in : Expr-F prog.Expr Access → Target
target_in (Expr-F.Scalar slot at) = target.Scalar slot at
target_in (Expr-F.Cell a) = target.Cell a
target_in _ = target.Scalar 0 (record { line = 0; column = 0 })

abbrev pub target_of : prog.Expr → Target
target_of x = target_in (prog.out-Expr x)

-- The operator of a compound assignment (ISO C11 6.5.16.2); `v++` is `v += 1`.
abbrev pub compound_of : Mark → Option Operator
compound_of m.AddAssign = Some (Arithmetic op.Add)
compound_of m.Increment = Some (Arithmetic op.Add)
compound_of m.SubAssign = Some (Arithmetic op.Sub)
compound_of m.Decrement = Some (Arithmetic op.Sub)
compound_of m.MulAssign = Some (Arithmetic op.Mul)
compound_of m.DivAssign = Some (Arithmetic op.Div)
compound_of m.RemAssign = Some (Arithmetic op.Rem)
compound_of m.AndAssign = Some (Arithmetic op.And)
compound_of m.OrAssign = Some (Arithmetic op.Or)
compound_of m.XorAssign = Some (Arithmetic op.Xor)
compound_of m.ShlAssign = Some (Shift op.Shl)
compound_of m.ShrAssign = Some (Shift op.Shr)
compound_of _ = None

abbrev pub set : Option Operator → Place → Operand → Operand → made.Stmt
set (Some (Arithmetic o)) at t v =
    let ty : Ty = value_type (joint t.ty v.ty) in
    s.Plain (p.Set (target_of t.made) (Some (record { op = o; ty = ty; at = at })) (operand ty v))
set (Some (Shift o)) at t v = s.Plain (p.Set (target_of t.made) (Some (record { op = o; ty = value_type t.ty; at = at })) v.made)
set _ at t v = s.Plain (p.Set (target_of t.made) None v.made)

abbrev pub one : Operand
one = (number (pos 1) Int).operand

-- A call as a statement; one of a function that isn't declared has no effect.
abbrev pub call_in : Expr-F prog.Expr Access → made.Stmt
call_in (Expr-F.Call k arguments at) = s.Plain (p.Call k arguments at)
call_in _ = s.Block []

abbrev pub call_statement : prog.Expr → made.Stmt
call_statement x = call_in (prog.out-Expr x)

abbrev pub simple_of : Simple → Run made.Stmt
simple_of (simple.Assign r op x) = do
  t ← typed_reference r
  v ← typed x
  pure (set (compound_of op.what) op.at t v)
simple_of (simple.Postfix r op) = do
  t ← typed_reference r
  pure (set (compound_of op.what) op.at t one)
simple_of (simple.Prefix op r) = do
  t ← typed_reference r
  pure (set (compound_of op.what) op.at t one)
simple_of (simple.Call c) = do
  t ← typed_call c
  pure (call_statement t.made)

-- ---- the other statements with no statement inside

-- The value of a `return`; main's is constant.
abbrev pub returned : Expr → Run Operand
returned x = do
  where_it_is ← region_of
  t ← typed x
  _ ← judge (not (is_main where_it_is) || is_known t.value) N4 (first_place x)
  pure t

-- `return`; main's is its last statement.
abbrev pub return_of : Bool → Place → Expr → Run made.Stmt
return_of is_last at x = do
  where_it_is ← region_of
  _ ← judge (not (is_main where_it_is) || is_last) N7 at
  t ← returned x
  pure (s.Plain (p.Return t.made))

abbrev pub print_of : Place → Format → List (Next Expr) → Run made.Stmt
print_of at format arguments = do
  _ ← not_in_function at
  ps ← typed_all arguments
  _ ← judge (fits_format format.text ps.types) N6 format.at
  pure (s.Plain (p.Print format.text ps.made at))

abbrev pub scan_of : Place → Format → Reference Expr → Run made.Stmt
scan_of at format r = do
  _ ← not_in_function at
  t ← typed_reference r
  _ ← judge (is_scan_format format.text t.ty) N6 format.at
  pure (s.Plain (p.Scan (target_of t.made) at))

-- `xmp_sync_all (&v)`: only a program with a coarray has it, and v is a scalar.
abbrev pub is_scalar_target : Target → Bool
is_scalar_target (target.Scalar slot at) = true
is_scalar_target (target.Cell a) = false

abbrev pub target_name : Target → made_name.Name
target_name (target.Scalar slot at) = record { number = slot; at = at }
target_name (target.Cell a) = record { number = 0; at = record { line = 0; column = 0 } }

abbrev pub has_coarray : Run Bool
has_coarray = λ w. Gave w.names.coarray w

abbrev pub sync_of : Place → Reference Expr → Run made.Stmt
sync_of at r = do
  known ← has_coarray
  _ ← judge known N1 at
  _ ← not_in_function at
  t ← typed_reference r
  _ ← judge (is_scalar_target (target_of t.made)) N3 r.name.at
  pure (s.Plain (p.Sync (target_name (target_of t.made)) at))

-- ---- `if` and `while`

abbrev pub else_of : Option (Place × Run made.Stmt) → Run made.Stmt
else_of None = pure (s.Block [])
else_of (Some x) = x.1

abbrev pub if_of : Expr → Run made.Stmt → Option (Place × Run made.Stmt) → Run made.Stmt
if_of x body other = do
  test ← typed x
  a ← body
  b ← else_of other
  pure (s.If test.made a b)

abbrev pub while_of : Place → Expr → Run made.Stmt → Run made.Stmt
while_of at x body = do
  test ← typed x
  a ← body
  pure (s.While test.made a at)

-- ---- `for`

abbrev pub index_of : named.Name → Reference Expr
index_of n = record { name = n; subscripts = []; image = None }

abbrev pub first_part : List made.Stmt → Expr → Operand → Operand → First
first_part declared x t v = record { declared = declared; target = t; value = v; at = first_place x }

abbrev pub first_of : ForFirst → Run First
first_of (for_first.Assign r at x) = do
  t ← typed_reference r
  v ← typed x
  pure (first_part [] x t v)
first_of (for_first.Declare at n equals x) = do
  slot ← declare_scalar n Int
  t ← typed_reference (index_of n)
  v ← typed x
  pure (first_part (s.Plain (p.Declare slot None n.at) ∷ []) x t v)

-- The parts of a `for` before its body. It opens a scope of its own.
abbrev pub for_parts : ForHead → Run ForParts
for_parts h = do
  _ ← open_scope
  first ← if_there first_of h.first
  test ← if_there typed h.test
  next ← if_there simple_of h.next
  pure (record { first = first; test = test; next = next })

-- The place of what a comparison compares with.
abbrev pub compared_in : Expr-G.Expr-F Expr → Option Place
compared_in (Expr-G.Expr-F.Chain x (l ∷ [])) = Some (first_place l.right)
compared_in _ = None

abbrev pub compared_at : Option Expr → Option Place
compared_at None = None
compared_at (Some x) = compared_in (out-Expr x)

-- Whether the last part is `i++` or `++i`, by its form.
abbrev pub is_bump : Option Simple → Bool
is_bump (Some (simple.Postfix r op)) = true
is_bump (Some (simple.Prefix op r)) = true
is_bump _ = false

abbrev pub is_add : BinOp → Bool
is_add op.Add = true
is_add _ = false

-- What the last part adds to the index.
abbrev pub added_plain : ℕ → made_plain.Plain → Option ℕ
added_plain i (p.Set t (Some c) value) = if is_add c.op then added_to i t value else None
added_plain i _ = None

abbrev pub added_by : ℕ → Stmt-M.Stmt-F made.Stmt Task → Option ℕ
added_by i (Stmt-M.Stmt-F.Plain x) = added_plain i x
added_by i _ = None

-- The counted loop of an index, by what it is compared with and what is added to it.
abbrev pub shape_by : ℕ → Place → Bool → Option (prog.Expr × Bool) → Option Place → Option ℕ → made.Stmt → Option Shape
shape_by i at by_one (Some bound) (Some to_at) (Some step) body =
    if is_counted i bound.0 bound.1 by_one body
    then Some (record { index = record { number = i; at = at }; inclusive = bound.1; step = step; to_at = to_at })
    else None
shape_by i at by_one _ _ _ body = None

abbrev pub shape_at : ForHead → Option Ty → Operand → made.Stmt → made.Stmt → Expr-F prog.Expr Access → Option Shape
shape_at h ty test next body (Expr-F.Scalar i at) =
    if is_of ty Int
    then shape_by i at (is_bump h.next) (bound_of i (prog.out-Expr test.made)) (compared_at h.test) (added_by i (made.out-Stmt next)) body
    else None
shape_at h ty test next body _ = None

abbrev pub shape_of : ForHead → Option First → Option Operand → Option made.Stmt → made.Stmt → Option Shape
shape_of h (Some first) (Some test) (Some next) body = shape_at h first.target.ty test next body (prog.out-Expr first.target.made)
shape_of h _ _ _ body = None

-- The counted loop of a shape. One that declares its index stands in a block behind the declaration.
abbrev pub right_side : Expr-F prog.Expr Access → prog.Expr
right_side (Expr-F.Binary o ty a b at) = b
right_side _ = e.Const (pos 0) Int

abbrev pub in_block : List made.Stmt → made.Stmt → made.Stmt
in_block [] loop = loop
in_block (x ∷ xs) loop = s.Block ((x ∷ xs) ++ loop ∷ [])

abbrev pub counted_loop : Shape → First → Operand → made.Stmt → made.Stmt
counted_loop shape first test body = in_block first.declared (s.Counted (record {
  index = shape.index;
  from = first.value.made;
  to = right_side (prog.out-Expr test.made);
  inclusive = shape.inclusive;
  step = shape.step;
  from_at = first.at;
  to_at = shape.to_at;
}) body)

abbrev pub counted_with : Shape → Option First → Option Operand → made.Stmt → made.Stmt
counted_with shape (Some first) (Some test) body = counted_loop shape first test body
counted_with shape _ _ body = body

-- What a `for` that isn't counted does first, its condition, which is 1 where none is written, and what it does last.
abbrev pub begun : Option First → List made.Stmt
begun None = []
begun (Some x) = x.declared ++ set None x.at x.target x.value ∷ []

abbrev pub condition : Option Operand → prog.Expr
condition None = e.Const (pos 1) Int
condition (Some x) = x.made

abbrev pub last_of : Option made.Stmt → List made.Stmt
last_of None = []
last_of (Some x) = x ∷ []

abbrev pub uncounted : Place → ForParts → made.Stmt → made.Stmt
uncounted word parts body = s.Block (begun parts.first ++ s.While (condition parts.test) (s.Block (body ∷ last_of parts.next)) word ∷ [])

abbrev pub loop_in : Option Shape → Place → ForParts → made.Stmt → made.Stmt
loop_in (Some shape) word parts body = counted_with shape parts.first parts.test body
loop_in None word parts body = uncounted word parts body

abbrev pub loop_of : ForHead → ForParts → made.Stmt → made.Stmt
loop_of h parts body = loop_in (shape_of h parts.first parts.test parts.next body) h.word parts body

abbrev pub for_of : ForHead → Run made.Stmt → Run made.Stmt
for_of h body = do
  parts ← for_parts h
  b ← body
  _ ← close_scope
  pure (loop_of h parts b)
