-- The tests of directives and of counted loops of a single statement, form by form of the walk.
use Rattle.std.proofs.Common.{◌≡◌, refl, [], ℕ, Bool, List, Option, Some, None}
use Rattle.std.specs.Prelude.{is_some}
use Rattle.std.specs.List.{AllByRecursion}
use Rattle.xmp_base.specs.declared.place.Place.{Place}
use Rattle.xmp_num.specs.declared.types.Ty.{Ty}
use Rattle.xmp_prog.specs.declared.expressions.Expr as prog
use Rattle.xmp_prog.specs.declared.expressions.Expr.TheOpen.{Expr-F}
use Rattle.xmp_prog.specs.declared.expressions.Access.{Access}
use Rattle.xmp_prog.specs.declared.parts.ProgParts.{ProgParts}
use Rattle.xmp_prog.specs.declared.statements.Plain.TheVariants as p
use Rattle.xmp_prog.specs.declared.statements.Stmt as made
use Rattle.xmp_prog.specs.declared.statements.Stmt.TheVariants as s
use Rattle.xmp_syntax.specs.declared.expression.Expr.{Expr}
use Rattle.xmp_syntax.specs.declared.declaration.Declarator.{Declarator}
use Rattle.xmp_syntax.specs.declared.declaration.Declarator.TheVariants as declarator
use Rattle.xmp_syntax.specs.declared.statement.Simple.{Simple}
use Rattle.xmp_syntax.specs.declared.statement.Simple.TheVariants as simple
use Rattle.xmp_syntax.specs.declared.statement.ForHead.{ForHead}
use Rattle.xmp_syntax.specs.declared.statement.Plain.{Plain}
use Rattle.xmp_syntax.specs.declared.statement.Plain.TheVariants as plain
use Rattle.xmp_walk.specs.declared.loops.First.{First}
use Rattle.xmp_walk.specs.declared.loops.Shape.{Shape}
use Rattle.xmp_names.specs.declared.operators.Operator.{Operator}
use Rattle.xmp_names.specs.declared.operators.Operator.TheVariants as operator
use Rattle.xmp_names.specs.declared.typed.Operand.{Operand}
use Rattle.xmp_names.specs.declared.world.World.{World}
use Rattle.xmp_walk.specs.Declarations.{declare_array, initialiser, local_declarator}
use Rattle.xmp_names.specs.Lists.{inner}
use Rattle.xmp_walk.specs.Program.{plain_of}
use Rattle.xmp_walk.specs.Statements.{call_in, return_of, set, shape_of, simple_of}
use Rattle.xmp_fits.proofs.DirectivesPass.{StmtFits, StmtMade, block_fits, counted_fit, plain_fits}
use Rattle.xmp_fits.proofs.Endings.{Ending, opened}
use Rattle.xmp_fits.proofs.ForsPass.{PartsKnown, head_made, shape_fits}
use Rattle.xmp_fits.proofs.GoodWorlds.{Good, Own}
use Rattle.xmp_fits.proofs.Respected.{Ends}
use Rattle.xmp_fits.proofs.MovesEnd.{barrier_made, gmove_made, reflect_made}
use Rattle.xmp_fits.proofs.OperandsKnown.{AddsOne, KnownOperand}
use Rattle.xmp_fits.proofs.SetsEnd.{bcast_made}

-- ---- statements with none inside, that are no directives

module _ (q : ProgParts) where
  set_passes : (o : Option Operator) (at : Place) (t v : Operand) → StmtFits q (set o at t v)
  set_passes None at t v = plain_fits q _ refl refl refl refl
  set_passes (Some (operator.Arithmetic o)) at t v = plain_fits q _ refl refl refl refl
  set_passes (Some (operator.Compare o)) at t v = plain_fits q _ refl refl refl refl
  set_passes (Some (operator.Shift o)) at t v = plain_fits q _ refl refl refl refl
  set_passes (Some operator.Both) at t v = plain_fits q _ refl refl refl refl
  set_passes (Some operator.Either) at t v = plain_fits q _ refl refl refl refl

  pub nothing_passes : StmtFits q (s.Block [])
  nothing_passes = block_fits q [] tt

  call_passes : (x : Expr-F prog.Expr Access) → StmtFits q (call_in x)
  call_passes (Expr-F.Call k arguments at) = plain_fits q (p.Call k arguments at) refl refl refl refl
  call_passes (Expr-F.Const v ty) = nothing_passes
  call_passes (Expr-F.Scalar slot at) = nothing_passes
  call_passes (Expr-F.Cell a) = nothing_passes
  call_passes (Expr-F.Binary o ty a b at) = nothing_passes
  call_passes (Expr-F.Both a b) = nothing_passes
  call_passes (Expr-F.Either a b) = nothing_passes
  call_passes (Expr-F.Choose a b c) = nothing_passes
  call_passes (Expr-F.Convert ty a) = nothing_passes
  call_passes Expr-F.Node = nothing_passes
  call_passes Expr-F.Nodes = nothing_passes

  pub declare_passes : (slot : ℕ) (value : Option prog.Expr) (at : Place) → StmtFits q (s.Plain (p.Declare slot value at))
  declare_passes slot value at = plain_fits q (p.Declare slot value at) refl refl refl refl

simple_made : (x : Simple) (w : World) → Ends StmtMade (simple_of x w)
simple_made (simple.Assign r op x) w = λ q end. set_passes q _ op.at _ _
simple_made (simple.Postfix r op) w = λ q end. set_passes q _ op.at _ _
simple_made (simple.Prefix op r) w = λ q end. set_passes q _ op.at _ _
simple_made (simple.Call c) w = λ q end. call_passes q _

pub plain_made : (own : Own) (x : Plain) (w : World) → Good own w → Ends StmtMade (plain_of x w)
plain_made own (plain.Empty at) w g = λ q end. nothing_passes q
plain_made own (plain.Simple x at) w g = simple_made x w
plain_made own (plain.Return at x end) w g = λ q e. plain_fits q _ refl refl refl refl
plain_made own (plain.Print at x end) w g = λ q e. plain_fits q _ refl refl refl refl
plain_made own (plain.Scan at x end) w g = λ q e. plain_fits q _ refl refl refl refl
plain_made own (plain.Sync at x end) w g = λ q e. plain_fits q _ refl refl refl refl
plain_made own (plain.Reflect line names) w g = reflect_made own w line names.item g
plain_made own (plain.Barrier line) w g = barrier_made w line
plain_made own (plain.Bcast line names from_at set) w g = bcast_made own w line names.item set g
plain_made own (plain.Gmove line target equals source end) w g = gmove_made own w line target source g

-- The last statement of main.
pub return_made : (is_last : Bool) (at : Place) (x : Expr) (w : World) → Ends StmtMade (return_of is_last at x w)
return_made is_last at x w = λ q e. plain_fits q _ refl refl refl refl

-- ---- declarations

abbrev pub AllMade : List made.Stmt → World → Type 0
AllMade all v = AllByRecursion (λ x. StmtMade x v) all

pub declarator_made : (ty : Ty) (d : Declarator) (w : World) → Ends AllMade (local_declarator ty d w)
declarator_made ty (declarator.Scalar n value) w =
    opened (initialiser value _) _ AllMade (λ first v e. (λ q end. declare_passes q _ first n.at, tt))
declarator_made ty (declarator.Array n extents image) w =
    opened (declare_array ty n (inner extents) (is_some image) w) _ AllMade (λ x v e. tt)

-- ---- a counted loop

pub counted_made : (h : ForHead) (v : World) (shape : Shape) (first : First) (test : Operand) (next body : made.Stmt) → shape_of h (Some first) (Some test) (Some next) body ≡ Some shape →
    ((q : ProgParts) → Ending v q → KnownOperand q first.target) → ((q : ProgParts) → Ending v q → KnownOperand q test) → AddsOne h (Some next) → StmtMade body v → StmtMade (s.Counted (head_made shape first test) body) v
counted_made h v shape first test next body e target compared adds fits = λ q end.
    let known : PartsKnown q h first test next = record { index = (target q end).index; bound = (compared q end).bound; step = λ b i k a. adds next refl b i k a } in
    counted_fit q (head_made shape first test) body (shape_fits q h first test next body shape e known) (fits q end)
