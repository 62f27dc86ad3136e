-- The value of an expression (ISO C11 6.5; operands, subscripts and arguments from left to right is this project's order).
use Rattle.std.specs.Prelude.{ℕ, zero, suc, Bool, true, false, not, if◌then◌else◌, nat_lt, List, [], ◌∷◌, ℤ, pos, negsuc, Option, Some, None}
use Rattle.xmp_base.specs.declared.place.Place.{Place}
use Rattle.xmp_num.specs.declared.types.TrapKind.TheVariants.{Subscript}
use Rattle.xmp_num.specs.Arithmetic.{binary_of, wrap}
use Rattle.xmp_prog.specs.declared.expressions.Expr.{Expr}
use Rattle.xmp_prog.specs.declared.expressions.Expr.TheOpen.{Expr-F, Access-F}
use Rattle.xmp_prog.specs.declared.expressions.Expr.TheFolds.{fold-Expr, fold-Access}
use Rattle.xmp_prog.specs.declared.expressions.Access.{Access}
use Rattle.xmp_prog.specs.Fits.{node_count}
use Rattle.xmp_meaning.specs.Runs.{State, Step, Gave, Ended, RunIn, Run, ◌>>=◌, pure, trap, or_trap, scalar}
pub use Rattle.xmp_meaning.specs.Blocks.{each}
use Rattle.xmp_meaning.specs.Declarations.{extents, is_coarray}
use Rattle.xmp_meaning.specs.Layouts.{number_of}
use Rattle.xmp_meaning.specs.Context.{Context}
use Rattle.xmp_meaning.specs.Handlers.{Handlers}

-- a value that is 0
abbrev pub is_zero : ℤ → Bool
is_zero (pos zero) = true
is_zero (pos (suc n)) = false
is_zero (negsuc n) = false

-- 1 for a value other than 0, else 0
abbrev pub as_truth : ℤ → ℤ
as_truth v = if is_zero v then pos 0 else pos 1

-- the number that is counted; 0 for a negative one
abbrev pub natural : ℤ → ℕ
natural (pos n) = n
natural (negsuc n) = 0

-- ---- elements of arrays

-- a subscript inside its extent
abbrev pub within : ℤ → ℕ → Option ℕ
within (pos x) extent = if nat_lt x extent then Some x else None
within (negsuc x) extent = None

-- a subscript, or the trap at the array's name
abbrev pub or_subscript : {S : Type 0} → Option ℕ → Place → RunIn S ℕ
or_subscript (Some x) at = pure x
or_subscript None at = trap Subscript at

-- the subscripts from left to right, each checked as soon as it is evaluated
abbrev pub checked : {X : Type 0} → List (Run X ℤ) → List ℕ → Place → Run X (List ℕ)
checked [] extents at = pure []
checked (e ∷ es) [] at = pure []
checked (e ∷ es) (n ∷ ns) at = do
  v ← e
  x ← or_subscript (within v n) at
  xs ← checked es ns at
  pure (x ∷ xs)

-- the image whose cell is meant: the one that is written, or one's own; an array that is no coarray has one row of cells
abbrev pub image_of : {X : Type 0} → Context → ℕ → Option (Run X ℤ) → Run X ℕ
image_of cx array None = pure (if is_coarray cx.program array then cx.node else 0)
image_of cx array (Some e) = do
  k ← e
  pure (natural k)

-- an element: its array, its subscripts, and the image whose cell is meant
pub record Element (X : Type 0) : Type 0 where
  pub array : ℕ
  pub subscripts : Run X (List ℕ)
  pub image : Run X ℕ

-- the subscripts from left to right, and then the image
abbrev pub access_step : {X : Type 0} → Context → Access-F (Run X ℤ) (Element X) → Element X
access_step cx a = record {
  array = a.array;
  subscripts = checked a.subscripts (extents cx.program a.array) a.at;
  image = image_of cx a.array a.image;
}

-- which cell of its array an element is: its number, by where the store keeps the cells
abbrev pub cell_number : {X : Type 0} → Context → Element X → Run X ℤ
cell_number cx e = do
  xs ← e.subscripts
  image ← e.image
  pure (number_of cx.layout cx.program e.array image xs)

-- ---- expressions

-- a call is done in a state of its own: of this one it changes the steps that are left, and nothing else
abbrev pub after_call : {X : Type 0} → State X → Step (Unit {0}) ℤ → Step X ℤ
after_call s (Gave v t) = Gave v (record s { steps = t.steps })
after_call s (Ended e t) = Ended e (record s { steps = t.steps })

-- a call of a function by its number
abbrev pub call : {X : Type 0} → Context → ℕ → List ℤ → Run X ℤ
call cx function vs = λ s. after_call s (cx.call function vs s.steps)

-- `&&`, `||` and `?:` evaluate only what they need
abbrev pub expr_step : {X : Type 0} → Handlers X → Context → Expr-F (Run X ℤ) (Element X) → Run X ℤ
expr_step h cx (Expr-F.Const v ty) = pure v
expr_step h cx (Expr-F.Scalar slot at) = scalar slot
expr_step h cx (Expr-F.Cell a) = do
  n ← cell_number cx a
  h.get a.array n
expr_step h cx (Expr-F.Binary op ty a b at) = do
  x ← a
  y ← b
  or_trap (binary_of op ty x y) at
expr_step h cx (Expr-F.Both a b) = do
  x ← a
  if is_zero x then pure (pos 0) else (do
    y ← b
    pure (as_truth y))
expr_step h cx (Expr-F.Either a b) = do
  x ← a
  if is_zero x then (do
    y ← b
    pure (as_truth y)) else pure (pos 1)
expr_step h cx (Expr-F.Choose a b c) = do
  x ← a
  if is_zero x then c else b
expr_step h cx (Expr-F.Convert ty a) = do
  x ← a
  pure (wrap ty x)
expr_step h cx (Expr-F.Call function arguments at) = do
  vs ← each arguments []
  call cx function vs
expr_step h cx Expr-F.Node = pure (pos cx.node)
expr_step h cx Expr-F.Nodes = pure (pos (node_count cx.program))

-- what an expression gives
abbrev pub expr_of : {X : Type 0} → Handlers X → Context → Expr → Run X ℤ
expr_of {X} h cx = fold-Expr (Run X ℤ) (Element X) (expr_step h cx) (access_step cx)

-- an element, by what its subscripts and its image give
abbrev pub element_of : {X : Type 0} → Handlers X → Context → Access → Element X
element_of {X} h cx = fold-Access (Run X ℤ) (Element X) (expr_step h cx) (access_step cx)

-- which cell of its array it is
abbrev pub cell_of : {X : Type 0} → Handlers X → Context → Access → Run X ℤ
cell_of h cx a = cell_number cx (element_of h cx a)

-- a condition holds where its value isn't 0
abbrev pub holds : {S : Type 0} → RunIn S ℤ → RunIn S Bool
holds e = do
  v ← e
  pure (not (is_zero v))
