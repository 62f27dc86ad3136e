-- The bounds of a loop directive's nest and the numbers of a gmove. Source: this project.
use Rattle.std.specs.Prelude.{ℕ, Bool, true, false, not, ◌&&◌, ◌||◌, List}
use Rattle.xmp_prog.specs.Numbers.{is_in}
use Rattle.xmp_prog.specs.Counted.{is_bound_operator}
use Rattle.xmp_prog.specs.declared.expressions.Expr.{Expr}
use Rattle.xmp_prog.specs.declared.expressions.Expr.TheOpen.{Expr-F}
use Rattle.xmp_prog.specs.declared.expressions.Expr.TheFolds.{fold-Expr}

-- whether an expression is built of constants, of scalars that pass the test, of `+`, `-` and `*`, and of conversions
abbrev pub built_step : (ℕ → Bool) → Expr-F Bool Bool → Bool
built_step test (Expr-F.Const v ty) = true
built_step test (Expr-F.Scalar slot at) = test slot
built_step test (Expr-F.Binary o ty a b at) = is_bound_operator o && (a && b)
built_step test (Expr-F.Convert ty a) = a
built_step test _ = false

abbrev pub is_built : (ℕ → Bool) → Expr → Bool
is_built test = fold-Expr Bool Bool (built_step test) (λ a. false)

-- a number of a gmove
abbrev pub is_number : Expr → Bool
is_number = is_built (λ slot. true)

-- a bound names no scalar that the directive writes, but indices of the loops round its own
abbrev pub may_stand : (outer written : List ℕ) → ℕ → Bool
may_stand outer written slot = is_in outer slot || not (is_in written slot)

abbrev pub is_bound : (outer written : List ℕ) → Expr → Bool
is_bound outer written = is_built (may_stand outer written)
