-- Which functions have a loop that isn't counted. Source: this project.
use Rattle.std.specs.Prelude.{ℕ, Bool, true, false, ◌||◌, List, [], ◌∷◌, ◌++◌}
use Rattle.std.specs.List.{list_any}
use Rattle.xmp_prog.specs.Terms.{Term, Of}
use Rattle.xmp_prog.specs.Statements.{Statement, statements_of, terms_in}
use Rattle.xmp_prog.specs.declared.expressions.Expr.TheOpen.{Expr-F}
use Rattle.xmp_prog.specs.declared.statements.Stmt.{Stmt}
use Rattle.xmp_prog.specs.declared.statements.Stmt.TheOpen.{Stmt-F}
use Rattle.xmp_prog.specs.declared.parts.Function.{Function}
use Rattle.xmp_prog.specs.declared.parts.ProgParts.{ProgParts}
use Rattle.xmp_loops.specs.Tables.{flag_at}

-- whether a term calls a function that does
abbrev pub calls_looping : (ℕ → Bool) → Term → Bool
calls_looping loops (Of (Expr-F.Call function arguments at)) = loops function
calls_looping loops _ = false

-- whether a statement, those in it apart, is an uncounted loop, or calls a function that has one
abbrev pub is_uncounted : Statement → Bool
is_uncounted (Stmt-F.While test body at) = true
is_uncounted _ = false

abbrev pub loops_at : ProgParts → (ℕ → Bool) → Statement → Bool
loops_at p loops x = is_uncounted x || list_any (calls_looping loops) (terms_in p x)

abbrev pub loops_in : ProgParts → (ℕ → Bool) → Stmt → Bool
loops_in p loops x = list_any (loops_at p loops) (statements_of x)

-- by number, from those of the functions before, which alone a function calls
abbrev pub loopers_from : ProgParts → (known : List Bool) → List Function → List Bool
loopers_from p known [] = known
loopers_from p known (f ∷ fs) = loopers_from p (known ++ loops_in p (flag_at known) f.body ∷ []) fs

-- whether a function has an uncounted loop, or calls one that has
abbrev pub function_loops : ProgParts → ℕ → Bool
function_loops p = flag_at (loopers_from p [] p.functions)
