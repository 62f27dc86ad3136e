-- The image variables of a program, in the order of the declarations (this project, after XcalableMP 1.4, coarrays).
use Rattle.std.specs.Prelude.{ℕ, ◌==◌, Bool, ◌&&◌, if◌then◌else◌, List, [], ◌∷◌, ◌++◌, map, length, filter, fold, ℤ, Option, Some, None, unwrap_or, slice_get, slice_set}
use Rattle.std.specs.List.{flat_map}
use Rattle.xmp_num.specs.declared.types.Ty.TheVariants.{Int}
use Rattle.xmp_num.specs.Arithmetic.{wrap}
use Rattle.xmp_prog.specs.declared.expressions.Expr.{Expr}
use Rattle.xmp_prog.specs.declared.statements.Plain.{Plain}
use Rattle.xmp_prog.specs.declared.statements.Plain.TheVariants as plain
use Rattle.xmp_prog.specs.declared.statements.Stmt.{Stmt}
use Rattle.xmp_prog.specs.declared.statements.Stmt.TheOpen.{Stmt-F, Task-F}
use Rattle.xmp_prog.specs.declared.statements.Stmt.TheFolds.{fold-Stmt}
use Rattle.xmp_prog.specs.declared.parts.ProgParts.{ProgParts}
use Rattle.xmp_prog.specs.Fits.{node_count, slots_of_starts}
use Rattle.xmp_meaning.specs.Declarations.{scalar_type}
use Rattle.xmp_meaning.specs.Writes.{scalars_written}
use Rattle.xmp_spots.specs.Images.{Values, image_values}

-- a declaration of a scalar by its slot, with its initialiser
pub record Declaration : Type 0 where
  pub slot : ℕ
  pub value : Expr

-- ---- the declarations with an initialiser, in the order of the text

abbrev pub declared_by_plain : Plain → List Declaration
declared_by_plain (plain.Declare slot (Some value) at) = record { slot = slot; value = value } ∷ []
declared_by_plain _ = []

-- those of a statement, by those of the statements in it
abbrev pub declared_step : Stmt-F (List Declaration) (List Declaration) → List Declaration
declared_step (Stmt-F.Plain s) = declared_by_plain s
declared_step (Stmt-F.Block all) = flat_map (λ ds. ds) all
declared_step (Stmt-F.If test a b) = a ++ b
declared_step (Stmt-F.While test body at) = body
declared_step (Stmt-F.Counted head body) = body
declared_step (Stmt-F.Loop directive body) = body
declared_step (Stmt-F.Tasks all at) = flat_map (λ ds. ds) all

abbrev pub declared_in_task : Task-F (List Declaration) (List Declaration) → List Declaration
declared_in_task t = t.body

abbrev pub declared_in : Stmt → List Declaration
declared_in = fold-Stmt (List Declaration) (List Declaration) declared_step declared_in_task

-- file scope first, and then main
abbrev pub file_scope : ProgParts → List Declaration
file_scope p = map (λ s. record { slot = s.slot; value = s.value }) p.start

abbrev pub declarations : ProgParts → List Declaration
declarations p = file_scope p ++ declared_in p.body

-- ---- image variables

-- the scalars that are written, each as often as it is: at file scope, and by main's statements, declarations included
abbrev pub written_by : ProgParts → List ℕ
written_by p = slots_of_starts p ++ scalars_written p.body

abbrev pub times_written : ProgParts → ℕ → ℕ
times_written p slot = length (filter (λ n. n == slot) (written_by p))

-- the values with those of one more declaration: where the initialiser is an image expression with the image variables
-- so far, and nothing else writes the scalar. It gets them converted to its type. As it has none before, an initialiser
-- that names its own scalar is no image expression.
abbrev pub with_row : ProgParts → Values → ℕ → Option (List ℤ) → Values
with_row p values slot None = values
with_row p values slot (Some vs) =
    if times_written p slot == 1 then slice_set values slot (map (wrap (scalar_type p slot)) vs) else values

abbrev pub with_declaration : ProgParts → Values → Declaration → Values
with_declaration p values d = with_row p values d.slot (image_values (node_count p) values d.value)

-- the values of all image variables, by slot
abbrev pub image_variables : ProgParts → Values
image_variables p = fold (with_declaration p) (map (λ ty. []) p.scalars) (declarations p)
