-- Which scalars and arrays a statement writes.
use Rattle.std.specs.Prelude.{ℕ, List, [], ◌∷◌, ◌++◌}
use Rattle.std.specs.List.{concat}
use Rattle.xmp_prog.specs.Statements.{indices_of, plain_writes, arrays_of_side}
use Rattle.xmp_prog.specs.declared.statements.Target.{Target}
use Rattle.xmp_prog.specs.declared.statements.Target.TheVariants as target
use Rattle.xmp_prog.specs.declared.statements.Plain.{Plain}
use Rattle.xmp_prog.specs.declared.statements.Plain.TheVariants as plain
use Rattle.xmp_prog.specs.declared.statements.Stmt.{Stmt}
use Rattle.xmp_prog.specs.declared.statements.Stmt.TheOpen.{Stmt-F, Task-F}
use Rattle.xmp_prog.specs.declared.statements.Stmt.TheFolds.{fold-Stmt}

-- the array of which a target is an element
abbrev pub target_arrays : Target → List ℕ
target_arrays (target.Scalar slot at) = []
target_arrays (target.Cell a) = a.array ∷ []

-- the arrays that a statement writes which holds no statement
abbrev pub plain_arrays : Plain → List ℕ
plain_arrays (plain.Set to compound e) = target_arrays to
plain_arrays (plain.Scan to at) = target_arrays to
plain_arrays (plain.Gmove to from at) = arrays_of_side to
plain_arrays _ = []

-- the same for a statement, by what the statements in it write
abbrev pub scalars_step : Stmt-F (List ℕ) (List ℕ) → List ℕ
scalars_step (Stmt-F.Plain p) = plain_writes p
scalars_step (Stmt-F.Block all) = concat all
scalars_step (Stmt-F.If e a b) = a ++ b
scalars_step (Stmt-F.While e body at) = body
scalars_step (Stmt-F.Counted head body) = head.index.number ∷ body
scalars_step (Stmt-F.Loop directive body) = indices_of directive.nest ++ body
scalars_step (Stmt-F.Tasks all at) = concat all

abbrev pub arrays_step : Stmt-F (List ℕ) (List ℕ) → List ℕ
arrays_step (Stmt-F.Plain p) = plain_arrays p
arrays_step (Stmt-F.Block all) = concat all
arrays_step (Stmt-F.If e a b) = a ++ b
arrays_step (Stmt-F.While e body at) = body
arrays_step (Stmt-F.Counted head body) = body
arrays_step (Stmt-F.Loop directive body) = body
arrays_step (Stmt-F.Tasks all at) = concat all

abbrev pub written_in_task : Task-F (List ℕ) (List ℕ) → List ℕ
written_in_task t = t.body

-- the scalars that a statement writes: targets, indices, and the status of `xmp_sync_all`
abbrev pub scalars_written : Stmt → List ℕ
scalars_written = fold-Stmt (List ℕ) (List ℕ) scalars_step written_in_task

-- the arrays of which it writes cells
abbrev pub arrays_written : Stmt → List ℕ
arrays_written = fold-Stmt (List ℕ) (List ℕ) arrays_step written_in_task
