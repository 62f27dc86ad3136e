-- The scalars and the functions of the parts fit.
use Rattle.std.proofs.Common.{◌≡◌, [], ℕ, true, Option}
use Rattle.xmp_prog.specs.declared.statements.Stmt.{Stmt}
use Rattle.xmp_prog.specs.declared.parts.ProgParts.{ProgParts}
use Rattle.xmp_prog.specs.Fits.{ScalarsFit, FunctionsFit}
use Rattle.xmp_syntax.specs.declared.program.Tree.{Tree}
use Rattle.xmp_names.specs.declared.world.World.{World}
use Rattle.xmp_names.specs.Walk.{Gave}
use Rattle.xmp_parts.specs.Parts.{Made}
use Rattle.xmp_walk.specs.Program.{program_of}
use Rattle.xmp_fits.specs.NumbersLie.{tree_lies}
use Rattle.xmp_fits.proofs.ProgramTerms.{TermsRight}
use Rattle.xmp_fits.proofs.ScalarClauses.{ScalarsRight, scalars_right}

pub scalars_fit : (p : ProgParts) → TermsRight p → ScalarsRight p → ScalarsFit p
scalars_fit p t s = record {
  numbers = t.numbers;
  declared_once = s.declared_once;
  declared_elsewhere = s.declared_elsewhere;
  main_scopes = s.main_scopes;
  function_scopes = s.function_scopes;
  start_values = t.start_values;
}

pub functions_fit : (p : ProgParts) → TermsRight p → ScalarsRight p → FunctionsFit p
functions_fit p t s = record { earlier = t.earlier; own_scalars = s.own_scalars; no_arrays = t.no_arrays; no_directives = t.no_directives }

-- The parts that are made of a tree in which no rule breaks.
pub scopes_fit : (t : Tree) (given : Option ℕ) (whole : Stmt) (v : World) (p : ProgParts) → tree_lies t ≡ true → program_of t given ≡ Gave whole v → v.broken ≡ [] → Made whole v p → TermsRight p → ScalarsFit p × FunctionsFit p
scopes_fit t given whole v p n e none m r = let s : ScalarsRight p = scalars_right p t given whole v n e none m in (scalars_fit p r s, functions_fit p r s)
