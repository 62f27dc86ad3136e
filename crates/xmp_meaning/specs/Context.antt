-- What a run is read against.
use Rattle.std.specs.Prelude.{ℕ, List, ℤ}
use Rattle.xmp_prog.specs.declared.parts.ProgParts.{ProgParts}
use Rattle.xmp_meaning.specs.Runs.{Step}
use Rattle.xmp_meaning.specs.Layouts.{Layout}

-- The program, where the store keeps its arrays' cells, the number of the node that runs, the input, and what a call
-- of a function with these arguments comes to where so many steps are left: in a state of its own.
pub record Context : Type 0 where
  pub program : ProgParts
  pub layout : Layout
  pub node : ℕ
  pub input : List ℕ
  pub call : ℕ → List ℤ → ℕ → Step (Unit {0}) ℤ
