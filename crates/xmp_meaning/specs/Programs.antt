-- A whole program.
use Rattle.std.specs.Prelude.{ℕ, List, [], ◌∷◌, ◌++◌, length, map, replicate, ℤ, pos, take, drop, zero, suc}
use Rattle.xmp_map.specs.RowMajor.{product}
use Rattle.xmp_prog.specs.declared.parts.ProgParts.{ProgParts}
use Rattle.xmp_prog.specs.declared.parts.Array.{Array}
use Rattle.xmp_prog.specs.declared.parts.Home.{Home}
use Rattle.xmp_prog.specs.declared.parts.Home.TheVariants as home
use Rattle.xmp_prog.specs.declared.parts.Start.{Start}
use Rattle.xmp_meaning.specs.declared.location.Location.TheVariants as location
use Rattle.xmp_meaning.specs.declared.ends.End.TheVariants as end
use Rattle.xmp_meaning.specs.declared.ends.Flow.{Flow}
use Rattle.xmp_meaning.specs.declared.ends.Flow.TheVariants.{Next}
use Rattle.xmp_meaning.specs.declared.outcome.Outcome.{Outcome}
use Rattle.xmp_meaning.specs.declared.outcome.Outcome.TheVariants as outcome
use Rattle.xmp_meaning.specs.Runs.{State, Step, Gave, Ended, Run, ◌>>=◌, pure}
use Rattle.xmp_prog.specs.Fits.{node_count}
use Rattle.xmp_meaning.specs.Layouts.{Layout, Whole, row_length}
use Rattle.xmp_meaning.specs.Context.{Context}
use Rattle.xmp_meaning.specs.Handlers.{Handlers, erased}
use Rattle.xmp_meaning.specs.Expressions.{expr_of}
use Rattle.xmp_meaning.specs.Assignments.{store}
use Rattle.xmp_meaning.specs.Blocks.{then_run}
use Rattle.xmp_meaning.specs.Statements.{stmt_of}
use Rattle.xmp_meaning.specs.Calls.{main_context}

-- every cell is 0 at first
abbrev pub no_writes : Layout → ProgParts → List (List ℤ)
no_writes layout p = map (λ a. replicate (row_length layout p a) (pos 0)) p.arrays

-- what a program begins with: every scalar and every cell is 0, and nothing is printed or read
abbrev pub beginning : {X : Type 0} → Layout → ProgParts → ℕ → X → State X
beginning layout p steps extra = record {
  scalars = replicate (length p.scalars) (pos 0);
  arrays = no_writes layout p;
  out = [];
  taken = 0;
  steps = steps;
  extra = extra;
}

-- the initialisers at file scope, in order
abbrev pub starts : {X : Type 0} → Handlers X → Context → List Start → Run X Flow
starts h cx [] = pure Next
starts h cx (s ∷ ss) = do
  v ← expr_of h cx s.value
  _ ← store h cx (location.Scalar s.slot) v
  starts h cx ss

-- the initialisers at file scope, and then main's statement
abbrev pub program : {X : Type 0} → Handlers X → Context → Run X Flow
program h cx = then_run (starts h cx cx.program.start) (stmt_of h cx cx.program.body)

-- ---- what it comes to

-- the rows of the images' cells, `many` for each of so many images
abbrev pub cut : ℕ → ℕ → List ℤ → List (List ℤ)
cut zero many cells = []
cut (suc n) many cells = take many cells ∷ cut n many (drop many cells)

-- which rows of an array are told: those of each image of a coarray, and that of a distributed array
abbrev pub told_of : ProgParts → Array → Home → List ℤ → List (List ℤ)
told_of p a home.Copy cells = []
told_of p a (home.Spread t m) cells = cells ∷ []
told_of p a home.Image cells = cut (node_count p) (product a.extents) cells

-- the same for all arrays in the order of their declarations
abbrev pub told : ProgParts → List Array → List (List ℤ) → List (List ℤ)
told p (a ∷ all) (cells ∷ rows) = told_of p a a.home cells ++ told p all rows
told p [] rows = []
told p (a ∷ all) [] = []

-- what a run comes to, with the output and the arrays at its end; what main returns isn't used
abbrev pub outcome_of : {X : Type 0} → ProgParts → Step X Flow → Outcome
outcome_of p (Gave flow s) = outcome.Ended s.out (told p p.arrays s.arrays)
outcome_of p (Ended (end.Trapped kind at) s) = outcome.Trapped s.out kind at
outcome_of p (Ended end.OutOfSteps s) = outcome.OutOfSteps s.out
outcome_of p (Ended end.PhaseEnd s) = outcome.Ended s.out (told p p.arrays s.arrays)

-- ---- the serial meaning: the program with its directives erased, on an input, with so many steps for the turns of uncounted loops

abbrev pub serial_end : ProgParts → List ℕ → ℕ → Step (Unit {0}) Flow
serial_end p input steps = program erased (main_context p 0 input) (beginning Whole p steps tt)

-- what the program comes to
abbrev pub serial : ProgParts → List ℕ → ℕ → Outcome
serial p input steps = outcome_of p (serial_end p input steps)
