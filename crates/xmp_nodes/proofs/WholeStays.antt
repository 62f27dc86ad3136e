-- The serial run that notes leaves whole rows, and values in their types.
use Rattle.std.proofs.Common.{◌≡◌, ◌<◌, ℕ, Bool, true, List, [], ◌∷◌, map, length, refl, sym, subst, ap, ◌∙◌}
use Rattle.std.specs.List.{AllByRecursion, list_all}
use Rattle.std.specs.Prelude.{slice_get, unwrap_or, ℤ, pos}
use Rattle.xmp_num.specs.Arithmetic.{FitsType}
use Rattle.xmp_meaning.specs.Cells.{read_in}
use Rattle.xmp_meaning.specs.Declarations.{scalar_type, array_type}
use Rattle.xmp_prog.specs.declared.parts.ProgParts.{ProgParts}
use Rattle.xmp_prog.specs.declared.statements.Stmt.{Stmt}
use Rattle.xmp_prog.specs.Fits.{node_count}
use Rattle.xmp_prog.specs.Tests.{constant_fits, operands_fit, choice_fits, counted_fits}
use Rattle.xmp_prog.specs.Directives.{nest_counted}
use Rattle.xmp_prog.specs.Statements.{statements_of, terms_of_stmt}
use Rattle.xmp_meaning.specs.declared.ends.Flow.{Flow}
use Rattle.xmp_meaning.specs.Runs.{State, Step, Gave, Ended, state_of}
use Rattle.xmp_meaning.specs.Handlers.{erased}
use Rattle.xmp_meaning.specs.Statements.{stmt_of}
use Rattle.xmp_meaning.specs.Calls.{main_context}
use Rattle.xmp_meaning.specs.Exchanges.{Notes, traced}
use Rattle.xmp_meaning.specs.Laws.{bare, bare_step}
use Rattle.xmp_meaning.proofs.Notes.{notes_apart}
use Rattle.xmp_meaning_laws.specs.Laws.{SameShape, ValuesLie, TypesFit}
use Rattle.xmp_meaning_laws.proofs.CountedLoops.{both_true}
use Rattle.xmp_meaning_laws.proofs.Shapes as shapes
use Rattle.xmp_meaning_laws.proofs.Types.{statements_lie}
use Rattle.xmp_nodes.proofs.Agrees.{IsWhole}
use Rattle.xmp_nodes.proofs.Standing.{TermStands, StatementStands, PartFits}

all_passing : {A : Type 0} (P : A → Type 0) (test : A → Bool) → ((x : A) → P x → test x ≡ true) → (xs : List A) → AllByRecursion P xs → list_all test xs ≡ true
all_passing P test f [] h = refl
all_passing P test f (x ∷ xs) h = both_true (test x) (list_all test xs) (f x h.0) (all_passing P test f xs h.1)

types_fit : (p : ProgParts) (x : Stmt) → PartFits p x → TypesFit p x
types_fit p x f = record {
  terms = record {
    constants = all_passing (TermStands p) constant_fits (λ t h. h.constant) (terms_of_stmt p x) f.terms;
    operands = all_passing (TermStands p) operands_fit (λ t h. h.operands) (terms_of_stmt p x) f.terms;
    choices = all_passing (TermStands p) choice_fits (λ t h. h.choice) (terms_of_stmt p x) f.terms;
  };
  counted = all_passing (StatementStands p) (counted_fits p) (λ y h. h.counted) (statements_of x) f.statements;
  nests = all_passing (StatementStands p) (nest_counted p) (λ y h. h.nest) (statements_of x) f.statements;
}

bare_scalars : {X A : Type 0} (r : Step X A) → (state_of (bare_step r)).scalars ≡ (state_of r).scalars
bare_scalars (Gave a s) = refl
bare_scalars (Ended e s) = refl

bare_arrays : {X A : Type 0} (r : Step X A) → (state_of (bare_step r)).arrays ≡ (state_of r).arrays
bare_arrays (Gave a s) = refl
bare_arrays (Ended e s) = refl

-- behind a statement of a program whose parts fit
pub whole_stays : (p : ProgParts) (input : List ℕ) (x : Stmt) → 0 < node_count p → PartFits p x → (s : State Notes) → IsWhole p s
    → IsWhole p (state_of (stmt_of (traced p) (main_context p 0 input) x s))
whole_stays p input x some f s w =
    let run : Step Notes Flow = stmt_of (traced p) (main_context p 0 input) x s in
    let plain : Step (Unit {0}) Flow = stmt_of erased (main_context p 0 input) x (bare s) in
    let same : plain ≡ bare_step run = notes_apart p (main_context p 0 input) x s in
    let scalars_same : (state_of plain).scalars ≡ (state_of run).scalars = ap (λ (r : Step (Unit {0}) Flow). (state_of r).scalars) same ∙ bare_scalars run in
    let arrays_same : (state_of plain).arrays ≡ (state_of run).arrays = ap (λ (r : Step (Unit {0}) Flow). (state_of r).arrays) same ∙ bare_arrays run in
    let shape : SameShape (bare s) (state_of plain) = shapes.shape_stays (main_context p 0 input) x (bare s) in
    let lies : ValuesLie (Unit {0}) p (state_of plain) = statements_lie (Unit {0}) p 0 input (length p.functions) x some (types_fit p x f) (bare s)
    (record { scalars = w.values.scalars; cells = w.values.cells }) in
    record {
      scalars = ap length (sym scalars_same) ∙ shape.scalars ∙ w.scalars;
      rows = ap (λ rows. map length rows) (sym arrays_same) ∙ shape.rows ∙ w.rows;
      values = record {
        scalars = subst (λ xs. (slot : ℕ) → FitsType (scalar_type p slot) (unwrap_or (slice_get xs slot) (pos 0))) scalars_same lies.scalars;
        cells = subst (λ rows. (array : ℕ) (at : ℤ) → FitsType (array_type p array) (read_in rows array at)) arrays_same lies.cells;
      };
    }
