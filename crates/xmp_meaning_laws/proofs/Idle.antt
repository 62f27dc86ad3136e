-- Where no directive stands, all handlers do the same.
use Rattle.std.proofs.Common.{◌≡◌, ◌++◌, ℤ, pos, true, false, true≢false, refl, sym, subst, ap}
use Rattle.std.specs.Prelude.{slice_get, slice_set, unwrap_or}
use Rattle.xmp_prog.specs.declared.statements.Stmt.{Stmt}
use Rattle.xmp_prog.specs.Statements.{statements_of}
use Rattle.xmp_meaning.specs.Runs.{State, cell, set_cell}
use Rattle.xmp_meaning.specs.Cells.{read_in, write_in}
use Rattle.xmp_meaning.specs.Context.{Context}
use Rattle.xmp_meaning.specs.Handlers.{Handlers, erased}
use Rattle.xmp_meaning.specs.Statements.{stmt_of}
use Rattle.xmp_meaning.specs.Laws.{with_extra, bare}
use Rattle.xmp_meaning_laws.specs.Laws.{KeepsCells, HandlersAreIdle, is_no_directive}
use Rattle.xmp_meaning_laws.proofs.Conditions.{Conditions, twice, Anything, HandlersKeep}
use Rattle.xmp_meaning_laws.proofs.Named.{named, all_of_test, all_of_each, statements_meet}
use Rattle.xmp_meaning_laws.proofs.Watched.{No_type}
use Rattle.xmp_meaning_laws.proofs.Simulated.{IsSimulation, Sided, Simulates, simulates, alike_of}
use Rattle.xmp_meaning_laws.proofs.WhereStatements.{kept_stmt}

-- nothing is asked
abbrev pub Free : {A : Type 0} → A → Type 0
Free a = Unit {0}

module _ {X : Type 0} (h : Handlers X) (cx : Context) (x : X) where
  abbrev idle_conditions : Conditions
  idle_conditions = named Free (KeepsCells X h) Free Free (λ y. is_no_directive y ≡ true)

  -- the first state is the second with this extra part
  abbrev Same : State X → State (Unit {0}) → Type 0
  Same s u = s ≡ with_extra (λ e. x) u

  idle_simulation : IsSimulation X (Unit {0}) (twice cx) idle_conditions Same
  idle_simulation = record {
    scalars = λ s u slot may k. ap (λ (z : State X). unwrap_or (slice_get z.scalars slot) (pos 0)) k;
    sets_scalar = λ s u slot v may k. ap (λ (z : State X). record z { scalars = slice_set z.scalars slot v }) k;
    cells = λ s u row at may k. ap (λ (z : State X). read_in z.arrays row at) k;
    sets_cell = λ s u row at v may k. ap (λ (z : State X). record z { arrays = write_in z.arrays row at v }) k;
    writes = λ s u text k. ap (λ (z : State X). record z { out = z.out ++ text }) k;
    inputs = λ s u k. ap (λ (z : State X). z.taken) k;
    sets_taken = λ s u n k. ap (λ (z : State X). record z { taken = n }) k;
    left = λ s u k. ap (λ (z : State X). z.steps) k;
    steps = λ s u n k. ap (λ (z : State X). record z { steps = n }) k;
    calls = λ function types at is vs n. refl;
    own_number = λ is. refl;
    own_image = λ array types at is s u k. (refl, k, tt);
  }

  none : {A : Type 0} → false ≡ true → A
  none e = absurd (true≢false (sym e))

  idle_handlers : HandlersKeep X (Unit {0}) (twice cx) idle_conditions No_type (Simulates idle_simulation) h erased
  idle_handlers = record {
    get = λ row may at s u k. subst (λ z. Sided Same (Anything ℤ) z (cell row at u)) (sym (may.get at s)) (ap (λ (z : State X). read_in z.arrays row at) k, k, tt);
    put = λ row may at v lies s u k. subst (λ z. Sided Same (Anything (Unit {0})) z (set_cell row at v u)) (sym (may.put at v s))
        (refl, ap (λ (z : State X). record z { arrays = write_in z.arrays row at v }) k, tt);
    loop = λ directive writes is. none is;
    reflect = λ arrays at is. none is;
    barrier = λ at is. none is;
    bcast = λ variables nodes at is. none is;
    gmove = λ target source at is. none is;
    tasks = λ sets at is. none is;
    sync = λ status at is. none is;
  }

pub handlers_are_idle : (X : Type 0) (h : Handlers X) (cx : Context) (s : Stmt) → HandlersAreIdle X h cx s
handlers_are_idle X h cx s none arrays t =
    alike_of (λ a b. a ≡ with_extra (λ x. t.extra) b) (Anything _) (stmt_of h cx s t) (stmt_of erased cx s (bare t))
    (kept_stmt (simulates (idle_simulation h cx t.extra)) (idle_handlers h cx t.extra) s
    (statements_meet cx.program Free (KeepsCells X h) Free Free (λ y. is_no_directive y ≡ true) (statements_of s)
    (all_of_test is_no_directive (statements_of s) none) (all_of_each Free (λ n. tt) _) arrays (all_of_each Free (λ n. tt) _) (all_of_each Free (λ n. tt) _))
    t (bare t) refl)
