-- A run doesn't look at its output.
use Rattle.std.proofs.Common.{◌≡◌, ◌++◌, ℕ, pos, List, refl, sym, ap, ◌∙◌, append_assoc}
use Rattle.std.specs.Prelude.{slice_get, slice_set, unwrap_or}
use Rattle.xmp_prog.specs.declared.statements.Stmt.{Stmt}
use Rattle.xmp_prog.specs.Statements.{statements_of}
use Rattle.xmp_meaning.specs.Runs.{State}
use Rattle.xmp_meaning.specs.Cells.{read_in, write_in}
use Rattle.xmp_meaning.specs.Context.{Context}
use Rattle.xmp_meaning.specs.Handlers.{erased}
use Rattle.xmp_meaning.specs.Statements.{stmt_of}
use Rattle.xmp_meaning_laws.specs.Laws.{behind, OutputUnseen}
use Rattle.xmp_meaning_laws.proofs.Conditions.{twice, Anything}
use Rattle.xmp_meaning_laws.proofs.Named.{named, all_of_each, statements_meet}
use Rattle.xmp_meaning_laws.proofs.Idle.{Free}
use Rattle.xmp_meaning_laws.proofs.Simulated.{IsSimulation, simulates, alike_of}
use Rattle.xmp_meaning_laws.proofs.WhereErased.{erased_keep}
use Rattle.xmp_meaning_laws.proofs.WhereStatements.{kept_stmt}

module _ {X : Type 0} (cx : Context) (text : List ℕ) where
  pub unseen_simulation : IsSimulation X X (twice cx) (named Free Free Free Free Free) (λ a b. b ≡ behind text a)
  unseen_simulation = record {
    scalars = λ s u slot may k. ap (λ (z : State X). unwrap_or (slice_get z.scalars slot) (pos 0)) (sym k);
    sets_scalar = λ s u slot v may k. ap (λ (z : State X). record z { scalars = slice_set z.scalars slot v }) k;
    cells = λ s u row at may k. ap (λ (z : State X). read_in z.arrays row at) (sym k);
    sets_cell = λ s u row at v may k. ap (λ (z : State X). record z { arrays = write_in z.arrays row at v }) k;
    writes = λ s u more k. ap (λ (z : State X). record z { out = z.out ++ more }) k
        ∙ ap (λ o. record { scalars = s.scalars; arrays = s.arrays; out = o; taken = s.taken; steps = s.steps; extra = s.extra }) (append_assoc text s.out more);
    inputs = λ s u k. ap (λ (z : State X). z.taken) (sym k);
    sets_taken = λ s u n k. ap (λ (z : State X). record z { taken = n }) k;
    left = λ s u k. ap (λ (z : State X). z.steps) (sym k);
    steps = λ s u n k. ap (λ (z : State X). record z { steps = n }) k;
    calls = λ function types at is vs n. refl;
    own_number = λ is. refl;
    own_image = λ array types at is s u k. (refl, k, tt);
  }

pub output_unseen : (X : Type 0) (cx : Context) (s : Stmt) → OutputUnseen {X = X} (stmt_of erased cx s)
output_unseen X cx s text t =
    alike_of (λ a b. b ≡ behind text a) (Anything _) (stmt_of erased cx s t) (stmt_of erased cx s (behind text t))
    (kept_stmt (simulates (unseen_simulation cx text)) (erased_keep (simulates (unseen_simulation cx text)) (record {
      gets = λ row may at s u k. ((unseen_simulation cx text).cells s u row at may k, k, tt);
      puts = λ row may at v lies s u k. (refl, (unseen_simulation cx text).sets_cell s u row at v may k, tt);
    })) s
    (statements_meet cx.program Free Free Free Free Free (statements_of s)
    (all_of_each Free (λ n. tt) _) (all_of_each Free (λ n. tt) _) (all_of_each Free (λ n. tt) _) (all_of_each Free (λ n. tt) _) (all_of_each Free (λ n. tt) _))
    t (behind text t) refl)
