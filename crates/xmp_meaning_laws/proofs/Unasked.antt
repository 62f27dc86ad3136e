-- Where nothing asks for it, the node's number is of no account.
use Rattle.std.proofs.Common.{◌≡◌, ◌++◌, ◌==◌, ◌||◌, not, ℕ, zero, suc, ℤ, pos, Bool, true, false, true≢false, List, [], Option, Some, None, refl, sym, ap, ◌∙◌, if◌then◌else◌}
use Rattle.std.specs.Prelude.{slice_get, slice_set, unwrap_or}
use Rattle.std.specs.List.{list_all}
use Rattle.xmp_num.specs.Arithmetic.{wrap}
use Rattle.xmp_prog.specs.declared.parts.ProgParts.{ProgParts}
use Rattle.xmp_prog.specs.declared.parts.Function.{Function}
use Rattle.xmp_prog.specs.declared.statements.Stmt.{Stmt}
use Rattle.xmp_prog.specs.Statements.{statements_of, terms_of_stmt}
use Rattle.xmp_meaning.specs.declared.ends.Flow.{Flow}
use Rattle.xmp_meaning.specs.Runs.{State, Step, Gave, Ended, Run, and_then, ◌>>=◌, pure}
use Rattle.xmp_meaning.specs.Cells.{read_in, write_in}
use Rattle.xmp_meaning.specs.Declarations.{is_coarray}
use Rattle.xmp_meaning.specs.Layouts.{Whole}
use Rattle.xmp_meaning.specs.Handlers.{erased}
use Rattle.xmp_meaning.specs.Statements.{stmt_of}
use Rattle.xmp_meaning.specs.Calls.{frame, bind, returned, invoke_some, context, call_of}
use Rattle.xmp_meaning_laws.specs.Laws.{asks_nothing, function_asks_nothing, is_unasking, NodeUnasked}
use Rattle.xmp_meaning_laws.proofs.Conditions.{Two, Anything}
use Rattle.xmp_meaning_laws.proofs.Named.{named, all_of_test, all_of_each, statements_meet}
use Rattle.xmp_meaning_laws.proofs.Idle.{Free}
use Rattle.xmp_meaning_laws.proofs.Simulated.{IsSimulation, Sided, simulates}
use Rattle.xmp_meaning_laws.proofs.WhereErased.{erased_keep}
use Rattle.xmp_meaning_laws.proofs.WhereStatements.{kept_stmt}

-- the contexts of two nodes
abbrev two_nodes : ProgParts → (node other : ℕ) → List ℕ → ℕ → Two
two_nodes p node other input n =
    record { program = p; layout = Whole; input = input; node = node; other = other; call = call_of p node n; other_call = call_of p other n }

-- calls of functions that pass a test are the same at both
abbrev CallsSame : ProgParts → (node other : ℕ) → (ℕ → Bool) → ℕ → Type 0
CallsSame p node other test n = (k : ℕ) → test k ≡ true → (vs : List ℤ) (steps : ℕ) → call_of p node n k vs steps ≡ call_of p other n k vs steps

same_steps : {X A : Type 0} (V : A → Type 0) (r q : Step X A) → Sided (λ a b. a ≡ b) V r q → r ≡ q
same_steps V (Gave a s) (Gave b t) h = ap (λ z. Gave z s) h.0 ∙ ap (λ z. Gave b z) h.1
same_steps V (Gave a s) (Ended e t) h = absurd h
same_steps V (Ended e s) (Gave b t) h = absurd h
same_steps V (Ended e s) (Ended f t) h = ap (λ z. Ended z s) h.0 ∙ ap (λ z. Ended f z) h.1

-- an own cell is one of no coarray
no_own : (a b : Bool) → (not true || not b) ≡ true → b ≡ false
no_own a true e = absurd (true≢false (sym e))
no_own a false e = refl

module _ {X : Type 0} (p : ProgParts) (node other : ℕ) (input : List ℕ) (n : ℕ) (test : ℕ → Bool) (calls : CallsSame p node other test n) where
  unasked_simulation : IsSimulation X X (two_nodes p node other input n) (named Free Free Free (λ t. asks_nothing p test t ≡ true) Free) (λ a b. a ≡ b)
  unasked_simulation = record {
    scalars = λ s u slot may k. ap (λ (z : State X). unwrap_or (slice_get z.scalars slot) (pos 0)) k;
    sets_scalar = λ s u slot v may k. ap (λ (z : State X). record z { scalars = slice_set z.scalars slot v }) k;
    cells = λ s u row at may k. ap (λ (z : State X). read_in z.arrays row at) k;
    sets_cell = λ s u row at v may k. ap (λ (z : State X). record z { arrays = write_in z.arrays row at v }) k;
    writes = λ s u text k. ap (λ (z : State X). record z { out = z.out ++ text }) k;
    inputs = λ s u k. ap (λ (z : State X). z.taken) k;
    sets_taken = λ s u m k. ap (λ (z : State X). record z { taken = m }) k;
    left = λ s u k. ap (λ (z : State X). z.steps) k;
    steps = λ s u m k. ap (λ (z : State X). record z { steps = m }) k;
    calls = λ function types at is vs steps. calls function is vs steps;
    own_number = λ is. absurd (true≢false (sym is));
    own_image = λ array types at is s u k. (same_image (is_coarray p array) (no_own true (is_coarray p array) is), k, tt);
  }
    where
      same_image : (b : Bool) → b ≡ false → (if b then node else 0) ≡ (if b then other else 0)
      same_image true e = absurd (true≢false e)
      same_image false e = refl

  pub unasked_where : (s : Stmt) → list_all (asks_nothing p test) (terms_of_stmt p s) ≡ true → (t : State X)
      → stmt_of erased (context p node input n) s t ≡ stmt_of erased (context p other input n) s t
  unasked_where s nothing t =
      same_steps (Anything Flow) (stmt_of erased (context p node input n) s t) (stmt_of erased (context p other input n) s t)
      (kept_stmt (simulates unasked_simulation) (erased_keep (simulates unasked_simulation) (record {
        gets = λ row may at s u k. (unasked_simulation.cells s u row at may k, k, tt);
        puts = λ row may at v lies s u k. (refl, unasked_simulation.sets_cell s u row at v may k, tt);
      })) s
      (statements_meet p Free Free Free (λ t. asks_nothing p test t ≡ true) Free (statements_of s)
      (all_of_each Free (λ n. tt) _) (all_of_each Free (λ n. tt) _) (all_of_each Free (λ n. tt) _) (all_of_each Free (λ n. tt) _)
      (all_of_test (asks_nothing p test) (terms_of_stmt p s) nothing)) t t refl)

-- ---- functions

same_after : {A : Type 0} (r : Step (Unit {0}) A) (f g : A → Run (Unit {0}) ℤ) → ((a : A) (s : State (Unit {0})) → f a s ≡ g a s) → and_then r f ≡ and_then r g
same_after (Gave a s) f g h = h a s
same_after (Ended e s) f g h = refl

invoke_same : (p : ProgParts) (node other n : ℕ) (test : ℕ → Bool) → CallsSame p node other test n → (f : Option Function) → function_asks_nothing p test f ≡ true
    → (vs : List ℤ) (s : State (Unit {0})) → invoke_some (context p node [] n) f vs s ≡ invoke_some (context p other [] n) f vs s
invoke_same p node other n test calls None nothing vs s = refl
invoke_same p node other n test calls (Some f) nothing vs s =
    same_after (bind p f.parameters vs s) (λ u. stmt_of erased (context p node [] n) f.body >>= (λ flow. pure (wrap f.result (returned flow))))
    (λ u. stmt_of erased (context p other [] n) f.body >>= (λ flow. pure (wrap f.result (returned flow))))
    (λ u t. ap (λ r. and_then r (λ flow. pure (wrap f.result (returned flow)))) (unasked_where p node other [] n test calls f.body nothing t))

calls_same : (p : ProgParts) (node other n : ℕ) → CallsSame p node other (is_unasking p n) n
unfolding call_of
calls_same p node other zero k is vs steps = refl
calls_same p node other (suc n) k is vs steps =
    at_test (k == n) (calls_same p node other n) (λ nothing. calls_same p node other n k nothing vs steps) is
  where
    at_test : (b : Bool) → CallsSame p node other (is_unasking p n) n → (is_unasking p n k ≡ true → call_of p node n k vs steps ≡ call_of p other n k vs steps)
        → (if b then function_asks_nothing p (is_unasking p n) (slice_get p.functions n) else is_unasking p n k) ≡ true
        → (if b then invoke_some (context p node [] n) (slice_get p.functions n) vs (frame p steps) else call_of p node n k vs steps)
        ≡ (if b then invoke_some (context p other [] n) (slice_get p.functions n) vs (frame p steps) else call_of p other n k vs steps)
    at_test true same rest nothing = invoke_same p node other n (is_unasking p n) same (slice_get p.functions n) nothing vs (frame p steps)
    at_test false same rest nothing = rest nothing

pub node_unasked : (X : Type 0) (p : ProgParts) (node other : ℕ) (input : List ℕ) (n : ℕ) (s : Stmt) → NodeUnasked X p node other input n s
node_unasked X p node other input n s nothing t = unasked_where p node other input n (is_unasking p n) (calls_same p node other n) s nothing t
