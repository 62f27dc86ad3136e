-- What holds of each state that a run reaches, what it may change, how it may end, and what its value is: one relation that keeps all of these.
use Rattle.std.proofs.Common.{◌≡◌, ◌++◌, ℕ, zero, suc, ℤ, pos, Bool, true, false, List, Ok, refl}
use Rattle.std.specs.Prelude.{slice_get, slice_set, unwrap_or}
use Rattle.xmp_base.specs.declared.place.Place.{Place}
use Rattle.xmp_num.specs.declared.types.TrapKind.{TrapKind}
use Rattle.xmp_num.specs.declared.types.Ty.{Ty}
use Rattle.xmp_num.specs.declared.types.Ty.TheVariants.{Int}
use Rattle.xmp_num.specs.declared.types.BinOp.{BinOp}
use Rattle.xmp_num.specs.Arithmetic.{binary_of, wrap}
use Rattle.xmp_prog.specs.declared.expressions.Expr.TheOpen.{Expr-F}
use Rattle.xmp_prog.specs.declared.expressions.Expr.{Expr}
use Rattle.xmp_prog.specs.declared.statements.Target.{Target}
use Rattle.xmp_prog.specs.declared.statements.Plain.TheVariants as plain
use Rattle.xmp_prog.specs.declared.statements.Stmt.TheOpen.{Stmt-F}
use Rattle.xmp_prog.specs.Fits.{node_count}
use Rattle.xmp_prog.specs.Terms.{Of, call_type, result_of}
use Rattle.xmp_meaning.specs.declared.ends.End.{End}
use Rattle.xmp_meaning.specs.declared.ends.End.TheVariants.{Trapped, OutOfSteps}
use Rattle.xmp_meaning.specs.declared.ends.Flow.{Flow}
use Rattle.xmp_meaning.specs.declared.ends.Flow.TheVariants.{Next, Returned}
use Rattle.xmp_meaning.specs.Runs.{State, Step, Gave, Ended, Run, and_then, pure, step_of}
use Rattle.xmp_meaning.specs.Cells.{read_in, write_in}
use Rattle.xmp_meaning.specs.Declarations.{scalar_type, array_type}
use Rattle.xmp_meaning.specs.Blocks.{after, then_run, choose, turns}
use Rattle.xmp_meaning.specs.Context.{Context}
use Rattle.xmp_meaning.specs.Expressions.{call}
use Rattle.xmp_meaning.specs.Loops.{turn}
use Rattle.xmp_meaning_laws.proofs.Conditions.{Conditions, twice, Anything, KeepsWhere}

-- What is watched: what holds of states, what may differ between the state before and the state after, and which ends may come.
pub record Watch (X : Type 0) : Type 1 where
  pub holds : State X → Type 0
  pub changes : State X → State X → Type 0
  pub ends : End → Type 0

-- a step keeps what is watched, and its value is as said
abbrev pub Watched : {X A : Type 0} → Watch X → (A → Type 0) → State X → Step X A → Type 0
Watched w V s (Gave a t) = w.holds t × w.changes s t × V a
Watched w V s (Ended e t) = w.holds t × w.changes s t × w.ends e

-- What has to be shown of the watch: of each primitive.
pub record IsWatch (X : Type 0) (cx : Context) (c : Conditions) (Lies : Ty → ℤ → Type 0) (w : Watch X) : Type 1 where
  pub same : (s : State X) → w.changes s s
  pub then : (s t u : State X) → w.changes s t → w.changes t u → w.changes s u
  pub traps : (kind : TrapKind) (at : Place) → w.ends (Trapped kind at)
  pub scalars : (s : State X) (slot : ℕ) → c.reads slot → w.holds s → Lies (scalar_type cx.program slot) (unwrap_or (slice_get s.scalars slot) (pos 0))
  pub sets_scalar : (s : State X) (slot : ℕ) (v : ℤ) → c.sets slot → Lies (scalar_type cx.program slot) v → w.holds s
      → w.holds (record s { scalars = slice_set s.scalars slot v }) × w.changes s (record s { scalars = slice_set s.scalars slot v })
  pub cells : (s : State X) (row : ℕ) (at : ℤ) → c.gets row → w.holds s → Lies (array_type cx.program row) (read_in s.arrays row at)
  pub sets_cell : (s : State X) (row : ℕ) (at v : ℤ) → c.puts row → Lies (array_type cx.program row) v → w.holds s
      → w.holds (record s { arrays = write_in s.arrays row at v }) × w.changes s (record s { arrays = write_in s.arrays row at v })
  pub writes : (format : List ℕ) (arguments : List Expr) (at : Place) → c.statement (Stmt-F.Plain (plain.Print format arguments at))
      → (s : State X) (text : List ℕ) → w.holds s → w.holds (record s { out = s.out ++ text }) × w.changes s (record s { out = s.out ++ text })
  pub sets_taken : (to : Target) (at : Place) → c.statement (Stmt-F.Plain (plain.Scan to at))
      → (s : State X) (n : ℕ) → w.holds s → w.holds (record s { taken = n }) × w.changes s (record s { taken = n })
  pub calls : (function : ℕ) (types : List Ty) (at : Place) → c.term (Of (Expr-F.Call function types at)) → (vs : List ℤ) (s : State X) → w.holds s
      → Watched w (Lies (call_type (slice_get cx.program.functions function))) s (call cx function vs s)
  pub steps : (e : Expr) (writes : List ℕ) (at : Place) → c.statement (Stmt-F.While e writes at)
      → w.ends OutOfSteps × ((s : State X) (n : ℕ) → s.steps ≡ suc n → w.holds s → w.holds (record s { steps = n }) × w.changes s (record s { steps = n }))
  pub own_number : c.term (Of Expr-F.Node) → Lies Int (pos cx.node)
  pub node_counts : c.term (Of Expr-F.Nodes) → Lies Int (pos (node_count cx.program))
  pub constants : (v : ℤ) (ty : Ty) → c.term (Of (Expr-F.Const v ty)) → Lies ty v
  pub operators : (op : BinOp) (ty a b : Ty) (at : Place) → c.term (Of (Expr-F.Binary op ty a b at))
      → (x y z : ℤ) → Lies a x → Lies b y → binary_of op ty x y ≡ Ok z → Lies (result_of op ty) z
  pub truths : Lies Int (pos 0) × Lies Int (pos 1)
  pub choices : (a b d : Ty) → c.term (Of (Expr-F.Choose a b d)) → (v : ℤ) → Lies d v → Lies b v
  pub zeros : (ty : Ty) → Lies ty (pos 0)
  pub converts : (ty : Ty) (v : ℤ) → Lies ty (wrap ty v)
  pub indices : (slot : ℕ) → c.indexes slot → (v : ℤ) → Lies (scalar_type cx.program slot) (wrap Int v)

module _ {X : Type 0} {cx : Context} {c : Conditions} {Lies : Ty → ℤ → Type 0} {w : Watch X} (i : IsWatch X cx c Lies w) where
  -- from every state of which it holds; the second run is of no account
  abbrev pub Watches : (A : Type 0) → (A → Type 0) → Run X A → Run X A → Type 0
  Watches A V f g = (s : State X) → w.holds s → Watched w V s (f s)

  watched_on : {A B : Type 0} (V : A → Type 0) (W : B → Type 0) (s : State X) (f : A → Run X B) (r : Step X A) → Watched w V s r
      → ((a : A) → V a → (t : State X) → w.holds t → Watched w W t (f a t)) → Watched w W s (and_then r f)
  watched_on {A} {B} V W s f (Gave a t) h rest = joined (f a t) (rest a h.2 t h.0)
    where
      joined : (r : Step X B) → Watched w W t r → Watched w W s r
      joined (Gave b u) k = (k.0, i.then s t u h.1 k.1, k.2)
      joined (Ended e u) k = (k.0, i.then s t u h.1 k.1, k.2)
  watched_on V W s f (Ended e t) h rest = h

  weakened : {A : Type 0} (V W : A → Type 0) (s : State X) (r : Step X A) → ((a : A) → V a → W a) → Watched w V s r → Watched w W s r
  weakened V W s (Gave a t) f h = (h.0, h.1, f a h.2)
  weakened V W s (Ended e t) f h = h

  abbrev Steps_watched : Run X Flow → Type 0
  Steps_watched p = (s : State X) → w.holds s → Watched w (Anything Flow) s (p s)

  gives_next : (flow : Flow) → Steps_watched (pure flow)
  gives_next flow s h = (h, i.same s, tt)

  after_watched : (flow : Flow) (q : Run X Flow) → Steps_watched q → Steps_watched (after flow q)
  after_watched Next q h = h
  after_watched (Returned v) q h = gives_next (Returned v)

  choose_watched : (b : Bool) (p q : Run X Flow) → Steps_watched p → Steps_watched q → Steps_watched (choose b p q)
  choose_watched true p q h k = h
  choose_watched false p q h k = k

  turns_watched : (n : ℕ) (test : Run X Bool) (body : Run X Flow) → ((s : State X) → w.holds s → Watched w (Anything Bool) s (test s))
      → Steps_watched body → Steps_watched (turns n test body)
  turns_watched zero test body h k = gives_next Next
  turns_watched (suc n) test body h k = λ s holds.
      watched_on (Anything Bool) (Anything Flow) s (λ more. choose more (then_run body (turns n test body)) (pure Next)) (test s) (h s holds)
      (λ more v. choose_watched more (then_run body (turns n test body)) (pure Next)
      (λ t holds. watched_on (Anything Flow) (Anything Flow) t (λ flow. after flow (turns n test body)) (body t) (k t holds)
      (λ flow v. after_watched flow (turns n test body) (turns_watched n test body h k)))
      (gives_next Next))

  step_watched : (e : Expr) (writes : List ℕ) (at : Place) → c.statement (Stmt-F.While e writes at) → (s : State X) (n : ℕ) → s.steps ≡ n → w.holds s
      → Watched w (Anything (Unit {0})) s (step_of n s)
  step_watched e writes at is s zero q h = (h, i.same s, (i.steps e writes at is).0)
  step_watched e writes at is s (suc n) q h = let kept : _ = (i.steps e writes at is).1 s n q h in (kept.0, kept.1, tt)

  pub watches : KeepsWhere X X (twice cx) c Lies Watches
  watches = record {
    gives = λ a v s h. (h, i.same s, v);
    traps = λ kind at s h. (h, i.same s, i.traps kind at);
    goes_on = λ {A} {B} {V} {W} {p} {q} {f} {g} h rest s holds. watched_on V W s f (p s) (h s holds) rest;
    weakens = λ {A} {V} {W} {p} {q} h f s holds. weakened V W s (p s) f (h s holds);
    scalars = λ slot may s h. (h, i.same s, i.scalars s slot may h);
    sets_scalar = λ slot may v lies s h. let kept : _ = i.sets_scalar s slot v may lies h in (kept.0, kept.1, tt);
    writes = λ format arguments at is text s h. let kept : _ = i.writes format arguments at is s text h in (kept.0, kept.1, tt);
    inputs = λ to at is s h. (h, i.same s, tt);
    sets_taken = λ to at is n s h. let kept : _ = i.sets_taken to at is s n h in (kept.0, kept.1, tt);
    calls = λ function types at is vs s h. i.calls function types at is vs s h;
    own_number = λ is s h. (h, i.same s, i.own_number is);
    own_image = λ array types at is s h. (h, i.same s, tt);
    loops = λ {test} {test'} {body} {body'} e writes at is h k s holds.
        turns_watched (suc s.steps) test (turn body) h
        (λ t holds. watched_on (Anything (Unit {0})) (Anything Flow) t (λ u. body) (step_of t.steps t) (step_watched e writes at is t t.steps refl holds) (λ u v. k)) s holds;
    constants = i.constants;
    operators = i.operators;
    truths = i.truths;
    choices = i.choices;
    zeros = i.zeros;
    converts = i.converts;
    node_counts = i.node_counts;
    indices = i.indices;
  }

-- ---- where nothing is said of values

abbrev pub No_type : Ty → ℤ → Type 0
No_type ty v = Unit {0}
