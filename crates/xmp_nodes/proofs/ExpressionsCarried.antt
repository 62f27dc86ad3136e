-- Expressions at a node follow the serial ones along their reads.
use Rattle.std.proofs.Common.{◌≡◌, ◌<◌, ◌++◌, ℕ, ℤ, Bool, true, List, Some, refl, sym, subst, ap, ◌∙◌, arith}
use Rattle.std.specs.List.{AllByRecursion}
use Rattle.xmp_num.specs.declared.types.Ty.{Ty}
use Rattle.xmp_num.specs.Arithmetic.{FitsType}
use Rattle.xmp_paths.specs.NodeSets.{has}
use Rattle.xmp_paths.specs.Plans.{Plan, Path}
use Rattle.xmp_paths.specs.Safe.{left}
use Rattle.xmp_paths.specs.declared.event.Event.{Event}
use Rattle.xmp_paths.proofs.PathLaws.{some_path}
use Rattle.xmp_prog.specs.declared.expressions.Expr.{Expr}
use Rattle.xmp_prog.specs.Terms.{terms_of, type_of}
use Rattle.xmp_prog.specs.Fits.{node_count}
use Rattle.xmp_flow.specs.Reads.{reads_of}
use Rattle.xmp_meaning.specs.Runs.{State, Step, Gave, Ended, Run}
use Rattle.xmp_meaning.specs.Handlers.{erased}
use Rattle.xmp_meaning.specs.Expressions.{expr_of}
use Rattle.xmp_meaning.specs.Exchanges.{Notes}
use Rattle.xmp_meaning.specs.Traffic.{node_context}
use Rattle.xmp_meaning_laws.specs.Laws.{TakesNoStep, GivesA}
use Rattle.xmp_meaning_laws.specs.Agreement.{seen, StepsMeet, IsKnown}
use Rattle.xmp_meaning_laws.proofs.Types.{expressions_lie}
use Rattle.xmp_nodes.proofs.Agrees.{Stand, Agrees, Framed, TurnLeaves, Along}
use Rattle.xmp_nodes.proofs.Standing.{TermStands, IsSetting}
use Rattle.xmp_nodes.proofs.Leaves.{serial_cx, ExpressionsCarry}
use Rattle.xmp_nodes.proofs.Follow.{agrees_fewer}
use Rattle.xmp_nodes.proofs.MetEvents.{EachEvent, IsFine, each_is_fine}
use Rattle.xmp_nodes.proofs.ReadsMark.{reads_unmarked, reads_keep}
use Rattle.xmp_nodes.proofs.SameRuns.{noted_expr}
use Rattle.xmp_nodes.proofs.ElementCells.{known_in}
use Rattle.xmp_nodes.proofs.NodeExpressions.{terms_fit, agreed, Beside}
use Rattle.xmp_nodes.proofs.NodeReads.{seen_good, expr_meets, expr_steps, agrees_stepped}

pub first_below : (k n : ℕ) → k < n → 0 < n
first_below k n h = omega (arith, h)

module _ (a : Stand) (is : IsSetting a) (there : has a.set.nodes a.node ≡ true) (input : List ℕ) (stale : ℕ → Bool) (s : State Notes) (n : State (Unit {0})) (g : Agrees a stale s n) where
  abbrev pub Near : State Notes → State (Unit {0}) → Type 0
  Near t m = Beside a is there input stale s n g (agreed a stale) t m

  pub near_agrees : (t : State Notes) (m : State (Unit {0})) → Near t m → Agrees a stale t m
  near_agrees t m k =
      subst (λ z. Agrees a stale z m) (sym k.serial)
      (subst (λ z. Agrees a stale (record s { steps = t.steps }) z) (sym k.own ∙ refl)
      (subst (λ x. Agrees a stale (record s { steps = t.steps }) (record n { steps = x })) k.steps (agrees_stepped a stale s n t.steps g)))

  pub near_framed : (t : State Notes) (m : State (Unit {0})) → Near t m → (a.set.inside ≡ true → t.steps ≡ s.steps) → Framed a s t
  near_framed t m k steps = record {
    extra = ap (λ (z : State Notes). z.extra) k.serial;
    steps = steps;
    turn = λ d e. subst (TurnLeaves a s) (sym k.serial) (record { out = refl; taken = refl; scalars = λ slot e. refl; rows = λ array e. refl; cells = λ array tm m cell e i o. refl });
  }

  pub near_out : (t : State Notes) (m : State (Unit {0})) → Near t m → (before : List ℕ) → a.base ≡ Some before → t.out ≡ before ++ m.out
  near_out t m k before e =
      ap (λ (z : State Notes). z.out) k.serial ∙ g.out before e ∙ ap (λ (z : State (Unit {0})). before ++ z.out) (sym k.own)

  -- what has the same value, and leaves all but the steps, follows along a plan that marks nothing
  pub near_along : {A : Type 0} (V W : A → Type 0) (plan : Plan Event) → ((way : List Event) → Path plan way → (object : ℕ) → left a.node way stale object ≡ stale object)
      → (r : Step Notes A) (q : Step (Unit {0}) A) → (a.set.inside ≡ true → TakesNoStep s.steps r)
      → ((v : A) (t : State Notes) → r ≡ Gave v t → W v)
      → StepsMeet Near (λ v w t m. (v ≡ w) × Near t m × V v) r q → Along a W plan stale s n r q
  near_along V W plan keeps (Gave v t) (Gave w m) steps value h =
      let way : (es : List Event) × Path plan es = some_path plan in
      record {
        same = h.0;
        value = value v t refl;
        way = way.0;
        path = way.1;
        agrees = agrees_fewer a stale (left a.node way.0 stale) t m (λ object e. sym (keeps way.0 way.1 object) ∙ e) (near_agrees t m h.1);
        framed = near_framed t m h.1 steps;
      }
  near_along V W plan keeps (Gave v t) (Ended f m) steps value h = absurd h
  near_along V W plan keeps (Ended e t) (Gave w m) steps value h = absurd h
  near_along V W plan keeps (Ended e t) (Ended f m) steps value h = record { same = h.0; out = near_out t m h.1 }

  given_lies : (ty : Ty) (r : Step Notes ℤ) → GivesA ty r → (v : ℤ) (t : State Notes) → r ≡ Gave v t → FitsType ty v
  given_lies ty r h v t e = subst (GivesA ty) e h

  pub expr_along : (e : Expr) → AllByRecursion (TermStands a.program) (terms_of a.program e) → EachEvent (IsFine a.node stale) (reads_of e a.set)
      → Along a (FitsType (type_of a.program e)) (reads_of e a.set) stale s n (expr_of erased (serial_cx a.program input) e s) (expr_of erased (node_context a.program a.node input) e n)
  expr_along e terms events =
      near_along (IsKnown (seen (known_in a s) e).value) (FitsType (type_of a.program e)) (reads_of e a.set) (λ way path object. reads_keep a.set a.node e way path stale object)
      (expr_of erased (serial_cx a.program input) e s) (expr_of erased (node_context a.program a.node input) e n)
      (λ inside. expr_steps a is there input stale s n g e inside (seen_good a is there input stale s n g e terms events).2)
      (given_lies (type_of a.program e) (expr_of erased (serial_cx a.program input) e s)
      (expressions_lie Notes a.program 0 input _ e (first_below a.node (node_count a.program) is.below) (terms_fit a.program (terms_of a.program e) terms) s g.whole.values).0)
      (expr_meets a is there input stale s n g e terms events)

pub expressions_carry : ExpressionsCarry
expressions_carry a is there input e terms none stale s n safe g =
    subst (λ (r : Run Notes ℤ). Along a (FitsType (type_of a.program e)) (reads_of e a.set) stale s n (r s) (expr_of erased (node_context a.program a.node input) e n))
    (sym (noted_expr a.program (serial_cx a.program input) e))
    (expr_along a is there input stale s n g e terms (each_is_fine a.node (reads_of e a.set) stale safe none (reads_unmarked a.set e)))
