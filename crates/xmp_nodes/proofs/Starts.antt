-- The initialisers at file scope, in step: each value is a constant.
use Rattle.std.proofs.Common.{◌≡◌, ◌<◌, ℕ, ℤ, Bool, true, false, true≢false, List, [], ◌∷◌, refl, sym, subst, ap, ◌∙◌}
use Rattle.std.specs.List.{AllByRecursion}
use Rattle.xmp_num.specs.Arithmetic.{wrap}
use Rattle.xmp_prog.specs.declared.parts.ProgParts.{ProgParts}
use Rattle.xmp_prog.specs.declared.parts.Start.{Start}
use Rattle.xmp_prog.specs.declared.expressions.Access.{Access}
use Rattle.xmp_prog.specs.declared.expressions.Expr.{Expr, map-Expr}
use Rattle.xmp_prog.specs.declared.expressions.Expr.TheOpen.{Expr-F}
use Rattle.xmp_prog.specs.declared.expressions.Expr.TheFolds.{ind-Expr, fold-Access, fold-roll-Expr}
use Rattle.xmp_prog.specs.declared.expressions.Expr.TheViews.{roll-Expr}
use Rattle.xmp_prog.specs.Tests.{constant_step, is_constant}
use Rattle.xmp_prog.specs.Fits.{node_count}
use Rattle.xmp_paths.specs.Plans.{skip}
use Rattle.xmp_meaning.specs.declared.ends.Flow.{Flow}
use Rattle.xmp_meaning.specs.declared.ends.Flow.TheVariants.{Next}
use Rattle.xmp_meaning.specs.Runs.{Run, ◌>>=◌, pure, set_scalar}
use Rattle.xmp_meaning.specs.Context.{Context}
use Rattle.xmp_meaning.specs.Handlers.{Handlers, erased}
use Rattle.xmp_meaning.specs.Expressions.{Element, expr_of, expr_step, access_step}
use Rattle.xmp_meaning.specs.Declarations.{scalar_type}
use Rattle.xmp_meaning.specs.Programs.{starts}
use Rattle.xmp_meaning.specs.Exchanges.{Notes, traced}
use Rattle.xmp_meaning.specs.Traffic.{node_context}
use Rattle.xmp_meaning_laws.proofs.Values.{wrap_fits}
use Rattle.xmp_nodes.specs.Nodes.{all_do}
use Rattle.xmp_nodes.proofs.Agrees.{Carried, Anything, IsNext, at_main, AllFollow}
use Rattle.xmp_nodes.proofs.Leaves.{serial_cx}
use Rattle.xmp_nodes.proofs.Follow.{carried_pure, carried_last}
use Rattle.xmp_nodes.proofs.InStep.{all_alone}
use Rattle.xmp_nodes.proofs.MainSteps.{set_unmarked}

-- ---- a constant is the same in every run

module _ {X Y : Type 0} (h : Handlers X) (k : Handlers Y) (cx cy : Context) where
  -- both give one value
  abbrev Constant : Run X ℤ → Run Y ℤ → Type 0
  Constant p q = (v : ℤ) × (p ≡ pure v) × (q ≡ pure v)

  abbrev ExprConstant : Expr → Type 0
  ExprConstant e = is_constant e ≡ true → Constant (expr_of h cx e) (expr_of k cy e)

  no_constant : {A : Type 0} → false ≡ true → A
  no_constant e = absurd (true≢false (sym e))

  module _ {C D : Type 0} (f : C → Expr) (g : D → Access) (each : (c : C) → ExprConstant (f c)) where
    abbrev tested : Expr-F C D → Bool
    tested y = constant_step (map-Expr Expr Access Bool Bool is_constant (fold-Access Bool Bool constant_step (λ a. false)) (map-Expr C D Expr Access f g y))

    abbrev first : Expr-F C D → Run X ℤ
    first y = expr_step h cx (map-Expr Expr Access (Run X ℤ) (Element X) (expr_of h cx) (fold-Access (Run X ℤ) (Element X) (expr_step h cx) (access_step cx)) (map-Expr C D Expr Access f g y))

    abbrev second : Expr-F C D → Run Y ℤ
    second y = expr_step k cy (map-Expr Expr Access (Run Y ℤ) (Element Y) (expr_of k cy) (fold-Access (Run Y ℤ) (Element Y) (expr_step k cy) (access_step cy)) (map-Expr C D Expr Access f g y))

    of_form : (y : Expr-F C D) → tested y ≡ true → Constant (first y) (second y)
    of_form (Expr-F.Const v ty) e = (v, refl, refl)
    of_form (Expr-F.Scalar slot at) e = no_constant e
    of_form (Expr-F.Cell a) e = no_constant e
    of_form (Expr-F.Binary o ty a b at) e = no_constant e
    of_form (Expr-F.Both a b) e = no_constant e
    of_form (Expr-F.Either a b) e = no_constant e
    of_form (Expr-F.Choose a b c) e = no_constant e
    of_form (Expr-F.Convert ty a) e =
        let c = each a e in
        (wrap ty c.0, ap (λ p. p >>= (λ x. pure (wrap ty x))) c.1, ap (λ p. p >>= (λ x. pure (wrap ty x))) c.2)
    of_form (Expr-F.Call function arguments at) e = no_constant e
    of_form Expr-F.Node e = no_constant e
    of_form Expr-F.Nodes e = no_constant e

  rolled : {t t' : Bool} {p p' : Run X ℤ} {q q' : Run Y ℤ} → t ≡ t' → p ≡ p' → q ≡ q' → (t' ≡ true → Constant p' q') → t ≡ true → Constant p q
  rolled a b c r e = let x = r (sym a ∙ e) in (x.0, b ∙ x.1, c ∙ x.2)

  pub constants_same : (e : Expr) → ExprConstant e
  constants_same = ind-Expr ExprConstant (λ a. Unit {0})
      (λ x y is. subst (λ z. ExprConstant (roll-Expr z)) is
      (rolled (fold-roll-Expr Bool Bool constant_step (λ a. false) _) (fold-roll-Expr (Run X ℤ) (Element X) (expr_step h cx) (access_step cx) _)
      (fold-roll-Expr (Run Y ℤ) (Element Y) (expr_step k cy) (access_step cy) _) (of_form (λ c. c.0) (λ d. d.0) (λ c. c.1) y)))
      (λ x y is. tt)

-- ---- the initialisers

module _ (p : ProgParts) (input : List ℕ) where
  a_start : (node slot : ℕ) (v : ℤ) (f : Run Notes Flow) (g : Run (Unit {0}) Flow) → Carried (at_main p node) IsNext skip f g
      → Carried (at_main p node) IsNext skip (set_scalar slot (wrap (scalar_type p slot) v) >>= (λ u. f)) (set_scalar slot (wrap (scalar_type p slot) v) >>= (λ u. g))
  a_start node slot v f g c = carried_last (at_main p node) Anything IsNext skip (set_scalar slot (wrap (scalar_type p slot) v)) (set_scalar slot (wrap (scalar_type p slot) v))
      (λ u. f) (λ u. g) (set_unmarked p node slot (wrap (scalar_type p slot) v) (wrap_fits (scalar_type p slot) v)) (λ u t. c)

  start_carried : (node : ℕ) (all : List Start) → AllByRecursion (λ s. is_constant s.value ≡ true) all
      → Carried (at_main p node) IsNext skip (starts (traced p) (serial_cx p input) all) (starts erased (node_context p node input) all)
  start_carried node [] h = carried_pure (at_main p node) IsNext Next refl
  start_carried node (s ∷ ss) h =
      let c = constants_same (traced p) erased (serial_cx p input) (node_context p node input) s.value h.0 in
      let rest = a_start node s.slot c.0 (starts (traced p) (serial_cx p input) ss) (starts erased (node_context p node input) ss) (start_carried node ss h.1) in
      subst (λ x. Carried (at_main p node) IsNext skip
      (x >>= (λ v. set_scalar s.slot (wrap (scalar_type p s.slot) v) >>= (λ u. starts (traced p) (serial_cx p input) ss))) (starts erased (node_context p node input) (s ∷ ss))) (sym c.1)
      (subst (λ y. Carried (at_main p node) IsNext skip
      (pure c.0 >>= (λ v. set_scalar s.slot (wrap (scalar_type p s.slot) v) >>= (λ u. starts (traced p) (serial_cx p input) ss)))
      (y >>= (λ v. set_scalar s.slot (wrap (scalar_type p s.slot) v) >>= (λ u. starts erased (node_context p node input) ss)))) (sym c.2) rest)

  pub starts_go : 0 < node_count p → AllByRecursion (λ s. is_constant s.value ≡ true) p.start
      → AllFollow p IsNext skip (starts (traced p) (serial_cx p input) p.start) (all_do Next (λ node. starts erased (node_context p node input) p.start))
  starts_go some h = all_alone p IsNext skip Next (starts (traced p) (serial_cx p input) p.start) (λ node. starts erased (node_context p node input) p.start) some
      (λ node below. start_carried node p.start h)
