-- What a nest and a fold over tuples leave as it was, where their body does.
use Rattle.std.proofs.Common.{◌≡◌, ℕ, zero, suc, ℤ, Bool, true, false, List, [], ◌∷◌, map, Option, Some, None, refl, ap, ◌∙◌}
use Rattle.std.specs.Prelude.{slice_get, slice_set, unwrap_or, pos}
use Rattle.std.specs.List.{AllByRecursion}
use Rattle.xmp_num.specs.declared.types.Ty.TheVariants.{Int}
use Rattle.xmp_num.specs.Arithmetic.{wrap}
use Rattle.xmp_prog.specs.declared.expressions.Expr.{Expr}
use Rattle.xmp_prog.specs.declared.statements.LoopHead.{LoopHead}
use Rattle.xmp_prog.specs.Terms.{terms_of, slots_of_terms}
use Rattle.xmp_prog.specs.Statements.{indices_of}
use Rattle.xmp_meaning.specs.declared.ends.Flow.{Flow}
use Rattle.xmp_meaning.specs.declared.ends.Flow.TheVariants.{Next, Returned}
use Rattle.xmp_meaning.specs.Runs.{State, Step, Gave, Ended, Run, and_then, pure, state_of}
use Rattle.xmp_meaning.specs.Blocks.{after, then_run, choose, turns}
use Rattle.xmp_meaning.specs.Context.{Context}
use Rattle.xmp_meaning.specs.Handlers.{Handlers}
use Rattle.xmp_meaning.specs.Expressions.{expr_of}
use Rattle.xmp_meaning.specs.Loops.{inside, step_up, entering, nest}
use Rattle.xmp_meaning_laws.specs.Laws.{scalar_in, bound_value}
use Rattle.xmp_meaning_laws.specs.Tuples.{is_fixed_term, set_where, at_tuple, for_each}
use Rattle.xmp_meaning_laws.proofs.Named.{all_of_each}
use Rattle.xmp_meaning_laws.proofs.Bounds.{bound_is}

-- what a loop begins with and its bound are built of fixed terms
abbrev pub HeadIsFixed : Context → LoopHead → Type 0
HeadIsFixed cx head = AllByRecursion (λ t. is_fixed_term t ≡ true) (terms_of cx.program head.from) × AllByRecursion (λ t. is_fixed_term t ≡ true) (terms_of cx.program head.to)

-- such an expression gives its value, and changes nothing
pub fixed_is : {X : Type 0} (h : Handlers X) (cx : Context) (e : Expr) (s : State X) → AllByRecursion (λ t. is_fixed_term t ≡ true) (terms_of cx.program e)
    → expr_of h cx e s ≡ Gave (bound_value (scalar_in s) e) s
fixed_is h cx e s f = bound_is h cx (scalar_in s) s e f
    (all_of_each (λ n. unwrap_or (slice_get s.scalars n) (pos 0) ≡ scalar_in s n) (λ n. refl) (slots_of_terms (terms_of cx.program e)))

-- a part of the state
module _ {X C : Type 0} (part : State X → C) where
  abbrev pub Leaves : {A : Type 0} → Run X A → Type 0
  Leaves p = (s : State X) → part (state_of (p s)) ≡ part s

  -- it doesn't depend on a scalar
  abbrev pub IsFree : ℕ → Type 0
  IsFree slot = (s : State X) (v : ℤ) → part (record s { scalars = slice_set s.scalars slot v }) ≡ part s

  left_on : {A B : Type 0} (r : Step X A) (f : A → Run X B) (c : C) → part (state_of r) ≡ c → ((a : A) → Leaves (f a)) → part (state_of (and_then r f)) ≡ c
  left_on (Gave a t) f c e h = h a t ∙ e
  left_on (Ended end t) f c e h = e

  left_after : (flow : Flow) (q : Run X Flow) → Leaves q → Leaves (after flow q)
  left_after Next q h s = h s
  left_after (Returned v) q h s = refl

  pub left_then : (p q : Run X Flow) → Leaves p → Leaves q → Leaves (then_run p q)
  left_then p q h k s = left_on (p s) (λ flow. after flow q) (part s) (h s) (λ flow. left_after flow q k)

  left_choose : (b : Bool) (p q : Run X Flow) → Leaves p → Leaves q → Leaves (choose b p q)
  left_choose true p q h k = h
  left_choose false p q h k = k

  left_turns : (n : ℕ) (test : Run X Bool) (body : Run X Flow) → Leaves test → Leaves body → Leaves (turns n test body)
  left_turns zero test body h k s = refl
  left_turns (suc n) test body h k s =
      left_on (test s) (λ more. choose more (then_run body (turns n test body)) (pure Next)) (part s) (h s)
      (λ more. left_choose more (then_run body (turns n test body)) (pure Next) (left_then body (turns n test body) k (left_turns n test body h k)) (λ t. refl))

  -- ---- scalars that are set

  pub left_where : (slots : List ℕ) → AllByRecursion IsFree slots → (os : List (Option ℤ)) (s : State X)
      → part (record s { scalars = set_where slots os s.scalars }) ≡ part s
  left_where [] f os s = refl
  left_where (i ∷ slots) f [] s = refl
  left_where (i ∷ slots) f (None ∷ os) s = left_where slots f.1 os s
  left_where (i ∷ slots) f (Some v ∷ os) s = left_where slots f.1 os (record s { scalars = slice_set s.scalars i v }) ∙ f.0 s v

  pub left_for_each : (slots : List ℕ) → AllByRecursion IsFree slots → (ts : List (List ℤ)) (body : Run X Flow) → Leaves body → Leaves (for_each slots ts body)
  left_for_each slots f [] body h s = refl
  left_for_each slots f (vs ∷ ts) body h s =
      left_then body (for_each slots ts body) h (left_for_each slots f ts body h) (at_tuple slots vs s) ∙ left_where slots f (map Some vs) s

  -- ---- a nest

  module _ (h : Handlers X) (cx : Context) where
    left_fixed : (e : Expr) → AllByRecursion (λ t. is_fixed_term t ≡ true) (terms_of cx.program e) → Leaves (expr_of h cx e)
    left_fixed e f s = ap (λ r. part (state_of r)) (fixed_is h cx e s f)

    left_entering : (head : LoopHead) → HeadIsFixed cx head → IsFree head.index.number → Leaves (entering h cx head)
    left_entering head f free s =
        left_on (expr_of h cx head.from s) _ (part s) (left_fixed head.from f.0 s) (λ from t.
        left_on (expr_of h cx head.to (record t { scalars = slice_set t.scalars head.index.number (wrap Int from) })) _ (part t)
        (left_fixed head.to f.1 (record t { scalars = slice_set t.scalars head.index.number (wrap Int from) }) ∙ free t (wrap Int from)) (λ to u. refl))

    left_inside : (head : LoopHead) → HeadIsFixed cx head → Leaves (inside h cx head)
    left_inside head f s = left_on (expr_of h cx head.to s) _ (part s) (left_fixed head.to f.1 s) (λ to t. refl)

    pub left_nest : (heads : List LoopHead) → AllByRecursion (HeadIsFixed cx) heads → AllByRecursion IsFree (indices_of heads)
        → (body : Run X Flow) → Leaves body → Leaves (nest h cx heads body)
    left_nest [] f free body k s = k s
    left_nest (head ∷ heads) f free body k s =
        left_on (entering h cx head s) _ (part s) (left_entering head f.0 free.0 s) (λ n.
        left_turns n (inside h cx head) (then_run (nest h cx heads body) (step_up head)) (left_inside head f.0)
        (left_then (nest h cx heads body) (step_up head) (left_nest heads f.1 free.1 body k) (λ t. free.0 t _)))
