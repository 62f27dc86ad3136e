-- The bound of a counted loop: its value, and that the loop is counted by it.
use Rattle.std.proofs.Common.{◌≡◌, ◌++◌, ℕ, ℤ, pos, true, false, true≢false, List, [], ◌∷◌, refl, sym, subst, ap, ◌∙◌}
use Rattle.std.specs.Prelude.{slice_get, unwrap_or}
use Rattle.std.specs.List.{AllByRecursion}
use Rattle.xmp_num.specs.declared.types.Ty.{Ty}
use Rattle.xmp_num.specs.declared.types.BinOp.{BinOp}
use Rattle.xmp_num.specs.declared.types.BinOp.TheVariants as op
use Rattle.xmp_num.specs.Arithmetic.{binary_of, wrap}
use Rattle.xmp_prog.specs.declared.parts.ProgParts.{ProgParts}
use Rattle.xmp_prog.specs.declared.expressions.Expr.{Expr, map-Expr}
use Rattle.xmp_prog.specs.declared.expressions.Access.{Access}
use Rattle.xmp_prog.specs.declared.expressions.Expr.TheOpen.{Expr-F}
use Rattle.xmp_prog.specs.declared.expressions.Expr.TheFolds.{ind-Expr, fold-Access, fold-roll-Expr}
use Rattle.xmp_prog.specs.declared.expressions.Expr.TheViews.{roll-Expr}
use Rattle.xmp_prog.specs.Terms.{Term, Of, Element, Typed, typed, typed_step, terms_of, slots_of_term, slots_of_terms}
use Rattle.xmp_prog.specs.Terms as terms
use Rattle.xmp_prog.specs.Counted.{is_bound_operator, is_bound_term}
use Rattle.xmp_meaning_laws.specs.Tuples.{is_fixed_term}
use Rattle.xmp_meaning.specs.Runs.{State, Gave, Run, and_then, ◌>>=◌, pure, or_trap}
use Rattle.xmp_meaning.specs.Context.{Context}
use Rattle.xmp_meaning.specs.Handlers.{Handlers}
use Rattle.xmp_meaning.specs.Expressions as meant
use Rattle.xmp_meaning.specs.Expressions.{expr_of, element_of, expr_step, access_step}
use Rattle.xmp_meaning_laws.specs.Laws.{bound_step, bound_value, value_or_zero}
use Rattle.xmp_meaning_laws.proofs.Conditions.{all_apart, all_together}
use Rattle.xmp_meaning_laws.proofs.WhereExpressions.{typed_access}

-- the terms of a bound that is counted are among those of one that is fixed
pub counted_is_fixed : (t : Term) → is_bound_term t ≡ true → is_fixed_term t ≡ true
counted_is_fixed (Of (Expr-F.Const v ty)) e = e
counted_is_fixed (Of (Expr-F.Scalar slot at)) e = e
counted_is_fixed (Of (Expr-F.Cell a)) e = e
counted_is_fixed (Of (Expr-F.Binary o ty a b at)) e = e
counted_is_fixed (Of (Expr-F.Both a b)) e = e
counted_is_fixed (Of (Expr-F.Either a b)) e = e
counted_is_fixed (Of (Expr-F.Choose a b d)) e = e
counted_is_fixed (Of (Expr-F.Convert ty a)) e = refl
counted_is_fixed (Of (Expr-F.Call function arguments at)) e = e
counted_is_fixed (Of Expr-F.Node) e = e
counted_is_fixed (Of Expr-F.Nodes) e = e
counted_is_fixed (Element a) e = e

-- ---- the value of a bound

module _ {X : Type 0} (h : Handlers X) (cx : Context) (read : ℕ → ℤ) (s : State X) where
  -- the scalars have these values in the state
  abbrev Reads : List ℕ → Type 0
  Reads slots = AllByRecursion (λ n. unwrap_or (slice_get s.scalars n) (pos 0) ≡ read n) slots

  abbrev BoundTerms : List Term → Type 0
  BoundTerms ts = AllByRecursion (λ t. is_fixed_term t ≡ true) ts

  abbrev BoundIs : Expr → Type 0
  BoundIs e = BoundTerms (terms_of cx.program e) → Reads (slots_of_terms (terms_of cx.program e)) → expr_of h cx e s ≡ Gave (bound_value read e) s

  slots_apart : (ts us : List Term) → Reads (slots_of_terms (ts ++ us)) → Reads (slots_of_terms ts) × Reads (slots_of_terms us)
  slots_apart [] us r = (tt, r)
  slots_apart (t ∷ ts) us r =
      let first : _ = all_apart (λ n. unwrap_or (slice_get s.scalars n) (pos 0) ≡ read n) (slots_of_term t) (slots_of_terms (ts ++ us)) r in
      let rest : _ = slots_apart ts us first.1 in
      (all_joined (slots_of_term t) (slots_of_terms ts) first.0 rest.0, rest.1)
    where
      all_joined : (xs ys : List ℕ) → Reads xs → Reads ys → Reads (xs ++ ys)
      all_joined [] ys a b = b
      all_joined (x ∷ xs) ys a b = (a.0, all_joined xs ys a.1 b)

  no_bound : {A : Type 0} → false ≡ true → A
  no_bound e = absurd (true≢false (sym e))

  -- `+`, `-` and `*` don't trap
  joined_value : (o : BinOp) (ty : Ty) (x y : ℤ) (at : _) → is_bound_operator o ≡ true → or_trap (binary_of o ty x y) at s ≡ Gave (value_or_zero (binary_of o ty x y)) s
  unfolding binary_of
  joined_value op.Add ty x y at e = refl
  joined_value op.Sub ty x y at e = refl
  joined_value op.Mul ty x y at e = refl
  joined_value op.Div ty x y at e = no_bound e
  joined_value op.Rem ty x y at e = no_bound e
  joined_value op.Shl ty x y at e = no_bound e
  joined_value op.Shr ty x y at e = no_bound e
  joined_value op.And ty x y at e = no_bound e
  joined_value op.Or ty x y at e = no_bound e
  joined_value op.Xor ty x y at e = no_bound e
  joined_value op.Less ty x y at e = no_bound e
  joined_value op.LessEq ty x y at e = no_bound e
  joined_value op.Greater ty x y at e = no_bound e
  joined_value op.GreaterEq ty x y at e = no_bound e
  joined_value op.Equal ty x y at e = no_bound e
  joined_value op.Differ ty x y at e = no_bound e

  module _ {C D : Type 0} (p : C → Expr) (q : D → Access) (j : (x : C) → BoundIs (p x)) where
    abbrev mapped : Expr-F C D → Expr-F Expr Access
    mapped y = map-Expr C D Expr Access p q y

    abbrev of_run : Expr-F C D → Run X ℤ
    of_run y = expr_step h cx (map-Expr Expr Access (Run X ℤ) (meant.Element X) (expr_of h cx) (element_of h cx) (mapped y))

    abbrev of_typed : Expr-F C D → Typed
    of_typed y = typed_step cx.program (map-Expr Expr Access Typed Typed (typed cx.program) (typed_access cx.program) (mapped y))

    abbrev of_value : Expr-F C D → ℤ
    of_value y = bound_step read (map-Expr Expr Access ℤ (Unit {0}) (bound_value read) (fold-Access ℤ (Unit {0}) (bound_step read) (λ a. tt)) (mapped y))

    bound_of_step : (y : Expr-F C D) → BoundTerms (of_typed y).terms → Reads (slots_of_terms (of_typed y).terms) → of_run y s ≡ Gave (of_value y) s
    bound_of_step (Expr-F.Const v ty) m r = refl
    bound_of_step (Expr-F.Scalar slot at) m r = ap (λ v. Gave v s) r.0
    bound_of_step (Expr-F.Binary o ty a b at) m r =
        let both : _ = all_apart (λ t. is_fixed_term t ≡ true) (terms_of cx.program (p a)) (terms_of cx.program (p b)) m.1 in
        let reads : _ = slots_apart (terms_of cx.program (p a)) (terms_of cx.program (p b)) r in
        ap (λ z. and_then z (λ x. expr_of h cx (p b) >>= (λ y. or_trap (binary_of o ty x y) at))) (j a both.0 reads.0)
        ∙ ap (λ z. and_then z (λ y. or_trap (binary_of o ty (bound_value read (p a)) y) at)) (j b both.1 reads.1)
        ∙ joined_value o ty (bound_value read (p a)) (bound_value read (p b)) at m.0
    bound_of_step (Expr-F.Cell a) m r = no_bound m.0
    bound_of_step (Expr-F.Both a b) m r = no_bound m.0
    bound_of_step (Expr-F.Either a b) m r = no_bound m.0
    bound_of_step (Expr-F.Choose a b d) m r = no_bound m.0
    bound_of_step (Expr-F.Convert ty a) m r = ap (λ z. and_then z (λ x. pure (wrap ty x))) (j a m.1 r)
    bound_of_step (Expr-F.Call function arguments at) m r = no_bound m.0
    bound_of_step Expr-F.Node m r = no_bound m.0
    bound_of_step Expr-F.Nodes m r = no_bound m.0

  bound_rolls : {w w' : Typed} {u u' : Run X ℤ} {v v' : ℤ} → w ≡ w' → u ≡ u' → v ≡ v'
      → (BoundTerms w'.terms → Reads (slots_of_terms w'.terms) → u' s ≡ Gave v' s) → BoundTerms w.terms → Reads (slots_of_terms w.terms) → u s ≡ Gave v s
  bound_rolls {w} {w'} {u} {u'} {v} {v'} a b e f =
      subst (λ z. BoundTerms z.terms → Reads (slots_of_terms z.terms) → u s ≡ Gave v s) (sym a)
      (λ m r. subst (λ z. z s ≡ Gave v s) (sym b) (subst (λ z. u' s ≡ Gave z s) (sym e) (f m r)))

  -- a bound gives its value, and changes nothing
  pub bound_is : (e : Expr) → BoundIs e
  bound_is = ind-Expr BoundIs (λ a. Unit {0})
      (λ x y e. subst (λ z. BoundIs (roll-Expr z)) e
      (bound_rolls (fold-roll-Expr Typed Typed (typed_step cx.program) (terms.access_step cx.program) _)
      (fold-roll-Expr (Run X ℤ) (meant.Element X) (expr_step h cx) (access_step cx) _)
      (fold-roll-Expr ℤ (Unit {0}) (bound_step read) (λ a. tt) _)
      (bound_of_step (λ c. c.0) (λ d. d.0) (λ c. c.1) y)))
      (λ x y e. tt)

-- ---- the same values give the same bound

pub slots_split : (P : ℕ → Type 0) (ts us : List Term) → AllByRecursion P (slots_of_terms (ts ++ us)) → AllByRecursion P (slots_of_terms ts) × AllByRecursion P (slots_of_terms us)
slots_split P [] us r = (tt, r)
slots_split P (t ∷ ts) us r =
    let first : _ = all_apart P (slots_of_term t) (slots_of_terms (ts ++ us)) r in
    let rest : _ = slots_split P ts us first.1 in
    (all_together P (slots_of_term t) (slots_of_terms ts) first.0 rest.0, rest.1)

module _ (program : ProgParts) (read other : ℕ → ℤ) where
  abbrev pub Alike : List ℕ → Type 0
  Alike slots = AllByRecursion (λ n. read n ≡ other n) slots

  abbrev BoundSame : Expr → Type 0
  BoundSame e = Alike (slots_of_terms (terms_of program e)) → bound_value read e ≡ bound_value other e

  module _ {C D : Type 0} (p : C → Expr) (q : D → Access) (j : (x : C) → BoundSame (p x)) where
    abbrev to_whole : Expr-F C D → Expr-F Expr Access
    to_whole y = map-Expr C D Expr Access p q y

    abbrev typed_whole : Expr-F C D → Typed
    typed_whole y = typed_step program (map-Expr Expr Access Typed Typed (typed program) (typed_access program) (to_whole y))

    abbrev value_whole : (ℕ → ℤ) → Expr-F C D → ℤ
    value_whole r y = bound_step r (map-Expr Expr Access ℤ (Unit {0}) (bound_value r) (fold-Access ℤ (Unit {0}) (bound_step r) (λ a. tt)) (to_whole y))

    same_of_step : (y : Expr-F C D) → Alike (slots_of_terms (typed_whole y).terms) → value_whole read y ≡ value_whole other y
    same_of_step (Expr-F.Const v ty) r = refl
    same_of_step (Expr-F.Scalar slot at) r = r.0
    same_of_step (Expr-F.Binary o ty a b at) r =
        let both : _ = slots_split (λ n. read n ≡ other n) (terms_of program (p a)) (terms_of program (p b)) r in
        ap (λ x. value_or_zero (binary_of o ty x (bound_value read (p b)))) (j a both.0)
        ∙ ap (λ y. value_or_zero (binary_of o ty (bound_value other (p a)) y)) (j b both.1)
    same_of_step (Expr-F.Cell a) r = refl
    same_of_step (Expr-F.Both a b) r = refl
    same_of_step (Expr-F.Either a b) r = refl
    same_of_step (Expr-F.Choose a b d) r = refl
    same_of_step (Expr-F.Convert ty a) r = ap (wrap ty) (j a r)
    same_of_step (Expr-F.Call function arguments at) r = refl
    same_of_step Expr-F.Node r = refl
    same_of_step Expr-F.Nodes r = refl

  same_rolls : {w w' : Typed} {u u' : ℤ} {v v' : ℤ} → w ≡ w' → u ≡ u' → v ≡ v'
      → (Alike (slots_of_terms w'.terms) → u' ≡ v') → Alike (slots_of_terms w.terms) → u ≡ v
  same_rolls {w} {w'} {u} {u'} {v} {v'} a b e f =
      subst (λ z. Alike (slots_of_terms z.terms) → u ≡ v) (sym a) (λ r. b ∙ f r ∙ sym e)

  pub bound_same : (e : Expr) → BoundSame e
  bound_same = ind-Expr BoundSame (λ a. Unit {0})
      (λ x y e. subst (λ z. BoundSame (roll-Expr z)) e
      (same_rolls (fold-roll-Expr Typed Typed (typed_step program) (terms.access_step program) _)
      (fold-roll-Expr ℤ (Unit {0}) (bound_step read) (λ a. tt) _)
      (fold-roll-Expr ℤ (Unit {0}) (bound_step other) (λ a. tt) _)
      (same_of_step (λ c. c.0) (λ d. d.0) (λ c. c.1) y)))
      (λ x y e. tt)
