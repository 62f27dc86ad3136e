-- The bound of a counted loop: where it is built as a bound is, all its terms are, and what it reads are the scalars of its terms.
use Rattle.std.proofs.Common.{◌≡◌, ◌∙◌, sym, ap, refl, subst, ◌++◌, ◌&&◌, ◌||◌, ℕ, Bool, true, false, List}
use Rattle.std.specs.Prelude.{⊤, ◌==◌}
use Rattle.std.specs.List.{list_all}
use Rattle.std.proofs.lemmas.Grind.{flat_map-append}
use Rattle.std.proofs.lemmas.List.Folds.{list_any-append, list_all-append}
use Rattle.xmp_prog.specs.declared.expressions.Expr.{Expr, map-Expr}
use Rattle.xmp_prog.specs.declared.expressions.Access.{Access}
use Rattle.xmp_prog.specs.declared.expressions.Expr.TheOpen.{Expr-F}
use Rattle.xmp_prog.specs.declared.expressions.Expr.TheFolds.{fold-Access, ind-Expr, fold-roll-Expr}
use Rattle.xmp_prog.specs.declared.expressions.Expr.TheViews.{roll-Expr}
use Rattle.xmp_prog.specs.declared.parts.ProgParts.{ProgParts}
use Rattle.xmp_prog.specs.Counted.{is_bound_operator, is_bound_term}
use Rattle.xmp_prog.specs.Numbers.{is_in}
use Rattle.xmp_prog.specs.Terms.{Term, Typed, access_step, slots_of_term, slots_of_terms, terms_of, typed, typed_step}
use Rattle.xmp_walk.specs.Counted.{access_reads, bound_step, is_bound, is_int, reads, reads_access, reads_step}
use Rattle.xmp_parts.proofs.Unbroken.{both_true, left_true, right_true}

or_false : (b : Bool) → b ≡ (b || false)
or_false true = refl
or_false false = refl

-- What is known of a bound.
pub record BoundFits (p : ProgParts) (e : Expr) : Type 0 where
  pub terms : list_all is_bound_term (terms_of p e) ≡ true
  pub slots : (k : ℕ) → reads e k ≡ is_in (slots_of_terms (terms_of p e)) k

-- The same by what it reads and by its terms.
record Seen (reading : ℕ → Bool) (ts : List Term) : Type 0 where
  pub terms : list_all is_bound_term ts ≡ true
  pub slots : (k : ℕ) → reading k ≡ is_in (slots_of_terms ts) k

slots_both : (xs ys : List Term) (k : ℕ) → is_in (slots_of_terms (xs ++ ys)) k ≡ (is_in (slots_of_terms xs) k || is_in (slots_of_terms ys) k)
slots_both xs ys k = ap (λ l. is_in l k) (flat_map-append slots_of_term xs ys) ∙ list_any-append (λ m. m == k) (slots_of_terms xs) (slots_of_terms ys)

untrue : false ≡ true → ⊥
untrue e = cc

abbrev bound_access : Access → Bool
bound_access = fold-Access Bool Bool bound_step (λ a. false)

module _ (p : ProgParts) where
  abbrev typed_access : Access → Typed
  typed_access = fold-Access Typed Typed (typed_step p) (access_step p)

  abbrev Bound : Expr → Type 0
  Bound e = is_bound e ≡ true → BoundFits p e

  module _ {C D : Type 0} (f : C → Expr) (g : D → Access) (h : (c : C) → Bound (f c)) where
    abbrev again : Expr-F C D → Expr-F Expr Access
    again y = map-Expr C D Expr Access f g y

    abbrev test : Expr-F C D → Bool
    test y = bound_step (map-Expr Expr Access Bool Bool is_bound bound_access (again y))

    abbrev reading : Expr-F C D → ℕ → Bool
    reading y k = reads_step (λ n. n == k) (map-Expr Expr Access Bool Bool (λ e. reads e k) (λ a. access_reads a k) (again y))

    abbrev terms_there : Expr-F C D → List Term
    terms_there y = (typed_step p (map-Expr Expr Access Typed Typed (typed p) typed_access (again y))).terms

    step_seen : (y : Expr-F C D) → test y ≡ true → Seen (reading y) (terms_there y)
    step_seen (Expr-F.Const v ty) t = record { terms = refl; slots = λ k. refl }
    step_seen (Expr-F.Scalar slot at) t = record { terms = refl; slots = λ k. or_false (slot == k) }
    step_seen (Expr-F.Cell a) t = absurd (untrue t)
    step_seen (Expr-F.Binary op ty a b at) t =
        let both : (is_bound (f a) && is_bound (f b)) ≡ true = right_true (is_int ty) _ (right_true (is_bound_operator op) _ t) in
        let l : BoundFits p (f a) = h a (left_true (is_bound (f a)) (is_bound (f b)) both) in
        let r : BoundFits p (f b) = h b (right_true (is_bound (f a)) (is_bound (f b)) both) in
        record {
          terms = both_true (is_bound_operator op) _ (left_true (is_bound_operator op) _ t)
              (list_all-append is_bound_term (terms_of p (f a)) (terms_of p (f b)) ∙ both_true (list_all is_bound_term (terms_of p (f a))) _ l.terms r.terms);
          slots = λ k.
              ap (λ x. x || reads (f b) k) (l.slots k) ∙ (ap (λ x. is_in (slots_of_terms (terms_of p (f a))) k || x) (r.slots k) ∙ sym (slots_both (terms_of p (f a)) (terms_of p (f b)) k));
        }
    step_seen (Expr-F.Both a b) t = absurd (untrue t)
    step_seen (Expr-F.Either a b) t = absurd (untrue t)
    step_seen (Expr-F.Choose a b c) t = absurd (untrue t)
    step_seen (Expr-F.Convert ty a) t = absurd (untrue t)
    step_seen (Expr-F.Call k arguments at) t = absurd (untrue t)
    step_seen Expr-F.Node t = absurd (untrue t)
    step_seen Expr-F.Nodes t = absurd (untrue t)

  rolled : (x : Expr-F Expr Access) →
      (bound_step (map-Expr Expr Access Bool Bool is_bound bound_access x) ≡ true →
      Seen (λ k. reads_step (λ n. n == k) (map-Expr Expr Access Bool Bool (λ e. reads e k) (λ a. access_reads a k) x)) (typed_step p (map-Expr Expr Access Typed Typed (typed p) typed_access x)).terms) →
      Bound (roll-Expr x)
  rolled x s t =
      let seen = s (sym (fold-roll-Expr Bool Bool bound_step (λ a. false) x) ∙ t) in
      let same : terms_of p (roll-Expr x) ≡ (typed_step p (map-Expr Expr Access Typed Typed (typed p) typed_access x)).terms = ap (λ (y : Typed). y.terms) (fold-roll-Expr Typed Typed (typed_step p) (access_step p) x) in
      record {
        terms = ap (list_all is_bound_term) same ∙ seen.terms;
        slots = λ k. fold-roll-Expr Bool Bool (reads_step (λ n. n == k)) (reads_access (λ n. n == k)) x ∙ (seen.slots k ∙ ap (λ ts. is_in (slots_of_terms ts) k) (sym same));
      }

  pub bound_fits : (e : Expr) → is_bound e ≡ true → BoundFits p e
  bound_fits = ind-Expr Bound (λ a. ⊤)
      (λ x y e. subst (λ z. Bound (roll-Expr z)) e (rolled _ (step_seen (λ c. c.0) (λ d. d.0) (λ c. c.1) y)))
      (λ x y e. tt)
