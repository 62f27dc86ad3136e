-- Runs of the walk that declare nothing, and what holds at their ends of the names as they are, where no rule breaks.
use Rattle.std.proofs.Common.{◌≡◌, ◌∙◌, sym, ap, refl, subst, ◌++◌, ◌∷◌, [], Bool, true, false, List, Option, Some, None, map}
use Rattle.std.specs.Prelude.{⊤, not, is_some}
use Rattle.std.specs.List.{AllByRecursion}
use Rattle.xmp_base.specs.declared.place.Place.{Place}
use Rattle.xmp_prog.specs.declared.parts.ProgParts.{ProgParts}
use Rattle.xmp_syntax.specs.declared.parts.Name as named
use Rattle.xmp_syntax.specs.declared.parts.Call.{Call}
use Rattle.xmp_syntax.specs.declared.parts.Next.{Next}
use Rattle.xmp_syntax.specs.declared.parts.Reference.{Reference}
use Rattle.xmp_syntax.specs.declared.expression.Expr.{Expr}
use Rattle.xmp_scopes.specs.Names as scope
use Rattle.xmp_names.specs.declared.names.Meaning.{Meaning}
use Rattle.xmp_names.specs.declared.names.Environment.{Environment}
use Rattle.xmp_names.specs.declared.rules.Rule.{Rule}
use Rattle.xmp_names.specs.declared.rules.Rule.TheVariants.{N1, N3, N4, N5}
use Rattle.xmp_names.specs.declared.world.World.{World}
use Rattle.xmp_names.specs.Rules.{unless}
use Rattle.xmp_names.specs.Expressions.{may_name, is_function, expr_of, reference_of, call, arguments_of, each_next, next_of, no_parts}
use Rattle.xmp_names.specs.Walk as walk
use Rattle.xmp_names.specs.Walk.{Step, Gave, Run, and_then, a_scalar, an_int_scalar}
use Rattle.xmp_parts.proofs.Unbroken.{left_none, right_none, holds}
use Rattle.xmp_fits.proofs.Respected.{Ends, ends_then, ends_map}
use Rattle.xmp_fits.proofs.Holding.{IfThere}
use Rattle.xmp_fits.proofs.StepsFit.{IsPlace, reference_place}
use Rattle.xmp_fits.proofs.ScopedFits.{Sees}
use Rattle.xmp_fits.proofs.SlotsSeen.{expr_sees, reference_sees, call_is_seen, rest_sees}

module _ (env : Environment) where
  -- The names and the scalars are as they were; and where no rule breaks, none had broken before, and P holds of what is given.
  pub record Found {A : Type 0} (P : A → Type 0) (w v : World) (a : A) : Type 0 where
    pub names : v.names ≡ env
    pub scalars : v.scalars ≡ w.scalars
    pub holds : v.broken ≡ [] → (w.broken ≡ []) × P a

  pub record Looks {A : Type 0} (P : A → Type 0) (run : Run A) : Type 0 where
    pub at : (w : World) → w.names ≡ env → Ends (λ a v. Found P w v a) (run w)

  pub looks_then : {A B : Type 0} (P : A → Type 0) (Q : B → Type 0) (p : Run A) (f : A → Run B) → Looks P p → ((a : A) → Looks (λ b. P a → Q b) (f a)) → Looks Q (walk.◌>>=◌ p f)
  looks_then P Q p f h k = record {
    at = λ w e.
        ends_then (λ a v. Found P w v a) (λ b u. Found Q w u b) (p w) f (h.at w e) (λ a v g.
        ends_map (λ b u. Found (λ b. P a → Q b) v u b) (λ b u. Found Q w u b) (f a v) ((k a).at v g.names) (λ b u i. record {
          names = i.names;
          scalars = i.scalars ∙ g.scalars;
          holds = λ n. let j = i.holds n in let l = g.holds j.0 in (l.0, j.1 l.1);
        }));
  }

  pub looks_map : {A : Type 0} (P Q : A → Type 0) (p : Run A) → Looks P p → ((a : A) → P a → Q a) → Looks Q p
  looks_map P Q p h k = record {
    at = λ w e. ends_map (λ a v. Found P w v a) (λ a v. Found Q w v a) (p w) (h.at w e) (λ a v g. record {
      names = g.names;
      scalars = g.scalars;
      holds = λ n. let l = g.holds n in (l.0, k a l.1);
    });
  }

  pub looks_pure : {A : Type 0} (P : A → Type 0) (a : A) → P a → Looks P (walk.pure a)
  looks_pure P a h = record { at = λ w e. record { names = e; scalars = refl; holds = λ n. (n, h) } }

  -- one of which nothing is to hold before the rest
  pub looks_next : {A B : Type 0} (P : A → Type 0) (Q : B → Type 0) (p : Run A) (f : A → Run B) → Looks P p → ((a : A) → Looks Q (f a)) → Looks Q (walk.◌>>=◌ p f)
  looks_next P Q p f h k = looks_then P Q p f h (λ a. looks_map Q (λ b. P a → Q b) (f a) (k a) (λ b i j. i))

  -- What is given at the end is given of what was given before.
  pub looks_end : {A B : Type 0} (P : A → Type 0) (Q : B → Type 0) (p : Run A) (g : A → B) → Looks P p → ((a : A) → P a → Q (g a)) → Looks Q (walk.◌>>=◌ p (λ a. walk.pure (g a)))
  looks_end P Q p g h k = looks_then P Q p (λ a. walk.pure (g a)) h (λ a. looks_pure (λ b. P a → Q b) (g a) (k a))

  more : {A : Type 0} (P : A → Type 0) (xs : List A) (x : A) → AllByRecursion P xs → P x → AllByRecursion P (xs ++ x ∷ [])
  more P [] x h k = (k, tt)
  more P (y ∷ xs) x h k = (h.0, more P xs x h.1 k)

  pub looks_after : {A B : Type 0} (P : B → Type 0) (f : A → Run B) → ((x : A) → Looks P (f x)) → (done : List B) (xs : List A) → Looks (λ ys. AllByRecursion P done → AllByRecursion P ys) (walk.each_after f done xs)
  looks_after P f h done [] = looks_pure (λ ys. AllByRecursion P done → AllByRecursion P ys) done (λ i. i)
  looks_after P f h done (x ∷ xs) = looks_then P (λ ys. AllByRecursion P done → AllByRecursion P ys) (f x) (λ y. walk.each_after f (done ++ y ∷ []) xs) (h x)
      (λ y. looks_map (λ ys. AllByRecursion P (done ++ y ∷ []) → AllByRecursion P ys) (λ ys. P y → AllByRecursion P done → AllByRecursion P ys) (walk.each_after f (done ++ y ∷ []) xs) (looks_after P f h (done ++ y ∷ []) xs)
      (λ ys i j k. i (more P done y k j)))

  pub looks_each : {A B : Type 0} (P : B → Type 0) (f : A → Run B) → ((x : A) → Looks P (f x)) → (xs : List A) → Looks (λ ys. AllByRecursion P ys) (walk.each f xs)
  looks_each P f h xs = looks_map (λ ys. AllByRecursion P [] → AllByRecursion P ys) (λ ys. AllByRecursion P ys) (walk.each f xs) (looks_after P f h [] xs) (λ ys i. i tt)

  pub looks_there : {A B : Type 0} (P : B → Type 0) (f : A → Run B) → ((x : A) → Looks P (f x)) → (o : Option A) → Looks (IfThere P) (walk.if_there f o)
  looks_there P f h None = looks_pure (IfThere P) None tt
  looks_there P f h (Some x) = looks_end P (IfThere P) (f x) Some (h x) (λ a i. i)

  -- ---- the steps

  pub looks_judge : (test : Bool) (rule : Rule) (at : Place) → Looks (λ _. test ≡ true) (walk.judge test rule at)
  looks_judge test rule at = record { at = λ w e. record { names = e; scalars = refl; holds = λ n. (left_none w.broken (unless test rule at) n, holds test rule at (right_none w.broken (unless test rule at) n)) } }

  -- something that is asked of the world
  pub looks_asked : {A : Type 0} (f : World → A) → Looks (λ _. ⊤) (λ w. Gave (f w) w)
  looks_asked f = record { at = λ w e. record { names = e; scalars = refl; holds = λ n. (n, tt) } }

  pub looks_judged : (test : World → Bool) (rule : Rule) (at : Place) → Looks (λ _. ⊤) (λ w. walk.judge (test w) rule at w)
  looks_judged test rule at = record { at = λ w e. record { names = e; scalars = refl; holds = λ n. (left_none w.broken (unless (test w) rule at) n, tt) } }

  pub looks_directive : (at : Place) → Looks (λ _. ⊤) (walk.directive_at at)
  looks_directive at = record { at = λ w e. record { names = e; scalars = refl; holds = λ n. (left_none w.broken (unless (not (is_function w.names.region)) N5 at) n, tt) } }

  module _ (p : ProgParts) where
    pub looks_typed : (x : Expr) → Looks (λ t. Sees p env t.made) (walk.typed x)
    looks_typed x = record {
      at = λ w e. record {
        names = e;
        scalars = refl;
        holds = λ n. (left_none w.broken (expr_of w.names x).notes.broken n, subst (λ m. Sees p m (expr_of w.names x).operand.made) e (expr_sees w.names p x (right_none w.broken (expr_of w.names x).notes.broken n)));
      };
    }

    pub looks_reference : (r : Reference Expr) → Looks (λ t. Sees p env t.made × IsPlace t.made) (walk.typed_reference r)
    looks_reference r = record {
      at = λ w e. record {
        names = e;
        scalars = refl;
        holds = λ n.
            let h : (reference_of w.names r).notes.broken ≡ [] = right_none w.broken (reference_of w.names r).notes.broken n in
            (left_none w.broken (reference_of w.names r).notes.broken n, (subst (λ m. Sees p m (reference_of w.names r).operand.made) e (reference_sees w.names p r h), reference_place w.names r h));
      };
    }

    pub looks_call : (c : Call Expr) → Looks (λ t. Sees p env t.made) (walk.typed_call c)
    looks_call c = record {
      at = λ w e. record {
        names = e;
        scalars = refl;
        holds = λ n.
            let t = call w.names c.name (arguments_of w.names c.arguments.item) in
            (left_none w.broken t.notes.broken n, subst (λ m. Sees p m t.operand.made) e (call_is_seen w.names p c (right_none w.broken t.notes.broken n)));
      };
    }

    pub looks_all : (es : List (Next Expr)) → Looks (λ q. AllByRecursion (Sees p env) q.made) (walk.typed_all es)
    looks_all es = record {
      at = λ w e. record {
        names = e;
        scalars = refl;
        holds = λ n.
            let q = each_next no_parts (map (next_of w.names) es) in
            (left_none w.broken q.notes.broken n, subst (λ m. AllByRecursion (Sees p m) q.made) e (rest_sees w.names p es no_parts (λ m. tt) (right_none w.broken q.notes.broken n)));
      };
    }

    pub looks_constant : (x : Expr) → Looks (λ _. ⊤) (walk.constant x)
    looks_constant x = looks_next (λ t. Sees p env t.made) (λ _. ⊤) (walk.typed x) _ (looks_typed x) (λ t.
        looks_next (λ _. walk.is_known t.value ≡ true) (λ _. ⊤) (walk.judge (walk.is_known t.value) N4 (walk.first_place x)) (λ _. walk.pure (walk.value_of t.value))
        (looks_judge (walk.is_known t.value) N4 (walk.first_place x)) (λ _. looks_pure (λ _. ⊤) (walk.value_of t.value) tt))

  -- ---- names

  -- A meaning that is found, and may be named.
  abbrev pub Means : named.Name → Option Meaning → Type 0
  Means n m = (scope.nearest n.text env.scopes ≡ m) × (may_name env n m ≡ true)

  pub looks_meaning : (n : named.Name) → Looks (Means n) (walk.meaning_of n)
  looks_meaning n = record {
    at = λ w e. record {
      names = e;
      scalars = refl;
      holds = λ k.
          let m = scope.nearest n.text w.names.scopes in (
            left_none w.broken (unless (may_name w.names n m) N5 n.at) k,
            (ap (λ x. scope.nearest n.text x.scopes) (sym e), ap (λ x. may_name x n m) (sym e) ∙ holds (may_name w.names n m) N5 n.at (right_none w.broken (unless (may_name w.names n m) N5 n.at) k)),
          );
    };
  }

  -- A name of a kind.
  pub looks_kind : {A : Type 0} (kind : Meaning → Option A) (n : named.Name) (m : Option Meaning) → Looks (λ o. (x : Meaning) × (m ≡ Some x) × (kind x ≡ o) × (is_some o ≡ true)) (walk.of_kind kind n m)
  looks_kind {A} kind n None = looks_then (λ _. false ≡ true) (λ (o : Option A). (x : Meaning) × (None ≡ Some x) × (kind x ≡ o) × (is_some o ≡ true)) (walk.judge false N1 n.at) (λ _. walk.pure None) (looks_judge false N1 n.at)
      (λ _. looks_pure (λ (o : Option A). false ≡ true → (x : Meaning) × (None ≡ Some x) × (kind x ≡ o) × (is_some o ≡ true)) None (λ h. absurd (cc)))
  looks_kind {A} kind n (Some m) = looks_then (λ _. is_some (kind m) ≡ true) (λ (o : Option A). (x : Meaning) × (Some m ≡ Some x) × (kind x ≡ o) × (is_some o ≡ true)) (walk.judge (is_some (kind m)) N3 n.at) (λ _. walk.pure (kind m))
      (looks_judge (is_some (kind m)) N3 n.at) (λ _. looks_pure (λ (o : Option A). is_some (kind m) ≡ true → (x : Meaning) × (Some m ≡ Some x) × (kind x ≡ o) × (is_some o ≡ true)) (kind m) (λ h. (m, refl, refl, h)))

  pub looks_name : {A : Type 0} (kind : Meaning → Option A) (n : named.Name) → Looks (λ o. (x : Meaning) × (kind x ≡ o) × (is_some o ≡ true) × Means n (Some x)) (walk.name_of kind n)
  looks_name {A} kind n = looks_then (Means n) (λ (o : Option A). (x : Meaning) × (kind x ≡ o) × (is_some o ≡ true) × Means n (Some x)) (walk.meaning_of n) (walk.of_kind kind n) (looks_meaning n)
      (λ m. looks_map (λ (o : Option A). (x : Meaning) × (m ≡ Some x) × (kind x ≡ o) × (is_some o ≡ true)) (λ (o : Option A). Means n m → (x : Meaning) × (kind x ≡ o) × (is_some o ≡ true) × Means n (Some x)) (walk.of_kind kind n m)
      (looks_kind kind n m) (λ o k e. (k.0, k.2, k.3, subst (Means n) k.1 e)))
