-- A function that isn't counted among those with an uncounted loop takes no step.
use Rattle.std.proofs.Common.{◌≡◌, ◌≢◌, ◌++◌, ◌==◌, ◌||◌, ℕ, zero, suc, Bool, true, false, true≢false, List, [], ◌∷◌, length, Some, refl, sym, subst, ap, ◌∙◌, if◌then◌else◌, eqb-true, eq-eqb}
use Rattle.std.specs.Prelude.{slice_get}
use Rattle.std.specs.List.{list_all, list_any, flat_map}
use Rattle.std.proofs.lemmas.List.Folds.{list_all-append}
use Rattle.xmp_prog.specs.declared.expressions.Expr.TheOpen.{Expr-F}
use Rattle.xmp_prog.specs.declared.statements.Stmt.{Stmt}
use Rattle.xmp_prog.specs.declared.statements.Stmt.TheOpen.{Stmt-F}
use Rattle.xmp_prog.specs.declared.parts.Function.{Function}
use Rattle.xmp_prog.specs.declared.parts.ProgParts.{ProgParts}
use Rattle.xmp_prog.specs.Terms.{Term, Of, Element}
use Rattle.xmp_prog.specs.Statements.{Statement, statements_of, terms_in, terms_of_stmt}
use Rattle.xmp_loops.specs.Tables.{flag_at}
use Rattle.xmp_loops.specs.Loopers.{calls_looping, is_uncounted, loops_at, loops_in, loopers_from, function_loops}
use Rattle.xmp_meaning_laws.specs.Laws.{calls_pass, is_no_while, has_no_while, function_has_none, is_without}
use Rattle.xmp_meaning_laws.proofs.CountedLoops.{both_true}

neither : (a b : Bool) → (a || b) ≡ false → (a ≡ false) × (b ≡ false)
neither true b e = absurd (true≢false e)
neither false b e = (refl, e)

module _ (p : ProgParts) (loops test : ℕ → Bool) (h : (k : ℕ) → loops k ≡ false → test k ≡ true) where
  term_passes : (t : Term) → calls_looping loops t ≡ false → calls_pass test t ≡ true
  term_passes (Of (Expr-F.Const v ty)) e = refl
  term_passes (Of (Expr-F.Scalar slot at)) e = refl
  term_passes (Of (Expr-F.Cell a)) e = refl
  term_passes (Of (Expr-F.Binary op ty a b at)) e = refl
  term_passes (Of (Expr-F.Both a b)) e = refl
  term_passes (Of (Expr-F.Either a b)) e = refl
  term_passes (Of (Expr-F.Choose a b c)) e = refl
  term_passes (Of (Expr-F.Convert ty a)) e = refl
  term_passes (Of (Expr-F.Call function arguments at)) e = h function e
  term_passes (Of Expr-F.Node) e = refl
  term_passes (Of Expr-F.Nodes) e = refl
  term_passes (Element a) e = refl

  terms_pass : (ts : List Term) → list_any (calls_looping loops) ts ≡ false → list_all (calls_pass test) ts ≡ true
  terms_pass [] e = refl
  terms_pass (t ∷ ts) e =
      let both : _ = neither (calls_looping loops t) (list_any (calls_looping loops) ts) e in
      both_true (calls_pass test t) (list_all (calls_pass test) ts) (term_passes t both.0) (terms_pass ts both.1)

  counted_is : (y : Statement) → is_uncounted y ≡ false → is_no_while y ≡ true
  counted_is (Stmt-F.Plain q) e = refl
  counted_is (Stmt-F.Block all) e = refl
  counted_is (Stmt-F.If c a b) e = refl
  counted_is (Stmt-F.While c body at) e = absurd (true≢false e)
  counted_is (Stmt-F.Counted head body) e = refl
  counted_is (Stmt-F.Loop d body) e = refl
  counted_is (Stmt-F.Tasks all at) e = refl

  abbrev Clear : List Statement → Type 0
  Clear ys = (list_all is_no_while ys ≡ true) × (list_all (calls_pass test) (flat_map (terms_in p) ys) ≡ true)

  all_clear : (ys : List Statement) → list_any (loops_at p loops) ys ≡ false → Clear ys
  all_clear [] e = (refl, refl)
  all_clear (y ∷ ys) e =
      let both : _ = neither (loops_at p loops y) (list_any (loops_at p loops) ys) e in
      let here : _ = neither (is_uncounted y) (list_any (calls_looping loops) (terms_in p y)) both.0 in
      let rest : Clear ys = all_clear ys both.1 in (
        both_true (is_no_while y) (list_all is_no_while ys) (counted_is y here.0) rest.0,
        list_all-append (calls_pass test) (terms_in p y) (flat_map (terms_in p) ys)
            ∙ both_true (list_all (calls_pass test) (terms_in p y)) (list_all (calls_pass test) (flat_map (terms_in p) ys)) (terms_pass (terms_in p y) here.1) rest.1,
      )

  body_clear : (x : Stmt) → loops_in p loops x ≡ false → has_no_while p test x ≡ true
  body_clear x e =
      let c : Clear (statements_of x) = all_clear (statements_of x) e in
      both_true (list_all is_no_while (statements_of x)) (list_all (calls_pass test) (terms_of_stmt p x)) c.0 c.1

-- ---- flags, one after the other

flag_in : (known : List Bool) (b : Bool) (j : ℕ) → flag_at (known ++ b ∷ []) j ≡ false → j ≢ length known → flag_at known j ≡ false
flag_in [] b zero e ne = absurd (ne refl)
flag_in [] b (suc j) e ne = refl
flag_in (k ∷ known) b zero e ne = e
flag_in (k ∷ known) b (suc j) e ne = flag_in known b j e (λ same. ne (ap suc same))

flag_last : (known : List Bool) (b : Bool) → flag_at (known ++ b ∷ []) (length known) ≡ b
flag_last [] b = refl
flag_last (k ∷ known) b = flag_last known b

more_long : (known : List Bool) (b : Bool) → length (known ++ b ∷ []) ≡ suc (length known)
more_long [] b = refl
more_long (k ∷ known) b = ap suc (more_long known b)

not_equal : (j m : ℕ) → (j == m) ≡ false → j ≢ m
not_equal j m e same = true≢false (sym (eq-eqb j m same) ∙ e)

module _ (p : ProgParts) where
  abbrev Known : List Bool → Type 0
  Known known = (j : ℕ) → flag_at known j ≡ false → is_without p (length known) j ≡ true

  known_more : (known : List Bool) (f : Function) → slice_get p.functions (length known) ≡ Some f → Known known → Known (known ++ loops_in p (flag_at known) f.body ∷ [])
  known_more known f at h j e =
      subst (λ n. is_without p n j ≡ true) (sym (more_long known (loops_in p (flag_at known) f.body))) (at_test (j == length known) refl)
    where
      at_test : (b : Bool) → (j == length known) ≡ b
          → (if j == length known then function_has_none p (is_without p (length known)) (slice_get p.functions (length known)) else is_without p (length known) j) ≡ true
      at_test true same =
          ap (λ b. if b then function_has_none p (is_without p (length known)) (slice_get p.functions (length known)) else is_without p (length known) j) same
          ∙ ap (function_has_none p (is_without p (length known))) at
          ∙ body_clear p (flag_at known) (is_without p (length known)) h f.body
          (sym (flag_last known (loops_in p (flag_at known) f.body)) ∙ ap (flag_at (known ++ loops_in p (flag_at known) f.body ∷ [])) (sym (eqb-true j (length known) same)) ∙ e)
      at_test false other =
          ap (λ b. if b then function_has_none p (is_without p (length known)) (slice_get p.functions (length known)) else is_without p (length known) j) other
          ∙ h j (flag_in known (loops_in p (flag_at known) f.body) j e (not_equal j (length known) other))

  none_at : (j : ℕ) → is_without p 0 j ≡ true
  none_at j = refl

  known_all : (known : List Bool) (fs before : List Function) → p.functions ≡ before ++ fs → length known ≡ length before → Known known
      → (j : ℕ) → flag_at (loopers_from p known fs) j ≡ false → is_without p (length p.functions) j ≡ true
  known_all known [] before whole long h j e = subst (λ n. is_without p n j ≡ true) (long ∙ sym (ap (λ (l : List Function). length l) (whole ∙ no_more before))) (h j e)
    where
      no_more : {A : Type 0} (xs : List A) → xs ++ [] ≡ xs
      no_more [] = refl
      no_more (x ∷ xs) = ap (λ l. x ∷ l) (no_more xs)
  known_all known (f ∷ fs) before whole long h j e =
      known_all (known ++ loops_in p (flag_at known) f.body ∷ []) fs (before ++ f ∷ []) (whole ∙ joined before f fs)
      (more_long known (loops_in p (flag_at known) f.body) ∙ ap suc long ∙ sym (longer before f))
      (known_more known f (ap (λ (l : List Function). slice_get l (length known)) whole ∙ ap (slice_get (before ++ f ∷ fs)) long ∙ at_end before f fs) h) j e
    where
      joined : {A : Type 0} (xs : List A) (y : A) (ys : List A) → xs ++ y ∷ ys ≡ (xs ++ y ∷ []) ++ ys
      joined [] y ys = refl
      joined (x ∷ xs) y ys = ap (λ l. x ∷ l) (joined xs y ys)

      longer : {A : Type 0} (xs : List A) (y : A) → length (xs ++ y ∷ []) ≡ suc (length xs)
      longer [] y = refl
      longer (x ∷ xs) y = ap suc (longer xs y)

      at_end : {A : Type 0} (xs : List A) (y : A) (ys : List A) → slice_get (xs ++ y ∷ ys) (length xs) ≡ Some y
      at_end [] y ys = refl
      at_end (x ∷ xs) y ys = at_end xs y ys

  pub loops_or_not : (k : ℕ) → function_loops p k ≡ false → is_without p (length p.functions) k ≡ true
  loops_or_not k e = known_all [] p.functions [] refl refl (λ j f. refl) k e
