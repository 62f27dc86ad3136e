-- The clauses of the parts about scalars: each is declared once, stands only where it is known, and is of one function or of main.
use Rattle.std.proofs.Common.{◌≡◌, ◌∙◌, sym, ap, refl, subst, ◌⊎◌, inl, inr, ⊎_elim, ◌++◌, ◌∷◌, [], ℕ, ◌+◌, ◌<◌, ◌≤◌, ◌||◌, not, Bool, true, false, List, Option, length, map, arith}
use Rattle.std.specs.Prelude.{◌==◌, nat_lt, IsTrue}
use Rattle.std.specs.List.{list_all, flat_map, AllByRecursion}
use Rattle.std.proofs.lemmas.Bool.{ltb-true}
use Rattle.std.proofs.lemmas.List.Folds.{list_any-append}
use Rattle.xmp_prog.specs.declared.statements.Stmt.{Stmt}
use Rattle.xmp_prog.specs.declared.parts.Function.{Function}
use Rattle.xmp_prog.specs.declared.parts.Start.{Start}
use Rattle.xmp_prog.specs.declared.parts.ProgParts.{ProgParts}
use Rattle.xmp_prog.specs.Numbers.{is_in, apart, distinct, pairwise}
use Rattle.xmp_prog.specs.Statements.{slots_of_stmt}
use Rattle.xmp_prog.specs.Scopes.{declared_in, scalars_fit, in_main, in_function}
use Rattle.xmp_prog.specs.Fits.{slots_of_function, slots_of_starts, declared, parameters}
use Rattle.xmp_syntax.specs.declared.program.Tree.{Tree}
use Rattle.xmp_names.specs.declared.world.World.{World}
use Rattle.xmp_names.specs.Walk.{Gave}
use Rattle.xmp_parts.specs.Parts.{Made}
use Rattle.xmp_walk.specs.Program.{program_of}
use Rattle.xmp_parts.proofs.Unbroken.{left_true, right_true, both_true}
use Rattle.xmp_fits.proofs.Respected.{Ends}
use Rattle.xmp_fits.specs.NumbersLie.{tree_lies}
use Rattle.xmp_fits.proofs.ScopedForms.{Rising, rising_ends, rising_from, rising_both}
use Rattle.xmp_fits.proofs.FileSites.{in_right, in_first, in_cons, rising_in, between, FunctionSited, Sited, sited_ends, Outside}
use Rattle.xmp_fits.proofs.MainSites.{Whole, Finished, program_sites}

-- ---- lists of numbers

in_both : (ns ms : List ℕ) (n : ℕ) → is_in ns n ≡ false → is_in ms n ≡ false → is_in (ns ++ ms) n ≡ false
in_both ns ms n h k = list_any-append (λ m. m == n) ns ms ∙ (ap (λ b. b || is_in ms n) h ∙ k)

in_either : (ns ms : List ℕ) (n : ℕ) → is_in (ns ++ ms) n ≡ true → (is_in ns n ≡ true) ⊎ (is_in ms n ≡ true)
in_either ns ms n h = by (is_in ns n) refl (sym (list_any-append (λ m. m == n) ns ms) ∙ h)
  where
    by : (b : Bool) → is_in ns n ≡ b → (b || is_in ms n) ≡ true → (is_in ns n ≡ true) ⊎ (is_in ms n ≡ true)
    by true e h = inl e
    by false e h = inr h

all_in : (f : ℕ → Bool) (ns : List ℕ) → ((n : ℕ) → is_in ns n ≡ true → f n ≡ true) → list_all f ns ≡ true
all_in f [] h = refl
all_in f (n ∷ ns) h = both_true (f n) _ (h n (in_first ns n)) (all_in f ns (λ m k. h m (in_right (n ∷ []) ns m k)))

in_all : (f : ℕ → Bool) (ns : List ℕ) (n : ℕ) → list_all f ns ≡ true → is_in ns n ≡ true → f n ≡ true
in_all f [] n h k = absurd (cc)
in_all f (m ∷ ns) n h k = by (λ i. in_all f ns n (right_true (f m) _ h) i) (in_cons m ns n k)
  where
    by : (is_in ns n ≡ true → f n ≡ true) → (m ≡ n) ⊎ (is_in ns n ≡ true) → f n ≡ true
    by rest (inl e) = subst (λ i. f i ≡ true) e (left_true (f m) _ h)
    by rest (inr i) = rest i

each_in : (P : ℕ → Type 0) (ns : List ℕ) (n : ℕ) → AllByRecursion P ns → is_in ns n ≡ true → P n
each_in P [] n h k = absurd (cc)
each_in P (m ∷ ns) n h k = by (λ i. each_in P ns n h.1 i) (in_cons m ns n k)
  where
    by : (is_in ns n ≡ true → P n) → (m ≡ n) ⊎ (is_in ns n ≡ true) → P n
    by rest (inl e) = subst P e h.0
    by rest (inr i) = rest i

false_of : (b : Bool) → (b ≡ true → ⊥) → b ≡ false
false_of true h = absurd (h refl)
false_of false h = refl

out_of_range : (lo hi : ℕ) (ns : List ℕ) (n : ℕ) → Rising lo hi ns → (n < lo) ⊎ (hi ≤ n) → is_in ns n ≡ false
out_of_range lo hi ns n h k = false_of (is_in ns n) (λ i. let r = rising_in lo hi ns n h i in let l : n < hi = r.1 in let m : lo ≤ n = r.0 in ⊎_elim (λ j. omega (arith, m, j)) (λ j. omega (arith, l, j)) k)

distinct_rising : (lo hi : ℕ) (ns : List ℕ) → Rising lo hi ns → distinct ns ≡ true
distinct_rising lo hi [] h = refl
distinct_rising lo hi (n ∷ ns) h = both_true (not (is_in ns n)) _ (ap not (out_of_range (n + 1) hi ns n h.1 (inl (omega arith)))) (distinct_rising (n + 1) hi ns h.1)

range : (a c n : ℕ) → between a c n ≡ true → (a ≤ n) × (n < c)
range a c n h =
    let l : a < n + 1 = ltb-true a (n + 1) (left_true (nat_lt a (n + 1)) _ h) in
    (omega (arith, l), ltb-true n c (right_true (nat_lt a (n + 1)) _ h))

module _ (p : ProgParts) where
  -- ---- functions behind each other

  abbrev declared_by_all : List Function → List ℕ
  declared_by_all gs = flat_map (λ g. declared_in g.body) gs

  abbrev parameters_of_all : List Function → List ℕ
  parameters_of_all gs = flat_map (λ g. g.parameters) gs

  declared_rise : (lo hi : ℕ) (out : List ℕ) (gs : List Function) → Sited p lo hi out gs → Rising lo hi (declared_by_all gs)
  declared_rise lo hi out [] h = h
  declared_rise lo hi out (g ∷ gs) h =
      let f = h.4 in
      let l : lo ≤ h.0 = h.2 in
      let m : h.0 ≤ f.middle = rising_ends h.0 f.middle g.parameters f.parameters in
      rising_both lo h.1 hi (declared_in g.body) (declared_by_all gs) (rising_from lo f.middle h.1 (declared_in g.body) (omega (arith, l, m)) f.declared) (declared_rise h.1 hi out gs h.6)

  -- what is of the file's scope is declared in no function
  out_undeclared : (lo hi : ℕ) (out : List ℕ) (gs : List Function) (n : ℕ) → Sited p lo hi out gs → is_in out n ≡ true → is_in (declared_by_all gs) n ≡ false
  out_undeclared lo hi out [] n h k = refl
  out_undeclared lo hi out (g ∷ gs) n h k =
      let f = h.4 in
      let m : h.0 ≤ f.middle = rising_ends h.0 f.middle g.parameters f.parameters in
      in_both (declared_in g.body) (declared_by_all gs) n
      (out_of_range f.middle h.1 (declared_in g.body) n f.declared (⊎_elim (λ i. inl (omega (arith, i, m))) (λ i. inr i) (each_in (Outside p h.0 h.1) out n h.5 k)))
      (out_undeclared h.1 hi out gs n h.6 k)

  -- parameters lie in the range of the functions, and no statement declares them
  parameter_range : (lo hi : ℕ) (out : List ℕ) (gs : List Function) (n : ℕ) → Sited p lo hi out gs → is_in (parameters_of_all gs) n ≡ true → (lo ≤ n) × (n < hi)
  parameter_range lo hi out [] n h k = absurd (cc)
  parameter_range lo hi out (g ∷ gs) n h k =
      let f = h.4 in
      let l : lo ≤ h.0 = h.2 in
      let ac : h.0 ≤ h.1 = h.3 in
      let mc : f.middle ≤ h.1 = rising_ends f.middle h.1 (declared_in g.body) f.declared in
      let r : h.1 ≤ hi = sited_ends p h.1 hi out gs h.6 in
      ⊎_elim (λ i. let q = rising_in h.0 f.middle g.parameters n f.parameters i in let q0 : h.0 ≤ n = q.0 in let q1 : n < f.middle = q.1 in (omega (arith, l, q0), omega (arith, q1, mc, r)))
      (λ i. let q = parameter_range h.1 hi out gs n h.6 i in let q0 : h.1 ≤ n = q.0 in (omega (arith, l, ac, q0), q.1))
      (in_either g.parameters (parameters_of_all gs) n k)

  parameters_undeclared : (lo hi : ℕ) (out : List ℕ) (gs : List Function) (n : ℕ) → Sited p lo hi out gs → is_in (parameters_of_all gs) n ≡ true → is_in (declared_by_all gs) n ≡ false
  parameters_undeclared lo hi out [] n h k = refl
  parameters_undeclared lo hi out (g ∷ gs) n h k =
      let f = h.4 in
      let mc : f.middle ≤ h.1 = rising_ends f.middle h.1 (declared_in g.body) f.declared in
      ⊎_elim (λ i. let q = rising_in h.0 f.middle g.parameters n f.parameters i in let q1 : n < f.middle = q.1 in
      in_both (declared_in g.body) (declared_by_all gs) n (out_of_range f.middle h.1 (declared_in g.body) n f.declared (inl q1))
      (out_of_range h.1 hi (declared_by_all gs) n (declared_rise h.1 hi out gs h.6) (inl (omega (arith, q1, mc)))))
      (λ i. let q = parameter_range h.1 hi out gs n h.6 i in
      in_both (declared_in g.body) (declared_by_all gs) n (out_of_range f.middle h.1 (declared_in g.body) n f.declared (inr q.0)) (parameters_undeclared h.1 hi out gs n h.6 i))
      (in_either g.parameters (parameters_of_all gs) n k)

  functions_right : (lo hi : ℕ) (out : List ℕ) (gs : List Function) → Sited p lo hi out gs → list_all (λ g. scalars_fit p in_function g.body g.parameters) gs ≡ true
  functions_right lo hi out [] h = refl
  functions_right lo hi out (g ∷ gs) h = both_true (scalars_fit p in_function g.body g.parameters) _ h.4.right (functions_right h.1 hi out gs h.6)

  -- ---- a function's own scalars

  function_range : (g : Function) (a c n : ℕ) → FunctionSited p g a c → is_in (slots_of_function p g) n ≡ true → (a ≤ n) × (n < c)
  function_range g a c n f k =
      let mc : f.middle ≤ c = rising_ends f.middle c (declared_in g.body) f.declared in
      ⊎_elim (λ i. let q = rising_in a f.middle g.parameters n f.parameters i in let l : n < f.middle = q.1 in (q.0, omega (arith, l, mc)))
      (λ i. range a c n (in_all (between a c) (slots_of_stmt p g.body) n f.named i))
      (in_either g.parameters (slots_of_stmt p g.body) n k)

  -- below some functions, above them, or of the file's scope
  abbrev Away : ℕ → ℕ → List ℕ → ℕ → Type 0
  Away lo hi out n = (n < lo) ⊎ ((hi ≤ n) ⊎ (is_in out n ≡ true))

  apart_one : (g : Function) (a c : ℕ) (ns : List ℕ) → FunctionSited p g a c → ((n : ℕ) → is_in ns n ≡ true → (n < a) ⊎ (c ≤ n)) → apart ns (slots_of_function p g) ≡ true
  apart_one g a c ns f h = all_in (λ n. not (is_in (slots_of_function p g) n)) ns (λ n i. ap not (false_of (is_in (slots_of_function p g) n) (λ k.
      let q = function_range g a c n f k in let q0 : a ≤ n = q.0 in let q1 : n < c = q.1 in ⊎_elim (λ j. omega (arith, q0, j)) (λ j. omega (arith, q1, j)) (h n i))))

  apart_all : (lo hi : ℕ) (out ns : List ℕ) (gs : List Function) → ((n : ℕ) → is_in ns n ≡ true → Away lo hi out n) → Sited p lo hi out gs → list_all (apart ns) (map (slots_of_function p) gs) ≡ true
  apart_all lo hi out ns [] h k = refl
  apart_all lo hi out ns (g ∷ gs) h k =
      let la : lo ≤ k.0 = k.2 in
      let ac : k.0 ≤ k.1 = k.3 in
      let r : k.1 ≤ hi = sited_ends p k.1 hi out gs k.6 in
      both_true (apart ns (slots_of_function p g)) _
      (apart_one g k.0 k.1 ns k.4 (λ n i. ⊎_elim (λ j. inl (omega (arith, j, la))) (λ o. ⊎_elim (λ j. inr (omega (arith, j, r))) (λ j. each_in (Outside p k.0 k.1) out n k.5 j) o) (h n i)))
      (apart_all k.1 hi out ns gs (λ n i. ⊎_elim (λ j. inl (omega (arith, j, la, ac))) (λ o. inr o) (h n i)) k.6)

  functions_apart : (lo hi : ℕ) (out : List ℕ) (gs : List Function) → Sited p lo hi out gs → pairwise apart (map (slots_of_function p) gs) ≡ true
  functions_apart lo hi out [] h = refl
  functions_apart lo hi out (g ∷ gs) h = both_true (list_all (apart (slots_of_function p g)) (map (slots_of_function p) gs)) _
      (apart_all h.1 hi out (slots_of_function p g) gs (λ n i. let q = function_range g h.0 h.1 n h.4 i in inl q.1) h.6) (functions_apart h.1 hi out gs h.6)

  -- ---- the clauses

  pub record ScalarsRight : Type 0 where
    pub declared_once : IsTrue (distinct (declared p))
    pub declared_elsewhere : IsTrue (apart (slots_of_starts p ++ parameters p) (declared p))
    pub main_scopes : IsTrue (scalars_fit p (in_main (declared p)) p.body [])
    pub function_scopes : IsTrue (list_all (λ f. scalars_fit p in_function f.body f.parameters) p.functions)
    pub own_scalars : IsTrue (pairwise apart (slots_of_stmt p p.body ∷ map (slots_of_function p) p.functions))

  starts_in : (out : List ℕ) (xs : List Start) (n : ℕ) → AllByRecursion (λ x. is_in out x.slot ≡ true) xs → is_in (map (λ s. s.slot) xs) n ≡ true → is_in out n ≡ true
  starts_in out [] n h k = absurd (cc)
  starts_in out (x ∷ xs) n h k = by (λ i. starts_in out xs n h.1 i) (in_cons x.slot (map (λ s. s.slot) xs) n k)
    where
      by : (is_in (map (λ s. s.slot) xs) n ≡ true → is_in out n ≡ true) → (x.slot ≡ n) ⊎ (is_in (map (λ s. s.slot) xs) n ≡ true) → is_in out n ≡ true
      by rest (inl e) = subst (λ m. is_in out m ≡ true) e h.0
      by rest (inr i) = rest i

  module _ (to : ℕ) (w : Whole p to p.functions p.start p.body) where
    main_ends : w.middle ≤ to
    main_ends = rising_ends w.middle to (declared_in p.body) w.declared

    all_rise : Rising 0 to (declared p)
    all_rise = rising_both 0 w.from to (declared_by_all p.functions) (declared_in p.body) (declared_rise 0 w.from w.out p.functions w.sited) (rising_from w.from w.middle to (declared_in p.body) w.begins w.declared)

    out_free : (n : ℕ) → is_in w.out n ≡ true → is_in (declared p) n ≡ false
    out_free n h =
        let b : n < w.from = each_in (λ n. n < w.from) w.out n w.below h in
        let l : w.from ≤ w.middle = w.begins in
        in_both (declared_by_all p.functions) (declared_in p.body) n (out_undeclared 0 w.from w.out p.functions n w.sited h) (out_of_range w.middle to (declared_in p.body) n w.declared (inl (omega (arith, b, l))))

    main_free : (n : ℕ) → w.from ≤ n → n < w.middle → is_in (declared p) n ≡ false
    main_free n h k = in_both (declared_by_all p.functions) (declared_in p.body) n (out_of_range 0 w.from (declared_by_all p.functions) n (declared_rise 0 w.from w.out p.functions w.sited) (inr h))
        (out_of_range w.middle to (declared_in p.body) n w.declared (inl k))

    parameter_free : (n : ℕ) → is_in (parameters p) n ≡ true → is_in (declared p) n ≡ false
    parameter_free n h =
        let q = parameter_range 0 w.from w.out p.functions n w.sited h in
        let b : n < w.from = q.1 in
        let l : w.from ≤ w.middle = w.begins in
        in_both (declared_by_all p.functions) (declared_in p.body) n (parameters_undeclared 0 w.from w.out p.functions n w.sited h) (out_of_range w.middle to (declared_in p.body) n w.declared (inl (omega (arith, b, l))))

    main_away : (n : ℕ) → is_in (slots_of_stmt p p.body) n ≡ true → Away 0 w.from w.out n
    main_away n h = by (is_in w.out n) refl (in_all (λ n. is_in w.out n || between w.from to n) (slots_of_stmt p p.body) n w.named h)
      where
        by : (b : Bool) → is_in w.out n ≡ b → (b || between w.from to n) ≡ true → Away 0 w.from w.out n
        by true e h = inr (inr e)
        by false e h = inr (inl (range w.from to n h).0)

    pub scalars_right_of : ScalarsRight
    scalars_right_of = record {
      declared_once = distinct_rising 0 to (declared p) all_rise;
      declared_elsewhere = all_in (λ n. not (is_in (declared p) n)) (slots_of_starts p ++ parameters p) (λ n i. ap not (⊎_elim (λ j. out_free n (starts_in w.out p.start n w.starts j)) (λ j. parameter_free n j) (in_either (slots_of_starts p) (parameters p) n i)));
      main_scopes = w.right (declared p) out_free main_free;
      function_scopes = functions_right 0 w.from w.out p.functions w.sited;
      own_scalars = both_true (list_all (apart (slots_of_stmt p p.body)) (map (slots_of_function p) p.functions)) _ (apart_all 0 w.from w.out (slots_of_stmt p p.body) p.functions main_away w.sited) (functions_apart 0 w.from w.out p.functions w.sited);
    }

  -- The parts that are made of a tree in which no rule breaks.
  pub scalars_right : (t : Tree) (given : Option ℕ) (whole : Stmt) (v : World) → tree_lies t ≡ true → program_of t given ≡ Gave whole v → v.broken ≡ [] → Made whole v p → ScalarsRight
  scalars_right t given whole v n e h m =
      let w : Whole p (length v.scalars) v.functions v.start whole = subst (λ s. Ends (λ whole v. Finished p v whole) s) e (program_sites p t given n) h in
      scalars_right_of (length v.scalars)
      (subst (λ x. Whole p (length v.scalars) p.functions p.start x) (sym m.body)
      (subst (λ x. Whole p (length v.scalars) p.functions x whole) (sym m.start)
      (subst (λ x. Whole p (length v.scalars) x v.start whole) (sym m.functions) w)))
