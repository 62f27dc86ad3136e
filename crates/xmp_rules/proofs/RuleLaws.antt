-- Each rule breaks at a spot, as the checker tests it, exactly where its sentence says so.
use Rattle.std.proofs.Common.{◌≡◌, ◌∙◌, refl, sym, ap, subst, arith, inl, inr, ⊎_elim, ◌⊎◌, ◌↔◌, ◌++◌, ◌∷◌, [], ℕ, suc, ◌+◌, ◌<◌, ◌≤◌, ◌==◌, length, length-append, List, Bool, true, false, cond, not, ◌&&◌, ◌||◌, nat_lt, nat_le, is_some, Option, Some, None, codes, true≢false}
use Rattle.std.specs.Prelude.{ℤ, pos, negsuc}
use Rattle.std.specs.List.{list_any, list_all, AllByRecursion}
use Rattle.std.proofs.lemmas.Option.{none-some}
use Rattle.std.specs.Option.{option_or}
use Rattle.std.proofs.lemmas.Bool.Decides.{nat_tests}
use Rattle.xmp_base.specs.declared.place.Place.{Place}
use Rattle.xmp_syntax.specs.declared.parts.Name as named
use Rattle.xmp_syntax.specs.declared.expression.Expr.{Expr}
use Rattle.xmp_syntax.specs.declared.program.Tree.{Tree}
use Rattle.xmp_scopes.specs.Names as scope
use Rattle.xmp_scopes.specs.Names.{Name, is_same, in_scope, nearest}
use Rattle.xmp_names.specs.declared.rules.Rule.{Rule}
use Rattle.xmp_names.specs.declared.rules.Rule.TheVariants.{N1, N2, N4, N5, N7, N8}
use Rattle.xmp_names.specs.declared.rules.Broken.{Broken}
use Rattle.xmp_names.specs.Rules.{unless}
use Rattle.xmp_syntax.specs.declared.parts.TypeWords.{TypeWords}
use Rattle.xmp_syntax.specs.declared.parts.TypeWords.TheVariants as words
use Rattle.xmp_syntax.specs.declared.program.Function as program
use Rattle.xmp_names.specs.Expressions.{is_nothing}
use Rattle.xmp_names.specs.Sizes.{is_extent}
use Rattle.xmp_names.specs.Walk.{is_reserved, is_known, first_place}
use Rattle.xmp_walk.specs.Declarations.{extent_right}
use Rattle.xmp_walk.specs.Program.{parameters_in, is_int_word, no_parameters, is_main_head}
use Rattle.xmp_parts.specs.Verdict.{number_of, is_of_names}
use Rattle.xmp_rules.specs.Lists.{AnyOf}
use Rattle.xmp_rules.specs.Scopes.{Declared, Scalar, Array, Nodes, Template, Function, Part, File, InFunction, InMain, Scope, Context, scopes, innermost, meaning, IsUndeclared}
use Rattle.xmp_rules.specs.Spots.{Use, Variable, Called, AScalar, AnIndex, AnArray, SomeNodes, ATemplate, ASide, NoDummy, What, Used, Formed, Sides, Declares, Dummy, Directive, Maps, Extents, Constant, Returned, Word, Sync, Printed, Scanned, Returns, Head, spots, of_expr}
use Rattle.xmp_rules.specs.Constants.{outcome, IsConstant}
use Rattle.xmp_rules.specs.Rules.{IsInconstant, IsOutermost, IsExtent, IsNoExtent, StandsIll, BreaksAt, Counts, IsIntrinsic, IsGiven, IsUnknown, IsNamed, IsTwice, IsInFunction, IsEarlier, LiesOutside, CallsMain, ReachesOut, IsInt, IsMain, IsMisplaced}
use Rattle.xmp_rules.proofs.Names.{equal_of_same, same_of_equal}
use Rattle.xmp_rules.proofs.Standing.{in_function, in_main, is_earlier, lies_inside, may, is_given, allowed, used, breaks, is_out, extents_right}
use Rattle.xmp_rules.proofs.Constancy.{expected, value_in}
use Rattle.xmp_rules.proofs.Hits.{Hit, any_left, any_right, any_either, any_same, counted}

-- ---- a single test

-- The rule that is asked for breaks where its test fails.
hit : (n : ℕ) (at : Place) (test : Bool) (rule : Rule) (p : Place) → is_of_names rule ≡ true → number_of rule ≡ n → AnyOf (Hit n at) (unless test rule p) ↔ ((p ≡ at) × (test ≡ false))
hit n at true rule p r k = (λ h. absurd h, λ h. absurd (true≢false h.1))
hit n at false rule p r k = (λ h. ⊎_elim (λ (x : Hit n at (record { rule = rule; at = p })). (x.place, refl)) (λ x. absurd x) h, λ h. inl (record { names = r; number = k; place = h.0 }))

-- Another rule doesn't.
miss : (n : ℕ) (at : Place) (test : Bool) (rule : Rule) (p : Place) → (number_of rule ≡ n → ⊥) → AnyOf (Hit n at) (unless test rule p) → ⊥
miss n at true rule p k h = h
miss n at false rule p k h = ⊎_elim (λ (x : Hit n at (record { rule = rule; at = p })). k x.number) (λ x. x) h

-- ---- tests and sentences

iff_then : {A B C : Type 0} → A ↔ B → B ↔ C → A ↔ C
iff_then f g = (λ a. g.0 (f.0 a), λ c. f.1 (g.1 c))

iff_place : {A B : Type 0} (p at : Place) → A ↔ B → ((p ≡ at) × A) ↔ ((p ≡ at) × B)
iff_place p at f = (λ h. (h.0, f.0 h.1), λ h. (h.0, f.1 h.1))

same_name : (n m : Name) → (is_same n m ≡ true) ↔ (n ≡ m)
same_name n m = (equal_of_same n m, same_of_equal n m)

not_false : (b : Bool) → (not b ≡ false) ↔ (b ≡ true)
not_false true = (λ h. refl, λ h. refl)
not_false false = (λ h. absurd (true≢false h), λ h. absurd (true≢false (sym h)))

false_or_not : (b : Bool) (A : Type 0) → (b ≡ true) ↔ A → (b ≡ false) ↔ (A → ⊥)
false_or_not true A f = (λ h. absurd (true≢false h), λ h. absurd (h (f.0 refl)))
false_or_not false A f = (λ h a. true≢false (sym (f.1 a)), λ h. refl)

or_either : (a b : Bool) (A B : Type 0) → (a ≡ true) ↔ A → (b ≡ true) ↔ B → ((a || b) ≡ true) ↔ (A ⊎ B)
or_either true b A B f g = (λ h. inl (f.0 refl), λ h. refl)
or_either false b A B f g = (λ h. inr (g.0 h), λ h. ⊎_elim (λ x. absurd (true≢false (sym (f.1 x)))) (λ y. g.1 y) h)

and_both : (a b : Bool) (B : Type 0) → (b ≡ true) ↔ B → ((a && b) ≡ true) ↔ ((a ≡ true) × B)
and_both true b B g = (λ h. (refl, g.0 h), λ h. g.1 h.1)
and_both false b B g = (λ h. absurd (true≢false (sym h)), λ h. absurd (true≢false (sym h.0)))

or_false : (a b : Bool) (A B : Type 0) → (a ≡ false) ↔ A → (b ≡ false) ↔ B → ((a || b) ≡ false) ↔ (A × B)
or_false true b A B f g = (λ h. absurd (true≢false h), λ h. absurd (true≢false (f.1 h.0)))
or_false false b A B f g = (λ h. (f.0 refl, g.0 h), λ h. g.1 h.1)

and_either : (a b : Bool) (A B : Type 0) → (a ≡ false) ↔ A → (b ≡ false) ↔ B → ((a && b) ≡ false) ↔ (A ⊎ B)
and_either true b A B f g = (λ h. inr (g.0 h), λ h. ⊎_elim (λ x. absurd (true≢false (f.1 x))) (λ y. g.1 y) h)
and_either false b A B f g = (λ h. inl (f.0 refl), λ h. refl)

intrinsic : (n : Name) → ((is_same n (codes "xmp_node_num") || is_same n (codes "xmp_num_nodes")) ≡ true) ↔ IsIntrinsic n
intrinsic n = or_either (is_same n (codes "xmp_node_num")) (is_same n (codes "xmp_num_nodes")) (n ≡ codes "xmp_node_num") (n ≡ codes "xmp_num_nodes") (same_name n (codes "xmp_node_num")) (same_name n (codes "xmp_num_nodes"))

-- ---- scopes

named_here : (n : Name) (s : Scope) → (is_some (in_scope n s) ≡ true) ↔ IsNamed n s
named_here n [] = (λ h. absurd (true≢false (sym h)), λ h. absurd h)
named_here n (d ∷ ds) = by (is_same n d.0) (same_name n d.0) (named_here n ds)
  where
    by : (t : Bool) → (t ≡ true) ↔ (n ≡ d.0) → (is_some (in_scope n ds) ≡ true) ↔ IsNamed n ds → (is_some (cond t (Some d.1) (in_scope n ds)) ≡ true) ↔ ((d.0 ≡ n) ⊎ IsNamed n ds)
    by true f k = (λ h. inl (sym (f.0 refl)), λ h. refl)
    by false f k = (λ h. inr (k.0 h), λ h. ⊎_elim (λ e. absurd (true≢false (sym (f.1 (sym e))))) (λ q. k.1 q) h)

absent_here : (n : Name) (s : Scope) → (is_some (in_scope n s) ≡ false) ↔ AllByRecursion (λ d. d.0 ≡ n → ⊥) s
absent_here n [] = (λ h. tt, λ h. refl)
absent_here n (d ∷ ds) = by (is_same n d.0) (same_name n d.0) (absent_here n ds)
  where
    by : (t : Bool) → (t ≡ true) ↔ (n ≡ d.0) → (is_some (in_scope n ds) ≡ false) ↔ AllByRecursion (λ d. d.0 ≡ n → ⊥) ds
        → (is_some (cond t (Some d.1) (in_scope n ds)) ≡ false) ↔ ((d.0 ≡ n → ⊥) × AllByRecursion (λ d. d.0 ≡ n → ⊥) ds)
    by true f k = (λ h. absurd (true≢false h), λ h. absurd (h.0 (sym (f.0 refl))))
    by false f k = (λ h. (λ e. true≢false (sym (f.1 (sym e))), k.0 h), λ h. k.1 h.1)

undeclared : (n : Name) (ss : List Scope) → (is_some (nearest n ss) ≡ false) ↔ IsUndeclared n ss
undeclared n [] = (λ h. tt, λ h. refl)
undeclared n (s ∷ ss) = by (in_scope n s) (absent_here n s) (undeclared n ss)
  where
    by : (x : Option Declared) → (is_some x ≡ false) ↔ AllByRecursion (λ d. d.0 ≡ n → ⊥) s → (is_some (nearest n ss) ≡ false) ↔ IsUndeclared n ss
        → (is_some (option_or x (nearest n ss)) ≡ false) ↔ (AllByRecursion (λ d. d.0 ≡ n → ⊥) s × IsUndeclared n ss)
    by None f k = (λ h. (f.0 refl, k.0 h), λ h. k.1 h.1)
    by (Some x) f k = (λ h. absurd (true≢false h), λ h. absurd (true≢false (f.1 h.0)))

here : (n : Name) (inner : List Scope) (file : Scope) → scope.is_declared_here n (inner ++ file ∷ []) ≡ is_some (in_scope n (innermost inner file))
here n [] file = refl
here n (s ∷ ss) file = refl

-- What is noted of an array breaks N8 twice, and N5.
last_of : (n : ℕ) (at : Place) (c : Context) (name : named.Name) (xs : List Expr) → (number_of N8 ≡ n → ⊥) →
    AnyOf (Hit n at) (breaks c (Extents name xs)) ↔ AnyOf (Hit n at) (unless (not (in_function c.part)) N5 name.at)
last_of n at c name xs k =
    let b : List Broken = unless (is_out c) N8 name.at in
    let d : List Broken = unless (not (in_function c.part)) N5 name.at in (
      λ h. ⊎_elim (λ x. absurd (miss n at (extents_right xs) N8 name.at k x)) (λ y. ⊎_elim (λ x. absurd (miss n at (is_out c) N8 name.at k x)) (λ z. z) (any_either (Hit n at) b d y)) (any_either (Hit n at) (unless (extents_right xs) N8 name.at) (b ++ d) h),
      λ h. any_right (Hit n at) (unless (extents_right xs) N8 name.at) (b ++ d) (any_right (Hit n at) b d h),
    )

no_array : (n : ℕ) (at : Place) (c : Context) (name : named.Name) (xs : List Expr) → (number_of N8 ≡ n → ⊥) → (number_of N5 ≡ n → ⊥) → AnyOf (Hit n at) (breaks c (Extents name xs)) → ⊥
no_array n at c name xs k l h = miss n at (not (in_function c.part)) N5 name.at l ((last_of n at c name xs k).0 h)

none_of : {A : Type 0} → (A → ⊥) → A ↔ ⊥
none_of f = (f, λ h. absurd h)

-- No name in an expression or a directive breaks a rule but N1 and N5.
no_name : (n : ℕ) (at : Place) (c : Context) (name : named.Name) (u : Use) (d : Option Declared) → (number_of N1 ≡ n → ⊥) → (number_of N5 ≡ n → ⊥) → AnyOf (Hit n at) (used c name u d) → ⊥
no_name n at c name u None k l h = miss n at (is_given c name.text u) N1 name.at k h
no_name n at c name u (Some d) k l h = miss n at (allowed name.text u (may c name.text (Some d))) N5 name.at l h

-- ---- N1

given : (c : Context) (n : Name) (u : Use) → (is_given c n u ≡ true) ↔ IsGiven c n u
given c n (Called k) = and_both c.coarray (is_same n (codes "xmp_node_num") || is_same n (codes "xmp_num_nodes")) (IsIntrinsic n) (intrinsic n)
given c n (Variable k b) = (λ h. absurd (true≢false (sym h)), λ h. absurd h)
given c n AScalar = (λ h. absurd (true≢false (sym h)), λ h. absurd h)
given c n AnIndex = (λ h. absurd (true≢false (sym h)), λ h. absurd h)
given c n AnArray = (λ h. absurd (true≢false (sym h)), λ h. absurd h)
given c n SomeNodes = (λ h. absurd (true≢false (sym h)), λ h. absurd h)
given c n ATemplate = (λ h. absurd (true≢false (sym h)), λ h. absurd h)
given c n (ASide k) = (λ h. absurd (true≢false (sym h)), λ h. absurd h)
given c n NoDummy = (λ h. absurd (true≢false (sym h)), λ h. absurd h)

unknown_used : (c : Context) (n : named.Name) (u : Use) (at : Place) (d : Option Declared) → (is_some d ≡ false) ↔ IsUndeclared n.text (scopes c) →
    AnyOf (Hit 1 at) (used c n u d) ↔ ((n.at ≡ at) × (IsUndeclared n.text (scopes c) × (IsGiven c n.text u → ⊥)))
unknown_used c n u at None f =
    iff_then (hit 1 at (is_given c n.text u) N1 n.at refl refl)
    (λ h. (h.0, (f.0 refl, (false_or_not (is_given c n.text u) (IsGiven c n.text u) (given c n.text u)).0 h.1)), λ h. (h.0, (false_or_not (is_given c n.text u) (IsGiven c n.text u) (given c n.text u)).1 h.1.1))
unknown_used c n u at (Some d) f = (λ h. absurd (miss 1 at (allowed n.text u (may c n.text (Some d))) N5 n.at (λ e. omega (arith, e)) h), λ h. absurd (true≢false (f.1 h.1.0)))

unknown_spot : (at : Place) (c : Context) (x : What) → AnyOf (Hit 1 at) (breaks c x) ↔ IsUnknown c x at
unknown_spot at c (Used n u) = unknown_used c n u at (meaning c n.text) (undeclared n.text (scopes c))
unknown_spot at c (Sync word) = hit 1 at c.coarray N1 word refl refl
unknown_spot at c (Declares n) = none_of (miss 1 at _ N2 n.at (λ e. omega (arith, e)))
unknown_spot at c (Dummy before n) = none_of (miss 1 at _ N2 n.at (λ e. omega (arith, e)))
unknown_spot at c (Directive word) = none_of (miss 1 at _ N5 word (λ e. omega (arith, e)))
unknown_spot at c (Word word) = none_of (miss 1 at _ N5 word (λ e. omega (arith, e)))
unknown_spot at c (Extents n extents) = none_of (no_array 1 at c n extents (λ e. omega (arith, e)) (λ e. omega (arith, e)))
unknown_spot at c (Formed n f) = none_of (λ h. h)
unknown_spot at c (Sides a b) = none_of (λ h. h)
unknown_spot at c (Maps word) = none_of (miss 1 at _ N8 word (λ e. omega (arith, e)))
unknown_spot at c (Constant x) = none_of (miss 1 at _ N4 (first_place x) (λ e. omega (arith, e)))
unknown_spot at c (Returned x) = none_of (miss 1 at _ N4 (first_place x) (λ e. omega (arith, e)))
unknown_spot at c (Printed f xs) = none_of (λ h. h)
unknown_spot at c (Scanned f r) = none_of (λ h. h)
unknown_spot at c (Returns word) = none_of (miss 1 at _ N7 word (λ e. omega (arith, e)))
unknown_spot at c (Head f) = none_of (miss 1 at _ N7 f.name.at (λ e. omega (arith, e)))

pub unknown_names : (t : Tree) (given : Option ℕ) (at : Place) → Counts t given 1 at ↔ BreaksAt IsUnknown t at
unknown_names t given at = iff_then (counted t given 1 at refl) (any_same (λ s. AnyOf (Hit 1 at) (breaks s.in s.what)) (λ s. IsUnknown s.in s.what at) (λ s. unknown_spot at s.in s.what) (spots t))

-- ---- N2

dummy_twice : (n : Name) (before : List Name) → (list_any (is_same n) before ≡ true) ↔ AnyOf (λ m. m ≡ n) before
dummy_twice n [] = (λ h. absurd (true≢false (sym h)), λ h. absurd h)
dummy_twice n (m ∷ ms) = or_either (is_same n m) (list_any (is_same n) ms) (m ≡ n) (AnyOf (λ m. m ≡ n) ms) (λ h. sym (equal_of_same n m h), λ h. same_of_equal n m (sym h)) (dummy_twice n ms)

twice_declared : (c : Context) (n : Name) → (not (scope.is_declared_here n (scopes c) || is_reserved n) ≡ false) ↔ (IsNamed n (innermost c.inner c.file) ⊎ IsIntrinsic n)
twice_declared c n = iff_then (not_false (scope.is_declared_here n (scopes c) || is_reserved n))
    (or_either (scope.is_declared_here n (scopes c)) (is_reserved n) (IsNamed n (innermost c.inner c.file)) (IsIntrinsic n)
    (subst (λ b. (b ≡ true) ↔ IsNamed n (innermost c.inner c.file)) (sym (here n c.inner c.file)) (named_here n (innermost c.inner c.file))) (intrinsic n))

twice_spot : (at : Place) (c : Context) (x : What) → AnyOf (Hit 2 at) (breaks c x) ↔ IsTwice c x at
twice_spot at c (Used n u) = none_of (no_name 2 at c n u (meaning c n.text) (λ e. omega (arith, e)) (λ e. omega (arith, e)))
twice_spot at c (Sync word) = none_of (miss 2 at c.coarray N1 word (λ e. omega (arith, e)))
twice_spot at c (Declares n) = iff_then (hit 2 at _ N2 n.at refl refl) (iff_place n.at at (twice_declared c n.text))
twice_spot at c (Dummy before n) = iff_then (hit 2 at _ N2 n.at refl refl) (iff_place n.at at (iff_then (not_false (list_any (is_same n.text) before)) (dummy_twice n.text before)))
twice_spot at c (Directive word) = none_of (miss 2 at _ N5 word (λ e. omega (arith, e)))
twice_spot at c (Word word) = none_of (miss 2 at _ N5 word (λ e. omega (arith, e)))
twice_spot at c (Extents n extents) = none_of (no_array 2 at c n extents (λ e. omega (arith, e)) (λ e. omega (arith, e)))
twice_spot at c (Formed n f) = none_of (λ h. h)
twice_spot at c (Sides a b) = none_of (λ h. h)
twice_spot at c (Maps word) = none_of (miss 2 at _ N8 word (λ e. omega (arith, e)))
twice_spot at c (Constant x) = none_of (miss 2 at _ N4 (first_place x) (λ e. omega (arith, e)))
twice_spot at c (Returned x) = none_of (miss 2 at _ N4 (first_place x) (λ e. omega (arith, e)))
twice_spot at c (Printed f xs) = none_of (λ h. h)
twice_spot at c (Scanned f r) = none_of (λ h. h)
twice_spot at c (Returns word) = none_of (miss 2 at _ N7 word (λ e. omega (arith, e)))
twice_spot at c (Head f) = none_of (miss 2 at _ N7 f.name.at (λ e. omega (arith, e)))

pub names_declared_twice : (t : Tree) (given : Option ℕ) (at : Place) → Counts t given 2 at ↔ BreaksAt IsTwice t at
names_declared_twice t given at = iff_then (counted t given 2 at refl) (any_same (λ s. AnyOf (Hit 2 at) (breaks s.in s.what)) (λ s. IsTwice s.in s.what at) (λ s. twice_spot at s.in s.what) (spots t))

-- ---- N5

in_one : (p : Part) → (not (in_function p) ≡ false) ↔ IsInFunction p
in_one File = (λ h. absurd (true≢false h), λ h. absurd h)
in_one (InFunction k) = (λ h. tt, λ h. refl)
in_one InMain = (λ h. absurd (true≢false h), λ h. absurd h)

earlier : (j : ℕ) (p : Part) → (is_earlier j p ≡ true) ↔ IsEarlier j p
earlier j File = (λ h. tt, λ h. refl)
earlier j (InFunction k) = (λ h. grind (arith, nat_tests, h), λ h. grind (arith, nat_tests, h))
earlier j InMain = (λ h. tt, λ h. refl)

outside : (c : Context) (n : Name) (d : Option Declared) → (lies_inside c n d ≡ false) ↔ LiesOutside c n d
outside c n None = (λ h. absurd (true≢false h), λ h. absurd h)
outside c n (Some (Function j parameters ty depth)) = false_or_not (is_earlier j c.part) (IsEarlier j c.part) (earlier j c.part)
outside c n (Some (Scalar ty)) = undeclared n c.inner
outside c n (Some (Array ty dimensions coarray)) = undeclared n c.inner
outside c n (Some (Nodes written dimensions)) = undeclared n c.inner
outside c n (Some (Template written dimensions)) = undeclared n c.inner

may_not : (c : Context) (n : Name) (d : Option Declared) → (may c n d ≡ false) ↔ (IsInFunction c.part × LiesOutside c n d)
may_not c n d = or_false (not (in_function c.part)) (lies_inside c n d) (IsInFunction c.part) (LiesOutside c n d) (in_one c.part) (outside c n d)

left_alone : {A : Type 0} → A ↔ (A ⊎ ⊥)
left_alone = (λ h. inl h, λ h. ⊎_elim (λ x. x) (λ x. absurd x) h)

not_allowed : (c : Context) (n : Name) (u : Use) (d : Declared) → (allowed n u (may c n (Some d)) ≡ false) ↔ ((IsInFunction c.part × LiesOutside c n (Some d)) ⊎ CallsMain n u (Some d))
not_allowed c n (Called k) d = and_either (may c n (Some d)) (not (is_same n (codes "main"))) (IsInFunction c.part × LiesOutside c n (Some d)) (n ≡ codes "main") (may_not c n (Some d)) (iff_then (not_false (is_same n (codes "main"))) (same_name n (codes "main")))
not_allowed c n (Variable k b) d = iff_then (may_not c n (Some d)) left_alone
not_allowed c n AScalar d = iff_then (may_not c n (Some d)) left_alone
not_allowed c n AnIndex d = iff_then (may_not c n (Some d)) left_alone
not_allowed c n AnArray d = iff_then (may_not c n (Some d)) left_alone
not_allowed c n SomeNodes d = iff_then (may_not c n (Some d)) left_alone
not_allowed c n ATemplate d = iff_then (may_not c n (Some d)) left_alone
not_allowed c n (ASide k) d = iff_then (may_not c n (Some d)) left_alone
not_allowed c n NoDummy d = iff_then (may_not c n (Some d)) left_alone

no_main : (n : Name) (u : Use) → CallsMain n u None → ⊥
no_main n (Called k) h = h
no_main n (Variable k b) h = h
no_main n AScalar h = h
no_main n AnIndex h = h
no_main n AnArray h = h
no_main n SomeNodes h = h
no_main n ATemplate h = h
no_main n (ASide k) h = h
no_main n NoDummy h = h

reaching : (at : Place) (c : Context) (n : named.Name) (u : Use) (d : Option Declared) → AnyOf (Hit 5 at) (used c n u d) ↔ ((n.at ≡ at) × ((IsInFunction c.part × LiesOutside c n.text d) ⊎ CallsMain n.text u d))
reaching at c n u None = (λ h. absurd (miss 5 at (is_given c n.text u) N1 n.at (λ e. omega (arith, e)) h), λ h. ⊎_elim (λ x. absurd x.1) (λ x. absurd (no_main n.text u x)) h.1)
reaching at c n u (Some d) = iff_then (hit 5 at (allowed n.text u (may c n.text (Some d))) N5 n.at refl refl) (iff_place n.at at (not_allowed c n.text u d))

reaching_spot : (at : Place) (c : Context) (x : What) → AnyOf (Hit 5 at) (breaks c x) ↔ ReachesOut c x at
reaching_spot at c (Used n u) = reaching at c n u (meaning c n.text)
reaching_spot at c (Directive word) = iff_then (hit 5 at _ N5 word refl refl) (iff_place word at (in_one c.part))
reaching_spot at c (Word word) = iff_then (hit 5 at _ N5 word refl refl) (iff_place word at (in_one c.part))
reaching_spot at c (Extents n extents) = iff_then (last_of 5 at c n extents (λ e. omega (arith, e))) (iff_then (hit 5 at _ N5 n.at refl refl) (iff_place n.at at (in_one c.part)))
reaching_spot at c (Sync word) = none_of (miss 5 at c.coarray N1 word (λ e. omega (arith, e)))
reaching_spot at c (Declares n) = none_of (miss 5 at _ N2 n.at (λ e. omega (arith, e)))
reaching_spot at c (Dummy before n) = none_of (miss 5 at _ N2 n.at (λ e. omega (arith, e)))
reaching_spot at c (Formed n f) = none_of (λ h. h)
reaching_spot at c (Sides a b) = none_of (λ h. h)
reaching_spot at c (Maps word) = none_of (miss 5 at _ N8 word (λ e. omega (arith, e)))
reaching_spot at c (Constant x) = none_of (miss 5 at _ N4 (first_place x) (λ e. omega (arith, e)))
reaching_spot at c (Returned x) = none_of (miss 5 at _ N4 (first_place x) (λ e. omega (arith, e)))
reaching_spot at c (Printed f xs) = none_of (λ h. h)
reaching_spot at c (Scanned f r) = none_of (λ h. h)
reaching_spot at c (Returns word) = none_of (miss 5 at _ N7 word (λ e. omega (arith, e)))
reaching_spot at c (Head f) = none_of (miss 5 at _ N7 f.name.at (λ e. omega (arith, e)))

pub names_outside_functions : (t : Tree) (given : Option ℕ) (at : Place) → Counts t given 5 at ↔ BreaksAt ReachesOut t at
names_outside_functions t given at = iff_then (counted t given 5 at refl) (any_same (λ s. AnyOf (Hit 5 at) (breaks s.in s.what)) (λ s. ReachesOut s.in s.what at) (λ s. reaching_spot at s.in s.what) (spots t))

-- ---- N7

in_main_part : (p : Part) → (not (in_main p) ≡ false) ↔ (p ≡ InMain)
in_main_part File = (λ h. absurd (true≢false h), λ h. absurd (cc h))
in_main_part (InFunction k) = (λ h. absurd (true≢false h), λ h. absurd (cc h))
in_main_part InMain = (λ h. refl, λ h. refl)

int_word : (x : TypeWords) → (is_int_word x ≡ true) ↔ IsInt x
int_word (words.Int at) = (λ h. tt, λ h. refl)
int_word (words.Long at) = (λ h. true≢false (sym h), λ h. absurd h)
int_word (words.LongInt at int_at) = (λ h. true≢false (sym h), λ h. absurd h)

without_parameters : (xs : List (TypeWords × named.Name)) → (no_parameters xs ≡ true) ↔ (xs ≡ [])
without_parameters [] = (λ h. refl, λ h. refl)
without_parameters (x ∷ xs) = (λ h. absurd (true≢false (sym h)), λ h. absurd (cc h))

both : (a b : Bool) (A B : Type 0) → (a ≡ true) ↔ A → (b ≡ true) ↔ B → ((a && b) ≡ true) ↔ (A × B)
both true b A B f g = (λ h. (f.0 refl, g.0 h), λ h. g.1 h.1)
both false b A B f g = (λ h. absurd (true≢false (sym h)), λ h. absurd (true≢false (sym (f.1 h.0))))

main_head : (f : program.Function) → (is_main_head f ≡ true) ↔ IsMain f
main_head f = both (is_int_word f.ty) (is_same f.name.text (codes "main") && no_parameters (parameters_in f.parameters.item)) (IsInt f.ty) ((f.name.text ≡ codes "main") × (parameters_in f.parameters.item ≡ [])) (int_word f.ty)
    (both (is_same f.name.text (codes "main")) (no_parameters (parameters_in f.parameters.item)) (f.name.text ≡ codes "main") (parameters_in f.parameters.item ≡ []) (same_name f.name.text (codes "main")) (without_parameters (parameters_in f.parameters.item)))

misplaced_spot : (at : Place) (c : Context) (x : What) → AnyOf (Hit 7 at) (breaks c x) ↔ IsMisplaced c x at
misplaced_spot at c (Returns word) = iff_then (hit 7 at (not (in_main c.part)) N7 word refl refl) (iff_place word at (in_main_part c.part))
misplaced_spot at c (Head f) = iff_then (hit 7 at (is_main_head f) N7 f.name.at refl refl) (iff_place f.name.at at (false_or_not (is_main_head f) (IsMain f) (main_head f)))
misplaced_spot at c (Used n u) = none_of (no_name 7 at c n u (meaning c n.text) (λ e. omega (arith, e)) (λ e. omega (arith, e)))
misplaced_spot at c (Sync word) = none_of (miss 7 at c.coarray N1 word (λ e. omega (arith, e)))
misplaced_spot at c (Declares n) = none_of (miss 7 at _ N2 n.at (λ e. omega (arith, e)))
misplaced_spot at c (Dummy before n) = none_of (miss 7 at _ N2 n.at (λ e. omega (arith, e)))
misplaced_spot at c (Directive word) = none_of (miss 7 at _ N5 word (λ e. omega (arith, e)))
misplaced_spot at c (Word word) = none_of (miss 7 at _ N5 word (λ e. omega (arith, e)))
misplaced_spot at c (Extents n extents) = none_of (no_array 7 at c n extents (λ e. omega (arith, e)) (λ e. omega (arith, e)))
misplaced_spot at c (Formed n f) = none_of (λ h. h)
misplaced_spot at c (Sides a b) = none_of (λ h. h)
misplaced_spot at c (Maps word) = none_of (miss 7 at _ N8 word (λ e. omega (arith, e)))
misplaced_spot at c (Constant x) = none_of (miss 7 at _ N4 (first_place x) (λ e. omega (arith, e)))
misplaced_spot at c (Returned x) = none_of (miss 7 at _ N4 (first_place x) (λ e. omega (arith, e)))
misplaced_spot at c (Printed f xs) = none_of (λ h. h)
misplaced_spot at c (Scanned f r) = none_of (λ h. h)

pub main_and_its_return : (t : Tree) (given : Option ℕ) (at : Place) → Counts t given 7 at ↔ BreaksAt IsMisplaced t at
main_and_its_return t given at = iff_then (counted t given 7 at refl) (any_same (λ s. AnyOf (Hit 7 at) (breaks s.in s.what)) (λ s. IsMisplaced s.in s.what at) (λ s. misplaced_spot at s.in s.what) (spots t))

-- ---- N4

-- What the checker knows of an expression is a value exactly where it has that value.
value_known : (plain : Bool) (v : Option ℤ) → (is_known (expected plain v) ≡ true) ↔ ((plain ≡ true) × ((x : ℤ) × (v ≡ Some x)))
value_known false v = (λ h. absurd (true≢false (sym h)), λ h. absurd (true≢false (sym h.0)))
value_known true None = (λ h. absurd (true≢false (sym h)), λ h. absurd (none-some h.1.0 h.1.1))
value_known true (Some x) = (λ h. (refl, (x, refl)), λ h. refl)

nothing_there : {A : Type 0} (xs : List A) → (is_nothing xs ≡ true) ↔ (xs ≡ [])
nothing_there [] = (λ h. refl, λ h. refl)
nothing_there (x ∷ xs) = (λ h. absurd (true≢false (sym h)), λ h. absurd (cc h))

constant_known : (x : Expr) → (is_known (value_in x) ≡ true) ↔ IsConstant x
constant_known x =
    let k = value_known (is_nothing (of_expr x)) (outcome x).value in
    let n = nothing_there (of_expr x) in
    (λ h. ((k.0 h).1.0, record { nameless = n.0 (k.0 h).0; value = (k.0 h).1.1 }), λ h. k.1 (n.1 h.1.nameless, (h.0, h.1.value)))

inconstant : (x : Expr) → (is_known (value_in x) ≡ false) ↔ (IsConstant x → ⊥)
inconstant x = false_or_not (is_known (value_in x)) (IsConstant x) (constant_known x)

inconstant_spot : (at : Place) (c : Context) (x : What) → AnyOf (Hit 4 at) (breaks c x) ↔ IsInconstant c x at
inconstant_spot at c (Used n u) = none_of (no_name 4 at c n u (meaning c n.text) (λ e. omega (arith, e)) (λ e. omega (arith, e)))
inconstant_spot at c (Sync word) = none_of (miss 4 at c.coarray N1 word (λ e. omega (arith, e)))
inconstant_spot at c (Declares n) = none_of (miss 4 at _ N2 n.at (λ e. omega (arith, e)))
inconstant_spot at c (Dummy before n) = none_of (miss 4 at _ N2 n.at (λ e. omega (arith, e)))
inconstant_spot at c (Directive word) = none_of (miss 4 at _ N5 word (λ e. omega (arith, e)))
inconstant_spot at c (Word word) = none_of (miss 4 at _ N5 word (λ e. omega (arith, e)))
inconstant_spot at c (Extents n extents) = none_of (no_array 4 at c n extents (λ e. omega (arith, e)) (λ e. omega (arith, e)))
inconstant_spot at c (Formed n f) = none_of (λ h. h)
inconstant_spot at c (Sides a b) = none_of (λ h. h)
inconstant_spot at c (Maps word) = none_of (miss 4 at _ N8 word (λ e. omega (arith, e)))
inconstant_spot at c (Constant x) = iff_then (hit 4 at _ N4 (first_place x) refl refl) (iff_place (first_place x) at (inconstant x))
inconstant_spot at c (Returned x) = iff_then (hit 4 at _ N4 (first_place x) refl refl) (iff_place (first_place x) at (or_false (not (in_main c.part)) (is_known (value_in x)) (c.part ≡ InMain) (IsConstant x → ⊥) (in_main_part c.part) (inconstant x)))
inconstant_spot at c (Printed f xs) = none_of (λ h. h)
inconstant_spot at c (Scanned f r) = none_of (λ h. h)
inconstant_spot at c (Returns word) = none_of (miss 4 at _ N7 word (λ e. omega (arith, e)))
inconstant_spot at c (Head f) = none_of (miss 4 at _ N7 f.name.at (λ e. omega (arith, e)))

pub constant_expressions : (t : Tree) (given : Option ℕ) (at : Place) → Counts t given 4 at ↔ BreaksAt IsInconstant t at
constant_expressions t given at = iff_then (counted t given 4 at refl) (any_same (λ s. AnyOf (Hit 4 at) (breaks s.in s.what)) (λ s. IsInconstant s.in s.what at) (λ s. inconstant_spot at s.in s.what) (spots t))

-- ---- N8

long_scopes : (k : ℕ) → (nat_lt (suc (suc (k + 1))) 2 ≡ false) × ((suc (suc (k + 1)) == 2) ≡ false)
long_scopes k = (grind (arith, nat_tests), grind (arith, nat_tests))

out_by : (p : Part) (inner : List Scope) (file : Scope) → ((nat_lt (length (inner ++ file ∷ [])) 2 || (in_main p && (length (inner ++ file ∷ []) == 2))) ≡ true) ↔ IsOutermost p inner
out_by p [] file = (λ h. tt, λ h. refl)
out_by File (s ∷ []) file = (λ h. absurd (true≢false (sym h)), λ h. absurd (cc h))
out_by (InFunction k) (s ∷ []) file = (λ h. absurd (true≢false (sym h)), λ h. absurd (cc h))
out_by InMain (s ∷ []) file = (λ h. refl, λ h. refl)
out_by p (s ∷ t ∷ ss) file =
    let k : ℕ = length (ss ++ file ∷ []) in
    let e : (nat_lt (suc (suc k)) 2 || (in_main p && (suc (suc k) == 2))) ≡ false = by k (length-append ss (file ∷ [])) in
    (λ h. absurd (true≢false (sym h ∙ e)), λ h. absurd h)
  where
    none : (a b c : Bool) → a ≡ false → c ≡ false → (a || (b && c)) ≡ false
    none a true c h e = ap (λ x. x || c) h ∙ e
    none a false c h e = ap (λ x. x || false) h

    by : (k : ℕ) → k ≡ length ss + 1 → (nat_lt (suc (suc k)) 2 || (in_main p && (suc (suc k) == 2))) ≡ false
    by k h = none (nat_lt (suc (suc k)) 2) (in_main p) (suc (suc k) == 2) (ap (λ n. nat_lt (suc (suc n)) 2) h ∙ (long_scopes (length ss)).0) (ap (λ n. suc (suc n) == 2) h ∙ (long_scopes (length ss)).1)

outside_here : (c : Context) → (is_out c ≡ false) ↔ (IsOutermost c.part c.inner → ⊥)
outside_here c = false_or_not (is_out c) (IsOutermost c.part c.inner) (out_by c.part c.inner c.file)

extent_is : (v : ℤ) → (is_extent v ≡ true) ↔ IsExtent v
extent_is (pos n) = (λ h. (n, (refl, inside n h)), λ h. within n (h.0) (cc h.1.0) h.1.1.0 h.1.1.1)
  where
    inside : (n : ℕ) → (nat_le 1 n && nat_le n 4194304) ≡ true → (1 ≤ n) × (n ≤ 4194304)
    inside n h = (grind (arith, nat_tests, h), grind (arith, nat_tests, h))

    within : (n m : ℕ) → n ≡ m → 1 ≤ m → m ≤ 4194304 → (nat_le 1 n && nat_le n 4194304) ≡ true
    within n m e a b = grind (arith, nat_tests)
extent_is (negsuc n) = (λ h. absurd (true≢false (sym h)), λ h. absurd (cc h.1.0))

no_extent : (x : Expr) → (extent_right (value_in x) ≡ false) ↔ IsNoExtent x
no_extent x = by (is_nothing (of_expr x)) (outcome x).value (nothing_there (of_expr x)) refl
  where
    by : (plain : Bool) (o : Option ℤ) → (plain ≡ true) ↔ (of_expr x ≡ []) → (outcome x).value ≡ o → (extent_right (expected plain o) ≡ false) ↔ IsNoExtent x
    by false o n e = (λ h. absurd (true≢false h), λ h. absurd (true≢false (sym (n.1 h.1.0.nameless))))
    by true None n e = (λ h. absurd (true≢false h), λ h. absurd (none-some h.0 (sym e ∙ h.1.0.value)))
    by true (Some v) n e =
        let k = false_or_not (is_extent v) (IsExtent v) (extent_is v) in
        (λ h. (v, (record { nameless = n.0 refl; value = e }, k.0 h)), λ h. let q : h.0 ≡ v = cc (sym h.1.0.value ∙ e) in k.1 (subst (λ y. IsExtent y → ⊥) q h.1.1))

some_no_extent : (xs : List Expr) → (list_all (λ x. extent_right (value_in x)) xs ≡ false) ↔ AnyOf IsNoExtent xs
some_no_extent [] = (λ h. absurd (true≢false h), λ h. absurd h)
some_no_extent (x ∷ xs) = and_either (extent_right (value_in x)) (list_all (λ x. extent_right (value_in x)) xs) (IsNoExtent x) (AnyOf IsNoExtent xs) (no_extent x) (some_no_extent xs)

too_many : (n : ℕ) → (nat_le n 3 ≡ false) ↔ (3 < n)
too_many n = (λ h. grind (arith, nat_tests, h), λ h. grind (arith, nat_tests, h))

ill_array : (at : Place) (c : Context) (n : named.Name) (xs : List Expr) → AnyOf (Hit 8 at) (breaks c (Extents n xs)) ↔ StandsIll c (Extents n xs) at
ill_array at c n xs =
    let a : List Broken = unless (extents_right xs) N8 n.at in
    let b : List Broken = unless (is_out c) N8 n.at in
    let d : List Broken = unless (not (in_function c.part)) N5 n.at in
    let f = iff_then (hit 8 at (extents_right xs) N8 n.at refl refl) (iff_place n.at at (and_either (list_all (λ x. extent_right (value_in x)) xs) (nat_le (length xs) 3) (AnyOf IsNoExtent xs) (3 < length xs) (some_no_extent xs) (too_many (length xs)))) in
    let g = iff_then (hit 8 at (is_out c) N8 n.at refl refl) (iff_place n.at at (outside_here c)) in
    let P : Broken → Type 0 = Hit 8 at in (
      λ h. ⊎_elim (λ x. let k = f.0 x in (k.0, ⊎_elim (λ y. inl y) (λ y. inr (inl y)) k.1))
          (λ y. ⊎_elim (λ x. let k = g.0 x in (k.0, inr (inr k.1))) (λ z. absurd (miss 8 at (not (in_function c.part)) N5 n.at (λ e. omega (arith, e)) z)) (any_either P b d y)) (any_either P a (b ++ d) h),
      λ h. ⊎_elim (λ y. any_left P a (b ++ d) (f.1 (h.0, inl y)))
          (λ q. ⊎_elim (λ y. any_left P a (b ++ d) (f.1 (h.0, inr y))) (λ y. any_right P a (b ++ d) (any_left P b d (g.1 (h.0, y)))) q) h.1,
    )

ill_spot : (at : Place) (c : Context) (x : What) → AnyOf (Hit 8 at) (breaks c x) ↔ StandsIll c x at
ill_spot at c (Used n u) = none_of (no_name 8 at c n u (meaning c n.text) (λ e. omega (arith, e)) (λ e. omega (arith, e)))
ill_spot at c (Sync word) = none_of (miss 8 at c.coarray N1 word (λ e. omega (arith, e)))
ill_spot at c (Declares n) = none_of (miss 8 at _ N2 n.at (λ e. omega (arith, e)))
ill_spot at c (Dummy before n) = none_of (miss 8 at _ N2 n.at (λ e. omega (arith, e)))
ill_spot at c (Directive word) = none_of (miss 8 at _ N5 word (λ e. omega (arith, e)))
ill_spot at c (Word word) = none_of (miss 8 at _ N5 word (λ e. omega (arith, e)))
ill_spot at c (Extents n extents) = ill_array at c n extents
ill_spot at c (Formed n f) = none_of (λ h. h)
ill_spot at c (Sides a b) = none_of (λ h. h)
ill_spot at c (Maps word) = iff_then (hit 8 at (is_out c) N8 word refl refl) (iff_place word at (outside_here c))
ill_spot at c (Constant x) = none_of (miss 8 at _ N4 (first_place x) (λ e. omega (arith, e)))
ill_spot at c (Returned x) = none_of (miss 8 at _ N4 (first_place x) (λ e. omega (arith, e)))
ill_spot at c (Printed f xs) = none_of (λ h. h)
ill_spot at c (Scanned f r) = none_of (λ h. h)
ill_spot at c (Returns word) = none_of (miss 8 at _ N7 word (λ e. omega (arith, e)))
ill_spot at c (Head f) = none_of (miss 8 at _ N7 f.name.at (λ e. omega (arith, e)))

pub arrays_and_their_places : (t : Tree) (given : Option ℕ) (at : Place) → Counts t given 8 at ↔ BreaksAt StandsIll t at
arrays_and_their_places t given at = iff_then (counted t given 8 at refl) (any_same (λ s. AnyOf (Hit 8 at) (breaks s.in s.what)) (λ s. StandsIll s.in s.what at) (λ s. ill_spot at s.in s.what) (spots t))
