-- An environment of the checker stands for a context: the names mean the same, and the same functions were declared.
use Rattle.std.proofs.Common.{◌≡◌, ◌∙◌, refl, sym, ap, subst, ◌++◌, ◌∷◌, [], ℕ, suc, ◌+◌, List, Bool, true, false, cond, not, ◌&&◌, ◌||◌, ◌==◌, nat_lt, nat_le, Option, Some, None, is_some, length, length-append, flat_map, codes, if◌then◌else◌, arith}
use Rattle.std.specs.Prelude.{⊤}
use Rattle.std.specs.List.{list_any, list_all}
use Rattle.std.specs.Option.{option_or}
use Rattle.std.proofs.lemmas.Option.{none-some}
use Rattle.xmp_syntax.specs.declared.parts.Name as named
use Rattle.xmp_scopes.specs.Names as scope
use Rattle.xmp_scopes.specs.Names.{Name, is_same, in_scope, nearest, depth_of}
use Rattle.xmp_names.specs.declared.names.Region.{Region}
use Rattle.xmp_names.specs.declared.names.Region.TheVariants as region
use Rattle.xmp_names.specs.declared.names.Meaning.{Meaning}
use Rattle.xmp_names.specs.declared.names.Meaning.TheVariants as m
use Rattle.xmp_names.specs.declared.names.Environment.{Environment}
use Rattle.xmp_names.specs.declared.rules.Rule.TheVariants.{N1, N2, N4, N5, N7, N8}
use Rattle.xmp_names.specs.declared.rules.Broken.{Broken}
use Rattle.xmp_names.specs.Rules.{unless}
use Rattle.xmp_names.specs.Expressions.{is_function, is_first, is_own, may_name}
use Rattle.xmp_names.specs.declared.world.World.{World}
use Rattle.xmp_names.specs.Walk.{is_reserved, is_main, is_known, is_outermost, first_place}
use Rattle.xmp_walk.specs.Declarations.{extent_right}
use Rattle.xmp_walk.specs.Program.{is_main_head}
use Rattle.xmp_rules.specs.Scopes.{Declared, Scalar, Array, Nodes, Template, Function, Part, File, InFunction, InMain, Scope, Context, scopes, meaning}
use Rattle.xmp_syntax.specs.declared.expression.Expr.{Expr}
use Rattle.xmp_rules.proofs.Constancy.{value_in}
use Rattle.xmp_rules.specs.Spots.{Use, Called, What, Used, Declares, Dummy, Directive, Maps, Extents, Constant, Returned, Word, Sync, Returns, Head, Spot, all_in}

-- ---- the relation

-- A meaning stands for a declaration.
abbrev pub SameKind : Meaning → Declared → Type 0
SameKind (m.Scalar slot ty) (Scalar tz) = ⊤
SameKind (m.Array k) (Array ty dimensions coarray) = ⊤
SameKind (m.Nodes k) (Nodes written dimensions) = ⊤
SameKind (m.Template k) (Template written dimensions) = ⊤
SameKind (m.Function k ty) (Function j parameters tz depth) = k ≡ j
SameKind _ _ = ⊥

abbrev pub SameScope : List (Name × Meaning) → Scope → Type 0
SameScope [] [] = ⊤
SameScope [] (b ∷ bs) = ⊥
SameScope (a ∷ ms) [] = ⊥
SameScope (a ∷ ms) (b ∷ bs) = (a.0 ≡ b.0) × (SameKind a.1 b.1 × SameScope ms bs)

abbrev pub SameScopes : List (List (Name × Meaning)) → List Scope → Type 0
SameScopes [] [] = ⊤
SameScopes [] (b ∷ bs) = ⊥
SameScopes (a ∷ ms) [] = ⊥
SameScopes (a ∷ ms) (b ∷ bs) = SameScope a b × SameScopes ms bs

abbrev pub region_of : Part → Region
region_of File = region.File
region_of (InFunction k) = region.Function
region_of InMain = region.Main

-- The function that is being read is the last that was declared.
abbrev pub IsLast : Part → ℕ → Type 0
IsLast File n = ⊤
IsLast (InFunction k) n = n ≡ k + 1
IsLast InMain n = ⊤

pub record Stands (e : Environment) (c : Context) : Type 0 where
  pub coarray : e.coarray ≡ c.coarray
  pub region : e.region ≡ region_of c.part
  pub names : SameScopes e.scopes (scopes c)
  pub count : length e.functions ≡ c.functions
  pub last : IsLast c.part c.functions

-- ---- what a name means

abbrev pub SameOption : Option Meaning → Option Declared → Type 0
SameOption None None = ⊤
SameOption None (Some d) = ⊥
SameOption (Some x) None = ⊥
SameOption (Some x) (Some d) = SameKind x d

same_or : (a : Option Meaning) (b : Option Declared) (x : Option Meaning) (y : Option Declared) → SameOption a b → SameOption x y → SameOption (option_or a x) (option_or b y)
same_or None None x y h k = k
same_or None (Some d) x y h k = absurd h
same_or (Some a) None x y h k = absurd h
same_or (Some a) (Some d) x y h k = h

same_in : (n : Name) (ms : List (Name × Meaning)) (bs : Scope) → SameScope ms bs → SameOption (in_scope n ms) (in_scope n bs)
same_in n [] [] h = tt
same_in n [] (b ∷ bs) h = absurd h
same_in n (a ∷ ms) [] h = absurd h
same_in n (a ∷ ms) (b ∷ bs) h = subst (λ k. SameOption (in_scope n (a ∷ ms)) (cond (is_same n k) (Some b.1) (in_scope n bs))) h.0 (by (is_same n a.0) (same_in n ms bs h.1.1))
  where
    by : (t : Bool) → SameOption (in_scope n ms) (in_scope n bs) → SameOption (cond t (Some a.1) (in_scope n ms)) (cond t (Some b.1) (in_scope n bs))
    by true k = h.1.0
    by false k = k

pub same_nearest : (n : Name) (ms : List (List (Name × Meaning))) (bs : List Scope) → SameScopes ms bs → SameOption (nearest n ms) (nearest n bs)
same_nearest n [] [] h = tt
same_nearest n [] (b ∷ bs) h = absurd h
same_nearest n (a ∷ ms) [] h = absurd h
same_nearest n (a ∷ ms) (b ∷ bs) h = same_or (in_scope n a) (in_scope n b) (nearest n ms) (nearest n bs) (same_in n a b h.0) (same_nearest n ms bs h.1)

pub same_there : (a : Option Meaning) (b : Option Declared) → SameOption a b → is_some a ≡ is_some b
same_there None None h = refl
same_there None (Some d) h = absurd h
same_there (Some a) None h = absurd h
same_there (Some a) (Some d) h = refl

pub same_length : (ms : List (List (Name × Meaning))) (bs : List Scope) → SameScopes ms bs → length ms ≡ length bs
same_length [] [] h = refl
same_length [] (b ∷ bs) h = absurd h
same_length (a ∷ ms) [] h = absurd h
same_length (a ∷ ms) (b ∷ bs) h = ap suc (same_length ms bs h.1)

pub same_depth : (n : Name) (ms : List (List (Name × Meaning))) (bs : List Scope) → SameScopes ms bs → depth_of n ms ≡ depth_of n bs
same_depth n [] [] h = refl
same_depth n [] (b ∷ bs) h = absurd h
same_depth n (a ∷ ms) [] h = absurd h
same_depth n (a ∷ ms) (b ∷ bs) h =
    ap (λ t. if t then Some (length (a ∷ ms)) else depth_of n ms) (same_there (in_scope n a) (in_scope n b) (same_in n a b h.0))
    ∙ (ap (λ l. if is_some (in_scope n b) then Some l else depth_of n ms) (same_length (a ∷ ms) (b ∷ bs) h)
    ∙ ap (λ d. if is_some (in_scope n b) then Some (length (b ∷ bs)) else d) (same_depth n ms bs h.1))

-- ---- what may be named

abbrev pub in_function : Part → Bool
in_function File = false
in_function (InFunction k) = true
in_function InMain = false

abbrev pub in_main : Part → Bool
in_main File = false
in_main (InFunction k) = false
in_main InMain = true

abbrev pub is_earlier : ℕ → Part → Bool
is_earlier j File = true
is_earlier j (InFunction k) = nat_lt j k
is_earlier j InMain = true

abbrev pub lies_inside : Context → Name → Option Declared → Bool
lies_inside c n None = true
lies_inside c n (Some (Function j parameters ty depth)) = is_earlier j c.part
lies_inside c n (Some (Scalar ty)) = is_some (nearest n c.inner)
lies_inside c n (Some (Array ty dimensions coarray)) = is_some (nearest n c.inner)
lies_inside c n (Some (Nodes written dimensions)) = is_some (nearest n c.inner)
lies_inside c n (Some (Template written dimensions)) = is_some (nearest n c.inner)

abbrev pub may : Context → Name → Option Declared → Bool
may c n d = not (in_function c.part) || lies_inside c n d

none_here : (x : Option Declared) (d : Declared) → option_or x None ≡ Some d → is_some x ≡ true
none_here None d h = absurd (none-some d h)
none_here (Some x) d h = refl

-- A name that means something lies in the file's scope, the first of all, or in an inner one.
pub first_or_inner : (n : Name) (inner : List Scope) (file : Scope) (d : Declared) → nearest n (inner ++ file ∷ []) ≡ Some d → not (is_first (depth_of n (inner ++ file ∷ []))) ≡ is_some (nearest n inner)
first_or_inner n [] file d h = ap (λ t. not (is_first (if t then Some 1 else None))) (none_here (in_scope n file) d h)
first_or_inner n (s ∷ ss) file d h = by (in_scope n s) h (λ k. first_or_inner n ss file d k)
  where
    long : not (length (s ∷ (ss ++ file ∷ [])) == 1) ≡ true
    long = ap (λ k. not (suc k == 1)) (length-append ss (file ∷ [])) ∙ more (length ss)
      where
        more : (k : ℕ) → not (suc (k + 1) == 1) ≡ true
        more k = let h : (suc (k + 1) == 1) ≡ false = grind arith in ap not h

    by : (x : Option Declared) → option_or x (nearest n (ss ++ file ∷ [])) ≡ Some d →
        (nearest n (ss ++ file ∷ []) ≡ Some d → not (is_first (depth_of n (ss ++ file ∷ []))) ≡ is_some (nearest n ss)) →
        not (is_first (if is_some x then Some (length (s ∷ (ss ++ file ∷ []))) else depth_of n (ss ++ file ∷ []))) ≡ is_some (option_or x (nearest n ss))
    by (Some x) h k = long
    by None h k = k h

pub or_true : (b : Bool) → (b || true) ≡ true
or_true true = refl
or_true false = refl

later_than : (k j n : ℕ) → n ≡ j + 1 → nat_lt (k + 1) n ≡ nat_lt k j
later_than k j n e = ap (nat_lt (k + 1)) e ∙ both k j
  where
    both : (k j : ℕ) → nat_lt (k + 1) (j + 1) ≡ nat_lt k j
    both k j = grind arith

module _ (e : Environment) (c : Context) (s : Stands e c) (n : named.Name) where
  -- What a name means here.
  pub same_meaning : SameOption (nearest n.text e.scopes) (meaning c n.text)
  same_meaning = same_nearest n.text e.scopes (scopes c) s.names

  depth_here : (d : Declared) → meaning c n.text ≡ Some d → not (is_first (depth_of n.text e.scopes)) ≡ is_some (nearest n.text c.inner)
  depth_here d h = ap (λ k. not (is_first k)) (same_depth n.text e.scopes (scopes c) s.names) ∙ first_or_inner n.text c.inner c.file d h

  -- In a function the checker's test of what is its own says the same.
  own_here : (k : ℕ) → c.part ≡ InFunction k → (x : Option Meaning) (d : Option Declared) → SameOption x d → meaning c n.text ≡ d → (x ≡ None → is_own e n x ≡ true) → is_own e n x ≡ lies_inside c n.text d
  own_here k p None None h q u = u refl
  own_here k p None (Some d) h q u = absurd h
  own_here k p (Some x) None h q u = absurd h
  own_here k p (Some (m.Scalar slot ty)) (Some (Scalar tz)) h q u = depth_here (Scalar tz) q
  own_here k p (Some (m.Array i)) (Some (Array ty dimensions coarray)) h q u = depth_here (Array ty dimensions coarray) q
  own_here k p (Some (m.Nodes i)) (Some (Nodes written dimensions)) h q u = depth_here (Nodes written dimensions) q
  own_here k p (Some (m.Template i)) (Some (Template written dimensions)) h q u = depth_here (Template written dimensions) q
  own_here k p (Some (m.Function i ty)) (Some (Function j parameters tz depth)) h q u =
      ap (λ l. nat_lt (i + 1) l) s.count ∙ (later_than i k c.functions (subst (λ r. IsLast r c.functions) p s.last)
      ∙ (ap (λ x. nat_lt x k) h ∙ sym (ap (is_earlier j) p)))
  own_here k p (Some (m.Scalar slot ty)) (Some (Array _ _ _)) h q u = absurd h
  own_here k p (Some (m.Scalar slot ty)) (Some (Nodes _ _)) h q u = absurd h
  own_here k p (Some (m.Scalar slot ty)) (Some (Template _ _)) h q u = absurd h
  own_here k p (Some (m.Scalar slot ty)) (Some (Function _ _ _ _)) h q u = absurd h
  own_here k p (Some (m.Array i)) (Some (Scalar _)) h q u = absurd h
  own_here k p (Some (m.Array i)) (Some (Nodes _ _)) h q u = absurd h
  own_here k p (Some (m.Array i)) (Some (Template _ _)) h q u = absurd h
  own_here k p (Some (m.Array i)) (Some (Function _ _ _ _)) h q u = absurd h
  own_here k p (Some (m.Nodes i)) (Some (Scalar _)) h q u = absurd h
  own_here k p (Some (m.Nodes i)) (Some (Array _ _ _)) h q u = absurd h
  own_here k p (Some (m.Nodes i)) (Some (Template _ _)) h q u = absurd h
  own_here k p (Some (m.Nodes i)) (Some (Function _ _ _ _)) h q u = absurd h
  own_here k p (Some (m.Template i)) (Some (Scalar _)) h q u = absurd h
  own_here k p (Some (m.Template i)) (Some (Array _ _ _)) h q u = absurd h
  own_here k p (Some (m.Template i)) (Some (Nodes _ _)) h q u = absurd h
  own_here k p (Some (m.Template i)) (Some (Function _ _ _ _)) h q u = absurd h
  own_here k p (Some (m.Function i ty)) (Some (Scalar _)) h q u = absurd h
  own_here k p (Some (m.Function i ty)) (Some (Array _ _ _)) h q u = absurd h
  own_here k p (Some (m.Function i ty)) (Some (Nodes _ _)) h q u = absurd h
  own_here k p (Some (m.Function i ty)) (Some (Template _ _)) h q u = absurd h

  -- A name without a declaration lies nowhere.
  unseen_depth : (ss : List Scope) → nearest n.text ss ≡ None → depth_of n.text ss ≡ None
  unseen_depth [] h = refl
  unseen_depth (x ∷ ss) h = by (in_scope n.text x) h (λ k. unseen_depth ss k)
    where
      by : (y : Option Declared) → option_or y (nearest n.text ss) ≡ None → (nearest n.text ss ≡ None → depth_of n.text ss ≡ None) → (if is_some y then Some (length (x ∷ ss)) else depth_of n.text ss) ≡ None
      by None h k = k h
      by (Some y) h k = absurd (none-some y (sym h))

  none_of : (x : Option Meaning) (d : Option Declared) → SameOption x d → x ≡ None → d ≡ None
  none_of None None h q = refl
  none_of None (Some d) h q = absurd h
  none_of (Some x) d h q = absurd (none-some x (sym q))

  unknown_own : nearest n.text e.scopes ≡ None → is_own e n None ≡ true
  unknown_own h =
      ap (λ k. not (is_first k)) (same_depth n.text e.scopes (scopes c) s.names
      ∙ unseen_depth (scopes c) (none_of (nearest n.text e.scopes) (meaning c n.text) same_meaning h))

  by_part : (p : Part) → c.part ≡ p → may_name e n (nearest n.text e.scopes) ≡ may c n.text (meaning c n.text)
  by_part File p = ap (λ r. not (is_function r) || is_own e n (nearest n.text e.scopes)) (s.region ∙ ap region_of p) ∙ sym (ap (λ r. not (in_function r) || lies_inside c n.text (meaning c n.text)) p)
  by_part InMain p = ap (λ r. not (is_function r) || is_own e n (nearest n.text e.scopes)) (s.region ∙ ap region_of p) ∙ sym (ap (λ r. not (in_function r) || lies_inside c n.text (meaning c n.text)) p)
  by_part (InFunction k) p =
      ap (λ r. not (is_function r) || is_own e n (nearest n.text e.scopes)) (s.region ∙ ap region_of p)
      ∙ (own_here k p (nearest n.text e.scopes) (meaning c n.text) same_meaning refl (λ h. ap (is_own e n) h ∙ unknown_own h)
      ∙ sym (ap (λ r. not (in_function r) || lies_inside c n.text (meaning c n.text)) p))

  pub may_is : may_name e n (nearest n.text e.scopes) ≡ may c n.text (meaning c n.text)
  may_is = by_part c.part refl

pub part_is : (e : Environment) (c : Context) → Stands e c → is_function e.region ≡ in_function c.part
part_is e c s = ap is_function s.region ∙ by c.part
  where
    by : (p : Part) → is_function (region_of p) ≡ in_function p
    by File = refl
    by (InFunction k) = refl
    by InMain = refl

pub main_is : (e : Environment) (c : Context) → Stands e c → is_main e.region ≡ in_main c.part
main_is e c s = ap is_main s.region ∙ by c.part
  where
    by : (p : Part) → is_main (region_of p) ≡ in_main p
    by File = refl
    by (InFunction k) = refl
    by InMain = refl

-- Whether this is file scope, or main's own list of statements.
abbrev pub is_out : Context → Bool
is_out c = nat_lt (length (scopes c)) 2 || (in_main c.part && (length (scopes c) == 2))

pub out_is : (w : World) (c : Context) → Stands w.names c → is_outermost w ≡ is_out c
out_is w c s =
    ap (λ k. nat_lt k 2 || (is_main w.names.region && (k == 2))) (same_length w.names.scopes (scopes c) s.names)
    ∙ ap (λ t. nat_lt (length (scopes c)) 2 || (t && (length (scopes c) == 2))) (main_is w.names c s)

pub declared_here : (n : Name) (ms : List (List (Name × Meaning))) (bs : List Scope) → SameScopes ms bs → scope.is_declared_here n ms ≡ scope.is_declared_here n bs
declared_here n [] [] h = refl
declared_here n [] (b ∷ bs) h = absurd h
declared_here n (a ∷ ms) [] h = absurd h
declared_here n (a ∷ ms) (b ∷ bs) h = same_there (in_scope n a) (in_scope n b) (same_in n a b h.0)

-- ---- the rules that break at a spot, as a list

-- Whether a call needs no declaration, and whether a use may be one of this name.
abbrev pub is_given : Context → Name → Use → Bool
is_given c n (Called count) = c.coarray && (is_same n (codes "xmp_node_num") || is_same n (codes "xmp_num_nodes"))
is_given c n _ = false

abbrev pub allowed : Name → Use → Bool → Bool
allowed n (Called count) b = b && not (is_same n (codes "main"))
allowed n _ b = b

abbrev pub used : Context → named.Name → Use → Option Declared → List Broken
used c n u None = unless (is_given c n.text u) N1 n.at
used c n u (Some d) = unless (allowed n.text u (may c n.text (Some d))) N5 n.at

-- Whether extents are right, and not too many.
abbrev pub extents_right : List Expr → Bool
extents_right xs = list_all (λ x. extent_right (value_in x)) xs && nat_le (length xs) 3

abbrev pub breaks : Context → What → List Broken
breaks c (Used n u) = used c n u (meaning c n.text)
breaks c (Sync word) = unless c.coarray N1 word
breaks c (Declares n) = unless (not (scope.is_declared_here n.text (scopes c) || is_reserved n.text)) N2 n.at
breaks c (Dummy before n) = unless (not (list_any (is_same n.text) before)) N2 n.at
breaks c (Directive word) = unless (not (in_function c.part)) N5 word
breaks c (Word word) = unless (not (in_function c.part)) N5 word
breaks c (Extents n extents) = unless (extents_right extents) N8 n.at ++ (unless (is_out c) N8 n.at ++ unless (not (in_function c.part)) N5 n.at)
breaks c (Maps word) = unless (is_out c) N8 word
breaks c (Constant x) = unless (is_known (value_in x)) N4 (first_place x)
breaks c (Returned x) = unless (not (in_main c.part) || is_known (value_in x)) N4 (first_place x)
breaks c (Returns word) = unless (not (in_main c.part)) N7 word
breaks c (Head f) = unless (is_main_head f) N7 f.name.at
breaks c _ = []

abbrev pub found : Context → List What → List Broken
found c xs = flat_map (breaks c) xs

abbrev pub all_found : List Spot → List Broken
all_found xs = flat_map (λ x. breaks x.in x.what) xs

pub found_in : (c : Context) (xs : List What) → all_found (all_in c xs) ≡ found c xs
found_in c [] = refl
found_in c (x ∷ xs) = ap (λ l. breaks c x ++ l) (found_in c xs)

-- A name in a directive or an expression: the checker's two tests.
pub used_is : (c : Context) (n : named.Name) (u : Use) (d : Option Declared) → ((b : Bool) → allowed n.text u b ≡ b) → is_given c n.text u ≡ false →
    unless (may c n.text d) N5 n.at ++ unless (is_some d) N1 n.at ≡ used c n u d
used_is c n u None a g = ap (λ t. unless t N5 n.at ++ unless false N1 n.at) (or_true (not (in_function c.part))) ∙ sym (ap (λ t. unless t N1 n.at) g)
used_is c n u (Some d) a g = end (may c n.text (Some d)) ∙ sym (ap (λ t. unless t N5 n.at) (a (may c n.text (Some d))))
  where
    end : (t : Bool) → unless t N5 n.at ++ [] ≡ unless t N5 n.at
    end true = refl
    end false = refl
