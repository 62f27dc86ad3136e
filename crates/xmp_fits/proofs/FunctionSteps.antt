-- A function is read: its name is declared, its body is read in a scope of its own, and it is kept. The world stays good.
use Rattle.std.proofs.Common.{◌≡◌, ◌∙◌, refl, sym, ap, subst, inl, inr, ⊎_elim, ◌++◌, ◌∷◌, [], ℕ, zero, suc, ◌+◌, ◌<◌, List, true, false, Some, length, length-append, map, arith}
use Rattle.std.specs.Prelude.{slice_get, slice_set, drop, not, ◌||◌, codes}
use Rattle.std.specs.List.{AllByRecursion}
use Rattle.std.proofs.lemmas.Option.{none-some, slice_get_within}
use Rattle.std.proofs.lemmas.List.{map-append}
use Rattle.xmp_num.specs.declared.types.Ty.{Ty}
use Rattle.xmp_scopes.specs.Names as scope
use Rattle.xmp_prog.specs.declared.parts.Function as made_function
use Rattle.xmp_syntax.specs.declared.program.Function.{Function}
use Rattle.xmp_names.specs.declared.names.Region.{Region}
use Rattle.xmp_names.specs.declared.names.Region.TheVariants as region
use Rattle.xmp_names.specs.declared.names.Meaning.{Meaning}
use Rattle.xmp_names.specs.declared.names.Meaning.TheVariants as meaning
use Rattle.xmp_names.specs.declared.names.Signature.{Signature}
use Rattle.xmp_names.specs.declared.rules.Rule.TheVariants.{N2}
use Rattle.xmp_names.specs.declared.world.World.{World}
use Rattle.xmp_names.specs.Rules.{unless, deeper}
use Rattle.xmp_names.specs.Walk.{is_reserved, is_main}
use Rattle.xmp_walk.specs.Declarations.{type_of}
use Rattle.xmp_walk.specs.Program.{parameters_in, with_depth}
use Rattle.xmp_fits.proofs.Laters.{Begins, begins_refl, begins_with, mappings_refl, Later, Scopes, Widened}
use Rattle.xmp_fits.proofs.GoodWorlds.{Own, in_file, Finished, Reading, IsTrueIn, TrueScope, NoneInside, Good, being_read}
use Rattle.xmp_fits.proofs.GoodSteps.{get_more, get_last, all_map, declared_scopes, no_names}

-- ---- lists

set_other : {A : Type 0} (xs : List A) (k j : ℕ) (x : A) → (j ≡ k → ⊥) → slice_get (slice_set xs k x) j ≡ slice_get xs j
set_other [] k j x n = refl
set_other (y ∷ xs) zero zero x n = absurd (n refl)
set_other (y ∷ xs) zero (suc j) x n = refl
set_other (y ∷ xs) (suc k) zero x n = refl
set_other (y ∷ xs) (suc k) (suc j) x n = set_other xs k j x (λ e. n (ap suc e))

set_here : {A : Type 0} (xs : List A) (k : ℕ) (x y : A) → slice_get xs k ≡ Some y → slice_get (slice_set xs k x) k ≡ Some x
set_here [] k x y e = absurd (none-some y e)
set_here (z ∷ xs) zero x y e = refl
set_here (z ∷ xs) (suc k) x y e = set_here xs k x y e

set_length : {A : Type 0} (xs : List A) (k : ℕ) (x : A) → length (slice_set xs k x) ≡ length xs
set_length [] k x = refl
set_length (y ∷ xs) zero x = refl
set_length (y ∷ xs) (suc k) x = ap suc (set_length xs k x)

abbrev pub counts : List Signature → List ℕ
counts fs = map (λ f. f.parameters) fs

counts_set : (fs : List Signature) (k d : ℕ) → counts (slice_set fs k (with_depth d (slice_get fs k))) ≡ counts fs
counts_set [] k d = refl
counts_set (f ∷ fs) zero d = refl
counts_set (f ∷ fs) (suc k) d = ap (λ l. f.parameters ∷ l) (counts_set fs k d)

-- ---- at the name of a function

-- One scope is open.
pub record OneScope (ss : Scopes) : Type 0 where
  pub names : List (scope.Name × Meaning)
  pub is : ss ≡ names ∷ []

pub one_widened : (ss ts : Scopes) → OneScope ss → Widened ss ts → OneScope ts
one_widened ss ts o w = by ts (subst (λ l. Widened l ts) o.is w)
  where
    by : (us : Scopes) → Widened (o.names ∷ []) us → OneScope us
    by [] h = absurd h
    by (u ∷ us) h = record { names = u; is = ap (λ l. u ∷ l) h.1 }

none_in_one : (n : scope.Name) (m : Meaning) (ss : Scopes) → OneScope ss → NoneInside ([] ∷ scope.declare n m ss)
none_in_one n m ss o = subst (λ l. NoneInside ([] ∷ scope.declare n m l)) (sym o.is) (record { none = λ i k e. none-some (meaning.Array k) e }, tt)

-- At file scope a world is good whatever function is named.
pub record FileGood (w : World) : Type 0 where
  pub good : (own : Own) → Good own w
  pub file : w.names.region ≡ region.File
  pub one : OneScope w.names.scopes

abbrev pub own_of : Function → Own
own_of f = record { name = f.name.text; result = type_of f.ty }

abbrev pub headed : Region → Function → World → World
headed r f w = record w {
  names = record w.names {
    functions = w.names.functions ++ record { parameters = length (parameters_in f.parameters.item); depth = 0 } ∷ [];
    scopes = [] ∷ scope.declare f.name.text (meaning.Function (length w.names.functions) (type_of f.ty)) w.names.scopes;
    region = r;
  };
  deepest = 0;
  broken = w.broken ++ unless (not (scope.is_declared_here f.name.text w.names.scopes || is_reserved f.name.text)) N2 f.name.at;
}

pub later_headed : (r : Region) (f : Function) (w : World) → Later w (headed r f w)
later_headed r f w = record {
  given = refl;
  names = record {
    arrays = begins_refl w.names.arrays;
    parameters = record { more = length (parameters_in f.parameters.item) ∷ []; is = map-append (λ g. g.parameters) w.names.functions (record { parameters = length (parameters_in f.parameters.item); depth = 0 } ∷ []) };
    coarray = refl;
  };
  scalars = begins_refl w.scalars;
  mappings = mappings_refl w.mappings;
  functions = begins_refl w.functions;
  start = begins_refl w.start;
  broken = begins_with w.broken _;
}

module _ (r : Region) (f : Function) (w : World) (inside : in_file r ≡ false) (g : FileGood w) where
  true_headed : (n : scope.Name) (m : Meaning) → IsTrueIn (own_of f) w n m → IsTrueIn (own_of f) (headed r f w) n m
  true_headed n (meaning.Scalar slot ty) h = h
  true_headed n (meaning.Array k) h = h
  true_headed n (meaning.Nodes k) h = h
  true_headed n (meaning.Template k) h = h
  true_headed n (meaning.Function k ty) h = ⊎_elim
      (λ x. inl (record { function = x.function; is = x.is; gives = x.gives; signature = x.signature; known = get_more w.names.functions _ k x.signature x.known; parameters = x.parameters }))
      (λ x. let e : in_file region.File ≡ false = ap in_file (sym g.file) ∙ x.inside in absurd (cc)) h

  scopes_headed : (ss : Scopes) → AllByRecursion (TrueScope (own_of f) w) ss → AllByRecursion (TrueScope (own_of f) (headed r f w)) ss
  scopes_headed ss h = all_map (TrueScope (own_of f) w) (TrueScope (own_of f) (headed r f w)) (λ s t. record { tells = λ n m e. true_headed n m (t.tells n m e) }) ss h

  pub good_headed : being_read r ≡ 1 → (is_main r ≡ true → scope.is_same f.name.text (codes "main") ≡ true) → Good (own_of f) (headed r f w)
  good_headed one main =
      let e : length (headed r f w).names.functions ≡ length w.names.functions + 1 = length-append w.names.functions _ in
      let n : length w.names.functions ≡ length w.functions + being_read w.names.region = (g.good (own_of f)).numbers in
      let z : being_read w.names.region ≡ 0 = ap being_read g.file in record {
        scopes = (
          no_names (own_of f) (headed r f w),
          declared_scopes (own_of f) (headed r f w) f.name.text (meaning.Function (length w.names.functions) (type_of f.ty)) w.names.scopes
              (λ k same. inr (record { inside = inside; number = sym e; gives = refl; named = same })) (scopes_headed w.names.scopes (g.good (own_of f)).scopes),
        );
        numbers = omega (arith, e, n, z, one);
        main = main;
        inside = λ b h. none_in_one f.name.text (meaning.Function (length w.names.functions) (type_of f.ty)) w.names.scopes g.one;
      }

-- ---- at the end of a function

abbrev pub left : ℕ → World → World
left k w = record w {
  names = record w.names {
    scopes = drop 1 w.names.scopes;
    region = region.File;
    functions = slice_set w.names.functions k (with_depth (deeper w.deepest) (slice_get w.names.functions k));
  };
}

pub later_left : (k : ℕ) (w : World) → Later w (left k w)
later_left k w = record {
  given = refl;
  names = record {
    arrays = begins_refl w.names.arrays;
    parameters = subst (λ l. Begins (counts w.names.functions) l) (sym (counts_set w.names.functions k (deeper w.deepest))) (begins_refl (counts w.names.functions));
    coarray = refl;
  };
  scalars = begins_refl w.scalars;
  mappings = mappings_refl w.mappings;
  functions = begins_refl w.functions;
  start = begins_refl w.start;
  broken = begins_refl w.broken;
}

abbrev pub kept_function : ℕ → made_function.Function → World → World
kept_function k g w = record (left k w) { functions = w.functions ++ g ∷ [] }

pub later_function : (k : ℕ) (g : made_function.Function) (w : World) → Later w (kept_function k g w)
later_function k g w = record {
  given = refl;
  names = record {
    arrays = begins_refl w.names.arrays;
    parameters = subst (λ l. Begins (counts w.names.functions) l) (sym (counts_set w.names.functions k (deeper w.deepest))) (begins_refl (counts w.names.functions));
    coarray = refl;
  };
  scalars = begins_refl w.scalars;
  mappings = mappings_refl w.mappings;
  functions = begins_with w.functions (g ∷ []);
  start = begins_refl w.start;
  broken = begins_refl w.broken;
}

dropped : {A : Type 0} (P : A → Type 0) (xs : List A) → AllByRecursion P xs → AllByRecursion P (drop 1 xs)
dropped P [] h = tt
dropped P (x ∷ xs) h = h.1

module _ (own : Own) (w : World) (g : made_function.Function) (s : Signature) (h : Good own w) (reading : being_read w.names.region ≡ 1)
    (result : g.result ≡ own.result) (known : slice_get w.names.functions (length w.functions) ≡ Some s) (parameters : s.parameters ≡ length g.parameters) where
  abbrev number : ℕ
  number = length w.functions

  abbrev after : World
  after = kept_function number g w

  finished_before : (k : ℕ) (ty : Ty) → Finished w k ty → Finished after k ty
  finished_before k ty x =
      let below : k < length w.functions = slice_get_within w.functions k x.function x.is in
      let other : (k ≡ length w.functions) → ⊥ = λ e. absurd (omega (arith, below, e)) in record {
        function = x.function;
        is = get_more w.functions (g ∷ []) k x.function x.is;
        gives = x.gives;
        signature = x.signature;
        known = set_other w.names.functions number k (with_depth (deeper w.deepest) (slice_get w.names.functions number)) other ∙ x.known;
        parameters = x.parameters;
      }

  finished_now : (n : scope.Name) (k : ℕ) (ty : Ty) → Reading own w n k ty → Finished after k ty
  finished_now n k ty x =
      let at : k + 1 ≡ length w.names.functions = x.number in
      let all : length w.names.functions ≡ length w.functions + being_read w.names.region = h.numbers in
      let here : number ≡ k = omega (arith, at, all, reading) in
      subst (λ i. Finished after i ty) here (record {
        function = g;
        is = get_last w.functions g;
        gives = result ∙ sym x.gives;
        signature = with_depth (deeper w.deepest) (slice_get w.names.functions number);
        known = set_here w.names.functions number (with_depth (deeper w.deepest) (slice_get w.names.functions number)) s known;
        parameters = ap (λ o. (with_depth (deeper w.deepest) o).parameters) known ∙ parameters;
      })

  true_after : (other : Own) (n : scope.Name) (m : Meaning) → IsTrueIn own w n m → IsTrueIn other after n m
  true_after other n (meaning.Scalar slot ty) t = t
  true_after other n (meaning.Array k) t = t
  true_after other n (meaning.Nodes k) t = t
  true_after other n (meaning.Template k) t = t
  true_after other n (meaning.Function k ty) t = inl (⊎_elim (finished_before k ty) (finished_now n k ty) t)

  pub file_good_after : OneScope (drop 1 w.names.scopes) → FileGood after
  file_good_after one =
      let a : length (slice_set w.names.functions number (with_depth (deeper w.deepest) (slice_get w.names.functions number))) ≡ length w.names.functions = set_length w.names.functions number _ in
      let b : length (w.functions ++ g ∷ []) ≡ length w.functions + 1 = length-append w.functions (g ∷ []) in
      let all : length w.names.functions ≡ length w.functions + being_read w.names.region = h.numbers in record {
        good = λ other. record {
          scopes = all_map (TrueScope own w) (TrueScope other after) (λ s t. record { tells = λ n m e. true_after other n m (t.tells n m e) }) (drop 1 w.names.scopes) (dropped (TrueScope own w) w.names.scopes h.scopes);
          numbers = omega (arith, a, b, all, reading);
          main = λ e. absurd (cc);
          inside = λ b e. absurd (cc e);
        };
        file = refl;
        one = one;
      }
