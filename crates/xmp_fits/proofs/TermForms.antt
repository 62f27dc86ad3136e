-- An expression of each form fits where its parts do.
use Rattle.std.proofs.Common.{◌≡◌, ◌∙◌, sym, ap, refl, subst, ◌++◌, ◌∷◌, [], ◌-◌, ◌||◌, ℕ, ℤ, true, false, List, Option, Some, None, length, map}
use Rattle.std.specs.Prelude.{slice_get, nat_lt, is_none}
use Rattle.std.specs.List.{flat_map, AllByRecursion}
use Rattle.std.specs.Option.{unwrap_or}
use Rattle.std.proofs.Common.{eq-eqb}
use Rattle.std.proofs.lemmas.List.{length-map}
use Rattle.std.proofs.lemmas.Bool.{lt-ltb}
use Rattle.std.proofs.lemmas.Option.{slice_get_within}
use Rattle.xmp_base.specs.declared.place.Place.{Place}
use Rattle.xmp_num.specs.declared.types.Ty.{Ty}
use Rattle.xmp_num.specs.declared.types.Ty.TheVariants.{Int, Long}
use Rattle.xmp_num.specs.declared.types.BinOp.{BinOp}
use Rattle.xmp_prog.specs.declared.expressions.Expr.{Expr}
use Rattle.xmp_prog.specs.declared.expressions.Expr.TheVariants as e
use Rattle.xmp_prog.specs.declared.expressions.Expr.TheOpen.{Expr-F, Access-F}
use Rattle.xmp_prog.specs.declared.expressions.Expr.TheFolds.{fold-Access, fold-roll-Access}
use Rattle.xmp_prog.specs.declared.expressions.Access.{Access, roll-Access, map-Access}
use Rattle.xmp_prog.specs.declared.parts.Array as made_array
use Rattle.xmp_prog.specs.declared.parts.Function as made_function
use Rattle.xmp_prog.specs.declared.parts.ProgParts.{ProgParts}
use Rattle.xmp_prog.specs.Numbers.{same_type, lies_in}
use Rattle.xmp_prog.specs.Terms.{Of, Element, Typed, typed, type_of, terms_of, typed_step, access_step, result_of, array_type, call_type}
use Rattle.xmp_prog.specs.Tests.{is_image, arguments_match, subscripts_fit, is_coarray, right_fits}
use Rattle.xmp_prog.specs.Fits.{has_coarrays}
use Rattle.xmp_prog.proofs.Rolls as rolls
use Rattle.xmp_names.specs.declared.names.Environment.{Environment}
use Rattle.xmp_names.specs.Expressions.{is_function}
use Rattle.xmp_parts.proofs.Unbroken.{both_true}
use Rattle.xmp_fits.proofs.TermsFit.{NoneInside, Seen, TermFits, TypedFits, ExprFits, EachFits, each_terms, all_append, or_true}

pub same_itself : (ty : Ty) → same_type ty ty ≡ true
same_itself Int = refl
same_itself Long = refl

-- ---- lists of expressions, by their types and terms

types_again : (p : ProgParts) (xs : List Expr) → map (λ t. t.ty) (map (typed p) xs) ≡ map (type_of p) xs
types_again p [] = refl
types_again p (x ∷ xs) = ap (λ ts. type_of p x ∷ ts) (types_again p xs)

terms_again : (p : ProgParts) (xs : List Expr) → flat_map (λ t. t.terms) (map (typed p) xs) ≡ flat_map (terms_of p) xs
terms_again p [] = refl
terms_again p (x ∷ xs) = ap (λ ts. terms_of p x ++ ts) (terms_again p xs)

-- The type and the terms of a call.
pub call_type_is : (p : ProgParts) (k : ℕ) (xs : List Expr) (at : Place) → type_of p (e.Call k xs at) ≡ call_type (slice_get p.functions k)
call_type_is p k xs at = ap (λ t. t.ty) (rolls.at_call Typed Typed (typed_step p) (access_step p) k xs at)

pub call_terms : (p : ProgParts) (k : ℕ) (xs : List Expr) (at : Place) → terms_of p (e.Call k xs at) ≡ Of (Expr-F.Call k (map (type_of p) xs) at) ∷ flat_map (terms_of p) xs
call_terms p k xs at =
    ap (λ t. t.terms) (rolls.at_call Typed Typed (typed_step p) (access_step p) k xs at)
    ∙ (ap (λ ts. Of (Expr-F.Call k ts at) ∷ flat_map (λ t. t.terms) (map (typed p) xs)) (types_again p xs) ∙ ap (λ ts. Of (Expr-F.Call k (map (type_of p) xs) at) ∷ ts) (terms_again p xs))

-- The type and the terms of an element.
abbrev pub accessed : ProgParts → Access → Typed
accessed p = fold-Access Typed Typed (typed_step p) (access_step p)

module _ (env : Environment) (p : ProgParts) where
  abbrev of_typed : Ty → Expr → Typed → Type 0
  of_typed ty x t = (typed p x ≡ t) × TypedFits env p ty t

  seen_as : (ty : Ty) (x : Expr) (t : Typed) → typed p x ≡ t → TypedFits env p ty t → ExprFits env p ty x
  seen_as ty x t h f = subst (TypedFits env p ty) (sym h) f

  pub fits_const : (ty : Ty) (v : ℤ) → lies_in ty v ≡ true → ExprFits env p ty (e.Const v ty)
  fits_const ty v h = seen_as ty (e.Const v ty) _ (rolls.at_const Typed Typed (typed_step p) (access_step p) v ty) (record {
    is = refl;
    terms = (
      record {
        constant = h;
        operands = refl;
        choice = refl;
        element = refl;
        calls = refl;
        arguments = refl;
        image = refl;
        nodes = or_true (has_coarrays p.kind);
        slots = tt;
        own_calls = λ f. refl;
        own_elements = λ q f. refl;
      },
      tt,
    );
  })

  pub fits_scalar : (ty : Ty) (slot : ℕ) (at : Place) → slice_get p.scalars slot ≡ Some ty → Seen env slot → ExprFits env p ty (e.Scalar slot at)
  fits_scalar ty slot at h s = seen_as ty (e.Scalar slot at) _ (rolls.at_scalar Typed Typed (typed_step p) (access_step p) slot at) (record {
    is = ap (λ o. unwrap_or o Int) h;
    terms = (
      record {
        constant = refl;
        operands = refl;
        choice = refl;
        element = refl;
        calls = refl;
        arguments = refl;
        image = refl;
        nodes = or_true (has_coarrays p.kind);
        slots = (s, tt);
        own_calls = λ f. refl;
        own_elements = λ q f. refl;
      },
      tt,
    );
  })

  pub fits_binary : (s t ty : Ty) (o : BinOp) (a b : Expr) (at : Place) → same_type ty s ≡ true → right_fits o ty t ≡ true → ExprFits env p s a → ExprFits env p t b →
      ExprFits env p (result_of o ty) (e.Binary o ty a b at)
  fits_binary s t ty o a b at h k f g = seen_as (result_of o ty) (e.Binary o ty a b at) _ (rolls.at_binary Typed Typed (typed_step p) (access_step p) o ty a b at) (record {
    is = refl;
    terms = (
      record {
        constant = refl;
        operands = both_true (same_type ty (type_of p a)) (right_fits o ty (type_of p b)) (ap (same_type ty) f.is ∙ h) (ap (right_fits o ty) g.is ∙ k);
        choice = refl;
        element = refl;
        calls = refl;
        arguments = refl;
        image = refl;
        nodes = or_true (has_coarrays p.kind);
        slots = tt;
        own_calls = λ f. refl;
        own_elements = λ q f. refl;
      },
      all_append (TermFits env p) (terms_of p a) (terms_of p b) f.terms g.terms,
    );
  })

  pub fits_both : (s t : Ty) (a b : Expr) → ExprFits env p s a → ExprFits env p t b → ExprFits env p Int (e.Both a b)
  fits_both s t a b f g = seen_as Int (e.Both a b) _ (rolls.at_both Typed Typed (typed_step p) (access_step p) a b) (record {
    is = refl;
    terms = (
      record {
        constant = refl;
        operands = refl;
        choice = refl;
        element = refl;
        calls = refl;
        arguments = refl;
        image = refl;
        nodes = or_true (has_coarrays p.kind);
        slots = tt;
        own_calls = λ f. refl;
        own_elements = λ q f. refl;
      },
      all_append (TermFits env p) (terms_of p a) (terms_of p b) f.terms g.terms,
    );
  })

  pub fits_either : (s t : Ty) (a b : Expr) → ExprFits env p s a → ExprFits env p t b → ExprFits env p Int (e.Either a b)
  fits_either s t a b f g = seen_as Int (e.Either a b) _ (rolls.at_either Typed Typed (typed_step p) (access_step p) a b) (record {
    is = refl;
    terms = (
      record {
        constant = refl;
        operands = refl;
        choice = refl;
        element = refl;
        calls = refl;
        arguments = refl;
        image = refl;
        nodes = or_true (has_coarrays p.kind);
        slots = tt;
        own_calls = λ f. refl;
        own_elements = λ q f. refl;
      },
      all_append (TermFits env p) (terms_of p a) (terms_of p b) f.terms g.terms,
    );
  })

  pub fits_choose : (s ty : Ty) (a b c : Expr) → ExprFits env p s a → ExprFits env p ty b → ExprFits env p ty c → ExprFits env p ty (e.Choose a b c)
  fits_choose s ty a b c f g h = seen_as ty (e.Choose a b c) _ (rolls.at_choose Typed Typed (typed_step p) (access_step p) a b c) (record {
    is = g.is;
    terms = (
      record {
        constant = refl;
        operands = refl;
        choice = ap (λ t. same_type t (type_of p c)) g.is ∙ (ap (same_type ty) h.is ∙ same_itself ty);
        element = refl;
        calls = refl;
        arguments = refl;
        image = refl;
        nodes = or_true (has_coarrays p.kind);
        slots = tt;
        own_calls = λ f. refl;
        own_elements = λ q f. refl;
      },
      all_append (TermFits env p) (terms_of p a) _ f.terms (all_append (TermFits env p) (terms_of p b) (terms_of p c) g.terms h.terms),
    );
  })

  pub fits_convert : (s ty : Ty) (a : Expr) → ExprFits env p s a → ExprFits env p ty (e.Convert ty a)
  fits_convert s ty a f = seen_as ty (e.Convert ty a) _ (rolls.at_convert Typed Typed (typed_step p) (access_step p) ty a) (record {
    is = refl;
    terms = (
      record {
        constant = refl;
        operands = refl;
        choice = refl;
        element = refl;
        calls = refl;
        arguments = refl;
        image = refl;
        nodes = or_true (has_coarrays p.kind);
        slots = tt;
        own_calls = λ f. refl;
        own_elements = λ q f. refl;
      },
      f.terms,
    );
  })

  pub fits_node : has_coarrays p.kind ≡ true → ExprFits env p Int e.Node
  fits_node c = seen_as Int e.Node _ (rolls.at_node Typed Typed (typed_step p) (access_step p)) (record {
    is = refl;
    terms = (
      record {
        constant = refl;
        operands = refl;
        choice = refl;
        element = refl;
        calls = refl;
        arguments = refl;
        image = refl;
        nodes = ap (λ b. b || false) c;
        slots = tt;
        own_calls = λ f. refl;
        own_elements = λ q f. refl;
      },
      tt,
    );
  })

  pub fits_nodes : has_coarrays p.kind ≡ true → ExprFits env p Int e.Nodes
  fits_nodes c = seen_as Int e.Nodes _ (rolls.at_nodes Typed Typed (typed_step p) (access_step p)) (record {
    is = refl;
    terms = (
      record {
        constant = refl;
        operands = refl;
        choice = refl;
        element = refl;
        calls = refl;
        arguments = refl;
        image = refl;
        nodes = ap (λ b. b || false) c;
        slots = tt;
        own_calls = λ f. refl;
        own_elements = λ q f. refl;
      },
      tt,
    );
  })

  pub fits_call : (k : ℕ) (f : made_function.Function) (ts : List (Option Ty)) (xs : List Expr) (at : Place) → slice_get p.functions k ≡ Some f → length xs ≡ length f.parameters → EachFits env p ts xs →
      (is_function env.region ≡ true → nat_lt k (length env.functions - 1) ≡ true) → ExprFits env p f.result (e.Call k xs at)
  fits_call k f ts xs at h n g own = record {
    is = call_type_is p k xs at ∙ ap call_type h;
    terms = subst (AllByRecursion (TermFits env p)) (sym (call_terms p k xs at)) (
      record {
        constant = refl;
        operands = refl;
        choice = refl;
        element = refl;
        calls = lt-ltb k (length p.functions) (slice_get_within p.functions k f h);
        arguments = ap (λ o. arguments_match o (map (type_of p) xs)) h ∙ eq-eqb (length (map (type_of p) xs)) (length f.parameters) (length-map xs (type_of p) ∙ n);
        image = refl;
        nodes = or_true (has_coarrays p.kind);
        slots = tt;
        own_calls = own;
        own_elements = λ q f. refl;
      },
      each_terms env p ts xs g,
    );
  }

  access_is : (a : Access-F Expr Access) → accessed p (roll-Access a) ≡ access_step p (map-Access Expr Access Typed Typed (typed p) (accessed p) a)
  access_is a = fold-roll-Access Typed Typed (typed_step p) (access_step p) a

  -- The term of an element of an array that is there.
  element_fits_here : (a : made_array.Array) (x : Access-F Ty Ty) → slice_get p.arrays x.array ≡ Some a → length x.subscripts ≡ length a.extents → (is_none x.image || is_image a.home) ≡ true →
      (NoneInside env → is_function env.region ≡ true → ⊥) → TermFits env p (Element x)
  element_fits_here a x h n i own = record {
    constant = refl;
    operands = refl;
    choice = refl;
    element = ap (λ o. subscripts_fit o x.subscripts) h ∙ eq-eqb (length x.subscripts) (length a.extents) n;
    calls = refl;
    arguments = refl;
    image = ap (λ o. is_none x.image || is_coarray o) h ∙ i;
    nodes = or_true (has_coarrays p.kind);
    slots = tt;
    own_calls = λ f. refl;
    own_elements = λ q f. absurd (own q f);
  }

  pub fits_cell : (ty : Ty) (x : Access) → TypedFits env p ty (accessed p x) → ExprFits env p ty (e.Cell x)
  fits_cell ty x f = seen_as ty (e.Cell x) _ (rolls.at_cell Typed Typed (typed_step p) (access_step p) x) (record {
    is = f.is;
    terms = (
      record {
        constant = refl;
        operands = refl;
        choice = refl;
        element = refl;
        calls = refl;
        arguments = refl;
        image = refl;
        nodes = or_true (has_coarrays p.kind);
        slots = tt;
        own_calls = λ f. refl;
        own_elements = λ q f. refl;
      },
      f.terms,
    );
  })

  many : (xs : List Expr) → length (map (λ t. t.ty) (map (typed p) xs)) ≡ length xs
  many xs = length-map (map (typed p) xs) (λ t. t.ty) ∙ length-map xs (typed p)

  each_inside : (ts : List (Option Ty)) (xs : List Expr) → EachFits env p ts xs → AllByRecursion (TermFits env p) (flat_map (λ t. t.terms) (map (typed p) xs))
  each_inside ts xs g = subst (AllByRecursion (TermFits env p)) (sym (terms_again p xs)) (each_terms env p ts xs g)

  pub fits_element : (a : made_array.Array) (k : ℕ) (ts : List (Option Ty)) (xs : List Expr) (at : Place) → slice_get p.arrays k ≡ Some a → length xs ≡ length a.extents → EachFits env p ts xs →
      (NoneInside env → is_function env.region ≡ true → ⊥) → TypedFits env p a.ty (accessed p (roll-Access (record { array = k; subscripts = xs; image = None; at = at })))
  fits_element a k ts xs at h n g own = subst (TypedFits env p a.ty) (sym (access_is (record { array = k; subscripts = xs; image = None; at = at }))) (record {
    is = ap array_type h;
    terms = (element_fits_here a _ h (many xs ∙ n) refl own, all_append (TermFits env p) (flat_map (λ t. t.terms) (map (typed p) xs)) [] (each_inside ts xs g) tt);
  })

  pub fits_image : (a : made_array.Array) (k : ℕ) (ts : List (Option Ty)) (xs : List Expr) (t : Ty) (i : Expr) (at : Place) → slice_get p.arrays k ≡ Some a → length xs ≡ length a.extents → EachFits env p ts xs →
      is_image a.home ≡ true → ExprFits env p t i → (NoneInside env → is_function env.region ≡ true → ⊥) → TypedFits env p a.ty (accessed p (roll-Access (record { array = k; subscripts = xs; image = Some i; at = at })))
  fits_image a k ts xs t i at h n g c f own = subst (TypedFits env p a.ty) (sym (access_is (record { array = k; subscripts = xs; image = Some i; at = at }))) (record {
    is = ap array_type h;
    terms = (element_fits_here a _ h (many xs ∙ n) (ap (λ b. false || b) c) own, all_append (TermFits env p) (flat_map (λ t. t.terms) (map (typed p) xs)) (terms_of p i) (each_inside ts xs g) f.terms);
  })
