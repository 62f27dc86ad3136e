-- A step that changes no function keeps a world good.
use Rattle.std.proofs.Common.{◌≡◌, ◌∙◌, refl, sym, ap, subst, inl, inr, ⊎_elim, ◌++◌, ◌∷◌, [], ℕ, zero, suc, ◌+◌, ◌<◌, List, Bool, true, false, length, arith, length-append, Option, Some, None}
use Rattle.std.specs.Prelude.{slice_get, drop, is_some, if◌then◌else◌}
use Rattle.std.specs.List.{AllByRecursion}
use Rattle.std.specs.Option.{option_or}
use Rattle.std.proofs.lemmas.Option.{same_Some, none-some}
use Rattle.xmp_scopes.specs.Names as scope
use Rattle.xmp_names.specs.declared.names.Meaning.{Meaning}
use Rattle.xmp_names.specs.declared.names.Meaning.TheVariants.{Scalar, Array, Nodes, Template, Function}
use Rattle.xmp_names.specs.declared.world.World.{World}
use Rattle.xmp_names.specs.Walk.{is_main}
use Rattle.xmp_names.specs.Expressions.{is_function, is_first}
use Rattle.xmp_fits.proofs.Laters.{Begins, Later, Onward, Scopes, unbroken_before}
use Rattle.xmp_fits.proofs.GoodWorlds.{Own, in_file, IsTrueIn, TrueScope, NoArray, NoneInside, Good, being_read}

-- ---- lists

pub get_more : {A : Type 0} (xs ys : List A) (k : ℕ) (x : A) → slice_get xs k ≡ Some x → slice_get (xs ++ ys) k ≡ Some x
get_more [] ys k x e = absurd (none-some x e)
get_more (y ∷ xs) ys zero x e = e
get_more (y ∷ xs) ys (suc k) x e = get_more xs ys k x e

pub begins_get : {A : Type 0} (xs ys : List A) (k : ℕ) (x : A) → Begins xs ys → slice_get xs k ≡ Some x → slice_get ys k ≡ Some x
begins_get xs ys k x b e = ap (λ l. slice_get l k) b.is ∙ get_more xs b.more k x e

pub begins_length : {A : Type 0} (xs ys : List A) (k : ℕ) → Begins xs ys → k < length xs → k < length ys
begins_length xs ys k b h =
    let e : length ys ≡ length xs + length b.more = ap length b.is ∙ length-append xs b.more in omega (arith, e)

pub get_last : {A : Type 0} (xs : List A) (x : A) → slice_get (xs ++ x ∷ []) (length xs) ≡ Some x
get_last [] x = refl
get_last (y ∷ xs) x = get_last xs x

pub all_map : {A : Type 0} (P Q : A → Type 0) → ((x : A) → P x → Q x) → (xs : List A) → AllByRecursion P xs → AllByRecursion Q xs
all_map P Q f [] h = tt
all_map P Q f (x ∷ xs) h = (f x h.0, all_map P Q f xs h.1)

-- ---- what stays true

-- What of a world the meaning of a name rests on.
pub record Stays (w v : World) : Type 0 where
  pub later : Later w v
  pub region : v.names.region ≡ w.names.region
  pub signatures : v.names.functions ≡ w.names.functions
  pub functions : v.functions ≡ w.functions

pub onward_stays : {w v : World} → Onward w v → Stays w v
onward_stays o = record { later = o.later; region = o.region; signatures = o.signatures; functions = o.functions }

pub true_stays : (own : Own) (w v : World) → Stays w v → (n : scope.Name) (m : Meaning) → IsTrueIn own w n m → IsTrueIn own v n m
true_stays own w v s n (Scalar slot ty) h = begins_get w.scalars v.scalars slot ty s.later.scalars h
true_stays own w v s n (Array k) h = begins_length w.names.arrays v.names.arrays k s.later.names.arrays h
true_stays own w v s n (Nodes k) h = begins_length w.mappings.nodes v.mappings.nodes k s.later.mappings.nodes h
true_stays own w v s n (Template k) h = begins_length w.mappings.templates v.mappings.templates k s.later.mappings.templates h
true_stays own w v s n (Function k r) h =
    ⊎_elim (λ f. inl (record {
      function = f.function;
      is = ap (λ l. slice_get l k) s.functions ∙ f.is;
      gives = f.gives;
      signature = f.signature;
      known = ap (λ l. slice_get l k) s.signatures ∙ f.known;
      parameters = f.parameters;
    }))
    (λ f. inr (record {
      inside = ap in_file s.region ∙ f.inside;
      number = f.number ∙ sym (ap length s.signatures);
      gives = f.gives;
      named = f.named;
    })) h

pub scope_stays : (own : Own) (w v : World) → Stays w v → (names : List (scope.Name × Meaning)) → TrueScope own w names → TrueScope own v names
scope_stays own w v s names h = record { tells = λ n m e. true_stays own w v s n m (h.tells n m e) }

-- A world that stays good, with other scopes that are good.
pub good_with : (own : Own) (w v : World) → Stays w v → Good own w → AllByRecursion (TrueScope own v) v.names.scopes →
    (NoneInside w.names.scopes → v.broken ≡ [] → is_function v.names.region ≡ true → NoneInside v.names.scopes) → Good own v
good_with own w v s g all inner = record {
  scopes = all;
  numbers = ap length s.signatures ∙ (g.numbers ∙ (ap (λ f. length f + being_read w.names.region) (sym s.functions) ∙ ap (λ r. length v.functions + being_read r) (sym s.region)));
  main = λ h. g.main (sym (ap is_main s.region) ∙ h);
  inside = λ b r. inner (g.inside (unbroken_before w v s.later b) (sym (ap is_function s.region) ∙ r)) b r;
}

pub scopes_stay : (own : Own) (w v : World) → Stays w v → (ss : Scopes) → AllByRecursion (TrueScope own w) ss → AllByRecursion (TrueScope own v) ss
scopes_stay own w v s ss all = all_map (TrueScope own w) (TrueScope own v) (scope_stays own w v s) ss all

-- ... with the same scopes,
pub good_same : (own : Own) (w v : World) → Stays w v → v.names.scopes ≡ w.names.scopes → Good own w → Good own v
good_same own w v s e g =
    good_with own w v s g (subst (λ ss. AllByRecursion (TrueScope own v) ss) (sym e) (scopes_stay own w v s w.names.scopes g.scopes)) (λ h b r. subst NoneInside (sym e) h)

-- ... with one more declaration,
declared_scope : (own : Own) (v : World) (n : scope.Name) (m : Meaning) (names : List (scope.Name × Meaning)) → ((k : scope.Name) → scope.is_same k n ≡ true → IsTrueIn own v k m) → TrueScope own v names → TrueScope own v ((n, m) ∷ names)
declared_scope own v n m names new h = record { tells = λ k o e. by k o (scope.is_same k n) refl e }
  where
    by : (k : scope.Name) (o : Meaning) (b : Bool) → scope.is_same k n ≡ b → (if b then Some m else scope.in_scope k names) ≡ Some o → IsTrueIn own v k o
    by k o true is e = subst (IsTrueIn own v k) (same_Some m o e) (new k is)
    by k o false is e = h.tells k o e

pub no_names : (own : Own) (v : World) → TrueScope own v []
no_names own v = record { tells = λ n m e. absurd (none-some m e) }

pub declared_scopes : (own : Own) (v : World) (n : scope.Name) (m : Meaning) (ss : Scopes) → ((k : scope.Name) → scope.is_same k n ≡ true → IsTrueIn own v k m) → AllByRecursion (TrueScope own v) ss → AllByRecursion (TrueScope own v) (scope.declare n m ss)
declared_scopes own v n m [] new h = (declared_scope own v n m [] new (no_names own v), tt)
declared_scopes own v n m (s ∷ ss) new h = (declared_scope own v n m s new h.0, h.1)

-- a meaning that is no array adds none
none_more : (n : scope.Name) (m : Meaning) (names : List (scope.Name × Meaning)) → ((k : ℕ) → m ≡ Array k → ⊥) → NoArray names → NoArray ((n, m) ∷ names)
none_more n m names never h = record { none = λ i k e. by i k (scope.is_same i n) e }
  where
    by : (i : scope.Name) (k : ℕ) (b : Bool) → (if b then Some m else scope.in_scope i names) ≡ Some (Array k) → ⊥
    by i k true e = never k (same_Some m (Array k) e)
    by i k false e = h.none i k e

pub none_declared : (n : scope.Name) (m : Meaning) (ss : Scopes) → ((k : ℕ) → m ≡ Array k → ⊥) → NoneInside ss → NoneInside (scope.declare n m ss)
none_declared n m [] never h = tt
none_declared n m (s ∷ []) never h = tt
none_declared n m (s ∷ t ∷ ts) never h = (none_more n m s never h.0, h.1)

pub good_declared : (own : Own) (w v : World) (n : scope.Name) (m : Meaning) → Stays w v → v.names.scopes ≡ scope.declare n m w.names.scopes →
    ((k : scope.Name) → scope.is_same k n ≡ true → IsTrueIn own v k m) → ((k : ℕ) → m ≡ Array k → v.broken ≡ [] → is_function v.names.region ≡ true → ⊥) → Good own w → Good own v
good_declared own w v n m s e new never g =
    good_with own w v s g (subst (λ ss. AllByRecursion (TrueScope own v) ss) (sym e) (declared_scopes own v n m w.names.scopes new (scopes_stay own w v s w.names.scopes g.scopes)))
    (λ h b r. subst NoneInside (sym e) (none_declared n m w.names.scopes (λ k q. never k q b r) h))

-- ... with one more scope, and with one less.
none_opened : (ss : Scopes) → NoneInside ss → NoneInside ([] ∷ ss)
none_opened [] h = tt
none_opened (s ∷ ss) h = (record { none = λ n k e. none-some (Array k) e }, h)

none_closed : (ss : Scopes) → NoneInside ss → NoneInside (drop 1 ss)
none_closed [] h = tt
none_closed (s ∷ []) h = tt
none_closed (s ∷ t ∷ ts) h = h.1

pub good_opened : (own : Own) (w v : World) → Stays w v → v.names.scopes ≡ [] ∷ w.names.scopes → Good own w → Good own v
good_opened own w v s e g =
    good_with own w v s g (subst (λ ss. AllByRecursion (TrueScope own v) ss) (sym e) (no_names own v, scopes_stay own w v s w.names.scopes g.scopes))
    (λ h b r. subst NoneInside (sym e) (none_opened w.names.scopes h))

dropped : {A : Type 0} (P : A → Type 0) (xs : List A) → AllByRecursion P xs → AllByRecursion P (drop 1 xs)
dropped P [] h = tt
dropped P (x ∷ xs) h = h.1

pub good_closed : (own : Own) (w v : World) → Stays w v → v.names.scopes ≡ drop 1 w.names.scopes → Good own w → Good own v
good_closed own w v s e g =
    good_with own w v s g (subst (λ ss. AllByRecursion (TrueScope own v) ss) (sym e) (scopes_stay own w v s (drop 1 w.names.scopes) (dropped (TrueScope own w) w.names.scopes g.scopes)))
    (λ h b r. subst NoneInside (sym e) (none_closed w.names.scopes h))

-- ---- what a name means

-- The meaning that is found is true.
found : (own : Own) (w : World) (n : scope.Name) (m : Meaning) (ss : Scopes) → AllByRecursion (TrueScope own w) ss → scope.nearest n ss ≡ Some m → IsTrueIn own w n m
found own w n m [] all e = absurd (none-some m e)
found own w n m (s ∷ ss) all e = by (scope.in_scope n s) refl (λ d. found own w n m ss all.1 d) e
  where
    by : (o : Option Meaning) → scope.in_scope n s ≡ o → (scope.nearest n ss ≡ Some m → IsTrueIn own w n m) → option_or o (scope.nearest n ss) ≡ Some m → IsTrueIn own w n m
    by None is outer e = outer e
    by (Some x) is outer e = all.0.tells n m (is ∙ e)

pub true_name : (own : Own) (w : World) (n : scope.Name) (m : Meaning) → Good own w → scope.nearest n w.names.scopes ≡ Some m → IsTrueIn own w n m
true_name own w n m g e = found own w n m w.names.scopes g.scopes e

-- In a function other than main an array that a name means is declared at file scope.
array_first : (n : scope.Name) (k : ℕ) (ss : Scopes) → NoneInside ss → scope.nearest n ss ≡ Some (Array k) → is_first (scope.depth_of n ss) ≡ true
array_first n k [] h e = absurd (none-some (Array k) e)
array_first n k (s ∷ []) h e = by (scope.in_scope n s) e
  where
    by : (o : Option Meaning) → option_or o (scope.nearest {M = Meaning} n []) ≡ Some (Array k) → is_first (if is_some o then Some (length (s ∷ [])) else scope.depth_of {M = Meaning} n []) ≡ true
    by None e = absurd (none-some (Array k) e)
    by (Some m) e = refl
array_first n k (s ∷ t ∷ ts) h e = by (scope.in_scope n s) refl (array_first n k (t ∷ ts) h.1) e
  where
    by : (o : Option Meaning) → scope.in_scope n s ≡ o → (scope.nearest n (t ∷ ts) ≡ Some (Array k) → is_first (scope.depth_of n (t ∷ ts)) ≡ true) → option_or o (scope.nearest n (t ∷ ts)) ≡ Some (Array k) →
        is_first (if is_some o then Some (length (s ∷ t ∷ ts)) else scope.depth_of n (t ∷ ts)) ≡ true
    by None is rest e = rest e
    by (Some m) is rest e = absurd (h.0.none n k (is ∙ e))

pub array_of_file : (own : Own) (w : World) → Good own w → w.broken ≡ [] → is_function w.names.region ≡ true → (n : scope.Name) (k : ℕ) → scope.nearest n w.names.scopes ≡ Some (Array k) → is_first (scope.depth_of n w.names.scopes) ≡ true
array_of_file own w g b r n k e = array_first n k w.names.scopes (g.inside b r) e
