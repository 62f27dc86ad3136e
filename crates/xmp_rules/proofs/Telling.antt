-- Runs of the walk that note what breaks at the spots of a list, in order, and leave the names; and how such runs are put together.
use Rattle.std.proofs.Common.{◌≡◌, ◌∙◌, refl, sym, ap, subst, ◌++◌, ◌∷◌, [], List, Bool, true, false, not, Option, Some, None, is_some, map, flat_map, append_assoc, append-nil}
use Rattle.std.proofs.lemmas.Grind.{flat_map-append}
use Rattle.std.specs.Prelude.{⊤, ℤ}
use Rattle.xmp_base.specs.declared.place.Place.{Place}
use Rattle.xmp_syntax.specs.declared.parts.Name as named
use Rattle.xmp_syntax.specs.declared.parts.Call.{Call}
use Rattle.xmp_syntax.specs.declared.parts.Next.{Next}
use Rattle.xmp_syntax.specs.declared.parts.Reference.{Reference}
use Rattle.xmp_syntax.specs.declared.expression.Expr.{Expr}
use Rattle.xmp_scopes.specs.Names.{nearest}
use Rattle.xmp_names.specs.declared.names.Meaning.{Meaning}
use Rattle.xmp_names.specs.declared.rules.Rule.{Rule}
use Rattle.xmp_names.specs.declared.rules.Rule.TheVariants.{N1, N3, N4, N5, N8}
use Rattle.xmp_names.specs.declared.rules.Broken.{Broken}
use Rattle.xmp_names.specs.declared.typed.Operand.{Operand}
use Rattle.xmp_names.specs.declared.typed.Parts.{Parts}
use Rattle.xmp_names.specs.declared.world.World.{World}
use Rattle.xmp_names.specs.Rules.{unless}
use Rattle.xmp_names.specs.Expressions.{expr_of, reference_of, call, arguments_of, each_next, next_of, no_parts, is_function, may_name}
use Rattle.xmp_names.specs.Walk as walk
use Rattle.xmp_names.specs.Walk.{Step, Gave, Run, and_then, is_outermost}
use Rattle.xmp_rules.specs.Scopes.{Context}
use Rattle.xmp_rules.specs.Spots.{Use, What, Used, Directive, Constant, of_expr, of_reference, of_call, constant}
use Rattle.xmp_rules.proofs.Kept.{covered, kept, kept_both, behind_none, behind_all, three}
use Rattle.xmp_rules.proofs.Constancy.{value_in, value_is}
use Rattle.xmp_rules.proofs.Standing.{Stands, breaks, found, allowed, is_given, part_is, is_out, out_is}
use Rattle.xmp_rules.proofs.Expressions.{expr_found, reference_found, call_is_found, rest_found, name_found}

-- ---- what holds at the end of a step

abbrev pub Ends : {A : Type 0} → (A → World → Type 0) → Step A → Type 0
Ends P (Gave a v) = P a v

pub ends_then : {A B : Type 0} (P : A → World → Type 0) (Q : B → World → Type 0) (s : Step A) (f : A → Run B) → Ends P s → ((a : A) (v : World) → P a v → Ends Q (f a v)) → Ends Q (and_then s f)
ends_then P Q (Gave a v) f h k = k a v h

pub ends_map : {A : Type 0} (P Q : A → World → Type 0) (s : Step A) → Ends P s → ((a : A) (v : World) → P a v → Q a v) → Ends Q s
ends_map P Q (Gave a v) h k = k a v h

-- ---- runs that leave the names

-- Between two worlds the names stay, and a list of broken rules came.
pub record Added (w v : World) (bs : List Broken) : Type 0 where
  pub names : v.names ≡ w.names
  pub broken : kept v.broken ≡ kept w.broken ++ bs

pub added_none : (w : World) → Added w w []
added_none w = record { names = refl; broken = sym (append-nil (kept w.broken)) }

pub added_then : {a b c : World} {xs ys : List Broken} → Added a b xs → Added b c ys → Added a c (xs ++ ys)
added_then {a} {b} {c} {xs} {ys} h k = record { names = k.names ∙ h.names; broken = three (kept a.broken) (kept b.broken) (kept c.broken) xs ys h.broken k.broken }

pub record Tells {A : Type 0} (ws : Context → List What) (run : Run A) : Type 0 where
  pub at : (w : World) (c : Context) → Stands w.names c → Ends (λ a v. Added w v (found c (ws c))) (run w)

pub tells_then : {A B : Type 0} (xs ys : Context → List What) (p : Run A) (f : A → Run B) → Tells xs p → ((a : A) → Tells ys (f a)) → Tells (λ c. xs c ++ ys c) (walk.◌>>=◌ p f)
tells_then {A} {B} xs ys p f h k = record {
  at = λ w c s.
      ends_then (λ (a : A) v. Added w v (found c (xs c))) (λ (b : B) v. Added w v (found c (xs c ++ ys c))) (p w) f (h.at w c s)
      (λ a v g. ends_map (λ (b : B) u. Added v u (found c (ys c))) (λ (b : B) u. Added w u (found c (xs c ++ ys c))) (f a v) ((k a).at v c (subst (λ e. Stands e c) (sym g.names) s))
      (λ b u e. subst (Added w u) (sym (flat_map-append (breaks c) (xs c) (ys c))) (added_then g e)));
}

-- A run with what it notes.
pub record Telling (ws : Context → List What) (A : Type 0) : Type 0 where
  pub run : Run A
  pub tells : Tells ws run

infixl 10 ◌>>=◌
abbrev pub ◌>>=◌ : {xs ys : Context → List What} {A B : Type 0} → Telling xs A → (A → Telling ys B) → Telling (λ c. xs c ++ ys c) B
◌>>=◌ {xs} {ys} p f = record { run = walk.◌>>=◌ p.run (λ a. (f a).run); tells = tells_then xs ys p.run (λ a. (f a).run) p.tells (λ a. (f a).tells) }

-- The last step, and what is made of its result.
abbrev pub ended : {xs : Context → List What} {A B : Type 0} → Telling xs A → (A → B) → Telling xs B
ended {xs} {A} {B} p f = record {
  run = walk.◌>>=◌ p.run (λ a. walk.pure (f a));
  tells = record {
    at = λ w c s.
        ends_then (λ (a : A) v. Added w v (found c (xs c))) (λ (b : B) v. Added w v (found c (xs c))) (p.run w) (λ a. walk.pure (f a)) (p.tells.at w c s) (λ a v g. g);
  };
}

abbrev pub pure : {A : Type 0} → A → Telling (λ c. []) A
pure a = record { run = walk.pure a; tells = record { at = λ w c s. added_none w } }

abbrev pub known : {A : Type 0} {ws : Context → List What} (run : Run A) → Tells ws run → Telling ws A
known run h = record { run = run; tells = h }

-- ---- single steps

pub one_found : (c : Context) (x : What) → breaks c x ≡ found c (x ∷ [])
one_found c x = sym (append-nil (breaks c x))

-- A test of a rule that isn't looked at, at a spot of which nothing else is asked.
pub skipped_by : (x : What) (test : World → Bool) (rule : Rule) (at : Place) → covered rule ≡ false → ((c : Context) → breaks c x ≡ []) → Tells (λ c. x ∷ []) (λ w. walk.judge (test w) rule at w)
skipped_by x test rule at h n = record {
  at = λ w c s. record { names = refl; broken = behind_none w.broken (test w) rule at h ∙ (sym (append-nil (kept w.broken)) ∙ ap (λ l. kept w.broken ++ l) (sym (n c) ∙ one_found c x)) };
}

-- And at none at all.
pub unheard_by : (test : World → Bool) (rule : Rule) (at : Place) → covered rule ≡ false → Tells (λ c. []) (λ w. walk.judge (test w) rule at w)
unheard_by test rule at h = record { at = λ w c s. record { names = refl; broken = behind_none w.broken (test w) rule at h ∙ sym (append-nil (kept w.broken)) } }

-- A test of a rule that is looked at.
pub judged_by : (x : What) (test : World → Bool) (rule : Rule) (at : Place) → covered rule ≡ true → ((w : World) (c : Context) → Stands w.names c → unless (test w) rule at ≡ breaks c x) →
    Tells (λ c. x ∷ []) (λ w. walk.judge (test w) rule at w)
judged_by x test rule at h n = record {
  at = λ w c s. record { names = refl; broken = behind_all w.broken (test w) rule at h ∙ ap (λ l. kept w.broken ++ l) (n w c s ∙ one_found c x) };
}

-- What stands in a world is asked.
abbrev pub asked : {A : Type 0} → (World → A) → Telling (λ c. []) A
asked f = record { run = λ w. Gave (f w) w; tells = record { at = λ w c s. added_none w } }

pub noted_in : (w : World) (c : Context) (bs : List Broken) (ws : List What) → kept bs ≡ found c ws → kept (w.broken ++ bs) ≡ kept w.broken ++ found c ws
noted_in w c bs ws h = kept_both w.broken bs ∙ ap (λ l. kept w.broken ++ l) h

abbrev pub typed : (x : Expr) → Telling (λ c. of_expr x) Operand
typed x = record { run = walk.typed x; tells = record { at = λ w c s. record { names = refl; broken = noted_in w c (expr_of w.names x).notes.broken (of_expr x) (expr_found w.names c s x) } } }

abbrev pub typed_reference : (r : Reference Expr) → Telling (λ c. of_reference r) Operand
typed_reference r = record {
  run = walk.typed_reference r;
  tells = record { at = λ w c s. record { names = refl; broken = noted_in w c (reference_of w.names r).notes.broken (of_reference r) (reference_found w.names c s r) } };
}

abbrev pub typed_call : (x : Call Expr) → Telling (λ c. of_call x) Operand
typed_call x = record {
  run = walk.typed_call x;
  tells = record { at = λ w c s. record { names = refl; broken = noted_in w c (call w.names x.name (arguments_of w.names x.arguments.item)).notes.broken (of_call x) (call_is_found w.names c s x) } };
}

abbrev pub typed_all : (es : List (Next Expr)) → Telling (λ c. flat_map (λ n. of_expr n.item) es) Parts
typed_all es = record {
  run = walk.typed_all es;
  tells = record {
    at = λ w c s. record { names = refl; broken = noted_in w c (each_next no_parts (map (next_of w.names) es)).notes.broken (flat_map (λ n. of_expr n.item) es) (rest_found w.names c s no_parts es) };
  };
}

-- An expression, and a rule on its value behind it.
pub judged_behind : (w : World) (c : Context) (x : Expr) (last : What) (test : Bool) → Stands w.names c → unless test N4 (walk.first_place x) ≡ breaks c last →
    kept ((w.broken ++ (expr_of w.names x).notes.broken) ++ unless test N4 (walk.first_place x)) ≡ kept w.broken ++ found c (of_expr x ++ last ∷ [])
judged_behind w c x last test s h =
    behind_all (w.broken ++ (expr_of w.names x).notes.broken) test N4 (walk.first_place x) refl
    ∙ (ap (λ l. l ++ unless test N4 (walk.first_place x)) (noted_in w c (expr_of w.names x).notes.broken (of_expr x) (expr_found w.names c s x))
    ∙ (append_assoc (kept w.broken) (found c (of_expr x)) (unless test N4 (walk.first_place x))
    ∙ ap (λ l. kept w.broken ++ l) (ap (λ l. found c (of_expr x) ++ l) (h ∙ one_found c last) ∙ sym (flat_map-append (breaks c) (of_expr x) (last ∷ [])))))

-- What is noted of a constant, and what is known of its value.
pub record Valued (w v : World) (c : Context) (x : Expr) (t : Operand) : Type 0 where
  pub added : Added w v (found c (constant x))
  pub value : t.value ≡ value_in x

pub constant_valued : (x : Expr) (w : World) (c : Context) → Stands w.names c → Ends (λ t v. Valued w v c x t) (walk.typed_constant x w)
constant_valued x w c s = record {
  added = record { names = refl; broken = judged_behind w c x (Constant x) (walk.is_known (expr_of w.names x).operand.value) s (ap (λ v. unless (walk.is_known v) N4 (walk.first_place x)) (value_is w.names x)) };
  value = value_is w.names x;
}

abbrev pub typed_constant : (x : Expr) → Telling (λ c. constant x) Operand
typed_constant x = record {
  run = walk.typed_constant x;
  tells = record { at = λ w c s. ends_map (λ (t : Operand) v. Valued w v c x t) (λ (t : Operand) v. Added w v (found c (constant x))) (walk.typed_constant x w) (constant_valued x w c s) (λ t v e. e.added) };
}

abbrev pub constant_of : (x : Expr) → Telling (λ c. constant x) ℤ
constant_of x = ended (typed_constant x) (λ t. walk.value_of t.value)

-- ---- lists and what may be there

pub each_after_tells : {A B : Type 0} (f : A → Run B) (g : A → List What) → ((x : A) → Tells (λ c. g x) (f x)) → (done : List B) (xs : List A) → Tells (λ c. flat_map g xs) (walk.each_after f done xs)
each_after_tells f g h done [] = record { at = λ w c s. added_none w }
each_after_tells f g h done (x ∷ xs) =
    tells_then (λ c. g x) (λ c. flat_map g xs) (f x) (λ y. walk.each_after f (done ++ y ∷ []) xs) (h x) (λ y. each_after_tells f g h (done ++ y ∷ []) xs)

abbrev pub each : {A B : Type 0} (g : A → List What) (f : (x : A) → Telling (λ c. g x) B) (xs : List A) → Telling (λ c. flat_map g xs) (List B)
each g f xs = record { run = walk.each (λ x. (f x).run) xs; tells = each_after_tells (λ x. (f x).run) g (λ x. (f x).tells) [] xs }

-- ---- names

-- What a name means decides what follows.
pub by_meaning : {B : Type 0} (n : named.Name) (f : Option Meaning → Run B) (ws : Context → List What) →
    ((w v : World) (c : Context) → Stands w.names c → v.names ≡ w.names → kept v.broken ≡ kept w.broken ++ unless (may_name w.names n (nearest n.text w.names.scopes)) N5 n.at
    → Ends (λ b u. Added w u (found c (ws c))) (f (nearest n.text w.names.scopes) v)) → Tells ws (walk.◌>>=◌ (walk.meaning_of n) f)
by_meaning n f ws h = record {
  at = λ w c s. h w _ c s refl (behind_all w.broken (may_name w.names n (nearest n.text w.names.scopes)) N5 n.at refl);
}

kind_ends : {A : Type 0} (kind : Meaning → Option A) (n : named.Name) (m : Option Meaning) (v : World) → Ends (λ a u. Added v u (unless (is_some m) N1 n.at)) (walk.of_kind kind n m v)
kind_ends kind n None v = record { names = refl; broken = behind_all v.broken false N1 n.at refl }
kind_ends kind n (Some m) v = record { names = refl; broken = behind_none v.broken (is_some (kind m)) N3 n.at refl ∙ sym (append-nil (kept v.broken)) }

pub name_tells : {A : Type 0} (kind : Meaning → Option A) (n : named.Name) (u : Use) → ((b : Bool) → allowed n.text u b ≡ b) → ((c : Context) → is_given c n.text u ≡ false) → Tells (λ c. Used n u ∷ []) (walk.name_of kind n)
name_tells {A} kind n u a g = by_meaning n (λ m. walk.of_kind kind n m) (λ c. Used n u ∷ []) (λ w v c s same k.
    ends_map (λ (a : Option A) x. Added v x (unless (is_some (nearest n.text w.names.scopes)) N1 n.at)) (λ (a : Option A) x. Added w x (found c (Used n u ∷ []))) (walk.of_kind kind n (nearest n.text w.names.scopes) v)
    (kind_ends kind n (nearest n.text w.names.scopes) v)
    (λ y x e. record {
      names = e.names ∙ same;
      broken = three (kept w.broken) (kept v.broken) (kept x.broken) _ _ k e.broken ∙ ap (λ l. kept w.broken ++ l) (name_found w.names c s n u a (g c) ∙ one_found c (Used n u));
    }))

abbrev pub name_of : {A : Type 0} (u : Use) (kind : Meaning → Option A) (n : named.Name) → ((b : Bool) → allowed n.text u b ≡ b) → ((c : Context) → is_given c n.text u ≡ false) → Telling (λ c. Used n u ∷ []) (Option A)
name_of u kind n a g = record { run = walk.name_of kind n; tells = name_tells kind n u a g }

-- ---- words

pub part_breaks : (at : Place) (w : World) (c : Context) → Stands w.names c → unless (not (is_function w.names.region)) N5 at ≡ breaks c (Directive at)
part_breaks at w c s = ap (λ t. unless (not t) N5 at) (part_is w.names c s)

abbrev pub directive_at : (at : Place) → Telling (λ c. Directive at ∷ []) ⊤
directive_at at = record {
  run = walk.directive_at at;
  tells = record {
    at = λ w c s. record { names = refl; broken = behind_all w.broken (not (is_function w.names.region)) N5 at refl ∙ ap (λ l. kept w.broken ++ l) (part_breaks at w c s ∙ one_found c (Directive at)) };
  };
}

abbrev pub stands_outermost : (x : What) (at : Place) → ((c : Context) → breaks c x ≡ unless (is_out c) N8 at) → Telling (λ c. x ∷ []) ⊤
stands_outermost x at n = record { run = walk.stands_outermost at; tells = judged_by x is_outermost N8 at refl (λ w c s. ap (λ t. unless t N8 at) (out_is w c s) ∙ sym (n c)) }

abbrev pub not_in_function : (x : What) (at : Place) → ((c : Context) → breaks c x ≡ breaks c (Directive at)) → Telling (λ c. x ∷ []) ⊤
not_in_function x at n = record {
  run = walk.not_in_function at;
  tells = judged_by x (λ w. not (is_function w.names.region)) N5 at refl (λ w c s. part_breaks at w c s ∙ sym (n c));
}
