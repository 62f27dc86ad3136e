-- Runs of the walk that note what breaks at the spots of a list, and behind which the names are those of another context; and how such
-- runs are put together.
use Rattle.std.proofs.Common.{◌≡◌, ◌∙◌, refl, sym, ap, subst, ◌++◌, ◌∷◌, [], List, not, ◌||◌, drop, length, append-nil}
use Rattle.std.proofs.lemmas.Grind.{flat_map-append}
use Rattle.std.specs.Prelude.{⊤}
use Rattle.xmp_num.specs.declared.types.Ty.{Ty}
use Rattle.xmp_syntax.specs.declared.parts.Name as named
use Rattle.xmp_scopes.specs.Names as scope
use Rattle.xmp_scopes.specs.Names.{Name}
use Rattle.xmp_names.specs.declared.names.Meaning.{Meaning}
use Rattle.xmp_names.specs.declared.names.Meaning.TheVariants as m
use Rattle.xmp_names.specs.declared.names.Environment.{Environment}
use Rattle.xmp_names.specs.declared.rules.Rule.TheVariants.{N2}
use Rattle.xmp_names.specs.declared.rules.Broken.{Broken}
use Rattle.xmp_names.specs.declared.world.World.{World}
use Rattle.xmp_names.specs.Rules.{unless}
use Rattle.xmp_names.specs.Walk as walk
use Rattle.xmp_names.specs.Walk.{Gave, Run, is_reserved}
use Rattle.xmp_rules.specs.Scopes.{Declared, Scalar, Scope, Context, scopes, inner_with, file_with, declare, opened}
use Rattle.xmp_rules.specs.Spots.{What, Declares, Spot, all_in}
use Rattle.xmp_rules.proofs.Kept.{kept, behind_all, three}
use Rattle.xmp_rules.proofs.Standing.{Stands, SameKind, SameScopes, breaks, found, all_found, found_in, declared_here}
use Rattle.xmp_rules.proofs.Telling.{Ends, ends_then, ends_map, Added, Tells}

-- ---- the relation

pub record Came (w v : World) (c : Context) (bs : List Broken) : Type 0 where
  pub stands : Stands v.names c
  pub broken : kept v.broken ≡ kept w.broken ++ bs

pub record Moves {A : Type 0} (ws : Context → List Spot) (next : Context → Context) (run : Run A) : Type 0 where
  pub at : (w : World) (c : Context) → Stands w.names c → Ends (λ a v. Came w v (next c) (all_found (ws c))) (run w)

pub moves_then : {A B : Type 0} (xs ys : Context → List Spot) (f g : Context → Context) (p : Run A) (q : A → Run B) → Moves xs f p → ((a : A) → Moves ys g (q a)) →
    Moves (λ c. xs c ++ ys (f c)) (λ c. g (f c)) (walk.◌>>=◌ p q)
moves_then {A} {B} xs ys f g p q h k = record {
  at = λ w c s.
      ends_then (λ (a : A) v. Came w v (f c) (all_found (xs c))) (λ (b : B) v. Came w v (g (f c)) (all_found (xs c ++ ys (f c)))) (p w) q (h.at w c s)
      (λ a v e. ends_map (λ (b : B) u. Came v u (g (f c)) (all_found (ys (f c)))) (λ (b : B) u. Came w u (g (f c)) (all_found (xs c ++ ys (f c)))) (q a v) ((k a).at v (f c) e.stands)
      (λ b u d. record {
        stands = d.stands;
        broken = three (kept w.broken) (kept v.broken) (kept u.broken) _ _ e.broken d.broken ∙ ap (λ l. kept w.broken ++ l) (sym (flat_map-append (λ x. breaks x.in x.what) (xs c) (ys (f c))));
      }));
}

pub came_then : (w v u : World) (c d : Context) (xs ys : List Spot) → Came w v c (all_found xs) → Came v u d (all_found ys) → Came w u d (all_found (xs ++ ys))
came_then w v u c d xs ys e g = record {
  stands = g.stands;
  broken = three (kept w.broken) (kept v.broken) (kept u.broken) _ _ e.broken g.broken ∙ ap (λ l. kept w.broken ++ l) (sym (flat_map-append (λ x. breaks x.in x.what) xs ys));
}

-- A run with its spots and the context behind it.
pub record Moving (ws : Context → List Spot) (next : Context → Context) (A : Type 0) : Type 0 where
  pub run : Run A
  pub moves : Moves ws next run

infixl 10 ◌>>=◌
abbrev pub ◌>>=◌ : {xs ys : Context → List Spot} {f g : Context → Context} {A B : Type 0} → Moving xs f A → (A → Moving ys g B) → Moving (λ c. xs c ++ ys (f c)) (λ c. g (f c)) B
◌>>=◌ {xs} {ys} {f} {g} p q = record { run = walk.◌>>=◌ p.run (λ a. (q a).run); moves = moves_then xs ys f g p.run (λ a. (q a).run) p.moves (λ a. (q a).moves) }

abbrev pub ended : {xs : Context → List Spot} {f : Context → Context} {A B : Type 0} → Moving xs f A → (A → B) → Moving xs f B
ended {xs} {f} {A} {B} p h = record {
  run = walk.◌>>=◌ p.run (λ a. walk.pure (h a));
  moves = record {
    at = λ w c s.
        ends_then (λ (a : A) v. Came w v (f c) (all_found (xs c))) (λ (b : B) v. Came w v (f c) (all_found (xs c))) (p.run w) (λ a. walk.pure (h a)) (p.moves.at w c s) (λ a v g. g);
  };
}

pub came_none : (w : World) (c : Context) → Stands w.names c → Came w w c []
came_none w c s = record { stands = s; broken = sym (append-nil (kept w.broken)) }

abbrev pub pure : {A : Type 0} → A → Moving (λ c. []) (λ c. c) A
pure a = record { run = walk.pure a; moves = record { at = λ w c s. came_none w c s } }

abbrev pub known : {A : Type 0} {ws : Context → List Spot} {next : Context → Context} (run : Run A) → Moves ws next run → Moving ws next A
known run h = record { run = run; moves = h }

-- A run that leaves the names.
pub quiet : {A : Type 0} (ws : Context → List What) (run : Run A) → Tells ws run → Moves (λ c. all_in c (ws c)) (λ c. c) run
quiet {A} ws run h = record {
  at = λ w c s. ends_map (λ (a : A) v. Added w v (found c (ws c))) (λ (a : A) v. Came w v c (all_found (all_in c (ws c)))) (run w) (h.at w c s)
      (λ a v e. record { stands = subst (λ x. Stands x c) (sym e.names) s; broken = e.broken ∙ ap (λ l. kept w.broken ++ l) (sym (found_in c (ws c))) });
}

abbrev pub quietly : {A : Type 0} {ws : Context → List What} (run : Run A) → Tells ws run → Moving (λ c. all_in c (ws c)) (λ c. c) A
quietly {A} {ws} run h = record { run = run; moves = quiet ws run h }

-- The same rules break at other spots, and the same context lies behind.
pub moves_as : {A : Type 0} (xs ys : Context → List Spot) (f g : Context → Context) (run : Run A) → ((c : Context) → all_found (xs c) ≡ all_found (ys c)) → ((c : Context) → f c ≡ g c) → Moves xs f run → Moves ys g run
moves_as {A} xs ys f g run h k m = record {
  at = λ w c s. ends_map (λ (a : A) v. Came w v (f c) (all_found (xs c))) (λ (a : A) v. Came w v (g c) (all_found (ys c))) (run w) (m.at w c s)
      (λ a v e. record { stands = subst (Stands v.names) (k c) e.stands; broken = e.broken ∙ ap (λ l. kept w.broken ++ l) (h c) });
}

-- ---- declarations

declare_same : (n : Name) (x : Meaning) (d : Declared) (ms : List (List (Name × Meaning))) (inner : List Scope) (file : Scope) → SameKind x d → SameScopes ms (inner ++ file ∷ []) →
    SameScopes (scope.declare n x ms) (inner_with n d inner ++ file_with n d inner file ∷ [])
declare_same n x d [] [] file h k = absurd k
declare_same n x d [] (s ∷ ss) file h k = absurd k
declare_same n x d (a ∷ ms) [] file h k = ((refl, (h, k.0)), k.1)
declare_same n x d (a ∷ ms) (s ∷ ss) file h k = ((refl, (h, k.0)), k.1)

pub declared_stands : (e : Environment) (c : Context) (n : Name) (x : Meaning) (d : Declared) → SameKind x d → Stands e c → Stands (record e { scopes = scope.declare n x e.scopes }) (declare n d c)
declared_stands e c n x d h s = record {
  coarray = s.coarray;
  region = s.region;
  names = declare_same n x d e.scopes c.inner c.file h s.names;
  count = s.count;
  last = s.last;
}

pub declares_found : (w : World) (c : Context) (n : named.Name) → Stands w.names c →
    kept (w.broken ++ unless (not (scope.is_declared_here n.text w.names.scopes || is_reserved n.text)) N2 n.at) ≡ kept w.broken ++ all_found (all_in c (Declares n ∷ []))
declares_found w c n s =
    behind_all w.broken (not (scope.is_declared_here n.text w.names.scopes || is_reserved n.text)) N2 n.at refl
    ∙ ap (λ l. kept w.broken ++ l)
    (ap (λ t. unless (not (t || is_reserved n.text)) N2 n.at) (declared_here n.text w.names.scopes (scopes c) s.names) ∙ sym (append-nil (breaks c (Declares n))))

pub declares : (n : named.Name) (x : Meaning) (d : Context → Declared) → ((c : Context) → SameKind x (d c)) → Moves (λ c. all_in c (Declares n ∷ [])) (λ c. declare n.text (d c) c) (walk.declare n x)
declares n x d h = record { at = λ w c s. record { stands = declared_stands w.names c n.text x (d c) (h c) s; broken = declares_found w c n s } }

pub scalar_declared : (n : named.Name) (ty : Ty) → Moves (λ c. all_in c (Declares n ∷ [])) (declare n.text (Scalar ty)) (walk.declare_scalar n ty)
scalar_declared n ty = record { at = λ w c s. record { stands = declared_stands w.names c n.text (m.Scalar (length w.scalars) ty) (Scalar ty) tt s; broken = declares_found w c n s } }

-- ---- scopes

pub scope_opened : Moves (λ c. []) opened walk.open_scope
scope_opened = record {
  at = λ w c s. record {
    stands = record { coarray = s.coarray; region = s.region; names = (tt, s.names); count = s.count; last = s.last };
    broken = sym (append-nil (kept w.broken));
  };
}

-- The context behind a block's end.
abbrev pub closed : Context → Context
closed c = record c { inner = drop 1 c.inner }

abbrev pub IsOpen : List Scope → Type 0
IsOpen [] = ⊥
IsOpen (s ∷ ss) = ⊤

drop_same : (ms : List (List (Name × Meaning))) (inner : List Scope) (file : Scope) → IsOpen inner → SameScopes ms (inner ++ file ∷ []) → SameScopes (drop 1 ms) (drop 1 inner ++ file ∷ [])
drop_same [] [] file h k = absurd h
drop_same [] (s ∷ ss) file h k = absurd k
drop_same (a ∷ ms) [] file h k = absurd h
drop_same (a ∷ ms) (s ∷ ss) file h k = k.1

pub closed_stands : (e : Environment) (c : Context) → IsOpen c.inner → Stands e c → Stands (record e { scopes = drop 1 e.scopes }) (closed c)
closed_stands e c h s = record {
  coarray = s.coarray;
  region = s.region;
  names = drop_same e.scopes c.inner c.file h s.names;
  count = s.count;
  last = s.last;
}

-- A context that comes of another one inside a scope: closing the scope leads to the same.
pub record Inner (c d : Context) : Type 0 where
  pub open_now : IsOpen d.inner
  pub same : closed d ≡ closed c

open_with : (n : Name) (d : Declared) (l : List Scope) → IsOpen l → IsOpen (inner_with n d l)
open_with n d [] h = absurd h
open_with n d (s ∷ ss) h = tt

pub inner_declared : (n : Name) (d : Declared) (c : Context) → IsOpen c.inner → Inner c (declare n d c)
inner_declared n d c h = record { open_now = open_with n d c.inner h; same = by c.inner h }
  where
    by : (l : List Scope) → IsOpen l → record c { inner = drop 1 (inner_with n d l); file = file_with n d l c.file } ≡ record c { inner = drop 1 l }
    by [] h = absurd h
    by (s ∷ ss) h = refl

pub inner_refl : (c : Context) → IsOpen c.inner → Inner c c
inner_refl c h = record { open_now = h; same = refl }

pub inner_then : {a b c : Context} → Inner a b → (IsOpen b.inner → Inner b c) → Inner a c
inner_then h k = record { open_now = (k h.open_now).open_now; same = (k h.open_now).same ∙ h.same }

-- Behind the end of a scope what was noted inside stays noted.
pub came_closed : (w v : World) (c d : Context) (bs : List Broken) → Inner (opened c) d → Came (record w { names = record w.names { scopes = [] ∷ w.names.scopes } }) v d bs →
    Came w (record v { names = record v.names { scopes = drop 1 v.names.scopes } }) c bs
came_closed w v c d bs h e = record {
  stands = subst (Stands (record v.names { scopes = drop 1 v.names.scopes })) h.same (closed_stands v.names d h.open_now e.stands);
  broken = e.broken;
}

pub opened_stands : (w : World) (c : Context) → Stands w.names c → Stands (record w.names { scopes = [] ∷ w.names.scopes }) (opened c)
opened_stands w c s = record { coarray = s.coarray; region = s.region; names = (tt, s.names); count = s.count; last = s.last }

-- A run in a scope of its own.
pub scoped : {A B : Type 0} (xs : Context → List Spot) (f : Context → Context) (p : Run A) (q : A → B) → Moves xs f p → ((c : Context) → IsOpen c.inner → Inner c (f c)) →
    Moves (λ c. xs (opened c)) (λ c. c) (walk.◌>>=◌ walk.open_scope (λ _. walk.◌>>=◌ p (λ a. walk.◌>>=◌ walk.close_scope (λ _. walk.pure (q a)))))
scoped {A} {B} xs f p q h k = record {
  at = λ w c s.
      ends_then (λ (a : A) v. Came (record w { names = record w.names { scopes = [] ∷ w.names.scopes } }) v (f (opened c)) (all_found (xs (opened c)))) (λ (b : B) v. Came w v c (all_found (xs (opened c))))
      (p (record w { names = record w.names { scopes = [] ∷ w.names.scopes } })) (λ a. walk.◌>>=◌ walk.close_scope (λ _. walk.pure (q a)))
      (h.at (record w { names = record w.names { scopes = [] ∷ w.names.scopes } }) (opened c) (opened_stands w c s))
      (λ a v e. came_closed w v c (f (opened c)) (all_found (xs (opened c))) (k (opened c) tt) e);
}
