-- Runs of the walk each step of which respects a relation between the world before it and the world after it, a preorder; and how such runs
-- are put together.
use Rattle.std.proofs.Common.{◌++◌, ◌∷◌, [], ℕ, List, Option, Some, None}
use Rattle.std.specs.Prelude.{ℤ}
use Rattle.xmp_base.specs.declared.place.Place.{Place}
use Rattle.xmp_num.specs.declared.types.Ty.{Ty}
use Rattle.xmp_syntax.specs.declared.parts.Name as named
use Rattle.xmp_names.specs.declared.names.Array.{Array}
use Rattle.xmp_names.specs.declared.mappings.Mappings.{Mappings}
use Rattle.xmp_names.specs.declared.mappings.NodesLine.{NodesLine}
use Rattle.xmp_names.specs.declared.mappings.Notation.{Notation}
use Rattle.xmp_names.specs.declared.rules.Broken.{Broken}
use Rattle.xmp_names.specs.declared.world.World.{World}
use Rattle.xmp_names.specs.Walk as walk
use Rattle.xmp_names.specs.Walk.{Step, Gave, Run, and_then, is_reserved}
use Rattle.xmp_directives.specs.MappingLines as lines
use Rattle.xmp_fits.proofs.Laters.{Begins, LaterMappings, Scopes}

-- ---- what holds at the end of a step

abbrev pub Ends : {A : Type 0} → (A → World → Type 0) → Step A → Type 0
Ends P (Gave a v) = P a v

pub ends_then : {A B : Type 0} (P : A → World → Type 0) (Q : B → World → Type 0) (s : Step A) (f : A → Run B) → Ends P s → ((a : A) (v : World) → P a v → Ends Q (f a v)) → Ends Q (and_then s f)
ends_then P Q (Gave a v) f h k = k a v h

pub ends_map : {A : Type 0} (P Q : A → World → Type 0) (s : Step A) → Ends P s → ((a : A) (v : World) → P a v → Q a v) → Ends Q s
ends_map P Q (Gave a v) h k = k a v h

pub ends_both : {A : Type 0} (P Q : A → World → Type 0) (s : Step A) → Ends P s → Ends Q s → Ends (λ a v. P a v × Q a v) s
ends_both P Q (Gave a v) h k = (h, k)

-- ---- the relation

-- A run whose world before stands in a relation to the world after.
pub record Keeps {A : Type 0} (K : World → World → Type 0) (run : Run A) : Type 0 where
  pub at : (w : World) → Ends (λ a v. K w v) (run w)

-- A world with more scalars, arrays, lines and broken rules, and with other scopes.
abbrev pub grown : World → Scopes → List Array → List Ty → Mappings → ℕ → List Broken → World
grown w scopes arrays scalars mappings deepest broken = record w {
  names = record w.names { scopes = scopes; arrays = arrays };
  scalars = scalars;
  mappings = mappings;
  deepest = deepest;
  broken = broken;
}

-- A relation that the single steps respect: what is judged and noted, lines of mappings, and the names of nodes and templates.
pub record Respected (K : World → World → Type 0) : Type 0 where
  pub same : (w : World) → K w w
  pub then : {a b c : World} → K a b → K b c → K a c
  pub mapped : (w : World) (m : Mappings) (d : ℕ) (bs : List Broken) → LaterMappings w.mappings m → Begins w.broken bs → K w (record w { mappings = m; deepest = d; broken = bs })
  pub nodes : (l : NodesLine) (n : named.Name) → Keeps K (lines.nodes_line l n)
  pub template : (at : Place) (n : named.Name) (written : Notation) (dims : List (ℤ × ℤ)) → Keeps K (lines.template_line at n written dims)

-- A relation that the declaration of a scalar respects.
abbrev pub OfScalars : (World → World → Type 0) → Type 0
OfScalars K = (n : named.Name) (ty : Ty) → Keeps K (walk.declare_scalar n ty)

-- ---- a run with the fact that it respects the relation

pub record Going {K : World → World → Type 0} (r : Respected K) (A : Type 0) : Type 0 where
  pub run : Run A
  pub kept : Keeps K run

pub then_keeps : {K : World → World → Type 0} (r : Respected K) {A B : Type 0} (w : World) (s : Step A) (f : A → Run B) → Ends (λ a v. K w v) s → ((a : A) → Keeps K (f a)) → Ends (λ b v. K w v) (and_then s f)
then_keeps {K} r {A} {B} w s f h k =
    ends_then (λ (a : A) v. K w v) (λ (b : B) v. K w v) s f h (λ a v g.
    ends_map (λ (b : B) u. K v u) (λ (b : B) u. K w u) (f a v) ((k a).at v) (λ b u e. r.then g e))

infixl 10 ◌>>=◌
abbrev pub ◌>>=◌ : {K : World → World → Type 0} {r : Respected K} {A B : Type 0} → Going r A → (A → Going r B) → Going r B
◌>>=◌ {K} {r} p f = record {
  run = walk.◌>>=◌ p.run (λ a. (f a).run);
  kept = record { at = λ w. then_keeps r w (p.run w) (λ a. (f a).run) (p.kept.at w) (λ a. (f a).kept) };
}

module _ {K : World → World → Type 0} (R : Respected K) where
  -- A run that is known to respect the relation.
  abbrev pub known : {A : Type 0} (run : Run A) → Keeps K run → Going R A
  known run k = record { run = run; kept = k }

  abbrev pub pure : {A : Type 0} → A → Going R A
  pure a = record { run = walk.pure a; kept = record { at = R.same } }

  pub each_after : {A B : Type 0} (f : A → Going R B) (done : List B) (xs : List A) → Keeps K (walk.each_after (λ x. (f x).run) done xs)
  each_after f done [] = record { at = R.same }
  each_after f done (x ∷ xs) = record {
    at = λ w. then_keeps R w ((f x).run w) (λ y. walk.each_after (λ x. (f x).run) (done ++ y ∷ []) xs) ((f x).kept.at w) (λ y. each_after f (done ++ y ∷ []) xs);
  }

  abbrev pub each : {A B : Type 0} → (A → Going R B) → List A → Going R (List B)
  each f xs = record { run = walk.each (λ x. (f x).run) xs; kept = each_after f [] xs }

  pub there_kept : {A B : Type 0} (f : A → Going R B) (o : Option A) → Keeps K (walk.if_there (λ x. (f x).run) o)
  there_kept f None = record { at = R.same }
  there_kept f (Some x) = record { at = λ w. then_keeps R w ((f x).run w) (λ y. walk.pure (Some y)) ((f x).kept.at w) (λ y. record { at = R.same }) }

  abbrev pub if_there : {A B : Type 0} → (A → Going R B) → Option A → Going R (Option B)
  if_there f o = record { run = walk.if_there (λ x. (f x).run) o; kept = there_kept f o }
