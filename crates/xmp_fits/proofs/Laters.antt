-- What a step of the walk adds to and what it leaves: a later world begins with what an earlier one has.
use Rattle.std.proofs.Common.{◌≡◌, ◌∙◌, refl, sym, ap, ◌++◌, ◌∷◌, [], List, append_assoc, map}
use Rattle.std.specs.Prelude.{⊤}
use Rattle.std.proofs.lemmas.List.{append-nil}
use Rattle.xmp_scopes.specs.Names as scope
use Rattle.xmp_names.specs.declared.names.Meaning.{Meaning}
use Rattle.xmp_names.specs.declared.names.Environment.{Environment}
use Rattle.xmp_names.specs.declared.mappings.Mappings.{Mappings}
use Rattle.xmp_names.specs.declared.world.World.{World}

-- A list begins with another.
pub record Begins {A : Type 0} (xs ys : List A) : Type 0 where
  pub more : List A
  pub is : ys ≡ xs ++ more

-- Names that are known, later: more arrays, and more functions; those before have as many parameters as they had.
pub record LaterNames (n m : Environment) : Type 0 where
  pub arrays : Begins n.arrays m.arrays
  pub parameters : Begins (map (λ f. f.parameters) n.functions) (map (λ f. f.parameters) m.functions)
  pub coarray : m.coarray ≡ n.coarray

pub record LaterMappings (m n : Mappings) : Type 0 where
  pub nodes : Begins m.nodes n.nodes
  pub templates : Begins m.templates n.templates
  pub distributions : Begins m.distributions n.distributions
  pub aligns : Begins m.aligns n.aligns
  pub shadows : Begins m.shadows n.shadows
  pub loops : Begins m.loops n.loops

pub record Later (w v : World) : Type 0 where
  pub given : v.given ≡ w.given
  pub names : LaterNames w.names v.names
  pub scalars : Begins w.scalars v.scalars
  pub mappings : LaterMappings w.mappings v.mappings
  pub functions : Begins w.functions v.functions
  pub start : Begins w.start v.start
  pub broken : Begins w.broken v.broken

-- The same scopes are open, the innermost with more declarations.
abbrev pub Scopes : Type 0
Scopes = List (List (scope.Name × Meaning))

abbrev pub Widened : Scopes → Scopes → Type 0
Widened [] ts = ⊤
Widened (s ∷ ss) [] = ⊥
Widened (s ∷ ss) (t ∷ ts) = ((more : List (scope.Name × Meaning)) × (t ≡ more ++ s)) × (ts ≡ ss)

-- What a statement, and each step in it that closes the scopes that it opens, leaves besides.
pub record Onward (w v : World) : Type 0 where
  pub later : Later w v
  pub region : v.names.region ≡ w.names.region
  pub signatures : v.names.functions ≡ w.names.functions
  pub functions : v.functions ≡ w.functions
  pub start : v.start ≡ w.start
  pub scopes : Widened w.names.scopes v.names.scopes

-- ---- reflexive and transitive

pub begins_refl : {A : Type 0} (xs : List A) → Begins xs xs
begins_refl xs = record { more = []; is = sym (append-nil xs) }

pub begins_with : {A : Type 0} (xs ys : List A) → Begins xs (xs ++ ys)
begins_with xs ys = record { more = ys; is = refl }

pub begins_trans : {A : Type 0} {xs ys zs : List A} → Begins xs ys → Begins ys zs → Begins xs zs
begins_trans {xs = xs} h k = record { more = h.more ++ k.more; is = k.is ∙ (ap (λ l. l ++ k.more) h.is ∙ append_assoc xs h.more k.more) }

pub names_refl : (n : Environment) → LaterNames n n
names_refl n = record { arrays = begins_refl n.arrays; parameters = begins_refl (map (λ f. f.parameters) n.functions); coarray = refl }

pub names_trans : {a b c : Environment} → LaterNames a b → LaterNames b c → LaterNames a c
names_trans h k = record { arrays = begins_trans h.arrays k.arrays; parameters = begins_trans h.parameters k.parameters; coarray = k.coarray ∙ h.coarray }

pub mappings_refl : (m : Mappings) → LaterMappings m m
mappings_refl m = record {
  nodes = begins_refl m.nodes;
  templates = begins_refl m.templates;
  distributions = begins_refl m.distributions;
  aligns = begins_refl m.aligns;
  shadows = begins_refl m.shadows;
  loops = begins_refl m.loops;
}

pub mappings_trans : {a b c : Mappings} → LaterMappings a b → LaterMappings b c → LaterMappings a c
mappings_trans h k = record {
  nodes = begins_trans h.nodes k.nodes;
  templates = begins_trans h.templates k.templates;
  distributions = begins_trans h.distributions k.distributions;
  aligns = begins_trans h.aligns k.aligns;
  shadows = begins_trans h.shadows k.shadows;
  loops = begins_trans h.loops k.loops;
}

pub later_refl : (w : World) → Later w w
later_refl w = record {
  given = refl;
  names = names_refl w.names;
  scalars = begins_refl w.scalars;
  mappings = mappings_refl w.mappings;
  functions = begins_refl w.functions;
  start = begins_refl w.start;
  broken = begins_refl w.broken;
}

pub later_trans : {a b c : World} → Later a b → Later b c → Later a c
later_trans h k = record {
  given = k.given ∙ h.given;
  names = names_trans h.names k.names;
  scalars = begins_trans h.scalars k.scalars;
  mappings = mappings_trans h.mappings k.mappings;
  functions = begins_trans h.functions k.functions;
  start = begins_trans h.start k.start;
  broken = begins_trans h.broken k.broken;
}

pub widened_refl : (s : Scopes) → Widened s s
widened_refl [] = tt
widened_refl (s ∷ ss) = (([], refl), refl)

pub widened_trans : (a b c : Scopes) → Widened a b → Widened b c → Widened a c
widened_trans [] b c h k = tt
widened_trans (s ∷ ss) [] c h k = absurd h
widened_trans (s ∷ ss) (t ∷ ts) [] h k = absurd k
widened_trans (s ∷ ss) (t ∷ ts) (u ∷ us) h k =
    ((k.0.0 ++ h.0.0, k.0.1 ∙ (ap (λ l. k.0.0 ++ l) h.0.1 ∙ sym (append_assoc k.0.0 h.0.0 s))), k.1 ∙ h.1)

pub onward_refl : (w : World) → Onward w w
onward_refl w = record {
  later = later_refl w;
  region = refl;
  signatures = refl;
  functions = refl;
  start = refl;
  scopes = widened_refl w.names.scopes;
}

pub onward_trans : {a b c : World} → Onward a b → Onward b c → Onward a c
onward_trans {a = a} {b = b} {c = c} h k = record {
  later = later_trans h.later k.later;
  region = k.region ∙ h.region;
  signatures = k.signatures ∙ h.signatures;
  functions = k.functions ∙ h.functions;
  start = k.start ∙ h.start;
  scopes = widened_trans a.names.scopes b.names.scopes c.names.scopes h.scopes k.scopes;
}

-- ---- backwards

-- Where no rule has broken later, none had before.
none_before : {A : Type 0} (xs ys zs : List A) → ys ≡ xs ++ zs → ys ≡ [] → xs ≡ []
none_before [] ys zs e h = refl
none_before (x ∷ xs) ys zs e h = cc

pub begins_none : {A : Type 0} (xs ys : List A) → Begins xs ys → ys ≡ [] → xs ≡ []
begins_none xs ys b h = none_before xs ys b.more b.is h

pub unbroken_before : (w v : World) → Later w v → v.broken ≡ [] → w.broken ≡ []
unbroken_before w v l h = begins_none w.broken v.broken l.broken h
