-- Runs of the walk that go on from each world to a later one, and keep it good: the single steps do.
use Rattle.std.proofs.Common.{◌≡◌, refl, ◌++◌, ◌∷◌, [], ℕ, ◌+◌, ◌<◌, List, Bool, true, length, length-append, map, arith}
use Rattle.std.specs.Prelude.{ℤ, nat_lt, not, ◌&&◌, ◌||◌, ◌==◌, nat_le}
use Rattle.std.specs.List.{list_all}
use Rattle.xmp_base.specs.declared.place.Place.{Place}
use Rattle.xmp_num.specs.declared.types.Ty.{Ty}
use Rattle.xmp_syntax.specs.declared.parts.Name as named
use Rattle.xmp_scopes.specs.Names as scope
use Rattle.xmp_names.specs.declared.mappings.Notation.{Notation}
use Rattle.xmp_names.specs.declared.names.Array.{Array}
use Rattle.xmp_names.specs.declared.names.Region.{Region}
use Rattle.xmp_names.specs.declared.names.Region.TheVariants as region
use Rattle.xmp_names.specs.declared.names.Meaning.{Meaning}
use Rattle.xmp_names.specs.declared.names.Meaning.TheVariants as meaning
use Rattle.xmp_names.specs.declared.mappings.Mappings.{Mappings}
use Rattle.xmp_names.specs.declared.mappings.NodesLine.{NodesLine}
use Rattle.xmp_names.specs.declared.mappings.TemplateLine.{TemplateLine}
use Rattle.xmp_names.specs.declared.rules.Rule.TheVariants.{N2, N5, N8}
use Rattle.xmp_names.specs.declared.rules.Broken.{Broken}
use Rattle.xmp_names.specs.declared.world.World.{World}
use Rattle.xmp_names.specs.Rules.{unless}
use Rattle.xmp_names.specs.Expressions.{is_function}
use Rattle.xmp_names.specs.Walk.{Step, Run, and_then, is_main, is_reserved}
use Rattle.xmp_walk.specs.Declarations.{extent_of, extent_right}
use Rattle.xmp_directives.specs.MappingLines as lines
use Rattle.xmp_parts.proofs.Unbroken.{right_none}
use Rattle.xmp_fits.proofs.Laters.{Begins, begins_refl, begins_with, begins_trans, LaterMappings, mappings_refl, Scopes, Widened, widened_refl, Onward, onward_refl, onward_trans}
use Rattle.xmp_fits.proofs.GoodWorlds.{Own, Good, IsTrueIn}
use Rattle.xmp_fits.proofs.GoodSteps.{onward_stays, good_same, good_declared, get_last}
use Rattle.xmp_fits.proofs.Respected as respected
use Rattle.xmp_fits.proofs.Respected.{Ends, Keeps, Respected, OfScalars, grown, then_keeps}
use Rattle.xmp_fits.proofs.RespectedLines.{OfArrays}

pub record Goes (w v : World) : Type 0 where
  pub onward : Onward w v
  pub good : (own : Own) → Good own w → Good own v

pub goes_refl : (w : World) → Goes w w
goes_refl w = record { onward = onward_refl w; good = λ own g. g }

pub goes_trans : {a b c : World} → Goes a b → Goes b c → Goes a c
goes_trans h k = record { onward = onward_trans h.onward k.onward; good = λ own g. k.good own (h.good own g) }

abbrev pub GoesOn : {A : Type 0} → World → Step A → Type 0
GoesOn w s = Ends (λ a v. Goes w v) s

abbrev pub Kept : {A : Type 0} → Run A → Type 0
Kept run = Keeps Goes run

-- ---- worlds that have more

pub grows : (w : World) (ss : Scopes) (xs : List Array) (ts : List Ty) (m : Mappings) (d : ℕ) (bs : List Broken) →
    Widened w.names.scopes ss → Begins w.names.arrays xs → Begins w.scalars ts → LaterMappings w.mappings m → Begins w.broken bs → Onward w (grown w ss xs ts m d bs)
grows w ss xs ts m d bs hs ha ht hm hb = record {
  later = record {
    given = refl;
    names = record { arrays = ha; parameters = begins_refl (map (λ f. f.parameters) w.names.functions); coarray = refl };
    scalars = ht;
    mappings = hm;
    functions = begins_refl w.functions;
    start = begins_refl w.start;
    broken = hb;
  };
  region = refl;
  signatures = refl;
  functions = refl;
  start = refl;
  scopes = hs;
}

-- One with the same scopes stays good.
pub goes_grown : (w : World) (xs : List Array) (ts : List Ty) (m : Mappings) (d : ℕ) (bs : List Broken) →
    Begins w.names.arrays xs → Begins w.scalars ts → LaterMappings w.mappings m → Begins w.broken bs → Goes w (grown w w.names.scopes xs ts m d bs)
goes_grown w xs ts m d bs ha ht hm hb =
    let o : Onward w (grown w w.names.scopes xs ts m d bs) = grows w w.names.scopes xs ts m d bs (widened_refl w.names.scopes) ha ht hm hb in
    record { onward = o; good = λ own g. good_same own w (grown w w.names.scopes xs ts m d bs) (onward_stays o) refl g }

pub widened_declared : (n : scope.Name) (m : Meaning) (ss : Scopes) → Widened ss (scope.declare n m ss)
widened_declared n m [] = tt
widened_declared n m (s ∷ ss) = (((n, m) ∷ [], refl), refl)

-- One with a declaration that tells true numbers stays good.
pub goes_declared : (w : World) (n : scope.Name) (x : Meaning) (xs : List Array) (ts : List Ty) (m : Mappings) (d : ℕ) (bs : List Broken) →
    Begins w.names.arrays xs → Begins w.scalars ts → LaterMappings w.mappings m → Begins w.broken bs →
    ((own : Own) (k : scope.Name) → IsTrueIn own (grown w (scope.declare n x w.names.scopes) xs ts m d bs) k x) →
    ((k : ℕ) → x ≡ meaning.Array k → bs ≡ [] → is_function w.names.region ≡ true → ⊥) → Goes w (grown w (scope.declare n x w.names.scopes) xs ts m d bs)
goes_declared w n x xs ts m d bs ha ht hm hb new never =
    let v : World = grown w (scope.declare n x w.names.scopes) xs ts m d bs in
    let o : Onward w v = grows w (scope.declare n x w.names.scopes) xs ts m d bs (widened_declared n x w.names.scopes) ha ht hm hb in
    record { onward = o; good = λ own g. good_declared own w v n x (onward_stays o) refl (λ k e. new own k) never g }

-- Only lines and rules.
pub goes_mapped : (w : World) (m : Mappings) (d : ℕ) (bs : List Broken) → LaterMappings w.mappings m → Begins w.broken bs → Goes w (record w { mappings = m; deepest = d; broken = bs })
goes_mapped w m d bs hm hb = goes_grown w w.names.arrays w.scalars m d bs (begins_refl w.names.arrays) (begins_refl w.scalars) hm hb

pub goes_noted : (w : World) (d : ℕ) (bs : List Broken) → Goes w (record w { deepest = d; broken = w.broken ++ bs })
goes_noted w d bs = goes_mapped w w.mappings d (w.broken ++ bs) (mappings_refl w.mappings) (begins_with w.broken bs)

-- ---- the single steps

-- A scalar takes the next slot, and tells its type.
pub scalar_goes : (n : named.Name) (ty : Ty) (w : World) → Goes w (record w {
  names = record w.names { scopes = scope.declare n.text (meaning.Scalar (length w.scalars) ty) w.names.scopes };
  scalars = w.scalars ++ ty ∷ [];
  broken = w.broken ++ unless (not (scope.is_declared_here n.text w.names.scopes || is_reserved n.text)) N2 n.at;
})
scalar_goes n ty w =
    goes_declared w n.text (meaning.Scalar (length w.scalars) ty) w.names.arrays (w.scalars ++ ty ∷ []) w.mappings w.deepest
    (w.broken ++ unless (not (scope.is_declared_here n.text w.names.scopes || is_reserved n.text)) N2 n.at)
    (begins_refl w.names.arrays) (begins_with w.scalars (ty ∷ [])) (mappings_refl w.mappings) (begins_with w.broken _) (λ own k. get_last w.scalars ty) (λ k e. absurd (cc e))

pub going_scalars : OfScalars Goes
going_scalars n ty = record { at = scalar_goes n ty }

one_longer : {A : Type 0} (xs : List A) (x : A) → length xs < length (xs ++ x ∷ [])
one_longer xs x = let e : length (xs ++ x ∷ []) ≡ length xs + 1 = length-append xs (x ∷ []) in omega (arith, e)

abbrev outermost : Region → Scopes → Bool
outermost r ss = nat_lt (length ss) 2 || (is_main r && (length ss == 2))

no_array_here : (bs : List Broken) (r : Region) (at : Place) → bs ++ unless (not (is_function r)) N5 at ≡ [] → is_function r ≡ true → ⊥
no_array_here bs region.File at h e = cc e
no_array_here bs region.Main at h e = cc e
no_array_here bs region.Function at h e = absurd (full (right_none bs _ h))
  where
    full : {b : Broken} → b ∷ [] ≡ [] → ⊥
    full h = cc

begins_four : {A : Type 0} (xs a b c d : List A) → Begins xs ((((xs ++ a) ++ b) ++ c) ++ d)
begins_four xs a b c d = begins_trans (begins_trans (begins_trans (begins_with xs a) (begins_with (xs ++ a) b)) (begins_with ((xs ++ a) ++ b) c)) (begins_with (((xs ++ a) ++ b) ++ c) d)

-- An array takes the next number, and its name tells it.
pub going_arrays : OfArrays Goes
going_arrays ty n extents coarray values = record {
  at = λ w.
      goes_declared w n.text (meaning.Array (length w.names.arrays)) (w.names.arrays ++ record { ty = ty; extents = map (λ t. extent_of t.value) values; coarray = coarray; at = n.at } ∷ []) w.scalars w.mappings w.deepest
      ((((w.broken ++ unless (not (scope.is_declared_here n.text w.names.scopes || is_reserved n.text)) N2 n.at)
      ++ unless (list_all (λ t. extent_right t.value) values && nat_le (length extents) 3) N8 n.at)
      ++ unless (outermost w.names.region (scope.declare n.text (meaning.Array (length w.names.arrays)) w.names.scopes)) N8 n.at)
      ++ unless (not (is_function w.names.region)) N5 n.at)
      (begins_with w.names.arrays _) (begins_refl w.scalars) (mappings_refl w.mappings) (begins_four w.broken _ _ _ _) (λ own k. one_longer w.names.arrays _)
      (λ k e h r. no_array_here _ w.names.region n.at h r);
}

more_nodes : (m : Mappings) (l : NodesLine) → LaterMappings m (record m { nodes = m.nodes ++ l ∷ [] })
more_nodes m l = record { nodes = begins_with m.nodes (l ∷ []); templates = begins_refl m.templates; distributions = begins_refl m.distributions; aligns = begins_refl m.aligns; shadows = begins_refl m.shadows; loops = begins_refl m.loops }

more_templates : (m : Mappings) (l : TemplateLine) → LaterMappings m (record m { templates = m.templates ++ l ∷ [] })
more_templates m l = record { nodes = begins_refl m.nodes; templates = begins_with m.templates (l ∷ []); distributions = begins_refl m.distributions; aligns = begins_refl m.aligns; shadows = begins_refl m.shadows; loops = begins_refl m.loops }

nodes_goes : (l : NodesLine) (n : named.Name) → Kept (lines.nodes_line l n)
nodes_goes l n = record {
  at = λ w.
      goes_declared w n.text (meaning.Nodes (length w.mappings.nodes)) w.names.arrays w.scalars (record w.mappings { nodes = w.mappings.nodes ++ l ∷ [] }) w.deepest
      (w.broken ++ unless (not (scope.is_declared_here n.text w.names.scopes || is_reserved n.text)) N2 n.at)
      (begins_refl w.names.arrays) (begins_refl w.scalars) (more_nodes w.mappings _) (begins_with w.broken _) (λ own k. one_longer w.mappings.nodes _) (λ k e. absurd (cc e));
}

template_goes : (at : Place) (n : named.Name) (written : Notation) (dims : List (ℤ × ℤ)) → Kept (lines.template_line at n written dims)
template_goes at n written dims = record {
  at = λ w.
      goes_declared w n.text (meaning.Template (length w.mappings.templates)) w.names.arrays w.scalars (record w.mappings { templates = w.mappings.templates ++ record { at = at; notation = written; lowers = map (λ d. d.0) dims; sizes = map (λ d. d.1) dims } ∷ [] }) w.deepest
      (w.broken ++ unless (not (scope.is_declared_here n.text w.names.scopes || is_reserved n.text)) N2 n.at)
      (begins_refl w.names.arrays) (begins_refl w.scalars) (more_templates w.mappings _) (begins_with w.broken _) (λ own k. one_longer w.mappings.templates _) (λ k e. absurd (cc e));
}

pub going : Respected Goes
going = record { same = goes_refl; then = goes_trans; mapped = goes_mapped; nodes = nodes_goes; template = template_goes }

abbrev pub Going : Type 0 → Type 0
Going A = respected.Going going A

pub goes_then : {A B : Type 0} (w : World) (s : Step A) (f : A → Run B) → GoesOn w s → ((a : A) → Kept (f a)) → GoesOn w (and_then s f)
goes_then w s f h k = then_keeps going w s f h k
