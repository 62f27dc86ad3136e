-- Runs of the walk after which the names mean the same scalars as before: the single steps do but the declaration of a scalar.
use Rattle.std.proofs.Common.{◌≡◌, refl, ◌∙◌, map, sym, ap, subst, ◌⊎◌, inl, inr, ◌++◌, ◌∷◌, [], ℕ, Bool, true, false, List, Some, None, length}
use Rattle.std.specs.List.{list_all}
use Rattle.std.specs.Prelude.{⊤, ℤ, ◌&&◌, nat_le, not, ◌||◌, is_some, if◌then◌else◌}
use Rattle.std.specs.Option.{option_or}
use Rattle.std.proofs.lemmas.Option.{same_Some, none-some}
use Rattle.xmp_base.specs.declared.place.Place.{Place}
use Rattle.xmp_num.specs.declared.types.Ty.{Ty}
use Rattle.xmp_syntax.specs.declared.parts.Name as named
use Rattle.xmp_scopes.specs.Names as scope
use Rattle.xmp_names.specs.declared.mappings.NodesLine.{NodesLine}
use Rattle.xmp_names.specs.declared.mappings.Notation.{Notation}
use Rattle.xmp_names.specs.declared.names.Region.{Region}
use Rattle.xmp_names.specs.declared.names.Meaning.{Meaning}
use Rattle.xmp_names.specs.declared.names.Meaning.TheVariants.{Scalar, Array, Nodes, Template}
use Rattle.xmp_names.specs.declared.names.Environment.{Environment}
use Rattle.xmp_names.specs.declared.names.Array as array
use Rattle.xmp_names.specs.declared.mappings.Mappings.{Mappings}
use Rattle.xmp_names.specs.declared.rules.Rule.TheVariants.{N2, N8}
use Rattle.xmp_names.specs.declared.rules.Broken.{Broken}
use Rattle.xmp_names.specs.declared.world.World.{World}
use Rattle.xmp_names.specs.Rules.{unless}
use Rattle.xmp_walk.specs.Declarations as declarations
use Rattle.xmp_walk.specs.Declarations.{extent_of, extent_right}
use Rattle.xmp_directives.specs.MappingLines as lines
use Rattle.xmp_names.specs.Expressions.{is_function, is_first}
use Rattle.xmp_names.specs.Walk as walk
use Rattle.xmp_names.specs.Walk.{is_reserved}
use Rattle.xmp_fits.proofs.Laters.{Scopes}
use Rattle.xmp_fits.proofs.Respected.{Keeps, Respected, Going, grown, ◌>>=◌}
use Rattle.xmp_fits.proofs.RespectedSteps.{judge, stands_outermost, not_in_function}
use Rattle.xmp_fits.proofs.RespectedLines.{OfArrays}
use Rattle.xmp_fits.proofs.TermsFit.{Seen}

-- ---- which scalars are seen

-- Whether a name of a scalar may be named where it stands.
abbrev pub may_see : Region → Scopes → scope.Name → Bool
may_see r ss k = not (is_function r) || not (is_first (scope.depth_of k ss))

-- Two environments with the same scopes in the same part of the program see the same scalars.
pub seen_as : (e f : Environment) (slot : ℕ) → f.region ≡ e.region → f.scopes ≡ e.scopes → Seen f slot → Seen e slot
seen_as e f slot r ss s = record {
  name = s.name;
  ty = s.ty;
  means = ap (scope.nearest s.name.text) (sym ss) ∙ s.means;
  may = ap (λ x. may_see x e.scopes s.name.text) (sym r) ∙ (ap (λ x. may_see f.region x s.name.text) (sym ss) ∙ s.may);
}

-- What a declaration lets be seen: what it declares, or what was seen before.
pub declared_means : (r : Region) (k n : scope.Name) (x m : Meaning) (ss : Scopes) → scope.nearest k (scope.declare n x ss) ≡ Some m → may_see r (scope.declare n x ss) k ≡ true →
    (x ≡ m) ⊎ ((scope.nearest k ss ≡ Some m) × (may_see r ss k ≡ true))
declared_means r k n x m [] e may = by (scope.is_same k n) e
  where
    by : (b : Bool) → option_or (if b then Some x else None) None ≡ Some m → (x ≡ m) ⊎ ((None ≡ Some m) × (may_see r [] k ≡ true))
    by true e = inl (same_Some x m e)
    by false e = absurd (none-some m e)
declared_means r k n x m (s ∷ ss) e may = by (scope.is_same k n) e may
  where
    by : (b : Bool) → option_or (if b then Some x else scope.in_scope k s) (scope.nearest k ss) ≡ Some m →
        (not (is_function r) || not (is_first (if is_some (if b then Some x else scope.in_scope k s) then Some (length (s ∷ ss)) else scope.depth_of k ss))) ≡ true →
        (x ≡ m) ⊎ ((scope.nearest k (s ∷ ss) ≡ Some m) × (may_see r (s ∷ ss) k ≡ true))
    by true e may = inl (same_Some x m e)
    by false e may = inr (e, may)

pub seen_declared : (e f : Environment) (n : scope.Name) (x : Meaning) (slot : ℕ) → f.region ≡ e.region → f.scopes ≡ scope.declare n x e.scopes → Seen f slot → ((ty : Ty) × (x ≡ Scalar slot ty)) ⊎ Seen e slot
seen_declared e f n x slot r ss s =
    by (declared_means e.region s.name.text n x (Scalar slot s.ty) e.scopes (ap (scope.nearest s.name.text) (sym ss) ∙ s.means)
    (ap (λ y. may_see y (scope.declare n x e.scopes) s.name.text) (sym r) ∙ (ap (λ y. may_see f.region y s.name.text) (sym ss) ∙ s.may)))
  where
    by : (x ≡ Scalar slot s.ty) ⊎ ((scope.nearest s.name.text e.scopes ≡ Some (Scalar slot s.ty)) × (may_see e.region e.scopes s.name.text ≡ true)) → ((ty : Ty) × (x ≡ Scalar slot ty)) ⊎ Seen e slot
    by (inl h) = inl (s.ty, h)
    by (inr h) = inr (record { name = s.name; ty = s.ty; means = h.0; may = h.1 })

-- ---- worlds that see the same scalars

pub record Same (w v : World) : Type 0 where
  pub seen : (slot : ℕ) → Seen v.names slot → Seen w.names slot

pub same_refl : (w : World) → Same w w
same_refl w = record { seen = λ slot s. s }

pub same_trans : {a b c : World} → Same a b → Same b c → Same a c
same_trans h k = record { seen = λ slot s. h.seen slot (k.seen slot s) }

abbrev pub IsNoScalar : Meaning → Type 0
IsNoScalar (Scalar slot ty) = ⊥
IsNoScalar _ = ⊤

pub no_scalar : (x : Meaning) (slot : ℕ) (ty : Ty) → IsNoScalar x → x ≡ Scalar slot ty → ⊥
no_scalar x slot ty h e = subst IsNoScalar e h

-- One more declaration, of no scalar.
same_declared : (w : World) (n : scope.Name) (x : Meaning) (xs : List array.Array) (ts : List Ty) (m : Mappings) (d : ℕ) (bs : List Broken) → IsNoScalar x →
    Same w (grown w (scope.declare n x w.names.scopes) xs ts m d bs)
same_declared w n x xs ts m d bs none = record { seen = λ slot s. by slot (seen_declared w.names (grown w (scope.declare n x w.names.scopes) xs ts m d bs).names n x slot refl refl s) }
  where
    by : (slot : ℕ) → ((ty : Ty) × (x ≡ Scalar slot ty)) ⊎ Seen w.names slot → Seen w.names slot
    by slot (inl h) = absurd (no_scalar x slot h.0 none h.1)
    by slot (inr h) = h

nodes_same : (l : NodesLine) (n : named.Name) → Keeps Same (lines.nodes_line l n)
nodes_same l n = record {
  at = λ w.
      same_declared w n.text (Nodes (length w.mappings.nodes)) w.names.arrays w.scalars (record w.mappings { nodes = w.mappings.nodes ++ l ∷ [] }) w.deepest
      (w.broken ++ unless (not (scope.is_declared_here n.text w.names.scopes || is_reserved n.text)) N2 n.at) tt;
}

template_same : (at : Place) (n : named.Name) (written : Notation) (dims : List (ℤ × ℤ)) → Keeps Same (lines.template_line at n written dims)
template_same at n written dims = record {
  at = λ w.
      same_declared w n.text (Template (length w.mappings.templates)) w.names.arrays w.scalars (record w.mappings { templates = w.mappings.templates ++ record { at = at; notation = written; lowers = map (λ d. d.0) dims; sizes = map (λ d. d.1) dims } ∷ [] }) w.deepest
      (w.broken ++ unless (not (scope.is_declared_here n.text w.names.scopes || is_reserved n.text)) N2 n.at) tt;
}

pub same : Respected Same
same = record { same = same_refl; then = same_trans; mapped = λ w m d bs hm hb. record { seen = λ slot s. s }; nodes = nodes_same; template = template_same }

array_same : (ty : Ty) (extents : List ℕ) (coarray : Bool) (n : named.Name) → Keeps Same (walk.◌>>=◌ (declarations.new_array ty extents coarray n.at) (λ number. walk.declare n (Array number)))
array_same ty extents coarray n = record {
  at = λ w.
      same_declared w n.text (Array (length w.names.arrays)) (w.names.arrays ++ record { ty = ty; extents = extents; coarray = coarray; at = n.at } ∷ []) w.scalars w.mappings w.deepest
      (w.broken ++ unless (not (scope.is_declared_here n.text w.names.scopes || is_reserved n.text)) N2 n.at) tt;
}

abbrev new_array : Ty → List ℕ → Bool → named.Name → Going same ⊤
new_array ty extents coarray n = record { run = walk.◌>>=◌ (declarations.new_array ty extents coarray n.at) (λ number. walk.declare n (Array number)); kept = array_same ty extents coarray n }

pub same_arrays : OfArrays Same
same_arrays ty n extents coarray values = (do
  _ ← new_array ty (map (λ t. extent_of t.value) values) coarray n
  _ ← judge same (list_all (λ t. extent_right t.value) values && nat_le (length extents) 3) N8 n.at
  _ ← stands_outermost same n.at
  not_in_function same n.at).kept
