-- Declarations and parts of mapping lines respect a relation that the single steps respect.
use Rattle.std.proofs.Common.{◌++◌, ◌∷◌, [], ℕ, List, Bool, Option, Some, None, length, map}
use Rattle.std.specs.Prelude.{⊤, ℤ, pos, ◌&&◌, ◌||◌, ◌==◌, slice_get, is_some, nat_le}
use Rattle.std.specs.List.{list_all}
use Rattle.xmp_base.specs.declared.place.Place.{Place}
use Rattle.xmp_num.specs.declared.types.Ty.{Ty}
use Rattle.xmp_prog.specs.declared.expressions.Expr as prog
use Rattle.xmp_prog.specs.declared.statements.Stmt as made
use Rattle.xmp_prog.specs.declared.statements.Stmt.TheVariants as m
use Rattle.xmp_prog.specs.declared.statements.Plain.TheVariants as p
use Rattle.xmp_syntax.specs.declared.parts.Name as named
use Rattle.xmp_syntax.specs.declared.parts.Placed.{Placed}
use Rattle.xmp_syntax.specs.declared.expression.Expr.{Expr}
use Rattle.xmp_syntax.specs.declared.declaration.Declarator.{Declarator}
use Rattle.xmp_syntax.specs.declared.declaration.Declarator.TheVariants as declarator
use Rattle.xmp_syntax.specs.declared.declaration.Declaration.{Declaration}
use Rattle.xmp_lex.specs.declared.token.Mark.{Mark}
use Rattle.xmp_names.specs.declared.names.Meaning.TheVariants.{Array}
use Rattle.xmp_names.specs.declared.rules.Rule.TheVariants.{N3, N8}
use Rattle.xmp_names.specs.declared.typed.Operand.{Operand}
use Rattle.xmp_names.specs.declared.world.World.{World}
use Rattle.xmp_names.specs.Walk as walk
use Rattle.xmp_names.specs.Walk.{Run, is_main, is_reserved, an_array, a_nodes, a_template}
use Rattle.xmp_walk.specs.Declarations as declarations
use Rattle.xmp_names.specs.Lists.{listed, inner}
use Rattle.xmp_walk.specs.Declarations.{type_of, extent_of, extent_right}
use Rattle.xmp_directives.specs.Directives as directives
use Rattle.xmp_names.specs.declared.mappings.Notation.{Notation}
use Rattle.xmp_directives.specs.Directives.{signed, lowers_in, nodes_take, template_takes}
use Rattle.xmp_names.specs.Sizes.{limited, extents_in}
use Rattle.xmp_directives.specs.MappingLines as lines
use Rattle.xmp_directives.specs.MappingLines.{Dummies, has_dummy, line_of}
use Rattle.xmp_fits.proofs.Respected.{Keeps, Respected, OfScalars, Going, ◌>>=◌, pure, each, then_keeps}
use Rattle.xmp_fits.proofs.RespectedSteps.{asked, judged, typed, typed_constant, constant, declare_scalar}

-- ---- declarations

-- An array takes the next number, and its name tells it. No function but main has one.
abbrev pub array_rest : Ty → named.Name → List Expr → Bool → List Operand → Run ⊤
array_rest ty n extents coarray values = walk.◌>>=◌ (declarations.new_array ty (map (λ t. extent_of t.value) values) coarray n.at) (λ number.
    walk.◌>>=◌ (walk.declare n (Array number)) (λ _. walk.◌>>=◌ (walk.judge (list_all (λ t. extent_right t.value) values && nat_le (length extents) 3) N8 n.at) (λ _.
    walk.◌>>=◌ (walk.stands_outermost n.at) (λ _. walk.not_in_function n.at))))

-- A relation that the declaration of an array respects.
abbrev pub OfArrays : (World → World → Type 0) → Type 0
OfArrays K = (ty : Ty) (n : named.Name) (extents : List Expr) (coarray : Bool) (values : List Operand) → Keeps K (array_rest ty n extents coarray values)

module _ {K : World → World → Type 0} (R : Respected K) where
  abbrev pub declare_array : OfArrays K → Ty → named.Name → List Expr → Bool → Going R ⊤
  declare_array a ty n extents coarray = do
    values ← each R (typed_constant R) extents
    record { run = array_rest ty n extents coarray values; kept = a ty n extents coarray values }

  pub array_kept : OfArrays K → (ty : Ty) (n : named.Name) (extents : List Expr) (coarray : Bool) → Keeps K (declarations.declare_array ty n extents coarray)
  array_kept a ty n extents coarray = (declare_array a ty n extents coarray).kept

  pub initialiser_kept : (x : Option (Place × Expr)) → Keeps K (declarations.initialiser x)
  initialiser_kept None = (pure R None).kept
  initialiser_kept (Some x) = (do
    t ← typed R x.1
    pure R (Some t.made)).kept

  abbrev pub initialiser : Option (Place × Expr) → Going R (Option prog.Expr)
  initialiser x = record { run = declarations.initialiser x; kept = initialiser_kept x }

  abbrev pub local_declarator : OfScalars K → OfArrays K → Ty → Declarator → Going R (List made.Stmt)
  local_declarator s a ty (declarator.Scalar n value) = do
    slot ← declare_scalar R s n ty
    first ← initialiser value
    pure R (m.Plain (p.Declare slot first n.at) ∷ [])
  local_declarator s a ty (declarator.Array n extents image) = do
    _ ← declare_array a ty n (inner extents) (is_some image)
    pure R []

  pub declarator_kept : OfScalars K → OfArrays K → (ty : Ty) (d : Declarator) → Keeps K (declarations.local_declarator ty d)
  declarator_kept s a ty (declarator.Scalar n value) = (local_declarator s a ty (declarator.Scalar n value)).kept
  declarator_kept s a ty (declarator.Array n extents image) = (local_declarator s a ty (declarator.Array n extents image)).kept

  pub declarators_kept : OfScalars K → OfArrays K → (ty : Ty) (done : List made.Stmt) (ds : List Declarator) → Keeps K (declarations.local_declarators ty done ds)
  declarators_kept s a ty done [] = record { at = R.same }
  declarators_kept s a ty done (d ∷ ds) = record {
    at = λ w.
        then_keeps R w (declarations.local_declarator ty d w) (λ more. declarations.local_declarators ty (done ++ more) ds) ((declarator_kept s a ty d).at w) (λ more. declarators_kept s a ty (done ++ more) ds);
  }

  pub declaration_kept : OfScalars K → OfArrays K → (done : List made.Stmt) (d : Declaration) → Keeps K (declarations.local_declaration done d)
  declaration_kept s a done d = declarators_kept s a (type_of d.ty) done (listed d.items)

  -- ---- mapping directives

  pub offset_kept : (x : Option (Placed Mark × Expr)) → Keeps K (directives.offset_of x)
  offset_kept None = (pure R (pos 0)).kept
  offset_kept (Some x) = (do
    c ← constant R x.1
    pure R (signed x.0.what (limited c))).kept

  abbrev pub offset_of : Option (Placed Mark × Expr) → Going R ℤ
  offset_of x = record { run = directives.offset_of x; kept = offset_kept x }

  pub template_matched : (t : Option ℕ) (written : Notation) (count : ℕ) (at : Place) → Keeps K (directives.match_template t written count at)
  template_matched None written count at = (pure R tt).kept
  template_matched (Some k) written count at = (judged R (λ w. template_takes written count (slice_get w.mappings.templates k)) N3 at).kept

  abbrev pub match_template : Option ℕ → Notation → ℕ → Place → Going R ⊤
  match_template t written count at = record { run = directives.match_template t written count at; kept = template_matched t written count at }

  pub lowers_kept : (t : Option ℕ) → Keeps K (directives.lowers_of t)
  lowers_kept None = (pure R []).kept
  lowers_kept (Some k) = (asked R (λ w. lowers_in (slice_get w.mappings.templates k))).kept

  abbrev pub lowers_of : Option ℕ → Going R (List ℤ)
  lowers_of t = record { run = directives.lowers_of t; kept = lowers_kept t }

  pub nodes_matched : (k : Option ℕ) (written : Notation) (count : ℕ) (at : Place) → Keeps K (directives.match_nodes k written count at)
  nodes_matched None written count at = (pure R tt).kept
  nodes_matched (Some k) written count at = (judged R (λ w. (count == 0) || nodes_take written count (slice_get w.mappings.nodes k)) N3 at).kept

  abbrev pub match_nodes : Option ℕ → Notation → ℕ → Place → Going R ⊤
  match_nodes k written count at = record { run = directives.match_nodes k written count at; kept = nodes_matched k written count at }

  pub array_matched : (a : Option ℕ) (count : ℕ) (at : Place) → Keeps K (lines.match_array a count at)
  array_matched None count at = (pure R tt).kept
  array_matched (Some k) count at = (judged R (λ w. count == length (extents_in (slice_get w.names.arrays k))) N3 at).kept

  abbrev pub match_array : Option ℕ → ℕ → Place → Going R ⊤
  match_array a count at = record { run = lines.match_array a count at; kept = array_matched a count at }
