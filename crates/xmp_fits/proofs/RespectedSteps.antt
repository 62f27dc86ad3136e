-- The single steps of the walk respect a relation that their facts respect.
use Rattle.std.proofs.Common.{◌++◌, ℕ, List, Bool, false, Option, Some, None, map}
use Rattle.std.specs.Prelude.{⊤, ℤ, not, is_some}
use Rattle.xmp_base.specs.declared.place.Place.{Place}
use Rattle.xmp_num.specs.declared.types.Ty.{Ty}
use Rattle.xmp_syntax.specs.declared.parts.Name as named
use Rattle.xmp_syntax.specs.declared.parts.Call.{Call}
use Rattle.xmp_syntax.specs.declared.parts.Next.{Next}
use Rattle.xmp_syntax.specs.declared.parts.Reference.{Reference}
use Rattle.xmp_syntax.specs.declared.expression.Expr.{Expr}
use Rattle.xmp_scopes.specs.Names as scope
use Rattle.xmp_names.specs.declared.names.Region.{Region}
use Rattle.xmp_names.specs.declared.names.Meaning.{Meaning}
use Rattle.xmp_names.specs.declared.mappings.Mappings.{Mappings}
use Rattle.xmp_names.specs.declared.rules.Rule.{Rule}
use Rattle.xmp_names.specs.declared.rules.Broken.{Broken}
use Rattle.xmp_names.specs.declared.rules.Notes.{Notes}
use Rattle.xmp_names.specs.declared.typed.Operand.{Operand}
use Rattle.xmp_names.specs.declared.typed.Parts.{Parts}
use Rattle.xmp_names.specs.declared.world.World.{World}
use Rattle.xmp_names.specs.Rules.{unless, greater}
use Rattle.xmp_names.specs.Expressions.{expr_of, reference_of, call, arguments_of, each_next, next_of, no_parts, is_function, may_name}
use Rattle.xmp_names.specs.Walk as walk
use Rattle.xmp_names.specs.Walk.{first_of_two, is_outermost}
use Rattle.xmp_names.specs.declared.rules.Rule.TheVariants.{N1, N3, N4, N5, N8}
use Rattle.xmp_fits.proofs.Laters.{begins_refl, begins_with, LaterMappings, mappings_refl}
use Rattle.xmp_fits.proofs.Respected.{Keeps, Respected, OfScalars, Going, ◌>>=◌, pure}

pub with_first : (m : Mappings) (at : Option Place) → LaterMappings m (record m { first_directive = at })
with_first m at = record {
  nodes = begins_refl m.nodes;
  templates = begins_refl m.templates;
  distributions = begins_refl m.distributions;
  aligns = begins_refl m.aligns;
  shadows = begins_refl m.shadows;
  loops = begins_refl m.loops;
}

module _ {K : World → World → Type 0} (R : Respected K) where
  pub noted_keeps : (w : World) (d : ℕ) (bs : List Broken) → K w (record w { deepest = d; broken = w.broken ++ bs })
  noted_keeps w d bs = R.mapped w w.mappings d (w.broken ++ bs) (mappings_refl w.mappings) (begins_with w.broken bs)

  abbrev pub judge : Bool → Rule → Place → Going R ⊤
  judge test rule at = record { run = walk.judge test rule at; kept = record { at = λ w. noted_keeps w w.deepest (unless test rule at) } }

  -- What stands in a world is asked.
  abbrev pub asked : {A : Type 0} → (World → A) → Going R A
  asked f = record { run = λ w. walk.Gave (f w) w; kept = record { at = R.same } }

  abbrev pub judged : (World → Bool) → Rule → Place → Going R ⊤
  judged test rule at = record { run = λ w. walk.judge (test w) rule at w; kept = record { at = λ w. noted_keeps w w.deepest (unless (test w) rule at) } }

  -- An operand, and what is noted of it.
  abbrev pub noted : {A : Type 0} → (World → Notes) → (World → A) → Going R A
  noted notes made = record {
    run = λ w. walk.Gave (made w) (record w { deepest = greater w.deepest (notes w).deepest; broken = w.broken ++ (notes w).broken });
    kept = record { at = λ w. noted_keeps w (greater w.deepest (notes w).deepest) (notes w).broken };
  }

  abbrev pub region_of : Going R Region
  region_of = asked (λ w. w.names.region)

  abbrev pub typed : Expr → Going R Operand
  typed x = record { run = walk.typed x; kept = record { at = λ w. noted_keeps w (greater w.deepest (expr_of w.names x).notes.deepest) (expr_of w.names x).notes.broken } }

  abbrev pub typed_reference : Reference Expr → Going R Operand
  typed_reference r = record { run = walk.typed_reference r; kept = record { at = λ w. noted_keeps w (greater w.deepest (reference_of w.names r).notes.deepest) (reference_of w.names r).notes.broken } }

  abbrev pub typed_call : Call Expr → Going R Operand
  typed_call c = record {
    run = walk.typed_call c;
    kept = record {
      at = λ w.
          noted_keeps w (greater w.deepest (call w.names c.name (arguments_of w.names c.arguments.item)).notes.deepest) (call w.names c.name (arguments_of w.names c.arguments.item)).notes.broken;
    };
  }

  abbrev pub typed_all : List (Next Expr) → Going R Parts
  typed_all es = record {
    run = walk.typed_all es;
    kept = record {
      at = λ w.
          noted_keeps w (greater w.deepest (each_next no_parts (map (next_of w.names) es)).notes.deepest) (each_next no_parts (map (next_of w.names) es)).notes.broken;
    };
  }

  abbrev pub typed_constant : Expr → Going R Operand
  typed_constant x = do
    t ← typed x
    _ ← judge (walk.is_known t.value) N4 (walk.first_place x)
    pure R t

  abbrev pub constant : Expr → Going R ℤ
  constant x = do
    t ← typed_constant x
    pure R (walk.value_of t.value)

  abbrev pub declare_scalar : OfScalars K → named.Name → Ty → Going R ℕ
  declare_scalar s n ty = record { run = walk.declare_scalar n ty; kept = s n ty }

  abbrev pub meaning_of : named.Name → Going R (Option Meaning)
  meaning_of n = record { run = walk.meaning_of n; kept = record { at = λ w. noted_keeps w w.deepest (unless (may_name w.names n (scope.nearest n.text w.names.scopes)) N5 n.at) } }

  pub kind_kept : {A : Type 0} (kind : Meaning → Option A) (n : named.Name) (m : Option Meaning) → Keeps K (walk.of_kind kind n m)
  kind_kept kind n None = (do
    _ ← judge false N1 n.at
    pure R None).kept
  kind_kept kind n (Some m) = (do
    _ ← judge (is_some (kind m)) N3 n.at
    pure R (kind m)).kept

  abbrev pub of_kind : {A : Type 0} → (Meaning → Option A) → named.Name → Option Meaning → Going R (Option A)
  of_kind kind n m = record { run = walk.of_kind kind n m; kept = kind_kept kind n m }

  abbrev pub name_of : {A : Type 0} → (Meaning → Option A) → named.Name → Going R (Option A)
  name_of kind n = do
    m ← meaning_of n
    of_kind kind n m

  abbrev pub directive_at : Place → Going R ⊤
  directive_at at = record {
    run = walk.directive_at at;
    kept = record {
      at = λ w.
          R.mapped w (record w.mappings { first_directive = first_of_two w.mappings.first_directive at }) w.deepest (w.broken ++ unless (not (is_function w.names.region)) N5 at)
          (with_first w.mappings _) (begins_with w.broken _);
    };
  }

  abbrev pub stands_outermost : Place → Going R ⊤
  stands_outermost at = judged is_outermost N8 at

  abbrev pub not_in_function : Place → Going R ⊤
  not_in_function at = judged (λ w. not (is_function w.names.region)) N5 at
