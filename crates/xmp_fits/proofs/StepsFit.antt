-- What a step of the walk makes of an expression, of a variable or an element, of a call and of arguments fits, where no rule breaks.
use Rattle.std.proofs.Common.{◌≡◌, refl, ◌++◌, ◌∷◌, [], ◌⊎◌, inl, inr, ℕ, true, List, Option, Some, None, map}
use Rattle.std.specs.Prelude.{slice_get}
use Rattle.std.specs.Option.{option_map}
use Rattle.xmp_base.specs.declared.place.Place.{Place}
use Rattle.xmp_scopes.specs.Names.{nearest}
use Rattle.xmp_prog.specs.declared.expressions.Expr as prog
use Rattle.xmp_prog.specs.declared.expressions.Expr.TheVariants as e
use Rattle.xmp_prog.specs.declared.expressions.Access.{Access, roll-Access}
use Rattle.xmp_prog.specs.declared.parts.ProgParts.{ProgParts}
use Rattle.xmp_syntax.specs.declared.parts.Inside.{Inside}
use Rattle.xmp_syntax.specs.declared.parts.Image.{Image}
use Rattle.xmp_syntax.specs.declared.parts.CommaList.{CommaList}
use Rattle.xmp_syntax.specs.declared.parts.Next.{Next}
use Rattle.xmp_syntax.specs.declared.parts.Reference.{Reference}
use Rattle.xmp_syntax.specs.declared.parts.Call.{Call}
use Rattle.xmp_syntax.specs.declared.expression.Expr.{Expr}
use Rattle.xmp_names.specs.declared.names.Meaning.{Meaning}
use Rattle.xmp_names.specs.declared.names.Meaning.TheVariants.{Scalar, Array, Nodes, Template, Function}
use Rattle.xmp_names.specs.declared.names.Array as array
use Rattle.xmp_names.specs.declared.names.Environment.{Environment}
use Rattle.xmp_names.specs.declared.rules.Notes.{Notes}
use Rattle.xmp_names.specs.declared.rules.Rule.{Rule}
use Rattle.xmp_names.specs.declared.rules.Rule.TheVariants.{N1, N3, N4}
use Rattle.xmp_names.specs.declared.typed.Typed.{Typed}
use Rattle.xmp_names.specs.declared.typed.Parts.{Parts}
use Rattle.xmp_names.specs.declared.world.World.{World}
use Rattle.xmp_names.specs.Rules.{unless}
use Rattle.xmp_names.specs.Expressions.{no_parts, add, each_subscript, each_next, read_as, cell_of, unknown, call, expr_of, inside_of, next_of, reference_of, arguments_of}
use Rattle.xmp_names.specs.Walk.{Run, typed, typed_reference, typed_call, typed_all, typed_constant, is_known, first_place}
use Rattle.xmp_parts.proofs.Unbroken.{left_none, right_none, left_true, right_true, holds}
use Rattle.xmp_fits.proofs.Respected.{Ends}
use Rattle.xmp_fits.proofs.TermsFit.{EachFits}
use Rattle.xmp_fits.proofs.OperandsFit.{Fits, Right}
use Rattle.xmp_fits.proofs.NamesFit.{Tells, PartsRight, add_right, read_right, call_right, ImageRight, full}
use Rattle.xmp_fits.specs.NumbersLie.{numbers_lie, subscripts_lie, image_lies, reference_lies, rest_lies, arguments_lie}
use Rattle.xmp_fits.proofs.TreeNumbers.{expr_right}

-- ---- a variable or an element

-- What is made is a scalar or an element.
abbrev pub IsPlace : prog.Expr → Type 0
IsPlace x = ((slot : ℕ) × (at : Place) × (x ≡ e.Scalar slot at)) ⊎ ((a : Access) × (x ≡ e.Cell a))

unknown_place : (notes : Notes) (rule : Rule) (at : Place) → (unknown notes rule at).notes.broken ≡ [] → IsPlace (unknown notes rule at).operand.made
unknown_place notes rule at n = absurd (full notes.broken (record { rule = rule; at = at }) n)

cell_place : (o : Option array.Array) (k : ℕ) (at : Place) (xs : List prog.Expr) (image : Option prog.Expr) (notes : Notes) → (cell_of o k at xs image notes).notes.broken ≡ [] → IsPlace (cell_of o k at xs image notes).operand.made
cell_place None k at xs image notes n = unknown_place notes N3 at n
cell_place (Some a) k at xs image notes n = inr (roll-Access (record { array = k; subscripts = xs; image = image; at = at }), refl)

read_place : (env : Environment) (meaning : Option Meaning) (at : Place) (xs : List prog.Expr) (image : Option prog.Expr) (notes : Notes) → (read_as env meaning at xs image notes).notes.broken ≡ [] →
    IsPlace (read_as env meaning at xs image notes).operand.made
read_place env (Some (Scalar slot ty)) at xs image notes n = inl (slot, at, refl)
read_place env (Some (Array k)) at xs image notes n = cell_place (slice_get env.arrays k) k at xs image notes n
read_place env (Some (Nodes k)) at xs image notes n = unknown_place notes N3 at n
read_place env (Some (Template k)) at xs image notes n = unknown_place notes N3 at n
read_place env (Some (Function k r)) at xs image notes n = unknown_place notes N3 at n
read_place env None at xs image notes n = unknown_place notes N1 at n

pub reference_place : (env : Environment) (r : Reference Expr) → (reference_of env r).notes.broken ≡ [] → IsPlace (reference_of env r).operand.made
reference_place env r n = read_place env (nearest r.name.text env.scopes) r.name.at _ _ _ n

module _ (env : Environment) (p : ProgParts) (t : Tells env p) where
  -- ---- expressions in a row

  none_right : PartsRight env p no_parts
  none_right n = tt

  subscripts_right : (ds : List (Inside Expr)) (s : Parts) → subscripts_lie ds ≡ true → PartsRight env p s → PartsRight env p (each_subscript s (map (inside_of env) ds))
  subscripts_right [] s n f = f
  subscripts_right (d ∷ ds) s n f =
      subscripts_right ds (add s (expr_of env d.item)) (right_true (numbers_lie d.item) _ n) (add_right env p s (expr_of env d.item) f (expr_right env p t d.item (left_true (numbers_lie d.item) _ n)))

  pub rest_right : (ds : List (Next Expr)) (s : Parts) → rest_lies ds ≡ true → PartsRight env p s → PartsRight env p (each_next s (map (next_of env) ds))
  rest_right [] s n f = f
  rest_right (d ∷ ds) s n f =
      rest_right ds (add s (expr_of env d.item)) (right_true (numbers_lie d.item) _ n) (add_right env p s (expr_of env d.item) f (expr_right env p t d.item (left_true (numbers_lie d.item) _ n)))

  image_right : (i : Option (Image Expr)) → image_lies i ≡ true → ImageRight env p (option_map (λ i. expr_of env i.number.item) i)
  image_right None n = tt
  image_right (Some i) n = expr_right env p t i.number.item n

  pub reference_right : (r : Reference Expr) → reference_lies r ≡ true → Right env p (reference_of env r)
  reference_right r n =
      read_right env p t r.name (each_subscript no_parts (map (inside_of env) r.subscripts)) (option_map (λ i. expr_of env i.number.item) r.image)
      (subscripts_right r.subscripts no_parts (left_true (subscripts_lie r.subscripts) _ n) none_right) (image_right r.image (right_true (subscripts_lie r.subscripts) _ n))

  arguments_right : (l : Option (CommaList Expr)) → arguments_lie l ≡ true → PartsRight env p (arguments_of env l)
  arguments_right None n = none_right
  arguments_right (Some l) n =
      rest_right l.more (add no_parts (expr_of env l.first)) (right_true (numbers_lie l.first) _ n)
      (add_right env p no_parts (expr_of env l.first) none_right (expr_right env p t l.first (left_true (numbers_lie l.first) _ n)))

  pub call_is_right : (c : Call Expr) → arguments_lie c.arguments.item ≡ true → Right env p (call env c.name (arguments_of env c.arguments.item))
  call_is_right c n = call_right env p t c.name (arguments_of env c.arguments.item) (arguments_right c.arguments.item n)

-- ---- steps

-- After a step in which no rule breaks.
abbrev pub Gives : {A : Type 0} → (A → Type 0) → World → Run A → Type 0
Gives P w run = Ends (λ a v. v.broken ≡ [] → P a) (run w)

module _ (p : ProgParts) (w : World) (t : Tells w.names p) where
  pub typed_fits : (x : Expr) → numbers_lie x ≡ true → Gives (Fits w.names p) w (typed x)
  typed_fits x h n = expr_right w.names p t x h (right_none w.broken _ n)

  pub reference_fits : (r : Reference Expr) → reference_lies r ≡ true → Gives (λ x. Fits w.names p x × IsPlace x.made) w (typed_reference r)
  reference_fits r h n = (reference_right w.names p t r h (right_none w.broken _ n), reference_place w.names r (right_none w.broken _ n))

  pub call_fits : (c : Call Expr) → arguments_lie c.arguments.item ≡ true → Gives (Fits w.names p) w (typed_call c)
  call_fits c h n = call_is_right w.names p t c h (right_none w.broken _ n)

  pub all_fit : (es : List (Next Expr)) → rest_lies es ≡ true → Gives (λ q. EachFits w.names p q.types q.made) w (typed_all es)
  all_fit es h n = rest_right w.names p t es no_parts h (λ m. tt) (right_none w.broken _ n)

  -- and where it has to be constant, its value is known
  pub constant_fits : (x : Expr) → numbers_lie x ≡ true → Gives (λ a. Fits w.names p a × (is_known a.value ≡ true)) w (typed_constant x)
  constant_fits x h n =
      let y : Typed = expr_of w.names x in
      let before : w.broken ++ y.notes.broken ≡ [] = left_none (w.broken ++ y.notes.broken) (unless (is_known y.operand.value) N4 (first_place x)) n in
      (expr_right w.names p t x h (right_none w.broken y.notes.broken before), holds (is_known y.operand.value) N4 (first_place x) (right_none (w.broken ++ y.notes.broken) _ n))
