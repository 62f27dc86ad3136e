-- What is made of an operation fits where its operands do.
use Rattle.std.proofs.Common.{◌≡◌, ◌∙◌, sym, ap, refl, subst, ◌++◌, ◌∷◌, [], ◌||◌, ℤ, pos, negsuc, Bool, true, false, List, Some}
use Rattle.std.specs.Prelude.{⊤}
use Rattle.std.specs.List.{AllByRecursion}
use Rattle.xmp_base.specs.declared.place.Place.{Place}
use Rattle.xmp_num.specs.declared.types.Ty.{Ty}
use Rattle.xmp_num.specs.declared.types.Ty.TheVariants.{Int, Long}
use Rattle.xmp_num.specs.declared.types.BinOp.{BinOp}
use Rattle.xmp_num.specs.declared.types.BinOp.TheVariants as op
use Rattle.xmp_num.specs.Arithmetic.{wrap}
use Rattle.xmp_lex.specs.declared.token.Mark.{Mark}
use Rattle.xmp_lex.specs.declared.token.Mark.TheVariants as m
use Rattle.xmp_prog.specs.declared.expressions.Expr.{Expr}
use Rattle.xmp_prog.specs.declared.expressions.Expr.TheVariants as e
use Rattle.xmp_prog.specs.declared.parts.ProgParts.{ProgParts}
use Rattle.xmp_prog.specs.Numbers.{same_type, lies_in}
use Rattle.xmp_prog.specs.Terms.{result_of}
use Rattle.xmp_prog.specs.Tests.{is_shift, right_fits}
use Rattle.xmp_syntax.specs.declared.parts.Link.{Link}
use Rattle.xmp_names.specs.declared.names.Environment.{Environment}
use Rattle.xmp_names.specs.declared.rules.Notes.{Notes}
use Rattle.xmp_names.specs.declared.operators.Operator.{Operator}
use Rattle.xmp_names.specs.declared.operators.Operator.TheVariants.{Arithmetic, Compare, Shift, Both, Either}
use Rattle.xmp_names.specs.declared.typed.Value.{Value}
use Rattle.xmp_names.specs.declared.typed.Value.TheVariants.{Named, Trapping, Known}
use Rattle.xmp_names.specs.declared.typed.Typed.{Typed}
use Rattle.xmp_names.specs.declared.typed.Operand.{Operand}
use Rattle.xmp_names.specs.Rules.{joined}
use Rattle.xmp_names.specs.Typing.{operator_of, joint, value_type, binary_value, both_value, either_value, converted, chosen_value, convert, as_type, operand, typed, number, arithmetic, compare, shift, operator, binary, unary, cast, chosen, choose}
use Rattle.xmp_names.specs.Expressions.{chain}
use Rattle.xmp_parts.proofs.Unbroken.{left_none, right_none}
use Rattle.xmp_fits.proofs.ValuesLie.{Lies, wrap_lies, binary_lies, widened, converted_lies, both_lies, either_lies, chosen_lies}
use Rattle.xmp_fits.proofs.TermsFit.{ExprFits}
use Rattle.xmp_fits.proofs.TermForms.{same_itself, fits_const, fits_binary, fits_both, fits_either, fits_choose, fits_convert}

-- A value that is known is what is made.
abbrev pub IsConst : Ty → Expr → Value → Type 0
IsConst ty made (Known v) = made ≡ e.Const v ty
IsConst ty made Named = ⊤
IsConst ty made Trapping = ⊤

-- What is made has the type that is noted, all its terms pass, and a value that is known lies in the type and is what is made.
pub record Fits (env : Environment) (p : ProgParts) (x : Operand) : Type 0 where
  pub ty : Ty
  pub typed : x.ty ≡ Some ty
  pub fits : ExprFits env p ty x.made
  pub lies : Lies ty x.value
  pub constant : IsConst ty x.made x.value

-- The same of an expression in which no rule breaks.
abbrev pub Right : Environment → ProgParts → Typed → Type 0
Right env p t = t.notes.broken ≡ [] → Fits env p t.operand

-- An operator that a mark may be: what its result has as type.
abbrev pub IsMark : Operator → Type 0
IsMark (Arithmetic o) = (ty : Ty) → result_of o ty ≡ ty
IsMark (Compare o) = (ty : Ty) → result_of o ty ≡ Int
IsMark (Shift o) = (is_shift o ≡ true) × ((ty : Ty) → result_of o ty ≡ ty)
IsMark Both = ⊤
IsMark Either = ⊤

pub is_mark : (k : Mark) → IsMark (operator_of k)
is_mark m.Plus = λ ty. refl
is_mark m.Minus = λ ty. refl
is_mark m.Star = λ ty. refl
is_mark m.Slash = λ ty. refl
is_mark m.Percent = λ ty. refl
is_mark m.And = λ ty. refl
is_mark m.Or = λ ty. refl
is_mark m.Xor = λ ty. refl
is_mark m.ShiftLeft = (refl, λ ty. refl)
is_mark m.ShiftRight = (refl, λ ty. refl)
is_mark m.Less = λ ty. refl
is_mark m.LessEqual = λ ty. refl
is_mark m.Greater = λ ty. refl
is_mark m.GreaterEqual = λ ty. refl
is_mark m.Equal = λ ty. refl
is_mark m.Differ = λ ty. refl
is_mark m.AndAnd = tt
is_mark _ = tt

pub of_same : (o : BinOp) (ty : Ty) → right_fits o ty ty ≡ true
of_same o ty = at (is_shift o)
  where
    at : (b : Bool) → (b || same_type ty ty) ≡ true
    at true = refl
    at false = same_itself ty

-- The common type of two, and the values of each in it.
record Common (s t : Ty) : Type 0 where
  ty : Ty
  is : joint (Some s) (Some t) ≡ Some ty
  left : (v : Value) → Lies s v → Lies ty v
  right : (v : Value) → Lies t v → Lies ty v

common : (s t : Ty) → Common s t
common Int Int = record { ty = Int; is = refl; left = λ v h. h; right = λ v h. h }
common Int Long = record { ty = Long; is = refl; left = widened; right = λ v h. h }
common Long Int = record { ty = Long; is = refl; left = λ v h. h; right = widened }
common Long Long = record { ty = Long; is = refl; left = λ v h. h; right = λ v h. h }

module _ (env : Environment) (p : ProgParts) where
  -- ---- conversions

  convert_fits : (s ty : Ty) (made : Expr) (v : Value) → ExprFits env p s made → ExprFits env p ty (convert ty made v)
  convert_fits s ty made (Known v) f = fits_const env p ty (wrap ty v) (wrap_lies ty v)
  convert_fits s ty made Named f = fits_convert env p s ty made f
  convert_fits s ty made Trapping f = fits_convert env p s ty made f

  as_type_fits : (s ty : Ty) (made : Expr) (v : Value) → ExprFits env p s made → ExprFits env p ty (as_type ty made (Some s) v)
  as_type_fits Int Int made v f = f
  as_type_fits Int Long made v f = convert_fits Int Long made v f
  as_type_fits Long Int made v f = convert_fits Long Int made v f
  as_type_fits Long Long made v f = f

  pub operand_fits : (ty : Ty) (x : Operand) → Fits env p x → ExprFits env p ty (operand ty x)
  operand_fits ty x f = subst (λ o. ExprFits env p ty (as_type ty x.made o x.value)) (sym f.typed) (as_type_fits f.ty ty x.made x.value f.fits)

  -- ---- operations

  finished : (ty : Ty) (v : Value) (made : Expr) (notes : Notes) → ExprFits env p ty made → Lies ty v → Fits env p (typed (Some ty) v made notes).operand
  finished ty (Known v) made notes f h = record { ty = ty; typed = refl; fits = fits_const env p ty v h; lies = h; constant = refl }
  finished ty Named made notes f h = record { ty = ty; typed = refl; fits = f; lies = tt; constant = tt }
  finished ty Trapping made notes f h = record { ty = ty; typed = refl; fits = f; lies = tt; constant = tt }

  of_any : (o : BinOp) (s t : Ty) → is_shift o ≡ true → right_fits o s t ≡ true
  of_any o s t h = ap (λ b. b || same_type s t) h

  two : (o : BinOp) (ty r : Ty) (at : Place) (a b : Operand) → result_of o ty ≡ r → Fits env p a → Fits env p b → ExprFits env p r (e.Binary o ty (operand ty a) (operand ty b) at)
  two o ty r at a b i f g = subst (λ t. ExprFits env p t (e.Binary o ty (operand ty a) (operand ty b) at)) i
      (fits_binary env p ty ty ty o (operand ty a) (operand ty b) at (same_itself ty) (of_same o ty) (operand_fits ty a f) (operand_fits ty b g))

  two_lie : (o : BinOp) (s t r : Ty) (c : Common s t) (a b : Value) → result_of o c.ty ≡ r → Lies s a → Lies t b → Lies r (binary_value o c.ty a b)
  two_lie o s t r c a b i f g = subst (λ u. Lies u (binary_value o c.ty a b)) i (binary_lies o c.ty c.ty a b (λ h. refl) (c.left a f) (c.right b g))

  arithmetic_fits : (o : BinOp) (at : Place) (a b : Operand) (notes : Notes) → ((ty : Ty) → result_of o ty ≡ ty) → Fits env p a → Fits env p b → Fits env p (arithmetic o at a b notes).operand
  arithmetic_fits o at a b notes i f g =
      let c = common f.ty g.ty in
      let j : joint a.ty b.ty ≡ Some c.ty = ap (λ t. joint t b.ty) f.typed ∙ (ap (joint (Some f.ty)) g.typed ∙ c.is) in
      subst (λ u. Fits env p (typed u (binary_value o (value_type u) a.value b.value) (e.Binary o (value_type u) (operand (value_type u) a) (operand (value_type u) b) at) notes).operand) (sym j)
      (finished c.ty (binary_value o c.ty a.value b.value) _ notes (two o c.ty c.ty at a b (i c.ty) f g) (two_lie o f.ty g.ty c.ty c a.value b.value (i c.ty) f.lies g.lies))

  compare_fits : (o : BinOp) (at : Place) (a b : Operand) (notes : Notes) → ((ty : Ty) → result_of o ty ≡ Int) → Fits env p a → Fits env p b → Fits env p (compare o at a b notes).operand
  compare_fits o at a b notes i f g =
      let c = common f.ty g.ty in
      let j : joint a.ty b.ty ≡ Some c.ty = ap (λ t. joint t b.ty) f.typed ∙ (ap (joint (Some f.ty)) g.typed ∙ c.is) in
      subst (λ u. Fits env p (typed (Some Int) (binary_value o (value_type u) a.value b.value) (e.Binary o (value_type u) (operand (value_type u) a) (operand (value_type u) b) at) notes).operand) (sym j)
      (finished Int (binary_value o c.ty a.value b.value) _ notes (two o c.ty Int at a b (i c.ty) f g) (two_lie o f.ty g.ty Int c a.value b.value (i c.ty) f.lies g.lies))

  both_ways : (b : Bool) → b ≡ true → b ≡ false → ⊥
  both_ways b h k = cc

  shift_fits : (o : BinOp) (at : Place) (a b : Operand) (notes : Notes) → is_shift o ≡ true → ((ty : Ty) → result_of o ty ≡ ty) → Fits env p a → Fits env p b → Fits env p (shift o at a b notes).operand
  shift_fits o at a b notes h i f g =
      subst (λ u. Fits env p (typed u (binary_value o (value_type u) a.value b.value) (e.Binary o (value_type u) a.made b.made at) notes).operand) (sym f.typed)
      (finished f.ty (binary_value o f.ty a.value b.value) _ notes
      (subst (λ t. ExprFits env p t (e.Binary o f.ty a.made b.made at)) (i f.ty) (fits_binary env p f.ty g.ty f.ty o a.made b.made at (same_itself f.ty) (of_any o f.ty g.ty h) f.fits g.fits))
      (subst (λ t. Lies t (binary_value o f.ty a.value b.value)) (i f.ty) (binary_lies o f.ty g.ty a.value b.value (λ k. absurd (both_ways (is_shift o) h k)) f.lies g.lies)))

  operator_fits : (o : Operator) (at : Place) (a b : Operand) (notes : Notes) → IsMark o → Fits env p a → Fits env p b → Fits env p (operator o at a b notes).operand
  operator_fits (Arithmetic o) at a b notes h f g = arithmetic_fits o at a b notes h f g
  operator_fits (Compare o) at a b notes h f g = compare_fits o at a b notes h f g
  operator_fits (Shift o) at a b notes h f g = shift_fits o at a b notes h.0 h.1 f g
  operator_fits Both at a b notes h f g = finished Int (both_value a.value b.value) _ notes (fits_both env p f.ty g.ty a.made b.made f.fits g.fits) (both_lies a.value b.value)
  operator_fits Either at a b notes h f g = finished Int (either_value a.value b.value) _ notes (fits_either env p f.ty g.ty a.made b.made f.fits g.fits) (either_lies a.value b.value)

  -- the notes of an operation are its operands'
  operator_notes : (o : Operator) (at : Place) (a b : Operand) (notes : Notes) → (operator o at a b notes).notes ≡ notes
  operator_notes (Arithmetic o) at a b notes = refl
  operator_notes (Compare o) at a b notes = refl
  operator_notes (Shift o) at a b notes = refl
  operator_notes Both at a b notes = refl
  operator_notes Either at a b notes = refl

  pub binary_right : (o : Operator) (at : Place) (a b : Typed) → IsMark o → Right env p a → Right env p b → Right env p (binary o at a b)
  binary_right o at a b h f g n =
      let both : a.notes.broken ++ b.notes.broken ≡ [] = sym (ap (λ x. x.broken) (operator_notes o at a.operand b.operand (joined a.notes b.notes))) ∙ n in
      operator_fits o at a.operand b.operand (joined a.notes b.notes) h (f (left_none a.notes.broken b.notes.broken both)) (g (right_none a.notes.broken b.notes.broken both))

  pub number_right : (v : ℤ) (ty : Ty) → lies_in ty v ≡ true → Right env p (number v ty)
  number_right v ty h n = record { ty = ty; typed = refl; fits = fits_const env p ty v h; lies = h; constant = refl }

  pub unary_right : (k : Mark) (at : Place) (x : Typed) → Right env p x → Right env p (unary k at x)
  unary_right m.Minus at x f = binary_right (Arithmetic op.Sub) at (number (pos 0) Int) x (λ ty. refl) (number_right (pos 0) Int refl) f
  unary_right m.Tilde at x f = binary_right (Arithmetic op.Xor) at x (number (negsuc 0) Int) (λ ty. refl) f (number_right (negsuc 0) Int refl)
  unary_right m.Bang at x f = binary_right (Compare op.Equal) at x (number (pos 0) Int) (λ ty. refl) f (number_right (pos 0) Int refl)
  unary_right _ at x f = f

  cast_is : (ty : Ty) (made : Expr) (v : Value) → IsConst ty (convert ty made v) (converted ty v)
  cast_is ty made (Known v) = refl
  cast_is ty made Named = tt
  cast_is ty made Trapping = tt

  pub cast_right : (ty : Ty) (x : Typed) → Right env p x → Right env p (cast ty x)
  cast_right ty x f n =
      let g = f n in
      record { ty = ty; typed = refl; fits = convert_fits g.ty ty x.operand.made x.operand.value g.fits; lies = converted_lies ty x.operand.value; constant = cast_is ty x.operand.made x.operand.value }

  chosen_fits : (c : Operand) (a b : Operand) (notes : Notes) → Fits env p c → Fits env p a → Fits env p b → Fits env p (chosen c a b notes).operand
  chosen_fits c a b notes f g h =
      let k = common g.ty h.ty in
      let j : joint a.ty b.ty ≡ Some k.ty = ap (λ t. joint t b.ty) g.typed ∙ (ap (joint (Some g.ty)) h.typed ∙ k.is) in
      subst (λ u. Fits env p (typed u (chosen_value (value_type u) c.value a.value b.value) (e.Choose c.made (operand (value_type u) a) (operand (value_type u) b)) notes).operand) (sym j)
      (finished k.ty (chosen_value k.ty c.value a.value b.value) _ notes
      (fits_choose env p f.ty k.ty c.made (operand k.ty a) (operand k.ty b) f.fits (operand_fits k.ty a g) (operand_fits k.ty b h)) (chosen_lies k.ty c.value a.value b.value))

  pub choose_right : (c a b : Typed) → Right env p c → Right env p a → Right env p b → Right env p (choose c a b)
  choose_right c a b f g h n =
      let ca : c.notes.broken ++ a.notes.broken ≡ [] = left_none (c.notes.broken ++ a.notes.broken) b.notes.broken n in
      chosen_fits c.operand a.operand b.operand (joined (joined c.notes a.notes) b.notes) (f (left_none c.notes.broken a.notes.broken ca)) (g (right_none c.notes.broken a.notes.broken ca)) (h (right_none (c.notes.broken ++ a.notes.broken) b.notes.broken n))

  pub chain_right : (x : Typed) (ls : List (Link Typed)) → Right env p x → AllByRecursion (λ l. Right env p l.right) ls → Right env p (chain x ls)
  chain_right x [] f g = f
  chain_right x (l ∷ ls) f g = chain_right (binary (operator_of l.operator.what) l.operator.at x l.right) ls (binary_right (operator_of l.operator.what) l.operator.at x l.right (is_mark l.operator.what) f g.0) g.1
