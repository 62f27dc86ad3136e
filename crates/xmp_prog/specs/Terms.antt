-- The type of an expression, and its terms: the expression itself and each expression in it.
use Rattle.std.specs.Prelude.{ℕ, List, [], ◌∷◌, ◌++◌, map, slice_get, Option, Some, None}
use Rattle.std.specs.List.{flat_map}
use Rattle.std.specs.Option.{unwrap_or, option_map}
use Rattle.xmp_num.specs.declared.types.Ty.{Ty}
use Rattle.xmp_num.specs.declared.types.Ty.TheVariants.{Int}
use Rattle.xmp_num.specs.declared.types.BinOp.{BinOp}
use Rattle.xmp_num.specs.declared.types.BinOp.TheVariants as op
use Rattle.xmp_prog.specs.declared.expressions.Expr.{Expr}
use Rattle.xmp_prog.specs.declared.expressions.Expr.TheOpen.{Expr-F, Access-F}
use Rattle.xmp_prog.specs.declared.expressions.Expr.TheFolds.{fold-Expr, fold-Access}
use Rattle.xmp_prog.specs.declared.expressions.Access.{Access}
use Rattle.xmp_prog.specs.declared.parts.Array.{Array}
use Rattle.xmp_prog.specs.declared.parts.Function.{Function}
use Rattle.xmp_prog.specs.declared.parts.ProgParts.{ProgParts}

-- What an operator gives at operands of a type: a comparison gives int (ISO C11 6.5.8, 6.5.9).
abbrev pub result_of : BinOp → Ty → Ty
result_of op.Less ty = Int
result_of op.LessEq ty = Int
result_of op.Greater ty = Int
result_of op.GreaterEq ty = Int
result_of op.Equal ty = Int
result_of op.Differ ty = Int
result_of _ ty = ty

-- The type of an array's cells, and of a function's result; int where there is none.
abbrev pub array_type : Option Array → Ty
array_type None = Int
array_type (Some a) = a.ty

abbrev pub call_type : Option Function → Ty
call_type None = Int
call_type (Some f) = f.result

-- The type of an expression whose operands have these types (ISO C11 6.5).
abbrev pub type_step : ProgParts → Expr-F Ty Ty → Ty
type_step p (Expr-F.Const v ty) = ty
type_step p (Expr-F.Scalar slot at) = unwrap_or (slice_get p.scalars slot) Int
type_step p (Expr-F.Cell a) = a
type_step p (Expr-F.Binary op ty a b at) = result_of op ty
type_step p (Expr-F.Both a b) = Int
type_step p (Expr-F.Either a b) = Int
type_step p (Expr-F.Choose a b c) = b
type_step p (Expr-F.Convert ty a) = ty
type_step p (Expr-F.Call function arguments at) = call_type (slice_get p.functions function)
type_step p Expr-F.Node = Int
type_step p Expr-F.Nodes = Int

-- A term: an expression or an element of an array, with the types of its operands in their place.
pub data Term : Type 0 where
  Of : Expr-F Ty Ty → Term
  Element : Access-F Ty Ty → Term

-- An expression by its type and its terms.
pub record Typed : Type 0 where
  pub ty : Ty
  pub terms : List Term

-- The expression with the types of its operands in their place, and the terms of its operands.
abbrev pub types : Expr-F Typed Typed → Expr-F Ty Ty
types (Expr-F.Const v ty) = Expr-F.Const v ty
types (Expr-F.Scalar slot at) = Expr-F.Scalar slot at
types (Expr-F.Cell a) = Expr-F.Cell a.ty
types (Expr-F.Binary op ty a b at) = Expr-F.Binary op ty a.ty b.ty at
types (Expr-F.Both a b) = Expr-F.Both a.ty b.ty
types (Expr-F.Either a b) = Expr-F.Either a.ty b.ty
types (Expr-F.Choose a b c) = Expr-F.Choose a.ty b.ty c.ty
types (Expr-F.Convert ty a) = Expr-F.Convert ty a.ty
types (Expr-F.Call function arguments at) = Expr-F.Call function (map (λ a. a.ty) arguments) at
types Expr-F.Node = Expr-F.Node
types Expr-F.Nodes = Expr-F.Nodes

abbrev pub operand_terms : Expr-F Typed Typed → List Term
operand_terms (Expr-F.Const v ty) = []
operand_terms (Expr-F.Scalar slot at) = []
operand_terms (Expr-F.Cell a) = a.terms
operand_terms (Expr-F.Binary op ty a b at) = a.terms ++ b.terms
operand_terms (Expr-F.Both a b) = a.terms ++ b.terms
operand_terms (Expr-F.Either a b) = a.terms ++ b.terms
operand_terms (Expr-F.Choose a b c) = a.terms ++ (b.terms ++ c.terms)
operand_terms (Expr-F.Convert ty a) = a.terms
operand_terms (Expr-F.Call function arguments at) = flat_map (λ a. a.terms) arguments
operand_terms Expr-F.Node = []
operand_terms Expr-F.Nodes = []

abbrev pub typed_step : ProgParts → Expr-F Typed Typed → Typed
typed_step p e = record { ty = type_step p (types e); terms = Of (types e) ∷ operand_terms e }

-- The same for an element of an array: its operands are its subscripts and its image.
abbrev pub image_terms : Option Typed → List Term
image_terms None = []
image_terms (Some k) = k.terms

abbrev pub access_types : Access-F Typed Typed → Access-F Ty Ty
access_types a = record {
  array = a.array;
  subscripts = map (λ e. e.ty) a.subscripts;
  image = option_map (λ e. e.ty) a.image;
  at = a.at;
}

abbrev pub access_step : ProgParts → Access-F Typed Typed → Typed
access_step p a = record {
  ty = array_type (slice_get p.arrays a.array);
  terms = Element (access_types a) ∷ (flat_map (λ e. e.terms) a.subscripts ++ image_terms a.image);
}

-- The type and the terms of an expression.
abbrev pub typed : ProgParts → Expr → Typed
typed p = fold-Expr Typed Typed (typed_step p) (access_step p)

abbrev pub type_of : ProgParts → Expr → Ty
type_of p e = (typed p e).ty

abbrev pub terms_of : ProgParts → Expr → List Term
terms_of p e = (typed p e).terms

-- The terms of an element of an array, of an expression that may be missing, of expressions.
abbrev pub terms_of_access : ProgParts → Access → List Term
terms_of_access p a = (fold-Access Typed Typed (typed_step p) (access_step p) a).terms

abbrev pub terms_of_option : ProgParts → Option Expr → List Term
terms_of_option p None = []
terms_of_option p (Some e) = terms_of p e

abbrev pub terms_of_list : ProgParts → List Expr → List Term
terms_of_list p es = flat_map (terms_of p) es

-- The scalars that a term names.
abbrev pub slots_of_term : Term → List ℕ
slots_of_term (Of (Expr-F.Scalar slot at)) = slot ∷ []
slots_of_term _ = []

abbrev pub slots_of_terms : List Term → List ℕ
slots_of_terms ts = flat_map slots_of_term ts
