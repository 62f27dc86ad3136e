-- Image expressions and image variables (this project, after XcalableMP 1.4, coarrays): what an expression gives on an
-- image, where that depends on nothing but the image.
use Rattle.std.specs.Prelude.{ℕ, Bool, true, false, ◌&&◌, if◌then◌else◌, List, [], ◌∷◌, map, ℤ, pos, Option, Some, None, Result, Ok, Err, is_some, slice_get, unwrap_or}
use Rattle.std.specs.List.{range_with_len}
use Rattle.xmp_base.specs.declared.place.Place.{Place}
use Rattle.xmp_num.specs.declared.types.TrapKind.{TrapKind}
use Rattle.xmp_num.specs.Arithmetic.{binary_of, wrap}
use Rattle.xmp_prog.specs.declared.expressions.Expr.{Expr}
use Rattle.xmp_prog.specs.declared.expressions.Expr.TheOpen.{Expr-F, Access-F}
use Rattle.xmp_prog.specs.declared.expressions.Expr.TheFolds.{fold-Expr}
use Rattle.xmp_meaning.specs.Expressions.{is_zero, as_truth}

-- the values of the image variables by slot, on each image in order; none for a scalar that is no image variable
abbrev pub Values : Type 0
Values = List (List ℤ)

-- those of a scalar
abbrev pub row_of : Values → ℕ → List ℤ
row_of values slot = unwrap_or (slice_get values slot) []

-- whether a scalar is an image variable
abbrev pub is_variable : Values → ℕ → Bool
is_variable values slot = is_some (slice_get (row_of values slot) 0)

-- ---- image expressions

-- An expression of numbers, `xmp_node_num()`, `xmp_num_nodes()`, image variables, operators and conversions alone.
abbrev pub built_step : Values → Expr-F Bool (Unit {0}) → Bool
built_step values (Expr-F.Const v ty) = true
built_step values (Expr-F.Scalar slot at) = is_variable values slot
built_step values (Expr-F.Cell a) = false
built_step values (Expr-F.Binary op ty a b at) = a && b
built_step values (Expr-F.Both a b) = a && b
built_step values (Expr-F.Either a b) = a && b
built_step values (Expr-F.Choose a b c) = a && (b && c)
built_step values (Expr-F.Convert ty a) = a
built_step values (Expr-F.Call function arguments at) = false
built_step values Expr-F.Node = true
built_step values Expr-F.Nodes = true

abbrev pub no_cell : {A : Type 0} → Access-F A (Unit {0}) → Unit {0}
no_cell a = tt

abbrev pub is_built : Values → Expr → Bool
is_built values = fold-Expr Bool (Unit {0}) (built_step values) no_cell

-- the value, where there is one
abbrev pub given : Result ℤ TrapKind → Option ℤ
given (Ok v) = Some v
given (Err kind) = None

-- an operator at two values
abbrev pub joined : (ℤ → ℤ → Option ℤ) → Option ℤ → Option ℤ → Option ℤ
joined f None b = None
joined f (Some x) None = None
joined f (Some x) (Some y) = f x y

abbrev pub converted : (ℤ → ℤ) → Option ℤ → Option ℤ
converted f None = None
converted f (Some x) = Some (f x)

-- what follows a condition: the first where it holds, else the second
abbrev pub chosen : Option ℤ → (Option ℤ) → (Option ℤ) → Option ℤ
chosen None b c = None
chosen (Some x) b c = if is_zero x then c else b

-- What such an expression gives on one of so many images: none where it traps. `&&`, `||` and `?:` evaluate only what
-- they need.
abbrev pub value_step : (count : ℕ) → Values → (image : ℕ) → Expr-F (Option ℤ) (Unit {0}) → Option ℤ
value_step count values image (Expr-F.Const v ty) = Some v
value_step count values image (Expr-F.Scalar slot at) = slice_get (row_of values slot) image
value_step count values image (Expr-F.Cell a) = None
value_step count values image (Expr-F.Binary op ty a b at) = joined (λ x y. given (binary_of op ty x y)) a b
value_step count values image (Expr-F.Both a b) = chosen a (converted as_truth b) (Some (pos 0))
value_step count values image (Expr-F.Either a b) = chosen a (Some (pos 1)) (converted as_truth b)
value_step count values image (Expr-F.Choose a b c) = chosen a b c
value_step count values image (Expr-F.Convert ty a) = converted (wrap ty) a
value_step count values image (Expr-F.Call function arguments at) = None
value_step count values image Expr-F.Node = Some (pos image)
value_step count values image Expr-F.Nodes = Some (pos count)

abbrev pub value_on : (count : ℕ) → Values → (image : ℕ) → Expr → Option ℤ
value_on count values image = fold-Expr (Option ℤ) (Unit {0}) (value_step count values image) no_cell

abbrev pub put_first : ℤ → Option (List ℤ) → Option (List ℤ)
put_first v None = None
put_first v (Some vs) = Some (v ∷ vs)

-- its values on some images, in order, where it has one on each
abbrev pub all_given : List (Option ℤ) → Option (List ℤ)
all_given [] = Some []
all_given (None ∷ vs) = None
all_given (Some v ∷ vs) = put_first v (all_given vs)

-- The values of an image expression on each image, in order: one built so, with a value on each. None for any other.
abbrev pub image_values : (count : ℕ) → Values → Expr → Option (List ℤ)
image_values count values e =
    if is_built values e then all_given (map (λ image. value_on count values image e) (range_with_len 0 count)) else None
