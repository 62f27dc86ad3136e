-- Expressions as C's grammar builds them (ISO C 6.5.5 and 6.5.6): products before sums, each from the left.
use Rattle.std.specs.Prelude.{ℤ, List, [], ◌∷◌, ◌++◌}
use Rattle.xmp_num.specs.declared.types.BinOp.TheVariants.{Add, Sub, Mul}
use Rattle.xmp_first.specs.declared.first_item.Item.{Item}
use Rattle.xmp_first.specs.declared.first_item.Item.TheVariants.{Index, Number, Op}

-- the index `i`, or a number
pub data Operand : Type 0 where
  index : Operand
  number : ℤ → Operand

-- an operand, or a product times an operand
pub data Product : Type 0 where
  factor : Operand → Product
  times : Product → Operand → Product

-- a product, or a sum plus or minus a product
pub data Sum : Type 0 where
  term : Product → Sum
  plus : Sum → Product → Sum
  minus : Sum → Product → Sum

-- the items that spell an expression, in the order of its text
abbrev pub operand_item : Operand → Item
operand_item index = Index
operand_item (number n) = Number n

abbrev pub product_items : Product → List Item
product_items (factor x) = operand_item x ∷ []
product_items (times p x) = product_items p ++ Op Mul ∷ operand_item x ∷ []

abbrev pub sum_items : Sum → List Item
sum_items (term p) = product_items p
sum_items (plus s p) = sum_items s ++ Op Add ∷ product_items p
sum_items (minus s p) = sum_items s ++ Op Sub ∷ product_items p
