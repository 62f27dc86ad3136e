-- The expression that a list of items spells. (Lemmas in proofs/FirstTrees: it is spelled by the list, and no other is.)
use Rattle.std.specs.Prelude.{List, [], ◌∷◌}
use Rattle.xmp_num.specs.declared.types.BinOp.{BinOp}
use Rattle.xmp_num.specs.declared.types.BinOp.TheVariants.{Add, Sub, Mul}
use Rattle.xmp_first.specs.declared.first_item.Item.{Item}
use Rattle.xmp_first.specs.declared.first_item.Item.TheVariants.{Number, Op}
use Rattle.xmp_first.specs.FirstGrammar.{Operand, index, number, factor, times, Sum, term, plus, minus}

-- the operand that an item spells
abbrev pub operand_of : Item → Operand
operand_of (Number n) = number n
operand_of _ = index

-- an expression with an operator and an operand behind it: a product goes to the last product
abbrev pub extended : Sum → BinOp → Operand → Sum
extended (term p) Mul x = term (times p x)
extended (plus s p) Mul x = plus s (times p x)
extended (minus s p) Mul x = minus s (times p x)
extended s Add x = plus s (factor x)
extended s Sub x = minus s (factor x)
extended s _ x = s

-- an expression with operators and operands behind it
abbrev pub continued : Sum → List Item → Sum
continued s (Op o ∷ x ∷ xs) = continued (extended s o (operand_of x)) xs
continued s _ = s

abbrev pub tree_of : List Item → Sum
tree_of (x ∷ xs) = continued (term (factor (operand_of x))) xs
tree_of [] = term (factor index)
