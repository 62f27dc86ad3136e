-- Which lists of items are expressions. These speak of the items alone, and not of a `First`.
use Rattle.std.specs.Prelude.{pos, negsuc, Bool, true, false, ◌&&◌, nat_lt, nat_le, List, [], ◌∷◌, length}
use Rattle.xmp_num.specs.declared.types.BinOp.{BinOp}
use Rattle.xmp_num.specs.declared.types.BinOp.TheVariants.{Add, Sub, Mul}
use Rattle.xmp_first.specs.declared.first_item.Item.{Item}
use Rattle.xmp_first.specs.declared.first_item.Item.TheVariants.{Index, Number, Op}

-- `+`, `-` and `*`
abbrev pub is_operator : BinOp → Bool
is_operator Add = true
is_operator Sub = true
is_operator Mul = true
is_operator _ = false

-- the index, or a number of at most nine digits
abbrev pub is_operand : Item → Bool
is_operand Index = true
is_operand (Number (pos n)) = nat_lt n 1000000000
is_operand (Number (negsuc n)) = false
is_operand (Op o) = false

-- operators, each with an operand behind it
abbrev pub is_tail : List Item → Bool
is_tail [] = true
is_tail (Op o ∷ x ∷ xs) = is_operator o && (is_operand x && is_tail xs)
is_tail (Op o ∷ []) = false
is_tail (Index ∷ xs) = false
is_tail (Number n ∷ xs) = false

-- an operand, and behind it at most 100 operators with theirs
abbrev pub is_expression : List Item → Bool
is_expression [] = false
is_expression (x ∷ xs) = is_operand x && (is_tail xs && nat_le (length xs) 200)
