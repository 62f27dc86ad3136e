-- What stands at the front of a text, and what follows it.
use Rattle.std.specs.Prelude.{◌≡◌, ℕ, ◌<◌, ◌≤◌, ◌*◌, true, false, List, [], ◌∷◌, ◌++◌, length}
use Rattle.std.specs.Fmt.{decimal}
use Rattle.std.specs.Char.{is_ascii_digit}
use Rattle.xmp_first.specs.declared.first_item.Item.{Item}
use Rattle.xmp_first.specs.First.{is_tail, is_operand}
use Rattle.xmp_first.specs.Layout.{value_text, item_text}

-- No digit stands at the front.
abbrev pub NoDigit : List ℕ → Type 0
NoDigit [] = Unit {0}
NoDigit (b ∷ bs) = is_ascii_digit b ≡ false

-- Neither a digit nor a space stands at the front.
abbrev pub NoMore : List ℕ → Type 0
NoMore [] = Unit {0}
NoMore (b ∷ bs) = (is_ascii_digit b ≡ false) × (b ≡ 32 → ⊥)

-- The text is a number of at most nine digits, and what follows it.
pub record IsNumberAt (text : List ℕ) (n : ℕ) (rest : List ℕ) : Type 0 where
  pub small : n < 1000000000
  pub text_is : text ≡ decimal n ++ rest
  pub ends : NoDigit rest

-- The text is an operand, and what follows it.
pub record IsOperandAt (text : List ℕ) (item : Item) (rest : List ℕ) : Type 0 where
  pub operand : is_operand item ≡ true
  pub text_is : text ≡ item_text item ++ rest
  pub ends : NoDigit rest

-- The text is at most so many operators, each with an operand behind it, and what follows them.
pub record IsTailAt (text : List ℕ) (most : ℕ) (tail : List Item) (rest : List ℕ) : Type 0 where
  pub valid : is_tail tail ≡ true
  pub few : length tail ≤ 2 * most
  pub text_is : text ≡ value_text tail ++ rest
  pub ends : NoMore rest
