-- What a program means with its directives erased: with `size` for N and an expression for the value of a cell, it is
--   int a[N], i, s;
--   int main(void) {
--     for (i = 0; i < N; i++) a[i] = expression;
--     for (i = 0; i < N; i++) s += a[i];
--     printf("%d\n", s);
--     return 0;
--   }
use Rattle.std.specs.Prelude.{◌≡◌, ℕ, zero, suc, ℤ, pos, ◌+ℤ◌, ◌-ℤ◌, ◌*ℤ◌, List, [], ◌∷◌, ◌++◌}
use Rattle.std.specs.Fmt.{signed_decimal}
use Rattle.xmp_num.specs.Arithmetic.{wrap}
use Rattle.xmp_num.specs.declared.types.Ty.TheVariants.{Int}
use Rattle.xmp_first.specs.declared.first_item.Item.{Item}
use Rattle.xmp_first.specs.FirstGrammar.{Operand, index, number, Product, factor, times, Sum, term, plus, minus, sum_items}

-- the value of an expression where the index is `i`: each operation is that of `int`, which wraps in 32 bits
abbrev pub operand_value : Operand → ℤ → ℤ
operand_value index i = i
operand_value (number n) i = n

abbrev pub product_value : Product → ℤ → ℤ
product_value (factor x) i = operand_value x i
product_value (times p x) i = wrap Int (product_value p i *ℤ operand_value x i)

abbrev pub sum_value : Sum → ℤ → ℤ
sum_value (term p) i = product_value p i
sum_value (plus s p) i = wrap Int (sum_value s i +ℤ product_value p i)
sum_value (minus s p) i = wrap Int (sum_value s i -ℤ product_value p i)

-- `a[i]` after the first loop
abbrev pub cell_value : Sum → ℕ → ℤ
cell_value e i = sum_value e (pos i)

-- `s` after so many turns of the second loop: it begins at 0, and each turn adds the next cell
abbrev pub total : Sum → ℕ → ℤ
total e zero = pos 0
total e (suc i) = wrap Int (total e i +ℤ cell_value e i)

-- what the program prints
abbrev pub printed : Sum → ℕ → List ℕ
printed e size = signed_decimal (total e size) ++ 10 ∷ []

-- This is what the program prints whose cells have the value that these items spell.
pub record IsPrinted (size : ℕ) (value : List Item) (out : List ℕ) : Type 0 where
  pub expression : Sum
  pub spelled : sum_items expression ≡ value
  pub out_is : out ≡ printed expression size
