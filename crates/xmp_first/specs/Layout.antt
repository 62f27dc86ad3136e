-- The text of a program: the constants of src/layout, in their order, with the program's numbers and value between them.
use Rattle.std.specs.Prelude.{◌≡◌, ℕ, ◌≤◌, List, [], ◌∷◌, ◌++◌, true, codes}
use Rattle.std.specs.Fmt.{decimal, signed_decimal}
use Rattle.xmp_num.specs.declared.types.BinOp.{BinOp}
use Rattle.xmp_num.specs.declared.types.BinOp.TheVariants.{Add, Sub, Mul}
use Rattle.xmp_first.specs.declared.first_item.Item.{Item}
use Rattle.xmp_first.specs.declared.first_item.Item.TheVariants.{Index, Number, Op}
use Rattle.xmp_first.specs.First.{is_expression}
use Rattle.xmp_first.specs.declared.layout.TheConstants.{HEAD, TO_NODES, TO_TEMPLATE, TO_FIRST_LOOP, TO_VALUE, TO_SECOND_LOOP, FOOT}

-- an operator stands between spaces
abbrev pub operator_text : BinOp → List ℕ
operator_text Add = codes " + "
operator_text Sub = codes " - "
operator_text Mul = codes " * "
operator_text _ = []

abbrev pub item_text : Item → List ℕ
item_text Index = codes "i"
item_text (Number n) = signed_decimal n
item_text (Op o) = operator_text o

-- the items, one after another
abbrev pub value_text : List Item → List ℕ
value_text [] = []
value_text (x ∷ xs) = item_text x ++ value_text xs

-- what stands between the number of nodes and the value
abbrev pub middle : ℕ → List ℕ
middle size = TO_TEMPLATE.now ++ decimal size ++ TO_FIRST_LOOP.now ++ decimal size ++ TO_VALUE.now

-- what stands behind the value
abbrev pub foot : ℕ → List ℕ
foot size = TO_SECOND_LOOP.now ++ decimal size ++ FOOT.now

-- the text of a program
abbrev pub program_text : ℕ → ℕ → List Item → List ℕ
program_text size nodes value =
    HEAD.now ++ (decimal size ++ (TO_NODES.now ++ (decimal nodes ++ (middle size ++ (value_text value ++ foot size)))))

-- The numbers of cells and of nodes are in range, and the value is an expression.
pub record IsProgram (size nodes : ℕ) (value : List Item) : Type 0 where
  pub some_cells : 1 ≤ size
  pub few_cells : size ≤ 4194304
  pub some_nodes : 1 ≤ nodes
  pub few_nodes : nodes ≤ 16
  pub expression : is_expression value ≡ true

-- The text is that of this program.
pub record Spells (size nodes : ℕ) (value : List Item) (text : List ℕ) : Type 0 where
  pub valid : IsProgram size nodes value
  pub text_is : text ≡ program_text size nodes value

-- No program has this text.
abbrev pub IsNoProgram : List ℕ → Type 0
IsNoProgram text = (size nodes : ℕ) (value : List Item) → Spells size nodes value text → ⊥
