-- How the nodes carry out a program: its cells and the turns of its loops are spread over them in blocks.
use Rattle.std.specs.Prelude.{◌≡◌, ℕ, zero, suc, ℤ, pos, ◌*◌, ◌==◌, if◌then◌else◌, List, [], ◌∷◌, ◌++◌}
use Rattle.xmp_dist.specs.declared.form.Dist.TheVariants.{Block}
use Rattle.xmp_dist.specs.Table.{owner_by}
use Rattle.xmp_dist.specs.Count.{count_below}
use Rattle.xmp_first.specs.declared.first_item.Item.{Item}
use Rattle.xmp_first.specs.FirstGrammar.{Sum, sum_items}
use Rattle.xmp_first.specs.FirstMeaning.{cell_value, total, printed}
use Rattle.xmp_first.specs.World.{World}

-- the list of f 0, f 1, .. as far as f (n - 1)
abbrev pub tabulate : {A : Type 0} → (ℕ → A) → ℕ → List A
tabulate f zero = []
tabulate f (suc n) = tabulate f n ++ f n ∷ []

-- the node that owns a cell: the array is aligned with the template, cell k with coordinate k
abbrev pub owner_of : ℕ → ℕ → ℕ → ℕ
owner_of size nodes cell = owner_by Block size nodes cell

-- a cell in the store of a node, which has written the cells that it owns
abbrev pub word_of : ℕ → ℕ → Sum → ℕ → ℕ → ℤ
word_of size nodes e node cell = if owner_of size nodes cell == node then cell_value e cell else pos 0

-- the store of a node at the end: `i`, which has come to the number of cells, `s`, which is the whole sum, and the cells
abbrev pub store_of : ℕ → ℕ → Sum → ℕ → List ℤ
store_of size nodes e node = pos size ∷ total e size ∷ tabulate (word_of size nodes e node) size

-- how many turns of both loops a node makes: in each, those whose coordinate it owns
abbrev pub turns_of : ℕ → ℕ → ℕ → ℕ
turns_of size nodes node = 2 * count_below (λ cell. owner_of size nodes cell == node) size

-- The nodes have carried out the program, and node 0 has printed what the program prints with its directives erased.
pub record Ran (size nodes : ℕ) (value : List Item) (world : World) : Type 0 where
  pub expression : Sum
  pub spelled : sum_items expression ≡ value
  pub stores_are : world.stores ≡ tabulate (store_of size nodes expression) nodes
  pub turns_are : world.turns ≡ tabulate (turns_of size nodes) nodes
  pub out_is : world.out ≡ printed expression size
