-- The shared words of a coarray program (this project): the coarray cells image by image, and behind them two notice
-- words for each image.
use Rattle.std.specs.Prelude.{ℕ, ◌+◌, ◌*◌, ◌/◌, ◌%◌, take}
use Rattle.std.specs.List.{sum_by}
use Rattle.xmp_map.specs.RowMajor.{product}
use Rattle.xmp_prog.specs.declared.parts.ProgParts.{ProgParts}
use Rattle.xmp_prog.specs.Fits.{node_count}
use Rattle.xmp_meaning.specs.Declarations.{extents}
use Rattle.xmp_meaning.specs.Stores.{image_words, image_cells}

-- the word of an image's cell of a coarray, by the cell's row-major number
abbrev pub word_of : ProgParts → (array image n : ℕ) → ℕ
word_of p array image n = image * image_cells p + (sum_by image_words (take array p.arrays) + n)

-- the word of a cell by its number in the coarray's row, where the cells of all images lie end to end
abbrev pub word_at : ProgParts → (array number : ℕ) → ℕ
word_at p array number = let cells = product (extents p array) in word_of p array (number / cells) (number % cells)

-- where an image says in every other phase whether it trapped
abbrev pub notice_word : ProgParts → (image parity : ℕ) → ℕ
notice_word p image parity = node_count p * image_cells p + (2 * image + parity)

-- how many shared words there are
abbrev pub shared_words : ProgParts → ℕ
shared_words p = node_count p * image_cells p + 2 * node_count p
