-- The words of a state that a transfer reads or writes: a scalar alone, or an array's row.
use Rattle.std.specs.Prelude.{◌∷◌, List, [], ℤ, pos, slice_get, slice_set, unwrap_or}
use Rattle.xmp_meaning.specs.Cells.{row_in}
use Rattle.xmp_meaning.specs.Runs.{State}
use Rattle.xmp_exchanges.specs.declared.words.Place.{Place}
use Rattle.xmp_exchanges.specs.declared.words.Place.TheVariants.{Scalar, Row}

-- the words there
abbrev pub words_at : Place → State (Unit {0}) → List ℤ
words_at (Scalar slot) s = unwrap_or (slice_get s.scalars slot) (pos 0) ∷ []
words_at (Row array) s = row_in s.arrays array

-- the state with others in their place
abbrev pub with_words : Place → List ℤ → State (Unit {0}) → State (Unit {0})
with_words (Scalar slot) [] s = s
with_words (Scalar slot) (v ∷ vs) s = record s { scalars = slice_set s.scalars slot v }
with_words (Row array) row s = record s { arrays = slice_set s.arrays array row }
