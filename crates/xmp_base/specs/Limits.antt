-- The limits of this project, as numbers.
use Rattle.std.specs.Prelude.{ℕ}

-- the most bytes that a source text may have
abbrev pub source_limit : ℕ
source_limit = 1048576

-- the most bytes that an input may have
abbrev pub input_limit : ℕ
input_limit = 16777216

-- the most tokens that a text may have, before and after macros are replaced
abbrev pub token_limit : ℕ
token_limit = 200000

-- the greatest depth of a token: so many parts of a text may be open
abbrev pub depth_limit : ℕ
depth_limit = 128

-- the greatest size of a dimension, and the greatest width of a cyclic form or of a shadow
abbrev pub size_limit : ℕ
size_limit = 4194304

-- the most cells that all arrays of a program may have together
abbrev pub cell_limit : ℕ
cell_limit = 4194304

-- the most by which a point of a loop or of an alignment may lie from its index, either way
abbrev pub offset_limit : ℕ
offset_limit = 8388608

-- the most nodes that a program may run on
abbrev pub node_limit : ℕ
node_limit = 16

-- the steps of a run, where no number of them is given
abbrev pub default_steps : ℕ
default_steps = 1000000
