-- Classes of marks. Source: this project.
use Rattle.std.specs.Prelude.{◌<◌, ⊤}
use Rattle.xmp_syntax.specs.Reading.{Test}
use Rattle.xmp_syntax.specs.Grammar.{binary, is_unary, is_assign, is_step, is_offset, is_reduction}
use Rattle.xmp_reader.specs.declared.marks.Class.{Class}
use Rattle.xmp_reader.specs.declared.marks.Class.TheVariants as c

-- The marks of a class.
abbrev pub of_class : Class → Test
of_class (c.Binary n) = binary n
of_class c.Unary = is_unary
of_class c.Assign = is_assign
of_class c.Step = is_step
of_class c.Offset = is_offset
of_class c.Reduction = is_reduction

-- a level of binary operators is 1 or more
abbrev pub IsClass : Class → Type 0
IsClass (c.Binary n) = 0 < n
IsClass _ = ⊤
