-- The lines that an answer writes.
use Rattle.std.specs.Prelude.{ℕ, List, [], ◌∷◌, ◌++◌, pos, codes}
use Rattle.std.specs.Fmt.{signed_decimal}
use Rattle.xmp_base.specs.declared.place.Place.{Place}
use Rattle.xmp_base.specs.declared.refusal.Phase.{Phase}
use Rattle.xmp_base.specs.declared.refusal.Phase.TheVariants as phase
use Rattle.xmp_base.specs.declared.refusal.Refusal.{Refusal}
use Rattle.xmp_num.specs.declared.types.TrapKind.{TrapKind}
use Rattle.xmp_num.specs.declared.types.TrapKind.TheVariants as trap

-- a line of text, with its line feed
abbrev pub line : List ℕ → List ℕ
line text = text ++ 10 ∷ []

abbrev pub decimal : ℕ → List ℕ
decimal n = signed_decimal (pos n)

-- the letter of a phase's rules
abbrev pub letter_of : Phase → List ℕ
letter_of phase.Lex = codes "L"
letter_of phase.Macro = codes "E"
letter_of phase.Syntax = codes "S"
letter_of phase.Procedure = codes "Q"
letter_of phase.Subset = codes "P"
letter_of phase.Names = codes "N"
letter_of phase.Mapping = codes "M"
letter_of phase.Flow = codes "F"
letter_of phase.Coarray = codes "C"
letter_of phase.Script = codes "O"

-- a place: `13:40` is column 40 of line 13
abbrev pub place_text : Place → List ℕ
place_text at = decimal at.line ++ (codes ":" ++ decimal at.column)

abbrev pub at_place : Place → List ℕ
at_place at = codes " at " ++ place_text at

-- as `refused N1 at 1:27`
abbrev pub refused_text : Refusal → List ℕ
refused_text r = codes "refused " ++ (letter_of r.phase ++ (decimal r.rule ++ at_place r.at))

abbrev pub trap_word : TrapKind → List ℕ
trap_word trap.Zero = codes "zero"
trap_word trap.Subscript = codes "subscript"
trap_word trap.Shift = codes "shift"
trap_word trap.Section = codes "section"

-- as `trapped zero at 8:79`
abbrev pub trapped_text : TrapKind → Place → List ℕ
trapped_text kind at = codes "trapped " ++ (trap_word kind ++ at_place at)
