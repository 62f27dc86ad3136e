-- How the parts of programs are read. Source: this project.
use Rattle.std.specs.Prelude.{◌≡◌, ℕ, List, [], ◌∷◌, ◌++◌, Bool, true, false, length, Result, Ok, Err, ⊤, ◌⊎◌}
use Rattle.xmp_lex.specs.declared.token.Token.{Token}
use Rattle.xmp_lex.specs.declared.token.Mark.TheVariants as m
use Rattle.xmp_syntax.specs.declared.program.TopItem.{TopItem}
use Rattle.xmp_syntax.specs.declared.program.TopItem.TheVariants as top
use Rattle.xmp_syntax.specs.Parts as p
use Rattle.xmp_syntax.specs.Reading.{Rule, State, tok, part, plain, many, choice, ◌·◌}
use Rattle.xmp_syntax.specs.Grammar.{is_mark, is_finish, name, comma, semicolon}
use Rattle.xmp_syntax.specs.Fits.{EndsInFunction}
use Rattle.xmp_reader.specs.declared.reader.Reader.{Reader}
use Rattle.xmp_reader.specs.declared.reader.Stop.{Stop}
use Rattle.xmp_reader.specs.Effects.{Ended}
use Rattle.xmp_reader.specs.Going.{Comes, After, Refused, stands}

-- A function or a declaration, and the parts behind it.
abbrev pub definition_rule : Rule
definition_rule = part p.type_words · name · choice (is_mark m.OpenParen)
    (part p.function_rest · choice is_finish (tok plain is_finish) (part p.program))
    (part p.declarator_rest · many (is_mark m.Comma) (comma · part p.declarator) · semicolon · part p.program)

-- the part is a function
abbrev pub is_function : TopItem → Bool
is_function (top.Function x) = true
is_function _ = false

-- What may stand behind a part of a program: the end of the text behind a function alone.
abbrev pub behind_part : Bool → Rule
behind_part true = choice is_finish (tok plain is_finish) (part p.program)
behind_part false = part p.program

-- Where a reading stands behind a part of a program, or why not.
abbrev pub AfterPart : State → List (ℕ × ℕ) → List Rule → Result (TopItem × Reader) Stop → Type 0
AfterPart s L K (Ok x) = Comes s (stands L (behind_part (is_function x.0) ∷ K) x.1)
AfterPart s L K (Err e) = Refused s e

-- A part of a program is read, which this rule begins.
abbrev pub ReadsPart : Rule → Reader → Result (TopItem × Reader) Stop → Type 0
ReadsPart R r result = (s : State) (L : List (ℕ × ℕ)) (K : List Rule) → Comes s (stands L (R ∷ K) r) → AfterPart s L K result

-- The parts of a program are read, up to the end of the text.
abbrev pub ReadsParts : {A : Type 0} → Reader → Result (A × Reader) Stop → Type 0
ReadsParts r result = (s : State) (L : List (ℕ × ℕ)) (K : List Rule) → Comes s (stands L (part p.program ∷ K) r) → After s L (tok plain is_finish ∷ K) result

-- A program is read, and the end of the text.
abbrev pub ReadsProgram : {A : Type 0} → Reader → Result (A × Reader) Stop → Type 0
ReadsProgram r result = (s : State) (L : List (ℕ × ℕ)) (K : List Rule) → Comes s (stands L (part p.program ∷ K) r) → Ended s L K result

-- The rest of a declaration is read, behind its first name and before another rule.
abbrev pub Declares : {A : Type 0} → Reader → Result (A × Reader) Stop → Type 0
Declares r result = (s : State) (L : List (ℕ × ℕ)) (N : Rule) (K : List Rule)
    → Comes s (stands L ((part p.declarator_rest · many (is_mark m.Comma) (comma · part p.declarator) · semicolon · N) ∷ K) r) → After s L (N ∷ K) result

-- The further declarators of a declaration are read and its semicolon, before another rule.
abbrev pub EndsDeclaration : {A : Type 0} → Reader → Result (A × Reader) Stop → Type 0
EndsDeclaration r result = (s : State) (L : List (ℕ × ℕ)) (N : Rule) (K : List Rule)
    → Comes s (stands L ((many (is_mark m.Comma) (comma · part p.declarator) · semicolon · N) ∷ K) r) → After s L (N ∷ K) result

-- where this is so, the last of the parts is a function
abbrev pub LastIs : Bool → List TopItem → Type 0
LastIs true xs = EndsInFunction xs
LastIs false xs = ⊤
