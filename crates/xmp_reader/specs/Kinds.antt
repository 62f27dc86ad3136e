-- What tokens hold. Source: this project.
use Rattle.std.specs.Prelude.{ℕ, ℤ, List, [], ◌∷◌, Bool, true, false, ◌&&◌, Option, None, Some}
use Rattle.xmp_num.specs.declared.types.Ty.{Ty}
use Rattle.xmp_num.specs.declared.types.Ty.TheVariants as ty
use Rattle.xmp_lex.specs.declared.token.Token.{Token}
use Rattle.xmp_lex.specs.declared.token.TokenKind.{TokenKind}
use Rattle.xmp_lex.specs.declared.token.TokenKind.TheVariants as t
use Rattle.xmp_lex.specs.declared.token.Mark.{Mark}
use Rattle.xmp_lex.specs.declared.token.Mark.TheVariants as m
use Rattle.xmp_syntax.specs.Grammar.{is_mark}
use Rattle.xmp_lex.specs.declared.token.Reserved.{Reserved}
use Rattle.xmp_lex.specs.declared.token.Reserved.TheVariants as w
use Rattle.xmp_syntax.specs.Reading.{Test}

abbrev pub mark_in : TokenKind → Option Mark
mark_in (t.Mark m) = Some m
mark_in _ = None

abbrev pub name_in : TokenKind → Option (List ℕ)
name_in (t.Name n) = Some n
name_in _ = None

abbrev pub text_in : TokenKind → Option (List ℕ)
text_in (t.Text n) = Some n
text_in _ = None

abbrev pub number_in : TokenKind → Option (ℤ × Ty)
number_in (t.Number n ty) = Some (n, ty)
number_in _ = None

-- the type that a word names
abbrev pub type_of_word : Reserved → Option Ty
type_of_word w.Int = Some ty.Int
type_of_word w.Long = Some ty.Long
type_of_word _ = None

abbrev pub type_in : TokenKind → Option Ty
type_in (t.Word x) = type_of_word x
type_in _ = None

-- the next token passes the test
abbrev pub next_is : Test → List Token → Bool
next_is p [] = false
next_is p (t ∷ ts) = p t.kind

-- its kind
abbrev pub next_kind : List Token → Option TokenKind
next_kind [] = None
next_kind (t ∷ ts) = Some t.kind

abbrev pub next_mark : List Token → Option Mark
next_mark [] = None
next_mark (t ∷ ts) = mark_in t.kind

abbrev pub next_name : List Token → Option (List ℕ)
next_name [] = None
next_name (t ∷ ts) = name_in t.kind

abbrev pub next_text : List Token → Option (List ℕ)
next_text [] = None
next_text (t ∷ ts) = text_in t.kind

abbrev pub next_number : List Token → Option (ℤ × Ty)
next_number [] = None
next_number (t ∷ ts) = number_in t.kind

abbrev pub next_type : List Token → Option Ty
next_type [] = None
next_type (t ∷ ts) = type_in t.kind

-- the next two tokens pass the tests
abbrev pub next_are : Test → Test → List Token → Bool
next_are p q [] = false
next_are p q (t ∷ ts) = p t.kind && next_is q ts

-- the image of a reference begins here; where another colon may follow, a bracket stands behind its colon
abbrev pub begins_image : Bool → List Token → Bool
begins_image true ts = next_are (is_mark m.Colon) (is_mark m.OpenBracket) ts
begins_image false ts = next_is (is_mark m.Colon) ts
