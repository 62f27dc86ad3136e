-- Where a line begins, told without the states of lines: at the start of a text, and behind a line feed that no comment holds and no `\`
-- joins. Source: ISO C 6.10 (2), a `#` line begins with a `#` that only white space precedes on its line.
use Rattle.std.specs.Prelude.{◌≡◌, ◌≢◌, ◌<◌, ◌+◌, ℕ, List, true, length, drop, slice_index}
use Rattle.xmp_lex.specs.declared.token.TokenKind.{TokenKind}
use Rattle.xmp_lex.specs.Bytes.{is_white}
use Rattle.xmp_lex.specs.Pieces.{Comment}
use Rattle.xmp_lex.specs.LineStates.{LineState}
use Rattle.xmp_lex.specs.Cut.{Piece, Front, Cuts, start, after}

-- white space but for line feeds, and comments: n bytes
pub data Blank : List ℕ → ℕ → Type 0 where
  none : (text : List ℕ) → Blank text 0
  white : (text : List ℕ) (n : ℕ) → is_white (slice_index text 0) ≡ true → slice_index text 0 ≢ 10 → Blank (drop 1 text) n → Blank text (1 + n)
  comment : (text : List ℕ) (k n : ℕ) → Comment text k → Blank (drop k text) n → Blank text (k + n)

-- a line begins here: at the start of the text, and behind a piece that is a line feed
pub data BeginsLine (text : List ℕ) : Front → Type 0 where
  first : BeginsLine text (start text)
  feed : (f : Front) (n : ℕ) (out : List (ℕ × TokenKind)) (x : LineState) → Cuts text f → 0 < length f.rest → Piece f.rest f.state n out x
      → slice_index f.rest 0 ≡ 10 → BeginsLine text (after f n out x)

-- only white space and comments stand between the beginning of the line and here
pub record StandsFirst (text : List ℕ) (f : Front) : Type 0 where
  pub line : Front
  pub blank : ℕ
  pub begins : BeginsLine text line
  pub is_blank : Blank line.rest blank
  pub rest_is : f.rest ≡ drop blank line.rest
