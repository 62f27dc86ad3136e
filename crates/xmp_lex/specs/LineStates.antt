-- How a line of a text stands at a byte, by what stands before it on the line. A comment and a line feed that `\` joins don't end a line
-- of tokens. Source: ISO C 6.10, where a line that begins with `#` is one by itself.
use Rattle.std.specs.Prelude.{Bool, true, false, List, [], ◌∷◌, ⊤}
use Rattle.xmp_lex.specs.declared.token.TokenKind.{TokenKind}
use Rattle.xmp_lex.specs.declared.token.TokenKind.TheVariants as t

-- fresh: only white space and comments stand on the line. begun: a token of the program does. directive: it is a `#` line, and its
-- tokens count. ignored: it is a `#` line that gives no token.
pub data LineState : Type 0 where
  fresh : LineState
  begun : LineState
  directive : LineState
  ignored : LineState

-- outside of `#` lines
abbrev pub IsOutside : LineState → Type 0
IsOutside fresh = ⊤
IsOutside begun = ⊤
IsOutside directive = ⊥
IsOutside ignored = ⊥

-- in a `#` line
abbrev pub IsHashLine : LineState → Type 0
IsHashLine fresh = ⊥
IsHashLine begun = ⊥
IsHashLine directive = ⊤
IsHashLine ignored = ⊤

-- how the line stands behind a token
abbrev pub behind_token : LineState → LineState
behind_token fresh = begun
behind_token begun = begun
behind_token directive = directive
behind_token ignored = ignored

-- how the line stands behind white space, which may be a line feed
abbrev pub behind_white : LineState → Bool → LineState
behind_white x true = fresh
behind_white x false = x

-- the tokens at the end of a line
abbrev pub at_end : LineState → List TokenKind
at_end fresh = []
at_end begun = []
at_end directive = t.Close ∷ []
at_end ignored = []
