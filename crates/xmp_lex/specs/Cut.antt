-- A text cut into tokens: pieces laid end to end, each the longest that can stand there. Source: ISO C 6.4 (4); the limit and the rules L1
-- to L6 are this project's.
use Rattle.std.specs.Prelude.{◌≡◌, ◌≢◌, ◌≤◌, ◌<◌, ◌+◌, ◌==◌, ℕ, List, [], ◌∷◌, ◌++◌, length, Bool, true, false, map, take, drop, slice_index, slice_get, Some, ⊤}
use Rattle.xmp_base.specs.Limits.{token_limit}
use Rattle.xmp_base.specs.declared.place.Place.{Place}
use Rattle.xmp_lex.specs.declared.token.Token.{Token}
use Rattle.xmp_lex.specs.declared.token.TokenKind.{TokenKind}
use Rattle.xmp_lex.specs.declared.token.TokenKind.TheVariants as t
use Rattle.xmp_lex.specs.LineStates.{LineState, IsOutside, IsHashLine, behind_token, behind_white, at_end}
use Rattle.xmp_lex.specs.LineStates as state
use Rattle.xmp_lex.specs.Bytes.{is_white}
use Rattle.xmp_lex.specs.Pieces.{Spelled, Malformed, Comment, Unclosed, LineSpace, LineForm, Splice}
use Rattle.xmp_base.specs.declared.refusal.Fault.{Fault}
use Rattle.xmp_base.specs.declared.refusal.Fault.TheVariants as fault
use Rattle.xmp_base.specs.declared.refusal.Phase.TheVariants as phase

-- the place behind these bytes
abbrev pub step : Place → Bool → Place
step p true = record { line = p.line + 1; column = 1 }
step p false = record { line = p.line; column = p.column + 1 }

-- the place behind a list of bytes
unfoldable pub behind : Place → List ℕ → Place
behind p [] = p
behind p (b ∷ bs) = behind (step p (b == 10)) bs

-- One piece at the front, where the line stands so: its length, the tokens that it gives, each with the byte at which it begins, and how
-- the line goes on.
pub data Piece (text : List ℕ) : LineState → ℕ → List (ℕ × TokenKind) → LineState → Type 0 where
  white : (x : LineState) → IsOutside x → is_white (slice_index text 0) ≡ true → Piece text x 1 [] (behind_white x (slice_index text 0 == 10))
  comment : (x : LineState) (n : ℕ) → IsOutside x → Comment text n → Piece text x n [] x
  token : (x : LineState) (n : ℕ) (kind : TokenKind) → x ≢ state.ignored → Spelled text n kind → Piece text x n ((0, kind) ∷ []) (behind_token x)
  hash : (n : ℕ) (out : List (ℕ × TokenKind)) (x : LineState) → slice_index text 0 ≡ 35 → LineForm text n out x → Piece text state.fresh n out x
  line_space : (x : LineState) (n : ℕ) → IsHashLine x → LineSpace text n → Piece text x n [] x
  skip : slice_index text 0 ≢ 10 → ((n : ℕ) → LineSpace text n → ⊥) → (Unclosed text → ⊥) → Piece text state.ignored 1 [] state.ignored
  close : (x : LineState) → IsHashLine x → slice_index text 0 ≡ 10 → Piece text x 1 (map (λ k. (0, k)) (at_end x)) state.fresh

-- No piece is at the front: the rule L that breaks, and how many bytes on.
pub data Broken (text : List ℕ) : LineState → ℕ → ℕ → Type 0 where
  unclosed_comment : (x : LineState) → Unclosed text → Broken text x 2 0
  no_form : slice_index text 0 ≡ 35 → ((n : ℕ) (out : List (ℕ × TokenKind)) (y : LineState) → LineForm text n out y → ⊥)
      → Broken text state.fresh 6 0
  no_token : (x : LineState) (rule k : ℕ) → x ≢ state.ignored → (x ≡ state.fresh → slice_index text 0 ≢ 35)
      → (x ≡ state.directive → (n : ℕ) → Splice text n → ⊥) → Malformed text rule k → Broken text x rule k

-- tokens with their places
abbrev pub placed : Place → List ℕ → List (ℕ × TokenKind) → List Token
placed p text out = map (λ o. record { kind = o.1; at = behind p (take o.0 text) }) out

-- A text cut so far: its tokens, the place, how the line stands there, and the text that is left.
pub record Front : Type 0 where
  pub tokens : List Token
  pub at : Place
  pub state : LineState
  pub rest : List ℕ

-- nothing is cut yet
abbrev pub start : List ℕ → Front
start text = record { tokens = []; at = record { line = 1; column = 1 }; state = state.fresh; rest = text }

-- cut by one piece more
abbrev pub after : Front → ℕ → List (ℕ × TokenKind) → LineState → Front
after f n out x = record { tokens = f.tokens ++ placed f.at f.rest out; at = behind f.at (take n f.rest); state = x; rest = drop n f.rest }

-- Pieces laid end to end: a text is cut so far.
pub data Cuts (text : List ℕ) : Front → Type 0 where
  none : Cuts text (start text)
  piece : (f : Front) (n : ℕ) (out : List (ℕ × TokenKind)) (x : LineState) → Cuts text f → 0 < length f.rest → Piece f.rest f.state n out x
      → Cuts text (after f n out x)

-- the tokens at the end of a text
abbrev pub ending : LineState → Place → List Token
ending x p = map (λ k. record { kind = k; at = p }) (at_end x ++ t.Finish ∷ [])

-- all tokens, where no text is left
abbrev pub last : Front → List Token
last f = f.tokens ++ ending f.state f.at

-- The whole text is cut into these tokens.
pub record Cut (text : List ℕ) (tokens : List Token) : Type 0 where
  pub front : Front
  pub cuts : Cuts text front
  pub whole : front.rest ≡ []
  pub tokens_are : tokens ≡ last front
  pub few : length tokens ≤ token_limit

-- A rule L breaks at this place, behind pieces that break none: no piece can stand there, or one token too many does.
pub data BreaksLexRule (text : List ℕ) : ℕ → Place → Type 0 where
  broken : (f : Front) (rule k : ℕ) → Cuts text f → length f.tokens ≤ token_limit → 0 < length f.rest → Broken f.rest f.state rule k
      → BreaksLexRule text rule (behind f.at (take k f.rest))
  too_many : (f : Front) (n : ℕ) (out : List (ℕ × TokenKind)) (x : LineState) (bad : Token) → Cuts text f → length f.tokens ≤ token_limit
      → 0 < length f.rest → Piece f.rest f.state n out x
      → slice_get (f.tokens ++ placed f.at f.rest out) token_limit ≡ Some bad → BreaksLexRule text 5 bad.at
  too_many_last : (f : Front) (bad : Token) → Cuts text f → length f.tokens ≤ token_limit → f.rest ≡ []
      → slice_get (last f) token_limit ≡ Some bad → BreaksLexRule text 5 bad.at

-- The refusal of a text by a rule L, and want of memory, which no clause ties to anything.
abbrev pub IsRefused : List ℕ → Fault → Type 0
IsRefused text fault.NoMemory = ⊤
IsRefused text (fault.Refused r) = (r.phase ≡ phase.Lex) × BreaksLexRule text r.rule r.at

-- The place is the one behind some front of the text.
abbrev pub IsPlaceOf : List ℕ → Place → Type 0
IsPlaceOf text at = (n : ℕ) × (at ≡ behind (record { line = 1; column = 1 }) (take n text))
