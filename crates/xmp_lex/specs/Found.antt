-- What the functions below `lex` find, in the form that their answers have.
use Rattle.std.specs.Prelude.{◌≡◌, ◌≤◌, ◌<◌, ◌++◌, ℕ, List, length, Bool, true, false, take, slice_index_or, slice_get, Some, None, ⊤, option_to_list, IfSome}
use Rattle.xmp_base.specs.Limits.{token_limit}
use Rattle.xmp_base.specs.declared.place.Place.{Place}
use Rattle.xmp_base.specs.declared.refusal.Fault.{Fault}
use Rattle.xmp_base.specs.declared.refusal.Fault.TheVariants as fault
use Rattle.xmp_base.specs.declared.refusal.Phase.TheVariants as phase
use Rattle.xmp_lex.specs.declared.token.Mark.{Mark}
use Rattle.xmp_lex.specs.declared.token.Mark.TheVariants as m
use Rattle.xmp_lex.specs.declared.token.Token.{Token}
use Rattle.xmp_lex.specs.declared.token.TokenKind.{TokenKind}
use Rattle.xmp_lex.specs.declared.mode.Mode.{Mode}
use Rattle.xmp_lex.specs.declared.mode.Mode.TheVariants as mode
use Rattle.xmp_lex.specs.declared.spaces.Found.{Found}
use Rattle.xmp_lex.specs.declared.spaces.Found.TheVariants as found
use Rattle.xmp_lex.specs.declared.cut.NextPiece.{NextPiece}
use Rattle.xmp_lex.specs.declared.tokens.PieceError.{PieceError}
use Rattle.xmp_lex.specs.declared.tokens.PieceError.TheVariants as error
use Rattle.xmp_lex.specs.declared.tokens.Meaning.{Meaning}
use Rattle.xmp_lex.specs.declared.tokens.Meaning.TheVariants as meaning
use Rattle.xmp_lex.specs.LineStates.{LineState}
use Rattle.xmp_lex.specs.LineStates as state
use Rattle.xmp_lex.specs.Bytes.{content, content_of, escape_value, IsBadEscape}
use Rattle.xmp_lex.specs.Words.{BeginsWith, mark_text}
use Rattle.xmp_lex.specs.Pieces.{IsBlockStart, IsLineStart, Comment, Unclosed, LineSpace, Spelled, Malformed}
use Rattle.xmp_lex.specs.Cut.{Piece, Broken, behind}

-- none of the first n marks is at the front
abbrev pub IsNone : List Mark → List ℕ → ℕ → Type 0
IsNone marks text n = (k : ℕ) → k < n → BeginsWith text (mark_text (slice_index_or marks k m.Plus)) → ⊥

-- the first of the marks that the text begins with
pub record IsFirst (marks : List Mark) (text : List ℕ) (x : Mark) : Type 0 where
  pub at : ℕ
  pub within : at < length marks
  pub is : x ≡ slice_index_or marks at m.Plus
  pub here : BeginsWith text (mark_text x)
  pub before : IsNone marks text at

-- what stands at the front, as the code finds it
abbrev pub IsComment : List ℕ → Found → Type 0
IsComment text found.Nothing = (IsBlockStart text → ⊥) × (IsLineStart text → ⊥)
IsComment text found.Unclosed = Unclosed text
IsComment text (found.Some n) = Comment text n × (n ≤ length text) × (2 ≤ n)

abbrev pub IsLineSpace : List ℕ → Found → Type 0
IsLineSpace text found.Nothing = ((n : ℕ) → LineSpace text n → ⊥) × (Unclosed text → ⊥) × (IsBlockStart text → ⊥) × (IsLineStart text → ⊥)
IsLineSpace text found.Unclosed = Unclosed text
IsLineSpace text (found.Some n) = LineSpace text n × (n ≤ length text) × (1 ≤ n)

-- the token at the front, as the code takes it
abbrev pub Taken : List ℕ → ℕ → TokenKind → Type 0
Taken text n kind = Spelled text n kind × (n ≤ length text) × (1 ≤ n)

abbrev pub IsMalformed : List ℕ → PieceError → Type 0
IsMalformed text error.NoMemory = ⊤
IsMalformed text (error.Rule rule k) = Malformed text rule k × (k ≤ length text)

-- one byte of a text is put down, or it is an unknown escape
abbrev pub Pushed : List ℕ → List ℕ → ℕ → Bool → Bool → Type 0
Pushed old new byte escaped true = (new ≡ old ++ content_of escaped byte) × ((escaped ≡ true) × (escape_value byte ≡ None) → ⊥)
Pushed old new byte escaped false = (escaped ≡ true) × (escape_value byte ≡ None)

abbrev pub IsMeaning : List ℕ → ℕ → Meaning → Type 0
IsMeaning text n (meaning.Text bytes) = (bytes ≡ content text n) × ((j : ℕ) → j < n → IsBadEscape text j → ⊥)
IsMeaning text n (meaning.Unknown k) = (k < n) × IsBadEscape text k × ((j : ℕ) → j < k → IsBadEscape text j → ⊥)

-- how the line stands, as the code keeps it
abbrev pub state_of : Mode → LineState
state_of mode.Start = state.fresh
state_of mode.Middle = state.begun
state_of mode.Directive = state.directive
state_of mode.Ignored = state.ignored

-- a piece and a broken rule, as the code finds them
abbrev pub IsPiece : List ℕ → LineState → NextPiece → Type 0
IsPiece text x c = Piece text x c.length (option_to_list c.token) (state_of c.mode) × (c.length ≤ length text) × (1 ≤ c.length)
    × IfSome c.token (λ o. o.0 ≤ length text)

abbrev pub IsBroken : List ℕ → LineState → PieceError → Type 0
IsBroken text x error.NoMemory = ⊤
IsBroken text x (error.Rule rule k) = Broken text x rule k × (k ≤ length text)

-- putting down these tokens passes the limit
abbrev pub IsTooMany : List Token → List Token → Fault → Type 0
IsTooMany old new fault.NoMemory = ⊤
IsTooMany old new (fault.Refused r) = (r.phase ≡ phase.Lex) × (r.rule ≡ 5)
    × ((bad : Token) × (slice_get (old ++ new) token_limit ≡ Some bad) × (r.at ≡ bad.at))

abbrev pub is_directive : Mode → Bool
is_directive mode.Directive = true
is_directive _ = false

-- a rule L that breaks at a place
abbrev pub breaks : ℕ → Place → Fault
breaks rule at = fault.Refused (record { phase = phase.Lex; rule = rule; at = at })

abbrev pub IsWithin : PieceError → List ℕ → Type 0
IsWithin error.NoMemory rest = ⊤
IsWithin (error.Rule rule k) rest = k ≤ length rest

abbrev pub refusal : PieceError → Place → List ℕ → Fault
refusal error.NoMemory at rest = fault.NoMemory
refusal (error.Rule rule k) at rest = breaks rule (behind at (take k rest))
