-- The pieces that a text is cut into: what stands at the front of a text, n bytes long. Source: ISO C 6.4 (4), the longest token, 6.4.9,
-- comments, and 6.10, lines that begin with `#`.
use Rattle.std.specs.Prelude.{◌≡◌, ◌≢◌, ◌<◌, ◌+◌, ◌-◌, ◌==◌, ◌&&◌, ◌||◌, ℕ, List, [], ◌∷◌, length, Bool, true, false, nat_le, codes, pos, take, drop, slice_index}
use Rattle.xmp_lex.specs.declared.token.TokenKind.{TokenKind}
use Rattle.xmp_lex.specs.declared.token.TokenKind.TheVariants as t
use Rattle.xmp_lex.specs.declared.token.Mark.{Mark}
use Rattle.xmp_lex.specs.declared.token.Reserved.{Reserved}
use Rattle.xmp_num.specs.declared.types.Ty.{Ty}
use Rattle.xmp_num.specs.declared.types.Ty.TheVariants as ty
use Rattle.xmp_lex.specs.LineStates.{LineState}
use Rattle.xmp_lex.specs.LineStates as state
use Rattle.xmp_lex.specs.Bytes.{is_white, is_digit, is_letter, is_word, IsRun, IsLine, IsBlock, IsTextEnd, IsBadEscape, content, IsNumber, has_suffix, IsClose}
use Rattle.xmp_lex.specs.Words.{IsMark, word_text, mark_text, BeginsWith}

-- the type of a number, by whether it is long
abbrev pub type_of : Bool → Ty
type_of true = ty.Long
type_of false = ty.Int

-- `/*` and `//` at the front
abbrev pub IsBlockStart : List ℕ → Type 0
IsBlockStart text = (slice_index text 0 ≡ 47) × (slice_index text 1 ≡ 42)

abbrev pub IsLineStart : List ℕ → Type 0
IsLineStart text = (slice_index text 0 ≡ 47) × (slice_index text 1 ≡ 47)

-- The token at the front, the longest that its class allows. A number is long with a suffix or from 2^31 on.
pub data Spelled (text : List ℕ) : ℕ → TokenKind → Type 0 where
  name : (n : ℕ) → is_letter (slice_index text 0) ≡ true → IsRun text n → ((r : Reserved) → take n text ≢ word_text r)
      → Spelled text n (t.Name (take n text))
  word : (n : ℕ) (r : Reserved) → is_letter (slice_index text 0) ≡ true → IsRun text n → take n text ≡ word_text r
      → Spelled text n (t.Word r)
  number : (n v : ℕ) → is_digit (slice_index text 0) ≡ true → IsRun text n → IsNumber (take n text) v
      → Spelled text n (t.Number (pos v) (type_of (has_suffix (take n text) || nat_le 2147483648 v)))
  quoted : (k n : ℕ) → slice_index text 0 ≡ 34 → IsTextEnd (drop 1 text) k → slice_index (drop 1 text) k ≡ 34
      → ((j : ℕ) → j < k → IsBadEscape (drop 1 text) j → ⊥) → n ≡ k + 2
      → Spelled text n (t.Text (content (drop 1 text) k))
  mark : (n : ℕ) (x : Mark) → (IsBlockStart text → ⊥) → (IsLineStart text → ⊥) → IsMark text x → n ≡ length (mark_text x)
      → Spelled text n (t.Mark x)

-- No token is at the front: the rule L that breaks, and how many bytes on.
pub data Malformed (text : List ℕ) : ℕ → ℕ → Type 0 where
  stray : 0 < length text → is_white (slice_index text 0) ≡ false → is_word (slice_index text 0) ≡ false → slice_index text 0 ≢ 34
      → ((x : Mark) → BeginsWith text (mark_text x) → ⊥) → Malformed text 1 0
  unknown_escape : (n k : ℕ) → slice_index text 0 ≡ 34 → IsTextEnd (drop 1 text) n → slice_index (drop 1 text) n ≡ 34
      → k < n → IsBadEscape (drop 1 text) k → ((j : ℕ) → j < k → IsBadEscape (drop 1 text) j → ⊥) → Malformed text 1 k
  unclosed : (n : ℕ) → slice_index text 0 ≡ 34 → IsTextEnd (drop 1 text) n → slice_index (drop 1 text) n ≢ 34 → Malformed text 3 0
  no_number : (n : ℕ) → is_digit (slice_index text 0) ≡ true → IsRun text n → ((v : ℕ) → IsNumber (take n text) v → ⊥) → Malformed text 4 0

-- a comment at the front: `/*` ends with the first `*/` behind it, `//` before the line feed
pub data Comment (text : List ℕ) : ℕ → Type 0 where
  block : (k n : ℕ) → IsBlockStart text → IsBlock (drop 2 text) k → n ≡ k + 4 → Comment text n
  line : (k n : ℕ) → IsLineStart text → IsLine (drop 2 text) k → n ≡ k + 2 → Comment text n

-- a comment that isn't closed
pub record Unclosed (text : List ℕ) : Type 0 where
  pub begins : IsBlockStart text
  pub never : (k : ℕ) → IsClose (drop 2 text) k → ⊥

-- `\`, an optional carriage return and a line feed: n bytes
pub data Splice (text : List ℕ) : ℕ → Type 0 where
  two : (n : ℕ) → slice_index text 0 ≡ 92 → slice_index text 1 ≡ 10 → n ≡ 2 → Splice text n
  three : (n : ℕ) → slice_index text 0 ≡ 92 → slice_index text 1 ≡ 13 → slice_index text 2 ≡ 10 → n ≡ 3 → Splice text n

-- behind n bytes stands a line feed, and the bytes end in a `\` that splices it
abbrev pub is_spliced : List ℕ → ℕ → Bool
is_spliced text n = (slice_index text n == 10) && ((slice_index text (n - 1) == 92) || ((slice_index text (n - 1) == 13) && (slice_index text (n - 2) == 92)))

-- white space of a `#` line at the front
pub data LineSpace (text : List ℕ) : ℕ → Type 0 where
  white : (n : ℕ) → is_white (slice_index text 0) ≡ true → slice_index text 0 ≢ 10 → n ≡ 1 → LineSpace text n
  splice : (n : ℕ) → Splice text n → LineSpace text n
  comment : (n : ℕ) → Comment text n → is_spliced text n ≡ false → LineSpace text n
  comment_splice : (k n : ℕ) → Comment text k → is_spliced text k ≡ true → n ≡ k + 1 → LineSpace text n

-- all white space of a `#` line at the front
pub data LineSpaces : List ℕ → ℕ → Type 0 where
  done : (text : List ℕ) → ((n : ℕ) → LineSpace text n → ⊥) → (Unclosed text → ⊥) → LineSpaces text 0
  more : (text : List ℕ) (n k m : ℕ) → LineSpace text n → LineSpaces (drop n text) k → m ≡ n + k → LineSpaces text m

-- the `#`, the white space behind it and the word: n bytes
pub record LineWord (text : List ℕ) (n : ℕ) (word : List ℕ) : Type 0 where
  pub begins : slice_index text 0 ≡ 35
  pub first : ℕ
  pub run : ℕ
  pub line_space : LineSpaces (drop 1 text) first
  pub is_run : IsRun (drop (1 + first) text) run
  pub word_is : word ≡ take run (drop (1 + first) text)
  pub length_is : n ≡ 1 + first + run

-- the same with the white space behind the word
pub record LineHead (text : List ℕ) (n : ℕ) (word : List ℕ) : Type 0 where
  pub front : ℕ
  pub second : ℕ
  pub line_word : LineWord text front word
  pub space_behind : LineSpaces (drop front text) second
  pub length_is : n ≡ front + second

-- `#pragma xmp`, with the white space before `xmp`: n bytes
pub record XmpHead (text : List ℕ) (n : ℕ) : Type 0 where
  pub front : ℕ
  pub run : ℕ
  pub head : LineHead text front (codes "pragma")
  pub is_run : IsRun (drop front text) run
  pub is_xmp : take run (drop front text) ≡ codes "xmp"
  pub length_is : n ≡ front + run

-- A `#` line by its form: n bytes of it, the tokens that they give and where, and how the line goes on. `#pragma` is one with anything
-- behind it.
pub data LineForm (text : List ℕ) : ℕ → List (ℕ × TokenKind) → LineState → Type 0 where
  define : (n k : ℕ) (r : List ℕ) → LineHead text n (codes "define") → Spelled (drop n text) k (t.Name r) → slice_index (drop n text) k ≢ 40 → LineForm text (n + k) ((n, t.Define r) ∷ []) state.directive
  include : (n : ℕ) → LineHead text n (codes "include") → slice_index (drop n text) 0 ≡ 60 → LineForm text n [] state.ignored
  pragma : (n : ℕ) → XmpHead text n → LineForm text n ((0, t.Pragma) ∷ []) state.directive
  other_pragma : (n : ℕ) → LineWord text n (codes "pragma") → ((k : ℕ) → XmpHead text k → ⊥) → LineForm text n [] state.ignored
