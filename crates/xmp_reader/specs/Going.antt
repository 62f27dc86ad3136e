-- How far a reading of a program has come. Source: this project.
use Rattle.std.specs.Prelude.{◌≡◌, ◌≤◌, ◌<◌, ℕ, suc, List, [], ◌∷◌, ◌++◌, Bool, true, false, ◌||◌, All, length, Result, Ok, Err, Option, None, Some, ⊤}
use Rattle.xmp_lex.specs.declared.token.TokenKind.{TokenKind}
use Rattle.xmp_lex.specs.declared.token.Token.{Token}
use Rattle.xmp_syntax.specs.Reading.{Test, Rule, Depths, depths, State, reading, Reads}
use Rattle.xmp_syntax.specs.Grammar.{rule, is_finish}
use Rattle.xmp_syntax.specs.Steps.{StuckAt, TooDeepAt}
use Rattle.xmp_reader.specs.declared.reader.Reader.{Reader}
use Rattle.xmp_reader.specs.declared.reader.Stop.{Stop}
use Rattle.xmp_reader.specs.declared.reader.Stop.TheVariants as stop

-- the end of the text stands among the tokens
abbrev pub has_finish : List Token → Bool
has_finish [] = false
has_finish (t ∷ ts) = is_finish t.kind || has_finish ts

abbrev pub left_at : State → List Token
left_at (reading D K ts) = ts

-- A place in a reading: the depths around, and the rules of what is to come.
abbrev pub stands : List (ℕ × ℕ) → List Rule → Reader → State
stands L K r = reading (depths r.depth.now r.depth.base L) K r.tokens.now

-- The reading comes from one place to the other, with no token too deep; the end of the text is to come.
pub record Comes (s u : State) : Type 0 where
  pub depths : List ℕ
  pub reads : Reads rule s depths u
  pub shallow : All (λ d. d ≤ 128) depths
  pub finish : has_finish (left_at u) ≡ true

-- The tokens from this place on are refused: the first bad one is as the grammar says.
abbrev pub Refused : State → Stop → Type 0
Refused s stop.NoMemory = ⊤
Refused s (stop.Unexpected left) = StuckAt s left
Refused s (stop.TooDeep left) = TooDeepAt s left

-- Where a reading stands behind a part, or why not.
abbrev pub After : {A : Type 0} → State → List (ℕ × ℕ) → List Rule → Result (A × Reader) Stop → Type 0
After s L K (Ok x) = Comes s (stands L K x.1)
After s L K (Err e) = Refused s e

-- The part is read by the rule, whatever comes before and after.
abbrev pub Parses : {A : Type 0} → Rule → Reader → Result (A × Reader) Stop → Type 0
Parses R r result = (s : State) (L : List (ℕ × ℕ)) (K : List Rule) → Comes s (stands L (R ∷ K) r) → After s L K result

-- The parts are read by the rules, one after another.
abbrev pub ParsesAll : {A : Type 0} → List Rule → Reader → Result (A × Reader) Stop → Type 0
ParsesAll Rs r result = (s : State) (L : List (ℕ × ℕ)) (K : List Rule) → Comes s (stands L (Rs ++ K) r) → After s L K result
