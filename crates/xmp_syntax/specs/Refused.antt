-- Where tokens cease to be a program. Source: this project.
use Rattle.std.specs.Prelude.{◌≡◌, ◌≤◌, ◌<◌, ℕ, suc, List, [], ◌∷◌, ◌++◌, All, length}
use Rattle.xmp_lex.specs.declared.token.Token.{Token}
use Rattle.xmp_syntax.specs.declared.program.Tree.{Tree}
use Rattle.xmp_syntax.specs.Parts.{program}
use Rattle.xmp_syntax.specs.Reading.{Rule, part, Depths, depths, State, reading, Reads}
use Rattle.xmp_syntax.specs.Grammar.{rule}
use Rattle.xmp_syntax.specs.Spell.{tokens}
use Rattle.xmp_syntax.specs.Fits.{FitsTree}

-- The tokens begin a spelling of these rules, one after another: they are its first tokens, or all of them.
pub record Begins (D : Depths) (K : List Rule) (ts : List Token) : Type 0 where
  pub depths : List ℕ
  pub now : Depths
  pub left : List Rule
  pub reads : Reads rule (reading D K ts) depths (reading now left [])

-- The tokens before the bad one begin a spelling of the rules, none at a depth above 128, and with it they don't; so many tokens are left from it on.
pub record Stuck (D : Depths) (K : List Rule) (ts : List Token) (left : ℕ) : Type 0 where
  pub front : List Token
  pub bad : Token
  pub after : List Token
  pub whole : ts ≡ front ++ bad ∷ after
  pub count : left ≡ length (bad ∷ after)
  pub begins : Begins D K front
  pub shallow : All (λ d. d ≤ 128) begins.depths
  pub ends : Begins D K (front ++ bad ∷ []) → ⊥

-- The reading gets behind a token of a depth above 128, the first such; so many tokens are left from it on.
pub record TooDeep (D : Depths) (K : List Rule) (ts : List Token) (left : ℕ) : Type 0 where
  pub front : List ℕ
  pub depth : ℕ
  pub now : Depths
  pub rules : List Rule
  pub rest : List Token
  pub reads : Reads rule (reading D K ts) (front ++ depth ∷ []) (reading now rules rest)
  pub count : left ≡ suc (length rest)
  pub shallow : All (λ d. d ≤ 128) front
  pub deep : 128 < depth

-- a reading from the start of a text
abbrev pub start : Depths
start = depths 0 0 []

-- the rules of what is to come there: a program
abbrev pub program_rules : List Rule
program_rules = part program ∷ []

-- no token that a reading of a program gets to has a depth above 128
abbrev pub IsShallow : List Token → Type 0
IsShallow ts = (ds : List ℕ) (s : State) → Reads rule (reading start program_rules ts) ds s → All (λ d. d ≤ 128) ds

-- The tokens are this program.
pub record IsProgram (ts : List Token) (x : Tree) : Type 0 where
  pub whole : ts ≡ tokens x
  pub fits : FitsTree x
  pub shallow : IsShallow ts
