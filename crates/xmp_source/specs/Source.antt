-- The tree of a text, and what a text without one is refused for: the first of the phases text, macros and syntax in which a rule
-- breaks, and in it the first place. Source: this project.
use Rattle.std.specs.Prelude.{ℕ, List, ⊤}
use Rattle.xmp_base.specs.declared.refusal.Fault.{Fault}
use Rattle.xmp_base.specs.declared.refusal.Fault.TheVariants as fault
use Rattle.xmp_lex.specs.declared.token.Token.{Token}
use Rattle.xmp_lex.specs.Cut.{Cut, IsRefused}
use Rattle.xmp_lex.specs.Expand.{Expanded, IsMacroRefusal}
use Rattle.xmp_syntax.specs.declared.program.Tree.{Tree}
use Rattle.xmp_syntax.specs.Refused.{IsProgram}
use Rattle.xmp_parse.specs.Faults.{IsFault}

-- The text is cut into tokens that come to these, their definitions replaced.
pub record Comes (text : List ℕ) (expanded : List Token) : Type 0 where
  pub tokens : List Token
  pub cut : Cut text tokens
  pub expands : Expanded tokens expanded

-- The text is the program with this tree, places included.
pub record IsTreeOf (text : List ℕ) (x : Tree) : Type 0 where
  pub expanded : List Token
  pub comes : Comes text expanded
  pub program : IsProgram expanded x

-- The first break of a rule, by phases: text, macros, syntax.
pub data Breaks (text : List ℕ) (e : Fault) : Type 0 where
  in_text : IsRefused text e → Breaks text e
  in_macros : (tokens : List Token) → Cut text tokens → IsMacroRefusal tokens e → Breaks text e
  in_syntax : (expanded : List Token) → Comes text expanded → IsFault expanded e → Breaks text e

-- The fault is the first break of a rule, or want of memory, which no clause ties to anything.
abbrev pub IsSourceFault : List ℕ → Fault → Type 0
IsSourceFault text (fault.Refused r) = Breaks text (fault.Refused r)
IsSourceFault text fault.NoMemory = ⊤
