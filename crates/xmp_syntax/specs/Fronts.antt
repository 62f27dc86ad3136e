-- The fronts of programs. Source: this project.
use Rattle.std.specs.Prelude.{◌≡◌, ℕ, List, [], ◌∷◌, ◌++◌, length}
use Rattle.xmp_lex.specs.declared.token.Token.{Token}
use Rattle.xmp_syntax.specs.declared.program.Tree.{Tree}
use Rattle.xmp_syntax.specs.Spell.{tokens}
use Rattle.xmp_syntax.specs.Fits.{FitsTree}
use Rattle.xmp_syntax.specs.Refused.{IsShallow}

-- These are the first tokens of a tree that fits, or all of them.
pub record IsFront (ts : List Token) : Type 0 where
  pub tree : Tree
  pub rest : List Token
  pub fits : FitsTree tree
  pub whole : tokens tree ≡ ts ++ rest

-- The tokens before the bad one are the first of a tree that fits, none of them at a depth above 128, and with the bad one
-- they are the first of none; so many tokens are left from it on.
pub record FirstBad (ts : List Token) (left : ℕ) : Type 0 where
  pub front : List Token
  pub bad : Token
  pub after : List Token
  pub whole : ts ≡ front ++ bad ∷ after
  pub count : left ≡ length (bad ∷ after)
  pub begins : IsFront front
  pub shallow : IsShallow front
  pub ends : IsFront (front ++ bad ∷ []) → ⊥
