-- What `parse` answers for tokens that are no program. Source: this project.
use Rattle.std.specs.Prelude.{◌≡◌, ℕ, List, ◌∷◌, ◌++◌, length, ⊤, ◌⊎◌}
use Rattle.xmp_base.specs.declared.place.Place.{Place}
use Rattle.xmp_base.specs.declared.refusal.Refusal.{Refusal}
use Rattle.xmp_base.specs.declared.refusal.Fault.{Fault}
use Rattle.xmp_base.specs.declared.refusal.Fault.TheVariants as fault
use Rattle.xmp_base.specs.declared.refusal.Phase.TheVariants as phase
use Rattle.xmp_lex.specs.declared.token.Token.{Token}
use Rattle.xmp_syntax.specs.Fronts.{FirstBad}
use Rattle.xmp_syntax.specs.Refused.{TooDeep, start, program_rules}

-- The token from which so many are left stands at this place.
pub record StandsAt (ts : List Token) (left : ℕ) (at' : Place) : Type 0 where
  pub front : List Token
  pub token : Token
  pub after : List Token
  pub whole : ts ≡ front ++ token ∷ after
  pub count : left ≡ length (token ∷ after)
  pub place : token.at ≡ at'

-- A rule of the syntax is broken first at this token: 1 where the tokens before it are the first of a program and with it
-- are not, 2 where it is the first that has a depth above 128.
pub record Breaks (ts : List Token) (x : Refusal) : Type 0 where
  pub phase : x.phase ≡ phase.Syntax
  pub left : ℕ
  pub place : StandsAt ts left x.at
  pub rule : ((x.rule ≡ 1) × FirstBad ts left) ⊎ ((x.rule ≡ 2) × TooDeep start program_rules ts left)

-- The fault is the first break of a rule, or want of memory.
abbrev pub IsFault : List Token → Fault → Type 0
IsFault ts (fault.Refused x) = Breaks ts x
IsFault ts fault.NoMemory = ⊤
