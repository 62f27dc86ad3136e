-- Lists that are read so far. Source: this project.
use Rattle.std.specs.Prelude.{◌≡◌, ◌≤◌, ◌<◌, ◌-◌, zero, suc, ℕ, List, ◌∷◌, Bool, length}
use Rattle.xmp_lex.specs.declared.token.Mark.TheVariants as m
use Rattle.xmp_syntax.specs.Parts as p
use Rattle.xmp_syntax.specs.Reading.{Rule, State, part, many, tok, operator, ◌·◌}
use Rattle.xmp_syntax.specs.Grammar.{binary, is_mark, comma, expr, any_dims}
use Rattle.xmp_syntax.specs.Trees.{Expr, Links, Subscripts, Rest}
use Rattle.xmp_syntax.specs.Spell.{spell, spell_links, spell_subscripts, spell_rest}
use Rattle.xmp_syntax.specs.Fits.{Fits, level_of, FitsLinks, FitsSubscripts, FitsRest}
use Rattle.xmp_reader.specs.declared.reader.Reader.{Reader}
use Rattle.xmp_reader.specs.Going.{Comes, stands}

-- The reading comes from one reader to the other with the rule still to come.
abbrev pub Onward : Rule → Reader → Reader → Type 0
Onward R r rest = (s : State) (L : List (ℕ × ℕ)) (K : List Rule) → Comes s (stands L (R ∷ K) r) → Comes s (stands L (R ∷ K) rest)

pub record LinksSoFar (n below : ℕ) (colon : Bool) (r : Reader) (ls : Links) (rest : Reader) : Type 0 where
  pub goes : Onward (many (binary n) (tok operator (binary n) · part (p.level below colon))) r rest
  pub reads : r.tokens.now ≡ spell_links ls rest.tokens.now
  pub fits : FitsLinks n ls
  pub shorter : length rest.tokens.now ≤ length r.tokens.now

pub record SubscriptsSoFar (r : Reader) (ds : Subscripts) (rest : Reader) : Type 0 where
  pub goes : Onward (any_dims expr) r rest
  pub reads : r.tokens.now ≡ spell_subscripts ds rest.tokens.now
  pub fits : FitsSubscripts ds
  pub deep : rest.depth.now ≤ 128
  pub shorter : length rest.tokens.now ≤ length r.tokens.now

pub record RestSoFar (r : Reader) (es : Rest) (rest : Reader) : Type 0 where
  pub goes : Onward (many (is_mark m.Comma) (comma · expr)) r rest
  pub reads : r.tokens.now ≡ spell_rest es rest.tokens.now
  pub fits : FitsRest es
  pub shorter : length rest.tokens.now ≤ length r.tokens.now

-- the levels from one on to another, that are still to come
abbrev pub levels : ℕ → ℕ → Bool → List Rule → List Rule
levels k zero c K = K
levels k (suc n) c K = many (binary (suc k)) (tok operator (binary (suc k)) · part (p.level k c)) ∷ levels (suc k) n c K

pub record LevelSoFar (k n : ℕ) (colon : Bool) (r : Reader) (e : Expr) (rest : Reader) : Type 0 where
  pub goes : (s : State) (L : List (ℕ × ℕ)) (K : List Rule) → Comes s (stands L (part (p.level n colon) ∷ K) r) → Comes s (stands L (levels k (n - k) colon K) rest)
  pub reads : r.tokens.now ≡ spell e rest.tokens.now
  pub fits : Fits e
  pub level : level_of e ≤ k
  pub shorter : length rest.tokens.now < length r.tokens.now
