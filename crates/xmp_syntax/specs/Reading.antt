-- Rules of a grammar, and how tokens are read by them from left to right. Source: this project.
use Rattle.std.specs.Prelude.{◌≡◌, ℕ, suc, List, [], ◌∷◌, ◌++◌, Bool, true, false, ◌&&◌, cond, All, ◌≤◌, ◌<◌, length}
use Rattle.xmp_lex.specs.declared.token.Token.{Token}
use Rattle.xmp_lex.specs.declared.token.TokenKind.{TokenKind}
use Rattle.xmp_syntax.specs.Parts.{Part}

-- a test of one token
abbrev pub Test : Type 0
Test = TokenKind → Bool

-- what a token does to the depth
pub data Effect : Type 0 where
  -- nothing
  plain : Effect
  -- an operator: it counts until the next separator or bracket
  operator : Effect
  -- a comma or a semicolon: no operator before it counts
  separator : Effect
  -- an opening and a closing bracket
  opening : Effect
  closing : Effect
  -- the closing parenthesis of a cast, which is an operator
  cast : Effect
  -- no token, but the start and the end of a statement that is counted
  enter : Effect
  leave : Effect

-- the right side of a rule
pub data Rule : Type 0 where
  nothing : Rule
  -- a token
  tok : Effect → Test → Rule
  -- the start or the end of what is counted, where no token stands
  mark : Effect → Rule
  part : Part → Rule
  -- the part that the next token tells
  by : (TokenKind → Part) → Rule
  -- one after the other
  ◌·◌ : Rule → Rule → Rule
  -- the first where the next token passes the test, else the second
  choice : Test → Rule → Rule → Rule
  -- again and again, as long as the next token passes the test
  many : Test → Rule → Rule
  -- two tokens, of which the second is an opening bracket, with what follows in the brackets; nothing where the two next tokens are others
  pair : Test → Test → Rule → Rule

infixr 30 ◌·◌
-- The depths at a place of a text: now, at the start of the innermost level of brackets, and the same two of the levels around, from the inside out.
pub data Depths : Type 0 where
  depths : ℕ → ℕ → List (ℕ × ℕ) → Depths

abbrev pub now : Depths → ℕ
now (depths d b L) = d

abbrev pub outside : List (ℕ × ℕ) → Depths
outside [] = depths 0 0 []
outside (x ∷ L) = depths x.0 x.1 L

abbrev pub deeper : Depths → Depths
deeper (depths d b L) = depths (suc d) b L

-- the depths behind a token of this effect, or where a counted statement starts or ends
abbrev pub behind : Effect → Depths → Depths
behind plain D = D
behind operator D = deeper D
behind separator (depths d b L) = depths b b L
behind opening (depths d b L) = depths (suc d) (suc d) ((d, b) ∷ L)
behind closing (depths d b L) = outside L
behind cast (depths d b L) = deeper (outside L)
-- a counted statement begins with no operator pending, so the level of operators is raised with the depth
behind enter (depths d b L) = depths (suc d) (suc b) ((d, b) ∷ L)
behind leave (depths d b L) = outside L

-- a place in a reading: the depths, the rules of what is to come, and the tokens that are left
pub data State : Type 0 where
  reading : Depths → List Rule → List Token → State

-- one step: it reads tokens, whose depths it gives, or none; or there is no step
pub data Step : Type 0 where
  goes : List ℕ → State → Step
  halts : Step

-- One step of a reading.
abbrev pub pair_step : Bool → Depths → Rule → List Rule → Token → Token → List Token → Step
pair_step true D r K t u ts = goes (now D ∷ now (behind opening D) ∷ []) (reading (behind opening D) (r ∷ K) ts)
pair_step false D r K t u ts = goes [] (reading D K (t ∷ u ∷ ts))

module _ (rule : Part → Rule) where
  -- what comes next, by the first of the rules to come and the tokens that are left
  abbrev pub step : State → Step
  step (reading D [] ts) = halts
  step (reading D (r ∷ K) []) = halts
  step (reading D (nothing ∷ K) (t ∷ ts)) = goes [] (reading D K (t ∷ ts))
  step (reading D (tok e p ∷ K) (t ∷ ts)) = cond (p t.kind) (goes (now (behind e D) ∷ []) (reading (behind e D) K ts)) halts
  step (reading D (mark e ∷ K) (t ∷ ts)) = goes [] (reading (behind e D) K (t ∷ ts))
  step (reading D (part P ∷ K) (t ∷ ts)) = goes [] (reading D (rule P ∷ K) (t ∷ ts))
  step (reading D (by f ∷ K) (t ∷ ts)) = goes [] (reading D (rule (f t.kind) ∷ K) (t ∷ ts))
  step (reading D ((r · s) ∷ K) (t ∷ ts)) = goes [] (reading D (r ∷ s ∷ K) (t ∷ ts))
  step (reading D (choice p r s ∷ K) (t ∷ ts)) = goes [] (reading D (cond (p t.kind) r s ∷ K) (t ∷ ts))
  step (reading D (many p r ∷ K) (t ∷ ts)) = goes [] (reading D (cond (p t.kind) (r ∷ many p r ∷ K) K) (t ∷ ts))
  step (reading D (pair p q r ∷ K) (t ∷ [])) = goes [] (reading D K (t ∷ []))
  step (reading D (pair p q r ∷ K) (t ∷ u ∷ ts)) = pair_step (p t.kind && q u.kind) D r K t u ts

  -- The steps from one place to another, with the depth of each token read.
  pub data Reads : State → List ℕ → State → Type 0 where
    here : {s : State} → Reads s [] s
    onward : {s t u : State} {ds es : List ℕ} → step s ≡ goes ds t → Reads t es u → Reads s (ds ++ es) u
