-- What the depth of a token counts, by looking back from it: the brackets and the counted statements that are open there, and the
-- operators of each open level behind which no comma or semicolon of that level stands. Source: this project.
use Rattle.std.specs.Prelude.{◌≡◌, ◌&&◌, ℕ, zero, suc, Bool, true, false, cond, List, [], ◌∷◌, ◌++◌}
use Rattle.xmp_syntax.specs.Reading.{Effect, plain, operator, separator, opening, closing, cast, enter, leave, tok, mark, pair, State, reading, goes, step}
use Rattle.xmp_syntax.specs.Grammar.{rule}

-- The parts that are open behind tokens of these effects, the last first. `separated`: a separator of this level stands behind them, so
-- its operators don't count. `closed`: so many brackets or statements that are closed are to be passed by.
abbrev pub open_back : Bool → ℕ → List Effect → ℕ
open_back separated closed [] = 0
open_back separated zero (plain ∷ es) = open_back separated zero es
open_back separated zero (operator ∷ es) = cond separated (open_back separated zero es) (suc (open_back separated zero es))
open_back separated zero (separator ∷ es) = open_back true zero es
open_back separated zero (opening ∷ es) = suc (open_back false zero es)
open_back separated zero (closing ∷ es) = open_back separated (suc zero) es
open_back separated zero (cast ∷ es) = cond separated (open_back separated (suc zero) es) (suc (open_back separated (suc zero) es))
open_back separated zero (enter ∷ es) = suc (open_back separated zero es)
open_back separated zero (leave ∷ es) = open_back separated (suc zero) es
open_back separated (suc n) (plain ∷ es) = open_back separated (suc n) es
open_back separated (suc n) (operator ∷ es) = open_back separated (suc n) es
open_back separated (suc n) (separator ∷ es) = open_back separated (suc n) es
open_back separated (suc n) (opening ∷ es) = open_back separated n es
open_back separated (suc n) (closing ∷ es) = open_back separated (suc (suc n)) es
open_back separated (suc n) (cast ∷ es) = open_back separated (suc (suc n)) es
open_back separated (suc n) (enter ∷ es) = open_back separated n es
open_back separated (suc n) (leave ∷ es) = open_back separated (suc (suc n)) es

-- the number of the parts that are open behind tokens of these effects, the last first
abbrev pub open_parts : List Effect → ℕ
open_parts es = open_back false zero es

-- The effects that a step passes, the last first, and the counts at the tokens that it reads, behind those of these effects.
abbrev pub passed : State → List Effect
passed (reading D (tok e q ∷ K) (t ∷ ts)) = e ∷ []
passed (reading D (mark e ∷ K) (t ∷ ts)) = e ∷ []
passed (reading D (pair p q r ∷ K) (t ∷ u ∷ ts)) = cond (p t.kind && q u.kind) (opening ∷ plain ∷ []) []
passed _ = []

abbrev pub counts : State → List Effect → List ℕ
counts (reading D (tok e q ∷ K) (t ∷ ts)) es = open_parts (e ∷ es) ∷ []
counts (reading D (pair p q r ∷ K) (t ∷ u ∷ ts)) es = cond (p t.kind && q u.kind) (open_parts (plain ∷ es) ∷ open_parts (opening ∷ plain ∷ es) ∷ []) []
counts _ es = []

-- The steps from one place to another, behind tokens of these effects, with the number of open parts at each token read.
pub data Counts : State → List Effect → List ℕ → State → Type 0 where
  here : {s : State} {es : List Effect} → Counts s es [] s
  onward : {s t u : State} {es : List Effect} {ds ms : List ℕ} → step rule s ≡ goes ds t → Counts t (passed s ++ es) ms u
      → Counts s es (counts s es ++ ms) u
