-- What the tokens do to the depths of a reading. Source: this project.
use Rattle.std.specs.Prelude.{◌≤◌, ℕ, suc, List, ◌∷◌, All, Result, Ok, Err}
use Rattle.std.specs.Prelude.{Bool}
use Rattle.xmp_lex.specs.declared.token.Mark.TheVariants as m
use Rattle.xmp_syntax.specs.Parts as p
use Rattle.xmp_syntax.specs.Grammar.{expr, is_mark, is_finish, rule}
use Rattle.xmp_syntax.specs.Reading.{part, Reads, Test, Rule, State, reading, Depths, depths, tok, plain, operator, separator, opening, closing, cast}
use Rattle.xmp_reader.specs.declared.reader.Reader.{Reader}
use Rattle.xmp_reader.specs.declared.reader.Stop.{Stop}
use Rattle.xmp_reader.specs.declared.depth.Depth.{Depth}
use Rattle.xmp_reader.specs.declared.effect.Effect.{Effect}
use Rattle.xmp_reader.specs.declared.effect.Effect.TheVariants as e
use Rattle.xmp_reader.specs.Going.{Comes, After, Refused, stands}

-- the rules for a token of this effect
abbrev pub taking : Effect → Test → List Rule → List Rule
taking e.Plain p K = tok plain p ∷ K
taking e.Operator p K = tok operator p ∷ K
taking e.Separator p K = tok separator p ∷ K
taking e.Opening p K = tok opening p ∷ K
taking (e.Closing o) p K = tok closing p ∷ K
taking (e.Cast o) p K = tok cast p ∷ K
taking e.Entering p K = tok plain p ∷ K

-- The depths before it, and around, before and behind it. The first token of a statement that is counted stands inside it.
abbrev pub now_before : Depth → Effect → ℕ
now_before d e.Entering = suc d.now
now_before d _ = d.now

abbrev pub base_before : Depth → Effect → ℕ
base_before d e.Entering = suc d.base
base_before d _ = d.base

abbrev pub around : Depth → Effect → List (ℕ × ℕ) → List (ℕ × ℕ)
around d (e.Closing o) L = (o.now, o.base) ∷ L
around d (e.Cast o) L = (o.now, o.base) ∷ L
around d e.Entering L = (d.now, d.base) ∷ L
around d _ L = L

abbrev pub around_behind : Depth → Effect → List (ℕ × ℕ) → List (ℕ × ℕ)
around_behind d e.Opening L = (d.now, d.base) ∷ L
around_behind d e.Entering L = (d.now, d.base) ∷ L
around_behind d _ L = L

-- A token is taken that passes the test.
abbrev pub Takes : {A : Type 0} → Effect → Test → Reader → Result (A × Reader) Stop → Type 0
Takes x p r result = (s : State) (L : List (ℕ × ℕ)) (K : List Rule) → Comes s (reading (depths (now_before r.depth x) (base_before r.depth x) (around r.depth x L)) (taking x p K) r.tokens.now) → After s (around_behind r.depth x L) K result

-- The colon and the bracket of an image are taken.
abbrev pub OpensImage : {A : Type 0} → Bool → Reader → Result (A × Reader) Stop → Type 0
OpensImage colon r result = (s : State) (L : List (ℕ × ℕ)) (K : List Rule) → Comes s (stands L (part (p.image colon) ∷ K) r)
    → After s ((r.depth.now, r.depth.base) ∷ L) (expr ∷ tok closing (is_mark m.CloseBracket) ∷ K) result

-- The end of the text is taken.
abbrev pub Ended : {A : Type 0} → State → List (ℕ × ℕ) → List Rule → Result (A × Reader) Stop → Type 0
Ended s L K (Ok x) = (ds : List ℕ) × Reads rule s ds (stands L K x.1) × All (λ d. d ≤ 128) ds
Ended s L K (Err f) = Refused s f

abbrev pub Finishes : {A : Type 0} → Reader → Result (A × Reader) Stop → Type 0
Finishes r result = (s : State) (L : List (ℕ × ℕ)) (K : List Rule) → Comes s (stands L (tok plain is_finish ∷ K) r) → Ended s L K result
