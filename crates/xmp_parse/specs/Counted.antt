-- The beginnings of statements. Source: ISO C 6.8, less what this project's language leaves out.
use Rattle.std.specs.Prelude.{◌≡◌, ℕ, List, ◌∷◌, Bool, false, not, Result}
use Rattle.xmp_lex.specs.declared.token.Token.{Token}
use Rattle.xmp_lex.specs.declared.token.Mark.TheVariants as m
use Rattle.xmp_lex.specs.declared.token.Reserved.{Reserved}
use Rattle.xmp_lex.specs.declared.token.Reserved.TheVariants as w
use Rattle.xmp_syntax.specs.Parts as p
use Rattle.xmp_syntax.specs.Reading.{Rule, State, part, mark, leave, ◌·◌}
use Rattle.xmp_syntax.specs.Grammar.{is_mark, is_word, is_pragma, word, parens, optional, expr, semicolon, counted}
use Rattle.xmp_reader.specs.declared.reader.Reader.{Reader}
use Rattle.xmp_reader.specs.declared.reader.Stop.{Stop}
use Rattle.xmp_reader.specs.Going.{Comes, After, stands}
use Rattle.xmp_reader.specs.Kinds.{next_is}

-- the three parts of `for` in parentheses
abbrev pub for_parts : Rule
for_parts = parens (optional (λ k. not (is_mark m.Semicolon k)) (part p.for_first) · semicolon
    · optional (λ k. not (is_mark m.Semicolon k)) expr · semicolon
    · optional (λ k. not (is_mark m.CloseParen k)) (part p.simple))

-- The word of a statement that is counted is read, and the part behind it, up to what the statement holds.
abbrev pub Enters : {A : Type 0} → Reserved → Rule → Reader → Result (A × Reader) Stop → Type 0
Enters x R r result = (s : State) (L : List (ℕ × ℕ)) (held : Rule) (K : List Rule) → Comes s (stands L (counted (word x · R · held) ∷ K) r)
    → After s ((r.depth.now, r.depth.base) ∷ L) (held ∷ mark leave ∷ K) result

-- No statement begins here that holds others, and no directive.
abbrev pub HoldsNone : List Token → Type 0
HoldsNone ts = (next_is (is_mark m.OpenBrace) ts ≡ false) × (next_is (is_word w.If) ts ≡ false) × (next_is (is_word w.While) ts ≡ false) × (next_is (is_word w.For) ts ≡ false) × (next_is is_pragma ts ≡ false)
