-- How tokens stand in lines: a definition ends at a Close, and a text at a Finish.
use Rattle.std.specs.Prelude.{◌≡◌, List, [], ◌∷◌, ⊤}
use Rattle.xmp_lex.specs.declared.token.Token.{Token}
use Rattle.xmp_lex.specs.declared.token.TokenKind.{TokenKind}
use Rattle.xmp_lex.specs.declared.token.TokenKind.TheVariants as t

-- The last token is a Finish.
abbrev pub IsFinished : List Token → Type 0
IsFinished [] = ⊥
IsFinished (x ∷ []) = x.kind ≡ t.Finish
IsFinished (x ∷ y ∷ ts) = IsFinished (y ∷ ts)

-- a Close comes before the next Define, Pragma or Finish; `rest` says it of what follows
abbrev pub closes : TokenKind → Type 0 → Type 0
closes t.Close rest = ⊤
closes (t.Define name) rest = ⊥
closes t.Pragma rest = ⊥
closes t.Finish rest = ⊥
closes _ rest = rest

abbrev pub Closes : List Token → Type 0
Closes [] = ⊥
Closes (x ∷ ts) = closes x.kind (Closes ts)

abbrev pub IsClosedBehind : TokenKind → List Token → Type 0
IsClosedBehind (t.Define name) ts = Closes ts
IsClosedBehind _ ts = ⊤

-- Each Define has a Close behind it, with no Define, Pragma or Finish between them.
abbrev pub IsClosed : List Token → Type 0
IsClosed [] = ⊤
IsClosed (x ∷ ts) = IsClosedBehind x.kind ts × IsClosed ts
