-- The table of marks has each mark, the longest first.
use Rattle.std.proofs.Common.{◌≡◌, ◌≤◌, ◌<◌, ℕ, List, [], ◌∷◌, refl, sym, ap, ◌∙◌, get_or, length, arith, nat_le, zero-add, if◌then◌else◌, subst, Option, Some, None, MatchOption}
use Rattle.std.proofs.lemmas.List.{get_or-map}
use Rattle.std.proofs.lemmas.List.FromFn.{get_or-range_with_len}
use Rattle.xmp_lex.specs.Words.{mark_text, BeginsWith, IsMark}
use Rattle.xmp_lex.specs.Found.{IsFirst, IsNone}
use Rattle.xmp_lex.specs.declared.token.Mark.{Mark}
use Rattle.xmp_lex.specs.declared.token.Mark.TheVariants as m

abbrev pub table : List Mark
table = m.ShlAssign ∷ m.ShrAssign ∷ m.ShiftLeft ∷ m.ShiftRight ∷ m.LessEqual ∷ m.GreaterEqual ∷ m.Equal ∷ m.Differ ∷ m.AndAnd ∷ m.OrOr ∷ m.AddAssign ∷ m.SubAssign ∷ m.MulAssign ∷ m.DivAssign ∷ m.RemAssign ∷ m.AndAssign ∷ m.OrAssign ∷ m.XorAssign ∷ m.Increment ∷ m.Decrement ∷ m.Plus ∷ m.Minus ∷ m.Star ∷ m.Slash ∷ m.Percent ∷ m.Less ∷ m.Greater ∷ m.And ∷ m.Or ∷ m.Xor ∷ m.Tilde ∷ m.Bang ∷ m.Question ∷ m.Colon ∷ m.Assign ∷ m.OpenParen ∷ m.CloseParen ∷ m.OpenBracket ∷ m.CloseBracket ∷ m.OpenBrace ∷ m.CloseBrace ∷ m.Comma ∷ m.Semicolon ∷ []

abbrev pub place : Mark → ℕ
place m.Plus = 20
place m.Minus = 21
place m.Star = 22
place m.Slash = 23
place m.Percent = 24
place m.ShiftLeft = 2
place m.ShiftRight = 3
place m.Less = 25
place m.LessEqual = 4
place m.Greater = 26
place m.GreaterEqual = 5
place m.Equal = 6
place m.Differ = 7
place m.And = 27
place m.Or = 28
place m.Xor = 29
place m.Tilde = 30
place m.Bang = 31
place m.AndAnd = 8
place m.OrOr = 9
place m.Question = 32
place m.Colon = 33
place m.Assign = 34
place m.AddAssign = 10
place m.SubAssign = 11
place m.MulAssign = 12
place m.DivAssign = 13
place m.RemAssign = 14
place m.ShlAssign = 0
place m.ShrAssign = 1
place m.AndAssign = 15
place m.OrAssign = 16
place m.XorAssign = 17
place m.Increment = 18
place m.Decrement = 19
place m.OpenParen = 35
place m.CloseParen = 36
place m.OpenBracket = 37
place m.CloseBracket = 38
place m.OpenBrace = 39
place m.CloseBrace = 40
place m.Comma = 41
place m.Semicolon = 42

pub has : (x : Mark) → get_or table (place x) m.Plus ≡ x
has m.Plus = refl
has m.Minus = refl
has m.Star = refl
has m.Slash = refl
has m.Percent = refl
has m.ShiftLeft = refl
has m.ShiftRight = refl
has m.Less = refl
has m.LessEqual = refl
has m.Greater = refl
has m.GreaterEqual = refl
has m.Equal = refl
has m.Differ = refl
has m.And = refl
has m.Or = refl
has m.Xor = refl
has m.Tilde = refl
has m.Bang = refl
has m.AndAnd = refl
has m.OrOr = refl
has m.Question = refl
has m.Colon = refl
has m.Assign = refl
has m.AddAssign = refl
has m.SubAssign = refl
has m.MulAssign = refl
has m.DivAssign = refl
has m.RemAssign = refl
has m.ShlAssign = refl
has m.ShrAssign = refl
has m.AndAssign = refl
has m.OrAssign = refl
has m.XorAssign = refl
has m.Increment = refl
has m.Decrement = refl
has m.OpenParen = refl
has m.CloseParen = refl
has m.OpenBracket = refl
has m.CloseBracket = refl
has m.OpenBrace = refl
has m.CloseBrace = refl
has m.Comma = refl
has m.Semicolon = refl

pub place_below : (x : Mark) → place x < 43
place_below m.Plus = omega arith
place_below m.Minus = omega arith
place_below m.Star = omega arith
place_below m.Slash = omega arith
place_below m.Percent = omega arith
place_below m.ShiftLeft = omega arith
place_below m.ShiftRight = omega arith
place_below m.Less = omega arith
place_below m.LessEqual = omega arith
place_below m.Greater = omega arith
place_below m.GreaterEqual = omega arith
place_below m.Equal = omega arith
place_below m.Differ = omega arith
place_below m.And = omega arith
place_below m.Or = omega arith
place_below m.Xor = omega arith
place_below m.Tilde = omega arith
place_below m.Bang = omega arith
place_below m.AndAnd = omega arith
place_below m.OrOr = omega arith
place_below m.Question = omega arith
place_below m.Colon = omega arith
place_below m.Assign = omega arith
place_below m.AddAssign = omega arith
place_below m.SubAssign = omega arith
place_below m.MulAssign = omega arith
place_below m.DivAssign = omega arith
place_below m.RemAssign = omega arith
place_below m.ShlAssign = omega arith
place_below m.ShrAssign = omega arith
place_below m.AndAssign = omega arith
place_below m.OrAssign = omega arith
place_below m.XorAssign = omega arith
place_below m.Increment = omega arith
place_below m.Decrement = omega arith
place_below m.OpenParen = omega arith
place_below m.CloseParen = omega arith
place_below m.OpenBracket = omega arith
place_below m.CloseBracket = omega arith
place_below m.OpenBrace = omega arith
place_below m.CloseBrace = omega arith
place_below m.Comma = omega arith
place_below m.Semicolon = omega arith

-- the length of the mark at a place
abbrev pub long : ℕ → ℕ
long k = if nat_le k 1 then 3 else (if nat_le k 19 then 2 else 1)

pub long_is : (x : Mark) → length (mark_text x) ≡ long (place x)
long_is m.Plus = refl
long_is m.Minus = refl
long_is m.Star = refl
long_is m.Slash = refl
long_is m.Percent = refl
long_is m.ShiftLeft = refl
long_is m.ShiftRight = refl
long_is m.Less = refl
long_is m.LessEqual = refl
long_is m.Greater = refl
long_is m.GreaterEqual = refl
long_is m.Equal = refl
long_is m.Differ = refl
long_is m.And = refl
long_is m.Or = refl
long_is m.Xor = refl
long_is m.Tilde = refl
long_is m.Bang = refl
long_is m.AndAnd = refl
long_is m.OrOr = refl
long_is m.Question = refl
long_is m.Colon = refl
long_is m.Assign = refl
long_is m.AddAssign = refl
long_is m.SubAssign = refl
long_is m.MulAssign = refl
long_is m.DivAssign = refl
long_is m.RemAssign = refl
long_is m.ShlAssign = refl
long_is m.ShrAssign = refl
long_is m.AndAssign = refl
long_is m.OrAssign = refl
long_is m.XorAssign = refl
long_is m.Increment = refl
long_is m.Decrement = refl
long_is m.OpenParen = refl
long_is m.CloseParen = refl
long_is m.OpenBracket = refl
long_is m.CloseBracket = refl
long_is m.OpenBrace = refl
long_is m.CloseBrace = refl
long_is m.Comma = refl
long_is m.Semicolon = refl

pub place_at : (k : ℕ) → k < 43 → place (get_or table k m.Plus) ≡ k
place_at k h = sym (get_or-map place table k m.Plus 0 h) ∙ get_or-range_with_len 0 43 k 0 h ∙ zero-add k

pub long_falls : (j k : ℕ) → j ≤ k → long k ≤ long j
long_falls j k h = grind arith

pub is_mark : (text : List ℕ) (x : Mark) → IsFirst table text x → IsMark text x
is_mark text x f = record {
  here = f.here;
  longest = λ y b. longest y b;
} where
  at_is : place x ≡ f.at
  at_is = ap place f.is ∙ place_at f.at f.within

  longest : (y : Mark) → BeginsWith text (mark_text y) → length (mark_text y) ≤ length (mark_text x)
  longest y b =
      let no : (place y < f.at) → ⊥ = λ h. f.before (place y) h (subst (λ (z : Mark). BeginsWith text (mark_text z)) (sym (has y)) b) in
      let le : long (place y) ≤ long (place x) = long_falls (place x) (place y) (let e = at_is in omega arith) in
      subst (λ n. n ≤ length (mark_text x)) (sym (long_is y)) (subst (λ n. long (place y) ≤ n) (sym (long_is x)) le)

pub no_mark : (text : List ℕ) → IsNone table text 43 → (x : Mark) → BeginsWith text (mark_text x) → ⊥
no_mark text none x b = none (place x) (place_below x) (subst (λ (z : Mark). BeginsWith text (mark_text z)) (sym (has x)) b)

pub marked : (text : List ℕ) (o : Option Mark) → MatchOption o (IsNone table text 43) (λ x. IsFirst table text x) → MatchOption o ((x : Mark) → BeginsWith text (mark_text x) → ⊥) (λ x. IsMark text x)
marked text None h = no_mark text h
marked text (Some x) h = is_mark text x h

pub long_some : (k : ℕ) → 1 ≤ long k
long_some k = grind arith
