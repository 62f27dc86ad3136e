-- How marks and reserved words are spelled. Source: ISO C 6.4.1 and 6.4.6, less what this project's language leaves out.
use Rattle.std.specs.Prelude.{◌≡◌, ◌≤◌, ℕ, List, codes, length, take}
use Rattle.xmp_lex.specs.declared.token.Mark.{Mark}
use Rattle.xmp_lex.specs.declared.token.Mark.TheVariants as m
use Rattle.xmp_lex.specs.declared.token.Reserved.{Reserved}
use Rattle.xmp_lex.specs.declared.token.Reserved.TheVariants as w

abbrev pub mark_text : Mark → List ℕ
mark_text m.Plus = codes "+"
mark_text m.Minus = codes "-"
mark_text m.Star = codes "*"
mark_text m.Slash = codes "/"
mark_text m.Percent = codes "%"
mark_text m.ShiftLeft = codes "<<"
mark_text m.ShiftRight = codes ">>"
mark_text m.Less = codes "<"
mark_text m.LessEqual = codes "<="
mark_text m.Greater = codes ">"
mark_text m.GreaterEqual = codes ">="
mark_text m.Equal = codes "=="
mark_text m.Differ = codes "!="
mark_text m.And = codes "&"
mark_text m.Or = codes "|"
mark_text m.Xor = codes "^"
mark_text m.Tilde = codes "~"
mark_text m.Bang = codes "!"
mark_text m.AndAnd = codes "&&"
mark_text m.OrOr = codes "||"
mark_text m.Question = codes "?"
mark_text m.Colon = codes ":"
mark_text m.Assign = codes "="
mark_text m.AddAssign = codes "+="
mark_text m.SubAssign = codes "-="
mark_text m.MulAssign = codes "*="
mark_text m.DivAssign = codes "/="
mark_text m.RemAssign = codes "%="
mark_text m.ShlAssign = codes "<<="
mark_text m.ShrAssign = codes ">>="
mark_text m.AndAssign = codes "&="
mark_text m.OrAssign = codes "|="
mark_text m.XorAssign = codes "^="
mark_text m.Increment = codes "++"
mark_text m.Decrement = codes "--"
mark_text m.OpenParen = codes "("
mark_text m.CloseParen = codes ")"
mark_text m.OpenBracket = codes "["
mark_text m.CloseBracket = codes "]"
mark_text m.OpenBrace = codes "{"
mark_text m.CloseBrace = codes "}"
mark_text m.Comma = codes ","
mark_text m.Semicolon = codes ";"

abbrev pub word_text : Reserved → List ℕ
word_text w.Int = codes "int"
word_text w.Long = codes "long"
word_text w.Void = codes "void"
word_text w.If = codes "if"
word_text w.Else = codes "else"
word_text w.While = codes "while"
word_text w.For = codes "for"
word_text w.Return = codes "return"
word_text w.Printf = codes "printf"
word_text w.Scanf = codes "scanf"
word_text w.SyncAll = codes "xmp_sync_all"

-- the text begins with these bytes
abbrev pub BeginsWith : List ℕ → List ℕ → Type 0
BeginsWith text bytes = take (length bytes) text ≡ bytes

-- the longest mark at the front
pub record IsMark (text : List ℕ) (x : Mark) : Type 0 where
  pub here : BeginsWith text (mark_text x)
  pub longest : (y : Mark) → BeginsWith text (mark_text y) → length (mark_text y) ≤ length (mark_text x)
