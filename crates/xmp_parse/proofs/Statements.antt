-- The statement that a token begins.
use Rattle.std.proofs.Common.{◌≡◌, ℕ, Bool, true, false, cond, List, [], ◌∷◌, length, refl, sym, ap, ◌∙◌, Option, None, Some}
use Rattle.xmp_lex.specs.declared.token.Token.{Token}
use Rattle.xmp_lex.specs.declared.token.TokenKind.{TokenKind}
use Rattle.xmp_lex.specs.declared.token.TokenKind.TheVariants as t
use Rattle.xmp_lex.specs.declared.token.Mark.{Mark}
use Rattle.xmp_lex.specs.declared.token.Mark.TheVariants as m
use Rattle.xmp_lex.specs.declared.token.Reserved.{Reserved}
use Rattle.xmp_lex.specs.declared.token.Reserved.TheVariants as w
use Rattle.xmp_syntax.specs.Parts as p
use Rattle.xmp_syntax.specs.Parts.{Part}
use Rattle.xmp_syntax.specs.Reading.{plain, Rule, tok, part, by, Depths, State, reading, goes}
use Rattle.xmp_syntax.specs.Grammar.{rule, is_mark, is_word, is_name, is_step, is_step_mark, is_pragma, statement_of}
use Rattle.xmp_syntax.specs.Steps.{StuckAt}
use Rattle.xmp_reader.specs.Going.{Comes}
use Rattle.xmp_reader.specs.Kinds.{next_is, next_kind}
use Rattle.xmp_parse.specs.Counted.{HoldsNone}
use Rattle.xmp_reader.proofs.Taking.{silent, one_stuck}

statement_by : (s : State) (D : Depths) (K : List Rule) (k : Token) (ts : List Token) (P : Part) → statement_of k.kind ≡ P → Comes s (reading D (part p.statement ∷ K) (k ∷ ts)) → Comes s (reading D (rule P ∷ K) (k ∷ ts))
statement_by s D K k ts P e c = silent s _ _ (ap (λ (x : Part). goes [] (reading D (rule x ∷ K) (k ∷ ts))) e) refl (silent s (reading D (part p.statement ∷ K) (k ∷ ts)) (reading D (by statement_of ∷ K) (k ∷ ts)) refl refl c)

-- by the kind of its first token
pub statement_at : {s : State} {D : Depths} {K : List Rule} {ts : List Token} (k : TokenKind) → next_kind ts ≡ Some k → Comes s (reading D (part p.statement ∷ K) ts) → Comes s (reading D (rule (statement_of k) ∷ K) ts)
statement_at {s = s} {D = D} {K = K} {ts = []} k h c = cc
statement_at {s = s} {D = D} {K = K} {ts = j ∷ ts} k h c = let z : j.kind ≡ k = cc in statement_by s D K j ts (statement_of k) (ap statement_of z) c

name_statement : (k : TokenKind) → is_name k ≡ true → statement_of k ≡ p.simple_statement
name_statement (t.Name n) h = refl
name_statement (t.Word a) h = cc
name_statement (t.Number a b) h = cc
name_statement (t.Text a) h = cc
name_statement (t.Mark a) h = cc
name_statement (t.Define a) h = cc
name_statement t.Pragma h = cc
name_statement t.Close h = cc
name_statement t.Finish h = cc

step_mark_statement : (x : Mark) → is_step_mark x ≡ true → statement_of (t.Mark x) ≡ p.simple_statement
step_mark_statement m.Plus h = cc
step_mark_statement m.Minus h = cc
step_mark_statement m.Star h = cc
step_mark_statement m.Slash h = cc
step_mark_statement m.Percent h = cc
step_mark_statement m.ShiftLeft h = cc
step_mark_statement m.ShiftRight h = cc
step_mark_statement m.Less h = cc
step_mark_statement m.LessEqual h = cc
step_mark_statement m.Greater h = cc
step_mark_statement m.GreaterEqual h = cc
step_mark_statement m.Equal h = cc
step_mark_statement m.Differ h = cc
step_mark_statement m.And h = cc
step_mark_statement m.Or h = cc
step_mark_statement m.Xor h = cc
step_mark_statement m.Tilde h = cc
step_mark_statement m.Bang h = cc
step_mark_statement m.AndAnd h = cc
step_mark_statement m.OrOr h = cc
step_mark_statement m.Question h = cc
step_mark_statement m.Colon h = cc
step_mark_statement m.Assign h = cc
step_mark_statement m.AddAssign h = cc
step_mark_statement m.SubAssign h = cc
step_mark_statement m.MulAssign h = cc
step_mark_statement m.DivAssign h = cc
step_mark_statement m.RemAssign h = cc
step_mark_statement m.ShlAssign h = cc
step_mark_statement m.ShrAssign h = cc
step_mark_statement m.AndAssign h = cc
step_mark_statement m.OrAssign h = cc
step_mark_statement m.XorAssign h = cc
step_mark_statement m.Increment h = refl
step_mark_statement m.Decrement h = refl
step_mark_statement m.OpenParen h = cc
step_mark_statement m.CloseParen h = cc
step_mark_statement m.OpenBracket h = cc
step_mark_statement m.CloseBracket h = cc
step_mark_statement m.OpenBrace h = cc
step_mark_statement m.CloseBrace h = cc
step_mark_statement m.Comma h = cc
step_mark_statement m.Semicolon h = cc

step_statement : (k : TokenKind) → is_step k ≡ true → statement_of k ≡ p.simple_statement
step_statement (t.Name n) h = cc
step_statement (t.Word a) h = cc
step_statement (t.Number a b) h = cc
step_statement (t.Text a) h = cc
step_statement (t.Mark a) h = step_mark_statement a h
step_statement (t.Define a) h = cc
step_statement t.Pragma h = cc
step_statement t.Close h = cc
step_statement t.Finish h = cc

pub named_statement : {s : State} {D : Depths} {K : List Rule} {ts : List Token} → next_is is_name ts ≡ true → Comes s (reading D (part p.statement ∷ K) ts) → Comes s (reading D (rule p.simple_statement ∷ K) ts)
named_statement {s = s} {D = D} {K = K} {ts = []} h c = cc
named_statement {s = s} {D = D} {K = K} {ts = k ∷ ts} h c = statement_by s D K k ts p.simple_statement (name_statement k.kind h) c

pub stepped_statement : {s : State} {D : Depths} {K : List Rule} {ts : List Token} → next_is is_step ts ≡ true → Comes s (reading D (part p.statement ∷ K) ts) → Comes s (reading D (rule p.simple_statement ∷ K) ts)
stepped_statement {s = s} {D = D} {K = K} {ts = []} h c = cc
stepped_statement {s = s} {D = D} {K = K} {ts = k ∷ ts} h c = statement_by s D K k ts p.simple_statement (step_statement k.kind h) c

no_mark_statement : (x : Mark) → is_mark m.OpenBrace (t.Mark x) ≡ false → is_mark m.Semicolon (t.Mark x) ≡ false → is_step_mark x ≡ false → statement_of (t.Mark x) ≡ p.no_part
no_mark_statement m.Plus a b c = refl
no_mark_statement m.Minus a b c = refl
no_mark_statement m.Star a b c = refl
no_mark_statement m.Slash a b c = refl
no_mark_statement m.Percent a b c = refl
no_mark_statement m.ShiftLeft a b c = refl
no_mark_statement m.ShiftRight a b c = refl
no_mark_statement m.Less a b c = refl
no_mark_statement m.LessEqual a b c = refl
no_mark_statement m.Greater a b c = refl
no_mark_statement m.GreaterEqual a b c = refl
no_mark_statement m.Equal a b c = refl
no_mark_statement m.Differ a b c = refl
no_mark_statement m.And a b c = refl
no_mark_statement m.Or a b c = refl
no_mark_statement m.Xor a b c = refl
no_mark_statement m.Tilde a b c = refl
no_mark_statement m.Bang a b c = refl
no_mark_statement m.AndAnd a b c = refl
no_mark_statement m.OrOr a b c = refl
no_mark_statement m.Question a b c = refl
no_mark_statement m.Colon a b c = refl
no_mark_statement m.Assign a b c = refl
no_mark_statement m.AddAssign a b c = refl
no_mark_statement m.SubAssign a b c = refl
no_mark_statement m.MulAssign a b c = refl
no_mark_statement m.DivAssign a b c = refl
no_mark_statement m.RemAssign a b c = refl
no_mark_statement m.ShlAssign a b c = refl
no_mark_statement m.ShrAssign a b c = refl
no_mark_statement m.AndAssign a b c = refl
no_mark_statement m.OrAssign a b c = refl
no_mark_statement m.XorAssign a b c = refl
no_mark_statement m.Increment a b c = cc
no_mark_statement m.Decrement a b c = cc
no_mark_statement m.OpenParen a b c = refl
no_mark_statement m.CloseParen a b c = refl
no_mark_statement m.OpenBracket a b c = refl
no_mark_statement m.CloseBracket a b c = refl
no_mark_statement m.OpenBrace a b c = cc
no_mark_statement m.CloseBrace a b c = refl
no_mark_statement m.Comma a b c = refl
no_mark_statement m.Semicolon a b c = cc

no_word_statement : (x : Reserved) → is_word w.If (t.Word x) ≡ false → is_word w.While (t.Word x) ≡ false → is_word w.For (t.Word x) ≡ false → is_word w.Return (t.Word x) ≡ false → is_word w.Printf (t.Word x) ≡ false → is_word w.Scanf (t.Word x) ≡ false → is_word w.SyncAll (t.Word x) ≡ false → statement_of (t.Word x) ≡ p.no_part
no_word_statement w.Int a b c d e f g = refl
no_word_statement w.Long a b c d e f g = refl
no_word_statement w.Void a b c d e f g = refl
no_word_statement w.If a b c d e f g = cc
no_word_statement w.Else a b c d e f g = refl
no_word_statement w.While a b c d e f g = cc
no_word_statement w.For a b c d e f g = cc
no_word_statement w.Return a b c d e f g = cc
no_word_statement w.Printf a b c d e f g = cc
no_word_statement w.Scanf a b c d e f g = cc
no_word_statement w.SyncAll a b c d e f g = cc

-- no statement begins with another token
no_statement_kind : (k : TokenKind) → is_mark m.OpenBrace k ≡ false → is_mark m.Semicolon k ≡ false → is_step k ≡ false
    → is_word w.If k ≡ false → is_word w.While k ≡ false → is_word w.For k ≡ false → is_word w.Return k ≡ false → is_word w.Printf k ≡ false → is_word w.Scanf k ≡ false → is_word w.SyncAll k ≡ false → is_pragma k ≡ false → is_name k ≡ false → statement_of k ≡ p.no_part
no_statement_kind (t.Name n) h i j a b c d e f g u v = cc
no_statement_kind (t.Word x) h i j a b c d e f g u v = no_word_statement x a b c d e f g
no_statement_kind (t.Number x y) h i j a b c d e f g u v = refl
no_statement_kind (t.Text x) h i j a b c d e f g u v = refl
no_statement_kind (t.Mark x) h i j a b c d e f g u v = no_mark_statement x h i j
no_statement_kind (t.Define x) h i j a b c d e f g u v = refl
no_statement_kind t.Pragma h i j a b c d e f g u v = cc
no_statement_kind t.Close h i j a b c d e f g u v = refl
no_statement_kind t.Finish h i j a b c d e f g u v = refl

pub no_statement : (s : State) (D : Depths) (K : List Rule) (ts : List Token) → HoldsNone ts → next_is (is_mark m.Semicolon) ts ≡ false → next_is (is_word w.Return) ts ≡ false → next_is (is_word w.Printf) ts ≡ false
    → next_is (is_word w.Scanf) ts ≡ false → next_is (is_word w.SyncAll) ts ≡ false → next_is is_step ts ≡ false → next_is is_name ts ≡ false
    → Comes s (reading D (part p.statement ∷ K) ts) → StuckAt s (length ts)
no_statement s D K [] a b d e f g h i c = let z = c.finish in cc
no_statement s D K (k ∷ ts) a b d e f g h i c = one_stuck plain (λ j. false) D K k ts s refl
    (statement_by s D K k ts p.no_part (no_statement_kind k.kind a.0 b h a.1 a.2 a.3 d e f g a.4 i) c)
