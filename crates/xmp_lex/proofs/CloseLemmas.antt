-- Lines of tokens: each Define has its Close.
use Rattle.std.proofs.Common.{◌≡◌, ◌≢◌, ◌<◌, ◌+◌, ◌++◌, ℕ, suc, List, [], ◌∷◌, length, take, drop, get_or, refl, sym, ap, ◌∙◌, arith, true, false, Some, None, slice_get, true≢false, drop-cons, drop-drop, length-append, length-take}
use Rattle.std.proofs.lemmas.List.{take-append-drop, get_or-take}
use Rattle.std.proofs.lemmas.List.Elements.{All-nil, All-cons}
use Rattle.std.proofs.lemmas.Option.{slice_get-get_or}
use Rattle.std.proofs.Math.Seq.{get_or-append_seam}
use Rattle.xmp_lex.specs.declared.token.Token.{Token}
use Rattle.xmp_lex.specs.declared.token.TokenKind.{TokenKind}
use Rattle.xmp_lex.specs.declared.token.TokenKind.TheVariants as t
use Rattle.xmp_lex.specs.Expand.{Definition, body_of, IsBody}
use Rattle.xmp_lex.specs.Lines.{Closes, closes, IsFinished}
use Rattle.xmp_lex.specs.Output.{is_close}

pub close_is : (k : TokenKind) → is_close k ≡ true → k ≡ t.Close
close_is (t.Name n) e = absurd (true≢false (sym e))
close_is (t.Word w) e = absurd (true≢false (sym e))
close_is (t.Number v ty) e = absurd (true≢false (sym e))
close_is (t.Text bytes) e = absurd (true≢false (sym e))
close_is (t.Mark m) e = absurd (true≢false (sym e))
close_is (t.Define n) e = absurd (true≢false (sym e))
close_is t.Pragma e = absurd (true≢false (sym e))
close_is t.Close e = refl
close_is t.Finish e = absurd (true≢false (sym e))

pub close_not : (k : TokenKind) → is_close k ≡ false → k ≢ t.Close
close_not k f e = true≢false (sym (ap is_close e) ∙ f)

-- the line up to its Close
pub record Line (ts : List Token) : Type 0 where
  pub body : List Token
  pub close : Token
  pub rest : List Token
  pub line : ts ≡ body ++ close ∷ rest
  pub is_body : IsBody body
  pub closes : close.kind ≡ t.Close

pub line_of : (ts : List Token) → Closes ts → Line ts
line_of [] h = absurd h
line_of (x ∷ ts) h = by x.kind refl h (λ g. line_of ts g) where
  more : (x.kind ≢ t.Close) → Line ts → Line (x ∷ ts)
  more n l = record { body = x ∷ l.body; close = l.close; rest = l.rest; line = ap (λ us. x ∷ us) l.line; is_body = All-cons (λ (y : Token). y.kind ≢ t.Close) x l.body n l.is_body; closes = l.closes }

  other : (k : TokenKind) → x.kind ≡ k → is_close k ≡ false → Line ts → Line (x ∷ ts)
  other k e f l = more (close_not x.kind (ap is_close e ∙ f)) l

  by : (k : TokenKind) → x.kind ≡ k → closes k (Closes ts) → (Closes ts → Line ts) → Line (x ∷ ts)
  by (t.Name n) e g next = other _ e refl (next g)
  by (t.Word w) e g next = other _ e refl (next g)
  by (t.Number v ty) e g next = other _ e refl (next g)
  by (t.Text bytes) e g next = other _ e refl (next g)
  by (t.Mark m) e g next = other _ e refl (next g)
  by (t.Define n) e g next = absurd g
  by t.Pragma e g next = absurd g
  by t.Close e g next = record { body = []; close = x; rest = ts; line = refl; is_body = All-nil (λ (y : Token). y.kind ≢ t.Close); closes = e }
  by t.Finish e g next = absurd g

-- tokens before a line's Close are no Close: what is left of the line
pub left_open : (body : List Token) (x : Token) (rest : List Token) → is_close x.kind ≡ false → Closes (x ∷ rest) → Closes rest
left_open body x rest f h = by x.kind f h where
  by : (k : TokenKind) → is_close k ≡ false → closes k (Closes rest) → Closes rest
  by (t.Name n) e g = g
  by (t.Word w) e g = g
  by (t.Number v ty) e g = g
  by (t.Text bytes) e g = g
  by (t.Mark m) e g = g
  by (t.Define n) e g = absurd g
  by t.Pragma e g = absurd g
  by t.Close e g = absurd (true≢false e)
  by t.Finish e g = absurd g

-- tokens that end in a Finish
fin_cons : (x : Token) (ts : List Token) → IsFinished ts → IsFinished (x ∷ ts)
fin_cons x [] h = absurd h
fin_cons x (y ∷ ts) h = h

pub fin_append : (ss ts : List Token) → IsFinished ts → IsFinished (ss ++ ts)
fin_append [] ts h = h
fin_append (x ∷ ss) ts h = fin_cons x (ss ++ ts) (fin_append ss ts h)
