-- What a token is that passes a test.
use Rattle.std.proofs.Common.{◌≡◌, ℕ, zero, suc, Bool, true, false, ◌==◌, ◌&&◌, List, [], ◌∷◌, refl, sym, ap, ◌∙◌, arith}
use Rattle.std.specs.Prelude.{ℤ}
use Rattle.xmp_num.specs.declared.types.Ty.{Ty}
use Rattle.xmp_num.specs.declared.types.Ty.TheVariants as ty
use Rattle.xmp_lex.specs.declared.token.Token.{Token}
use Rattle.xmp_lex.specs.declared.token.TokenKind.{TokenKind}
use Rattle.xmp_lex.specs.declared.token.TokenKind.TheVariants as t
use Rattle.xmp_lex.specs.declared.token.Mark.{Mark}
use Rattle.xmp_lex.specs.declared.token.Mark.TheVariants as m
use Rattle.xmp_lex.specs.declared.token.Reserved.{Reserved}
use Rattle.xmp_lex.specs.declared.token.Reserved.TheVariants as w
use Rattle.xmp_syntax.specs.Grammar.{mark_code, word_code, same_text, is_mark, is_word, is_spelled, is_name, is_text, is_number, is_type, is_pragma, is_close, is_finish, mark_binds, binary, is_unary, is_unary_mark, is_step, is_step_mark, is_assign, is_assign_mark, is_offset, is_offset_mark, is_reduction, is_reduction_mark}
use Rattle.xmp_syntax.specs.Spell.{◌at◌, type_word}
use Rattle.xmp_syntax.proofs.TokenFacts.{same_code}

abbrev nth : {A : Type 0} → A → List A → ℕ → A
nth d [] n = d
nth d (x ∷ xs) zero = x
nth d (x ∷ xs) (suc n) = nth d xs n

-- the mark and the reserved word of a number
abbrev mark_at : ℕ → Mark
mark_at n = nth m.Plus (m.Plus ∷ m.Minus ∷ m.Star ∷ m.Slash ∷ m.Percent ∷ m.ShiftLeft ∷ m.ShiftRight ∷ m.Less ∷ m.LessEqual ∷ m.Greater ∷ m.GreaterEqual ∷ m.Equal ∷ m.Differ ∷ m.And
    ∷ m.Or ∷ m.Xor ∷ m.Tilde ∷ m.Bang ∷ m.AndAnd ∷ m.OrOr ∷ m.Question ∷ m.Colon ∷ m.Assign ∷ m.AddAssign ∷ m.SubAssign ∷ m.MulAssign ∷ m.DivAssign ∷ m.RemAssign ∷ m.ShlAssign ∷ m.ShrAssign
    ∷ m.AndAssign ∷ m.OrAssign ∷ m.XorAssign ∷ m.Increment ∷ m.Decrement ∷ m.OpenParen ∷ m.CloseParen ∷ m.OpenBracket ∷ m.CloseBracket ∷ m.OpenBrace ∷ m.CloseBrace ∷ m.Comma ∷ m.Semicolon ∷ []) n

mark_back : (a : Mark) → mark_at (mark_code a) ≡ a
mark_back m.Plus = refl
mark_back _ = refl

abbrev word_at : ℕ → Reserved
word_at n = nth w.Int (w.Int ∷ w.Long ∷ w.Void ∷ w.If ∷ w.Else ∷ w.While ∷ w.For ∷ w.Return ∷ w.Printf ∷ w.Scanf ∷ w.SyncAll ∷ []) n

word_back : (a : Reserved) → word_at (word_code a) ≡ a
word_back w.Int = refl
word_back _ = refl

same_mark : (a b : Mark) → (mark_code a == mark_code b) ≡ true → a ≡ b
same_mark a b e = sym (mark_back a) ∙ ap mark_at (same_code (mark_code a) (mark_code b) e) ∙ mark_back b

same_word : (a b : Reserved) → (word_code a == word_code b) ≡ true → a ≡ b
same_word a b e = sym (word_back a) ∙ ap word_at (same_code (word_code a) (word_code b) e) ∙ word_back b

both : (x y : Bool) → x && y ≡ true → (x ≡ true) × (y ≡ true)
both true true e = (refl, refl)
both true false e = cc
both false y e = cc

same_bytes : (a b : List ℕ) → same_text a b ≡ true → a ≡ b
same_bytes [] [] e = refl
same_bytes [] (b ∷ bs) e = cc
same_bytes (a ∷ as') [] e = cc
same_bytes (a ∷ as') (b ∷ bs) e =
    let w = both (a == b) (same_text as' bs) e in
    ap (λ x. x ∷ as') (same_code a b w.0) ∙ ap (λ l. b ∷ l) (same_bytes as' bs w.1)

mark_kind : (x : Mark) (k : TokenKind) → is_mark x k ≡ true → k ≡ t.Mark x
mark_kind x (t.Mark a) e = ap (λ j. t.Mark j) (sym (same_mark x a e))
mark_kind x _ e = cc

word_kind : (x : Reserved) (k : TokenKind) → is_word x k ≡ true → k ≡ t.Word x
word_kind x (t.Word a) e = ap (λ j. t.Word j) (sym (same_word x a e))
word_kind x _ e = cc

spelled_kind : (x : List ℕ) (k : TokenKind) → is_spelled x k ≡ true → k ≡ t.Name x
spelled_kind x (t.Name a) e = ap (λ j. t.Name j) (sym (same_bytes x a e))
spelled_kind x _ e = cc

-- the token of a kind
of_kind : (x : Token) (k : TokenKind) → x.kind ≡ k → x ≡ k at x.at
of_kind x k e = ap (λ j. j at x.at) e

pub mark_token : (x : Mark) (y : Token) → is_mark x y.kind ≡ true → y ≡ t.Mark x at y.at
mark_token x y e = of_kind y (t.Mark x) (mark_kind x y.kind e)

pub word_token : (x : Reserved) (y : Token) → is_word x y.kind ≡ true → y ≡ t.Word x at y.at
word_token x y e = of_kind y (t.Word x) (word_kind x y.kind e)

pub spelled_token : (x : List ℕ) (y : Token) → is_spelled x y.kind ≡ true → y ≡ t.Name x at y.at
spelled_token x y e = of_kind y (t.Name x) (spelled_kind x y.kind e)

pub pragma_token : (y : Token) → is_pragma y.kind ≡ true → y ≡ t.Pragma at y.at
pragma_token y e = of_kind y t.Pragma (kind y.kind e)
  where
    kind : (k : TokenKind) → is_pragma k ≡ true → k ≡ t.Pragma
    kind t.Pragma e = refl
    kind _ e = cc

pub close_token : (y : Token) → is_close y.kind ≡ true → y ≡ t.Close at y.at
close_token y e = of_kind y t.Close (kind y.kind e)
  where
    kind : (k : TokenKind) → is_close k ≡ true → k ≡ t.Close
    kind t.Close e = refl
    kind _ e = cc

pub finish_token : (y : Token) → is_finish y.kind ≡ true → y ≡ t.Finish at y.at
finish_token y e = of_kind y t.Finish (kind y.kind e)
  where
    kind : (k : TokenKind) → is_finish k ≡ true → k ≡ t.Finish
    kind t.Finish e = refl
    kind _ e = cc

pub name_token : (y : Token) → is_name y.kind ≡ true → (n : List ℕ) × (y ≡ t.Name n at y.at)
name_token y e = let w = kind y.kind e in (w.0, of_kind y (t.Name w.0) w.1)
  where
    kind : (k : TokenKind) → is_name k ≡ true → (n : List ℕ) × (k ≡ t.Name n)
    kind (t.Name n) e = (n, refl)
    kind _ e = cc

pub text_token : (y : Token) → is_text y.kind ≡ true → (n : List ℕ) × (y ≡ t.Text n at y.at)
text_token y e = let w = kind y.kind e in (w.0, of_kind y (t.Text w.0) w.1)
  where
    kind : (k : TokenKind) → is_text k ≡ true → (n : List ℕ) × (k ≡ t.Text n)
    kind (t.Text n) e = (n, refl)
    kind _ e = cc

pub number_token : (y : Token) → is_number y.kind ≡ true → (n : ℤ) × (v : Ty) × (y ≡ t.Number n v at y.at)
number_token y e = let w = kind y.kind e in (w.0, w.1, of_kind y (t.Number w.0 w.1) w.2)
  where
    kind : (k : TokenKind) → is_number k ≡ true → (n : ℤ) × (v : Ty) × (k ≡ t.Number n v)
    kind (t.Number n v) e = (n, v, refl)
    kind _ e = cc

pub type_token : (y : Token) → is_type y.kind ≡ true → (v : Ty) × (y ≡ t.Word (type_word v) at y.at)
type_token y e = let w = kind y.kind e in (w.0, of_kind y (t.Word (type_word w.0)) w.1)
  where
    word : (x : Reserved) → is_type (t.Word x) ≡ true → (v : Ty) × (t.Word x ≡ t.Word (type_word v))
    word w.Int e = (ty.Int, refl)
    word w.Long e = (ty.Long, refl)
    word _ e = cc

    kind : (k : TokenKind) → is_type k ≡ true → (v : Ty) × (k ≡ t.Word (type_word v))
    kind (t.Word x) e = word x e
    kind _ e = cc

pub unary_token : (y : Token) → is_unary y.kind ≡ true → (o : Mark) × (is_unary_mark o ≡ true) × (y ≡ t.Mark o at y.at)
unary_token y e = let w = kind y.kind e in (w.0, w.1, of_kind y (t.Mark w.0) w.2)
  where
    kind : (k : TokenKind) → is_unary k ≡ true → (o : Mark) × (is_unary_mark o ≡ true) × (k ≡ t.Mark o)
    kind (t.Mark o) e = (o, e, refl)
    kind _ e = cc

pub step_token : (y : Token) → is_step y.kind ≡ true → (o : Mark) × (is_step_mark o ≡ true) × (y ≡ t.Mark o at y.at)
step_token y e = let w = kind y.kind e in (w.0, w.1, of_kind y (t.Mark w.0) w.2)
  where
    kind : (k : TokenKind) → is_step k ≡ true → (o : Mark) × (is_step_mark o ≡ true) × (k ≡ t.Mark o)
    kind (t.Mark o) e = (o, e, refl)
    kind _ e = cc

pub assign_token : (y : Token) → is_assign y.kind ≡ true → (o : Mark) × (is_assign_mark o ≡ true) × (y ≡ t.Mark o at y.at)
assign_token y e = let w = kind y.kind e in (w.0, w.1, of_kind y (t.Mark w.0) w.2)
  where
    kind : (k : TokenKind) → is_assign k ≡ true → (o : Mark) × (is_assign_mark o ≡ true) × (k ≡ t.Mark o)
    kind (t.Mark o) e = (o, e, refl)
    kind _ e = cc

pub offset_token : (y : Token) → is_offset y.kind ≡ true → (o : Mark) × (is_offset_mark o ≡ true) × (y ≡ t.Mark o at y.at)
offset_token y e = let w = kind y.kind e in (w.0, w.1, of_kind y (t.Mark w.0) w.2)
  where
    kind : (k : TokenKind) → is_offset k ≡ true → (o : Mark) × (is_offset_mark o ≡ true) × (k ≡ t.Mark o)
    kind (t.Mark o) e = (o, e, refl)
    kind _ e = cc

pub reduction_token : (y : Token) → is_reduction y.kind ≡ true → (o : Mark) × (is_reduction_mark o ≡ true) × (y ≡ t.Mark o at y.at)
reduction_token y e = let w = kind y.kind e in (w.0, w.1, of_kind y (t.Mark w.0) w.2)
  where
    kind : (k : TokenKind) → is_reduction k ≡ true → (o : Mark) × (is_reduction_mark o ≡ true) × (k ≡ t.Mark o)
    kind (t.Mark o) e = (o, e, refl)
    kind _ e = cc

pub binary_token : (n : ℕ) (y : Token) → binary (suc n) y.kind ≡ true → (o : Mark) × (mark_binds o ≡ suc n) × (y ≡ t.Mark o at y.at)
binary_token n y e = let w = kind y.kind e in (w.0, w.1, of_kind y (t.Mark w.0) w.2)
  where
    no_operator : 0 == suc n ≡ true → ⊥
    no_operator h = let z = same_code 0 (suc n) h in absurd (omega arith)

    kind : (k : TokenKind) → binary (suc n) k ≡ true → (o : Mark) × (mark_binds o ≡ suc n) × (k ≡ t.Mark o)
    kind (t.Mark o) e = (o, same_code (mark_binds o) (suc n) e, refl)
    kind _ e = absurd (no_operator e)
