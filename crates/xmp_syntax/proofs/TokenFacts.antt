-- Facts on the kinds of tokens.
use Rattle.std.proofs.Common.{◌≡◌, ◌≤◌, ◌<◌, ℕ, zero, suc, Bool, true, false, ◌==◌, ◌||◌, ◌&&◌, nat_le, List, [], ◌∷◌, ◌⊎◌, inl, inr, refl, sym, ap, ◌∙◌, subst, arith}
use Rattle.std.specs.Prelude.{not, ⊤}
use Rattle.std.proofs.lemmas.Bool.Decides.{nat_tests}
use Rattle.xmp_base.specs.declared.place.Place.{Place}
use Rattle.xmp_lex.specs.declared.token.Token.{Token}
use Rattle.xmp_lex.specs.declared.token.TokenKind.{TokenKind}
use Rattle.xmp_lex.specs.declared.token.TokenKind.TheVariants as t
use Rattle.xmp_lex.specs.declared.token.Mark.{Mark}
use Rattle.xmp_lex.specs.declared.token.Mark.TheVariants as m
use Rattle.xmp_syntax.specs.Parts as p
use Rattle.xmp_syntax.specs.Reading.{Test}
use Rattle.xmp_syntax.specs.Grammar.{is_mark, is_offset, mark_code, mark_binds, binds, binary, is_type, is_unary_mark, operand_of}
use Rattle.xmp_syntax.specs.Spell.{◌at◌}
use Rattle.xmp_syntax.proofs.Done.{Is, Not}

-- the numbers of the marks by which an expression begins: `( + - ~ !`
abbrev pub starts_code : ℕ → Bool
starts_code c = c == 35 || c == 0 || c == 1 || c == 16 || c == 17

-- the tokens by which an expression begins
abbrev pub starts : Test
starts (t.Number n ty) = true
starts (t.Name n) = true
starts (t.Mark x) = starts_code (mark_code x)
starts _ = false

pub same_code : (a b : ℕ) → a == b ≡ true → a ≡ b
same_code a b e = grind (arith, nat_tests)

pub true_or_false : (b : Bool) → (b ≡ true) ⊎ (b ≡ false)
true_or_false true = inl refl
true_or_false false = inr refl

pub differ : (f : ℕ → Bool) (a b : ℕ) → f a ≡ false → f b ≡ true → a == b ≡ false
differ f a b h k = elim (true_or_false (a == b)) [
  | inl q ↦ (let w : f a ≡ f b = ap f (same_code a b q) in cc)
  | inr q ↦ q
]

pub starts_other : (kind : TokenKind) (x : Mark) → starts kind ≡ true → starts_code (mark_code x) ≡ false → is_mark x kind ≡ false
starts_other (t.Mark y) x s h = differ starts_code (mark_code x) (mark_code y) h s
starts_other _ x s h = refl

pub starts_no_type : (kind : TokenKind) → starts kind ≡ true → is_type kind ≡ false
starts_no_type (t.Word x) s = cc
starts_no_type _ s = refl

pub unary_starts : (op : Mark) → is_unary_mark op ≡ true → starts (t.Mark op) ≡ true
unary_starts m.Plus e = refl
unary_starts m.Minus e = refl
unary_starts m.Tilde e = refl
unary_starts m.Bang e = refl
unary_starts _ e = cc

pub unary_part : (op : Mark) (c : Bool) → is_unary_mark op ≡ true → operand_of c (t.Mark op) ≡ p.unary c
unary_part m.Plus c e = refl
unary_part m.Minus c e = refl
unary_part m.Tilde c e = refl
unary_part m.Bang c e = refl
unary_part _ c e = cc

-- an operator of a level or a tighter one
abbrev pub within : ℕ → Test
within n kind = nat_le 1 (binds kind) && nat_le (binds kind) n

-- the sign of an offset is an operator
pub not_offset : (kind : TokenKind) → within 10 kind ≡ false → is_offset kind ≡ false
not_offset (t.Mark m.Plus) h = cc
not_offset (t.Mark m.Minus) h = cc
not_offset (t.Mark _) h = refl
not_offset _ h = refl

abbrev pub ColonFree : Bool → TokenKind → List Token → Type 0
ColonFree false kind ts = is_mark m.Colon kind ≡ false
ColonFree true kind [] = ⊤
ColonFree true kind (u ∷ us) = is_mark m.Colon kind && is_mark m.OpenBracket u.kind ≡ false

-- The next token doesn't go on with an operand of the level.
abbrev pub Ends : ℕ → Bool → List Token → Type 0
Ends n c [] = ⊥
Ends n c (t ∷ ts) = (is_mark m.OpenParen t.kind ≡ false) × (is_mark m.OpenBracket t.kind ≡ false) × (within n t.kind ≡ false) × ColonFree c t.kind ts

-- nor with an expression
abbrev pub EndsExpr : Bool → List Token → Type 0
EndsExpr c us = Ends 10 c us × Not (is_mark m.Question) us

below_level : (b n : ℕ) → nat_le 1 b && nat_le b (suc n) ≡ false → nat_le 1 b && nat_le b n ≡ false
below_level b n h = grind (arith, nat_tests)

not_level : (b n : ℕ) → nat_le 1 b && nat_le b (suc n) ≡ false → b == suc n ≡ false
not_level b n h = grind (arith, nat_tests)

above_level : (b n : ℕ) → b ≡ suc n → nat_le 1 b && nat_le b n ≡ false
above_level b n h = grind (arith, nat_tests)

is_level : (b n : ℕ) → b ≡ n → b == n ≡ true
is_level b n h = grind (arith, nat_tests)

pub no_operator : (n : ℕ) → 0 == suc n ≡ false
no_operator n = grind (arith, nat_tests)

pub ends_less : (n : ℕ) (c : Bool) (us : List Token) → Ends (suc n) c us → Ends n c us
ends_less n c [] e = e
ends_less n c (t ∷ ts) e = (e.0, e.1, below_level (binds t.kind) n e.2, e.3)

pub ends_binary : (n : ℕ) (c : Bool) (us : List Token) → Ends (suc n) c us → Not (binary (suc n)) us
ends_binary n c [] e = e
ends_binary n c (t ∷ ts) e = not_level (binds t.kind) n e.2

op_other : (op : Mark) (n : ℕ) → mark_binds op ≡ suc n
    → (mark_code m.OpenParen == mark_code op ≡ false) × (mark_code m.OpenBracket == mark_code op ≡ false) × (mark_code m.Colon == mark_code op ≡ false)
op_other m.OpenParen n e = absurd (omega arith)
op_other m.OpenBracket n e = absurd (omega arith)
op_other m.Colon n e = absurd (omega arith)
op_other _ n e = (refl, refl, refl)

pub colon_free : (c : Bool) (kind : TokenKind) (us : List Token) → is_mark m.Colon kind ≡ false → ColonFree c kind us
colon_free false kind us h = h
colon_free true kind [] h = tt
colon_free true kind (u ∷ us) h = ap (λ b. b && is_mark m.OpenBracket u.kind) h

pub ends_operator : (op : Mark) (n : ℕ) (c : Bool) (q : Place) (us : List Token) → mark_binds op ≡ suc n → Ends n c (t.Mark op at q ∷ us)
ends_operator op n c p us h =
    let o = op_other op n h in
    (o.0, o.1, above_level (mark_binds op) n h, colon_free c (t.Mark op) us o.2)

pub operator_is : (op : Mark) (n : ℕ) → mark_binds op ≡ n → binary n (t.Mark op) ≡ true
operator_is op n h = is_level (mark_binds op) n h

pub binds_low : (op : Mark) → mark_binds op ≤ 10
binds_low m.Plus = omega arith
binds_low _ = omega arith

pub ends_bracket : (n : ℕ) (c : Bool) (us : List Token) → Ends n c us → Not (is_mark m.OpenBracket) us
ends_bracket n c [] e = e
ends_bracket n c (t ∷ ts) e = e.1

pub ends_paren : (n : ℕ) (c : Bool) (us : List Token) → Ends n c us → Not (is_mark m.OpenParen) us
ends_paren n c [] e = e
ends_paren n c (t ∷ ts) e = e.0

pub not_true : (p : Test) (us : List Token) → Not p us → Is (λ k. not (p k)) us
not_true p [] h = h
not_true p (t ∷ ts) h = ap not h
