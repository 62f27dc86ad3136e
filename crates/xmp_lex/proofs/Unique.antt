-- One token, one piece.
use Rattle.std.proofs.Common.{◌≡◌, ◌≤◌, ◌==◌, ◌&&◌, ◌||◌, ℕ, pos, List, [], ◌∷◌, length, take, drop, get_or, refl, sym, ap, ◌∙◌, arith, subst, true, false, Bool, nat_le, if◌then◌else◌}
use Rattle.xmp_lex.specs.declared.token.TokenKind.{TokenKind}
use Rattle.xmp_lex.specs.declared.token.TokenKind.TheVariants as t
use Rattle.xmp_lex.specs.declared.token.Mark.{Mark}
use Rattle.xmp_lex.specs.declared.token.Mark.TheVariants as m
use Rattle.xmp_lex.specs.declared.token.Reserved.{Reserved}
use Rattle.xmp_lex.specs.declared.token.Reserved.TheVariants as w
use Rattle.xmp_lex.specs.Bytes.{is_digit, is_letter, is_word, IsRun, IsNumber, has_suffix, content, is_end, escaped, base_of, digits_of, value}
use Rattle.xmp_lex.specs.Words.{mark_text, word_text, IsMark, BeginsWith}
use Rattle.xmp_lex.specs.Pieces.{Spelled, name, word, number, quoted, mark, type_of}
use Rattle.xmp_lex.proofs.SpaceLemmas.{one_place}
use Rattle.xmp_lex.proofs.MarkTable.{long_is, place, long_some, table}
use Rattle.std.proofs.lemmas.List.{get_or-take}

-- what a byte can begin: 0 a name or word, 1 a number, 2 a text, 3 the rest
abbrev pub class : ℕ → ℕ
class b = if is_letter b then 0 else (if is_digit b then 1 else (if b == 34 then 2 else 3))

letter_class : (b : ℕ) → is_letter b ≡ true → class b ≡ 0
letter_class b h = grind arith

digit_class : (b : ℕ) → is_digit b ≡ true → class b ≡ 1
digit_class b h = grind arith

quote_class : (b : ℕ) → b ≡ 34 → class b ≡ 2
quote_class b h = ap class h

mark_class : (x : Mark) → class (get_or (mark_text x) 0 0) ≡ 3
mark_class m.Plus = refl
mark_class m.Minus = refl
mark_class m.Star = refl
mark_class m.Slash = refl
mark_class m.Percent = refl
mark_class m.ShiftLeft = refl
mark_class m.ShiftRight = refl
mark_class m.Less = refl
mark_class m.LessEqual = refl
mark_class m.Greater = refl
mark_class m.GreaterEqual = refl
mark_class m.Equal = refl
mark_class m.Differ = refl
mark_class m.And = refl
mark_class m.Or = refl
mark_class m.Xor = refl
mark_class m.Tilde = refl
mark_class m.Bang = refl
mark_class m.AndAnd = refl
mark_class m.OrOr = refl
mark_class m.Question = refl
mark_class m.Colon = refl
mark_class m.Assign = refl
mark_class m.AddAssign = refl
mark_class m.SubAssign = refl
mark_class m.MulAssign = refl
mark_class m.DivAssign = refl
mark_class m.RemAssign = refl
mark_class m.ShlAssign = refl
mark_class m.ShrAssign = refl
mark_class m.AndAssign = refl
mark_class m.OrAssign = refl
mark_class m.XorAssign = refl
mark_class m.Increment = refl
mark_class m.Decrement = refl
mark_class m.OpenParen = refl
mark_class m.CloseParen = refl
mark_class m.OpenBracket = refl
mark_class m.CloseBracket = refl
mark_class m.OpenBrace = refl
mark_class m.CloseBrace = refl
mark_class m.Comma = refl
mark_class m.Semicolon = refl

pub first_of : (text : List ℕ) (x : Mark) → BeginsWith text (mark_text x) → get_or text 0 0 ≡ get_or (mark_text x) 0 0
first_of text x b = sym (get_or-take (length (mark_text x)) text 0 0 (subst (λ n. 1 ≤ n) (sym (long_is x)) (long_some (place x)))) ∙ ap (λ xs. get_or xs 0 0) b

abbrev pub class_of : {text : List ℕ} {n : ℕ} {kind : TokenKind} → Spelled text n kind → ℕ
class_of (name n l r w) = 0
class_of (word n x l r w) = 0
class_of (number n v d r i) = 1
class_of (quoted k n q e c b l) = 2
class_of (mark n x b l i e) = 3

pub first_class : (text : List ℕ) (n : ℕ) (kind : TokenKind) (s : Spelled text n kind) → class (get_or text 0 0) ≡ class_of s
first_class text n kind (name _ l r w) = letter_class (get_or text 0 0) l
first_class text n kind (word _ x l r w) = letter_class (get_or text 0 0) l
first_class text n kind (number _ v d r i) = digit_class (get_or text 0 0) d
first_class text n kind (quoted k _ q e c b l) = quote_class (get_or text 0 0) q
first_class text n kind (mark _ x b l i e) = ap class (first_of text x i.here) ∙ mark_class x

pub one_run : (text : List ℕ) (n k : ℕ) → IsRun text n → IsRun text k → n ≡ k
one_run text n k a b = one_place (λ i. is_word (get_or text i 0) ≡ false) text n k a b

-- marks that are spelled alike are one
abbrev pub same_bytes : List ℕ → List ℕ → Bool
same_bytes [] [] = true
same_bytes [] (y ∷ ys) = false
same_bytes (x ∷ xs) [] = false
same_bytes (x ∷ xs) (y ∷ ys) = (x == y) && same_bytes xs ys

abbrev pub decode : List Mark → List ℕ → Mark
decode [] xs = m.Plus
decode (x ∷ ms) xs = if same_bytes (mark_text x) xs then x else decode ms xs

decodes : (x : Mark) → decode table (mark_text x) ≡ x
decodes m.Plus = refl
decodes m.Minus = refl
decodes m.Star = refl
decodes m.Slash = refl
decodes m.Percent = refl
decodes m.ShiftLeft = refl
decodes m.ShiftRight = refl
decodes m.Less = refl
decodes m.LessEqual = refl
decodes m.Greater = refl
decodes m.GreaterEqual = refl
decodes m.Equal = refl
decodes m.Differ = refl
decodes m.And = refl
decodes m.Or = refl
decodes m.Xor = refl
decodes m.Tilde = refl
decodes m.Bang = refl
decodes m.AndAnd = refl
decodes m.OrOr = refl
decodes m.Question = refl
decodes m.Colon = refl
decodes m.Assign = refl
decodes m.AddAssign = refl
decodes m.SubAssign = refl
decodes m.MulAssign = refl
decodes m.DivAssign = refl
decodes m.RemAssign = refl
decodes m.ShlAssign = refl
decodes m.ShrAssign = refl
decodes m.AndAssign = refl
decodes m.OrAssign = refl
decodes m.XorAssign = refl
decodes m.Increment = refl
decodes m.Decrement = refl
decodes m.OpenParen = refl
decodes m.CloseParen = refl
decodes m.OpenBracket = refl
decodes m.CloseBracket = refl
decodes m.OpenBrace = refl
decodes m.CloseBrace = refl
decodes m.Comma = refl
decodes m.Semicolon = refl

one_mark : (text : List ℕ) (x y : Mark) → IsMark text x → IsMark text y → x ≡ y
one_mark text x y a b =
    let l : length (mark_text x) ≡ length (mark_text y) = (let p = a.longest y b.here in let q = b.longest x a.here in omega arith) in
    let e : mark_text x ≡ mark_text y = sym a.here ∙ ap (λ n. take n text) l ∙ b.here in
    sym (decodes x) ∙ ap (decode table) e ∙ decodes y

abbrev pub decode_word : List Reserved → List ℕ → Reserved
decode_word [] xs = w.Int
decode_word (x ∷ ms) xs = if same_bytes (word_text x) xs then x else decode_word ms xs

words : List Reserved
words = w.Int ∷ w.Long ∷ w.Void ∷ w.If ∷ w.Else ∷ w.While ∷ w.For ∷ w.Return ∷ w.Printf ∷ w.Scanf ∷ w.SyncAll ∷ []

decodes_word : (x : Reserved) → decode_word words (word_text x) ≡ x
unfolding words
decodes_word w.Int = refl
decodes_word w.Long = refl
decodes_word w.Void = refl
decodes_word w.If = refl
decodes_word w.Else = refl
decodes_word w.While = refl
decodes_word w.For = refl
decodes_word w.Return = refl
decodes_word w.Printf = refl
decodes_word w.Scanf = refl
decodes_word w.SyncAll = refl

one_word : (x y : Reserved) → word_text x ≡ word_text y → x ≡ y
one_word x y e = sym (decodes_word x) ∙ ap (decode_word words) e ∙ decodes_word y

number_kind : (text : List ℕ) (n k v u : ℕ) → n ≡ k → IsNumber (take n text) v → IsNumber (take k text) u
    → t.Number (pos v) (type_of (has_suffix (take n text) || nat_le 2147483648 v)) ≡ t.Number (pos u) (type_of (has_suffix (take k text) || nat_le 2147483648 u))
number_kind text n k v u e a b =
    let x : v ≡ u = a.value.is ∙ ap (λ i. value (base_of (take i text)) (digits_of (take i text)) (length (digits_of (take i text)))) e ∙ sym b.value.is in
    ap (λ i. t.Number (pos i) (type_of (has_suffix (take n text) || nat_le 2147483648 i))) x ∙ ap (λ i. t.Number (pos u) (type_of (has_suffix (take i text) || nat_le 2147483648 u))) e

apart : (text : List ℕ) (n k : ℕ) (a b : TokenKind) (s : Spelled text n a) (r : Spelled text k b) → (class_of s ≡ class_of r → ⊥) → ⊥
apart text n k a b s r f = f (sym (first_class text n a s) ∙ first_class text k b r)

pub one_spelled : (text : List ℕ) (n k : ℕ) (a b : TokenKind) → Spelled text n a → Spelled text k b → (n ≡ k) × (a ≡ b)
one_spelled text n k a b (name _ l1 r1 w1) (name _ l2 r2 w2) = let e = one_run text n k r1 r2 in (e, ap (λ i. t.Name (take i text)) e)
one_spelled text n k a b (name _ l1 r1 w1) (word _ x2 l2 r2 e2) = absurd (w1 x2 (ap (λ i. take i text) (one_run text n k r1 r2) ∙ e2))
one_spelled text n k a b (name _ l1 r1 w1) (number _ v2 d2 r2 i2) = absurd (apart text n k _ _ (name n l1 r1 w1) (number k v2 d2 r2 i2) (λ z. omega arith))
one_spelled text n k a b (name _ l1 r1 w1) (quoted j2 _ q2 f2 c2 g2 e2) = absurd (apart text n k _ _ (name n l1 r1 w1) (quoted j2 k q2 f2 c2 g2 e2) (λ z. omega arith))
one_spelled text n k a b (name _ l1 r1 w1) (mark _ x2 b2 l2 i2 e2) = absurd (apart text n k _ _ (name n l1 r1 w1) (mark k x2 b2 l2 i2 e2) (λ z. omega arith))
one_spelled text n k a b (word _ x1 l1 r1 e1) (name _ l2 r2 w2) = absurd (w2 x1 (ap (λ i. take i text) (one_run text k n r2 r1) ∙ e1))
one_spelled text n k a b (word _ x1 l1 r1 e1) (word _ x2 l2 r2 e2) = let e = one_run text n k r1 r2 in (e, ap t.Word (one_word x1 x2 (sym e1 ∙ ap (λ i. take i text) e ∙ e2)))
one_spelled text n k a b (word _ x1 l1 r1 e1) (number _ v2 d2 r2 i2) = absurd (apart text n k _ _ (word n x1 l1 r1 e1) (number k v2 d2 r2 i2) (λ z. omega arith))
one_spelled text n k a b (word _ x1 l1 r1 e1) (quoted j2 _ q2 f2 c2 g2 e2) = absurd (apart text n k _ _ (word n x1 l1 r1 e1) (quoted j2 k q2 f2 c2 g2 e2) (λ z. omega arith))
one_spelled text n k a b (word _ x1 l1 r1 e1) (mark _ x2 b2 l2 i2 e2) = absurd (apart text n k _ _ (word n x1 l1 r1 e1) (mark k x2 b2 l2 i2 e2) (λ z. omega arith))
one_spelled text n k a b (number _ v1 d1 r1 i1) (name _ l2 r2 w2) = absurd (apart text n k _ _ (number n v1 d1 r1 i1) (name k l2 r2 w2) (λ z. omega arith))
one_spelled text n k a b (number _ v1 d1 r1 i1) (word _ x2 l2 r2 e2) = absurd (apart text n k _ _ (number n v1 d1 r1 i1) (word k x2 l2 r2 e2) (λ z. omega arith))
one_spelled text n k a b (number _ v1 d1 r1 i1) (number _ v2 d2 r2 i2) = let e = one_run text n k r1 r2 in (e, number_kind text n k v1 v2 e i1 i2)
one_spelled text n k a b (number _ v1 d1 r1 i1) (quoted j2 _ q2 f2 c2 g2 e2) = absurd (apart text n k _ _ (number n v1 d1 r1 i1) (quoted j2 k q2 f2 c2 g2 e2) (λ z. omega arith))
one_spelled text n k a b (number _ v1 d1 r1 i1) (mark _ x2 b2 l2 i2 e2) = absurd (apart text n k _ _ (number n v1 d1 r1 i1) (mark k x2 b2 l2 i2 e2) (λ z. omega arith))
one_spelled text n k a b (quoted j1 _ q1 f1 c1 g1 e1) (name _ l2 r2 w2) = absurd (apart text n k _ _ (quoted j1 n q1 f1 c1 g1 e1) (name k l2 r2 w2) (λ z. omega arith))
one_spelled text n k a b (quoted j1 _ q1 f1 c1 g1 e1) (word _ x2 l2 r2 e2) = absurd (apart text n k _ _ (quoted j1 n q1 f1 c1 g1 e1) (word k x2 l2 r2 e2) (λ z. omega arith))
one_spelled text n k a b (quoted j1 _ q1 f1 c1 g1 e1) (number _ v2 d2 r2 i2) = absurd (apart text n k _ _ (quoted j1 n q1 f1 c1 g1 e1) (number k v2 d2 r2 i2) (λ z. omega arith))
one_spelled text n k a b (quoted j1 _ q1 f1 c1 g1 e1) (quoted j2 _ q2 f2 c2 g2 e2) = let j = one_place (λ i. is_end (get_or (drop 1 text) i 0) (escaped (drop 1 text) i) ≡ true) (drop 1 text) j1 j2 f1 f2 in (omega arith, ap (λ i. t.Text (content (drop 1 text) i)) j)
one_spelled text n k a b (quoted j1 _ q1 f1 c1 g1 e1) (mark _ x2 b2 l2 i2 e2) = absurd (apart text n k _ _ (quoted j1 n q1 f1 c1 g1 e1) (mark k x2 b2 l2 i2 e2) (λ z. omega arith))
one_spelled text n k a b (mark _ x1 b1 l1 i1 e1) (name _ l2 r2 w2) = absurd (apart text n k _ _ (mark n x1 b1 l1 i1 e1) (name k l2 r2 w2) (λ z. omega arith))
one_spelled text n k a b (mark _ x1 b1 l1 i1 e1) (word _ x2 l2 r2 e2) = absurd (apart text n k _ _ (mark n x1 b1 l1 i1 e1) (word k x2 l2 r2 e2) (λ z. omega arith))
one_spelled text n k a b (mark _ x1 b1 l1 i1 e1) (number _ v2 d2 r2 i2) = absurd (apart text n k _ _ (mark n x1 b1 l1 i1 e1) (number k v2 d2 r2 i2) (λ z. omega arith))
one_spelled text n k a b (mark _ x1 b1 l1 i1 e1) (quoted j2 _ q2 f2 c2 g2 e2) = absurd (apart text n k _ _ (mark n x1 b1 l1 i1 e1) (quoted j2 k q2 f2 c2 g2 e2) (λ z. omega arith))
one_spelled text n k a b (mark _ x1 b1 l1 i1 e1) (mark _ x2 b2 l2 i2 e2) = let x = one_mark text x1 x2 i1 i2 in (e1 ∙ ap (λ z. length (mark_text z)) x ∙ sym e2, ap t.Mark x)
