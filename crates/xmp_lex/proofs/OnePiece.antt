-- One piece, and no broken rule beside it.
use Rattle.std.proofs.Common.{◌≡◌, ◌+◌, ◌==◌, ◌&&◌, ℕ, List, [], ◌∷◌, take, drop, get_or, refl, sym, ap, ◌∙◌, arith, subst, true, Bool, not}
use Rattle.xmp_lex.specs.declared.token.TokenKind.{TokenKind}
use Rattle.xmp_lex.specs.declared.token.TokenKind.TheVariants as t
use Rattle.xmp_lex.specs.LineStates.{LineState}
use Rattle.xmp_lex.specs.LineStates as state
use Rattle.xmp_lex.specs.declared.token.Mark.{Mark}
use Rattle.xmp_lex.specs.declared.token.Mark.TheVariants as m
use Rattle.xmp_lex.specs.Bytes.{is_white, is_digit, is_letter, IsRun}
use Rattle.xmp_lex.specs.Words.{mark_text}
use Rattle.xmp_lex.specs.Pieces.{Spelled, name, word, number, quoted, mark, Comment, block, line, Unclosed, LineSpace, LineSpaces, LineHead, LineForm, define, include, pragma, other_pragma, IsBlockStart, IsLineStart}
use Rattle.xmp_lex.specs.Pieces as p
use Rattle.xmp_lex.specs.Cut.{Piece, white, comment, token, hash, line_space, skip, close}
use Rattle.xmp_lex.specs.LineStates.{IsOutside, IsHashLine, behind_token}
use Rattle.xmp_lex.proofs.SpaceLemmas.{one_comment, one_space, slash, backslash}
use Rattle.xmp_lex.proofs.Heads.{one_head, one_line_word, one_xmp}
use Rattle.xmp_lex.proofs.Unique.{one_spelled, first_of, one_run}

-- bytes that begin a token: no white space, `#` or `\`
abbrev pub fine : ℕ → Bool
fine b = not (is_white b) && not (b == 35) && not (b == 92)

mark_fine : (x : Mark) → fine (get_or (mark_text x) 0 0) ≡ true
mark_fine m.Plus = refl
mark_fine m.Minus = refl
mark_fine m.Star = refl
mark_fine m.Slash = refl
mark_fine m.Percent = refl
mark_fine m.ShiftLeft = refl
mark_fine m.ShiftRight = refl
mark_fine m.Less = refl
mark_fine m.LessEqual = refl
mark_fine m.Greater = refl
mark_fine m.GreaterEqual = refl
mark_fine m.Equal = refl
mark_fine m.Differ = refl
mark_fine m.And = refl
mark_fine m.Or = refl
mark_fine m.Xor = refl
mark_fine m.Tilde = refl
mark_fine m.Bang = refl
mark_fine m.AndAnd = refl
mark_fine m.OrOr = refl
mark_fine m.Question = refl
mark_fine m.Colon = refl
mark_fine m.Assign = refl
mark_fine m.AddAssign = refl
mark_fine m.SubAssign = refl
mark_fine m.MulAssign = refl
mark_fine m.DivAssign = refl
mark_fine m.RemAssign = refl
mark_fine m.ShlAssign = refl
mark_fine m.ShrAssign = refl
mark_fine m.AndAssign = refl
mark_fine m.OrAssign = refl
mark_fine m.XorAssign = refl
mark_fine m.Increment = refl
mark_fine m.Decrement = refl
mark_fine m.OpenParen = refl
mark_fine m.CloseParen = refl
mark_fine m.OpenBracket = refl
mark_fine m.CloseBracket = refl
mark_fine m.OpenBrace = refl
mark_fine m.CloseBrace = refl
mark_fine m.Comma = refl
mark_fine m.Semicolon = refl

letter_fine : (b : ℕ) → is_letter b ≡ true → fine b ≡ true
letter_fine b h = grind arith

digit_fine : (b : ℕ) → is_digit b ≡ true → fine b ≡ true
digit_fine b h = grind arith

pub first_fine : (text : List ℕ) (n : ℕ) (kind : TokenKind) → Spelled text n kind → fine (get_or text 0 0) ≡ true
first_fine text n kind (name _ l r w) = letter_fine (get_or text 0 0) l
first_fine text n kind (word _ x l r w) = letter_fine (get_or text 0 0) l
first_fine text n kind (number _ v d r i) = digit_fine (get_or text 0 0) d
first_fine text n kind (quoted k _ q e c b l) = ap fine q
first_fine text n kind (mark _ x b l i e) = ap fine (first_of text x i.here) ∙ mark_fine x

fine_white : (b : ℕ) → fine b ≡ true → is_white b ≡ true → ⊥
fine_white b f w = grind arith

fine_hash : (b : ℕ) → fine b ≡ true → b ≡ 35 → ⊥
fine_hash b f e = let x = ap fine e in cc

fine_back : (b : ℕ) → fine b ≡ true → b ≡ 92 → ⊥
fine_back b f e = let x = ap fine e in cc

fine_feed : (b : ℕ) → fine b ≡ true → b ≡ 10 → ⊥
fine_feed b f e = let x = ap fine e in cc

white_is : (b c : ℕ) → is_white b ≡ true → b ≡ c → is_white c ≡ true
white_is b c w e = ap is_white (sym e) ∙ w

white_comment : (text : List ℕ) (n : ℕ) → is_white (get_or text 0 0) ≡ true → Comment text n → ⊥
white_comment text n w c = let x = white_is (get_or text 0 0) 47 w (slash text n c) in cc

white_hash : (text : List ℕ) → is_white (get_or text 0 0) ≡ true → get_or text 0 0 ≡ 35 → ⊥
white_hash text w e = let x = white_is (get_or text 0 0) 35 w e in cc

hash_comment : (text : List ℕ) (n : ℕ) → get_or text 0 0 ≡ 35 → Comment text n → ⊥
hash_comment text n e c = let s = slash text n c in omega arith

letter_slash : (b : ℕ) → is_letter b ≡ true → b ≡ 47 → ⊥
letter_slash b h e = let x = ap is_letter e in cc

digit_slash : (b : ℕ) → is_digit b ≡ true → b ≡ 47 → ⊥
digit_slash b h e = let x = ap is_digit e in cc

pub comment_spelled : (text : List ℕ) (n k : ℕ) (kind : TokenKind) → Comment text n → Spelled text k kind → ⊥
comment_spelled text n k kind c (name _ l r w) = letter_slash (get_or text 0 0) l (slash text n c)
comment_spelled text n k kind c (word _ x l r w) = letter_slash (get_or text 0 0) l (slash text n c)
comment_spelled text n k kind c (number _ v d r i) = digit_slash (get_or text 0 0) d (slash text n c)
comment_spelled text n k kind c (quoted j _ q e f b l) = let s = slash text n c in omega arith
comment_spelled text n k kind (block i _ s b2 e2) (mark _ x b l f e) = b s
comment_spelled text n k kind (line i _ s b2 e2) (mark _ x b l f e) = l s

pub space_spelled : (text : List ℕ) (n k : ℕ) (kind : TokenKind) → LineSpace text n → Spelled text k kind → ⊥
space_spelled text n k kind (p.white _ w x e) s = fine_white (get_or text 0 0) (first_fine text k kind s) w
space_spelled text n k kind (p.splice _ j) s = fine_back (get_or text 0 0) (first_fine text k kind s) (backslash text n j)
space_spelled text n k kind (p.comment _ c d) s = comment_spelled text n k kind c s
space_spelled text n k kind (p.comment_splice i _ c d e) s = comment_spelled text i k kind c s

pub space_feed : (text : List ℕ) (n : ℕ) → LineSpace text n → get_or text 0 0 ≡ 10 → ⊥
space_feed text n (p.white _ w x e) h = x h
space_feed text n (p.splice _ j) h = let b = backslash text n j in omega arith
space_feed text n (p.comment _ c d) h = let b = slash text n c in omega arith
space_feed text n (p.comment_splice i _ c d e) h = let b = slash text i c in omega arith

out_line : (x : LineState) → IsOutside x → IsHashLine x → ⊥
out_line state.fresh o l = l
out_line state.begun o l = l
out_line state.directive o l = o
out_line state.ignored o l = o

abbrev pub Same : ℕ → ℕ → List (ℕ × TokenKind) → List (ℕ × TokenKind) → LineState → LineState → Type 0
Same n k out out2 y z = (n ≡ k) × (out ≡ out2) × (y ≡ z)

codes_apart : (a b : ℕ) (v w : List ℕ) (i : ℕ) → v ≡ w → get_or v i 0 ≡ a → get_or w i 0 ≡ b → (a ≡ b → ⊥) → ⊥
codes_apart a b v w i e p q f = f (sym p ∙ ap (λ xs. get_or xs i 0) e ∙ q)

-- lemmas for forms
abbrev pub one_out : ℕ → TokenKind → List (ℕ × TokenKind)
one_out a k = (a, k) ∷ []

define_same : (text : List ℕ) (n j k l : ℕ) (r q : List ℕ) → n ≡ j → Spelled (drop n text) k (t.Name r) → Spelled (drop j text) l (t.Name q) → (n + k ≡ j + l) × (one_out n (t.Define r) ≡ one_out j (t.Define q))
define_same text n j k l r q e s z =
    let o = one_spelled (drop n text) k l (t.Name r) (t.Name q) s (subst (λ i. Spelled (drop i text) l (t.Name q)) (sym e) z) in
    (let a = o.0 in omega arith, define_out n j r q e (name_same r q o.1))
  where
    name_same : (a b : List ℕ) → t.Name a ≡ t.Name b → a ≡ b
    name_same a b h = cc

    define_out : (a b : ℕ) (c d : List ℕ) → a ≡ b → c ≡ d → one_out a (t.Define c) ≡ one_out b (t.Define d)
    define_out a b c d h g = cc

pub one_form : (text : List ℕ) (n k : ℕ) (out out2 : List (ℕ × TokenKind)) (y z : LineState) → LineForm text n out y → LineForm text k out2 z → Same n k out out2 y z
one_form text n k out out2 y z (define n1 k1 r1 h1 s1 p1) (define n2 k2 r2 h2 s2 p2) = let d = define_same text n1 n2 k1 k2 r1 r2 (one_head text n1 n2 _ _ h1 h2).0 s1 s2 in (d.0, d.1, refl)
one_form text n k out out2 y z (define n1 k1 r1 h1 s1 p1) (include n2 h2 e2) = absurd (let e = ap (λ xs. get_or xs 0 0) (one_head text n1 n2 _ _ h1 h2).1 in omega arith)
one_form text n k out out2 y z (define n1 k1 r1 h1 s1 p1) (pragma n2 x2) = absurd (let e = ap (λ xs. get_or xs 0 0) (one_line_word text h1.front x2.head.front _ _ h1.line_word x2.head.line_word).1 in omega arith)
one_form text n k out out2 y z (define n1 k1 r1 h1 s1 p1) (other_pragma n2 w2 o2) = absurd (let e = ap (λ xs. get_or xs 0 0) (one_line_word text h1.front n2 _ _ h1.line_word w2).1 in omega arith)
one_form text n k out out2 y z (include n1 h1 e1) (define n2 k2 r2 h2 s2 p2) = absurd (let e = ap (λ xs. get_or xs 0 0) (one_head text n1 n2 _ _ h1 h2).1 in omega arith)
one_form text n k out out2 y z (include n1 h1 e1) (include n2 h2 e2) = ((one_head text n1 n2 _ _ h1 h2).0, refl, refl)
one_form text n k out out2 y z (include n1 h1 e1) (pragma n2 x2) = absurd (let e = ap (λ xs. get_or xs 0 0) (one_line_word text h1.front x2.head.front _ _ h1.line_word x2.head.line_word).1 in omega arith)
one_form text n k out out2 y z (include n1 h1 e1) (other_pragma n2 w2 o2) = absurd (let e = ap (λ xs. get_or xs 0 0) (one_line_word text h1.front n2 _ _ h1.line_word w2).1 in omega arith)
one_form text n k out out2 y z (pragma n1 x1) (define n2 k2 r2 h2 s2 p2) = absurd (let e = ap (λ xs. get_or xs 0 0) (one_line_word text x1.head.front h2.front _ _ x1.head.line_word h2.line_word).1 in omega arith)
one_form text n k out out2 y z (pragma n1 x1) (include n2 h2 e2) = absurd (let e = ap (λ xs. get_or xs 0 0) (one_line_word text x1.head.front h2.front _ _ x1.head.line_word h2.line_word).1 in omega arith)
one_form text n k out out2 y z (pragma n1 x1) (pragma n2 x2) = (one_xmp text n1 n2 x1 x2, refl, refl)
one_form text n k out out2 y z (pragma n1 x1) (other_pragma n2 w2 o2) = absurd (o2 n1 x1)
one_form text n k out out2 y z (other_pragma n1 w1 o1) (define n2 k2 r2 h2 s2 p2) = absurd (let e = ap (λ xs. get_or xs 0 0) (one_line_word text n1 h2.front _ _ w1 h2.line_word).1 in omega arith)
one_form text n k out out2 y z (other_pragma n1 w1 o1) (include n2 h2 e2) = absurd (let e = ap (λ xs. get_or xs 0 0) (one_line_word text n1 h2.front _ _ w1 h2.line_word).1 in omega arith)
one_form text n k out out2 y z (other_pragma n1 w1 o1) (pragma n2 x2) = absurd (o1 n2 x2)
one_form text n k out out2 y z (other_pragma n1 w1 o1) (other_pragma n2 w2 o2) = ((one_line_word text n1 n2 _ _ w1 w2).0, refl, refl)

token_same : (text : List ℕ) (x : LineState) (n k : ℕ) (a b : TokenKind) → Spelled text n a → Spelled text k b → Same n k ((0, a) ∷ []) ((0, b) ∷ []) (behind_token x) (behind_token x)
token_same text x n k a b s r = let o = one_spelled text n k a b s r in (o.0, out_same a b o.1, refl) where
  out_same : (c d : TokenKind) → c ≡ d → one_out 0 c ≡ one_out 0 d
  out_same c d h = cc

pub one_piece : (text : List ℕ) (x : LineState) (n k : ℕ) (out out2 : List (ℕ × TokenKind)) (y z : LineState) → Piece text x n out y → Piece text x k out2 z → Same n k out out2 y z
one_piece text x n k out out2 y z (white _ o1 w1) (white _ o2 w2) = (refl, refl, refl)
one_piece text x n k out out2 y z (white _ o1 w1) (comment _ n2 o2 c2) = absurd (white_comment text _ w1 c2)
one_piece text x n k out out2 y z (white _ o1 w1) (token _ n2 k2 g2 s2) = absurd (fine_white (get_or text 0 0) (first_fine text _ _ s2) w1)
one_piece text x n k out out2 y z (white _ o1 w1) (hash n2 u2 y2 e2 f2) = absurd (white_hash text w1 e2)
one_piece text x n k out out2 y z (white _ o1 w1) (line_space _ n2 l2 a2) = absurd (out_line _ o1 l2)
one_piece text x n k out out2 y z (white _ o1 w1) (skip e2 a2 b2) = absurd (o1)
one_piece text x n k out out2 y z (white _ o1 w1) (close _ l2 e2) = absurd (out_line _ o1 l2)
one_piece text x n k out out2 y z (comment _ n1 o1 c1) (white _ o2 w2) = absurd (white_comment text _ w2 c1)
one_piece text x n k out out2 y z (comment _ n1 o1 c1) (comment _ n2 o2 c2) = (one_comment text _ _ c1 c2, refl, refl)
one_piece text x n k out out2 y z (comment _ n1 o1 c1) (token _ n2 k2 g2 s2) = absurd (comment_spelled text _ _ _ c1 s2)
one_piece text x n k out out2 y z (comment _ n1 o1 c1) (hash n2 u2 y2 e2 f2) = absurd (hash_comment text _ e2 c1)
one_piece text x n k out out2 y z (comment _ n1 o1 c1) (line_space _ n2 l2 a2) = absurd (out_line _ o1 l2)
one_piece text x n k out out2 y z (comment _ n1 o1 c1) (skip e2 a2 b2) = absurd (o1)
one_piece text x n k out out2 y z (comment _ n1 o1 c1) (close _ l2 e2) = absurd (out_line _ o1 l2)
one_piece text x n k out out2 y z (token _ n1 k1 g1 s1) (white _ o2 w2) = absurd (fine_white (get_or text 0 0) (first_fine text _ _ s1) w2)
one_piece text x n k out out2 y z (token _ n1 k1 g1 s1) (comment _ n2 o2 c2) = absurd (comment_spelled text _ _ _ c2 s1)
one_piece text x n k out out2 y z (token _ n1 k1 g1 s1) (token _ n2 k2 g2 s2) = token_same text x _ _ _ _ s1 s2
one_piece text x n k out out2 y z (token _ n1 k1 g1 s1) (hash n2 u2 y2 e2 f2) = absurd (fine_hash (get_or text 0 0) (first_fine text _ _ s1) e2)
one_piece text x n k out out2 y z (token _ n1 k1 g1 s1) (line_space _ n2 l2 a2) = absurd (space_spelled text _ _ _ a2 s1)
one_piece text x n k out out2 y z (token _ n1 k1 g1 s1) (skip e2 a2 b2) = absurd (g1 refl)
one_piece text x n k out out2 y z (token _ n1 k1 g1 s1) (close _ l2 e2) = absurd (fine_feed (get_or text 0 0) (first_fine text _ _ s1) e2)
one_piece text x n k out out2 y z (hash n1 u1 y1 e1 f1) (white _ o2 w2) = absurd (white_hash text w2 e1)
one_piece text x n k out out2 y z (hash n1 u1 y1 e1 f1) (comment _ n2 o2 c2) = absurd (hash_comment text _ e1 c2)
one_piece text x n k out out2 y z (hash n1 u1 y1 e1 f1) (token _ n2 k2 g2 s2) = absurd (fine_hash (get_or text 0 0) (first_fine text _ _ s2) e1)
one_piece text x n k out out2 y z (hash n1 u1 y1 e1 f1) (hash n2 u2 y2 e2 f2) = one_form text _ _ _ _ _ _ f1 f2
one_piece text x n k out out2 y z (hash n1 u1 y1 e1 f1) (line_space _ n2 l2 a2) = absurd (l2)
one_piece text x n k out out2 y z (hash n1 u1 y1 e1 f1) (close _ l2 e2) = absurd (l2)
one_piece text x n k out out2 y z (line_space _ n1 l1 a1) (white _ o2 w2) = absurd (out_line _ o2 l1)
one_piece text x n k out out2 y z (line_space _ n1 l1 a1) (comment _ n2 o2 c2) = absurd (out_line _ o2 l1)
one_piece text x n k out out2 y z (line_space _ n1 l1 a1) (token _ n2 k2 g2 s2) = absurd (space_spelled text _ _ _ a1 s2)
one_piece text x n k out out2 y z (line_space _ n1 l1 a1) (hash n2 u2 y2 e2 f2) = absurd (l1)
one_piece text x n k out out2 y z (line_space _ n1 l1 a1) (line_space _ n2 l2 a2) = (one_space text _ _ a1 a2, refl, refl)
one_piece text x n k out out2 y z (line_space _ n1 l1 a1) (skip e2 a2 b2) = absurd (a2 _ a1)
one_piece text x n k out out2 y z (line_space _ n1 l1 a1) (close _ l2 e2) = absurd (space_feed text _ a1 e2)
one_piece text x n k out out2 y z (skip e1 a1 b1) (white _ o2 w2) = absurd (o2)
one_piece text x n k out out2 y z (skip e1 a1 b1) (comment _ n2 o2 c2) = absurd (o2)
one_piece text x n k out out2 y z (skip e1 a1 b1) (token _ n2 k2 g2 s2) = absurd (g2 refl)
one_piece text x n k out out2 y z (skip e1 a1 b1) (line_space _ n2 l2 a2) = absurd (a1 _ a2)
one_piece text x n k out out2 y z (skip e1 a1 b1) (skip e2 a2 b2) = (refl, refl, refl)
one_piece text x n k out out2 y z (skip e1 a1 b1) (close _ l2 e2) = absurd (e1 e2)
one_piece text x n k out out2 y z (close _ l1 e1) (white _ o2 w2) = absurd (out_line _ o2 l1)
one_piece text x n k out out2 y z (close _ l1 e1) (comment _ n2 o2 c2) = absurd (out_line _ o2 l1)
one_piece text x n k out out2 y z (close _ l1 e1) (token _ n2 k2 g2 s2) = absurd (fine_feed (get_or text 0 0) (first_fine text _ _ s2) e1)
one_piece text x n k out out2 y z (close _ l1 e1) (hash n2 u2 y2 e2 f2) = absurd (l1)
one_piece text x n k out out2 y z (close _ l1 e1) (line_space _ n2 l2 a2) = absurd (space_feed text _ a2 e1)
one_piece text x n k out out2 y z (close _ l1 e1) (skip e2 a2 b2) = absurd (e2 e1)
one_piece text x n k out out2 y z (close _ l1 e1) (close _ l2 e2) = (refl, refl, refl)
