-- Where a piece is, no rule breaks; and the cut of a text is unique.
use Rattle.std.proofs.Common.{◌≡◌, ◌≢◌, ◌<◌, ◌≤◌, ◌++◌, ℕ, List, [], ◌∷◌, length, take, drop, get_or, refl, sym, ap, ◌∙◌, arith, subst, true, false, ◌⊎◌, inl, inr, Some, length-append, slice_get}
use Rattle.std.proofs.lemmas.Option.{slice_get_within}
use Rattle.xmp_base.specs.Limits.{token_limit}
use Rattle.xmp_base.specs.declared.refusal.Fault.{Fault}
use Rattle.xmp_base.specs.declared.refusal.Fault.TheVariants as fault
use Rattle.xmp_lex.specs.declared.token.Token.{Token}
use Rattle.xmp_base.specs.declared.place.Place.{Place}
use Rattle.xmp_lex.specs.declared.token.TokenKind.{TokenKind}
use Rattle.xmp_lex.specs.LineStates.{LineState}
use Rattle.xmp_lex.specs.LineStates as state
use Rattle.xmp_lex.specs.declared.token.Mark.TheVariants as m
use Rattle.xmp_lex.specs.Bytes.{is_white, is_digit, is_letter, is_word, IsNumber, IsTextEnd, is_end, escaped}
use Rattle.xmp_lex.specs.Words.{mark_text, BeginsWith}
use Rattle.xmp_lex.specs.Pieces.{Spelled, name, word, number, quoted, mark, Malformed, stray, unknown_escape, unclosed, no_number, Comment, block, line, Unclosed, LineSpace, IsBlockStart, IsLineStart}
use Rattle.xmp_lex.specs.Pieces as p
use Rattle.xmp_lex.specs.Cut.{IsRefused, Piece, white, comment, token, hash, line_space, skip, close, Broken, unclosed_comment, no_form, no_token, Front, start, after, placed, behind, Cuts, none, piece, Cut, BreaksLexRule, broken, too_many, too_many_last, last, ending}
use Rattle.xmp_lex.specs.LineStates.{IsHashLine}
use Rattle.xmp_lex.proofs.SpaceLemmas as sp
use Rattle.xmp_lex.proofs.Unique.{one_run, class, class_of, first_class}
use Rattle.xmp_lex.proofs.OnePiece.{first_fine, fine, one_piece}

white_not : (b : ℕ) → is_white b ≡ true → is_white b ≡ false → ⊥
white_not b w v = cc

malformed_white : (text : List ℕ) (rule k : ℕ) → is_white (get_or text 0 0) ≡ true → Malformed text rule k → ⊥
malformed_white text rule k w (stray l v d q f) = white_not (get_or text 0 0) w v
malformed_white text rule k w (unknown_escape n _ q e c l b f) = let x = sym (ap is_white q) ∙ w in cc
malformed_white text rule k w (unclosed n q e c) = let x = sym (ap is_white q) ∙ w in cc
malformed_white text rule k w (no_number n d r f) = digit_white (get_or text 0 0) d w where
  digit_white : (b : ℕ) → is_digit b ≡ true → is_white b ≡ true → ⊥
  digit_white b h v = grind arith

slash_mark : (text : List ℕ) → get_or text 0 0 ≡ 47 → BeginsWith text (mark_text m.Slash)
slash_mark [] e = absurd (omega arith)
slash_mark (b ∷ bs) e = ap (λ (x : ℕ). x ∷ []) e

digit_slash : (b : ℕ) → is_digit b ≡ true → b ≡ 47 → ⊥
digit_slash b h e = let x = ap is_digit e in cc

malformed_slash : (text : List ℕ) (rule k : ℕ) → get_or text 0 0 ≡ 47 → Malformed text rule k → ⊥
malformed_slash text rule k s (stray l v d q f) = f m.Slash (slash_mark text s)
malformed_slash text rule k s (unknown_escape n _ q e c l b f) = omega arith
malformed_slash text rule k s (unclosed n q e c) = omega arith
malformed_slash text rule k s (no_number n d r f) = digit_slash (get_or text 0 0) d s

one_end : (text : List ℕ) (n k : ℕ) → IsTextEnd text n → IsTextEnd text k → n ≡ k
one_end text n k a b = sp.one_place (λ i. is_end (get_or text i 0) (escaped text i) ≡ true) text n k a b

letter_word : (b : ℕ) → is_letter b ≡ true → is_word b ≡ false → ⊥
letter_word b h w = grind arith

digit_word : (b : ℕ) → is_digit b ≡ true → is_word b ≡ false → ⊥
digit_word b h w = grind arith

digit_letter : (b : ℕ) → is_digit b ≡ true → is_letter b ≡ true → ⊥
digit_letter b h w = grind arith

quote_letter : (b : ℕ) → b ≡ 34 → is_letter b ≡ true → ⊥
quote_letter b e h = let x = ap is_letter e in cc

quote_digit : (b : ℕ) → b ≡ 34 → is_digit b ≡ true → ⊥
quote_digit b e h = let x = ap is_digit e in cc

mark_class : (text : List ℕ) (n : ℕ) (kind : TokenKind) (s : Spelled text n kind) → class_of s ≡ 3 → class (get_or text 0 0) ≡ 3
mark_class text n kind s e = first_class text n kind s ∙ e

three_quote : (b : ℕ) → class b ≡ 3 → b ≡ 34 → ⊥
three_quote b c e = let x = ap class e in omega arith

three_digit : (b : ℕ) → class b ≡ 3 → is_digit b ≡ true → ⊥
three_digit b c e = grind arith

pub malformed_spelled : (text : List ℕ) (n rule k : ℕ) (kind : TokenKind) → Spelled text n kind → Malformed text rule k → ⊥
malformed_spelled text n rule k kind (name _ l r w) (stray a v d q f) = letter_word (get_or text 0 0) l d
malformed_spelled text n rule k kind (name _ l r w) (unknown_escape i _ q e c j b f) = quote_letter (get_or text 0 0) q l
malformed_spelled text n rule k kind (name _ l r w) (unclosed i q e c) = quote_letter (get_or text 0 0) q l
malformed_spelled text n rule k kind (name _ l r w) (no_number i d q f) = digit_letter (get_or text 0 0) d l
malformed_spelled text n rule k kind (word _ x l r w) (stray a v d q f) = letter_word (get_or text 0 0) l d
malformed_spelled text n rule k kind (word _ x l r w) (unknown_escape i _ q e c j b f) = quote_letter (get_or text 0 0) q l
malformed_spelled text n rule k kind (word _ x l r w) (unclosed i q e c) = quote_letter (get_or text 0 0) q l
malformed_spelled text n rule k kind (word _ x l r w) (no_number i d q f) = digit_letter (get_or text 0 0) d l
malformed_spelled text n rule k kind (number _ u g r w) (stray a v d q f) = digit_word (get_or text 0 0) g d
malformed_spelled text n rule k kind (number _ u g r w) (unknown_escape i _ q e c j b f) = quote_digit (get_or text 0 0) q g
malformed_spelled text n rule k kind (number _ u g r w) (unclosed i q e c) = quote_digit (get_or text 0 0) q g
malformed_spelled text n rule k kind (number _ u g r w) (no_number i d q f) = f u (subst (λ j. IsNumber (take j text) u) (one_run text n i r q) w)
malformed_spelled text n rule k kind (quoted j _ q e c g z) (stray a v d x f) = x q
malformed_spelled text n rule k kind (quoted j _ q e c g z) (unknown_escape i _ x y w l b f) = g k (let h = one_end (drop 1 text) j i e y in omega arith) b
malformed_spelled text n rule k kind (quoted j _ q e c g z) (unclosed i x y w) = w (ap (λ h. get_or (drop 1 text) h 0) (one_end (drop 1 text) i j y e) ∙ c)
malformed_spelled text n rule k kind (quoted j _ q e c g z) (no_number i d x f) = quote_digit (get_or text 0 0) q d
malformed_spelled text n rule k kind (mark _ x b l i e) (stray a v d q f) = f x i.here
malformed_spelled text n rule k kind (mark _ x b l i e) (unknown_escape h _ q y c j z f) = three_quote (get_or text 0 0) (mark_class text n _ (mark n x b l i e) refl) q
malformed_spelled text n rule k kind (mark _ x b l i e) (unclosed h q y c) = three_quote (get_or text 0 0) (mark_class text n _ (mark n x b l i e) refl) q
malformed_spelled text n rule k kind (mark _ x b l i e) (no_number h d q f) = three_digit (get_or text 0 0) (mark_class text n _ (mark n x b l i e) refl) d

letter_slash : (b : ℕ) → is_letter b ≡ true → b ≡ 47 → ⊥
letter_slash b h e = let x = ap is_letter e in cc

open_spelled : (text : List ℕ) (n : ℕ) (kind : TokenKind) → Unclosed text → Spelled text n kind → ⊥
open_spelled text n kind o (name _ l r w) = letter_slash (get_or text 0 0) l o.begins.0
open_spelled text n kind o (word _ x l r w) = letter_slash (get_or text 0 0) l o.begins.0
open_spelled text n kind o (number _ v d r i) = digit_slash (get_or text 0 0) d o.begins.0
open_spelled text n kind o (quoted j _ q e c b l) = let s = o.begins.0 in omega arith
open_spelled text n kind o (mark _ x b l i e) = b o.begins

white_at : (b c : ℕ) → is_white b ≡ true → b ≡ c → is_white c ≡ false → ⊥
white_at b c w e f = let x = ap is_white e in cc

fine_at : (b c : ℕ) → fine b ≡ true → b ≡ c → fine c ≡ false → ⊥
fine_at b c w e f = let x = ap fine e in cc

malformed_space : (text : List ℕ) (n rule k : ℕ) → LineSpace text n → ((i : ℕ) → p.Splice text i → ⊥) → Malformed text rule k → ⊥
malformed_space text n rule k (p.white _ w x e) j s = malformed_white text rule k w s
malformed_space text n rule k (p.splice _ i) j s = j n i
malformed_space text n rule k (p.comment _ c d) j s = malformed_slash text rule k (sp.slash text n c) s
malformed_space text n rule k (p.comment_splice i _ c d e) j s = malformed_slash text rule k (sp.slash text i c) s

line_is : (x : LineState) → IsHashLine x → x ≢ state.ignored → x ≡ state.directive
line_is state.fresh l i = absurd l
line_is state.begun l i = absurd l
line_is state.directive l i = refl
line_is state.ignored l i = absurd (i refl)

pub piece_broken : (text : List ℕ) (x : LineState) (n : ℕ) (out : List (ℕ × TokenKind)) (y : LineState) (rule k : ℕ) → Piece text x n out y → Broken text x rule k → ⊥
piece_broken text x n out y rule k (white _ o w) (unclosed_comment _ c) = white_at (get_or text 0 0) 47 w c.begins.0 refl
piece_broken text x n out y rule k (white _ o w) (no_form e f) = white_at (get_or text 0 0) 35 w e refl
piece_broken text x n out y rule k (white _ o w) (no_token _ _ _ i h j s) = malformed_white text rule k w s
piece_broken text x n out y rule k (comment _ _ o c) (unclosed_comment _ d) = sp.unclosed_comment text n d c
piece_broken text x n out y rule k (comment _ _ o c) (no_form e f) = let s = sp.slash text n c in omega arith
piece_broken text x n out y rule k (comment _ _ o c) (no_token _ _ _ i h j s) = malformed_slash text rule k (sp.slash text n c) s
piece_broken text x n out y rule k (token _ _ kind g s) (unclosed_comment _ d) = open_spelled text n kind d s
piece_broken text x n out y rule k (token _ _ kind g s) (no_form e f) = fine_at (get_or text 0 0) 35 (first_fine text n kind s) e refl
piece_broken text x n out y rule k (token _ _ kind g s) (no_token _ _ _ i h j r) = malformed_spelled text n rule k kind s r
piece_broken text x n out y rule k (hash _ _ _ e g) (unclosed_comment _ d) = let s = d.begins.0 in omega arith
piece_broken text x n out y rule k (hash _ _ _ e g) (no_form d f) = f n out y g
piece_broken text x n out y rule k (hash _ _ _ e g) (no_token _ _ _ i h j r) = h refl e
piece_broken text x n out y rule k (line_space _ _ l a) (unclosed_comment _ d) = sp.open_space text n d a
piece_broken text x n out y rule k (line_space _ _ l a) (no_form e f) = l
piece_broken text x n out y rule k (line_space _ _ l a) (no_token _ _ _ i h j r) = malformed_space text n rule k a (j (line_is x l i)) r
piece_broken text x n out y rule k (skip e a b) (unclosed_comment _ d) = b d
piece_broken text x n out y rule k (skip e a b) (no_token _ _ _ i h j r) = i refl
piece_broken text x n out y rule k (close _ l e) (unclosed_comment _ d) = let s = d.begins.0 in omega arith
piece_broken text x n out y rule k (close _ l e) (no_form d f) = omega arith
piece_broken text x n out y rule k (close _ l e) (no_token _ _ _ i h j r) = malformed_white text rule k (ap is_white e) r

-- one front reaches another by pieces
pub data Reach : Front → Front → Type 0 where
  here : (f g : Front) → f ≡ g → Reach f g
  step : (f g : Front) (n : ℕ) (out : List (ℕ × TokenKind)) (x : LineState) → 0 < length f.rest → Piece f.rest f.state n out x → Reach (after f n out x) g → Reach f g

on : (f g : Front) (n : ℕ) (out : List (ℕ × TokenKind)) (x : LineState) → Reach f g → 0 < length g.rest → Piece g.rest g.state n out x → Reach f (after g n out x)
on f g n out x (here _ _ e) l q = subst (λ (h : Front). Reach h (after g n out x)) (sym e) (step g (after g n out x) n out x l q (here (after g n out x) (after g n out x) refl))
on f g n out x (step _ _ k o y a b r) l q = step f (after g n out x) k o y a b (on (after f k o y) g n out x r l q)

same_after : (f : Front) (n k : ℕ) (o u : List (ℕ × TokenKind)) (x y : LineState) → (n ≡ k) × (o ≡ u) × (x ≡ y) → after f n o x ≡ after f k u y
same_after f n k o u x y e = ap (λ i. after f i o x) e.0 ∙ ap (λ i. after f k i x) e.1 ∙ ap (λ i. after f k u i) e.2

ahead : (text : List ℕ) (g : Front) → Cuts text g → Reach (start text) g
ahead text _ none = here (start text) (start text) refl
ahead text _ (piece f n out x c l q) = on (start text) f n out x (ahead text f c) l q

-- of two fronts that one reaches, one reaches the other
linear : (a f g : Front) → Reach a f → Reach a g → Reach f g ⊎ Reach g f
linear a f g (here _ _ e) r = inl (subst (λ (h : Front). Reach h g) e r)
linear a f g (step _ _ n o x l q r) (here _ _ e) = inr (subst (λ (h : Front). Reach h f) e (step a f n o x l q r))
linear a f g (step _ _ n o x l q r) (step _ _ k u y m s t) =
    linear (after a n o x) f g r (subst (λ (h : Front). Reach h g) (same_after a k n u o y x (one_piece a.rest a.state k n u o y x s q)) t)

grows : (f g : Front) → Reach f g → length f.tokens ≤ length g.tokens
grows f g (here _ _ e) = let h = ap (λ (z : Front). length z.tokens) e in omega arith
grows f g (step _ _ n o x l q r) = let h = grows (after f n o x) g r in omega (arith, length-append f.tokens (placed f.at f.rest o))

stops : (f g : Front) → length f.rest ≡ 0 → Reach f g → f ≡ g
stops f g z (here _ _ e) = e
stops f g z (step _ _ n o x l q r) = absurd (omega arith)

sticks : (f g : Front) (rule k : ℕ) → Broken f.rest f.state rule k → Reach f g → f ≡ g
sticks f g rule k b (here _ _ e) = e
sticks f g rule k b (step _ _ n o x l q r) = absurd (piece_broken f.rest f.state n o x rule k q b)

pub never_both : (text : List ℕ) (tokens : List Token) (rule : ℕ) (at : Place) → Cut text tokens → BreaksLexRule text rule at → ⊥
never_both text tokens rule at c (broken g _ k d few some b) =
    let z : length c.front.rest ≡ 0 = ap length c.whole in
    elim (linear (start text) c.front g (ahead text c.front c.cuts) (ahead text g d)) [
      | inl r ↦ (let e = ap (λ (h : Front). length h.rest) (stops c.front g z r) in omega arith)
      | inr r ↦ (let e = ap (λ (h : Front). length h.rest) (sticks g c.front rule k b r) in omega arith)
    ]
never_both text tokens rule at c (too_many g n out x bad d few some q s) =
    let z : length c.front.rest ≡ 0 = ap length c.whole in
    let w : 200000 < length (g.tokens ++ placed g.at g.rest out) = slice_get_within (g.tokens ++ placed g.at g.rest out) token_limit bad s in
    let many : length c.front.tokens ≤ length tokens = (let e = ap length c.tokens_are in omega (arith, length-append c.front.tokens (ending c.front.state c.front.at))) in
    elim (linear (start text) c.front (after g n out x) (ahead text c.front c.cuts) (on (start text) g n out x (ahead text g d) some q)) [
      | inl r ↦ (let e = ap (λ (h : Front). length h.tokens) (stops c.front (after g n out x) z r) in let f = c.few in omega arith)
      | inr r ↦ (let e = grows (after g n out x) c.front r in let f = c.few in omega arith)
    ]
never_both text tokens rule at c (too_many_last g bad d few zr s) =
    let z : length c.front.rest ≡ 0 = ap length c.whole in
    let y : length g.rest ≡ 0 = ap length zr in
    let w : 200000 < length (last g) = slice_get_within (last g) token_limit bad s in
    let same : c.front ≡ g = elim (linear (start text) c.front g (ahead text c.front c.cuts) (ahead text g d)) [ inl r ↦ stops c.front g z r | inr r ↦ sym (stops g c.front y r) ] in
    let e = ap length c.tokens_are in let h = ap (λ (v : Front). length (last v)) same in let f = c.few in omega arith

-- where a text is cut, no refusal is answered
pub only_memory : (text : List ℕ) (tokens : List Token) (e : Fault) → Cut text tokens → IsRefused text e → e ≡ fault.NoMemory
only_memory text tokens fault.NoMemory c b = refl
only_memory text tokens (fault.Refused r) c b = absurd (never_both text tokens r.rule r.at c b.1)

pub one_cut : (text : List ℕ) (tokens others : List Token) → Cut text tokens → Cut text others → tokens ≡ others
one_cut text tokens others c d =
    let z : length c.front.rest ≡ 0 = ap length c.whole in
    let y : length d.front.rest ≡ 0 = ap length d.whole in
    let same : c.front ≡ d.front = elim (linear (start text) c.front d.front (ahead text c.front c.cuts) (ahead text d.front d.cuts)) [ inl r ↦ stops c.front d.front z r | inr r ↦ sym (stops d.front c.front y r) ] in
    c.tokens_are ∙ ap last same ∙ sym d.tokens_are

-- the refusal of a text is unique
malformed_one : (text : List ℕ) (r s k j : ℕ) → Malformed text r k → Malformed text s j → (r ≡ s) × (k ≡ j)
malformed_one text r s k j (stray l v d q f) (stray m2 v2 d2 q2 f2) = (refl, refl)
malformed_one text r s k j (stray l v d q f) (unknown_escape n _ q2 e c m2 b g) = absurd (q q2)
malformed_one text r s k j (stray l v d q f) (unclosed n q2 e c) = absurd (q q2)
malformed_one text r s k j (stray l v d q f) (no_number n h e g) = absurd (digit_word (get_or text 0 0) h d)
malformed_one text r s k j (unknown_escape n _ q2 e c m2 b g) (stray l v d q f) = absurd (q q2)
malformed_one text r s k j (unknown_escape n _ q e c l b g) (unknown_escape n2 _ q2 e2 c2 l2 b2 g2) =
    let x : (k < j) → ⊥ = λ h. g2 k h b in let y : (j < k) → ⊥ = λ h. g j h b2 in (refl, omega arith)
malformed_one text r s k j (unknown_escape n _ q e c l b g) (unclosed n2 q2 e2 c2) = absurd (c2 (ap (λ h. get_or (drop 1 text) h 0) (one_end (drop 1 text) n2 n e2 e) ∙ c))
malformed_one text r s k j (unknown_escape n _ q e c l b g) (no_number n2 h e2 g2) = absurd (quote_digit (get_or text 0 0) q h)
malformed_one text r s k j (unclosed n q2 e c) (stray l v d q f) = absurd (q q2)
malformed_one text r s k j (unclosed n2 q2 e2 c2) (unknown_escape n _ q e c l b g) = absurd (c2 (ap (λ h. get_or (drop 1 text) h 0) (one_end (drop 1 text) n2 n e2 e) ∙ c))
malformed_one text r s k j (unclosed n q e c) (unclosed n2 q2 e2 c2) = (refl, refl)
malformed_one text r s k j (unclosed n q e c) (no_number n2 h e2 g2) = absurd (quote_digit (get_or text 0 0) q h)
malformed_one text r s k j (no_number n h e g) (stray l v d q f) = absurd (digit_word (get_or text 0 0) h d)
malformed_one text r s k j (no_number n2 h e2 g2) (unknown_escape n _ q e c l b g) = absurd (quote_digit (get_or text 0 0) q h)
malformed_one text r s k j (no_number n2 h e2 g2) (unclosed n q e c) = absurd (quote_digit (get_or text 0 0) q h)
malformed_one text r s k j (no_number n h e g) (no_number n2 h2 e2 g2) = (refl, refl)

broken_one : (text : List ℕ) (x : LineState) (r s k j : ℕ) → Broken text x r k → Broken text x s j → (r ≡ s) × (k ≡ j)
broken_one text x r s k j (unclosed_comment _ o) (unclosed_comment _ q) = (refl, refl)
broken_one text x r s k j (unclosed_comment _ o) (no_form e f) = absurd (let h = o.begins.0 in omega arith)
broken_one text x r s k j (unclosed_comment _ o) (no_token _ _ _ i h z q) = absurd (malformed_slash text s j o.begins.0 q)
broken_one text x r s k j (no_form e f) (unclosed_comment _ o) = absurd (let h = o.begins.0 in omega arith)
broken_one text x r s k j (no_form e f) (no_form d g) = (refl, refl)
broken_one text x r s k j (no_form e f) (no_token _ _ _ i h z q) = absurd (h refl e)
broken_one text x r s k j (no_token _ _ _ i h z q) (unclosed_comment _ o) = absurd (malformed_slash text r k o.begins.0 q)
broken_one text x r s k j (no_token _ _ _ i h z q) (no_form e f) = absurd (h refl e)
broken_one text x r s k j (no_token _ _ _ i h z q) (no_token _ _ _ i2 h2 z2 q2) = malformed_one text r s k j q q2

pub meet : (text : List ℕ) (f g : Front) → Cuts text f → Cuts text g → Reach f g ⊎ Reach g f
meet text f g c d = linear (start text) f g (ahead text f c) (ahead text g d)

some_same : (a b : Token) → Some a ≡ Some b → a ≡ b
some_same a b e = cc

abbrev pub Agreed : ℕ → ℕ → Place → Place → Type 0
Agreed r s a b = (r ≡ s) × (a ≡ b)

same_broken : (f g : Front) (r s k j : ℕ) → f ≡ g → Broken f.rest f.state r k → Broken g.rest g.state s j → Agreed r s (behind f.at (take k f.rest)) (behind g.at (take j g.rest))
same_broken f g r s k j e b d =
    let o = broken_one g.rest g.state r s k j (subst (λ (h : Front). Broken h.rest h.state r k) e b) d in
    (o.0, ap (λ i. behind f.at (take i f.rest)) o.1 ∙ ap (λ (h : Front). behind h.at (take j h.rest)) e)

broken_many : (text : List ℕ) (f g : Front) (r k n : ℕ) (out : List (ℕ × TokenKind)) (x : LineState) → Cuts text f → length f.tokens ≤ 200000 → Broken f.rest f.state r k → Cuts text (after g n out x) → 200000 < length (after g n out x).tokens → ⊥
broken_many text f g r k n out x c few b d m2 = elim (meet text f (after g n out x) c d) [
  | inl t ↦ (let e = ap (λ (h : Front). length h.tokens) (sticks f (after g n out x) r k b t) in omega arith)
  | inr t ↦ (let e = grows (after g n out x) f t in omega arith)
]

last_many : (text : List ℕ) (f g : Front) (n : ℕ) (out : List (ℕ × TokenKind)) (x : LineState) → Cuts text f → length f.tokens ≤ 200000 → length f.rest ≡ 0 → Cuts text (after g n out x) → 200000 < length (after g n out x).tokens → ⊥
last_many text f g n out x c few z d m2 = elim (meet text f (after g n out x) c d) [
  | inl t ↦ (let e = ap (λ (h : Front). length h.tokens) (stops f (after g n out x) z t) in omega arith)
  | inr t ↦ (let e = grows (after g n out x) f t in omega arith)
]

broken_last : (text : List ℕ) (f g : Front) (r k : ℕ) → Cuts text f → 0 < length f.rest → Broken f.rest f.state r k → Cuts text g → length g.rest ≡ 0 → ⊥
broken_last text f g r k c some b d z = elim (meet text f g c d) [
  | inl t ↦ (let e = ap (λ (h : Front). length h.rest) (sticks f g r k b t) in omega arith)
  | inr t ↦ (let e = ap (λ (h : Front). length h.rest) (stops g f z t) in omega arith)
]

-- the front at which the limit is passed
passing : (f g : Front) (n k : ℕ) (o u : List (ℕ × TokenKind)) (x y : LineState) → Reach f g → Piece f.rest f.state n o x → Piece g.rest g.state k u y → length g.tokens ≤ 200000 → 200000 < length (after f n o x).tokens → after f n o x ≡ after g k u y
passing f g n k o u x y (here _ _ e) p2 q few m2 =
    same_after f n k o u x y (one_piece f.rest f.state n k o u x y p2 (subst (λ (h : Front). Piece h.rest h.state k u y) (sym e) q)) ∙ ap (λ (h : Front). after h k u y) e
passing f g n k o u x y (step _ _ i w z l a r) p2 q few m2 =
    let e = ap (λ (h : Front). length h.tokens) (same_after f n i o w x z (one_piece f.rest f.state n i o w x z p2 a)) in
    let h = grows (after f i w z) g r in absurd (omega arith)

one_bad : (f g : Front) (a b : Token) → f ≡ g → slice_get f.tokens token_limit ≡ Some a → slice_get g.tokens token_limit ≡ Some b → Agreed 5 5 a.at b.at
one_bad f g a b e p2 q = (refl, ap (λ (t : Token). t.at) (some_same a b (sym p2 ∙ ap (λ (h : Front). slice_get h.tokens token_limit) e ∙ q)))

pub one_refusal : (text : List ℕ) (r s : ℕ) (a b : Place) → BreaksLexRule text r a → BreaksLexRule text s b → Agreed r s a b
one_refusal text r s a b (broken f _ k c few some d) (broken g _ j c2 few2 some2 d2) = elim (meet text f g c c2) [
  | inl t ↦ same_broken f g r s k j (sticks f g r k d t) d d2
  | inr t ↦ same_broken f g r s k j (sym (sticks g f s j d2 t)) d d2
]
one_refusal text r s a b (broken f _ k c few some d) (too_many g n out x bad c2 few2 some2 p2 e) = absurd (broken_many text f g r k n out x c few d (piece g n out x c2 some2 p2) (slice_get_within (after g n out x).tokens token_limit bad e))
one_refusal text r s a b (broken f _ k c few some d) (too_many_last g bad c2 few2 z e) = absurd (broken_last text f g r k c some d c2 (ap length z))
one_refusal text r s a b (too_many g n out x bad c2 few2 some2 p2 e) (broken f _ k c few some d) = absurd (broken_many text f g s k n out x c few d (piece g n out x c2 some2 p2) (slice_get_within (after g n out x).tokens token_limit bad e))
one_refusal text r s a b (too_many f n o x bad c few some p2 e) (too_many g k u y bad2 c2 few2 some2 q e2) = elim (meet text f g c c2) [
  | inl t ↦ one_bad (after f n o x) (after g k u y) bad bad2 (passing f g n k o u x y t p2 q few2 (slice_get_within (after f n o x).tokens token_limit bad e)) e e2
  | inr t ↦ one_bad (after f n o x) (after g k u y) bad bad2 (sym (passing g f k n u o y x t q p2 few (slice_get_within (after g k u y).tokens token_limit bad2 e2))) e e2
]
one_refusal text r s a b (too_many g n out x bad c2 few2 some2 p2 e) (too_many_last f bad2 c few z e2) = absurd (last_many text f g n out x c few (ap length z) (piece g n out x c2 some2 p2) (slice_get_within (after g n out x).tokens token_limit bad e))
one_refusal text r s a b (too_many_last g bad c2 few2 z e) (broken f _ k c few some d) = absurd (broken_last text f g s k c some d c2 (ap length z))
one_refusal text r s a b (too_many_last f bad2 c few z e2) (too_many g n out x bad c2 few2 some2 p2 e) = absurd (last_many text f g n out x c few (ap length z) (piece g n out x c2 some2 p2) (slice_get_within (after g n out x).tokens token_limit bad e))
one_refusal text r s a b (too_many_last f bad c few z e) (too_many_last g bad2 c2 few2 z2 e2) =
    let same : f ≡ g = elim (meet text f g c c2) [ inl t ↦ stops f g (ap length z) t | inr t ↦ sym (stops g f (ap length z2) t) ] in
    (refl, ap (λ (t : Token). t.at) (some_same bad bad2 (sym e ∙ ap (λ (h : Front). slice_get (last h) token_limit) same ∙ e2)))
