-- A line is fresh exactly where only white space and comments stand on it.
use Rattle.std.proofs.Common.{◌≡◌, ◌≢◌, ◌<◌, ◌≤◌, ◌+◌, ◌==◌, ◌⊎◌, inl, inr, ◌↔◌, ℕ, zero, suc, List, [], ◌∷◌, length, take, drop, get_or, refl, sym, ap, ◌∙◌, arith, subst, true, false, Bool, length-drop, drop-drop}
use Rattle.xmp_lex.specs.declared.token.TokenKind.{TokenKind}
use Rattle.xmp_lex.specs.Bytes.{is_white, is_letter, is_digit, is_word, IsRun}
use Rattle.xmp_lex.specs.Words.{mark_text}
use Rattle.xmp_lex.specs.Pieces.{Spelled, name, word, number, quoted, mark, Comment, block, line, LineSpace, LineForm, define, include, pragma, other_pragma}
use Rattle.xmp_lex.specs.Pieces as p
use Rattle.xmp_lex.specs.LineStates.{LineState, IsOutside, IsHashLine, behind_token, behind_white}
use Rattle.xmp_lex.specs.LineStates as state
use Rattle.xmp_lex.specs.Cut.{Piece, Front, Cuts, start, after, none, piece}
use Rattle.xmp_lex.specs.Cut as c
use Rattle.xmp_lex.specs.LineStarts.{Blank, BeginsLine, first, feed, StandsFirst}
use Rattle.xmp_lex.specs.LineStarts as s
use Rattle.xmp_lex.proofs.SpaceLemmas.{slash}
use Rattle.xmp_lex.proofs.OnePiece.{first_fine, fine, space_feed}
use Rattle.xmp_lex.proofs.MarkTable.{long_is, place, long_some}
use Rattle.xmp_lex.proofs.NeverBoth.{Reach, here, step, meet}

-- ---- a piece has a byte at least

byte_some : (text : List ℕ) → (get_or text 0 0 ≡ 0 → ⊥) → 0 < length text
byte_some [] h = absurd (h refl)
byte_some (b ∷ bs) h = omega arith

letter_byte : (b : ℕ) → is_letter b ≡ true → b ≡ 0 → ⊥
letter_byte b l e = let x = ap is_letter e in cc

digit_byte : (b : ℕ) → is_digit b ≡ true → b ≡ 0 → ⊥
digit_byte b d e = let x = ap is_digit e in cc

white_byte : (b : ℕ) → is_white b ≡ true → b ≡ 0 → ⊥
white_byte b w e = let x = ap is_white e in cc

letter_word : (b : ℕ) → is_letter b ≡ true → is_word b ≡ false → ⊥
letter_word b l w = grind arith

digit_word : (b : ℕ) → is_digit b ≡ true → is_word b ≡ false → ⊥
digit_word b d w = grind arith

run_some : (text : List ℕ) (n : ℕ) → IsRun text n → 0 < length text → (is_word (get_or text 0 0) ≡ false → ⊥) → 1 ≤ n
run_some text zero r l h = absurd (h (r.here l))
run_some text (suc n) r l h = omega arith

spelled_some : (text : List ℕ) (n : ℕ) (kind : TokenKind) → Spelled text n kind → 1 ≤ n
spelled_some text n kind (name _ l r w) = run_some text n r (byte_some text (letter_byte (get_or text 0 0) l)) (letter_word (get_or text 0 0) l)
spelled_some text n kind (word _ x l r w) = run_some text n r (byte_some text (letter_byte (get_or text 0 0) l)) (letter_word (get_or text 0 0) l)
spelled_some text n kind (number _ v d r i) = run_some text n r (byte_some text (digit_byte (get_or text 0 0) d)) (digit_word (get_or text 0 0) d)
spelled_some text n kind (quoted k _ q e b l i) = omega arith
spelled_some text n kind (mark _ x b l i e) = subst (λ k. 1 ≤ k) (sym (e ∙ long_is x)) (long_some (place x))

comment_some : (text : List ℕ) (n : ℕ) → Comment text n → 1 ≤ n
comment_some text n (block k _ b i e) = omega arith
comment_some text n (line k _ b i e) = omega arith

space_some : (text : List ℕ) (n : ℕ) → LineSpace text n → 1 ≤ n
space_some text n (p.white _ w x e) = omega arith
space_some text n (p.splice _ (p.two _ a b e)) = omega arith
space_some text n (p.splice _ (p.three _ a b d e)) = omega arith
space_some text n (p.comment _ m d) = comment_some text n m
space_some text n (p.comment_splice k _ m d e) = omega arith

form_some : (text : List ℕ) (n : ℕ) (out : List (ℕ × TokenKind)) (x : LineState) → LineForm text n out x → 1 ≤ n
form_some text _ _ _ (define n k r h d q) = let a = h.length_is in let b = h.line_word.length_is in omega arith
form_some text _ _ _ (include n h e) = let a = h.length_is in let b = h.line_word.length_is in omega arith
form_some text _ _ _ (pragma n x) = let a = x.length_is in let b = x.head.length_is in let d = x.head.line_word.length_is in omega arith
form_some text _ _ _ (other_pragma n w o) = let a = w.length_is in omega arith

piece_some : (text : List ℕ) (x y : LineState) (n : ℕ) (out : List (ℕ × TokenKind)) → Piece text x n out y → 1 ≤ n
piece_some text x y n out (c.white _ o w) = omega arith
piece_some text x y n out (c.comment _ _ o m) = comment_some text n m
piece_some text x y n out (c.token _ _ kind i t) = spelled_some text n kind t
piece_some text x y n out (c.hash _ _ _ b f) = form_some text n out y f
piece_some text x y n out (c.line_space _ _ o g) = space_some text n g
piece_some text x y n out (c.skip e g u) = omega arith
piece_some text x y n out (c.close _ o e) = omega arith

-- ---- fronts with the same text left are one

never_longer : (f g : Front) → Reach f g → length g.rest ≤ length f.rest
never_longer f g (here _ _ e) = let h = ap (λ (z : Front). length z.rest) e in omega arith
never_longer f g (step _ _ n o x l q r) = let h = never_longer (after f n o x) g r in omega (arith, length-drop n f.rest)

no_step : (f g : Front) → Reach f g → length f.rest ≡ length g.rest → f ≡ g
no_step f g (here _ _ e) h = e
no_step f g (step _ _ n o x l q r) h = absurd (let i = never_longer (after f n o x) g r in let k = piece_some f.rest f.state x n o q in omega (arith, length-drop n f.rest))

same_front : (text : List ℕ) (f g : Front) → Cuts text f → Cuts text g → f.rest ≡ g.rest → f ≡ g
same_front text f g a b e = elim (meet text f g a b) [ inl r ↦ no_step f g r (ap length e) | inr r ↦ sym (no_step g f r (ap length (sym e))) ]

-- ---- from the state to the text

form_fresh : (text : List ℕ) (n : ℕ) (out : List (ℕ × TokenKind)) (x : LineState) → LineForm text n out x → x ≡ state.fresh → ⊥
form_fresh text _ _ _ (define n k r h d q) e = cc
form_fresh text _ _ _ (include n h i) e = cc
form_fresh text _ _ _ (pragma n x) e = cc
form_fresh text _ _ _ (other_pragma n w o) e = cc

token_fresh : (x : LineState) → behind_token x ≡ state.fresh → ⊥
token_fresh state.fresh e = cc
token_fresh state.begun e = cc
token_fresh state.directive e = cc
token_fresh state.ignored e = cc

hash_fresh : (x : LineState) → IsHashLine x → x ≡ state.fresh → ⊥
hash_fresh x h e = subst IsHashLine e h

append : (text : List ℕ) (n m : ℕ) → Blank text n → Blank (drop n text) m → Blank text (n + m)
append text n m (s.none _) b = subst (Blank text) (omega arith) b
append text n m (s.white _ k w x r) b =
    subst (Blank text) (omega arith) (s.white text (k + m) w x (append (drop 1 text) k m r (subst (λ t. Blank t m) (sym (drop-drop k 1 text)) b)))
append text n m (s.comment _ j k d r) b =
    subst (Blank text) (omega arith) (s.comment text j (k + m) d (append (drop j text) k m r (subst (λ t. Blank t m) (sym (drop-drop k j text)) b)))

-- one piece more of white space or comment
further : (text : List ℕ) (f : Front) (n : ℕ) (out : List (ℕ × TokenKind)) (x : LineState) → StandsFirst text f → Blank f.rest n → StandsFirst text (after f n out x)
further text f n out x i b = record {
  line = i.line;
  blank = i.blank + n;
  begins = i.begins;
  is_blank = append i.line.rest i.blank n i.is_blank (subst (λ t. Blank t n) i.rest_is b);
  rest_is = ap (drop n) i.rest_is ∙ drop-drop n i.blank i.line.rest;
}

-- behind a line feed
new_line : (text : List ℕ) (f : Front) (n : ℕ) (out : List (ℕ × TokenKind)) (x : LineState) → Cuts text f → 0 < length f.rest → Piece f.rest f.state n out x
    → get_or f.rest 0 0 ≡ 10 → StandsFirst text (after f n out x)
new_line text f n out x a l q e = record { line = after f n out x; blank = 0; begins = feed f n out x a l q e; is_blank = s.none (drop n f.rest); rest_is = refl }

white_one : (text : List ℕ) → is_white (get_or text 0 0) ≡ true → get_or text 0 0 ≢ 10 → Blank text 1
white_one text w x = s.white text 0 w x (s.none (drop 1 text))

comment_one : (text : List ℕ) (n : ℕ) → Comment text n → Blank text n
comment_one text n d = subst (Blank text) (omega arith) (s.comment text n 0 d (s.none (drop n text)))

white_stands : (text : List ℕ) (f : Front) (y : LineState) → Cuts text f → 0 < length f.rest → y ≡ f.state → Piece f.rest f.state 1 [] (behind_white y (get_or f.rest 0 0 == 10))
    → is_white (get_or f.rest 0 0) ≡ true → behind_white y (get_or f.rest 0 0 == 10) ≡ state.fresh → (f.state ≡ state.fresh → StandsFirst text f)
    → StandsFirst text (after f 1 [] (behind_white y (get_or f.rest 0 0 == 10)))
white_stands text f y a l e q w g next = by (get_or f.rest 0 0 == 10) refl where
  feeds : (b : ℕ) → (b == 10) ≡ true → b ≡ 10
  feeds b h = grind arith

  differs : (b : ℕ) → (b == 10) ≡ false → b ≡ 10 → ⊥
  differs b h z = grind arith

  by : (b : Bool) → (get_or f.rest 0 0 == 10) ≡ b → StandsFirst text (after f 1 [] (behind_white y (get_or f.rest 0 0 == 10)))
  by true h = new_line text f 1 [] _ a l q (feeds (get_or f.rest 0 0) h)
  by false h = further text f 1 [] _ (next (sym e ∙ ap (behind_white y) (sym h) ∙ g)) (white_one f.rest w (differs (get_or f.rest 0 0) h))

stands_next : (text : List ℕ) (f : Front) (y : LineState) (n : ℕ) (out : List (ℕ × TokenKind)) (x : LineState) → Cuts text f → 0 < length f.rest → Piece f.rest f.state n out x
    → Piece f.rest y n out x → y ≡ f.state → x ≡ state.fresh → (f.state ≡ state.fresh → StandsFirst text f) → StandsFirst text (after f n out x)
stands_next text f y n out x a l q (c.white _ o w) e g next = white_stands text f y a l e q w g next
stands_next text f y n out x a l q (c.comment _ _ o d) e g next = further text f n [] y (next (sym e ∙ g)) (comment_one f.rest n d)
stands_next text f y n out x a l q (c.token _ _ kind i t) e g next = absurd (token_fresh y g)
stands_next text f y n out x a l q (c.hash _ _ _ b d) e g next = absurd (form_fresh f.rest n out x d g)
stands_next text f y n out x a l q (c.line_space _ _ o d) e g next = absurd (hash_fresh y o g)
stands_next text f y n out x a l q (c.skip z d u) e g next = absurd (cc)
stands_next text f y n out x a l q (c.close _ o z) e g next = new_line text f n out x a l q z

stands_first : (text : List ℕ) (f : Front) → Cuts text f → f.state ≡ state.fresh → StandsFirst text f
stands_first text _ none e = record { line = start text; blank = 0; begins = first; is_blank = s.none text; rest_is = refl }
stands_first text _ (piece f n out x a l q) e = stands_next text f f.state n out x a l q q refl e (stands_first text f a)

-- ---- from the text to the state

feed_fresh : (text : List ℕ) (x y : LineState) (n : ℕ) (out : List (ℕ × TokenKind)) → Piece text x n out y → get_or text 0 0 ≡ 10 → y ≡ state.fresh
feed_fresh text x y n out (c.white _ o w) e = ap (λ b. behind_white x (b == 10)) e
feed_fresh text x y n out (c.comment _ _ o d) e = absurd (let h = slash text n d in omega arith)
feed_fresh text x y n out (c.token _ _ kind i t) e = absurd (let h = sym (first_fine text n kind t) ∙ ap fine e in cc)
feed_fresh text x y n out (c.hash _ _ _ b d) e = absurd (omega arith)
feed_fresh text x y n out (c.line_space _ _ o d) e = absurd (space_feed text n d e)
feed_fresh text x y n out (c.skip z d u) e = absurd (z e)
feed_fresh text x y n out (c.close _ o z) e = refl

line_cuts : (text : List ℕ) (f : Front) → BeginsLine text f → Cuts text f × (f.state ≡ state.fresh)
line_cuts text _ first = (none, refl)
line_cuts text _ (feed f n out x a l q e) = (piece f n out x a l q, feed_fresh f.rest f.state x n out q e)

-- the front behind blanks
pub record Behind (text rest : List ℕ) : Type 0 where
  pub front : Front
  pub cuts : Cuts text front
  pub fresh : front.state ≡ state.fresh
  pub rest_is : front.rest ≡ rest

along : (text rest : List ℕ) (n : ℕ) → Blank rest n → (g : Front) → Cuts text g → g.state ≡ state.fresh → g.rest ≡ rest → Behind text (drop n rest)
along text rest n (s.none _) g a e h = record { front = g; cuts = a; fresh = e; rest_is = h }
along text rest n (s.white _ k w x r) g a e h =
    let w2 : is_white (get_or g.rest 0 0) ≡ true = ap (λ t. is_white (get_or t 0 0)) h ∙ w in
    let o : IsOutside g.state = subst IsOutside (sym e) tt in
    let l : 0 < length g.rest = byte_some g.rest (white_byte (get_or g.rest 0 0) w2) in
    let i = along text (drop 1 rest) k r (after g 1 [] (behind_white g.state (get_or g.rest 0 0 == 10))) (piece g 1 [] _ a l (c.white g.state o w2))
    (ap (λ b. behind_white g.state (b == 10)) (ap (λ t. get_or t 0 0) h) ∙ plain g.state (get_or rest 0 0) x ∙ e) (ap (drop 1) h) in
    record { front = i.front; cuts = i.cuts; fresh = i.fresh; rest_is = i.rest_is ∙ drop-drop k 1 rest }
  where
    plain : (y : LineState) (b : ℕ) → (b ≡ 10 → ⊥) → behind_white y (b == 10) ≡ y
    plain y b f = let d : (b == 10) ≡ false = grind arith in ap (behind_white y) d
along text rest n (s.comment _ j k d r) g a e h =
    let d2 : Comment g.rest j = subst (λ t. Comment t j) (sym h) d in
    let o : IsOutside g.state = subst IsOutside (sym e) tt in
    let l : 0 < length g.rest = byte_some g.rest (λ z. let f = slash g.rest j d2 in omega arith) in
    let i = along text (drop j rest) k r (after g j [] g.state) (piece g j [] g.state a l (c.comment g.state j o d2)) e (ap (drop j) h) in
    record { front = i.front; cuts = i.cuts; fresh = i.fresh; rest_is = i.rest_is ∙ drop-drop k j rest }

is_fresh : (text : List ℕ) (f : Front) → Cuts text f → StandsFirst text f → f.state ≡ state.fresh
is_fresh text f a i =
    let b = line_cuts text i.line i.begins in
    let h = along text i.line.rest i.blank i.is_blank i.line b.0 b.1 refl in
    ap (λ (z : Front). z.state) (same_front text f h.front a h.cuts (i.rest_is ∙ sym h.rest_is)) ∙ h.fresh

pub fresh_line : (text : List ℕ) (f : Front) → Cuts text f → (f.state ≡ state.fresh) ↔ StandsFirst text f
fresh_line text f a = (stands_first text f a, is_fresh text f a)
