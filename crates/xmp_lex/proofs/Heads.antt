-- `#` lines: the head and the form of one are unique.
use Rattle.std.proofs.Common.{◌≡◌, ◌≤◌, ◌+◌, ℕ, List, [], ◌∷◌, length, take, drop, get_or, refl, sym, ap, ◌∙◌, arith, subst, true, false, codes, length-drop}
use Rattle.xmp_lex.specs.declared.token.TokenKind.{TokenKind}
use Rattle.xmp_lex.specs.declared.token.TokenKind.TheVariants as t
use Rattle.xmp_lex.specs.LineStates.{LineState}
use Rattle.xmp_lex.specs.LineStates as state
use Rattle.xmp_lex.specs.declared.token.Reserved.{Reserved}
use Rattle.xmp_lex.specs.Bytes.{is_letter, is_word, IsRun}
use Rattle.xmp_lex.specs.Words.{word_text}
use Rattle.xmp_lex.specs.Pieces.{LineSpaces, LineWord, LineHead, XmpHead, LineForm, define, include, pragma, other_pragma, Spelled, name}
use Rattle.xmp_lex.specs.Cut.{Broken, no_form, Piece, hash}
use Rattle.xmp_lex.proofs.SpaceLemmas.{one_spaces, one_place}

one_run : (text : List ℕ) (n m : ℕ) → IsRun text n → IsRun text m → n ≡ m
one_run text n m a b = one_place (λ k. is_word (get_or text k 0) ≡ false) text n m a b

pub one_line_word : (text : List ℕ) (n m : ℕ) (w v : List ℕ) → LineWord text n w → LineWord text m v → (n ≡ m) × (w ≡ v)
one_line_word text n m w v a b =
    let f : a.first ≡ b.first = one_spaces (drop 1 text) a.first b.first a.line_space b.line_space in
    let r2 : IsRun (drop (1 + a.first) text) b.run = subst (λ k. IsRun (drop (1 + k) text) b.run) (sym f) b.is_run in
    let r : a.run ≡ b.run = one_run _ a.run b.run a.is_run r2 in (
      (let x = a.length_is in let y = b.length_is in omega arith),
      a.word_is ∙ ap (λ k. take k (drop (1 + a.first) text)) r ∙ ap (λ k. take b.run (drop (1 + k) text)) f ∙ sym b.word_is,
    )

pub one_head : (text : List ℕ) (n m : ℕ) (w v : List ℕ) → LineHead text n w → LineHead text m v → (n ≡ m) × (w ≡ v)
one_head text n m w v a b =
    let o = one_line_word text a.front b.front w v a.line_word b.line_word in
    let g : LineSpaces (drop a.front text) b.second = subst (λ k. LineSpaces (drop k text) b.second) (sym o.0) b.space_behind in
    let s : a.second ≡ b.second = one_spaces _ a.second b.second a.space_behind g in
    ((let x = a.length_is in let y = b.length_is in let z = o.0 in omega arith), o.1)

pub one_xmp : (text : List ℕ) (n m : ℕ) → XmpHead text n → XmpHead text m → n ≡ m
one_xmp text n m a b =
    let f : a.front ≡ b.front = (one_head text a.front b.front _ _ a.head b.head).0 in
    let r : a.run ≡ b.run = one_run _ a.run b.run a.is_run (subst (λ k. IsRun (drop k text) b.run) (sym f) b.is_run) in
    let x = a.length_is in let y = b.length_is in omega arith

-- a `#` line has no form where it has no word
pub no_word_no_form : (text : List ℕ) → ((n : ℕ) (w : List ℕ) → LineWord text n w → ⊥) → (n : ℕ) (out : List (ℕ × TokenKind)) (y : LineState) → LineForm text n out y → ⊥
no_word_no_form text f n out y (define m k r h s p) = f h.front _ h.line_word
no_word_no_form text f n out y (include m h e) = f h.front _ h.line_word
no_word_no_form text f n out y (pragma m x) = f x.head.front _ x.head.line_word
no_word_no_form text f n out y (other_pragma m w o) = f m _ w

pub no_first : (text : List ℕ) → ((k : ℕ) → LineSpaces (drop 1 text) k → ⊥) → (n : ℕ) (w : List ℕ) → LineWord text n w → ⊥
no_first text f n w h = f h.first h.line_space

-- a word with an open comment behind it begins no head
pub no_head : (text : List ℕ) (n : ℕ) (w : List ℕ) → LineWord text n w → ((k : ℕ) → LineSpaces (drop n text) k → ⊥) → (m : ℕ) (v : List ℕ) → LineHead text m v → ⊥
no_head text n w h f m v g = f g.second (subst (λ k. LineSpaces (drop k text) g.second) (sym (one_line_word text n g.front w v h g.line_word).0) g.space_behind)

pub open_form : (text : List ℕ) (n : ℕ) (w : List ℕ) → LineWord text n w → ((k : ℕ) → LineSpaces (drop n text) k → ⊥) → (w ≡ codes "pragma" → ⊥) → (m : ℕ) (out : List (ℕ × TokenKind)) (y : LineState) → LineForm text m out y → ⊥
open_form text n w h f p m out y (define j k r g s q) = no_head text n w h f j _ g
open_form text n w h f p m out y (include j g e) = no_head text n w h f j _ g
open_form text n w h f p m out y (pragma j x) = no_head text n w h f x.front _ x.head
open_form text n w h f p m out y (other_pragma j g o) = p (one_line_word text n j w _ h g).1

-- the form, where the head is known
pub other_word : (text : List ℕ) (n : ℕ) (w : List ℕ) → LineHead text n w → (w ≡ codes "define" → ⊥) → (w ≡ codes "include" → ⊥) → (w ≡ codes "pragma" → ⊥) → (m : ℕ) (out : List (ℕ × TokenKind)) (y : LineState) → LineForm text m out y → ⊥
other_word text n w h d i p m out y (define j k r g s q) = d (one_head text n j w _ h g).1
other_word text n w h d i p m out y (include j g e) = i (one_head text n j w _ h g).1
other_word text n w h d i p m out y (pragma j x) = p (one_head text n x.front w _ h x.head).1
other_word text n w h d i p m out y (other_pragma j g o) = p (one_line_word text h.front j w _ h.line_word g).1

pub no_include : (text : List ℕ) (n : ℕ) → LineHead text n (codes "include") → (get_or (drop n text) 0 0 ≡ 60 → ⊥) → (m : ℕ) (out : List (ℕ × TokenKind)) (y : LineState) → LineForm text m out y → ⊥
no_include text n h f m out y (define j k r g s q) = let z = ap (λ xs. get_or xs 0 0) (one_head text n j _ _ h g).1 in omega arith
no_include text n h f m out y (include j g e) = f (ap (λ k. get_or (drop k text) 0 0) (one_head text n j _ _ h g).0 ∙ e)
no_include text n h f m out y (pragma j x) = let z = ap (λ xs. get_or xs 0 0) (one_head text n x.front _ _ h x.head).1 in omega arith
no_include text n h f m out y (other_pragma j g o) = let z = ap (λ xs. get_or xs 0 0) (one_line_word text h.front j _ _ h.line_word g).1 in omega arith

pub name_is : (text : List ℕ) (n : ℕ) (r : List ℕ) → Spelled text n (t.Name r) → (is_letter (get_or text 0 0) ≡ true) × IsRun text n × ((w : Reserved) → take n text ≡ word_text w → ⊥)
name_is text n r (name _ l run w) = (l, run, w)

pub no_define : (text : List ℕ) (n : ℕ) → LineHead text n (codes "define")
    → ((k : ℕ) → is_letter (get_or (drop n text) 0 0) ≡ true → IsRun (drop n text) k → ((w : Reserved) → take k (drop n text) ≡ word_text w → ⊥) → (get_or (drop n text) k 0 ≡ 40 → ⊥) → ⊥)
    → (m : ℕ) (out : List (ℕ × TokenKind)) (y : LineState) → LineForm text m out y → ⊥
no_define text n h f m out y (define j k r g s q) =
    let e : j ≡ n = sym (one_head text n j _ _ h g).0 in
    let s2 : Spelled (drop n text) k (t.Name r) = subst (λ i. Spelled (drop i text) k (t.Name r)) e s in
    let i = name_is (drop n text) k r s2 in
    f k i.0 i.1 i.2 (λ z. q (ap (λ i. get_or (drop i text) k 0) e ∙ z))
no_define text n h f m out y (include j g e) = let z = ap (λ xs. get_or xs 0 0) (one_head text n j _ _ h g).1 in omega arith
no_define text n h f m out y (pragma j x) = let z = ap (λ xs. get_or xs 0 0) (one_head text n x.front _ _ h x.head).1 in omega arith
no_define text n h f m out y (other_pragma j g o) = let z = ap (λ xs. get_or xs 0 0) (one_line_word text h.front j _ _ h.line_word g).1 in omega arith

pub make_word : (text on word : List ℕ) (first run : ℕ) → get_or text 0 0 ≡ 35 → LineSpaces (drop 1 text) first → on ≡ drop (1 + first) text → IsRun on run → word ≡ take run on → LineWord text (1 + first + run) word
make_word text on word first run b g o r w = record {
  begins = b;
  first = first;
  run = run;
  line_space = g;
  is_run = subst (λ x. IsRun x run) o r;
  word_is = w ∙ ap (take run) o;
  length_is = refl;
}

pub make_head : (text word : List ℕ) (front second : ℕ) → LineWord text front word → LineSpaces (drop front text) second → LineHead text (front + second) word
make_head text word front second w s = record { front = front; second = second; line_word = w; space_behind = s; length_is = refl }

pub six : (text : List ℕ) → get_or text 0 0 ≡ 35 → ((m : ℕ) (out : List (ℕ × TokenKind)) (y : LineState) → LineForm text m out y → ⊥) → Broken text state.fresh 6 0 × (0 ≤ length text)
six text b f = (no_form b f, omega arith)

-- in the forms that the code's goals have
pub include_found : (text after : List ℕ) (n b : ℕ) → LineHead text n (codes "include") → n ≤ length text → after ≡ drop n text → b ≡ get_or after 0 0 → b ≡ 60 → Piece text state.fresh n [] state.ignored × (n ≤ length text) × (1 ≤ n) × Unit {0}
include_found text after n b h le a e z = (hash n [] state.ignored h.line_word.begins (include n h (ap (λ xs. get_or xs 0 0) (sym a) ∙ sym e ∙ z)), le, (let l = h.length_is in let f = h.line_word.length_is in omega arith), tt)

pub no_include_found : (text after : List ℕ) (n b : ℕ) → LineHead text n (codes "include") → after ≡ drop n text → b ≡ get_or after 0 0 → (b ≡ 60 → ⊥) → Broken text state.fresh 6 0 × (0 ≤ length text)
no_include_found text after n b h a e f = six text h.line_word.begins (no_include text n h (λ z. f (e ∙ ap (λ xs. get_or xs 0 0) a ∙ z)))

pub pragma_found : (text after word : List ℕ) (n k : ℕ) → LineHead text n (codes "pragma") → n ≤ length text → after ≡ drop n text → IsRun after k → word ≡ take k after → word ≡ codes "xmp"
    → Piece text state.fresh (n + k) ((0, t.Pragma) ∷ []) state.directive × (n + k ≤ length text) × (1 ≤ n + k) × (0 ≤ length text)
pragma_found text after word n k h le a r w x =
    let xmp : XmpHead text (n + k) = record { front = n; run = k; head = h; is_run = subst (λ xs. IsRun xs k) a r; is_xmp = ap (take k) (sym a) ∙ sym w ∙ x; length_is = refl } in (
      hash (n + k) ((0, t.Pragma) ∷ []) state.directive h.line_word.begins (pragma (n + k) xmp),
      (let i = r.within in let l = ap length a in omega (arith, length-drop n text)),
      (let l = h.length_is in let f = h.line_word.length_is in omega arith),
      omega arith,
    )

ignored_pragma : (text : List ℕ) (n : ℕ) → LineWord text n (codes "pragma") → n ≤ length text → ((k : ℕ) → XmpHead text k → ⊥) → Piece text state.fresh n [] state.ignored × (n ≤ length text) × (1 ≤ n) × Unit {0}
ignored_pragma text n w le o = (hash n [] state.ignored w.begins (other_pragma n w o), le, (let l = w.length_is in omega arith), tt)

pub other_found : (text after word : List ℕ) (n m k : ℕ) → LineWord text n (codes "pragma") → LineHead text m (codes "pragma") → m ≤ length text → after ≡ drop m text → IsRun after k → word ≡ take k after → (word ≡ codes "xmp" → ⊥)
    → Piece text state.fresh n [] state.ignored × (n ≤ length text) × (1 ≤ n) × Unit {0}
other_found text after word n m k v h le a r w x =
    let same = (one_line_word text n h.front _ _ v h.line_word).0 in
    ignored_pragma text n v (let l = h.length_is in omega arith) other
  where
    other : (j : ℕ) → XmpHead text j → ⊥
    other j y =
        let f : m ≡ y.front = (one_head text m y.front _ _ h y.head).0 in
        let q : k ≡ y.run = one_run (drop m text) k y.run (subst (λ xs. IsRun xs k) a r) (subst (λ i. IsRun (drop i text) y.run) (sym f) y.is_run) in
        x (w ∙ ap (take k) a ∙ ap (λ i. take i (drop m text)) q ∙ ap (λ i. take y.run (drop i text)) f ∙ y.is_xmp)

pub open_pragma : (text word : List ℕ) (n : ℕ) → LineWord text n word → n ≤ length text → ((k : ℕ) → LineSpaces (drop n text) k → ⊥) → word ≡ codes "pragma"
    → Piece text state.fresh n [] state.ignored × (n ≤ length text) × (1 ≤ n) × Unit {0}
open_pragma text word n v le f e = ignored_pragma text n (subst (LineWord text n) e v) le (λ k x. no_head text n word v f x.front _ x.head)

pub define_found : (text after spelled bytes : List ℕ) (n k b c : ℕ) → LineHead text n (codes "define") → n ≤ length text → after ≡ drop n text → b ≡ get_or after 0 0 → is_letter b ≡ true → IsRun after k → c ≡ get_or after k 0 → (c ≡ 40 → ⊥)
    → spelled ≡ take k after → ((r : Reserved) → spelled ≡ word_text r → ⊥) → bytes ≡ spelled
    → Piece text state.fresh (n + k) ((n, t.Define bytes) ∷ []) state.directive × (n + k ≤ length text) × (1 ≤ n + k) × (n ≤ length text)
define_found text after spelled bytes n k b c h le a e l r ce ne se none be =
    let s : Spelled (drop n text) k (t.Name bytes) = subst (λ xs. Spelled xs k (t.Name bytes)) a (subst (λ x. Spelled after k (t.Name x)) (sym (be ∙ se)) (name k (ap is_letter (sym e) ∙ l) r (λ q z. none q (se ∙ z)))) in (
      hash (n + k) ((n, t.Define bytes) ∷ []) state.directive h.line_word.begins (define n k bytes h s (λ z. ne (ce ∙ ap (λ xs. get_or xs k 0) a ∙ z))),
      (let i = r.within in let l = ap length a in omega (arith, length-drop n text)),
      (let l = h.length_is in let f = h.line_word.length_is in omega arith),
      le,
    )

pub no_letter : (text after : List ℕ) (n b : ℕ) → LineHead text n (codes "define") → after ≡ drop n text → b ≡ get_or after 0 0 → is_letter b ≡ false → Broken text state.fresh 6 0 × (0 ≤ length text)
no_letter text after n b h a e f = six text h.line_word.begins (no_define text n h (λ k l r w p. let z = ap is_letter (e ∙ ap (λ xs. get_or xs 0 0) a) in cc))

pub bracket : (text after : List ℕ) (n k c : ℕ) → LineHead text n (codes "define") → after ≡ drop n text → IsRun after k → c ≡ get_or after k 0 → c ≡ 40 → Broken text state.fresh 6 0 × (0 ≤ length text)
bracket text after n k c h a r e f = six text h.line_word.begins (no_define text n h (λ j l q w p.
    p (ap (λ i. get_or (drop n text) i 0) (one_run (drop n text) j k q (subst (λ xs. IsRun xs k) a r)) ∙ ap (λ xs. get_or xs k 0) (sym a) ∙ sym e ∙ f)))

pub reserved : (text after spelled : List ℕ) (n k : ℕ) (r : Reserved) → LineHead text n (codes "define") → after ≡ drop n text → IsRun after k → spelled ≡ take k after → spelled ≡ word_text r → Broken text state.fresh 6 0 × (0 ≤ length text)
reserved text after spelled n k r h a q e f = six text h.line_word.begins (no_define text n h (λ j l p w z.
    w r (ap (λ i. take i (drop n text)) (one_run (drop n text) j k p (subst (λ xs. IsRun xs k) a q)) ∙ ap (take k) (sym a) ∙ sym e ∙ f)))
