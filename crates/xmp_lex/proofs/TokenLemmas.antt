-- Tokens, in the forms that the code's goals have.
use Rattle.std.proofs.Common.{◌≡◌, ◌<◌, ◌≤◌, ◌+◌, ◌++◌, ◌||◌, ℕ, List, length, take, drop, get_or, refl, sym, ap, ◌∙◌, arith, subst, add-one, true, false, Bool, nat_le, pos, to_z, w64, None, length-drop, length-take}
use Rattle.xmp_lex.specs.declared.token.TokenKind.TheVariants as t
use Rattle.xmp_lex.specs.declared.token.Mark.{Mark}
use Rattle.xmp_lex.specs.declared.token.Reserved.{Reserved}
use Rattle.xmp_num.specs.declared.types.Ty.{Ty}
use Rattle.xmp_lex.specs.Bytes.{is_digit, is_letter, is_word, IsRun, IsNumber, IsTextEnd, IsBadEscape, has_suffix, escaped, escapes, escape_value, content, content_of}
use Rattle.xmp_lex.specs.Words.{mark_text, word_text, IsMark}
use Rattle.xmp_lex.specs.Pieces.{Spelled, name, word, number, quoted, mark, Malformed, unknown_escape, unclosed, no_number, IsBlockStart, IsLineStart, type_of}
use Rattle.xmp_lex.specs.Found.{Taken}
use Rattle.xmp_lex.proofs.SpaceLemmas.{inside}
use Rattle.xmp_lex.proofs.MarkTable.{long_is, place, long_some}
use Rattle.std.proofs.lemmas.Int.{to_z_pos}

pub escaped_next : (text : List ℕ) (i : ℕ) (e : Bool) → e ≡ escaped text i → escapes (get_or text i 0) e ≡ escaped text (i + 1)
unfolding escaped
escaped_next text i e h = rw add-one (ap (escapes (get_or text i 0)) h)

pub content_next : (text : List ℕ) (i : ℕ) (e : Bool) (old new : List ℕ) → e ≡ escaped text i → old ≡ content text i → new ≡ old ++ content_of e (get_or text i 0) → new ≡ content text (i + 1)
unfolding content
content_next text i e old new h o n = rw add-one (n ∙ ap (λ x. x ++ content_of e (get_or text i 0)) o ∙ ap (λ x. content text i ++ content_of x (get_or text i 0)) h)

pub good_escape : (text : List ℕ) (i : ℕ) (e : Bool) → e ≡ escaped text i → ((e ≡ true) × (escape_value (get_or text i 0) ≡ None) → ⊥) → IsBadEscape text i → ⊥
good_escape text i e h none b = none (h ∙ b.0, b.1)

-- a run that begins with a letter or a digit isn't empty
word_run : (text : List ℕ) (n : ℕ) → is_word (get_or text 0 0) ≡ true → IsRun text n → 1 ≤ n
word_run text n w r = omega (arith, some) where
  some : (n ≡ 0) → ⊥
  some e = let i = inside text 0 (λ z. zero_word (get_or text 0 0) w z) in
      let h = r.here (omega arith) in let g = ap (λ k. is_word (get_or text k 0)) e in cc
    where
      zero_word : (b : ℕ) → is_word b ≡ true → b ≡ 0 → ⊥
      zero_word b v z = grind arith

letter_word : (b : ℕ) → is_letter b ≡ true → is_word b ≡ true
letter_word b h = ap (λ x. x || is_digit b) h

digit_word : (b : ℕ) → is_digit b ≡ true → is_word b ≡ true
digit_word b h = ap (λ x. is_letter b || x) h ∙ or_true (is_letter b) where
  or_true : (x : Bool) → (x || true) ≡ true
  or_true true = refl
  or_true false = refl

pub word_found : (text : List ℕ) (n : ℕ) (r : Reserved) → is_letter (get_or text 0 0) ≡ true → IsRun text n → take n text ≡ word_text r → Taken text n (t.Word r)
word_found text n r l run e = (word n r l run e, run.within, word_run text n (letter_word (get_or text 0 0) l) run)

pub name_found : (text : List ℕ) (n : ℕ) (spelled bytes : List ℕ) → is_letter (get_or text 0 0) ≡ true → IsRun text n → spelled ≡ take n text → ((r : Reserved) → spelled ≡ word_text r → ⊥) → bytes ≡ spelled → Taken text n (t.Name bytes)
name_found text n spelled bytes l run e none b =
    (subst (λ x. Spelled text n (t.Name x)) (sym (b ∙ e)) (name n l run (λ r h. none r (e ∙ h))), run.within, word_run text n (letter_word (get_or text 0 0) l) run)

pub number_found : (text : List ℕ) (n : ℕ) (spelled : List ℕ) (v : ℕ) (s : Bool) (y : Ty) → is_digit (get_or text 0 0) ≡ true → IsRun text n → spelled ≡ take n text → IsNumber spelled v → s ≡ has_suffix spelled → y ≡ type_of (s || nat_le 2147483648 v)
    → Taken text n (t.Number (to_z w64 v) y)
number_found text n spelled v s y d run e is h ty =
    let is2 : IsNumber (take n text) v = subst (λ x. IsNumber x v) e is in
    let h2 : s ≡ has_suffix (take n text) = h ∙ ap has_suffix e in
    let y2 : y ≡ type_of (has_suffix (take n text) || nat_le 2147483648 v) = ty ∙ ap (λ x. type_of (x || nat_le 2147483648 v)) h2 in
    let z : to_z w64 v ≡ pos v = to_z_pos w64 v is.value.fits in
    (subst (λ x. Spelled text n (t.Number x y)) (sym z) (subst (λ x. Spelled text n (t.Number (pos v) x)) (sym y2) (number n v d run is2)), run.within, word_run text n (digit_word (get_or text 0 0) d) run)

pub no_number_found : (text : List ℕ) (n : ℕ) (spelled : List ℕ) → is_digit (get_or text 0 0) ≡ true → IsRun text n → spelled ≡ take n text → ((v : ℕ) → IsNumber spelled v → ⊥) → Malformed text 4 0 × (0 ≤ length text)
no_number_found text n spelled d run e none = (no_number n d run (λ v is. none v (subst (λ x. IsNumber x v) (sym e) is)), omega arith)

pub mark_found : (text : List ℕ) (x : Mark) (n : ℕ) → (IsBlockStart text → ⊥) → (IsLineStart text → ⊥) → IsMark text x → n ≡ length (mark_text x) → Taken text n (t.Mark x)
mark_found text x n b l is e = (mark n x b l is e, (let h = ap length is.here in omega (arith, length-take (length (mark_text x)) text)), (let s = mark_some x in omega arith)) where
  mark_some : (m : Mark) → 1 ≤ length (mark_text m)
  mark_some m = subst (λ n. 1 ≤ n) (sym (long_is m)) (long_some (place m))

pub unclosed_found : (text after : List ℕ) (k b : ℕ) → get_or text 0 0 ≡ 34 → after ≡ drop 1 text → IsTextEnd after k → b ≡ get_or after k 0 → (b ≡ 34 → ⊥) → Malformed text 3 0 × (0 ≤ length text)
unclosed_found text after k b q a e h none = (unclosed k q (subst (λ x. IsTextEnd x k) a e) (λ z. none (h ∙ ap (λ x. get_or x k 0) a ∙ z)), omega arith)

pub unknown_found : (text after : List ℕ) (k b j : ℕ) → get_or text 0 0 ≡ 34 → after ≡ drop 1 text → IsTextEnd after k → b ≡ get_or after k 0 → b ≡ 34 → (j < k) × IsBadEscape after j × ((i : ℕ) → i < j → IsBadEscape after i → ⊥) → Malformed text 1 j × (j ≤ length text)
unknown_found text after k b j q a e h y m =
    let m2 : (j < k) × IsBadEscape (drop 1 text) j × ((i : ℕ) → i < j → IsBadEscape (drop 1 text) i → ⊥) = subst (λ x. (j < k) × IsBadEscape x j × ((i : ℕ) → i < j → IsBadEscape x i → ⊥)) a m in
    let e2 : IsTextEnd (drop 1 text) k = subst (λ x. IsTextEnd x k) a e in
    (unknown_escape k j q e2 (ap (λ x. get_or x k 0) (sym a) ∙ sym h ∙ y) m2.0 m2.1 m2.2, (let w = e2.within in let l = m2.0 in omega (arith, length-drop 1 text)))

pub text_found : (text after : List ℕ) (k b : ℕ) (bytes : List ℕ) → get_or text 0 0 ≡ 34 → after ≡ drop 1 text → IsTextEnd after k → b ≡ get_or after k 0 → b ≡ 34 → (bytes ≡ content after k) × ((i : ℕ) → i < k → IsBadEscape after i → ⊥) → Taken text (k + 2) (t.Text bytes)
text_found text after k b bytes q a e h y m =
    let m2 : (bytes ≡ content (drop 1 text) k) × ((i : ℕ) → i < k → IsBadEscape (drop 1 text) i → ⊥) = subst (λ x. (bytes ≡ content x k) × ((i : ℕ) → i < k → IsBadEscape x i → ⊥)) a m in
    let e2 : IsTextEnd (drop 1 text) k = subst (λ x. IsTextEnd x k) a e in
    let c : get_or (drop 1 text) k 0 ≡ 34 = ap (λ x. get_or x k 0) (sym a) ∙ sym h ∙ y in (
      subst (λ x. Spelled text (k + 2) (t.Text x)) (sym m2.0) (quoted k (k + 2) q e2 c m2.1 refl),
      (let i = inside (drop 1 text) k (λ z. let g = c in omega arith) in omega (arith, length-drop 1 text)),
      omega arith,
    )
