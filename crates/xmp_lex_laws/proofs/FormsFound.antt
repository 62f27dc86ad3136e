-- The form of a `#` line at the front of a text, or that it has none.
use Rattle.std.proofs.Common.{◌≡◌, ◌<◌, ◌≤◌, ◌+◌, inl, inr, ℕ, Bool, true, false, List, [], length, take, drop, get_or, codes, subst, refl, arith, length-drop}
use Rattle.std.proofs.lemmas.Bool.{cases_eq}
use Rattle.xmp_lex.specs.declared.token.TokenKind.{TokenKind}
use Rattle.xmp_lex.specs.declared.token.Reserved.{Reserved}
use Rattle.xmp_lex.specs.LineStates.{LineState}
use Rattle.xmp_lex.specs.LineStates as state
use Rattle.xmp_lex.specs.Bytes.{is_letter, IsRun}
use Rattle.xmp_lex.specs.Words.{word_text}
use Rattle.xmp_lex.specs.Pieces.{LineWord, LineHead}
use Rattle.xmp_lex.specs.Cut.{Piece, Broken}
use Rattle.xmp_lex.proofs.SpaceLemmas.{inside}
use Rattle.xmp_lex.proofs.Heads.{make_word, make_head, six, no_word_no_form, no_first, open_form, other_word, include_found, no_include_found, pragma_found, other_found, open_pragma, define_found, no_letter, bracket, reserved}
use Rattle.xmp_lex_laws.proofs.Searches.{Decided, same_bytes}
use Rattle.xmp_lex_laws.proofs.SpacesFound.{SpacesFound, whole, none, spaces_at}
use Rattle.xmp_lex_laws.proofs.TokensFound.{run_at, word_at}

-- a piece at the front where the line stands so, or the rule that breaks
pub data PieceFound (text : List ℕ) (x : LineState) : Type 0 where
  stands : (n : ℕ) (out : List (ℕ × TokenKind)) (y : LineState) → Piece text x n out y → 1 ≤ n → PieceFound text x
  breaks : (rule k : ℕ) → Broken text x rule k → PieceFound text x

module _ (text : List ℕ) where
  define_at : (m : ℕ) → LineHead text m (codes "define") → m ≤ length text → PieceFound text state.fresh
  define_at m h le = by (is_letter (get_or (drop m text) 0 0)) refl (run_at (drop m text)) where
    named : is_letter (get_or (drop m text) 0 0) ≡ true → (k : ℕ) → IsRun (drop m text) k → Decided (get_or (drop m text) k 0 ≡ 40)
        → Decided ((r : Reserved) × (take k (drop m text) ≡ word_text r)) → PieceFound text state.fresh
    named e k r (inl b) w = breaks 6 0 (bracket text (drop m text) m k (get_or (drop m text) k 0) h refl r refl b).0
    named e k r (inr b) (inl w) = breaks 6 0 (reserved text (drop m text) (take k (drop m text)) m k w.0 h refl r refl w.1).0
    named e k r (inr b) (inr f) =
        let z = define_found text (drop m text) (take k (drop m text)) (take k (drop m text)) m k (get_or (drop m text) 0 0) (get_or (drop m text) k 0) h le refl refl e r refl b refl (λ w q. f (w, q)) refl in
        stands (m + k) _ state.directive z.0 z.2

    by : (b : Bool) → is_letter (get_or (drop m text) 0 0) ≡ b → (k : ℕ) × IsRun (drop m text) k → PieceFound text state.fresh
    by true e x = named e x.0 x.1 (cases_eq (get_or (drop m text) x.0 0) 40) (word_at (take x.0 (drop m text)))
    by false e x = breaks 6 0 (no_letter text (drop m text) m (get_or (drop m text) 0 0) h refl refl e).0

  include_at : (m : ℕ) → LineHead text m (codes "include") → m ≤ length text → Decided (get_or (drop m text) 0 0 ≡ 60) → PieceFound text state.fresh
  include_at m h le (inl e) = let z = include_found text (drop m text) m (get_or (drop m text) 0 0) h le refl refl e in stands m [] state.ignored z.0 z.2
  include_at m h le (inr f) = breaks 6 0 (no_include_found text (drop m text) m (get_or (drop m text) 0 0) h refl refl f).0

  pragma_at : (n m : ℕ) → LineWord text n (codes "pragma") → LineHead text m (codes "pragma") → m ≤ length text → (k : ℕ) × IsRun (drop m text) k
      → PieceFound text state.fresh
  pragma_at n m v h le x = by (same_bytes (take x.0 (drop m text)) (codes "xmp")) where
    by : Decided (take x.0 (drop m text) ≡ codes "xmp") → PieceFound text state.fresh
    by (inl e) = let z = pragma_found text (drop m text) (take x.0 (drop m text)) m x.0 h le refl x.1 refl e in stands (m + x.0) _ state.directive z.0 z.2
    by (inr f) = let z = other_found text (drop m text) (take x.0 (drop m text)) n m x.0 v h le refl x.1 refl f in stands n [] state.ignored z.0 z.2

  head_at : (n m : ℕ) (word : List ℕ) → LineWord text n word → LineHead text m word → m ≤ length text
      → Decided (word ≡ codes "define") → Decided (word ≡ codes "include") → Decided (word ≡ codes "pragma") → PieceFound text state.fresh
  head_at n m word v h le (inl e) i p = define_at m (subst (LineHead text m) e h) le
  head_at n m word v h le (inr d) (inl e) p = include_at m (subst (LineHead text m) e h) le (cases_eq (get_or (drop m text) 0 0) 60)
  head_at n m word v h le (inr d) (inr i) (inl e) = pragma_at n m (subst (LineWord text n) e v) (subst (LineHead text m) e h) le (run_at (drop m text))
  head_at n m word v h le (inr d) (inr i) (inr p) = breaks 6 0 (six text v.begins (other_word text m word h d i p)).0

  behind_word : (n : ℕ) (word : List ℕ) → LineWord text n word → n ≤ length text → SpacesFound (drop n text) → PieceFound text state.fresh
  behind_word n word v le (whole k s l) =
      head_at n (n + k) word v (make_head text word n k v s) (omega (arith, length-drop n text)) (same_bytes word (codes "define")) (same_bytes word (codes "include")) (same_bytes word (codes "pragma"))
  behind_word n word v le (none f) = unclosed (same_bytes word (codes "pragma")) where
    unclosed : Decided (word ≡ codes "pragma") → PieceFound text state.fresh
    unclosed (inl e) = let z = open_pragma text word n v le f e in stands n [] state.ignored z.0 z.2
    unclosed (inr p) = breaks 6 0 (six text v.begins (open_form text n word v f p)).0

  behind_hash : get_or text 0 0 ≡ 35 → 0 < length text → SpacesFound (drop 1 text) → PieceFound text state.fresh
  behind_hash e some (none f) = breaks 6 0 (six text e (no_word_no_form text (no_first text f))).0
  behind_hash e some (whole k s l) =
      let on = drop (1 + k) text in
      let r = run_at on in
      let v = make_word text on (take r.0 on) k r.0 e s refl r.1 refl in
      let n = 1 + k + r.0 in
      behind_word n (take r.0 on) v (let w = r.1.within in omega (arith, length-drop 1 text, length-drop (1 + k) text)) (spaces_at (drop n text))

  pub form_at : get_or text 0 0 ≡ 35 → PieceFound text state.fresh
  form_at e = behind_hash e (inside text 0 (λ z. omega arith)) (spaces_at (drop 1 text))
