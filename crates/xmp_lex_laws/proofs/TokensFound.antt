-- The token at the front of a text, or the rule that breaks there.
use Rattle.std.proofs.Common.{◌≡◌, ◌≢◌, ◌<◌, ◌≤◌, ◌+◌, ◌||◌, ◌⊎◌, inl, inr, ℕ, Bool, true, false, Option, Some, None, List, [], ◌∷◌, length, take, drop, get_or, nat_le, ap, sym, ◌∙◌, refl, arith}
use Rattle.std.proofs.lemmas.Bool.{cases_lt, cases_eq}
use Rattle.xmp_lex.specs.declared.token.TokenKind.{TokenKind}
use Rattle.xmp_lex.specs.declared.token.TokenKind.TheVariants as t
use Rattle.xmp_lex.specs.declared.token.Mark.TheVariants as m
use Rattle.xmp_lex.specs.declared.token.Reserved.{Reserved}
use Rattle.xmp_lex.specs.declared.token.Reserved.TheVariants as w
use Rattle.xmp_lex.specs.Bytes.{is_white, is_digit, is_letter, is_word, IsRun, IsTextEnd, is_end, escaped, escape_value, IsBadEscape, content, IsNumber, has_suffix, digits_of, base_of, digit, value}
use Rattle.xmp_lex.specs.Words.{BeginsWith, mark_text, word_text}
use Rattle.xmp_lex.specs.Pieces.{Spelled, quoted, Malformed, stray, unknown_escape, no_number, IsBlockStart, IsLineStart, type_of}
use Rattle.xmp_lex.specs.Pieces as p
use Rattle.xmp_lex.proofs.MarkTable.{table, is_mark, no_mark}
use Rattle.xmp_lex.proofs.TokenLemmas.{word_found, name_found, number_found, mark_found}
use Rattle.xmp_lex_laws.proofs.Searches.{Decided, SomeOrNone, is_true, same_bytes, First, found, nowhere, first, first_place}

pub data TokenFound (text : List ℕ) : Type 0 where
  spelled : (n : ℕ) (kind : TokenKind) → Spelled text n kind → 1 ≤ n → TokenFound text
  malformed : (rule k : ℕ) → Malformed text rule k → TokenFound text

-- the longest run of letters and digits
pub run_at : (text : List ℕ) → (n : ℕ) × IsRun text n
run_at text = first_place (λ k. is_word (get_or text k 0) ≡ false) (λ k. no_word (is_word (get_or text k 0))) text where
  no_word : (b : Bool) → Decided (b ≡ false)
  no_word true = inr (λ e. cc)
  no_word false = inl refl

-- ---- words

words : List Reserved
words = w.Int ∷ w.Long ∷ w.Void ∷ w.If ∷ w.Else ∷ w.While ∷ w.For ∷ w.Return ∷ w.Printf ∷ w.Scanf ∷ w.SyncAll ∷ []

place : Reserved → ℕ
place w.Int = 0
place w.Long = 1
place w.Void = 2
place w.If = 3
place w.Else = 4
place w.While = 5
place w.For = 6
place w.Return = 7
place w.Printf = 8
place w.Scanf = 9
place w.SyncAll = 10

has : (x : Reserved) → get_or words (place x) w.Int ≡ x
unfolding words place
has w.Int = refl
has w.Long = refl
has w.Void = refl
has w.If = refl
has w.Else = refl
has w.While = refl
has w.For = refl
has w.Return = refl
has w.Printf = refl
has w.Scanf = refl
has w.SyncAll = refl

place_below : (x : Reserved) → place x < 11
unfolding place
place_below w.Int = omega arith
place_below w.Long = omega arith
place_below w.Void = omega arith
place_below w.If = omega arith
place_below w.Else = omega arith
place_below w.While = omega arith
place_below w.For = omega arith
place_below w.Return = omega arith
place_below w.Printf = omega arith
place_below w.Scanf = omega arith
place_below w.SyncAll = omega arith

abbrev IsWord : List ℕ → ℕ → Type 0
IsWord bytes k = bytes ≡ word_text (get_or words k w.Int)

pub word_at : (bytes : List ℕ) → Decided ((x : Reserved) × (bytes ≡ word_text x))
word_at bytes = by (first (IsWord bytes) (λ k. same_bytes bytes (word_text (get_or words k w.Int))) 11) where
  by : First (IsWord bytes) 11 → Decided ((x : Reserved) × (bytes ≡ word_text x))
  by (found k h e b) = inl (get_or words k w.Int, e)
  by (nowhere f) = inr (λ x. f (place x.0) (place_below x.0) (x.1 ∙ ap word_text (sym (has x.0))))

-- ---- numbers

-- a digit that isn't one of the base
abbrev IsBad : List ℕ → ℕ → Type 0
IsBad run k = base_of run ≤ digit (get_or (digits_of run) k 0)

-- the number that the digits of a run spell
abbrev number_of : List ℕ → ℕ
number_of run = value (base_of run) (digits_of run) (length (digits_of run))

below : {a b : ℕ} → (a < b) ⊎ (b ≤ a) → Decided (b ≤ a)
below (inl l) = inr (λ h. omega arith)
below (inr h) = inl h

above : (a b : ℕ) → (b ≤ a → ⊥) → a < b
above a b f = elim (cases_lt a b) [ inl l ↦ l | inr h ↦ absurd (f h) ]

pub number_at : (run : List ℕ) → SomeOrNone (IsNumber run)
number_at run = by (cases_lt 0 (length (digits_of run))) bad (cases_lt (number_of run) 9223372036854775808) where
  bad : First (IsBad run) (length (digits_of run))
  bad = first (IsBad run) (λ k. below (cases_lt (digit (get_or (digits_of run) k 0)) (base_of run))) (length (digits_of run))

  by : (0 < length (digits_of run)) ⊎ (length (digits_of run) ≤ 0) → First (IsBad run) (length (digits_of run)) → (number_of run < 9223372036854775808) ⊎ (9223372036854775808 ≤ number_of run)
      → SomeOrNone (IsNumber run)
  by (inr e) d v = inr (λ x. let s = x.1.some in omega arith)
  by (inl s) (found k h b f) v = inr (λ x. let e = x.1.value.each k h in omega arith)
  by (inl s) (nowhere f) (inl v) = inl (
    number_of run,
    record {
      some = s;
      value = record { each = λ k h. above (digit (get_or (digits_of run) k 0)) (base_of run) (f k h); is = refl; fits = v };
    },
  )
  by (inl s) (nowhere f) (inr v) = inr (λ x. let e = x.1.value.is in let g = x.1.value.fits in omega arith)

-- ---- marks

abbrev StandsAt : List ℕ → ℕ → Type 0
StandsAt text k = BeginsWith text (mark_text (get_or table k m.Plus))

marks_at : (text : List ℕ) → First (StandsAt text) 43
marks_at text = first (StandsAt text) (λ k. same_bytes (take (length (mark_text (get_or table k m.Plus))) text) (mark_text (get_or table k m.Plus))) 43

-- ---- texts

text_at : (text : List ℕ) → get_or text 0 0 ≡ 34 → TokenFound text
text_at text q =
    by (first_place (λ k. is_end (get_or (drop 1 text) k 0) (escaped (drop 1 text) k) ≡ true) (λ k. is_true (is_end (get_or (drop 1 text) k 0) (escaped (drop 1 text) k)))
    (drop 1 text)) where
      no_value : (k : ℕ) (b : Bool) → escaped (drop 1 text) k ≡ b → (v : Option ℕ) → escape_value (get_or (drop 1 text) k 0) ≡ v
          → Decided (IsBadEscape (drop 1 text) k)
      no_value k true e None f = inl (e, f)
      no_value k true e (Some x) f = inr (λ h. let z = sym f ∙ h.1 in cc)
      no_value k false e v f = inr (λ h. let z = sym e ∙ h.0 in cc)

      bad_at : (k : ℕ) → Decided (IsBadEscape (drop 1 text) k)
      bad_at k = no_value k (escaped (drop 1 text) k) refl (escape_value (get_or (drop 1 text) k 0)) refl

      closed : (n : ℕ) → IsTextEnd (drop 1 text) n → get_or (drop 1 text) n 0 ≡ 34 → First (IsBadEscape (drop 1 text)) n → TokenFound text
      closed n e c (found k h b f) = malformed 1 k (unknown_escape n k q e c h b f)
      closed n e c (nowhere f) = spelled (n + 2) (t.Text (content (drop 1 text) n)) (quoted n (n + 2) q e c f refl) (omega arith)

      ends : (n : ℕ) → IsTextEnd (drop 1 text) n → Decided (get_or (drop 1 text) n 0 ≡ 34) → TokenFound text
      ends n e (inl c) = closed n e c (first (IsBadEscape (drop 1 text)) bad_at n)
      ends n e (inr c) = malformed 3 0 (p.unclosed n q e c)

      by : (n : ℕ) × IsTextEnd (drop 1 text) n → TokenFound text
      by x = ends x.0 x.1 (cases_eq (get_or (drop 1 text) x.0 0) 34)

-- ---- all

not_word : (b : ℕ) → is_letter b ≡ false → is_digit b ≡ false → is_word b ≡ false
not_word b l d = or_false (is_letter b) (is_digit b) l d where
  or_false : (x y : Bool) → x ≡ false → y ≡ false → (x || y) ≡ false
  or_false true y e f = cc
  or_false false y e f = f

pub token_at : (text : List ℕ) → 0 < length text → is_white (get_or text 0 0) ≡ false → (IsBlockStart text → ⊥) → (IsLineStart text → ⊥)
    → TokenFound text
token_at text some v k l = by (is_letter (get_or text 0 0)) refl (is_digit (get_or text 0 0)) refl (cases_eq (get_or text 0 0) 34) where
  named : is_letter (get_or text 0 0) ≡ true → (n : ℕ) → IsRun text n → Decided ((x : Reserved) × (take n text ≡ word_text x)) → TokenFound text
  named e n r (inl x) = let z = word_found text n x.0 e r x.1 in spelled n (t.Word x.0) z.0 z.2
  named e n r (inr f) = let z = name_found text n (take n text) (take n text) e r refl (λ x h. f (x, h)) refl in spelled n (t.Name (take n text)) z.0 z.2

  numbered : is_digit (get_or text 0 0) ≡ true → (n : ℕ) → IsRun text n → SomeOrNone (IsNumber (take n text)) → TokenFound text
  numbered d n r (inl x) =
      let z = number_found text n (take n text) x.0 (has_suffix (take n text)) (type_of (has_suffix (take n text) || nat_le 2147483648 x.0)) d r refl x.1 refl refl in
      spelled n _ z.0 z.2
  numbered d n r (inr f) = malformed 4 0 (no_number n d r (λ x h. f (x, h)))

  marked : is_letter (get_or text 0 0) ≡ false → is_digit (get_or text 0 0) ≡ false → get_or text 0 0 ≢ 34 → First (StandsAt text) 43
      → TokenFound text
  marked e d q (found i h b f) =
      let x = get_or table i m.Plus in
      let z = mark_found text x (length (mark_text x)) k l (is_mark text x (record { at = i; within = h; is = refl; here = b; before = f })) refl in
      spelled (length (mark_text x)) (t.Mark x) z.0 z.2
  marked e d q (nowhere f) = malformed 1 0 (stray some v (not_word (get_or text 0 0) e d) q (no_mark text f))

  by : (b : Bool) → is_letter (get_or text 0 0) ≡ b → (c : Bool) → is_digit (get_or text 0 0) ≡ c → Decided (get_or text 0 0 ≡ 34) → TokenFound text
  by true e c d q = let r = run_at text in named e r.0 r.1 (word_at (take r.0 text))
  by false e true d q = let r = run_at text in numbered d r.0 r.1 (number_at (take r.0 text))
  by false e false d (inl q) = text_at text q
  by false e false d (inr q) = marked e d q (marks_at text)
