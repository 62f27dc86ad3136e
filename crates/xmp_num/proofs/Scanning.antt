-- Reading a number: the function gives the pieces of the text, and no other pieces can be read there.
use Rattle.std.proofs.Common.{◌≡◌, ℕ, ◌+◌, ◌*◌, ◌<◌, List, [], ◌∷◌, ◌++◌, length, take, drop, get_or, refl, sym, ap, subst, ◌∙◌, arith, ℤ, pos, neg_ℤ, ◌+ℤ◌, ◌-ℤ◌, ◌*ℤ◌, Option, Some, ◌-◌, Bool, true, false}
use Rattle.std.specs.Prelude.{◌==◌, if◌then◌else◌}
use Rattle.std.proofs.lemmas.Bool.Decides.{nat_tests}
use Rattle.std.specs.Int.{int_wrap, w64}
use Rattle.std.specs.Char.{is_ascii_digit, digit_value}
use Rattle.std.specs.Str.Parse.{digits_value, starts_with_minus}
use Rattle.std.specs.List.{prefix_len}
use Rattle.std.proofs.lemmas.Int.{ints, int_wrap_fits, SFits-int_wrap, int_wrap-mul_left, int_wrap-add_same, int_wrap-sub_right}
use Rattle.std.proofs.lemmas.Int.Digits.{digits_value_more}
use Rattle.std.proofs.lemmas.List.{take-append-drop}
use Rattle.std.proofs.lemmas.List.Folds.{length-prefix_len}
use Rattle.std.proofs.Math.Seq.{take-append_seam, drop-append_seam}
use Rattle.xmp_num.specs.Decimal.{is_white, is_sign, sign_of, with_sign, number_of, scan_of, Scans, BeginsWithout}
use Rattle.xmp_num.specs.declared.types.Ty.{Ty}
use Rattle.xmp_num.specs.Arithmetic.{wrap}
use Rattle.xmp_num.proofs.Wraps.{wrap_twice}
use Rattle.xmp_num.proofs.Runs.{run_passes, run_stops, run_is, sign_front, sign_passes, one_sign, no_sign, sign_is}

-- What pieces of these bytes give.
abbrev given : Ty → ℕ → List ℕ → List ℕ → List ℕ → Option ℤ × ℕ
given ty at white sign digits = (number_of ty sign digits, at + (length white + (length sign + length digits)))

-- What the code computes, step by step.
pub scan_is : (ty : Ty) (input : List ℕ) (at : ℕ) (text signed numeral front_sign front_digits : List ℕ) (white sign digits : ℕ) (value : Option ℤ)
    → text ≡ drop at input → white ≡ prefix_len is_white text
    → signed ≡ drop white text → sign ≡ length (sign_of signed)
    → numeral ≡ drop sign signed → digits ≡ prefix_len is_ascii_digit numeral
    → front_sign ≡ take sign signed → front_digits ≡ take digits numeral
    → value ≡ number_of ty front_sign front_digits
    → ◌≡◌ {A = Option ℤ × ℕ} (value, at + (white + (sign + digits))) (scan_of ty input at)
unfolding scan_of
scan_is ty input at text signed numeral front_sign front_digits white sign digits value e1 e2 e3 e4 e5 e6 e7 e8 e9 =
    let text_is = drop at input in
    let white_is = take (prefix_len is_white text_is) text_is in
    let white_same : white ≡ length white_is = e2 ∙ ap (prefix_len is_white) e1 ∙ sym (length-prefix_len is_white text_is) in
    let signed_is = drop (length white_is) text_is in
    let signed_same : signed ≡ signed_is = e3 ∙ ap (drop white) e1 ∙ ap (λ n. drop n text_is) white_same in
    let sign_same : sign ≡ length (sign_of signed_is) = e4 ∙ ap (λ xs. length (sign_of xs)) signed_same in
    let numeral_is = drop (length (sign_of signed_is)) signed_is in
    let numeral_same : numeral ≡ numeral_is = e5 ∙ ap (drop sign) signed_same ∙ ap (λ n. drop n signed_is) sign_same in
    let digits_is = take (prefix_len is_ascii_digit numeral_is) numeral_is in
    let run_same : digits ≡ prefix_len is_ascii_digit numeral_is = e6 ∙ ap (prefix_len is_ascii_digit) numeral_same in
    let digits_same : digits ≡ length digits_is = run_same ∙ sym (length-prefix_len is_ascii_digit numeral_is) in
    let front_same : front_sign ≡ sign_of signed_is = e7 ∙ ap (take sign) signed_same ∙ ap (λ n. take n signed_is) sign_same ∙ sign_front signed_is in
    let last_same : front_digits ≡ digits_is = e8 ∙ ap (take digits) numeral_same ∙ ap (λ n. take n numeral_is) run_same in
    let value_same : value ≡ number_of ty (sign_of signed_is) digits_is = e9 ∙ ap (λ s. number_of ty s front_digits) front_same ∙ ap (number_of ty (sign_of signed_is)) last_same in
    let next_same : at + (white + (sign + digits)) ≡ at + (length white_is + (length (sign_of signed_is) + length digits_is)) = omega arith in
    λ i. (value_same i, next_same i)

pub scan_reads : (ty : Ty) (input : List ℕ) (at : ℕ) → Scans ty input at (scan_of ty input at).0 (scan_of ty input at).1
unfolding scan_of
scan_reads ty input at =
    let text = drop at input in
    let n = prefix_len is_white text in
    let white = take n text in
    let white_len : length white ≡ n = length-prefix_len is_white text in
    let signed = drop (length white) text in
    let cut_white : white ++ signed ≡ text = ap (λ k. white ++ drop k text) white_len ∙ take-append-drop n text in
    let sign = sign_of signed in
    let numeral = drop (length sign) signed in
    let cut_sign : sign ++ numeral ≡ signed = ap (λ s. s ++ numeral) (sym (sign_front signed)) ∙ take-append-drop (length sign) signed in
    let m = prefix_len is_ascii_digit numeral in
    let digits = take m numeral in
    let rest = drop m numeral in
    let cut_digits : digits ++ rest ≡ numeral = take-append-drop m numeral in
    let behind_white : signed ≡ sign ++ (digits ++ rest) = sym (ap (λ xs. sign ++ xs) cut_digits ∙ cut_sign) in
    record {
      white = white;
      sign = sign;
      digits = digits;
      rest = rest;
      whole = sym cut_white ∙ ap (λ xs. white ++ xs) behind_white;
      all_white = run_passes is_white text;
      no_more_white = subst (BeginsWithout is_white) (ap (λ k. drop k text) (sym white_len) ∙ behind_white) (run_stops is_white text);
      signs = sign_passes signed;
      one_at_most = one_sign signed;
      no_sign_left = λ none. subst (BeginsWithout is_sign) (sym cut_digits) (no_sign signed none);
      all_digits = run_passes is_ascii_digit numeral;
      no_more_digits = run_stops is_ascii_digit numeral;
      value_is = refl;
      next_is = refl;
    }

pub scan_only : (ty : Ty) (input : List ℕ) (at : ℕ) (value : Option ℤ) (next : ℕ) → Scans ty input at value next → ◌≡◌ {A = Option ℤ × ℕ} (value, next) (scan_of ty input at)
unfolding scan_of
scan_only ty input at value next s =
    let text = drop at input in
    let behind_sign = s.digits ++ s.rest in
    let behind_white = s.sign ++ behind_sign in
    let n : prefix_len is_white text ≡ length s.white = ap (prefix_len is_white) s.whole ∙ run_is is_white s.white behind_white s.all_white s.no_more_white in
    let white : take (prefix_len is_white text) text ≡ s.white = ap (λ k. take k text) n ∙ ap (take (length s.white)) s.whole ∙ take-append_seam s.white behind_white in
    let signed : drop (length s.white) text ≡ behind_white = ap (drop (length s.white)) s.whole ∙ drop-append_seam s.white behind_white in
    let sign : sign_of behind_white ≡ s.sign = sign_is s.sign behind_sign s.signs s.one_at_most s.no_sign_left in
    let numeral : drop (length s.sign) behind_white ≡ behind_sign = drop-append_seam s.sign behind_sign in
    let m : prefix_len is_ascii_digit behind_sign ≡ length s.digits = run_is is_ascii_digit s.digits s.rest s.all_digits s.no_more_digits in
    let digits : take (prefix_len is_ascii_digit behind_sign) behind_sign ≡ s.digits = ap (λ k. take k behind_sign) m ∙ take-append_seam s.digits s.rest in
    let from_signed = λ (w xs : List ℕ). given ty at w (sign_of xs) (take (prefix_len is_ascii_digit (drop (length (sign_of xs)) xs)) (drop (length (sign_of xs)) xs)) in
    let from_sign = λ (g : List ℕ). given ty at s.white g (take (prefix_len is_ascii_digit (drop (length g) behind_white)) (drop (length g) behind_white)) in
    let from_numeral = λ (xs : List ℕ). given ty at s.white s.sign (take (prefix_len is_ascii_digit xs) xs) in
    (λ i. (s.value_is i, s.next_is i))
    ∙ sym (ap (λ w. from_signed w (drop (length w) text)) white
    ∙ ap (from_signed s.white) signed
    ∙ ap from_sign sign
    ∙ ap from_numeral numeral
    ∙ ap (given ty at s.white s.sign) digits)

-- One more digit behind the digits of n, after a value that wrapped.
pub wrap-digit : (n d : ℕ) → int_wrap w64 (int_wrap w64 (pos n) *ℤ pos 10 +ℤ pos d) ≡ int_wrap w64 (pos (n * 10 + d))
wrap-digit n d = int_wrap-add_same w64 (int_wrap w64 (pos n) *ℤ pos 10) (pos n *ℤ pos 10) (pos d) (int_wrap-mul_left w64 (pos n) (pos 10))

pub more_digits : (ds : List ℕ) (i : ℕ) (value next : ℤ) → i < length ds → value ≡ int_wrap w64 (pos (digits_value 10 (take i ds)))
    → next ≡ int_wrap w64 (value *ℤ pos 10 +ℤ pos (digit_value (get_or ds i 0)))
    → next ≡ int_wrap w64 (pos (digits_value 10 (take (i + 1) ds)))
more_digits ds i value next inside sofar step =
    step ∙ ap (λ v. int_wrap w64 (v *ℤ pos 10 +ℤ pos (digit_value (get_or ds i 0)))) sofar
    ∙ wrap-digit (digits_value 10 (take i ds)) (digit_value (get_or ds i 0))
    ∙ ap (λ n. int_wrap w64 (pos n)) (sym (digits_value_more 10 ds i inside))

pub digit_is : (c : ℕ) → is_ascii_digit c ≡ true → digit_value c ≡ c - 48
digit_is c is_digit = grind (arith, nat_tests)

-- To wrap before the sign is set changes nothing.
sign_wraps : (minus : Bool) (n : ℕ) → int_wrap w64 (if minus then neg_ℤ (int_wrap w64 (pos n)) else int_wrap w64 (pos n)) ≡ int_wrap w64 (if minus then neg_ℤ (pos n) else pos n)
sign_wraps false n = int_wrap_fits w64 (int_wrap w64 (pos n)) (SFits-int_wrap w64 (pos n))
sign_wraps true n =
    let outer : neg_ℤ (int_wrap w64 (pos n)) ≡ pos 0 -ℤ int_wrap w64 (pos n) = omega (arith, ints) in
    let inner : pos 0 -ℤ pos n ≡ neg_ℤ (pos n) = omega (arith, ints) in
    ap (int_wrap w64) outer ∙ int_wrap-sub_right w64 (pos 0) (pos n) ∙ ap (int_wrap w64) inner

some_digit : (ty : Ty) (sign digits : List ℕ) → false ≡ (length digits == 0) → Some (wrap ty (with_sign sign (digits_value 10 digits))) ≡ number_of ty sign digits
some_digit ty sign [] some = absurd (cc)
some_digit ty sign (d ∷ ds) some = refl

pub value_is : (ty : Ty) (sign digits : List ℕ) (minus : Bool) (magnitude signed value : ℤ) → false ≡ (length digits == 0)
    → minus ≡ starts_with_minus sign → magnitude ≡ int_wrap w64 (pos (digits_value 10 digits))
    → signed ≡ int_wrap w64 (if minus then neg_ℤ magnitude else magnitude) → value ≡ wrap ty signed
    → Some value ≡ number_of ty sign digits
value_is ty sign digits minus magnitude signed value some e1 e2 e3 e4 =
    let n = digits_value 10 digits in
    ap Some
    (e4 ∙ ap (wrap ty) (e3
    ∙ ap (λ m. int_wrap w64 (if minus then neg_ℤ m else m)) e2
    ∙ sign_wraps minus n
    ∙ ap (λ b. int_wrap w64 (if b then neg_ℤ (pos n) else pos n)) e1)
    ∙ wrap_twice ty (with_sign sign n))
    ∙ some_digit ty sign digits some
