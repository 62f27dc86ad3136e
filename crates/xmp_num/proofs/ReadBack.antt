-- What is written is read back.
use Rattle.std.proofs.Common.{◌≡◌, ℕ, zero, suc, ◌+◌, ◌-◌, ◌^◌, ◌<◌, ◌≤◌, List, [], ◌∷◌, ◌++◌, length, drop, refl, sym, ap, subst, ◌∙◌, arith, ℤ, pos, negsuc, Bool, true, false, Some, append_assoc, length-append, replicate, FitsSigned}
use Rattle.std.specs.Prelude.{Result, Ok, Err, OnOk}
use Rattle.std.specs.Int.{w64}
use Rattle.std.specs.Char.{is_ascii_digit}
use Rattle.std.specs.Fmt.{decimal, signed_decimal}
use Rattle.std.specs.List.{AllPass}
use Rattle.std.specs.Str.Parse.{AllDigits, digits_value}
use Rattle.std.proofs.lemmas.Fmt.{decimal_is_IsNumeral}
use Rattle.std.proofs.lemmas.Str.Parse.{digit_from_value}
use Rattle.std.proofs.lemmas.Bool.Decides.{nat_tests}
use Rattle.std.proofs.Math.Seq.{drop-append_seam}
use Rattle.xmp_num.specs.Arithmetic.{wrap}
use Rattle.xmp_num.specs.Decimal.{BeginsWithout, Scans, is_sign, is_white, number_of, padded, with_sign}
use Rattle.xmp_num.specs.declared.types.Ty.{Ty}

digit_passes : (c : ℕ) → 48 ≤ c → c ≤ 57 → is_ascii_digit c ≡ true
digit_passes c low high = grind (arith, nat_tests)

digits_pass : (ds : List ℕ) → AllDigits 10 ds → AllPass is_ascii_digit ds
digits_pass [] all k d inside = absurd (omega arith)
digits_pass (c ∷ cs) all zero d inside = let range = digit_from_value c all.0 in digit_passes c range.0 range.1
digits_pass (c ∷ cs) all (suc k) d inside = digits_pass cs all.1 k d (omega arith)

spaces_pass : (n : ℕ) → AllPass is_white (replicate n 32)
spaces_pass zero k d inside = absurd (omega arith)
spaces_pass (suc n) zero d inside = refl
spaces_pass (suc n) (suc k) d inside = spaces_pass n k d (omega arith)

no_white_digit : (c : ℕ) → is_ascii_digit c ≡ true → is_white c ≡ false
no_white_digit c digit = grind (arith, nat_tests)

no_sign_digit : (c : ℕ) → is_ascii_digit c ≡ true → is_sign c ≡ false
no_sign_digit c digit = grind (arith, nat_tests)

-- Digits begin with what is neither white space nor a sign.
starts_with_digit : (test : ℕ → Bool) → ((c : ℕ) → is_ascii_digit c ≡ true → test c ≡ false) → (ds rest : List ℕ) → 0 < length ds → AllPass is_ascii_digit ds → BeginsWithout test (ds ++ rest)
starts_with_digit test fails [] rest some all = absurd (omega arith)
starts_with_digit test fails (c ∷ cs) rest some all = fails c (all 0 c (omega arith))

number_is : (ty : Ty) (sign ds : List ℕ) → 0 < length ds → number_of ty sign ds ≡ Some (wrap ty (with_sign sign (digits_value 10 ds)))
number_is ty sign [] some = absurd (omega arith)
number_is ty sign (d ∷ ds) some = refl

-- Spaces, a sign or none, and the digits of n are read as they were written.
pieces_read : (ty : Ty) (n : ℕ) (spaces sign rest : List ℕ) (before : List ℕ) → n < 2 ^ 64 → AllPass is_white spaces → AllPass is_sign sign → length sign ≤ 1
    → BeginsWithout is_white (sign ++ (decimal n ++ rest)) → BeginsWithout is_ascii_digit rest
    → Scans ty ((before ++ (spaces ++ (sign ++ decimal n))) ++ rest) (length before) (Some (wrap ty (with_sign sign n))) (length (before ++ (spaces ++ (sign ++ decimal n))))
pieces_read ty n spaces sign rest before small white signs one stops behind =
    let numeral = decimal_is_IsNumeral n small in
    let passes = digits_pass (decimal n) numeral.0.1 in
    let whole : (before ++ (spaces ++ (sign ++ decimal n))) ++ rest ≡ before ++ (spaces ++ (sign ++ (decimal n ++ rest))) = simp append_assoc in
    record {
      white = spaces;
      sign = sign;
      digits = decimal n;
      rest = rest;
      whole = ap (drop (length before)) whole ∙ drop-append_seam before (spaces ++ (sign ++ (decimal n ++ rest)));
      all_white = white;
      no_more_white = stops;
      signs = signs;
      one_at_most = one;
      no_sign_left = λ none. starts_with_digit is_sign no_sign_digit (decimal n) rest numeral.0.0 passes;
      all_digits = passes;
      no_more_digits = behind;
      value_is = ap (λ m. Some (wrap ty (with_sign sign m))) (sym numeral.1) ∙ sym (number_is ty sign (decimal n) numeral.0.0);
      next_is = length-append before (spaces ++ (sign ++ decimal n))
          ∙ ap (λ k. length before + k) (length-append spaces (sign ++ decimal n) ∙ ap (λ k. length spaces + k) (length-append sign (decimal n)));
    }

no_bytes : AllPass is_sign []
no_bytes k d inside = absurd (omega arith)

minus_passes : AllPass is_sign (45 ∷ [])
minus_passes zero d inside = refl
minus_passes (suc k) d inside = absurd (omega arith)

pub reads_back : (ty : Ty) (v : ℤ) (width : ℕ) (before after rest : List ℕ) → FitsSigned w64 v → BeginsWithout is_ascii_digit rest
    → after ≡ before ++ padded width (signed_decimal v)
    → Scans ty (after ++ rest) (length before) (Some (wrap ty v)) (length after)
reads_back ty (pos n) width before after rest fits behind is =
    let h = fits.sfits in
    let small : n < 2 ^ 64 = omega arith in
    let numeral = decimal_is_IsNumeral n small in
    let passes = digits_pass (decimal n) numeral.0.1 in
    let missing = width - length (decimal n) in
    subst (λ xs. Scans ty (xs ++ rest) (length before) (Some (wrap ty (pos n))) (length xs)) (sym is)
    (pieces_read ty n (replicate missing 32) [] rest before small (spaces_pass missing) no_bytes (omega arith)
    (starts_with_digit is_white no_white_digit (decimal n) rest numeral.0.0 passes) behind)
reads_back ty (negsuc n) width before after rest fits behind is =
    let h = fits.sfits in
    let small : suc n < 2 ^ 64 = omega arith in
    let missing = width - length (45 ∷ decimal (suc n)) in
    subst (λ xs. Scans ty (xs ++ rest) (length before) (Some (wrap ty (negsuc n))) (length xs)) (sym is)
    (pieces_read ty (suc n) (replicate missing 32) (45 ∷ []) rest before small (spaces_pass missing) minus_passes (omega arith) refl behind)

pub reads_back_on_ok : {T E : Type 0} (r : Result T E) (v : ℤ) (width : ℕ) (before after : List ℕ) → FitsSigned w64 v
    → OnOk r (after ≡ before ++ padded width (signed_decimal v))
    → OnOk r ((ty : Ty) (rest : List ℕ) → BeginsWithout is_ascii_digit rest → Scans ty (after ++ rest) (length before) (Some (wrap ty v)) (length after))
reads_back_on_ok (Ok x) v width before after fits is = λ ty rest behind. reads_back ty v width before after rest fits behind is
reads_back_on_ok (Err e) v width before after fits is = tt
