-- The longest run of bytes that pass a test, and the sign, at the front of a text.
use Rattle.std.proofs.Common.{◌≡◌, ℕ, zero, suc, ◌<◌, ◌≤◌, List, [], ◌∷◌, ◌++◌, length, take, drop, get_or, refl, ap, ◌∙◌, arith, Bool, true, false}
use Rattle.std.specs.List.{prefix_len, AllPass}
use Rattle.std.proofs.lemmas.List.{get_or-take, length-drop, length-take-le}
use Rattle.std.proofs.lemmas.List.Sums.{prefix_len-le-length, prefix_len_passes, prefix_len_stops}
use Rattle.std.proofs.lemmas.Bool.{cond_both}
use Rattle.xmp_num.specs.Decimal.{BeginsWithout, is_sign, sign_of}

-- A text whose first byte, where there is one, fails.
begins_without : (test : ℕ → Bool) (xs : List ℕ) → ((d : ℕ) → 0 < length xs → test (get_or xs 0 d) ≡ false) → BeginsWithout test xs
begins_without test [] fails = tt
begins_without test (b ∷ bs) fails = fails b (omega arith)

get_or-drop_front : (i : ℕ) (xs : List ℕ) (d : ℕ) → get_or (drop i xs) 0 d ≡ get_or xs i d
get_or-drop_front zero xs d = refl
get_or-drop_front (suc i) [] d = refl
get_or-drop_front (suc i) (x ∷ xs) d = get_or-drop_front i xs d

-- The run passes, and what follows it doesn't begin with a byte that passes.
pub run_passes : (test : ℕ → Bool) (xs : List ℕ) → AllPass test (take (prefix_len test xs) xs)
run_passes test xs k d inside =
    let within : prefix_len test xs ≤ length xs = prefix_len-le-length test xs in
    let below : k < prefix_len test xs = omega (arith, length-take-le (prefix_len test xs) xs within) in
    ap test (get_or-take (prefix_len test xs) xs k d below) ∙ prefix_len_passes test xs k d below

pub run_stops : (test : ℕ → Bool) (xs : List ℕ) → BeginsWithout test (drop (prefix_len test xs) xs)
run_stops test xs = begins_without test (drop (prefix_len test xs) xs) (λ d some.
    ap test (get_or-drop_front (prefix_len test xs) xs d) ∙ prefix_len_stops test xs d (omega (arith, length-drop (prefix_len test xs) xs)))

-- Bytes that pass, and a rest that begins with none: they are the run.
none_passes : (test : ℕ → Bool) (ys : List ℕ) → BeginsWithout test ys → prefix_len test ys ≡ 0
none_passes test [] stops = refl
none_passes test (y ∷ ys) stops = rw stops refl

pub run_is : (test : ℕ → Bool) (xs ys : List ℕ) → AllPass test xs → BeginsWithout test ys → prefix_len test (xs ++ ys) ≡ length xs
run_is test [] ys passes stops = none_passes test ys stops
run_is test (x ∷ xs) ys passes stops =
    let first : test x ≡ true = passes 0 x (omega arith) in
    let more : prefix_len test (xs ++ ys) ≡ length xs = run_is test xs ys (λ k d inside. passes (suc k) d (omega arith)) stops in
    rw first (rw more (omega arith))

-- What holds of the sign at the front, whether there is one or not.
with_sign_of : (x : ℕ) (xs : List ℕ) (P : List ℕ → Type 0) → (is_sign x ≡ true → P (x ∷ [])) → (is_sign x ≡ false → P []) → P (sign_of (x ∷ xs))
with_sign_of x xs P some none = cond_both (is_sign x) (x ∷ []) [] P some none

pub sign_len-le : (xs : List ℕ) → length (sign_of xs) ≤ length xs
sign_len-le [] = omega arith
sign_len-le (x ∷ xs) = with_sign_of x xs (λ s. length s ≤ length (x ∷ xs)) (λ e. omega arith) (λ e. omega arith)

pub sign_front : (xs : List ℕ) → take (length (sign_of xs)) xs ≡ sign_of xs
sign_front [] = refl
sign_front (x ∷ xs) = with_sign_of x xs (λ s. take (length s) (x ∷ xs) ≡ s) (λ e. refl) (λ e. refl)

no_bytes : AllPass is_sign []
no_bytes k d inside = absurd (omega arith)

one_byte : (x : ℕ) → is_sign x ≡ true → AllPass is_sign (x ∷ [])
one_byte x e zero d inside = e
one_byte x e (suc k) d inside = absurd (omega arith)

pub sign_passes : (xs : List ℕ) → AllPass is_sign (sign_of xs)
sign_passes [] = no_bytes
sign_passes (x ∷ xs) = with_sign_of x xs (AllPass is_sign) (one_byte x) (λ e. no_bytes)

pub one_sign : (xs : List ℕ) → length (sign_of xs) ≤ 1
one_sign [] = omega arith
one_sign (x ∷ xs) = with_sign_of x xs (λ s. length s ≤ 1) (λ e. omega arith) (λ e. omega arith)

pub no_sign : (xs : List ℕ) → sign_of xs ≡ [] → BeginsWithout is_sign (drop (length (sign_of xs)) xs)
no_sign [] = λ none. tt
no_sign (x ∷ xs) = with_sign_of x xs (λ s. s ≡ [] → BeginsWithout is_sign (drop (length s) (x ∷ xs))) (λ e none. absurd (cc)) (λ e none. e)

pub sign_is : (sign ys : List ℕ) → AllPass is_sign sign → length sign ≤ 1 → (sign ≡ [] → BeginsWithout is_sign ys) → sign_of (sign ++ ys) ≡ sign
sign_is [] [] passes one stops = refl
sign_is [] (y ∷ ys) passes one stops = rw (stops refl) refl
sign_is (x ∷ []) ys passes one stops = let first : is_sign x ≡ true = passes 0 x (omega arith) in rw first refl
sign_is (x ∷ z ∷ zs) ys passes one stops = absurd (omega arith)
