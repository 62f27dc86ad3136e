-- The words of a trap can be read back.
use Rattle.std.proofs.Common.{◌≡◌, ◌+◌, ◌-◌, ◌*◌, ◌/◌, ◌%◌, ◌<◌, ◌≤◌, ℕ, zero, suc, ℤ, pos, negsuc, Bool, true, false, List, [], ◌∷◌, refl, sym, ap, ◌∙◌, arith, subst}
use Rattle.std.specs.Prelude.{◌++◌, ◌+ℤ◌, ◌*ℤ◌, Option, Some, None, if◌then◌else◌, nat_lt}
use Rattle.std.specs.List.{AllByRecursion}
use Rattle.std.specs.Int.{int_wrap, int_rem_euclid, int_div_euclid, cast_signed, w32, w64}
use Rattle.std.specs.Int.RustNames.{FitsSigned, unsigned_abs}
use Rattle.std.specs.Ordering.{int_eq}
use Rattle.std.proofs.lemmas.Bool.{ltb-true, ltb-false}
use Rattle.std.proofs.lemmas.Bool.Decides.{Decides-int_eq}
use Rattle.std.proofs.lemmas.Int.{ints, int_wrap_fits}
use Rattle.xmp_base.specs.declared.place.Place.{Place}
use Rattle.xmp_num.specs.declared.types.Ty.TheVariants.{Int, Long}
use Rattle.xmp_num.specs.declared.types.TrapKind.{TrapKind}
use Rattle.xmp_num.specs.declared.types.TrapKind.TheVariants.{Zero, Subscript, Shift, Section}
use Rattle.xmp_num.specs.Arithmetic.{wrap, FitsType}
use Rattle.xmp_meaning.specs.declared.ends.End.{End}
use Rattle.xmp_meaning.specs.declared.ends.End.TheVariants.{Trapped, OutOfSteps, PhaseEnd}
use Rattle.xmp_meaning.specs.Expressions.{natural}
use Rattle.xmp_meaning.specs.Exchanges.{PartEnd}
use Rattle.xmp_meaning.specs.TrapWords.{two_to_32, low_half, high_half, both_halves, kind_number, kind_of_number, trap_words, index_at, trap_of_words, trap_said}
use Rattle.xmp_meaning.specs.TrafficLaws.{IsPlace, EndsAreRead}

-- ---- two halves

-- a number with c below 2^32 in its low half
with_low : ℤ → ℕ → ℤ
with_low h c = (h *ℤ two_to_32) +ℤ pos c

negative_is : (a c : ℕ) → c < 4294967296 → with_low (negsuc a) c ≡ negsuc (a * 4294967296 + (4294967295 - c))
unfolding with_low
negative_is a c lt = grind (arith, ints)

high_is : (h : ℤ) (c : ℕ) → c < 4294967296 → high_half (with_low h c) ≡ h
unfolding with_low
high_is (pos a) c lt = ap pos (let e : (a * 4294967296 + c) / 4294967296 ≡ a = omega (arith, lt) in e)
high_is (negsuc a) c lt = ap high_half (negative_is a c lt) ∙ ap negsuc (let e : (a * 4294967296 + (4294967295 - c)) / 4294967296 ≡ a = omega (arith, lt) in e)

low_is : (h : ℤ) (c : ℕ) → c < 4294967296 → low_half (with_low h c) ≡ pos c
unfolding with_low
low_is (pos a) c lt = ap pos (let e : (a * 4294967296 + c) % 4294967296 ≡ c = omega (arith, lt) in e)
low_is (negsuc a) c lt = ap low_half (negative_is a c lt)
    ∙ ap pos (let e : 4294967296 - 1 - (a * 4294967296 + (4294967295 - c)) % 4294967296 ≡ c = omega (arith, lt) in e)

-- the low half of a number is below 2^32
low_below : (z : ℤ) → (c : ℕ) × (low_half z ≡ pos c) × (c < 4294967296)
low_below (pos a) = (a % 4294967296, refl, omega arith)
low_below (negsuc a) = (4294967296 - 1 - a % 4294967296, refl, omega arith)

low_twice : (z : ℤ) → low_half (low_half z) ≡ low_half z
low_twice (pos a) = ap pos (let e : a % 4294967296 % 4294967296 ≡ a % 4294967296 = omega arith in e)
low_twice (negsuc a) = ap pos (let e : (4294967296 - 1 - a % 4294967296) % 4294967296 ≡ 4294967296 - 1 - a % 4294967296 = omega arith in e)

-- as a number of 32 bits it is the number
low_read : (z : ℤ) → FitsType Int z → wrap Int (low_half z) ≡ z
unfolding int_wrap
low_read z f = ap (λ m. cast_signed w32 (unsigned_abs m)) (low_twice z) ∙ int_wrap_fits w32 z f

-- ---- two indices

with_low_fits : (h : ℤ) (c : ℕ) → FitsType Int h → c < 4294967296 → FitsSigned w64 (with_low h c)
unfolding with_low
with_low_fits (pos a) c f lt = record { sfits = omega (arith, f.sfits, lt) }
with_low_fits (negsuc a) c f lt = subst (FitsSigned w64) (sym (negative_is a c lt)) (record { sfits = omega (arith, f.sfits, lt) })

both_are : (h l : ℤ) → FitsType Int h → both_halves h l ≡ with_low h (low_below l).0
unfolding with_low
both_are h l f = ap (λ w. wrap Long ((h *ℤ two_to_32) +ℤ w)) (low_below l).1 ∙ int_wrap_fits w64 _ (with_low_fits h (low_below l).0 f (low_below l).2)

high_read : (h l : ℤ) → FitsType Int h → high_half (both_halves h l) ≡ h
high_read h l f = ap high_half (both_are h l f) ∙ high_is h (low_below l).0 (low_below l).2

second_read : (h l : ℤ) → FitsType Int h → FitsType Int l → wrap Int (low_half (both_halves h l)) ≡ l
second_read h l f g = ap (λ w. wrap Int (low_half w)) (both_are h l f) ∙ ap (wrap Int) (low_is h (low_below l).0 (low_below l).2 ∙ sym (low_below l).1) ∙ low_read l g

-- ---- line and column

wrapped_up : (n : ℕ) → 9223372036854775808 ≤ n → n < 18446744073709551616 → wrap Long (pos n) ≡ negsuc (18446744073709551615 - n)
unfolding int_wrap
wrapped_up n low high =
    ap (λ r. cast_signed w64 (unsigned_abs (pos r)))
    (let e : n % 18446744073709551616 ≡ 18446744073709551616 - 1 - (18446744073709551615 - n) % 18446744073709551616 = omega (arith, high) in e)
    ∙ int_wrap_fits w64 (negsuc (18446744073709551615 - n)) (record { sfits = omega (arith, low, high) })

place_word : (line column : ℕ) → column < 4294967296 → both_halves (pos line) (pos column) ≡ wrap Long (pos (line * 4294967296 + column))
place_word line column b = ap (λ c. wrap Long (pos (line * 4294967296 + c))) (let e : column % 4294967296 ≡ column = omega (arith, b) in e)

-- the word of a place as it is
abbrev Reads : ℤ → ℕ → ℕ → Type 0
Reads w line column = (natural (low_half (high_half w)) ≡ line) × (natural (low_half w) ≡ column)

word_read : (line column : ℕ) → line < 4294967296 → column < 4294967296 → (big : Bool) → nat_lt line 2147483648 ≡ big
    → Reads (wrap Long (pos (line * 4294967296 + column))) line column
word_read line column a b true small =
    let lt : line < 2147483648 = ltb-true line 2147483648 small in
    let is : wrap Long (pos (line * 4294967296 + column)) ≡ pos (line * 4294967296 + column) =
    int_wrap_fits w64 (pos (line * 4294967296 + column)) (record { sfits = omega (arith, lt, b) }) in
    subst (λ w. Reads w line column) (sym is) (
      (let e : (line * 4294967296 + column) / 4294967296 % 4294967296 ≡ line = omega (arith, a, b) in e),
      (let e : (line * 4294967296 + column) % 4294967296 ≡ column = omega (arith, a, b) in e),
    )
word_read line column a b false big =
    let le : 2147483648 ≤ line = ltb-false line 2147483648 big in
    let is : _ = wrapped_up (line * 4294967296 + column) (omega (arith, le)) (omega (arith, a, b)) in
    subst (λ w. Reads w line column) (sym is) (
      (let e : 4294967296 - 1 - ((18446744073709551615 - (line * 4294967296 + column)) / 4294967296) % 4294967296 ≡ line = omega (arith, a, b) in e),
      (let e : 4294967296 - 1 - (18446744073709551615 - (line * 4294967296 + column)) % 4294967296 ≡ column = omega (arith, a, b) in e),
    )

place_read : (line column : ℕ) → line < 4294967296 → column < 4294967296 → Reads (both_halves (pos line) (pos column)) line column
place_read line column a b = subst (λ w. Reads w line column) (sym (place_word line column b)) (word_read line column a b (nat_lt line 2147483648) refl)

-- ---- the kind and the third index

first_word : TrapKind → ℤ → ℤ
first_word kind third = pos (1 + kind_number kind) +ℤ (pos 8 *ℤ low_half third)

kind_below : (kind : TrapKind) → kind_number kind < 4
kind_below Zero = omega arith
kind_below Subscript = omega arith
kind_below Shift = omega arith
kind_below Section = omega arith

kind_back : (kind : TrapKind) → kind_of_number (kind_number kind) ≡ kind
kind_back Zero = refl
kind_back Subscript = refl
kind_back Shift = refl
kind_back Section = refl

first_is : (kind : TrapKind) (third : ℤ) → first_word kind third ≡ pos (1 + kind_number kind + 8 * (low_below third).0)
unfolding first_word
first_is kind third = ap (λ w. pos (1 + kind_number kind) +ℤ (pos 8 *ℤ w)) (low_below third).1

kind_read : (kind : TrapKind) (third : ℤ) → kind_of_number (natural (int_rem_euclid (first_word kind third) (pos 8)) - 1) ≡ kind
kind_read kind third = ap (λ w. kind_of_number (natural (int_rem_euclid w (pos 8)) - 1)) (first_is kind third)
    ∙ ap kind_of_number (let e : (1 + kind_number kind + 8 * (low_below third).0) % 8 - 1 ≡ kind_number kind = omega (arith, kind_below kind) in e) ∙ kind_back kind

third_read : (kind : TrapKind) (third : ℤ) → FitsType Int third → wrap Int (int_div_euclid (first_word kind third) (pos 8)) ≡ third
third_read kind third f = ap (λ w. wrap Int (int_div_euclid w (pos 8))) (first_is kind third)
    ∙ ap (λ n. wrap Int (pos n)) (let e : (1 + kind_number kind + 8 * (low_below third).0) / 8 ≡ (low_below third).0 = omega (arith, kind_below kind) in e)
    ∙ ap (wrap Int) (sym (low_below third).1) ∙ low_read third f

-- ---- the whole

trap_back : (kind : TrapKind) (at : Place) (i j k : ℤ) → FitsType Int i → FitsType Int j → FitsType Int k → IsPlace at
    → trap_of_words (first_word kind k) (both_halves i j) (both_halves (pos at.line) (pos at.column))
    ≡ record { kind = kind; at = at; first = i; second = j; third = k }
trap_back kind at i j k fi fj fk place =
    let read : _ = place_read at.line at.column place.line place.column in
    rw (kind_read kind k, third_read kind k fk, high_read i j fi, second_read i j fi fj, read.0, read.1) refl

not_zero : (kind : TrapKind) (k : ℤ) → int_eq (first_word kind k) (pos 0) ≡ false
not_zero kind k = by_test (int_eq (first_word kind k) (pos 0)) refl
  where
    absurd_word : (n : ℕ) → pos (1 + n) ≡ pos 0 → ⊥
    absurd_word n e = let z : 1 + n ≡ 0 = ap natural e in absurd (omega (arith, z))

    by_test : (b : Bool) → int_eq (first_word kind k) (pos 0) ≡ b → int_eq (first_word kind k) (pos 0) ≡ false
    by_test false e = e
    by_test true e = absurd (absurd_word (kind_number kind + 8 * (low_below k).0)
        (ap pos (let s : 1 + (kind_number kind + 8 * (low_below k).0) ≡ 1 + kind_number kind + 8 * (low_below k).0 = omega arith in s)
        ∙ sym (first_is kind k) ∙ (Decides-int_eq (first_word kind k) (pos 0)).0 e))

index_fits : (indices : List ℤ) (d : ℕ) → AllByRecursion (FitsType Int) indices → FitsType Int (index_at indices d)
index_fits [] zero all = record { sfits = omega arith }
index_fits [] (suc d) all = record { sfits = omega arith }
index_fits (i ∷ is) zero all = all.0
index_fits (i ∷ is) (suc d) all = index_fits is d all.1

trap_read : (kind : TrapKind) (at : Place) (indices values : List ℤ) → AllByRecursion (FitsType Int) indices → IsPlace at
    → trap_said (trap_words kind at (index_at indices 0) (index_at indices 1) (index_at indices 2) ++ values)
    ≡ Some (record { kind = kind; at = at; first = index_at indices 0; second = index_at indices 1; third = index_at indices 2 })
unfolding first_word
trap_read kind at indices values all place =
    ap (λ b. if b then None else Some (trap_of_words (first_word kind (index_at indices 2)) (both_halves (index_at indices 0) (index_at indices 1))
    (both_halves (pos at.line) (pos at.column)))) (not_zero kind (index_at indices 2))
    ∙ ap Some (trap_back kind at (index_at indices 0) (index_at indices 1) (index_at indices 2) (index_fits indices 0 all) (index_fits indices 1 all) (index_fits indices 2 all) place)

pub ends_are_read : (e : PartEnd) → EndsAreRead e
ends_are_read e = at_end e.ended e.indices e.values
  where
    at_end : (o : Option End) (indices values : List ℤ) → EndsAreRead (record { ended = o; indices = indices; values = values })
    at_end (Some (Trapped kind at)) indices values = record { trap = λ all place. trap_read kind at indices values all place; values = refl }
    at_end (Some OutOfSteps) indices values = record { trap = λ all place. refl; values = refl }
    at_end (Some PhaseEnd) indices values = record { trap = λ all place. refl; values = refl }
    at_end None indices values = record { trap = λ all place. refl; values = refl }
