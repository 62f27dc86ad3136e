use Rattle.std.proofs.Common.{◌≡◌, ◌<◌, ◌≤◌, ◌+◌, ◌-◌, ◌&&◌, ℕ, ℤ, zero, suc, pos, negsuc, Bool, true, false, refl, ap, ◌∙◌, sym, subst, arith, nat_lt, nat_le, if◌then◌else◌, inl, inr, ◌⊎◌}
use Rattle.std.proofs.lemmas.Bool.{ltb-true}
use Rattle.std.proofs.lemmas.Bool.Decides.{nat_tests}
use Rattle.xmp_dist.specs.Count.{count_below}
use Rattle.xmp_dist.proofs.Counting.{count_below-le, count_below-lt, count_below-mono, count_below-no, count_below-step, count_below-yes, count_below-zero}
use Rattle.xmp_serial.specs.declared.lines.Reach.TheVariants.{All, Chunk}
use Rattle.xmp_serial.specs.Lines.{Places, position_among, position_of}

upto : (t : ℕ → Bool) (m j : ℕ) → count_below t (m + j) ≤ count_below t m + j
upto t m zero =
    let e : m + 0 ≡ m = omega arith in
    let P : ℕ → Type 0 = λ n. count_below t n ≤ count_below t m + 0 in
    let h : count_below t m ≤ count_below t m + 0 = omega arith in
    subst P (sym e) h
upto t m (suc j) =
    let e : m + suc j ≡ suc (m + j) = omega arith in
    let ih : count_below t (m + j) ≤ count_below t m + j = upto t m j in
    let st : count_below t (suc (m + j)) ≤ count_below t (m + j) + 1 = (count_below-step t (m + j)).1 in
    let P : ℕ → Type 0 = λ n. count_below t n ≤ count_below t m + suc j in
    let h : count_below t (suc (m + j)) ≤ count_below t m + suc j = omega arith in
    subst P (sym e) h

yes_or_no : (b : Bool) → (b ≡ true) ⊎ (b ≡ false)
yes_or_no true = inl refl
yes_or_no false = inr refl

among_no : (t : ℕ → Bool) (x : ℕ) → t x ≡ false → position_among t x ≡ negsuc 0
among_no t x h = rw h refl

among_yes : (t : ℕ → Bool) (x n : ℕ) → t x ≡ true → count_below t x ≡ n → position_among t x ≡ pos n
among_yes t x n h e = rw (h, e) refl

-- where all numbers below an extent pass, each is its own position
pub all_placed : (t : ℕ → Bool) (n : ℕ) → count_below t n ≡ n → Places All t n
all_placed t n e x lt =
    let rest : ℕ = n - suc x in
    let whole : n ≡ suc x + rest = omega arith in
    let most : count_below t (suc x + rest) ≤ count_below t (suc x) + rest = upto t (suc x) rest in
    let here : count_below t n ≡ count_below t (suc x + rest) = ap (count_below t) whole in
    let low : count_below t x ≤ x = count_below-le t x in
    let st : count_below t (suc x) ≤ count_below t x + 1 = (count_below-step t x).1 in
    let count : count_below t x ≡ x = omega arith in
    elim (yes_or_no (t x)) [
      | inl passes ↦ sym (among_yes t x x passes count)
      | inr fails ↦ (let same : count_below t (suc x) ≡ count_below t x = count_below-no t x fails in absurd (omega arith))
    ]

outside_low : (f e x : ℕ) → x < f → position_of (Chunk f e) x ≡ negsuc 0
outside_low f e x h = let b : nat_le f x ≡ false = grind (arith, nat_tests) in rw b refl

outside_high : (f e x : ℕ) → e ≤ x → position_of (Chunk f e) x ≡ negsuc 0
outside_high f e x h = let b : (nat_le f x && nat_lt x e) ≡ false = grind (arith, nat_tests) in rw b refl

inside : (f e x : ℕ) → f ≤ x → x < e → position_of (Chunk f e) x ≡ pos (x - f)
inside f e x h k = let b : (nat_le f x && nat_lt x e) ≡ true = grind (arith, nat_tests) in rw b refl

-- where none passes, none is placed
pub none_placed : (t : ℕ → Bool) (n : ℕ) → count_below t n ≡ 0 → Places (Chunk 0 0) t n
none_placed t n e x lt = elim (yes_or_no (t x)) [
  | inl passes ↦ (let more : count_below t x < count_below t n = count_below-lt t x n passes lt in absurd (omega arith))
  | inr fails ↦ outside_high 0 0 x (omega arith) ∙ sym (among_no t x fails)
]

-- a number of the interval passes: else the last one would have a smaller position
held_within : (t : ℕ → Bool) (n f k x : ℕ) → count_below t n ≡ suc k → t (f + k) ≡ true → count_below t (f + k) ≡ k → x < n → f ≤ x → x ≤ f + k → count_below t x ≡ x - f → t x ≡ true
held_within t n f k x total last many below from upper count = elim (yes_or_no (t x)) [
  | inl passes ↦ passes
  | inr fails ↦ elim (yes_or_no (nat_lt x (f + k))) [
    | inl less ↦ (
        let h : x < f + k = ltb-true x (f + k) less in
        let same : count_below t (suc x) ≡ count_below t x = count_below-no t x fails in
        let rest : f + k ≡ suc x + (f + k - suc x) = omega arith in
        let most : count_below t (suc x + (f + k - suc x)) ≤ count_below t (suc x) + (f + k - suc x) = upto t (suc x) (f + k - suc x) in
        let there : count_below t (f + k) ≡ count_below t (suc x + (f + k - suc x)) = ap (count_below t) rest in
        absurd (omega arith))
    | inr equal ↦ (
        let same : x ≡ f + k = grind (arith, nat_tests) in
        ap t same ∙ last)
  ]
]

-- Where so many pass as lie from the first to the last, these are an interval.
pub chunk_placed : (t : ℕ → Bool) (n f k : ℕ) → count_below t n ≡ suc k → t f ≡ true → count_below t f ≡ 0 → t (f + k) ≡ true → count_below t (f + k) ≡ k → f + k < n
    → Places (Chunk f (f + k + 1)) t n
chunk_placed t n f k total first none last many lt x below = elim (yes_or_no (nat_lt x f)) [
  | inl before ↦ (let h : x < f = ltb-true x f before in elim (yes_or_no (t x)) [
    | inl passes ↦ (let more : count_below t x < count_below t f = count_below-lt t x f passes h in absurd (omega arith))
    | inr fails ↦ outside_low f (f + k + 1) x h ∙ sym (among_no t x fails)
  ])
  | inr from ↦ (let h : f ≤ x = grind (arith, nat_tests) in elim (yes_or_no (nat_lt (f + k) x)) [
    | inl behind ↦ (let b : f + k < x = ltb-true (f + k) x behind in elim (yes_or_no (t x)) [
      | inl passes ↦ (
          let one : count_below t (f + k) < count_below t x = count_below-lt t (f + k) x last b in
          let two : count_below t x < count_below t n = count_below-lt t x n passes below in
          absurd (omega arith))
      | inr fails ↦ outside_high f (f + k + 1) x (omega arith) ∙ sym (among_no t x fails)
    ])
    | inr within ↦ (
        let upper : x ≤ f + k = grind (arith, nat_tests) in
        let j : ℕ = x - f in
        let at : x ≡ f + j = omega arith in
        let to : f + k ≡ x + (k - j) = omega arith in
        let least : count_below t (f + j) ≤ count_below t f + j = upto t f j in
        let most : count_below t (x + (k - j)) ≤ count_below t x + (k - j) = upto t x (k - j) in
        let here : count_below t x ≡ count_below t (f + j) = ap (count_below t) at in
        let there : count_below t (f + k) ≡ count_below t (x + (k - j)) = ap (count_below t) to in
        let count : count_below t x ≡ x - f = omega arith in
        inside f (f + k + 1) x h (omega arith) ∙ sym (among_yes t x (x - f) (held_within t n f k x total last many below h upper count) count))
  ])
]
