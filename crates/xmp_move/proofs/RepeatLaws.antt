-- The places that pass, a stretch at a time, and once more where the tests repeat.
use Rattle.std.proofs.Common.{◌≡◌, ℕ, zero, suc, ◌+◌, ◌-◌, ◌*◌, ◌/◌, ◌%◌, ◌<◌, ◌≤◌, ◌⊎◌, inl, inr, Bool, true, false, List, [], ◌∷◌, ◌++◌, refl, sym, ◌∙◌, ap, arith, length, map, take, get_or, cond, min, max}
use Rattle.std.specs.Prelude.{filter, ◌&&◌, nat_lt}
use Rattle.std.specs.List.{range_with_len}
use Rattle.std.proofs.lemmas.Bool.{cases_lt, lt-ltb, le-ltb}
use Rattle.std.proofs.lemmas.List.{map-append}
use Rattle.std.proofs.lemmas.List.Elements.{filter-append}
use Rattle.xmp_move.specs.declared.reach.Reach.{Reach}
use Rattle.xmp_move.specs.declared.leg.Walk.{Walk}
use Rattle.xmp_move.specs.declared.leg.Leg.{Leg}
use Rattle.xmp_move.specs.Reaches.{reaches}
use Rattle.xmp_move.specs.Axes.{at}
use Rattle.xmp_move.specs.Legs.{Repeats, adds_further, leg_test}
use Rattle.xmp_move.proofs.Narrowed.{range_split, none_pass, append_nil}
use Rattle.xmp_move.proofs.SumLaws.{take_one}
use Rattle.xmp_move.proofs.LegLaws.{part, range_more}
use Rattle.xmp_move.proofs.RoundLaws.{at_more}

-- ---- from place to place

abbrev pub passing : (ℕ → Bool) → (from many : ℕ) → List ℕ
passing t from n = filter t (range_with_len from n)

pub one_passes : (t : ℕ → Bool) (from k : ℕ) → from ≤ k → t k ≡ true → passing t from (k + 1 - from) ≡ passing t from (k - from) ++ k ∷ []
one_passes t from k le h =
    let e : k + 1 - from ≡ suc (k - from) = omega (arith, le) in
    let f : from + (k - from) ≡ k = omega (arith, le) in
    ap (passing t from) e
    ∙ ap (filter t) (range_more from (k - from))
    ∙ filter-append t (range_with_len from (k - from)) ((from + (k - from)) ∷ [])
    ∙ ap (λ x. passing t from (k - from) ++ filter t (x ∷ [])) f
    ∙ ap (λ b. passing t from (k - from) ++ cond b (k ∷ []) []) h

pub none_pass_to : (t : ℕ → Bool) (from k next : ℕ) → from ≤ k → k ≤ next → ((j : ℕ) → k ≤ j → j < next → t j ≡ false) → passing t from (next - from) ≡ passing t from (k - from)
none_pass_to t from k next le more none =
    let e : next - from ≡ (k - from) + (next - k) = omega (arith, le, more) in
    let f : from + (k - from) ≡ k = omega (arith, le) in
    ap (passing t from) e
    ∙ ap (filter t) (range_split from (k - from) (next - k))
    ∙ filter-append t (range_with_len from (k - from)) (range_with_len (from + (k - from)) (next - k))
    ∙ ap (λ x. passing t from (k - from) ++ passing t x (next - k)) f
    ∙ ap (λ r. passing t from (k - from) ++ r) (none_pass t k (next - k) (λ j l u. none j l (omega (arith, u, more))))
    ∙ append_nil (passing t from (k - from))

-- ---- what repeats

further_one : (f : ℕ → ℕ) (to d : ℕ) (ps : List ℕ) (k : ℕ) (b : Bool) → nat_lt (k + d) to ≡ b
    → adds_further f to d (ps ++ k ∷ []) ≡ adds_further f to d ps ++ map f (cond b ((k + d) ∷ []) [])
further_one f to d ps k b h =
    ap (λ r. map f (filter (λ k. nat_lt k to) r)) (map-append (λ k. k + d) ps (k ∷ []))
    ∙ ap (map f) (filter-append (λ k. nat_lt k to) (map (λ k. k + d) ps) ((k + d) ∷ []))
    ∙ map-append f (filter (λ k. nat_lt k to) (map (λ k. k + d) ps)) (cond (nat_lt (k + d) to) ((k + d) ∷ []) [])
    ∙ ap (λ b. adds_further f to d ps ++ map f (cond b ((k + d) ∷ []) [])) h

pub further_next : (f : ℕ → ℕ) (to d : ℕ) (ps : List ℕ) (i : ℕ) → i < length ps → get_or ps i 0 + d < to
    → adds_further f to d (take (i + 1) ps) ≡ adds_further f to d (take i ps) ++ f (get_or ps i 0 + d) ∷ []
further_next f to d ps i lt l =
    let e : i + 1 ≡ suc i = omega arith in
    ap (λ n. adds_further f to d (take n ps)) e
    ∙ ap (adds_further f to d) (take_one ps i lt)
    ∙ further_one f to d (take i ps) (get_or ps i 0) true (lt-ltb (get_or ps i 0 + d) to l)

pub further_none : (f : ℕ → ℕ) (to d : ℕ) (ps : List ℕ) (i : ℕ) → i < length ps → to ≤ get_or ps i 0 + d
    → adds_further f to d (take (i + 1) ps) ≡ adds_further f to d (take i ps)
further_none f to d ps i lt l =
    let e : i + 1 ≡ suc i = omega arith in
    ap (λ n. adds_further f to d (take n ps)) e
    ∙ ap (adds_further f to d) (take_one ps i lt)
    ∙ further_one f to d (take i ps) (get_or ps i 0) false (le-ltb (get_or ps i 0 + d) to l)
    ∙ append_nil (adds_further f to d (take i ps))

further_step : (t : ℕ → Bool) (f : ℕ → ℕ) (to d : ℕ) → Repeats t d → (a n : ℕ) → adds_further f to d (passing t (a + 1) n) ≡ part t f ((a + 1) + d) (min n (to - ((a + 1) + d)))
    → adds_further f to d (passing t a (suc n)) ≡ part t f (a + d) (min (suc n) (to - (a + d)))
further_step t f to d again a n rest = at_bound (cases_lt (a + d) to)
  where
    -- beyond the bound there is none
    beyond : to ≤ a + d → part t f ((a + 1) + d) (min n (to - ((a + 1) + d))) ≡ []
    beyond ge = let e : min n (to - ((a + 1) + d)) ≡ 0 = omega (arith, ge) in rw e refl

    head_of : (b c : Bool) → t a ≡ b → nat_lt (a + d) to ≡ c
        → adds_further f to d (passing t a (suc n)) ≡ map f (cond b (cond c ((a + d) ∷ []) []) []) ++ adds_further f to d (passing t (a + 1) n)
    head_of true true h l = rw (h, l) refl
    head_of true false h l = rw (h, l) refl
    head_of false c h l = rw h refl

    some_of : (b : Bool) → t (a + d) ≡ b → part t f (a + d) (suc (min n (to - ((a + 1) + d)))) ≡ map f (cond b ((a + d) ∷ []) []) ++ part t f ((a + d) + 1) (min n (to - ((a + 1) + d)))
    some_of true h = rw h refl
    some_of false h = rw h refl

    before : a + d < to → adds_further f to d (passing t a (suc n)) ≡ part t f (a + d) (min (suc n) (to - (a + d)))
    before l =
        let e : suc (min n (to - ((a + 1) + d))) ≡ min (suc n) (to - (a + d)) = omega (arith, l) in
        let g : (a + 1) + d ≡ (a + d) + 1 = omega arith in
        head_of (t a) true refl (lt-ltb (a + d) to l)
        ∙ ap (λ r. map f (cond (t a) ((a + d) ∷ []) []) ++ r) rest
        ∙ ap (λ x. map f (cond (t a) ((a + d) ∷ []) []) ++ part t f x (min n (to - ((a + 1) + d)))) g
        ∙ sym (some_of (t a) (again a))
        ∙ ap (part t f (a + d)) e

    nothing : (b : Bool) → map f (cond b [] []) ≡ []
    nothing true = refl
    nothing false = refl

    after : to ≤ a + d → adds_further f to d (passing t a (suc n)) ≡ part t f (a + d) (min (suc n) (to - (a + d)))
    after ge =
        let e : 0 ≡ min (suc n) (to - (a + d)) = omega (arith, ge) in
        head_of (t a) false refl (le-ltb (a + d) to ge)
        ∙ ap (λ r. r ++ adds_further f to d (passing t (a + 1) n)) (nothing (t a))
        ∙ rest
        ∙ beyond ge
        ∙ ap (part t f (a + d)) e

    at_bound : ((a + d < to) ⊎ (to ≤ a + d)) → adds_further f to d (passing t a (suc n)) ≡ part t f (a + d) (min (suc n) (to - (a + d)))
    at_bound (inl l) = before l
    at_bound (inr ge) = after ge

-- the places of one stretch, so much further on, are those of another
pub further_is : (t : ℕ → Bool) (f : ℕ → ℕ) (to d : ℕ) → Repeats t d → (a n : ℕ) → adds_further f to d (passing t a n) ≡ part t f (a + d) (min n (to - (a + d)))
further_is t f to d again a zero = let e : min 0 (to - (a + d)) ≡ 0 = omega arith in rw e refl
further_is t f to d again a (suc n) = further_step t f to d again a n (further_is t f to d again (a + 1) n)

part_split : (t : ℕ → Bool) (f : ℕ → ℕ) (a m n : ℕ) → part t f a (m + n) ≡ part t f a m ++ part t f (a + m) n
part_split t f a m n =
    ap (λ r. map f (filter t r)) (range_split a m n)
    ∙ ap (map f) (filter-append t (range_with_len a m) (range_with_len (a + m) n))
    ∙ map-append f (filter t (range_with_len a m)) (filter t (range_with_len (a + m) n))

-- one more stretch
pub stretch_more : (t : ℕ → Bool) (f : ℕ → ℕ) (from to many period further : ℕ) → from ≤ to → many ≡ to - from → further < many → Repeats t further
    → part t f from (min further many) ++ adds_further f to further (passing t from period) ≡ part t f from (min (further + period) many)
stretch_more t f from to many period further order is lt again =
    let e : min further many ≡ further = omega (arith, lt) in
    let g : min period (to - (from + further)) ≡ min (further + period) many - further = omega (arith, order, is, lt) in
    let h : further + (min (further + period) many - further) ≡ min (further + period) many = omega (arith, lt) in
    ap (λ n. part t f from n ++ adds_further f to further (passing t from period)) e
    ∙ ap (λ r. part t f from further ++ r) (further_is t f to further again from period)
    ∙ ap (λ n. part t f from further ++ part t f (from + further) n) g
    ∙ sym (part_split t f from further (min (further + period) many - further))
    ∙ ap (part t f from) h

pub repeats_more : (t : ℕ → Bool) (further period many : ℕ) → (period ≡ many) ⊎ Repeats t period → Repeats t further → further + period < many → Repeats t (further + period)
repeats_more t further period many (inl all) again lt k = absurd (omega (arith, all, lt))
repeats_more t further period many (inr next) again lt k =
    let e : k + (further + period) ≡ (k + further) + period = omega arith in
    ap t e ∙ next (k + further) ∙ again k

-- ---- when the tests of a section repeat

-- a reach that repeats after so many subscripts, or never
abbrev pub ReachRepeats : Reach → ℕ → Type 0
ReachRepeats r round = (m x : ℕ) → reaches r (x + m * round) ≡ reaches r x

walk_repeats : (r : Reach) (walk : Walk) (round q : ℕ) → ReachRepeats r round → (k : ℕ) → reaches r (at walk (k + q * round)) ≡ reaches r (at walk k)
walk_repeats r walk round q again k =
    let e : at walk k + (q * round) * walk.step ≡ at walk k + (q * walk.step) * round = omega arith in
    ap (reaches r) (at_more walk k (q * round) ∙ e) ∙ again (q * walk.step) (at walk k)

pub leg_repeats : (leg : Leg) (a b many p q : ℕ) → ReachRepeats leg.needs a → ReachRepeats leg.gives b → many ≡ p * a → many ≡ q * b → Repeats (leg_test leg) many
leg_repeats leg a b many p q needs gives ea eb k =
    ap (λ x. x && reaches leg.gives (at leg.source (k + many))) (ap (λ n. reaches leg.needs (at leg.target (k + n))) ea ∙ walk_repeats leg.needs leg.target a p needs k)
    ∙ ap (λ x. reaches leg.needs (at leg.target k) && x) (ap (λ n. reaches leg.gives (at leg.source (k + n))) eb ∙ walk_repeats leg.gives leg.source b q gives k)

-- both repeat after so many rounds of one as the other has subscripts
pub both_repeat : (leg : Leg) (a b : ℕ) → (a ≡ 0) ⊎ ReachRepeats leg.needs a → (b ≡ 0) ⊎ ReachRepeats leg.gives b → (a * b ≡ 0 → ⊥) → Repeats (leg_test leg) (a * b)
both_repeat leg a b (inl z) gives some = absurd (some (let e : a * b ≡ 0 * b = ap (λ n. n * b) z in omega (arith, e)))
both_repeat leg a b (inr needs) (inl z) some = absurd (some (let e : a * b ≡ a * 0 = ap (λ n. a * n) z in omega (arith, e)))
both_repeat leg a b (inr needs) (inr gives) some = leg_repeats leg a b (a * b) b a needs gives (omega arith) refl
