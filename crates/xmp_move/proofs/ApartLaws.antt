-- Where no subscript passes on both sides, nothing is due.
use Rattle.std.proofs.Common.{◌≡◌, ℕ, zero, suc, ◌+◌, ◌*◌, ◌<◌, ◌≤◌, ◌⊎◌, inl, inr, Bool, true, false, List, [], ◌∷◌, refl, sym, ◌∙◌, ap, arith, map, cond}
use Rattle.std.specs.Prelude.{filter, ◌&&◌, nat_le, nat_lt}
use Rattle.std.specs.List.{range_with_len, flat_map}
use Rattle.std.proofs.lemmas.Bool.Decides.{nat_tests}
use Rattle.xmp_move.specs.declared.pick.Pick.{Pick}
use Rattle.xmp_move.specs.declared.pick.Pick.TheVariants.{Single, Section}
use Rattle.xmp_move.specs.declared.axis.Axis.{Axis}
use Rattle.xmp_move.specs.Picks.{counts, by_place}
use Rattle.xmp_move.specs.Reaches.{reaches}
use Rattle.xmp_move.specs.Sums.{sums, shares, both, filled_up, due_slots, singles_due}
use Rattle.xmp_move.specs.Axes.{picks, tests, adds}

-- intervals that end before the other begins
pub spans_apart : (from to start end x : ℕ) → (to ≤ start) ⊎ (end ≤ from) → ((nat_le from x && nat_lt x to) && (nat_le start x && nat_lt x end)) ≡ false
spans_apart from to start end x (inl le) = grind (arith, nat_tests)
spans_apart from to start end x (inr le) = grind (arith, nat_tests)

none_in : (t : ℕ → Bool) (a n : ℕ) → ((k : ℕ) → t k ≡ false) → filter t (range_with_len a n) ≡ []
none_in t a zero h = refl
none_in t a (suc n) h = let e : t a ≡ false = h a in rw e (none_in t (a + 1) n h)

-- a dimension in which no place passes
no_sums : (p q : ℕ → Bool) (ps qs : List (ℕ → Bool)) (fs : List (ℕ → ℕ)) (n : ℕ) (ns : List ℕ) → ((k : ℕ) → (p k && q k) ≡ false)
    → sums (shares (both (p ∷ ps) (q ∷ qs)) (filled_up (n ∷ ns) fs) (n ∷ ns)) ≡ []
unfolding sums shares both filled_up
no_sums p q ps qs [] n ns h = ap (λ xs. flat_map (λ x. map (λ r. x + r) (sums (shares (both ps qs) (filled_up ns []) ns))) (map (λ _. 0) xs)) (none_in (λ k. p k && q k) 0 n h)
no_sums p q ps qs (f ∷ fs) n ns h = ap (λ xs. flat_map (λ x. map (λ r. x + r) (sums (shares (both ps qs) (filled_up ns fs) ns))) (map f xs)) (none_in (λ k. p k && q k) 0 n h)

none_due : (b : Bool) (f : ℕ → ℕ) (xs : List ℕ) → xs ≡ [] → cond b (map f xs) [] ≡ []
none_due true f xs e = ap (map f) e
none_due false f xs e = refl

sections_apart : (a n b c m d : ℕ) (ps qs os : List Pick) (t s : ℕ → Bool) (ts ss : List (ℕ → Bool)) (fs : List (ℕ → ℕ)) → a ≡ c → b ≡ d → ((x : ℕ) → (t x && s x) ≡ false)
    → due_slots (Section a n b ∷ ps) (Section c m d ∷ qs) os (t ∷ ts) (s ∷ ss) fs ≡ []
unfolding by_place counts
sections_apart a n b c m d ps qs os t s ts ss fs ea eb h =
    none_due (singles_due (Section a n b ∷ ps) (Section c m d ∷ qs) (t ∷ ts) (s ∷ ss)) _ _
    (no_sums (λ k. t (a + k * b)) (λ k. s (c + k * d)) (by_place ps ts) (by_place qs ss) (by_place os fs) n (counts ps)
    (λ k. ap (λ x. t (a + k * b) && s x) (let e : c + k * d ≡ a + k * b = rw (ea, eb) refl in e) ∙ h (a + k * b)))

pub apart_due : (x y : Axis) (xs ys : List Axis) (a n b c m d : ℕ) → x.pick ≡ Section a n b → y.pick ≡ Section c m d → a ≡ c → b ≡ d
    → ((k : ℕ) → (reaches x.reach k && reaches y.reach k) ≡ false) → (slots : List Axis)
    → due_slots (picks (x ∷ xs)) (picks (y ∷ ys)) (picks slots) (tests (x ∷ xs)) (tests (y ∷ ys)) (adds slots) ≡ []
apart_due x y xs ys a n b c m d ex ey ea eb h slots =
    ap (λ p. due_slots (p ∷ picks xs) (picks (y ∷ ys)) (picks slots) (tests (x ∷ xs)) (tests (y ∷ ys)) (adds slots)) ex
    ∙ ap (λ q. due_slots (Section a n b ∷ picks xs) (q ∷ picks ys) (picks slots) (tests (x ∷ xs)) (tests (y ∷ ys)) (adds slots)) ey
    ∙ sections_apart a n b c m d (picks xs) (picks ys) (picks slots) (reaches x.reach) (reaches y.reach) (tests xs) (tests ys) (adds slots) ea eb h
