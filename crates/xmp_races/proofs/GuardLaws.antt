-- The images that go on, one more; and those that are left.
use Rattle.std.proofs.Common.{◌≡◌, ℕ, suc, ◌+◌, ◌-◌, ◌<◌, Bool, true, false, ◌&&◌, ◌||◌, List, [], ◌∷◌, ◌++◌, ℤ, refl, sym, ap, ◌∙◌, add-one, if◌then◌else◌, length, drop, get_or, slice_get}
use Rattle.std.specs.Prelude.{filter}
use Rattle.std.specs.List.{list_any, range_with_len}
use Rattle.std.proofs.Math.Seq.{drop-cons}
use Rattle.std.proofs.lemmas.List.{append_assoc}
use Rattle.xmp_races.specs.Footprints.{goes_on, those_from}
use Rattle.xmp_races.proofs.SpotLaws.{from_next, from_end}

pub those_next : (counts : List Bool) (values : List ℤ) (k : ℕ) (h d : Bool) → k < length counts →
    those_from k (drop k counts) values h ≡ goes_on h (get_or counts k d) (slice_get values k) ∷ those_from (suc k) (drop (suc k) counts) values h
those_next counts values k h d l = ap (λ cs. those_from k cs values h) (drop-cons counts k d l)

-- one image more
pub chosen_more : (counts : List Bool) (values : List ℤ) (k : ℕ) (h d b : Bool) (found next all : List Bool) → k < length counts →
    next ≡ found ++ b ∷ [] → b ≡ goes_on h (get_or counts k d) (slice_get values k) → found ++ those_from k (drop k counts) values h ≡ all →
    next ++ those_from (k + 1) (drop (k + 1) counts) values h ≡ all
chosen_more counts values k h d b found next all l e i r =
    let g = goes_on h (get_or counts k d) (slice_get values k) in
    let rest = those_from (suc k) (drop (suc k) counts) values h in
    ap (λ j. next ++ those_from j (drop j counts) values h) (add-one k)
    ∙ (ap (λ x. x ++ rest) (e ∙ ap (λ x. found ++ x ∷ []) i)
    ∙ (append_assoc found (g ∷ []) rest ∙ (ap (λ x. found ++ x) (sym (those_next counts values k h d l)) ∙ r)))

-- the next image by two tests
pub any_next : (test those : ℕ → Bool) (count k : ℕ) → k < count →
    list_any test (filter those (range_with_len k (count - k))) ≡ ((those k && test k) || list_any test (filter those (range_with_len (k + 1) (count - (k + 1)))))
any_next test those count k h = ap (λ l. list_any test (filter those l)) (from_next count k h) ∙ case (those k)
  where
    case : (b : Bool) →
        list_any test (if b then k ∷ filter those (range_with_len (k + 1) (count - (k + 1))) else filter those (range_with_len (k + 1) (count - (k + 1))))
        ≡ ((b && test k) || list_any test (filter those (range_with_len (k + 1) (count - (k + 1)))))
    case true = refl
    case false = refl

pub any_end : (test those : ℕ → Bool) (count k : ℕ) → count ≡ k → list_any test (filter those (range_with_len k (count - k))) ≡ false
any_end test those count k e = ap (λ l. list_any test (filter those l)) (from_end count k e)
