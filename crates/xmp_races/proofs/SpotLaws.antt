-- The spots of one image more.
use Rattle.std.proofs.Common.{◌≡◌, ℕ, suc, ◌+◌, ◌-◌, ◌<◌, arith, Bool, true, false, List, [], ◌∷◌, map, ℤ, pos, refl, ap, ◌∙◌, if◌then◌else◌}
use Rattle.std.specs.Prelude.{fold, filter}
use Rattle.std.specs.List.{flat_map, range_with_len}
use Rattle.std.proofs.lemmas.List.Concat.{flat_map-cons}
use Rattle.std.proofs.lemmas.List.Sums.{fold-append}
use Rattle.xmp_spots.specs.declared.touches.Spot.{Spot}
use Rattle.xmp_spots.specs.Gathered.{with_spot}

one_less : (count k : ℕ) → k < count → count - k ≡ suc (count - (k + 1))
one_less count k h = omega (arith, h)

-- what is left from a number on
pub from_next : (count k : ℕ) → k < count → range_with_len k (count - k) ≡ k ∷ range_with_len (k + 1) (count - (k + 1))
from_next count k h = ap (range_with_len k) (one_less count k h)

pub from_end : (count k : ℕ) → count ≡ k → range_with_len k (count - k) ≡ []
from_end count k e = let z : count - k ≡ 0 = omega (arith, e) in ap (range_with_len k) z

-- spots by an index
pub turn_next : (spots : List Spot) (test : ℤ → Bool) (spot : ℤ → Spot) (count k : ℕ) → k < count →
    fold with_spot spots (map spot (filter test (map pos (range_with_len k (count - k)))))
    ≡ fold with_spot (if test (pos k) then with_spot spots (spot (pos k)) else spots)
    (map spot (filter test (map pos (range_with_len (k + 1) (count - (k + 1))))))
turn_next spots test spot count k h =
    ap (λ l. fold with_spot spots (map spot (filter test (map pos l)))) (from_next count k h) ∙ case (test (pos k))
  where
    case : (b : Bool) →
        fold with_spot spots (map spot (if b then pos k ∷ filter test (map pos (range_with_len (k + 1) (count - (k + 1))))
        else filter test (map pos (range_with_len (k + 1) (count - (k + 1))))))
        ≡ fold with_spot (if b then with_spot spots (spot (pos k)) else spots)
        (map spot (filter test (map pos (range_with_len (k + 1) (count - (k + 1))))))
    case true = refl
    case false = refl

-- spots of images
pub image_next : (spots : List Spot) (test : ℕ → Bool) (on : ℕ → List Spot) (count k : ℕ) → k < count →
    fold with_spot spots (flat_map on (filter test (range_with_len k (count - k))))
    ≡ fold with_spot (if test k then fold with_spot spots (on k) else spots) (flat_map on (filter test (range_with_len (k + 1) (count - (k + 1)))))
image_next spots test on count k h =
    ap (λ l. fold with_spot spots (flat_map on (filter test l))) (from_next count k h) ∙ case (test k)
  where
    case : (b : Bool) →
        fold with_spot spots (flat_map on (if b then k ∷ filter test (range_with_len (k + 1) (count - (k + 1)))
        else filter test (range_with_len (k + 1) (count - (k + 1)))))
        ≡ fold with_spot (if b then fold with_spot spots (on k) else spots) (flat_map on (filter test (range_with_len (k + 1) (count - (k + 1)))))
    case true =
        ap (fold with_spot spots) (flat_map-cons on k (filter test (range_with_len (k + 1) (count - (k + 1)))))
        ∙ fold-append with_spot spots (on k) (flat_map on (filter test (range_with_len (k + 1) (count - (k + 1)))))
    case false = refl
