-- Spots of the same cells as one clash as each of them does.
use Rattle.std.proofs.Common.{◌≡◌, ℕ, ◌==◌, Bool, true, false, not, ◌&&◌, ◌||◌, List, [], ◌∷◌, ℤ, Option, Some, None, fold, refl, sym, ap, ◌∙◌, if◌then◌else◌}
use Rattle.std.specs.List.{list_any}
use Rattle.std.specs.Ordering.{int_eq}
use Rattle.std.proofs.lemmas.Bool.{false≢true, and_parts, eqb-true}
use Rattle.std.proofs.lemmas.Bool.Decides.{Decides-int_eq}
use Rattle.xmp_spots.specs.declared.touches.By.{By}
use Rattle.xmp_spots.specs.declared.touches.By.TheVariants.{One, Several}
use Rattle.xmp_spots.specs.declared.touches.Subscripts.{Subscripts}
use Rattle.xmp_spots.specs.declared.touches.Spot.{Spot}
use Rattle.xmp_spots.specs.Clashes.{by_two, may_be_one, spots_clash}
use Rattle.xmp_spots.specs.Gathered.{same_number, same_cells, both_by, with_spot, gathered}
use Rattle.xmp_spots.proofs.BetweenLaws.{any_swap}

number_is : (a b : Option ℤ) → same_number a b ≡ true → a ≡ b
number_is None None h = refl
number_is None (Some y) h = absurd (false≢true h)
number_is (Some x) None h = absurd (false≢true h)
number_is (Some x) (Some y) h = ap Some ((Decides-int_eq x y).0 h)

-- ---- the images of both

either_one : (k a b : ℕ) → (t : Bool) → (a == b) ≡ t → by_two (One k) (if t then One a else Several) ≡ (by_two (One k) (One a) || by_two (One k) (One b))
either_one k a b true e = sym (same (not (k == a))) ∙ ap (λ n. not (k == a) || not (k == n)) (eqb-true a b e)
  where
    same : (x : Bool) → (x || x) ≡ x
    same true = refl
    same false = refl
either_one k a b false e = other (k == a) (k == b) refl refl
  where
    other : (x y : Bool) → (k == a) ≡ x → (k == b) ≡ y → true ≡ (not x || not y)
    other true true f g = absurd (false≢true (sym e ∙ (ap (λ n. n == b) (sym (eqb-true k a f)) ∙ g)))
    other true false f g = refl
    other false y f g = refl

or_true : (x : Bool) → (x || true) ≡ true
or_true true = refl
or_true false = refl

by_both : (q a b : By) → by_two q (both_by a b) ≡ (by_two q a || by_two q b)
by_both (One k) (One a) (One b) = either_one k a b (a == b) refl
by_both (One k) (One a) Several = sym (or_true (by_two (One k) (One a)))
by_both (One k) Several b = refl
by_both Several a b = refl

-- ---- one spot more

spread : (x y c : Bool) → ((x || y) && c) ≡ (x && c || y && c)
spread true true true = refl
spread true true false = refl
spread true false true = refl
spread true false false = refl
spread false y c = refl

swap_last : (x y r : Bool) → ((x || y) || r) ≡ ((x || r) || y)
swap_last true y r = refl
swap_last false true true = refl
swap_last false true false = refl
swap_last false false true = refl
swap_last false false false = refl

turned : (x r y : Bool) → (x || (r || y)) ≡ ((x || r) || y)
turned true r y = refl
turned false r y = refl

or_none : (x : Bool) → (x || false) ≡ x
or_none true = refl
or_none false = refl

same_clash : (q t s : Spot) → same_cells t s ≡ true →
    spots_clash q (record t { by = both_by t.by s.by }) ≡ (spots_clash q t || spots_clash q s)
same_clash q t s h =
    let one = and_parts _ _ h in
    let two = and_parts _ _ one.1 in
    let three = and_parts _ _ two.1 in
    let on : t.on ≡ s.on = (Decides-int_eq t.on s.on).0 one.0 in
    let first = number_is t.subscripts.first s.subscripts.first two.0 in
    let second = number_is t.subscripts.second s.subscripts.second three.0 in
    let third = number_is t.subscripts.third s.subscripts.third three.1 in
    ap (λ b. b && (int_eq q.on t.on && may_be_one q.subscripts t.subscripts)) (by_both q.by t.by s.by)
    ∙ (spread (by_two q.by t.by) (by_two q.by s.by) (int_eq q.on t.on && may_be_one q.subscripts t.subscripts)
    ∙ (λ i. spots_clash q t || by_two q.by s.by && (int_eq q.on (on i)
    && may_be_one q.subscripts (record { first = first i; second = second i; third = third i }))))

more_clash : (q : Spot) (spots : List Spot) (s : Spot) →
    list_any (spots_clash q) (with_spot spots s) ≡ (list_any (spots_clash q) spots || spots_clash q s)
more_clash q [] s = or_none (spots_clash q s)
more_clash q (t ∷ spots) s = case (same_cells t s) refl (more_clash q spots s)
  where
    case : (b : Bool) → same_cells t s ≡ b →
        list_any (spots_clash q) (with_spot spots s) ≡ (list_any (spots_clash q) spots || spots_clash q s) →
        list_any (spots_clash q) (if b then record t { by = both_by t.by s.by } ∷ spots else t ∷ with_spot spots s)
        ≡ ((spots_clash q t || list_any (spots_clash q) spots) || spots_clash q s)
    case true e next =
        ap (λ b. b || list_any (spots_clash q) spots) (same_clash q t s e)
        ∙ swap_last (spots_clash q t) (spots_clash q s) (list_any (spots_clash q) spots)
    case false e next =
        ap (λ b. spots_clash q t || b) next ∙ turned (spots_clash q t) (list_any (spots_clash q) spots) (spots_clash q s)

-- ---- all

all_from : (q : Spot) (spots so_far : List Spot) →
    list_any (spots_clash q) (fold with_spot so_far spots) ≡ (list_any (spots_clash q) so_far || list_any (spots_clash q) spots)
all_from q [] so_far = sym (or_none (list_any (spots_clash q) so_far))
all_from q (s ∷ spots) so_far =
    all_from q spots (with_spot so_far s)
    ∙ (ap (λ b. b || list_any (spots_clash q) spots) (more_clash q so_far s)
    ∙ sym (turned (list_any (spots_clash q) so_far) (spots_clash q s) (list_any (spots_clash q) spots)))

one_side : (q : Spot) (spots : List Spot) → list_any (spots_clash q) (gathered spots) ≡ list_any (spots_clash q) spots
one_side q spots = all_from q spots []

pub gathered_clash : (xs ys : List Spot) →
    list_any (λ s. list_any (spots_clash s) (gathered ys)) (gathered xs) ≡ list_any (λ s. list_any (spots_clash s) ys) xs
gathered_clash xs ys =
    (λ i. list_any (λ s. one_side s ys i) (gathered xs))
    ∙ (any_swap (gathered xs) ys
    ∙ ((λ i. list_any (λ s. one_side s xs i) ys)
    ∙ any_swap ys xs))
