-- What is found once an access is noted under each of its keys.
use Rattle.std.proofs.Common.{◌≡◌, ℕ, ◌==◌, Bool, true, false, ◌&&◌, ◌||◌, List, [], ◌∷◌, ◌++◌, ℤ, Option, Some, None, is_none, is_some, not, refl, sym, ap, ◌∙◌, if◌then◌else◌}
use Rattle.std.specs.List.{list_any}
use Rattle.std.proofs.lemmas.List.Folds.{list_any-append}
use Rattle.std.proofs.lemmas.Bool.{false≢true, true≢false}
use Rattle.std.specs.Ordering.{int_eq}
use Rattle.xmp_base.specs.declared.refusal.Refusal.{Refusal}
use Rattle.xmp_base.specs.First.{comes_first, first_of}
use Rattle.xmp_base.proofs.FirstLaws.{comes_first-refl}
use Rattle.xmp_spots.specs.declared.touches.By.{By}
use Rattle.xmp_spots.specs.declared.touches.Subscripts.{Subscripts}
use Rattle.xmp_spots.specs.declared.touches.Spot.{Spot}
use Rattle.xmp_spots.specs.declared.keys.Mark.{Mark}
use Rattle.xmp_spots.specs.declared.keys.Mark.TheVariants as mark
use Rattle.xmp_spots.specs.declared.keys.Key.{Key}
use Rattle.xmp_spots.specs.Clashes.{by_two}
use Rattle.xmp_spots.specs.Nearest.{noted}
use Rattle.xmp_spots.specs.Marks.{number_mark}
use Rattle.xmp_spots.specs.Tables.{same_mark, same_key}
use Rattle.xmp_spots.specs.Entering.{enters, enters_third, enters_second, enters_first}

-- noted again, a refusal changes nothing
again : (x : Option Refusal) (r : Refusal) → first_of (first_of x (Some r)) (Some r) ≡ first_of x (Some r)
again None r = ap (λ (t : Bool). if t then Some r else Some r) (comes_first-refl r)
again (Some a) r = case (comes_first a r) refl
  where
    case : (t : Bool) → comes_first a r ≡ t → first_of (if t then Some a else Some r) (Some r) ≡ (if t then Some a else Some r)
    case true e = ap (λ (t : Bool). if t then Some a else Some r) e
    case false e = ap (λ (t : Bool). if t then Some r else Some r) (comes_first-refl r)

pub noted_twice : (a b : Bool) (r : Refusal) (x : Option Refusal) → noted b r (noted a r x) ≡ noted (a || b) r x
noted_twice true true r x = again x r
noted_twice true false r x = refl
noted_twice false true r x = refl
noted_twice false false r x = refl

-- ---- a dimension

whole : (m : Mark) → same_mark mark.Whole m ≡ enters None m
whole mark.Whole = refl
whole mark.Any = refl
whole (mark.Number m) = refl

number : (n : ℤ) (m : Mark) → (same_mark mark.Any m || same_mark (mark.Number n) m) ≡ enters (Some n) m
number n mark.Whole = refl
number n mark.Any = refl
number n (mark.Number m) = refl

either : (a p s d : Bool) → ((a && p) && d || (a && s) && d) ≡ ((a && (p || s)) && d)
either false p s d = refl
either true true s true = refl
either true true true false = refl
either true true false false = refl
either true false s d = refl

pub last_either : (a b c e p s d : Bool) →
    ((a && (b && (c && (e && p)))) && d || (a && (b && (c && (e && s)))) && d) ≡ ((a && (b && (c && (e && (p || s))))) && d)
last_either false b c e p s d = refl
last_either true false c e p s d = refl
last_either true true false e p s d = refl
last_either true true true e p s d = either e p s d

pub middle_either : (a b c p s e d : Bool) →
    ((a && (b && (c && (p && e)))) && d || (a && (b && (c && (s && e)))) && d) ≡ ((a && (b && (c && ((p || s) && e)))) && d)
middle_either false b c p s e d = refl
middle_either true false c p s e d = refl
middle_either true true false p s e d = refl
middle_either true true true true true true true = refl
middle_either true true true true true true false = refl
middle_either true true true true true false d = refl
middle_either true true true true false true true = refl
middle_either true true true true false true false = refl
middle_either true true true true false false d = refl
middle_either true true true false s e d = refl

pub first_either : (a b p s c e d : Bool) →
    ((a && (b && (p && (c && e)))) && d || (a && (b && (s && (c && e)))) && d) ≡ ((a && (b && ((p || s) && (c && e)))) && d)
first_either a b p s true e d = middle_two a b p s e d
  where
    middle_two : (a b p s e d : Bool) →
        ((a && (b && (p && e))) && d || (a && (b && (s && e))) && d) ≡ ((a && (b && ((p || s) && e))) && d)
    middle_two false b p s e d = refl
    middle_two true false p s e d = refl
    middle_two true true true true true true = refl
    middle_two true true true true true false = refl
    middle_two true true true true false d = refl
    middle_two true true true false true true = refl
    middle_two true true true false true false = refl
    middle_two true true true false false d = refl
    middle_two true true false s e d = refl
first_either false b p s false e d = refl
first_either true false p s false e d = refl
first_either true true true true false e d = refl
first_either true true true false false e d = refl
first_either true true false s false e d = refl

is_nothing : (o : Option ℤ) → is_none o ≡ true → o ≡ None
is_nothing None h = refl
is_nothing (Some n) h = absurd (false≢true h)

some_number : (o : Option ℤ) → is_none o ≡ false → (n : ℤ) × (o ≡ Some n)
some_number None h = absurd (true≢false h)
some_number (Some n) h = (n, refl)

-- ---- the third dimension

pub third_whole : (key k : Key) (q by : By) (r : Refusal) (x : Option Refusal) →
    noted (same_key (record key { third = mark.Whole }) k && by_two q by) r x ≡ noted (enters_third key None k && by_two q by) r x
third_whole key k q by r x =
    ap (λ t. noted ((key.array == k.array
    && (int_eq key.on k.on && (same_mark key.first k.first && (same_mark key.second k.second && t)))) && by_two q by) r x) (whole k.third)

pub third_number : (key k : Key) (n : ℤ) (q by : By) (r : Refusal) (x : Option Refusal) →
    noted (same_key (record key { third = mark.Number n }) k && by_two q by) r
    (noted (same_key (record key { third = mark.Any }) k && by_two q by) r x)
    ≡ noted (enters_third key (Some n) k && by_two q by) r x
third_number key k n q by r x =
    noted_twice _ _ r x
    ∙ ap (λ t. noted t r x) (last_either (key.array == k.array) (int_eq key.on k.on) (same_mark key.first k.first) (same_mark key.second k.second)
    (same_mark mark.Any k.third) (same_mark (mark.Number n) k.third) (by_two q by))
    ∙ ap (λ t. noted ((key.array == k.array
    && (int_eq key.on k.on && (same_mark key.first k.first && (same_mark key.second k.second && t)))) && by_two q by) r x) (number n k.third)

pub third_none : (key k1 k : Key) (third : Option ℤ) (q by : By) (r : Refusal) (x y : Option Refusal) →
    k1 ≡ record key { third = mark.Whole } → is_none third ≡ true → y ≡ noted (same_key k1 k && by_two q by) r x →
    y ≡ noted (enters_third key third k && by_two q by) r x
third_none key k1 k third q by r x y e nothing h =
    let none = is_nothing third nothing in
    h ∙ (ap (λ l. noted (same_key l k && by_two q by) r x) e
    ∙ (third_whole key k q by r x ∙ ap (λ t. noted (enters_third key t k && by_two q by) r x) (sym none)))

pub third_some : (key k1 k2 k : Key) (third : Option ℤ) (q by : By) (r : Refusal) (x y z : Option Refusal) →
    k1 ≡ record key { third = mark.Any } → k2 ≡ record key { third = number_mark third } → is_none third ≡ false →
    y ≡ noted (same_key k1 k && by_two q by) r x → z ≡ noted (same_key k2 k && by_two q by) r y →
    z ≡ noted (enters_third key third k && by_two q by) r x
third_some key k1 k2 k third q by r x y z e found has g h =
    let w = some_number third has in
    let n = w.0 in
    let some = w.1 in
    let f = found ∙ ap (λ t. record key { third = number_mark t }) some in
    h ∙ (ap (λ l. noted (same_key l k && by_two q by) r y) f
    ∙ (ap (λ w. noted (same_key (record key { third = mark.Number n }) k && by_two q by) r w)
    (g ∙ ap (λ l. noted (same_key l k && by_two q by) r x) e)
    ∙ (third_number key k n q by r x ∙ ap (λ t. noted (enters_third key t k && by_two q by) r x) (sym some))))

-- ---- the second

pub second_whole : (key k : Key) (third : Option ℤ) (q by : By) (r : Refusal) (x : Option Refusal) →
    noted (enters_third (record key { second = mark.Whole }) third k && by_two q by) r x
    ≡ noted (enters_second key (record { first = None; second = None; third = third }) k && by_two q by) r x
second_whole key k third q by r x =
    ap (λ t. noted ((key.array == k.array
    && (int_eq key.on k.on && (same_mark key.first k.first && (t && enters third k.third)))) && by_two q by) r x) (whole k.second)

pub second_number : (key k : Key) (n : ℤ) (third : Option ℤ) (q by : By) (r : Refusal) (x : Option Refusal) →
    noted (enters_third (record key { second = mark.Number n }) third k && by_two q by) r
    (noted (enters_third (record key { second = mark.Any }) third k && by_two q by) r x)
    ≡ noted (enters_second key (record { first = None; second = Some n; third = third }) k && by_two q by) r x
second_number key k n third q by r x =
    noted_twice _ _ r x
    ∙ ap (λ t. noted t r x) (middle_either (key.array == k.array) (int_eq key.on k.on) (same_mark key.first k.first)
    (same_mark mark.Any k.second) (same_mark (mark.Number n) k.second) (enters third k.third) (by_two q by))
    ∙ ap (λ t. noted ((key.array == k.array
    && (int_eq key.on k.on && (same_mark key.first k.first && (t && enters third k.third)))) && by_two q by) r x) (number n k.second)

pub second_none : (key k1 k : Key) (s : Subscripts) (q by : By) (r : Refusal) (x y : Option Refusal) →
    k1 ≡ record key { second = mark.Whole } → is_none s.second ≡ true → y ≡ noted (enters_third k1 s.third k && by_two q by) r x →
    y ≡ noted (enters_second key s k && by_two q by) r x
second_none key k1 k s q by r x y e nothing h =
    let none = is_nothing s.second nothing in
    h ∙ (ap (λ l. noted (enters_third l s.third k && by_two q by) r x) e
    ∙ (second_whole key k s.third q by r x
    ∙ ap (λ t. noted (enters_second key (record s { second = t }) k && by_two q by) r x) (sym none)))

pub second_some : (key k1 k2 k : Key) (s : Subscripts) (q by : By) (r : Refusal) (x y z : Option Refusal) →
    k1 ≡ record key { second = mark.Any } → k2 ≡ record key { second = number_mark s.second } → is_none s.second ≡ false →
    y ≡ noted (enters_third k1 s.third k && by_two q by) r x → z ≡ noted (enters_third k2 s.third k && by_two q by) r y →
    z ≡ noted (enters_second key s k && by_two q by) r x
second_some key k1 k2 k s q by r x y z e found has g h =
    let w = some_number s.second has in
    let n = w.0 in
    let some = w.1 in
    let f = found ∙ ap (λ t. record key { second = number_mark t }) some in
    h ∙ (ap (λ l. noted (enters_third l s.third k && by_two q by) r y) f
    ∙ (ap (λ w. noted (enters_third (record key { second = mark.Number n }) s.third k && by_two q by) r w)
    (g ∙ ap (λ l. noted (enters_third l s.third k && by_two q by) r x) e)
    ∙ (second_number key k n s.third q by r x
    ∙ ap (λ t. noted (enters_second key (record s { second = t }) k && by_two q by) r x) (sym some))))

-- ---- the first

pub first_whole : (array : ℕ) (on : ℤ) (k : Key) (second third : Option ℤ) (q by : By) (r : Refusal) (x : Option Refusal) →
    noted ((array == k.array && (int_eq on k.on && (same_mark mark.Whole k.first && (enters second k.second && enters third k.third)))) && by_two q by) r x
    ≡ noted ((array == k.array && (int_eq on k.on && (enters None k.first && (enters second k.second && enters third k.third)))) && by_two q by) r x
first_whole array on k second third q by r x =
    ap (λ t. noted ((array == k.array
    && (int_eq on k.on && (t && (enters second k.second && enters third k.third)))) && by_two q by) r x) (whole k.first)

pub first_number : (array : ℕ) (on : ℤ) (k : Key) (n : ℤ) (second third : Option ℤ) (q by : By) (r : Refusal) (x : Option Refusal) →
    noted ((array == k.array && (int_eq on k.on && (same_mark (mark.Number n) k.first && (enters second k.second && enters third k.third)))) && by_two q by) r
    (noted ((array == k.array && (int_eq on k.on && (same_mark mark.Any k.first && (enters second k.second && enters third k.third)))) && by_two q by) r x)
    ≡ noted ((array == k.array && (int_eq on k.on && (enters (Some n) k.first && (enters second k.second && enters third k.third)))) && by_two q by) r x
first_number array on k n second third q by r x =
    noted_twice _ _ r x
    ∙ ap (λ t. noted t r x) (first_either (array == k.array) (int_eq on k.on) (same_mark mark.Any k.first) (same_mark (mark.Number n) k.first)
    (enters second k.second) (enters third k.third) (by_two q by))
    ∙ ap (λ t. noted ((array == k.array
    && (int_eq on k.on && (t && (enters second k.second && enters third k.third)))) && by_two q by) r x) (number n k.first)

pub first_none : (key k : Key) (array : ℕ) (s : Spot) (q : By) (r : Refusal) (x y : Option Refusal) →
    key ≡ record { array = array; on = s.on; first = mark.Whole; second = mark.Whole; third = mark.Whole } →
    is_none s.subscripts.first ≡ true → y ≡ noted (enters_second key s.subscripts k && by_two q s.by) r x →
    y ≡ noted (enters_first array s k && by_two q s.by) r x
first_none key k array s q r x y e nothing h =
    let none = is_nothing s.subscripts.first nothing in
    h ∙ (ap (λ l. noted (enters_second l s.subscripts k && by_two q s.by) r x) e
    ∙ (first_whole array s.on k s.subscripts.second s.subscripts.third q s.by r x
    ∙ ap (λ t. noted (enters_first array (record s { subscripts = record s.subscripts { first = t } }) k && by_two q s.by) r x) (sym none)))

pub first_some : (key k1 k2 k : Key) (array : ℕ) (s : Spot) (q : By) (r : Refusal) (x y z : Option Refusal) →
    key ≡ record { array = array; on = s.on; first = mark.Whole; second = mark.Whole; third = mark.Whole } →
    k1 ≡ record key { first = mark.Any } → k2 ≡ record key { first = number_mark s.subscripts.first } → is_none s.subscripts.first ≡ false →
    y ≡ noted (enters_second k1 s.subscripts k && by_two q s.by) r x →
    z ≡ noted (enters_second k2 s.subscripts k && by_two q s.by) r y →
    z ≡ noted (enters_first array s k && by_two q s.by) r x
first_some key k1 k2 k array s q r x y z m e found has g h =
    let w = some_number s.subscripts.first has in
    let n = w.0 in
    let some = w.1 in
    let f = found ∙ ap (λ t. record key { first = number_mark t }) some in
    h ∙ (ap (λ l. noted (enters_second l s.subscripts k && by_two q s.by) r y) (f ∙ ap (λ (l : Key). record l { first = mark.Number n }) m)
    ∙ (ap (λ w. noted (enters_second (record { array = array; on = s.on; first = mark.Number n; second = mark.Whole; third = mark.Whole }) s.subscripts k && by_two q s.by) r w)
    (g ∙ ap (λ l. noted (enters_second l s.subscripts k && by_two q s.by) r x) (e ∙ ap (λ (l : Key). record l { first = mark.Any }) m))
    ∙ (first_number array s.on k n s.subscripts.second s.subscripts.third q s.by r x
    ∙ ap (λ t. noted (enters_first array (record s { subscripts = record s.subscripts { first = t } }) k && by_two q s.by) r x) (sym some))))

-- ---- spots

pub spots_more : (test : Spot → Bool) (xs : List Spot) (s : Spot) (r : Refusal) (x y z : Option Refusal) →
    y ≡ noted (list_any test xs) r x → z ≡ noted (test s) r y → z ≡ noted (list_any test (xs ++ s ∷ [])) r x
spots_more test xs s r x y z h k =
    k ∙ ap (noted (test s) r) h ∙ noted_twice (list_any test xs) (test s) r x
    ∙ ap (λ t. noted t r x) (ap (λ t. list_any test xs || t) (sym (or_none (test s))) ∙ sym (list_any-append test xs (s ∷ [])))
  where
    or_none : (b : Bool) → (b || false) ≡ b
    or_none true = refl
    or_none false = refl

-- ---- a dimension with a number

pub number_there : (o : Option ℤ) (b : Bool) → is_some o ≡ not b → b ≡ false → is_none o ≡ false
number_there None b e f = absurd (false≢true (e ∙ ap not f))
number_there (Some n) b e f = refl
