-- What is asked finds the first access that clashes.
use Rattle.std.proofs.Common.{◌≡◌, ℕ, ◌==◌, Bool, true, false, ◌&&◌, ◌||◌, List, [], ◌∷◌, ◌++◌, ◌⊎◌, inl, inr, ℤ, Option, Some, None, fold, filter, refl, sym, ap, ◌∙◌, subst, if◌then◌else◌, ⊎_elim, ◌↔◌, arith}
use Rattle.std.proofs.lemmas.Bool.Decides.{nat_tests}
use Rattle.xmp_spots.proofs.EnteringLaws.{last_either, middle_either, first_either}
use Rattle.std.specs.List.{list_any}
use Rattle.std.specs.Ordering.{int_eq}
use Rattle.std.proofs.lemmas.Bool.{false≢true, true≢false, or_cases, eqb-true}
use Rattle.xmp_paths.proofs.PathLaws.{or_left, or_right}
use Rattle.std.proofs.lemmas.Cmp.{int_eq_equiv}
use Rattle.xmp_base.specs.declared.refusal.Refusal.{Refusal}
use Rattle.xmp_base.specs.First.{comes_first, IsFirst, first_of}
use Rattle.xmp_base.proofs.FirstLaws.{comes_first-refl, first_or, first_same}
use Rattle.xmp_spots.specs.declared.touches.By.{By}
use Rattle.xmp_spots.specs.declared.touches.Subscripts.{Subscripts}
use Rattle.xmp_spots.specs.declared.touches.Spot.{Spot}
use Rattle.xmp_spots.specs.declared.touches.Touch.{Touch}
use Rattle.xmp_spots.specs.declared.keys.Mark.{Mark}
use Rattle.xmp_spots.specs.declared.keys.Mark.TheVariants as mark
use Rattle.xmp_spots.specs.declared.keys.Key.{Key}
use Rattle.xmp_spots.specs.declared.table.Table.{Table}
use Rattle.xmp_spots.specs.Clashes.{by_two, may_agree, may_be_one, spots_clash, clash}
use Rattle.xmp_spots.specs.Nearest.{noted}
use Rattle.xmp_spots.specs.Marks.{asked_mark}
use Rattle.xmp_spots.specs.Tables.{found}
use Rattle.xmp_spots.specs.Entering.{enters, enters_first, entered}
use Rattle.xmp_spots.specs.Asking.{over, asked_spot, asked_spots}
use Rattle.xmp_spots.specs.Races.{refused, IsAtOne, ClashesWith}
use Rattle.xmp_spots.specs.Sets.{first_found, Finds}

pub over_as : (number : Option ℤ) (at_mark : Mark → Option Refusal) (x y z : Option Refusal) →
    x ≡ at_mark mark.Whole → y ≡ at_mark (asked_mark number) → z ≡ first_of x y → z ≡ over number at_mark
over_as number at_mark x y z e f h = h ∙ (λ i. first_of (e i) (f i))

-- ---- the first among the accesses that pass a test

alone : (a : Refusal) → IsFirst (λ r. a ≡ r) (Some a)
alone a = (refl, λ r e. subst (λ x. comes_first a x ≡ true) e (comes_first-refl a))

one_more : (P : Refusal → Type 0) (x : Option Refusal) (a : Refusal) (b : Bool) → IsFirst P x →
    IsFirst (λ r. P r ⊎ ((b ≡ true) × (a ≡ r))) (noted b a x)
one_more P x a true h =
    first_same (λ r. P r ⊎ (a ≡ r)) (λ r. P r ⊎ ((true ≡ true) × (a ≡ r)))
    (λ r. (λ s. ⊎_elim inl (λ e. inr (refl, e)) s, λ s. ⊎_elim inl (λ e. inr e.1) s))
    (first_of x (Some a)) (first_or P (λ r. a ≡ r) x (Some a) h (alone a))
one_more P x a false h =
    first_same P (λ r. P r ⊎ ((false ≡ true) × (a ≡ r)))
    (λ r. (inl, λ s. ⊎_elim (λ p. p) (λ e. absurd (false≢true e.0)) s)) x h

first_among_from : (test : Touch → Bool) (ts : List Touch) (P : Refusal → Type 0) (x : Option Refusal) → IsFirst P x →
    IsFirst (λ r. P r ⊎ IsAtOne test ts r) (fold (λ y t. noted (test t) (refused t) y) x ts)
first_among_from test [] P x h = first_same P (λ r. P r ⊎ ⊥) (λ r. (inl, λ s. ⊎_elim (λ p. p) (λ e. absurd e) s)) x h
first_among_from test (t ∷ ts) P x h =
    first_same (λ r. (P r ⊎ ((test t ≡ true) × (refused t ≡ r))) ⊎ IsAtOne test ts r) (λ r. P r ⊎ IsAtOne test (t ∷ ts) r)
    (λ r. (
      λ s. ⊎_elim (λ p. ⊎_elim inl (λ q. inr (inl q)) p) (λ q. inr (inr q)) s,
      λ s. ⊎_elim (λ p. inl (inl p)) (λ q. ⊎_elim (λ v. inl (inr v)) inr q) s,
    ))
    (fold (λ y t. noted (test t) (refused t) y) x (t ∷ ts))
    (first_among_from test ts (λ r. P r ⊎ ((test t ≡ true) × (refused t ≡ r))) (noted (test t) (refused t) x)
    (one_more P x (refused t) (test t) h))

first_among : (test : Touch → Bool) (ts : List Touch) → IsFirst (IsAtOne test ts) (fold (λ y t. noted (test t) (refused t) y) None ts)
first_among test ts =
    first_same (λ r. ⊥ ⊎ IsAtOne test ts r) (IsAtOne test ts) (λ r. (λ s. ⊎_elim (λ e. absurd e) (λ p. p) s, inr))
    (fold (λ y t. noted (test t) (refused t) y) None ts)
    (first_among_from test ts (λ r. ⊥) None (λ r e. e))

-- ---- tests in turn

among_forth : (f g : Touch → Bool) (ts : List Touch) (r : Refusal) → IsAtOne f ts r ⊎ IsAtOne g ts r → IsAtOne (λ t. f t || g t) ts r
among_forth f g [] r h = ⊎_elim (λ e. e) (λ e. e) h
among_forth f g (t ∷ ts) r h =
    ⊎_elim
    (λ s. ⊎_elim (λ e. inl (or_left (f t) (g t) e.0, e.1)) (λ e. inr (among_forth f g ts r (inl e))) s)
    (λ s. ⊎_elim (λ e. inl (or_right (f t) (g t) e.0, e.1)) (λ e. inr (among_forth f g ts r (inr e))) s)
    h

among_back : (f g : Touch → Bool) (ts : List Touch) (r : Refusal) → IsAtOne (λ t. f t || g t) ts r → IsAtOne f ts r ⊎ IsAtOne g ts r
among_back f g [] r h = absurd h
among_back f g (t ∷ ts) r h =
    ⊎_elim
    (λ e. ⊎_elim (λ a. inl (inl (a, e.1))) (λ b. inr (inl (b, e.1))) (or_cases (f t) (g t) e.0))
    (λ e. ⊎_elim (λ a. inl (inr a)) (λ b. inr (inr b)) (among_back f g ts r e))
    h

either_first : (f g : Touch → Bool) (ts : List Touch) (x y : Option Refusal) → IsFirst (IsAtOne f ts) x → IsFirst (IsAtOne g ts) y →
    IsFirst (IsAtOne (λ t. f t || g t) ts) (first_of x y)
either_first f g ts x y h k =
    first_same (λ r. IsAtOne f ts r ⊎ IsAtOne g ts r) (IsAtOne (λ t. f t || g t) ts)
    (λ r. (among_forth f g ts r, among_back f g ts r)) (first_of x y) (first_or (IsAtOne f ts) (IsAtOne g ts) x y h k)

alike : (f g : Touch → Bool) (ts : List Touch) (x : Option Refusal) → ((t : Touch) → f t ≡ g t) → IsFirst (IsAtOne f ts) x → IsFirst (IsAtOne g ts) x
alike f g ts x e h = subst (λ (test : Touch → Bool). IsFirst (IsAtOne test ts) x) (λ i t. e t i) h

-- ---- the marks of a dimension

abbrev over_test : Option ℤ → (Mark → Bool) → Bool
over_test number test = test mark.Whole || test (asked_mark number)

over_first : (number : Option ℤ) (test : Mark → Touch → Bool) (ts : List Touch) (f : Mark → Option Refusal) →
    ((m : Mark) → IsFirst (IsAtOne (test m) ts) (f m)) → IsFirst (IsAtOne (λ t. over_test number (λ m. test m t)) ts) (over number f)
over_first number test ts f h =
    either_first (test mark.Whole) (test (asked_mark number)) ts (f mark.Whole) (f (asked_mark number)) (h mark.Whole) (h (asked_mark number))

int_eq_swap : (a b : ℤ) → int_eq a b ≡ int_eq b a
int_eq_swap a b = int_eq_equiv.symm a b

pub nat_eq_swap : (a b : ℕ) → (a == b) ≡ (b == a)
nat_eq_swap a b = grind (arith, nat_tests)

asked : (here there : Option ℤ) → over_test here (λ m. enters there m) ≡ may_agree here there
asked None None = refl
asked None (Some m) = refl
asked (Some n) None = refl
asked (Some n) (Some m) = int_eq_swap m n

-- ---- spots against spots

arranged : (a b m d : Bool) → ((a && (b && m)) && d) ≡ (a && (d && (b && m)))
arranged false b m d = refl
arranged true false m true = refl
arranged true false m false = refl
arranged true true true true = refl
arranged true true true false = refl
arranged true true false true = refl
arranged true true false false = refl

module _ (array : ℕ) (s : Spot) (other : ℕ) (o : Spot) where
  abbrev same_array : Bool
  same_array = other == array

  abbrev same_image : Bool
  same_image = int_eq o.on s.on

  abbrev agree_second : Bool
  agree_second = may_agree s.subscripts.second o.subscripts.second

  abbrev agree_third : Bool
  agree_third = may_agree s.subscripts.third o.subscripts.third

  thirds : (a b : Mark) → over_test s.subscripts.third (λ c.
      enters_first other o (record { array = array; on = s.on; first = a; second = b; third = c }) && by_two s.by o.by)
      ≡ ((same_array && (same_image && (enters o.subscripts.first a && (enters o.subscripts.second b && agree_third)))) && by_two s.by o.by)
  thirds a b =
      last_either same_array same_image (enters o.subscripts.first a) (enters o.subscripts.second b)
      (enters o.subscripts.third mark.Whole) (enters o.subscripts.third (asked_mark s.subscripts.third)) (by_two s.by o.by)
      ∙ ap (λ m. (same_array && (same_image && (enters o.subscripts.first a && (enters o.subscripts.second b && m)))) && by_two s.by o.by)
      (asked s.subscripts.third o.subscripts.third)

  seconds : (a : Mark) → over_test s.subscripts.second (λ b.
      (same_array && (same_image && (enters o.subscripts.first a && (enters o.subscripts.second b && agree_third)))) && by_two s.by o.by)
      ≡ ((same_array && (same_image && (enters o.subscripts.first a && (agree_second && agree_third)))) && by_two s.by o.by)
  seconds a =
      middle_either same_array same_image (enters o.subscripts.first a)
      (enters o.subscripts.second mark.Whole) (enters o.subscripts.second (asked_mark s.subscripts.second)) agree_third (by_two s.by o.by)
      ∙ ap (λ m. (same_array && (same_image && (enters o.subscripts.first a && (m && agree_third)))) && by_two s.by o.by)
      (asked s.subscripts.second o.subscripts.second)

  firsts : over_test s.subscripts.first (λ a.
      (same_array && (same_image && (enters o.subscripts.first a && (agree_second && agree_third)))) && by_two s.by o.by)
      ≡ ((same_array && (same_image && may_be_one s.subscripts o.subscripts)) && by_two s.by o.by)
  firsts =
      first_either same_array same_image
      (enters o.subscripts.first mark.Whole) (enters o.subscripts.first (asked_mark s.subscripts.first)) agree_second agree_third (by_two s.by o.by)
      ∙ ap (λ m. (same_array && (same_image && (m && (agree_second && agree_third)))) && by_two s.by o.by)
      (asked s.subscripts.first o.subscripts.first)

  spot_asked :
      over_test s.subscripts.first (λ a. over_test s.subscripts.second (λ b. over_test s.subscripts.third (λ c.
      enters_first other o (record { array = array; on = s.on; first = a; second = b; third = c }) && by_two s.by o.by)))
      ≡ (array == other && spots_clash s o)
  spot_asked =
      (λ i. over_test s.subscripts.first (λ a. over_test s.subscripts.second (λ b. thirds a b i)))
      ∙ ((λ i. over_test s.subscripts.first (λ a. seconds a i))
      ∙ (firsts
      ∙ (arranged same_array same_image (may_be_one s.subscripts o.subscripts) (by_two s.by o.by)
      ∙ (λ i. nat_eq_swap other array i
      && (by_two s.by o.by && (int_eq_swap o.on s.on i && may_be_one s.subscripts o.subscripts))))))

swap_or : (a b c d : Bool) → ((a || b) || (c || d)) ≡ ((a || c) || (b || d))
swap_or true b c d = refl
swap_or false true true d = refl
swap_or false true false d = refl
swap_or false false true d = refl
swap_or false false false d = refl

over_or : (number : Option ℤ) (f g : Mark → Bool) → over_test number (λ m. f m || g m) ≡ (over_test number f || over_test number g)
over_or number f g = swap_or (f mark.Whole) (g mark.Whole) (f (asked_mark number)) (g (asked_mark number))

and_false : (a : Bool) → (a && false) ≡ false
and_false true = refl
and_false false = refl

both_or : (a p q : Bool) → (a && p || a && q) ≡ (a && (p || q))
both_or true p q = refl
both_or false p q = refl

spots_asked : (array : ℕ) (s : Spot) (other : ℕ) (others : List Spot) →
    over_test s.subscripts.first (λ a. over_test s.subscripts.second (λ b. over_test s.subscripts.third (λ c.
    entered other others (record { array = array; on = s.on; first = a; second = b; third = c }) s.by)))
    ≡ (array == other && list_any (spots_clash s) others)
spots_asked array s other [] = sym (and_false (array == other))
spots_asked array s other (o ∷ others) =
    let one = λ (a b c : Mark). enters_first other o (record { array = array; on = s.on; first = a; second = b; third = c }) && by_two s.by o.by in
    let rest = λ (a b c : Mark). entered other others (record { array = array; on = s.on; first = a; second = b; third = c }) s.by in
    (λ i. over_test s.subscripts.first (λ a. over_test s.subscripts.second (λ b. over_or s.subscripts.third (one a b) (rest a b) i)))
    ∙ ((λ i. over_test s.subscripts.first (λ a. over_or s.subscripts.second
    (λ b. over_test s.subscripts.third (one a b)) (λ b. over_test s.subscripts.third (rest a b)) i))
    ∙ (over_or s.subscripts.first
    (λ a. over_test s.subscripts.second (λ b. over_test s.subscripts.third (one a b)))
    (λ a. over_test s.subscripts.second (λ b. over_test s.subscripts.third (rest a b)))
    ∙ ((λ i. spot_asked array s other o i || spots_asked array s other others i)
    ∙ both_or (array == other) (spots_clash s o) (list_any (spots_clash s) others))))

-- ---- all spots of an access

or_none : (a : Bool) → (a || false) ≡ a
or_none true = refl
or_none false = refl

or_next : (a b c : Bool) → ((a || b) || c) ≡ (a || (b || c))
or_next true b c = refl
or_next false b c = refl

spot_first : (table : Table) (ts : List Touch) (array : ℕ) (s : Spot) → Finds table ts →
    IsFirst (IsAtOne (λ t. array == t.array && list_any (spots_clash s) t.spots) ts) (asked_spot table array s)
spot_first table ts array s h =
    alike
    (λ t. over_test s.subscripts.first (λ a. over_test s.subscripts.second (λ b. over_test s.subscripts.third (λ c.
    entered t.array t.spots (record { array = array; on = s.on; first = a; second = b; third = c }) s.by))))
    (λ t. array == t.array && list_any (spots_clash s) t.spots) ts (asked_spot table array s)
    (λ t. spots_asked array s t.array t.spots)
    (over_first s.subscripts.first
    (λ a t. over_test s.subscripts.second (λ b. over_test s.subscripts.third (λ c.
    entered t.array t.spots (record { array = array; on = s.on; first = a; second = b; third = c }) s.by))) ts
    (λ a. over s.subscripts.second (λ b. over s.subscripts.third (λ c.
    found table (record { array = array; on = s.on; first = a; second = b; third = c }) s.by)))
    (λ a. over_first s.subscripts.second
    (λ b t. over_test s.subscripts.third (λ c.
    entered t.array t.spots (record { array = array; on = s.on; first = a; second = b; third = c }) s.by)) ts
    (λ b. over s.subscripts.third (λ c. found table (record { array = array; on = s.on; first = a; second = b; third = c }) s.by))
    (λ b. over_first s.subscripts.third
    (λ c t. entered t.array t.spots (record { array = array; on = s.on; first = a; second = b; third = c }) s.by) ts
    (λ c. found table (record { array = array; on = s.on; first = a; second = b; third = c }) s.by)
    (λ c. subst (IsFirst (IsAtOne (λ t. entered t.array t.spots (record { array = array; on = s.on; first = a; second = b; third = c }) s.by) ts))
    (sym (h (record { array = array; on = s.on; first = a; second = b; third = c }) s.by))
    (first_among (λ t. entered t.array t.spots (record { array = array; on = s.on; first = a; second = b; third = c }) s.by) ts)))))

spots_first_from : (table : Table) (ts : List Touch) (array : ℕ) (spots : List Spot) (f : Touch → Bool) (x : Option Refusal) → Finds table ts →
    IsFirst (IsAtOne f ts) x →
    IsFirst (IsAtOne (λ t. f t || list_any (λ s. array == t.array && list_any (spots_clash s) t.spots) spots) ts)
    (fold (λ y s. first_of y (asked_spot table array s)) x spots)
spots_first_from table ts array [] f x h k = alike f (λ t. f t || false) ts x (λ t. sym (or_none (f t))) k
spots_first_from table ts array (s ∷ spots) f x h k =
    alike
    (λ t. (f t || array == t.array && list_any (spots_clash s) t.spots) || list_any (λ s. array == t.array && list_any (spots_clash s) t.spots) spots)
    (λ t. f t || list_any (λ s. array == t.array && list_any (spots_clash s) t.spots) (s ∷ spots)) ts
    (fold (λ y s. first_of y (asked_spot table array s)) x (s ∷ spots))
    (λ t. or_next (f t) (array == t.array && list_any (spots_clash s) t.spots) (list_any (λ s. array == t.array && list_any (spots_clash s) t.spots) spots))
    (spots_first_from table ts array spots (λ t. f t || array == t.array && list_any (spots_clash s) t.spots) (first_of x (asked_spot table array s)) h
    (either_first f (λ t. array == t.array && list_any (spots_clash s) t.spots) ts x (asked_spot table array s) k (spot_first table ts array s h)))

none_passes : (ts : List Touch) (r : Refusal) → IsAtOne (λ t. false) ts r → ⊥
none_passes [] r h = h
none_passes (t ∷ ts) r h = ⊎_elim (λ e. false≢true e.0) (λ e. none_passes ts r e) h

pulled : (a : Bool) (f : Spot → Bool) (xs : List Spot) → list_any (λ s. a && f s) xs ≡ (a && list_any f xs)
pulled a f [] = sym (and_false a)
pulled a f (x ∷ xs) = ap (λ l. a && f x || l) (pulled a f xs) ∙ both_or a (f x) (list_any f xs)

-- what is asked for an access is the first that shares a cell with it
pub asked_first : (table : Table) (ts : List Touch) (array : ℕ) (spots : List Spot) → Finds table ts →
    IsFirst (IsAtOne (λ t. array == t.array && list_any (λ s. list_any (spots_clash s) t.spots) spots) ts) (asked_spots table array spots)
asked_first table ts array spots h =
    alike
    (λ t. list_any (λ s. array == t.array && list_any (spots_clash s) t.spots) spots)
    (λ t. array == t.array && list_any (λ s. list_any (spots_clash s) t.spots) spots) ts (asked_spots table array spots)
    (λ t. pulled (array == t.array) (λ s. list_any (spots_clash s) t.spots) spots)
    (spots_first_from table ts array spots (λ t. false) None h (none_passes ts))

-- ---- writers

writers_forth : (g : Touch → Bool) (ts : List Touch) (r : Refusal) → IsAtOne g (filter (λ t. t.writes) ts) r → IsAtOne (λ t. t.writes && g t) ts r
writers_forth g [] r h = h
writers_forth g (t ∷ ts) r h = case t.writes refl (λ k. writers_forth g ts r k) h
  where
    case : (b : Bool) → t.writes ≡ b → (IsAtOne g (filter (λ t. t.writes) ts) r → IsAtOne (λ t. t.writes && g t) ts r) →
        IsAtOne g (if b then t ∷ filter (λ t. t.writes) ts else filter (λ t. t.writes) ts) r → IsAtOne (λ t. t.writes && g t) (t ∷ ts) r
    case true e next k = ⊎_elim (λ w. inl (ap (λ b. b && g t) e ∙ w.0, w.1)) (λ w. inr (next w)) k
    case false e next k = inr (next k)

writers_back : (g : Touch → Bool) (ts : List Touch) (r : Refusal) → IsAtOne (λ t. t.writes && g t) ts r → IsAtOne g (filter (λ t. t.writes) ts) r
writers_back g [] r h = h
writers_back g (t ∷ ts) r h = case t.writes refl (λ k. writers_back g ts r k)
  where
    case : (b : Bool) → t.writes ≡ b → (IsAtOne (λ t. t.writes && g t) ts r → IsAtOne g (filter (λ t. t.writes) ts) r) →
        IsAtOne g (if b then t ∷ filter (λ t. t.writes) ts else filter (λ t. t.writes) ts) r
    case true e next = ⊎_elim (λ w. inl (sym (ap (λ b. b && g t) e) ∙ w.0, w.1)) (λ w. inr (next w)) h
    case false e next = ⊎_elim (λ w. absurd (false≢true (sym (ap (λ b. b && g t) e) ∙ w.0))) (λ w. next w) h

writer_first : (a w s : Bool) → (w && (a && s)) ≡ (a && (w && s))
writer_first true w s = refl
writer_first false true s = refl
writer_first false false s = refl

-- an access that writes may clash with any
pub asked_all : (table : Table) (x : Touch) (ts : List Touch) → Finds table ts → x.writes ≡ true →
    IsFirst (IsAtOne (clash x) ts) (asked_spots table x.array x.spots)
asked_all table x ts h e =
    alike (λ t. x.array == t.array && list_any (λ s. list_any (spots_clash s) t.spots) x.spots) (clash x) ts (asked_spots table x.array x.spots)
    (λ t. ap (λ w. x.array == t.array && ((w || t.writes) && list_any (λ s. list_any (spots_clash s) t.spots) x.spots)) (sym e))
    (asked_first table ts x.array x.spots h)

-- and one that reads with those that write
pub asked_writers : (table : Table) (x : Touch) (ts : List Touch) → Finds table (filter (λ t. t.writes) ts) → x.writes ≡ false →
    IsFirst (IsAtOne (clash x) ts) (asked_spots table x.array x.spots)
asked_writers table x ts h e =
    let g = λ (t : Touch). x.array == t.array && list_any (λ s. list_any (spots_clash s) t.spots) x.spots in
    alike (λ t. t.writes && g t) (clash x) ts (asked_spots table x.array x.spots)
    (λ t. writer_first (x.array == t.array) t.writes (list_any (λ s. list_any (spots_clash s) t.spots) x.spots)
    ∙ ap (λ w. x.array == t.array && ((w || t.writes) && list_any (λ s. list_any (spots_clash s) t.spots) x.spots)) (sym e))
    (first_same (IsAtOne g (filter (λ t. t.writes) ts)) (IsAtOne (λ t. t.writes && g t) ts)
    (λ r. (writers_forth g ts r, writers_back g ts r)) (asked_spots table x.array x.spots)
    (asked_first table (filter (λ t. t.writes) ts) x.array x.spots h))

-- ---- both places

clash_at : (x : Touch) (ts : List Touch) (r : Refusal) → ClashesWith x ts r → IsAtOne (clash x) ts r ⊎ (refused x ≡ r)
clash_at x [] r h = absurd h
clash_at x (t ∷ ts) r h =
    ⊎_elim
    (λ k. ⊎_elim (λ e. inr e) (λ e. inl (inl (k.0, e))) k.1)
    (λ k. ⊎_elim (λ e. inl (inr e)) (λ e. inr e) (clash_at x ts r k))
    h

at_clash : (x : Touch) (ts : List Touch) (r : Refusal) → IsAtOne (clash x) ts r → ClashesWith x ts r
at_clash x [] r h = absurd h
at_clash x (t ∷ ts) r h = ⊎_elim (λ k. inl (k.0, inr k.1)) (λ k. inr (at_clash x ts r k)) h

own_clash : (x : Touch) (ts : List Touch) (r s : Refusal) → IsAtOne (clash x) ts s → refused x ≡ r → ClashesWith x ts r
own_clash x [] r s h e = absurd h
own_clash x (t ∷ ts) r s h e = ⊎_elim (λ k. inl (k.0, inl e)) (λ k. inr (own_clash x ts r s k e)) h

clash_some : (x : Touch) (ts : List Touch) (r : Refusal) → ClashesWith x ts r → (s : Refusal) × IsAtOne (clash x) ts s
clash_some x [] r h = absurd h
clash_some x (t ∷ ts) r h = ⊎_elim (λ k. (refused t, inl (k.0, refl))) (λ k. let w = clash_some x ts r k in (w.0, inr w.1)) h

pub none_clashes : (x : Touch) (ts : List Touch) → IsFirst (IsAtOne (clash x) ts) None → IsFirst (ClashesWith x ts) None
none_clashes x ts h = λ r k. let w = clash_some x ts r k in h w.0 w.1

pub first_clash : (x : Touch) (ts : List Touch) (other own : Refusal) (found : Option Refusal) → IsFirst (IsAtOne (clash x) ts) (Some other) →
    own ≡ refused x → found ≡ first_of (Some other) (Some own) → IsFirst (ClashesWith x ts) found
first_clash x ts other own found h e f =
    subst (IsFirst (ClashesWith x ts)) (sym (f ∙ ap (λ o. first_of (Some other) (Some o)) e))
    (first_same (λ r. IsAtOne (clash x) ts r ⊎ (refused x ≡ r)) (ClashesWith x ts)
    (λ r. (λ k. ⊎_elim (λ s. at_clash x ts r s) (λ s. own_clash x ts r other h.0 s) k, clash_at x ts r))
    (first_of (Some other) (Some (refused x)))
    (first_or (IsAtOne (clash x) ts) (λ r. refused x ≡ r) (Some other) (Some (refused x)) h (alone (refused x))))
