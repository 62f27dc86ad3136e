-- Scalars that are set in order, some to a value and some not.
use Rattle.std.proofs.Common.{◌≡◌, ◌≢◌, ℕ, zero, suc, ℤ, List, [], ◌∷◌, length, map, Option, Some, None, refl, sym, ap, ◌∙◌, arith}
use Rattle.std.specs.Prelude.{slice_get, slice_set}
use Rattle.std.specs.List.{AllByRecursion}
use Rattle.std.proofs.lemmas.List.{length-set, set-set, set_comm}
use Rattle.xmp_meaning.proofs.Stays.{set_other}
use Rattle.xmp_meaning_laws.specs.Tuples.{later, set_some, set_where}

-- a scalar is none of these
abbrev pub Fresh : ℕ → List ℕ → Type 0
Fresh i slots = AllByRecursion (λ n. i ≢ n) slots

-- no scalar stands twice
abbrev pub Apart : List ℕ → Type 0
Apart [] = Unit {0}
Apart (i ∷ slots) = Fresh i slots × Apart slots

-- what is set where a value is given, may be set before or after another scalar
pub some_swaps : (xs : List ℤ) (i j : ℕ) (o : Option ℤ) (v : ℤ) → i ≢ j → set_some (slice_set xs i v) j o ≡ slice_set (set_some xs j o) i v
some_swaps xs i j None v ne = refl
some_swaps xs i j (Some w) v ne = set_comm xs i j v w ne

pub where_swaps : (slots : List ℕ) (os : List (Option ℤ)) (xs : List ℤ) (i : ℕ) (v : ℤ) → Fresh i slots
    → set_where slots os (slice_set xs i v) ≡ slice_set (set_where slots os xs) i v
where_swaps [] os xs i v f = refl
where_swaps (j ∷ slots) [] xs i v f = refl
where_swaps (j ∷ slots) (o ∷ os) xs i v f =
    ap (set_where slots os) (some_swaps xs i j o v f.0) ∙ where_swaps slots os (set_some xs j o) i v f.1

pub some_twice : (xs : List ℤ) (i : ℕ) (o : Option ℤ) (v : ℤ) → slice_set (set_some xs i o) i v ≡ slice_set xs i v
some_twice xs i None v = refl
some_twice xs i (Some w) v = set-set xs i w v

-- two settings, one after the other
pub set_later : (slots : List ℕ) (a b : List (Option ℤ)) (xs : List ℤ) → Apart slots
    → set_where slots b (set_where slots a xs) ≡ set_where slots (later a b) xs
set_later [] a b xs f = refl
set_later (i ∷ slots) [] b xs f = refl
set_later (i ∷ slots) (o ∷ a) [] xs f = refl
set_later (i ∷ slots) (o ∷ a) (None ∷ b) xs f = set_later slots a b (set_some xs i o) f.1
set_later (i ∷ slots) (o ∷ a) (Some v ∷ b) xs f =
    ap (set_where slots b) (sym (where_swaps slots a (set_some xs i o) i v f.0))
    ∙ set_later slots a b (slice_set (set_some xs i o) i v) f.1
    ∙ ap (set_where slots (later a b)) (some_twice xs i o v)

-- a setting by which it is of no account what was set before
abbrev pub Overrides : List ℕ → List (Option ℤ) → Type 0
Overrides slots os = (a : List (Option ℤ)) (xs : List ℤ) → set_where slots os (set_where slots a xs) ≡ set_where slots os xs

pub first_overrides : (i : ℕ) (slots : List ℕ) (v : ℤ) (os : List (Option ℤ)) → Fresh i slots → Overrides slots os → Overrides (i ∷ slots) (Some v ∷ os)
first_overrides i slots v os f over [] xs = refl
first_overrides i slots v os f over (o ∷ a) xs =
    ap (set_where slots os) (sym (where_swaps slots a (set_some xs i o) i v f))
    ∙ over a (slice_set (set_some xs i o) i v)
    ∙ ap (set_where slots os) (some_twice xs i o v)

pub tuple_overrides : (slots : List ℕ) (vs : List ℤ) → Apart slots → length vs ≡ length slots → Overrides slots (map Some vs)
tuple_overrides [] vs f l a xs = refl
tuple_overrides (i ∷ slots) [] f l a xs = absurd (omega (arith, l))
tuple_overrides (i ∷ slots) (v ∷ vs) f l a xs =
    first_overrides i slots v (map Some vs) f.0 (tuple_overrides slots vs f.1 (let m : length vs ≡ length slots = omega (arith, l) in m)) a xs

pub earlier_overrides : (slots : List ℕ) (a b : List (Option ℤ)) → Apart slots → Overrides slots a → Overrides slots (later a b)
earlier_overrides slots a b f over c xs =
    sym (set_later slots a b (set_where slots c xs) f) ∙ ap (set_where slots b) (over c xs) ∙ set_later slots a b xs f

pub later_overrides : (slots : List ℕ) (a b : List (Option ℤ)) → Apart slots → Overrides slots b → Overrides slots (later a b)
later_overrides slots a b f over c xs =
    sym (set_later slots a b (set_where slots c xs) f)
    ∙ over a (set_where slots c xs)
    ∙ over c xs
    ∙ sym (over a xs)
    ∙ set_later slots a b xs f

-- ---- what is left as it was

pub where_none : (slots : List ℕ) (xs : List ℤ) → set_where slots [] xs ≡ xs
where_none [] xs = refl
where_none (i ∷ slots) xs = refl

pub some_other : (xs : List ℤ) (i j : ℕ) (o : Option ℤ) → i ≢ j → slice_get (set_some xs i o) j ≡ slice_get xs j
some_other xs i j None ne = refl
some_other xs i j (Some v) ne = set_other xs i j v ne

pub where_other : (slots : List ℕ) (os : List (Option ℤ)) (xs : List ℤ) (j : ℕ) → AllByRecursion (λ n. n ≢ j) slots
    → slice_get (set_where slots os xs) j ≡ slice_get xs j
where_other [] os xs j f = refl
where_other (i ∷ slots) [] xs j f = refl
where_other (i ∷ slots) (o ∷ os) xs j f = where_other slots os (set_some xs i o) j f.1 ∙ some_other xs i j o f.0

pub some_length : (xs : List ℤ) (i : ℕ) (o : Option ℤ) → length (set_some xs i o) ≡ length xs
some_length xs i None = refl
some_length xs i (Some v) = length-set xs i v

pub where_length : (slots : List ℕ) (os : List (Option ℤ)) (xs : List ℤ) → length (set_where slots os xs) ≡ length xs
where_length [] os xs = refl
where_length (i ∷ slots) [] xs = refl
where_length (i ∷ slots) (o ∷ os) xs = where_length slots os (set_some xs i o) ∙ some_length xs i o

-- a scalar set to the value that it has
pub set_same : (xs : List ℤ) (i : ℕ) (v : ℤ) → slice_get xs i ≡ Some v → slice_set xs i v ≡ xs
set_same [] i v e = refl
set_same (x ∷ xs) zero v e = ap (λ y. y ∷ xs) (sym (some_is x v e))
  where
    some_is : (x v : ℤ) → Some x ≡ Some v → x ≡ v
    some_is x v e = cc
set_same (x ∷ xs) (suc i) v e = ap (λ ys. x ∷ ys) (set_same xs i v e)

pub fresh_flipped : (i : ℕ) (slots : List ℕ) → Fresh i slots → AllByRecursion (λ n. n ≢ i) slots
fresh_flipped i [] f = tt
fresh_flipped i (n ∷ slots) f = ((λ e. f.0 (sym e)), fresh_flipped i slots f.1)
