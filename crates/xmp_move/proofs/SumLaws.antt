-- Sums of two and three lists, a piece at a time.
use Rattle.std.proofs.Common.{◌≡◌, ℕ, zero, suc, ◌+◌, ◌<◌, ◌≤◌, List, [], ◌∷◌, ◌++◌, refl, sym, ◌∙◌, ap, arith, length, map, take, get_or, append_assoc}
use Rattle.std.specs.Prelude.{All}
use Rattle.std.specs.List.{flat_map}
use Rattle.std.proofs.lemmas.Grind.{flat_map-append}
use Rattle.std.proofs.lemmas.List.Elements.{All-nil, All-cons, All-head, All-tail}
use Rattle.std.proofs.lemmas.List.{map-append}
use Rattle.xmp_move.specs.Sums.{sums, pair_sums, three_sums}

pub take_one : (xs : List ℕ) (i : ℕ) → i < length xs → take (suc i) xs ≡ take i xs ++ get_or xs i 0 ∷ []
take_one [] i h = absurd (omega arith)
take_one (x ∷ xs) zero h = refl
take_one (x ∷ xs) (suc i) h = ap (λ r. x ∷ r) (take_one xs i (omega arith))

append_none : (xs : List ℕ) → xs ++ [] ≡ xs
append_none [] = refl
append_none (x ∷ xs) = ap (λ r. x ∷ r) (append_none xs)

pub flat_more : (f : ℕ → List ℕ) (xs : List ℕ) (i : ℕ) → i < length xs → flat_map f (take (i + 1) xs) ≡ flat_map f (take i xs) ++ f (get_or xs i 0)
flat_more f xs i h =
    let e : i + 1 ≡ suc i = omega arith in
    rw e (ap (flat_map f) (take_one xs i h) ∙ flat_map-append f (take i xs) (get_or xs i 0 ∷ []) ∙ ap (λ r. flat_map f (take i xs) ++ r) (append_none (f (get_or xs i 0))))

all_left : (P : ℕ → Type 0) (xs ys : List ℕ) → All P (xs ++ ys) → All P xs
all_left P [] ys h = All-nil P
all_left P (x ∷ xs) ys h = All-cons P x xs (All-head P x (xs ++ ys) h) (all_left P xs ys (All-tail P x (xs ++ ys) h))

all_right : (P : ℕ → Type 0) (xs ys : List ℕ) → All P (xs ++ ys) → All P ys
all_right P [] ys h = h
all_right P (x ∷ xs) ys h = all_right P xs ys (All-tail P x (xs ++ ys) h)

pub all_piece : (P : ℕ → Type 0) (f : ℕ → List ℕ) (xs : List ℕ) (i : ℕ) → i < length xs → All P (flat_map f xs) → All P (f (get_or xs i 0))
all_piece P f [] i lt h = absurd (omega arith)
all_piece P f (x ∷ xs) zero lt h = all_left P (f x) (flat_map f xs) h
all_piece P f (x ∷ xs) (suc i) lt h = all_piece P f xs i (omega arith) (all_right P (f x) (flat_map f xs) h)

pub all_unmap : (P : ℕ → Type 0) (f : ℕ → ℕ) (xs : List ℕ) → All P (map f xs) → All (λ x. P (f x)) xs
all_unmap P f [] h = All-nil (λ x. P (f x))
all_unmap P f (x ∷ xs) h = All-cons (λ x. P (f x)) x xs (All-head P (f x) (map f xs) h) (all_unmap P f xs (All-tail P (f x) (map f xs) h))

pub map_map : (f g : ℕ → ℕ) (xs : List ℕ) → map g (map f xs) ≡ map (λ x. g (f x)) xs
map_map f g [] = refl
map_map f g (x ∷ xs) = ap (λ r. g (f x) ∷ r) (map_map f g xs)

-- one more row
pub pair_more : (g : ℕ → ℕ) (out : List ℕ) (ys zs : List ℕ) (i : ℕ) → i < length ys →
    (out ++ map g (pair_sums (take i ys) zs)) ++ map (λ z. g (get_or ys i 0 + z)) zs ≡ out ++ map g (pair_sums (take (i + 1) ys) zs)
unfolding pair_sums
pair_more g out ys zs i h =
    append_assoc out (map g (pair_sums (take i ys) zs)) (map (λ z. g (get_or ys i 0 + z)) zs)
    ∙ ap (λ r. out ++ r)
    (ap (λ r. map g (pair_sums (take i ys) zs) ++ r) (sym (map_map (λ z. get_or ys i 0 + z) g zs))
    ∙ sym (map-append g (pair_sums (take i ys) zs) (map (λ z. get_or ys i 0 + z) zs))
    ∙ ap (map g) (sym (flat_more (λ y. map (λ z. y + z) zs) ys i h)))

pub three_more : (g : ℕ → ℕ) (xs ys zs : List ℕ) (i : ℕ) → i < length xs →
    map g (three_sums (take i xs) ys zs) ++ map (λ r. g (get_or xs i 0 + r)) (pair_sums ys zs) ≡ map g (three_sums (take (i + 1) xs) ys zs)
unfolding three_sums
three_more g xs ys zs i h =
    ap (λ r. map g (three_sums (take i xs) ys zs) ++ r) (sym (map_map (λ r. get_or xs i 0 + r) g (pair_sums ys zs)))
    ∙ sym (map-append g (three_sums (take i xs) ys zs) (map (λ r. get_or xs i 0 + r) (pair_sums ys zs)))
    ∙ ap (map g) (sym (flat_more (λ x. map (λ r. x + r) (pair_sums ys zs)) xs i h))

pub pair_within : (P : ℕ → Type 0) (ys zs : List ℕ) (i : ℕ) → i < length ys → All P (pair_sums ys zs) → All (λ z. P (get_or ys i 0 + z)) zs
unfolding pair_sums
pair_within P ys zs i lt h = all_unmap P (λ z. get_or ys i 0 + z) zs (all_piece P (λ y. map (λ z. y + z) zs) ys i lt h)

pub three_within : (P : ℕ → Type 0) (xs ys zs : List ℕ) (i : ℕ) → i < length xs → All P (three_sums xs ys zs) → All (λ r. P (get_or xs i 0 + r)) (pair_sums ys zs)
unfolding three_sums
three_within P xs ys zs i lt h = all_unmap P (λ r. get_or xs i 0 + r) (pair_sums ys zs) (all_piece P (λ x. map (λ r. x + r) (pair_sums ys zs)) xs i lt h)

zeros : (xs : List ℕ) → flat_map (λ z. map (λ r. z + r) (0 ∷ [])) xs ≡ xs
zeros [] = refl
zeros (x ∷ xs) = let e : x + 0 ≡ x = omega arith in rw e (ap (λ r. x ∷ r) (zeros xs))

-- three lists are the general case's
pub three_are : (xs ys zs : List ℕ) → sums (xs ∷ ys ∷ zs ∷ []) ≡ three_sums xs ys zs
unfolding sums three_sums pair_sums
three_are xs ys zs = ap (λ zs. flat_map (λ x. map (λ r. x + r) (flat_map (λ y. map (λ z. y + z) zs) ys)) xs) (zeros zs)

pub pair_none : (g : ℕ → ℕ) (out ys zs : List ℕ) → out ≡ out ++ map g (pair_sums (take 0 ys) zs)
unfolding pair_sums
pair_none g out ys zs = sym (append_none out)

pub pair_all : (ys : List ℕ) (i : ℕ) → i ≡ length ys → take i ys ≡ ys
pair_all ys i h = rw h (take_length ys)
  where
    take_length : (ys : List ℕ) → take (length ys) ys ≡ ys
    take_length [] = refl
    take_length (y ∷ ys) = ap (λ r. y ∷ r) (take_length ys)

pub three_none : (g : ℕ → ℕ) (xs ys zs : List ℕ) → [] ≡ map g (three_sums (take 0 xs) ys zs)
unfolding three_sums
three_none g xs ys zs = refl
