-- The slots due, gathered dimension by dimension, are those of the cells due.
use Rattle.std.proofs.Common.{◌≡◌, ℕ, zero, suc, ◌+◌, ◌*◌, ◌<◌, ◌≤◌, ◌⊎◌, inl, inr, Bool, true, false, List, [], ◌∷◌, ◌++◌, refl, sym, ◌∙◌, ap, arith, length, map, cond, zero-add}
use Rattle.std.specs.Prelude.{filter, ◌&&◌}
use Rattle.std.specs.List.{flat_map, range_with_len}
use Rattle.xmp_move.specs.declared.pick.Pick.{Pick}
use Rattle.xmp_move.specs.declared.pick.Pick.TheVariants.{Single, Section}
use Rattle.xmp_move.specs.Stores.{IsIn}
use Rattle.xmp_map.specs.Boxes.{all_pass}
use Rattle.xmp_move.specs.Cells.{indices}
use Rattle.xmp_move.specs.Sums.{total, sums, shares}
use Rattle.xmp_move.specs.Picks.{counts, cell_at, by_place, singles_pass, singles_total, picked_pairs}
use Rattle.xmp_move.specs.Sums.{both, filled_up, due_shares, due_slots}
use Rattle.xmp_move.proofs.Gathered.{gathered}
use Rattle.xmp_move.proofs.ByPlace.{pass_at, total_at, both_pass, filled_total}
use Rattle.xmp_move.proofs.Members.{map_twice, in_filter}
use Rattle.xmp_move.proofs.Boxes.{in_inside}
use Rattle.xmp_move.proofs.SidesKept.{inside_short}

pub indices_long : (ns : List ℕ) (x : List ℕ) → IsIn x (indices ns) → length x ≡ length ns
indices_long ns x i = inside_short x ns (in_inside x ns i)

pub filter_same : {A : Type 0} (t u : A → Bool) (xs : List A) → ((x : A) → IsIn x xs → t x ≡ u x) → filter t xs ≡ filter u xs
unfolding IsIn
filter_same t u [] h = refl
filter_same t u (x ∷ xs) h =
    ap (λ b. cond b (x ∷ filter t xs) (filter t xs)) (h x (inl refl)) ∙ ap (λ r. cond (u x) (x ∷ r) r) (filter_same t u xs (λ y i. h y (inr i)))

pub map_same : {A B : Type 0} (f g : A → B) (xs : List A) → ((x : A) → IsIn x xs → f x ≡ g x) → map f xs ≡ map g xs
unfolding IsIn
map_same f g [] h = refl
map_same f g (x ∷ xs) h = ap (λ y. y ∷ map f xs) (h x (inl refl)) ∙ ap (λ r. g x ∷ r) (map_same f g xs (λ y i. h y (inr i)))

pub filter_map_is : {A B : Type 0} (g : A → B) (t : B → Bool) (xs : List A) → filter t (map g xs) ≡ map g (filter (λ x. t (g x)) xs)
filter_map_is g t [] = refl
filter_map_is g t (x ∷ xs) = ap (λ r. cond (t (g x)) (g x ∷ r) r) (filter_map_is g t xs) ∙ push g x (filter (λ x. t (g x)) xs) (t (g x))
  where
    push : {A B : Type 0} (g : A → B) (x : A) (ys : List A) (b : Bool) → cond b (g x ∷ map g ys) (map g ys) ≡ map g (cond b (x ∷ ys) ys)
    push g x ys true = refl
    push g x ys false = refl

filter_none : {A : Type 0} (xs : List A) → filter (λ _. false) xs ≡ []
filter_none [] = refl
filter_none (x ∷ xs) = filter_none xs

map_filter_if : {A B : Type 0} (f : A → B) (c : Bool) (q : A → Bool) (xs : List A) → map f (filter (λ x. c && q x) xs) ≡ cond c (map f (filter q xs)) []
map_filter_if f true q xs = refl
map_filter_if f false q xs = ap (map f) (filter_none xs)

counts_le : (ps : List Pick) → length (counts ps) ≤ length ps
unfolding counts
counts_le [] = omega arith
counts_le (Single x ∷ ps) = let i = counts_le ps in omega arith
counts_le (Section b n s ∷ ps) = let i = counts_le ps in omega arith

by_place_long : {A : Type 0} (ps : List Pick) (fs : List (ℕ → A)) → length fs ≡ length ps → length (by_place ps fs) ≡ length (counts ps)
unfolding by_place counts
by_place_long [] fs l = refl
by_place_long (Single x ∷ ps) [] l = absurd (omega arith)
by_place_long (Section b n s ∷ ps) [] l = absurd (omega arith)
by_place_long (Single x ∷ ps) (f ∷ fs) l = by_place_long ps fs (omega arith)
by_place_long (Section b n s ∷ ps) (f ∷ fs) l = ap suc (by_place_long ps fs (omega arith))

both_long : (ps qs : List (ℕ → Bool)) → length (both ps qs) ≡ length ps
unfolding both
both_long [] qs = refl
both_long (p ∷ ps) [] = ap suc (both_long ps [])
both_long (p ∷ ps) (q ∷ qs) = ap suc (both_long ps qs)

filled_long : (ns : List ℕ) (fs : List (ℕ → ℕ)) → length (filled_up ns fs) ≡ length ns
unfolding filled_up
filled_long [] fs = refl
filled_long (n ∷ ns) [] = ap suc (filled_long ns [])
filled_long (n ∷ ns) (f ∷ fs) = ap suc (filled_long ns fs)

and_four : (a b c d : Bool) → ((a && b) && (c && d)) ≡ ((a && c) && (b && d))
and_four true true c d = refl
and_four true false true d = refl
and_four true false false d = refl
and_four false b c d = refl

-- the cell on one side of a pair
test_is : (target source : List Pick) (needs gives : List (ℕ → Bool)) → length needs ≡ length target → length gives ≡ length source →
    length (counts source) ≤ length (counts target) → (x : List ℕ) → length x ≡ length (counts target) →
    (all_pass needs (cell_at target x) && all_pass gives (cell_at source x))
    ≡ ((singles_pass target needs && singles_pass source gives) && all_pass (both (by_place target needs) (by_place source gives)) x)
test_is target source needs gives ln lg few x lx =
    let nt = by_place_long target needs ln in
    let ns = by_place_long source gives lg in
    ap (λ r. r && all_pass gives (cell_at source x)) (pass_at target needs x ln (omega arith))
    ∙ ap (λ r. (singles_pass target needs && all_pass (by_place target needs) x) && r) (pass_at source gives x lg (omega arith))
    ∙ and_four (singles_pass target needs) (all_pass (by_place target needs) x) (singles_pass source gives) (all_pass (by_place source gives) x)
    ∙ ap (λ r. (singles_pass target needs && singles_pass source gives) && r) (sym (both_pass (by_place target needs) (by_place source gives) x (omega arith) (omega arith)))

slot_is : (target side : List Pick) (adds : List (ℕ → ℕ)) → length adds ≡ length side → length (counts side) ≤ length (counts target) →
    (x : List ℕ) → length x ≡ length (counts target) →
    total adds (cell_at side x) ≡ singles_total side adds + total (filled_up (counts target) (by_place side adds)) x
slot_is target side adds la few x lx =
    let nl = by_place_long side adds la in
    total_at side adds x la (omega arith)
    ∙ ap (λ r. singles_total side adds + r) (sym (filled_total (counts target) (by_place side adds) x lx (omega arith)))

-- over the places of the target's cells
pub due_at : (target source side : List Pick) (needs gives : List (ℕ → Bool)) (adds : List (ℕ → ℕ)) →
    length needs ≡ length target → length gives ≡ length source → length adds ≡ length side →
    length (counts source) ≤ length (counts target) → length (counts side) ≤ length (counts target) →
    map (λ x. total adds (cell_at side x)) (filter (λ x. all_pass needs (cell_at target x) && all_pass gives (cell_at source x)) (indices (counts target)))
    ≡ due_slots target source side needs gives adds
due_at target source side needs gives adds ln lg la few fews =
    let c : Bool = singles_pass target needs && singles_pass source gives in
    let q : List (ℕ → Bool) = both (by_place target needs) (by_place source gives) in
    let f : List (ℕ → ℕ) = filled_up (counts target) (by_place side adds) in
    let o : ℕ = singles_total side adds in
    let I : List (List ℕ) = indices (counts target) in
    map_same (λ x. total adds (cell_at side x)) (λ x. o + total f x) (filter (λ x. all_pass needs (cell_at target x) && all_pass gives (cell_at source x)) I)
    (λ x i. slot_is target side adds la fews x (indices_long (counts target) x (in_filter (λ x. all_pass needs (cell_at target x) && all_pass gives (cell_at source x)) I x i).0))
    ∙ ap (map (λ x. o + total f x))
    (filter_same (λ x. all_pass needs (cell_at target x) && all_pass gives (cell_at source x)) (λ x. c && all_pass q x) I
    (λ x i. test_is target source needs gives ln lg few x (indices_long (counts target) x i)))
    ∙ map_filter_if (λ x. o + total f x) c (all_pass q) I
    ∙ ap (λ r. cond c r [])
    (sym (map_twice (total f) (λ r. o + r) (filter (all_pass q) I))
    ∙ ap (map (λ r. o + r)) (gathered q f (counts target) (both_long (by_place target needs) (by_place source gives) ∙ by_place_long target needs ln) (filled_long (counts target) (by_place side adds))))

-- the slots of the source's cells due
pub due_out : (target source : List Pick) (needs gives : List (ℕ → Bool)) (adds : List (ℕ → ℕ)) →
    length needs ≡ length target → length gives ≡ length source → length adds ≡ length source → length (counts source) ≤ length (counts target) →
    map (λ p. total adds p.1) (filter (λ p. all_pass needs p.0 && all_pass gives p.1) (picked_pairs target source)) ≡ due_slots target source source needs gives adds
due_out target source needs gives adds ln lg la few =
    let g : List ℕ → List ℕ × List ℕ = λ x. (cell_at target x, cell_at source x) in
    ap (map (λ p. total adds p.1)) (filter_map_is g (λ p. all_pass needs p.0 && all_pass gives p.1) (indices (counts target)))
    ∙ map_twice g (λ p. total adds p.1) (filter (λ x. all_pass needs (cell_at target x) && all_pass gives (cell_at source x)) (indices (counts target)))
    ∙ due_at target source source needs gives adds ln lg la few few

-- the slots of the target's cells due
pub due_into : (target source : List Pick) (needs gives : List (ℕ → Bool)) (adds : List (ℕ → ℕ)) →
    length needs ≡ length target → length gives ≡ length source → length adds ≡ length target → length (counts source) ≤ length (counts target) →
    map (λ p. total adds p.0) (filter (λ p. all_pass needs p.0 && all_pass gives p.1) (picked_pairs target source)) ≡ due_slots target source target needs gives adds
due_into target source needs gives adds ln lg la few =
    let g : List ℕ → List ℕ × List ℕ = λ x. (cell_at target x, cell_at source x) in
    ap (map (λ p. total adds p.0)) (filter_map_is g (λ p. all_pass needs p.0 && all_pass gives p.1) (indices (counts target)))
    ∙ map_twice g (λ p. total adds p.0) (filter (λ x. all_pass needs (cell_at target x) && all_pass gives (cell_at source x)) (indices (counts target)))
    ∙ due_at target source target needs gives adds ln lg la few (omega arith)
