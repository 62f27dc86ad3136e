-- The rows of a node: their lengths, and one row set anew.
use Rattle.std.proofs.Common.{◌⊎◌, inl, inr, ◌==◌, ◌≡◌, ◌≢◌, ◌<◌, ◌*◌, if◌then◌else◌, ℕ, zero, suc, ℤ, Bool, true, false, List, [], ◌∷◌, map, length, take, ◌≤◌, Option, Some, None, option_map, refl, sym, ap, subst, ◌∙◌, arith, mul-pos}
use Rattle.std.specs.Prelude.{slice_get, slice_set, unwrap_or, nat_le, IsTrue}
use Rattle.std.specs.List.{AllByRecursion, list_all}
use Rattle.std.proofs.lemmas.Bool.{eqb-true, eq-eqb}
use Rattle.std.proofs.lemmas.Bool.Decides.{nat_tests}
use Rattle.std.proofs.lemmas.Option.{none-some, same_Some, slice_get-map}
use Rattle.std.proofs.lemmas.List.{length-map}
use Rattle.xmp_map.specs.declared.array_map.ArrayMap.{ArrayMap}
use Rattle.xmp_map.specs.declared.grid.Grid.{Grid}
use Rattle.xmp_map.specs.RowMajor.{product}
use Rattle.xmp_map.specs.Nodes.{is_grid}
use Rattle.xmp_map.specs.Held as held
use Rattle.xmp_prog.specs.declared.parts.ProgParts.{ProgParts}
use Rattle.xmp_prog.specs.declared.parts.Array.{Array}
use Rattle.xmp_prog.specs.declared.parts.Home.{Home}
use Rattle.xmp_prog.specs.declared.parts.Home.TheVariants as home
use Rattle.xmp_prog.specs.Fits.{node_count, HomeFits, SpreadFits}
use Rattle.xmp_prog.specs.Tests.{is_image}
use Rattle.xmp_meaning.specs.Cells.{row_in}
use Rattle.xmp_meaning.specs.Runs.{State}
use Rattle.xmp_meaning.specs.Declarations.{extents, home_of, extents_of_array, home_of_array}
use Rattle.xmp_meaning.specs.Layouts.{Packed, Whole, row_length, words_of, cell_count}
use Rattle.xmp_meaning.specs.TrafficLaws.{IsNodeState}
use Rattle.xmp_meaning.proofs.Stays.{set_other}
use Rattle.xmp_meaning.specs.Exchanges.{Notes}
use Rattle.xmp_move.specs.Laid.{MapFits}
use Rattle.xmp_move.proofs.Members.{and_left, and_right}
use Rattle.xmp_move.specs.Kept.{IsOfCode, HasThree}
use Rattle.xmp_move.proofs.SidesKept.{take_short}
use Rattle.xmp_nodes.proofs.Agrees.{IsWhole}
use Rattle.xmp_nodes.proofs.Standing.{IsGlobal}
use Rattle.xmp_nodes.proofs.Each.{mapped_at}
use Rattle.xmp_nodes.proofs.Words.{set_there}

-- ---- numbers

abbrev pub same_or_other : (a b : ℕ) → Type 0
same_or_other a b = (a ≡ b) ⊎ ((a ≢ b) × ((a == b) ≡ false))

pub tell : (a b : ℕ) → same_or_other a b
tell a b = at_test (a == b) refl
  where
    no : (c : Bool) → c ≡ false → c ≡ true → ⊥
    no true e f = cc
    no false e f = cc

    at_test : (c : Bool) → (a == b) ≡ c → same_or_other a b
    at_test true e = inl (eqb-true a b e)
    at_test false e = inr ((λ f. no (a == b) e (eq-eqb a b f)), e)

-- ---- lists of lists

-- a row beside what its length is told by
pub row_there : {A : Type 0} (f : A → ℕ) (rows : List (List ℤ)) (xs : List A) → map length rows ≡ map f xs → (i : ℕ) (x : A) → slice_get xs i ≡ Some x
    → (row : List ℤ) × (slice_get rows i ≡ Some row) × (length row ≡ f x)
row_there f rows xs same i x e =
    let m = mapped_at length rows i (f x) (ap (λ l. slice_get l i) same ∙ slice_get-map f xs i ∙ ap (option_map f) e) in
    (m.0, m.1, sym m.2)

pub row_read : (rows : List (List ℤ)) (i : ℕ) (row : List ℤ) → slice_get rows i ≡ Some row → row_in rows i ≡ row
row_read rows i row e = ap (λ o. unwrap_or o []) e

-- a row set anew, of the same length
pub set_lengths : (rows : List (List ℤ)) (i : ℕ) (row new : List ℤ) → slice_get rows i ≡ Some row → length new ≡ length row → map length (slice_set rows i new) ≡ map length rows
set_lengths [] i row new e l = refl
set_lengths (r ∷ rows) zero row new e l = ap (λ n. n ∷ map length rows) (l ∙ ap length (sym (same_Some r row e)))
set_lengths (r ∷ rows) (suc i) row new e l = ap (λ ns. length r ∷ ns) (set_lengths rows i row new e l)

pub set_row_here : (rows : List (List ℤ)) (i : ℕ) (row new : List ℤ) → slice_get rows i ≡ Some row → row_in (slice_set rows i new) i ≡ new
set_row_here rows i row new e = row_read (slice_set rows i new) i new (set_there rows i row new e)

pub set_row_other : (rows : List (List ℤ)) (i j : ℕ) (new : List ℤ) → i ≢ j → row_in (slice_set rows i new) j ≡ row_in rows j
set_row_other rows i j new ne = ap (λ o. unwrap_or o []) (set_other rows i j new ne)

-- ---- the arrays of a program

pub home_there : (p : ProgParts) (array : ℕ) (a : Array) → slice_get p.arrays array ≡ Some a → home_of p array ≡ a.home
home_there p array a e = ap home_of_array e

pub extents_there : (p : ProgParts) (array : ℕ) (a : Array) → slice_get p.arrays array ≡ Some a → extents p array ≡ a.extents
extents_there p array a e = ap extents_of_array e

pub all_at : {A : Type 0} (P : A → Type 0) (xs : List A) → AllByRecursion P xs → (i : ℕ) (x : A) → slice_get xs i ≡ Some x → P x
all_at P [] h i x e = absurd (none-some x e)
all_at P (y ∷ xs) h zero x e = subst P (same_Some y x e) h.0
all_at P (y ∷ xs) h (suc i) x e = all_at P xs h.1 i x e

-- what is known of a distributed array
pub record IsSpreadArray (p : ProgParts) (array t : ℕ) (m : ArrayMap) : Type 0 where
  pub of : Array
  pub at : slice_get p.arrays array ≡ Some of
  pub lies : of.home ≡ home.Spread t m
  pub three : HasThree m
  pub fits : MapFits (home.Spread t m) (extents p array)
  pub nodes : held.node_count m ≡ node_count p

spread_some : (o : Option Array) (t : ℕ) (m : ArrayMap) → home_of_array o ≡ home.Spread t m → (a : Array) × (o ≡ Some a) × (a.home ≡ home.Spread t m)
spread_some None t m e = cc
spread_some (Some a) t m e = (a, refl, e)

pub spread_array : (p : ProgParts) → IsGlobal p → (array t : ℕ) (m : ArrayMap) → home_of p array ≡ home.Spread t m → IsSpreadArray p array t m
spread_array p global array t m e =
    let s = spread_some (slice_get p.arrays array) t m e in
    let a : Array = s.0 in
    let code : HasThree m = subst IsOfCode s.2 (all_at (λ a. IsOfCode a.home) p.arrays global.axes.arrays array a s.1) in
    let fit : SpreadFits p a t m = subst (HomeFits p a) s.2 (all_at (λ a. HomeFits p a a.home) p.arrays global.fits.mappings.maps array a s.1) in
    record {
      of = a;
      at = s.1;
      lies = s.2;
      three = code;
      fits = fit.extents ∙ sym (extents_there p array a s.1);
      nodes = ap (λ (g : Grid). product g.sizes) (all_at (λ t. t.grid ≡ p.grid) p.templates global.fits.mappings.templates t m.template fit.template);
    }

-- a node's row of it
pub record IsRowOf (p : ProgParts) (node array : ℕ) (m : ArrayMap) (rows : List (List ℤ)) : Type 0 where
  pub row : List ℤ
  pub at : slice_get rows array ≡ Some row
  pub long : length row ≡ held.words m node

pub spread_row : {X : Type 0} (p : ProgParts) (node array t : ℕ) (m : ArrayMap) (n : State X) → IsSpreadArray p array t m → IsNodeState p node n → IsRowOf p node array m n.arrays
spread_row p node array t m n s packed =
    let r = row_there (row_length (Packed node) p) n.arrays p.arrays packed.rows array s.of s.at in
    record { row = r.0; at = r.1; long = r.2 ∙ ap (λ h. words_of (Packed node) h (cell_count p s.of)) s.lies }

-- it has one to three dimensions
pub few_dims : (p : ProgParts) → IsGlobal p → (array t : ℕ) (m : ArrayMap) → IsSpreadArray p array t m → length (extents p array) ≤ 3
few_dims p global array t m s =
    let short = take_short m.dims (held.extents m) in
    let l : length (held.extents m) ≡ length m.aligned = length-map m.aligned (λ l. l.extent) in
    let same : length (extents p array) ≡ length (take m.dims (held.extents m)) = ap length (sym s.fits) in
    let three = s.three.aligned in
    omega (arith, short, l, same, three)

-- the serial row has all its cells
pub whole_row : (p : ProgParts) → IsGlobal p → (array t : ℕ) (m : ArrayMap) (s : State Notes) → IsSpreadArray p array t m → IsWhole p s
    → length (row_in s.arrays array) ≡ product (extents p array)
whole_row p global array t m s of whole =
    let r = row_there (row_length Whole p) s.arrays p.arrays whole.rows array of.of of.at in
    ap length (row_read s.arrays array r.0 r.1)
    ∙ r.2
    ∙ ap (λ (h : Home). words_of Whole h ((if is_image h then node_count p else 1) * product of.of.extents)) of.lies
    ∙ one_times (product of.of.extents)
    ∙ ap product (sym (extents_there p array of.of of.at))
  where
    one_times : (n : ℕ) → 1 * n ≡ n
    one_times n = omega arith

-- and a program has a node
to_true : (b : Bool) → IsTrue b → b ≡ true
to_true b h = grind (arith, nat_tests)

at_least : (s : ℕ) → nat_le 1 s ≡ true → 1 ≤ s
at_least s h = grind (arith, nat_tests)

positive : (ss : List ℕ) → list_all (λ s. nat_le 1 s) ss ≡ true → 0 < product ss
unfolding product
positive [] h = omega arith
positive (s ∷ ss) h =
    let first : 1 ≤ s = at_least s (and_left (nat_le 1 s) (list_all (λ s. nat_le 1 s) ss) h) in
    let rest : 0 < product ss = positive ss (and_right (nat_le 1 s) (list_all (λ s. nat_le 1 s) ss) h) in
    mul-pos first rest

pub some_nodes : (p : ProgParts) → 0 < node_count p
some_nodes p = positive p.grid.sizes (and_left (list_all (λ s. nat_le 1 s) p.grid.sizes) (nat_le (product p.grid.sizes) 16) (to_true (is_grid p.grid.sizes) p.grid.valid))
