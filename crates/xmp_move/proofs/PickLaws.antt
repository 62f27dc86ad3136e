-- What is named of the dimensions of a side, in small numbers and in those of the meaning.
use Rattle.std.proofs.Common.{◌≡◌, ℕ, ℤ, pos, negsuc, zero, suc, ◌+◌, ◌-◌, ◌*◌, ◌^◌, ◌<◌, ◌≤◌, ◌⊎◌, inl, inr, Bool, true, false, List, [], ◌∷◌, ◌++◌, refl, sym, ◌∙◌, ap, arith, length, map, Option, Some, None, subst}
use Rattle.std.specs.Prelude.{replicate, nat_lt, ◌&&◌}
use Rattle.std.proofs.lemmas.Bool.Decides.{nat_tests}
use Rattle.xmp_map.specs.Boxes.{IsInside}
use Rattle.xmp_map.specs.Nodes.{filled}
use Rattle.xmp_map.specs.RowMajor.{product, row_major}
use Rattle.xmp_map.proofs.Order.{AllBelow, none_below, more_below}
use Rattle.xmp_meaning.specs.Expressions.{natural}
use Rattle.xmp_meaning.specs.Sections.{Chosen, One, Many, lengths}
use Rattle.xmp_move.specs.declared.pick.Pick.{Pick}
use Rattle.xmp_move.specs.declared.pick.Pick.TheVariants.{Single, Section}
use Rattle.xmp_move.specs.Faults.{part_fault, side_fault}
use Rattle.xmp_move.specs.Cells as cells
use Rattle.xmp_move.specs.Sides.{padded}
use Rattle.xmp_move.specs.Picks.{narrow, section_of, pick_of, picks_of, whole_picks, counts, cell_at, PickFits}
use Rattle.xmp_move.specs.Gathers.{FollowsIt}
use Rattle.xmp_move.proofs.PairsInside.{one_inside, many_reaches, first_none, rest_none}
use Rattle.xmp_move.proofs.SidesKept.{inside_short}

-- ---- picks inside extents

-- each extent is at least 1 and at most the greatest
abbrev pub AllSmall : List ℕ → Type 0
AllSmall [] = Unit {0}
AllSmall (e ∷ es) = ((1 ≤ e) × (e ≤ 4194304)) × AllSmall es

pub data ArePicks : List Pick → List ℕ → Type 0 where
  no_pick : ArePicks [] []
  a_pick : (p : Pick) (e : ℕ) (ps : List Pick) (es : List ℕ) → PickFits p e → ArePicks ps es → ArePicks (p ∷ ps) (e ∷ es)

cell_in : (ps : List Pick) (es places : List ℕ) → ArePicks ps es → IsInside places (counts ps) → AllBelow (cell_at ps places) es
unfolding counts cell_at IsInside
cell_in ps es places no_pick i = none_below
cell_in ps es places (a_pick (Single x) e ps' es' f more) i = more_below x e (cell_at ps' places) es' f (cell_in ps' es' places more i)
cell_in ps es [] (a_pick (Section first count step) e ps' es' f more) i = absurd i
cell_in ps es (k ∷ places) (a_pick (Section first count step) e ps' es' f more) i =
    more_below (first + k * step) e (cell_at ps' places) es' (f.3 k i.0) (cell_in ps' es' places more i.1)

cell_alone : (ps : List Pick) (es places : List ℕ) → ArePicks ps es → counts ps ≡ [] → AllBelow (cell_at ps places) es
unfolding counts cell_at
cell_alone ps es places no_pick none = none_below
cell_alone ps es places (a_pick (Single x) e ps' es' f more) none = more_below x e (cell_at ps' places) es' f (cell_alone ps' es' places more none)
cell_alone ps es places (a_pick (Section first count step) e ps' es' f more) none = cc

pub cell_below : (ps : List Pick) (es places ns : List ℕ) → ArePicks ps es → IsInside places ns → FollowsIt ns (counts ps) → AllBelow (cell_at ps places) es
cell_below ps es places ns picked i (inl none) = cell_alone ps es places picked none
cell_below ps es places ns picked i (inr same) = cell_in ps es places picked (subst (IsInside places) (sym same) i)

-- ---- one dimension

narrow_is : (n : ℕ) → n < 2 ^ 32 → narrow (pos n) ≡ n
narrow_is n lt = let t : nat_lt n (2 ^ 32) ≡ true = grind (arith, nat_tests) in rw t refl

-- a section in small numbers names the same subscripts
pub record IsSame (base length step : ℤ) (p : Pick) (e : ℕ) : Type 0 where
  pub first : ℕ
  pub count : ℕ
  pub step_is : ℕ
  pub is : p ≡ Section first count step_is
  pub count_is : count ≡ natural length
  pub at : (k : ℕ) → k < count → first + k * step_is ≡ natural base + k * natural step
  pub fits : PickFits (Section first count step_is) e

narrow_natural : (v : ℤ) → natural v < 2 ^ 32 → narrow v ≡ natural v
narrow_natural (pos n) lt = narrow_is n lt
narrow_natural (negsuc n) lt = refl

times_up : (k s : ℕ) → 1 ≤ s → k ≤ k * s
times_up zero s h = omega arith
times_up (suc k) s h = let i = times_up k s h in let e : suc k * s ≡ k * s + s = omega arith in omega (arith, i, e, h)

same_section : (source : Bool) (e : ℕ) (base length step : ℤ) → part_fault source e (Many base length step) ≡ None → e ≤ 4194304
    → IsSame base length step (pick_of (Many base length step)) e
same_section source e base (pos zero) step none small = record {
  first = 0;
  count = 0;
  step_is = 1;
  is = refl;
  count_is = refl;
  at = λ k l. absurd (omega (arith, l));
  fits = (omega arith, omega arith, omega arith, λ k l. absurd (omega (arith, l)));
}
same_section source e base (negsuc n) step none small = record {
  first = 0;
  count = 0;
  step_is = 1;
  is = refl;
  count_is = refl;
  at = λ k l. absurd (omega (arith, l));
  fits = (omega arith, omega arith, omega arith, λ k l. absurd (omega (arith, l)));
}
same_section source e base (pos (suc zero)) step none small =
    let r = many_reaches source e base (pos 1) step 0 none (omega arith) in
    let b = r.below in
    let nb : narrow base ≡ natural base = narrow_natural base (omega (arith, b, small)) in
    record {
      first = natural base;
      count = 1;
      step_is = 1;
      is = ap (λ b. Section b 1 1) nb;
      count_is = refl;
      at = λ k l. let z : k ≡ 0 = omega (arith, l) in rw z (omega arith);
      fits = (omega arith, omega arith, omega arith, λ k l. omega (arith, b, l));
    }
same_section source e base (pos (suc (suc n))) step none small =
    let one = many_reaches source e base (pos (suc (suc n))) step 1 none (omega arith) in
    let last = many_reaches source e base (pos (suc (suc n))) step (suc n) none (omega arith) in
    let b1 = one.below in
    let b2 = last.below in
    let f = one.forward in
    let up = times_up (suc n) (natural step) f in
    let nb : narrow base ≡ natural base = narrow_natural base (omega (arith, b1, small)) in
    let ns : narrow step ≡ natural step = narrow_natural step (omega (arith, b1, small)) in
    let nl : narrow (pos (suc (suc n))) ≡ suc (suc n) = narrow_is (suc (suc n)) (omega (arith, b2, up, small)) in
    record {
      first = natural base;
      count = suc (suc n);
      step_is = natural step;
      is = ap (λ l. section_of (narrow base) l (narrow step)) nl ∙ ap (λ b. Section b (suc (suc n)) (narrow step)) nb ∙ ap (λ s. Section (natural base) (suc (suc n)) s) ns;
      count_is = refl;
      at = λ k l. refl;
      fits = (f, omega (arith, b1, small), omega (arith, b2, up, small), λ k l. let q = many_reaches source e base (pos (suc (suc n))) step k none l in q.below);
    }

single_is : (source : Bool) (e : ℕ) (v : ℤ) → part_fault source e (One v) ≡ None → e ≤ 4194304 → (narrow v ≡ natural v) × (narrow v < e)
single_is source e v none small =
    let lt = one_inside source e v none in
    let n : narrow v ≡ natural v = narrow_natural v (omega (arith, lt, small)) in
    (n, omega (arith, n, lt))

-- ---- all dimensions of a side

-- picks that name the same cells
pub record NamesSame (ps : List Pick) (cs : List Chosen) (es : List ℕ) : Type 0 where
  pub counts_are : counts ps ≡ cells.counts cs
  pub cells_are : (places : List ℕ) → IsInside places (cells.counts cs) → cell_at ps places ≡ cells.cell_at cs places
  pub alone : cells.counts cs ≡ [] → (places : List ℕ) → cell_at ps places ≡ cells.cell_at cs places
  pub fits : ArePicks ps es

no_cons : {A : Type 0} (x : A) (xs : List A) → x ∷ xs ≡ [] → ⊥
no_cons x xs e = cc

single_same : (x : ℕ) (v : ℤ) (e : ℕ) (ps : List Pick) (cs : List Chosen) (es : List ℕ) → x ≡ natural v → x < e → NamesSame ps cs es → NamesSame (Single x ∷ ps) (One v ∷ cs) (e ∷ es)
unfolding counts cell_at cells.counts cells.cell_at
single_same x v e ps cs es same lt more = record {
  counts_are = more.counts_are;
  cells_are = λ places i. ap (λ n. n ∷ cell_at ps places) same ∙ ap (λ r. natural v ∷ r) (more.cells_are places i);
  alone = λ none places. ap (λ n. n ∷ cell_at ps places) same ∙ ap (λ r. natural v ∷ r) (more.alone none places);
  fits = a_pick (Single x) e ps es lt more.fits;
}

section_same_of : (base length step : ℤ) (e first count s : ℕ) (ps : List Pick) (cs : List Chosen) (es : List ℕ) → count ≡ natural length
    → ((k : ℕ) → k < count → first + k * s ≡ natural base + k * natural step) → PickFits (Section first count s) e → NamesSame ps cs es
    → NamesSame (Section first count s ∷ ps) (Many base length step ∷ cs) (e ∷ es)
unfolding counts cell_at IsInside cells.counts cells.cell_at
section_same_of base length step e first count s ps cs es same at fit more = record {
  counts_are = ap (λ n. n ∷ counts ps) same ∙ ap (λ r. natural length ∷ r) more.counts_are;
  cells_are = λ places i. walk places i;
  alone = λ none places. absurd (no_cons (natural length) (cells.counts cs) none);
  fits = a_pick (Section first count s) e ps es fit more.fits;
}
  where
    walk : (places : List ℕ) → IsInside places (natural length ∷ cells.counts cs) → cell_at (Section first count s ∷ ps) places ≡ cells.cell_at (Many base length step ∷ cs) places
    walk [] i = absurd i
    walk (k ∷ places) i =
        ap (λ n. n ∷ cell_at ps places) (at k (let l = i.0 in omega (arith, l, same))) ∙ ap (λ r. (natural base + k * natural step) ∷ r) (more.cells_are places i.1)

section_same : (base length step : ℤ) (e : ℕ) (p : Pick) (ps : List Pick) (cs : List Chosen) (es : List ℕ) → IsSame base length step p e → NamesSame ps cs es
    → NamesSame (p ∷ ps) (Many base length step ∷ cs) (e ∷ es)
section_same base length step e p ps cs es s more =
    subst (λ p. NamesSame (p ∷ ps) (Many base length step ∷ cs) (e ∷ es)) (sym s.is)
    (section_same_of base length step e s.first s.count s.step_is ps cs es s.count_is s.at s.fits more)

nothing_same : NamesSame [] [] []
unfolding counts cell_at cells.counts cells.cell_at
nothing_same = record { counts_are = refl; cells_are = λ places i. refl; alone = λ none places. refl; fits = no_pick }

picks_same : (source : Bool) (es : List ℕ) (cs : List Chosen) → length cs ≡ length es → side_fault source es cs ≡ None → AllSmall es → NamesSame (map pick_of cs) cs es
picks_same source [] [] l none small = nothing_same
picks_same source [] (c ∷ cs) l none small = absurd (omega (arith, l))
picks_same source (e ∷ es) [] l none small = absurd (omega (arith, l))
picks_same source (e ∷ es) (One v ∷ cs) l none small =
    let s = single_is source e v (first_none (part_fault source e (One v)) (side_fault source es cs) none) small.0.1 in
    single_same (narrow v) v e (map pick_of cs) cs es s.0 s.1
    (picks_same source es cs (let m : length cs ≡ length es = omega (arith, l) in m) (rest_none (part_fault source e (One v)) (side_fault source es cs) none) small.1)
picks_same source (e ∷ es) (Many base n step ∷ cs) l none small =
    section_same base n step e (pick_of (Many base n step)) (map pick_of cs) cs es
    (same_section source e base n step (first_none (part_fault source e (Many base n step)) (side_fault source es cs) none) small.0.1)
    (picks_same source es cs (let m : length cs ≡ length es = omega (arith, l) in m) (rest_none (part_fault source e (Many base n step)) (side_fault source es cs) none) small.1)

-- ---- up to three dimensions

pub filled_is : {A : Type 0} (x : A) (xs : List A) → length xs ≤ 3 → filled x xs ≡ xs ++ replicate (3 - length xs) x
filled_is x [] l = refl
filled_is x (a ∷ []) l = refl
filled_is x (a ∷ b ∷ []) l = refl
filled_is x (a ∷ b ∷ c ∷ []) l = refl
filled_is x (a ∷ b ∷ c ∷ d ∷ rest) l = absurd (omega (arith, l))

pad_counts : (n : ℕ) (ps : List Pick) → counts (ps ++ replicate n (Single 0)) ≡ counts ps
unfolding counts
pad_counts zero [] = refl
pad_counts (suc n) [] = pad_counts n []
pad_counts n (Single x ∷ ps) = pad_counts n ps
pad_counts n (Section first count step ∷ ps) = ap (λ r. count ∷ r) (pad_counts n ps)

pad_cells : (n : ℕ) (ps : List Pick) (places : List ℕ) → cell_at (ps ++ replicate n (Single 0)) places ≡ cell_at ps places ++ replicate n 0
unfolding cell_at
pad_cells zero [] places = refl
pad_cells (suc n) [] places = ap (λ r. 0 ∷ r) (pad_cells n [] places)
pad_cells n (Single x ∷ ps) places = ap (λ r. x ∷ r) (pad_cells n ps places)
pad_cells n (Section first count step ∷ ps) [] = ap (λ r. first ∷ r) (pad_cells n ps [])
pad_cells n (Section first count step ∷ ps) (k ∷ places) = ap (λ r. (first + k * step) ∷ r) (pad_cells n ps places)

pad_fit : (n : ℕ) (ps : List Pick) (es : List ℕ) → ArePicks ps es → ArePicks (ps ++ replicate n (Single 0)) (es ++ replicate n 1)
pad_fit zero ps es no_pick = no_pick
pad_fit (suc n) ps es no_pick = a_pick (Single 0) 1 (replicate n (Single 0)) (replicate n 1) (omega arith) (pad_fit n [] [] no_pick)
pad_fit n ps es (a_pick p e ps' es' f more) = a_pick p e (ps' ++ replicate n (Single 0)) (es' ++ replicate n 1) f (pad_fit n ps' es' more)

pub cell_length : (cs : List Chosen) (places : List ℕ) → length (cells.cell_at cs places) ≡ length cs
unfolding cells.cell_at
cell_length [] places = refl
cell_length (One v ∷ cs) places = ap suc (cell_length cs places)
cell_length (Many base n step ∷ cs) [] = ap suc (cell_length cs [])
cell_length (Many base n step ∷ cs) (k ∷ places) = ap suc (cell_length cs places)

pub map_long : {A B : Type 0} (f : A → B) (xs : List A) → length (map f xs) ≡ length xs
map_long f [] = refl
map_long f (x ∷ xs) = ap suc (map_long f xs)

-- three dimensions that name the same cells as those of a side
pub record SidePicks (ps : List Pick) (cs : List Chosen) (es : List ℕ) : Type 0 where
  pub counts_are : counts ps ≡ cells.counts cs
  pub cells_are : (places : List ℕ) → IsInside places (cells.counts cs) → cell_at ps places ≡ padded (cells.cell_at cs places)
  pub alone : cells.counts cs ≡ [] → (places : List ℕ) → cell_at ps places ≡ padded (cells.cell_at cs places)
  pub fits : ArePicks ps (filled 1 es)

padded_up : (ps : List Pick) (cs : List Chosen) (es : List ℕ) → length ps ≡ length cs → length cs ≡ length es → length es ≤ 3 → NamesSame ps cs es
    → SidePicks (filled (Single 0) ps) cs es
padded_up ps cs es lp lc le s =
    let fp : filled (Single 0) ps ≡ ps ++ replicate (3 - length ps) (Single 0) = filled_is (Single 0) ps (omega (arith, lp, lc, le)) in
    let n : 3 - length ps ≡ 3 - length es = omega (arith, lp, lc) in
    record {
      counts_are = ap counts fp ∙ pad_counts (3 - length ps) ps ∙ s.counts_are;
      cells_are = λ places i. ap (λ q. cell_at q places) fp ∙ pad_cells (3 - length ps) ps places ∙ as_padded places (s.cells_are places i);
      alone = λ none places. ap (λ q. cell_at q places) fp ∙ pad_cells (3 - length ps) ps places ∙ as_padded places (s.alone none places);
      fits = rw (fp, filled_is 1 es le, n) (pad_fit (3 - length es) ps es s.fits);
    }
  where
    as_padded : (places : List ℕ) → cell_at ps places ≡ cells.cell_at cs places → cell_at ps places ++ replicate (3 - length ps) 0 ≡ padded (cells.cell_at cs places)
    as_padded places e =
        let m : 3 - length ps ≡ 3 - length (cells.cell_at cs places) = let c = cell_length cs places in omega (arith, lp, c) in
        ap (λ n. cell_at ps places ++ replicate n 0) m ∙ ap (λ c. c ++ replicate (3 - length (cells.cell_at cs places)) 0) e

pub picks_name : (source : Bool) (es : List ℕ) (cs : List Chosen) → length cs ≡ length es → length es ≤ 3 → side_fault source es cs ≡ None → AllSmall es
    → SidePicks (picks_of cs) cs es
picks_name source es cs l few none small = padded_up (map pick_of cs) cs es (map_long pick_of cs) l few (picks_same source es cs l none small)

-- ---- all cells of an array

whole_counts : (es : List ℕ) → counts (map (λ e. Section 0 e 1) es) ≡ es
unfolding counts
whole_counts [] = refl
whole_counts (e ∷ es) = ap (λ r. e ∷ r) (whole_counts es)

whole_cells : (es places : List ℕ) → IsInside places es → cell_at (map (λ e. Section 0 e 1) es) places ≡ places
unfolding cell_at IsInside
whole_cells [] [] i = refl
whole_cells [] (k ∷ places) i = absurd i
whole_cells (e ∷ es) [] i = absurd i
whole_cells (e ∷ es) (k ∷ places) i = let n : 0 + k * 1 ≡ k = omega arith in ap (λ n. n ∷ cell_at (map (λ e. Section 0 e 1) es) places) n ∙ ap (λ r. k ∷ r) (whole_cells es places i.1)

whole_fit : (es : List ℕ) → AllSmall es → ArePicks (map (λ e. Section 0 e 1) es) es
whole_fit [] small = no_pick
whole_fit (e ∷ es) small = a_pick (Section 0 e 1) e (map (λ e. Section 0 e 1) es) es (omega arith, omega arith, small.0.1, λ k l. omega (arith, l)) (whole_fit es small.1)

pub record WholePicks (ps : List Pick) (es : List ℕ) : Type 0 where
  pub counts_are : counts ps ≡ es
  pub cells_are : (places : List ℕ) → IsInside places es → cell_at ps places ≡ padded places
  pub fits : ArePicks ps (filled 1 es)

pub whole_name : (es : List ℕ) → length es ≤ 3 → AllSmall es → WholePicks (whole_picks es) es
whole_name es le small =
    let ps : List Pick = map (λ e. Section 0 e 1) es in
    let lp : length ps ≡ length es = map_long (λ e. Section 0 e 1) es in
    let fp : filled (Single 0) ps ≡ ps ++ replicate (3 - length ps) (Single 0) = filled_is (Single 0) ps (omega (arith, lp, le)) in
    let n : 3 - length ps ≡ 3 - length es = omega (arith, lp) in
    record {
      counts_are = ap counts fp ∙ pad_counts (3 - length ps) ps ∙ whole_counts es;
      cells_are = λ places i.
          let m : 3 - length ps ≡ 3 - length places = let c = inside_short places es i in omega (arith, lp, c) in
          ap (λ q. cell_at q places) fp ∙ pad_cells (3 - length ps) ps places ∙ ap (λ n. cell_at ps places ++ replicate n 0) m
          ∙ ap (λ c. c ++ replicate (3 - length places) 0) (whole_cells es places i);
      fits = rw (fp, filled_is 1 es le, n) (pad_fit (3 - length es) ps es (whole_fit es small));
    }
