-- The words of each message are those that are due.
use Rattle.std.proofs.Common.{◌≡◌, ◌≢◌, ◌+◌, ◌*◌, ◌/◌, ◌%◌, ◌<◌, ◌++◌, ◌==◌, ℕ, zero, suc, ℤ, Bool, true, false, if◌then◌else◌, cond, List, [], ◌∷◌, length, take, refl, sym, ap, ◌∙◌, arith, length-append}
use Rattle.std.specs.Prelude.{◌&&◌, slice_get, Option, Some, None}
use Rattle.std.specs.List.{AllByRecursion, count_by, zip}
use Rattle.std.proofs.lemmas.Bool.{eqb-true, eq-eqb}
use Rattle.std.proofs.lemmas.Nat.{div-mul-add, mod-mul-add}
use Rattle.std.proofs.lemmas.List.Sums.{sum_by-cons}
use Rattle.xmp_dist.specs.Count.{count_below}
use Rattle.xmp_dist.proofs.Counting.{count_below-zero, count_below-yes, count_below-no, count_below-same, count_below-shift}
use Rattle.xmp_map.specs.declared.array_map.ArrayMap.{ArrayMap}
use Rattle.xmp_map.specs.RowMajor.{product, unravel}
use Rattle.xmp_map.specs.Boxes.{sum_below, count_cells}
use Rattle.xmp_map.specs.Held as held
use Rattle.xmp_prog.specs.declared.parts.ProgParts.{ProgParts}
use Rattle.xmp_prog.specs.declared.parts.Home.{Home}
use Rattle.xmp_prog.specs.declared.parts.Home.TheVariants as home
use Rattle.xmp_prog.specs.Fits.{node_count}
use Rattle.xmp_prog.specs.NodeSets.{has_node}
use Rattle.xmp_meaning.specs.declared.ends.End.{End}
use Rattle.xmp_meaning.specs.declared.ends.End.TheVariants.{Trapped, OutOfSteps, PhaseEnd}
use Rattle.xmp_meaning.specs.Declarations.{home_of}
use Rattle.xmp_meaning.specs.Exchanges.{PartEnd, TaskEnd, Exchange, AtBarrier, Broadcast, Reflected, Moved, LoopEnd, TasksEnd}
use Rattle.xmp_meaning.specs.TrapWords.{end_words}
use Rattle.xmp_meaning.specs.Messages.{cell_by, is_reflected, passing, reflected, moved, part_words, tells, task_words, task_text, takes, gives, said, words_alone}
use Rattle.xmp_meaning.specs.TrafficLaws.{reflect_due, words_due, IsAsDue}

-- ---- counting

-- the values that pass are as many as the numbers that pass
passing_length : (test : ℕ → Bool) (at : ℕ) (vs : List ℤ) → length (passing test at vs) + count_below test at ≡ count_below test (at + length vs)
passing_length test at [] =
    let e : count_below test at ≡ count_below test (at + 0) = ap (count_below test) (let q : at ≡ at + 0 = omega arith in q) in omega (arith, e)
passing_length test at (v ∷ vs) = at_test (passing_length test (suc at) vs) (test at) refl
  where
    further : count_below test (suc at + length vs) ≡ count_below test (at + suc (length vs))
    further = ap (count_below test) (let e : suc at + length vs ≡ at + suc (length vs) = omega arith in e)

    at_test : length (passing test (suc at) vs) + count_below test (suc at) ≡ count_below test (suc at + length vs) → (b : Bool) → test at ≡ b
        → length (if b then v ∷ passing test (suc at) vs else passing test (suc at) vs) + count_below test at ≡ count_below test (at + suc (length vs))
    at_test i true h = let c : _ = count_below-yes test at h in omega (arith, i, c, further)
    at_test i false h = let c : _ = count_below-no test at h in omega (arith, i, c, further)

all_passing : (test : ℕ → Bool) (vs : List ℤ) → length (passing test 0 vs) ≡ count_below test (length vs)
all_passing test vs = let i : _ = passing_length test 0 vs in let z : _ = count_below-zero test in
    let e : count_below test (0 + length vs) ≡ count_below test (length vs) = ap (count_below test) (let q : 0 + length vs ≡ length vs = omega arith in q) in
    omega (arith, i, z, e)

-- a box's cells that pass, by their row-major numbers
numbered : (es : List ℕ) (test : List ℕ → Bool) → count_below (λ n. test (unravel es n)) (product es) ≡ count_cells es test
unfolding product unravel count_cells sum_below
numbered [] test = at_test (test []) refl
  where
    at_test : (b : Bool) → test [] ≡ b → count_below (λ n. test []) 1 ≡ (if b then 1 else 0)
    at_test true h = count_below-yes (λ n. test []) 0 h ∙ ap (λ n. n + 1) (count_below-zero (λ n. test []))
    at_test false h = count_below-no (λ n. test []) 0 h ∙ count_below-zero (λ n. test [])
numbered (e ∷ es) test = rows (λ x. numbered es (λ xs. test (x ∷ xs))) e
  where
    passes : ℕ → Bool
    passes n = test (n / product es ∷ unravel es (n % product es))

    swapped : (n x : ℕ) → n + x * product es ≡ x * product es + n
    swapped n x = omega arith

    row : (x : ℕ) → count_below (λ n. passes (n + x * product es)) (product es) ≡ count_below (λ n. test (x ∷ unravel es n)) (product es)
    row x = count_below-same (λ n. passes (n + x * product es)) (λ n. test (x ∷ unravel es n)) (product es)
        (λ n lt. let q : (n + x * product es) / product es ≡ x = ap (λ k. k / product es) (swapped n x) ∙ div-mul-add x (product es) n lt in
        let r : (n + x * product es) % product es ≡ n = ap (λ k. k % product es) (swapped n x) ∙ mod-mul-add x (product es) n lt in
        ap (λ k. test (k ∷ unravel es ((n + x * product es) % product es))) q ∙ ap (λ k. test (x ∷ unravel es k)) r)

    rows : ((x : ℕ) → count_below (λ n. test (x ∷ unravel es n)) (product es) ≡ count_cells es (λ xs. test (x ∷ xs)))
        → (x : ℕ) → count_below passes (x * product es) ≡ sum_below (λ y. count_cells es (λ xs. test (y ∷ xs))) x
    rows inner zero = ap (count_below passes) (let z : 0 * product es ≡ 0 = omega arith in z) ∙ count_below-zero passes
    rows inner (suc x) = ap (count_below passes) (let z : suc x * product es ≡ product es + x * product es = grind arith in z)
        ∙ sym (count_below-shift passes (x * product es) (product es))
        ∙ (let i : _ = rows inner x in let j : _ = row x in let k : _ = inner x in omega (arith, i, j, k))

-- ---- the forms

end_length : (o : Option End) (indices : List ℤ) → length (end_words o indices) ≡ 3
end_length (Some (Trapped kind at)) indices = refl
end_length (Some OutOfSteps) indices = refl
end_length (Some PhaseEnd) indices = refl
end_length None indices = refl

moved_length : (take give : ℕ → Bool) (ts ss : List ℕ) (vs : List ℤ) → length vs ≡ length ss
    → length (moved take give ts ss vs) ≡ count_by (λ pair. take pair.0 && give pair.1) (zip ts ss)
moved_length take give [] ss vs l = refl
moved_length take give (t ∷ ts) [] [] l = refl
moved_length take give (t ∷ ts) [] (v ∷ vs) l = absurd (omega (arith, l))
moved_length take give (t ∷ ts) (s ∷ ss) [] l = absurd (omega (arith, l))
moved_length take give (t ∷ ts) (s ∷ ss) (v ∷ vs) l =
    at_test (take t && give s) (moved take give ts ss vs) (zip ts ss) (moved_length take give ts ss vs (omega (arith, l)))
    ∙ sym (sum_by-cons (λ pair. cond (take pair.0 && give pair.1) 1 0) (t, s) (zip ts ss))
  where
    at_test : (b : Bool) (rest : List ℤ) (pairs : List (ℕ × ℕ)) → length rest ≡ count_by (λ pair. take pair.0 && give pair.1) pairs
        → length ((if b then v ∷ [] else []) ++ rest) ≡ cond b 1 0 + count_by (λ pair. take pair.0 && give pair.1) pairs
    at_test true rest pairs e = omega (arith, e)
    at_test false rest pairs e = omega (arith, e)

tasks_length : (p : ProgParts) (from to : ℕ) (es : List TaskEnd) → length (task_words p from to es) ≡ 3 * count_by (tells p from to) es
tasks_length p from to [] = refl
tasks_length p from to (e ∷ es) =
    at_test (tells p from to e) (tasks_length p from to es)
    ∙ ap (λ n. 3 * n) (sym (sum_by-cons (λ x. cond (tells p from to x) 1 0) e es))
  where
    at_test : (b : Bool) → length (task_words p from to es) ≡ 3 * count_by (tells p from to) es
        → length ((if b then end_words e.ended [] else []) ++ task_words p from to es) ≡ 3 * (cond b 1 0 + count_by (tells p from to) es)
    at_test true i = let l : _ = length-append (end_words e.ended []) (task_words p from to es) in let three : _ = end_length e.ended [] in omega (arith, i, l, three)
    at_test false i = omega (arith, i)

-- ---- what a noted exchange has

-- as many values as there are variables; the cells of a whole row; a value for each source; the end of each node,
-- with its values
abbrev pub IsWhole : ProgParts → (rows : ℕ → ℕ) → Exchange → Type 0
IsWhole p rows AtBarrier = Unit {0}
IsWhole p rows (Broadcast variables set values) = length values ≡ length variables
IsWhole p rows (Reflected array cells) = length cells ≡ rows array
IsWhole p rows (Moved target source aim values) = length values ≡ length aim.sources
IsWhole p rows (LoopEnd directive ends) = (length ends ≡ node_count p) × AllByRecursion (λ e. length e.values ≡ length directive.reductions) ends
IsWhole p rows (TasksEnd ends) = Unit {0}

end_at : (ends : List PartEnd) (k r : ℕ) → k < length ends → AllByRecursion (λ e. length e.values ≡ r) ends → length (part_words (slice_get ends k)) ≡ 3 + r
end_at [] k r lt all = absurd (omega (arith, lt))
end_at (e ∷ es) zero r lt all =
    let l : _ = length-append (end_words e.ended e.indices) e.values in let three : _ = end_length e.ended e.indices in let v : _ = all.0 in omega (arith, l, three, v)
end_at (e ∷ es) (suc k) r lt all = end_at es k r (omega (arith, lt)) all.1

-- the row of a distributed array has a cell for each of its map's
abbrev pub RowsFit : ProgParts → (rows : ℕ → ℕ) → Type 0
RowsFit p rows = (array number : ℕ) (m : ArrayMap) → home_of p array ≡ home.Spread number m → rows array ≡ product (held.extents m)

module _ (p : ProgParts) (rows : ℕ → ℕ) (fit : RowsFit p rows) where
  reflected_length : (array from to : ℕ) (cells : List ℤ) → length cells ≡ rows array → (h : Home) → home_of p array ≡ h
      → length (reflected h from to cells) ≡ reflect_due h from to
  reflected_length array from to cells l home.Copy e = refl
  reflected_length array from to cells l home.Image e = refl
  reflected_length array from to cells l (home.Spread number m) e =
      all_passing (λ n. is_reflected m from to (cell_by m n)) cells
      ∙ ap (count_below (λ n. is_reflected m from to (cell_by m n))) (l ∙ fit array number m e)
      ∙ numbered (held.extents m) (is_reflected m from to)

  said_length : (x : Exchange) → IsWhole p rows x → (from to : ℕ) → from < node_count p → length (said p x from to).words ≡ words_due p x from to
  said_length AtBarrier whole from to lt = refl
  said_length (Broadcast variables set values) whole from to lt = at_test (has_node p.grid set from)
    where
      at_test : (b : Bool) → length (if b then values else []) ≡ (if b then length variables else 0)
      at_test true = whole
      at_test false = refl
  said_length (Reflected array cells) whole from to lt = reflected_length array from to cells whole (home_of p array) refl
  said_length (Moved target source aim values) whole from to lt = moved_length (takes p target to) (gives p source from) aim.targets aim.sources values whole
  said_length (LoopEnd directive ends) whole from to lt = end_at ends from (length directive.reductions) (omega (arith, lt, whole.0)) whole.1
  said_length (TasksEnd ends) whole from to lt = tasks_length p from to ends

  said_text : (x : Exchange) (from to : ℕ) → to ≢ 0 → (said p x from to).text ≡ []
  said_text AtBarrier from to ne = refl
  said_text (Broadcast variables set values) from to ne = refl
  said_text (Reflected array cells) from to ne = refl
  said_text (Moved target source aim values) from to ne = refl
  said_text (LoopEnd directive ends) from to ne = refl
  said_text (TasksEnd ends) from to ne = at_test (to == 0) refl
    where
      at_test : (b : Bool) → (to == 0) ≡ b → (if b then task_text p from to ends else []) ≡ []
      at_test true e = absurd (ne (eqb-true to 0 e))
      at_test false e = refl

  pub as_due : (x : Exchange) → IsWhole p rows x → IsAsDue p x
  as_due x whole = record {
    words = λ from to lt ne. words_at from to lt ne (from == to) refl;
    text = λ from to ne. text_at from to ne (from == to);
    itself = λ node. ap (λ b. if b then words_alone [] else said p x node node) (eq-eqb node node refl);
  }
    where
      words_at : (from to : ℕ) → from < node_count p → from ≢ to → (b : Bool) → (from == to) ≡ b
          → length (if b then words_alone [] else said p x from to).words ≡ words_due p x from to
      words_at from to lt ne true e = absurd (ne (eqb-true from to e))
      words_at from to lt ne false e = said_length x whole from to lt

      text_at : (from to : ℕ) → to ≢ 0 → (b : Bool) → (if b then words_alone [] else said p x from to).text ≡ []
      text_at from to ne true = refl
      text_at from to ne false = said_text x from to ne

  pub all_as_due : (xs : List Exchange) → AllByRecursion (IsWhole p rows) xs → AllByRecursion (IsAsDue p) xs
  all_as_due [] all = tt
  all_as_due (x ∷ xs) all = (as_due x all.0, all_as_due xs all.1)
