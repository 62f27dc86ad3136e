-- What a run of a program notes is as it is due.
use Rattle.std.proofs.Common.{◌≡◌, ◌+◌, ◌*◌, ◌++◌, ◌==◌, ℕ, zero, suc, ℤ, pos, negsuc, true, if◌then◌else◌, List, [], ◌∷◌, map, length, replicate, take, drop, refl, sym, ap, subst, ◌∙◌, arith, length-append}
use Rattle.std.specs.Prelude.{slice_get, slice_set, unwrap_or, is_none}
use Rattle.std.specs.List.{AllByRecursion, list_all, range_with_len}
use Rattle.std.proofs.lemmas.List.{length-map, length-replicate}
use Rattle.std.proofs.lemmas.List.FromFn.{length-map-range_with_len}
use Rattle.std.proofs.lemmas.Bool.{eqb-true}
use Rattle.xmp_map.specs.declared.aligned.AlignedDim.{AlignedDim}
use Rattle.xmp_map.specs.declared.array_map.ArrayMap.{ArrayMap}
use Rattle.xmp_map.specs.RowMajor.{product}
use Rattle.xmp_map.specs.Align.{is_unused}
use Rattle.xmp_map.specs.Held as held
use Rattle.xmp_map.proofs.Counted.{and_left, and_right}
use Rattle.xmp_prog.specs.declared.parts.ProgParts.{ProgParts}
use Rattle.xmp_prog.specs.declared.parts.Array.{Array}
use Rattle.xmp_prog.specs.declared.parts.Home.TheVariants as home
use Rattle.xmp_prog.specs.declared.statements.Name.{Name}
use Rattle.xmp_prog.specs.declared.statements.LoopDirective.{LoopDirective}
use Rattle.xmp_prog.specs.Tests.{is_image}
use Rattle.xmp_prog.specs.Fits.{node_count, HomeFits, PartsFit}
use Rattle.xmp_meaning.specs.declared.ends.End.{End}
use Rattle.xmp_meaning.specs.declared.ends.Flow.{Flow}
use Rattle.xmp_meaning.specs.Cells.{row_in, write_in}
use Rattle.xmp_meaning.specs.Runs.{State, Step, Gave, Ended, Run, and_then, ◌>>=◌, state_of}
use Rattle.xmp_meaning.specs.Blocks.{each, then_run}
use Rattle.xmp_meaning.specs.Declarations.{home_of_array}
use Rattle.xmp_meaning.specs.Layouts.{Whole, row_length}
use Rattle.xmp_meaning.specs.Context.{Context}
use Rattle.xmp_meaning.specs.Expressions.{after_call}
use Rattle.xmp_meaning.specs.Calls.{main_context}
use Rattle.xmp_meaning.specs.Programs.{no_writes, beginning}
use Rattle.xmp_meaning.specs.Parts.{part_of}
use Rattle.xmp_meaning.specs.Exchanges.{Exchange, AtBarrier, Broadcast, Reflected, Moved, LoopEnd, TasksEnd, Notes, no_notes, note, note_turn, note_arrays, values_of, part_end, part_ends, task_end, traced}
use Rattle.xmp_meaning.specs.Traffic.{traffic}
use Rattle.xmp_meaning.specs.TrafficLaws.{TrafficIsAsDue}
use Rattle.xmp_meaning.proofs.Keeps.{KeepsHandlers, joins, each_kept, tasks_kept}
use Rattle.xmp_meaning.proofs.Preorders.{Respected, Respects, keeps, keeps_erased}
use Rattle.xmp_meaning.proofs.RelatedStatements.{keeps-program}
use Rattle.xmp_meaning.proofs.Stays.{Any, all_any}
use Rattle.xmp_meaning.proofs.WordsDue.{IsWhole, RowsFit, all_as_due}

-- ---- lists

all_behind : {A : Type 0} (P : A → Type 0) (xs : List A) (x : A) → AllByRecursion P xs → P x → AllByRecursion P (xs ++ x ∷ [])
all_behind P [] x all h = (h, tt)
all_behind P (y ∷ xs) x all h = (all.0, all_behind P xs x all.1 h)

all_mapped : {A B : Type 0} (P : B → Type 0) (f : A → B) (xs : List A) → ((x : A) → P (f x)) → AllByRecursion P (map f xs)
all_mapped P f [] h = tt
all_mapped P f (x ∷ xs) h = (h x, all_mapped P f xs h)

set_length : {A : Type 0} (xs : List A) (i : ℕ) (x : A) → length (slice_set xs i x) ≡ length xs
set_length [] i x = refl
set_length (y ∷ xs) zero x = refl
set_length (y ∷ xs) (suc i) x = ap suc (set_length xs i x)

-- a write leaves each row as long as it was
row_set : (rows : List (List ℤ)) (i j : ℕ) (row : List ℤ) → length row ≡ length (row_in rows i) → length (row_in (slice_set rows i row) j) ≡ length (row_in rows j)
row_set [] i j row l = refl
row_set (r ∷ rows) zero zero row l = l
row_set (r ∷ rows) zero (suc j) row l = refl
row_set (r ∷ rows) (suc i) zero row l = refl
row_set (r ∷ rows) (suc i) (suc j) row l = row_set rows i j row l

written_length : (rows : List (List ℤ)) (i j : ℕ) (at v : ℤ) → length (row_in (write_in rows i at v) j) ≡ length (row_in rows j)
written_length rows i j (pos n) v = row_set rows i j (slice_set (row_in rows i) n v) (set_length (row_in rows i) n v)
written_length rows i j (negsuc n) v = refl

-- ---- the invariant

module _ (p : ProgParts) (rows : ℕ → ℕ) where
  -- each row is as long as it was at first, and what is noted is whole
  record IsNoted (s : State Notes) : Type 0 where
    lengths : (array : ℕ) → length (row_in s.arrays array) ≡ rows array
    exchanges : AllByRecursion (IsWhole p rows) s.extra.exchanges

  abbrev StaysNoted : State Notes → State Notes → Type 0
  StaysNoted s t = IsNoted s → IsNoted t

  stays_noted : (cx : Context) → Respected Notes cx Any Any StaysNoted
  stays_noted cx = record {
    same = λ s h. h;
    then = λ s t u a b h. b (a h);
    scalars = λ s slot v may h. record { lengths = h.lengths; exchanges = h.exchanges };
    arrays = λ s row at v may h. record { lengths = λ array. written_length s.arrays row array at v ∙ h.lengths array; exchanges = h.exchanges };
    out = λ s text h. record { lengths = h.lengths; exchanges = h.exchanges };
    taken = λ s n h. record { lengths = h.lengths; exchanges = h.exchanges };
    steps = λ s n e h. record { lengths = h.lengths; exchanges = h.exchanges };
    calls = λ s k vs. of_call s (cx.call k vs s.steps);
  }
    where
      of_call : (s : State Notes) (r : Step (Unit {0}) ℤ) → StaysNoted s (state_of (after_call s r))
      of_call s (Gave v t) h = record { lengths = h.lengths; exchanges = h.exchanges }
      of_call s (Ended e t) h = record { lengths = h.lengths; exchanges = h.exchanges }

  noted : (x : Exchange) (s : State Notes) → (IsNoted s → IsWhole p rows x) → StaysNoted s (state_of (note x s))
  noted x s whole h = record { lengths = h.lengths; exchanges = all_behind (IsWhole p rows) s.extra.exchanges x h.exchanges (whole h) }

  part_whole : (directive : LoopDirective) (r : Step Notes Flow) → length (part_end directive r).values ≡ length directive.reductions
  part_whole directive r = length-map (map (λ q. q.variable.number) directive.reductions) (λ slot. unwrap_or (slice_get (state_of r).scalars slot) (pos 0))
      ∙ length-map directive.reductions (λ q. q.variable.number)

  ends_whole : (directive : LoopDirective) (around : Run Notes Flow → Run Notes Flow) (body : Run Notes Flow) (s : State Notes)
      → IsWhole p rows (LoopEnd directive (part_ends p directive around body s))
  ends_whole directive around body s = (
    length-map-range_with_len (λ node. part_end directive (part_of p directive node around body s)) 0 (node_count p),
    all_mapped (λ e. length e.values ≡ length directive.reductions) (λ node. part_end directive (part_of p directive node around body s))
        (range_with_len 0 (node_count p)) (λ node. part_whole directive (part_of p directive node around body s)),
  )

  -- as many values come as cells are read
  each_length : {C : Type 0} (read : C → Run Notes ℤ) (cs : List C) (so_far : List ℤ) (s t : State Notes) (vs : List ℤ)
      → each (map read cs) so_far s ≡ Gave vs t → length vs ≡ length so_far + length cs
  each_length read [] so_far s t vs e = let q : so_far ≡ vs = gave_same e in subst (λ xs. length xs ≡ length so_far + 0) q (let z : length so_far ≡ length so_far + 0 = omega arith in z)
    where
      value_or : Step Notes (List ℤ) → List ℤ
      value_or (Gave a u) = a
      value_or (Ended end u) = []

      gave_same : {a b : List ℤ} {u v : State Notes} → Gave a u ≡ Gave b v → a ≡ b
      gave_same e = ap value_or e
  each_length read (c ∷ cs) so_far s t vs e = at_step (λ v u. each_length read cs (so_far ++ v ∷ []) u t vs) (read c s) e
    where
      not_gave : {A : Type 0} {end : End} {u v : State Notes} {a : A} → Ended end u ≡ Gave a v → ⊥
      not_gave e = cc

      at_step : ((v : ℤ) (u : State Notes) → each (map read cs) (so_far ++ v ∷ []) u ≡ Gave vs t → length vs ≡ length (so_far ++ v ∷ []) + length cs)
          → (r : Step Notes ℤ) → and_then r (λ v. each (map read cs) (so_far ++ v ∷ [])) ≡ Gave vs t → length vs ≡ length so_far + suc (length cs)
      at_step rest (Gave v u) h = let i : _ = rest v u h in let l : _ = length-append so_far (v ∷ []) in omega (arith, i, l)
      at_step rest (Ended end u) h = absurd (not_gave h)

  module _ (cx : Context) where
    abbrev Stays : (A : Type 0) → Run Notes A → Run Notes A → Type 0
    Stays = Respects (stays_noted cx)

    stays_note_arrays : (arrays : List Name) → (s : State Notes) → StaysNoted s (state_of (note_arrays arrays s))
    stays_note_arrays [] s h = h
    stays_note_arrays (a ∷ all) s h = stays_note_arrays all (state_of (note (Reflected a.number (row_in s.arrays a.number)) s))
        (noted (Reflected a.number (row_in s.arrays a.number)) s (λ i. i.lengths a.number) h)

    -- what is read, and what is written when it is noted
    stays_moved : (x : List ℤ → Exchange) (n : ℕ) (write : List ℤ → Run Notes Flow) → ((vs : List ℤ) → length vs ≡ n → IsWhole p rows (x vs))
        → ((vs : List ℤ) (t : State Notes) → StaysNoted t (state_of (write vs t)))
        → (s : State Notes) (r : Step Notes (List ℤ)) → StaysNoted s (state_of r) → ((vs : List ℤ) (t : State Notes) → r ≡ Gave vs t → length vs ≡ n)
        → StaysNoted s (state_of (and_then r (λ vs. then_run (note (x vs)) (write vs))))
    stays_moved x n write whole i s (Gave vs t) kept l h = i vs (state_of (note (x vs) t)) (noted (x vs) t (λ q. whole vs (l vs t refl)) (kept h))
    stays_moved x n write whole i s (Ended e t) kept l h = kept h

    stays_traced : KeepsHandlers Notes Notes Any Stays (traced p) (traced p)
    stays_traced = record {
      get = (keeps_erased (stays_noted cx)).get;
      put = (keeps_erased (stays_noted cx)).put;
      loop = λ directive around around' body body' h i s inv.
          h (then_run (note_turn p directive) body) (then_run (note_turn p directive) body)
          (λ t q. i _ (record { lengths = q.lengths; exchanges = q.exchanges })) _
          (noted (LoopEnd directive (part_ends p directive around body s)) s (λ q. ends_whole directive around body s) inv);
      reflect = stays_note_arrays;
      barrier = λ s. noted AtBarrier s (λ q. tt);
      bcast = λ variables nodes s. noted (Broadcast variables nodes (values_of s (map (λ v. v.number) variables))) s (λ q. length-map (map (λ v. v.number) variables) (λ slot. unwrap_or (slice_get s.scalars slot) (pos 0)) ∙ length-map variables (λ v. v.number));
      gmove = λ target source aim aim' read read' write write' h i j.
          (keeps (stays_noted cx)).goes_on {p = aim} {q = aim} {f = λ a. each (map read a.sources) [] >>= (λ vs. then_run (note (Moved target source a vs)) (write a.targets vs))}
          {g = λ a. each (map read a.sources) [] >>= (λ vs. then_run (note (Moved target source a vs)) (write a.targets vs))} h
          (λ a s. stays_moved (Moved target source a) (length a.sources) (write a.targets) (λ vs l. l) (j a.targets) s (each (map read a.sources) [] s)
          (each_kept (joins (keeps (stays_noted cx))) read read i a.sources [] s)
          (λ vs t e. each_length read a.sources [] s t vs e ∙ (let z : 0 + length a.sources ≡ length a.sources = omega arith in z)));
      tasks = λ ts us alike s inv. tasks_kept (joins (keeps (stays_noted cx))) ts us alike _ (noted (TasksEnd (map (task_end s) ts)) s (λ q. tt) inv);
      sync = λ s h. h;
    }

-- ---- rows

unused_product : (ls : List AlignedDim) → list_all is_unused ls ≡ true → product (map (λ l. l.extent) ls) ≡ 1
unfolding product
unused_product [] u = refl
unused_product (l ∷ ls) u =
    let rest : _ = unused_product ls (and_right (is_unused l) (list_all is_unused ls) u) in
    let one : l.extent ≡ 1 = eqb-true l.extent 1 (and_left (l.extent == 1) (is_none l.target.dim) (and_left (is_unused l) (list_all is_unused ls) u)) in
    rw (one, rest) refl

used_product : (ls : List AlignedDim) (dims : ℕ) → list_all is_unused (drop dims ls) ≡ true
    → product (take dims (map (λ l. l.extent) ls)) ≡ product (map (λ l. l.extent) ls)
unfolding product
used_product ls zero u = sym (unused_product ls u)
used_product [] (suc dims) u = refl
used_product (l ∷ ls) (suc dims) u = ap (λ n. l.extent * n) (used_product ls dims u)

home_at : (p : ProgParts) (all : List Array) (array number : ℕ) (m : ArrayMap) → AllByRecursion (λ a. HomeFits p a a.home) all
    → home_of_array (slice_get all array) ≡ home.Spread number m
    → length (row_in (map (λ a. replicate (row_length Whole p a) (pos 0)) all) array) ≡ product (held.extents m)
home_at p [] array number m all e = cc
home_at p (a ∷ all) zero number m fits e =
    let fit : HomeFits p a (home.Spread number m) = subst (HomeFits p a) e fits.0 in
    length-replicate (row_length Whole p a) (pos 0)
    ∙ ap (λ h. (if is_image h then node_count p else 1) * product a.extents) e
    ∙ (let once : 1 * product a.extents ≡ product a.extents = omega arith in once)
    ∙ ap product (sym fit.extents) ∙ used_product m.aligned m.dims m.rest
home_at p (a ∷ all) (suc array) number m fits e = home_at p all array number m fits.1 e

rows_fit : (p : ProgParts) → PartsFit p → RowsFit p (λ array. length (row_in (no_writes Whole p) array))
rows_fit p fit array number m e = home_at p p.arrays array number m fit.mappings.maps e

pub traffic_as_due : (p : ProgParts) (input : List ℕ) (steps : ℕ) → PartsFit p → TrafficIsAsDue p input steps
traffic_as_due p input steps fit = all_as_due p rows (rows_fit p fit) (traffic p input steps)
    (keeps-program cx (keeps (stays_noted p rows cx)) (stays_traced p rows cx) (all_any _) (all_any _) (all_any _)
    (beginning Whole p steps (no_notes p)) (record { lengths = λ array. refl; exchanges = tt })).exchanges
  where
    rows : ℕ → ℕ
    rows array = length (row_in (no_writes Whole p) array)

    cx : Context
    cx = main_context p 0 input
