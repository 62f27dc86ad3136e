-- All nodes follow a reflect.
use Rattle.std.proofs.Common.{◌≡◌, ◌≢◌, ◌<◌, ◌≤◌, ◌+◌, ◌*◌, ◌++◌, ◌==◌, inl, inr, if◌then◌else◌, ℕ, ℤ, Bool, true, false, List, [], ◌∷◌, map, length, Option, Some, option_map, refl, sym, ap, subst, ◌∙◌, arith, ne_eqb}
use Rattle.std.specs.Prelude.{slice_get, slice_set}
use Rattle.std.specs.List.{AllByRecursion, range_with_len}
use Rattle.std.proofs.lemmas.Option.{slice_get_within}
use Rattle.xmp_map.specs.declared.array_map.ArrayMap.{ArrayMap}
use Rattle.xmp_map.specs.RowMajor.{product, row_major}
use Rattle.xmp_map.specs.Boxes.{IsInside}
use Rattle.xmp_map.specs.Held as held
use Rattle.xmp_prog.specs.declared.parts.ProgParts.{ProgParts}
use Rattle.xmp_prog.specs.declared.parts.Array.{Array}
use Rattle.xmp_prog.specs.declared.parts.Home.{Home}
use Rattle.xmp_prog.specs.declared.parts.Home.TheVariants as home
use Rattle.xmp_prog.specs.declared.statements.Name.{Name}
use Rattle.xmp_prog.specs.declared.statements.Plain.TheVariants as plain
use Rattle.xmp_prog.specs.Fits.{node_count}
use Rattle.xmp_paths.specs.declared.event.Event.{Event}
use Rattle.xmp_paths.specs.declared.event.Event.TheVariants.{Mark}
use Rattle.xmp_paths.specs.Plans.{Plan, skip, sequence, in_order}
use Rattle.xmp_paths.specs.Safe.{left}
use Rattle.xmp_paths.proofs.SafeLaws.{safe_back}
use Rattle.xmp_loops.specs.Objects.{scalar_object, array_object, all_nodes}
use Rattle.xmp_flow.specs.Setting.{current_on_all}
use Rattle.xmp_flow.specs.PlainEvents.{reflected, reflected_at, plain_events}
use Rattle.xmp_flow.specs.Program.{outermost}
use Rattle.xmp_meaning.specs.declared.ends.Flow.{Flow}
use Rattle.xmp_meaning.specs.declared.ends.Flow.TheVariants.{Next}
use Rattle.xmp_meaning.specs.Cells.{row_in}
use Rattle.xmp_meaning.specs.Runs.{State, Gave, Run, pure}
use Rattle.xmp_meaning.specs.Declarations.{extents, home_of}
use Rattle.xmp_meaning.specs.Exchanges.{Notes, Exchange, Reflected, note, note_arrays}
use Rattle.xmp_meaning.specs.Messages.{message, said, words_sent, words_alone, reflected as reflected_words}
use Rattle.xmp_meaning.specs.Traffic.{node_beginning, copied}
use Rattle.xmp_move.specs.Sides.{owns_cell, holds_cell, position}
use Rattle.xmp_move.specs.Stores.{word_at, unpacked_of}
use Rattle.xmp_move.specs.Cells.{indices}
use Rattle.xmp_move.specs.Whole.{Shows, reflecting, selves}
use Rattle.xmp_move.proofs.SidesKept.{owners_hold}
use Rattle.xmp_nodes.specs.Nodes.{store_at}
use Rattle.xmp_nodes.specs.Reflecting.{reflect_ways, reflect_pairs, row_at, reflect_said, reflected_row, reflect_one, reflect_at, reflect_all}
use Rattle.xmp_nodes.proofs.Agrees.{Agrees, ReadyAt, at_main, AllFollow, IsNext}
use Rattle.xmp_nodes.proofs.Standing.{IsGlobal}
use Rattle.xmp_nodes.proofs.Leaves.{ReflectsFollow}
use Rattle.xmp_nodes.proofs.PlainParts.{plain_stands}
use Rattle.xmp_nodes.proofs.Each.{Alone, there, store_there, store_is}
use Rattle.xmp_nodes.proofs.Saying.{say_and_do}
use Rattle.xmp_nodes.proofs.InStep.{ready_paths, way_skipped, all_pure, all_then, all_paths}
use Rattle.xmp_nodes.proofs.AllSteps.{counts_silent}
use Rattle.xmp_nodes.proofs.CastLaws.{untouched}
use Rattle.xmp_nodes.proofs.CastLeaf.{noting_one}
use Rattle.xmp_nodes.proofs.CopiedLaws.{copied_here, copied_other}
use Rattle.xmp_nodes.proofs.PackedRows.{same_or_other, tell, IsSpreadArray, spread_array, home_there, row_read, set_lengths, set_row_here, set_row_other, IsRowOf, spread_row, whole_row, some_nodes}
use Rattle.xmp_nodes.proofs.ReflectLaws.{reflected_shows, unpacked_long}
use Rattle.xmp_nodes.proofs.ReflectCounts.{reflect_counts}

-- ---- a node after a reflect

abbrev marks : ProgParts → ℕ → List Event
marks p array = Mark (array_object array) (all_nodes p) 0 ∷ []

module _ (p : ProgParts) (global : IsGlobal p) (array t : ℕ) (m : ArrayMap) (is_home : home_of p array ≡ home.Spread t m) (k : ℕ) (below : k < node_count p) where
  of_array : IsSpreadArray p array t m
  of_array = spread_array p global array t m is_home

  abbrev with_row_of : List ℤ → Alone → Alone
  with_row_of new n = record n { arrays = slice_set n.arrays array new }

  abbrev shown : List ℤ → List ℤ → Type 0
  shown new whole = Shows (extents p array) (holds_cell (home.Spread t m) k) (position (home.Spread t m) (extents p array) k) new whole

  home_same : (u : ℕ) (q : ArrayMap) → home_of p array ≡ home.Spread u q → home.Spread u q ≡ home.Spread t m
  home_same u q e = sym e ∙ is_home

  -- the node agrees then
  reflect_agrees : (stale : ℕ → Bool) (s : State Notes) (n : Alone) (new : List ℤ) → Agrees (at_main p k) stale s n
      → length new ≡ length (row_in n.arrays array) → shown new (row_in s.arrays array)
      → ((cell : List ℕ) → IsInside cell (extents p array) → owns_cell (home.Spread t m) k cell ≡ true → holds_cell (home.Spread t m) k cell ≡ true)
      → Agrees (at_main p k) (left k (marks p array) stale) (noting_one (Reflected array (row_in s.arrays array)) s) (with_row_of new n)
  reflect_agrees stale s n new g long shows holds = record {
    whole = record { scalars = g.whole.scalars; rows = g.whole.rows; values = record { scalars = g.whole.values.scalars; cells = g.whole.values.cells } };
    packed = record {
      scalars = g.packed.scalars;
      rows = set_lengths n.arrays array own.row new own.at (long ∙ ap length (row_read n.arrays array own.row own.at)) ∙ g.packed.rows;
      no_coarrays = g.packed.no_coarrays;
    };
    typed = g.typed;
    scalars = λ slot r e. g.scalars slot r (sym (scalar_same slot) ∙ e);
    indices = λ slot e. cc;
    sums = λ slot op e. cc;
    copies = λ b e f. copies_at b e f (tell array b);
    owned = λ b u q e. owned_at b u q e (tell array b);
    shadows = λ b u q cell e i h o. shadows_at b u q cell e i h o (tell array b);
    current = λ b u q e f w number. current_at b u q e f w number (tell array b);
    point = λ d e. cc;
    steps = g.steps;
    out = g.out;
    taken = g.taken;
  }
    where
      own : IsRowOf p k array m n.arrays
      own = spread_row p k array t m n of_array g.packed

      x : Exchange
      x = Reflected array (row_in s.arrays array)

      scalar_same : (slot : ℕ) → left k (marks p array) stale (scalar_object slot) ≡ stale (scalar_object slot)
      scalar_same slot = untouched k (scalar_object slot) (array_object array) (all_nodes p) 0 (ne_eqb (array_object array) (scalar_object slot) (λ e. odd array slot e)) (stale (scalar_object slot))
        where
          odd : (a b : ℕ) → 2 * a + 1 ≡ 2 * b → ⊥
          odd a b e = omega (arith, e)

      other_same : (b : ℕ) → array ≢ b → left k (marks p array) stale (array_object b) ≡ stale (array_object b)
      other_same b ne = untouched k (array_object b) (array_object array) (all_nodes p) 0 (ne_eqb (array_object array) (array_object b) (λ e. ne (halves array b e))) (stale (array_object b))
        where
          halves : (a b : ℕ) → 2 * a + 1 ≡ 2 * b + 1 → a ≡ b
          halves a b e = omega (arith, e)

      here : row_in (slice_set n.arrays array new) array ≡ new
      here = set_row_here n.arrays array own.row new own.at

      elsewhere : (b : ℕ) → array ≢ b → row_in (slice_set n.arrays array new) b ≡ row_in n.arrays b
      elsewhere b ne = set_row_other n.arrays array b new ne

      copies_at : (b : ℕ) → home_of p b ≡ home.Copy → left k (marks p array) stale (array_object b) ≡ false → same_or_other array b
          → row_in (slice_set n.arrays array new) b ≡ row_in s.arrays b
      copies_at b e f (inl same) = absurd (no_copy (sym (ap (home_of p) same) ∙ is_home) e)
        where
          no_copy : {h : Home} → h ≡ home.Spread t m → h ≡ home.Copy → ⊥
          no_copy a b = cc
      copies_at b e f (inr other) = elsewhere b other.0 ∙ g.copies b e (sym (other_same b other.0) ∙ f)

      shows_at : (b u : ℕ) (q : ArrayMap) → array ≡ b → home_of p b ≡ home.Spread u q
          → Shows (extents p b) (holds_cell (home.Spread u q) k) (position (home.Spread u q) (extents p b) k) (row_in (slice_set n.arrays array new) b) (row_in s.arrays b)
      shows_at b u q same e =
          subst (λ b. home_of p b ≡ home.Spread u q → Shows (extents p b) (holds_cell (home.Spread u q) k) (position (home.Spread u q) (extents p b) k) (row_in (slice_set n.arrays array new) b) (row_in s.arrays b)) same
          (λ f. subst (λ (h : Home). Shows (extents p array) (holds_cell h k) (position h (extents p array) k) (row_in (slice_set n.arrays array new) array) (row_in s.arrays array)) (sym (home_same u q f))
          (subst (λ r. shown r (row_in s.arrays array)) (sym here) shows)) e

      owned_at : (b u : ℕ) (q : ArrayMap) → home_of p b ≡ home.Spread u q → same_or_other array b
          → Shows (extents p b) (owns_cell (home.Spread u q) k) (position (home.Spread u q) (extents p b) k) (row_in (slice_set n.arrays array new) b) (row_in s.arrays b)
      owned_at b u q e (inl same) cell inside has = shows_at b u q same e cell inside (holds_at b u q same e cell inside has)
        where
          holds_at : (b u : ℕ) (q : ArrayMap) → array ≡ b → home_of p b ≡ home.Spread u q → (cell : List ℕ) → IsInside cell (extents p b) → owns_cell (home.Spread u q) k cell ≡ true → holds_cell (home.Spread u q) k cell ≡ true
          holds_at b u q same e = subst (λ b. home_of p b ≡ home.Spread u q → (cell : List ℕ) → IsInside cell (extents p b) → owns_cell (home.Spread u q) k cell ≡ true → holds_cell (home.Spread u q) k cell ≡ true) same
              (λ f. subst (λ (h : Home). (cell : List ℕ) → IsInside cell (extents p array) → owns_cell h k cell ≡ true → holds_cell h k cell ≡ true) (sym (home_same u q f)) holds) e
      owned_at b u q e (inr other) cell inside has =
          ap (λ r. word_at r (position (home.Spread u q) (extents p b) k cell)) (elsewhere b other.0) ∙ g.owned b u q e cell inside has

      shadows_at : (b u : ℕ) (q : ArrayMap) (cell : List ℕ) → home_of p b ≡ home.Spread u q → IsInside cell (extents p b)
          → holds_cell (home.Spread u q) k cell ≡ true → owns_cell (home.Spread u q) k cell ≡ false → same_or_other array b
          → word_at (row_in (slice_set n.arrays array new) b) (position (home.Spread u q) (extents p b) k cell)
          ≡ copied (s.extra.exchanges ++ x ∷ []) b (row_major (extents p b) cell)
      shadows_at b u q cell e i h o (inl same) =
          shows_at b u q same e cell i h
          ∙ sym (copied_here s.extra.exchanges b (row_major (extents p b) cell) (row_in s.arrays b))
          ∙ ap (λ a. copied (s.extra.exchanges ++ Reflected a (row_in s.arrays a) ∷ []) b (row_major (extents p b) cell)) (sym same)
      shadows_at b u q cell e i h o (inr other) =
          ap (λ r. word_at r (position (home.Spread u q) (extents p b) k cell)) (elsewhere b other.0)
          ∙ g.shadows b u q cell e i h o
          ∙ sym (copied_other s.extra.exchanges b array (row_major (extents p b) cell) (row_in s.arrays array) other.1)

      current_at : (b u : ℕ) (q : ArrayMap) → home_of p b ≡ home.Spread u q → left k (marks p array) stale (array_object b) ≡ false → (outermost p).written b ≡ false
          → (number : ℕ) → same_or_other array b → copied (s.extra.exchanges ++ x ∷ []) b number ≡ word_at (row_in s.arrays b) number
      current_at b u q e f w number (inl same) =
          ap (λ a. copied (s.extra.exchanges ++ Reflected a (row_in s.arrays a) ∷ []) b number) same
          ∙ copied_here s.extra.exchanges b number (row_in s.arrays b)
      current_at b u q e f w number (inr other) =
          copied_other s.extra.exchanges b array number (row_in s.arrays array) other.1
          ∙ g.current b u q e (sym (other_same b other.0) ∙ f) w number

-- ---- all nodes, at one array

note_is : (x : Exchange) (s : State Notes) → note x s ≡ Gave Next (noting_one x s)
note_is x s = refl

module _ (p : ProgParts) (global : IsGlobal p) (name : Name) where
  abbrev array : ℕ
  array = name.number

  abbrev noted : State Notes → Exchange
  noted s = Reflected array (row_in s.arrays array)

  abbrev OneFollows : Plan Event → Home → Type 0
  OneFollows plan h = AllFollow p IsNext plan (λ s. note (noted s) s) (reflect_at p array h)

  -- an array that isn't distributed
  alike_agrees : (k : ℕ) (stale : ℕ → Bool) (s : State Notes) (n : Alone) → ((t : ℕ) (m : ArrayMap) → home_of p array ≡ home.Spread t m → ⊥)
      → Agrees (at_main p k) stale s n → Agrees (at_main p k) stale (noting_one (noted s) s) n
  alike_agrees k stale s n none g = record {
    whole = record { scalars = g.whole.scalars; rows = g.whole.rows; values = record { scalars = g.whole.values.scalars; cells = g.whole.values.cells } };
    packed = g.packed;
    typed = g.typed;
    scalars = g.scalars;
    indices = λ slot e. cc;
    sums = λ slot op e. cc;
    copies = g.copies;
    owned = g.owned;
    shadows = λ b u q cell e i h o. g.shadows b u q cell e i h o ∙ sym (copied_other s.extra.exchanges b array (row_major (extents p b) cell) (row_in s.arrays array) (apart b u q e));
    current = λ b u q e f w number. copied_other s.extra.exchanges b array number (row_in s.arrays array) (apart b u q e) ∙ g.current b u q e f w number;
    point = λ d e. cc;
    steps = g.steps;
    out = g.out;
    taken = g.taken;
  }
    where
      apart : (b u : ℕ) (q : ArrayMap) → home_of p b ≡ home.Spread u q → (array == b) ≡ false
      apart b u q e = ne_eqb array b (λ same. none u q (ap (home_of p) same ∙ e))

  silent : (s : State Notes) → ((h : Home) → home_of p array ≡ h → (from to : ℕ) (cells : List ℤ) → reflected_words h from to cells ≡ []) → (from to : ℕ) → words_sent (message p (noted s) from to) ≡ 0
  silent s none from to = at_test (from == to)
    where
      at_test : (b : Bool) → words_sent (if b then words_alone [] else said p (noted s) from to) ≡ 0
      at_test true = refl
      at_test false = ap (λ ws. words_sent (words_alone ws)) (none (home_of p array) refl from to (row_in s.arrays array))

  other_follows : ((h : Home) → home_of p array ≡ h → (from to : ℕ) (cells : List ℤ) → reflected_words h from to cells ≡ [])
      → ((t : ℕ) (m : ArrayMap) → home_of p array ≡ home.Spread t m → ⊥) → AllFollow p IsNext skip (λ s. note (noted s) s) (pure Next)
  other_follows quiet none rest s w ready =
      let r = ready_paths p (sequence skip rest) rest s w (way_skipped rest) ready in
      record {
        same = refl;
        value = refl;
        ready = record {
          many = r.many;
          nodes = λ k n e. let q = r.nodes k n e in record { stale = q.stale; safe = q.safe; agrees = alike_agrees k q.stale s n none q.agrees };
          counts = counts_silent p s.extra w.turns w.sent (noted s) r.counts (silent s quiet);
        };
      }

  -- a distributed one
  spread_follows : (t : ℕ) (m : ArrayMap) → home_of p array ≡ home.Spread t m → AllFollow p IsNext (current_on_all (outermost p) (array_object array)) (λ s. note (noted s) s) (reflect_one p array)
  spread_follows t m e rest s w ready =
      say_and_do p rest IsNext Next Next step s (noting_one (noted s) s) w (reflect_said p array w) (noted s)
      some ready.many refl ready.counts (λ from to lf lt ne. reflect_counts p global array t m e w (row_in s.arrays array) whole from to lf lt ne) refl each
    where
      of : IsSpreadArray p array t m
      of = spread_array p global array t m e

      step : ℕ → Run (Unit {0}) Flow
      step node n = Gave Next (record n { arrays = slice_set n.arrays array (reflected_row p array w node) })

      some : 0 < node_count p
      some = some_nodes p

      first : Alone
      first = store_at (node_beginning p 0 0) w 0

      whole : length (row_in s.arrays array) ≡ product (extents p array)
      whole =
          let r = ready.nodes 0 first (store_there (node_beginning p 0 0) w 0 (let l = ready.many in let z = some in omega (arith, l, z))) in
          whole_row p global array t m s of r.agrees.whole

      row_is : (k : ℕ) (n : Alone) → slice_get w.stores k ≡ Some n → row_at p array w k ≡ row_in n.arrays array
      row_is k n f = ap (λ (u : Alone). row_in u.arrays array) (store_is (node_beginning p 0 0) w k n f)

      owners : (k : ℕ) → k < node_count p → Shows (extents p array) (owns_cell (home.Spread t m) k) (position (home.Spread t m) (extents p array) k) (row_at p array w k) (row_in s.arrays array)
      owners k lt =
          let n = store_at (node_beginning p 0 0) w k in
          let there = store_there (node_beginning p 0 0) w k (let l = ready.many in omega (arith, l, lt)) in
          (ready.nodes k n there).agrees.owned array t m e

      long : (k : ℕ) (n : Alone) → slice_get w.stores k ≡ Some n → (r : ReadyAt p k (sequence (current_on_all (outermost p) (array_object array)) rest) s n) → held.words m k ≤ length (row_at p array w k)
      long k n f r =
          let own = spread_row p k array t m n of r.agrees.packed in
          let l : length (row_at p array w k) ≡ length own.row = ap length (row_is k n f ∙ row_read n.arrays array own.row own.at) in
          let o = own.long in
          omega (arith, l, o)

      shows : (k : ℕ) → k < node_count p → held.words m k ≤ length (row_at p array w k)
          → Shows (extents p array) (holds_cell (home.Spread t m) k) (position (home.Spread t m) (extents p array) k) (reflected_row p array w k) (row_in s.arrays array)
      shows k lt le =
          subst (λ (h : Home). Shows (extents p array) (holds_cell (home.Spread t m) k) (position (home.Spread t m) (extents p array) k)
          (unpacked_of (λ v. v) (reflecting (holds_cell h) (owns_cell h) (position h (extents p array))) (selves (indices (extents p array))) (row_at p array w) (row_at p array w k) k (range_with_len 0 (node_count p))) (row_in s.arrays array)) (sym e)
          (reflected_shows t m (extents p array) of.three of.fits (node_count p) of.nodes (row_at p array w) (row_in s.arrays array) k lt le owners)

      each : (k : ℕ) (n : Alone) → slice_get w.stores k ≡ Some n → (u : Alone) × (step k n ≡ Gave Next u) × ReadyAt p k rest (noting_one (noted s) s) u
      each k n f =
          let below : k < node_count p = (let i = slice_get_within w.stores k n f in let l = ready.many in omega (arith, i, l)) in
          let r = ready.nodes k n f in (
            record n { arrays = slice_set n.arrays array (reflected_row p array w k) },
            refl,
            record {
              stale = left k (marks p array) r.stale;
              safe = safe_back k (current_on_all (outermost p) (array_object array)) rest r.stale r.safe (marks p array) refl;
              agrees = reflect_agrees p global array t m e k below r.stale s n (reflected_row p array w k) r.agrees
                  (unpacked_long (λ v. v) (reflect_ways p array) (reflect_pairs p array) (row_at p array w) (row_at p array w k) k (range_with_len 0 (node_count p)) ∙ ap length (row_is k n f))
                  (shows k below (long k n f r))
                  (λ cell i o. owners_hold t m (extents p array) cell k of.three of.fits i (let b = below in let c = of.nodes in omega (arith, b, c)) o);
            },
          )

  -- whichever it is
  one_follows : (a : Array) → slice_get p.arrays array ≡ Some a → (h : Home) → a.home ≡ h → AllFollow p IsNext (reflected_at (outermost p) array (Some h)) (λ s. note (noted s) s) (reflect_at p array h)
  one_follows a at (home.Spread t m) e = spread_follows t m (home_there p array a at ∙ e)
  one_follows a at home.Copy e = other_follows
      (λ h f from to cells. ap (λ (g : Home). reflected_words g from to cells) (sym f ∙ home_there p array a at ∙ e))
      (λ t m f. no_copy (sym (home_there p array a at ∙ e) ∙ f))
    where
      no_copy : {t : ℕ} {m : ArrayMap} → home.Copy ≡ home.Spread t m → ⊥
      no_copy e = cc
  one_follows a at home.Image e = other_follows
      (λ h f from to cells. ap (λ (g : Home). reflected_words g from to cells) (sym f ∙ home_there p array a at ∙ e))
      (λ t m f. no_image (sym (home_there p array a at ∙ e) ∙ f))
    where
      no_image : {t : ℕ} {m : ArrayMap} → home.Image ≡ home.Spread t m → ⊥
      no_image e = cc

  pub name_follows : array < length p.arrays → AllFollow p IsNext (reflected (outermost p) name) (λ s. note (noted s) s) (reflect_at p array (home_of p array))
  name_follows lt =
      let a = there p.arrays array lt in
      subst (λ (o : Option Array). AllFollow p IsNext (reflected_at (outermost p) array (option_map (λ a. a.home) o)) (λ s. note (noted s) s) (reflect_at p array (home_of p array))) (sym a.1)
      (subst (λ (h : Home). AllFollow p IsNext (reflected_at (outermost p) array (Some a.0.home)) (λ s. note (noted s) s) (reflect_at p array h)) (sym (home_there p array a.0 a.1))
      (one_follows a.0 a.1 a.0.home refl))

names_follow : (p : ProgParts) → IsGlobal p → (names : List Name) → AllByRecursion (λ a. a < length p.arrays) (map (λ n. n.number) names)
    → AllFollow p IsNext (in_order (map (reflected (outermost p)) names)) (note_arrays names) (reflect_all p names)
names_follow p global [] h = all_pure p IsNext Next refl
names_follow p global (a ∷ names) h =
    all_then p IsNext (reflected (outermost p) a) (in_order (map (reflected (outermost p)) names))
    (λ s. note (Reflected a.number (row_in s.arrays a.number)) s) (note_arrays names) (reflect_at p a.number (home_of p a.number)) (reflect_all p names)
    (name_follows p global a h.0) (names_follow p global names h.1)

pub reflects_follow : ReflectsFollow
reflects_follow p global arrays at fits right =
    all_paths p IsNext (in_order (map (reflected (outermost p)) arrays)) (plain_events (plain.Reflect arrays at) (outermost p)) (note_arrays arrays) (reflect_all p arrays) (way_skipped (in_order (map (reflected (outermost p)) arrays)))
    (names_follow p global arrays (plain_stands p (plain.Reflect arrays at) fits).arrays)
