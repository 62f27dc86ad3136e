-- All nodes follow a gmove.
use Rattle.std.proofs.Common.{inl, inr, append-nil, ◌≡◌, ◌<◌, ◌++◌, ◌&&◌, ℕ, ℤ, Bool, true, false, List, [], ◌∷◌, map, Some, refl, sym, ap, subst, subst₂, ◌∙◌, arith}
use Rattle.std.specs.Prelude.{slice_get}
use Rattle.std.specs.List.{AllByRecursion, range_with_len}
use Rattle.std.proofs.lemmas.List.{length-map}
use Rattle.std.proofs.lemmas.Option.{slice_get_within, none-some, same_Some}
use Rattle.xmp_base.specs.declared.place.Place.{Place}
use Rattle.xmp_num.specs.Arithmetic.{wrap}
use Rattle.xmp_map.specs.RowMajor.{product, row_major}
use Rattle.xmp_map.proofs.Order.{row_major-lt, inside_below}
use Rattle.xmp_prog.specs.declared.parts.ProgParts.{ProgParts}
use Rattle.xmp_prog.specs.declared.parts.Home.TheVariants as home
use Rattle.xmp_prog.specs.declared.statements.MoveSide.{MoveSide}
use Rattle.xmp_prog.specs.declared.statements.MoveSide.TheVariants as side
use Rattle.xmp_prog.specs.declared.statements.Plain.TheVariants as plain
use Rattle.xmp_prog.specs.Fits.{node_count}
use Rattle.xmp_prog.specs.Directives.{side_fits, sections_agree}
use Rattle.xmp_paths.specs.NodeSets.{has}
use Rattle.xmp_paths.specs.declared.event.Event.{Event}
use Rattle.xmp_paths.specs.Plans.{Plan, skip, sequence, in_order, Path}
use Rattle.xmp_paths.specs.Walk.{after_events}
use Rattle.xmp_paths.specs.Safe.{left, Safe, NothingWrong}
use Rattle.xmp_paths.proofs.PathLaws.{walk-append}
use Rattle.xmp_paths.proofs.SafeLaws.{safe_front, safe_back}
use Rattle.xmp_loops.specs.Objects.{all_nodes}
use Rattle.xmp_flow.specs.PlainEvents.{side_events, source_events, moved, plain_events}
use Rattle.xmp_flow.specs.Program.{outermost}
use Rattle.xmp_meaning.specs.declared.ends.Flow.{Flow}
use Rattle.xmp_meaning.specs.declared.ends.Flow.TheVariants.{Next}
use Rattle.xmp_meaning.specs.Runs.{State, Step, Gave, Ended, Run, and_then, ◌>>=◌}
use Rattle.xmp_meaning.specs.Blocks.{each, then_run}
use Rattle.xmp_meaning.specs.Handlers.{Aim, erased}
use Rattle.xmp_meaning.specs.Sections.{Chosen, aim, read_cell, store_all, numbers}
use Rattle.xmp_meaning.specs.Exchanges.{Notes, Moved, note, traced}
use Rattle.xmp_meaning.specs.Traffic.{node_context, node_beginning}
use Rattle.xmp_move.specs.Ways.{Pair}
use Rattle.xmp_move.specs.Cells.{pairs_between}
use Rattle.xmp_move.specs.Sides.{gives_cell, position}
use Rattle.xmp_move.specs.Stores.{IsIn, unpacked_of}
use Rattle.xmp_move.specs.Whole.{Shows}
use Rattle.xmp_move.specs.Meant.{extents_in}
use Rattle.xmp_move.specs.Assigned.{AreGood, AreNodes, IsAssigned}
use Rattle.xmp_move.proofs.Boxes.{in_range, range_in}
use Rattle.xmp_move.proofs.Assigning.{assignment, source_inside, aims_are_pairs, gmoves_arrays, rows_are_kept}
use Rattle.xmp_nodes.specs.Nodes.{Nodes, store_at, all_do}
use Rattle.xmp_nodes.specs.Worlds.{out_of}
use Rattle.xmp_nodes.specs.Rows.{home_of_side, extents_of_side, type_of_side, with_row}
use Rattle.xmp_nodes.specs.Moving.{move_ways, source_row, move_said, moved_row, move_all}
use Rattle.xmp_nodes.proofs.Agrees.{Agrees, ReadyAt, Ready, at_main, AllAlong, IsNext}
use Rattle.xmp_nodes.proofs.Standing.{IsGlobal}
use Rattle.xmp_nodes.proofs.Leaves.{serial_cx, GmovesFollow}
use Rattle.xmp_nodes.proofs.Follow.{agrees_fewer}
use Rattle.xmp_nodes.proofs.Each.{Alone, store_there, store_is}
use Rattle.xmp_nodes.proofs.NodeBits.{all_have}
use Rattle.xmp_nodes.proofs.PlainParts.{plain_stands}
use Rattle.xmp_nodes.proofs.Words.{words_of_side, row_of_is, value_in, reads_all}
use Rattle.xmp_nodes.proofs.Stillness.{Came, Value, Stopped, came_to, as_step, Still, Quiet, quiet_skip, safe_behind}
use Rattle.xmp_nodes.proofs.NumberLaws.{Alike, alike_side}
use Rattle.xmp_nodes.proofs.AimLaws.{still_aim, GoodAim, good_aim}
use Rattle.xmp_nodes.proofs.Saying.{say_and_do}
use Rattle.xmp_nodes.proofs.PackedRows.{some_nodes}
use Rattle.xmp_nodes.proofs.MoveCounts.{InSideOf, move_counts}
use Rattle.xmp_nodes.proofs.MoveSides.{is_array, side_long, source_quiet, source_current, source_shows}
use Rattle.xmp_nodes.proofs.MoveAfter.{traced_plainly, all_still, meant, values, exchange, RowAssigned, After, side_after}

-- ---- a way through the plan

-- behind what reads alone
record Marked (k : ℕ) (plan : Plan Event) (way : List Event) : Type 0 where
  full : List Event
  path : Path plan full
  same : (stale : ℕ → Bool) (object : ℕ) → left k full stale object ≡ left k way stale object

marked_behind : (k : ℕ) (a b : Plan Event) (way : List Event) → Quiet k a → Marked k b way → Marked k (sequence a b) way
marked_behind k a b way q m = record {
  full = q.way ++ m.full;
  path = record { front = q.way; back = m.full; whole = refl; in_front = q.path; in_back = m.path };
  same = λ stale object.
      walk-append object k q.way m.full (stale object)
      ∙ ap (after_events object k m.full) (q.keeps stale object)
      ∙ m.same stale object;
}

marked_last : (k : ℕ) (a : Plan Event) (way : List Event) → Path a way → Marked k (sequence a skip) way
marked_last k a way h = record {
  full = way ++ [];
  path = record { front = way; back = []; whole = refl; in_front = h; in_back = refl };
  same = λ stale object. ap (λ l. left k l stale object) (append-nil way);
}

all_mapped : {A : Type 0} (P : ℕ → Type 0) (f : A → ℕ) (xs : List A) → ((x : A) → IsIn x xs → P (f x)) → AllByRecursion P (map f xs)
unfolding IsIn
all_mapped P f [] h = tt
all_mapped P f (x ∷ xs) h = (h x (inl refl), all_mapped P f xs (λ y i. h y (inr i)))

extents_same : (p : ProgParts) (m : MoveSide) → extents_in p m ≡ extents_of_side p m
extents_same p (side.Scalar name) = refl
extents_same p (side.Array name parts) = refl

both_fit : (a b : Bool) → (a && b) ≡ true → (a ≡ true) × (b ≡ true)
both_fit true b e = (refl, e)
both_fit false b e = cc

-- ---- all nodes

module _ (p : ProgParts) (global : IsGlobal p) (input : List ℕ) (target source : MoveSide) (at : Place)
    (target_fits : side_fits p target ≡ true) (source_fits : side_fits p source ≡ true) (agree : sections_agree target source ≡ true)
    (right : NothingWrong (plain_events (plain.Gmove target source at) (outermost p))) (rest : Plan Event) (s : State Notes) (w : Nodes)
    (ready : Ready p (sequence (plain_events (plain.Gmove target source at) (outermost p)) rest) s w) where
  abbrev plan : Plan Event
  plan = plain_events (plain.Gmove target source at) (outermost p)

  abbrev last_part : Plan Event
  last_part = in_order (moved (outermost p) target ∷ [])

  abbrev from_source : Plan Event
  from_source = in_order (source_events (outermost p) source ∷ moved (outermost p) target ∷ [])

  abbrev from_numbers : Plan Event
  from_numbers = in_order (side_events (outermost p) source ∷ source_events (outermost p) source ∷ moved (outermost p) target ∷ [])

  abbrev behind_test : Plan Event
  behind_test = in_order (side_events (outermost p) target ∷ side_events (outermost p) source ∷ source_events (outermost p) source ∷ moved (outermost p) target ∷ [])

  module _ (k : ℕ) (below : k < node_count p) where
    member : has (all_nodes p) k ≡ true
    member = all_have p k below

    target_alike : Alike p input k member (side_events (outermost p) target) (numbers (traced p) (serial_cx p input) target) (numbers erased (node_context p k input) target)
    target_alike = alike_side p input k member target (λ rule place st. right rule place (inr (inl st)))

    source_alike : Alike p input k member (side_events (outermost p) source) (numbers (traced p) (serial_cx p input) source) (numbers erased (node_context p k input) source)
    source_alike = alike_side p input k member source (λ rule place st. right rule place (inr (inr (inl st))))

    source_read : Quiet k (source_events (outermost p) source)
    source_read = source_quiet p k member source source_fits

    module _ (stale : ℕ → Bool) (safe : Safe k (sequence plan rest) stale) where
      safe_target : Safe k behind_test stale
      safe_target = safe_behind k skip behind_test stale (quiet_skip k) (safe_front k plan rest stale safe)

      safe_numbers : Safe k from_numbers stale
      safe_numbers = safe_behind k (side_events (outermost p) target) from_numbers stale target_alike.quiet safe_target

      safe_source : Safe k from_source stale
      safe_source = safe_behind k (side_events (outermost p) source) from_source stale source_alike.quiet safe_numbers

      -- the node aims as the serial run does
      node_aims : (n : Alone) → Agrees (at_main p k) stale s n → Still (aim (traced p) (serial_cx p input) target source) s (aim erased (node_context p k input) target source) n
      node_aims n g =
          still_aim (traced p) erased (serial_cx p input) (node_context p k input) refl target source s n
          (target_alike.still stale (safe_front k (side_events (outermost p) target) from_numbers stale safe_target) s n (λ slot e. g.scalars slot refl e))
          (source_alike.still stale (safe_front k (side_events (outermost p) source) from_source stale safe_numbers) s n (λ slot e. g.scalars slot refl e))

      source_is : (n : Alone) → Agrees (at_main p k) stale s n → home_of_side p source ≡ home.Copy → words_of_side source n ≡ words_of_side source s
      source_is n g e = source_current p k member source source_fits e stale s n (safe_front k (source_events (outermost p) source) last_part stale safe_source) g

    whole_way : (way : List Event) → Path (moved (outermost p) target) way → Marked k plan way
    whole_way way h =
        marked_behind k skip behind_test way (quiet_skip k)
        (marked_behind k (side_events (outermost p) target) from_numbers way target_alike.quiet
        (marked_behind k (side_events (outermost p) source) from_source way source_alike.quiet
        (marked_behind k (source_events (outermost p) source) last_part way source_read
        (marked_last k (moved (outermost p) target) way h))))

  abbrev none_there : Alone
  none_there = node_beginning p 0 0

  some : 0 < node_count p
  some = some_nodes p

  abbrev node_at : ℕ → Alone
  node_at k = store_at none_there w k

  there_at : (k : ℕ) → k < node_count p → slice_get w.stores k ≡ Some (node_at k)
  there_at k lt = store_there none_there w k (let l = ready.many in omega (arith, l, lt))

  ready_at : (k : ℕ) → k < node_count p → ReadyAt p k (sequence plan rest) s (node_at k)
  ready_at k lt = ready.nodes k (node_at k) (there_at k lt)

  -- ---- the aim

  abbrev serial_aim : Step Notes Aim
  serial_aim = aim (traced p) (serial_cx p input) target source s

  abbrev node_aim : ℕ → Run (Unit {0}) Aim
  node_aim node = aim erased (node_context p node input) target source

  abbrev no_aim : Aim
  no_aim = record { targets = []; sources = [] }

  still_at : (k : ℕ) (lt : k < node_count p) (n : Alone) → slice_get w.stores k ≡ Some n → Still (aim (traced p) (serial_cx p input) target source) s (node_aim k) n
  still_at k lt n e = let r = ready.nodes k n e in node_aims k lt r.stale r.safe n r.agrees

  serial_still : serial_aim ≡ as_step (came_to serial_aim) s
  serial_still = (still_at 0 some (node_at 0) (there_at 0 some)).first

  nodes_still : all_do no_aim node_aim w ≡ as_step (came_to serial_aim) w
  nodes_still = all_still no_aim node_aim (came_to serial_aim) w (let l = ready.many in let z = some in omega (arith, l, z))
      (λ k n e. (still_at k (let i = slice_get_within w.stores k n e in let l = ready.many in omega (arith, i, l)) n e).second)

  -- ---- what follows it

  abbrev behind_aim : Aim → Run Notes Flow
  behind_aim a = each (map (read_cell (traced p) source) a.sources) [] >>= (λ vs. then_run (note (Moved target source a vs)) (store_all (traced p) (serial_cx p input) target a.targets vs))

  module _ (to from : List Chosen) (good : AreGood (extents_of_side p target) to (extents_of_side p source) from) where
    abbrev te : List ℕ
    te = extents_of_side p target

    abbrev se : List ℕ
    se = extents_of_side p source

    abbrev pairs : List Pair
    pairs = pairs_between to from

    abbrev a : Aim
    a = meant p target source to from

    abbrev vs : List ℤ
    vs = values source a s

    after : After p input target source to from s
    after = side_after p global input target source to from s target_fits good.target (node_at 0) (ready_at 0 some).stale (ready_at 0 some).agrees

    serial_is : behind_aim a s ≡ Gave Next after.state
    serial_is =
        ap (λ r. and_then r (λ vs. then_run (note (Moved target source a vs)) (store_all (traced p) (serial_cx p input) target a.targets vs))) (reads_all (traced p) (traced_plainly p) source s a.sources)
        ∙ after.serial

    peers : AreNodes (node_count p) (range_with_len 0 (node_count p))
    peers = record {
      all = λ node lt. in_range 0 (node_count p) node (omega arith) (omega (arith, lt));
      only = λ node i. let r = range_in 0 (node_count p) node i in omega (arith, r);
    }

    given_at : (k : ℕ) (below : k < node_count p) (j : ℕ) → j < node_count p
        → Shows se (gives_cell (home_of_side p source) j k) (position (home_of_side p source) se j) (source_row p source w j) (words_of_side source s)
    given_at k below j lt =
        let r = ready_at j lt in
        let o = ready_at k below in
        subst (λ row. Shows se (gives_cell (home_of_side p source) j k) (position (home_of_side p source) se j) row (words_of_side source s)) (sym (row_of_is source (node_at j)))
        (source_shows p source source_fits j k r.stale s (node_at j) (node_at k) r.agrees (λ e. ap (λ i. node_at i) e) (source_is k below o.stale o.safe (node_at k) o.agrees))

    row_assigned : (k : ℕ) → k < node_count p → RowAssigned p target source to from k s (node_at k) (moved_row p target source a w k)
    row_assigned k below tv long shows =
        let r = ready_at k below in
        let own : List ℤ = words_of_side target (node_at k) in
        let t = is_array p global target in
        subst (λ new. IsAssigned (wrap (type_of_side p target)) (home_of_side p target) te se pairs k (position (home_of_side p target) te k) (words_of_side source s) tv own new)
        (λ i. unpacked_of (wrap (type_of_side p target)) (move_ways p target source) (sym (aims_are_pairs te se to from good) i) (source_row p source w) (sym (row_of_is target (node_at k)) i) k (range_with_len 0 (node_count p)))
        (gmoves_arrays (wrap (type_of_side p target)) (home_of_side p target) (home_of_side p source) te se (position (home_of_side p target) te) (position (home_of_side p source) se) to from
        (node_count p) k (range_with_len 0 (node_count p)) (source_row p source w) own (words_of_side source s) tv good t (is_array p global source) below peers
        (rows_are_kept (home_of_side p target) te k own t.code t.map (side_long p k target (node_at k) target_fits r.agrees.packed))
        long shows (given_at k below))

    at_node : (k : ℕ) → k < node_count p → (m : Alone) × (◌≡◌ {A = Step (Unit {0}) Flow} (Gave Next (with_row target (moved_row p target source a w k) (node_at k))) (Gave Next m)) × ReadyAt p k rest after.state m
    at_node k below =
        let r = ready_at k below in
        let na = after.nodes k below r.stale (node_at k) r.agrees (moved_row p target source a w k) (row_assigned k below) in
        let mk = whole_way k below na.way na.path in (
          with_row target (moved_row p target source a w k) (node_at k),
          refl,
          record {
            stale = left k mk.full r.stale;
            safe = safe_back k plan rest r.stale r.safe mk.full mk.path;
            agrees = agrees_fewer (at_main p k) (left k na.way r.stale) (left k mk.full r.stale) after.state (with_row target (moved_row p target source a w k) (node_at k)) (λ o e. sym (mk.same r.stale o) ∙ e) na.agrees;
          },
        )

    targets_in : AllByRecursion (InSideOf p global target) a.targets
    targets_in = all_mapped (λ n. n < product te) (λ (q : Pair). row_major te q.0) pairs (λ q i. row_major-lt q.0 te (inside_below q.0 te ((assignment te se to from good).inside q i)))

    sources_in : AllByRecursion (InSideOf p global source) a.sources
    sources_in = all_mapped (λ n. n < product se) (λ (q : Pair). row_major se q.1) pairs (λ q i. row_major-lt q.1 se (inside_below q.1 se (source_inside te se to from good q i)))

    moves_follow : AllAlong p IsNext rest (behind_aim a s) (move_all p target source a w)
    moves_follow =
        subst (λ r. AllAlong p IsNext rest r (move_all p target source a w)) (sym serial_is)
        (say_and_do p rest IsNext Next Next (λ node u. Gave Next (with_row target (moved_row p target source a w node) u)) s after.state w (move_said p target source a w) (exchange target source a s)
        some ready.many refl ready.counts
        (move_counts p global target source a vs w (length-map a.sources (value_in source s)) targets_in sources_in) after.extra
        (λ k n e.
        let lt : k < node_count p = (let i = slice_get_within w.stores k n e in let l = ready.many in omega (arith, i, l)) in
        subst (λ u. (m : Alone) × (◌≡◌ {A = Step (Unit {0}) Flow} (Gave Next (with_row target (moved_row p target source a w k) u)) (Gave Next m)) × ReadyAt p k rest after.state m) (store_is none_there w k n e) (at_node k lt)))

  -- ---- and its traps

  first_out : (ss : List Alone) (n : Alone) → slice_get ss 0 ≡ Some n → out_of ss ≡ n.out
  first_out [] n e = absurd (none-some n e)
  first_out (m ∷ ss) n e = ap (λ (u : Alone). u.out) (same_Some m n e)

  by_aim : (o : Came Aim) → serial_aim ≡ as_step o s → all_do no_aim node_aim w ≡ as_step o w
      → AllAlong p IsNext rest (and_then serial_aim behind_aim) (and_then (all_do no_aim node_aim w) (move_all p target source))
  by_aim (Stopped e) f g =
      subst (λ r. AllAlong p IsNext rest (and_then r behind_aim) (and_then (all_do no_aim node_aim w) (move_all p target source))) (sym f)
      (subst (λ q. AllAlong p IsNext rest (Ended e s) (and_then q (move_all p target source))) (sym g)
      (record { same = refl; out = first_out w.stores (node_at 0) (there_at 0 some) ∙ sym ((ready_at 0 some).agrees.out [] refl) }))
  by_aim (Value b) f g =
      subst (λ r. AllAlong p IsNext rest (and_then r behind_aim) (and_then (all_do no_aim node_aim w) (move_all p target source))) (sym f)
      (subst (λ q. AllAlong p IsNext rest (behind_aim b s) (and_then q (move_all p target source))) (sym g)
      (let r0 = ready_at 0 some in
      let first : Alone = node_at 0 in
      let found : GoodAim (extents_in p target) (extents_in p source) b =
      good_aim (traced p) (serial_cx p input) target source s target_fits source_fits agree
      ((target_alike 0 some).still r0.stale (safe_front 0 (side_events (outermost p) target) from_numbers r0.stale (safe_target 0 some r0.stale r0.safe)) s first (λ slot e. r0.agrees.scalars slot refl e)).first
      ((source_alike 0 some).still r0.stale (safe_front 0 (side_events (outermost p) source) from_source r0.stale (safe_numbers 0 some r0.stale r0.safe)) s first (λ slot e. r0.agrees.scalars slot refl e)).first
      b s f in
      let meets : GoodAim (extents_of_side p target) (extents_of_side p source) b = subst₂ (λ te se. GoodAim te se b) (extents_same p target) (extents_same p source) found in
      subst (λ b. AllAlong p IsNext rest (behind_aim b s) (move_all p target source b w)) (sym meets.is) (moves_follow meets.to meets.from meets.good)))

  gmove_goes : AllAlong p IsNext rest (and_then serial_aim behind_aim) (and_then (all_do no_aim node_aim w) (move_all p target source))
  gmove_goes = by_aim (came_to serial_aim) serial_still nodes_still

pub gmoves_follow : GmovesFollow
gmoves_follow p global input target source at fits right rest s w ready =
    let stands = plain_stands p (plain.Gmove target source at) fits in
    let both = both_fit (side_fits p target) (side_fits p source) stands.sides in
    gmove_goes p global input target source at both.0 both.1 stands.sections right rest s w ready
