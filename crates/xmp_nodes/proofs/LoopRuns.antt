-- A loop directive in the serial run and at all nodes: the parts side by side.
use Rattle.std.proofs.Common.{◌≡◌, ◌<◌, ◌++◌, ℕ, suc, ℤ, Bool, true, false, List, [], ◌∷◌, length, map, Some, refl, sym, subst, ap, ◌∙◌}
use Rattle.std.specs.Prelude.{slice_get}
use Rattle.std.specs.List.{AllByRecursion, filter, flat_map}
use Rattle.xmp_paths.specs.Plans.{Plan, sequence}
use Rattle.xmp_paths.specs.Safe.{Safe, NothingWrong}
use Rattle.xmp_paths.proofs.SafeLaws.{safe_front}
use Rattle.xmp_paths.specs.declared.event.Event.{Event}
use Rattle.xmp_prog.specs.declared.parts.ProgParts.{ProgParts}
use Rattle.xmp_prog.specs.declared.statements.LoopDirective.{LoopDirective}
use Rattle.xmp_prog.specs.declared.statements.LoopHead.{LoopHead}
use Rattle.xmp_prog.specs.declared.statements.Reduction.{Reduction}
use Rattle.xmp_prog.specs.declared.statements.Stmt.{Stmt}
use Rattle.xmp_prog.specs.Numbers.{is_in}
use Rattle.xmp_prog.specs.Fits.{node_count}
use Rattle.xmp_prog.specs.Statements.{indices_of, slots_of_point, writes_of}
use Rattle.xmp_meaning.specs.declared.ends.Flow.{Flow}
use Rattle.xmp_meaning.specs.Runs.{State, Step, Run, and_then}
use Rattle.xmp_meaning.specs.Loops.{nest}
use Rattle.xmp_meaning.specs.Exchanges.{LoopEnd, PartEnd, Notes, part_ends, traced}
use Rattle.xmp_meaning.specs.Traffic.{node_beginning}
use Rattle.xmp_meaning_laws.specs.Laws.{scalar_in}
use Rattle.xmp_meaning_laws.specs.Tuples.{tuples, ends, for_each, folded, owns_tuple, NestFits, TuplesRise}
use Rattle.xmp_meaning_laws.proofs.Conditions.{all_apart}
use Rattle.xmp_meaning_laws.proofs.Bodies.{noted_turn_leaves}
use Rattle.xmp_meaning_laws.proofs.Folds.{Full, nest_is_fold}
use Rattle.xmp_meaning_laws.proofs.TupleOrder.{all_tuples_rise}
use Rattle.xmp_loops.specs.Objects.{scalar_object}
use Rattle.xmp_loops.specs.Roles.{own_scalars}
use Rattle.xmp_flow.specs.LoopEvents.{within, loop_events}
use Rattle.xmp_flow.specs.Statements.{events_of}
use Rattle.xmp_flow.specs.Program.{outermost}
use Rattle.xmp_nodes.specs.Nodes.{Nodes, store_at}
use Rattle.xmp_nodes.specs.Parts.{own_tuples, own_part}
use Rattle.xmp_nodes.specs.Lockstep.{lockstep}
use Rattle.xmp_nodes.proofs.Agrees.{IsWhole, ReadyAt, Ready}
use Rattle.xmp_nodes.proofs.Standing.{IsGlobal, NoReturn}
use Rattle.xmp_nodes.proofs.Leaves.{serial_cx, noting, LoopFits, AloneIsErased, StatementsCarry}
use Rattle.xmp_nodes.proofs.Each.{Alone, store_there}
use Rattle.xmp_nodes.proofs.Turns.{Owner, Sides, sides}
use Rattle.xmp_nodes.proofs.LoopOwn as own
use Rattle.xmp_nodes.proofs.LoopWays as ways
use Rattle.xmp_nodes.proofs.LoopFacts.{nest_fits}
use Rattle.xmp_nodes.proofs.TurnSteps as steps
use Rattle.xmp_nodes.proofs.LoopBegins.{begun, begin_is, begun_from}
use Rattle.xmp_nodes.proofs.LoopEntry as entry
use Rattle.xmp_nodes.proofs.LoopEntry.{noted_in}

module _ (p : ProgParts) (global : IsGlobal p) (some : 0 < node_count p) (input : List ℕ) (d : LoopDirective) (body : Stmt) (fits : LoopFits p d body) (go : NoReturn body)
    (nothing : NothingWrong (loop_events d body (events_of body) (outermost p))) (carry : StatementsCarry) (alone : AloneIsErased)
    (rest : Plan Event) (s : State Notes) (w : Nodes) (ready : Ready p (sequence (loop_events d body (events_of body) (outermost p)) rest) s w) where
  abbrev pub plan : Plan Event
  plan = loop_events d body (events_of body) (outermost p)

  abbrev pub slots : List ℕ
  slots = indices_of d.nest

  abbrev pub serial_turn : Run Notes Flow
  serial_turn = steps.serial_turn p global some input d body fits go nothing carry alone

  abbrev pub node_turn : ℕ → Run (Unit {0}) Flow
  node_turn = (lockstep p input body).at

  -- ---- the nodes

  abbrev pub store : ℕ → Alone
  store = store_at (node_beginning p 0 0) w

  pub store_at_node : (k : ℕ) → k < node_count p → slice_get w.stores k ≡ Some (store k)
  store_at_node k below = store_there (node_beginning p 0 0) w k (subst (λ n. k < n) (sym ready.many) below)

  pub ready_at : (k : ℕ) → k < node_count p → ReadyAt p k (sequence plan rest) s (store k)
  ready_at k below = ready.nodes k (store k) (store_at_node k below)

  abbrev pub stale : (k : ℕ) → k < node_count p → ℕ → Bool
  stale k below = (ready_at k below).stale

  pub safe : (k : ℕ) (below : k < node_count p) → Safe k plan (stale k below)
  safe k below = safe_front k plan rest (stale k below) (ready_at k below).safe

  abbrev pub now : (k : ℕ) → k < node_count p → ℕ → Bool
  now k below = ways.turn_stale (outermost p) d body (events_of body) k (entry.here p global some d body fits nothing k below)
      (entry.inside_quiet p global some d body fits nothing k below) (entry.nest_quiet p global some d body fits nothing k below)
      (entry.reductions_quiet p global some d body fits nothing k below) (stale k below)

  pub now_own : (k : ℕ) (below : k < node_count p) (slot : ℕ) → is_in (own_scalars d body) slot ≡ true → now k below (scalar_object slot) ≡ true
  now_own k below slot i = ways.turn_own (outermost p) d body (events_of body) k (entry.here p global some d body fits nothing k below)
      (entry.inside_quiet p global some d body fits nothing k below) (entry.nest_quiet p global some d body fits nothing k below)
      (entry.reductions_quiet p global some d body fits nothing k below) (stale k below) slot i

  pub now_before : (k : ℕ) (below : k < node_count p) (object : ℕ) → now k below object ≡ false → stale k below object ≡ false
  now_before k below object e = ways.turn_before (outermost p) d body (events_of body) k (entry.here p global some d body fits nothing k below)
      (entry.inside_quiet p global some d body fits nothing k below) (entry.nest_quiet p global some d body fits nothing k below)
      (entry.reductions_quiet p global some d body fits nothing k below) (stale k below) object e

  pub now_safe : (k : ℕ) (below : k < node_count p) → Safe k (events_of body (within d body (outermost p))) (now k below)
  now_safe k below = ways.turn_safe (outermost p) d body (events_of body) k (entry.here p global some d body fits nothing k below)
      (entry.inside_quiet p global some d body fits nothing k below) (entry.nest_quiet p global some d body fits nothing k below)
      (entry.reductions_quiet p global some d body fits nothing k below) (stale k below) (safe k below)

  -- ---- the beginning

  abbrev pub around : Run Notes Flow → Run Notes Flow
  around = nest (traced p) (serial_cx p input) d.nest

  abbrev pub noted_ends : List PartEnd
  noted_ends = part_ends p d around (noting p input body) s

  -- the serial state with the exchange noted, and the nodes' with their reduction variables begun
  abbrev pub start : State Notes
  start = noted_in s (LoopEnd d noted_ends)

  abbrev pub begun_at : ℕ → Alone
  begun_at k = begun p k d.reductions (store k)

  abbrev pub all : List (List ℤ)
  all = tuples (scalar_in s) d.nest

  abbrev pub counts : List ℕ
  counts = own.added_by (own.owned_count p d all) 0 s.extra.turns

  abbrev pub between : List (List ℤ) → State Notes → (ℕ → Alone) → Type 0
  between = steps.I p global some input d body fits go nothing carry alone stale (s.extra.exchanges ++ LoopEnd d noted_ends ∷ []) counts now now_own now_before now_safe

  pub fits_nest : NestFits p d.nest (writes_of body)
  fits_nest = nest_fits p global some (entry.first_have p global some d body fits nothing) d body fits nothing

  rises : TuplesRise (scalar_in s) d.nest
  rises = all_tuples_rise p d.nest (writes_of body) fits_nest (scalar_in s)

  pub reduced_below : AllByRecursion (λ i. i < length p.scalars) (map (λ r. r.variable.number) d.reductions)
  reduced_below =
      let beside : _ = all_apart (λ n. n < length p.scalars) (flat_map slots_of_point d.points ++ (slots ++ map (λ (r : Reduction). r.variable.number) d.reductions)) _ fits.step.slots in
      let behind : _ = all_apart (λ n. n < length p.scalars) (flat_map slots_of_point d.points) (slots ++ map (λ (r : Reduction). r.variable.number) d.reductions) beside.0 in
      (all_apart (λ n. n < length p.scalars) slots (map (λ (r : Reduction). r.variable.number) d.reductions) behind.1).1

  pub whole : IsWhole p s
  whole = (ready_at 0 some).agrees.whole

  whole_start : IsWhole p start
  whole_start = record { scalars = whole.scalars; rows = whole.rows; values = record { scalars = whole.values.scalars; cells = whole.values.cells } }

  begins : between all start begun_at
  begins = record {
    whole = whole_start;
    each = λ k below. entry.first_between p global some d body fits nothing k below (stale k below) (safe k below) s (store k) (ready_at k below).agrees noted_ends;
    sums = entry.first_sums p global some d body fits nothing (stale 0 some) s store (safe 0 some) (ready_at 0 some).agrees
        (λ k below. (ready_at k below).agrees.packed.scalars) reduced_below;
    noted = refl;
    turns = refl;
    ints = rises.int;
  }

  -- ---- the parts

  full : Full (length slots) all
  full = subst (λ n. Full n all) (index_count d.nest) rises.lengths
    where
      index_count : (heads : List LoopHead) → length heads ≡ length (indices_of heads)
      index_count [] = refl
      index_count (x ∷ xs) = ap suc (index_count xs)

  owner_of : (vs : List ℤ) → Owner (node_count p) (owns_tuple p d) vs
  owner_of vs = own.owner p global.fits d fits.step.stands.template (fits.step.stands.points) vs

  -- a node's part, from its state with the reduction variables begun
  abbrev pub part_at : ℕ → Step (Unit {0}) Flow
  part_at k = for_each slots (filter (owns_tuple p d k) all) (node_turn k) (begun_at k)

  pub beside : Sides slots (node_count p) serial_turn node_turn (owns_tuple p d) between (for_each slots all serial_turn start) part_at
  beside = sides slots (node_count p) serial_turn node_turn (owns_tuple p d) between
      (steps.apart_all p global some input d body fits go nothing carry alone)
      (λ k below. steps.body_stays p global some input d body fits go nothing carry alone k)
      (λ ts t m i k below. steps.node_there p global some input d body fits go nothing carry alone k (m k) (i.each k below).packed)
      (λ vs l. owner_of vs)
      (λ vs l more t m i. steps.turn p global some input d body fits go nothing carry alone stale (s.extra.exchanges ++ LoopEnd d noted_ends ∷ []) counts now now_own now_before now_safe
      vs l more t m i (owner_of vs).node (owner_of vs).below (owner_of vs).owns_it)
      all full rises.rise start begun_at begins

  -- the nest of the serial run is a fold over the tuples
  pub serial_fold : around serial_turn start ≡ folded d.nest all (ends (scalar_in s) d.nest) serial_turn start
  serial_fold = nest_is_fold Notes (traced p) (serial_cx p input) d.nest (writes_of body) serial_turn fits_nest
      (noted_turn_leaves p (serial_cx p input) d body fits_nest) start
      (steps.serial_there p global some input d body fits go nothing carry alone start whole_start)

  -- a node's own tuples are the serial ones that it owns, before and behind the beginning
  pub own_before : (k : ℕ) → k < node_count p → own_tuples p d k (store k) ≡ filter (owns_tuple p d k) all
  own_before k below = ap (filter (owns_tuple p d k))
      (entry.same_tuples p global some d body fits nothing k below (stale k below) (safe k below) s (store k) (ready_at k below).agrees (scalar_in (store k)) (λ slot e. refl))

  own_behind : (k : ℕ) → k < node_count p → own_tuples p d k (begun_at k) ≡ filter (owns_tuple p d k) all
  own_behind k below = ap (filter (owns_tuple p d k))
      (entry.same_tuples p global some d body fits nothing k below (stale k below) (safe k below) s (store k) (ready_at k below).agrees (scalar_in (begun_at k))
      (begun_from p k d.reductions (store k)).other)

  pub own_part_is : (k : ℕ) → k < node_count p → own_part p d node_turn k (store k) ≡ part_at k
  own_part_is k below =
      ap (λ r. and_then r (λ u t. for_each slots (own_tuples p d k t) (node_turn k) t)) (begin_is p k d.reductions (store k))
      ∙ ap (λ ts. for_each slots ts (node_turn k) (begun_at k)) (own_behind k below)
