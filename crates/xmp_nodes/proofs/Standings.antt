-- What all nodes come to stands for the program.
use Rattle.std.proofs.Common.{◌≡◌, ◌<◌, ◌+◌, ◌++◌, not, ℕ, pos, Bool, true, false, true≢false, List, [], ◌∷◌, length, Some, None, refl, sym, subst, ap, ◌∙◌, append-nil, arith}
use Rattle.std.specs.Prelude.{slice_get, unwrap_or}
use Rattle.std.proofs.lemmas.Option.{none-some, unwrap_or-slice_get, slice_get_within}
use Rattle.std.proofs.lemmas.List.{length-map}
use Rattle.xmp_base.specs.declared.refusal.Phase.TheVariants as phase
use Rattle.xmp_base.specs.First.{IsFirst}
use Rattle.xmp_map.specs.declared.array_map.ArrayMap.{ArrayMap}
use Rattle.xmp_map.specs.RowMajor.{row_major}
use Rattle.xmp_map.specs.Boxes.{IsInside}
use Rattle.xmp_map.specs.Held as held
use Rattle.xmp_map.proofs.Counted.{and_left, and_right}
use Rattle.xmp_prog.specs.declared.parts.ProgParts.{ProgParts}
use Rattle.xmp_prog.specs.declared.parts.Home.TheVariants as home
use Rattle.xmp_prog.specs.Tests.{is_constant}
use Rattle.xmp_prog.specs.Fits.{node_count}
use Rattle.xmp_paths.specs.declared.event.Event.{Event}
use Rattle.xmp_paths.specs.Plans.{Plan, skip, sequence, Path}
use Rattle.xmp_paths.specs.Rules.{Broken, Breaks}
use Rattle.xmp_paths.specs.Safe.{Safe, NothingWrong}
use Rattle.xmp_paths.proofs.SafeLaws.{safe_paths, safe_is}
use Rattle.xmp_flow.specs.Program.{plan_of_program, FlowBreaks}
use Rattle.xmp_meaning.specs.declared.ends.Flow.{Flow}
use Rattle.xmp_meaning.specs.declared.ends.Flow.TheVariants.{Next}
use Rattle.xmp_meaning.specs.Runs.{State, StepIn, Step, Gave, Ended, end_of, state_of}
use Rattle.xmp_meaning.specs.Cells.{row_in}
use Rattle.xmp_meaning.specs.Declarations.{extents, home_of}
use Rattle.xmp_meaning.specs.Layouts.{Whole}
use Rattle.xmp_meaning.specs.Handlers.{erased}
use Rattle.xmp_meaning.specs.Calls.{main_context}
use Rattle.xmp_meaning.specs.Programs.{beginning, starts, serial_end}
use Rattle.xmp_meaning.specs.Exchanges.{Notes, no_notes, traced}
use Rattle.xmp_meaning.specs.Messages.{sent}
use Rattle.xmp_meaning.specs.Stores.{base_of, store_of}
use Rattle.xmp_meaning.specs.Traffic.{noted_end, notes, turns_on, copied, node_context}
use Rattle.xmp_meaning.specs.Laws.{bare_step}
use Rattle.xmp_meaning.specs.TrafficLaws.{StoreIsLaid}
use Rattle.xmp_meaning.proofs.RelatedStatements.{keeps-program}
use Rattle.xmp_meaning.proofs.Notes.{forgets, forgets_traced}
use Rattle.xmp_meaning.proofs.Stays.{all_any}
use Rattle.xmp_meaning.proofs.StoresLaid.{stores_laid}
use Rattle.xmp_meaning_laws.proofs.Named.{all_of_test}
use Rattle.xmp_move.specs.Sides.{owns_cell, holds_cell, position}
use Rattle.xmp_move.specs.Stores.{word_at}
use Rattle.xmp_move.specs.Whole.{HasSlots}
use Rattle.xmp_move.proofs.SidesKept.{owners_hold}
use Rattle.xmp_nodes.specs.Nodes.{Nodes, bounded, all_do, nodes_beginning}
use Rattle.xmp_nodes.specs.Lockstep.{lockstep, nodes_end}
use Rattle.xmp_nodes.specs.Worlds.{out_of, world_after}
use Rattle.xmp_nodes.specs.Stands.{StoreStands, StoresStand, StandsFor}
use Rattle.xmp_nodes.proofs.Agrees.{Agrees, Anything, at_main, ReadyAt, Ready, AllAlong}
use Rattle.xmp_nodes.proofs.Standing.{IsGlobal}
use Rattle.xmp_nodes.proofs.Leaves.{BodyFits, serial_cx, noting}
use Rattle.xmp_nodes.proofs.Each.{Alone, mapped_at, at_mapped, there}
use Rattle.xmp_nodes.proofs.PackedRows.{IsSpreadArray, spread_array, IsRowOf, spread_row, row_read, some_nodes}
use Rattle.xmp_nodes.proofs.ReflectLaws.{rows_kept}
use Rattle.xmp_nodes.proofs.InStep.{all_then}
use Rattle.xmp_nodes.proofs.Lockstep.{Parts}
use Rattle.xmp_nodes.proofs.MainBody.{main_goes}
use Rattle.xmp_nodes.proofs.Starts.{starts_go}
use Rattle.xmp_nodes.proofs.Beginning.{first_state, begins_ready}

-- ---- the serial run is the one that notes, the notes apart

serial_is : (p : ProgParts) (input : List ℕ) (steps : ℕ) → serial_end p input steps ≡ bare_step (noted_end p input steps)
serial_is p input steps = keeps-program (main_context p 0 input) (forgets (λ x. tt) (main_context p 0 input)) (forgets_traced p)
    (all_any _) (all_any _) (all_any _) (beginning Whole p steps (no_notes p))

-- ---- nothing breaks

nothing_breaks : (p : ProgParts) → IsFirst (FlowBreaks p) None → (b : Broken) → Breaks (plan_of_program p) b → ⊥
nothing_breaks p none b h = none (record { phase = phase.Flow; at = b.at; rule = b.rule }) (refl, h)

whole_way : (plan : Plan Event) (way : List Event) → Path (sequence (sequence skip plan) skip) way → Path plan way
whole_way plan way w =
    subst (Path plan) (sym (w.whole ∙ (ap (λ l. w.front ++ l) w.in_back ∙ (append-nil w.front ∙ (w.in_front.whole ∙ ap (λ l. l ++ w.in_front.back) w.in_front.in_front))))) w.in_front.in_back

-- ---- one store

module _ (p : ProgParts) (global : IsGlobal p) (input : List ℕ) (steps : ℕ) (t : State Notes) (v : Flow) (ends : noted_end p input steps ≡ Gave v t) where
  arrays_are : (state_of (serial_end p input steps)).arrays ≡ t.arrays
  arrays_are = ap (λ (r : Step (Unit {0}) Flow). (state_of r).arrays) (serial_is p input steps ∙ ap bare_step ends)

  notes_are : notes p input steps ≡ t.extra
  notes_are = ap (λ (r : Step Notes Flow). (state_of r).extra) ends

  module _ (node : ℕ) (below : node < node_count p) (stale : ℕ → Bool) (n : Alone) (g : Agrees (at_main p node) stale t n) where
    laid : StoreIsLaid p node n
    laid = stores_laid (Unit {0}) p node n g.packed

    -- a cell that the node holds stands behind the array's base
    at_slot : (array tm : ℕ) (m : ArrayMap) (cell : List ℕ) → home_of p array ≡ home.Spread tm m → IsInside cell (extents p array)
        → holds_cell (home.Spread tm m) node cell ≡ true
        → word_at (store_of n) (base_of p node array + position (home.Spread tm m) (extents p array) node cell)
        ≡ word_at (row_in n.arrays array) (position (home.Spread tm m) (extents p array) node cell)
    at_slot array tm m cell e inside h =
        let of : IsSpreadArray p array tm m = spread_array p global array tm m e in
        let row : IsRowOf p node array m n.arrays = spread_row p node array tm m n of g.packed in
        let same : row_in n.arrays array ≡ row.row = row_read n.arrays array row.row row.at in
        let long : length (row_in n.arrays array) ≡ held.words m node = ap length same ∙ row.long in
        let slots : HasSlots (extents p array) (holds_cell (home.Spread tm m) node) (position (home.Spread tm m) (extents p array) node) (row_in n.arrays array) =
        rows_kept (home.Spread tm m) (extents p array) node (row_in n.arrays array) of.three of.fits (let l = long in omega (arith, l)) in
        let at : ℕ = position (home.Spread tm m) (extents p array) node cell in
        sym (unwrap_or-slice_get (store_of n) (base_of p node array + at) (pos 0))
        ∙ (ap (λ o. unwrap_or o (pos 0)) (laid.cells array at (slots.inside cell inside h)) ∙ unwrap_or-slice_get (row_in n.arrays array) at (pos 0))

    store_stands : StoreStands p input steps node (store_of n)
    store_stands = record {
      length = laid.words;
      owned = λ array tm m cell e inside o.
          let of : IsSpreadArray p array tm m = spread_array p global array tm m e in
          at_slot array tm m cell e inside (owners_hold tm m (extents p array) cell node of.three of.fits inside (let c = of.nodes in omega (arith, below, c)) o)
          ∙ (g.owned array tm m e cell inside o ∙ ap (λ rows. word_at (row_in rows array) (row_major (extents p array) cell)) (sym arrays_are));
      copies = λ array tm m cell e inside b.
          at_slot array tm m cell e inside (and_left (holds_cell (home.Spread tm m) node cell) (not (owns_cell (home.Spread tm m) node cell)) b)
          ∙ (g.shadows array tm m cell e inside (and_left (holds_cell (home.Spread tm m) node cell) (not (owns_cell (home.Spread tm m) node cell)) b)
          (not_true (owns_cell (home.Spread tm m) node cell) (and_right (holds_cell (home.Spread tm m) node cell) (not (owns_cell (home.Spread tm m) node cell)) b))
          ∙ ap (λ (x : Notes). copied x.exchanges array (row_major (extents p array) cell)) (sym notes_are));
    }
      where
        not_true : (b : Bool) → not b ≡ true → b ≡ false
        not_true true e = absurd (true≢false (sym e))
        not_true false e = refl

  -- ---- all stores, and the counts

  stores_stand : (w : Nodes) (b : Flow) → Ready p skip t w → StoresStand p input steps (world_after (Gave b w))
  stores_stand w b r = record {
    many = length-map w.stores store_of ∙ r.many;
    stores = λ node store e.
        let m = mapped_at store_of w.stores node store e in
        let x : ReadyAt p node skip t m.0 = r.nodes node m.0 m.1 in
        let below : node < node_count p = (let i = slice_get_within w.stores node m.0 m.1 in let l = r.many in omega (arith, i, l)) in
        subst (StoreStands p input steps node) (sym m.2) (store_stands node below x.stale m.0 x.agrees);
    turns = λ node below.
        let long : length t.extra.turns ≡ node_count p = sym (length-map t.extra.turns bounded) ∙ (ap length (sym r.counts.turns) ∙ r.counts.many) in
        let x = there t.extra.turns node (omega (arith, below, long)) in
        let own : turns_on p input steps node ≡ x.0 = ap (λ (y : Notes). unwrap_or (slice_get y.turns node) 0) notes_are ∙ ap (λ o. unwrap_or o 0) x.1 in
        ap (λ l. slice_get l node) r.counts.turns ∙ (at_mapped bounded t.extra.turns node x.0 x.1 ∙ ap (λ k. Some (bounded k)) (sym own));
    rows = r.counts.rows;
    sent = λ from to row below e.
        let long : length row ≡ node_count p = r.counts.row from row e in
        let x = there row to (omega (arith, below, long)) in
        x.1 ∙ ap Some (r.counts.sent from to x.0 row e x.1 ∙ ap (λ (y : Notes). bounded (sent p y.exchanges from to)) (sym notes_are));
  }

-- ---- all of it

module _ (p : ProgParts) (global : IsGlobal p) (input : List ℕ) (steps : ℕ) where
  out_same : (t : State Notes) (w : Nodes) → Ready p skip t w → out_of w.stores ≡ t.out
  out_same t w r = at_stores w.stores refl
    where
      at_stores : (ss : List Alone) → w.stores ≡ ss → out_of w.stores ≡ t.out
      at_stores [] e = absurd (let m = r.many in let l = ap (λ x. length x) e in let s = some_nodes p in omega (arith, m, l, s))
      at_stores (n ∷ ss) e = ap out_of e ∙ sym ((r.nodes 0 n (ap (λ l. slice_get l 0) e)).agrees.out [] refl)

  stands : (r : Step Notes Flow) (q : StepIn Nodes Flow) → noted_end p input steps ≡ r → AllAlong p Anything skip r q → StandsFor p input steps (world_after q)
  stands (Gave v t) (Gave b w) e h = record {
    ended = sym (ap end_of (serial_is p input steps ∙ ap bare_step e));
    out = out_same t w h.ready ∙ ap (λ (x : Step (Unit {0}) Flow). (state_of x).out) (sym (serial_is p input steps ∙ ap bare_step e));
    at_end = λ none. stores_stand p global input steps t v e w b h.ready;
  }
  stands (Gave v t) (Ended f w) e h = absurd h
  stands (Ended d t) (Gave b w) e h = absurd h
  stands (Ended d t) (Ended f w) e h = record {
    ended = ap Some (sym h.same) ∙ sym (ap end_of (serial_is p input steps ∙ ap bare_step e));
    out = h.out ∙ ap (λ (x : Step (Unit {0}) Flow). (state_of x).out) (sym (serial_is p input steps ∙ ap bare_step e));
    at_end = λ none. absurd (none-some f (sym none));
  }

  pub carried_out : Parts → BodyFits → IsFirst (FlowBreaks p) None → StandsFor p input steps (world_after (nodes_end p input steps))
  carried_out parts body_fits none =
      let fine : ((node : ℕ) → Safe node (plan_of_program p) (λ object. false)) × NothingWrong (plan_of_program p) = (safe_is (plan_of_program p)).0 (nothing_breaks p none) in
      let ready : Ready p (sequence (sequence skip (plan_of_program p)) skip) (first_state p steps) (nodes_beginning p steps) =
      begins_ready p global steps (sequence (sequence skip (plan_of_program p)) skip)
      (λ node. safe_paths node (plan_of_program p) (sequence (sequence skip (plan_of_program p)) skip) (λ object. false) (whole_way (plan_of_program p)) (fine.0 node)) in
      stands (noted_end p input steps) (nodes_end p input steps) refl
      (all_then p Anything skip (plan_of_program p) (starts (traced p) (serial_cx p input) p.start) (noting p input p.body)
      (all_do Next (λ node. starts erased (node_context p node input) p.start)) (lockstep p input p.body).all
      (starts_go p input (some_nodes p) (all_of_test (λ s. is_constant s.value) p.start global.fits.scalars.start_values))
      (main_goes parts p global (some_nodes p) input global.fits.statements.returns (body_fits p global) fine.1)
      skip (first_state p steps) (nodes_beginning p steps) ready)
