-- A turn of a loop directive at its owner, beside the serial one: both go on, and all nodes are as between turns again; or both
-- come to one end.
use Rattle.std.proofs.Common.{◌≡◌, ◌≢◌, ◌<◌, ◌++◌, ◌==◌, if◌then◌else◌, ℕ, suc, ℤ, pos, Bool, true, false, true≢false, List, [], ◌∷◌, length, map, Some, refl, sym, subst, ap, ◌∙◌, eq-eqb, eqb-true}
use Rattle.std.specs.Prelude.{slice_get, unwrap_or}
use Rattle.std.specs.List.{AllByRecursion, flat_map}
use Rattle.xmp_map.specs.declared.array_map.ArrayMap.{ArrayMap}
use Rattle.xmp_map.specs.RowMajor.{row_major}
use Rattle.xmp_map.specs.Boxes.{IsInside}
use Rattle.xmp_num.specs.declared.types.RedOp.{RedOp}
use Rattle.xmp_num.specs.declared.types.Ty.TheVariants.{Int}
use Rattle.xmp_num.specs.Arithmetic.{FitsType}
use Rattle.xmp_num.specs.Reduction.{combine_of}
use Rattle.xmp_paths.specs.NodeSets.{has}
use Rattle.xmp_paths.specs.Safe.{left, Safe, NothingWrong}
use Rattle.xmp_prog.specs.declared.parts.ProgParts.{ProgParts}
use Rattle.xmp_prog.specs.declared.parts.Home.TheVariants as home
use Rattle.xmp_prog.specs.declared.statements.LoopDirective.{LoopDirective}
use Rattle.xmp_prog.specs.declared.statements.Stmt.{Stmt}
use Rattle.xmp_prog.specs.Numbers.{is_in}
use Rattle.xmp_prog.specs.Fits.{node_count}
use Rattle.xmp_prog.specs.Statements.{indices_of, slots_of_point}
use Rattle.xmp_meaning.specs.declared.ends.Flow.{Flow}
use Rattle.xmp_meaning.specs.declared.ends.Flow.TheVariants.{Next, Returned}
use Rattle.xmp_meaning.specs.Cells.{row_in}
use Rattle.xmp_meaning.specs.Runs.{State, Step, Gave, Ended, Run, state_of}
use Rattle.xmp_meaning.specs.Blocks.{then_run}
use Rattle.xmp_meaning.specs.Declarations.{scalar_type, home_of, extents}
use Rattle.xmp_meaning.specs.Handlers.{erased}
use Rattle.xmp_meaning.specs.Statements.{stmt_of}
use Rattle.xmp_meaning.specs.Parts.{owns_iteration}
use Rattle.xmp_meaning.specs.Exchanges.{Exchange, Notes, raised, note_turn}
use Rattle.xmp_meaning.specs.Writes.{scalars_written, arrays_written}
use Rattle.xmp_meaning.specs.Traffic.{copied, node_context}
use Rattle.xmp_meaning.specs.TrafficLaws.{IsNodeState}
use Rattle.xmp_meaning.proofs.Stays.{keeps_scalar, keeps_array}
use Rattle.xmp_meaning_laws.specs.Laws.{scalar_in}
use Rattle.xmp_meaning_laws.specs.Tuples.{at_tuple, value_in, owns_tuple, slots_of_nest, LeavesScalars}
use Rattle.xmp_meaning_laws.proofs.Conditions.{all_apart}
use Rattle.xmp_meaning_laws.proofs.Bodies.{statement_leaves}
use Rattle.xmp_meaning_laws.proofs.Nests.{Exists}
use Rattle.xmp_meaning_laws.proofs.Settings.{Apart, where_length}
use Rattle.xmp_move.specs.Sides.{owns_cell}
use Rattle.xmp_move.specs.Stores.{word_at}
use Rattle.xmp_loops.specs.Objects.{scalar_object, array_object, all_nodes}
use Rattle.xmp_loops.specs.Roles.{role_in, own_scalars, writes_array}
use Rattle.xmp_loops.specs.declared.role.Role.{Role}
use Rattle.xmp_loops.specs.declared.role.Role.TheVariants.{Shared, Index, Reduced, Own}
use Rattle.xmp_flow.specs.Setting.{is_reduced}
use Rattle.xmp_flow.specs.LoopEvents.{loop_events}
use Rattle.xmp_flow.specs.Statements.{events_of}
use Rattle.xmp_flow.specs.Program.{outermost}
use Rattle.xmp_nodes.specs.Lockstep.{lockstep}
use Rattle.xmp_nodes.proofs.Agrees.{Stand, IsWhole, IsSum, Agrees, is_changed, TurnLeaves, GoesOn, Along, IsNext, base_at}
use Rattle.xmp_nodes.proofs.Standing.{IsGlobal, NoReturn}
use Rattle.xmp_nodes.proofs.Leaves.{LoopFits, AloneIsErased, StatementsCarry, noting}
use Rattle.xmp_nodes.proofs.Each.{there}
use Rattle.xmp_nodes.proofs.NodeBits.{all_have}
use Rattle.xmp_nodes.proofs.Turns.{Turn, BodyStays, with_state, with_state_here, with_state_else}
use Rattle.xmp_nodes.proofs.BodiesGo.{statement_goes}
use Rattle.xmp_nodes.proofs.LoopOwn.{owns_at_tuple, added_by, owned_count, turn_counted}
use Rattle.xmp_nodes.proofs.LoopTurns.{index_there, other_there, value_fits, exist_below, Between, Beside, others_by, others, sum_with, others_fit}
use Rattle.xmp_nodes.proofs.LoopFacts.{none_equal, one_of_all, shared_is, index_is, own_is, set, body_nothing, nest_fits, indices_apart, indices_int, role_of_index, copies_unwritten, at_turn, is_setting, writes_fit, one_owner}

module _ (p : ProgParts) (global : IsGlobal p) (some : 0 < node_count p) (input : List ℕ) (d : LoopDirective) (body : Stmt) (fits : LoopFits p d body) (go : NoReturn body)
    (nothing : NothingWrong (loop_events d body (events_of body) (outermost p))) (carry : StatementsCarry) (alone : AloneIsErased) where
  abbrev slots : List ℕ
  slots = indices_of d.nest

  abbrev roles : ℕ → Role
  roles = role_in d body

  abbrev pub serial_turn : Run Notes Flow
  serial_turn = then_run (note_turn p d) (noting p input body)

  abbrev pub node_turn : ℕ → Run (Unit {0}) Flow
  node_turn node = (lockstep p input body).at node

  pub first_have : has (all_nodes p) 0 ≡ true
  first_have = all_have p 0 some

  pub apart_all : Apart slots
  apart_all = indices_apart p global some first_have d body fits nothing

  abbrev stand : (node : ℕ) → (ℕ → ℤ) → Stand
  stand node rest = at_turn p global some first_have d body fits nothing node (base_at node) rest

  -- ---- the indices

  indices_below : AllByRecursion (λ i. i < length p.scalars) slots
  indices_below =
      let beside : _ = all_apart (λ n. n < length p.scalars) (flat_map slots_of_point d.points ++ (slots ++ map (λ r. r.variable.number) d.reductions)) _ fits.step.slots in
      let behind : _ = all_apart (λ n. n < length p.scalars) (flat_map slots_of_point d.points) (slots ++ map (λ r. r.variable.number) d.reductions) beside.0 in
      (all_apart (λ n. n < length p.scalars) slots (map (λ r. r.variable.number) d.reductions) behind.1).0

  pub serial_there : (s : State Notes) → IsWhole p s → Exists s slots
  serial_there s w = exist_below s slots (length p.scalars) w.scalars indices_below

  pub node_there : (node : ℕ) (n : State (Unit {0})) → IsNodeState p node n → Exists n slots
  node_there node n w = exist_below n slots (length p.scalars) w.scalars indices_below

  -- an index has no other role
  index_else : (slot : ℕ) (r : Role) → roles slot ≡ r → is_in slots slot ≡ true → r ≡ Index
  index_else slot r e i = sym e ∙ role_of_index p global some first_have d body fits nothing slot i

  not_index : (slot : ℕ) (op : RedOp) → roles slot ≡ Reduced op → is_in slots slot ≡ false
  not_index slot op e = at_test (is_in slots slot) refl
    where
      reduced_index : Reduced op ≡ Index → ⊥
      reduced_index e = cc

      at_test : (b : Bool) → is_in slots slot ≡ b → is_in slots slot ≡ false
      at_test true i = absurd (reduced_index (index_else slot (Reduced op) e i))
      at_test false i = i

  -- ---- before a turn

  -- the serial state at a tuple, its turn counted
  abbrev turned : List ℤ → State Notes → State Notes
  turned vs s = record (at_tuple slots vs s) { extra = record s.extra { turns = raised (λ node. owns_iteration p d node (at_tuple slots vs s)) 0 s.extra.turns } }

  module _ (vs : List ℤ) (long : length vs ≡ length slots) (ints : AllByRecursion (FitsType Int) vs) where
    typed_at : {X : Type 0} (s : State X) → Exists s slots → ((slot : ℕ) → FitsType (scalar_type p slot) (scalar_in s slot))
        → (slot : ℕ) → FitsType (scalar_type p slot) (scalar_in (at_tuple slots vs s) slot)
    typed_at s there h slot = at_test (is_in slots slot) refl
      where
        at_test : (b : Bool) → is_in slots slot ≡ b → FitsType (scalar_type p slot) (scalar_in (at_tuple slots vs s) slot)
        at_test true i =
            subst (FitsType (scalar_type p slot)) (sym (index_there slots vs s apart_all long there slot i))
            (subst (λ ty. FitsType ty (value_in slots vs slot))
            (sym (one_of_all (λ n. scalar_type p n ≡ Int) slots slot (indices_int p global some first_have d body fits nothing) i)) (value_fits slots vs slot ints))
        at_test false i = subst (FitsType (scalar_type p slot)) (sym (other_there slots vs s slot i)) (h slot)

    whole_at : (s : State Notes) → IsWhole p s → IsWhole p (turned vs s)
    whole_at s w = record {
      scalars = where_length slots (map Some vs) s.scalars ∙ w.scalars;
      rows = w.rows;
      values = record { scalars = typed_at s (serial_there s w) w.values.scalars; cells = w.values.cells };
    }

    both_indices : (s : State Notes) (n : State (Unit {0})) → Exists s slots → Exists n slots → (slot : ℕ) → is_in slots slot ≡ true
        → scalar_in (at_tuple slots vs n) slot ≡ scalar_in (at_tuple slots vs s) slot
    both_indices s n hs hn slot i = index_there slots vs n apart_all long hn slot i ∙ sym (index_there slots vs s apart_all long hs slot i)

    module _ (node : ℕ) (stale now : ℕ → Bool) (rest : ℕ → ℤ) (s : State Notes) (n : State (Unit {0})) (w : IsWhole p s) (b : Between p d body node stale s n)
        (own_stale : (slot : ℕ) → is_in (own_scalars d body) slot ≡ true → now (scalar_object slot) ≡ true) (before : (object : ℕ) → now object ≡ false → stale object ≡ false) where
      hs : Exists s slots
      hs = serial_there s w

      hn : Exists n slots
      hn = node_there node n b.packed

      scalars_at : (slot : ℕ) (r : Role) → roles slot ≡ r → is_reduced r ≡ false → now (scalar_object slot) ≡ false
          → scalar_in (at_tuple slots vs n) slot ≡ scalar_in (at_tuple slots vs s) slot
      scalars_at slot Shared e f c =
          let i : is_in slots slot ≡ false = (shared_is d body slot e).1 in
          other_there slots vs n slot i ∙ b.shared slot e (before (scalar_object slot) c) ∙ sym (other_there slots vs s slot i)
      scalars_at slot Index e f c = both_indices s n hs hn slot (index_is d body slot e)
      scalars_at slot (Reduced op) e f c = absurd (true≢false f)
      scalars_at slot Own e f c = absurd (true≢false (sym (own_stale slot (own_is d body slot e)) ∙ c))

      pub agrees_at : owns_tuple p d node vs ≡ true
          → ((slot : ℕ) (op : RedOp) → roles slot ≡ Reduced op → IsSum op (scalar_type p slot) (rest slot) (scalar_in s slot) (scalar_in n slot))
          → Agrees (stand node rest) now (turned vs s) (at_tuple slots vs n)
      agrees_at owns sums = record {
        whole = whole_at s w;
        packed = record { scalars = where_length slots (map Some vs) n.scalars ∙ b.packed.scalars; rows = b.packed.rows; no_coarrays = b.packed.no_coarrays };
        typed = typed_at n hn b.typed;
        scalars = λ slot f c. scalars_at slot (roles slot) refl f c;
        indices = λ slot e. both_indices s n hs hn slot (index_is d body slot e);
        sums = λ slot op e.
            let i : is_in slots slot ≡ false = not_index slot op e in
            let q : IsSum op (scalar_type p slot) (rest slot) (scalar_in s slot) (scalar_in n slot) = sums slot op e in
            record { fits = q.fits; whole = other_there slots vs s slot i ∙ q.whole ∙ ap (combine_of op (scalar_type p slot) (rest slot)) (sym (other_there slots vs n slot i)) };
        copies = λ array c e. b.copies array c (before (array_object array) e);
        owned = b.owned;
        shadows = b.shadows;
        current = λ array t m e c u. b.current array t m e (before (array_object array) c) u;
        point = λ q e. at_directive q (some_same d q e);
        steps = b.steps;
        out = b.out;
        taken = b.taken;
      }
        where
          some_same : (a c : LoopDirective) → Some a ≡ Some c → a ≡ c
          some_same a c e = cc

          at_directive : (q : LoopDirective) → d ≡ q → owns_iteration p q node (turned vs s) ≡ true
          at_directive q e = subst (λ z. owns_iteration p z node (turned vs s) ≡ true) e (owns_at_tuple p d node vs s fits.step.stands.nest_indices apart_all long hs ∙ owns)

  -- ---- a node's body

  node_is : (node : ℕ) → node_turn node ≡ stmt_of erased (node_context p node input) body
  node_is node = alone p input body node

  pub body_stays : (node : ℕ) → BodyStays (Unit {0}) slots (node_turn node)
  body_stays node = subst (BodyStays (Unit {0}) slots) (sym (node_is node)) (record {
    length = leaves.length;
    kept = λ s. each_kept slots (all_apart _ slots _ leaves.kept).0 s;
    goes = statement_goes (Unit {0}) (node_context p node input) body go;
  })
    where
      leaves : LeavesScalars (Unit {0}) (slots_of_nest p d.nest) (stmt_of erased (node_context p node input) body)
      leaves = statement_leaves (Unit {0}) (node_context p node input) d.nest body (nest_fits p global some first_have d body fits nothing)

      each_kept : (ns : List ℕ) → AllByRecursion (λ i. (s : State (Unit {0})) → slice_get (state_of (stmt_of erased (node_context p node input) body s)).scalars i ≡ slice_get s.scalars i) ns
          → (s : State (Unit {0})) → AllByRecursion (λ i. slice_get (state_of (stmt_of erased (node_context p node input) body s)).scalars i ≡ slice_get s.scalars i) ns
      each_kept [] h s = tt
      each_kept (i ∷ ns) h s = (h.0 s, each_kept ns h.1 s)

  node_scalar : (node slot : ℕ) (n u : State (Unit {0})) → node_turn node n ≡ Gave Next u → is_in (scalars_written body) slot ≡ false → scalar_in u slot ≡ scalar_in n slot
  node_scalar node slot n u e w =
      ap (λ (r : Step (Unit {0}) Flow). scalar_in (state_of r) slot) (sym e)
      ∙ ap (λ (f : Run (Unit {0}) Flow). scalar_in (state_of (f n)) slot) (node_is node)
      ∙ ap (λ o. unwrap_or o (pos 0)) (keeps_scalar (node_context p node input) body slot (none_equal slot (scalars_written body) w) n)

  node_row : (node array : ℕ) (n u : State (Unit {0})) → node_turn node n ≡ Gave Next u → writes_array body array ≡ false → row_in u.arrays array ≡ row_in n.arrays array
  node_row node array n u e w =
      ap (λ (r : Step (Unit {0}) Flow). row_in (state_of r).arrays array) (sym e)
      ∙ ap (λ (f : Run (Unit {0}) Flow). row_in (state_of (f n)).arrays array) (node_is node)
      ∙ ap (λ o. unwrap_or o []) (keeps_array (node_context p node input) body array (none_equal array (arrays_written body) w) n)

  -- ---- behind a turn

  module _ (vs : List ℤ) (node : ℕ) (below : node < node_count p) (now : ℕ → Bool) (rest : ℕ → ℤ) (s t : State Notes) (n u : State (Unit {0}))
      (gone : node_turn node (at_tuple slots vs n) ≡ Gave Next u)
      (g : GoesOn (stand node rest) IsNext (events_of body (set p global some first_have d body fits nothing)) now (turned vs s) (at_tuple slots vs n) Next t Next u) where
    leaves : TurnLeaves (stand node rest) (turned vs s) t
    leaves = g.framed.turn d refl

    serial_shared : (slot : ℕ) → roles slot ≡ Shared → scalar_in t slot ≡ scalar_in s slot
    serial_shared slot e =
        leaves.scalars slot (ap (λ r. is_changed r) e) ∙ other_there slots vs s slot (shared_is d body slot e).1

    serial_row : (array : ℕ) → writes_array body array ≡ false → row_in t.arrays array ≡ row_in s.arrays array
    serial_row array e = leaves.rows array e

    exchanges_same : t.extra.exchanges ≡ s.extra.exchanges
    exchanges_same = ap (λ (x : Notes). x.exchanges) g.framed.extra

    current_after : (stale : ℕ → Bool) (k : ℕ) (c : State (Unit {0})) → Between p d body k stale s c → (array tm : ℕ) (m : ArrayMap) → home_of p array ≡ home.Spread tm m
        → stale (array_object array) ≡ false → writes_array body array ≡ false → (number : ℕ) → copied t.extra.exchanges array number ≡ word_at (row_in t.arrays array) number
    current_after stale k c b array tm m e f w number =
        ap (λ xs. copied xs array number) exchanges_same ∙ b.current array tm m e f w number ∙ ap (λ row. word_at row number) (sym (serial_row array w))

    -- at the owner
    pub owner_after : (stale : ℕ → Bool) → Between p d body node stale s n → Between p d body node stale t u
    owner_after stale b = record {
      packed = g.agrees.packed;
      typed = g.agrees.typed;
      shared = λ slot e c.
          node_scalar node slot (at_tuple slots vs n) u gone (shared_is d body slot e).2 ∙ other_there slots vs n slot (shared_is d body slot e).1
          ∙ b.shared slot e c ∙ sym (serial_shared slot e);
      copies = λ array e c.
          let w : writes_array body array ≡ false = copies_unwritten p global some first_have d body fits nothing array e in
          node_row node array (at_tuple slots vs n) u gone w ∙ b.copies array e c ∙ sym (serial_row array w);
      owned = g.agrees.owned;
      shadows = g.agrees.shadows;
      current = current_after stale node n b;
      steps = g.agrees.steps;
      out = g.agrees.out;
      taken = g.agrees.taken;
    }

    -- at another node
    pub other_after : (k : ℕ) → k < node_count p → k ≢ node → (stale : ℕ → Bool) (c : State (Unit {0})) → Between p d body k stale s c → Between p d body k stale t c
    other_after k bk ne stale c b = record {
      packed = b.packed;
      typed = b.typed;
      shared = λ slot e f. b.shared slot e f ∙ sym (serial_shared slot e);
      copies = λ array e f. b.copies array e f ∙ sym (serial_row array (copies_unwritten p global some first_have d body fits nothing array e));
      owned = λ array tm m e cell i owns.
          b.owned array tm m e cell i owns
          ∙ sym (leaves.cells array tm m cell e i (not_owner (owns_cell (home.Spread tm m) node cell) array tm m cell refl e i owns));
      shadows = λ array tm m cell e i h o. b.shadows array tm m cell e i h o ∙ ap (λ xs. copied xs array (row_major (extents p array) cell)) (sym exchanges_same);
      current = current_after stale k c b;
      steps = b.steps ∙ sym (g.framed.steps refl);
      out = λ before e. leaves.out ∙ b.out before e;
      taken = λ e. b.taken e ∙ sym leaves.taken;
    }
      where
        not_owner : (x : Bool) (array tm : ℕ) (m : ArrayMap) (cell : List ℕ) → owns_cell (home.Spread tm m) node cell ≡ x → home_of p array ≡ home.Spread tm m → IsInside cell (extents p array)
            → owns_cell (home.Spread tm m) k cell ≡ true → owns_cell (home.Spread tm m) node cell ≡ false
        not_owner true array tm m cell f e i owns = absurd (ne (one_owner p global array tm m cell e i k node bk below owns f))
        not_owner false array tm m cell f e i owns = f

  -- ---- the turn

  module _ (stale : (k : ℕ) → k < node_count p → ℕ → Bool) (xs : List Exchange) (counts : List ℕ)
      (now : (k : ℕ) → k < node_count p → ℕ → Bool)
      (own_stale : (k : ℕ) (below : k < node_count p) (slot : ℕ) → is_in (own_scalars d body) slot ≡ true → now k below (scalar_object slot) ≡ true)
      (before : (k : ℕ) (below : k < node_count p) (object : ℕ) → now k below object ≡ false → stale k below object ≡ false)
      (safe : (k : ℕ) (below : k < node_count p) → Safe k (events_of body (set p global some first_have d body fits nothing)) (now k below)) where
    abbrev pub I : List (List ℤ) → State Notes → (ℕ → State (Unit {0})) → Type 0
    I left s m = Beside p d body stale xs counts left s m

    module _ (vs : List ℤ) (long : length vs ≡ length slots) (left : List (List ℤ)) (s : State Notes) (m : ℕ → State (Unit {0})) (b : I (vs ∷ left) s m)
        (node : ℕ) (below : node < node_count p) (owns : owns_tuple p d node vs ≡ true) where
      abbrev rest : ℕ → ℤ
      rest = others p d body node m

      typed_all : (slot k : ℕ) → k < node_count p → FitsType (scalar_type p slot) (scalar_in (m k) slot)
      typed_all slot k bk = (b.each k bk).typed slot

      rest_is : (slot : ℕ) (op : RedOp) → roles slot ≡ Reduced op → rest slot ≡ others_by p d body (Reduced op) node slot m
      rest_is slot op e = ap (λ r. others_by p d body r node slot m) e

      sums_now : (slot : ℕ) (op : RedOp) → roles slot ≡ Reduced op → IsSum op (scalar_type p slot) (rest slot) (scalar_in s slot) (scalar_in (m node) slot)
      sums_now slot op e = record {
        fits = subst (FitsType (scalar_type p slot)) (sym (rest_is slot op e)) (others_fit p d body op slot node below m (typed_all slot));
        whole =
            sym (b.sums slot op e)
            ∙ sum_with p d body op slot node below m (typed_all slot) m (typed_all slot node below) (λ k ne. refl)
            ∙ ap (λ r. combine_of op (scalar_type p slot) r (scalar_in (m node) slot)) (sym (rest_is slot op e));
      }

      here : has (all_nodes p) node ≡ true
      here = all_have p node below

      follows : Along (stand node rest) IsNext (events_of body (set p global some first_have d body fits nothing)) (now node below) (turned vs s) (at_tuple slots vs (m node))
          (noting p input body (turned vs s)) (node_turn node (at_tuple slots vs (m node)))
      follows =
          carry (stand node rest) (is_setting p global some first_have d body fits nothing node (base_at node) rest below) here refl input body fits.inner
          (writes_fit p global some first_have d body fits nothing node (base_at node) rest) go (body_nothing p global some first_have d body fits nothing)
          (now node below) (turned vs s) (at_tuple slots vs (m node)) (safe node below)
          (agrees_at vs long b.ints.0 node (stale node below) (now node below) rest s (m node) b.whole (b.each node below) (own_stale node below) (before node below) owns sums_now)

      -- all nodes behind the turn
      behind : (t : State Notes) (u : State (Unit {0})) → node_turn node (at_tuple slots vs (m node)) ≡ Gave Next u
          → GoesOn (stand node rest) IsNext (events_of body (set p global some first_have d body fits nothing)) (now node below) (turned vs s) (at_tuple slots vs (m node)) Next t Next u
          → I left t (with_state node u m)
      behind t u gone g = record {
        whole = g.agrees.whole;
        each = λ k bk. at_node k bk (k == node) refl;
        sums = λ slot op e.
            let q : IsSum op (scalar_type p slot) (rest slot) (scalar_in t slot) (scalar_in u slot) = g.agrees.sums slot op e in
            sum_with p d body op slot node below m (typed_all slot) (with_state node u m)
            (subst (λ (n : State (Unit {0})). FitsType (scalar_type p slot) (scalar_in n slot)) (sym (with_state_here node u m)) (g.agrees.typed slot))
            (λ k ne. with_state_else node u m k ne)
            ∙ ap (λ (n : State (Unit {0})). combine_of op (scalar_type p slot) (others_by p d body (Reduced op) node slot m) (scalar_in n slot)) (with_state_here node u m)
            ∙ ap (λ r. combine_of op (scalar_type p slot) r (scalar_in u slot)) (sym (rest_is slot op e))
            ∙ sym q.whole;
        noted = ap (λ (x : Notes). x.exchanges) g.framed.extra ∙ b.noted;
        turns =
            ap (λ (x : Notes). added_by (owned_count p d left) 0 x.turns) g.framed.extra
            ∙ ap (added_by (owned_count p d left) 0)
            (raised_alike (λ k. owns_iteration p d k (at_tuple slots vs s)) (λ k. owns_tuple p d k vs)
            (λ k. owns_at_tuple p d k vs s fits.step.stands.nest_indices apart_all long (serial_there s b.whole)) 0 s.extra.turns)
            ∙ turn_counted p d vs left s.extra.turns ∙ b.turns;
        ints = b.ints.1;
      }
        where
          raised_alike : (f h : ℕ → Bool) → ((k : ℕ) → f k ≡ h k) → (a : ℕ) (ns : List ℕ) → raised f a ns ≡ raised h a ns
          raised_alike f h e a [] = refl
          raised_alike f h e a (n ∷ ns) =
              ap (λ c. (if c then suc n else n) ∷ raised f (suc a) ns) (e a) ∙ ap (λ l. (if h a then suc n else n) ∷ l) (raised_alike f h e (suc a) ns)

          at_node : (k : ℕ) (bk : k < node_count p) (c : Bool) → (k == node) ≡ c → Between p d body k (stale k bk) t (with_state node u m k)
          at_node k bk true e = at_owner k bk (eqb-true k node e)
            where
              at_owner : (k : ℕ) (bk : k < node_count p) → k ≡ node → Between p d body k (stale k bk) t (with_state node u m k)
              at_owner k bk same =
                  let there : (st : ℕ → Bool) → Between p d body k st s (m k) → Between p d body k st t (with_state node u m k) =
                  subst (λ j. (st : ℕ → Bool) → Between p d body j st s (m j) → Between p d body j st t (with_state node u m j)) (sym same)
                  (λ st c. subst (Between p d body node st t) (sym (with_state_here node u m)) (owner_after vs node below (now node below) rest s t (m node) u gone g st c)) in
                  there (stale k bk) (b.each k bk)
          at_node k bk false e =
              let ne : k ≢ node = λ same. true≢false (sym (eq-eqb k node same) ∙ e) in
              subst (Between p d body k (stale k bk) t) (sym (with_state_else node u m k ne))
              (other_after vs node below (now node below) rest s t (m node) u gone g k bk ne (stale k bk) (m k) (b.each k bk))

      abbrev Turned : Step Notes Flow → Step (Unit {0}) Flow → Type 0
      Turned r q = Turn slots (node_count p) serial_turn node_turn (owns_tuple p d) I left node m r q

      at_steps : (r : Step Notes Flow) (q : Step (Unit {0}) Flow) → node_turn node (at_tuple slots vs (m node)) ≡ q
          → Along (stand node rest) IsNext (events_of body (set p global some first_have d body fits nothing)) (now node below) (turned vs s) (at_tuple slots vs (m node)) r q
          → Turned r q
      at_steps (Gave Next t) (Gave Next u) e g = behind t u e g
      at_steps (Gave Next t) (Gave (Returned v) u) e g = next_returned v g.same
        where
          next_returned : (v : _) → Next ≡ Returned v → ⊥
          next_returned v e = cc
      at_steps (Gave Next t) (Ended f u) e g = absurd g
      at_steps (Gave (Returned v) t) (Gave w u) e g = returned_next v g.value
        where
          returned_next : (v : _) → Returned v ≡ Next → ⊥
          returned_next v e = cc
      at_steps (Gave (Returned v) t) (Ended f u) e g = absurd g
      at_steps (Ended f t) (Gave w u) e g = absurd g
      at_steps (Ended f t) (Ended h u) e g = sym g.same

      pub turn : Turned (serial_turn (at_tuple slots vs s)) (node_turn node (at_tuple slots vs (m node)))
      turn = at_steps (noting p input body (turned vs s)) (node_turn node (at_tuple slots vs (m node))) refl follows
