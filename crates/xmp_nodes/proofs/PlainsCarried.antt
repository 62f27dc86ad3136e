-- A plain statement at a node follows the serial one.
use Rattle.std.proofs.Common.{◌≡◌, ◌++◌, ◌&&◌, ◌||◌, not, inl, ◌==◌, ℕ, zero, suc, ℤ, pos, Bool, true, false, true≢false, List, [], ◌∷◌, map, Option, Some, None, refl, sym, subst, ap, ◌∙◌, eqb-true, arith}
use Rattle.std.specs.Prelude.{is_some}
use Rattle.std.specs.List.{AllByRecursion, list_all}
use Rattle.std.proofs.lemmas.Nat.Bits.{bit_at-pow_other}
use Rattle.xmp_base.specs.declared.place.Place.{Place}
use Rattle.xmp_num.specs.Arithmetic.{wrap}
use Rattle.xmp_num.specs.Decimal.{scan_of}
use Rattle.xmp_paths.specs.NodeSets.{has}
use Rattle.xmp_paths.specs.Plans.{Plan, skip, emit, in_order, Path}
use Rattle.xmp_paths.specs.Safe.{left, NothingWrong}
use Rattle.xmp_paths.specs.declared.event.Event.{Event}
use Rattle.xmp_paths.specs.declared.event.Event.TheVariants.{Mark}
use Rattle.xmp_prog.specs.declared.expressions.Expr.{Expr}
use Rattle.xmp_prog.specs.declared.statements.Compound.{Compound}
use Rattle.xmp_prog.specs.declared.statements.LoopDirective.{LoopDirective}
use Rattle.xmp_prog.specs.declared.statements.Target.TheVariants as target
use Rattle.xmp_prog.specs.declared.statements.Plain.{Plain}
use Rattle.xmp_prog.specs.declared.statements.Plain.TheVariants as plain
use Rattle.xmp_prog.specs.Terms.{terms_of, terms_of_list, terms_of_option}
use Rattle.xmp_prog.specs.Statements.{terms_of_plain}
use Rattle.xmp_loops.specs.Objects.{scalar_object}
use Rattle.xmp_flow.specs.Setting.{Setting, others, is_alone, is_first_alone, is_reduced, wrong_where, assigned}
use Rattle.xmp_flow.specs.Reads.{reads_of, reads_of_all}
use Rattle.xmp_flow.specs.PlainEvents.{old_scalar, set_events, plain_events}
use Rattle.xmp_meaning.specs.declared.location.Location.TheVariants as location
use Rattle.xmp_meaning.specs.declared.ends.Flow.{Flow}
use Rattle.xmp_meaning.specs.declared.ends.Flow.TheVariants.{Next, Returned}
use Rattle.xmp_meaning.specs.Runs.{State, Step, Gave, Ended, ◌>>=◌, pure, and_then, write}
use Rattle.xmp_meaning.specs.Declarations.{scalar_type}
use Rattle.xmp_meaning.specs.Handlers.{erased}
use Rattle.xmp_meaning.specs.Blocks.{each}
use Rattle.xmp_meaning.specs.Expressions.{expr_of, call}
use Rattle.xmp_meaning.specs.Formats.{printed}
use Rattle.xmp_meaning.specs.Assignments.{new_value, store, store_read}
use Rattle.xmp_meaning.specs.Statements.{plain_of}
use Rattle.xmp_meaning.specs.Exchanges.{Notes}
use Rattle.xmp_meaning.specs.Traffic.{node_context}
use Rattle.xmp_meaning_laws.specs.Laws.{calls_pass}
use Rattle.xmp_meaning_laws.specs.Agreement.{seen, IsKnown}
use Rattle.xmp_meaning_laws.proofs.CountedLoops.{both_true}
use Rattle.xmp_meaning_laws.proofs.Values.{wrap_fits, zero_fits}
use Rattle.xmp_nodes.proofs.Agrees.{Stand, Agrees, Along, Carried, is_changed}
use Rattle.xmp_nodes.proofs.Standing.{TermStands, IsSetting}
use Rattle.xmp_nodes.proofs.Leaves.{serial_cx, GivesNext}
use Rattle.xmp_nodes.proofs.Follow.{framed_same, agrees_fewer}
use Rattle.xmp_nodes.proofs.MetEvents.{EachEvent, EachOf, NoMark, IsFine, each_skip, each_ordered, each_is_fine, unmarked, ordered_each}
use Rattle.xmp_nodes.proofs.ReadsMark.{role_unmarked, reads_unmarked}
use Rattle.xmp_nodes.proofs.Readers.{Same, Any, same_on, gives, call_twin}
use Rattle.xmp_nodes.proofs.ElementCells.{known_in}
use Rattle.xmp_nodes.proofs.NodeExpressions.{begins}
use Rattle.xmp_nodes.proofs.NodeReads.{of_scalar, of_call, calls, plain_steps, expr_steps}
use Rattle.xmp_nodes.proofs.ExpressionsCarried.{near_along}
use Rattle.xmp_nodes.proofs.NearSteps.{near_then, behind, fine_front, right_rest, steps_before}
use Rattle.xmp_nodes.proofs.PlainValues.{reading, both, value_twin, value_calls, each_twin, each_calls, new_scalar}
use Rattle.xmp_nodes.proofs.PlainWrites.{with_scalar, agrees_set, set_framed, agrees_write, agrees_taken}
use Rattle.xmp_nodes.proofs.PlainWriting.{wrong_unmarked, right_test, none_way, one_way, mark_adds, not_index, set_along}

pub all_unmarked : (set : Setting) (es : List Expr) → EachOf NoMark (reads_of_all es set)
all_unmarked set [] = tt
all_unmarked set (e ∷ es) = (reads_unmarked set e, all_unmarked set es)

pub together : {A : Type 0} (P : A → Type 0) (xs ys : List A) → AllByRecursion P xs → AllByRecursion P ys → AllByRecursion P (xs ++ ys)
together P [] ys a b = b
together P (x ∷ xs) ys a b = (a.0, together P xs ys a.1 b)

pub apart : {A : Type 0} (P : A → Type 0) (xs ys : List A) → AllByRecursion P (xs ++ ys) → AllByRecursion P xs × AllByRecursion P ys
apart P [] ys h = (tt, h)
apart P (x ∷ xs) ys h = let rest : _ = apart P xs ys h.1 in ((h.0, rest.0), rest.1)

pub no_more : {A : Type 0} (xs : List A) → xs ++ [] ≡ xs
no_more [] = refl
no_more (x ∷ xs) = ap (λ l. x ∷ l) (no_more xs)

module _ (a : Stand) (is : IsSetting a) (there : has a.set.nodes a.node ≡ true) (input : List ℕ) where
  abbrev pub Follows : (q : Plain) → Plan Event → Type 0
  Follows q plan = Carried a (GivesNext q) plan (plain_of erased (serial_cx a.program input) q) (plain_of erased (node_context a.program a.node input) q)

  -- ---- `return`, calls and `printf`

  pub return_follows : (e : Expr) → AllByRecursion (TermStands a.program) (terms_of a.program e) → NothingWrong (reads_of e a.set) → Follows (plain.Return e) (reads_of e a.set)
  return_follows e terms none stale s n safe g =
      let fine : EachEvent (IsFine a.node stale) (reads_of e a.set) = each_is_fine a.node (reads_of e a.set) stale safe none (reads_unmarked a.set e) in
      near_along a is there input stale s n g (Any (reading a is there input stale s n g)) (GivesNext (plain.Return e)) (reads_of e a.set)
      (λ way path object. unmarked object a.node (reads_of e a.set) (reads_unmarked a.set e) way (stale object) path)
      (plain_of erased (serial_cx a.program input) (plain.Return e) s) (plain_of erased (node_context a.program a.node input) (plain.Return e) n)
      (λ i. plain_steps a is there input stale s n g (plain.Return e) i (value_calls a is there input stale s n g e terms fine))
      (λ v t i no. absurd (true≢false no))
      (same_on (reading a is there input stale s n g) (both a is there input stale s n g) (IsKnown (seen (known_in a s) e).value) (Any (reading a is there input stale s n g))
      (expr_of erased (serial_cx a.program input) e) (expr_of erased (node_context a.program a.node input) e) (λ v. pure (Returned v)) (λ v. pure (Returned v))
      (value_twin a is there input stale s n g e terms fine) (λ v k. gives (reading a is there input stale s n g) (both a is there input stale s n g) (Any (reading a is there input stale s n g)) (Returned v) tt)
      s n (begins a is there input stale s n g))

  pub call_follows : (function : ℕ) (es : List Expr) (at : Place) → AllByRecursion (TermStands a.program) (terms_of_plain a.program (plain.Call function es at))
      → NothingWrong (plain_events (plain.Call function es at) a.set) → Follows (plain.Call function es at) (plain_events (plain.Call function es at) a.set)
  call_follows function es at terms none stale s n safe g =
      let list : List (Plan Event) = reads_of_all es a.set ++ wrong_where (a.set.inside && a.set.loops function) 9 at ∷ [] in
      let clear : EachOf NoMark list = together (EachEvent NoMark) (reads_of_all es a.set) (wrong_where (a.set.inside && a.set.loops function) 9 at ∷ []) (all_unmarked a.set es) (wrong_unmarked (a.set.inside && a.set.loops function) 9 at, tt) in
      let fine : EachOf (IsFine a.node stale) list = each_ordered (IsFine a.node stale) list (each_is_fine a.node (in_order list) stale safe none (ordered_each NoMark list clear)) in
      let parts : _ = apart (EachEvent (IsFine a.node stale)) (reads_of_all es a.set) (wrong_where (a.set.inside && a.set.loops function) 9 at ∷ []) fine in
      let i : _ = reading a is there input stale s n g in
      let k : ℕ → Bool = both a is there input stale s n g in
      near_along a is there input stale s n g (Any i) (GivesNext (plain.Call function es at)) (in_order list)
      (λ way path object. unmarked object a.node (in_order list) (ordered_each NoMark list clear) way (stale object) path)
      (plain_of erased (serial_cx a.program input) (plain.Call function es at) s) (plain_of erased (node_context a.program a.node input) (plain.Call function es at) n)
      (λ inside. plain_steps a is there input stale s n g (plain.Call function es at) inside
      (both_true (calls a is there input stale s n g function) (list_all (calls_pass (calls a is there input stale s n g)) (terms_of_list a.program es))
      (of_call a is there input stale s n g function at parts.1.0) (each_calls a is there input stale s n g es terms.1 parts.0)))
      (λ v t e no. called_next (each (map (expr_of erased (serial_cx a.program input)) es) [] s) v t e)
      (same_on i k (Any i) (Any i) (each (map (expr_of erased (serial_cx a.program input)) es) []) (each (map (expr_of erased (node_context a.program a.node input)) es) [])
      (λ vs. call (serial_cx a.program input) function vs >>= (λ u. pure Next)) (λ vs. call (node_context a.program a.node input) function vs >>= (λ u. pure Next))
      (each_twin a is there input stale s n g es [] terms.1 parts.0) (λ vs u.
      same_on i k (Any i) (Any i) (call (serial_cx a.program input) function vs) (call (node_context a.program a.node input) function vs) (λ u. pure Next) (λ u. pure Next) (call_twin i k function vs)
      (λ v u. gives i k (Any i) Next tt))
      s n (begins a is there input stale s n g))
    where
      then_next : (r : Step Notes ℤ) (v : Flow) (t : State Notes) → and_then r (λ u. pure Next) ≡ Gave v t → v ≡ Next
      then_next (Gave x u) v t e = let same : Next ≡ v = cc in sym same
      then_next (Ended x u) v t e = cc

      called_next : (r : Step Notes (List ℤ)) (v : Flow) (t : State Notes) → and_then r (λ vs. call (serial_cx a.program input) function vs >>= (λ u. pure Next)) ≡ Gave v t → v ≡ Next
      called_next (Gave vs u) v t e = then_next (call (serial_cx a.program input) function vs u) v t e
      called_next (Ended x u) v t e = cc

  -- the tests of a rule that isn't broken
  right_where : (test : Bool) (rule : ℕ) (at : Place) → NothingWrong (in_order (wrong_where test rule at ∷ [])) → test ≡ false
  right_where true rule at h = absurd (h rule at (inl refl))
  right_where false rule at h = refl

  first_false : (x y : Bool) → (x || y) ≡ false → (x ≡ false) × (y ≡ false)
  first_false true y e = absurd (true≢false e)
  first_false false y e = (refl, e)

  no_directive : (d : LoopDirective) → is_some a.set.over ≡ false → a.set.over ≡ Some d → ⊥
  no_directive d e o = true≢false (sym (ap is_some o) ∙ e)

  pub print_follows : (format : List ℕ) (es : List Expr) (at : Place) → AllByRecursion (TermStands a.program) (terms_of_list a.program es)
      → NothingWrong (plain_events (plain.Print format es at) a.set) → Follows (plain.Print format es at) (plain_events (plain.Print format es at) a.set)
  print_follows format es at terms none stale s n safe g =
      let test : Bool = is_some a.set.over || not (is_alone a.set) in
      let list : List (Plan Event) = reads_of_all es a.set ++ wrong_where test 7 at ∷ [] in
      let clear : EachOf NoMark list = together (EachEvent NoMark) (reads_of_all es a.set) (wrong_where test 7 at ∷ []) (all_unmarked a.set es) (wrong_unmarked test 7 at, tt) in
      let fine : EachOf (IsFine a.node stale) list = each_ordered (IsFine a.node stale) list (each_is_fine a.node (in_order list) stale safe none (ordered_each NoMark list clear)) in
      let parts : _ = apart (EachEvent (IsFine a.node stale)) (reads_of_all es a.set) (wrong_where test 7 at ∷ []) fine in
      let outside : _ = first_false (is_some a.set.over) (not (is_alone a.set)) (right_test a.node stale test 7 at parts.1.0) in
      let i : _ = reading a is there input stale s n g in
      let k : ℕ → Bool = both a is there input stale s n g in
      subst (λ l. Along a (GivesNext (plain.Print format es at)) (in_order l) stale s n (plain_of erased (serial_cx a.program input) (plain.Print format es at) s) (plain_of erased (node_context a.program a.node input) (plain.Print format es at) n)) (no_more list)
      (near_then a is there input stale s n g (GivesNext (plain.Print format es at)) list [] clear (Same i k (Any i)) (λ v w t m q. q.1)
      (λ vs. write (printed format vs) >>= (λ u. pure Next)) (λ vs. write (printed format vs) >>= (λ u. pure Next))
      (each (map (expr_of erased (serial_cx a.program input)) es) [] s) (each (map (expr_of erased (node_context a.program a.node input)) es) [] n)
      (each_twin a is there input stale s n g es [] terms parts.0 s n (begins a is there input stale s n g))
      (λ inside. steps_before s.steps (each (map (expr_of erased (serial_cx a.program input)) es) [] s) (λ vs. write (printed format vs) >>= (λ u. pure Next)) (λ v t h. h)
      (plain_steps a is there input stale s n g (plain.Print format es at) inside (each_calls a is there input stale s n g es terms parts.0)))
      (λ v w t m q k. record {
        same = refl;
        value = λ e. refl;
        way = [];
        path = refl;
        agrees = subst (λ z. Agrees a stale (record t { out = t.out ++ printed format v }) (record m { out = m.out ++ printed format z })) q.0 (agrees_write a is stale t m (printed format v) k);
        framed = record { extra = refl; steps = λ e. refl; turn = λ d o. absurd (no_directive d outside.0 o) };
      }))

  -- ---- scalars

  abbrev MayChange : ℕ → Type 0
  MayChange slot = (d : LoopDirective) → a.set.over ≡ Some d → is_changed (a.set.roles slot) ≡ true

  pub declare_follows : (slot : ℕ) (value : Option Expr) (at : Place) → AllByRecursion (TermStands a.program) (terms_of_option a.program value) → MayChange slot
      → NothingWrong (plain_events (plain.Declare slot value at) a.set) → Follows (plain.Declare slot value at) (plain_events (plain.Declare slot value at) a.set)
  declare_follows slot None at terms changed none stale s n safe g =
      let list : List (Plan Event) = skip ∷ wrong_where (is_reduced (a.set.roles slot)) 5 at ∷ [] in
      let clear : EachOf NoMark list = (each_skip NoMark, (wrong_unmarked (is_reduced (a.set.roles slot)) 5 at, tt)) in
      let fine : EachOf (IsFine a.node stale) list = fine_front a.node list (assigned a.set slot ∷ []) stale safe none clear in
      behind a is there input stale s n g (GivesNext (plain.Declare slot None at)) list (assigned a.set slot ∷ []) s n clear (framed_same a s)
      (Gave Next (with_scalar slot (pos 0) s)) (Gave Next (with_scalar slot (pos 0) n))
      (set_along a is (GivesNext (plain.Declare slot None at)) (λ e. refl) a.set.nodes (others a.set) [] refl stale s n slot (pos 0) (pos 0) refl (zero_fits (scalar_type a.program slot)) changed
      (right_test a.node stale (is_reduced (a.set.roles slot)) 5 at fine.1.0) g)
  declare_follows slot (Some e) at terms changed none stale s n safe g =
      let list : List (Plan Event) = reads_of e a.set ∷ wrong_where (is_reduced (a.set.roles slot)) 5 at ∷ [] in
      let clear : EachOf NoMark list = (reads_unmarked a.set e, (wrong_unmarked (is_reduced (a.set.roles slot)) 5 at, tt)) in
      let fine : EachOf (IsFine a.node stale) list = fine_front a.node list (assigned a.set slot ∷ []) stale safe none clear in
      let whole : is_reduced (a.set.roles slot) ≡ false = right_test a.node stale (is_reduced (a.set.roles slot)) 5 at fine.1.0 in
      let s0 : State Notes = with_scalar slot (pos 0) s in
      let n0 : State (Unit {0}) = with_scalar slot (pos 0) n in
      let g0 : Agrees a stale s0 n0 = agrees_set a is stale stale s n slot (pos 0) (zero_fits (scalar_type a.program slot)) (not_index a is slot changed) whole (λ object ne e. e) g in
      let i : _ = reading a is there input stale s0 n0 g0 in
      let k : ℕ → Bool = both a is there input stale s0 n0 g0 in
      behind a is there input stale s n g (GivesNext (plain.Declare slot (Some e) at)) [] (reads_of e a.set ∷ wrong_where (is_reduced (a.set.roles slot)) 5 at ∷ assigned a.set slot ∷ []) s0 n0 tt (set_framed a is s slot (pos 0) changed)
      (plain_of erased (serial_cx a.program input) (plain.Declare slot (Some e) at) s) (plain_of erased (node_context a.program a.node input) (plain.Declare slot (Some e) at) n)
      (near_then a is there input stale s0 n0 g0 (GivesNext (plain.Declare slot (Some e) at)) list (assigned a.set slot ∷ []) clear (Same i k (IsKnown (seen (known_in a s0) e).value)) (λ v w t m q. q.1)
      (λ v. store erased (serial_cx a.program input) (location.Scalar slot) v >>= (λ u. pure Next)) (λ v. store erased (node_context a.program a.node input) (location.Scalar slot) v >>= (λ u. pure Next))
      (expr_of erased (serial_cx a.program input) e s0) (expr_of erased (node_context a.program a.node input) e n0)
      (value_twin a is there input stale s0 n0 g0 e terms fine.0 s0 n0 (begins a is there input stale s0 n0 g0))
      (λ inside. expr_steps a is there input stale s0 n0 g0 e inside (value_calls a is there input stale s0 n0 g0 e terms fine.0))
      (λ v w t m q h. set_along a is (GivesNext (plain.Declare slot (Some e) at)) (λ e. refl) a.set.nodes (others a.set) [] refl stale t m slot (wrap (scalar_type a.program slot) v) (wrap (scalar_type a.program slot) w)
      (ap (wrap (scalar_type a.program slot)) q.0) (wrap_fits (scalar_type a.program slot) v) changed whole h))

  -- an assignment to a scalar that is no reduction variable
  pub set_follows : (slot : ℕ) (here : Place) (c : Option Compound) (e : Expr) → AllByRecursion (TermStands a.program) (terms_of a.program e) → MayChange slot
      → NothingWrong (set_events a.set slot here c e) → Follows (plain.Set (target.Scalar slot here) c e) (set_events a.set slot here c e)
  set_follows slot here c e terms changed none stale s n safe g =
      let list : List (Plan Event) = old_scalar a.set slot here c ∷ reads_of e a.set ∷ wrong_where (is_reduced (a.set.roles slot)) 5 here ∷ [] in
      let clear : EachOf NoMark list = (old_unmarked c, (reads_unmarked a.set e, (wrong_unmarked (is_reduced (a.set.roles slot)) 5 here, tt))) in
      let fine : EachOf (IsFine a.node stale) list = fine_front a.node list (assigned a.set slot ∷ []) stale safe none clear in
      let i : _ = reading a is there input stale s n g in
      let k : ℕ → Bool = both a is there input stale s n g in
      near_then a is there input stale s n g (GivesNext (plain.Set (target.Scalar slot here) c e)) list (assigned a.set slot ∷ []) clear (Same i k (Any i)) (λ v w t m q. q.1)
      (λ v. store erased (serial_cx a.program input) (location.Scalar slot) v >>= (λ u. pure Next)) (λ v. store erased (node_context a.program a.node input) (location.Scalar slot) v >>= (λ u. pure Next))
      (new_value erased (serial_cx a.program input) (location.Scalar slot) c e s) (new_value erased (node_context a.program a.node input) (location.Scalar slot) c e n)
      (new_scalar a is there input stale s n g slot c e (λ d o. of_scalar a is there input stale s n g slot here (subst (λ z. EachEvent (IsFine a.node stale) (old_scalar a.set slot here z)) o fine.0)) terms fine.1.0
      s n (begins a is there input stale s n g))
      (λ inside. steps_before s.steps (new_value erased (serial_cx a.program input) (location.Scalar slot) c e s) (λ v. store erased (serial_cx a.program input) (location.Scalar slot) v >>= (λ u. pure Next)) (λ v t h. h)
      (plain_steps a is there input stale s n g (plain.Set (target.Scalar slot here) c e) inside (value_calls a is there input stale s n g e terms fine.1.0)))
      (λ v w t m q h. set_along a is (GivesNext (plain.Set (target.Scalar slot here) c e)) (λ e. refl) a.set.nodes (others a.set) [] refl stale t m slot (wrap (scalar_type a.program slot) v) (wrap (scalar_type a.program slot) w)
      (ap (wrap (scalar_type a.program slot)) q.0) (wrap_fits (scalar_type a.program slot) v) changed (right_test a.node stale (is_reduced (a.set.roles slot)) 5 here fine.1.1.0) h)
    where
      old_unmarked : (c : Option Compound) → EachEvent NoMark (old_scalar a.set slot here c)
      old_unmarked None = each_skip NoMark
      old_unmarked (Some d) = role_unmarked a.set slot here (a.set.roles slot)

  -- ---- `scanf` into a scalar

  pub first_node : a.set.nodes ≡ 1 → a.node ≡ 0
  first_node e = of_node a.node refl (subst (λ z. has z a.node ≡ true) e there)
    where
      of_node : (k : ℕ) → a.node ≡ k → has 1 a.node ≡ true → a.node ≡ 0
      of_node zero i h = i
      of_node (suc k) i h = absurd (true≢false (sym (subst (λ z. has 1 z ≡ true) i h) ∙ ap (λ b. b == 1) (bit_at-pow_other 0 (suc k) (λ e. absurd (omega (arith, e))))))

  pub scan_follows : (slot : ℕ) (here at : Place) → MayChange slot → NothingWrong (plain_events (plain.Scan (target.Scalar slot here) at) a.set)
      → Follows (plain.Scan (target.Scalar slot here) at) (plain_events (plain.Scan (target.Scalar slot here) at) a.set)
  scan_follows slot here at changed none stale s n safe g =
      let list : List (Plan Event) = wrong_where (is_reduced (a.set.roles slot)) 5 here ∷ [] in
      let test : Bool = is_some a.set.over || not (is_first_alone a.set) in
      let rest : List (Plan Event) = wrong_where test 8 at ∷ [] in
      let mark : Plan Event = emit (Mark (scalar_object slot) 0 (others a.set)) in
      let clear : EachOf NoMark list = (wrong_unmarked (is_reduced (a.set.roles slot)) 5 here, tt) in
      let fine : EachOf (IsFine a.node stale) list = fine_front a.node list (mark ∷ rest) stale safe none clear in
      let whole : is_reduced (a.set.roles slot) ≡ false = right_test a.node stale (is_reduced (a.set.roles slot)) 5 here fine.0 in
      let fails : test ≡ false = right_where test 8 at (right_rest (wrong_where (is_reduced (a.set.roles slot)) 5 here ∷ mark ∷ []) rest none) in
      let outside : _ = first_false (is_some a.set.over) (not (is_first_alone a.set)) fails in
      let first : a.node ≡ 0 = first_node (eqb-true a.set.nodes 1 (un_not (is_first_alone a.set) outside.1)) in
      let r : (Option ℤ × ℕ) = scan_of (scalar_type a.program slot) input s.taken in
      let s0 : State Notes = record s { taken = r.1 } in
      let n0 : State (Unit {0}) = record n { taken = r.1 } in
      let g0 : Agrees a stale s0 n0 = agrees_taken a is stale s n r.1 g in
      behind a is there input stale s n g (GivesNext (plain.Scan (target.Scalar slot here) at)) list (mark ∷ rest) s n clear (framed_same a s)
      (plain_of erased (serial_cx a.program input) (plain.Scan (target.Scalar slot here) at) s) (plain_of erased (node_context a.program a.node input) (plain.Scan (target.Scalar slot here) at) n)
      (subst (λ z. Along a (GivesNext (plain.Scan (target.Scalar slot here) at)) (in_order (mark ∷ rest)) stale s n (plain_of erased (serial_cx a.program input) (plain.Scan (target.Scalar slot here) at) s)
      (store_read erased (node_context a.program a.node input) (location.Scalar slot) (scan_of (scalar_type a.program slot) input z).0 (record n { taken = (scan_of (scalar_type a.program slot) input z).1 })))
      (sym (g.taken first))
      (behind a is there input stale s n g (GivesNext (plain.Scan (target.Scalar slot here) at)) [] (mark ∷ rest) s0 n0 tt
      (record { extra = refl; steps = λ e. refl; turn = λ d o. absurd (no_directive d outside.0 o) })
      (store_read erased (serial_cx a.program input) (location.Scalar slot) r.0 s0) (store_read erased (node_context a.program a.node input) (location.Scalar slot) r.0 n0)
      (of_read rest r.0 s0 n0 (none_rest test fails) whole g0)))
    where
      un_not : (b : Bool) → not b ≡ false → b ≡ true
      un_not true e = refl
      un_not false e = absurd (true≢false e)

      none_rest : (test : Bool) → test ≡ false → Path (in_order (wrong_where test 8 at ∷ [])) []
      none_rest test e = record { front = []; back = []; whole = refl; in_front = none_way test 8 at e; in_back = refl }

      of_read : (rest : List (Plan Event)) (o : Option ℤ) (t : State Notes) (m : State (Unit {0})) → Path (in_order rest) [] → is_reduced (a.set.roles slot) ≡ false → Agrees a stale t m
          → Along a (GivesNext (plain.Scan (target.Scalar slot here) at)) (in_order (emit (Mark (scalar_object slot) 0 (others a.set)) ∷ rest)) stale t m
          (store_read erased (serial_cx a.program input) (location.Scalar slot) o t) (store_read erased (node_context a.program a.node input) (location.Scalar slot) o m)
      of_read rest None t m quiet whole h = record {
        same = refl;
        value = λ e. refl;
        way = Mark (scalar_object slot) 0 (others a.set) ∷ [];
        path = one_way (Mark (scalar_object slot) 0 (others a.set)) rest quiet;
        agrees = agrees_fewer a stale (left a.node (Mark (scalar_object slot) 0 (others a.set) ∷ []) stale) t m (λ object e. mark_adds object a.node (scalar_object slot) (others a.set) (stale object) e) h;
        framed = framed_same a t;
      }
      of_read rest (Some v) t m quiet whole h =
          set_along a is (GivesNext (plain.Scan (target.Scalar slot here) at)) (λ e. refl) 0 (others a.set) rest quiet stale t m slot (wrap (scalar_type a.program slot) v) (wrap (scalar_type a.program slot) v) refl
          (wrap_fits (scalar_type a.program slot) v) changed whole h
