-- How a loop directive ends at a node: the reduction variables get the combined values, and the node agrees along the plan.
use Rattle.std.proofs.Common.{◌≡◌, ◌≢◌, ◌<◌, ◌++◌, ◌==◌, ◌||◌, ℕ, ℤ, pos, Bool, true, false, true≢false, List, [], ◌∷◌, length, map, Option, Some, None, refl, sym, subst, ap, ◌∙◌, eq-eqb, eqb-true}
use Rattle.std.specs.Prelude.{slice_get, slice_set, unwrap_or, is_some}
use Rattle.std.specs.List.{AllByRecursion}
use Rattle.std.specs.Option.{option_map}
use Rattle.std.proofs.lemmas.List.{length-set}
use Rattle.xmp_map.specs.declared.array_map.ArrayMap.{ArrayMap}
use Rattle.xmp_num.specs.Arithmetic.{FitsType}
use Rattle.xmp_paths.specs.Safe.{left, NothingWrong}
use Rattle.xmp_paths.specs.declared.event.Event.{Event}
use Rattle.xmp_prog.specs.declared.parts.ProgParts.{ProgParts}
use Rattle.xmp_prog.specs.declared.parts.Array.{Array}
use Rattle.xmp_prog.specs.declared.parts.Home.TheVariants as home
use Rattle.xmp_prog.specs.declared.statements.LoopDirective.{LoopDirective}
use Rattle.xmp_prog.specs.declared.statements.Reduction.{Reduction}
use Rattle.xmp_prog.specs.declared.statements.Stmt.{Stmt}
use Rattle.xmp_prog.specs.Numbers.{is_in}
use Rattle.xmp_prog.specs.Fits.{node_count}
use Rattle.xmp_prog.specs.Statements.{indices_of}
use Rattle.xmp_meaning.specs.declared.ends.Flow.TheVariants.{Next}
use Rattle.xmp_meaning.specs.Runs.{State, Gave}
use Rattle.xmp_meaning.specs.Cells.{row_in}
use Rattle.xmp_meaning.specs.Declarations.{scalar_type, extents, home_of, home_of_array}
use Rattle.xmp_move.specs.Sides.{position}
use Rattle.xmp_move.specs.Stores.{word_at}
use Rattle.xmp_meaning.specs.Exchanges.{Notes}
use Rattle.xmp_meaning.specs.LoopEnds.{set_all}
use Rattle.xmp_meaning.specs.Writes.{arrays_written}
use Rattle.xmp_meaning.proofs.Stays.{set_other}
use Rattle.xmp_meaning_laws.specs.Laws.{scalar_in}
use Rattle.xmp_meaning_laws.specs.Tuples.{set_where}
use Rattle.xmp_meaning_laws.proofs.CountedLoops.{set_there}
use Rattle.xmp_meaning_laws.proofs.Settings.{where_other}
use Rattle.xmp_loops.specs.Objects.{scalar_object, array_object}
use Rattle.xmp_loops.specs.Roles.{role_in, own_scalars, writes_array}
use Rattle.xmp_loops.specs.declared.role.Role.{Role}
use Rattle.xmp_loops.specs.declared.role.Role.TheVariants.{Shared, Index, Reduced, Own}
use Rattle.xmp_flow.specs.LoopEvents.{loop_events}
use Rattle.xmp_flow.specs.Statements.{events_of}
use Rattle.xmp_flow.specs.Program.{outermost}
use Rattle.xmp_nodes.proofs.Agrees.{IsWhole, Agrees, at_main}
use Rattle.xmp_nodes.proofs.Standing.{IsGlobal}
use Rattle.xmp_nodes.proofs.Leaves.{LoopFits}
use Rattle.xmp_nodes.proofs.Each.{there}
use Rattle.xmp_nodes.proofs.LoopWays as ways
use Rattle.xmp_nodes.proofs.LoopFacts.{none_equal, one_of_all, index_is, own_is, reduced_is, reduced_role, role_of_index}
use Rattle.xmp_nodes.proofs.LoopTurns.{Between}
use Rattle.xmp_nodes.proofs.LoopEntry as entry

-- ---- values that are put into reduction variables

abbrev pub put : List Reduction → (ℕ → ℤ) → State (Unit {0}) → State (Unit {0})
put [] h n = n
put (r ∷ rs) h n = put rs h (record n { scalars = slice_set n.scalars r.variable.number (h r.variable.number) })

pub put_is : (rs : List Reduction) (h : ℕ → ℤ) (n : State (Unit {0})) → set_all (map (λ r. r.variable) rs) (map (λ r. h r.variable.number) rs) n ≡ Gave Next (put rs h n)
put_is [] h n = refl
put_is (r ∷ rs) h n = put_is rs h (record n { scalars = slice_set n.scalars r.variable.number (h r.variable.number) })

pub record PutFrom (rs : List Reduction) (h : ℕ → ℤ) (n b : State (Unit {0})) : Type 0 where
  pub arrays : b.arrays ≡ n.arrays
  pub out : b.out ≡ n.out
  pub taken : b.taken ≡ n.taken
  pub steps : b.steps ≡ n.steps
  pub many : length b.scalars ≡ length n.scalars
  pub other : (slot : ℕ) → is_in (map (λ r. r.variable.number) rs) slot ≡ false → scalar_in b slot ≡ scalar_in n slot
  pub here : (slot : ℕ) → is_in (map (λ r. r.variable.number) rs) slot ≡ true → slot < length n.scalars → scalar_in b slot ≡ h slot

pub put_from : (rs : List Reduction) (h : ℕ → ℤ) (n : State (Unit {0})) → PutFrom rs h n (put rs h n)
put_from [] h n = record { arrays = refl; out = refl; taken = refl; steps = refl; many = refl; other = λ slot e. refl; here = λ slot e l. absurd (true≢false (sym e)) }
put_from (r ∷ rs) h n =
    let m : State (Unit {0}) = record n { scalars = slice_set n.scalars r.variable.number (h r.variable.number) } in
    let f : PutFrom rs h m (put rs h m) = put_from rs h m in
    let long : length m.scalars ≡ length n.scalars = length-set n.scalars r.variable.number (h r.variable.number) in record {
      arrays = f.arrays;
      out = f.out;
      taken = f.taken;
      steps = f.steps;
      many = f.many ∙ long;
      other = λ slot e.
          let parts : _ = not_first slot e in
          f.other slot parts.1 ∙ ap (λ o. unwrap_or o (pos 0)) (set_other n.scalars r.variable.number slot (h r.variable.number) parts.0);
      here = λ slot e l. at_rest slot e l f.other f.here long (is_in (map (λ r. r.variable.number) rs) slot) refl;
    }
  where
    not_first : (slot : ℕ) → ((r.variable.number == slot) || is_in (map (λ r. r.variable.number) rs) slot) ≡ false
        → (r.variable.number ≢ slot) × (is_in (map (λ r. r.variable.number) rs) slot ≡ false)
    not_first slot e = at_test (r.variable.number == slot) refl e
      where
        at_test : (b : Bool) → (r.variable.number == slot) ≡ b → (b || is_in (map (λ r. r.variable.number) rs) slot) ≡ false
            → (r.variable.number ≢ slot) × (is_in (map (λ r. r.variable.number) rs) slot ≡ false)
        at_test true f g = absurd (true≢false g)
        at_test false f g = ((λ same. true≢false (sym (eq-eqb r.variable.number slot same) ∙ f)), g)

    is_first : (slot : ℕ) → ((r.variable.number == slot) || is_in (map (λ r. r.variable.number) rs) slot) ≡ true → is_in (map (λ r. r.variable.number) rs) slot ≡ false → r.variable.number ≡ slot
    is_first slot e f = at_test (r.variable.number == slot) refl e
      where
        at_test : (b : Bool) → (r.variable.number == slot) ≡ b → (b || is_in (map (λ r. r.variable.number) rs) slot) ≡ true → r.variable.number ≡ slot
        at_test true g k = eqb-true r.variable.number slot g
        at_test false g k = absurd (true≢false (sym k ∙ f))

    at_rest : (slot : ℕ) → ((r.variable.number == slot) || is_in (map (λ r. r.variable.number) rs) slot) ≡ true → slot < length n.scalars
        → ((slot : ℕ) → is_in (map (λ r. r.variable.number) rs) slot ≡ false
        → scalar_in (put rs h (record n { scalars = slice_set n.scalars r.variable.number (h r.variable.number) })) slot
        ≡ scalar_in (record n { scalars = slice_set n.scalars r.variable.number (h r.variable.number) }) slot)
        → ((slot : ℕ) → is_in (map (λ r. r.variable.number) rs) slot ≡ true → slot < length (slice_set n.scalars r.variable.number (h r.variable.number))
        → scalar_in (put rs h (record n { scalars = slice_set n.scalars r.variable.number (h r.variable.number) })) slot ≡ h slot)
        → length (slice_set n.scalars r.variable.number (h r.variable.number)) ≡ length n.scalars
        → (b : Bool) → is_in (map (λ r. r.variable.number) rs) slot ≡ b
        → scalar_in (put rs h (record n { scalars = slice_set n.scalars r.variable.number (h r.variable.number) })) slot ≡ h slot
    at_rest slot e l other here long true f = here slot f (subst (λ k. slot < k) (sym long) l)
    at_rest slot e l other here long false f =
        other slot f
        ∙ ap (λ k. unwrap_or (slice_get (slice_set n.scalars k (h k)) slot) (pos 0)) (is_first slot e f)
        ∙ ap (λ o. unwrap_or o (pos 0)) (set_there n.scalars slot (h slot) (let t = there n.scalars slot l in ap is_some t.1))

-- ---- at the end

module _ (p : ProgParts) (global : IsGlobal p) (some : 0 < node_count p) (d : LoopDirective) (body : Stmt) (fits : LoopFits p d body)
    (nothing : NothingWrong (loop_events d body (events_of body) (outermost p))) (node : ℕ) (below : node < node_count p) where
  abbrev pub way : List Event
  way = ways.loop_way (outermost p) d body (events_of body) node (entry.here p global some d body fits nothing node below)
      (entry.inside_quiet p global some d body fits nothing node below) (entry.nest_quiet p global some d body fits nothing node below)
      (entry.reductions_quiet p global some d body fits nothing node below)

  abbrev slots : List ℕ
  slots = indices_of d.nest

  abbrev reduced : List ℕ
  reduced = map (λ r. r.variable.number) d.reductions

  -- the serial state, with the indices where the nest leaves them
  abbrev pub left_at : List (Option ℤ) → State Notes → State Notes
  left_at ends t = record t { scalars = set_where slots ends t.scalars }

  spread_home : (o : Option Array) (t : ℕ) (m : ArrayMap) → home_of_array o ≡ home.Spread t m → option_map (λ (a : Array). a.home) o ≡ Some (home.Spread t m)
  spread_home None t m e = cc
  spread_home (Some a) t m e = ap Some e

  module _ (stale : ℕ → Bool) (t : State Notes) (n : State (Unit {0})) (ends : List (Option ℤ)) (b : Between p d body node stale t n) (whole : IsWhole p t) (ended : IsWhole p (left_at ends t))
      (there_all : AllByRecursion (λ i. i < length p.scalars) reduced) where
    from : PutFrom d.reductions (scalar_in t) n (put d.reductions (scalar_in t) n)
    from = put_from d.reductions (scalar_in t) n

    abbrev result : State (Unit {0})
    result = put d.reductions (scalar_in t) n

    in_reduced : (slot : ℕ) → is_in reduced slot ≡ true → scalar_in result slot ≡ scalar_in t slot
    in_reduced slot i = from.here slot i (subst (λ k. slot < k) (sym b.packed.scalars) (one_of_all (λ i. i < length p.scalars) reduced slot there_all i))

    -- an index is no reduction variable
    not_both : (slot : ℕ) → is_in reduced slot ≡ true → is_in slots slot ≡ false
    not_both slot i = at_test (is_in slots slot) refl
      where
        at_test : (c : Bool) → is_in slots slot ≡ c → is_in slots slot ≡ false
        at_test true e =
            absurd (true≢false (sym (reduced_role d body slot Index (role_of_index p global some (entry.first_have p global some d body fits nothing) d body fits nothing slot e) i)))
        at_test false e = e

    serial_other : (slot : ℕ) → is_in slots slot ≡ false → scalar_in (left_at ends t) slot ≡ scalar_in t slot
    serial_other slot i = ap (λ o. unwrap_or o (pos 0)) (where_other slots ends t.scalars slot (none_equal slot slots i))

    -- what is none of the directive's is shared
    at_role : (slot : ℕ) (r : Role) → role_in d body slot ≡ r → is_in reduced slot ≡ false → is_in (own_scalars d body) slot ≡ false → is_in slots slot ≡ false
        → stale (scalar_object slot) ≡ false → scalar_in n slot ≡ scalar_in t slot
    at_role slot Shared e f g h c = b.shared slot e c
    at_role slot Index e f g h c = absurd (true≢false (sym (index_is d body slot e) ∙ h))
    at_role slot (Reduced op) e f g h c = absurd (true≢false (sym (reduced_is d body slot op e) ∙ f))
    at_role slot Own e f g h c = absurd (true≢false (sym (own_is d body slot e) ∙ g))

    scalars_then : (slot : ℕ) → left node way stale (scalar_object slot) ≡ false → (c : Bool) → is_in reduced slot ≡ c → scalar_in result slot ≡ scalar_in (left_at ends t) slot
    scalars_then slot e true i = in_reduced slot i ∙ sym (serial_other slot (not_both slot i))
    scalars_then slot e false i =
        let before : _ = ways.scalar_left (outermost p) d body (events_of body) node (entry.here p global some d body fits nothing node below)
        (entry.inside_quiet p global some d body fits nothing node below) (entry.nest_quiet p global some d body fits nothing node below)
        (entry.reductions_quiet p global some d body fits nothing node below) stale slot e i in
        let apart : _ = neither_in (own_scalars d body) slots slot before.1 in
        from.other slot i ∙ at_role slot (role_in d body slot) refl i apart.0 apart.1 before.0 ∙ sym (serial_other slot apart.1)
      where
        neither_in : (xs ys : List ℕ) (k : ℕ) → is_in (xs ++ ys) k ≡ false → (is_in xs k ≡ false) × (is_in ys k ≡ false)
        neither_in [] ys k f = (refl, f)
        neither_in (x ∷ xs) ys k f = at_first (x == k) (neither_in xs ys k) f
          where
            at_first : (c : Bool) → (is_in (xs ++ ys) k ≡ false → (is_in xs k ≡ false) × (is_in ys k ≡ false)) → (c || is_in (xs ++ ys) k) ≡ false
                → ((c || is_in xs k) ≡ false) × (is_in ys k ≡ false)
            at_first true rest g = absurd (true≢false g)
            at_first false rest g = rest g

    arrays_then : (array : ℕ) → left node way stale (array_object array) ≡ false
        → (stale (array_object array) ≡ false) × (is_in (ways.shadow_objects (outermost p) (arrays_written body)) (array_object array) ≡ false)
    arrays_then array e =
        ways.array_left (outermost p) d body (events_of body) node (entry.here p global some d body fits nothing node below)
        (entry.inside_quiet p global some d body fits nothing node below) (entry.nest_quiet p global some d body fits nothing node below)
        (entry.reductions_quiet p global some d body fits nothing node below) stale array e

    unwritten_then : (array tm : ℕ) (m : ArrayMap) → home_of p array ≡ home.Spread tm m → left node way stale (array_object array) ≡ false → (c : Bool) → writes_array body array ≡ c
        → writes_array body array ≡ false
    unwritten_then array tm m e l true w =
        absurd (true≢false (sym (ways.shadow_among (outermost p) (arrays_written body) array tm m w (spread_home (slice_get p.arrays array) tm m e)) ∙ (arrays_then array l).1))
    unwritten_then array tm m e l false w = w

    typed_then : (slot : ℕ) → (c : Bool) → is_in reduced slot ≡ c → FitsType (scalar_type p slot) (scalar_in result slot)
    typed_then slot true i = subst (FitsType (scalar_type p slot)) (sym (in_reduced slot i)) (whole.values.scalars slot)
    typed_then slot false i = subst (FitsType (scalar_type p slot)) (sym (from.other slot i)) (b.typed slot)

    pub agrees_then : Agrees (at_main p node) (left node way stale) (left_at ends t) (put d.reductions (scalar_in t) n)
    agrees_then = record {
      whole = ended;
      packed = record { scalars = from.many ∙ b.packed.scalars; rows = ap (map length) from.arrays ∙ b.packed.rows; no_coarrays = b.packed.no_coarrays };
      typed = λ slot. typed_then slot (is_in reduced slot) refl;
      scalars = λ slot f e. scalars_then slot e (is_in reduced slot) refl;
      indices = λ slot e. cc;
      sums = λ slot op e. cc;
      copies = λ array c e. ap (λ rows. row_in rows array) from.arrays ∙ b.copies array c (arrays_then array e).0;
      owned = λ array tm m e cell i o. ap (λ rows. word_at (row_in rows array) (position (home.Spread tm m) (extents p array) node cell)) from.arrays ∙ b.owned array tm m e cell i o;
      shadows = λ array tm m cell e i h o. ap (λ rows. word_at (row_in rows array) (position (home.Spread tm m) (extents p array) node cell)) from.arrays ∙ b.shadows array tm m cell e i h o;
      current = λ array tm m e l w number. b.current array tm m e (arrays_then array l).0 (unwritten_then array tm m e l (writes_array body array) refl) number;
      point = λ q e. cc;
      steps = from.steps ∙ b.steps;
      out = λ before e. b.out before e ∙ ap (λ o. before ++ o) (sym from.out);
      taken = λ e. from.taken ∙ b.taken e;
    }
