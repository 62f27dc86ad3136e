-- The nodes as a loop directive begins: each is as between turns, and has the serial tuples.
use Rattle.std.proofs.Common.{◌≡◌, ◌<◌, ◌-◌, ◌++◌, ◌==◌, ◌||◌, not, ℕ, suc, ℤ, Bool, true, false, true≢false, List, [], ◌∷◌, length, map, inl, inr, refl, sym, subst, ap, ◌∙◌, arith, eqb-true, ne_eqb}
use Rattle.std.specs.List.{AllByRecursion, flat_map}
use Rattle.xmp_num.specs.declared.types.RedOp.{RedOp}
use Rattle.xmp_num.specs.Arithmetic.{FitsType}
use Rattle.xmp_num.specs.Reduction.{combine_of, unit_of}
use Rattle.xmp_num.proofs.ReductionLaws as reductions
use Rattle.xmp_paths.specs.NodeSets.{has}
use Rattle.xmp_paths.specs.Plans.{in_order}
use Rattle.xmp_paths.specs.Safe.{Safe, NothingWrong}
use Rattle.xmp_prog.specs.declared.parts.ProgParts.{ProgParts}
use Rattle.xmp_prog.specs.declared.parts.Home.TheVariants as home
use Rattle.xmp_prog.specs.declared.statements.LoopDirective.{LoopDirective}
use Rattle.xmp_prog.specs.declared.statements.Reduction.{Reduction}
use Rattle.xmp_prog.specs.declared.statements.Stmt.{Stmt}
use Rattle.xmp_prog.specs.Numbers.{is_in}
use Rattle.xmp_prog.specs.Terms.{slots_of_terms}
use Rattle.xmp_prog.specs.Fits.{node_count}
use Rattle.xmp_prog.specs.Statements.{indices_of, terms_of_head, writes_of}
use Rattle.xmp_meaning.specs.Runs.{State}
use Rattle.xmp_map.specs.RowMajor.{row_major}
use Rattle.xmp_meaning.specs.Cells.{row_in}
use Rattle.xmp_meaning.specs.Declarations.{scalar_type, extents}
use Rattle.xmp_move.specs.Sides.{position}
use Rattle.xmp_move.specs.Stores.{word_at}
use Rattle.xmp_meaning.specs.Exchanges.{Exchange, LoopEnd, PartEnd, Notes}
use Rattle.xmp_meaning.specs.Traffic.{copied}
use Rattle.xmp_meaning_laws.specs.Laws.{scalar_in}
use Rattle.xmp_meaning_laws.specs.Tuples.{tuples}
use Rattle.xmp_meaning_laws.proofs.Folds.{tuples_are_known}
use Rattle.xmp_loops.specs.Objects.{scalar_object, all_nodes}
use Rattle.xmp_loops.specs.Roles.{role_in, before_iterations, scalars_of}
use Rattle.xmp_loops.specs.declared.role.Role.{Role}
use Rattle.xmp_loops.specs.declared.role.Role.TheVariants.{Shared, Index, Reduced, Own}
use Rattle.xmp_flow.specs.Setting.{Setting, wrong_where}
use Rattle.xmp_flow.specs.LoopEvents.{at_bounds, nest_events, reduction_events, loop_events}
use Rattle.xmp_flow.specs.Statements.{events_of}
use Rattle.xmp_flow.specs.Program.{outermost}
use Rattle.xmp_nodes.proofs.Agrees.{Agrees, at_main}
use Rattle.xmp_nodes.proofs.Standing.{IsGlobal}
use Rattle.xmp_nodes.proofs.Leaves.{LoopFits}
use Rattle.xmp_nodes.proofs.NodeBits.{all_have}
use Rattle.xmp_nodes.proofs.CopiedLaws.{copied_stays, loop_copies}
use Rattle.xmp_nodes.proofs.Totals.{total_of, total_first}
use Rattle.xmp_nodes.proofs.BoundReads.{Unmarking, IsRead}
use Rattle.xmp_nodes.proofs.LoopPlans.{wrong_where_unmarks, NestReads, nest_reads, nest_unmarks, nest_current, reductions_unmark, reductions_current}
use Rattle.xmp_nodes.proofs.LoopWays as ways
use Rattle.xmp_nodes.proofs.LoopFacts.{shared_is, index_is, own_free, reduced_is, by_role, nest_fits, nest_nothing, reductions_nothing, one_of_all}
use Rattle.xmp_nodes.proofs.LoopTurns.{Between, sum_of}
use Rattle.xmp_nodes.proofs.LoopBegins.{IsAmong, begun, begun_first, BegunFrom, begun_from, begun_typed, begun_unit}

-- one exchange more
abbrev pub noted_in : State Notes → Exchange → State Notes
noted_in s x = record s { extra = record s.extra { exchanges = s.extra.exchanges ++ x ∷ [] } }

module _ (p : ProgParts) (global : IsGlobal p) (some : 0 < node_count p) (d : LoopDirective) (body : Stmt) (fits : LoopFits p d body)
    (nothing : NothingWrong (loop_events d body (events_of body) (outermost p))) where
  pub first_have : has (all_nodes p) 0 ≡ true
  first_have = all_have p 0 some

  abbrev bounds : Setting
  bounds = at_bounds d body (outermost p)

  abbrev reduced : List ℕ
  reduced = map (λ r. r.variable.number) d.reductions

  -- ---- the plan at a node

  module _ (node : ℕ) (below : node < node_count p) where
    pub here : has (all_nodes p) node ≡ true
    here = all_have p node below

    reads : NestReads bounds node here (scalars_of d body) [] d.nest
    reads = nest_reads bounds node here (scalars_of d body) [] d.nest (nest_nothing p global some first_have d body fits nothing)

    pub inside_quiet : Unmarking node (wrong_where (outermost p).inside 10 d.at)
    inside_quiet = wrong_where_unmarks node (outermost p).inside 10 d.at

    pub nest_quiet : Unmarking node (in_order (nest_events bounds [] (scalars_of d body) d.nest))
    nest_quiet = nest_unmarks bounds node here (scalars_of d body) [] d.nest reads

    pub reductions_quiet : Unmarking node (in_order (reduction_events (outermost p) [] d.reductions))
    reductions_quiet = reductions_unmark (outermost p) node here [] [] d.reductions

    module _ (stale : ℕ → Bool) (safe : Safe node (loop_events d body (events_of body) (outermost p)) stale) where
      bounds_current : AllByRecursion (λ slot. IsRead (before_iterations (role_in d body slot)) stale slot) (slots_of_terms (flat_map (terms_of_head p) d.nest))
      bounds_current = nest_current bounds node here (scalars_of d body) [] d.nest stale reads
          (ways.nest_safe (outermost p) d body (events_of body) node here inside_quiet nest_quiet reductions_quiet stale safe) (nest_nothing p global some first_have d body fits nothing)

      pub sums_current : AllByRecursion (λ r. stale (scalar_object r.variable.number) ≡ false) d.reductions
      sums_current = reductions_current (outermost p) node here [] here [] d.reductions stale
          (ways.reductions_safe (outermost p) d body (events_of body) node here inside_quiet nest_quiet reductions_quiet stale safe)

      module _ (s : State Notes) (n : State (Unit {0})) (a : Agrees (at_main p node) stale s n) where
        -- ---- tuples

        -- a reading that has the node's values but for reduction variables gives the serial tuples
        pub same_tuples : (read : ℕ → ℤ) → ((slot : ℕ) → is_in reduced slot ≡ false → read slot ≡ scalar_in n slot)
            → tuples read d.nest ≡ tuples (scalar_in s) d.nest
        same_tuples read h =
            (tuples_are_known p d.nest (writes_of body) (nest_fits p global some first_have d body fits nothing) read (scalar_in s)
            (each_slot (slots_of_terms (flat_map (terms_of_head p) d.nest)) bounds_current)).0
          where
            at_role : (slot : ℕ) (r : Role) → role_in d body slot ≡ r → IsRead (before_iterations r) stale slot → not (is_in (indices_of d.nest) slot) ≡ true → read slot ≡ scalar_in s slot
            at_role slot Shared e c i = h slot (shared_is d body slot e).0 ∙ a.scalars slot refl c
            at_role slot Index e c i = absurd (true≢false (sym i ∙ ap not (index_is d body slot e)))
            at_role slot (Reduced op) e c i = absurd c
            at_role slot Own e c i = h slot (own_free d body slot e) ∙ a.scalars slot refl c

            each_slot : (slots : List ℕ) → AllByRecursion (λ slot. IsRead (before_iterations (role_in d body slot)) stale slot) slots
                → AllByRecursion (λ j. not (is_in (indices_of d.nest) j) ≡ true → read j ≡ scalar_in s j) slots
            each_slot [] c = tt
            each_slot (slot ∷ slots) c = (at_role slot (role_in d body slot) refl c.0, each_slot slots c.1)

        -- ---- as between turns

        pub first_between : (ends : List PartEnd) → Between p d body node stale (noted_in s (LoopEnd d ends)) (begun p node d.reductions n)
        first_between ends =
            let b : BegunFrom p d.reductions n (begun p node d.reductions n) = begun_from p node d.reductions n in
            let same : (array number : ℕ) → copied (s.extra.exchanges ++ LoopEnd d ends ∷ []) array number ≡ copied s.extra.exchanges array number =
            copied_stays s.extra.exchanges (LoopEnd d ends) (loop_copies d ends) in
            record {
              packed = record { scalars = b.length ∙ a.packed.scalars; rows = ap (map length) b.arrays ∙ a.packed.rows; no_coarrays = a.packed.no_coarrays };
              typed = typed_now b;
              shared = λ slot e c. b.other slot (shared_is d body slot e).0 ∙ a.scalars slot refl c;
              copies = λ array e c. ap (λ rows. row_in rows array) b.arrays ∙ a.copies array e c;
              owned = λ array t m e cell i o. ap (λ rows. word_at (row_in rows array) (position (home.Spread t m) (extents p array) node cell)) b.arrays ∙ a.owned array t m e cell i o;
              shadows = λ array t m cell e i h o.
                  ap (λ rows. word_at (row_in rows array) (position (home.Spread t m) (extents p array) node cell)) b.arrays ∙ a.shadows array t m cell e i h o ∙ sym (same array (row_major (extents p array) cell));
              current = λ array t m e c w number. same array number ∙ a.current array t m e c refl number;
              steps = b.steps ∙ a.steps;
              out = λ before e. a.out before e ∙ ap (λ o. before ++ o) (sym b.out);
              taken = λ e. b.taken ∙ a.taken e;
            }
          where
            typed_now : BegunFrom p d.reductions n (begun p node d.reductions n) → (slot : ℕ) → FitsType (scalar_type p slot) (scalar_in (begun p node d.reductions n) slot)
            typed_now b slot = begun_typed p node d.reductions n a.typed slot

  -- ---- sums

  same_op : (slot : ℕ) (op : RedOp) → role_in d body slot ≡ Reduced op → (rs : List Reduction) → AllByRecursion (λ r. role_in d body r.variable.number ≡ Reduced r.op) rs
      → (r : Reduction) → r.variable.number ≡ slot → IsAmong r rs → r.op ≡ op
  same_op slot op e [] h r f i = absurd i
  same_op slot op e (q ∷ rs) h r f (inl same) = op_same (sym (subst (λ z. role_in d body z.variable.number ≡ Reduced z.op) (sym same) h.0) ∙ ap (role_in d body) f ∙ e)
    where
      op_same : Reduced r.op ≡ Reduced op → r.op ≡ op
      op_same e = cc
  same_op slot op e (q ∷ rs) h r f (inr i) = same_op slot op e rs h.1 r f i

  -- the value of a reduction variable is node 0's
  pub first_sums : (stale : ℕ → Bool) (s : State Notes) (n : ℕ → State (Unit {0})) → Safe 0 (loop_events d body (events_of body) (outermost p)) stale → Agrees (at_main p 0) stale s (n 0)
      → ((k : ℕ) → k < node_count p → length (n k).scalars ≡ length p.scalars) → AllByRecursion (λ i. i < length p.scalars) reduced
      → (slot : ℕ) (op : RedOp) → role_in d body slot ≡ Reduced op → sum_of p d body op slot (λ k. begun p k d.reductions (n k)) ≡ scalar_in s slot
  first_sums stale s n safe a long there slot op e =
      ap (λ count. total_of (combine_of op (scalar_type p slot)) (unit_of op (scalar_type p slot)) (λ k. scalar_in (begun p k d.reductions (n k)) slot) count) is_more
      ∙ total_first (FitsType (scalar_type p slot)) (combine_of op (scalar_type p slot)) (unit_of op (scalar_type p slot)) (reductions.holds op (scalar_type p slot))
      (λ k. scalar_in (begun p k d.reductions (n k)) slot) (node_count p - 1)
      (subst (λ (m : State (Unit {0})). FitsType (scalar_type p slot) (scalar_in m slot)) (sym (begun_first p d.reductions (n 0))) (a.typed slot))
      (λ k l ne. begun_unit p k (ne_eqb k 0 ne) slot op d.reductions
      (same_op slot op e d.reductions (by_role d body (outermost p) (reductions_nothing p global some first_have d body fits nothing)))
      among (n k) (subst (λ c. slot < c) (sym (long k (let q : suc (node_count p - 1) ≡ node_count p = sym is_more in subst (λ c. k < c) q l))) (one_of_all (λ i. i < length p.scalars) reduced slot there among)))
      ∙ ap (λ (m : State (Unit {0})). scalar_in m slot) (begun_first p d.reductions (n 0))
      ∙ a.scalars slot refl (current_of d.reductions (sums_current 0 some stale safe) among)
    where
      is_more : node_count p ≡ suc (node_count p - 1)
      is_more = omega (arith, some)

      among : is_in reduced slot ≡ true
      among = reduced_is d body slot op e

      current_of : (rs : List Reduction) → AllByRecursion (λ r. stale (scalar_object r.variable.number) ≡ false) rs → is_in (map (λ r. r.variable.number) rs) slot ≡ true
          → stale (scalar_object slot) ≡ false
      current_of [] h i = absurd (true≢false (sym i))
      current_of (r ∷ rs) h i = at_test (current_of rs h.1) (r.variable.number == slot) refl i
        where
          at_test : (is_in (map (λ r. r.variable.number) rs) slot ≡ true → stale (scalar_object slot) ≡ false) → (b : Bool) → (r.variable.number == slot) ≡ b
              → (b || is_in (map (λ r. r.variable.number) rs) slot) ≡ true → stale (scalar_object slot) ≡ false
          at_test rest true f g = ap (λ j. stale (scalar_object j)) (sym (eqb-true r.variable.number slot f)) ∙ h.0
          at_test rest false f g = rest g
