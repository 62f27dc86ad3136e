-- The plan of a loop directive: what its bounds read, what an iteration begins with, and a way through it.
use Rattle.std.proofs.Common.{◌≡◌, ◌++◌, ◌==◌, ◌&&◌, ◌||◌, ◌⊎◌, not, ℕ, Bool, true, false, true≢false, List, [], ◌∷◌, inl, inr, refl, sym, ap, ◌∙◌, eqb-true}
use Rattle.std.specs.Prelude.{slice_get, nat_le}
use Rattle.std.specs.List.{AllByRecursion, list_all, flat_map}
use Rattle.xmp_base.specs.declared.place.Place.{Place}
use Rattle.xmp_map.proofs.Counted.{and_left, and_right}
use Rattle.xmp_num.specs.declared.types.Ty.TheVariants.{Int}
use Rattle.xmp_paths.specs.NodeSets.{has}
use Rattle.xmp_paths.specs.Plans.{Plan, emit, sequence, in_order}
use Rattle.xmp_paths.specs.Safe.{Safe, NothingWrong}
use Rattle.xmp_paths.proofs.SafeLaws.{safe_front, safe_read}
use Rattle.xmp_paths.specs.declared.event.Event.{Event}
use Rattle.xmp_paths.specs.declared.event.Event.TheVariants.{Read}
use Rattle.xmp_prog.specs.declared.statements.LoopHead.{LoopHead}
use Rattle.xmp_prog.specs.declared.statements.Reduction.{Reduction}
use Rattle.xmp_prog.specs.Numbers.{is_in, apart, same_type}
use Rattle.xmp_prog.specs.Terms.{type_of, terms_of, slots_of_terms}
use Rattle.xmp_prog.specs.Counted.{most_counted, is_int_scalar, is_bound_term, is_small_constant, is_counted, is_nest}
use Rattle.xmp_prog.specs.Statements.{indices_of, terms_of_head}
use Rattle.xmp_loops.specs.Objects.{scalar_object, all_nodes}
use Rattle.xmp_loops.specs.Bounds.{may_stand, is_bound}
use Rattle.xmp_flow.specs.Setting.{Setting, wrong_where, is_reduced}
use Rattle.xmp_flow.specs.Reads.{reads_of}
use Rattle.xmp_flow.specs.LoopEvents.{head_events, nest_events, reduction_events}
use Rattle.xmp_meaning_laws.specs.Tuples.{is_fixed_term, is_fixed, begins_fixed}
use Rattle.xmp_meaning_laws.proofs.Conditions.{all_together}
use Rattle.xmp_meaning_laws.proofs.CountedLoops.{Six, six, both_true, either, is_not}
use Rattle.xmp_nodes.proofs.BoundReads.{Unmarking, skip_unmarks, read_unmarks, wrong_unmarks, all_unmark, safe_behind, slots_joined, IsRead, not_true, BoundFacts, bound_facts}
use Rattle.xmp_nodes.proofs.LoopBodies.{test_fails}

-- ---- lists of numbers

pub not_among : (ns ms : List ℕ) (n : ℕ) → AllByRecursion (λ j. is_in ms j ≡ false) ns → is_in ns n ≡ true → is_in ms n ≡ false
not_among [] ms n h e = absurd (true≢false (sym e))
not_among (j ∷ ns) ms n h e = at_test (not_among ns ms n h.1) (j == n) refl e
  where
    at_test : (is_in ns n ≡ true → is_in ms n ≡ false) → (b : Bool) → (j == n) ≡ b → (b || is_in ns n) ≡ true → is_in ms n ≡ false
    at_test rest true g f = ap (is_in ms) (sym (eqb-true j n g)) ∙ h.0
    at_test rest false g f = rest f

all_apart_list : (ns ms : List ℕ) → AllByRecursion (λ j. is_in ms j ≡ false) ns → apart ns ms ≡ true
all_apart_list [] ms h = refl
all_apart_list (n ∷ ns) ms h = both_true (not (is_in ms n)) (apart ns ms) (ap not h.0) (all_apart_list ns ms h.1)

all_pass : {A : Type 0} (test : A → Bool) (xs : List A) → AllByRecursion (λ x. test x ≡ true) xs → list_all test xs ≡ true
all_pass test [] h = refl
all_pass test (x ∷ xs) h = both_true (test x) (list_all test xs) h.0 (all_pass test xs h.1)

is_of_not : (b : Bool) → not b ≡ false → b ≡ true
is_of_not true e = refl
is_of_not false e = absurd (true≢false e)

fewer_in : (n : ℕ) (ms : List ℕ) (j : ℕ) → is_in (n ∷ ms) j ≡ false → is_in ms j ≡ false
fewer_in n ms j e = at_test (n == j) e
  where
    at_test : (b : Bool) → (b || is_in ms j) ≡ false → is_in ms j ≡ false
    at_test true f = absurd (true≢false f)
    at_test false f = f

all_fewer : (n : ℕ) (ms ns : List ℕ) → AllByRecursion (λ j. is_in (n ∷ ms) j ≡ false) ns → AllByRecursion (λ j. is_in ms j ≡ false) ns
all_fewer n ms [] h = tt
all_fewer n ms (j ∷ ns) h = (fewer_in n ms j h.0, all_fewer n ms ns h.1)

pub wrong_where_unmarks : (node : ℕ) (test : Bool) (rule : ℕ) (at : Place) → Unmarking node (wrong_where test rule at)
wrong_where_unmarks node true rule at = wrong_unmarks node rule at
wrong_where_unmarks node false rule at = skip_unmarks node

-- ---- the bounds of a nest

-- what a loop of a nest reads before the iterations, with the loops round it
pub record HeadReads (s : Setting) (node : ℕ) (here : has s.nodes node ≡ true) (outer written : List ℕ) (head : LoopHead) : Type 0 where
  pub from : BoundFacts s node here (may_stand outer written) (terms_of s.program head.from) (reads_of head.from s)
  pub to : BoundFacts s node here (may_stand outer written) (terms_of s.program head.to) (reads_of head.to s)

module _ (s : Setting) (node : ℕ) (here : has s.nodes node ≡ true) (written : List ℕ) where
  abbrev pub NestReads : List ℕ → List LoopHead → Type 0
  NestReads outer [] = Unit {0}
  NestReads outer (head ∷ heads) = HeadReads s node here outer written head × NestReads (outer ++ head.index.number ∷ []) heads

  pub nest_reads : (outer : List ℕ) (heads : List LoopHead) → NothingWrong (in_order (nest_events s outer written heads)) → NestReads outer heads
  nest_reads outer [] n = tt
  nest_reads outer (head ∷ heads) n = (
    record {
      from = bound_facts s node here (may_stand outer written) head.from
          (is_of_not (is_bound outer written head.from) (test_fails (not (is_bound outer written head.from)) 12 head.from_at (λ rule at t. n rule at (inl (inr (inl t))))));
      to = bound_facts s node here (may_stand outer written) head.to
          (is_of_not (is_bound outer written head.to) (test_fails (not (is_bound outer written head.to)) 12 head.to_at (λ rule at t. n rule at (inl (inr (inr (inr (inl t))))))));
    },
    nest_reads (outer ++ head.index.number ∷ []) heads (λ rule at t. n rule at (inr t)),
  )

  pub head_unmarks : (outer : List ℕ) (head : LoopHead) → HeadReads s node here outer written head → Unmarking node (head_events s outer written head)
  head_unmarks outer head r = all_unmark node (
      reads_of head.from s ∷ wrong_where (not (is_bound outer written head.from)) 12 head.from_at
      ∷ reads_of head.to s ∷ wrong_where (not (is_bound outer written head.to)) 12 head.to_at
      ∷ wrong_where (is_reduced (s.roles head.index.number)) 5 head.index.at ∷ [])
      (r.from.unmarks, (wrong_where_unmarks node _ 12 head.from_at, (r.to.unmarks, (wrong_where_unmarks node _ 12 head.to_at, (wrong_where_unmarks node _ 5 head.index.at, tt)))))

  pub nest_unmarks : (outer : List ℕ) (heads : List LoopHead) → NestReads outer heads → Unmarking node (in_order (nest_events s outer written heads))
  nest_unmarks outer heads r = all_unmark node (nest_events s outer written heads) (each_one outer heads r)
    where
      each_one : (outer : List ℕ) (heads : List LoopHead) → NestReads outer heads → AllByRecursion (Unmarking node) (nest_events s outer written heads)
      each_one outer [] r = tt
      each_one outer (head ∷ heads) r = (head_unmarks outer head r.0, each_one (outer ++ head.index.number ∷ []) heads r.1)

  -- the scalars of the bounds are current
  pub nest_current : (outer : List ℕ) (heads : List LoopHead) (stale : ℕ → Bool) → NestReads outer heads → Safe node (in_order (nest_events s outer written heads)) stale
      → NothingWrong (in_order (nest_events s outer written heads))
      → AllByRecursion (λ slot. IsRead (s.roles slot) stale slot) (slots_of_terms (flat_map (terms_of_head s.program) heads))
  nest_current outer [] stale r f n = tt
  nest_current outer (head ∷ heads) stale r f n =
      let rest : Plan Event = in_order (nest_events s (outer ++ head.index.number ∷ []) written heads) in
      let own : Safe node (head_events s outer written head) stale = safe_front node (head_events s outer written head) rest stale f in
      let behind_from : Plan Event = in_order (wrong_where (not (is_bound outer written head.from)) 12 head.from_at
      ∷ reads_of head.to s ∷ wrong_where (not (is_bound outer written head.to)) 12 head.to_at
      ∷ wrong_where (is_reduced (s.roles head.index.number)) 5 head.index.at ∷ []) in
      let behind_test : Plan Event = in_order (reads_of head.to s ∷ wrong_where (not (is_bound outer written head.to)) 12 head.to_at
      ∷ wrong_where (is_reduced (s.roles head.index.number)) 5 head.index.at ∷ []) in
      let behind_to : Plan Event = in_order (wrong_where (not (is_bound outer written head.to)) 12 head.to_at
      ∷ wrong_where (is_reduced (s.roles head.index.number)) 5 head.index.at ∷ []) in
      slots_joined (λ slot. IsRead (s.roles slot) stale slot) (terms_of_head s.program head) (flat_map (terms_of_head s.program) heads)
      (slots_joined (λ slot. IsRead (s.roles slot) stale slot) (terms_of s.program head.from) (terms_of s.program head.to)
      (r.0.from.current stale (safe_front node (reads_of head.from s) behind_from stale own) (λ rule at t. n rule at (inl (inl t))))
      (r.0.to.current stale
      (safe_front node (reads_of head.to s) behind_to stale
      (safe_behind node (wrong_where (not (is_bound outer written head.from)) 12 head.from_at) behind_test stale (wrong_where_unmarks node _ 12 head.from_at)
      (safe_behind node (reads_of head.from s) behind_from stale r.0.from.unmarks own)))
      (λ rule at t. n rule at (inl (inr (inr (inl t)))))))
      (nest_current (outer ++ head.index.number ∷ []) heads stale r.1
      (safe_behind node (head_events s outer written head) rest stale (head_unmarks outer head r.0) f) (λ rule at t. n rule at (inr t)))

  -- each loop begins at a value that nothing in it changes
  pub nest_begins : (outer : List ℕ) (heads : List LoopHead) (writes : List ℕ) → NestReads outer heads → is_nest s.program heads writes ≡ true
      → AllByRecursion (λ j. is_in (indices_of heads ++ writes) j ≡ false) outer
      → ((j : ℕ) → is_in written j ≡ false → is_in (indices_of heads ++ writes) j ≡ false)
      → begins_fixed s.program heads writes ≡ true
  nest_begins outer [] writes r e o w = refl
  nest_begins outer (head ∷ heads) writes r e o w =
      both_true (is_fixed s.program (head.index.number ∷ (indices_of heads ++ writes)) head.from) (begins_fixed s.program heads writes)
      (both_true (list_all is_fixed_term (terms_of s.program head.from)) (apart (slots_of_terms (terms_of s.program head.from)) (head.index.number ∷ (indices_of heads ++ writes)))
      (all_pass is_fixed_term (terms_of s.program head.from) r.0.from.fixed)
      (all_apart_list (slots_of_terms (terms_of s.program head.from)) (head.index.number ∷ (indices_of heads ++ writes)) (each_slot (slots_of_terms (terms_of s.program head.from)) r.0.from.pass)))
      (nest_begins (outer ++ head.index.number ∷ []) heads writes r.1 (and_right (is_counted s.program head (indices_of heads ++ writes)) (is_nest s.program heads writes) e)
      (all_together (λ j. is_in (indices_of heads ++ writes) j ≡ false) outer (head.index.number ∷ [])
      (all_fewer head.index.number (indices_of heads ++ writes) outer o) (index_apart, tt))
      (λ j f. fewer_in head.index.number (indices_of heads ++ writes) j (w j f)))
    where
      tests : Six (is_int_scalar (slice_get s.program.scalars head.index.number)) (same_type (type_of s.program head.to) Int)
          (list_all is_bound_term (terms_of s.program head.to)) (not (is_in (slots_of_terms (terms_of s.program head.to)) head.index.number))
          (apart (head.index.number ∷ slots_of_terms (terms_of s.program head.to)) (indices_of heads ++ writes))
          (((head.step == 1) && not head.inclusive) || (is_small_constant head.to && (nat_le 1 head.step && nat_le head.step most_counted)))
      tests = six _ _ _ _ _ _ (and_left (is_counted s.program head (indices_of heads ++ writes)) (is_nest s.program heads writes) e)

      index_apart : is_in (indices_of heads ++ writes) head.index.number ≡ false
      index_apart = is_not (is_in (indices_of heads ++ writes) head.index.number)
          (and_left (not (is_in (indices_of heads ++ writes) head.index.number)) (apart (slots_of_terms (terms_of s.program head.to)) (indices_of heads ++ writes)) tests.fifth)

      one_slot : (slot : ℕ) → (is_in outer slot || not (is_in written slot)) ≡ true → is_in (head.index.number ∷ (indices_of heads ++ writes)) slot ≡ false
      one_slot slot t = at_case (either (is_in outer slot) (not (is_in written slot)) t)
        where
          at_case : (is_in outer slot ≡ true) ⊎ (not (is_in written slot) ≡ true) → is_in (head.index.number ∷ (indices_of heads ++ writes)) slot ≡ false
          at_case (inl a) = not_among outer (head.index.number ∷ (indices_of heads ++ writes)) slot o a
          at_case (inr b) = w slot (is_not (is_in written slot) b)

      each_slot : (slots : List ℕ) → AllByRecursion (λ slot. may_stand outer written slot ≡ true) slots
          → AllByRecursion (λ slot. is_in (head.index.number ∷ (indices_of heads ++ writes)) slot ≡ false) slots
      each_slot [] t = tt
      each_slot (slot ∷ slots) t = (one_slot slot t.0, each_slot slots t.1)

  -- ---- reduction variables

  pub reductions_unmark : (before : List ℕ) (rs : List Reduction) → Unmarking node (in_order (reduction_events s before rs))
  reductions_unmark before rs = all_unmark node (reduction_events s before rs) (each_one before rs)
    where
      each_one : (before : List ℕ) (rs : List Reduction) → AllByRecursion (Unmarking node) (reduction_events s before rs)
      each_one before [] = tt
      each_one before (r ∷ rs) =
          (read_unmarks node _ _ 1 r.variable.at, (wrong_where_unmarks node _ 5 r.variable.at, each_one (before ++ r.variable.number ∷ []) rs))

  pub reductions_current : has (all_nodes s.program) node ≡ true → (before : List ℕ) (rs : List Reduction) (stale : ℕ → Bool) → Safe node (in_order (reduction_events s before rs)) stale
      → AllByRecursion (λ r. stale (scalar_object r.variable.number) ≡ false) rs
  reductions_current all before [] stale f = tt
  reductions_current all before (r ∷ rs) stale f =
      let read : Plan Event = emit (Read (scalar_object r.variable.number) (all_nodes s.program) 1 r.variable.at) in
      let wrong : Plan Event = wrong_where (is_in before r.variable.number) 5 r.variable.at in
      let rest : Plan Event = in_order (reduction_events s (before ++ r.variable.number ∷ []) rs) in (
        not_true (stale (scalar_object r.variable.number))
            (safe_read node (scalar_object r.variable.number) (all_nodes s.program) 1 r.variable.at stale (safe_front node read (sequence wrong rest) stale f) all),
        reductions_current all (before ++ r.variable.number ∷ []) rs stale
            (safe_behind node wrong rest stale (wrong_where_unmarks node _ 5 r.variable.at)
            (safe_behind node read (sequence wrong rest) stale (read_unmarks node _ _ 1 r.variable.at) f)),
      )
