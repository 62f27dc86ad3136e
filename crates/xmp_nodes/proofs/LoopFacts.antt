-- What is known of a loop directive of a program whose parts fit, where nothing is wrong in its plan.
use Rattle.std.proofs.Common.{◌≡◌, ◌≢◌, ◌<◌, ◌+◌, ◌++◌, ◌==◌, ◌||◌, if◌then◌else◌, ℕ, Bool, true, false, true≢false, List, [], ◌∷◌, map, Option, Some, None, inl, inr, refl, sym, subst, ap, ◌∙◌, arith, eq-eqb, eqb-true, ne_eqb, append_assoc, ℤ}
use Rattle.std.specs.List.{AllByRecursion, list_all, flat_map, filter, find}
use Rattle.std.proofs.lemmas.List.Folds.{list_all-append}
use Rattle.xmp_map.specs.declared.array_map.ArrayMap.{ArrayMap}
use Rattle.xmp_map.specs.Boxes.{IsInside}
use Rattle.xmp_map.specs.Held as held
use Rattle.xmp_num.specs.declared.types.RedOp.{RedOp}
use Rattle.xmp_num.specs.declared.types.Ty.TheVariants.{Int}
use Rattle.xmp_paths.specs.NodeSets.{has}
use Rattle.xmp_paths.specs.Plans.{in_order}
use Rattle.xmp_paths.specs.Safe.{NothingWrong}
use Rattle.xmp_prog.specs.declared.parts.ProgParts.{ProgParts}
use Rattle.xmp_prog.specs.declared.parts.Home.TheVariants as home
use Rattle.xmp_prog.specs.declared.statements.LoopHead.{LoopHead}
use Rattle.xmp_prog.specs.declared.statements.LoopDirective.{LoopDirective}
use Rattle.xmp_prog.specs.declared.statements.Reduction.{Reduction}
use Rattle.xmp_prog.specs.declared.statements.Stmt.{Stmt}
use Rattle.xmp_prog.specs.Numbers.{is_in}
use Rattle.xmp_prog.specs.Terms.{Term, terms_of}
use Rattle.xmp_prog.specs.Tests.{constant_fits}
use Rattle.xmp_prog.specs.Directives.{points_indices}
use Rattle.xmp_prog.specs.Fits.{node_count}
use Rattle.xmp_prog.specs.Statements.{indices_of, terms_of_head, writes_of}
use Rattle.xmp_meaning.specs.Declarations.{scalar_type, home_of, extents}
use Rattle.xmp_meaning.specs.Writes.{scalars_written, arrays_written}
use Rattle.xmp_meaning.proofs.WrittenOnce.{writes_are_one}
use Rattle.xmp_meaning_laws.specs.Tuples.{NestFits}
use Rattle.xmp_meaning_laws.proofs.Conditions.{all_apart}
use Rattle.xmp_meaning_laws.proofs.Named.{all_of_test}
use Rattle.xmp_meaning_laws.proofs.CountedLoops.{both_true}
use Rattle.xmp_meaning_laws.proofs.Settings.{Apart}
use Rattle.xmp_meaning_laws.proofs.Folds.{all_fit, all_apart_of}
use Rattle.xmp_meaning_laws.proofs.Bodies.{slots_unwritten}
use Rattle.xmp_meaning_laws.proofs.Types.{nest_ints}
use Rattle.xmp_move.specs.Sides.{owns_cell}
use Rattle.xmp_move.proofs.Boxes.{in_range}
use Rattle.xmp_move.proofs.SidesKept.{cells_are_owned}
use Rattle.xmp_loops.specs.Objects.{all_nodes}
use Rattle.xmp_loops.specs.Roles.{role_by, role_in, before_iterations, is_own, own_scalars, scalars_of, writes_array}
use Rattle.xmp_loops.specs.declared.role.Role.{Role}
use Rattle.xmp_loops.specs.declared.role.Role.TheVariants.{Shared, Index, Reduced, Own}
use Rattle.xmp_flow.specs.Setting.{Setting, is_reduced}
use Rattle.xmp_flow.specs.LoopEvents.{within, at_bounds, nest_events, reduction_events, loop_events}
use Rattle.xmp_flow.specs.Statements.{events_of}
use Rattle.xmp_flow.specs.Program.{outermost}
use Rattle.xmp_nodes.proofs.Agrees.{Stand, is_changed}
use Rattle.xmp_nodes.proofs.Standing.{IsGlobal, TermStands, IsLoopSetting, IsSetting, WritesFit}
use Rattle.xmp_nodes.proofs.Leaves.{LoopFits}
use Rattle.xmp_nodes.proofs.PackedRows.{spread_array}
use Rattle.xmp_nodes.proofs.LoopBodies.{nothing_in, test_fails, body_facts}
use Rattle.xmp_nodes.proofs.LoopPlans.{nest_reads, nest_begins}

-- ---- lists of numbers

pub none_equal : (slot : ℕ) (ns : List ℕ) → is_in ns slot ≡ false → AllByRecursion (λ n. n ≢ slot) ns
none_equal slot [] e = tt
none_equal slot (n ∷ ns) e = at_test (none_equal slot ns) (n == slot) refl e
  where
    at_test : (is_in ns slot ≡ false → AllByRecursion (λ n. n ≢ slot) ns) → (b : Bool) → (n == slot) ≡ b → (b || is_in ns slot) ≡ false → AllByRecursion (λ n. n ≢ slot) (n ∷ ns)
    at_test rest true g f = absurd (true≢false f)
    at_test rest false g f = ((λ same. true≢false (sym (eq-eqb n slot same) ∙ g)), rest f)

pub one_of_all : (P : ℕ → Type 0) (ns : List ℕ) (n : ℕ) → AllByRecursion P ns → is_in ns n ≡ true → P n
one_of_all P [] n h e = absurd (true≢false (sym e))
one_of_all P (j ∷ ns) n h e = at_test (one_of_all P ns n h.1) (j == n) refl e
  where
    at_test : (is_in ns n ≡ true → P n) → (b : Bool) → (j == n) ≡ b → (b || is_in ns n) ≡ true → P n
    at_test rest true g f = subst P (eqb-true j n g) h.0
    at_test rest false g f = rest f

not_in_of_none : (slot : ℕ) (ns : List ℕ) → AllByRecursion (λ n. n ≢ slot) ns → is_in ns slot ≡ false
not_in_of_none slot [] h = refl
not_in_of_none slot (n ∷ ns) h = ap (λ b. b || is_in ns slot) (ne_eqb n slot h.0) ∙ not_in_of_none slot ns h.1

in_filtered : (test : ℕ → Bool) (ns : List ℕ) (n : ℕ) → is_in ns n ≡ true → test n ≡ true → is_in (filter test ns) n ≡ true
in_filtered test [] n e t = absurd (true≢false (sym e))
in_filtered test (j ∷ ns) n e t = at_first (in_filtered test ns n) (j == n) refl e (test j) refl
  where
    or_true : (b c : Bool) → c ≡ true → (b || c) ≡ true
    or_true true c h = refl
    or_true false c h = h

    at_first : (is_in ns n ≡ true → test n ≡ true → is_in (filter test ns) n ≡ true) → (b : Bool) → (j == n) ≡ b → (b || is_in ns n) ≡ true
        → (c : Bool) → test j ≡ c → is_in (if c then j ∷ filter test ns else filter test ns) n ≡ true
    at_first rest true g f true k = ap (λ b. b || is_in (filter test ns) n) g
    at_first rest true g f false k = absurd (true≢false (sym t ∙ ap test (sym (eqb-true j n g)) ∙ k))
    at_first rest false g f true k = or_true (j == n) (is_in (filter test ns) n) (rest f t)
    at_first rest false g f false k = rest f t

-- ---- roles

-- a reduction that a list has: the first that names a variable
found_in : (rs : List Reduction) (slot : ℕ) (r : Reduction) → find (λ r. r.variable.number == slot) rs ≡ Some r → is_in (map (λ r. r.variable.number) rs) slot ≡ true
found_in [] slot r e = cc
found_in (q ∷ rs) slot r e = at_test (found_in rs slot r) (q.variable.number == slot) refl e
  where
    at_test : (find (λ r. r.variable.number == slot) rs ≡ Some r → is_in (map (λ r. r.variable.number) rs) slot ≡ true)
        → (b : Bool) → (q.variable.number == slot) ≡ b → (if b then Some q else find (λ r. r.variable.number == slot) rs) ≡ Some r → (b || is_in (map (λ r. r.variable.number) rs) slot) ≡ true
    at_test rest true g f = refl
    at_test rest false g f = rest f

not_found : (rs : List Reduction) (slot : ℕ) → find (λ r. r.variable.number == slot) rs ≡ None → is_in (map (λ r. r.variable.number) rs) slot ≡ false
not_found [] slot e = refl
not_found (q ∷ rs) slot e = at_test (not_found rs slot) (q.variable.number == slot) refl e
  where
    at_test : (find (λ r. r.variable.number == slot) rs ≡ None → is_in (map (λ r. r.variable.number) rs) slot ≡ false)
        → (b : Bool) → (q.variable.number == slot) ≡ b → (if b then Some q else find (λ r. r.variable.number == slot) rs) ≡ None → (b || is_in (map (λ r. r.variable.number) rs) slot) ≡ false
    at_test rest true g f = cc
    at_test rest false g f = rest f

-- what a scalar's role says of it
abbrev pub RoleSays : Option Reduction → (index written : Bool) → Role → Type 0
RoleSays found index written Shared = (found ≡ None) × (index ≡ false) × (written ≡ false)
RoleSays found index written Index = (found ≡ None) × (index ≡ true)
RoleSays found index written (Reduced op) = (r : Reduction) × (found ≡ Some r) × (r.op ≡ op)
RoleSays found index written Own = (found ≡ None) × (index ≡ false) × (written ≡ true)

role_says : (found : Option Reduction) (index written : Bool) → RoleSays found index written (role_by found index written)
role_says (Some r) index written = (r, refl, refl)
role_says None true written = (refl, refl)
role_says None false true = (refl, refl, refl)
role_says None false false = (refl, refl, refl)

module _ (d : LoopDirective) (body : Stmt) where
  abbrev named : ℕ → Option Reduction
  named slot = find (λ r. r.variable.number == slot) d.reductions

  abbrev reduced : List ℕ
  reduced = map (λ r. r.variable.number) d.reductions

  says : (slot : ℕ) (r : Role) → role_in d body slot ≡ r → RoleSays (named slot) (is_in (indices_of d.nest) slot) (is_in (scalars_written body) slot) r
  says slot r e = subst (RoleSays (named slot) (is_in (indices_of d.nest) slot) (is_in (scalars_written body) slot)) e
      (role_says (named slot) (is_in (indices_of d.nest) slot) (is_in (scalars_written body) slot))

  pub shared_is : (slot : ℕ) → role_in d body slot ≡ Shared
      → (is_in reduced slot ≡ false) × (is_in (indices_of d.nest) slot ≡ false) × (is_in (scalars_written body) slot ≡ false)
  shared_is slot e = let s : _ = says slot Shared e in (not_found d.reductions slot s.0, s.1, s.2)

  pub index_is : (slot : ℕ) → role_in d body slot ≡ Index → is_in (indices_of d.nest) slot ≡ true
  index_is slot e = (says slot Index e).1

  pub own_is : (slot : ℕ) → role_in d body slot ≡ Own → is_in (own_scalars d body) slot ≡ true
  own_is slot e =
      in_filtered (λ n. is_own (role_in d body n)) (scalars_written body) slot (says slot Own e).2 (ap is_own e)

  pub own_free : (slot : ℕ) → role_in d body slot ≡ Own → is_in reduced slot ≡ false
  own_free slot e = not_found d.reductions slot (says slot Own e).0

  -- a reduction variable's role is no other
  pub reduced_role : (slot : ℕ) (r : Role) → role_in d body slot ≡ r → is_in reduced slot ≡ true → is_reduced r ≡ true
  reduced_role slot Shared e i = absurd (true≢false (sym i ∙ not_found d.reductions slot (says slot Shared e).0))
  reduced_role slot Index e i = absurd (true≢false (sym i ∙ not_found d.reductions slot (says slot Index e).0))
  reduced_role slot (Reduced op) e i = refl
  reduced_role slot Own e i = absurd (true≢false (sym i ∙ own_free slot e))

  pub reduced_is : (slot : ℕ) (op : RedOp) → role_in d body slot ≡ Reduced op → is_in reduced slot ≡ true
  reduced_is slot op e = let s : _ = says slot (Reduced op) e in found_in d.reductions slot s.0 s.1

  -- ---- each variable is named once

  found_behind : (before rs : List Reduction) (r : Reduction) → is_in (map (λ r. r.variable.number) before) r.variable.number ≡ false
      → find (λ q. q.variable.number == r.variable.number) (before ++ r ∷ rs) ≡ Some r
  found_behind [] rs r e = ap (λ b. if b then Some r else find (λ q. q.variable.number == r.variable.number) rs) (eq-eqb r.variable.number r.variable.number refl)
  found_behind (q ∷ before) rs r e = at_test (found_behind before rs r) (q.variable.number == r.variable.number) refl e
    where
      at_test : (is_in (map (λ r. r.variable.number) before) r.variable.number ≡ false → find (λ q. q.variable.number == r.variable.number) (before ++ r ∷ rs) ≡ Some r)
          → (b : Bool) → (q.variable.number == r.variable.number) ≡ b → (b || is_in (map (λ r. r.variable.number) before) r.variable.number) ≡ false
          → (if b then Some q else find (λ q. q.variable.number == r.variable.number) (before ++ r ∷ rs)) ≡ Some r
      at_test rest true g f = absurd (true≢false f)
      at_test rest false g f = rest f

  names_joined : (xs ys : List Reduction) → map (λ (r : Reduction). r.variable.number) (xs ++ ys) ≡ map (λ (r : Reduction). r.variable.number) xs ++ map (λ (r : Reduction). r.variable.number) ys
  names_joined [] ys = refl
  names_joined (x ∷ xs) ys = ap (λ l. x.variable.number ∷ l) (names_joined xs ys)

  all_by_role : (set : Setting) (before rs : List Reduction) → d.reductions ≡ before ++ rs
      → NothingWrong (in_order (reduction_events set (map (λ r. r.variable.number) before) rs))
      → AllByRecursion (λ r. role_in d body r.variable.number ≡ Reduced r.op) rs
  all_by_role set before [] e n = tt
  all_by_role set before (r ∷ rs) e n = (
    ap (λ o. role_by o (is_in (indices_of d.nest) r.variable.number) (is_in (scalars_written body) r.variable.number))
        (ap (find (λ q. q.variable.number == r.variable.number)) e
        ∙ found_behind before rs r (test_fails (is_in (map (λ r. r.variable.number) before) r.variable.number) 5 r.variable.at (λ rule at t. n rule at (inr (inl t))))),
    all_by_role set (before ++ r ∷ []) rs (e ∙ sym (append_assoc before (r ∷ []) rs))
        (subst (λ names. NothingWrong (in_order (reduction_events set names rs))) (sym (names_joined before (r ∷ []))) (λ rule at t. n rule at (inr (inr t)))),
  )

  pub by_role : (set : Setting) → NothingWrong (in_order (reduction_events set [] d.reductions))
      → AllByRecursion (λ r. role_in d body r.variable.number ≡ Reduced r.op) d.reductions
  by_role set n = all_by_role set [] d.reductions refl n

-- ---- the directive

unreduced : (r : Role) → is_reduced (before_iterations r) ≡ is_reduced r
unreduced Shared = refl
unreduced Index = refl
unreduced (Reduced op) = refl
unreduced Own = refl

module _ (p : ProgParts) (global : IsGlobal p) (some : 0 < node_count p) (all : has (all_nodes p) 0 ≡ true) (d : LoopDirective) (body : Stmt) (fits : LoopFits p d body)
    (nothing : NothingWrong (loop_events d body (events_of body) (outermost p))) where
  abbrev pub set : Setting
  set = within d body (outermost p)

  pub nest_nothing : NothingWrong (in_order (nest_events (at_bounds d body (outermost p)) [] (scalars_of d body) d.nest))
  nest_nothing rule at s = nothing rule at (inr (inl s))

  pub reductions_nothing : NothingWrong (in_order (reduction_events (outermost p) [] d.reductions))
  reductions_nothing rule at s = nothing rule at (inr (inr (inl s)))

  pub body_nothing : NothingWrong (events_of body set)
  body_nothing = λ rule at s. nothing_in _ (events_of body set) [] (λ rule at t. nothing rule at (inr (inr (inr (inl t))))) rule at s

  -- ---- the nest

  written_apart : (j : ℕ) → is_in (scalars_of d body) j ≡ false → is_in (indices_of d.nest ++ writes_of body) j ≡ false
  written_apart j e = ap (λ ns. is_in (indices_of d.nest ++ ns) j) (sym (writes_are_one body)) ∙ e

  constants : (heads : List LoopHead) → AllByRecursion (TermStands p) (flat_map (terms_of_head p) heads) → list_all constant_fits (flat_map (λ head. terms_of p head.to) heads) ≡ true
  constants [] h = refl
  constants (head ∷ heads) h =
      let here : _ = all_apart (TermStands p) (terms_of_head p head) (flat_map (terms_of_head p) heads) h in
      let own : _ = all_apart (TermStands p) (terms_of p head.from) (terms_of p head.to) here.0 in
      list_all-append constant_fits (terms_of p head.to) (flat_map (λ head. terms_of p head.to) heads)
      ∙ both_true (list_all constant_fits (terms_of p head.to)) (list_all constant_fits (flat_map (λ head. terms_of p head.to) heads)) (each_one (terms_of p head.to) own.1) (constants heads here.1)
    where
      each_one : (ts : List Term) → AllByRecursion (TermStands p) ts → list_all constant_fits ts ≡ true
      each_one [] h = refl
      each_one (t ∷ ts) h = both_true (constant_fits t) (list_all constant_fits ts) h.0.constant (each_one ts h.1)

  pub nest_fits : NestFits p d.nest (writes_of body)
  nest_fits = record {
    counted = fits.step.stands.nest;
    begins = nest_begins (at_bounds d body (outermost p)) 0 all (scalars_of d body) [] d.nest (writes_of body)
        (nest_reads (at_bounds d body (outermost p)) 0 all (scalars_of d body) [] d.nest nest_nothing) fits.step.stands.nest tt written_apart;
    constants = constants d.nest fits.step.terms;
  }

  pub indices_apart : Apart (indices_of d.nest)
  indices_apart = all_apart_of p d.nest (writes_of body) (all_fit p d.nest (writes_of body) nest_fits.counted nest_fits.begins nest_fits.constants)

  pub indices_int : AllByRecursion (λ slot. scalar_type p slot ≡ Int) (indices_of d.nest)
  indices_int = nest_ints p d.nest (writes_of body) fits.step.stands.nest

  -- ---- roles

  index_free : (heads : List LoopHead) (outer : List ℕ) → NothingWrong (in_order (nest_events (at_bounds d body (outermost p)) outer (scalars_of d body) heads))
      → AllByRecursion (λ i. is_reduced (role_in d body i) ≡ false) (indices_of heads)
  index_free [] outer n = tt
  index_free (head ∷ heads) outer n = (
    sym (unreduced (role_in d body head.index.number))
        ∙ test_fails (is_reduced (before_iterations (role_in d body head.index.number))) 5 head.index.at (λ rule at t. n rule at (inl (inr (inr (inr (inr (inl t))))))),
    index_free heads (outer ++ head.index.number ∷ []) (λ rule at t. n rule at (inr t)),
  )

  index_by_role : (slot : ℕ) → is_in (indices_of d.nest) slot ≡ true → is_reduced (role_in d body slot) ≡ false → role_in d body slot ≡ Index
  index_by_role slot i f = at_found (find (λ r. r.variable.number == slot) d.reductions) f
    where
      at_found : (o : Option Reduction) → is_reduced (role_by o (is_in (indices_of d.nest) slot) (is_in (scalars_written body) slot)) ≡ false
          → role_by o (is_in (indices_of d.nest) slot) (is_in (scalars_written body) slot) ≡ Index
      at_found (Some r) g = absurd (true≢false g)
      at_found None g = ap (λ b. role_by None b (is_in (scalars_written body) slot)) i

  pub role_of_index : (slot : ℕ) → is_in (indices_of d.nest) slot ≡ true → role_in d body slot ≡ Index
  role_of_index slot i = index_by_role slot i (one_of_all (λ i. is_reduced (role_in d body i) ≡ false) (indices_of d.nest) slot (index_free d.nest [] nest_nothing) i)

  -- an index is no scalar that the body writes
  index_unwritten : AllByRecursion (λ j. AllByRecursion (λ n. n ≢ j) (writes_of body)) (indices_of d.nest)
  index_unwritten = (all_apart (λ j. AllByRecursion (λ n. n ≢ j) (writes_of body)) (indices_of d.nest) _ (slots_unwritten p (writes_of body) d.nest nest_fits)).0

  written_changes : (slot : ℕ) → is_in (scalars_written body) slot ≡ true → (r : Role) → role_in d body slot ≡ r → is_changed r ≡ true
  written_changes slot w Shared e = absurd (true≢false (sym w ∙ (shared_is d body slot e).2))
  written_changes slot w Index e =
      absurd (true≢false (sym w ∙ ap (λ ns. is_in ns slot) (writes_are_one body)
      ∙ not_in_of_none slot (writes_of body) (one_of_all (λ j. AllByRecursion (λ n. n ≢ j) (writes_of body)) (indices_of d.nest) slot index_unwritten (index_is d body slot e))))
  written_changes slot w (Reduced op) e = refl
  written_changes slot w Own e = refl

  all_in : (ns : List ℕ) → AllByRecursion (λ n. is_in ns n ≡ true) ns
  all_in [] = tt
  all_in (n ∷ ns) = (ap (λ b. b || is_in ns n) (eq-eqb n n refl), wider ns (all_in ns))
    where
      or_true : (b c : Bool) → c ≡ true → (b || c) ≡ true
      or_true true c h = refl
      or_true false c h = h

      wider : (ms : List ℕ) → AllByRecursion (λ m. is_in ns m ≡ true) ms → AllByRecursion (λ m. is_in (n ∷ ns) m ≡ true) ms
      wider [] h = tt
      wider (m ∷ ms) h = (or_true (n == m) (is_in ns m) h.0, wider ms h.1)

  mapped : (P Q : ℕ → Type 0) → ((n : ℕ) → P n → Q n) → (ns : List ℕ) → AllByRecursion P ns → AllByRecursion Q ns
  mapped P Q f [] h = tt
  mapped P Q f (n ∷ ns) h = (f n h.0, mapped P Q f ns h.1)

  -- ---- where the body stands

  -- no array without align is written
  pub copies_unwritten : (array : ℕ) → home_of p array ≡ home.Copy → writes_array body array ≡ false
  copies_unwritten array c = at_test (writes_array body array) refl
    where
      at_test : (b : Bool) → writes_array body array ≡ b → writes_array body array ≡ false
      at_test true e =
          absurd (one_of_all (λ a. home_of p a ≡ home.Copy → ⊥) (arrays_written body) array (body_facts set d refl refl body fits.inner.terms body_nothing).copies e c)
      at_test false e = e

  loop_setting : (a : Stand) → a.program ≡ p → a.set ≡ set → IsLoopSetting a d
  loop_setting a e f = subst (λ q. IsLoopSetting (record a { program = q }) d) (sym e) (subst (λ s. IsLoopSetting (record a { program = p; set = s }) d) (sym f) (record {
    nodes = refl;
    inside = refl;
    template = fits.step.stands.template;
    points = fits.step.stands.points;
    distributed = fits.step.stands.distributed;
    small = fits.step.stands.small;
    indices = mapped (λ i. is_in (indices_of d.nest) i ≡ true) (λ slot. role_in d body slot ≡ Index) role_of_index (points_indices d)
        (all_of_test (is_in (indices_of d.nest)) (points_indices d) fits.step.stands.nest_indices);
    ints = mapped (λ i. is_in (indices_of d.nest) i ≡ true) (λ slot. scalar_type p slot ≡ Int)
        (λ slot i. one_of_all (λ n. scalar_type p n ≡ Int) (indices_of d.nest) slot indices_int i) (points_indices d)
        (all_of_test (is_in (indices_of d.nest)) (points_indices d) fits.step.stands.nest_indices);
    copies = copies_unwritten;
  }))

  abbrev pub at_turn : (node : ℕ) → (base : Option (List ℕ)) → (rest : ℕ → ℤ) → Stand
  at_turn node base rest = record { program = p; node = node; base = base; rest = rest; set = set }

  pub is_setting : (node : ℕ) (base : Option (List ℕ)) (rest : ℕ → ℤ) → node < node_count p → IsSetting (at_turn node base rest)
  is_setting node base rest below = record {
    global = global;
    program = refl;
    below = below;
    loops = refl;
    still = refl;
    all = λ e. absurd (true≢false e);
    outside = λ e. absurd (true≢false e);
    shared = λ e. cc;
    unwritten = λ e. cc;
    directive = λ q e. subst (IsLoopSetting (at_turn node base rest)) (some_same d q e) (loop_setting (at_turn node base rest) refl refl);
  }
    where
      some_same : (a b : LoopDirective) → Some a ≡ Some b → a ≡ b
      some_same a b e = cc

  pub writes_fit : (node : ℕ) (base : Option (List ℕ)) (rest : ℕ → ℤ) → WritesFit (at_turn node base rest) body
  writes_fit node base rest = record {
    scalars = λ q e. mapped (λ n. is_in (scalars_written body) n ≡ true) (λ slot. is_changed (role_in d body slot) ≡ true)
        (λ slot w. written_changes slot w (role_in d body slot) refl) (scalars_written body) (all_in (scalars_written body));
    arrays = λ q e. all_in (arrays_written body);
  }

-- ---- cells

-- one node alone owns a cell
pub one_owner : (p : ProgParts) → IsGlobal p → (array t : ℕ) (m : ArrayMap) (cell : List ℕ) → home_of p array ≡ home.Spread t m → IsInside cell (extents p array)
    → (k j : ℕ) → k < node_count p → j < node_count p → owns_cell (home.Spread t m) k cell ≡ true → owns_cell (home.Spread t m) j cell ≡ true → k ≡ j
one_owner p global array t m cell e inside k j bk bj ok oj =
    let s : _ = spread_array p global array t m e in
    let o : _ = cells_are_owned t m (extents p array) cell s.three s.fits inside in
    let n : held.node_count m ≡ node_count p = s.nodes in
    o.only k (in_range 0 (held.node_count m) k (omega arith) (let q : k < 0 + held.node_count m = omega (arith, bk, n) in q)) ok
    ∙ sym (o.only j (in_range 0 (held.node_count m) j (omega arith) (let q : j < 0 + held.node_count m = omega (arith, bj, n) in q)) oj)
