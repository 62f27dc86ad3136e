-- A bcast: the variables that are set, and the marks of its plan.
use Rattle.std.proofs.Common.{⊎_elim, ◌≡◌, ◌≢◌, ◌<◌, ◌*◌, ◌==◌, ◌||◌, ◌&&◌, ◌⊎◌, inl, inr, if◌then◌else◌, ℕ, zero, suc, ℤ, pos, Bool, true, false, not, List, [], ◌∷◌, map, length, Some, ne_eqb, refl, sym, ap, subst, ◌∙◌, arith}
use Rattle.std.specs.Prelude.{slice_get, slice_set, unwrap_or}
use Rattle.std.proofs.lemmas.Bool.{eqb-true, eq-eqb, cases_lt}
use Rattle.std.proofs.lemmas.Bool.Decides.{nat_tests}
use Rattle.std.proofs.lemmas.Nat.Bits.{bit_at-zero}
use Rattle.std.proofs.lemmas.Option.{slice_get_past}
use Rattle.std.proofs.lemmas.List.{length-set}
use Rattle.xmp_map.specs.declared.grid.NodeSet.{NodeSet}
use Rattle.xmp_prog.specs.declared.parts.ProgParts.{ProgParts}
use Rattle.xmp_prog.specs.declared.statements.Name.{Name}
use Rattle.xmp_prog.specs.Fits.{node_count}
use Rattle.xmp_prog.specs.Numbers.{is_in}
use Rattle.xmp_meaning.specs.declared.ends.Flow.TheVariants.{Next}
use Rattle.xmp_meaning.specs.Runs.{State, Gave}
use Rattle.xmp_meaning.specs.LoopEnds.{set_all}
use Rattle.xmp_meaning.proofs.Stays.{set_other}
use Rattle.xmp_paths.specs.NodeSets.{has}
use Rattle.xmp_paths.specs.Plans.{Plan, emit, in_order, Path}
use Rattle.xmp_paths.specs.Walk.{after_event}
use Rattle.xmp_paths.specs.Safe.{left, Safe}
use Rattle.xmp_paths.specs.declared.event.Event.{Event}
use Rattle.xmp_paths.specs.declared.event.Event.TheVariants.{Read, Mark}
use Rattle.xmp_paths.proofs.SafeLaws.{safe_front, safe_back, safe_read}
use Rattle.xmp_loops.specs.Objects.{scalar_object, nodes_in, all_nodes}
use Rattle.xmp_flow.specs.PlainEvents.{cast}
use Rattle.xmp_flow.specs.Program.{outermost}
use Rattle.xmp_nodes.proofs.NodeBits.{all_have}

-- ---- scalars that are set

abbrev pub set_slots : List ℕ → List ℤ → List ℤ → List ℤ
set_slots [] vs xs = xs
set_slots (n ∷ ns) [] xs = xs
set_slots (n ∷ ns) (v ∷ vs) xs = set_slots ns vs (slice_set xs n v)

pub sets_all : {X : Type 0} (names : List Name) (vs : List ℤ) (s : State X)
    → set_all names vs s ≡ Gave Next (record s { scalars = set_slots (map (λ n. n.number) names) vs s.scalars })
sets_all [] vs s = refl
sets_all (n ∷ names) [] s = refl
sets_all (n ∷ names) (v ∷ vs) s = sets_all names vs (record s { scalars = slice_set s.scalars n.number v })

pub slots_length : (slots : List ℕ) (vs : List ℤ) (xs : List ℤ) → length (set_slots slots vs xs) ≡ length xs
slots_length [] vs xs = refl
slots_length (n ∷ slots) [] xs = refl
slots_length (n ∷ slots) (v ∷ vs) xs = slots_length slots vs (slice_set xs n v) ∙ length-set xs n v

-- another list's values
module _ (other : List ℤ) where
  abbrev pub value : List ℤ → ℕ → ℤ
  value xs n = unwrap_or (slice_get xs n) (pos 0)

  abbrev pub Same : List ℤ → ℕ → Type 0
  Same xs n = value xs n ≡ value other n

  set_in : (xs : List ℤ) (n : ℕ) (v : ℤ) → n < length xs → slice_get (slice_set xs n v) n ≡ Some v
  set_in [] n v h = absurd (omega (arith, h))
  set_in (x ∷ xs) zero v h = refl
  set_in (x ∷ xs) (suc n) v h = set_in xs n v (omega (arith, h))

  set_here : (xs : List ℤ) (n : ℕ) → length xs ≡ length other → Same (slice_set xs n (value other n)) n
  set_here xs n l = ⊎_elim
      (λ h. ap (λ o. unwrap_or o (pos 0)) (set_in xs n (value other n) h))
      (λ h. ap (λ o. unwrap_or o (pos 0)) (slice_get_past (slice_set xs n (value other n)) n (let k = length-set xs n (value other n) in omega (arith, h, k))
      ∙ sym (slice_get_past other n (omega (arith, h, l)))))
      (cases_lt n (length xs))

  set_one : (xs : List ℤ) (n x : ℕ) → length xs ≡ length other → (x ≡ n) ⊎ Same xs x → Same (slice_set xs n (value other n)) x
  set_one xs n x l (inl e) = subst (λ y. Same (slice_set xs n (value other n)) y) (sym e) (set_here xs n l)
  set_one xs n x l (inr same) = at_test (n == x) refl
    where
      not_same : (n x : ℕ) → (n == x) ≡ false → n ≢ x
      not_same n x e f = grind (arith, nat_tests)

      at_test : (b : Bool) → (n == x) ≡ b → Same (slice_set xs n (value other n)) x
      at_test true e = subst (λ y. Same (slice_set xs n (value other n)) y) (eqb-true n x e) (set_here xs n l)
      at_test false e = ap (λ o. unwrap_or o (pos 0)) (set_other xs n x (value other n) (not_same n x e)) ∙ same

  or_true : (a b : Bool) → (a || b) ≡ true → (a ≡ true) ⊎ (b ≡ true)
  or_true true b e = inl refl
  or_true false b e = inr e

  -- what agrees stays so, and each that is set agrees
  pub set_same : (slots : List ℕ) (xs : List ℤ) (x : ℕ) → length xs ≡ length other → (is_in slots x ≡ true) ⊎ Same xs x → Same (set_slots slots (map (value other) slots) xs) x
  set_same [] xs x l (inl e) = cc
  set_same [] xs x l (inr e) = e
  set_same (n ∷ slots) xs x l h =
      set_same slots (slice_set xs n (value other n)) x (length-set xs n (value other n) ∙ l) (next h)
    where
      next : (is_in (n ∷ slots) x ≡ true) ⊎ Same xs x → (is_in slots x ≡ true) ⊎ Same (slice_set xs n (value other n)) x
      next (inl e) = ⊎_elim (λ f. inr (set_one xs n x l (inl (sym (eqb-true n x f))))) (λ f. inl f) (or_true (n == x) (is_in slots x) e)
      next (inr e) = inr (set_one xs n x l (inr e))

-- the others are as they were
pub set_others : (slots : List ℕ) (vs : List ℤ) (xs : List ℤ) (x : ℕ) → is_in slots x ≡ false → slice_get (set_slots slots vs xs) x ≡ slice_get xs x
set_others [] vs xs x e = refl
set_others (n ∷ slots) [] xs x e = refl
set_others (n ∷ slots) (v ∷ vs) xs x e =
    set_others slots vs (slice_set xs n v) x (later (n == x) (is_in slots x) e) ∙ set_other xs n x v (different e)
  where
    later : (a b : Bool) → (a || b) ≡ false → b ≡ false
    later true b e = cc
    later false b e = e

    earlier : (a b : Bool) → (a || b) ≡ false → a ≡ false
    earlier true b e = cc
    earlier false b e = refl

    different : is_in (n ∷ slots) x ≡ false → n ≢ x
    different e f = let g : (n == x) ≡ false = earlier (n == x) (is_in slots x) e in no (n == x) g (eq-eqb n x f)
      where
        no : (b : Bool) → b ≡ false → b ≡ true → ⊥
        no true e f = cc
        no false e f = cc

-- ---- the marks of a plan

no_node : (k : ℕ) → has 0 k ≡ false
no_node k = ap (λ m. m == 1) (bit_at-zero k)

abbrev mark_of : Bool → Bool → Bool → Bool
mark_of stale current was = stale || (not current && was)

-- an object is current on all nodes, or out of date on all
pub cleared : (p : ProgParts) (k object : ℕ) → k < node_count p → (was : Bool) → after_event object k (Mark object (all_nodes p) 0) was ≡ false
cleared p k object h was =
    ap (λ b. if b then mark_of (has 0 k) (has (all_nodes p) k) was else was) (eq-eqb object object refl)
    ∙ ap (λ b. mark_of b (has (all_nodes p) k) was) (no_node k)
    ∙ ap (λ b. mark_of false b was) (all_have p k h)

pub staled : (p : ProgParts) (k object : ℕ) → k < node_count p → (was : Bool) → after_event object k (Mark object 0 (all_nodes p)) was ≡ true
staled p k object h was =
    ap (λ b. if b then mark_of (has (all_nodes p) k) (has 0 k) was else was) (eq-eqb object object refl)
    ∙ ap (λ b. mark_of b (has 0 k) was) (all_have p k h)

-- of another object nothing changes
pub untouched : (k object other current stale : ℕ) → (other == object) ≡ false → (was : Bool) → after_event object k (Mark other current stale) was ≡ was
untouched k object other current stale e was = ap (λ b. if b then mark_of (has stale k) (has current k) was else was) e

module _ (p : ProgParts) (set : NodeSet) (k : ℕ) (below : k < node_count p) where
  abbrev cast_plan : List Name → Plan Event
  cast_plan names = in_order (map (cast (outermost p) set) names)

  -- the events of a bcast
  abbrev pub cast_way : List Name → List Event
  cast_way [] = []
  cast_way (n ∷ names) = Read (scalar_object n.number) (nodes_in p.grid set) 11 n.at ∷ Mark (scalar_object n.number) (all_nodes p) 0 ∷ cast_way names

  abbrev pair_of : Name → List Event
  pair_of n = Read (scalar_object n.number) (nodes_in p.grid set) 11 n.at ∷ Mark (scalar_object n.number) (all_nodes p) 0 ∷ []

  pair_path : (n : Name) → Path (cast (outermost p) set n) (pair_of n)
  pair_path n = record {
    front = Read (scalar_object n.number) (nodes_in p.grid set) 11 n.at ∷ [];
    back = Mark (scalar_object n.number) (all_nodes p) 0 ∷ [];
    whole = refl;
    in_front = refl;
    in_back = record { front = Mark (scalar_object n.number) (all_nodes p) 0 ∷ []; back = []; whole = refl; in_front = refl; in_back = refl };
  }

  pub cast_path : (names : List Name) → Path (cast_plan names) (cast_way names)
  cast_path [] = refl
  cast_path (n ∷ names) = record { front = pair_of n; back = cast_way names; whole = refl; in_front = pair_path n; in_back = cast_path names }

  abbrev after_one : Name → (ℕ → Bool) → ℕ → Bool
  after_one n stale = left k (pair_of n) stale

  one_clear : (n : Name) (stale : ℕ → Bool) → after_one n stale (scalar_object n.number) ≡ false
  one_clear n stale = cleared p k (scalar_object n.number) below (stale (scalar_object n.number))

  one_other : (n : Name) (stale : ℕ → Bool) (object : ℕ) → (scalar_object n.number == object) ≡ false → after_one n stale object ≡ stale object
  one_other n stale object e = untouched k object (scalar_object n.number) (all_nodes p) 0 e (stale object)

  -- what was current is so still
  one_keeps : (n : Name) (stale : ℕ → Bool) (object : ℕ) → stale object ≡ false → after_one n stale object ≡ false
  one_keeps n stale object e = at_test (scalar_object n.number == object) refl
    where
      at_test : (b : Bool) → (scalar_object n.number == object) ≡ b → after_one n stale object ≡ false
      at_test true f = subst (λ o. after_one n stale o ≡ false) (eqb-true (scalar_object n.number) object f) (one_clear n stale)
      at_test false f = one_other n stale object f ∙ e

  pub cast_keeps : (names : List Name) (stale : ℕ → Bool) (object : ℕ) → stale object ≡ false → left k (cast_way names) stale object ≡ false
  cast_keeps [] stale object e = e
  cast_keeps (n ∷ names) stale object e = cast_keeps names (after_one n stale) object (one_keeps n stale object e)

  double : (m n : ℕ) → (2 * m == 2 * n) ≡ false → (m == n) ≡ false
  double m n e = grind (arith, nat_tests)

  or_false : (a b : Bool) → (a || b) ≡ false → (a ≡ false) × (b ≡ false)
  or_false true b e = cc
  or_false false b e = (refl, e)

  -- a scalar that is no variable is as it was
  pub cast_others : (names : List Name) (stale : ℕ → Bool) (object : ℕ) → ((slot : ℕ) → is_in (map (λ n. n.number) names) slot ≡ true → scalar_object slot ≢ object)
      → left k (cast_way names) stale object ≡ stale object
  cast_others [] stale object h = refl
  cast_others (n ∷ names) stale object h =
      cast_others names (after_one n stale) object (λ slot i. h slot (or_yes (n.number == slot) (is_in (map (λ n. n.number) names) slot) i))
      ∙ one_other n stale object (not_same (scalar_object n.number) object (h n.number (ap (λ b. b || is_in (map (λ n. n.number) names) n.number) (eq-eqb n.number n.number refl))))
    where
      or_yes : (a b : Bool) → b ≡ true → (a || b) ≡ true
      or_yes true b e = refl
      or_yes false b e = e

      not_same : (m n : ℕ) → m ≢ n → (m == n) ≡ false
      not_same m n e = ne_eqb m n e

  not_true : (b : Bool) → (b ≡ true → ⊥) → b ≡ false
  not_true true h = absurd (h refl)
  not_true false h = refl

  apart : (m n : ℕ) → (m == n) ≡ false → (2 * m == 2 * n) ≡ false
  apart m n e = ne_eqb (2 * m) (2 * n) (λ f. grind (arith, nat_tests))

  first_or_rest : (n : Name) (stale : ℕ → Bool) (slot : ℕ) (more : Bool) → stale (scalar_object n.number) ≡ false
      → (more ≡ true → after_one n stale (scalar_object slot) ≡ false) → (n.number == slot || more) ≡ true → stale (scalar_object slot) ≡ false
  first_or_rest n stale slot more first rest i = at_test (n.number == slot) refl i
    where
      at_test : (b : Bool) → (n.number == slot) ≡ b → (b || more) ≡ true → stale (scalar_object slot) ≡ false
      at_test true e j = ap (λ m. stale (scalar_object m)) (sym (eqb-true n.number slot e)) ∙ first
      at_test false e j = sym (one_other n stale (scalar_object slot) (apart n.number slot e)) ∙ rest j

  -- where the plan is safe at a node of the source, each variable is current there
  pub cast_current : (names : List Name) (stale : ℕ → Bool) → has (nodes_in p.grid set) k ≡ true → Safe k (cast_plan names) stale
      → (slot : ℕ) → is_in (map (λ n. n.number) names) slot ≡ true → stale (scalar_object slot) ≡ false
  cast_current [] stale member safe slot i = cc
  cast_current (n ∷ names) stale member safe slot i =
      first_or_rest n stale slot (is_in (map (λ n. n.number) names) slot)
      (not_true (stale (scalar_object n.number))
      (safe_read k (scalar_object n.number) (nodes_in p.grid set) 11 n.at stale
      (safe_front k (emit (Read (scalar_object n.number) (nodes_in p.grid set) 11 n.at)) (in_order (emit (Mark (scalar_object n.number) (all_nodes p) 0) ∷ [])) stale
      (safe_front k (cast (outermost p) set n) (cast_plan names) stale safe)) member))
      (λ j. cast_current names (after_one n stale) member (safe_back k (cast (outermost p) set n) (cast_plan names) stale safe (pair_of n) (pair_path n)) slot j)
      i
