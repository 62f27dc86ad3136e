-- Steps at the body of main: a scalar is set, a scalar is read, and a step is taken.
use Rattle.std.proofs.Common.{◌≡◌, ◌≢◌, ◌<◌, ◌+◌, ◌*◌, ◌==◌, ℕ, zero, suc, ℤ, pos, Bool, true, false, true≢false, bit_xor, List, [], ◌∷◌, length, refl, sym, subst, ap, ◌∙◌, arith}
use Rattle.std.specs.Prelude.{slice_get, slice_set, unwrap_or}
use Rattle.std.specs.Int.Bits.{xor_self}
use Rattle.std.proofs.lemmas.Bool.{eqb-true, eqb-false}
use Rattle.std.proofs.lemmas.Option.{none-some}
use Rattle.xmp_base.specs.declared.place.Place.{Place}
use Rattle.xmp_num.specs.Arithmetic.{FitsType}
use Rattle.xmp_prog.specs.declared.parts.ProgParts.{ProgParts}
use Rattle.xmp_prog.specs.Fits.{node_count}
use Rattle.xmp_paths.specs.declared.event.Event.TheVariants.{Read, Mark}
use Rattle.xmp_paths.specs.Walk.{after_event}
use Rattle.xmp_paths.specs.Plans.{skip, emit}
use Rattle.xmp_paths.specs.Safe.{left}
use Rattle.xmp_paths.proofs.SafeLaws.{safe_read}
use Rattle.xmp_loops.specs.Objects.{scalar_object, array_object, all_nodes}
use Rattle.xmp_loops.specs.declared.role.Role.TheVariants.{Shared, Reduced}
use Rattle.xmp_flow.specs.Setting.{assigned}
use Rattle.xmp_flow.specs.Program.{outermost}
use Rattle.xmp_meaning.specs.Runs.{State, scalar, set_scalar, step_of, take_step}
use Rattle.xmp_meaning.specs.Declarations.{scalar_type}
use Rattle.xmp_meaning.specs.Exchanges.{Notes}
use Rattle.xmp_meaning.proofs.Stays.{set_other}
use Rattle.xmp_meaning_laws.specs.Laws.{scalar_in}
use Rattle.xmp_meaning_laws.proofs.Values.{set_has}
use Rattle.xmp_nodes.proofs.Agrees.{Agrees, Framed, Along, Carried, Anything, at_main}
use Rattle.xmp_nodes.proofs.Follow.{framed_same}
use Rattle.xmp_nodes.proofs.NodeBits.{all_have}
use Rattle.xmp_nodes.proofs.CastLaws.{cleared, untouched}

-- ---- a value in two lists

set_both : {A : Type 0} (xs ys : List A) (i : ℕ) (v : A) → length xs ≡ length ys → slice_get (slice_set xs i v) i ≡ slice_get (slice_set ys i v) i
set_both [] [] i v e = refl
set_both [] (y ∷ ys) i v e = absurd (omega (arith, e))
set_both (x ∷ xs) [] i v e = absurd (omega (arith, e))
set_both (x ∷ xs) (y ∷ ys) zero v e = refl
set_both (x ∷ xs) (y ∷ ys) (suc i) v e = set_both xs ys i v (let l : length xs ≡ length ys = omega (arith, e) in l)

set_length : {A : Type 0} (xs : List A) (i : ℕ) (v : A) → length (slice_set xs i v) ≡ length xs
set_length [] i v = refl
set_length (x ∷ xs) zero v = refl
set_length (x ∷ xs) (suc i) v = ap suc (set_length xs i v)

-- two states with one scalar set
abbrev pub with_scalar : {X : Type 0} → ℕ → ℤ → State X → State X
with_scalar slot v s = record s { scalars = slice_set s.scalars slot v }

module _ (p : ProgParts) (node : ℕ) where
  same_then : (s : State Notes) (n : State (Unit {0})) (slot x : ℕ) (v : ℤ) → length n.scalars ≡ length s.scalars → (slot ≢ x → scalar_in n x ≡ scalar_in s x)
      → scalar_in (with_scalar slot v n) x ≡ scalar_in (with_scalar slot v s) x
  same_then s n slot x v l h = at_test (slot == x) refl
    where
      at_test : (b : Bool) → (slot == x) ≡ b → scalar_in (with_scalar slot v n) x ≡ scalar_in (with_scalar slot v s) x
      at_test true e = subst (λ y. scalar_in (with_scalar slot v n) y ≡ scalar_in (with_scalar slot v s) y) (eqb-true slot x e)
          (ap (λ o. unwrap_or o (pos 0)) (set_both n.scalars s.scalars slot v l))
      at_test false e =
          ap (λ o. unwrap_or o (pos 0)) (set_other n.scalars slot x v (eqb-false slot x e)) ∙ (h (eqb-false slot x e)
          ∙ sym (ap (λ o. unwrap_or o (pos 0)) (set_other s.scalars slot x v (eqb-false slot x e))))

  -- where both set a scalar to one value, they agree on it whatever was out of date
  pub agrees_set : (stale more : ℕ → Bool) (s : State Notes) (n : State (Unit {0})) (slot : ℕ) (v : ℤ) → FitsType (scalar_type p slot) v
      → ((object : ℕ) → object ≢ scalar_object slot → more object ≡ false → stale object ≡ false)
      → Agrees (at_main p node) stale s n → Agrees (at_main p node) more (with_scalar slot v s) (with_scalar slot v n)
  agrees_set stale more s n slot v fits h g =
      let long : length n.scalars ≡ length s.scalars = g.packed.scalars ∙ sym g.whole.scalars in
      record {
        whole = record {
          scalars = set_length s.scalars slot v ∙ g.whole.scalars;
          rows = g.whole.rows;
          values = record {
            scalars = λ x. set_has (FitsType (scalar_type p x)) (pos 0) s.scalars slot x v (λ e. subst (λ y. FitsType (scalar_type p y) v) e fits) (g.whole.values.scalars x);
            cells = g.whole.values.cells;
          };
        };
        packed = record { scalars = set_length n.scalars slot v ∙ g.packed.scalars; rows = g.packed.rows; no_coarrays = g.packed.no_coarrays };
        typed = λ x. set_has (FitsType (scalar_type p x)) (pos 0) n.scalars slot x v (λ e. subst (λ y. FitsType (scalar_type p y) v) e fits) (g.typed x);
        scalars = λ x r e. same_then s n slot x v long (λ d. g.scalars x r (h (scalar_object x) (λ i. d (omega (arith, i))) e));
        indices = λ x r. same_then s n slot x v long (λ d. g.indices x r);
        sums = λ x op r. absurd (shared_not_reduced r);
        copies = λ array r e. g.copies array r (h (array_object array) (λ i. odd_even array slot i) e);
        owned = g.owned;
        shadows = g.shadows;
        current = λ array t m r e. g.current array t m r (h (array_object array) (λ i. odd_even array slot i) e);
        point = λ d e. absurd (none-some d e);
        steps = g.steps;
        out = g.out;
        taken = g.taken;
      }
    where
      odd_even : (a b : ℕ) → 2 * a + 1 ≡ 2 * b → ⊥
      odd_even a b e = omega (arith, e)

      shared_not_reduced : {r : _} → Shared ≡ Reduced r → ⊥
      shared_not_reduced e = cc

  -- ---- runs

  set_framed : (s : State Notes) (slot : ℕ) (v : ℤ) → Framed (at_main p node) s (with_scalar slot v s)
  set_framed s slot v = record { extra = refl; steps = λ e. refl; turn = λ d e. absurd (none-some d e) }

  -- a scalar is set at every node, with no mark
  pub set_unmarked : (slot : ℕ) (v : ℤ) → FitsType (scalar_type p slot) v → Carried (at_main p node) Anything skip (set_scalar slot v) (set_scalar slot v)
  set_unmarked slot v fits stale s n safe g = record {
    same = refl;
    value = tt;
    way = [];
    path = refl;
    agrees = agrees_set stale stale s n slot v fits (λ object d e. e) g;
    framed = set_framed s slot v;
  }

  pub mark_leaves : (slot object : ℕ) (was : Bool) → object ≢ scalar_object slot
      → after_event object node (Mark (scalar_object slot) (outermost p).nodes (bit_xor (all_nodes p) (all_nodes p))) was ≡ was
  mark_leaves slot object was d = untouched node object (scalar_object slot) (all_nodes p) (bit_xor (all_nodes p) (all_nodes p)) (other (scalar_object slot == object) refl) was
    where
      other : (b : Bool) → (scalar_object slot == object) ≡ b → (scalar_object slot == object) ≡ false
      other true e = absurd (d (sym (eqb-true (scalar_object slot) object e)))
      other false e = e

  pub mark_clears : node < node_count p → (slot : ℕ) (was : Bool)
      → after_event (scalar_object slot) node (Mark (scalar_object slot) (all_nodes p) (bit_xor (all_nodes p) (all_nodes p))) was ≡ false
  mark_clears below slot was =
      ap (λ b. after_event (scalar_object slot) node (Mark (scalar_object slot) (all_nodes p) b) was) (xor_self (all_nodes p))
      ∙ cleared p node (scalar_object slot) below was

  -- a scalar is assigned at every node
  pub set_marked : (slot : ℕ) (v : ℤ) → FitsType (scalar_type p slot) v
      → Carried (at_main p node) Anything (assigned (outermost p) slot) (set_scalar slot v) (set_scalar slot v)
  set_marked slot v fits stale s n safe g = record {
    same = refl;
    value = tt;
    way = Mark (scalar_object slot) (all_nodes p) (bit_xor (all_nodes p) (all_nodes p)) ∷ [];
    path = refl;
    agrees = agrees_set stale (left node (Mark (scalar_object slot) (all_nodes p) (bit_xor (all_nodes p) (all_nodes p)) ∷ []) stale) s n slot v fits
        (λ object d e. sym (mark_leaves slot object (stale object) d) ∙ e) g;
    framed = set_framed s slot v;
  }

  -- a scalar is read where all nodes do
  pub read_here : node < node_count p → (slot rule : ℕ) (at : Place)
      → Carried (at_main p node) (FitsType (scalar_type p slot)) (emit (Read (scalar_object slot) (all_nodes p) rule at)) (scalar slot) (scalar slot)
  read_here below slot rule at stale s n safe g = record {
    same = sym (g.scalars slot refl (current (stale (scalar_object slot)) refl));
    value = g.whole.values.scalars slot;
    way = Read (scalar_object slot) (all_nodes p) rule at ∷ [];
    path = refl;
    agrees = g;
    framed = framed_same (at_main p node) s;
  }
    where
      current : (b : Bool) → stale (scalar_object slot) ≡ b → stale (scalar_object slot) ≡ false
      current true e = absurd (safe_read node (scalar_object slot) (all_nodes p) rule at stale safe (all_have p node below) e)
      current false e = e

  -- a step is taken at every node
  agrees_steps : (stale : ℕ → Bool) (s : State Notes) (n : State (Unit {0})) (m : ℕ) → Agrees (at_main p node) stale s n
      → Agrees (at_main p node) stale (record s { steps = m }) (record n { steps = m })
  agrees_steps stale s n m g = record {
    whole = record { scalars = g.whole.scalars; rows = g.whole.rows; values = record { scalars = g.whole.values.scalars; cells = g.whole.values.cells } };
    packed = record { scalars = g.packed.scalars; rows = g.packed.rows; no_coarrays = g.packed.no_coarrays };
    typed = g.typed;
    scalars = g.scalars;
    indices = g.indices;
    sums = g.sums;
    copies = g.copies;
    owned = g.owned;
    shadows = g.shadows;
    current = g.current;
    point = g.point;
    steps = refl;
    out = g.out;
    taken = g.taken;
  }

  step_taken : (stale : ℕ → Bool) (s : State Notes) (n : State (Unit {0})) (m : ℕ) → Agrees (at_main p node) stale s n
      → Along (at_main p node) Anything skip stale s n (step_of m s) (step_of m n)
  step_taken stale s n zero g = record { same = refl; out = g.out }
  step_taken stale s n (suc m) g = record {
    same = refl;
    value = tt;
    way = [];
    path = refl;
    agrees = agrees_steps stale s n m g;
    framed = record { extra = refl; steps = λ e. absurd (true≢false (sym e)); turn = λ d e. absurd (none-some d e) };
  }

  pub takes_step : Carried (at_main p node) Anything skip take_step take_step
  takes_step stale s n safe g = subst (λ m. Along (at_main p node) Anything skip stale s n (step_of s.steps s) (step_of m n)) (sym g.steps) (step_taken stale s n s.steps g)
