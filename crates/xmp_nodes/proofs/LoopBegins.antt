-- How a loop directive begins at the nodes, and which tuples they have.
use Rattle.std.proofs.Common.{◌≡◌, ◌≢◌, ◌⊎◌, ◌<◌, ◌==◌, ◌||◌, if◌then◌else◌, ℕ, zero, suc, ℤ, pos, Bool, true, false, true≢false, List, [], ◌∷◌, length, map, Option, Some, None, inl, inr, refl, sym, subst, ap, ◌∙◌, eq-eqb, eqb-true}
use Rattle.std.specs.Prelude.{slice_get, slice_set, unwrap_or, is_some}
use Rattle.std.proofs.lemmas.List.{length-set}
use Rattle.xmp_num.specs.declared.types.RedOp.{RedOp}
use Rattle.xmp_num.specs.Arithmetic.{FitsType}
use Rattle.xmp_num.specs.Reduction.{unit_of}
use Rattle.xmp_num.proofs.ReductionLaws as reductions
use Rattle.xmp_prog.specs.declared.parts.ProgParts.{ProgParts}
use Rattle.xmp_prog.specs.declared.statements.Reduction.{Reduction}
use Rattle.xmp_prog.specs.Numbers.{is_in}
use Rattle.xmp_meaning.specs.Runs.{State, Gave, and_then, pure, set_scalar}
use Rattle.xmp_meaning.specs.Declarations.{scalar_type}
use Rattle.xmp_meaning.specs.Parts.{begin}
use Rattle.xmp_meaning.proofs.Stays.{set_other}
use Rattle.xmp_meaning_laws.specs.Laws.{scalar_in}
use Rattle.xmp_meaning_laws.proofs.CountedLoops.{set_there}
use Rattle.xmp_nodes.proofs.Each.{there}

-- a reduction is one of these
abbrev pub IsAmong : Reduction → List Reduction → Type 0
IsAmong r [] = ⊥
IsAmong r (q ∷ rs) = (r ≡ q) ⊎ IsAmong r rs

-- a value set where there is none changes nothing
set_nowhere : (xs : List ℤ) (i : ℕ) (v : ℤ) → slice_get xs i ≡ None → slice_set xs i v ≡ xs
set_nowhere [] i v e = refl
set_nowhere (x ∷ xs) zero v e = cc
set_nowhere (x ∷ xs) (suc i) v e = ap (λ l. x ∷ l) (set_nowhere xs i v e)

-- ---- reduction variables at the beginning

-- a node's state with its reduction variables begun
abbrev pub begun : ProgParts → ℕ → List Reduction → State (Unit {0}) → State (Unit {0})
begun p node [] n = n
begun p node (r ∷ rs) n =
    begun p node rs (if node == 0 then n else record n { scalars = slice_set n.scalars r.variable.number (unit_of r.op (scalar_type p r.variable.number)) })

pub begin_is : (p : ProgParts) (node : ℕ) (rs : List Reduction) (n : State (Unit {0})) → begin p node rs n ≡ Gave tt (begun p node rs n)
begin_is p node [] n = refl
begin_is p node (r ∷ rs) n = at_test (begin_is p node rs) (node == 0)
  where
    value : ℤ
    value = unit_of r.op (scalar_type p r.variable.number)

    at_test : ((n : State (Unit {0})) → begin p node rs n ≡ Gave tt (begun p node rs n)) → (b : Bool)
        → and_then ((if b then pure tt else set_scalar r.variable.number (unit_of r.op (scalar_type p r.variable.number))) n) (λ u. begin p node rs)
        ≡ Gave tt (begun p node rs (if b then n else record n { scalars = slice_set n.scalars r.variable.number (unit_of r.op (scalar_type p r.variable.number)) }))
    at_test rest true = rest n
    at_test rest false = rest (record n { scalars = slice_set n.scalars r.variable.number (unit_of r.op (scalar_type p r.variable.number)) })

-- node 0 has the old values
pub begun_first : (p : ProgParts) (rs : List Reduction) (n : State (Unit {0})) → begun p 0 rs n ≡ n
begun_first p [] n = refl
begun_first p (r ∷ rs) n = begun_first p rs n

-- nothing but reduction variables is changed
pub record BegunFrom (p : ProgParts) (rs : List Reduction) (n b : State (Unit {0})) : Type 0 where
  pub arrays : b.arrays ≡ n.arrays
  pub out : b.out ≡ n.out
  pub taken : b.taken ≡ n.taken
  pub steps : b.steps ≡ n.steps
  pub length : length b.scalars ≡ length n.scalars
  pub other : (slot : ℕ) → is_in (map (λ r. r.variable.number) rs) slot ≡ false → scalar_in b slot ≡ scalar_in n slot

not_first : (x : ℕ) (xs : List ℕ) (slot : ℕ) → is_in (x ∷ xs) slot ≡ false → (x ≢ slot) × (is_in xs slot ≡ false)
not_first x xs slot e = at_test (x == slot) refl e
  where
    at_test : (b : Bool) → (x == slot) ≡ b → (b || is_in xs slot) ≡ false → (x ≢ slot) × (is_in xs slot ≡ false)
    at_test true f g = absurd (true≢false g)
    at_test false f g = ((λ same. true≢false (sym (eq-eqb x slot same) ∙ f)), g)

pub begun_from : (p : ProgParts) (node : ℕ) (rs : List Reduction) (n : State (Unit {0})) → BegunFrom p rs n (begun p node rs n)
begun_from p node [] n = record { arrays = refl; out = refl; taken = refl; steps = refl; length = refl; other = λ slot e. refl }
begun_from p node (r ∷ rs) n = at_test (begun_from p node rs) (node == 0)
  where
    at_test : ((n : State (Unit {0})) → BegunFrom p rs n (begun p node rs n)) → (b : Bool)
        → BegunFrom p (r ∷ rs) n (begun p node rs (if b then n else record n { scalars = slice_set n.scalars r.variable.number (unit_of r.op (scalar_type p r.variable.number)) }))
    at_test rest true =
        let f : BegunFrom p rs n (begun p node rs n) = rest n in
        record { arrays = f.arrays; out = f.out; taken = f.taken; steps = f.steps; length = f.length; other = λ slot e. f.other slot (not_first r.variable.number (map (λ r. r.variable.number) rs) slot e).1 }
    at_test rest false =
        let m : State (Unit {0}) = record n { scalars = slice_set n.scalars r.variable.number (unit_of r.op (scalar_type p r.variable.number)) } in
        let f : BegunFrom p rs m (begun p node rs m) = rest m in record {
          arrays = f.arrays;
          out = f.out;
          taken = f.taken;
          steps = f.steps;
          length = f.length ∙ length-set n.scalars r.variable.number (unit_of r.op (scalar_type p r.variable.number));
          other = λ slot e.
              let parts : _ = not_first r.variable.number (map (λ r. r.variable.number) rs) slot e in
              f.other slot parts.1 ∙ ap (λ o. unwrap_or o (pos 0)) (set_other n.scalars r.variable.number slot (unit_of r.op (scalar_type p r.variable.number)) parts.0);
        }

-- at another node a reduction variable is the unit of its operation
pub begun_unit : (p : ProgParts) (node : ℕ) → (node == 0) ≡ false → (slot : ℕ) (op : RedOp) (rs : List Reduction) → ((r : Reduction) → r.variable.number ≡ slot → IsAmong r rs → r.op ≡ op)
    → is_in (map (λ r. r.variable.number) rs) slot ≡ true → (n : State (Unit {0})) → slot < length n.scalars → scalar_in (begun p node rs n) slot ≡ unit_of op (scalar_type p slot)
begun_unit p node z slot op [] same i n there = absurd (true≢false (sym i))
begun_unit p node z slot op (r ∷ rs) same i n below =
    let m : State (Unit {0}) = record n { scalars = slice_set n.scalars r.variable.number (unit_of r.op (scalar_type p r.variable.number)) } in
    ap (λ b. scalar_in (begun p node rs (if b then n else record n { scalars = slice_set n.scalars r.variable.number (unit_of r.op (scalar_type p r.variable.number)) })) slot) z
    ∙ at_later (λ j. begun_unit p node z slot op rs (λ q e a. same q e (inr a)) j m (subst (λ k. slot < k) (sym (length-set n.scalars r.variable.number (unit_of r.op (scalar_type p r.variable.number)))) below))
    (begun_from p node rs m) (is_in (map (λ r. r.variable.number) rs) slot) refl
  where
    here_now : is_in (map (λ r. r.variable.number) rs) slot ≡ false → r.variable.number ≡ slot
    here_now f = at_test (r.variable.number == slot) refl i
      where
        at_test : (b : Bool) → (r.variable.number == slot) ≡ b → (b || is_in (map (λ r. r.variable.number) rs) slot) ≡ true → r.variable.number ≡ slot
        at_test true e g = eqb-true r.variable.number slot e
        at_test false e g = absurd (true≢false (sym g ∙ f))

    value_here : r.variable.number ≡ slot
        → scalar_in (record n { scalars = slice_set n.scalars r.variable.number (unit_of r.op (scalar_type p r.variable.number)) }) slot ≡ unit_of op (scalar_type p slot)
    value_here e =
        ap (λ k. scalar_in (record n { scalars = slice_set n.scalars k (unit_of r.op (scalar_type p k)) }) slot) e
        ∙ ap (λ o. unwrap_or o (pos 0)) (set_there n.scalars slot (unit_of r.op (scalar_type p slot)) (let t = there n.scalars slot below in ap is_some t.1))
        ∙ ap (λ o. unit_of o (scalar_type p slot)) (same r e (inl refl))

    at_later : (is_in (map (λ r. r.variable.number) rs) slot ≡ true
        → scalar_in (begun p node rs (record n { scalars = slice_set n.scalars r.variable.number (unit_of r.op (scalar_type p r.variable.number)) })) slot ≡ unit_of op (scalar_type p slot))
        → BegunFrom p rs (record n { scalars = slice_set n.scalars r.variable.number (unit_of r.op (scalar_type p r.variable.number)) })
        (begun p node rs (record n { scalars = slice_set n.scalars r.variable.number (unit_of r.op (scalar_type p r.variable.number)) }))
        → (b : Bool) → is_in (map (λ r. r.variable.number) rs) slot ≡ b
        → scalar_in (begun p node rs (record n { scalars = slice_set n.scalars r.variable.number (unit_of r.op (scalar_type p r.variable.number)) })) slot ≡ unit_of op (scalar_type p slot)
    at_later rest from true f = rest f
    at_later rest from false f = from.other slot f ∙ value_here (here_now f)

-- values still lie in their types
pub begun_typed : (p : ProgParts) (node : ℕ) (rs : List Reduction) (n : State (Unit {0})) → ((slot : ℕ) → FitsType (scalar_type p slot) (scalar_in n slot))
    → (slot : ℕ) → FitsType (scalar_type p slot) (scalar_in (begun p node rs n) slot)
begun_typed p node [] n h = h
begun_typed p node (r ∷ rs) n h = begun_typed p node rs (if node == 0 then n else record n { scalars = slice_set n.scalars r.variable.number (unit_of r.op (scalar_type p r.variable.number)) }) (at_test (node == 0))
  where
    unit_fits : FitsType (scalar_type p r.variable.number) (unit_of r.op (scalar_type p r.variable.number))
    unit_fits = (reductions.holds r.op (scalar_type p r.variable.number)).unit_in

    set_typed : (slot : ℕ) → FitsType (scalar_type p slot) (unwrap_or (slice_get (slice_set n.scalars r.variable.number (unit_of r.op (scalar_type p r.variable.number))) slot) (pos 0))
    set_typed slot = at_same (r.variable.number == slot) refl
      where
        at_there : (o : Option ℤ) → slice_get n.scalars r.variable.number ≡ o
            → FitsType (scalar_type p r.variable.number) (unwrap_or (slice_get (slice_set n.scalars r.variable.number (unit_of r.op (scalar_type p r.variable.number))) r.variable.number) (pos 0))
        at_there (Some v) e =
            subst (λ o. FitsType (scalar_type p r.variable.number) (unwrap_or o (pos 0)))
            (sym (set_there n.scalars r.variable.number (unit_of r.op (scalar_type p r.variable.number)) (ap is_some e))) unit_fits
        at_there None e =
            subst (λ xs. FitsType (scalar_type p r.variable.number) (unwrap_or (slice_get xs r.variable.number) (pos 0)))
            (sym (set_nowhere n.scalars r.variable.number (unit_of r.op (scalar_type p r.variable.number)) e)) (h r.variable.number)

        at_same : (b : Bool) → (r.variable.number == slot) ≡ b
            → FitsType (scalar_type p slot) (unwrap_or (slice_get (slice_set n.scalars r.variable.number (unit_of r.op (scalar_type p r.variable.number))) slot) (pos 0))
        at_same true e =
            subst (λ k. FitsType (scalar_type p k) (unwrap_or (slice_get (slice_set n.scalars r.variable.number (unit_of r.op (scalar_type p r.variable.number))) k) (pos 0)))
            (eqb-true r.variable.number slot e) (at_there (slice_get n.scalars r.variable.number) refl)
        at_same false e =
            subst (λ o. FitsType (scalar_type p slot) (unwrap_or o (pos 0)))
            (sym (set_other n.scalars r.variable.number slot (unit_of r.op (scalar_type p r.variable.number)) (λ same. true≢false (sym (eq-eqb r.variable.number slot same) ∙ e)))) (h slot)

    at_test : (b : Bool) → (slot : ℕ)
        → FitsType (scalar_type p slot) (scalar_in (if b then n else record n { scalars = slice_set n.scalars r.variable.number (unit_of r.op (scalar_type p r.variable.number)) }) slot)
    at_test true = h
    at_test false = set_typed
