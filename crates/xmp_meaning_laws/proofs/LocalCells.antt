-- A statement depends on the scalars and on the cells that it reads alone.
use Rattle.std.proofs.Common.{◌≡◌, ◌++◌, ◌==◌, ◌||◌, ℕ, zero, suc, ℤ, pos, negsuc, Bool, true, false, true≢false, List, [], ◌∷◌, length, map, Option, Some, None, refl, sym, subst, ap, ◌∙◌, arith, eqb-true}
use Rattle.std.specs.Prelude.{slice_get, slice_set, unwrap_or}
use Rattle.std.proofs.lemmas.List.{length-set}
use Rattle.xmp_prog.specs.declared.statements.Stmt.{Stmt}
use Rattle.xmp_meaning.specs.Cells.{read_in, write_in}
use Rattle.xmp_meaning.specs.Runs.{State}
use Rattle.xmp_meaning.specs.Layouts.{number_of}
use Rattle.xmp_meaning.specs.Context.{Context}
use Rattle.xmp_meaning.specs.Handlers.{erased}
use Rattle.xmp_meaning.proofs.Stays.{set_other}
use Rattle.xmp_meaning_laws.specs.Laws.{scalar_in}
use Rattle.xmp_meaning_laws.specs.Agreement.{with_slot, SameThen, IsLocalByCells}
use Rattle.xmp_meaning_laws.proofs.Shapes.{rows_shape}
use Rattle.xmp_meaning_laws.proofs.Twins.{Couple, AreTwins}
use Rattle.xmp_meaning_laws.proofs.TwinStatements.{stmt_twin}

-- ---- scalars

abbrev read_at : List ℤ → ℕ → ℤ
read_at xs i = unwrap_or (slice_get xs i) (pos 0)

-- the value that is set in both
pub set_both : (xs ys : List ℤ) (i : ℕ) (v : ℤ) → length ys ≡ length xs → read_at (slice_set xs i v) i ≡ read_at (slice_set ys i v) i
set_both [] [] i v l = refl
set_both [] (y ∷ ys) i v l = absurd (omega (arith, l))
set_both (x ∷ xs) [] i v l = absurd (omega (arith, l))
set_both (x ∷ xs) (y ∷ ys) zero v l = refl
set_both (x ∷ xs) (y ∷ ys) (suc i) v l = set_both xs ys i v (let m : length ys ≡ length xs = omega (arith, l) in m)

-- what is read behind a write to both
pub set_alike : (xs ys : List ℤ) (i j : ℕ) (v : ℤ) → length ys ≡ length xs → read_at xs j ≡ read_at ys j → read_at (slice_set xs i v) j ≡ read_at (slice_set ys i v) j
set_alike [] [] i j v l e = refl
set_alike [] (y ∷ ys) i j v l e = absurd (omega (arith, l))
set_alike (x ∷ xs) [] i j v l e = absurd (omega (arith, l))
set_alike (x ∷ xs) (y ∷ ys) zero zero v l e = refl
set_alike (x ∷ xs) (y ∷ ys) zero (suc j) v l e = e
set_alike (x ∷ xs) (y ∷ ys) (suc i) zero v l e = e
set_alike (x ∷ xs) (y ∷ ys) (suc i) (suc j) v l e = set_alike xs ys i j v (let m : length ys ≡ length xs = omega (arith, l) in m) e

pub slot_alike : (xs ys : List ℤ) (slot : ℕ) (v : ℤ) (g : ℕ → Bool) → length ys ≡ length xs → ((j : ℕ) → g j ≡ true → read_at xs j ≡ read_at ys j)
    → (j : ℕ) → with_slot slot g j ≡ true → read_at (slice_set xs slot v) j ≡ read_at (slice_set ys slot v) j
slot_alike xs ys slot v g l h j = at_test (j == slot) refl
  where
    at_test : (b : Bool) → (j == slot) ≡ b → (b || g j) ≡ true → read_at (slice_set xs slot v) j ≡ read_at (slice_set ys slot v) j
    at_test true e f = subst (λ n. read_at (slice_set xs slot v) n ≡ read_at (slice_set ys slot v) n) (sym (eqb-true j slot e)) (set_both xs ys slot v l)
    at_test false e f = set_alike xs ys slot j v l (h j f)

-- ---- cells

abbrev Lengths : List (List ℤ) → List ℕ
Lengths rows = map (λ row. length row) rows

pub write_alike : (rows others : List (List ℤ)) (i j : ℕ) (at to v : ℤ) → Lengths others ≡ Lengths rows → read_in rows j to ≡ read_in others j to
    → read_in (write_in rows i at v) j to ≡ read_in (write_in others i at v) j to
write_alike rows others i j (negsuc n) to v l e = e
write_alike rows others i j (pos n) (negsuc m) v l e = refl
write_alike [] [] i j (pos n) (pos m) v l e = refl
write_alike [] (q ∷ others) i j (pos n) (pos m) v l e = cc
write_alike (r ∷ rows) [] i j (pos n) (pos m) v l e = cc
write_alike (r ∷ rows) (q ∷ others) zero zero (pos n) (pos m) v l e = set_alike r q n m v (let k : length q ≡ length r = cc in k) e
write_alike (r ∷ rows) (q ∷ others) zero (suc j) (pos n) (pos m) v l e = e
write_alike (r ∷ rows) (q ∷ others) (suc i) zero (pos n) (pos m) v l e = e
write_alike (r ∷ rows) (q ∷ others) (suc i) (suc j) (pos n) (pos m) v l e = write_alike rows others i j (pos n) (pos m) v (let k : Lengths others ≡ Lengths rows = cc in k) e

pub write_other : (rows : List (List ℤ)) (i j : ℕ) (at to v : ℤ) → (i ≡ j → at ≡ to → ⊥) → read_in (write_in rows i at v) j to ≡ read_in rows j to
write_other rows i j (negsuc n) to v ne = refl
write_other rows i j (pos n) (negsuc m) v ne = refl
write_other [] i j (pos n) (pos m) v ne = refl
write_other (r ∷ rows) zero zero (pos n) (pos m) v ne = ap (λ o. unwrap_or o (pos 0)) (set_other r n m v (λ e. ne refl (ap pos e)))
write_other (r ∷ rows) zero (suc j) (pos n) (pos m) v ne = refl
write_other (r ∷ rows) (suc i) zero (pos n) (pos m) v ne = refl
write_other (r ∷ rows) (suc i) (suc j) (pos n) (pos m) v ne = write_other rows i j (pos n) (pos m) v (λ e f. ne (ap suc e) f)

apart_of : (test : ℕ → ℤ → Bool) (i j : ℕ) (at to : ℤ) → test i at ≡ true → test j to ≡ false → i ≡ j → at ≡ to → ⊥
apart_of test i j at to e f p q = true≢false (sym e ∙ (λ k. test (p k) (q k)) ∙ f)

none_is_some : (v : ℤ) → None ≡ Some v → ⊥
none_is_some v e = cc

-- ---- the relation

module _ {X : Type 0} (cx : Context) (known : ℕ → Option ℤ) (readable writable : ℕ → ℤ → Bool) (a b : State X) where
  abbrev K : (ℕ → Bool) → State X → State X → Type 0
  K g s u = SameThen X known readable writable g a b s u

  abbrev both : Couple
  both = record { program = cx.program; layout = cx.layout; other = cx.layout; node = cx.node; input = cx.input; call = cx.call }

  abbrev MayGet : ℕ → List ℕ → ℕ → Type 0
  MayGet array xs image = readable array (number_of cx.layout cx.program array image xs) ≡ true

  abbrev MayPut : ℕ → List ℕ → ℕ → Type 0
  MayPut array xs image = writable array (number_of cx.layout cx.program array image xs) ≡ true

  unknown_other : (s : State X) (slot : ℕ) (v : ℤ) → known slot ≡ None → ((j : ℕ) (w : ℤ) → known j ≡ Some w → scalar_in s j ≡ w)
      → (j : ℕ) (w : ℤ) → known j ≡ Some w → read_at (slice_set s.scalars slot v) j ≡ w
  unknown_other s slot v none h j w e =
      ap (λ o. unwrap_or o (pos 0)) (set_other s.scalars slot j v (λ same. none_is_some w (sym none ∙ ap known same ∙ e))) ∙ h j w e

  twins : AreTwins X X both erased erased known MayGet MayPut K
  twins = record {
    scalars = λ g s u slot e k. k.0.scalars slot e;
    knows = λ g s u slot v e k. k.0.knows slot v e;
    sets_scalar = λ g s u slot v none k. (
      record {
        scalars = slot_alike s.scalars u.scalars slot v g k.0.shape.scalars k.0.scalars;
        knows = unknown_other s slot v none k.0.knows;
        cells = k.0.cells;
        shape = record { scalars = length-set u.scalars slot v ∙ k.0.shape.scalars ∙ sym (length-set s.scalars slot v); rows = k.0.shape.rows };
        out = k.0.out;
        taken = k.0.taken;
        steps = k.0.steps;
        extra = k.0.extra;
      },
      k.1,
      k.2,
    );
    weakens = λ g f s u w k. (
      record {
        scalars = λ slot e. k.0.scalars slot (w slot e);
        knows = k.0.knows;
        cells = k.0.cells;
        shape = k.0.shape;
        out = k.0.out;
        taken = k.0.taken;
        steps = k.0.steps;
        extra = k.0.extra;
      },
      k.1,
      k.2,
    );
    gets = λ g s u array xs image may k. (k.0.cells array (number_of cx.layout cx.program array image xs) may, k);
    puts = λ g s u array xs image v may k. let at : ℤ = number_of cx.layout cx.program array image xs in (
      record {
        scalars = k.0.scalars;
        knows = k.0.knows;
        cells = λ j to e. write_alike s.arrays u.arrays array j at to v k.0.shape.rows (k.0.cells j to e);
        shape = record { scalars = k.0.shape.scalars; rows = rows_shape u.arrays array at v ∙ k.0.shape.rows ∙ sym (rows_shape s.arrays array at v) };
        out = k.0.out;
        taken = k.0.taken;
        steps = k.0.steps;
        extra = k.0.extra;
      },
      (λ j to e. write_other s.arrays array j at to v (apart_of writable array j at to may e) ∙ k.1 j to e),
      (λ j to e. write_other u.arrays array j at to v (apart_of writable array j at to may e) ∙ k.2 j to e),
    );
    writes = λ g s u text k. (
      record {
        scalars = k.0.scalars;
        knows = k.0.knows;
        cells = k.0.cells;
        shape = record { scalars = k.0.shape.scalars; rows = k.0.shape.rows };
        out = ap (λ o. o ++ text) k.0.out;
        taken = k.0.taken;
        steps = k.0.steps;
        extra = k.0.extra;
      },
      k.1,
      k.2,
    );
    inputs = λ g s u k. k.0.taken;
    sets_taken = λ g s u n k. (
      record {
        scalars = k.0.scalars;
        knows = k.0.knows;
        cells = k.0.cells;
        shape = record { scalars = k.0.shape.scalars; rows = k.0.shape.rows };
        out = k.0.out;
        taken = refl;
        steps = k.0.steps;
        extra = k.0.extra;
      },
      k.1,
      k.2,
    );
    left_steps = λ g s u k. k.0.steps;
    steps = λ g s u n k. (
      record {
        scalars = k.0.scalars;
        knows = k.0.knows;
        cells = k.0.cells;
        shape = record { scalars = k.0.shape.scalars; rows = k.0.shape.rows };
        out = k.0.out;
        taken = k.0.taken;
        steps = refl;
        extra = k.0.extra;
      },
      k.1,
      k.2,
    );
  }

pub local_by_cells : (X : Type 0) (cx : Context) (s : Stmt) → IsLocalByCells X cx s
local_by_cells X cx s known readable writable agreed fits reads writes a b same =
    (stmt_twin (twins cx known readable writable a b) s agreed).1 fits reads writes a b (same, (λ array at e. refl), (λ array at e. refl))
