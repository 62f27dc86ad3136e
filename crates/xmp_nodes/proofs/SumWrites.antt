-- Both runs combine a reduction variable with one value: with what the others have, it is still the serial one.
use Rattle.std.proofs.Common.{◌≡◌, ◌≢◌, ◌<◌, ℕ, zero, suc, ℤ, pos, Bool, true, false, true≢false, List, [], ◌∷◌, length, refl, sym, subst, ap, ◌∙◌, arith, ◌==◌, eqb-true}
use Rattle.std.specs.Prelude.{slice_get, unwrap_or, is_some}
use Rattle.std.proofs.lemmas.Bool.{eqb-false}
use Rattle.xmp_num.specs.declared.types.RedOp.{RedOp}
use Rattle.xmp_num.specs.declared.types.Ty.{Ty}
use Rattle.xmp_num.specs.Arithmetic.{FitsType}
use Rattle.xmp_num.specs.Reduction.{combine_of}
use Rattle.xmp_num.proofs.ReductionLaws.{holds}
use Rattle.xmp_loops.specs.declared.role.Role.{Role}
use Rattle.xmp_loops.specs.declared.role.Role.TheVariants.{Index, Reduced}
use Rattle.xmp_flow.specs.Setting.{is_reduced}
use Rattle.xmp_meaning.specs.Runs.{State}
use Rattle.xmp_meaning.specs.Declarations.{scalar_type}
use Rattle.xmp_meaning.specs.Parts.{owns_positions}
use Rattle.xmp_meaning.specs.Exchanges.{Notes}
use Rattle.xmp_meaning.proofs.Stays.{set_other}
use Rattle.xmp_meaning_laws.specs.Laws.{scalar_in}
use Rattle.xmp_meaning_laws.proofs.Values.{set_has}
use Rattle.xmp_meaning_laws.proofs.CountedLoops.{set_there}
use Rattle.xmp_nodes.proofs.Agrees.{Stand, Agrees, Framed, IsSum, is_changed}
use Rattle.xmp_nodes.proofs.Standing.{IsSetting}
use Rattle.xmp_nodes.proofs.PlainWrites.{with_scalar, points_same, no_index, set_length, set_framed}

there_is : {A : Type 0} (xs : List A) (i : ℕ) → i < length xs → is_some (slice_get xs i) ≡ true
there_is [] i h = absurd (omega (arith, h))
there_is (x ∷ xs) zero h = refl
there_is (x ∷ xs) (suc i) h = there_is xs i (let k : i < length xs = omega (arith, h) in k)

-- the scalar that was set
pub set_value : {X : Type 0} (s : State X) (slot : ℕ) (v : ℤ) → slot < length s.scalars → scalar_in (with_scalar slot v s) slot ≡ v
set_value s slot v h = ap (λ o. unwrap_or o (pos 0)) (set_there s.scalars slot v (there_is s.scalars slot h))

module _ (a : Stand) (is : IsSetting a) (slot : ℕ) (op : RedOp) (role : a.set.roles slot ≡ Reduced op) (there : slot < length a.program.scalars) where
  abbrev ty : Ty
  ty = scalar_type a.program slot

  apart : (r : Role) → (x : ℕ) → a.set.roles x ≡ r → is_reduced r ≡ false → slot ≢ x
  apart r x e f same = true≢false (sym (ap is_reduced role) ∙ (ap (λ y. is_reduced (a.set.roles y)) same ∙ (ap is_reduced e ∙ f)))

  not_index : a.set.roles slot ≢ Index
  not_index e = let bad : Reduced op ≡ Index = sym role ∙ e in cc

  pub agrees_sum : (stale : ℕ → Bool) (s : State Notes) (n : State (Unit {0})) (d : ℤ) → FitsType ty d → Agrees a stale s n
      → Agrees a stale (with_scalar slot (combine_of op ty (scalar_in s slot) d) s) (with_scalar slot (combine_of op ty (scalar_in n slot) d) n)
  agrees_sum stale s n d fits g =
      let v : ℤ = combine_of op ty (scalar_in s slot) d in
      let w : ℤ = combine_of op ty (scalar_in n slot) d in
      let v_fits : FitsType ty v = (holds op ty).closed (scalar_in s slot) d (g.whole.values.scalars slot) fits in
      let w_fits : FitsType ty w = (holds op ty).closed (scalar_in n slot) d (g.typed slot) fits in
      record {
        whole = record {
          scalars = set_length s.scalars slot v ∙ g.whole.scalars;
          rows = g.whole.rows;
          values = record {
            scalars = λ x. set_has (FitsType (scalar_type a.program x)) (pos 0) s.scalars slot x v (λ e. subst (λ y. FitsType (scalar_type a.program y) v) e v_fits) (g.whole.values.scalars x);
            cells = g.whole.values.cells;
          };
        };
        packed = record { scalars = set_length n.scalars slot w ∙ g.packed.scalars; rows = g.packed.rows; no_coarrays = g.packed.no_coarrays };
        typed = λ x. set_has (FitsType (scalar_type a.program x)) (pos 0) n.scalars slot x w (λ e. subst (λ y. FitsType (scalar_type a.program y) w) e w_fits) (g.typed x);
        scalars = λ x r e. others x (apart (a.set.roles x) x refl r) (g.scalars x r e);
        indices = λ x r. others x (apart Index x r refl) (g.indices x r);
        sums = λ x q r. sum_of x q r (slot == x) refl v_fits;
        copies = g.copies;
        owned = g.owned;
        shadows = g.shadows;
        current = g.current;
        point = λ l e. ap (λ ps. owns_positions a.program a.node (slice_get a.program.templates l.template) ps) (points_same s.scalars slot v l.points (no_index a is l e slot not_index)) ∙ g.point l e;
        steps = g.steps;
        out = g.out;
        taken = g.taken;
      }
    where
      others : (x : ℕ) → slot ≢ x → scalar_in n x ≡ scalar_in s x
          → scalar_in (with_scalar slot (combine_of op ty (scalar_in n slot) d) n) x ≡ scalar_in (with_scalar slot (combine_of op ty (scalar_in s slot) d) s) x
      others x ne e =
          ap (λ o. unwrap_or o (pos 0)) (set_other n.scalars slot x (combine_of op ty (scalar_in n slot) d) ne)
          ∙ (e ∙ sym (ap (λ o. unwrap_or o (pos 0)) (set_other s.scalars slot x (combine_of op ty (scalar_in s slot) d) ne)))

      sum_here : IsSum op ty (a.rest slot) (scalar_in s slot) (scalar_in n slot)
          → IsSum op ty (a.rest slot) (scalar_in (with_scalar slot (combine_of op ty (scalar_in s slot) d) s) slot) (scalar_in (with_scalar slot (combine_of op ty (scalar_in n slot) d) n) slot)
      sum_here k = record {
        fits = k.fits;
        whole = set_value s slot (combine_of op ty (scalar_in s slot) d) (subst (λ k. slot < k) (sym g.whole.scalars) there)
            ∙ (ap (λ z. combine_of op ty z d) k.whole
            ∙ ((holds op ty).associative (a.rest slot) (scalar_in n slot) d k.fits (g.typed slot) fits
            ∙ ap (combine_of op ty (a.rest slot)) (sym (set_value n slot (combine_of op ty (scalar_in n slot) d) (subst (λ k. slot < k) (sym g.packed.scalars) there)))));
      }

      sum_of : (x : ℕ) (q : RedOp) → a.set.roles x ≡ Reduced q → (b : Bool) → (slot == x) ≡ b → FitsType ty (combine_of op ty (scalar_in s slot) d)
          → IsSum q (scalar_type a.program x) (a.rest x) (scalar_in (with_scalar slot (combine_of op ty (scalar_in s slot) d) s) x) (scalar_in (with_scalar slot (combine_of op ty (scalar_in n slot) d) n) x)
      sum_of x q r true e f =
          let same : slot ≡ x = eqb-true slot x e in
          let one : op ≡ q = let k : Reduced op ≡ Reduced q = sym role ∙ (ap a.set.roles same ∙ r) in cc in
          subst (λ y. IsSum q (scalar_type a.program y) (a.rest y) (scalar_in (with_scalar slot (combine_of op ty (scalar_in s slot) d) s) y) (scalar_in (with_scalar slot (combine_of op ty (scalar_in n slot) d) n) y)) same
          (subst (λ o. IsSum o ty (a.rest slot) (scalar_in (with_scalar slot (combine_of op ty (scalar_in s slot) d) s) slot) (scalar_in (with_scalar slot (combine_of op ty (scalar_in n slot) d) n) slot)) one
          (sum_here (g.sums slot op role)))
      sum_of x q r false e f =
          let ne : slot ≢ x = eqb-false slot x e in
          let k : _ = g.sums x q r in
          record {
            fits = k.fits;
            whole = ap (λ o. unwrap_or o (pos 0)) (set_other s.scalars slot x (combine_of op ty (scalar_in s slot) d) ne)
                ∙ (k.whole ∙ ap (λ o. combine_of q (scalar_type a.program x) (a.rest x) (unwrap_or o (pos 0))) (sym (set_other n.scalars slot x (combine_of op ty (scalar_in n slot) d) ne)));
          }

  pub sum_framed : (s : State Notes) (v : ℤ) → Framed a s (with_scalar slot v s)
  sum_framed s v = set_framed a is s slot v (λ d e. ap is_changed role)
