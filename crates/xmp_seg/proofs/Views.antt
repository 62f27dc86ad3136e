-- What the seats know after a step of one of them.
use Rattle.std.proofs.Common.{◌≡◌, ◌≢◌, ℕ, ℤ, suc, ◌<◌, ◌≤◌, List, length, set, slice_index, refl, sym, ap, ◌∙◌, subst, ⊎_elim, arith, FitsSigned, le_trans}
use Rattle.std.specs.Int.{w64}
use mathlib.Core.Option.{some}
use lib.ListN.{get_elem?}
use Rattle.atomic_table.specs.Table.{State}
use Rattle.atomic_table.proofs.Lists.{at_set}
use Rattle.xmp_script.specs.Script.{Script}
use Rattle.xmp_script.specs.World.{World, arrivals}
use Rattle.xmp_seg.specs.declared.look.Look.{Look}
use Rattle.xmp_seg.specs.Rule.{InRun, Knows, Shows, bits, total}

-- a fact of a list with one item replaced
abbrev pub AtEach : (ℕ → Look → Type 0) → List Look → Type 0
AtEach F views = (port : ℕ) (v : Look) → get_elem? views port ≡ some v → F port v

pub each_set : (F : ℕ → Look → Type 0) (views : List Look) (id : ℕ) (w : Look) → F id w → ((j : ℕ) (u : Look) → j ≢ id → get_elem? views j ≡ some u → F j u) → AtEach F (set views id w)
each_set F views id w mine others j u e = ⊎_elim
    (λ (x : (j ≡ id) × (w ≡ u)). subst (λ (y : ℕ × Look). F y.0 y.1) (λ i. (sym x.0 i, x.1 i)) mine)
    (λ (x : (j ≢ id) × (get_elem? views j ≡ some u)). others j u x.0 x.1)
    (at_set views id j w u e)

-- no image is in two seats
abbrev pub Apart : List Look → Type 0
Apart views = (port other : ℕ) (v u : Look) (k : ℕ) → get_elem? views port ≡ some v → get_elem? views other ≡ some u → InRun v k → InRun u k → port ≡ other

-- a seat whose images are among those that it had
pub apart_set : (views : List Look) (id : ℕ) (v w : Look) → Apart views → get_elem? views id ≡ some v → ((k : ℕ) → InRun w k → InRun v k) → Apart (set views id w)
apart_set views id v w apart there within port other u t k e e' mine his =
    each_set
    (λ j x. InRun x k → j ≡ other)
    views id w
    (λ h. each_set (λ l y. InRun y k → id ≡ l) views id w (λ _. refl) (λ l y ne at h'. apart id l v y k there at (within k h) h') other t e' his)
    (λ j x ne at h. each_set (λ l y. InRun y k → j ≡ l) views id w (λ h'. apart j id x v k at there h (within k h')) (λ l y ne' at' h'. apart j l x y k at at' h h') other t e' his)
    port u e mine

-- What holds after a step of one seat, which keeps its images: the others' images stand as they stood.
pub shows_after : (s : Script ℤ) (w w' : World ℤ) (state : State (Unit {0}) Look) (id : ℕ) (v v' : Look) (words : List ℕ) → Shows s w state → get_elem? state.views id ≡ some v →
    v'.first ≡ v.first → v'.past ≡ v.past →
    slice_index words 0 ≡ total (arrivals w') s.images →
    ((e : ℕ) → suc e < length words → (slice_index words (suc e) ≡ bits (w'.words e)) × FitsSigned w64 (w'.words e)) →
    slice_index state.words 0 ≤ slice_index words 0 →
    Knows s w' (slice_index words 0) v' →
    ((k : ℕ) → (InRun v k → ⊥) → (w'.phase k ≡ w.phase k) × (w'.place k ≡ w.place k) × (w'.arrived k ≡ w.arrived k)) →
    Shows s w' record { words = words; homes = state.homes; views = set state.views id v' }
shows_after s w w' state id v v' words m there first past count values grows knows others = record {
  count = count;
  words = values;
  views = each_set (λ j u. Knows s w' (slice_index words 0) u) state.views id v' knows
      (λ j u ne at. let old = m.views j u at in (
        old.0,
        le_trans old.1 grows,
        λ k h.
            let stay = others k (λ h'. ne (m.apart j id u v k at there h h')) in
            let stood = old.2 k h in
            (stood.0 ∙ sym stay.0, stood.1 ∙ sym stay.1, stood.2 ∙ sym stay.2),
      ));
  apart = apart_set state.views id v v' m.apart there (λ k h.
      let a = h.0 in let b = h.1 in (omega (arith, first, a), omega (arith, past, b)));
}
