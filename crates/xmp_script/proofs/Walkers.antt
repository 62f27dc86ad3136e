-- The images of a script carry it.
use Rattle.std.proofs.Common.{◌≡◌, ℕ, zero, suc, ◌<◌, ◌≤◌, nat_lt, if◌then◌else◌, List, [], ◌∷◌, length, slice_get, Some, None, refl, ap, ◌∙◌, arith, le_refl}
use Rattle.std.proofs.lemmas.Bool.{lt-ltb, le-ltb}
use Rattle.xmp_script.specs.Script.{Access, Get, Put, Script, IsFree, seen}
use Rattle.xmp_script.specs.Images.{AtSync, AtEnd, behind}
use Rattle.xmp_script.specs.Carries.{onward, own, at_phase, after_accesses, AllCarry}
use Rattle.xmp_script.specs.Walkers as walk
use Rattle.xmp_script.specs.Walkers.{Walker, stand_of, walkers}
use Rattle.xmp_script.proofs.Course.{get_below}

there : {A : Type 0} (l : List A) (i : ℕ) → i < length l → (a : A) × (slice_get l i ≡ Some a)
there [] i lt = absurd (omega arith)
there (x ∷ l) zero lt = (x, refl)
there (x ∷ l) (suc i) lt = there l i (omega arith)

nothing : {A : Type 0} (l : List A) → slice_get l (length l) ≡ None
nothing [] = refl
nothing (x ∷ l) = nothing l

abbrev at_place : ℕ → ℕ → ℕ → Walker
at_place k q i = record { image = k; phase = q; place = i }

walks : {V : Type 0} (s : Script V) (k q i : ℕ) (m : ℕ → V) (a : Access V) → slice_get (s.accesses q k) i ≡ Some a →
    behind (walkers s) m (at_place k q i) a ≡ at_place k q (suc i)
walks s k q i m (Get e) at-i = refl
walks s k q i m (Put e v) at-i = ap (λ o. walk.onward o (at_place k q i)) at-i

walked : {V : Type 0} (s : Script V) (k q i : ℕ) (x : Walker) → i ≤ length (s.accesses q k) → x ≡ at_place k q 0 →
    after_accesses (walkers s) s k q i x ≡ at_place k q i
walked s k q zero x le e = e
walked s k q (suc i) x le e =
    let a = there (s.accesses q k) i le in
    ap (λ o. onward (walkers s) (seen s k q i) o (after_accesses (walkers s) s k q i x)) a.1
    ∙ ap (λ y. behind (walkers s) (seen s k q i) y a.0) (walked s k q i x (omega arith) e)
    ∙ walks s k q i (seen s k q i) a.0 a.1

walk_phase : {V : Type 0} (s : Script V) (k q : ℕ) → at_phase (walkers s) s k q ≡ at_place k q 0
walk_phase s k zero = refl
walk_phase s k (suc q) =
    let long = length (s.accesses q k) in
    ap (walkers s).pass (walked s k q long (at_phase (walkers s) s k q) (le_refl long) (walk_phase s k q))
    ∙ ap (λ o. walk.onward o (at_place k q long)) (nothing (s.accesses q k))

walk_own : {V : Type 0} (s : Script V) (k q i : ℕ) → i ≤ length (s.accesses q k) →
    own (walkers s) s k q i ≡ at_place k q i
walk_own s k q i le = walked s k q i (at_phase (walkers s) s k q) le (walk_phase s k q)

stand_last : {V : Type 0} (s : Script V) (k q : ℕ) →
    (walkers s).stands (own (walkers s) s k q (length (s.accesses q k))) ≡ (if nat_lt (suc q) s.phases then AtSync else AtEnd)
stand_last s k q =
    let long = length (s.accesses q k) in
    ap (walkers s).stands (walk_own s k q long (le_refl long)) ∙ ap (stand_of s.phases q) (nothing (s.accesses q k))

pub walkers_carry : {V : Type 0} (s : Script V) → IsFree s → 0 < s.images → 0 < s.phases → AllCarry (walkers s) s
walkers_carry s free images phases = record {
  free = free;
  images = images;
  phases = phases;
  each = λ k lk. record {
    accesses = λ q i a lq at-i.
        ap (walkers s).stands (walk_own s k q i (let h = get_below (s.accesses q k) i a at-i in omega arith)) ∙ ap (stand_of s.phases q) at-i;
    syncs = λ q more. stand_last s k q ∙ rw (lt-ltb (suc q) s.phases more);
    ends = λ q end. stand_last s k q ∙ rw (le-ltb (suc q) s.phases (omega arith));
  };
}
