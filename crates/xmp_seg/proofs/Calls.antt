-- From what contracts see of a seat to what its table asks.
use Rattle.std.proofs.Common.{◌≡◌, ℕ, ℤ, suc, ◌+◌, ◌-◌, ◌<◌, ◌≤◌, false, slice_get, Some, refl, sym, ap, ◌∙◌, subst, arith, length}
use Rattle.atomic_table.specs.Seated.{TableId}
use Rattle.xmp_script.specs.Script.{Access, Get, Put, IsTo, Script}
use Rattle.xmp_seg.specs.declared.look.Look.{Look}
use Rattle.xmp_seg.specs.Seats.{IsDone, IsNext, Standing}
use Rattle.xmp_seg.specs.Rule.{IsFor, IsOne, standing}

-- the seat's table is the segment's
pub same_table : (t u seg : TableId) (v : Look) (now : Standing) → standing t v ≡ now → u ≡ seg → now.segment ≡ seg → t ≡ u
same_table t u seg v now is is' same = ap (λ (x : Standing). x.segment) is ∙ same ∙ sym is'

-- the next access, of what the seat knows
pub next_of : (s : Script ℤ) (t : TableId) (v : Look) (now : Standing) (a : Access ℤ) → standing t v ≡ now → IsNext s now a → slice_get (s.accesses v.phase v.first) v.place ≡ Some a
next_of s t v now a is next = subst (λ (x : Standing). IsNext s x a) (sym is) next

-- its word is one of the table
pub word_in : (s : Script ℤ) (n e : ℕ) (v : Look) (a : Access ℤ) → IsFor (n - 1) s → IsOne v → v.past ≤ s.images → slice_get (s.accesses v.phase v.first) v.place ≡ Some a → IsTo e a → e + 1 < n
word_in s n e v a fits one past next to =
    let lie = fits.inside v.phase v.first e (omega (arith, one, past)) (v.place, a, next, to) in
    omega (arith, lie)

-- that the accesses of a phase are made, of what the seat knows
pub done_of : (s : Script ℤ) (t : TableId) (v : Look) (now : Standing) → standing t v ≡ now → IsDone s now → (v.arrived ≡ false) × (v.phase < s.phases) × (v.place ≡ length (s.accesses v.phase v.first))
done_of s t v now is done = subst (λ (x : Standing). IsDone s x) (sym is) done
