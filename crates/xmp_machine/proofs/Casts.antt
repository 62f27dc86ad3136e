-- The words that nodes say at a cast and at a transfer.
use Rattle.std.proofs.Common.{◌≡◌, ℕ, zero, suc, Bool, true, false, List, [], ◌∷◌, ℤ, pos, refl, ap, ◌∙◌, Some, slice_get, get_or, set, if◌then◌else◌}
use Rattle.std.specs.Prelude.{◌==◌}
use Rattle.xmp_move.specs.Stores.{packed, write_all}
use Rattle.xmp_instr.specs.declared.parts.CodeParts.{CodeParts}
use Rattle.xmp_instr.specs.declared.meeting.Meeting.TheVariants as meeting
use Rattle.xmp_instr.specs.Node.{Node, Standing}
use Rattle.xmp_instr.specs.Meetings.{came, said, said_by, words_alone}
use Rattle.xmp_machine.specs.Resuming.{words_by}

set_same : (xs : List ℤ) (k : ℕ) → set xs k (get_or xs k (pos 0)) ≡ xs
set_same [] k = refl
set_same (x ∷ xs) zero = refl
set_same (x ∷ xs) (suc k) = ap (λ ys. x ∷ ys) (set_same xs k)

-- a store's own words written into their slots leave it as it is
pub write_packed : (store : List ℤ) (slots : List ℕ) → write_all store slots (packed store slots) ≡ store
unfolding write_all
write_packed store [] = refl
write_packed store (s ∷ ss) = ap (λ xs. write_all xs ss (packed store ss)) (set_same store s) ∙ write_packed store ss

-- what a node says at a cast
pub cast_words : (c : CodeParts) (s : Node) (m : Standing) (slots : List ℕ) (from : ℕ) → slice_get c.meetings m.meeting ≡ Some (meeting.Cast slots from)
    → (said_by c s m from).words ≡ words_by c.node (packed s.state.words slots) m.heard from
cast_words c s m slots from row = ap (λ o. (if from == c.node then said c s m o from else came (slice_get m.heard from)).words) row ∙ at (from == c.node) refl
  where
    at : (t : Bool) → (from == c.node) ≡ t
        → (if t then said c s m (Some (meeting.Cast slots from)) from else came (slice_get m.heard from)).words
        ≡ (if t then packed s.state.words slots else (came (slice_get m.heard from)).words)
    at true e = ap (λ b. (words_alone (if b then packed s.state.words slots else [])).words) e
    at false e = refl
