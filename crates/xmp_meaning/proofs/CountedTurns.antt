-- The turns of a counted loop are those that are counted when it begins.
use Rattle.std.proofs.Common.{◌≡◌, ◌+◌, ◌*◌, ◌<◌, ℕ, zero, suc, Bool, true, refl, ap, ◌∙◌, arith}
use Rattle.std.specs.Prelude.{ℤ, pos, ◌+ℤ◌, Some, slice_get, slice_set, unwrap_or}
use Rattle.std.proofs.lemmas.Int.{ints}
use Rattle.xmp_num.specs.declared.types.Ty.TheVariants.{Int}
use Rattle.xmp_num.specs.Arithmetic.{wrap}
use Rattle.xmp_prog.specs.declared.statements.LoopHead.{LoopHead}
use Rattle.xmp_meaning.specs.declared.ends.Flow.{Flow}
use Rattle.xmp_meaning.specs.declared.ends.Flow.TheVariants.{Next, Returned}
use Rattle.xmp_meaning.specs.Runs.{State, Step, Gave, Ended, Run, and_then, ◌>>=◌, pure, set_scalar}
use Rattle.xmp_meaning.specs.Blocks.{after, then_run, choose, turns}
use Rattle.xmp_meaning.specs.Context.{Context}
use Rattle.xmp_meaning.specs.Handlers.{Handlers}
use Rattle.xmp_meaning.specs.Loops.{is_inside, inside, step_up, turn_count}
use Rattle.xmp_meaning.specs.Laws.{IsCounted, CountedTurns, repeated}
use Rattle.xmp_meaning.proofs.Sequences.{flows_associate}
use Rattle.xmp_meaning.proofs.Counting.{turns_are_counted}

module _ {X : Type 0} (h : Handlers X) (cx : Context) (head : LoopHead) (body : Run X Flow) (fits : State X → Bool) (from to : ℤ)
    (c : IsCounted X h cx head body fits from to) where
  abbrev count : ℕ
  count = turn_count from (wrap Int to) head.inclusive head.step

  abbrev index_at : ℕ → ℤ
  index_at k = from +ℤ pos (k * head.step)

  abbrev with_index : State X → ℤ → State X
  with_index s v = record s { scalars = slice_set s.scalars head.index.number v }

  -- the test holds at each of the turns
  tested : (k : ℕ) → k < count → (s : State X) → fits s ≡ true → slice_get s.scalars head.index.number ≡ Some (index_at k)
      → inside h cx head s ≡ Gave true s
  tested k lt s fit at =
      ap (λ r. and_then r (λ t. pure (is_inside head.inclusive (unwrap_or (slice_get s.scalars head.index.number) (pos 0)) (wrap Int t)))) (c.bound_is s fit)
      ∙ ap (λ o. Gave (is_inside head.inclusive (unwrap_or o (pos 0)) (wrap Int to)) s) at
      ∙ ap (λ b. Gave b s) ((turns_are_counted from (wrap Int to) head.inclusive head.step k c.steps_up).1 lt)

  -- the index goes up
  stepped : (k : ℕ) → k < count → (t : State X) → slice_get t.scalars head.index.number ≡ Some (index_at k)
      → step_up head t ≡ Gave Next (with_index t (index_at (suc k)))
  stepped k lt t at = ap (λ o. Gave Next (with_index t (wrap Int (unwrap_or o (pos 0) +ℤ pos head.step)))) at
      ∙ ap (λ v. Gave Next (with_index t v)) (c.step_fits k lt)

  same_after_next : (r : Step X Flow) (q q' : Run X Flow) → ((t : State X) → r ≡ Gave Next t → q t ≡ q' t)
      → and_then r (λ flow. after flow q) ≡ and_then r (λ flow. after flow q')
  same_after_next (Gave Next t) q q' same = same t refl
  same_after_next (Gave (Returned v) t) q q' same = refl
  same_after_next (Ended e t) q q' same = refl

  next_turn : ℕ → ℕ → Run X Flow
  next_turn n k = set_scalar head.index.number (index_at (suc k)) >>= (λ u. repeated head n (suc k) from body)

  counted_from : (n k : ℕ) → n + k ≡ count → (s : State X) → fits s ≡ true → slice_get s.scalars head.index.number ≡ Some (index_at k)
      → turns n (inside h cx head) (then_run body (step_up head)) s ≡ repeated head n k from body s
  unfolding next_turn
  counted_from zero k e s fit at = refl
  counted_from (suc n) k e s fit at =
      ap (λ r. and_then r (λ more. choose more (then_run (then_run body (step_up head)) loop) (pure Next))) (tested k lt s fit at)
      ∙ flows_associate (body s) (step_up head) loop
      ∙ same_after_next (body s) (then_run (step_up head) loop) (next_turn n k) (λ t went.
      let kept : _ = c.turn_fits s t fit went in
      let there : slice_get t.scalars head.index.number ≡ Some (index_at k) = kept.1 ∙ at in
      let set : _ = c.index_fits t (index_at (suc k)) kept.0 in
      ap (λ r. and_then r (λ flow. after flow loop)) (stepped k lt t there)
      ∙ counted_from n (suc k) (let q : n + suc k ≡ count = omega (arith, e) in q) (with_index t (index_at (suc k))) set.0 set.1)
    where
      lt : k < count
      lt = omega (arith, e)

      loop : Run X Flow
      loop = turns n (inside h cx head) (then_run body (step_up head))

index_at_first : (from : ℤ) (step : ℕ) → from ≡ from +ℤ pos (0 * step)
index_at_first from step = grind (arith, ints)

pub counted_turns : (X : Type 0) → CountedTurns X
counted_turns X h cx head body fits from to c s fit at =
    counted_from h cx head body fits from to c (turn_count from (wrap Int to) head.inclusive head.step) 0
    (let q : turn_count from (wrap Int to) head.inclusive head.step + 0 ≡ turn_count from (wrap Int to) head.inclusive head.step = omega arith in q)
    s fit (at ∙ ap Some (index_at_first from head.step))
