use Rattle.std.proofs.Common.{◌≡◌, ◌<◌, ◌+◌, ◌++◌, ℕ, ℤ, List, [], ◌∷◌, length, drop, Err, ap, sym, subst, ◌∙◌, refl, arith, rules, w32, w64, to_z, of_z}
use Rattle.std.proofs.lemmas.Int.{ints}
use Rattle.std.proofs.lemmas.Option.{slice_get_within}
use Rattle.xmp_prog.specs.declared.statements.LoopHead.{LoopHead}
use Rattle.xmp_prog.specs.Statements.{indices_of}
use Rattle.xmp_meaning.specs.declared.ends.Flow.{Flow}
use Rattle.xmp_meaning.specs.declared.ends.Flow.TheVariants.{Returned}
use Rattle.xmp_meaning.specs.Runs.{Run, Gave, Does}
use Rattle.xmp_meaning_laws.specs.Tuples.{for_each}
use Rattle.xmp_own_parts.specs.Turns.{value_in_turn}
use Rattle.xmp_own_parts.specs.Nests.{own_from, own_turns}
use Rattle.xmp_own_parts.specs.Walks.{body_by}
use Rattle.xmp_own_parts.proofs.OwnTurns.{drop_past, AllTurns, NonePassed, first_turn, next_turn, turns_step, turns_over}
use Rattle.xmp_own_parts.proofs.Pieces.{done, went, returned, halted, moved}
use Rattle.xmp_own_parts.proofs.walking.Walk.+walk.Goals as goal

pub over-returns-in-None-clause-does : goal.over-returns-in-None-clause-does
over-returns-in-None-clause-does t c =
    let nest : _ = c.args.self.now.nest in
    let past : drop (length c.args.chosen.now) c.args.self.now.nest.heads.now ≡ [] = drop_past c.args.self.now.nest.heads.now (length c.args.chosen.now) (search rules) in
    let slots : List ℕ = indices_of c.args.self.now.nest.heads.now in
    let body : Run (Unit {0}) Flow = body_by c.args.self.now in
    done (for_each slots (own_from nest c.args.chosen.now (drop (length c.args.chosen.now) nest.heads.now)) body c.args.state.now) (for_each slots (own_from nest c.as_slice.result.now []) body c.args.state.now)
    c.at_tuple.result c.at_tuple.new.state
    (ap (λ (hs : List LoopHead). for_each slots (own_from nest c.args.chosen.now hs) body c.args.state.now) past
    ∙ ap (λ (vs : List ℤ). for_each slots (own_from nest vs []) body c.args.state.now) (sym c.as_slice.ensures))
    c.at_tuple.ensures

pub over_turns-turns-init : goal.over_turns-turns-init
over_turns-turns-init t c =
    let P : List ℤ → Type 0 = λ vs. NonePassed c.args.self.now.nest vs c.own_turns-own.result in
    let Q : List ℤ → Type 0 = λ vs. AllTurns c.args.self.now.nest vs c.args.head.now c.own_turns-own.result in
    record {
      upto = c.next-k.ensures.upto;
      chosen = refl;
      does = ap (λ (xs : List (List ℤ)). for_each (indices_of c.args.self.now.nest.heads.now) xs (body_by c.args.self.now) c.args.state.now)
          (first_turn c.args.self.now.nest c.args.chosen.now c.own_turns-own.result (subst P c.as_slice.ensures c.own_turns-own.ensures.passed) c.args.head.now c.next-k.result c.requires
          (subst Q c.as_slice.ensures c.own_turns-own.ensures.all) c.next-k.ensures.upto c.next-k.ensures.passed);
    }

pub over_turns-over_turn-requires : goal.over_turns-over_turn-requires
over_turns-over_turn-requires t c =
    let lt : length c.args.chosen.now < length c.args.self.now.nest.heads.now = slice_get_within c.args.self.now.nest.heads.now (length c.args.chosen.now) c.args.head.now c.requires in
    let l = ap (λ (xs : List ℤ). length xs) c.turns.invariant.chosen in
    search rules

pub over_turns-returns-in-Ok-Returned-clause-does : goal.over_turns-returns-in-Ok-Returned-clause-does
over_turns-returns-in-Ok-Returned-clause-does t c =
    let nest : _ = c.args.self.now.nest in
    let hs : List LoopHead = drop (length c.args.chosen.now + 1) c.args.self.now.nest.heads.now in
    let slots : List ℕ = indices_of c.args.self.now.nest.heads.now in
    let body : Run (Unit {0}) Flow = body_by c.args.self.now in
    let turns : _ = c.own_turns-own.result.turns in
    let v : to_z w32 (of_z w32 c.index.result) ≡ value_in_turn turns c.turns.k = omega (arith, ints) in
    let w : to_z w64 (of_z w64 c.in-Ok-Returned.value) ≡ c.in-Ok-Returned.value = search rules in
    let P : List (List ℤ) → Type 0 = λ xs. for_each slots xs body c.turns.state ≡ Gave c.in-Ok-Returned.field-0 c.over_turn.new.state in
    c.turns.invariant.does
    ∙ ap (λ (xs : List (List ℤ)). for_each slots xs body c.turns.state) (turns_step nest c.args.chosen.now turns hs c.turns.k (omega arith))
    ∙ returned slots body (own_from nest (c.args.chosen.now ++ value_in_turn turns c.turns.k ∷ []) hs) (own_turns nest c.args.chosen.now turns hs (c.turns.k + 1)) c.turns.state c.over_turn.new.state
    c.in-Ok-Returned.field-0 (to_z w64 (of_z w64 c.in-Ok-Returned.value)) (c.in-Ok-Returned.field-0-is ∙ ap Returned (sym w))
    (moved nest P c.turns.chosen c.args.chosen.now (to_z w32 (of_z w32 c.index.result)) (value_in_turn turns c.turns.k) c.turns.invariant.chosen v ((c.in-Ok-Returned.ensures {u = tt}).does))

pub over_turns-returns-in-Err-clause-does : goal.over_turns-returns-in-Err-clause-does
over_turns-returns-in-Err-clause-does t c =
    let nest : _ = c.args.self.now.nest in
    let hs : List LoopHead = drop (length c.args.chosen.now + 1) c.args.self.now.nest.heads.now in
    let slots : List ℕ = indices_of c.args.self.now.nest.heads.now in
    let body : Run (Unit {0}) Flow = body_by c.args.self.now in
    let turns : _ = c.own_turns-own.result.turns in
    let one : List (List ℤ) = own_from nest (c.args.chosen.now ++ value_in_turn turns c.turns.k ∷ []) hs in
    let rest : List (List ℤ) = own_turns nest c.args.chosen.now turns hs (c.turns.k + 1) in
    let v : to_z w32 (of_z w32 c.index.result) ≡ value_in_turn turns c.turns.k = omega (arith, ints) in
    let P : List (List ℤ) → Type 0 = λ xs. Does (for_each slots xs body c.turns.state) (Err c.in-Err.halt) c.over_turn.new.state in
    done (for_each slots (own_from nest c.args.chosen.now (drop (length c.args.chosen.now) nest.heads.now)) body c.args.state.now) (for_each slots (one ++ rest) body c.turns.state) (Err c.in-Err.halt) c.over_turn.new.state
    (c.turns.invariant.does ∙ ap (λ (xs : List (List ℤ)). for_each slots xs body c.turns.state) (turns_step nest c.args.chosen.now turns hs c.turns.k (omega arith)))
    (halted slots body one rest c.turns.state c.over_turn.new.state c.in-Err.halt
    (moved nest P c.turns.chosen c.args.chosen.now (to_z w32 (of_z w32 c.index.result)) (value_in_turn turns c.turns.k) c.turns.invariant.chosen v ((c.in-Err.ensures {u = tt}).does)))

pub over_turns-turns-preserved : goal.over_turns-turns-preserved
over_turns-turns-preserved t c =
    let nest : _ = c.args.self.now.nest in
    let hs : List LoopHead = drop (length c.args.chosen.now + 1) c.args.self.now.nest.heads.now in
    let slots : List ℕ = indices_of c.args.self.now.nest.heads.now in
    let body : Run (Unit {0}) Flow = body_by c.args.self.now in
    let turns : _ = c.own_turns-own.result.turns in
    let one : List (List ℤ) = own_from nest (c.args.chosen.now ++ value_in_turn turns c.turns.k ∷ []) hs in
    let rest : List (List ℤ) = own_turns nest c.args.chosen.now turns hs c.next-k-in-turns.result in
    let v : to_z w32 (of_z w32 c.index.result) ≡ value_in_turn turns c.turns.k = omega (arith, ints) in
    let P : List (List ℤ) → Type 0 = λ xs. for_each slots xs body c.turns.state ≡ Gave c.in-Ok-Next.field-0 c.over_turn.new.state in
    let N : List ℤ → Type 0 = λ vs. NonePassed c.args.self.now.nest vs c.own_turns-own.result in
    record {
      upto = c.next-k-in-turns.ensures.upto;
      chosen = (c.in-Ok-Next.ensures {u = tt}).chosen ∙ c.turns.invariant.chosen;
      does = c.turns.invariant.does
          ∙ ap (λ (xs : List (List ℤ)). for_each slots xs body c.turns.state)
          (next_turn nest c.args.chosen.now c.own_turns-own.result (subst N c.as_slice.ensures c.own_turns-own.ensures.passed) hs c.turns.k c.next-k-in-turns.result (omega arith)
          c.next-k-in-turns.ensures.from c.next-k-in-turns.ensures.upto c.next-k-in-turns.ensures.passed)
          ∙ went slots body one rest c.turns.state c.over_turn.new.state c.in-Ok-Next.field-0 c.in-Ok-Next.field-0-is
          (moved nest P c.turns.chosen c.args.chosen.now (to_z w32 (of_z w32 c.index.result)) (value_in_turn turns c.turns.k) c.turns.invariant.chosen v ((c.in-Ok-Next.ensures {u = tt}).does));
    }

pub over_turns-returns-clause-does : goal.over_turns-returns-clause-does
over_turns-returns-clause-does t c =
    c.turns.invariant.does
    ∙ ap (λ (xs : List (List ℤ)). for_each (indices_of c.args.self.now.nest.heads.now) xs (body_by c.args.self.now) c.turns.state)
    (turns_over c.args.self.now.nest c.args.chosen.now c.own_turns-own.result.turns (drop (length c.args.chosen.now + 1) c.args.self.now.nest.heads.now) c.turns.k (omega arith))
