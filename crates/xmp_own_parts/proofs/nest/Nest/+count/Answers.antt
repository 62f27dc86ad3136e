use Rattle.std.proofs.Common.{◌≡◌, ◌<◌, ◌+◌, ◌-◌, ◌^◌, ◌++◌, ℤ, List, [], ◌∷◌, length, drop, min, cond, ap, subst, ◌∙◌, refl, arith, rules, length-append, w32, to_z, of_z}
use Rattle.std.proofs.lemmas.Int.{ints}
use Rattle.std.proofs.lemmas.Option.{slice_get_within}
use Rattle.xmp_prog.specs.declared.statements.LoopHead.{LoopHead}
use Rattle.xmp_own_parts.specs.Turns.{value_in_turn}
use Rattle.xmp_own_parts.specs.Nests.{own_from, own_turns, owns_in}
use Rattle.xmp_own_parts.proofs.OwnTurns.{own_leaf, drop_past, AllTurns, NonePassed, first_turn, next_turn, turns_over, most_added, one_or_none}
use Rattle.xmp_own_parts.proofs.nest.Nest.+count.Goals as goal

pub count-returns-in-None-clause-count : goal.count-returns-in-None-clause-count
count-returns-in-None-clause-count t c =
    let past : drop (length c.args.chosen.now) c.args.self.now.heads.now ≡ [] = drop_past c.args.self.now.heads.now (length c.args.chosen.now) (search rules) in
    let all : own_from c.args.self.now c.args.chosen.now (drop (length c.args.chosen.now) c.args.self.now.heads.now) ≡ cond (owns_in c.args.self.now c.args.chosen.now) (c.args.chosen.now ∷ []) []
    = ap (own_from c.args.self.now c.args.chosen.now) past ∙ own_leaf c.args.self.now c.args.chosen.now in
    one_or_none c.from.result c.owns.result (owns_in c.args.self.now c.args.chosen.now) c.args.chosen.now (own_from c.args.self.now c.args.chosen.now (drop (length c.args.chosen.now) c.args.self.now.heads.now))
    c.from.ensures (c.owns.ensures ∙ ap (owns_in c.args.self.now) c.as_slice.ensures) all

pub count_turns-turns-init : goal.count_turns-turns-init
count_turns-turns-init t c =
    let P : List ℤ → Type 0 = λ vs. NonePassed c.args.self.now vs c.own_turns-own.result in
    let Q : List ℤ → Type 0 = λ vs. AllTurns c.args.self.now vs c.args.head.now c.own_turns-own.result in
    let e : own_from c.args.self.now c.args.chosen.now (drop (length c.args.chosen.now) c.args.self.now.heads.now)
    ≡ own_turns c.args.self.now c.args.chosen.now c.own_turns-own.result.turns (drop (length c.args.chosen.now + 1) c.args.self.now.heads.now) c.next-k.result
    = first_turn c.args.self.now c.args.chosen.now c.own_turns-own.result (subst P c.as_slice.ensures c.own_turns-own.ensures.passed) c.args.head.now c.next-k.result c.requires (subst Q c.as_slice.ensures c.own_turns-own.ensures.all) c.next-k.ensures.upto c.next-k.ensures.passed in
    let n = ap (λ (xs : List (List ℤ)). length xs) e in
    record { upto = c.next-k.ensures.upto; fits = omega arith; chosen = refl; count = omega arith }

pub count_turns-count_turn-requires : goal.count_turns-count_turn-requires
count_turns-count_turn-requires t c =
    let lt : length c.args.chosen.now < length c.args.self.now.heads.now = slice_get_within c.args.self.now.heads.now (length c.args.chosen.now) c.args.head.now c.requires in
    let l = ap (λ (xs : List ℤ). length xs) c.turns.invariant.chosen in
    search rules

pub count_turns-turns-preserved : goal.count_turns-turns-preserved
count_turns-turns-preserved t c =
    let P : List ℤ → Type 0 = λ vs. NonePassed c.args.self.now vs c.own_turns-own.result in
    let hs : List LoopHead = drop (length c.args.chosen.now + 1) c.args.self.now.heads.now in
    let e : own_turns c.args.self.now c.args.chosen.now c.own_turns-own.result.turns hs c.turns.k
    ≡ own_from c.args.self.now (c.args.chosen.now ++ value_in_turn c.own_turns-own.result.turns c.turns.k ∷ []) hs ++ own_turns c.args.self.now c.args.chosen.now c.own_turns-own.result.turns hs c.next-k-in-turns.result
    = next_turn c.args.self.now c.args.chosen.now c.own_turns-own.result (subst P c.as_slice.ensures c.own_turns-own.ensures.passed) hs c.turns.k c.next-k-in-turns.result (omega arith) c.next-k-in-turns.ensures.from c.next-k-in-turns.ensures.upto c.next-k-in-turns.ensures.passed in
    let v : to_z w32 (of_z w32 c.index.result) ≡ value_in_turn c.own_turns-own.result.turns c.turns.k = omega (arith, ints) in
    let R : List ℤ → Type 0 = λ vs. c.in_ok-more.more ≡ min (length (own_from c.args.self.now (vs ++ to_z w32 (of_z w32 c.index.result) ∷ []) (drop (length vs + 1) c.args.self.now.heads.now))) (2 ^ 64 - 1) in
    let S : ℤ → Type 0 = λ z. c.in_ok-more.more ≡ min (length (own_from c.args.self.now (c.args.chosen.now ++ z ∷ []) hs)) (2 ^ 64 - 1) in
    let one : S (value_in_turn c.own_turns-own.result.turns c.turns.k) = subst S v (subst R c.turns.invariant.chosen (c.in_ok-more.ensures {u = tt}).count) in
    record {
      upto = c.next-k-in-turns.ensures.upto;
      fits = omega arith;
      chosen = (c.in_ok-more.ensures {u = tt}).chosen ∙ c.turns.invariant.chosen;
      count = most_added (length (own_from c.args.self.now c.args.chosen.now (drop (length c.args.chosen.now) c.args.self.now.heads.now))) c.turns.count
          (length (own_from c.args.self.now (c.args.chosen.now ++ value_in_turn c.own_turns-own.result.turns c.turns.k ∷ []) hs))
          (length (own_turns c.args.self.now c.args.chosen.now c.own_turns-own.result.turns hs c.next-k-in-turns.result)) c.in_ok-more.more (2 ^ 64 - 1) c.saturating_add-count.result
          (c.turns.invariant.count ∙ ap (λ n. min (c.turns.count + n) (2 ^ 64 - 1)) (ap (λ (xs : List (List ℤ)). length xs) e
          ∙ length-append (own_from c.args.self.now (c.args.chosen.now ++ value_in_turn c.own_turns-own.result.turns c.turns.k ∷ []) hs) (own_turns c.args.self.now c.args.chosen.now c.own_turns-own.result.turns hs c.next-k-in-turns.result)))
          one c.saturating_add-count.ensures;
    }

pub count_turns-returns-clause-count : goal.count_turns-returns-clause-count
count_turns-returns-clause-count t c =
    let e : own_turns c.args.self.now c.args.chosen.now c.own_turns-own.result.turns (drop (length c.args.chosen.now + 1) c.args.self.now.heads.now) c.turns.k ≡ []
    = turns_over c.args.self.now c.args.chosen.now c.own_turns-own.result.turns (drop (length c.args.chosen.now + 1) c.args.self.now.heads.now) c.turns.k (omega arith) in
    let n = ap (λ (xs : List (List ℤ)). length xs) e in
    let i = c.turns.invariant.count in
    let f = c.turns.invariant.fits in
    omega arith
