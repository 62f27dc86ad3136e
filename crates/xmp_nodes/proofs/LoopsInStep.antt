-- Loops of all nodes in step: uncounted ones, and turns of any kind.
use Rattle.std.proofs.Common.{◌≡◌, ◌<◌, ◌++◌, ℕ, zero, suc, Bool, List, [], ◌∷◌, length, refl, sym, subst, ap, ◌∙◌, append-nil, arith, ⊎_elim}
use Rattle.std.specs.Prelude.{slice_get}
use Rattle.xmp_prog.specs.declared.parts.ProgParts.{ProgParts}
use Rattle.xmp_prog.specs.Fits.{node_count}
use Rattle.xmp_paths.specs.declared.event.Event.{Event}
use Rattle.xmp_paths.specs.Plans.{Plan, skip, sequence, branch, loop, Path}
use Rattle.xmp_paths.specs.Safe.{left}
use Rattle.xmp_paths.proofs.PathLaws.{some_path}
use Rattle.xmp_paths.proofs.SafeLaws.{safe_fewer, safe_back}
use Rattle.xmp_meaning.specs.declared.ends.Flow.{Flow}
use Rattle.xmp_meaning.specs.declared.ends.Flow.TheVariants.{Next}
use Rattle.xmp_meaning.specs.Runs.{State, RunIn, Run, ◌>>=◌, pure, take_step}
use Rattle.xmp_meaning.specs.Blocks.{then_run, choose, turns}
use Rattle.xmp_meaning.specs.Loops.{turn, while_loop}
use Rattle.xmp_meaning.specs.Exchanges.{Notes}
use Rattle.xmp_nodes.specs.Nodes.{Nodes, all_do}
use Rattle.xmp_nodes.specs.Lockstep.{steps_left, while_all}
use Rattle.xmp_nodes.proofs.Agrees.{Anything, IsNext, Ready, AllAlong, AllFollow}
use Rattle.xmp_nodes.proofs.Follow.{way_unrolled, way_none}
use Rattle.xmp_nodes.proofs.Each.{Alone}
use Rattle.xmp_nodes.proofs.InStep.{way_first, way_left, ready_paths, all_pure, all_paths, all_on, all_then, all_choose, all_alone}
use Rattle.xmp_nodes.proofs.MainSteps.{takes_step}

-- ---- plans that mark nothing

-- no way of the plan changes what is out of date
abbrev pub MarksNothing : Plan Event → Type 0
MarksNothing a = (node : ℕ) (way : List Event) → Path a way → (stale : ℕ → Bool) (object : ℕ) → left node way stale object ≡ stale object

-- what comes behind such a plan is ready without it
pub ready_idle : (p : ProgParts) (a rest : Plan Event) (s : State Notes) (w : Nodes) → MarksNothing a → Ready p (sequence a rest) s w → Ready p rest s w
ready_idle p a rest s w idle r = record {
  many = r.many;
  nodes = λ node n e.
      let x = r.nodes node n e in
      let y = some_path a in
      record {
        stale = x.stale;
        safe = safe_fewer node rest (left node y.0 x.stale) x.stale (λ object h. idle node y.0 y.1 x.stale object ∙ h) (safe_back node a rest x.stale x.safe y.0 y.1);
        agrees = x.agrees;
      };
  counts = r.counts;
}

module _ (p : ProgParts) where
  -- ---- turns: the test, and then the body and the others, or nothing

  abbrev pub turn_plan : (t b : Plan Event) → Plan Event
  turn_plan t b = sequence (loop (sequence t b)) t

  -- a turn of it, or its last test
  abbrev pub one_turn : (t b : Plan Event) → Plan Event
  one_turn t b = sequence t (branch (sequence b (turn_plan t b)) skip)

  pub unrolled : (t b : Plan Event) (way : List Event) → Path (one_turn t b) way → Path (turn_plan t b) way
  unrolled t b way w = ⊎_elim more last w.in_back
    where
      more : Path (sequence b (turn_plan t b)) w.back → Path (turn_plan t b) way
      more x = way_first (sequence (sequence t b) (loop (sequence t b))) (loop (sequence t b)) t (way_unrolled (sequence t b)) way
          (way_left (sequence t b) (loop (sequence t b)) t way
          (way_left t b (turn_plan t b) way (record { front = w.front; back = w.back; whole = w.whole; in_front = w.in_front; in_back = x })))

      last : w.back ≡ [] → Path (turn_plan t b) way
      last e = record {
        front = [];
        back = way;
        whole = refl;
        in_front = way_none (sequence t b);
        in_back = subst (Path t) (sym (w.whole ∙ (ap (λ l. w.front ++ l) e ∙ append-nil w.front))) w.in_front;
      }

  pub idle_turns : (t b : Plan Event) → MarksNothing t → (rest : Plan Event) (s : State Notes) (w : Nodes) → Ready p (sequence (turn_plan t b) rest) s w → Ready p rest s w
  idle_turns t b idle rest s w r =
      ready_idle p t rest s w idle (ready_paths p (sequence (turn_plan t b) rest) (sequence t rest) s w
      (way_first t (turn_plan t b) rest (λ way x. record { front = []; back = way; whole = refl; in_front = way_none (sequence t b); in_back = x })) r)

  pub all_turns : (t b : Plan Event) (test : Run Notes Bool) (test' : RunIn Nodes Bool) (body : Run Notes Flow) (body' : RunIn Nodes Flow) → MarksNothing t
      → AllFollow p Anything t test test' → AllFollow p IsNext b body body' → (n : ℕ) → AllFollow p IsNext (turn_plan t b) (turns n test body) (turns n test' body')
  all_turns t b test test' body body' idle c d zero = λ rest s w r. record { same = refl; value = refl; ready = idle_turns t b idle rest s w r }
  all_turns t b test test' body body' idle c d (suc n) =
      all_paths p IsNext (one_turn t b) (turn_plan t b) (turns (suc n) test body) (turns (suc n) test' body') (unrolled t b)
      (all_on p Anything IsNext t (branch (sequence b (turn_plan t b)) skip) test test'
      (λ more. choose more (then_run body (turns n test body)) (pure Next)) (λ more. choose more (then_run body' (turns n test' body')) (pure Next)) c
      (λ more v. all_choose p IsNext (sequence b (turn_plan t b)) skip (then_run body (turns n test body)) (pure Next) (then_run body' (turns n test' body')) (pure Next) more
      (all_then p IsNext b (turn_plan t b) body (turns n test body) body' (turns n test' body') d (all_turns t b test test' body body' idle c d n))
      (all_pure p IsNext Next refl)))

  -- ---- uncounted loops

  abbrev taking : RunIn Nodes (Unit {0})
  taking = all_do tt (λ node. take_step)

  all_take : 0 < node_count p → AllFollow p Anything skip take_step taking
  all_take some = all_alone p Anything skip tt take_step (λ node. take_step) some (λ node below. takes_step p node)

  a_turn : 0 < node_count p → (b : Plan Event) (body : Run Notes Flow) (body' : RunIn Nodes Flow) → AllFollow p IsNext b body body'
      → AllFollow p IsNext b (turn body) (taking >>= (λ u. body'))
  a_turn some b body body' c =
      all_paths p IsNext (sequence skip b) b (turn body) (taking >>= (λ u. body'))
      (λ way w. subst (Path b) (sym (w.whole ∙ ap (λ l. l ++ w.back) w.in_front)) w.in_back)
      (all_on p Anything IsNext skip b take_step taking (λ u. body) (λ u. body') (all_take some) (λ u v. c))

  steps_same : 0 < node_count p → (a : Plan Event) (s : State Notes) (w : Nodes) → Ready p a s w → steps_left w.stores ≡ s.steps
  steps_same some a s w r = at_stores w.stores refl
    where
      at_stores : (ss : List Alone) → w.stores ≡ ss → steps_left w.stores ≡ s.steps
      at_stores [] e = absurd (let m = r.many in let l = ap (λ x. length x) e in omega (arith, some, m, l))
      at_stores (n ∷ ss) e = ap steps_left e ∙ (r.nodes 0 n (ap (λ l. slice_get l 0) e)).agrees.steps

  pub all_while : 0 < node_count p → (t b : Plan Event) (test : Run Notes Bool) (test' : RunIn Nodes Bool) (body : Run Notes Flow) (body' : RunIn Nodes Flow) → MarksNothing t
      → AllFollow p Anything t test test' → AllFollow p IsNext b body body' → AllFollow p IsNext (turn_plan t b) (while_loop test body) (while_all test' body')
  all_while some t b test test' body body' idle c d rest s w r =
      subst (λ m. AllAlong p IsNext rest (turns (suc s.steps) test (turn body) s) (turns (suc m) test' (taking >>= (λ u. body')) w)) (sym (steps_same some (sequence (turn_plan t b) rest) s w r))
      (all_turns t b test test' (turn body) (taking >>= (λ u. body')) idle c (a_turn some b body body' d) (suc s.steps) rest s w r)
