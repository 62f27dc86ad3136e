-- Counted loops of all nodes in step: the index is current at the head of each turn.
use Rattle.std.proofs.Common.{◌≡◌, ◌<◌, ◌++◌, inl, inr, ℕ, zero, suc, Bool, true, false, true≢false, List, [], ◌∷◌, refl, sym, subst, ap, ◌∙◌, append-nil, bit_xor, ⊎_elim, arith}
use Rattle.std.proofs.lemmas.Option.{slice_get_within}
use Rattle.xmp_base.specs.declared.place.Place.{Place}
use Rattle.xmp_prog.specs.declared.parts.ProgParts.{ProgParts}
use Rattle.xmp_prog.specs.Fits.{node_count}
use Rattle.xmp_paths.specs.declared.event.Event.{Event}
use Rattle.xmp_paths.specs.declared.event.Event.TheVariants.{Read, Mark}
use Rattle.xmp_paths.specs.NodeSets.{has}
use Rattle.xmp_paths.specs.Plans.{Plan, skip, emit, sequence, branch, loop, Path, Repeated}
use Rattle.xmp_paths.specs.Safe.{left, Safe}
use Rattle.xmp_paths.proofs.PathLaws.{not_empty}
use Rattle.xmp_paths.proofs.SafeLaws.{safe_fewer, safe_paths, safe_front, safe_back, safe_both, safe_read}
use Rattle.xmp_loops.specs.Objects.{scalar_object, all_nodes}
use Rattle.xmp_flow.specs.Setting.{assigned}
use Rattle.xmp_flow.specs.Program.{outermost}
use Rattle.xmp_meaning.specs.declared.ends.Flow.{Flow}
use Rattle.xmp_meaning.specs.declared.ends.Flow.TheVariants.{Next}
use Rattle.xmp_meaning.specs.Runs.{State, RunIn, Run, ◌>>=◌, pure}
use Rattle.xmp_meaning.specs.Blocks.{then_run, choose, turns}
use Rattle.xmp_meaning.specs.Exchanges.{Notes}
use Rattle.xmp_nodes.specs.Nodes.{Nodes}
use Rattle.xmp_nodes.proofs.Agrees.{Anything, IsNext, Ready, AllFollow}
use Rattle.xmp_nodes.proofs.Follow.{way_none}
use Rattle.xmp_nodes.proofs.NodeBits.{all_have}
use Rattle.xmp_nodes.proofs.InStep.{way_first, way_last, way_left, way_right, ready_paths, all_pure, all_on, all_then, all_choose}
use Rattle.xmp_nodes.proofs.MainSteps.{mark_clears}
use Rattle.xmp_nodes.proofs.LoopsInStep.{MarksNothing, ready_idle, turn_plan, one_turn, unrolled, idle_turns}

-- ---- another plan, which is safe where this one is

pub ready_safe : (p : ProgParts) (a b : Plan Event) (s : State Notes) (w : Nodes)
    → ((node : ℕ) → node < node_count p → (stale : ℕ → Bool) → Safe node a stale → Safe node b stale) → Ready p a s w → Ready p b s w
ready_safe p a b s w h r = record {
  many = r.many;
  nodes = λ node n e.
      let x = r.nodes node n e in
      record { stale = x.stale; safe = h node (let i = slice_get_within w.stores node n e in let l = r.many in omega (arith, i, l)) x.stale x.safe; agrees = x.agrees };
  counts = r.counts;
}

abbrev pub SafeToo : ProgParts → (a b : Plan Event) → Type 0
SafeToo p a b = (node : ℕ) → node < node_count p → (stale : ℕ → Bool) (rest : Plan Event) → Safe node (sequence a rest) stale → Safe node (sequence b rest) stale

pub all_safe : {A : Type 0} (p : ProgParts) (V : A → Type 0) (a b : Plan Event) (f : Run Notes A) (g : RunIn Nodes A) → SafeToo p b a
    → AllFollow p V a f g → AllFollow p V b f g
all_safe p V a b f g h c rest s w r =
    c rest s w (ready_safe p (sequence b rest) (sequence a rest) s w (λ node below stale safe. h node below stale rest safe) r)

-- ---- ways

pub way_skip : (a : Plan Event) (way : List Event) → Path a way → Path (sequence a skip) way
way_skip a way w = record { front = way; back = []; whole = sym (append-nil way); in_front = w; in_back = refl }

repeated_ways : (a b : Plan Event) → ((way : List Event) → Path a way → Path b way) → (n : ℕ) (way : List Event) → Repeated (Path a) n way → Repeated (Path b) n way
repeated_ways a b h zero way w = w
repeated_ways a b h (suc n) way w =
    record { front = w.front; back = w.back; whole = w.whole; in_front = h w.front w.in_front; in_back = repeated_ways a b h n w.back w.in_back }

pub way_loop : (a b : Plan Event) → ((way : List Event) → Path a way → Path b way) → (way : List Event) → Path (loop a) way → Path (loop b) way
way_loop a b h way w = (w.0, repeated_ways a b h w.0 way w.1)

-- ---- safe plans

module _ (node : ℕ) where
  either : (a b rest : Plan Event) (stale : ℕ → Bool) → Safe node (sequence a rest) stale → Safe node (sequence b rest) stale → Safe node (sequence (branch a b) rest) stale
  either a b rest stale s t = record {
    never = λ before after object nodes rule at path reads k.
        ⊎_elim
        (λ x. s.never before after object nodes rule at (record { front = path.front; back = path.back; whole = path.whole; in_front = x; in_back = path.in_back }) reads k)
        (λ x. t.never before after object nodes rule at (record { front = path.front; back = path.back; whole = path.whole; in_front = x; in_back = path.in_back }) reads k)
        path.in_front;
  }

  same_bits : (a : Plan Event) (stale more : ℕ → Bool) → ((object : ℕ) → more object ≡ stale object) → Safe node a stale → Safe node a more
  same_bits a stale more h = safe_fewer node a stale more (λ object e. sym (h object) ∙ e)

  right : (a b c : Plan Event) (stale : ℕ → Bool) → Safe node (sequence (sequence a b) c) stale → Safe node (sequence a (sequence b c)) stale
  right a b c stale = safe_paths node (sequence (sequence a b) c) (sequence a (sequence b c)) stale (way_left a b c)

  flat : (a b c : Plan Event) (stale : ℕ → Bool) → Safe node (sequence a (sequence b c)) stale → Safe node (sequence (sequence a b) c) stale
  flat a b c stale = safe_paths node (sequence a (sequence b c)) (sequence (sequence a b) c) stale (way_right a b c)

module _ (p : ProgParts) (slot : ℕ) (at : Place) where
  -- the index is read, and assigned, on all nodes
  abbrev pub look : Plan Event
  look = emit (Read (scalar_object slot) (all_nodes p) 1 at)

  abbrev pub mark : Plan Event
  mark = assigned (outermost p) slot

  abbrev marked : Event
  marked = Mark (scalar_object slot) (all_nodes p) (bit_xor (all_nodes p) (all_nodes p))

  look_idle : MarksNothing look
  look_idle node way w stale object = subst (λ l. left node l stale object ≡ stale object) (sym w) refl

  module _ (node : ℕ) (below : node < node_count p) where
    abbrev Current : (ℕ → Bool) → Type 0
    Current stale = stale (scalar_object slot) ≡ false

    looked : (q : Plan Event) (stale : ℕ → Bool) → Current stale → Safe node q stale → Safe node (sequence look q) stale
    looked q stale c s = safe_both node look q stale
        (record { never = λ before after object nodes rule place path reads k. never_here before after object nodes rule place path reads k })
        (λ way w. same_bits node q stale (left node way stale) (look_idle node way w stale) s)
      where
        never_here : (before after : List Event) (object nodes rule : ℕ) (place : Place) → before ++ Read object nodes rule place ∷ after ≡ Read (scalar_object slot) (all_nodes p) 1 at ∷ []
            → has nodes node ≡ true → left node before stale object ≡ true → ⊥
        never_here [] after object nodes rule place e reads k = true≢false (sym k ∙ (ap stale (ap object_of (first e)) ∙ c))
          where
            first : Read object nodes rule place ∷ after ≡ Read (scalar_object slot) (all_nodes p) 1 at ∷ [] → Read object nodes rule place ≡ Read (scalar_object slot) (all_nodes p) 1 at
            first e = ap (λ l. head_or l) e
              where
                head_or : List Event → Event
                head_or [] = Read object nodes rule place
                head_or (x ∷ xs) = x

            object_of : Event → ℕ
            object_of (Read o n r l) = o
            object_of _ = 0
        never_here (x ∷ before) after object nodes rule place e reads k = not_empty before after (Read object nodes rule place) (ap tail_of e)
          where
            tail_of : List Event → List Event
            tail_of [] = []
            tail_of (x ∷ xs) = xs

    now_current : (q : Plan Event) (stale : ℕ → Bool) → Safe node (sequence look q) stale → Current stale
    now_current q stale s = of_bit (stale (scalar_object slot)) refl
      where
        of_bit : (b : Bool) → stale (scalar_object slot) ≡ b → Current stale
        of_bit true e = absurd (safe_read node (scalar_object slot) (all_nodes p) 1 at stale (safe_front node look q stale s) (all_have p node below) e)
        of_bit false e = e

    behind_look : (q : Plan Event) (stale : ℕ → Bool) → Safe node (sequence look q) stale → Safe node q stale
    behind_look q stale s = safe_back node look q stale s (Read (scalar_object slot) (all_nodes p) 1 at ∷ []) refl

    -- behind the mark the index is current
    behind_mark : (q r : Plan Event) (stale : ℕ → Bool) → Safe node (sequence mark q) stale
        → ((more : ℕ → Bool) → Current more → Safe node q more → Safe node r more) → Safe node (sequence mark r) stale
    behind_mark q r stale s h = safe_both node mark r stale (safe_front node mark q stale s) (λ way w.
        subst (λ l. Safe node r (left node l stale)) (sym w)
        (h (left node (marked ∷ []) stale) (mark_clears p node below slot (stale (scalar_object slot))) (safe_back node mark q stale s (marked ∷ []) refl)))

    -- what marks nothing may be done twice
    twice : (t q r : Plan Event) (stale : ℕ → Bool) → MarksNothing t → Safe node t stale → Safe node q stale → Current stale
        → ((more : ℕ → Bool) → Current more → Safe node q more → Safe node r more) → Safe node (sequence t r) stale
    twice t q r stale idle s k c h = safe_both node t r stale s (λ way w.
        h (left node way stale) (idle node way w stale (scalar_object slot) ∙ c) (same_bits node q stale (left node way stale) (idle node way w stale) k))

  module _ (f t b : Plan Event) (f_idle : MarksNothing f) (t_idle : MarksNothing t)
      (kept : (node : ℕ) → node < node_count p → (way : List Event) → Path b way → (stale : ℕ → Bool) → stale (scalar_object slot) ≡ false → left node way stale (scalar_object slot) ≡ false) where
    -- the plan of the turns, and with the index read where it is
    abbrev pub loop_plan : Plan Event
    loop_plan = turn_plan p t (sequence b mark)

    abbrev looking : Plan Event
    looking = sequence (sequence look t) (branch (sequence (sequence b (sequence look mark)) (sequence look loop_plan)) skip)

    safe_turn : SafeToo p (sequence look loop_plan) looking
    safe_turn node below stale rest s =
        let first : Safe node (sequence look (sequence loop_plan rest)) stale = right node look loop_plan rest stale s in
        let current : Current node below stale = now_current node below (sequence loop_plan rest) stale first in
        let unfolded : Safe node (sequence (one_turn p t (sequence b mark)) rest) stale =
        safe_paths node (sequence loop_plan rest) (sequence (one_turn p t (sequence b mark)) rest) stale
        (way_first (one_turn p t (sequence b mark)) loop_plan rest (unrolled p t (sequence b mark))) (behind_look node below (sequence loop_plan rest) stale first) in
        let apart : Safe node (sequence t (sequence (branch (sequence (sequence b mark) loop_plan) skip) rest)) stale =
        right node t (branch (sequence (sequence b mark) loop_plan) skip) rest stale unfolded in
        flat node (sequence look t) (branch (sequence (sequence b (sequence look mark)) (sequence look loop_plan)) skip) rest stale
        (flat node look t (sequence (branch (sequence (sequence b (sequence look mark)) (sequence look loop_plan)) skip) rest) stale
        (looked node below (sequence t (sequence (branch (sequence (sequence b (sequence look mark)) (sequence look loop_plan)) skip) rest)) stale current
        (safe_both node t (sequence (branch (sequence (sequence b (sequence look mark)) (sequence look loop_plan)) skip) rest) stale
        (safe_front node t (sequence (branch (sequence (sequence b mark) loop_plan) skip) rest) stale apart)
        (λ way w. in_turn (left node way stale) (t_idle node way w stale (scalar_object slot) ∙ current)
        (safe_back node t (sequence (branch (sequence (sequence b mark) loop_plan) skip) rest) stale apart way w)))))
      where
        with_body : (more : ℕ → Bool) → more (scalar_object slot) ≡ false → Safe node (sequence (sequence (sequence b mark) loop_plan) rest) more
            → Safe node (sequence (sequence (sequence b (sequence look mark)) (sequence look loop_plan)) rest) more
        with_body more c h =
            let body : Safe node (sequence b (sequence mark (sequence loop_plan rest))) more = right node b mark (sequence loop_plan rest) more (right node (sequence b mark) loop_plan rest more h) in
            flat node (sequence b (sequence look mark)) (sequence look loop_plan) rest more
            (flat node b (sequence look mark) (sequence (sequence look loop_plan) rest) more
            (safe_both node b (sequence (sequence look mark) (sequence (sequence look loop_plan) rest)) more (safe_front node b (sequence mark (sequence loop_plan rest)) more body)
            (λ way w.
            let after : Safe node (sequence mark (sequence loop_plan rest)) (left node way more) = safe_back node b (sequence mark (sequence loop_plan rest)) more body way w in
            flat node look mark (sequence (sequence look loop_plan) rest) (left node way more)
            (looked node below (sequence mark (sequence (sequence look loop_plan) rest)) (left node way more) (kept node below way w more c)
            (behind_mark node below (sequence loop_plan rest) (sequence (sequence look loop_plan) rest) (left node way more) after
            (λ then d k. flat node look loop_plan rest then (looked node below (sequence loop_plan rest) then d k)))))))

        in_turn : (more : ℕ → Bool) → more (scalar_object slot) ≡ false → Safe node (sequence (branch (sequence (sequence b mark) loop_plan) skip) rest) more
            → Safe node (sequence (branch (sequence (sequence b (sequence look mark)) (sequence look loop_plan)) skip) rest) more
        in_turn more c h = either node (sequence (sequence b (sequence look mark)) (sequence look loop_plan)) skip rest more
            (with_body more c (safe_paths node (sequence (branch (sequence (sequence b mark) loop_plan) skip) rest) (sequence (sequence (sequence b mark) loop_plan) rest) more
            (way_first (sequence (sequence b mark) loop_plan) (branch (sequence (sequence b mark) loop_plan) skip) rest (λ way w. inl w)) h))
            (safe_paths node (sequence (branch (sequence (sequence b mark) loop_plan) skip) rest) (sequence skip rest) more
            (way_first skip (branch (sequence (sequence b mark) loop_plan) skip) rest (λ way w. inr w)) h)

    -- the turns of all nodes
    counted_turns : (test : Run Notes Bool) (test' : RunIn Nodes Bool) (body up : Run Notes Flow) (body' up' : RunIn Nodes Flow)
        → AllFollow p Anything (sequence look t) test test' → AllFollow p IsNext b body body' → AllFollow p IsNext (sequence look mark) up up'
        → (n : ℕ) → AllFollow p IsNext (sequence look loop_plan) (turns n test (then_run body up)) (turns n test' (then_run body' up'))
    counted_turns test test' body up body' up' c d e zero = λ rest s w r. record {
      same = refl;
      value = refl;
      ready = idle_turns p t (sequence b mark) t_idle rest s w
          (ready_idle p look (sequence loop_plan rest) s w look_idle (ready_paths p (sequence (sequence look loop_plan) rest) (sequence look (sequence loop_plan rest)) s w (way_left look loop_plan rest) r));
    }
    counted_turns test test' body up body' up' c d e (suc n) =
        all_safe p IsNext looking (sequence look loop_plan) (turns (suc n) test (then_run body up)) (turns (suc n) test' (then_run body' up')) safe_turn
        (all_on p Anything IsNext (sequence look t) (branch (sequence (sequence b (sequence look mark)) (sequence look loop_plan)) skip) test test'
        (λ more. choose more (then_run (then_run body up) (turns n test (then_run body up))) (pure Next)) (λ more. choose more (then_run (then_run body' up') (turns n test' (then_run body' up'))) (pure Next)) c
        (λ more v. all_choose p IsNext (sequence (sequence b (sequence look mark)) (sequence look loop_plan)) skip
        (then_run (then_run body up) (turns n test (then_run body up))) (pure Next) (then_run (then_run body' up') (turns n test' (then_run body' up'))) (pure Next) more
        (all_then p IsNext (sequence b (sequence look mark)) (sequence look loop_plan) (then_run body up) (turns n test (then_run body up)) (then_run body' up') (turns n test' (then_run body' up'))
        (all_then p IsNext b (sequence look mark) body up body' up' d e) (counted_turns test test' body up body' up' c d e n))
        (all_pure p IsNext Next refl)))

    -- the entry evaluates the bound once more than the plan has it
    abbrev pub counted_plan : Plan Event
    counted_plan = sequence f (sequence mark loop_plan)

    safe_entry : SafeToo p counted_plan (sequence (sequence f (sequence mark t)) (sequence look loop_plan))
    safe_entry node below stale rest s =
        let first : Safe node (sequence f (sequence mark (sequence loop_plan rest))) stale =
        safe_paths node (sequence f (sequence (sequence mark loop_plan) rest)) (sequence f (sequence mark (sequence loop_plan rest))) stale
        (way_last f (sequence mark (sequence loop_plan rest)) (sequence (sequence mark loop_plan) rest) (way_right' mark loop_plan rest)) (right node f (sequence mark loop_plan) rest stale s) in
        flat node (sequence f (sequence mark t)) (sequence look loop_plan) rest stale
        (flat node f (sequence mark t) (sequence (sequence look loop_plan) rest) stale
        (safe_both node f (sequence (sequence mark t) (sequence (sequence look loop_plan) rest)) stale (safe_front node f (sequence mark (sequence loop_plan rest)) stale first)
        (λ way w. flat node mark t (sequence (sequence look loop_plan) rest) (left node way stale)
        (behind_mark node below (sequence loop_plan rest) (sequence t (sequence (sequence look loop_plan) rest)) (left node way stale)
        (safe_back node f (sequence mark (sequence loop_plan rest)) stale first way w)
        (λ more c k. twice node below t (sequence loop_plan rest) (sequence (sequence look loop_plan) rest) more t_idle (bound_safe more k) k c
        (λ then d l. flat node look loop_plan rest then (looked node below (sequence loop_plan rest) then d l)))))))
      where
        way_right' : (x y z : Plan Event) (way : List Event) → Path (sequence x (sequence y z)) way → Path (sequence (sequence x y) z) way
        way_right' = way_left

        bound_safe : (more : ℕ → Bool) → Safe node (sequence loop_plan rest) more → Safe node t more
        bound_safe more k = safe_paths node loop_plan t more (λ way w. record { front = []; back = way; whole = refl; in_front = way_none (sequence t (sequence b mark)); in_back = w })
            (safe_front node loop_plan rest more k)

    pub all_counted : (enter : Run Notes ℕ) (enter' : RunIn Nodes ℕ) (test : Run Notes Bool) (test' : RunIn Nodes Bool) (body up : Run Notes Flow) (body' up' : RunIn Nodes Flow)
        → AllFollow p Anything (sequence f (sequence mark t)) enter enter'
        → AllFollow p Anything (sequence look t) test test' → AllFollow p IsNext b body body' → AllFollow p IsNext (sequence look mark) up up'
        → AllFollow p IsNext counted_plan (enter >>= (λ n. turns n test (then_run body up))) (enter' >>= (λ n. turns n test' (then_run body' up')))
    all_counted enter enter' test test' body up body' up' c d e g =
        all_safe p IsNext (sequence (sequence f (sequence mark t)) (sequence look loop_plan)) counted_plan
        (enter >>= (λ n. turns n test (then_run body up))) (enter' >>= (λ n. turns n test' (then_run body' up'))) safe_entry
        (all_on p Anything IsNext (sequence f (sequence mark t)) (sequence look loop_plan) enter enter' (λ n. turns n test (then_run body up)) (λ n. turns n test' (then_run body' up')) c
        (λ n v. counted_turns test test' body up body' up' d e g n))
