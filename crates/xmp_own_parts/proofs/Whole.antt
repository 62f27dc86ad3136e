-- A loop directive at all nodes, from what each step of it leaves.
use Rattle.std.proofs.Common.{◌≡◌, ◌+◌, ℕ, suc, zero, List, [], ◌∷◌, length, map, Result, refl, subst, ap, ◌∙◌, arith}
use Rattle.std.specs.Prelude.{slice_get, unwrap_or}
use Rattle.xmp_prog.specs.declared.parts.ProgParts.{ProgParts}
use Rattle.xmp_prog.specs.declared.statements.LoopDirective.{LoopDirective}
use Rattle.xmp_prog.specs.declared.statements.Reduction.{Reduction}
use Rattle.xmp_meaning.specs.declared.ends.Flow.{Flow}
use Rattle.xmp_meaning.specs.declared.ends.Flow.TheVariants.{Next}
use Rattle.xmp_meaning.specs.declared.ends.Halt.{Halt}
use Rattle.xmp_meaning.specs.Runs.{State, Step, Run, Does, state_of}
use Rattle.xmp_meaning.specs.Exchanges.{PartEnd, LoopEnd, part_end}
use Rattle.xmp_meaning.specs.LoopEnds.{all_joined, no_turn, closed}
use Rattle.xmp_meaning.specs.Messages.{message}
use Rattle.xmp_nodes.specs.Nodes.{Nodes, bounded, each_does, with_steps, all_do, raised_by, saying}
use Rattle.xmp_nodes.specs.Parts.{own_tuples, own_part, all_parts, ends_of, own_turns, loop_all}
use Rattle.xmp_stores.specs.Each.{each_by}

each_same : {A : Type 0} (at : ℕ) (xs : List A) → each_by (λ k (x : A). x) at xs ≡ xs
each_same at [] = refl
each_same at (x ∷ xs) = ap (λ ys. x ∷ ys) (each_same (suc at) xs)

each_mapped : {A B : Type 0} (f : Step (Unit {0}) A → B) (run : ℕ → Run (Unit {0}) A) (at : ℕ) (ss : List (State (Unit {0})))
    → each_by (λ k s. f (run k s)) at ss ≡ map f (each_does run at ss)
each_mapped f run at [] = refl
each_mapped f run at (s ∷ ss) = ap (λ ys. f (run at s) ∷ ys) (each_mapped f run (suc at) ss)

-- ---- turns that are counted up to the greatest number

bounded_twice : (n m : ℕ) → bounded (n + bounded m) ≡ bounded (n + m)
bounded_twice n m = omega arith

module _ (p : ProgParts) (d : LoopDirective) where
  turn_at : (at k : ℕ) (ss : List (State (Unit {0})))
      → unwrap_or (slice_get (each_by (λ node s. bounded (length (own_tuples p d node s))) at ss) k) 0 ≡ bounded (unwrap_or (slice_get (own_turns p d at ss) k) 0)
  turn_at at k [] = refl
  turn_at at zero (s ∷ ss) = refl
  turn_at at (suc k) (s ∷ ss) = turn_at (suc at) k ss

  raised_same : (f g : ℕ → ℕ) (at : ℕ) (ns : List ℕ) → ((k : ℕ) → f k ≡ bounded (g k)) → raised_by f at ns ≡ raised_by g at ns
  raised_same f g at [] h = refl
  raised_same f g at (n ∷ ns) h =
      ap (λ m. bounded (n + m) ∷ raised_by f (suc at) ns) (h at) ∙ ap (λ m. m ∷ raised_by f (suc at) ns) (bounded_twice n (g at))
      ∙ ap (λ ms. bounded (n + g at) ∷ ms) (raised_same f g (suc at) ns h)

  -- the steps of a loop directive, one after the other
  module _ (body : ℕ → Run (Unit {0}) Flow) (w : Nodes) where
    part : ℕ → Run (Unit {0}) Flow
    part node = own_part p d body node

    counted : Nodes
    counted = record w { turns = raised_by (λ node. unwrap_or (slice_get (own_turns p d 0 w.stores) node) 0) 0 w.turns }

    pub looped : (w1 w2 w3 w4 : Nodes) (turns : List ℕ) (ends : List PartEnd) (rs : List Reduction) (end : PartEnd) (r : Result Flow Halt) (new : Nodes)
        → turns ≡ each_by (λ node s. bounded (length (own_tuples p d node s))) 0 w.stores
        → w1 ≡ record w { stores = each_by (λ node s. s) 0 w.stores }
        → ends ≡ each_by (λ node s. part_end d (own_part p d body node s)) 0 w1.stores
        → w2 ≡ record w1 { stores = each_by (λ node s. state_of (own_part p d body node s)) 0 w1.stores }
        → w3 ≡ record w2 { turns = raised_by (λ node. unwrap_or (slice_get turns node) 0) 0 w2.turns }
        → w4 ≡ saying (λ from to. message p (LoopEnd d ends) from to) w3
        → rs ≡ d.reductions → end ≡ all_joined p d.reductions (no_turn p d.reductions) ends
        → Does (all_do Next (λ node. closed rs end) w4) r new
        → Does (loop_all p d body w) r new
    looped w1 w2 w3 w4 turns ends rs end r new turns_are same ends_are left raised said rs_are joined does =
        subst P (rs_is ∙ end_is) (subst Q w4_is does)
      where
        w1_is : w1 ≡ w
        w1_is = same ∙ ap (λ ss. record w { stores = ss }) (each_same 0 w.stores)

        ends_is : ends ≡ ends_of p d body w
        ends_is = ends_are ∙ ap (λ (x : Nodes). each_by (λ node s. part_end d (own_part p d body node s)) 0 x.stores) w1_is ∙ each_mapped (part_end d) (λ node. own_part p d body node) 0 w.stores

        w2_is : w2 ≡ with_steps (all_parts p d body w) w
        w2_is = left ∙ ap (λ (x : Nodes). record x { stores = each_by (λ node s. state_of (own_part p d body node s)) 0 x.stores }) w1_is
            ∙ ap (λ ss. record w { stores = ss }) (each_mapped state_of (λ node. own_part p d body node) 0 w.stores)

        turns_is : raised_by (λ node. unwrap_or (slice_get turns node) 0) 0 w.turns ≡ raised_by (λ node. unwrap_or (slice_get (own_turns p d 0 w.stores) node) 0) 0 w.turns
        turns_is = raised_same (λ node. unwrap_or (slice_get turns node) 0) (λ node. unwrap_or (slice_get (own_turns p d 0 w.stores) node) 0) 0 w.turns
            (λ k. ap (λ ts. unwrap_or (slice_get ts k) 0) turns_are ∙ turn_at 0 k w.stores)

        w3_is : w3 ≡ with_steps (all_parts p d body w) (record w { turns = raised_by (λ node. unwrap_or (slice_get (own_turns p d 0 w.stores) node) 0) 0 w.turns })
        w3_is = raised ∙ ap (λ (x : Nodes). record x { turns = raised_by (λ node. unwrap_or (slice_get turns node) 0) 0 x.turns }) w2_is
            ∙ ap (λ ts. record w { stores = map state_of (all_parts p d body w); turns = ts }) turns_is

        w4_is : w4 ≡ saying (message p (LoopEnd d (ends_of p d body w)))
            (with_steps (all_parts p d body w) (record w { turns = raised_by (λ node. unwrap_or (slice_get (own_turns p d 0 w.stores) node) 0) 0 w.turns }))
        w4_is = said ∙ ap (λ es. saying (λ from to. message p (LoopEnd d es) from to) w3) ends_is ∙ ap (saying (message p (LoopEnd d (ends_of p d body w)))) w3_is

        Q : Nodes → Type 0
        Q x = Does (all_do Next (λ node. closed rs end) x) r new

        P : (Run (Unit {0}) Flow) → Type 0
        P f = Does (all_do Next (λ node. f) (saying (message p (LoopEnd d (ends_of p d body w)))
            (with_steps (all_parts p d body w) (record w { turns = raised_by (λ node. unwrap_or (slice_get (own_turns p d 0 w.stores) node) 0) 0 w.turns })))) r new

        rs_is : closed {X = Unit {0}} rs end ≡ closed d.reductions end
        rs_is = ap (λ x. closed x end) rs_are

        end_is : closed {X = Unit {0}} d.reductions end ≡ closed d.reductions (all_joined p d.reductions (no_turn p d.reductions) (ends_of p d body w))
        end_is = ap (closed d.reductions) (joined ∙ ap (all_joined p d.reductions (no_turn p d.reductions)) ends_is)
