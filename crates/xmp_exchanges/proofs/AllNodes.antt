-- What all nodes do, each by itself: two ways that are the same at each node, and a value that another is made of.
use Rattle.std.proofs.Common.{◌≡◌, ◌<◌, ◌+◌, ◌∙◌, ℕ, suc, List, [], ◌∷◌, length, map, Some, refl, sym, ap, subst, arith, zero-add}
use Rattle.std.specs.Prelude.{slice_get}
use Rattle.xmp_meaning.specs.Runs.{StepIn, Step, Gave, Ended, Run, and_then, state_of}
use Rattle.xmp_nodes.specs.Nodes.{Nodes, each_does, led, with_steps, all_do}
use Rattle.xmp_nodes.proofs.Each.{Alone}

each_same : {A : Type 0} (f g : ℕ → Run (Unit {0}) A) (node : ℕ) (ss : List Alone)
    → ((j : ℕ) (s : Alone) → slice_get ss j ≡ Some s → f (node + j) s ≡ g (node + j) s) → each_does f node ss ≡ each_does g node ss
each_same f g node [] h = refl
each_same f g node (s ∷ ss) h =
    let z : node + 0 ≡ node = omega arith in
    let here : f node s ≡ g node s = subst (λ k. f k s ≡ g k s) z (h 0 s refl) in
    let rest = each_same f g (suc node) ss (λ j t e. let m : node + suc j ≡ suc node + j = omega arith in subst (λ k. f k t ≡ g k t) m (h (suc j) t e)) in
    λ i. here i ∷ rest i

pub all_same : {A : Type 0} (none : A) (f g : ℕ → Run (Unit {0}) A) (w : Nodes)
    → ((j : ℕ) (s : Alone) → slice_get w.stores j ≡ Some s → f j s ≡ g j s) → all_do none f w ≡ all_do none g w
all_same none f g w h =
    ap (λ steps. led none steps (with_steps steps w))
    (each_same f g 0 w.stores (λ j s e. subst (λ k. f k s ≡ g k s) (sym (zero-add j)) (h j s e)))

-- ---- a value that another is made of

module _ {A B : Type 0} (h : A → B) where
  abbrev pub made : {S : Type 0} → StepIn S A → StepIn S B
  made r = and_then r (λ a s. Gave (h a) s)

  same_state : (r : Step (Unit {0}) A) → state_of (made r) ≡ state_of r
  same_state (Gave a s) = refl
  same_state (Ended e s) = refl

  module _ (f : ℕ → Run (Unit {0}) A) (g : ℕ → Run (Unit {0}) B) (same : (k : ℕ) (s : Alone) → g k s ≡ made (f k s)) where
    same_states : (node : ℕ) (ss : List Alone) → map state_of (each_does g node ss) ≡ map state_of (each_does f node ss)
    same_states node [] = refl
    same_states node (s ∷ ss) =
        let here : state_of (g node s) ≡ state_of (f node s) = ap state_of (same node s) ∙ same_state (f node s) in
        let rest = same_states (suc node) ss in
        λ i. here i ∷ rest i

    led_made : (none : A) (other : B) (r : Step (Unit {0}) A) (rest : List (Step (Unit {0}) A)) (more : List (Step (Unit {0}) B)) (w : Nodes)
        → led other (made r ∷ more) w ≡ made (led none (r ∷ rest) w)
    led_made none other (Gave a s) rest more w = refl
    led_made none other (Ended e s) rest more w = refl

    pub all_made : (none : A) (other : B) (w : Nodes) → 0 < length w.stores → all_do other g w ≡ made (all_do none f w)
    all_made none other w some = at_stores w.stores some
      where
        at_stores : (ss : List Alone) → 0 < length ss
            → led other (each_does g 0 ss) (record w { stores = map state_of (each_does g 0 ss) }) ≡ made (led none (each_does f 0 ss) (record w { stores = map state_of (each_does f 0 ss) }))
        at_stores [] l = absurd (omega (arith, l))
        at_stores (s ∷ ss) l =
            let states = same_states 0 (s ∷ ss) in
            ap (λ r. led other (r ∷ each_does g 1 ss) (record w { stores = map state_of (each_does g 0 (s ∷ ss)) })) (same 0 s)
            ∙ ap (λ l. led other (made (f 0 s) ∷ each_does g 1 ss) (record w { stores = l })) states
            ∙ led_made none other (f 0 s) (each_does f 1 ss) (each_does g 1 ss) (record w { stores = map state_of (each_does f 0 (s ∷ ss)) })
