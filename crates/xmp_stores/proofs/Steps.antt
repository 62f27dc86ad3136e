-- What steps of all nodes leave.
use Rattle.std.proofs.Common.{◌≡◌, ℕ, suc, ◌+◌, arith, List, [], ◌∷◌, ◌++◌, map, ap, ap₂, sym, ◌∙◌, refl}
use Rattle.std.specs.Prelude.{Result, Ok, Err}
use Rattle.xmp_meaning.specs.declared.ends.Halt.{Halt}
use Rattle.xmp_meaning.specs.declared.ends.Halt.TheVariants as halt
use Rattle.xmp_meaning.specs.Runs.{State, Run, Gave, Ended, Does, state_of}
use Rattle.xmp_nodes.specs.Nodes.{Nodes, each_does, led, with_steps, all_do}
use Rattle.xmp_stores.specs.Each.{each_by}

-- each node's state behind its step
pub steps_leave : {A : Type 0} → (run : ℕ → Run (Unit {0}) A) (node : ℕ) (ss : List (State (Unit {0})))
    → each_by (λ k s. state_of (run k s)) node ss ≡ map state_of (each_does run node ss)
steps_leave run node [] = refl
steps_leave run node (s ∷ ss) = ap (λ rest. state_of (run node s) ∷ rest) (steps_leave run (suc node) ss)

-- one more behind others
pub one_more : {A : Type 0} → (xs : List A) (b : A) (cs : List A) → (xs ++ b ∷ []) ++ cs ≡ xs ++ b ∷ cs
one_more [] b cs = refl
one_more (a ∷ xs) b cs = ap (λ rest. a ∷ rest) (one_more xs b cs)

-- the next number
pub plus_one : (n : ℕ) → n + 1 ≡ suc n
plus_one n = omega arith

-- one, and then the others
pub each_first : {A B : Type 0} (f : ℕ → A → B) (node : ℕ) {a : A} {rest all : List A} {b : B} {more : List B}
    → all ≡ a ∷ rest → b ≡ f node a → more ≡ each_by f (node + 1) rest → b ∷ more ≡ each_by f node all
each_first f node {rest = rest} whole first others =
    ap₂ (λ x y. x ∷ y) first (others ∙ ap (λ n. each_by f n rest) (plus_one node)) ∙ sym (ap (each_by f node) whole)

-- the same behind others
pub behind_first : {A B : Type 0} (f : ℕ → A → B) (node : ℕ) (old : List B) {a : A} {rest all : List A} {b : B} {mid new : List B}
    → all ≡ a ∷ rest → b ≡ f node a → mid ≡ old ++ b ∷ [] → new ≡ mid ++ each_by f (node + 1) rest → new ≡ old ++ each_by f node all
behind_first f node old {rest = rest} {mid = mid} whole first added others =
    others ∙ ap (λ n. mid ++ each_by f n rest) (plus_one node) ∙ ap (λ xs. xs ++ each_by f (suc node) rest) added ∙ one_more old _ _
    ∙ ap (λ b. old ++ b ∷ each_by f (suc node) rest) first ∙ sym (ap (λ xs. old ++ each_by f node xs) whole)

-- the first, and then the others
pub first_does : {A : Type 0} (none : A) (run : ℕ → Run (Unit {0}) A) (w : Nodes) (answer : Result A Halt) (s' : State (Unit {0}))
    {ss rest more : List (State (Unit {0}))} {s : State (Unit {0})}
    → w.stores ≡ ss → ss ≡ s ∷ rest → Does (run 0 s) answer s' → more ≡ each_by (λ k s. state_of (run k s)) 1 rest
    → Does (all_do none run w) answer (record w { stores = s' ∷ more })
first_does none run w (Ok a) s' {rest = rest} same whole first others =
    ap (λ xs. led none (each_does run 0 xs) (with_steps (each_does run 0 xs) w)) (same ∙ whole)
    ∙ ap (λ x. led none (x ∷ each_does run 1 rest) (with_steps (x ∷ each_does run 1 rest) w)) first
    ∙ ap (λ more. Gave a (record w { stores = s' ∷ more })) (sym (others ∙ steps_leave run 1 rest))
first_does none run w (Err (halt.End e)) s' {rest = rest} same whole first others =
    ap (λ xs. led none (each_does run 0 xs) (with_steps (each_does run 0 xs) w)) (same ∙ whole)
    ∙ ap (λ x. led none (x ∷ each_does run 1 rest) (with_steps (x ∷ each_does run 1 rest) w)) first
    ∙ ap (λ more. Ended e (record w { stores = s' ∷ more })) (sym (others ∙ steps_leave run 1 rest))
first_does none run w (Err halt.NoMemory) s' same whole first others = tt
