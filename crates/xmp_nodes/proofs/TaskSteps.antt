-- The tasks of a node: it runs those of which it is a member, and nothing of the others.
use Rattle.std.proofs.Common.{◌≡◌, ◌<◌, inl, inr, ◌&&◌, ℕ, Bool, true, false, List, [], ◌∷◌, map, refl, sym, ap, ◌∙◌}
use Rattle.std.specs.List.{AllByRecursion, list_all}
use Rattle.xmp_map.specs.declared.grid.NodeSet.{NodeSet}
use Rattle.xmp_prog.specs.declared.parts.ProgParts.{ProgParts}
use Rattle.xmp_prog.specs.declared.statements.Task.{Task}
use Rattle.xmp_prog.specs.Fits.{node_count}
use Rattle.xmp_prog.specs.Numbers.{pairwise}
use Rattle.xmp_prog.specs.NodeSets.{is_node_set, has_node, sets_apart}
use Rattle.xmp_meaning.specs.declared.ends.Flow.{Flow}
use Rattle.xmp_meaning.specs.declared.ends.Flow.TheVariants.{Next, Returned}
use Rattle.xmp_meaning.specs.Runs.{Step, Gave, Ended, Run, and_then}
use Rattle.xmp_meaning.specs.Blocks.{after, choose}
use Rattle.xmp_meaning.specs.TaskEnds.{own_tasks}
use Rattle.xmp_move.specs.Stores.{IsIn}
use Rattle.xmp_nodes.specs.Tasks.{task_at}
use Rattle.xmp_nodes.specs.Lockstep.{lockstep}
use Rattle.xmp_nodes.proofs.Leaves.{node_task}
use Rattle.xmp_nodes.proofs.Each.{Alone}
use Rattle.xmp_nodes.proofs.NodeBits.{apart_sets}

-- whether a node is a member of a task
abbrev pub is_member : ProgParts → (node : ℕ) → Task → Bool
is_member p node t = has_node p.grid t.nodes node

-- what a node does of a task alone
abbrev pub alone_in : ProgParts → (input : List ℕ) → Task → (node : ℕ) → Run (Unit {0}) Flow
alone_in p input t node = (lockstep p input t.body).at node

-- and of all tasks
abbrev pub own_run : ProgParts → (input : List ℕ) → (node : ℕ) → List Task → Run (Unit {0}) Flow
own_run p input node ts = own_tasks p node (map (task_at node) (map (node_task p input) ts))

-- no node is a member of two
abbrev pub AreApart : ProgParts → List Task → Type 0
AreApart p [] = Unit {0}
AreApart p (t ∷ ts) = AllByRecursion (λ u. sets_apart p.grid t.nodes u.nodes ≡ true) ts × AreApart p ts

and_both : (a b : Bool) → (a && b) ≡ true → (a ≡ true) × (b ≡ true)
and_both true b e = (refl, e)
and_both false b e = cc

apart_all : (p : ProgParts) (set : NodeSet) (ts : List Task) → list_all (sets_apart p.grid set) (map (λ t. t.nodes) ts) ≡ true → AllByRecursion (λ u. sets_apart p.grid set u.nodes ≡ true) ts
apart_all p set [] e = tt
apart_all p set (t ∷ ts) e = let b = and_both (sets_apart p.grid set t.nodes) (list_all (sets_apart p.grid set) (map (λ t. t.nodes) ts)) e in (b.0, apart_all p set ts b.1)

pub are_apart : (p : ProgParts) (ts : List Task) → pairwise (sets_apart p.grid) (map (λ t. t.nodes) ts) ≡ true → AreApart p ts
are_apart p [] e = tt
are_apart p (t ∷ ts) e =
    let b = and_both (list_all (sets_apart p.grid t.nodes) (map (λ t. t.nodes) ts)) (pairwise (sets_apart p.grid) (map (λ t. t.nodes) ts)) e in
    (apart_all p t.nodes ts b.0, are_apart p ts b.1)

pub are_sets : (p : ProgParts) (ts : List Task) → list_all (is_node_set p.grid) (map (λ t. t.nodes) ts) ≡ true → AllByRecursion (λ t. is_node_set p.grid t.nodes ≡ true) ts
are_sets p [] e = tt
are_sets p (t ∷ ts) e = let b = and_both (is_node_set p.grid t.nodes) (list_all (is_node_set p.grid) (map (λ t. t.nodes) ts)) e in (b.0, are_sets p ts b.1)

-- a member of one is a member of no other
pub no_other : (p : ProgParts) (k : ℕ) → k < node_count p → (t : Task) (ts : List Task) → AllByRecursion (λ u. sets_apart p.grid t.nodes u.nodes ≡ true) ts
    → is_member p k t ≡ true → AllByRecursion (λ u. is_member p k u ≡ false) ts
no_other p k lt t [] h m = tt
no_other p k lt t (u ∷ ts) h m = (apart_sets p t.nodes u.nodes k h.0 lt m, no_other p k lt t ts h.1 m)

pub none_in : (p : ProgParts) (k : ℕ) (ts : List Task) → AllByRecursion (λ u. is_member p k u ≡ false) ts → (t : Task) → IsIn t ts → is_member p k t ≡ false
unfolding IsIn
none_in p k [] h t i = absurd i
none_in p k (u ∷ ts) h t (inl e) = ap (is_member p k) e ∙ h.0
none_in p k (u ∷ ts) h t (inr i) = none_in p k ts h.1 t i

-- ---- steps

module _ (p : ProgParts) (input : List ℕ) (k : ℕ) where
  -- without a task of its own a node does nothing
  pub own_of_none : (ts : List Task) → AllByRecursion (λ u. is_member p k u ≡ false) ts → (n : Alone) → own_run p input k ts n ≡ Gave Next n
  own_of_none [] h n = refl
  own_of_none (t ∷ ts) h n =
      ap (λ b. and_then (choose b (alone_in p input t k) (λ s. Gave Next s) n) (λ flow. after flow (own_run p input k ts))) h.0
      ∙ own_of_none ts h.1 n

  behind_one : (r : Step (Unit {0}) Flow) (q : Run (Unit {0}) Flow) → ((n : Alone) → q n ≡ Gave Next n) → and_then r (λ flow. after flow q) ≡ r
  behind_one (Gave Next m) q h = h m
  behind_one (Gave (Returned v) m) q h = refl
  behind_one (Ended e m) q h = refl

  no_both : (b : Bool) → b ≡ true → b ≡ false → ⊥
  no_both true e f = cc
  no_both false e f = cc

  -- a member of a task does it alone
  pub own_of_member : k < node_count p → (ts : List Task) → AreApart p ts → (t : Task) → IsIn t ts → is_member p k t ≡ true → (n : Alone)
      → own_run p input k ts n ≡ alone_in p input t k n
  unfolding IsIn
  own_of_member lt [] apart t i m n = absurd i
  own_of_member lt (u ∷ ts) apart t (inl e) m n =
      let mu : is_member p k u ≡ true = ap (is_member p k) (sym e) ∙ m in
      ap (λ b. and_then (choose b (alone_in p input u k) (λ s. Gave Next s) n) (λ flow. after flow (own_run p input k ts))) mu
      ∙ behind_one (alone_in p input u k n) (own_run p input k ts) (own_of_none ts (no_other p k lt u ts apart.0 mu))
      ∙ ap (λ v. alone_in p input v k n) (sym e)
  own_of_member lt (u ∷ ts) apart t (inr i) m n =
      ap (λ b. and_then (choose b (alone_in p input u k) (λ s. Gave Next s) n) (λ flow. after flow (own_run p input k ts)))
      (other (is_member p k u) (λ mu. no_both (is_member p k t) m (none_in p k ts (no_other p k lt u ts apart.0 mu) t i)))
      ∙ own_of_member lt ts apart.1 t i m n
    where
      other : (b : Bool) → (b ≡ true → ⊥) → b ≡ false
      other true h = absurd (h refl)
      other false h = refl
