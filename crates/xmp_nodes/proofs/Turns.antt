-- The parts of a loop side by side: each turn is the turn of the node that owns its tuple, in the order of the serial loop.
use Rattle.std.proofs.Common.{◌≡◌, ◌≢◌, ◌<◌, ◌==◌, if◌then◌else◌, ℕ, ℤ, pos, Bool, true, false, true≢false, List, [], ◌∷◌, length, map, Some, refl, sym, subst, ap, ◌∙◌, arith, eq-eqb, eqb-true, ne_eqb}
use Rattle.std.specs.Prelude.{slice_get, slice_set, unwrap_or, is_some, cond}
use Rattle.std.specs.List.{AllByRecursion, list_all, filter}
use Rattle.std.proofs.lemmas.List.{length-set}
use Rattle.xmp_map.proofs.Counted.{and_left, and_right}
use Rattle.xmp_prog.specs.Numbers.{pairwise}
use Rattle.xmp_meaning.specs.declared.ends.End.{End}
use Rattle.xmp_meaning.specs.declared.ends.Flow.{Flow}
use Rattle.xmp_meaning.specs.declared.ends.Flow.TheVariants.{Next, Returned}
use Rattle.xmp_meaning.specs.Runs.{State, Step, Gave, Ended, Run, and_then, state_of}
use Rattle.xmp_meaning.specs.Blocks.{after}
use Rattle.xmp_meaning.specs.LoopEnds.{comes_before}
use Rattle.xmp_meaning.specs.Exchanges.{Notes, values_of}
use Rattle.xmp_meaning_laws.specs.Tuples.{set_where, at_tuple, for_each}
use Rattle.xmp_meaning_laws.proofs.Named.{all_of_test}
use Rattle.xmp_meaning_laws.proofs.Nests.{Exists, some_by_length, exist_by_length}
use Rattle.xmp_meaning_laws.proofs.CountedLoops.{set_there}
use Rattle.xmp_meaning_laws.proofs.Settings.{Apart, where_other, where_length, fresh_flipped}
use Rattle.xmp_meaning_laws.proofs.Folds.{Full}

-- ---- the indices of a state at a tuple

-- the values at some places of a list
abbrev pub values_in : List ℤ → List ℕ → List ℤ
values_in xs slots = map (λ slot. unwrap_or (slice_get xs slot) (pos 0)) slots

abbrev pub ThereIn : List ℤ → List ℕ → Type 0
ThereIn xs slots = AllByRecursion (λ i. is_some (slice_get xs i) ≡ true) slots

pub there_set : (xs : List ℤ) (i : ℕ) (v : ℤ) (slots : List ℕ) → ThereIn xs slots → ThereIn (slice_set xs i v) slots
there_set xs i v [] h = tt
there_set xs i v (j ∷ slots) h = (some_by_length xs (slice_set xs i v) j (length-set xs i v) h.0, there_set xs i v slots h.1)

values_where : (slots : List ℕ) (vs xs : List ℤ) → Apart slots → length vs ≡ length slots → ThereIn xs slots
    → values_in (set_where slots (map Some vs) xs) slots ≡ vs
values_where [] [] xs f l there = refl
values_where [] (v ∷ vs) xs f l there = absurd (omega (arith, l))
values_where (i ∷ slots) [] xs f l there = absurd (omega (arith, l))
values_where (i ∷ slots) (v ∷ vs) xs f l there =
    ap (λ o. unwrap_or o (pos 0) ∷ values_in (set_where slots (map Some vs) (slice_set xs i v)) slots)
    (where_other slots (map Some vs) (slice_set xs i v) i (fresh_flipped i slots f.0) ∙ set_there xs i v there.0)
    ∙ ap (λ zs. v ∷ zs)
    (values_where slots vs (slice_set xs i v) f.1 (let m : length vs ≡ length slots = omega (arith, l) in m) (there_set xs i v slots there.1))

pub values_at_tuple : {X : Type 0} (slots : List ℕ) (vs : List ℤ) (s : State X) → Apart slots → length vs ≡ length slots → Exists s slots
    → values_of (at_tuple slots vs s) slots ≡ vs
values_at_tuple slots vs s f l there = values_where slots vs s.scalars f l there

pub values_same : {X : Type 0} (s t : State X) (slots : List ℕ) → AllByRecursion (λ i. slice_get t.scalars i ≡ slice_get s.scalars i) slots
    → values_of t slots ≡ values_of s slots
values_same s t [] h = refl
values_same s t (i ∷ slots) h =
    ap (λ o. unwrap_or o (pos 0) ∷ values_of t slots) h.0 ∙ ap (λ zs. unwrap_or (slice_get s.scalars i) (pos 0) ∷ zs) (values_same s t slots h.1)

-- ---- a body by itself

-- it doesn't return
abbrev pub GoesOn : {X : Type 0} → Step X Flow → Type 0
GoesOn (Gave Next s) = Unit {0}
GoesOn (Gave (Returned v) s) = ⊥
GoesOn (Ended e s) = Unit {0}

-- A body that leaves the indices and the number of scalars, and doesn't return.
pub record BodyStays (X : Type 0) (slots : List ℕ) (body : Run X Flow) : Type 0 where
  pub length : (s : State X) → length (state_of (body s)).scalars ≡ length s.scalars
  pub kept : (s : State X) → AllByRecursion (λ i. slice_get (state_of (body s)).scalars i ≡ slice_get s.scalars i) slots
  pub goes : (s : State X) → GoesOn (body s)

-- a node's part goes on to its end, or ends early behind a tuple
abbrev pub IsLater : {X : Type 0} → (slots : List ℕ) → List ℤ → Step X Flow → Type 0
IsLater slots vs (Gave Next u) = Unit {0}
IsLater slots vs (Gave (Returned v) u) = ⊥
IsLater slots vs (Ended e u) = comes_before vs (values_of u slots) ≡ true

module _ {X : Type 0} (slots : List ℕ) (apart_all : Apart slots) (body : Run X Flow) (stays : BodyStays X slots body) where
  there_at : (vs : List ℤ) (s : State X) → Exists s slots → Exists (at_tuple slots vs s) slots
  there_at vs s there = exist_by_length s (at_tuple slots vs s) slots (where_length slots (map Some vs) s.scalars) there

  pub there_after : (vs : List ℤ) (s : State X) → Exists s slots → Exists (state_of (body (at_tuple slots vs s))) slots
  there_after vs s there = exist_by_length (at_tuple slots vs s) (state_of (body (at_tuple slots vs s))) slots (stays.length (at_tuple slots vs s)) (there_at vs s there)

  -- after a turn the indices are still at its tuple
  pub indices_after : (vs : List ℤ) (s : State X) → length vs ≡ length slots → Exists s slots → values_of (state_of (body (at_tuple slots vs s))) slots ≡ vs
  indices_after vs s l there =
      values_same (at_tuple slots vs s) (state_of (body (at_tuple slots vs s))) slots (stays.kept (at_tuple slots vs s))
      ∙ values_at_tuple slots vs s apart_all l there

  pub later : (first : List ℤ) (ts : List (List ℤ)) → AllByRecursion (λ vs. comes_before first vs ≡ true) ts → Full (length slots) ts
      → (s : State X) → Exists s slots → IsLater slots first (for_each slots ts body s)
  later first [] c l s there = tt
  later first (vs ∷ ts) c l s there =
      at_step (later first ts c.1 l.1) (body (at_tuple slots vs s)) (stays.goes (at_tuple slots vs s)) (indices_after vs s l.0 there) (there_after vs s there)
    where
      at_step : ((u : State X) → Exists u slots → IsLater slots first (for_each slots ts body u))
          → (r : Step X Flow) → GoesOn r → values_of (state_of r) slots ≡ vs → Exists (state_of r) slots
          → IsLater slots first (and_then r (λ flow. after flow (for_each slots ts body)))
      at_step rest (Gave Next u) g i e = rest u e
      at_step rest (Gave (Returned v) u) g i e = absurd g
      at_step rest (Ended end u) g i e = subst (λ ws. comes_before first ws ≡ true) (sym i) c.0

all_filtered : {A : Type 0} (P : A → Type 0) (test : A → Bool) (xs : List A) → AllByRecursion P xs → AllByRecursion P (filter test xs)
all_filtered P test [] h = tt
all_filtered P test (x ∷ xs) h = at_test (all_filtered P test xs h.1) (test x)
  where
    at_test : AllByRecursion P (filter test xs) → (b : Bool) → AllByRecursion P (cond b (x ∷ filter test xs) (filter test xs))
    at_test rest true = (h.0, rest)
    at_test rest false = rest

-- ---- all parts

-- the nodes' states with another at one node
abbrev pub with_state : (node : ℕ) → State (Unit {0}) → (ℕ → State (Unit {0})) → ℕ → State (Unit {0})
with_state node u m k = if k == node then u else m k

pub with_state_here : (node : ℕ) (u : State (Unit {0})) (m : ℕ → State (Unit {0})) → with_state node u m node ≡ u
with_state_here node u m = ap (λ b. if b then u else m node) (eq-eqb node node refl)

pub with_state_else : (node : ℕ) (u : State (Unit {0})) (m : ℕ → State (Unit {0})) (k : ℕ) → k ≢ node → with_state node u m k ≡ m k
with_state_else node u m k ne = ap (λ b. if b then u else m k) (ne_eqb k node ne)

-- which node owns a tuple, of so many, and alone does
pub record Owner (count : ℕ) (owns : ℕ → List ℤ → Bool) (vs : List ℤ) : Type 0 where
  pub node : ℕ
  pub below : node < count
  pub owns_it : owns node vs ≡ true
  pub alone : (k : ℕ) → k < count → k ≢ node → owns k vs ≡ false

module _ (slots : List ℕ) (count : ℕ) (f : Run Notes Flow) (g : ℕ → Run (Unit {0}) Flow) (owns : ℕ → List ℤ → Bool)
    (I : List (List ℤ) → State Notes → (ℕ → State (Unit {0})) → Type 0) where
  -- A turn of the serial loop, and the same at a node: I holds of what is left of the tuples, and of the states.
  abbrev pub Turn : (rest : List (List ℤ)) → (node : ℕ) → (ℕ → State (Unit {0})) → Step Notes Flow → Step (Unit {0}) Flow → Type 0
  Turn rest node m (Gave Next s) (Gave Next u) = I rest s (with_state node u m)
  Turn rest node m (Gave Next s) (Gave (Returned v) u) = ⊥
  Turn rest node m (Gave Next s) (Ended e u) = ⊥
  Turn rest node m (Gave (Returned v) s) r = ⊥
  Turn rest node m (Ended e s) (Gave v u) = ⊥
  Turn rest node m (Ended e s) (Ended f u) = f ≡ e

  abbrev pub part : (node : ℕ) → List (List ℤ) → Run (Unit {0}) Flow
  part node ts = for_each slots (filter (owns node) ts) (g node)

  -- All parts went to their end.
  pub record AllWhole (t : State Notes) (q : ℕ → Step (Unit {0}) Flow) : Type 0 where
    pub states : ℕ → State (Unit {0})
    pub gave : (k : ℕ) → k < count → q k ≡ Gave Next (states k)
    pub holds : I [] t states

  -- One part ended early at a tuple, and the others did later, if at all.
  pub record OneFell (e : End) (q : ℕ → Step (Unit {0}) Flow) : Type 0 where
    pub node : ℕ
    pub below : node < count
    pub state : State (Unit {0})
    pub ended : q node ≡ Ended e state
    pub others : (k : ℕ) → k < count → k ≢ node → IsLater slots (values_of state slots) (q k)

  abbrev pub Sides : Step Notes Flow → (ℕ → Step (Unit {0}) Flow) → Type 0
  Sides (Gave Next t) q = AllWhole t q
  Sides (Gave (Returned v) t) q = ⊥
  Sides (Ended e t) q = OneFell e q

  sides_same : (r : Step Notes Flow) (q p : ℕ → Step (Unit {0}) Flow) → ((k : ℕ) → k < count → q k ≡ p k) → Sides r q → Sides r p
  sides_same (Gave Next t) q p h w = record { states = w.states; gave = λ k b. sym (h k b) ∙ w.gave k b; holds = w.holds }
  sides_same (Gave (Returned v) t) q p h w = w
  sides_same (Ended e t) q p h w = record {
    node = w.node;
    below = w.below;
    state = w.state;
    ended = sym (h w.node w.below) ∙ w.ended;
    others = λ k b ne. subst (IsLater slots (values_of w.state slots)) (h k b) (w.others k b ne);
  }

  module _ (apart_all : Apart slots) (stays : (k : ℕ) → k < count → BodyStays (Unit {0}) slots (g k))
      (there : (ts : List (List ℤ)) (s : State Notes) (m : ℕ → State (Unit {0})) → I ts s m → (k : ℕ) → k < count → Exists (m k) slots)
      (owner : (vs : List ℤ) → length vs ≡ length slots → Owner count owns vs)
      (turn : (vs : List ℤ) (l : length vs ≡ length slots) (rest : List (List ℤ)) (s : State Notes) (m : ℕ → State (Unit {0})) → I (vs ∷ rest) s m
      → Turn rest (owner vs l).node m (f (at_tuple slots vs s)) (g (owner vs l).node (at_tuple slots vs (m (owner vs l).node)))) where
    -- the part of a node that owns the first tuple, and of one that doesn't
    part_owned : (node : ℕ) (vs : List ℤ) (ts : List (List ℤ)) (s : State (Unit {0})) → owns node vs ≡ true
        → part node (vs ∷ ts) s ≡ and_then (g node (at_tuple slots vs s)) (λ flow. after flow (part node ts))
    part_owned node vs ts s e = ap (λ b. for_each slots (cond b (vs ∷ filter (owns node) ts) (filter (owns node) ts)) (g node) s) e

    part_other : (node : ℕ) (vs : List ℤ) (ts : List (List ℤ)) (s : State (Unit {0})) → owns node vs ≡ false
        → part node (vs ∷ ts) s ≡ part node ts s
    part_other node vs ts s e = ap (λ b. for_each slots (cond b (vs ∷ filter (owns node) ts) (filter (owns node) ts)) (g node) s) e

    pub sides : (ts : List (List ℤ)) → Full (length slots) ts → pairwise comes_before ts ≡ true → (s : State Notes) (m : ℕ → State (Unit {0})) → I ts s m
        → Sides (for_each slots ts f s) (λ k. part k ts (m k))
    sides [] l rise s m i = record { states = m; gave = λ k b. refl; holds = i }
    sides (vs ∷ ts) l rise s m i =
        at_turn (sides ts l.1 (and_right (list_all (comes_before vs) ts) (pairwise comes_before ts) rise)) (f (at_tuple slots vs s)) (g own.node (at_tuple slots vs (m own.node))) refl (turn vs l.0 ts s m i)
      where
        own : Owner count owns vs
        own = owner vs l.0

        -- the parts after the first turn
        this : (u : State (Unit {0})) → g (own.node) (at_tuple slots vs (m own.node)) ≡ Gave Next u → (k : ℕ) → k < count
            → part k ts (with_state own.node u m k) ≡ part k (vs ∷ ts) (m k)
        this u e k b = at_node (k == own.node) refl
          where
            at_node : (c : Bool) → (k == own.node) ≡ c → part k ts (with_state own.node u m k) ≡ part k (vs ∷ ts) (m k)
            at_node true same =
                let is : k ≡ own.node = eqb-true k own.node same in
                subst (λ j. part j ts (with_state own.node u m j) ≡ part j (vs ∷ ts) (m j)) (sym is)
                (ap (part own.node ts) (with_state_here own.node u m)
                ∙ sym (part_owned own.node vs ts (m own.node) own.owns_it ∙ ap (λ r. and_then r (λ flow. after flow (part own.node ts))) e))
            at_node false other =
                let ne : k ≢ own.node = λ same. true≢false (sym (eq-eqb k own.node same) ∙ other) in
                ap (part k ts) (with_state_else own.node u m k ne) ∙ sym (part_other k vs ts (m k) (own.alone k b ne))

        at_turn : ((t : State Notes) (n : ℕ → State (Unit {0})) → I ts t n → Sides (for_each slots ts f t) (λ k. part k ts (n k)))
            → (r : Step Notes Flow) (q : Step (Unit {0}) Flow) → g own.node (at_tuple slots vs (m own.node)) ≡ q → Turn ts own.node m r q
            → Sides (and_then r (λ flow. after flow (for_each slots ts f))) (λ k. part k (vs ∷ ts) (m k))
        at_turn rest (Gave Next t) (Gave Next u) e h =
            sides_same (for_each slots ts f t) (λ k. part k ts (with_state own.node u m k)) (λ k. part k (vs ∷ ts) (m k)) (this u e)
            (rest t (with_state own.node u m) h)
        at_turn rest (Gave Next t) (Gave (Returned v) u) e h = absurd h
        at_turn rest (Gave Next t) (Ended z u) e h = absurd h
        at_turn rest (Gave (Returned v) t) q e h = absurd h
        at_turn rest (Ended z t) (Gave v u) e h = absurd h
        at_turn rest (Ended z t) (Ended y u) e h =
            let indices : values_of u slots ≡ vs =
            subst (λ (r : Step (Unit {0}) Flow). values_of (state_of r) slots ≡ vs) e
            (indices_after slots apart_all (g own.node) (stays own.node own.below) vs (m own.node) l.0 (there (vs ∷ ts) s m i own.node own.below)) in record {
              node = own.node;
              below = own.below;
              state = u;
              ended = part_owned own.node vs ts (m own.node) own.owns_it ∙ ap (λ r. and_then r (λ flow. after flow (part own.node ts))) e ∙ ap (λ x. Ended x u) h;
              others = λ k b ne.
                  subst (IsLater slots (values_of u slots)) (sym (part_other k vs ts (m k) (own.alone k b ne)))
                  (later slots apart_all (g k) (stays k b) (values_of u slots) (filter (owns k) ts)
                  (all_filtered (λ ws. comes_before (values_of u slots) ws ≡ true) (owns k) ts
                  (subst (λ first. AllByRecursion (λ ws. comes_before first ws ≡ true) ts) (sym indices)
                  (all_of_test (comes_before vs) ts (and_left (list_all (comes_before vs) ts) (pairwise comes_before ts) rise))))
                  (all_filtered (λ ws. length ws ≡ length slots) (owns k) ts l.1) (m k) (there (vs ∷ ts) s m i k b));
            }
