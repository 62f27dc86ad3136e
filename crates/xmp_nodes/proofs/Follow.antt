-- A node's run follows the serial run: along a sequence, a branch and a loop.
use Rattle.std.proofs.Common.{◌≡◌, ◌++◌, inl, inr, ℕ, suc, Bool, true, false, List, [], ◌∷◌, map, refl, sym, subst, ap, ◌∙◌, append-nil}
use Rattle.std.specs.List.{AllByRecursion}
use Rattle.xmp_paths.specs.declared.event.Event.{Event}
use Rattle.xmp_paths.specs.Plans.{Plan, skip, sequence, branch, loop, Path, in_order}
use Rattle.xmp_paths.specs.Safe.{left, Safe, NothingWrong}
use Rattle.xmp_paths.proofs.PathLaws.{walk-append}
use Rattle.xmp_paths.proofs.SafeLaws.{safe_paths, safe_front, safe_back}
use Rattle.xmp_loops.specs.Objects.{scalar_object, array_object}
use Rattle.xmp_meaning.specs.declared.ends.Flow.{Flow}
use Rattle.xmp_meaning.specs.declared.ends.Flow.TheVariants.{Next}
use Rattle.xmp_meaning.specs.Runs.{State, Step, Run, Gave, Ended, and_then, ◌>>=◌, pure}
use Rattle.xmp_meaning.specs.Blocks.{after, then_run, block, choose}
use Rattle.xmp_meaning.specs.Exchanges.{Notes}
use Rattle.xmp_nodes.proofs.Agrees.{Stand, Agrees, TurnLeaves, Framed, Along, Carried, IsNext, Still, Skipped}

-- ---- nothing wrong, part by part

pub right_front : (p q : Plan Event) → NothingWrong (sequence p q) → NothingWrong p
right_front p q h rule at s = h rule at (inl s)

pub right_back : (p q : Plan Event) → NothingWrong (sequence p q) → NothingWrong q
right_back p q h rule at s = h rule at (inr s)

pub right_first : (p q : Plan Event) → NothingWrong (branch p q) → NothingWrong p
right_first p q h rule at s = h rule at (inl s)

pub right_second : (p q : Plan Event) → NothingWrong (branch p q) → NothingWrong q
right_second p q h rule at s = h rule at (inr s)

pub right_turn : (p : Plan Event) → NothingWrong (loop p) → NothingWrong p
right_turn p h rule at s = h rule at s

-- ---- ways

pub left_append : (node : ℕ) (xs ys : List Event) (stale : ℕ → Bool) (object : ℕ) → left node (xs ++ ys) stale object ≡ left node ys (left node xs stale) object
left_append node xs ys stale object = walk-append object node xs ys (stale object)

-- a way of a sequence
pub way_joined : (p q : Plan Event) (xs ys : List Event) → Path p xs → Path q ys → Path (sequence p q) (xs ++ ys)
way_joined p q xs ys x y = record { front = xs; back = ys; whole = refl; in_front = x; in_back = y }

-- a turn, and then the others
pub way_unrolled : (p : Plan Event) (way : List Event) → Path (sequence p (loop p)) way → Path (loop p) way
way_unrolled p way w = (
  suc w.in_back.0,
  record { front = w.front; back = w.back; whole = w.whole; in_front = w.in_front; in_back = w.in_back.1 },
)

pub way_none : (p : Plan Event) → Path (loop p) []
way_none p = (0, refl)

-- ---- what is agreed on with fewer copies out of date is agreed on with more

pub agrees_fewer : (a : Stand) (stale more : ℕ → Bool) (s : State Notes) (n : State (Unit {0}))
    → ((object : ℕ) → more object ≡ false → stale object ≡ false) → Agrees a stale s n → Agrees a more s n
agrees_fewer a stale more s n h g = record {
  whole = g.whole;
  packed = g.packed;
  typed = g.typed;
  scalars = λ slot r e. g.scalars slot r (h (scalar_object slot) e);
  indices = g.indices;
  sums = g.sums;
  copies = λ array r e. g.copies array r (h (array_object array) e);
  owned = g.owned;
  shadows = g.shadows;
  current = λ array t m r e. g.current array t m r (h (array_object array) e);
  point = g.point;
  steps = g.steps;
  out = g.out;
  taken = g.taken;
}

-- ---- what stays

pub turn_same : (a : Stand) (s : State Notes) → TurnLeaves a s s
turn_same a s = record { out = refl; taken = refl; scalars = λ slot e. refl; rows = λ array e. refl; cells = λ array t m cell e i o. refl }

pub turn_on : (a : Stand) (s t u : State Notes) → TurnLeaves a s t → TurnLeaves a t u → TurnLeaves a s u
turn_on a s t u f g = record {
  out = g.out ∙ f.out;
  taken = g.taken ∙ f.taken;
  scalars = λ slot e. g.scalars slot e ∙ f.scalars slot e;
  rows = λ array e. g.rows array e ∙ f.rows array e;
  cells = λ array tm m cell e i o. g.cells array tm m cell e i o ∙ f.cells array tm m cell e i o;
}

pub framed_same : (a : Stand) (s : State Notes) → Framed a s s
framed_same a s = record { extra = refl; steps = λ i. refl; turn = λ d e. turn_same a s }

pub framed_on : (a : Stand) (s t u : State Notes) → Framed a s t → Framed a t u → Framed a s u
framed_on a s t u f g = record {
  extra = g.extra ∙ f.extra;
  steps = λ i. g.steps i ∙ f.steps i;
  turn = λ d e. turn_on a s t u (f.turn d e) (g.turn d e);
}

module _ (a : Stand) where
  -- ---- steps

  pub goes_weaker : {A : Type 0} (V W : A → Type 0) (p q : Plan Event) (stale : ℕ → Bool) (s : State Notes) (n : State (Unit {0}))
      (r : Step Notes A) (r' : Step (Unit {0}) A) → ((v : A) → V v → W v) → ((way : List Event) → Path p way → Path q way)
      → Along a V p stale s n r r' → Along a W q stale s n r r'
  goes_weaker V W p q stale s n (Gave v t) (Gave w m) f g h = record {
    same = h.same;
    value = f v h.value;
    way = h.way;
    path = g h.way h.path;
    agrees = h.agrees;
    framed = h.framed;
  }
  goes_weaker V W p q stale s n (Gave v t) (Ended e m) f g h = absurd h
  goes_weaker V W p q stale s n (Ended e t) (Gave w m) f g h = absurd h
  goes_weaker V W p q stale s n (Ended e t) (Ended d m) f g h = h

  -- what is done first, and then the rest
  pub goes_behind : {B : Type 0} (W : B → Type 0) (p q : Plan Event) (stale : ℕ → Bool) (s t : State Notes) (n m : State (Unit {0})) (way : List Event)
      → Path p way → Framed a s t → (r : Step Notes B) (r' : Step (Unit {0}) B)
      → Along a W q (left a.node way stale) t m r r' → Along a W (sequence p q) stale s n r r'
  goes_behind W p q stale s t n m way path f (Gave v u) (Gave w l) h = record {
    same = h.same;
    value = h.value;
    way = way ++ h.way;
    path = way_joined p q way h.way path h.path;
    agrees = agrees_fewer a (left a.node h.way (left a.node way stale)) (left a.node (way ++ h.way) stale) u l
        (λ object e. sym (left_append a.node way h.way stale object) ∙ e) h.agrees;
    framed = framed_on a s t u f h.framed;
  }
  goes_behind W p q stale s t n m way path f (Gave v u) (Ended e l) h = absurd h
  goes_behind W p q stale s t n m way path f (Ended e u) (Gave w l) h = absurd h
  goes_behind W p q stale s t n m way path f (Ended e u) (Ended d l) h = h

  along_on : {A B : Type 0} (V : A → Type 0) (W : B → Type 0) (p q : Plan Event) (f : A → Run Notes B) (g : A → Run (Unit {0}) B)
      (stale : ℕ → Bool) (s : State Notes) (n : State (Unit {0})) (r : Step Notes A) (r' : Step (Unit {0}) A)
      → Safe a.node (sequence p q) stale → Agrees a stale s n → Along a V p stale s n r r'
      → ((v : A) → V v → Carried a W q (f v) (g v)) → Along a W (sequence p q) stale s n (and_then r f) (and_then r' g)
  along_on V W p q f g stale s n (Gave v t) (Gave w m) safe k h c =
      subst (λ y. Along a W (sequence p q) stale s n (f v t) (g y m)) h.same
      (goes_behind W p q stale s t n m h.way h.path h.framed (f v t) (g v m)
      (c v h.value (left a.node h.way stale) t m (safe_back a.node p q stale safe h.way h.path) h.agrees))
  along_on V W p q f g stale s n (Gave v t) (Ended e m) safe k h c = absurd h
  along_on V W p q f g stale s n (Ended e t) (Gave w m) safe k h c = absurd h
  along_on V W p q f g stale s n (Ended e t) (Ended d m) safe k h c = h

  -- ---- runs

  pub carried_pure : {A : Type 0} (V : A → Type 0) (v : A) → V v → Carried a V skip (pure v) (pure v)
  carried_pure V v h stale s n safe g = record {
    same = refl;
    value = h;
    way = [];
    path = refl;
    agrees = g;
    framed = framed_same a s;
  }

  pub carried_weaker : {A : Type 0} (V W : A → Type 0) (p : Plan Event) (f : Run Notes A) (g : Run (Unit {0}) A) → ((v : A) → V v → W v)
      → Carried a V p f g → Carried a W p f g
  carried_weaker V W p f g h c stale s n safe k = goes_weaker V W p p stale s n (f s) (g n) h (λ way w. w) (c stale s n safe k)

  -- along a plan of which each path is one of another
  pub carried_paths : {A : Type 0} (V : A → Type 0) (p q : Plan Event) (f : Run Notes A) (g : Run (Unit {0}) A) → ((way : List Event) → Path p way → Path q way)
      → Carried a V p f g → Carried a V q f g
  carried_paths V p q f g h c stale s n safe k =
      goes_weaker V V p q stale s n (f s) (g n) (λ v x. x) h (c stale s n (safe_paths a.node q p stale h safe) k)

  pub carried_on : {A B : Type 0} (V : A → Type 0) (W : B → Type 0) (p q : Plan Event) (f : Run Notes A) (g : Run (Unit {0}) A)
      (f' : A → Run Notes B) (g' : A → Run (Unit {0}) B) → Carried a V p f g → ((v : A) → V v → Carried a W q (f' v) (g' v))
      → Carried a W (sequence p q) (f >>= f') (g >>= g')
  carried_on V W p q f g f' g' c d stale s n safe k =
      along_on V W p q f' g' stale s n (f s) (g n) safe k (c stale s n (safe_front a.node p q stale safe) k) d

  -- the same where nothing happens behind
  skip_last : (p : Plan Event) (way : List Event) → Path (sequence p skip) way → Path p way
  skip_last p way w = subst (Path p) (sym (w.whole ∙ (ap (λ l. w.front ++ l) w.in_back ∙ append-nil w.front))) w.in_front

  pub carried_last : {A B : Type 0} (V : A → Type 0) (W : B → Type 0) (p : Plan Event) (f : Run Notes A) (g : Run (Unit {0}) A)
      (f' : A → Run Notes B) (g' : A → Run (Unit {0}) B) → Carried a V p f g → ((v : A) → V v → Carried a W skip (f' v) (g' v))
      → Carried a W p (f >>= f') (g >>= g')
  carried_last V W p f g f' g' c d = carried_paths W (sequence p skip) p (f >>= f') (g >>= g') (skip_last p) (carried_on V W p skip f g f' g' c d)

  -- ---- statements

  after_next : (W : Flow → Type 0) (q : Plan Event) (f : Run Notes Flow) (g : Run (Unit {0}) Flow) → Carried a W q f g
      → (flow : Flow) → IsNext flow → Carried a W q (after flow f) (after flow g)
  after_next W q f g c flow h = subst (λ x. Carried a W q (after x f) (after x g)) (sym h) c

  pub carried_then : (W : Flow → Type 0) (p q : Plan Event) (f f' : Run Notes Flow) (g g' : Run (Unit {0}) Flow)
      → Carried a IsNext p f g → Carried a W q f' g' → Carried a W (sequence p q) (then_run f f') (then_run g g')
  carried_then W p q f f' g g' c d =
      carried_on IsNext W p q f g (λ flow. after flow f') (λ flow. after flow g') c (after_next W q f' g' d)

  pub carried_choose : {A : Type 0} (V : A → Type 0) (p q : Plan Event) (f f' : Run Notes A) (g g' : Run (Unit {0}) A) (b : Bool)
      → Carried a V p f g → Carried a V q f' g' → Carried a V (branch p q) (choose b f f') (choose b g g')
  carried_choose V p q f f' g g' true c d = carried_paths V p (branch p q) f g (λ way w. inl w) c
  carried_choose V p q f f' g g' false c d = carried_paths V q (branch p q) f' g' (λ way w. inr w) d

  -- a list of statements, each with its plan
  pub carried_block : {S : Type 0} (plan : S → Plan Event) (f : S → Run Notes Flow) (g : S → Run (Unit {0}) Flow) (all : List S)
      → AllByRecursion (λ x. Carried a IsNext (plan x) (f x) (g x)) all
      → Carried a IsNext (in_order (map plan all)) (block (map f all)) (block (map g all))
  carried_block plan f g [] h = carried_pure IsNext Next refl
  carried_block plan f g (x ∷ xs) h =
      carried_then IsNext (plan x) (in_order (map plan xs)) (f x) (block (map f xs)) (g x) (block (map g xs)) h.0 (carried_block plan f g xs h.1)

-- ---- a node outside

module _ (a : Stand) where
  still_weaker : {A : Type 0} (V W : A → Type 0) (p q : Plan Event) (stale : ℕ → Bool) (s : State Notes) (n : State (Unit {0})) (r : Step Notes A)
      → ((v : A) → V v → W v) → ((way : List Event) → Path p way → Path q way) → Still a V p stale s n r → Still a W q stale s n r
  still_weaker V W p q stale s n (Gave v t) f g h = record { value = f v h.value; way = h.way; path = g h.way h.path; kept = h.kept; agrees = h.agrees; framed = h.framed }
  still_weaker V W p q stale s n (Ended e t) f g h = tt

  still_behind : {B : Type 0} (W : B → Type 0) (p q : Plan Event) (stale : ℕ → Bool) (s t : State Notes) (n : State (Unit {0})) (way : List Event)
      → Path p way → ((object : ℕ) → stale object ≡ true → left a.node way stale object ≡ true) → Framed a s t → (r : Step Notes B) → Still a W q (left a.node way stale) t n r → Still a W (sequence p q) stale s n r
  still_behind W p q stale s t n way path kept f (Gave v u) h = record {
    value = h.value;
    way = way ++ h.way;
    path = way_joined p q way h.way path h.path;
    kept = λ object e. left_append a.node way h.way stale object ∙ h.kept object (kept object e);
    agrees = agrees_fewer a (left a.node h.way (left a.node way stale)) (left a.node (way ++ h.way) stale) u n
        (λ object e. sym (left_append a.node way h.way stale object) ∙ e) h.agrees;
    framed = framed_on a s t u f h.framed;
  }
  still_behind W p q stale s t n way path kept f (Ended e u) h = tt

  still_on : {A B : Type 0} (V : A → Type 0) (W : B → Type 0) (p q : Plan Event) (f : A → Run Notes B)
      (stale : ℕ → Bool) (s : State Notes) (n : State (Unit {0})) (r : Step Notes A) → Still a V p stale s n r
      → ((v : A) → V v → Skipped a W q (f v)) → Still a W (sequence p q) stale s n (and_then r f)
  still_on V W p q f stale s n (Gave v t) h c =
      still_behind W p q stale s t n h.way h.path h.kept h.framed (f v t) (c v h.value (left a.node h.way stale) t n h.agrees)
  still_on V W p q f stale s n (Ended e t) h c = tt

  pub skipped_pure : {A : Type 0} (V : A → Type 0) (v : A) → V v → Skipped a V skip (pure v)
  skipped_pure V v h stale s n g = record { value = h; way = []; path = refl; kept = λ object e. e; agrees = g; framed = framed_same a s }

  pub skipped_weaker : {A : Type 0} (V W : A → Type 0) (p : Plan Event) (f : Run Notes A) → ((v : A) → V v → W v) → Skipped a V p f → Skipped a W p f
  skipped_weaker V W p f h c stale s n g = still_weaker V W p p stale s n (f s) h (λ way w. w) (c stale s n g)

  pub skipped_paths : {A : Type 0} (V : A → Type 0) (p q : Plan Event) (f : Run Notes A) → ((way : List Event) → Path p way → Path q way)
      → Skipped a V p f → Skipped a V q f
  skipped_paths V p q f h c stale s n g = still_weaker V V p q stale s n (f s) (λ v x. x) h (c stale s n g)

  pub skipped_on : {A B : Type 0} (V : A → Type 0) (W : B → Type 0) (p q : Plan Event) (f : Run Notes A) (f' : A → Run Notes B)
      → Skipped a V p f → ((v : A) → V v → Skipped a W q (f' v)) → Skipped a W (sequence p q) (f >>= f')
  skipped_on V W p q f f' c d stale s n g = still_on V W p q f' stale s n (f s) (c stale s n g) d

  skip_after : (W : Flow → Type 0) (q : Plan Event) (f : Run Notes Flow) → Skipped a W q f → (flow : Flow) → IsNext flow → Skipped a W q (after flow f)
  skip_after W q f c flow h = subst (λ x. Skipped a W q (after x f)) (sym h) c

  pub skipped_then : (W : Flow → Type 0) (p q : Plan Event) (f f' : Run Notes Flow) → Skipped a IsNext p f → Skipped a W q f' → Skipped a W (sequence p q) (then_run f f')
  skipped_then W p q f f' c d = skipped_on IsNext W p q f (λ flow. after flow f') c (skip_after W q f' d)

  pub skipped_choose : {A : Type 0} (V : A → Type 0) (p q : Plan Event) (f f' : Run Notes A) (b : Bool)
      → Skipped a V p f → Skipped a V q f' → Skipped a V (branch p q) (choose b f f')
  skipped_choose V p q f f' true c d = skipped_paths V p (branch p q) f (λ way w. inl w) c
  skipped_choose V p q f f' false c d = skipped_paths V q (branch p q) f' (λ way w. inr w) d

  pub skipped_block : {S : Type 0} (plan : S → Plan Event) (f : S → Run Notes Flow) (all : List S)
      → AllByRecursion (λ x. Skipped a IsNext (plan x) (f x)) all → Skipped a IsNext (in_order (map plan all)) (block (map f all))
  skipped_block plan f [] h = skipped_pure IsNext Next refl
  skipped_block plan f (x ∷ xs) h = skipped_then IsNext (plan x) (in_order (map plan xs)) (f x) (block (map f xs)) h.0 (skipped_block plan f xs h.1)
