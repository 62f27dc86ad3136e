-- Where the scalars of a statement may stand, and which it declares, for each form of statement by the statements in it.
use Rattle.std.proofs.Common.{◌≡◌, ◌∙◌, refl, sym, ap, ◌++◌, ◌∷◌, [], ℕ, ◌+◌, ◌≤◌, List, Bool, true, map, arith}
use Rattle.std.specs.List.{list_all, flat_map, AllByRecursion}
use Rattle.std.proofs.lemmas.Grind.{flat_map-append}
use Rattle.xmp_base.specs.declared.place.Place.{Place}
use Rattle.xmp_map.specs.declared.grid.NodeSet.{NodeSet}
use Rattle.xmp_prog.specs.declared.expressions.Expr.{Expr}
use Rattle.xmp_prog.specs.declared.statements.LoopHead.{LoopHead}
use Rattle.xmp_prog.specs.declared.statements.LoopDirective.{LoopDirective}
use Rattle.xmp_prog.specs.declared.statements.Plain.{Plain}
use Rattle.xmp_prog.specs.declared.statements.Stmt.{Stmt}
use Rattle.xmp_prog.specs.declared.statements.Stmt.TheVariants as s
use Rattle.xmp_prog.specs.declared.statements.Stmt.TheOpen.{Stmt-F}
use Rattle.xmp_prog.specs.declared.statements.Stmt.TheFolds.{fold-Task}
use Rattle.xmp_prog.specs.declared.statements.Task.{Task, roll-Task, fold-roll-Task}
use Rattle.xmp_prog.specs.declared.parts.ProgParts.{ProgParts}
use Rattle.xmp_prog.specs.Terms.{terms_of, slots_of_terms}
use Rattle.xmp_prog.specs.Statements.{Walked, WalkedTask, walk_step, walk_task, walked, statements_of, terms_of_head, terms_of_plain, slots_of_plain, slots_of_point, indices_of}
use Rattle.xmp_prog.specs.Scopes.{declared_by_plain, declared_by, declared_in, Scoped, fits_in_order, scope_step, scoped, scalars_fit}
use Rattle.xmp_prog.proofs.Rolls.{at_plain, at_block, at_if, at_while, at_counted, at_loop, at_tasks}
use Rattle.xmp_parts.proofs.Unbroken.{left_true, right_true, both_true}

-- ---- slots that are declared, each above the one before

-- Each number of a list is at or above the least and above the one before, and the end is above all of them.
abbrev pub Rising : ℕ → ℕ → List ℕ → Type 0
Rising lo hi [] = lo ≤ hi
Rising lo hi (n ∷ ns) = (lo ≤ n) × Rising (n + 1) hi ns

pub rising_ends : (lo hi : ℕ) (ns : List ℕ) → Rising lo hi ns → lo ≤ hi
rising_ends lo hi [] h = h
rising_ends lo hi (n ∷ ns) h = let k : n + 1 ≤ hi = rising_ends (n + 1) hi ns h.1 in let l : lo ≤ n = h.0 in omega (arith, k, l)

pub rising_from : (lo mid hi : ℕ) (ns : List ℕ) → lo ≤ mid → Rising mid hi ns → Rising lo hi ns
rising_from lo mid hi [] l h = let k : mid ≤ hi = h in omega (arith, k, l)
rising_from lo mid hi (n ∷ ns) l h = let k : mid ≤ n = h.0 in (omega (arith, k, l), h.1)

pub rising_both : (lo mid hi : ℕ) (ns ms : List ℕ) → Rising lo mid ns → Rising mid hi ms → Rising lo hi (ns ++ ms)
rising_both lo mid hi [] ms h k = rising_from lo mid hi ms h k
rising_both lo mid hi (n ∷ ns) ms h k = (h.0, rising_both (n + 1) mid hi ns ms h.1 k)

pub rising_to : (lo mid hi : ℕ) (ns : List ℕ) → Rising lo mid ns → mid ≤ hi → Rising lo hi ns
rising_to lo mid hi [] h k = let l : lo ≤ mid = h in omega (arith, k, l)
rising_to lo mid hi (n ∷ ns) h k = (h.0, rising_to (n + 1) mid hi ns h.1 k)

-- ---- what is declared in a statement

statement_parts : (x : Stmt) (w : Walked) → walked x ≡ w → declared_in x ≡ flat_map declared_by w.statements
statement_parts x w e = ap (λ (v : Walked). flat_map declared_by v.statements) e

pub declared_plain : (x : Plain) → declared_in (s.Plain x) ≡ declared_by_plain x ++ []
declared_plain x = statement_parts (s.Plain x) _ (at_plain Walked WalkedTask walk_step walk_task x)

each_declared : (xs : List Stmt) → flat_map declared_by (flat_map (λ y. y.statements) (map walked xs)) ≡ flat_map declared_in xs
each_declared [] = refl
each_declared (x ∷ xs) = flat_map-append declared_by (statements_of x) (flat_map (λ y. y.statements) (map walked xs)) ∙ ap (λ l. declared_in x ++ l) (each_declared xs)

pub declared_block : (xs : List Stmt) → declared_in (s.Block xs) ≡ flat_map declared_in xs
declared_block xs = statement_parts (s.Block xs) _ (at_block Walked WalkedTask walk_step walk_task xs) ∙ each_declared xs

pub declared_if : (e : Expr) (a b : Stmt) → declared_in (s.If e a b) ≡ declared_in a ++ declared_in b
declared_if e a b = statement_parts (s.If e a b) _ (at_if Walked WalkedTask walk_step walk_task e a b) ∙ flat_map-append declared_by (statements_of a) (statements_of b)

pub declared_while : (e : Expr) (a : Stmt) (at : Place) → declared_in (s.While e a at) ≡ declared_in a
declared_while e a at = statement_parts (s.While e a at) _ (at_while Walked WalkedTask walk_step walk_task e a at)

pub declared_counted : (h : LoopHead) (a : Stmt) → declared_in (s.Counted h a) ≡ declared_in a
declared_counted h a = statement_parts (s.Counted h a) _ (at_counted Walked WalkedTask walk_step walk_task h a)

pub declared_loop : (d : LoopDirective) (a : Stmt) → declared_in (s.Loop d a) ≡ declared_in a
declared_loop d a = statement_parts (s.Loop d a) _ (at_loop Walked WalkedTask walk_step walk_task d a)

-- The statements of a task.
abbrev pub declared_in_task : Task → List ℕ
declared_in_task t = flat_map declared_by (fold-Task Walked WalkedTask walk_step walk_task t).statements

each_task : (ts : List Task) → flat_map declared_by (flat_map (λ t. t.statements) (map (fold-Task Walked WalkedTask walk_step walk_task) ts)) ≡ flat_map declared_in_task ts
each_task [] = refl
each_task (t ∷ ts) =
    flat_map-append declared_by (fold-Task Walked WalkedTask walk_step walk_task t).statements (flat_map (λ t. t.statements) (map (fold-Task Walked WalkedTask walk_step walk_task) ts))
    ∙ ap (λ l. declared_in_task t ++ l) (each_task ts)

pub declared_tasks : (ts : List Task) (at : Place) → declared_in (s.Tasks ts at) ≡ flat_map declared_in_task ts
declared_tasks ts at = statement_parts (s.Tasks ts at) _ (at_tasks Walked WalkedTask walk_step walk_task ts at) ∙ each_task ts

pub declared_task : (nodes : NodeSet) (x : Stmt) (at : Place) → declared_in_task (roll-Task (record { nodes = nodes; body = x; at = at })) ≡ declared_in x
declared_task nodes x at = ap (λ (t : WalkedTask). flat_map declared_by t.statements) (fold-roll-Task Walked WalkedTask walk_step walk_task (record { nodes = nodes; body = x; at = at }))

-- ---- where scalars may stand

module _ (p : ProgParts) (may : List ℕ → ℕ → Bool) where
  -- Each of these slots may stand where others are known.
  abbrev pub May : List ℕ → List ℕ → Type 0
  May known slots = AllByRecursion (λ n. may known n ≡ true) slots

  pub all_may : (known slots : List ℕ) → May known slots → list_all (may known) slots ≡ true
  all_may known [] h = refl
  all_may known (n ∷ ns) h = both_true (may known n) _ h.0 (all_may known ns h.1)

  pub may_all : (known slots : List ℕ) → list_all (may known) slots ≡ true → May known slots
  may_all known [] h = tt
  may_all known (n ∷ ns) h = (left_true (may known n) _ h, may_all known ns (right_true (may known n) _ h))

  pub may_both : (known ns ms : List ℕ) → May known ns → May known ms → May known (ns ++ ms)
  may_both known [] ms h k = k
  may_both known (n ∷ ns) ms h k = (h.0, may_both known ns ms h.1 k)

  pub may_left : (known ns ms : List ℕ) → May known (ns ++ ms) → May known ns
  may_left known [] ms h = tt
  may_left known (n ∷ ns) ms h = (h.0, may_left known ns ms h.1)

  pub may_right : (known ns ms : List ℕ) → May known (ns ++ ms) → May known ms
  may_right known [] ms h = h
  may_right known (n ∷ ns) ms h = may_right known ns ms h.1

  abbrev pub Right : Stmt → List ℕ → Type 0
  Right x known = scalars_fit p may x known ≡ true

  -- Statements in a list, and what is known after them.
  abbrev pub InOrder : List Stmt → List ℕ → Type 0
  InOrder xs known = fits_in_order (map (scoped p may) xs) known ≡ true

  abbrev pub known_after : List Stmt → List ℕ → List ℕ
  known_after [] known = known
  known_after (x ∷ xs) known = known_after xs ((scoped p may x).declares ++ known)

  pub order_both : (xs ys : List Stmt) (known : List ℕ) → InOrder xs known → InOrder ys (known_after xs known) → InOrder (xs ++ ys) known
  order_both [] ys known h k = k
  order_both (x ∷ xs) ys known h k = both_true (scalars_fit p may x known) _ (left_true (scalars_fit p may x known) _ h)
      (order_both xs ys ((scoped p may x).declares ++ known) (right_true (scalars_fit p may x known) _ h) k)

  pub after_both : (xs ys : List Stmt) (known : List ℕ) → known_after (xs ++ ys) known ≡ known_after ys (known_after xs known)
  after_both [] ys known = refl
  after_both (x ∷ xs) ys known = after_both xs ys ((scoped p may x).declares ++ known)

  right_by : (x : Stmt) (c : Scoped) (known : List ℕ) → scoped p may x ≡ c → c.fits known ≡ true → Right x known
  right_by x c known e h = ap (λ (d : Scoped). d.fits known) e ∙ h

  by_right : (x : Stmt) (c : Scoped) (known : List ℕ) → scoped p may x ≡ c → Right x known → c.fits known ≡ true
  by_right x c known e h = sym (ap (λ (d : Scoped). d.fits known) e) ∙ h

  plain_is : (x : Plain) → scoped p may (s.Plain x) ≡ scope_step p may (Stmt-F.Plain x)
  plain_is x = at_plain Scoped Scoped (scope_step p may) (λ t. t.body) x

  counted_is : (h : LoopHead) (a : Stmt) → scoped p may (s.Counted h a) ≡ scope_step p may (Stmt-F.Counted h (scoped p may a))
  counted_is h a = at_counted Scoped Scoped (scope_step p may) (λ t. t.body) h a

  block_is : (xs : List Stmt) → scoped p may (s.Block xs) ≡ scope_step p may (Stmt-F.Block (map (scoped p may) xs))
  block_is xs = at_block Scoped Scoped (scope_step p may) (λ t. t.body) xs

  pub plain_right : (x : Plain) (known : List ℕ) → May (declared_by_plain x ++ known) (slots_of_plain x ++ slots_of_terms (terms_of_plain p x)) → Right (s.Plain x) known
  plain_right x known h = right_by (s.Plain x) _ known (plain_is x) (both_true (list_all (may (declared_by_plain x ++ known)) (slots_of_plain x ++ slots_of_terms (terms_of_plain p x))) true (all_may (declared_by_plain x ++ known) (slots_of_plain x ++ slots_of_terms (terms_of_plain p x)) h) refl)

  pub plain_declares : (x : Plain) → (scoped p may (s.Plain x)).declares ≡ declared_by_plain x
  plain_declares x = ap (λ (c : Scoped). c.declares) (plain_is x)

  pub block_right : (xs : List Stmt) (known : List ℕ) → InOrder xs known → Right (s.Block xs) known
  block_right xs known h = right_by (s.Block xs) _ known (block_is xs) h

  pub right_block : (xs : List Stmt) (known : List ℕ) → Right (s.Block xs) known → InOrder xs known
  right_block xs known h = by_right (s.Block xs) _ known (block_is xs) h

  pub if_right : (e : Expr) (a b : Stmt) (known : List ℕ) → May known (slots_of_terms (terms_of p e)) → Right a known → Right b known → Right (s.If e a b) known
  if_right e a b known h k l = right_by (s.If e a b) _ known (at_if Scoped Scoped (scope_step p may) (λ t. t.body) e a b)
      (both_true (list_all (may known) (slots_of_terms (terms_of p e))) _ (all_may known (slots_of_terms (terms_of p e)) h) (both_true (scalars_fit p may a known) _ k l))

  pub while_right : (e : Expr) (a : Stmt) (at : Place) (known : List ℕ) → May known (slots_of_terms (terms_of p e)) → Right a known → Right (s.While e a at) known
  while_right e a at known h k = right_by (s.While e a at) _ known (at_while Scoped Scoped (scope_step p may) (λ t. t.body) e a at)
      (both_true (list_all (may known) (slots_of_terms (terms_of p e))) _ (all_may known (slots_of_terms (terms_of p e)) h) k)

  pub counted_right : (h : LoopHead) (a : Stmt) (known : List ℕ) → May known (h.index.number ∷ slots_of_terms (terms_of_head p h)) → Right a known → Right (s.Counted h a) known
  counted_right h a known m k = right_by (s.Counted h a) _ known (counted_is h a)
      (both_true (list_all (may known) (h.index.number ∷ slots_of_terms (terms_of_head p h))) _ (all_may known (h.index.number ∷ slots_of_terms (terms_of_head p h)) m) k)

  pub right_counted : (h : LoopHead) (a : Stmt) (known : List ℕ) → Right (s.Counted h a) known → May known (h.index.number ∷ slots_of_terms (terms_of_head p h)) × Right a known
  right_counted h a known r =
      let both = by_right (s.Counted h a) _ known (counted_is h a) r in
      (may_all known (h.index.number ∷ slots_of_terms (terms_of_head p h)) (left_true (list_all (may known) (h.index.number ∷ slots_of_terms (terms_of_head p h))) _ both), right_true (list_all (may known) (h.index.number ∷ slots_of_terms (terms_of_head p h))) _ both)

  pub loop_right : (d : LoopDirective) (a : Stmt) (known : List ℕ) →
      May known ((flat_map slots_of_point d.points ++ (indices_of d.nest ++ map (λ r. r.variable.number) d.reductions)) ++ slots_of_terms (flat_map (terms_of_head p) d.nest)) → Right a known → Right (s.Loop d a) known
  loop_right d a known h k = right_by (s.Loop d a) _ known (at_loop Scoped Scoped (scope_step p may) (λ t. t.body) d a)
      (both_true (list_all (may known) ((flat_map slots_of_point d.points ++ (indices_of d.nest ++ map (λ r. r.variable.number) d.reductions)) ++ slots_of_terms (flat_map (terms_of_head p) d.nest))) _ (all_may known ((flat_map slots_of_point d.points ++ (indices_of d.nest ++ map (λ r. r.variable.number) d.reductions)) ++ slots_of_terms (flat_map (terms_of_head p) d.nest)) h) k)

  -- A task by that of its statement.
  abbrev pub TaskRight : Task → List ℕ → Type 0
  TaskRight t known = (fold-Task Scoped Scoped (scope_step p may) (λ t. t.body) t).fits known ≡ true

  pub task_right : (nodes : NodeSet) (x : Stmt) (at : Place) (known : List ℕ) → Right x known → TaskRight (roll-Task (record { nodes = nodes; body = x; at = at })) known
  task_right nodes x at known h = ap (λ (c : Scoped). c.fits known) (fold-roll-Task Scoped Scoped (scope_step p may) (λ t. t.body) (record { nodes = nodes; body = x; at = at })) ∙ h

  each_right : (ts : List Task) (known : List ℕ) → AllByRecursion (λ t. TaskRight t known) ts → list_all (λ t. t.fits known) (map (fold-Task Scoped Scoped (scope_step p may) (λ t. t.body)) ts) ≡ true
  each_right [] known h = refl
  each_right (t ∷ ts) known h = both_true _ _ h.0 (each_right ts known h.1)

  pub tasks_right : (ts : List Task) (at : Place) (known : List ℕ) → AllByRecursion (λ t. TaskRight t known) ts → Right (s.Tasks ts at) known
  tasks_right ts at known h = right_by (s.Tasks ts at) _ known (at_tasks Scoped Scoped (scope_step p may) (λ t. t.body) ts at) (each_right ts known h)
