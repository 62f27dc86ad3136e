-- A statement of each form passes where its parts do.
use Rattle.std.proofs.Common.{◌≡◌, sym, refl, subst, ◌++◌, ◌∷◌, [], ℕ, zero, suc, Bool, true, false, List, Option, Some, None, map}
use Rattle.std.specs.List.{flat_map, AllByRecursion}
use Rattle.xmp_base.specs.declared.place.Place.{Place}
use Rattle.xmp_map.specs.declared.grid.NodeSet.{NodeSet}
use Rattle.xmp_prog.specs.declared.expressions.Expr.{Expr}
use Rattle.xmp_prog.specs.declared.statements.LoopDirective.{LoopDirective}
use Rattle.xmp_prog.specs.declared.statements.LoopHead.{LoopHead}
use Rattle.xmp_prog.specs.declared.statements.Plain.{Plain}
use Rattle.xmp_prog.specs.declared.statements.Stmt.{Stmt}
use Rattle.xmp_prog.specs.declared.statements.Stmt.TheVariants as s
use Rattle.xmp_prog.specs.declared.statements.Stmt.TheOpen.{Stmt-F}
use Rattle.xmp_prog.specs.declared.statements.Stmt.TheFolds.{fold-Task}
use Rattle.xmp_prog.specs.declared.statements.Task.{Task, fold-roll-Task}
use Rattle.xmp_prog.specs.declared.parts.ProgParts.{ProgParts}
use Rattle.xmp_prog.specs.Terms.{Term, terms_of}
use Rattle.xmp_prog.specs.Statements.{Statement, Walked, WalkedTask, indices_of, slots_of_point, terms_of_head, slots_beside, statements_of, walk_step, walk_task, walked, writes_of}
use Rattle.xmp_prog.specs.Fits.{has_coarrays}
use Rattle.xmp_prog.proofs.Rolls.{at_block, at_counted, at_if, at_loop, at_plain, at_tasks, at_while}
use Rattle.xmp_directives.specs.Directives.{head_of, nest_in, nest_of, made_task}
use Rattle.xmp_parts.proofs.Unbroken.{both_true, left_true}
use Rattle.xmp_fits.proofs.TermsFit.{all_append, or_true}
use Rattle.xmp_fits.proofs.TermTests.{TermPasses, StatementPasses, is_slot, all_map, all_true}
use Rattle.xmp_fits.proofs.ClausesHold.{StmtPasses, all_flat}
use Rattle.xmp_fits.proofs.NestsPass.{Headed, headed}

module _ (p : ProgParts) (quiet inside : Bool) (number : ℕ) where
  abbrev Passes : Statement → Type 0
  Passes x = StatementPasses p quiet inside number x

  abbrev Terms : List Term → Type 0
  Terms ts = AllByRecursion (TermPasses p quiet inside number) ts

  -- A statement of the same terms as those that stand in it.
  of_walked : (x : Stmt) (w : Walked) → walked x ≡ w → AllByRecursion Passes w.statements → StmtPasses p quiet inside number x
  of_walked x w e h = subst (λ (v : Walked). AllByRecursion Passes v.statements) (sym e) h

  pub plain_passes : (x : Plain) → Passes (Stmt-F.Plain x) → StmtPasses p quiet inside number (s.Plain x)
  plain_passes x f = of_walked (s.Plain x) _ (at_plain Walked WalkedTask walk_step walk_task x) (f, tt)

  pub block_passes : (xs : List Stmt) → AllByRecursion (StmtPasses p quiet inside number) xs → StmtPasses p quiet inside number (s.Block xs)
  block_passes xs h = of_walked (s.Block xs) _ (at_block Walked WalkedTask walk_step walk_task xs) (
    record {
      terms = tt;
      assignment = refl;
      format = tt;
      slots = refl;
      sync = or_true (has_coarrays p.kind);
      stands = λ i. refl;
    },
    each xs h,
  )
    where
      each : (xs : List Stmt) → AllByRecursion (StmtPasses p quiet inside number) xs → AllByRecursion Passes (flat_map (λ s. s.statements) (map walked xs))
      each [] h = tt
      each (x ∷ xs) h = all_append Passes (statements_of x) (flat_map (λ s. s.statements) (map walked xs)) h.0 (each xs h.1)

  pub if_passes : (test : Expr) (a b : Stmt) → Terms (terms_of p test) → StmtPasses p quiet inside number a → StmtPasses p quiet inside number b → StmtPasses p quiet inside number (s.If test a b)
  if_passes test a b f h k = of_walked (s.If test a b) _ (at_if Walked WalkedTask walk_step walk_task test a b) (
    record {
      terms = f;
      assignment = refl;
      format = tt;
      slots = refl;
      sync = or_true (has_coarrays p.kind);
      stands = λ i. refl;
    },
    all_append Passes (statements_of a) (statements_of b) h k,
  )

  pub while_passes : (test : Expr) (b : Stmt) (at : Place) → Terms (terms_of p test) → StmtPasses p quiet inside number b → StmtPasses p quiet inside number (s.While test b at)
  while_passes test b at f h = of_walked (s.While test b at) _ (at_while Walked WalkedTask walk_step walk_task test b at) (
    record {
      terms = f;
      assignment = refl;
      format = tt;
      slots = refl;
      sync = or_true (has_coarrays p.kind);
      stands = λ i. refl;
    },
    h,
  )

  -- ---- counted loops and their nests

  pub record HeadPasses (h : LoopHead) : Type 0 where
    pub slot : is_slot p h.index.number ≡ true
    pub terms : Terms (terms_of_head p h)

  pub counted_passes : (h : LoopHead) (b : Stmt) → HeadPasses h → StmtPasses p quiet inside number b → StmtPasses p quiet inside number (s.Counted h b)
  counted_passes h b f k = of_walked (s.Counted h b) _ (at_counted Walked WalkedTask walk_step walk_task h b) (
    record {
      terms = f.terms;
      assignment = refl;
      format = tt;
      slots = both_true (is_slot p h.index.number) true f.slot refl;
      sync = or_true (has_coarrays p.kind);
      stands = λ i. refl;
    },
    k,
  )

  behind : (front xs : List Statement) → AllByRecursion Passes (front ++ xs) → AllByRecursion Passes xs
  behind [] xs h = h
  behind (y ∷ ys) xs h = behind ys xs h.1

  at_head : (x : Stmt) (h : LoopHead) (b : Stmt) → Headed x h b → StmtPasses p quiet inside number x → HeadPasses h × StmtPasses p quiet inside number b
  at_head x h b k t =
      let r = behind k.front (Stmt-F.Counted h (writes_of b) ∷ statements_of b) (subst (AllByRecursion Passes) k.statements t) in
      (record { slot = left_true (is_slot p h.index.number) true r.0.slots; terms = r.0.terms }, r.1)

  pub heads_pass : (n : ℕ) (x : Stmt) → StmtPasses p quiet inside number x → AllByRecursion HeadPasses (nest_of n x).0
  heads_pass zero x t = tt
  heads_pass (suc n) x t = go (λ b u. heads_pass n b u) (head_of x) refl
    where
      go : ((b : Stmt) → StmtPasses p quiet inside number b → AllByRecursion HeadPasses (nest_of n b).0) → (o : Option (LoopHead × Stmt)) → head_of x ≡ o → AllByRecursion HeadPasses (nest_in (nest_of n) x o).0
      go inner None e = tt
      go inner (Some y) e = let r = at_head x y.0 y.1 (headed x y.0 y.1 e) t in (r.0, inner y.1 r.1)

  head_indices : (hs : List LoopHead) → AllByRecursion HeadPasses hs → AllByRecursion (λ n. is_slot p n ≡ true) (indices_of hs)
  head_indices [] f = tt
  head_indices (h ∷ hs) f = (f.0.slot, head_indices hs f.1)

  pub loop_passes : (d : LoopDirective) (b : Stmt) → inside ≡ false → AllByRecursion (λ n. is_slot p n ≡ true) (flat_map slots_of_point d.points) → AllByRecursion HeadPasses d.nest →
      AllByRecursion (λ n. is_slot p n ≡ true) (map (λ r. r.variable.number) d.reductions) → StmtPasses p quiet inside number b → StmtPasses p quiet inside number (s.Loop d b)
  loop_passes d b main points heads reductions h = of_walked (s.Loop d b) _ (at_loop Walked WalkedTask walk_step walk_task d b) (
    record {
      terms = all_flat (TermPasses p quiet inside number) (terms_of_head p) d.nest (all_map HeadPasses (λ h. Terms (terms_of_head p h)) (λ h f. f.terms) d.nest heads);
      assignment = refl;
      format = tt;
      slots = all_true (is_slot p) (slots_beside {A = List ℕ} {B = NodeSet} (Stmt-F.Loop d (writes_of b)))
          (all_append (λ n. is_slot p n ≡ true) (flat_map slots_of_point d.points) _ points (all_append (λ n. is_slot p n ≡ true) (indices_of d.nest) _ (head_indices d.nest heads) reductions));
      sync = or_true (has_coarrays p.kind);
      stands = λ i. absurd (cc (main, i));
    },
    h,
  )

  -- ---- tasks

  abbrev pub TaskPasses : Task → Type 0
  TaskPasses t = AllByRecursion Passes (fold-Task Walked WalkedTask walk_step walk_task t).statements

  pub task_passes : (nodes : NodeSet) (x : Stmt) (at : Place) → StmtPasses p quiet inside number x → TaskPasses (made_task nodes x at)
  task_passes nodes x at h = subst (λ (t : WalkedTask). AllByRecursion Passes t.statements) (sym (fold-roll-Task Walked WalkedTask walk_step walk_task (record { nodes = nodes; body = x; at = at }))) h

  pub tasks_pass : (ts : List Task) (at : Place) → inside ≡ false → AllByRecursion TaskPasses ts → StmtPasses p quiet inside number (s.Tasks ts at)
  tasks_pass ts at main h = of_walked (s.Tasks ts at) _ (at_tasks Walked WalkedTask walk_step walk_task ts at) (
    record {
      terms = tt;
      assignment = refl;
      format = tt;
      slots = refl;
      sync = or_true (has_coarrays p.kind);
      stands = λ i. absurd (cc (main, i));
    },
    each ts h,
  )
    where
      each : (ts : List Task) → AllByRecursion TaskPasses ts → AllByRecursion Passes (flat_map (λ t. t.statements) (map (fold-Task Walked WalkedTask walk_step walk_task) ts))
      each [] h = tt
      each (t ∷ ts) h = all_append Passes (fold-Task Walked WalkedTask walk_step walk_task t).statements _ h.0 (each ts h.1)
