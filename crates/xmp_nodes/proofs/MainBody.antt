-- The body of main, which has no `return` but as its last statement, in step; and the initialisers before it.
use Rattle.std.proofs.Common.{◌≡◌, ◌<◌, ◌≤◌, ◌+◌, ℕ, Bool, true, false, cond, List, [], ◌∷◌, map, Some, None, refl, sym, subst, ap, ◌∙◌, append-nil, arith}
use Rattle.std.specs.List.{AllByRecursion, count_by, last_or, flat_map}
use Rattle.std.proofs.lemmas.List.Sums.{sum_by-append, sum_by-cons}
use Rattle.std.proofs.lemmas.Bool.{leb-true}
use Rattle.xmp_prog.specs.declared.parts.ProgParts.{ProgParts}
use Rattle.xmp_prog.specs.declared.statements.Plain.{Plain}
use Rattle.xmp_prog.specs.declared.statements.Plain.TheVariants as plain
use Rattle.xmp_prog.specs.declared.statements.Stmt.{Stmt, map-Stmt, out-Stmt}
use Rattle.xmp_prog.specs.declared.statements.Stmt.TheOpen.{Stmt-F}
use Rattle.xmp_prog.specs.declared.statements.Stmt.TheVariants as stmt
use Rattle.xmp_prog.specs.declared.statements.Stmt.TheFolds.{fold-Task, fold-roll-Stmt}
use Rattle.xmp_prog.specs.declared.statements.Stmt.TheViews.{roll-Stmt, roll-out-Stmt}
use Rattle.xmp_prog.specs.declared.statements.Task.{Task}
use Rattle.xmp_prog.specs.Tests.{is_return, returns_of, last_returns, returns_last}
use Rattle.xmp_prog.specs.Statements.{Statement, Walked, WalkedTask, statement_of, statements_below, walk_step, walk_task, walked, statements_of}
use Rattle.xmp_prog.specs.Fits.{node_count}
use Rattle.xmp_prog.proofs.Rolls as rolls
use Rattle.xmp_paths.specs.declared.event.Event.{Event}
use Rattle.xmp_paths.specs.Plans.{Plan, skip, in_order}
use Rattle.xmp_paths.specs.Safe.{NothingWrong}
use Rattle.xmp_flow.specs.Statements.{events_of}
use Rattle.xmp_flow.specs.Program.{outermost}
use Rattle.xmp_flow.proofs.FormLaws.{events_block}
use Rattle.xmp_meaning.specs.declared.ends.Flow.{Flow}
use Rattle.xmp_meaning.specs.declared.ends.Flow.TheVariants.{Next, Returned}
use Rattle.xmp_meaning.specs.Runs.{RunIn, pure}
use Rattle.xmp_meaning.specs.Blocks.{after, block}
use Rattle.xmp_nodes.specs.Nodes.{Nodes}
use Rattle.xmp_nodes.specs.Lockstep.{lockstep}
use Rattle.xmp_nodes.proofs.Agrees.{Anything, IsNext, AllFollow}
use Rattle.xmp_nodes.proofs.Standing.{IsGlobal, PartFits}
use Rattle.xmp_nodes.proofs.Leaves.{noting, GivesNext}
use Rattle.xmp_nodes.proofs.Follow.{right_front, right_back}
use Rattle.xmp_nodes.proofs.InStep.{all_pure, all_value, all_on, all_then}
use Rattle.xmp_nodes.proofs.Lockstep.{Parts, FollowsAs, followed, plain_all_follow, of_block}

-- ---- how many `return` there are

abbrev one_of : Statement → ℕ
one_of y = cond (is_return y) 1 0

abbrev below : List Stmt → List Statement
below all = flat_map (λ (w : Walked). w.statements) (map walked all)

none_of : (ys : List Statement) → count_by is_return ys ≡ 0 → AllByRecursion (λ y. is_return y ≡ false) ys
none_of [] e = tt
none_of (y ∷ ys) e =
    let s : one_of y + count_by is_return ys ≡ 0 = sym (sum_by-cons one_of y ys) ∙ e in
    (of_bit (is_return y) refl s, none_of ys (omega (arith, s)))
  where
    of_bit : (b : Bool) → is_return y ≡ b → one_of y + count_by is_return ys ≡ 0 → is_return y ≡ false
    of_bit true f s = absurd (let o : one_of y ≡ 1 = ap (λ c. cond c 1 0) f in omega (arith, s, o))
    of_bit false f s = f

-- a statement stands in front of those in it
same_return : (o : Stmt-F Stmt Task) → is_return (statement_of (map-Stmt Stmt Task Walked WalkedTask walked (fold-Task Walked WalkedTask walk_step walk_task) o)) ≡ is_return o
same_return (Stmt-F.Plain (plain.Declare slot value at)) = refl
same_return (Stmt-F.Plain (plain.Set to compound value)) = refl
same_return (Stmt-F.Plain (plain.Return value)) = refl
same_return (Stmt-F.Plain (plain.Call function arguments at)) = refl
same_return (Stmt-F.Plain (plain.Print format arguments at)) = refl
same_return (Stmt-F.Plain (plain.Scan to at)) = refl
same_return (Stmt-F.Plain (plain.Sync status at)) = refl
same_return (Stmt-F.Plain (plain.Reflect arrays at)) = refl
same_return (Stmt-F.Plain (plain.Barrier at)) = refl
same_return (Stmt-F.Plain (plain.Cast variables from at)) = refl
same_return (Stmt-F.Plain (plain.Gmove target source at)) = refl
same_return (Stmt-F.Block all) = refl
same_return (Stmt-F.If e a b) = refl
same_return (Stmt-F.While e a at) = refl
same_return (Stmt-F.Counted head a) = refl
same_return (Stmt-F.Loop d a) = refl
same_return (Stmt-F.Tasks all at) = refl

walked_out : (x : Stmt) → walked x ≡ walk_step (map-Stmt Stmt Task Walked WalkedTask walked (fold-Task Walked WalkedTask walk_step walk_task) (out-Stmt x))
walked_out x = ap walked (sym (roll-out-Stmt x)) ∙ fold-roll-Stmt Walked WalkedTask walk_step walk_task (out-Stmt x)

own_return : (x : Stmt) → returns_of (Some x) ≤ count_by is_return (statements_of x)
own_return x =
    let form : Stmt-F Walked WalkedTask = map-Stmt Stmt Task Walked WalkedTask walked (fold-Task Walked WalkedTask walk_step walk_task) (out-Stmt x) in
    let rest : ℕ = count_by is_return (statements_below form) in
    let own : ℕ = cond (is_return (out-Stmt x)) 1 0 in
    let a : count_by is_return (statements_of x) ≡ own + rest =
    ap (λ (w : Walked). count_by is_return w.statements) (walked_out x)
    ∙ (sum_by-cons one_of (statement_of form) (statements_below form) ∙ ap (λ r. cond r 1 0 + rest) (same_return (out-Stmt x))) in
    let b : returns_of (Some x) ≡ own + 0 = sum_by-cons (λ (o : Stmt-F Stmt Task). cond (is_return o) 1 0) (out-Stmt x) [] in
    omega (arith, a, b)

last_return : (x : Stmt) (xs : List Stmt) → returns_of (last_or (Some x) xs) ≤ count_by is_return (below (x ∷ xs))
last_return x [] =
    let a : count_by is_return (below (x ∷ [])) ≡ count_by is_return (statements_of x) = ap (count_by is_return) (append-nil (statements_of x)) in
    let b = own_return x in
    omega (arith, a, b)
last_return x (y ∷ ys) =
    let a : count_by is_return (below (x ∷ y ∷ ys)) ≡ count_by is_return (statements_of x) + count_by is_return (below (y ∷ ys)) = sum_by-append one_of (statements_of x) (below (y ∷ ys)) in
    let b = last_return y ys in
    omega (arith, a, b)

module _ (parts : Parts) (p : ProgParts) (global : IsGlobal p) (some : 0 < node_count p) (input : List ℕ) where
  abbrev plan_of_block : List Stmt → Plan Event
  plan_of_block all = in_order (map (λ x. events_of x (outermost p)) all)

  abbrev all_run : Stmt → RunIn Nodes Flow
  all_run x = (lockstep p input x).all

  abbrev Goes : (x : Stmt) → Type 0
  Goes x = FollowsAs parts p global some input Anything x

  quiet_goes : (x : Stmt) → count_by is_return (statements_of x) ≡ 0 → PartFits p x → NothingWrong (events_of x (outermost p)) → FollowsAs parts p global some input IsNext x
  quiet_goes x e fits right = followed parts p global some input x (none_of (statements_of x) e) fits right

  plain_goes : (q : Plain) → PartFits p (stmt.Plain q) → NothingWrong (events_of (stmt.Plain q) (outermost p)) → Goes (stmt.Plain q)
  plain_goes q fits right = all_value p (GivesNext q) Anything (events_of (stmt.Plain q) (outermost p)) (noting p input (stmt.Plain q)) (all_run (stmt.Plain q)) (λ v h. tt)
      (plain_all_follow parts p global some input q fits right)

  -- the last statement may be `return`
  last_goes : (x : Stmt) → count_by is_return (statements_of x) ≤ returns_of (Some x) → PartFits p x → NothingWrong (events_of x (outermost p)) → Goes x
  last_goes x le fits right = of_form (out-Stmt x) refl
    where
      quiet : is_return (out-Stmt x) ≡ false → Goes x
      quiet e = all_value p IsNext Anything (events_of x (outermost p)) (noting p input x) (all_run x) (λ v h. tt)
          (quiet_goes x (let a : returns_of (Some x) ≡ 0 = sum_by-cons (λ (o : Stmt-F Stmt Task). cond (is_return o) 1 0) (out-Stmt x) [] ∙ ap (λ r. cond r 1 0 + 0) e in omega (arith, le, a)) fits right)

      of_plain : (q : Plain) → out-Stmt x ≡ Stmt-F.Plain q → Goes x
      of_plain q e =
          let same : x ≡ stmt.Plain q = sym (roll-out-Stmt x) ∙ (ap roll-Stmt e ∙ stmt.rolls-Plain q) in
          subst Goes (sym same) (plain_goes q (subst (PartFits p) same fits) (subst (λ y. NothingWrong (events_of y (outermost p))) same right))

      of_form : (o : Stmt-F Stmt Task) → out-Stmt x ≡ o → Goes x
      of_form (Stmt-F.Plain q) e = of_plain q e
      of_form (Stmt-F.Block all) e = quiet (ap is_return e)
      of_form (Stmt-F.If t a b) e = quiet (ap is_return e)
      of_form (Stmt-F.While t a at) e = quiet (ap is_return e)
      of_form (Stmt-F.Counted head a) e = quiet (ap is_return e)
      of_form (Stmt-F.Loop d a) e = quiet (ap is_return e)
      of_form (Stmt-F.Tasks all at) e = quiet (ap is_return e)

  -- statements of which the last alone may be `return`
  list_goes : (x : Stmt) (xs : List Stmt) → count_by is_return (below (x ∷ xs)) ≤ returns_of (last_or (Some x) xs) → AllByRecursion (PartFits p) (x ∷ xs) → NothingWrong (plan_of_block (x ∷ xs))
      → AllFollow p Anything (plan_of_block (x ∷ xs)) (block (map (noting p input) (x ∷ xs))) (block (map all_run (x ∷ xs)))
  list_goes x [] le fits right =
      let a : count_by is_return (below (x ∷ [])) ≡ count_by is_return (statements_of x) = ap (count_by is_return) (append-nil (statements_of x)) in
      all_on p Anything Anything (events_of x (outermost p)) skip (noting p input x) (all_run x) (λ flow. after flow (pure Next)) (λ flow. after flow (pure Next))
      (last_goes x (omega (arith, a, le)) fits.0 (right_front (events_of x (outermost p)) skip right)) (λ flow u. nothing_behind flow)
    where
      nothing_behind : (flow : Flow) → AllFollow p Anything skip (after flow (pure Next)) (after flow (pure Next))
      nothing_behind Next = all_pure p Anything Next tt
      nothing_behind (Returned v) = all_pure p Anything (Returned v) tt
  list_goes x (y ∷ ys) le fits right =
      let a : count_by is_return (below (x ∷ y ∷ ys)) ≡ count_by is_return (statements_of x) + count_by is_return (below (y ∷ ys)) = sum_by-append one_of (statements_of x) (below (y ∷ ys)) in
      let b = last_return y ys in
      all_then p Anything (events_of x (outermost p)) (plan_of_block (y ∷ ys)) (noting p input x) (block (map (noting p input) (y ∷ ys))) (all_run x) (block (map all_run (y ∷ ys)))
      (quiet_goes x (omega (arith, a, b, le)) fits.0 (right_front (events_of x (outermost p)) (plan_of_block (y ∷ ys)) right))
      (list_goes y ys (omega (arith, a, b, le)) fits.1 (right_back (events_of x (outermost p)) (plan_of_block (y ∷ ys)) right))

  block_goes : (all : List Stmt) → count_by is_return (below all) ≤ returns_of (last_or None all) → AllByRecursion (PartFits p) all → NothingWrong (plan_of_block all)
      → AllFollow p Anything (plan_of_block all) (block (map (noting p input) all)) (block (map all_run all))
  block_goes [] le fits right = all_pure p Anything Next tt
  block_goes (x ∷ xs) le fits right = list_goes x xs le fits right

  pub main_goes : returns_last p.body ≡ true → PartFits p p.body → NothingWrong (events_of p.body (outermost p)) → Goes p.body
  main_goes e fits right = of_form (out-Stmt p.body) refl
    where
      le : count_by is_return (statements_of p.body) ≤ last_returns (out-Stmt p.body)
      le = leb-true (count_by is_return (statements_of p.body)) (last_returns (out-Stmt p.body)) e

      quiet : last_returns (out-Stmt p.body) ≡ 0 → Goes p.body
      quiet z = all_value p IsNext Anything (events_of p.body (outermost p)) (noting p input p.body) (all_run p.body) (λ v h. tt) (quiet_goes p.body (let l = le in omega (arith, l, z)) fits right)

      of_block_form : (all : List Stmt) → out-Stmt p.body ≡ Stmt-F.Block all → Goes p.body
      of_block_form all f =
          let same : p.body ≡ stmt.Block all = sym (roll-out-Stmt p.body) ∙ (ap roll-Stmt f ∙ stmt.rolls-Block all) in
          let here : PartFits p (stmt.Block all) = subst (PartFits p) same fits in
          let fine : NothingWrong (events_of (stmt.Block all) (outermost p)) = subst (λ y. NothingWrong (events_of y (outermost p))) same right in
          let counted : count_by is_return (statements_of p.body) ≡ 0 + count_by is_return (below all) =
          ap (λ y. count_by is_return (statements_of y)) same
          ∙ (ap (λ (w : Walked). count_by is_return w.statements) (rolls.at_block Walked WalkedTask walk_step walk_task all)
          ∙ sum_by-cons one_of (Stmt-F.Block (map (λ (w : Walked). w.writes) (map walked all))) (below all)) in
          let last : last_returns (out-Stmt p.body) ≡ returns_of (last_or None all) = ap last_returns f in
          let l = le in
          subst Goes (sym same)
          (of_block parts p global some input Anything all
          (block_goes all (omega (arith, counted, last, l)) (parts.block_parts p all here) (subst NothingWrong (events_block all (outermost p)) fine)))

      of_form : (o : Stmt-F Stmt Task) → out-Stmt p.body ≡ o → Goes p.body
      of_form (Stmt-F.Plain q) f = quiet (ap last_returns f)
      of_form (Stmt-F.Block all) f = of_block_form all f
      of_form (Stmt-F.If t a b) f = quiet (ap last_returns f)
      of_form (Stmt-F.While t a at) f = quiet (ap last_returns f)
      of_form (Stmt-F.Counted head a) f = quiet (ap last_returns f)
      of_form (Stmt-F.Loop d a) f = quiet (ap last_returns f)
      of_form (Stmt-F.Tasks all at) f = quiet (ap last_returns f)
