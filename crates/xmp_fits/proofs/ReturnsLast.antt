-- In a main that breaks no rule no statement is a `return` but the last one of its body.
use Rattle.std.proofs.Common.{◌≡◌, ◌∙◌, sym, ap, refl, ◌⊎◌, inl, inr, ⊎_elim, ◌++◌, ◌∷◌, [], ℕ, ◌+◌, ◌||◌, not, List, true, false, Option, Some, None, map, length, arith}
use Rattle.std.specs.Prelude.{⊤, nat_le, is_some}
use Rattle.std.proofs.Common.{cond}
use Rattle.std.specs.List.{AllByRecursion, count_by, last_or, flat_map}
use Rattle.std.proofs.lemmas.List.{append-nil}
use Rattle.std.proofs.lemmas.List.Sums.{sum_by-cons, sum_by-append}
use Rattle.std.proofs.Math.Nat.{zero-add}
use Rattle.std.proofs.lemmas.Bool.{le-leb}
use Rattle.xmp_base.specs.declared.place.Place.{Place}
use Rattle.xmp_num.specs.declared.types.Ty.{Ty}
use Rattle.xmp_prog.specs.declared.expressions.Expr as prog
use Rattle.xmp_prog.specs.declared.expressions.Expr.TheOpen.{Expr-F}
use Rattle.xmp_prog.specs.declared.expressions.Access.{Access}
use Rattle.xmp_prog.specs.declared.statements.Plain.TheVariants as p
use Rattle.xmp_prog.specs.declared.statements.Stmt.{Stmt, out-Stmt, out-roll-Stmt}
use Rattle.xmp_prog.specs.declared.statements.Stmt.TheVariants as s
use Rattle.xmp_prog.specs.declared.statements.Stmt.TheOpen.{Stmt-F}
use Rattle.xmp_prog.specs.declared.statements.Task.{Task}
use Rattle.xmp_prog.specs.Statements.{Statement, Walked, WalkedTask, statements_of, walk_step, walk_task, walked}
use Rattle.xmp_prog.specs.Tests.{is_return, returns_in, returns_of, last_returns, returns_last}
use Rattle.xmp_prog.proofs.Rolls.{at_block, at_plain}
use Rattle.xmp_syntax.specs.declared.expression.Expr.{Expr}
use Rattle.xmp_syntax.specs.declared.declaration.Declarator.{Declarator}
use Rattle.xmp_syntax.specs.declared.declaration.Declarator.TheVariants as declarator
use Rattle.xmp_syntax.specs.declared.directive.LoopLine.{LoopLine}
use Rattle.xmp_syntax.specs.declared.statement.ForFirst.{ForFirst}
use Rattle.xmp_syntax.specs.declared.statement.ForFirst.TheVariants as for_first
use Rattle.xmp_syntax.specs.declared.statement.Plain.{Plain}
use Rattle.xmp_syntax.specs.declared.statement.Plain.TheVariants as plain
use Rattle.xmp_syntax.specs.declared.statement.Simple.{Simple}
use Rattle.xmp_syntax.specs.declared.statement.Simple.TheVariants as simple
use Rattle.xmp_names.specs.declared.names.Region.{Region}
use Rattle.xmp_names.specs.declared.names.Region.TheVariants as region
use Rattle.xmp_walk.specs.declared.loops.First.{First}
use Rattle.xmp_directives.specs.declared.loop_lines.LoopParts.{LoopParts}
use Rattle.xmp_names.specs.declared.operators.Operator.{Operator}
use Rattle.xmp_names.specs.declared.operators.Operator.TheVariants.{Arithmetic, Compare, Shift, Both, Either}
use Rattle.xmp_names.specs.declared.rules.Rule.TheVariants.{N3, N4, N7}
use Rattle.xmp_names.specs.declared.typed.Operand.{Operand}
use Rattle.xmp_names.specs.declared.world.World.{World}
use Rattle.xmp_names.specs.Rules.{unless}
use Rattle.xmp_names.specs.Expressions.{expr_of}
use Rattle.xmp_names.specs.Walk as walk
use Rattle.xmp_names.specs.Walk.{Step, Gave, Run, and_then, is_main, is_known, first_place}
use Rattle.xmp_walk.specs.Declarations.{local_declarator, declare_array}
use Rattle.xmp_names.specs.Lists.{listed, inner}
use Rattle.xmp_walk.specs.Statements.{simple_of, first_of, set, compound_of, call_in, return_of}
use Rattle.xmp_directives.specs.Directives.{judged_loop, nest_of, task_line, loop_line, made_task, array_name, scalar_name, set_of, side_of, sections_match}
use Rattle.xmp_prog.specs.Directives.{sections_in}
use Rattle.xmp_walk.specs.Program.{plain_of, program_of}
use Rattle.xmp_syntax.specs.declared.program.Tree.{Tree}
use Rattle.xmp_parts.proofs.Unbroken.{left_none, right_none, holds}
use Rattle.xmp_fits.specs.NumbersLie.{numbers_lie, tree_lies}
use Rattle.xmp_directives.proofs.Nests.{out_block}
use Rattle.xmp_fits.proofs.NestsPass.{nest_passes}
use Rattle.xmp_fits.proofs.AllInside.{AllIn, AllInTask, each_stmt, in_plain, in_block, in_if, in_while, in_counted, in_loop, in_task, in_tasks}
use Rattle.xmp_fits.proofs.GoodWorlds.{Own, Good}
use Rattle.xmp_fits.proofs.KeptRuns.{Goes}
use Rattle.xmp_fits.proofs.Respected.{Ends, ends_map}
use Rattle.xmp_fits.proofs.Holding.{Unbroken, Holds}
use Rattle.xmp_fits.proofs.FitPrinciple.{Forms}
use Rattle.xmp_fits.proofs.ProgramWalk.{MainOf, Starts}
use Rattle.xmp_fits.proofs.ProgramFits.{Ended, program_fits}
use Rattle.xmp_fits.proofs.OneWorld.{Tests, Cases, FirstFits, facts_of, forms_of}

-- ---- statements without `return`

abbrev NoReturn : Statement → Type 0
NoReturn x = is_return x ≡ false

abbrev pub Quiet : Stmt → Type 0
Quiet x = AllIn NoReturn x

quiet_set : (c : Option Operator) (at : Place) (t v : Operand) → Quiet (set c at t v)
quiet_set (Some (Arithmetic o)) at t v = in_plain NoReturn _ refl
quiet_set (Some (Shift o)) at t v = in_plain NoReturn _ refl
quiet_set (Some (Compare o)) at t v = in_plain NoReturn _ refl
quiet_set (Some Both) at t v = in_plain NoReturn _ refl
quiet_set (Some Either) at t v = in_plain NoReturn _ refl
quiet_set None at t v = in_plain NoReturn _ refl

quiet_call : (x : Expr-F prog.Expr Access) → Quiet (call_in x)
quiet_call (Expr-F.Call k arguments at) = in_plain NoReturn _ refl
quiet_call _ = in_block NoReturn [] refl tt

-- ---- runs that make such statements, whatever breaks

abbrev Makes : {A : Type 0} → (A → Type 0) → Step A → Type 0
Makes P t = Ends (λ a v. P a) t

then_makes : {A B : Type 0} (P : B → Type 0) (t : Step A) (f : A → Run B) → ((a : A) (v : World) → Makes P (f a v)) → Makes P (and_then t f)
then_makes P (Gave a v) f k = k a v

after_makes : {A B : Type 0} (P : B → Type 0) (q : Run A) (f : A → Run B) → ((a : A) (v : World) → Makes P (f a v)) → (w : World) → Makes P (walk.◌>>=◌ q f w)
after_makes P q f k w = then_makes P (q w) f k

simple_makes : (x : Simple) (w : World) → Makes Quiet (simple_of x w)
simple_makes (simple.Assign r op x) w = quiet_set (compound_of op.what) op.at _ _
simple_makes (simple.Postfix r op) w = quiet_set (compound_of op.what) op.at _ _
simple_makes (simple.Prefix op r) w = quiet_set (compound_of op.what) op.at _ _
simple_makes (simple.Call c) w = quiet_call _

weaker : {A : Type 0} (P : A → Type 0) (X : World → Type 0) (t : Step A) → Makes P t → Unbroken (λ v a. X v → P a) t
weaker P X (Gave a v) h = λ e x. h

-- ---- main's `return` breaks a rule where it isn't the last statement

no_main : (r : Region) → (not (is_main r) || false) ≡ true → is_main r ≡ true → ⊥
no_main region.File h k = cc k
no_main region.Function h k = cc k
no_main region.Main h k = cc h

return_quiet : (own : Own) (at : Place) (x : Expr) → Holds own (λ w v m. is_main v.names.region ≡ true → Quiet m) (return_of false at x)
return_quiet own at x = record {
  at = λ w g b m.
      let tests : (w.broken ++ unless (not (is_main w.names.region) || false) N7 at) ++ (expr_of w.names x).notes.broken ≡ [] = left_none _ (unless (not (is_main w.names.region) || is_known (expr_of w.names x).operand.value) N4 (first_place x)) b in
      absurd (no_main w.names.region (holds (not (is_main w.names.region) || false) N7 at (right_none w.broken _ (left_none _ (expr_of w.names x).notes.broken tests))) m);
}

-- ---- the tests of the induction

abbrev pub return_tests : Tests
return_tests = record {
  Fit = λ v x. is_main v.names.region ≡ true → Quiet x;
  Reads = λ v x. ⊤;
  Lines = λ v x. ⊤;
  Sets = λ before v x. ⊤;
  Sharing = λ v sets all. is_main v.names.region ≡ true → AllByRecursion (AllInTask NoReturn) all;
}

pub anything : {A : Type 0} (own : Own) (run : Run A) → Holds own (λ w v a. ⊤) run
anything own run = record { at = λ w g. all (run w) }
  where
    all : {A : Type 0} (t : Step A) → Unbroken (λ v (a : A). ⊤) t
    all (Gave a v) = λ e. tt

made_quiet : (own : Own) (run : Run Stmt) → ((w : World) → Makes Quiet (run w)) → Holds own (λ w v x. is_main v.names.region ≡ true → Quiet x) run
made_quiet own run h = record { at = λ w g. weaker Quiet (λ v. is_main v.names.region ≡ true) (run w) (h w) }

plain_quiet : (own : Own) (x : Plain) → Holds own (λ w v x. is_main v.names.region ≡ true → Quiet x) (plain_of x)
plain_quiet own (plain.Empty at) = made_quiet own _ (λ w. in_block NoReturn [] refl tt)
plain_quiet own (plain.Simple x at) = made_quiet own _ (simple_makes x)
plain_quiet own (plain.Return at x end) = return_quiet own at x
plain_quiet own (plain.Print at x end) = made_quiet own _ (λ w. in_plain NoReturn _ refl)
plain_quiet own (plain.Scan at x end) = made_quiet own _ (λ w. in_plain NoReturn _ refl)
plain_quiet own (plain.Sync at x end) = made_quiet own _ (λ w. in_plain NoReturn _ refl)
plain_quiet own (plain.Reflect line names) = made_quiet own (plain_of (plain.Reflect line names))
    (after_makes Quiet (walk.directive_at line.word) (λ _. walk.◌>>=◌ (walk.each array_name (listed names.item)) (λ arrays. walk.pure (s.Plain (p.Reflect arrays line.word))))
    (λ _ v. after_makes Quiet (walk.each array_name (listed names.item)) (λ arrays. walk.pure (s.Plain (p.Reflect arrays line.word))) (λ arrays u. in_plain NoReturn _ refl) v))
plain_quiet own (plain.Barrier line) = made_quiet own _ (λ w. in_plain NoReturn _ refl)
plain_quiet own (plain.Bcast line names from_at set) = made_quiet own (plain_of (plain.Bcast line names from_at set))
    (after_makes Quiet (walk.directive_at line.word) (λ _. walk.◌>>=◌ (walk.each scalar_name (listed names.item)) (λ variables. walk.◌>>=◌ (set_of true line.word set) (λ nodes. walk.pure (s.Plain (p.Cast variables nodes line.word)))))
    (λ _ v. after_makes Quiet (walk.each scalar_name (listed names.item)) (λ variables. walk.◌>>=◌ (set_of true line.word set) (λ nodes. walk.pure (s.Plain (p.Cast variables nodes line.word))))
    (λ variables u. after_makes Quiet (set_of true line.word set) (λ nodes. walk.pure (s.Plain (p.Cast variables nodes line.word))) (λ nodes t. in_plain NoReturn _ refl) u) v))
plain_quiet own (plain.Gmove line target equals source end) = made_quiet own (plain_of (plain.Gmove line target equals source end))
    (after_makes Quiet (walk.directive_at line.word) (λ _. walk.◌>>=◌ (side_of target) (λ a. walk.◌>>=◌ (side_of source) (λ b. walk.◌>>=◌ (walk.judge (sections_match (sections_in a) (sections_in b)) N3 target.name.at) (λ _. walk.pure (s.Plain (p.Gmove a b line.word))))))
    (λ _ v. after_makes Quiet (side_of target) (λ a. walk.◌>>=◌ (side_of source) (λ b. walk.◌>>=◌ (walk.judge (sections_match (sections_in a) (sections_in b)) N3 target.name.at) (λ _. walk.pure (s.Plain (p.Gmove a b line.word)))))
    (λ a u. after_makes Quiet (side_of source) (λ b. walk.◌>>=◌ (walk.judge (sections_match (sections_in a) (sections_in b)) N3 target.name.at) (λ _. walk.pure (s.Plain (p.Gmove a b line.word)))) (λ b t. in_plain NoReturn _ refl) u) v))

declarator_makes : (ty : Ty) (d : Declarator) (w : World) → Makes (AllByRecursion Quiet) (local_declarator ty d w)
declarator_makes ty (declarator.Scalar n None) w = (in_plain NoReturn _ refl, tt)
declarator_makes ty (declarator.Scalar n (Some x)) w = (in_plain NoReturn _ refl, tt)
declarator_makes ty (declarator.Array n extents image) w =
    after_makes (AllByRecursion Quiet) (declare_array ty n (inner extents) (is_some image)) (λ _. walk.pure []) (λ a v. tt) w

first_makes : (x : ForFirst) (w : World) → Makes (λ (x : First). AllByRecursion Quiet x.declared) (first_of x w)
first_makes (for_first.Assign r at x) w = tt
first_makes (for_first.Declare at n equals x) w = (in_plain NoReturn _ refl, tt)

quiet_all : (v : World) (r : is_main v.names.region ≡ true) (xs : List Stmt) → AllByRecursion (λ x. is_main v.names.region ≡ true → Quiet x) xs → AllByRecursion Quiet xs
quiet_all v r [] h = tt
quiet_all v r (x ∷ xs) h = (h.0 r, quiet_all v r xs h.1)

assumed : (v : World) (xs : List Stmt) → AllByRecursion Quiet xs → AllByRecursion (λ x. is_main v.names.region ≡ true → Quiet x) xs
assumed v [] h = tt
assumed v (x ∷ xs) h = (λ r. h.0, assumed v xs h.1)

and_one : (P : Task → Type 0) (xs : List Task) (y : Task) → AllByRecursion P xs → P y → AllByRecursion P (xs ++ y ∷ [])
and_one P [] y h k = (k, tt)
and_one P (x ∷ xs) y h k = (h.0, and_one P xs y h.1 k)

pub return_cases : (own : Own) → Cases own return_tests
return_cases own = record {
  fit_stays = λ w v x g h r. h (sym (ap is_main g.region) ∙ r);
  reads_stay = λ w v x g h. tt;
  lines_stay = λ w v x g h. tt;
  sharing_stays = λ w v sets all g h r. h (sym (ap is_main g.region) ∙ r);
  sets_stay = λ before w v x g h. tt;
  plain = λ x n. plain_quiet own x;
  declarator = λ ty d n. record { at = λ w g. each_weaker (local_declarator ty d w) (declarator_makes ty d w) };
  test = λ x n. anything own (walk.typed x);
  one = λ v. tt;
  block = λ v all g h r. in_block NoReturn all refl (quiet_all v r all h);
  if_of = λ v x a c g h i j r. in_if NoReturn x.made a c refl (i r) (j r);
  while_of = λ v x a at g h i r. in_while NoReturn x.made a at refl (i r);
  first = λ x n. record { at = λ w g. first_weaker (first_of x w) (first_makes x w) };
  counted = λ h v shape first test next body g e m i j k l r. in_counted NoReturn _ body refl (l r);
  line = λ l n. anything own (loop_line l);
  loop = λ l v parts x g h i. loop_weaker l parts x v i;
  set = λ before l n. anything own (task_line before l);
  no_task = λ v r. tt;
  one_task = λ v before done nodes x at h i j r. and_one (AllInTask NoReturn) done (made_task nodes x at) (h r) (in_task NoReturn nodes x at (j r));
  tasks = λ v before done at e g h r. in_tasks NoReturn done at refl (h r);
}
  where
    each_weaker : (t : Step (List Stmt)) → Makes (AllByRecursion Quiet) t → Unbroken (λ v all. AllByRecursion (λ x. is_main v.names.region ≡ true → Quiet x) all) t
    each_weaker (Gave all v) h = λ e. assumed v all h

    first_weaker : (t : Step First) → Makes (λ (x : First). AllByRecursion Quiet x.declared) t → Unbroken (λ v x. FirstFits return_tests v x) t
    first_weaker (Gave x v) h = λ e. record { declared = assumed v x.declared h; set = λ r. quiet_set None x.at x.target x.value; target = tt; value = tt }

    loop_weaker : (l : LoopLine) (parts : LoopParts) (x : Stmt) (v : World) → (is_main v.names.region ≡ true → Quiet x) → Unbroken (λ u m. is_main u.names.region ≡ true → Quiet m) (judged_loop l.line.word parts (nest_of (length parts.names) x) v)
    loop_weaker l parts x v h = by parts.template
      where
        by : (t : Option ℕ) → Unbroken (λ u m. is_main u.names.region ≡ true → Quiet m) (judged_loop l.line.word (record parts { template = t }) (nest_of (length parts.names) x) v)
        by None = λ e r. in_loop NoReturn _ _ refl (nest_passes NoReturn (length parts.names) x (h r))
        by (Some k) = λ e r. in_loop NoReturn _ _ refl (nest_passes NoReturn (length parts.names) x (h r))

pub return_forms : (own : Own) → Forms own (facts_of return_tests)
return_forms own = forms_of own return_tests (return_cases own)

-- ---- the body of main

-- Statements without `return`, or such statements and a `return` behind them.
pub record OneReturn (all : List Stmt) : Type 0 where
  pub front : List Stmt
  pub value : prog.Expr
  pub is : all ≡ front ++ s.Plain (p.Return value) ∷ []
  pub quiet : AllByRecursion Quiet front

abbrev pub MainReturns : Own → World → World → List Stmt → Type 0
MainReturns own w v all = is_main v.names.region ≡ true → AllByRecursion Quiet all ⊎ OneReturn all

pub return_whole : (own : Own) (w v : World) (all : List Stmt) → AllByRecursion (λ x. is_main v.names.region ≡ true → Quiet x) all → MainReturns own w v all
return_whole own w v all h r = inl (quiet_all v r all h)

pub return_last : (own : Own) (at : Place) (x : Expr) → numbers_lie x ≡ true → (w v : World) (done : List Stmt) → Goes w v → Good own v → AllByRecursion (λ x. is_main v.names.region ≡ true → Quiet x) done →
    Unbroken (λ u one. MainReturns own w u (done ++ one ∷ [])) (return_of true at x v)
return_last own at x n w v done g h i = λ e r. inr (record { front = done; value = _; is = refl; quiet = quiet_all v r done i })

-- ---- the clause

none_counted : (xs : List Statement) → AllByRecursion NoReturn xs → count_by is_return xs ≡ 0
none_counted [] h = refl
none_counted (x ∷ xs) h = sum_by-cons (λ y. cond (is_return y) 1 0) x xs ∙ (ap (λ b. cond b 1 0 + count_by is_return xs) h.0 ∙ ap (λ n. 0 + n) (none_counted xs h.1))

abbrev inside : List Stmt → List Statement
inside xs = flat_map (λ (w : Walked). w.statements) (map walked xs)

front_counted : (front : List Stmt) (r : Stmt) → AllByRecursion Quiet front → count_by is_return (inside (front ++ r ∷ [])) ≡ count_by is_return (statements_of r)
front_counted [] r h = ap (count_by is_return) (append-nil (statements_of r))
front_counted (x ∷ xs) r h =
    sum_by-append (λ y. cond (is_return y) 1 0) (statements_of x) (inside (xs ++ r ∷ []))
    ∙ (ap (λ n. n + count_by is_return (inside (xs ++ r ∷ []))) (none_counted (statements_of x) h.0)
    ∙ (ap (λ n. 0 + n) (front_counted xs r h.1) ∙ zero-add (count_by is_return (statements_of r))))

block_counted : (all : List Stmt) → returns_in (s.Block all) ≡ count_by is_return (inside all)
block_counted all =
    ap (λ (w : Walked). count_by is_return w.statements) (at_block Walked WalkedTask walk_step walk_task all)
    ∙ (sum_by-cons (λ y. cond (is_return y) 1 0) (Stmt-F.Block (map (λ (w : Walked). w.writes) (map walked all))) (inside all) ∙ zero-add (count_by is_return (inside all)))

return_counted : (value : prog.Expr) → count_by is_return (statements_of (s.Plain (p.Return value))) ≡ 1
return_counted value = ap (λ (w : Walked). count_by is_return w.statements) (at_plain Walked WalkedTask walk_step walk_task (p.Return value))

last_is : (o : Option Stmt) (front : List Stmt) (r : Stmt) → last_or o (front ++ r ∷ []) ≡ Some r
last_is o [] r = refl
last_is o (x ∷ xs) r = last_is (Some x) xs r

out_return : (value : prog.Expr) → returns_of (Some (s.Plain (p.Return value))) ≡ 1
out_return value = ap (λ o. count_by is_return (o ∷ [])) (ap out-Stmt (sym (s.rolls-Plain (p.Return value))) ∙ out-roll-Stmt (Stmt-F.Plain (p.Return value)))

fits_quiet : (all : List Stmt) → AllByRecursion Quiet all → returns_last (s.Block all) ≡ true
fits_quiet all h = ap (λ n. nat_le n (last_returns (out-Stmt (s.Block all)))) (block_counted all ∙ none_counted (inside all) (each_stmt NoReturn all h))
    ∙ le-leb 0 (last_returns (out-Stmt (s.Block all))) (omega arith)

fits_one : (all : List Stmt) → OneReturn all → returns_last (s.Block all) ≡ true
fits_one all h =
    let a : returns_in (s.Block all) ≡ 1 = block_counted all ∙ (ap (λ l. count_by is_return (inside l)) h.is ∙ (front_counted h.front (s.Plain (p.Return h.value)) h.quiet ∙ return_counted h.value)) in
    let b : last_returns (out-Stmt (s.Block all)) ≡ 1 = ap last_returns (out_block all) ∙ (ap (λ l. returns_of (last_or None l)) h.is ∙ (ap returns_of (last_is None h.front (s.Plain (p.Return h.value))) ∙ out_return h.value)) in
    ap (λ n. nat_le n (last_returns (out-Stmt (s.Block all)))) a ∙ ap (λ n. nat_le 1 n) b

fits_body : (all : List Stmt) → AllByRecursion Quiet all ⊎ OneReturn all → returns_last (s.Block all) ≡ true
fits_body all h = ⊎_elim (fits_quiet all) (fits_one all) h

no_starts : Starts (λ w x. ⊤)
no_starts = record { stays = λ w v x l h. tt; typed = λ own slot x n w g h. (anything own (walk.typed_constant x)).at w g }

main_returns : (whole : Stmt) (v : World) → MainOf MainReturns v whole → returns_last whole ≡ true
main_returns whole v m =
    let r : m.body.end.names.region ≡ region.Main = m.body.goes.onward.region ∙ (m.body.begins.onward.region ∙ m.body.region) in
    ap returns_last m.is ∙ fits_body m.statements (m.body.fits (ap is_main r))

-- In a program that breaks no rule main has no `return` but as its last statement.
pub returns_fit : (t : Tree) (given : Option ℕ) → tree_lies t ≡ true → Ends (λ whole v. v.broken ≡ [] → returns_last whole ≡ true) (program_of t given)
returns_fit t given n =
    ends_map (λ whole v. v.broken ≡ [] → Ended (λ own. facts_of return_tests) MainReturns (λ w x. ⊤) v whole) (λ whole v. v.broken ≡ [] → returns_last whole ≡ true) (program_of t given)
    (program_fits (λ own. facts_of return_tests) return_forms MainReturns return_whole return_last (λ w x. ⊤) no_starts t given n)
    (λ whole v h e. ⊎_elim (main_returns whole v) (λ nothing. ap returns_last nothing ∙ fits_quiet [] tt) (h e).main)
