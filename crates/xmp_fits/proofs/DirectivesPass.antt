-- What is to be shown of one statement of a program with directives, and of a statement by those in it.
use Rattle.std.proofs.Common.{◌≡◌, sym, ap, refl, subst, ◌++◌, ◌∷◌, [], ◌&&◌, Bool, true, List, length, map, IsTrue}
use Rattle.std.specs.Prelude.{nat_lt}
use Rattle.std.specs.List.{list_all, flat_map, AllByRecursion}
use Rattle.xmp_base.specs.declared.place.Place.{Place}
use Rattle.xmp_map.specs.declared.grid.NodeSet.{NodeSet}
use Rattle.xmp_prog.specs.declared.expressions.Expr.{Expr}
use Rattle.xmp_prog.specs.declared.statements.LoopDirective.{LoopDirective}
use Rattle.xmp_prog.specs.declared.statements.LoopHead.{LoopHead}
use Rattle.xmp_prog.specs.declared.statements.Plain.{Plain}
use Rattle.xmp_prog.specs.declared.statements.Stmt.{Stmt}
use Rattle.xmp_prog.specs.declared.statements.Stmt.TheVariants as s
use Rattle.xmp_prog.specs.declared.statements.Stmt.TheOpen.{Stmt-F}
use Rattle.xmp_prog.specs.declared.statements.Stmt.TheFolds.{fold-Task}
use Rattle.xmp_prog.specs.declared.statements.Task.{Task}
use Rattle.xmp_prog.specs.declared.parts.ProgParts.{ProgParts}
use Rattle.xmp_prog.specs.Counted.{is_counted}
use Rattle.xmp_prog.specs.Directives.{at_gmoves, at_loops, cast_fits, has_indices, has_points, indices_of_nest, indices_once, is_small_point, names_template, nest_counted, sections_agree, side_fits, tasks_apart, tasks_inside}
use Rattle.xmp_prog.specs.Fits.{DirectivesFit, all_statements, statements_of_program}
use Rattle.xmp_prog.specs.Statements.{Statement, Walked, WalkedTask, arrays_beside, statements_of, walk_step, walk_task, walked, writes_of}
use Rattle.xmp_prog.specs.Tests.{counted_fits}
use Rattle.xmp_prog.proofs.Rolls.{at_block, at_counted, at_if, at_loop, at_plain, at_tasks, at_while}
use Rattle.xmp_names.specs.declared.world.World.{World}
use Rattle.xmp_names.specs.Walk.{Run}
use Rattle.xmp_fits.proofs.Endings.{Ending}
use Rattle.xmp_fits.proofs.GoodWorlds.{Good, Own}
use Rattle.xmp_fits.proofs.KeptRuns.{Kept}
use Rattle.xmp_fits.proofs.Respected.{Ends}
use Rattle.xmp_fits.proofs.MapsPass.{all_pass_of}

-- ---- one statement

-- Whether the arrays that a statement names outside its expressions are the program's.
abbrev pub names_arrays : ProgParts → Statement → Bool
names_arrays p x = list_all (λ a. nat_lt a (length p.arrays)) (arrays_beside x)

abbrev pub both_sides : ProgParts → Statement → Bool
both_sides p x = at_gmoves (λ target source. side_fits p target && side_fits p source) x

pub record DirectiveFits (p : ProgParts) (x : Statement) : Type 0 where
  pub counted : counted_fits p x ≡ true
  pub loop_templates : at_loops (names_template p) x ≡ true
  pub points : at_loops (has_points p) x ≡ true
  pub constants : at_loops (λ d. list_all is_small_point d.points) x ≡ true
  pub distributed : at_loops (has_indices p) x ≡ true
  pub indices : at_loops indices_once x ≡ true
  pub nest_indices : at_loops indices_of_nest x ≡ true
  pub nests : nest_counted p x ≡ true
  pub arrays : names_arrays p x ≡ true
  pub sides : both_sides p x ≡ true
  pub sections : at_gmoves sections_agree x ≡ true
  pub casts : cast_fits p x ≡ true
  pub tasks : tasks_inside p x ≡ true
  pub tasks_apart : tasks_apart p x ≡ true

-- All statements in a statement.
abbrev pub StmtFits : ProgParts → Stmt → Type 0
StmtFits p x = AllByRecursion (DirectiveFits p) (statements_of x)

-- What a step makes fits in each program that the walk ends in.
abbrev pub StmtMade : Stmt → World → Type 0
StmtMade x v = (p : ProgParts) → Ending v p → StmtFits p x

-- A run that goes on, and whose statement fits.
pub record Makes (run : Run Stmt) : Type 0 where
  pub goes : Kept run
  pub fits : (own : Own) (w : World) → Good own w → Ends StmtMade (run w)

-- ---- all statements of a program

pub map_all : {A : Type 0} (P Q : A → Type 0) → ((x : A) → P x → Q x) → (xs : List A) → AllByRecursion P xs → AllByRecursion Q xs
map_all P Q f [] h = tt
map_all P Q f (x ∷ xs) h = (f x h.0, map_all P Q f xs h.1)

pub tested : (p : ProgParts) (test : Statement → Bool) → ((x : Statement) → DirectiveFits p x → test x ≡ true) → (xs : List Statement) → AllByRecursion (DirectiveFits p) xs → list_all test xs ≡ true
tested p test f xs h = all_pass_of test xs (map_all (DirectiveFits p) (λ x. test x ≡ true) f xs h)

pub directives_fit : (p : ProgParts) → AllByRecursion (DirectiveFits p) (statements_of_program p) → DirectivesFit p
directives_fit p h = record {
  loop_templates = tested p (at_loops (names_template p)) (λ x f. f.loop_templates) (statements_of_program p) h;
  points = tested p (at_loops (has_points p)) (λ x f. f.points) (statements_of_program p) h;
  constants = tested p (at_loops (λ d. list_all is_small_point d.points)) (λ x f. f.constants) (statements_of_program p) h;
  distributed = tested p (at_loops (has_indices p)) (λ x f. f.distributed) (statements_of_program p) h;
  indices = tested p (at_loops indices_once) (λ x f. f.indices) (statements_of_program p) h;
  nest_indices = tested p (at_loops indices_of_nest) (λ x f. f.nest_indices) (statements_of_program p) h;
  nests = tested p (nest_counted p) (λ x f. f.nests) (statements_of_program p) h;
  arrays = tested p (names_arrays p) (λ x f. f.arrays) (statements_of_program p) h;
  sides = tested p (both_sides p) (λ x f. f.sides) (statements_of_program p) h;
  sections = tested p (at_gmoves sections_agree) (λ x f. f.sections) (statements_of_program p) h;
  casts = tested p (cast_fits p) (λ x f. f.casts) (statements_of_program p) h;
  tasks = tested p (tasks_inside p) (λ x f. f.tasks) (statements_of_program p) h;
  tasks_apart = tested p (tasks_apart p) (λ x f. f.tasks_apart) (statements_of_program p) h;
}

pub counted_loops_fit : (p : ProgParts) → AllByRecursion (DirectiveFits p) (statements_of_program p) → IsTrue (all_statements p (counted_fits p))
counted_loops_fit p h = tested p (counted_fits p) (λ x f. f.counted) (statements_of_program p) h

-- ---- a statement of each form

module _ (p : ProgParts) where
  abbrev Passes : List Statement → Type 0
  Passes xs = AllByRecursion (DirectiveFits p) xs

  pub passes_both : (xs ys : List Statement) → AllByRecursion (DirectiveFits p) xs → AllByRecursion (DirectiveFits p) ys → AllByRecursion (DirectiveFits p) (xs ++ ys)
  passes_both [] ys h k = k
  passes_both (x ∷ xs) ys h k = (h.0, passes_both xs ys h.1 k)

  of_walked : (x : Stmt) (w : Walked) → walked x ≡ w → Passes w.statements → StmtFits p x
  of_walked x w e h = subst Passes (ap (λ (v : Walked). v.statements) (sym e)) h

  pub plain_fits : (x : Plain) → names_arrays p (Stmt-F.Plain x) ≡ true → both_sides p (Stmt-F.Plain x) ≡ true → at_gmoves sections_agree (Stmt-F.Plain x) ≡ true → cast_fits p (Stmt-F.Plain x) ≡ true → StmtFits p (s.Plain x)
  plain_fits x arrays sides sections casts = of_walked (s.Plain x) _ (at_plain Walked WalkedTask walk_step walk_task x) (
    record {
      counted = refl;
      loop_templates = refl;
      points = refl;
      constants = refl;
      distributed = refl;
      indices = refl;
      nest_indices = refl;
      nests = refl;
      arrays = arrays;
      sides = sides;
      sections = sections;
      casts = casts;
      tasks = refl;
      tasks_apart = refl;
    },
    tt,
  )

  -- A statement that is neither a plain one nor a loop nor tasks has nothing to show itself.
  pub block_fits : (xs : List Stmt) → AllByRecursion (StmtFits p) xs → StmtFits p (s.Block xs)
  block_fits xs h = of_walked (s.Block xs) _ (at_block Walked WalkedTask walk_step walk_task xs) (
    record {
      counted = refl;
      loop_templates = refl;
      points = refl;
      constants = refl;
      distributed = refl;
      indices = refl;
      nest_indices = refl;
      nests = refl;
      arrays = refl;
      sides = refl;
      sections = refl;
      casts = refl;
      tasks = refl;
      tasks_apart = refl;
    },
    each xs h,
  )
    where
      each : (xs : List Stmt) → AllByRecursion (StmtFits p) xs → Passes (flat_map (λ s. s.statements) (map walked xs))
      each [] h = tt
      each (x ∷ xs) h = passes_both (statements_of x) (flat_map (λ s. s.statements) (map walked xs)) h.0 (each xs h.1)

  pub if_fits : (test : Expr) (a b : Stmt) → StmtFits p a → StmtFits p b → StmtFits p (s.If test a b)
  if_fits test a b h k = of_walked (s.If test a b) _ (at_if Walked WalkedTask walk_step walk_task test a b) (
    record {
      counted = refl;
      loop_templates = refl;
      points = refl;
      constants = refl;
      distributed = refl;
      indices = refl;
      nest_indices = refl;
      nests = refl;
      arrays = refl;
      sides = refl;
      sections = refl;
      casts = refl;
      tasks = refl;
      tasks_apart = refl;
    },
    passes_both (statements_of a) (statements_of b) h k,
  )

  pub while_fits : (test : Expr) (b : Stmt) (at : Place) → StmtFits p b → StmtFits p (s.While test b at)
  while_fits test b at h = of_walked (s.While test b at) _ (at_while Walked WalkedTask walk_step walk_task test b at) (
    record {
      counted = refl;
      loop_templates = refl;
      points = refl;
      constants = refl;
      distributed = refl;
      indices = refl;
      nest_indices = refl;
      nests = refl;
      arrays = refl;
      sides = refl;
      sections = refl;
      casts = refl;
      tasks = refl;
      tasks_apart = refl;
    },
    h,
  )

  pub counted_fit : (head : LoopHead) (b : Stmt) → is_counted p head (writes_of b) ≡ true → StmtFits p b → StmtFits p (s.Counted head b)
  counted_fit head b c h = of_walked (s.Counted head b) _ (at_counted Walked WalkedTask walk_step walk_task head b) (
    record {
      counted = c;
      loop_templates = refl;
      points = refl;
      constants = refl;
      distributed = refl;
      indices = refl;
      nest_indices = refl;
      nests = refl;
      arrays = refl;
      sides = refl;
      sections = refl;
      casts = refl;
      tasks = refl;
      tasks_apart = refl;
    },
    h,
  )

  pub loop_fits : (d : LoopDirective) (b : Stmt) → DirectiveFits p (Stmt-F.Loop d (writes_of b)) → StmtFits p b → StmtFits p (s.Loop d b)
  loop_fits d b f h = of_walked (s.Loop d b) _ (at_loop Walked WalkedTask walk_step walk_task d b) (f, h)

-- ---- tasks

abbrev pub walked_task : Task → WalkedTask
walked_task = fold-Task Walked WalkedTask walk_step walk_task

-- The sets of tasks, and that their statements fit.
abbrev pub sets_of : List Task → List NodeSet
sets_of ts = map (λ t. (walked_task t).nodes) ts

abbrev pub TaskFits : ProgParts → Task → Type 0
TaskFits p t = AllByRecursion (DirectiveFits p) (walked_task t).statements

pub tasks_fit : (p : ProgParts) (ts : List Task) (at : Place) → tasks_inside p (Stmt-F.Tasks (sets_of ts) at) ≡ true → tasks_apart p (Stmt-F.Tasks (sets_of ts) at) ≡ true → AllByRecursion (TaskFits p) ts → StmtFits p (s.Tasks ts at)
tasks_fit p ts at inside no_share h =
    subst (λ (v : Walked). AllByRecursion (DirectiveFits p) v.statements) (sym (at_tasks Walked WalkedTask walk_step walk_task ts at)) (
      subst (λ sets. DirectiveFits p (Stmt-F.Tasks sets at)) (same ts) (record {
        counted = refl;
        loop_templates = refl;
        points = refl;
        constants = refl;
        distributed = refl;
        indices = refl;
        nest_indices = refl;
        nests = refl;
        arrays = refl;
        sides = refl;
        sections = refl;
        casts = refl;
        tasks = inside;
        tasks_apart = no_share;
      }),
      each ts h,
    )
  where
    same : (ts : List Task) → sets_of ts ≡ map (λ t. t.nodes) (map walked_task ts)
    same [] = refl
    same (t ∷ ts) = ap (λ l. (walked_task t).nodes ∷ l) (same ts)

    each : (ts : List Task) → AllByRecursion (TaskFits p) ts → AllByRecursion (DirectiveFits p) (flat_map (λ t. t.statements) (map walked_task ts))
    each [] h = tt
    each (t ∷ ts) h = passes_both p (walked_task t).statements (flat_map (λ t. t.statements) (map walked_task ts)) h.0 (each ts h.1)
