-- The tests of directives and of counted loops as tests of single statements: they hold of all that the walk makes.
use Rattle.std.proofs.Common.{◌≡◌, refl, ◌∷◌, [], true, List, None, Some, length}
use Rattle.std.specs.List.{AllByRecursion}
use Rattle.xmp_map.specs.declared.grid.NodeSet.{NodeSet}
use Rattle.xmp_prog.specs.declared.parts.ProgParts.{ProgParts}
use Rattle.xmp_prog.specs.declared.statements.Stmt as made
use Rattle.xmp_prog.specs.declared.statements.Task.{Task}
use Rattle.xmp_syntax.specs.declared.statement.ForFirst.{ForFirst}
use Rattle.xmp_syntax.specs.declared.statement.ForFirst.TheVariants as for_first
use Rattle.xmp_syntax.specs.declared.statement.ForHead.{ForHead}
use Rattle.xmp_walk.specs.declared.loops.First.{First}
use Rattle.xmp_names.specs.declared.world.World.{World}
use Rattle.xmp_walk.specs.Declarations.{local_declarator}
use Rattle.xmp_directives.specs.Directives.{judged_loop, loop_line, nest_of, task_line}
use Rattle.xmp_walk.specs.Program.{plain_of}
use Rattle.xmp_walk.specs.Statements.{first_of, set, simple_of}
use Rattle.xmp_names.specs.Walk as walk
use Rattle.xmp_names.specs.Walk.{Step, Gave}
use Rattle.xmp_fits.proofs.DirectiveCases.{AllMade, counted_made, declarator_made, plain_made, declare_passes}
use Rattle.xmp_fits.proofs.DirectivesPass.{StmtFits, StmtMade, block_fits, if_fits, plain_fits, while_fits}
use Rattle.xmp_fits.proofs.Endings.{Ending, earlier, ends_at}
use Rattle.xmp_fits.proofs.GoodSteps.{Stays}
use Rattle.xmp_fits.proofs.GoodWorlds.{Own}
use Rattle.xmp_fits.proofs.HeadsKnown.{FirstKnown, OperandMade, first_known, typed_known}
use Rattle.xmp_fits.proofs.Holding.{Holds, Unbroken}
use Rattle.xmp_fits.proofs.Respected.{Ends}
use Rattle.xmp_fits.proofs.LoopsEnd.{LineMade, line_made, loop_made}
use Rattle.xmp_fits.specs.NumbersLie.{first_lies}
use Rattle.xmp_fits.proofs.OneWorld.{Cases, FirstFits, LastMade, Tests}
use Rattle.xmp_fits.proofs.OperandsKnown.{AddsOne, AddsOneBy, adds_one, one_known}
use Rattle.xmp_fits.proofs.SetsEnd as sets_end
use Rattle.xmp_fits.proofs.SetsEnd.{TaskSetMade, TasksFit, no_tasks, tasks_all, tasks_more}

-- What holds in each program that the walk ends in.
abbrev SharingMade : World → List NodeSet → List Task → Type 0
SharingMade v sets all = (p : ProgParts) → Ending v p → TasksFit p sets all

abbrev pub directive_tests : Tests
directive_tests = record {
  Fit = λ v x. StmtMade x v;
  Reads = λ v x. OperandMade x v;
  Lines = λ v x. LineMade x v;
  Sets = λ before v x. TaskSetMade before x v;
  Sharing = SharingMade;
}

pub holds : {A : Type 0} (P : World → A → Type 0) (t : Step A) → Ends (λ a v. P v a) t → Unbroken P t
holds P (Gave a v) h = λ e. h

pub each_made : (p : ProgParts) (v : World) (all : List made.Stmt) → Ending v p → AllByRecursion (λ x. StmtMade x v) all → AllByRecursion (StmtFits p) all
each_made p v [] e h = tt
each_made p v (x ∷ xs) e h = (h.0 p e, each_made p v xs e h.1)

-- ---- what stays

made_stays : (w v : World) (x : made.Stmt) → Stays w v → StmtMade x w → StmtMade x v
made_stays w v x s h = λ p e. h p (earlier w v p s.later e)

-- ---- the first part of a `for`

first_declared : (x : ForFirst) (w : World) → Ends (λ f v. AllMade f.declared v × StmtMade (set None f.at f.target f.value) v) (first_of x w)
first_declared (for_first.Assign r at x) w = (tt, λ p e. plain_fits p _ refl refl refl refl)
first_declared (for_first.Declare at n equals x) w = ((λ p e. declare_passes p _ None n.at, tt), λ p e. plain_fits p _ refl refl refl refl)

first_fits : (own : Own) (x : ForFirst) → first_lies x ≡ true → Holds own (λ w v f. FirstFits directive_tests v f) (first_of x)
first_fits own x h = record { at = λ w g. both (first_of x w) (first_declared x w) (first_known own w g x h) }
  where
    both : (t : Step First) → Ends (λ f v. AllMade f.declared v × StmtMade (set None f.at f.target f.value) v) t → Ends (FirstKnown own) t → Unbroken (FirstFits directive_tests) t
    both (Gave f v) i j = λ e. record { declared = i.0; set = i.1; target = j.target; value = j.value }

-- ---- all forms

adds : (h : ForHead) (next : made.Stmt) → LastMade h (Some next) → AddsOne h (Some next)
adds h next m = ends_at (AddsOneBy h.next) (walk.if_there simple_of h.next m.before) (Some next) m.after (adds_one h.next m.before) m.is

pub directive_cases : (own : Own) → Cases own directive_tests
directive_cases own = record {
  fit_stays = made_stays;
  reads_stay = λ w v x s h p e. h p (earlier w v p s.later e);
  lines_stay = λ w v x s h p e. h p (earlier w v p s.later e);
  sharing_stays = λ w v sets all s h p e. h p (earlier w v p s.later e);
  sets_stay = λ before w v x s h p e. h p (earlier w v p s.later e);
  plain = λ x n. record { at = λ w g. holds (λ v x. StmtMade x v) (plain_of x w) (plain_made own x w g) };
  declarator = λ ty d n. record { at = λ w g. holds (λ v all. AllMade all v) (local_declarator ty d w) (declarator_made ty d w) };
  test = λ x n. record { at = λ w g. holds (λ v o. OperandMade o v) (walk.typed x w) (typed_known own w g x n) };
  one = λ v p e. one_known p;
  block = λ v all g h p e. block_fits p all (each_made p v all e h);
  if_of = λ v x a c g r h k p e. if_fits p x.made a c (h p e) (k p e);
  while_of = λ v x a at g r h p e. while_fits p x.made a at (h p e);
  first = first_fits own;
  counted = λ h v shape first test next body g e last f r k b. counted_made h v shape first test next body e f.target r (adds h next last) b;
  line = λ l n. record { at = λ w g. holds (λ v x. LineMade x v) (loop_line l w) (line_made own w l g) };
  loop = λ l v parts x g i h. holds (λ v x. StmtMade x v) (judged_loop l.line.word parts (nest_of (length parts.names) x) v) (loop_made v l.line.word parts (length parts.names) x i h);
  set = λ before l n. record { at = λ w g. holds (λ v x. TaskSetMade before x v) (task_line before l w) (sets_end.line_made own w before l g) };
  no_task = λ v p e. no_tasks p;
  one_task = λ v before done nodes x at h k i p e. tasks_more p before done nodes x at (h p e) (k p e) (i p e);
  tasks = λ v before done at some g h p e. tasks_all p before done at (h p e);
}
