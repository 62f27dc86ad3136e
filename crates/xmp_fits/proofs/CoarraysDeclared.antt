-- A program with coarrays, by its text, is one that has an array that is a coarray at the end of its walk.
use Rattle.std.proofs.Common.{◌≡◌, ◌∙◌, sym, ap, refl, subst, ◌++◌, ◌∷◌, [], ℕ, Bool, true, false, List, Option, None, Some, length, map}
use Rattle.std.specs.Prelude.{⊤, ◌||◌, ◌&&◌, nat_le, is_some}
use Rattle.std.specs.List.{list_all, list_any, AllByRecursion}
use Rattle.std.proofs.lemmas.List.Folds.{list_any-append}
use Rattle.xmp_base.specs.declared.place.Place.{Place}
use Rattle.xmp_num.specs.declared.types.Ty.{Ty}
use Rattle.xmp_map.specs.declared.grid.NodeSet.{NodeSet}
use Rattle.xmp_prog.specs.declared.statements.Stmt as made
use Rattle.xmp_prog.specs.declared.statements.Stmt.TheVariants as m
use Rattle.xmp_prog.specs.declared.statements.Plain.TheVariants as p
use Rattle.xmp_prog.specs.declared.statements.Task.{Task}
use Rattle.xmp_syntax.specs.declared.parts.Name as named
use Rattle.xmp_syntax.specs.declared.expression.Expr.{Expr}
use Rattle.xmp_syntax.specs.declared.declaration.Declarator.{Declarator}
use Rattle.xmp_syntax.specs.declared.declaration.Declarator.TheVariants as declarator
use Rattle.xmp_syntax.specs.declared.directive.DirectiveLine.{DirectiveLine}
use Rattle.xmp_syntax.specs.declared.directive.LoopLine.{LoopLine}
use Rattle.xmp_syntax.specs.declared.directive.TaskLine.{TaskLine}
use Rattle.xmp_syntax.specs.declared.statement.ForHead.{ForHead}
use Rattle.xmp_syntax.specs.declared.statement.BlockItem.{BlockItem}
use Rattle.xmp_syntax.specs.declared.statement.BlockItem.TheVariants as b
use Rattle.xmp_syntax.specs.declared.statement.Stmt.{Stmt, fold-roll-Stmt}
use Rattle.xmp_syntax.specs.declared.statement.Stmt.TheOpen.{Stmt-F}
use Rattle.xmp_syntax.specs.declared.statement.Stmt.TheVariants as s
use Rattle.xmp_names.specs.declared.names.Array.{Array}
use Rattle.xmp_walk.specs.declared.loops.ForParts.{ForParts}
use Rattle.xmp_names.specs.declared.rules.Rule.TheVariants.{N8}
use Rattle.xmp_names.specs.declared.typed.Operand.{Operand}
use Rattle.xmp_names.specs.declared.world.World.{World}
use Rattle.xmp_names.specs.Walk as walk
use Rattle.xmp_names.specs.Walk.{Step, Gave, Run, and_then}
use Rattle.xmp_names.specs.declared.names.Meaning.TheVariants as meaning
use Rattle.xmp_walk.specs.Declarations as declarations
use Rattle.xmp_walk.specs.Declarations.{declare_array, extent_of, extent_right, file_declarator, local_declarator, local_declarators, start_of, type_of}
use Rattle.xmp_names.specs.Lists.{inner, listed}
use Rattle.xmp_walk.specs.Program.{loop_directive, block_of, coarray_declarator, coarray_in, coarray_step, coarray_stmt, inside_item, item_of, items_of, plain_of, stmt_of, task_step}
use Rattle.xmp_directives.specs.Directives.{loop_line, lone_task, made_task, nest_of, task_line, tasks_in, tasks_of}
use Rattle.xmp_directives.specs.MappingLines.{mapping_of}
use Rattle.xmp_walk.specs.Statements.{for_of, for_parts, if_of, while_of}
use Rattle.xmp_walk.proofs.Coarrays.{block_has, tasks_have}
use Rattle.xmp_fits.proofs.QuietRuns.{Goes, Kept, Going, goes_refl, quiet, quiet_scalars}
use Rattle.xmp_fits.proofs.Respected.{Ends, ends_then, ends_map, ◌>>=◌, pure}
use Rattle.xmp_fits.proofs.RespectedSteps as quiet_steps
use Rattle.xmp_fits.proofs.Respected as quiet_runs
use Rattle.xmp_fits.proofs.RespectedMappings as quiet_mappings
use Rattle.xmp_fits.proofs.RespectedLines as quiet_lines
use Rattle.xmp_fits.proofs.RespectedDirectives as quiet
use Rattle.xmp_fits.proofs.KeptStatements as kept
use Rattle.xmp_walk.proofs.Seen.{seen_block, seen_for, seen_if, seen_loop, seen_plain, seen_task, seen_tasks, seen_while}
use Rattle.xmp_fits.proofs.TreeInduction.{Cases, ItemIs, each_item, each_stmt}

-- ---- runs that declare coarrays

-- Whether an array is a coarray.
abbrev pub images : World → Bool
images w = list_any {X = Array} (λ a. a.coarray) w.names.arrays

-- A run declares a coarray, or none.
pub record Adds (w v : World) (c : Bool) : Type 0 where
  pub images : images v ≡ (images w || c)
  pub coarray : v.names.coarray ≡ w.names.coarray

pub record Declares {A : Type 0} (run : Run A) (c : Bool) : Type 0 where
  pub at : (w : World) → Ends (λ a v. Adds w v c) (run w)

pub or_false : (x : Bool) → x ≡ (x || false)
or_false true = refl
or_false false = refl

or_twice : (x y z : Bool) → ((x || y) || z) ≡ (x || (y || z))
or_twice true y z = refl
or_twice false y z = refl

adds_none : (w v : World) → Goes w v → Adds w v false
adds_none w v g = record { images = ap (list_any {X = Array} (λ a. a.coarray)) g.arrays ∙ or_false (images w); coarray = g.coarray }

adds_both : (w v u : World) (c d : Bool) → Adds w v c → Adds v u d → Adds w u (c || d)
adds_both w v u c d h k = record { images = k.images ∙ (ap (λ x. x || d) h.images ∙ or_twice (images w) c d); coarray = k.coarray ∙ h.coarray }

pub quiet_run : {A : Type 0} (run : Run A) → Kept run → Declares run false
quiet_run {A} run k = record { at = λ w. ends_map (λ (a : A) v. Goes w v) (λ (a : A) v. Adds w v false) (run w) (k.at w) (λ a v g. adds_none w v g) }

pub declares_as : {A : Type 0} (run : Run A) (c d : Bool) → c ≡ d → Declares run c → Declares run d
declares_as run c d e h = subst (Declares run) e h

pub then_declares : {A B : Type 0} (run : Run A) (f : A → Run B) (c d : Bool) → Declares run c → ((a : A) → Declares (f a) d) → Declares (walk.◌>>=◌ run f) (c || d)
then_declares {A} {B} run f c d h k = record {
  at = λ w.
      ends_then (λ (a : A) v. Adds w v c) (λ (b : B) v. Adds w v (c || d)) (run w) f (h.at w) (λ a v i.
      ends_map (λ (b : B) u. Adds v u d) (λ (b : B) u. Adds w u (c || d)) (f a v) ((k a).at v) (λ b u j. adds_both w v u c d i j));
}

-- A quiet run before, or behind.
pub behind_quiet : {A B : Type 0} (run : Run A) (f : A → Run B) (c : Bool) → Kept run → ((a : A) → Declares (f a) c) → Declares (walk.◌>>=◌ run f) c
behind_quiet run f c k h = then_declares run f false c (quiet_run run k) h

pub before_quiet : {A B : Type 0} (run : Run A) (f : A → Run B) (c : Bool) → Declares run c → ((a : A) → Kept (f a)) → Declares (walk.◌>>=◌ run f) c
before_quiet run f c h k = declares_as (walk.◌>>=◌ run f) (c || false) c (sym (or_false c)) (then_declares run f c false h (λ a. quiet_run (f a) (k a)))

pub still : {A : Type 0} (a : A) → Kept (walk.pure a)
still a = record { at = goes_refl }

opens : Kept walk.open_scope
opens = record { at = λ w. record { arrays = refl; coarray = refl } }

closes : Kept walk.close_scope
closes = record { at = λ w. record { arrays = refl; coarray = refl } }

-- ---- declarations

new_declares : (ty : Ty) (extents : List ℕ) (coarray : Bool) (n : named.Name) → Declares (walk.◌>>=◌ (declarations.new_array ty extents coarray n.at) (λ number. walk.declare n (meaning.Array number))) coarray
new_declares ty extents coarray n = record {
  at = λ w. record {
    images = list_any-append {X = Array} (λ a. a.coarray) w.names.arrays (record { ty = ty; extents = extents; coarray = coarray; at = n.at } ∷ []) ∙ ap (λ x. images w || x) (sym (or_false coarray));
    coarray = refl;
  };
}

abbrev judged : List Operand → List Expr → named.Name → Going ⊤
judged values extents n = do
  _ ← quiet_steps.judge quiet (list_all (λ t. extent_right t.value) values && nat_le (length extents) 3) N8 n.at
  _ ← quiet_steps.stands_outermost quiet n.at
  quiet_steps.not_in_function quiet n.at

array_declares : (ty : Ty) (n : named.Name) (extents : List Expr) (coarray : Bool) → Declares (declare_array ty n extents coarray) coarray
array_declares ty n extents coarray =
    behind_quiet (walk.each walk.typed_constant extents) _ coarray (quiet_runs.each quiet (quiet_steps.typed_constant quiet) extents).kept (λ values.
    before_quiet (walk.◌>>=◌ (declarations.new_array ty (map (λ t. extent_of t.value) values) coarray n.at) (λ number. walk.declare n (meaning.Array number))) (λ _. (judged values extents n).run) coarray
    (new_declares ty (map (λ t. extent_of t.value) values) coarray n) (λ _. (judged values extents n).kept))

declarator_declares : (ty : Ty) (d : Declarator) → Declares (local_declarator ty d) (coarray_declarator d)
declarator_declares ty (declarator.Scalar n value) = quiet_run (local_declarator ty (declarator.Scalar n value)) (do
  slot ← quiet_steps.declare_scalar quiet quiet_scalars n ty
  first ← quiet_lines.initialiser quiet value
  pure quiet (m.Plain (p.Declare slot first n.at) ∷ [])).kept
declarator_declares ty (declarator.Array n extents image) =
    before_quiet (declare_array ty n (inner extents) (is_some image)) (λ _. walk.pure []) (is_some image) (array_declares ty n (inner extents) (is_some image)) (λ _. still [])

declarators_declare : (ty : Ty) (done : List made.Stmt) (ds : List Declarator) → Declares (local_declarators ty done ds) (list_any coarray_declarator ds)
declarators_declare ty done [] = quiet_run (local_declarators ty done []) (still done)
declarators_declare ty done (d ∷ ds) =
    then_declares (local_declarator ty d) (λ more. local_declarators ty (done ++ more) ds) (coarray_declarator d) (list_any coarray_declarator ds) (declarator_declares ty d) (λ more. declarators_declare ty (done ++ more) ds)

start_quiet : (slot : ℕ) (x : Option (Place × Expr)) → Kept (start_of slot x)
start_quiet slot None = still tt
start_quiet slot (Some x) = record { at = λ w. record { arrays = refl; coarray = refl } }

file_declares : (ty : Ty) (d : Declarator) → Declares (file_declarator ty d) (coarray_declarator d)
file_declares ty (declarator.Scalar n value) = quiet_run (file_declarator ty (declarator.Scalar n value)) (do
  slot ← quiet_steps.declare_scalar quiet quiet_scalars n ty
  record { run = start_of slot value; kept = start_quiet slot value }).kept
file_declares ty (declarator.Array n extents image) = array_declares ty n (inner extents) (is_some image)

pub all_declare : (ty : Ty) (ds : List Declarator) → Declares (walk.all (file_declarator ty) ds) (list_any coarray_declarator ds)
all_declare ty [] = quiet_run (walk.all (file_declarator ty) []) (still tt)
all_declare ty (d ∷ ds) =
    then_declares (file_declarator ty d) (λ _. walk.all (file_declarator ty) ds) (coarray_declarator d) (list_any coarray_declarator ds) (file_declares ty d) (λ _. all_declare ty ds)

-- ---- statements

abbrev Stated : Stmt → Type 0
Stated x = Declares (stmt_of x) (coarray_stmt x)

pub item_declares : (done : List made.Stmt) (x : BlockItem Stmt) → ItemIs Stated x → Declares (item_of done (inside_item x)) (coarray_in x)
item_declares done (b.Mapping x) h = quiet_run (item_of done (b.Mapping x)) (do
  _ ← record { run = mapping_of x; kept = quiet_mappings.mapping_kept quiet x }
  pure quiet done).kept
item_declares done (b.Declaration d) h = declarators_declare (type_of d.ty) done (listed d.items)
item_declares done (b.Stmt x) h = before_quiet (stmt_of x) (λ one. walk.pure (done ++ one ∷ [])) (coarray_stmt x) h (λ one. still (done ++ one ∷ []))

pub items_declare : (done : List made.Stmt) (xs : List (BlockItem Stmt)) → AllByRecursion (ItemIs Stated) xs → Declares (items_of done (map inside_item xs)) (list_any coarray_in xs)
items_declare done [] h = quiet_run (items_of done []) (still done)
items_declare done (x ∷ xs) h =
    then_declares (item_of done (inside_item x)) (λ so_far. items_of so_far (map inside_item xs)) (coarray_in x) (list_any coarray_in xs) (item_declares done x h.0) (λ so_far. items_declare so_far xs h.1)

block_declares : (xs : List (BlockItem Stmt)) → AllByRecursion (ItemIs Stated) xs → Declares (block_of (map inside_item xs)) (list_any coarray_in xs)
block_declares xs h =
    behind_quiet walk.open_scope _ (list_any coarray_in xs) opens (λ _.
    before_quiet (items_of [] (map inside_item xs)) (λ all. walk.◌>>=◌ walk.close_scope (λ _. walk.pure (m.Block all))) (list_any coarray_in xs) (items_declare [] xs h)
    (λ all. record { at = λ w. record { arrays = refl; coarray = refl } }))

if_declares : (x : Expr) (a : Run made.Stmt) (c : Bool) → Declares a c → Declares (if_of x a None) c
if_declares x a c h = behind_quiet (walk.typed x) _ c (quiet_steps.typed quiet x).kept (λ t. before_quiet a _ c h (λ y. still (m.If t.made y (m.Block []))))

else_declares : (x : Expr) (a : Run made.Stmt) (at : Place) (other : Run made.Stmt) (c d : Bool) → Declares a c → Declares other d → Declares (if_of x a (Some (at, other))) (c || d)
else_declares x a at other c d h k =
    behind_quiet (walk.typed x) _ (c || d) (quiet_steps.typed quiet x).kept (λ t. then_declares a _ c d h (λ y. before_quiet other _ d k (λ z. still (m.If t.made y z))))

while_declares : (at : Place) (x : Expr) (a : Run made.Stmt) (c : Bool) → Declares a c → Declares (while_of at x a) c
while_declares at x a c h = behind_quiet (walk.typed x) _ c (quiet_steps.typed quiet x).kept (λ t. before_quiet a _ c h (λ y. still (m.While t.made y at)))

parts_quiet : (h : ForHead) → Kept (for_parts h)
parts_quiet h = record {
  at = λ w.
      ends_map (λ (a : ForParts) v. Goes (kept.opened w) v) (λ (a : ForParts) v. Goes w v) ((quiet.head_parts quiet quiet_scalars h).run (kept.opened w)) ((quiet.head_parts quiet quiet_scalars h).kept.at (kept.opened w))
      (λ a v g. record { arrays = g.arrays; coarray = g.coarray });
}

for_declares : (h : ForHead) (a : Run made.Stmt) (c : Bool) → Declares a c → Declares (for_of h a) c
for_declares h a c k = behind_quiet (for_parts h) _ c (parts_quiet h) (λ parts. before_quiet a _ c k (λ y. record { at = λ w. record { arrays = refl; coarray = refl } }))

loop_declares : (l : LoopLine) (h : ForHead) (a : Run made.Stmt) (c : Bool) → Declares a c → Declares (loop_directive l h a) c
loop_declares l h a c k =
    behind_quiet (loop_line l) _ c (quiet.line_kept quiet l) (λ parts. before_quiet (for_of h a) _ c (for_declares h a c k) (λ x. quiet.loop_kept quiet l.line.word parts (nest_of (length parts.names) x)))

task_declares : (l : TaskLine) (a : Run made.Stmt) (c : Bool) → Declares a c → Declares (lone_task l a) c
task_declares l a c k =
    behind_quiet (task_line [] l) _ c (quiet.task_line_kept quiet [] l) (λ nodes. before_quiet a _ c k (λ x. still (m.Tasks (made_task nodes x l.line.word ∷ []) l.line.word)))

tasks_declare : (before : List NodeSet) (done : List Task) (xs : List (TaskLine × Stmt)) → AllByRecursion (λ t. Stated t.1) xs → Declares (tasks_in before done (map task_step xs)) (list_any (λ x. coarray_stmt x.1) xs)
tasks_declare before done [] h = quiet_run (tasks_in before done []) (still done)
tasks_declare before done (x ∷ xs) h =
    behind_quiet (task_line before x.0) _ (coarray_stmt x.1 || list_any (λ x. coarray_stmt x.1) xs) (quiet.task_line_kept quiet before x.0) (λ nodes.
    then_declares (stmt_of x.1) _ (coarray_stmt x.1) (list_any (λ x. coarray_stmt x.1) xs) h.0 (λ y. tasks_declare (before ++ nodes ∷ []) (done ++ made_task nodes y x.0.line.word ∷ []) xs h.1))

all_tasks_declare : (l : DirectiveLine) (xs : List (TaskLine × Stmt)) → AllByRecursion (λ t. Stated t.1) xs → Declares (tasks_of l (map task_step xs)) (list_any (λ x. coarray_stmt x.1) xs)
all_tasks_declare l xs h =
    behind_quiet (walk.directive_at l.word) _ (list_any (λ x. coarray_stmt x.1) xs) (quiet_steps.directive_at quiet l.word).kept (λ _.
    before_quiet (tasks_in [] [] (map task_step xs)) _ (list_any (λ x. coarray_stmt x.1) xs) (tasks_declare [] [] xs h) (λ all. still (m.Tasks all l.word)))

-- ---- whether a statement of a form declares a coarray

stated_as : (x : Stmt) (run : Run made.Stmt) (c : Bool) → stmt_of x ≡ run → coarray_stmt x ≡ c → Declares run c → Stated x
stated_as x run c e f h = subst (λ r. Declares r (coarray_stmt x)) (sym e) (subst (Declares run) (sym f) h)

stmt_cases : Cases Stated
stmt_cases = record {
  plain = λ x. stated_as (s.Plain x) (plain_of x) false (seen_plain x) (ap coarray_stmt (sym (s.rolls-Plain x)) ∙ fold-roll-Stmt Bool coarray_step (Stmt-F.Plain x)) (quiet_run (plain_of x) (quiet.plain_kept quiet x));
  block = λ o xs c h. stated_as _ (block_of (map inside_item xs)) (list_any coarray_in xs) (seen_block o xs c) (block_has o xs c) (block_declares xs h);
  if_then = λ q e x h. stated_as (s.If q e x None) _ (coarray_stmt x || false) (seen_if q e x None) (ap coarray_stmt (sym (s.rolls-If q e x None)) ∙ fold-roll-Stmt Bool coarray_step (Stmt-F.If q e x None))
      (declares_as (if_of e.item (stmt_of x) None) (coarray_stmt x) (coarray_stmt x || false) (or_false (coarray_stmt x)) (if_declares e.item (stmt_of x) (coarray_stmt x) h));
  if_else = λ q e x at y h k. stated_as (s.If q e x (Some (at, y))) _ (coarray_stmt x || coarray_stmt y) (seen_if q e x (Some (at, y)))
      (ap coarray_stmt (sym (s.rolls-If q e x (Some (at, y)))) ∙ fold-roll-Stmt Bool coarray_step (Stmt-F.If q e x (Some (at, y))))
      (else_declares e.item (stmt_of x) at (stmt_of y) (coarray_stmt x) (coarray_stmt y) h k);
  while_do = λ q e x h. stated_as (s.While q e x) _ (coarray_stmt x) (seen_while q e x) (ap coarray_stmt (sym (s.rolls-While q e x)) ∙ fold-roll-Stmt Bool coarray_step (Stmt-F.While q e x)) (while_declares q e.item (stmt_of x) (coarray_stmt x) h);
  for_do = λ d x h. stated_as (s.For d x) _ (coarray_stmt x) (seen_for d x) (ap coarray_stmt (sym (s.rolls-For d x)) ∙ fold-roll-Stmt Bool coarray_step (Stmt-F.For d x)) (for_declares d (stmt_of x) (coarray_stmt x) h);
  loop = λ l d x h. stated_as (s.Loop l d x) _ (coarray_stmt x) (seen_loop l d x) (ap coarray_stmt (sym (s.rolls-Loop l d x)) ∙ fold-roll-Stmt Bool coarray_step (Stmt-F.Loop l d x)) (loop_declares l d (stmt_of x) (coarray_stmt x) h);
  task = λ l x h. stated_as (s.Task l x) _ (coarray_stmt x) (seen_task l x) (ap coarray_stmt (sym (s.rolls-Task l x)) ∙ fold-roll-Stmt Bool coarray_step (Stmt-F.Task l x)) (task_declares l (stmt_of x) (coarray_stmt x) h);
  tasks = λ l o xs c h. stated_as _ (tasks_of l (map task_step xs)) (list_any (λ x. coarray_stmt x.1) xs) (seen_tasks l o xs c) (tasks_have l o xs c) (all_tasks_declare l xs h);
}

pub stmt_declares : (x : Stmt) → Declares (stmt_of x) (coarray_stmt x)
stmt_declares = each_stmt Stated stmt_cases

pub body_declares : (xs : List (BlockItem Stmt)) → Declares (items_of [] (map inside_item xs)) (list_any coarray_in xs)
body_declares xs = items_declare [] xs (each_item Stated stmt_cases xs)
