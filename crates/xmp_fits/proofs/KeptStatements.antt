-- Statements go on and keep a world good.
use Rattle.std.proofs.Common.{◌≡◌, refl, sym, subst, ◌++◌, ◌∷◌, [], List, true, Some, None, length, map}
use Rattle.std.specs.Prelude.{drop}
use Rattle.std.specs.List.{AllByRecursion}
use Rattle.xmp_base.specs.declared.place.Place.{Place}
use Rattle.xmp_map.specs.declared.grid.NodeSet.{NodeSet}
use Rattle.xmp_prog.specs.declared.statements.Stmt as made
use Rattle.xmp_prog.specs.declared.statements.Stmt.TheVariants as s
use Rattle.xmp_prog.specs.declared.statements.Task.{Task}
use Rattle.xmp_syntax.specs.declared.directive.DirectiveLine.{DirectiveLine}
use Rattle.xmp_syntax.specs.declared.directive.LoopLine.{LoopLine}
use Rattle.xmp_syntax.specs.declared.directive.TaskLine.{TaskLine}
use Rattle.xmp_syntax.specs.declared.expression.Expr.{Expr}
use Rattle.xmp_syntax.specs.declared.statement.ForHead.{ForHead}
use Rattle.xmp_syntax.specs.declared.statement.Plain.TheVariants as plain
use Rattle.xmp_syntax.specs.declared.statement.BlockItem.{BlockItem}
use Rattle.xmp_syntax.specs.declared.statement.BlockItem.TheVariants as b
use Rattle.xmp_syntax.specs.declared.statement.Stmt.{Stmt, out-Stmt}
use Rattle.xmp_syntax.specs.declared.statement.Stmt.TheOpen.{Stmt-F}
use Rattle.xmp_walk.specs.declared.loops.ForParts.{ForParts}
use Rattle.xmp_names.specs.declared.world.World.{World}
use Rattle.xmp_names.specs.Walk as walk
use Rattle.xmp_names.specs.Walk.{Step, Gave, Run, and_then}
use Rattle.xmp_walk.specs.Statements.{if_of, while_of, for_of, loop_of}
use Rattle.xmp_directives.specs.Directives.{loop_line, judged_loop, nest_of, task_line, lone_task, tasks_in, tasks_of, made_task}
use Rattle.xmp_walk.specs.Program.{loop_directive, item_of, items_of, block_of, stmt_of, inside_item, task_step, last_in, main_items}
use Rattle.xmp_fits.proofs.Laters.{begins_refl, mappings_refl, Later, Scopes, Widened, widened_refl}
use Rattle.xmp_fits.proofs.GoodSteps.{Stays, good_opened, good_closed}
use Rattle.xmp_directives.specs.MappingLines.{mapping_of}
use Rattle.xmp_fits.proofs.KeptRuns.{Goes, goes_refl, goes_trans, goes_then, GoesOn, Kept, Going, going, going_scalars, going_arrays}
use Rattle.xmp_fits.proofs.Respected.{ends_then, ◌>>=◌, known, pure}
use Rattle.xmp_fits.proofs.RespectedDirectives.{head_parts, plain_kept, return_kept, line_kept, loop_kept, task_line_kept}
use Rattle.xmp_fits.proofs.RespectedLines.{declaration_kept}
use Rattle.xmp_fits.proofs.RespectedMappings.{mapping_kept}
use Rattle.xmp_fits.proofs.RespectedSteps.{typed, directive_at}
use Rattle.xmp_walk.proofs.Seen.{seen_plain, seen_if, seen_while, seen_for, seen_loop, seen_task, seen_tasks, seen_block}
use Rattle.xmp_fits.proofs.TreeInduction.{ItemIs, Cases, each_stmt, each_item}

-- ---- scopes

abbrev pub opened : World → World
opened w = record w { names = record w.names { scopes = [] ∷ w.names.scopes } }

abbrev pub closed : World → World
closed w = record w { names = record w.names { scopes = drop 1 w.names.scopes } }

pub stays_opened : (w : World) → Stays w (opened w)
stays_opened w = record {
  later = record {
    given = refl;
    names = record { arrays = begins_refl w.names.arrays; parameters = begins_refl (map (λ f. f.parameters) w.names.functions); coarray = refl };
    scalars = begins_refl w.scalars;
    mappings = mappings_refl w.mappings;
    functions = begins_refl w.functions;
    start = begins_refl w.start;
    broken = begins_refl w.broken;
  };
  region = refl;
  signatures = refl;
  functions = refl;
}

pub stays_closed : (w : World) → Stays w (closed w)
stays_closed w = record {
  later = record {
    given = refl;
    names = record { arrays = begins_refl w.names.arrays; parameters = begins_refl (map (λ f. f.parameters) w.names.functions); coarray = refl };
    scalars = begins_refl w.scalars;
    mappings = mappings_refl w.mappings;
    functions = begins_refl w.functions;
    start = begins_refl w.start;
    broken = begins_refl w.broken;
  };
  region = refl;
  signatures = refl;
  functions = refl;
}

closed_scopes : (ss ts : Scopes) → Widened ([] ∷ ss) ts → Widened ss (drop 1 ts)
closed_scopes ss [] h = absurd h
closed_scopes ss (t ∷ ts) h = subst (λ x. Widened ss x) (sym h.1) (widened_refl ss)

-- What goes on in a scope of its own goes on.
pub goes_scoped : (w v : World) → Goes (opened w) v → Goes w (closed v)
goes_scoped w v g =
    let l : Later (opened w) v = g.onward.later in record {
      onward = record {
        later = record {
          given = l.given;
          names = record { arrays = l.names.arrays; parameters = l.names.parameters; coarray = l.names.coarray };
          scalars = l.scalars;
          mappings = l.mappings;
          functions = l.functions;
          start = l.start;
          broken = l.broken;
        };
        region = g.onward.region;
        signatures = g.onward.signatures;
        functions = g.onward.functions;
        start = g.onward.start;
        scopes = closed_scopes w.names.scopes v.names.scopes g.onward.scopes;
      };
      good = λ own h. good_closed own v (closed v) (stays_closed v) refl (g.good own (good_opened own w (opened w) (stays_opened w) refl h));
    }

-- ---- blocks

pub item_kept : (done : List made.Stmt) (x : BlockItem (Run made.Stmt)) → ItemIs Kept x → Kept (item_of done x)
item_kept done (b.Mapping x) h = (do
  _ ← record { run = mapping_of x; kept = mapping_kept going x }
  pure going done).kept
item_kept done (b.Declaration d) h = declaration_kept going going_scalars going_arrays done d
item_kept done (b.Stmt body) h = (do
  one ← record { run = body; kept = h }
  pure going (done ++ one ∷ [])).kept

pub items_kept : (done : List made.Stmt) (xs : List (BlockItem (Run made.Stmt))) → AllByRecursion (ItemIs Kept) xs → Kept (items_of done xs)
items_kept done [] h = record { at = goes_refl }
items_kept done (x ∷ xs) h = record { at = λ w. goes_then w (item_of done x w) (λ so_far. items_of so_far xs) ((item_kept done x h.0).at w) (λ so_far. items_kept so_far xs h.1) }

-- A run in a scope of its own.
pub goes_block : {A B : Type 0} (w : World) (s : Step A) (f : A → B) → GoesOn (opened w) s → GoesOn w (and_then s (λ x. λ v. Gave (f x) (closed v)))
goes_block {A} {B} w s f h = ends_then (λ (a : A) v. Goes (opened w) v) (λ (b : B) v. Goes w v) s (λ x. λ v. Gave (f x) (closed v)) h (λ a v g. goes_scoped w v g)

pub block_kept : (xs : List (BlockItem (Run made.Stmt))) → AllByRecursion (ItemIs Kept) xs → Kept (block_of xs)
block_kept xs h = record { at = λ w. goes_block w (items_of [] xs (opened w)) s.Block ((items_kept [] xs h).at (opened w)) }

-- ---- the other forms

pub if_kept : (x : Expr) (a : Run made.Stmt) → Kept a → Kept (if_of x a None)
if_kept x a h = (do
  test ← typed going x
  y ← record { run = a; kept = h }
  pure going (s.If test.made y (s.Block []))).kept

pub else_kept : (x : Expr) (a : Run made.Stmt) (at : Place) (c : Run made.Stmt) → Kept a → Kept c → Kept (if_of x a (Some (at, c)))
else_kept x a at c h k = (do
  test ← typed going x
  y ← record { run = a; kept = h }
  z ← record { run = c; kept = k }
  pure going (s.If test.made y z)).kept

pub while_kept : (at : Place) (x : Expr) (a : Run made.Stmt) → Kept a → Kept (while_of at x a)
while_kept at x a h = (do
  test ← typed going x
  y ← record { run = a; kept = h }
  pure going (s.While test.made y at)).kept

-- The parts of a `for` and its body, in the scope that it opens.
abbrev pub for_inside : ForHead → (body : Run made.Stmt) → Kept body → Going made.Stmt
for_inside h body k = do
  parts ← head_parts going going_scalars h
  x ← record { run = body; kept = k }
  pure going (loop_of h parts x)

pub for_kept : (h : ForHead) (a : Run made.Stmt) → Kept a → Kept (for_of h a)
for_kept h a k = record {
  at = λ w.
      ends_then (λ (p : ForParts) v. Goes (opened w) v) (λ (x : made.Stmt) v. Goes w v) ((head_parts going going_scalars h).run (opened w)) (λ parts. walk.◌>>=◌ a (λ x. λ v. Gave (loop_of h parts x) (closed v)))
      ((head_parts going going_scalars h).kept.at (opened w))
      (λ parts v g. ends_then (λ (x : made.Stmt) u. Goes v u) (λ (x : made.Stmt) u. Goes w u) (a v) (λ x. λ u. Gave (loop_of h parts x) (closed u)) (k.at v)
      (λ x u e. goes_scoped w u (goes_trans g e)));
}

pub loop_directive_kept : (l : LoopLine) (h : ForHead) (a : Run made.Stmt) → Kept a → Kept (loop_directive l h a)
loop_directive_kept l h a k = (do
  parts ← known going (loop_line l) (line_kept going l)
  loop ← record { run = for_of h a; kept = for_kept h a k }
  record { run = judged_loop l.line.word parts (nest_of (length parts.names) loop); kept = loop_kept going l.line.word parts (nest_of (length parts.names) loop) }).kept

pub lone_kept : (l : TaskLine) (a : Run made.Stmt) → Kept a → Kept (lone_task l a)
lone_kept l a k = (do
  nodes ← record { run = task_line [] l; kept = task_line_kept going [] l }
  x ← record { run = a; kept = k }
  pure going (s.Tasks (made_task nodes x l.line.word ∷ []) l.line.word)).kept

pub tasks_in_kept : (before : List NodeSet) (done : List Task) (xs : List (TaskLine × Run made.Stmt)) → AllByRecursion (λ t. Kept t.1) xs → Kept (tasks_in before done xs)
tasks_in_kept before done [] h = record { at = goes_refl }
tasks_in_kept before done (x ∷ xs) h = (do
  nodes ← known going (task_line before x.0) (task_line_kept going before x.0)
  y ← record { run = x.1; kept = h.0 }
  record { run = tasks_in (before ++ nodes ∷ []) (done ++ made_task nodes y x.0.line.word ∷ []) xs; kept = tasks_in_kept (before ++ nodes ∷ []) (done ++ made_task nodes y x.0.line.word ∷ []) xs h.1 }).kept

pub tasks_kept : (l : DirectiveLine) (xs : List (TaskLine × Run made.Stmt)) → AllByRecursion (λ t. Kept t.1) xs → Kept (tasks_of l xs)
tasks_kept l xs h = (do
  _ ← directive_at going l.word
  tasks ← record { run = tasks_in [] [] xs; kept = tasks_in_kept [] [] xs h }
  pure going (s.Tasks tasks l.word)).kept

-- ---- all statements

abbrev StmtKept : Stmt → Type 0
StmtKept x = Kept (stmt_of x)

runs_kept : (xs : List (BlockItem Stmt)) → AllByRecursion (ItemIs StmtKept) xs → AllByRecursion (ItemIs Kept) (map inside_item xs)
runs_kept [] h = tt
runs_kept (b.Mapping x ∷ xs) h = (tt, runs_kept xs h.1)
runs_kept (b.Declaration d ∷ xs) h = (tt, runs_kept xs h.1)
runs_kept (b.Stmt x ∷ xs) h = (h.0, runs_kept xs h.1)

bodies_kept : (xs : List (TaskLine × Stmt)) → AllByRecursion (λ t. StmtKept t.1) xs → AllByRecursion (λ t. Kept t.1) (map task_step xs)
bodies_kept [] h = tt
bodies_kept (x ∷ xs) h = (h.0, bodies_kept xs h.1)

same_run : (a c : Run made.Stmt) → a ≡ c → Kept c → Kept a
same_run a c e h = subst (λ r. Kept r) (sym e) h

stmt_cases : Cases StmtKept
stmt_cases = record {
  plain = λ x. same_run _ _ (seen_plain x) (plain_kept going x);
  block = λ o xs c h. same_run _ _ (seen_block o xs c) (block_kept (map inside_item xs) (runs_kept xs h));
  if_then = λ p e x h. same_run _ _ (seen_if p e x None) (if_kept e.item (stmt_of x) h);
  if_else = λ p e x q y h k. same_run _ _ (seen_if p e x (Some (q, y))) (else_kept e.item (stmt_of x) q (stmt_of y) h k);
  while_do = λ p e x h. same_run _ _ (seen_while p e x) (while_kept p e.item (stmt_of x) h);
  for_do = λ d x h. same_run _ _ (seen_for d x) (for_kept d (stmt_of x) h);
  loop = λ l d x h. same_run _ _ (seen_loop l d x) (loop_directive_kept l d (stmt_of x) h);
  task = λ l x h. same_run _ _ (seen_task l x) (lone_kept l (stmt_of x) h);
  tasks = λ l o xs c h. same_run _ _ (seen_tasks l o xs c) (tasks_kept l (map task_step xs) (bodies_kept xs h));
}

pub stmt_kept : (x : Stmt) → Kept (stmt_of x)
stmt_kept = each_stmt StmtKept stmt_cases

-- ---- the bodies of functions and of main

pub body_kept : (done : List made.Stmt) (xs : List (BlockItem Stmt)) → Kept (items_of done (map inside_item xs))
body_kept done xs = items_kept done (map inside_item xs) (runs_kept xs (each_item StmtKept stmt_cases xs))

last_kept : (x : Stmt) (o : Stmt-F Stmt) → Kept (last_in x o)
last_kept x (Stmt-F.Plain (plain.Empty at)) = stmt_kept x
last_kept x (Stmt-F.Plain (plain.Simple y at)) = stmt_kept x
last_kept x (Stmt-F.Plain (plain.Return at value end)) = return_kept going true at value
last_kept x _ = stmt_kept x

pub main_kept : (xs : List (BlockItem Stmt)) → AllByRecursion (ItemIs Kept) (main_items xs)
main_kept [] = tt
main_kept (b.Mapping x ∷ []) = (tt, tt)
main_kept (b.Declaration d ∷ []) = (tt, tt)
main_kept (b.Stmt x ∷ []) = (last_kept x (out-Stmt x), tt)
main_kept (b.Mapping x ∷ y ∷ ys) = (tt, main_kept (y ∷ ys))
main_kept (b.Declaration d ∷ y ∷ ys) = (tt, main_kept (y ∷ ys))
main_kept (b.Stmt x ∷ y ∷ ys) = (stmt_kept x, main_kept (y ∷ ys))

pub main_body_kept : (xs : List (BlockItem Stmt)) → Kept (items_of [] (main_items xs))
main_body_kept xs = items_kept [] (main_items xs) (main_kept xs)
