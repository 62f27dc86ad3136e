-- What all nodes do together, statement by statement, and what one node does alone in a task or a loop directive (this
-- project).
use Rattle.std.specs.Prelude.{ℕ, suc, false, Bool, List, [], ◌∷◌, map}
use Rattle.xmp_prog.specs.declared.parts.ProgParts.{ProgParts}
use Rattle.xmp_prog.specs.declared.statements.Plain.{Plain}
use Rattle.xmp_prog.specs.declared.statements.Plain.TheVariants as plain
use Rattle.xmp_prog.specs.declared.statements.Stmt.{Stmt}
use Rattle.xmp_prog.specs.declared.statements.Stmt.TheOpen.{Stmt-F, Task-F}
use Rattle.xmp_prog.specs.declared.statements.Stmt.TheFolds.{fold-Stmt}
use Rattle.xmp_meaning.specs.declared.ends.Flow.{Flow}
use Rattle.xmp_meaning.specs.declared.ends.Flow.TheVariants.{Next}
use Rattle.xmp_meaning.specs.Runs.{State, StepIn, RunIn, Run, ◌>>=◌, pure, take_step}
use Rattle.xmp_meaning.specs.Blocks.{then_run, block, choose, turns}
use Rattle.xmp_meaning.specs.Handlers.{erased}
use Rattle.xmp_meaning.specs.Expressions.{expr_of, holds}
use Rattle.xmp_meaning.specs.Loops.{while_loop, inside, step_up, entering, counted, nest}
use Rattle.xmp_meaning.specs.Statements.{plain_of}
use Rattle.xmp_meaning.specs.Programs.{starts}
use Rattle.xmp_meaning.specs.Traffic.{node_context}
use Rattle.xmp_nodes.specs.Nodes.{Nodes, nodes_beginning, all_do}
use Rattle.xmp_nodes.specs.Casting.{cast_all}
use Rattle.xmp_nodes.specs.Reflecting.{reflect_all}
use Rattle.xmp_nodes.specs.Moving.{gmove_all}
use Rattle.xmp_nodes.specs.Parts.{loop_all}
use Rattle.xmp_nodes.specs.Tasks.{TaskOf, tasks_all}

-- A statement by what all nodes do together, and by what each does alone.
pub record Both : Type 0 where
  pub all : RunIn Nodes Flow
  pub at : (node : ℕ) → Run (Unit {0}) Flow

-- a statement that holds none: directives are exchanges, and every node does any other by itself
abbrev pub plain_all : ProgParts → (input : List ℕ) → Plain → RunIn Nodes Flow
plain_all p input (plain.Reflect arrays at) = reflect_all p arrays
plain_all p input (plain.Barrier at) = pure Next
plain_all p input (plain.Cast variables from at) = cast_all p variables from
plain_all p input (plain.Gmove target source at) = gmove_all p input target source
plain_all p input q = all_do Next (λ node. plain_of erased (node_context p node input) q)

-- how many steps node 0 has left
abbrev pub steps_left : List (State (Unit {0})) → ℕ
steps_left [] = 0
steps_left (s ∷ ss) = s.steps

-- an uncounted loop in step: each turn takes a step at every node first
abbrev pub while_all : RunIn Nodes Bool → RunIn Nodes Flow → RunIn Nodes Flow
while_all test body = λ w. turns (suc (steps_left w.stores)) test (all_do tt (λ node. take_step) >>= (λ u. body)) w

abbrev pub both_step : ProgParts → (input : List ℕ) → Stmt-F Both TaskOf → Both
both_step p input (Stmt-F.Plain q) = record {
  all = plain_all p input q;
  at = λ node. plain_of erased (node_context p node input) q;
}
both_step p input (Stmt-F.Block ss) = record {
  all = block (map (λ s. s.all) ss);
  at = λ node. block (map (λ s. s.at node) ss);
}
both_step p input (Stmt-F.If e a b) = record {
  all = all_do false (λ node. holds (expr_of erased (node_context p node input) e)) >>= (λ v. choose v a.all b.all);
  at = λ node. holds (expr_of erased (node_context p node input) e) >>= (λ v. choose v (a.at node) (b.at node));
}
both_step p input (Stmt-F.While e body at) = record {
  all = while_all (all_do false (λ node. holds (expr_of erased (node_context p node input) e))) body.all;
  at = λ node. while_loop (holds (expr_of erased (node_context p node input) e)) (body.at node);
}
both_step p input (Stmt-F.Counted head body) = record {
  all = all_do 0 (λ node. entering erased (node_context p node input) head)
      >>= (λ n. turns n (all_do false (λ node. inside erased (node_context p node input) head)) (then_run body.all (all_do Next (λ node. step_up head))));
  at = λ node. counted erased (node_context p node input) head (body.at node);
}
both_step p input (Stmt-F.Loop directive body) = record {
  all = loop_all p directive body.at;
  at = λ node. nest erased (node_context p node input) directive.nest (body.at node);
}
both_step p input (Stmt-F.Tasks ts at) = record {
  all = tasks_all p ts;
  at = λ node. block (map (λ t. t.at node) ts);
}

abbrev pub task_both : Task-F Both TaskOf → TaskOf
task_both t = record { nodes = t.nodes; at = t.body.at; place = t.at }

abbrev pub lockstep : ProgParts → (input : List ℕ) → Stmt → Both
lockstep p input = fold-Stmt Both TaskOf (both_step p input) task_both

-- the whole run: the initialisers at file scope at every node, and then main's statement
abbrev pub nodes_end : ProgParts → (input : List ℕ) → (steps : ℕ) → StepIn Nodes Flow
nodes_end p input steps =
    then_run (all_do Next (λ node. starts erased (node_context p node input) p.start)) (lockstep p input p.body).all
    (nodes_beginning p steps)
