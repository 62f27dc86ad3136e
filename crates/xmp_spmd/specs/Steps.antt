-- What all nodes do together at a statement.
use Rattle.std.specs.Prelude.{ℕ, List, Bool, false}
use Rattle.xmp_prog.specs.declared.expressions.Expr.{Expr}
use Rattle.xmp_prog.specs.declared.statements.LoopHead.{LoopHead}
use Rattle.xmp_prog.specs.declared.parts.ProgParts.{ProgParts}
use Rattle.xmp_prog.specs.declared.statements.Stmt.{Stmt}
use Rattle.xmp_meaning.specs.declared.ends.Flow.{Flow}
use Rattle.xmp_meaning.specs.declared.ends.Flow.TheVariants.{Next}
use Rattle.xmp_meaning.specs.Runs.{RunIn, ◌>>=◌, take_step}
use Rattle.xmp_meaning.specs.Blocks.{then_run, turns}
use Rattle.xmp_meaning.specs.Expressions.{expr_of, holds}
use Rattle.xmp_meaning.specs.Handlers.{erased}
use Rattle.xmp_meaning.specs.Loops.{entering, inside, step_up}
use Rattle.xmp_meaning.specs.Traffic.{node_context}
use Rattle.xmp_nodes.specs.Nodes.{Nodes, all_do}
use Rattle.xmp_nodes.specs.Lockstep.{lockstep}

abbrev pub all_of : ProgParts → (input : List ℕ) → Stmt → RunIn Nodes Flow
all_of p input s = (lockstep p input s).all

-- whether a condition holds at all nodes, by node 0
abbrev pub all_hold : ProgParts → (input : List ℕ) → Expr → RunIn Nodes Bool
all_hold p input e = all_do false (λ node. holds (expr_of erased (node_context p node input) e))

-- a turn of an uncounted loop takes a step at every node first
abbrev pub paid_turn : ProgParts → (input : List ℕ) → Stmt → RunIn Nodes Flow
paid_turn p input body = all_do tt (λ node. take_step) >>= (λ u. all_of p input body)

-- whether the index of a counted loop is inside, and a turn of it
abbrev pub all_inside : ProgParts → (input : List ℕ) → LoopHead → RunIn Nodes Bool
all_inside p input head = all_do false (λ node. inside erased (node_context p node input) head)

abbrev pub counted_turn : ProgParts → (input : List ℕ) → LoopHead → Stmt → RunIn Nodes Flow
counted_turn p input head body = then_run (all_of p input body) (all_do Next (λ node. step_up head))

abbrev pub counted_all : ProgParts → (input : List ℕ) → LoopHead → Stmt → RunIn Nodes Flow
counted_all p input head body =
    all_do 0 (λ node. entering erased (node_context p node input) head)
    >>= (λ n. turns n (all_inside p input head) (counted_turn p input head body))
