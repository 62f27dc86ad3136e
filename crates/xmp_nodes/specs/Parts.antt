-- A loop directive: each node's part from its own store, and the end of all parts (XcalableMP 1.4, loop construct and
-- reduction clause).
use Rattle.std.specs.Prelude.{ℕ, suc, ℤ, List, [], ◌∷◌, length, map, slice_get, unwrap_or}
use Rattle.std.specs.List.{filter}
use Rattle.xmp_prog.specs.declared.parts.ProgParts.{ProgParts}
use Rattle.xmp_prog.specs.declared.statements.LoopDirective.{LoopDirective}
use Rattle.xmp_prog.specs.Statements.{indices_of}
use Rattle.xmp_meaning.specs.declared.ends.Flow.{Flow}
use Rattle.xmp_meaning.specs.declared.ends.Flow.TheVariants.{Next}
use Rattle.xmp_meaning.specs.Runs.{State, Step, RunIn, Run, ◌>>=◌}
use Rattle.xmp_meaning.specs.Blocks.{then_run}
use Rattle.xmp_meaning.specs.Parts.{begin}
use Rattle.xmp_meaning.specs.Exchanges.{PartEnd, LoopEnd, part_end}
use Rattle.xmp_meaning.specs.LoopEnds.{all_joined, no_turn, closed}
use Rattle.xmp_meaning.specs.Messages.{message}
use Rattle.xmp_meaning_laws.specs.Laws.{scalar_in}
use Rattle.xmp_meaning_laws.specs.Tuples.{tuples, owns_tuple, for_each}
use Rattle.xmp_nodes.specs.Nodes.{Nodes, each_does, with_steps, all_do, raised_by, say}

-- the index tuples that a node owns, in order, by its own scalars
abbrev pub own_tuples : ProgParts → LoopDirective → (node : ℕ) → State (Unit {0}) → List (List ℤ)
own_tuples p directive node s = filter (owns_tuple p directive node) (tuples (scalar_in s) directive.nest)

-- A node's part: reduction variables begin at the old value on node 0 and at the unit elsewhere, and then it does the
-- body for its own tuples, up to its first trap.
abbrev pub own_part : ProgParts → LoopDirective → (body : ℕ → Run (Unit {0}) Flow) → (node : ℕ) → Run (Unit {0}) Flow
own_part p directive body node =
    begin p node directive.reductions >>= (λ u s. for_each (indices_of directive.nest) (own_tuples p directive node s) (body node) s)

-- the parts of all nodes, and their ends
abbrev pub all_parts : ProgParts → LoopDirective → (body : ℕ → Run (Unit {0}) Flow) → Nodes → List (Step (Unit {0}) Flow)
all_parts p directive body w = each_does (own_part p directive body) 0 w.stores

abbrev pub ends_of : ProgParts → LoopDirective → (body : ℕ → Run (Unit {0}) Flow) → Nodes → List PartEnd
ends_of p directive body w = map (part_end directive) (all_parts p directive body w)

-- how many tuples each node owns
abbrev pub own_turns : ProgParts → LoopDirective → (node : ℕ) → List (State (Unit {0})) → List ℕ
own_turns p directive node [] = []
own_turns p directive node (s ∷ ss) = length (own_tuples p directive node s) ∷ own_turns p directive (suc node) ss

-- Each node does its part and says its end to all others. The ends joined give the trap of the iteration that comes
-- first, or the values of the reduction variables at every node.
abbrev pub loop_all : ProgParts → LoopDirective → (body : ℕ → Run (Unit {0}) Flow) → RunIn Nodes Flow
loop_all p directive body = λ w.
    let ends = ends_of p directive body w in
    let counted = record w { turns = raised_by (λ node. unwrap_or (slice_get (own_turns p directive 0 w.stores) node) 0) 0 w.turns } in
    then_run (say (λ x. message p (LoopEnd directive ends)))
    (all_do Next (λ node. closed directive.reductions (all_joined p directive.reductions (no_turn p directive.reductions) ends)))
    (with_steps (all_parts p directive body w) counted)
