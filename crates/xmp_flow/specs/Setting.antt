-- Where a statement stands: what the events of it depend on. Source: this project.
use Rattle.std.specs.Prelude.{ℕ, ◌==◌, Bool, true, false, Option, bit_xor, count_ones, if◌then◌else◌}
use Rattle.xmp_base.specs.declared.place.Place.{Place}
use Rattle.xmp_paths.specs.Plans.{Plan, skip, emit}
use Rattle.xmp_paths.specs.declared.event.Event.{Event}
use Rattle.xmp_paths.specs.declared.event.Event.TheVariants.{Read, Wrong, Mark}
use Rattle.xmp_map.specs.declared.grid.NodeSet.{NodeSet}
use Rattle.xmp_prog.specs.declared.statements.LoopDirective.{LoopDirective}
use Rattle.xmp_prog.specs.declared.parts.ProgParts.{ProgParts}
use Rattle.xmp_loops.specs.Objects.{scalar_object, nodes_in, all_nodes}
use Rattle.xmp_loops.specs.declared.role.Role.{Role}
use Rattle.xmp_loops.specs.declared.role.Role.TheVariants.{Shared, Index, Reduced, Own}

-- the program; the nodes that execute the statement, as bits; whether a task or a loop directive stands round it, and
-- the innermost such loop directive; what each scalar is to that directive, and which arrays it writes; which functions
-- have an uncounted loop, or call one that has; and whether it is a number of a gmove
pub record Setting : Type 0 where
  pub program : ProgParts
  pub nodes : ℕ
  pub inside : Bool
  pub over : Option LoopDirective
  pub roles : ℕ → Role
  pub written : ℕ → Bool
  pub loops : ℕ → Bool
  pub moving : Bool

-- the nodes that don't execute the statement
abbrev pub others : Setting → ℕ
others s = bit_xor (all_nodes s.program) s.nodes

-- whether one node alone executes it, and whether node 0 alone does
abbrev pub is_alone : Setting → Bool
is_alone s = count_ones s.nodes == 1

abbrev pub is_first_alone : Setting → Bool
is_first_alone s = s.nodes == 1

-- a statement of a task
abbrev pub in_task : Setting → NodeSet → Setting
in_task s set = record s { nodes = nodes_in s.program.grid set; inside = true }

-- a number of a gmove: all nodes read it
abbrev pub in_move : Setting → Setting
in_move s = record s { nodes = all_nodes s.program; moving = true }

-- ---- events of one scalar

-- the rule breaks here, where the test holds
abbrev pub wrong_where : Bool → ℕ → Place → Plan Event
wrong_where test rule at = if test then emit (Wrong rule at) else skip

-- A scalar is read. The indices of a loop directive are current in it; a reduction variable may not be read but in its
-- form; one that the directive writes has to be assigned in the iteration before.
abbrev pub read_scalar : Setting → ℕ → Place → Role → Plan Event
read_scalar s slot at Shared = emit (Read (scalar_object slot) s.nodes 1 at)
read_scalar s slot at Index = skip
read_scalar s slot at (Reduced op) = emit (Wrong 5 at)
read_scalar s slot at Own = emit (Read (scalar_object slot) s.nodes 5 at)

abbrev pub reads_scalar : Setting → ℕ → Place → Plan Event
reads_scalar s slot at = read_scalar s slot at (s.roles slot)

-- a scalar is current where the statement is executed, and out of date on the other nodes
abbrev pub assigned : Setting → ℕ → Plan Event
assigned s slot = emit (Mark (scalar_object slot) s.nodes (others s))

-- a scalar is assigned; a reduction variable may not be but in its form
abbrev pub is_reduced : Role → Bool
is_reduced (Reduced op) = true
is_reduced _ = false

-- an object is out of date on all nodes, or current on all
abbrev pub stale_on_all : Setting → ℕ → Plan Event
stale_on_all s object = emit (Mark object 0 (all_nodes s.program))

abbrev pub current_on_all : Setting → ℕ → Plan Event
current_on_all s object = emit (Mark object (all_nodes s.program) 0)
