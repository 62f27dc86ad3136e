-- The nodes carry out a program: all lemmas together.
use Rattle.std.proofs.Common.{◌≡◌, ℕ, List, None}
use Rattle.xmp_base.specs.First.{IsFirst}
use Rattle.xmp_prog.specs.declared.parts.ProgParts.{ProgParts}
use Rattle.xmp_prog.specs.declared.parts.Kind.TheVariants.{Global}
use Rattle.xmp_prog.specs.Fits.{PartsFit}
use Rattle.xmp_flow.specs.Program.{FlowBreaks}
use Rattle.xmp_meaning.specs.Programs.{serial}
use Rattle.xmp_nodes.specs.Lists.{HasAxes}
use Rattle.xmp_nodes.specs.Lockstep.{nodes_end}
use Rattle.xmp_nodes.specs.Worlds.{World, world_after}
use Rattle.xmp_nodes.specs.Stands.{StandsFor}
use Rattle.xmp_nodes.specs.Answers.{answer_of}
use Rattle.xmp_nodes.proofs.Leaves.{StatementsCarry}
use Rattle.xmp_nodes.proofs.IfFormsCarried.{if_forms_carry}
use Rattle.xmp_nodes.proofs.SetForms.{all_plains_carry}
use Rattle.xmp_nodes.proofs.StatementsSkipped.{statements_skip}
use Rattle.xmp_nodes.proofs.PartSplits.{body_fits, plain_fits, blocks_fit, ifs_fit, whiles_fit, counteds_fit, loops_fit, all_tasks_fit}
use Rattle.xmp_nodes.proofs.NodeBits.{all_have}
use Rattle.xmp_nodes.proofs.ReadsMark.{reads_keep}
use Rattle.xmp_nodes.proofs.Unwritten.{unwritten_stay}
use Rattle.xmp_nodes.proofs.SameRuns.{alone_is_erased}
use Rattle.xmp_nodes.proofs.ExpressionsCarried.{expressions_carry}
use Rattle.xmp_nodes.proofs.StatementsCarried.{statements_carry}
use Rattle.xmp_nodes.proofs.LoopLeaf.{loops_follow}
use Rattle.xmp_nodes.proofs.CastLeaf.{casts_follow}
use Rattle.xmp_nodes.proofs.ReflectLeaf.{reflects_follow}
use Rattle.xmp_nodes.proofs.MoveLeaf.{gmoves_follow}
use Rattle.xmp_nodes.proofs.Barriers.{barriers_follow}
use Rattle.xmp_nodes.proofs.TaskLeaf.{tasks_follow}
use Rattle.xmp_nodes.proofs.Lockstep.{Parts}
use Rattle.xmp_nodes.proofs.Standings.{carried_out}
use Rattle.xmp_nodes.proofs.Answering.{answers}

-- what holds of a statement at a node
at_a_node : StatementsCarry
at_a_node = statements_carry (record {
  plain_parts = plain_fits;
  block_parts = blocks_fit;
  if_parts = ifs_fit;
  counted_parts = counteds_fit;
  reads_keep = reads_keep;
  unwritten_stay = unwritten_stay;
  expressions = expressions_carry;
  plains = all_plains_carry;
  if_forms = if_forms_carry;
})

all_parts : Parts
all_parts = record {
  plain_parts = plain_fits;
  block_parts = blocks_fit;
  if_parts = ifs_fit;
  while_parts = whiles_fit;
  counted_parts = counteds_fit;
  all_stand = all_have;
  reads_keep = reads_keep;
  unwritten_stay = unwritten_stay;
  expressions = expressions_carry;
  plains = all_plains_carry;
  loops = loops_follow loops_fit alone_is_erased at_a_node;
  casts = casts_follow;
  reflects = reflects_follow;
  gmoves = gmoves_follow;
  barriers = barriers_follow;
  tasks = tasks_follow at_a_node statements_skip all_tasks_fit;
}

pub nodes_carry_out : (p : ProgParts) (input : List ℕ) (steps : ℕ)
    → PartsFit p → p.kind ≡ Global → HasAxes p → IsFirst (FlowBreaks p) None
    → StandsFor p input steps (world_after (nodes_end p input steps))
nodes_carry_out p input steps fits kind axes none =
    carried_out p (record { fits = fits; kind = kind; axes = axes }) input steps all_parts body_fits none

pub worlds_answer : (p : ProgParts) (input : List ℕ) (steps : ℕ) (w : World) → PartsFit p → p.kind ≡ Global → HasAxes p
    → StandsFor p input steps w → answer_of p w ≡ serial p input steps
worlds_answer p input steps w fits kind axes st = answers p (record { fits = fits; kind = kind; axes = axes }) input steps w st
