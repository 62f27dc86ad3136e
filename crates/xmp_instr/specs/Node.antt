-- A node as it goes through its code (this project).
use Rattle.std.specs.Prelude.{ℕ, Bool, false, List, [], replicate, ℤ, pos, Option, None}
use Rattle.xmp_base.specs.declared.place.Place.{Place}
use Rattle.xmp_num.specs.declared.types.TrapKind.{TrapKind}
use Rattle.xmp_message.specs.declared.Message.{Message}
use Rattle.xmp_instr.specs.declared.parts.CodeParts.{CodeParts}
use Rattle.xmp_instr.specs.Data.{Data}

-- The places of the open `Call`s, the last opened first; the open guard; and where in the text that was printed that of
-- the node's task begins: where the last guard since the last exchange was opened.
pub record Frame : Type 0 where
  pub calls : List ℕ
  pub guard : Option ℕ
  pub text_from : Option ℕ

-- A node that stands at an exchange: the number of the meeting, the numbers that it took for it, the text of its task,
-- to which nodes its message is out, and the messages that came, both by node.
pub record Standing : Type 0 where
  pub meeting : ℕ
  pub numbers : List ℤ
  pub text : List ℕ
  pub told : List Bool
  pub heard : List (Option Message)

-- It goes through its instructions, stands at an exchange, or is over, since the trap of a meeting ended its run.
pub data Stage : Type 0 where
  Going : Stage
  Meets : Standing → Stage
  Over : TrapKind → Place → Stage

-- The number of the next instruction, the stack, whose first is its top, and how many words were sent to each node.
pub record Node : Type 0 where
  pub place : ℕ
  pub stack : List ℤ
  pub frame : Frame
  pub state : Data
  pub stage : Stage
  pub sent : List ℕ

-- nothing is open
abbrev pub no_calls : Frame
no_calls = record { calls = []; guard = None; text_from = None }

-- the words are 0, and nothing is printed, read, taken or noted
abbrev pub fresh : CodeParts → Data
fresh c = record {
  words = replicate c.words (pos 0);
  out = [];
  muted = false;
  taken = 0;
  steps = c.steps;
  turns = 0;
  noted = None;
}

-- a node before its first instruction
abbrev pub beginning : CodeParts → Node
beginning c = record {
  place = 0;
  stack = [];
  frame = no_calls;
  state = fresh c;
  stage = Going;
  sent = replicate c.nodes 0;
}
