-- The node that a state of the machine is (this project).
use Rattle.std.specs.Prelude.{ℕ, List, [], reverse, ℤ, Option, Some, None}
use Rattle.std.specs.Option.{option_map}
use Rattle.xmp_instr.specs.Data as instr
use Rattle.xmp_instr.specs.Node.{Stage, Going, Meets, Over, Node, Frame}
use Rattle.xmp_instr.specs.Effects.{text_before, text_behind}
use Rattle.xmp_code.specs.declared.state.Note.{Note}
use Rattle.xmp_code.specs.declared.state.Frame as own
use Rattle.xmp_code.specs.declared.state.Data.{Data}
use Rattle.xmp_code.specs.declared.state.Moving.{Moving}
use Rattle.xmp_code.specs.declared.state.Mode.{Mode}
use Rattle.xmp_code.specs.declared.state.Mode.TheVariants as mode
use Rattle.xmp_code.specs.declared.state.Talk.{Talk}
use Rattle.xmp_code.specs.declared.state.State.{State}

-- the trap that was noted
abbrev pub note_of : Note → instr.Note
note_of n = record { kind = n.kind; at = n.at; indices = n.indices }

-- the open calls, the last opened first
abbrev pub frame_of : own.Frame → Frame
frame_of f = record { calls = reverse f.calls.items; guard = f.guard; text_from = f.text_from }

-- where the text of the node's task begins, where it has left what is printed
abbrev pub mark_of : Mode → Option ℕ
mark_of mode.Going = None
mark_of (mode.Meets e mark) = mark
mark_of (mode.Over kind at) = None

abbrev pub data_of : Option ℕ → Data → instr.Data
data_of mark d = record {
  words = d.words.items;
  out = text_before mark d.out.items;
  muted = d.muted;
  taken = d.taken;
  steps = d.steps;
  turns = d.turns;
  noted = option_map note_of d.noted;
}

-- the numbers that were taken for a transfer
abbrev pub numbers_of : Option Moving → List ℤ
numbers_of None = []
numbers_of (Some m) = m.numbers.items

abbrev pub stage_of : Mode → Talk → (out : List ℕ) → Stage
stage_of mode.Going t out = Going
stage_of (mode.Meets e mark) t out = Meets (record {
  meeting = e;
  numbers = numbers_of t.moving;
  text = text_behind mark out;
  told = t.told.items;
  heard = t.heard.items;
})
stage_of (mode.Over kind at) t out = Over kind at

-- The node.
abbrev pub node_of : State → Node
node_of s = record {
  place = s.place;
  stack = s.stack.values;
  frame = frame_of s.frame;
  state = data_of (mark_of s.talk.mode) s.data;
  stage = stage_of s.talk.mode s.talk s.data.out.items;
  sent = s.sent.items;
}
