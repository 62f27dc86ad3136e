use Rattle.std.proofs.Common.{◌≡◌, ◌++◌, drop}
use Rattle.std.specs.Option.{option_map}
use Rattle.xmp_instr.specs.Meetings.{task_words}
use Rattle.xmp_code.specs.States.{note_of}
use Rattle.xmp_machine.proofs.saying.task_words.Given as goal

-- what is said so far, and what is said of the rest, is all
abbrev pub invariant-sets : goal.invariant-sets
invariant-sets l = task_words l.from l.to (option_map note_of l.noted) l.fn.sets
    ≡ l.words ++ task_words l.from l.to (option_map note_of l.noted) (drop l.set-index l.sets)
