use Rattle.std.proofs.Common.{◌≡◌, ◌++◌, drop}
use Rattle.xmp_machine.specs.Resuming.{task_end_by, task_text_by, texts_by}
use Rattle.xmp_machine.proofs.tasks.texts_to_trap.Given as goal

-- the texts so far, and those of the rest, are all
abbrev pub invariant-tasks : goal.invariant-tasks
invariant-tasks l =
    texts_by (task_end_by l.known.node l.known.end l.known.heard.now) (task_text_by l.known.node l.known.text.now l.known.heard.now) l.fn.sets
    ≡ l.texts.items ++ texts_by (task_end_by l.known.node l.known.end l.known.heard.now) (task_text_by l.known.node l.known.text.now l.known.heard.now) (drop l.set-index l.sets)
