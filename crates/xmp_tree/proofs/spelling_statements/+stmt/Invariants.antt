use Rattle.std.proofs.Common.{◌≡◌, drop}
use Rattle.xmp_syntax.specs.View.{items_view, tasks_view}
use Rattle.xmp_syntax.specs.Spell.{spell_items, spell_tasks}
use Rattle.xmp_tree.proofs.spelling_statements.+stmt.Given as goal

-- what is put down so far is what the items from here on spell
abbrev pub invariant-put_items-items : goal.invariant-put_items-items
invariant-put_items-items l = l.rest ≡ spell_items (items_view (drop l.i l.xs)) l.initial.rest

abbrev pub invariant-put_tasks-tasks : goal.invariant-put_tasks-tasks
invariant-put_tasks-tasks l = l.rest ≡ spell_tasks (tasks_view (drop l.i l.xs)) l.initial.rest
