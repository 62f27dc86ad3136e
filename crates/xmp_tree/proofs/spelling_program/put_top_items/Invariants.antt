use Rattle.std.proofs.Common.{◌≡◌, drop}
use Rattle.xmp_syntax.specs.Spell.{each, top_item}
use Rattle.xmp_tree.proofs.spelling_program.put_top_items.Given as goal

-- what is put down so far is what the items from here on spell
abbrev pub invariant-items : goal.invariant-items
invariant-items l = l.rest ≡ each top_item (drop l.i l.xs) l.initial.rest
