use Rattle.std.proofs.Common.{◌≡◌, drop}
use Rattle.xmp_syntax.specs.Spell.{each, next}
use Rattle.xmp_tree.proofs.spelling_lists.put_next.Given as goal

-- what is put down so far is what the items from here on spell
abbrev pub invariant-items : goal.invariant-items
invariant-items g l = l.rest ≡ each (next g.S.Spelled.text) (drop l.i l.xs) l.initial.rest
