use Rattle.std.proofs.Common.{◌≡◌, drop}
use Rattle.xmp_syntax.specs.Spell.{dims}
use Rattle.xmp_tree.proofs.spelling_lists.put_dims.Given as goal

-- what is put down so far is what the items from here on spell
abbrev pub invariant-items : goal.invariant-items
invariant-items g l = l.rest ≡ dims g.S.Spelled.text (drop l.i l.xs) l.initial.rest
