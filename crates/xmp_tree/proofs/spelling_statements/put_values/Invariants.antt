use Rattle.std.proofs.Common.{◌≡◌, drop}
use Rattle.xmp_syntax.specs.View.{rest_view}
use Rattle.xmp_syntax.specs.Spell.{spell_rest}
use Rattle.xmp_tree.proofs.spelling_statements.put_values.Given as goal

-- what is put down so far is what the items from here on spell
abbrev pub invariant-items : goal.invariant-items
invariant-items l = l.rest ≡ spell_rest (rest_view (drop l.i l.xs)) l.initial.rest
