use Rattle.std.proofs.Common.{◌≡◌, drop}
use Rattle.xmp_syntax.specs.View.{links_view, rest_view, subscripts_view}
use Rattle.xmp_syntax.specs.Spell.{spell_links, spell_rest, spell_subscripts}
use Rattle.xmp_tree.proofs.spelling.+expr.Given as goal

-- what is put down so far is what the items from here on spell
abbrev pub invariant-put_links-links : goal.invariant-put_links-links
invariant-put_links-links l = l.rest ≡ spell_links (links_view (drop l.i l.links)) l.initial.rest

abbrev pub invariant-put_subscripts-subscripts : goal.invariant-put_subscripts-subscripts
invariant-put_subscripts-subscripts l = l.rest ≡ spell_subscripts (subscripts_view (drop l.i l.xs)) l.initial.rest

abbrev pub invariant-put_arguments-more : goal.invariant-put_arguments-more
invariant-put_arguments-more l = l.rest ≡ spell_rest (rest_view (drop l.i l.more)) l.initial.rest
