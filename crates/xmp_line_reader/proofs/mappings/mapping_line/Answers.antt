use Rattle.std.proofs.Common.{rules, ◌≡◌, ℕ, true, false, sym, refl, ap, ◌∙◌}
use Rattle.std.proofs.lemmas.Result.{err_from_is_err_and}
use Rattle.xmp_reader.proofs.Opening.{seq, into, skip, first, second, again, no_more}
use Rattle.xmp_reader.proofs.Listing.{split, whole, once_more, if_so, if_not, none_so_far, one_more}
use Rattle.xmp_line_reader.proofs.mappings.mapping_line.Goals as goal

pub returns-in-Nodes-clause-goes : goal.returns-in-Nodes-clause-goes
returns-in-Nodes-clause-goes c = rw c.in-Nodes.is c.nodes.ensures.goes

pub returns-in-Template-clause-goes : goal.returns-in-Template-clause-goes
returns-in-Template-clause-goes c = rw c.in-Template.is c.template.ensures.goes

pub returns-in-Distribute-clause-goes : goal.returns-in-Distribute-clause-goes
returns-in-Distribute-clause-goes c = rw c.in-Distribute.is c.distribute.ensures.goes

pub returns-in-Align-clause-goes : goal.returns-in-Align-clause-goes
returns-in-Align-clause-goes c = rw c.in-Align.is c.align.ensures.goes

pub returns-in-Shadow-clause-goes : goal.returns-in-Shadow-clause-goes
returns-in-Shadow-clause-goes c = rw c.in-Shadow.is c.shadow.ensures.goes
