use Rattle.std.proofs.Common.{rules, ◌≡◌, ℕ, true, false, sym, refl, ap, ◌∙◌}
use Rattle.std.proofs.lemmas.Result.{err_from_is_err_and}
use Rattle.xmp_reader.proofs.Opening.{seq, into, skip, first, second, again, no_more, first_not, second_not}
use Rattle.xmp_reader.proofs.Listing.{split, whole, once_more, if_so, if_not, entered}
use Rattle.xmp_line_reader.proofs.lines.plain_line.Goals as goal

pub returns-in-Reflect-clause-goes : goal.returns-in-Reflect-clause-goes
returns-in-Reflect-clause-goes c = λ h. rw c.in-Reflect.is c.reflect.ensures.goes

pub returns-in-Barrier-clause-goes : goal.returns-in-Barrier-clause-goes
returns-in-Barrier-clause-goes c = λ h. rw c.in-Barrier.is c.barrier.ensures.goes

pub returns-in-Bcast-clause-goes : goal.returns-in-Bcast-clause-goes
returns-in-Bcast-clause-goes c = λ h. rw c.in-Bcast.is c.bcast.ensures.goes

pub returns-in-Gmove-clause-goes : goal.returns-in-Gmove-clause-goes
returns-in-Gmove-clause-goes c = λ h. rw c.in-Gmove.is c.gmove.ensures.goes
