use Rattle.std.proofs.Common.{rules}
use Rattle.xmp_tasks.proofs.Whole.{first_printed}
use Rattle.xmp_tasks.proofs.tasks.first_prints.Goals as goal

pub returns-in_ok-write-in-Some : goal.returns-in_ok-write-in-Some
returns-in_ok-write-in-Some c = first_printed _ (search rules) c.in_ok-write-in-Some.ensures
