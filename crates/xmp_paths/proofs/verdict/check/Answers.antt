use Rattle.std.proofs.Common.{ℕ, false}
use Rattle.xmp_paths.specs.Flows.{plan_of}
use Rattle.xmp_paths.specs.Copies.{may_be_stale}
use Rattle.xmp_paths.proofs.FindLaws.{first_entry}
use Rattle.xmp_paths.proofs.VerdictLaws.{first_on_paths}
use Rattle.xmp_paths.proofs.verdict.check.Goals as goal

pub returns-in-Ok : goal.returns-in-Ok
returns-in-Ok c =
    first_on_paths c.args.phase (plan_of c.args.flow.now) c.in-Ok.found
    (first_entry c.args.phase (plan_of c.args.flow.now) (may_be_stale c.new-copies.result) (λ (object : ℕ) (node : ℕ). false) c.in-Ok.found
    c.new-copies.ensures c.in-Ok.ensures.first)
