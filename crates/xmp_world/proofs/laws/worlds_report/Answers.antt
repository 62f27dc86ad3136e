use Rattle.xmp_world.proofs.WorldReports.{world_reports}
use Rattle.xmp_world.proofs.laws.worlds_report.Goals as goal

pub returns : goal.returns
returns c = world_reports
