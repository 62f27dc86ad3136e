use Rattle.std.proofs.Common.{◌↔◌, drop}
use Rattle.std.specs.List.{AllByRecursion}
use Rattle.xmp_instr.specs.Valid.{MeetingFits}
use Rattle.xmp_instr.proofs.meetings.meetings_fit.Given as goal

-- all hold exactly where those that are left do
abbrev pub invariant-meetings : goal.invariant-meetings
invariant-meetings l = AllByRecursion (MeetingFits l.parts) l.parts.meetings ↔ AllByRecursion (MeetingFits l.parts) (drop l.meeting-index l.meetings)
