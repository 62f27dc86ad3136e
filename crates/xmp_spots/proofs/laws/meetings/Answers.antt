use Rattle.xmp_spots.proofs.EarlyLaws.{early_is}
use Rattle.xmp_spots.proofs.MeetingLaws.{meet_is}
use Rattle.xmp_spots.proofs.laws.meetings.Goals as goal

pub returns-clause-early : goal.returns-clause-early
returns-clause-early c = early_is

pub returns-clause-meet : goal.returns-clause-meet
returns-clause-meet c = meet_is
