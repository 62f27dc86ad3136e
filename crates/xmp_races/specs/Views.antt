-- The setting that the code holds.
use Rattle.xmp_loops.specs.Tables.{flag_at}
use Rattle.xmp_races.specs.Setting.{Setting}
use Rattle.xmp_races.specs.Footprints as footprints
use Rattle.xmp_races.specs.declared.setting.Site.{Site}
use Rattle.xmp_races.specs.declared.whose.Whose.{Whose}
use Rattle.xmp_races.specs.declared.whose.Whose.TheVariants.{Own, Given, Turning, Unknown}

-- what the code holds, as a setting
abbrev pub setting_of : Site → Setting
setting_of s = record {
  program = s.program.now;
  count = s.count;
  values = s.values.now;
  looping = flag_at s.looping.now;
  counts = s.counts.now;
  loops = s.loops.now;
}

-- whose cells an access means
abbrev pub whose_of : Whose → footprints.Whose
whose_of Own = footprints.Own
whose_of (Given vs) = footprints.Given vs
whose_of (Turning l) = footprints.Turning l.now
whose_of Unknown = footprints.Unknown
