-- Traps that were said, as the machine has them (this project).
use Rattle.std.specs.Prelude.{Option}
use Rattle.std.specs.Option.{option_map}
use Rattle.xmp_meaning.specs.TrapWords.{SaidTrap}
use Rattle.xmp_code.specs.declared.ends.TrapSaid.{TrapSaid}

abbrev pub said_of : TrapSaid → SaidTrap
said_of t = record { kind = t.kind; at = t.at; first = t.first; second = t.second; third = t.third }

abbrev pub said_of_each : Option (Option TrapSaid) → Option (Option SaidTrap)
said_of_each found = option_map (option_map said_of) found
