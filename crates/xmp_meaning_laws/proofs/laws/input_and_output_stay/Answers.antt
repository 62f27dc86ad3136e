use Rattle.xmp_meaning_laws.proofs.Stays.{input_stays, output_stays}
use Rattle.xmp_meaning_laws.proofs.laws.input_and_output_stay.Goals as goal

pub returns : goal.returns
returns c start = record { input = input_stays; output = output_stays }
