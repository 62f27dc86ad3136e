use Rattle.xmp_meaning.proofs.Stays as lemmas
use Rattle.xmp_meaning.proofs.laws.output_grows.Goals as goal

pub returns : goal.returns
returns c start cx s = lemmas.output_grows cx s
