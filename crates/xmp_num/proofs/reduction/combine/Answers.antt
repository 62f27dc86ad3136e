use Rattle.xmp_num.proofs.ReductionLaws.{holds}
use Rattle.xmp_num.proofs.reduction.combine.Goals as goal

pub returns-in-Add-clause-laws : goal.returns-in-Add-clause-laws
returns-in-Add-clause-laws c = holds c.args.op c.args.ty

pub returns-in-Mul-clause-laws : goal.returns-in-Mul-clause-laws
returns-in-Mul-clause-laws c = holds c.args.op c.args.ty

pub returns-in-And-clause-laws : goal.returns-in-And-clause-laws
returns-in-And-clause-laws c = holds c.args.op c.args.ty

pub returns-in-Or-clause-laws : goal.returns-in-Or-clause-laws
returns-in-Or-clause-laws c = holds c.args.op c.args.ty

pub returns-in-Xor-clause-laws : goal.returns-in-Xor-clause-laws
returns-in-Xor-clause-laws c = holds c.args.op c.args.ty

pub returns-in-Max-clause-laws : goal.returns-in-Max-clause-laws
returns-in-Max-clause-laws c = holds c.args.op c.args.ty

pub returns-in-Min-clause-laws : goal.returns-in-Min-clause-laws
returns-in-Min-clause-laws c = holds c.args.op c.args.ty
