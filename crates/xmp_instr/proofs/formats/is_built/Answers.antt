use Rattle.std.proofs.Common.{sym, subst, ◌↔◌, IsTrue}
use Rattle.xmp_instr.specs.Valid.{IsBuilt}
use Rattle.xmp_instr.proofs.BuiltFormats.{built_is}
use Rattle.xmp_instr.proofs.formats.is_built.Goals as goal

pub returns : goal.returns
returns c = subst (λ t. IsTrue t ↔ IsBuilt c.args.format.now) (sym c.reads.ensures) (built_is c.args.format.now)
