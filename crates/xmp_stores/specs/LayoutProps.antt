-- That layouts are those of a program is said in one way.
use Rattle.std.proofs.Common.{ℕ, suc, List, [], ◌∷◌}
use Rattle.std.specs.Coded.{Coded-set, coded_option, coded_ℕ}
use Rattle.xmp_prog.specs.declared.parts.ProgParts.{ProgParts}
use Rattle.xmp_prog.specs.contracts.parts.ProgParts as program
use Rattle.xmp_serial.specs.declared.layout.Layout.{Layout}
use Rattle.xmp_stores.specs.Layouts.{AreLayouts}

pub layouts_prop : (p : ProgParts) (node : ℕ) (ls : List Layout) → IsProp (AreLayouts p node ls)
layouts_prop p node [] = hlevel
layouts_prop p node (l ∷ ls) = hlevel (Coded-set program.the_row.coded, Coded-set (coded_option coded_ℕ), layouts_prop p (suc node) ls)
