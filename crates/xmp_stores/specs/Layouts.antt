-- The layouts of the nodes' stores, as the runner keeps them.
use Rattle.std.specs.Prelude.{◌≡◌, ℕ, suc, List, [], ◌∷◌, Some}
use Rattle.xmp_prog.specs.declared.parts.ProgParts.{ProgParts}
use Rattle.xmp_serial.specs.declared.layout.Layout.{Layout}

-- these are the packed layouts of the program for the nodes from a number on
abbrev pub AreLayouts : ProgParts → (node : ℕ) → List Layout → Type 0
AreLayouts p node [] = Unit {0}
AreLayouts p node (l ∷ ls) = (l.program.now ≡ p) × (l.packed ≡ Some node) × AreLayouts p (suc node) ls
