use Rattle.std.proofs.Common.{◌≡◌, map, drop}
use Rattle.std.specs.List.{list_any}
use Rattle.xmp_loops.specs.Forms.{names}
use Rattle.xmp_loops.proofs.naming.+names.Given as goal

-- the expressions that are left decide
abbrev pub invariant-any_names-items : goal.invariant-any_names-items
invariant-any_names-items l = list_any (λ b. b) (map (names l.v) l.es) ≡ list_any (λ b. b) (map (names l.v) (drop l.e-index l.es))
