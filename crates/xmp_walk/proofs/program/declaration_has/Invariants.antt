use Rattle.std.proofs.Common.{◌≡◌, map, drop}
use Rattle.std.specs.List.{list_any}
use Rattle.xmp_walk.specs.Program.{coarray_declaration, coarray_declarator}
use Rattle.xmp_walk.proofs.program.declaration_has.Given as goal

-- what is left to do from here gives what the whole gives
abbrev pub invariant-more : goal.invariant-more
invariant-more l = coarray_declaration l.fn.d ≡ list_any coarray_declarator (map (λ n. n.item) (drop l.next-index l.next-items))
