use Rattle.std.proofs.Common.{◌≡◌, map, drop}
use Rattle.xmp_walk.specs.Declarations.{local_declaration, local_declarators}
use Rattle.xmp_walk.proofs.declarations.local_declaration.Given as goal

-- what is left to do from here gives what the whole gives
abbrev pub invariant-more : goal.invariant-more
invariant-more l = local_declaration l.fn.done l.fn.d l.fn.world ≡ local_declarators l.ty l.done (map (λ n. n.item) (drop l.next-index l.next-items)) l.world
