use Rattle.std.proofs.Common.{◌≡◌, map, drop}
use Rattle.xmp_names.specs.Walk.{all}
use Rattle.xmp_walk.specs.Declarations.{file_declaration, file_declarator}
use Rattle.xmp_walk.proofs.declarations.file_declaration.Given as goal

-- what is left to do from here gives what the whole gives
abbrev pub invariant-more : goal.invariant-more
invariant-more l = file_declaration l.fn.d l.fn.world ≡ all (file_declarator l.ty) (map (λ n. n.item) (drop l.next-index l.next-items)) l.world
