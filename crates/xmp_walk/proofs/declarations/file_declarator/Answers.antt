use Rattle.std.proofs.Common.{◌∙◌, ap, sym}
use Rattle.xmp_walk.specs.Declarations.{declare_array, file_declarator}
use Rattle.xmp_names.specs.Lists.{inner}
use Rattle.xmp_names.proofs.Walks.{same_walk}
use Rattle.xmp_walk.proofs.declarations.file_declarator.Goals as goal

pub returns-in-Array : goal.returns-in-Array
returns-in-Array c =
    let w : _ = c.args.world.now in
    same_walk (file_declarator c.args.ty c.args.x.now w) (declare_array c.args.ty c.in-Array.name (inner c.as_slice.result.now) c.is_coarray.result w)
    c.declare_array.result c.declare_array.new.world
    (ap (λ d. file_declarator c.args.ty d w) c.in-Array.is
    ∙ (ap (λ b. declare_array c.args.ty c.in-Array.name (inner c.in-Array.list) b w) (sym c.is_coarray.ensures)
    ∙ ap (λ l. declare_array c.args.ty c.in-Array.name (inner l) c.is_coarray.result w) (sym c.as_slice.ensures)))
    c.declare_array.ensures
