use Rattle.std.proofs.Common.{◌∙◌, ap, sym, []}
use Rattle.std.specs.Prelude.{⊤, is_some}
use Rattle.xmp_walk.specs.Declarations.{declare_array, local_declarator}
use Rattle.xmp_names.specs.Lists.{inner}
use Rattle.xmp_names.proofs.Walks.{one_step}
use Rattle.xmp_walk.proofs.declarations.local_declarator.Goals as goal

pub returns-in_ok-declare_array-in-Array : goal.returns-in_ok-declare_array-in-Array
returns-in_ok-declare_array-in-Array c =
    let w : _ = c.args.world.now in
    ap (λ d. local_declarator c.args.ty d w) c.in-Array.is
    ∙ one_step (declare_array c.args.ty c.in-Array.name (inner c.in-Array.list) (is_some c.in-Array.image)) (λ (u : ⊤). [])
    c.in_ok-declare_array-in-Array.field-0 c.new.result w c.declare_array.new.world
    (ap (λ b. declare_array c.args.ty c.in-Array.name (inner c.in-Array.list) b w) (sym c.is_coarray.ensures)
    ∙ (ap (λ l. declare_array c.args.ty c.in-Array.name (inner l) c.is_coarray.result w) (sym c.as_slice.ensures) ∙ c.in_ok-declare_array-in-Array.ensures))
    c.new.ensures
