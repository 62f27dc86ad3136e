use Rattle.std.proofs.Common.{◌∙◌, ap, ◌∷◌, []}
use Rattle.std.specs.Prelude.{None}
use Rattle.xmp_num.specs.declared.types.Ty.TheVariants.{Int}
use Rattle.xmp_prog.specs.declared.statements.Stmt.TheVariants as stmt
use Rattle.xmp_prog.specs.declared.statements.Plain.TheVariants as plain
use Rattle.xmp_names.specs.Walk.{declare_scalar, typed, typed_reference}
use Rattle.xmp_walk.specs.Statements.{first_part, index_of}
use Rattle.xmp_names.proofs.Walks.{three_steps}
use Rattle.xmp_walk.proofs.loops.first_declared.Goals as goal

pub returns : goal.returns
returns c =
    three_steps (declare_scalar c.args.name.now Int) (λ s. typed_reference (index_of c.args.name.now)) (λ s. typed c.args.value.now)
    (λ s t v. first_part (stmt.Plain (plain.Declare s None c.args.name.now.at) ∷ []) c.args.value.now t v)
    c.in_ok-slot.slot c.in_ok-target.target c.in_ok-made.made c.first_part.result
    c.args.world.now c.declare_scalar.new.self c.typed_index.new.world c.typed.new.self
    c.in_ok-slot.ensures c.in_ok-target.ensures c.in_ok-made.ensures
    (c.first_part.ensures ∙ ap (λ d. first_part d c.args.value.now c.in_ok-target.target c.in_ok-made.made) c.in_ok-declared.ensures)
