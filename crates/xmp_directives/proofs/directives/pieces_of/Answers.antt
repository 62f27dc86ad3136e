use Rattle.std.proofs.Common.{◌∙◌, ap, sym}
use Rattle.std.specs.Prelude.{slice_get}
use Rattle.xmp_names.specs.Lists.{parts}
use Rattle.xmp_names.specs.Walk.{each}
use Rattle.xmp_names.proofs.Walks.{part_step, part_end}
use Rattle.xmp_directives.specs.Directives.{piece_of}
use Rattle.xmp_directives.proofs.directives.pieces_of.Goals as goal

pub list-preserved : goal.list-preserved
list-preserved c =
    c.list.invariant
    ∙ part_step (piece_of c.notation-written.result) c.list.done c.push.new.self (parts c.args.list.now) c.in-Some.x.now c.in_ok-piece.piece c.list.world c.piece_of.new.world
    (ap (slice_get (parts c.args.list.now)) (sym c.len.ensures) ∙ sym c.in-Some.ensures.value) c.in_ok-piece.ensures c.in_ok-push.ensures.ok

pub returns : goal.returns
returns c =
    ap (λ n. each (piece_of n) (parts c.args.list.now) c.args.world.now) (sym c.notation-written.ensures)
    ∙ (c.list.invariant
    ∙ part_end (piece_of c.notation-written.result) c.list.done (parts c.args.list.now) c.list.world (ap (slice_get (parts c.args.list.now)) (sym c.len.ensures) ∙ sym c.in_default.ensures.value))
