use Rattle.std.proofs.Common.{◌≡◌, ◌<◌, ℕ, ap, arith, subst}
use Rattle.atomic_table.specs.Seated.{TableId}
use Rattle.xmp_seg.proofs.Runs.{splits}
use Rattle.xmp_seg.proofs.making.next_seat.Goals as goal

pub split_seat-first-requires : goal.split_seat-first-requires
split_seat-first-requires g c =
    let past = ap (λ m. m.0.past) c.requires.rest in (
      c.requires.table,
      subst (λ (t : TableId). 0 < t.words) c.requires.table c.requires.some,
      splits g.S.Script.script _ c.args.rest.now.me.0 (omega (arith, past, c.requires.lies)),
    )
