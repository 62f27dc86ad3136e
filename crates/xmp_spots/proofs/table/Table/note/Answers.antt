use Rattle.std.proofs.Common.{ap, ◌∙◌, cond, Some}
use Rattle.std.specs.Map.{lookup}
use Rattle.xmp_spots.specs.contracts.keys.KeyPartialEq.TheImpl as key_eq
use Rattle.xmp_spots.specs.Clashes.{by_two}
use Rattle.xmp_spots.specs.Nearest.{noted}
use Rattle.xmp_spots.specs.Seen.{seen_by}
use Rattle.xmp_spots.specs.Tables.{seen_in}
use Rattle.xmp_spots.proofs.KeyLaws.{noted_at}
use Rattle.xmp_spots.proofs.table.Table.note.Goals as goal
use Rattle.xmp_spots.proofs.table.Table.note.Goals.{in-Some, in-None}

pub returns-in-Ok : goal.returns-in-Ok
returns-in-Ok c =
    let old = c.args.self.now.nearest.entries in
    let new = c.insert.new.self.entries in
    elim c.match-get.branch [
      | in-Some w ↦ noted_at old new c.args.key c.match-get.nearest c.args.by c.args.refusal
          (λ k. c.in-Ok.ensures.updates.0 k ∙ ap (λ s. cond (key_eq.eq-value.it c.args.key k) (Some c.match-get.nearest) (lookup (key_eq.eq-value.it k) s.nearest.entries)) w.self-is)
          (λ q. ap (λ n. seen_by n q) w.nearest-is ∙ (w.with-nearest.ensures q
          ∙ ap (λ x. noted (by_two q c.args.by) c.args.refusal (seen_in x q)) w.in-Some.ensures.value))
      | in-None w ↦ noted_at old new c.args.key c.match-get.nearest c.args.by c.args.refusal
          (λ k. c.in-Ok.ensures.updates.0 k ∙ ap (λ s. cond (key_eq.eq-value.it c.args.key k) (Some c.match-get.nearest) (lookup (key_eq.eq-value.it k) s.nearest.entries)) w.self-is)
          (λ q. ap (λ n. seen_by n q) w.nearest-is ∙ (w.new-nearest.ensures q
          ∙ ap (λ x. noted (by_two q c.args.by) c.args.refusal (seen_in x q)) w.in-None.ensures.value))
    ]
