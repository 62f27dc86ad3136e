use Rattle.std.proofs.Common.{◌≡◌, ◌*◌, ℕ, length, rules, ap, ◌∙◌}
use Rattle.xmp_spmd.proofs.Rows.{behind_none, flat_length}
use Rattle.xmp_spmd.proofs.ending.flat.Goals as goal

pub returns-clause-many : goal.returns-clause-many
returns-clause-many c =
    let long : length c.args.rows.now ≡ c.args.count = search rules in
    ap length (behind_none _ c.new-all.ensures.items c.in_ok-push_rows.ensures.counts) ∙ flat_length c.args.count c.args.rows.now c.in_ok-push_rows.ensures.wide ∙ ap (λ (n : ℕ). n * c.args.count) long
