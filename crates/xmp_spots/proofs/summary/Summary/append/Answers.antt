use Rattle.std.proofs.Common.{◌≡◌, ◌↔◌, ◌⊎◌, Contains, true, subst}
use Rattle.indexmap.proofs.MapLemmas.{OnOk-map}
use Rattle.xmp_spots.proofs.summary.Summary.append.Goals as goal

pub returns-clause-late : goal.returns-clause-late
returns-clause-late c =
    OnOk-map c.absorb_where-2.result _ _
    (λ f t.
    subst (λ l. Contains c.absorb_where-2.new.set t ↔ (Contains c.args.next.late t ⊎ ((c.args.next.passes ≡ true) × Contains l t))) c.swap.ensures.y_after
    (subst (λ l. Contains c.absorb_where-2.new.set t ↔ (Contains l t ⊎ ((c.args.next.passes ≡ true) × Contains c.swap.new.y t))) c.swap.ensures.x_after (f t)))
    c.absorb_where-2.ensures
