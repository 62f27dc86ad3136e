use Rattle.std.proofs.Common.{sym, ap, subst, ◌∙◌}
use Rattle.xmp_base.specs.First.{IsFirst}
use Rattle.xmp_spots.specs.Clashes.{clash}
use Rattle.xmp_spots.specs.Asking.{asked_spots}
use Rattle.xmp_spots.specs.Races.{IsAtOne}
use Rattle.xmp_spots.proofs.AskingLaws.{asked_all, asked_writers}
use Rattle.xmp_spots.proofs.accesses.Accesses.partner.Goals as goal

pub returns-then-touch : goal.returns-then-touch
returns-then-touch c =
    let x = c.args.touch.now in
    subst (IsFirst (IsAtOne (clash x) c.args.self.now))
    (sym (c.ask_spots.ensures ∙ ap (asked_spots c.self.inside.all x.array) c.as_slice-spots.ensures))
    (subst (λ ts. IsFirst (IsAtOne (clash x) ts) (asked_spots c.self.inside.all x.array x.spots)) c.self.view_is
    (asked_all c.self.inside.all x c.self.inside.touches c.self.invariant.0 c.if-touch.true))

pub returns : goal.returns
returns c =
    let x = c.args.touch.now in
    subst (IsFirst (IsAtOne (clash x) c.args.self.now))
    (sym (c.ask_spots-2.ensures ∙ ap (asked_spots c.self.inside.writers x.array) c.as_slice-spots.ensures))
    (subst (λ ts. IsFirst (IsAtOne (clash x) ts) (asked_spots c.self.inside.writers x.array x.spots)) c.self.view_is
    (asked_writers c.self.inside.writers x c.self.inside.touches c.self.invariant.1 c.if-touch.false))
