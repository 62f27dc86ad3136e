use Rattle.std.proofs.lemmas.Result.{IfOk-weaker}
use Rattle.xmp_stores.proofs.Beginnings.{next_layout}
use Rattle.xmp_stores.proofs.layouts.push_layout.Goals as goal

pub returns-clause-packed : goal.returns-clause-packed
returns-clause-packed c =
    IfOk-weaker c.push.result _ _ (λ x added. rw added (next_layout _ _ _ _ c.requires.packed c.requires.next c.in_ok-layout.ensures.program c.in_ok-layout.ensures.packed)) c.push.ensures
