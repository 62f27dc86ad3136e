use Rattle.std.proofs.Common.{IfErr, IfOk, subst}
use Rattle.xmp_names.specs.declared.world.World.{World}
use Rattle.xmp_parts.specs.Parts.{EachMade, IsTemplate, RefusedBy}
use Rattle.xmp_parts.specs.Verdict.{broken_in, verdict_of}
use Rattle.xmp_parts.proofs.elaborated.placed_in.Goals as goal

pub returns-in-Ok-clause-templates : goal.returns-in-Ok-clause-templates
returns-in-Ok-clause-templates c =
    subst (λ (w : World). IfOk c.place_or_refuse.result (λ m. EachMade (λ k line t. IsTemplate w m.grid k t) 0 w.mappings.templates m.templates))
    c.in-Ok.ensures c.place_or_refuse.ensures.templates

pub returns-in-Ok-clause-refused : goal.returns-in-Ok-clause-refused
returns-in-Ok-clause-refused c =
    subst (λ (w : World). IfErr c.place_or_refuse.result (λ e. RefusedBy (verdict_of (broken_in w)) e)) c.in-Ok.ensures c.place_or_refuse.ensures.refused
