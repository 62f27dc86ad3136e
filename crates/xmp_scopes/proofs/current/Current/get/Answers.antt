use Rattle.std.proofs.Common.{◌∙◌, sym, ap}
use Rattle.xmp_scopes.specs.Table.{visible}
use Rattle.xmp_scopes.proofs.Entries.{join, got}
use Rattle.xmp_scopes.proofs.current.Current.get.Goals as goal

pub returns-in-Some : goal.returns-in-Some
returns-in-Some g c = ap join c.in-Some.ensures.value ∙ sym (got (λ k. k.items) c.args.name.now c.self.inside.table.entries) ∙ ap (visible c.args.name.now) c.self.view_is

pub returns-in-None : goal.returns-in-None
returns-in-None g c = ap join c.in-None.ensures.value ∙ sym (got (λ k. k.items) c.args.name.now c.self.inside.table.entries) ∙ ap (visible c.args.name.now) c.self.view_is
