use Rattle.std.proofs.Common.{◌∙◌, ap}
use Rattle.xmp_scopes.specs.Table.{put}
use Rattle.xmp_scopes.proofs.Entries.{written}
use Rattle.xmp_scopes.proofs.current.Current.put.Goals as goal

pub returns : goal.returns
returns g c = written (λ k. k.items) c.self.inside.table.entries c.args.at c.args.held ∙ ap (λ t. put t c.args.at c.args.held) c.self.view_is
