use Rattle.std.proofs.Common.{◌∙◌, ap, map}
use Rattle.xmp_paths.specs.Copies.{change_joined}
use Rattle.xmp_paths.proofs.TrailLaws.{join_is, join_returns}
use Rattle.xmp_paths.proofs.copies.Copies.join.Goals as goal

pub returns-clause-sets : goal.returns-clause-sets
returns-clause-sets c =
    join_is c.args.self.now c.args.start c.args.changes _ _ c.go_back.new.self c.add.new.self c.put.new.self
    (c.as_slice-3.ensures ∙ (c.in_ok-both.ensures ∙ ap (map (change_joined c.args.self.now)) c.as_slice.ensures)) (c.as_slice-2.ensures ∙ c.in_ok-others.ensures.changes)
    c.in_ok-others.ensures.sets c.in_ok-add.ensures.sets c.in_ok-put.ensures.sets

pub returns-clause-returns : goal.returns-clause-returns
returns-clause-returns c =
    join_returns c.args.self.now c.args.start c.go_back.new.self c.add.new.self c.put.new.self
    c.in_ok-others.ensures.trail c.in_ok-others.ensures.sets c.in_ok-add.ensures.returns c.in_ok-put.ensures.returns
