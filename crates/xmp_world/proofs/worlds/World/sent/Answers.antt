use Rattle.std.proofs.Common.{◌≡◌, ◌<◌, ◌+◌, ◌*◌, length, sym, ap, subst, ◌∙◌, arith}
use Rattle.std.specs.Prelude.{slice_get}
use Rattle.std.proofs.lemmas.Nat.{mul-add-lt}
use Rattle.std.proofs.lemmas.Option.{slice_get_read}
use Rattle.xmp_nodes.specs.Worlds.{World}
use Rattle.xmp_world.specs.Counts.{sent_to}
use Rattle.xmp_world.proofs.RowLaws.{row_read}
use Rattle.xmp_world.proofs.worlds.World.sent.Goals as goal

pub returns : goal.returns
returns c =
    let w = c.self.inside in
    let n = length w.stores in
    let wide : c.len.result ≡ n = c.len.ensures ∙ (w.turns.ok.0 ∙ c.self.invariant.0) in
    let many : n ≡ length c.args.self.now.stores = ap (λ (x : World). length x.stores) c.self.view_is in
    let from : c.args.from < n = omega (arith, c.requires.from, many) in
    let to : c.args.to < n = omega (arith, c.requires.to, many) in
    let inside : c.args.from * c.len.result + c.args.to < n * n =
    subst (λ k. c.args.from * k + c.args.to < n * n) (sym wide) (mul-add-lt c.args.from n c.args.to n from to) in
    ap (λ (x : World). sent_to x c.args.from c.args.to) (sym c.self.view_is)
    ∙ (row_read n n w.sent.items c.args.from c.args.to from to
    ∙ (ap (λ k. slice_get w.sent.items (c.args.from * k + c.args.to)) (sym wide)
    ∙ slice_get_read w.sent.items (n * n) (c.args.from * c.len.result + c.args.to) c.index.result.now (sym c.self.invariant.1) inside c.index.ensures))
