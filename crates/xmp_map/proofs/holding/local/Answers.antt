use Rattle.std.proofs.Common.{rules, ◌≡◌, Some, None, ℕ, length, sym, ◌∙◌, arith, ap}
use Rattle.std.specs.Prelude.{if◌then◌else◌}
use Rattle.xmp_dist.specs.Count.{count_below}
use Rattle.xmp_map.specs.Held.{holds_on}
use Rattle.xmp_map.proofs.HoldLaws.{node_lt, holds_whole, count_below-all}
use Rattle.xmp_map.proofs.holding.local.Goals as goal

pub local_of-requires-clause-node : goal.local_of-requires-clause-node
local_of-requires-clause-node c =
    let t = c.args.template.now in
    let l : length t.grid.sizes ≡ 3 = search rules in
    let k = node_lt t c.args.dim.now.target.dim c.args.at.now c.in-Some.spread l c.requires.node (sym c.under.ensures ∙ c.in-Some.is) in
    omega (arith, c.node_along.ensures)

pub returns-in-None : goal.returns-in-None
returns-in-None c =
    let l = c.args.dim.now in
    let all = λ (x : ℕ). holds_whole c.args.template.now.spread c.args.at.now l x (sym c.under.ensures ∙ c.in-None.is) in
    sym (ap (λ b. if b then Some (count_below (holds_on c.args.template.now.spread c.args.at.now l) c.args.x) else None) (all c.args.x)
    ∙ ap (λ n. Some n) (count_below-all (holds_on c.args.template.now.spread c.args.at.now l) c.args.x all))
