use Rattle.std.proofs.Common.{◌≡◌, ◌∙◌, sym, ap, arith, List, ℤ, length, ◌<◌}
use Rattle.std.specs.Prelude.{slice_get}
use Rattle.xmp_first.specs.FirstTree.{tree_of}
use Rattle.xmp_first.proofs.FirstTrees.{spelled}
use Rattle.xmp_first.specs.Nodes.{store_of, turns_of}
use Rattle.xmp_first.proofs.Tables.{slice_get-tabulate, length-tabulate}
use Rattle.xmp_first.proofs.nodes.run_first.Goals as goal

pub line_of-requires : goal.line_of-requires
line_of-requires c =
    let some : 0 < c.args.p.now.nodes = omega arith in
    let here = slice_get-tabulate (store_of c.args.p.now.size c.args.p.now.nodes (tree_of c.args.p.now.value)) c.args.p.now.nodes 0 some in
    let found = c.in-Some.ensures.row ∙ ap (λ (rows : List (List ℤ)). slice_get rows 0) c.in_ok-stores.ensures ∙ here in
    let first : c.in-Some.first.now ≡ store_of c.args.p.now.size c.args.p.now.nodes (tree_of c.args.p.now.value) 0 = cc in
    let more = ap (λ (xs : List ℤ). length xs) first in
    omega (arith, more)

pub invariant_of-result : goal.invariant_of-result
invariant_of-result c =
    let turns = ap length c.in_ok-turns.ensures ∙ length-tabulate (turns_of c.args.p.now.size c.args.p.now.nodes) c.args.p.now.nodes in
    let stores = ap length c.in_ok-stores.ensures ∙ length-tabulate (store_of c.args.p.now.size c.args.p.now.nodes (tree_of c.args.p.now.value)) c.args.p.now.nodes in
    (turns ∙ sym stores, omega (arith, stores))

pub returns : goal.returns
returns c =
    let some : 0 < c.args.p.now.nodes = omega arith in
    let here = slice_get-tabulate (store_of c.args.p.now.size c.args.p.now.nodes (tree_of c.args.p.now.value)) c.args.p.now.nodes 0 some in
    let found = c.in-Some.ensures.row ∙ ap (λ (rows : List (List ℤ)). slice_get rows 0) c.in_ok-stores.ensures ∙ here in
    let first : c.in-Some.first.now ≡ store_of c.args.p.now.size c.args.p.now.nodes (tree_of c.args.p.now.value) 0 = cc in
    record {
      expression = tree_of c.args.p.now.value;
      spelled = spelled c.args.p.now.value c.args.p.now.expression;
      stores_are = c.in_ok-stores.ensures;
      turns_are = c.in_ok-turns.ensures;
      out_is = rw first at c.in_ok-out.ensures;
    }
