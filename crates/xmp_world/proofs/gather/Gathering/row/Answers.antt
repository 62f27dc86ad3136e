use Rattle.std.proofs.Common.{◌≡◌, ◌+◌, ◌++◌, ◌∷◌, [], map, sym, ap, ◌∙◌, arith, rules, w64}
use Rattle.std.specs.Prelude.{FitsSigned, slice_get, unwrap_or}
use Rattle.std.specs.List.{range_with_len}
use Rattle.std.proofs.lemmas.Int.{to_z-of_z}
use Rattle.std.proofs.lemmas.List.FromFn.{map-range_with_len_more}
use Rattle.xmp_dist.proofs.Counting.{count_below-zero}
use Rattle.xmp_map.specs.RowMajor.{product}
use Rattle.xmp_meaning.specs.Declarations.{extents}
use Rattle.xmp_move.specs.Stores.{word_at}
use Rattle.xmp_world.specs.Gathering.{array_base, cell_word, holds_number}
use Rattle.xmp_world.proofs.GatherLaws.{same_nodes, same_count, cell_is}
use Rattle.xmp_world.proofs.gather.Gathering.row.Goals as goal

pub loop-n-init : goal.loop-n-init
loop-n-init c = (c.in_ok-row.ensures.items, sym (count_below-zero (holds_number c.args.map.now 0)))

pub word-requires-clause-node : goal.word-requires-clause-node
word-requires-clause-node c =
    let g = c.args.self.now in
    let same = same_nodes g.parts.now c.requires.view g.world.now c.args.array c.requires.home.0 c.args.map.now c.requires.home.1 in
    omega (arith, same, c.place-at.ensures.node)

pub loop-n-preserved : goal.loop-n-preserved
loop-n-preserved c =
    let g = c.args.self.now in
    let n = c.loop-n.n in
    let z : 0 + n ≡ n = omega arith in
    let fit : FitsSigned w64 c.word.result = search rules in
    let cell = cell_is g.parts.now c.requires.view g.world.now c.args.array c.requires.home.0 c.args.map.now c.requires.home.1
    c.extents-sizes.result c.extents-sizes.ensures.extents n c.place-at.result.node (let k = c.cell_count-count.ensures in omega (arith, k, c.loop-n-test.true)) c.place-at.ensures.node c.place-at.ensures.owns c.place-at.ensures.only in
    let slot = ap (λ s. word_at (unwrap_or (slice_get g.world.now.stores c.place-at.result.node) []) (array_base g.parts.now c.place-at.result.node c.args.array + s)) c.place-at.ensures.slot in
    let word = to_z-of_z w64 c.word.result fit ∙ (c.word.ensures ∙ (slot ∙ sym cell)) in (
      c.in_ok-push.ensures.items
          ∙ ((λ i. c.loop-n.invariant.0 i ++ word i ∷ []) ∙ sym (map-range_with_len_more (cell_word g.parts.now g.world.now c.args.array) 0 n n z)),
      sym c.place-at.ensures.next,
    )

pub returns : goal.returns
returns c =
    let g = c.args.self.now in
    let same = same_count g.parts.now c.requires.view g.world.now c.args.array c.requires.home.0 c.args.map.now c.requires.home.1 in
    let sizes = ap product c.extents-sizes.ensures.extents in
    let count = c.cell_count-count.ensures in
    let all : c.loop-n.n ≡ product (extents g.parts.now c.args.array) = omega (arith, same, sizes, count, c.loop-n.auto.n-end, c.loop-n-test.false) in
    c.from_vec.ensures ∙ (c.loop-n.invariant.0 ∙ ap (λ k. map (cell_word g.parts.now g.world.now c.args.array) (range_with_len 0 k)) all)
