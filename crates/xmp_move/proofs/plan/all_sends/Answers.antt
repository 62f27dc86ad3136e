use Rattle.std.proofs.Common.{◌≡◌, ◌<◌, ◌∙◌, sym, ap, ◌++◌, ◌∷◌, [], map, refl, length, arith, ◌+◌, subst, List}
use Rattle.std.specs.List.{range_with_len}
use Rattle.std.proofs.lemmas.List.{map-append}
use Rattle.std.proofs.lemmas.List.FromFn.{map-range_with_len_more}
use Rattle.xmp_map.specs.Nodes.{filled}
use Rattle.xmp_move.specs.Kept.{IsOfCode}
use Rattle.xmp_move.specs.Ends.{IsAxes, HomeFits, owned_tests, held_tests}
use Rattle.xmp_move.specs.Plans.{target_of, source_of, target_picks, source_picks, needed_tests, may_give, peers_of, sends_to, fills_from}
use Rattle.xmp_move.proofs.Gathering.{sides_fit, gathers, sent_is, filled_is_list, moved, axes_good}
use Rattle.xmp_move.proofs.plan.all_sends.Goals as goal

pub given-gives-requires : goal.given-gives-requires
given-gives-requires c =
    let k = c.args.kind.now in
    let n = c.named_of-named.ensures in
    let ct : IsOfCode (target_of k).home = subst (λ s. IsOfCode s.home) c.target_of.ensures c.items_are_three.ensures in
    let cs : IsOfCode (source_of k).home = subst (λ s. IsOfCode s.home) c.source_of-side.ensures c.items_are_three-2.ensures in
    let f = sides_fit k c.args.node c.requires.laid ct cs in
    rw n.source_extents (f.source_home c.args.node c.requires.node)

pub held_axes-held-requires : goal.held_axes-held-requires
held_axes-held-requires c =
    let k = c.args.kind.now in
    let n = c.named_of-named.ensures in
    let ct : IsOfCode (target_of k).home = subst (λ s. IsOfCode s.home) c.target_of.ensures c.items_are_three.ensures in
    let cs : IsOfCode (source_of k).home = subst (λ s. IsOfCode s.home) c.source_of-side.ensures c.items_are_three-2.ensures in
    let f = sides_fit k c.args.node c.requires.laid ct cs in
    rw (c.source_of-side.ensures, n.source_extents) (f.source_home c.args.node c.requires.node)

pub weighted-slots-requires : goal.weighted-slots-requires
weighted-slots-requires c =
    let k = c.args.kind.now in
    let n = c.named_of-named.ensures in
    let ct : IsOfCode (target_of k).home = subst (λ s. IsOfCode s.home) c.target_of.ensures c.items_are_three.ensures in
    let cs : IsOfCode (source_of k).home = subst (λ s. IsOfCode s.home) c.source_of-side.ensures c.items_are_three-2.ensures in
    let f = sides_fit k c.args.node c.requires.laid ct cs in
    let g = gathers k c.args.args.now c.args.node c.requires.laid c.requires.numbers c.requires.good in
    let held = moved c.held_axes-held.result c.named_of-named.result.source_extents (filled 1 (source_of k).extents) c.named_of-named.result.source (source_picks k c.args.args.now)
    (held_tests c.source_of-side.result.now.home c.args.node) (held_tests (source_of k).home c.args.node) n.source_extents n.source (ap (λ s. held_tests s.home c.args.node) c.source_of-side.ensures) c.held_axes-held.ensures in
    let p = g.pairs in
    let good = axes_good c.held_axes-held.result (filled 1 (source_of k).extents) (source_picks k c.args.args.now) (held_tests (source_of k).home c.args.node) held p.source f.source_small f.source_cells in
    record { fits = good.0; small = good.1 }

pub needed-needs-requires : goal.needed-needs-requires
needed-needs-requires c =
    let k = c.args.kind.now in
    let n = c.named_of-named.ensures in
    let ct : IsOfCode (target_of k).home = subst (λ s. IsOfCode s.home) c.target_of.ensures c.items_are_three.ensures in
    let cs : IsOfCode (source_of k).home = subst (λ s. IsOfCode s.home) c.source_of-side.ensures c.items_are_three-2.ensures in
    let f = sides_fit k c.args.node c.requires.laid ct cs in
    let l : c.loop-to.to < peers_of k = omega (arith, c.loop-to-test.true, c.peers_of-to-end.ensures) in
    rw n.target_extents (f.target_home c.loop-to.to l)

pub due_list-requires : goal.due_list-requires
due_list-requires c =
    let k = c.args.kind.now in
    let n = c.named_of-named.ensures in
    let ct : IsOfCode (target_of k).home = subst (λ s. IsOfCode s.home) c.target_of.ensures c.items_are_three.ensures in
    let cs : IsOfCode (source_of k).home = subst (λ s. IsOfCode s.home) c.source_of-side.ensures c.items_are_three-2.ensures in
    let f = sides_fit k c.args.node c.requires.laid ct cs in
    let l : c.loop-to.to < peers_of k = omega (arith, c.loop-to-test.true, c.peers_of-to-end.ensures) in
    let held = moved c.held_axes-held.result c.named_of-named.result.source_extents (filled 1 (source_of k).extents) c.named_of-named.result.source (source_picks k c.args.args.now)
    (held_tests c.source_of-side.result.now.home c.args.node) (held_tests (source_of k).home c.args.node) n.source_extents n.source (ap (λ s. held_tests s.home c.args.node) c.source_of-side.ensures) c.held_axes-held.ensures in
    let need = moved c.needed-needs.result c.named_of-named.result.target_extents (filled 1 (target_of k).extents) c.named_of-named.result.target (target_picks k c.args.args.now)
    (needed_tests k c.loop-to.to) (needed_tests k c.loop-to.to) n.target_extents n.target refl c.needed-needs.ensures in
    let give = moved c.given-gives.result c.named_of-named.result.source_extents (filled 1 (source_of k).extents) c.named_of-named.result.source (source_picks k c.args.args.now)
    (owned_tests (source_of k).home c.args.node) (owned_tests (source_of k).home c.args.node) n.source_extents n.source refl c.given-gives.ensures in
    let is = sent_is k c.args.args.now c.args.node c.requires.laid c.requires.numbers c.requires.good ct cs c.requires.node c.loop-to.to
    c.needed-needs.result c.given-gives.result c.held_axes-held.result l need give held in
    rw (c.may_give-is_due.ensures, c.weighted-slots.ensures, c.source_of-side.ensures) is.fits

pub loop-to-preserved : goal.loop-to-preserved
loop-to-preserved c =
    let k = c.args.kind.now in
    let n = c.named_of-named.ensures in
    let ct : IsOfCode (target_of k).home = subst (λ s. IsOfCode s.home) c.target_of.ensures c.items_are_three.ensures in
    let cs : IsOfCode (source_of k).home = subst (λ s. IsOfCode s.home) c.source_of-side.ensures c.items_are_three-2.ensures in
    let f = sides_fit k c.args.node c.requires.laid ct cs in
    let l : c.loop-to.to < peers_of k = omega (arith, c.loop-to-test.true, c.peers_of-to-end.ensures) in
    let held = moved c.held_axes-held.result c.named_of-named.result.source_extents (filled 1 (source_of k).extents) c.named_of-named.result.source (source_picks k c.args.args.now)
    (held_tests c.source_of-side.result.now.home c.args.node) (held_tests (source_of k).home c.args.node) n.source_extents n.source (ap (λ s. held_tests s.home c.args.node) c.source_of-side.ensures) c.held_axes-held.ensures in
    let need = moved c.needed-needs.result c.named_of-named.result.target_extents (filled 1 (target_of k).extents) c.named_of-named.result.target (target_picks k c.args.args.now)
    (needed_tests k c.loop-to.to) (needed_tests k c.loop-to.to) n.target_extents n.target refl c.needed-needs.ensures in
    let give = moved c.given-gives.result c.named_of-named.result.source_extents (filled 1 (source_of k).extents) c.named_of-named.result.source (source_picks k c.args.args.now)
    (owned_tests (source_of k).home c.args.node) (owned_tests (source_of k).home c.args.node) n.source_extents n.source refl c.given-gives.ensures in
    let is = sent_is k c.args.args.now c.args.node c.requires.laid c.requires.numbers c.requires.good ct cs c.requires.node c.loop-to.to
    c.needed-needs.result c.given-gives.result c.held_axes-held.result l need give held in
    let all = sends_to k c.args.args.now c.args.node in
    let same = rw (c.may_give-is_due.ensures, c.weighted-slots.ensures, c.source_of-side.ensures) at c.in_ok-list.ensures in
    c.in_ok-push.ensures.ok
    ∙ ap (λ r. r ++ c.in_ok-list.list ∷ []) c.loop-to.invariant
    ∙ ap (λ x. map all (range_with_len 0 c.loop-to.to) ++ x ∷ []) (same ∙ is.same)
    ∙ sym (map-range_with_len_more all 0 c.loop-to.to c.loop-to.to (omega arith))
