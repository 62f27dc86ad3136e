use Rattle.std.proofs.Common.{◌+◌, ◌-◌, ◌++◌, drop, length, map, sym, ap, ◌∙◌, arith}
use Rattle.std.specs.List.{range_with_len}
use Rattle.std.proofs.lemmas.List.{append_assoc}
use Rattle.xmp_prog.specs.declared.parts.Array.{Array}
use Rattle.xmp_meaning.specs.Programs.{told, told_of}
use Rattle.xmp_nodes.specs.Answers.{gathered_row}
use Rattle.xmp_world.proofs.ReportLaws.{read_there}
use Rattle.xmp_world.proofs.GatherLaws.{told_more}
use Rattle.xmp_world.proofs.gather.Gathering.told.Goals as goal

pub loop-array-preserved : goal.loop-array-preserved
loop-array-preserved c =
    let g = c.args.self.now in
    let p = g.parts.now in
    let k = c.loop-array.array in
    let a = c.index-arrays-array.result in
    let item = read_there c.as_slice-arrays.result.now p.arrays k a c.as_slice-arrays.ensures c.loop-array-test.true c.index-arrays-array.is in
    let behind = told p (drop (k + 1) p.arrays) (map (gathered_row p g.world.now) (range_with_len (k + 1) (length p.arrays - (k + 1)))) in
    c.loop-array.invariant
    ∙ (ap (λ t. c.loop-array.all ++ t) (told_more p c.requires.view g.world.now k a item (let l = ap length c.as_slice-arrays.ensures in omega (arith, l, c.loop-array-test.true)))
    ∙ (sym (append_assoc c.loop-array.all (told_of p a a.home (gathered_row p g.world.now k)) behind)
    ∙ ap (λ t. t ++ behind) (ap (λ (x : Array). c.loop-array.all ++ told_of p a x.home (gathered_row p g.world.now k)) c.index-arrays-array.is ∙ sym (c.in_ok-tell.ensures a))))
