use Rattle.std.proofs.Common.{◌≡◌, length, rules, arith, sym, ◌∙◌, true}
use Rattle.std.proofs.lemmas.Bool.Decides.{nat_tests}
use Rattle.xmp_map.specs.Held.{holds}
use Rattle.xmp_map.proofs.MapLaws.{some_list, slot_fits}
use Rattle.xmp_map.proofs.array_map.ArrayMap.slot.Goals as goal

pub row_major-requires-clause-inside : goal.row_major-requires-clause-inside
row_major-requires-clause-inside c =
    let m = c.args.self.now in
    let l : length m.aligned ≡ 3 = search rules in
    let s = some_list _ _ c.in_ok-locals.locals (sym c.in_ok-locals.was ∙ c.locals.ensures) in
    let f = slot_fits m c.args.node c.args.cell.now.at c.in_ok-locals.locals c.sides.result l c.requires.inside s.0 s.1 c.sides.ensures.sides in
    f.inside

pub returns-clause-slot : goal.returns-clause-slot
returns-clause-slot c =
    let m = c.args.self.now in
    let l : length m.aligned ≡ 3 = search rules in
    let s = some_list _ _ c.in_ok-locals.locals (sym c.in_ok-locals.was ∙ c.locals.ensures) in
    let f = slot_fits m c.args.node c.args.cell.now.at c.in_ok-locals.locals c.sides.result l c.requires.inside s.0 s.1 c.sides.ensures.sides in
    c.row_major.ensures.number ∙ f.same

pub returns-clause-below : goal.returns-clause-below
returns-clause-below c =
    let m = c.args.self.now in
    let l : length m.aligned ≡ 3 = search rules in
    let s = some_list _ _ c.in_ok-locals.locals (sym c.in_ok-locals.was ∙ c.locals.ensures) in
    let f = slot_fits m c.args.node c.args.cell.now.at c.in_ok-locals.locals c.sides.result l c.requires.inside s.0 s.1 c.sides.ensures.sides in
    let e = f.same in
    let b = f.below in
    omega (arith, c.row_major.ensures.number)

pub returns-clause-only : goal.returns-clause-only
returns-clause-only c other io ho e =
    let m = c.args.self.now in
    let l : length m.aligned ≡ 3 = search rules in
    let s = some_list _ _ c.in_ok-locals.locals (sym c.in_ok-locals.was ∙ c.locals.ensures) in
    let f = slot_fits m c.args.node c.args.cell.now.at c.in_ok-locals.locals c.sides.result l c.requires.inside s.0 s.1 c.sides.ensures.sides in
    let h : holds m c.args.node other ≡ true = grind (arith, nat_tests) in
    f.only other io h (e ∙ c.row_major.ensures.number ∙ f.same)

pub returns-clause-rank : goal.returns-clause-rank
returns-clause-rank c =
    let m = c.args.self.now in
    let l : length m.aligned ≡ 3 = search rules in
    let s = some_list _ _ c.in_ok-locals.locals (sym c.in_ok-locals.was ∙ c.locals.ensures) in
    let f = slot_fits m c.args.node c.args.cell.now.at c.in_ok-locals.locals c.sides.result l c.requires.inside s.0 s.1 c.sides.ensures.sides in
    c.row_major.ensures.number ∙ f.same ∙ f.rank
