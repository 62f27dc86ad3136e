use Rattle.std.proofs.Common.{◌≡◌, ◌<◌, ◌≤◌, ◌+◌, ◌-◌, ℕ, List, ap, sym, ◌∙◌, arith, length, get_or}
use Rattle.std.proofs.lemmas.Option.{slice_get_within, get_or_from_slice_get}
use Rattle.xmp_instr.specs.Depths.{needs}
use Rattle.xmp_code.proofs.Falls.{falls}
use Rattle.xmp_code.proofs.shared.taken.Goals as goal

pub bounds-depths-place-2 : goal.bounds-depths-place-2
bounds-depths-place-2 c =
    let f = falls c.args.code.now c.args.place c.args.instr c.requires.valid c.requires.here c.requires.told in
    let l = slice_get_within c.args.code.now.depths (c.args.place + 1) _ f.behind in
    let e = ap (λ xs. length xs) c.as_slice-depths.ensures in
    omega (arith, l, e)

pub overflow_sub-result : goal.overflow_sub-result
overflow_sub-result c =
    let f = falls c.args.code.now c.args.place c.args.instr c.requires.valid c.requires.here c.requires.told in
    let b = get_or_from_slice_get c.args.code.now.depths (c.args.place + 1) _ 0 f.behind in
    let e : get_or c.as_slice-depths.result.now (c.args.place + 1) 0 ≡ get_or c.args.code.now.depths (c.args.place + 1) 0 = ap (λ xs. get_or xs (c.args.place + 1) 0) c.as_slice-depths.ensures in
    let h : get_or c.as_slice-depths.result.now c.args.place 0 ≡ get_or c.args.code.now.depths c.args.place 0 = ap (λ xs. get_or xs c.args.place 0) c.as_slice-depths.ensures in
    let few = f.enough in
    omega (arith, b, e, h, few)

pub returns : goal.returns
returns c =
    let f = falls c.args.code.now c.args.place c.args.instr c.requires.valid c.requires.here c.requires.told in
    let b = get_or_from_slice_get c.args.code.now.depths (c.args.place + 1) _ 0 f.behind in
    let e : get_or c.as_slice-depths.result.now (c.args.place + 1) 0 ≡ get_or c.args.code.now.depths (c.args.place + 1) 0 = ap (λ xs. get_or xs (c.args.place + 1) 0) c.as_slice-depths.ensures in
    let h : get_or c.as_slice-depths.result.now c.args.place 0 ≡ get_or c.args.code.now.depths c.args.place 0 = ap (λ xs. get_or xs c.args.place 0) c.as_slice-depths.ensures in
    let few = f.enough in
    omega (arith, b, e, h, few)
