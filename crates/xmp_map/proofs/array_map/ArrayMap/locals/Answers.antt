use Rattle.std.proofs.Common.{◌≡◌, arith, length, rules, refl, sym, ◌∙◌}
use Rattle.std.proofs.lemmas.Bool.Decides.{nat_tests}
use Rattle.xmp_map.proofs.Three.{three_of}
use Rattle.xmp_map.proofs.MapLaws.{blank, dims_fit, locals_are, none_if, some_if, none_first, none_second, none_third, some_all, inside_three}
use Rattle.xmp_map.proofs.array_map.ArrayMap.locals.Goals as goal

pub local-requires-clause-target : goal.local-requires-clause-target
local-requires-clause-target c =
    let m = c.args.self.now in
    let l : length m.aligned ≡ 3 = search rules in
    let e = three_of m.aligned blank blank blank l in
    let f = dims_fit m _ _ _ e in
    let h = f.targets.0 in
    grind (arith, nat_tests)

pub local-requires-clause-shadow : goal.local-requires-clause-shadow
local-requires-clause-shadow c =
    let m = c.args.self.now in
    let l : length m.aligned ≡ 3 = search rules in
    let e = three_of m.aligned blank blank blank l in
    let f = dims_fit m _ _ _ e in
    let h = f.shadows.0 in
    grind (arith, nat_tests)

pub local-requires-clause-extent : goal.local-requires-clause-extent
local-requires-clause-extent c =
    let m = c.args.self.now in
    let l : length m.aligned ≡ 3 = search rules in
    let e = three_of m.aligned blank blank blank l in
    let f = dims_fit m _ _ _ e in
    let h = f.sizes.0 in
    grind (arith, nat_tests)

pub local-requires-clause-inside : goal.local-requires-clause-inside
local-requires-clause-inside c =
    let m = c.args.self.now in
    let l : length m.aligned ≡ 3 = search rules in
    let e = three_of m.aligned blank blank blank l in
    let f = dims_fit m _ _ _ e in
    let i = inside_three m _ _ _ c.args.cell.now e c.told-cell c.requires.inside in
    i.first

pub local-requires-2-clause-target : goal.local-requires-2-clause-target
local-requires-2-clause-target c =
    let m = c.args.self.now in
    let l : length m.aligned ≡ 3 = search rules in
    let e = three_of m.aligned blank blank blank l in
    let f = dims_fit m _ _ _ e in
    let h = f.targets.1 in
    grind (arith, nat_tests)

pub local-requires-2-clause-shadow : goal.local-requires-2-clause-shadow
local-requires-2-clause-shadow c =
    let m = c.args.self.now in
    let l : length m.aligned ≡ 3 = search rules in
    let e = three_of m.aligned blank blank blank l in
    let f = dims_fit m _ _ _ e in
    let h = f.shadows.1 in
    grind (arith, nat_tests)

pub local-requires-2-clause-extent : goal.local-requires-2-clause-extent
local-requires-2-clause-extent c =
    let m = c.args.self.now in
    let l : length m.aligned ≡ 3 = search rules in
    let e = three_of m.aligned blank blank blank l in
    let f = dims_fit m _ _ _ e in
    let h = f.sizes.1 in
    grind (arith, nat_tests)

pub local-requires-2-clause-inside : goal.local-requires-2-clause-inside
local-requires-2-clause-inside c =
    let m = c.args.self.now in
    let l : length m.aligned ≡ 3 = search rules in
    let e = three_of m.aligned blank blank blank l in
    let f = dims_fit m _ _ _ e in
    let i = inside_three m _ _ _ c.args.cell.now e c.told-cell c.requires.inside in
    i.second

pub local-requires-3-clause-target : goal.local-requires-3-clause-target
local-requires-3-clause-target c =
    let m = c.args.self.now in
    let l : length m.aligned ≡ 3 = search rules in
    let e = three_of m.aligned blank blank blank l in
    let f = dims_fit m _ _ _ e in
    let h = f.targets.2 in
    grind (arith, nat_tests)

pub local-requires-3-clause-shadow : goal.local-requires-3-clause-shadow
local-requires-3-clause-shadow c =
    let m = c.args.self.now in
    let l : length m.aligned ≡ 3 = search rules in
    let e = three_of m.aligned blank blank blank l in
    let f = dims_fit m _ _ _ e in
    let h = f.shadows.2 in
    grind (arith, nat_tests)

pub local-requires-3-clause-extent : goal.local-requires-3-clause-extent
local-requires-3-clause-extent c =
    let m = c.args.self.now in
    let l : length m.aligned ≡ 3 = search rules in
    let e = three_of m.aligned blank blank blank l in
    let f = dims_fit m _ _ _ e in
    let h = f.sizes.2 in
    grind (arith, nat_tests)

pub local-requires-3-clause-inside : goal.local-requires-3-clause-inside
local-requires-3-clause-inside c =
    let m = c.args.self.now in
    let l : length m.aligned ≡ 3 = search rules in
    let e = three_of m.aligned blank blank blank l in
    let f = dims_fit m _ _ _ e in
    let i = inside_three m _ _ _ c.args.cell.now e c.told-cell c.requires.inside in
    i.third

pub returns-in_default : goal.returns-in_default
returns-in_default c =
    let m = c.args.self.now in
    let l : length m.aligned ≡ 3 = search rules in
    let e = three_of m.aligned blank blank blank l in
    let r0 = rw c.grid_place-at.ensures.place at c.local.ensures in
    rw (locals_are m c.args.node _ _ _ c.args.cell.now e c.told-cell) (none_first _ _ _ _ (none_if _ _ (sym c.in_default.is ∙ r0)))

pub returns-in_default-local : goal.returns-in_default-local
returns-in_default-local c =
    let m = c.args.self.now in
    let l : length m.aligned ≡ 3 = search rules in
    let e = three_of m.aligned blank blank blank l in
    let r0 = rw c.grid_place-at.ensures.place at c.local.ensures in
    let r1 = rw c.grid_place-at.ensures.place at c.local-2.ensures in
    rw (locals_are m c.args.node _ _ _ c.args.cell.now e c.told-cell) (none_second _ _ _ _ (none_if _ _ (sym c.in_default-local.is ∙ r1)))

pub returns-in_default-local-2 : goal.returns-in_default-local-2
returns-in_default-local-2 c =
    let m = c.args.self.now in
    let l : length m.aligned ≡ 3 = search rules in
    let e = three_of m.aligned blank blank blank l in
    let r0 = rw c.grid_place-at.ensures.place at c.local.ensures in
    let r1 = rw c.grid_place-at.ensures.place at c.local-2.ensures in
    let r2 = rw c.grid_place-at.ensures.place at c.local-3.ensures in
    rw (locals_are m c.args.node _ _ _ c.args.cell.now e c.told-cell) (none_third _ _ _ _ (none_if _ _ (sym c.in_default-local-2.is ∙ r2)))

pub returns : goal.returns
returns c =
    let m = c.args.self.now in
    let l : length m.aligned ≡ 3 = search rules in
    let e = three_of m.aligned blank blank blank l in
    let r0 = rw c.grid_place-at.ensures.place at c.local.ensures in
    let r1 = rw c.grid_place-at.ensures.place at c.local-2.ensures in
    let r2 = rw c.grid_place-at.ensures.place at c.local-3.ensures in
    let s0 = some_if _ _ c.in-Some.x (sym c.in-Some.is ∙ r0) in
    let s1 = some_if _ _ c.in-Some-local.y (sym c.in-Some-local.is ∙ r1) in
    let s2 = some_if _ _ c.in-Some-local-2.z (sym c.in-Some-local-2.is ∙ r2) in
    rw (locals_are m c.args.node _ _ _ c.args.cell.now e c.told-cell) (some_all _ _ _ _ _ s0.0 s1.0 s2.0 (rw (s0.1, s1.1, s2.1) refl))
