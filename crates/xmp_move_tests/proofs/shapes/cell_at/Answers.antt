use Rattle.std.proofs.Common.{arith, ap, ◌≡◌, ℕ, List, [], ◌∷◌, length, sym, subst}
use Rattle.xmp_map.specs.Boxes.{IsInside}
use Rattle.xmp_map.proofs.Three.{three_of}
use Rattle.xmp_map.proofs.MapLaws.{blank, extents_are}
use Rattle.xmp_move_tests.proofs.shapes.cell_at.Goals as goal

pub returns-then-z-c : goal.returns-then-z-c
unfolding IsInside
returns-then-z-c c =
    let m = c.args.map.now in
    let s = c.as_slice-aligned.ensures in
    let l : length m.aligned ≡ 3 = let h = ap length s in let a = c.in-len3.len_at_least in let b = c.in-len3.len_below in omega arith in
    let e = three_of m.aligned blank blank blank l in
    let P : List ℕ → Type 0 = λ es. IsInside (c.args.x ∷ c.args.y ∷ c.args.z ∷ []) es in
    subst P (sym (extents_are m _ _ _ e)) (rw s at c.if-x-a.true, (rw s at c.if-y-b.true, (rw s at c.if-z-c.true, tt)))
