-- That where rows lie is said in one way.
use Rattle.std.proofs.Common.{ℕ, List, [], ◌∷◌}
use Rattle.xmp_prog.specs.declared.parts.ProgParts.{ProgParts}
use Rattle.xmp_prog.specs.declared.parts.Array.{Array}
use Rattle.xmp_meaning.specs.Layouts as layouts
use Rattle.xmp_meaning.specs.Layouts.{Layout, axes_of, kept}
use Rattle.xmp_serial.specs.declared.lines.Axis.{Axis}
use Rattle.xmp_serial.specs.declared.lines.Line.{Line}
use Rattle.xmp_serial.specs.Lines.{AreAxes, AreLines, IsAxis, IsLine}
use Rattle.std.proofs.Math.Nat.{ℕ_set}
use Rattle.std.proofs.Math.IntN.{ℤ_set}
use Rattle.std.proofs.Math.Bool.{Bool-set}

axis_prop : (a : Axis) (n : ℕ) (m : layouts.Axis) → IsProp (IsAxis a n m)
axis_prop a n m = hlevel (ℕ_set, ℤ_set)

axes_prop : (xs : List Axis) (ns : List ℕ) (ms : List layouts.Axis) → IsProp (AreAxes xs ns ms)
axes_prop [] [] [] = hlevel
axes_prop [] [] (m ∷ ms) = hlevel
axes_prop [] (n ∷ ns) ms = hlevel
axes_prop (a ∷ xs) [] ms = hlevel
axes_prop (a ∷ xs) (n ∷ ns) [] = hlevel
axes_prop (a ∷ xs) (n ∷ ns) (m ∷ ms) = hlevel (axis_prop, axes_prop xs ns ms)

line_prop : (layout : Layout) (p : ProgParts) (l : Line) (a : Array) → IsProp (IsLine layout p l a)
line_prop layout p l a = hlevel (ℕ_set, Bool-set, axes_prop l.axes a.extents (axes_of (kept layout a.home) a.extents))

pub lines_prop : (layout : Layout) (p : ProgParts) (ls : List Line) (all : List Array) → IsProp (AreLines layout p ls all)
lines_prop layout p [] [] = hlevel
lines_prop layout p [] (a ∷ all) = hlevel
lines_prop layout p (l ∷ ls) [] = hlevel
lines_prop layout p (l ∷ ls) (a ∷ all) = hlevel (line_prop, lines_prop layout p ls all)
