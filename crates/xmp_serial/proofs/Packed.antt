use Rattle.std.proofs.Common.{◌≡◌, ◌<◌, ◌+◌, ◌++◌, ℕ, zero, suc, List, [], ◌∷◌, length, map, drop, Bool, false, refl, ap, ◌∙◌, sym, subst, arith, append_assoc, slice_get, slice_index, Result, Ok, Err}
use Rattle.std.specs.Prelude.{IfOk, OnOk}
use Rattle.std.proofs.lemmas.List.{append-nil}
use Rattle.xmp_map.specs.RowMajor.{product, unravel}
use Rattle.xmp_map.specs.declared.spread_dim.SpreadDim.{SpreadDim}
use Rattle.xmp_map.specs.declared.aligned.AlignedDim.{AlignedDim}
use Rattle.xmp_map.specs.declared.array_map.ArrayMap.{ArrayMap}
use Rattle.xmp_map.specs.declared.template.Template.{Template}
use Rattle.xmp_map.specs.Held.{extents, holds_dim, holds_in, holds_on, tests, words}
use Rattle.xmp_prog.specs.declared.parts.ProgParts.{ProgParts}
use Rattle.xmp_prog.specs.declared.parts.Array.{Array}
use Rattle.xmp_prog.specs.declared.parts.Home.{Home}
use Rattle.xmp_prog.specs.declared.parts.Home.TheVariants as home
use Rattle.xmp_prog.specs.Tests.{is_image}
use Rattle.xmp_meaning.specs.Layouts as layouts
use Rattle.xmp_meaning.specs.Layouts.{Whole, Packed, axes_of, cell_count, kept, packed_axis, words_of}
use Rattle.xmp_serial.specs.declared.lines.Axis.{Axis}
use Rattle.xmp_serial.specs.declared.lines.Line.{Line}
use Rattle.xmp_serial.specs.Lines.{AddsAxes, AreAxes, IsAxis, IsLine, IsSpreadLine}

-- an item that isn't 0 is there
pub index_within : (xs : List ℕ) (i : ℕ) → 0 < slice_index xs i → i < length xs
index_within [] i h = absurd (omega arith)
index_within (x ∷ xs) zero h = omega arith
index_within (x ∷ xs) (suc i) h = let k : i < length xs = index_within xs i h in omega arith

-- the tests from a dimension on
tests_of : (ss : List SpreadDim) (at : List ℕ) (ls : List AlignedDim) (d : ℕ) → d < length ls
    → drop d (map (λ l. holds_on ss at l) ls) ≡ (λ x. holds_dim ss at (slice_get ls d) x) ∷ drop (d + 1) (map (λ l. holds_on ss at l) ls)
tests_of ss at [] d h = absurd (omega arith)
tests_of ss at (l ∷ ls) zero h = refl
tests_of ss at (l ∷ ls) (suc d) h =
    let less : d < length ls = omega arith in
    let next : suc d + 1 ≡ suc (d + 1) = omega arith in
    tests_of ss at ls d less ∙ ap (λ (n : ℕ). (λ x. holds_dim ss at (slice_get ls d) x) ∷ drop n (map (λ m. holds_on ss at m) (l ∷ ls))) (sym next)

same_length : (ls : List AlignedDim) → length (map (λ l. l.extent) ls) ≡ length ls
same_length [] = refl
same_length (l ∷ ls) = ap suc (same_length ls)

pub tests_from : (m : ArrayMap) (node d : ℕ) → d < length (extents m) → drop d (tests m node) ≡ holds_in m node d ∷ drop (d + 1) (tests m node)
tests_from m node d h =
    let less : d < length m.aligned = omega (arith, same_length m.aligned) in
    tests_of m.template.spread (unravel m.template.grid.sizes node) m.aligned d less

-- no dimension more
pub axes_none : (old : List Axis) (ns : List ℕ) (ts : List (ℕ → Bool)) → ns ≡ [] → AddsAxes old old ns (axes_of ts ns)
axes_none old ns ts e =
    let P : List ℕ → Type 0 = λ xs. AddsAxes old old xs (axes_of ts xs) in
    subst P (sym e) (record { more = []; added = sym (append-nil old); are = tt })

-- a dimension more
pub axes_more : (m : ArrayMap) (node d n : ℕ) (old first new : List Axis) (ns rest : List ℕ) (axis : Axis) → ns ≡ n ∷ rest → d < length (extents m)
    → IsAxis axis n (packed_axis (holds_in m node d) n) → first ≡ old ++ axis ∷ []
    → AddsAxes first new rest (axes_of (drop (d + 1) (tests m node)) rest) → AddsAxes old new ns (axes_of (drop d (tests m node)) ns)
axes_more m node d n old first new ns rest axis e h is f adds =
    let P : List ℕ → Type 0 = λ xs. AddsAxes old new xs (axes_of (drop d (tests m node)) xs) in
    let Q : List (ℕ → Bool) → Type 0 = λ ts. AddsAxes old new (n ∷ rest) (axes_of ts (n ∷ rest)) in
    subst P (sym e) (subst Q (sym (tests_from m node d h)) (record {
      more = axis ∷ adds.more;
      added = adds.added ∙ ap (λ (xs : List Axis). xs ++ adds.more) f ∙ append_assoc old (axis ∷ []) adds.more;
      are = (is, adds.are);
    }))

module _ (p : ProgParts) (node : ℕ) (line : Line) (a : Array) where
  pub copied_line : a.home ≡ home.Copy → IsLine Whole p line a → IsLine (Packed node) p line a
  copied_line e is = record {
    axes = (let P : Home → Type 0 = λ h. AreAxes line.axes a.extents (axes_of (kept (Packed node) h) a.extents) in subst P (sym e) is.axes);
    length_is = is.length_is ∙ ap (λ (h : Home). words_of (Packed node) h (cell_count p a)) (sym e);
    images = is.images;
    cells_are = is.cells_are;
  }

  pub image_line : a.home ≡ home.Image → IsLine Whole p line a → IsLine (Packed node) p line a
  image_line e is = record {
    axes = (let P : Home → Type 0 = λ h. AreAxes line.axes a.extents (axes_of (kept (Packed node) h) a.extents) in subst P (sym e) is.axes);
    length_is = is.length_is ∙ ap (λ (h : Home). words_of (Packed node) h (cell_count p a)) (sym e);
    images = is.images;
    cells_are = is.cells_are;
  }

  pub spread_line : (t : ℕ) (m : ArrayMap) (ns : List ℕ) → a.home ≡ home.Spread t m → ns ≡ a.extents → IsSpreadLine m node line ns → IsLine (Packed node) p line a
  spread_line t m ns e n is = record {
    axes = (
        let P : Home → Type 0 = λ h. AreAxes line.axes a.extents (axes_of (kept (Packed node) h) a.extents) in
        let Q : List ℕ → Type 0 = λ xs. AreAxes line.axes xs (axes_of (tests m node) xs) in
        subst P (sym e) (subst Q n is.axes));
    length_is = is.length_is ∙ ap (λ (h : Home). words_of (Packed node) h (cell_count p a)) (sym e);
    images = is.images ∙ ap is_image (sym e);
    cells_are = is.cells_are ∙ ap product n;
  }

-- what follows from each value follows from a result
pub each_ok : {A E : Type 0} (r : Result A E) (P Q : A → Type 0) → ((a : A) → P a → Q a) → IfOk r P → IfOk r Q
each_ok (Ok a) P Q f h = f a h
each_ok (Err e) P Q f h = h

pub when_ok : {A E : Type 0} (r : Result A E) (P Q : Type 0) → (P → Q) → OnOk r P → OnOk r Q
when_ok (Ok a) P Q f h = f h
when_ok (Err e) P Q f h = h
