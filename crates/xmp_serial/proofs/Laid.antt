use Rattle.std.proofs.Common.{◌≡◌, ◌<◌, ◌≤◌, ◌+◌, ◌++◌, ℕ, ℤ, zero, suc, pos, List, [], ◌∷◌, length, map, take, replicate, Option, Some, None, refl, ap, ◌∙◌, sym, subst, slice_get, get_or}
use Rattle.std.proofs.lemmas.List.{take_more, take_all}
use Rattle.xmp_map.specs.RowMajor.{product}
use Rattle.xmp_prog.specs.declared.parts.ProgParts.{ProgParts}
use Rattle.xmp_prog.specs.declared.parts.Array.{Array}
use Rattle.xmp_prog.specs.Tests.{is_coarray}
use Rattle.xmp_meaning.specs.Layouts.{Layout, axes_of, kept, row_length}
use Rattle.xmp_meaning.specs.Declarations.{extents_of_array, home_of_array}
use Rattle.xmp_serial.specs.declared.lines.Axis.{Axis}
use Rattle.xmp_serial.specs.declared.lines.Line.{Line}
use Rattle.xmp_serial.specs.Lines.{AreAxes, AreLines, IsLine, LineAt, axes_in, cells_in, images_in, keeps_all}

-- ---- axes

pub all_kept : (ns : List ℕ) → AreAxes (map keeps_all ns) ns (axes_of [] ns)
all_kept [] = tt
all_kept (n ∷ ns) = (record { extent_is = refl; count = refl; position = λ x h. refl }, all_kept ns)

pub whole_axes : (axes : List Axis) (ns : List ℕ) → axes ≡ map keeps_all ns → AreAxes axes ns (axes_of [] ns)
whole_axes axes ns e = let P : List Axis → Type 0 = λ xs. AreAxes xs ns (axes_of [] ns) in subst P (sym e) (all_kept ns)

-- ---- lines

module _ (layout : Layout) (p : ProgParts) where
  lines_push : (ls : List Line) (all : List Array) (l : Line) (a : Array) → AreLines layout p ls all → IsLine layout p l a → AreLines layout p (ls ++ l ∷ []) (all ++ a ∷ [])
  lines_push [] [] l a h i = (i, tt)
  lines_push [] (b ∷ all) l a h i = absurd h
  lines_push (k ∷ ls) [] l a h i = absurd h
  lines_push (k ∷ ls) (b ∷ all) l a h i = (h.0, lines_push ls all l a h.1 i)

  -- an array more
  pub lines_more : (all : List Array) (k : ℕ) (a : Array) (ls new : List Line) (l : Line) → k < length all → a ≡ get_or all k a
      → AreLines layout p ls (take k all) → IsLine layout p l a → new ≡ ls ++ l ∷ [] → AreLines layout p new (take (k + 1) all)
  lines_more all k a ls new l h e are is n =
      let P : List Line → Type 0 = λ xs. AreLines layout p xs (take (k + 1) all) in
      let Q : List Array → Type 0 = λ xs. AreLines layout p (ls ++ l ∷ []) xs in
      subst P (sym n) (subst Q (sym (take_more all k a h ∙ ap (λ (x : Array). take k all ++ x ∷ []) (sym e))) (lines_push ls (take k all) l a are is))

  pub lines_all : (all : List Array) (k : ℕ) (ls : List Line) → length all ≤ k → AreLines layout p ls (take k all) → AreLines layout p ls all
  lines_all all k ls h are = let P : List Array → Type 0 = λ xs. AreLines layout p ls xs in subst P (take_all k all h) are

  -- ---- what they tell

  pub line_at : (ls : List Line) (all : List Array) (i : ℕ) → AreLines layout p ls all → LineAt layout p (slice_get ls i) (slice_get all i)
  line_at [] [] i h = tt
  line_at [] (a ∷ all) i h = absurd h
  line_at (l ∷ ls) [] i h = absurd h
  line_at (l ∷ ls) (a ∷ all) zero h = h.0
  line_at (l ∷ ls) (a ∷ all) (suc i) h = line_at ls all i h.1

  axes_there : (o : Option Line) (q : Option Array) → LineAt layout p o q
      → AreAxes (axes_in o) (extents_of_array q) (axes_of (kept layout (home_of_array q)) (extents_of_array q))
  axes_there None None h = tt
  axes_there None (Some a) h = absurd h
  axes_there (Some l) None h = absurd h
  axes_there (Some l) (Some a) h = h.axes

  images_there : (o : Option Line) (q : Option Array) → LineAt layout p o q → images_in o ≡ is_coarray q
  images_there None None h = refl
  images_there None (Some a) h = absurd h
  images_there (Some l) None h = absurd h
  images_there (Some l) (Some a) h = h.images

  cells_there : (o : Option Line) (q : Option Array) → LineAt layout p o q → cells_in o ≡ product (extents_of_array q)
  unfolding product
  cells_there None None h = refl
  cells_there None (Some a) h = absurd h
  cells_there (Some l) None h = absurd h
  cells_there (Some l) (Some a) h = h.cells_are

  module _ (ls : List Line) (all : List Array) (i : ℕ) (are : AreLines layout p ls all) (o : Option Line) (is : o ≡ slice_get ls i) where
    pub axes_found : AreAxes (axes_in o) (extents_of_array (slice_get all i)) (axes_of (kept layout (home_of_array (slice_get all i))) (extents_of_array (slice_get all i)))
    axes_found =
        let q : Option Array = slice_get all i in
        let P : Option Line → Type 0 = λ x. AreAxes (axes_in x) (extents_of_array q) (axes_of (kept layout (home_of_array q)) (extents_of_array q)) in
        subst P (sym is) (axes_there (slice_get ls i) q (line_at ls all i are))

    pub images_found : images_in o ≡ is_coarray (slice_get all i)
    images_found = ap images_in is ∙ images_there (slice_get ls i) (slice_get all i) (line_at ls all i are)

    pub cells_found : cells_in o ≡ product (extents_of_array (slice_get all i))
    cells_found = ap cells_in is ∙ cells_there (slice_get ls i) (slice_get all i) (line_at ls all i are)

  -- the rows that a run begins with
  pub rows_at_first : (ls : List Line) (all : List Array) → AreLines layout p ls all
      → map (λ l. replicate l.length (pos 0)) ls ≡ map (λ a. replicate (row_length layout p a) (pos 0)) all
  rows_at_first [] [] h = refl
  rows_at_first [] (a ∷ all) h = absurd h
  rows_at_first (l ∷ ls) [] h = absurd h
  rows_at_first (l ∷ ls) (a ∷ all) h = rw (h.0.length_is, rows_at_first ls all h.1) refl
