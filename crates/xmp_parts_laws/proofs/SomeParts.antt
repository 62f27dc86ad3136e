-- A tree in which no rule of names or mappings breaks has parts: its grid, its templates and the homes of its arrays are there.
use Rattle.std.proofs.Common.{◌≡◌, ◌⊎◌, inl, inr, ◌+◌, ◌∷◌, [], ℕ, suc, Bool, true, false, List, length, map, Option, None, Some, IsTrue, refl, sym, ap, ◌∙◌, subst, arith}
use Rattle.std.specs.Prelude.{slice_get}
use Rattle.xmp_base.specs.declared.refusal.Refusal.{Refusal}
use Rattle.xmp_map.specs.declared.grid.Grid.{Grid}
use Rattle.xmp_map.specs.declared.template.Template.{Template}
use Rattle.xmp_map.specs.Nodes.{filled}
use Rattle.xmp_map_laws.proofs.Made as made
use Rattle.xmp_prog.specs.declared.parts.Home.{Home}
use Rattle.xmp_prog.specs.declared.parts.Home.TheVariants as home
use Rattle.xmp_prog.specs.declared.parts.Array as made_array
use Rattle.xmp_prog.specs.declared.parts.ProgParts.{ProgParts}
use Rattle.xmp_prog.specs.declared.statements.Stmt.{Stmt}
use Rattle.xmp_syntax.specs.declared.program.Tree.{Tree}
use Rattle.xmp_names.specs.declared.names.Array.{Array}
use Rattle.xmp_names.specs.declared.mappings.Align.{Align}
use Rattle.xmp_names.specs.declared.mappings.TemplateLine.{TemplateLine}
use Rattle.xmp_names.specs.declared.world.World.{World}
use Rattle.xmp_names.specs.Walk.{Step, Gave}
use Rattle.xmp_names.specs.Sizes.{natural}
use Rattle.xmp_mapping_rules.specs.MappingRules.{mapping_rules, nodes_of, forms_of, template_sizes_in, align_of}
use Rattle.xmp_walk.specs.Program.{program_of, with_count, tops_of, start_world, coarray_top}
use Rattle.std.specs.List.{list_any, enumerate_from}
use Rattle.xmp_parts.proofs.VerdictLaws.{verdict_is, none_breaks}
use Rattle.xmp_parts.specs.Narrow.{is_count}
use Rattle.xmp_parts.specs.Parts.{IsGrid, IsOf, IsTemplate, made_form, IsMapOver, IsSpread, IsAligned, IsHome, IsArray, EachMade, kind_of, Made, MadeAfter, IsParts}
use Rattle.xmp_parts.specs.Verdict.{IsVerdict, verdict, verdict_of, broken_in, world_after}
use Rattle.xmp_parts.proofs.Rows.{right_nodes, makes}
use Rattle.xmp_parts.proofs.FormsFit.{template_facts}
use Rattle.xmp_parts.proofs.Accepted.{map_facts}
use Rattle.xmp_parts.proofs.Verdicts.{unbroken}
use Rattle.std.proofs.lemmas.List.{length-map}

-- ---- lists

-- A list is made where each of its items is, from the i-th on.
each_made : {A B : Type 0} (Is : ℕ → A → B → Type 0) (i : ℕ) (xs : List A) → ((k : ℕ) (x : A) → slice_get xs k ≡ Some x → (y : B) × Is (i + k) x y)
    → (ys : List B) × EachMade Is i xs ys
each_made Is i [] f = ([], tt)
each_made {A} {B} Is i (x ∷ xs) f =
    let y = f 0 x refl in
    let ys = each_made Is (i + 1) xs (λ k z e. let w = f (suc k) z e in (w.0, subst (λ n. Is n z w.0) (moved i k) w.1)) in
    (y.0 ∷ ys.0, (subst (λ n. Is n x y.0) (none i) y.1, ys.1))
  where
    none : (n : ℕ) → n + 0 ≡ n
    none n = omega arith

    moved : (n k : ℕ) → n + suc k ≡ n + 1 + k
    moved n k = omega arith

-- the same from the first on
all_made : {A B : Type 0} (Is : ℕ → A → B → Type 0) (xs : List A) → ((k : ℕ) (x : A) → slice_get xs k ≡ Some x → (y : B) × Is k x y)
    → (ys : List B) × EachMade Is 0 xs ys
all_made Is xs f = each_made Is 0 xs (λ k x e. let w = f k x e in (w.0, subst (λ n. Is n x w.0) (first k) w.1))
  where
    first : (k : ℕ) → k ≡ 0 + k
    first k = omega arith

-- ---- the grid and the templates

three_sizes : (ns : List ℕ) → length (filled 1 ns) ≡ 3
three_sizes [] = refl
three_sizes (a ∷ []) = refl
three_sizes (a ∷ b ∷ []) = refl
three_sizes (a ∷ b ∷ c ∷ rest) = refl

some_grid : (w : World) → mapping_rules w ≡ [] → IsTrue (is_count w.given) → (g : Grid) × IsGrid (map natural (nodes_of w)) g
some_grid w h c = let x = made.some_grid (map natural (nodes_of w)) (makes (nodes_of w) (right_nodes w h c)) in (x.0, (x.1, x.2))

some_template : (w : World) (g : Grid) → mapping_rules w ≡ [] → IsTrue (is_count w.given) → IsGrid (map natural (nodes_of w)) g
    → (k : ℕ) (line : TemplateLine)
    → slice_get w.mappings.templates k ≡ Some line → (t : Template) × IsTemplate w g k t
some_template w g h c is k line e =
    let f = template_facts w k line g h c is e in
    let t = made.some_template g (map natural line.sizes) (map made_form (forms_of w k)) (ap length is.0 ∙ three_sizes (map natural (nodes_of w))) f.right in
    let of : IsOf g line.sizes (forms_of w k) t.0 = record { grid = t.1; dims = t.2 ∙ length-map line.sizes natural; sizes = t.3; forms = t.4 } in
    (t.0, subst (λ ns. IsOf g ns (forms_of w k) t.0) (sym (ap template_sizes_in e)) of)

-- ---- arrays

one_for_each : {A : Type 0} (f : ℕ × ℕ → A) (d : ℕ) (extents : List ℕ) → length (map f (enumerate_from d extents)) ≡ length extents
one_for_each f d [] = refl
one_for_each f d (x ∷ xs) = ap suc (one_for_each f (d + 1) xs)

module _ (w : World) (g : Grid) (templates : List Template) (h : mapping_rules w ≡ []) (m : EachMade (λ k line t. IsTemplate w g k t) 0 w.mappings.templates templates) where
  spread_home : (k : ℕ) (array : Array) (a : Align) → slice_get w.names.arrays k ≡ Some array → align_of w k ≡ Some a
      → (x : Home) × IsSpread w templates k array.extents a x
  spread_home k array a e p =
      let f = map_facts w g templates k array a h m e p in
      let t = f.0 in
      let fits = f.2 in
      let x = made.some_map t array.extents _ _ (one_for_each _ 0 array.extents) fits.as_extents fits.fit fits.cells fits.right in
      (home.Spread a.template x.0, (refl, subst (λ o. IsMapOver w k array.extents a x.0 o) (sym f.1) (record { template = x.1; dims = x.2; aligned = x.3 })))

  aligned_home : (k : ℕ) (array : Array) → slice_get w.names.arrays k ≡ Some array → (o : Option Align) → align_of w k ≡ o
      → (x : Home) × IsAligned w templates k array.extents o x
  aligned_home k array e None p = (home.Copy, refl)
  aligned_home k array e (Some a) p = spread_home k array a e p

  some_home : (k : ℕ) (array : Array) → slice_get w.names.arrays k ≡ Some array → (b : Bool) → (x : Home) × IsHome b w templates k array.extents x
  some_home k array e true = (home.Image, refl)
  some_home k array e false = aligned_home k array e (align_of w k) refl

  some_array : (k : ℕ) (array : Array) → slice_get w.names.arrays k ≡ Some array → (x : made_array.Array) × IsArray w templates k array x
  some_array k array e =
      let x = some_home k array e array.coarray in
      (record { ty = array.ty; extents = array.extents; home = x.0 }, record { ty = refl; extents = refl; home = x.1 })

-- ---- the program

some_parts : (body : Stmt) (w : World) → mapping_rules w ≡ [] → IsTrue (is_count w.given) → (p : ProgParts) × Made body w p
some_parts body w h c =
    let g = some_grid w h c in
    let ts = all_made (λ k line t. IsTemplate w g.0 k t) w.mappings.templates (some_template w g.0 h c g.1) in
    let xs = all_made (IsArray w ts.0) w.names.arrays (some_array w g.0 ts.0 h ts.1) in (
      record { grid = g.0; kind = kind_of w.names.coarray; scalars = w.scalars; arrays = xs.0; templates = ts.0; functions = w.functions; start = w.start; body = body },
      record { grid = g.1; kind = refl; scalars = refl; arrays = xs.1; templates = ts.1; functions = refl; start = refl; body = refl },
    )

after : (s : Step Stmt) → verdict_of (broken_in (world_after s)) ≡ None → IsTrue (is_count (world_after s).given) → (p : ProgParts) × MadeAfter s p
after (Gave body w) h c = some_parts body w (unbroken w h) c

-- the number of nodes after the walk is the given one
given_after : (given : Option ℕ) (s : Step Stmt) → given ≡ (world_after (with_count given s)).given
given_after given (Gave body w) = refl

pub parts_of : (t : Tree) (given : Option ℕ) → IsTrue (is_count given) → verdict t given ≡ None → (p : ProgParts) × IsParts t given p
parts_of t given c h =
    let s = tops_of t.parts (start_world given (list_any coarray_top t.parts)) in
    after (program_of t given) h (subst (λ n. IsTrue (is_count n)) (given_after given s) c)

-- A verdict, and parts where no rule breaks.
abbrev Judged : Tree → Option ℕ → Type 0
Judged t given = ((p : ProgParts) × IsVerdict t given None × IsParts t given p) ⊎ ((r : Refusal) × IsVerdict t given (Some r))

judged : (t : Tree) (given : Option ℕ) → IsTrue (is_count given) → (o : Option Refusal) → verdict t given ≡ o → Judged t given
judged t given c None e = let p = parts_of t given c e in inl (p.0, none_breaks t given e, p.1)
judged t given c (Some r) e = inr (r, subst (λ o. IsVerdict t given o) e (verdict_is t given))

pub every_tree : (t : Tree) (given : Option ℕ) → IsTrue (is_count given) → Judged t given
every_tree t given c = judged t given c (verdict t given) refl
