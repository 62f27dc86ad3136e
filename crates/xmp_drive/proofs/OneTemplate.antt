-- The sizes and forms of a template over a grid tell its dimensions.
use Rattle.std.proofs.Common.{◌≡◌, ◌∙◌, refl, ap₂, sym, subst, ◌+◌, ◌==◌, ◌&&◌, ◌||◌, ℕ, ℤ, List, [], ◌∷◌, map, IsTrue, slice_index, arith}
use Rattle.std.proofs.lemmas.Bool.Decides.{nat_tests}
use Rattle.xmp_dist.specs.declared.form.Dist.{Dist}
use Rattle.xmp_dist.specs.declared.form.Dist.TheVariants.{Whole, Block, Cyclic, Gblock}
use Rattle.xmp_dist.specs.Valid.{nodes_fit}
use Rattle.xmp_map.specs.declared.grid.Grid.{Grid}
use Rattle.xmp_map.specs.declared.spread_dim.SpreadDim.{SpreadDim}
use Rattle.xmp_map.specs.declared.template.Template.{Template}
use Rattle.xmp_map.specs.Spread.{is_whole, lies_over, spread}
use Rattle.xmp_names.specs.declared.mappings.Form.{Form}
use Rattle.xmp_parts.specs.Parts.{IsOf}
use Rattle.xmp_drive.proofs.SameFields.{same_dim, same_spread_dim, same_template}

-- a distributed dimension has as many nodes as its axis, and a whole one has one
one_count : (d : Dist) (n m axis : ℕ) → IsTrue (nodes_fit d n) → IsTrue (nodes_fit d m) → IsTrue (is_whole d || (n == axis)) → IsTrue (is_whole d || (m == axis)) → n ≡ m
one_count Whole n m axis f g h i = grind (arith, nat_tests)
one_count Block n m axis f g h i = grind (arith, nat_tests)
one_count (Cyclic w) n m axis f g h i = grind (arith, nat_tests)
one_count (Gblock ls) n m axis f g h i = grind (arith, nat_tests)

-- the size and the form of a dimension tell it, where its axis is known
one_dim : (x y : SpreadDim) (sizes : List ℕ) (k : ℕ) → x.dim.size ≡ y.dim.size → x.dim.dist ≡ y.dim.dist →
    IsTrue ((x.axis == k) && (is_whole x.dim.dist || (x.dim.nodes == slice_index sizes k))) →
    IsTrue ((y.axis == k) && (is_whole y.dim.dist || (y.dim.nodes == slice_index sizes k))) → x ≡ y
one_dim x y sizes k s d h i =
    let f : IsTrue (nodes_fit x.dim.dist x.dim.nodes) = grind (arith, nat_tests, x.dim.valid) in
    let g : IsTrue (nodes_fit x.dim.dist y.dim.nodes) = grind (arith, nat_tests, y.dim.valid) in
    let p : IsTrue (is_whole x.dim.dist || (x.dim.nodes == slice_index sizes k)) = grind (arith, nat_tests) in
    let q : IsTrue (is_whole x.dim.dist || (y.dim.nodes == slice_index sizes k)) = grind (arith, nat_tests) in
    let a : x.axis ≡ y.axis = grind (arith, nat_tests) in
    same_spread_dim x y (same_dim x.dim y.dim s (one_count x.dim.dist x.dim.nodes y.dim.nodes (slice_index sizes k) f g p q) d) a

-- the same of all dimensions, which lie on the axes in order
one_spread : (sizes : List ℕ) (k : ℕ) (xs ys : List SpreadDim) → map (λ s. s.dim.size) xs ≡ map (λ s. s.dim.size) ys →
    map (λ s. s.dim.dist) xs ≡ map (λ s. s.dim.dist) ys → IsTrue (lies_over xs sizes k) → IsTrue (lies_over ys sizes k) → xs ≡ ys
one_spread sizes k [] [] s d h i = refl
one_spread sizes k [] (y ∷ ys) s d h i = cc
one_spread sizes k (x ∷ xs) [] s d h i = cc
one_spread sizes k (x ∷ xs) (y ∷ ys) s d h i =
    let e : x.dim.dist ≡ y.dim.dist = cc in
    let first : x ≡ y = one_dim x y sizes k (cc) e (grind arith) (grind arith) in
    let rest : IsTrue (lies_over ys sizes (k + spread x.dim.dist)) = grind arith in
    ap₂ (λ v vs. v ∷ vs) first (one_spread sizes (k + spread x.dim.dist) xs ys (cc) (cc) (grind arith) rest)

-- what tells a template tells it alone
pub one_template : (g : Grid) (ns : List ℤ) (fs : List Form) (t u : Template) → IsOf g ns fs t → IsOf g ns fs u → t ≡ u
one_template g ns fs t u T U = same_template t u (T.grid ∙ sym U.grid)
    (one_spread g.sizes 0 t.spread u.spread (T.sizes ∙ sym U.sizes) (T.forms ∙ sym U.forms)
    (subst (λ v. IsTrue (lies_over t.spread v.sizes 0)) T.grid t.lies) (subst (λ v. IsTrue (lies_over u.spread v.sizes 0)) U.grid u.lies))
    (T.dims ∙ sym U.dims)
