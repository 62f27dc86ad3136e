-- A dimension of a template, and the number of a node along it.
use Rattle.std.proofs.Common.{◌≡◌, ◌<◌, ◌≤◌, ℕ, zero, suc, List, [], ◌∷◌, ℤ, ◌≤ℤ◌, ◌-ℤ◌, Option, Some, None, length, refl, sym, ap, subst, ◌∙◌, arith, get_or}
use Rattle.std.specs.Prelude.{slice_get, IfSome}
use Rattle.xmp_dist.specs.declared.dimension.Dim.{Dim}
use Rattle.xmp_map.specs.declared.spread_dim.SpreadDim.{SpreadDim}
use Rattle.xmp_map.specs.declared.template.Template.{Template}
use Rattle.xmp_map.specs.RowMajor.{product, unravel}
use Rattle.xmp_map.specs.Boxes.{IsInside}
use Rattle.xmp_map.specs.Spread.{node_along}
use Rattle.xmp_map.proofs.HoldLaws.{node_lt}
use Rattle.xmp_map.proofs.Order.{AllBelow, none_below, more_below, unravel_below}
use Rattle.xmp_meaning.specs.Expressions.{natural}
use Rattle.xmp_instr.specs.Tables.{first_owned, next_along, next_owned}

there : (xs : List SpreadDim) (k : ℕ) → k < length xs → slice_get xs k ≡ None → ⊥
there [] k h e = absurd (omega arith)
there (x ∷ xs) zero h e = cc
there (x ∷ xs) (suc k) h e = there xs k (omega arith) e

inside : (xs es : List ℕ) → AllBelow xs es → IsInside xs es
unfolding IsInside
inside [] [] none_below = tt
inside (x ∷ xs) (e ∷ es) (more_below _ _ _ _ lt b) = (lt, inside xs es b)
inside [] (e ∷ es) b = elim b [ ]
inside (x ∷ xs) [] b = elim b [ ]

pub record Along (t : Template) (node d : ℕ) (dim : Dim) (c : ℕ) : Type 0 where
  pub spread : SpreadDim
  pub is : slice_get t.spread d ≡ Some spread
  pub dim_is : dim ≡ spread.dim
  pub number : c ≡ node_along (unravel t.grid.sizes node) spread

pub along : (t : Template) (node d : ℕ) (dim : Dim) (c : ℕ) → length t.spread ≡ 3 → d < t.dims → IfSome (slice_get t.spread d) (λ s. dim ≡ s.dim)
    → IfSome (slice_get t.spread d) (λ s. c ≡ node_along (unravel t.grid.sizes node) s) → Along t node d dim c
along t node d dim c three low has number = at (slice_get t.spread d) refl has number
  where
    at : (o : Option SpreadDim) → slice_get t.spread d ≡ o → IfSome o (λ s. dim ≡ s.dim) → IfSome o (λ s. c ≡ node_along (unravel t.grid.sizes node) s) → Along t node d dim c
    at None e h k = absurd (there t.spread d (let m = t.most in omega (arith, m, three, low)) e)
    at (Some s) e h k = record { spread = s; is = e; dim_is = h; number = k }

pub along_below : (t : Template) (node d : ℕ) (dim : Dim) (c : ℕ) → length t.grid.sizes ≡ 3 → node < product t.grid.sizes → Along t node d dim c → c < dim.nodes
along_below t node d dim c sizes low a =
    let b = node_lt t (Some d) (unravel t.grid.sizes node) a.spread sizes (inside (unravel t.grid.sizes node) t.grid.sizes (unravel_below t.grid.sizes node low)) a.is in
    let e = a.number in
    let f = ap (λ x. x.nodes) a.dim_is in
    omega (arith, b, e, f)

pub along_next : (t : Template) (node d : ℕ) (dim : Dim) (c : ℕ) (g end : ℤ) → Along t node d dim c
    → first_owned dim c g (natural (end -ℤ g)) ≡ next_owned t node d g (natural (end -ℤ g))
along_next t node d dim c g end a =
    ap (λ x. first_owned x c g (natural (end -ℤ g))) a.dim_is
    ∙ ap (λ x. first_owned a.spread.dim x g (natural (end -ℤ g))) a.number
    ∙ sym (ap (λ o. next_along t node o g (natural (end -ℤ g))) a.is)
