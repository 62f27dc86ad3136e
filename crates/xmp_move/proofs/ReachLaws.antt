-- The two forms of a reach, and the definitions of who owns and who holds.
use Rattle.std.proofs.Common.{◌≡◌, ℕ, ◌+◌, ◌-◌, ◌*◌, ◌/◌, ◌%◌, ◌<◌, ◌≤◌, ◌⊎◌, inl, inr, Bool, true, false, refl, sym, ◌∙◌, ap, arith, min, subst, IsTrue, Option, Some, length}
use Rattle.std.specs.Prelude.{◌&&◌, ◌||◌, ◌==◌, nat_lt, nat_le, IfSome}
use Rattle.std.proofs.lemmas.Bool.{cases_lt}
use Rattle.std.proofs.lemmas.Bool.Decides.{nat_tests}
use Rattle.xmp_dist.specs.declared.form.Dist.{Dist}
use Rattle.xmp_dist.specs.declared.form.Dist.TheVariants.{Cyclic}
use Rattle.xmp_dist.specs.declared.dimension.Dim.{Dim}
use Rattle.xmp_dist.specs.Count.{count_below}
use Rattle.xmp_dist.specs.Valid.{is_dim}
use Rattle.xmp_dist.specs.Table.{is_chunked, chunk_start, chunk_end, owner_by}
use Rattle.xmp_dist.specs.Owner.{owner_inside}
use Rattle.xmp_dist.proofs.Counting.{count_below-span, count_below-shift, count_below-tells}
use Rattle.xmp_dist.proofs.Cyclic.{cyclic_count, cyclic_is}
use Rattle.xmp_dist.proofs.Owned.{dim_fits, cyclic_fits}
use Rattle.xmp_map.specs.declared.spread_dim.SpreadDim.{SpreadDim}
use Rattle.xmp_map.specs.declared.template.Template.{Template}
use Rattle.xmp_map.specs.RowMajor.{product, unravel}
use Rattle.xmp_map.specs.Spread.{node_along}
use Rattle.xmp_map.specs.Align.{under}
use Rattle.xmp_map.specs.Shadow.{has_shadow, is_near, holds_at}
use Rattle.xmp_map.proofs.Order.{below_inside, unravel_below}
use Rattle.xmp_map.proofs.HoldLaws.{node_lt}
use Rattle.xmp_map.proofs.LineLaws.{held_chunked}
use Rattle.xmp_move.specs.declared.reach.Reach.TheVariants.{Span, Rounds}
use Rattle.xmp_move.specs.Reaches.{reaches, ReachFits, position_in, IsReach}

pub dealt_is : (w m c g : ℕ) → 1 ≤ w → c < m → g / (m * w) * w + min w (g % (m * w) - c * w) ≡ count_below (λ x. ((x / w) % m) == c) g
unfolding cyclic_count
dealt_is w m c g some lt = sym (cyclic_is w m c g some lt)

pub span_position : (from to x : ℕ) → from ≤ to → min x to - min x from ≡ position_in (Span from to) x
span_position from to x le = sym (count_below-span (reaches (Span from to)) from to x le (λ x _. refl))

pub rounds_position : (w m c o x : ℕ) → position_in (Rounds w m c o) x + count_below (λ y. ((y / w) % m) == c) o ≡ count_below (λ y. ((y / w) % m) == c) (x + o)
rounds_position w m c o x = count_below-shift (λ y. ((y / w) % m) == c) o x

valid_cyclic : (d : Dim) (w : ℕ) → d.dist ≡ Cyclic w → IsTrue (is_dim d.size d.nodes (Cyclic w))
valid_cyclic d w e = let P : Dist → Type 0 = λ t. IsTrue (is_dim d.size d.nodes t) in subst P e d.valid

rounds_fit : (d : Dim) (w c o e : ℕ) → d.dist ≡ Cyclic w → c < d.nodes → e + o ≤ d.size → ReachFits (Rounds w d.nodes c o) e
rounds_fit d w c o e is lt inside =
    let f = cyclic_fits d.size d.nodes w (valid_cyclic d w is) in
    let g = dim_fits d.size d.nodes d.dist d.valid in
    let n = g.nodes_le in
    let s = g.size_le in
    (f.0, f.1, lt, n, omega (arith, s))

pub owned_rounds : (d : Dim) (w c o e : ℕ) → d.dist ≡ Cyclic w → c < d.nodes → e + o ≤ d.size
    → IsReach (Rounds w d.nodes c o) e (λ x. owner_inside d (x + o) == c)
unfolding owner_inside
owned_rounds d w c o e is lt inside = record {
  fits = rounds_fit d w c o e is lt inside;
  same = λ x _. ap (λ t. owner_by t d.size d.nodes (x + o) == c) (sym is);
}

or_false : (b : Bool) → b ≡ (b || false)
or_false true = refl
or_false false = refl

pub held_rounds : (d : Dim) (w c lo hi o e : ℕ) → d.dist ≡ Cyclic w → c < d.nodes → e + o ≤ d.size
    → IsReach (Rounds w d.nodes c o) e (λ x. holds_at d c lo hi (x + o))
unfolding owner_inside holds_at
held_rounds d w c lo hi o e is lt inside = record {
  fits = rounds_fit d w c o e is lt inside;
  same = λ x _.
      or_false ((((x + o) / w) % d.nodes) == c)
      ∙ ap (λ t. (owner_by t d.size d.nodes (x + o) == c) || (has_shadow t && is_near (chunk_start t d.size d.nodes c) (chunk_end t d.size d.nodes c) lo hi (x + o))) (sym is);
}

tells_span : (a b x : ℕ) → a ≤ b → nat_lt (min x b - min x a) (min (x + 1) b - min (x + 1) a) ≡ (nat_le a x && nat_lt x b)
tells_span a b x le = grind (arith, nat_tests)

told : (p : ℕ → Bool) (a b x : ℕ) → a ≤ b → count_below p x ≡ min x b - min x a → count_below p (x + 1) ≡ min (x + 1) b - min (x + 1) a → (nat_le a x && nat_lt x b) ≡ p x
told p a b x le now next = sym (count_below-tells p x ∙ ap (λ n. nat_lt n (count_below p (x + 1))) now ∙ ap (λ n. nat_lt (min x b - min x a) n) next ∙ tells_span a b x le)

pub held_span : (d : Dim) (c lo hi o e a b s t : ℕ) → is_chunked d.dist ≡ true → c < d.nodes → e + o ≤ d.size
    → ((has_shadow d.dist ≡ true) ⊎ ((lo ≡ 0) × (hi ≡ 0)))
    → s ≡ chunk_start d.dist d.size d.nodes c → t ≡ chunk_end d.dist d.size d.nodes c
    → (s < t → (a ≡ s - (lo + o)) × (b ≡ t + hi - o)) → (t ≤ s → (a ≡ 0) × (b ≡ 0))
    → IsReach (Span a b) e (λ x. holds_at d c lo hi (x + o))
held_span d c lo hi o e a b s t k lt inside shadow es et full empty =
    elim (cases_lt s t) [
      | inl f ↦
          let f' : chunk_start d.dist d.size d.nodes c < chunk_end d.dist d.size d.nodes c = omega (arith, f, es, et) in
          let p = full f in
          let ea : a ≡ chunk_start d.dist d.size d.nodes c - (lo + o) = p.0 ∙ ap (λ s. s - (lo + o)) es in
          let eb : b ≡ chunk_end d.dist d.size d.nodes c + hi - o = p.1 ∙ ap (λ t. t + hi - o) et in
          let le : a ≤ b = omega (arith, f', ea, eb) in
          record {
            fits = le;
            same = λ x hx.
                let now = (held_chunked d c lo hi o x k lt (omega (arith, hx, inside)) shadow).full f' in
                let next = (held_chunked d c lo hi o (x + 1) k lt (omega (arith, hx, inside)) shadow).full f' in
                told (λ x. holds_at d c lo hi (x + o)) a b x le (rw (ea, eb) now) (rw (ea, eb) next);
          }
      | inr f ↦
          let f' : chunk_end d.dist d.size d.nodes c ≤ chunk_start d.dist d.size d.nodes c = omega (arith, f, es, et) in
          let p = empty f in
          let le : a ≤ b = omega (arith, p.0, p.1) in
          record {
            fits = le;
            same = λ x hx.
                let now = (held_chunked d c lo hi o x k lt (omega (arith, hx, inside)) shadow).empty f' in
                let next = (held_chunked d c lo hi o (x + 1) k lt (omega (arith, hx, inside)) shadow).empty f' in
                told (λ x. holds_at d c lo hi (x + o)) a b x le (rw (p.0, p.1) (now ∙ omega arith)) (rw (p.0, p.1) (next ∙ omega arith));
          }
    ]

-- a node's number along a dimension is one of the dimension's
pub along_lt : (t : Template) (d : Option ℕ) (s : SpreadDim) (node n : ℕ) → length t.grid.sizes ≡ 3 → node < product t.grid.sizes → under t.spread d ≡ Some s
    → IfSome (under t.spread d) (λ s. n ≡ node_along (unravel t.grid.sizes node) s) → n < s.dim.nodes
along_lt t d s node n l lt e along =
    let i = node_lt t d (unravel t.grid.sizes node) s l (below_inside (unravel t.grid.sizes node) t.grid.sizes (unravel_below t.grid.sizes node lt)) e in
    let k : n ≡ node_along (unravel t.grid.sizes node) s = subst (λ u. IfSome u (λ s. n ≡ node_along (unravel t.grid.sizes node) s)) e along in
    rw k i
