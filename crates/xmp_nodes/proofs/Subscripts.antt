-- Elements at an offset from an iteration's own: their cells lie at the iteration's point, or near it.
use Rattle.std.proofs.Common.{◌≡◌, ◌<◌, ◌≤◌, ◌+◌, ◌++◌, ◌==◌, ◌&&◌, ◌||◌, not, ◌⊎◌, inl, inr, ℕ, suc, ℤ, pos, negsuc, neg_ℤ, ◌+ℤ◌, ◌-ℤ◌, Bool, true, false, true≢false, List, [], ◌∷◌, length, map, Option, Some, None, refl, sym, subst, ap, ◌∙◌, if◌then◌else◌, arith, eqb-true}
use Rattle.std.specs.Prelude.{int_le, slice_get, unwrap_or, nat_lt}
use Rattle.std.specs.List.{list_all}
use Rattle.std.specs.Option.{option_map}
use Rattle.std.proofs.lemmas.Bool.{leb-true}
use Rattle.std.proofs.lemmas.Int.{ints, int_wrap_fits, int_wrap-add_left}
use Rattle.xmp_num.specs.declared.types.Ty.{Ty}
use Rattle.xmp_num.specs.declared.types.Ty.TheVariants.{Int, Long}
use Rattle.xmp_num.specs.declared.types.BinOp.{BinOp}
use Rattle.xmp_num.specs.declared.types.BinOp.TheVariants as op
use Rattle.xmp_num.specs.Arithmetic.{width_of, wrap, FitsType, binary_of}
use Rattle.xmp_map.specs.declared.spread_dim.SpreadDim.{SpreadDim}
use Rattle.xmp_map.specs.declared.aligned.AlignedDim.{AlignedDim}
use Rattle.xmp_map.specs.Boxes.{all_pass}
use Rattle.xmp_map.specs.Spread.{is_whole}
use Rattle.xmp_map.specs.Align.{under, target_fits, positions_fit, is_target}
use Rattle.xmp_map.specs.Held.{offset_of}
use Rattle.xmp_map.proofs.Counted.{and_left, and_right}
use Rattle.xmp_prog.specs.declared.expressions.Expr.{Expr, map-Expr, out-Expr}
use Rattle.xmp_prog.specs.declared.expressions.Access.{Access}
use Rattle.xmp_prog.specs.declared.expressions.Expr.TheOpen.{Expr-F}
use Rattle.xmp_prog.specs.declared.expressions.Expr.TheFolds.{fold-roll-Expr}
use Rattle.xmp_prog.specs.declared.expressions.Expr.TheViews.{roll-out-Expr}
use Rattle.xmp_prog.specs.declared.statements.Point.{Point}
use Rattle.xmp_prog.specs.declared.statements.Point.TheVariants as point
use Rattle.xmp_prog.specs.declared.statements.LoopDirective.{LoopDirective}
use Rattle.xmp_loops.specs.Offsets.{Offset, small, constant_in, constant_of, is_index, shift_by, shift_in, shift_of, offset_at, point_for, is_distributed, with_offset, offsets_along}
use Rattle.xmp_meaning_laws.specs.Agreement.{Seen, SeenElement, seen_step, seen_element, seen, seen_access, joined_value, result_value, IsKnown, MayBe}
use Rattle.xmp_meaning_laws.specs.Near.{position_of, is_beside, is_beside_on}
use Rattle.xmp_meaning_laws.proofs.CountedLoops.{both_true}

-- ---- numbers

-- a small number added to an int, and taken away again
back_fits : (ty : Ty) (x : ℕ) (c : ℤ) → x ≤ 4194304 → int_le (neg_ℤ (pos 4194304)) c ≡ true → int_le c (pos 4194304) ≡ true → FitsType ty (pos x +ℤ neg_ℤ c)
back_fits Int x c h a b = grind (arith, ints)
back_fits Long x c h a b = grind (arith, ints)

wider : (ty : Ty) (v : ℤ) → FitsType Int v → FitsType ty v
wider Int v f = f
wider Long v f = grind (arith, ints)

away : (v c : ℤ) → (v +ℤ c) +ℤ neg_ℤ c ≡ v
away v c = omega (arith, ints)

back : (x v c : ℤ) → x +ℤ neg_ℤ c ≡ v → x ≡ v +ℤ c
back x v c e = omega (arith, ints, e)

-- where a sum wraps to a small number, it doesn't wrap
unwrapped : (ty : Ty) (v c : ℤ) (x : ℕ) → FitsType Int v → int_le (neg_ℤ (pos 4194304)) c ≡ true → int_le c (pos 4194304) ≡ true → x ≤ 4194304
    → wrap ty (v +ℤ c) ≡ pos x → pos x ≡ v +ℤ c
unwrapped ty v c x f low high h e =
    back (pos x) v c
    (sym (int_wrap_fits (width_of ty) (pos x +ℤ neg_ℤ c) (back_fits ty x c h low high))
    ∙ ap (λ z. wrap ty (z +ℤ neg_ℤ c)) (sym e)
    ∙ int_wrap-add_left (width_of ty) (v +ℤ c) (neg_ℤ c)
    ∙ ap (wrap ty) (away v c)
    ∙ int_wrap_fits (width_of ty) v (wider ty v f))

neg_low : (c : ℤ) → int_le c (pos 4194304) ≡ true → int_le (neg_ℤ (pos 4194304)) (neg_ℤ c) ≡ true
neg_low c h = grind (arith, ints)

neg_high : (c : ℤ) → int_le (neg_ℤ (pos 4194304)) c ≡ true → int_le (neg_ℤ c) (pos 4194304) ≡ true
neg_high c h = grind (arith, ints)

low_side : (v f c : ℤ) (n x low : ℕ) → pos x ≡ v +ℤ c → int_le (neg_ℤ (pos low)) ((c +ℤ pos n) -ℤ f) ≡ true → int_le (v +ℤ f) (pos ((x + n) + low)) ≡ true
low_side v f c n x low e h = grind (arith, ints)

high_side : (v f c : ℤ) (n x high : ℕ) → pos x ≡ v +ℤ c → int_le ((c +ℤ pos n) -ℤ f) (pos high) ≡ true → int_le (pos (x + n)) ((v +ℤ f) +ℤ pos high) ≡ true
high_side v f c n x high e h = subst (λ z. int_le z ((v +ℤ f) +ℤ pos high) ≡ true) (sym (moved v c n x e)) (beside (c +ℤ pos n) v f (pos high) h)
  where
    moved : (v c : ℤ) (n x : ℕ) → pos x ≡ v +ℤ c → pos (x + n) ≡ v +ℤ (c +ℤ pos n)
    moved v c n x e = omega (arith, ints, e)

    beside : (u v f h : ℤ) → int_le (u -ℤ f) h ≡ true → int_le (v +ℤ u) ((v +ℤ f) +ℤ h) ≡ true
    beside u v f h e = grind (arith, ints)

-- ---- what a subscript's form says of its value

shift_is : (o : BinOp) (k : Option ℤ) (c : ℤ) → shift_by o k ≡ Some c → ((o ≡ op.Add) × (k ≡ Some c)) ⊎ ((o ≡ op.Sub) × (option_map neg_ℤ k ≡ Some c))
shift_is op.Add k c e = inl (refl, e)
shift_is op.Sub k c e = inr (refl, e)
shift_is op.Mul k c e = cc
shift_is op.Div k c e = cc
shift_is op.Rem k c e = cc
shift_is op.Shl k c e = cc
shift_is op.Shr k c e = cc
shift_is op.And k c e = cc
shift_is op.Or k c e = cc
shift_is op.Xor k c e = cc
shift_is op.Less k c e = cc
shift_is op.LessEq k c e = cc
shift_is op.Greater k c e = cc
shift_is op.GreaterEq k c e = cc
shift_is op.Equal k c e = cc
shift_is op.Differ k c e = cc

-- the size of a small constant
pub record SmallIs (c k : ℤ) : Type 0 where
  pub same : c ≡ k
  pub low : int_le (neg_ℤ (pos 4194304)) k ≡ true
  pub high : int_le k (pos 4194304) ≡ true

same_some : (x y : ℤ) → Some x ≡ Some y → x ≡ y
same_some x y e = cc

small_is : (c k : ℤ) → small c ≡ Some k → SmallIs c k
small_is c k e = of_test (int_le (neg_ℤ (pos 4194304)) c && int_le c (pos 4194304)) refl e
  where
    of_test : (b : Bool) → (int_le (neg_ℤ (pos 4194304)) c && int_le c (pos 4194304)) ≡ b → (if b then Some c else None) ≡ Some k → SmallIs c k
    of_test true t f =
        let same : c ≡ k = cc in
        record {
          same = same;
          low = subst (λ z. int_le (neg_ℤ (pos 4194304)) z ≡ true) same (and_left (int_le (neg_ℤ (pos 4194304)) c) (int_le c (pos 4194304)) t);
          high = subst (λ z. int_le z (pos 4194304) ≡ true) same (and_right (int_le (neg_ℤ (pos 4194304)) c) (int_le c (pos 4194304)) t);
        }
    of_test false t f = cc

module _ (known : ℕ → Option ℤ) where
  abbrev seen_form : Expr-F Expr Access → Seen
  seen_form y = seen_step known (map-Expr Expr Access Seen SeenElement (seen known) (seen_access known) y)

  pub seen_out : (e : Expr) → seen known e ≡ seen_form (out-Expr e)
  seen_out e = ap (seen known) (sym (roll-out-Expr e)) ∙ fold-roll-Expr Seen SeenElement (seen_step known) seen_element (out-Expr e)

  index_form : (slot : ℕ) (y : Expr-F Expr Access) → is_index slot y ≡ true → (seen_form y).value ≡ known slot
  index_form slot (Expr-F.Scalar i at) h = ap known (eqb-true i slot h)
  index_form slot (Expr-F.Const v ty) h = absurd (true≢false (sym h))
  index_form slot (Expr-F.Cell a) h = absurd (true≢false (sym h))
  index_form slot (Expr-F.Binary o ty a b at) h = absurd (true≢false (sym h))
  index_form slot (Expr-F.Both a b) h = absurd (true≢false (sym h))
  index_form slot (Expr-F.Either a b) h = absurd (true≢false (sym h))
  index_form slot (Expr-F.Choose a b c) h = absurd (true≢false (sym h))
  index_form slot (Expr-F.Convert ty a) h = absurd (true≢false (sym h))
  index_form slot (Expr-F.Call function arguments at) h = absurd (true≢false (sym h))
  index_form slot Expr-F.Node h = absurd (true≢false (sym h))
  index_form slot Expr-F.Nodes h = absurd (true≢false (sym h))

  constant_form : (k : ℤ) (y : Expr-F Expr Access) → constant_in y ≡ Some k → ((seen_form y).value ≡ Some k) × (int_le (neg_ℤ (pos 4194304)) k ≡ true) × (int_le k (pos 4194304) ≡ true)
  constant_form k (Expr-F.Const v ty) h = let s : SmallIs v k = small_is v k h in (ap Some s.same, s.low, s.high)
  constant_form k (Expr-F.Scalar i at) h = cc
  constant_form k (Expr-F.Cell a) h = cc
  constant_form k (Expr-F.Binary o ty a b at) h = cc
  constant_form k (Expr-F.Both a b) h = cc
  constant_form k (Expr-F.Either a b) h = cc
  constant_form k (Expr-F.Choose a b c) h = cc
  constant_form k (Expr-F.Convert ty a) h = cc
  constant_form k (Expr-F.Call function arguments at) h = cc
  constant_form k Expr-F.Node h = cc
  constant_form k Expr-F.Nodes h = cc

  -- the value of `i + c` or `i - c`, where it is a subscript
  sum_value : (o : BinOp) (ty : Ty) (k : Option ℤ) (v c : ℤ) (x : ℕ) → FitsType Int v → x ≤ 4194304 → shift_by o k ≡ Some c
      → ((w : ℤ) → k ≡ Some w → (int_le (neg_ℤ (pos 4194304)) w ≡ true) × (int_le w (pos 4194304) ≡ true))
      → IsKnown (joined_value o ty (Some v) k) (pos x) → pos x ≡ v +ℤ c
  unfolding binary_of
  sum_value o ty None v c x f h s size n = of_form (shift_is o None c s)
    where
      of_form : ((o ≡ op.Add) × (None ≡ Some c)) ⊎ ((o ≡ op.Sub) × (option_map neg_ℤ None ≡ Some c)) → pos x ≡ v +ℤ c
      of_form (inl e) = let bad : None ≡ Some c = e.1 in cc
      of_form (inr e) = let bad : None ≡ Some c = e.1 in cc
  sum_value o ty (Some w) v c x f h s size n = of_form (shift_is o (Some w) c s)
    where
      of_form : ((o ≡ op.Add) × (Some w ≡ Some c)) ⊎ ((o ≡ op.Sub) × (option_map neg_ℤ (Some w) ≡ Some c)) → pos x ≡ v +ℤ c
      of_form (inl e) =
          let same : w ≡ c = let k : Some w ≡ Some c = e.1 in cc in
          let m : pos x ≡ wrap ty (v +ℤ w) = subst (λ q. IsKnown (result_value (binary_of q ty v w)) (pos x)) e.0 n in
          unwrapped ty v w x f (size w refl).0 (size w refl).1 h (sym m) ∙ ap (λ z. v +ℤ z) same
      of_form (inr e) =
          let same : neg_ℤ w ≡ c = let k : Some (neg_ℤ w) ≡ Some c = e.1 in cc in
          let m : pos x ≡ wrap ty (v -ℤ w) = subst (λ q. IsKnown (result_value (binary_of q ty v w)) (pos x)) e.0 n in
          unwrapped ty v (neg_ℤ w) x f (neg_low w (size w refl).1) (neg_high w (size w refl).0) h (sym m) ∙ ap (λ z. v +ℤ z) same

  shifted_form : (slot : ℕ) (v c : ℤ) (y : Expr-F Expr Access) (x : ℕ) → known slot ≡ Some v → FitsType Int v → x ≤ 4194304 → shift_in slot y ≡ Some c
      → IsKnown (seen_form y).value (pos x) → pos x ≡ v +ℤ c
  shifted_form slot v c (Expr-F.Scalar i at) x k f h s n = at_test (i == slot) refl s
    where
      plus_none : (z : ℤ) → z ≡ z +ℤ pos 0
      plus_none z = omega (arith, ints)

      at_test : (b : Bool) → (i == slot) ≡ b → (if b then Some (pos 0) else None) ≡ Some c → pos x ≡ v +ℤ c
      at_test true e g =
          let none : pos 0 ≡ c = cc in
          subst (λ o. IsKnown o (pos x)) (ap known (eqb-true i slot e) ∙ k) n ∙ plus_none v ∙ ap (λ z. v +ℤ z) none
      at_test false e g = cc
  shifted_form slot v c (Expr-F.Binary o ty a b at) x k f h s n = at_test (is_index slot (out-Expr a)) refl s
    where
      at_test : (t : Bool) → is_index slot (out-Expr a) ≡ t → (if t then shift_by o (constant_of b) else None) ≡ Some c → pos x ≡ v +ℤ c
      at_test true e g = of_constant (constant_of b) refl g
        where
          first : (seen known a).value ≡ Some v
          first = ap (λ (w : Seen). w.value) (seen_out a) ∙ index_form slot (out-Expr a) e ∙ k

          of_constant : (z : Option ℤ) → constant_of b ≡ z → shift_by o z ≡ Some c → pos x ≡ v +ℤ c
          of_constant None d q = sum_value o ty None v c x f h q (λ w bad. let no : None ≡ Some w = bad in cc) tt
          of_constant (Some w) d q =
              let made : _ = constant_form w (out-Expr b) d in
              let second : (seen known b).value ≡ Some w = ap (λ (w : Seen). w.value) (seen_out b) ∙ made.0 in
              sum_value o ty (Some w) v c x f h q
              (λ u same. subst (λ z. (int_le (neg_ℤ (pos 4194304)) z ≡ true) × (int_le z (pos 4194304) ≡ true)) (same_some w u same) (made.1, made.2))
              (subst (λ r. IsKnown (joined_value o ty r (Some w)) (pos x)) first (subst (λ r. IsKnown (joined_value o ty (seen known a).value r) (pos x)) second n))
      at_test false e g = cc
  shifted_form slot v c (Expr-F.Const w ty) x k f h s n = cc
  shifted_form slot v c (Expr-F.Cell a) x k f h s n = cc
  shifted_form slot v c (Expr-F.Both a b) x k f h s n = cc
  shifted_form slot v c (Expr-F.Either a b) x k f h s n = cc
  shifted_form slot v c (Expr-F.Choose a b d) x k f h s n = cc
  shifted_form slot v c (Expr-F.Convert ty a) x k f h s n = cc
  shifted_form slot v c (Expr-F.Call function arguments at) x k f h s n = cc
  shifted_form slot v c Expr-F.Node x k f h s n = cc
  shifted_form slot v c Expr-F.Nodes x k f h s n = cc

  -- a subscript with a constant added to an index has the index's value and the constant
  pub shifted : (slot : ℕ) (v c : ℤ) (e : Expr) (x : ℕ) → known slot ≡ Some v → FitsType Int v → x ≤ 4194304 → shift_of slot e ≡ Some c
      → IsKnown (seen known e).value (pos x) → pos x ≡ v +ℤ c
  shifted slot v c e x k f h s n = shifted_form slot v c (out-Expr e) x k f h s (subst (λ (w : Seen). IsKnown w.value (pos x)) (seen_out e) n)

  -- ---- dimension by dimension

  module _ (d : LoopDirective) (dims : ℕ) (ss : List SpreadDim) (here : List ℤ)
      (at_index : (k slot : ℕ) (f : ℤ) → slice_get d.points k ≡ Some (point.Index slot f)
      → (v : ℤ) × (known slot ≡ Some v) × FitsType Int v × (unwrap_or (slice_get here k) (pos 0) ≡ v +ℤ f))
      (test : Offset → Bool) (lows highs : AlignedDim → ℕ)
      (wide : (l : AlignedDim) (by : ℤ) → test (record { by = by; low = l.low; high = l.high }) ≡ true
      → (int_le (neg_ℤ (pos (lows l))) by ≡ true) × (int_le by (pos (highs l)) ≡ true)) where
    abbrev Beside : Option SpreadDim → AlignedDim → ℕ → Type 0
    Beside u l x = is_beside_on u (position_of here l.target.dim) (offset_of l.target.offset) (lows l) (highs l) x ≡ true

    undistributed : (u : Option SpreadDim) (l : AlignedDim) (x : ℕ) → is_distributed u ≡ false → Beside u l x
    undistributed None l x e = refl
    undistributed (Some s) l x e = of_test (is_whole s.dim.dist) _ e
      where
        of_test : (a b : Bool) → not a ≡ false → (a || b) ≡ true
        of_test true b f = refl
        of_test false b f = absurd (true≢false f)

    offset_there : (target : Option ℕ) (offset : ℤ) (extent : ℕ) → target_fits dims ss target offset extent ≡ true → is_distributed (under ss target) ≡ true → offset ≡ pos (offset_of offset)
    offset_there None offset extent t e = absurd (true≢false (sym e))
    offset_there (Some k) (pos n) extent t e = refl
    offset_there (Some k) (negsuc n) extent t e = absurd (true≢false (sym (of_slice (slice_get ss k) (and_right (nat_lt k dims) (positions_fit (negsuc n) extent (slice_get ss k)) t))))
      where
        of_slice : (u : Option SpreadDim) → positions_fit (negsuc n) extent u ≡ true → false ≡ true
        of_slice None h = h
        of_slice (Some s) h = h

    abbrev offset_by : AlignedDim → ℤ → ℤ → Offset
    offset_by l g c = record { by = (c +ℤ l.target.offset) -ℤ g; low = l.low; high = l.high }

    -- the offset of one dimension
    at_offset : (s : SpreadDim) (l : AlignedDim) (e : Expr) (q : Option Point) (o : Offset) (x : ℕ) → point_for d l.target.dim ≡ q → offset_at l (Some e) q ≡ Some o → test o ≡ true
        → l.target.offset ≡ pos (offset_of l.target.offset) → x ≤ 4194304 → IsKnown (seen known e).value (pos x) → Beside (Some s) l x
    at_offset s l e None o x at f t n h k = cc
    at_offset s l e (Some point.Any) o x at f t n h k = cc
    at_offset s l e (Some (point.Index slot g)) o x at f t n h k = of_dim l.target.dim refl (shift_of slot e) refl f
      where
        or_beside : (a b : Bool) → b ≡ true → (a || b) ≡ true
        or_beside true b i = refl
        or_beside false b i = i

        of_dim : (dim : Option ℕ) → l.target.dim ≡ dim → (z : Option ℤ) → shift_of slot e ≡ z → option_map (offset_by l g) z ≡ Some o → Beside (Some s) l x
        of_dim None i z j w = let bad : None ≡ Some (point.Index slot g) = sym (ap (point_for d) i) ∙ at in cc
        of_dim (Some dim) i None j w = cc
        of_dim (Some dim) i (Some c) j w =
            let value : _ = at_index dim slot g (sym (ap (point_for d) i) ∙ at) in
            let is : offset_by l g c ≡ o = let u : Some (offset_by l g c) ≡ Some o = w in cc in
            let sum : pos x ≡ value.0 +ℤ c = shifted slot value.0 c e x value.1 value.2 h j k in
            let wide_by : _ = wide l ((c +ℤ l.target.offset) -ℤ g) (subst (λ z. test z ≡ true) (sym is) t) in
            let there : position_of here l.target.dim ≡ value.0 +ℤ g = ap (position_of here) i ∙ value.3 in
            or_beside (is_whole s.dim.dist) _
            (subst (λ z. is_beside z (lows l) (highs l) (x + offset_of l.target.offset) ≡ true) (sym there)
            (both_true _ _
            (low_side value.0 g c (offset_of l.target.offset) x (lows l) sum (subst (λ z. int_le (neg_ℤ (pos (lows l))) ((c +ℤ z) -ℤ g) ≡ true) n wide_by.0))
            (high_side value.0 g c (offset_of l.target.offset) x (highs l) sum (subst (λ z. int_le ((c +ℤ z) -ℤ g) (pos (highs l)) ≡ true) n wide_by.1))))

    one_beside : (u : Option SpreadDim) (l : AlignedDim) (e : Expr) (rest : Option (List Offset)) (os : List Offset) (x : ℕ) → under ss l.target.dim ≡ u → is_distributed u ≡ true
        → with_offset (offset_at l (Some e) (point_for d l.target.dim)) rest ≡ Some os → list_all test os ≡ true → is_target dims ss l ≡ true → x ≤ 4194304
        → IsKnown (seen known e).value (pos x) → Beside u l x
    one_beside None l e rest os x at di f t fits h k = refl
    one_beside (Some s) l e rest os x at di f t fits h k = of_both (offset_at l (Some e) (point_for d l.target.dim)) rest refl f
      where
        of_both : (o : Option Offset) (r : Option (List Offset)) → offset_at l (Some e) (point_for d l.target.dim) ≡ o → with_offset o r ≡ Some os → Beside (Some s) l x
        of_both None r i w = cc
        of_both (Some o) None i w = cc
        of_both (Some o) (Some more) i w =
            let same : o ∷ more ≡ os = let u : Some (o ∷ more) ≡ Some os = w in cc in
            at_offset s l e (point_for d l.target.dim) o x refl i (and_left (test o) (list_all test more) (subst (λ z. list_all test z ≡ true) (sym same) t))
            (offset_there l.target.dim l.target.offset l.extent fits (ap is_distributed at ∙ di)) h k

    -- the rest of the offsets
    rest_of : (o : Option Offset) (r : Option (List Offset)) (os : List Offset) → with_offset o r ≡ Some os → list_all test os ≡ true → (more : List Offset) × (r ≡ Some more) × (list_all test more ≡ true)
    rest_of None r os w t = cc
    rest_of (Some o) None os w t = cc
    rest_of (Some o) (Some more) os w t =
        let same : o ∷ more ≡ os = let u : Some (o ∷ more) ≡ Some os = w in cc in
        (more, refl, and_right (test o) (list_all test more) (subst (λ z. list_all test z ≡ true) (sym same) t))

    abbrev values : List Expr → List (Option ℤ)
    values es = map (λ e. e.value) (map (seen known) es)

    abbrev Small : List ℕ → Type 0
    Small ns = list_all (λ n. nat_lt n 4194305) ns ≡ true

    abbrev Passes : List AlignedDim → List ℕ → Type 0
    Passes ls xs = all_pass (map (λ l. is_beside_on (under ss l.target.dim) (position_of here l.target.dim) (offset_of l.target.offset) (lows l) (highs l)) ls) xs ≡ true

    -- a dimension beyond the subscripts
    beyond : (l : AlignedDim) (ls : List AlignedDim) (os : List Offset) (z : ℕ) (zs : List ℕ) → (b : Bool) → is_distributed (under ss l.target.dim) ≡ b
        → (if b then None else offsets_along d ss ls []) ≡ Some os → (offsets_along d ss ls [] ≡ Some os → Passes ls zs) → Passes (l ∷ ls) (z ∷ zs)
    unfolding all_pass
    beyond l ls os z zs true e f rest = cc
    beyond l ls os z zs false e f rest = both_true _ _ (undistributed (under ss l.target.dim) l z e) (rest f)

    -- a dimension with its subscript
    with_subscript : (l : AlignedDim) (ls : List AlignedDim) (e : Expr) (es : List Expr) (os : List Offset) (x : ℕ) (xs : List ℕ) → (b : Bool) → is_distributed (under ss l.target.dim) ≡ b
        → (if b then with_offset (offset_at l (Some e) (point_for d l.target.dim)) (offsets_along d ss ls es) else offsets_along d ss ls es) ≡ Some os
        → list_all test os ≡ true → is_target dims ss l ≡ true → x ≤ 4194304 → IsKnown (seen known e).value (pos x)
        → ((more : List Offset) → offsets_along d ss ls es ≡ Some more → list_all test more ≡ true → Passes ls xs) → Passes (l ∷ ls) (x ∷ xs)
    unfolding all_pass
    with_subscript l ls e es os x xs true i f t fits below k rest =
        let more : _ = rest_of (offset_at l (Some e) (point_for d l.target.dim)) (offsets_along d ss ls es) os f t in
        both_true _ _ (one_beside (under ss l.target.dim) l e (offsets_along d ss ls es) os x refl i f t fits below k) (rest more.0 more.1 more.2)
    with_subscript l ls e es os x xs false i f t fits below k rest = both_true _ _ (undistributed (under ss l.target.dim) l x i) (rest os f t)

    small_one : (x n : ℕ) → x < n → nat_lt n 4194305 ≡ true → x ≤ 4194304
    small_one x n lt e = let b : n < 4194305 = leb-true (suc n) 4194305 e in omega (arith, lt, b)

    pub all_beside : (ls : List AlignedDim) (es : List Expr) (os : List Offset) (ns xs zs : List ℕ) → offsets_along d ss ls es ≡ Some os → list_all test os ≡ true → list_all (is_target dims ss) ls ≡ true
        → Small ns → MayBe (values es) ns xs → length es ≡ length ns → length ls ≤ length (xs ++ zs) → Passes ls (xs ++ zs)
    unfolding all_pass
    all_beside [] es os ns xs zs o t fits small may len long = refl
    all_beside (l ∷ ls) [] os ns (x ∷ xs) zs o t fits small may len long = cc
    all_beside (l ∷ ls) [] os ns [] [] o t fits small may len long = absurd (omega (arith, long))
    all_beside (l ∷ ls) [] os ns [] (z ∷ zs) o t fits small may len long =
        beyond l ls os z zs (is_distributed (under ss l.target.dim)) refl o
        (λ f. all_beside ls [] os ns [] zs f t (and_right (is_target dims ss l) (list_all (is_target dims ss) ls) fits) small may len (let q : length ls ≤ length zs = omega (arith, long) in q))
    all_beside (l ∷ ls) (e ∷ es) os [] xs zs o t fits small may len long = absurd (omega (arith, len))
    all_beside (l ∷ ls) (e ∷ es) os (n ∷ ns) [] zs o t fits small may len long = absurd may
    all_beside (l ∷ ls) (e ∷ es) os (n ∷ ns) (x ∷ xs) zs o t fits small may len long =
        with_subscript l ls e es os x (xs ++ zs) (is_distributed (under ss l.target.dim)) refl o t (and_left (is_target dims ss l) (list_all (is_target dims ss) ls) fits)
        (small_one x n may.0 (and_left (nat_lt n 4194305) (list_all (λ n. nat_lt n 4194305) ns) small)) may.1
        (λ more f u. all_beside ls es more ns xs zs f u (and_right (is_target dims ss l) (list_all (is_target dims ss) ls) fits)
        (and_right (nat_lt n 4194305) (list_all (λ n. nat_lt n 4194305) ns) small) may.2
        (let q : length es ≡ length ns = omega (arith, len) in q) (let q : length ls ≤ length (xs ++ zs) = omega (arith, long) in q))
