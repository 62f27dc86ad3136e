-- An align that breaks no rule: each dimension of the template is named as often as it must be, and no cell leaves it.
use Rattle.std.proofs.Common.{◌≡◌, ◌≤◌, ◌<◌, ◌∙◌, ⊎_elim, sym, ap, ap₂, refl, subst, ◌∷◌, [], ◌+◌, ◌&&◌, ◌||◌, ℕ, zero, suc, ℤ, pos, negsuc, ◌+ℤ◌, Bool, true, false, cond, List, Option, Some, None, arith, length, map, eq-eqb, eqb-true, le-leb, leb-true, lt-ltb}
use Rattle.std.specs.Prelude.{slice_get, ◌==◌, nat_le, nat_lt, int_le}
use Rattle.std.specs.List.{list_all, count_by}
use Rattle.std.proofs.lemmas.Bool.{cases_lt}
use Rattle.std.proofs.lemmas.List.Sums.{sum_by-cons}
use Rattle.std.proofs.lemmas.Option.{same_Some, none-some, slice_get_past, slice_get_within}
use Rattle.xmp_dist.specs.declared.form.Dist.{Dist}
use Rattle.xmp_dist.specs.declared.form.Dist.TheVariants as dist
use Rattle.xmp_map.specs.declared.aligned.AlignedDim.{AlignedDim}
use Rattle.xmp_map.specs.declared.spread_dim.SpreadDim.{SpreadDim}
use Rattle.xmp_map.specs.Align.{aligned_dim, aligned_dims, dims_of, is_target, named, names, names_fit, positions_fit, target_fits, unused}
use Rattle.xmp_map.specs.Nodes.{filled}
use Rattle.xmp_map.specs.Spread.{is_whole}
use Rattle.xmp_names.specs.declared.mappings.AlignPoint.{AlignPoint}
use Rattle.xmp_names.specs.declared.mappings.AlignPoint.TheVariants as point
use Rattle.xmp_names.specs.declared.mappings.Form.{Form}
use Rattle.xmp_names.specs.declared.mappings.Form.TheVariants as form
use Rattle.xmp_names.specs.Sizes.{natural}
use Rattle.xmp_mapping_rules.specs.MappingRules.{all_different, dimensions_in, distributes, one_to_three, reaches}
use Rattle.xmp_parts.specs.Parts.{made_form, target_from, targets, targets_from}
use Rattle.xmp_parts.proofs.Dimensions.{Named, found, named_by, named_by_none, star_not}
use Rattle.xmp_parts.proofs.HeldPoints.{point_fits, points_right}
use Rattle.xmp_parts.proofs.Padded.{all_filled, at_most_three, count_filled, filled_get, filled_past, mapped, mapped_to}
use Rattle.xmp_parts.proofs.Unbroken.{all_here, both_true, right_true}

-- What is right of the held points of an align, over the sizes and forms of its template.
pub record RightPoints (extents : List ℕ) (sizes : List ℤ) (forms : List Form) (points : List AlignPoint) : Type 0 where
  pub few : one_to_three (length points) ≡ true
  pub as_sizes : length points ≡ length sizes
  pub as_forms : length points ≡ length forms
  pub different : all_different (dimensions_in points) ≡ true
  pub fit : points_right extents forms sizes points ≡ true

-- The dimensions of the template that was made.
pub record Spreads (ns : List ℤ) (fs : List Form) (ss : List SpreadDim) : Type 0 where
  pub sizes : map (λ s. s.dim.size) ss ≡ filled 1 (map natural ns)
  pub forms : map (λ s. s.dim.dist) ss ≡ filled dist.Whole (map made_form fs)

-- ---- how often a dimension of the template is named

abbrev count_in : (ℕ → Bool) → ℕ → List ℕ → ℕ
count_in t j [] = 0
count_in t j (x ∷ xs) = cond (t j) 1 0 + count_in t (j + 1) xs

count_same : (t u : ℕ → Bool) (j : ℕ) (xs : List ℕ) → ((e : ℕ) → t e ≡ u e) → count_in t j xs ≡ count_in u j xs
count_same t u j [] h = refl
count_same t u j (x ∷ xs) h = let r = count_same t u (j + 1) xs h in ap (λ b. cond b 1 0 + count_in t (j + 1) xs) (h j) ∙ ap (λ n. cond (u j) 1 0 + n) r

count_none : (j : ℕ) (xs : List ℕ) → count_in (λ e. false) j xs ≡ 0
count_none j [] = refl
count_none j (x ∷ xs) = ap (λ n. 0 + n) (count_none (j + 1) xs)

unequal : (d j : ℕ) → (d ≡ j → ⊥) → (b : Bool) → (d == j) ≡ b → cond {A = ℕ} (d == j) 1 0 ≡ 0
unequal d j h false e = ap (λ b. cond b 1 0) e
unequal d j h true e = absurd (h (eqb-true d j e))

count_below : (d j : ℕ) (xs : List ℕ) → d < j → count_in (λ e. d == e) j xs ≡ 0
count_below d j [] h = refl
count_below d j (x ∷ xs) h =
    let z = unequal d j (λ e. omega (arith, e)) (d == j) refl in
    ap₂ (λ a b. a + b) z (count_below d (j + 1) xs (omega arith))

count_one : (d j : ℕ) (xs : List ℕ) → j ≤ d → d < j + length xs → count_in (λ e. d == e) j xs ≡ 1
count_one d j [] h k = absurd (omega arith)
count_one d j (x ∷ xs) h k =
    ⊎_elim (λ lt. let z = unequal d j (λ e. omega (arith, e, lt)) (d == j) refl in ap₂ (λ a b. a + b) z (count_one d (j + 1) xs (omega (arith, lt)) (omega arith)))
    (λ le. let o : cond {A = ℕ} (d == j) 1 0 ≡ 1 = ap (λ b. cond b 1 0) (eq-eqb d j (omega (arith, le))) in ap₂ (λ a b. a + b) o (count_below d (j + 1) xs (omega (arith, le))))
    (cases_lt j d)

count_dims : (points : List AlignPoint) (k j : ℕ) (extents : List ℕ) (ws : List (ℕ × ℕ)) → length ws ≡ length extents →
    count_by (λ l. names l.target.dim k) (dims_of extents (targets_from j extents points) ws) ≡ count_in (λ e. names (target_from e 0 points).dim k) j extents
count_dims points k j [] ws h = refl
count_dims points k j (x ∷ xs) [] h = absurd (omega arith)
count_dims points k j (x ∷ xs) (w ∷ ws) h =
    sum_by-cons (λ l. cond (names l.target.dim k) 1 0) (aligned_dim x (target_from j 0 points) w) (dims_of xs (targets_from (j + 1) xs points) ws)
    ∙ ap (λ n. cond (names (target_from j 0 points).dim k) 1 0 + n) (count_dims points k (j + 1) xs ws (omega arith))

dims_length : (points : List AlignPoint) (j : ℕ) (extents : List ℕ) (ws : List (ℕ × ℕ)) → length ws ≡ length extents → length (dims_of extents (targets_from j extents points) ws) ≡ length extents
dims_length points j [] ws h = refl
dims_length points j (x ∷ xs) [] h = absurd (omega arith)
dims_length points j (x ∷ xs) (w ∷ ws) h = ap suc (dims_length points (j + 1) xs ws (omega arith))

named_times : (points : List AlignPoint) (k : ℕ) (extents : List ℕ) (ws : List (ℕ × ℕ)) → length extents ≤ 3 → length ws ≡ length extents →
    named (aligned_dims extents (targets extents points) ws) k ≡ count_in (λ e. names (target_from e 0 points).dim k) 0 extents
named_times points k extents ws few h =
    let l = dims_length points 0 extents ws h in
    count_filled (λ l. names l.target.dim k) unused (dims_of extents (targets extents points) ws) (omega arith) refl ∙ count_dims points k 0 extents ws h

-- ---- a dimension of the template

past_end : {A : Type 0} (xs : List A) (k : ℕ) → slice_get xs k ≡ None → length xs ≤ k
past_end [] k h = omega arith
past_end (x ∷ xs) zero h = absurd (none-some x (sym h))
past_end (x ∷ xs) (suc k) h = let r = past_end xs k h in omega arith

-- The form that was made for a dimension, where it has one.
abbrev made_or_whole : Option Form → Dist
made_or_whole None = dist.Whole
made_or_whole (Some f) = made_form f

dist_at : (sizes : List ℤ) (forms : List Form) (ss : List SpreadDim) (i : ℕ) (s : SpreadDim) → Spreads sizes forms ss → length forms ≤ 3 → slice_get ss i ≡ Some s → s.dim.dist ≡ made_or_whole (slice_get forms i)
dist_at sizes forms ss i s r few e = go (slice_get forms i) refl
  where
    here : slice_get (filled dist.Whole (map made_form forms)) i ≡ Some s.dim.dist
    here = ap (λ l. slice_get l i) (sym r.forms) ∙ mapped_to (λ s. s.dim.dist) ss i s e

    go : (o : Option Form) → slice_get forms i ≡ o → s.dim.dist ≡ made_or_whole o
    go None g = sym (filled_past made_form dist.Whole forms i s.dim.dist few g here)
    go (Some f) g = same_Some s.dim.dist (made_form f) (sym here ∙ filled_get made_form dist.Whole forms i f few g)

undistributed : (o : Option Form) → distributes o ≡ false → is_whole (made_or_whole o) ≡ true
undistributed None h = refl
undistributed (Some form.Whole) h = refl
undistributed (Some form.Block) h = cc
undistributed (Some (form.Cyclic n)) h = cc
undistributed (Some (form.Gblock ns)) h = cc

-- Whether a dimension of the template is named as often as it must be.
abbrev name_ok : ℕ → Dist → Bool
name_ok n d = nat_le n 1 && (is_whole d || (n == 1))

unnamed_ok : (n : ℕ) (d : Dist) → n ≡ 0 → is_whole d ≡ true → name_ok n d ≡ true
unnamed_ok n d e h = subst (λ m. name_ok m d ≡ true) (sym e) (go (is_whole d) h)
  where
    go : (b : Bool) → b ≡ true → (b || (0 == 1)) ≡ true
    go true k = refl
    go false k = cc

named_ok : (n : ℕ) (d : Dist) → n ≡ 1 → name_ok n d ≡ true
named_ok n d e = subst (λ m. name_ok m d ≡ true) (sym e) (go (is_whole d))
  where
    go : (b : Bool) → (b || true) ≡ true
    go true = refl
    go false = refl

point_at : (extents : List ℕ) (sizes : List ℤ) (forms : List Form) (points : List AlignPoint) (k : ℕ) (p : AlignPoint) → points_right extents forms sizes points ≡ true → slice_get points k ≡ Some p →
    point_fits extents (distributes (slice_get forms k)) (slice_get sizes k) p ≡ true
point_at extents sizes forms points k p h e = all_here (λ x. point_fits extents (distributes (slice_get forms x.0)) (slice_get sizes x.0) x.1) points k p h e

star_spread : (extents : List ℕ) (b : Bool) (size : Option ℤ) → point_fits extents b size point.Star ≡ true → b ≡ false
star_spread extents b None h = cc
star_spread extents false (Some z) h = refl
star_spread extents true (Some z) h = cc

dimension_there : (extents : List ℕ) (b : Bool) (size : Option ℤ) (d : ℕ) (o : ℤ) → point_fits extents b size (point.Dummy d o) ≡ true → d < length extents
dimension_there extents b None d o h = absurd (cc)
dimension_there extents b (Some z) d o h = go (slice_get extents d) refl h
  where
    go : (x : Option ℕ) → slice_get extents d ≡ x → reaches z o x ≡ true → d < length extents
    go None e k = absurd (cc)
    go (Some n) e k = slice_get_within extents d n e

dimension_ok : (extents : List ℕ) (sizes : List ℤ) (forms : List Form) (points : List AlignPoint) (ws : List (ℕ × ℕ)) (ss : List SpreadDim) (k : ℕ) (s : SpreadDim) →
    RightPoints extents sizes forms points → Spreads sizes forms ss → length extents ≤ 3 → length ws ≡ length extents → slice_get ss k ≡ Some s →
    name_ok (named (aligned_dims extents (targets extents points) ws) k) s.dim.dist ≡ true
dimension_ok extents sizes forms points ws ss k s r made few h e = go (slice_get points k) refl
  where
    short : length forms ≤ 3
    short = let n = at_most_three (length points) r.few in let m = r.as_forms in omega arith

    times : named (aligned_dims extents (targets extents points) ws) k ≡ count_in (λ e. names (target_from e 0 points).dim k) 0 extents
    times = named_times points k extents ws few h

    spread : s.dim.dist ≡ made_or_whole (slice_get forms k)
    spread = dist_at sizes forms ss k s made short e

    go : (o : Option AlignPoint) → slice_get points k ≡ o → name_ok (named (aligned_dims extents (targets extents points) ws) k) s.dim.dist ≡ true
    go None p =
        let no : (d : ℕ) (o : ℤ) → slice_get points k ≡ Some (point.Dummy d o) → ⊥ = λ d o q. none-some (point.Dummy d o) (sym p ∙ q) in
        let past : length forms ≤ k = let m = r.as_forms in let l = past_end points k p in omega arith in
        unnamed_ok (named (aligned_dims extents (targets extents points) ws) k) s.dim.dist (times ∙ (count_same (λ e. names (target_from e 0 points).dim k) (λ e. false) 0 extents (λ e. named_by_none points k e no) ∙ count_none 0 extents))
        (ap is_whole (spread ∙ ap made_or_whole (slice_get_past forms k past)))
    go (Some point.Star) p =
        let no : (d : ℕ) (o : ℤ) → slice_get points k ≡ Some (point.Dummy d o) → ⊥ = λ d o q. star_not d o (sym p ∙ q) in
        unnamed_ok (named (aligned_dims extents (targets extents points) ws) k) s.dim.dist (times ∙ (count_same (λ e. names (target_from e 0 points).dim k) (λ e. false) 0 extents (λ e. named_by_none points k e no) ∙ count_none 0 extents))
        (ap is_whole spread ∙ undistributed (slice_get forms k) (star_spread extents (distributes (slice_get forms k)) (slice_get sizes k) (point_at extents sizes forms points k point.Star r.fit p)))
    go (Some (point.Dummy d o)) p =
        let there : d < length extents = dimension_there extents (distributes (slice_get forms k)) (slice_get sizes k) d o (point_at extents sizes forms points k (point.Dummy d o) r.fit p) in
        named_ok (named (aligned_dims extents (targets extents points) ws) k) s.dim.dist (times ∙ (count_same (λ e. names (target_from e 0 points).dim k) (λ e. d == e) 0 extents (λ e. named_by points k e d o r.different p) ∙ count_one d 0 extents (omega arith) (omega arith)))

names_all : (ls : List AlignedDim) (ss : List SpreadDim) (k : ℕ) → ((i : ℕ) (s : SpreadDim) → slice_get ss i ≡ Some s → name_ok (named ls (k + i)) s.dim.dist ≡ true) → names_fit ls ss k ≡ true
names_all ls [] k h = refl
names_all ls (s ∷ ss) k h =
    let z : k + 0 ≡ k = omega arith in
    both_true (name_ok (named ls k) s.dim.dist) _ (subst (λ n. name_ok (named ls n) s.dim.dist ≡ true) z (h 0 s refl))
    (names_all ls ss (k + 1) (λ i t e. let j : k + suc i ≡ k + 1 + i = omega arith in subst (λ n. name_ok (named ls n) t.dim.dist ≡ true) j (h (suc i) t e)))

pub names_right : (extents : List ℕ) (sizes : List ℤ) (forms : List Form) (points : List AlignPoint) (ws : List (ℕ × ℕ)) (ss : List SpreadDim) →
    RightPoints extents sizes forms points → Spreads sizes forms ss → length extents ≤ 3 → length ws ≡ length extents → names_fit (aligned_dims extents (targets extents points) ws) ss 0 ≡ true
names_right extents sizes forms points ws ss r made few h =
    names_all (aligned_dims extents (targets extents points) ws) ss 0 (λ i s e. subst (λ n. name_ok (named (aligned_dims extents (targets extents points) ws) n) s.dim.dist ≡ true) (from_0 i) (dimension_ok extents sizes forms points ws ss i s r made few h e))
  where
    from_0 : (i : ℕ) → i ≡ 0 + i
    from_0 i = omega arith

-- ---- a dimension of the array

-- A test of each dimension of an array, by its place.
pub all_dims : (p : AlignedDim → Bool) (points : List AlignPoint) (j : ℕ) (extents : List ℕ) (ws : List (ℕ × ℕ)) → length ws ≡ length extents →
    ((i x : ℕ) (w : ℕ × ℕ) → slice_get extents i ≡ Some x → slice_get ws i ≡ Some w → p (aligned_dim x (target_from (j + i) 0 points) w) ≡ true) →
    list_all p (dims_of extents (targets_from j extents points) ws) ≡ true
all_dims p points j [] ws h t = refl
all_dims p points j (x ∷ xs) [] h t = absurd (omega arith)
all_dims p points j (x ∷ xs) (w ∷ ws) h t =
    let z : j + 0 ≡ j = omega arith in
    both_true (p (aligned_dim x (target_from j 0 points) w)) _ (subst (λ n. p (aligned_dim x (target_from n 0 points) w) ≡ true) z (t 0 x w refl refl))
    (all_dims p points (j + 1) xs ws (omega arith)
    (λ i y v e f. let m : j + suc i ≡ j + 1 + i = omega arith in subst (λ n. p (aligned_dim y (target_from n 0 points) v) ≡ true) m (t (suc i) y v e f)))

inside_of : (x m : ℕ) (z : ℤ) (size : ℕ) → int_le (pos m +ℤ pos x) z ≡ true → size ≡ natural z → nat_le (x + m) size ≡ true
inside_of x m (pos n) size h e =
    let le : m + x ≤ n = leb-true (m + x) n h in
    le-leb (x + m) size (omega arith)
inside_of x m (negsuc n) size h e = cc

reaches_inside : (o z : ℤ) (x : ℕ) (s : SpreadDim) → reaches z o (Some x) ≡ true → s.dim.size ≡ natural z → positions_fit o x (Some s) ≡ true
reaches_inside (pos m) z x s h e = inside_of x m z s.dim.size (right_true (int_le (pos 0) (pos m)) _ h) e
reaches_inside (negsuc m) z x s h e = cc

position_ok : (extents : List ℕ) (sizes : List ℤ) (ss : List SpreadDim) (forms : List Form) (k d x : ℕ) (o : ℤ) (b : Bool) → Spreads sizes forms ss → length sizes ≤ 3 → slice_get extents d ≡ Some x →
    point_fits extents b (slice_get sizes k) (point.Dummy d o) ≡ true → (nat_lt k (length sizes) && positions_fit o x (slice_get ss k)) ≡ true
position_ok extents sizes ss forms k d x o b made few e h = go (slice_get sizes k) refl h
  where
    go : (size : Option ℤ) → slice_get sizes k ≡ size → point_fits extents b size (point.Dummy d o) ≡ true → (nat_lt k (length sizes) && positions_fit o x (slice_get ss k)) ≡ true
    go None q p = absurd (cc)
    go (Some z) q p =
        let there = mapped (λ s. s.dim.size) ss k (natural z) (ap (λ l. slice_get l k) made.sizes ∙ filled_get natural 1 sizes k z few q) in
        let reach : reaches z o (Some x) ≡ true = subst (λ n. reaches z o n ≡ true) e p in
        both_true (nat_lt k (length sizes)) _ (lt-ltb k (length sizes) (slice_get_within sizes k z q))
        (subst (λ s. positions_fit o x s ≡ true) (sym there.1) (reaches_inside o z x there.0 reach there.2))

target_ok : (extents : List ℕ) (sizes : List ℤ) (forms : List Form) (points : List AlignPoint) (ss : List SpreadDim) (i x : ℕ) (w : ℕ × ℕ) →
    RightPoints extents sizes forms points → Spreads sizes forms ss → slice_get extents i ≡ Some x → is_target (length sizes) ss (aligned_dim x (target_from i 0 points) w) ≡ true
target_ok extents sizes forms points ss i x w r made e =
    ⊎_elim (λ u. ap (λ t. target_fits (length sizes) ss t.dim t.offset x) u.0) (λ n. ap (λ t. target_fits (length sizes) ss t.dim t.offset x) n.is ∙ fits n) (found i 0 points)
  where
    few : length sizes ≤ 3
    few = let n = at_most_three (length points) r.few in let m = r.as_sizes in omega arith

    fits : (n : Named i 0 points (target_from i 0 points)) → (nat_lt (0 + n.place) (length sizes) && positions_fit n.offset x (slice_get ss (0 + n.place))) ≡ true
    fits n =
        let z : n.place ≡ 0 + n.place = omega arith in
        subst (λ k. (nat_lt k (length sizes) && positions_fit n.offset x (slice_get ss k)) ≡ true) z
        (position_ok extents sizes ss forms n.place i x n.offset (distributes (slice_get forms n.place)) made few e (point_at extents sizes forms points n.place (point.Dummy i n.offset) r.fit n.at))

pub targets_right : (extents : List ℕ) (sizes : List ℤ) (forms : List Form) (points : List AlignPoint) (ws : List (ℕ × ℕ)) (ss : List SpreadDim) →
    RightPoints extents sizes forms points → Spreads sizes forms ss → length ws ≡ length extents →
    list_all (is_target (length sizes) ss) (aligned_dims extents (targets extents points) ws) ≡ true
targets_right extents sizes forms points ws ss r made h =
    all_filled (is_target (length sizes) ss) unused (dims_of extents (targets extents points) ws) refl
    (all_dims (is_target (length sizes) ss) points 0 extents ws h (λ i x w e f. let z : i ≡ 0 + i = omega arith in subst (λ n. is_target (length sizes) ss (aligned_dim x (target_from n 0 points) w) ≡ true) z (target_ok extents sizes forms points ss i x w r made e)))
