-- Which point of a template names a dimension of an array, where no dimension stands in two points.
use Rattle.std.proofs.Common.{◌≡◌, ◌<◌, ◌∙◌, ◌⊎◌, inl, inr, ⊎_elim, sym, ap, refl, subst, ◌++◌, ◌∷◌, [], ◌+◌, ℕ, zero, suc, ℤ, Bool, true, false, List, Option, Some, None, arith, length, get_or, take, eq-eqb, eqb-true, true≢false}
use Rattle.std.specs.Prelude.{slice_get, is_some, ◌==◌, if◌then◌else◌}
use Rattle.std.specs.List.{flat_map, enumerate_from}
use Rattle.std.proofs.lemmas.Bool.{cases_lt}
use Rattle.std.proofs.lemmas.Option.{same_Some, none-some, slice_get-get_or}
use Rattle.std.proofs.lemmas.List.Quantifiers.{position-Some}
use Rattle.xmp_map.specs.declared.aligned.Target.{Target}
use Rattle.xmp_map.specs.Align.{names}
use Rattle.xmp_names.specs.declared.mappings.AlignPoint.{AlignPoint}
use Rattle.xmp_names.specs.declared.mappings.AlignPoint.TheVariants as point
use Rattle.xmp_names.specs.declared.mappings.Form.{Form}
use Rattle.xmp_mapping_rules.specs.Numbers.{first_place, is_at}
use Rattle.xmp_mapping_rules.specs.MappingRules.{all_different, dimension_in, dimensions_in, interval_dimension, spans_intervals}
use Rattle.xmp_parts.specs.Parts.{no_target, target_at, target_from}
use Rattle.xmp_parts.proofs.Unbroken.{all_here}

differ : (c d : ℕ) → (c == d) ≡ false → c ≡ d → ⊥
differ c d h e = true≢false (sym (eq-eqb c d e) ∙ h)

-- ---- a dimension has one point

dims_at : (points : List AlignPoint) (k d : ℕ) (o : ℤ) → slice_get points k ≡ Some (point.Dummy d o) → slice_get (dimensions_in points) (length (dimensions_in (take k points))) ≡ Some d
dims_at [] k d o e = absurd (none-some (point.Dummy d o) e)
dims_at (p ∷ ps) zero d o e = subst (λ q. slice_get (dimensions_in (q ∷ ps)) 0 ≡ Some d) (sym (same_Some p (point.Dummy d o) e)) refl
dims_at (point.Star ∷ ps) (suc k) d o e = dims_at ps k d o e
dims_at (point.Dummy c q ∷ ps) (suc k) d o e = dims_at ps k d o e

-- Of two points the later one has more dimensions before it.
more_before : (points : List AlignPoint) (i k d : ℕ) (o : ℤ) → i < k → slice_get points i ≡ Some (point.Dummy d o) → length (dimensions_in (take i points)) < length (dimensions_in (take k points))
more_before points i zero d o h e = absurd (omega arith)
more_before [] i (suc k) d o h e = absurd (none-some (point.Dummy d o) e)
more_before (p ∷ ps) zero (suc k) d o h e = subst (λ q. 0 < length (dimensions_in (q ∷ take k ps))) (sym (same_Some p (point.Dummy d o) e)) (omega arith)
more_before (point.Star ∷ ps) (suc i) (suc k) d o h e = more_before ps i k d o (omega arith) e
more_before (point.Dummy c q ∷ ps) (suc i) (suc k) d o h e = let r = more_before ps i k d o (omega arith) e in omega arith

is_at_place : (i : ℕ) (o : Option ℕ) → is_at i o ≡ true → o ≡ Some i
is_at_place i None h = cc
is_at_place i (Some j) h = ap Some (eqb-true j i h)

first_here : (ds : List ℕ) (i d : ℕ) → all_different ds ≡ true → slice_get ds i ≡ Some d → first_place d ds ≡ Some i
first_here ds i d h e = is_at_place i (first_place d ds) (all_here (λ x. is_at x.0 (first_place x.1 ds)) ds i d h e)

pub unique : (points : List AlignPoint) (i k d : ℕ) (o q : ℤ) → all_different (dimensions_in points) ≡ true → slice_get points i ≡ Some (point.Dummy d o) → slice_get points k ≡ Some (point.Dummy d q) → i ≡ k
unique points i k d o q h e f =
    let a : first_place d (dimensions_in points) ≡ Some (length (dimensions_in (take i points))) = first_here (dimensions_in points) _ d h (dims_at points i d o e) in
    let b : first_place d (dimensions_in points) ≡ Some (length (dimensions_in (take k points))) = first_here (dimensions_in points) _ d h (dims_at points k d q f) in
    let same : length (dimensions_in (take i points)) ≡ length (dimensions_in (take k points)) = same_Some _ _ (sym a ∙ b) in
    ⊎_elim (λ lt. let r = more_before points i k d o lt e in absurd (omega arith))
    (λ le. ⊎_elim (λ lt. let r = more_before points k i d q lt f in absurd (omega arith)) (λ ge. omega arith) (cases_lt k i)) (cases_lt i k)

-- ---- the target of a dimension

-- No point names the dimension, or its target is the first that does.
pub record Named (d j : ℕ) (points : List AlignPoint) (t : Target) : Type 0 where
  pub place : ℕ
  pub offset : ℤ
  pub at : slice_get points place ≡ Some (point.Dummy d offset)
  pub is : t ≡ target_at (j + place) offset

abbrev pub Unnamed : ℕ → List AlignPoint → Target → Type 0
Unnamed d points t = (t ≡ no_target) × ((i : ℕ) (o : ℤ) → slice_get points i ≡ Some (point.Dummy d o) → ⊥)

pub star_not : (d : ℕ) (o : ℤ) → Some point.Star ≡ Some (point.Dummy d o) → ⊥
star_not d o e = cc

abbrev dim_in : ℕ → Option AlignPoint → ℕ
dim_in c (Some (point.Dummy d o)) = d
dim_in c _ = c

dimension_of : (c d : ℕ) (q o : ℤ) → Some (point.Dummy c q) ≡ Some (point.Dummy d o) → c ≡ d
dimension_of c d q o e = ap (dim_in c) e

pub found : (d j : ℕ) (points : List AlignPoint) → Unnamed d points (target_from d j points) ⊎ Named d j points (target_from d j points)
found d j [] = inl (refl, λ i o e. none-some (point.Dummy d o) e)
found d j (point.Star ∷ ps) = ⊎_elim (λ u. inl (u.0, star d ps u.1)) (λ n. inr (later n)) (found d (j + 1) ps)
  where
    star : (d : ℕ) (ps : List AlignPoint) → ((i : ℕ) (o : ℤ) → slice_get ps i ≡ Some (point.Dummy d o) → ⊥) → (i : ℕ) (o : ℤ) → slice_get (point.Star ∷ ps) i ≡ Some (point.Dummy d o) → ⊥
    star d ps u zero o e = star_not d o e
    star d ps u (suc i) o e = u i o e

    later : Named d (j + 1) ps (target_from d (j + 1) ps) → Named d j (point.Star ∷ ps) (target_from d (j + 1) ps)
    later n =
        let e : j + 1 + n.place ≡ j + suc n.place = omega arith in
        record { place = suc n.place; offset = n.offset; at = n.at; is = n.is ∙ ap (λ m. target_at m n.offset) e }
found d j (point.Dummy c q ∷ ps) = at (found d (j + 1) ps) (c == d) refl
  where
    other : (c == d) ≡ false → ((i : ℕ) (o : ℤ) → slice_get ps i ≡ Some (point.Dummy d o) → ⊥) → (i : ℕ) (o : ℤ) → slice_get (point.Dummy c q ∷ ps) i ≡ Some (point.Dummy d o) → ⊥
    other ne u zero o e = differ c d ne (dimension_of c d q o e)
    other ne u (suc i) o e = u i o e

    later : Named d (j + 1) ps (target_from d (j + 1) ps) → Named d j (point.Dummy c q ∷ ps) (target_from d (j + 1) ps)
    later n =
        let e : j + 1 + n.place ≡ j + suc n.place = omega arith in
        record { place = suc n.place; offset = n.offset; at = n.at; is = n.is ∙ ap (λ m. target_at m n.offset) e }

    at : Unnamed d ps (target_from d (j + 1) ps) ⊎ Named d (j + 1) ps (target_from d (j + 1) ps) → (b : Bool) → (c == d) ≡ b → Unnamed d (point.Dummy c q ∷ ps) (if b then target_at j q else target_from d (j + 1) ps) ⊎ Named d j (point.Dummy c q ∷ ps) (if b then target_at j q else target_from d (j + 1) ps)
    at rest true e =
        let z : j ≡ j + 0 = omega arith in
        inr (record { place = 0; offset = q; at = ap (λ n. Some (point.Dummy n q)) (eqb-true c d e); is = ap (λ m. target_at m q) z })
    at rest false e = ⊎_elim (λ u. inl (u.0, other e u.1)) (λ n. inr (later n)) rest

-- ---- the dimensions that name a dimension of the template

-- A point with a dimension is named by that dimension alone.
pub named_by : (points : List AlignPoint) (k e d : ℕ) (o : ℤ) → all_different (dimensions_in points) ≡ true → slice_get points k ≡ Some (point.Dummy d o) →
    names (target_from e 0 points).dim k ≡ (d == e)
named_by points k e d o h at =
    ⊎_elim (λ u. ap (λ t. names t.dim k) u.0 ∙ sym (unnamed u.1 (d == e) refl)) (λ n. ap (λ t. names t.dim k) n.is ∙ by n (d == e) refl) (found e 0 points)
  where
    unnamed : ((i : ℕ) (o : ℤ) → slice_get points i ≡ Some (point.Dummy e o) → ⊥) → (b : Bool) → (d == e) ≡ b → (d == e) ≡ false
    unnamed u false p = p
    unnamed u true p = absurd (u k o (at ∙ ap (λ n. Some (point.Dummy n o)) (eqb-true d e p)))

    by : (n : Named e 0 points (target_from e 0 points)) → (b : Bool) → (d == e) ≡ b → ((0 + n.place) == k) ≡ (d == e)
    by n true p =
        let same : n.place ≡ k = unique points n.place k e n.offset o h n.at (at ∙ ap (λ m. Some (point.Dummy m o)) (eqb-true d e p)) in
        eq-eqb (0 + n.place) k (omega arith) ∙ sym p
    by n false p = apart ((0 + n.place) == k) refl
      where
        apart : (b : Bool) → ((0 + n.place) == k) ≡ b → ((0 + n.place) == k) ≡ (d == e)
        apart false q = q ∙ sym p
        apart true q =
            let same : n.place ≡ k = let r = eqb-true (0 + n.place) k q in omega arith in
            absurd (differ d e p (dimension_of d e o n.offset (sym at ∙ (ap (slice_get points) (sym same) ∙ n.at))))

-- A point without one isn't named.
pub named_by_none : (points : List AlignPoint) (k e : ℕ) → ((d : ℕ) (o : ℤ) → slice_get points k ≡ Some (point.Dummy d o) → ⊥) → names (target_from e 0 points).dim k ≡ false
named_by_none points k e absent = ⊎_elim (λ u. ap (λ t. names t.dim k) u.0) (λ n. ap (λ t. names t.dim k) n.is ∙ apart n ((0 + n.place) == k) refl) (found e 0 points)
  where
    apart : (n : Named e 0 points (target_from e 0 points)) → (b : Bool) → ((0 + n.place) == k) ≡ b → ((0 + n.place) == k) ≡ false
    apart n false q = q
    apart n true q =
        let same : n.place ≡ k = let r = eqb-true (0 + n.place) k q in omega arith in
        absurd (absent e n.offset (ap (slice_get points) (sym same) ∙ n.at))

-- ---- the dimensions that may have a shadow

member : (d : ℕ) (ds : List ℕ) (o : Option ℕ) → first_place d ds ≡ o → is_some o ≡ true → (n : ℕ) × (slice_get ds n ≡ Some d)
member d ds None p h = absurd (cc)
member d ds (Some i) p h =
    let q = position-Some (λ n. n == d) ds i 0 p in
    (i, slice_get-get_or ds i 0 q.0 ∙ ap Some (eqb-true (get_or ds i 0) d q.1))

-- A point with this dimension over a form with intervals.
pub record Chunked (forms : List Form) (points : List AlignPoint) (j d : ℕ) : Type 0 where
  pub place : ℕ
  pub offset : ℤ
  pub at : slice_get points place ≡ Some (point.Dummy d offset)
  pub spans : spans_intervals (slice_get forms (j + place)) ≡ true

abbrev Lists : List Form → List AlignPoint → ℕ → ℕ → Type 0
Lists forms points j d = (n : ℕ) → slice_get (flat_map (interval_dimension forms) (enumerate_from j points)) n ≡ Some d → Chunked forms points j d

next_point : (forms : List Form) (p : AlignPoint) (ps : List AlignPoint) (j d : ℕ) → Chunked forms ps (j + 1) d → Chunked forms (p ∷ ps) j d
next_point forms p ps j d c =
    let e : j + 1 + c.place ≡ j + suc c.place = omega arith in
    record { place = suc c.place; offset = c.offset; at = c.at; spans = subst (λ m. spans_intervals (slice_get forms m) ≡ true) e c.spans }

chunked : (forms : List Form) (points : List AlignPoint) (j d : ℕ) (n : ℕ) → slice_get (flat_map (interval_dimension forms) (enumerate_from j points)) n ≡ Some d → Chunked forms points j d
chunked forms [] j d n e = absurd (none-some d e)
chunked forms (p ∷ ps) j d n e = at (chunked forms ps (j + 1) d) p (spans_intervals (slice_get forms j)) refl n e
  where
    at : Lists forms ps (j + 1) d → (p : AlignPoint) (b : Bool) → spans_intervals (slice_get forms j) ≡ b → (n : ℕ) → slice_get ((if b then dimension_in p else []) ++ flat_map (interval_dimension forms) (enumerate_from (j + 1) ps)) n ≡ Some d → Chunked forms (p ∷ ps) j d
    at rest p false s n e = next_point forms p ps j d (rest n e)
    at rest point.Star true s n e = next_point forms point.Star ps j d (rest n e)
    at rest (point.Dummy c q) true s zero e =
        let z : j ≡ j + 0 = omega arith in
        record { place = 0; offset = q; at = ap (λ m. Some (point.Dummy m q)) (same_Some c d e); spans = subst (λ m. spans_intervals (slice_get forms m) ≡ true) z s }
    at rest (point.Dummy c q) true s (suc n) e = next_point forms (point.Dummy c q) ps j d (rest n e)

pub in_intervals : (forms : List Form) (points : List AlignPoint) (d : ℕ) → is_some (first_place d (flat_map (interval_dimension forms) (enumerate_from 0 points))) ≡ true → Chunked forms points 0 d
in_intervals forms points d h =
    let m = member d (flat_map (interval_dimension forms) (enumerate_from 0 points)) (first_place d (flat_map (interval_dimension forms) (enumerate_from 0 points))) refl h in
    chunked forms points 0 d m.0 m.1
