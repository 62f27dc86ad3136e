-- Which tuples of a loop directive a node owns.
use Rattle.std.proofs.Common.{◌≡◌, ◌<◌, ◌+◌, ◌==◌, ◌||◌, if◌then◌else◌, ℕ, zero, suc, ℤ, pos, ◌+ℤ◌, Bool, true, false, true≢false, List, [], ◌∷◌, length, map, Option, Some, None, refl, sym, subst, ap, ◌∙◌, arith, eqb-true}
use Rattle.std.specs.Prelude.{slice_get, slice_set, unwrap_or, is_some, cond}
use Rattle.std.specs.List.{AllByRecursion, list_all, flat_map, filter}
use Rattle.std.proofs.lemmas.Bool.{ltb-true}
use Rattle.std.proofs.lemmas.Option.{slice_get_within, none-some, same_Some}
use Rattle.xmp_map.specs.declared.template.Template.{Template}
use Rattle.xmp_map.specs.declared.grid.Grid.{Grid}
use Rattle.xmp_map.specs.RowMajor.{product, unravel}
use Rattle.xmp_map.specs.Spread.{owns_point}
use Rattle.xmp_map.proofs.Counted.{and_left, and_right}
use Rattle.xmp_prog.specs.declared.parts.ProgParts.{ProgParts}
use Rattle.xmp_prog.specs.declared.statements.LoopDirective.{LoopDirective}
use Rattle.xmp_prog.specs.declared.statements.Point.{Point}
use Rattle.xmp_prog.specs.declared.statements.Point.TheVariants as point
use Rattle.xmp_prog.specs.Numbers.{is_in}
use Rattle.xmp_prog.specs.Directives.{dim_count, names_template, has_points, indices_of_nest}
use Rattle.xmp_prog.specs.Fits.{node_count, PartsFit}
use Rattle.xmp_prog.specs.Statements.{indices_of, slots_of_point}
use Rattle.xmp_meaning.specs.Runs.{State}
use Rattle.xmp_meaning.specs.Parts.{position_at, owns_positions, owns_iteration}
use Rattle.xmp_meaning.specs.Exchanges.{raised}
use Rattle.xmp_meaning_laws.specs.Laws.{OneOwner}
use Rattle.xmp_meaning_laws.specs.Tuples.{set_where, at_tuple, value_in, position_in, owns_tuple}
use Rattle.xmp_meaning_laws.proofs.Nests.{Exists}
use Rattle.xmp_meaning_laws.proofs.CountedLoops.{set_there}
use Rattle.xmp_meaning_laws.proofs.Settings.{Apart, where_other, fresh_flipped}
use Rattle.xmp_meaning_laws.proofs.Owners as owners
use Rattle.xmp_nodes.specs.Nodes.{bounded, raised_by}
use Rattle.xmp_nodes.proofs.Each.{there}
use Rattle.xmp_nodes.proofs.Saying.{bounded_on}
use Rattle.xmp_nodes.proofs.Turns.{Owner, there_set}

-- ---- the point of a tuple

pub value_at : (slots : List ℕ) (vs xs : List ℤ) (slot : ℕ) → Apart slots → length vs ≡ length slots
    → AllByRecursion (λ i. is_some (slice_get xs i) ≡ true) slots → is_in slots slot ≡ true
    → unwrap_or (slice_get (set_where slots (map Some vs) xs) slot) (pos 0) ≡ value_in slots vs slot
value_at [] vs xs slot f l there e = absurd (true≢false (sym e))
value_at (i ∷ slots) [] xs slot f l there e = absurd (omega (arith, l))
value_at (i ∷ slots) (v ∷ vs) xs slot f l there e =
    at_test (value_at slots vs (slice_set xs i v) slot f.1 (let m : length vs ≡ length slots = omega (arith, l) in m) (there_set xs i v slots there.1)) (i == slot) refl
  where
    at_test : (is_in slots slot ≡ true → unwrap_or (slice_get (set_where slots (map Some vs) (slice_set xs i v)) slot) (pos 0) ≡ value_in slots vs slot)
        → (b : Bool) → (i == slot) ≡ b → unwrap_or (slice_get (set_where slots (map Some vs) (slice_set xs i v)) slot) (pos 0) ≡ (if b then v else value_in slots vs slot)
    at_test rest true g =
        ap (λ n. unwrap_or (slice_get (set_where slots (map Some vs) (slice_set xs i v)) n) (pos 0)) (sym (eqb-true i slot g))
        ∙ ap (λ o. unwrap_or o (pos 0)) (where_other slots (map Some vs) (slice_set xs i v) i (fresh_flipped i slots f.0) ∙ set_there xs i v there.0)
    at_test rest false g = rest (ap (λ b. b || is_in slots slot) (sym g) ∙ e)

positions_are : (slots : List ℕ) (vs xs : List ℤ) (points : List Point) → Apart slots → length vs ≡ length slots
    → AllByRecursion (λ i. is_some (slice_get xs i) ≡ true) slots → list_all (is_in slots) (flat_map slots_of_point points) ≡ true
    → map (position_at (set_where slots (map Some vs) xs)) points ≡ map (position_in slots vs) points
positions_are slots vs xs [] f l there e = refl
positions_are slots vs xs (point.Any ∷ points) f l there e = ap (λ zs. pos 0 ∷ zs) (positions_are slots vs xs points f l there e)
positions_are slots vs xs (point.Index slot offset ∷ points) f l there e =
    ap (λ z. (z +ℤ offset) ∷ map (position_at (set_where slots (map Some vs) xs)) points)
    (value_at slots vs xs slot f l there (and_left (is_in slots slot) (list_all (is_in slots) (flat_map slots_of_point points)) e))
    ∙ ap (λ zs. (value_in slots vs slot +ℤ offset) ∷ zs)
    (positions_are slots vs xs points f l there (and_right (is_in slots slot) (list_all (is_in slots) (flat_map slots_of_point points)) e))

-- whether a node owns the iteration of a state at a tuple is known from the tuple
pub owns_at_tuple : {X : Type 0} (p : ProgParts) (d : LoopDirective) (node : ℕ) (vs : List ℤ) (s : State X) → indices_of_nest d ≡ true → Apart (indices_of d.nest)
    → length vs ≡ length (indices_of d.nest) → Exists s (indices_of d.nest)
    → owns_iteration p d node (at_tuple (indices_of d.nest) vs s) ≡ owns_tuple p d node vs
owns_at_tuple p d node vs s within f l there =
    ap (owns_positions p node (slice_get p.templates d.template)) (positions_are (indices_of d.nest) vs s.scalars d.points f l there within)

-- ---- the owner of a tuple

pub all_at : {A : Type 0} (P : A → Type 0) (xs : List A) (k : ℕ) (x : A) → AllByRecursion P xs → slice_get xs k ≡ Some x → P x
all_at P [] k x h e = absurd (omega (arith, slice_get_within [] k x e))
all_at P (y ∷ xs) zero x h e = subst P (same_Some y x e) h.0
all_at P (y ∷ xs) (suc k) x h e = all_at P xs k x h.1 e

points_length : (f : Point → ℤ) (points : List Point) → length (map f points) ≡ length points
points_length f [] = refl
points_length f (q ∷ points) = ap suc (points_length f points)

module _ (p : ProgParts) (fits : PartsFit p) (d : LoopDirective) (named : names_template p d ≡ true) (pointed : has_points p d ≡ true) where
  owner_of : (vs : List ℤ) (t : Option Template) → slice_get p.templates d.template ≡ t → (length d.points == dim_count t) ≡ true
      → Owner (node_count p) (λ node ws. owns_positions p node t (map (position_in (indices_of d.nest) ws) d.points)) vs
  owner_of vs None e l = let t = there p.templates d.template (ltb-true d.template (length p.templates) named) in absurd (none-some t.0 (sym e ∙ t.1))
  owner_of vs (Some t) e l =
      let grid : t.grid ≡ p.grid = all_at (λ t. t.grid ≡ p.grid) p.templates d.template t fits.mappings.templates e in
      let one : OneOwner t (map (position_in (indices_of d.nest) vs) d.points) =
      owners.points_have_owners t (map (position_in (indices_of d.nest) vs) d.points)
      (points_length (position_in (indices_of d.nest) vs) d.points ∙ eqb-true (length d.points) t.dims l) in record {
        node = one.node;
        below = subst (λ (g : Grid). one.node < product g.sizes) grid one.below;
        owns_it = subst (λ (g : Grid). owns_point (unravel g.sizes one.node) t.spread (map (position_in (indices_of d.nest) vs) d.points) ≡ true) grid one.owns;
        alone = λ k b ne.
            other (owns_point (unravel p.grid.sizes k) t.spread (map (position_in (indices_of d.nest) vs) d.points)) (λ h.
            ne (one.only k (subst (λ (g : Grid). k < product g.sizes) (sym grid) b)
            (subst (λ (g : Grid). owns_point (unravel g.sizes k) t.spread (map (position_in (indices_of d.nest) vs) d.points) ≡ true) (sym grid) h)));
      }
    where
      other : (b : Bool) → (b ≡ true → ⊥) → b ≡ false
      other true h = absurd (h refl)
      other false h = refl

  -- exactly one node owns a tuple
  pub owner : (vs : List ℤ) → Owner (node_count p) (owns_tuple p d) vs
  owner vs = owner_of vs (slice_get p.templates d.template) refl pointed

-- ---- turns

-- each of a list with what a function adds to it by its number
abbrev pub added_by : (ℕ → ℕ) → (at : ℕ) → List ℕ → List ℕ
added_by more at [] = []
added_by more at (n ∷ ns) = (n + more at) ∷ added_by more (suc at) ns

-- up to the greatest number it is the same
pub bounded_added : (more : ℕ → ℕ) (a : ℕ) (ns : List ℕ) → raised_by more a (map bounded ns) ≡ map bounded (added_by more a ns)
bounded_added more a [] = refl
bounded_added more a (n ∷ ns) = ap (λ m. m ∷ raised_by more (suc a) (map bounded ns)) (bounded_on n (more a)) ∙ ap (λ l. bounded (n + more a) ∷ l) (bounded_added more (suc a) ns)

-- how many of the tuples a node owns
abbrev pub owned_count : ProgParts → LoopDirective → List (List ℤ) → ℕ → ℕ
owned_count p d ts node = length (filter (owns_tuple p d node) ts)

-- one turn is counted, and then the others
raised_first : (test : ℕ → Bool) (more whole : ℕ → ℕ) → ((node : ℕ) → whole node ≡ (if test node then suc (more node) else more node))
    → (node : ℕ) (ns : List ℕ) → added_by more node (raised test node ns) ≡ added_by whole node ns
raised_first test more whole h node [] = refl
raised_first test more whole h node (n ∷ ns) =
    ap (λ m. m ∷ added_by more (suc node) (raised test (suc node) ns)) (at_test (test node) (h node)) ∙ ap (λ l. (n + whole node) ∷ l) (raised_first test more whole h (suc node) ns)
  where
    at_test : (b : Bool) → whole node ≡ (if b then suc (more node) else more node) → (if b then suc n else n) + more node ≡ n + whole node
    at_test true e = let q : suc n + more node ≡ n + suc (more node) = omega arith in q ∙ ap (λ w. n + w) (sym e)
    at_test false e = ap (λ w. n + w) (sym e)

count_first : (p : ProgParts) (d : LoopDirective) (vs : List ℤ) (ts : List (List ℤ)) (node : ℕ)
    → owned_count p d (vs ∷ ts) node ≡ (if owns_tuple p d node vs then suc (owned_count p d ts node) else owned_count p d ts node)
count_first p d vs ts node = at_test (owns_tuple p d node vs)
  where
    at_test : (b : Bool) → length (cond b (vs ∷ filter (owns_tuple p d node) ts) (filter (owns_tuple p d node) ts)) ≡ (if b then suc (owned_count p d ts node) else owned_count p d ts node)
    at_test true = refl
    at_test false = refl

pub turn_counted : (p : ProgParts) (d : LoopDirective) (vs : List ℤ) (ts : List (List ℤ)) (ns : List ℕ)
    → added_by (owned_count p d ts) 0 (raised (λ node. owns_tuple p d node vs) 0 ns) ≡ added_by (owned_count p d (vs ∷ ts)) 0 ns
turn_counted p d vs ts ns = raised_first (λ node. owns_tuple p d node vs) (owned_count p d ts) (owned_count p d (vs ∷ ts)) (count_first p d vs ts) 0 ns

pub none_counted : (p : ProgParts) (d : LoopDirective) (node : ℕ) (ns : List ℕ) → added_by (owned_count p d []) node ns ≡ ns
none_counted p d node [] = refl
none_counted p d node (n ∷ ns) = ap (λ m. m ∷ added_by (owned_count p d []) (suc node) ns) (let q : n + 0 ≡ n = omega arith in q) ∙ ap (λ l. n ∷ l) (none_counted p d (suc node) ns)

pub raised_same : (f g : ℕ → ℕ) (a : ℕ) (ns : List ℕ) → ((k : ℕ) → k < length ns → f (a + k) ≡ g (a + k)) → raised_by f a ns ≡ raised_by g a ns
raised_same f g a [] h = refl
raised_same f g a (n ∷ ns) h =
    let here : f a ≡ g a = (let z : a ≡ a + 0 = omega arith in ap f z ∙ h 0 (omega arith) ∙ ap g (sym z)) in
    ap (λ m. bounded (n + m) ∷ raised_by f (suc a) ns) here
    ∙ ap (λ l. bounded (n + g a) ∷ l) (raised_same f g (suc a) ns (λ k b. let z : suc a + k ≡ a + suc k = omega arith in ap f z ∙ h (suc k) (omega (arith, b)) ∙ ap g (sym z)))
