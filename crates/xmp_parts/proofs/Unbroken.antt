-- What follows of each line where no rule of mappings breaks.
use Rattle.std.proofs.Common.{◌≡◌, ◌∙◌, sym, ap, refl, subst, ◌++◌, ◌∷◌, [], ◌+◌, ◌<◌, ◌&&◌, ◌||◌, not, ℕ, zero, suc, ℤ, Bool, true, false, List, Option, Some, None, arith, length, get_or, map, eq-eqb, eqb-true}
use Rattle.std.specs.Prelude.{slice_get, is_some, ◌==◌, if◌then◌else◌}
use Rattle.std.specs.List.{flat_map, list_all, enumerate_from}
use Rattle.std.proofs.lemmas.Option.{same_Some, none-some}
use Rattle.std.proofs.lemmas.List.Quantifiers.{position-Some}
use Rattle.xmp_base.specs.declared.place.Place.{Place}
use Rattle.xmp_names.specs.declared.mappings.Align.{Align}
use Rattle.xmp_names.specs.declared.mappings.Distribution.{Distribution}
use Rattle.xmp_names.specs.declared.mappings.Form.{Form}
use Rattle.xmp_names.specs.declared.mappings.NodesLine.{NodesLine}
use Rattle.xmp_names.specs.declared.mappings.Shadow.{Shadow}
use Rattle.xmp_names.specs.declared.mappings.TemplateLine.{TemplateLine}
use Rattle.xmp_names.specs.declared.rules.Rule.{Rule}
use Rattle.xmp_names.specs.declared.rules.Rule.TheVariants.{N9, M1, M2, M3, M4, M5, M6}
use Rattle.xmp_names.specs.declared.world.World.{World}
use Rattle.xmp_names.specs.Rules.{unless}
use Rattle.xmp_mapping_rules.specs.Numbers.{first_place, is_at}
use Rattle.xmp_names.specs.Sizes.{is_extent, is_small, given_or_one, line_sizes}
use Rattle.xmp_mapping_rules.specs.MappingRules.{item_at, first_nodes, nodes_of, nodes_right, nodes_rule, nodes_rules, has_nodes, template_rule, template_rules, distribution_rule, distribution_rules, align_rule, align_rules, shadow_rule, shadow_rules, loop_rules, cell_rules, mapping_rules, distributed, shadowed, align_of, forms_in, forms_of, template_sizes, template_sizes_in, one_to_three, spread_right, forms_right, is_first_distribution, is_first_align, is_first_shadow, align_right, shadow_right}

-- ---- lists with nothing in them

pub left_none : {A : Type 0} (xs ys : List A) → xs ++ ys ≡ [] → xs ≡ []
left_none [] ys h = refl
left_none (x ∷ xs) ys h = cc

pub right_none : {A : Type 0} (xs ys : List A) → xs ++ ys ≡ [] → ys ≡ []
right_none [] ys h = h
right_none (x ∷ xs) ys h = cc

pub none_at : {A B : Type 0} (f : ℕ × A → List B) (i : ℕ) (xs : List A) (k : ℕ) (x : A) → flat_map f (enumerate_from i xs) ≡ [] → slice_get xs k ≡ Some x → f (i + k, x) ≡ []
none_at f i [] k x h e = absurd (none-some x e)
none_at f i (y ∷ ys) zero x h e =
    let j : i + 0 ≡ i = omega arith in
    ap (λ n. f (n, x)) j ∙ (ap (λ z. f (i, z)) (sym (same_Some y x e)) ∙ left_none (f (i, y)) (flat_map f (enumerate_from (i + 1) ys)) h)
none_at f i (y ∷ ys) (suc k) x h e =
    let j : i + suc k ≡ i + 1 + k = omega arith in
    ap (λ n. f (n, x)) j ∙ none_at f (i + 1) ys k x (right_none (f (i, y)) (flat_map f (enumerate_from (i + 1) ys)) h) e

pub none_here : {A B : Type 0} (f : ℕ × A → List B) (xs : List A) (k : ℕ) (x : A) → flat_map f (enumerate_from 0 xs) ≡ [] → slice_get xs k ≡ Some x → f (k, x) ≡ []
none_here f xs k x h e =
    let j : k ≡ 0 + k = omega arith in
    ap (λ n. f (n, x)) j ∙ none_at f 0 xs k x h e

-- ---- tests

pub left_true : (a b : Bool) → (a && b) ≡ true → a ≡ true
left_true true b h = refl
left_true false b h = cc

pub right_true : (a b : Bool) → (a && b) ≡ true → b ≡ true
right_true true b h = h
right_true false b h = cc

pub both_true : (a b : Bool) → a ≡ true → b ≡ true → (a && b) ≡ true
both_true true b h k = k
both_true false b h k = cc

second_true : (a b : Bool) → a ≡ true → (not a || b) ≡ true → b ≡ true
second_true true b h k = k
second_true false b h k = cc

pub all_at : {A : Type 0} (f : ℕ × A → Bool) (i : ℕ) (xs : List A) (k : ℕ) (x : A) → list_all f (enumerate_from i xs) ≡ true → slice_get xs k ≡ Some x → f (i + k, x) ≡ true
all_at f i [] k x h e = absurd (none-some x e)
all_at f i (y ∷ ys) zero x h e =
    let j : i + 0 ≡ i = omega arith in
    ap (λ n. f (n, x)) j ∙ (ap (λ z. f (i, z)) (sym (same_Some y x e)) ∙ left_true (f (i, y)) (list_all f (enumerate_from (i + 1) ys)) h)
all_at f i (y ∷ ys) (suc k) x h e =
    let j : i + suc k ≡ i + 1 + k = omega arith in
    ap (λ n. f (n, x)) j ∙ all_at f (i + 1) ys k x (right_true (f (i, y)) (list_all f (enumerate_from (i + 1) ys)) h) e

pub all_here : {A : Type 0} (f : ℕ × A → Bool) (xs : List A) (k : ℕ) (x : A) → list_all f (enumerate_from 0 xs) ≡ true → slice_get xs k ≡ Some x → f (k, x) ≡ true
all_here f xs k x h e =
    let j : k ≡ 0 + k = omega arith in
    ap (λ n. f (n, x)) j ∙ all_at f 0 xs k x h e

pub holds : (t : Bool) (rule : Rule) (at : Place) → unless t rule at ≡ [] → t ≡ true
holds true rule at h = refl
holds false rule at h = cc

-- ---- the first of several

-- The first item of a list with a number.
pub record First {A : Type 0} (f : A → ℕ) (xs : List A) (k : ℕ) (x : A) : Type 0 where
  pub place : ℕ
  pub is : first_place k (map f xs) ≡ Some place
  pub at : slice_get xs place ≡ Some x
  pub same : f x ≡ k

numbered : {A : Type 0} (f : A → ℕ) (xs : List A) (i : ℕ) (x : A) → slice_get xs i ≡ Some x → get_or (map f xs) i 0 ≡ f x
numbered f [] i x e = absurd (none-some x e)
numbered f (y ∷ ys) zero x e = ap f (same_Some y x e)
numbered f (y ∷ ys) (suc i) x e = numbered f ys i x e

first_item : {A : Type 0} (f : A → ℕ) (xs : List A) (k : ℕ) (x : A) (o : Option ℕ) → first_place k (map f xs) ≡ o → item_at xs o ≡ Some x → First f xs k x
first_item f xs k x None p e = absurd (none-some x e)
first_item f xs k x (Some i) p e =
    let q = position-Some (λ n. n == k) (map f xs) i 0 p in
    record { place = i; is = p; at = e; same = sym (numbered f xs i x e) ∙ eqb-true (get_or (map f xs) i 0) k q.1 }

pub first_of_all : {A : Type 0} (f : A → ℕ) (xs : List A) (k : ℕ) (x : A) → item_at xs (first_place k (map f xs)) ≡ Some x → First f xs k x
first_of_all f xs k x e = first_item f xs k x (first_place k (map f xs)) refl e

pub is_first : {A : Type 0} (f : A → ℕ) (xs : List A) (k : ℕ) (x : A) (r : First f xs k x) → is_at r.place (first_place (f x) (map f xs)) ≡ true
is_first f xs k x r = ap (λ n. is_at r.place (first_place n (map f xs))) r.same ∙ (ap (is_at r.place) r.is ∙ eq-eqb r.place r.place refl)

-- Where there is a first place, there is an item.
within : {A : Type 0} (f : A → ℕ) (xs : List A) (i : ℕ) → i < length (map f xs) → (x : A) × (slice_get xs i ≡ Some x)
within f [] i h = absurd (omega arith)
within f (x ∷ xs) zero h = (x, refl)
within f (x ∷ xs) (suc i) h = within f xs i (omega arith)

item_of : {A : Type 0} (f : A → ℕ) (xs : List A) (k : ℕ) (o : Option ℕ) → first_place k (map f xs) ≡ o → is_some o ≡ true → (x : A) × (item_at xs o ≡ Some x)
item_of f xs k None p h = absurd (cc)
item_of f xs k (Some i) p h = within f xs i (position-Some (λ n. n == k) (map f xs) i 0 p).0

pub some_item : {A : Type 0} (f : A → ℕ) (xs : List A) (k : ℕ) → is_some (first_place k (map f xs)) ≡ true → (x : A) × (item_at xs (first_place k (map f xs)) ≡ Some x)
some_item f xs k h = item_of f xs k (first_place k (map f xs)) refl h

-- ---- the rules, one by one

after_nodes : (w : World) → mapping_rules w ≡ [] → (template_rules w ++ (distribution_rules w ++ (align_rules w ++ (shadow_rules w ++ (loop_rules w ++ cell_rules w))))) ≡ []
after_nodes w h = right_none (nodes_rules w) _ h

after_templates : (w : World) → mapping_rules w ≡ [] → (distribution_rules w ++ (align_rules w ++ (shadow_rules w ++ (loop_rules w ++ cell_rules w)))) ≡ []
after_templates w h = right_none (template_rules w) _ (after_nodes w h)

after_distributions : (w : World) → mapping_rules w ≡ [] → (align_rules w ++ (shadow_rules w ++ (loop_rules w ++ cell_rules w))) ≡ []
after_distributions w h = right_none (distribution_rules w) _ (after_templates w h)

pub after_aligns : (w : World) → mapping_rules w ≡ [] → (shadow_rules w ++ (loop_rules w ++ cell_rules w)) ≡ []
after_aligns w h = right_none (align_rules w) _ (after_distributions w h)

pub no_cell_rule : (w : World) → mapping_rules w ≡ [] → cell_rules w ≡ []
no_cell_rule w h = right_none (loop_rules w) _ (right_none (shadow_rules w) _ (after_aligns w h))

-- A line of nodes, where no rule breaks: it is no part of another, and the first.
pub record RightLine (w : World) (k : ℕ) (l : NodesLine) : Type 0 where
  pub first : first_nodes w ≡ Some k
  pub sizes : nodes_right w.given (line_sizes (given_or_one w) l) ≡ true

is_place : (k : ℕ) (o : Option ℕ) → is_at k o ≡ true → o ≡ Some k
is_place k None h = cc
is_place k (Some j) h = ap Some (eqb-true j k h)

right_line : (w : World) (k : ℕ) (l : NodesLine) (b : Bool) →
    (if b then unless false N9 l.at else unless (is_at k (first_nodes w) && nodes_right w.given (line_sizes (given_or_one w) l)) M1 l.at) ≡ [] → RightLine w k l
right_line w k l true h = absurd (cc)
right_line w k l false h =
    let both = holds (is_at k (first_nodes w) && nodes_right w.given (line_sizes (given_or_one w) l)) M1 l.at h in
    record { first = is_place k (first_nodes w) (left_true (is_at k (first_nodes w)) _ both); sizes = right_true (is_at k (first_nodes w)) _ both }

pub line_at : (w : World) (k : ℕ) (l : NodesLine) → mapping_rules w ≡ [] → slice_get w.mappings.nodes k ≡ Some l → RightLine w k l
line_at w k l h e =
    let rules : nodes_rules w ≡ [] = left_none (nodes_rules w) _ h in
    right_line w k l l.part (none_here (nodes_rule w) w.mappings.nodes k l (left_none (flat_map (nodes_rule w) (enumerate_from 0 w.mappings.nodes)) (has_nodes (first_nodes w) w.mappings.first_directive) rules) e)

line_of : (w : World) (l : NodesLine) (o : Option ℕ) → item_at w.mappings.nodes o ≡ Some l → (k : ℕ) × (slice_get w.mappings.nodes k ≡ Some l)
line_of w l None e = absurd (none-some l e)
line_of w l (Some k) e = (k, e)

pub nodes_at : (w : World) (l : NodesLine) → mapping_rules w ≡ [] → item_at w.mappings.nodes (first_nodes w) ≡ Some l → nodes_right w.given (line_sizes (given_or_one w) l) ≡ true
nodes_at w l h e = let at = line_of w l (first_nodes w) e in (line_at w at.0 l h at.1).sizes

-- A template, its first distribution, and what is right of them.
pub record RightTemplate (nodes sizes : List ℤ) (fs : List Form) : Type 0 where
  pub few : one_to_three (length sizes) ≡ true
  pub extents : list_all is_extent sizes ≡ true
  pub spread : spread_right nodes sizes fs ≡ true
  pub forms : forms_right fs sizes nodes ≡ true

distribution_at : (w : World) (k i : ℕ) (d : Distribution) → mapping_rules w ≡ [] → slice_get w.mappings.distributions i ≡ Some d → is_first_distribution w (i, d) ≡ true →
    (spread_right (nodes_of w) (template_sizes w d.template) d.forms ≡ true) × (forms_right d.forms (template_sizes w d.template) (nodes_of w) ≡ true)
distribution_at w k i d h e f =
    let one : distribution_rule w (i, d) ≡ [] = none_here (distribution_rule w) w.mappings.distributions i d (left_none (distribution_rules w) _ (after_templates w h)) e in
    let a : Bool = is_first_distribution w (i, d) in
    let b : Bool = spread_right (nodes_of w) (template_sizes w d.template) d.forms in
    let c : Bool = forms_right d.forms (template_sizes w d.template) (nodes_of w) in (
      right_true a b (holds (a && b) M3 d.at (left_none (unless (a && b) M3 d.at) (unless (not a || c) M4 d.at) one)),
      second_true a c f (holds (not a || c) M4 d.at (right_none (unless (a && b) M3 d.at) (unless (not a || c) M4 d.at) one)),
    )

-- The bounds of a template.
bounds_at : (w : World) (k : ℕ) (l : TemplateLine) → mapping_rules w ≡ [] → slice_get w.mappings.templates k ≡ Some l →
    (one_to_three (length l.sizes) && (list_all is_extent l.sizes && list_all is_small l.lowers)) ≡ true
bounds_at w k l h e =
    let one : template_rule w (k, l) ≡ [] = none_here (template_rule w) w.mappings.templates k l (left_none (template_rules w) _ (after_nodes w h)) e in
    let a : Bool = one_to_three (length l.sizes) && (list_all is_extent l.sizes && list_all is_small l.lowers) in
    holds a M2 l.at (left_none (unless a M2 l.at) (unless (is_some (first_place k (distributed w))) M3 l.at) one)

pub lowers_at : (w : World) (k : ℕ) (l : TemplateLine) → mapping_rules w ≡ [] → slice_get w.mappings.templates k ≡ Some l → list_all is_small l.lowers ≡ true
lowers_at w k l h e = right_true (list_all is_extent l.sizes) _ (right_true (one_to_three (length l.sizes)) _ (bounds_at w k l h e))

pub template_at : (w : World) (k : ℕ) (l : TemplateLine) → mapping_rules w ≡ [] → slice_get w.mappings.templates k ≡ Some l → RightTemplate (nodes_of w) l.sizes (forms_of w k)
template_at w k l h e =
    let one : template_rule w (k, l) ≡ [] = none_here (template_rule w) w.mappings.templates k l (left_none (template_rules w) _ (after_nodes w h)) e in
    let a : Bool = one_to_three (length l.sizes) && (list_all is_extent l.sizes && list_all is_small l.lowers) in
    let b : Bool = is_some (first_place k (distributed w)) in
    let sizes = bounds_at w k l h e in
    let spread = holds b M3 l.at (right_none (unless a M2 l.at) (unless b M3 l.at) one) in
    let item = some_item (λ d. d.template) w.mappings.distributions k spread in
    let first = first_of_all (λ d. d.template) w.mappings.distributions k item.0 item.1 in
    let right = distribution_at w k first.place item.0 h first.at (is_first (λ d. d.template) w.mappings.distributions k item.0 first) in
    record {
      few = left_true (one_to_three (length l.sizes)) _ sizes;
      extents = left_true (list_all is_extent l.sizes) _ (right_true (one_to_three (length l.sizes)) _ sizes);
      spread = subst (λ o. spread_right (nodes_of w) (template_sizes_in o) (forms_of w k) ≡ true) e (subst (λ o. spread_right (nodes_of w) (template_sizes w k) (forms_in o) ≡ true) (sym item.1) (subst (λ n. spread_right (nodes_of w) (template_sizes w n) item.0.forms ≡ true) first.same right.0));
      forms = subst (λ o. forms_right (forms_of w k) (template_sizes_in o) (nodes_of w) ≡ true) e (subst (λ o. forms_right (forms_in o) (template_sizes w k) (nodes_of w) ≡ true) (sym item.1) (subst (λ n. forms_right item.0.forms (template_sizes w n) (nodes_of w) ≡ true) first.same right.1));
    }

-- The first align of an array.
pub align_at : (w : World) (k : ℕ) (a : Align) → mapping_rules w ≡ [] → align_of w k ≡ Some a → (a.array ≡ k) × (w.names.coarray ≡ false) × (align_right w a ≡ true)
align_at w k a h e =
    let first = first_of_all (λ x. x.array) w.mappings.aligns k a e in
    let one : align_rule w (first.place, a) ≡ [] = none_here (align_rule w) w.mappings.aligns first.place a (left_none (align_rules w) _ (after_distributions w h)) first.at in
    let both = right_true (is_first_align w (first.place, a)) (not w.names.coarray && align_right w a) (holds (is_first_align w (first.place, a) && (not w.names.coarray && align_right w a)) M5 a.at one) in
    (first.same, untrue w.names.coarray (left_true (not w.names.coarray) (align_right w a) both), right_true (not w.names.coarray) (align_right w a) both)
  where
    untrue : (b : Bool) → not b ≡ true → b ≡ false
    untrue false h = refl
    untrue true h = cc

-- The first shadow of an array.
pub shadow_at : (w : World) (k : ℕ) (s : Shadow) → mapping_rules w ≡ [] → item_at w.mappings.shadows (first_place k (shadowed w)) ≡ Some s → (s.array ≡ k) × (shadow_right w (align_of w s.array) s ≡ true)
shadow_at w k s h e =
    let first = first_of_all (λ x. x.array) w.mappings.shadows k s e in
    let one : shadow_rule w (first.place, s) ≡ [] = none_here (shadow_rule w) w.mappings.shadows first.place s (left_none (shadow_rules w) _ (after_aligns w h)) first.at in
    (first.same, right_true (is_first_shadow w (first.place, s)) (shadow_right w (align_of w s.array) s) (holds (is_first_shadow w (first.place, s) && shadow_right w (align_of w s.array) s) M6 s.at one))
