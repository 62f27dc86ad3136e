-- The sizes and forms of a template that breaks no rule make a template.
use Rattle.std.proofs.Common.{◌≡◌, ◌≤◌, ◌∙◌, sym, ap, ap₂, refl, subst, ◌∷◌, [], ◌+◌, ℕ, zero, suc, ℤ, pos, negsuc, Bool, true, false, cond, List, Some, None, arith, length, map, take, sum, IsTrue, eq-eqb, eqb-true, leb-true, le-leb}
use Rattle.std.specs.Prelude.{⊤, ◌==◌, nat_le, slice_get, int_le, slice_index, if◌then◌else◌}
use Rattle.std.specs.List.{list_all, count_by}
use Rattle.std.proofs.lemmas.Bool.Decides.{nat_tests}
use Rattle.std.proofs.lemmas.List.{length-map}
use Rattle.std.proofs.lemmas.List.Sums.{sum_by-cons}
use Rattle.xmp_dist.specs.Valid as valid
use Rattle.xmp_map.specs.declared.grid.Grid.{Grid}
use Rattle.xmp_map.specs.declared.fault.MapError.TheVariants.{Size, Spread, Chunk}
use Rattle.xmp_map.specs.Nodes.{filled}
use Rattle.xmp_map.specs.Spread.{chunk_fits, chunks_fit, sizes_fit, spread, spreads, template_fault}
use Rattle.xmp_names.specs.declared.mappings.Form.{Form}
use Rattle.xmp_names.specs.declared.mappings.Form.TheVariants as form
use Rattle.xmp_names.specs.declared.mappings.TemplateLine.{TemplateLine}
use Rattle.xmp_names.specs.declared.world.World.{World}
use Rattle.xmp_names.specs.Sizes.{is_extent, natural}
use Rattle.xmp_mapping_rules.specs.MappingRules.{counts, form_fits, form_right, forms_of, forms_right, is_distributed, lengths_right, mapping_rules, nodes_behind, nodes_of, one_to_three}
use Rattle.xmp_parts.specs.Narrow.{is_count, is_narrow, is_narrow_form}
use Rattle.xmp_parts.specs.Parts.{IsGrid, made_form, padded}
use Rattle.xmp_parts.proofs.Rows.{RightNodes, right_nodes, small_nodes}
use Rattle.xmp_parts.proofs.Unbroken.{RightTemplate, both_true, left_true, right_true, template_at}

-- ---- sizes

sizes_there : (ss : List ℤ) → list_all is_extent ss ≡ true → list_all valid.is_extent (map natural ss) ≡ true
sizes_there [] h = refl
sizes_there (pos n ∷ ss) h = both_true (valid.is_extent n) _ (left_true (is_extent (pos n)) _ h) (sizes_there ss (right_true (is_extent (pos n)) _ h))
sizes_there (negsuc n ∷ ss) h = cc

extent_narrow : (n : ℤ) → is_extent n ≡ true → is_narrow n ≡ true
extent_narrow (pos n) h = right_true (nat_le 1 n) _ h
extent_narrow (negsuc n) h = cc

sizes_narrow : (ss : List ℤ) → list_all is_extent ss ≡ true → list_all is_narrow ss ≡ true
sizes_narrow [] h = refl
sizes_narrow (s ∷ ss) h = both_true (is_narrow s) _ (extent_narrow s (left_true (is_extent s) _ h)) (sizes_narrow ss (right_true (is_extent s) _ h))

-- ---- the number of distributed dimensions

counted : (f : Form) → spread (made_form f) ≡ cond (is_distributed f) 1 0
counted form.Whole = refl
counted form.Block = refl
counted (form.Cyclic n) = refl
counted (form.Gblock ns) = refl

count_more : (f : Form) (fs : List Form) → count_by is_distributed (f ∷ fs) ≡ cond (is_distributed f) 1 0 + count_by is_distributed fs
count_more f fs = sum_by-cons (λ x. cond (is_distributed x) 1 0) f fs

spreads_are : (fs : List Form) → spreads (map made_form fs) ≡ count_by is_distributed fs
spreads_are [] = refl
spreads_are (f ∷ fs) = ap₂ (λ a b. a + b) (counted f) (spreads_are fs) ∙ sym (count_more f fs)

-- ---- lengths

counts_is : (n : ℕ) (z : ℤ) → counts n z ≡ true → n ≡ natural z
counts_is n (pos m) h = eqb-true n m h
counts_is n (negsuc m) h = cc

-- The first of a padded list are the list itself.
meant : (k : ℕ) (ns : List ℕ) → length ns ≤ k → take (length ns) (padded k ns) ≡ ns
meant zero [] h = refl
meant (suc k) [] h = refl
meant zero (n ∷ ns) h = absurd (omega arith)
meant (suc k) (n ∷ ns) h = ap (λ l. n ∷ l) (meant k ns (omega arith))

meant_of : (ls : List ℤ) → length ls ≤ 16 → take (length ls) (padded 16 (map natural ls)) ≡ map natural ls
meant_of ls h =
    let e : length (map natural ls) ≡ length ls = length-map ls natural in
    ap (λ n. take n (padded 16 (map natural ls))) (sym e) ∙ meant 16 (map natural ls) (subst (λ n. n ≤ 16) (sym e) h)

-- No number of a list is above its sum.
sum_narrow : (ns : List ℤ) (m : ℕ) → sum (map natural ns) ≤ m → m ≤ 4194304 → list_all is_narrow ns ≡ true
sum_narrow [] m h k = refl
sum_narrow (n ∷ ns) m h k =
    let e : sum (map natural (n ∷ ns)) ≡ natural n + sum (map natural ns) = sum_by-cons (λ x. x) (natural n) (map natural ns) in
    both_true (is_narrow n) _ (le-leb (natural n) 4194304 (omega arith)) (sum_narrow ns m (omega arith) k)

-- ---- one form

-- What is to be shown of a form.
abbrev Right : Form → ℤ → ℕ → Type 0
Right f s g = (chunk_fits (made_form f) (natural s) g ≡ true) × (is_narrow_form f ≡ true)

gblock_right : (ls : List ℤ) (s : ℤ) (g : ℕ) → g ≤ 16 → length ls ≡ g → sum (map natural ls) ≡ natural s → natural s ≤ 4194304 → Right (form.Gblock ls) s g
gblock_right ls s g few n t most =
    let short : length ls ≤ 16 = omega arith in
    let whole : sum (take (length ls) (padded 16 (map natural ls))) ≡ natural s = ap sum (meant_of ls short) ∙ t in (
      both_true (length ls == g) _ (eq-eqb (length ls) g n) (eq-eqb (sum (take (length ls) (padded 16 (map natural ls)))) (natural s) whole),
      both_true (nat_le (length ls) 16) _ (le-leb (length ls) 16 short) (sum_narrow ls (natural s) (omega arith) most),
    )

form_here : (f : Form) (s p : ℤ) (g : ℕ) → g ≡ natural p → nat_le (natural p) 16 ≡ true → is_extent s ≡ true → form_right f s p ≡ true → Right f s g
form_here form.Whole s p g e few x h = (refl, refl)
form_here form.Block s p g e few x h = (refl, refl)
form_here (form.Cyclic (pos n)) s p g e few x h = (both_true (valid.is_extent n) true h refl, right_true (nat_le 1 n) _ h)
form_here (form.Cyclic (negsuc n)) s p g e few x h = absurd (cc)
form_here (form.Gblock ls) s p g e few x h =
    let n : length ls ≡ natural p = counts_is (length ls) p (left_true (counts (length ls) p) (lengths_right ls s) h) in
    let t : sum (map natural ls) ≡ natural s = counts_is (sum (map natural ls)) s (right_true (list_all (λ n. int_le (pos 0) n) ls) _ (right_true (counts (length ls) p) (lengths_right ls s) h)) in
    gblock_right ls s g (subst (λ m. m ≤ 16) (sym e) (leb-true (natural p) 16 few)) (n ∙ sym e) t (leb-true (natural s) 4194304 (extent_narrow s x))

-- ---- all forms

-- The axes of a grid from the k-th on have these sizes.
abbrev Agrees : List ℕ → ℕ → List ℤ → Type 0
Agrees grid k [] = ⊤
Agrees grid k (n ∷ ns) = (slice_index grid k ≡ natural n) × Agrees grid (k + 1) ns

abbrev Fits : List Form → List ℤ → List ℕ → Type 0
Fits fs ss grid =
    (nodes : List ℤ) (k : ℕ) → Agrees grid k nodes → list_all (λ n. nat_le (natural n) 16) nodes ≡ true → count_by is_distributed fs ≡ length nodes → forms_right fs ss nodes ≡ true →
    (chunks_fit (map natural ss) (map made_form fs) grid k ≡ true) × (list_all is_narrow_form fs ≡ true)

behind_whole : (nodes : List ℤ) → nodes_behind form.Whole nodes ≡ nodes
behind_whole [] = refl
behind_whole (n ∷ ns) = refl

whole_step : (fs : List Form) (s : ℤ) (ss : List ℤ) (grid : List ℕ) → Fits fs ss grid → (nodes : List ℤ) (k : ℕ) → Agrees grid k nodes → list_all (λ n. nat_le (natural n) 16) nodes ≡ true → count_by is_distributed (form.Whole ∷ fs) ≡ length nodes → forms_right (form.Whole ∷ fs) (s ∷ ss) nodes ≡ true →
    (chunks_fit (map natural (s ∷ ss)) (map made_form (form.Whole ∷ fs)) grid k ≡ true) × (list_all is_narrow_form (form.Whole ∷ fs) ≡ true)
whole_step fs s ss grid rest nodes k a few c h =
    let n : count_by is_distributed fs ≡ length nodes = let m = count_more form.Whole fs in omega arith in
    let r = rest nodes k a few n (subst (λ l. forms_right fs ss l ≡ true) (behind_whole nodes) (right_true (form_fits form.Whole s nodes) _ h)) in
    let j : k ≡ k + 0 = omega arith in
    (subst (λ i. chunks_fit (map natural ss) (map made_form fs) grid i ≡ true) j r.0, r.1)

node_step : (f : Form) (fs : List Form) (s : ℤ) (ss : List ℤ) (grid : List ℕ) → is_distributed f ≡ true → is_extent s ≡ true → Fits fs ss grid → (nodes : List ℤ) (k : ℕ) → Agrees grid k nodes → list_all (λ n. nat_le (natural n) 16) nodes ≡ true → count_by is_distributed (f ∷ fs) ≡ length nodes → forms_right (f ∷ fs) (s ∷ ss) nodes ≡ true →
    (chunks_fit (map natural (s ∷ ss)) (map made_form (f ∷ fs)) grid k ≡ true) × (list_all is_narrow_form (f ∷ fs) ≡ true)
node_step f fs s ss grid d x rest [] k a few c h =
    let m = count_more f fs in
    let one : cond {A = ℕ} (is_distributed f) 1 0 ≡ 1 = ap (λ b. cond {A = ℕ} b 1 0) d in
    absurd (omega arith)
node_step f fs s ss grid d x rest (p ∷ more) k a few c h =
    let m = count_more f fs in
    let one : cond {A = ℕ} (is_distributed f) 1 0 ≡ 1 = ap (λ b. cond {A = ℕ} b 1 0) d in
    let n : count_by is_distributed fs ≡ length more = omega arith in
    let here : Right f s (slice_index grid k) = form_here f s p (slice_index grid k) a.0 (left_true (nat_le (natural p) 16) _ few) x (left_true (form_right f s p) _ h) in
    let behind : nodes_behind f (p ∷ more) ≡ more = ap (λ b. if b then more else p ∷ more) d in
    let r = rest more (k + 1) a.1 (right_true (nat_le (natural p) 16) _ few) n (subst (λ l. forms_right fs ss l ≡ true) behind (right_true (form_right f s p) _ h)) in
    let j : k + 1 ≡ k + spread (made_form f) = ap (λ i. k + i) (sym (counted f ∙ one)) in (
      both_true (chunk_fits (made_form f) (natural s) (slice_index grid k)) _ here.0 (subst (λ i. chunks_fit (map natural ss) (map made_form fs) grid i ≡ true) j r.0),
      both_true (is_narrow_form f) _ here.1 r.1,
    )

all_fit : (fs : List Form) (ss : List ℤ) (grid : List ℕ) → length fs ≡ length ss → list_all is_extent ss ≡ true → Fits fs ss grid
all_fit [] [] grid e x = λ nodes k a few c h. (refl, refl)
all_fit [] (s ∷ ss) grid e x = absurd (omega arith)
all_fit (f ∷ fs) [] grid e x = absurd (omega arith)
all_fit (form.Whole ∷ fs) (s ∷ ss) grid e x = whole_step fs s ss grid (all_fit fs ss grid (omega arith) (right_true (is_extent s) _ x))
all_fit (form.Block ∷ fs) (s ∷ ss) grid e x = node_step form.Block fs s ss grid refl (left_true (is_extent s) _ x) (all_fit fs ss grid (omega arith) (right_true (is_extent s) _ x))
all_fit (form.Cyclic n ∷ fs) (s ∷ ss) grid e x = node_step (form.Cyclic n) fs s ss grid refl (left_true (is_extent s) _ x) (all_fit fs ss grid (omega arith) (right_true (is_extent s) _ x))
all_fit (form.Gblock ls ∷ fs) (s ∷ ss) grid e x = node_step (form.Gblock ls) fs s ss grid refl (left_true (is_extent s) _ x) (all_fit fs ss grid (omega arith) (right_true (is_extent s) _ x))

-- ---- the template

too_many : (a b c d : ℤ) (rest : List ℤ) → one_to_three (length (a ∷ b ∷ c ∷ d ∷ rest)) ≡ true → ⊥
too_many a b c d rest h = grind (arith, nat_tests)

agrees : (nodes : List ℤ) → one_to_three (length nodes) ≡ true → Agrees (filled 1 (map natural nodes)) 0 nodes
agrees [] h = tt
agrees (a ∷ []) h = (refl, tt)
agrees (a ∷ b ∷ []) h = (refl, (refl, tt))
agrees (a ∷ b ∷ c ∷ []) h = (refl, (refl, (refl, tt)))
agrees (a ∷ b ∷ c ∷ d ∷ rest) h = absurd (too_many a b c d rest h)

no_fault : (a b c : Bool) → a ≡ true → b ≡ true → c ≡ true → (if a then (if b then (if c then None else Some Chunk) else Some Spread) else Some Size) ≡ None
no_fault true true true h k l = refl
no_fault false b c h k l = cc
no_fault true false c h k l = cc
no_fault true true false h k l = cc

-- The three facts that the template is made from.
pub record Makes (nodes sizes : List ℤ) (forms : List Form) (g : Grid) : Type 0 where
  pub narrow : IsTrue (list_all is_narrow sizes)
  pub narrow_forms : IsTrue (list_all is_narrow_form forms)
  pub right : template_fault g.dims g.sizes (map natural sizes) (map made_form forms) ≡ None

pub makes_template : (nodes sizes : List ℤ) (forms : List Form) (g : Grid) → RightNodes nodes → RightTemplate nodes sizes forms → IsGrid (map natural nodes) g → Makes nodes sizes forms g
makes_template nodes sizes forms g n t is =
    let same : length forms ≡ length sizes = eqb-true (length forms) (length sizes) (left_true (length forms == length sizes) _ t.spread) in
    let many : count_by is_distributed forms ≡ length nodes = eqb-true (count_by is_distributed forms) (length nodes) (right_true (length forms == length sizes) _ t.spread) in
    let fit = all_fit forms sizes (filled 1 (map natural nodes)) same t.extents nodes 0 (agrees nodes n.few) (small_nodes nodes n) many t.forms in
    let dims : spreads (map made_form forms) ≡ g.dims = spreads_are forms ∙ (many ∙ (sym (length-map nodes natural) ∙ sym is.1)) in
    let lens : length (map made_form forms) ≡ length (map natural sizes) = length-map forms made_form ∙ (same ∙ sym (length-map sizes natural)) in
    record {
      narrow = sizes_narrow sizes t.extents;
      narrow_forms = fit.1;
      right = no_fault (sizes_fit (map natural sizes)) _ _
          (both_true _ _ (ap one_to_three (length-map sizes natural) ∙ t.few) (sizes_there sizes t.extents))
          (both_true _ _ (eq-eqb _ _ lens) (eq-eqb _ _ dims))
          (subst (λ l. chunks_fit (map natural sizes) (map made_form forms) l 0 ≡ true) (sym is.0) fit.0);
    }

-- The same of a template of a program in which no rule of mappings breaks.
pub template_facts : (w : World) (k : ℕ) (line : TemplateLine) (g : Grid) → mapping_rules w ≡ [] → IsTrue (is_count w.given) → IsGrid (map natural (nodes_of w)) g → slice_get w.mappings.templates k ≡ Some line →
    Makes (nodes_of w) line.sizes (forms_of w k) g
template_facts w k line g h c is e = makes_template (nodes_of w) line.sizes (forms_of w k) g (right_nodes w h c) (template_at w k line h e) is
