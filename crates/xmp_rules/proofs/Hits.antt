-- Where a rule of names stands in a list of broken rules, and where in the list of the checker.
use Rattle.std.proofs.Common.{◌≡◌, ◌∙◌, refl, sym, ap, subst, arith, inl, inr, ⊎_elim, ◌⊎◌, ◌↔◌, ◌++◌, ◌∷◌, [], ℕ, ◌+◌, ◌*◌, zero, suc, List, Bool, if◌then◌else◌, nat_le, length, true, false, cond, not, ◌&&◌, ◌||◌, ◌==◌, is_some, Option, Some, None, filter, flat_map, append-nil, true≢false}
use Rattle.std.specs.Prelude.{⊤}
use Rattle.std.specs.List.{list_all, enumerate_from}
use Rattle.xmp_base.specs.declared.place.Place.{Place}
use Rattle.xmp_base.specs.declared.refusal.Phase.{Phase}
use Rattle.xmp_base.specs.declared.refusal.Phase.TheVariants as phase
use Rattle.xmp_base.specs.declared.refusal.Refusal.{Refusal}
use Rattle.xmp_syntax.specs.declared.program.Tree.{Tree}
use Rattle.xmp_prog.specs.declared.statements.Stmt as made
use Rattle.xmp_names.specs.declared.names.Array.{Array}
use Rattle.xmp_names.specs.declared.mappings.NodesLine.{NodesLine}
use Rattle.xmp_names.specs.declared.mappings.TemplateLine.{TemplateLine}
use Rattle.xmp_names.specs.declared.mappings.Distribution.{Distribution}
use Rattle.xmp_names.specs.declared.rules.Rule.{Rule}
use Rattle.xmp_names.specs.declared.rules.Rule.TheVariants.{N1, N2, N3, N4, N5, N6, N7, N8, N9, N10, M1, M2, M3, M4, M5, M6, M7, M8, M9, M10}
use Rattle.xmp_names.specs.declared.rules.Broken.{Broken}
use Rattle.xmp_names.specs.declared.world.World.{World}
use Rattle.xmp_names.specs.Rules.{unless}
use Rattle.xmp_names.specs.Sizes.{is_extent, is_small, most_cells, given_or_one, line_sizes}
use Rattle.xmp_names.specs.Walk.{Step, Gave}
use Rattle.xmp_map.specs.RowMajor.{product}
use Rattle.xmp_map.specs.Spread.{sizes_fit}
use Rattle.xmp_mapping_rules.specs.Numbers.{first_place, is_at}
use Rattle.xmp_mapping_rules.specs.MappingRules.{one_to_three, distributed, is_first_distribution, spread_right, nodes_of, template_sizes, forms_right, is_first_align, align_right, is_first_shadow, shadow_right, align_of, indexed_right, forms_of, nodes_right, nodes_rule, has_nodes, first_nodes, template_rule, distribution_rule, align_rule, shadow_rule, loop_rule, cells_from, copies, nodes_rules, template_rules, distribution_rules, align_rules, shadow_rules, loop_rules, cell_rules, mapping_rules}
use Rattle.xmp_walk.specs.Program.{program_of}
use Rattle.xmp_parts.specs.Verdict.{number_of, is_of_names, phase_in, refusal_of, IsIn, of_names, world_after, broken_rules}
use Rattle.xmp_rules.specs.Lists.{AnyOf}
use Rattle.xmp_rules.specs.Spots.{spots}
use Rattle.xmp_rules.specs.Rules.{Counts}
use Rattle.xmp_rules.proofs.Kept.{covered, kept, kept_both, kept_none}
use Rattle.xmp_rules.proofs.Standing.{breaks, all_found}
use Rattle.xmp_rules.proofs.Telling.{Ends}
use Rattle.xmp_rules.proofs.Programs.{walk_found}

-- A rule of names by its number at a place.
pub record Hit (n : ℕ) (at : Place) (b : Broken) : Type 0 where
  pub names : is_of_names b.rule ≡ true
  pub number : number_of b.rule ≡ n
  pub place : b.at ≡ at

-- ---- elements of lists

pub any_left : {X : Type 0} (P : X → Type 0) (xs ys : List X) → AnyOf P xs → AnyOf P (xs ++ ys)
any_left P [] ys h = absurd h
any_left P (x ∷ xs) ys (inl h) = inl h
any_left P (x ∷ xs) ys (inr h) = inr (any_left P xs ys h)

pub any_right : {X : Type 0} (P : X → Type 0) (xs ys : List X) → AnyOf P ys → AnyOf P (xs ++ ys)
any_right P [] ys h = h
any_right P (x ∷ xs) ys h = inr (any_right P xs ys h)

pub any_either : {X : Type 0} (P : X → Type 0) (xs ys : List X) → AnyOf P (xs ++ ys) → AnyOf P xs ⊎ AnyOf P ys
any_either P [] ys h = inr h
any_either P (x ∷ xs) ys (inl h) = inl (inl h)
any_either P (x ∷ xs) ys (inr h) = ⊎_elim (λ k. inl (inr k)) (λ k. inr k) (any_either P xs ys h)

pub any_filter : {X : Type 0} (P : X → Type 0) (p : X → Bool) → ((x : X) → P x → p x ≡ true) → (xs : List X) → AnyOf P xs ↔ AnyOf P (filter p xs)
any_filter P p f [] = (λ h. h, λ h. h)
any_filter P p f (x ∷ xs) = by (p x) refl (any_filter P p f xs)
  where
    by : (t : Bool) → p x ≡ t → (AnyOf P xs ↔ AnyOf P (filter p xs)) → (P x ⊎ AnyOf P xs) ↔ AnyOf P (cond t (x ∷ filter p xs) (filter p xs))
    by true e k = (λ h. ⊎_elim (λ a. inl a) (λ b. inr (k.0 b)) h, λ h. ⊎_elim (λ a. inl a) (λ b. inr (k.1 b)) h)
    by false e k = (λ h. ⊎_elim (λ a. absurd (true≢false (sym (f x a) ∙ e))) (λ b. k.0 b) h, λ h. inr (k.1 h))

pub any_flat : {X Y : Type 0} (P : Y → Type 0) (f : X → List Y) (xs : List X) → AnyOf P (flat_map f xs) ↔ AnyOf (λ x. AnyOf P (f x)) xs
any_flat P f [] = (λ h. h, λ h. h)
any_flat P f (x ∷ xs) = let k = any_flat P f xs in
    (λ h. ⊎_elim (λ a. inl a) (λ b. inr (k.0 b)) (any_either P (f x) (flat_map f xs) h), λ h. ⊎_elim (λ a. any_left P (f x) (flat_map f xs) a) (λ b. any_right P (f x) (flat_map f xs) (k.1 b)) h)

pub any_same : {X : Type 0} (P Q : X → Type 0) → ((x : X) → P x ↔ Q x) → (xs : List X) → AnyOf P xs ↔ AnyOf Q xs
any_same P Q f [] = (λ h. h, λ h. h)
any_same P Q f (x ∷ xs) = let k = any_same P Q f xs in (λ h. ⊎_elim (λ a. inl ((f x).0 a)) (λ b. inr (k.0 b)) h, λ h. ⊎_elim (λ a. inl ((f x).1 a)) (λ b. inr (k.1 b)) h)

-- ---- the refusals of a list

is_hit : (n : ℕ) (at : Place) (b : Broken) → record { phase = phase.Names; rule = n; at = at } ≡ refusal_of b → Hit n at b
is_hit n at b e = record { names = by (is_of_names b.rule) (ap (λ (r : Refusal). r.phase) e); number = sym (ap (λ (r : Refusal). r.rule) e); place = sym (ap (λ (r : Refusal). r.at) e) }
  where
    IsNames : Phase → Type 0
    IsNames phase.Names = ⊤
    IsNames _ = ⊥

    by : (t : Bool) → phase.Names ≡ phase_in t → t ≡ true
    by true e = refl
    by false e = absurd (cc)

hit_is : (n : ℕ) (at : Place) (b : Broken) → Hit n at b → record { phase = phase.Names; rule = n; at = at } ≡ refusal_of b
hit_is n at b h = λ i. record { phase = phase_in (sym h.names i); rule = sym h.number i; at = sym h.place i }

in_first : (r : Refusal) (b : Broken) (bs : List Broken) → r ≡ refusal_of b → IsIn (b ∷ bs) r
in_first r b bs e = (0, b, omega arith, refl, e)

in_rest : (r : Refusal) (b : Broken) (bs : List Broken) → IsIn bs r → IsIn (b ∷ bs) r
in_rest r b bs (k, x, h, is, e) = (suc k, x, omega arith, is, e)

in_either : (r : Refusal) (b : Broken) (bs : List Broken) → IsIn (b ∷ bs) r → (r ≡ refusal_of b) ⊎ IsIn bs r
in_either r b bs (zero, x, h, is, e) = inl (subst (λ (y : Broken). r ≡ refusal_of y) (sym is) e)
in_either r b bs (suc k, x, h, is, e) = inr (k, x, omega arith, is, e)

in_none : (r : Refusal) → IsIn [] r → ⊥
in_none r s = omega (arith, s.2)

refused_at : (n : ℕ) (at : Place) (bs : List Broken) → IsIn bs (record { phase = phase.Names; rule = n; at = at }) ↔ AnyOf (Hit n at) bs
refused_at n at [] = (λ h. absurd (in_none _ h), λ h. absurd h)
refused_at n at (b ∷ bs) = let k = refused_at n at bs in
    (λ h. ⊎_elim (λ e. inl (is_hit n at b e)) (λ q. inr (k.0 q)) (in_either _ b bs h), λ h. ⊎_elim (λ e. in_first _ b bs (hit_is n at b e)) (λ q. in_rest _ b bs (k.1 q)) h)

-- ---- the rules of mappings are not among those that are looked at

kept_flat : {X : Type 0} (f : X → List Broken) → ((x : X) → kept (f x) ≡ []) → (xs : List X) → kept (flat_map f xs) ≡ []
kept_flat f h [] = refl
kept_flat f h (x ∷ xs) = kept_both (f x) (flat_map f xs) ∙ (ap (λ l. l ++ kept (flat_map f xs)) (h x) ∙ kept_flat f h xs)

kept_two : (xs ys : List Broken) → kept xs ≡ [] → kept ys ≡ [] → kept (xs ++ ys) ≡ []
kept_two xs ys h k = kept_both xs ys ∙ (ap (λ l. l ++ kept ys) h ∙ k)

kept_nodes : (w : World) (x : ℕ × NodesLine) → kept (nodes_rule w x) ≡ []
kept_nodes w x = by x.1.part
  where
    by : (t : Bool) → kept (if t then unless false N9 x.1.at else unless (is_at x.0 (first_nodes w) && nodes_right w.given (line_sizes (given_or_one w) x.1)) M1 x.1.at) ≡ []
    by true = kept_none false N9 x.1.at refl
    by false = kept_none (is_at x.0 (first_nodes w) && nodes_right w.given (line_sizes (given_or_one w) x.1)) M1 x.1.at refl

kept_has : (found : Option ℕ) (at : Option Place) → kept (has_nodes found at) ≡ []
kept_has found None = refl
kept_has found (Some at) = kept_none (is_some found) M1 at refl

kept_cells : (n : ℕ) (xs : List Array) (before : ℕ) → kept (cells_from n before xs) ≡ []
kept_cells n [] before = refl
kept_cells n (a ∷ xs) before =
    kept_two (unless (sizes_fit a.extents && nat_le ((before + product a.extents) * n) most_cells) M10 a.at) (cells_from n (before + product a.extents) xs)
    (kept_none (sizes_fit a.extents && nat_le ((before + product a.extents) * n) most_cells) M10 a.at refl) (kept_cells n xs (before + product a.extents))

kept_template : (w : World) (x : ℕ × TemplateLine) → kept (template_rule w x) ≡ []
kept_template w x =
    let a : Bool = one_to_three (length x.1.sizes) && (list_all is_extent x.1.sizes && list_all is_small x.1.lowers) in
    let b : Bool = is_some (first_place x.0 (distributed w)) in
    kept_two (unless a M2 x.1.at) (unless b M3 x.1.at) (kept_none a M2 x.1.at refl) (kept_none b M3 x.1.at refl)

kept_distribution : (w : World) (x : ℕ × Distribution) → kept (distribution_rule w x) ≡ []
kept_distribution w x =
    let a : Bool = is_first_distribution w x && spread_right (nodes_of w) (template_sizes w x.1.template) x.1.forms in
    let b : Bool = not (is_first_distribution w x) || forms_right x.1.forms (template_sizes w x.1.template) (nodes_of w) in
    kept_two (unless a M3 x.1.at) (unless b M4 x.1.at) (kept_none a M3 x.1.at refl) (kept_none b M4 x.1.at refl)

kept_lines : (w : World) → kept (nodes_rules w) ≡ []
kept_lines w = kept_two (flat_map (nodes_rule w) (enumerate_from 0 w.mappings.nodes)) (has_nodes (first_nodes w) w.mappings.first_directive) (kept_flat (nodes_rule w) (kept_nodes w) (enumerate_from 0 w.mappings.nodes)) (kept_has (first_nodes w) w.mappings.first_directive)

kept_aligns : (w : World) → kept (align_rules w) ≡ []
kept_aligns w = kept_flat (align_rule w) (λ x. kept_none (is_first_align w x && (not w.names.coarray && align_right w x.1)) M5 x.1.at refl) (enumerate_from 0 w.mappings.aligns)

kept_shadows : (w : World) → kept (shadow_rules w) ≡ []
kept_shadows w = kept_flat (shadow_rule w) (λ x. kept_none (is_first_shadow w x && shadow_right w (align_of w x.1.array) x.1) M6 x.1.at refl) (enumerate_from 0 w.mappings.shadows)

kept_loops : (w : World) → kept (loop_rules w) ≡ []
kept_loops w = kept_flat (loop_rule w) (λ x. kept_none (indexed_right (forms_of w x.1.template) x.1.indexed) M7 x.1.at refl) (enumerate_from 0 w.mappings.loops)

kept_mappings : (w : World) → kept (mapping_rules w) ≡ []
kept_mappings w =
    kept_two (nodes_rules w) (template_rules w ++ (distribution_rules w ++ (align_rules w ++ (shadow_rules w ++ (loop_rules w ++ cell_rules w))))) (kept_lines w)
    (kept_two (template_rules w) (distribution_rules w ++ (align_rules w ++ (shadow_rules w ++ (loop_rules w ++ cell_rules w)))) (kept_flat (template_rule w) (kept_template w) (enumerate_from 0 w.mappings.templates))
    (kept_two (distribution_rules w) (align_rules w ++ (shadow_rules w ++ (loop_rules w ++ cell_rules w))) (kept_flat (distribution_rule w) (kept_distribution w) (enumerate_from 0 w.mappings.distributions))
    (kept_two (align_rules w) (shadow_rules w ++ (loop_rules w ++ cell_rules w)) (kept_aligns w)
    (kept_two (shadow_rules w) (loop_rules w ++ cell_rules w) (kept_shadows w) (kept_two (loop_rules w) (cell_rules w) (kept_loops w) (kept_cells (copies w) w.names.arrays 0))))))

-- ---- the checker's list

world_found : (bs : List Broken) (s : Step made.Stmt) → Ends (λ a v. kept v.broken ≡ bs) s → kept (world_after s).broken ≡ bs
world_found bs (Gave a v) h = h

kept_rules : (t : Tree) (given : Option ℕ) → kept (broken_rules t given) ≡ all_found (spots t)
kept_rules t given =
    let w : World = world_after (program_of t given) in
    kept_both w.broken (mapping_rules w) ∙ (ap (λ l. kept w.broken ++ l) (kept_mappings w) ∙ (append-nil (kept w.broken) ∙ world_found (all_found (spots t)) (program_of t given) (walk_found t given)))

-- The numbers of the rules that are looked at.
abbrev pub is_covered : ℕ → Bool
is_covered n = (n == 1) || ((n == 2) || ((n == 4) || ((n == 5) || ((n == 7) || (n == 8)))))

covered_by : (r : Rule) → is_of_names r ≡ true → covered r ≡ is_covered (number_of r)
covered_by N1 h = refl
covered_by N2 h = refl
covered_by N3 h = refl
covered_by N4 h = refl
covered_by N5 h = refl
covered_by N6 h = refl
covered_by N7 h = refl
covered_by N8 h = refl
covered_by N9 h = refl
covered_by N10 h = refl
covered_by M1 h = absurd (cc h)
covered_by M2 h = absurd (cc h)
covered_by M3 h = absurd (cc h)
covered_by M4 h = absurd (cc h)
covered_by M5 h = absurd (cc h)
covered_by M6 h = absurd (cc h)
covered_by M7 h = absurd (cc h)
covered_by M8 h = absurd (cc h)
covered_by M9 h = absurd (cc h)
covered_by M10 h = absurd (cc h)

hit_covered : (n : ℕ) (at : Place) → is_covered n ≡ true → (b : Broken) → Hit n at b → covered b.rule ≡ true
hit_covered n at h b k = covered_by b.rule k.names ∙ (ap is_covered k.number ∙ h)

-- The checker counts a rule that is looked at exactly where one of the spots breaks it.
pub counted : (t : Tree) (given : Option ℕ) (n : ℕ) (at : Place) → is_covered n ≡ true → Counts t given n at ↔ AnyOf (λ s. AnyOf (Hit n at) (breaks s.in s.what)) (spots t)
counted t given n at h =
    let bs : List Broken = broken_rules t given in
    let a = refused_at n at (of_names bs) in
    let b = any_filter (Hit n at) (λ x. is_of_names x.rule) (λ x k. k.names) bs in
    let c = any_filter (Hit n at) (λ x. covered x.rule) (hit_covered n at h) bs in
    let d = any_flat (Hit n at) (λ s. breaks s.in s.what) (spots t) in
    (λ x. d.0 (subst (AnyOf (Hit n at)) (kept_rules t given) (c.0 (b.1 (a.0 x)))), λ x. a.1 (b.0 (c.1 (subst (AnyOf (Hit n at)) (sym (kept_rules t given)) (d.1 x)))))
