-- The scalars that a directive names are the program's; and directives stand in no function other than main.
use Rattle.std.proofs.Common.{◌≡◌, ◌∙◌, ap, refl, ◌++◌, ◌∷◌, [], not, ℕ, ℤ, Bool, true, false, List, Option, Some, None, length}
use Rattle.std.specs.List.{AllByRecursion}
use Rattle.std.specs.Option.{unwrap_or}
use Rattle.std.proofs.lemmas.Bool.{lt-ltb}
use Rattle.std.proofs.lemmas.Option.{slice_get_within}
use Rattle.xmp_base.specs.declared.place.Place.{Place}
use Rattle.xmp_num.specs.declared.types.Ty.{Ty}
use Rattle.xmp_num.specs.declared.types.Ty.TheVariants.{Int, Long}
use Rattle.xmp_num.specs.declared.types.RedOp.{RedOp}
use Rattle.xmp_scopes.specs.Names.{nearest}
use Rattle.xmp_prog.specs.declared.statements.Reduction as made_reduction
use Rattle.xmp_prog.specs.declared.parts.ProgParts.{ProgParts}
use Rattle.xmp_syntax.specs.declared.parts.Name as named
use Rattle.xmp_syntax.specs.declared.directive.Point.{Point}
use Rattle.xmp_syntax.specs.declared.directive.Point.TheVariants as point
use Rattle.xmp_syntax.specs.declared.directive.Reduction.{Reduction}
use Rattle.xmp_syntax.specs.declared.directive.LoopLine.{LoopLine}
use Rattle.xmp_names.specs.declared.names.Meaning.{Meaning}
use Rattle.xmp_names.specs.declared.names.Meaning.TheVariants.{Scalar, Array, Nodes, Template, Function}
use Rattle.xmp_directives.specs.declared.loop_lines.LoopParts.{LoopParts}
use Rattle.xmp_names.specs.declared.rules.Rule.TheVariants.{N5}
use Rattle.xmp_names.specs.declared.world.World.{World}
use Rattle.xmp_names.specs.Rules.{unless}
use Rattle.xmp_names.specs.Expressions.{is_function, may_name}
use Rattle.xmp_names.specs.Walk as walk
use Rattle.xmp_names.specs.Walk.{Step, Gave, Run, a_scalar, an_int_scalar, a_template, name_of, of_kind, directive_at}
use Rattle.xmp_names.specs.Lists.{listed, notation, parts}
use Rattle.xmp_directives.specs.Directives as directives
use Rattle.xmp_directives.specs.Directives.{slot_or_zero, operation_of}
use Rattle.xmp_parts.proofs.Unbroken.{right_none, holds}
use Rattle.xmp_fits.proofs.GoodWorlds.{Own, Good}
use Rattle.xmp_fits.proofs.GoodSteps.{onward_stays, begins_get, true_name}
use Rattle.xmp_fits.proofs.KeptRuns.{Goes, goes_refl, goes_trans, GoesOn, Kept, going}
use Rattle.xmp_fits.proofs.Respected.{Ends}
use Rattle.xmp_fits.proofs.RespectedDirectives as kept
use Rattle.xmp_fits.proofs.RespectedLines as kept_lines
use Rattle.xmp_fits.proofs.RespectedSteps as kept_steps
use Rattle.xmp_fits.proofs.Respected as kept_runs
use Rattle.xmp_fits.proofs.Laters.{unbroken_before}
use Rattle.xmp_fits.proofs.TermsFit.{all_append}
use Rattle.xmp_fits.proofs.Endings.{opened, ends_at, later_at, directed, goes_directed}
use Rattle.xmp_fits.proofs.Holding.{Unbroken, Holds, unbroken_then, holds_then, each_holds}
use Rattle.xmp_fits.proofs.NamesFit.{full}
use Rattle.xmp_fits.proofs.TermTests.{is_slot}
use Rattle.xmp_fits.proofs.TermCases.{Reached, SlotsGood, slots_stay}

-- ---- runs

-- What is made of what a run gave.
pub made_holds : {A B : Type 0} (own : Own) (P : World → A → Type 0) (Q : World → B → Type 0) (p : Run A) (h : A → B) → Kept p → Holds own (λ w v a. P v a) p → ((v : World) (a : A) → P v a → Q v (h a)) →
    Holds own (λ w v b. Q v b) (walk.◌>>=◌ p (λ a. walk.pure (h a)))
made_holds own P Q p h k i f = holds_then own (λ w v a. P v a) (λ w v b. Q v b) p (λ a. walk.pure (h a)) k i (λ a. record { at = goes_refl }) (λ w v a g o j e. f v a j)

-- ---- no directive in a function

abbrev pub InNone : World → Type 0
InNone w = is_function w.names.region ≡ false

untrue : (b : Bool) → not b ≡ true → b ≡ false
untrue false h = refl
untrue true h = cc

pub directive_holds : (own : Own) (at : Place) → Holds own (λ w v _. InNone v) (directive_at at)
directive_holds own at = record { at = λ w g h. untrue (is_function w.names.region) (holds (not (is_function w.names.region)) N5 at (right_none w.broken (unless (not (is_function w.names.region)) N5 at) h)) }

pub none_stays : (w v : World) → Goes w v → InNone w → InNone v
none_stays w v o h = ap is_function o.onward.region ∙ h

-- ---- names of scalars

slot_there : (own : Own) (w : World) (n : named.Name) (slot : ℕ) (ty : Ty) → Good own w → nearest n.text w.names.scopes ≡ Some (Scalar slot ty) → (p : ProgParts) → Reached p w → is_slot p slot ≡ true
slot_there own w n slot ty g e p r = lt-ltb slot (length p.scalars) (slice_get_within p.scalars slot ty (begins_get w.scalars p.scalars slot ty r.extends.scalars (true_name own w n.text (Scalar slot ty) g e)))

abbrev noted_world : World → named.Name → World
noted_world w n = record w { broken = w.broken ++ unless (may_name w.names n (nearest n.text w.names.scopes)) N5 n.at }

-- A name of another kind breaks a rule.
no_kind : {A : Type 0} (X : Type 0) (bs : List A) (x : A) → bs ++ x ∷ [] ≡ [] → X
no_kind X bs x h = absurd (full bs x h)

pub scalar_slot : (own : Own) (n : named.Name) → Holds own (λ w v o. SlotsGood v (slot_or_zero o ∷ [])) (name_of a_scalar n)
scalar_slot own n = record { at = λ w g. go w g (nearest n.text w.names.scopes) refl }
  where
    go : (w : World) (g : Good own w) (o : Option Meaning) → nearest n.text w.names.scopes ≡ o → Unbroken (λ v o. SlotsGood v (slot_or_zero o ∷ [])) (of_kind a_scalar n o (noted_world w n))
    go w g None e = λ h. no_kind _ _ _ h
    go w g (Some (Scalar slot ty)) e = λ h p r. (slot_there own w n slot ty g e p (record { extends = record { scalars = r.extends.scalars; functions = r.extends.functions; start = r.extends.start; arrays = r.extends.arrays; kind = r.extends.kind }; extents = r.extents }), tt)
    go w g (Some (Array k)) e = λ h. no_kind _ _ _ h
    go w g (Some (Nodes k)) e = λ h. no_kind _ _ _ h
    go w g (Some (Template k)) e = λ h. no_kind _ _ _ h
    go w g (Some (Function k r)) e = λ h. no_kind _ _ _ h

int_slot : (own : Own) (n : named.Name) → Holds own (λ w v o. SlotsGood v (unwrap_or o 0 ∷ [])) (name_of an_int_scalar n)
int_slot own n = record { at = λ w g. go w g (nearest n.text w.names.scopes) refl }
  where
    go : (w : World) (g : Good own w) (o : Option Meaning) → nearest n.text w.names.scopes ≡ o → Unbroken (λ v o. SlotsGood v (unwrap_or o 0 ∷ [])) (of_kind an_int_scalar n o (noted_world w n))
    go w g None e = λ h. no_kind _ _ _ h
    go w g (Some (Scalar slot Int)) e = λ h p r. (slot_there own w n slot Int g e p (record { extends = record { scalars = r.extends.scalars; functions = r.extends.functions; start = r.extends.start; arrays = r.extends.arrays; kind = r.extends.kind }; extents = r.extents }), tt)
    go w g (Some (Scalar slot Long)) e = λ h. no_kind _ _ _ h
    go w g (Some (Array k)) e = λ h. no_kind _ _ _ h
    go w g (Some (Nodes k)) e = λ h. no_kind _ _ _ h
    go w g (Some (Template k)) e = λ h. no_kind _ _ _ h
    go w g (Some (Function k r)) e = λ h. no_kind _ _ _ h

pub scalar_name_holds : (own : Own) (n : named.Name) → Holds own (λ w v x. SlotsGood v (x.number ∷ [])) (directives.scalar_name n)
scalar_name_holds own n = made_holds own (λ v o. SlotsGood v (slot_or_zero o ∷ [])) (λ v x. SlotsGood v (x.number ∷ [])) (name_of a_scalar n) (λ o. record { number = slot_or_zero o; at = n.at }) (kept_steps.name_of going a_scalar n).kept (scalar_slot own n) (λ v o h. h)

pub index_name_holds : (own : Own) (n : named.Name) → Holds own (λ w v x. SlotsGood v (x ∷ [])) (directives.index_name n)
index_name_holds own n = made_holds own (λ v o. SlotsGood v (unwrap_or o 0 ∷ [])) (λ v x. SlotsGood v (x ∷ [])) (name_of an_int_scalar n) (λ o. unwrap_or o 0) (kept_steps.name_of going an_int_scalar n).kept (int_slot own n) (λ v o h. h)

-- ---- points and reductions

abbrev pub PointGood : World → Option (ℕ × ℤ) → Type 0
PointGood v x = SlotsGood v (directives.slot_of_point x)

-- What is made of what a run gave, whatever that was.
pub carried : {A B : Type 0} (Q : World → B → Type 0) (v : World) (t : Step A) (f : A → B) → GoesOn v t → ((u : World) (a : A) → Goes v u → Q u (f a)) → Unbroken Q (walk.and_then t (λ a. walk.pure (f a)))
carried Q v (Gave a u) f g k = λ e. k u a g

pub point_holds : (own : Own) (x : Point) → Holds own (λ w v x. PointGood v x) (directives.point_of x)
point_holds own (point.Star at) = record { at = λ w g h p r. tt }
point_holds own (point.Index n offset) =
    holds_then own (λ w v x. SlotsGood v (x ∷ [])) (λ w v x. PointGood v x) (directives.index_name n) (λ slot. walk.◌>>=◌ (directives.offset_of offset) (λ c. walk.pure (Some (slot, c)))) (kept.index_name going n).kept (index_name_holds own n)
    (λ slot. (kept_runs.◌>>=◌ (kept_lines.offset_of going offset) (λ c. kept_runs.pure going (Some (slot, c)))).kept)
    (λ w v slot g o i. carried PointGood v (directives.offset_of offset v) (λ c. Some (slot, c)) ((kept_lines.offset_of going offset).kept.at v) (λ u c q. slots_stay v u (slot ∷ []) (onward_stays q.onward) i))

abbrev pub ReductionGood : World → made_reduction.Reduction → Type 0
ReductionGood v x = SlotsGood v (x.variable.number ∷ [])

reduction_holds : (own : Own) (op : RedOp) (n : named.Name) → Holds own (λ w v x. ReductionGood v x) (directives.reduction_name op n)
reduction_holds own op n = made_holds own (λ v x. SlotsGood v (x.number ∷ [])) ReductionGood (directives.scalar_name n) (λ x. record { op = op; variable = x }) (kept.scalar_name going n).kept (scalar_name_holds own n) (λ v x h. h)

reduction_stays : (w v : World) (x : made_reduction.Reduction) → Goes w v → ReductionGood w x → ReductionGood v x
reduction_stays w v x g h = slots_stay w v (x.variable.number ∷ []) (onward_stays g.onward) h

pub point_stays : (w v : World) (x : Option (ℕ × ℤ)) → Goes w v → PointGood w x → PointGood v x
point_stays w v x g h = slots_stay w v (directives.slot_of_point x) (onward_stays g.onward) h

all_go : {A : Type 0} (P : World → A → Type 0) → ((w v : World) (x : A) → Goes w v → P w x → P v x) → (w v : World) → Goes w v → (xs : List A) → AllByRecursion (P w) xs → AllByRecursion (P v) xs
all_go P f w v g [] h = tt
all_go P f w v g (x ∷ xs) h = (f w v x g h.0, all_go P f w v g xs h.1)

reductions_from : (own : Own) (v : World) (done : List made_reduction.Reduction) (rs : List Reduction) → Good own v → AllByRecursion (ReductionGood v) done → Unbroken (λ u all. AllByRecursion (ReductionGood u) all) (directives.reductions_of done rs v)
reductions_from own v done [] g h = λ e. h
reductions_from own v done (r ∷ rs) g h =
    let names = listed r.list.item.2 in
    let op : RedOp = operation_of r.list.item.0 in
    unbroken_then (λ u all. AllByRecursion (ReductionGood u) all) (λ u all. AllByRecursion (ReductionGood u) all) v (walk.each (directives.reduction_name op) names v) (λ more. directives.reductions_of (done ++ more) rs)
    ((kept_runs.each going (kept.reduction_name going op) names).kept.at v) ((each_holds own ReductionGood reduction_stays (kept.reduction_name going op) (reduction_holds own op) names).at v g) (λ more. kept.reductions_kept going (done ++ more) rs)
    (λ more u o i. reductions_from own u (done ++ more) rs (o.good own g) (all_append (ReductionGood u) done more (all_go ReductionGood reduction_stays v u o done h) i))

-- ---- the line of a loop directive

pub record LineGood (v : World) (parts : LoopParts) : Type 0 where
  pub none : InNone v
  pub points : AllByRecursion (PointGood v) parts.points
  pub reductions : AllByRecursion (ReductionGood v) parts.reductions

pub line_stays : (w v : World) (parts : LoopParts) → Goes w v → LineGood w parts → LineGood v parts
line_stays w v parts g h = record { none = none_stays w v g h.none; points = all_go PointGood point_stays w v g parts.points h.points; reductions = all_go ReductionGood reduction_stays w v g parts.reductions h.reductions }

pub fact_at : {A : Type 0} (own : Own) (P : World → World → A → Type 0) (run : Run A) (w v : World) (a : A) → Holds own P run → Good own w → run w ≡ Gave a v → v.broken ≡ [] → P w v a
fact_at own P run w v a h g e = ends_at (λ a v. v.broken ≡ [] → P w v a) (run w) a v (h.at w g) e

pub line_holds : (own : Own) (line : LoopLine) → Holds own (λ w v x. LineGood v x) (directives.loop_line line)
line_holds own line = record {
  at = λ w g.
      let u : World = directed line.line.word w in
      let d : Goes w u = goes_directed line.line.word w in
      let g0 : Good own u = d.good own g in
      opened (walk.if_there directives.name_list line.names u) _ (λ x v. v.broken ≡ [] → LineGood v x) (λ names v1 e1.
      opened (name_of a_template line.template v1) _ (λ x v. v.broken ≡ [] → LineGood v x) (λ template v2 e2.
      opened (walk.each directives.point_of (parts line.points) v2) _ (λ x v. v.broken ≡ [] → LineGood v x) (λ points v3 e3.
      opened (directives.match_template template (notation line.points) (length points) line.template.at v3) _ (λ x v. v.broken ≡ [] → LineGood v x) (λ x v4 e4.
      opened (directives.lowers_of template v4) _ (λ x v. v.broken ≡ [] → LineGood v x) (λ lowers v6 e6.
      opened (directives.reductions_of [] line.reductions v6) _ (λ x v. v.broken ≡ [] → LineGood v x) (λ reductions v5 e5. λ none.
      let l1 = later_at (walk.if_there directives.name_list line.names) u names v1 (kept_runs.if_there going (kept.name_list going) line.names).kept e1 in
      let l2 = later_at (name_of a_template line.template) v1 template v2 (kept_steps.name_of going a_template line.template).kept e2 in
      let l3 = later_at (walk.each directives.point_of (parts line.points)) v2 points v3 (kept_runs.each going (kept.point_of going) (parts line.points)).kept e3 in
      let l4 = later_at (directives.match_template template (notation line.points) (length points) line.template.at) v3 x v4 (kept_lines.match_template going template (notation line.points) (length points) line.template.at).kept e4 in
      let l6 = later_at (directives.lowers_of template) v4 lowers v6 (kept_lines.lowers_kept going template) e6 in
      let l5 = later_at (directives.reductions_of [] line.reductions) v6 reductions v5 (kept.reductions_kept going [] line.reductions) e5 in
      let n6 = unbroken_before v6 v5 l5.onward.later none in
      let n4 = unbroken_before v4 v6 l6.onward.later n6 in
      let n3 = unbroken_before v3 v4 l4.onward.later n4 in
      let n2 = unbroken_before v2 v3 l3.onward.later n3 in
      let n1 = unbroken_before v1 v2 l2.onward.later n2 in
      let n0 = unbroken_before u v1 l1.onward.later n1 in
      let g2 : Good own v2 = l2.good own (l1.good own g0) in
      let g6 : Good own v6 = l6.good own (l4.good own (l3.good own g2)) in
      let l46 : Goes v3 v5 = goes_trans l4 (goes_trans l6 l5) in
      let l : Goes u v5 = goes_trans l1 (goes_trans l2 (goes_trans l3 l46)) in
      record {
        none = none_stays u v5 l ((directive_holds own line.line.word).at w g n0);
        points = all_go PointGood point_stays v3 v5 l46 points (fact_at own (λ w v all. AllByRecursion (PointGood v) all) (walk.each directives.point_of (parts line.points)) v2 v3 points (each_holds own PointGood point_stays (kept.point_of going) (point_holds own) (parts line.points)) g2 e3 n3);
        reductions = ends_at (λ all v. v.broken ≡ [] → AllByRecursion (ReductionGood v) all) (directives.reductions_of [] line.reductions v6) reductions v5 (reductions_from own v6 [] line.reductions g6 tt) e5 none;
      }))))));
}
