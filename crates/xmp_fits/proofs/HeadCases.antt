-- Declarations and the heads of loops pass the tests of terms.
use Rattle.std.proofs.Common.{◌≡◌, ◌∙◌, sym, ap, refl, ◌++◌, ◌∷◌, [], ◌-◌, ◌&&◌, ℕ, true, Option, Some, None, length}
use Rattle.std.specs.Prelude.{slice_get, is_some}
use Rattle.std.specs.List.{AllByRecursion}
use Rattle.std.proofs.lemmas.Bool.{lt-ltb}
use Rattle.std.proofs.lemmas.Option.{slice_get_within}
use Rattle.xmp_base.specs.declared.place.Place.{Place}
use Rattle.xmp_num.specs.declared.types.Ty.{Ty}
use Rattle.xmp_num.specs.declared.types.Ty.TheVariants.{Int}
use Rattle.xmp_prog.specs.declared.expressions.Expr as prog
use Rattle.xmp_prog.specs.declared.statements.Plain as made_plain
use Rattle.xmp_prog.specs.declared.statements.Plain.TheVariants as p
use Rattle.xmp_prog.specs.declared.statements.Stmt.TheVariants as s
use Rattle.xmp_prog.specs.declared.parts.ProgParts.{ProgParts}
use Rattle.xmp_prog.specs.Terms.{terms_of_option}
use Rattle.xmp_prog.specs.Fits.{has_coarrays}
use Rattle.xmp_syntax.specs.declared.parts.Name as named
use Rattle.xmp_syntax.specs.declared.parts.Reference.{Reference}
use Rattle.xmp_syntax.specs.declared.expression.Expr.{Expr}
use Rattle.xmp_syntax.specs.declared.declaration.Declarator.{Declarator}
use Rattle.xmp_syntax.specs.declared.declaration.Declarator.TheVariants as declarator
use Rattle.xmp_syntax.specs.declared.statement.ForFirst.{ForFirst}
use Rattle.xmp_syntax.specs.declared.statement.ForFirst.TheVariants as for_first
use Rattle.xmp_names.specs.declared.typed.Typed.{Typed}
use Rattle.xmp_names.specs.declared.typed.Operand.{Operand}
use Rattle.xmp_walk.specs.declared.loops.First.{First}
use Rattle.xmp_names.specs.declared.world.World.{World}
use Rattle.xmp_names.specs.Expressions.{is_function, expr_of, reference_of}
use Rattle.xmp_names.specs.Walk as walk
use Rattle.xmp_names.specs.Walk.{Step, Gave, Run, first_place}
use Rattle.xmp_names.specs.Lists.{inner}
use Rattle.xmp_walk.specs.Declarations.{initialiser, local_declarator, declare_array}
use Rattle.xmp_walk.specs.Statements.{set, first_of, index_of, first_part}
use Rattle.xmp_parts.proofs.Unbroken.{left_none, right_none, left_true, right_true}
use Rattle.xmp_fits.proofs.GoodWorlds.{Own, Good}
use Rattle.xmp_fits.proofs.GoodSteps.{Stays, onward_stays, begins_get, get_last}
use Rattle.xmp_fits.proofs.KeptRuns.{Goes, going, going_scalars, going_arrays}
use Rattle.xmp_fits.proofs.Respected.{Ends}
use Rattle.xmp_fits.proofs.RespectedDirectives as kept
use Rattle.xmp_fits.proofs.RespectedLines as kept_lines
use Rattle.xmp_fits.proofs.RespectedSteps as kept_steps
use Rattle.xmp_fits.proofs.Laters.{unbroken_before}
use Rattle.xmp_fits.proofs.Endings.{opened, ends_at, later_at}
use Rattle.xmp_fits.proofs.Holding.{Holds}
use Rattle.xmp_fits.specs.NumbersLie.{numbers_lie, reference_lies, there_lies, second_lies, declarator_lies, first_lies}
use Rattle.xmp_fits.proofs.TreeNumbers.{expr_right}
use Rattle.xmp_fits.proofs.StepsFit.{reference_right, reference_place}
use Rattle.xmp_fits.proofs.PlainFits.{set_fits}
use Rattle.xmp_fits.proofs.TellsTrue.{tells}
use Rattle.xmp_fits.proofs.TermsFit.{or_true}
use Rattle.xmp_fits.proofs.TermTests.{TermPasses}
use Rattle.xmp_fits.proofs.StmtsPass.{plain_passes}
use Rattle.xmp_fits.proofs.TermCases.{Reached, Here, back, StmtGood, OperandGood, SlotsGood, slots_stay, stmt_good, operand_good, test_good}
use Rattle.xmp_fits.proofs.NameSlots.{carried, fact_at, made_holds}

-- ---- declarations

-- The slot of a declaration is there.
pub declared_slot : (n : named.Name) (ty : Ty) (w : World) → Ends (λ slot v. slice_get v.scalars slot ≡ Some ty) (walk.declare_scalar n ty w)
declared_slot n ty w = get_last w.scalars ty

pub slot_good : (v : World) (slot : ℕ) (ty : Ty) → slice_get v.scalars slot ≡ Some ty → SlotsGood v (slot ∷ [])
slot_good v slot ty h p r = (lt-ltb slot (length p.scalars) (slice_get_within p.scalars slot ty (begins_get v.scalars p.scalars slot ty r.extends.scalars h)), tt)

abbrev ValueGood : World → Option prog.Expr → Type 0
ValueGood v o = (p : ProgParts) → Reached p v → Here v (λ inside number. AllByRecursion (TermPasses p true inside number) (terms_of_option p o))

declare_good : (v : World) (slot : ℕ) (value : Option prog.Expr) (at : Place) → SlotsGood v (slot ∷ []) → ValueGood v value → StmtGood v (s.Plain (p.Declare slot value at))
declare_good v slot value at h k p r = plain_passes p true (is_function v.names.region) (length v.names.functions - 1) (made_plain.TheVariants.Declare slot value at) (record {
  terms = k p r;
  assignment = refl;
  format = tt;
  slots = ap (λ b. b && true) (h p r).0;
  sync = or_true (has_coarrays p.kind);
  stands = λ i. refl;
})

value_holds : (own : Own) (x : Option (Place × Expr)) → there_lies second_lies x ≡ true → Holds own (λ w v o. ValueGood v o) (initialiser x)
value_holds own None n = record { at = λ w g e p r. tt }
value_holds own (Some x) n = made_holds own OperandGood ValueGood (walk.typed x.1) (λ t. Some t.made) (kept_steps.typed going x.1).kept (test_good own x.1 n) (λ v t h p r. (h p r).terms)

pub declarator_good : (own : Own) (ty : Ty) (d : Declarator) → declarator_lies d ≡ true → Holds own (λ w v all. AllByRecursion (StmtGood v) all) (local_declarator ty d)
declarator_good own ty (declarator.Scalar n value) h = record {
  at = λ w g.
      opened (walk.declare_scalar n ty w) (λ slot. walk.◌>>=◌ (initialiser value) (λ first. walk.pure (s.Plain (p.Declare slot first n.at) ∷ []))) (λ all v. v.broken ≡ [] → AllByRecursion (StmtGood v) all) (λ slot v1 e1.
      opened (initialiser value v1) _ (λ all v. v.broken ≡ [] → AllByRecursion (StmtGood v) all) (λ first v2 e2. λ none.
      let l1 = later_at (walk.declare_scalar n ty) w slot v1 (kept_steps.declare_scalar going going_scalars n ty).kept e1 in
      let l2 = later_at (initialiser value) v1 first v2 (kept_lines.initialiser going value).kept e2 in
      let there = ends_at (λ slot v. slice_get v.scalars slot ≡ Some ty) (walk.declare_scalar n ty w) slot v1 (declared_slot n ty w) e1 in
      (declare_good v2 slot first n.at (slots_stay v1 v2 (slot ∷ []) (onward_stays l2.onward) (slot_good v1 slot ty there)) (fact_at own (λ w v o. ValueGood v o) (initialiser value) v1 v2 first (value_holds own value h) (l1.good own g) e2 none), tt)));
}
declarator_good own ty (declarator.Array n extents image) h = record {
  at = λ w g.
      carried (λ u all. AllByRecursion (StmtGood u) all) w (declare_array ty n (inner extents) (is_some image) w) (λ _. []) ((kept_lines.array_kept going going_arrays ty n (inner extents) (is_some image)).at w) (λ u a q. tt);
}

-- ---- the first part of a `for`

record BothGood (v : World) (at : Place) (t x : Operand) : Type 0 where
  set : StmtGood v (set None at t x)
  target : OperandGood v t
  value : OperandGood v x

both_good : (own : Own) (w v : World) (at : Place) (r : Reference Expr) (x : Expr) → Good own w → Goes w v → reference_lies r ≡ true → numbers_lie x ≡ true →
    v.broken ≡ (w.broken ++ (reference_of w.names r).notes.broken) ++ (expr_of w.names x).notes.broken → v.broken ≡ [] → BothGood v at (reference_of w.names r).operand (expr_of w.names x).operand
both_good own w v at r x g o h k is none =
    let y : Typed = reference_of w.names r in
    let z : Typed = expr_of w.names x in
    let st : Stays w v = onward_stays o.onward in
    let all : (w.broken ++ y.notes.broken) ++ z.notes.broken ≡ [] = sym is ∙ none in
    let start : w.broken ≡ [] = unbroken_before w v o.onward.later none in
    let one : y.notes.broken ≡ [] = right_none w.broken y.notes.broken (left_none (w.broken ++ y.notes.broken) z.notes.broken all) in
    let two : z.notes.broken ≡ [] = right_none (w.broken ++ y.notes.broken) z.notes.broken all in record {
      set = λ p r0. let t = tells own w p g (back p w v st r0).extends in
          stmt_good own p w v (set None at y.operand z.operand) g start t st (set_fits w.names p None at y.operand z.operand tt (reference_right w.names p t r h one) (reference_place w.names r one) (expr_right w.names p t x k two));
      target = λ p r0. let t = tells own w p g (back p w v st r0).extends in operand_good own p w v y.operand g start t st (reference_right w.names p t r h one);
      value = λ p r0. let t = tells own w p g (back p w v st r0).extends in operand_good own p w v z.operand g start t st (expr_right w.names p t x k two);
    }

-- What a `for` does first, as it is asked for by the induction.
pub record FirstGood (v : World) (x : First) : Type 0 where
  pub declared : AllByRecursion (StmtGood v) x.declared
  pub set : StmtGood v (set None x.at x.target x.value)
  pub target : OperandGood v x.target
  pub value : OperandGood v x.value

pub first_good : (own : Own) (x : ForFirst) → first_lies x ≡ true → Holds own (λ w v x. FirstGood v x) (first_of x)
first_good own (for_first.Assign r at x) n = record {
  at = λ w g none.
      let b = both_good own w _ (first_place x) r x g ((kept.first_kept going going_scalars (for_first.Assign r at x)).at w) (left_true (reference_lies r) _ n) (right_true (reference_lies r) _ n) refl none in
      record { declared = tt; set = b.set; target = b.target; value = b.value };
}
first_good own (for_first.Declare at n equals x) k = record {
  at = λ w g.
      opened (walk.declare_scalar n Int w) (λ slot. walk.◌>>=◌ (walk.typed_reference (index_of n)) (λ t. walk.◌>>=◌ (walk.typed x) (λ v. walk.pure (first_part (s.Plain (p.Declare slot None n.at) ∷ []) x t v)))) (λ f v. v.broken ≡ [] → FirstGood v f) (λ slot v1 e1. λ none.
      let l1 = later_at (walk.declare_scalar n Int) w slot v1 (kept_steps.declare_scalar going going_scalars n Int).kept e1 in
      let o = (kept.first_kept going going_scalars (for_first.Assign (index_of n) at x)).at v1 in
      let there = ends_at (λ slot v. slice_get v.scalars slot ≡ Some Int) (walk.declare_scalar n Int w) slot v1 (declared_slot n Int w) e1 in
      let b = both_good own v1 _ (first_place x) (index_of n) x (l1.good own g) o refl k refl none in
      record { declared = (declare_good _ slot None n.at (slots_stay v1 _ (slot ∷ []) (onward_stays o.onward) (slot_good v1 slot Int there)) (λ p r. tt), tt); set = b.set; target = b.target; value = b.value });
}
