-- The instance of the induction for the tests of terms.
use Rattle.std.proofs.Common.{◌≡◌, ◌∙◌, sym, ap, refl, subst, ◌++◌, ◌∷◌, [], ◌+◌, ◌-◌, ℕ, ℤ, Bool, true, false, List, Option, Some, None, length, map}
use Rattle.std.specs.Prelude.{pos, if◌then◌else◌}
use Rattle.std.specs.List.{flat_map, AllByRecursion}
use Rattle.std.specs.Option.{unwrap_or}
use Rattle.std.proofs.lemmas.Option.{same_Some, none-some}
use Rattle.xmp_base.specs.declared.place.Place.{Place}
use Rattle.xmp_num.specs.declared.types.Ty.{Ty}
use Rattle.xmp_num.specs.declared.types.Ty.TheVariants.{Int}
use Rattle.xmp_map.specs.declared.grid.NodeSet.{NodeSet}
use Rattle.xmp_prog.specs.declared.expressions.Expr as prog
use Rattle.xmp_prog.specs.declared.expressions.Expr.{out-Expr, roll-out-Expr}
use Rattle.xmp_prog.specs.declared.expressions.Expr.TheVariants as e
use Rattle.xmp_prog.specs.declared.expressions.Expr.TheOpen.{Expr-F}
use Rattle.xmp_prog.specs.declared.expressions.Access.{Access}
use Rattle.xmp_prog.specs.declared.statements.Stmt as made
use Rattle.xmp_prog.specs.declared.statements.Stmt.TheVariants as s
use Rattle.xmp_prog.specs.declared.statements.Task.{Task}
use Rattle.xmp_prog.specs.declared.statements.Reduction as made_reduction
use Rattle.xmp_prog.specs.declared.parts.ProgParts.{ProgParts}
use Rattle.xmp_prog.specs.Numbers.{lies_in}
use Rattle.xmp_prog.specs.Fits.{has_coarrays}
use Rattle.xmp_prog.specs.Terms.{Typed, terms_of, typed_step, access_step}
use Rattle.xmp_prog.specs.Statements.{slots_of_point}
use Rattle.xmp_prog.proofs.Rolls as rolls
use Rattle.xmp_syntax.specs.declared.directive.Sections.{Sections}
use Rattle.xmp_syntax.specs.declared.directive.DirectiveLine.{DirectiveLine}
use Rattle.xmp_syntax.specs.declared.directive.TaskLine.{TaskLine}
use Rattle.xmp_syntax.specs.declared.statement.ForHead.{ForHead}
use Rattle.xmp_syntax.specs.declared.statement.Plain.TheVariants as plain
use Rattle.xmp_walk.specs.declared.loops.First.{First}
use Rattle.xmp_walk.specs.declared.loops.Shape.{Shape}
use Rattle.xmp_directives.specs.declared.loop_lines.LoopParts.{LoopParts}
use Rattle.xmp_names.specs.declared.typed.Operand.{Operand}
use Rattle.xmp_names.specs.declared.world.World.{World}
use Rattle.xmp_names.specs.Expressions.{is_function}
use Rattle.xmp_walk.specs.Statements.{right_side, one, first_of, shape_of, shape_by, shape_at, is_bump, compared_at, added_by}
use Rattle.xmp_names.specs.Typing.{is_of}
use Rattle.xmp_walk.specs.Counted.{is_counted, bound_of}
use Rattle.xmp_names.specs.Rules.{unless}
use Rattle.xmp_names.specs.declared.rules.Rule.TheVariants.{M7}
use Rattle.xmp_directives.specs.Directives as directives
use Rattle.xmp_directives.specs.Directives.{made_points, made_loop, made_task, nest_of}
use Rattle.xmp_parts.proofs.Unbroken.{left_none, left_true}
use Rattle.xmp_fits.proofs.GoodWorlds.{Own}
use Rattle.xmp_fits.proofs.GoodSteps.{Stays, onward_stays}
use Rattle.xmp_fits.proofs.KeptRuns.{goes_trans, going}
use Rattle.xmp_fits.proofs.RespectedSteps as kept_steps
use Rattle.xmp_fits.proofs.RespectedDirectives as kept
use Rattle.xmp_fits.proofs.Laters.{unbroken_before}
use Rattle.xmp_fits.proofs.Endings.{opened, later_at, directed}
use Rattle.xmp_fits.proofs.Holding.{Unbroken, Holds, unbroken_map}
use Rattle.xmp_fits.proofs.OneWorld.{Tests, Cases, FirstFits, counted_head}
use Rattle.xmp_fits.specs.NumbersLie.{plain_lies}
use Rattle.xmp_fits.proofs.TermsFit.{all_append, or_true}
use Rattle.xmp_fits.proofs.TermTests.{TermPasses, OperandPasses, is_slot}
use Rattle.xmp_fits.proofs.ClausesHold.{StmtPasses}
use Rattle.xmp_fits.proofs.StmtsPass.{block_passes, if_passes, while_passes, counted_passes, heads_pass, loop_passes, TaskPasses, task_passes, tasks_pass}
use Rattle.xmp_fits.proofs.NestsPass.{nest_passes}
use Rattle.xmp_fits.proofs.TermTests as tests
use Rattle.xmp_fits.proofs.TermCases.{Reached, Here, StmtGood, OperandGood, back, here_stays, stmt_stays, operand_stays, slots_stay, test_good}
use Rattle.xmp_fits.proofs.NameSlots.{InNone, none_stays, directive_holds, PointGood, ReductionGood, LineGood, line_holds, carried}
use Rattle.xmp_fits.proofs.PlainCases.{plain_good}
use Rattle.xmp_fits.proofs.HeadCases.{declarator_good, first_good, FirstGood}

-- ---- what is to hold

-- Tasks stand in no function, and their statements pass.
pub record TasksGood (v : World) (all : List Task) : Type 0 where
  pub none : (all ≡ [] → ⊥) → InNone v
  pub fit : (p : ProgParts) → Reached p v → Here v (λ inside number. AllByRecursion (TaskPasses p true inside number) all)

abbrev pub term_tests : Tests
term_tests = record {
  Fit = StmtGood;
  Reads = OperandGood;
  Lines = LineGood;
  Sets = λ before v x. InNone v;
  Sharing = λ v sets all. TasksGood v all;
}

region_stays : (w v : World) → Stays w v → InNone w → InNone v
region_stays w v s h = ap is_function s.region ∙ h

all_go : {A : Type 0} (P Q : A → Type 0) → ((x : A) → P x → Q x) → (xs : List A) → AllByRecursion P xs → AllByRecursion Q xs
all_go P Q f xs h = tests.all_map P Q f xs h

line_so : (w v : World) (parts : LoopParts) → Stays w v → LineGood w parts → LineGood v parts
line_so w v parts s h = record {
  none = region_stays w v s h.none;
  points = all_go (PointGood w) (PointGood v) (λ x k. slots_stay w v (directives.slot_of_point x) s k) parts.points h.points;
  reductions = all_go (ReductionGood w) (ReductionGood v) (λ x k. slots_stay w v (x.variable.number ∷ []) s k) parts.reductions h.reductions;
}

tasks_so : (w v : World) (all : List Task) → Stays w v → TasksGood w all → TasksGood v all
tasks_so w v all s h = record {
  none = λ n. region_stays w v s (h.none n);
  fit = λ p r. here_stays w v (λ inside number. AllByRecursion (TaskPasses p true inside number) all) s (h.fit p (back p w v s r));
}

-- ---- operands

module _ (p : ProgParts) (inside : Bool) (number : ℕ) where
  abbrev Terms : prog.Expr → Type 0
  Terms x = AllByRecursion (TermPasses p true inside number) (terms_of p x)

  pub const_passes : (v : ℤ) (ty : Ty) → lies_in ty v ≡ true → Terms (e.Const v ty)
  const_passes v ty h = subst (λ (t : Typed). AllByRecursion (TermPasses p true inside number) t.terms) (sym (rolls.at_const Typed Typed (typed_step p) (access_step p) v ty)) (
    record {
      constant = h;
      operands = refl;
      choice = refl;
      element = refl;
      calls = refl;
      arguments = refl;
      image = refl;
      nodes = or_true (has_coarrays p.kind);
      slots = refl;
      own_calls = λ i. refl;
      own_elements = λ q i. refl;
    },
    tt,
  )

  -- the right operand of an operator
  second_half : {A : Type 0} (P : A → Type 0) (xs ys : List A) → AllByRecursion P (xs ++ ys) → AllByRecursion P ys
  second_half P [] ys h = h
  second_half P (x ∷ xs) ys h = second_half P xs ys h.1

  right_in : (y : Expr-F prog.Expr Access) → Terms (prog.roll-Expr y) → Terms (right_side y)
  right_in (Expr-F.Binary o ty a b at) h =
      let t = subst (λ (x : prog.Expr). Terms x) (e.rolls-Binary o ty a b at) h in
      let u = subst (λ (t : Typed). AllByRecursion (TermPasses p true inside number) t.terms) (rolls.at_binary Typed Typed (typed_step p) (access_step p) o ty a b at) t in
      second_half (TermPasses p true inside number) (terms_of p a) (terms_of p b) u.1
  right_in _ h = const_passes (pos 0) Int refl

  right_passes : (x : prog.Expr) → Terms x → Terms (right_side (out-Expr x))
  right_passes x h = right_in (out-Expr x) (subst (λ (y : prog.Expr). Terms y) (sym (roll-out-Expr x)) h)

  scalar_slot : (x : prog.Expr) (slot : ℕ) (at : Place) → out-Expr x ≡ Expr-F.Scalar slot at → Terms x → is_slot p slot ≡ true
  scalar_slot x slot at is h =
      let t : Terms (e.Scalar slot at) = subst (λ (y : prog.Expr). Terms y) (sym (roll-out-Expr x) ∙ (ap prog.roll-Expr is ∙ e.rolls-Scalar slot at)) h in
      let u = subst (λ (t : Typed). AllByRecursion (TermPasses p true inside number) t.terms) (rolls.at_scalar Typed Typed (typed_step p) (access_step p) slot at) t in
      left_true (is_slot p slot) true u.0.slots

-- ---- the index of a counted loop

record IsIndex (x : prog.Expr) (shape : Shape) : Type 0 where
  at : Place
  is : out-Expr x ≡ Expr-F.Scalar shape.index.number at

if_some : {A B : Type 0} (P : A → B) (b : Bool) (x : A) (y : A) → (if b then Some x else None) ≡ Some y → P x ≡ P y
if_some P true x y h = ap P (same_Some x y h)
if_some P false x y h = absurd (none-some y h)

shape_index : (i : ℕ) (at : Place) (by_one : Bool) (bound : Option (prog.Expr × Bool)) (to_at : Option Place) (step : Option ℕ) (body : made.Stmt) (shape : Shape) → shape_by i at by_one bound to_at step body ≡ Some shape → i ≡ shape.index.number
shape_index i at by_one (Some bound) (Some to_at) (Some step) body shape h = if_some (λ (s : Shape). s.index.number) (is_counted i bound.0 bound.1 by_one body) _ shape h
shape_index i at by_one (Some bound) (Some to_at) None body shape h = absurd (none-some shape h)
shape_index i at by_one (Some bound) None step body shape h = absurd (none-some shape h)
shape_index i at by_one None to_at step body shape h = absurd (none-some shape h)

index_in : (h : ForHead) (ty : Option Ty) (test : Operand) (next body : made.Stmt) (x : prog.Expr) (y : Expr-F prog.Expr Access) (shape : Shape) → out-Expr x ≡ y → shape_at h ty test next body y ≡ Some shape → IsIndex x shape
index_in h ty test next body x (Expr-F.Scalar i at) shape is e = go (is_of ty Int) e
  where
    go : (b : Bool) → (if b then shape_by i at (is_bump h.next) (bound_of i (out-Expr test.made)) (compared_at h.test) (added_by i (made.out-Stmt next)) body else None) ≡ Some shape → IsIndex x shape
    go true e = record { at = at; is = is ∙ ap (λ n. Expr-F.Scalar n at) (shape_index i at (is_bump h.next) (bound_of i (out-Expr test.made)) (compared_at h.test) (added_by i (made.out-Stmt next)) body shape e) }
    go false e = absurd (none-some shape e)
index_in h ty test next body x _ shape is e = absurd (none-some shape e)

pub counted_good : (h : ForHead) (v : World) (shape : Shape) (first : First) (test : Operand) (next body : made.Stmt) → shape_of h (Some first) (Some test) (Some next) body ≡ Some shape →
    OperandGood v first.target → OperandGood v first.value → OperandGood v test → StmtGood v body → StmtGood v (s.Counted (counted_head shape first test) body)
counted_good h v shape first test next body is target value read fit p r =
    let inside : Bool = is_function v.names.region in
    let number : ℕ = length v.names.functions - 1 in
    let i = index_in h first.target.ty test next body first.target.made (out-Expr first.target.made) shape refl is in
    counted_passes p true inside number (counted_head shape first test) body (record {
      slot = scalar_slot p inside number first.target.made shape.index.number i.at i.is (target p r).terms;
      terms = all_append (TermPasses p true inside number) (terms_of p first.value.made) _ (value p r).terms (right_passes p inside number test.made (read p r).terms);
    }) (fit p r)

-- ---- the loop directive

point_slots : (v : World) (lowers : List ℤ) (k : ℕ) (ps : List (Option (ℕ × ℤ))) → AllByRecursion (PointGood v) ps → (p : ProgParts) → Reached p v → AllByRecursion (λ n. is_slot p n ≡ true) (flat_map slots_of_point (made_points lowers k ps))
point_slots v lowers k [] h p r = tt
point_slots v lowers k (None ∷ ps) h p r = point_slots v lowers (k + 1) ps h.1 p r
point_slots v lowers k (Some x ∷ ps) h p r = ((h.0 p r).0, point_slots v lowers (k + 1) ps h.1 p r)

reduction_slots : (v : World) (rs : List made_reduction.Reduction) → AllByRecursion (ReductionGood v) rs → (p : ProgParts) → Reached p v → AllByRecursion (λ n. is_slot p n ≡ true) (map (λ r. r.variable.number) rs)
reduction_slots v [] h p r = tt
reduction_slots v (x ∷ xs) h p r = ((h.0 p r).0, reduction_slots v xs h.1 p r)

loop_here : (v : World) (parts : LoopParts) (n : ℕ) (x : made.Stmt) (at : Place) → LineGood v parts → StmtGood v x → StmtGood v (made_loop parts (nest_of n x) at)
loop_here v parts n x at l fit p r =
    let inside : Bool = is_function v.names.region in
    let number : ℕ = length v.names.functions - 1 in
    loop_passes p true inside number (record { template = unwrap_or parts.template 0; points = made_points parts.lowers 0 parts.points; nest = (nest_of n x).0; reductions = parts.reductions; at = at }) (nest_of n x).1 l.none
    (point_slots v parts.lowers 0 parts.points l.points p r) (heads_pass p true inside number n x (fit p r)) (reduction_slots v parts.reductions l.reductions p r) (nest_passes (tests.StatementPasses p true inside number) n x (fit p r))

loop_good : (word : Place) (v : World) (parts : LoopParts) (n : ℕ) (x : made.Stmt) → LineGood v parts → StmtGood v x → Unbroken StmtGood (directives.judged_loop word parts (nest_of n x) v)
loop_good word v parts n x l fit =
    let test : Bool = directives.loop_right parts.names parts.points (nest_of n x).0 in
    let u : World = record v { broken = v.broken ++ unless test M7 word } in
    carried StmtGood u (directives.use_template parts.template word (map directives.is_indexed parts.points) u) (λ _. made_loop parts (nest_of n x) word)
    ((kept.use_kept going parts.template word (map directives.is_indexed parts.points)).at u)
    (λ w a q. stmt_stays v w _ (onward_stays (goes_trans ((kept_steps.judge going test M7 word).kept.at v) q).onward) (loop_here v parts n x word l fit))

-- ---- tasks

set_holds : (own : Own) (before : List NodeSet) (l : TaskLine) → Holds own (λ w v x. InNone v) (directives.task_line before l)
set_holds own before l = record {
  at = λ w g.
      opened (directives.set_of false l.line.word l.set (directed l.line.word w)) _ (λ x v. v.broken ≡ [] → InNone v) (λ nodes v1 e1. λ none.
      let l1 = later_at (directives.set_of false l.line.word l.set) (directed l.line.word w) nodes v1 (kept.set_of going false l.line.word l.set).kept e1 in
      let n1 = left_none v1.broken _ none in
      let n0 = unbroken_before (directed l.line.word w) v1 l1.onward.later n1 in
      none_stays (directed l.line.word w) v1 l1 ((directive_holds own l.line.word).at w g n0));
}

in_none : (v : World) (all : List Task) → (all ≡ [] → InNone v) → ((all ≡ [] → ⊥) → InNone v) → InNone v
in_none v [] f g = f refl
in_none v (t ∷ ts) f g = g (λ e. cc)

blocks : (p : ProgParts) (v : World) → Reached p v → (all : List made.Stmt) → AllByRecursion (StmtGood v) all → AllByRecursion (StmtPasses p true (is_function v.names.region) (length v.names.functions - 1)) all
blocks p v r all h = all_go (StmtGood v) (StmtPasses p true (is_function v.names.region) (length v.names.functions - 1)) (λ x k. k p r) all h

one_good : (v : World) → OperandGood v one
one_good v p r = record { ty = Int; typed = refl; is = ap (λ (t : Typed). t.ty) (rolls.at_const Typed Typed (typed_step p) (access_step p) (pos 1) Int); terms = const_passes p (is_function v.names.region) (length v.names.functions - 1) (pos 1) Int refl; lies = refl; constant = refl }

module _ (own : Own) (gmove_holds : (line : DirectiveLine) (target source : Sections) → plain_lies (plain.Gmove line target line.word source line.word) ≡ true → Holds own (λ w v x. StmtGood v x) (directives.gmove_of line target source)) where
  pub term_cases : Cases own term_tests
  term_cases = record {
    fit_stays = stmt_stays;
    reads_stay = operand_stays;
    lines_stay = line_so;
    sharing_stays = λ w v sets all s h. tasks_so w v all s h;
    sets_stay = λ before w v x s h. region_stays w v s h;
    plain = plain_good own gmove_holds;
    declarator = declarator_good own;
    test = test_good own;
    one = one_good;
    block = λ v all g h p r. block_passes p true (is_function v.names.region) (length v.names.functions - 1) all (blocks p v r all h);
    if_of = λ v x a c g i j k p r. if_passes p true (is_function v.names.region) (length v.names.functions - 1) x.made a c (i p r).terms (j p r) (k p r);
    while_of = λ v x a at g i j p r. while_passes p true (is_function v.names.region) (length v.names.functions - 1) x.made a at (i p r).terms (j p r);
    first = λ x n. record { at = λ w g. unbroken_map FirstGood (FirstFits term_tests) (first_of x w) ((first_good own x n).at w g) (λ f v h. record { declared = h.declared; set = h.set; target = h.target; value = h.value }) };
    counted = λ h v shape first test next body g is last f t n b. counted_good h v shape first test next body is f.target f.value t b;
    line = λ l n. line_holds own l;
    loop = λ l v parts x g i j. loop_good l.line.word v parts (length parts.names) x i j;
    set = λ before l n. set_holds own before l;
    no_task = λ v. record { none = λ n. absurd (n refl); fit = λ p r. tt };
    one_task = λ v before done nodes x at i j k. record {
      none = λ n. j;
      fit = λ p r. all_append (TaskPasses p true (is_function v.names.region) (length v.names.functions - 1)) done (made_task nodes x at ∷ []) (i.fit p r) (task_passes p true (is_function v.names.region) (length v.names.functions - 1) nodes x at (k p r), tt);
    };
    tasks = λ v before done at n g i p r. tasks_pass p true (is_function v.names.region) (length v.names.functions - 1) done at (in_none v done n i.none) (i.fit p r);
  }
