-- A node follows the serial run of `if (q) v = x;` that is the form of a maximum or a minimum.
use Rattle.std.proofs.Common.{◌≡◌, ◌<◌, ◌⊎◌, inl, inr, ◌||◌, ℕ, ℤ, Bool, true, false, true≢false, List, [], ◌∷◌, length, None, refl, sym, subst, ap, ◌∙◌}
use Rattle.std.specs.List.{AllByRecursion}
use Rattle.xmp_base.specs.declared.place.Place.{Place}
use Rattle.xmp_num.specs.declared.types.RedOp.{RedOp}
use Rattle.xmp_num.specs.declared.types.RedOp.TheVariants as red
use Rattle.xmp_num.specs.declared.types.BinOp.{BinOp}
use Rattle.xmp_num.specs.declared.types.BinOp.TheVariants as op
use Rattle.xmp_num.specs.declared.types.Ty.{Ty}
use Rattle.xmp_num.specs.Arithmetic.{FitsType, wrap}
use Rattle.xmp_num.specs.Reduction.{combine_of}
use Rattle.xmp_map.proofs.Counted.{and_left, and_right}
use Rattle.xmp_paths.specs.NodeSets.{has}
use Rattle.xmp_paths.specs.Plans.{Plan, in_order}
use Rattle.xmp_paths.specs.Safe.{Safe, NothingWrong}
use Rattle.xmp_paths.specs.declared.event.Event.{Event}
use Rattle.xmp_prog.specs.declared.parts.ProgParts.{ProgParts}
use Rattle.xmp_prog.specs.declared.expressions.Expr.{Expr}
use Rattle.xmp_prog.specs.declared.expressions.Expr.TheVariants as expr
use Rattle.xmp_prog.specs.declared.expressions.Expr.TheOpen.{Expr-F}
use Rattle.xmp_prog.specs.declared.statements.Target.TheVariants as target
use Rattle.xmp_prog.specs.declared.statements.Plain.{Plain}
use Rattle.xmp_prog.specs.declared.statements.Plain.TheVariants as plain
use Rattle.xmp_prog.specs.declared.statements.Stmt.{Stmt}
use Rattle.xmp_prog.specs.declared.statements.Stmt.TheVariants as stmt
use Rattle.xmp_prog.specs.Numbers.{same_type}
use Rattle.xmp_prog.specs.Terms.{Term, Of, Typed, typed_step, terms_of, type_of}
use Rattle.xmp_prog.specs.Terms as terms
use Rattle.xmp_prog.specs.Tests.{is_shift, right_fits}
use Rattle.xmp_prog.proofs.Rolls as rolls
use Rattle.xmp_loops.specs.Same.{same}
use Rattle.xmp_loops.specs.Forms.{in_type, goes_before, goes_behind, variable}
use Rattle.xmp_loops.specs.declared.role.Role.TheVariants.{Reduced}
use Rattle.xmp_flow.specs.Reads.{reads_of, reads_of_all}
use Rattle.xmp_meaning.specs.declared.ends.End.{End}
use Rattle.xmp_meaning.specs.declared.ends.Flow.{Flow}
use Rattle.xmp_meaning.specs.declared.ends.Flow.TheVariants.{Next}
use Rattle.xmp_meaning.specs.Runs.{State, Gave, Ended, Run, ◌>>=◌}
use Rattle.xmp_meaning.specs.Blocks.{block, choose}
use Rattle.xmp_meaning.specs.Context.{Context}
use Rattle.xmp_meaning.specs.Handlers.{Handlers, TaskRun, erased}
use Rattle.xmp_meaning.specs.Declarations.{scalar_type}
use Rattle.xmp_meaning.specs.Expressions.{Element, expr_step, access_step, expr_of, holds}
use Rattle.xmp_meaning.specs.Statements.{plain_of, stmt_step, task_step, stmt_of}
use Rattle.xmp_meaning.specs.Exchanges.{Notes, traced}
use Rattle.xmp_meaning.specs.Traffic.{node_context}
use Rattle.xmp_meaning_laws.specs.Laws.{scalar_in}
use Rattle.xmp_meaning_laws.proofs.Values.{same_types}
use Rattle.xmp_nodes.specs.Lockstep.{lockstep}
use Rattle.xmp_nodes.proofs.Agrees.{Stand, Agrees, EndsSo, Along, Carried, IsNext}
use Rattle.xmp_nodes.proofs.Standing.{TermStands, PartFits, IsSetting}
use Rattle.xmp_nodes.proofs.Leaves.{serial_cx, noting, IfFormsCarry}
use Rattle.xmp_nodes.proofs.MetEvents.{EachEvent, EachOf, NoMark, IsFine, each_ordered, ordered_each, each_is_fine}
use Rattle.xmp_nodes.proofs.SameRuns.{noted_expr, noted_plain, alone_is_erased}
use Rattle.xmp_nodes.proofs.PartSplits.{plain_fits}
use Rattle.xmp_nodes.proofs.PlainsCarried.{all_unmarked, apart}
use Rattle.xmp_nodes.proofs.WideBits.{same_operators}
use Rattle.xmp_nodes.proofs.SameGives.{gave_second, same_gives}
use Rattle.xmp_nodes.proofs.PlainWrites.{with_scalar}
use Rattle.xmp_nodes.proofs.ReductionValues.{picks_before, picks_behind, Value, Stop, value_or_stop, sum_along, in_loop}
use Rattle.xmp_nodes.proofs.ReductionIfs.{IsCompared, IsIfForm, is_if_form, in_type_gives, variable_gives, set_run, test_run, if_run, if_gives, first_ends, second_ends}

-- ---- the runs

module _ (X : Type 0) (h : Handlers X) (cx : Context) where
  empty_is : stmt_of h cx (stmt.Block []) ≡ block []
  empty_is = rolls.at_block (Run X Flow) (TaskRun X) (stmt_step h cx) task_step []

  plain_is : (q : Plain) → stmt_of h cx (stmt.Plain q) ≡ plain_of h cx q
  plain_is q = rolls.at_plain (Run X Flow) (TaskRun X) (stmt_step h cx) task_step q

  binary_is : (o : BinOp) (ty : Ty) (a b : Expr) (at : Place) → expr_of h cx (expr.Binary o ty a b at) ≡ expr_step h cx (Expr-F.Binary o ty (expr_of h cx a) (expr_of h cx b) at)
  binary_is o ty a b at = rolls.at_binary (Run X ℤ) (Element X) (expr_step h cx) (access_step cx) o ty a b at

module _ (a : Stand) (is : IsSetting a) (there : has a.set.nodes a.node ≡ true) (input : List ℕ) (slot : ℕ) (r : RedOp) (role : a.set.roles slot ≡ Reduced r)
    (o : BinOp) (ty : Ty) (first second : Expr) (at here read : Place) (value new : Expr) (typed : ty ≡ scalar_type a.program slot)
    (alike : same new (in_type a.program (scalar_type a.program slot) value) ≡ true) (lies : slot < length a.program.scalars)
    (new_terms : AllByRecursion (TermStands a.program) (terms_of a.program new)) (new_type : type_of a.program new ≡ ty)
    (quiet : NothingWrong (in_order (reads_of_all (new ∷ value ∷ []) a.set))) where
  abbrev scx : Context
  scx = serial_cx a.program input

  abbrev ncx : Context
  ncx = node_context a.program a.node input

  abbrev serial_run : Run Notes Flow
  serial_run = if_run Notes scx o ty first second at slot here value

  abbrev node_run : Run (Unit {0}) Flow
  node_run = if_run (Unit {0}) ncx o ty first second at slot here value

  abbrev plan : Plan Event
  plan = in_order (reads_of_all (new ∷ value ∷ []) a.set)

  inside : a.set.inside ≡ true
  inside = in_loop a is slot r role

  module _ (stale : ℕ → Bool) (s : State Notes) (n : State (Unit {0})) (safe : Safe a.node plan stale) (g : Agrees a stale s n) where
    clear : EachOf NoMark (reads_of_all (new ∷ value ∷ []) a.set)
    clear = all_unmarked a.set (new ∷ value ∷ [])

    fine : EachEvent (IsFine a.node stale) (reads_of new a.set)
    fine = (each_ordered (IsFine a.node stale) (reads_of_all (new ∷ value ∷ []) a.set)
        (each_is_fine a.node plan stale safe quiet (ordered_each NoMark (reads_of_all (new ∷ value ∷ []) a.set) clear))).0

    -- both states with the variable combined with the value
    both_set : (v : ℤ) → FitsType (scalar_type a.program slot) v
        → serial_run s ≡ Gave Next (with_scalar slot (combine_of r ty (scalar_in s slot) v) s)
        → node_run n ≡ Gave Next (with_scalar slot (combine_of r ty (scalar_in n slot) v) n)
        → Along a IsNext plan stale s n (serial_run s) (node_run n)
    both_set v f i j =
        subst (λ q. Along a IsNext plan stale s n q (node_run n)) (sym i)
        (subst (λ q. Along a IsNext plan stale s n (Gave Next (with_scalar slot (combine_of r ty (scalar_in s slot) v) s)) q) (sym j)
        (sum_along a is there input stale s n g IsNext refl (reads_of_all (new ∷ value ∷ []) a.set) clear slot r role lies v f
        (combine_of r ty (scalar_in s slot) v) (combine_of r ty (scalar_in n slot) v)
        (ap (λ t. combine_of r t (scalar_in s slot) v) typed) (ap (λ t. combine_of r t (scalar_in n slot) v) typed)))

    both_end : (e : End) (t : State Notes) (m : State (Unit {0})) → EndsSo a e t e m → serial_run s ≡ Ended e t → node_run n ≡ Ended e m → Along a IsNext plan stale s n (serial_run s) (node_run n)
    both_end e t m h i j = subst (λ q. Along a IsNext plan stale s n q (node_run n)) (sym i) (subst (λ q. Along a IsNext plan stale s n (Ended e t) q) (sym j) h)

    new_value : Value a is there input stale s n g (type_of a.program new) (expr_of erased scx new s) (expr_of erased ncx new n)
        ⊎ Stop a is there input stale s n g (expr_of erased scx new s) (expr_of erased ncx new n)
    new_value = value_or_stop a is there input stale s n g new inside new_terms fine

    fits_variable : (v : ℤ) → FitsType (type_of a.program new) v → FitsType (scalar_type a.program slot) v
    fits_variable v f = subst (λ t. FitsType t v) (new_type ∙ typed) f

    -- in one run: what is compared, by the variable and the value
    serial_value : (v : ℤ) → FitsType (scalar_type a.program slot) v → expr_of erased scx new s ≡ Gave v s → (u : ℤ) × (expr_of erased scx value s ≡ Gave u s) × (wrap (scalar_type a.program slot) u ≡ v)
    serial_value v f e = in_type_gives Notes scx a.program (scalar_type a.program slot) value v s f
        (gave_second Notes scx (expr_of erased scx new s) (expr_of erased scx (in_type a.program (scalar_type a.program slot) value) s) v s
        (same_gives Notes scx new (in_type a.program (scalar_type a.program slot) value) alike s) e)

    node_value : (v : ℤ) → FitsType (scalar_type a.program slot) v → expr_of erased ncx new n ≡ Gave v n → (u : ℤ) × (expr_of erased ncx value n ≡ Gave u n) × (wrap (scalar_type a.program slot) u ≡ v)
    node_value v f e = in_type_gives (Unit {0}) ncx a.program (scalar_type a.program slot) value v n f
        (gave_second (Unit {0}) ncx (expr_of erased ncx new n) (expr_of erased ncx (in_type a.program (scalar_type a.program slot) value) n) v n
        (same_gives (Unit {0}) ncx new (in_type a.program (scalar_type a.program slot) value) alike n) e)

    -- the value stands first
    before : goes_before r o ≡ true → same second (variable slot read) ≡ true → first ≡ new → Along a IsNext plan stale s n (serial_run s) (node_run n)
    before b t f = at_value new_value
      where
        at_value : Value a is there input stale s n g (type_of a.program new) (expr_of erased scx new s) (expr_of erased ncx new n)
            ⊎ Stop a is there input stale s n g (expr_of erased scx new s) (expr_of erased ncx new n)
            → Along a IsNext plan stale s n (serial_run s) (node_run n)
        at_value (inl k) =
            let v : ℤ = k.0 in
            let lie : FitsType (scalar_type a.program slot) v = fits_variable v k.1 in
            let left : _ = serial_value v lie k.2 in
            let right : _ = node_value v lie k.3 in
            both_set v lie
            (if_gives Notes scx r o ty first second at slot here value v (scalar_in s slot) v left.0 s
            (ap (λ z. expr_of erased scx z s) f ∙ k.2) (variable_gives Notes scx slot read second t s) (picks_before r o ty (scalar_in s slot) v b) left.1 left.2)
            (if_gives (Unit {0}) ncx r o ty first second at slot here value v (scalar_in n slot) v right.0 n
            (ap (λ z. expr_of erased ncx z n) f ∙ k.3) (variable_gives (Unit {0}) ncx slot read second t n) (picks_before r o ty (scalar_in n slot) v b) right.1 right.2)
        at_value (inr k) =
            both_end k.0 k.1 k.2 k.5
            (first_ends Notes scx o ty first second at slot here value s k.1 k.0 (ap (λ z. expr_of erased scx z s) f ∙ k.3))
            (first_ends (Unit {0}) ncx o ty first second at slot here value n k.2 k.0 (ap (λ z. expr_of erased ncx z n) f ∙ k.4))

    -- the variable does
    behind : goes_behind r o ≡ true → same first (variable slot read) ≡ true → second ≡ new → Along a IsNext plan stale s n (serial_run s) (node_run n)
    behind b t f = at_value new_value
      where
        at_value : Value a is there input stale s n g (type_of a.program new) (expr_of erased scx new s) (expr_of erased ncx new n)
            ⊎ Stop a is there input stale s n g (expr_of erased scx new s) (expr_of erased ncx new n)
            → Along a IsNext plan stale s n (serial_run s) (node_run n)
        at_value (inl k) =
            let v : ℤ = k.0 in
            let lie : FitsType (scalar_type a.program slot) v = fits_variable v k.1 in
            let left : _ = serial_value v lie k.2 in
            let right : _ = node_value v lie k.3 in
            both_set v lie
            (if_gives Notes scx r o ty first second at slot here value (scalar_in s slot) v v left.0 s
            (variable_gives Notes scx slot read first t s) (ap (λ z. expr_of erased scx z s) f ∙ k.2) (picks_behind r o ty (scalar_in s slot) v b) left.1 left.2)
            (if_gives (Unit {0}) ncx r o ty first second at slot here value (scalar_in n slot) v v right.0 n
            (variable_gives (Unit {0}) ncx slot read first t n) (ap (λ z. expr_of erased ncx z n) f ∙ k.3) (picks_behind r o ty (scalar_in n slot) v b) right.1 right.2)
        at_value (inr k) =
            both_end k.0 k.1 k.2 k.5
            (second_ends Notes scx o ty first second at slot here value s k.1 (scalar_in s slot) k.0 (variable_gives Notes scx slot read first t s) (ap (λ z. expr_of erased scx z s) f ∙ k.3))
            (second_ends (Unit {0}) ncx o ty first second at slot here value n k.2 (scalar_in n slot) k.0 (variable_gives (Unit {0}) ncx slot read first t n) (ap (λ z. expr_of erased ncx z n) f ∙ k.4))

-- ---- the statement

-- an operator that compares isn't a shift
no_shift : (r : RedOp) (o : BinOp) → goes_behind r o ≡ true → is_shift o ≡ false
no_shift red.Max o e = ap is_shift (sym (same_operators op.Less o e))
no_shift red.Min o e = ap is_shift (sym (same_operators op.Greater o e))
no_shift red.Add o e = absurd (true≢false (sym e))
no_shift red.Mul o e = absurd (true≢false (sym e))
no_shift red.And o e = absurd (true≢false (sym e))
no_shift red.Or o e = absurd (true≢false (sym e))
no_shift red.Xor o e = absurd (true≢false (sym e))

-- the operands of the test
pub record Operands (p : ProgParts) (o : BinOp) (ty : Ty) (first second : Expr) : Type 0 where
  pub left : AllByRecursion (TermStands p) (terms_of p first)
  pub right : AllByRecursion (TermStands p) (terms_of p second)
  pub left_type : ty ≡ type_of p first
  pub right_type : is_shift o ≡ false → ty ≡ type_of p second

operands_of : (p : ProgParts) (o : BinOp) (ty : Ty) (first second : Expr) (at : Place) → AllByRecursion (TermStands p) (terms_of p (expr.Binary o ty first second at)) → Operands p o ty first second
operands_of p o ty first second at h =
    let parts : _ = subst (AllByRecursion (TermStands p))
    (ap (λ (w : Typed). w.terms) (rolls.at_binary Typed Typed (typed_step p) (terms.access_step p) o ty first second at)) h in
    let both : _ = apart (TermStands p) (terms_of p first) (terms_of p second) parts.1 in record {
      left = both.0;
      right = both.1;
      left_type = same_types ty (type_of p first) (and_left (same_type ty (type_of p first)) (right_fits o ty (type_of p second)) parts.0.operands);
      right_type = λ f. same_types ty (type_of p second) (ap (λ b. b || same_type ty (type_of p second)) (sym f) ∙ and_right (same_type ty (type_of p first)) (right_fits o ty (type_of p second)) parts.0.operands);
    }

module _ (a : Stand) (is : IsSetting a) (there : has a.set.nodes a.node ≡ true) (input : List ℕ) (e : Expr) (x y : Stmt) (es : List Expr) (f : IsIfForm a e x y es)
    (terms : AllByRecursion (TermStands a.program) (terms_of a.program e)) (fits : PartFits a.program x) (quiet : NothingWrong (in_order (reads_of_all es a.set))) where
  abbrev t : IsCompared a.program f.slot f.op e f.new
  t = f.tests

  abbrev wcx : Context
  wcx = serial_cx a.program input

  abbrev kcx : Context
  kcx = node_context a.program a.node input

  abbrev form_plan : Plan Event
  form_plan = in_order (reads_of_all (f.new ∷ f.value ∷ []) a.set)

  abbrev set_it : Plain
  set_it = plain.Set (target.Scalar f.slot f.at) None f.value

  abbrev serial_form : Run Notes Flow
  serial_form = if_run Notes wcx t.operator t.ty t.first t.second t.at f.slot f.at f.value

  abbrev node_form : Run (Unit {0}) Flow
  node_form = if_run (Unit {0}) kcx t.operator t.ty t.first t.second t.at f.slot f.at f.value

  operands : Operands a.program t.operator t.ty t.first t.second
  operands = operands_of a.program t.operator t.ty t.first t.second t.at (subst (λ z. AllByRecursion (TermStands a.program) (terms_of a.program z)) t.is terms)

  set_fits : PartFits a.program (stmt.Plain set_it)
  set_fits = subst (PartFits a.program) f.assigned fits

  lies_there : f.slot < length a.program.scalars
  lies_there = (plain_fits a.program set_it set_fits).slots.0

  form_quiet : NothingWrong form_plan
  form_quiet = subst (λ zs. NothingWrong (in_order (reads_of_all zs a.set))) f.reads quiet

  carried : Carried a IsNext form_plan serial_form node_form
  carried stale s n safe g = at_side t.side
    where
      at_side : ((goes_before f.op t.operator ≡ true) × (same t.second (variable f.slot t.here) ≡ true) × (t.first ≡ f.new))
          ⊎ ((goes_behind f.op t.operator ≡ true) × (same t.first (variable f.slot t.here) ≡ true) × (t.second ≡ f.new))
          → Along a IsNext form_plan stale s n (serial_form s) (node_form n)
      at_side (inl b) =
          before a is there input f.slot f.op f.role t.operator t.ty t.first t.second t.at f.at t.here f.value f.new t.typed f.alike lies_there
          (subst (λ z. AllByRecursion (TermStands a.program) (terms_of a.program z)) b.2 operands.left) (ap (type_of a.program) (sym b.2) ∙ sym operands.left_type) form_quiet stale s n safe g b.0 b.1 b.2
      at_side (inr b) =
          behind a is there input f.slot f.op f.role t.operator t.ty t.first t.second t.at f.at t.here f.value f.new t.typed f.alike lies_there
          (subst (λ z. AllByRecursion (TermStands a.program) (terms_of a.program z)) b.2 operands.right)
          (ap (type_of a.program) (sym b.2) ∙ sym (operands.right_type (no_shift f.op t.operator b.0))) form_quiet stale s n safe g b.0 b.1 b.2

  -- the statement's runs are those of the form
  serial_test : expr_of (traced a.program) wcx e ≡ test_run Notes wcx t.operator t.ty t.first t.second t.at
  serial_test = noted_expr a.program wcx e ∙ ap (λ z. expr_of erased wcx z) t.is ∙ binary_is Notes erased wcx t.operator t.ty t.first t.second t.at

  serial_set : noting a.program input x ≡ set_run Notes wcx f.slot f.at f.value
  serial_set = ap (noting a.program input) f.assigned ∙ plain_is Notes (traced a.program) wcx set_it ∙ noted_plain a.program wcx set_it refl

  serial_empty : noting a.program input y ≡ block []
  serial_empty = ap (noting a.program input) f.nothing ∙ empty_is Notes (traced a.program) wcx

  node_test : expr_of erased kcx e ≡ test_run (Unit {0}) kcx t.operator t.ty t.first t.second t.at
  node_test = ap (λ z. expr_of erased kcx z) t.is ∙ binary_is (Unit {0}) erased kcx t.operator t.ty t.first t.second t.at

  node_set : (lockstep a.program input x).at a.node ≡ set_run (Unit {0}) kcx f.slot f.at f.value
  node_set = alone_is_erased a.program input x a.node ∙ ap (λ z. stmt_of erased kcx z) f.assigned ∙ plain_is (Unit {0}) erased kcx set_it

  node_empty : (lockstep a.program input y).at a.node ≡ block []
  node_empty = alone_is_erased a.program input y a.node ∙ ap (λ z. stmt_of erased kcx z) f.nothing ∙ empty_is (Unit {0}) erased kcx

  pub form_carried : Carried a IsNext (in_order (reads_of_all es a.set))
      (holds (expr_of (traced a.program) (serial_cx a.program input) e) >>= (λ v. choose v (noting a.program input x) (noting a.program input y)))
      (holds (expr_of erased (node_context a.program a.node input) e) >>= (λ v. choose v ((lockstep a.program input x).at a.node) ((lockstep a.program input y).at a.node)))
  form_carried =
      subst (λ zs. Carried a IsNext (in_order (reads_of_all zs a.set))
      (holds (expr_of (traced a.program) (serial_cx a.program input) e) >>= (λ v. choose v (noting a.program input x) (noting a.program input y)))
      (holds (expr_of erased (node_context a.program a.node input) e) >>= (λ v. choose v ((lockstep a.program input x).at a.node) ((lockstep a.program input y).at a.node)))) (sym f.reads)
      (subst (λ q. Carried a IsNext form_plan q
      (holds (expr_of erased (node_context a.program a.node input) e) >>= (λ v. choose v ((lockstep a.program input x).at a.node) ((lockstep a.program input y).at a.node))))
      (sym serial_is)
      (subst (λ q. Carried a IsNext form_plan serial_form q) (sym node_is) carried))
    where
      serial_is : (holds (expr_of (traced a.program) (serial_cx a.program input) e) >>= (λ v. choose v (noting a.program input x) (noting a.program input y))) ≡ serial_form
      serial_is = λ j. holds (serial_test j) >>= (λ v. choose v (serial_set j) (serial_empty j))

      node_is : (holds (expr_of erased (node_context a.program a.node input) e) >>= (λ v. choose v ((lockstep a.program input x).at a.node) ((lockstep a.program input y).at a.node))) ≡ node_form
      node_is = λ j. holds (node_test j) >>= (λ v. choose v (node_set j) (node_empty j))

pub if_forms_carry : IfFormsCarry
if_forms_carry a is there input e x y es form terms fits empty writes quiet =
    form_carried a is there input e x y es (is_if_form a is.program e x y es form) terms fits quiet
