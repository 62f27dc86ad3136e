-- `if (q) v = x;` that is the form of a maximum or a minimum: the node and the serial run combine the variable with one value,
-- though their tests may differ.
use Rattle.std.proofs.Common.{◌≡◌, ◌⊎◌, inl, inr, ◌&&◌, not, if◌then◌else◌, ℕ, ℤ, Bool, true, false, true≢false, List, [], ◌∷◌, Option, Some, None, refl, sym, subst, ap, ◌∙◌}
use Rattle.std.specs.Prelude.{slice_set}
use Rattle.std.proofs.lemmas.Int.{int_wrap_fits}
use Rattle.xmp_base.specs.declared.place.Place.{Place}
use Rattle.xmp_num.specs.declared.types.RedOp.{RedOp}
use Rattle.xmp_num.specs.declared.types.BinOp.{BinOp}
use Rattle.xmp_num.specs.declared.types.Ty.{Ty}
use Rattle.xmp_num.specs.Arithmetic.{FitsType, width_of, wrap, binary_of, truth}
use Rattle.xmp_num.specs.Reduction.{combine_of}
use Rattle.xmp_map.proofs.Counted.{and_left, and_right}
use Rattle.xmp_prog.specs.declared.parts.ProgParts.{ProgParts}
use Rattle.xmp_prog.specs.declared.expressions.Expr.{Expr, out-Expr}
use Rattle.xmp_prog.specs.declared.expressions.Expr.TheVariants as expr
use Rattle.xmp_prog.specs.declared.expressions.Expr.TheOpen.{Expr-F}
use Rattle.xmp_prog.specs.declared.expressions.Expr.TheViews.{roll-Expr, roll-out-Expr}
use Rattle.xmp_prog.specs.declared.expressions.Access.{Access}
use Rattle.xmp_prog.specs.declared.statements.Target.TheVariants as target
use Rattle.xmp_prog.specs.declared.statements.Plain.{Plain}
use Rattle.xmp_prog.specs.declared.statements.Plain.TheVariants as plain
use Rattle.xmp_prog.specs.declared.statements.Stmt.{Stmt, out-Stmt}
use Rattle.xmp_prog.specs.declared.statements.Stmt.TheVariants as stmt
use Rattle.xmp_prog.specs.declared.statements.Stmt.TheOpen.{Stmt-F}
use Rattle.xmp_prog.specs.declared.statements.Stmt.TheViews.{roll-Stmt, roll-out-Stmt}
use Rattle.xmp_prog.specs.declared.statements.Task.{Task}
use Rattle.xmp_prog.specs.Numbers.{same_type}
use Rattle.xmp_prog.specs.Terms.{type_of}
use Rattle.xmp_prog.proofs.Rolls as rolls
use Rattle.xmp_loops.specs.Same.{same}
use Rattle.xmp_loops.specs.Forms.{in_other_type, in_type, names, goes_before, goes_behind, variable, compared, guarded_form, is_nothing, assigns}
use Rattle.xmp_loops.specs.declared.role.Role.{Role}
use Rattle.xmp_loops.specs.declared.role.Role.TheVariants.{Shared, Index, Reduced, Own}
use Rattle.xmp_flow.specs.Setting.{Setting}
use Rattle.xmp_flow.specs.Statements.{if_form, form_of_if}
use Rattle.xmp_meaning.specs.declared.ends.End.{End}
use Rattle.xmp_meaning.specs.declared.ends.Flow.{Flow}
use Rattle.xmp_meaning.specs.declared.ends.Flow.TheVariants.{Next}
use Rattle.xmp_meaning.specs.Runs.{State, Step, Gave, Ended, Run, and_then, ◌>>=◌, pure, or_trap}
use Rattle.xmp_meaning.specs.Blocks.{block, choose}
use Rattle.xmp_meaning.specs.Context.{Context}
use Rattle.xmp_meaning.specs.Handlers.{erased}
use Rattle.xmp_meaning.specs.Declarations.{scalar_type}
use Rattle.xmp_meaning.specs.Expressions.{Element, expr_step, access_step, expr_of, is_zero, holds}
use Rattle.xmp_meaning.specs.Statements.{plain_of}
use Rattle.xmp_meaning_laws.specs.Laws.{scalar_in}
use Rattle.xmp_meaning_laws.proofs.Values.{same_types}
use Rattle.xmp_nodes.proofs.Agrees.{Stand}
use Rattle.xmp_nodes.proofs.SameGives.{gave_first, same_gives}
use Rattle.xmp_nodes.proofs.PlainWrites.{with_scalar}
use Rattle.xmp_nodes.proofs.ReductionValues.{Picks, set_same}

-- ---- what the form says

-- something was found
abbrev IsSome : {A : Type 0} → Option A → A → Type 0
IsSome None a = ⊥
IsSome (Some b) a = b ≡ a

-- the test compares the value with the variable, on either side
pub record IsCompared (p : ProgParts) (slot : ℕ) (r : RedOp) (e y : Expr) : Type 0 where
  pub operator : BinOp
  pub ty : Ty
  pub first : Expr
  pub second : Expr
  pub at : Place
  pub here : Place
  pub is : e ≡ expr.Binary operator ty first second at
  pub typed : ty ≡ scalar_type p slot
  pub side : ((goes_before r operator ≡ true) × (same second (variable slot here) ≡ true) × (first ≡ y))
      ⊎ ((goes_behind r operator ≡ true) × (same first (variable slot here) ≡ true) × (second ≡ y))

module _ (p : ProgParts) (slot : ℕ) (r : RedOp) where
  binary_compared : (e y : Expr) (o : BinOp) (ty : Ty) (a b : Expr) (at : Place) → out-Expr e ≡ Expr-F.Binary o ty a b at → compared p slot r (Expr-F.Binary o ty a b at) ≡ Some y
      → IsCompared p slot r e y
  binary_compared e y o ty a b at i f = at_before (same_type ty (scalar_type p slot) && (goes_before r o && same b (variable slot at))) refl f
    where
      here_is : e ≡ expr.Binary o ty a b at
      here_is = sym (roll-out-Expr e) ∙ ap roll-Expr i ∙ expr.rolls-Binary o ty a b at

      some_same : (u v : Expr) → Some u ≡ Some v → u ≡ v
      some_same u v e = cc

      at_behind : (c : Bool) → (same_type ty (scalar_type p slot) && (goes_behind r o && same a (variable slot at))) ≡ c → (if c then Some b else None) ≡ Some y → IsCompared p slot r e y
      at_behind true t g =
          let rest : (goes_behind r o && same a (variable slot at)) ≡ true = and_right (same_type ty (scalar_type p slot)) (goes_behind r o && same a (variable slot at)) t in record {
            operator = o;
            ty = ty;
            first = a;
            second = b;
            at = at;
            here = at;
            is = here_is;
            typed = same_types ty (scalar_type p slot) (and_left (same_type ty (scalar_type p slot)) (goes_behind r o && same a (variable slot at)) t);
            side = inr (and_left (goes_behind r o) (same a (variable slot at)) rest, and_right (goes_behind r o) (same a (variable slot at)) rest, some_same b y g);
          }
      at_behind false t g = cc

      at_before : (c : Bool) → (same_type ty (scalar_type p slot) && (goes_before r o && same b (variable slot at))) ≡ c
          → (if c then Some a else (if same_type ty (scalar_type p slot) && (goes_behind r o && same a (variable slot at)) then Some b else None)) ≡ Some y → IsCompared p slot r e y
      at_before true t g =
          let rest : (goes_before r o && same b (variable slot at)) ≡ true = and_right (same_type ty (scalar_type p slot)) (goes_before r o && same b (variable slot at)) t in record {
            operator = o;
            ty = ty;
            first = a;
            second = b;
            at = at;
            here = at;
            is = here_is;
            typed = same_types ty (scalar_type p slot) (and_left (same_type ty (scalar_type p slot)) (goes_before r o && same b (variable slot at)) t);
            side = inl (and_left (goes_before r o) (same b (variable slot at)) rest, and_right (goes_before r o) (same b (variable slot at)) rest, some_same a y g);
          }
      at_before false t g = at_behind (same_type ty (scalar_type p slot) && (goes_behind r o && same a (variable slot at))) refl g

  is_compared : (e y : Expr) (x : Expr-F Expr Access) → out-Expr e ≡ x → compared p slot r x ≡ Some y → IsCompared p slot r e y
  is_compared e y (Expr-F.Binary o ty a b at) i f = binary_compared e y o ty a b at i f
  is_compared e y (Expr-F.Const v ty) i f = cc
  is_compared e y (Expr-F.Scalar other at) i f = cc
  is_compared e y (Expr-F.Cell a) i f = cc
  is_compared e y (Expr-F.Both a b) i f = cc
  is_compared e y (Expr-F.Either a b) i f = cc
  is_compared e y (Expr-F.Choose a b c) i f = cc
  is_compared e y (Expr-F.Convert ty a) i f = cc
  is_compared e y (Expr-F.Call function arguments at) i f = cc
  is_compared e y Expr-F.Node i f = cc
  is_compared e y Expr-F.Nodes i f = cc

-- the form as a whole: the statement assigns the variable, the value is what is compared, and nothing is done else
pub record IsIfForm (a : Stand) (e : Expr) (x y : Stmt) (es : List Expr) : Type 0 where
  pub slot : ℕ
  pub op : RedOp
  pub at : Place
  pub value : Expr
  pub new : Expr
  pub role : a.set.roles slot ≡ Reduced op
  pub assigned : x ≡ stmt.Plain (plain.Set (target.Scalar slot at) None value)
  pub nothing : y ≡ stmt.Block []
  pub tests : IsCompared a.program slot op e new
  pub alike : same new (in_type a.program (scalar_type a.program slot) value) ≡ true
  pub reads : es ≡ new ∷ value ∷ []

-- what a statement assigns
pub record IsAssigned (x : Stmt) (set : ℕ × Expr) : Type 0 where
  pub at : Place
  pub is : x ≡ stmt.Plain (plain.Set (target.Scalar set.0 at) None set.1)

assigned_plain : (x : Stmt) (q : Plain) (set : ℕ × Expr) → out-Stmt x ≡ Stmt-F.Plain q → assigns (Stmt-F.Plain q) ≡ Some set → IsAssigned x set
assigned_plain x (plain.Set (target.Scalar v at) None value) set i e =
    subst (IsAssigned x) (some_same (v, value) set e) (record { at = at; is = sym (roll-out-Stmt x) ∙ ap roll-Stmt i ∙ stmt.rolls-Plain (plain.Set (target.Scalar v at) None value) })
  where
    some_same : (a b : ℕ × Expr) → Some a ≡ Some b → a ≡ b
    some_same a b e = cc
assigned_plain x (plain.Set (target.Scalar v at) (Some c) value) set i e = cc
assigned_plain x (plain.Set (target.Cell a) c value) set i e = cc
assigned_plain x (plain.Declare slot value at) set i e = cc
assigned_plain x (plain.Return value) set i e = cc
assigned_plain x (plain.Call function arguments at) set i e = cc
assigned_plain x (plain.Print format arguments at) set i e = cc
assigned_plain x (plain.Scan to at) set i e = cc
assigned_plain x (plain.Sync status at) set i e = cc
assigned_plain x (plain.Reflect arrays at) set i e = cc
assigned_plain x (plain.Barrier at) set i e = cc
assigned_plain x (plain.Cast variables from at) set i e = cc
assigned_plain x (plain.Gmove to from at) set i e = cc

is_assigned : (x : Stmt) (o : Stmt-F Stmt Task) (set : ℕ × Expr) → out-Stmt x ≡ o → assigns o ≡ Some set → IsAssigned x set
is_assigned x (Stmt-F.Plain q) set i e = assigned_plain x q set i e
is_assigned x (Stmt-F.Block all) set i e = cc
is_assigned x (Stmt-F.If test a b) set i e = cc
is_assigned x (Stmt-F.While test body at) set i e = cc
is_assigned x (Stmt-F.Counted head body) set i e = cc
is_assigned x (Stmt-F.Loop directive body) set i e = cc
is_assigned x (Stmt-F.Tasks all at) set i e = cc

is_empty : (y : Stmt) (o : Stmt-F Stmt Task) → out-Stmt y ≡ o → is_nothing o ≡ true → y ≡ stmt.Block []
is_empty y (Stmt-F.Block []) i e = sym (roll-out-Stmt y) ∙ ap roll-Stmt i ∙ stmt.rolls-Block []
is_empty y (Stmt-F.Block (x ∷ xs)) i e = absurd (true≢false (sym e))
is_empty y (Stmt-F.Plain q) i e = absurd (true≢false (sym e))
is_empty y (Stmt-F.If test a b) i e = absurd (true≢false (sym e))
is_empty y (Stmt-F.While test body at) i e = absurd (true≢false (sym e))
is_empty y (Stmt-F.Counted head body) i e = absurd (true≢false (sym e))
is_empty y (Stmt-F.Loop directive body) i e = absurd (true≢false (sym e))
is_empty y (Stmt-F.Tasks all at) i e = absurd (true≢false (sym e))

-- the form of a variable by its role
guarded_by : (s : Setting) (test : Expr) (set : ℕ × Expr) (es : List Expr) (r : Role) → s.roles set.0 ≡ r → form_of_if (record s { roles = λ k. r }) test (Some set) ≡ Some es
    → (op : RedOp) × (s.roles set.0 ≡ Reduced op) × (guarded_form s.program set.0 set.1 (compared s.program set.0 op (out-Expr test)) ≡ Some es)
guarded_by s test set es (Reduced op) e f = (op, e, f)
guarded_by s test set es Shared e f = cc
guarded_by s test set es Index e f = cc
guarded_by s test set es Own e f = cc

-- the value is compared, and assigned in the variable's type
guarded_is : (p : ProgParts) (slot : ℕ) (value : Expr) (es : List Expr) (o : Option Expr) → guarded_form p slot value o ≡ Some es
    → (new : Expr) × (o ≡ Some new) × (same new (in_type p (scalar_type p slot) value) ≡ true) × (es ≡ new ∷ value ∷ [])
guarded_is p slot value es None e = cc
guarded_is p slot value es (Some new) e = at_test (same new (in_type p (scalar_type p slot) value)) (not (names slot value)) refl e
  where
    some_same : (u v : List Expr) → Some u ≡ Some v → v ≡ u
    some_same u v e = cc

    at_test : (c d : Bool) → same new (in_type p (scalar_type p slot) value) ≡ c → (if c && d then Some (new ∷ value ∷ []) else None) ≡ Some es
        → (z : Expr) × (Some new ≡ Some z) × (same z (in_type p (scalar_type p slot) value) ≡ true) × (es ≡ z ∷ value ∷ [])
    at_test true true t g = (new, refl, t, some_same (new ∷ value ∷ []) es g)
    at_test true false t g = cc
    at_test false d t g = cc

pub is_if_form : (a : Stand) → a.set.program ≡ a.program → (e : Expr) (x y : Stmt) (es : List Expr) → if_form a.set e x y ≡ Some es → IsIfForm a e x y es
is_if_form a same_program e x y es f = at_nothing (is_nothing (out-Stmt y)) refl f
  where
    at_set : is_nothing (out-Stmt y) ≡ true → (o : Option (ℕ × Expr)) → assigns (out-Stmt x) ≡ o → form_of_if a.set e o ≡ Some es → IsIfForm a e x y es
    at_set i None j g = cc
    at_set i (Some set) j g =
        let role : _ = guarded_by a.set e set es (a.set.roles set.0) refl g in
        let guarded : guarded_form a.program set.0 set.1 (compared a.program set.0 role.0 (out-Expr e)) ≡ Some es =
        subst (λ q. guarded_form q set.0 set.1 (compared q set.0 role.0 (out-Expr e)) ≡ Some es) same_program role.2 in
        let parts : _ = guarded_is a.program set.0 set.1 es (compared a.program set.0 role.0 (out-Expr e)) guarded in
        let made : IsAssigned x set = is_assigned x (out-Stmt x) set refl j in record {
          slot = set.0;
          op = role.0;
          at = made.at;
          value = set.1;
          new = parts.0;
          role = role.1;
          assigned = made.is;
          nothing = is_empty y (out-Stmt y) refl i;
          tests = is_compared a.program set.0 role.0 e parts.0 (out-Expr e) refl parts.1;
          alike = parts.2;
          reads = parts.3;
        }

    at_nothing : (c : Bool) → is_nothing (out-Stmt y) ≡ c → (if c then form_of_if a.set e (assigns (out-Stmt x)) else None) ≡ Some es → IsIfForm a e x y es
    at_nothing true i g = at_set i (assigns (out-Stmt x)) refl g
    at_nothing false i g = cc

-- ---- one run

module _ (X : Type 0) (cx : Context) where
  abbrev value_of : Expr → Run X ℤ
  value_of e = expr_of erased cx e

  -- a value in the variable's type is the value, converted
  pub in_type_gives : (p : ProgParts) (ty : Ty) (e : Expr) (v : ℤ) (s : State X) → FitsType ty v → value_of (in_type p ty e) s ≡ Gave v s
      → (u : ℤ) × (value_of e s ≡ Gave u s) × (wrap ty u ≡ v)
  in_type_gives p ty e v s fits g = at_type (same_type (type_of p e) ty) g
    where
      converted : (r : Step X ℤ) → and_then r (λ x. pure (wrap ty x)) ≡ Gave v s → (u : ℤ) × (r ≡ Gave u s) × (wrap ty u ≡ v)
      converted (Gave u t) f = (u, ap (Gave u) (state_same f), value_same f)
        where
          state_same : Gave (wrap ty u) t ≡ Gave v s → t ≡ s
          state_same f = cc

          value_same : Gave (wrap ty u) t ≡ Gave v s → wrap ty u ≡ v
          value_same f = cc
      converted (Ended f t) h = cc

      by_convert : value_of (expr.Convert ty e) s ≡ Gave v s → (u : ℤ) × (value_of e s ≡ Gave u s) × (wrap ty u ≡ v)
      by_convert f =
          converted (value_of e s) (ap (λ (r : Run X ℤ). r s) (sym (rolls.at_convert (Run X ℤ) (Element X) (expr_step erased cx) (access_step cx) ty e)) ∙ f)

      by_form : (x : Expr-F Expr Access) → out-Expr e ≡ x → value_of (in_other_type ty e x) s ≡ Gave v s → (u : ℤ) × (value_of e s ≡ Gave u s) × (wrap ty u ≡ v)
      by_form (Expr-F.Const w t) i f = (
        w,
        ap (λ z. value_of z s) (sym (roll-out-Expr e) ∙ ap roll-Expr i ∙ expr.rolls-Const w t)
            ∙ ap (λ (r : Run X ℤ). r s) (rolls.at_const (Run X ℤ) (Element X) (expr_step erased cx) (access_step cx) w t),
        const_same (ap (λ (r : Run X ℤ). r s) (sym (rolls.at_const (Run X ℤ) (Element X) (expr_step erased cx) (access_step cx) (wrap ty w) ty)) ∙ f),
      )
        where
          const_same : Gave (wrap ty w) s ≡ Gave v s → wrap ty w ≡ v
          const_same f = cc
      by_form (Expr-F.Scalar slot at) i f = by_convert f
      by_form (Expr-F.Cell a) i f = by_convert f
      by_form (Expr-F.Binary o t a b at) i f = by_convert f
      by_form (Expr-F.Both a b) i f = by_convert f
      by_form (Expr-F.Either a b) i f = by_convert f
      by_form (Expr-F.Choose a b c) i f = by_convert f
      by_form (Expr-F.Convert t a) i f = by_convert f
      by_form (Expr-F.Call function arguments at) i f = by_convert f
      by_form Expr-F.Node i f = by_convert f
      by_form Expr-F.Nodes i f = by_convert f

      at_type : (c : Bool) → value_of (if c then e else in_other_type ty e (out-Expr e)) s ≡ Gave v s → (u : ℤ) × (value_of e s ≡ Gave u s) × (wrap ty u ≡ v)
      at_type true f = (v, f, int_wrap_fits (width_of ty) v fits)
      at_type false f = by_form (out-Expr e) refl f

  -- a reading of the variable
  pub variable_gives : (slot : ℕ) (at : Place) (e : Expr) → same e (variable slot at) ≡ true → (s : State X) → value_of e s ≡ Gave (scalar_in s slot) s
  variable_gives slot at e t s =
      gave_first X cx (value_of e s) (value_of (variable slot at) s) (scalar_in s slot) s (same_gives X cx e (variable slot at) t s)
      (ap (λ (r : Run X ℤ). r s) (rolls.at_scalar (Run X ℤ) (Element X) (expr_step erased cx) (access_step cx) slot at))

  abbrev pub set_run : (slot : ℕ) (at : Place) → Expr → Run X Flow
  set_run slot at value = plain_of erased cx (plain.Set (target.Scalar slot at) None value)

  abbrev pub test_run : (o : BinOp) (ty : Ty) (a b : Expr) (at : Place) → Run X ℤ
  test_run o ty a b at = value_of a >>= (λ x. value_of b >>= (λ y. or_trap (binary_of o ty x y) at))

  -- the whole statement
  abbrev pub if_run : (o : BinOp) (ty : Ty) (a b : Expr) (at : Place) (slot : ℕ) (here : Place) → Expr → Run X Flow
  if_run o ty a b at slot here value = holds (test_run o ty a b at) >>= (λ w. choose w (set_run slot here value) (block []))

  truth_holds : (test : Bool) → not (is_zero (truth test)) ≡ test
  truth_holds true = refl
  truth_holds false = refl

  pub if_gives : (r : RedOp) (o : BinOp) (ty : Ty) (a b : Expr) (at : Place) (slot : ℕ) (here : Place) (value : Expr) (x y v u : ℤ) (s : State X)
      → value_of a s ≡ Gave x s → value_of b s ≡ Gave y s → Picks r o ty x y (scalar_in s slot) v → value_of value s ≡ Gave u s → wrap (scalar_type cx.program slot) u ≡ v
      → if_run o ty a b at slot here value s ≡ Gave Next (with_scalar slot (combine_of r ty (scalar_in s slot) v) s)
  if_gives r o ty a b at slot here value x y v u s f g picks h k =
      ap (λ q. and_then (and_then (and_then q (λ x. value_of b >>= (λ y. or_trap (binary_of o ty x y) at))) (λ w. pure (not (is_zero w)))) (λ w. choose w (set_run slot here value) (block []))) f
      ∙ ap (λ q. and_then (and_then (and_then q (λ y. or_trap (binary_of o ty x y) at)) (λ w. pure (not (is_zero w)))) (λ w. choose w (set_run slot here value) (block []))) g
      ∙ ap (λ q. and_then (and_then (or_trap q at s) (λ w. pure (not (is_zero w)))) (λ w. choose w (set_run slot here value) (block []))) picks.given
      ∙ ap (λ w. choose w (set_run slot here value) (block []) s) (truth_holds picks.test)
      ∙ chosen picks.test
      ∙ ap (λ z. Gave Next (with_scalar slot z s)) picks.picked
    where
      chosen : (test : Bool) → choose test (set_run slot here value) (block []) s ≡ Gave Next (with_scalar slot (if test then v else scalar_in s slot) s)
      chosen true =
          ap (λ q. and_then q (λ w t. Gave Next (record t { scalars = slice_set t.scalars slot (wrap (scalar_type cx.program slot) w) }))) h
          ∙ ap (λ z. Gave Next (with_scalar slot z s)) k
      chosen false = ap (λ xs. Gave Next (record s { scalars = xs })) (sym (set_same s.scalars slot))

  -- where an operand ends, so does all
  pub first_ends : (o : BinOp) (ty : Ty) (a b : Expr) (at : Place) (slot : ℕ) (here : Place) (value : Expr) (s t : State X) (e : End) → value_of a s ≡ Ended e t
      → if_run o ty a b at slot here value s ≡ Ended e t
  first_ends o ty a b at slot here value s t e f =
      ap (λ q. and_then (and_then (and_then q (λ x. value_of b >>= (λ y. or_trap (binary_of o ty x y) at))) (λ w. pure (not (is_zero w)))) (λ w. choose w (set_run slot here value) (block []))) f

  pub second_ends : (o : BinOp) (ty : Ty) (a b : Expr) (at : Place) (slot : ℕ) (here : Place) (value : Expr) (s t : State X) (x : ℤ) (e : End) → value_of a s ≡ Gave x s → value_of b s ≡ Ended e t
      → if_run o ty a b at slot here value s ≡ Ended e t
  second_ends o ty a b at slot here value s t x e f g =
      ap (λ q. and_then (and_then (and_then q (λ x. value_of b >>= (λ y. or_trap (binary_of o ty x y) at))) (λ w. pure (not (is_zero w)))) (λ w. choose w (set_run slot here value) (block []))) f
      ∙ ap (λ q. and_then (and_then (and_then q (λ y. or_trap (binary_of o ty x y) at)) (λ w. pure (not (is_zero w)))) (λ w. choose w (set_run slot here value) (block []))) g
