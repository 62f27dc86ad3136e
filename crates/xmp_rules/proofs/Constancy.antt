-- What the checker knows of an expression's value is what the expression comes to, where no name stands in it.
use Rattle.std.proofs.Common.{◌≡◌, ◌∙◌, refl, sym, ap, subst, ◌++◌, ◌∷◌, [], ℕ, List, Bool, true, false, true≢false, ◌&&◌, if◌then◌else◌, Option, Some, None, is_some, length, map, flat_map, slice_get, Result, Ok, Err}
use Rattle.std.specs.Prelude.{⊤, ℤ, pos, negsuc}
use Rattle.xmp_base.specs.declared.place.Place.{Place}
use Rattle.xmp_lex.specs.declared.token.Mark.{Mark}
use Rattle.xmp_lex.specs.declared.token.Mark.TheVariants as mark
use Rattle.xmp_num.specs.declared.types.TrapKind.{TrapKind}
use Rattle.xmp_num.specs.declared.types.Ty.{Ty}
use Rattle.xmp_num.specs.declared.types.Ty.TheVariants.{Int, Long}
use Rattle.xmp_num.specs.declared.types.BinOp.{BinOp}
use Rattle.xmp_num.specs.declared.types.BinOp.TheVariants as op
use Rattle.xmp_num.specs.Arithmetic.{binary_of}
use Rattle.xmp_prog.specs.declared.expressions.Expr as prog
use Rattle.xmp_syntax.specs.declared.parts.Name as named
use Rattle.xmp_syntax.specs.declared.parts.Link.{Link}
use Rattle.xmp_syntax.specs.declared.expression.Expr.{Expr}
use Rattle.xmp_syntax.specs.declared.expression.Expr.TheOpen.{Expr-F}
use Rattle.xmp_syntax.specs.declared.expression.Expr.TheFolds.{fold-roll-Expr, ind-Expr, map-Expr}
use Rattle.xmp_syntax.specs.declared.expression.Expr.TheViews.{roll-Expr}
use Rattle.xmp_scopes.specs.Names.{nearest}
use Rattle.xmp_names.specs.declared.names.Meaning.{Meaning}
use Rattle.xmp_names.specs.declared.names.Meaning.TheVariants as m
use Rattle.xmp_names.specs.declared.names.Array as array
use Rattle.xmp_names.specs.declared.names.Signature.{Signature}
use Rattle.xmp_names.specs.declared.names.Environment.{Environment}
use Rattle.xmp_names.specs.declared.rules.Notes.{Notes}
use Rattle.xmp_names.specs.declared.operators.Operator.TheVariants as operator
use Rattle.xmp_names.specs.declared.typed.Value.{Value}
use Rattle.xmp_names.specs.declared.typed.Value.TheVariants.{Named, Trapping, Known}
use Rattle.xmp_names.specs.declared.typed.Operand.{Operand}
use Rattle.xmp_names.specs.declared.typed.Typed.{Typed}
use Rattle.xmp_names.specs.declared.typed.Parts.{Parts}
use Rattle.xmp_names.specs.Rules.{joined}
use Rattle.xmp_names.specs.Typing as typing
use Rattle.xmp_names.specs.Typing.{joint, value_type, known, binary_value, is_zero, truth_value, both_value, either_value, converted, is_named, picked, chosen_value, number, binary, operator_of, unary, cast, choose}
use Rattle.xmp_names.specs.Expressions as e_
use Rattle.xmp_names.specs.Expressions.{is_nothing, cell_of, read_as, read, intrinsic, call_intrinsic, call_of, call_as, judged_call, call, expr_step, expr_of, right_of}
use Rattle.xmp_rules.specs.Spots.{Variable, What, Used, step, of_expr, in_image}
use Rattle.xmp_rules.specs.Constants as c_
use Rattle.xmp_rules.specs.Constants.{Outcome, common, without_trap, computed, truth, both, either, in_type, operation, of_int, chosen, outcome_step, outcome}

-- What the checker knows of an expression, by whether a name stands in it.
abbrev pub expected : Bool → Option ℤ → Value
expected false v = Named
expected true None = Trapping
expected true (Some v) = Known v

pub record Fits (t : Operand) (plain : Bool) (o : Outcome) : Type 0 where
  pub value : t.value ≡ expected plain o.value
  pub ty : plain ≡ true → t.ty ≡ Some o.ty

-- ---- values

known_is : (r : Result ℤ TrapKind) → known r ≡ expected true (without_trap r)
known_is (Ok v) = refl
known_is (Err kind) = refl

binary_is : (o : BinOp) (ty tz : Ty) (m n : Bool) (x y : Option ℤ) → ((m && n) ≡ true → ty ≡ tz) → binary_value o ty (expected m x) (expected n y) ≡ expected (m && n) (computed o tz x y)
binary_is o ty tz false n x y h = refl
binary_is o ty tz true false None y h = refl
binary_is o ty tz true false (Some x) y h = refl
binary_is o ty tz true true None None h = refl
binary_is o ty tz true true None (Some y) h = refl
binary_is o ty tz true true (Some x) None h = refl
binary_is o ty tz true true (Some x) (Some y) h = ap (λ t. known (binary_of o t x y)) (h refl) ∙ known_is (binary_of o tz x y)

truth_is : (y : Option ℤ) → truth_value (expected true y) ≡ expected true (truth y)
truth_is None = refl
truth_is (Some v) = refl

both_is : (m n : Bool) (x y : Option ℤ) → both_value (expected m x) (expected n y) ≡ expected (m && n) (both x y)
both_is false n x y = refl
both_is true false None y = refl
both_is true false (Some x) y = refl
both_is true true None None = refl
both_is true true None (Some y) = refl
both_is true true (Some x) None = by (is_zero x)
  where
    by : (t : Bool) → (if t then Known (pos 0) else Trapping) ≡ expected true (if t then Some (pos 0) else None)
    by true = refl
    by false = refl
both_is true true (Some x) (Some y) = by (is_zero x)
  where
    by : (t : Bool) → (if t then Known (pos 0) else truth_value (Known y)) ≡ expected true (if t then Some (pos 0) else truth (Some y))
    by true = refl
    by false = refl

either_is : (m n : Bool) (x y : Option ℤ) → either_value (expected m x) (expected n y) ≡ expected (m && n) (either x y)
either_is false n x y = refl
either_is true false None y = refl
either_is true false (Some x) y = refl
either_is true true None None = refl
either_is true true None (Some y) = refl
either_is true true (Some x) None = by (is_zero x)
  where
    by : (t : Bool) → (if t then Trapping else Known (pos 1)) ≡ expected true (if t then None else Some (pos 1))
    by true = refl
    by false = refl
either_is true true (Some x) (Some y) = by (is_zero x)
  where
    by : (t : Bool) → (if t then truth_value (Known y) else Known (pos 1)) ≡ expected true (if t then truth (Some y) else Some (pos 1))
    by true = refl
    by false = refl

converted_is : (ty : Ty) (m : Bool) (x : Option ℤ) → converted ty (expected m x) ≡ expected m (in_type ty x)
converted_is ty false x = refl
converted_is ty true None = refl
converted_is ty true (Some v) = refl

picked_is : (ty tz : Ty) (x : ℤ) (y z : Option ℤ) → ty ≡ tz → picked ty (Known x) (expected true y) (expected true z) ≡ expected true (chosen tz (Some x) y z)
picked_is ty tz x y z h = ap (λ t. picked t (Known x) (expected true y) (expected true z)) h ∙ by (is_zero x)
  where
    by : (t : Bool) → (if t then converted tz (expected true z) else converted tz (expected true y)) ≡ expected true (in_type tz (if t then z else y))
    by true = converted_is tz true z
    by false = converted_is tz true y

chosen_is : (ty tz : Ty) (l m n : Bool) (x y z : Option ℤ) → ((m && n) ≡ true → ty ≡ tz) → chosen_value ty (expected l x) (expected m y) (expected n z) ≡ expected (l && (m && n)) (chosen tz x y z)
chosen_is ty tz false m n x y z h = refl
chosen_is ty tz true false n None y z h = refl
chosen_is ty tz true false n (Some x) y z h = refl
chosen_is ty tz true true false None None z h = refl
chosen_is ty tz true true false None (Some y) z h = refl
chosen_is ty tz true true false (Some x) None z h = refl
chosen_is ty tz true true false (Some x) (Some y) z h = refl
chosen_is ty tz true true true None None None h = refl
chosen_is ty tz true true true None None (Some z) h = refl
chosen_is ty tz true true true None (Some y) None h = refl
chosen_is ty tz true true true None (Some y) (Some z) h = refl
chosen_is ty tz true true true (Some x) None None h = picked_is ty tz x None None (h refl)
chosen_is ty tz true true true (Some x) None (Some z) h = picked_is ty tz x None (Some z) (h refl)
chosen_is ty tz true true true (Some x) (Some y) None h = picked_is ty tz x (Some y) None (h refl)
chosen_is ty tz true true true (Some x) (Some y) (Some z) h = picked_is ty tz x (Some y) (Some z) (h refl)

-- ---- operators

joint_is : (x y : Ty) → joint (Some x) (Some y) ≡ Some (common x y)
joint_is Int Int = refl
joint_is Int Long = refl
joint_is Long Int = refl
joint_is Long Long = refl

left_true : (m n : Bool) → (m && n) ≡ true → m ≡ true
left_true true n h = refl
left_true false n h = h

right_true : (m n : Bool) → (m && n) ≡ true → n ≡ true
right_true true n h = h
right_true false n h = absurd (true≢false (sym h))

module _ (a b : Operand) (m n : Bool) (p q : Outcome) (f : Fits a m p) (g : Fits b n q) where
  joint_fits : (m && n) ≡ true → joint a.ty b.ty ≡ Some (common p.ty q.ty)
  joint_fits h = ap (λ t. joint t b.ty) (f.ty (left_true m n h)) ∙ (ap (λ t. joint (Some p.ty) t) (g.ty (right_true m n h)) ∙ joint_is p.ty q.ty)

  values_fit : (o : BinOp) (ty tz : Ty) → ((m && n) ≡ true → ty ≡ tz) → binary_value o ty a.value b.value ≡ expected (m && n) (computed o tz p.value q.value)
  values_fit o ty tz h = ap (λ v. binary_value o ty v b.value) f.value ∙ (ap (λ v. binary_value o ty (expected m p.value) v) g.value ∙ binary_is o ty tz m n p.value q.value h)

  arithmetic_fits : (o : BinOp) (at : Place) (notes : Notes) → Fits (typing.arithmetic o at a b notes).operand (m && n) (c_.arithmetic o p q)
  arithmetic_fits o at notes = record {
    value = values_fit o (value_type (joint a.ty b.ty)) (common p.ty q.ty) (λ h. ap value_type (joint_fits h));
    ty = joint_fits;
  }

  compare_fits : (o : BinOp) (at : Place) (notes : Notes) → Fits (typing.compare o at a b notes).operand (m && n) (c_.compare o p q)
  compare_fits o at notes = record {
    value = values_fit o (value_type (joint a.ty b.ty)) (common p.ty q.ty) (λ h. ap value_type (joint_fits h));
    ty = λ h. refl;
  }

  shift_fits : (o : BinOp) (at : Place) (notes : Notes) → Fits (typing.shift o at a b notes).operand (m && n) (c_.shift o p q)
  shift_fits o at notes = record {
    value = values_fit o (value_type a.ty) p.ty (λ h. ap value_type (f.ty (left_true m n h)));
    ty = λ h. f.ty (left_true m n h);
  }

  both_fits : (at : Place) (notes : Notes) → Fits (typing.operator operator.Both at a b notes).operand (m && n) (operation mark.AndAnd p q)
  both_fits at notes = record {
    value = ap (λ v. both_value v b.value) f.value ∙ (ap (λ v. both_value (expected m p.value) v) g.value ∙ both_is m n p.value q.value);
    ty = λ h. refl;
  }

  either_fits : (at : Place) (notes : Notes) → Fits (typing.operator operator.Either at a b notes).operand (m && n) (operation mark.OrOr p q)
  either_fits at notes = record {
    value = ap (λ v. either_value v b.value) f.value ∙ (ap (λ v. either_value (expected m p.value) v) g.value ∙ either_is m n p.value q.value);
    ty = λ h. refl;
  }

binary_fits : (k : Mark) (at : Place) (a b : Typed) (m n : Bool) (p q : Outcome) → Fits a.operand m p → Fits b.operand n q → Fits (binary (operator_of k) at a b).operand (m && n) (operation k p q)
binary_fits mark.Plus at a b m n p q f g = arithmetic_fits a.operand b.operand m n p q f g op.Add at (joined a.notes b.notes)
binary_fits mark.Minus at a b m n p q f g = arithmetic_fits a.operand b.operand m n p q f g op.Sub at (joined a.notes b.notes)
binary_fits mark.Star at a b m n p q f g = arithmetic_fits a.operand b.operand m n p q f g op.Mul at (joined a.notes b.notes)
binary_fits mark.Slash at a b m n p q f g = arithmetic_fits a.operand b.operand m n p q f g op.Div at (joined a.notes b.notes)
binary_fits mark.Percent at a b m n p q f g = arithmetic_fits a.operand b.operand m n p q f g op.Rem at (joined a.notes b.notes)
binary_fits mark.And at a b m n p q f g = arithmetic_fits a.operand b.operand m n p q f g op.And at (joined a.notes b.notes)
binary_fits mark.Or at a b m n p q f g = arithmetic_fits a.operand b.operand m n p q f g op.Or at (joined a.notes b.notes)
binary_fits mark.Xor at a b m n p q f g = arithmetic_fits a.operand b.operand m n p q f g op.Xor at (joined a.notes b.notes)
binary_fits mark.ShiftLeft at a b m n p q f g = shift_fits a.operand b.operand m n p q f g op.Shl at (joined a.notes b.notes)
binary_fits mark.ShiftRight at a b m n p q f g = shift_fits a.operand b.operand m n p q f g op.Shr at (joined a.notes b.notes)
binary_fits mark.Less at a b m n p q f g = compare_fits a.operand b.operand m n p q f g op.Less at (joined a.notes b.notes)
binary_fits mark.LessEqual at a b m n p q f g = compare_fits a.operand b.operand m n p q f g op.LessEq at (joined a.notes b.notes)
binary_fits mark.Greater at a b m n p q f g = compare_fits a.operand b.operand m n p q f g op.Greater at (joined a.notes b.notes)
binary_fits mark.GreaterEqual at a b m n p q f g = compare_fits a.operand b.operand m n p q f g op.GreaterEq at (joined a.notes b.notes)
binary_fits mark.Equal at a b m n p q f g = compare_fits a.operand b.operand m n p q f g op.Equal at (joined a.notes b.notes)
binary_fits mark.Differ at a b m n p q f g = compare_fits a.operand b.operand m n p q f g op.Differ at (joined a.notes b.notes)
binary_fits mark.AndAnd at a b m n p q f g = both_fits a.operand b.operand m n p q f g at (joined a.notes b.notes)
binary_fits _ at a b m n p q f g = either_fits a.operand b.operand m n p q f g at (joined a.notes b.notes)

number_fits : (v : ℤ) (ty : Ty) → Fits (number v ty).operand true (record { ty = ty; value = Some v })
number_fits v ty = record { value = refl; ty = λ h. refl }

pub and_true : (b : Bool) → (b && true) ≡ b
and_true true = refl
and_true false = refl

and_false : (b : Bool) → (b && false) ≡ false
and_false true = refl
and_false false = refl

pub and_moves : (a b c : Bool) → ((a && b) && c) ≡ (a && (b && c))
and_moves true b c = refl
and_moves false b c = refl

as_plain : {t : Operand} {m n : Bool} {o : Outcome} → m ≡ n → Fits t m o → Fits t n o
as_plain {t} {m} {n} {o} h f = subst (λ b. Fits t b o) h f

unary_fits : (k : Mark) (at : Place) (x : Typed) (n : Bool) (q : Outcome) → Fits x.operand n q → Fits (unary k at x).operand n (c_.unary k q)
unary_fits mark.Minus at x n q f = arithmetic_fits (number (pos 0) Int).operand x.operand true n (of_int (pos 0)) q (number_fits (pos 0) Int) f op.Sub at (joined (number (pos 0) Int).notes x.notes)
unary_fits mark.Tilde at x n q f = as_plain (and_true n) (arithmetic_fits x.operand (number (negsuc 0) Int).operand n true q (of_int (negsuc 0)) f (number_fits (negsuc 0) Int) op.Xor at (joined x.notes (number (negsuc 0) Int).notes))
unary_fits mark.Bang at x n q f = as_plain (and_true n) (compare_fits x.operand (number (pos 0) Int).operand n true q (of_int (pos 0)) f (number_fits (pos 0) Int) op.Equal at (joined x.notes (number (pos 0) Int).notes))
unary_fits _ at x n q f = f

cast_fits : (ty : Ty) (x : Typed) (n : Bool) (q : Outcome) → Fits x.operand n q → Fits (cast ty x).operand n (record { ty = ty; value = in_type ty q.value })
cast_fits ty x n q f = record { value = ap (converted ty) f.value ∙ converted_is ty n q.value; ty = λ h. refl }

choose_fits : (c a b : Typed) (l m n : Bool) (o p q : Outcome) → Fits c.operand l o → Fits a.operand m p → Fits b.operand n q →
    Fits (choose c a b).operand (l && (m && n)) (record { ty = common p.ty q.ty; value = chosen (common p.ty q.ty) o.value p.value q.value })
choose_fits c a b l m n o p q e f g =
    let ty : Ty = value_type (joint a.operand.ty b.operand.ty) in
    record {
      value = ap (λ v. chosen_value ty v a.operand.value b.operand.value) e.value ∙ (ap (λ v. chosen_value ty (expected l o.value) v b.operand.value) f.value
          ∙ (ap (λ v. chosen_value ty (expected l o.value) (expected m p.value) v) g.value
          ∙ chosen_is ty (common p.ty q.ty) l m n o.value p.value q.value (λ h. ap value_type (joint_fits a.operand b.operand m n p q f g h))));
      ty = λ h. joint_fits a.operand b.operand m n p q f g (right_true l (m && n) h);
    }

-- ---- names

named_fits : (t : Operand) (n : Bool) (o : Outcome) → t.value ≡ Named → n ≡ false → Fits t n o
named_fits t n o h k = record { value = h ∙ sym (ap (λ b. expected b o.value) k); ty = λ e. absurd (true≢false (sym e ∙ k)) }

cell_named : (a : Option array.Array) (k : ℕ) (at : Place) (xs : List prog.Expr) (image : Option prog.Expr) (notes : Notes) → (cell_of a k at xs image notes).operand.value ≡ Named
cell_named None k at xs image notes = refl
cell_named (Some a) k at xs image notes = refl

read_named : (e : Environment) (x : Option Meaning) (at : Place) (xs : List prog.Expr) (image : Option prog.Expr) (notes : Notes) → (read_as e x at xs image notes).operand.value ≡ Named
read_named e None at xs image notes = refl
read_named e (Some (m.Scalar slot ty)) at xs image notes = refl
read_named e (Some (m.Array k)) at xs image notes = cell_named (slice_get e.arrays k) k at xs image notes
read_named e (Some (m.Nodes k)) at xs image notes = refl
read_named e (Some (m.Template k)) at xs image notes = refl
read_named e (Some (m.Function k ty)) at xs image notes = refl

signed_named : (f : Option Signature) (k : ℕ) (ty : Ty) (at : Place) (p : Parts) → (call_of f k ty at p).operand.value ≡ Named
signed_named None k ty at p = refl
signed_named (Some f) k ty at p = refl

given_named : (made : Option prog.Expr) (at : Place) (p : Parts) → (call_intrinsic made at p).operand.value ≡ Named
given_named None at p = refl
given_named (Some made) at p = refl

called_named : (e : Environment) (x : Option Meaning) (n : named.Name) (p : Parts) → (call_as e x n p).operand.value ≡ Named
called_named e None n p = given_named (intrinsic n.text e.coarray) n.at p
called_named e (Some (m.Scalar slot ty)) n p = refl
called_named e (Some (m.Array k)) n p = refl
called_named e (Some (m.Nodes k)) n p = refl
called_named e (Some (m.Template k)) n p = refl
called_named e (Some (m.Function k ty)) n p = signed_named (slice_get e.functions k) k ty n.at p

-- ---- expressions

nothing_in : {A : Type 0} (xs ys : List A) → is_nothing (xs ++ ys) ≡ (is_nothing xs && is_nothing ys)
nothing_in [] ys = refl
nothing_in (x ∷ xs) ys = refl

something : {A : Type 0} (xs : List A) (y : A) → is_nothing (xs ++ y ∷ []) ≡ false
something [] y = refl
something (x ∷ xs) y = refl

something_behind : {A : Type 0} (xs ys : List A) (y : A) → is_nothing (xs ++ (ys ++ y ∷ [])) ≡ false
something_behind xs ys y = nothing_in xs (ys ++ y ∷ []) ∙ (ap (λ b. is_nothing xs && b) (something ys y) ∙ and_false (is_nothing xs))

-- A name stands in what is read.
abbrev IsRead : Expr-F (List What) → Type 0
IsRead (Expr-F.Read r) = ⊤
IsRead _ = ⊥

named_step : (y : Expr-F (List What)) → IsRead y → is_nothing (step y) ≡ false
named_step (Expr-F.Read r) h = something_behind {A = What} (flat_map (λ d. d.item) r.subscripts) (in_image r.image) (Used r.name (Variable (length r.subscripts) (is_some r.image)))
named_step (Expr-F.Number p v ty) h = absurd h
named_step (Expr-F.Call c) h = absurd h
named_step (Expr-F.Parens x) h = absurd h
named_step (Expr-F.Unary o x) h = absurd h
named_step (Expr-F.Cast ty x) h = absurd h
named_step (Expr-F.Chain x ls) h = absurd h
named_step (Expr-F.Conditional c p a q b) h = absurd h

module _ (e : Environment) where
  abbrev P : Expr → Type 0
  P x = Fits (expr_of e x).operand (is_nothing (of_expr x)) (outcome x)

  abbrev Fitting : Type 0
  Fitting = (x : Expr) × P x

  abbrev link_part : Link Fitting → Link Expr
  link_part x = record { operator = x.operator; right = x.right.0 }

  abbrev link_seen : Link Expr → Link (List What)
  link_seen x = record { operator = x.operator; right = of_expr x.right }

  abbrev link_outcome : Link Expr → Link Outcome
  link_outcome x = record { operator = x.operator; right = outcome x.right }

  links_fit : (t : Typed) (n : Bool) (q : Outcome) (xs : List (Link Fitting)) → Fits t.operand n q →
      Fits (e_.chain t (map (right_of e) (map link_part xs))).operand (n && is_nothing (flat_map (λ l. l.right) (map link_seen (map link_part xs)))) (c_.chain q (map link_outcome (map link_part xs)))
  links_fit t n q [] f = as_plain (sym (and_true n)) f
  links_fit t n q (x ∷ xs) f =
      let rest : List What = flat_map (λ l. l.right) (map link_seen (map link_part xs)) in
      let one : Bool = is_nothing (of_expr x.right.0) in
      as_plain (and_moves n one (is_nothing rest) ∙ ap (λ b. n && b) (sym (nothing_in (of_expr x.right.0) rest)))
      (links_fit (binary (operator_of x.operator.what) x.operator.at t (expr_of e x.right.0)) (n && one) (operation x.operator.what q (outcome x.right.0)) xs
      (binary_fits x.operator.what x.operator.at t (expr_of e x.right.0) n one q (outcome x.right.0) f x.right.1))

  each_step : (y : Expr-F Fitting) →
      Fits (expr_step e (map-Expr Expr Typed (expr_of e) (map-Expr Fitting Expr (λ z. z.0) y))).operand (is_nothing (step (map-Expr Expr (List What) of_expr (map-Expr Fitting Expr (λ z. z.0) y))))
      (outcome_step (map-Expr Expr Outcome outcome (map-Expr Fitting Expr (λ z. z.0) y)))
  each_step (Expr-F.Number p v ty) = number_fits v ty
  each_step (Expr-F.Read r) = named_fits _ _ _ (read_named e (nearest r.name.text e.scopes) r.name.at _ _ _) (named_step (map-Expr Expr (List What) of_expr (map-Expr Fitting Expr (λ z. z.0) (Expr-F.Read r))) tt)
  each_step (Expr-F.Call x) = named_fits _ _ _ (called_named e (nearest x.name.text e.scopes) x.name _) (something _ _)
  each_step (Expr-F.Parens x) = x.item.1
  each_step (Expr-F.Unary o x) = unary_fits o.what o.at (expr_of e x.0) (is_nothing (of_expr x.0)) (outcome x.0) x.1
  each_step (Expr-F.Cast ty x) = cast_fits ty.item.what (expr_of e x.0) (is_nothing (of_expr x.0)) (outcome x.0) x.1
  each_step (Expr-F.Chain x xs) = as_plain (sym (nothing_in (of_expr x.0) (flat_map (λ l. l.right) (map link_seen (map link_part xs))))) (links_fit (expr_of e x.0) (is_nothing (of_expr x.0)) (outcome x.0) xs x.1)
  each_step (Expr-F.Conditional x p y q z) =
      as_plain (ap (λ b. is_nothing (of_expr x.0) && b) (sym (nothing_in (of_expr y.0) (of_expr z.0))) ∙ sym (nothing_in (of_expr x.0) (of_expr y.0 ++ of_expr z.0)))
      (choose_fits (expr_of e x.0) (expr_of e y.0) (expr_of e z.0) (is_nothing (of_expr x.0)) (is_nothing (of_expr y.0)) (is_nothing (of_expr z.0)) (outcome x.0) (outcome y.0) (outcome z.0) x.1 y.1 z.1)

  pub expr_fits : (x : Expr) → Fits (expr_of e x).operand (is_nothing (of_expr x)) (outcome x)
  expr_fits = ind-Expr P (λ x y h. subst (λ z. P (roll-Expr z)) h
      (subst (λ (t : Typed). Fits t.operand (is_nothing (of_expr (roll-Expr (map-Expr Fitting Expr (λ z. z.0) y)))) (outcome (roll-Expr (map-Expr Fitting Expr (λ z. z.0) y))))
      (sym (fold-roll-Expr Typed (expr_step e) (map-Expr Fitting Expr (λ z. z.0) y)))
      (subst (λ (ws : List What). Fits (expr_step e (map-Expr Expr Typed (expr_of e) (map-Expr Fitting Expr (λ z. z.0) y))).operand (is_nothing ws) (outcome (roll-Expr (map-Expr Fitting Expr (λ z. z.0) y))))
      (sym (fold-roll-Expr (List What) step (map-Expr Fitting Expr (λ z. z.0) y)))
      (subst (λ (o : Outcome). Fits (expr_step e (map-Expr Expr Typed (expr_of e) (map-Expr Fitting Expr (λ z. z.0) y))).operand (is_nothing (step (map-Expr Expr (List What) of_expr (map-Expr Fitting Expr (λ z. z.0) y)))) o)
      (sym (fold-roll-Expr Outcome outcome_step (map-Expr Fitting Expr (λ z. z.0) y))) (each_step y)))))

-- ---- constants

-- The checker's test of a constant, in terms of the expression alone.
abbrev pub value_in : Expr → Value
value_in x = expected (is_nothing (of_expr x)) (outcome x).value

pub value_is : (e : Environment) (x : Expr) → (expr_of e x).operand.value ≡ value_in x
value_is e x = (expr_fits e x).value
