-- A statement with no statement inside fits where no rule breaks in it.
use Rattle.std.proofs.Common.{◌≡◌, ◌∙◌, sym, ap, refl, subst, ◌∷◌, [], ◌||◌, inl, inr, ℕ, true, List, Option, Some, None}
use Rattle.std.specs.Prelude.{⊤, pos}
use Rattle.std.specs.List.{AllByRecursion}
use Rattle.xmp_base.specs.declared.place.Place.{Place}
use Rattle.xmp_num.specs.declared.types.Ty.{Ty}
use Rattle.xmp_num.specs.declared.types.Ty.TheVariants.{Int}
use Rattle.xmp_lex.specs.declared.token.Mark.{Mark}
use Rattle.xmp_lex.specs.declared.token.Mark.TheVariants as m
use Rattle.xmp_prog.specs.declared.expressions.Expr as prog
use Rattle.xmp_prog.specs.declared.expressions.Expr.{out-Expr, out-roll-Expr}
use Rattle.xmp_prog.specs.declared.expressions.Expr.TheVariants as e
use Rattle.xmp_prog.specs.declared.expressions.Expr.TheOpen.{Expr-F}
use Rattle.xmp_prog.specs.declared.expressions.Access.{Access}
use Rattle.xmp_prog.specs.declared.statements.Compound.{Compound}
use Rattle.xmp_prog.specs.declared.statements.Target.{Target}
use Rattle.xmp_prog.specs.declared.statements.Plain.{Plain}
use Rattle.xmp_prog.specs.declared.statements.Plain.TheVariants as plain
use Rattle.xmp_prog.specs.declared.statements.Stmt.{Stmt}
use Rattle.xmp_prog.specs.declared.statements.Stmt.TheVariants as s
use Rattle.xmp_prog.specs.declared.statements.Stmt.TheOpen.{Stmt-F}
use Rattle.xmp_prog.specs.declared.parts.ProgParts.{ProgParts}
use Rattle.xmp_prog.specs.Numbers.{same_type}
use Rattle.xmp_prog.specs.Terms.{Of, Typed, terms_of, terms_of_access, typed_step, access_step}
use Rattle.xmp_prog.specs.Statements.{Statement, Walked, WalkedTask, walk_step, walk_task, statements_of, terms_in, slots_beside, terms_of_target, slots_of_target}
use Rattle.xmp_prog.specs.Tests.{assignment_fits, compound_fits, is_no_sync, stands_in_function, is_shift}
use Rattle.xmp_prog.specs.Fits.{has_coarrays, PrintFits}
use Rattle.xmp_prog.proofs.Rolls as rolls
use Rattle.xmp_names.specs.declared.names.Environment.{Environment}
use Rattle.xmp_names.specs.declared.operators.Operator.{Operator}
use Rattle.xmp_names.specs.declared.operators.Operator.TheVariants.{Arithmetic, Compare, Shift, Both, Either}
use Rattle.xmp_names.specs.declared.typed.Operand.{Operand}
use Rattle.xmp_names.specs.Typing.{operand, joint, value_type}
use Rattle.xmp_names.specs.Expressions.{is_function}
use Rattle.xmp_walk.specs.Statements.{target_in, target_of, compound_of, set, one}
use Rattle.xmp_fits.proofs.TermsFit.{Seen, TermFits, ExprFits, all_append, or_true}
use Rattle.xmp_fits.proofs.TermForms.{accessed}
use Rattle.xmp_fits.proofs.OperandsFit.{Fits, operand_fits, of_same, number_right}
use Rattle.xmp_fits.proofs.StepsFit.{IsPlace}

-- ---- what is to be shown

-- All terms of a statement pass, all scalars that it names are seen, and it may stand where it does.
pub record StatementFits (env : Environment) (p : ProgParts) (x : Statement) : Type 0 where
  pub terms : AllByRecursion (TermFits env p) (terms_in p x)
  pub assignment : assignment_fits p x ≡ true
  pub format : PrintFits p x
  pub slots : AllByRecursion (Seen env) (slots_beside x)
  pub sync : (has_coarrays p.kind || is_no_sync x) ≡ true
  pub inside : is_function env.region ≡ true → stands_in_function x ≡ true

abbrev pub AllFit : Environment → ProgParts → Stmt → Type 0
AllFit env p x = AllByRecursion (StatementFits env p) (statements_of x)

-- ---- forms

plain_is : (x : Plain) → statements_of (s.Plain x) ≡ Stmt-F.Plain x ∷ []
plain_is x = ap (λ w. w.statements) (rolls.at_plain Walked WalkedTask walk_step walk_task x)

nothing_is : statements_of (s.Block []) ≡ Stmt-F.Block [] ∷ []
nothing_is = ap (λ w. w.statements) (rolls.at_block Walked WalkedTask walk_step walk_task [])

out_scalar : (slot : ℕ) (at : Place) → out-Expr (e.Scalar slot at) ≡ Expr-F.Scalar slot at
out_scalar slot at = ap out-Expr (sym (e.rolls-Scalar slot at)) ∙ out-roll-Expr (Expr-F.Scalar slot at)

out_cell : (a : Access) → out-Expr (e.Cell a) ≡ Expr-F.Cell a
out_cell a = ap out-Expr (sym (e.rolls-Cell a)) ∙ out-roll-Expr (Expr-F.Cell a)

out_call : (k : ℕ) (xs : List prog.Expr) (at : Place) → out-Expr (e.Call k xs at) ≡ Expr-F.Call k xs at
out_call k xs at = ap out-Expr (sym (e.rolls-Call k xs at)) ∙ out-roll-Expr (Expr-F.Call k xs at)

-- The operator of a compound assignment: where it shifts, it is a shift.
abbrev pub IsCompound : Option Operator → Type 0
IsCompound None = ⊤
IsCompound (Some (Shift o)) = is_shift o ≡ true
IsCompound (Some _) = ⊤

pub compound_is : (k : Mark) → IsCompound (compound_of k)
compound_is m.AddAssign = tt
compound_is m.Increment = tt
compound_is m.SubAssign = tt
compound_is m.Decrement = tt
compound_is m.MulAssign = tt
compound_is m.DivAssign = tt
compound_is m.RemAssign = tt
compound_is m.AndAssign = tt
compound_is m.OrAssign = tt
compound_is m.XorAssign = tt
compound_is m.ShlAssign = refl
compound_is m.ShrAssign = refl
compound_is _ = tt

module _ (env : Environment) (p : ProgParts) where
  abbrev pub PlainFits : Plain → Type 0
  PlainFits x = StatementFits env p (Stmt-F.Plain x)

  pub one_fits : (x : Plain) → PlainFits x → AllFit env p (s.Plain x)
  one_fits x f = subst (AllByRecursion (StatementFits env p)) (sym (plain_is x)) (f, tt)

  pub nothing_fits : AllFit env p (s.Block [])
  nothing_fits = subst (AllByRecursion (StatementFits env p)) (sym nothing_is) (
    record {
      terms = tt;
      assignment = refl;
      format = tt;
      slots = tt;
      sync = or_true (has_coarrays p.kind);
      inside = λ f. refl;
    },
    tt,
  )

  -- ---- what is written

  pub record TargetFits (x : Target) : Type 0 where
    pub terms : AllByRecursion (TermFits env p) (terms_of_target p x)
    pub slots : AllByRecursion (Seen env) (slots_of_target x)

  scalar_terms : (slot : ℕ) (at : Place) → terms_of p (e.Scalar slot at) ≡ Of (Expr-F.Scalar slot at) ∷ []
  scalar_terms slot at = ap (λ t. t.terms) (rolls.at_scalar Typed Typed (typed_step p) (access_step p) slot at)

  cell_terms : (a : Access) → terms_of p (e.Cell a) ≡ Of (Expr-F.Cell (accessed p a).ty) ∷ terms_of_access p a
  cell_terms a = ap (λ t. t.terms) (rolls.at_cell Typed Typed (typed_step p) (access_step p) a)

  scalar_target : (slot : ℕ) (at : Place) → AllByRecursion (TermFits env p) (terms_of p (e.Scalar slot at)) → TargetFits (target_of (e.Scalar slot at))
  scalar_target slot at f =
      let g = subst (AllByRecursion (TermFits env p)) (scalar_terms slot at) f in
      subst (λ x. TargetFits (target_in x)) (sym (out_scalar slot at)) (record { terms = tt; slots = g.0.slots })

  cell_target : (a : Access) → AllByRecursion (TermFits env p) (terms_of p (e.Cell a)) → TargetFits (target_of (e.Cell a))
  cell_target a f =
      let g = subst (AllByRecursion (TermFits env p)) (cell_terms a) f in
      subst (λ x. TargetFits (target_in x)) (sym (out_cell a)) (record { terms = g.1; slots = tt })

  pub target_fits : (x : prog.Expr) (ty : Ty) → ExprFits env p ty x → IsPlace x → TargetFits (target_of x)
  target_fits x ty f (inl (slot, at, h)) = subst (λ y. TargetFits (target_of y)) (sym h) (scalar_target slot at (subst (λ y. AllByRecursion (TermFits env p) (terms_of p y)) h f.terms))
  target_fits x ty f (inr (a, h)) = subst (λ y. TargetFits (target_of y)) (sym h) (cell_target a (subst (λ y. AllByRecursion (TermFits env p) (terms_of p y)) h f.terms))

  set_plain : (t : Target) (c : Option Compound) (v : prog.Expr) (ty : Ty) → TargetFits t → ExprFits env p ty v → compound_fits c ty ≡ true → PlainFits (plain.Set t c v)
  set_plain t c v ty f g h = record {
    terms = all_append (TermFits env p) (terms_of_target p t) (terms_of p v) f.terms g.terms;
    assignment = ap (compound_fits c) g.is ∙ h;
    format = tt;
    slots = f.slots;
    sync = or_true (has_coarrays p.kind);
    inside = λ f. refl;
  }

  pub set_fits : (o : Option Operator) (at : Place) (t v : Operand) → IsCompound o → Fits env p t → IsPlace t.made → Fits env p v → AllFit env p (set o at t v)
  set_fits None at t v c f i g = one_fits _ (set_plain (target_of t.made) None v.made g.ty (target_fits t.made f.ty f.fits i) g.fits refl)
  set_fits (Some (Arithmetic o)) at t v c f i g =
      let ty : Ty = value_type (joint t.ty v.ty) in
      one_fits _ (set_plain (target_of t.made) (Some (record { op = o; ty = ty; at = at })) (operand ty v) ty (target_fits t.made f.ty f.fits i) (operand_fits env p ty v g) (of_same o ty))
  set_fits (Some (Shift o)) at t v c f i g =
      one_fits _ (set_plain (target_of t.made) (Some (record { op = o; ty = value_type t.ty; at = at })) v.made g.ty (target_fits t.made f.ty f.fits i) g.fits (ap (λ b. b || same_type (value_type t.ty) g.ty) c))
  set_fits (Some (Compare o)) at t v c f i g = one_fits _ (set_plain (target_of t.made) None v.made g.ty (target_fits t.made f.ty f.fits i) g.fits refl)
  set_fits (Some Both) at t v c f i g = one_fits _ (set_plain (target_of t.made) None v.made g.ty (target_fits t.made f.ty f.fits i) g.fits refl)
  set_fits (Some Either) at t v c f i g = one_fits _ (set_plain (target_of t.made) None v.made g.ty (target_fits t.made f.ty f.fits i) g.fits refl)

  pub one_operand : Fits env p one
  one_operand = number_right env p (pos 1) Int refl refl
