-- What the walk makes of a statement with no statement inside fits, where no rule breaks in it.
use Rattle.std.proofs.Common.{◌≡◌, ◌∙◌, sym, ap, refl, subst, ◌++◌, [], ◌||◌, not, ℕ, Bool, true, false, List, map}
use Rattle.std.specs.List.{AllByRecursion}
use Rattle.xmp_base.specs.declared.place.Place.{Place}
use Rattle.xmp_num.specs.declared.types.Ty.{Ty}
use Rattle.xmp_prog.specs.declared.expressions.Expr as prog
use Rattle.xmp_prog.specs.declared.expressions.Expr.{out-Expr, roll-out-Expr}
use Rattle.xmp_prog.specs.declared.expressions.Expr.TheVariants as e
use Rattle.xmp_prog.specs.declared.expressions.Expr.TheOpen.{Expr-F}
use Rattle.xmp_prog.specs.declared.expressions.Access.{Access}
use Rattle.xmp_prog.specs.declared.statements.Target.{Target}
use Rattle.xmp_prog.specs.declared.statements.Target.TheVariants as target
use Rattle.xmp_prog.specs.declared.statements.Plain.TheVariants as plain
use Rattle.xmp_prog.specs.declared.parts.ProgParts.{ProgParts}
use Rattle.xmp_prog.specs.Terms.{type_of, terms_of}
use Rattle.xmp_prog.specs.Tests.{is_constant}
use Rattle.xmp_prog.specs.Fits.{has_coarrays}
use Rattle.xmp_prog.proofs.Rolls as rolls
use Rattle.xmp_syntax.specs.declared.parts.Format.{Format}
use Rattle.xmp_syntax.specs.declared.parts.Next.{Next}
use Rattle.xmp_syntax.specs.declared.parts.Reference.{Reference}
use Rattle.xmp_syntax.specs.declared.expression.Expr.{Expr}
use Rattle.xmp_syntax.specs.declared.statement.Simple.{Simple}
use Rattle.xmp_syntax.specs.declared.statement.Simple.TheVariants as simple
use Rattle.xmp_names.specs.declared.names.Environment.{Environment}
use Rattle.xmp_names.specs.declared.rules.Rule.TheVariants.{N1, N3, N4, N5, N6, N7}
use Rattle.xmp_names.specs.declared.typed.Value.{Value}
use Rattle.xmp_names.specs.declared.typed.Value.TheVariants.{Named, Trapping, Known}
use Rattle.xmp_names.specs.declared.typed.Typed.{Typed}
use Rattle.xmp_names.specs.declared.typed.Parts.{Parts}
use Rattle.xmp_names.specs.declared.typed.Operand.{Operand}
use Rattle.xmp_names.specs.declared.world.World.{World}
use Rattle.xmp_names.specs.Rules.{unless}
use Rattle.xmp_names.specs.Expressions.{is_function, no_parts, each_next, next_of, expr_of, reference_of, call, arguments_of}
use Rattle.xmp_names.specs.Walk.{is_known, is_main, first_place, typed_constant}
use Rattle.xmp_walk.specs.Statements.{target_of, compound_of, one, call_in, call_statement, is_scalar_target, target_name, simple_of, return_of, print_of, scan_of, sync_of}
use Rattle.xmp_names.specs.Formats.{fits_format, is_scan_format}
use Rattle.xmp_fits.proofs.PrintFormats.{is_format}
use Rattle.xmp_parts.proofs.Unbroken.{left_none, right_none, left_true, right_true, holds}
use Rattle.xmp_fits.proofs.TermsFit.{Seen, TermFits, each_types, each_terms, or_true}
use Rattle.xmp_fits.proofs.TermForms.{call_terms}
use Rattle.xmp_fits.proofs.OperandsFit.{Fits, IsConst}
use Rattle.xmp_fits.proofs.NamesFit.{Tells}
use Rattle.xmp_fits.specs.NumbersLie.{numbers_lie, reference_lies, rest_lies, simple_lies}
use Rattle.xmp_fits.proofs.TreeNumbers.{expr_right}
use Rattle.xmp_fits.proofs.StepsFit.{Gives, reference_right, reference_place, call_is_right, rest_right, constant_fits}
use Rattle.xmp_fits.proofs.PlainFits.{AllFit, PlainFits, TargetFits, one_fits, nothing_fits, target_fits, set_fits, compound_is, one_operand}

-- ---- constants

const_is : (ty : Ty) (x : prog.Expr) (v : Value) → IsConst ty x v → is_known v ≡ true → is_constant x ≡ true
const_is ty x Named h k = absurd (cc)
const_is ty x Trapping h k = absurd (cc)
const_is ty x (Known v) h k = ap is_constant h ∙ rolls.at_const Bool Bool _ _ v ty

pub constant_is : (env : Environment) (p : ProgParts) (x : Operand) → Fits env p x → is_known x.value ≡ true → is_constant x.made ≡ true
constant_is env p x f k = const_is f.ty x.made x.value f.constant k

-- ---- calls

module _ (env : Environment) (p : ProgParts) where
  call_plain : (k : ℕ) (xs : List prog.Expr) (at : Place) → AllByRecursion (TermFits env p) (terms_of p (e.Call k xs at)) → PlainFits env p (plain.Call k xs at)
  call_plain k xs at f = record {
    terms = subst (AllByRecursion (TermFits env p)) (call_terms p k xs at) f;
    assignment = refl;
    format = tt;
    slots = tt;
    sync = or_true (has_coarrays p.kind);
    inside = λ f. refl;
  }

  call_in_fits : (y : Expr-F prog.Expr Access) → AllByRecursion (TermFits env p) (terms_of p (prog.roll-Expr y)) → AllFit env p (call_in y)
  call_in_fits (Expr-F.Call k xs at) f = one_fits env p (plain.Call k xs at) (call_plain k xs at (subst (λ x. AllByRecursion (TermFits env p) (terms_of p x)) (e.rolls-Call k xs at) f))
  call_in_fits _ f = nothing_fits env p

  pub call_statement_fits : (x : prog.Expr) → AllByRecursion (TermFits env p) (terms_of p x) → AllFit env p (call_statement x)
  call_statement_fits x f = call_in_fits (out-Expr x) (subst (λ y. AllByRecursion (TermFits env p) (terms_of p y)) (sym (roll-out-Expr x)) f)

-- ---- the walk's steps

module _ (p : ProgParts) (w : World) (t : Tells w.names p) where
  pub simple_fits : (x : Simple) → simple_lies x ≡ true → Gives (AllFit w.names p) w (simple_of x)
  simple_fits (simple.Assign r op x) h = λ n.
      let y : Typed = reference_of w.names r in
      let z : Typed = expr_of w.names x in
      let one : y.notes.broken ≡ [] = right_none w.broken y.notes.broken (left_none (w.broken ++ y.notes.broken) z.notes.broken n) in
      let two : z.notes.broken ≡ [] = right_none (w.broken ++ y.notes.broken) z.notes.broken n in
      set_fits w.names p (compound_of op.what) op.at y.operand z.operand (compound_is op.what)
      (reference_right w.names p t r (left_true (reference_lies r) _ h) one) (reference_place w.names r one) (expr_right w.names p t x (right_true (reference_lies r) _ h) two)
  simple_fits (simple.Postfix r op) h = λ n.
      let y : Typed = reference_of w.names r in
      let one_fits : y.notes.broken ≡ [] = right_none w.broken y.notes.broken n in
      set_fits w.names p (compound_of op.what) op.at y.operand one (compound_is op.what) (reference_right w.names p t r h one_fits) (reference_place w.names r one_fits) (one_operand w.names p)
  simple_fits (simple.Prefix op r) h = λ n.
      let y : Typed = reference_of w.names r in
      let one_fits : y.notes.broken ≡ [] = right_none w.broken y.notes.broken n in
      set_fits w.names p (compound_of op.what) op.at y.operand one (compound_is op.what) (reference_right w.names p t r h one_fits) (reference_place w.names r one_fits) (one_operand w.names p)
  simple_fits (simple.Call c) h = λ n.
      let y : Typed = call w.names c.name (arguments_of w.names c.arguments.item) in
      let f = call_is_right w.names p t c h (right_none w.broken y.notes.broken n) in
      call_statement_fits w.names p y.operand.made f.fits.terms

  pub return_fits : (is_last : Bool) (at : Place) (x : Expr) → numbers_lie x ≡ true → Gives (AllFit w.names p) w (return_of is_last at x)
  return_fits is_last at x h n =
      let y : Typed = expr_of w.names x in
      let judged = w.broken ++ unless (not (is_main w.names.region) || is_last) N7 at in
      let before : judged ++ y.notes.broken ≡ [] = left_none (judged ++ y.notes.broken) (unless (not (is_main w.names.region) || is_known y.operand.value) N4 (first_place x)) n in
      let f = expr_right w.names p t x h (right_none judged y.notes.broken before) in
      one_fits w.names p (plain.Return y.operand.made) (record { terms = f.fits.terms; assignment = refl; format = tt; slots = tt; sync = or_true (has_coarrays p.kind); inside = λ f. refl })

  outside : (f : Bool) → not f ≡ true → f ≡ true → ⊥
  outside true h k = cc
  outside false h k = cc

  pub print_fits : (at : Place) (format : Format) (xs : List (Next Expr)) → rest_lies xs ≡ true → Gives (AllFit w.names p) w (print_of at format xs)
  print_fits at format xs h n =
      let q : Parts = each_next no_parts (map (next_of w.names) xs) in
      let judged = w.broken ++ unless (not (is_function w.names.region)) N5 at in
      let before : judged ++ q.notes.broken ≡ [] = left_none (judged ++ q.notes.broken) (unless (fits_format format.text q.types) N6 format.at) n in
      let f = rest_right w.names p t xs no_parts h (λ m. tt) (right_none judged q.notes.broken before) in
      let ok = holds (fits_format format.text q.types) N6 format.at (right_none (judged ++ q.notes.broken) _ n) in
      let main = holds (not (is_function w.names.region)) N5 at (right_none w.broken _ (left_none judged q.notes.broken before)) in
      one_fits w.names p (plain.Print format.text q.made at) (record {
        terms = each_terms w.names p q.types q.made f;
        assignment = refl;
        format = is_format format.text (map (type_of p) q.made) (subst (λ ts. fits_format format.text ts ≡ true) (each_types w.names p q.types q.made f) ok);
        slots = tt;
        sync = or_true (has_coarrays p.kind);
        inside = λ f. absurd (outside (is_function w.names.region) main f);
      })

  pub scan_fits : (at : Place) (format : Format) (r : Reference Expr) → reference_lies r ≡ true → Gives (AllFit w.names p) w (scan_of at format r)
  scan_fits at format r h n =
      let y : Typed = reference_of w.names r in
      let judged = w.broken ++ unless (not (is_function w.names.region)) N5 at in
      let before : judged ++ y.notes.broken ≡ [] = left_none (judged ++ y.notes.broken) (unless (is_scan_format format.text y.operand.ty) N6 format.at) n in
      let now : y.notes.broken ≡ [] = right_none judged y.notes.broken before in
      let f = reference_right w.names p t r h now in
      let main = holds (not (is_function w.names.region)) N5 at (right_none w.broken _ (left_none judged y.notes.broken before)) in
      let g = target_fits w.names p y.operand.made f.ty f.fits (reference_place w.names r now) in
      one_fits w.names p (plain.Scan (target_of y.operand.made) at) (record {
        terms = g.terms;
        assignment = refl;
        format = tt;
        slots = g.slots;
        sync = or_true (has_coarrays p.kind);
        inside = λ f. absurd (outside (is_function w.names.region) main f);
      })

  named_slot : (x : Target) → TargetFits w.names p x → is_scalar_target x ≡ true → Seen w.names (target_name x).number
  named_slot (target.Scalar slot at) f h = f.slots.0
  named_slot (target.Cell a) f h = absurd (cc)

  pub sync_fits : (at : Place) (r : Reference Expr) → reference_lies r ≡ true → Gives (AllFit w.names p) w (sync_of at r)
  sync_fits at r h n =
      let y : Typed = reference_of w.names r in
      let known = w.broken ++ unless w.names.coarray N1 at in
      let judged = known ++ unless (not (is_function w.names.region)) N5 at in
      let before : judged ++ y.notes.broken ≡ [] = left_none (judged ++ y.notes.broken) (unless (is_scalar_target (target_of y.operand.made)) N3 r.name.at) n in
      let now : y.notes.broken ≡ [] = right_none judged y.notes.broken before in
      let f = reference_right w.names p t r h now in
      let earlier : judged ≡ [] = left_none judged y.notes.broken before in
      let main = holds (not (is_function w.names.region)) N5 at (right_none known _ earlier) in
      let coarrays = holds w.names.coarray N1 at (right_none w.broken _ (left_none known _ earlier)) in
      let g = target_fits w.names p y.operand.made f.ty f.fits (reference_place w.names r now) in
      one_fits w.names p (plain.Sync (target_name (target_of y.operand.made)) at) (record {
        terms = tt;
        assignment = refl;
        format = tt;
        slots = (named_slot (target_of y.operand.made) g (holds (is_scalar_target (target_of y.operand.made)) N3 r.name.at (right_none (judged ++ y.notes.broken) _ n)), tt);
        sync = ap (λ b. b || false) (t.kind ∙ coarrays);
        inside = λ f. absurd (outside (is_function w.names.region) main f);
      })

  -- an initialiser at file scope, and any other expression that has to be constant
  pub constant_start : (x : Expr) → numbers_lie x ≡ true → Gives (λ a. AllByRecursion (TermFits w.names p) (terms_of p a.made) × (is_constant a.made ≡ true)) w (typed_constant x)
  constant_start x h n = let f = constant_fits p w t x h n in (f.0.fits.terms, constant_is w.names p (expr_of w.names x).operand f.0 f.1)
