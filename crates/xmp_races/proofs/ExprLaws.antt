-- What happens in each form of expression, and that an expression beside it is that expression.
use Rattle.std.proofs.Common.{◌≡◌, ◌∙◌, sym, ap, refl, subst, ◌∷◌, ◌++◌, [], ℕ, true, false, List, map, Option, Some, None, IfOk, Result, append-nil}
use Rattle.std.proofs.lemmas.Result.{IfOk-weaker}
use Rattle.xmp_base.specs.declared.place.Place.{Place}
use Rattle.xmp_num.specs.declared.types.Ty.{Ty}
use Rattle.xmp_num.specs.declared.types.BinOp.{BinOp}
use Rattle.xmp_paths.specs.Plans.{Plan, skip, branch}
use Rattle.xmp_prog.proofs.Rolls.{at_cell, at_binary, at_both, at_either, at_choose, at_convert, at_call}
use Rattle.xmp_prog.specs.declared.expressions.Expr.{Expr, map-Expr}
use Rattle.xmp_prog.specs.declared.expressions.Expr.TheVariants as expr
use Rattle.xmp_prog.specs.declared.expressions.Expr.TheOpen.{Expr-F, Access-F}
use Rattle.xmp_prog.specs.declared.expressions.Expr.TheFolds.{ind-Expr, ind-Access, fold-roll-Expr, fold-roll-Access}
use Rattle.xmp_prog.specs.declared.expressions.Expr.TheViews.{roll-Expr, roll-Access}
use Rattle.xmp_prog.specs.declared.expressions.Access.{Access, map-Access}
use Rattle.xmp_spots.specs.declared.events.Event.{Event}
use Rattle.xmp_spots.specs.declared.events.Course.{Course}
use Rattle.xmp_spots.specs.Courses.{in_sequence, plan_of}
use Rattle.xmp_races.specs.Setting.{Setting, where_chosen, wrong_where}
use Rattle.xmp_races.specs.Accesses.{Evaluated, Element, plain_expr, expr_step, element_step, evaluated, element, access_events, events_of, events_of_all, events_of_option, parts_of}

abbrev ExprTold : Expr → Type 0
ExprTold e = (evaluated e).expr ≡ e

abbrev AccessTold : Access → Type 0
AccessTold a = (element a).access ≡ a

module _ {C D : Type 0} (f : C → Expr) (g : D → Access) (h : (c : C) → ExprTold (f c)) (i : (d : D) → AccessTold (g d)) where
  all_told : (es : List C) → map (λ e. e.expr) (map evaluated (map f es)) ≡ map f es
  all_told [] = refl
  all_told (c ∷ cs) = ap (λ x. x ∷ map (λ e. e.expr) (map evaluated (map f cs))) (h c) ∙ ap (λ l. f c ∷ l) (all_told cs)

  told_form : (y : Expr-F C D) →
      plain_expr (map-Expr Expr Access Evaluated Element evaluated element (map-Expr C D Expr Access f g y)) ≡ roll-Expr (map-Expr C D Expr Access f g y)
  told_form (Expr-F.Const v ty) = sym (expr.rolls-Const v ty)
  told_form (Expr-F.Scalar slot at) = sym (expr.rolls-Scalar slot at)
  told_form (Expr-F.Cell a) = ap expr.Cell (i a) ∙ sym (expr.rolls-Cell (g a))
  told_form (Expr-F.Binary o ty a b at) =
      ap (λ x. expr.Binary o ty x (evaluated (f b)).expr at) (h a) ∙ (ap (λ x. expr.Binary o ty (f a) x at) (h b) ∙ sym (expr.rolls-Binary o ty (f a) (f b) at))
  told_form (Expr-F.Both a b) =
      ap (λ x. expr.Both x (evaluated (f b)).expr) (h a) ∙ (ap (expr.Both (f a)) (h b) ∙ sym (expr.rolls-Both (f a) (f b)))
  told_form (Expr-F.Either a b) =
      ap (λ x. expr.Either x (evaluated (f b)).expr) (h a) ∙ (ap (expr.Either (f a)) (h b) ∙ sym (expr.rolls-Either (f a) (f b)))
  told_form (Expr-F.Choose a b c) =
      ap (λ x. expr.Choose x (evaluated (f b)).expr (evaluated (f c)).expr) (h a)
      ∙ (ap (λ x. expr.Choose (f a) x (evaluated (f c)).expr) (h b) ∙ (ap (expr.Choose (f a) (f b)) (h c) ∙ sym (expr.rolls-Choose (f a) (f b) (f c))))
  told_form (Expr-F.Convert ty a) = ap (expr.Convert ty) (h a) ∙ sym (expr.rolls-Convert ty (f a))
  told_form (Expr-F.Call function arguments at) =
      ap (λ l. expr.Call function l at) (all_told arguments) ∙ sym (expr.rolls-Call function (map f arguments) at)
  told_form Expr-F.Node = sym expr.rolls-Node
  told_form Expr-F.Nodes = sym expr.rolls-Nodes

  told_access_with : (array : ℕ) (subscripts : List C) (image : Option C) (at : Place) →
      (element_step (map-Access Expr Access Evaluated Element evaluated element
      (map-Access C D Expr Access f g (record { array = array; subscripts = subscripts; image = image; at = at })))).access
      ≡ roll-Access (map-Access C D Expr Access f g (record { array = array; subscripts = subscripts; image = image; at = at }))
  told_access_with array subscripts None at = ap (λ l. record { array = array; subscripts = l; image = None; at = at }) (all_told subscripts)
  told_access_with array subscripts (Some c) at =
      ap (λ l. record { array = array; subscripts = l; image = Some (evaluated (f c)).expr; at = at }) (all_told subscripts)
      ∙ ap (λ x. record { array = array; subscripts = map f subscripts; image = Some x; at = at }) (h c)

  told_access : (y : Access-F C D) →
      (element_step (map-Access Expr Access Evaluated Element evaluated element (map-Access C D Expr Access f g y))).access ≡ roll-Access (map-Access C D Expr Access f g y)
  told_access y = told_access_with y.array y.subscripts y.image y.at

expr_rolled : (x : Expr-F Expr Access) → plain_expr (map-Expr Expr Access Evaluated Element evaluated element x) ≡ roll-Expr x → ExprTold (roll-Expr x)
expr_rolled x e = ap (λ (r : Evaluated). r.expr) (fold-roll-Expr Evaluated Element expr_step element_step x) ∙ e

access_rolled : (x : Access-F Expr Access) → (element_step (map-Access Expr Access Evaluated Element evaluated element x)).access ≡ roll-Access x → AccessTold (roll-Access x)
access_rolled x e = ap (λ (r : Element). r.access) (fold-roll-Access Evaluated Element expr_step element_step x) ∙ e

pub expr-told : (e : Expr) → (evaluated e).expr ≡ e
expr-told = ind-Expr ExprTold AccessTold
    (λ x y e. subst (λ z. ExprTold (roll-Expr z)) e (expr_rolled _ (told_form (λ c. c.0) (λ d. d.0) (λ c. c.1) (λ d. d.1) y)))
    (λ x y e. subst (λ z. AccessTold (roll-Access z)) e (access_rolled _ (told_access (λ c. c.0) (λ d. d.0) (λ c. c.1) (λ d. d.1) y)))

pub access-told : (a : Access) → (element a).access ≡ a
access-told = ind-Access ExprTold AccessTold
    (λ x y e. subst (λ z. ExprTold (roll-Expr z)) e (expr_rolled _ (told_form (λ c. c.0) (λ d. d.0) (λ c. c.1) (λ d. d.1) y)))
    (λ x y e. subst (λ z. AccessTold (roll-Access z)) e (access_rolled _ (told_access (λ c. c.0) (λ d. d.0) (λ c. c.1) (λ d. d.1) y)))

-- ---- one law a form

map_events : (es : List Expr) (s : Setting) → map (λ e. e.events s) (map evaluated es) ≡ events_of_all es s
map_events [] s = refl
map_events (e ∷ es) s = ap (λ l. events_of e s ∷ l) (map_events es s)

parts_with : (array : ℕ) (subscripts : List Expr) (image : Option Expr) (at : Place) (s : Setting) →
    parts_of (record { array = array; subscripts = subscripts; image = image; at = at }) s ≡ events_of_all subscripts s ++ events_of_option image s
parts_with array subscripts None at s =
    ap (λ (r : Element). r.parts s) (fold-roll-Access Evaluated Element expr_step element_step (record { array = array; subscripts = subscripts; image = None; at = at }))
    ∙ ap (λ l. l ++ []) (map_events subscripts s)
parts_with array subscripts (Some e) at s =
    ap (λ (r : Element). r.parts s) (fold-roll-Access Evaluated Element expr_step element_step (record { array = array; subscripts = subscripts; image = Some e; at = at }))
    ∙ ap (λ l. l ++ events_of e s ∷ []) (map_events subscripts s)

pub parts_are : (a : Access) (s : Setting) → parts_of a s ≡ events_of_all a.subscripts s ++ events_of_option a.image s
parts_are a s = parts_with a.array a.subscripts a.image a.at s

pub events_cell : (a : Access) (s : Setting) → events_of (expr.Cell a) s ≡ in_sequence (parts_of a s ++ access_events s false a)
events_cell a s =
    ap (λ (r : Evaluated). r.events s) (at_cell Evaluated Element expr_step element_step a)
    ∙ ap (λ x. in_sequence (parts_of a s ++ access_events s false x)) (access-told a)

pub events_choose : (a b c : Expr) (s : Setting) → events_of (expr.Choose a b c) s
    ≡ in_sequence (events_of a s ∷ branch (events_of b (where_chosen s a true)) (events_of c (where_chosen s a false)) ∷ [])
events_choose a b c s =
    ap (λ (r : Evaluated). r.events s) (at_choose Evaluated Element expr_step element_step a b c)
    ∙ ap (λ x. in_sequence (events_of a s ∷ branch (events_of b (where_chosen s x true)) (events_of c (where_chosen s x false)) ∷ [])) (expr-told a)

pub events_call : (function : ℕ) (arguments : List Expr) (at : Place) (s : Setting) →
    events_of (expr.Call function arguments at) s ≡ in_sequence (events_of_all arguments s ++ wrong_where (s.looping function) 4 at ∷ [])
events_call function arguments at s =
    ap (λ (r : Evaluated). r.events s) (at_call Evaluated Element expr_step element_step function arguments at)
    ∙ ap (λ l. in_sequence (l ++ wrong_where (s.looping function) 4 at ∷ [])) (map_events arguments s)

pub events_binary : (o : BinOp) (ty : Ty) (a b : Expr) (at : Place) (s : Setting) →
    events_of (expr.Binary o ty a b at) s ≡ in_sequence (events_of a s ∷ events_of b s ∷ [])
events_binary o ty a b at s = ap (λ (r : Evaluated). r.events s) (at_binary Evaluated Element expr_step element_step o ty a b at)

pub events_both : (a b : Expr) (s : Setting) → events_of (expr.Both a b) s ≡ in_sequence (events_of a s ∷ branch (events_of b s) skip ∷ [])
events_both a b s = ap (λ (r : Evaluated). r.events s) (at_both Evaluated Element expr_step element_step a b)

pub events_either : (a b : Expr) (s : Setting) → events_of (expr.Either a b) s ≡ in_sequence (events_of a s ∷ branch (events_of b s) skip ∷ [])
events_either a b s = ap (λ (r : Evaluated). r.events s) (at_either Evaluated Element expr_step element_step a b)

pub events_convert : (ty : Ty) (a : Expr) (s : Setting) → events_of (expr.Convert ty a) s ≡ events_of a s
events_convert ty a s = ap (λ (r : Evaluated). r.events s) (at_convert Evaluated Element expr_step element_step ty a)

-- ---- by what the code has

pub parts_none : (a : Access) (s : Setting) (given : List Expr) (parts : List (Plan Event)) → given ≡ a.subscripts → a.image ≡ None →
    parts ≡ events_of_all given s → parts ≡ parts_of a s
parts_none a s given parts g i e =
    e ∙ (ap (λ l. events_of_all l s) g
    ∙ (sym (append-nil (events_of_all a.subscripts s)) ∙ sym (parts_are a s ∙ ap (λ o. events_of_all a.subscripts s ++ events_of_option o s) i)))

pub parts_some : (a : Access) (s : Setting) (given : List Expr) (x : Expr) (parts : List (Plan Event)) (image : Plan Event) → given ≡ a.subscripts →
    a.image ≡ Some x → parts ≡ events_of_all given s → image ≡ events_of x s → parts ++ image ∷ [] ≡ parts_of a s
parts_some a s given x parts image g i e h =
    (λ j. (e ∙ ap (λ l. events_of_all l s) g) j ++ h j ∷ [])
    ∙ sym (parts_are a s ∙ ap (λ o. events_of_all a.subscripts s ++ events_of_option o s) i)

module _ {E : Type 0} (s : Setting) (x : Expr) (result : Result Course E) where
  -- what is known of the events of a form is known of the expression that has it
  from_form : (y : Expr) (p : Plan Event) → x ≡ y → p ≡ events_of y s → IfOk result (λ course. plan_of course ≡ p) → IfOk result (λ course. plan_of course ≡ events_of x s)
  from_form y p i e = IfOk-weaker result _ _ (λ course h. h ∙ (e ∙ ap (λ z. events_of z s) (sym i)))

  pub from_cell : (a : Access) → x ≡ expr.Cell a → IfOk result (λ course. plan_of course ≡ in_sequence (parts_of a s ++ access_events s false a)) →
      IfOk result (λ course. plan_of course ≡ events_of x s)
  from_cell a i = from_form (expr.Cell a) _ i (sym (events_cell a s))

  pub from_choice : (a b c f g h : Expr) → x ≡ expr.Choose a b c → f ≡ a → g ≡ b → h ≡ c →
      IfOk result (λ course. plan_of course ≡ in_sequence (events_of f s ∷ branch (events_of g (where_chosen s f true)) (events_of h (where_chosen s f false)) ∷ [])) →
      IfOk result (λ course. plan_of course ≡ events_of x s)
  from_choice a b c f g h i fa gb hc =
      from_form (expr.Choose a b c) _ i
      ((λ n. in_sequence (events_of (fa n) s ∷ branch (events_of (gb n) (where_chosen s (fa n) true)) (events_of (hc n) (where_chosen s (fa n) false)) ∷ []))
      ∙ sym (events_choose a b c s))

  pub from_call : (function : ℕ) (arguments given : List Expr) (at : Place) → x ≡ expr.Call function arguments at → given ≡ arguments →
      IfOk result (λ course. plan_of course ≡ in_sequence (events_of_all given s ++ wrong_where (s.looping function) 4 at ∷ [])) →
      IfOk result (λ course. plan_of course ≡ events_of x s)
  from_call function arguments given at i g =
      from_form (expr.Call function arguments at) _ i
      (ap (λ l. in_sequence (events_of_all l s ++ wrong_where (s.looping function) 4 at ∷ [])) g ∙ sym (events_call function arguments at s))
