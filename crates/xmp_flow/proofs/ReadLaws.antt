-- The reads of each form of expression, and that an expression beside its reads is that expression.
use Rattle.std.proofs.Common.{◌≡◌, ◌∙◌, sym, ap, refl, subst, ◌&&◌, ◌∷◌, ◌++◌, [], ℕ, ℤ, List, map, Option, Some, None}
use Rattle.xmp_base.specs.declared.place.Place.{Place}
use Rattle.xmp_num.specs.declared.types.Ty.{Ty}
use Rattle.xmp_num.specs.declared.types.BinOp.{BinOp}
use Rattle.xmp_paths.specs.Plans.{skip, branch, in_order}
use Rattle.xmp_prog.proofs.Rolls.{at_const, at_scalar, at_cell, at_binary, at_both, at_either, at_choose, at_convert, at_call}
use Rattle.xmp_prog.specs.declared.expressions.Expr.{Expr, map-Expr}
use Rattle.xmp_prog.specs.declared.expressions.Expr.TheVariants as expr
use Rattle.xmp_prog.specs.declared.expressions.Expr.TheOpen.{Expr-F, Access-F}
use Rattle.xmp_prog.specs.declared.expressions.Expr.TheFolds.{ind-Expr, ind-Access, fold-roll-Expr, fold-roll-Access}
use Rattle.xmp_prog.specs.declared.expressions.Expr.TheViews.{roll-Expr, roll-Access}
use Rattle.xmp_prog.specs.declared.expressions.Access.{Access, map-Access}
use Rattle.xmp_flow.specs.Setting.{Setting, wrong_where, reads_scalar}
use Rattle.xmp_flow.specs.Elements.{element_read}
use Rattle.xmp_flow.specs.Reads.{Reading, Element, plain_expr, reading_step, element_step, reading, element, reads_of, reads_of_all, subscript_reads}

abbrev ExprTold : Expr → Type 0
ExprTold e = (reading e).expr ≡ e

abbrev AccessTold : Access → Type 0
AccessTold a = (element a).access ≡ a

module _ {C D : Type 0} (f : C → Expr) (g : D → Access) (h : (c : C) → ExprTold (f c)) (i : (d : D) → AccessTold (g d)) where
  all_told : (es : List C) → map (λ e. e.expr) (map reading (map f es)) ≡ map f es
  all_told [] = refl
  all_told (c ∷ cs) = ap (λ x. x ∷ map (λ e. e.expr) (map reading (map f cs))) (h c) ∙ ap (λ l. f c ∷ l) (all_told cs)

  told_form : (y : Expr-F C D) →
      plain_expr (map-Expr Expr Access Reading Element reading element (map-Expr C D Expr Access f g y)) ≡ roll-Expr (map-Expr C D Expr Access f g y)
  told_form (Expr-F.Const v ty) = sym (expr.rolls-Const v ty)
  told_form (Expr-F.Scalar slot at) = sym (expr.rolls-Scalar slot at)
  told_form (Expr-F.Cell a) = ap expr.Cell (i a) ∙ sym (expr.rolls-Cell (g a))
  told_form (Expr-F.Binary o ty a b at) =
      ap (λ x. expr.Binary o ty x (reading (f b)).expr at) (h a) ∙ (ap (λ x. expr.Binary o ty (f a) x at) (h b) ∙ sym (expr.rolls-Binary o ty (f a) (f b) at))
  told_form (Expr-F.Both a b) =
      ap (λ x. expr.Both x (reading (f b)).expr) (h a) ∙ (ap (expr.Both (f a)) (h b) ∙ sym (expr.rolls-Both (f a) (f b)))
  told_form (Expr-F.Either a b) =
      ap (λ x. expr.Either x (reading (f b)).expr) (h a) ∙ (ap (expr.Either (f a)) (h b) ∙ sym (expr.rolls-Either (f a) (f b)))
  told_form (Expr-F.Choose a b c) =
      ap (λ x. expr.Choose x (reading (f b)).expr (reading (f c)).expr) (h a)
      ∙ (ap (λ x. expr.Choose (f a) x (reading (f c)).expr) (h b) ∙ (ap (expr.Choose (f a) (f b)) (h c) ∙ sym (expr.rolls-Choose (f a) (f b) (f c))))
  told_form (Expr-F.Convert ty a) = ap (expr.Convert ty) (h a) ∙ sym (expr.rolls-Convert ty (f a))
  told_form (Expr-F.Call function arguments at) =
      ap (λ l. expr.Call function l at) (all_told arguments) ∙ sym (expr.rolls-Call function (map f arguments) at)
  told_form Expr-F.Node = sym expr.rolls-Node
  told_form Expr-F.Nodes = sym expr.rolls-Nodes

  told_access_with : (array : ℕ) (subscripts : List C) (image : Option C) (at : Place) →
      (element_step (map-Access Expr Access Reading Element reading element
      (map-Access C D Expr Access f g (record { array = array; subscripts = subscripts; image = image; at = at })))).access
      ≡ roll-Access (map-Access C D Expr Access f g (record { array = array; subscripts = subscripts; image = image; at = at }))
  told_access_with array subscripts None at = ap (λ l. record { array = array; subscripts = l; image = None; at = at }) (all_told subscripts)
  told_access_with array subscripts (Some c) at =
      ap (λ l. record { array = array; subscripts = l; image = Some (reading (f c)).expr; at = at }) (all_told subscripts)
      ∙ ap (λ x. record { array = array; subscripts = map f subscripts; image = Some x; at = at }) (h c)

  told_access : (y : Access-F C D) →
      (element_step (map-Access Expr Access Reading Element reading element (map-Access C D Expr Access f g y))).access ≡ roll-Access (map-Access C D Expr Access f g y)
  told_access y = told_access_with y.array y.subscripts y.image y.at

expr_rolled : (x : Expr-F Expr Access) → plain_expr (map-Expr Expr Access Reading Element reading element x) ≡ roll-Expr x → ExprTold (roll-Expr x)
expr_rolled x e = ap (λ (r : Reading). r.expr) (fold-roll-Expr Reading Element reading_step element_step x) ∙ e

access_rolled : (x : Access-F Expr Access) → (element_step (map-Access Expr Access Reading Element reading element x)).access ≡ roll-Access x → AccessTold (roll-Access x)
access_rolled x e = ap (λ (r : Element). r.access) (fold-roll-Access Reading Element reading_step element_step x) ∙ e

pub expr-told : (e : Expr) → (reading e).expr ≡ e
expr-told = ind-Expr ExprTold AccessTold
    (λ x y e. subst (λ z. ExprTold (roll-Expr z)) e (expr_rolled _ (told_form (λ c. c.0) (λ d. d.0) (λ c. c.1) (λ d. d.1) y)))
    (λ x y e. subst (λ z. AccessTold (roll-Access z)) e (access_rolled _ (told_access (λ c. c.0) (λ d. d.0) (λ c. c.1) (λ d. d.1) y)))

pub access-told : (a : Access) → (element a).access ≡ a
access-told = ind-Access ExprTold AccessTold
    (λ x y e. subst (λ z. ExprTold (roll-Expr z)) e (expr_rolled _ (told_form (λ c. c.0) (λ d. d.0) (λ c. c.1) (λ d. d.1) y)))
    (λ x y e. subst (λ z. AccessTold (roll-Access z)) e (access_rolled _ (told_access (λ c. c.0) (λ d. d.0) (λ c. c.1) (λ d. d.1) y)))

-- ---- one law a form

map_reads : (es : List Expr) (s : Setting) → map (λ e. e.reads s) (map reading es) ≡ reads_of_all es s
map_reads [] s = refl
map_reads (e ∷ es) s = ap (λ l. reads_of e s ∷ l) (map_reads es s)

pub subscript-reads : (a : Access) (s : Setting) → subscript_reads a s ≡ reads_of_all a.subscripts s
subscript-reads a s =
    ap (λ (r : Element). r.parts s) (fold-roll-Access Reading Element reading_step element_step (record { array = a.array; subscripts = a.subscripts; image = a.image; at = a.at }))
    ∙ map_reads a.subscripts s

pub reads-const : (v : ℤ) (ty : Ty) (s : Setting) → reads_of (expr.Const v ty) s ≡ skip
reads-const v ty s = ap (λ (r : Reading). r.reads s) (at_const Reading Element reading_step element_step v ty)

pub reads-scalar : (slot : ℕ) (at : Place) (s : Setting) → reads_of (expr.Scalar slot at) s ≡ reads_scalar s slot at
reads-scalar slot at s = ap (λ (r : Reading). r.reads s) (at_scalar Reading Element reading_step element_step slot at)

pub reads-cell : (a : Access) (s : Setting) →
    reads_of (expr.Cell a) s ≡ in_order (reads_of_all a.subscripts s ++ element_read s a.array a.subscripts a.at ∷ [])
reads-cell a s =
    ap (λ (r : Reading). r.reads s) (at_cell Reading Element reading_step element_step a)
    ∙ (ap (λ l. in_order (l ++ element_read s (element a).access.array (element a).access.subscripts (element a).access.at ∷ [])) (subscript-reads a s)
    ∙ ap (λ x. in_order (reads_of_all a.subscripts s ++ element_read s x.array x.subscripts x.at ∷ [])) (access-told a))

pub reads-binary : (o : BinOp) (ty : Ty) (a b : Expr) (at : Place) (s : Setting) →
    reads_of (expr.Binary o ty a b at) s ≡ in_order (reads_of a s ∷ reads_of b s ∷ [])
reads-binary o ty a b at s = ap (λ (r : Reading). r.reads s) (at_binary Reading Element reading_step element_step o ty a b at)

pub reads-both : (a b : Expr) (s : Setting) → reads_of (expr.Both a b) s ≡ in_order (reads_of a s ∷ branch (reads_of b s) skip ∷ [])
reads-both a b s = ap (λ (r : Reading). r.reads s) (at_both Reading Element reading_step element_step a b)

pub reads-either : (a b : Expr) (s : Setting) → reads_of (expr.Either a b) s ≡ in_order (reads_of a s ∷ branch (reads_of b s) skip ∷ [])
reads-either a b s = ap (λ (r : Reading). r.reads s) (at_either Reading Element reading_step element_step a b)

pub reads-choose : (a b c : Expr) (s : Setting) →
    reads_of (expr.Choose a b c) s ≡ in_order (reads_of a s ∷ branch (reads_of b s) (reads_of c s) ∷ [])
reads-choose a b c s = ap (λ (r : Reading). r.reads s) (at_choose Reading Element reading_step element_step a b c)

pub reads-convert : (ty : Ty) (a : Expr) (s : Setting) → reads_of (expr.Convert ty a) s ≡ reads_of a s
reads-convert ty a s = ap (λ (r : Reading). r.reads s) (at_convert Reading Element reading_step element_step ty a)

pub reads-call : (function : ℕ) (arguments : List Expr) (at : Place) (s : Setting) →
    reads_of (expr.Call function arguments at) s ≡ in_order (reads_of_all arguments s ++ wrong_where (s.inside && s.loops function) 9 at ∷ [])
reads-call function arguments at s =
    ap (λ (r : Reading). r.reads s) (at_call Reading Element reading_step element_step function arguments at)
    ∙ ap (λ l. in_order (l ++ wrong_where (s.inside && s.loops function) 9 at ∷ [])) (map_reads arguments s)
