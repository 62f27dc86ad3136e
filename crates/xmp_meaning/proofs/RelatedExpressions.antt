-- Expressions keep every such relation.
use Rattle.std.proofs.Common.{◌≡◌, ◌++◌, ℕ, ℤ, pos, Bool, not, List, [], ◌∷◌, map, Option, Some, None, refl, sym, subst, if◌then◌else◌}
use Rattle.xmp_base.specs.declared.place.Place.{Place}
use Rattle.xmp_num.specs.declared.types.TrapKind.TheVariants.{Subscript}
use Rattle.xmp_num.specs.Arithmetic.{binary_of, wrap}
use Rattle.xmp_prog.specs.declared.expressions.Expr.{Expr, map-Expr}
use Rattle.xmp_prog.specs.declared.expressions.Access.{Access, map-Access}
use Rattle.xmp_prog.specs.declared.expressions.Expr.TheOpen.{Expr-F, Access-F}
use Rattle.xmp_prog.specs.declared.expressions.Expr.TheFolds.{ind-Expr, ind-Access, fold-roll-Expr, fold-roll-Access}
use Rattle.xmp_prog.specs.declared.expressions.Expr.TheViews.{roll-Expr, roll-Access}
use Rattle.xmp_meaning.specs.Runs.{Run, ◌>>=◌, pure}
use Rattle.xmp_meaning.specs.Declarations.{extents, is_coarray}
use Rattle.xmp_meaning.specs.Layouts.{number_of}
use Rattle.xmp_meaning.specs.Context.{Context}
use Rattle.xmp_meaning.specs.Handlers.{Handlers}
use Rattle.xmp_meaning.specs.Expressions.{Element, expr_of, element_of, cell_number, cell_of, expr_step, access_step, checked, within, or_subscript, each, holds, is_zero, as_truth, natural}
use Rattle.xmp_meaning.proofs.Keeps.{Keeps, KeepsHandlers, keeps-or_trap, keeps-if}

-- the same array, and related runs that give the subscripts and the image
pub record ElementsAlike (X Y : Type 0) (R : (A : Type 0) → Run X A → Run Y A → Type 0) (t : Element X) (u : Element Y) : Type 0 where
  pub array : t.array ≡ u.array
  pub subscripts : R (List ℕ) t.subscripts u.subscripts
  pub image : R ℕ t.image u.image

module _ {X Y : Type 0} {S T : ℕ → Type 0} {R : (A : Type 0) → Run X A → Run Y A → Type 0} (cx : Context) (k : Keeps X Y cx S T R)
    {h : Handlers X} {h' : Handlers Y} (kh : KeepsHandlers X Y T R h h') where
  abbrev pub ExprKept : Expr → Type 0
  ExprKept e = R ℤ (expr_of h cx e) (expr_of h' cx e)

  abbrev pub AccessKept : Access → Type 0
  AccessKept a = ElementsAlike X Y R (element_of h cx a) (element_of h' cx a)

  keeps-number : {t : Element X} {u : Element Y} → ElementsAlike X Y R t u → R ℤ (cell_number cx t) (cell_number cx u)
  keeps-number {t} {u} r = subst (λ a. R ℤ (cell_number cx t) (u.subscripts >>= (λ xs. u.image >>= (λ image. pure (number_of cx.layout cx.program a image xs))))) r.array
      (k.goes_on r.subscripts (λ xs. k.goes_on r.image (λ image. k.gives (number_of cx.layout cx.program t.array image xs))))

  keeps-element : {t : Element X} {u : Element Y} → ElementsAlike X Y R t u
      → R ℤ (cell_number cx t >>= (λ n. h.get t.array n)) (cell_number cx u >>= (λ n. h'.get u.array n))
  keeps-element {t} {u} r = subst (λ a. R ℤ (cell_number cx t >>= (λ n. h.get t.array n)) (cell_number cx u >>= (λ n. h'.get a n))) r.array
      (k.goes_on (keeps-number r) (λ n. kh.get t.array n))

  pub keeps-subscript : (x : Option ℕ) (at : Place) → R ℕ (or_subscript x at) (or_subscript x at)
  keeps-subscript (Some x) at = k.gives x
  keeps-subscript None at = k.traps Subscript at

  module _ {C D : Type 0} (p : C → Expr) (q : D → Access) (j : (c : C) → ExprKept (p c)) (i : (d : D) → AccessKept (q d)) where
    keeps-items : (cs : List C) (vs : List ℤ) → R (List ℤ) (each (map (expr_of h cx) (map p cs)) vs) (each (map (expr_of h' cx) (map p cs)) vs)
    keeps-items [] vs = k.gives vs
    keeps-items (c ∷ cs) vs = k.goes_on (j c) (λ v. keeps-items cs (vs ++ v ∷ []))

    keeps-checked : (cs : List C) (ns : List ℕ) (at : Place)
        → R (List ℕ) (checked (map (expr_of h cx) (map p cs)) ns at) (checked (map (expr_of h' cx) (map p cs)) ns at)
    keeps-checked [] ns at = k.gives []
    keeps-checked (c ∷ cs) [] at = k.gives []
    keeps-checked (c ∷ cs) (n ∷ ns) at = k.goes_on (j c) (λ v. k.goes_on (keeps-subscript (within v n) at)
        (λ x. k.goes_on (keeps-checked cs ns at) (λ xs. k.gives (x ∷ xs))))

    abbrev of_expr : {Z : Type 0} → Handlers Z → Expr-F C D → Run Z ℤ
    of_expr {Z} f y = expr_step f cx (map-Expr Expr Access (Run Z ℤ) (Element Z) (expr_of f cx) (element_of f cx) (map-Expr C D Expr Access p q y))

    keeps-expr_step : (y : Expr-F C D) → R ℤ (of_expr h y) (of_expr h' y)
    keeps-expr_step (Expr-F.Const v ty) = k.gives v
    keeps-expr_step (Expr-F.Scalar slot at) = k.scalars slot
    keeps-expr_step (Expr-F.Cell a) = keeps-element (i a)
    keeps-expr_step (Expr-F.Binary op ty a b at) =
        k.goes_on (j a) (λ x. k.goes_on (j b) (λ y. keeps-or_trap k (binary_of op ty x y) at))
    keeps-expr_step (Expr-F.Both a b) = k.goes_on (j a) (λ x. keeps-if k (is_zero x) (k.gives (pos 0)) (k.goes_on (j b) (λ y. k.gives (as_truth y))))
    keeps-expr_step (Expr-F.Either a b) = k.goes_on (j a) (λ x. keeps-if k (is_zero x) (k.goes_on (j b) (λ y. k.gives (as_truth y))) (k.gives (pos 1)))
    keeps-expr_step (Expr-F.Choose a b c) = k.goes_on (j a) (λ x. keeps-if k (is_zero x) (j c) (j b))
    keeps-expr_step (Expr-F.Convert ty a) = k.goes_on (j a) (λ x. k.gives (wrap ty x))
    keeps-expr_step (Expr-F.Call function arguments at) = k.goes_on (keeps-items arguments []) (λ vs. k.calls function vs)
    keeps-expr_step Expr-F.Node = k.gives _
    keeps-expr_step Expr-F.Nodes = k.gives _

    abbrev of_access : {Z : Type 0} → Handlers Z → Access-F C D → Element Z
    of_access {Z} f y = access_step cx (map-Access Expr Access (Run Z ℤ) (Element Z) (expr_of f cx) (element_of f cx) (map-Access C D Expr Access p q y))

    keeps-access_parts : (array : ℕ) (cs : List C) (image : Option C) (at : Place)
        → ElementsAlike X Y R (of_access h (record { array = array; subscripts = cs; image = image; at = at }))
        (of_access h' (record { array = array; subscripts = cs; image = image; at = at }))
    keeps-access_parts array cs None at = record {
      array = refl;
      subscripts = keeps-checked cs (extents cx.program array) at;
      image = k.gives (if is_coarray cx.program array then cx.node else 0);
    }
    keeps-access_parts array cs (Some c) at = record {
      array = refl;
      subscripts = keeps-checked cs (extents cx.program array) at;
      image = k.goes_on (j c) (λ v. k.gives (natural v));
    }

    keeps-access_step : (y : Access-F C D) → ElementsAlike X Y R (of_access h y) (of_access h' y)
    keeps-access_step y = keeps-access_parts y.array y.subscripts y.image y.at

  expr_rolled : {Z : Type 0} (f : Handlers Z) (x : Expr-F Expr Access)
      → expr_of f cx (roll-Expr x) ≡ expr_step f cx (map-Expr Expr Access (Run Z ℤ) (Element Z) (expr_of f cx) (element_of f cx) x)
  expr_rolled {Z} f x = fold-roll-Expr (Run Z ℤ) (Element Z) (expr_step f cx) (access_step cx) x

  access_rolled : {Z : Type 0} (f : Handlers Z) (x : Access-F Expr Access)
      → element_of f cx (roll-Access x) ≡ access_step cx (map-Access Expr Access (Run Z ℤ) (Element Z) (expr_of f cx) (element_of f cx) x)
  access_rolled {Z} f x = fold-roll-Access (Run Z ℤ) (Element Z) (expr_step f cx) (access_step cx) x

  both_rolled : {A : Type 0} {u u' : Run X A} {v v' : Run Y A} → u ≡ u' → v ≡ v' → R A u' v' → R A u v
  both_rolled {A} {u} {u'} {v} {v'} a b r = subst (λ z. R A z v) (sym a) (subst (λ z. R A u' z) (sym b) r)

  both_elements_rolled : {u u' : Element X} {v v' : Element Y} → u ≡ u' → v ≡ v' → ElementsAlike X Y R u' v' → ElementsAlike X Y R u v
  both_elements_rolled {u} {u'} {v} {v'} a b r = subst (λ z. ElementsAlike X Y R z v) (sym a) (subst (λ z. ElementsAlike X Y R u' z) (sym b) r)

  pub keeps-expr : (e : Expr) → ExprKept e
  keeps-expr = ind-Expr ExprKept AccessKept
      (λ x y e. subst (λ z. ExprKept (roll-Expr z)) e (both_rolled (expr_rolled h _) (expr_rolled h' _) (keeps-expr_step (λ c. c.0) (λ d. d.0) (λ c. c.1) (λ d. d.1) y)))
      (λ x y e. subst (λ z. AccessKept (roll-Access z)) e (both_elements_rolled (access_rolled h _) (access_rolled h' _) (keeps-access_step (λ c. c.0) (λ d. d.0) (λ c. c.1) (λ d. d.1) y)))

  keeps-element_of : (a : Access) → AccessKept a
  keeps-element_of = ind-Access ExprKept AccessKept
      (λ x y e. subst (λ z. ExprKept (roll-Expr z)) e (both_rolled (expr_rolled h _) (expr_rolled h' _) (keeps-expr_step (λ c. c.0) (λ d. d.0) (λ c. c.1) (λ d. d.1) y)))
      (λ x y e. subst (λ z. AccessKept (roll-Access z)) e (both_elements_rolled (access_rolled h _) (access_rolled h' _) (keeps-access_step (λ c. c.0) (λ d. d.0) (λ c. c.1) (λ d. d.1) y)))

  pub keeps-cell_of : (a : Access) → R ℤ (cell_of h cx a) (cell_of h' cx a)
  keeps-cell_of a = keeps-number (keeps-element_of a)

  pub keeps-holds : (e : Expr) → R Bool (holds (expr_of h cx e)) (holds (expr_of h' cx e))
  keeps-holds e = k.goes_on (keeps-expr e) (λ v. k.gives (not (is_zero v)))
