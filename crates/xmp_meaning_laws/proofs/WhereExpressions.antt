-- Expressions keep every relation whose conditions their terms meet.
use Rattle.std.proofs.Common.{◌≡◌, ◌++◌, ℕ, ℤ, pos, Bool, true, false, not, List, [], ◌∷◌, map, Option, Some, None, Result, Ok, Err, refl, sym, subst, if◌then◌else◌}
use Rattle.std.specs.List.{flat_map}
use Rattle.xmp_base.specs.declared.place.Place.{Place}
use Rattle.xmp_num.specs.declared.types.TrapKind.{TrapKind}
use Rattle.xmp_num.specs.declared.types.TrapKind.TheVariants.{Subscript}
use Rattle.xmp_num.specs.declared.types.Ty.{Ty}
use Rattle.xmp_num.specs.declared.types.Ty.TheVariants.{Int}
use Rattle.xmp_num.specs.Arithmetic.{binary_of, wrap}
use Rattle.xmp_prog.specs.declared.expressions.Expr.{Expr, map-Expr}
use Rattle.xmp_prog.specs.declared.expressions.Access.{Access, map-Access}
use Rattle.xmp_prog.specs.declared.expressions.Expr.TheOpen.{Expr-F, Access-F}
use Rattle.xmp_prog.specs.declared.expressions.Expr.TheFolds.{ind-Expr, ind-Access, fold-Access, fold-roll-Expr, fold-roll-Access}
use Rattle.xmp_prog.specs.declared.expressions.Expr.TheViews.{roll-Expr, roll-Access}
use Rattle.xmp_prog.specs.declared.parts.ProgParts.{ProgParts}
use Rattle.xmp_prog.specs.Terms.{Typed, typed, typed_step, type_of, terms_of, terms_of_access}
use Rattle.xmp_prog.specs.Terms as terms
use Rattle.xmp_meaning.specs.Runs.{Run, ◌>>=◌, pure, or_trap}
use Rattle.xmp_meaning.specs.Declarations.{extents, array_type}
use Rattle.xmp_meaning.specs.Layouts.{number_of}
use Rattle.xmp_meaning.specs.Context.{Context}
use Rattle.xmp_meaning.specs.Handlers.{Handlers}
use Rattle.xmp_meaning.specs.Expressions.{Element, expr_of, element_of, cell_number, cell_of, expr_step, access_step, checked, within, or_subscript, each, holds, is_zero, as_truth, natural}
use Rattle.xmp_meaning_laws.proofs.Conditions.{Conditions, TermMeets, TermsMeet, Two, one, another, Anything, Relation, KeepsWhere, HandlersKeep, all_apart}

-- the same array, whose cells may be read, and related runs that give the subscripts and the image
pub record ElementsAlike (X Y : Type 0) (R : Relation X Y) (p : ProgParts) (gets : ℕ → Type 0) (ty : Ty) (e : Element X) (f : Element Y) : Type 0 where
  pub may : gets e.array
  pub ty_is : array_type p e.array ≡ ty
  pub array : e.array ≡ f.array
  pub subscripts : R (List ℕ) (Anything (List ℕ)) e.subscripts f.subscripts
  pub image : R ℕ (Anything ℕ) e.image f.image

abbrev pub typed_access : ProgParts → Access → Typed
typed_access p = fold-Access Typed Typed (typed_step p) (terms.access_step p)

module _ {X Y : Type 0} {t : Two} {c : Conditions} {Lies : Ty → ℤ → Type 0} {R : Relation X Y} (k : KeepsWhere X Y t c Lies R) where
  pub kept_or_trap : {V : ℤ → Type 0} (r : Result ℤ TrapKind) (at : Place) → ((z : ℤ) → r ≡ Ok z → V z) → R ℤ V (or_trap r at) (or_trap r at)
  kept_or_trap (Ok z) at v = k.gives z (v z refl)
  kept_or_trap (Err kind) at v = k.traps kind at

  pub kept_if : {A : Type 0} {V : A → Type 0} {p p' : Run X A} {q q' : Run Y A} (b : Bool) → R A V p q → R A V p' q'
      → R A V (if b then p else p') (if b then q else q')
  kept_if true r r' = r
  kept_if false r r' = r'

  pub kept_subscript : (x : Option ℕ) (at : Place) → R ℕ (Anything ℕ) (or_subscript x at) (or_subscript x at)
  kept_subscript (Some x) at = k.gives x tt
  kept_subscript None at = k.traps Subscript at

  pub truth_lies : (v : ℤ) → Lies Int (as_truth v)
  truth_lies v = of_test (is_zero v)
    where
      of_test : (b : Bool) → Lies Int (if b then pos 0 else pos 1)
      of_test true = k.truths.0
      of_test false = k.truths.1

  module _ {h : Handlers X} {h' : Handlers Y} (kh : HandlersKeep X Y t c Lies R h h') where
    abbrev pub ExprKept : Expr → Type 0
    ExprKept e = TermsMeet c (terms_of t.program e) → R ℤ (Lies (type_of t.program e)) (expr_of h (one t) e) (expr_of h' (another t) e)

    abbrev pub AccessKept : Access → Type 0
    AccessKept a = TermsMeet c (terms_of_access t.program a)
        → ElementsAlike X Y R t.program c.gets (typed_access t.program a).ty (element_of h (one t) a) (element_of h' (another t) a)

    kept_number : {ty : Ty} {e : Element X} {f : Element Y} → ElementsAlike X Y R t.program c.gets ty e f
        → R ℤ (Anything ℤ) (cell_number (one t) e) (cell_number (another t) f)
    kept_number {ty} {e} {f} r =
        subst (λ a. R ℤ (Anything ℤ) (cell_number (one t) e) (f.subscripts >>= (λ xs. f.image >>= (λ image. pure (number_of t.layout t.program a image xs))))) r.array
        (k.goes_on r.subscripts (λ xs u. k.goes_on r.image (λ image w. k.gives (number_of t.layout t.program e.array image xs) tt)))

    kept_element : {ty : Ty} {e : Element X} {f : Element Y} → ElementsAlike X Y R t.program c.gets ty e f
        → R ℤ (Lies ty) (cell_number (one t) e >>= (λ n. h.get e.array n)) (cell_number (another t) f >>= (λ n. h'.get f.array n))
    kept_element {ty} {e} {f} r =
        subst (λ ty. R ℤ (Lies ty) (cell_number (one t) e >>= (λ n. h.get e.array n)) (cell_number (another t) f >>= (λ n. h'.get f.array n))) r.ty_is
        (subst (λ a. R ℤ (Lies (array_type t.program e.array)) (cell_number (one t) e >>= (λ n. h.get e.array n)) (cell_number (another t) f >>= (λ n. h'.get a n))) r.array
        (k.goes_on (kept_number r) (λ n u. kh.get e.array r.may n)))

    module _ {C D : Type 0} (p : C → Expr) (q : D → Access) (j : (x : C) → ExprKept (p x)) (i : (x : D) → AccessKept (q x)) where
      abbrev all_typed : List C → List Typed
      all_typed cs = map (typed t.program) (map p cs)

      kept_items : (cs : List C) (vs : List ℤ) → TermsMeet c (flat_map (λ a. a.terms) (all_typed cs))
          → R (List ℤ) (Anything (List ℤ)) (each (map (expr_of h (one t)) (map p cs)) vs) (each (map (expr_of h' (another t)) (map p cs)) vs)
      kept_items [] vs m = k.gives vs tt
      kept_items (x ∷ cs) vs m =
          let both : _ = all_apart (TermMeets c) (terms_of t.program (p x)) (flat_map (λ a. a.terms) (all_typed cs)) m in
          k.goes_on (j x both.0) (λ v u. kept_items cs (vs ++ v ∷ []) both.1)

      kept_checked : (cs : List C) (ns : List ℕ) (at : Place) → TermsMeet c (flat_map (λ a. a.terms) (all_typed cs))
          → R (List ℕ) (Anything (List ℕ)) (checked (map (expr_of h (one t)) (map p cs)) ns at) (checked (map (expr_of h' (another t)) (map p cs)) ns at)
      kept_checked [] ns at m = k.gives [] tt
      kept_checked (x ∷ cs) [] at m = k.gives [] tt
      kept_checked (x ∷ cs) (n ∷ ns) at m =
          let both : _ = all_apart (TermMeets c) (terms_of t.program (p x)) (flat_map (λ a. a.terms) (all_typed cs)) m in
          k.goes_on (j x both.0) (λ v u. k.goes_on (kept_subscript (within v n) at)
          (λ y u. k.goes_on (kept_checked cs ns at both.1) (λ ys u. k.gives (y ∷ ys) tt)))

      abbrev of_expr : {Z : Type 0} → Handlers Z → Context → Expr-F C D → Run Z ℤ
      of_expr {Z} f cx y = expr_step f cx (map-Expr Expr Access (Run Z ℤ) (Element Z) (expr_of f cx) (element_of f cx) (map-Expr C D Expr Access p q y))

      abbrev of_typed : Expr-F C D → Typed
      of_typed y = typed_step t.program (map-Expr Expr Access Typed Typed (typed t.program) (typed_access t.program) (map-Expr C D Expr Access p q y))

      abbrev termsof : C → List terms.Term
      termsof x = terms_of t.program (p x)

      kept_expr_step : (y : Expr-F C D) → TermsMeet c (of_typed y).terms
          → R ℤ (Lies (of_typed y).ty) (of_expr h (one t) y) (of_expr h' (another t) y)
      kept_expr_step (Expr-F.Const v ty) m = k.gives v (k.constants v ty m.0.itself)
      kept_expr_step (Expr-F.Scalar slot at) m = k.scalars slot m.0.reads.0
      kept_expr_step (Expr-F.Cell a) m = kept_element (i a m.1)
      kept_expr_step (Expr-F.Binary op ty a b at) m =
          let both : _ = all_apart (TermMeets c) (termsof a) (termsof b) m.1 in
          k.goes_on (j a both.0) (λ x lx. k.goes_on (j b both.1) (λ y ly. kept_or_trap (binary_of op ty x y) at (λ z e. k.operators op ty _ _ at m.0.itself x y z lx ly e)))
      kept_expr_step (Expr-F.Both a b) m =
          let both : _ = all_apart (TermMeets c) (termsof a) (termsof b) m.1 in
          k.goes_on (j a both.0) (λ x u. kept_if (is_zero x) (k.gives (pos 0) k.truths.0) (k.goes_on (j b both.1) (λ y u. k.gives (as_truth y) (truth_lies y))))
      kept_expr_step (Expr-F.Either a b) m =
          let both : _ = all_apart (TermMeets c) (termsof a) (termsof b) m.1 in
          k.goes_on (j a both.0) (λ x u. kept_if (is_zero x) (k.goes_on (j b both.1) (λ y u. k.gives (as_truth y) (truth_lies y))) (k.gives (pos 1) k.truths.1))
      kept_expr_step (Expr-F.Choose a b d) m =
          let first : _ = all_apart (TermMeets c) (termsof a) (termsof b ++ termsof d) m.1 in
          let both : _ = all_apart (TermMeets c) (termsof b) (termsof d) first.1 in
          k.goes_on (j a first.0) (λ x u. kept_if (is_zero x) (k.weakens (j d both.1) (λ v lies. k.choices _ _ _ m.0.itself v lies)) (j b both.0))
      kept_expr_step (Expr-F.Convert ty a) m = k.goes_on (j a m.1) (λ x u. k.gives (wrap ty x) (k.converts ty x))
      kept_expr_step (Expr-F.Call function arguments at) m = k.goes_on (kept_items arguments [] m.1) (λ vs u. k.calls function _ at m.0.itself vs)
      kept_expr_step Expr-F.Node m = k.own_number m.0.itself
      kept_expr_step Expr-F.Nodes m = k.gives _ (k.node_counts m.0.itself)

      abbrev of_access : {Z : Type 0} → Handlers Z → Context → Access-F C D → Element Z
      of_access {Z} f cx y = access_step cx (map-Access Expr Access (Run Z ℤ) (Element Z) (expr_of f cx) (element_of f cx) (map-Access C D Expr Access p q y))

      abbrev typed_in : Access-F C D → Typed
      typed_in y = terms.access_step t.program (map-Access Expr Access Typed Typed (typed t.program) (typed_access t.program) (map-Access C D Expr Access p q y))

      kept_access_parts : (array : ℕ) (cs : List C) (image : Option C) (at : Place)
          → TermsMeet c (typed_in (record { array = array; subscripts = cs; image = image; at = at })).terms
          → ElementsAlike X Y R t.program c.gets (array_type t.program array)
          (of_access h (one t) (record { array = array; subscripts = cs; image = image; at = at }))
          (of_access h' (another t) (record { array = array; subscripts = cs; image = image; at = at }))
      kept_access_parts array cs None at m =
          let both : _ = all_apart (TermMeets c) (flat_map (λ a. a.terms) (all_typed cs)) [] m.1 in
          record {
            may = m.0.gets.0;
            ty_is = refl;
            array = refl;
            subscripts = kept_checked cs (extents t.program array) at both.0;
            image = k.own_image array _ at m.0.itself;
          }
      kept_access_parts array cs (Some x) at m =
          let both : _ = all_apart (TermMeets c) (flat_map (λ a. a.terms) (all_typed cs)) (termsof x) m.1 in
          record {
            may = m.0.gets.0;
            ty_is = refl;
            array = refl;
            subscripts = kept_checked cs (extents t.program array) at both.0;
            image = k.goes_on (j x both.1) (λ v u. k.gives (natural v) tt);
          }

      kept_access_step : (y : Access-F C D) → TermsMeet c (typed_in y).terms
          → ElementsAlike X Y R t.program c.gets (typed_in y).ty (of_access h (one t) y) (of_access h' (another t) y)
      kept_access_step y m = kept_access_parts y.array y.subscripts y.image y.at m

    expr_rolled : {Z : Type 0} (f : Handlers Z) (cx : Context) (x : Expr-F Expr Access)
        → expr_of f cx (roll-Expr x) ≡ expr_step f cx (map-Expr Expr Access (Run Z ℤ) (Element Z) (expr_of f cx) (element_of f cx) x)
    expr_rolled {Z} f cx x = fold-roll-Expr (Run Z ℤ) (Element Z) (expr_step f cx) (access_step cx) x

    access_rolled : {Z : Type 0} (f : Handlers Z) (cx : Context) (x : Access-F Expr Access)
        → element_of f cx (roll-Access x) ≡ access_step cx (map-Access Expr Access (Run Z ℤ) (Element Z) (expr_of f cx) (element_of f cx) x)
    access_rolled {Z} f cx x = fold-roll-Access (Run Z ℤ) (Element Z) (expr_step f cx) (access_step cx) x

    typed_rolled : (x : Expr-F Expr Access) → typed t.program (roll-Expr x) ≡ typed_step t.program (map-Expr Expr Access Typed Typed (typed t.program) (typed_access t.program) x)
    typed_rolled x = fold-roll-Expr Typed Typed (typed_step t.program) (terms.access_step t.program) x

    typed_access_rolled : (x : Access-F Expr Access)
        → typed_access t.program (roll-Access x) ≡ terms.access_step t.program (map-Access Expr Access Typed Typed (typed t.program) (typed_access t.program) x)
    typed_access_rolled x = fold-roll-Access Typed Typed (typed_step t.program) (terms.access_step t.program) x

    expr_rolls : {u u' : Run X ℤ} {v v' : Run Y ℤ} {w w' : Typed} → u ≡ u' → v ≡ v' → w ≡ w'
        → (TermsMeet c w'.terms → R ℤ (Lies w'.ty) u' v') → TermsMeet c w.terms → R ℤ (Lies w.ty) u v
    expr_rolls {u} {u'} {v} {v'} {w} {w'} a b e r =
        subst (λ z. TermsMeet c z.terms → R ℤ (Lies z.ty) u v) (sym e)
        (λ m. subst (λ z. R ℤ (Lies w'.ty) z v) (sym a) (subst (λ z. R ℤ (Lies w'.ty) u' z) (sym b) (r m)))

    access_rolls : {u u' : Element X} {v v' : Element Y} {w w' : Typed} → u ≡ u' → v ≡ v' → w ≡ w'
        → (TermsMeet c w'.terms → ElementsAlike X Y R t.program c.gets w'.ty u' v') → TermsMeet c w.terms → ElementsAlike X Y R t.program c.gets w.ty u v
    access_rolls {u} {u'} {v} {v'} {w} {w'} a b e r =
        subst (λ z. TermsMeet c z.terms → ElementsAlike X Y R t.program c.gets z.ty u v) (sym e)
        (λ m. subst (λ z. ElementsAlike X Y R t.program c.gets w'.ty z v) (sym a) (subst (λ z. ElementsAlike X Y R t.program c.gets w'.ty u' z) (sym b) (r m)))

    pub kept_expr : (e : Expr) → ExprKept e
    kept_expr = ind-Expr ExprKept AccessKept
        (λ x y e. subst (λ z. ExprKept (roll-Expr z)) e (expr_rolls (expr_rolled h (one t) _) (expr_rolled h' (another t) _) (typed_rolled _)
        (kept_expr_step (λ c. c.0) (λ d. d.0) (λ c. c.1) (λ d. d.1) y)))
        (λ x y e. subst (λ z. AccessKept (roll-Access z)) e (access_rolls (access_rolled h (one t) _) (access_rolled h' (another t) _) (typed_access_rolled _)
        (kept_access_step (λ c. c.0) (λ d. d.0) (λ c. c.1) (λ d. d.1) y)))

    kept_element_of : (a : Access) → AccessKept a
    kept_element_of = ind-Access ExprKept AccessKept
        (λ x y e. subst (λ z. ExprKept (roll-Expr z)) e (expr_rolls (expr_rolled h (one t) _) (expr_rolled h' (another t) _) (typed_rolled _)
        (kept_expr_step (λ c. c.0) (λ d. d.0) (λ c. c.1) (λ d. d.1) y)))
        (λ x y e. subst (λ z. AccessKept (roll-Access z)) e (access_rolls (access_rolled h (one t) _) (access_rolled h' (another t) _) (typed_access_rolled _)
        (kept_access_step (λ c. c.0) (λ d. d.0) (λ c. c.1) (λ d. d.1) y)))

    pub kept_cell_of : (a : Access) → TermsMeet c (terms_of_access t.program a) → R ℤ (Anything ℤ) (cell_of h (one t) a) (cell_of h' (another t) a)
    kept_cell_of a m = kept_number (kept_element_of a m)

    pub kept_holds : (e : Expr) → TermsMeet c (terms_of t.program e)
        → R Bool (Anything Bool) (holds (expr_of h (one t) e)) (holds (expr_of h' (another t) e))
    kept_holds e m = k.goes_on (kept_expr e m) (λ v u. k.gives (not (is_zero v)) tt)
