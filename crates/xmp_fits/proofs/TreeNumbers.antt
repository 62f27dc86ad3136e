-- The numbers of a tree's expressions lie in their types, and what is made of such an expression fits.
use Rattle.std.proofs.Common.{◌≡◌, ◌∙◌, sym, subst, ◌∷◌, [], Bool, true, List, Option, Some, None, map}
use Rattle.std.specs.List.{list_all, AllByRecursion}
use Rattle.xmp_base.specs.declared.place.Place.{Place}
use Rattle.xmp_prog.specs.declared.parts.ProgParts.{ProgParts}
use Rattle.xmp_syntax.specs.declared.parts.Name as named
use Rattle.xmp_syntax.specs.declared.parts.Inside.{Inside}
use Rattle.xmp_syntax.specs.declared.parts.Image.{Image}
use Rattle.xmp_syntax.specs.declared.parts.CommaList.{CommaList}
use Rattle.xmp_syntax.specs.declared.parts.Next.{Next}
use Rattle.xmp_syntax.specs.declared.parts.Link.{Link}
use Rattle.xmp_syntax.specs.declared.expression.Expr.{Expr}
use Rattle.xmp_syntax.specs.declared.expression.Expr.TheFolds.{fold-roll-Expr, ind-Expr, map-Expr}
use Rattle.xmp_syntax.specs.declared.expression.Expr.TheViews.{roll-Expr}
use Rattle.xmp_syntax.specs.declared.expression.Expr.TheOpen.{Expr-F}
use Rattle.xmp_names.specs.declared.names.Environment.{Environment}
use Rattle.xmp_names.specs.declared.typed.Typed.{Typed}
use Rattle.xmp_names.specs.declared.typed.Parts.{Parts}
use Rattle.xmp_names.specs.Expressions.{no_parts, add, each_subscript, each_next, expr_step, expr_of, inside_of, next_of, right_of}
use Rattle.xmp_parts.proofs.Unbroken.{left_true, right_true}
use Rattle.xmp_fits.proofs.OperandsFit.{Right, number_right, unary_right, cast_right, chain_right, choose_right}
use Rattle.xmp_fits.proofs.NamesFit.{Tells, PartsRight, add_right, read_right, call_right}
use Rattle.xmp_fits.specs.NumbersLie.{numbers_lie, numbers_step}

-- ---- numbers

abbrev inside_lies : Inside Expr → Inside Bool
inside_lies d = record { «open» = d.open; item = numbers_lie d.item; close = d.close }

abbrev next_lies : Next Expr → Next Bool
next_lies n = record { comma = n.comma; item = numbers_lie n.item }

abbrev link_lies : Link Expr → Link Bool
link_lies l = record { operator = l.operator; right = numbers_lie l.right }

module _ (env : Environment) (p : ProgParts) (t : Tells env p) where
  abbrev ExprRight : Expr → Type 0
  ExprRight x = numbers_lie x ≡ true → Right env p (expr_of env x)

  none_right : PartsRight env p no_parts
  none_right n = tt

  -- ---- parts in a row, of expressions of which it is known

  module _ {C : Type 0} (q : C → Expr) (h : (c : C) → ExprRight (q c)) where
    abbrev layer : Expr-F C → Expr-F Expr
    layer y = map-Expr C Expr q y

    abbrev Goal : Expr-F C → Type 0
    Goal y = numbers_step (map-Expr Expr Bool numbers_lie (layer y)) ≡ true → Right env p (expr_step env (map-Expr Expr Typed (expr_of env) (layer y)))

    abbrev inside_part : Inside C → Inside Expr
    inside_part d = record { «open» = d.open; item = q d.item; close = d.close }

    abbrev next_part : Next C → Next Expr
    next_part n = record { comma = n.comma; item = q n.item }

    abbrev link_part : Link C → Link Expr
    link_part l = record { operator = l.operator; right = q l.right }

    subscripts_right : (ds : List (Inside C)) (s : Parts) → list_all (λ d. d.item) (map inside_lies (map inside_part ds)) ≡ true → PartsRight env p s → PartsRight env p (each_subscript s (map (inside_of env) (map inside_part ds)))
    subscripts_right [] s n f = f
    subscripts_right (d ∷ ds) s n f =
        subscripts_right ds (add s (expr_of env (q d.item))) (right_true (numbers_lie (q d.item)) _ n) (add_right env p s (expr_of env (q d.item)) f (h d.item (left_true (numbers_lie (q d.item)) _ n)))

    rest_right : (ns : List (Next C)) (s : Parts) → list_all (λ d. d.item) (map next_lies (map next_part ns)) ≡ true → PartsRight env p s → PartsRight env p (each_next s (map (next_of env) (map next_part ns)))
    rest_right [] s n f = f
    rest_right (d ∷ ds) s n f =
        rest_right ds (add s (expr_of env (q d.item))) (right_true (numbers_lie (q d.item)) _ n) (add_right env p s (expr_of env (q d.item)) f (h d.item (left_true (numbers_lie (q d.item)) _ n)))

    links_right : (ls : List (Link C)) → list_all (λ l. l.right) (map link_lies (map link_part ls)) ≡ true → AllByRecursion (λ l. Right env p l.right) (map (right_of env) (map link_part ls))
    links_right [] n = tt
    links_right (l ∷ ls) n = (h l.right (left_true (numbers_lie (q l.right)) _ n), links_right ls (right_true (numbers_lie (q l.right)) _ n))

    read_step : (name : named.Name) (ds : List (Inside C)) (i : Option (Image C)) → Goal (Expr-F.Read (record { name = name; subscripts = ds; image = i }))
    read_step name ds None n = read_right env p t name (each_subscript no_parts (map (inside_of env) (map inside_part ds))) None (subscripts_right ds no_parts (left_true _ true n) none_right) tt
    read_step name ds (Some i) n =
        let l : Bool = list_all (λ d. d.item) (map inside_lies (map inside_part ds)) in
        read_right env p t name (each_subscript no_parts (map (inside_of env) (map inside_part ds))) (Some (expr_of env (q i.number.item)))
        (subscripts_right ds no_parts (left_true l _ n) none_right) (h i.number.item (right_true l _ n))

    call_step : (name : named.Name) (a b : Place) (l : Option (CommaList C)) → Goal (Expr-F.Call (record { name = name; arguments = record { «open» = a; item = l; close = b } }))
    call_step name a b None n = call_right env p t name no_parts none_right
    call_step name a b (Some l) n =
        let first : Typed = expr_of env (q l.first) in
        call_right env p t name (each_next (add no_parts first) (map (next_of env) (map next_part l.more)))
        (rest_right l.more (add no_parts first) (right_true (numbers_lie (q l.first)) _ n) (add_right env p no_parts first none_right (h l.first (left_true (numbers_lie (q l.first)) _ n))))

    step : (y : Expr-F C) → Goal y
    step (Expr-F.Number at v ty) n = number_right env p v ty n
    step (Expr-F.Read r) n = read_step r.name r.subscripts r.image n
    step (Expr-F.Call c) n = call_step c.name c.arguments.open c.arguments.close c.arguments.item n
    step (Expr-F.Parens x) n = h x.item n
    step (Expr-F.Unary op x) n = unary_right env p op.what op.at (expr_of env (q x)) (h x n)
    step (Expr-F.Cast ty x) n = cast_right env p ty.item.what (expr_of env (q x)) (h x n)
    step (Expr-F.Chain x ls) n = chain_right env p (expr_of env (q x)) (map (right_of env) (map link_part ls)) (h x (left_true (numbers_lie (q x)) _ n)) (links_right ls (right_true (numbers_lie (q x)) _ n))
    step (Expr-F.Conditional c at a colon b) n = choose_right env p (expr_of env (q c)) (expr_of env (q a)) (expr_of env (q b))
        (h c (left_true (numbers_lie (q c)) _ n)) (h a (left_true (numbers_lie (q a)) _ (right_true (numbers_lie (q c)) _ n))) (h b (right_true (numbers_lie (q a)) _ (right_true (numbers_lie (q c)) _ n)))

  -- ---- every expression

  rolled : (y : Expr-F Expr) → (numbers_step (map-Expr Expr Bool numbers_lie y) ≡ true → Right env p (expr_step env (map-Expr Expr Typed (expr_of env) y))) → ExprRight (roll-Expr y)
  rolled y f n = subst (Right env p) (sym (fold-roll-Expr Typed (expr_step env) y)) (f (sym (fold-roll-Expr Bool numbers_step y) ∙ n))

  pub expr_right : (x : Expr) → numbers_lie x ≡ true → Right env p (expr_of env x)
  expr_right = ind-Expr ExprRight (λ x y e. subst (λ z. ExprRight (roll-Expr z)) e (rolled (map-Expr _ Expr (λ c. c.0) y) (step (λ c. c.0) (λ c. c.1) y)))
