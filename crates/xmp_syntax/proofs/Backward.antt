-- What a view stands for is one value.
use Rattle.std.proofs.Common.{◌≡◌, List, [], ◌∷◌, map, refl, sym, ap, ◌∙◌, subst}
use Rattle.std.specs.Prelude.{Option, None, Some}
use Rattle.xmp_base.specs.declared.place.Place.{Place}
use Rattle.xmp_syntax.specs.declared.parts.Name.{Name}
use Rattle.xmp_syntax.specs.declared.parts.CommaList.{CommaList}
use Rattle.xmp_syntax.specs.declared.parts.Next.{Next}
use Rattle.xmp_syntax.specs.declared.parts.Inside.{Inside}
use Rattle.xmp_syntax.specs.declared.parts.Link.{Link}
use Rattle.xmp_syntax.specs.declared.parts.Reference.{Reference}
use Rattle.xmp_syntax.specs.declared.parts.Call.{Call}
use Rattle.xmp_syntax.specs.declared.parts.Image as made_image
use Rattle.xmp_syntax.specs.declared.expression.Expr as made
use Rattle.xmp_syntax.specs.declared.expression.Expr.TheFolds.{fold-roll-Expr, ind-Expr, map-Expr}
use Rattle.xmp_syntax.specs.declared.expression.Expr.TheViews.{roll-Expr}
use Rattle.xmp_syntax.specs.declared.expression.Expr.TheOpen.{Expr-F}
use Rattle.xmp_syntax.specs.declared.expression.Expr.TheVariants as e
use Rattle.xmp_syntax.specs.Trees.{Expr, number, read, call, parens, unary, cast, chain, conditional, Ref, ref, Subscripts, no_more, subscript, Image, no_image, image, Arguments, no_arguments, arguments, Rest, end, comma, Links, last, link}
use Rattle.xmp_syntax.proofs.OneTokens.{more_is}
use Rattle.xmp_syntax.specs.View.{subscripts_view, image_view, arguments_view, inside_view, next_view, link_view, expr_step, expr_view, ref_view, call_view, rest_view, subscripts_of, rest_of, links_of}

abbrev mutual
  pub back : Expr → made.Expr
  back (number p n ty) = e.Number p n ty
  back (read x) = e.Read (back_ref x)
  back (call f o xs c) = e.Call (record { name = f; arguments = record { «open» = o; item = back_arguments xs; close = c } })
  back (parens o x c) = e.Parens (record { «open» = o; item = back x; close = c })
  back (unary op p x) = e.Unary (record { what = op; at = p }) (back x)
  back (cast o ty p c x) = e.Cast (record { «open» = o; item = record { what = ty; at = p }; close = c }) (back x)
  back (chain x ls) = e.Chain (back x) (back_links ls)
  back (conditional x p y q z) = e.Conditional (back x) p (back y) q (back z)

  pub back_ref : Ref → Reference made.Expr
  back_ref (ref n ds i) = record { name = n; subscripts = back_subscripts ds; image = back_image i }

  pub back_subscripts : Subscripts → List (Inside made.Expr)
  back_subscripts no_more = []
  back_subscripts (subscript o x c ds) = record { «open» = o; item = back x; close = c } ∷ back_subscripts ds

  pub back_image : Image → Option (made_image.Image made.Expr)
  back_image no_image = None
  back_image (image p o x c) = Some (record { colon = p; number = record { «open» = o; item = back x; close = c } })

  pub back_arguments : Arguments → Option (CommaList made.Expr)
  back_arguments no_arguments = None
  back_arguments (arguments x es) = Some (record { first = back x; more = back_rest es })

  pub back_rest : Rest → List (Next made.Expr)
  back_rest end = []
  back_rest (comma p x es) = record { comma = p; item = back x } ∷ back_rest es

  pub back_links : Links → List (Link made.Expr)
  back_links last = []
  back_links (link op p x ls) = record { operator = record { what = op; at = p }; right = back x } ∷ back_links ls

-- a value whose view stands for it
abbrev Back : made.Expr → Type 0
Back x = back (expr_view x) ≡ x

abbrev Known : Type 0
Known = (x : made.Expr) × Back x

abbrev inside_part : Inside Known → Inside made.Expr
inside_part x = record { «open» = x.open; item = x.item.0; close = x.close }

abbrev next_part : Next Known → Next made.Expr
next_part x = record { comma = x.comma; item = x.item.0 }

abbrev link_part : Link Known → Link made.Expr
link_part x = record { operator = x.operator; right = x.right.0 }

subscripts_known : (xs : List (Inside Known)) → back_subscripts (subscripts_of (map (inside_view expr_view) (map inside_part xs))) ≡ map inside_part xs
subscripts_known [] = refl
subscripts_known (x ∷ xs) =
    let f : made.Expr → Inside made.Expr = λ v. record { «open» = x.open; item = v; close = x.close } in
    more_is (ap f x.item.1) (subscripts_known xs)

rest_known : (xs : List (Next Known)) → back_rest (rest_of (map (next_view expr_view) (map next_part xs))) ≡ map next_part xs
rest_known [] = refl
rest_known (x ∷ xs) = let f : made.Expr → Next made.Expr = λ v. record { comma = x.comma; item = v } in more_is (ap f x.item.1) (rest_known xs)

links_known : (xs : List (Link Known)) → back_links (links_of (map link_view (map link_part xs))) ≡ map link_part xs
links_known [] = refl
links_known (x ∷ xs) = let f : made.Expr → Link made.Expr = λ v. record { operator = x.operator; right = v } in more_is (ap f x.right.1) (links_known xs)

chain_known : {x y : made.Expr} {ls ms : List (Link made.Expr)} → x ≡ y → ls ≡ ms → e.Chain x ls ≡ e.Chain y ms
chain_known {x} {y} {ls} h k = ap (λ v. e.Chain v ls) h ∙ ap (e.Chain y) k

call_known : {f : Name} {o c : Place} {x y : made.Expr} {es fs : List (Next made.Expr)} → x ≡ y → es ≡ fs
    → e.Call (record { name = f; arguments = record { «open» = o; item = Some (record { first = x; more = es }); close = c } }) ≡ e.Call (record { name = f; arguments = record { «open» = o; item = Some (record { first = y; more = fs }); close = c } })
call_known {f} {o} {c} {x} {y} {es} h k =
    ap (λ v. e.Call (record { name = f; arguments = record { «open» = o; item = Some (record { first = v; more = es }); close = c } })) h
    ∙ ap (λ v. e.Call (record { name = f; arguments = record { «open» = o; item = Some (record { first = y; more = v }); close = c } })) k

read_known : {f : Name} {p o c : Place} {ds es : List (Inside made.Expr)} {x y : made.Expr} → ds ≡ es → x ≡ y
    → e.Read (record { name = f; subscripts = ds; image = Some (record { colon = p; number = record { «open» = o; item = x; close = c } }) })
    ≡ e.Read (record { name = f; subscripts = es; image = Some (record { colon = p; number = record { «open» = o; item = y; close = c } }) })
read_known {f} {p} {o} {c} {ds} {es} {x} h k =
    ap (λ v. e.Read (record { name = f; subscripts = v; image = Some (record { colon = p; number = record { «open» = o; item = x; close = c } }) })) h
    ∙ ap (λ v. e.Read (record { name = f; subscripts = es; image = Some (record { colon = p; number = record { «open» = o; item = v; close = c } }) })) k

step : (y : Expr-F Known) → back (expr_step (map-Expr made.Expr Expr expr_view (map-Expr Known made.Expr (λ z. z.0) y))) ≡ roll-Expr (map-Expr Known made.Expr (λ z. z.0) y)
step (Expr-F.Number p n ty) = sym (e.rolls-Number p n ty)
step (Expr-F.Parens x) = ap (λ z. e.Parens (record { «open» = x.open; item = z; close = x.close })) x.item.1 ∙ sym (e.rolls-Parens _)
step (Expr-F.Unary op x) = ap (λ z. e.Unary op z) x.1 ∙ sym (e.rolls-Unary op x.0)
step (Expr-F.Cast ty x) = ap (λ z. e.Cast ty z) x.1 ∙ sym (e.rolls-Cast ty x.0)
step (Expr-F.Conditional x p y q z) =
    ap (λ v. e.Conditional v p (back (expr_view y.0)) q (back (expr_view z.0))) x.1 ∙ ap (λ v. e.Conditional x.0 p v q (back (expr_view z.0))) y.1 ∙ ap (λ v. e.Conditional x.0 p y.0 q v) z.1 ∙ sym (e.rolls-Conditional x.0 p y.0 q z.0)
step (Expr-F.Chain x xs) = chain_known x.1 (links_known xs) ∙ sym (e.rolls-Chain x.0 _)
step (Expr-F.Read x) = by_image x.image
  where
    by_image : (i : Option (made_image.Image Known)) → back (expr_step (map-Expr made.Expr Expr expr_view (map-Expr Known made.Expr (λ z. z.0) (Expr-F.Read (record { name = x.name; subscripts = x.subscripts; image = i })))))
        ≡ roll-Expr (map-Expr Known made.Expr (λ z. z.0) (Expr-F.Read (record { name = x.name; subscripts = x.subscripts; image = i })))
    by_image None =
        ap (λ v. e.Read (record { name = x.name; subscripts = v; image = None })) (subscripts_known x.subscripts)
        ∙ sym (e.rolls-Read _)
    by_image (Some i) = read_known (subscripts_known x.subscripts) i.number.item.1 ∙ sym (e.rolls-Read _)
step (Expr-F.Call x) = by_arguments x.arguments.item
  where
    by_arguments : (i : Option (CommaList Known)) → back (expr_step (map-Expr made.Expr Expr expr_view (map-Expr Known made.Expr (λ z. z.0) (Expr-F.Call (record { name = x.name; arguments = record { «open» = x.arguments.open; item = i; close = x.arguments.close } })))))
        ≡ roll-Expr (map-Expr Known made.Expr (λ z. z.0) (Expr-F.Call (record { name = x.name; arguments = record { «open» = x.arguments.open; item = i; close = x.arguments.close } })))
    by_arguments None = sym (e.rolls-Call _)
    by_arguments (Some i) = call_known i.first.1 (rest_known i.more) ∙ sym (e.rolls-Call _)

-- the view of an expression stands for it alone
pub back_view : (x : made.Expr) → Back x
back_view = ind-Expr Back (λ x y h. subst (λ z. Back (roll-Expr z)) h (ap back (fold-roll-Expr Expr expr_step (map-Expr Known made.Expr (λ z. z.0) y)) ∙ step y))

pub expr_is : (x y : made.Expr) → expr_view x ≡ expr_view y → x ≡ y
expr_is x y h = sym (back_view x) ∙ ap back h ∙ back_view y

-- What holds of expressions, of the parts that hold them.
subscripts_seen : (xs : List (Inside made.Expr)) → back_subscripts (subscripts_view xs) ≡ xs
subscripts_seen [] = refl
subscripts_seen (x ∷ xs) = let f : made.Expr → Inside made.Expr = λ v. record { «open» = x.open; item = v; close = x.close } in more_is (ap f (back_view x.item)) (subscripts_seen xs)

image_seen : (x : Option (made_image.Image made.Expr)) → back_image (image_view x) ≡ x
image_seen None = refl
image_seen (Some x) =
    let f : made.Expr → Option (made_image.Image made.Expr) = λ v. Some (record { colon = x.colon; number = record { «open» = x.number.open; item = v; close = x.number.close } }) in ap f (back_view x.number.item)

rest_seen : (xs : List (Next made.Expr)) → back_rest (rest_view xs) ≡ xs
rest_seen [] = refl
rest_seen (x ∷ xs) = let f : made.Expr → Next made.Expr = λ v. record { comma = x.comma; item = v } in more_is (ap f (back_view x.item)) (rest_seen xs)

arguments_seen : (x : Option (CommaList made.Expr)) → back_arguments (arguments_view x) ≡ x
arguments_seen None = refl
arguments_seen (Some x) =
    let f : made.Expr → Option (CommaList made.Expr) = λ v. Some (record { first = v; more = back_rest (rest_view x.more) }) in
    let g : List (Next made.Expr) → Option (CommaList made.Expr) = λ v. Some (record { first = x.first; more = v }) in ap f (back_view x.first) ∙ ap g (rest_seen x.more)

reference_seen : (x : Reference made.Expr) → back_ref (ref_view x) ≡ x
reference_seen x =
    let f : List (Inside made.Expr) → Reference made.Expr = λ v. record { name = x.name; subscripts = v; image = back_image (image_view x.image) } in
    let g : Option (made_image.Image made.Expr) → Reference made.Expr = λ v. record { name = x.name; subscripts = x.subscripts; image = v } in ap f (subscripts_seen x.subscripts) ∙ ap g (image_seen x.image)

pub reference_is : (x y : Reference made.Expr) → ref_view x ≡ ref_view y → x ≡ y
reference_is x y h = sym (reference_seen x) ∙ ap back_ref h ∙ reference_seen y

pub rest_is : (xs ys : List (Next made.Expr)) → rest_view xs ≡ rest_view ys → xs ≡ ys
rest_is xs ys h = sym (rest_seen xs) ∙ ap back_rest h ∙ rest_seen ys

-- a call that an expression is
abbrev back_call : Call made.Expr → Expr → Call made.Expr
back_call d (call f o xs c) = record { name = f; arguments = record { «open» = o; item = back_arguments xs; close = c } }
back_call d _ = d

call_seen : (d x : Call made.Expr) → back_call d (call_view x) ≡ x
call_seen d x =
    let f : Option (CommaList made.Expr) → Call made.Expr = λ v. record { name = x.name; arguments = record { «open» = x.arguments.open; item = v; close = x.arguments.close } } in ap f (arguments_seen x.arguments.item)

pub call_view_is : (x y : Call made.Expr) → call_view x ≡ call_view y → x ≡ y
call_view_is x y h = sym (call_seen x x) ∙ ap (back_call x) h ∙ call_seen x y
