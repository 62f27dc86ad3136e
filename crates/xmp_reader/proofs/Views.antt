-- The tree of each expression, and of lists that grow.
use Rattle.std.proofs.Common.{◌≡◌, ◌≤◌, ◌<◌, ℕ, ℤ, suc, List, [], ◌∷◌, ◌++◌, map, refl, sym, ap, ◌∙◌, Option, None, Some, arith, subst}
use Rattle.std.specs.Prelude.{◌≢◌, ⊤}
use Rattle.xmp_base.specs.declared.place.Place.{Place}
use Rattle.xmp_num.specs.declared.types.Ty.{Ty}
use Rattle.xmp_lex.specs.declared.token.Token.{Token}
use Rattle.xmp_lex.specs.declared.token.TokenKind.TheVariants as t
use Rattle.xmp_lex.specs.declared.token.Mark.{Mark}
use Rattle.xmp_lex.specs.declared.token.Mark.TheVariants as m
use Rattle.xmp_syntax.specs.declared.parts.Name.{Name}
use Rattle.xmp_syntax.specs.declared.parts.Inside.{Inside}
use Rattle.xmp_syntax.specs.declared.parts.Placed.{Placed}
use Rattle.xmp_syntax.specs.declared.parts.Next.{Next}
use Rattle.xmp_syntax.specs.declared.parts.Link.{Link}
use Rattle.xmp_syntax.specs.declared.parts.Call.{Call}
use Rattle.xmp_syntax.specs.declared.parts.CommaList.{CommaList}
use Rattle.xmp_syntax.specs.declared.parts.Reference.{Reference}
use Rattle.xmp_syntax.specs.declared.parts.Image as made_image
use Rattle.xmp_syntax.specs.declared.expression.Expr as made
use Rattle.xmp_syntax.specs.declared.expression.Expr.{fold-roll-Expr}
use Rattle.xmp_syntax.specs.declared.expression.Expr.TheOpen.{Expr-F}
use Rattle.xmp_syntax.specs.declared.expression.Expr.TheVariants as e
use Rattle.xmp_syntax.specs.Trees.{Expr, number, read, call, parens, unary, cast, chain, conditional, Ref, ref, Subscripts, no_more, subscript, Image, no_image, image, Arguments, no_arguments, arguments, Rest, end, comma, Links, last, link}
use Rattle.xmp_syntax.specs.View.{expr_view, expr_step, ref_view, subscripts_view, image_view, arguments_view, rest_view, links_view, call_view}
use Rattle.xmp_syntax.specs.Grammar.{mark_binds}
use Rattle.xmp_syntax.specs.Spell.{◌at◌, spell, spell_links, spell_subscripts, spell_rest, each, next, expr}
use Rattle.xmp_syntax.specs.Fits.{Fits, FitsExpr, FitsLinks, FitsSubscripts, FitsRest, Each, level_of, links_level}

pub view_number : (p : Place) (v : ℤ) (ty : Ty) → expr_view (e.Number p v ty) ≡ number p v ty
view_number p v ty = ap expr_view (sym (e.rolls-Number p v ty)) ∙ fold-roll-Expr Expr expr_step (Expr-F.Number p v ty)

pub view_parens : (x : Inside made.Expr) → expr_view (e.Parens x) ≡ parens x.open (expr_view x.item) x.close
view_parens x = ap expr_view (sym (e.rolls-Parens x)) ∙ fold-roll-Expr Expr expr_step (Expr-F.Parens x)

pub view_unary : (op : Placed Mark) (x : made.Expr) → expr_view (e.Unary op x) ≡ unary op.what op.at (expr_view x)
view_unary op x = ap expr_view (sym (e.rolls-Unary op x)) ∙ fold-roll-Expr Expr expr_step (Expr-F.Unary op x)

pub view_cast : (ty : Inside (Placed Ty)) (x : made.Expr) → expr_view (e.Cast ty x) ≡ cast ty.open ty.item.what ty.item.at ty.close (expr_view x)
view_cast ty x = ap expr_view (sym (e.rolls-Cast ty x)) ∙ fold-roll-Expr Expr expr_step (Expr-F.Cast ty x)

pub view_chain : (x : made.Expr) (xs : List (Link made.Expr)) → expr_view (e.Chain x xs) ≡ chain (expr_view x) (links_view xs)
view_chain x xs = ap expr_view (sym (e.rolls-Chain x xs)) ∙ fold-roll-Expr Expr expr_step (Expr-F.Chain x xs)

pub view_conditional : (c : made.Expr) (p : Place) (a : made.Expr) (q : Place) (b : made.Expr) → expr_view (e.Conditional c p a q b) ≡ conditional (expr_view c) p (expr_view a) q (expr_view b)
view_conditional c p a q b = ap expr_view (sym (e.rolls-Conditional c p a q b)) ∙ fold-roll-Expr Expr expr_step (Expr-F.Conditional c p a q b)

-- lists that grow by one
pub links_push : (xs : List (Link made.Expr)) (x : Link made.Expr) (r : List Token) → spell_links (links_view (xs ++ x ∷ [])) r ≡ spell_links (links_view xs) ((t.Mark x.operator.what at x.operator.at) ∷ spell (expr_view x.right) r)
links_push [] x r = refl
links_push (y ∷ ys) x r = ap (λ (l : List Token). (t.Mark y.operator.what at y.operator.at) ∷ spell (expr_view y.right) l) (links_push ys x r)

pub links_fit : (n : ℕ) (xs : List (Link made.Expr)) (x : Link made.Expr) → FitsLinks n (links_view xs) → mark_binds x.operator.what ≡ n → level_of (expr_view x.right) < n → Fits (expr_view x.right) → FitsLinks n (links_view (xs ++ x ∷ []))
links_fit n [] x f a b c = (a, b, c, tt)
links_fit n (y ∷ ys) x f a b c = (f.0, f.1, f.2, links_fit n ys x f.3 a b c)

pub subscripts_push : (xs : List (Inside made.Expr)) (x : Inside made.Expr) (r : List Token) → spell_subscripts (subscripts_view (xs ++ x ∷ [])) r ≡ spell_subscripts (subscripts_view xs) ((t.Mark m.OpenBracket at x.open) ∷ spell (expr_view x.item) ((t.Mark m.CloseBracket at x.close) ∷ r))
subscripts_push [] x r = refl
subscripts_push (y ∷ ys) x r = ap (λ (l : List Token). (t.Mark m.OpenBracket at y.open) ∷ spell (expr_view y.item) ((t.Mark m.CloseBracket at y.close) ∷ l)) (subscripts_push ys x r)

pub subscripts_fit : (xs : List (Inside made.Expr)) (x : Inside made.Expr) → FitsSubscripts (subscripts_view xs) → Fits (expr_view x.item) → FitsSubscripts (subscripts_view (xs ++ x ∷ []))
subscripts_fit [] x f a = (a, tt)
subscripts_fit (y ∷ ys) x f a = (f.0, subscripts_fit ys x f.1 a)

pub rest_push : (xs : List (Next made.Expr)) (x : Next made.Expr) (r : List Token) → spell_rest (rest_view (xs ++ x ∷ [])) r ≡ spell_rest (rest_view xs) ((t.Mark m.Comma at x.comma) ∷ spell (expr_view x.item) r)
rest_push [] x r = refl
rest_push (y ∷ ys) x r = ap (λ (l : List Token). (t.Mark m.Comma at y.comma) ∷ spell (expr_view y.item) l) (rest_push ys x r)

pub rest_fit : (xs : List (Next made.Expr)) (x : Next made.Expr) → FitsRest (rest_view xs) → Fits (expr_view x.item) → FitsRest (rest_view (xs ++ x ∷ []))
rest_fit [] x f a = (a, tt)
rest_fit (y ∷ ys) x f a = (f.0, rest_fit ys x f.1 a)

-- a chain fits
pub chain_fits : (n : ℕ) (x : made.Expr) (xs : List (Link made.Expr)) → xs ≢ [] → level_of (expr_view x) < n → Fits (expr_view x) → FitsLinks n (links_view xs) → Fits (chain (expr_view x) (links_view xs)) × (level_of (chain (expr_view x) (links_view xs)) ≤ n)
chain_fits n x [] h a b c = absurd (h refl)
chain_fits n x (y ∷ ys) h a b c =
    ((subst (λ (k : ℕ). level_of (expr_view x) < k) (sym c.0) a, b, subst (λ (k : ℕ). FitsLinks k (links_view (y ∷ ys))) (sym c.0) c), omega (arith, c.0))

pub view_read : (n : Name) (ds : List (Inside made.Expr)) (i : Option (made_image.Image made.Expr))
    → expr_view (e.Read (record { name = n; subscripts = ds; image = i })) ≡ read (ref_view (record { name = n; subscripts = ds; image = i }))
view_read n ds None = ap expr_view (sym (e.rolls-Read (record { name = n; subscripts = ds; image = None }))) ∙ fold-roll-Expr Expr expr_step (Expr-F.Read (record { name = n; subscripts = ds; image = None }))
view_read n ds (Some i) = ap expr_view (sym (e.rolls-Read (record { name = n; subscripts = ds; image = Some i }))) ∙ fold-roll-Expr Expr expr_step (Expr-F.Read (record { name = n; subscripts = ds; image = Some i }))

pub view_call : (n : Name) (o c : Place) (xs : Option (CommaList made.Expr))
    → expr_view (e.Call (record { name = n; arguments = record { «open» = o; item = xs; close = c } })) ≡ call n o (arguments_view xs) c
view_call n o c None = ap expr_view (sym (e.rolls-Call (record { name = n; arguments = record { «open» = o; item = None; close = c } }))) ∙ fold-roll-Expr Expr expr_step (Expr-F.Call (record { name = n; arguments = record { «open» = o; item = None; close = c } }))
view_call n o c (Some xs) = ap expr_view (sym (e.rolls-Call (record { name = n; arguments = record { «open» = o; item = Some xs; close = c } }))) ∙ fold-roll-Expr Expr expr_step (Expr-F.Call (record { name = n; arguments = record { «open» = o; item = Some xs; close = c } }))

pub longer_fits : (n b : ℕ) → n ≡ suc b → (first x : made.Expr) (xs : List (Link made.Expr)) → (xs ≡ [] → x ≡ first) → (xs ≢ [] → expr_view x ≡ chain (expr_view first) (links_view xs))
    → level_of (expr_view first) ≤ b → Fits (expr_view first) → FitsLinks n (links_view xs) → Fits (expr_view x)
longer_fits n b e first x [] f g l h k = subst (λ (y : made.Expr). Fits (expr_view y)) (sym (f refl)) h
longer_fits n b e first x (y ∷ ys) f g l h k =
    subst (λ (z : Expr). Fits z) (sym (g (λ q. cc))) (chain_fits n first (y ∷ ys) (λ q. cc) (omega (arith, e, l)) h k).0

-- expressions behind commas
pub rest_spelled : (xs : List (Next made.Expr)) (r : List Token) → each (next expr) xs r ≡ spell_rest (rest_view xs) r
rest_spelled [] r = refl
rest_spelled (x ∷ xs) r = ap (λ (l : List Token). (t.Mark m.Comma at x.comma) ∷ spell (expr_view x.item) l) (rest_spelled xs r)

pub rest_fits : (xs : List (Next made.Expr)) → Each (λ y. FitsExpr y.item) xs → FitsRest (rest_view xs)
rest_fits [] f = tt
rest_fits (x ∷ xs) f = (f.0, rest_fits xs f.1)
