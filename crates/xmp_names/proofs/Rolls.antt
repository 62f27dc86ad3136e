-- What is made of an expression of a form with a part that may be missing.
use Rattle.std.proofs.Common.{◌≡◌, ◌∙◌, sym, ap, List, Option, Some, None}
use Rattle.xmp_base.specs.declared.place.Place.{Place}
use Rattle.xmp_syntax.specs.declared.parts.Name as named
use Rattle.xmp_syntax.specs.declared.parts.Inside.{Inside}
use Rattle.xmp_syntax.specs.declared.parts.Image.{Image}
use Rattle.xmp_syntax.specs.declared.parts.CommaList.{CommaList}
use Rattle.xmp_syntax.specs.declared.parts.Reference.{Reference}
use Rattle.xmp_syntax.specs.declared.parts.Call.{Call}
use Rattle.xmp_syntax.specs.declared.expression.Expr.{Expr, fold-roll-Expr}
use Rattle.xmp_syntax.specs.declared.expression.Expr.TheOpen.{Expr-F}
use Rattle.xmp_syntax.specs.declared.expression.Expr.TheVariants as t
use Rattle.xmp_names.specs.declared.names.Environment.{Environment}
use Rattle.xmp_names.specs.declared.typed.Typed.{Typed}
use Rattle.xmp_names.specs.Expressions.{expr_of, expr_step, reference_of, call, arguments_of}

read_parts : (env : Environment) (n : named.Name) (ds : List (Inside Expr)) (i : Option (Image Expr)) →
    let r : Reference Expr = record { name = n; subscripts = ds; image = i } in expr_of env (t.Read r) ≡ reference_of env r
read_parts env n ds None = let r : Reference Expr = record { name = n; subscripts = ds; image = None } in
    ap (expr_of env) (sym (t.rolls-Read r)) ∙ fold-roll-Expr Typed (expr_step env) (Expr-F.Read r)
read_parts env n ds (Some x) = let r : Reference Expr = record { name = n; subscripts = ds; image = Some x } in
    ap (expr_of env) (sym (t.rolls-Read r)) ∙ fold-roll-Expr Typed (expr_step env) (Expr-F.Read r)

pub read_is : (env : Environment) (r : Reference Expr) → expr_of env (t.Read r) ≡ reference_of env r
read_is env r = read_parts env r.name r.subscripts r.image

call_parts : (env : Environment) (n : named.Name) (a b : Place) (l : Option (CommaList Expr)) →
    let c : Call Expr = record { name = n; arguments = record { «open» = a; item = l; close = b } } in expr_of env (t.Call c) ≡ call env n (arguments_of env l)
call_parts env n a b None = let c : Call Expr = record { name = n; arguments = record { «open» = a; item = None; close = b } } in
    ap (expr_of env) (sym (t.rolls-Call c)) ∙ fold-roll-Expr Typed (expr_step env) (Expr-F.Call c)
call_parts env n a b (Some x) = let c : Call Expr = record { name = n; arguments = record { «open» = a; item = Some x; close = b } } in
    ap (expr_of env) (sym (t.rolls-Call c)) ∙ fold-roll-Expr Typed (expr_step env) (Expr-F.Call c)

pub call_is : (env : Environment) (c : Call Expr) → expr_of env (t.Call c) ≡ call env c.name (arguments_of env c.arguments.item)
call_is env c = call_parts env c.name c.arguments.open c.arguments.close c.arguments.item
