-- Lists of an expression that are one item longer.
use Rattle.std.proofs.Common.{◌≡◌, ◌≤◌, ◌<◌, ℕ, suc, Bool, true, List, [], ◌∷◌, ◌++◌, length, sym, ap, ◌∙◌, subst, arith}
use Rattle.std.specs.Prelude.{◌==◌}
use Rattle.xmp_base.specs.declared.place.Place.{Place}
use Rattle.xmp_lex.specs.declared.token.Token.{Token}
use Rattle.xmp_lex.specs.declared.token.TokenKind.TheVariants as t
use Rattle.xmp_lex.specs.declared.token.Mark.{Mark}
use Rattle.xmp_lex.specs.declared.token.Mark.TheVariants as m
use Rattle.xmp_syntax.specs.declared.parts.Inside.{Inside}
use Rattle.xmp_syntax.specs.declared.parts.Placed.{Placed}
use Rattle.xmp_syntax.specs.declared.parts.Next.{Next}
use Rattle.xmp_syntax.specs.declared.parts.Link.{Link}
use Rattle.xmp_syntax.specs.declared.expression.Expr as made
use Rattle.xmp_syntax.specs.Parts as p
use Rattle.xmp_syntax.specs.Reading.{part, many, tok, operator, ◌·◌}
use Rattle.xmp_syntax.specs.Grammar.{binary, mark_binds, is_mark, comma, expr, any_dims}
use Rattle.xmp_syntax.specs.View.{expr_view, links_view, subscripts_view, rest_view}
use Rattle.xmp_syntax.specs.Spell.{◌at◌, spell, spell_links, spell_subscripts, spell_rest}
use Rattle.xmp_syntax.specs.Fits.{Fits, level_of}
use Rattle.xmp_reader.specs.declared.reader.Reader.{Reader}
use Rattle.xmp_reader.specs.SoFar.{Onward, LinksSoFar, SubscriptsSoFar, RestSoFar}
use Rattle.xmp_reader.proofs.Held.{same_number}
use Rattle.xmp_reader.proofs.Views.{links_push, links_fit, subscripts_push, subscripts_fit, rest_push, rest_fit}

pub links_longer : (n below : ℕ) (colon : Bool) (r a b c : Reader) (xs new : List (Link made.Expr)) (op : Placed Mark) (x y : made.Expr) → new ≡ xs ++ (record { operator = op; right = y }) ∷ [] → y ≡ x
    → LinksSoFar n below colon r (links_view xs) a → Onward (many (binary n) (tok operator (binary n) · part (p.level below colon))) a c
    → a.tokens.now ≡ (t.Mark op.what at op.at) ∷ b.tokens.now → b.tokens.now ≡ spell (expr_view x) c.tokens.now → (mark_binds op.what == n) ≡ true
    → Fits (expr_view x) → level_of (expr_view x) < n → length c.tokens.now ≤ length a.tokens.now → LinksSoFar n below colon r (links_view new) c
links_longer n below colon r a b c xs new op x y e q o g f h k i j z =
    let w : new ≡ xs ++ (record { operator = op; right = x }) ∷ [] = e ∙ ap (λ (v : made.Expr). xs ++ (record { operator = op; right = v }) ∷ []) q in
    subst (λ (l : List (Link made.Expr)). LinksSoFar n below colon r (links_view l) c) (sym w) (record {
      goes = λ s L K v. g s L K (o.goes s L K v);
      reads = o.reads ∙ (ap (spell_links (links_view xs)) (f ∙ ap (λ (l : List Token). (t.Mark op.what at op.at) ∷ l) h) ∙ sym (links_push xs (record { operator = op; right = x }) c.tokens.now));
      fits = links_fit n xs (record { operator = op; right = x }) o.fits (same_number (mark_binds op.what) n k) j i;
      shorter = (let u = o.shorter in omega (arith, u, z));
    })

pub subscripts_longer : (r a b c d : Reader) (xs new : List (Inside made.Expr)) (open' close : Place) (x : made.Expr) → new ≡ xs ++ (record { «open» = open'; item = x; close = close }) ∷ []
    → SubscriptsSoFar r (subscripts_view xs) a → Onward (any_dims expr) a d → a.tokens.now ≡ (t.Mark m.OpenBracket at open') ∷ b.tokens.now → b.tokens.now ≡ spell (expr_view x) c.tokens.now → c.tokens.now ≡ (t.Mark m.CloseBracket at close) ∷ d.tokens.now
    → Fits (expr_view x) → d.depth.now ≤ 128 → length d.tokens.now ≤ length a.tokens.now → SubscriptsSoFar r (subscripts_view new) d
subscripts_longer r a b c d xs new open' close x e o g f h k i j z =
    subst (λ (l : List (Inside made.Expr)). SubscriptsSoFar r (subscripts_view l) d) (sym e) (record {
      goes = λ s L K v. g s L K (o.goes s L K v);
      reads = o.reads ∙ (ap (spell_subscripts (subscripts_view xs)) (f ∙ ap (λ (l : List Token). (t.Mark m.OpenBracket at open') ∷ l) (h ∙ ap (spell (expr_view x)) k))
          ∙ sym (subscripts_push xs (record { «open» = open'; item = x; close = close }) d.tokens.now));
      fits = subscripts_fit xs (record { «open» = open'; item = x; close = close }) o.fits i;
      deep = j;
      shorter = (let u = o.shorter in omega (arith, u, z));
    })

pub rest_longer : (r a b c : Reader) (xs new : List (Next made.Expr)) (at' : Place) (x : made.Expr) → new ≡ xs ++ (record { comma = at'; item = x }) ∷ []
    → RestSoFar r (rest_view xs) a → Onward (many (is_mark m.Comma) (comma · expr)) a c → a.tokens.now ≡ (t.Mark m.Comma at at') ∷ b.tokens.now → b.tokens.now ≡ spell (expr_view x) c.tokens.now
    → Fits (expr_view x) → length c.tokens.now ≤ length a.tokens.now → RestSoFar r (rest_view new) c
rest_longer r a b c xs new at' x e o g f h i z =
    subst (λ (l : List (Next made.Expr)). RestSoFar r (rest_view l) c) (sym e) (record {
      goes = λ s L K v. g s L K (o.goes s L K v);
      reads = o.reads ∙ (ap (spell_rest (rest_view xs)) (f ∙ ap (λ (l : List Token). (t.Mark m.Comma at at') ∷ l) h) ∙ sym (rest_push xs (record { comma = at'; item = x }) c.tokens.now));
      fits = rest_fit xs (record { comma = at'; item = x }) o.fits i;
      shorter = (let u = o.shorter in omega (arith, u, z));
    })
