-- Lists, declarations and lines that fit and have the same kinds of tokens have one shape; with the same tokens they are equal.
use Rattle.std.proofs.Common.{◌≡◌, ◌+◌, ◌*◌, Bool, false, List, [], ◌∷◌, length, refl, sym, ap, ◌∙◌, arith}
use Rattle.std.specs.Prelude.{⊤, Option, None, Some}
use Rattle.xmp_base.specs.declared.place.Place.{Place}
use Rattle.xmp_lex.specs.declared.token.Token.{Token}
use Rattle.xmp_lex.specs.declared.token.TokenKind.{TokenKind}
use Rattle.xmp_lex.specs.declared.token.TokenKind.TheVariants as t
use Rattle.xmp_lex.specs.declared.token.Mark.TheVariants as m
use Rattle.xmp_lex.specs.declared.token.Reserved.TheVariants as w
use Rattle.xmp_syntax.specs.declared.parts.Name.{Name}
use Rattle.xmp_syntax.specs.declared.parts.Inside.{Inside}
use Rattle.xmp_syntax.specs.declared.parts.Several.{Several}
use Rattle.xmp_syntax.specs.declared.parts.Several.TheVariants as sev
use Rattle.xmp_syntax.specs.declared.parts.Single.{Single}
use Rattle.xmp_syntax.specs.declared.parts.Single.TheVariants as one
use Rattle.xmp_syntax.specs.declared.parts.Next as made_next
use Rattle.xmp_syntax.specs.declared.parts.CommaList.{CommaList}
use Rattle.xmp_syntax.specs.declared.parts.TypeWords.{TypeWords}
use Rattle.xmp_syntax.specs.declared.parts.TypeWords.TheVariants as tw
use Rattle.xmp_syntax.specs.declared.expression.Expr as made
use Rattle.xmp_syntax.specs.declared.declaration.Declarator.{Declarator}
use Rattle.xmp_syntax.specs.declared.declaration.Declarator.TheVariants as d
use Rattle.xmp_syntax.specs.declared.declaration.Declaration.{Declaration}
use Rattle.xmp_syntax.specs.Grammar.{is_mark, is_word}
use Rattle.xmp_syntax.specs.View.{expr_view}
use Rattle.xmp_syntax.specs.Spell.{Text, ◌at◌, each, next, list, dims, several, single, expr, names, name, optional, value, coarray, declarator, type_words, spell_declaration}
use Rattle.xmp_syntax.specs.Fits.{FitsExpr, FitsSecond, Each, If, FitsList, FitsDims, FitsAnySeveral, FitsSingle, FitsDeclarator, FitsDeclaration}
use Rattle.xmp_syntax.specs.Shape as sh
use Rattle.xmp_syntax.specs.Shape.{Shapes, token, ◌▸◌, shape, Outline, kinds}
use Rattle.xmp_syntax.proofs.Backward.{expr_is}
use Rattle.xmp_syntax.proofs.OneTokens.{Exact, apart, name_is, more_is, next_is, list_is, inside_is, some_pair_is, declaration_is}
use Rattle.xmp_syntax.proofs.Done.{Not}
use Rattle.xmp_syntax.proofs.TokenFacts.{EndsExpr}
use Rattle.xmp_syntax.proofs.Lines.{EndsPlain, EndsDeclarator, no_bracket, no_colon}
use Rattle.xmp_syntax.proofs.OneExpr.{same_full, no_first}

-- the same outline, the same kinds of what follows, and equal where the tokens are
abbrev pub Alike : {A : Type 0} → (A → Text) → (A → Outline) → A → A → List Token → List Token → Type 0
Alike f h x y r s = ((q : Shapes) → h x q ≡ h y q) × (kinds r ≡ kinds s) × Exact f x y r s

-- before a token of a kind
abbrev pub AlikeTo : {A : Type 0} → TokenKind → (A → Text) → (A → Outline) → A → A → Place → Place → List Token → List Token → Type 0
AlikeTo k f h x y c b r s = ((q : Shapes) → h x q ≡ h y q) × (kinds r ≡ kinds s) × (f x (k at c ∷ r) ≡ f y (k at b ∷ s) → (x ≡ y) × (c ≡ b) × (r ≡ s))

pub closed : {A : Type 0} (k : TokenKind) (f : A → Text) (h : A → Outline) (x y : A) (c b : Place) (r s : List Token) → Alike f h x y (k at c ∷ r) (k at b ∷ s) → AlikeTo k f h x y c b r s
closed k f h x y c b r s a = (a.0, (let k = a.1 in cc), λ h. let g = a.2 h in let t = apart g.1 in (g.0, t.1, t.2))

-- Comma lists, and items in brackets.
module _ {A : Type 0} (f : A → Text) (h : A → Outline) (P : A → Type 0) (Follow : List Token → Type 0)
    (item : (x y : A) → P x → P y → (r s : List Token) → Follow r → Follow s → kinds (f x r) ≡ kinds (f y s) → Alike f h x y r s)
    (comma : (q : Place) (us : List Token) → Follow (t.Mark m.Comma at q ∷ us)) where
  follow_more : (xs : List (made_next.Next A)) (r : List Token) → Follow r → Follow (each (next f) xs r)
  follow_more [] r w = w
  follow_more (x ∷ xs) r w = comma x.comma (f x.item (each (next f) xs r))

  pub same_more : (xs ys : List (made_next.Next A)) → Each (λ y. P y.item) xs → Each (λ y. P y.item) ys → (r s : List Token) → Follow r → Follow s → Not (is_mark m.Comma) r → Not (is_mark m.Comma) s
      → kinds (each (next f) xs r) ≡ kinds (each (next f) ys s) → Alike (each (next f)) (sh.each (sh.next h)) xs ys r s
  same_more [] [] F G r s w v n k e = (λ q. refl, e, λ h. (refl, h))
  same_more [] (y ∷ ys) F G r s w v n k e = absurd (no_first (is_mark m.Comma) (t.Mark m.Comma) r _ refl n e)
  same_more (x ∷ xs) [] F G r s w v n k e = absurd (no_first (is_mark m.Comma) (t.Mark m.Comma) s _ refl k (sym e))
  same_more (x ∷ xs) (y ∷ ys) F G r s w v n k e =
      let z : kinds (f x.item (each (next f) xs r)) ≡ kinds (f y.item (each (next f) ys s)) = cc in
      let a = item x.item y.item F.0 G.0 (each (next f) xs r) (each (next f) ys s) (follow_more xs r w) (follow_more ys s v) z in
      let b = same_more xs ys F.1 G.1 r s w v n k a.1 in
      (λ q. ap (λ u. token (t.Mark m.Comma) ▸ u) (a.0 (sh.each (sh.next h) xs q) ∙ ap (h y.item) (b.0 q)), b.1, λ i. let t = apart i in let g = a.2 t.2 in let j = b.2 g.1 in (more_is (next_is x y t.1 g.0) j.0, j.1))

  pub same_list : (x y : CommaList A) → FitsList P x → FitsList P y → (r s : List Token) → Follow r → Follow s → Not (is_mark m.Comma) r → Not (is_mark m.Comma) s
      → kinds (list f x r) ≡ kinds (list f y s) → Alike (list f) (sh.list h) x y r s
  same_list x y F G r s w v n k e =
      let a = item x.first y.first F.0 G.0 (each (next f) x.more r) (each (next f) y.more s) (follow_more x.more r w) (follow_more y.more s v) e in
      let b = same_more x.more y.more F.1 G.1 r s w v n k a.1 in
      (λ q. a.0 (sh.each (sh.next h) x.more q) ∙ ap (h y.first) (b.0 q), b.1, λ i. let g = a.2 i in let j = b.2 g.1 in (list_is x y g.0 j.0, j.1))

-- what an item asks for of what follows: that it doesn't go on with an expression
abbrev pub ItemAlike : {A : Type 0} → (A → Text) → (A → Outline) → (A → Type 0) → Type 0
ItemAlike {A} f h P = (x y : A) → P x → P y → (r s : List Token) → EndsPlain r → EndsPlain s → kinds (f x r) ≡ kinds (f y s) → Alike f h x y r s

module _ {A : Type 0} (f : A → Text) (h : A → Outline) (P : A → Type 0) (item : ItemAlike f h P) where
  in_brackets_alike : (x y : Inside A) → P x.item → P y.item → (r s : List Token) → kinds (f x.item (t.Mark m.CloseBracket at x.close ∷ r)) ≡ kinds (f y.item (t.Mark m.CloseBracket at y.close ∷ s))
      → AlikeTo (t.Mark m.CloseBracket) f h x.item y.item x.close y.close r s
  in_brackets_alike x y F G r s e = closed (t.Mark m.CloseBracket) f h x.item y.item x.close y.close r s
      (item x.item y.item F G (t.Mark m.CloseBracket at x.close ∷ r) (t.Mark m.CloseBracket at y.close ∷ s) ((refl, refl, refl, refl), refl) ((refl, refl, refl, refl), refl) e)

  pub same_dims : (xs ys : List (Inside A)) → FitsDims P xs → FitsDims P ys → (r s : List Token) → Not (is_mark m.OpenBracket) r → Not (is_mark m.OpenBracket) s
      → kinds (dims f xs r) ≡ kinds (dims f ys s) → Alike (dims f) (sh.dims h) xs ys r s
  same_dims [] [] F G r s n k e = (λ q. refl, e, λ h. (refl, h))
  same_dims [] (y ∷ ys) F G r s n k e = absurd (no_first (is_mark m.OpenBracket) (t.Mark m.OpenBracket) r _ refl n e)
  same_dims (x ∷ xs) [] F G r s n k e = absurd (no_first (is_mark m.OpenBracket) (t.Mark m.OpenBracket) s _ refl k (sym e))
  same_dims (x ∷ xs) (y ∷ ys) F G r s n k e =
      let z : kinds (f x.item (t.Mark m.CloseBracket at x.close ∷ dims f xs r)) ≡ kinds (f y.item (t.Mark m.CloseBracket at y.close ∷ dims f ys s)) = cc in
      let a = in_brackets_alike x y F.0 G.0 (dims f xs r) (dims f ys s) z in
      let b = same_dims xs ys F.1 G.1 r s n k a.1 in (
        λ q. ap (λ u. token (t.Mark m.OpenBracket) ▸ u) (a.0 (token (t.Mark m.CloseBracket) ▸ sh.dims h xs q) ∙ ap (λ u. h y.item (token (t.Mark m.CloseBracket) ▸ u)) (b.0 q)),
        b.1,
        λ i. let t = apart i in let g = a.2 t.2 in let j = b.2 g.2 in (more_is (inside_is x y t.1 g.0 g.1) j.0, j.1),
      )

  in_parens_alike : (x y : Inside A) → P x.item → P y.item → (r s : List Token) → kinds (f x.item (t.Mark m.CloseParen at x.close ∷ r)) ≡ kinds (f y.item (t.Mark m.CloseParen at y.close ∷ s))
      → AlikeTo (t.Mark m.CloseParen) f h x.item y.item x.close y.close r s
  in_parens_alike x y F G r s e = closed (t.Mark m.CloseParen) f h x.item y.item x.close y.close r s
      (item x.item y.item F G (t.Mark m.CloseParen at x.close ∷ r) (t.Mark m.CloseParen at y.close ∷ s) ((refl, refl, refl, refl), refl) ((refl, refl, refl, refl), refl) e)

  pub same_single : (x y : Single A) → FitsSingle P x → FitsSingle P y → (r s : List Token) → kinds (single f x r) ≡ kinds (single f y s) → Alike (single f) (sh.single h) x y r s
  same_single (one.Bracket x) (one.Bracket y) F G r s e =
      let w = in_brackets_alike x y F G r s (cc) in
      (λ q. ap (λ u. token (t.Mark m.OpenBracket) ▸ u) (w.0 (token (t.Mark m.CloseBracket) ▸ q)), w.1, λ i. let t = apart i in let j = w.2 t.2 in (ap one.Bracket (inside_is x y t.1 j.0 j.1), j.2))
  same_single (one.Paren x) (one.Paren y) F G r s e =
      let w = in_parens_alike x y F G r s (cc) in
      (λ q. ap (λ u. token (t.Mark m.OpenParen) ▸ u) (w.0 (token (t.Mark m.CloseParen) ▸ q)), w.1, λ i. let t = apart i in let j = w.2 t.2 in (ap one.Paren (inside_is x y t.1 j.0 j.1), j.2))
  same_single (one.Bracket x) (one.Paren y) F G r s e = cc
  same_single (one.Paren x) (one.Bracket y) F G r s e = cc

-- Items in brackets, or between parentheses.
module _ {A B : Type 0} (f : A → Text) (h : A → Outline) (P : A → Type 0) (item : ItemAlike f h P) (g : B → Text) (k : B → Outline) (Q : B → Type 0) (other : ItemAlike g k Q) where
  pub same_several : (x y : Several A B) → FitsAnySeveral P Q x → FitsAnySeveral P Q y → (r s : List Token) → Not (is_mark m.OpenParen) r → Not (is_mark m.OpenBracket) r → Not (is_mark m.OpenParen) s → Not (is_mark m.OpenBracket) s
      → kinds (several f g x r) ≡ kinds (several f g y s) → Alike (several f g) (sh.several h k) x y r s
  same_several (sev.Brackets xs) (sev.Brackets ys) F G r s a b c d e =
      let w = same_dims f h P item xs ys F G r s b d e in (w.0, w.1, λ i. let j = w.2 i in (ap sev.Brackets j.0, j.1))
  same_several (sev.Parens x) (sev.Parens y) F G r s a b c d e =
      let w = same_list g k Q EndsPlain other (λ q vs. ((refl, refl, refl, refl), refl)) x.item y.item F G (t.Mark m.CloseParen at x.close ∷ r) (t.Mark m.CloseParen at y.close ∷ s)
      ((refl, refl, refl, refl), refl) ((refl, refl, refl, refl), refl) refl refl (cc) in (
        λ q. ap (λ u. token (t.Mark m.OpenParen) ▸ u) (w.0 (token (t.Mark m.CloseParen) ▸ q)),
        (let z = w.1 in cc),
        λ i. let t = apart i in let j = w.2 t.2 in let l = apart j.1 in (ap sev.Parens (inside_is x y t.1 j.0 l.1), l.2),
      )
  same_several (sev.Brackets []) (sev.Parens y) F G r s a b c d e = absurd (no_first (is_mark m.OpenParen) (t.Mark m.OpenParen) r _ refl a e)
  same_several (sev.Brackets (x ∷ xs)) (sev.Parens y) F G r s a b c d e = cc
  same_several (sev.Parens x) (sev.Brackets []) F G r s a b c d e = absurd (no_first (is_mark m.OpenParen) (t.Mark m.OpenParen) s _ refl c (sym e))
  same_several (sev.Parens x) (sev.Brackets (y ∷ ys)) F G r s a b c d e = cc

-- Expressions.
pub same_colon : (c : Bool) (x y : made.Expr) → FitsExpr x → FitsExpr y → (r s : List Token) → EndsExpr c r → EndsExpr c s → kinds (expr x r) ≡ kinds (expr y s) → Alike expr sh.expr x y r s
same_colon c x y F G r s en em e =
    let w = same_full (16 * length (expr x r) + 12) c (expr_view x) (expr_view y) r s (omega arith) F G en em e in
    (λ q. ap (λ v. v ▸ q) w.0, w.1, λ h. let g = w.2 h in (expr_is x y g.0, g.1))

pub same_expr : (x y : made.Expr) → FitsExpr x → FitsExpr y → (r s : List Token) → EndsPlain r → EndsPlain s → kinds (expr x r) ≡ kinds (expr y s) → Alike expr sh.expr x y r s
same_expr x y F G r s en em e = same_colon false x y F G r s en em e

-- names
pub same_name : (x y : Name) → ⊤ → ⊤ → (r s : List Token) → ⊤ → ⊤ → kinds (name x r) ≡ kinds (name y s) → Alike name sh.name x y r s
same_name x y F G r s w v e = let k : t.Name x.text ≡ t.Name y.text = cc in (λ q. ap (λ u. token u ▸ q) k, cc, λ h. let t = apart h in (name_is x y t.0 t.1, t.2))

all_fit : {A : Type 0} (xs : List (made_next.Next A)) → Each (λ y. ⊤) xs
all_fit [] = tt
all_fit (x ∷ xs) = (tt, all_fit xs)

pub same_names : (x y : CommaList Name) (r s : List Token) → Not (is_mark m.Comma) r → Not (is_mark m.Comma) s → kinds (names x r) ≡ kinds (names y s) → Alike names sh.names x y r s
same_names x y r s n k e = same_list name sh.name (λ y. ⊤) (λ y. ⊤) same_name (λ q us. tt) x y (tt, all_fit x.more) (tt, all_fit y.more) r s tt tt n k e

-- Declarations.
pub same_type : (x y : TypeWords) (r s : List Token) → Not (is_word w.Int) r → Not (is_word w.Int) s → kinds (type_words x r) ≡ kinds (type_words y s) → Alike type_words sh.type_words x y r s
same_type (tw.Int p) (tw.Int q) r s n k e = (λ q. refl, cc, λ h. let t = apart h in (ap tw.Int t.1, t.2))
same_type (tw.Long p) (tw.Long q) r s n k e = (λ q. refl, cc, λ h. let t = apart h in (ap tw.Long t.1, t.2))
same_type (tw.LongInt p p') (tw.LongInt q q') r s n k e = (λ q. refl, cc, λ h. let t = apart h in let i = apart t.2 in (ap (λ v. tw.LongInt v p') t.1 ∙ ap (tw.LongInt q) i.1, i.2))
same_type (tw.Long p) (tw.LongInt q q') r s n k e = absurd (no_first (is_word w.Int) (t.Word w.Int) r (kinds s) refl n (cc))
same_type (tw.LongInt p p') (tw.Long q) r s n k e = absurd (no_first (is_word w.Int) (t.Word w.Int) s (kinds r) refl k (let z : t.Word w.Int ∷ kinds r ≡ kinds s = cc in sym z))
same_type _ _ r s n k e = cc

same_value : (x y : Option (Place × made.Expr)) → If FitsSecond x → If FitsSecond y → (r s : List Token) → EndsDeclarator r → EndsDeclarator s → kinds (optional value x r) ≡ kinds (optional value y s) → Alike (optional value) (sh.optional sh.value) x y r s
same_value None None F G r s w v e = (λ q. refl, e, λ h. (refl, h))
same_value None (Some y) F G r s w v e = absurd (no_first (is_mark m.Assign) (t.Mark m.Assign) r _ refl w.1 e)
same_value (Some x) None F G r s w v e = absurd (no_first (is_mark m.Assign) (t.Mark m.Assign) s _ refl v.1 (sym e))
same_value (Some x) (Some y) F G r s w v e = let a = same_expr x.1 y.1 F G r s w.0 v.0 (cc) in (λ q. ap (λ u. token (t.Mark m.Assign) ▸ u) (a.0 q), a.1, λ h. let t = apart h in let g = a.2 t.2 in (some_pair_is x y t.1 g.0, g.1))

same_coarray : (x y : Option (Place × Inside Place)) (r s : List Token) → EndsPlain r → EndsPlain s → kinds (optional coarray x r) ≡ kinds (optional coarray y s) → Alike (optional coarray) (sh.optional sh.coarray) x y r s
same_coarray None None r s w v e = (λ q. refl, e, λ h. (refl, h))
same_coarray None (Some y) r s w v e = absurd (no_first (is_mark m.Colon) (t.Mark m.Colon) r _ refl (no_colon r w) e)
same_coarray (Some x) None r s w v e = absurd (no_first (is_mark m.Colon) (t.Mark m.Colon) s _ refl (no_colon s v) (sym e))
same_coarray (Some x) (Some y) r s w v e =
    (λ q. refl, cc, λ h. let t = apart h in let i = apart t.2 in let j = apart i.2 in let l = apart j.2 in (some_pair_is x y t.1 (inside_is x.1 y.1 i.1 j.1 l.1), l.2))

coarray_first : (x : Option (Place × Inside Place)) (r : List Token) → EndsPlain r → Not (is_mark m.OpenBracket) (optional coarray x r)
coarray_first None r w = no_bracket r w
coarray_first (Some x) r w = refl

value_first : (x : Option (Place × made.Expr)) (r : List Token) → EndsDeclarator r → Not (is_mark m.OpenBracket) (optional value x r)
value_first None r w = no_bracket r w.0
value_first (Some x) r w = refl

pub same_declarator : (x y : Declarator) → FitsDeclarator x → FitsDeclarator y → (r s : List Token) → EndsDeclarator r → EndsDeclarator s → kinds (declarator x r) ≡ kinds (declarator y s) → Alike declarator sh.declarator x y r s
same_declarator (d.Scalar n v) (d.Scalar n' v') F G r s w u e =
    let k : t.Name n.text ≡ t.Name n'.text = cc in
    let a = same_value v v' F G r s w u (cc) in (
      λ q. ap (λ z. token z ▸ sh.optional sh.value v q) k ∙ ap (λ z. token (t.Name n'.text) ▸ z) (a.0 q),
      a.1,
      λ h. let t = apart h in let g = a.2 t.2 in (ap (λ z. d.Scalar z v) (name_is n n' t.0 t.1) ∙ ap (d.Scalar n') g.0, g.1),
    )
same_declarator (d.Array n ds c) (d.Array n' es c') F G r s w u e =
    let k : t.Name n.text ≡ t.Name n'.text = cc in
    let a = same_dims expr sh.expr FitsExpr same_expr ds es F.1 G.1 (optional coarray c r) (optional coarray c' s) (coarray_first c r w.0) (coarray_first c' s u.0) (cc) in
    let b = same_coarray c c' r s w.0 u.0 a.1 in (
      λ q. ap (λ z. token z ▸ sh.dims sh.expr ds (sh.optional sh.coarray c q)) k ∙ ap (λ z. token (t.Name n'.text) ▸ z) (a.0 (sh.optional sh.coarray c q) ∙ ap (sh.dims sh.expr es) (b.0 q)),
      b.1,
      λ h. let t = apart h in let g = a.2 t.2 in let j = b.2 g.1 in (ap (λ z. d.Array z ds c) (name_is n n' t.0 t.1) ∙ ap (λ z. d.Array n' z c) g.0 ∙ ap (d.Array n' es) j.0, j.1),
    )
same_declarator (d.Scalar n v) (d.Array n' [] c) F G r s w u e = absurd G.0
same_declarator (d.Scalar n v) (d.Array n' (y ∷ es) c) F G r s w u e = absurd (no_first (is_mark m.OpenBracket) (t.Mark m.OpenBracket) (optional value v r) (kinds (expr y.item (t.Mark m.CloseBracket at y.close ∷ dims expr es (optional coarray c s)))) refl (value_first v r w) (cc))
same_declarator (d.Array n [] c) (d.Scalar n' v) F G r s w u e = absurd F.0
same_declarator (d.Array n (x ∷ ds) c) (d.Scalar n' v) F G r s w u e =
    absurd (no_first (is_mark m.OpenBracket) (t.Mark m.OpenBracket) (optional value v s) (kinds (expr x.item (t.Mark m.CloseBracket at x.close ∷ dims expr ds (optional coarray c r)))) refl (value_first v s u)
    (let z : t.Mark m.OpenBracket ∷ kinds (expr x.item (t.Mark m.CloseBracket at x.close ∷ dims expr ds (optional coarray c r))) ≡ kinds (optional value v s) = cc in sym z))

pub declarators_first : (x : CommaList Declarator) (r : List Token) → Not (is_word w.Int) (list declarator x r)
declarators_first x r = by_first x.first _
  where
    by_first : (y : Declarator) (r : List Token) → Not (is_word w.Int) (declarator y r)
    by_first (d.Scalar n v) r = refl
    by_first (d.Array n ds c) r = refl

pub same_declaration : (x y : Declaration) → FitsDeclaration x → FitsDeclaration y → (r s : List Token) → kinds (spell_declaration x r) ≡ kinds (spell_declaration y s) → Alike spell_declaration sh.declaration_shape x y r s
same_declaration x y F G r s e =
    let u : List Token = t.Mark m.Semicolon at x.end ∷ r in
    let v : List Token = t.Mark m.Semicolon at y.end ∷ s in
    let a = same_type x.ty y.ty (list declarator x.items u) (list declarator y.items v) (declarators_first x.items u) (declarators_first y.items v) e in
    let b = same_list declarator sh.declarator FitsDeclarator EndsDeclarator same_declarator (λ q vs. (((refl, refl, refl, refl), refl), refl)) x.items y.items F G u v
    (((refl, refl, refl, refl), refl), refl) (((refl, refl, refl, refl), refl), refl) refl refl a.1 in (
      λ q. a.0 (sh.list sh.declarator x.items (token (t.Mark m.Semicolon) ▸ q)) ∙ ap (sh.type_words y.ty) (b.0 (token (t.Mark m.Semicolon) ▸ q)),
      (let k = b.1 in cc),
      λ h. let g = a.2 h in let j = b.2 g.1 in let t = apart j.1 in (declaration_is x y g.0 j.0 t.1, t.2),
    )
