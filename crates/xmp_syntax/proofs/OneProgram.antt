-- Programs that fit and have the same kinds of tokens have one shape; with the same tokens they are equal.
use Rattle.std.proofs.Common.{◌≡◌, true, false, List, [], ◌∷◌, refl, sym, ap, ◌∙◌}
use Rattle.std.specs.Prelude.{⊤, Option, None, Some}
use Rattle.xmp_base.specs.declared.place.Place.{Place}
use Rattle.xmp_lex.specs.declared.token.Token.{Token}
use Rattle.xmp_lex.specs.declared.token.TokenKind.{TokenKind}
use Rattle.xmp_lex.specs.declared.token.TokenKind.TheVariants as t
use Rattle.xmp_lex.specs.declared.token.Mark.TheVariants as m
use Rattle.xmp_lex.specs.declared.token.Reserved.TheVariants as w
use Rattle.xmp_syntax.specs.declared.parts.Name.{Name}
use Rattle.xmp_syntax.specs.declared.parts.Inside.{Inside}
use Rattle.xmp_syntax.specs.declared.parts.TypeWords.{TypeWords}
use Rattle.xmp_syntax.specs.declared.parts.TypeWords.TheVariants as tw
use Rattle.xmp_syntax.specs.declared.declaration.Declaration.{Declaration}
use Rattle.xmp_syntax.specs.Parts.{Part}
use Rattle.xmp_syntax.specs.Parts as p
use Rattle.xmp_syntax.specs.Grammar.{is_mark}
use Rattle.xmp_syntax.specs.Spell.{◌at◌, each, name, optional, in_parens, spell_declaration}
use Rattle.xmp_syntax.specs.Fits.{Each, FitsDeclaration, FitsItems}
use Rattle.xmp_syntax.specs.Shape as sh
use Rattle.xmp_syntax.specs.Shape.{token, done, ◌▸◌, shape, kinds}
use Rattle.xmp_syntax.proofs.OneLine.{Alike, AlikeTo, same_declaration}
use Rattle.xmp_syntax.proofs.OneDirective.{same_mapping, first_of}
use Rattle.xmp_syntax.specs.declared.parts.Next as after
use Rattle.xmp_syntax.specs.declared.declaration.Declarator.{Declarator}
use Rattle.xmp_syntax.specs.declared.declaration.Declarator.TheVariants as d
use Rattle.xmp_syntax.specs.declared.program.Function.{Function}
use Rattle.xmp_syntax.specs.declared.program.Parameters.{Parameters}
use Rattle.xmp_syntax.specs.declared.program.Parameters.TheVariants as pr
use Rattle.xmp_syntax.specs.declared.program.TopItem.{TopItem}
use Rattle.xmp_syntax.specs.declared.program.TopItem.TheVariants as top
use Rattle.xmp_syntax.specs.declared.program.Tree.{Tree}
use Rattle.xmp_syntax.specs.View.{items_view}
use Rattle.xmp_syntax.specs.Spell.{next, list, type_words, declarator, parameter, parameters, body, function, top_item}
use Rattle.xmp_syntax.specs.Fits.{FitsTop, FitsTree}
use Rattle.xmp_syntax.proofs.BackStatements.{items_is}
use Rattle.xmp_syntax.proofs.OneLine.{same_list, same_type, declarators_first}
use Rattle.xmp_syntax.proofs.OneStmt.{tail_of}
use Rattle.xmp_syntax.specs.declared.statement.BlockItem.{BlockItem}
use Rattle.xmp_syntax.specs.declared.statement.Stmt as made_stmt
use Rattle.xmp_syntax.specs.Grammar.{is_type}
use Rattle.xmp_syntax.specs.Spell.{spelling, tokens}
use Rattle.xmp_syntax.proofs.OneTokens.{apart, more_is, inside_is, pair_is, function_is}
use Rattle.xmp_syntax.proofs.OneLine.{same_name}
use Rattle.xmp_syntax.specs.Fits.{FitsDeclarator}
use Rattle.xmp_syntax.specs.Shape.{tree_shape}
use Rattle.xmp_syntax.proofs.Lines.{EndsDeclarator}
use Rattle.xmp_syntax.proofs.OnePlain.{class}
use Rattle.xmp_syntax.proofs.OneBlock.{sort, mapping_class, type_class, same_items}

-- Functions.
same_parameter : (x y : TypeWords × Name) → ⊤ → ⊤ → (r s : List Token) → ⊤ → ⊤ → kinds (parameter x r) ≡ kinds (parameter y s) → Alike parameter sh.parameter x y r s
same_parameter x y F G r s w v e =
    let a = same_type x.0 y.0 (name x.1 r) (name y.1 s) refl refl e in
    let b = same_name x.1 y.1 tt tt r s tt tt a.1 in
    (λ q. a.0 (sh.name x.1 q) ∙ ap (sh.type_words y.0) (b.0 q), b.1, λ h. let f = a.2 h in let g = b.2 f.1 in (pair_is x y f.0 g.0, g.1))

all_named : (xs : List (after.Next (TypeWords × Name))) → Each (λ y. ⊤) xs
all_named [] = tt
all_named (x ∷ xs) = (tt, all_named xs)

type_other : (x : TypeWords) (r : List Token) (k : TokenKind) (ks : List TokenKind) → is_type k ≡ false → kinds (type_words x r) ≡ k ∷ ks → ⊥
type_other (tw.Int q) r k ks h e = let z : t.Word w.Int ≡ k = cc in let v = ap is_type z in cc
type_other (tw.Long q) r k ks h e = let z : t.Word w.Long ≡ k = cc in let v = ap is_type z in cc
type_other (tw.LongInt q z) r k ks h e = let z : t.Word w.Long ≡ k = cc in let v = ap is_type z in cc

same_parameters : (x y : Option Parameters) (a b : Place) (r s : List Token) → kinds (optional parameters x (t.Mark m.CloseParen at a ∷ r)) ≡ kinds (optional parameters y (t.Mark m.CloseParen at b ∷ s))
    → AlikeTo (t.Mark m.CloseParen) (optional parameters) (sh.optional sh.parameters) x y a b r s
same_parameters None None a b r s e = (λ q. refl, tail_of e, λ h. let t = apart h in (refl, t.1, t.2))
same_parameters None (Some (pr.Void v)) a b r s e = cc
same_parameters (Some (pr.Void v)) None a b r s e = cc
same_parameters (Some (pr.Void v)) (Some (pr.Void u)) a b r s e = (λ q. refl, tail_of (tail_of e), λ h. let t = apart h in let i = apart t.2 in (ap Some (ap pr.Void t.1), i.1, i.2))
same_parameters None (Some (pr.Named y)) a b r s e = absurd (type_other y.first.0 _ (t.Mark m.CloseParen) (kinds r) refl (sym e))
same_parameters (Some (pr.Named x)) None a b r s e = absurd (type_other x.first.0 _ (t.Mark m.CloseParen) (kinds s) refl e)
same_parameters (Some (pr.Void v)) (Some (pr.Named y)) a b r s e = absurd (type_other y.first.0 _ (t.Word w.Void) (kinds (t.Mark m.CloseParen at a ∷ r)) refl (sym e))
same_parameters (Some (pr.Named x)) (Some (pr.Void v)) a b r s e = absurd (type_other x.first.0 _ (t.Word w.Void) (kinds (t.Mark m.CloseParen at b ∷ s)) refl e)
same_parameters (Some (pr.Named x)) (Some (pr.Named y)) a b r s e =
    let c = same_list parameter sh.parameter (λ y. ⊤) (λ y. ⊤) same_parameter (λ q us. tt) x y (tt, all_named x.more) (tt, all_named y.more) (t.Mark m.CloseParen at a ∷ r) (t.Mark m.CloseParen at b ∷ s) tt tt refl refl e in
    (c.0, tail_of c.1, λ h. let g = c.2 h in let t = apart g.1 in (ap Some (ap pr.Named g.0), t.1, t.2))

same_body : (x y : Inside (List (BlockItem made_stmt.Stmt))) → FitsItems (items_view x.item) → FitsItems (items_view y.item) → (r s : List Token) → kinds (body x r) ≡ kinds (body y s) → Alike body sh.body x y r s
same_body x y F G r s e =
    let a = same_items (items_view x.item) (items_view y.item) F G x.close y.close r s (tail_of e) in
    (λ q. ap (λ z. token (t.Mark m.OpenBrace) ▸ z) (a.0 (token (t.Mark m.CloseBrace) ▸ q)), a.1, λ h. let t = apart h in let g = a.2 t.2 in (inside_is x y t.1 (items_is x.item y.item g.0) g.1, g.2))

same_function : (x y : Function) → FitsItems (items_view x.body.item) → FitsItems (items_view y.body.item) → (r s : List Token) → kinds (function x r) ≡ kinds (function y s) → Alike function sh.function x y r s
same_function x y F G r s e =
    let r2 : List Token = body x.body r in
    let s2 : List Token = body y.body s in
    let r1 : List Token = in_parens (optional parameters) x.parameters r2 in
    let s1 : List Token = in_parens (optional parameters) y.parameters s2 in
    let a = same_type x.ty y.ty (name x.name r1) (name y.name s1) refl refl e in
    let b = same_name x.name y.name tt tt r1 s1 tt tt a.1 in
    let c = same_parameters x.parameters.item y.parameters.item x.parameters.close y.parameters.close r2 s2 (tail_of b.1) in
    let d = same_body x.body y.body F G r s c.1 in (
      λ q. a.0 (sh.name x.name (sh.in_parens (sh.optional sh.parameters) x.parameters (sh.body x.body q)))
          ∙ ap (sh.type_words y.ty) (b.0 (sh.in_parens (sh.optional sh.parameters) x.parameters (sh.body x.body q))
          ∙ ap (λ z. sh.name y.name (token (t.Mark m.OpenParen) ▸ z)) (c.0 (token (t.Mark m.CloseParen) ▸ sh.body x.body q)
          ∙ ap (λ z. sh.optional sh.parameters y.parameters.item (token (t.Mark m.CloseParen) ▸ z)) (d.0 q))),
      d.1,
      λ h. let f = a.2 h in let g = b.2 f.1 in let t = apart g.1 in let i = c.2 t.2 in let j = d.2 i.2 in (function_is x y f.0 g.0 (inside_is x.parameters y.parameters t.1 i.0 i.1) j.0, j.1),
    )

-- The parts of a program, by their first token.
abbrev top_sort : TopItem → Part
top_sort (top.Mapping x) = p.mapping
top_sort (top.Declaration x) = p.declaration
top_sort (top.Function x) = p.declaration

unlike : p.mapping ≡ p.declaration → ⊥
unlike h = cc

not_ended : (x : TopItem) → top_sort x ≡ p.no_part → ⊥
not_ended (top.Mapping x) h = cc
not_ended (top.Declaration x) h = cc
not_ended (top.Function x) h = cc

top_class : (x : TopItem) (r : List Token) → sort (class (kinds (top_item x r))) ≡ top_sort x
top_class (top.Mapping x) r = mapping_class x r
top_class (top.Declaration x) r = type_class x.ty _
top_class (top.Function x) r = type_class x.ty _

-- a declaration is no function
abbrev third : List TokenKind → TokenKind
third (j ∷ k ∷ ks) = k
third _ = t.Finish

no_open : (us : List Token) → EndsDeclarator us → is_mark m.OpenParen (first_of (kinds us)) ≡ false
no_open [] e = refl
no_open (x ∷ us) e = e.0.0.0

behind_declarator : (x : Declarator) → FitsDeclarator x → (r : List Token) → EndsDeclarator r → is_mark m.OpenParen (third (kinds (declarator x r))) ≡ false
behind_declarator (d.Scalar n None) F [] w = refl
behind_declarator (d.Scalar n None) F (x ∷ r) w = w.0.0.0
behind_declarator (d.Scalar n (Some v)) F r w = refl
behind_declarator (d.Array n [] c) F r w = absurd F.0
behind_declarator (d.Array n (x ∷ ds) c) F r w = refl

behind_list : (x : Declaration) → FitsDeclaration x → (r : List Token) → EndsDeclarator (each (next declarator) x.items.more (t.Mark m.Semicolon at x.end ∷ r))
behind_list x F r = more_ends x.items.more
  where
    more_ends : (xs : List (after.Next Declarator)) → EndsDeclarator (each (next declarator) xs (t.Mark m.Semicolon at x.end ∷ r))
    more_ends [] = (((refl, refl, refl, refl), refl), refl)
    more_ends (y ∷ ys) = (((refl, refl, refl, refl), refl), refl)

no_function : (x : Declaration) → FitsDeclaration x → (y : Function) (r s : List Token) → kinds (spell_declaration x r) ≡ kinds (function y s) → ⊥
no_function x F y r s e =
    let u : List Token = t.Mark m.Semicolon at x.end ∷ r in
    let v : List Token = in_parens (optional parameters) y.parameters (body y.body s) in
    let a = same_type x.ty y.ty (list declarator x.items u) (name y.name v) (declarators_first x.items u) refl e in
    let b = behind_declarator x.items.first F.0 (each (next declarator) x.items.more u) (behind_list x F r) in
    let c : is_mark m.OpenParen (third (kinds (list declarator x.items u))) ≡ true = ap (λ (ks : List TokenKind). is_mark m.OpenParen (third ks)) a.1 in
    let z : true ≡ false = sym c ∙ b in absurd (cc)

same_top : (x y : TopItem) → FitsTop x → FitsTop y → top_sort x ≡ top_sort y → (r s : List Token) → kinds (top_item x r) ≡ kinds (top_item y s) → Alike top_item sh.top_item x y r s
same_top (top.Mapping x) (top.Mapping y) F G h r s e = let a = same_mapping x y F G r s e in (a.0, a.1, λ h. let g = a.2 h in (ap top.Mapping g.0, g.1))
same_top (top.Declaration x) (top.Declaration y) F G h r s e = let a = same_declaration x y F G r s e in (a.0, a.1, λ h. let g = a.2 h in (ap top.Declaration g.0, g.1))
same_top (top.Function x) (top.Function y) F G h r s e = let a = same_function x y F G r s e in (a.0, a.1, λ h. let g = a.2 h in (ap top.Function g.0, g.1))
same_top (top.Declaration x) (top.Function y) F G h r s e = absurd (no_function x F y r s e)
same_top (top.Function x) (top.Declaration y) F G h r s e = absurd (no_function y G x s r (sym e))
same_top (top.Mapping x) (top.Declaration y) F G h r s e = absurd (unlike h)
same_top (top.Mapping x) (top.Function y) F G h r s e = absurd (unlike h)
same_top (top.Declaration x) (top.Mapping y) F G h r s e = absurd (unlike (sym h))
same_top (top.Function x) (top.Mapping y) F G h r s e = absurd (unlike (sym h))

top_no_finish : (x : TopItem) (r : List Token) (ks : List TokenKind) → kinds (top_item x r) ≡ t.Finish ∷ ks → ⊥
top_no_finish x r ks e = not_ended x (sym (top_class x r) ∙ ap (λ (l : List TokenKind). sort (class l)) e)

pub same_tops : (xs ys : List TopItem) → Each FitsTop xs → Each FitsTop ys → (a b : Place) → kinds (each top_item xs (t.Finish at a ∷ [])) ≡ kinds (each top_item ys (t.Finish at b ∷ []))
    → (sh.each sh.top_item xs (token t.Finish ▸ done) ≡ sh.each sh.top_item ys (token t.Finish ▸ done)) × (each top_item xs (t.Finish at a ∷ []) ≡ each top_item ys (t.Finish at b ∷ []) → (xs ≡ ys) × (a ≡ b))
same_tops [] [] F G a b e = (refl, λ h. let t = apart h in (refl, t.1))
same_tops [] (y ∷ ys) F G a b e = absurd (top_no_finish y _ [] (sym e))
same_tops (x ∷ xs) [] F G a b e = absurd (top_no_finish x _ [] e)
same_tops (x ∷ xs) (y ∷ ys) F G a b e =
    let r : List Token = each top_item xs (t.Finish at a ∷ []) in
    let s : List Token = each top_item ys (t.Finish at b ∷ []) in
    let h = sym (top_class x r) ∙ ap (λ (l : List TokenKind). sort (class l)) e ∙ top_class y s in
    let c = same_top x y F.0 G.0 h r s e in
    let i = same_tops xs ys F.1 G.1 a b c.1 in
    (c.0 (sh.each sh.top_item xs (token t.Finish ▸ done)) ∙ ap (sh.top_item y) i.0, λ h. let f = c.2 h in let g = i.1 f.1 in (more_is f.0 g.0, g.1))

-- Two trees that fit and have one spelling are equal, places apart.
pub same_tree : (x y : Tree) → FitsTree x → FitsTree y → spelling x ≡ spelling y → tree_shape x ≡ tree_shape y
same_tree x y F G e = (same_tops x.parts y.parts F.1 G.1 x.finish y.finish e).0

-- Two trees that fit and have the same tokens are equal.
pub same_tokens : (x y : Tree) → FitsTree x → FitsTree y → tokens x ≡ tokens y → x ≡ y
same_tokens x y F G e =
    let a = (same_tops x.parts y.parts F.1 G.1 x.finish y.finish (ap kinds e)).1 e in
    let f : List TopItem → Tree = λ v. record { parts = v; finish = x.finish } in
    let g : Place → Tree = λ v. record { parts = y.parts; finish = v } in ap f a.0 ∙ ap g a.1
