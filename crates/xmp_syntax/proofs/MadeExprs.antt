-- What the rules of expressions spell are expressions that fit.
use Rattle.std.proofs.Common.{◌≡◌, ◌≤◌, ℕ, zero, suc, Bool, true, false, not, List, [], ◌∷◌, inl, inr, refl, sym, ap, ◌∙◌, subst, arith}
use Rattle.std.specs.Prelude.{None, Some}
use Rattle.xmp_base.specs.declared.place.Place.{Place}
use Rattle.xmp_lex.specs.declared.token.Token.{Token}
use Rattle.xmp_lex.specs.declared.token.TokenKind.{TokenKind}
use Rattle.xmp_lex.specs.declared.token.TokenKind.TheVariants as t
use Rattle.xmp_lex.specs.declared.token.Mark.{Mark}
use Rattle.xmp_lex.specs.declared.token.Mark.TheVariants as m
use Rattle.xmp_lex.specs.declared.token.Reserved.{Reserved}
use Rattle.xmp_syntax.specs.declared.parts.Name.{Name}
use Rattle.xmp_syntax.specs.declared.parts.Inside.{Inside}
use Rattle.xmp_syntax.specs.declared.parts.Several.{Several}
use Rattle.xmp_syntax.specs.declared.parts.Several.TheVariants as sev
use Rattle.xmp_syntax.specs.declared.parts.Next as after
use Rattle.xmp_syntax.specs.declared.parts.CommaList.{CommaList}
use Rattle.xmp_syntax.specs.declared.parts.Link.{Link}
use Rattle.xmp_syntax.specs.declared.expression.Expr as made
use Rattle.xmp_syntax.specs.declared.expression.Expr.TheVariants as e
use Rattle.xmp_syntax.specs.Parts.{Part}
use Rattle.xmp_syntax.specs.Parts as p
use Rattle.xmp_syntax.specs.Reading.{plain, operator, Rule, tok, part, ◌·◌, choice}
use Rattle.xmp_syntax.specs.Grammar as g
use Rattle.xmp_syntax.specs.Grammar.{rule, is_mark, is_word, is_spelled, is_name, is_close, is_unary_mark, mark_binds, operand_of}
use Rattle.xmp_syntax.specs.Trees.{Expr, number, read, call, parens, unary, cast, chain, conditional}
use Rattle.xmp_syntax.specs.View.{expr_view, ref_view, subscripts_view, arguments_view, rest_view, links_view}
use Rattle.xmp_syntax.specs.Seen.{seen_number, seen_parens, seen_unary, seen_cast, seen_chain, seen_conditional, seen_read, seen_call}
use Rattle.xmp_syntax.specs.Spell.{◌at◌, spell, spell_subscripts, spell_rest, spell_links, type_word, expr, name, each, next, list, dims, in_parens, several}
use Rattle.xmp_syntax.specs.Fits.{Fits, FitsExpr, FitsRest, FitsLinks, level_of, Each, FitsList, FitsDims, FitsSomeDims, FitsSeveral, FitsAnySeveral}
use Rattle.xmp_syntax.proofs.TokenKinds.{mark_token, word_token, spelled_token, close_token, name_token, number_token, type_token, unary_token, binary_token}
use Rattle.xmp_syntax.proofs.Made.{Many, stop, more, Spelled}
use Rattle.xmp_syntax.proofs.MadeParts.{Made, Of, Level}

abbrev pub Says : Rule → List Token → List Token → Type 0
Says = Spelled Made

-- Single tokens.
pub marked : (x : Mark) (ts rest : List Token) → Says (tok plain (is_mark x)) ts rest → (q : Place) × (ts ≡ t.Mark x at q ∷ rest)
marked x ts rest s = (s.0.at, s.2 ∙ ap (λ y. y ∷ rest) (mark_token x s.0 s.1))

pub worded : (x : Reserved) (ts rest : List Token) → Says (tok plain (is_word x)) ts rest → (q : Place) × (ts ≡ t.Word x at q ∷ rest)
worded x ts rest s = (s.0.at, s.2 ∙ ap (λ y. y ∷ rest) (word_token x s.0 s.1))

pub spelled : (x : List ℕ) (ts rest : List Token) → Says (tok plain (is_spelled x)) ts rest → (q : Place) × (ts ≡ t.Name x at q ∷ rest)
spelled x ts rest s = (s.0.at, s.2 ∙ ap (λ y. y ∷ rest) (spelled_token x s.0 s.1))

pub closed : (ts rest : List Token) → Says g.line_end ts rest → (q : Place) × (ts ≡ t.Close at q ∷ rest)
closed ts rest s = (s.0.at, s.2 ∙ ap (λ y. y ∷ rest) (close_token s.0 s.1))

pub named : (ts rest : List Token) → Says g.name ts rest → (n : Name) × (ts ≡ name n rest)
named ts rest s = let k = name_token s.0 s.1 in (record { text = k.0; at = s.0.at }, s.2 ∙ ap (λ y. y ∷ rest) k.1)

-- what stands between two marks
pub wrapped : (a b : Mark) (r : Rule) (ts rest : List Token) → Says (tok plain (is_mark a) · r · tok plain (is_mark b)) ts rest
    → (o c : Place) × (mid : List Token) × (ts ≡ t.Mark a at o ∷ mid) × Says r mid (t.Mark b at c ∷ rest)
wrapped a b r ts rest s =
    let x = marked a ts s.0 s.1 in
    let y = marked b s.2.0 rest s.2.2 in
    (x.0, y.0, s.0, x.1, subst (λ (l : List Token). Says r s.0 l) y.1 s.2.1)

-- Lists of parts.
module _ {A : Type 0} (f : A → List Token → List Token) (P : A → Type 0) (r : Rule) (item : (ts rest : List Token) → Says r ts rest → Of f P ts rest) where
  pub more_made : (ts rest : List Token) → Many (Says (g.comma · r)) ts rest → (xs : List (after.Next A)) × Each (λ y. P y.item) xs × (ts ≡ each (next f) xs rest)
  more_made ts rest (stop _) = ([], tt, refl)
  more_made ts rest (more _ mid _ s k) =
      let c = marked m.Comma ts s.0 s.1 in
      let a = item s.0 mid s.2 in
      let b = more_made mid rest k in
      (record { comma = c.0; item = a.0 } ∷ b.0, (a.1, b.1), c.1 ∙ ap (λ l. t.Mark m.Comma at c.0 ∷ l) (a.2 ∙ ap (f a.0) b.2))

  pub list_made : (ts rest : List Token) → Says (g.list r) ts rest → (x : CommaList A) × FitsList P x × (ts ≡ list f x rest)
  list_made ts rest s =
      let a = item ts s.0 s.1 in
      let b = more_made s.0 rest s.2 in
      (record { first = a.0; more = b.0 }, (a.1, b.1), a.2 ∙ ap (f a.0) b.2)

  pub dims_made : (ts rest : List Token) → Many (Says (g.brackets r)) ts rest → (xs : List (Inside A)) × FitsDims P xs × (ts ≡ dims f xs rest)
  dims_made ts rest (stop _) = ([], tt, refl)
  dims_made ts rest (more _ mid _ s k) =
      let w = wrapped m.OpenBracket m.CloseBracket r ts mid s in
      let a = item w.2 (t.Mark m.CloseBracket at w.1 ∷ mid) w.4 in
      let b = dims_made mid rest k in
      (record { «open» = w.0; item = a.0; close = w.1 } ∷ b.0, (a.1, b.1), w.3 ∙ ap (λ l. t.Mark m.OpenBracket at w.0 ∷ l) (a.2 ∙ ap (λ l. f a.0 (t.Mark m.CloseBracket at w.1 ∷ l)) b.2))

  pub some_dims_made : (ts rest : List Token) → Says (g.dims r) ts rest → (xs : List (Inside A)) × FitsSomeDims P xs × (ts ≡ dims f xs rest)
  some_dims_made ts rest s =
      let w = wrapped m.OpenBracket m.CloseBracket r ts s.0 s.1 in
      let a = item w.2 (t.Mark m.CloseBracket at w.1 ∷ s.0) w.4 in
      let b = dims_made s.0 rest s.2 in
      (record { «open» = w.0; item = a.0; close = w.1 } ∷ b.0, (tt, (a.1, b.1)), w.3 ∙ ap (λ l. t.Mark m.OpenBracket at w.0 ∷ l) (a.2 ∙ ap (λ l. f a.0 (t.Mark m.CloseBracket at w.1 ∷ l)) b.2))

-- Each in brackets, or all between one pair of parentheses.
module _ {A B : Type 0} (f : A → List Token → List Token) (P : A → Type 0) (q : Rule) (one : (ts rest : List Token) → Says q ts rest → Of f P ts rest)
    (h : B → List Token → List Token) (Q : B → Type 0) (r : Rule) (other : (ts rest : List Token) → Says r ts rest → Of h Q ts rest) where
  list_in_parens : (ts rest : List Token) → Says (g.parens (g.list r)) ts rest → (x : Inside (CommaList B)) × FitsList Q x.item × (ts ≡ in_parens (list h) x rest)
  list_in_parens ts rest s =
      let w = wrapped m.OpenParen m.CloseParen (g.list r) ts rest s in
      let x = list_made h Q r other w.2 (t.Mark m.CloseParen at w.1 ∷ rest) w.4 in
      (record { «open» = w.0; item = x.0; close = w.1 }, x.1, w.3 ∙ ap (λ l. t.Mark m.OpenParen at w.0 ∷ l) x.2)

  pub several_made : (ts rest : List Token) → Says (g.several q r) ts rest → (x : Several A B) × FitsSeveral P Q x × (ts ≡ several f h x rest)
  several_made ts rest s = elim s as (λ _. (x : Several A B) × FitsSeveral P Q x × (ts ≡ several f h x rest)) [
    | inl a ↦ (let x = list_in_parens ts rest a in (sev.Parens x.0, x.1, x.2))
    | inr b ↦ (let x = some_dims_made f P q one ts rest b.1 in (sev.Brackets x.0, x.1, x.2))
  ]

  pub any_several_made : (ts rest : List Token) → Says (choice (is_mark m.OpenParen) (g.parens (g.list r)) (g.any_dims q)) ts rest → (x : Several A B) × FitsAnySeveral P Q x × (ts ≡ several f h x rest)
  any_several_made ts rest s = elim s as (λ _. (x : Several A B) × FitsAnySeveral P Q x × (ts ≡ several f h x rest)) [
    | inl a ↦ (let x = list_in_parens ts rest a in (sev.Parens x.0, x.1, x.2))
    | inr b ↦ (let x = dims_made f P q one ts rest b.1 in (sev.Brackets x.0, x.1, x.2))
  ]

-- Operands.
level_is : (n : ℕ) (x : made.Expr) (v : Expr) → expr_view x ≡ v → level_of v ≤ n → Fits v → (ts rest : List Token) → ts ≡ spell v rest → Level n ts rest
level_is n x v h l F ts rest j = (x, subst (λ (z : Expr). level_of z ≤ n) (sym h) l, subst (λ (z : Expr). Fits z) (sym h) F, j ∙ ap (λ (z : Expr). spell z rest) (sym h))

pub number_made : (ts rest : List Token) → Says (rule p.number) ts rest → Level 0 ts rest
number_made ts rest s =
    let k = number_token s.0 s.1 in
    level_is 0 (e.Number s.0.at k.0 k.1) (number s.0.at k.0 k.1) (seen_number s.0.at k.0 k.1) (omega arith) tt ts rest (s.2 ∙ ap (λ y. y ∷ rest) k.2)

-- a reference behind its name
abbrev pub reference_made : (c : Bool) (n : Name) (ts m1 m2 rest : List Token) → ts ≡ name n m1 → Made p.subscripts m1 m2 → Made (p.image c) m2 rest → Made (p.reference c) ts rest
reference_made c n ts m1 m2 rest h d i =
    (record { name = n; subscripts = d.0; image = i.0 }, (d.1, i.1), h ∙ ap (name n) (d.2 ∙ ap (spell_subscripts (subscripts_view d.0)) i.2))

pub named_made : (c : Bool) (ts rest : List Token) → Says (rule (p.named c)) ts rest → Level 0 ts rest
named_made c ts rest s = elim s.2 as (λ _. Level 0 ts rest) [
  | inl a ↦
      let n = named ts s.0 s.1 in
      level_is 0 (e.Call (record { name = n.0; arguments = record { «open» = a.0.open; item = a.0.item; close = a.0.close } })) (call n.0 a.0.open (arguments_view a.0.item) a.0.close)
      (seen_call n.0 a.0.open a.0.item a.0.close) (omega arith) a.1 ts rest (n.1 ∙ ap (name n.0) a.2)
  | inr b ↦
      let n = named ts s.0 s.1 in
      let r = reference_made c n.0 ts s.0 b.1.0 rest n.1 b.1.1 b.1.2 in
      level_is 0 (e.Read r.0) (read (ref_view r.0)) (seen_read n.0 b.1.1.0 b.1.2.0) (omega arith) r.1 ts rest r.2
]

pub unary_made : (c : Bool) (ts rest : List Token) → Says (rule (p.unary c)) ts rest → Level 0 ts rest
unary_made c ts rest s =
    let o = unary_token s.1.0 s.1.1 in
    let x = s.2 in
    level_is 0 (e.Unary (record { what = o.0; at = s.1.0.at }) x.0) (unary o.0 s.1.0.at (expr_view x.0)) (seen_unary (record { what = o.0; at = s.1.0.at }) x.0) (omega arith) (o.1, x.1, x.2) ts rest
    (s.1.2 ∙ ap (λ y. y ∷ s.0) o.2 ∙ ap (λ l. t.Mark o.0 at s.1.0.at ∷ l) x.3)

pub parens_made : (c : Bool) (ts rest : List Token) → Says (rule (p.parens_or_cast c)) ts rest → Level 0 ts rest
parens_made c ts rest s = elim s.2 as (λ _. Level 0 ts rest) [
  | inl a ↦
      let o = marked m.OpenParen ts s.0 s.1 in
      let v = type_token a.1.0 a.1.1 in
      let k = marked m.CloseParen a.0 a.2.0 a.2.1 in
      let x = a.2.2 in
      level_is 0 (e.Cast (record { «open» = o.0; item = record { what = v.0; at = a.1.0.at }; close = k.0 }) x.0) (cast o.0 v.0 a.1.0.at k.0 (expr_view x.0))
      (seen_cast (record { «open» = o.0; item = record { what = v.0; at = a.1.0.at }; close = k.0 }) x.0) (omega arith) (x.1, x.2) ts rest
      (o.1 ∙ ap (λ l. t.Mark m.OpenParen at o.0 ∷ l) (a.1.2 ∙ ap (λ y. y ∷ a.0) v.1 ∙ ap (λ l. t.Word (type_word v.0) at a.1.0.at ∷ l) (k.1 ∙ ap (λ l. t.Mark m.CloseParen at k.0 ∷ l) x.3)))
  | inr b ↦
      let o = marked m.OpenParen ts s.0 s.1 in
      let x = b.1.1 in
      let k = marked m.CloseParen b.1.0 rest b.1.2 in
      level_is 0 (e.Parens (record { «open» = o.0; item = x.0; close = k.0 })) (parens o.0 (expr_view x.0) k.0) (seen_parens (record { «open» = o.0; item = x.0; close = k.0 })) (omega arith) x.1 ts rest
      (o.1 ∙ ap (λ l. t.Mark m.OpenParen at o.0 ∷ l) (x.2 ∙ ap (expr x.0) k.1))
]

operand_made : (c : Bool) (k : TokenKind) (ts rest : List Token) → Made (operand_of c k) ts rest → Level 0 ts rest
operand_made c (t.Number n v) ts rest w = w
operand_made c (t.Name n) ts rest w = w
operand_made c (t.Mark m.OpenParen) ts rest w = w
operand_made c (t.Mark m.Plus) ts rest w = w
operand_made c (t.Mark m.Minus) ts rest w = w
operand_made c (t.Mark m.Tilde) ts rest w = w
operand_made c (t.Mark m.Bang) ts rest w = w
operand_made c _ ts rest w = absurd w

-- Operators of one level.
links_made : (n : ℕ) (c : Bool) (ts rest : List Token) → Many (Says (tok operator (g.binary (suc n)) · part (p.level n c))) ts rest
    → (xs : List (Link made.Expr)) × FitsLinks (suc n) (links_view xs) × (ts ≡ spell_links (links_view xs) rest)
links_made n c ts rest (stop _) = ([], tt, refl)
links_made n c ts rest (more _ mid _ s k) =
    let o = binary_token n s.1.0 s.1.1 in
    let x = s.2 in
    let b = links_made n c mid rest k in (
      record { «operator» = record { what = o.0; at = s.1.0.at }; right = x.0 } ∷ b.0,
      (o.1, omega (arith, x.1), x.2, b.1),
      s.1.2 ∙ ap (λ y. y ∷ s.0) o.2 ∙ ap (λ l. t.Mark o.0 at s.1.0.at ∷ l) (x.3 ∙ ap (expr x.0) b.2),
    )

joined : (n : ℕ) (ts mid rest : List Token) → Level n ts mid → (xs : List (Link made.Expr)) → FitsLinks (suc n) (links_view xs) → mid ≡ spell_links (links_view xs) rest → Level (suc n) ts rest
joined n ts mid rest x [] F h = (x.0, omega (arith, x.1), x.2, x.3 ∙ ap (expr x.0) h)
joined n ts mid rest x (y ∷ ys) F h =
    level_is (suc n) (e.Chain x.0 (y ∷ ys)) (chain (expr_view x.0) (links_view (y ∷ ys))) (seen_chain x.0 (y ∷ ys)) (omega (arith, F.0))
    (omega (arith, F.0, x.1), x.2, subst (λ (k : ℕ). FitsLinks k (links_view (y ∷ ys))) (sym F.0) F) ts rest (x.3 ∙ ap (expr x.0) h)

pub level_made : (n : ℕ) (c : Bool) (ts rest : List Token) → Says (rule (p.level n c)) ts rest → Level n ts rest
level_made zero c ts rest s = operand_made c s.0 ts rest s.1
level_made (suc n) c ts rest s = let l = links_made n c s.0 rest s.2 in joined n ts s.0 rest s.1 l.0 l.1 l.2

pub expression_made : (c : Bool) (ts rest : List Token) → Says (rule (p.expression c)) ts rest → Made (p.expression c) ts rest
expression_made c ts rest s = elim s.2 as (λ _. Made (p.expression c) ts rest) [
  | inl a ↦
      let x = s.1 in
      let q = marked m.Question s.0 a.0 a.1 in
      let y = a.2.1 in
      let r = marked m.Colon a.2.0 a.2.2.0 a.2.2.1 in
      let z = a.2.2.2 in
      let k = level_is 11 (e.Conditional x.0 q.0 y.0 r.0 z.0) (conditional (expr_view x.0) q.0 (expr_view y.0) r.0 (expr_view z.0)) (seen_conditional x.0 q.0 y.0 r.0 z.0) (omega arith) (x.1, x.2, y.1, z.1) ts rest
      (x.3 ∙ ap (expr x.0) (q.1 ∙ ap (λ l. t.Mark m.Question at q.0 ∷ l) (y.2 ∙ ap (expr y.0) (r.1 ∙ ap (λ l. t.Mark m.Colon at r.0 ∷ l) z.2)))) in
      (k.0, k.2, k.3)
  | inr b ↦ (let x = s.1 in (x.0, x.2, x.3 ∙ ap (expr x.0) b.1))
]

-- Subscripts, images and arguments.
pub subscripts_made : (ts rest : List Token) → Says (rule p.subscripts) ts rest → Made p.subscripts ts rest
subscripts_made ts rest (stop _) = ([], tt, refl)
subscripts_made ts rest (more _ mid _ s k) =
    let w = wrapped m.OpenBracket m.CloseBracket g.expr ts mid s in
    let a = w.4 in
    let b = subscripts_made mid rest k in
    (record { «open» = w.0; item = a.0; close = w.1 } ∷ b.0, (a.1, b.1), w.3 ∙ ap (λ l. t.Mark m.OpenBracket at w.0 ∷ l) (a.2 ∙ ap (λ l. expr a.0 (t.Mark m.CloseBracket at w.1 ∷ l)) b.2))

pub image_made : (c : Bool) (ts rest : List Token) → Says (rule (p.image c)) ts rest → Made (p.image c) ts rest
image_made false ts rest s = elim s as (λ _. Made (p.image false) ts rest) [
  | inl a ↦
      let q = marked m.Colon ts a.0 a.1 in
      let w = wrapped m.OpenBracket m.CloseBracket g.expr a.0 rest a.2 in
      let x = w.4 in (
        Some (record { colon = q.0; number = record { «open» = w.0; item = x.0; close = w.1 } }),
        x.1,
        q.1 ∙ ap (λ l. t.Mark m.Colon at q.0 ∷ l) (w.3 ∙ ap (λ l. t.Mark m.OpenBracket at w.0 ∷ l) x.2),
      )
  | inr b ↦ (None, tt, b.1)
]
image_made true ts rest s = elim s as (λ _. Made (p.image true) ts rest) [
  | inl h ↦ (None, tt, h)
  | inr a ↦
      let q = mark_token m.Colon a.0 a.2 in
      let o = mark_token m.OpenBracket a.1 a.3 in
      let x = a.6.1 in
      let k = marked m.CloseBracket a.6.0 rest a.6.2 in (
        Some (record { colon = a.0.at; number = record { «open» = a.1.at; item = x.0; close = k.0 } }),
        x.1,
        a.5 ∙ ap (λ y. y ∷ a.1 ∷ a.4) q ∙ ap (λ y. t.Mark m.Colon at a.0.at ∷ y ∷ a.4) o ∙ ap (λ l. t.Mark m.Colon at a.0.at ∷ t.Mark m.OpenBracket at a.1.at ∷ l) (x.2 ∙ ap (expr x.0) k.1),
      )
]

-- the list of expressions as the view has it
pub rest_fits : (xs : List (after.Next made.Expr)) → Each (λ y. FitsExpr y.item) xs → FitsRest (rest_view xs)
rest_fits [] F = tt
rest_fits (x ∷ xs) F = (F.0, rest_fits xs F.1)

pub rest_text : (xs : List (after.Next made.Expr)) (r : List Token) → each (next expr) xs r ≡ spell_rest (rest_view xs) r
rest_text [] r = refl
rest_text (x ∷ xs) r = ap (λ l. t.Mark m.Comma at x.comma ∷ expr x.item l) (rest_text xs r)

pub arguments_made : (ts rest : List Token) → Says (rule p.arguments) ts rest → Made p.arguments ts rest
arguments_made ts rest s =
    let w = wrapped m.OpenParen m.CloseParen (g.optional (λ k. not (is_mark m.CloseParen k)) (g.list g.expr)) ts rest s in
    elim w.4 as (λ _. Made p.arguments ts rest) [
      | inl a ↦
          let x = list_made expr FitsExpr g.expr (λ ts rest s. s) w.2 (t.Mark m.CloseParen at w.1 ∷ rest) a in (
            record { «open» = w.0; item = Some x.0; close = w.1 },
            (x.1.0, rest_fits x.0.more x.1.1),
            w.3 ∙ ap (λ l. t.Mark m.OpenParen at w.0 ∷ l) (x.2 ∙ ap (expr x.0.first) (rest_text x.0.more (t.Mark m.CloseParen at w.1 ∷ rest))),
          )
      | inr b ↦ (record { «open» = w.0; item = None; close = w.1 }, tt, w.3 ∙ ap (λ l. t.Mark m.OpenParen at w.0 ∷ l) b.1)
    ]

pub ref_made : (c : Bool) (ts rest : List Token) → Says (rule (p.reference c)) ts rest → Made (p.reference c) ts rest
ref_made c ts rest s = let n = named ts s.0 s.1 in reference_made c n.0 ts s.0 s.2.0 rest n.1 s.2.1 s.2.2
