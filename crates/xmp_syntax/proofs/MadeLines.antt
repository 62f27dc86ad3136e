-- What the rules of declarations, mappings and the parts of directives spell fits.
use Rattle.std.proofs.Common.{◌≡◌, Bool, true, false, cond, List, ◌∷◌, inl, inr, refl, ap, ◌∙◌}
use Rattle.std.specs.Prelude.{Option, None, Some, codes}
use Rattle.xmp_base.specs.declared.place.Place.{Place}
use Rattle.xmp_lex.specs.declared.token.Token.{Token}
use Rattle.xmp_lex.specs.declared.token.TokenKind.TheVariants as t
use Rattle.xmp_lex.specs.declared.token.Mark.{Mark}
use Rattle.xmp_lex.specs.declared.token.Mark.TheVariants as m
use Rattle.xmp_lex.specs.declared.token.Reserved.TheVariants as w
use Rattle.xmp_syntax.specs.declared.parts.Name.{Name}
use Rattle.xmp_syntax.specs.declared.parts.Inside.{Inside}
use Rattle.xmp_syntax.specs.declared.parts.Several.{Several}
use Rattle.xmp_syntax.specs.declared.parts.Several.TheVariants as sev
use Rattle.xmp_syntax.specs.declared.parts.Single.{Single}
use Rattle.xmp_syntax.specs.declared.parts.Single.TheVariants as one
use Rattle.xmp_syntax.specs.declared.parts.TypeWords.TheVariants as tw
use Rattle.xmp_syntax.specs.declared.expression.Expr as made
use Rattle.xmp_syntax.specs.declared.declaration.Declarator.TheVariants as d
use Rattle.xmp_syntax.specs.declared.directive.AlignDimension.{AlignDimension}
use Rattle.xmp_syntax.specs.declared.directive.AlignDimension.TheVariants as al
use Rattle.xmp_syntax.specs.declared.directive.DistForm.TheVariants as f
use Rattle.xmp_syntax.specs.declared.directive.Point.TheVariants as pt
use Rattle.xmp_syntax.specs.declared.directive.Section.TheVariants as se
use Rattle.xmp_syntax.specs.declared.directive.Piece.TheVariants as pi
use Rattle.xmp_syntax.specs.declared.directive.NodesSet.{NodesSet}
use Rattle.xmp_syntax.specs.declared.directive.Mapping.TheVariants as mp
use Rattle.xmp_syntax.specs.declared.directive.ReductionOperator.TheVariants as ro
use Rattle.xmp_syntax.specs.Parts.{Part}
use Rattle.xmp_syntax.specs.Parts as p
use Rattle.xmp_syntax.specs.Reading.{plain, Rule, tok, part, ◌·◌, choice}
use Rattle.xmp_syntax.specs.Grammar as g
use Rattle.xmp_syntax.specs.Grammar.{rule, is_mark, is_word, is_spelled, is_reduction, is_max_or_min, same_text, mapping_named, mapping_of}
use Rattle.xmp_syntax.specs.Spell.{◌at◌, sign, expr, name, each, next, list, dims, several, single, optional, coarray, declarator, type_words, section, range, piece, nodes_set, in_parens, dist_form, align_dimension, point, spell_mapping, reduction_operator}
use Rattle.xmp_syntax.specs.Fits.{FitsExpr, FitsSecond, If, FitsSomeDims, NotEmpty, FitsSeveral, FitsSingle, FitsDeclarator, FitsRange, FitsSection, FitsPiece, FitsSet, FitsOperator, FitsPoint, FitsForm, FitsMapping}
use Rattle.xmp_syntax.proofs.TokenKinds.{offset_token, reduction_token, spelled_token}
use Rattle.xmp_syntax.proofs.MadeParts.{Made, Of, MappingLine, Fitting, DeclaratorRest}
use Rattle.xmp_syntax.proofs.MadeExprs.{Says, marked, worded, spelled, closed, named, wrapped, more_made, list_made, dims_made, some_dims_made, several_made, any_several_made}
use Rattle.xmp_syntax.proofs.Lists.{as_several, as_fits, as_spelled}

-- `mark r`, where there is one
after_mark : (x : Mark) (c : Bool) (ts rest : List Token) → Says (g.optional (is_mark x) (g.sign x · part (p.expression c))) ts rest
    → (v : Option (Place × made.Expr)) × If FitsSecond v × (ts ≡ optional (λ (y : Place × made.Expr) r. t.Mark x at y.0 ∷ expr y.1 r) v rest)
after_mark x c ts rest s = elim s as (λ _. (v : Option (Place × made.Expr)) × If FitsSecond v × (ts ≡ optional (λ (y : Place × made.Expr) r. t.Mark x at y.0 ∷ expr y.1 r) v rest)) [
  | inl a ↦ (let q = marked x ts a.0 a.1 in let v = a.2 in (Some (q.0, v.0), v.1, q.1 ∙ ap (λ l. t.Mark x at q.0 ∷ l) v.2))
  | inr b ↦ (None, tt, b.1)
]

-- Declarations.
pub type_made : (ts rest : List Token) → Says (rule p.type_words) ts rest → Made p.type_words ts rest
type_made ts rest s = elim s as (λ _. Made p.type_words ts rest) [
  | inl a ↦ (let q = worded w.Int ts rest a in (tw.Int q.0, tt, q.1))
  | inr b ↦ elim b.1.2 as (λ _. Made p.type_words ts rest) [
    | inl a ↦ (let q = worded w.Long ts b.1.0 b.1.1 in let r = worded w.Int b.1.0 rest a in (tw.LongInt q.0 r.0, tt, q.1 ∙ ap (λ l. t.Word w.Long at q.0 ∷ l) r.1))
    | inr c ↦ (let q = worded w.Long ts b.1.0 b.1.1 in (tw.Long q.0, tt, q.1 ∙ ap (λ l. t.Word w.Long at q.0 ∷ l) c.1))
  ]
]

pub parameter_made : (ts rest : List Token) → Says (rule p.parameter) ts rest → Made p.parameter ts rest
parameter_made ts rest s = let n = named s.0 rest s.2 in ((s.1.0, n.0), tt, s.1.2 ∙ ap (type_words s.1.0) n.1)

coarray_made : (ts rest : List Token) → Says (g.optional (is_mark m.Colon) (g.sign m.Colon · g.brackets (g.sign m.Star))) ts rest → (c : Option (Place × Inside Place)) × (ts ≡ optional coarray c rest)
coarray_made ts rest s = elim s as (λ _. (c : Option (Place × Inside Place)) × (ts ≡ optional coarray c rest)) [
  | inl a ↦
      let q = marked m.Colon ts a.0 a.1 in
      let w = wrapped m.OpenBracket m.CloseBracket (g.sign m.Star) a.0 rest a.2 in
      let x = marked m.Star w.2 (t.Mark m.CloseBracket at w.1 ∷ rest) w.4 in
      (Some (q.0, record { «open» = w.0; item = x.0; close = w.1 }), q.1 ∙ ap (λ l. t.Mark m.Colon at q.0 ∷ l) (w.3 ∙ ap (λ l. t.Mark m.OpenBracket at w.0 ∷ l) x.1))
  | inr b ↦ (None, b.1)
]

pub rest_made : (ts rest : List Token) → Says (rule p.declarator_rest) ts rest → DeclaratorRest ts rest
rest_made ts rest s = λ n. (elim s as (λ _. Of declarator FitsDeclarator (name n ts) rest) [
  | inl a ↦
      let ds = some_dims_made expr FitsExpr g.expr (λ ts rest s. s) ts a.0 a.1 in
      let c = coarray_made a.0 rest a.2 in
      (d.Array n ds.0 c.0, ds.1, ap (name n) (ds.2 ∙ ap (dims expr ds.0) c.1))
  | inr b ↦ (let v = after_mark m.Assign false ts rest b.1 in (d.Scalar n v.0, v.1, ap (name n) v.2))
])

pub declarator_made : (ts rest : List Token) → Says (rule p.declarator) ts rest → Made p.declarator ts rest
declarator_made ts rest s = let n = named ts s.0 s.1 in let x = s.2 n.0 in (x.0, x.1, n.1 ∙ x.2)

pub declaration_made : (ts rest : List Token) → Says (rule p.declaration) ts rest → Made p.declaration ts rest
declaration_made ts rest s =
    let l = list_made declarator FitsDeclarator (part p.declarator) (λ ts rest s. s) s.0 s.2.0 s.2.1 in
    let q = marked m.Semicolon s.2.0 rest s.2.2 in
    (record { ty = s.1.0; items = l.0; end = q.0 }, l.1, s.1.2 ∙ ap (type_words s.1.0) (l.2 ∙ ap (list declarator l.0) q.1))

-- Parts of rules.
abbrev operator_rule : Rule
operator_rule = choice is_reduction (tok plain is_reduction) (tok plain is_max_or_min)

-- Names, numbers behind colons, and sections.
pub names_made : (ts rest : List Token) → Says (rule p.names) ts rest → Made p.names ts rest
names_made ts rest s = let l = list_made name Fitting g.name (λ ts rest s. let n = named ts rest s in (n.0, tt, n.1)) ts rest s in (l.0, l.2)

pub range_made : (ts rest : List Token) → Says (rule p.range) ts rest → Made p.range ts rest
range_made ts rest s = let x = s.1 in let v = after_mark m.Colon false s.0 rest s.2 in ((x.0, v.0), (x.1, v.1), x.2 ∙ ap (expr x.0) v.2)

pub piece_made : (ts rest : List Token) → Says (rule p.piece) ts rest → Made p.piece ts rest
piece_made ts rest s = elim s as (λ _. Made p.piece ts rest) [
  | inl a ↦ (let q = marked m.Colon ts rest a in (pi.All q.0, tt, q.1))
  | inr b ↦ (let x = b.1 in (pi.Numbers x.0.0 x.0.1, x.1, x.2))
]

pub section_made : (ts rest : List Token) → Says (rule p.section) ts rest → Made p.section ts rest
section_made ts rest s = elim s as (λ _. Made p.section ts rest) [
  | inl a ↦ (let q = marked m.Colon ts rest a in (se.All q.0, tt, q.1))
  | inr b ↦ elim b.1.2 as (λ _. Made p.section ts rest) [
    | inl a ↦
        let x = b.1.1 in
        let q = marked m.Colon b.1.0 a.0 a.1 in
        let y = a.2 in
        (se.Numbers x.0 (Some (q.0, y.0.0)) y.0.1, (x.1, y.1.0, y.1.1), x.2 ∙ ap (expr x.0) (q.1 ∙ ap (λ l. t.Mark m.Colon at q.0 ∷ l) y.2))
    | inr c ↦ (let x = b.1.1 in (se.Numbers x.0 None None, (x.1, refl), x.2 ∙ ap (expr x.0) c.1))
  ]
]

pub set_made : (ts rest : List Token) → Says (rule p.set) ts rest → Made p.set ts rest
set_made ts rest s =
    let n = named ts s.0 s.1 in
    let x = any_several_made piece FitsPiece (part p.piece) (λ ts rest s. s) piece FitsPiece (part p.piece) (λ ts rest s. s) s.0 rest s.2 in
    (record { name = n.0; pieces = x.0 }, x.1, n.1 ∙ ap (name n.0) x.2)

pub sections_made : (ts rest : List Token) → Says (rule p.sections) ts rest → Made p.sections ts rest
sections_made ts rest s =
    let n = named ts s.0 s.1 in
    let x = dims_made section FitsSection (part p.section) (λ ts rest s. s) s.0 rest s.2 in
    (record { name = n.0; sections = x.0 }, x.1, n.1 ∙ ap (name n.0) x.2)

-- Points and forms.
pub point_made : (ts rest : List Token) → Says (rule p.place) ts rest → Made p.place ts rest
point_made ts rest s = elim s as (λ _. Made p.place ts rest) [
  | inl a ↦ (let q = marked m.Star ts rest a in (pt.Star q.0, tt, q.1))
  | inr b ↦ elim b.1.2 as (λ _. Made p.place ts rest) [
    | inl a ↦
        let n = named ts b.1.0 b.1.1 in
        let o = offset_token a.1.0 a.1.1 in
        let x = a.2 in
        (pt.Index n.0 (Some (record { what = o.0; at = a.1.0.at }, x.0)), (o.1, x.1, x.2), n.1 ∙ ap (name n.0) (a.1.2 ∙ ap (λ y. y ∷ a.0) o.2 ∙ ap (λ l. t.Mark o.0 at a.1.0.at ∷ l) x.3))
    | inr c ↦ (let n = named ts b.1.0 b.1.1 in (pt.Index n.0 None, tt, n.1 ∙ ap (name n.0) c.1))
  ]
]

form_width : (ts rest : List Token) → Says (g.optional (is_mark m.OpenParen) (g.parens g.expr)) ts rest → (x : Option (Inside made.Expr)) × If (λ y. FitsExpr y.item) x × (ts ≡ optional (in_parens expr) x rest)
form_width ts rest s = elim s as (λ _. (x : Option (Inside made.Expr)) × If (λ y. FitsExpr y.item) x × (ts ≡ optional (in_parens expr) x rest)) [
  | inl a ↦ (let w = wrapped m.OpenParen m.CloseParen g.expr ts rest a in let x = w.4 in (Some (record { «open» = w.0; item = x.0; close = w.1 }), x.1, w.3 ∙ ap (λ l. t.Mark m.OpenParen at w.0 ∷ l) x.2))
  | inr b ↦ (None, tt, b.1)
]

pub form_made : (ts rest : List Token) → Says (rule p.how) ts rest → Made p.how ts rest
form_made ts rest s = elim s as (λ _. Made p.how ts rest) [
  | inl a ↦ (let q = marked m.Star ts rest a in (f.Whole q.0, tt, q.1))
  | inr b ↦ elim b.1 as (λ _. Made p.how ts rest) [
    | inl a ↦ (let q = spelled (codes "block") ts rest a in (f.Block q.0, tt, q.1))
    | inr c ↦ elim c.1 as (λ _. Made p.how ts rest) [
      | inl a ↦ (let q = spelled (codes "cyclic") ts a.0 a.1 in let x = form_width a.0 rest a.2 in (f.Cyclic q.0 x.0, x.1, q.1 ∙ ap (λ l. t.Name (codes "cyclic") at q.0 ∷ l) x.2))
      | inr k ↦
          let q = spelled (codes "gblock") ts k.1.0 k.1.1 in
          let w = wrapped m.OpenParen m.CloseParen (g.braces (g.list g.expr)) k.1.0 rest k.1.2 in
          let v = wrapped m.OpenBrace m.CloseBrace (g.list g.expr) w.2 (t.Mark m.CloseParen at w.1 ∷ rest) w.4 in
          let x = list_made expr FitsExpr g.expr (λ ts rest s. s) v.2 (t.Mark m.CloseBrace at v.1 ∷ t.Mark m.CloseParen at w.1 ∷ rest) v.4 in (
            f.Gblock q.0 (record { «open» = w.0; item = record { «open» = v.0; item = x.0; close = v.1 }; close = w.1 }),
            x.1,
            q.1 ∙ ap (λ l. t.Name (codes "gblock") at q.0 ∷ l) (w.3 ∙ ap (λ l. t.Mark m.OpenParen at w.0 ∷ l) (v.3 ∙ ap (λ l. t.Mark m.OpenBrace at v.0 ∷ l) x.2)),
          )
    ]
  ]
]

pub align_made : (ts rest : List Token) → Says (rule p.align_dimension) ts rest → Made p.align_dimension ts rest
align_made ts rest s = elim s as (λ _. Made p.align_dimension ts rest) [
  | inl a ↦ (let q = marked m.Star ts rest a in (al.Star q.0, tt, q.1))
  | inr b ↦ (let n = named ts rest b.1 in (al.Dummy n.0, tt, n.1))
]

-- Reductions.
operator_made : (ts rest : List Token) → Says operator_rule ts rest → Of reduction_operator FitsOperator ts rest
operator_made ts rest s = elim s as (λ _. Of reduction_operator FitsOperator ts rest) [
  | inl a ↦ (let o = reduction_token a.0 a.1 in (ro.Mark (record { what = o.0; at = a.0.at }), o.1, a.2 ∙ ap (λ y. y ∷ rest) o.2))
  | inr b ↦ either (is_spelled (codes "max") b.1.0.kind) (is_spelled (codes "min") b.1.0.kind) b.1.0 refl refl b.1.1 b.1.2
] where
  either : (x y : Bool) (z : Token) → is_spelled (codes "max") z.kind ≡ x → is_spelled (codes "min") z.kind ≡ y → is_max_or_min z.kind ≡ true → ts ≡ z ∷ rest → Of reduction_operator FitsOperator ts rest
  either true y z h k e j = (ro.Max z.at, tt, j ∙ ap (λ v. v ∷ rest) (spelled_token (codes "max") z h))
  either false true z h k e j = (ro.Min z.at, tt, j ∙ ap (λ v. v ∷ rest) (spelled_token (codes "min") z k))
  either false false z h k e j = cc

pub reduction_made : (ts rest : List Token) → Says (rule p.reduction) ts rest → Made p.reduction ts rest
reduction_made ts rest s =
    let q = spelled (codes "reduction") ts s.0 s.1 in
    let w = wrapped m.OpenParen m.CloseParen (operator_rule · g.sign m.Colon · part p.names) s.0 rest s.2 in
    let o = operator_made w.2 w.4.0 w.4.1 in
    let c = marked m.Colon w.4.0 w.4.2.0 w.4.2.1 in
    let n = w.4.2.2 in (
      record { word = q.0; list = record { «open» = w.0; item = (o.0, c.0, n.0); close = w.1 } },
      o.1,
      q.1 ∙ ap (λ l. t.Name (codes "reduction") at q.0 ∷ l) (w.3 ∙ ap (λ l. t.Mark m.OpenParen at w.0 ∷ l) (o.2 ∙ ap (reduction_operator o.0) (c.1 ∙ ap (λ l. t.Mark m.Colon at c.0 ∷ l) n.1))),
    )

-- Mappings.
pub template_made : (ts rest : List Token) → Says (rule p.template) ts rest → MappingLine ts rest
template_made ts rest s = λ q.
    let a = spelled (codes "template") ts s.0 s.1 in
    let n = named s.0 s.2.0 s.2.1 in
    let x = several_made expr FitsExpr g.expr (λ ts rest s. s) range FitsRange (part p.range) (λ ts rest s. s) s.2.0 s.2.2.0 s.2.2.1 in
    let z = closed s.2.2.0 rest s.2.2.2 in
    (mp.Template (record { start = q; word = a.0; end = z.0 }) n.0 x.0, x.1, ap (λ l. t.Pragma at q ∷ l) (a.1 ∙ ap (λ l. t.Name (codes "template") at a.0 ∷ l) (n.1 ∙ ap (name n.0) (x.2 ∙ ap (several expr range x.0) z.1))))

pub shadow_made : (ts rest : List Token) → Says (rule p.shadow) ts rest → MappingLine ts rest
shadow_made ts rest s = λ q.
    let a = spelled (codes "shadow") ts s.0 s.1 in
    let n = named s.0 s.2.0 s.2.1 in
    let x = some_dims_made range FitsRange (part p.range) (λ ts rest s. s) s.2.0 s.2.2.0 s.2.2.1 in
    let z = closed s.2.2.0 rest s.2.2.2 in
    (mp.Shadow (record { start = q; word = a.0; end = z.0 }) n.0 x.0, x.1, ap (λ l. t.Pragma at q ∷ l) (a.1 ∙ ap (λ l. t.Name (codes "shadow") at a.0 ∷ l) (n.1 ∙ ap (name n.0) (x.2 ∙ ap (dims range x.0) z.1))))

pub distribute_made : (ts rest : List Token) → Says (rule p.distribute) ts rest → MappingLine ts rest
distribute_made ts rest s = λ q.
    let a = spelled (codes "distribute") ts s.0 s.1 in
    let n = named s.0 s.2.0 s.2.1 in
    let k = s.2.2 in
    let x = several_made dist_form FitsForm (part p.how) (λ ts rest s. s) dist_form FitsForm (part p.how) (λ ts rest s. s) s.2.0 k.0 k.1 in
    let o = spelled (codes "onto") k.0 k.2.0 k.2.1 in
    let b = named k.2.0 k.2.2.0 k.2.2.1 in
    let z = closed k.2.2.0 rest k.2.2.2 in (
      mp.Distribute (record { start = q; word = a.0; end = z.0 }) n.0 x.0 o.0 b.0,
      x.1,
      ap (λ l. t.Pragma at q ∷ l) (a.1 ∙ ap (λ l. t.Name (codes "distribute") at a.0 ∷ l) (n.1 ∙ ap (name n.0) (x.2 ∙ ap (several dist_form dist_form x.0) (o.1 ∙ ap (λ l. t.Name (codes "onto") at o.0 ∷ l) (b.1 ∙ ap (name b.0) z.1))))),
    )

not_empty : (xs : List (Inside AlignDimension)) → FitsSomeDims Fitting xs → NotEmpty xs
not_empty xs F = F.0

pub points_made : (ts rest : List Token) → Says (g.several (part p.place) (part p.place)) ts rest → Of (several point point) (FitsSeveral FitsPoint FitsPoint) ts rest
points_made = several_made point FitsPoint (part p.place) (λ ts rest s. s) point FitsPoint (part p.place) (λ ts rest s. s)

pub align_line_made : (ts rest : List Token) → Says (rule p.align) ts rest → MappingLine ts rest
align_line_made ts rest s = λ q.
    let a = spelled (codes "align") ts s.0 s.1 in
    let n = named s.0 s.2.0 s.2.1 in
    let k = s.2.2 in
    let x = some_dims_made align_dimension Fitting (part p.align_dimension) (λ ts rest s. s) s.2.0 k.0 k.1 in
    let o = spelled (codes "with") k.0 k.2.0 k.2.1 in
    let b = named k.2.0 k.2.2.0 k.2.2.1 in
    let j = k.2.2.2 in
    let y = points_made k.2.2.0 j.0 j.1 in
    let z = closed j.0 rest j.2 in (
      mp.Align (record { start = q; word = a.0; end = z.0 }) n.0 x.0 o.0 b.0 y.0,
      (not_empty x.0 x.1, y.1),
      ap (λ l. t.Pragma at q ∷ l) (a.1 ∙ ap (λ l. t.Name (codes "align") at a.0 ∷ l) (n.1 ∙ ap (name n.0) (x.2 ∙ ap (dims align_dimension x.0)
          (o.1 ∙ ap (λ l. t.Name (codes "with") at o.0 ∷ l) (b.1 ∙ ap (name b.0) (y.2 ∙ ap (several point point y.0) z.1)))))),
    )

-- behind the name of a nodes line
abbrev NodesRest : List Token → List Token → Type 0
NodesRest ts rest = (q a : Place) (n : Name) → Of spell_mapping FitsMapping (t.Pragma at q ∷ t.Name (codes "nodes") at a ∷ name n ts) rest

sizes_line : (x : Several made.Expr made.Expr) → FitsSeveral FitsExpr FitsExpr x → (z : Place) (ts rest : List Token) → ts ≡ several expr expr x (t.Close at z ∷ rest) → NodesRest ts rest
sizes_line x F z ts rest h q a n = (mp.Nodes (record { start = q; word = a; end = z }) n x, F, ap (λ l. t.Pragma at q ∷ t.Name (codes "nodes") at a ∷ name n l) h)

star_line : (x : Single Place) (z : Place) (ts rest : List Token) → ts ≡ single (sign m.Star) x (t.Close at z ∷ rest) → NodesRest ts rest
star_line x z ts rest h q a n = (mp.NodesStar (record { start = q; word = a; end = z }) n x, tt, ap (λ l. t.Pragma at q ∷ t.Name (codes "nodes") at a ∷ name n l) h)

part_line : (x : Single made.Expr) → FitsSingle FitsExpr x → (p : Place) (y : NodesSet) → FitsSet y → (z : Place) (ts rest : List Token)
    → ts ≡ single expr x (t.Mark m.Assign at p ∷ nodes_set y (t.Close at z ∷ rest)) → NodesRest ts rest
part_line x F p y G z ts rest h q a n = (mp.NodesPart (record { start = q; word = a; end = z }) n x p y, (F, G), ap (λ l. t.Pragma at q ∷ t.Name (codes "nodes") at a ∷ name n l) h)

-- one size, and what stands behind it
one_size : (x : Single made.Expr) → FitsSingle FitsExpr x → (ts mid rest : List Token) → ts ≡ single expr x mid → Says g.nodes_end mid rest → NodesRest ts rest
one_size x F ts mid rest h s = elim s.1 as (λ _. NodesRest ts rest) [
  | inl k ↦
      let p = marked m.Assign mid k.0 k.1 in
      let y = k.2 in
      let z = closed s.0 rest s.2 in
      part_line x F p.0 y.0 y.1 z.0 ts rest (h ∙ ap (single expr x) (p.1 ∙ ap (λ l. t.Mark m.Assign at p.0 ∷ l) (y.2 ∙ ap (nodes_set y.0) z.1)))
  | inr k ↦
      let z = closed s.0 rest s.2 in
      sizes_line (as_several x) (as_fits FitsExpr x F) z.0 ts rest (h ∙ ap (single expr x) (k.1 ∙ z.1) ∙ as_spelled expr x (t.Close at z.0 ∷ rest))
]

in_parens_made : (ts rest : List Token) → Says g.nodes_in_parens ts rest → NodesRest ts rest
in_parens_made ts rest s = elim s.2 as (λ _. NodesRest ts rest) [
  | inl k ↦
      let o = marked m.OpenParen ts s.0 s.1 in
      let x = marked m.Star s.0 k.0 k.1 in
      let c = marked m.CloseParen k.0 k.2.0 k.2.1 in
      let z = closed k.2.0 rest k.2.2 in
      star_line (one.Paren (record { «open» = o.0; item = x.0; close = c.0 })) z.0 ts rest
      (o.1 ∙ ap (λ l. t.Mark m.OpenParen at o.0 ∷ l) (x.1 ∙ ap (λ l. t.Mark m.Star at x.0 ∷ l) (c.1 ∙ ap (λ l. t.Mark m.CloseParen at c.0 ∷ l) z.1)))
  | inr b ↦ elim b.1.2 as (λ _. NodesRest ts rest) [
    | inl k ↦
        let o = marked m.OpenParen ts s.0 s.1 in
        let x = b.1.1 in
        let y = more_made expr FitsExpr g.expr (λ ts rest s. s) b.1.0 k.0 k.1 in
        let c = marked m.CloseParen k.0 k.2.0 k.2.1 in
        let z = closed k.2.0 rest k.2.2 in
        sizes_line (sev.Parens (record { «open» = o.0; item = record { first = x.0; more = y.0 }; close = c.0 })) (x.1, y.1) z.0 ts rest
        (o.1 ∙ ap (λ l. t.Mark m.OpenParen at o.0 ∷ l) (x.2 ∙ ap (expr x.0) (y.2 ∙ ap (each (next expr) y.0) (c.1 ∙ ap (λ l. t.Mark m.CloseParen at c.0 ∷ l) z.1))))
    | inr d ↦
        let o = marked m.OpenParen ts s.0 s.1 in
        let x = b.1.1 in
        let c = marked m.CloseParen b.1.0 d.1.0 d.1.1 in
        one_size (one.Paren (record { «open» = o.0; item = x.0; close = c.0 })) x.1 ts d.1.0 rest
        (o.1 ∙ ap (λ l. t.Mark m.OpenParen at o.0 ∷ l) (x.2 ∙ ap (expr x.0) c.1)) d.1.2
  ]
]

in_brackets_made : (ts rest : List Token) → Says g.nodes_in_brackets ts rest → NodesRest ts rest
in_brackets_made ts rest s = elim s.2 as (λ _. NodesRest ts rest) [
  | inl k ↦
      let o = marked m.OpenBracket ts s.0 s.1 in
      let x = marked m.Star s.0 k.0 k.1 in
      let c = marked m.CloseBracket k.0 k.2.0 k.2.1 in
      let z = closed k.2.0 rest k.2.2 in
      star_line (one.Bracket (record { «open» = o.0; item = x.0; close = c.0 })) z.0 ts rest
      (o.1 ∙ ap (λ l. t.Mark m.OpenBracket at o.0 ∷ l) (x.1 ∙ ap (λ l. t.Mark m.Star at x.0 ∷ l) (c.1 ∙ ap (λ l. t.Mark m.CloseBracket at c.0 ∷ l) z.1)))
  | inr b ↦ elim b.1.2.2 as (λ _. NodesRest ts rest) [
    | inl k ↦
        let o = marked m.OpenBracket ts s.0 s.1 in
        let x = b.1.1 in
        let c = marked m.CloseBracket b.1.0 b.1.2.0 b.1.2.1 in
        let y = some_dims_made expr FitsExpr g.expr (λ ts rest s. s) b.1.2.0 k.0 k.1 in
        let z = closed k.0 rest k.2 in
        sizes_line (sev.Brackets (record { «open» = o.0; item = x.0; close = c.0 } ∷ y.0)) (tt, (x.1, y.1.1)) z.0 ts rest
        (o.1 ∙ ap (λ l. t.Mark m.OpenBracket at o.0 ∷ l) (x.2 ∙ ap (expr x.0) (c.1 ∙ ap (λ l. t.Mark m.CloseBracket at c.0 ∷ l) (y.2 ∙ ap (dims expr y.0) z.1))))
    | inr d ↦
        let o = marked m.OpenBracket ts s.0 s.1 in
        let x = b.1.1 in
        let c = marked m.CloseBracket b.1.0 b.1.2.0 b.1.2.1 in
        one_size (one.Bracket (record { «open» = o.0; item = x.0; close = c.0 })) x.1 ts b.1.2.0 rest
        (o.1 ∙ ap (λ l. t.Mark m.OpenBracket at o.0 ∷ l) (x.2 ∙ ap (expr x.0) c.1)) d.1
  ]
]

pub nodes_made : (ts rest : List Token) → Says (rule p.nodes) ts rest → MappingLine ts rest
nodes_made ts rest s = λ q.
    let a = spelled (codes "nodes") ts s.0 s.1 in
    let n = named s.0 s.2.0 s.2.1 in
    let f = behind s.2.0 s.2.2 q a.0 n.0 in
    (f.0, f.1, ap (λ l. t.Pragma at q ∷ l) (a.1 ∙ ap (λ l. t.Name (codes "nodes") at a.0 ∷ l) n.1) ∙ f.2)
  where
    behind : (us : List Token) → Says (choice (is_mark m.OpenParen) g.nodes_in_parens g.nodes_in_brackets) us rest → NodesRest us rest
    behind us k = elim k as (λ _. NodesRest us rest) [
      | inl x ↦ in_parens_made us rest x
      | inr x ↦ in_brackets_made us rest x.1
    ]

-- the mapping of a word
pub one_of : (G : Part → Type 0) (b : Bool) (P Q : Part) → G P → G Q → G (cond b P Q)
one_of G true P Q x y = x
one_of G false P Q x y = y
