-- Lines of directives that fit and have the same kinds of tokens have one shape; with the same tokens they are equal.
use Rattle.std.proofs.Common.{◌≡◌, ℕ, ◌+◌, ◌*◌, true, false, List, [], ◌∷◌, length, refl, sym, ap, ◌∙◌, subst, arith}
use Rattle.std.specs.Prelude.{⊤, Option, None, Some, codes}
use Rattle.xmp_base.specs.declared.place.Place.{Place}
use Rattle.xmp_lex.specs.declared.token.Token.{Token}
use Rattle.xmp_lex.specs.declared.token.TokenKind.{TokenKind}
use Rattle.xmp_lex.specs.declared.token.TokenKind.TheVariants as t
use Rattle.xmp_lex.specs.declared.token.Mark.{Mark}
use Rattle.xmp_lex.specs.declared.token.Mark.TheVariants as m
use Rattle.xmp_syntax.specs.declared.parts.Name.{Name}
use Rattle.xmp_syntax.specs.declared.parts.Inside.{Inside}
use Rattle.xmp_syntax.specs.declared.parts.Several.{Several}
use Rattle.xmp_syntax.specs.declared.parts.Several.TheVariants as sev
use Rattle.xmp_syntax.specs.declared.parts.Single.{Single}
use Rattle.xmp_syntax.specs.declared.parts.Single.TheVariants as one
use Rattle.xmp_syntax.specs.declared.parts.Placed.{Placed}
use Rattle.xmp_syntax.specs.declared.expression.Expr as made
use Rattle.xmp_syntax.specs.declared.directive.DirectiveLine.{DirectiveLine}
use Rattle.xmp_syntax.specs.declared.directive.DistForm.{DistForm}
use Rattle.xmp_syntax.specs.declared.directive.DistForm.TheVariants as f
use Rattle.xmp_syntax.specs.declared.directive.AlignDimension.{AlignDimension}
use Rattle.xmp_syntax.specs.declared.directive.AlignDimension.TheVariants as al
use Rattle.xmp_syntax.specs.declared.directive.Point.{Point}
use Rattle.xmp_syntax.specs.declared.directive.Point.TheVariants as pt
use Rattle.xmp_syntax.specs.declared.directive.Section.{Section}
use Rattle.xmp_syntax.specs.declared.directive.Section.TheVariants as se
use Rattle.xmp_syntax.specs.declared.directive.Sections.{Sections}
use Rattle.xmp_syntax.specs.declared.directive.Piece.{Piece}
use Rattle.xmp_syntax.specs.declared.directive.Piece.TheVariants as pi
use Rattle.xmp_syntax.specs.declared.directive.NodesSet.{NodesSet}
use Rattle.xmp_syntax.specs.declared.directive.Mapping.{Mapping}
use Rattle.xmp_syntax.specs.declared.directive.Mapping.TheVariants as mp
use Rattle.xmp_syntax.specs.Grammar.{is_mark, is_spelled, is_offset, line_of}
use Rattle.xmp_syntax.specs.View.{expr_view}
use Rattle.xmp_syntax.specs.Spell.{Text, ◌at◌, sign, each, next, dims, several, single, expr, name, after_colon, optional, section, sections, range, piece, nodes_set, dist_form, align_dimension, point, offset, in_parens, directive_line, spell_mapping}
use Rattle.xmp_syntax.specs.Fits.{FitsExpr, FitsSecond, If, FitsDims, FitsForm, FitsPoint, FitsOffset, FitsSection, FitsSections, FitsSeveral, FitsAnySeveral, FitsSingle, FitsRange, FitsPiece, FitsSet, FitsMapping}
use Rattle.xmp_syntax.specs.Shape as sh
use Rattle.xmp_syntax.specs.Shape.{Shapes, token, ◌▸◌, shape, Outline, kinds}
use Rattle.xmp_syntax.proofs.Done.{Not}
use Rattle.xmp_syntax.proofs.TokenFacts.{starts, EndsExpr}
use Rattle.xmp_syntax.proofs.Exprs.{ends_colon}
use Rattle.xmp_syntax.proofs.Lists.{as_several, as_fits, as_spelled}
use Rattle.xmp_syntax.proofs.Lines.{EndsPlain, no_paren, no_colon, no_offset, colon_too, ends_low}
use Rattle.xmp_syntax.proofs.OneExpr.{same, first_kind, no_first}
use Rattle.xmp_syntax.proofs.Backward.{expr_is}
use Rattle.xmp_syntax.proofs.OneTokens.{apart, name_is, inside_is, pair_is, triple_is, some_pair_is, mark_is, sections_is, set_is, line_is, distribute_is, align_is}
use Rattle.xmp_syntax.proofs.OneLine.{Alike, same_list, same_dims, same_single, same_several, same_colon, same_expr}

-- Numbers behind colons.
ends_second : (x : Option (Place × made.Expr)) → If FitsSecond x → (r : List Token) → EndsPlain r → EndsExpr true (optional after_colon x r)
ends_second None F r w = colon_too r w
ends_second (Some x) F r w = ends_colon x.0 (expr_view x.1) F r

same_second : (x y : Option (Place × made.Expr)) → If FitsSecond x → If FitsSecond y → (r s : List Token) → EndsPlain r → EndsPlain s
    → kinds (optional after_colon x r) ≡ kinds (optional after_colon y s) → Alike (optional after_colon) (sh.optional sh.after_colon) x y r s
same_second None None F G r s w v e = (λ q. refl, e, λ h. (refl, h))
same_second None (Some y) F G r s w v e = absurd (no_first (is_mark m.Colon) (t.Mark m.Colon) r _ refl (no_colon r w) e)
same_second (Some x) None F G r s w v e = absurd (no_first (is_mark m.Colon) (t.Mark m.Colon) s _ refl (no_colon s v) (sym e))
same_second (Some x) (Some y) F G r s w v e =
    let a = same_expr x.1 y.1 F G r s w v (cc) in
    (λ q. ap (λ u. token (t.Mark m.Colon) ▸ u) (a.0 q), a.1, λ h. let t = apart h in let g = a.2 t.2 in (some_pair_is x y t.1 g.0, g.1))

same_range : (x y : made.Expr × Option (Place × made.Expr)) → FitsRange x → FitsRange y → (r s : List Token) → EndsPlain r → EndsPlain s → kinds (range x r) ≡ kinds (range y s) → Alike range sh.range x y r s
same_range x y F G r s w v e =
    let a = same_colon true x.0 y.0 F.0 G.0 (optional after_colon x.1 r) (optional after_colon y.1 s) (ends_second x.1 F.1 r w) (ends_second y.1 G.1 s v) e in
    let l = same_second x.1 y.1 F.1 G.1 r s w v a.1 in
    (λ q. a.0 (sh.optional sh.after_colon x.1 q) ∙ ap (λ u. shape (expr_view y.0) ▸ u) (l.0 q), l.1, λ h. let g = a.2 h in let j = l.2 g.1 in (pair_is x y g.0 j.0, j.1))

no_colon_first : (e : made.Expr) → FitsExpr e → (r : List Token) (ks : List TokenKind) → kinds (expr e r) ≡ t.Mark m.Colon ∷ ks → ⊥
no_colon_first e F r ks h = let k : starts (t.Mark m.Colon) ≡ true = first_kind (expr_view e) F r (t.Mark m.Colon) ks h in cc

same_piece : (x y : Piece) → FitsPiece x → FitsPiece y → (r s : List Token) → EndsPlain r → EndsPlain s → kinds (piece x r) ≡ kinds (piece y s) → Alike piece sh.piece x y r s
same_piece (pi.All a) (pi.All d) F G r s w v e = (λ q. refl, cc, λ h. let t = apart h in (ap pi.All t.1, t.2))
same_piece (pi.All a) (pi.Numbers u n) F G r s w v e = absurd (no_colon_first u G.0 _ (kinds r) (sym e))
same_piece (pi.Numbers u n) (pi.All a) F G r s w v e = absurd (no_colon_first u F.0 _ (kinds s) e)
same_piece (pi.Numbers u n) (pi.Numbers u' n') F G r s w v e =
    let a = same_range (u, n) (u', n') F G r s w v e in
    (a.0, a.1, λ h. let g = a.2 h in (ap (λ (z : made.Expr × Option (Place × made.Expr)). pi.Numbers z.0 z.1) g.0, g.1))

ends_numbers : (a : made.Expr) (x k : Option (Place × made.Expr)) → FitsSection (se.Numbers a x k) → (r : List Token) → EndsPlain r → EndsExpr true (optional after_colon x (optional after_colon k r))
ends_numbers a None None F r w = colon_too r w
ends_numbers a None (Some k) F r w = (let z : Some k ≡ None = F.1 in absurd (cc))
ends_numbers a (Some x) k F r w = ends_colon x.0 (expr_view x.1) F.1 (optional after_colon k r)

same_numbers : (e : made.Expr) (x k : Option (Place × made.Expr)) (e' : made.Expr) (y l : Option (Place × made.Expr)) → FitsSection (se.Numbers e x k) → FitsSection (se.Numbers e' y l) → (r s : List Token) → EndsPlain r → EndsPlain s
    → kinds (optional after_colon x (optional after_colon k r)) ≡ kinds (optional after_colon y (optional after_colon l s))
    → ((q : Shapes) → sh.optional sh.after_colon x (sh.optional sh.after_colon k q) ≡ sh.optional sh.after_colon y (sh.optional sh.after_colon l q)) × (kinds r ≡ kinds s)
    × (optional after_colon x (optional after_colon k r) ≡ optional after_colon y (optional after_colon l s) → (x ≡ y) × (k ≡ l) × (r ≡ s))
same_numbers e None (Some k) e' y l F G r s w v z = (let z : Some k ≡ None = F.1 in absurd (cc))
same_numbers e x k e' None (Some l) F G r s w v z = (let z : Some l ≡ None = G.1 in absurd (cc))
same_numbers e None None e' None None F G r s w v z = (λ q. refl, z, λ h. (refl, refl, h))
same_numbers e None None e' (Some y) l F G r s w v z = absurd (no_first (is_mark m.Colon) (t.Mark m.Colon) r _ refl (no_colon r w) z)
same_numbers e (Some x) k e' None None F G r s w v z = absurd (no_first (is_mark m.Colon) (t.Mark m.Colon) s _ refl (no_colon s v) (sym z))
same_numbers e (Some x) k e' (Some y) l F G r s w v z =
    let a = same_range (x.1, k) (y.1, l) (F.1, F.2) (G.1, G.2) r s w v (cc) in (
      λ q. ap (λ u. token (t.Mark m.Colon) ▸ u) (a.0 q),
      a.1,
      λ h. let t = apart h in let g = a.2 t.2 in (some_pair_is x y t.1 (ap (λ (u : made.Expr × Option (Place × made.Expr)). u.0) g.0), ap (λ (u : made.Expr × Option (Place × made.Expr)). u.1) g.0, g.1),
    )

first_number : (e : made.Expr) (x k : Option (Place × made.Expr)) → FitsSection (se.Numbers e x k) → FitsExpr e
first_number e None k F = F.0
first_number e (Some x) k F = F.0

same_section : (x y : Section) → FitsSection x → FitsSection y → (r s : List Token) → EndsPlain r → EndsPlain s → kinds (section x r) ≡ kinds (section y s) → Alike section sh.section x y r s
same_section (se.All a) (se.All d) F G r s w v e = (λ q. refl, cc, λ h. let t = apart h in (ap se.All t.1, t.2))
same_section (se.All a) (se.Numbers u y l) F G r s w v e = absurd (no_colon_first u (first_number u y l G) _ (kinds r) (sym e))
same_section (se.Numbers u y l) (se.All a) F G r s w v e = absurd (no_colon_first u (first_number u y l F) _ (kinds s) e)
same_section (se.Numbers u x k) (se.Numbers u' y l) F G r s w v e =
    let a = same_colon true u u' (first_number u x k F) (first_number u' y l G) (optional after_colon x (optional after_colon k r)) (optional after_colon y (optional after_colon l s))
    (ends_numbers u x k F r w) (ends_numbers u' y l G s v) e in
    let c = same_numbers u x k u' y l F G r s w v a.1 in (
      λ q. a.0 (sh.optional sh.after_colon x (sh.optional sh.after_colon k q)) ∙ ap (λ z. shape (expr_view u') ▸ z) (c.0 q),
      c.1,
      λ h. let g = a.2 h in let j = c.2 g.1 in (ap (λ z. se.Numbers z x k) g.0 ∙ ap (λ z. se.Numbers u' z k) j.0 ∙ ap (se.Numbers u' y) j.1, j.2),
    )

-- behind a name
behind_name : {A : Type 0} (h : A → Outline) (v v' : Name) (x y : A) → t.Name v.text ≡ t.Name v'.text → ((q : Shapes) → h x q ≡ h y q) → (q : Shapes) → sh.name v (h x q) ≡ sh.name v' (h y q)
behind_name h v v' x y k a q = ap (λ z. token z ▸ h x q) k ∙ ap (λ z. token (t.Name v'.text) ▸ z) (a q)

pub same_sections : (x y : Sections) → FitsSections x → FitsSections y → (r s : List Token) → Not (is_mark m.OpenBracket) r → Not (is_mark m.OpenBracket) s → kinds (sections x r) ≡ kinds (sections y s) → Alike sections sh.sections x y r s
same_sections x y F G r s n k e =
    let a = same_dims section sh.section FitsSection same_section x.sections y.sections F G r s n k (cc) in
    (behind_name (sh.dims sh.section) x.name y.name x.sections y.sections (cc) a.0, a.1, λ h. let t = apart h in let g = a.2 t.2 in (sections_is x y (name_is x.name y.name t.0 t.1) g.0, g.1))

pub same_set : (x y : NodesSet) → FitsSet x → FitsSet y → (r s : List Token) → Not (is_mark m.OpenParen) r → Not (is_mark m.OpenBracket) r → Not (is_mark m.OpenParen) s → Not (is_mark m.OpenBracket) s
    → kinds (nodes_set x r) ≡ kinds (nodes_set y s) → Alike nodes_set sh.nodes_set x y r s
same_set x y F G r s a b c d e =
    let w = same_several piece sh.piece FitsPiece same_piece piece sh.piece FitsPiece same_piece x.pieces y.pieces F G r s a b c d (cc) in
    (behind_name (sh.several sh.piece sh.piece) x.name y.name x.pieces y.pieces (cc) w.0, w.1, λ h. let t = apart h in let g = w.2 t.2 in (set_is x y (name_is x.name y.name t.0 t.1) g.0, g.1))

-- Forms, dimensions and points.
same_width_of : (x y : Option (Inside made.Expr)) → If (λ z. FitsExpr z.item) x → If (λ z. FitsExpr z.item) y → (r s : List Token) → EndsPlain r → EndsPlain s
    → kinds (optional (in_parens expr) x r) ≡ kinds (optional (in_parens expr) y s) → Alike (optional (in_parens expr)) (sh.optional (sh.in_parens sh.expr)) x y r s
same_width_of None None F G r s w v e = (λ q. refl, e, λ h. (refl, h))
same_width_of None (Some y) F G r s w v e = absurd (no_first (is_mark m.OpenParen) (t.Mark m.OpenParen) r _ refl (no_paren r w) e)
same_width_of (Some x) None F G r s w v e = absurd (no_first (is_mark m.OpenParen) (t.Mark m.OpenParen) s _ refl (no_paren s v) (sym e))
same_width_of (Some x) (Some y) F G r s w v e =
    let a = same_expr x.item y.item F G (t.Mark m.CloseParen at x.close ∷ r) (t.Mark m.CloseParen at y.close ∷ s) ((refl, refl, refl, refl), refl) ((refl, refl, refl, refl), refl) (cc) in (
      λ q. ap (λ u. token (t.Mark m.OpenParen) ▸ u) (a.0 (token (t.Mark m.CloseParen) ▸ q)),
      (let k = a.1 in cc),
      λ h. let t = apart h in let g = a.2 t.2 in let i = apart g.1 in (ap Some (inside_is x y t.1 g.0 i.1), i.2),
    )

abbrev pub first_of : List TokenKind → TokenKind
first_of [] = t.Finish
first_of (k ∷ ks) = k

abbrev form_class : TokenKind → ℕ
form_class (t.Mark x) = 0
form_class k = elim (is_spelled (codes "block") k) [ true ↦ 1 | false ↦ elim (is_spelled (codes "cyclic") k) [ true ↦ 2 | false ↦ 3 ] ]

same_form : (x y : DistForm) → FitsForm x → FitsForm y → (r s : List Token) → EndsPlain r → EndsPlain s → kinds (dist_form x r) ≡ kinds (dist_form y s) → Alike dist_form sh.dist_form x y r s
same_form (f.Whole a) (f.Whole b) F G r s w v e = (λ q. refl, cc, λ h. let t = apart h in (ap f.Whole t.1, t.2))
same_form (f.Block a) (f.Block b) F G r s w v e = (λ q. refl, cc, λ h. let t = apart h in (ap f.Block t.1, t.2))
same_form (f.Cyclic c x) (f.Cyclic u y) F G r s w v e = let a = same_width_of x y F G r s w v (cc) in (
  λ q. ap (λ z. token (t.Name (codes "cyclic")) ▸ z) (a.0 q),
  a.1,
  λ h. let t = apart h in let g = a.2 t.2 in (ap (λ z. f.Cyclic z x) t.1 ∙ ap (f.Cyclic u) g.0, g.1),
)
same_form (f.Gblock c x) (f.Gblock u y) F G r s w v e =
    let r' : List Token = t.Mark m.CloseBrace at x.item.close ∷ t.Mark m.CloseParen at x.close ∷ r in
    let s' : List Token = t.Mark m.CloseBrace at y.item.close ∷ t.Mark m.CloseParen at y.close ∷ s in
    let a = same_list expr sh.expr FitsExpr EndsPlain same_expr (λ q vs. ((refl, refl, refl, refl), refl)) x.item.item y.item.item F G r' s' ((refl, refl, refl, refl), refl) ((refl, refl, refl, refl), refl) refl refl (cc) in (
      λ q. ap (λ z. token (t.Name (codes "gblock")) ▸ token (t.Mark m.OpenParen) ▸ token (t.Mark m.OpenBrace) ▸ z) (a.0 (token (t.Mark m.CloseBrace) ▸ token (t.Mark m.CloseParen) ▸ q)),
      (let k = a.1 in cc),
      λ h. let t = apart h in let i = apart t.2 in let j = apart i.2 in let g = a.2 j.2 in let k = apart g.1 in let l = apart k.2 in
          (ap (λ z. f.Gblock z x) t.1 ∙ ap (f.Gblock u) (inside_is x y i.1 (inside_is x.item y.item j.1 g.0 k.1) l.1), l.2),
    )
same_form _ _ F G r s w v e = let z = ap (λ (ks : List TokenKind). form_class (first_of ks)) e in absurd (omega arith)

same_align : (x y : AlignDimension) → ⊤ → ⊤ → (r s : List Token) → EndsPlain r → EndsPlain s → kinds (align_dimension x r) ≡ kinds (align_dimension y s) → Alike align_dimension sh.align_dimension x y r s
same_align (al.Star a) (al.Star b) F G r s w v e = (λ q. refl, cc, λ h. let t = apart h in (ap al.Star t.1, t.2))
same_align (al.Dummy a) (al.Dummy b) F G r s w v e = let k : t.Name a.text ≡ t.Name b.text = cc in (
  λ q. ap (λ z. token z ▸ q) k,
  cc,
  λ h. let t = apart h in (ap al.Dummy (name_is a b t.0 t.1), t.2),
)
same_align _ _ F G r s w v e = cc

same_offset : (x y : Option (Placed Mark × made.Expr)) → If FitsOffset x → If FitsOffset y → (r s : List Token) → EndsPlain r → EndsPlain s
    → kinds (optional offset x r) ≡ kinds (optional offset y s) → Alike (optional offset) (sh.optional sh.offset) x y r s
same_offset None None F G r s w v e = (λ q. refl, e, λ h. (refl, h))
same_offset None (Some y) F G r s w v e = absurd (no_first is_offset (t.Mark y.0.what) r _ G.0 (no_offset r w) e)
same_offset (Some x) None F G r s w v e = absurd (no_first is_offset (t.Mark x.0.what) s _ F.0 (no_offset s v) (sym e))
same_offset (Some x) (Some y) F G r s w v e =
    let k : t.Mark x.0.what ≡ t.Mark y.0.what = cc in
    let a = same (16 * length (expr x.1 r) + 1) 0 false (expr_view x.1) (expr_view y.1) r s (omega arith) F.2 G.2 F.1 G.1 (omega arith) (ends_low 10 r w.0) (ends_low 10 s v.0) (cc) in (
      λ q. ap (λ z. token z ▸ shape (expr_view x.1) ▸ q) k ∙ ap (λ z. token (t.Mark y.0.what) ▸ z ▸ q) a.0,
      a.1,
      λ h. let t = apart h in let g = a.2 t.2 in (some_pair_is x y (mark_is x.0 y.0 t.0 t.1) (expr_is x.1 y.1 g.0), g.1),
    )

same_point : (x y : Point) → FitsPoint x → FitsPoint y → (r s : List Token) → EndsPlain r → EndsPlain s → kinds (point x r) ≡ kinds (point y s) → Alike point sh.point x y r s
same_point (pt.Star a) (pt.Star b) F G r s w v e = (λ q. refl, cc, λ h. let t = apart h in (ap pt.Star t.1, t.2))
same_point (pt.Index u x) (pt.Index u' y) F G r s w v e = let a = same_offset x y F G r s w v (cc) in (
  behind_name (sh.optional sh.offset) u u' x y (cc) a.0,
  a.1,
  λ h. let t = apart h in let g = a.2 t.2 in (ap (λ z. pt.Index z x) (name_is u u' t.0 t.1) ∙ ap (pt.Index u') g.0, g.1),
)
same_point _ _ F G r s w v e = cc

-- what is there stands in one form or the other
pub some_fit : {A B : Type 0} (P : A → Type 0) (Q : B → Type 0) (x : Several A B) → FitsSeveral P Q x → FitsAnySeveral P Q x
some_fit P Q (sev.Brackets xs) F = F.1
some_fit P Q (sev.Parens x) F = F

pub same_points : (x y : Several Point Point) → FitsSeveral FitsPoint FitsPoint x → FitsSeveral FitsPoint FitsPoint y → (r s : List Token)
    → Not (is_mark m.OpenParen) r → Not (is_mark m.OpenBracket) r → Not (is_mark m.OpenParen) s → Not (is_mark m.OpenBracket) s
    → kinds (several point point x r) ≡ kinds (several point point y s) → Alike (several point point) (sh.several sh.point sh.point) x y r s
same_points x y F G = same_several point sh.point FitsPoint same_point point sh.point FitsPoint same_point x y (some_fit _ _ x F) (some_fit _ _ y G)

all_dims : (xs : List (Inside AlignDimension)) → FitsDims (λ y. ⊤) xs
all_dims [] = tt
all_dims (x ∷ xs) = (tt, all_dims xs)

-- a word and a name behind a list
same_target : (bytes : List ℕ) (a b : Place) (v u : Name) (r s : List Token) → kinds (t.Name bytes at a ∷ name v r) ≡ kinds (t.Name bytes at b ∷ name u s) → ((q : Shapes) → sh.spelled bytes (sh.name v q) ≡ sh.spelled bytes (sh.name u q)) × (kinds r ≡ kinds s)
    × ((t.Name bytes at a ∷ name v r) ≡ (t.Name bytes at b ∷ name u s) → (a ≡ b) × (v ≡ u) × (r ≡ s))
same_target bytes a b v u r s e = let k : t.Name v.text ≡ t.Name u.text = cc in (
  λ q. ap (λ z. token (t.Name bytes) ▸ token z ▸ q) k,
  cc,
  λ h. let t = apart h in let i = apart t.2 in (t.1, name_is v u i.0 i.1, i.2),
)

-- behind the start of a line, and its first name
abbrev starting : List ℕ → Outline
starting bytes r = token t.Pragma ▸ token (t.Name bytes) ▸ r

abbrev pub second_of : List TokenKind → TokenKind
second_of [] = t.Finish
second_of (k ∷ []) = t.Finish
second_of (k ∷ j ∷ ks) = j

abbrev ending : Shapes → Shapes
ending q = token t.Close ▸ q

-- a line with a name and one part behind it
same_line : {A : Type 0} (bytes : List ℕ) (make : DirectiveLine → Name → A → Mapping) (f : A → Text) (h : A → Outline) (l l' : DirectiveLine) (v v' : Name) (x y : A) (r s : List Token)
    → t.Name v.text ≡ t.Name v'.text → Alike f h x y (t.Close at l.end ∷ r) (t.Close at l'.end ∷ s)
    → ((q : Shapes) → starting bytes (sh.name v (h x (ending q))) ≡ starting bytes (sh.name v' (h y (ending q)))) × (kinds r ≡ kinds s)
    × (directive_line bytes (λ r. name v (f x r)) l r ≡ directive_line bytes (λ r. name v' (f y r)) l' s → (make l v x ≡ make l' v' y) × (r ≡ s))
same_line bytes make f h l l' v v' x y r s k a = (
  λ q. ap (λ z. starting bytes z) (behind_name h v v' x y k a.0 (ending q)),
  (let z = a.1 in cc),
  λ i. let t = apart i in let j = apart t.2 in let g = apart j.2 in let n = a.2 g.2 in let z = apart n.1 in
      (ap (λ u. make u v x) (line_is l l' t.1 j.1 z.1) ∙ ap (λ u. make l' u x) (name_is v v' g.0 g.1) ∙ ap (make l' v') n.0, z.2),
)

no_star_first : (e : made.Expr) → FitsExpr e → (r : List Token) (ks : List TokenKind) → kinds (expr e r) ≡ t.Mark m.Star ∷ ks → ⊥
no_star_first e F r ks h = let k : starts (t.Mark m.Star) ≡ true = first_kind (expr_view e) F r (t.Mark m.Star) ks h in cc

-- the sizes of nodes
same_sizes : (x y : Several made.Expr made.Expr) → FitsSeveral FitsExpr FitsExpr x → FitsSeveral FitsExpr FitsExpr y → (r s : List Token)
    → Not (is_mark m.OpenParen) r → Not (is_mark m.OpenBracket) r → Not (is_mark m.OpenParen) s → Not (is_mark m.OpenBracket) s
    → kinds (several expr expr x r) ≡ kinds (several expr expr y s) → Alike (several expr expr) (sh.several sh.expr sh.expr) x y r s
same_sizes x y F G = same_several expr sh.expr FitsExpr same_expr expr sh.expr FitsExpr same_expr x y (some_fit _ _ x F) (some_fit _ _ y G)

-- sizes to the end of a line are no size with a set behind it
not_part : (x : Several made.Expr made.Expr) (z : Single made.Expr) → FitsSeveral FitsExpr FitsExpr x → FitsSingle FitsExpr z → (c a : Place) (r s : List Token)
    → kinds (several expr expr x (t.Close at c ∷ r)) ≡ kinds (single expr z (t.Mark m.Assign at a ∷ s)) → ⊥
not_part x z F G c a r s e =
    let w = same_sizes x (as_several z) F (as_fits FitsExpr z G) (t.Close at c ∷ r) (t.Mark m.Assign at a ∷ s) refl refl refl refl (e ∙ ap kinds (as_spelled expr z (t.Mark m.Assign at a ∷ s))) in
    let k = w.1 in cc

-- a star is no size
not_star : (z : Single Place) (x : Several made.Expr made.Expr) → FitsSeveral FitsExpr FitsExpr x → (r s : List Token) → kinds (single (sign m.Star) z r) ≡ kinds (several expr expr x s) → ⊥
not_star (one.Bracket z) (sev.Brackets []) F r s e = absurd F.0
not_star (one.Bracket z) (sev.Brackets (x ∷ xs)) F r s e =
    let k : t.Mark m.Star ∷ kinds (t.Mark m.CloseBracket at z.close ∷ r) ≡ kinds (expr x.item (t.Mark m.CloseBracket at x.close ∷ dims expr xs s)) = cc in
    no_star_first x.item F.1.0 (t.Mark m.CloseBracket at x.close ∷ dims expr xs s) (kinds (t.Mark m.CloseBracket at z.close ∷ r)) (sym k)
not_star (one.Bracket z) (sev.Parens x) F r s e = cc
not_star (one.Paren z) (sev.Brackets []) F r s e = absurd F.0
not_star (one.Paren z) (sev.Brackets (x ∷ xs)) F r s e = cc
not_star (one.Paren z) (sev.Parens x) F r s e =
    let u : List Token = each (next expr) x.item.more (t.Mark m.CloseParen at x.close ∷ s) in
    let k : t.Mark m.Star ∷ kinds (t.Mark m.CloseParen at z.close ∷ r) ≡ kinds (expr x.item.first u) = cc in
    no_star_first x.item.first F.0 u (kinds (t.Mark m.CloseParen at z.close ∷ r)) (sym k)

not_star_part : (z : Single Place) (x : Single made.Expr) → FitsSingle FitsExpr x → (r s : List Token) → kinds (single (sign m.Star) z r) ≡ kinds (single expr x s) → ⊥
not_star_part z x F r s e = not_star z (as_several x) (as_fits FitsExpr x F) r s (e ∙ ap kinds (as_spelled expr x s))

same_star : (x y : Place) → ⊤ → ⊤ → (r s : List Token) → EndsPlain r → EndsPlain s → kinds (sign m.Star x r) ≡ kinds (sign m.Star y s) → Alike (sign m.Star) sh.star x y r s
same_star x y F G r s w v e = (λ q. refl, cc, λ h. let t = apart h in (t.1, t.2))

star_fits : (x : Single Place) → FitsSingle (λ y. ⊤) x
star_fits (one.Bracket x) = tt
star_fits (one.Paren x) = tt

-- one size, `=` and a set
abbrev Part : Type 0
Part = Single made.Expr × Place × NodesSet

abbrev part_of : Part → Text
part_of x r = single expr x.0 (t.Mark m.Assign at x.1 ∷ nodes_set x.2 r)

abbrev part_shape : Part → Outline
part_shape x q = sh.single sh.expr x.0 (token (t.Mark m.Assign) ▸ sh.nodes_set x.2 q)

same_part : (x y : Part) → FitsSingle FitsExpr x.0 × FitsSet x.2 → FitsSingle FitsExpr y.0 × FitsSet y.2 → (c b : Place) (r s : List Token)
    → kinds (part_of x (t.Close at c ∷ r)) ≡ kinds (part_of y (t.Close at b ∷ s)) → Alike part_of part_shape x y (t.Close at c ∷ r) (t.Close at b ∷ s)
same_part x y F G c b r s e =
    let a = same_single expr sh.expr FitsExpr same_expr x.0 y.0 F.0 G.0 (t.Mark m.Assign at x.1 ∷ nodes_set x.2 (t.Close at c ∷ r)) (t.Mark m.Assign at y.1 ∷ nodes_set y.2 (t.Close at b ∷ s)) e in
    let d = same_set x.2 y.2 F.1 G.1 (t.Close at c ∷ r) (t.Close at b ∷ s) refl refl refl refl (let k = a.1 in cc) in (
      λ q. a.0 (token (t.Mark m.Assign) ▸ sh.nodes_set x.2 q) ∙ ap (λ u. sh.single sh.expr y.0 (token (t.Mark m.Assign) ▸ u)) (d.0 q),
      d.1,
      λ h. let g = a.2 h in let t = apart g.1 in let i = d.2 t.2 in (triple_is x y g.0 t.1 i.0, i.1),
    )

behind_word : (bytes : List ℕ) (l l' : DirectiveLine) (v v' : Name) (r s : List Token) → kinds (t.Pragma at l.start ∷ t.Name bytes at l.word ∷ name v r) ≡ kinds (t.Pragma at l'.start ∷ t.Name bytes at l'.word ∷ name v' s)
    → (t.Name v.text ≡ t.Name v'.text) × (kinds r ≡ kinds s)
behind_word bytes l l' v v' r s e = (cc, cc)

pub same_mapping : (x y : Mapping) → FitsMapping x → FitsMapping y → (r s : List Token) → kinds (spell_mapping x r) ≡ kinds (spell_mapping y s) → Alike spell_mapping sh.mapping_shape x y r s
same_mapping (mp.Nodes l v x) (mp.Nodes l' v' y) F G r s e =
    let k = behind_word (codes "nodes") l l' v v' (several expr expr x (t.Close at l.end ∷ r)) (several expr expr y (t.Close at l'.end ∷ s)) e in
    same_line (codes "nodes") mp.Nodes (several expr expr) (sh.several sh.expr sh.expr) l l' v v' x y r s k.0
    (same_sizes x y F G (t.Close at l.end ∷ r) (t.Close at l'.end ∷ s) refl refl refl refl k.1)
same_mapping (mp.NodesStar l v x) (mp.NodesStar l' v' y) F G r s e =
    let k = behind_word (codes "nodes") l l' v v' (single (sign m.Star) x (t.Close at l.end ∷ r)) (single (sign m.Star) y (t.Close at l'.end ∷ s)) e in
    same_line (codes "nodes") mp.NodesStar (single (sign m.Star)) (sh.single sh.star) l l' v v' x y r s k.0
    (same_single (sign m.Star) sh.star (λ y. ⊤) same_star x y (star_fits x) (star_fits y) (t.Close at l.end ∷ r) (t.Close at l'.end ∷ s) k.1)
same_mapping (mp.NodesPart l v x a z) (mp.NodesPart l' v' y b u) F G r s e =
    let k = behind_word (codes "nodes") l l' v v' (part_of (x, a, z) (t.Close at l.end ∷ r)) (part_of (y, b, u) (t.Close at l'.end ∷ s)) e in
    same_line (codes "nodes") (λ l v (w : Part). mp.NodesPart l v w.0 w.1 w.2) part_of part_shape l l' v v' (x, a, z) (y, b, u) r s k.0
    (same_part (x, a, z) (y, b, u) F G l.end l'.end r s k.1)
same_mapping (mp.Nodes l v x) (mp.NodesStar l' v' y) F G r s e = absurd (not_star y x F (t.Close at l'.end ∷ s) (t.Close at l.end ∷ r)
    (sym (behind_word (codes "nodes") l l' v v' (several expr expr x (t.Close at l.end ∷ r)) (single (sign m.Star) y (t.Close at l'.end ∷ s)) e).1))
same_mapping (mp.NodesStar l v x) (mp.Nodes l' v' y) F G r s e = absurd (not_star x y G (t.Close at l.end ∷ r) (t.Close at l'.end ∷ s)
    (behind_word (codes "nodes") l l' v v' (single (sign m.Star) x (t.Close at l.end ∷ r)) (several expr expr y (t.Close at l'.end ∷ s)) e).1)
same_mapping (mp.Nodes l v x) (mp.NodesPart l' v' y b u) F G r s e = absurd (not_part x y F G.0 l.end b r (nodes_set u (t.Close at l'.end ∷ s))
    (behind_word (codes "nodes") l l' v v' (several expr expr x (t.Close at l.end ∷ r)) (part_of (y, b, u) (t.Close at l'.end ∷ s)) e).1)
same_mapping (mp.NodesPart l v x a z) (mp.Nodes l' v' y) F G r s e = absurd (not_part y x G F.0 l'.end a s (nodes_set z (t.Close at l.end ∷ r))
    (sym (behind_word (codes "nodes") l l' v v' (part_of (x, a, z) (t.Close at l.end ∷ r)) (several expr expr y (t.Close at l'.end ∷ s)) e).1))
same_mapping (mp.NodesStar l v x) (mp.NodesPart l' v' y b u) F G r s e = absurd (not_star_part x y G.0 (t.Close at l.end ∷ r) (t.Mark m.Assign at b ∷ nodes_set u (t.Close at l'.end ∷ s))
    (behind_word (codes "nodes") l l' v v' (single (sign m.Star) x (t.Close at l.end ∷ r)) (part_of (y, b, u) (t.Close at l'.end ∷ s)) e).1)
same_mapping (mp.NodesPart l v x a z) (mp.NodesStar l' v' y) F G r s e = absurd (not_star_part y x F.0 (t.Close at l'.end ∷ s) (t.Mark m.Assign at a ∷ nodes_set z (t.Close at l.end ∷ r))
    (sym (behind_word (codes "nodes") l l' v v' (part_of (x, a, z) (t.Close at l.end ∷ r)) (single (sign m.Star) y (t.Close at l'.end ∷ s)) e).1))
same_mapping (mp.Template l v x) (mp.Template l' v' y) F G r s e =
    let k = behind_word (codes "template") l l' v v' (several expr range x (t.Close at l.end ∷ r)) (several expr range y (t.Close at l'.end ∷ s)) e in
    same_line (codes "template") mp.Template (several expr range) (sh.several sh.expr sh.range) l l' v v' x y r s k.0
    (same_several expr sh.expr FitsExpr same_expr range sh.range FitsRange same_range x y (some_fit _ _ x F) (some_fit _ _ y G) (t.Close at l.end ∷ r) (t.Close at l'.end ∷ s) refl refl refl refl k.1)
same_mapping (mp.Distribute l v x a o) (mp.Distribute l' v' y b o') F G r s e =
    let u : List Token = t.Name (codes "onto") at a ∷ name o (t.Close at l.end ∷ r) in
    let w : List Token = t.Name (codes "onto") at b ∷ name o' (t.Close at l'.end ∷ s) in
    let d = same_several dist_form sh.dist_form FitsForm same_form dist_form sh.dist_form FitsForm same_form x y (some_fit _ _ x F) (some_fit _ _ y G) u w refl refl refl refl (cc) in
    let k = same_target (codes "onto") a b o o' (t.Close at l.end ∷ r) (t.Close at l'.end ∷ s) d.1 in (
      λ q. ap (starting (codes "distribute")) (behind_name (sh.several sh.dist_form sh.dist_form) v v' x y (cc) d.0 (sh.spelled (codes "onto") (sh.name o (ending q))) ∙ ap (λ z. sh.name v' (sh.several sh.dist_form sh.dist_form y z)) (k.0 (ending q))),
      (let j = k.1 in cc),
      λ h. let t = apart h in let i = apart t.2 in let g = apart i.2 in let n = d.2 g.2 in let x = k.2 n.1 in let y = apart x.2 in
          (distribute_is (line_is l l' t.1 i.1 y.1) (name_is v v' g.0 g.1) n.0 x.0 x.1, y.2),
    )
same_mapping (mp.Align l v xs a o ps) (mp.Align l' v' ys b o' qs) F G r s e =
    let r' : List Token = several point point ps (t.Close at l.end ∷ r) in
    let s' : List Token = several point point qs (t.Close at l'.end ∷ s) in
    let d = same_dims align_dimension sh.align_dimension (λ y. ⊤) same_align xs ys (all_dims xs) (all_dims ys) (t.Name (codes "with") at a ∷ name o r') (t.Name (codes "with") at b ∷ name o' s') refl refl (cc) in
    let k = same_target (codes "with") a b o o' r' s' d.1 in
    let i = same_points ps qs F.1 G.1 (t.Close at l.end ∷ r) (t.Close at l'.end ∷ s) refl refl refl refl k.1 in (
      λ q. ap (starting (codes "align")) (behind_name (sh.dims sh.align_dimension) v v' xs ys (cc) d.0 (sh.spelled (codes "with") (sh.name o (sh.several sh.point sh.point ps (ending q))))
          ∙ ap (λ z. sh.name v' (sh.dims sh.align_dimension ys z)) (k.0 (sh.several sh.point sh.point ps (ending q)) ∙ ap (λ z. sh.spelled (codes "with") (sh.name o' z)) (i.0 (ending q)))),
      (let j = i.1 in cc),
      λ h. let t = apart h in let f = apart t.2 in let g = apart f.2 in let n = d.2 g.2 in let x = k.2 n.1 in let z = i.2 x.2 in let y = apart z.1 in
          (align_is (line_is l l' t.1 f.1 y.1) (name_is v v' g.0 g.1) n.0 x.0 x.1 z.0, y.2),
    )
same_mapping (mp.Shadow l v x) (mp.Shadow l' v' y) F G r s e =
    let k = behind_word (codes "shadow") l l' v v' (dims range x (t.Close at l.end ∷ r)) (dims range y (t.Close at l'.end ∷ s)) e in
    same_line (codes "shadow") mp.Shadow (dims range) (sh.dims sh.range) l l' v v' x y r s k.0
    (same_dims range sh.range FitsRange same_range x y F.1 G.1 (t.Close at l.end ∷ r) (t.Close at l'.end ∷ s) refl refl k.1)
same_mapping _ _ F G r s e = let z = ap (λ (ks : List TokenKind). line_of (second_of ks)) e in cc
