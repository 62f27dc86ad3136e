-- Declarations and the lines of directives that fit are read.
use Rattle.std.proofs.Common.{◌≡◌, ◌≤◌, ◌<◌, ℕ, zero, suc, Bool, true, false, ◌&&◌, List, [], ◌∷◌, refl, sym, ap, ◌∙◌, subst, arith}
use Rattle.std.specs.Prelude.{not, ⊤, Option, None, Some, codes}
use Rattle.xmp_base.specs.declared.place.Place.{Place}
use Rattle.xmp_lex.specs.declared.token.Token.{Token}
use Rattle.xmp_lex.specs.declared.token.TokenKind.TheVariants as t
use Rattle.xmp_lex.specs.declared.token.Mark.{Mark}
use Rattle.xmp_lex.specs.declared.token.Mark.TheVariants as m
use Rattle.xmp_lex.specs.declared.token.Reserved.TheVariants as w
use Rattle.xmp_syntax.specs.declared.parts.Name.{Name}
use Rattle.xmp_syntax.specs.declared.parts.Inside.{Inside}
use Rattle.xmp_syntax.specs.declared.parts.Next as after
use Rattle.xmp_syntax.specs.declared.parts.Several.{Several}
use Rattle.xmp_syntax.specs.declared.parts.Several.TheVariants as sev
use Rattle.xmp_syntax.specs.declared.parts.Single.{Single}
use Rattle.xmp_syntax.specs.declared.parts.Single.TheVariants as one
use Rattle.xmp_syntax.specs.declared.parts.TypeWords.{TypeWords}
use Rattle.xmp_syntax.specs.declared.parts.TypeWords.TheVariants as tw
use Rattle.xmp_syntax.specs.declared.parts.Placed.{Placed}
use Rattle.xmp_syntax.specs.declared.parts.CommaList.{CommaList}
use Rattle.xmp_syntax.specs.declared.expression.Expr as made
use Rattle.xmp_syntax.specs.declared.declaration.Declarator.{Declarator}
use Rattle.xmp_syntax.specs.declared.declaration.Declarator.TheVariants as d
use Rattle.xmp_syntax.specs.declared.declaration.Declaration.{Declaration}
use Rattle.xmp_syntax.specs.declared.directive.DirectiveLine.{DirectiveLine}
use Rattle.xmp_syntax.specs.declared.directive.DistForm.{DistForm}
use Rattle.xmp_syntax.specs.declared.directive.DistForm.TheVariants as f
use Rattle.xmp_syntax.specs.declared.directive.AlignDimension.{AlignDimension}
use Rattle.xmp_syntax.specs.declared.directive.AlignDimension.TheVariants as al
use Rattle.xmp_syntax.specs.declared.directive.Point.{Point}
use Rattle.xmp_syntax.specs.declared.directive.Point.TheVariants as pt
use Rattle.xmp_syntax.specs.declared.directive.Section.{Section}
use Rattle.xmp_syntax.specs.declared.directive.Section.TheVariants as s
use Rattle.xmp_syntax.specs.declared.directive.Sections.{Sections}
use Rattle.xmp_syntax.specs.declared.directive.Piece.TheVariants as pi
use Rattle.xmp_syntax.specs.declared.directive.NodesSet.{NodesSet}
use Rattle.xmp_syntax.specs.declared.directive.Mapping.{Mapping}
use Rattle.xmp_syntax.specs.declared.directive.Mapping.TheVariants as mp
use Rattle.xmp_syntax.specs.declared.directive.ReductionOperator.TheVariants as ro
use Rattle.xmp_syntax.specs.declared.directive.ReductionOperator.{ReductionOperator}
use Rattle.xmp_syntax.specs.declared.directive.Reduction.{Reduction}
use Rattle.xmp_syntax.specs.Parts as p
use Rattle.xmp_syntax.specs.Reading.{here, onward, Effect, plain, operator, separator, opening, closing, Rule, nothing, tok, part, by, ◌·◌, choice, many, Depths}
use Rattle.xmp_syntax.specs.Grammar as g
use Rattle.xmp_syntax.specs.Grammar.{rule, is_mark, is_word, is_offset, is_offset_mark, is_reduction, is_reduction_mark, is_spelled}
use Rattle.xmp_syntax.specs.View.{expr_view}
use Rattle.xmp_syntax.specs.Spell.{◌at◌, spell, expr, sign, each, next, list, dims, several, single, name, names, optional, value, coarray, declarator, type_words, spell_declaration, dist_form, align_dimension, point, section, sections, range, piece, nodes_set, after_colon, spell_mapping, reduction, reduction_operator, reduction_list}
use Rattle.xmp_syntax.specs.Fits.{Fits, FitsExpr, FitsSecond, FitsList, FitsDims, FitsSomeDims, NotEmpty, Each, If, FitsDeclarator, FitsDeclaration, FitsForm, FitsPoint, FitsSection, FitsSections, FitsSeveral, FitsSingle, FitsRange, FitsPiece, FitsSet, FitsMapping, FitsReduction, FitsOperator, level_of}
use Rattle.xmp_syntax.specs.Refused.{Begins}
use Rattle.xmp_syntax.proofs.Done.{Next, fast, go, silent, Is, Not, choice_first, choice_second, many_stop, many_more, skip, take_token}
use Rattle.xmp_syntax.proofs.TokenFacts.{Ends, EndsExpr, ends_less, ends_paren, colon_free, not_offset}
use Rattle.xmp_syntax.proofs.Exprs.{ExprReads, reads, raise, Accepts, ends_colon, not_first, in_parens_reads}
use Rattle.xmp_syntax.proofs.Lists.{ItemReads, more_read, list_reads, any_read, dims_read, several_read, any_several_read, names_read}

pub expr_reads : (e : made.Expr) → FitsExpr e → ExprReads (expr_view e)
expr_reads e F = (reads (expr_view e) F).all

-- an expression before a comma, a semicolon or a closing bracket
abbrev pub EndsPlain : List Token → Type 0
EndsPlain = EndsExpr false

pub type_reads : (x : TypeWords) (K : List Rule) (us : List Token) → Not (is_word w.Int) us → Next K us → Next (part p.type_words ∷ K) (type_words x us)
type_reads (tw.Int q) K us h n = fast 3 (λ E. go n)
type_reads (tw.Long q) K us h n = fast 4 (λ E. go (skip (is_word w.Int) (g.word w.Int) K us h n))
type_reads (tw.LongInt q r) K us h n = fast 6 (λ E. go n)

-- what follows a declarator
abbrev pub EndsDeclarator : List Token → Type 0
EndsDeclarator us = EndsPlain us × Not (is_mark m.Assign) us

pub no_bracket : (us : List Token) → EndsPlain us → Not (is_mark m.OpenBracket) us
no_bracket [] e = e.0
no_bracket (x ∷ us) e = e.0.1

pub no_colon : (us : List Token) → EndsPlain us → Not (is_mark m.Colon) us
no_colon [] e = e.0
no_colon (x ∷ us) e = e.0.3

coarray_rule : (c : Option (Place × Inside Place)) (K : List Rule) (us : List Token) → EndsPlain us → Next K us
    → Not (is_mark m.OpenBracket) (optional coarray c us) × Next (g.optional (is_mark m.Colon) (g.sign m.Colon · g.brackets (g.sign m.Star)) ∷ K) (optional coarray c us)
coarray_rule None K us e n = (no_bracket us e, skip _ _ K us (no_colon us e) n)
coarray_rule (Some x) K us e n = (refl, fast 8 (λ E. go n))

-- behind the name
abbrev pub declarator_rest : Declarator → List Token → List Token
declarator_rest (d.Scalar v x) r = optional value x r
declarator_rest (d.Array v ds c) r = dims expr ds (optional coarray c r)

pub rest_reads : (x : Declarator) → FitsDeclarator x → (K : List Rule) (us : List Token) → EndsDeclarator us → Next K us → Next (part p.declarator_rest ∷ K) (declarator_rest x us)
rest_reads (d.Scalar v None) F K us e n = silent 1 (λ E x xs. refl) (choice_second _ _ _ K us (no_bracket us e.0) (skip _ _ K us e.1 n))
rest_reads (d.Scalar v (Some x)) F K us e n = fast 5 (λ E. go ((expr_reads x.1 F).all false K us e.0 tt n))
rest_reads (d.Array v [] c) F K us e n = absurd F.0
rest_reads (d.Array v (x ∷ ds) c) F K us e n =
    let a = coarray_rule c K us e.0 n in
    fast 3 (λ E. go (dims_read expr g.expr FitsExpr (λ y G M vs w k. (expr_reads y G).all false M vs w tt k) (x ∷ ds) F _ (optional coarray c us) a.0 a.1))

pub declarator_reads : (x : Declarator) → FitsDeclarator x → (K : List Rule) (us : List Token) → EndsDeclarator us → Next K us → Next (part p.declarator ∷ K) (declarator x us)
declarator_reads (d.Scalar v x) F K us e n = fast 3 (λ E. go (rest_reads (d.Scalar v x) F K us e n))
declarator_reads (d.Array v ds c) F K us e n = fast 3 (λ E. go (rest_reads (d.Array v ds c) F K us e n))

declarator_first : (x : Declarator) (r : List Token) → Not (is_word w.Int) (declarator x r)
declarator_first (d.Scalar v x) r = refl
declarator_first (d.Array v ds c) r = refl

pub declaration_reads : (x : Declaration) → FitsDeclaration x → (K : List Rule) (us : List Token) → Next K us → Next (rule p.declaration ∷ K) (spell_declaration x us)
declaration_reads x F K us n = silent 1 (λ E x xs. refl) (type_reads x.ty _ (list declarator x.items (t.Mark m.Semicolon at x.end ∷ us)) (declarator_first x.items.first _)
    (silent 1 (λ E x xs. refl) (list_reads declarator (part p.declarator) FitsDeclarator EndsDeclarator declarator_reads (λ q vs. (((refl, refl, refl, refl), refl), refl)) x.items F
    (g.semicolon ∷ K) (t.Mark m.Semicolon at x.end ∷ us) (((refl, refl, refl, refl), refl), refl) refl (fast 1 (λ E. go n)))))

-- an expression, before what ends it
pub expr_item : ItemReads expr g.expr FitsExpr
expr_item x F K us e n = (expr_reads x F).all false K us e tt n

pub no_paren : (us : List Token) → EndsPlain us → Not (is_mark m.OpenParen) us
no_paren us e = ends_paren 10 false us e.0

pub no_offset : (us : List Token) → EndsPlain us → Not is_offset us
no_offset [] e = absurd e.1
no_offset (x ∷ us) e = not_offset x.kind e.0.2

-- what ends an expression before which no colon may stand ends one before which it may
pub colon_too : (us : List Token) → EndsPlain us → EndsExpr true us
colon_too [] e = absurd e.1
colon_too (x ∷ us) e = ((e.0.0, e.0.1, e.0.2, colon_free true x.kind us e.0.3), e.1)

-- An optional number behind a colon.
colon_begins : (r : Rule) (K : List Rule) → Accepts true (g.optional (is_mark m.Colon) (g.sign m.Colon · r) ∷ K)
colon_begins r K = λ D q. record { depths = _; now = _; left = _; reads = onward refl (onward refl (onward refl here)) }

second_reads : (x : Option (Place × made.Expr)) → If FitsSecond x → (K : List Rule) (us : List Token) → EndsPlain us → Next K us
    → EndsExpr true (optional after_colon x us) × Next (g.optional (is_mark m.Colon) (g.sign m.Colon · g.expr) ∷ K) (optional after_colon x us)
second_reads None F K us e n = (colon_too us e, skip _ _ K us (no_colon us e) n)
second_reads (Some x) F K us e n = (ends_colon x.0 (expr_view x.1) F us, fast 3 (λ E. go ((expr_reads x.1 F).all false K us e tt n)))

-- Each kind of item.
range_reads : ItemReads range (part p.range) FitsRange
range_reads x F K us e n =
    let a = second_reads x.1 F.1 K us e n in
    silent 2 (λ E x xs. refl) ((expr_reads x.0 F.0).all true _ (optional after_colon x.1 us) a.0 (colon_begins g.expr K) a.1)

piece_reads : ItemReads piece (part p.piece) FitsPiece
piece_reads (pi.All q) F K us e n = fast 3 (λ E. go n)
piece_reads (pi.Numbers a x) F K us e n =
    let r : List Token = optional after_colon x us in
    silent 1 (λ E x xs. refl) (choice_second (is_mark m.Colon) _ _ K (spell (expr_view a) r) (not_first m.Colon (expr_view a) F.0 r refl) (range_reads (a, x) F K us e n))

-- the numbers of a section from the second on
numbers_read : (x k : Option (Place × made.Expr)) (a : made.Expr) → FitsSection (s.Numbers a x k) → (K : List Rule) (us : List Token) → EndsPlain us → Next K us
    → EndsExpr true (optional after_colon x (optional after_colon k us))
    × Next (g.optional (is_mark m.Colon) (g.sign m.Colon · part p.range) ∷ K) (optional after_colon x (optional after_colon k us))
numbers_read None None a F K us e n = (colon_too us e, skip _ _ K us (no_colon us e) n)
numbers_read None (Some y) a F K us e n = (let z : Some y ≡ None = F.1 in absurd (cc))
numbers_read (Some x) k a F K us e n = (ends_colon x.0 (expr_view x.1) F.1 (optional after_colon k us), fast 3 (λ E. go (range_reads (x.1, k) (F.1, F.2) K us e n)))

section_first : (a : made.Expr) (x k : Option (Place × made.Expr)) → FitsSection (s.Numbers a x k) → FitsExpr a
section_first a None k F = F.0
section_first a (Some x) k F = F.0

section_reads : ItemReads section (part p.section) FitsSection
section_reads (s.All q) F K us e n = fast 3 (λ E. go n)
section_reads (s.Numbers a x k) F K us e n =
    let w = numbers_read x k a F K us e n in
    let r : List Token = optional after_colon x (optional after_colon k us) in
    let G = section_first a x k F in
    silent 1 (λ E x xs. refl) (choice_second (is_mark m.Colon) _ _ K (spell (expr_view a) r) (not_first m.Colon (expr_view a) G r refl)
    (silent 1 (λ E x xs. refl) ((expr_reads a G).all true _ r w.0 (colon_begins (part p.range) K) w.1)))

pub sections_read : (x : Sections) → FitsSections x → (K : List Rule) (us : List Token) → Not (is_mark m.OpenBracket) us → Next K us → Next (part p.sections ∷ K) (sections x us)
sections_read x F K us h n = fast 3 (λ E. go (any_read section (part p.section) FitsSection section_reads x.sections F K us h n))

pub set_reads : (x : NodesSet) → FitsSet x → (K : List Rule) (us : List Token) → Not (is_mark m.OpenParen) us → Not (is_mark m.OpenBracket) us → Next K us → Next (part p.set ∷ K) (nodes_set x us)
set_reads x F K us a b n = fast 3 (λ E. go (any_several_read piece (part p.piece) FitsPiece piece_reads piece (part p.piece) FitsPiece piece_reads x.pieces F K us a b n))

form_reads : ItemReads dist_form (part p.how) FitsForm
form_reads (f.Whole q) F K us e n = fast 3 (λ E. go n)
form_reads (f.Block q) F K us e n = fast 4 (λ E. go n)
form_reads (f.Cyclic q None) F K us e n = fast 6 (λ E. go (skip _ _ K us (no_paren us e) n))
form_reads (f.Cyclic q (Some x)) F K us e n = fast 9 (λ E. go (in_parens_reads (expr_view x.item) K x.close us (expr_reads x.item F) n))
form_reads (f.Gblock q x) F K us e n = fast 11 (λ E. go (silent 1 (λ E x xs. refl) (list_reads expr g.expr FitsExpr EndsPlain expr_item
    (λ q vs. ((refl, refl, refl, refl), refl)) x.item.item F _ (t.Mark m.CloseBrace at x.item.close ∷ t.Mark m.CloseParen at x.close ∷ us)
    ((refl, refl, refl, refl), refl) refl (fast 2 (λ E. go n)))))

align_reads : ItemReads align_dimension (part p.align_dimension) (λ y. ⊤)
align_reads (al.Star q) F K us e n = fast 3 (λ E. go n)
align_reads (al.Dummy v) F K us e n = fast 3 (λ E. go n)

pub ends_low : (n : ℕ) (us : List Token) → Ends n false us → Ends 0 false us
ends_low zero us e = e
ends_low (suc n) us e = ends_low n us (ends_less n false us e)

pub point_reads : ItemReads point (part p.place) FitsPoint
point_reads (pt.Star q) F K us e n = fast 3 (λ E. go n)
point_reads (pt.Index v None) F K us e n = fast 4 (λ E. go (skip is_offset _ K us (no_offset us e) n))
point_reads (pt.Index v (Some x)) F K us e n =
    let k : Fits (expr_view x.1) = F.2 in
    let low = (reads (expr_view x.1) k).low (omega (arith, F.1)) in
    fast 4 (λ E. go (choice_first is_offset _ _ _ _ F.0 (silent 1 (λ E x xs. refl) (take_token operator is_offset _ _ _ F.0
    ((raise 0 (level_of (expr_view x.1)) (expr_view x.1) F.1 low).reads false K us (ends_low 10 us e.0) tt n)))))

all_dims : (xs : List (Inside AlignDimension)) → FitsDims (λ y. ⊤) xs
all_dims [] = tt
all_dims (x ∷ xs) = (tt, all_dims xs)

-- The rest of each line, from its word on.
abbrev from_word : List ℕ → (List Token → List Token) → DirectiveLine → List Token → List Token
from_word bytes inner l r = t.Name bytes at l.word ∷ inner (t.Close at l.end ∷ r)

-- behind the first size: more in brackets, or the set and the end of the line
sizes_read : (c z : Place) (ds : List (Inside made.Expr)) → FitsDims FitsExpr ds → (K : List Rule) (us : List Token) → Next K us
    → Next ((tok closing (is_mark m.CloseBracket) · choice (is_mark m.OpenBracket) (g.dims g.expr · g.line_end) g.nodes_end) ∷ K) (t.Mark m.CloseBracket at c ∷ dims expr ds (t.Close at z ∷ us))
sizes_read c z [] F K us n = fast 7 (λ E. go n)
sizes_read c z (x ∷ ds) F K us n = fast 3 (λ E. go (silent 1 (λ E x xs. refl) (dims_read expr g.expr FitsExpr expr_item (x ∷ ds) (tt, F) (g.line_end ∷ K) (t.Close at z ∷ us) refl (fast 1 (λ E. go n)))))

commas_read : (c z : Place) (xs : List (after.Next made.Expr)) → Each (λ y. FitsExpr y.item) xs → (K : List Rule) (us : List Token) → Next K us
    → EndsPlain (each (next expr) xs (t.Mark m.CloseParen at c ∷ t.Close at z ∷ us))
    × Next (choice (is_mark m.Comma) (many (is_mark m.Comma) (g.comma · g.expr) · tok closing (is_mark m.CloseParen) · g.line_end) (tok closing (is_mark m.CloseParen) · g.nodes_end) ∷ K)
    (each (next expr) xs (t.Mark m.CloseParen at c ∷ t.Close at z ∷ us))
commas_read c z [] F K us n = (((refl, refl, refl, refl), refl), fast 7 (λ E. go n))
commas_read c z (x ∷ xs) F K us n =
    let w = more_read expr g.expr FitsExpr EndsPlain expr_item (λ q vs. ((refl, refl, refl, refl), refl)) (x ∷ xs) F ((tok closing (is_mark m.CloseParen) · g.line_end) ∷ K)
    (t.Mark m.CloseParen at c ∷ t.Close at z ∷ us) ((refl, refl, refl, refl), refl) refl (fast 3 (λ E. go n)) in
    (w.0, fast 2 (λ E. go w.1))

-- behind the opening mark, an expression and what follows it
size_reads : (a : made.Expr) → FitsExpr a → (r s : Rule) (K : List Rule) (us : List Token) → EndsPlain us → Next (s ∷ K) us → Next (choice (is_mark m.Star) r (g.expr · s) ∷ K) (expr a us)
size_reads a F r s K us e n = choice_second (is_mark m.Star) _ _ K (spell (expr_view a) us) (not_first m.Star (expr_view a) F us refl)
    (silent 1 (λ E x xs. refl) ((expr_reads a F).all false _ us e tt n))

nodes_reads : (l : DirectiveLine) (v : Name) (x : Several made.Expr made.Expr) → FitsSeveral FitsExpr FitsExpr x → (K : List Rule) (us : List Token) → Next K us
    → Next (rule p.nodes ∷ K) (from_word (codes "nodes") (λ r. name v (several expr expr x r)) l us)
nodes_reads l v (sev.Brackets []) F K us n = absurd F.0
nodes_reads l v (sev.Brackets (x ∷ ds)) F K us n = fast 7 (λ E. go (size_reads x.item F.1.0 _ _ K (t.Mark m.CloseBracket at x.close ∷ dims expr ds (t.Close at l.end ∷ us)) ((refl, refl, refl, refl), refl)
    (sizes_read x.close l.end ds F.1.1 K us n)))
nodes_reads l v (sev.Parens x) F K us n =
    let w = commas_read x.close l.end x.item.more F.1 K us n in
    fast 7 (λ E. go (size_reads x.item.first F.0 _ _ K (each (next expr) x.item.more (t.Mark m.CloseParen at x.close ∷ t.Close at l.end ∷ us)) w.0 w.1))

part_reads : (l : DirectiveLine) (v : Name) (x : Single made.Expr) (q : Place) (y : NodesSet) → FitsSingle FitsExpr x × FitsSet y → (K : List Rule) (us : List Token) → Next K us
    → Next (rule p.nodes ∷ K) (from_word (codes "nodes") (λ r. name v (single expr x (t.Mark m.Assign at q ∷ nodes_set y r))) l us)
part_reads l v x q y F K us n =
    let w = set_reads y F.1 (g.line_end ∷ K) (t.Close at l.end ∷ us) refl refl (fast 1 (λ E. go n)) in
    behind_size x F.0 w
  where
    behind_size : (x : Single made.Expr) → FitsSingle FitsExpr x → Next (part p.set ∷ g.line_end ∷ K) (nodes_set y (t.Close at l.end ∷ us))
        → Next (rule p.nodes ∷ K) (from_word (codes "nodes") (λ r. name v (single expr x (t.Mark m.Assign at q ∷ nodes_set y r))) l us)
    behind_size (one.Bracket x) G w = fast 7 (λ E. go (size_reads x.item G _ _ K _ ((refl, refl, refl, refl), refl) (fast 7 (λ E. go w))))
    behind_size (one.Paren x) G w = fast 7 (λ E. go (size_reads x.item G _ _ K _ ((refl, refl, refl, refl), refl) (fast 7 (λ E. go w))))

star_reads : (l : DirectiveLine) (v : Name) (x : Single Place) (K : List Rule) (us : List Token) → Next K us → Next (rule p.nodes ∷ K) (from_word (codes "nodes") (λ r. name v (single (sign m.Star) x r)) l us)
star_reads l v (one.Bracket x) K us n = fast 13 (λ E. go n)
star_reads l v (one.Paren x) K us n = fast 13 (λ E. go n)

template_reads : (l : DirectiveLine) (v : Name) (x : Several made.Expr (made.Expr × Option (Place × made.Expr))) → FitsSeveral FitsExpr FitsRange x → (K : List Rule) (us : List Token) → Next K us
    → Next (rule p.template ∷ K) (from_word (codes "template") (λ r. name v (several expr range x r)) l us)
template_reads l v x F K us n = fast 4 (λ E. go (silent 1 (λ E x xs. refl)
    (several_read expr g.expr FitsExpr expr_item range (part p.range) FitsRange range_reads x F (g.line_end ∷ K) (t.Close at l.end ∷ us) refl (fast 1 (λ E. go n)))))

distribute_reads : (l : DirectiveLine) (v : Name) (x : Several DistForm DistForm) (q : Place) (o : Name) → FitsSeveral FitsForm FitsForm x → (K : List Rule) (us : List Token) → Next K us
    → Next (rule p.distribute ∷ K) (from_word (codes "distribute") (λ r. name v (several dist_form dist_form x (t.Name (codes "onto") at q ∷ name o r))) l us)
distribute_reads l v x q o F K us n = fast 4 (λ E. go (silent 1 (λ E x xs. refl)
    (several_read dist_form (part p.how) FitsForm form_reads dist_form (part p.how) FitsForm form_reads x F _ (t.Name (codes "onto") at q ∷ name o (t.Close at l.end ∷ us)) refl (fast 5 (λ E. go n)))))

pub points_read : (x : Several Point Point) → FitsSeveral FitsPoint FitsPoint x → (K : List Rule) (us : List Token) → Not (is_mark m.OpenBracket) us → Next K us
    → Next (g.several (part p.place) (part p.place) ∷ K) (several point point x us)
points_read = several_read point (part p.place) FitsPoint point_reads point (part p.place) FitsPoint point_reads

align_line_reads : (l : DirectiveLine) (v : Name) (xs : List (Inside AlignDimension)) (q : Place) (o : Name) (ps : Several Point Point) → NotEmpty xs × FitsSeveral FitsPoint FitsPoint ps
    → (K : List Rule) (us : List Token) → Next K us
    → Next (rule p.align ∷ K) (from_word (codes "align") (λ r. name v (dims align_dimension xs (t.Name (codes "with") at q ∷ name o (several point point ps r)))) l us)
align_line_reads l v xs q o ps F K us n = fast 4 (λ E. go (silent 1 (λ E x xs. refl)
    (dims_read align_dimension (part p.align_dimension) (λ y. ⊤) align_reads xs (F.0, all_dims xs) _ (t.Name (codes "with") at q ∷ name o (several point point ps (t.Close at l.end ∷ us))) refl
    (fast 4 (λ E. go (silent 1 (λ E x xs. refl) (points_read ps F.1 (g.line_end ∷ K) (t.Close at l.end ∷ us) refl (fast 1 (λ E. go n)))))))))

shadow_reads : (l : DirectiveLine) (v : Name) (ws : List (Inside (made.Expr × Option (Place × made.Expr)))) → FitsSomeDims FitsRange ws → (K : List Rule) (us : List Token) → Next K us
    → Next (rule p.shadow ∷ K) (from_word (codes "shadow") (λ r. name v (dims range ws r)) l us)
shadow_reads l v ws F K us n = fast 4 (λ E. go (silent 1 (λ E x xs. refl) (dims_read range (part p.range) FitsRange range_reads ws F (g.line_end ∷ K) (t.Close at l.end ∷ us) refl (fast 1 (λ E. go n)))))

-- Mappings, among the parts of a program and in a block.
pub mapping_reads : (x : Mapping) → FitsMapping x → (K : List Rule) (us : List Token) → Next K us → Next (part p.mapping ∷ K) (spell_mapping x us)
mapping_reads (mp.Nodes l v x) F K us n = fast 4 (λ E. go (nodes_reads l v x F K us n))
mapping_reads (mp.NodesStar l v x) F K us n = fast 4 (λ E. go (star_reads l v x K us n))
mapping_reads (mp.NodesPart l v x q y) F K us n = fast 4 (λ E. go (part_reads l v x q y F K us n))
mapping_reads (mp.Template l v x) F K us n = fast 4 (λ E. go (template_reads l v x F K us n))
mapping_reads (mp.Distribute l v x q o) F K us n = fast 4 (λ E. go (distribute_reads l v x q o F K us n))
mapping_reads (mp.Align l v xs q o ps) F K us n = fast 4 (λ E. go (align_line_reads l v xs q o ps F K us n))
mapping_reads (mp.Shadow l v ws) F K us n = fast 4 (λ E. go (shadow_reads l v ws F K us n))

pub mapping_item_reads : (x : Mapping) → FitsMapping x → (K : List Rule) (us : List Token) → Next K us → Next (part p.block_item ∷ K) (spell_mapping x us)
mapping_item_reads (mp.Nodes l v x) F K us n = fast 5 (λ E. go (nodes_reads l v x F K us n))
mapping_item_reads (mp.NodesStar l v x) F K us n = fast 5 (λ E. go (star_reads l v x K us n))
mapping_item_reads (mp.NodesPart l v x q y) F K us n = fast 5 (λ E. go (part_reads l v x q y F K us n))
mapping_item_reads (mp.Template l v x) F K us n = fast 5 (λ E. go (template_reads l v x F K us n))
mapping_item_reads (mp.Distribute l v x q o) F K us n = fast 5 (λ E. go (distribute_reads l v x q o F K us n))
mapping_item_reads (mp.Align l v xs q o ps) F K us n = fast 5 (λ E. go (align_line_reads l v xs q o ps F K us n))
mapping_item_reads (mp.Shadow l v ws) F K us n = fast 5 (λ E. go (shadow_reads l v ws F K us n))

-- Reductions.
operator_reads : (x : ReductionOperator) (q : Place) (ns : CommaList Name) (c : Place) → FitsOperator x → (K : List Rule) (us : List Token) → Next K us
    → Next (((choice is_reduction (tok plain is_reduction) (tok plain g.is_max_or_min) · g.sign m.Colon · part p.names) · tok closing (is_mark m.CloseParen)) ∷ K)
    (reduction_operator x (t.Mark m.Colon at q ∷ names ns (t.Mark m.CloseParen at c ∷ us)))
operator_reads (ro.Mark x) q ns c F K us n = fast 2 (λ E. go (choice_first is_reduction _ _ _ _ F (take_token plain is_reduction _ _ _ F
    (fast 2 (λ E. go (names_read ns (tok closing (is_mark m.CloseParen) ∷ K) (t.Mark m.CloseParen at c ∷ us) refl (fast 1 (λ E. go n))))))))
operator_reads (ro.Max r) q ns c F K us n = fast 6 (λ E. go (names_read ns (tok closing (is_mark m.CloseParen) ∷ K) (t.Mark m.CloseParen at c ∷ us) refl (fast 1 (λ E. go n))))
operator_reads (ro.Min r) q ns c F K us n = fast 6 (λ E. go (names_read ns (tok closing (is_mark m.CloseParen) ∷ K) (t.Mark m.CloseParen at c ∷ us) refl (fast 1 (λ E. go n))))

pub reductions_read : (xs : List Reduction) → Each FitsReduction xs → (K : List Rule) (us : List Token) → Not (is_spelled (codes "reduction")) us → Next K us
    → Next (many (is_spelled (codes "reduction")) (part p.reduction) ∷ K) (each reduction xs us)
reductions_read [] F K us h n = many_stop _ _ K us h n
reductions_read (x ∷ xs) F K us h n =
    fast 6 (λ E. go (operator_reads x.list.item.0 x.list.item.1 x.list.item.2 x.list.close F.0 _ (each reduction xs us) (reductions_read xs F.1 K us h n)))
