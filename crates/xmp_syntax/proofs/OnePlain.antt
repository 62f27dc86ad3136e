-- Statements with no statement inside that fit and have the same kinds of tokens have one shape; with the same tokens they are equal.
use Rattle.std.proofs.Common.{◌≡◌, ◌+◌, ◌*◌, List, ◌∷◌, length, refl, sym, ap, ◌∙◌, arith}
use Rattle.std.specs.Prelude.{codes}
use Rattle.xmp_base.specs.declared.place.Place.{Place}
use Rattle.xmp_lex.specs.declared.token.Token.{Token}
use Rattle.xmp_lex.specs.declared.token.TokenKind.{TokenKind}
use Rattle.xmp_lex.specs.declared.token.TokenKind.TheVariants as t
use Rattle.xmp_lex.specs.declared.token.Mark.TheVariants as m
use Rattle.xmp_lex.specs.declared.token.Reserved.TheVariants as w
use Rattle.xmp_syntax.specs.declared.parts.Name.{Name}
use Rattle.xmp_syntax.specs.declared.parts.Inside.{Inside}
use Rattle.xmp_syntax.specs.declared.parts.Reference.{Reference}
use Rattle.xmp_syntax.specs.declared.parts.CommaList.{CommaList}
use Rattle.xmp_syntax.specs.declared.expression.Expr as made
use Rattle.xmp_syntax.specs.declared.directive.DirectiveLine.{DirectiveLine}
use Rattle.xmp_syntax.specs.declared.statement.Simple.{Simple}
use Rattle.xmp_syntax.specs.declared.statement.Simple.TheVariants as si
use Rattle.xmp_syntax.specs.declared.statement.Plain.{Plain}
use Rattle.xmp_syntax.specs.declared.statement.Plain.TheVariants as pl
use Rattle.xmp_syntax.specs.Parts.{Part}
use Rattle.xmp_syntax.specs.Parts as p
use Rattle.xmp_syntax.specs.Grammar.{line_of, item_of}
use Rattle.xmp_syntax.specs.View.{ref_view, rest_view}
use Rattle.xmp_syntax.specs.Spell.{◌at◌, spell_rest, sections, nodes_set, spell_simple, spell_plain}
use Rattle.xmp_syntax.specs.Fits.{FitsSimple, FitsPlain}
use Rattle.xmp_syntax.specs.Shape as sh
use Rattle.xmp_syntax.specs.Shape.{Shapes, token, ◌▸◌, shape, rest_shape, kinds}
use Rattle.xmp_syntax.proofs.Statements.{step_statement}
use Rattle.xmp_syntax.proofs.OneExpr.{same_rest}
use Rattle.xmp_syntax.proofs.Backward.{rest_is}
use Rattle.xmp_syntax.proofs.OneTokens.{apart, format_is, inside_is, pair_is, four_is, line_is}
use Rattle.xmp_syntax.proofs.OneLine.{Alike, same_expr, same_names}
use Rattle.xmp_syntax.proofs.OneDirective.{same_sections, same_set, first_of, second_of}
use Rattle.xmp_syntax.specs.declared.parts.Format.{Format}
use Rattle.xmp_syntax.specs.declared.parts.Next as after
use Rattle.xmp_syntax.specs.declared.directive.Sections.{Sections}
use Rattle.xmp_syntax.specs.declared.directive.NodesSet.{NodesSet}
use Rattle.xmp_syntax.proofs.OneStmt.{same_simple, same_reference}

-- The part that the first token tells, or in the line of a directive the second.
abbrev pub class_by : TokenKind → Part → Part
class_by t.Pragma P = P
class_by k P = item_of k

abbrev pub class : List TokenKind → Part
class ks = class_by (first_of ks) (line_of (second_of ks))

abbrev pub plain_part : Plain → Part
plain_part (pl.Empty a) = p.empty
plain_part (pl.Simple x a) = p.simple_statement
plain_part (pl.Return a v b) = p.return_statement
plain_part (pl.Print a x b) = p.print_statement
plain_part (pl.Scan a x b) = p.scan_statement
plain_part (pl.Sync a x b) = p.sync_statement
plain_part (pl.Reflect l ns) = p.reflect
plain_part (pl.Barrier l) = p.barrier
plain_part (pl.Bcast l ns a x) = p.bcast
plain_part (pl.Gmove l a b x c) = p.gmove

simple_class : (x : Simple) → FitsSimple x → (r : List Token) → class (kinds (spell_simple x r)) ≡ p.simple_statement
simple_class (si.Assign x o e) F r = refl
simple_class (si.Postfix x o) F r = refl
simple_class (si.Prefix o x) F r = (step_statement o.what F.0).1
simple_class (si.Call x) F r = refl

pub plain_class : (x : Plain) → FitsPlain x → (r : List Token) → class (kinds (spell_plain x r)) ≡ plain_part x
plain_class (pl.Simple x z) F r = simple_class x F (t.Mark m.Semicolon at z ∷ r)
plain_class (pl.Empty z) F r = refl
plain_class (pl.Return q e z) F r = refl
plain_class (pl.Print q x z) F r = refl
plain_class (pl.Scan q x z) F r = refl
plain_class (pl.Sync q x z) F r = refl
plain_class (pl.Reflect l ns) F r = refl
plain_class (pl.Barrier l) F r = refl
plain_class (pl.Bcast l ns q x) F r = refl
plain_class (pl.Gmove l a q x z) F r = refl

-- What holds of each statement of a part.
empty_only : (P : Plain → Type 0) → ((a : Place) → P (pl.Empty a)) → (y : Plain) → plain_part y ≡ p.empty → P y
empty_only P f (pl.Empty a) h = f a
empty_only P f _ h = cc

simple_only : (P : Plain → Type 0) → ((x : Simple) (a : Place) → P (pl.Simple x a)) → (y : Plain) → plain_part y ≡ p.simple_statement → P y
simple_only P f (pl.Simple x a) h = f x a
simple_only P f _ h = cc

return_only : (P : Plain → Type 0) → ((a : Place) (v : made.Expr) (b : Place) → P (pl.Return a v b)) → (y : Plain) → plain_part y ≡ p.return_statement → P y
return_only P f (pl.Return a v b) h = f a v b
return_only P f _ h = cc

print_only : (P : Plain → Type 0) → ((a : Place) (x : Inside (Format × List (after.Next made.Expr))) (b : Place) → P (pl.Print a x b)) → (y : Plain) → plain_part y ≡ p.print_statement → P y
print_only P f (pl.Print a x b) h = f a x b
print_only P f _ h = cc

scan_only : (P : Plain → Type 0) → ((a : Place) (x : Inside (Format × Place × Place × Reference made.Expr)) (b : Place) → P (pl.Scan a x b)) → (y : Plain) → plain_part y ≡ p.scan_statement → P y
scan_only P f (pl.Scan a x b) h = f a x b
scan_only P f _ h = cc

sync_only : (P : Plain → Type 0) → ((a : Place) (x : Inside (Place × Reference made.Expr)) (b : Place) → P (pl.Sync a x b)) → (y : Plain) → plain_part y ≡ p.sync_statement → P y
sync_only P f (pl.Sync a x b) h = f a x b
sync_only P f _ h = cc

reflect_only : (P : Plain → Type 0) → ((l : DirectiveLine) (ns : Inside (CommaList Name)) → P (pl.Reflect l ns)) → (y : Plain) → plain_part y ≡ p.reflect → P y
reflect_only P f (pl.Reflect l ns) h = f l ns
reflect_only P f _ h = cc

barrier_only : (P : Plain → Type 0) → ((l : DirectiveLine) → P (pl.Barrier l)) → (y : Plain) → plain_part y ≡ p.barrier → P y
barrier_only P f (pl.Barrier l) h = f l
barrier_only P f _ h = cc

bcast_only : (P : Plain → Type 0) → ((l : DirectiveLine) (ns : Inside (CommaList Name)) (a : Place) (x : NodesSet) → P (pl.Bcast l ns a x)) → (y : Plain) → plain_part y ≡ p.bcast → P y
bcast_only P f (pl.Bcast l ns a x) h = f l ns a x
bcast_only P f _ h = cc

gmove_only : (P : Plain → Type 0) → ((l : DirectiveLine) (a : Sections) (b : Place) (x : Sections) (c : Place) → P (pl.Gmove l a b x c)) → (y : Plain) → plain_part y ≡ p.gmove → P y
gmove_only P f (pl.Gmove l a b x c) h = f l a b x c
gmove_only P f _ h = cc

-- Two of a part.
abbrev SamePlain : Plain → List Token → List Token → Plain → Type 0
SamePlain x r s y = FitsPlain y → kinds (spell_plain x r) ≡ kinds (spell_plain y s) → Alike spell_plain sh.plain_shape x y r s

two_empty : (a : Place) → FitsPlain (pl.Empty a) → (r s : List Token) → (b : Place) → SamePlain (pl.Empty a) r s (pl.Empty b)
two_empty a F r s b G e = (λ q. refl, cc, λ h. let t = apart h in (ap pl.Empty t.1, t.2))

two_simple : (x : Simple) (a : Place) → FitsPlain (pl.Simple x a) → (r s : List Token) → (y : Simple) (b : Place) → SamePlain (pl.Simple x a) r s (pl.Simple y b)
two_simple x a F r s y b G e =
    let c = same_simple x y F G (t.Mark m.Semicolon at a ∷ r) (t.Mark m.Semicolon at b ∷ s) ((refl, refl, refl, refl), refl) ((refl, refl, refl, refl), refl) e in
    (λ q. c.0 (token (t.Mark m.Semicolon) ▸ q), (let z = c.1 in cc), λ h. let g = c.2 h in let t = apart g.1 in (ap (λ z. pl.Simple z a) g.0 ∙ ap (pl.Simple y) t.1, t.2))

two_return : (a : Place) (v : made.Expr) (b : Place) → FitsPlain (pl.Return a v b) → (r s : List Token) → (a' : Place) (u : made.Expr) (b' : Place) → SamePlain (pl.Return a v b) r s (pl.Return a' u b')
two_return a v b F r s a' u b' G e =
    let c = same_expr v u F G (t.Mark m.Semicolon at b ∷ r) (t.Mark m.Semicolon at b' ∷ s) ((refl, refl, refl, refl), refl) ((refl, refl, refl, refl), refl) (cc) in (
      λ q. ap (λ z. token (t.Word w.Return) ▸ z) (c.0 (token (t.Mark m.Semicolon) ▸ q)),
      (let z = c.1 in cc),
      λ h. let t = apart h in let g = c.2 t.2 in let i = apart g.1 in (ap (λ z. pl.Return z v b) t.1 ∙ ap (λ z. pl.Return a' z b) g.0 ∙ ap (pl.Return a' u) i.1, i.2),
    )

two_print : (a : Place) (x : Inside (Format × List (after.Next made.Expr))) (b : Place) → FitsPlain (pl.Print a x b) → (r s : List Token) → (a' : Place) (y : Inside (Format × List (after.Next made.Expr))) (b' : Place) → SamePlain (pl.Print a x b) r s (pl.Print a' y b')
two_print a x b F r s a' y b' G e =
    let k : t.Text x.item.0.text ≡ t.Text y.item.0.text = cc in
    let u : List Token = t.Mark m.CloseParen at x.close ∷ t.Mark m.Semicolon at b ∷ r in
    let v : List Token = t.Mark m.CloseParen at y.close ∷ t.Mark m.Semicolon at b' ∷ s in
    let c = same_rest (16 * length (spell_rest (rest_view x.item.1) u) + 2) (rest_view x.item.1) (rest_view y.item.1) u v (omega arith) F G ((refl, refl, refl, refl), refl) ((refl, refl, refl, refl), refl) refl refl (cc) in (
      λ q. let end : Shapes = token (t.Mark m.CloseParen) ▸ token (t.Mark m.Semicolon) ▸ q in
          ap (λ z. token (t.Word w.Printf) ▸ token (t.Mark m.OpenParen) ▸ token z ▸ rest_shape (rest_view x.item.1) end) k ∙ ap (λ z. token (t.Word w.Printf) ▸ token (t.Mark m.OpenParen) ▸ token (t.Text y.item.0.text) ▸ z) (c.0 end),
      (let z = c.1 in cc),
      λ h. let t = apart h in let o = apart t.2 in let i = apart o.2 in let g = c.2 i.2 in let j = apart g.1 in let l = apart j.2 in
          (ap (λ z. pl.Print z x b) t.1 ∙ ap (λ z. pl.Print a' z b) (inside_is x y o.1 (pair_is x.item y.item (format_is x.item.0 y.item.0 i.0 i.1) (rest_is x.item.1 y.item.1 g.0)) j.1) ∙ ap (pl.Print a' y) l.1, l.2),
    )

two_scan : (a : Place) (x : Inside (Format × Place × Place × Reference made.Expr)) (b : Place) → FitsPlain (pl.Scan a x b) → (r s : List Token) → (a' : Place) (y : Inside (Format × Place × Place × Reference made.Expr)) (b' : Place) → SamePlain (pl.Scan a x b) r s (pl.Scan a' y b')
two_scan a x b F r s a' y b' G e =
    let k : t.Text x.item.0.text ≡ t.Text y.item.0.text = cc in
    let c = same_reference x.item.3 y.item.3 F G (t.Mark m.CloseParen at x.close ∷ t.Mark m.Semicolon at b ∷ r) (t.Mark m.CloseParen at y.close ∷ t.Mark m.Semicolon at b' ∷ s) (refl, refl, refl, refl) (refl, refl, refl, refl) (cc) in (
      λ q. let end : Shapes = token (t.Mark m.CloseParen) ▸ token (t.Mark m.Semicolon) ▸ q in
          ap (λ z. token (t.Word w.Scanf) ▸ token (t.Mark m.OpenParen) ▸ token z ▸ token (t.Mark m.Comma) ▸ token (t.Mark m.And) ▸ sh.ref_shape (ref_view x.item.3) end) k
          ∙ ap (λ z. token (t.Word w.Scanf) ▸ token (t.Mark m.OpenParen) ▸ token (t.Text y.item.0.text) ▸ token (t.Mark m.Comma) ▸ token (t.Mark m.And) ▸ z) (c.0 end),
      (let z = c.1 in cc),
      λ h. let t = apart h in let o = apart t.2 in let i = apart o.2 in let j = apart i.2 in let k = apart j.2 in let g = c.2 k.2 in let l = apart g.1 in let n = apart l.2 in
          (ap (λ z. pl.Scan z x b) t.1 ∙ ap (λ z. pl.Scan a' z b) (inside_is x y o.1 (four_is x.item y.item (format_is x.item.0 y.item.0 i.0 i.1) j.1 k.1 g.0) l.1) ∙ ap (pl.Scan a' y) n.1, n.2),
    )

two_sync : (a : Place) (x : Inside (Place × Reference made.Expr)) (b : Place) → FitsPlain (pl.Sync a x b) → (r s : List Token) → (a' : Place) (y : Inside (Place × Reference made.Expr)) (b' : Place) → SamePlain (pl.Sync a x b) r s (pl.Sync a' y b')
two_sync a x b F r s a' y b' G e =
    let c = same_reference x.item.1 y.item.1 F G (t.Mark m.CloseParen at x.close ∷ t.Mark m.Semicolon at b ∷ r) (t.Mark m.CloseParen at y.close ∷ t.Mark m.Semicolon at b' ∷ s) (refl, refl, refl, refl) (refl, refl, refl, refl) (cc) in (
      λ q. ap (λ z. token (t.Word w.SyncAll) ▸ token (t.Mark m.OpenParen) ▸ token (t.Mark m.And) ▸ z) (c.0 (token (t.Mark m.CloseParen) ▸ token (t.Mark m.Semicolon) ▸ q)),
      (let z = c.1 in cc),
      λ h. let t = apart h in let o = apart t.2 in let i = apart o.2 in let g = c.2 i.2 in let l = apart g.1 in let n = apart l.2 in
          (ap (λ z. pl.Sync z x b) t.1 ∙ ap (λ z. pl.Sync a' z b) (inside_is x y o.1 (pair_is x.item y.item i.1 g.0) l.1) ∙ ap (pl.Sync a' y) n.1, n.2),
    )

two_reflect : (l : DirectiveLine) (ns : Inside (CommaList Name)) → FitsPlain (pl.Reflect l ns) → (r s : List Token) → (l' : DirectiveLine) (ms : Inside (CommaList Name)) → SamePlain (pl.Reflect l ns) r s (pl.Reflect l' ms)
two_reflect l ns F r s l' ms G e =
    let c = same_names ns.item ms.item (t.Mark m.CloseParen at ns.close ∷ t.Close at l.end ∷ r) (t.Mark m.CloseParen at ms.close ∷ t.Close at l'.end ∷ s) refl refl (cc) in (
      λ q. ap (λ z. token t.Pragma ▸ token (t.Name (codes "reflect")) ▸ token (t.Mark m.OpenParen) ▸ z) (c.0 (token (t.Mark m.CloseParen) ▸ token t.Close ▸ q)),
      (let z = c.1 in cc),
      λ h. let t = apart h in let o = apart t.2 in let i = apart o.2 in let g = c.2 i.2 in let j = apart g.1 in let n = apart j.2 in
          (ap (λ z. pl.Reflect z ns) (line_is l l' t.1 o.1 n.1) ∙ ap (pl.Reflect l') (inside_is ns ms i.1 g.0 j.1), n.2),
    )

two_barrier : (l : DirectiveLine) → FitsPlain (pl.Barrier l) → (r s : List Token) → (l' : DirectiveLine) → SamePlain (pl.Barrier l) r s (pl.Barrier l')
two_barrier l F r s l' G e = (λ q. refl, cc, λ h. let t = apart h in let o = apart t.2 in let n = apart o.2 in (ap pl.Barrier (line_is l l' t.1 o.1 n.1), n.2))

two_bcast : (l : DirectiveLine) (ns : Inside (CommaList Name)) (a : Place) (x : NodesSet) → FitsPlain (pl.Bcast l ns a x) → (r s : List Token) → (l' : DirectiveLine) (ms : Inside (CommaList Name)) (b : Place) (y : NodesSet) → SamePlain (pl.Bcast l ns a x) r s (pl.Bcast l' ms b y)
two_bcast l ns a x F r s l' ms b y G e =
    let u : List Token = t.Name (codes "from") at a ∷ nodes_set x (t.Close at l.end ∷ r) in
    let v : List Token = t.Name (codes "from") at b ∷ nodes_set y (t.Close at l'.end ∷ s) in
    let c = same_names ns.item ms.item (t.Mark m.CloseParen at ns.close ∷ u) (t.Mark m.CloseParen at ms.close ∷ v) refl refl (cc) in
    let d = same_set x y F G (t.Close at l.end ∷ r) (t.Close at l'.end ∷ s) refl refl refl refl (let z = c.1 in cc) in (
      λ q. ap (λ z. token t.Pragma ▸ token (t.Name (codes "bcast")) ▸ token (t.Mark m.OpenParen) ▸ z)
          (c.0 (token (t.Mark m.CloseParen) ▸ token (t.Name (codes "from")) ▸ sh.nodes_set x (token t.Close ▸ q)) ∙ ap (λ z. sh.names ms.item (token (t.Mark m.CloseParen) ▸ token (t.Name (codes "from")) ▸ z)) (d.0 (token t.Close ▸ q))),
      (let z = d.1 in cc),
      λ h. let t = apart h in let o = apart t.2 in let i = apart o.2 in let g = c.2 i.2 in let j = apart g.1 in let k = apart j.2 in let f = d.2 k.2 in let n = apart f.1 in
          (ap (λ z. pl.Bcast z ns a x) (line_is l l' t.1 o.1 n.1) ∙ ap (λ z. pl.Bcast l' z a x) (inside_is ns ms i.1 g.0 j.1) ∙ ap (λ z. pl.Bcast l' ms z x) k.1 ∙ ap (pl.Bcast l' ms b) f.0, n.2),
    )

two_gmove : (l : DirectiveLine) (a : Sections) (b : Place) (x : Sections) (z : Place) → FitsPlain (pl.Gmove l a b x z) → (r s : List Token) → (l' : DirectiveLine) (a' : Sections) (b' : Place) (x' : Sections) (z' : Place) → SamePlain (pl.Gmove l a b x z) r s (pl.Gmove l' a' b' x' z')
two_gmove l a b x z F r s l' a' b' x' z' G e =
    let u : List Token = sections x (t.Mark m.Semicolon at z ∷ r) in
    let v : List Token = sections x' (t.Mark m.Semicolon at z' ∷ s) in
    let c = same_sections a a' F.0 G.0 (t.Mark m.Assign at b ∷ u) (t.Mark m.Assign at b' ∷ v) refl refl (cc) in
    let d = same_sections x x' F.1 G.1 (t.Mark m.Semicolon at z ∷ r) (t.Mark m.Semicolon at z' ∷ s) refl refl (let j = c.1 in cc) in (
      λ q. ap (λ j. token t.Pragma ▸ token (t.Name (codes "gmove")) ▸ token t.Close ▸ j)
          (c.0 (token (t.Mark m.Assign) ▸ sh.sections x (token (t.Mark m.Semicolon) ▸ q)) ∙ ap (λ j. sh.sections a' (token (t.Mark m.Assign) ▸ j)) (d.0 (token (t.Mark m.Semicolon) ▸ q))),
      (let j = d.1 in cc),
      λ h. let t = apart h in let o = apart t.2 in let i = apart o.2 in let g = c.2 i.2 in let j = apart g.1 in let f = d.2 j.2 in let n = apart f.1 in
          (ap (λ v. pl.Gmove v a b x z) (line_is l l' t.1 o.1 i.1) ∙ ap (λ v. pl.Gmove l' v b x z) g.0 ∙ ap (λ v. pl.Gmove l' a' v x z) j.1 ∙ ap (λ v. pl.Gmove l' a' b' v z) f.0 ∙ ap (pl.Gmove l' a' b' x') n.1, n.2),
    )

of_part : (x : Plain) → FitsPlain x → (r s : List Token) → (y : Plain) → plain_part y ≡ plain_part x → SamePlain x r s y
of_part (pl.Empty a) F r s y h = empty_only (SamePlain (pl.Empty a) r s) (two_empty a F r s) y h
of_part (pl.Simple x a) F r s y h = simple_only (SamePlain (pl.Simple x a) r s) (two_simple x a F r s) y h
of_part (pl.Return a v b) F r s y h = return_only (SamePlain (pl.Return a v b) r s) (two_return a v b F r s) y h
of_part (pl.Print a x b) F r s y h = print_only (SamePlain (pl.Print a x b) r s) (two_print a x b F r s) y h
of_part (pl.Scan a x b) F r s y h = scan_only (SamePlain (pl.Scan a x b) r s) (two_scan a x b F r s) y h
of_part (pl.Sync a x b) F r s y h = sync_only (SamePlain (pl.Sync a x b) r s) (two_sync a x b F r s) y h
of_part (pl.Reflect l ns) F r s y h = reflect_only (SamePlain (pl.Reflect l ns) r s) (two_reflect l ns F r s) y h
of_part (pl.Barrier l) F r s y h = barrier_only (SamePlain (pl.Barrier l) r s) (two_barrier l F r s) y h
of_part (pl.Bcast l ns a x) F r s y h = bcast_only (SamePlain (pl.Bcast l ns a x) r s) (two_bcast l ns a x F r s) y h
of_part (pl.Gmove l a b x c) F r s y h = gmove_only (SamePlain (pl.Gmove l a b x c) r s) (two_gmove l a b x c F r s) y h

one_part : (x y : Plain) → FitsPlain x → FitsPlain y → (r s : List Token) → kinds (spell_plain x r) ≡ kinds (spell_plain y s) → plain_part y ≡ plain_part x
one_part x y F G r s e = sym (plain_class y G s) ∙ ap class (sym e) ∙ plain_class x F r

pub same_plain : (x y : Plain) → FitsPlain x → FitsPlain y → (r s : List Token) → kinds (spell_plain x r) ≡ kinds (spell_plain y s) → Alike spell_plain sh.plain_shape x y r s
same_plain x y F G r s e = of_part x F r s y (one_part x y F G r s e) G e
