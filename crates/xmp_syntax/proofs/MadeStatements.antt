-- What the rules of statements and of the lines among them spell fits.
use Rattle.std.proofs.Common.{◌≡◌, true, false, List, ◌∷◌, inl, inr, sym, ap, ◌∙◌, subst}
use Rattle.xmp_base.specs.declared.place.Place.{Place}
use Rattle.xmp_lex.specs.declared.token.Token.{Token}
use Rattle.xmp_lex.specs.declared.token.TokenKind.TheVariants as t
use Rattle.xmp_lex.specs.declared.token.Mark.TheVariants as m
use Rattle.xmp_lex.specs.declared.token.Reserved.TheVariants as w
use Rattle.xmp_syntax.specs.declared.parts.Format.{Format}
use Rattle.xmp_syntax.specs.declared.statement.Simple.TheVariants as si
use Rattle.xmp_syntax.specs.declared.statement.Plain.{Plain}
use Rattle.xmp_syntax.specs.declared.statement.Plain.TheVariants as pl
use Rattle.xmp_syntax.specs.declared.statement.Stmt as made_stmt
use Rattle.xmp_syntax.specs.declared.statement.Stmt.TheVariants as s
use Rattle.xmp_syntax.specs.Parts.{Part}
use Rattle.xmp_syntax.specs.Parts as p
use Rattle.xmp_syntax.specs.Reading.{plain, tok, part, ◌·◌, many}
use Rattle.xmp_syntax.specs.Grammar as g
use Rattle.xmp_syntax.specs.Grammar.{rule, is_mark, is_word, is_spelled, is_pragma, is_step, is_step_mark, is_assign, is_text, same_text, mapping_named, mapping_of, directive_named, directive_of, line_of, statement_of, item_of}
use Rattle.xmp_syntax.specs.Trees as tr
use Rattle.xmp_syntax.specs.Trees.{Stmt}
use Rattle.xmp_syntax.specs.View.{ref_view, rest_view, stmt_view}
use Rattle.xmp_syntax.specs.Seen.{seen_plain}
use Rattle.xmp_syntax.specs.Spell.{◌at◌, expr, name, spell_ref, spell_rest, spell_simple, spell_plain, spell_stmt}
use Rattle.xmp_syntax.specs.Fits.{FitsExpr, FitsPlain, FitsStmt, takes_else}
use Rattle.xmp_syntax.proofs.Done.{Not}
use Rattle.xmp_syntax.proofs.TokenKinds.{pragma_token, step_token, assign_token, text_token}
use Rattle.xmp_syntax.proofs.MadeParts.{Made, Statement}
use Rattle.xmp_syntax.proofs.MadeExprs.{Says, marked, worded, named, wrapped, more_made, reference_made, rest_fits, rest_text}

-- a statement by its view
pub stmt_is : (x : made_stmt.Stmt) (v : Stmt) → stmt_view x ≡ v → FitsStmt v → (ts rest : List Token) → (takes_else v ≡ true → Not (is_word w.Else) rest) → ts ≡ spell_stmt v rest → Statement ts rest
stmt_is x v h F ts rest q e =
    (x, subst (λ (z : Stmt). FitsStmt z) (sym h) F, (λ k. q (ap takes_else (sym h) ∙ k)), e ∙ ap (λ (z : Stmt). spell_stmt z rest) (sym h))

pub never : (rest : List Token) → false ≡ true → Not (is_word w.Else) rest
never rest h = cc

pub plain_is : (x : Plain) → FitsPlain x → (ts rest : List Token) → ts ≡ spell_plain x rest → Statement ts rest
plain_is x F ts rest e = stmt_is (s.Plain x) (tr.plain x) (seen_plain x) F ts rest (never rest) e

pub pragma : (ts rest : List Token) → Says (tok plain is_pragma) ts rest → (q : Place) × (ts ≡ t.Pragma at q ∷ rest)
pragma ts rest k = (k.0.at, k.2 ∙ ap (λ y. y ∷ rest) (pragma_token k.0 k.1))

-- Simple statements.
pub empty_made : (ts rest : List Token) → Says (rule p.empty) ts rest → Statement ts rest
empty_made ts rest k = let q = marked m.Semicolon ts rest k in plain_is (pl.Empty q.0) tt ts rest q.1

pub simple_made : (ts rest : List Token) → Says (rule p.simple) ts rest → Made p.simple ts rest
simple_made ts rest k = elim k as (λ _. Made p.simple ts rest) [
  | inl a ↦
      let o = step_token a.1.0 a.1.1 in
      let x = a.2 in
      (si.Prefix (record { what = o.0; at = a.1.0.at }) x.0, (o.1, x.1), a.1.2 ∙ ap (λ y. y ∷ a.0) o.2 ∙ ap (λ l. t.Mark o.0 at a.1.0.at ∷ l) x.2)
  | inr c ↦ elim c.1.2 as (λ _. Made p.simple ts rest) [
    | inl a ↦ (let n = named ts c.1.0 c.1.1 in (si.Call (record { name = n.0; arguments = a.0 }), a.1, n.1 ∙ ap (name n.0) a.2))
    | inr d ↦ elim d.1.2.2 as (λ _. Made p.simple ts rest) [
      | inl a ↦
          let n = named ts c.1.0 c.1.1 in
          let x = reference_made false n.0 ts c.1.0 d.1.0 d.1.2.0 n.1 d.1.1 d.1.2.1 in
          let o = step_token a.0 a.1 in
          (si.Postfix x.0 (record { what = o.0; at = a.0.at }), (x.1, o.1), x.2 ∙ ap (spell_ref (ref_view x.0)) (a.2 ∙ ap (λ y. y ∷ rest) o.2))
      | inr a ↦
          let n = named ts c.1.0 c.1.1 in
          let x = reference_made false n.0 ts c.1.0 d.1.0 d.1.2.0 n.1 d.1.1 d.1.2.1 in
          let o = assign_token a.1.1.0 a.1.1.1 in
          let v = a.1.2 in (
            si.Assign x.0 (record { what = o.0; at = a.1.1.0.at }) v.0,
            (x.1, o.1, v.1),
            x.2 ∙ ap (spell_ref (ref_view x.0)) (a.1.1.2 ∙ ap (λ y. y ∷ a.1.0) o.2 ∙ ap (λ l. t.Mark o.0 at a.1.1.0.at ∷ l) v.2),
          )
    ]
  ]
]

pub simple_statement_made : (ts rest : List Token) → Says (rule p.simple_statement) ts rest → Statement ts rest
simple_statement_made ts rest k =
    let q = marked m.Semicolon k.0 rest k.2 in
    let x = k.1 in
    plain_is (pl.Simple x.0 q.0) x.1 ts rest (x.2 ∙ ap (spell_simple x.0) q.1)

pub return_made : (ts rest : List Token) → Says (rule p.return_statement) ts rest → Statement ts rest
return_made ts rest k =
    let a = worded w.Return ts k.0 k.1 in
    let x = k.2.1 in
    let q = marked m.Semicolon k.2.0 rest k.2.2 in
    plain_is (pl.Return a.0 x.0 q.0) x.1 ts rest (a.1 ∙ ap (λ l. t.Word w.Return at a.0 ∷ l) (x.2 ∙ ap (expr x.0) q.1))

format : (ts rest : List Token) → Says (tok plain is_text) ts rest → (n : Format) × (ts ≡ t.Text n.text at n.at ∷ rest)
format ts rest k = let n = text_token k.0 k.1 in (record { text = n.0; at = k.0.at }, k.2 ∙ ap (λ y. y ∷ rest) n.1)

pub print_made : (ts rest : List Token) → Says (rule p.print_statement) ts rest → Statement ts rest
print_made ts rest k =
    let a = worded w.Printf ts k.0 k.1 in
    let v = wrapped m.OpenParen m.CloseParen (tok plain is_text · many (is_mark m.Comma) (g.comma · g.expr)) k.0 k.2.0 k.2.1 in
    let n = format v.2 v.4.0 v.4.1 in
    let x = more_made expr FitsExpr g.expr (λ ts rest k. k) v.4.0 (t.Mark m.CloseParen at v.1 ∷ k.2.0) v.4.2 in
    let q = marked m.Semicolon k.2.0 rest k.2.2 in
    plain_is (pl.Print a.0 (record { «open» = v.0; item = (n.0, x.0); close = v.1 }) q.0) (rest_fits x.0 x.1) ts rest
    (a.1 ∙ ap (λ l. t.Word w.Printf at a.0 ∷ l) (v.3 ∙ ap (λ l. t.Mark m.OpenParen at v.0 ∷ l) (n.1 ∙ ap (λ l. t.Text n.0.text at n.0.at ∷ l)
    (x.2 ∙ rest_text x.0 (t.Mark m.CloseParen at v.1 ∷ k.2.0) ∙ ap (λ l. spell_rest (rest_view x.0) (t.Mark m.CloseParen at v.1 ∷ l)) q.1))))

pub scan_made : (ts rest : List Token) → Says (rule p.scan_statement) ts rest → Statement ts rest
scan_made ts rest k =
    let a = worded w.Scanf ts k.0 k.1 in
    let v = wrapped m.OpenParen m.CloseParen (tok plain is_text · g.comma · g.sign m.And · part (p.reference false)) k.0 k.2.0 k.2.1 in
    let n = format v.2 v.4.0 v.4.1 in
    let c = marked m.Comma v.4.0 v.4.2.0 v.4.2.1 in
    let d = marked m.And v.4.2.0 v.4.2.2.0 v.4.2.2.1 in
    let x = v.4.2.2.2 in
    let q = marked m.Semicolon k.2.0 rest k.2.2 in
    plain_is (pl.Scan a.0 (record { «open» = v.0; item = (n.0, c.0, d.0, x.0); close = v.1 }) q.0) x.1 ts rest
    (a.1 ∙ ap (λ l. t.Word w.Scanf at a.0 ∷ l) (v.3 ∙ ap (λ l. t.Mark m.OpenParen at v.0 ∷ l) (n.1 ∙ ap (λ l. t.Text n.0.text at n.0.at ∷ l)
    (c.1 ∙ ap (λ l. t.Mark m.Comma at c.0 ∷ l) (d.1 ∙ ap (λ l. t.Mark m.And at d.0 ∷ l) (x.2 ∙ ap (λ l. spell_ref (ref_view x.0) (t.Mark m.CloseParen at v.1 ∷ l)) q.1))))))

pub sync_made : (ts rest : List Token) → Says (rule p.sync_statement) ts rest → Statement ts rest
sync_made ts rest k =
    let a = worded w.SyncAll ts k.0 k.1 in
    let v = wrapped m.OpenParen m.CloseParen (g.sign m.And · part (p.reference false)) k.0 k.2.0 k.2.1 in
    let d = marked m.And v.2 v.4.0 v.4.1 in
    let x = v.4.2 in
    let q = marked m.Semicolon k.2.0 rest k.2.2 in
    plain_is (pl.Sync a.0 (record { «open» = v.0; item = (d.0, x.0); close = v.1 }) q.0) x.1 ts rest
    (a.1 ∙ ap (λ l. t.Word w.SyncAll at a.0 ∷ l) (v.3 ∙ ap (λ l. t.Mark m.OpenParen at v.0 ∷ l) (d.1 ∙ ap (λ l. t.Mark m.And at d.0 ∷ l) (x.2 ∙ ap (λ l. spell_ref (ref_view x.0) (t.Mark m.CloseParen at v.1 ∷ l)) q.1))))
