-- What the rules of statements with statements inside, of blocks and of directives spell fits.
use Rattle.std.proofs.Common.{◌≡◌, ℕ, Bool, true, false, not, List, [], ◌∷◌, inl, inr, refl, sym, ap, ◌∙◌, subst}
use Rattle.std.specs.Prelude.{Option, None, Some, codes}
use Rattle.xmp_base.specs.declared.place.Place.{Place}
use Rattle.xmp_lex.specs.declared.token.Token.{Token}
use Rattle.xmp_lex.specs.declared.token.TokenKind.{TokenKind}
use Rattle.xmp_lex.specs.declared.token.TokenKind.TheVariants as t
use Rattle.xmp_lex.specs.declared.token.Mark.TheVariants as m
use Rattle.xmp_lex.specs.declared.token.Reserved.TheVariants as w
use Rattle.xmp_syntax.specs.declared.directive.Reduction.{Reduction}
use Rattle.xmp_syntax.specs.declared.directive.LoopLine.{LoopLine}
use Rattle.xmp_syntax.specs.declared.directive.TaskLine.{TaskLine}
use Rattle.xmp_syntax.specs.declared.directive.DirectiveLine.{DirectiveLine}
use Rattle.xmp_syntax.specs.declared.statement.ForFirst.TheVariants as ff
use Rattle.xmp_syntax.specs.declared.statement.Plain.TheVariants as pl
use Rattle.xmp_syntax.specs.declared.statement.BlockItem.{BlockItem}
use Rattle.xmp_syntax.specs.declared.statement.BlockItem.TheVariants as b
use Rattle.xmp_syntax.specs.declared.statement.Stmt as made_stmt
use Rattle.xmp_syntax.specs.declared.statement.Stmt.TheVariants as s
use Rattle.xmp_syntax.specs.Parts.{Part}
use Rattle.xmp_syntax.specs.Parts as p
use Rattle.xmp_syntax.specs.Reading.{Test, plain, Rule, tok, part, ◌·◌, many}
use Rattle.xmp_syntax.specs.Grammar as g
use Rattle.xmp_syntax.specs.Grammar.{rule, is_mark, is_word, is_spelled, is_pragma, is_step, is_step_mark, is_assign, is_text, same_text, mapping_named, mapping_of, directive_named, directive_of, line_of, statement_of, item_of}
use Rattle.xmp_syntax.specs.Trees as tr
use Rattle.xmp_syntax.specs.Trees.{Stmt}
use Rattle.xmp_syntax.specs.View.{ref_view, stmt_view, items_view, tasks_view}
use Rattle.xmp_syntax.specs.Seen.{seen_if, seen_else, seen_while, seen_for, seen_loop, seen_task, seen_tasks, seen_block}
use Rattle.xmp_syntax.specs.Spell.{◌at◌, expr, name, names, each, optional, in_parens, several, point, sections, nodes_set, reduction, spell_ref, spell_mapping, spell_declaration, spell_simple, for_first, for_head, task_line, spell_stmt, spell_items, spell_tasks}
use Rattle.xmp_syntax.specs.Fits.{FitsExpr, Each, If, FitsReduction, FitsMapping, FitsDeclaration, FitsSimple, FitsFirst, FitsHead, FitsItems, FitsTasks, takes_else}
use Rattle.xmp_syntax.proofs.Done.{Not}
use Rattle.xmp_syntax.proofs.Made.{Many, stop, more}
use Rattle.xmp_syntax.proofs.MadeParts.{Made, Of, Statement, StatementLine, MappingLine, Block, Item, For, Task, Fitting}
use Rattle.xmp_syntax.proofs.MadeExprs.{Says, marked, worded, spelled, closed, named, wrapped}
use Rattle.xmp_syntax.proofs.MadeLines.{points_made, one_of}
use Rattle.xmp_syntax.proofs.MadeStatements.{stmt_is, plain_is, never, pragma}

counted : (r : Rule) (ts rest : List Token) → Says (g.counted r) ts rest → Says r ts rest
counted r ts rest k = subst (λ (l : List Token). Says r l rest) (sym k.1) (subst (λ (l : List Token). Says r k.0 l) k.2.2 k.2.1)

module _ {A : Type 0} (f : A → List Token → List Token) (P : A → Type 0) (q : Test) (r : Rule) (item : (ts rest : List Token) → Says r ts rest → Of f P ts rest) where
  optional_made : (ts rest : List Token) → Says (g.optional q r) ts rest → (x : Option A) × If P x × (ts ≡ optional f x rest)
  optional_made ts rest k = elim k as (λ _. (x : Option A) × If P x × (ts ≡ optional f x rest)) [
    | inl a ↦ (let x = item ts rest a in (Some x.0, x.1, x.2))
    | inr b ↦ (None, tt, b.1)
  ]

condition : (ts rest : List Token) → Says (g.parens g.expr) ts rest → Of (in_parens expr) (λ x. FitsExpr x.item) ts rest
condition ts rest k =
    let v = wrapped m.OpenParen m.CloseParen g.expr ts rest k in
    let x = v.4 in
    (record { «open» = v.0; item = x.0; close = v.1 }, x.1, v.3 ∙ ap (λ l. t.Mark m.OpenParen at v.0 ∷ l) x.2)

-- Statements with statements inside.
pub while_made : (ts rest : List Token) → Says (rule p.while_statement) ts rest → Statement ts rest
while_made ts rest c =
    let k = counted (g.word w.While · g.parens g.expr · part p.statement) ts rest c in
    let a = worded w.While ts k.0 k.1 in
    let e = condition k.0 k.2.0 k.2.1 in
    let x = k.2.2 in
    stmt_is (s.While a.0 e.0 x.0) (tr.while_do a.0 e.0 (stmt_view x.0)) (seen_while a.0 e.0 x.0) (e.1, x.1) ts rest x.2 (a.1 ∙ ap (λ l. t.Word w.While at a.0 ∷ l) (e.2 ∙ ap (in_parens expr e.0) x.3))

no_else : (v : Bool) (q : Place) (us mid : List Token) → (v ≡ true → Not (is_word w.Else) mid) → mid ≡ t.Word w.Else at q ∷ us → v ≡ false
no_else true q us mid h e = let z : is_word w.Else (t.Word w.Else) ≡ false = subst (λ (l : List Token). Not (is_word w.Else) l) e (h refl) in cc
no_else false q us mid h e = refl

pub if_made : (ts rest : List Token) → Says (rule p.if_statement) ts rest → Statement ts rest
if_made ts rest c =
    let k = counted (g.word w.If · g.parens g.expr · part p.statement) ts c.0 c.1 in
    let a = worded w.If ts k.0 k.1 in
    let e = condition k.0 k.2.0 k.2.1 in
    let x = k.2.2 in
    elim c.2 as (λ _. Statement ts rest) [
      | inl d ↦
          let j = counted (g.word w.Else · part p.statement) c.0 rest d in
          let q = worded w.Else c.0 j.0 j.1 in
          let y = j.2 in
          stmt_is (s.If a.0 e.0 x.0 (Some (q.0, y.0))) (tr.if_else a.0 e.0 (stmt_view x.0) q.0 (stmt_view y.0)) (seen_else a.0 e.0 x.0 q.0 y.0)
          (e.1, x.1, no_else (takes_else (stmt_view x.0)) q.0 j.0 c.0 x.2 q.1, y.1) ts rest y.2
          (a.1 ∙ ap (λ l. t.Word w.If at a.0 ∷ l) (e.2 ∙ ap (in_parens expr e.0) (x.3 ∙ ap (spell_stmt (stmt_view x.0)) (q.1 ∙ ap (λ l. t.Word w.Else at q.0 ∷ l) y.3))))
      | inr d ↦
          stmt_is (s.If a.0 e.0 x.0 None) (tr.if_then a.0 e.0 (stmt_view x.0)) (seen_if a.0 e.0 x.0) (e.1, x.1) ts rest (λ h. subst (λ (l : List Token). Not (is_word w.Else) l) d.1 d.0)
          (a.1 ∙ ap (λ l. t.Word w.If at a.0 ∷ l) (e.2 ∙ ap (in_parens expr e.0) (x.3 ∙ ap (spell_stmt (stmt_view x.0)) d.1)))
    ]

pub first_made : (ts rest : List Token) → Says (rule p.for_first) ts rest → Made p.for_first ts rest
first_made ts rest k = elim k.1 as (λ _. Made p.for_first ts rest) [
  | inl a ↦
      let i = worded w.Int ts a.0 a.1 in
      let n = named a.0 k.0 a.2 in
      let q = marked m.Assign k.0 k.2.0 k.2.1 in
      let v = k.2.2 in
      (ff.Declare i.0 n.0 q.0 v.0, v.1, i.1 ∙ ap (λ l. t.Word w.Int at i.0 ∷ l) (n.1 ∙ ap (name n.0) (q.1 ∙ ap (λ l. t.Mark m.Assign at q.0 ∷ l) v.2)))
  | inr b ↦
      let x = b.1 in
      let q = marked m.Assign k.0 k.2.0 k.2.1 in
      let v = k.2.2 in
      (ff.Assign x.0 q.0 v.0, (x.1, v.1), x.2 ∙ ap (spell_ref (ref_view x.0)) (q.1 ∙ ap (λ l. t.Mark m.Assign at q.0 ∷ l) v.2))
]

abbrev no_semicolon : Test
no_semicolon k = not (is_mark m.Semicolon k)

abbrev no_close : Test
no_close k = not (is_mark m.CloseParen k)

abbrev head_rule : Rule
head_rule = g.optional no_semicolon (part p.for_first) · g.semicolon · g.optional no_semicolon g.expr · g.semicolon · g.optional no_close (part p.simple)

head_made : (a : Place) (ts mid rest : List Token) → ts ≡ t.Word w.For at a ∷ mid → Says (g.parens head_rule) mid rest → Of for_head FitsHead ts rest
head_made a ts mid rest h k =
    let v = wrapped m.OpenParen m.CloseParen head_rule mid rest k in
    let u = v.4 in
    let x = optional_made for_first FitsFirst no_semicolon (part p.for_first) (λ ts rest k. k) v.2 u.0 u.1 in
    let c = marked m.Semicolon u.0 u.2.0 u.2.1 in
    let y = optional_made expr FitsExpr no_semicolon g.expr (λ ts rest k. k) u.2.0 u.2.2.0 u.2.2.1 in
    let d = marked m.Semicolon u.2.2.0 u.2.2.2.0 u.2.2.2.1 in
    let z = optional_made spell_simple FitsSimple no_close (part p.simple) (λ ts rest k. k) u.2.2.2.0 (t.Mark m.CloseParen at v.1 ∷ rest) u.2.2.2.2 in (
      record { word = a; «open» = v.0; first = x.0; first_end = c.0; test = y.0; test_end = d.0; next = z.0; close = v.1 },
      (x.1, y.1, z.1),
      h ∙ ap (λ l. t.Word w.For at a ∷ l) (v.3 ∙ ap (λ l. t.Mark m.OpenParen at v.0 ∷ l) (x.2 ∙ ap (optional for_first x.0) (c.1 ∙ ap (λ l. t.Mark m.Semicolon at c.0 ∷ l)
          (y.2 ∙ ap (optional expr y.0) (d.1 ∙ ap (λ l. t.Mark m.Semicolon at d.0 ∷ l) z.2))))),
    )

pub for_made : (ts rest : List Token) → Says (rule p.for_statement) ts rest → For ts rest
for_made ts rest c =
    let k = counted (g.word w.For · g.parens head_rule · part p.statement) ts rest c in
    let a = worded w.For ts k.0 k.1 in
    let h = head_made a.0 ts k.0 k.2.0 a.1 k.2.1 in
    let x = k.2.2 in
    (h.0, x.0, h.1, x.1, x.2, h.2 ∙ ap (for_head h.0) x.3)

for_stmt : (ts rest : List Token) → For ts rest → Statement ts rest
for_stmt ts rest f = stmt_is (s.For f.0 f.1) (tr.for_do f.0 (stmt_view f.1)) (seen_for f.0 f.1) (f.2, f.3) ts rest f.4 f.5

-- Blocks.
items_made : (ts rest : List Token) → Many (Says (part p.block_item)) ts rest → (xs : List (BlockItem made_stmt.Stmt)) × FitsItems (items_view xs) × (ts ≡ spell_items (items_view xs) rest)
items_made ts rest (stop _) = ([], tt, refl)
items_made ts rest (more _ mid _ i k) = let b = items_made mid rest k in (i.0 ∷ b.0, i.1 b.0 b.1, i.2 b.0 rest b.2)

pub block_made : (ts rest : List Token) → Says (rule p.block) ts rest → Block ts rest
block_made ts rest k =
    let v = wrapped m.OpenBrace m.CloseBrace (many (λ k. not (is_mark m.CloseBrace k)) (part p.block_item)) ts rest k in
    let x = items_made v.2 (t.Mark m.CloseBrace at v.1 ∷ rest) v.4 in
    (record { «open» = v.0; item = x.0; close = v.1 }, x.1, v.3 ∙ ap (λ l. t.Mark m.OpenBrace at v.0 ∷ l) x.2)

block_stmt : (ts rest : List Token) → Block ts rest → Statement ts rest
block_stmt ts rest x =
    stmt_is (s.Block (record { «open» = x.0.open; item = x.0.item; close = x.0.close })) (tr.block x.0.open (items_view x.0.item) x.0.close) (seen_block x.0.open x.0.item x.0.close) x.1 ts rest (never rest) x.2

pub statement_any : (k : TokenKind) (ts rest : List Token) → Made (statement_of k) ts rest → Statement ts rest
statement_any (t.Mark m.OpenBrace) ts rest x = block_stmt ts rest x
statement_any (t.Mark m.Semicolon) ts rest x = x
statement_any (t.Mark m.Increment) ts rest x = x
statement_any (t.Mark m.Decrement) ts rest x = x
statement_any (t.Name n) ts rest x = x
statement_any (t.Word w.Return) ts rest x = x
statement_any (t.Word w.If) ts rest x = x
statement_any (t.Word w.While) ts rest x = x
statement_any (t.Word w.For) ts rest x = for_stmt ts rest x
statement_any (t.Word w.Printf) ts rest x = x
statement_any (t.Word w.Scanf) ts rest x = x
statement_any (t.Word w.SyncAll) ts rest x = x
statement_any t.Pragma ts rest x = x
statement_any _ ts rest x = absurd x

pub statement_item : (ts rest : List Token) → Statement ts rest → Item ts rest
statement_item ts rest x = (b.Stmt x.0, (λ xs F. (x.1, F)), (λ xs r e. x.3 ∙ ap (spell_stmt (stmt_view x.0)) e))

mapping_item : (ts rest : List Token) → Of spell_mapping FitsMapping ts rest → Item ts rest
mapping_item ts rest x = (b.Mapping x.0, (λ xs F. (x.1, F)), (λ xs r e. x.2 ∙ ap (spell_mapping x.0) e))

declaration_item : (ts rest : List Token) → Of spell_declaration FitsDeclaration ts rest → Item ts rest
declaration_item ts rest x = (b.Declaration x.0, (λ xs F. (x.1, F)), (λ xs r e. x.2 ∙ ap (spell_declaration x.0) e))

pub item_any : (k : TokenKind) (ts rest : List Token) → Made (item_of k) ts rest → Item ts rest
item_any (t.Word w.Int) ts rest x = declaration_item ts rest x
item_any (t.Word w.Long) ts rest x = declaration_item ts rest x
item_any t.Pragma ts rest x = x
item_any k ts rest x = statement_item ts rest (statement_any k ts rest x)

-- Lines.
pub reflect_made : (ts rest : List Token) → Says (rule p.reflect) ts rest → StatementLine ts rest
reflect_made ts rest k = λ q.
    let a = spelled (codes "reflect") ts k.0 k.1 in
    let v = wrapped m.OpenParen m.CloseParen (part p.names) k.0 k.2.0 k.2.1 in
    let z = closed k.2.0 rest k.2.2 in
    plain_is (pl.Reflect (record { start = q; word = a.0; end = z.0 }) (record { «open» = v.0; item = v.4.0; close = v.1 })) tt (t.Pragma at q ∷ ts) rest
    (ap (λ l. t.Pragma at q ∷ l) (a.1 ∙ ap (λ l. t.Name (codes "reflect") at a.0 ∷ l) (v.3 ∙ ap (λ l. t.Mark m.OpenParen at v.0 ∷ l) (v.4.1 ∙ ap (λ l. names v.4.0 (t.Mark m.CloseParen at v.1 ∷ l)) z.1))))

pub barrier_made : (ts rest : List Token) → Says (rule p.barrier) ts rest → StatementLine ts rest
barrier_made ts rest k = λ q.
    let a = spelled (codes "barrier") ts k.0 k.1 in
    let z = closed k.0 rest k.2 in
    plain_is (pl.Barrier (record { start = q; word = a.0; end = z.0 })) tt (t.Pragma at q ∷ ts) rest (ap (λ l. t.Pragma at q ∷ l) (a.1 ∙ ap (λ l. t.Name (codes "barrier") at a.0 ∷ l) z.1))

pub bcast_made : (ts rest : List Token) → Says (rule p.bcast) ts rest → StatementLine ts rest
bcast_made ts rest k = λ q.
    let a = spelled (codes "bcast") ts k.0 k.1 in
    let v = wrapped m.OpenParen m.CloseParen (part p.names) k.0 k.2.0 k.2.1 in
    let f = spelled (codes "from") k.2.0 k.2.2.0 k.2.2.1 in
    let x = k.2.2.2.1 in
    let z = closed k.2.2.2.0 rest k.2.2.2.2 in
    plain_is (pl.Bcast (record { start = q; word = a.0; end = z.0 }) (record { «open» = v.0; item = v.4.0; close = v.1 }) f.0 x.0) x.1 (t.Pragma at q ∷ ts) rest
    (ap (λ l. t.Pragma at q ∷ l) (a.1 ∙ ap (λ l. t.Name (codes "bcast") at a.0 ∷ l) (v.3 ∙ ap (λ l. t.Mark m.OpenParen at v.0 ∷ l)
    (v.4.1 ∙ ap (λ l. names v.4.0 (t.Mark m.CloseParen at v.1 ∷ l)) (f.1 ∙ ap (λ l. t.Name (codes "from") at f.0 ∷ l) (x.2 ∙ ap (nodes_set x.0) z.1))))))

pub gmove_made : (ts rest : List Token) → Says (rule p.gmove) ts rest → StatementLine ts rest
gmove_made ts rest k = λ q.
    let a = spelled (codes "gmove") ts k.0 k.1 in
    let z = closed k.0 k.2.0 k.2.1 in
    let j = k.2.2 in
    let x = j.1 in
    let e = marked m.Assign j.0 j.2.0 j.2.1 in
    let y = j.2.2.1 in
    let c = marked m.Semicolon j.2.2.0 rest j.2.2.2 in
    plain_is (pl.Gmove (record { start = q; word = a.0; end = z.0 }) x.0 e.0 y.0 c.0) (x.1, y.1) (t.Pragma at q ∷ ts) rest
    (ap (λ l. t.Pragma at q ∷ l) (a.1 ∙ ap (λ l. t.Name (codes "gmove") at a.0 ∷ l) (z.1 ∙ ap (λ l. t.Close at z.0 ∷ l)
    (x.2 ∙ ap (sections x.0) (e.1 ∙ ap (λ l. t.Mark m.Assign at e.0 ∷ l) (y.2 ∙ ap (sections y.0) c.1))))))

names_inside : (ts rest : List Token) → Says (g.parens (part p.names)) ts rest → Of (in_parens names) Fitting ts rest
names_inside ts rest k =
    let v = wrapped m.OpenParen m.CloseParen (part p.names) ts rest k in
    (record { «open» = v.0; item = v.4.0; close = v.1 }, tt, v.3 ∙ ap (λ l. t.Mark m.OpenParen at v.0 ∷ l) v.4.1)

reductions_made : (ts rest : List Token) → Many (Says (part p.reduction)) ts rest → (xs : List Reduction) × Each FitsReduction xs × (ts ≡ each reduction xs rest)
reductions_made ts rest (stop _) = ([], tt, refl)
reductions_made ts rest (more _ mid _ x k) = let b = reductions_made mid rest k in (x.0 ∷ b.0, (x.1, b.1), x.2 ∙ ap (reduction x.0) b.2)

abbrev loop_rule : Rule
loop_rule = g.spelled (codes "loop") · g.optional (is_mark m.OpenParen) (g.parens (part p.names)) · g.spelled (codes "on") · g.name · g.several (part p.place) (part p.place)
    · many (is_spelled (codes "reduction")) (part p.reduction) · g.line_end · part p.for_statement

pub loop_made : (ts rest : List Token) → Says (rule p.loop) ts rest → StatementLine ts rest
loop_made ts rest c = λ q.
    let k = counted loop_rule ts rest c in
    let a = spelled (codes "loop") ts k.0 k.1 in
    let u = optional_made (in_parens names) Fitting (is_mark m.OpenParen) (g.parens (part p.names)) names_inside k.0 k.2.0 k.2.1 in
    let j = k.2.2 in
    let o = spelled (codes "on") k.2.0 j.0 j.1 in
    let n = named j.0 j.2.0 j.2.1 in
    let i = j.2.2 in
    let x = points_made j.2.0 i.0 i.1 in
    let y = reductions_made i.0 i.2.0 i.2.1 in
    let z = closed i.2.0 i.2.2.0 i.2.2.1 in
    let f = i.2.2.2 in
    let l : LoopLine = record { line = record { start = q; word = a.0; end = z.0 }; names = u.0; on = o.0; template = n.0; points = x.0; reductions = y.0 } in
    stmt_is (s.Loop l f.0 f.1) (tr.loop l f.0 (stmt_view f.1)) (seen_loop l f.0 f.1) ((x.1, y.1), f.2, f.3) (t.Pragma at q ∷ ts) rest f.4
    (ap (λ l. t.Pragma at q ∷ l) (a.1 ∙ ap (λ l. t.Name (codes "loop") at a.0 ∷ l) (u.2 ∙ ap (optional (in_parens names) u.0) (o.1 ∙ ap (λ l. t.Name (codes "on") at o.0 ∷ l)
    (n.1 ∙ ap (name n.0) (x.2 ∙ ap (several point point x.0) (y.2 ∙ ap (each reduction y.0) (z.1 ∙ ap (λ l. t.Close at z.0 ∷ l) f.5))))))))

pub task_made : (ts rest : List Token) → Says (rule p.task) ts rest → Task ts rest
task_made ts rest c = λ q.
    let k = counted (g.spelled (codes "task") · g.spelled (codes "on") · part p.set · g.line_end · part p.statement) ts rest c in
    let a = spelled (codes "task") ts k.0 k.1 in
    let o = spelled (codes "on") k.0 k.2.0 k.2.1 in
    let j = k.2.2 in
    let x = j.1 in
    let z = closed j.0 j.2.0 j.2.1 in
    let y = j.2.2 in (
      record { line = record { start = q; word = a.0; end = z.0 }; on = o.0; set = x.0 },
      y.0,
      x.1,
      y.1,
      y.2,
      ap (λ l. t.Pragma at q ∷ l) (a.1 ∙ ap (λ l. t.Name (codes "task") at a.0 ∷ l) (o.1 ∙ ap (λ l. t.Name (codes "on") at o.0 ∷ l) (x.2 ∙ ap (nodes_set x.0) (z.1 ∙ ap (λ l. t.Close at z.0 ∷ l) y.3)))),
    )

task_stmt : (ts rest : List Token) → Task ts rest → StatementLine ts rest
task_stmt ts rest x = λ q. (let y = x q in stmt_is (s.Task y.0 y.1) (tr.task y.0 (stmt_view y.1)) (seen_task y.0 y.1) (y.2, y.3) (t.Pragma at q ∷ ts) rest y.4 y.5)

some_tasks : (ts rest : List Token) → Many (Says (tok plain is_pragma · part p.task)) ts rest → (xs : List (TaskLine × made_stmt.Stmt)) × FitsTasks (tasks_view xs) × (ts ≡ spell_tasks (tasks_view xs) rest)
some_tasks ts rest (stop _) = ([], tt, refl)
some_tasks ts rest (more _ mid _ x k) =
    let q = pragma ts x.0 x.1 in
    let y = x.2 q.0 in
    let b = some_tasks mid rest k in
    ((y.0, y.1) ∷ b.0, (y.2, y.3, b.1), q.1 ∙ y.5 ∙ ap (λ l. task_line y.0 (spell_stmt (stmt_view y.1) l)) b.2)

pub tasks_made : (ts rest : List Token) → Says (rule p.tasks) ts rest → StatementLine ts rest
tasks_made ts rest c = λ q.
    let k = counted (g.spelled (codes "tasks") · g.line_end · g.braces (many is_pragma (tok plain is_pragma · part p.task))) ts rest c in
    let a = spelled (codes "tasks") ts k.0 k.1 in
    let z = closed k.0 k.2.0 k.2.1 in
    let v = wrapped m.OpenBrace m.CloseBrace (many is_pragma (tok plain is_pragma · part p.task)) k.2.0 rest k.2.2 in
    let x = some_tasks v.2 (t.Mark m.CloseBrace at v.1 ∷ rest) v.4 in
    let l : DirectiveLine = record { start = q; word = a.0; end = z.0 } in
    stmt_is (s.Tasks l (record { «open» = v.0; item = x.0; close = v.1 })) (tr.tasks l v.0 (tasks_view x.0) v.1) (seen_tasks l v.0 x.0 v.1) x.1 (t.Pragma at q ∷ ts) rest (never rest)
    (ap (λ l. t.Pragma at q ∷ l) (a.1 ∙ ap (λ l. t.Name (codes "tasks") at a.0 ∷ l) (z.1 ∙ ap (λ l. t.Close at z.0 ∷ l) (v.3 ∙ ap (λ l. t.Mark m.OpenBrace at v.0 ∷ l) x.2))))

-- The part that a word tells.
mapping_word : (G : Part → Type 0) (n : List ℕ) (other : Part) → G p.nodes → G p.template → G p.distribute → G p.align → G p.shadow → G other → G (mapping_named n other)
mapping_word G n other a b c d e o =
    one_of G (same_text (codes "nodes") n) _ _ a (one_of G (same_text (codes "template") n) _ _ b (one_of G (same_text (codes "distribute") n) _ _ c
    (one_of G (same_text (codes "align") n) _ _ d (one_of G (same_text (codes "shadow") n) _ _ e o))))

directive_word : (G : Part → Type 0) (n : List ℕ) → G p.loop → G p.reflect → G p.barrier → G p.bcast → G p.gmove → G p.task → G p.tasks → G p.no_part → G (directive_named n)
directive_word G n a b c d e f h o =
    one_of G (same_text (codes "loop") n) _ _ a (one_of G (same_text (codes "reflect") n) _ _ b (one_of G (same_text (codes "barrier") n) _ _ c
    (one_of G (same_text (codes "bcast") n) _ _ d (one_of G (same_text (codes "gmove") n) _ _ e (one_of G (same_text (codes "task") n) _ _ f (one_of G (same_text (codes "tasks") n) _ _ h o))))))

directive_any : (k : TokenKind) (ts rest : List Token) → Made (directive_of k) ts rest → StatementLine ts rest
directive_any (t.Name n) ts rest = directive_word (λ P. Made P ts rest → StatementLine ts rest) n (λ x. x) (λ x. x) (λ x. x) (λ x. x) (λ x. x) (task_stmt ts rest) (λ x. x) (λ x. absurd x)
directive_any _ ts rest = λ x. absurd x

mapping_any : (k : TokenKind) (ts rest : List Token) → Made (mapping_of k) ts rest → MappingLine ts rest
mapping_any (t.Name n) ts rest = mapping_word (λ P. Made P ts rest → MappingLine ts rest) n p.no_part (λ x. x) (λ x. x) (λ x. x) (λ x. x) (λ x. x) (λ x. absurd x)
mapping_any _ ts rest = λ x. absurd x

line_any : (k : TokenKind) (ts rest : List Token) → Made (line_of k) ts rest → (q : Place) → Item (t.Pragma at q ∷ ts) rest
line_any (t.Name n) ts rest =
    let G : Part → Type 0 = λ P. Made P ts rest → (q : Place) → Item (t.Pragma at q ∷ ts) rest in
    let f : MappingLine ts rest → (q : Place) → Item (t.Pragma at q ∷ ts) rest = λ x q. mapping_item (t.Pragma at q ∷ ts) rest (x q) in
    let h : StatementLine ts rest → (q : Place) → Item (t.Pragma at q ∷ ts) rest = λ x q. statement_item (t.Pragma at q ∷ ts) rest (x q) in
    mapping_word G n (directive_named n) f f f f f (directive_word G n h h h h h (λ x. h (task_stmt ts rest x)) h (λ x. absurd x))
line_any _ ts rest = λ x. absurd x

pub directive_made : (ts rest : List Token) → Says (rule p.directive) ts rest → Statement ts rest
directive_made ts rest k =
    let q = pragma ts k.0 k.1 in
    let x = directive_any k.2.0 k.0 rest k.2.1 q.0 in
    (x.0, x.1, x.2, q.1 ∙ x.3)

pub mapping_made : (ts rest : List Token) → Says (rule p.mapping) ts rest → Of spell_mapping FitsMapping ts rest
mapping_made ts rest k =
    let q = pragma ts k.0 k.1 in
    let x = mapping_any k.2.0 k.0 rest k.2.1 q.0 in
    (x.0, x.1, q.1 ∙ x.2)

pub line_made : (ts rest : List Token) → Says (rule p.line_in_block) ts rest → Item ts rest
line_made ts rest k =
    let q = pragma ts k.0 k.1 in
    let x = line_any k.2.0 k.0 rest k.2.1 q.0 in
    (x.0, x.1, λ xs r e. q.1 ∙ x.2 xs r e)
