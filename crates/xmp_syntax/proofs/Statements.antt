-- Statements that fit are read.
use Rattle.std.proofs.Common.{◌≡◌, ◌≤◌, ◌<◌, ℕ, zero, suc, Bool, true, false, ◌&&◌, ◌==◌, nat_le, List, [], ◌∷◌, refl, sym, ap, ◌∙◌, subst, arith}
use Rattle.std.specs.Prelude.{not, ⊤, Option, None, Some, codes}
use Rattle.xmp_base.specs.declared.place.Place.{Place}
use Rattle.xmp_lex.specs.declared.token.Token.{Token}
use Rattle.xmp_lex.specs.declared.token.TokenKind.TheVariants as t
use Rattle.xmp_lex.specs.declared.token.Mark.{Mark}
use Rattle.xmp_lex.specs.declared.token.Mark.TheVariants as m
use Rattle.xmp_lex.specs.declared.token.Reserved.TheVariants as w
use Rattle.xmp_syntax.specs.declared.parts.Name.{Name}
use Rattle.xmp_syntax.specs.declared.parts.Inside.{Inside}
use Rattle.xmp_syntax.specs.declared.parts.Placed.{Placed}
use Rattle.xmp_syntax.specs.declared.parts.Reference.{Reference}
use Rattle.xmp_syntax.specs.declared.parts.TypeWords.TheVariants as tw
use Rattle.xmp_syntax.specs.declared.parts.TypeWords.{TypeWords}
use Rattle.xmp_syntax.specs.declared.parts.CommaList.{CommaList}
use Rattle.xmp_syntax.specs.declared.expression.Expr as made
use Rattle.xmp_syntax.specs.declared.declaration.Declaration.{Declaration}
use Rattle.xmp_syntax.specs.declared.directive.DirectiveLine.{DirectiveLine}
use Rattle.xmp_syntax.specs.declared.directive.LoopLine.{LoopLine}
use Rattle.xmp_syntax.specs.declared.directive.TaskLine.{TaskLine}
use Rattle.xmp_syntax.specs.declared.directive.Mapping.{Mapping}
use Rattle.xmp_syntax.specs.declared.directive.Mapping.TheVariants as mp
use Rattle.xmp_syntax.specs.declared.statement.Simple.{Simple}
use Rattle.xmp_syntax.specs.declared.statement.Simple.TheVariants as si
use Rattle.xmp_syntax.specs.declared.statement.ForFirst.{ForFirst}
use Rattle.xmp_syntax.specs.declared.statement.ForFirst.TheVariants as ff
use Rattle.xmp_syntax.specs.declared.statement.ForHead.{ForHead}
use Rattle.xmp_syntax.specs.declared.statement.Plain.{Plain}
use Rattle.xmp_syntax.specs.declared.statement.Plain.TheVariants as pl
use Rattle.xmp_syntax.specs.Parts as p
use Rattle.xmp_syntax.specs.Reading.{Effect, plain, operator, separator, opening, closing, enter, leave, Rule, nothing, tok, mark, part, by, ◌·◌, choice, many, Depths}
use Rattle.xmp_syntax.specs.Grammar as g
use Rattle.xmp_syntax.specs.Grammar.{rule, is_mark, is_word, is_assign, is_assign_mark, is_step, is_step_mark, is_spelled, is_pragma, mark_code, mark_binds, statement_of, item_of}
use Rattle.xmp_syntax.specs.Trees as tr
use Rattle.std.proofs.lemmas.Bool.Decides.{nat_tests}
use Rattle.xmp_syntax.specs.Trees.{Stmt, BlockItems, Tasks, Ref, Subscripts, Image, no_more, subscript, no_image, image}
use Rattle.xmp_syntax.specs.View.{expr_view, ref_view, rest_view, call_view, subscripts_view, image_view, arguments_view}
use Rattle.xmp_syntax.specs.Spell.{◌at◌, spell, expr, each, dims, name, names, optional, spell_ref, spell_subscripts, spell_image, spell_simple, for_first, for_head, spell_plain, spell_stmt, spell_items, spell_tasks, spell_mapping, spell_declaration, in_parens, sections, section, reduction, loop_line, task_line, point}
use Rattle.xmp_syntax.specs.Fits.{Fits, FitsRef, FitsExpr, If, FitsSimple, FitsFirst, FitsHead, FitsPlain, FitsStmt, FitsItems, FitsTasks, FitsSet, FitsLoopLine, FitsSomeDims, FitsPoint, FitsReduction, Each, takes_else}
use Rattle.xmp_syntax.proofs.Done.{Next, fast, go, silent, by_part, Is, Not, choice_first, choice_second, many_stop, many_more, skip, take_token}
use Rattle.xmp_syntax.proofs.TokenFacts.{Ends, EndsExpr, ends_paren, not_true}
use Rattle.xmp_syntax.proofs.Exprs.{ExprReads, reads, subscripts_read, image_read, arguments_all, rest_reads, name_reads, name_reads_before, ref_first, not_first, in_parens_reads}
use Rattle.xmp_syntax.proofs.Lists.{NonEmpty, leave_reads, names_read, dims_read}
use Rattle.xmp_syntax.proofs.Lines.{expr_reads, EndsPlain, declaration_reads, mapping_item_reads, set_reads, sections_read, reductions_read}

-- an assignment or a step goes on with no reference
pub assign_ends : (op : Mark) → is_assign_mark op ≡ true → (mark_code m.OpenParen == mark_code op ≡ false) × (mark_code m.OpenBracket == mark_code op ≡ false) × (nat_le 1 (mark_binds op) && nat_le (mark_binds op) 0 ≡ false) × (mark_code m.Colon == mark_code op ≡ false) × (is_step_mark op ≡ false)
assign_ends m.OpenParen h = cc
assign_ends m.OpenBracket h = cc
assign_ends m.Colon h = cc
assign_ends m.Increment h = cc
assign_ends m.Decrement h = cc
assign_ends _ h = (refl, refl, refl, refl, refl)

pub step_ends : (op : Mark) → is_step_mark op ≡ true → (mark_code m.OpenParen == mark_code op ≡ false) × (mark_code m.OpenBracket == mark_code op ≡ false) × (nat_le 1 (mark_binds op) && nat_le (mark_binds op) 0 ≡ false) × (mark_code m.Colon == mark_code op ≡ false)
step_ends m.OpenParen h = cc
step_ends m.OpenBracket h = cc
step_ends m.Colon h = cc
step_ends _ h = (refl, refl, refl, refl)

pub step_statement : (op : Mark) → is_step_mark op ≡ true → (statement_of (t.Mark op) ≡ p.simple_statement) × (item_of (t.Mark op) ≡ p.simple_statement) × (mark_code m.CloseParen == mark_code op ≡ false) × (mark_code m.CloseBrace == mark_code op ≡ false)
step_statement m.Increment h = (refl, refl, refl, refl)
step_statement m.Decrement h = (refl, refl, refl, refl)
step_statement _ h = cc

low_level : (b : ℕ) → nat_le 1 b && nat_le b 10 ≡ false → nat_le 1 b && nat_le b 0 ≡ false
low_level b h = grind (arith, nat_tests)

pub ends_plain : (us : List Token) → EndsPlain us → Ends 0 false us
ends_plain [] e = e.0
ends_plain (x ∷ us) e = (e.0.0, e.0.1, low_level (g.binds x.kind) e.0.2, e.0.3)

-- a reference, behind its name and as a whole
behind_name : (x : Reference made.Expr) → FitsRef (ref_view x) → (K : List Rule) (us : List Token) → Ends 0 false us → Next K us
    → Next (part p.subscripts ∷ part (p.image false) ∷ K) (spell_subscripts (subscripts_view x.subscripts) (spell_image (image_view x.image) us))
behind_name x F K us e n = name_reads (subscripts_view x.subscripts) (image_view x.image) (subscripts_read (subscripts_view x.subscripts) F.0) (image_read (image_view x.image) F.1) false K us e tt n

behind_name_before : (x : Reference made.Expr) → FitsRef (ref_view x) → (r : Rule) (K : List Rule) (us : List Token) → Ends 0 false us → Next (r ∷ K) us
    → Next (part p.subscripts ∷ (part (p.image false) · r) ∷ K) (spell_subscripts (subscripts_view x.subscripts) (spell_image (image_view x.image) us))
behind_name_before x F r K us e n =
    name_reads_before (subscripts_view x.subscripts) (image_view x.image) (subscripts_read (subscripts_view x.subscripts) F.0) (image_read (image_view x.image) F.1) r K us e n

pub reference_reads : (x : Reference made.Expr) → FitsRef (ref_view x) → (K : List Rule) (us : List Token) → Ends 0 false us → Next K us → Next (part (p.reference false) ∷ K) (spell_ref (ref_view x) us)
reference_reads x F K us e n = fast 3 (λ E. go (silent 1 (λ E x xs. refl) (behind_name x F K us e n)))

pub no_call : (x : Reference made.Expr) (us : List Token) → Ends 0 false us → Not (is_mark m.OpenParen) (spell_subscripts (subscripts_view x.subscripts) (spell_image (image_view x.image) us))
no_call x us e = ref_first (subscripts_view x.subscripts) (image_view x.image) us (ends_paren 0 false us e)

pub simple_reads : (x : Simple) → FitsSimple x → (K : List Rule) (us : List Token) → EndsPlain us → Next K us → Next (part p.simple ∷ K) (spell_simple x us)
simple_reads (si.Assign x op e) F K us en n =
    let a = assign_ends op.what F.1 in
    let r : List Token = t.Mark op.what at op.at ∷ expr e us in
    let z : Ends 0 false r = (a.0, a.1, a.2, a.3) in
    fast 4 (λ E. go (choice_second (is_mark m.OpenParen) _ _ K _ (no_call x r z) (silent 1 (λ E x xs. refl) (behind_name_before x F.0 _ K r z
    (choice_second is_step _ _ K r a.4 (silent 1 (λ E x xs. refl) (take_token plain is_assign _ _ _ F.1 ((expr_reads e F.2).all false K us en tt n))))))))
simple_reads (si.Postfix x op) F K us en n =
    let a = step_ends op.what F.1 in
    let r : List Token = t.Mark op.what at op.at ∷ us in
    fast 4 (λ E. go (choice_second (is_mark m.OpenParen) _ _ K _ (no_call x r a) (silent 1 (λ E x xs. refl) (behind_name_before x F.0 _ K r a
    (choice_first is_step _ _ K r F.1 (take_token plain is_step _ _ _ F.1 n))))))
simple_reads (si.Prefix op x) F K us en n =
    fast 1 (λ E. go (choice_first is_step _ _ K _ F.0 (silent 1 (λ E x xs. refl) (take_token plain is_step _ _ _ F.0 (reference_reads x F.1 K us (ends_plain us en) n)))))
simple_reads (si.Call x) F K us en n = fast 5 (λ E. go ((arguments_all (arguments_view x.arguments.item) F).all K x.arguments.open x.arguments.close us n))

-- The parts of a for.
first_reads : (x : Option ForFirst) → If FitsFirst x → (K : List Rule) (q : Place) (us : List Token) → Next K (t.Mark m.Semicolon at q ∷ us)
    → Next (g.optional (λ k. not (is_mark m.Semicolon k)) (part p.for_first) ∷ K) (optional for_first x (t.Mark m.Semicolon at q ∷ us))
first_reads None F K q us n = fast 2 (λ E. go n)
first_reads (Some (ff.Assign x r e)) F K q us n = fast 4 (λ E. go (reference_reads x F.0 _ (t.Mark m.Assign at r ∷ expr e (t.Mark m.Semicolon at q ∷ us)) (refl, refl, refl, refl)
    (fast 2 (λ E. go ((expr_reads e F.1).all false K (t.Mark m.Semicolon at q ∷ us) ((refl, refl, refl, refl), refl) tt n)))))
first_reads (Some (ff.Declare y v r e)) F K q us n = fast 9 (λ E. go ((expr_reads e F).all false K (t.Mark m.Semicolon at q ∷ us) ((refl, refl, refl, refl), refl) tt n))

test_reads : (x : Option made.Expr) → If FitsExpr x → (K : List Rule) (q : Place) (us : List Token) → Next K (t.Mark m.Semicolon at q ∷ us)
    → Next (g.optional (λ k. not (is_mark m.Semicolon k)) g.expr ∷ K) (optional expr x (t.Mark m.Semicolon at q ∷ us))
test_reads None F K q us n = fast 2 (λ E. go n)
test_reads (Some e) F K q us n =
    let r : List Token = t.Mark m.Semicolon at q ∷ us in
    choice_first (λ k. not (is_mark m.Semicolon k)) g.expr nothing K (expr e r) (not_true (is_mark m.Semicolon) (expr e r) (not_first m.Semicolon (expr_view e) F r refl))
    ((expr_reads e F).all false K r ((refl, refl, refl, refl), refl) tt n)

simple_first : (x : Simple) → FitsSimple x → (r : List Token) → Is (λ k. not (is_mark m.CloseParen k)) (spell_simple x r)
simple_first (si.Assign x op e) F r = refl
simple_first (si.Postfix x op) F r = refl
simple_first (si.Prefix op x) F r = ap not (step_statement op.what F.0).2
simple_first (si.Call x) F r = refl

next_reads : (x : Option Simple) → If FitsSimple x → (K : List Rule) (q : Place) (us : List Token) → Next K (t.Mark m.CloseParen at q ∷ us)
    → Next (g.optional (λ k. not (is_mark m.CloseParen k)) (part p.simple) ∷ K) (optional spell_simple x (t.Mark m.CloseParen at q ∷ us))
next_reads None F K q us n = fast 2 (λ E. go n)
next_reads (Some x) F K q us n =
    let r : List Token = t.Mark m.CloseParen at q ∷ us in
    choice_first (λ k. not (is_mark m.CloseParen k)) (part p.simple) nothing K (spell_simple x r) (simple_first x F r) (simple_reads x F K r ((refl, refl, refl, refl), refl) n)

-- a for, before its statement; `K` is what follows the whole
pub for_reads : (x : ForHead) → FitsHead x → (K : List Rule) (us : List Token) → Next (part p.statement ∷ mark leave ∷ K) us → Next (rule p.for_statement ∷ K) (for_head x us)
for_reads x F K us n =
    let c : List Token = t.Mark m.CloseParen at x.close ∷ us in
    let b : List Token = t.Mark m.Semicolon at x.test_end ∷ optional spell_simple x.next c in
    let body : Next (tok closing (is_mark m.CloseParen) ∷ part p.statement ∷ mark leave ∷ K) c = fast 1 (λ E. go n) in
    let third = next_reads x.next F.2 _ x.close us body in
    fast 8 (λ E. go (silent 2 (λ E x xs. refl) (first_reads x.first F.0 _ x.first_end (optional expr x.test b)
    (fast 2 (λ E. go (silent 1 (λ E x xs. refl) (test_reads x.test F.1 _ x.test_end (optional spell_simple x.next c) (fast 2 (λ E. go third)))))))))

-- In a block and elsewhere.
pub record Both (K : List Rule) (ts : List Token) : Type 0 where
  pub stmt : Next (part p.statement ∷ K) ts
  pub item : Next (part p.block_item ∷ K) ts

-- the rest of the lines of directives with no statement, from the word on
pub reflect_reads : (l : DirectiveLine) (x : Inside (CommaList Name)) (K : List Rule) (us : List Token) → Next K us
    → Next (rule p.reflect ∷ K) (t.Name (codes "reflect") at l.word ∷ in_parens names x (t.Close at l.end ∷ us))
reflect_reads l x K us n = fast 5 (λ E. go (silent 1 (λ E x xs. refl) (names_read x.item _ (t.Mark m.CloseParen at x.close ∷ t.Close at l.end ∷ us) refl (fast 2 (λ E. go n)))))
